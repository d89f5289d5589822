use Rattle.std.proofs.Common.{◌≡◌, ◌∷◌, rules}
use Rattle.std.specs.Prelude.{slice_index}
use Rattle.run_check.specs.Objects.{write_at, read_at}
use Rattle.run_check.specs.Shadow.{IsUnordered}
use Rattle.run_check.proofs.LastAccesses.{in_others}
use Rattle.run_check.proofs.elements.+are_ordered.Goals as goal

pub returns-then-is_ordered-clause-unordered : goal.returns-then-is_ordered-clause-unordered
returns-then-is_ordered-clause-unordered t c e =
    let all : c.args.accesses.now ≡ c.in-Some.access.now ∷ c.in-Some.rest.now = search rules in
    in_others (IsUnordered (write_at c.args.elements.now) (read_at c.args.elements.now) (slice_index c.args.clock.now)) c.in-Some.access.now c.in-Some.rest.now
    c.args.accesses.now all (c.are_ordered.ensures.unordered e)
