use Rattle.std.specs.Prelude.{ℕ, ◌≤◌, vec_capacity}
use Rattle.std.proofs.Common.{subst}
use Rattle.grant_journal.proofs.BoardKept.{keeps_none}
use Rattle.grant_journal.proofs.board.Board.open.Goals as goal

pub invariant_of-result : goal.invariant_of-result
invariant_of-result g c = (
  c.requires.entries,
  keeps_none g.J.Case.modules g.J.Case.threads g.J.Case.most g.J.Case.layout c.args.first c.in_ok-journal.journal.items (vec_capacity c.in_ok-journal.journal) c.new.result
      c.requires.frame c.requires.net c.requires.begins c.in_ok-journal.ensures.items c.new.ensures
      (subst (λ (n : ℕ). n ≤ vec_capacity c.in_ok-journal.journal) c.requires.entries c.in_ok-journal.ensures.capacity),
)
