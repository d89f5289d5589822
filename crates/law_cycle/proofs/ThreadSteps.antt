-- THREAD STEPS, and THREAD IS DONE.
use Rattle.std.specs.Prelude.{false, nat_eq}
use Rattle.std.proofs.Common.{sym, ap, ◌∙◌}
use Rattle.leaf_machine.specs.Leaves.{leaf_thread}
use Rattle.leaf_machine.proofs.Leaves.{leaf_keeps_slots, slot_bit_is}
use Rattle.law_cycle.specs.Thread.{rest, cores}
use Rattle.law_cycle.specs.Steps.{ThreadSteps, ThreadIsDone}
use Rattle.law_cycle.proofs.SlotStands.{shows_of, where_on}
use Rattle.law_cycle.proofs.ThreadMoves.{thread_moves}
use Rattle.law_cycle.proofs.ThreadAsks.{thread_asks}
use Rattle.law_cycle.proofs.GrantedAccesses.{same_bit}

pub thread_steps : ThreadSteps
thread_steps t inputs s enabled granted news memory q is leaf slot fits told stands =
    let keeps = leaf_keeps_slots t.body inputs t.leaf (cores t) t.parts t.told leaf in
    let through = keeps.through s enabled granted news slot fits in
    let move = thread_moves t s through.0 enabled granted news memory q is through.1 told stands in
    record {
      next = move.next;
      asks = thread_asks t s through.0 enabled granted news q is through.1 stands;
      moved = move.moved;
      fits = keeps.keeps s enabled granted news slot;
      stands = move.stands;
    }

pub thread_is_done : ThreadIsDone
thread_is_done t inputs s news q is leaf bit slot fits stands =
    let through = (leaf_keeps_slots t.body inputs t.leaf (cores t) t.parts t.told leaf).through s false (λ k. false) news slot fits in
    let r = through.0 in
    let go = through.1 in
    let shown = shows_of t is r q (where_on t is s r q go.shown stands.at) in
    let told = slot_bit_is t.body inputs t.leaf (cores t) t.parts t.told leaf t.leaf.done bit r s go.obeys go.shown in
    same_bit ((leaf_thread t.body t.leaf).is_done s) (nat_eq q.stage (rest t)) (sym told ∙ ap r.signal (sym is.ports.done) ∙ is.runs.done r q go.obeys shown)
