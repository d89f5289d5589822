use Rattle.std.proofs.Common.{◌≡◌, ◌∙◌, Bool, List, false, ap, sym, subst, arith}
use Rattle.std.specs.Prelude.{slice_index_or}
use Rattle.sim_values.specs.Order.{IsMarked}
use Rattle.sim_layout.specs.Running.{choice_of}
use Rattle.sim_events.specs.Events.{AreFlagged, AreOrdered, IsSettling}
use Rattle.sim_events.proofs.Flags.{flagged_block, marked_within}
use Rattle.sim_events.proofs.PendingSteps.{settling_skip}
use Rattle.sim_events.proofs.pending.take_block.Goals as goal
use Rattle.sim_events.proofs.pending.take_block.Goals.{then-is_marked, else-is_marked}

pub take-requires-clause-marked : goal.take-requires-clause-marked
take-requires-clause-marked c = ap (λ (m : List Bool). slice_index_or m c.loop-number.number false) (sym c.as_slice.ensures.value) ∙ sym c.is_marked.ensures ∙ c.if-is_marked.true

pub take-requires-clause-number : goal.take-requires-clause-number
take-requires-clause-number c =
    let is : IsMarked c.loop-number.pending.steps.items c.loop-number.number =
    ap (λ (m : List Bool). slice_index_or m c.loop-number.number false) (sym c.as_slice.ensures.value) ∙ sym c.is_marked.ensures ∙ c.if-is_marked.true in
    let within = marked_within c.loop-number.pending.steps.items c.loop-number.number is in
    let count = c.loop-number.invariant.count in
    omega (arith, within, count)

pub take-requires-clause-ordered : goal.take-requires-clause-ordered
take-requires-clause-ordered c = subst (λ n. AreOrdered c.args.modules.now c.args.steps.now n) (sym c.loop-number.invariant.long) c.requires.ordered

pub loop-number-preserved : goal.loop-number-preserved
loop-number-preserved c =
    let clear : c.is_marked.result ≡ false → slice_index_or c.loop-number.pending.steps.items c.loop-number.number false ≡ false =
    λ e. ap (λ (m : List Bool). slice_index_or m c.loop-number.number false) (sym c.as_slice.ensures.value) ∙ sym c.is_marked.ensures ∙ e in
    elim c.if-is_marked.branch [
      | then-is_marked w ↦
          rw w.numbers-is
          (rw w.pending-is
          (record {
            long = w.take.ensures.long ∙ c.loop-number.invariant.long;
            count = w.take.ensures.count;
            settling = λ first is. w.take.ensures.settling first (c.loop-number.invariant.settling first is);
            flagged = w.take.ensures.flagged;
          }))
      | else-is_marked w ↦
          rw w.numbers-is
          (rw w.pending-is
          (record {
            long = c.loop-number.invariant.long;
            count = c.loop-number.invariant.count;
            settling = λ first is.
                settling_skip c.args.modules.now c.args.steps.now c.args.fanout.now.starts.items c.args.fanout.now.steps.items (choice_of c.args.choice.now) c.args.words.now c.args.starts.now first
                c.loop-number.number c.loop-number.numbers c.loop-number.pending.steps.items (clear w.if-is_marked.false) (c.loop-number.invariant.settling first is);
            flagged = c.loop-number.invariant.flagged;
          }))
    ]

pub returns-clause-long : goal.returns-clause-long
returns-clause-long c = c.loop-number.invariant.long

pub returns-clause-count : goal.returns-clause-count
returns-clause-count c = c.loop-number.invariant.count

pub returns-clause-settling : goal.returns-clause-settling
returns-clause-settling c = λ first is.
    subst (λ n. IsSettling c.args.modules.now c.args.steps.now (choice_of c.args.choice.now) c.args.words.now c.args.starts.now c.args.fanout.now.starts.items c.args.fanout.now.steps.items first n
    c.loop-number.numbers c.loop-number.pending.steps.items) (omega arith) (c.loop-number.invariant.settling first is)

pub returns-clause-flagged : goal.returns-clause-flagged
returns-clause-flagged c =
    let pending = c.loop-number.pending in
    subst (λ (b : List Bool). AreFlagged pending.steps.items b) (sym c.set_mark.ensures)
    (flagged_block pending.steps.items pending.blocks.items c.loop-number.invariant.flagged c.args.block c.any_marked-left.result
    (λ no k from to. ap (λ (m : List Bool). slice_index_or m k false) (sym c.as_slice-2.ensures.value) ∙ c.any_marked-left.ensures no k (omega (arith, from)) (omega (arith, to))))
