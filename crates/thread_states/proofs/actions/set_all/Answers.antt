use Rattle.std.proofs.Common.{Some, None, sym, ◌∙◌, append-nil}
use Rattle.std.proofs.lemmas.Option.{slice_get-get_or}
use Rattle.block_datapath.specs.declared.registers.Held.{Held}
use Rattle.thread_states.proofs.LeftStates.{sets_more}
use Rattle.thread_states.proofs.actions.set_all.Goals as goal
use Rattle.thread_states.proofs.actions.set_all.Goals.{in-Some+in_ok-set_if, in_default}

pub loop-number-preserved : goal.loop-number-preserved
loop-number-preserved c =
    let none : Held = record { register = 0; width = 0 } in
    elim c.match-copied.branch [
      | in-Some+in_ok-set_if w ↦
          sets_more c.args.actions.now c.loop-number.actions _ c.args.condition c.loop-number.number c.args.nexts.now c.args.registers.now _ (Some w.in-Some.next)
          c.loop-number.invariant
          (slice_get-get_or c.args.registers.now c.loop-number.number _ c.loop-number-test.true) (sym w.in-Some.is ∙ c.copied.ensures ∙ c.at.ensures)
          (w.actions-is ∙ w.in_ok-set_if.ensures)
      | in_default w ↦
          sets_more c.args.actions.now c.loop-number.actions _ c.args.condition c.loop-number.number c.args.nexts.now c.args.registers.now _ None c.loop-number.invariant
          (slice_get-get_or c.args.registers.now c.loop-number.number none c.loop-number-test.true) (sym w.in_default.is ∙ c.copied.ensures ∙ c.at.ensures)
          (w.actions-is ∙ sym (append-nil c.loop-number.actions))
    ]
