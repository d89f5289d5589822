use Rattle.std.proofs.Common.{◌≡◌, ◌+◌, ◌∙◌, ◌++◌, [], ◌∷◌, List, length, take, slice_get, Some, sym, ap, subst, arith}
use Rattle.std.proofs.lemmas.List.{take_more}
use Rattle.block_ir.specs.declared.block.Final.{Final}
use Rattle.block_datapath.proofs.OperationValues.{item_is}
use Rattle.loop_datapath.specs.declared.times.RoundPhase.{RoundPhase}
use Rattle.loop_datapath.proofs.LoopFinals.{SetsSome, some_none, some_more, all_set, final_unlinked, links_more, all_linked}
use Rattle.loop_datapath.proofs.leaving_loop.set_loop_finals.Goals as goal

pub loop-last-init : goal.loop-last-init
loop-last-init c =
    let at : RoundPhase = record { begun = c.saturating_sub.result; phase = c.saturating_sub-2.result } in (
      some_none c.args.code.now c.args.registers.now c.args.turn.now c.args.times.now c.args.words.now at c.in_ok-ends.ends c.args.turn.now.finals c.both.new.self.signals
          c.args.variables.now,
      final_unlinked c.args.code.now.variables c.args.registers.now c.args.words.now c.both.new.self.signals c.in_ok-ends.ends c.args.variables.now,
    )

pub loop-last-preserved : goal.loop-last-preserved
loop-last-preserved c =
    let at : RoundPhase = record { begun = c.saturating_sub.result; phase = c.saturating_sub-2.result } in
    let items = c.as_slice-last-items.result.now in
    let i = c.loop-last.last-index in
    let f = c.last-item.result in
    let listed : slice_get c.args.turn.now.finals i ≡ Some f =
    item_is items c.args.turn.now.finals i f c.loop-last-test.true c.last-item.is c.as_slice-last-items.ensures in
    let one_more : take (i + 1) items ≡ take i items ++ f ∷ [] = take_more items i f c.loop-last-test.true ∙ ap (λ k. take i items ++ k ∷ []) (sym c.last-item.is) in
    let longer = subst (λ (fs : List Final). take (i + 1) fs ≡ take i fs ++ f ∷ []) c.as_slice-last-items.ensures one_more in (
      some_more c.args.code.now c.args.registers.now c.args.turn.now c.args.times.now c.args.words.now at c.in_ok-ends.ends c.args.turn.now.finals c.both.new.self.signals
          c.loop-last.wires.signals c.set_loop_final.new.wires.signals c.args.variables.now c.loop-last.variables c.set_loop_final.new.variables i f listed longer
          c.loop-last.invariant.0 c.in_ok-set_loop_final.ensures.shows,
      links_more c.args.code.now.variables c.args.registers.now c.args.words.now c.both.new.self.signals c.loop-last.wires.signals c.set_loop_final.new.wires.signals
          c.in_ok-ends.ends c.args.variables.now c.loop-last.variables c.set_loop_final.new.variables c.loop-last.invariant.1 c.in_ok-set_loop_final.ensures.wired,
    )

pub returns-clause-shows : goal.returns-clause-shows
returns-clause-shows c =
    let at : RoundPhase = record { begun = c.saturating_sub.result; phase = c.saturating_sub-2.result } in
    let i = c.loop-last.last-index in
    let done : i ≡ length c.args.turn.now.finals =
    (let e : i ≡ length c.as_slice-last-items.result.now = omega (arith, c.loop-last-test.false, c.loop-last.auto.last-index-end) in e)
    ∙ ap (λ (fs : List Final). length fs) c.as_slice-last-items.ensures in
    all_set c.args.code.now c.args.registers.now c.args.turn.now c.args.times.now c.args.words.now at c.in_ok-ends.ends c.args.turn.now.finals c.args.wires.now.signals
    c.both.new.self.signals c.loop-last.wires.signals c.args.bits.now c.args.end c.args.variables.now c.loop-last.variables (length c.args.turn.now.finals)
    c.saturating_sub.ensures c.saturating_sub-2.ensures c.in_ok-ends.ensures.shows
    (subst (λ n. SetsSome c.both.new.self.signals c.loop-last.wires.signals c.args.code.now c.args.registers.now c.args.turn.now c.args.times.now c.args.words.now at
    c.in_ok-ends.ends c.args.variables.now c.loop-last.variables c.args.turn.now.finals n) done c.loop-last.invariant.0)

pub returns-clause-wired : goal.returns-clause-wired
returns-clause-wired c =
    all_linked c.args.code.now.variables c.args.registers.now c.args.words.now c.args.wires.now.signals c.both.new.self.signals c.loop-last.wires.signals c.args.bits.now.is_last
    c.args.end c.in_ok-ends.ends c.args.variables.now c.loop-last.variables c.in_ok-ends.ensures.wired c.loop-last.invariant.1
