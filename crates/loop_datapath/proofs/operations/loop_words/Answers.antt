use Rattle.std.proofs.Common.{◌≡◌, ◌+◌, ◌∙◌, List, slice_get, Some, sym, ap, subst}
use Rattle.hls_ints.specs.Types.{IntegerType, width_of}
use Rattle.operator_wires.specs.declared.words.Word.{Word}
use Rattle.thread_promise.specs.Types.{value_type}
use Rattle.block_datapath.proofs.OperationValues.{item_is}
use Rattle.loop_datapath.specs.Operations.{ShowsWords}
use Rattle.loop_datapath.specs.Wired.{IsOperationIn, AreWordsAdded}
use Rattle.loop_datapath.proofs.LoopValues.{words_none, words_more, next_same}
use Rattle.loop_datapath.proofs.RoundWires.{wired_none, wired_more}
use Rattle.loop_datapath.proofs.operations.loop_words.Goals as goal

pub loop-operation-init : goal.loop-operation-init
loop-operation-init c =
    let none = sym c.new-words.ensures in
    let globals = c.args.globals.now in
    let code = c.args.code.now in
    let registers = c.args.registers.now in
    let turn = c.args.turn.now in
    let times = c.args.times.now in
    let rounds = c.args.rounds.now in
    let a = c.args.wires.now.signals in (
      subst (λ (words : List Word). ShowsWords globals code registers turn times rounds a a 0 words) none (words_none globals code registers turn times rounds a),
      subst (λ (words : List Word). AreWordsAdded a a code registers rounds times.stages words) none (wired_none a code registers rounds times.stages),
    )

pub loop-operation-preserved : goal.loop-operation-preserved
loop-operation-preserved c =
    let globals = c.args.globals.now in
    let code = c.args.code.now in
    let registers = c.args.registers.now in
    let turn = c.args.turn.now in
    let times = c.args.times.now in
    let rounds = c.args.rounds.now in
    let first = c.args.wires.now.signals in
    let old = c.loop-operation.wires.signals in
    let new = c.operation_in.new.wires.signals in
    let words = c.loop-operation.words in
    let i = c.loop-operation.operation-index in
    let o = c.operation-item.result in
    let listed : slice_get turn.operations i ≡ Some o =
    item_is c.as_slice-operation-items.result.now turn.operations i o c.loop-operation-test.true c.operation-item.is c.as_slice-operation-items.ensures in
    let wide = c.of_type.ensures.width ∙ ap width_of c.value_type-ty.ensures in
    let sign = c.of_type.ensures.signed ∙ ap (λ (ty : IntegerType). ty.signed) c.value_type-ty.ensures in
    let pushed = sym c.in_ok-push.ensures.ok in (
      subst (λ (ws : List Word). ShowsWords globals code registers turn times rounds first new (i + 1) ws) pushed
          (words_more globals code registers turn times rounds first old new words i o c.in_ok-word.word c.of_type.result c.loop-operation.invariant.0 listed
          (next_same globals code registers turn times rounds old new words c.as_slice.result.now i c.len.result c.time_at-time.result o c.in_ok-word.word c.as_slice.ensures
          (c.len.ensures ∙ c.loop-operation.invariant.0.count) c.time_at-time.ensures c.in_ok-word.ensures.shows) c.of_type.ensures.place wide sign),
      subst (λ (ws : List Word). AreWordsAdded first new code registers rounds times.stages ws) pushed
          (wired_more first old new code registers rounds times.stages words c.in_ok-word.word c.of_type.result (value_type globals code o) c.loop-operation.invariant.1
          (subst (λ (ws : List Word). IsOperationIn old new code registers ws rounds times.stages (value_type globals code o) c.in_ok-word.word) c.as_slice.ensures
          c.in_ok-word.ensures.wired) c.of_type.ensures.place wide sign),
    )
