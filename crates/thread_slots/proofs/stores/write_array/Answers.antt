use Rattle.std.proofs.Common.{◌≡◌, ◌∙◌, List, Some, None, sym, ap, subst}
use Rattle.std.specs.Option.{option_copied}
use Rattle.hls_ints.specs.Types.{IntegerType}
use Rattle.operator_wires.proofs.PutSignals.{grows_then}
use Rattle.block_datapath.specs.Seen.{ShowsOperand}
use Rattle.thread_slots.proofs.PutStores.{puts_write, puts_missing}
use Rattle.std.specs.Prelude.{slice_get}
use Rattle.std.proofs.lemmas.Result.{on_ok_weaker}
use Rattle.thread_slots.proofs.Between.{operands_wired}
use Rattle.thread_slots.proofs.StandingStores.{stores_kept, written_wired}
use Rattle.thread_slots.proofs.stores.write_array.Goals as goal

pub returns-in-Some-clause-wired : goal.returns-in-Some-clause-wired
returns-in-Some-clause-wired c =
    let listed : slice_get c.args.code.now.arrays c.args.array ≡ Some c.in-Some.own.now = sym c.get.ensures.value ∙ ap option_copied c.in-Some.is in
    written_wired c.put.result c.args.wires.now.signals c.operand_word.new.wires.signals c.operand_word-2.new.wires.signals c.put.new.wires.signals c.args.code.now
    c.args.registers.now
    c.args.values.now c.as_slice-types.result.now c.args.array c.in-Some.own.now _ _ c.in_ok-index.index c.in_ok-value.value c.args.moment c.args.stores.now c.put.new.stores
    c.as_slice-types.ensures
    listed c.in_ok-index.ensures.wired c.in_ok-value.ensures.wired
    c.put.ensures.wired

pub returns-in-None-clause-wired : goal.returns-in-None-clause-wired
returns-in-None-clause-wired c = λ base slots values bit few.
    stores_kept base c.args.wires.now.signals c.operand_word-2.new.wires.signals c.args.stores.now
    (operands_wired base c.args.wires.now.signals c.operand_word.new.wires.signals c.operand_word-2.new.wires.signals c.args.code.now c.args.registers.now c.args.values.now
    c.as_slice-types.result.now _ _ _ _ c.as_slice-types.ensures slots values (c.in_ok-index.ensures.wired base) (c.in_ok-value.ensures.wired base))

pub returns-in-Some-clause-puts : goal.returns-in-Some-clause-puts
returns-in-Some-clause-puts c =
    let listed : slice_get c.args.code.now.arrays c.args.array ≡ Some c.in-Some.own.now = sym c.get.ensures.value ∙ ap option_copied c.in-Some.is in
    on_ok_weaker c.put.result
    (λ t n.
    puts_write c.args.wires.now.signals c.operand_word.new.wires.signals c.operand_word-2.new.wires.signals c.put.new.wires.signals c.args.registers.now c.args.moment
    c.args.stores.now
    c.put.new.stores c.args.code.now c.args.values.now c.args.array c.in-Some.own.now c.args.index.now c.args.value.now c.in_ok-index.index c.in_ok-value.value
    listed
    (subst (λ (ts : List IntegerType). ShowsOperand c.args.wires.now.signals c.operand_word.new.wires.signals c.args.registers.now ts c.args.values.now c.args.moment.state
    c.args.index.now
    c.in_ok-index.index) c.as_slice-types.ensures c.in_ok-index.ensures.shows)
    (subst (λ (ts : List IntegerType). ShowsOperand c.operand_word.new.wires.signals c.operand_word-2.new.wires.signals c.args.registers.now ts c.args.values.now
    c.args.moment.state c.args.value.now
    c.in_ok-value.value) c.as_slice-types.ensures c.in_ok-value.ensures.shows) t n)
    c.put.ensures.puts

pub returns-in-None-clause-puts : goal.returns-in-None-clause-puts
returns-in-None-clause-puts c = λ n.
    let none : slice_get c.args.code.now.arrays c.args.array ≡ None = sym c.get.ensures.value ∙ ap option_copied c.in-None.is in
    puts_missing c.args.wires.now.signals c.operand_word-2.new.wires.signals c.args.registers.now c.args.moment c.args.stores.now c.args.code.now c.args.values.now c.args.array n
    c.args.index.now
    c.args.value.now
    (grows_then c.args.wires.now.signals c.operand_word.new.wires.signals c.operand_word-2.new.wires.signals c.in_ok-index.ensures.shows.grows c.in_ok-value.ensures.shows.grows)
    none
