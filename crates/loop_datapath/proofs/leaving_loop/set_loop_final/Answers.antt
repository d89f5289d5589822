use Rattle.std.proofs.Common.{◌∙◌, List, sym, subst}
use Rattle.std.proofs.lemmas.Result.{on_ok_weaker}
use Rattle.hls_ints.specs.Types.{IntegerType}
use Rattle.thread_promise.specs.Types.{operand_type}
use Rattle.loop_datapath.specs.Wired.{SetsFinalLinks}
use Rattle.loop_datapath.proofs.LoopFinals.{final_set, final_unset, final_linked, final_unlinked}
use Rattle.loop_datapath.proofs.leaving_loop.set_loop_final.Goals as goal

pub returns-clause-shows : goal.returns-clause-shows
returns-clause-shows c =
    on_ok_weaker c.set_next.result
    (λ t.
    final_set c.args.code.now c.args.registers.now c.args.turn.now c.args.times.now c.args.words.now c.as_slice-types.result.now c.as_slice-types.ensures c.args.at c.args.ends
    c.args.last.now c.args.wires.now.signals c.operand_ahead.new.wires.signals c.converted.new.self.signals c.set_next.new.wires.signals c.args.variables.now c.set_next.new.nexts
    c.in-Some.ty c.in_ok-word.word c.in_ok-own.own (sym c.type_at.ensures ∙ c.in-Some.is) c.in_ok-word.ensures.shows c.in_ok-own.ensures.shows t)
    c.set_next.ensures.shows

pub returns-clause-wired : goal.returns-clause-wired
returns-clause-wired c =
    on_ok_weaker c.set_next.result
    (λ t.
    subst (λ (types : List IntegerType). SetsFinalLinks c.args.wires.now.signals c.set_next.new.wires.signals types c.args.registers.now c.args.words.now c.args.ends c.args.ends
    c.args.variables.now c.set_next.new.nexts) c.as_slice-types.ensures
    (final_linked c.as_slice-types.result.now c.args.registers.now c.args.words.now c.args.wires.now.signals c.operand_ahead.new.wires.signals c.converted.new.self.signals
    c.set_next.new.wires.signals c.args.ends c.args.last.now.variable c.args.variables.now c.set_next.new.nexts (operand_type c.args.last.now.value) c.in-Some.ty c.in_ok-word.word
    c.in_ok-own.own (sym c.type_at.ensures ∙ c.in-Some.is) c.in_ok-word.ensures.wired c.in_ok-own.ensures.wired t))
    c.set_next.ensures.wired

pub returns-in_default-clause-shows : goal.returns-in_default-clause-shows
returns-in_default-clause-shows c =
    final_unset c.args.code.now c.args.registers.now c.args.turn.now c.args.times.now c.args.words.now c.as_slice-types.result.now c.as_slice-types.ensures c.args.at c.args.ends
    c.args.last.now c.args.wires.now.signals c.args.variables.now (sym c.type_at.ensures ∙ c.in_default.is)

pub returns-in_default-clause-wired : goal.returns-in_default-clause-wired
returns-in_default-clause-wired c =
    final_unlinked c.args.code.now.variables c.args.registers.now c.args.words.now c.args.wires.now.signals c.args.ends c.args.variables.now
