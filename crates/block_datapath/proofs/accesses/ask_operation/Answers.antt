use Rattle.std.proofs.Common.{refl, sym, subst}
use Rattle.std.proofs.lemmas.Result.{on_ok_weaker}
use Rattle.block_ir.specs.declared.block.Operation.{Operation}
use Rattle.block_datapath.specs.Accesses.{AsksOperation}
use Rattle.block_datapath.proofs.AskedByAccesses.{others_asked, silent_linked}
use Rattle.block_datapath.proofs.accesses.ask_operation.Goals as goal

pub returns-in-ReadGlobal-clause-shows : goal.returns-in-ReadGlobal-clause-shows
returns-in-ReadGlobal-clause-shows c =
    on_ok_weaker c.ask_read.result
    (λ t.
    subst (λ (o : Operation). AsksOperation c.args.wires.now.signals c.ask_read.new.wires.signals c.args.registers.now c.args.code.now.variables c.args.values.now c.args.chains.now
    c.ask_read.new.chains c.args.globals.now c.args.spreads.now c.args.moment o)
    (sym c.in-ReadGlobal.is) (t c.in-ReadGlobal.length))
    c.ask_read.ensures.shows

pub returns-in-WriteGlobal-clause-shows : goal.returns-in-WriteGlobal-clause-shows
returns-in-WriteGlobal-clause-shows c =
    on_ok_weaker c.ask_write.result
    (λ t.
    subst (λ (o : Operation). AsksOperation c.args.wires.now.signals c.ask_write.new.wires.signals c.args.registers.now c.args.code.now.variables c.args.values.now
    c.args.chains.now
    c.ask_write.new.chains c.args.globals.now c.args.spreads.now c.args.moment o)
    (sym c.in-WriteGlobal.is) (t c.in-WriteGlobal.length))
    c.ask_write.ensures.shows

pub returns-in_default-clause-shows : goal.returns-in_default-clause-shows
returns-in_default-clause-shows c =
    others_asked c.args.registers.now c.args.code.now.variables c.args.values.now c.args.chains.now c.args.chains.now c.args.moment c.args.globals.now c.args.spreads.now
    c.args.wires.now.signals
    c.args.operation.now refl c.in_default.not-ReadGlobal c.in_default.not-WriteGlobal

pub returns-in_default-clause-wired : goal.returns-in_default-clause-wired
returns-in_default-clause-wired c =
    silent_linked c.args.registers.now c.args.code.now.variables c.args.values.now c.args.chains.now c.args.chains.now c.args.moment c.args.globals.now c.args.spreads.now
    c.args.wires.now.signals refl
