use Rattle.std.proofs.Common.{Option, refl, sym, subst}
use Rattle.std.specs.Prelude.{OnOk}
use Rattle.bank_partition.specs.declared.banks.Spread.{Spread}
use Rattle.block_datapath.specs.Accesses.{AsksIndex, AreIndexLinks}
use Rattle.block_datapath.proofs.AskedByAccesses.{none_asked, none_linked}
use Rattle.block_datapath.proofs.accesses.ask_spread.Goals as goal

pub returns-in-Some-clause-shows : goal.returns-in-Some-clause-shows
returns-in-Some-clause-shows c =
    subst (λ (s : Option Spread). OnOk c.ask_index.result
    (AsksIndex c.args.wires.now.signals c.ask_index.new.wires.signals c.args.registers.now c.args.code.now.variables c.args.values.now c.args.chains.now
    c.ask_index.new.chains c.args.moment s c.args.index.now c.args.writes c.args.value)) (sym c.in-Some.is) c.ask_index.ensures.shows

pub returns-in-Some-clause-wired : goal.returns-in-Some-clause-wired
returns-in-Some-clause-wired c =
    subst (λ (s : Option Spread). OnOk c.ask_index.result
    (AreIndexLinks c.args.wires.now.signals c.ask_index.new.wires.signals c.args.registers.now c.args.code.now.variables c.args.values.now
    c.args.chains.now c.ask_index.new.chains c.args.moment s c.args.value)) (sym c.in-Some.is) c.ask_index.ensures.wired

pub returns-in-None-clause-shows : goal.returns-in-None-clause-shows
returns-in-None-clause-shows c =
    none_asked c.args.registers.now c.args.code.now.variables c.args.values.now c.args.chains.now c.args.chains.now c.args.moment c.args.wires.now.signals c.args.spread
    c.args.index.now c.args.writes
    c.args.value c.in-None.is refl

pub returns-in-None-clause-wired : goal.returns-in-None-clause-wired
returns-in-None-clause-wired c =
    none_linked c.args.registers.now c.args.code.now.variables c.args.values.now c.args.chains.now c.args.chains.now c.args.moment c.args.wires.now.signals c.args.spread
    c.args.value refl
