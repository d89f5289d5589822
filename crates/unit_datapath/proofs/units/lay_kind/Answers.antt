use Rattle.std.proofs.lemmas.Result.{on_ok_weaker}
use Rattle.unit_datapath.proofs.AllUnits.{kind_none, kind_more}
use Rattle.unit_datapath.proofs.units.lay_kind.Goals as goal

pub returns-then-counts-eq0 : goal.returns-then-counts-eq0
returns-then-counts-eq0 c =
    kind_none c.args.code.now c.args.registers.now c.args.planned.now c.args.kind.now c.kind_counts-counts.result c.args.wires.now.signals c.args.all.now
    c.kind_counts-counts.ensures c.if-counts-eq0.true

pub returns : goal.returns
returns c =
    on_ok_weaker c.lay_results-3.result
    (λ last.
    kind_more c.args.code.now c.args.registers.now c.args.planned.now c.args.kind.now c.kind_counts-counts.result c.args.wires.now.signals c.lay_inputs.new.wires.signals
    c.lay_results.new.wires.signals
    c.lay_results-2.new.wires.signals c.lay_results-3.new.wires.signals c.in_ok-inputs.inputs c.args.all.now c.lay_results.new.all c.lay_results-2.new.all c.lay_results-3.new.all
    c.kind_counts-counts.ensures
    c.in_ok-inputs.ensures c.in_ok-lay_results.ensures c.in_ok-lay_results-2.ensures last)
    c.lay_results-3.ensures
