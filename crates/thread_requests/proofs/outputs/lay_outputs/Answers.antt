use Rattle.std.proofs.Common.{List, ◌+◌, length, sym, subst, ◌∙◌}
use Rattle.std.proofs.lemmas.Result.{on_ok_weaker}
use Rattle.operator_wires.proofs.MadeWords.{on_two}
use Rattle.thread_requests.specs.declared.outputs.Row.{Row}
use Rattle.thread_requests.specs.Outputs.{LaysRows, LaysDone, AreNumbered}
use Rattle.thread_slots.specs.Wired.{Behind, IsNamedOutput}
use Rattle.thread_requests.proofs.OutputPorts.{outputs_laid, rows_numbered}
use Rattle.thread_requests.proofs.RequestWires.{outputs_named}
use Rattle.thread_requests.proofs.outputs.lay_outputs.Goals as goal

pub returns-clause-lays : goal.returns-clause-lays
returns-clause-lays c =
    let rows = c.as_slice.ensures ∙ c.in_ok-rows.ensures in
    on_ok_weaker c.lay_done.result (outputs_laid c.args.wires.now.signals c.lay_rows.new.wires.signals c.output.new.self.signals c.lay_done.new.wires.signals c.args.served c.args.needs c.args.done _
    c.args.words.now c.args.asks.now c.args.requests.now
    (subst (λ (z : List Row). LaysRows c.args.wires.now.signals c.lay_rows.new.wires.signals z (length z)) rows c.in_ok-lay_rows.ensures.lays)
    c.in_ok-output.ensures.stands c.in_ok-output.ensures.laid)
    c.lay_done.ensures.lays

pub returns-clause-named : goal.returns-clause-named
returns-clause-named c =
    let rows = c.as_slice.ensures ∙ c.in_ok-rows.ensures in
    let many : AreNumbered c.as_slice.result.now =
    subst AreNumbered (sym rows) (rows_numbered c.args.served c.args.words.now c.args.asks.now c.args.requests.now) in
    on_two c.lay_done.result (LaysDone c.output.new.self.signals c.lay_done.new.wires.signals c.args.done)
    (Behind (IsNamedOutput (length c.output.new.self.signals + 1)) c.output.new.self.signals c.lay_done.new.wires.signals)
    (Behind (IsNamedOutput (length c.lay_done.new.wires.signals)) c.args.wires.now.signals c.lay_done.new.wires.signals)
    (λ t u.
    outputs_named c.args.wires.now.signals c.lay_rows.new.wires.signals c.output.new.self.signals c.lay_done.new.wires.signals _ _ _ c.in_ok-output.ensures.laid
    t.long t.grows (c.in_ok-lay_rows.ensures.named (length c.lay_done.new.wires.signals) many) u)
    c.lay_done.ensures.lays c.lay_done.ensures.named
