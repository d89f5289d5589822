use Rattle.std.proofs.Common.{◌≡◌, List, [], slice_get, refl, sym, ap, subst, ◌∙◌}
use Rattle.verilog_meaning.specs.Names.{top_of}
use Rattle.sim_values.specs.declared.edge.Part.{Part}
use Rattle.sim_values.specs.Stands.{kind_of}
use Rattle.sim_layout.specs.Running.{Running, Stands, running}
use Rattle.cycle_sim.proofs.sim.Sim.top.Goals as goal

pub returns-clause-top : goal.returns-clause-top
returns-clause-top c =
    let i = c.self.inside in
    let r = running i.modules.now i.parts.items i.steps.items i.numbers.items i.words.items i.starts.items i.prefs i.done in
    let view : c.args.self.now ≡ r = (let h = c.self.view_is in cc) in
    let stands = c.self.invariant.0 in
    let kind = c.kind_at_root.ensures ∙ ap (λ (ps : List Part). kind_of (slice_get ps 0)) c.as_slice.ensures.value in
    c.at.ensures ∙ ap (slice_get i.modules.now) kind ∙ stands.plan.laid [] stands.top refl ∙ sym stands.is_top ∙ ap (λ (t : Running). top_of t.modules) (sym view)

pub returns-clause-stands : goal.returns-clause-stands
returns-clause-stands c =
    let i = c.self.inside in
    let r = running i.modules.now i.parts.items i.steps.items i.numbers.items i.words.items i.starts.items i.prefs i.done in
    let view : c.args.self.now ≡ r = (let h = c.self.view_is in cc) in
    subst Stands (sym view) c.self.invariant.0
