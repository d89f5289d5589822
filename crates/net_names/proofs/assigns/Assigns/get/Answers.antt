use Rattle.std.proofs.Common.{◌∙◌, ap}
use Rattle.std.specs.Prelude.{option_map, slice_get}
use Rattle.std.specs.Option.{option_copied}
use Rattle.verilog_tree.specs.declared.tree.Assign.{Assign}
use Rattle.netlist.specs.NetlistOf.{place, assigned}
use Rattle.net_names.specs.Found.{behind}
use Rattle.net_names.proofs.FoundParts.{copied_get, assigned_at}
use Rattle.net_names.proofs.assigns.Assigns.get.Goals as goal

pub returns-in-Some : goal.returns-in-Some
returns-in-Some c =
    let list = c.self.inside.list in
    let x = c.args.name.now in
    ap (option_map (λ (a : Assign). a.value)) (ap option_copied (c.in-Some.ensures ∙ c.get.ensures.value) ∙ copied_get list c.of_name-at.result
    ∙ ap (slice_get (behind list)) (c.of_name-at.ensures ∙ ap (λ names. place names x) c.self.invariant))
    ∙ assigned_at (behind list) x ∙ ap (λ l. assigned l x) c.self.view_is

pub returns-in-None : goal.returns-in-None
returns-in-None c =
    let list = c.self.inside.list in
    let x = c.args.name.now in
    ap (option_map (λ (a : Assign). a.value)) (ap option_copied (c.in-None.ensures ∙ c.get.ensures.value) ∙ copied_get list c.of_name-at.result
    ∙ ap (slice_get (behind list)) (c.of_name-at.ensures ∙ ap (λ names. place names x) c.self.invariant))
    ∙ assigned_at (behind list) x ∙ ap (λ l. assigned l x) c.self.view_is
