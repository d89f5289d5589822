use Rattle.std.proofs.Common.{◌∙◌, ap}
use Rattle.std.specs.Prelude.{slice_get}
use Rattle.netlist.specs.NetlistOf.{place, connected}
use Rattle.net_names.proofs.FoundParts.{signal_at, connected_at}
use Rattle.net_names.proofs.connections.Connections.signal.Goals as goal

pub returns-in-Some : goal.returns-in-Some
returns-in-Some c =
    let list = c.self.inside.list.now in
    let x = c.args.port.now in
    c.as_bytes.ensures.value ∙ c.as_str.ensures.bytes ∙ ap signal_at c.in-Some.ensures
    ∙ ap (λ k. signal_at (slice_get list k)) (c.of_name.ensures ∙ ap (λ names. place names x) c.self.invariant) ∙ connected_at list x ∙ ap (λ l. connected l x) c.self.view_is

pub returns-in-None : goal.returns-in-None
returns-in-None c =
    let list = c.self.inside.list.now in
    let x = c.args.port.now in
    ap signal_at c.in-None.ensures
    ∙ ap (λ k. signal_at (slice_get list k)) (c.of_name.ensures ∙ ap (λ names. place names x) c.self.invariant) ∙ connected_at list x ∙ ap (λ l. connected l x) c.self.view_is
