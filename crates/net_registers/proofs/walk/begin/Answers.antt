use Rattle.std.proofs.Common.{◌≡◌, ◌∙◌, ap, sym, subst, slice_get}
use Rattle.sim_values.specs.Stands.{kind_of}
use Rattle.net_registers.specs.Walks.{Enters}
use Rattle.net_registers.proofs.InstanceWalk.{begun}
use Rattle.net_registers.proofs.walk.begin.Goals as goal

pub returns-in_ok-enter-in-Some : goal.returns-in_ok-enter-in-Some
returns-in_ok-enter-in-Some c =
    let r = c.args.sim.now in
    let m = c.in-Some.top.now in
    let kind : c.kind_at_root.result ≡ kind_of (slice_get r.parts 0) = c.kind_at_root.ensures ∙ ap (λ ps. kind_of (slice_get ps 0)) c.parts.ensures.parts in
    begun r m c.enter.new.frames.items c.args.listing.now c.enter.new.listing c.parts.ensures.stands
    (sym (c.in-Some.ensures ∙ (λ i. slice_get (c.modules.ensures i) (kind i)))) c.requires.listing
    (subst (λ l. Enters r.parts m.name 0 m l c.enter.new.frames.items c.args.listing.now c.enter.new.listing) c.requires.frames c.in_ok-enter-in-Some.ensures)
