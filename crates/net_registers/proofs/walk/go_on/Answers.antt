use Rattle.std.proofs.Common.{◌≡◌, ◌∙◌, ◌+◌, ap, sym, subst, slice_get}
use Rattle.sim_values.specs.Stands.{kind_of, children_of}
use Rattle.sim_values.specs.Tree.{instances_of}
use Rattle.net_registers.specs.Walks.{EntersSome}
use Rattle.net_registers.proofs.InstanceWalk.{popped, kind_is, left, went}
use Rattle.net_registers.proofs.walk.go_on.Goals as goal

pub returns-in_ok-leave-in-None : goal.returns-in_ok-leave-in-None
returns-in_ok-leave-in-None c =
    let r = c.args.sim.now in
    let items = c.args.frames.now.items in
    let frame = c.args.frame in
    let listing = c.args.listing.now in
    let p = popped r items frame listing c.requires in
    let kind : c.kind_at-kind.result ≡ kind_of (slice_get r.parts frame.part) = c.kind_at-kind.ensures ∙ ap (λ ps. kind_of (slice_get ps frame.part)) c.parts-parts.ensures.parts in
    let inner : c.module_instances.result.now ≡ p.first.kind.instances =
    c.module_instances.ensures ∙ ap instances_of ((λ i. slice_get (c.modules.ensures i) (kind i)) ∙ kind_is r items frame listing c.parts-parts.ensures.stands p) in
    left r items frame listing p c.leave.new.self (ap (λ l. slice_get l frame.next) (sym inner) ∙ sym c.in-None.ensures) c.in_ok-leave-in-None.ensures

pub returns-in_ok-enter_instance-in-Some : goal.returns-in_ok-enter_instance-in-Some
returns-in_ok-enter_instance-in-Some c =
    let r = c.args.sim.now in
    let items = c.args.frames.now.items in
    let frame = c.args.frame in
    let listing = c.args.listing.now in
    let p = popped r items frame listing c.requires in
    let x = c.in-Some.instance.now in
    let next = c.in_ok-next-in-Some.next in
    let child = c.in_ok-child-in-Some.child in
    let kind : c.kind_at-kind.result ≡ kind_of (slice_get r.parts frame.part) = c.kind_at-kind.ensures ∙ ap (λ ps. kind_of (slice_get ps frame.part)) c.parts-parts.ensures.parts in
    let inner : c.module_instances.result.now ≡ p.first.kind.instances =
    c.module_instances.ensures ∙ ap instances_of ((λ i. slice_get (c.modules.ensures i) (kind i)) ∙ kind_is r items frame listing c.parts-parts.ensures.stands p) in
    let children : c.children_at.result ≡ children_of (slice_get r.parts frame.part) = c.children_at.ensures ∙ ap (λ ps. children_of (slice_get ps frame.part)) c.parts-parts.ensures.parts in
    went r items frame listing p x (ap (λ l. slice_get l frame.next) (sym inner) ∙ sym c.in-Some.ensures) next child c.enter_instance.new.frames.items c.enter_instance.new.listing
    c.in_ok-next-in-Some.ensures (c.in_ok-child-in-Some.ensures ∙ ap (λ k. k + frame.next) children)
    (subst (λ l. EntersSome r.parts x.name child (slice_get r.modules x.of) l c.enter_instance.new.frames.items listing c.enter_instance.new.listing) c.in_ok-push-in-Some.ensures.items
    c.in_ok-enter_instance-in-Some.ensures)
