use Rattle.std.proofs.Common.{ℕ, ◌+◌, List, slice_get, ap, ◌∙◌, subst}
use Rattle.netlist.specs.declared.netlist.Signal.{Signal}
use Rattle.netlist.specs.declared.netlist.Module.{Module}
use Rattle.sim_values.specs.declared.edge.Part.{Part}
use Rattle.sim_values.specs.Stands.{children_of, kind_of, spot_of}
use Rattle.sim_values.specs.Tree.{instances_of}
use Rattle.sim_layout.specs.Wires.{signals_of}
use Rattle.slot_sim.specs.Slots.{LacksNeed, IsNeedNumber, place_named}
use Rattle.slot_sim.proofs.SlotPlace.{needed, slot_stands, first_is, kind_is}
use Rattle.slot_sim.proofs.slot.Slot.open.Goals as goal

pub need_number-requires : goal.need_number-requires
need_number-requires c = λ lacks.
    let r = c.args.sim.now in
    let st = c.parts-parts.ensures.stands in
    let i = c.args.thread in
    let has = c.requires.has in
    let child = c.children_at.ensures ∙ ap (λ (ps : List Part). children_of (slice_get ps 0)) c.parts-parts.ensures.parts in
    let root = c.kind_at_root.ensures ∙ ap (λ (ps : List Part). kind_of (slice_get ps 0)) c.parts-parts.ensures.parts in
    let inside = c.module_instances-instances.ensures ∙ ap (λ (ms : List Module). instances_of (slice_get ms c.kind_at_root.result)) c.modules-modules.ensures in
    let number = c.instance_number.ensures ∙ ap (λ (n : List ℕ). place_named n c.module_instances-instances.result.now) c.in_ok-name.ensures in
    let first = first_is r st i has c.in_ok-first.first c.children_at.result c.instance_number.result c.kind_at_root.result c.module_instances-instances.result.now
    c.in_ok-first.ensures child number root inside in
    let kind = c.kind_at.ensures ∙ ap (λ (ps : List Part). kind_of (slice_get ps c.in_ok-first.first)) c.parts-parts.ensures.parts in
    let signals = c.module_signals-signals.ensures ∙ ap (λ (ms : List Module). signals_of (slice_get ms c.kind_at.result)) c.modules-modules.ensures in
    needed r st i has (subst LacksNeed (kind_is r st i has c.in_ok-first.first c.kind_at.result c.module_signals-signals.result.now first kind signals) lacks)

pub returns : goal.returns
returns c =
    let r = c.args.sim.now in
    let st = c.parts-parts.ensures.stands in
    let i = c.args.thread in
    let has = c.requires.has in
    let child = c.children_at.ensures ∙ ap (λ (ps : List Part). children_of (slice_get ps 0)) c.parts-parts.ensures.parts in
    let root = c.kind_at_root.ensures ∙ ap (λ (ps : List Part). kind_of (slice_get ps 0)) c.parts-parts.ensures.parts in
    let inside = c.module_instances-instances.ensures ∙ ap (λ (ms : List Module). instances_of (slice_get ms c.kind_at_root.result)) c.modules-modules.ensures in
    let number = c.instance_number.ensures ∙ ap (λ (n : List ℕ). place_named n c.module_instances-instances.result.now) c.in_ok-name.ensures in
    let first = first_is r st i has c.in_ok-first.first c.children_at.result c.instance_number.result c.kind_at_root.result c.module_instances-instances.result.now
    c.in_ok-first.ensures child number root inside in
    let kind = c.kind_at.ensures ∙ ap (λ (ps : List Part). kind_of (slice_get ps c.in_ok-first.first)) c.parts-parts.ensures.parts in
    let signals = c.module_signals-signals.ensures ∙ ap (λ (ms : List Module). signals_of (slice_get ms c.kind_at.result)) c.modules-modules.ensures in
    let base = c.base_at.ensures ∙ ap (λ (ps : List Part). (spot_of (slice_get ps c.in_ok-first.first)).base) c.parts-parts.ensures.parts in
    record {
      slot = slot_stands r st i has (record { members = c.in_ok-members.members; need = c.in_ok-need.need; alone = c.alone_choice.result }) c.in_ok-first.first c.need_number.result first
          (subst (λ (ss : List Signal). IsNeedNumber ss c.need_number.result)
          (kind_is r st i has c.in_ok-first.first c.kind_at.result c.module_signals-signals.result.now first kind signals) c.need_number.ensures)
          (c.in_ok-need.ensures ∙ ap (λ b. b + c.need_number.result) base) c.in_ok-members.ensures.members c.alone_choice.ensures;
    }
