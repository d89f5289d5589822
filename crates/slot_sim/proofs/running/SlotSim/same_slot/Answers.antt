use Rattle.std.proofs.Common.{◌≡◌, ℕ, List, ap, sym, ◌∙◌, subst}
use Rattle.std.specs.Prelude.{MatchBool}
use Rattle.sim_layout.specs.Rounds.{threads_of}
use Rattle.sim_layout.specs.Running.{Running, flat, IsSameNet}
use Rattle.slot_sim.specs.Same.{parts_same}
use Rattle.slot_sim.specs.Slots.{IsSameSlotOf}
use Rattle.slot_sim.proofs.ThreadsStand.{slot_told, slot_apart}
use Rattle.slot_sim.proofs.WhoMoves.{match_bool}
use Rattle.slot_sim.proofs.running.SlotSim.same_slot.Goals as goal

pub returns : goal.returns
returns c =
    let r : Running = c.self.inside.sim in
    let o : Running = c.other.inside.sim in
    let i = c.args.thread in
    let b = c.same_parts.result in
    let s = c.slot_of-slot.result.now in
    let v : c.args.self.now ≡ r = (let h = c.self.view_is in cc) in
    let w : c.args.other.now ≡ o = (let h = c.other.view_is in cc) in
    let net : IsSameNet r o = subst (λ (x : Running). IsSameNet x o) v (subst (λ (y : Running). IsSameNet c.args.self.now y) w c.requires.net) in
    let told : b ≡ parts_same r.modules r.parts (flat r) (flat o) s.members.items =
    c.same_parts.ensures ∙ ap (λ (l : List ℕ). parts_same r.modules r.parts (flat r) (flat o) l) c.as_slice-2.ensures.value in
    let is = c.slot_of-slot.ensures.slot in
    let st = c.slot_of-slot.ensures.stands in
    subst (λ (x : Running). MatchBool b (IsSameSlotOf (threads_of x.modules) i x c.args.other.now) (IsSameSlotOf (threads_of x.modules) i x c.args.other.now → ⊥)) (sym v)
    (subst (λ (y : Running). MatchBool b (IsSameSlotOf (threads_of r.modules) i r y) (IsSameSlotOf (threads_of r.modules) i r y → ⊥)) (sym w)
    (match_bool b (slot_told r st i s is o net b told) (slot_apart r st i s is o net b told)))
