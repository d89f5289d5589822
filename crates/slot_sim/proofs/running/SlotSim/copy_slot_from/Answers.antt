use Rattle.std.proofs.Common.{◌≡◌, ℕ, List, ap, sym, ◌∙◌, subst}
use Rattle.sim_layout.specs.Rounds.{threads_of}
use Rattle.sim_layout.specs.Running.{Running, IsSameNet}
use Rattle.slot_sim.specs.Slots.{IsTaken}
use Rattle.slot_sim.proofs.Slotted.{with_taken}
use Rattle.slot_sim.proofs.ThreadsStand.{slot_taken}
use Rattle.slot_sim.proofs.running.SlotSim.copy_slot_from.Goals as goal

pub returns : goal.returns
returns c =
    let r : Running = c.self.inside.sim in
    let o : Running = c.other.inside.sim in
    let n : Running = c.take_parts.new.sim in
    let i = c.args.thread in
    let s = c.slot_of-slot.result.now in
    let v : c.args.self.now ≡ r = (let h = c.self.view_is in cc) in
    let w : c.args.other.now ≡ o = (let h = c.other.view_is in cc) in
    let net : IsSameNet r o = subst (λ (x : Running). IsSameNet x o) v (subst (λ (y : Running). IsSameNet c.args.self.now y) w c.requires.net) in
    let e : n ≡ with_taken r o s.members.items = c.take_parts.ensures ∙ ap (λ (l : List ℕ). with_taken r o l) c.as_slice-2.ensures.value in
    subst (λ (x : Running). IsTaken (threads_of x.modules) i x c.args.other.now n) (sym v)
    (subst (λ (y : Running). IsTaken (threads_of r.modules) i r y n) (sym w) (slot_taken r c.slot_of-slot.ensures.stands i s c.slot_of-slot.ensures.slot o net n e))
