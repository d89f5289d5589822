use Rattle.std.proofs.Common.{◌≡◌, ◌<◌, ℕ, List, ap, sym, ◌∙◌, subst}
use Rattle.std.specs.Prelude.{MatchBool}
use Rattle.sim_layout.specs.Rounds.{threads_of}
use Rattle.sim_layout.specs.Running.{Running, flat}
use Rattle.slot_sim.specs.Changing.{parts_change}
use Rattle.slot_sim.specs.Slots.{IsThreadedIn, Opening}
use Rattle.slot_sim.proofs.WhoMoves.{not_opening, opening_told}
use Rattle.slot_sim.proofs.running.SlotSim.opens.Goals as goal

pub returns-then-not-tells_need-clause-opens : goal.returns-then-not-tells_need-clause-opens
returns-then-not-tells_need-clause-opens c =
    let r : Running = c.self.inside.sim in
    let i = c.args.thread in
    let is = c.slot_of-slot.ensures.slot in
    let v : c.args.self.now ≡ r = (let h = c.self.view_is in cc) in
    subst (λ (x : Running). Opening (threads_of x.modules) i x → ⊥) (sym v)
    (not_opening r (threads_of r.modules) i (subst (λ (x : Running). IsThreadedIn x.modules (threads_of x.modules)) v c.requires.threaded)
    (subst (λ (x : Running). i < threads_of x.modules) v c.requires.thread)
    (c.if-not-tells_need.ensures.need (threads_of r.modules) i is.alone_is is.need))

pub returns-clause-opens : goal.returns-clause-opens
returns-clause-opens c =
    let r : Running = c.self.inside.sim in
    let i = c.args.thread in
    let n : Running = c.tells_need.new.sim in
    let b = c.changes_parts.result in
    let s = c.slot_of-slot.result.now in
    let is = c.slot_of-slot.ensures.slot in
    let v : c.args.self.now ≡ r = (let h = c.self.view_is in cc) in
    let e : b ≡ parts_change n.modules n.parts (flat n) s.members.items =
    c.changes_parts.ensures ∙ ap (λ (l : List ℕ). parts_change n.modules n.parts (flat n) l) c.as_slice-2.ensures.value in
    subst (λ (x : Running). MatchBool b (Opening (threads_of x.modules) i x) (Opening (threads_of x.modules) i x → ⊥)) (sym v)
    (opening_told r n i s is (subst (λ (x : Running). i < threads_of x.modules) v c.requires.thread) c.if-not-tells_need.ensures.settled b e
    (c.if-not-tells_need.ensures.need (threads_of r.modules) i is.alone_is is.need))
