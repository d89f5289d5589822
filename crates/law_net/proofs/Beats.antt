-- A thread that moves changes a register, and one whose slot stays keeps them all.
use Rattle.std.specs.Prelude.{Bool, true, false, not}
use Rattle.std.proofs.Common.{◌≡◌, ℕ, ◌<◌, refl, sym, ap, ◌∙◌, subst, arith}
use Rattle.hls_ints.specs.Residues.{bit_of}
use Rattle.c_program.specs.Tree.{Program}
use Rattle.netlist.specs.declared.netlist.Module.{Module}
use Rattle.planned_block.specs.Slot.{Slot}
use Rattle.verilog_meaning.specs.Readings.{Reading, next_reading}
use Rattle.verilog_meaning.specs.Cycles.{Choice}
use Rattle.circuit.specs.Modules.{Agree}
use Rattle.circuit.specs.Wiring.{is_enabled}
use Rattle.leaf_machine.proofs.Leaves.{leaf_keeps_slots}
use Rattle.law_cycle.specs.Thread.{Thread, IsThread, Shows}
use Rattle.law_cycle.proofs.SlotStands.{shows_of, where_on}
use Rattle.law_cycle.specs.Built.{Parts, Machine, IsBuilt, thread_at}
use Rattle.law_cycle.specs.Bodies.{core_machine, core_count}
use Rattle.law_cycle.specs.Stage.{Stage, news, granted_to}
use Rattle.law_cycle.proofs.Steps.{is_thread, fits}
use Rattle.law_net.specs.Follows.{next_machine}
use Rattle.law_net.proofs.AgreedReadings.{agree_on}
use Rattle.law_net.proofs.Clock.{cycled, next, moves}

same_bit : (a b : Bool) → bit_of a ≡ bit_of b → a ≡ b
same_bit true true e = refl
same_bit true false e = absurd (omega arith)
same_bit false true e = absurd (omega arith)
same_bit false false e = refl

not_itself : (a : Bool) → not a ≡ a → ⊥
not_itself true e = cc
not_itself false e = cc

module _ (P : Program) (K : Parts) (built : IsBuilt P K) (h : Stage P K) (c : Choice) (i : ℕ) (lt : i < K.cores.threads) where
  abbrev t : Thread
  t = thread_at P K i

  abbrev m : Module
  m = (K.bodies i).body

  abbrev s : Reading
  s = h.net.slots i

  abbrev after : Reading
  after = (next_machine K h.net c).slots i

  is : IsThread t
  is = is_thread P K built i lt

  shows_now : Shows t s (h.slots i)
  shows_now = shows_of t is s (h.slots i) (h.stands i lt).at

  shows_next : Shows t after ((next P K built h c).slots i)
  shows_next =
      subst (λ (z : Machine K). Shows t (z.slots i) ((next P K built h c).slots i)) (cycled P K built h c).net
      (shows_of t is ((next P K built h c).net.slots i) ((next P K built h c).slots i) ((next P K built h c).stands i lt).at)

  pub move_changes : moves P K built h c i ≡ true → Agree m s after → ⊥
  move_changes moved agree =
      let kept = is.runs.keeps s after (h.slots i) agree shows_now in
      let same = same_bit ((next P K built h c).slots i).beat (h.slots i).beat (sym shows_next.beat ∙ kept.beat) in
      not_itself (h.slots i).beat (sym ((cycled P K built h c).turns i lt moved) ∙ same)

  pub kept : (next P K built h c).slots i ≡ h.slots i → Agree m s after
  kept same =
      let go = (leaf_keeps_slots m (K.bodies i).inputs (K.bodies i).leaf (core_count K.cores) (λ k. (core_machine K.cores k).parts) (λ k. (core_machine K.cores k).told) (built.bodies i lt).1.leaf).through s
      (is_enabled c.mask i) (granted_to P K c h.net i) (news P K h.net i) (h.fits i lt) (fits P K built h i lt) in
      let r = go.0 in
      let here = shows_of t is r (h.slots i) (where_on t is s r (h.slots i) go.1.shown (h.stands i lt).at) in
      let to : after ≡ next_reading m r = go.1.advances in
      let beat : (next_reading m r).signal (K.bodies i).places.beat ≡ r.signal (K.bodies i).places.beat =
      ap (λ (g : Reading). g.signal (K.bodies i).places.beat) (sym to) ∙ shows_next.beat ∙ ap (λ (q : Slot). bit_of q.beat) same ∙ sym here.beat in
      subst (λ (g : Reading). Agree m s g) (sym to) (agree_on m s r (next_reading m r) go.1.shown ((built.bodies i lt).1.beats.turns r go.1.obeys beat))

pub kept_agrees : (P : Program) (K : Parts) (built : IsBuilt P K) (h : Stage P K) (c : Choice) (i : ℕ) (lt : i < K.cores.threads) →
    (next P K built h c).slots i ≡ h.slots i → Agree (K.bodies i).body (h.net.slots i) ((next_machine K h.net c).slots i)
kept_agrees P K built h c i lt same = kept P K built h c i lt same
