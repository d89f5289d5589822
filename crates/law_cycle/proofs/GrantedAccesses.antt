-- WHO STAYS, and GRANTED ACCESSES.
use Rattle.std.specs.Prelude.{Bool, true, false, not, ℤ}
use Rattle.std.proofs.Common.{arith, ◌≢◌, ◌≡◌, ℕ, ◌<◌, refl, sym, ap, ◌∙◌, ⊎_elim}
use Rattle.std.proofs.lemmas.Bool.{and_from, false_from_ne_true}
use Rattle.interleaving.specs.Memory.{Location, Memory, Touches}
use Rattle.block_ir.specs.declared.block.Block.{Block}
use Rattle.block_ir.specs.declared.plan.BlockPlan.{BlockPlan}
use Rattle.planned_block.specs.Block.{Kind, Simple, Multiply, Divide, BankRead, BankWrite, ArrayRead, ArrayWrite, operation_at, size, element}
use Rattle.planned_block.specs.Plan.{OfGlobal, target_of}
use Rattle.planned_block.specs.Run.{bank_access}
use Rattle.planned_block.specs.Slot.{Slot, operand_now, asks}
use Rattle.planned_block.specs.Advance.{requests, answered, is_ready, is_answered, wires, advance}
use Rattle.planned_block.proofs.Advances.{some_tells, ready_or_asks}
use Rattle.planned_block.proofs.Bits.{both_true}
use Rattle.plan_blocks.specs.View.{planned_view, plan_view}
use Rattle.thread_promise.specs.Globals.{bank_of, bank_now, IsOpen}
use Rattle.law_cycle.specs.Thread.{Thread, Runs}
use Rattle.law_cycle.specs.Moved.{Moved, Rests, Works, Stays, Acted, Returned, Ended, Idles, Sets_out, Holds_on, Goes_on}
use Rattle.law_cycle.specs.Stays.{IsStuck, Unserved, Refused, Over, Unrun, Unmet, WhoStays, GrantedAccesses, StillReading}
use Rattle.hls_ints.specs.Residues.{bit_of}
use Rattle.law_cycle.proofs.ThreadMoves.{beats}
use Rattle.law_banks.proofs.StateAccesses.{request_is, request_now}
use Rattle.law_cycle.proofs.SlotStands.{Outcome, GoesOn, Leaves, Stalls, Keeps, outcome, shows_of, where_on}

turns : (b c : Bool) → c ≡ not b → c ≡ b → ⊥
turns true c e s = let z = sym e ∙ s in cc
turns false c e s = let z = sym e ∙ s in cc

-- ---- who stays

module _ (t : Thread) (granted : ℕ → Bool) (news : ℕ → ℕ → ℕ) (q : Slot) (b : Block) (p : BlockPlan) (runs : Runs t q.stage b p) (inside : q.state < p.states) (grant : ℕ → Bool)
    (heard : (k x : ℕ) (writes : Bool) → IsOpen t.spreads b p q k x writes → grant k ≡ granted (bank_now t.spreads b p q k x))
    (unready : is_ready (planned_view b) (plan_view b p) q grant ≡ false) (none : is_answered (planned_view b) (plan_view b p) q grant ≡ false) where
  -- an open access is not granted
  unserved : (j y : ℕ) (v : Bool) → IsOpen t.spreads b p q j y v → granted (bank_now t.spreads b p q j y) ≡ false
  unserved j y v o =
      false_from_ne_true (granted (bank_now t.spreads b p q j y))
      (λ won.
      let given = and_from (requests (planned_view b) (plan_view b p) q j) (grant j) o.requested (heard j y v o ∙ won) in
      let some = some_tells (answered (planned_view b) (plan_view b p) q grant) (size (planned_view b)) j o.below given in
      let z = sym none ∙ some in cc)

  stuck_in_block : IsStuck t granted news q
  stuck_in_block =
      ⊎_elim
      (λ (ready : is_ready (planned_view b) (plan_view b p) q grant ≡ true). absurd (let z = sym unready ∙ ready in cc))
      (λ (asker : (k : ℕ) × (k < size (planned_view b)) × (requests (planned_view b) (plan_view b p) q k ≡ true)).
      let k = asker.0 in
      let is = request_is (operation_at (planned_view b) k).kind (request_now t.globals t.spreads t.code t.plan t.places q b p runs k asker.2).0 in
      Unserved b p runs inside k is.0 is.1 (record { below = asker.1; requested = asker.2; target = is.2 }) unserved)
      (ready_or_asks (bank_of t.spreads) (planned_view b) (plan_view b p) q grant)

module _ (t : Thread) (enabled : Bool) (granted : ℕ → Bool) (news : ℕ → ℕ → ℕ) (memory : Memory ℤ) (q r : Slot) (on : enabled ≡ true) (same : r.beat ≡ q.beat) where
  never : r.beat ≡ not q.beat → ⊥
  never e = turns q.beat r.beat e same

  abbrev Result : Type 0
  Result = IsStuck t granted news q × (r ≡ q)

  from_outcome : (b : Block) (p : BlockPlan) → Runs t q.stage b p → q.state < p.states → (grant : ℕ → Bool) →
      ((k x : ℕ) (writes : Bool) → IsOpen t.spreads b p q k x writes → grant k ≡ granted (bank_now t.spreads b p q k x)) →
      (x : Slot) → r ≡ x → Outcome (bank_of t.spreads) (planned_view b) (plan_view b p) q memory grant x → Result
  from_outcome b p runs inside grant heard x slot (GoesOn ready within state stage routine beat) = absurd (never (ap (λ (z : Slot). z.beat) slot ∙ beat))
  from_outcome b p runs inside grant heard x slot (Leaves ready state stage routine beat off) = absurd (never (ap (λ (z : Slot). z.beat) slot ∙ beat))
  from_outcome b p runs inside grant heard x slot (Stalls unready some is) = absurd (never (ap (λ (z : Slot). z.beat) (slot ∙ is)))
  from_outcome b p runs inside grant heard x slot (Keeps unready none is) = (stuck_in_block t granted news q b p runs inside grant heard unready none, slot ∙ is)

  stays : Moved t enabled granted news memory q r → Result
  stays (Rests off slot) = absurd (let z = sym off ∙ on in cc)
  stays (Works e b p runs inside grant within heard slot) =
      from_outcome b p runs inside grant heard (advance (bank_of t.spreads) (planned_view b) (plan_view b p) q memory grant) slot
      (outcome (bank_of t.spreads) (planned_view b) (plan_view b p) q memory grant inside)
  stays (Stays e a next ask listed asks refused slot) = (Refused a next ask listed asks refused, slot)
  stays (Acted e a next k ask listed asks core won slot) = absurd (never (ap (λ (z : Slot). z.beat) slot))
  stays (Returned e main next listed slot) = absurd (never (ap (λ (z : Slot). z.beat) slot))
  stays (Ended e main at slot) = (Over main at, slot)
  stays (Idles e thread at none slot) = (Unrun thread at none, slot)
  stays (Sets_out e thread at one slot) = absurd (never (ap (λ (z : Slot). z.beat) slot))
  stays (Holds_on e l next b at listed below one slot) = (Unmet l next b at listed below one, slot)
  stays (Goes_on e l next b at listed below none slot) = absurd (never (ap (λ (z : Slot). z.beat) slot))

pub who_stays : WhoStays
who_stays t enabled granted news memory q r moved on same = stays t enabled granted news memory q r on same moved

-- ---- a still reading

pub same_bit : (a b : Bool) → bit_of a ≡ bit_of b → a ≡ b
same_bit true true e = refl
same_bit false false e = refl
same_bit true false e = absurd (omega arith)
same_bit false true e = absurd (omega arith)

pub still_reading : StillReading
still_reading t s g enabled granted news memory q r is stands moved after agree =
    let old = shows_of t is g q (where_on t is s g q agree stands.at) in
    let new = shows_of t is g r after.at in
    let same : r.beat ≡ q.beat = same_bit r.beat q.beat (sym new.beat ∙ old.beat) in (
      ⊎_elim (λ (e : (r.beat ≡ not q.beat) × (r ≢ q)). absurd (turns q.beat r.beat e.0 same)) (λ (e : r ≡ q). e) (beats t enabled granted news memory q r moved),
      λ on. (who_stays t enabled granted news memory q r moved on same).0,
    )

-- ---- accesses

-- what a kind of operation touches
touches_is : (kind : Kind) (l r : ℤ) (q : Location) → Touches q (bank_access kind l r) → (x : ℕ) × (w : Bool) × (target_of kind ≡ OfGlobal x w) × (q ≡ element x l)
touches_is (Simple f) l r q w = absurd w
touches_is (Multiply f) l r q w = absurd w
touches_is (Divide f) l r q w = absurd w
touches_is (BankRead x) l r q w = (x, false, refl, ⊎_elim (λ (e : q ≡ element x l). e) (λ z. absurd z) w)
touches_is (BankWrite x) l r q w = (x, true, refl, ⊎_elim (λ (e : q ≡ element x l). e) (λ z. absurd z) w)
touches_is (ArrayRead x) l r q w = absurd w
touches_is (ArrayWrite x) l r q w = absurd w

pub granted_accesses : GrantedAccesses
granted_accesses t granted q b p grant heard k l lt given touches =
    let both = both_true (requests (planned_view b) (plan_view b p) q k) (grant k) given in
    let wire = wires (bank_of t.spreads) (planned_view b) (plan_view b p) q in
    let is = touches_is (operation_at (planned_view b) k).kind (operand_now (planned_view b) (plan_view b p) q wire (operation_at (planned_view b) k).left)
    (operand_now (planned_view b) (plan_view b p) q wire (operation_at (planned_view b) k).right) l touches in
    ap granted (ap (bank_of t.spreads) is.3)
    ∙ sym (heard k is.0 is.1 (record { below = lt; requested = both.0; target = is.2 })) ∙ both.1
