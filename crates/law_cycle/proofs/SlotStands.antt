-- Where a slot stands, and what a cycle within a block leaves, also where banks do not grant what they are asked.
use Rattle.std.specs.Prelude.{nat_eq, Bool, true, false, not, ◌⊎◌, if◌then◌else◌, Option, Some, None, slice_get, ℤ}
use Rattle.std.proofs.Common.{◌≡◌, ◌≢◌, ℕ, zero, suc, ◌<◌, List, [], ◌∷◌, length, refl, sym, ap, ◌∙◌, subst, inl, inr, ⊎_elim, arith}
use Rattle.std.proofs.lemmas.Option.{slice_get_past}
use Rattle.std.proofs.lemmas.Bool.{cases_eq}
use Rattle.hls_ints.specs.Residues.{bit_of}
use Rattle.interleaving.specs.Memory.{Location, Memory}
use Rattle.block_ir.specs.declared.block.Next.{Next}
use Rattle.block_ir.specs.declared.block.Next.TheVariants.{Jump, Branch}
use Rattle.block_ir.specs.declared.block.Block.{Block}
use Rattle.block_ir.specs.declared.code.Stage.{Stage}
use Rattle.block_ir.specs.declared.code.Stage.TheVariants as stage
use Rattle.block_ir.specs.declared.plan.BlockPlan.{BlockPlan}
use Rattle.block_ir.specs.declared.plan.StagePlan.TheVariants as planned
use Rattle.planned_block.specs.Block.{Operand, Block as PlannedBlock, leads_to, is_zero}
use Rattle.planned_block.specs.Plan.{Plan}
use Rattle.planned_block.specs.Slot.{Slot, operand_now, stayed, gone_on}
use Rattle.planned_block.specs.Advance.{answered, is_ready, is_answered, wires, words_next, registers_next, left_for_next, state_left, advance}
use Rattle.planned_block.proofs.Bits.{same_is}
use Rattle.plan_blocks.specs.View.{planned_view, plan_view, next_view, operand_view}
use Rattle.verilog_meaning.specs.Readings.{Reading}
use Rattle.circuit.specs.Modules.{Agree}
use Rattle.thread_promise.specs.Slots.{ShowsInBlock}
use Rattle.law_cycle.specs.Thread.{Thread, LeadsBelow, rest, Shows, Runs, Inside, IsThread, Where, InBlock, AtAct, AtRest, AtMeeting}
use Rattle.law_banks.proofs.StateAccesses.{type_there}

-- ---- a cycle within a block

module _ (bank : Location → ℕ) (b : PlannedBlock) (p : Plan) (q : Slot) (memory : Memory ℤ) (grant : ℕ → Bool) where
  abbrev words : ℕ → ℤ
  words = words_next bank b p q memory (answered b p q grant)

  abbrev kept_slot : Slot
  kept_slot = stayed b p q (answered b p q grant) words

  -- the next state of the block; the start of the stage where it leads; the same state, with more grants; or the same slot
  pub data Outcome (r : Slot) : Type 0 where
    GoesOn : (ready : is_ready b p q grant ≡ true) (within : suc q.state < p.states) (state : r.state ≡ suc q.state) (stage : r.stage ≡ q.stage)
        (routine : r.routine ≡ q.routine) (beat : r.beat ≡ not q.beat) → Outcome r
    Leaves : (ready : is_ready b p q grant ≡ true) (state : r.state ≡ 0) (stage : r.stage ≡ leads_to (operand_now b p q (wires bank b p q)) b.next)
        (routine : r.routine ≡ q.routine) (beat : r.beat ≡ not q.beat) (granted : (k : ℕ) → r.granted k ≡ false) → Outcome r
    Stalls : (ready : is_ready b p q grant ≡ false) (answered : is_answered b p q grant ≡ true) (slot : r ≡ kept_slot) → Outcome r
    Keeps : (ready : is_ready b p q grant ≡ false) (answered : is_answered b p q grant ≡ false) (slot : r ≡ q) → Outcome r

  next_state : is_ready b p q grant ≡ true → (c : Bool) → nat_eq (suc q.state) p.states ≡ c → q.state < p.states → Outcome (state_left bank b p q words)
  next_state ready true e lt =
      subst Outcome
      (sym (ap (λ (c : Bool). if c then left_for_next bank b p q words else gone_on b p q (wires bank b p q) words (registers_next bank b p q)) e))
      (Leaves ready refl refl refl refl (λ k. refl))
  next_state ready false e lt =
      let ne : suc q.state ≢ p.states = (λ z. absurd (cc (sym (same_is (suc q.state) p.states z) ∙ e))) in
      subst Outcome
      (sym (ap (λ (c : Bool). if c then left_for_next bank b p q words else gone_on b p q (wires bank b p q) words (registers_next bank b p q)) e))
      (GoesOn ready (omega arith) refl refl refl refl)

  unready : is_ready b p q grant ≡ false → (c : Bool) → is_answered b p q grant ≡ c → Outcome (if is_answered b p q grant then kept_slot else q)
  unready ready true e = subst Outcome (sym (ap (λ (c : Bool). if c then kept_slot else q) e)) (Stalls ready e refl)
  unready ready false e = subst Outcome (sym (ap (λ (c : Bool). if c then kept_slot else q) e)) (Keeps ready e refl)

  by_ready : (c : Bool) → is_ready b p q grant ≡ c → q.state < p.states → Outcome (advance bank b p q memory grant)
  by_ready true e lt =
      subst Outcome (sym (ap (λ (c : Bool). if c then state_left bank b p q words else (if is_answered b p q grant then kept_slot else q)) e))
      (next_state e (nat_eq (suc q.state) p.states) refl lt)
  by_ready false e lt =
      subst Outcome (sym (ap (λ (c : Bool). if c then state_left bank b p q words else (if is_answered b p q grant then kept_slot else q)) e))
      (unready e (is_answered b p q grant) refl)

  pub outcome : q.state < p.states → Outcome (advance bank b p q memory grant)
  outcome lt = by_ready (is_ready b p q grant) refl lt

  pub outcome_beats : (r : Slot) → Outcome r → (r.beat ≡ not q.beat) ⊎ (r ≡ q)
  outcome_beats r (GoesOn ready within state stage routine beat) = inl beat
  outcome_beats r (Leaves ready state stage routine beat granted) = inl beat
  outcome_beats r (Stalls ready answered slot) = inl (ap (λ (x : Slot). x.beat) slot)
  outcome_beats r (Keeps ready answered slot) = inr slot

  pub outcome_routine : (r : Slot) → Outcome r → r.routine ≡ q.routine
  outcome_routine r (GoesOn ready within state stage routine beat) = routine
  outcome_routine r (Leaves ready state stage routine beat granted) = routine
  outcome_routine r (Stalls ready answered slot) = ap (λ (x : Slot). x.routine) slot
  outcome_routine r (Keeps ready answered slot) = ap (λ (x : Slot). x.routine) slot

leads_below : (n : ℕ) (next : Next) → LeadsBelow n next → (value : Operand → ℤ) → leads_to value (next_view next) < n
leads_below n (Jump l) lt value = lt
leads_below n (Branch test l k) lt value = either (is_zero (value (operand_view test)))
  where
    either : (c : Bool) → (if c then k else l) < n
    either true = lt.1
    either false = lt.0

is_there : {A : Type 0} (xs : List A) (i : ℕ) → i < length xs → slice_get xs i ≡ None → ⊥
is_there [] i lt e = omega arith
is_there (x ∷ xs) zero lt e = cc
is_there (x ∷ xs) (suc i) lt e = is_there xs i (omega arith) e

-- ---- which stage it is

module _ (t : Thread) where
  -- a stage has one block and one plan
  pub same_block : (l : ℕ) (b c : Block) (p d : BlockPlan) → Runs t l b p → Runs t l c d → (b ≡ c) × (p ≡ d)
  same_block l b c p d runs other =
      let one : Some (stage.Run b) ≡ Some (stage.Run c) = sym runs.listed ∙ other.listed in
      let two : Some (planned.Run p) ≡ Some (planned.Run d) = sym runs.planned_so ∙ other.planned_so in
      ((let block : b ≡ c = cc in block), (let plan : p ≡ d = cc in plan))

  pub inside_of : (r : Reading) (q : Slot) (b : Block) (p : BlockPlan) → Runs t q.stage b p → Where t r q → Inside t r q b p
  inside_of r q b p runs (InBlock c d inside) =
      let same = same_block q.stage c b d p inside.runs runs in
      subst (λ z. Inside t r q z p) same.0 (subst (λ z. Inside t r q c z) same.1 inside)
  inside_of r q b p runs (AtAct a next listed state shown) = absurd (let e = sym listed ∙ runs.listed in cc)
  inside_of r q b p runs (AtRest past state shown) = absurd (let e = sym (slice_get_past t.code.stages q.stage (omega arith)) ∙ runs.listed in cc)
  inside_of r q b p runs (AtMeeting l next o past listed below state shown) =
      absurd (let e = sym (slice_get_past t.code.stages q.stage (omega arith)) ∙ runs.listed in cc)

module _ (t : Thread) (is : IsThread t) where
  pub shows_of : (r : Reading) (q : Slot) → Where t r q → Shows t r q
  shows_of r q (InBlock b p inside) = inside.shown.shown
  shows_of r q (AtAct a next listed state shown) = shown
  shows_of r q (AtRest at state shown) = shown
  shows_of r q (AtMeeting l next b at listed below state shown) = shown

  -- a reading with the same registers and memory words shows the same
  pub where_on : (h g : Reading) (q : Slot) → Agree t.body h g → Where t h q → Where t g q
  where_on h g q a (InBlock b p inside) =
      InBlock b p (record { runs = inside.runs; state = inside.state; shown = is.runs.keeps_in_block h g q b p a inside.runs inside.shown })
  where_on h g q a (AtAct c next listed state shown) = AtAct c next listed state (is.runs.keeps h g q a shown)
  where_on h g q a (AtRest at state shown) = AtRest at state (is.runs.keeps h g q a shown)
  where_on h g q a (AtMeeting l next b at listed below state shown) = AtMeeting l next b at listed below state (is.runs.keeps h g q a shown)

  -- at the start of a block no value is alive, and no grant is remembered
  fresh : (r : Reading) (q : Slot) (b : Block) (p : BlockPlan) → Runs t q.stage b p → q.state ≡ 0 → ((k : ℕ) → q.granted k ≡ false) → Shows t r q →
      ShowsInBlock t.globals t.code t.places b p r q
  fresh r q b p runs fits none shown = record {
    shown = shown;
    alive = λ k n a. let past = a.past in absurd (omega arith);
    typed_alive = λ k n a. let past = a.past in absurd (omega arith);
    granted = λ k x writes below target at.
        shown.none_granted none x (type_there t.globals t.spreads t.code t.plan t.places q b p runs k x writes below target) ∙ sym (ap bit_of (none k));
  }

  -- the start of a stage
  pub at_stage : (r : Reading) (q : Slot) → q.stage < rest t → q.state ≡ 0 → ((k : ℕ) → q.granted k ≡ false) → Shows t r q → Where t r q
  at_stage r q lt fits none shown = go (slice_get t.code.stages q.stage) refl
    where
      go : (o : Option Stage) → slice_get t.code.stages q.stage ≡ o → Where t r q
      go None e = absurd (is_there t.code.stages q.stage lt e)
      go (Some (stage.Run b)) e =
          let planned = is.planned q.stage b e in
          InBlock b planned.0
          (record { runs = planned.1; state = subst (λ n. n < planned.0.states) (sym fits) planned.2; shown = fresh r q b planned.0 planned.1 fits none shown })
      go (Some (stage.Act a next)) e = AtAct a next e fits shown

  -- the first stage, also of a code that has none
  pub at_first : (r : Reading) (q : Slot) → q.stage ≡ 0 → q.state ≡ 0 → ((k : ℕ) → q.granted k ≡ false) → Shows t r q → Where t r q
  at_first r q first fits none shown =
      ⊎_elim
      (λ (e : rest t ≡ 0). AtRest (first ∙ sym e) fits shown)
      (λ (ne : rest t ≢ 0). at_stage r q (let some : 0 < rest t = omega arith in subst (λ n. n < rest t) (sym first) some) fits none shown)
      (cases_eq (rest t) 0)

  -- what a cycle within a block leaves stands somewhere
  pub advanced : (bank : Location → ℕ) (memory : Memory ℤ) (grant : ℕ → Bool) (r : Reading) (q : Slot) (b : Block) (p : BlockPlan) → Runs t q.stage b p → q.state < p.states →
      ((is_ready (planned_view b) (plan_view b p) q grant ≡ true → suc q.state < p.states) →
      ShowsInBlock t.globals t.code t.places b p r (advance bank (planned_view b) (plan_view b p) q memory grant))
      × Shows t r (advance bank (planned_view b) (plan_view b p) q memory grant) →
      Where t r (advance bank (planned_view b) (plan_view b p) q memory grant)
  advanced bank memory grant r q b p runs lt shown = go (outcome bank (planned_view b) (plan_view b p) q memory grant lt)
    where
      -- where the state is kept
      unready : is_ready (planned_view b) (plan_view b p) q grant ≡ false → (advance bank (planned_view b) (plan_view b p) q memory grant).state ≡ q.state →
          (advance bank (planned_view b) (plan_view b p) q memory grant).stage ≡ q.stage → Where t r (advance bank (planned_view b) (plan_view b p) q memory grant)
      unready off state same =
          InBlock b p (record {
            runs = subst (λ l. Runs t l b p) (sym same) runs;
            state = subst (λ n. n < p.states) (sym state) lt;
            shown = shown.0 (λ on. absurd (let z = sym off ∙ on in cc));
          })

      go : Outcome bank (planned_view b) (plan_view b p) q memory grant (advance bank (planned_view b) (plan_view b p) q memory grant) →
          Where t r (advance bank (planned_view b) (plan_view b p) q memory grant)
      go (GoesOn ready more state same routine beat) =
          InBlock b p (record {
            runs = subst (λ l. Runs t l b p) (sym same) runs;
            state = subst (λ n. n < p.states) (sym state) more;
            shown = shown.0 (λ _. more);
          })
      go (Leaves ready state leads routine beat granted) =
          at_stage r (advance bank (planned_view b) (plan_view b p) q memory grant)
          (subst (λ l. l < rest t) (sym leads)
          (leads_below (rest t) b.next (is.leads q.stage (stage.Run b) runs.listed)
          (operand_now (planned_view b) (plan_view b p) q (wires bank (planned_view b) (plan_view b p) q))))
          state granted shown.1
      go (Stalls off some slot) = unready off (ap (λ (x : Slot). x.state) slot) (ap (λ (x : Slot). x.stage) slot)
      go (Keeps off none slot) = unready off (ap (λ (x : Slot). x.state) slot) (ap (λ (x : Slot). x.stage) slot)
