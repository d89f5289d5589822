-- An operand that no iteration further back can change: it is the same wherever more iterations are ahead.
use Rattle.std.proofs.Common.{◌≡◌, ℕ, zero, suc, ◌+◌, ◌-◌, ◌≤◌, nat_eq, Bool, true, false, ◌&&◌, if◌then◌else◌, List, []}
use Rattle.std.proofs.Common.{◌∷◌, slice_get, Option, Some, None, ℤ, refl, sym, ap, subst, ◌∙◌, arith}
use Rattle.std.proofs.lemmas.Bool.Decides.{nat_tests}
use Rattle.netlist.specs.declared.netlist.Module.{Module}
use Rattle.verilog_meaning.specs.Readings.{Reading}
use Rattle.hls_ints.specs.Types.{IntegerType, HasType, wrapped}
use Rattle.block_ir.specs.declared.operand.Source.{Source}
use Rattle.block_ir.specs.declared.operand.Source.TheVariants.{Constant, Variable, Value}
use Rattle.block_ir.specs.declared.block.Final.{Final}
use Rattle.block_ir.specs.declared.block.Block.{Block}
use Rattle.plan_blocks.specs.View.{source_view, converted_to}
use Rattle.planned_block.specs.Block.{Operand as PlannedOperand, operand_value}
use Rattle.planned_block.specs.Slot.{Slot}
use Rattle.operator_wires.specs.declared.words.Word.{Word}
use Rattle.thread_promise.specs.Types.{operand_type}
use Rattle.block_datapath.specs.declared.registers.Registers.{Registers}
use Rattle.block_datapath.specs.Seen.{IsVariable}
use Rattle.loop_datapath.specs.declared.times.OperationTime.{OperationTime}
use Rattle.loop_datapath.specs.declared.times.LoopTimes.{LoopTimes}
use Rattle.loop_datapath.specs.declared.times.ValuePlace.{ValuePlace}
use Rattle.loop_datapath.specs.declared.times.ValuePlace.TheVariants.{Wire, Register}
use Rattle.loop_datapath.specs.Times.{time_at, is_now, lateness, age_of, value_place, at_place}
use Rattle.loop_datapath.specs.Ahead.{last_final, left_source, reach_by, reach_of, value_there, variable_there, source_there}
use Rattle.loop_datapath.specs.Ahead.{IsAt, SeesLeft, SeesAhead}
use Rattle.loop_datapath.proofs.AheadOperands.{left_behind, never_left}

-- ---- conversions

pub converted_same : (types : List IntegerType) (o p : PlannedOperand) (v f w g : ℕ → ℤ) → operand_value v f o ≡ operand_value w g p →
    operand_value v f (converted_to types o) ≡ operand_value w g (converted_to types p)
converted_same [] o p v f w g e = e
converted_same (ty ∷ types) o p v f w g e = converted_same types _ _ v f w g (ap (wrapped ty) e)

-- ---- where a value is

same_later : (a b e : ℕ) → nat_eq (a + e) (b + e) ≡ nat_eq a b
same_later a b e = grind (arith, nat_tests)

pub place_later : (times : List OperationTime) (begun phase d e k : ℕ) → value_place times (begun + e) phase (d + e) k ≡ value_place times begun phase d k
place_later times begun phase d e k =
    let t = time_at times k in
    let sum : t.stage + (d + e) ≡ t.stage + d + e = omega arith in
    let now : nat_eq (t.stage + (d + e)) (begun + e) ≡ nat_eq (t.stage + d) begun = ap (λ n. nat_eq n (begun + e)) sum ∙ same_later (t.stage + d) begun e in
    let age : age_of t (begun + e) phase (d + e) ≡ age_of t begun phase d = omega arith in
    ap (λ (b : Bool). if b && nat_eq t.phase phase then Wire else Register (t.chain + age_of t (begun + e) phase (d + e))) now
    ∙ ap (λ n. if is_now t begun phase d then Wire else Register (t.chain + n)) age

value_by : (wire registers : ℕ → ℤ) (k : ℕ) (b : Bool) (x y : ℕ) → x ≡ y → (if b then wire k else registers x) ≡ at_place wire registers k (if b then Wire else Register y)
value_by wire registers k true x y e = refl
value_by wire registers k false x y e = ap registers e

module _ (turn : Block) (comparison : ℕ) (times : LoopTimes) (phase : ℕ) (q : Slot) (wire : ℕ → ℤ) where
  -- what is at the place of a value is the value
  pub value_placed : (begun d k : ℕ) → value_there turn comparison times begun phase q wire d k ≡ at_place wire q.registers k (value_place times.operations begun phase d k)
  value_placed begun d k =
      let t = time_at times.operations k in
      value_by wire q.registers k (is_now t begun phase d) (t.chain + (begun - (d + t.stage + lateness t phase))) (t.chain + age_of t begun phase d)
      (let e : t.chain + (begun - (d + t.stage + lateness t phase)) ≡ t.chain + age_of t begun phase d = omega arith in e)

  value_later : (begun d e k : ℕ) → value_there turn comparison times (begun + e) phase q wire (d + e) k ≡ value_there turn comparison times begun phase q wire d k
  value_later begun d e k =
      value_placed (begun + e) (d + e) k ∙ ap (at_place wire q.registers k) (place_later times.operations begun phase d e k) ∙ sym (value_placed begun d k)

  module _ (m : Module) (r : Reading) (registers : Registers) (words : List Word) (types : List IntegerType) where
    abbrev Sees : ℕ → ℕ → Source → Type 0
    Sees begun = SeesAhead m r registers words types turn comparison times begun phase q wire

    abbrev There : ℕ → ℕ → Source → ℤ
    There begun = source_there turn comparison times begun phase q wire

    -- it can be seen, and is the same, with fewer iterations ahead
    abbrev IsSettled : ℕ → ℕ → ℕ → Source → Type 0
    IsSettled begun d e source = Sees begun d source × (There (begun + e) (d + e) source ≡ There begun d source)

    constant_seen : (begun d : ℕ) (ty : IntegerType) (v : ℤ) → HasType ty v → Sees begun d (Constant ty v)
    constant_seen begun zero ty v t = t
    constant_seen begun (suc d) ty v t = t

    constant_typed : (begun d : ℕ) (ty : IntegerType) (v : ℤ) → Sees begun d (Constant ty v) → HasType ty v
    constant_typed begun zero ty v t = t
    constant_typed begun (suc d) ty v t = t

    value_at : (begun d k : ℕ) (ty : IntegerType) → Sees begun d (Value k ty) →
        IsAt m r registers words (value_place times.operations begun phase d k) k ty (value_there turn comparison times begun phase q wire d k)
    value_at begun zero k ty t = t
    value_at begun (suc d) k ty t = t

    seen_at : (begun d k : ℕ) (ty : IntegerType) →
        IsAt m r registers words (value_place times.operations begun phase d k) k ty (value_there turn comparison times begun phase q wire d k) → Sees begun d (Value k ty)
    seen_at begun zero k ty t = t
    seen_at begun (suc d) k ty t = t

    value_settled : (begun d e k : ℕ) (ty : IntegerType) → Sees (begun + e) (d + e) (Value k ty) → IsSettled begun d e (Value k ty)
    value_settled begun d e k ty t = (
      seen_at begun d k ty
          (subst (λ (p : ValuePlace). IsAt m r registers words p k ty (value_there turn comparison times begun phase q wire d k)) (place_later times.operations begun phase d e k)
          (subst (λ (v : ℤ). IsAt m r registers words (value_place times.operations (begun + e) phase (d + e) k) k ty v) (value_later begun d e k)
          (value_at (begun + e) (d + e) k ty t))),
      value_later begun d e k,
    )

    own_seen : (begun d x : ℕ) (ty : IntegerType) → last_final turn.finals x ≡ None → Sees begun d (Variable x ty) → IsVariable m r registers types x ty (q.variables x)
    own_seen begun zero x ty none t = t
    own_seen begun (suc d) x ty none t = subst (λ (f : Option Final). SeesLeft m r registers words types (Sees begun d) f x ty (q.variables x)) none t

    seen_own : (begun d x : ℕ) (ty : IntegerType) → last_final turn.finals x ≡ None → IsVariable m r registers types x ty (q.variables x) → Sees begun d (Variable x ty)
    seen_own begun zero x ty none t = t
    seen_own begun (suc d) x ty none t = subst (λ (f : Option Final). SeesLeft m r registers words types (Sees begun d) f x ty (q.variables x)) (sym none) t

    own_settled : (begun d e x : ℕ) (ty : IntegerType) → last_final turn.finals x ≡ None → Sees (begun + e) (d + e) (Variable x ty) → IsSettled begun d e (Variable x ty)
    own_settled begun d e x ty none t = (
      seen_own begun d x ty none (own_seen (begun + e) (d + e) x ty none t),
      never_left turn comparison times (begun + e) phase q wire (d + e) x none ∙ sym (never_left turn comparison times begun phase q wire d x none),
    )

    -- a variable by what an iteration leaves there
    left_settled : (begun d e x : ℕ) (ty : IntegerType) (f : Final) → last_final turn.finals x ≡ Some f →
        (Sees (begun + e) (d + e) f.value.source → IsSettled begun d e f.value.source) → Sees (begun + e) (suc (d + e)) (Variable x ty) →
        Sees begun (suc d) (Variable x ty) × (There (begun + e) (suc (d + e)) (Variable x ty) ≡ There begun (suc d) (Variable x ty))
    left_settled begun d e x ty f found rest t =
        let there : (slice_get types x ≡ Some ty) × (operand_type f.value ≡ ty) × Sees (begun + e) (d + e) f.value.source =
        subst (λ (g : Option Final). SeesLeft m r registers words types (Sees (begun + e) (d + e)) g x ty (q.variables x)) found t in
        let is = rest there.2 in (
          subst (λ (g : Option Final). SeesLeft m r registers words types (Sees begun d) g x ty (q.variables x)) (sym found) (there.0, there.1, is.0),
          left_behind turn comparison times (begun + e) phase q wire (d + e) x f found
              ∙ converted_same f.value.conversions (source_view f.value.source) (source_view f.value.source)
              (variable_there turn comparison times (begun + e) phase q wire (d + e)) (value_there turn comparison times (begun + e) phase q wire (d + e))
              (variable_there turn comparison times begun phase q wire d) (value_there turn comparison times begun phase q wire d) is.1
              ∙ sym (left_behind turn comparison times begun phase q wire d x f found),
        )

    pub settled : (most e : ℕ) (source : Source) (begun : ℕ) → reach_of turn.finals most source + e ≤ most →
        Sees (begun + e) (reach_of turn.finals most source + e) source → IsSettled begun (reach_of turn.finals most source) e source
    settled zero e source begun le t =
        let none : e ≡ 0 = omega arith in
        let first : begun + e ≡ begun = omega arith in
        let second : 0 + e ≡ 0 = omega arith in (
          subst (λ n. Sees begun n source) second (subst (λ n. Sees n (0 + e) source) first t),
          ap (λ n. There n (0 + e) source) first ∙ ap (λ n. There begun n source) second,
        )
    settled (suc n) e (Constant ty v) begun le t = (constant_seen begun 0 ty v (constant_typed (begun + e) (0 + e) ty v t), refl)
    settled (suc n) e (Value k ty) begun le t = value_settled begun 0 e k ty t
    settled (suc n) e (Variable x ty) begun le t = by_final (last_final turn.finals x) refl le t (λ source less s. settled n e source begun less s)
      where
        reach : Option Final → ℕ
        reach o = reach_by (reach_of turn.finals n) (left_source o)

        by_final : (o : Option Final) → last_final turn.finals x ≡ o → reach o + e ≤ suc n → Sees (begun + e) (reach o + e) (Variable x ty) →
            ((source : Source) → reach_of turn.finals n source + e ≤ n → Sees (begun + e) (reach_of turn.finals n source + e) source →
            IsSettled begun (reach_of turn.finals n source) e source) → IsSettled begun (reach o) e (Variable x ty)
        by_final None found small seen rest = own_settled begun 0 e x ty found seen
        by_final (Some f) found small seen rest =
            let d = reach_of turn.finals n f.value.source in
            let sum : suc d + e ≡ suc (d + e) = omega arith in
            let less : d + e ≤ n = omega arith in
            let is = left_settled begun d e x ty f found (rest f.value.source less) (subst (λ k. Sees (begun + e) k (Variable x ty)) sum seen) in
            (is.0, ap (λ k. There (begun + e) k (Variable x ty)) sum ∙ is.1)
