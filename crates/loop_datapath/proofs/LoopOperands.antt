-- What the operations of a loop use can be seen, wherever their iteration is: in variables, on wires, or in registers of chains.
use Rattle.std.proofs.Common.{◌≡◌, ℕ, zero, suc, ◌+◌, ◌-◌, ◌<◌, ◌≤◌, nat_eq, nat_lt, Bool, true, false, ◌&&◌, if◌then◌else◌, List, [], ◌∷◌, slice_get}
use Rattle.std.proofs.Common.{Option, Some, None, ℤ, inl, inr, ◌⊎◌, refl, sym, ap, subst, ◌∙◌, arith}
use Rattle.std.specs.Option.{option_or}
use Rattle.std.proofs.lemmas.Bool.Decides.{nat_tests}
use Rattle.netlist.specs.declared.netlist.Signal.{Signal}
use Rattle.netlist.specs.declared.netlist.Module.{Module}
use Rattle.verilog_meaning.specs.Readings.{Reading}
use Rattle.hls_ints.specs.Types.{IntegerType, wrapped}
use Rattle.block_ir.specs.declared.operand.Source.{Source}
use Rattle.block_ir.specs.declared.operand.Source.TheVariants.{Constant, Variable, Value}
use Rattle.block_ir.specs.declared.operand.Operand.{Operand}
use Rattle.block_ir.specs.declared.block.Operation.{Operation}
use Rattle.block_ir.specs.declared.block.Final.{Final}
use Rattle.block_ir.specs.declared.block.Block.{Block}
use Rattle.block_ir.specs.declared.code.ThreadCode.{ThreadCode}
use Rattle.plan_blocks.specs.View.{source_view, operand_view, converted_to, finals_view}
use Rattle.planned_block.specs.Block.{Operand as PlannedOperand, Through, Final as PlannedFinal, operation_at, size, UsesIn, Uses}
use Rattle.planned_block.specs.Slot.{Slot}
use Rattle.planned_loop.specs.Plan.{final_of, IsOperand, IsBefore, IsBeside, ComesFrom, Comes}
use Rattle.circuit.specs.Modules.{Obeys}
use Rattle.operator_wires.specs.declared.words.Word.{Word}
use Rattle.operator_wires.specs.Gives.{Grows}
use Rattle.operator_wires.specs.Words.{IsWord}
use Rattle.thread_promise.specs.Types.{value_type, operand_type, IsTypedSource, IsTypedFinal}
use Rattle.block_datapath.specs.declared.registers.Registers.{Registers}
use Rattle.block_datapath.specs.Seen.{IsKept}
use Rattle.loop_datapath.specs.declared.times.OperationTime.{OperationTime}
use Rattle.loop_datapath.specs.declared.times.LoopTimes.{LoopTimes}
use Rattle.loop_datapath.specs.declared.times.ValuePlace.{ValuePlace}
use Rattle.loop_datapath.specs.declared.times.ValuePlace.TheVariants.{Wire, Register}
use Rattle.loop_datapath.specs.Times.{time_at, times_view, loop_of, is_now, lateness, age_of, value_place, at_place}
use Rattle.loop_datapath.specs.Ahead.{last_final, value_there, IsAt, SeesLeft, SeesAhead, HasRounds}
use Rattle.loop_datapath.specs.Operations.{IsRightLoop, IsLive, SeesValues, IsComputed, IsShownIn}
use Rattle.loop_datapath.proofs.LastFinals.{last_names, view_final, final_seen}
use Rattle.loop_datapath.proofs.Settled.{value_placed}

-- ---- what an operand is made of, through conversions

pub comes_through : (finals : List PlannedFinal) (f : ℤ → ℤ) (o : PlannedOperand) (t i : ℕ) → Comes finals t o i → Comes finals t (Through f o) i
comes_through finals f o zero i c = c
comes_through finals f o (suc t) i c = (c.0, c.1, c.2)

pub comes_converted : (finals : List PlannedFinal) (types : List IntegerType) (o : PlannedOperand) (t i : ℕ) → Comes finals t o i → Comes finals t (converted_to types o) i
comes_converted finals [] o t i c = c
comes_converted finals (ty ∷ types) o t i c = comes_converted finals types (Through (wrapped ty) o) t i (comes_through finals (wrapped ty) o t i c)

-- a last final is listed
join_listed : (o : Option Final) (b : Bool) (f g : Final) (fs : List Final) → ((h : Final) → o ≡ Some h → (j : ℕ) × (slice_get fs j ≡ Some h)) →
    option_or o (if b then Some f else None) ≡ Some g → (j : ℕ) × (slice_get (f ∷ fs) j ≡ Some g)
join_listed None true f g fs rest e = (0, e)
join_listed None false f g fs rest e = absurd cc
join_listed (Some h) b f g fs rest e = let there = rest g e in (suc there.0, there.1)

pub last_listed : (fs : List Final) (x : ℕ) (g : Final) → last_final fs x ≡ Some g → (j : ℕ) × (slice_get fs j ≡ Some g)
last_listed [] x g e = absurd cc
last_listed (f ∷ fs) x g e = join_listed (last_final fs x) (nat_eq x f.variable) f g fs (last_listed fs x) e

-- ---- where a value is

late_none : (t : OperationTime) (phase : ℕ) → t.phase < phase → lateness t phase ≡ 0
late_none t phase less = let is : nat_lt t.phase phase ≡ true = grind (arith, nat_tests) in ap (λ (b : Bool). if b then 0 else 1) is

late_some : (t : OperationTime) (phase : ℕ) → lateness t phase ≤ 1
late_some t phase = by_test (nat_lt t.phase phase)
  where
    by_test : (b : Bool) → (if b then 0 else 1) ≤ 1
    by_test true = omega arith
    by_test false = omega arith

differ : (a b : ℕ) (c : Bool) → (a ≡ b → ⊥) → (nat_eq a b && c) ≡ false
differ a b c ne = let is : nat_eq a b ≡ false = grind (arith, nat_tests) in ap (λ (k : Bool). k && c) is

other_phase : (b : Bool) (a c : ℕ) → (a ≡ c → ⊥) → (b && nat_eq a c) ≡ false
other_phase true a c ne = grind (arith, nat_tests)
other_phase false a c ne = refl

both_same : (a b c d : ℕ) → a ≡ b → c ≡ d → (nat_eq a b && nat_eq c d) ≡ true
both_same a b c d e f =
    let first : nat_eq a b ≡ true = grind (arith, nat_tests) in
    let second : nat_eq c d ≡ true = grind (arith, nat_tests) in
    ap (λ (k : Bool). k && nat_eq c d) first ∙ second

module _ (globals : List IntegerType) (code : ThreadCode) (registers : Registers) (turn : Block) (times : LoopTimes) (comparison : ℕ)
    (right : IsRightLoop globals code registers turn times comparison) (rounds : List ℕ) (new : List Signal) (words : List Word) (n : ℕ)
    (shown : (k : ℕ) (o : Operation) → k < n → slice_get turn.operations k ≡ Some o →
    (word : Word) × (slice_get words k ≡ Some word) × IsShownIn globals code registers turn times rounds new k o word) (m : Module) (r : Reading) (q : Slot)
    (wire : ℕ → ℤ) (begun phase : ℕ) (grows : Grows new m.signals) (obeys : Obeys m r) (has : HasRounds m r rounds times.stages begun) (less : begun < times.stages)
    (sees : SeesValues globals code registers turn times m r q begun phase)
    (computed : IsComputed globals code registers turn times comparison begun phase q wire) where
  abbrev time : ℕ → OperationTime
  time i = time_at times.operations i

  abbrev finals : List PlannedFinal
  finals = finals_view turn.finals

  abbrev Sees : ℕ → Source → Type 0
  Sees = SeesAhead m r registers words code.variables turn comparison times begun phase q wire

  -- the last state of operation i is before this phase of stage s, or is it, and then it is one of the first n and of the same iteration
  abbrev IsThere : ℕ → ℕ → ℕ → Type 0
  IsThere t i s = ((time i).stage < s) ⊎ (((time i).stage ≡ s) × ((time i).phase < phase))
      ⊎ ((t ≡ 0) × ((time i).stage ≡ s) × ((time i).phase ≡ phase) × (i < n))

  -- a value that a register keeps
  in_register : (s d i : ℕ) (o : Operation) → s + d ≡ begun → slice_get turn.operations i ≡ Some o → is_now (time i) begun phase d ≡ false →
      (time i).stage + d + lateness (time i) phase ≤ begun →
      IsAt m r registers words (value_place times.operations begun phase d i) i (value_type globals code o)
      (value_there turn comparison times begun phase q wire d i)
  in_register s d i o at listed not_now ahead =
      let age = age_of (time i) begun phase d in
      let x = (time i).chain + age in
      let place : value_place times.operations begun phase d i ≡ Register x = ap (λ (b : Bool). if b then Wire else Register x) not_now in
      let live : IsLive globals code registers turn times begun phase i age x =
      record { operation = o; listed = listed; register = refl; ahead = (let e : age + (time i).stage + lateness (time i) phase ≤ begun = omega arith in e) } in
      let is : IsKept m r registers (Some x) (value_type globals code o) (q.registers x) = sees.live i age x live in
      let value = value_placed turn comparison times phase q wire begun d i ∙ ap (at_place wire q.registers i) place in
      subst (λ (v : ℤ). IsAt m r registers words (value_place times.operations begun phase d i) i (value_type globals code o) v) (sym value)
      (subst (λ (p : ValuePlace). IsAt m r registers words p i (value_type globals code o) (q.registers x)) (sym place) is)

  -- a value that is on its wire
  on_wire : (s d i : ℕ) (o : Operation) → s + d ≡ begun → slice_get turn.operations i ≡ Some o → (time i).stage ≡ s → (time i).phase ≡ phase → i < n →
      IsAt m r registers words (value_place times.operations begun phase d i) i (value_type globals code o)
      (value_there turn comparison times begun phase q wire d i)
  on_wire s d i o at listed same here lt =
      let sum : (time i).stage + d ≡ begun = omega arith in
      let now : is_now (time i) begun phase d ≡ true = both_same ((time i).stage + d) begun (time i).phase phase sum here in
      let age = age_of (time i) begun phase d in
      let place : value_place times.operations begun phase d i ≡ Wire = ap (λ (b : Bool). if b then Wire else Register ((time i).chain + age)) now in
      let t = shown i o lt listed in
      let low : (time i).stage ≤ begun = omega arith in
      let is : IsWord m r t.0 (value_type globals code o) (wire i) =
      t.2.shows comparison m r q wire begun right grows obeys has less low
      (subst (λ k. SeesValues globals code registers turn times m r q begun k) (sym here) sees)
      (subst (λ k. IsComputed globals code registers turn times comparison begun k q wire) (sym here) computed) in
      let value = value_placed turn comparison times phase q wire begun d i ∙ ap (at_place wire q.registers i) place in
      subst (λ (v : ℤ). IsAt m r registers words (value_place times.operations begun phase d i) i (value_type globals code o) v) (sym value)
      (subst (λ (p : ValuePlace). IsAt m r registers words p i (value_type globals code o) (wire i)) (sym place) (t.0, t.1, is))

  value_seen : (t s d i : ℕ) (o : Operation) → s + d ≡ begun → slice_get turn.operations i ≡ Some o → IsThere t i s →
      IsAt m r registers words (value_place times.operations begun phase d i) i (value_type globals code o)
      (value_there turn comparison times begun phase q wire d i)
  value_seen t s d i o at listed (inl before) =
      let some = late_some (time i) phase in
      in_register s d i o at listed (differ ((time i).stage + d) begun (nat_eq (time i).phase phase) (λ e. absurd (omega arith))) (omega arith)
  value_seen t s d i o at listed (inr (inl before)) =
      let none = late_none (time i) phase before.1 in
      let e = before.0 in
      in_register s d i o at listed (other_phase (nat_eq ((time i).stage + d) begun) (time i).phase phase (λ f. absurd (let l = before.1 in omega arith))) (omega arith)
  value_seen t s d i o at listed (inr (inr beside)) = on_wire s d i o at listed beside.1 beside.2 beside.3

  -- a source, by what it is made of in this iteration and those before it
  value_source : (d i : ℕ) (ty : IntegerType) →
      IsAt m r registers words (value_place times.operations begun phase d i) i ty (value_there turn comparison times begun phase q wire d i) → Sees d (Value i ty)
  value_source zero i ty is = is
  value_source (suc d) i ty is = is

  constant_source : (d : ℕ) (ty : IntegerType) (v : ℤ) → IsTypedSource globals code turn.operations (Constant ty v) → Sees d (Constant ty v)
  constant_source zero ty v typed = typed
  constant_source (suc d) ty v typed = typed

  pub source_seen : (d s : ℕ) (source : Source) → s + d ≡ begun → IsTypedSource globals code turn.operations source →
      ((t i : ℕ) → t ≤ d → Comes finals t (source_view source) i → IsThere t i (s + t)) → Sees d source
  source_seen d s (Constant ty v) at typed there = constant_source d ty v typed
  source_seen d s (Value i ty) at typed there =
      let first : s + 0 + d ≡ begun = omega arith in
      value_source d i ty
      (subst (λ (k : IntegerType). IsAt m r registers words (value_place times.operations begun phase d i) i k (value_there turn comparison times begun phase q wire d i))
      typed.2 (value_seen 0 (s + 0) d i typed.0 first typed.1 (there 0 i (omega arith) refl)))
  source_seen zero s (Variable x ty) at typed there = sees.variables x ty typed
  source_seen (suc d) s (Variable x ty) at typed there =
      by_final (last_final turn.finals x) refl (λ source next is made_of. source_seen d (suc s) source next is made_of)
    where
      by_final : (o : Option Final) → last_final turn.finals x ≡ o →
          ((source : Source) → suc s + d ≡ begun → IsTypedSource globals code turn.operations source →
          ((t i : ℕ) → t ≤ d → Comes finals t (source_view source) i → IsThere t i (suc s + t)) → Sees d source) →
          SeesLeft m r registers words code.variables (Sees d) o x ty (q.variables x)
      by_final None found rest = sees.variables x ty typed
      by_final (Some f) found rest =
          let named = last_names turn.finals x f found in
          let listed = last_listed turn.finals x f found in
          let final : IsTypedFinal globals code turn.operations f = right.typed.finals listed.0 f listed.1 in
          let declared : slice_get code.variables x ≡ Some (operand_type f.value) = subst (λ k. slice_get code.variables k ≡ Some (operand_type f.value)) named final.1 in
          let next : suc s + d ≡ begun = omega arith in
          let made : final_of finals x ≡ Some (operand_view f.value) = final_seen turn.finals x ∙ ap view_final found in (
            typed,
            (let e = typed in cc),
            rest f.value.source next final.0
                (λ t i le c. back t i (there (suc t) i (omega arith) (
                  x,
                  refl,
                  subst (λ (a : Option PlannedOperand). ComesFrom (Comes finals t) a x i) (sym made)
                      (comes_converted finals f.value.conversions (source_view f.value.source) t i c),
                ))),
          )
        where
          back : (t i : ℕ) → IsThere (suc t) i (s + suc t) → IsThere t i (suc s + t)
          back t i (inl before) = inl (omega arith)
          back t i (inr (inl before)) = let e = before.0 in inr (inl ((let z : (time i).stage ≡ suc s + t = omega arith in z), before.1))
          back t i (inr (inr beside)) = absurd (let z = beside.0 in omega arith)

  -- an operand of operation n, in its own phase
  pub operand_seen : (a : Operand) (b : PlannedOperand) → phase ≡ (time n).phase → (time n).stage ≤ begun → n < size (loop_of turn comparison).block →
      IsTypedSource globals code turn.operations a.source → IsOperand (operation_at (loop_of turn comparison).block n) b →
      ((t i : ℕ) → Comes finals t (source_view a.source) i → Comes finals t b i) → Sees (begun - (time n).stage) a.source
  operand_seen a b here low lt typed is through =
      source_seen (begun - (time n).stage) (time n).stage a.source (omega arith) typed
      (λ t i le c. by_order t i (right.keeps.waits n t i b lt is (through t i c)) (through t i c))
    where
      by_order : (t i : ℕ) → IsBefore (loop_of turn comparison) (times_view times) i n t ⊎ IsBeside (loop_of turn comparison) (times_view times) i n t → Comes finals t b i →
          IsThere t i ((time n).stage + t)
      by_order t i (inl (inl before)) c = inl before
      by_order t i (inl (inr before)) c = inr (inl (before.0, (let l = before.1 in omega arith)))
      by_order zero i (inr beside) c =
          let e = beside.1 in
          let f = beside.2 in
          inr (inr (
            refl,
            (let z : (time i).stage ≡ (time n).stage + 0 = omega arith in z),
            (let z : (time i).phase ≡ phase = omega arith in z),
            right.keeps.earlier i n lt (used is c),
          ))
        where
          used : IsOperand (operation_at (loop_of turn comparison).block n) b → UsesIn b i → Uses (operation_at (loop_of turn comparison).block n) i
          used (inl e) u = inl (subst (λ (o : PlannedOperand). UsesIn o i) e u)
          used (inr e) u = inr (subst (λ (o : PlannedOperand). UsesIn o i) e u)
      by_order (suc t) i (inr beside) c = absurd (let z = beside.0 in omega arith)
