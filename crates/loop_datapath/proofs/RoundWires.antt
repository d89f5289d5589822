-- Wires of operands in each round, and of operations: lemmas of each function that adds some.
use Rattle.std.proofs.Common.{◌≡◌, ℕ, zero, suc, ◌<◌, ◌≤◌, List, [], ◌∷◌, ◌++◌, length, slice_get, slice_index, Some, refl, sym, subst, arith}
use Rattle.std.specs.Prelude.{Result, IfOk}
use Rattle.netlist.specs.declared.netlist.Signal.{Signal}
use Rattle.hls_ints.specs.Types.{IntegerType, width_of}
use Rattle.block_ir.specs.declared.block.Operation.{Operation}
use Rattle.block_ir.specs.declared.code.ThreadCode.{ThreadCode}
use Rattle.operator_wires.specs.declared.words.Word.{Word}
use Rattle.operator_wires.specs.Built.{Base, IsEarlier, Adds, StandsAs, AddsWord}
use Rattle.operator_wires.specs.Added.{ChoiceAdds, IsConstant, IsConverted, IsOfTwo}
use Rattle.operator_wires.proofs.BuiltWires.{stands_after, wires_none, wires_then}
use Rattle.operator_wires.proofs.TypedWords.{word_of, word_after}
use Rattle.operator_wires.proofs.MadeWords.{of_ok}
use Rattle.thread_promise.specs.Types.{value_type, element_type}
use Rattle.block_datapath.specs.declared.registers.Registers.{Registers}
use Rattle.block_datapath.specs.Wired.{IsElementWord}
use Rattle.block_datapath.proofs.BlockWires.{room, registers_after, word_stands_after}
use Rattle.loop_datapath.specs.Wired.{AreWords, AreBits, AreFound, IsWordAhead, IsFurther, IsWordIn, IsOperationIn, AreWordsAdded}
use Rattle.loop_datapath.proofs.AheadWires.{words_after, bits_after, found_after}

-- a place of the list is what its number says
place_listed : (xs : List ℕ) (k : ℕ) → k < length xs → slice_get xs k ≡ Some (slice_index xs k)
place_listed [] k less = absurd (omega arith)
place_listed (x ∷ xs) zero less = refl
place_listed (x ∷ xs) (suc k) less = place_listed xs k (omega arith)

pub bit_there : (a : List Signal) (base : Base) (bits : List ℕ) (k : ℕ) → AreBits a base bits → k < length bits → IsEarlier a base (slice_index bits k) 1
bit_there a base bits k are less = are k (slice_index bits k) (place_listed bits k less)

module _ (types : List IntegerType) (registers : Registers) (words : List Word) (rounds : List ℕ) where
  -- ---- an operand, round by round

  pub further_wired : {E : Type 0} (x : Result ℕ E) (a b c : List Signal) (begun round w place : ℕ) (ty : IntegerType) (later : Word) → w ≡ width_of ty →
      round ≡ slice_index rounds begun → IsWordAhead a b types registers words ty later → IfOk x (ChoiceAdds b c w round later.place place) →
      IfOk x (IsFurther a c types registers words rounds begun ty place)
  further_wired x a b c begun round w place ty later says found t made =
      of_ok x (ChoiceAdds b c w round later.place place) (IsFurther a c types registers words rounds begun ty place)
      (λ out u base is bits less stands.
      let first = t base is in
      let bit = stands_after a b base (slice_index rounds begun) 1 first.wires.grows (bit_there a base rounds begun bits less) in
      let other = stands_after a b base place (width_of ty) first.wires.grows stands in
      let added : Adds base b c (width_of ty) out =
      subst (λ k. Adds base b c k out) says
      (u base (subst (λ k. IsEarlier b base k 1) (sym found) bit) (subst (λ k. IsEarlier b base later.place k) (sym says) first.word.stands)
      (subst (λ k. IsEarlier b base place k) (sym says) other)) in
      record { wires = wires_then base a b c first.wires added.wires; stands = added.stands }) made

  -- what stands while rounds are added: a place as wide as the type
  abbrev pub IsPlaceIn : List Signal → List Signal → ℕ → IntegerType → ℕ → Type 0
  IsPlaceIn a b stages ty place =
      (base : Base) → AreFound a base types registers words → AreBits a base rounds → stages ≤ length rounds → Adds base a b (width_of ty) place

  pub first_place : (a b : List Signal) (stages : ℕ) (ty : IntegerType) (word : Word) → IsWordAhead a b types registers words ty word → IsPlaceIn a b stages ty word.place
  first_place a b stages ty word t base is bits many = let made = t base is in record { wires = made.wires; stands = made.word.stands }

  pub more_place : (a b c : List Signal) (stages round : ℕ) (ty : IntegerType) (place out : ℕ) → round < stages → IsPlaceIn a b stages ty place →
      IsFurther b c types registers words rounds round ty place out → IsPlaceIn a c stages ty out
  more_place a b c stages round ty place out less t u base is bits many =
      let first = t base is bits many in
      let next = u base (found_after a b base types registers words first.wires.grows is) (bits_after a b base rounds first.wires.grows bits) (omega arith) first.stands in
      record { wires = wires_then base a b c first.wires next.wires; stands = next.stands }

  pub place_word : (a b : List Signal) (stages : ℕ) (ty : IntegerType) (place : ℕ) (out : Word) → out.place ≡ place → out.width ≡ width_of ty → out.signed ≡ ty.signed →
      IsPlaceIn a b stages ty place → IsWordIn a b types registers words rounds stages ty out
  place_word a b stages ty place out at says sign t base is bits many = word_of base a b ty place out (t base is bits many) at says sign

  -- ---- operators

  pub unary_wired : {E : Type 0} (x : Result Word E) (a b c : List Signal) (stages : ℕ) (own ty : IntegerType) (word : Word) →
      IsWordIn a b types registers words rounds stages own word → IfOk x (IsConverted b c word ty) → IfOk x (IsWordIn a c types registers words rounds stages ty)
  unary_wired x a b c stages own ty word t made =
      of_ok x (IsConverted b c word ty) (IsWordIn a c types registers words rounds stages ty)
      (λ out u base is bits many.
      let first = t base is bits many in
      word_after base a b c ty out first.wires (u base own first.word)) made

  pub binary_wired : {E : Type 0} (x : Result Word E) (a b c d : List Signal) (stages : ℕ) (s t ty : IntegerType) (left right : Word) →
      IsWordIn a b types registers words rounds stages s left → IsWordIn b c types registers words rounds stages t right → IfOk x (IsOfTwo c d left right ty) →
      IfOk x (IsWordIn a d types registers words rounds stages ty)
  binary_wired x a b c d stages s t ty left right one two made =
      of_ok x (IsOfTwo c d left right ty) (IsWordIn a d types registers words rounds stages ty)
      (λ out u base is bits many.
      let first = one base is bits many in
      let second = two base (found_after a b base types registers words first.wires.grows is) (bits_after a b base rounds first.wires.grows bits) many in
      word_after base a c d ty out (wires_then base a b c first.wires second.wires)
      (u base s t (word_stands_after b c base s left second.wires.grows first.word) second.word)) made

-- ---- operations

module _ (code : ThreadCode) (registers : Registers) (words : List Word) (rounds : List ℕ) (stages : ℕ) where
  pub element_wired : {E : Type 0} (x : Result Word E) (a b c : List Signal) (array : ℕ) (own : IntegerType) (word : Word) →
      IsWordIn a b code.variables registers words rounds stages own word → IfOk x (IsElementWord b c code array word) →
      IfOk x (IsOperationIn a c code registers words rounds stages (element_type (slice_get code.arrays array)))
  element_wired x a b c array own word t made =
      of_ok x (IsElementWord b c code array word) (IsOperationIn a c code registers words rounds stages (element_type (slice_get code.arrays array)))
      (λ out u base reads is bits many.
      let first = t base is bits many in
      word_after base a b c (element_type (slice_get code.arrays array)) out first.wires (u base own reads.memories first.word)) made

  -- an arm of a match on an operation
  pub operation_wired : {E : Type 0} (x : Result Word E) (a b : List Signal) (globals : List IntegerType) (ty : IntegerType) (operation known : Operation) →
      operation ≡ known → IfOk x (IsWordIn a b code.variables registers words rounds stages ty) → value_type globals code known ≡ ty →
      IfOk x (IsOperationIn a b code registers words rounds stages (value_type globals code operation))
  operation_wired x a b globals ty operation known e made same =
      subst (λ (o : Operation). IfOk x (IsOperationIn a b code registers words rounds stages (value_type globals code o))) (sym e)
      (of_ok x (IsWordIn a b code.variables registers words rounds stages ty) (IsOperationIn a b code registers words rounds stages (value_type globals code known))
      (λ out t base reads is bits many. subst (λ (k : IntegerType). AddsWord base a b k out) (sym same) (t base is bits many)) made)

  pub read_wired : {E : Type 0} (x : Result Word E) (a b : List Signal) (globals : List IntegerType) (ty : IntegerType) (operation known : Operation) →
      operation ≡ known → IfOk x (IsOperationIn a b code registers words rounds stages ty) → value_type globals code known ≡ ty →
      IfOk x (IsOperationIn a b code registers words rounds stages (value_type globals code operation))
  read_wired x a b globals ty operation known e made same =
      subst (λ (o : Operation). IfOk x (IsOperationIn a b code registers words rounds stages (value_type globals code o))) (sym e)
      (subst (λ (k : IntegerType). IfOk x (IsOperationIn a b code registers words rounds stages k)) (sym same) made)

  pub constant_wired : {E : Type 0} (x : Result Word E) (a b : List Signal) (ty known : IntegerType) → IfOk x (IsConstant a b ty) → ty ≡ known →
      IfOk x (IsOperationIn a b code registers words rounds stages known)
  constant_wired x a b ty known made same =
      of_ok x (IsConstant a b ty) (IsOperationIn a b code registers words rounds stages known)
      (λ out t base reads is bits many. subst (λ (k : IntegerType). AddsWord base a b k out) same (t base (room a base code.variables registers is.registers))) made

-- ---- all operations

pub wired_none : (a : List Signal) (code : ThreadCode) (registers : Registers) (rounds : List ℕ) (stages : ℕ) → AreWordsAdded a a code registers rounds stages []
wired_none a code registers rounds stages base reads is bits many = record { wires = wires_none base a; words = λ k w e. absurd cc }

one_more : (a : List Signal) (base : Base) (words : List Word) (w : Word) (ty : IntegerType) → AreWords a base words → StandsAs a base ty w → AreWords a base (words ++ w ∷ [])
one_more a base [] w ty is stands zero v e = (ty, (let same : w ≡ v = cc in subst (λ (z : Word). StandsAs a base ty z) same stands))
one_more a base [] w ty is stands (suc k) v e = absurd cc
one_more a base (u ∷ words) w ty is stands zero v e = is zero v e
one_more a base (u ∷ words) w ty is stands (suc k) v e = one_more a base words w ty (λ j x f. is (suc j) x f) stands k v e

pub wired_more : (a b c : List Signal) (code : ThreadCode) (registers : Registers) (rounds : List ℕ) (stages : ℕ) (words : List Word) (word out : Word) (ty : IntegerType) →
    AreWordsAdded a b code registers rounds stages words → IsOperationIn b c code registers words rounds stages ty word → out.place ≡ word.place →
    out.width ≡ width_of ty → out.signed ≡ ty.signed → AreWordsAdded a c code registers rounds stages (words ++ out ∷ [])
wired_more a b c code registers rounds stages words word out ty t u at says sign base reads is bits many =
    let first = t base reads is bits many in
    let grown = first.wires.grows in
    let next = u base reads (record { registers = registers_after a b base code.variables registers grown is; words = first.words }) (bits_after a b base rounds grown bits) many in
    let own : StandsAs c base ty out = record { says = says; sign = sign; stands = subst (λ k. IsEarlier c base k (width_of ty)) (sym at) next.word.stands } in
    record {
      wires = wires_then base a b c first.wires next.wires;
      words = one_more c base words out ty (words_after b c base words next.wires.grows first.words) own;
    }
