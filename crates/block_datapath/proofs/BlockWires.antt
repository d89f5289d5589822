-- Wires of operands, operations and chains: lemmas of each function that adds some.
use Rattle.std.proofs.Common.{◌≡◌, ℕ, zero, suc, ◌<◌, ◌≤◌, ◌^◌, true, false, arith, List, [], ◌∷◌, ◌++◌, length, slice_get, Option, Some, None, sym, ap, subst, ◌∙◌}
use Rattle.std.specs.Prelude.{Result, IfOk}
use Rattle.std.proofs.lemmas.Nat.{pow_pos}
use Rattle.netlist.specs.declared.netlist.Signal.{Signal}
use Rattle.netlist.specs.declared.netlist.Value.TheVariants.{MemoryRead}
use Rattle.block_ir.specs.declared.code.Array.{Array}
use Rattle.hls_ints.specs.Types.{IntegerType, width_of}
use Rattle.block_ir.specs.declared.operand.Source.{Source}
use Rattle.block_ir.specs.declared.operand.Operand.{Operand}
use Rattle.block_ir.specs.declared.block.Operation.{Operation}
use Rattle.block_ir.specs.declared.code.ThreadCode.{ThreadCode}
use Rattle.c_program.specs.declared.tree.BinaryOperator.{BinaryOperator}
use Rattle.operator_wires.specs.Shown.{truth_type, binary_result}
use Rattle.operator_wires.specs.declared.words.Word.{Word}
use Rattle.operator_wires.specs.Gives.{Grows}
use Rattle.operator_wires.specs.Built.{Base, IsEarlier, Adds, StandsAs, AddsWord}
use Rattle.operator_wires.specs.Added.{IsAdded, ConstantAdds, ResizedAdds, IsConstant, IsConverted, IsOfTwo, LikeOne}
use Rattle.operator_wires.proofs.BuiltWires.{stands_after, room_of, wires_none, wires_then}
use Rattle.operator_wires.proofs.TypedWords.{at_least, at_most, own, word_of, word_none, word_after, word_like}
use Rattle.operator_wires.proofs.MadeWords.{of_ok}
use Rattle.thread_promise.specs.Types.{source_type, last_type, operand_type, value_type, element_type}
use Rattle.block_datapath.specs.declared.registers.Held.{Held}
use Rattle.block_datapath.specs.declared.registers.Registers.{Registers}
use Rattle.block_datapath.specs.declared.operands.Given.{Given}
use Rattle.block_datapath.specs.Seen.{kept_register}
use Rattle.block_datapath.specs.Wired.{AreRegisters, AreValues, AreSources, IsSourced, AreConverted, IsVariableWord, IsValueWord, IsGivenWord, IsNarrow}
use Rattle.block_datapath.specs.Wired.{IsOperationWord, IsElementWord, IsAddress, AreGiven}
use Rattle.block_datapath.specs.Units.{unit_place}
use Rattle.block_datapath.proofs.SharedResults.{listed_at, result_own, wide_as}
use Rattle.block_datapath.proofs.OperandWords.{last_more}

-- ---- what stands goes on standing

pub registers_after : (a b : List Signal) (base : Base) (types : List IntegerType) (registers : Registers) → Grows a b → AreRegisters a base types registers →
    AreRegisters b base types registers
registers_after a b base types registers g is = record {
  stage = stands_after a b base registers.stage.register registers.stage.width g is.stage;
  state = stands_after a b base registers.state.register registers.state.width g is.state;
  beat = stands_after a b base registers.beat 1 g is.beat;
  variables = λ x h e.
      let v = is.variables x h e in
      record { ty = v.ty; declared = v.declared; says = v.says; stands = stands_after a b base h.register (width_of v.ty) g v.stands };
  kept = λ x h e. stands_after a b base h.register h.width g (is.kept x h e);
  words = λ n h e l. stands_after a b base h.register h.width g (is.words n h e l);
  units = λ x n place u e f. stands_after a b base place (width_of u.ty) g (is.units x n place u e f);
}

pub word_stands_after : (a b : List Signal) (base : Base) (ty : IntegerType) (word : Word) → Grows a b → StandsAs a base ty word → StandsAs b base ty word
word_stands_after a b base ty word g is = record { says = is.says; sign = is.sign; stands = stands_after a b base word.place (width_of ty) g is.stands }

pub values_after : (a b : List Signal) (base : Base) (values : List Given) → Grows a b → AreValues a base values → AreValues b base values
values_after a b base values g is k v e = let w = is k v e in (w.0, word_stands_after a b base w.0 v.word g w.1)

pub sources_after : (a b : List Signal) (base : Base) (types : List IntegerType) (registers : Registers) (values : List Given) → Grows a b →
    AreSources a base types registers values
    → AreSources b base types registers values
sources_after a b base types registers values g is =
    record { registers = registers_after a b base types registers g is.registers; values = values_after a b base values g is.values }

-- registers leave no room for wires among the first ones
pub room : (a : List Signal) (base : Base) (types : List IntegerType) (registers : Registers) → AreRegisters a base types registers → base.first ≤ length a
room a base types registers is = room_of a base registers.stage.register registers.stage.width is.stage

-- ---- operands

pub constant_sourced : {E : Type 0} (x : Result Word E) (a b : List Signal) (types : List IntegerType) (registers : Registers) (values : List Given) (source known : Source) →
    source ≡ known
    → IfOk x (IsConstant a b (source_type known)) → IfOk x (IsSourced a b types registers values (source_type source))
constant_sourced x a b types registers values source known e made =
    subst (λ (s : Source). IfOk x (IsSourced a b types registers values (source_type s))) (sym e)
    (of_ok x (IsConstant a b (source_type known)) (IsSourced a b types registers values (source_type known))
    (λ out t base is. t base (room a base types registers is.registers)) made)

pub variable_sourced : {E : Type 0} (x : Result Word E) (a b : List Signal) (types : List IntegerType) (registers : Registers) (values : List Given) (source known : Source) →
    source ≡ known
    → IfOk x (IsVariableWord a b types registers (source_type known)) → IfOk x (IsSourced a b types registers values (source_type source))
variable_sourced x a b types registers values source known e made =
    subst (λ (s : Source). IfOk x (IsSourced a b types registers values (source_type s))) (sym e)
    (of_ok x (IsVariableWord a b types registers (source_type known)) (IsSourced a b types registers values (source_type known)) (λ out t base is. t base is.registers) made)

pub value_sourced : {E : Type 0} (x : Result Word E) (a b : List Signal) (types : List IntegerType) (registers : Registers) (values : List Given) (source known : Source) →
    source ≡ known
    → IfOk x (IsValueWord a b registers values (source_type known)) → IfOk x (IsSourced a b types registers values (source_type source))
value_sourced x a b types registers values source known e made =
    subst (λ (s : Source). IfOk x (IsSourced a b types registers values (source_type s))) (sym e)
    (of_ok x (IsValueWord a b registers values (source_type known)) (IsSourced a b types registers values (source_type known)) (λ out t base is. t base types is) made)

-- 0 where there is no such variable, or no such value
pub missing_variable : {E : Type 0} (x : Result Word E) (a b : List Signal) (types : List IntegerType) (registers : Registers) (ty : IntegerType) → IfOk x (IsConstant a b ty)
    → IfOk x (IsVariableWord a b types registers ty)
missing_variable x a b types registers ty made =
    of_ok x (IsConstant a b ty) (IsVariableWord a b types registers ty) (λ out t base is. t base (room a base types registers is)) made

pub missing_value : {E : Type 0} (x : Result Word E) (a b : List Signal) (registers : Registers) (values : List Given) (ty : IntegerType) → IfOk x (IsConstant a b ty)
    → IfOk x (IsValueWord a b registers values ty)
missing_value x a b registers values ty made =
    of_ok x (IsConstant a b ty) (IsValueWord a b registers values ty) (λ out t base types is. t base (room a base types registers is.registers)) made

pub variable_wired : {E : Type 0} (x : Result Word E) (a b : List Signal) (types : List IntegerType) (registers : Registers) (k : ℕ) (ty own : IntegerType) (held : Held)
    (word : Word)
    → slice_get registers.variables k ≡ Some held → slice_get types k ≡ Some own → word.place ≡ held.register → word.width ≡ width_of own → word.signed ≡ own.signed
    → IfOk x (IsConverted a b word ty) → IfOk x (IsVariableWord a b types registers ty)
variable_wired x a b types registers k ty own held word e f place wide sign made =
    of_ok x (IsConverted a b word ty) (IsVariableWord a b types registers ty)
    (λ out t base is.
    let v = is.variables k held e in
    let d = v.declared in
    let same : v.ty ≡ own = cc in
    let there : IsEarlier a base held.register (width_of own) = subst (λ (n : IntegerType). IsEarlier a base held.register (width_of n)) same v.stands in
    t base own (record { says = wide; sign = sign; stands = subst (λ n. IsEarlier a base n (width_of own)) (sym place) there })) made

pub value_wired : {E : Type 0} (x : Result Word E) (a b c : List Signal) (registers : Registers) (values : List Given) (k : ℕ) (ty : IntegerType) (given : Given) (word : Word)
    → slice_get values k ≡ Some given → IsGivenWord a b registers given word → IfOk x (IsConverted b c word ty) → IfOk x (IsValueWord a c registers values ty)
value_wired x a b c registers values k ty given word e t made =
    of_ok x (IsConverted b c word ty) (IsValueWord a c registers values ty)
    (λ out u base types is.
    let v = is.values k given e in
    let first = t base types v.0 is.registers v.1 in
    word_after base a b c ty out first.wires (u base v.0 first.word)) made

pub given_own : (a : List Signal) (registers : Registers) (given : Given) → IsGivenWord a a registers given given.word
given_own a registers given base types ty is stands = word_none base a ty given.word stands

kept_stands : (a : List Signal) (base : Base) (types : List IntegerType) (registers : Registers) (number : Option ℕ) (held : Held) → kept_register registers.kept number ≡ Some held
    → AreRegisters a base types registers → IsEarlier a base held.register held.width
kept_stands a base types registers None held e is = absurd cc
kept_stands a base types registers (Some n) held e is = is.kept n held e

pub kept_wired : {E : Type 0} (x : Result Word E) (a b : List Signal) (registers : Registers) (given : Given) (held : Held) →
    kept_register registers.kept given.register ≡ Some held
    → IfOk x (IsNarrow a b held given.word) → IfOk x (IsGivenWord a b registers given)
kept_wired x a b registers given held e made =
    of_ok x (IsNarrow a b held given.word) (IsGivenWord a b registers given)
    (λ out t base types ty is stands. t base ty (kept_stands a base types registers given.register held e is) stands) made

pub zero_wired : {E : Type 0} (x : Result Word E) (a b : List Signal) (registers : Registers) (given : Given) → IfOk x (LikeOne a b given.word) →
    IfOk x (IsGivenWord a b registers given)
zero_wired x a b registers given made = of_ok x (LikeOne a b given.word) (IsGivenWord a b registers given) (λ out t base types ty is stands. t base ty stands) made

pub narrow_wired : (a b : List Signal) (held : Held) (word out : Word) (place : ℕ) → ResizedAdds a b held.register held.width word.width false place → out.place ≡ place
    → out.width ≡ word.width → out.signed ≡ word.signed → IsNarrow a b held word out
narrow_wired a b held word out place t at wide sign base ty e is =
    let w = own base a ty word is in
    word_like base a b ty word out place is (t base e w.low w.high (λ (no : false ≡ true). absurd cc)) at wide sign

pub zero_like_wired : (a b : List Signal) (word out : Word) (place : ℕ) → ConstantAdds a b word.width 0 place → out.place ≡ place → out.width ≡ word.width →
    out.signed ≡ word.signed
    → LikeOne a b word out
zero_like_wired a b word out place t at wide sign base ty is =
    let w = own base a ty word is in
    word_like base a b ty word out place is (t base (room_of a base word.place word.width w) w.low w.high (pow_pos word.width)) at wide sign

-- ---- conversions

pub converted_none : (a : List Signal) (word : Word) → AreConverted a a word [] word
converted_none a word base from is = word_none base a from word is

pub converted_more : (a b c : List Signal) (word middle out : Word) (types : List IntegerType) (t : IntegerType) → AreConverted a b word types middle → IsConverted b c middle t out
    → AreConverted a c word (types ++ t ∷ []) out
converted_more a b c word middle out types t u v base from is =
    let first = u base from is in
    subst (λ (k : IntegerType). AddsWord base a c k out) (sym (last_more types t from)) (word_after base a b c t out first.wires (v base (last_type from types) first.word))

pub operand_wired : {E : Type 0} (x : Result Word E) (a b c : List Signal) (types : List IntegerType) (registers : Registers) (values : List Given) (operand : Operand)
    (word : Word)
    → IsSourced a b types registers values (source_type operand.source) word → IfOk x (AreConverted b c word operand.conversions)
    → IfOk x (IsSourced a c types registers values (operand_type operand))
operand_wired x a b c types registers values operand word t made =
    of_ok x (AreConverted b c word operand.conversions) (IsSourced a c types registers values (operand_type operand))
    (λ out u base is.
    let first = t base is in
    word_after base a b c (operand_type operand) out first.wires (u base (source_type operand.source) first.word)) made

-- ---- operations

pub unary_wired : {E : Type 0} (x : Result Word E) (a b c : List Signal) (types : List IntegerType) (registers : Registers) (values : List Given) (own ty : IntegerType)
    (word : Word)
    → IsSourced a b types registers values own word → IfOk x (IsConverted b c word ty) → IfOk x (IsSourced a c types registers values ty)
unary_wired x a b c types registers values own ty word t made =
    of_ok x (IsConverted b c word ty) (IsSourced a c types registers values ty)
    (λ out u base is.
    let first = t base is in
    word_after base a b c ty out first.wires (u base own first.word)) made

pub binary_wired : {E : Type 0} (x : Result Word E) (a b c d : List Signal) (types : List IntegerType) (registers : Registers) (values : List Given) (s t ty : IntegerType)
    (left right : Word)
    → IsSourced a b types registers values s left → IsSourced b c types registers values t right → IfOk x (IsOfTwo c d left right ty) →
    IfOk x (IsSourced a d types registers values ty)
binary_wired x a b c d types registers values s t ty left right one two made =
    of_ok x (IsOfTwo c d left right ty) (IsSourced a d types registers values ty)
    (λ out u base is.
    let first = one base is in
    let second = two base (sources_after a b base types registers values first.wires.grows is) in
    word_after base a c d ty out (wires_then base a b c first.wires second.wires)
    (u base s t (word_stands_after b c base s left second.wires.grows first.word) second.word)) made

-- the result of a unit that is shared
pub unit_wired : (a : List Signal) (types : List IntegerType) (registers : Registers) (values : List Given) (operator : BinaryOperator) (ty : IntegerType) (n place : ℕ) (out : Word)
    → unit_place registers.units operator ty n ≡ Some place → out.place ≡ place → out.width ≡ width_of ty → out.signed ≡ ty.signed →
    IsSourced a a types registers values (binary_result operator ty) out
unit_wired a types registers values operator ty n place out found at says sign base is =
    let t = listed_at registers.units operator ty n place found in
    let stands = is.registers.units t.number n place t.results t.listed t.stands in
    let there : IsEarlier a base place (width_of ty) = subst (λ (w : ℕ). IsEarlier a base place w) (wide_as registers.units operator ty n place found t) stands in
    let word : StandsAs a base ty out = record { says = says; sign = sign; stands = subst (λ (k : ℕ). IsEarlier a base k (width_of ty)) (sym at) there } in
    subst (λ (k : IntegerType). AddsWord base a a k out) (sym (result_own registers.units operator ty n place found)) (word_none base a ty out word)

-- 0 where there is no such array
pub no_element : {E : Type 0} (x : Result Word E) (a b : List Signal) (code : ThreadCode) (array : ℕ) (index : Word) → slice_get code.arrays array ≡ None →
    IfOk x (IsConstant a b truth_type)
    → IfOk x (IsElementWord a b code array index)
no_element x a b code array index none made =
    of_ok x (IsConstant a b truth_type) (IsElementWord a b code array index)
    (λ out t base from memories is.
    subst (λ (k : IntegerType). AddsWord base a b k out) (sym (ap element_type none)) (t base (room_of a base index.place (width_of from) is.stands))) made

-- an index that is wide enough is its own address, else it is resized
pub address_own : (a : List Signal) (index : Word) (size : ℕ) → size < 2 ^ index.width → IsAddress a a index size index.place
address_own a index size room base ty is = record { wires = wires_none base a; wide = index.width; stands = own base a ty index is; room = room }

pub address_resized : {E : Type 0} (x : Result ℕ E) (a b : List Signal) (index : Word) (size : ℕ) → size < 2 ^ 64 → IfOk x (ResizedAdds a b index.place index.width 64 index.signed)
    → IfOk x (IsAddress a b index size)
address_resized x a b index size small made =
    of_ok x (ResizedAdds a b index.place index.width 64 index.signed) (IsAddress a b index size)
    (λ place t base ty is.
    let w = at_least ty in
    let s = is.says in
    let made = t base (own base a ty index is) (omega arith) (omega arith) (λ e. (let more : 1 < index.width = omega arith in more)) in
    record { wires = made.wires; wide = 64; stands = made.stands; room = small }) made

-- a word that is read at an address
pub element_read : (a b c : List Signal) (code : ThreadCode) (array address place w : ℕ) (index out : Word) (array_is : Array) → slice_get code.arrays array ≡ Some array_is
    → IsAddress a b index array_is.length address → IsAdded b c w (MemoryRead array address) place → w ≡ width_of array_is.ty → out.place ≡ place → out.width ≡ width_of array_is.ty
    → out.signed ≡ array_is.ty.signed → IsElementWord a c code array index out
element_read a b c code array address place w index out array_is listed t u wide at says sign base from memories is =
    let addressed = t base from is in
    let memory = memories.each array array_is listed in
    let low = at_least array_is.ty in
    let high = at_most array_is.ty in
    let words : length memory.0.initial < 2 ^ addressed.wide = (let e = memory.3 in let r = addressed.room in subst (λ (n : ℕ). n < 2 ^ addressed.wide) (sym e) r) in
    let made : Adds base b c w place =
    u base (record {
      room = room_of b base address addressed.wide addressed.stands;
      low = omega arith;
      high = omega arith;
      fits = (memory.0, memory.1, memory.2 ∙ sym wide, (addressed.wide, addressed.stands, words));
      selects = tt;
    }) in
    subst (λ (k : IntegerType). AddsWord base a c k out) (sym (ap element_type listed))
    (word_after base a b c array_is.ty out addressed.wires (word_of base b c array_is.ty place out (subst (λ n. Adds base b c n place) wide made) at says sign))

pub element_wired : {E : Type 0} (x : Result Word E) (a b c : List Signal) (code : ThreadCode) (registers : Registers) (values : List Given) (array : ℕ) (own : IntegerType)
    (word : Word)
    → IsSourced a b code.variables registers values own word → IfOk x (IsElementWord b c code array word)
    → IfOk x (IsOperationWord a c code registers values (element_type (slice_get code.arrays array)))
element_wired x a b c code registers values array own word t made =
    of_ok x (IsElementWord b c code array word) (IsOperationWord a c code registers values (element_type (slice_get code.arrays array)))
    (λ out u base memories is.
    let first = t base is in
    word_after base a b c (element_type (slice_get code.arrays array)) out first.wires (u base own memories.memories first.word)) made

-- an arm of a match on an operation
pub operation_wired : {E : Type 0} (x : Result Word E) (a b : List Signal) (globals : List IntegerType) (code : ThreadCode) (registers : Registers) (values : List Given)
    (ty : IntegerType)
    (operation known : Operation) → operation ≡ known → IfOk x (IsSourced a b code.variables registers values ty) → value_type globals code known ≡ ty
    → IfOk x (IsOperationWord a b code registers values (value_type globals code operation))
operation_wired x a b globals code registers values ty operation known e made same =
    subst (λ (o : Operation). IfOk x (IsOperationWord a b code registers values (value_type globals code o))) (sym e)
    (of_ok x (IsSourced a b code.variables registers values ty) (IsOperationWord a b code registers values (value_type globals code known))
    (λ out t base memories is. subst (λ (k : IntegerType). AddsWord base a b k out) (sym same) (t base is)) made)

pub read_wired : {E : Type 0} (x : Result Word E) (a b : List Signal) (globals : List IntegerType) (code : ThreadCode) (registers : Registers) (values : List Given)
    (ty : IntegerType)
    (operation known : Operation) → operation ≡ known → IfOk x (IsOperationWord a b code registers values ty) → value_type globals code known ≡ ty
    → IfOk x (IsOperationWord a b code registers values (value_type globals code operation))
read_wired x a b globals code registers values ty operation known e made same =
    subst (λ (o : Operation). IfOk x (IsOperationWord a b code registers values (value_type globals code o))) (sym e)
    (subst (λ (k : IntegerType). IfOk x (IsOperationWord a b code registers values k)) (sym same) made)

pub constant_wired : {E : Type 0} (x : Result Word E) (a b : List Signal) (globals : List IntegerType) (code : ThreadCode) (registers : Registers) (values : List Given)
    (ty : IntegerType)
    (operation : Operation) → IfOk x (IsConstant a b ty) → ty ≡ value_type globals code operation
    → IfOk x (IsOperationWord a b code registers values (value_type globals code operation))
constant_wired x a b globals code registers values ty operation made same =
    of_ok x (IsConstant a b ty) (IsOperationWord a b code registers values (value_type globals code operation))
    (λ out t base memories is. subst (λ (k : IntegerType). AddsWord base a b k out) same (t base (room a base code.variables registers is.registers))) made

-- 0 where a global has no banks
pub missing_read : {E : Type 0} (x : Result Word E) (a b : List Signal) (code : ThreadCode) (registers : Registers) (values : List Given) (ty known : IntegerType) →
    IfOk x (IsConstant a b ty)
    → ty ≡ known → IfOk x (IsOperationWord a b code registers values known)
missing_read x a b code registers values ty known made same =
    of_ok x (IsConstant a b ty) (IsOperationWord a b code registers values known)
    (λ out t base reads is. subst (λ (k : IntegerType). AddsWord base a b k out) same (t base (room a base code.variables registers is.registers))) made

-- the same word under its type's own width and sign
pub given_wired : (a b : List Signal) (code : ThreadCode) (registers : Registers) (values : List Given) (ty : IntegerType) (word out : Word) →
    IsOperationWord a b code registers values ty word
    → out.place ≡ word.place → out.width ≡ width_of ty → out.signed ≡ ty.signed → IsOperationWord a b code registers values ty out
given_wired a b code registers values ty word out t at wide sign base memories is =
    let made = t base memories is in
    word_of base a b ty word.place out (record { wires = made.wires; stands = made.word.stands }) at wide sign

-- ---- all operations

pub given_none : (a : List Signal) (code : ThreadCode) (registers : Registers) → AreGiven a a code registers []
given_none a code registers base memories is = record { wires = wires_none base a; values = λ k g e. absurd cc }

pub one_more : (a : List Signal) (base : Base) (values : List Given) (g : Given) (ty : IntegerType) → AreValues a base values → StandsAs a base ty g.word →
    AreValues a base (values ++ g ∷ [])
one_more a base [] g ty is stands zero v e = (ty, (let same : g ≡ v = cc in subst (λ (z : Given). StandsAs a base ty z.word) same stands))
one_more a base [] g ty is stands (suc k) v e = absurd cc
one_more a base (w ∷ values) g ty is stands zero v e = is zero v e
one_more a base (w ∷ values) g ty is stands (suc k) v e = one_more a base values g ty (λ j u f. is (suc j) u f) stands k v e

pub given_more : (a b c : List Signal) (code : ThreadCode) (registers : Registers) (values : List Given) (g : Given) (ty : IntegerType) → AreGiven a b code registers values
    → IsOperationWord b c code registers values ty g.word → AreGiven a c code registers (values ++ g ∷ [])
given_more a b c code registers values g ty t u base memories is =
    let first = t base memories is in
    let next = u base memories (record { registers = registers_after a b base code.variables registers first.wires.grows is; values = first.values }) in
    record {
      wires = wires_then base a b c first.wires next.wires;
      values = one_more c base values g ty (values_after b c base values next.wires.grows first.values) next.word;
    }
