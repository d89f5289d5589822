-- Operations give what they give: lemmas of each function that puts the word of an operation together.
use Rattle.std.proofs.Common.{◌≡◌, ℕ, zero, suc, ◌+◌, ◌-◌, ◌%◌, ◌^◌, ◌<◌, ◌≤◌, Bool, true, false, IsTrue, nat_lt, if◌then◌else◌, List, [], ◌∷◌, slice_get}
use Rattle.std.proofs.Common.{slice_index, Option, Some, None, ℤ, pos, negsuc, refl, sym, ap, subst, ◌∙◌, arith}
use Rattle.std.specs.Option.{option_flatten}
use Rattle.std.specs.Prelude.{Result, IfOk}
use Rattle.std.proofs.Math.Nat.{mod-eq_of_lt}
use Rattle.std.proofs.Math.Pow.{pow_mono}
use Rattle.std.proofs.lemmas.Bool.Decides.{nat_tests}
use Rattle.interleaving.specs.Memory.{Memory}
use Rattle.netlist.specs.declared.netlist.Signal.{Signal}
use Rattle.netlist.specs.declared.netlist.Value.TheVariants.{MemoryRead}
use Rattle.netlist.specs.declared.netlist.Module.{Module}
use Rattle.verilog_meaning.specs.Readings.{Reading, width, value, memory_words}
use Rattle.hls_ints.specs.Residues.{residue_of}
use Rattle.hls_ints.specs.Types.{IntegerType, HasType, width_of, in_signed_range, in_unsigned_range, wrapped}
use Rattle.c_program.specs.declared.tree.UnaryOperator.{UnaryOperator}
use Rattle.c_program.specs.declared.tree.BinaryOperator.{BinaryOperator}
use Rattle.block_ir.specs.Arithmetic.{unary_total, binary_total}
use Rattle.block_ir.specs.Run.{place_read}
use Rattle.block_ir.specs.declared.operand.Operand.{Operand}
use Rattle.block_ir.specs.declared.block.Operation.{Operation}
use Rattle.block_ir.specs.declared.block.Operation.TheVariants.{Unary, Binary, ReadGlobal, WriteGlobal, ReadArray, WriteArray}
use Rattle.block_ir.specs.declared.code.Array.{Array}
use Rattle.block_ir.specs.declared.code.ThreadCode.{ThreadCode}
use Rattle.operator_wires.specs.Shown.{unary_result, binary_result}
use Rattle.operator_wires.proofs.Residues.{residue_of-word}
use Rattle.operator_wires.proofs.Typed.{has_zero, residue_of-zero}
use Rattle.operator_wires.specs.declared.words.Word.{Word}
use Rattle.operator_wires.specs.Gives.{Grows, Gives}
use Rattle.operator_wires.specs.Modules.{Obeys}
use Rattle.operator_wires.specs.Words.{IsWord, Holds, Becomes, Combine, Resizes, resized_word}
use Rattle.operator_wires.proofs.PutSignals.{grows_refl, grows_then}
use Rattle.operator_wires.proofs.ResizedWords.{resized_shows}
use Rattle.operator_wires.proofs.MadeWords.{of_ok}
use Rattle.operator_wires.proofs.TypedWords.{at_least, at_most}
use Rattle.block_datapath.specs.declared.registers.Registers.{Registers}
use Rattle.block_datapath.specs.declared.operands.Given.{Given}
use Rattle.thread_promise.specs.Types.{value_type, operand_type}
use Rattle.block_datapath.specs.Seen.{ShowsOperand}
use Rattle.thread_promise.specs.Slots.{element_at}
use Rattle.block_ir.specs.declared.plan.BlockPlan.{BlockPlan}
use Rattle.planned_block.specs.Plan.{further_states}
use Rattle.thread_promise.specs.View.{operation_view, register_at}
use Rattle.block_datapath.specs.Units.{shared_place}
use Rattle.block_datapath.specs.Operations.{seen_value, operation_value, HasArrays, IsOutside, result_place, Addresses, ReadsArray, ShowsOperation, GivesOperation}
use Rattle.block_datapath.proofs.OperandWords.{own_word}
use Rattle.block_datapath.proofs.SharedResults.{result_own, shared_at}

-- whatever the globals are, and in whatever state it starts or ends
abbrev pub AtAnyStart : List Signal → List Signal → ThreadCode → Registers → List Given → ℕ → Operation → Word → Type 0
AtAnyStart a b code registers values last operation out =
    (globals : List IntegerType) (unit start : ℕ) → ShowsOperation a b globals code registers values unit start last operation out

-- where its unit is not shared
abbrev pub AtOwn : List Signal → List Signal → ThreadCode → Registers → List Given → ℕ → BinaryOperator → IntegerType → Operand → Operand → Word → Type 0
AtOwn a b code registers values last operator ty left right out =
    (globals : List IntegerType) (unit start : ℕ) → shared_place registers.units operator ty left right unit ≡ None →
    ShowsOperation a b globals code registers values unit start last (Binary operator ty left right) out

-- and on this unit
abbrev pub OnUnit : List Signal → List Signal → ThreadCode → Registers → List Given → ℕ → ℕ → Operation → Word → Type 0
OnUnit a b code registers values unit last operation out =
    (globals : List IntegerType) (start : ℕ) → ShowsOperation a b globals code registers values unit start last operation out

-- and however many elements the array has
abbrev pub AtAnyEnd : List Signal → List Signal → ThreadCode → Registers → List Given → ℕ → ℕ → Operand → Word → Type 0
AtAnyEnd a b code registers values start array index out =
    (globals : List IntegerType) (unit last n : ℕ) → ShowsOperation a b globals code registers values unit start last (ReadArray array n index) out

-- ---- operators

pub unary_given : {E : Type 0} (x : Result Word E) (a b c : List Signal) (code : ThreadCode) (registers : Registers) (values : List Given) (last : ℕ)
    (operator : UnaryOperator) (ty : IntegerType) (operand : Operand) (word : Word) → ShowsOperand a b registers code.variables values last operand word
    → IfOk x (Becomes b c word (unary_result operator ty) (unary_total operator ty)) → IfOk x (AtAnyStart a c code registers values last (Unary operator ty operand))
unary_given x a b c code registers values last operator ty operand word t made =
    of_ok x (Becomes b c word (unary_result operator ty) (unary_total operator ty)) (AtAnyStart a c code registers values last (Unary operator ty operand))
    (λ out u globals unit start. record {
      grows = grows_then a b c t.grows u.grows;
      shared = λ place e. absurd cc;
      shows = λ m r variables given arrays told g o has hears seen sized result.
          u.shows m r (operand_type operand) (seen_value variables given operand) g o (t.shows m r variables given (grows_then b c m.signals u.grows g) o seen);
    }) made

pub binary_given : {E : Type 0} (x : Result Word E) (a b c d : List Signal) (code : ThreadCode) (registers : Registers) (values : List Given) (last : ℕ)
    (operator : BinaryOperator) (ty : IntegerType) (left right : Operand) (first second : Word) → ShowsOperand a b registers code.variables values last left first
    → ShowsOperand b c registers code.variables values last right second → IfOk x (Combine c d first second (binary_result operator ty) (binary_total operator ty))
    → IfOk x (AtOwn a d code registers values last operator ty left right)
binary_given x a b c d code registers values last operator ty left right first second t u made =
    of_ok x (Combine c d first second (binary_result operator ty) (binary_total operator ty)) (AtOwn a d code registers values last operator ty left right)
    (λ out v globals unit start none. record {
      grows = grows_then a b d t.grows (grows_then b c d u.grows v.grows);
      shared = λ place e. absurd (cc (e, none));
      shows = λ m r variables given arrays told g o has hears seen sized result.
          let later = grows_then c d m.signals v.grows g in
          v.shows m r (operand_type left) (operand_type right) (seen_value variables given left) (seen_value variables given right) g o
          (t.shows m r variables given (grows_then b c m.signals u.grows later) o seen.0) (u.shows m r variables given later o seen.1);
    }) made

-- the result of a unit that is shared
pub shared_given : (a : List Signal) (code : ThreadCode) (registers : Registers) (values : List Given) (unit last : ℕ) (operator : BinaryOperator) (ty : IntegerType)
    (left right : Operand) (place : ℕ) (out : Word) → shared_place registers.units operator ty left right unit ≡ Some place → out.place ≡ place → out.width ≡ width_of ty →
    out.signed ≡ ty.signed → OnUnit a a code registers values unit last (Binary operator ty left right) out
shared_given a code registers values unit last operator ty left right place out found at says sign globals start =
    let own = result_own registers.units operator ty unit place (shared_at registers.units operator ty left right unit place found).1 in
    record {
      grows = grows_refl a;
      shared = λ other e. (refl, at ∙ (let same : place ≡ other = cc in same));
      shows = λ m r variables given arrays told g o has hears seen sized result.
          let is = result place found in
          record {
            says = says ∙ sym (ap width_of own);
            sign = sign ∙ sym (ap (λ (k : IntegerType). k.signed) own);
            wide = ap (width m) at ∙ is.wide;
            shows = ap r.signal at ∙ is.shows;
            typed = is.typed;
          };
    }

-- by the place that was looked for
pub on_unit : {E : Type 0} (x : Result Word E) (a b : List Signal) (code : ThreadCode) (registers : Registers) (values : List Given) (unit last : ℕ)
    (operator : BinaryOperator) (ty : IntegerType) (left right : Operand) → shared_place registers.units operator ty left right unit ≡ None →
    IfOk x (AtOwn a b code registers values last operator ty left right) → IfOk x (OnUnit a b code registers values unit last (Binary operator ty left right))
on_unit x a b code registers values unit last operator ty left right none made =
    of_ok x (AtOwn a b code registers values last operator ty left right) (OnUnit a b code registers values unit last (Binary operator ty left right))
    (λ out t globals start. t globals unit start none) made

-- ---- elements of arrays

pub element_given : {E : Type 0} (x : Result Word E) (a b c : List Signal) (code : ThreadCode) (registers : Registers) (values : List Given) (start array : ℕ)
    (index : Operand) (word : Word) → ShowsOperand a b registers code.variables values start index word → IfOk x (ReadsArray b c code array word)
    → IfOk x (AtAnyEnd a c code registers values start array index)
element_given x a b c code registers values start array index word t made =
    of_ok x (ReadsArray b c code array word) (AtAnyEnd a c code registers values start array index)
    (λ out u globals unit last n. record {
      grows = grows_then a b c t.grows u.grows;
      shared = λ place e. absurd cc;
      shows = λ m r variables given arrays told g o has hears seen sized result.
          let own : Array = sized.0 in
          let first = t.shows m r variables given (grows_then b c m.signals u.grows g) o seen in
          element_word m r code globals array n index out own variables given arrays told sized.1 sized.2
          (u.shows m r (operand_type index) (seen_value variables given index) own arrays g o has sized.1 first);
    }) made
  where
    element_word : (m : Module) (r : Reading) (code : ThreadCode) (globals : List IntegerType) (array n : ℕ) (index : Operand) (out : Word) (own : Array) (variables given : ℕ → ℤ)
        (arrays told : Memory ℤ) → slice_get code.arrays array ≡ Some own → own.length ≡ n →
        IsWord m r out own.ty (arrays (element_at array (place_read own.length (seen_value variables given index))))
        → IsWord m r out (value_type globals code (ReadArray array n index)) (operation_value variables given arrays told (ReadArray array n index))
    element_word m r code globals array n index out own variables given arrays told e f is = rw e
        (subst (λ k. IsWord m r out own.ty (arrays (element_at array (place_read k (seen_value variables given index))))) f is)

pub array_read : (a b c : List Signal) (code : ThreadCode) (array address place w : ℕ) (index out : Word) (own : Array) → slice_get code.arrays array ≡ Some own
    → Addresses a b index own.length address
    → Gives b c place w (λ m r. value m r (MemoryRead array address)) → w ≡ width_of own.ty → out.place ≡ place → out.width ≡ width_of own.ty → out.signed ≡ own.ty.signed
    → ReadsArray a c code array index out
array_read a b c code array address place w index out own e t u wide at says sign = record {
  grows = grows_then a b c t.grows u.grows;
  shows = λ m r ty v array' arrays g o has listed is.
      let same : array' ≡ own = cc in
      subst (λ (k : Array). IsWord m r out k.ty (arrays (element_at array (place_read k.length v)))) (sym same) (by_place m r ty v arrays g o has is);
}
  where
    word_at : (m : Module) (r : Reading) (array n i size : ℕ) → n ≡ i → memory_words (slice_get m.memories array) ≡ size → i < size
        → (if nat_lt n (memory_words (slice_get m.memories array)) then r.word array n else 0) ≡ r.word array i
    word_at m r array n i size e f less =
        let test : nat_lt n (memory_words (slice_get m.memories array)) ≡ true = grind arith in
        ap (λ (t : Bool). if t then r.word array n else 0) test ∙ ap (r.word array) e

    nothing_at : (m : Module) (r : Reading) (array n size : ℕ) → memory_words (slice_get m.memories array) ≡ size → size ≤ n
        → (if nat_lt n (memory_words (slice_get m.memories array)) then r.word array n else 0) ≡ 0
    nothing_at m r array n size f past =
        let test : nat_lt n (memory_words (slice_get m.memories array)) ≡ false = grind (arith, nat_tests) in
        ap (λ (t : Bool). if t then r.word array n else 0) test

    counted : (m : Module) (r : Reading) (arrays : Memory ℤ) → HasArrays code m r arrays → memory_words (slice_get m.memories array) ≡ own.length
    counted m r arrays has = let memory = has.declared array own e in ap memory_words memory.1 ∙ memory.2

    -- an index inside
    read : (m : Module) (r : Reading) (ty : IntegerType) (i : ℕ) (arrays : Memory ℤ) → Grows c m.signals → Obeys m r → HasArrays code m r arrays → IsWord m r index ty (pos i) →
        i < own.length
        → IsWord m r out own.ty (arrays (element_at array i))
    read m r ty i arrays g o has is less =
        let there = t.inside m r ty i (grows_then b c m.signals u.grows g) o is less in
        record {
          says = says;
          sign = sign;
          wide = ap (width m) at ∙ u.wide m g ∙ wide;
          shows = ap r.signal at ∙ u.shows m r g o ∙ word_at m r array (r.signal address) i own.length there (counted m r arrays has) less ∙ has.words array i own e less;
          typed = has.typed array i own e less;
        }

    -- an index outside
    past : (m : Module) (r : Reading) (ty : IntegerType) (v : ℤ) (arrays : Memory ℤ) → Grows c m.signals → Obeys m r → HasArrays code m r arrays → IsWord m r index ty v →
        IsOutside own.length v
        → IsWord m r out own.ty (arrays (element_at array own.length))
    past m r ty v arrays g o has is out_ =
        let there = t.outside m r ty v (grows_then b c m.signals u.grows g) o is (has.few array own e) out_ in
        subst (λ (z : ℤ). IsWord m r out own.ty z) (sym (has.outside array own e))
        (record {
          says = says;
          sign = sign;
          wide = ap (width m) at ∙ u.wide m g ∙ wide;
          shows = ap r.signal at ∙ u.shows m r g o ∙ nothing_at m r array (r.signal address) own.length (counted m r arrays has) there ∙ sym (residue_of-zero (width_of own.ty));
          typed = has_zero own.ty;
        })

    by_test : (m : Module) (r : Reading) (ty : IntegerType) (i : ℕ) (arrays : Memory ℤ) (less : Bool) → nat_lt i own.length ≡ less → Grows c m.signals → Obeys m r →
        HasArrays code m r arrays
        → IsWord m r index ty (pos i) → IsWord m r out own.ty (arrays (element_at array (if less then i else own.length)))
    by_test m r ty i arrays true f g o has is = read m r ty i arrays g o has is (let l : i < own.length = grind (arith, nat_tests) in l)
    by_test m r ty i arrays false f g o has is = past m r ty (pos i) arrays g o has is (let l : own.length ≤ i = grind (arith, nat_tests) in l)

    by_place : (m : Module) (r : Reading) (ty : IntegerType) (v : ℤ) (arrays : Memory ℤ) → Grows c m.signals → Obeys m r → HasArrays code m r arrays → IsWord m r index ty v
        → IsWord m r out own.ty (arrays (element_at array (place_read own.length v)))
    by_place m r ty (pos i) arrays g o has is = by_test m r ty i arrays (nat_lt i own.length) refl g o has is
    by_place m r ty (negsuc i) arrays g o has is = past m r ty (negsuc i) arrays g o has is tt

-- ---- numbers of indices

above_at : (s : Bool) (w i : ℕ) → 1 ≤ w → IsTrue (if s then in_signed_range (2 ^ (w - 1)) (pos i) else in_unsigned_range (2 ^ w) (pos i)) → i < 2 ^ w
above_at true w i some h =
    let e : i < 2 ^ (w - 1) = grind arith in
    let more = pow_mono {i = w - 1} {j = w} (omega arith) in
    omega arith
above_at false w i some h = grind arith

below_at : (s : Bool) (w j : ℕ) → IsTrue (if s then in_signed_range (2 ^ (w - 1)) (negsuc j) else in_unsigned_range (2 ^ w) (negsuc j)) → j < 2 ^ (w - 1)
below_at true w j h = grind arith
below_at false w j h = cc

-- an index of none of few elements, as a word of its type or a wider one, is no number of an element
outside_number : (ty : IntegerType) (w size : ℕ) (v : ℤ) → HasType ty v → width_of ty ≤ w → size ≤ 2 ^ (w - 1) → IsOutside size v → size ≤ residue_of w v
unfolding residue_of
outside_number ty w size (pos i) h wide few out =
    let low = at_least ty in
    let above = above_at ty.signed (width_of ty) i (omega arith) h in
    let more = pow_mono {i = width_of ty} {j = w} wide in
    let same : i % 2 ^ w ≡ i = mod-eq_of_lt (omega arith) in
    let past : size ≤ i = out in
    omega arith
outside_number ty w size (negsuc j) h wide few out =
    let low = at_least ty in
    let below = below_at ty.signed (width_of ty) j h in
    let half = pow_mono {i = width_of ty - 1} {j = w - 1} (omega arith) in
    let double = twice w (omega arith) in
    let same : j % 2 ^ w ≡ j = mod-eq_of_lt (omega arith) in
    omega arith
  where
    twice : (n : ℕ) → 1 ≤ n → 2 ^ n ≡ 2 ^ (n - 1) + 2 ^ (n - 1)
    twice zero l = absurd (omega arith)
    twice (suc n) l = let e : 2 ^ suc n ≡ 2 ^ n + 2 ^ n = grind arith in let f : suc n - 1 ≡ n = omega arith in subst (λ k. 2 ^ suc n ≡ 2 ^ k + 2 ^ k) (sym f) e

-- an index that is wide enough is its own address
pub address_kept : (a : List Signal) (index : Word) (size : ℕ) → size < 2 ^ index.width → (size < 2 ^ 31 → size ≤ 2 ^ (index.width - 1)) → Addresses a a index size index.place
address_kept a index size room half = record {
  grows = grows_refl a;
  inside = λ m r ty i g o is below.
      let less : i < 2 ^ width_of ty = subst (λ (w : ℕ). i < 2 ^ w) is.says (omega arith) in
      is.shows ∙ residue_of-word (width_of ty) i ∙ mod-eq_of_lt less;
  outside = λ m r ty v g o is few out.
      let enough : size ≤ 2 ^ (width_of ty - 1) = subst (λ (w : ℕ). size ≤ 2 ^ (w - 1)) is.says (half few) in
      subst (λ (n : ℕ). size ≤ n) (sym is.shows) (outside_number ty (width_of ty) size v is.typed (omega arith) enough out);
}

pub address_widened : {E : Type 0} (x : Result ℕ E) (a b : List Signal) (index : Word) (size : ℕ) → size < 2 ^ 64 → IfOk x (Resizes a b index.place index.width 64 index.signed)
    → IfOk x (Addresses a b index size)
address_widened x a b index size small made =
    of_ok x (Resizes a b index.place index.width 64 index.signed) (Addresses a b index size)
    (λ place t. record {
      grows = t.grows;
      inside = λ m r ty i g o is below.
          let less : i < 2 ^ 64 = omega arith in
          wide_number a b index place t m r ty (pos i) g o is ∙ residue_of-word 64 i ∙ mod-eq_of_lt less;
      outside = λ m r ty v g o is few out.
          let most = at_most ty in
          subst (λ (n : ℕ). size ≤ n) (sym (wide_number a b index place t m r ty v g o is)) (outside_number ty 64 size v is.typed most (omega arith) out);
    }) made
  where
    wide_number : (a b : List Signal) (index : Word) (place : ℕ) → Resizes a b index.place index.width 64 index.signed place → (m : Module) (r : Reading) (ty : IntegerType) (v : ℤ)
        → Grows b m.signals → Obeys m r → IsWord m r index ty v → r.signal place ≡ residue_of 64 v
    wide_number a b index place t m r ty v g o is =
        let wide : width m index.place ≡ index.width = is.wide ∙ sym is.says in
        t.shows m r g o wide ∙ ap (λ (s : Bool). resized_word s index.width 64 (r.signal index.place)) is.sign ∙ ap
        (λ w. resized_word ty.signed w 64 (r.signal index.place)) is.says
        ∙ ap (resized_word ty.signed (width_of ty) 64) is.shows ∙ resized_shows ty 64 v (omega arith) is.typed

-- ---- what gives nothing

-- a word of 0
pub zero_given : {E : Type 0} (x : Result Word E) (a b : List Signal) (globals : List IntegerType) (code : ThreadCode) (registers : Registers) (values : List Given)
    (unit start last : ℕ)
    (operation known : Operation) (ty : IntegerType) (z : ℤ) → operation ≡ known → ((variables given : ℕ → ℤ) (arrays told : Memory ℤ) →
    operation_value variables given arrays told known ≡ pos 0) → result_place registers.units unit known ≡ None
    → IfOk x (Holds a b ty (wrapped ty z)) → ty ≡ value_type globals code operation → z ≡ pos 0 →
    IfOk x (ShowsOperation a b globals code registers values unit start last operation)
zero_given x a b globals code registers values unit start last operation known ty z is f none made e g =
    of_ok x (Holds a b ty (wrapped ty z)) (ShowsOperation a b globals code registers values unit start last operation)
    (λ out t. record {
      grows = t.grows;
      shared = λ place there. absurd (let nowhere : None ≡ Some place = sym none ∙ ap (result_place registers.units unit) (sym is) ∙ there in cc);
      shows = λ m r variables given arrays told grows o has hears seen sized result.
          let zeroed : IsWord m r out ty (wrapped ty (pos 0)) = subst (λ (k : ℤ). IsWord m r out ty (wrapped ty k)) g (t.shows m r grows o) in
          subst (λ (k : ℤ). IsWord m r out (value_type globals code operation) k) (sym (ap (operation_value variables given arrays told) is ∙ f variables given arrays told))
          (subst (λ (k : IntegerType). IsWord m r out k (pos 0)) e (own_word m r out ty (pos 0) (has_zero ty) zeroed));
    }) made

-- an operation of this form
pub of_start : {E : Type 0} (x : Result Word E) (a b : List Signal) (globals : List IntegerType) (code : ThreadCode) (registers : Registers) (values : List Given)
    (unit start last : ℕ) (operation known : Operation) → operation ≡ known → IfOk x (AtAnyStart a b code registers values last known) →
    IfOk x (ShowsOperation a b globals code registers values unit start last operation)
of_start x a b globals code registers values unit start last operation known e made =
    subst (λ (o : Operation). IfOk x (ShowsOperation a b globals code registers values unit start last o)) (sym e)
    (of_ok x (AtAnyStart a b code registers values last known) (ShowsOperation a b globals code registers values unit start last known) (λ out t. t globals unit start) made)

pub of_shared : {E : Type 0} (x : Result Word E) (a b : List Signal) (globals : List IntegerType) (code : ThreadCode) (registers : Registers) (values : List Given)
    (unit start last : ℕ) (operation known : Operation) → operation ≡ known → IfOk x (OnUnit a b code registers values unit last known) →
    IfOk x (ShowsOperation a b globals code registers values unit start last operation)
of_shared x a b globals code registers values unit start last operation known e made =
    subst (λ (o : Operation). IfOk x (ShowsOperation a b globals code registers values unit start last o)) (sym e)
    (of_ok x (OnUnit a b code registers values unit last known) (ShowsOperation a b globals code registers values unit start last known) (λ out t. t globals start) made)

pub of_end : {E : Type 0} (x : Result Word E) (a b : List Signal) (globals : List IntegerType) (code : ThreadCode) (registers : Registers) (values : List Given)
    (unit start last : ℕ) (operation : Operation) (array n : ℕ) (index : Operand) → operation ≡ ReadArray array n index →
    IfOk x (AtAnyEnd a b code registers values start array index) → IfOk x (ShowsOperation a b globals code registers values unit start last operation)
of_end x a b globals code registers values unit start last operation array n index e made =
    subst (λ (o : Operation). IfOk x (ShowsOperation a b globals code registers values unit start last o)) (sym e)
    (of_ok x (AtAnyEnd a b code registers values start array index) (ShowsOperation a b globals code registers values unit start last (ReadArray array n index))
    (λ out t. t globals unit last n) made)

pub of_read : {E : Type 0} (x : Result Word E) (a b : List Signal) (globals : List IntegerType) (code : ThreadCode) (registers : Registers) (values : List Given)
    (unit start last : ℕ) (operation : Operation) (global n : ℕ) (index : Operand) → operation ≡ ReadGlobal global n index
    → IfOk x (λ out. (unit start n : ℕ) → ShowsOperation a b globals code registers values unit start last (ReadGlobal global n index) out)
    → IfOk x (ShowsOperation a b globals code registers values unit start last operation)
of_read x a b globals code registers values unit start last operation global n index e made =
    subst (λ (o : Operation). IfOk x (ShowsOperation a b globals code registers values unit start last o)) (sym e)
    (of_ok x (λ out. (unit start n : ℕ) → ShowsOperation a b globals code registers values unit start last (ReadGlobal global n index) out)
    (ShowsOperation a b globals code registers values unit start last (ReadGlobal global n index)) (λ out t. t unit start n) made)

-- ---- what is kept of an operation

retyped : (a b : List Signal) (globals : List IntegerType) (code : ThreadCode) (registers : Registers) (values : List Given) (unit start last : ℕ) (operation : Operation)
    (word out : Word)
    → ShowsOperation a b globals code registers values unit start last operation word → out.place ≡ word.place → out.width ≡ width_of (value_type globals code operation)
    → out.signed ≡ (value_type globals code operation).signed → ShowsOperation a b globals code registers values unit start last operation out
retyped a b globals code registers values unit start last operation word out t place says sign = record {
  grows = t.grows;
  shared = λ there e. let on = t.shared there e in (on.0, place ∙ on.1);
  shows = λ m r variables given arrays told g o has hears seen sized result.
      let is = t.shows m r variables given arrays told g o has hears seen sized result in
      record { says = says; sign = sign; wide = ap (width m) place ∙ is.wide; shows = ap r.signal place ∙ is.shows; typed = is.typed };
}

pub operation_kept : (a b : List Signal) (globals : List IntegerType) (code : ThreadCode) (registers : Registers) (values : List Given) (plan : BlockPlan) (k unit start : ℕ)
    (operation : Operation)
    (word : Word) (given : Given) (ty : IntegerType) → ShowsOperation a b globals code registers values unit start given.last operation word →
    unit ≡ slice_index plan.units k → start ≡ slice_index plan.starts k
    → ty ≡ value_type globals code operation → given.word.place ≡ word.place → given.word.width ≡ width_of ty → given.word.signed ≡ ty.signed →
    given.register ≡ register_at plan.registers k
    → (start + further_states (operation_view operation).kind < 2 ^ 64 → given.last ≡ start + further_states (operation_view operation).kind)
    → GivesOperation a b globals code registers values plan k operation given
operation_kept a b globals code registers values plan k unit start operation word given ty t own first e place says sign register last =
    let wide : given.word.width ≡ width_of (value_type globals code operation) = says ∙ ap width_of e in
    let signed : given.word.signed ≡ (value_type globals code operation).signed = sign ∙ ap (λ (x : IntegerType). x.signed) e in
    record {
      says = wide;
      sign = signed;
      last = λ small. subst (λ (n : ℕ). n + further_states (operation_view operation).kind < 2 ^ 64 →
          given.last ≡ n + further_states (operation_view operation).kind) first last small;
      register = register;
      shows = subst (λ (n : ℕ). ShowsOperation a b globals code registers values n (slice_index plan.starts k) given.last operation given.word) own
          (subst (λ (n : ℕ). ShowsOperation a b globals code registers values unit n given.last operation given.word) first
          (retyped a b globals code registers values unit start given.last operation word given.word t place wide signed));
    }

pub register_flat : (registers : List (Option ℕ)) (k : ℕ) → option_flatten (slice_get registers k) ≡ register_at registers k
register_flat [] k = refl
register_flat (y ∷ registers) zero = refl
register_flat (y ∷ registers) (suc k) = register_flat registers k

-- what is no operator on two operands and no read of a global is done in its first state
pub others_at_once : (o : Operation) → ((operator : BinaryOperator) (ty : IntegerType) (x y : Operand) → o ≡ Binary operator ty x y → ⊥)
    → ((x n : ℕ) (i : Operand) → o ≡ ReadGlobal x n i → ⊥) → 0 ≡ further_states (operation_view o).kind
others_at_once (Unary operator ty x) binary read = refl
others_at_once (Binary operator ty x y) binary read = absurd (binary operator ty x y refl)
others_at_once (ReadGlobal x n i) binary read = absurd (read x n i refl)
others_at_once (WriteGlobal x n i v) binary read = refl
others_at_once (ReadArray x n i) binary read = refl
others_at_once (WriteArray x n i v) binary read = refl
