-- The expressions of a worker have values, and read no global.
use Rattle.std.proofs.Common.{◌≡◌, ◌≢◌, ℕ, ◌<◌, ◌≤◌, ◌%◌, List, [], ◌∷◌, refl, ap, sym, ◌∙◌, subst, ⊎_elim, arith, bit_or}
use Rattle.std.specs.Prelude.{Bool, false, if◌then◌else◌, ℤ, pos, int_div, Err, nat_eq, Option, Some, slice_get, slice_set}
use Rattle.std.proofs.lemmas.Bool.{ne_eqb, cases_eq}
use Rattle.std.proofs.lemmas.Nat.{and_or_self, and_mask}
use Rattle.lists.proofs.Places.{set_there, set_elsewhere}
use Rattle.hls_ints.specs.Residues.{residue_of}
use Rattle.hls_ints.specs.declared.fault.ArithmeticFault.TheVariants.{Overflow, Divisor}
use Rattle.hls_ints.specs.Types.{IntegerType, unsigned_int, wrapped}
use Rattle.hls_ints.specs.Operators.{result_of, is_zero, inclusive_or_of}
use Rattle.c_program.specs.declared.tree.Storage.TheVariants.{Automatic, Static}
use Rattle.c_program.specs.declared.tree.BinaryOperator.{BinaryOperator}
use Rattle.c_program.specs.declared.tree.BinaryOperator.TheVariants.{Divide, Add, Subtract, Multiply, Less, ExclusiveOr, InclusiveOr}
use Rattle.c_program.specs.Tree.{Expression}
use Rattle.thread_semantics.specs.Memory.{Memory, Evaluation, Gives, Fails, after_reads, and_then, row_element, with_row, with_element}
use Rattle.thread_semantics.specs.Value.{calculated, local_value, binary_value, value}
use Rattle.generated_program.specs.Worker.{int_number, unsigned_binary}

abbrev pub Cells : Type 0
Cells = List (List (Option ℤ))

-- the divisor is odd, or the operator has a value for all operands
abbrev pub IsSure : BinaryOperator → Expression → Type 0
IsSure Add right = Unit {0}
IsSure Subtract right = Unit {0}
IsSure Multiply right = Unit {0}
IsSure Less right = Unit {0}
IsSure ExclusiveOr right = Unit {0}
IsSure InclusiveOr right = Unit {0}
IsSure Divide right = (e : Expression) × (right ≡ unsigned_binary InclusiveOr e (int_number 1))
IsSure operator right = ⊥

-- an unsigned expression over constants and the first n locals
abbrev pub IsValue : ℕ → Expression → Type 0
IsValue n (Expression.Constant ty number) = Unit {0}
IsValue n (Expression.Variable Automatic x ty) = x < n
IsValue n (Expression.Variable Static x ty) = ⊥
IsValue n (Expression.Element storage x length ty index) = ⊥
IsValue n (Expression.Row outer outer_length inner inner_length) = ⊥
IsValue n (Expression.Unary operator ty operand) = ⊥
IsValue n (Expression.Binary operator ty left right) = (ty ≡ unsigned_int) × IsSure operator right × IsValue n left × IsValue n right
IsValue n (Expression.Cast ty operand) = IsValue n operand
IsValue n (Expression.Kept slot ty) = ⊥

-- the first n locals are written
abbrev pub Written : ℕ → Cells → Type 0
Written n locals = (x : ℕ) → x < n → (v : ℤ) × (slice_get locals x ≡ Some (Some v ∷ []))

-- a worker's locals: each is a scalar, the first n are written, and the first two have the thread's number
pub record Locals (n j : ℕ) (locals : Cells) : Type 0 where
  pub rows : (x : ℕ) → x < 6 → (o : Option ℤ) × (slice_get locals x ≡ Some (o ∷ []))
  pub written : Written n locals
  pub argument : slice_get locals 0 ≡ Some (Some (pos j) ∷ [])
  pub id : 2 ≤ n → slice_get locals 1 ≡ Some (Some (pos j) ∷ [])

odd_word : (x : ℕ) → nat_eq (bit_or x 1 % 4294967296 % 4294967296) 0 ≡ false
odd_word x =
    let bit = and_or_self 1 x in
    let mask = and_mask (bit_or x 1) 1 in
    let odd : bit_or x 1 % 2 ≡ 1 = sym mask ∙ bit in
    ne_eqb _ 0 (omega arith)

odd_is_not_zero : (z : ℤ) → is_zero (wrapped unsigned_int (inclusive_or_of unsigned_int (wrapped unsigned_int z) (wrapped unsigned_int (pos 1)))) ≡ false
unfolding wrapped residue_of
odd_is_not_zero z = odd_word (residue_of 32 z % 4294967296)

abbrev HasResult : BinaryOperator → ℤ → ℤ → Type 0
HasResult operator a b = (v : ℤ) × (binary_value operator unsigned_int a b ≡ Gives v [])

quotient_by : (a b : ℤ) → is_zero (wrapped unsigned_int b) ≡ false → HasResult Divide a b
unfolding result_of
quotient_by a b e = (
  wrapped unsigned_int (int_div (wrapped unsigned_int a) (wrapped unsigned_int b)),
  ap (λ (zero : Bool). calculated (if zero then Err Divisor else result_of Overflow unsigned_int
      (int_div (wrapped unsigned_int a) (wrapped unsigned_int b)))) e,
)

module _ (m : Memory) where
  divisor : (e : Expression) (b : ℤ) → value (unsigned_binary InclusiveOr e (int_number 1)) m ≡ Gives b [] → is_zero (wrapped unsigned_int b) ≡ false
  divisor e b q = go (value e m) refl q
    where
      go : (o : Evaluation ℤ) → value e m ≡ o → and_then o
          (λ z. Gives (inclusive_or_of unsigned_int (wrapped unsigned_int z) (wrapped unsigned_int (pos 1))) []) ≡ Gives b [] →
          is_zero (wrapped unsigned_int b) ≡ false
      go (Gives z reads) is x =
          let same : inclusive_or_of unsigned_int (wrapped unsigned_int z) (wrapped unsigned_int (pos 1)) ≡ b = cc in
          subst (λ y. is_zero (wrapped unsigned_int y) ≡ false) same (odd_is_not_zero z)
      go (Fails cause) is x = absurd cc

  result : (operator : BinaryOperator) (right : Expression) (a b : ℤ) → IsSure operator right → value right m ≡ Gives b [] → HasResult operator a b
  unfolding result_of
  result Add right a b h e = (_, refl)
  result Subtract right a b h e = (_, refl)
  result Multiply right a b h e = (_, refl)
  result Less right a b h e = (_, refl)
  result ExclusiveOr right a b h e = (_, refl)
  result InclusiveOr right a b h e = (_, refl)
  result Divide right a b h e = quotient_by a b (divisor h.0 b (subst (λ r. value r m ≡ Gives b []) h.1 e))
  result operator right a b h e = absurd h

  operated : (operator : BinaryOperator) (ty : IntegerType) (left right : Expression) (a b v : ℤ) → value left m ≡ Gives a [] → value right m ≡ Gives b [] →
      binary_value operator ty a b ≡ Gives v [] → value (Expression.Binary operator ty left right) m ≡ Gives v []
  operated operator ty left right a b v p q r =
      ap (λ (x : Evaluation ℤ). and_then x (λ c. and_then (value right m) (λ d. binary_value operator ty c d))) p
      ∙ ap (λ (x : Evaluation ℤ). after_reads [] (and_then x (λ d. binary_value operator ty a d))) q
      ∙ ap (λ (x : Evaluation ℤ). after_reads [] (after_reads [] x)) r

  -- such an expression has a value
  pub gives : (n : ℕ) → Written n m.locals → (e : Expression) → IsValue n e → (v : ℤ) × (value e m ≡ Gives v [])
  gives n w (Expression.Constant ty number) h = (number, refl)
  gives n w (Expression.Variable Automatic x ty) h =
      let p = w x h in (p.0, ap (λ (o : Option (List (Option ℤ))). local_value (row_element o 0)) p.1)
  gives n w (Expression.Variable Static x ty) h = absurd h
  gives n w (Expression.Element storage x length ty index) h = absurd h
  gives n w (Expression.Row outer outer_length inner inner_length) h = absurd h
  gives n w (Expression.Unary operator ty operand) h = absurd h
  gives n w (Expression.Binary operator ty left right) h =
      let a = gives n w left h.2 in
      let b = gives n w right h.3 in
      let r = result operator right a.0 b.0 h.1 b.1 in
      (r.0, operated operator ty left right a.0 b.0 r.0 a.1 b.1 (subst (λ t. binary_value operator t a.0 b.0 ≡ Gives r.0 []) (sym h.0) r.1))
  gives n w (Expression.Cast ty operand) h =
      let a = gives n w operand h in
      (wrapped ty a.0, ap (λ (x : Evaluation ℤ). and_then x (λ v. Gives (wrapped ty v) [])) a.1)
  gives n w (Expression.Kept slot ty) h = absurd h

-- a scalar that is written
put : (locals : Cells) (x : ℕ) (o : Option ℤ) (v : ℤ) → slice_get locals x ≡ Some (o ∷ []) → with_element locals x 0 (Some v) ≡ slice_set locals x (Some v ∷ [])
put locals x o v e = ap (λ (row : Option (List (Option ℤ))). with_row locals x row 0 (Some v)) e

set_locals : (n later j x : ℕ) (v : ℤ) (locals : Cells) → Locals n j locals → 1 ≤ x → x < 6 → ((y : ℕ) → y < later → y ≢ x → y < n) →
    (2 ≤ later → slice_get (slice_set locals x (Some v ∷ [])) 1 ≡ Some (Some (pos j) ∷ [])) → Locals later j (slice_set locals x (Some v ∷ []))
set_locals n later j x v locals l least most grows id = record {
  rows = λ y less.
      ⊎_elim
      (λ (same : x ≡ y). (Some v, there y same))
      (λ (apart : x ≢ y). (let r = l.rows y less in (r.0, set_elsewhere locals x y (Some v ∷ []) apart ∙ r.1)))
      (cases_eq x y);
  written = λ y less.
      ⊎_elim
      (λ (same : x ≡ y). (v, there y same))
      (λ (apart : x ≢ y). (let r = l.written y (grows y less (λ e. apart (sym e))) in (r.0, set_elsewhere locals x y (Some v ∷ []) apart ∙ r.1)))
      (cases_eq x y);
  argument = set_elsewhere locals x 0 (Some v ∷ []) (λ e. absurd (omega (arith, e, least))) ∙ l.argument;
  id = id;
}
  where
    there : (y : ℕ) → x ≡ y → slice_get (slice_set locals x (Some v ∷ [])) y ≡ Some (Some v ∷ [])
    there y same =
        let row = l.rows x most in
        subst (λ z. slice_get (slice_set locals x (Some v ∷ [])) z ≡ Some (Some v ∷ [])) same (set_there locals x (row.0 ∷ []) (Some v ∷ []) row.1)

-- a letter is written
pub set_letter : (n later j x : ℕ) (v : ℤ) (locals : Cells) → Locals n j locals → 2 ≤ x → x < 6 → 2 ≤ n → ((y : ℕ) → y < later → y ≢ x → y < n) →
    Locals later j (with_element locals x 0 (Some v))
set_letter n later j x v locals l least most two grows =
    let row = l.rows x most in
    subst (λ z. Locals later j z) (sym (put locals x row.0 v row.1))
    (set_locals n later j x v locals l (omega (arith, least)) most grows
    (λ _. set_elsewhere locals x 1 (Some v ∷ []) (λ e. absurd (omega (arith, e, least))) ∙ l.id two))

-- the thread's number is written
pub set_id : (j : ℕ) (locals : Cells) → Locals 1 j locals → Locals 2 j (with_element locals 1 0 (Some (pos j)))
set_id j locals l =
    let row = l.rows 1 (omega arith) in
    subst (λ z. Locals 2 j z) (sym (put locals 1 row.0 (pos j) row.1))
    (set_locals 1 2 j 1 (pos j) locals l (omega arith) (omega arith) (λ y less apart. omega (arith, less, apart))
    (λ _. set_there locals 1 (row.0 ∷ []) (Some (pos j) ∷ []) row.1))
