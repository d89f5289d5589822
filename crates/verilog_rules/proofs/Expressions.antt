-- The readings of right sides of assigns read the grammar's phrases.
use Rattle.std.proofs.Common.{◌≡◌, ℕ, List, Bool, true, false, refl}
use Rattle.std.specs.Prelude.{◌||◌}
use Rattle.std.proofs.lemmas.Bool.{or_left, or_right}
use Rattle.verilog_tree.specs.declared.token.Mark.{Mark}
use Rattle.verilog_tree.specs.declared.token.Mark.TheVariants as m
use Rattle.verilog_tree.specs.declared.token.Token.{Token}
use Rattle.verilog_tree.specs.declared.tree.Constant.{Constant}
use Rattle.verilog_tree.specs.declared.tree.Expression.TheVariants as expr
use Rattle.grammar.specs.Readers as d
use Rattle.grammar.proofs.Good.{Reads}
use Rattle.grammar.proofs.Parts.{nowhere, in_turn, ends}
use Rattle.grammar.proofs.Choice.{either_in}
use Rattle.grammar.proofs.Lists.{or_cases}
use Rattle.verilog_rules.specs.declared.sign.Sign.TheVariants as s
use Rattle.verilog_rules.specs.Signs.{same_mark, is, is_name, is_number, is_operator}
use Rattle.verilog_rules.specs.Phrases as g
use Rattle.verilog_rules.specs.Reading as r
use Rattle.verilog_rules.proofs.Singles.{All, gives_value, on, on_name, on_number, on_operator, on_division, sign_apart, name_apart, number_apart}
use Rattle.verilog_rules.proofs.Shapes.{any_name, listed, constant, signed, comma}

-- whether a token is of the mark
abbrev pub at : Mark → Token → Bool
at x = is (s.Mark x)

-- what goes on after a right side
abbrev pub after_value : Token → Bool
after_value x = is_operator x || (at m.Question x || at m.OpenSquare x)

-- an operator is no `?` and no `[`
operator_apart : (x : Token) → is_operator x ≡ true → (at m.Question x || at m.OpenSquare x) ≡ true → ⊥
unfolding same_mark
operator_apart x a b = or_cases (at m.Question x) (at m.OpenSquare x) b (λ h. sign_apart (s.Mark m.Question) is_operator refl x h a) (λ h. sign_apart
    (s.Mark m.OpenSquare) is_operator refl x h a)

module _ (n : ℕ) where
  constant_expression : Reads All n (λ depth. g.constant_expression) (λ room. r.read_constant_expression) is_number (λ v. nowhere) false
  unfolding r.read_constant_expression
  constant_expression = ends (constant n) expr.Constant (λ v. nowhere) (λ a x h. h)

  bitwise_not : Reads All n (λ depth. g.bitwise_not) (λ room. r.read_bitwise_not) (at m.Tilde) (λ v. nowhere) false
  unfolding r.read_bitwise_not
  bitwise_not = on n (s.Mark m.Tilde) (λ u. on_name n (λ x. gives_value n (expr.BitwiseNot x)))

  -- ---- behind a name

  binary : (x : List ℕ) → Reads All n (λ depth. g.binary x) (λ room. r.read_binary x) is_operator (λ v. nowhere) false
  unfolding r.read_binary
  binary x = on_operator n (λ operator. on_name n (λ y. gives_value n (expr.Binary operator x y)))

  conditional : (x : List ℕ) → Reads All n (λ depth. g.conditional x) (λ room. r.read_conditional x) (at m.Question) (λ v. nowhere) false
  unfolding r.read_conditional
  conditional x = on n (s.Mark m.Question) (λ u. on_name n (λ y. on n (s.Mark m.Colon) (λ u. on_name n (λ z. gives_value n (expr.Conditional x y z)))))

  select_end : (x : List ℕ) (high : ℕ) → Reads All n (λ depth. g.select_end x high) (λ room. d.reads_either (at m.CloseSquare) (r.read_bit_end x high) (r.read_part_end x high))
      (λ x. at m.CloseSquare x || at m.Colon x) (λ v. nowhere) false
  unfolding r.read_bit_end r.read_part_end same_mark
  select_end x high =
      either_in (on n (s.Mark m.CloseSquare) (λ u. gives_value n (expr.BitSelect x high)))
      (on n (s.Mark m.Colon) (λ u. on_number n (λ low. on n (s.Mark m.CloseSquare) (λ u. gives_value n (expr.PartSelect x high low)))))
      (λ x a b. sign_apart (s.Mark m.CloseSquare) (at m.Colon) refl x a b) (λ v. nowhere) (λ v x h. h) (λ v x h. h) (λ depth at v x a b c. cc)

  select : (x : List ℕ) → Reads All n (λ depth. g.select x) (λ room. r.read_select x) (at m.OpenSquare) (λ v. nowhere) false
  unfolding r.read_select
  select x = on n (s.Mark m.OpenSquare) (λ u. on_number n (λ high. select_end x high))

  behind_name : (x : List ℕ) → Reads All n (λ depth. g.behind_name x) (λ room. r.read_behind_name x) (λ x. is_operator x || (at m.Question x ||
      (at m.OpenSquare x || false))) (λ v. after_value) true
  unfolding r.read_behind_name same_mark
  behind_name x =
      let selected = either_in (select x) (gives_value n (expr.Copy x)) (λ x a b. cc) (λ v. after_value) (λ v x h. cc) (λ v x h. cc)
      (λ depth k v x a b c. or_right (is_operator x) _ (or_right (at m.Question x) _ c)) in
      let asked = either_in (conditional x) selected (λ x a b. sign_apart (s.Mark m.Question) (λ y. at m.OpenSquare y || false) refl x a b) (λ v. after_value)
      (λ v x h. cc) (λ v x h. h)
      (λ depth k v x a b c. or_right (is_operator x) _ (or_left (at m.Question x) _ c)) in
      either_in (binary x) asked (λ x a b. operator_apart x a (kept (at m.Question x) (at m.OpenSquare x) b)) (λ v. after_value) (λ v x h. cc) (λ v x h. h)
      (λ depth k v x a b c. or_left (is_operator x) _ c)
    where
      kept : (a b : Bool) → (a || (b || false)) ≡ true → (a || b) ≡ true
      kept true b h = refl
      kept false true h = refl
      kept false false h = h

  named : Reads All n (λ depth. g.named) (λ room. r.read_named) is_name (λ v. after_value) false
  unfolding r.read_named
  named = on_name n behind_name

  -- ---- of signed names

  signed_less : (x : List ℕ) → Reads All n (λ depth. g.signed_less x) (λ room. r.read_signed_less x) (at m.Less) (λ v. nowhere) false
  unfolding r.read_signed_less
  signed_less x = on n (s.Mark m.Less) (λ u. ends (signed n) (expr.SignedLess x) (λ v. nowhere) (λ a x h. h))

  arithmetic_shift : (x : List ℕ) → Reads All n (λ depth. g.arithmetic_shift x) (λ room. r.read_arithmetic_shift x) (at m.ArithmeticShiftRight) (λ v. nowhere) false
  unfolding r.read_arithmetic_shift
  arithmetic_shift x = on n (s.Mark m.ArithmeticShiftRight) (λ u. on_name n (λ y. gives_value n (expr.ArithmeticShiftRight x y)))

  of_signed : Reads All n (λ depth. g.of_signed) (λ room. r.read_of_signed) (at m.Signed) (λ v. nowhere) false
  unfolding r.read_of_signed same_mark
  of_signed =
      in_turn (signed n)
      (λ x. either_in (signed_less x) (arithmetic_shift x) (λ x a b. sign_apart (s.Mark m.Less) (at m.ArithmeticShiftRight) refl x a b) (λ v. nowhere) (λ v x h. h) (λ v x h. h)
      (λ depth k v x a b c. cc))
      (λ a x l h. cc)

  -- ---- guarded

  division : (tested : List ℕ) (nought : Constant) (width : ℕ) → Reads All n (λ depth. g.division tested nought width) (λ room. r.read_division_end tested nought width)
      (at m.Decimal) (λ v. nowhere) false
  unfolding r.read_division_end
  division tested nought width =
      on n (s.Mark m.Decimal) (λ u. on_number n (λ value. on n (s.Mark m.Colon) (λ u. on_name n (λ x. on_division n (λ operator. on_name n (λ y.
      gives_value n (expr.Division tested nought (record { width = width; value = value }) operator x y)))))))

  signed_division : (tested : List ℕ) (nought : Constant) (width : ℕ)
      → Reads All n (λ depth. g.signed_division tested nought width) (λ room. r.read_signed_division_end tested nought width) (at m.SignedDecimal) (λ v. nowhere) false
  unfolding r.read_signed_division_end
  signed_division tested nought width =
      on n (s.Mark m.SignedDecimal) (λ u. on_number n (λ value. on n (s.Mark m.Colon) (λ u. in_turn (signed n) (λ x. on_division n (λ operator.
      ends (signed n) (expr.SignedDivision tested nought (record { width = width; value = value }) operator x) (λ v. nowhere) (λ a x h. h))) (λ a x l h. cc))))

  bound : Reads All n (λ depth. g.bound) (λ room. r.read_bound) is_number (λ v. nowhere) false
  unfolding r.read_bound
  bound = in_turn (constant n) (λ c. on n (s.Mark m.CloseRound) (λ u. on n (s.Mark m.Question) (λ u. gives_value n c))) (λ a x l h. cc)

  guarded_division : (tested : List ℕ) → Reads All n (λ depth. g.guarded_division tested) (λ room. r.read_guarded_division tested) (at m.EqualEqual) (λ v. nowhere) false
  unfolding r.read_guarded_division same_mark
  guarded_division tested =
      on n (s.Mark m.EqualEqual) (λ u. in_turn bound (λ nought. on_number n (λ width.
      either_in (division tested nought width) (signed_division tested nought width) (λ x a b. sign_apart (s.Mark m.Decimal) (at m.SignedDecimal) refl x a b)
      (λ v. nowhere) (λ v x h. h) (λ v x h. h)
      (λ depth k v x a b c. cc))) (λ a x l h. cc))

  guarded_read : (tested : List ℕ) → Reads All n (λ depth. g.guarded_read tested) (λ room. r.read_guarded_read tested) (at m.Less) (λ v. nowhere) false
  unfolding r.read_guarded_read
  guarded_read tested =
      on n (s.Mark m.Less) (λ u. in_turn bound (λ c. on_name n (λ memory. on n (s.Mark m.OpenSquare) (λ u. on_name n (λ address. on n (s.Mark m.CloseSquare) (λ u. on n
      (s.Mark m.Colon) (λ u.
      ends (constant n) (expr.MemoryRead tested c memory address) (λ v. nowhere) (λ a x h. h))))))) (λ a x l h. cc))

  guarded : Reads All n (λ depth. g.guarded) (λ room. r.read_guarded) (at m.OpenRound) (λ v. nowhere) false
  unfolding r.read_guarded same_mark
  guarded =
      on n (s.Mark m.OpenRound) (λ u. on_name n (λ tested.
      either_in (guarded_division tested) (guarded_read tested) (λ x a b. sign_apart (s.Mark m.EqualEqual) (at m.Less) refl x a b) (λ v. nowhere) (λ v x h. h) (λ v x h. h)
      (λ depth k v x a b c. cc)))

  -- ---- in braces

  concatenation : Reads All n (λ depth. g.concatenation) (λ room. r.read_concatenation) is_name (λ v. nowhere) false
  unfolding r.read_concatenation same_mark
  concatenation =
      in_turn (listed (any_name n) (λ x l h. cc)) (λ parts. on n (s.Mark m.CloseCurly) (λ u. gives_value n (expr.Concatenation parts)))
      (λ a x l h. sign_apart (s.Mark m.CloseCurly) (λ y. false || is comma y) refl x h l)

  replication : Reads All n (λ depth. g.replication) (λ room. r.read_replication) is_number (λ v. nowhere) false
  unfolding r.read_replication
  replication =
      on_number n (λ count. on n (s.Mark m.OpenCurly) (λ u. on_name n (λ x. on n (s.Mark m.CloseCurly) (λ u. on n (s.Mark m.CloseCurly) (λ u. gives_value n
      (expr.Replication count x))))))

  braced : Reads All n (λ depth. g.braced) (λ room. r.read_braced) (at m.OpenCurly) (λ v. nowhere) false
  unfolding r.read_braced
  braced =
      on n (s.Mark m.OpenCurly) (λ u. either_in concatenation replication (λ x a b. name_apart is_number (λ y. refl) x a b) (λ v. nowhere) (λ v x h. h) (λ v x h. h)
      (λ depth k v x a b c. cc))

  -- ---- the right side of an assign

  abbrev pub begins_value : Token → Bool
  begins_value x = is_name x || (is_number x || (at m.Tilde x || (at m.Signed x || (at m.OpenRound x || at m.OpenCurly x))))

  pub expression : Reads All n (λ depth. g.expression) (λ room. r.read_expression) begins_value (λ v. after_value) false
  unfolding r.read_expression same_mark
  expression =
      let last = either_in guarded braced (λ x a b. sign_apart (s.Mark m.OpenRound) (at m.OpenCurly) refl x a b) (λ v. nowhere) (λ v x h. h) (λ v x h. h)
      (λ depth k v x a b c. cc) in
      let fourth = either_in of_signed last (λ x a b. sign_apart (s.Mark m.Signed) (λ y. at m.OpenRound y || at m.OpenCurly y) refl x a b) (λ v. nowhere) (λ v x h. h)
      (λ v x h. h)
      (λ depth k v x a b c. cc) in
      let third = either_in bitwise_not fourth (λ x a b. sign_apart (s.Mark m.Tilde) (λ y. at m.Signed y || (at m.OpenRound y || at m.OpenCurly y)) refl x a b)
      (λ v. nowhere) (λ v x h. h) (λ v x h. h)
      (λ depth k v x a b c. cc) in
      let second = either_in constant_expression third (λ x a b. number_apart (λ y. at m.Tilde y || (at m.Signed y || (at m.OpenRound y || at m.OpenCurly y)))
      (λ k. refl) x a b) (λ v. nowhere) (λ v x h. h)
      (λ v x h. h) (λ depth k v x a b c. cc) in
      either_in named second (λ x a b. name_apart (λ y. is_number y || (at m.Tilde y || (at m.Signed y || (at m.OpenRound y || at m.OpenCurly y)))) (λ k. refl) x a b)
      (λ v. after_value) (λ v x h. h) (λ v x h. cc)
      (λ depth k v x a b c. cc)
