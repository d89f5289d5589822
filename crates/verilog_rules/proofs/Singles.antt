-- Facts of single tokens, and the readings of what begins with one.
use Rattle.std.proofs.Common.{◌≡◌, ℕ, suc, ◌<◌, ◌≤◌, List, [], Option, Some, None, Bool, true, false, refl, sym, ap, rules, arith}
use Rattle.std.specs.Prelude.{is_some}
use denote.Enum.Bare.{same_true}
use Rattle.std.proofs.lemmas.Bool.{eqb-true}
use Rattle.std.proofs.lemmas.Slice.Eq.{bytes_eq-Decides}
use Rattle.verilog_tree.specs.declared.token.Word.{Word}
use Rattle.verilog_tree.specs.declared.token.Word.TheVariants as w
use Rattle.verilog_tree.specs.contracts.token.Word as word
use Rattle.verilog_tree.specs.declared.token.Mark.{Mark}
use Rattle.verilog_tree.specs.declared.token.Mark.TheVariants as m
use Rattle.verilog_tree.specs.contracts.token.Mark as mark
use Rattle.verilog_tree.specs.declared.token.Token.{Token}
use Rattle.verilog_tree.specs.declared.token.Token.TheVariants as t
use Rattle.verilog_tree.specs.declared.tree.BinaryOperator.{BinaryOperator}
use Rattle.verilog_tree.specs.declared.tree.BinaryOperator.TheVariants as op
use Rattle.verilog_tree.specs.declared.tree.DivisionOperator.{DivisionOperator}
use Rattle.verilog_tree.specs.declared.tree.DivisionOperator.TheVariants as division
use Rattle.verilog_tree.specs.declared.tree.Direction.{Direction}
use Rattle.verilog_tree.specs.declared.tree.Direction.TheVariants as dir
use Rattle.verilog_tree.specs.Grammar.{clk}
use Rattle.grammar.specs.Rules.{Family, pure, one}
use Rattle.grammar.specs.Readers as d
use Rattle.grammar.proofs.Good.{Reads, ◌∘>◌}
use Rattle.grammar.proofs.Parts.{gives, nowhere, reads_by, reads_nothing, resize, one_then}
use Rattle.verilog_rules.specs.declared.sign.Sign.{Sign}
use Rattle.verilog_rules.specs.declared.sign.Sign.TheVariants as s
use Rattle.verilog_rules.specs.Signs.{same_word, same_mark, is, given_if, sign_at, name_at, is_name, number_at, is_number, quoted_at, operator_at, is_operator}
use Rattle.verilog_rules.specs.Signs.{division_at, direction_at}
use Rattle.verilog_rules.specs.Phrases as g
use Rattle.verilog_rules.specs.Reading as r

-- ---- signs

abbrev pub token_of : Sign → Token
token_of (s.Word x) = t.Word x
token_of (s.Mark x) = t.Mark x
token_of s.Zero = t.Number 0
token_of s.Clock = t.Name clk

word_is_itself : (x : Word) → same_word x x ≡ true
unfolding same_word
word_is_itself x = search rules

mark_is_itself : (x : Mark) → same_mark x x ≡ true
unfolding same_mark
mark_is_itself x = search rules

word_same : (x y : Word) → same_word x y ≡ true → x ≡ y
unfolding same_word
word_same x y h = same_true word.the_type (search rules) _ _ h

mark_same : (x y : Mark) → same_mark x y ≡ true → x ≡ y
unfolding same_mark
mark_same x y h = same_true mark.the_type (search rules) _ _ h

pub token_is : (q : Sign) (x : Token) → is q x ≡ true → x ≡ token_of q
token_is (s.Word x) (t.Word y) h = ap t.Word (sym (word_same x y h))
token_is (s.Word x) (t.Mark y) h = cc
token_is (s.Word x) (t.Name n) h = cc
token_is (s.Word x) (t.Number n) h = cc
token_is (s.Word x) (t.Quoted z) h = cc
token_is (s.Mark x) (t.Word y) h = cc
token_is (s.Mark x) (t.Mark y) h = ap t.Mark (sym (mark_same x y h))
token_is (s.Mark x) (t.Name n) h = cc
token_is (s.Mark x) (t.Number n) h = cc
token_is (s.Mark x) (t.Quoted z) h = cc
token_is s.Zero (t.Word y) h = cc
token_is s.Zero (t.Mark y) h = cc
token_is s.Zero (t.Name n) h = cc
token_is s.Zero (t.Number n) h = ap t.Number (eqb-true n 0 h)
token_is s.Zero (t.Quoted z) h = cc
token_is s.Clock (t.Word y) h = cc
token_is s.Clock (t.Mark y) h = cc
token_is s.Clock (t.Name n) h = ap t.Name ((bytes_eq-Decides n clk).0 h)
token_is s.Clock (t.Number n) h = cc
token_is s.Clock (t.Quoted z) h = cc

sign_here : (q : Sign) → is q (token_of q) ≡ true
sign_here (s.Word x) = word_is_itself x
sign_here (s.Mark x) = mark_is_itself x
sign_here s.Zero = refl
sign_here s.Clock = refl

-- a sign that is not of the set
pub sign_apart : (q : Sign) (set : Token → Bool) → set (token_of q) ≡ false → (x : Token) → is q x ≡ true → set x ≡ true → ⊥
sign_apart q set other x h within = let same : set x ≡ set (token_of q) = ap set (token_is q x h) in cc (same, other, within)

pub sign_exactly : (q : Sign) (x : Token) → gives (sign_at q x) ≡ is q x
sign_exactly q x = exactly_at (is q x) where
  exactly_at : (b : Bool) → gives (given_if b) ≡ b
  exactly_at true = refl
  exactly_at false = refl

pub sign_gives : (q : Sign) → sign_at q (token_of q) ≡ Some tt
sign_gives q = ap given_if (sign_here q)

-- ---- names, numbers, operators

pub some_exactly : {A : Type 0} (o : Option A) → gives o ≡ is_some o
some_exactly (Some a) = refl
some_exactly None = refl

-- a name that is not of the set
pub name_apart : (set : Token → Bool) → ((n : List ℕ) → set (t.Name n) ≡ false) → (x : Token) → is_name x ≡ true → set x ≡ true → ⊥
name_apart set other (t.Word y) h k = cc
name_apart set other (t.Mark y) h k = cc
name_apart set other (t.Name n) h k = let out = other n in cc (out, k)
name_apart set other (t.Number n) h k = cc
name_apart set other (t.Quoted z) h k = cc

-- a number that is not of the set
pub number_apart : (set : Token → Bool) → ((n : ℕ) → set (t.Number n) ≡ false) → (x : Token) → is_number x ≡ true → set x ≡ true → ⊥
number_apart set other (t.Word y) h k = cc
number_apart set other (t.Mark y) h k = cc
number_apart set other (t.Name n) h k = cc
number_apart set other (t.Number n) h k = let out = other n in cc (out, k)
number_apart set other (t.Quoted z) h k = cc

-- ---- what begins with a token

-- all depths
abbrev pub All : ℕ → Type 0
All depth = Unit {0}

module _ {D : ℕ → Type 0} {n m : ℕ} (le : n ≤ suc m) (whole : 0 < n → (depth : ℕ) → D depth) where
  -- a sign, and a phrase after it
  pub sign_then : {B : Type 0} {Q : Unit {0} → Family Token B} {q : Unit {0} → ℕ → d.Reader Token B} {first' : Unit {0} → Token → Bool} {last' : B → Token → Bool} {null' : Bool}
      (x : Sign) → ((a : Unit {0}) → Reads D m (Q a) (q a) (first' a) last' null') → Reads D n ((λ depth. g.sign x) ∘> Q) (λ room. d.reads_both (r.expect x)
      (λ a. q a room)) (is x) last' false
  unfolding r.expect
  sign_then x after = one_then le whole (is x) (sign_exactly x) (token_of x) tt (sign_gives x) after

module _ (n : ℕ) where
  abbrev pub all_depths : 0 < n → (depth : ℕ) → All depth
  all_depths lt depth = tt

  abbrev pub gives_value : {B : Type 0} (v : B) → Reads {T = Token} All n (λ depth. pure v) (λ room. d.reads_pure v) nowhere (λ v. nowhere) true
  gives_value v = reads_nothing all_depths v

  -- the same with as many tokens
  pub on : {B : Type 0} {Q : Unit {0} → Family Token B} {q : Unit {0} → ℕ → d.Reader Token B} {first' : Unit {0} → Token → Bool} {last' : B → Token → Bool} {null' : Bool}
      (x : Sign) → ((a : Unit {0}) → Reads All n (Q a) (q a) (first' a) last' null') → Reads All n ((λ depth. g.sign x) ∘> Q) (λ room. d.reads_both (r.expect x)
      (λ a. q a room)) (is x) last' false
  on x after = sign_then {n = n} {m = n} (omega arith) all_depths x after

  pub on_name : {B : Type 0} {Q : List ℕ → Family Token B} {q : List ℕ → ℕ → d.Reader Token B} {first' : List ℕ → Token → Bool} {last' : B → Token → Bool} {null' : Bool}
      → ((a : List ℕ) → Reads All n (Q a) (q a) (first' a) last' null') → Reads All n ((λ depth. g.name) ∘> Q) (λ room. d.reads_both r.read_name
      (λ a. q a room)) is_name last' false
  unfolding r.read_name
  on_name after = one_then {n = n} {m = n} (omega arith) all_depths is_name (λ x. some_exactly (name_at x)) (t.Name []) [] refl after

  pub on_number : {B : Type 0} {Q : ℕ → Family Token B} {q : ℕ → ℕ → d.Reader Token B} {first' : ℕ → Token → Bool} {last' : B → Token → Bool} {null' : Bool}
      → ((a : ℕ) → Reads All n (Q a) (q a) (first' a) last' null') → Reads All n ((λ depth. g.number) ∘> Q) (λ room. d.reads_both r.read_number
      (λ a. q a room)) is_number last' false
  unfolding r.read_number
  on_number after = one_then {n = n} {m = n} (omega arith) all_depths is_number (λ x. some_exactly (number_at x)) (t.Number 0) 0 refl after

  pub on_quoted : {B : Type 0} {Q : List ℕ → Family Token B} {q : List ℕ → ℕ → d.Reader Token B} {first' : List ℕ → Token → Bool} {last' : B → Token → Bool} {null' : Bool}
      → ((a : List ℕ) → Reads All n (Q a) (q a) (first' a) last' null')
      → Reads All n ((λ depth. one quoted_at) ∘> Q) (λ room. d.reads_both r.read_quoted (λ a. q a room)) (λ x. is_some (quoted_at x)) last' false
  unfolding r.read_quoted
  on_quoted after = one_then {n = n} {m = n} (omega arith) all_depths (λ x. is_some (quoted_at x)) (λ x. some_exactly (quoted_at x)) (t.Quoted []) [] refl after

  pub on_operator : {B : Type 0} {Q : BinaryOperator → Family Token B} {q : BinaryOperator → ℕ → d.Reader Token B} {first' : BinaryOperator → Token → Bool} {last' : B
      → Token → Bool} {null' : Bool}
      → ((a : BinaryOperator) → Reads All n (Q a) (q a) (first' a) last' null')
      → Reads All n ((λ depth. one operator_at) ∘> Q) (λ room. d.reads_both r.read_operator (λ a. q a room)) is_operator last' false
  unfolding r.read_operator
  on_operator after = one_then {n = n} {m = n} (omega arith) all_depths is_operator (λ x. some_exactly (operator_at x)) (t.Mark m.Plus) op.Add refl after

  pub on_division : {B : Type 0} {Q : DivisionOperator → Family Token B} {q : DivisionOperator → ℕ → d.Reader Token B} {first' : DivisionOperator → Token
      → Bool} {last' : B → Token → Bool} {null' : Bool}
      → ((a : DivisionOperator) → Reads All n (Q a) (q a) (first' a) last' null')
      → Reads All n ((λ depth. one division_at) ∘> Q) (λ room. d.reads_both r.read_division (λ a. q a room)) (λ x. is_some (division_at x)) last' false
  unfolding r.read_division
  on_division after = one_then {n = n} {m = n} (omega arith) all_depths (λ x. is_some (division_at x)) (λ x. some_exactly (division_at x))
      (t.Mark m.Slash) division.Quotient refl after

  pub on_direction : {B : Type 0} {Q : Direction → Family Token B} {q : Direction → ℕ → d.Reader Token B} {first' : Direction → Token → Bool} {last' : B → Token
      → Bool} {null' : Bool}
      → ((a : Direction) → Reads All n (Q a) (q a) (first' a) last' null')
      → Reads All n ((λ depth. one direction_at) ∘> Q) (λ room. d.reads_both r.read_direction (λ a. q a room)) (λ x. is_some (direction_at x)) last' false
  unfolding r.read_direction
  on_direction after = one_then {n = n} {m = n} (omega arith) all_depths (λ x. is_some (direction_at x)) (λ x. some_exactly (direction_at x))
      (t.Word w.Input) dir.Input refl after

  pub sign_alone : (x : Sign) → Reads All n (λ depth. g.sign x) (λ room. r.expect x) (is x) (λ v. nowhere) false
  unfolding r.expect
  sign_alone x = resize (reads_by (sign_at x) all_depths (token_of x) tt (sign_gives x)) (is x) (λ v. nowhere) false (sign_exactly x) (λ v y h. h) refl
