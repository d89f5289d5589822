-- Facts of single tokens, and the readings of what begins with one.
use Rattle.std.proofs.Common.{◌≡◌, ℕ, suc, ◌<◌, ◌≤◌, List, [], Option, Some, None, Bool, true, false, refl, sym, ap, ◌∙◌}
use Rattle.std.proofs.Common.{rules}
use denote.Enum.Bare.{same_true}
use Rattle.c_token.specs.declared.keyword.Keyword.{Keyword}
use Rattle.c_token.specs.contracts.keyword.Keyword as keyword
use Rattle.c_token.specs.declared.punctuator.Punctuator.{Punctuator}
use Rattle.c_token.specs.declared.punctuator.Punctuator.TheVariants as p
use Rattle.c_token.specs.contracts.punctuator.Punctuator as punctuator
use Rattle.c_token.specs.declared.constant.Constant.{Constant}
use Rattle.c_token.specs.declared.token.Kind.{Kind}
use Rattle.c_token.specs.declared.token.Kind.TheVariants as kind
use Rattle.c_token.specs.declared.token.Token.{Token}
use Rattle.grammar.specs.Rules.{Family}
use Rattle.grammar.specs.Readers as d
use Rattle.c_tree.specs.declared.sign.Sign.{Sign}
use Rattle.c_tree.specs.declared.sign.Sign.TheVariants.{Word, Mark, End}
use Rattle.c_tree.specs.declared.expression.Name.{Name}
use Rattle.c_tree.specs.Tokens.{same_keyword, same_punctuator, is_kind, is, place_if, sign_at, with_place, is_some, name_at, is_name}
use Rattle.c_tree.specs.Tokens.{is_constant, is_text, word_type, is_type_word, mark_direction}
use Rattle.c_tree.specs.Tokens.{is_direction}
use Rattle.c_tree.specs.Expressions as g
use Rattle.c_reading.specs.Tokens as r
use Rattle.grammar.proofs.Good.{Reads, ◌∘>◌}
use Rattle.grammar.proofs.Parts.{gives, nowhere, reads_by, resize, one_then}

-- ---- signs

-- a token of the kind
abbrev pub token : Kind → ℕ → Token
token x at = record { kind = x; offset = at }

abbrev pub sign_kind : Sign → Kind
sign_kind (Word w) = kind.Keyword w
sign_kind (Mark m) = kind.Punctuator m
sign_kind End = kind.End

keyword_is_itself : (w : Keyword) → same_keyword w w ≡ true
unfolding same_keyword
keyword_is_itself w = search rules

punctuator_is_itself : (m : Punctuator) → same_punctuator m m ≡ true
unfolding same_punctuator
punctuator_is_itself m = search rules

keyword_same : (w v : Keyword) → same_keyword w v ≡ true → w ≡ v
unfolding same_keyword
keyword_same w v h = same_true keyword.the_type (search rules) _ _ h

punctuator_same : (m q : Punctuator) → same_punctuator m q ≡ true → m ≡ q
unfolding same_punctuator
punctuator_same m q h = same_true punctuator.the_type (search rules) _ _ h

kind_is : (q : Sign) (x : Kind) → is_kind q x ≡ true → x ≡ sign_kind q
kind_is (Word w) (kind.Keyword v) h = ap kind.Keyword (sym (keyword_same w v h))
kind_is (Word w) (kind.Name b) h = cc
kind_is (Word w) (kind.Constant c) h = cc
kind_is (Word w) (kind.StringLiteral b) h = cc
kind_is (Word w) (kind.Punctuator m) h = cc
kind_is (Word w) kind.End h = cc
kind_is (Mark m) (kind.Keyword v) h = cc
kind_is (Mark m) (kind.Name b) h = cc
kind_is (Mark m) (kind.Constant c) h = cc
kind_is (Mark m) (kind.StringLiteral b) h = cc
kind_is (Mark m) (kind.Punctuator q) h = ap kind.Punctuator (sym (punctuator_same m q h))
kind_is (Mark m) kind.End h = cc
kind_is End (kind.Keyword v) h = cc
kind_is End (kind.Name b) h = cc
kind_is End (kind.Constant c) h = cc
kind_is End (kind.StringLiteral b) h = cc
kind_is End (kind.Punctuator m) h = cc
kind_is End kind.End h = refl

pub sign_here : (q : Sign) (at : ℕ) → is q (token (sign_kind q) at) ≡ true
sign_here (Word w) at = keyword_is_itself w
sign_here (Mark m) at = punctuator_is_itself m
sign_here End at = refl

-- a sign that is not of the set
pub sign_apart : (q : Sign) (set : Token → Bool) → ((at : ℕ) → set (token (sign_kind q) at) ≡ false) → (x : Token) → is q x ≡ true → set x ≡ true → ⊥
sign_apart q set other x h within =
    let same : set (token x.kind x.offset) ≡ set (token (sign_kind q) x.offset) = ap (λ y. set (token y x.offset)) (kind_is q x.kind h) in
    cc (same, other x.offset, within)

-- a sign that is of the set
pub sign_within : (q : Sign) (set : Token → Bool) → ((at : ℕ) → set (token (sign_kind q) at) ≡ true) → (x : Token) → is q x ≡ true → set x ≡ true
sign_within q set here x h = ap (λ y. set (token y x.offset)) (kind_is q x.kind h) ∙ here x.offset

pub sign_exactly : (q : Sign) (x : Token) → gives (sign_at q x) ≡ is q x
sign_exactly q x = exactly_at (is q x) where
  exactly_at : (b : Bool) → gives (place_if b x) ≡ b
  exactly_at true = refl
  exactly_at false = refl

pub sign_gives : (q : Sign) (at : ℕ) → sign_at q (token (sign_kind q) at) ≡ Some at
sign_gives q at = ap (λ b. place_if b (token (sign_kind q) at)) (sign_here q at)

-- ---- names, constants, string literals

pub some_exactly : {A : Type 0} (o : Option A) → gives o ≡ is_some o
some_exactly (Some a) = refl
some_exactly None = refl

pub placed_exactly : {A : Type 0} (at : ℕ) (o : Option A) → gives (with_place at o) ≡ is_some o
placed_exactly at (Some a) = refl
placed_exactly at None = refl

-- a name that is not of the set
pub name_apart : (set : Token → Bool) → ((b : List ℕ) (at : ℕ) → set (token (kind.Name b) at) ≡ false) → (x : Token) → is_name x ≡ true → set x ≡ true → ⊥
name_apart set other x h within = at_kind x.kind x.offset h within where
  at_kind : (y : Kind) (at : ℕ) → is_name (token y at) ≡ true → set (token y at) ≡ true → ⊥
  at_kind (kind.Keyword w) at h k = cc
  at_kind (kind.Name b) at h k = let out = other b at in cc (out, k)
  at_kind (kind.Constant c) at h k = cc
  at_kind (kind.StringLiteral b) at h k = cc
  at_kind (kind.Punctuator m) at h k = cc
  at_kind kind.End at h k = cc

-- a constant that is not of the set
pub constant_apart : (set : Token → Bool) → ((c : Constant) (at : ℕ) → set (token (kind.Constant c) at) ≡ false) → (x : Token) → is_constant x ≡ true → set x ≡ true → ⊥
constant_apart set other x h within = at_kind x.kind x.offset h within where
  at_kind : (y : Kind) (at : ℕ) → is_constant (token y at) ≡ true → set (token y at) ≡ true → ⊥
  at_kind (kind.Keyword w) at h k = cc
  at_kind (kind.Name b) at h k = cc
  at_kind (kind.Constant c) at h k = let out = other c at in cc (out, k)
  at_kind (kind.StringLiteral b) at h k = cc
  at_kind (kind.Punctuator m) at h k = cc
  at_kind kind.End at h k = cc

-- a string literal that is not of the set
pub text_apart : (set : Token → Bool) → ((b : List ℕ) (at : ℕ) → set (token (kind.StringLiteral b) at) ≡ false) → (x : Token) → is_text x ≡ true → set x ≡ true → ⊥
text_apart set other x h within = at_kind x.kind x.offset h within where
  at_kind : (y : Kind) (at : ℕ) → is_text (token y at) ≡ true → set (token y at) ≡ true → ⊥
  at_kind (kind.Keyword w) at h k = cc
  at_kind (kind.Name b) at h k = cc
  at_kind (kind.Constant c) at h k = cc
  at_kind (kind.StringLiteral b) at h k = let out = other b at in cc (out, k)
  at_kind (kind.Punctuator m) at h k = cc
  at_kind kind.End at h k = cc

-- a word of a type that is not of the set
pub type_apart : (set : Token → Bool) → ((w : Keyword) (at : ℕ) → is_some (word_type w) ≡ true → set (token (kind.Keyword w) at) ≡ false) → (x : Token) → is_type_word x ≡ true → set x ≡ true → ⊥
type_apart set other x h within = at_kind x.kind x.offset h within where
  at_kind : (y : Kind) (at : ℕ) → is_type_word (token y at) ≡ true → set (token y at) ≡ true → ⊥
  at_kind (kind.Keyword w) at h k = let out = other w at h in cc (out, k)
  at_kind (kind.Name b) at h k = cc
  at_kind (kind.Constant c) at h k = cc
  at_kind (kind.StringLiteral b) at h k = cc
  at_kind (kind.Punctuator m) at h k = cc
  at_kind kind.End at h k = cc

-- `++` and `--` where they are not of the set
pub direction_apart : (set : Token → Bool) → ((at : ℕ) → set (token (kind.Punctuator p.PlusPlus) at) ≡ false) → ((at : ℕ) → set (token (kind.Punctuator p.MinusMinus) at) ≡ false)
    → (x : Token) → is_direction x ≡ true → set x ≡ true → ⊥
direction_apart set up down x h within = at_kind x.kind x.offset h within where
  at_mark : (m : Punctuator) (at : ℕ) → is_some (mark_direction m) ≡ true → set (token (kind.Punctuator m) at) ≡ true → ⊥
  at_mark p.ShiftLeftAssign at h k = cc
  at_mark p.ShiftRightAssign at h k = cc
  at_mark p.PlusAssign at h k = cc
  at_mark p.MinusAssign at h k = cc
  at_mark p.StarAssign at h k = cc
  at_mark p.SlashAssign at h k = cc
  at_mark p.PercentAssign at h k = cc
  at_mark p.AndAssign at h k = cc
  at_mark p.OrAssign at h k = cc
  at_mark p.XorAssign at h k = cc
  at_mark p.ShiftLeft at h k = cc
  at_mark p.ShiftRight at h k = cc
  at_mark p.LessEqual at h k = cc
  at_mark p.GreaterEqual at h k = cc
  at_mark p.EqualEqual at h k = cc
  at_mark p.NotEqual at h k = cc
  at_mark p.AndAnd at h k = cc
  at_mark p.OrOr at h k = cc
  at_mark p.PlusPlus at h k = let out = up at in cc (out, k)
  at_mark p.MinusMinus at h k = let out = down at in cc (out, k)
  at_mark p.OpenRound at h k = cc
  at_mark p.CloseRound at h k = cc
  at_mark p.OpenCurly at h k = cc
  at_mark p.CloseCurly at h k = cc
  at_mark p.OpenSquare at h k = cc
  at_mark p.CloseSquare at h k = cc
  at_mark p.Semicolon at h k = cc
  at_mark p.Comma at h k = cc
  at_mark p.Plus at h k = cc
  at_mark p.Minus at h k = cc
  at_mark p.Star at h k = cc
  at_mark p.Slash at h k = cc
  at_mark p.Percent at h k = cc
  at_mark p.And at h k = cc
  at_mark p.Or at h k = cc
  at_mark p.Xor at h k = cc
  at_mark p.Tilde at h k = cc
  at_mark p.Exclamation at h k = cc
  at_mark p.Less at h k = cc
  at_mark p.Greater at h k = cc
  at_mark p.Assign at h k = cc
  at_mark p.Question at h k = cc
  at_mark p.Colon at h k = cc

  at_kind : (y : Kind) (at : ℕ) → is_direction (token y at) ≡ true → set (token y at) ≡ true → ⊥
  at_kind (kind.Keyword w) at h k = cc
  at_kind (kind.Name b) at h k = cc
  at_kind (kind.Constant c) at h k = cc
  at_kind (kind.StringLiteral b) at h k = cc
  at_kind (kind.Punctuator m) at h k = at_mark m at h k
  at_kind kind.End at h k = cc

-- ---- what begins with a sign or a name

module _ {D : ℕ → Type 0} {n m : ℕ} (le : n ≤ suc m) (whole : 0 < n → (depth : ℕ) → D depth) where
  -- a sign, and a rule after it
  pub sign_then : {B : Type 0} {Q : ℕ → Family Token B} {q : ℕ → ℕ → d.Reader Token B} {first' : ℕ → Token → Bool} {last' : B → Token → Bool} {null' : Bool}
      (s : Sign) → ((a : ℕ) → Reads D m (Q a) (q a) (first' a) last' null') → Reads D n ((λ depth. g.sign s) ∘> Q) (λ room. d.reads_both (r.expect s) (λ a. q a room)) (is s) last' false
  unfolding r.expect
  sign_then s after = one_then le whole (is s) (sign_exactly s) (token (sign_kind s) 0) 0 (sign_gives s 0) after

  pub name_then : {B : Type 0} {Q : Name → Family Token B} {q : Name → ℕ → d.Reader Token B} {first' : Name → Token → Bool} {last' : B → Token → Bool} {null' : Bool}
      → ((a : Name) → Reads D m (Q a) (q a) (first' a) last' null') → Reads D n ((λ depth. g.name) ∘> Q) (λ room. d.reads_both r.read_name (λ a. q a room)) is_name last' false
  unfolding r.read_name
  name_then after = one_then le whole is_name (λ x. some_exactly (name_at x)) (token (kind.Name []) 0) (record { bytes = []; offset = 0 }) refl after

module _ {D : ℕ → Type 0} {n : ℕ} (whole : 0 < n → (depth : ℕ) → D depth) where
  pub sign_alone : (s : Sign) → Reads D n (λ depth. g.sign s) (λ room. r.expect s) (is s) (λ v. nowhere) false
  unfolding r.expect
  sign_alone s = resize (reads_by (sign_at s) whole (token (sign_kind s) 0) 0 (sign_gives s 0)) (is s) (λ v. nowhere) false (sign_exactly s) (λ v t h. h) refl
