-- The readings of expressions read the grammar's rules.
use Rattle.std.proofs.Common.{◌≡◌, ℕ, zero, suc, ◌+◌, ◌<◌, ◌≤◌, List, [], ◌∷◌, ◌++◌, Option, Some, None, Bool, true, false, refl, sym, ap, ◌∙◌}
use Rattle.std.proofs.Common.{subst, inl, inr, ⊎_elim, append_assoc, arith}
use Rattle.std.specs.Prelude.{◌||◌, ◌&&◌, reverse}
use Rattle.std.proofs.lemmas.Bool.{or_left, or_right, false_from_ne_true, and_parts}
use Rattle.std.specs.Cmp.{both_ways}
use Rattle.c_token.specs.declared.keyword.Keyword.TheVariants as k
use Rattle.c_token.specs.declared.punctuator.Punctuator.TheVariants as p
use Rattle.c_token.specs.declared.constant.Constant.TheVariants.{TooLarge}
use Rattle.c_token.specs.declared.token.Kind.TheVariants as kind
use Rattle.c_token.specs.declared.token.Token.{Token}
use Rattle.grammar.specs.Rules.{Placed, Family, pure, one, ◌>>=◌, ◌>>◌, ◌<|>◌, many, nested}
use Rattle.grammar.specs.Sentences.{plain}
use Rattle.grammar.specs.Readers as d
use Rattle.c_tree.specs.declared.sign.Sign.{Sign}
use Rattle.c_tree.specs.declared.sign.Sign.TheVariants.{Word, Mark}
use Rattle.c_tree.specs.declared.expression.Name.{Name}
use Rattle.c_tree.specs.declared.expression.Specifiers.{Specifiers}
use Rattle.c_tree.specs.declared.expression.UnaryOperator.TheVariants.{Minus}
use Rattle.c_tree.specs.declared.expression.Expression.{Expression}
use Rattle.c_tree.specs.declared.expression.Form.TheVariants as form
use Rattle.c_tree.specs.declared.expression.Choice.{Choice}
use Rattle.c_tree.specs.declared.expression.Pointer.{Pointer}
use Rattle.c_tree.specs.declared.expression.Argument.{Argument}
use Rattle.c_tree.specs.declared.expression.Argument.TheVariants as argument_of
use Rattle.c_tree.specs.declared.expression.TypeWord.{TypeWord}
use Rattle.c_tree.specs.declared.expression.TypeWord.TheVariants as t
use Rattle.c_tree.specs.Tokens.{same_keyword, same_punctuator, is, sign_at, place_if, name_at, is_name, constant_at, constant_of}
use Rattle.c_tree.specs.Tokens.{is_constant, text_of, is_text, type_word_at, first_word_at, is_type_word, unary_at, unary_of, is_unary}
use Rattle.c_tree.specs.Tokens.{mark_of, of_mark, binding}
use Rattle.c_tree.specs.Trees as tree
use Rattle.c_tree.specs.Expressions as g
use Rattle.c_reading.specs.Tokens as r
use Rattle.c_reading.specs.Expressions as e
use Rattle.grammar.proofs.Lists.{or_cases}
use Rattle.grammar.proofs.Good.{Reads, ◌∘>◌, less}
use Rattle.grammar.proofs.Parts.{gives, nowhere, reads_nothing, reads_by, resize, same_rule, one_then, some_then, in_turn, both, ends}
use Rattle.grammar.proofs.Choice.{StartsPlain, StartsBy, DepartsBy, departs_not, either_in, ahead_in, ahead_two, partly, starts_both, departs_both}
use Rattle.grammar.proofs.Choice.{one_starts, one_departs, first_departs, begins_departs, start_none, start_begun, start_one, start_both, shared}
use Rattle.grammar.proofs.Choice.{swapped}
use Rattle.grammar.proofs.Loops.{loop, folded, as_list}
use Rattle.grammar.proofs.Nested.{OpensBy, deeper_in, within_in, one_flat, one_opens}
use Rattle.c_reading.proofs.TokenProofs.{token, sign_kind, sign_apart, sign_within, sign_exactly, some_exactly, placed_exactly, name_apart}
use Rattle.c_reading.proofs.TokenProofs.{constant_apart, text_apart, type_apart, sign_then, name_then}
use Rattle.c_reading.proofs.LevelProofs.{below, opens, goes, sign_ends, levels}
use Rattle.c_reading.proofs.Pairs.{two_at_any_depth}
use Rattle.c_reading.proofs.BoundedLists.{at_most}
use Rattle.c_reading.proofs.ExprShapes.{open_round, close_round, All, cast_opens, expr_opens, expr_of, some_cast, some_expr}

abbrev pub open_square : Sign
open_square = Mark p.OpenSquare

abbrev pub close_square : Sign
close_square = Mark p.CloseSquare

abbrev pub comma : Sign
comma = Mark p.Comma

abbrev pub question : Sign
question = Mark p.Question

-- what goes on after an expression
pub after_expr : Token → Bool
after_expr x = goes 10 x || is question x

pub after_goes : (x : Token) → goes 10 x ≡ true → after_expr x ≡ true
unfolding after_expr
after_goes x h = or_left (goes 10 x) (is question x) h

after_question : (x : Token) → is question x ≡ true → after_expr x ≡ true
unfolding after_expr
after_question x h = or_right (goes 10 x) (is question x) h

pub after_opens : (x : Token) → opens x ≡ true → after_expr x ≡ true
unfolding goes
after_opens x h = after_goes x (or_right (below 10 x) (opens x) h)

pub opens_round : (x : Token) → is open_round x ≡ true → opens x ≡ true
unfolding opens
opens_round x h = or_left (is open_round x) (is open_square x) h

pub opens_square : (x : Token) → is open_square x ≡ true → opens x ≡ true
unfolding opens
opens_square x h = or_right (is open_round x) (is open_square x) h

-- a sign that does not go on after an expression
pub expr_ends : (q : Sign) → of_mark binding (mark_of (sign_kind q)) ≡ None → ((at : ℕ) → opens (token (sign_kind q) at) ≡ false) → ((at : ℕ) → is question (token (sign_kind q) at) ≡ false)
    → (x : Token) → after_expr x ≡ true → is q x ≡ true → ⊥
unfolding after_expr
expr_ends q plain closed other x h e = or_cases (goes 10 x) (is question x) h (λ a. sign_ends q 10 plain closed x a e) (λ a. sign_apart q (is question) other x e a)

-- ---- words of a type

type_word_starts : (x : Token) → gives (first_word_at x) ≡ is_type_word x
type_word_starts x = placed_exactly x.offset (type_word_at x)

abbrev words_from : TypeWord × ℕ → List TypeWord → Specifiers
words_from first words = record { words = words; offset = first.1 }

-- behind the first word of a type
abbrev MoreWords : TypeWord × ℕ → Family Token Specifiers
MoreWords first depth = many (one type_word_at) >>= (λ words. pure (words_from first (first.0 ∷ words)))

module _ {D : ℕ → Type 0} {n : ℕ} (whole : 0 < n → (depth : ℕ) → D depth) where
  word : Reads D n (λ depth. one type_word_at) (λ room. r.read_type_word) is_type_word (λ v. nowhere) false
  unfolding r.read_type_word
  word = resize (reads_by type_word_at whole (token (kind.Keyword k.Int) 0) t.Int refl) is_type_word (λ v. nowhere) false (λ x. some_exactly (type_word_at x)) (λ v x h. h) refl

  pub words_behind : (first : TypeWord × ℕ) → Reads D n (MoreWords first) (λ room ts. d.and_then (r.read_words first.0 ts) (λ words. d.reads_pure (words_from first words)))
      (λ x. is_type_word x || false) (λ v. is_type_word) true
  unfolding r.read_words
  words_behind first =
      as_list (λ words depth. pure (words_from first words)) (first.0 ∷ [])
      (loop d.appended word (λ words. reads_nothing whole (words_from first words)) (λ v x l h. cc) (λ v x l h. cc) (λ x a b. cc)
      (λ v. is_type_word) (λ b x h. cc) (λ v b x z h. cc) (λ b x z h. h) (first.0 ∷ []))

  pub specifiers : Reads D n (λ depth. g.specifiers) (λ room. r.read_specifiers) is_type_word (λ v. is_type_word) false
  unfolding r.read_specifiers r.read_first_word
  specifiers = one_then {n = n} {m = n} (omega arith) whole is_type_word type_word_starts (token (kind.Keyword k.Int) 0) (t.Int, 0) refl words_behind

-- ---- lists with commas

module _ {D : ℕ → Type 0} {A : Type 0} {n : ℕ} {P : Family Token A} {q : ℕ → r.Reads A} {first last : Token → Bool} (item : Reads D n P q first (λ v. last) false)
    (apart : (x : Token) → last x ≡ true → is comma x ≡ true → ⊥) where
  next : Reads D n (λ depth. g.sign comma >> P depth) (λ room. r.read_next (q room)) (is comma) (λ v. last) false
  unfolding r.read_next
  next = sign_then {n = n} {m = n} (omega arith) item.whole comma (λ u. item)

  pub listed : Reads D n (λ depth. g.listed (P depth)) (λ room. r.read_listed (q room)) first (λ vs x. last x || is comma x) false
  unfolding r.read_listed r.read_more
  listed =
      let rest = λ (a : A). as_list (λ vs depth. pure vs) (a ∷ [])
      (folded d.appended next (λ v x l f. apart x l f) (λ vs x. last x || is comma x) (λ v b x h. or_left (last x) (is comma x) h) (λ b x h. or_right (last x) (is comma x) h) (a ∷ [])) in
      some_then {n = n} {m = n} (omega arith) item rest (λ v x l h. apart x l h) (λ vs x. last x || is comma x) (λ b x h. h) (λ a depth at b x z h l. or_left (last x) (is comma x) l)

-- ---- expressions, by those of fewer tokens

module _ {D : ℕ → Type 0} (n m : ℕ) (le : n ≤ suc m) (more : m ≤ n) (whole : 0 < n → (depth : ℕ) → D depth)
    (cast : Reads D m g.cast (λ room. e.read_cast (suc room)) r.begins_cast (λ v. opens) false)
    (expr : Reads D m g.expr (λ room. e.read_expr (suc room)) r.begins_cast (λ v. after_expr) false) where
  on : {B : Type 0} {Q : ℕ → Family Token B} {q : ℕ → ℕ → d.Reader Token B} {first' : ℕ → Token → Bool} {last' : B → Token → Bool} {null' : Bool}
      (s : Sign) → ((a : ℕ) → Reads D m (Q a) (q a) (first' a) last' null') → Reads D m ((λ depth. g.sign s) ∘> Q) (λ room. d.reads_both (r.expect s) (λ a. q a room)) (is s) last' false
  on s after = sign_then {n = m} {m = m} (omega arith) cast.whole s after

  gives_value : {B : Type 0} (v : B) → Reads {T = Token} D m (λ depth. pure v) (λ room. d.reads_pure v) nowhere (λ v. nowhere) true
  gives_value v = reads_nothing cast.whole v

  begins_round : (x : Token) → is open_round x ≡ true → r.begins_cast x ≡ true
  begins_round x h = or_right (is_unary x) _ (or_right (is_name x) _ (or_right (is_constant x) (is open_round x) h))

  -- one level deeper
  inner_cast : Reads D m (λ depth. nested (g.cast depth)) e.read_cast r.begins_cast (λ v. opens) false
  unfolding e.read_cast
  inner_cast = deeper_in cast (is open_round) cast_opens begins_round e.read_cast (λ ts. refl) (λ room ts. refl)

  -- ---- brackets

  parenthesized : Reads D n (λ depth. g.parenthesized (g.cast depth) (g.expr depth)) (λ room. e.read_parenthesized (e.read_expr room) room) (is open_round) (λ v. nowhere) false
  unfolding e.read_parenthesized opens same_punctuator
  parenthesized =
      within_in (λ room. d.reads_both (r.expect open_round) (λ at. d.reads_both (e.read_expr room) (λ x. d.reads_both (r.expect close_round) (λ u. d.reads_pure (tree.moved at x)))))
      (sign_then le whole open_round (λ at. in_turn expr (λ x. on close_round (λ u. gives_value (tree.moved at x))) (λ v x l h. expr_ends close_round refl (λ at. refl) (λ at. refl) x l h)))
      (one_flat (sign_at open_round) (λ at depth. g.expr depth >>= (λ x. g.sign close_round >>= (λ u. pure (tree.moved at x)))))

  index : Reads D n (λ depth. g.index (g.cast depth) (g.expr depth)) (λ room. e.read_index (e.read_expr room) room) (is open_square) (λ v. nowhere) false
  unfolding e.read_index opens same_punctuator
  index =
      within_in (λ room. d.reads_both (r.expect open_square) (λ at. d.reads_both (e.read_expr room) (λ x. d.reads_both (r.expect close_square) (λ u. d.reads_pure x))))
      (sign_then le whole open_square (λ at. in_turn expr (λ x. on close_square (λ u. gives_value x)) (λ v x l h. expr_ends close_square refl (λ at. refl) (λ at. refl) x l h)))
      (one_flat (sign_at open_square) (λ at depth. g.expr depth >>= (λ x. g.sign close_square >>= (λ u. pure x))))

  pub indices : Reads D m (λ depth. g.indices (g.cast depth) (g.expr depth)) (λ room. e.read_indices (e.read_expr room) room) (is open_square) (λ v. is open_square) true
  unfolding e.read_indices
  indices = at_most (less index m more) 2

  pub place : Reads D n (λ depth. g.place (g.cast depth) (g.expr depth)) (λ room. e.read_place (e.read_expr room) room) is_name (λ v. is open_square) false
  unfolding e.read_place
  place = name_then le whole (λ x. ends indices (tree.place x) (λ v. is open_square) (λ o y h. h))

  place_flat : OpensBy D (λ x. false) (λ depth. g.place (g.cast depth) (g.expr depth))
  place_flat = one_opens (λ x. false) name_at (λ x depth. g.indices (g.cast depth) (g.expr depth) >>= (λ i. pure (tree.place x i))) (λ x h. refl)

  target_none : (ts : List Token) → e.read_target 0 ts ≡ d.too_deep_or (λ x. false) is_name ts
  unfolding e.read_target
  target_none [] = refl
  target_none (x ∷ ts) = refl

  target : Reads D m (λ depth. nested (g.place (g.cast depth) (g.expr depth))) e.read_target is_name (λ v. is open_square) false
  unfolding e.read_target
  target = deeper_in (less place m more) (λ x. false) place_flat (λ x h. cc) e.read_target target_none (λ room ts. refl)

  -- ---- pointers

  to_pointer_rest : (at : ℕ) → Reads D n (λ depth. g.sign (Mark p.Star) >>= (λ u. g.sign close_round >>= (λ v. pure at)))
      (λ room. d.reads_both (r.expect (Mark p.Star)) (λ u. d.reads_both (r.expect close_round) (λ v. d.reads_pure at))) (is (Mark p.Star)) (λ v. nowhere) false
  to_pointer_rest at = sign_then {n = n} {m = n} (omega arith) whole (Mark p.Star) (λ u. sign_then {n = n} {m = n} (omega arith) whole close_round (λ v. reads_nothing whole at))

  conversion_to_pointer : Reads D n (λ depth. g.conversion_to_pointer (g.cast depth) (g.expr depth)) (λ room. e.read_conversion_to_pointer room) (is open_round) (λ v. nowhere) false
  unfolding e.read_conversion_to_pointer
  conversion_to_pointer =
      within_in (λ room. d.reads_both (r.expect open_round) (λ at. d.reads_both (r.expect (Word k.Void))
      (λ v. d.reads_both (r.expect (Mark p.Star)) (λ u. d.reads_both (r.expect close_round) (λ w. d.reads_pure at)))))
      (sign_then {n = n} {m = n} (omega arith) whole open_round (λ at. sign_then {n = n} {m = n} (omega arith) whole (Word k.Void) (λ v. to_pointer_rest at)))
      (one_flat (sign_at open_round) (λ at depth. g.sign (Word k.Void) >>= (λ v. g.sign (Mark p.Star) >>= (λ u. g.sign close_round >>= (λ w. pure at)))))

  pub converted_pointer : Reads D n (λ depth. g.converted_pointer (g.cast depth) (g.expr depth)) (λ room. e.read_converted_pointer (e.read_cast room) room) (is open_round) (λ v. opens) false
  unfolding e.read_converted_pointer
  converted_pointer = some_then le conversion_to_pointer (λ at. ends inner_cast (tree.pointer at) (λ v. opens) (λ a x h. h)) (λ u x l h. cc) (λ v. opens) (λ b x h. h) (λ u depth at b x z h l. cc)

  pub null : Reads D n (λ depth. g.null (g.cast depth) (g.expr depth)) (λ room. e.read_null) (is (Word k.Null)) (λ v. nowhere) false
  unfolding e.read_null
  null = sign_then {n = n} {m = n} (omega arith) whole (Word k.Null) (λ at. reads_nothing whole (tree.null at))

  -- ---- what starts with `(void *`

  abbrev pub ahead : List (Token → Bool)
  ahead = e.conversion_to_pointer_ahead

  sign_gives_place : (q : Sign) (x : Token) → is q x ≡ true → sign_at q x ≡ Some x.offset
  sign_gives_place q x h = ap (λ b. place_if b x) h

  conversion_starts : (depth at : ℕ) (w : List (Placed Token)) (v : ℕ) → g.conversion_to_pointer (g.cast depth) (g.expr depth) at w v → StartsBy ahead (at + 1) w
  conversion_starts depth at w v h =
      one_starts (sign_at open_round) (λ c. g.sign (Word k.Void) >> (g.sign (Mark p.Star) >> (g.sign close_round >> pure c))) (is open_round) (is (Word k.Void) ∷ is (Mark p.Star) ∷ [])
      (at + 1) (at + 1) w v (sign_exactly open_round) refl h
      (one_starts (sign_at (Word k.Void)) (λ u. g.sign (Mark p.Star) >> (g.sign close_round >> pure h.0)) (is (Word k.Void)) (is (Mark p.Star) ∷ [])
      (at + 1) (at + 1) h.2 v (sign_exactly (Word k.Void)) refl h.5
      (one_starts (sign_at (Mark p.Star)) (λ u. g.sign close_round >> pure h.0) (is (Mark p.Star)) [] (at + 1) (at + 1) h.5.2 v (sign_exactly (Mark p.Star)) refl h.5.5 (refl, tt)))

  pub pointer_starts : (depth at : ℕ) (w : List (Placed Token)) (v : Pointer) → g.converted_pointer (g.cast depth) (g.expr depth) at w v → StartsBy ahead (at + 1) w
  pointer_starts depth at w v h = starts_both (g.conversion_to_pointer (g.cast depth) (g.expr depth)) (λ c. nested (g.cast depth) >>= (λ x. pure (tree.pointer c x))) ahead at (at + 1) w v h
      (conversion_starts depth at h.1 h.0 h.4)

  pub pointer_common : 0 < n → (at : ℕ) (x : List Token) → partly ahead x ≡ true → StartsPlain (λ depth. g.converted_pointer (g.cast depth) (g.expr depth)) at x
  pointer_common lt at [] h = start_none converted_pointer lt at
  pointer_common lt at (a ∷ []) h = start_begun converted_pointer lt at a (and_parts (is open_round a) true h).0
  pointer_common lt at (a ∷ b ∷ []) h =
      let q = both_of (is open_round a) (is (Word k.Void) b) h in
      start_both {n = n} {m = m} conversion_to_pointer (λ c. ends inner_cast (tree.pointer c) (λ v. opens) (λ v x h. h)) lt at (a ∷ b ∷ [])
      (start_one (sign_at open_round) (λ c depth. g.sign (Word k.Void) >>= (λ v. g.sign (Mark p.Star) >>= (λ u. g.sign close_round >>= (λ w. pure c)))) (at + 1) a a.offset (b ∷ [])
      (sign_gives_place open_round a q.0)
      (start_one (sign_at (Word k.Void)) (λ v depth. g.sign (Mark p.Star) >>= (λ u. g.sign close_round >>= (λ w. pure a.offset))) (at + 1) b b.offset []
      (sign_gives_place (Word k.Void) b q.1) (start_none (to_pointer_rest a.offset) lt (at + 1)))) where
        both_of : (b c : Bool) → (b && (c && true)) ≡ true → (b ≡ true) × (c ≡ true)
        both_of true true h = (refl, refl)
        both_of true false h = cc
        both_of false c h = cc
  pointer_common lt at (a ∷ b ∷ c ∷ x) h = absurd (none_of (is open_round a) (is (Word k.Void) b) (is (Mark p.Star) c) h) where
    none_of : (b c d : Bool) → (b && (c && (d && false))) ≡ true → ⊥
    none_of true true true h = cc
    none_of true true false h = cc
    none_of true false d h = cc
    none_of false c d h = cc

  -- ---- what starts with `(void` is an expression too

  type_of_void : (x : Token) → is (Word k.Void) x ≡ true → is_type_word x ≡ true
  type_of_void x h = sign_within (Word k.Void) is_type_word (λ at. refl) x h

  closing : (s : Specifiers) (at : ℕ) → Reads {T = Token} {A = Specifiers × ℕ} D n (λ depth. g.sign close_round >>= (λ u. pure (s, at)))
      (λ room. d.reads_both (r.expect close_round) (λ u. d.reads_pure (s, at))) (is close_round) (λ v. nowhere) false
  closing s at = sign_then {n = n} {m = n} (omega arith) whole close_round (λ u. reads_nothing whole (s, at))

  word_closes : (x : Token) → is_type_word x ≡ true → is close_round x ≡ true → ⊥
  word_closes x l h = sign_apart close_round is_type_word (λ at. refl) x h l

  conversion : Reads D n (λ depth. g.conversion (g.cast depth) (g.expr depth)) (λ room. e.read_conversion room) (is open_round) (λ v. nowhere) false
  unfolding e.read_conversion
  conversion =
      within_in (λ room. d.reads_both (r.expect open_round) (λ at. d.reads_both r.read_specifiers (λ s. d.reads_both (r.expect close_round) (λ u. d.reads_pure (s, at)))))
      (sign_then {n = n} {m = n} (omega arith) whole open_round (λ at. in_turn (specifiers whole) (λ s. closing s at) (λ s x l h. word_closes x l h)))
      (one_flat (sign_at open_round) (λ at depth. g.specifiers >>= (λ s. g.sign close_round >>= (λ u. pure (s, at)))))

  abbrev read_converted : ℕ → r.Reads Expression
  read_converted room = e.read_converted (e.read_cast room) (e.read_expr room) (e.read_argument room) room

  converted : Reads D n (λ depth. g.converted (g.cast depth) (g.expr depth)) read_converted (is open_round) (λ v. opens) false
  unfolding e.read_converted
  converted = some_then le conversion (λ s. ends inner_cast (tree.cast s.0 s.1) (λ v. opens) (λ a x h. h)) (λ u x l h. cc) (λ v. opens) (λ b x h. h) (λ u depth at b x z h l. cc)

  cast_starts : 0 < n → (at : ℕ) (a b : Token) → is open_round a ≡ true → is_type_word b ≡ true → StartsPlain g.cast at (a ∷ b ∷ [])
  cast_starts lt at a b here there =
      let inside = start_both {n = n} {m = n} (specifiers whole) (λ s. closing s a.offset) lt (at + 1) (b ∷ []) (start_begun (specifiers whole) lt (at + 1) b there) in
      let group = start_one (sign_at open_round) (λ c depth. g.specifiers >>= (λ s. g.sign close_round >>= (λ u. pure (s, c)))) (at + 1) a a.offset (b ∷ [])
      (sign_gives_place open_round a here) inside in
      let k = start_both {n = n} {m = m} conversion (λ s. ends inner_cast (tree.cast s.0 s.1) (λ v. opens) (λ v x h. h)) lt at (a ∷ b ∷ []) group in
      (suc k.0, k.1, k.2, k.3, k.4, inl k.5)

  expr_starts : 0 < n → (at : ℕ) (a b : Token) → is open_round a ≡ true → is_type_word b ≡ true → StartsPlain g.expr at (a ∷ b ∷ [])
  expr_starts lt at a b here there = let k = cast_starts lt at a b here there in (suc k.0, k.1, k.2, k.3, k.4, expr_of k.0 at k.1 k.3 k.5)

  -- ---- operands

  unary : Reads D n (λ depth. g.unary (g.cast depth) (g.expr depth)) (λ room. e.read_unary (e.read_cast room) (e.read_expr room) (e.read_argument room) room) is_unary (λ v. opens) false
  unfolding e.read_unary r.read_unary_operator
  unary = one_then le whole is_unary (λ x. placed_exactly x.offset (unary_of x)) (token (kind.Punctuator p.Minus) 0) (Minus, 0) refl
      (λ op. ends inner_cast (tree.unary op) (λ v. opens) (λ a x h. h))

  constant : Reads D n (λ depth. g.constant (g.cast depth) (g.expr depth)) (λ room. r.read_constant) is_constant (λ v. nowhere) false
  unfolding r.read_constant
  constant =
      one_then {n = n} {m = n} (omega arith) whole is_constant (λ x. placed_exactly x.offset (constant_of x.kind)) (token (kind.Constant TooLarge) 0) (TooLarge, 0) refl
      (λ c. reads_nothing whole (tree.constant c))

  -- ---- what departs from `(void *`

  regroup : {A B C : Type 0} (P : Family Token A) (Q : A → Family Token B) (R : B → Family Token C) (depth at : ℕ) (w : List (Placed Token)) (v : C) → ((P ∘> Q) ∘> R) depth at w v
      → (P ∘> (λ a. Q a ∘> R)) depth at w v
  regroup P Q R depth at w v h =
      let k = h.4 in
      (k.0, k.1, k.2 ++ h.2, h.3 ∙ ap (λ l. l ++ h.2) k.3 ∙ append_assoc k.1 k.2 h.2, k.4, (h.0, k.2, h.2, refl, k.5, h.5))

  more_words : (first : TypeWord × ℕ) (at : ℕ) → Reads {T = Token} {A = Specifiers × ℕ} D n (MoreWords first ∘> (λ s depth. g.sign close_round >>= (λ u. pure (s, at))))
      (λ room. d.reads_both (λ ts. d.and_then (r.read_words first.0 ts) (λ words. d.reads_pure (words_from first words))) (λ s. d.reads_both (r.expect close_round) (λ u. d.reads_pure (s, at))))
      (λ x. (is_type_word x || false) || (true && is close_round x)) (λ v. nowhere) false
  more_words first at = both (words_behind whole first) (λ s. closing s at) (λ s x l h. word_closes x l h) (λ v. nowhere) (λ b x h. h) (λ a depth c b x z h l. cc)

  star_departs : (x : Token) → ((is_type_word x || false) || (true && is close_round x)) ≡ true → is (Mark p.Star) x ≡ true → ⊥
  unfolding same_punctuator
  star_departs x h a = sign_apart (Mark p.Star) (λ y. (is_type_word y || false) || (true && is close_round y)) (λ at. refl) x a h

  conversion_departs : (depth at : ℕ) → D depth → (w : List (Placed Token)) (v : Specifiers × ℕ) → g.conversion (g.cast depth) (g.expr depth) at w v → DepartsBy ahead (at + 1) w
  conversion_departs depth at dd w v h =
      let inside = regroup (λ depth. one first_word_at) MoreWords (λ s depth. g.sign close_round >>= (λ u. pure (s, h.0))) depth (at + 1) h.2 v h.5 in
      one_departs (sign_at open_round) (λ c. g.specifiers >>= (λ s. g.sign close_round >>= (λ u. pure (s, c)))) (is open_round) (is (Word k.Void) ∷ is (Mark p.Star) ∷ []) (at + 1)
      (at + 1) w v refl h
      (one_departs first_word_at (λ first. MoreWords first depth >>= (λ s. g.sign close_round >>= (λ u. pure (s, h.0)))) (is (Word k.Void)) (is (Mark p.Star) ∷ []) (at + 1)
      (at + 1) h.2 v refl inside
      (begins_departs (more_words inside.0 h.0) (is (Mark p.Star)) [] (λ x a b. star_departs x a b) depth (at + 1) (at + 1) dd inside.2 v inside.5))

  unary_round : (x : Token) → is_unary x ≡ true → is open_round x ≡ true → ⊥
  unary_round x h a = sign_apart open_round is_unary (λ at. refl) x a h

  name_round : (x : Token) → is_name x ≡ true → is open_round x ≡ true → ⊥
  name_round x h a = name_apart (is open_round) (λ b at. refl) x h a

  constant_round : (x : Token) → is_constant x ≡ true → is open_round x ≡ true → ⊥
  constant_round x h a = constant_apart (is open_round) (λ c at. refl) x h a

  begins_void : (x : Token) → r.begins_cast x ≡ true → is (Word k.Void) x ≡ true → ⊥
  begins_void x h a = sign_apart (Word k.Void) r.begins_cast (λ at. refl) x a h

  begins_word : (x : Token) → r.begins_cast x ≡ true → is_type_word x ≡ true → ⊥
  begins_word x h a = type_apart r.begins_cast (λ w at k. refl) x a h

  -- one token that is no parenthesis, and what follows it
  one_apart : {A B : Type 0} (f : Token → Option A) (Q : A → Family Token B) (set : Token → Bool) → ((x : Token) → gives (f x) ≡ set x) → ((x : Token) → set x ≡ true → is open_round x ≡ true → ⊥)
      → (fs : List (Token → Bool)) (depth at j : ℕ) (w : List (Placed Token)) (v : B) → (one f >>= (λ a. Q a depth)) at w v → DepartsBy (is open_round ∷ fs) j w
  one_apart f Q set exactly apart fs depth at j w v h =
      let token : w ≡ (h.4.0, at) ∷ h.2 = h.3 ∙ ap (λ l. l ++ h.2) h.4.1 in
      let here : set h.4.0 ≡ true = sym (exactly h.4.0) ∙ ap gives h.4.2 in
      subst (DepartsBy (is open_round ∷ fs) j) (sym token) (first_departs (is open_round) fs j (h.4.0, at) h.2 (false_from_ne_true (is open_round h.4.0) (λ a. apart h.4.0 here a)))

  -- what begins with a parenthesis and then an expression
  group_departs : (f : Token → Bool) (fs : List (Token → Bool)) → ((x : Token) → r.begins_cast x ≡ true → f x ≡ true → ⊥) → (depth at : ℕ) → D depth → (w : List (Placed Token)) (v : Expression)
      → g.parenthesized (g.cast depth) (g.expr depth) at w v → DepartsBy (is open_round ∷ f ∷ fs) (at + 1) w
  group_departs f fs apart depth at dd w v h =
      one_departs (sign_at open_round) (λ c. g.expr depth >>= (λ x. g.sign close_round >>= (λ u. pure (tree.moved c x)))) (is open_round) (f ∷ fs) (at + 1) (at + 1) w v refl h
      (departs_both (g.expr depth) (λ x. g.sign close_round >>= (λ u. pure (tree.moved h.0 x))) (f ∷ fs) (at + 1) (at + 1) h.2 v h.5
      (begins_departs expr f fs (λ x a b. apart x a b) depth (at + 1) (at + 1) dd h.5.1 h.5.0 h.5.4))

  others_depart : (f : Token → Bool) (fs : List (Token → Bool)) → ((x : Token) → r.begins_cast x ≡ true → f x ≡ true → ⊥) → (depth at : ℕ) → D depth → (w : List (Placed Token)) (v : Expression)
      → (g.unary (g.cast depth) (g.expr depth) <|> g.primary (g.cast depth) (g.expr depth)) at w v → DepartsBy (is open_round ∷ f ∷ fs) (at + 1) w
  others_depart f fs apart depth at dd w v h =
      ⊎_elim
      (λ a. one_apart unary_at (λ op depth. nested (g.cast depth) >>= (λ x. pure (tree.unary op x))) is_unary (λ x. placed_exactly x.offset (unary_of x)) unary_round (f ∷ fs) depth at
      (at + 1) w v a)
      (λ prim. ⊎_elim
      (λ named. ⊎_elim
      (λ a. one_apart name_at (λ x depth. g.indices (g.cast depth) (g.expr depth) >>= (λ i. pure (tree.expression x.offset (form.Place (tree.place x i))))) is_name
      (λ x. some_exactly (name_at x)) name_round (f ∷ fs) depth at (at + 1) w v a)
      (λ a. one_apart name_at (λ x depth. g.arguments (g.cast depth) (g.expr depth) >>= (λ found. pure (tree.expression x.offset (form.Call (tree.call x found))))) is_name
      (λ x. some_exactly (name_at x)) name_round (f ∷ fs) depth at (at + 1) w v a)
      named)
      (λ other. ⊎_elim
      (λ a. one_apart constant_at (λ c depth. pure (tree.constant c)) is_constant (λ x. placed_exactly x.offset (constant_of x.kind)) constant_round (f ∷ fs) depth at (at + 1) w v a)
      (λ a. group_departs f fs apart depth at dd w v a)
      other)
      prim)
      h

  operand_departs : (depth at : ℕ) → D depth → (w : List (Placed Token)) (v : Expression) → g.operand (g.cast depth) (g.expr depth) at w v → DepartsBy ahead (at + 1) w
  operand_departs depth at dd w v h =
      ⊎_elim
      (λ a. departs_both (g.conversion (g.cast depth) (g.expr depth)) (λ s. nested (g.cast depth) >>= (λ x. pure (tree.cast s.0 s.1 x))) ahead at (at + 1) w v a
      (conversion_departs depth at dd a.1 a.0 a.4))
      (λ a. others_depart (is (Word k.Void)) (is (Mark p.Star) ∷ []) begins_void depth at dd w v a)
      h

  cast_departs : ((d : ℕ) → D d) → (depth at : ℕ) (w : List (Placed Token)) (v : Expression) → g.cast depth at w v → DepartsBy ahead (at + 1) w
  cast_departs all zero at w v h = absurd h
  cast_departs all (suc depth) at w v h = operand_departs depth at (all depth) w v h

  binary_departs : ((d : ℕ) → D d) → (level depth at : ℕ) (w : List (Placed Token)) (v : Expression) → g.binary level (g.cast depth) at w v → DepartsBy ahead (at + 1) w
  binary_departs all zero depth at w v h = cast_departs all depth at w v h
  binary_departs all (suc level) depth at w v h =
      departs_both (g.binary level (g.cast depth)) (λ first. many (g.term (suc level) (g.binary level (g.cast depth))) >>= (λ terms. pure (tree.joined first terms))) ahead at (at + 1) w v h
      (binary_departs all level depth at h.1 h.0 h.4)

  pub expr_departs : ((d : ℕ) → D d) → (depth at : ℕ) (w : List (Placed Token)) (v : Expression) → g.expr depth at w v → DepartsBy ahead (at + 1) w
  expr_departs all zero at w v h = absurd h
  expr_departs all (suc depth) at w v h =
      departs_both (g.binary 10 (g.cast depth)) (λ first. g.chosen_by (g.cast depth) (g.expr depth) first <|> pure first) ahead at (at + 1) w v h (binary_departs all 10 depth at h.1 h.0 h.4)

  pub expr_common : 0 < m → (at : ℕ) (x : List Token) → partly ahead x ≡ true → StartsPlain g.expr at x
  expr_common lt at [] h = start_none expr lt at
  expr_common lt at (a ∷ []) h = start_begun expr lt at a (begins_round a (and_parts (is open_round a) true h).0)
  expr_common lt at (a ∷ b ∷ []) h = let q = both_of (is open_round a) (is (Word k.Void) b) h in expr_starts (omega arith) at a b q.0 (type_of_void b q.1) where
    both_of : (b c : Bool) → (b && (c && true)) ≡ true → (b ≡ true) × (c ≡ true)
    both_of true true h = (refl, refl)
    both_of true false h = cc
    both_of false c h = cc
  expr_common lt at (a ∷ b ∷ c ∷ x) h = absurd (none_of (is open_round a) (is (Word k.Void) b) (is (Mark p.Star) c) h) where
    none_of : (b c d : Bool) → (b && (c && (d && false))) ≡ true → ⊥
    none_of true true true h = cc
    none_of true true false h = cc
    none_of true false d h = cc
    none_of false c d h = cc

  -- ---- arguments

  value_argument : Reads D m (λ depth. g.value_argument (g.cast depth) (g.expr depth)) (λ room. e.read_value_argument (e.read_expr (suc room))) r.begins_cast (λ v. after_expr) false
  unfolding e.read_value_argument
  value_argument = ends expr argument_of.Value (λ v. after_expr) (λ a x h. h)

  text_argument : Reads D m (λ depth. g.text (g.cast depth) (g.expr depth)) (λ room. e.read_text_argument) is_text (λ v. nowhere) false
  unfolding e.read_text_argument r.read_text
  text_argument =
      one_then {n = m} {m = m} (omega arith) cast.whole is_text (λ x. placed_exactly x.offset (text_of x.kind)) (token (kind.StringLiteral []) 0) ([], 0) refl
      (λ x. gives_value (argument_of.Text x.0 x.1))

  address : Reads D m (λ depth. g.address (g.cast depth) (g.expr depth)) (λ room. e.read_address (e.read_target room)) (is (Mark p.And)) (λ v. is open_square) false
  unfolding e.read_address
  address = on (Mark p.And) (λ at. ends target (λ x. argument_of.Address x at) (λ v. is open_square) (λ a x h. h))

  null_argument : Reads D n (λ depth. g.null_argument (g.cast depth) (g.expr depth)) (λ room. e.read_null_argument) (is (Word k.Null)) (λ v. nowhere) false
  unfolding e.read_null_argument
  null_argument = ends null argument_of.Pointer (λ v. nowhere) (λ a x h. h)

  pointer_argument : Reads D n (λ depth. g.pointer_argument (g.cast depth) (g.expr depth)) (λ room. e.read_pointer_argument (e.read_cast room) room) (is open_round) (λ v. opens) false
  unfolding e.read_pointer_argument
  pointer_argument = ends converted_pointer argument_of.Pointer (λ v. opens) (λ a x h. h)

  value_departs : ((d : ℕ) → D d) → (depth at : ℕ) (w : List (Placed Token)) (v : Argument) → g.value_argument (g.cast depth) (g.expr depth) at w v → DepartsBy ahead (at + 1) w
  value_departs all depth at w v h = departs_both (g.expr depth) (λ x. pure (argument_of.Value x)) ahead at (at + 1) w v h (expr_departs all depth at h.1 h.0 h.4)

  pointer_or_value : Reads D m (λ depth. g.pointer_argument (g.cast depth) (g.expr depth) <|> g.value_argument (g.cast depth) (g.expr depth))
      (λ room. d.reads_when (d.sees_all ahead) (e.read_pointer_argument (e.read_cast room) room) (e.read_value_argument (e.read_expr (suc room)))) (λ x. is open_round x || r.begins_cast x)
      (λ v. after_expr) false
  pointer_or_value =
      ahead_in (less pointer_argument m more) value_argument ahead 1 (λ v. after_expr) (λ v x h. after_opens x h) (λ v x h. h)
      (λ all depth at w v h. starts_both (g.converted_pointer (g.cast depth) (g.expr depth)) (λ x. pure (argument_of.Pointer x)) ahead at (at + 1) w v h (pointer_starts depth at h.1 h.0 h.4))
      (λ all depth at w rest v h av. departs_not ahead (plain w) rest (value_departs all depth at w v h).0)
      (λ all depth at w v h. (value_departs all depth at w v h).1)
      (λ lt at x h. start_both {n = n} {m = n} converted_pointer (λ c. reads_nothing whole (argument_of.Pointer c)) (omega arith) at x (pointer_common (omega arith) at x h))
      (λ lt at x h. start_both {n = m} {m = m} expr (λ c. gives_value (argument_of.Value c)) lt at x (expr_common lt at x h))

  pub argument : Reads D m (λ depth. g.argument (g.cast depth) (g.expr depth)) (λ room. e.read_argument (suc room)) r.begins_argument (λ v. after_expr) false
  unfolding e.read_argument e.read_expr e.read_any_argument same_keyword same_punctuator
  argument =
      let pointers = either_in (less null_argument m more) pointer_or_value (λ x a b. sign_apart (Word k.Null) (λ y. is open_round y || r.begins_cast y) (λ at. refl) x a b)
      (λ v. after_expr) (λ v x h. cc) (λ v x h. h) (λ depth at v x z h l. cc) in
      let addresses = either_in address pointers (λ x a b. sign_apart (Mark p.And) (λ y. is (Word k.Null) y || (is open_round y || r.begins_cast y)) (λ at. refl) x a b)
      (λ v. after_expr) (λ v x h. after_opens x (opens_square x h)) (λ v x h. h) (λ depth at v x z h l. cc) in
      let all = either_in text_argument addresses (λ x a b. text_apart (λ y. is (Mark p.And) y || (is (Word k.Null) y || (is open_round y || r.begins_cast y))) (λ c at. refl) x a b)
      (λ v. after_expr) (λ v x h. cc) (λ v x h. h) (λ depth at v x z h l. cc) in
      let turned = same_rule all (λ depth. g.argument (g.cast depth) (g.expr depth))
      (λ depth at w v h. ⊎_elim (λ a. inr (inl a)) (λ a. ⊎_elim (λ b. inr (inr (inl b)))
      (λ b. ⊎_elim (λ c. inr (inr (inr (inl c)))) (λ c. ⊎_elim (λ f. inr (inr (inr (inr f)))) (λ f. inl f) c) b) a) h)
      (λ depth at w v h. ⊎_elim (λ a. inr (inr (inr (inr a)))) (λ a. ⊎_elim (λ b. inl b)
      (λ b. ⊎_elim (λ c. inr (inl c)) (λ c. ⊎_elim (λ f. inr (inr (inl f))) (λ f. inr (inr (inr (inl f)))) c) b) a) h) in
      resize turned r.begins_argument (λ v. after_expr) false (λ x. same_begins x) (λ v x h. h) refl
    where
      same_begins : (x : Token) → (is_text x || (is (Mark p.And) x || (is (Word k.Null) x || (is open_round x || r.begins_cast x)))) ≡ r.begins_argument x
      same_begins x =
          both_ways _ _
          (λ h. or_cases (is_text x) _ h (λ a. or_right (r.begins_cast x) _ (or_left (is_text x) _ a))
          (λ h. or_cases (is (Mark p.And) x) _ h (λ a. or_right (r.begins_cast x) _ (or_right (is_text x) _ (or_left (is (Mark p.And) x) _ a)))
          (λ h. or_cases (is (Word k.Null) x) _ h (λ a. or_right (r.begins_cast x) _ (or_right (is_text x) _ (or_right (is (Mark p.And) x) _ a)))
          (λ h. or_cases (is open_round x) _ h (λ a. or_left (r.begins_cast x) _ (begins_round x a)) (λ a. or_left (r.begins_cast x) _ a)))))
          (λ h. or_cases (r.begins_cast x) _ h (λ a. or_right (is_text x) _ (or_right (is (Mark p.And) x) _ (or_right (is (Word k.Null) x) _ (or_right (is open_round x) _ a))))
          (λ h. or_cases (is_text x) _ h (λ a. or_left (is_text x) _ a) (λ h. or_cases (is (Mark p.And) x) _ h (λ a. or_right (is_text x) _ (or_left (is (Mark p.And) x) _ a))
          (λ a. or_right (is_text x) _ (or_right (is (Mark p.And) x) _ (or_left (is (Word k.Null) x) _ a))))))

  any_arguments : Reads D m (λ depth. g.listed (g.argument (g.cast depth) (g.expr depth)) <|> pure []) (λ room. r.read_any r.begins_argument (e.read_argument (suc room)))
      (λ x. r.begins_argument x || false)
      (λ vs x. (after_expr x || is comma x) || r.begins_argument x) true
  unfolding r.read_any opens same_punctuator
  any_arguments =
      either_in (listed argument (λ x l h. expr_ends comma refl (λ at. refl) (λ at. refl) x l h)) (gives_value []) (λ x a b. cc)
      (λ vs x. (after_expr x || is comma x) || r.begins_argument x) (λ v x h. or_left (after_expr x || is comma x) (r.begins_argument x) h) (λ v x h. cc)
      (λ depth at v x z h l. or_right (after_expr x || is comma x) (r.begins_argument x) l)

  pub arguments : Reads D n (λ depth. g.arguments (g.cast depth) (g.expr depth)) (λ room. e.read_arguments (e.read_argument room) room) (is open_round) (λ v. nowhere) false
  unfolding e.read_arguments opens same_punctuator same_keyword
  arguments =
      within_in (λ room. d.reads_both (r.expect open_round) (λ at. d.reads_both (r.read_any r.begins_argument (e.read_argument room))
      (λ found. d.reads_both (r.expect close_round) (λ u. d.reads_pure found))))
      (sign_then le whole open_round (λ at. both any_arguments (λ found. on close_round (λ u. gives_value found))
      (λ vs x l h. or_cases (after_expr x || is comma x) (r.begins_argument x) l
      (λ l. or_cases (after_expr x) (is comma x) l (λ a. expr_ends close_round refl (λ at. refl) (λ at. refl) x a h) (λ a. sign_apart close_round (is comma) (λ at. refl) x h a))
      (λ a. sign_apart close_round r.begins_argument (λ at. refl) x h a))
      (λ v. nowhere) (λ b x h. h) (λ a depth at b x z h l. cc)))
      (one_flat (sign_at open_round) (λ at depth. (g.listed (g.argument (g.cast depth) (g.expr depth)) <|> pure []) >>= (λ found. g.sign close_round >>= (λ u. pure found))))

  -- ---- names

  abbrev PlaceRest : Name → Family Token Expression
  PlaceRest x depth = g.indices (g.cast depth) (g.expr depth) >>= (λ i. pure (tree.expression x.offset (form.Place (tree.place x i))))

  abbrev CallRest : Name → Family Token Expression
  CallRest x depth = g.arguments (g.cast depth) (g.expr depth) >>= (λ found. pure (tree.expression x.offset (form.Call (tree.call x found))))

  place_rest : (x : Name) → Reads D m (PlaceRest x) (λ room. e.read_place_of (e.read_cast room) (e.read_expr room) (e.read_argument room) room x) (is open_square) (λ v. is open_square) true
  unfolding e.read_place_of
  place_rest x = ends indices (λ i. tree.expression x.offset (form.Place (tree.place x i))) (λ v. is open_square) (λ o y h. h)

  call_rest : (x : Name) → Reads D m (CallRest x) (λ room. e.read_call_of (e.read_cast room) (e.read_expr room) (e.read_argument room) room x) (is open_round) (λ v. nowhere) false
  unfolding e.read_call_of
  call_rest x = ends (less arguments m more) (λ found. tree.expression x.offset (form.Call (tree.call x found))) (λ v. nowhere) (λ o y h. h)

  named_rest : (x : Name) → Reads D m (λ depth. PlaceRest x depth <|> CallRest x depth)
      (λ room. d.reads_either (is open_round) (e.read_call_of (e.read_cast room) (e.read_expr room) (e.read_argument room) room x)
      (e.read_place_of (e.read_cast room) (e.read_expr room) (e.read_argument room) room x))
      (λ y. is open_round y || is open_square y) (λ v. opens) true
  unfolding same_punctuator
  named_rest x =
      swapped (either_in (call_rest x) (place_rest x) (λ y a b. sign_apart open_round (is open_square) (λ at. refl) y a b) (λ v. opens) (λ v y h. cc) (λ v y h. opens_square y h)
      (λ depth at v y z h l. opens_round y l))

  named : Reads D n (λ depth. g.place_value (g.cast depth) (g.expr depth) <|> g.call_value (g.cast depth) (g.expr depth))
      (λ room. e.read_named (e.read_cast room) (e.read_expr room) (e.read_argument room) room) is_name (λ v. opens) false
  unfolding e.read_named
  named = shared (name_then le whole named_rest)

  -- ---- primary expressions and operands

  primary : Reads D n (λ depth. g.primary (g.cast depth) (g.expr depth)) (λ room. e.read_primary (e.read_cast room) (e.read_expr room) (e.read_argument room) room) r.begins_primary
      (λ v. opens) false
  unfolding e.read_primary
  primary =
      let rest = either_in constant parenthesized constant_round (λ v. nowhere) (λ v x h. h) (λ v x h. h) (λ depth at v x z h l. cc) in
      either_in named rest (λ x a b. or_cases (is_constant x) (is open_round x) b (λ c. constant_apart is_name (λ c at. refl) x c a) (λ c. name_round x a c))
      (λ v. opens) (λ v x h. h) (λ v x h. cc) (λ depth at v x z h l. cc)

  abbrev two : List (Token → Bool)
  two = is open_round ∷ is_type_word ∷ []

  converted_starts : (depth at : ℕ) (w : List (Placed Token)) (v : Expression) → g.converted (g.cast depth) (g.expr depth) at w v → StartsBy two (at + 1) w
  converted_starts depth at w v h =
      starts_both (g.conversion (g.cast depth) (g.expr depth)) (λ s. nested (g.cast depth) >>= (λ x. pure (tree.cast s.0 s.1 x))) two at (at + 1) w v h
      (let c = h.4 in
      let inside = regroup (λ depth. one first_word_at) MoreWords (λ s depth. g.sign close_round >>= (λ u. pure (s, c.0))) depth (at + 1) c.2 h.0 c.5 in
      one_starts (sign_at open_round) (λ a. g.specifiers >>= (λ s. g.sign close_round >>= (λ u. pure (s, a)))) (is open_round) (is_type_word ∷ []) (at + 1) (at + 1) h.1 h.0
      (sign_exactly open_round) refl c
      (one_starts first_word_at (λ first. MoreWords first depth >>= (λ s. g.sign close_round >>= (λ u. pure (s, c.0)))) is_type_word [] (at + 1)
      (at + 1) c.2 h.0 type_word_starts refl inside (refl, tt)))

  pub operand : Reads D n (λ depth. g.operand (g.cast depth) (g.expr depth)) (λ room. e.read_operand (e.read_cast room) (e.read_expr room) (e.read_argument room) room) r.begins_cast
      (λ v. opens) false
  unfolding e.read_operand same_punctuator
  operand =
      let rest = either_in unary primary (λ x a b. unary_apart x a b) (λ v. opens) (λ v x h. h) (λ v x h. h) (λ depth at v x z h l. cc) in
      resize
      (ahead_two converted rest (is open_round) is_type_word 1 (λ v. opens) (λ v x h. h) (λ v x h. h) (λ all depth at w v h. converted_starts depth at w v h)
      (λ all depth at w v h. others_depart is_type_word [] begins_word depth at (all depth) w v h) (λ x h. h) (λ x h. begins_round x h))
      r.begins_cast (λ v. opens) false (λ x. both_ways _ _ (λ h. or_cases (is open_round x) (r.begins_cast x) h (λ a. begins_round x a) (λ a. a))
      (λ h. or_right (is open_round x) (r.begins_cast x) h)) (λ v x h. h) refl
    where
      unary_apart : (x : Token) → is_unary x ≡ true → r.begins_primary x ≡ true → ⊥
      unary_apart x a b =
          or_cases (is_name x) _ b (λ c. name_apart is_unary (λ b at. refl) x c a) (λ b. or_cases (is_constant x) (is open_round x) b (λ c. constant_apart is_unary (λ c at. refl) x c a)
          (λ c. unary_round x a c))

-- ---- conditionals, by operands of as many tokens

module _ {D : ℕ → Type 0} (n m : ℕ) (le : n ≤ suc m) (more : m ≤ n) (whole : 0 < n → (depth : ℕ) → D depth)
    (cast : Reads D n g.cast (λ room. e.read_cast (suc room)) r.begins_cast (λ v. opens) false)
    (expr : Reads D m g.expr (λ room. e.read_expr (suc room)) r.begins_cast (λ v. after_expr) false) where
  nested_expr : Reads D m (λ depth. nested (g.expr depth)) e.read_expr r.begins_cast (λ v. after_expr) false
  unfolding e.read_expr
  nested_expr = deeper_in expr (is open_round) expr_opens (λ x h. or_right (is_unary x) _ (or_right (is_name x) _ (or_right (is_constant x) (is open_round x) h))) e.read_expr (λ ts. refl)
      (λ room ts. refl)

  abbrev read_operand : ℕ → r.Reads Expression
  read_operand room = e.read_operand (e.read_cast room) (e.read_expr room) (e.read_argument room) room

  operand_same : Reads D n g.cast read_operand r.begins_cast (λ v. opens) false
  unfolding e.read_cast
  operand_same = cast

  binary : Reads D n (λ depth. g.binary 10 (g.cast depth)) (λ room. e.read_binary 10 (read_operand room)) r.begins_cast (λ v. goes 10) false
  binary = levels operand_same 10 (omega arith)

  question_rule : Reads D n (λ depth. g.question (g.cast depth) (g.expr depth)) (λ room. e.read_question (e.read_cast room) (e.read_expr room) (e.read_argument room) room) (is question)
      (λ v. goes 10) false
  unfolding e.read_question
  question_rule = sign_then le whole question (λ at. ends (less binary m more) (λ x. (at, x)) (λ v. goes 10) (λ a x h. h))

  choice : (c : Expression × ℕ) → Reads D n (λ depth. g.choice (g.cast depth) (g.expr depth) c) (λ room. e.read_choice (e.read_cast room) (e.read_expr room) (e.read_argument room) room c)
      (is (Mark p.Colon)) (λ v. after_expr) false
  unfolding e.read_choice
  choice c = sign_then le whole (Mark p.Colon) (λ u. ends nested_expr (tree.choice c) (λ v. after_expr) (λ a x h. h))

  colon_apart : (x : Token) → after_expr x ≡ true → is (Mark p.Colon) x ≡ true → ⊥
  unfolding opens same_punctuator
  colon_apart x l h = expr_ends (Mark p.Colon) refl (λ at. refl) (λ at. refl) x l h

  choices : (outermost : Expression × ℕ) (cs : List (Expression × ℕ)) (found : List Choice) → Reads D n (λ depth. g.choices (g.cast depth) (g.expr depth) outermost cs found)
      (λ room. e.read_choices (e.read_cast room) (e.read_expr room) (e.read_argument room) room outermost cs found) (is (Mark p.Colon)) (λ v. after_expr) false
  unfolding e.read_choices
  choices outermost [] found = ends (choice outermost) (λ x. found ++ (x ∷ [])) (λ v. after_expr) (λ a x h. h)
  choices outermost (c ∷ cs) found = in_turn (choice c) (λ x. choices outermost cs (found ++ (x ∷ []))) (λ a x l h. colon_apart x l h)

  goes_question : (x : Token) → goes 10 x ≡ true → is question x ≡ true → ⊥
  unfolding opens same_punctuator
  goes_question x l h = sign_ends question 10 refl (λ at. refl) x l h

  goes_colon : (x : Token) → goes 10 x ≡ true → is (Mark p.Colon) x ≡ true → ⊥
  unfolding opens same_punctuator
  goes_colon x l h = sign_ends (Mark p.Colon) 10 refl (λ at. refl) x l h

  chosen_by : (first : Expression) → Reads D n (λ depth. g.chosen_by (g.cast depth) (g.expr depth) first)
      (λ room. e.read_chosen_by (e.read_cast room) (e.read_expr room) (e.read_argument room) room first) (is question) (λ v. after_expr) false
  unfolding e.read_chosen_by e.read_questions same_punctuator
  chosen_by first =
      let behind = λ (q : ℕ × Expression).
      loop tree.asked (less question_rule m more)
      (λ s. ends (less (choices (first, q.0) (reverse s.0) []) m more) (tree.conditional (tree.offset_of first) s.1) (λ v. after_expr) (λ a x h. h))
      (λ v x l h. goes_question x l h) (λ v x l h. goes_colon x l h) (λ x a b. sign_apart question (is (Mark p.Colon)) (λ at. refl) x a b)
      (λ v. after_expr) (λ b x h. h) (λ v b x z h. cc) (λ b x z h. cc) ([], q.1) in
      some_then le question_rule behind (λ q x l h. or_cases (is question x) (is (Mark p.Colon) x) h (λ a. goes_question x l a) (λ a. goes_colon x l a)) (λ v. after_expr) (λ b x h. h)
      (λ a depth at b x z h l. cc)

  pub conditional : Reads D n (λ depth. g.conditional (g.cast depth) (g.expr depth)) (λ room. e.read_whole (e.read_cast room) (e.read_expr room) (e.read_argument room) room) r.begins_cast
      (λ v. after_expr) false
  unfolding e.read_whole
  conditional =
      let rest = λ (first : Expression).
      either_in (chosen_by first) (reads_nothing whole first) (λ x a b. cc) (λ v. after_expr) (λ v x h. h) (λ v x h. cc) (λ depth at v x z h l. after_question x l) in
      some_then {n = n} {m = n} (omega arith) binary rest (λ v x l h. or_cases (is question x) false h (λ a. goes_question x l a) (λ a. cc)) (λ v. after_expr) (λ b x h. h)
      (λ a depth at b x z h l. after_goes x l)

-- ---- at any depth

cast_step : (D : ℕ → Type 0) (n m : ℕ) → n ≤ suc m → m ≤ n → (0 < n → (depth : ℕ) → D depth) → Reads D m g.cast (λ room. e.read_cast (suc room)) r.begins_cast (λ v. opens) false
    → Reads D m g.expr (λ room. e.read_expr (suc room)) r.begins_cast (λ v. after_expr) false → Reads D n (λ depth. g.cast (suc depth)) (λ room. e.read_cast (suc room)) r.begins_cast
    (λ v. opens) false
unfolding e.read_cast
cast_step D n m le more whole c x = operand n m le more whole c x

expr_step : (D : ℕ → Type 0) (n m : ℕ) → n ≤ suc m → m ≤ n → (0 < n → (depth : ℕ) → D depth) → Reads D n g.cast (λ room. e.read_cast (suc room)) r.begins_cast (λ v. opens) false
    → Reads D m g.expr (λ room. e.read_expr (suc room)) r.begins_cast (λ v. after_expr) false → Reads D n (λ depth. g.expr (suc depth)) (λ room. e.read_expr (suc room)) r.begins_cast
    (λ v. after_expr) false
unfolding e.read_expr
expr_step D n m le more whole c x = conditional n m le more whole c x

both_parts : (n : ℕ) → Reads All n g.cast (λ room. e.read_cast (suc room)) r.begins_cast (λ v. opens) false × Reads All n g.expr (λ room. e.read_expr (suc room)) r.begins_cast
    (λ v. after_expr) false
both_parts = two_at_any_depth g.cast g.expr (λ room. e.read_cast (suc room)) (λ room. e.read_expr (suc room)) (λ at w v h. h) (λ at w v h. h) some_cast some_expr cast_step expr_step

pub cast : (n : ℕ) → Reads All n g.cast (λ room. e.read_cast (suc room)) r.begins_cast (λ v. opens) false
cast n = (both_parts n).0

pub expr : (n : ℕ) → Reads All n g.expr (λ room. e.read_expr (suc room)) r.begins_cast (λ v. after_expr) false
expr n = (both_parts n).1
