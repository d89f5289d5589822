-- Texts put together from parts, with their pieces.
use Rattle.std.proofs.Common.{◌≡◌, ℕ, ◌+◌, ◌<◌, ◌≤◌, List, [], ◌∷◌, ◌++◌, length, Option, Some, None, Bool, true, refl, sym, ap}
use Rattle.std.proofs.Common.{◌∙◌, subst, append_assoc, arith}
use Rattle.std.specs.Prelude.{◌&&◌, cond, is_none}
use Rattle.std.specs.List.{list_all}
use Rattle.std.proofs.lemmas.Bool.{and_parts, lt-ltb}
use Rattle.std.proofs.lemmas.List.Folds.{list_all-append}
use Rattle.c_token.specs.declared.token.Token.{Token}
use Rattle.c_token.specs.Spelling.{Bytes}
use Rattle.c_lexer.specs.declared.meaning.Action.{Action}
use Rattle.c_lexer.specs.declared.meaning.Action.TheVariants as action
use Rattle.c_lexer.specs.declared.fault.TextLimit.TheVariants.{Tokens}
use Rattle.c_lexer.specs.Meaning.{State, start, after}
use Rattle.c_lexer.specs.Texts.{Piece, Splits, IsWithin, Passed, with_token, tokens, name_limit, limit_by, max_tokens}
use Rattle.generated_profile.proofs.Running.{Lexes, Begins}

-- ---- texts

pub split_then : (at : ℕ) (s t u : State) (text more rest : Bytes) (ps qs : List Piece) → Splits at s text ps t more →
    ((k : ℕ) → Splits k t more qs u rest) → Splits at s text (ps ++ qs) u rest
split_then at s t u text more rest [] qs h next =
    subst (λ x. Splits at x text qs u rest) (sym h.0) (subst (λ z. Splits at t z qs u rest) (sym h.1) (next at))
split_then at s t u text more rest (p ∷ ps) qs h next =
    (h.0, h.1, h.2, split_then (at + length p.bytes) (after p.effect p.bytes s) t u h.0 more rest ps qs h.3 next)

pub in_turn : {s t u : State} {a b : Bytes} {ps qs : List Piece} → Lexes s a ps t → Lexes t b qs u → Lexes s (a ++ b) (ps ++ qs) u
in_turn {s = s} {t = t} {u = u} {a = a} {b = b} {ps = ps} {qs = qs} first next = record {
  splits = λ at rest.
      subst (λ z. Splits at s z (ps ++ qs) u rest) (sym (append_assoc a b rest))
      (split_then at s t u (a ++ (b ++ rest)) (b ++ rest) rest ps qs (first.splits at (b ++ rest)) (λ k. next.splits k rest));
}

pub nothing : (s : State) → Lexes s [] [] s
nothing s = record { splits = λ at rest. (refl, refl) }

pub goes_on_with : {t u : State} {a b : Bytes} {ps qs : List Piece} → Begins a ps t → Lexes t b qs u → Begins (a ++ b) (ps ++ qs) u
goes_on_with {t = t} {u = u} {a = a} {b = b} {ps = ps} {qs = qs} first next = record {
  splits = λ rest.
      subst (λ z. Splits 0 start z (ps ++ qs) u rest) (sym (append_assoc a b rest))
      (split_then 0 start t u (a ++ (b ++ rest)) (b ++ rest) rest ps qs (first.splits (b ++ rest)) (λ k. next.splits k rest));
}

-- ---- limits

abbrev pub fits : Piece → Bool
fits p = is_none (name_limit p.class p.bytes)

abbrev pub spoken : Action → ℕ
spoken a = length (with_token 0 a [])

-- how many of the pieces are tokens
abbrev pub count : List Piece → ℕ
count [] = 0
count (p ∷ ps) = spoken p.effect.action + count ps

pub count_append : (ps qs : List Piece) → count (ps ++ qs) ≡ count ps + count qs
count_append [] qs = omega arith
count_append (p ∷ ps) qs = omega (arith, count_append ps qs)

pub fit_append : (ps qs : List Piece) → list_all fits ps ≡ true → list_all fits qs ≡ true → list_all fits (ps ++ qs) ≡ true
fit_append ps qs a b = list_all-append fits ps qs ∙ ap (λ x. x && list_all fits qs) a ∙ b

none_of : {A : Type 0} (o : Option A) → is_none o ≡ true → o ≡ None
none_of None h = refl
none_of (Some x) h = cc

within_at : (n : ℕ) (p : Piece) (a : Action) → fits p ≡ true → n + spoken a ≤ max_tokens → limit_by n p.class p.bytes a ≡ None
within_at n p action.Nothing f less = refl
within_at n p action.Name f less = refl
within_at n p (action.Value v) f less = refl
within_at n p (action.Token k) f less =
    let below : n < max_tokens = omega (arith, less) in
    let over : Option Passed = Some (Tokens, n + 1) in
    ap (λ b. cond b (name_limit p.class p.bytes) over) (lt-ltb n max_tokens below) ∙ none_of (name_limit p.class p.bytes) f

pub within : (n : ℕ) (ps : List Piece) → list_all fits ps ≡ true → n + count ps ≤ max_tokens → IsWithin n ps
within n [] f less = tt
within n (p ∷ ps) f less =
    let both = and_parts (fits p) (list_all fits ps) f in
    (within_at n p p.effect.action both.0 (omega (arith, less)), within (spoken p.effect.action + n) ps both.1 (omega (arith, less)))

-- ---- tokens

-- where the text behind the pieces begins
abbrev pub behind : ℕ → List Piece → ℕ
behind at [] = at
behind at (p ∷ ps) = behind (at + length p.bytes) ps

token_append : (at : ℕ) (a : Action) (xs ys : List Token) → with_token at a (xs ++ ys) ≡ with_token at a xs ++ ys
token_append at action.Nothing xs ys = refl
token_append at (action.Token k) xs ys = refl
token_append at action.Name xs ys = refl
token_append at (action.Value n) xs ys = refl

pub tokens_append : (at : ℕ) (ps qs : List Piece) → tokens at (ps ++ qs) ≡ tokens at ps ++ tokens (behind at ps) qs
tokens_append at [] qs = refl
tokens_append at (p ∷ ps) qs =
    ap (with_token at p.effect.action) (tokens_append (at + length p.bytes) ps qs)
    ∙ token_append at p.effect.action (tokens (at + length p.bytes) ps) (tokens (behind (at + length p.bytes) ps) qs)
