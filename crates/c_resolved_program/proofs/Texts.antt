-- The tokens that a text splits into: as the lexer makes them, and at most so many.
use Rattle.std.proofs.Common.{◌≡◌, refl, sym, subst, ℕ, ◌+◌, ◌<◌, ◌≤◌, Bool, true, false, List, [], ◌∷◌, length, Option, Some, None, length-append, arith}
use Rattle.std.specs.Prelude.{Ok, nat_lt, if◌then◌else◌}
use Rattle.std.specs.List.{AllByRecursion}
use Rattle.std.proofs.lemmas.Bool.{ltb-true}
use Rattle.c_token.specs.declared.token.Token.{Token}
use Rattle.c_token.specs.declared.token.Kind.TheVariants.{End}
use Rattle.c_token.specs.Spelling.{Bytes}
use Rattle.c_lexer.specs.declared.lexeme.Class.{Class}
use Rattle.c_lexer.specs.declared.meaning.Mode.{Mode}
use Rattle.c_lexer.specs.declared.meaning.Action.{Action}
use Rattle.c_lexer.specs.declared.meaning.Action.TheVariants as action
use Rattle.c_lexer.specs.Meaning.{State, start, awaits_header, after, after_action}
use Rattle.c_lexer.specs.Texts.{Piece, Splits, with_token, tokens, max_tokens, limit_by, IsWithin, LexesAs, Passed}
use Rattle.c_resolved_program.proofs.Lists.{all_both}
use Rattle.c_resolved_program.proofs.Tokens.{IsValidToken}
use Rattle.c_resolved_program.proofs.Meanings.{AreConstants, IsAction, IsEffect, effect_is}
use Rattle.c_resolved_program.proofs.Lexemes.{facts}
use Rattle.c_resolved_program.specs.Leaves.{IsValidConstant}
use Rattle.c_resolved_program.proofs.Walks.{IfAny}
use Rattle.c_lexer.proofs.Whole.{count_more}

abbrev pub AreTokens : List Token → Type 0
AreTokens ts = AllByRecursion IsValidToken ts

-- ---- each token

values_after : (m : Mode) (a : Action) (word : Bytes) (s : State) → AreConstants s.values → IsAction a → AreConstants (after_action m a word s).values
values_after m action.Nothing word s valid is = valid
values_after m (action.Token k) word s valid is = valid
values_after m action.Name word s valid is = valid
values_after m (action.Value n) word s valid is = all_both IsValidConstant s.values (n ∷ []) valid (is, tt)

token_with : (at : ℕ) (a : Action) (ts : List Token) → IsAction a → AreTokens ts → AreTokens (with_token at a ts)
token_with at action.Nothing ts is all = all
token_with at (action.Token k) ts is all = (is, all)
token_with at action.Name ts is all = all
token_with at (action.Value n) ts is all = all

tokens_are : (at : ℕ) (s : State) (text : Bytes) (ps : List Piece) (t : State) (rest : Bytes) → AreConstants s.values → Splits at s text ps t rest → AreTokens (tokens at ps)
tokens_are at s text [] t rest valid h = tt
tokens_are at s text (p ∷ ps) t rest valid h =
    let is = subst (IfAny IsEffect) h.2.1 (effect_is at s p.class p.bytes (facts (awaits_header s) p.class p.bytes h.0 h.2.0) valid) in
    let more = tokens_are (at + length p.bytes) (after p.effect p.bytes s) h.0 ps t rest (values_after p.effect.mode p.effect.action p.bytes s valid is) h.3 in
    token_with at p.effect.action (tokens (at + length p.bytes) ps) is more

none_at_start : AreConstants start.values
unfolding start
none_at_start = tt

-- ---- how many

not_passed : (n : ℕ) (b : Bool) (o : Option Passed) (x : Passed) → nat_lt n max_tokens ≡ b → (if b then o else Some x) ≡ None → n < max_tokens
not_passed n true o x is e = ltb-true n max_tokens is
not_passed n false o x is e = cc

one_fits : (n : ℕ) (class : Class) (word : Bytes) (a : Action) → n ≤ 16384 → limit_by n class word a ≡ None → length (with_token 0 a []) + n ≤ 16384
one_fits n class word action.Nothing le e = omega (arith, le)
one_fits n class word (action.Token k) le e = let lt = not_passed n (nat_lt n max_tokens) _ _ refl e in omega (arith, lt)
one_fits n class word action.Name le e = omega (arith, le)
one_fits n class word (action.Value v) le e = omega (arith, le)

all_fit : (at n : ℕ) (ps : List Piece) → n ≤ 16384 → IsWithin n ps → length (tokens at ps) + n ≤ 16384
all_fit at n [] le h = omega (arith, le)
all_fit at n (p ∷ ps) le h =
    let here = one_fits n p.class p.bytes p.effect.action le h.0 in
    let more = all_fit (at + length p.bytes) (length (with_token 0 p.effect.action []) + n) ps here h.1 in
    omega (arith, more, count_more at p.effect.action (tokens (at + length p.bytes) ps))

-- the tokens of a text, with the one for its end
pub record AreFew (ts : List Token) : Type 0 where
  pub valid : AreTokens ts
  pub count : length ts ≤ 16385

pub tokens_of : (text : Bytes) (ts : List Token) → LexesAs text (Ok ts) → AreFew ts
tokens_of text ts h =
    let found = tokens 0 h.pieces in
    let last : Token = record { kind = End; offset = length text } in
    let few = all_fit 0 0 h.pieces (omega arith) h.reaches.within in
    subst AreFew (sym h.ends.2) (record {
      valid = all_both IsValidToken found (last ∷ []) (tokens_are 0 start text h.pieces h.state h.rest none_at_start h.reaches.split) (tt, tt);
      count = omega (arith, few, length-append found (last ∷ []));
    })
