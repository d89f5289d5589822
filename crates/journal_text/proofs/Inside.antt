-- What stands inside a line, and the entry that it spells.
use Rattle.std.specs.Prelude.{◌≡◌, ◌≢◌, ℕ, ◌^◌, ◌<◌, Bool, true, false, nat_eq, List, [], ◌∷◌, ◌++◌, Some, None, codes, decimal, if◌then◌else◌, refl}
use Rattle.std.proofs.Common.{ap, sym, ◌∙◌, arith}
use Rattle.std.proofs.lemmas.Option.{same_Some}
use Rattle.std.proofs.lemmas.Bool.{eqb-false}
use Rattle.journal_text.specs.declared.entry.Entry.{Entry}
use Rattle.journal_text.specs.Lines.{mark, fields, upto, past, IsFree, IsInside, IsShort, Spells, AreFields}
use Rattle.journal_text.proofs.FieldCuts.{free_append, decimal_free, upto_first, past_first, cut}

upto_free : (b : ℕ) (text : List ℕ) → IsFree b (upto b text)
upto_free b [] = tt
upto_free b (c ∷ cs) = by (upto_free b cs) (nat_eq c b) refl
  where
    by : IsFree b (upto b cs) → (t : Bool) → nat_eq c b ≡ t → IsFree b (if t then [] else c ∷ upto b cs)
    by rest true e = tt
    by rest false e = (eqb-false c b e, rest)

head_free : IsFree 32 (47 ∷ 47 ∷ 64 ∷ [])
head_free =
    let slash : 47 ≢ 32 = (λ e. absurd (omega (arith, e))) in
    let at : 64 ≢ 32 = (λ e. absurd (omega (arith, e))) in
    (slash, (slash, (at, tt)))

module _ (line text : List ℕ) (is : IsInside line text) where
  whole : line ≡ (47 ∷ 47 ∷ 64 ∷ []) ++ (32 ∷ (text ++ (10 ∷ [])))
  whole = is.is

  pub inside_past : past 32 line ≡ Some (text ++ (10 ∷ []))
  inside_past = ap (past 32) whole ∙ past_first 32 (47 ∷ 47 ∷ 64 ∷ []) (text ++ (10 ∷ [])) head_free

  pub inside_head : upto 32 line ≡ codes "//@"
  inside_head = ap (upto 32) whole ∙ upto_first 32 (47 ∷ 47 ∷ 64 ∷ []) (text ++ (10 ∷ [])) head_free

  pub inside_feed : past 10 (text ++ (10 ∷ [])) ≡ Some []
  inside_feed = past_first 10 text [] is.free

  pub inside_text : upto 10 (text ++ (10 ∷ [])) ≡ text
  inside_text = upto_first 10 text [] is.free

pub no_space : (line text : List ℕ) → past 32 line ≡ None → IsInside line text → ⊥
no_space line text none is = (let clash = sym none ∙ inside_past line text is in absurd cc)

pub no_feed : (line text behind : List ℕ) → past 32 line ≡ Some behind → past 10 behind ≡ None → IsInside line text → ⊥
no_feed line text behind first none is =
    let b : behind ≡ text ++ (10 ∷ []) = same_Some behind (text ++ (10 ∷ [])) (sym first ∙ inside_past line text is) in
    let clash = sym none ∙ ap (past 10) b ∙ inside_feed line text is in
    absurd cc

pub is_whole_line : (line text behind rest : List ℕ) → past 32 line ≡ Some behind → past 10 behind ≡ Some rest → IsInside line text → (upto 32 line ≡ codes "//@") × (rest ≡ [])
is_whole_line line text behind rest first second is =
    let b : behind ≡ text ++ (10 ∷ []) = same_Some behind (text ++ (10 ∷ [])) (sym first ∙ inside_past line text is) in
    (inside_head line text is, same_Some rest [] (sym second ∙ ap (past 10) b ∙ inside_feed line text is))

pub is_inside : (line behind rest : List ℕ) → past 32 line ≡ Some behind → past 10 behind ≡ Some rest → (upto 32 line ≡ codes "//@") × (rest ≡ []) → IsInside line (upto 10 behind)
is_inside line behind rest first second ends = record {
  is = cut 32 line behind first ∙ ap (λ h. h ++ (32 ∷ behind)) ends.0
      ∙ ap (λ t. (47 ∷ 47 ∷ 64 ∷ []) ++ (32 ∷ t)) (cut 10 behind rest second ∙ ap (λ z. upto 10 behind ++ (10 ∷ z)) ends.1);
  free = upto_free 10 behind;
}

mark_free : (b : Bool) → IsFree 10 (mark b ∷ [])
mark_free true = (let s : 115 ≢ 10 = (λ e. absurd (omega (arith, e))) in (s, tt))
mark_free false = (let s : 45 ≢ 10 = (λ e. absurd (omega (arith, e))) in (s, tt))

fields_free : (e : Entry) → IsShort e → IsFree 10 (fields e)
fields_free e short =
    let low : 10 < 48 = omega arith in
    let thread : e.thread < 2 ^ 64 = (let l = short.thread in omega (arith, l)) in
    let closed : e.closed < 2 ^ 64 = (let l = short.closed in omega (arith, l)) in
    let space : 32 ≢ 10 = (λ e. absurd (omega (arith, e))) in
    free_append 10 (decimal e.thread) (32 ∷ (decimal e.closed ++ (32 ∷ (mark e.opened ∷ [])))) (decimal_free 10 e.thread low thread)
    (space, free_append 10 (decimal e.closed) (32 ∷ (mark e.opened ∷ [])) (decimal_free 10 e.closed low closed) (space, mark_free e.opened))

spelled_inside : (line : List ℕ) (e : Entry) → Spells line e → IsInside line (fields e)
spelled_inside line e is = record { is = is.is; free = fields_free e is.short }

pub fields_spell : (line text : List ℕ) (e : Entry) → IsInside line text → AreFields text e → Spells line e
fields_spell line text e is are = record { is = is.is ∙ ap (λ t. codes "//@ " ++ (t ++ (10 ∷ []))) are.is; short = are.short }

pub spelled_fields : (line text : List ℕ) (e : Entry) → IsInside line text → Spells line e → AreFields text e
spelled_fields line text e is spells =
    let other = spelled_inside line e spells in
    let both : text ++ (10 ∷ []) ≡ fields e ++ (10 ∷ []) = same_Some (text ++ (10 ∷ [])) (fields e ++ (10 ∷ [])) (sym (inside_past line text is) ∙ inside_past line (fields e) other) in
    record { is = sym (inside_text line text is) ∙ ap (upto 10) both ∙ inside_text line (fields e) other; short = spells.short }

pub spelled_has : (line : List ℕ) (e : Entry) → Spells line e → ((t : List ℕ) → IsInside line t → ⊥) → ⊥
spelled_has line e spells none = none (fields e) (spelled_inside line e spells)
