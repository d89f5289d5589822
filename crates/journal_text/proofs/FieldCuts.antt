-- A text is cut at the first byte of a kind, and the fields of an entry have none inside.
use Rattle.std.specs.Prelude.{◌≡◌, ℕ, ◌+◌, ◌%◌, ◌^◌, ◌<◌, Bool, true, false, nat_eq, List, [], ◌∷◌, ◌++◌, Some, None, decimal, if◌then◌else◌, refl}
use Rattle.std.proofs.Common.{ap, sym, ◌∙◌, subst, arith}
use Rattle.std.proofs.lemmas.Fmt.{decimal_by_steps}
use Rattle.std.proofs.lemmas.Option.{same_Some}
use Rattle.std.proofs.lemmas.Bool.{eqb-true, eq-eqb, ne_eqb}
use Rattle.journal_text.specs.declared.entry.Entry.{Entry}
use Rattle.journal_text.specs.Numbers.{IsNumber}
use Rattle.journal_text.specs.Lines.{mark, upto, past, IsFree, ArePieces, AreFields}

pub free_append : (b : ℕ) (xs ys : List ℕ) → IsFree b xs → IsFree b ys → IsFree b (xs ++ ys)
free_append b [] ys f g = g
free_append b (x ∷ xs) ys f g = (f.0, free_append b xs ys f.1 g)

-- decimals have bytes from 48 on
pub decimal_free : (b n : ℕ) → b < 48 → n < 2 ^ 64 → IsFree b (decimal n)
decimal_free b n low small =
    decimal_by_steps (λ m ds. IsFree b ds)
    (λ m l. ((λ e. absurd (omega (arith, low, e))), tt))
    (λ m ds l f. free_append b ds ((48 + m % 10) ∷ []) f ((λ e. absurd (omega (arith, low, e))), tt))
    n small

pub upto_first : (b : ℕ) (xs ys : List ℕ) → IsFree b xs → upto b (xs ++ (b ∷ ys)) ≡ xs
upto_first b [] ys f = ap (λ t. if t then [] else b ∷ upto b ys) (eq-eqb b b refl)
upto_first b (x ∷ xs) ys f = ap (λ t. if t then [] else x ∷ upto b (xs ++ (b ∷ ys))) (ne_eqb x b f.0) ∙ ap (λ l. x ∷ l) (upto_first b xs ys f.1)

pub past_first : (b : ℕ) (xs ys : List ℕ) → IsFree b xs → past b (xs ++ (b ∷ ys)) ≡ Some ys
past_first b [] ys f = ap (λ t. if t then Some ys else past b ys) (eq-eqb b b refl)
past_first b (x ∷ xs) ys f = ap (λ t. if t then Some (xs ++ (b ∷ ys)) else past b (xs ++ (b ∷ ys))) (ne_eqb x b f.0) ∙ past_first b xs ys f.1

-- a text that has such a byte is what stands before it, that byte, and what stands behind it
pub cut : (b : ℕ) (text ys : List ℕ) → past b text ≡ Some ys → text ≡ upto b text ++ (b ∷ ys)
cut b [] ys e = absurd cc
cut b (c ∷ cs) ys e = by (λ f. cut b cs ys f) (nat_eq c b) refl e
  where
    by : (past b cs ≡ Some ys → cs ≡ upto b cs ++ (b ∷ ys)) → (t : Bool) → nat_eq c b ≡ t → (if t then Some cs else past b cs) ≡ Some ys
        → c ∷ cs ≡ (if t then [] else c ∷ upto b cs) ++ (b ∷ ys)
    by rest true is f = ap (λ l. c ∷ l) (same_Some cs ys f) ∙ ap (λ z. z ∷ ys) (eqb-true c b is)
    by rest false is f = ap (λ l. c ∷ l) (rest f)

-- ---- the fields of an entry

pub fields_are : (text behind last : List ℕ) (e : Entry) → past 32 text ≡ Some behind → past 32 behind ≡ Some last → IsNumber (upto 32 text) e.thread → IsNumber (upto 32 behind) e.closed
    → last ≡ mark e.opened ∷ [] → AreFields text e
fields_are text behind last e first second thread closed opened = record {
  is = cut 32 text behind first
      ∙ ap (λ t. t ++ (32 ∷ behind)) thread.is
      ∙ ap (λ t. decimal e.thread ++ (32 ∷ t)) (cut 32 behind last second ∙ ap (λ t. t ++ (32 ∷ last)) closed.is ∙ ap (λ t. decimal e.closed ++ (32 ∷ t)) opened);
  short = record { thread = thread.few; closed = closed.few };
}

module _ (text : List ℕ) (e : Entry) (is : AreFields text e) where
  wide : (n : ℕ) → n < 10 ^ 10 → n < 2 ^ 64
  wide n l = omega (arith, l)

  abbrev second : List ℕ
  second = decimal e.closed ++ (32 ∷ (mark e.opened ∷ []))

  thread_free : IsFree 32 (decimal e.thread)
  thread_free = decimal_free 32 e.thread (omega arith) (wide e.thread is.short.thread)

  closed_free : IsFree 32 (decimal e.closed)
  closed_free = decimal_free 32 e.closed (omega arith) (wide e.closed is.short.closed)

  pub has_second : past 32 text ≡ Some (decimal e.closed ++ (32 ∷ (mark e.opened ∷ [])))
  has_second = ap (past 32) is.is ∙ past_first 32 (decimal e.thread) second thread_free

  pub has_thread : IsNumber (upto 32 text) e.thread
  has_thread = record { is = ap (upto 32) is.is ∙ upto_first 32 (decimal e.thread) second thread_free; few = is.short.thread }

  pub has_last : past 32 (decimal e.closed ++ (32 ∷ (mark e.opened ∷ []))) ≡ Some (mark e.opened ∷ [])
  has_last = past_first 32 (decimal e.closed) (mark e.opened ∷ []) closed_free

  pub has_closed : IsNumber (upto 32 (decimal e.closed ++ (32 ∷ (mark e.opened ∷ [])))) e.closed
  has_closed = record { is = upto_first 32 (decimal e.closed) (mark e.opened ∷ []) closed_free; few = is.short.closed }

pub from_pieces : (text behind last : List ℕ) (e : Entry) → past 32 text ≡ Some behind → past 32 behind ≡ Some last → ArePieces (upto 32 text) (upto 32 behind) last e → AreFields text e
from_pieces text behind last e first second p = fields_are text behind last e first second p.thread_is p.closed_is p.last_is

pub to_pieces : (text behind last : List ℕ) (e : Entry) → past 32 text ≡ Some behind → past 32 behind ≡ Some last → AreFields text e → ArePieces (upto 32 text) (upto 32 behind) last e
to_pieces text behind last e first second is =
    let b : behind ≡ decimal e.closed ++ (32 ∷ (mark e.opened ∷ [])) = same_Some behind (decimal e.closed ++ (32 ∷ (mark e.opened ∷ []))) (sym first ∙ has_second text e is) in
    record {
      thread_is = has_thread text e is;
      closed_is = subst (λ z. IsNumber (upto 32 z) e.closed) (sym b) (has_closed text e is);
      last_is = same_Some last (mark e.opened ∷ []) (sym second ∙ ap (past 32) b ∙ has_last text e is);
    }

pub no_behind : (text : List ℕ) (e : Entry) → past 32 text ≡ None → AreFields text e → ⊥
no_behind text e none is = (let clash = sym none ∙ has_second text e is in absurd cc)

pub no_last : (text behind : List ℕ) (e : Entry) → past 32 text ≡ Some behind → past 32 behind ≡ None → AreFields text e → ⊥
no_last text behind e first none is =
    let b : behind ≡ decimal e.closed ++ (32 ∷ (mark e.opened ∷ [])) = same_Some behind (decimal e.closed ++ (32 ∷ (mark e.opened ∷ []))) (sym first ∙ has_second text e is) in
    let clash = sym none ∙ ap (past 32) b ∙ has_last text e is in
    absurd cc
