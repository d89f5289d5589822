-- The C text that a source gives to a task is one.
use Rattle.std.proofs.Common.{◌≡◌, ℕ, zero, suc, ◌+◌, ◌<◌, true, false, List, length}
use Rattle.std.proofs.Common.{drop, take, Option, Some, refl, sym, subst, ap, ◌∙◌, inl, inr, ⊎_elim, arith}
use Rattle.std.specs.Prelude.{◌⊎◌}
use Rattle.std.proofs.lemmas.Bool.{both_ways, cases_order, cases_lt}
use Rattle.lists.proofs.Places.{length_more}
use Rattle.journal_text.specs.declared.entry.Entry.{Entry}
use Rattle.journal_text.specs.Lines.{begins, line_long, Led}
use Rattle.journal_text.specs.Texts.{IsParted}
use Rattle.hls_commands.specs.Answers.{GaveJournal}

-- where the line of a number begins
abbrev place : List ℕ → ℕ → ℕ
place text zero = 0
place text (suc k) = place text k + line_long (drop (place text k) text)

-- each of the first lines begins with `//@`
abbrev AreMarked : List ℕ → ℕ → Type 0
AreMarked text n = (k : ℕ) → k < n → begins (drop (place text k) text) ≡ true

below_or_same : (k n : ℕ) → k < suc n → (k < n) ⊎ (k ≡ n)
below_or_same k n l = ⊎_elim (λ less. inl less) (λ back. inr (omega (arith, l, back))) (cases_lt k n)

led_place : (text : List ℕ) (n : ℕ) (lines : List (List ℕ)) → Led text n lines → (n ≡ place text (length lines)) × AreMarked text (length lines)
led_place text _ _ Led.start = (refl, λ k l. absurd (omega (arith, l)))
led_place text _ _ (Led.more {n} {lines} led marked) =
    let before = led_place text n lines led in
    let long = length_more lines (take (line_long (drop n text)) (drop n text)) in
    let there : begins (drop (place text (length lines)) text) ≡ true = subst (λ (x : ℕ). begins (drop x text) ≡ true) before.0 marked in (
      ap (λ (x : ℕ). x + line_long (drop x text)) before.0 ∙ ap (place text) (sym long),
      λ k l. ⊎_elim (λ less. before.1 k less) (λ same. subst (λ (x : ℕ). begins (drop (place text x) text) ≡ true) (sym same) there)
          (below_or_same k (length lines) (subst (λ (x : ℕ). k < x) long l)),
    )

-- no line begins so where the other reading ends
never_past : (text : List ℕ) (n m rest : ℕ) → rest ≡ place text n → begins (drop rest text) ≡ false → AreMarked text m → n < m → ⊥
never_past text n m rest e ends marked l = both_ways (begins (drop (place text n) text)) (subst (λ (x : ℕ). begins (drop x text) ≡ false) e ends) (marked n l)

pub one_rest : (text : List ℕ) (first second : List Entry) (a b : Option ℕ) (n m : ℕ) → IsParted text first a n → IsParted text second b m → n ≡ m
one_rest text first second a b n m x y =
    let p = led_place text n x.lines x.led in
    let q = led_place text m y.lines y.led in
    ⊎_elim (λ same. p.0 ∙ ap (place text) same ∙ sym q.0)
    (λ other. ⊎_elim (λ less. absurd (never_past text (length x.lines) (length y.lines) n p.0 x.ends q.1 less))
    (λ more. absurd (never_past text (length y.lines) (length x.lines) m q.0 y.ends p.1 more)) other)
    (cases_order (length x.lines) (length y.lines))

pub one_text : (whole : List ℕ) (first second : List Entry) (a b : Option ℕ) (text other : List ℕ) → GaveJournal (Some whole) first a text → GaveJournal (Some whole) second b other → text ≡ other
one_text whole first second a b text other x y =
    let n : IsParted whole first a x.rest = subst (λ (w : List ℕ). IsParted w first a x.rest) x.gave x.parted in
    let m : IsParted whole second b y.rest = subst (λ (w : List ℕ). IsParted w second b y.rest) y.gave y.parted in
    let e : text ≡ drop x.rest whole = x.behind ∙ ap (drop x.rest) x.gave in
    let f : other ≡ drop y.rest whole = y.behind ∙ ap (drop y.rest) y.gave in
    e ∙ ap (λ (k : ℕ). drop k whole) (one_rest whole first second a b x.rest y.rest n m) ∙ sym f
