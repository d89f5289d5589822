-- A line more of a journal, and the whole of it.
use Rattle.std.specs.Prelude.{◌≡◌, ℕ, zero, suc, ◌+◌, ◌≤◌, true, List, [], ◌∷◌, ◌++◌, length, take, drop, Some, None, refl}
use Rattle.std.proofs.Common.{ap, sym, ◌∙◌, subst, arith, length-append}
use Rattle.std.proofs.lemmas.List.{append_assoc}
use Rattle.journal_text.specs.declared.entry.Entry.{Entry}
use Rattle.journal_text.specs.declared.text.Reading.{Reading}
use Rattle.journal_text.specs.Lines.{begins, line_long, Led, start, more, Spells, AreSpelled, IsMisspelt}
use Rattle.journal_text.specs.Texts.{AreRead, IsReading, ReadsOn}

spelled_on : (lines : List (List ℕ)) (entries : List Entry) (l : List ℕ) (e : Entry) → AreSpelled lines entries → Spells l e → AreSpelled (lines ++ l ∷ []) (entries ++ e ∷ [])
spelled_on [] [] l e are is = (is, tt)
spelled_on [] (f ∷ entries) l e are is = absurd are
spelled_on (k ∷ lines) [] l e are is = absurd are
spelled_on (k ∷ lines) (f ∷ entries) l e are is = (are.0, spelled_on lines entries l e are.1 is)

count_on : (lines : List (List ℕ)) (l : List ℕ) (n m : ℕ) → n ≡ length lines → m ≡ n + 1 → m ≡ length (lines ++ l ∷ [])
count_on lines l n m e f = omega (arith, e, f, length-append lines (l ∷ []))

pub spelled_more : (old new : Reading) (line : List ℕ) (e : Entry) → old.bad ≡ None → Spells line e → new.entries.items ≡ old.entries.items ++ e ∷ [] → new.bad ≡ old.bad
    → new.lines ≡ old.lines + 1 → ReadsOn old line new
spelled_more old new line e good is added same counted lines before =
    let spelled : AreSpelled lines old.entries.items = subst (AreRead lines old.entries.items) good before.read in
    let now = spelled_on lines old.entries.items line e spelled is in
    record {
      count = count_on lines line old.lines new.lines before.count counted;
      read = subst (AreRead (lines ++ line ∷ []) new.entries.items) (sym (same ∙ good))
          (subst (λ (es : List Entry). AreSpelled (lines ++ line ∷ []) es) (sym added) now);
    }

pub misspelt_here : (old new : Reading) (line : List ℕ) → old.bad ≡ None → ((e : Entry) → Spells line e → ⊥) → new.entries.items ≡ old.entries.items → new.bad ≡
    Some old.lines → new.lines ≡ old.lines + 1
    → ReadsOn old line new
misspelt_here old new line good none kept bad counted lines before =
    let spelled : AreSpelled lines old.entries.items = subst (AreRead lines old.entries.items) good before.read in
    record {
      count = count_on lines line old.lines new.lines before.count counted;
      read = subst (AreRead (lines ++ line ∷ []) new.entries.items) (sym bad)
          (record { before = lines; spelled = subst (AreSpelled lines) (sym kept) spelled; bad = line; behind = []; are = refl; here = before.count; lacks = none });
    }

misspelt_on : (lines : List (List ℕ)) (entries : List Entry) (l : List ℕ) (k : ℕ) → IsMisspelt lines entries k → IsMisspelt (lines ++ l ∷ []) entries k
misspelt_on lines entries l k is = record {
  before = is.before;
  spelled = is.spelled;
  bad = is.bad;
  behind = is.behind ++ l ∷ [];
  are = ap (λ (z : List (List ℕ)). z ++ l ∷ []) is.are ∙ append_assoc is.before (is.bad ∷ is.behind) (l ∷ []);
  here = is.here;
  lacks = is.lacks;
}

pub misspelt_more : (old new : Reading) (line : List ℕ) (k : ℕ) → old.bad ≡ Some k → new.entries.items ≡ old.entries.items → new.bad ≡ old.bad → new.lines ≡ old.lines + 1
    → ReadsOn old line new
misspelt_more old new line k was kept same counted lines before =
    let is : IsMisspelt lines old.entries.items k = subst (AreRead lines old.entries.items) was before.read in
    record {
      count = count_on lines line old.lines new.lines before.count counted;
      read = subst (AreRead (lines ++ line ∷ []) new.entries.items) (sym (same ∙ was))
          (subst (λ (es : List Entry). IsMisspelt (lines ++ line ∷ []) es k) (sym kept) (misspelt_on lines old.entries.items line k is));
    }

drop_long : (xs : List ℕ) (n : ℕ) → n ≤ length xs → length (drop n xs) + n ≡ length xs
drop_long [] zero w = refl
drop_long [] (suc n) w = absurd (omega arith)
drop_long (x ∷ xs) zero w = (let e : suc (length xs) + 0 ≡ suc (length xs) = omega arith in e)
drop_long (x ∷ xs) (suc n) w = (let e = drop_long xs n (omega arith) in omega (arith, e))

-- so far so many bytes are read
pub record IsSoFar (text : List ℕ) (r : Reading) (rest : ℕ) : Type 0 where
  pub lines : List (List ℕ)
  pub led : Led text rest lines
  pub within : rest ≤ length text
  pub reading : IsReading lines r

pub so_far_none : (text : List ℕ) (r : Reading) → r.entries.items ≡ [] → r.bad ≡ None → r.lines ≡ 0 → IsSoFar text r 0
so_far_none text r entries bad lines = record {
  lines = [];
  led = start;
  within = omega arith;
  reading = record { count = lines; read = subst (AreRead [] r.entries.items) (sym bad) (subst (λ (es : List Entry). AreSpelled [] es) (sym entries) tt) };
}

pub so_far_more : (text left line : List ℕ) (r new : Reading) (rest long next : ℕ) → IsSoFar text r rest → left ≡ drop rest text → begins left ≡ true → long ≡ line_long left → long ≤ length left
    → line ≡ take long left → ReadsOn r line new → next ≡ rest + long → IsSoFar text new next
so_far_more text left line r new rest long next s is first l low cut reads e =
    let piece : line ≡ take (line_long (drop rest text)) (drop rest text) = cut ∙ ap (λ k. take k left) l ∙ ap (λ z. take (line_long z) z) is in
    let place : next ≡ rest + line_long (drop rest text) = e ∙ ap (λ k. rest + k) (l ∙ ap line_long is) in
    record {
      lines = s.lines ++ line ∷ [];
      led = subst (λ n. Led text n (s.lines ++ line ∷ [])) (sym place)
          (subst (λ (z : List ℕ). Led text (rest + line_long (drop rest text)) (s.lines ++ z ∷ [])) (sym piece) (more s.led (subst (λ z. begins z ≡ true) is first)));
      within = (let w = s.within in let d = drop_long text rest w in let f = ap length is in omega (arith, w, d, f, low, e));
      reading = reads s.lines s.reading;
    }
