-- Requests by operation and by bank: a state is ready, and a grant moves it, in both views alike.
use Rattle.std.proofs.Common.{◌≡◌, ℕ, zero, suc, ◌<◌, Bool, true, false, not, ◌&&◌, ◌||◌, refl, sym, ap, ◌∙◌}
use Rattle.std.proofs.lemmas.Bool.{and_from, and_parts}
use Rattle.std.proofs.Math.Bool.{not-not}
use Rattle.std.specs.Cmp.{both_ways}
use Rattle.planned_block.specs.Advance.{all_below, any_below}
use Rattle.planned_block.proofs.Advances.{any_tells, some_tells}
use Rattle.thread_states.specs.Control.{got, unmet}

-- ---- truth

-- two lists of tests with one that passes in each, or none
pub any_same : (f g : ℕ → Bool) (n m : ℕ) → ((k : ℕ) → k < n → f k ≡ true → (j : ℕ) × (j < m) × (g j ≡ true)) → ((j : ℕ) → j < m → g j ≡ true → (k : ℕ) × (k < n) × (f k ≡ true))
    → any_below f n ≡ any_below g m
any_same f g n m there back =
    both_ways (any_below f n) (any_below g m)
    (λ e. let k = any_tells f n e in let j = there k.0 k.1 k.2 in some_tells g m j.0 j.1 j.2)
    (λ e. let j = any_tells g m e in let k = back j.0 j.1 j.2 in some_tells f n k.0 k.1 k.2)

not_both : (t u : Bool) → (t && u) ≡ not (not t || not u)
not_both true true = refl
not_both true false = refl
not_both false u = refl

pub all_not_any : (f : ℕ → Bool) (n : ℕ) → all_below f n ≡ not (any_below (λ k. not (f k)) n)
all_not_any f zero = refl
all_not_any f (suc n) =
    ap (λ t. t && f n) (all_not_any f n) ∙ not_both (not (any_below (λ k. not (f k)) n)) (f n)
    ∙ ap (λ t. not (t || not (f n))) (not-not (any_below (λ k. not (f k)) n))

-- ---- one request

-- asked for, granted before, and granted now
missing_parts : (a g h : Bool) → not (not a || (g || ((a && not g) && h))) ≡ true → (a ≡ true) × (g ≡ false) × (h ≡ false)
missing_parts true false false e = (refl, refl, refl)
missing_parts true false true e = absurd cc
missing_parts true true h e = absurd cc
missing_parts false g h e = absurd cc

missing_from : (a g h : Bool) → a ≡ true → g ≡ false → h ≡ false → not (not a || (g || ((a && not g) && h))) ≡ true
missing_from true false false p q r = refl
missing_from true false true p q r = absurd cc
missing_from true true h p q r = absurd cc
missing_from false g h p q r = absurd cc

answer_parts : (a g h : Bool) → ((a && not g) && h) ≡ true → (a ≡ true) × (g ≡ false) × (h ≡ true)
answer_parts true false true e = (refl, refl, refl)
answer_parts true false false e = absurd cc
answer_parts true true h e = absurd cc
answer_parts false g h e = absurd cc

answer_from : (a g h : Bool) → a ≡ true → g ≡ false → h ≡ true → ((a && not g) && h) ≡ true
answer_from true false true p q r = refl
answer_from true false false p q r = absurd cc
answer_from true true h p q r = absurd cc
answer_from false g h p q r = absurd cc

-- the same of a bank
unmet_parts : (w m k : Bool) → ((w && not m) && not (((w && not m) && true) && k)) ≡ true → (w ≡ true) × (m ≡ false) × (k ≡ false)
unmet_parts true false false e = (refl, refl, refl)
unmet_parts true false true e = absurd cc
unmet_parts true true k e = absurd cc
unmet_parts false m k e = absurd cc

unmet_from : (w m k : Bool) → w ≡ true → m ≡ false → k ≡ false → ((w && not m) && not (((w && not m) && true) && k)) ≡ true
unmet_from true false false p q r = refl
unmet_from true false true p q r = absurd cc
unmet_from true true k p q r = absurd cc
unmet_from false m k p q r = absurd cc

got_parts : (w m k : Bool) → (((w && not m) && true) && k) ≡ true → (w ≡ true) × (m ≡ false) × (k ≡ true)
got_parts true false true e = (refl, refl, refl)
got_parts true false false e = absurd cc
got_parts true true k e = absurd cc
got_parts false m k e = absurd cc

got_from : (w m k : Bool) → w ≡ true → m ≡ false → k ≡ true → (((w && not m) && true) && k) ≡ true
got_from true false true p q r = refl
got_from true false false p q r = absurd cc
got_from true true k p q r = absurd cc
got_from false m k p q r = absurd cc

-- ---- all of a state

-- N operations of which some ask, and have been granted or are; B banks of which some are wanted, are marked, and grant
module _ (N B : ℕ) (asks granted grant wants marked grants : ℕ → Bool) (bank : ℕ → ℕ) (below : (k : ℕ) → k < N → asks k ≡ true → bank k < B)
    (wanted : (k : ℕ) → k < N → asks k ≡ true → wants (bank k) ≡ true) (asker : (n : ℕ) → n < B → wants n ≡ true → (k : ℕ) × (k < N) × (asks k ≡ true) × (bank k ≡ n))
    (marks : (k : ℕ) → k < N → asks k ≡ true → marked (bank k) ≡ granted k)
    (hears : (k : ℕ) → k < N → asks k ≡ true → granted k ≡ false → grants (bank k) ≡ grant k) where
  abbrev pub opened : ℕ → Bool
  opened n = wants n && not (marked n)

  abbrev pub answer : ℕ → Bool
  answer k = (asks k && not (granted k)) && grant k

  abbrev pub is_met : ℕ → Bool
  is_met k = not (asks k) || (granted k || answer k)

  -- the asker of a bank that is not marked
  found : (n : ℕ) → n < B → wants n ≡ true → marked n ≡ false → (k : ℕ) × (k < N) × (asks k ≡ true) × (granted k ≡ false) × (bank k ≡ n) × (grants n ≡ grant k)
  found n less w m =
      let k = asker n less w in
      let not_yet : granted k.0 ≡ false = sym (marks k.0 k.1 k.2) ∙ ap marked k.3 ∙ m in
      (k.0, k.1, k.2, not_yet, k.3, ap grants (sym k.3) ∙ hears k.0 k.1 k.2 not_yet)

  lacks_same : any_below (λ k. not (is_met k)) N ≡ any_below (unmet opened grants true) B
  lacks_same =
      any_same (λ k. not (is_met k)) (unmet opened grants true) N B
      (λ k less e.
      let parts = missing_parts (asks k) (granted k) (grant k) e in (
        bank k,
        below k less parts.0,
        unmet_from (wants (bank k)) (marked (bank k)) (grants (bank k)) (wanted k less parts.0) (marks k less parts.0 ∙ parts.1) (hears k less parts.0 parts.1 ∙ parts.2),
      ))
      (λ n less e.
      let parts = unmet_parts (wants n) (marked n) (grants n) e in
      let k = found n less parts.0 parts.1 in
      (k.0, k.1, missing_from (asks k.0) (granted k.0) (grant k.0) k.2 k.3 (sym k.5 ∙ parts.2)))

  -- THE STATE IS READY as no bank is missing
  pub ready : all_below is_met N ≡ not (any_below (unmet opened grants true) B)
  ready = all_not_any is_met N ∙ ap not lacks_same

  -- some request is granted as some bank grants
  pub moving : any_below answer N ≡ any_below (got opened grants true) B
  moving =
      any_same answer (got opened grants true) N B
      (λ k less e.
      let parts = answer_parts (asks k) (granted k) (grant k) e in (
        bank k,
        below k less parts.0,
        got_from (wants (bank k)) (marked (bank k)) (grants (bank k)) (wanted k less parts.0) (marks k less parts.0 ∙ parts.1) (hears k less parts.0 parts.1 ∙ parts.2),
      ))
      (λ n less e.
      let parts = got_parts (wants n) (marked n) (grants n) e in
      let k = found n less parts.0 parts.1 in
      (k.0, k.1, answer_from (asks k.0) (granted k.0) (grant k.0) k.2 k.3 (sym k.5 ∙ parts.2)))

  -- of banks among which only that of operation k is wanted, one grants as the request of k is granted
  pub only_own : (counts : ℕ → Bool) (k : ℕ) → k < N → asks k ≡ true → counts (bank k) ≡ true → ((n : ℕ) → n < B → counts n ≡ true → wants n ≡ true → n ≡ bank k)
      → any_below (λ n. counts n && got opened grants true n) B ≡ answer k
  only_own counts k less asked counted one =
      both_ways (any_below (λ n. counts n && got opened grants true n) B) (answer k)
      (λ e.
      let n = any_tells (λ n. counts n && got opened grants true n) B e in
      let two = and_parts (counts n.0) (got opened grants true n.0) n.2 in
      let parts = got_parts (wants n.0) (marked n.0) (grants n.0) two.1 in
      let at : n.0 ≡ bank k = one n.0 n.1 two.0 parts.0 in
      let not_yet : granted k ≡ false = sym (marks k less asked) ∙ ap marked (sym at) ∙ parts.1 in
      answer_from (asks k) (granted k) (grant k) asked not_yet (sym (hears k less asked not_yet) ∙ ap grants (sym at) ∙ parts.2))
      (λ e.
      let parts = answer_parts (asks k) (granted k) (grant k) e in
      some_tells (λ n. counts n && got opened grants true n) B (bank k) (below k less asked)
      (and_from (counts (bank k)) (got opened grants true (bank k)) counted
      (got_from (wants (bank k)) (marked (bank k)) (grants (bank k)) (wanted k less asked) (marks k less asked ∙ parts.1) (hears k less asked parts.1 ∙ parts.2))))
