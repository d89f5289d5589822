-- There are no more modules of threads than hardware threads, since each module is one of a thread.
use Rattle.std.proofs.Common.{◌≡◌, ℕ, zero, suc, ◌+◌, ◌<◌, ◌≤◌, Bool, true, false, List, [], ◌∷◌, length, Some, refl, sym, ap, ◌∙◌, subst, ⊎_elim, arith}
use Rattle.std.specs.Prelude.{slice_get}
use Rattle.std.proofs.lemmas.Bool.{cases_lt}
use Rattle.std.proofs.lemmas.Option.{none-some, same_Some}
use Rattle.lists.proofs.Places.{get_there}
use Rattle.hls_ints.specs.Residues.{bit_of}
use Rattle.c_program.specs.Tree.{Program}
use Rattle.c_program.specs.Resolved.{IsResolved}
use Rattle.c_program.specs.Weight.{thread_functions}
use Rattle.program_modules.specs.Numbers.{module_numbers, has_idle, NoMoreModules}
use Rattle.program_modules.proofs.Numbers.{count, module_runs, idle_runs}

-- a list without what stands at a place
without : ℕ → List ℕ → List ℕ
without i [] = []
without zero (x ∷ xs) = xs
without (suc i) (x ∷ xs) = x ∷ without i xs

shorter : (i : ℕ) (xs : List ℕ) (x : ℕ) → slice_get xs i ≡ Some x → length xs ≡ suc (length (without i xs))
unfolding without
shorter i [] x e = absurd (none-some x e)
shorter zero (y ∷ xs) x e = refl
shorter (suc i) (y ∷ xs) x e = ap suc (shorter i xs x e)

-- another number stands there still
stays : (i j : ℕ) (xs : List ℕ) (x y : ℕ) → slice_get xs i ≡ Some x → slice_get xs j ≡ Some y → y < x → (k : ℕ) × (slice_get (without i xs) k ≡ Some y)
unfolding without
stays i j [] x y d e l = absurd (none-some x d)
stays zero zero (z ∷ xs) x y d e l = let s = same_Some z x d in let t = same_Some z y e in absurd (let bad : 1 ≤ 0 = omega (arith, l, s, t) in omega (arith, bad))
stays zero (suc j) (z ∷ xs) x y d e l = (j, e)
stays (suc i) zero (z ∷ xs) x y d e l = (0, e)
stays (suc i) (suc j) (z ∷ xs) x y d e l = let r = stays i j xs x y d e l in (suc r.0, r.1)

-- a list that has each number below n has n or more
covering : (n : ℕ) (xs : List ℕ) → ((k : ℕ) → k < n → (i : ℕ) × (slice_get xs i ≡ Some k)) → n ≤ length xs
covering zero xs has = omega arith
covering (suc n) xs has =
    let last = has n (omega arith) in
    let rest = covering n (without last.0 xs) (λ k l. let there = has k (omega (arith, l)) in stays last.0 there.0 xs n k last.1 there.1 l) in
    let long = shorter last.0 xs n last.1 in
    omega (arith, rest, long)

module _ (P : Program) (R : IsResolved P) where
  idle_behind : (k : ℕ) (b : Bool) → has_idle P ≡ b → k < length (thread_functions P) + bit_of b → length (thread_functions P) ≤ k →
      (i : ℕ) × (slice_get (module_numbers P) i ≡ Some k)
  idle_behind k true e l h =
      let r = idle_runs P R e in
      let same : length (thread_functions P) ≡ k = omega (arith, l, h) in
      (r.0, r.1 ∙ ap Some same)
  idle_behind k false e l h = absurd (let bad : 1 ≤ 0 = omega (arith, l, h) in omega (arith, bad))

  -- each module is one of a thread
  run : (k : ℕ) → k < length (thread_functions P) + bit_of (has_idle P) → (i : ℕ) × (slice_get (module_numbers P) i ≡ Some k)
  run k l =
      ⊎_elim (λ (h : k < length (thread_functions P)). let f = get_there (thread_functions P) k h in module_runs P R k f.0 f.1)
      (λ (h : length (thread_functions P) ≤ k). idle_behind k (has_idle P) refl l h) (cases_lt k (length (thread_functions P)))

pub no_more_modules : NoMoreModules
no_more_modules P R = subst (λ n. length (thread_functions P) + bit_of (has_idle P) ≤ n) (count P R) (covering (length (thread_functions P) + bit_of (has_idle P)) (module_numbers P) (run P R))
