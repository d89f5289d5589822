-- The numbers of the modules of threads: each thread has one, each module is one of a thread, and main's is the first.
use Rattle.std.proofs.Common.{◌≡◌, ℕ, zero, suc, ◌+◌, ◌<◌, ◌≤◌, ◌⊎◌, Bool, true, false, nat_eq, if◌then◌else◌, List, [], ◌∷◌, ◌++◌, length, replicate}
use Rattle.std.proofs.Common.{Option, Some, None, refl, sym, ap, ◌∙◌, subst, inl, inr, ⊎_elim, arith}
use Rattle.std.specs.Prelude.{◌||◌, slice_get, filter, Contains}
use Rattle.std.specs.List.{flat_map, range_with_len, list_any}
use Rattle.std.specs.Option.{option_eq}
use Rattle.std.proofs.lemmas.Bool.Decides.{nat_tests}
use Rattle.std.proofs.lemmas.List.{length-map}
use Rattle.std.proofs.lemmas.Option.{none-some, same_Some, slice_get-get_or, slice_get_within}
use Rattle.std.proofs.Math.Bool.{or-true}
use Rattle.std.proofs.Math.Dec.{eqb-suc-zero}
use Rattle.std.proofs.lemmas.Bool.{eq-eqb}
use Rattle.lists.proofs.Places.{get_back, get_mapped, get_unmapped, copies_front}
use Rattle.hls_ints.specs.Types.{int_type}
use Rattle.c_program.specs.declared.tree.ThreadObject.{ThreadObject}
use Rattle.c_program.specs.declared.tree.ReturnType.TheVariants.{Integer, Pointer}
use Rattle.c_program.specs.Tree.{Program}
use Rattle.c_program.specs.Resolved.{IsStartRoutine, IsRoutineAt, IsResolved}
use Rattle.c_program.specs.Weight.{names_routine, is_routine, routines, thread_functions, thread_count, hardware_routines}
use Rattle.c_program.proofs.Runners.{routines_count, runners_are_threads}
use Rattle.program_modules.specs.Numbers.{place_in, number_in, module_numbers, is_idle, has_idle}

-- ---- places

-- a number stands at its place, or nowhere
pub place_cases : (fs : List ℕ) (f : ℕ) → (slice_get fs (place_in fs f) ≡ Some f) ⊎ (place_in fs f ≡ length fs)
place_cases [] f = inr refl
place_cases (g ∷ fs) f = by (nat_eq g f) refl (place_cases fs f)
  where
    by : (b : Bool) → nat_eq g f ≡ b → (slice_get fs (place_in fs f) ≡ Some f) ⊎ (place_in fs f ≡ length fs) →
        (slice_get (g ∷ fs) (if b then 0 else suc (place_in fs f)) ≡ Some f) ⊎ ((if b then 0 else suc (place_in fs f)) ≡ suc (length fs))
    by true e rest = inl (ap Some (let s : g ≡ f = grind (arith, nat_tests, e) in s))
    by false e (inl there) = inl there
    by false e (inr none) = inr (ap suc none)

place_by : (fs : List ℕ) (f g k : ℕ) (b : Bool) → nat_eq g f ≡ b → slice_get (g ∷ fs) k ≡ Some f → ((j : ℕ) → slice_get fs j ≡ Some f → slice_get fs (place_in fs f) ≡ Some f) →
    slice_get (g ∷ fs) (if b then 0 else suc (place_in fs f)) ≡ Some f
place_by fs f g k true t e rest = ap Some (let s : g ≡ f = grind (arith, nat_tests, t) in s)
place_by fs f g zero false t e rest = absurd (let s = same_Some g f e in let no : nat_eq g f ≡ true = ap (λ z. nat_eq z f) s ∙ eq-eqb f f refl in cc)
place_by fs f g (suc k) false t e rest = rest k e

-- where it stands somewhere, it stands at its place
pub place_there : (fs : List ℕ) (f k : ℕ) → slice_get fs k ≡ Some f → slice_get fs (place_in fs f) ≡ Some f
place_there [] f k e = absurd (none-some f e)
place_there (g ∷ fs) f k e = place_by fs f g k (nat_eq g f) refl e (λ j d. place_there fs f j d)

pub contains_place : (fs : List ℕ) (f : ℕ) → Contains fs f → slice_get fs (place_in fs f) ≡ Some f
contains_place fs f c = place_there fs f c.0 (slice_get-get_or fs c.0 f c.1 ∙ ap Some c.2)

-- ---- the thread functions

abbrev IsIn : (ℕ → Bool) → ℕ → ℕ → ℕ → Type 0
IsIn p a n f = (a ≤ f) × (f < a + n) × (p f ≡ true)

abbrev kept : (ℕ → Bool) → ℕ → ℕ → List ℕ
kept p a n = filter p (range_with_len a n)

range_by : (p : ℕ → Bool) (a n j f : ℕ) (b : Bool) → p a ≡ b → slice_get (if b then a ∷ kept p (a + 1) n else kept p (a + 1) n) j ≡ Some f →
    ((k : ℕ) → slice_get (kept p (a + 1) n) k ≡ Some f → IsIn p (a + 1) n f) → IsIn p a (suc n) f
range_by p a n zero f true t e rest = let s = same_Some a f e in (omega (arith, s), omega (arith, s), ap p (sym s) ∙ t)
range_by p a n (suc j) f true t e rest = let r = rest j e in (let l = r.0 in omega (arith, l), (let l = r.1 in omega (arith, l)), r.2)
range_by p a n j f false t e rest = let r = rest j e in (let l = r.0 in omega (arith, l), (let l = r.1 in omega (arith, l)), r.2)

in_range : (p : ℕ → Bool) (a n j f : ℕ) → slice_get (kept p a n) j ≡ Some f → IsIn p a n f
in_range p a zero j f e = absurd (none-some f e)
in_range p a (suc n) j f e = range_by p a n j f (p a) refl e (λ k d. in_range p (a + 1) n k f d)

not_above : (p : ℕ → Bool) (a n k f : ℕ) → slice_get (kept p (a + 1) n) k ≡ Some f → a ≡ f → ⊥
not_above p a n k f d s = let low = (in_range p (a + 1) n k f d).0 in let bad : 1 ≤ 0 = omega (arith, low, s) in omega (arith, bad)

once_by : (p : ℕ → Bool) (a n j k f : ℕ) (b : Bool) → slice_get (if b then a ∷ kept p (a + 1) n else kept p (a + 1) n) j ≡ Some f →
    slice_get (if b then a ∷ kept p (a + 1) n else kept p (a + 1) n) k ≡ Some f →
    ((x y : ℕ) → slice_get (kept p (a + 1) n) x ≡ Some f → slice_get (kept p (a + 1) n) y ≡ Some f → x ≡ y) → j ≡ k
once_by p a n zero zero f true d e rest = refl
once_by p a n zero (suc k) f true d e rest = absurd (not_above p a n k f e (same_Some a f d))
once_by p a n (suc j) zero f true d e rest = absurd (not_above p a n j f d (same_Some a f e))
once_by p a n (suc j) (suc k) f true d e rest = ap suc (rest j k d e)
once_by p a n j k f false d e rest = rest j k d e

-- each stands there once
once_in_range : (p : ℕ → Bool) (a n j k f : ℕ) → slice_get (kept p a n) j ≡ Some f → slice_get (kept p a n) k ≡ Some f → j ≡ k
once_in_range p a zero j k f d e = absurd (none-some f d)
once_in_range p a (suc n) j k f d e = once_by p a n j k f (p a) d e (λ x y l r. once_in_range p (a + 1) n x y f l r)

module _ (P : Program) (R : IsResolved P) where
  abbrev FS : List ℕ
  FS = thread_functions P

  abbrev HR : List (Option ℕ)
  HR = hardware_routines P

  -- an object whose threads run a routine
  abbrev Owner : List ThreadObject → ℕ → Type 0
  Owner os f = (x : ℕ) × (o : ThreadObject) × (slice_get os x ≡ Some o) × (o.routine ≡ Some f)

  in_part : (f n k : ℕ) (r : Option ℕ) (rest : List (Option ℕ)) → slice_get (replicate n r ++ rest) k ≡ Some (Some f) →
      (r ≡ Some f) ⊎ ((j : ℕ) × (slice_get rest j ≡ Some (Some f)))
  in_part f zero k r rest e = inr (k, e)
  in_part f (suc n) zero r rest e = inl (same_Some r (Some f) e)
  in_part f (suc n) (suc k) r rest e = in_part f n k r rest e

  owner_of : (f : ℕ) (os : List ThreadObject) (k : ℕ) → slice_get (flat_map (λ (z : ThreadObject). replicate z.length z.routine) os) k ≡ Some (Some f) → Owner os f
  owner_of f [] k e = absurd (none-some (Some f) e)
  owner_of f (o ∷ os) k e =
      ⊎_elim (λ (r : o.routine ≡ Some f). (0, o, refl, r))
      (λ (later : (j : ℕ) × (slice_get (flat_map (λ (z : ThreadObject). replicate z.length z.routine) os) j ≡ Some (Some f))).
      let w = owner_of f os later.0 later.1 in (suc w.0, w.1, w.2, w.3))
      (in_part f o.length k o.routine (flat_map (λ (z : ThreadObject). replicate z.length z.routine) os) e)

  routine_is : (f : ℕ) (r : Option ℕ) → option_eq nat_eq r (Some f) ≡ true → r ≡ Some f
  routine_is f None e = absurd (let z : false ≡ true = e in cc)
  routine_is f (Some g) e = ap Some (let s : g ≡ f = grind (arith, nat_tests, e) in s)

  owner_step : (f : ℕ) (o : ThreadObject) (os : List ThreadObject) (b : Bool) → names_routine f o ≡ b → (b || is_routine os f) ≡ true →
      (is_routine os f ≡ true → Owner os f) → Owner (o ∷ os) f
  owner_step f o os true t e rest = (0, o, refl, routine_is f o.routine t)
  owner_step f o os false t e rest = let w = rest e in (suc w.0, w.1, w.2, w.3)

  owner_by : (f : ℕ) (os : List ThreadObject) → is_routine os f ≡ true → Owner os f
  owner_by f [] e = absurd (let z : false ≡ true = e in cc)
  owner_by f (o ∷ os) e = owner_step f o os (names_routine f o) refl e (λ d. owner_by f os d)

  routine_in : (j f : ℕ) → slice_get (routines P) j ≡ Some f → (f < length P.functions) × (is_routine P.threads f ≡ true)
  routine_in j f e = let r = in_range (is_routine P.threads) 0 (length P.functions) j f e in (let l = r.1 in omega (arith, l), r.2)

  -- main takes no part in them
  routine_not_main : (j : ℕ) → slice_get (routines P) j ≡ Some P.main → ⊥
  routine_not_main j e =
      let w = owner_by P.main P.threads (routine_in j P.main e).1 in
      let is : IsRoutineAt (slice_get P.functions P.main) = (R.threads w.0 w.1 w.2).routine P.main w.3 in
      let start : IsStartRoutine R.main.code = subst IsRoutineAt R.main.found is in
      let bad : Pointer ≡ Integer int_type = sym start.returns ∙ R.main.returns in
      absurd cc

  -- each thread function stands once
  pub once : (j k f : ℕ) → slice_get FS j ≡ Some f → slice_get FS k ≡ Some f → j ≡ k
  once zero zero f d e = refl
  once zero (suc k) f d e = absurd (routine_not_main k (e ∙ ap Some (sym (same_Some P.main f d))))
  once (suc j) zero f d e = absurd (routine_not_main j (d ∙ ap Some (sym (same_Some P.main f e))))
  once (suc j) (suc k) f d e = ap suc (once_in_range (is_routine P.threads) 0 (length P.functions) j k f d e)

  -- and is a function
  pub function_there : (k f : ℕ) → slice_get FS k ≡ Some f → f < length P.functions
  function_there zero f e = subst (λ z. z < length P.functions) (same_Some P.main f e) (slice_get_within P.functions P.main R.main.code R.main.found)
  function_there (suc k) f e = (routine_in k f e).0

  -- no function has no place
  pub no_place : place_in FS (length P.functions) ≡ length FS
  no_place =
      ⊎_elim (λ (there : slice_get FS (place_in FS (length P.functions)) ≡ Some (length P.functions)).
      absurd (let l = function_there (place_in FS (length P.functions)) (length P.functions) there in let bad : 1 ≤ 0 = omega (arith, l) in omega (arith, bad)))
      (λ (none : place_in FS (length P.functions) ≡ length FS). none) (place_cases FS (length P.functions))

  -- ---- threads

  pub thread_there : (i : ℕ) (o : Option ℕ) → slice_get HR i ≡ Some o → slice_get (module_numbers P) i ≡ Some (number_in FS o)
  thread_there i o e = get_mapped (number_in FS) HR i o e

  pub thread_back : (i number : ℕ) → slice_get (module_numbers P) i ≡ Some number → (o : Option ℕ) × (slice_get HR i ≡ Some o) × (number_in FS o ≡ number)
  thread_back i number e = get_unmapped (number_in FS) HR i number e

  pub count : length (module_numbers P) ≡ thread_count P
  count = length-map HR (number_in FS) ∙ routines_count P

  -- the function of a thread stands at the number of its module
  pub runner_place : (i f : ℕ) → slice_get HR i ≡ Some (Some f) → slice_get FS (place_in FS f) ≡ Some f
  runner_place i f e = contains_place FS f (runners_are_threads P R i f e)

  any_at : (os : List (Option ℕ)) (i : ℕ) → slice_get os i ≡ Some None → list_any is_idle os ≡ true
  any_at [] i e = absurd (none-some None e)
  any_at (o ∷ os) zero e = ap (λ (z : Option ℕ). is_idle z || list_any is_idle os) (same_Some o None e)
  any_at (o ∷ os) (suc i) e = ap (λ b. is_idle o || b) (any_at os i e) ∙ or-true (is_idle o)

  -- where one has none, there is such a one
  pub idle_there : (i : ℕ) → slice_get HR i ≡ Some None → has_idle P ≡ true
  idle_there i e = any_at HR i e

  idle_at : (os : List (Option ℕ)) → list_any is_idle os ≡ true → (i : ℕ) × (slice_get os i ≡ Some None)
  idle_at [] e = absurd (let z : false ≡ true = e in cc)
  idle_at (None ∷ os) e = (0, refl)
  idle_at (Some f ∷ os) e = let r = idle_at os e in (suc r.0, r.1)

  -- thread 0 is main's, and main's alone
  pub is_first : (i : ℕ) (o : Option ℕ) → slice_get HR i ≡ Some o → nat_eq (number_in FS o) 0 ≡ nat_eq i 0
  is_first zero o e = ap (λ (z : Option ℕ). nat_eq (number_in FS z) 0) (sym (same_Some (Some P.main) o e))
      ∙ ap (λ (b : Bool). nat_eq (if b then 0 else suc (place_in (routines P) P.main)) 0) (eq-eqb P.main P.main refl)
  is_first (suc i) None e = eqb-suc-zero (length (routines P)) ∙ sym (eqb-suc-zero i)
  is_first (suc i) (Some f) e = by (nat_eq P.main f) refl ∙ sym (eqb-suc-zero i)
    where
      by : (b : Bool) → nat_eq P.main f ≡ b → nat_eq (if b then 0 else suc (place_in (routines P) f)) 0 ≡ false
      by false t = eqb-suc-zero (place_in (routines P) f)
      by true t =
          let same : P.main ≡ f = grind (arith, nat_tests, t) in
          let w = owner_of f P.threads i e in
          let is : IsRoutineAt (slice_get P.functions f) = (R.threads w.0 w.1 w.2).routine f w.3 in
          let start : IsStartRoutine R.main.code = subst IsRoutineAt (ap (slice_get P.functions) (sym same) ∙ R.main.found) is in
          let bad : Pointer ≡ Integer int_type = sym start.returns ∙ R.main.returns in
          absurd cc

  -- one without a function is another
  pub idle_not_first : (i : ℕ) → slice_get HR i ≡ Some None → false ≡ nat_eq i 0
  idle_not_first zero e = absurd (let z : Some P.main ≡ None = same_Some (Some P.main) None e in cc)
  idle_not_first (suc i) e = sym (eqb-suc-zero i)

  -- ---- each module is one of a thread

  thread_of : (f : ℕ) (os : List ThreadObject) → ((x : ℕ) (o : ThreadObject) → slice_get os x ≡ Some o → 0 < o.length) → (x : ℕ) (o : ThreadObject) → slice_get os x ≡ Some o →
      o.routine ≡ Some f → (i : ℕ) × (slice_get (flat_map (λ (z : ThreadObject). replicate z.length z.routine) os) i ≡ Some (Some f))
  thread_of f [] some x o e r = absurd (none-some o e)
  thread_of f (p ∷ os) some zero o e r =
      let same = same_Some p o e in (
        0,
        copies_front p.length 0 p.routine (flat_map (λ (z : ThreadObject). replicate z.length z.routine) os) (some 0 p refl)
            ∙ ap Some (ap (λ (z : ThreadObject). z.routine) same ∙ r),
      )
  thread_of f (p ∷ os) some (suc x) o e r =
      let rest = thread_of f os (λ y q d. some (suc y) q d) x o e r in (
        length (replicate p.length p.routine) + rest.0,
        get_back (replicate p.length p.routine) (flat_map (λ (z : ThreadObject). replicate z.length z.routine) os) rest.0
            (Some f) rest.1,
      )

  runner_of : (k f : ℕ) → slice_get FS k ≡ Some f → (i : ℕ) × (slice_get HR i ≡ Some (Some f))
  runner_of zero f e = (0, ap (λ g. Some (Some g)) (same_Some P.main f e))
  runner_of (suc k) f e =
      let w = owner_by f P.threads (routine_in k f e).1 in
      let t = thread_of f P.threads (λ x o d. (R.threads x o d).not_empty) w.0 w.1 w.2 w.3 in
      (suc t.0, t.1)

  pub module_runs : (k f : ℕ) → slice_get FS k ≡ Some f → (i : ℕ) × (slice_get (module_numbers P) i ≡ Some k)
  module_runs k f e =
      let r = runner_of k f e in
      (r.0, thread_there r.0 (Some f) r.1 ∙ ap Some (once (place_in FS f) k f (place_there FS f k e) e))

  pub idle_runs : has_idle P ≡ true → (i : ℕ) × (slice_get (module_numbers P) i ≡ Some (length FS))
  idle_runs e = let r = idle_at HR e in (r.0, thread_there r.0 None r.1)
