-- A generated program is good.
use Rattle.std.proofs.Common.{◌≡◌, ◌≢◌, ℕ, zero, suc, ◌+◌, ◌-◌, ◌<◌, ◌≤◌, List, [], ◌∷◌}
use Rattle.std.proofs.Common.{◌++◌, length, replicate, refl, ap, sym, ◌∙◌, subst, ⊎_elim, inl, inr, arith}
use Rattle.std.specs.Prelude.{false, ℤ, pos, Option, Some, None, slice_get, Contains}
use Rattle.std.proofs.lemmas.Bool.{cases_lt}
use Rattle.std.proofs.lemmas.List.{append-nil}
use Rattle.std.proofs.lemmas.Option.{slice_get_past}
use Rattle.lists.proofs.Places.{copies_there}
use Rattle.generated_text.specs.declared.draws.Line.{Line}
use Rattle.c_program.specs.declared.tree.LocalVariable.{LocalVariable}
use Rattle.c_program.specs.Tree.{Function, GlobalVariable, Program}
use Rattle.thread_semantics.specs.declared.cause.BlockedCause.{BlockedCause}
use Rattle.thread_semantics.specs.declared.cause.BlockedCause.TheVariants as waits
use Rattle.thread_semantics.specs.declared.cause.UndefinedCause.{UndefinedCause}
use Rattle.thread_semantics.specs.declared.object.MutexState.{MutexState}
use Rattle.thread_semantics.specs.declared.object.MutexState.TheVariants.{Uninitialised, Owned}
use Rattle.thread_semantics.specs.Memory.{Location}
use Rattle.thread_semantics.specs.Work.{Do, Onward, settled}
use Rattle.thread_semantics.specs.State.{Frame, Slot, Unused, Running, Finished, State, begun, fresh_locals, first_values, start}
use Rattle.thread_semantics.specs.Step.{Steps, Blocks, Undefines, slot_step, step, and_steps, after}
use Rattle.thread_semantics.specs.Races.{Touch, if_taken, thread_touched, footprint, Races, IsGood}
use Rattle.race_model.proofs.Ids.{ids_are_single}
use Rattle.generated_program.specs.Worker.{worker_locals, opening, closing, IsWorker}
use Rattle.generated_program.specs.Main.{IsMain}
use Rattle.generated_program.specs.Generated.{IsUnsigned}
use Rattle.generated_good.specs.Laws.{GeneratedIsGood}
use Rattle.generated_good.proofs.WorkerValues.{Cells, Locals}
use Rattle.generated_good.proofs.SafeStatements.{worker_safe}
use Rattle.generated_good.proofs.States.{made, Parts, state_of, worker_frame, WorkerAt, Stands, Idle, Declaring, Live}
use Rattle.generated_good.proofs.States.{Invariant, GoesOn, Ended, IsAllowed, AreAllowed, Outcome, Waits, Goes}
use Rattle.generated_good.proofs.WorkerSteps.{small_long, worker_goes}
use Rattle.generated_good.proofs.MainSteps.{main_goes}

-- a worker's locals at its start
first_locals : (j : ℕ) → j < 64 → Locals 1 j (fresh_locals worker_locals (pos j ∷ []))
first_locals j less = record {
  rows = rows;
  written = λ x l. (
    pos j,
    subst (λ y. slice_get (fresh_locals worker_locals (pos j ∷ [])) y ≡ Some (Some (pos j) ∷ []))
        (let z : 0 ≡ x = omega (arith, l) in z) first,
  );
  argument = first;
  id = λ two. absurd (omega (arith, two));
}
  where
    first : slice_get (fresh_locals worker_locals (pos j ∷ [])) 0 ≡ Some (Some (pos j) ∷ [])
    first = ap (λ (v : ℤ). Some (Some v ∷ [])) (small_long j less)

    rows : (x : ℕ) → x < 6 → (o : Option ℤ) × (slice_get (fresh_locals worker_locals (pos j ∷ [])) x ≡ Some (o ∷ []))
    rows zero l = (Some (pos j), first)
    rows (suc zero) l = (None, refl)
    rows (suc (suc zero)) l = (None, refl)
    rows (suc (suc (suc zero))) l = (None, refl)
    rows (suc (suc (suc (suc zero)))) l = (None, refl)
    rows (suc (suc (suc (suc (suc zero))))) l = (None, refl)
    rows (suc (suc (suc (suc (suc (suc x)))))) l = absurd (omega (arith, l))

module _ (lines : List Line) (threads : ℕ) (few : threads ≤ 63) (worker main : Function) (sum elements : GlobalVariable) (w : IsWorker threads lines worker)
    (is_main : IsMain threads main)
    (is_sum : IsUnsigned 1 sum) (are_elements : IsUnsigned threads elements) where
  abbrev P : Program
  P = made worker main sum elements threads

  abbrev at : ℕ → ℕ
  at = is_main.at

  -- ---- where threads begin

  begins : (m : MutexState) (j : ℕ) → j < threads → m ≢ Owned (suc j) → WorkerAt threads m j (begun worker 0 (pos j ∷ []))
  begins m j less free =
      Stands (fresh_locals worker_locals (pos j ∷ [])) (Do worker.body ∷ []) (opening w.at ++ w.middle ++ closing threads w.at) 1 false
      (ap (λ (ls : List LocalVariable). worker_frame (fresh_locals ls (pos j ∷ [])) (settled Onward (Do worker.body ∷ [])) []) w.locals)
      ([], sym (append-nil _ ∙ w.body), refl) (worker_safe threads w.at lines w.middle w.of_lines) (first_locals j (omega (arith, less, few))) free

  abbrev first_parts : Parts
  first_parts = record {
    total = pos 0;
    own = replicate threads (pos 0);
    frame = begun main 1 [];
    workers = replicate threads Unused;
    mutex = Uninitialised;
    output = [];
  }

  values_of : (n : ℕ) (g : GlobalVariable) → IsUnsigned n g → first_values g ≡ replicate n (pos 0)
  values_of n g is =
      ap (λ (vs : List ℤ). vs ++ replicate (g.length - length vs) (pos 0)) is.initial
      ∙ ap (λ (k : ℕ). replicate k (pos 0)) (let e = is.length_is in let same : g.length - 0 ≡ n = omega (arith, e) in same)

  start_is : start P ≡ state_of first_parts
  start_is =
      ap
      (λ (first : List ℤ). record (start P) { globals = first ∷ first_values elements ∷ [] }) (values_of 1 sum is_sum)
      ∙ ap (λ (rest : List ℤ). record (start P) { globals = (pos 0 ∷ []) ∷ rest ∷ [] }) (values_of threads elements are_elements)
      ∙ ap (λ (n : ℕ). record (state_of first_parts) { slots = Running (begun main 1 [] ∷ []) ∷ replicate n Unused })
      (let e : 0 + threads ≡ threads = omega arith in e)

  length_copies : {A : Type 0} (n : ℕ) (x : A) → length (replicate n x) ≡ n
  length_copies zero x = refl
  length_copies (suc n) x = ap suc (length_copies n x)

  abbrev main_frame_of : Cells → Frame
  main_frame_of locals = record { function = 1; locals = locals; work = settled Onward (Do main.body ∷ []); kept = [] }

  first_live : Live threads at first_parts
  first_live = record {
    own_length = length_copies threads (pos 0);
    workers_length = length_copies threads Unused;
    lo = 0;
    hi = 0;
    ready = false;
    main =
        Declaring None (Do main.body ∷ [])
        (ap (λ (ls : List LocalVariable). main_frame_of (fresh_locals ls [])) is_main.locals)
        ([], sym (append-nil _ ∙ is_main.body), refl) refl refl refl;
    mutex = refl;
    needs = λ _. omega arith;
    slots = λ j less. Idle (inr (omega arith)) (copies_there threads Unused j less);
    owner = λ i e. absurd cc;
  }

  -- ---- where they go

  -- the next step of any thread
  next : (p : Parts) → Live threads at p → (i : ℕ) → Outcome threads at P p i
  next p live zero = main_goes worker main sum elements threads at few begins p live
  next p live (suc j) =
      ⊎_elim (λ (less : j < threads). worker_goes worker main sum elements threads at few p live j less) (λ (more : threads ≤ j). past more)
      (cases_lt j threads)
    where
      past : threads ≤ j → Outcome threads at P p (suc j)
      past more =
          let number = live.workers_length in
          Waits waits.NotRunning (ap (λ (o : Option Slot). slot_step P (state_of p) (suc j) o) (slice_get_past p.workers j (omega (arith, number, more))))

  blocked_stays : (cause : BlockedCause) (list : List ℕ) (t : State) → and_steps P (Blocks cause) list ≡ Steps t → ⊥
  blocked_stays cause [] t e = cc
  blocked_stays cause (i ∷ list) t e = cc

  ended_stays : (s : State) (i : ℕ) → ((n : ℕ) (frames : List Frame) → slice_get s.slots n ≡ Some (Running frames) → ⊥) → step P s i ≡ Blocks waits.NotRunning
  ended_stays s i quiet = go (slice_get s.slots i) refl
    where
      go : (o : Option Slot) → slice_get s.slots i ≡ o → slot_step P s i o ≡ Blocks waits.NotRunning
      go None e = refl
      go (Some Unused) e = refl
      go (Some Finished) e = refl
      go (Some (Running frames)) e = absurd (quiet i frames e)

  reaches : (list : List ℕ) (s t : State) → Invariant threads at s → and_steps P (Steps s) list ≡ Steps t → Invariant threads at t
  reaches [] s t holds e = let same : s ≡ t = cc in subst (λ x. Invariant threads at x) same holds
  reaches (i ∷ list) s t (GoesOn p is live) e = go (next p live i) (λ u holds more. reaches list u t holds more)
    where
      go : Outcome threads at P p i → ((u : State) → Invariant threads at u → and_steps P (Steps u) list ≡ Steps t → Invariant threads at t) →
          Invariant threads at t
      go (Waits cause q) later = absurd (blocked_stays cause list t (ap (λ o. and_steps P o list) (sym q ∙ ap (λ x. step P x i) (sym is)) ∙ e))
      go (Goes u q holds allowed) later = later u holds (ap (λ o. and_steps P o list) (sym q ∙ ap (λ x. step P x i) (sym is)) ∙ e)
  reaches (i ∷ list) s t (Ended ended quiet) e = absurd (blocked_stays waits.NotRunning list t (ap (λ o. and_steps P o list) (sym (ended_stays s i quiet)) ∙ e))

  reached : (list : List ℕ) (s : State) → after P list ≡ Steps s → Invariant threads at s
  reached list s e = reaches list (start P) s (GoesOn first_parts start_is first_live) e

  defined : (list : List ℕ) (s : State) (i offset : ℕ) (cause : UndefinedCause) → after P list ≡ Steps s → s.ended ≡ false → step P s i ≢ Undefines offset cause
  defined list s i offset cause e on q = go (reached list s e)
    where
      at_parts : (p : Parts) → step P (state_of p) i ≡ Undefines offset cause → Outcome threads at P p i → ⊥
      at_parts p x (Waits why y) = let no = sym y ∙ x in cc
      at_parts p x (Goes t y holds allowed) = let no = sym y ∙ x in cc

      go : Invariant threads at s → ⊥
      go (GoesOn p is live) = at_parts p (ap (λ x. step P x i) (sym is) ∙ q) (next p live i)
      go (Ended ended quiet) = let no = sym ended ∙ on in cc

  -- ---- who touches what

  -- what a thread touches is allowed to it
  allowed_at : (p : Parts) (i : ℕ) → Outcome threads at P p i → (a : Touch) → Contains (footprint P (state_of p) i) a →
      IsAllowed threads at p i a.place × Contains (thread_touched P (state_of p) (slice_get (state_of p).slots i)) a
  allowed_at p i (Waits cause q) a c =
      let none : Contains [] a = subst (λ o. Contains (if_taken o (thread_touched P (state_of p) (slice_get (state_of p).slots i))) a) q c in
      let l = none.1 in absurd (omega (arith, l))
  allowed_at p i (Goes t q holds allowed) a c =
      let some : Contains (thread_touched P (state_of p) (slice_get (state_of p).slots i)) a =
      subst (λ o. Contains (if_taken o (thread_touched P (state_of p) (slice_get (state_of p).slots i))) a) q c in
      (all_in (thread_touched P (state_of p) (slice_get (state_of p).slots i)) a allowed some, some)
    where
      all_in : (xs : List Touch) (b : Touch) → AreAllowed threads at p i xs → Contains xs b → IsAllowed threads at p i b.place
      all_in [] b h (k, l, e) = absurd (omega (arith, l))
      all_in (x ∷ xs) b h (zero, l, e) = subst (λ (y : Touch). IsAllowed threads at p i y.place) e h.0
      all_in (x ∷ xs) b h (suc k, l, e) = all_in xs b h.1 (k, (omega (arith, l)), e)

  -- main and a worker that has data to touch
  not_with_main : (p : Parts) (j : ℕ) (a : Touch) → ((n : ℕ) → n < threads → slice_get p.workers n ≡ Some Unused) → length p.workers ≡ threads →
      Contains (thread_touched P (state_of p) (slice_get p.workers j)) a → ⊥
  not_with_main p j a idle number c =
      ⊎_elim
      (λ (less : j < threads). nothing (Some Unused) (idle j less) refl)
      (λ (more : threads ≤ j). nothing None (slice_get_past p.workers j (omega (arith, number, more))) refl)
      (cases_lt j threads)
    where
      nothing : (o : Option Slot) → slice_get p.workers j ≡ o → thread_touched P (state_of p) o ≡ [] → ⊥
      nothing o is none =
          let empty : Contains [] a = subst (λ xs. Contains xs a) (ap (thread_touched P (state_of p)) is ∙ none) c in
          let l = empty.1 in omega (arith, l)

  two_workers : (p : Parts) (j k : ℕ) (place : Location) → j ≢ k → IsAllowed threads at p (suc j) place → IsAllowed threads at p (suc k) place → ⊥
  two_workers p j k place apart (inl x) (inl y) = let both = sym x ∙ y in apart (ap (λ (l : Location). l.index) both)
  two_workers p j k place apart (inl x) (inr y) = let v = ap (λ (l : Location). l.variable) x in let z = y.0 in omega (arith, v, z)
  two_workers p j k place apart (inr x) (inl y) = let v = ap (λ (l : Location). l.variable) y in let z = x.0 in omega (arith, v, z)
  two_workers p j k place apart (inr x) (inr y) = let both = sym x.1 ∙ y.1 in let same : suc j ≡ suc k = cc in apart (omega (arith, same))

  calm_at : (p : Parts) → Live threads at p → (i j : ℕ) (place : Location) → Races P (state_of p) i j place → ⊥
  calm_at p live i j place r =
      let a = allowed_at p i (next p live i) r.first r.first_in in
      let b = allowed_at p j (next p live j) r.second r.second_in in
      go i j r.apart (subst (λ l. IsAllowed threads at p i l) r.first_place a.0) (subst (λ l. IsAllowed threads at p j l) r.second_place b.0) a.1 b.1
    where
      go : (m n : ℕ) → m ≢ n → IsAllowed threads at p m place → IsAllowed threads at p n place → Contains
          (thread_touched P (state_of p) (slice_get (state_of p).slots m)) r.first →
          Contains (thread_touched P (state_of p) (slice_get (state_of p).slots n)) r.second → ⊥
      go zero zero apart x y c d = apart refl
      go zero (suc n) apart x y c d = not_with_main p n r.second x live.workers_length d
      go (suc m) zero apart x y c d = not_with_main p m r.first y live.workers_length c
      go (suc m) (suc n) apart x y c d = two_workers p m n place (λ e. apart (ap suc e)) x y

  calm : (list : List ℕ) (s : State) (i j : ℕ) (place : Location) → after P list ≡ Steps s → s.ended ≡ false → Races P s i j place → ⊥
  calm list s i j place e on r = go (reached list s e)
    where
      go : Invariant threads at s → ⊥
      go (GoesOn p is live) = calm_at p live i j place (subst (λ x. Races P x i j place) is r)
      go (Ended ended quiet) = let no = sym ended ∙ on in cc

  pub good : IsGood P
  good = record { defined = defined; calm = calm; single = ids_are_single P defined }

-- a program by its parts
same_program : (P : Program) (worker main : Function) (sum elements : GlobalVariable) (threads : ℕ) → P.functions ≡ worker ∷ main ∷ [] → P.main ≡ 1 →
    P.globals ≡ sum ∷ elements ∷ [] →
    P.threads ≡ record { length = threads; routine = Some 0 } ∷ [] → P.mutexes ≡ record { length = 1; initialised = false } ∷ [] → P.barriers ≡ [] →
    made worker main sum elements threads ≡ P
same_program P worker main sum elements threads functions main_number globals ids mutexes barriers =
    sym
    (ap (λ x. record P { functions = x }) functions
    ∙ ap (λ x. record P { functions = worker ∷ main ∷ []; main = x }) main_number
    ∙ ap (λ x. record P { functions = worker ∷ main ∷ []; main = 1; globals = x }) globals
    ∙ ap (λ x. record P { functions = worker ∷ main ∷ []; main = 1; globals = sum ∷ elements ∷ []; threads = x }) ids
    ∙ ap (λ x. record (made worker main sum elements threads) { mutexes = x; barriers = P.barriers }) mutexes
    ∙ ap (λ x. record (made worker main sum elements threads) { barriers = x }) barriers)

pub generated_is_good : GeneratedIsGood
generated_is_good threads lines P some few g =
    subst IsGood (same_program P g.worker g.main g.sum g.elements threads g.functions g.main_number g.globals g.thread_ids g.mutexes g.barriers)
    (good lines threads few g.worker g.main g.sum g.elements g.is_worker g.is_main g.is_sum g.are_elements)
