-- Each step of main is defined or waits, and leaves a state of the program.
use Rattle.std.proofs.Common.{◌≡◌, ◌≢◌, ℕ, zero, suc, ◌+◌, ◌<◌, ◌≤◌, List, [], ◌∷◌, ◌++◌, map, length, refl, ap, sym, ◌∙◌, subst, ⊎_elim, inl, inr, arith}
use Rattle.std.specs.Prelude.{Bool, true, false, if◌then◌else◌, nat_lt, ℤ, pos, Option, Some, None, slice_get, slice_set}
use Rattle.std.specs.List.{list_all}
use Rattle.std.proofs.lemmas.Bool.{lt-ltb, ne_eqb, cases_lt, ltb-true, ltb-false}
use Rattle.std.proofs.lemmas.List.{length-set}
use Rattle.std.proofs.lemmas.Option.{slice_get_past}
use Rattle.lists.proofs.Places.{get_there}
use Rattle.hls_ints.specs.Types.{int_type, long_int, wrapped}
use Rattle.c_program.specs.declared.tree.Storage.TheVariants.{Automatic, Static}
use Rattle.c_program.specs.Tree.{Statement, Function, GlobalVariable, Program}
use Rattle.thread_semantics.specs.declared.cause.BlockedCause.TheVariants as waits
use Rattle.thread_semantics.specs.declared.cause.UndefinedCause.TheVariants.{Index, ThreadId, LiveThread}
use Rattle.thread_semantics.specs.declared.object.MutexState.{MutexState}
use Rattle.thread_semantics.specs.declared.object.MutexState.TheVariants.{Uninitialised, Free, Owned}
use Rattle.thread_semantics.specs.Memory.{Location, Memory, Evaluation, Gives, Fails, after_reads, and_then}
use Rattle.thread_semantics.specs.Value.{checked_index, load, global_value}
use Rattle.thread_semantics.specs.Work.{Work, Do, Next, Turn, Perform, Act, Onward, settled, decided}
use Rattle.thread_semantics.specs.State.{Frame, Slot, Unused, Running, Finished, State, begun}
use Rattle.thread_semantics.specs.Move.{Move, move, stored, prepared}
use Rattle.thread_semantics.specs.Step.{Steps, Blocks, Undefines, with_slot, created, joined}
use Rattle.thread_semantics.specs.Step.{mutex_initialised, mutex_destroyed, printed as text_printed, is_unused, moved, step}
use Rattle.thread_semantics.specs.Races.{read_of, touched}
use Rattle.race_model.proofs.Sound.{unused_at}
use Rattle.generated_good.proofs.FirstStatement.{Left, first_of, IsPlain, settles}
use Rattle.generated_good.proofs.CountedTurns.{small_int, tested, raised_by_one}
use Rattle.generated_good.proofs.States.{made, Parts, globals_of, state_of, WorkerAt, WorkerSlot, Idle, Over, Works, main_frame, Round, Creates, Joins}
use Rattle.generated_good.proofs.States.{Prints, format, step_at, call_at, body_of, act_of_round, round_statement, step_of, loop_of, asked_work, initialisation}
use Rattle.generated_good.proofs.States.{total_print, destruction, last_return}
use Rattle.generated_good.proofs.States.{behind, IsCount, AreOperands, MainAt, Declaring, Naming, Initialising, Beginning, Testing, Calling, Acting}
use Rattle.generated_good.proofs.States.{Stepping, Summing, Showing, Clearing, Destroying, Returning, IsReady, HasOwner, Live, GoesOn, Ended, AreAllowed, Outcome, Waits, Goes}
use Rattle.generated_good.proofs.NextStates.{slots_changed, owner_kept, main_changed, main_goes_on}
use Rattle.generated_good.proofs.WorkerSteps.{small_long}

all_idle : (slots : List Slot) (n : ℕ) → length slots ≡ n → ((j : ℕ) → j < n → slice_get slots j ≡ Some Unused) → list_all is_unused slots ≡ true
all_idle [] n number idle = refl
all_idle (x ∷ slots) n number idle =
    let first : Some x ≡ Some Unused = idle 0 (omega (arith, number)) in
    let same : x ≡ Unused = cc in
    let rest : list_all is_unused slots ≡ true = all_idle slots (length slots) refl (λ j l. idle (suc j) (omega (arith, number, l))) in
    subst (λ y. list_all is_unused (y ∷ slots) ≡ true) (sym same) rest

module _ (worker main : Function) (sum elements : GlobalVariable) (threads : ℕ) (at : ℕ → ℕ) (few : threads ≤ 63)
    (begins : (m : MutexState) (j : ℕ) → j < threads → m ≢ Owned (suc j) → WorkerAt threads m j (begun worker 0 (pos j ∷ []))) where
  abbrev P : Program
  P = made worker main sum elements threads

  module _ (p : Parts) (live : Live threads at p) where
    abbrev Result : Type 0
    Result = Outcome threads at P p 0

    abbrev Main : Frame → Type 0
    Main f = MainAt threads at live.lo live.hi live.ready f

    abbrev move_of : Frame → Move
    move_of f = move P (globals_of p) (f ∷ [])

    does : (f : Frame) (mv : Move) → p.frame ≡ f → move_of f ≡ mv → step P (state_of p) 0 ≡ moved P (state_of p) 0 mv
    does f mv is e = ap (λ (x : Frame). moved P (state_of p) 0 (move_of x)) is ∙ ap (λ (x : Move). moved P (state_of p) 0 x) e

    touches : (f : Frame) (mv : Move) → p.frame ≡ f → move_of f ≡ mv → AreAllowed threads at p 0 (touched mv) → AreAllowed threads at p 0
        (touched (move_of p.frame))
    touches f mv is e a =
        subst (λ (x : Frame). AreAllowed threads at p 0 (touched (move_of x))) (sym is) (subst (λ (x : Move). AreAllowed threads at p 0 (touched x)) (sym e) a)

    -- a step that is no act, and writes no data
    goes_on : (f g : Frame) (reads : List Location) → p.frame ≡ f → move_of f ≡ Move.Moves (g ∷ []) reads None → Main g → AreAllowed threads at p 0
        (map read_of reads ++ []) → Result
    goes_on f g reads is e there allowed =
        Goes (state_of (record p { frame = g })) (does f (Move.Moves (g ∷ []) reads None) is e)
        (GoesOn (record p { frame = g }) refl (main_goes_on threads at p live g p.output there))
        (touches f (Move.Moves (g ∷ []) reads None) is e allowed)

    goes_by : (f g : Frame) → p.frame ≡ f → move_of f ≡ Move.Moves (g ∷ []) [] None → Main g → Result
    goes_by f g is e there = goes_on f g [] is e there tt

    -- the frame, once its work is settled
    settled_frame : (i : Option ℤ) (k : List Work) (s : Statement) (ss : List Statement) → IsPlain s → Left k (s ∷ ss) → p.frame ≡ main_frame i
        (settled Onward k) [] →
        ((k2 : List Work) → Left k2 ss → p.frame ≡ main_frame i (first_of s k2) [] → Result) → Result
    settled_frame i k s ss plain left is next =
        let o = settles k s ss left plain in
        next o.behind o.left (is ∙ ap (λ (work : List Work). main_frame i work []) o.is)

    -- where each worker is joined, none runs
    idle : live.lo ≡ threads → (j : ℕ) → j < threads → slice_get p.workers j ≡ Some Unused
    idle lo j less = go (live.slots j less)
      where
        go : WorkerSlot threads live.lo live.hi p.mutex j (slice_get p.workers j) → slice_get p.workers j ≡ Some Unused
        go (Idle away is) = is
        go (Over from to is) = absurd (omega (arith, from, lo, less))
        go (Works from to f is there) = absurd (omega (arith, from, lo, less))

    ready_is : (b : Bool) → live.ready ≡ b → IsReady threads at b p.mutex
    ready_is b e = subst (λ x. IsReady threads at x p.mutex) e live.mutex

    -- main after an act
    abbrev after_act : Option ℤ → List Work → Frame
    after_act i k = main_frame i (settled Onward k) []

    abbrev acting_state : Option ℤ → List Work → State
    acting_state i k = with_slot (state_of p) 0 (Running (after_act i k ∷ []))

    -- ---- before and behind the loops

    declaring : (i : Option ℤ) (k : List Work) → p.frame ≡ main_frame i (settled Onward k) [] →
        Left k (Statement.Declare (at 0) 0 0 ∷ initialisation threads at ∷ round_statement threads at Creates ∷ behind threads at Creates) →
        live.lo ≡ 0 → live.hi ≡ 0 → live.ready ≡ false → Result
    declaring i k is left lo hi off =
        settled_frame i k (Statement.Declare (at 0) 0 0) (initialisation threads at ∷ round_statement threads at Creates ∷ behind threads at Creates)
        (λ _ _. refl) left is
        (λ k2 left2 is2. goes_by (main_frame i (Do (Statement.Declare (at 0) 0 0) ∷ k2) []) (main_frame None (settled Onward k2) []) is2 refl
        (Naming None k2 refl left2 lo hi off))

    naming : (i : Option ℤ) (k : List Work) → p.frame ≡ main_frame i (settled Onward k) [] →
        Left k (initialisation threads at ∷ round_statement threads at Creates ∷ behind threads at Creates) → live.lo ≡ 0 → live.hi ≡ 0 → live.ready ≡ false →
        Result
    naming i k is left lo hi off =
        settled_frame i k (initialisation threads at) (round_statement threads at Creates ∷ behind threads at Creates) (λ _ _. refl) left is
        (λ k2 left2 is2. goes_by (main_frame i (Do (initialisation threads at) ∷ k2) [])
        (main_frame i (Perform (at 1) Act.MutexInit ∷ k2) (pos 0 ∷ [])) is2 refl
        (Initialising i k2 refl left2 lo hi off))

    initialising : (i : Option ℤ) (k : List Work) → p.frame ≡ main_frame i (Perform (at 1) Act.MutexInit ∷ k) (pos 0 ∷ []) →
        Left k (round_statement threads at Creates ∷ behind threads at Creates) → live.lo ≡ 0 → live.hi ≡ 0 → live.ready ≡ false → Result
    initialising i k is left lo hi off =
        let f = main_frame i (Perform (at 1) Act.MutexInit ∷ k) (pos 0 ∷ []) in
        let mv = Move.Acts (at 1) Act.MutexInit (pos 0 ∷ []) (after_act i k ∷ []) in
        Goes (state_of (record p { frame = after_act i k; mutex = Free }))
        (does f mv is refl ∙ ap (λ (m : MutexState). mutex_initialised (acting_state i k) (at 1) 0 (Some m)) lost)
        (GoesOn (record p { frame = after_act i k; mutex = Free }) refl
        (main_changed threads at p live (after_act i k) true Free p.output (Beginning Creates i k refl left (lo, hi) refl) (λ q. cc) (λ q. absurd cc)
        (λ j. record { onward = λ q. absurd (let no = sym lost ∙ q in cc); back = λ q. absurd cc }) (λ n q. absurd cc)))
        (touches f mv is refl tt)
      where
        lost : p.mutex ≡ Uninitialised
        lost = ready_is false off

    summing : (i : Option ℤ) (k : List Work) → p.frame ≡ main_frame i (settled Onward k) [] → Left k (behind threads at Prints) →
        live.lo ≡ threads → live.hi ≡ threads → live.ready ≡ true → Result
    summing i k is left lo hi on =
        settled_frame i k (total_print threads at) (destruction threads at ∷ last_return threads at ∷ []) (λ _ _. refl) left is
        (λ k2 left2 is2. goes_on (main_frame i (Do (total_print threads at) ∷ k2) []) (main_frame i (Perform (at 14) (Act.Print format) ∷ k2) (p.total ∷ []))
        (record { variable = 0; index = 0 } ∷ [])
        is2 refl (Showing i k2 (p.total ∷ []) refl left2 lo hi on) (idle lo, tt))

    showing : (i : Option ℤ) (k : List Work) (kept : List ℤ) → p.frame ≡ main_frame i (Perform (at 14) (Act.Print format) ∷ k) kept →
        Left k (destruction threads at ∷ last_return threads at ∷ []) → live.lo ≡ threads → live.hi ≡ threads → live.ready ≡ true → Result
    showing i k kept is left lo hi on =
        let f = main_frame i (Perform (at 14) (Act.Print format) ∷ k) kept in
        let g = main_frame i (settled Onward k) [] in
        let mv = Move.Acts (at 14) (Act.Print format) kept (g ∷ []) in
        Goes (state_of (record p { frame = g; output = p.output ++ text_printed format kept })) (does f mv is refl)
        (GoesOn (record p { frame = g; output = p.output ++ text_printed format kept }) refl
        (main_goes_on threads at p live g (p.output ++ text_printed format kept) (Clearing i k refl left lo hi on)))
        (touches f mv is refl tt)

    clearing : (i : Option ℤ) (k : List Work) → p.frame ≡ main_frame i (settled Onward k) [] → Left k (destruction threads at ∷ last_return threads at ∷ []) →
        live.lo ≡ threads → live.hi ≡ threads → live.ready ≡ true → Result
    clearing i k is left lo hi on =
        settled_frame i k (destruction threads at) (last_return threads at ∷ []) (λ _ _. refl) left is
        (λ k2 left2 is2. goes_by (main_frame i (Do (destruction threads at) ∷ k2) [])
        (main_frame i (Perform (at 15) Act.MutexDestroy ∷ k2) (pos 0 ∷ [])) is2 refl
        (Destroying i k2 refl left2 lo hi on))

    destroying : (i : Option ℤ) (k : List Work) → p.frame ≡ main_frame i (Perform (at 15) Act.MutexDestroy ∷ k) (pos 0 ∷ []) → Left k
        (last_return threads at ∷ []) →
        live.lo ≡ threads → live.hi ≡ threads → live.ready ≡ true → Result
    destroying i k is left lo hi on =
        let f = main_frame i (Perform (at 15) Act.MutexDestroy ∷ k) (pos 0 ∷ []) in
        let mv = Move.Acts (at 15) Act.MutexDestroy (pos 0 ∷ []) (after_act i k ∷ []) in
        Goes (state_of (record p { frame = after_act i k; mutex = Uninitialised }))
        (does f mv is refl ∙ ap (λ (m : MutexState). mutex_destroyed (acting_state i k) (at 15) 0 (Some m)) unheld)
        (GoesOn (record p { frame = after_act i k; mutex = Uninitialised }) refl
        (main_changed threads at p live (after_act i k) false Uninitialised p.output (Returning i k refl left lo hi refl) refl (λ q. omega (arith, lo, hi))
        (λ j. record { onward = λ q. absurd (let no = sym unheld ∙ q in cc); back = λ q. absurd cc }) (λ n q. absurd cc)))
        (touches f mv is refl tt)
      where
        not_owned : (n : ℕ) → HasOwner threads at p.workers n → ⊥
        not_owned n o =
            ⊎_elim
            (λ (less : o.number < threads). (let no = sym (idle lo o.number less) ∙ o.runs in unlike no))
            (λ (more : threads ≤ o.number). (let number = live.workers_length in
            let no = sym (slice_get_past p.workers o.number (omega (arith, number, more))) ∙ o.runs in unthere no))
            (cases_lt o.number threads)
          where
            unlike : Some Unused ≡ Some (Running o.frames) → ⊥
            unlike e = cc

            unthere : None ≡ Some (Running o.frames) → ⊥
            unthere e = cc

        go : (m : MutexState) → p.mutex ≡ m → p.mutex ≡ Free
        go Uninitialised e = absurd (ready_is true on e)
        go Free e = e
        go (Owned n) e = absurd (not_owned n (live.owner n e))

        unheld : p.mutex ≡ Free
        unheld = go p.mutex refl

    returning : (i : Option ℤ) (k : List Work) → p.frame ≡ main_frame i (settled Onward k) [] → Left k (last_return threads at ∷ []) → live.lo ≡ threads →
        Result
    returning i k is left lo =
        settled_frame i k (last_return threads at) [] (λ _ _. refl) left is
        (λ k2 left2 is2.
        Goes (record (state_of p) { slots = Finished ∷ p.workers; ended = true })
        (does (main_frame i (Do (last_return threads at) ∷ k2) []) (Move.Ends (at 16) []) is2 refl
        ∙ ap (λ (b : Bool). if b then Steps (record (state_of p) { slots = Finished ∷ p.workers; ended = true }) else Undefines (at 16) LiveThread) none)
        (Ended refl quiet)
        (touches (main_frame i (Do (last_return threads at) ∷ k2) []) (Move.Ends (at 16) []) is2 refl tt))
      where
        none : list_all is_unused p.workers ≡ true
        none = all_idle p.workers threads live.workers_length (idle lo)

        quiet : (n : ℕ) (frames : List Frame) → slice_get (Finished ∷ p.workers) n ≡ Some (Running frames) → ⊥
        quiet zero frames e = cc
        quiet (suc n) frames e = unused_at (Finished ∷ p.workers) n frames none e

    -- ---- the loops

    abbrev turn_frame : Round → ℕ → List Work → Frame
    turn_frame c n work = main_frame (Some (pos n)) work []

    abbrev memory_at : ℕ → Memory
    memory_at n = record { locals = (Some (pos n) ∷ []) ∷ []; globals = globals_of p }

    beginning : (c : Round) (i : Option ℤ) (k : List Work) → p.frame ≡ main_frame i (settled Onward k) [] → Left k
        (round_statement threads at c ∷ behind threads at c) →
        IsCount threads at c 0 live.lo live.hi → live.ready ≡ true → Result
    beginning c i k is left count on =
        settled_frame i k (round_statement threads at c) (behind threads at c) (λ _ _. refl) left is
        (λ k2 left2 is2.
        goes_by (main_frame i (first_of (round_statement threads at c) k2) []) (turn_frame c 0 (asked_work threads at c k2)) is2
        (ap (λ (v : ℤ). Move.Moves (main_frame (Some v) (asked_work threads at c k2) [] ∷ []) [] None) (small_int 0 (omega arith)))
        (Testing c 0 k2 refl left2 (omega arith) count on))

    -- behind a loop, by which it is
    after_loop : (c : Round) (n : ℕ) (k : List Work) → Left k (behind threads at c) → n ≡ threads → IsCount threads at c n live.lo live.hi → live.ready ≡ true →
        Main (main_frame (Some (pos n)) (settled Onward k) [])
    after_loop Creates n k left all count on = Beginning Joins (Some (pos n)) k refl left (count.0, count.1 ∙ all) on
    after_loop Joins n k left all count on = Beginning Prints (Some (pos n)) k refl left (count.0 ∙ all, count.1) on
    after_loop Prints n k left all count on = Summing (Some (pos n)) k refl left count.0 count.1 on

    body_first : (c : Round) (k : List Work) →
        settled Onward (Do (Statement.Block (body_of threads at c)) ∷ Next (loop_of threads at c) ∷ k) ≡ Do (body_of threads at c) ∷ Next
        (loop_of threads at c) ∷ k
    body_first Creates k = refl
    body_first Joins k = refl
    body_first Prints k = refl

    testing : (c : Round) (n : ℕ) (k : List Work) → p.frame ≡ turn_frame c n (asked_work threads at c k) → Left k (behind threads at c) → n ≤ threads →
        IsCount threads at c n live.lo live.hi → live.ready ≡ true → Result
    testing c n k is left most count on = go (nat_lt n threads) refl
      where
        goes_to : (b : Bool) → nat_lt n threads ≡ b →
            move_of (turn_frame c n (asked_work threads at c k)) ≡ Move.Moves (turn_frame c n (decided b (Turn (loop_of threads at c) ∷ k)) ∷ []) [] None
        goes_to b e =
            ap (λ (truth : Bool). Move.Moves (turn_frame c n (decided truth (Turn (loop_of threads at c) ∷ k)) ∷ []) [] None)
            (tested n threads (omega (arith, most, few)) (omega (arith, few)) ∙ e)

        go : (b : Bool) → nat_lt n threads ≡ b → Result
        go true e =
            goes_by (turn_frame c n (asked_work threads at c k)) (turn_frame c n (Do (body_of threads at c) ∷ Next (loop_of threads at c) ∷ k)) is
            (goes_to true e ∙ ap (λ (work : List Work). Move.Moves (turn_frame c n work ∷ []) [] None) (body_first c k))
            (Calling c n k refl left (ltb-true n threads e) count on)
        go false e =
            let more = ltb-false n threads e in
            goes_by (turn_frame c n (asked_work threads at c k)) (turn_frame c n (settled Onward k)) is (goes_to false e)
            (after_loop c n k left (omega (arith, more, most)) count on)

    stepping : (c : Round) (n : ℕ) (k : List Work) → p.frame ≡ turn_frame c n (Do (step_of threads at c) ∷ asked_work threads at c k) → Left k
        (behind threads at c) → n < threads →
        IsCount threads at c (suc n) live.lo live.hi → live.ready ≡ true → Result
    stepping c n k is left less count on =
        let f = turn_frame c n (Do (step_of threads at c) ∷ asked_work threads at c k) in
        goes_by f (turn_frame c (suc n) (asked_work threads at c k)) is
        (ap
        (λ (x : Evaluation ℤ). stored (step_at threads at c)
        (after_reads [] (after_reads [] (after_reads []
        (and_then x (λ r. Gives (record { target = record { storage = Automatic; variable = 0; index = 0; ty = int_type }; value = r }) [])))))
        f [] (asked_work threads at c k))
        (raised_by_one n (omega (arith, less, few)))
        ∙ ap (λ (v : ℤ). Move.Moves (main_frame (Some v) (asked_work threads at c k) [] ∷ []) [] None) (small_int (suc n) (omega (arith, less, few))))
        (Testing c (suc n) k refl left (omega (arith, less)) count on)

    index_inside : (n : ℕ) → n < threads → checked_index threads (pos n) ≡ Gives n []
    index_inside n less = ap (λ (b : Bool). if b then Gives n [] else Fails Index) (lt-ltb n threads less)

    calling : (c : Round) (n : ℕ) (k : List Work) → p.frame ≡ turn_frame c n (Do (body_of threads at c) ∷ Next (loop_of threads at c) ∷ k) → Left k
        (behind threads at c) → n < threads →
        IsCount threads at c n live.lo live.hi → live.ready ≡ true → Result
    calling Creates n k is left less count on =
        let rest = Next (loop_of threads at Creates) ∷ k in
        let one : 1 + n ≡ suc n = omega arith in
        goes_by (turn_frame Creates n (Do (body_of threads at Creates) ∷ rest))
        (main_frame (Some (pos n)) (Perform (at 5) (Act.Create 0) ∷ rest) (pos (suc n) ∷ pos n ∷ [])) is
        (ap
        (λ (x : Evaluation ℕ). prepared (at 5) (Act.Create 0)
        (and_then (and_then (Gives (pos n) []) (λ _. and_then x (λ j. Gives (pos (1 + j)) [])))
        (λ m. and_then (Gives (wrapped long_int (pos n)) []) (λ v. Gives (m ∷ v ∷ []) [])))
        (turn_frame Creates n (Do (body_of threads at Creates) ∷ rest)) [] rest)
        (index_inside n less)
        ∙ ap (λ (m : ℕ). Move.Moves (main_frame (Some (pos n)) (Perform (at 5) (Act.Create 0) ∷ rest) (pos m ∷ wrapped long_int (pos n) ∷ []) ∷ []) [] None) one
        ∙ ap (λ (v : ℤ). Move.Moves (main_frame (Some (pos n)) (Perform (at 5) (Act.Create 0) ∷ rest) (pos (suc n) ∷ v ∷ []) ∷ []) [] None)
        (small_long n (omega (arith, less, few))))
        (Acting Creates n k (pos (suc n) ∷ pos n ∷ []) refl refl left less count on)
    calling Joins n k is left less count on =
        let rest = Next (loop_of threads at Joins) ∷ k in
        let one : 1 + n ≡ suc n = omega arith in
        goes_by (turn_frame Joins n (Do (body_of threads at Joins) ∷ rest)) (main_frame (Some (pos n)) (Perform (at 9) Act.Join ∷ rest) (pos (suc n) ∷ [])) is
        (ap
        (λ (x : Evaluation ℕ). prepared (at 9) Act.Join
        (and_then (and_then (Gives (pos n) []) (λ _. and_then x (λ j. Gives (pos (1 + j)) []))) (λ m. Gives (m ∷ []) []))
        (turn_frame Joins n (Do (body_of threads at Joins) ∷ rest)) [] rest)
        (index_inside n less)
        ∙ ap (λ (m : ℕ). Move.Moves (main_frame (Some (pos n)) (Perform (at 9) Act.Join ∷ rest) (pos m ∷ []) ∷ []) [] None) one)
        (Acting Joins n k (pos (suc n) ∷ []) refl refl left less count on)
    calling Prints n k is left less count on =
        let rest = Next (loop_of threads at Prints) ∷ k in
        let number = live.own_length in
        let w = get_there p.own n (omega (arith, less, number)) in
        goes_on (turn_frame Prints n (Do (body_of threads at Prints) ∷ rest)) (main_frame (Some (pos n)) (Perform (at 13) (Act.Print format) ∷ rest) (w.0 ∷ []))
        (record { variable = 1; index = n } ∷ []) is
        (ap
        (λ (x : Evaluation ℕ). prepared (at 13) (Act.Print format)
        (and_then (and_then (Gives (pos n) []) (λ _. and_then x (λ j. load (memory_at n) Static 1 j))) (λ v. and_then (Gives [] []) (λ vs. Gives (v ∷ vs) [])))
        (turn_frame Prints n (Do (body_of threads at Prints) ∷ rest)) [] rest)
        (index_inside n less)
        ∙ ap
        (λ (o : Option ℤ). prepared (at 13) (Act.Print format)
        (and_then (and_then (Gives (pos n) []) (λ _. and_then (Gives n []) (λ j. global_value (record { variable = 1; index = n }) o)))
        (λ v. and_then (Gives [] []) (λ vs. Gives (v ∷ vs) [])))
        (turn_frame Prints n (Do (body_of threads at Prints) ∷ rest)) [] rest) w.1)
        (Acting Prints n k (w.0 ∷ []) refl tt left less count on)
        (idle count.0, tt)

    -- ---- their acts

    abbrev stepping_frame : Round → ℕ → List Work → Frame
    stepping_frame c n k = turn_frame c n (Do (step_of threads at c) ∷ asked_work threads at c k)

    abbrev act_frame : Round → ℕ → List Work → List ℤ → Frame
    act_frame c n k kept = main_frame (Some (pos n)) (Perform (call_at threads at c) (act_of_round threads at c) ∷ Next (loop_of threads at c) ∷ k) kept

    abbrev act_move : Round → ℕ → List Work → List ℤ → Move
    act_move c n k kept = Move.Acts (call_at threads at c) (act_of_round threads at c) kept (stepping_frame c n k ∷ [])

    abbrev round_state : Round → ℕ → List Work → State
    round_state c n k = with_slot (state_of p) 0 (Running (stepping_frame c n k ∷ []))

    abbrev begun_slot : ℕ → Slot
    begun_slot n = Running (begun worker 0 (pos n ∷ []) ∷ [])

    abbrev round_parts : Round → ℕ → List Work → Slot → Parts
    round_parts c n k x = record p { frame = stepping_frame c n k; workers = slice_set p.workers n x }

    creating : (n : ℕ) (k : List Work) (kept : List ℤ) → p.frame ≡ act_frame Creates n k kept →
        kept ≡ pos (suc n) ∷ pos n ∷ [] → Left k (behind threads at Creates) → n < threads → IsCount threads at Creates n live.lo live.hi → live.ready ≡ true →
        Result
    creating n k kept is operands left less count on =
        Goes (state_of (round_parts Creates n k (begun_slot n)))
        (does (act_frame Creates n k (pos (suc n) ∷ pos n ∷ [])) (act_move Creates n k (pos (suc n) ∷ pos n ∷ [])) is_f refl
        ∙ ap (λ (o : Option Slot). created P (round_state Creates n k) (at 5) 0 (pos n) (suc n) o) there)
        (GoesOn (round_parts Creates n k (begun_slot n)) refl (record {
          own_length = live.own_length;
          workers_length = length-set p.workers n (begun_slot n) ∙ live.workers_length;
          lo = live.lo;
          hi = suc n;
          ready = live.ready;
          main = Stepping Creates n k refl left less (count.0, refl) on;
          mutex = live.mutex;
          needs = λ q. absurd (let no = sym q ∙ on in cc);
          slots = slots_changed threads (λ i o. WorkerSlot threads live.lo (suc n) p.mutex i o) p.workers n (begun_slot n) live.workers_length less
              (Works (let lo = count.0 in omega (arith, lo)) (omega arith) (begun worker 0 (pos n ∷ [])) refl (begins p.mutex n less free))
              (λ i l apart. other i apart (slice_get p.workers i) (live.slots i l));
          owner = λ m e. owner_kept threads at p.workers n (begun_slot n) m live.workers_length less (λ _. (begun worker 0 (pos n ∷ []) ∷ [], refl))
              (live.owner m e);
        }))
        (touches (act_frame Creates n k (pos (suc n) ∷ pos n ∷ [])) (act_move Creates n k (pos (suc n) ∷ pos n ∷ [])) is_f refl tt)
      where
        is_f : p.frame ≡ act_frame Creates n k (pos (suc n) ∷ pos n ∷ [])
        is_f = is ∙ ap (λ (vs : List ℤ). act_frame Creates n k vs) operands

        idle_slot : WorkerSlot threads live.lo live.hi p.mutex n (slice_get p.workers n) → slice_get p.workers n ≡ Some Unused
        idle_slot (Idle away same) = same
        idle_slot (Over from to same) = let hi = count.1 in absurd (omega (arith, to, hi))
        idle_slot (Works from to x same place) = let hi = count.1 in absurd (omega (arith, to, hi))

        there : slice_get p.workers n ≡ Some Unused
        there = idle_slot (live.slots n less)

        no_owner : HasOwner threads at p.workers (suc n) → ⊥
        no_owner o =
            let number : o.number ≡ n = (let e2 = o.is in omega (arith, e2)) in
            let no = sym there ∙ subst (λ j. slice_get p.workers j ≡ Some (Running o.frames)) number o.runs in cc

        free : p.mutex ≢ Owned (suc n)
        free e = no_owner (live.owner (suc n) e)

        other : (i : ℕ) → i ≢ n → (o : Option Slot) → WorkerSlot threads live.lo live.hi p.mutex i o → WorkerSlot threads live.lo (suc n) p.mutex i o
        other i apart o (Idle (inl below) same) = Idle (inl below) same
        other i apart o (Idle (inr above) same) = let hi = count.1 in Idle (inr (omega (arith, above, hi, apart))) same
        other i apart o (Over from to same) = let hi = count.1 in Over from (omega (arith, to, hi)) same
        other i apart o (Works from to x same place) = let hi = count.1 in Works from (omega (arith, to, hi)) x same place

    joining : (n : ℕ) (k : List Work) (kept : List ℤ) → p.frame ≡ act_frame Joins n k kept →
        kept ≡ pos (suc n) ∷ [] → Left k (behind threads at Joins) → n < threads → IsCount threads at Joins n live.lo live.hi → live.ready ≡ true → Result
    joining n k kept is operands left less count on = go (live.slots n less)
      where
        is_f : p.frame ≡ act_frame Joins n k (pos (suc n) ∷ [])
        is_f = is ∙ ap (λ (vs : List ℤ). act_frame Joins n k vs) operands

        acts : (o : Option Slot) → slice_get p.workers n ≡ o → step P (state_of p) 0 ≡ joined (round_state Joins n k) 0 (at 9) (suc n) o
        acts o e =
            does (act_frame Joins n k (pos (suc n) ∷ [])) (act_move Joins n k (pos (suc n) ∷ [])) is_f refl
            ∙ ap (λ (x : Option Slot). joined (round_state Joins n k) 0 (at 9) (suc n) x) e

        other : (i : ℕ) → i ≢ n → (o : Option Slot) → WorkerSlot threads live.lo live.hi p.mutex i o → WorkerSlot threads (suc n) live.hi p.mutex i o
        other i apart o (Idle (inl below) same) = let lo = count.0 in Idle (inl (omega (arith, below, lo))) same
        other i apart o (Idle (inr above) same) = Idle (inr above) same
        other i apart o (Over from to same) = let lo = count.0 in Over (omega (arith, from, lo, apart)) to same
        other i apart o (Works from to x same place) = let lo = count.0 in Works (omega (arith, from, lo, apart)) to x same place

        owned : slice_get p.workers n ≡ Some Finished → (m : ℕ) → HasOwner threads at p.workers m → HasOwner threads at (slice_set p.workers n Unused) m
        owned same m o = owner_kept threads at p.workers n Unused m live.workers_length less (λ q. absurd (no_owner q)) o
          where
            no_owner : m ≡ suc n → ⊥
            no_owner q =
                let e = o.is in
                let number : o.number ≡ n = omega (arith, e, q) in
                let no = sym same ∙ subst (λ j. slice_get p.workers j ≡ Some (Running o.frames)) number o.runs in cc

        go : WorkerSlot threads live.lo live.hi p.mutex n (slice_get p.workers n) → Result
        go (Idle (inl below) same) = let lo = count.0 in absurd (omega (arith, below, lo))
        go (Idle (inr above) same) = let hi = count.1 in absurd (omega (arith, above, hi, less))
        go (Works from to x same place) =
            Waits waits.Join
            (acts (Some (Running (x ∷ []))) same
            ∙ ap (λ (b : Bool). if b then Undefines (at 9) ThreadId else Blocks waits.Join) (ne_eqb 0 (suc n) (λ e. absurd (omega (arith, e)))))
        go (Over from to same) =
            Goes (state_of (round_parts Joins n k Unused)) (acts (Some Finished) same)
            (GoesOn (round_parts Joins n k Unused) refl (record {
              own_length = live.own_length;
              workers_length = length-set p.workers n Unused ∙ live.workers_length;
              lo = suc n;
              hi = live.hi;
              ready = live.ready;
              main = Stepping Joins n k refl left less (refl, count.1) on;
              mutex = live.mutex;
              needs = λ q. absurd (let no = sym q ∙ on in cc);
              slots = slots_changed threads (λ i o. WorkerSlot threads (suc n) live.hi p.mutex i o) p.workers n Unused live.workers_length less
                  (Idle (inl (omega arith)) refl)
                  (λ i l apart. other i apart (slice_get p.workers i) (live.slots i l));
              owner = λ m e. owned same m (live.owner m e);
            }))
            (touches (act_frame Joins n k (pos (suc n) ∷ [])) (act_move Joins n k (pos (suc n) ∷ [])) is_f refl tt)

    printing : (n : ℕ) (k : List Work) (kept : List ℤ) → p.frame ≡ main_frame (Some (pos n))
        (Perform (at 13) (Act.Print format) ∷ Next (loop_of threads at Prints) ∷ k) kept →
        Left k (behind threads at Prints) → n < threads → IsCount threads at Prints n live.lo live.hi → live.ready ≡ true → Result
    printing n k kept is left less count on =
        let f = main_frame (Some (pos n)) (Perform (at 13) (Act.Print format) ∷ Next (loop_of threads at Prints) ∷ k) kept in
        let g = turn_frame Prints n (Do (step_of threads at Prints) ∷ asked_work threads at Prints k) in
        let mv = Move.Acts (at 13) (Act.Print format) kept (g ∷ []) in
        Goes (state_of (record p { frame = g; output = p.output ++ text_printed format kept })) (does f mv is refl)
        (GoesOn (record p { frame = g; output = p.output ++ text_printed format kept }) refl
        (main_goes_on threads at p live g (p.output ++ text_printed format kept) (Stepping Prints n k refl left less count on)))
        (touches f mv is refl tt)

    acting : (c : Round) (n : ℕ) (k : List Work) (kept : List ℤ) → p.frame ≡ main_frame (Some (pos n))
        (Perform (call_at threads at c) (act_of_round threads at c) ∷ Next (loop_of threads at c) ∷ k) kept →
        AreOperands threads at c n kept → Left k (behind threads at c) → n < threads → IsCount threads at c n live.lo live.hi → live.ready ≡ true → Result
    acting Creates n k kept is operands left less count on = creating n k kept is operands left less count on
    acting Joins n k kept is operands left less count on = joining n k kept is operands left less count on
    acting Prints n k kept is operands left less count on = printing n k kept is left less count on

    -- the next step of main
    pub main_goes : Result
    main_goes = go live.main
      where
        go : Main p.frame → Result
        go (Declaring i k is left lo hi off) = declaring i k is left lo hi off
        go (Naming i k is left lo hi off) = naming i k is left lo hi off
        go (Initialising i k is left lo hi off) = initialising i k is left lo hi off
        go (Beginning c i k is left count on) = beginning c i k is left count on
        go (Testing c n k is left most count on) = testing c n k is left most count on
        go (Calling c n k is left less count on) = calling c n k is left less count on
        go (Acting c n k kept is operands left less count on) = acting c n k kept is operands left less count on
        go (Stepping c n k is left less count on) = stepping c n k is left less count on
        go (Summing i k is left lo hi on) = summing i k is left lo hi on
        go (Showing i k kept is left lo hi on) = showing i k kept is left lo hi on
        go (Clearing i k is left lo hi on) = clearing i k is left lo hi on
        go (Destroying i k is left lo hi on) = destroying i k is left lo hi on
        go (Returning i k is left lo hi off) = returning i k is left lo
