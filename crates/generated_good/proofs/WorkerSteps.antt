-- Each step of a worker is defined or waits, and leaves a state of the program.
use Rattle.std.proofs.Common.{◌≡◌, ◌≢◌, ℕ, suc, ◌^◌, ◌<◌, ◌≤◌, List, [], ◌∷◌, ◌++◌, map, length, refl, ap, sym, ◌∙◌, subst, inl, inr, arith}
use Rattle.std.specs.Prelude.{◌⊎◌, Bool, true, false, not, if◌then◌else◌, nat_eq, ℤ, pos, Option, Some, None, slice_get, slice_set, ◌+ℤ◌}
use Rattle.std.proofs.lemmas.Bool.{eq-eqb, ne_eqb, lt-ltb}
use Rattle.std.proofs.lemmas.List.{length-set}
use Rattle.lists.proofs.Places.{get_there, set_same}
use Rattle.hls_ints.specs.Types.{long_int, unsigned_int, wrapped}
use Rattle.hls_ints.specs.Operators.{result_of, is_zero}
use Rattle.hls_ints.proofs.Conversions.{wrapped-same}
use Rattle.generated_text.specs.declared.draws.Letter.{Letter}
use Rattle.c_program.specs.declared.tree.Storage.TheVariants.{Automatic, Static}
use Rattle.c_program.specs.declared.tree.BinaryOperator.TheVariants.{Add, Less}
use Rattle.c_program.specs.Tree.{Expression, Place, Statement, Function, GlobalVariable, Program}
use Rattle.thread_semantics.specs.declared.cause.BlockedCause.TheVariants as waits
use Rattle.thread_semantics.specs.declared.cause.UndefinedCause.TheVariants.{Mutex as MutexCause, Index}
use Rattle.thread_semantics.specs.declared.object.MutexState.{MutexState}
use Rattle.thread_semantics.specs.declared.object.MutexState.TheVariants.{Uninitialised, Free, Owned}
use Rattle.thread_semantics.specs.Memory.{Location, Memory, Evaluation, Gives, Fails, after_reads, and_then, row_element, with_element}
use Rattle.thread_semantics.specs.Value.{value, binary_value, checked_index, load, local_value, global_value}
use Rattle.thread_semantics.specs.Work.{Work, Do, Choose, Perform, Act, Onward, decided, settled}
use Rattle.thread_semantics.specs.State.{Frame, Slot, Unused, Running, Finished, State}
use Rattle.thread_semantics.specs.Move.{Move, Write, Target, move, target_of, stored, operand_move}
use Rattle.thread_semantics.specs.Step.{Steps, Blocks, Undefines, with_slot, with_mutex, mutex_locked, mutex_unlocked, written_to, moved, slot_step, step}
use Rattle.thread_semantics.specs.Races.{read_of, write_of, touched, thread_touched}
use Rattle.generated_program.specs.Worker.{int_number, local_of, variable, id, assigned, unsigned_binary}
use Rattle.generated_program.specs.Worker.{own_element, published, added, locked, unlocked, raised}
use Rattle.generated_good.proofs.FirstStatement.{Left, first_of, IsPlain, settles}
use Rattle.generated_good.proofs.WorkerValues.{Cells, IsValue, Locals, gives, set_letter, set_id}
use Rattle.generated_good.proofs.SafeStatements.{named, returns_null, local_least, local_below, Safe, Safely, Names}
use Rattle.generated_good.proofs.SafeStatements.{Sets, Raises, Publishes, Locks, Adds, Unlocks, Returns}
use Rattle.generated_good.proofs.States.{made, Parts, globals_of, state_of, worker_frame, Held, WorkerAt, Stands, Locking, Unlocking, WorkerSlot}
use Rattle.generated_good.proofs.States.{Idle, Over, Works, IsReady, HasOwner, Live, GoesOn, AreAllowed, Outcome, Waits, Goes}
use Rattle.generated_good.proofs.NextStates.{same_mutex, owner_kept, worker_changed}

-- a long has the number of each thread
pub small_long : (n : ℕ) → n < 64 → wrapped long_int (pos n) ≡ pos n
small_long n less = wrapped-same long_int (pos n) (lt-ltb n (2 ^ 63) (omega (arith, less)))

module _ (worker main : Function) (sum elements : GlobalVariable) (threads : ℕ) (at : ℕ → ℕ) (few : threads ≤ 63) where
  abbrev P : Program
  P = made worker main sum elements threads

  module _ (p : Parts) (live : Live threads at p) (j : ℕ) where
    -- worker j has this call
    record Runs (f : Frame) : Type 0 where
      less : j < threads
      from : live.lo ≤ j
      to : j < live.hi
      is : slice_get p.workers j ≡ Some (Running (f ∷ []))

    abbrev Result : Type 0
    Result = Outcome threads at P p (suc j)

    does : (f : Frame) (mv : Move) → Runs f → move P (globals_of p) (f ∷ []) ≡ mv → step P (state_of p) (suc j) ≡ moved P (state_of p) (suc j) mv
    does f mv r e =
        ap (λ (o : Option Slot). slot_step P (state_of p) (suc j) o) r.is ∙ ap (λ (x : Move). moved P (state_of p) (suc j) x) e

    touches : (f : Frame) (mv : Move) → Runs f → move P (globals_of p) (f ∷ []) ≡ mv → AreAllowed threads at p (suc j) (touched mv) →
        AreAllowed threads at p (suc j) (thread_touched P (state_of p) (slice_get p.workers j))
    touches f mv r e a =
        subst (λ (o : Option Slot). AreAllowed threads at p (suc j) (thread_touched P (state_of p) o)) (sym r.is)
        (subst (λ (x : Move). AreAllowed threads at p (suc j) (touched x)) (sym e) a)

    owns_on : (f g : Frame) → Runs f → (n : ℕ) → p.mutex ≡ Owned n → HasOwner threads at (slice_set p.workers j (Running (g ∷ []))) n
    owns_on f g r n e = owner_kept threads at p.workers j (Running (g ∷ [])) n live.workers_length r.less (λ _. (g ∷ [], refl)) (live.owner n e)

    -- a step that is no act
    goes_on : (f g : Frame) (reads : List Location) (write : Option Write) (total : ℤ) (own : List ℤ) → Runs f →
        move P (globals_of p) (f ∷ []) ≡ Move.Moves (g ∷ []) reads write → written_to (globals_of p) write ≡ (total ∷ []) ∷ own ∷ [] → length own ≡ threads →
        WorkerAt threads p.mutex j g → AreAllowed threads at p (suc j) (map read_of reads ++ write_of write) → Result
    goes_on f g reads write total own r e w shape there allowed =
        let next : Parts = record p { total = total; own = own; workers = slice_set p.workers j (Running (g ∷ [])) } in
        Goes (state_of next)
        (does f (Move.Moves (g ∷ []) reads write) r e
        ∙ ap (λ (globals : List (List ℤ)). Steps (record {
          globals = globals;
          slots = Running (p.frame ∷ []) ∷ slice_set p.workers j (Running (g ∷ []));
          mutexes = p.mutex ∷ [];
          barriers = [];
          output = p.output;
          ended = false;
        })) w)
        (GoesOn next refl
        (worker_changed threads at p live j (Running (g ∷ [])) total own p.mutex r.less shape live.mutex (Works r.from r.to g refl there)
        (λ i apart. same_mutex p.mutex i) (owns_on f g r)))
        (touches f (Move.Moves (g ∷ []) reads write) r e allowed)

    -- one that touches no data
    goes_by : (f g : Frame) → Runs f → move P (globals_of p) (f ∷ []) ≡ Move.Moves (g ∷ []) [] None → WorkerAt threads p.mutex j g → Result
    goes_by f g r e there = goes_on f g [] None p.total p.own r e refl live.own_length there tt

    -- ---- a statement that stands before the work k

    module _ (locals : Cells) (k : List Work) (ss : List Statement) (left : Left k ss) (n : ℕ) (hold : Bool) (l : Locals n j locals)
        (held : Held hold p.mutex j) where
      abbrev memory : Memory
      memory = record { locals = locals; globals = globals_of p }

      abbrev before : Statement → Frame
      before s = worker_frame locals (Do s ∷ k) []

      id_value : 2 ≤ n → value id memory ≡ Gives (pos j) []
      id_value two = ap (λ (o : Option (List (Option ℤ))). local_value (row_element o 0)) (l.id two)

      index_inside : j < threads → checked_index threads (pos j) ≡ Gives j []
      index_inside less = ap (λ (b : Bool). if b then Gives j [] else Fails Index) (lt-ltb j threads less)

      -- id, and then a part that takes its number as an index
      indexed : {B : Type 0} (next : ℕ → Evaluation B) → 2 ≤ n → j < threads →
          and_then (value id memory) (λ i. and_then (checked_index threads i) next) ≡ and_then (Gives (pos j) []) (λ i. and_then (Gives j []) next)
      indexed next two less =
          ap (λ (x : Evaluation ℤ). and_then x (λ i. and_then (checked_index threads i) next)) (id_value two)
          ∙ ap (λ (x : Evaluation ℕ). and_then (Gives (pos j) []) (λ i. and_then x next)) (index_inside less)

      names : (offset : ℕ) → n ≡ 1 → Safe threads ss 2 hold → Runs (before (named offset)) → Result
      names offset one safe r =
          let number = pos j in
          let same : wrapped long_int (wrapped long_int number) ≡ number = ap (wrapped long_int) (small_long j (omega (arith, r.less, few))) ∙ small_long j
          (omega (arith, r.less, few)) in
          let first : value (Expression.Cast long_int (Expression.Variable Automatic 0 long_int)) memory ≡ Gives (wrapped long_int number) [] =
          ap (λ (o : Option (List (Option ℤ))). and_then (local_value (row_element o 0)) (λ v. Gives (wrapped long_int v) [])) l.argument in
          goes_by (before (named offset)) (worker_frame (with_element locals 1 0 (Some number)) (settled Onward k) []) r
          (ap
          (λ (x : Evaluation ℤ). stored offset
          (and_then x (λ v. and_then (target_of (Place.Scalar Automatic 1 long_int) memory)
          (λ (target : Target). Gives (record { target = target; value = v }) [])))
          (before (named offset)) [] k) first
          ∙ ap (λ (v : ℤ). Move.Moves (worker_frame (with_element locals 1 0 (Some v)) (settled Onward k) [] ∷ []) [] None) same)
          (Stands (with_element locals 1 0 (Some number)) k ss 2 hold refl left safe (set_id j locals (subst (λ m. Locals m j locals) one l)) held)

      sets : (offset : ℕ) (x : Letter) (e : Expression) (later : ℕ) → IsValue n e → 2 ≤ n → ((y : ℕ) → y < later → y ≢ local_of x → y < n) →
          Safe threads ss later hold →
          Runs (before (assigned offset x e)) → Result
      sets offset x e later is two grows safe r =
          let v = gives memory n l.written e is in
          let new : Cells = with_element locals (local_of x) 0 (Some (wrapped unsigned_int v.0)) in
          goes_by (before (assigned offset x e)) (worker_frame new (settled Onward k) []) r
          (ap
          (λ (y : Evaluation ℤ). stored offset
          (and_then y (λ w. and_then (target_of (Place.Scalar Automatic (local_of x) unsigned_int) memory)
          (λ (target : Target). Gives (record { target = target; value = w }) [])))
          (before (assigned offset x e)) [] k) v.1)
          (Stands new k ss later hold refl left safe
          (set_letter n later j (local_of x) (wrapped unsigned_int v.0) locals l (local_least x) (local_below x) two grows) held)

      abbrev raise : (ℕ → ℕ) → Letter → Statement
      raise o x = assigned (o 1) x (unsigned_binary Add (variable x) (int_number 1))

      abbrev parts : (ℕ → ℕ) → Letter → List Work
      parts o x = Choose (Statement.Block (raise o x)) Statement.Done ∷ k

      abbrev asking : (ℕ → ℕ) → Letter → Letter → Letter → Frame
      asking o x y z = worker_frame locals (first_of (raised o x y z) k) []

      raises : (o : ℕ → ℕ) (x y z : Letter) → n ≡ 6 → Safe threads ss 6 hold → Runs (asking o x y z) → Result
      raises o x y z six safe r =
          let less : Expression = unsigned_binary Less (variable y) (variable z) in
          let v = gives memory n l.written less (refl, tt, below y, below z) in
          goes_by (asking o x y z) (worker_frame locals (decided (not (is_zero v.0)) (parts o x)) []) r
          (ap (λ (w : Evaluation ℤ). operand_move (o 0) w (asking o x y z) [] (parts o x)) v.1)
          (go (not (is_zero v.0)))
        where
          below : (w : Letter) → local_of w < n
          below w = subst (λ m. local_of w < m) (sym six) (local_below w)

          now : Locals 6 j locals
          now = subst (λ m. Locals m j locals) six l

          go : (b : Bool) → WorkerAt threads p.mutex j (worker_frame locals (decided b (parts o x)) [])
          go true =
              Stands locals (Do (raise o x) ∷ k) (raise o x ∷ ss) 6 hold refl (ss, refl, left)
              (Sets (o 1) x (unsigned_binary Add (variable x) (int_number 1)) 6 refl (refl, tt, local_below x, tt) (omega arith)
              (λ i i_less apart. i_less) safe) now held
          go false = Stands locals k ss 6 hold refl left safe now held

      publishes : (offset : ℕ) (e : Expression) → IsValue n e → 2 ≤ n → Safe threads ss n hold → Runs (before (published threads offset e)) → Result
      publishes offset e is two safe r =
          let v = gives memory n l.written e is in
          let place : Place = Place.Element Static 1 threads unsigned_int id in
          goes_on (before (published threads offset e)) (worker_frame locals (settled Onward k) []) []
          (Some (record { place = record { variable = 1; index = j }; value = wrapped unsigned_int v.0 })) p.total
          (slice_set p.own j (wrapped unsigned_int v.0)) r
          (ap
          (λ (y : Evaluation ℤ). stored offset
          (and_then y (λ w. and_then (target_of place memory) (λ (target : Target). Gives (record { target = target; value = w }) [])))
          (before (published threads offset e)) [] k) v.1
          ∙ ap
          (λ (y : Evaluation Target). stored offset
          (and_then (Gives v.0 []) (λ w. and_then y (λ (target : Target). Gives (record { target = target; value = w }) [])))
          (before (published threads offset e)) [] k)
          (indexed (λ i. Gives (record { storage = Static; variable = 1; index = i; ty = unsigned_int }) []) two r.less))
          refl (length-set p.own j (wrapped unsigned_int v.0) ∙ live.own_length)
          (Stands locals k ss n hold refl left safe l held)
          (inl refl, tt)

      locks : (offset : ℕ) → hold ≡ false → Safe threads ss n true → Runs (before (locked offset)) → Result
      locks offset free safe r =
          goes_by (before (locked offset)) (worker_frame locals (Perform offset Act.MutexLock ∷ k) (pos 0 ∷ [])) r refl
          (Locking locals k ss n offset refl left safe l (subst (λ b. Held b p.mutex j) free held))

      unlocks : (offset : ℕ) → hold ≡ true → Safe threads ss n false → Runs (before (unlocked offset)) → Result
      unlocks offset has safe r =
          goes_by (before (unlocked offset)) (worker_frame locals (Perform offset Act.MutexUnlock ∷ k) (pos 0 ∷ [])) r refl
          (Unlocking locals k ss n offset refl left safe l (subst (λ b. Held b p.mutex j) has held))

      -- s += e, where e reads so much
      adds : (offset : ℕ) (e : Expression) (v : ℤ) (reads : List Location) → value e memory ≡ Gives v reads → hold ≡ true → Safe threads ss n true → Runs
          (before (added offset e)) →
          AreAllowed threads at p (suc j) (map read_of
          (reads ++ record { variable = 0; index = 0 } ∷ []) ++ record { place = record { variable = 0; index = 0 }; written = true } ∷ []) → Result
      unfolding result_of
      adds offset e v reads is has safe r allowed =
          let new : ℤ = wrapped unsigned_int (wrapped unsigned_int (wrapped unsigned_int p.total +ℤ wrapped unsigned_int v)) in
          goes_on (before (added offset e)) (worker_frame locals (settled Onward k) []) (reads ++ record { variable = 0; index = 0 } ∷ [])
          (Some (record { place = record { variable = 0; index = 0 }; value = new })) new p.own r
          (ap
          (λ (y : Evaluation ℤ). stored offset
          (and_then y (λ w. and_then (target_of (Place.Scalar Static 0 unsigned_int) memory)
          (λ (target : Target). and_then (load memory target.storage target.variable target.index)
          (λ old. and_then (binary_value Add unsigned_int old w) (λ sum. Gives (record { target = target; value = sum }) [])))))
          (before (added offset e)) [] k) is)
          refl live.own_length
          (Stands locals k ss n true refl left safe l (subst (λ b. Held b p.mutex j) has held))
          allowed

      adds_to : (offset : ℕ) (e : Expression) → IsValue n e ⊎ (e ≡ own_element threads) → 2 ≤ n → hold ≡ true → Safe threads ss n true → Runs
          (before (added offset e)) → Result
      adds_to offset e (inl is) two has safe r =
          let v = gives memory n l.written e is in
          let own : p.mutex ≡ Owned (suc j) = subst (λ b. Held b p.mutex j) has held in
          adds offset e v.0 [] v.1 has safe r (inr (refl, own), (inr (refl, own), tt))
      adds_to offset e (inr is) two has safe r =
          let own : p.mutex ≡ Owned (suc j) = subst (λ b. Held b p.mutex j) has held in
          let less = r.less in
          let number = live.own_length in
          let w = get_there p.own j (omega (arith, less, number)) in
          let read : value (own_element threads) memory ≡ Gives w.0 (record { variable = 1; index = j } ∷ []) =
          indexed (λ i. load memory Static 1 i) two r.less ∙ ap
          (λ (o : Option ℤ). after_reads [] (after_reads [] (global_value (record { variable = 1; index = j }) o))) w.1 in
          adds offset e w.0 (record { variable = 1; index = j } ∷ [])
          (subst (λ x. value x memory ≡ Gives w.0 (record { variable = 1; index = j } ∷ [])) (sym is) read) has safe r
          (inl refl, (inr (refl, own), (inr (refl, own), tt)))

      returns : (offset : ℕ) → hold ≡ false → Runs (before (returns_null offset)) → Result
      returns offset free r =
          let not_own : p.mutex ≢ Owned (suc j) = subst (λ b. Held b p.mutex j) free held in
          let next : Parts = record p { workers = slice_set p.workers j Finished } in
          Goes (state_of next)
          (does (before (returns_null offset)) (Move.Ends offset []) r refl)
          (GoesOn next refl
          (worker_changed threads at p live j Finished p.total p.own p.mutex r.less live.own_length live.mutex (Over r.from r.to refl)
          (λ i apart. same_mutex p.mutex i)
          (λ m e. owner_kept threads at p.workers j Finished m live.workers_length r.less (λ same. absurd (not_own (e ∙ ap Owned same))) (live.owner m e))))
          (touches (before (returns_null offset)) (Move.Ends offset []) r refl tt)

    -- ---- an act

    other_lock : (m : ℕ) → Owned m ≢ Owned (suc j) → nat_eq (suc j) m ≡ false
    other_lock m apart = ne_eqb (suc j) m (λ e. apart (ap Owned (sym e)))

    abbrev acting : Cells → ℕ → Act → List Work → Frame
    acting locals offset act k = worker_frame locals (Perform offset act ∷ k) (pos 0 ∷ [])

    abbrev after_act : Cells → List Work → Frame
    after_act locals k = worker_frame locals (settled Onward k) []

    abbrev move_of : Cells → ℕ → Act → List Work → Move
    move_of locals offset act k = Move.Acts offset act (pos 0 ∷ []) (after_act locals k ∷ [])

    abbrev acting_state : Cells → List Work → State
    acting_state locals k = with_slot (state_of p) (suc j) (Running (after_act locals k ∷ []))

    abbrev next_parts : Cells → List Work → MutexState → Parts
    next_parts locals k m = record p { workers = slice_set p.workers j (Running (after_act locals k ∷ [])); mutex = m }

    -- a lock is granted where the mutex is free, and waits where another worker has it
    locking : (locals : Cells) (k : List Work) (ss : List Statement) (n offset : ℕ) → Left k ss → Safe threads ss n true → Locals n j locals → p.mutex ≢ Owned
        (suc j) →
        Runs (acting locals offset Act.MutexLock k) → Result
    locking locals k ss n offset left safe l held r = go p.mutex refl
      where
        acts : (m : MutexState) → p.mutex ≡ m → step P (state_of p) (suc j) ≡ mutex_locked (acting_state locals k) (suc j) offset 0 (Some m)
        acts m e =
            does (acting locals offset Act.MutexLock k) (move_of locals offset Act.MutexLock k) r refl
            ∙ ap (λ (x : MutexState). mutex_locked (acting_state locals k) (suc j) offset 0 (Some x)) e

        ready : (b : Bool) → live.ready ≡ b → b ≡ true
        ready true e = refl
        ready false e =
            let from = r.from in
            let to = r.to in
            let needs = live.needs e in
            absurd (omega (arith, from, to, needs))

        not_lost : p.mutex ≢ Uninitialised
        not_lost = subst (λ b. IsReady threads at b p.mutex) (ready live.ready refl) live.mutex

        there : slice_get (slice_set p.workers j (Running (after_act locals k ∷ []))) j ≡ Some (Running (after_act locals k ∷ []))
        there =
            let less = r.less in
            let number = live.workers_length in
            set_same p.workers j (Running (after_act locals k ∷ [])) (omega (arith, less, number))

        granted : p.mutex ≡ Free → Live threads at (next_parts locals k (Owned (suc j)))
        granted e =
            worker_changed threads at p live j (Running (after_act locals k ∷ [])) p.total p.own (Owned (suc j)) r.less live.own_length
            (subst (λ b. IsReady threads at b (Owned (suc j))) (sym (ready live.ready refl)) (λ q. cc))
            (Works r.from r.to (after_act locals k) refl (Stands locals k ss n true refl left safe l refl))
            (λ i apart. record {
              onward = λ q. absurd (let no = sym e ∙ q in cc);
              back = λ q. absurd
                  (apart (let back : suc j ≡ suc i = cc in omega (arith, back)));
            })
            (λ m q. record { number = j; is = (let back : suc j ≡ m = cc in sym back); frames = after_act locals k ∷ []; runs = there })

        go : (m : MutexState) → p.mutex ≡ m → Result
        go Uninitialised e = absurd (not_lost e)
        go Free e =
            Goes (state_of (next_parts locals k (Owned (suc j)))) (acts Free e) (GoesOn (next_parts locals k (Owned (suc j))) refl (granted e))
            (touches (acting locals offset Act.MutexLock k) (move_of locals offset Act.MutexLock k) r refl tt)
        go (Owned m) e =
            Waits waits.Mutex
            (acts (Owned m) e
            ∙ ap (λ (b : Bool). if b then Undefines offset MutexCause else Blocks waits.Mutex) (other_lock m (λ q. held (e ∙ q))))

    unlocking : (locals : Cells) (k : List Work) (ss : List Statement) (n offset : ℕ) → Left k ss → Safe threads ss n false → Locals n j locals →
        p.mutex ≡ Owned (suc j) →
        Runs (acting locals offset Act.MutexUnlock k) → Result
    unlocking locals k ss n offset left safe l held r =
        Goes (state_of (next_parts locals k Free))
        (does (acting locals offset Act.MutexUnlock k) (move_of locals offset Act.MutexUnlock k) r refl
        ∙ ap (λ (x : MutexState). mutex_unlocked (acting_state locals k) (suc j) offset 0 (Some x)) held
        ∙ ap (λ (b : Bool). if b then with_mutex (acting_state locals k) 0 Free else Undefines offset MutexCause) (eq-eqb (suc j) (suc j) refl))
        (GoesOn (next_parts locals k Free) refl
        (worker_changed threads at p live j (Running (after_act locals k ∷ [])) p.total p.own Free r.less live.own_length (ready live.ready live.mutex)
        (Works r.from r.to (after_act locals k) refl (Stands locals k ss n false refl left safe l (λ q. cc)))
        (λ i apart. record {
          onward = λ q. absurd (let no = sym held ∙ q in apart (let back : suc j ≡ suc i = cc in omega (arith, back)));
          back = λ q. absurd cc;
        })
        (λ m q. absurd cc)))
        (touches (acting locals offset Act.MutexUnlock k) (move_of locals offset Act.MutexUnlock k) r refl tt)
      where
        ready : (b : Bool) → IsReady threads at b p.mutex → IsReady threads at b Free
        ready true h = λ q. cc
        ready false h = absurd (let no = sym h ∙ held in cc)

    -- ---- each

    plain_first : (s : Statement) → IsPlain s → (locals : Cells) (k : List Work) (ss : List Statement) (n : ℕ) (hold : Bool) → Left k (s ∷ ss) →
        Locals n j locals → Held hold p.mutex j →
        Runs (worker_frame locals (settled Onward k) []) →
        ((behind : List Work) → Left behind ss → Runs (worker_frame locals (first_of s behind) []) → Result) → Result
    plain_first s plain locals k ss n hold left l held r next =
        let o = settles k s ss left plain in
        next o.behind o.left (subst (λ work. Runs (worker_frame locals work [])) o.is r)

    stands : (locals : Cells) (k : List Work) (ss : List Statement) (n : ℕ) (hold : Bool) → Left k ss → Safe threads ss n hold → Locals n j locals →
        Held hold p.mutex j →
        Runs (worker_frame locals (settled Onward k) []) → Result
    stands locals k [] n hold left safe l held r = absurd safe
    stands locals k (s ∷ ss) n hold left safe l held r = go safe
      where
        from : (t : Statement) → s ≡ t → IsPlain t → ((behind : List Work) → Left behind ss → Runs (worker_frame locals (first_of t behind) []) → Result) →
            Result
        from t is plain next = plain_first t plain locals k ss n hold (subst (λ x. Left k (x ∷ ss)) is left) l held r next

        go : Safely threads (Safe threads ss) n hold s → Result
        go (Names offset is one rest) = from (named offset) is (λ _ _. refl) (λ k2 left2 r2. names locals k2 ss left2 n hold l held offset one rest r2)
        go (Sets offset x e later is val two grows rest) =
            from (assigned offset x e) is (λ _ _. refl) (λ k2 left2 r2. sets locals k2 ss left2 n hold l held offset x e later val two grows rest r2)
        go (Raises o x y z is six rest) = from (raised o x y z) is (λ _ _. refl) (λ k2 left2 r2. raises locals k2 ss left2 n hold l held o x y z six rest r2)
        go (Publishes offset e is val two rest) =
            from (published threads offset e) is (λ _ _. refl) (λ k2 left2 r2. publishes locals k2 ss left2 n hold l held offset e val two rest r2)
        go (Locks offset is free rest) = from (locked offset) is (λ _ _. refl) (λ k2 left2 r2. locks locals k2 ss left2 n hold l held offset free rest r2)
        go (Adds offset e is val two has rest) =
            from (added offset e) is (λ _ _. refl) (λ k2 left2 r2. adds_to locals k2 ss left2 n hold l held offset e val two has rest r2)
        go (Unlocks offset is has rest) = from (unlocked offset) is (λ _ _. refl) (λ k2 left2 r2. unlocks locals k2 ss left2 n hold l held offset has rest r2)
        go (Returns offset is free) = from (returns_null offset) is (λ _ _. refl) (λ k2 left2 r2. returns locals k2 ss left2 n hold l held offset free r2)

    called : (f : Frame) → j < threads → live.lo ≤ j → j < live.hi → slice_get p.workers j ≡ Some (Running (f ∷ [])) → WorkerAt threads p.mutex j f → Result
    called f less from to is (Stands locals k ss n hold same left safe l held) =
        stands locals k ss n hold left safe l held
        (record { less = less; from = from; to = to; is = subst (λ x. slice_get p.workers j ≡ Some (Running (x ∷ []))) same is })
    called f less from to is (Locking locals k ss n offset same left safe l held) =
        locking locals k ss n offset left safe l held
        (record { less = less; from = from; to = to; is = subst (λ x. slice_get p.workers j ≡ Some (Running (x ∷ []))) same is })
    called f less from to is (Unlocking locals k ss n offset same left safe l held) =
        unlocking locals k ss n offset left safe l held
        (record { less = less; from = from; to = to; is = subst (λ x. slice_get p.workers j ≡ Some (Running (x ∷ []))) same is })

    no_step : (x : Slot) → slice_get p.workers j ≡ Some x → slot_step P (state_of p) (suc j) (Some x) ≡ Blocks waits.NotRunning → Result
    no_step x is e = Waits waits.NotRunning (ap (λ (o : Option Slot). slot_step P (state_of p) (suc j) o) is ∙ e)

    -- the next step of worker j, where there is such a worker
    pub worker_goes : j < threads → Result
    worker_goes less = go (live.slots j less)
      where
        go : WorkerSlot threads live.lo live.hi p.mutex j (slice_get p.workers j) → Result
        go (Idle away is) = no_step Unused is refl
        go (Over from to is) = no_step Finished is refl
        go (Works from to f is there) = called f less from to is there
