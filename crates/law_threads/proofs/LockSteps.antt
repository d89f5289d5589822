-- A lock that is granted is the step of its thread; where it isn't, the thread is blocked.
use Rattle.std.specs.Prelude.{Bool, true, false, nat_eq, if◌then◌else◌, ℤ, Option, Some, None, slice_get, slice_set, ◌^◌}
use Rattle.std.specs.List.{list_any}
use Rattle.std.proofs.Common.{◌≡◌, ◌≢◌, ℕ, ◌<◌, List, [], refl, sym, ap, ◌∙◌, subst, ⊎_elim, arith}
use Rattle.std.proofs.lemmas.Option.{slice_get_within}
use Rattle.std.proofs.lemmas.List.{length-set}
use Rattle.lists.proofs.Places.{set_there, set_elsewhere}
use Rattle.hls_ints.specs.Residues.{residue_of}
use Rattle.c_program.specs.Tree.{Program}
use Rattle.c_program.specs.Resolved.{IsResolved}
use Rattle.thread_semantics.specs.declared.object.MutexState.{MutexState}
use Rattle.thread_semantics.specs.declared.object.MutexState.TheVariants as mutex
use Rattle.thread_semantics.specs.declared.cause.UndefinedCause.TheVariants.{Mutex}
use Rattle.thread_semantics.specs.declared.cause.BlockedCause.TheVariants as waits
use Rattle.thread_semantics.specs.State.{Frame, Running, State}
use Rattle.thread_semantics.specs.Work.{Act}
use Rattle.thread_semantics.specs.Step.{Blocks, Undefines, with_slot, mutex_locked, acted, is_waiter, step}
use Rattle.interleaving.specs.Memory.{Memory}
use Rattle.interleaving.specs.Source.{Blocked}
use Rattle.interleaving.specs.Threaded.{IsSynchronizing}
use Rattle.block_ir.specs.declared.code.Act.TheVariants as act
use Rattle.block_ir.specs.declared.code.ActOperand.{ActOperand}
use Rattle.planned_block.proofs.Bits.{less_is}
use Rattle.race_model.specs.Source.{Local, local_of, running, outcome_of, c_source}
use Rattle.race_model.proofs.Lists.{get-set_cases}
use Rattle.block_ir.specs.Asked.{act_value, Asked, Numbers, mutex_core, barrier_core, thread_ids_core, printer_core, core_of}
use Rattle.block_ir.specs.declared.service.Service.TheVariants.{Mutex}
use Rattle.code_following.specs.Following.{print_formats, SameAct}
use Rattle.core_states.specs.Machines.{mutex_eligible, mutex_after}
use Rattle.law_threads.specs.Cores.{Core, OfMutex, may_grant, status_in, argument_in, waits_in}
use Rattle.law_threads.specs.Stands.{mutex_of, StandsFor}
use Rattle.block_refine.specs.Routines.{Codes, Starts}
use Rattle.block_refine.specs.RoutineActs.{IsStepOf}
use Rattle.law_threads.specs.Requests.{AreNumbers, StandsAtAct, Serves, Other, Same, cores_after}
use Rattle.law_threads.proofs.ActByAct.{RequestIsStep}
use Rattle.law_threads.proofs.Common.{names, never, status_kept, other_core, same_core}

-- what a mutex is asked
abbrev pub asks_mutex : ℕ → ℕ → Asked
asks_mutex n operation = record { service = Mutex; core = n; number = operation; values = [] }

-- ---- any act of a mutex: mutex n comes from one state to another

module _ (P : Program) (codes : Codes) (N : Numbers) (T : ℕ) (s : State) (i f next : ℕ) (variables : ℕ → ℤ) (arrays : Memory ℤ) (c : ℕ → Core)
    (stands : StandsFor N T c s) (calls frames : List Frame) (runs : local_of s i ≡ running calls) (starts : Starts P codes (running frames) f next variables arrays)
    (n operation : ℕ) (old new : MutexState) (here : slice_get s.mutexes n ≡ Some old) (becomes : mutex_after (mutex_of old) i operation ≡ mutex_of new) where
  abbrev k : ℕ
  k = mutex_core N n

  abbrev after : ℕ → Core
  after = cores_after P codes N T k i (asks_mutex n operation) c

  abbrev t : State
  t = record s { slots = slice_set s.slots i (Running frames); mutexes = slice_set s.mutexes n new }

  below : n < N.mutexes
  below = let lt = slice_get_within s.mutexes n old here in let e = stands.mutex_count in omega arith

  slot : slice_get s.slots i ≡ Some (Running calls)
  slot = ap (λ (x : Local). x.slot) runs

  others_stay : (j : ℕ) → j ≢ k → after j ≡ c j
  others_stay j ne = other_core T (print_formats P) k i (asks_mutex n operation) c j ne

  pub mutex_stands : StandsFor N T after t
  mutex_stands = record {
    mutexes = λ m x at. ⊎_elim
        (λ same. subst (λ z. after (mutex_core N z) ≡ OfMutex (mutex_of x)) same.0
        (same_core T (print_formats P) k i (asks_mutex n operation) c (OfMutex (mutex_of old)) (stands.mutexes n old here) ∙ ap OfMutex (becomes ∙ ap mutex_of same.1)))
        (λ other. others_stay (mutex_core N m) (λ e. other.0 (omega arith)) ∙ stands.mutexes m x other.1)
        (get-set_cases s.mutexes n m new x at);
    barriers = λ m b at.
        let k = stands.barriers m b at in
        record { gate = k.gate; is = others_stay (barrier_core N m) (λ e. absurd (let lt = below in omega arith)) ∙ k.is; stands = k.stands };
    thread_ids = λ has.
        let z = stands.thread_ids has in
        record {
          thread_ids = z.thread_ids;
          is = others_stay (thread_ids_core N) (λ e. absurd (let lt = below in omega arith)) ∙ z.is;
          statuses = z.statuses;
          arguments = z.arguments;
          main = z.main;
          each = λ j x lt at. let y = status_kept s.slots i j calls frames x slot at in z.each j y.0 lt y.1 ∙ y.2;
        };
    output = others_stay (printer_core N) (λ e. absurd (let lt = below in omega arith)) ∙ stands.output;
    mutex_count = length-set s.mutexes n new ∙ stands.mutex_count;
    barrier_count = stands.barrier_count;
  }

  pub mutex_own : local_of t i ≡ running frames
  mutex_own = λ d. record { slot = set_there s.slots i (Running calls) (Running frames) slot d; waits = ap (λ (x : Local). x.waits) runs d }

  pub mutex_others : (j : ℕ) → j ≢ i → Other P N c after s t j
  mutex_others j ne =
      Same (λ d. record { slot = set_elsewhere s.slots i j (Running frames) (λ e. ne (sym e)) d; waits = list_any (is_waiter j) s.barriers })
      (record {
        status = ap (λ (z : Core). status_in z j) (others_stay (thread_ids_core N) (λ e. absurd (let lt = below in omega arith)));
        argument = ap (λ (z : Core). argument_in z j) (others_stay (thread_ids_core N) (λ e. absurd (let lt = below in omega arith)));
        bits = λ m lt. ap (λ (z : Core). waits_in z j) (others_stay (barrier_core N m) (λ e. absurd (let z = below in omega arith)));
      })

-- ---- a lock

module _ (m : ActOperand) (P : Program) (codes : Codes) (N : Numbers) (T : ℕ) (R : IsResolved P) (numbers : AreNumbers P N T) (s : State) (i f l next : ℕ)
    (variables : ℕ → ℤ) (arrays : Memory ℤ) (c : ℕ → Core) (ask : Asked) (at : StandsAtAct P codes N T s i f l next variables arrays (act.MutexLock m) ask c)
    (step_of : IsStepOf P codes s i f next variables arrays (act.MutexLock m)) where
  abbrev ServesLock : Asked → Type 0
  ServesLock a = Serves P codes N T s i f next variables arrays (act.MutexLock m) a c

  undefined : (offset : ℕ) → step P s i ≡ Undefines offset Mutex → ⊥
  undefined offset e = never P R s i offset Mutex step_of.calls at.reached at.defined step_of.runs e

  -- the lock of mutex n
  locks : (offset n : ℕ) → (n < 2 ^ 64 → residue_of 64 (act_value variables m) ≡ n) →
      step P s i ≡ mutex_locked (with_slot s i (Running step_of.frames)) i offset n (slice_get s.mutexes n) →
      ServesLock (asks_mutex (residue_of 64 (act_value variables m)) 1)
  locks offset n word e = go (slice_get s.mutexes n) refl e
    where
      is_core : (old : MutexState) → slice_get s.mutexes n ≡ Some old → core_of N (asks_mutex n 1) ≡ Some (mutex_core N n)
      is_core old here =
          let lt = slice_get_within s.mutexes n old here in
          let count = at.cores.mutex_count in
          ap (λ (b : Bool). if b then Some (mutex_core N n) else None) (less_is n N.mutexes (omega arith))

      same_number : (old : MutexState) → slice_get s.mutexes n ≡ Some old → residue_of 64 (act_value variables m) ≡ n
      same_number old here =
          let lt = slice_get_within s.mutexes n old here in
          let count = at.cores.mutex_count in
          let few = numbers.few_mutexes in
          word (omega arith)

      may : (old : MutexState) → slice_get s.mutexes n ≡ Some old → (b : Bool) → may_grant (c (mutex_core N n)) i (asks_mutex n 1) ≡ b → mutex_eligible (mutex_of old) 1 ≡ b
      may old here b e = sym (ap (λ (z : Core). may_grant z i (asks_mutex n 1)) (at.cores.mutexes n old here)) ∙ e

      go : (o : Option MutexState) → slice_get s.mutexes n ≡ o → step P s i ≡ mutex_locked (with_slot s i (Running step_of.frames)) i offset n o →
          ServesLock (asks_mutex (residue_of 64 (act_value variables m)) 1)
      go None here d = absurd (undefined offset d)
      go (Some mutex.Uninitialised) here d = absurd (undefined offset d)
      go (Some mutex.Free) here d =
          subst (λ z. ServesLock (asks_mutex z 1)) (sym (same_number mutex.Free here))
          (record {
            core = mutex_core N n;
            is = is_core mutex.Free here;
            goes = λ _. record {
              state = record s { slots = slice_set s.slots i (Running step_of.frames); mutexes = slice_set s.mutexes n (mutex.Owned i) };
              view = subst IsSynchronizing (sym step_of.view) tt;
              steps = ap outcome_of d;
              stands = mutex_stands P codes N T s i f next variables arrays c at.cores step_of.calls step_of.frames step_of.runs step_of.starts n 1 mutex.Free
                  (mutex.Owned i) here refl;
              own =
                  subst (λ x. Starts P codes x f next variables arrays)
                  (sym (mutex_own P codes N T s i f next variables arrays c at.cores step_of.calls step_of.frames step_of.runs step_of.starts n 1 mutex.Free
                  (mutex.Owned i) here refl))
                  step_of.starts;
              others = mutex_others P codes N T s i f next variables arrays c at.cores step_of.calls step_of.frames step_of.runs step_of.starts n 1 mutex.Free
                  (mutex.Owned i) here refl;
            };
            waits = λ no. absurd (let yes = may mutex.Free here false no in cc);
          })
      go (Some (mutex.Owned j)) here d =
          subst (λ z. ServesLock (asks_mutex z 1)) (sym (same_number (mutex.Owned j) here))
          (record {
            core = mutex_core N n;
            is = is_core (mutex.Owned j) here;
            goes = λ yes. absurd (let no = may (mutex.Owned j) here true yes in cc);
            waits = λ no. blocked (nat_eq i j) d;
          })
        where
          blocked : (b : Bool) → step P s i ≡ (if b then Undefines offset Mutex else Blocks waits.Mutex) → (c_source P).step s i ≡ Blocked
          blocked true x = absurd (undefined offset x)
          blocked false x = ap outcome_of x

  serves_lock : ServesLock ask
  serves_lock = go step_of.act step_of.same step_of.steps
    where
      same_ask : asks_mutex (residue_of 64 (act_value variables m)) 1 ≡ ask
      same_ask = let e = at.asks in cc

      go : (a : Act) → SameAct P variables (act.MutexLock m) a step_of.operands →
          step P s i ≡ acted P (with_slot s i (Running step_of.frames)) i step_of.offset a step_of.operands → ServesLock ask
      go Act.MutexLock same e =
          let named = names variables m [] step_of.operands same.0 same.1 in
          subst ServesLock same_ask
          (locks step_of.offset named.number named.word
          (e ∙ ap (λ n. mutex_locked (with_slot s i (Running step_of.frames)) i step_of.offset n (slice_get s.mutexes n)) named.object))
      go a same e = absurd same

pub locks_are_steps : (mutex : ActOperand) → RequestIsStep (act.MutexLock mutex)
locks_are_steps m P codes N T R numbers acts s i f l next variables arrays ask c at =
    serves_lock m P codes N T R numbers s i f l next variables arrays c ask at
    (acts P codes s i f l next variables arrays (act.MutexLock m) R at.reached at.defined at.starts at.listed no_return)
  where
    no_return : act.MutexLock m ≢ act.Return
    no_return e = cc
