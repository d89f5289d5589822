-- The other acts of mutexes: init, unlock and destroy are always granted.
use Rattle.std.specs.Prelude.{Bool, true, false, nat_eq, if◌then◌else◌, ℤ, Option, Some, None, slice_get, slice_set, ◌^◌}
use Rattle.std.proofs.Common.{◌≡◌, ◌≢◌, ℕ, ◌<◌, [], refl, sym, ap, ◌∙◌, subst, arith}
use Rattle.std.proofs.lemmas.Option.{slice_get_within}
use Rattle.hls_ints.specs.Residues.{residue_of}
use Rattle.c_program.specs.Tree.{Program}
use Rattle.c_program.specs.Resolved.{IsResolved}
use Rattle.thread_semantics.specs.declared.object.MutexState.{MutexState}
use Rattle.thread_semantics.specs.declared.object.MutexState.TheVariants as mutex
use Rattle.thread_semantics.specs.declared.cause.UndefinedCause.TheVariants.{Mutex}
use Rattle.thread_semantics.specs.State.{Running, State}
use Rattle.thread_semantics.specs.Work.{Act}
use Rattle.thread_semantics.specs.Step.{Undefines, with_slot, with_mutex, mutex_initialised, mutex_unlocked, mutex_destroyed, acted, step}
use Rattle.interleaving.specs.Memory.{Memory}
use Rattle.interleaving.specs.Threaded.{IsSynchronizing}
use Rattle.block_ir.specs.declared.code.Act.{Act as CodeAct}
use Rattle.block_ir.specs.declared.code.Act.TheVariants as act
use Rattle.block_ir.specs.declared.code.ActOperand.{ActOperand}
use Rattle.planned_block.proofs.Bits.{less_is}
use Rattle.race_model.specs.Source.{Local, outcome_of}
use Rattle.block_ir.specs.Asked.{act_value, Asked, Numbers, mutex_core}
use Rattle.core_states.specs.Machines.{CoreMutex, mutex_eligible, mutex_after}
use Rattle.law_threads.specs.Cores.{Core, may_grant}
use Rattle.law_threads.specs.Stands.{mutex_of}
use Rattle.code_following.specs.Following.{SameAct}
use Rattle.block_refine.specs.Routines.{Codes, Starts}
use Rattle.block_refine.specs.RoutineActs.{IsStepOf}
use Rattle.law_threads.specs.Requests.{AreNumbers, StandsAtAct, Serves, OwnAfter}
use Rattle.law_threads.proofs.ActByAct.{RequestIsStep}
use Rattle.law_threads.proofs.Common.{names, never}
use Rattle.law_threads.proofs.LockSteps.{asks_mutex, mutex_stands, mutex_own, mutex_others}

module _ (a : CodeAct) (m : ActOperand) (operation : ℕ) (P : Program) (codes : Codes) (N : Numbers) (T : ℕ) (R : IsResolved P) (numbers : AreNumbers P N T) (s : State)
    (i f l next : ℕ)
    (variables : ℕ → ℤ) (arrays : Memory ℤ) (c : ℕ → Core) (ask : Asked) (at : StandsAtAct P codes N T s i f l next variables arrays a ask c)
    (step_of : IsStepOf P codes s i f next variables arrays a)
    (own : (d : ℕ → Core) (x : Local) → Starts P codes x f next variables arrays → OwnAfter P codes N d i x f next variables arrays a)
    (always : (l : CoreMutex) → mutex_eligible l operation ≡ true) where
  pub undefined : (offset : ℕ) → step P s i ≡ Undefines offset Mutex → ⊥
  undefined offset e = never P R s i offset Mutex step_of.calls at.reached at.defined step_of.runs e

  pub serve : (n : ℕ) (word : n < 2 ^ 64 → residue_of 64 (act_value variables m) ≡ n) (old new : MutexState) → slice_get s.mutexes n ≡ Some old →
      mutex_after (mutex_of old) i operation ≡ mutex_of new → step P s i ≡ with_mutex (with_slot s i (Running step_of.frames)) n new →
      Serves P codes N T s i f next variables arrays a (asks_mutex (residue_of 64 (act_value variables m)) operation) c
  serve n word old new here becomes steps =
      subst (λ z. Serves P codes N T s i f next variables arrays a (asks_mutex z operation) c) (sym (word few))
      (record {
        core = mutex_core N n;
        is = ap (λ (b : Bool). if b then Some (mutex_core N n) else None) (less_is n N.mutexes below);
        goes = λ _. record {
          state = record s { slots = slice_set s.slots i (Running step_of.frames); mutexes = slice_set s.mutexes n new };
          view = subst IsSynchronizing (sym step_of.view) tt;
          steps = ap outcome_of steps;
          stands = mutex_stands P codes N T s i f next variables arrays c at.cores step_of.calls step_of.frames step_of.runs step_of.starts n operation old new here becomes;
          own =
              own _ _
              (subst (λ x. Starts P codes x f next variables arrays)
              (sym (mutex_own P codes N T s i f next variables arrays c at.cores step_of.calls step_of.frames step_of.runs step_of.starts n operation old new here becomes))
              step_of.starts);
          others = mutex_others P codes N T s i f next variables arrays c at.cores step_of.calls step_of.frames step_of.runs step_of.starts n operation old new here becomes;
        };
        waits = λ no.
            absurd (let t : true ≡ false =
            sym (always (mutex_of old)) ∙ sym (ap (λ (z : Core). may_grant z i (asks_mutex n operation)) (at.cores.mutexes n old here)) ∙ no in
            cc);
      })
    where
      below : n < N.mutexes
      below = let lt = slice_get_within s.mutexes n old here in let e = at.cores.mutex_count in omega arith

      few : n < 2 ^ 64
      few = let lt = below in let e = numbers.few_mutexes in omega arith

pub inits_are_steps : (m : ActOperand) → RequestIsStep (act.MutexInit m)
inits_are_steps m P codes N T R numbers acts s i f l next variables arrays ask c at =
    go there.act there.same there.steps
  where
    no_return : act.MutexInit m ≢ act.Return
    no_return e = cc

    there : IsStepOf P codes s i f next variables arrays (act.MutexInit m)
    there = acts P codes s i f l next variables arrays (act.MutexInit m) R at.reached at.defined at.starts at.listed no_return

    same_ask : asks_mutex (residue_of 64 (act_value variables m)) 0 ≡ ask
    same_ask = let e = at.asks in cc

    cases : (offset n : ℕ) → (n < 2 ^ 64 → residue_of 64 (act_value variables m) ≡ n) → (o : Option MutexState) → slice_get s.mutexes n ≡ o →
        step P s i ≡ mutex_initialised (with_slot s i (Running there.frames)) offset n o →
        Serves P codes N T s i f next variables arrays (act.MutexInit m) (asks_mutex (residue_of 64 (act_value variables m)) 0) c
    cases offset n word (Some mutex.Uninitialised) here e =
        serve (act.MutexInit m) m 0 P codes N T R numbers s i f l next variables arrays c ask at there (λ d x h. h) (λ l. refl) n word mutex.Uninitialised mutex.Free here refl e
    cases offset n word None here e =
        absurd (undefined (act.MutexInit m) m 0 P codes N T R numbers s i f l next variables arrays c ask at there (λ d x h. h) (λ l. refl) offset e)
    cases offset n word (Some mutex.Free) here e =
        absurd (undefined (act.MutexInit m) m 0 P codes N T R numbers s i f l next variables arrays c ask at there (λ d x h. h) (λ l. refl) offset e)
    cases offset n word (Some (mutex.Owned j)) here e =
        absurd (undefined (act.MutexInit m) m 0 P codes N T R numbers s i f l next variables arrays c ask at there (λ d x h. h) (λ l. refl) offset e)

    go : (a : Act) → SameAct P variables (act.MutexInit m) a there.operands →
        step P s i ≡ acted P (with_slot s i (Running there.frames)) i there.offset a there.operands → Serves P codes N T s i f next variables arrays (act.MutexInit m) ask c
    go Act.MutexInit same e =
        let named = names variables m [] there.operands same.0 same.1 in
        subst (λ z. Serves P codes N T s i f next variables arrays (act.MutexInit m) z c) same_ask
        (cases there.offset named.number named.word (slice_get s.mutexes named.number) refl
        (e ∙ ap (λ n. mutex_initialised (with_slot s i (Running there.frames)) there.offset n (slice_get s.mutexes n)) named.object))
    go a same e = absurd same

pub destroys_are_steps : (m : ActOperand) → RequestIsStep (act.MutexDestroy m)
destroys_are_steps m P codes N T R numbers acts s i f l next variables arrays ask c at =
    go there.act there.same there.steps
  where
    no_return : act.MutexDestroy m ≢ act.Return
    no_return e = cc

    there : IsStepOf P codes s i f next variables arrays (act.MutexDestroy m)
    there = acts P codes s i f l next variables arrays (act.MutexDestroy m) R at.reached at.defined at.starts at.listed no_return

    same_ask : asks_mutex (residue_of 64 (act_value variables m)) 3 ≡ ask
    same_ask = let e = at.asks in cc

    cases : (offset n : ℕ) → (n < 2 ^ 64 → residue_of 64 (act_value variables m) ≡ n) → (o : Option MutexState) → slice_get s.mutexes n ≡ o →
        step P s i ≡ mutex_destroyed (with_slot s i (Running there.frames)) offset n o →
        Serves P codes N T s i f next variables arrays (act.MutexDestroy m) (asks_mutex (residue_of 64 (act_value variables m)) 3) c
    cases offset n word (Some mutex.Free) here e =
        serve (act.MutexDestroy m) m 3 P codes N T R numbers s i f l next variables arrays c ask at there (λ d x h. h) (λ l. refl) n word mutex.Free mutex.Uninitialised here refl e
    cases offset n word None here e =
        absurd (undefined (act.MutexDestroy m) m 3 P codes N T R numbers s i f l next variables arrays c ask at there (λ d x h. h) (λ l. refl) offset e)
    cases offset n word (Some mutex.Uninitialised) here e =
        absurd (undefined (act.MutexDestroy m) m 3 P codes N T R numbers s i f l next variables arrays c ask at there (λ d x h. h) (λ l. refl) offset e)
    cases offset n word (Some (mutex.Owned j)) here e =
        absurd (undefined (act.MutexDestroy m) m 3 P codes N T R numbers s i f l next variables arrays c ask at there (λ d x h. h) (λ l. refl) offset e)

    go : (a : Act) → SameAct P variables (act.MutexDestroy m) a there.operands →
        step P s i ≡ acted P (with_slot s i (Running there.frames)) i there.offset a there.operands → Serves P codes N T s i f next variables arrays (act.MutexDestroy m) ask c
    go Act.MutexDestroy same e =
        let named = names variables m [] there.operands same.0 same.1 in
        subst (λ z. Serves P codes N T s i f next variables arrays (act.MutexDestroy m) z c) same_ask
        (cases there.offset named.number named.word (slice_get s.mutexes named.number) refl
        (e ∙ ap (λ n. mutex_destroyed (with_slot s i (Running there.frames)) there.offset n (slice_get s.mutexes n)) named.object))
    go a same e = absurd same

pub unlocks_are_steps : (m : ActOperand) → RequestIsStep (act.MutexUnlock m)
unlocks_are_steps m P codes N T R numbers acts s i f l next variables arrays ask c at =
    go there.act there.same there.steps
  where
    no_return : act.MutexUnlock m ≢ act.Return
    no_return e = cc

    there : IsStepOf P codes s i f next variables arrays (act.MutexUnlock m)
    there = acts P codes s i f l next variables arrays (act.MutexUnlock m) R at.reached at.defined at.starts at.listed no_return

    same_ask : asks_mutex (residue_of 64 (act_value variables m)) 2 ≡ ask
    same_ask = let e = at.asks in cc

    own_mutex : (offset n j : ℕ) → (n < 2 ^ 64 → residue_of 64 (act_value variables m) ≡ n) → slice_get s.mutexes n ≡ Some (mutex.Owned j) → (b : Bool) →
        step P s i ≡ (if b then with_mutex (with_slot s i (Running there.frames)) n mutex.Free else Undefines offset Mutex) →
        Serves P codes N T s i f next variables arrays (act.MutexUnlock m) (asks_mutex (residue_of 64 (act_value variables m)) 2) c
    own_mutex offset n j word here true e =
        serve (act.MutexUnlock m) m 2 P codes N T R numbers s i f l next variables arrays c ask at there (λ d x h. h) (λ l. refl) n word (mutex.Owned j) mutex.Free here refl e
    own_mutex offset n j word here false e =
        absurd (undefined (act.MutexUnlock m) m 2 P codes N T R numbers s i f l next variables arrays c ask at there (λ d x h. h) (λ l. refl) offset e)

    cases : (offset n : ℕ) → (n < 2 ^ 64 → residue_of 64 (act_value variables m) ≡ n) → (o : Option MutexState) → slice_get s.mutexes n ≡ o →
        step P s i ≡ mutex_unlocked (with_slot s i (Running there.frames)) i offset n o →
        Serves P codes N T s i f next variables arrays (act.MutexUnlock m) (asks_mutex (residue_of 64 (act_value variables m)) 2) c
    cases offset n word (Some (mutex.Owned j)) here e = own_mutex offset n j word here (nat_eq i j) e
    cases offset n word None here e =
        absurd (undefined (act.MutexUnlock m) m 2 P codes N T R numbers s i f l next variables arrays c ask at there (λ d x h. h) (λ l. refl) offset e)
    cases offset n word (Some mutex.Uninitialised) here e =
        absurd (undefined (act.MutexUnlock m) m 2 P codes N T R numbers s i f l next variables arrays c ask at there (λ d x h. h) (λ l. refl) offset e)
    cases offset n word (Some mutex.Free) here e =
        absurd (undefined (act.MutexUnlock m) m 2 P codes N T R numbers s i f l next variables arrays c ask at there (λ d x h. h) (λ l. refl) offset e)

    go : (a : Act) → SameAct P variables (act.MutexUnlock m) a there.operands →
        step P s i ≡ acted P (with_slot s i (Running there.frames)) i there.offset a there.operands → Serves P codes N T s i f next variables arrays (act.MutexUnlock m) ask c
    go Act.MutexUnlock same e =
        let named = names variables m [] there.operands same.0 same.1 in
        subst (λ z. Serves P codes N T s i f next variables arrays (act.MutexUnlock m) z c) same_ask
        (cases there.offset named.number named.word (slice_get s.mutexes named.number) refl
        (e ∙ ap (λ n. mutex_unlocked (with_slot s i (Running there.frames)) i there.offset n (slice_get s.mutexes n)) named.object))
    go a same e = absurd same
