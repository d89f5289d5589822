-- The machine's first cores are what the program begins with.
use Rattle.std.specs.Prelude.{Bool, true, false, Some, slice_get}
use Rattle.std.specs.List.{flat_map}
use Rattle.std.proofs.Common.{◌≡◌, ℕ, zero, suc, List, [], ◌∷◌, ◌++◌, replicate, refl, sym, ap, ◌∙◌, subst, arith}
use Rattle.std.proofs.lemmas.Option.{slice_get_within}
use Rattle.c_program.specs.declared.tree.MutexObject.{MutexObject}
use Rattle.c_program.specs.Tree.{Program}
use Rattle.thread_semantics.specs.declared.object.MutexState.{MutexState}
use Rattle.thread_semantics.specs.declared.object.MutexState.TheVariants as mutex
use Rattle.thread_semantics.specs.State.{first_mutex, first_mutexes, start}
use Rattle.mutex_cores.specs.declared.mutex.Shape.{Shape as MutexShape}
use Rattle.mutex_cores.specs.Machine.{initial_mutex}
use Rattle.block_ir.specs.Asked.{Numbers, mutex_core, barrier_core, thread_ids_core, printer_core}
use Rattle.law_threads.specs.Cores.{Core, OfMutex}
use Rattle.law_threads.specs.Stands.{mutex_of}
use Rattle.law_banks.proofs.Partitioned.{there}
use Rattle.law_cycle.specs.Built.{Parts, IsBuilt, Machine}
use Rattle.law_cycle.specs.Bodies.{numbers_of}
use Rattle.law_cycle.specs.Stage.{cores_shown}
use Rattle.law_cycle.specs.Cycle.{First}
use Rattle.law_cycle.proofs.Start.{net_starts}
use Rattle.law_net.specs.Start.{CountElements, AreFirst}
use Rattle.law_net.specs.Follows.{IsFirst}
use Rattle.planned_block.specs.Slot.{Slot}
use Rattle.std.proofs.lemmas.List.{length-replicate}
use Rattle.law_net.proofs.ThreadsStart.{mutexes_counted}

-- at the start nobody owns a mutex
abbrev NotOwned : MutexState → Type 0
NotOwned (mutex.Owned i) = ⊥
NotOwned m = Unit {0}

first_free : (b : Bool) → NotOwned (first_mutex b)
first_free true = tt
first_free false = tt

in_part : (l k : ℕ) (b : Bool) (rest : List MutexState) (m : MutexState) → ((j : ℕ) → slice_get rest j ≡ Some m → NotOwned m) →
    slice_get (replicate l (first_mutex b) ++ rest) k ≡ Some m → NotOwned m
in_part zero k b rest m later e = later k e
in_part (suc l) zero b rest m later e = let same : first_mutex b ≡ m = cc in subst NotOwned same (first_free b)
in_part (suc l) (suc k) b rest m later e = in_part l k b rest m later e

nobody_owns : (os : List MutexObject) (n : ℕ) (m : MutexState) → slice_get (flat_map first_mutexes os) n ≡ Some m → NotOwned m
nobody_owns [] n m e = absurd cc
nobody_owns (o ∷ os) n m e = in_part o.length n o.initialised (flat_map first_mutexes os) m (λ j d. nobody_owns os j m d) e

module _ (P : Program) (K : Parts) (built : IsBuilt P K) where
  abbrev N : Numbers
  N = numbers_of K.cores

  pub begin : First P K
  begin = net_starts P K built

  pub counts_elements : CountElements P N
  counts_elements = record { mutexes = built.mutexes.count; barriers = built.barriers }

  abbrev net : Machine K
  net = begin.stage.net

  abbrev cores : ℕ → Core
  cores = cores_shown P K net begin.stage.out

  nothing_yet : (k : ℕ) → cores k ≡ cores_shown P K net [] k
  nothing_yet k = ap (λ (out : List ℕ). cores_shown P K net out k) begin.out

  is_lock : (n : ℕ) (m : MutexState) (s : MutexShape) → slice_get (start P).mutexes n ≡ Some m → slice_get K.cores.mutexes n ≡ Some s → initial_mutex s.initialised ≡ mutex_of m
  is_lock n mutex.Free s e listed = ap initial_mutex ((built.mutexes.free n s listed).1 e)
  is_lock n mutex.Uninitialised s e listed = by s.initialised refl
    where
      by : (b : Bool) → s.initialised ≡ b → initial_mutex s.initialised ≡ mutex_of mutex.Uninitialised
      by true on = absurd (let free = sym e ∙ (built.mutexes.free n s listed).0 on in cc)
      by false off = ap initial_mutex off
  is_lock n (mutex.Owned i) s e listed = absurd (nobody_owns P.mutexes n (mutex.Owned i) e)

  first_mutex_is : (n : ℕ) (m : MutexState) → slice_get (start P).mutexes n ≡ Some m → cores (mutex_core N n) ≡ OfMutex (mutex_of m)
  first_mutex_is n m e =
      let lt = slice_get_within (start P).mutexes n m e in
      let all = mutexes_counted P.mutexes in
      let count = built.mutexes.count in
      let s = there K.cores.mutexes n (omega (arith, lt, all, count)) in
      nothing_yet (mutex_core N n) ∙ begin.mutexes n s.0 s.1 ∙ ap OfMutex (is_lock n m s.0 e s.1)

  pub are_first : AreFirst P N K.cores.threads cores
  are_first = record {
    mutexes = first_mutex_is;
    barriers = λ n lt. nothing_yet (barrier_core N n) ∙ begin.barriers n lt;
    thread_ids = λ on. (replicate K.cores.threads 0, length-replicate K.cores.threads 0, nothing_yet (thread_ids_core N) ∙ begin.thread_ids on);
    printer = nothing_yet (printer_core N) ∙ begin.printer;
  }

  pub is_first : IsFirst P K begin.stage
  is_first = record {
    out = begin.out;
    slots = λ i.
        let e = begin.slots i in
        record {
          routine = ap (λ (q : Slot). q.routine) e;
          stage = ap (λ (q : Slot). q.stage) e;
          state = ap (λ (q : Slot). q.state) e;
          granted = λ k. ap (λ (q : Slot). q.granted k) e;
        };
    memory = begin.memory;
    cores = are_first;
  }
