-- The start: the first cores stand for the first state, and each thread rests.
use Rattle.std.specs.Prelude.{Bool, true, false, if◌then◌else◌, Some, slice_get, slice_index, sum_by}
use Rattle.std.specs.List.{flat_map, list_any}
use Rattle.std.proofs.Common.{◌≡◌, ℕ, zero, suc, ◌<◌, List, [], length, replicate, refl, sym, ap, ◌∙◌, subst, inl, inr, arith}
use Rattle.std.proofs.lemmas.List.{length-replicate}
use Rattle.std.proofs.lemmas.List.Concat.{length-flat_map}
use Rattle.std.proofs.lemmas.Option.{slice_get_within}
use Rattle.lists.proofs.Places.{zeros_at, copies_are}
use Rattle.c_program.specs.declared.tree.ThreadObject.{ThreadObject}
use Rattle.c_program.specs.declared.tree.MutexObject.{MutexObject}
use Rattle.c_program.specs.declared.tree.BarrierObject.{BarrierObject}
use Rattle.c_program.specs.Tree.{Program}
use Rattle.c_program.specs.Resolved.{IsResolved}
use Rattle.thread_semantics.specs.State.{Slot as ThreadSlot, Unused, Running, NoBarrier, first_mutex, first_mutexes, started, start}
use Rattle.thread_semantics.specs.Step.{is_running, is_waiter}
use Rattle.bank_partition.specs.declared.banks.Spread.{Spread}
use Rattle.planned_block.specs.Slot.{Slot}
use Rattle.planned_block.proofs.Bits.{other_is}
use Rattle.race_model.specs.Source.{local_of, running}
use Rattle.law_threads.specs.Cores.{Core, status_in, status_at}
use Rattle.block_ir.specs.Asked.{Numbers, thread_ids_core, printer_core}
use Rattle.law_threads.specs.Stands.{status_of, CoreBarrierStands, StandsFor}
use Rattle.code_following.specs.Following.{HasArguments}
use Rattle.block_refine.specs.Routines.{Codes, rest_of, Starts}
use Rattle.block_refine.proofs.RoutineLaws.{code_follows}
use Rattle.law_threads.specs.Surroundings.{routine_of, Idle}
use Rattle.law_threads.specs.Laws.{AreCoded, Rests}
use Rattle.law_net.specs.Start.{CountElements, AreFirst, IsFresh, ThreadsStart}

-- ---- how many there are

pub mutexes_counted : (os : List MutexObject) → length (flat_map first_mutexes os) ≡ sum_by (λ (o : MutexObject). o.length) os
mutexes_counted os = length-flat_map first_mutexes os ∙ (λ d. sum_by (λ (o : MutexObject). length-replicate o.length (first_mutex o.initialised) d) os)

unused_there : (n i : ℕ) (x : ThreadSlot) → slice_get (replicate n Unused) i ≡ Some x → x ≡ Unused
unused_there zero i x e = absurd cc
unused_there (suc n) zero x e = cc
unused_there (suc n) (suc i) x e = unused_there n i x e

nobody_waits : (i n : ℕ) → list_any (is_waiter i) (replicate n NoBarrier) ≡ false
nobody_waits i zero = refl
nobody_waits i (suc n) = nobody_waits i n

none_runs : (n i : ℕ) → is_running (slice_get (replicate n Unused) i) ≡ false
none_runs zero i = refl
none_runs (suc n) zero = refl
none_runs (suc n) (suc i) = none_runs n i

module _ (P : Program) (codes : Codes) (N : Numbers) (T : ℕ) (spreads : List Spread) (chain : ℕ → ℕ → ℕ) (R : IsResolved P) (counts : CountElements P N)
    (coded : AreCoded P codes chain) (c : ℕ → Core) (first : AreFirst P N T c) (slots : ℕ → Slot) (fresh : (i : ℕ) → IsFresh P codes i (slots i)) where
  abbrev thread_ids_number : ℕ
  thread_ids_number = sum_by (λ (o : ThreadObject). o.length) P.threads

  -- ---- the cores

  mutex_total : length (start P).mutexes ≡ N.mutexes
  mutex_total = mutexes_counted P.mutexes ∙ sym counts.mutexes

  barrier_total : length (start P).barriers ≡ N.barriers
  barrier_total = length-replicate (sum_by (λ (o : BarrierObject). o.length) P.barriers) NoBarrier ∙ sym counts.barriers

  stands : StandsFor N T c (start P)
  stands = record {
    mutexes = first.mutexes;
    barriers = λ n b e.
        let none = copies_are (sum_by (λ (o : BarrierObject). o.length) P.barriers) NoBarrier n b e in
        record {
          gate = record { count = 0; waiting = replicate T 0 };
          is = first.barriers n (let lt = slice_get_within (start P).barriers n b e in let t = barrier_total in omega arith);
          stands = subst (CoreBarrierStands T (record { count = 0; waiting = replicate T 0 })) (sym none)
              (record { sized = length-replicate T 0; bits = λ i lt. zeros_at T i; count = λ k ws q. absurd cc });
        };
    thread_ids = λ has. record {
      thread_ids = record { statuses = replicate T 0; arguments = (first.thread_ids has).0 };
      is = (first.thread_ids has).2;
      statuses = length-replicate T 0;
      arguments = (first.thread_ids has).1;
      main = zeros_at T 0;
      each = each;
    };
    output = first.printer;
    mutex_count = mutex_total;
    barrier_count = barrier_total;
  }
    where
      each : (i : ℕ) (x : ThreadSlot) → 0 < i → slice_get (start P).slots i ≡ Some x → slice_index (replicate T 0) i ≡ status_of x
      each zero x lt e = absurd (omega arith)
      each (suc i) x lt e = zeros_at T (suc i) ∙ sym (ap status_of (unused_there thread_ids_number i x e))

  -- ---- the slots

  no_status : (i : ℕ) (b : Bool) → N.thread_ids ≡ b → status_at N c i ≡ 0
  no_status i true e = ap (λ (k : Core). status_in k i) ((first.thread_ids e).2) ∙ zeros_at T i
  no_status i false e =
      let none : ◌≡◌ {A = ℕ} (if N.thread_ids then 1 else 0) 0 = ap (λ (b : Bool). if b then 1 else 0) e in
      let same : printer_core N ≡ thread_ids_core N = omega arith in
      ap (λ (k : Core). status_in k i) (ap c (sym same) ∙ first.printer)

  main_runs : local_of (start P) 0 ≡ running (started (slice_get P.functions P.main) P.main [])
  main_runs = λ d. record {
    slot = Some (Running (started (slice_get P.functions P.main) P.main []));
    waits = nobody_waits 0 (sum_by (λ (o : BarrierObject). o.length) P.barriers) d;
  }

  rests : (i : ℕ) → Rests P codes N T spreads chain c i (local_of (start P) i) (slots i)
  rests zero =
      let q = slots 0 in
      inl (record {
        starts =
            subst (λ f. Starts P codes (local_of (start P) 0) f q.stage q.variables q.arrays) (sym (fresh 0).routine)
            (subst (λ l. Starts P codes (local_of (start P) 0) P.main l q.variables q.arrays) (sym (fresh 0).stage)
            (subst (λ x. Starts P codes x P.main 0 q.variables q.arrays) (sym main_runs)
            (code_follows P codes P.main R.main.code R R.main.found (coded.lowered 0 P.main refl) coded.planned q.variables q.arrays []
            (subst (λ o. HasArguments o q.variables []) (sym coded.main) tt))));
        state = (fresh 0).state;
        granted = (fresh 0).granted;
      })
  rests (suc i) =
      inr (Idle (omega arith) (fresh (suc i)).routine at_rest (none_runs thread_ids_number i) (λ e. absurd (let z = no_status (suc i) N.thread_ids refl in omega (arith, z, e))))
    where
      at_rest : (slots (suc i)).stage ≡ rest_of codes (slots (suc i)).routine
      at_rest =
          (fresh (suc i)).stage ∙ ap (λ (b : Bool). if b then 0 else rest_of codes (routine_of P (suc i))) (other_is (suc i) 0 (λ e. absurd (omega arith)))
          ∙ ap (rest_of codes) (sym (fresh (suc i)).routine)

pub threads_start : (P : Program) (codes : Codes) (N : Numbers) (T : ℕ) (spreads : List Spread) (chain : ℕ → ℕ → ℕ) → ThreadsStart P codes N T spreads chain
threads_start P codes N T spreads chain R numbers counts coded c first slots fresh =
    record { stands = stands P codes N T spreads chain R counts coded c first slots fresh; rests = rests P codes N T spreads chain R counts coded c first slots fresh }
