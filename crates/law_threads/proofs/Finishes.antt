-- The return of a thread's outermost call is always granted: the thread has finished.
use Rattle.std.specs.Prelude.{Bool, true, if◌then◌else◌, ℤ, Option, Some, None, slice_get, slice_set, slice_index}
use Rattle.std.specs.List.{list_any}
use Rattle.std.proofs.Common.{◌≡◌, ◌≢◌, ℕ, zero, suc, ◌<◌, List, [], refl, sym, ap, ◌∙◌, subst, ⊎_elim, arith}
use Rattle.std.proofs.lemmas.Option.{slice_get_within, none-some, same_Some}
use Rattle.std.proofs.lemmas.List.{get_or-set_other, get_or-set_same, length-set}
use Rattle.lists.proofs.Places.{set_there, set_elsewhere}
use Rattle.c_program.specs.Tree.{Program}
use Rattle.c_program.specs.Resolved.{IsResolved}
use Rattle.thread_semantics.specs.State.{Frame, Slot, Running, Finished, State}
use Rattle.thread_semantics.specs.Step.{with_slot, is_waiter, is_running, finished, step}
use Rattle.interleaving.specs.Memory.{Location, Memory}
use Rattle.interleaving.specs.Source.{View, view_at}
use Rattle.interleaving.specs.Threaded.{IsSynchronizing}
use Rattle.block_ir.specs.declared.code.Act.{Act as CodeAct}
use Rattle.block_ir.specs.declared.code.Act.TheVariants as act
use Rattle.block_ir.specs.declared.code.Stage.{Stage}
use Rattle.block_ir.specs.declared.code.Stage.TheVariants as stage
use Rattle.planned_block.proofs.Bits.{less_is, other_is}
use Rattle.planned_block.specs.Following.{Follows}
use Rattle.race_model.specs.Source.{Local, local_of, running, outcome_of, c_source}
use Rattle.race_model.proofs.Lists.{get-set_cases}
use Rattle.race_model.proofs.Orderly.{orderly}
use Rattle.code_following.specs.Following.{print_formats}
use Rattle.block_ir.specs.Asked.{Asked, asked, Numbers, mutex_core, barrier_core, thread_ids_core, printer_core}
use Rattle.block_ir.specs.declared.service.Service.TheVariants.{ThreadIds}
use Rattle.core_states.specs.Machines.{ids_after}
use Rattle.law_threads.specs.Cores.{Core, OfThreadIds, may_grant, status_in, argument_in, waits_in}
use Rattle.law_threads.specs.Stands.{status_of, StandsFor, ThreadIdsStand}
use Rattle.block_refine.specs.Routines.{Codes, stage_at, blocks_of, plans_of, AtStageOf, AtAct, Starts}
use Rattle.block_refine.specs.Threads.{plan_at, IsTyped}
use Rattle.law_threads.specs.Requests.{AreNumbers, StandsAtAct, Serves, Other, Same, cores_after}
use Rattle.block_refine.proofs.RoutineActs.{ends_as}
use Rattle.law_threads.proofs.ActByAct.{RequestIsStep}
use Rattle.law_threads.proofs.Common.{other_core, same_core}

abbrev asks_finish : Asked
asks_finish = record { service = ThreadIds; core = 0; number = 2; values = [] }

-- a thread at an act runs and waits nowhere
pub runs_at_act : (P : Program) (codes : Codes) (x : Local) (f l next : ℕ) (variables : ℕ → ℤ) (arrays : Memory ℤ) (a : CodeAct) → Starts P codes x f l variables arrays →
    stage_at codes f l ≡ Some (stage.Act a next) → (frames : List Frame) × (x ≡ running frames)
runs_at_act P codes x f l next variables arrays a starts e =
    let at = subst (λ o. AtStageOf P (Follows (c_source P) (IsTyped P) (AtAct P codes) (blocks_of codes) (plans_of codes) f 0) o x variables arrays) e
    ((starts 1).1 (ap (λ (o : Option Stage). (plan_at o (slice_get (codes f).plan.stages l)).states) e)) in
    (at.0, at.1)

module _ (P : Program) (codes : Codes) (N : Numbers) (T : ℕ) (R : IsResolved P) (numbers : AreNumbers P N T) (s : State) (p f l next : ℕ)
    (variables : ℕ → ℤ) (arrays : Memory ℤ) (c : ℕ → Core) (ask : Asked) (at : StandsAtAct P codes N T s (suc p) f l next variables arrays act.Return ask c) where
  abbrev i : ℕ
  i = suc p

  abbrev t : State
  t = with_slot s i Finished

  calls : (frames : List Frame) × (local_of s i ≡ running frames)
  calls = runs_at_act P codes (local_of s i) f l next variables arrays act.Return at.starts at.listed

  slot : slice_get s.slots i ≡ Some (Running calls.0)
  slot = ap (λ (x : Local). x.slot) calls.1

  ends : (offset : ℕ) × (reads : List Location) × (view_at (c_source P) s i ≡ View.Ends reads) × (step P s i ≡ finished s i offset)
  ends = ends_as P codes f R s i l next variables arrays act.Return at.reached at.defined at.starts at.listed refl

  below : i < T
  below = let lt = slice_get_within s.slots i (Running calls.0) slot in let a = (orderly P R s at.reached).threads in let b = numbers.threads in omega arith

  has_thread_ids : N.thread_ids ≡ true
  has_thread_ids = numbers.thread_ids ∙ less_is 1 T (let b = below in omega arith)

  table : ThreadIdsStand T (c (thread_ids_core N)) s.slots
  table = at.cores.thread_ids has_thread_ids

  abbrev after : ℕ → Core
  after = cores_after P codes N T (thread_ids_core N) i asks_finish c

  others_stay : (j : ℕ) → j ≢ thread_ids_core N → after j ≡ c j
  others_stay j ne = other_core T (print_formats P) (thread_ids_core N) i asks_finish c j ne

  here : after (thread_ids_core N) ≡ OfThreadIds (ids_after table.thread_ids i 2 0 0)
  here = same_core T (print_formats P) (thread_ids_core N) i asks_finish c (OfThreadIds table.thread_ids) table.is

  own_two : slice_index (slice_set table.thread_ids.statuses i 2) i ≡ 2
  own_two = get_or-set_same table.thread_ids.statuses i 2 0 (let z = table.statuses in let b = below in omega arith)

  each : (j : ℕ) (x : Slot) → 0 < j → slice_get t.slots j ≡ Some x → slice_index (slice_set table.thread_ids.statuses i 2) j ≡ status_of x
  each j x lt e =
      ⊎_elim
      (λ same. subst (λ k. slice_index (slice_set table.thread_ids.statuses i 2) k ≡ status_of x) same.0 (own_two ∙ ap status_of same.1))
      (λ other. get_or-set_other table.thread_ids.statuses i j 2 0 (λ q. other.0 (sym q)) ∙ table.each j x lt other.1)
      (get-set_cases s.slots i j Finished x e)

  stands : StandsFor N T after t
  stands = record {
    mutexes = λ m x e. others_stay (mutex_core N m) (λ q. absurd (let lt = slice_get_within s.mutexes m x e in let z = at.cores.mutex_count in omega arith))
        ∙ at.cores.mutexes m x e;
    barriers = λ m b e.
        let k = at.cores.barriers m b e in
        record {
          gate = k.gate;
          is = others_stay (barrier_core N m) (λ q. absurd (let lt = slice_get_within s.barriers m b e in let z = at.cores.barrier_count in omega arith)) ∙ k.is;
          stands = k.stands;
        };
    thread_ids = λ _. record {
      thread_ids = ids_after table.thread_ids i 2 0 0;
      is = here;
      statuses = length-set table.thread_ids.statuses i 2 ∙ table.statuses;
      arguments = table.arguments;
      main = get_or-set_other table.thread_ids.statuses i 0 2 0 (λ q. absurd (omega arith)) ∙ table.main;
      each = each;
    };
    output = others_stay (printer_core N) (λ q. absurd (let one : ◌≡◌ {A = ℕ} (if N.thread_ids then 1 else 0) 1 = ap (λ (b : Bool). if b then 1 else 0) has_thread_ids in omega arith))
        ∙ at.cores.output;
    mutex_count = at.cores.mutex_count;
    barrier_count = at.cores.barrier_count;
  }

  stays : (j : ℕ) → j ≢ i → Other P N c after s t j
  stays j ne =
      Same
      (λ d. record { slot = set_elsewhere s.slots i j Finished (λ e. ne (sym e)) d; waits = list_any (is_waiter j) s.barriers })
      (record {
        status = ap (λ (z : Core). status_in z j) here ∙ get_or-set_other table.thread_ids.statuses i j 2 0 ne ∙ sym (ap (λ (z : Core). status_in z j) table.is);
        argument = ap (λ (z : Core). argument_in z j) here ∙ sym (ap (λ (z : Core). argument_in z j) table.is);
        bits = λ m lt. ap (λ (z : Core). waits_in z j) (others_stay (barrier_core N m) (λ e. absurd (omega arith)));
      })

  two_now : status_in (after (thread_ids_core N)) i ≡ 2
  two_now = ap (λ (z : Core). status_in z i) here ∙ own_two

  serves_here : Serves P codes N T s i f next variables arrays act.Return asks_finish c
  serves_here = record {
    core = thread_ids_core N;
    is = ap (λ (b : Bool). if b then Some (thread_ids_core N) else None) has_thread_ids;
    goes = λ _. record {
      state = t;
      view = subst IsSynchronizing (sym ends.2) tt;
      steps = ap outcome_of ends.3;
      stands = stands;
      own = (ap is_running (set_there s.slots i (Running calls.0) Finished slot), λ e. absurd (let z = two_now in omega arith));
      others = stays;
    };
    waits = λ no. absurd (let z = sym (ap (λ (z : Core). may_grant z i asks_finish) table.is) ∙ no in cc);
  }

  serves_finish : Serves P codes N T s i f next variables arrays act.Return ask c
  serves_finish =
      let same : asks_finish ≡ ask =
      same_Some asks_finish ask (ap (λ (b : Bool). asked b act.Return variables) (sym (other_is (suc p) 0 (λ e. absurd (omega arith)))) ∙ at.asks) in
      subst (λ z. Serves P codes N T s i f next variables arrays act.Return z c) same serves_here

pub finishes_are_steps : RequestIsStep act.Return
finishes_are_steps P codes N T R numbers acts s zero f l next variables arrays ask c at = absurd (none-some ask at.asks)
finishes_are_steps P codes N T R numbers acts s (suc p) f l next variables arrays ask c at = serves_finish P codes N T R numbers s p f l next variables arrays c ask at
