-- A wait at a barrier is the step of its thread: it joins the waiters, or all go on.
use Rattle.std.specs.Prelude.{Bool, true, false, not, nat_eq, nat_lt, ◌||◌, if◌then◌else◌, ℤ, Option, Some, None, slice_get, slice_set, slice_index, unsigned_abs, ◌^◌}
use Rattle.std.specs.List.{IsDistinct, list_any}
use Rattle.std.proofs.Common.{◌≡◌, ◌≢◌, ℕ, suc, ◌+◌, ◌<◌, List, [], ◌∷◌, length, replicate, refl, sym, ap, ◌∙◌, subst, ⊎_elim, arith}
use Rattle.std.proofs.lemmas.Bool.{eqb-true, eqb-false, cases_eq}
use Rattle.std.proofs.lemmas.List.{length-replicate, get_or-set_other, get_or-set_same, length-set}
use Rattle.std.proofs.lemmas.Option.{slice_get_within}
use Rattle.std.proofs.lemmas.Map.Keys.{any_passes_from_place}
use Rattle.lists.proofs.Places.{zeros_at, set_there}
use Rattle.hls_ints.specs.Residues.{residue_of, bit_of}
use Rattle.c_program.specs.Tree.{Program}
use Rattle.c_program.specs.Resolved.{IsResolved}
use Rattle.thread_semantics.specs.declared.cause.UndefinedCause.TheVariants.{Barrier as BarrierCause}
use Rattle.thread_semantics.specs.State.{Running, State, Barrier, NoBarrier, Awaits}
use Rattle.thread_semantics.specs.Work.{Act}
use Rattle.thread_semantics.specs.Step.{Undefines, with_slot, with_barrier, barrier_met, acted, is_waiter, step}
use Rattle.interleaving.specs.Memory.{Memory}
use Rattle.interleaving.specs.Threaded.{IsSynchronizing}
use Rattle.block_ir.specs.declared.code.Act.TheVariants as act
use Rattle.block_ir.specs.declared.code.ActOperand.{ActOperand}
use Rattle.planned_block.proofs.Bits.{less_is, not_less_is, same_is, other_is}
use Rattle.race_model.specs.Source.{Local, outcome_of}
use Rattle.race_model.specs.Orderly.{waits_in, AreWaiters}
use Rattle.race_model.proofs.Lists.{list_any_at}
use Rattle.race_model.proofs.Orderly.{orderly, none_same}
use Rattle.block_ir.specs.Asked.{act_value, Asked, Numbers, barrier_core, core_of}
use Rattle.code_following.specs.Following.{print_formats, SameAct}
use Rattle.core_states.specs.Machines.{CoreBarrier, total_of, with_waiter}
use Rattle.law_threads.specs.Cores.{Core, OfBarrier, may_grant, granted, waits_in as core_waits}
use Rattle.law_threads.specs.Stands.{CoreBarrierStands, BarrierStands}
use Rattle.core_states.proofs.Waiters.{waiters_count}
use Rattle.block_refine.specs.Routines.{Codes}
use Rattle.block_refine.specs.RoutineActs.{IsStepOf}
use Rattle.law_threads.specs.Requests.{AreNumbers, StandsAtAct, Serves, Other, cores_after}
use Rattle.law_threads.proofs.ActByAct.{RequestIsStep}
use Rattle.law_threads.proofs.Common.{names, never, same_core}
use Rattle.law_threads.proofs.Anywhere.{any_set_same, all_below, live_frames}
use Rattle.law_threads.proofs.BarrierActs.{asks_barrier, barrier_stands, own_slot, same_other, released, no_bit}

one_more_distinct : (i : ℕ) (ws : List ℕ) → list_any (nat_eq i) ws ≡ false → IsDistinct nat_eq ws → IsDistinct nat_eq (i ∷ ws)
unfolding IsDistinct
one_more_distinct i ws apart distinct = (none_same i ws apart, distinct)

module _ (P : Program) (codes : Codes) (N : Numbers) (T : ℕ) (R : IsResolved P) (numbers : AreNumbers P N T) (m : ActOperand) (s : State) (i f l next : ℕ)
    (variables : ℕ → ℤ) (arrays : Memory ℤ) (c : ℕ → Core) (ask : Asked) (at : StandsAtAct P codes N T s i f l next variables arrays (act.BarrierWait m) ask c)
    (step_of : IsStepOf P codes s i f next variables arrays (act.BarrierWait m)) where
  abbrev ServesWait : Asked → Type 0
  ServesWait a = Serves P codes N T s i f next variables arrays (act.BarrierWait m) a c

  undefined : (offset : ℕ) → step P s i ≡ Undefines offset BarrierCause → ⊥
  undefined offset e = never P R s i offset BarrierCause step_of.calls at.reached at.defined step_of.runs e

  i_below : i < T
  i_below =
      let lt = slice_get_within s.slots i (Running step_of.calls) (ap (λ (x : Local). x.slot) step_of.runs) in
      let a = (orderly P R s at.reached).threads in
      let b = numbers.threads in
      omega arith

  -- barrier n has its count, and these waiters
  module _ (n : ℕ) (word : residue_of 64 (act_value variables m) ≡ n) (count : ℤ) (waiters : List ℕ) (here : slice_get s.barriers n ≡ Some (Awaits count waiters)) where
    abbrev before : BarrierStands T (c (barrier_core N n)) (Awaits count waiters)
    before = at.cores.barriers n (Awaits count waiters) here

    abbrev g : CoreBarrier
    g = before.gate

    abbrev granted_barrier : Core
    granted_barrier = granted T (print_formats P) (OfBarrier g) i (asks_barrier n 1 [])

    apart : list_any (nat_eq i) waiters ≡ false
    apart = list_any_at (is_waiter i) s.barriers n (Awaits count waiters) (ap (λ (x : Local). x.waits) step_of.runs) here

    are : AreWaiters count waiters
    are = (orderly P R s at.reached).barriers n count waiters here

    count_is : unsigned_abs count ≡ g.count
    count_is = ap unsigned_abs (sym (before.stands.count count waiters refl))

    waiter_below : (w : ℕ) → list_any (nat_eq w) waiters ≡ true → w < T
    waiter_below w e =
        let live = live_frames (slice_get s.slots w) ((orderly P R s at.reached).waiter n w (ap (waits_in w) here ∙ e)) in
        let lt = slice_get_within s.slots w (Running live.0) live.1 in
        let a = (orderly P R s at.reached).threads in
        let b = numbers.threads in
        omega arith

    joined_bits : (j : ℕ) → j < T → slice_index (with_waiter g i) j ≡ bit_of (list_any (nat_eq j) (i ∷ waiters))
    joined_bits j lt =
        ⊎_elim
        (λ same.
        subst (λ z. slice_index (with_waiter g i) z ≡ bit_of (list_any (nat_eq z) (i ∷ waiters))) (sym same)
        (get_or-set_same g.waiting i 1 0 (let e = before.stands.sized in let b = i_below in omega arith)
        ∙ sym (ap (λ (b : Bool). bit_of (b || list_any (nat_eq i) waiters)) (same_is i i refl))))
        (λ ne.
        get_or-set_other g.waiting i j 1 0 ne ∙ before.stands.bits j lt ∙ sym (ap (λ (b : Bool). bit_of (b || list_any (nat_eq j) waiters)) (other_is j i ne)))
        (cases_eq j i)

    total : total_of T (with_waiter g i) ≡ suc (length waiters)
    total = waiters_count T (with_waiter g i) (i ∷ waiters) (one_more_distinct i waiters apart are.distinct) (i_below, all_below T waiters waiter_below) joined_bits

    is_core : core_of N (asks_barrier n 1 []) ≡ Some (barrier_core N n)
    is_core =
        let lt = slice_get_within s.barriers n (Awaits count waiters) here in
        let e = at.cores.barrier_count in
        ap (λ (b : Bool). if b then Some (barrier_core N n) else None) (less_is n N.barriers (omega arith))

    n_below : residue_of 64 (act_value variables m) < N.barriers
    n_below = let lt = slice_get_within s.barriers n (Awaits count waiters) here in let e = at.cores.barrier_count in let w = word in omega arith

    may : (b : Bool) → may_grant (c (barrier_core N n)) i (asks_barrier n 1 []) ≡ b → b ≡ true
    may b e =
        let none : slice_index g.waiting i ≡ 0 = before.stands.bits i i_below ∙ ap bit_of apart in
        sym e ∙ ap (λ (z : Core). may_grant z i (asks_barrier n 1 [])) before.is ∙ ap (λ (z : ℕ). not (nat_lt 0 z)) none

    -- ---- all go on

    module _ (enough : length waiters + 1 ≡ g.count) (steps : step P s i ≡ with_barrier (with_slot s i (Running step_of.frames)) n (Awaits count [])) where
      abbrev opened : CoreBarrier
      opened = record { count = g.count; waiting = replicate T 0 }

      opens : granted_barrier ≡ OfBarrier opened
      opens =
          ap (λ (b : Bool). OfBarrier (record { count = g.count; waiting = if b then with_waiter g i else replicate T 0 }))
          (not_less_is (total_of T (with_waiter g i)) g.count (let t = total in omega arith))

      barriers_open : CoreBarrierStands T opened (Awaits count [])
      barriers_open = record {
        sized = length-replicate T 0;
        bits = λ j lt. zeros_at T j;
        count = λ k ws e. let same : count ≡ k = cc in before.stands.count count waiters refl ∙ same;
      }

      no_zero : (j : ℕ) → core_waits (OfBarrier opened) j ≡ false
      no_zero j = ap (λ (x : ℕ). nat_lt 0 x) (zeros_at T j)

      open_others : (j : ℕ) → j ≢ i → (b : Bool) → list_any (nat_eq j) waiters ≡ b →
          Other P N c (cores_after P codes N T (barrier_core N n) i (asks_barrier n 1 []) c) s
          (record s { slots = slice_set s.slots i (Running step_of.frames); barriers = slice_set s.barriers n (Awaits count []) }) j
      open_others j ne true e =
          released P codes N T R numbers s i c at.reached at.cores step_of.calls step_of.frames step_of.runs n 1 [] (Awaits count waiters)
          (Awaits count []) here opened opens barriers_open
          j ne e refl (no_zero j)
      open_others j ne false e =
          same_other P codes N T R numbers s i c at.reached at.cores step_of.calls step_of.frames step_of.runs n 1 [] (Awaits count waiters)
          (Awaits count []) here opened opens barriers_open
          j ne (sym e)
          (no_zero j
          ∙ sym (no_bit P codes N T R numbers s i c at.reached at.cores step_of.calls step_of.frames step_of.runs n 1 [] (Awaits count waiters)
          (Awaits count []) here opened opens barriers_open j e))

      serves_open : ServesWait (asks_barrier n 1 [])
      serves_open = record {
        core = barrier_core N n;
        is = is_core;
        goes = λ _. record {
          state = record s { slots = slice_set s.slots i (Running step_of.frames); barriers = slice_set s.barriers n (Awaits count []) };
          view = subst IsSynchronizing (sym step_of.view) tt;
          steps = ap outcome_of steps;
          stands =
              barrier_stands P codes N T R numbers s i c at.reached at.cores step_of.calls step_of.frames step_of.runs n 1 [] (Awaits count waiters)
              (Awaits count []) here opened opens barriers_open;
          own = record {
            frames = step_of.frames;
            runs =
                own_slot P codes N T R numbers s i c at.reached at.cores step_of.calls step_of.frames step_of.runs n 1 [] (Awaits count waiters)
                (Awaits count []) here opened opens barriers_open;
            below = n_below;
            bit =
                any_set_same (is_waiter i) s.barriers n (Awaits count []) (Awaits count waiters) here (sym apart) ∙ ap (λ (x : Local). x.waits) step_of.runs
                ∙ sym (subst (λ z. core_waits (cores_after P codes N T (barrier_core N n) i (asks_barrier n 1 []) c (barrier_core N z)) i ≡ false) (sym word)
                (ap (λ (z : Core). core_waits z i)
                (same_core T (print_formats P) (barrier_core N n) i (asks_barrier n 1 []) c (OfBarrier g) before.is ∙ opens) ∙ no_zero i));
            starts = step_of.starts;
          };
          others = λ j ne. open_others j ne (list_any (nat_eq j) waiters) refl;
        };
        waits = λ no. absurd (let t = may false no in cc);
      }

    -- ---- it joins

    module _ (fewer : length waiters + 1 < g.count) (steps : step P s i ≡ with_barrier (with_slot s i (Running step_of.frames)) n (Awaits count (i ∷ waiters))) where
      abbrev shut : CoreBarrier
      shut = record { count = g.count; waiting = with_waiter g i }

      joins : granted_barrier ≡ OfBarrier shut
      joins =
          ap (λ (b : Bool). OfBarrier (record { count = g.count; waiting = if b then with_waiter g i else replicate T 0 }))
          (less_is (total_of T (with_waiter g i)) g.count (let t = total in omega arith))

      barriers_shut : CoreBarrierStands T shut (Awaits count (i ∷ waiters))
      barriers_shut = record {
        sized = length-set g.waiting i 1 ∙ before.stands.sized;
        bits = joined_bits;
        count = λ k ws e. let same : count ≡ k = cc in before.stands.count count waiters refl ∙ same;
      }

      shut_others : (j : ℕ) → j ≢ i →
          Other P N c (cores_after P codes N T (barrier_core N n) i (asks_barrier n 1 []) c) s
          (record s { slots = slice_set s.slots i (Running step_of.frames); barriers = slice_set s.barriers n (Awaits count (i ∷ waiters)) }) j
      shut_others j ne =
          same_other P codes N T R numbers s i c at.reached at.cores step_of.calls step_of.frames step_of.runs n 1 [] (Awaits count waiters)
          (Awaits count (i ∷ waiters)) here shut joins barriers_shut
          j ne (ap (λ (b : Bool). b || list_any (nat_eq j) waiters) (other_is j i ne))
          (ap (λ (x : ℕ). nat_lt 0 x) (get_or-set_other g.waiting i j 1 0 ne))

      serves_shut : ServesWait (asks_barrier n 1 [])
      serves_shut = record {
        core = barrier_core N n;
        is = is_core;
        goes = λ _. record {
          state = record s { slots = slice_set s.slots i (Running step_of.frames); barriers = slice_set s.barriers n (Awaits count (i ∷ waiters)) };
          view = subst IsSynchronizing (sym step_of.view) tt;
          steps = ap outcome_of steps;
          stands =
              barrier_stands P codes N T R numbers s i c at.reached at.cores step_of.calls step_of.frames step_of.runs n 1 [] (Awaits count waiters)
              (Awaits count (i ∷ waiters)) here shut joins
              barriers_shut;
          own = record {
            frames = step_of.frames;
            runs =
                own_slot P codes N T R numbers s i c at.reached at.cores step_of.calls step_of.frames step_of.runs n 1 [] (Awaits count waiters)
                (Awaits count (i ∷ waiters)) here shut joins
                barriers_shut;
            below = n_below;
            bit =
                waits_now
                ∙ sym (subst (λ z. core_waits (cores_after P codes N T (barrier_core N n) i (asks_barrier n 1 []) c (barrier_core N z)) i ≡ true) (sym word)
                (ap (λ (z : Core). core_waits z i)
                (same_core T (print_formats P) (barrier_core N n) i (asks_barrier n 1 []) c (OfBarrier g) before.is ∙ joins)
                ∙ ap (λ (x : ℕ). nat_lt 0 x) (get_or-set_same g.waiting i 1 0 (let e = before.stands.sized in let b = i_below in omega arith))));
            starts = step_of.starts;
          };
          others = shut_others;
        };
        waits = λ no. absurd (let t = may false no in cc);
      }
        where
          own_waits : is_waiter i (Awaits count (i ∷ waiters)) ≡ true
          own_waits = ap (λ (b : Bool). b || list_any (nat_eq i) waiters) (same_is i i refl)

          waits_now : list_any (is_waiter i) (slice_set s.barriers n (Awaits count (i ∷ waiters))) ≡ true
          waits_now =
              any_passes_from_place (is_waiter i) (slice_set s.barriers n (Awaits count (i ∷ waiters))) n (Awaits count (i ∷ waiters))
              (set_there s.barriers n (Awaits count waiters) (Awaits count (i ∷ waiters)) here) own_waits

    met : (b : Bool) → nat_eq (length waiters + 1) (unsigned_abs count) ≡ b →
        step P s i ≡ (if b then with_barrier (with_slot s i (Running step_of.frames)) n (Awaits count [])
        else with_barrier (with_slot s i (Running step_of.frames)) n (Awaits count (i ∷ waiters))) →
        ServesWait (asks_barrier n 1 [])
    met true e steps = serves_open (eqb-true (length waiters + 1) (unsigned_abs count) e ∙ count_is) steps
    met false e steps =
        let ne = eqb-false (length waiters + 1) (unsigned_abs count) e in
        let few = are.fewer in
        let same = count_is in
        serves_shut (omega arith) steps

  -- the wait at barrier n
  waits : (offset n : ℕ) → (n < 2 ^ 64 → residue_of 64 (act_value variables m) ≡ n) → (o : Option Barrier) → slice_get s.barriers n ≡ o →
      step P s i ≡ barrier_met (with_slot s i (Running step_of.frames)) i offset n o → ServesWait (asks_barrier (residue_of 64 (act_value variables m)) 1 [])
  waits offset n word None here e = absurd (undefined offset e)
  waits offset n word (Some NoBarrier) here e = absurd (undefined offset e)
  waits offset n word (Some (Awaits count waiters)) here e =
      let number = word (let lt = slice_get_within s.barriers n (Awaits count waiters) here in let k = at.cores.barrier_count in let few = numbers.few_barriers in omega arith) in
      subst (λ z. ServesWait (asks_barrier z 1 [])) (sym number) (met n number count waiters here (nat_eq (length waiters + 1) (unsigned_abs count)) refl e)

  serves_wait : ServesWait ask
  serves_wait = go step_of.act step_of.same step_of.steps
    where
      same_ask : asks_barrier (residue_of 64 (act_value variables m)) 1 [] ≡ ask
      same_ask = let e = at.asks in cc

      go : (a : Act) → SameAct P variables (act.BarrierWait m) a step_of.operands →
          step P s i ≡ acted P (with_slot s i (Running step_of.frames)) i step_of.offset a step_of.operands → ServesWait ask
      go Act.BarrierWait same e =
          let named = names variables m [] step_of.operands same.0 same.1 in
          subst ServesWait same_ask
          (waits step_of.offset named.number named.word (slice_get s.barriers named.number) refl
          (e ∙ ap (λ n. barrier_met (with_slot s i (Running step_of.frames)) i step_of.offset n (slice_get s.barriers n)) named.object))
      go a same e = absurd same

pub waits_are_steps : (barrier : ActOperand) → RequestIsStep (act.BarrierWait barrier)
waits_are_steps m P codes N T R numbers acts s i f l next variables arrays ask c at =
    serves_wait P codes N T R numbers m s i f l next variables arrays c ask at
    (acts P codes s i f l next variables arrays (act.BarrierWait m) R at.reached at.defined at.starts at.listed no_return)
  where
    no_return : act.BarrierWait m ≢ act.Return
    no_return e = cc
