-- CYCLE: a cycle of the machine is one of the net of planned threads that the theory knows.
use Rattle.std.specs.Prelude.{Bool, true, false, not, nat_eq, nat_lt, ◌&&◌, ◌||◌, ◌⊎◌, if◌then◌else◌, ◌++◌, Option, Some, None, slice_get, ℤ}
use Rattle.std.proofs.Common.{◌≡◌, ◌≢◌, ℕ, ◌+◌, ◌<◌, ◌≤◌, List, [], length, refl, sym, ap, ap₂, ◌∙◌, subst, inl, inr, ⊎_elim, arith}
use Rattle.std.proofs.lemmas.Option.{slice_get_past}
use Rattle.std.proofs.lemmas.Bool.{not-true, or_parts, or_cases, both_ways}
use Rattle.hls_ints.specs.Residues.{residue_of, bit_of}
use Rattle.c_program.specs.Tree.{Program}
use Rattle.interleaving.specs.Memory.{Location, Access, memory_after}
use Rattle.interleaving.specs.Hardware.{World}
use Rattle.interleaving.specs.Cycle.{TurnsInCycle, ActsInCycle}
use Rattle.block_ir.specs.declared.code.Act.{Act}
use Rattle.block_ir.specs.declared.code.Act.TheVariants as act
use Rattle.block_ir.specs.declared.code.Stage.{Stage as CodeStage}
use Rattle.block_ir.specs.declared.code.Stage.TheVariants as stage
use Rattle.block_ir.specs.declared.code.ActOperand.{ActOperand}
use Rattle.block_ir.specs.Asked.{act_value, Asked, asked, core_of, barrier_core, thread_ids_core}
use Rattle.block_refine.specs.Routines.{stage_at, rest_of, blocks_of, plans_of}
use Rattle.planned_block.specs.Block.{Block, size}
use Rattle.planned_block.specs.Plan.{Plan}
use Rattle.planned_block.specs.Slot.{Slot}
use Rattle.planned_block.specs.Advance.{accesses_of_cycle, requests, answered, is_ready, is_answered, wires}
use Rattle.planned_block.proofs.Bits.{both_true, is_same, same_is}
use Rattle.planned_block.proofs.Advances.{advances}
use Rattle.planned_block.specs.Hardware.{PlannedThreads, hardware_of}
use Rattle.planned_block.specs.Net.{Grants, RunsInCycle, Serves, moves}
use Rattle.planned_block.proofs.CycleChain.{somebody_moves, moves_change}
use Rattle.verilog_meaning.specs.Cycles.{Choice}
use Rattle.circuit.specs.Arbitration.{is_granted}
use Rattle.circuit.specs.Wiring.{preference, is_enabled, asked as asked_of}
use Rattle.circuit.proofs.Arbitration.{none_may}
use Rattle.leaf_machine.specs.Leaves.{leaf_thread}
use Rattle.thread_promise.specs.Globals.{bank_of}
use Rattle.thread_promise.specs.Promise.{is_run, went_on}
use Rattle.thread_promise.specs.Moves.{meeting, stage_after, asked_in}
use Rattle.thread_promise.specs.Serving.{IsActCore}
use Rattle.code_following.specs.Following.{print_formats}
use Rattle.law_threads.specs.Cores.{Core, may_grant, granted, status_at, waits_bit}
use Rattle.law_threads.specs.Surroundings.{routine_of, Wakes, Sets_out, Goes_on}
use Rattle.law_banks.specs.Laws.{owner_of}
use Rattle.law_banks.specs.Cycle.{memory_next}
use Rattle.law_banks.proofs.OwnedMemory.{granted_is, places_are_owned}
use Rattle.law_banks.proofs.Partitioned.{there}
use Rattle.law_cycle.specs.Thread.{Thread, rest}
use Rattle.law_cycle.specs.Asks.{AsksAct}
use Rattle.law_cycle.specs.Moved as moved
use Rattle.law_cycle.specs.Moved.{Moved, IsRefused, Lost, Ungranted}
use Rattle.law_cycle.proofs.ThreadMoves.{core_in_is, beats}
use Rattle.law_cycle.specs.Built.{Parts, IsBuilt, thread_at}
use Rattle.law_cycle.specs.Bodies.{numbers_of, core_machine, core_count}
use Rattle.law_cycle.specs.Stage.{Stage, cores_shown, look, news, winner, asks_of, granted_to, next_net, printed_now}
use Rattle.law_cycle.specs.Going.{in_block, IsAdvance, Goes, Keeps, Advanced, Woke, Acted, Returned}
use Rattle.law_cycle.specs.Laws.{Next, Wins, WinsBank, WinsCore}
use Rattle.law_cycle.specs.Cycle.{FitsTheory, turned, threads_of, grants_of, Stalled, NoCore, Refused, Rests_on, Cycled, NetCycles}
use Rattle.law_cycle.proofs.Cores.{has_banks}
use Rattle.law_cycle.proofs.Steps.{each_steps}
use Rattle.law_cycle.proofs.PlannedStep.{thread_ids_told, bit_told}
use Rattle.law_cycle.proofs.Banks.{zero_of}
use Rattle.law_cycle.proofs.Next.{net_goes}
use Rattle.law_cycle.proofs.Granted.{won_by, raised, who_wins}
use Rattle.law_cycle.proofs.Wakes.{wakes_in_cycle, returns_in_cycle, acts_in_cycle}
use Rattle.law_cycle.proofs.CoreTurns.{stays, bank_stays, act_may, act_granted, told_next, each_turns}

-- ---- bits

-- a beat that turns, and one that does not
turns_beat : (q r : Slot) → turned q r ≡ true → r.beat ≡ not q.beat
turns_beat q r e = by q.beat r.beat e
  where
    by : (a b : Bool) → (if a then not b else b) ≡ true → b ≡ not a
    by true true e = absurd cc
    by true false e = refl
    by false true e = refl
    by false false e = absurd cc

beat_turns : (q r : Slot) → r.beat ≡ not q.beat → turned q r ≡ true
beat_turns q r e = by q.beat r.beat e
  where
    by : (a b : Bool) → b ≡ not a → (if a then not b else b) ≡ true
    by true true e = absurd cc
    by true false e = refl
    by false true e = refl
    by false false e = absurd cc

same_keeps : (q r : Slot) → r ≡ q → turned q r ≡ false
same_keeps q r e = ap (turned q) e ∙ by q.beat
  where
    by : (a : Bool) → (if a then not a else a) ≡ false
    by true = refl
    by false = refl

-- ---- owners

owner_is : (T : ℕ) (o : Option ℕ) (i : ℕ) → i < T → owner_of T o ≡ i → o ≡ Some i
owner_is T None i lt e = absurd (omega arith)
owner_is T (Some w) i lt e = ap Some e

nobody : (T : ℕ) (o : Option ℕ) → ((i : ℕ) → o ≡ Some i → i < T) → T ≤ owner_of T o → o ≡ None
nobody T None below l = refl
nobody T (Some w) below l = absurd (let lt = below w refl in omega (arith, lt, l))

module _ (P : Program) (K : Parts) (built : IsBuilt P K) (chain : ℕ → ℕ → ℕ) (known : FitsTheory P K chain) (c : Choice) (h : Stage P K) where
  abbrev left : Next P K c h
  left = net_goes P K built c h

  abbrev after : Stage P K
  after = record {
    net = next_net P K c h.net;
    out = h.out ++ printed_now P K c h.net;
    slots = left.slots;
    memory = memory_next K.spreads left.made (winner P K c h.net) h.memory;
    fits = left.fits;
    stands = left.stands;
    holds = left.holds;
    told = told_next P K built c h;
  }

  abbrev w : World ℤ Slot (ℕ → Core)
  w = look P K h

  abbrev v : World ℤ Slot (ℕ → Core)
  v = look P K after

  abbrev M : PlannedThreads
  M = threads_of P K chain known

  abbrev g : Grants
  g = grants_of P K c h left

  abbrev won : ℕ → Option ℕ
  won = winner P K c h.net

  abbrev core_owner : ℕ → ℕ
  core_owner k = owner_of K.cores.threads (won k)

  abbrev place_owner : Location → ℕ
  place_owner l = owner_of K.cores.threads (won (bank_of K.spreads l))

  below : (k i : ℕ) → won k ≡ Some i → i < K.cores.threads
  below k i e = (won_by P K built c h k i e).0

  memory_by : (i : ℕ) (l : Location) → i < K.cores.threads → place_owner l ≡ i → v.memory l ≡ memory_after (left.made i) h.memory l
  memory_by i l lt e = (places_are_owned K.spreads K.cores.threads won h.memory left.made below).by i l lt e

  module _ (i : ℕ) (lt : i < K.cores.threads) where
    abbrev t : Thread
    t = thread_at P K i

    abbrev q : Slot
    q = h.slots i

    abbrev r : Slot
    r = left.slots i

    abbrev on_now : Bool
    on_now = is_enabled c.mask i

    own : q.routine ≡ routine_of P i
    own = (h.stands i lt).own

    beats_now : ((r.beat ≡ not q.beat) × (r ≢ q)) ⊎ (r ≡ q)
    beats_now = beats t on_now (granted_to P K c h.net i) (news P K h.net i) h.memory q r (left.moved i lt)

    kept_slot : turned q r ≡ false → r ≡ q
    kept_slot off = ⊎_elim (λ turns. absurd (both_ways (turned q r) off (beat_turns q r turns.0))) (λ same. same) beats_now

    never_both : r ≡ q → r.beat ≡ not q.beat → ⊥
    never_both same turns = both_ways (turned q r) (same_keeps q r same) (beat_turns q r turns)

    -- who moves outside blocks
    goes_out : in_block K q ≡ false → r.beat ≡ not q.beat → g.outside i ≡ true
    goes_out off turns = ap₂ (λ (a b : Bool). not a && b) off (beat_turns q r turns)

    stays_in : in_block K q ≡ false → g.outside i ≡ false → turned q r ≡ false
    stays_in off out = sym (ap (λ (a : Bool). not a && turned q r) off) ∙ out

    -- ---- who is granted a core of acts moves

    module _ (k : ℕ) (e : won k ≡ Some i) (a : Act) (next : ℕ) (asks : Asked) (listed : stage_at K.codes q.routine q.stage ≡ Some (stage.Act a next))
        (is : asked (nat_eq i 0) a q.variables ≡ Some asks) (names : core_of (numbers_of K.cores) asks ≡ Some k) where
      listed_here : slice_get t.code.stages q.stage ≡ Some (stage.Act a next)
      listed_here = ap (λ (f : ℕ). stage_at K.codes f q.stage) (sym own) ∙ listed

      not_past : rest t < q.stage + 1 → ⊥
      not_past l = let z = sym listed_here ∙ slice_get_past t.code.stages q.stage (omega arith) in cc

      not_refused : (asks' : Asked) → asks' ≡ asks → IsRefused t (granted_to P K c h.net i) asks' → ⊥
      not_refused asks' same (Lost none) = let z = sym none ∙ ap (core_of (numbers_of K.cores)) same ∙ names in cc
      not_refused asks' same (Ungranted m core lost) =
          let one : Some m ≡ Some k = sym core ∙ ap (core_of (numbers_of K.cores)) same ∙ names in
          let at : m ≡ k = cc in
          both_ways (is_granted (won k) i) (ap (λ (z : ℕ). is_granted (won z) i) (sym at) ∙ lost) (ap (λ (o : Option ℕ). is_granted o i) e ∙ same_is i i refl)

      moves_on : on_now ≡ true → r ≡ q → Moved t on_now (granted_to P K c h.net i) (news P K h.net i) h.memory q r → ⊥
      moves_on on same (moved.Rests off slot) = both_ways on_now off on
      moves_on on same (moved.Works on' b p runs inside grant within heard slot) = let z = sym runs.listed ∙ listed_here in cc
      moves_on on same (moved.Stays on' d m asks' listed' is' refused slot) =
          let one : Some (stage.Act d m) ≡ Some (stage.Act a next) = sym listed' ∙ listed_here in
          let act_is : d ≡ a = cc in
          let two : Some asks' ≡ Some asks = sym is' ∙ ap (λ (z : Act). asked (nat_eq i 0) z q.variables) act_is ∙ is in
          not_refused asks' (let same_asks : asks' ≡ asks = cc in same_asks) refused
      moves_on on same (moved.Acted on' d m k' asks' listed' is' core won' slot) = never_both same (ap (λ (z : Slot). z.beat) slot)
      moves_on on same (moved.Returned on' main m listed' slot) = never_both same (ap (λ (z : Slot). z.beat) slot)
      moves_on on same (moved.Ended on' main at slot) = not_past (omega (arith, at))
      moves_on on same (moved.Idles on' other at none slot) = not_past (omega (arith, at))
      moves_on on same (moved.Sets_out on' other at one slot) = never_both same (ap (λ (z : Slot). z.beat) slot)
      moves_on on same (moved.Holds_on on' l m b at listed' there' one slot) = not_past (omega (arith, at))
      moves_on on same (moved.Goes_on on' l m b at listed' there' none slot) = never_both same (ap (λ (z : Slot). z.beat) slot)

      -- what it asks there is the same each time
      same_asks : (a' : Act) (next' : ℕ) (asks' : Asked) → stage_at K.codes q.routine q.stage ≡ Some (stage.Act a' next') → asked (nat_eq i 0) a' q.variables ≡ Some asks' →
          asks' ≡ asks
      same_asks a' next' asks' listed' is' =
          let one : Some (stage.Act a' next') ≡ Some (stage.Act a next) = sym listed' ∙ listed in
          let act_is : a' ≡ a = cc in
          let two : Some asks' ≡ Some asks = sym is' ∙ ap (λ (z : Act). asked (nat_eq i 0) z q.variables) act_is ∙ is in
          (let same : asks' ≡ asks = cc in same)

    -- ---- cores

    -- those of a thread that does not move outside blocks stay
    cores_stay : g.outside i ≡ false → (k : ℕ) → core_owner k ≡ i → v.cores k ≡ w.cores k
    cores_stay out k o = by (who_wins P K built c h k i e).1
      where
        e : won k ≡ Some i
        e = owner_is K.cores.threads (won k) i lt o

        by : Wins P K c h k i → v.cores k ≡ w.cores k
        by (WinsBank bank on in_it) = bank_stays P K built c h k bank
        by (WinsCore core on a next asks listed is names hands) =
            absurd (moves_on k e a next asks listed is names on (kept_slot (stays_in (ap is_run listed) out)) (left.moved i lt))

    -- a thread at no block and no act that asks owns none
    owns_none : in_block K q ≡ false → ((a : Act) (next : ℕ) (asks : Asked) → stage_at K.codes q.routine q.stage ≡ Some (stage.Act a next) →
        asked (nat_eq i 0) a q.variables ≡ Some asks → ⊥) → (k : ℕ) → core_owner k ≢ i
    owns_none off never k o = by (who_wins P K built c h k i (owner_is K.cores.threads (won k) i lt o)).1
      where
        by : Wins P K c h k i → ⊥
        by (WinsBank bank on in_it) = both_ways (in_block K q) off in_it
        by (WinsCore core on a next asks listed is names hands) = never a next asks listed is

    -- ---- in a block, or without a move

    abbrev block : Block
    block = blocks_of K.codes q.routine q.stage

    abbrev plan : Plan
    plan = plans_of K.codes q.routine q.stage

    abbrev wire : ℕ → ℤ
    wire = wires (bank_of K.spreads) block plan q

    idle_is : (a b : Bool) → (a ≡ false) ⊎ (b ≡ false) → (a && b) ≡ false
    idle_is false b e = refl
    idle_is true false e = refl
    idle_is true true (inl e) = absurd cc
    idle_is true true (inr e) = absurd cc

    still : g.enabled i ≡ false → r ≡ q → ((k : ℕ) → left.grant i k ≡ false) → left.made i ≡ [] → g.outside i ≡ false → RunsInCycle M w v g i
    still off same ungranted none out = record {
      on = λ e. absurd (both_ways (g.enabled i) off e);
      inside = λ e. absurd (both_ways (g.enabled i) off e);
      off = λ e. same;
      within = λ k e. absurd (both_ways (left.grant i k) (ungranted k) e);
      owned = λ k l e. absurd (both_ways (g.enabled i) off e);
      memory = λ l o.
          memory_by i l lt o
          ∙ ap (λ (es : List (Access ℤ)). memory_after es h.memory l) (none ∙ sym (ap (λ (b : Bool). if b then accesses_of_cycle block plan q (left.grant i) wire else []) off));
      cores = cores_stay out;
    }

    advances_now : on_now ≡ true → in_block K q ≡ true →
        IsAdvance P K i on_now (asks_of P K c h.net i) (granted_to P K c h.net i) h.memory q r (left.grant i) (left.made i) block plan → g.outside i ≡ false → RunsInCycle M w v g i
    advances_now on in_it is out = record {
      on = λ e. is.advances;
      inside = λ e. is.inside;
      off = λ e. absurd (both_ways (g.enabled i) e (ap₂ (λ (a b : Bool). a && b) on in_it));
      within = is.within;
      owned = λ k l e a touches.
          ap (owner_of K.cores.threads)
          (granted_is (won (bank_of K.spreads l)) i
          (is.owned k l (is.within k (both_true (requests block plan q k) (left.grant i k) a).1) a touches));
      memory = λ l o.
          memory_by i l lt o
          ∙ ap (λ (es : List (Access ℤ)). memory_after es h.memory l)
          (is.makes ∙ sym (ap (λ (b : Bool). if b then accesses_of_cycle block plan q (left.grant i) wire else []) (ap₂ (λ (a b : Bool). a && b) on in_it)));
      cores = cores_stay out;
    }

    abbrev GoesNow : Type 0
    GoesNow = Goes P K i on_now (asks_of P K c h.net i) (granted_to P K c h.net i) h.memory q r (left.grant i) (left.made i) (cores_shown P K h.net h.out)

    woken_beat : Wakes P K.codes (numbers_of K.cores) K.cores.threads (cores_shown P K h.net h.out) i q r → r.beat ≡ not q.beat
    woken_beat (Sets_out thread below at status slot) = ap (λ (z : Slot). z.beat) slot
    woken_beat (Goes_on l next b at listed bit slot) = ap (λ (z : Slot). z.beat) slot

    runs : g.outside i ≡ false → GoesNow → RunsInCycle M w v g i
    runs out (Keeps idle slot ungranted none) = still (idle_is on_now (in_block K q) idle) slot ungranted none out
    runs out (Advanced on in_it is) = advances_now on in_it is out
    runs out (Woke on off wakes none) = absurd (both_ways (g.outside i) out (goes_out off (woken_beat wakes)))
    runs out (Acted on a next k asks listed is core won' slot none) = absurd (both_ways (g.outside i) out (goes_out (ap is_run listed) (ap (λ (z : Slot). z.beat) slot)))
    runs out (Returned on main next listed slot none) = absurd (both_ways (g.outside i) out (goes_out (ap is_run listed) (ap (λ (z : Slot). z.beat) slot)))

    -- ---- outside blocks

    memory_stays : left.made i ≡ [] → (l : Location) → place_owner l ≡ i → v.memory l ≡ w.memory l
    memory_stays none l o = memory_by i l lt o ∙ ap (λ (es : List (Access ℤ)). memory_after es h.memory l) none

    past_acts : rest_of K.codes q.routine < q.stage + 1 → (a : Act) (next : ℕ) (asks : Asked) → stage_at K.codes q.routine q.stage ≡ Some (stage.Act a next) →
        asked (nat_eq i 0) a q.variables ≡ Some asks → ⊥
    past_acts l a next asks listed is = let z = sym listed ∙ slice_get_past (K.codes q.routine).code.stages q.stage (omega arith) in cc

    woken_acts : Wakes P K.codes (numbers_of K.cores) K.cores.threads (cores_shown P K h.net h.out) i q r → (a : Act) (next : ℕ) (asks : Asked) →
        stage_at K.codes q.routine q.stage ≡ Some (stage.Act a next) → asked (nat_eq i 0) a q.variables ≡ Some asks → ⊥
    woken_acts (Sets_out thread below at status slot) a next asks listed is = past_acts (omega (arith, at)) a next asks listed is
    woken_acts (Goes_on l m b at listed' bit slot) a next asks listed is = past_acts (omega (arith, at)) a next asks listed is

    return_asks : i ≡ 0 → (m : ℕ) → stage_at K.codes q.routine q.stage ≡ Some (stage.Act act.Return m) → (a : Act) (next : ℕ) (asks : Asked) →
        stage_at K.codes q.routine q.stage ≡ Some (stage.Act a next) → asked (nat_eq i 0) a q.variables ≡ Some asks → ⊥
    return_asks main m here a next asks listed is =
        let one : Some (stage.Act act.Return m) ≡ Some (stage.Act a next) = sym here ∙ listed in
        let act_is : a ≡ act.Return = cc in
        let none : None ≡ Some asks =
        sym (ap₂ (λ (b : Bool) (z : Act). asked b z q.variables) (same_is i 0 main) act_is) ∙ is in
        cc

    abbrev GoesInCycle : Type 0
    GoesInCycle = TurnsInCycle M.source (hardware_of M) w v place_owner core_owner i ⊎ ActsInCycle M.source (hardware_of M) w v place_owner core_owner i

    acts_now : (a : Act) (next k : ℕ) (asks : Asked) → stage_at K.codes q.routine q.stage ≡ Some (stage.Act a next) → asked (nat_eq i 0) a q.variables ≡ Some asks →
        core_of (numbers_of K.cores) asks ≡ Some k → is_granted (won k) i ≡ true → r ≡ went_on (stage_after (rest_of K.codes q.routine) q.stage a next) q → left.made i ≡ [] → GoesInCycle
    acts_now a next k asks listed is core gained slot none = by (who_wins P K built c h k i e).1
      where
        e : won k ≡ Some i
        e = granted_is (won k) i gained

        only : (j : ℕ) → core_owner j ≡ i → j ≡ k
        only j o = one (who_wins P K built c h j i u).1
          where
            u : won j ≡ Some i
            u = owner_is K.cores.threads (won j) i lt o

            one : Wins P K c h j i → j ≡ k
            one (WinsBank bank on in_it) = absurd (both_ways (in_block K q) (ap is_run listed) in_it)
            one (WinsCore core' on a' next' asks' listed' is' names' hands) =
                let same = same_asks k e a next asks listed is core a' next' asks' listed' is' in
                let two : Some j ≡ Some k = sym names' ∙ ap (core_of (numbers_of K.cores)) same ∙ core in
                (let at : j ≡ k = cc in at)

        by : Wins P K c h k i → GoesInCycle
        by (WinsBank bank on in_it) = absurd (both_ways (in_block K q) (ap is_run listed) in_it)
        by (WinsCore core' on a' next' asks' listed' is' names' hands) =
            let granted' = act_granted P K built c h k i a' next' asks' listed' is' names' hands e in
            let same = same_asks k e a next asks listed is core a' next' asks' listed' is' in
            inr
            (acts_in_cycle P K chain w v place_owner core_owner i (memory_stays none) a next k asks own listed is core (ap (owner_of K.cores.threads) e) only
            (subst (λ (z : Asked). may_grant (w.cores k) i z ≡ true) same granted'.0)
            (subst (λ (z : Asked). v.cores k ≡ granted K.cores.threads (print_formats P) (w.cores k) i z) same granted'.1) slot)

    acts : g.outside i ≡ true → GoesNow → GoesInCycle
    acts out (Keeps idle slot ungranted none) =
        absurd (both_ways (turned q r) (same_keeps q r slot) (both_true (not (in_block K q)) (turned q r) out).1)
    acts out (Advanced on in_it is) = absurd (both_ways (in_block K q) (not-true (in_block K q) (both_true (not (in_block K q)) (turned q r) out).0) in_it)
    acts out (Woke on off wakes none) =
        inl
        (wakes_in_cycle P K chain w v place_owner core_owner i (memory_stays none) (each_turns P K built c h) (owns_none off (woken_acts wakes)) wakes)
    acts out (Acted on a next k asks listed is core gained slot none) = acts_now a next k asks listed is core gained slot none
    acts out (Returned on main next listed slot none) =
        inr
        (returns_in_cycle P K chain w v place_owner core_owner i (memory_stays none) (each_turns P K built c h)
        (owns_none (ap is_run listed) (return_asks main next listed)) main next
        listed slot)

    runs_now : g.outside i ≡ false → RunsInCycle M w v g i
    runs_now out = runs out (left.goes i lt)

    -- ---- who moves

    pub turns_now : moves M w v g i ≡ true → r.beat ≡ not q.beat
    turns_now m = by (g.outside i) refl
      where
        by : (b : Bool) → g.outside i ≡ b → r.beat ≡ not q.beat
        by true out = turns_beat q r (both_true (not (in_block K q)) (turned q r) out).1
        by false out =
            ⊎_elim
            (λ turns. turns.0)
            (λ same. absurd
            (moves_change M w v g i (runs_now out) (⊎_elim (λ gained. absurd (both_ways (g.outside i) out gained)) (λ gained. gained) (or_cases (g.outside i) _ m)) same))
            beats_now

    pub stays_now : moves M w v g i ≡ false → r ≡ q
    stays_now m = by (g.enabled i) refl
      where
        both : (g.outside i ≡ false) × ((g.enabled i && (is_ready block plan q (left.grant i) || is_answered block plan q (left.grant i))) ≡ false)
        both = or_parts (g.outside i) (g.enabled i && (is_ready block plan q (left.grant i) || is_answered block plan q (left.grant i))) m

        by : (b : Bool) → g.enabled i ≡ b → r ≡ q
        by false e = (runs_now both.0).off e
        by true e =
            let is = runs_now both.0 in
            ⊎_elim
            (λ moved_on. absurd
            (both_ways (is_ready block plan q (left.grant i) || is_answered block plan q (left.grant i))
            (sym (ap (λ (b : Bool). b && (is_ready block plan q (left.grant i) || is_answered block plan q (left.grant i))) e) ∙ both.1)
            moved_on.1))
            (λ rest. rest.0)
            (advances (bank_of K.spreads) block plan q h.memory (left.grant i) wire r (is.on e) (is.inside e) is.within)

    -- a thread that is enabled in a block advances
    advance_of : on_now ≡ true → in_block K q ≡ true → GoesNow →
        IsAdvance P K i on_now (asks_of P K c h.net i) (granted_to P K c h.net i) h.memory q r (left.grant i) (left.made i) block plan
    advance_of on in_it (Keeps idle slot ungranted none) =
        absurd (both_ways (on_now && in_block K q) (idle_is on_now (in_block K q) idle) (ap₂ (λ (a b : Bool). a && b) on in_it))
    advance_of on in_it (Advanced on' in_it' is) = is
    advance_of on in_it (Woke on' off wakes none) = absurd (both_ways (in_block K q) off in_it)
    advance_of on in_it (Acted on' a next k asks listed is core won' slot none) = absurd (both_ways (in_block K q) (ap is_run listed) in_it)
    advance_of on in_it (Returned on' main next listed slot none) = absurd (both_ways (in_block K q) (ap is_run listed) in_it)

  -- ---- a bank that is asked serves somebody

  abbrev Served : Type 0
  Served =
      (j : ℕ) × (m : ℕ) × (j < K.cores.threads) × (g.enabled j ≡ true) × (m < size (blocks_of K.codes (h.slots j).routine (h.slots j).stage))
      × (answered (blocks_of K.codes (h.slots j).routine (h.slots j).stage) (plans_of K.codes (h.slots j).routine (h.slots j).stage) (h.slots j) (left.grant j) m ≡ true)

  serves_all : Serves M w v g K.cores.threads
  serves_all i k lt e l request =
      let both = both_true (is_enabled c.mask i) (in_block K (h.slots i)) e in
      let wants = (advance_of i lt both.0 both.1 (left.goes i lt)).wants k l request in
      by wants.0 wants.1 wants.2 (won wants.0) refl
    where
      by : (n : ℕ) → n < length K.cores.banks → asks_of P K c h.net i n 0 ≢ 0 → (o : Option ℕ) → won n ≡ o → Served
      by n bank ne None u =
          let b = there K.cores.banks n bank in
          let off = none_may K.cores.threads (preference c n)
          (λ m. (core_machine K.cores n).eligible (h.net.states n) m (asked_of K.cores.threads (core_count K.cores) (λ j. leaf_thread (K.bodies j).body (K.bodies j).leaf) (core_machine K.cores) c h.net n m))
          u i lt in
          absurd (ne (zero_of (asks_of P K c h.net i n 0) (sym ((has_banks K.cores).asks n b.0 (h.net.states n) i (λ j. asks_of P K c h.net i n j) b.1) ∙ off)))
      by n bank ne (Some j) u = from (who_wins P K built c h n j u).0 (who_wins P K built c h n j u).1
        where
          from : j < K.cores.threads → Wins P K c h n j → Served
          from lt' (WinsBank bank' on in_it) =
              let is = (advance_of j lt' on in_it (left.goes j lt')).serves n bank (raised P K built c h n j u) (ap (λ (o : Option ℕ). is_granted o j) u ∙ same_is j j refl) in
              (j, is.0, lt', ap₂ (λ (a b : Bool). a && b) on in_it, is.1, is.2)
          from lt' (WinsCore core on a next asks listed is names hands) = absurd (let le = core.0 in omega (arith, le, bank))

  -- ---- where nobody moves

  module _ (nobody_moves : (j : ℕ) → j < K.cores.threads → moves M w v g j ≡ false) where
    -- no core of acts is granted to anyone
    unwon : (k : ℕ) → length K.cores.banks ≤ k → won k ≡ None
    unwon k l = by (won k) refl
      where
        by : (o : Option ℕ) → won k ≡ o → o ≡ None
        by None u = refl
        by (Some j) u = absurd (from (who_wins P K built c h k j u).0 (who_wins P K built c h k j u).1)
          where
            from : j < K.cores.threads → Wins P K c h k j → ⊥
            from lt (WinsBank bank on in_it) = absurd (omega (arith, bank, l))
            from lt (WinsCore core on a next asks listed is names hands) =
                moves_on j lt k u a next asks listed is names on (stays_now j lt (nobody_moves j lt)) (left.moved j lt)

    module _ (i : ℕ) (lt : i < K.cores.threads) (on : is_enabled c.mask i ≡ true) where
      abbrev q_now : Slot
      q_now = h.slots i

      same_slot : left.slots i ≡ q_now
      same_slot = stays_now i lt (nobody_moves i lt)

      there_listed : (l : ℕ) (s : CodeStage) → slice_get (thread_at P K i).code.stages l ≡ Some s → stage_at K.codes q_now.routine l ≡ Some s
      there_listed l s e = ap (λ (f : ℕ). stage_at K.codes f l) (own i lt) ∙ e

      rest_is : rest (thread_at P K i) ≡ rest_of K.codes q_now.routine
      rest_is = ap (rest_of K.codes) (sym (own i lt))

      -- in a block somebody would move
      in_no_block : in_block K q_now ≡ true → ⊥
      in_no_block in_it =
          let m = somebody_moves M w v g K.cores.threads serves_all i lt (ap₂ (λ (a b : Bool). a && b) on in_it) in
          both_ways (moves M w v g m.0) (nobody_moves m.0 m.1) m.2

      refuses : (a : Act) (next k : ℕ) (asks : Asked) → slice_get (thread_at P K i).code.stages q_now.stage ≡ Some (stage.Act a next) →
          asked (nat_eq i 0) a q_now.variables ≡ Some asks → core_of (numbers_of K.cores) asks ≡ Some k → may_grant (w.cores k) i asks ≡ false
      refuses a next k asks listed is names = by (may_grant (w.cores k) i asks) refl
        where
          acts_core : IsActCore (numbers_of K.cores) k
          acts_core = core_in_is (numbers_of K.cores) asks.service asks.core k names

          hands : AsksAct (asks_of P K c h.net i k) (is_enabled c.mask i) (core_machine K.cores k).parts asks
          hands =
              (each_steps P K built c h i lt).asks.core k asks (ap (λ (o : Option CodeStage). asked_in (nat_eq i 0) o q_now.variables) listed ∙ is) names

          alike : (core_machine K.cores k).eligible (h.net.states k) i ((core_machine K.cores k).ask_of (λ j. asks_of P K c h.net i k j))
              ≡ (nat_lt 0 (asks_of P K c h.net i k 0) && may_grant (w.cores k) i asks)
          alike =
              act_may P K built c h k i a next asks (there_listed q_now.stage (stage.Act a next) listed) is names
              (subst (λ (b : Bool). AsksAct (asks_of P K c h.net i k) b (core_machine K.cores k).parts asks) on hands)

          off : (core_machine K.cores k).eligible (h.net.states k) i ((core_machine K.cores k).ask_of (λ j. asks_of P K c h.net i k j)) ≡ false
          off =
              none_may K.cores.threads (preference c k)
              (λ m. (core_machine K.cores k).eligible (h.net.states k) m (asked_of K.cores.threads (core_count K.cores)
              (λ j. leaf_thread (K.bodies j).body (K.bodies j).leaf) (core_machine K.cores) c h.net k m))
              (unwon k acts_core.0) i lt

          by : (b : Bool) → may_grant (w.cores k) i asks ≡ b → may_grant (w.cores k) i asks ≡ false
          by false e = e
          by true e =
              absurd
              (both_ways (nat_lt 0 (asks_of P K c h.net i k 0) && may_grant (w.cores k) i asks)
              (sym alike ∙ off) (ap₂ (λ (m : ℕ) (z : Bool). nat_lt 0 m && z) (hands.raised ∙ ap bit_of on) e))

      -- who rests and is not told to go on
      rests_main : (i ≡ 0) → q_now.stage ≡ rest (thread_at P K i) → (r : Slot) → Wakes P K.codes (numbers_of K.cores) K.cores.threads w.cores i q_now r → ⊥
      rests_main main at r (Sets_out thread below there status slot) = omega (arith, main, thread)
      rests_main main at r (Goes_on l m b there listed bit slot) = let same = rest_is in omega (arith, at, there, same)

      rests_idle : nat_eq i 0 ≡ false → q_now.stage ≡ rest (thread_at P K i) → news P K h.net i (thread_ids_core (numbers_of K.cores)) 0 ≡ 0 → (r : Slot) →
          Wakes P K.codes (numbers_of K.cores) K.cores.threads w.cores i q_now r → ⊥
      rests_idle other at none r (Sets_out thread below there status slot) =
          let told = thread_ids_told P K built i lt other h 0 in
          let one : bit_of (nat_eq (status_at (numbers_of K.cores) w.cores i) 1) ≡ 1 = ap bit_of (same_is (status_at (numbers_of K.cores) w.cores i) 1 status) in
          let zero = sym none ∙ told ∙ one in
          omega (arith, zero)
      rests_idle other at none r (Goes_on l m b there listed bit slot) = let same = rest_is in omega (arith, at, there, same)

      rests_there : (l m : ℕ) (b : ActOperand) → q_now.stage ≡ meeting (rest (thread_at P K i)) l →
          slice_get (thread_at P K i).code.stages l ≡ Some (stage.Act (act.BarrierWait b) m) → residue_of 64 (act_value q_now.variables b) < K.cores.barriers →
          news P K h.net i (barrier_core (numbers_of K.cores) (residue_of 64 (act_value q_now.variables b))) 0 ≡ 1 → (r : Slot) →
          Wakes P K.codes (numbers_of K.cores) K.cores.threads w.cores i q_now r → ⊥
      rests_there l m b at listed below_it one r (Sets_out thread below there status slot) = let same = rest_is in omega (arith, at, there, same)
      rests_there l m b at listed below_it one r (Goes_on l' m' b' there listed' bit slot) =
          let same = rest_is in
          let stages : l' ≡ l = omega (arith, at, there, same) in
          let two : Some (stage.Act (act.BarrierWait b') m') ≡ Some (stage.Act (act.BarrierWait b) m) =
          sym listed' ∙ ap (stage_at K.codes q_now.routine) stages ∙ there_listed l (stage.Act (act.BarrierWait b) m) listed in
          let operand : b' ≡ b = cc in
          let told = bit_told P K i h (residue_of 64 (act_value q_now.variables b)) below_it in
          let n = residue_of 64 (act_value q_now.variables b) in
          both_ways (waits_bit (numbers_of K.cores) w.cores n i) (ap (λ (z : ActOperand). waits_bit (numbers_of K.cores) w.cores (residue_of 64 (act_value q_now.variables z)) i) (sym operand) ∙ bit)
          (ap (nat_lt 0) (sym told ∙ one))

      stalled : Moved (thread_at P K i) (is_enabled c.mask i) (granted_to P K c h.net i) (news P K h.net i) h.memory q_now (left.slots i) → Stalled P K c h i
      stalled (moved.Rests off slot) = absurd (both_ways (is_enabled c.mask i) off on)
      stalled (moved.Works on' b p runs inside grant within heard slot) =
          absurd (in_no_block (ap (λ (f : ℕ). is_run (stage_at K.codes f q_now.stage)) (own i lt) ∙ ap is_run runs.listed))
      stalled (moved.Stays on' a next asks listed is (Lost none) slot) = NoCore a next asks (there_listed q_now.stage (stage.Act a next) listed) is none
      stalled (moved.Stays on' a next asks listed is (Ungranted k core lost) slot) =
          Refused a next k asks (there_listed q_now.stage (stage.Act a next) listed) is core (refuses a next k asks listed is core)
      stalled (moved.Acted on' a next k asks listed is core won' slot) = absurd (never_both i lt same_slot (ap (λ (z : Slot). z.beat) slot))
      stalled (moved.Returned on' main next listed slot) = absurd (never_both i lt same_slot (ap (λ (z : Slot). z.beat) slot))
      stalled (moved.Ended on' main at slot) = Rests_on (let same = rest_is in omega (arith, at, same)) (rests_main (is_same i 0 main) at)
      stalled (moved.Idles on' other at none slot) = Rests_on (let same = rest_is in omega (arith, at, same)) (rests_idle other at none)
      stalled (moved.Sets_out on' other at one slot) = absurd (never_both i lt same_slot (ap (λ (z : Slot). z.beat) slot))
      stalled (moved.Holds_on on' l m b at listed below_it one slot) =
          Rests_on (let same = rest_is in omega (arith, at, same)) (rests_there l m b at listed below_it one)
      stalled (moved.Goes_on on' l m b at listed below_it none slot) = absurd (never_both i lt same_slot (ap (λ (z : Slot). z.beat) slot))

  pub cycled : Cycled P K c h chain known
  cycled = record {
    next = after;
    net = refl;
    out = refl;
    grants = g;
    cycle = record {
      runs = λ i lt out. runs_now i lt out;
      acts = λ i lt out. acts i lt out (left.goes i lt);
      beyond = λ i l. left.beyond i l;
      unowned = λ l le. (places_are_owned K.spreads K.cores.threads won h.memory left.made below).by_none l le;
      idle = λ k le. stays P K built c h k (nobody K.cores.threads (won k) (below k) le);
    };
    serves = serves_all;
    turns = λ i lt m. turns_now i lt m;
    stays = λ i lt m. stays_now i lt m;
    stalls = λ nobody_moves i lt on. stalled nobody_moves i lt on (left.moved i lt);
  }

pub net_cycles : NetCycles
net_cycles P K built chain known c h = cycled P K built chain known c h
