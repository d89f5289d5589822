-- CLOCKED.
use Rattle.std.specs.Prelude.{Bool, true, false, not, nat_eq, ◌||◌, ◌⊎◌, if◌then◌else◌, Option, Some, None, slice_get}
use Rattle.std.proofs.Common.{◌≡◌, ℕ, zero, suc, ◌+◌, ◌<◌, ◌≤◌, List, [], ◌∷◌, refl, sym, ap, ◌∙◌, subst, ⊎_elim, arith}
use Rattle.std.proofs.lemmas.Bool.{cases_lt}
use Rattle.std.proofs.lemmas.Option.{slice_get_past}
use Rattle.c_program.specs.Tree.{Program}
use Rattle.c_program.specs.Weight.{bound}
use Rattle.interleaving.specs.Interleaving.{Reachable, IsGood}
use Rattle.interleaving.specs.Source.{Blocked}
use Rattle.interleaving.specs.Hardware.{Lag}
use Rattle.interleaving.specs.Cycle.{movers}
use Rattle.interleaving.specs.Progress.{IsStuck}
use Rattle.block_ir.specs.declared.code.Act.{Act}
use Rattle.block_ir.specs.declared.code.Stage.{Stage as CodeStage}
use Rattle.block_ir.specs.declared.code.Stage.TheVariants as stage
use Rattle.block_ir.specs.Asked.{Asked, asked, core_of}
use Rattle.block_refine.specs.Acts.{IsDefined}
use Rattle.block_refine.specs.Threads.{plan_at}
use Rattle.block_refine.specs.Routines.{stage_at, rest_of}
use Rattle.planned_block.specs.Slot.{Slot}
use Rattle.planned_block.specs.Advance.{any_below}
use Rattle.planned_block.specs.Hardware.{PlannedThreads, Begins, hardware_of}
use Rattle.planned_block.proofs.CycleChain.{is_chain}
use Rattle.race_model.specs.Source.{local_of, outcome_of, c_source}
use Rattle.race_model.proofs.Orderly.{orderly}
use Rattle.thread_semantics.specs.State.{State}
use Rattle.thread_semantics.specs.Step.{Stepped, Steps, Blocks, Undefines, is_blocked, step}
use Rattle.verilog_meaning.specs.Cycles.{Choice}
use Rattle.thread_promise.specs.Globals.{bank_of}
use Rattle.law_threads.proofs.Requests.{all_are_steps}
use Rattle.law_threads.specs.Surroundings.{Waits, Absent, Over, Idle, Handed, Meeting, around, hardware_code}
use Rattle.law_threads.specs.Laws.{Stalls, AtAct, Rests_on as Rests_there}
use Rattle.law_threads.proofs.Counts.{past_states}
use Rattle.law_threads.proofs.Awake.{starts_below}
use Rattle.law_threads.proofs.WhoBlocks.{what_blocks}
use Rattle.law_cycle.specs.Built.{Parts, IsBuilt}
use Rattle.law_cycle.specs.Bodies.{numbers_of}
use Rattle.law_cycle.specs.Stage.{Stage, look}
use Rattle.law_cycle.specs.Cycle.{FitsTheory, threads_of, Stalled, NoCore, Refused, Rests_on}
use Rattle.law_cycle.specs.Clock.{Cycles, cycle, moving, counts, EnablesAll, NetIsClocked}
use Rattle.law_cycle.proofs.BuiltCode.{numbers}

-- ---- who moves

movers_none : (test : ℕ → Bool) (r n : ℕ) → ((i : ℕ) → n ≤ i → i < n + r → test i ≡ false) → movers test r n ≡ []
movers_none test zero n off = refl
movers_none test (suc r) n off =
    ap (λ (b : Bool). if b then n ∷ movers test r (suc n) else movers test r (suc n)) (off n (omega arith) (omega arith))
    ∙ movers_none test r (suc n) (λ i l u. off i (omega arith) (omega arith))

none_moves : (test : ℕ → Bool) (r n : ℕ) → movers test r n ≡ [] → (i : ℕ) → n ≤ i → i < n + r → test i ≡ false
none_moves test zero n e i l u = absurd (omega arith)
none_moves test (suc r) n e i l u = by (test n) refl e (λ tail m. none_moves test r (suc n) tail i (omega arith) (omega arith))
  where
    by : (b : Bool) → test n ≡ b → (if b then n ∷ movers test r (suc n) else movers test r (suc n)) ≡ [] → (movers test r (suc n) ≡ [] → n < i → test i ≡ false) → test i ≡ false
    by true on e later = absurd cc
    by false off e later = ⊎_elim (λ (m : n < i). later e m) (λ (m : i ≤ n). let at : i ≡ n = omega arith in ap test at ∙ off) (cases_lt n i)

any_false : (test : ℕ → Bool) (n : ℕ) → ((i : ℕ) → i < n → test i ≡ false) → any_below test n ≡ false
any_false test zero off = refl
any_false test (suc n) off = ap (λ (b : Bool). b || test n) (any_false test n (λ i l. off i (omega arith))) ∙ off n (omega arith)

left_true : (a b : Bool) → (a || b) ≡ true → b ≡ false → a ≡ true
left_true true b e off = refl
left_true false b e off = absurd (let z : true ≡ false = sym e ∙ off in cc)

same_beat : (b : Bool) → b ≡ not b → ⊥
same_beat true e = cc
same_beat false e = cc

blocked_is : (o : Stepped) → is_blocked o ≡ true → outcome_of o ≡ Blocked
blocked_is (Steps t) e = absurd cc
blocked_is (Blocks cause) e = refl
blocked_is (Undefines offset cause) e = absurd cc

module _ (P : Program) (K : Parts) (built : IsBuilt P K) (known : FitsTheory P K built.chain) (cycles : Cycles P K built.chain known) (is_full : Choice → Bool)
    (full : EnablesAll K.cores.threads is_full) (good : IsGood (c_source P)) where
  abbrev M : PlannedThreads
  M = threads_of P K built.chain known

  abbrev next : Stage P K → Choice → Stage P K
  next h c = cycle P K built.chain known cycles h c

  abbrev moves_now : Stage P K → Choice → ℕ → Bool
  moves_now h c = moving P K built.chain known cycles h c

  -- where no slot changes nobody moves
  unmoved : (h : Stage P K) (c : Choice) → ((i : ℕ) → (next h c).slots i ≡ h.slots i) → (i : ℕ) → i < K.cores.threads → moves_now h c i ≡ false
  unmoved h c same i lt = by (moves_now h c i) refl
    where
      by : (b : Bool) → moves_now h c i ≡ b → b ≡ false
      by false m = refl
      by true m = absurd (same_beat (h.slots i).beat (sym (ap (λ (q : Slot). q.beat) (same i)) ∙ (cycles c h).turns i lt m))

  -- ---- a state in which nobody moves

  module _ (L : List ℕ) (h : Stage P K) (c : Choice) (l : Lag (c_source P) (hardware_of M) L (look P K h)) where
    abbrev s : State
    s = l.state

    reached : Reachable (c_source P) s
    reached = (L, l.reached)

    module _ (i : ℕ) where
      abbrev q : Slot
      q = h.slots i

      defined : IsDefined P s i
      defined = λ ended live. good.defined L s i l.reached ended live

      -- the slot begins a stage or waits, where it is at a stage that has no block
      no_flight : (plan_of_stage : (plan_at (stage_at K.codes q.routine q.stage) (slice_get (K.codes q.routine).plan.stages q.stage)).states ≡ 0) →
          Begins (bank_of K.spreads) (hardware_code K.codes built.chain) (around P K.codes (numbers_of K.cores) K.cores.threads) (bound P) (local_of s i) q
          ⊎ Waits P K.codes (numbers_of K.cores) K.cores.threads (look P K h).cores i (local_of s i) q
      no_flight none =
          ⊎_elim (λ rests. rests.2) (λ flies. let lt = flies.flight.inside in absurd (omega (arith, lt, none))) (l.places i)

      blocked : Stalls P K.codes (numbers_of K.cores) K.cores.threads K.spreads built.chain (look P K h).cores i (local_of s i) q → (c_source P).step s i ≡ Blocked
      blocked stalls =
          what_blocks P K.codes (numbers_of K.cores) K.cores.threads K.spreads built.chain built.resolved (numbers P K built) built.coded s i (look P K h).cores q reached defined
          l.stands stalls

      -- at an act
      module _ (a : Act) (m : ℕ) (asks : Asked) (listed : stage_at K.codes q.routine q.stage ≡ Some (stage.Act a m)) (is : asked (nat_eq i 0) a q.variables ≡ Some asks) where
        no_plan : (plan_at (stage_at K.codes q.routine q.stage) (slice_get (K.codes q.routine).plan.stages q.stage)).states ≡ 0
        no_plan = ap (λ (o : Option CodeStage). (plan_at o (slice_get (K.codes q.routine).plan.stages q.stage)).states) listed

        not_past : rest_of K.codes q.routine ≤ q.stage → ⊥
        not_past le = let z = sym listed ∙ slice_get_past (K.codes q.routine).code.stages q.stage le in cc

        not_waiting : Waits P K.codes (numbers_of K.cores) K.cores.threads (look P K h).cores i (local_of s i) q → ⊥
        not_waiting (Absent beyond at) = not_past (omega (arith, at))
        not_waiting (Over main at over) = not_past (omega (arith, at))
        not_waiting (Idle thread own at none status) = not_past (omega (arith, at))
        not_waiting (Handed thread own at r v runs it status argument) = not_past (omega (arith, at))
        not_waiting (Meeting k n b at there meets) = not_past (omega (arith, at))

        begun : Begins (bank_of K.spreads) (hardware_code K.codes built.chain) (around P K.codes (numbers_of K.cores) K.cores.threads) (bound P) (local_of s i) q
        begun = ⊎_elim (λ begins. begins) (λ waits. absurd (not_waiting waits)) (no_flight no_plan)

        has_core : core_of (numbers_of K.cores) asks ≡ None → ⊥
        has_core none =
            let serves =
            all_are_steps P K.codes (numbers_of K.cores) K.cores.threads built.resolved (numbers P K built) s i q.routine q.stage m q.variables q.arrays a asks (look P K h).cores
            (record { reached = reached; defined = defined; cores = l.stands; starts = begun.starts; listed = listed; asks = is }) in
            let z = sym none ∙ serves.is in
            cc

      stuck : Stalled P K c h i → (c_source P).step s i ≡ Blocked
      stuck (NoCore a m asks listed is none) = absurd (has_core a m asks listed is none)
      stuck (Refused a m k asks listed is names kept) = blocked (AtAct (begun a m asks listed is) a m k asks listed is names kept)
      stuck (Rests_on at still) =
          ⊎_elim
          (λ begins. let lt = starts_below P K.codes built.chain built.coded built.resolved (local_of s i) q.routine q.stage q.variables q.arrays begins.starts in
          absurd (omega (arith, lt, at)))
          (λ waits. blocked (Rests_there waits still))
          (no_flight (past_states P K.codes built.chain built.coded.chained q at))

    stuck_all : counts P K built.chain known cycles is_full h c ≡ true → movers (moves_now h c) K.cores.threads 0 ≡ [] → IsStuck (c_source P) s
    stuck_all count none i =
        ⊎_elim
        (λ (lt : i < K.cores.threads). stuck i ((cycles c h).stalls nobody i lt (full c full_now i lt)))
        (λ (le : K.cores.threads ≤ i). blocked_is (step P s i) ((orderly P built.resolved s reached).beyond i (subst (λ (n : ℕ). n ≤ i) built.threads le)))
        (cases_lt i K.cores.threads)
      where
        nobody : (j : ℕ) → j < K.cores.threads → moves_now h c j ≡ false
        nobody j lt = none_moves (moves_now h c) K.cores.threads 0 none j (omega arith) (omega (arith, lt))

        full_now : is_full c ≡ true
        full_now = left_true (is_full c) (any_below (moves_now h c) K.cores.threads) count (any_false (moves_now h c) K.cores.threads nobody)

pub net_is_clocked : NetIsClocked
net_is_clocked P K built known cycles is_full full good = record {
  chain = λ L h c l. (
    movers (moving P K built.chain known cycles h c) K.cores.threads 0,
    is_chain (threads_of P K built.chain known) (look P K h) (look P K (cycle P K built.chain known cycles h c)) (cycles c h).grants K.cores.threads (cycles c h).cycle,
  );
  still = λ L h c l same.
      movers_none (moving P K built.chain known cycles h c) K.cores.threads 0
      (λ i le lt. unmoved P K built known cycles is_full full good h c same i (omega (arith, lt)));
  lively = λ L h c l count none. stuck_all P K built known cycles is_full full good L h c l count none;
}
