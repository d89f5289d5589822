-- A step of a thread in the words of planned threads, and what it does with the banks.
use Rattle.std.specs.Prelude.{Bool, true, false, nat_eq, nat_lt, Option, Some, None, slice_get, slice_index, ℤ}
use Rattle.std.proofs.Common.{◌≡◌, ℕ, ◌+◌, ◌<◌, List, [], refl, sym, ap, ◌∙◌, subst, inl, inr, arith}
use Rattle.std.proofs.lemmas.Bool.Decides.{nat_tests}
use Rattle.std.proofs.lemmas.Option.{slice_get_past}
use Rattle.hls_ints.specs.Residues.{residue_of, bit_of}
use Rattle.c_program.specs.Tree.{Program}
use Rattle.interleaving.specs.Memory.{Access}
use Rattle.bank_cores.specs.Machine.{ask_of}
use Rattle.thread_id_cores.specs.declared.thread_ids.Shape.{Shape as ThreadIdsShape}
use Rattle.barrier_cores.specs.declared.barrier.Shape.{Shape as BarrierShape}
use Rattle.block_ir.specs.declared.block.Block.{Block}
use Rattle.block_ir.specs.declared.code.Stage.{Stage as CodeStage}
use Rattle.block_ir.specs.declared.code.Stage.TheVariants as stage
use Rattle.block_ir.specs.declared.plan.BlockPlan.{BlockPlan}
use Rattle.block_ir.specs.declared.plan.StagePlan.{StagePlan}
use Rattle.block_ir.specs.Asked.{act_value, barrier_core, thread_ids_core}
use Rattle.planned_block.specs.Block.{Block as PlannedBlock}
use Rattle.planned_block.specs.Plan.{Plan}
use Rattle.planned_block.specs.Slot.{Slot}
use Rattle.planned_block.specs.Advance.{accesses_of_cycle, wires, Advances}
use Rattle.planned_block.proofs.Bits.{is_same}
use Rattle.planned_block.proofs.Total.{advance_is}
use Rattle.plan_blocks.specs.View.{planned_view, plan_view}
use Rattle.block_refine.specs.Threads.{block_at, plan_at}
use Rattle.block_refine.specs.Routines.{stage_at, rest_of, blocks_of, plans_of}
use Rattle.verilog_meaning.specs.Cycles.{Choice}
use Rattle.circuit.specs.Wiring.{is_enabled}
use Rattle.thread_promise.specs.Globals.{bank_of}
use Rattle.thread_promise.specs.Promise.{is_run, went_on}
use Rattle.thread_promise.specs.Moves.{meeting, set_out, stage_after}
use Rattle.core_states.specs.Machines.{ids_tell}
use Rattle.law_threads.specs.Cores.{Core, barrier_in, thread_ids_in, status_at}
use Rattle.law_threads.specs.Surroundings.{routine_of, Sets_out, Goes_on}
use Rattle.core_family.specs.Family.{CoreKind, Bank, Mutex, Barrier, ThreadIds, Printer, machine_of}
use Rattle.law_banks.specs.Cycle.{Does, InBlock}
use Rattle.law_banks.specs.Partition.{globals_of}
use Rattle.law_cycle.specs.Thread as thread
use Rattle.law_cycle.specs.Thread.{Thread, rest, Runs, Where, AtAct, AtRest, AtMeeting}
use Rattle.law_cycle.specs.Moved as moved
use Rattle.law_cycle.specs.Moved.{Moved}
use Rattle.law_cycle.proofs.SlotStands.{inside_of}
use Rattle.law_cycle.proofs.GrantedAccesses.{granted_accesses}
use Rattle.law_cycle.specs.Built.{Parts, IsBuilt, thread_at}
use Rattle.law_cycle.specs.Bodies.{numbers_of, core_at}
use Rattle.law_cycle.specs.Stage.{Stage, StepOf, shown_as, cores_shown, news, asks_of, granted_to}
use Rattle.law_cycle.specs.Going.{in_block, IsAdvance, Goes, Keeps, Advanced, Woke, Acted, Returned}
use Rattle.core_family.proofs.Listed.{barrier_at, thread_ids_at}
use Rattle.law_cycle.proofs.Steps.{banked, total_is, thread_ids_there, is_thread}
use Rattle.law_cycle.proofs.Banks.{outside_does, stopped_does, serves, works, wants}

-- ---- what the cores of acts tell is what they have

tells_thread_ids : (o : Option CoreKind) (s : ThreadIdsShape) → o ≡ Some (ThreadIds s) → (state : (machine_of o).State) (out : List ℕ) (i j : ℕ) →
    (machine_of o).tells state i j ≡ ids_tell (thread_ids_in (shown_as o state out)) i j
tells_thread_ids None s e state out i j = absurd cc
tells_thread_ids (Some (Bank c)) s e state out i j = absurd cc
tells_thread_ids (Some (Mutex c)) s e state out i j = absurd cc
tells_thread_ids (Some (Barrier c)) s e state out i j = absurd cc
tells_thread_ids (Some (ThreadIds c)) s e state out i j = refl
tells_thread_ids (Some (Printer c)) s e state out i j = absurd cc

tells_bit : (o : Option CoreKind) (s : BarrierShape) → o ≡ Some (Barrier s) → (state : (machine_of o).State) (out : List ℕ) (i : ℕ) →
    (machine_of o).tells state i 0 ≡ slice_index (barrier_in (shown_as o state out)).waiting i
tells_bit None s e state out i = absurd cc
tells_bit (Some (Bank c)) s e state out i = absurd cc
tells_bit (Some (Mutex c)) s e state out i = absurd cc
tells_bit (Some (Barrier c)) s e state out i = refl
tells_bit (Some (ThreadIds c)) s e state out i = absurd cc
tells_bit (Some (Printer c)) s e state out i = absurd cc

one_bit : (b : Bool) → bit_of b ≡ 1 → b ≡ true
one_bit true e = refl
one_bit false e = absurd (omega arith)

-- a thread besides main is told what the core of the thread ids has
pub thread_ids_told : (P : Program) (K : Parts) (built : IsBuilt P K) (i : ℕ) → i < K.cores.threads → nat_eq i 0 ≡ false → (h : Stage P K) (j : ℕ) →
    news P K h.net i (thread_ids_core (numbers_of K.cores)) j ≡ ids_tell (thread_ids_in (cores_shown P K h.net h.out (thread_ids_core (numbers_of K.cores)))) i j
thread_ids_told P K built i lt other h j =
    let k = thread_ids_core (numbers_of K.cores) in
    tells_thread_ids (core_at K.cores k) (record { threads = K.cores.threads }) (thread_ids_at K.cores (thread_ids_there P K built i lt other)) (h.net.states k) h.out i j

-- and each its bit at a barrier
pub bit_told : (P : Program) (K : Parts) (i : ℕ) (h : Stage P K) (n : ℕ) → n < K.cores.barriers →
    news P K h.net i (barrier_core (numbers_of K.cores) n) 0 ≡ slice_index (barrier_in (cores_shown P K h.net h.out (barrier_core (numbers_of K.cores) n))).waiting i
bit_told P K i h n l =
    tells_bit (core_at K.cores (barrier_core (numbers_of K.cores) n)) (record { threads = K.cores.threads }) (barrier_at K.cores n l) (h.net.states (barrier_core (numbers_of K.cores) n)) h.out i

module _ (P : Program) (K : Parts) (built : IsBuilt P K) (c : Choice) (h : Stage P K) (i : ℕ) (lt : i < K.cores.threads) (step : StepOf P K c h i) where
  abbrev t : Thread
  t = thread_at P K i

  abbrev enabled : Bool
  enabled = is_enabled c.mask i

  abbrev granted : ℕ → Bool
  granted = granted_to P K c h.net i

  abbrev ask : ℕ → ℕ → ℕ
  ask = asks_of P K c h.net i

  abbrev q : Slot
  q = h.slots i

  abbrev cores_now : ℕ → Core
  cores_now = cores_shown P K h.net h.out

  -- ---- the thread's own function is the slot's

  own : q.routine ≡ routine_of P i
  own = (h.stands i lt).own

  listed_there : (l : ℕ) (s : CodeStage) → slice_get t.code.stages l ≡ Some s → stage_at K.codes q.routine l ≡ Some s
  listed_there l s e = ap (λ (f : ℕ). stage_at K.codes f l) own ∙ e

  rest_there : rest_of K.codes (routine_of P i) ≡ rest_of K.codes q.routine
  rest_there = ap (rest_of K.codes) (sym own)

  run_there : (b : Bool) → is_run (slice_get t.code.stages q.stage) ≡ b → in_block K q ≡ b
  run_there b e = ap (λ (f : ℕ). is_run (stage_at K.codes f q.stage)) own ∙ e

  past : rest t < q.stage + 1 → is_run (slice_get t.code.stages q.stage) ≡ false
  past l = ap is_run (slice_get_past t.code.stages q.stage (omega arith))

  -- ---- what follows

  -- the accesses of a move, by which grants, what it is to the banks and what to the theory
  pub record Result (next : Slot) : Type 0 where
    pub made : List (Access ℤ)
    pub grant : ℕ → Bool
    pub does : Does K.spreads (globals_of P) (λ n. ask_of (ask n)) granted h.memory q.words next.words made
    pub goes : Goes P K i enabled ask granted h.memory q next grant made cores_now

  out_of_block : (next : Slot) → is_run (slice_get t.code.stages q.stage) ≡ false → ((n : ℕ) → next.words n ≡ q.words n) →
      Goes P K i enabled ask granted h.memory q next (λ k. false) [] cores_now → Result next
  out_of_block next off same goes = record {
    made = [];
    grant = λ k. false;
    does = outside_does t (banked P K built) (total_is P K built) enabled q ask step.asks granted h.memory next off same;
    goes = goes;
  }

  kept_words : (next : Slot) → next ≡ q → (n : ℕ) → next.words n ≡ q.words n
  kept_words next e n = ap (λ (z : Slot). z.words n) e

  still : (next : Slot) → is_run (slice_get t.code.stages q.stage) ≡ false → next ≡ q → Result next
  still next off e = out_of_block next off (kept_words next e) (Keeps (inr (run_there false off)) e (λ k. refl) refl)

  stops : (next : Slot) → enabled ≡ false → next ≡ q → Where t (h.net.slots i) q → Result next
  stops next off e (thread.InBlock b p inside) = record {
    made = [];
    grant = λ k. false;
    does = stopped_does t (banked P K built) (total_is P K built) enabled q ask step.asks b p inside.runs inside.state granted h.memory next off (kept_words next e);
    goes = Keeps (inl off) e (λ k. refl) refl;
  }
  stops next off e (AtAct a l listed state shown) = still next (ap is_run listed) e
  stops next off e (AtRest at state shown) = still next (past (omega (arith, at))) e
  stops next off e (AtMeeting l m b at listed below state shown) = still next (past (omega (arith, at))) e

  -- ---- in a block

  module _ (next : Slot) (grant : ℕ → Bool) where
    abbrev Advances_by : List (Access ℤ) → PlannedBlock → Plan → Type 0
    Advances_by made b p = IsAdvance P K i enabled ask granted h.memory q next grant made b p

    block_there : (made : List (Access ℤ)) (b : Block) (p : BlockPlan) → Runs t q.stage b p → Advances_by made (planned_view b) (plan_view b p) →
        Advances_by made (blocks_of K.codes q.routine q.stage) (plans_of K.codes q.routine q.stage)
    block_there made b p runs is =
        subst (λ (f : ℕ). Advances_by made (blocks_of K.codes f q.stage) (plans_of K.codes f q.stage)) (sym own)
        (subst (λ (o : Option CodeStage). Advances_by made (block_at o) (plan_at o (slice_get t.plan.stages q.stage))) (sym runs.listed)
        (subst (λ (o : Option StagePlan). Advances_by made (planned_view b) (plan_at (Some (stage.Run b)) o)) (sym runs.planned_so) is))

  -- ---- all

  goes : (next : Slot) → Where t (h.net.slots i) q → Moved t enabled granted (news P K h.net i) h.memory q next → Result next
  goes next w (moved.Rests off slot) = stops next off slot w
  goes next w (moved.Works on b p runs inside grant within heard slot) =
      let wire = wires (bank_of K.spreads) (planned_view b) (plan_view b p) q in
      record {
        made = accesses_of_cycle (planned_view b) (plan_view b p) q grant wire;
        grant = grant;
        does = InBlock
            (works t (banked P K built) (total_is P K built) enabled q ask step.asks b p runs inside granted grant heard on (h.net.slots i)
            (inside_of t (h.net.slots i) q b p runs w).shown h.memory next slot);
        goes = Advanced on (run_there true (ap is_run runs.listed))
            (block_there next grant (accesses_of_cycle (planned_view b) (plan_view b p) q grant wire) b p runs
            (record {
              inside = inside;
              within = within;
              advances = subst (Advances (bank_of K.spreads) (planned_view b) (plan_view b p) q h.memory grant wire) (sym slot)
                  (advance_is (bank_of K.spreads) (planned_view b) (plan_view b p) runs.keeps (banked P K built).apart q h.memory grant inside);
              makes = refl;
              owned = granted_accesses t granted q b p grant heard;
              wants = wants t (banked P K built) (total_is P K built) enabled q ask step.asks b p runs inside (is_thread P K built i lt) on;
              serves = serves t (banked P K built) (total_is P K built) enabled q ask step.asks b p runs inside granted grant heard;
            }));
      }
  goes next w (moved.Stays on a m ask listed asks refused slot) = still next (ap is_run listed) slot
  goes next w (moved.Acted on a m k asks listed is core won slot) =
      out_of_block next (ap is_run listed) (λ n. ap (λ (z : Slot). z.words n) slot)
      (Acted on a m k asks (listed_there q.stage (stage.Act a m) listed) is core won (slot ∙ ap (λ (n : ℕ). went_on (stage_after n q.stage a m) q) rest_there) refl)
  goes next w (moved.Returned on main m listed slot) =
      out_of_block next (ap is_run listed) (λ n. ap (λ (z : Slot). z.words n) slot)
      (Returned on (is_same i 0 main) m (listed_there q.stage _ listed) (slot ∙ ap (λ (n : ℕ). went_on n q) rest_there) refl)
  goes next w (moved.Ended on main at slot) = still next (past (omega (arith, at))) slot
  goes next w (moved.Idles on other at none slot) = still next (past (omega (arith, at))) slot
  goes next w (moved.Sets_out on other at one slot) =
      let told = thread_ids_told P K built i lt other h in
      out_of_block next (past (omega (arith, at))) (λ n. ap (λ (z : Slot). z.words n) slot)
      (Woke on (run_there false (past (omega (arith, at))))
      (Sets_out (let some : 0 < i = grind (arith, nat_tests) in some) lt (at ∙ rest_there)
      (is_same (status_at (numbers_of K.cores) cores_now i) 1 (one_bit (nat_eq (status_at (numbers_of K.cores) cores_now i) 1) (sym (told 0) ∙ one)))
      (slot ∙ ap (λ (f : ℕ). set_out (K.codes f).code.argument (news P K h.net i (thread_ids_core (numbers_of K.cores)) 1) q) (sym own)
      ∙ ap (λ (a : ℕ). set_out (K.codes q.routine).code.argument a q) (told 1)))
      refl)
  goes next w (moved.Holds_on on l m b at listed there one slot) = still next (past (omega (arith, at))) slot
  goes next w (moved.Goes_on on l m b at listed there none slot) =
      let n = residue_of 64 (act_value q.variables b) in
      let told = bit_told P K i h n there in
      out_of_block next (past (omega (arith, at))) (λ n. ap (λ (z : Slot). z.words n) slot)
      (Woke on (run_there false (past (omega (arith, at))))
      (Goes_on l m b (at ∙ ap (λ (n : ℕ). meeting n l) rest_there) (listed_there l _ listed) (ap (nat_lt 0) (sym told ∙ none)) slot)
      refl)

  pub step_goes : Result step.next
  step_goes = goes step.next (h.stands i lt).at step.moved
