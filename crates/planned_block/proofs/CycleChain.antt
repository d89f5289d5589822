-- A cycle of a net of planned threads is a chain of their moves, and its runs follow one interleaving.
use Rattle.std.specs.Prelude.{◌⊎◌, ℤ, Bool, true, false, ◌&&◌, ◌||◌, if◌then◌else◌}
use Rattle.std.proofs.Common.{◌≡◌, ℕ, ◌<◌, List, [], refl, ap, ◌∙◌, subst, ⊎_elim, inl, ◌≢◌}
use Rattle.std.proofs.lemmas.Bool.{or_right, both_ways}
use Rattle.interleaving.specs.Memory.{Access, memory_after}
use Rattle.interleaving.specs.Hardware.{World}
use Rattle.interleaving.specs.Cycle.{StaysInCycle, TurnsInCycle, ActsInCycle}
use Rattle.interleaving.specs.Headline.{Refinement}
use Rattle.interleaving.proofs.Order.{order_in_cycle}
use Rattle.interleaving.proofs.Headline.{runs_as_one}
use Rattle.planned_block.specs.Block.{Block, size}
use Rattle.planned_block.specs.Plan.{Plan}
use Rattle.planned_block.specs.Slot.{Slot, bank_access_now}
use Rattle.planned_block.specs.Advance.{accesses_of_cycle, answered, is_ready, is_answered}
use Rattle.planned_block.specs.Hardware.{changes_left, block_of, plan_of, PlannedThreads, hardware_of}
use Rattle.planned_block.specs.Net.{Grants, place_owner, RunsInCycle, NetCycle, moves, IsChain, SomebodyMoves, MovesChange}
use Rattle.planned_block.specs.Headline.{BlocksArePlanned, PlannedProgram, PlannedRunsAsOne}
use Rattle.planned_block.proofs.Advances.{advances, ready_or_asks, some_tells, touched_by_one, turns_frame, turns_change}
use Rattle.planned_block.proofs.Planned.{blocks_planned, blocks_timed}

module _ (M : PlannedThreads) (w v : World ℤ Slot (ℕ → M.Core)) (g : Grants) where
  abbrev b : ℕ → Block
  b n = block_of M.code (w.slots n)

  abbrev p : ℕ → Plan
  p n = plan_of M.code (w.slots n)

  abbrev made : ℕ → List (Access ℤ)
  made n = accesses_of_cycle (b n) (p n) (w.slots n) (g.grant n) (g.wire n)

  abbrev goes : ℕ → Bool
  goes n = is_ready (b n) (p n) (w.slots n) (g.grant n) || is_answered (b n) (p n) (w.slots n) (g.grant n)

  turns : (n : ℕ) → RunsInCycle M w v g n → (e : Bool) → g.enabled n ≡ e → (e && goes n) ≡ true → TurnsInCycle M.source (hardware_of M) w v (place_owner M w v g) g.core_owner n
  turns n r false e go = absurd (both_ways false refl go)
  turns n r true e go =
      ⊎_elim
      (λ t. record {
        accesses = made n;
        turn = λ m c agree fit. inl (turns_frame M.bank (b n) (p n) (w.slots n) w.memory m (made n) (v.slots n) t.0 agree);
        own = λ l u. let one = touched_by_one (answered (b n) (p n) (w.slots n) (g.grant n)) (bank_access_now (b n) (p n) (w.slots n) (g.wire n)) (size (b n)) 0 l u in
            r.owned one.0 l e one.1 one.2;
        memory = λ l o. subst (λ (c : Bool). v.memory l ≡ memory_after (if c then made n else []) w.memory l) e (r.memory l o);
        cores = r.cores;
      })
      (λ rest. absurd (both_ways (goes n) rest.2 go))
      (advances M.bank (b n) (p n) (w.slots n) w.memory (g.grant n) (g.wire n) (v.slots n) (r.on e) (r.inside e) r.within)

  stays : (n : ℕ) → RunsInCycle M w v g n → (e : Bool) → g.enabled n ≡ e → (e && goes n) ≡ false → StaysInCycle M.source (hardware_of M) w v (place_owner M w v g) g.core_owner n
  stays n r false e go = record {
    slot = r.off e;
    memory = λ l o. subst (λ (c : Bool). v.memory l ≡ memory_after (if c then made n else []) w.memory l) e (r.memory l o);
    cores = r.cores;
  }
  stays n r true e go =
      ⊎_elim
      (λ t. absurd (both_ways (goes n) go t.1))
      (λ rest. record {
        slot = rest.0;
        memory = λ l o. subst (λ (c : Bool). v.memory l ≡ memory_after (if c then made n else []) w.memory l) e (r.memory l o) ∙ ap (λ es. memory_after es w.memory l) rest.1;
        cores = r.cores;
      })
      (advances M.bank (b n) (p n) (w.slots n) w.memory (g.grant n) (g.wire n) (v.slots n) (r.on e) (r.inside e) r.within)

  module _ (T : ℕ) (net : NetCycle M w v g T) where
    moves_one : (n : ℕ) → n < T → (a : Bool) → g.outside n ≡ a → (a || (g.enabled n && goes n)) ≡ true →
        TurnsInCycle M.source (hardware_of M) w v (place_owner M w v g) g.core_owner n ⊎ ActsInCycle M.source (hardware_of M) w v (place_owner M w v g) g.core_owner n
    moves_one n lt true a m = net.acts n lt a
    moves_one n lt false a m = inl (turns n (net.runs n lt a) (g.enabled n) refl m)

    stays_one : (n : ℕ) → n < T → (a : Bool) → g.outside n ≡ a → (a || (g.enabled n && goes n)) ≡ false → StaysInCycle M.source (hardware_of M) w v (place_owner M w v g) g.core_owner n
    stays_one n lt true a m = absurd (both_ways true m refl)
    stays_one n lt false a m = stays n (net.runs n lt a) (g.enabled n) refl m

-- ORDER IN A CYCLE, for planned threads
pub is_chain : (M : PlannedThreads) → IsChain M
is_chain M w v g T net =
    order_in_cycle M.source (hardware_of M) w v (place_owner M w v g) g.core_owner T (moves M w v g)
    (record {
      stays = λ n lt m. stays_one M w v g T net n lt (g.outside n) refl m;
      goes = λ n lt m. moves_one M w v g T net n lt (g.outside n) refl m;
      beyond = net.beyond;
      unowned = net.unowned;
      idle = net.idle;
    })

-- SOMEBODY MOVES
pub somebody_moves : (M : PlannedThreads) → SomebodyMoves M
somebody_moves M w v g T serves n lt e =
    ⊎_elim
    (λ r. (
      n,
      lt,
      or_right (g.outside n) _ (ap (λ c. c && goes M w v g n) e ∙ ap (λ c. c || is_answered (b M w v g n) (p M w v g n) (w.slots n) (g.grant n)) r),
    ))
    (λ a.
    let s = serves n a.0 lt e a.1 a.2 in
    let i = s.0 in (
      i,
      s.2,
      or_right (g.outside i) _ (ap (λ c. c && goes M w v g i) s.3
          ∙ or_right (is_ready (b M w v g i) (p M w v g i) (w.slots i) (g.grant i)) _ (some_tells (answered (b M w v g i) (p M w v g i) (w.slots i) (g.grant i)) (size (b M w v g i)) s.1 s.4 s.5)),
    ))
    (ready_or_asks M.bank (b M w v g n) (p M w v g n) (w.slots n) (g.grant n))

-- EACH MOVE CHANGES A SLOT
pub moves_change : (M : PlannedThreads) → MovesChange M
moves_change M w v g n r go = by_enabled (g.enabled n) refl go
  where
    by_enabled : (e : Bool) → g.enabled n ≡ e → (e && goes M w v g n) ≡ true → v.slots n ≢ w.slots n
    by_enabled false e m = absurd (both_ways false refl m)
    by_enabled true e m =
        ⊎_elim
        (λ t. turns_change M.bank (b M w v g n) (p M w v g n) (w.slots n) w.memory (made M w v g n) (v.slots n) t.0)
        (λ rest. absurd (both_ways (goes M w v g n) rest.2 m))
        (advances M.bank (b M w v g n) (p M w v g n) (w.slots n) w.memory (g.grant n) (g.wire n) (v.slots n) (r.on e) (r.inside e) r.within)

-- PLANNED
pub are_planned : (M : PlannedThreads) → BlocksArePlanned M
are_planned M = (blocks_planned M, blocks_timed M)

-- the program and its machine, as the theory of interleavings takes them
refinement_of : PlannedProgram → Refinement
refinement_of M = record {
  Value = ℤ;
  Local = M.threads.Local;
  State = M.threads.State;
  Slot = Slot;
  Cores = ℕ → M.threads.Core;
  Machine = M.Machine;
  Choice = M.Choice;
  source = M.threads.source;
  threaded = M.threaded;
  hardware = hardware_of M.threads;
  planned = blocks_planned M.threads;
  T = M.T;
  B = M.threads.B;
  left = changes_left M.threads.code;
  timed = blocks_timed M.threads;
  look = M.look;
  cycle = M.cycle;
  is_full = M.is_full;
  counts = M.counts;
  full_counts = M.full_counts;
  clocked = M.clocked;
  views = M.views;
  seen = M.seen;
  first = M.first;
  starts = M.starts;
}

-- THE HEADLINE'S SECOND SENTENCE, for planned blocks
pub planned_runs : (M : PlannedProgram) → PlannedRunsAsOne M
unfolding refinement_of
planned_runs M good C = runs_as_one (refinement_of M) good C
