-- A cycle of the machine is one of the net of planned threads that the theory knows; and the machine's first state.
use Rattle.std.specs.Prelude.{◌≡◌, ℕ, ◌<◌, ◌≤◌, ◌++◌, ◌&&◌, not, nat_eq, Bool, true, false, if◌then◌else◌, [], replicate, Some, None, slice_get}
use Rattle.c_program.specs.Tree.{Program}
use Rattle.c_program.specs.Weight.{bound}
use Rattle.thread_semantics.specs.State.{State, start as first_state}
use Rattle.interleaving.specs.Memory.{Location}
use Rattle.planned_block.specs.Plan.{KeepsOrders}
use Rattle.planned_block.specs.Slot.{Slot, AreBanks}
use Rattle.planned_block.specs.Advance.{wires}
use Rattle.planned_block.specs.Hardware.{PlannedThreads, IsLowered, FitsBlocks}
use Rattle.planned_block.specs.Net.{Grants, NetCycle, Serves, moves}
use Rattle.race_model.specs.Source.{Local, c_source, memory_of}
use Rattle.block_ir.specs.declared.code.Act.{Act}
use Rattle.block_ir.specs.declared.code.Stage.TheVariants as stage
use Rattle.block_ir.specs.Asked.{Asked, asked, core_of, mutex_core, barrier_core, thread_ids_core, printer_core}
use Rattle.block_refine.specs.Routines.{stage_at, rest_of, blocks_of, plans_of, Starts}
use Rattle.verilog_meaning.specs.Cycles.{Choice}
use Rattle.circuit.specs.Wiring.{is_enabled, start}
use Rattle.mutex_cores.specs.declared.mutex.Shape.{Shape as MutexShape}
use Rattle.mutex_cores.specs.Machine.{initial_mutex}
use Rattle.leaf_machine.specs.Leaves.{leaf_thread}
use Rattle.thread_promise.specs.Globals.{bank_of}
use Rattle.thread_promise.specs.Moves.{first_slot}
use Rattle.law_threads.specs.Cores.{Core, may_grant, OfMutex, OfBarrier, OfThreadIds, OfPrinter}
use Rattle.law_threads.specs.Surroundings.{routine_of, Wakes, around, hardware_code}
use Rattle.law_banks.specs.Laws.{owner_of}
use Rattle.law_cycle.specs.Built.{Parts, IsBuilt}
use Rattle.law_cycle.specs.Bodies.{numbers_of, core_machine, core_count}
use Rattle.law_cycle.specs.Stage.{Stage, cores_shown, look, winner, next_net, printed_now}
use Rattle.law_cycle.specs.Going.{in_block}
use Rattle.law_cycle.specs.Laws.{Next}

-- what is known of the code: plans keep the orders of their blocks, the run of a block is so many steps of its thread, and acts, waits and wakes
-- are what the theory asks for
pub record FitsTheory (P : Program) (K : Parts) (chain : ℕ → ℕ → ℕ) : Type 0 where
  pub banks : AreBanks (bank_of K.spreads)
  pub keeps : (f l : ℕ) → KeepsOrders (blocks_of K.codes f l) (plans_of K.codes f l)
  pub lowered : IsLowered (c_source P) (hardware_code K.codes chain) (Starts P K.codes) (bound P)
  pub fits : FitsBlocks (c_source P) (bank_of K.spreads) (hardware_code K.codes chain) (around P K.codes (numbers_of K.cores) K.cores.threads) (bound P)

-- a slot that moves turns its beat
abbrev pub turned : Slot → Slot → Bool
turned q r = if q.beat then not r.beat else r.beat

module _ (P : Program) (K : Parts) where
  -- the threads of the program, for the theory
  abbrev pub threads_of : (chain : ℕ → ℕ → ℕ) → FitsTheory P K chain → PlannedThreads
  threads_of chain known = record {
    Local = Local;
    State = State;
    Core = Core;
    source = c_source P;
    bank = bank_of K.spreads;
    banks = known.banks;
    code = hardware_code K.codes chain;
    keeps = known.keeps;
    spared = λ f l s lt. λ i. 0;
    around = around P K.codes (numbers_of K.cores) K.cores.threads;
    B = bound P;
    lowered = known.lowered;
    fits = known.fits;
  }

  module _ (c : Choice) (h : Stage P K) where
    -- what the theory is given of a cycle: who is enabled and in a block, who moves outside blocks, and whom each core grants
    abbrev pub grants_of : Next P K c h → Grants
    grants_of n = record {
      enabled = λ i. is_enabled c.mask i && in_block K (h.slots i);
      outside = λ i. not (in_block K (h.slots i)) && turned (h.slots i) (n.slots i);
      grant = n.grant;
      wire = λ i. wires (bank_of K.spreads) (blocks_of K.codes (h.slots i).routine (h.slots i).stage) (plans_of K.codes (h.slots i).routine (h.slots i).stage) (h.slots i);
      bank_owner = λ k. owner_of K.cores.threads (winner P K c h.net k);
      core_owner = λ k. owner_of K.cores.threads (winner P K c h.net k);
    }

    -- why an enabled thread stays where nobody moves: its act has no core, or the core may not grant it, or it rests and does not wake
    pub data Stalled (i : ℕ) : Type 0 where
      NoCore : (a : Act) (next : ℕ) (asks : Asked) (listed : stage_at K.codes (h.slots i).routine (h.slots i).stage ≡ Some (stage.Act a next))
          (is : asked (nat_eq i 0) a (h.slots i).variables ≡ Some asks) (none : core_of (numbers_of K.cores) asks ≡ None) → Stalled i
      Refused : (a : Act) (next k : ℕ) (asks : Asked) (listed : stage_at K.codes (h.slots i).routine (h.slots i).stage ≡ Some (stage.Act a next))
          (is : asked (nat_eq i 0) a (h.slots i).variables ≡ Some asks) (names : core_of (numbers_of K.cores) asks ≡ Some k)
          (kept : may_grant (cores_shown P K h.net h.out k) i asks ≡ false) → Stalled i
      Rests_on : (at : rest_of K.codes (h.slots i).routine ≤ (h.slots i).stage)
          (still : (r : Slot) → Wakes P K.codes (numbers_of K.cores) K.cores.threads (cores_shown P K h.net h.out) i (h.slots i) r → ⊥) → Stalled i

    pub record Cycled (chain : ℕ → ℕ → ℕ) (known : FitsTheory P K chain) : Type 0 where
      pub next : Stage P K
      pub net : next.net ≡ next_net P K c h.net
      pub out : next.out ≡ h.out ++ printed_now P K c h.net
      pub grants : Grants
      pub cycle : NetCycle (threads_of chain known) (look P K h) (look P K next) grants K.cores.threads
      -- where a request waits, one is answered
      pub serves : Serves (threads_of chain known) (look P K h) (look P K next) grants K.cores.threads
      -- who moves turns the beat, and who does not keeps the slot
      pub turns : (i : ℕ) → i < K.cores.threads → moves (threads_of chain known) (look P K h) (look P K next) grants i ≡ true → (next.slots i).beat ≡ not (h.slots i).beat
      pub stays : (i : ℕ) → i < K.cores.threads → moves (threads_of chain known) (look P K h) (look P K next) grants i ≡ false → next.slots i ≡ h.slots i
      pub stalls : ((j : ℕ) → j < K.cores.threads → moves (threads_of chain known) (look P K h) (look P K next) grants j ≡ false) → (i : ℕ) → i < K.cores.threads →
          is_enabled c.mask i ≡ true → Stalled i

-- WHAT IS BUILT FITS THE THEORY
abbrev pub BuiltFits : Type 0
BuiltFits = (P : Program) (K : Parts) (built : IsBuilt P K) → FitsTheory P K built.chain

-- CYCLE: each choice leads to a next stage, by a cycle that the theory knows
abbrev pub NetCycles : Type 0
NetCycles =
    (P : Program) (K : Parts) → IsBuilt P K → (chain : ℕ → ℕ → ℕ) (known : FitsTheory P K chain) (c : Choice) (h : Stage P K) → Cycled P K c h chain known

-- THE START: the machine's first state, with the first slots, the first memory and the first cores
pub record First (P : Program) (K : Parts) : Type 0 where
  pub stage : Stage P K
  pub net : stage.net ≡ start K.cores.threads (core_count K.cores) (λ i. leaf_thread (K.bodies i).body (K.bodies i).leaf) (core_machine K.cores)
  pub out : stage.out ≡ []
  pub slots : (i : ℕ) → stage.slots i ≡ first_slot (nat_eq i 0) (routine_of P i) (rest_of K.codes (routine_of P i))
  pub memory : (l : Location) → stage.memory l ≡ memory_of (first_state P).globals l
  pub mutexes : (n : ℕ) (s : MutexShape) → slice_get K.cores.mutexes n ≡ Some s → cores_shown P K stage.net [] (mutex_core (numbers_of K.cores) n) ≡ OfMutex (initial_mutex s.initialised)
  pub barriers : (n : ℕ) → n < K.cores.barriers →
      cores_shown P K stage.net [] (barrier_core (numbers_of K.cores) n) ≡ OfBarrier (record { count = 0; waiting = replicate K.cores.threads 0 })
  pub thread_ids : K.cores.thread_ids ≡ true →
      cores_shown P K stage.net [] (thread_ids_core (numbers_of K.cores)) ≡ OfThreadIds (record { statuses = replicate K.cores.threads 0; arguments = replicate K.cores.threads 0 })
  pub printer : cores_shown P K stage.net [] (printer_core (numbers_of K.cores)) ≡ OfPrinter []

abbrev pub NetStarts : Type 0
NetStarts = (P : Program) (K : Parts) → IsBuilt P K → First P K
