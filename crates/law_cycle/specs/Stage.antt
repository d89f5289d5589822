-- The machine and what it shows.
use Rattle.std.specs.Prelude.{ℕ, ◌<◌, ◌≤◌, Bool, List, length, ℤ, Option, Some}
use Rattle.c_program.specs.Tree.{Program}
use Rattle.interleaving.specs.Memory.{Memory}
use Rattle.interleaving.specs.Hardware.{World}
use Rattle.planned_block.specs.Slot.{Slot}
use Rattle.bank_cores.specs.Machine.{Words}
use Rattle.circuit.specs.Arbitration.{is_granted}
use Rattle.circuit.specs.Wiring.{is_enabled, won, stepped, output}
use Rattle.verilog_meaning.specs.Cycles.{Choice}
use Rattle.leaf_machine.specs.Settled.{IsSlot}
use Rattle.leaf_machine.specs.Leaves.{leaf_thread}
use Rattle.block_ir.specs.Asked.{printer_core}
use Rattle.law_threads.specs.Cores.{Core, OfBank, OfMutex, OfBarrier, OfThreadIds, OfPrinter}
use Rattle.core_family.specs.Family.{CoreKind, Mutex, Barrier, ThreadIds, Printer, machine_of, words_of}
use Rattle.core_family.specs.Laws.{FitsState}
use Rattle.law_banks.specs.Memory.{Holds}
use Rattle.law_banks.specs.Partition.{globals_of}
use Rattle.law_cycle.specs.Thread.{Stands}
use Rattle.law_cycle.specs.Steps.{Step}
use Rattle.law_cycle.specs.Built.{Parts, Machine, thread_at}
use Rattle.law_cycle.specs.Bodies.{numbers_of, core_at, core_machine, core_count}

-- a core as the theory has it
abbrev pub shown_as : (o : Option CoreKind) → (machine_of o).State → List ℕ → Core
shown_as (Some (Mutex m)) s out = OfMutex s
shown_as (Some (Barrier b)) s out = OfBarrier s
shown_as (Some (ThreadIds f)) s out = OfThreadIds s
shown_as (Some (Printer p)) s out = OfPrinter out
shown_as _ s out = OfBank

module _ (P : Program) (K : Parts) where
  -- by number of a core what a bank has
  abbrev pub held : Machine K → ℕ → Words
  held h n = words_of (core_at K.cores n) (h.states n)

  -- what core k tells thread i
  abbrev pub news : Machine K → ℕ → ℕ → ℕ → ℕ
  news h i k j = (core_machine K.cores k).tells (h.states k) i j

  -- what the cores behind the banks tell, or may tell later, fits the ports
  abbrev pub FitsTold : Machine K → Type 0
  FitsTold h = (k : ℕ) → length K.cores.banks ≤ k → FitsState (core_at K.cores k) (h.states k)

  -- a state of the machine, what it has printed, and the slots and the memory that it shows
  pub record Stage : Type 0 where
    pub net : Machine K
    pub out : List ℕ
    pub slots : ℕ → Slot
    pub memory : Memory ℤ
    pub fits : (i : ℕ) → i < K.cores.threads → IsSlot (K.bodies i).body (net.slots i)
    pub stands : (i : ℕ) → i < K.cores.threads → Stands (thread_at P K i) (net.slots i) (slots i)
    pub holds : Holds K.spreads (globals_of P) K.cores.threads (held net) memory (λ i. (slots i).words)
    pub told : FitsTold net

  -- ---- in the theory's words

  abbrev pub cores_shown : Machine K → List ℕ → ℕ → Core
  cores_shown h out k = shown_as (core_at K.cores k) (h.states k) out

  abbrev pub look : Stage → World ℤ Slot (ℕ → Core)
  look h = record { slots = h.slots; memory = h.memory; cores = cores_shown h.net h.out }

  -- ---- one cycle

  module _ (c : Choice) (h : Machine K) where
    -- whom core k grants
    abbrev pub winner : ℕ → Option ℕ
    winner = won K.cores.threads (core_count K.cores) (λ i. leaf_thread (K.bodies i).body (K.bodies i).leaf) (core_machine K.cores) c h

    abbrev pub granted_to : ℕ → ℕ → Bool
    granted_to i k = is_granted (winner k) i

    -- by core and part what thread i asks
    abbrev pub asks_of : ℕ → ℕ → ℕ → ℕ
    asks_of i k j = (leaf_thread (K.bodies i).body (K.bodies i).leaf).asks (is_enabled c.mask i) (h.slots i) k j

    abbrev pub next_net : Machine K
    next_net = stepped K.cores.threads (core_count K.cores) (λ i. leaf_thread (K.bodies i).body (K.bodies i).leaf) (core_machine K.cores) c h

    -- what the printer prints
    abbrev pub printed_now : List ℕ
    printed_now = output K.cores.threads (core_count K.cores) (λ i. leaf_thread (K.bodies i).body (K.bodies i).leaf) (core_machine K.cores) c h (printer_core (numbers_of K.cores))

  -- the step of thread i
  abbrev pub StepOf : Choice → Stage → ℕ → Type 0
  StepOf c h i = Step (thread_at P K i) (h.net.slots i) (is_enabled c.mask i) (granted_to c h.net i) (news h.net i) h.memory (h.slots i)
