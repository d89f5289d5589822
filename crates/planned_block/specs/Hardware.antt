-- Hardware of planned blocks: an instance of the hardware of the theory of interleavings; and what lowering has to give for it.
use Rattle.std.specs.Prelude.{◌≡◌, ◌≢◌, ℕ, zero, suc, ◌<◌, ◌≤◌, ◌+◌, ◌-◌, ◌*◌, ℤ, List, [], length, Bool, true, false, not, ◌&&◌, ◌⊎◌, if◌then◌else◌}
use Rattle.interleaving.specs.Memory.{Location, Memory, Access, memory_after}
use Rattle.interleaving.specs.AnyOrder.{accesses_in}
use Rattle.interleaving.specs.Source.{Undefined, Moves, Source, Move, accesses_of, end_of, view_at, RunsAlone}
use Rattle.interleaving.specs.Interleaving.{Reachable}
use Rattle.interleaving.specs.Threaded.{Moved}
use Rattle.interleaving.specs.Hardware.{World, Hardware, OnlyMoves, ActLands}
use Rattle.planned_block.specs.Block.{Block, operation_at, size, operand_value, finished, leads_to}
use Rattle.planned_block.specs.Plan.{Plan, KeepsOrders}
use Rattle.planned_block.specs.Run.{Running, block_run, array_events_at, events_from}
use Rattle.planned_block.specs.Slot.{Slot, AreBanks, is_request, was_granted, Turns}
use Rattle.planned_block.specs.InFlight.{InFlight}

-- the code of all routines, by routine and stage: a block has a plan of some states, an act one of none
pub record Code : Type 0 where
  pub blocks : ℕ → ℕ → Block
  pub plans : ℕ → ℕ → Plan
  -- how many changes of a slot are set aside for the stepless blocks that follow a stage
  pub reserve : ℕ → ℕ → ℕ
  -- and for a stage of no block, by the state of the slot there
  pub spare : ℕ → ℕ → ℕ → ℕ

-- how many of the first n pass
abbrev pub count_below : (ℕ → Bool) → ℕ → ℕ
count_below test zero = 0
count_below test (suc n) = count_below test n + (if test n then 1 else 0)

module _ (code : Code) where
  abbrev pub block_of : Slot → Block
  block_of q = code.blocks q.routine q.stage

  abbrev pub plan_of : Slot → Plan
  plan_of q = code.plans q.routine q.stage

  -- operation k has a request that is still to be granted
  abbrev pub is_open : Slot → ℕ → Bool
  is_open q k = is_request (operation_at (block_of q) k).kind && not (was_granted (block_of q) (plan_of q) q k)

  -- how often a slot may change before its thread has taken a step: once for each state and each request to come, and as often as the
  -- stepless blocks that follow take
  abbrev pub changes_left : Slot → ℕ
  changes_left q = code.reserve q.routine q.stage + (code.spare q.routine q.stage q.state + (((plan_of q).states - q.state) + count_below (is_open q) (size (block_of q))))

  -- what is left at the start of a stage
  abbrev pub changes_of : ℕ → ℕ → ℕ
  changes_of f l = code.reserve f l + (code.spare f l 0 + ((code.plans f l).states + count_below (λ k. is_request (operation_at (code.blocks f l) k).kind) (size (code.blocks f l))))

-- what the concrete side says of threads besides blocks. An act reads variables alone, so no value has to outlive its block
pub record Surroundings (Local State Core : Type 0) : Type 1 where
  -- the local state is at the start of this stage of this routine, with these variables and arrays
  pub Starts : Local → ℕ → ℕ → (ℕ → ℤ) → Memory ℤ → Type 0
  -- the slot of this thread is in no block for this local state: it waits at a core, or has not begun
  pub Waits : (ℕ → Core) → ℕ → Local → Slot → Type 0
  -- in one cycle it may come to the start of a stage, with no access: a waiter that goes on, or a thread that begins
  pub Wakes : (ℕ → Core) → ℕ → Slot → Slot → Type 0
  -- the cores stand for the state
  pub Stands : (ℕ → Core) → State → Type 0
  -- in one cycle this thread may do an act, or the return that ends it
  pub Act : World ℤ Slot (ℕ → Core) → ℕ → World ℤ Slot (ℕ → Core) → Type 0

module _ {Local State Core : Type 0} (bank : Location → ℕ) (code : Code) (around : Surroundings Local State Core) (B : ℕ) where
  -- the slot is at the start of a stage
  pub record Begins (x : Local) (q : Slot) : Type 0 where
    pub starts : around.Starts x q.routine q.stage q.variables q.arrays
    pub state : q.state ≡ 0
    pub granted : (k : ℕ) → q.granted k ≡ false

  -- the slot is in a block, within the run of hs
  pub record Flies (x : Local) (m : Memory ℤ) (hs : List (Move ℤ Local)) (made : List (Access ℤ)) (q : Slot) : Type 0 where
    -- the arrays at the block's start, the values of the run, and the accesses of arrays made so far
    pub first : Memory ℤ
    pub values : ℕ → ℤ
    pub stored : List (Access ℤ)
    pub flight : InFlight bank (block_of code q) (plan_of code q) m (accesses_of hs) first values made stored q
    -- where the run ends
    pub ends : around.Starts (end_of x hs) q.routine (leads_to (operand_value q.variables values) (block_of code q).next)
        (finished (operand_value q.variables values) (block_of code q).finals q.variables)
        (memory_after (accesses_in (events_from (array_events_at (block_of code q) q.variables values) (size (block_of code q)) 0)) first)
    pub fits : hs ≡ [] → changes_of code q.routine (leads_to (operand_value q.variables values) (block_of code q).next) ≤ code.reserve q.routine q.stage

  abbrev pub planned_hardware : Hardware ℤ Local State Slot (ℕ → Core)
  planned_hardware = record {
    Stands = around.Stands;
    Rests = λ c i x q. Begins x q ⊎ around.Waits c i x q;
    Flies = Flies;
    Turn = λ c i q m es r. Turns bank (block_of code q) (plan_of code q) q m es r ⊎ ((es ≡ []) × around.Wakes c i q r);
    Spends = λ q r k. changes_left code r < changes_left code q + B * k;
    Act = around.Act;
  }

-- what lowering gives
module _ {Local State : Type 0} (P : Source ℤ Local State) (code : Code) (Starts : Local → ℕ → ℕ → (ℕ → ℤ) → Memory ℤ → Type 0) (B : ℕ) where
  module _ (x : Local) (f l : ℕ) (variables : ℕ → ℤ) (arrays m : Memory ℤ) where
    abbrev run_at : Running
    run_at = block_run (code.blocks f l) variables arrays m

    abbrev pub stage_after : ℕ
    stage_after = leads_to (operand_value variables run_at.values) (code.blocks f l).next

    -- the run of the block is these steps, and leads to the start of a stage
    pub record IsBlockRun (hs : List (Move ℤ Local)) : Type 0 where
      pub accesses : run_at.accesses ≡ accesses_of hs
      pub ends : Starts (end_of x hs) f stage_after (finished (operand_value variables run_at.values) (code.blocks f l).finals variables) run_at.arrays
      -- a stepless block's successor is paid for with it
      pub fits : hs ≡ [] → changes_of code f stage_after ≤ code.reserve f l

    -- the block does its number of steps, none of them an act
    pub record IsSteps : Type 0 where
      pub only_moves : OnlyMoves P (code.blocks f l).steps x m
      pub block_runs : (hs : List (Move ℤ Local)) → RunsAlone P x m hs → length hs ≡ (code.blocks f l).steps → IsBlockRun hs

  pub record IsLowered : Type 0 where
    pub blocks : (s : State) (i f l : ℕ) (variables : ℕ → ℤ) (arrays : Memory ℤ) → Reachable P s → Starts (P.local s i) f l variables arrays → 0 < (code.plans f l).states →
        IsSteps (P.local s i) f l variables arrays (P.memory s)
    pub bounded : (f l : ℕ) → changes_of code f l < B

-- what acts and waiting slots have to meet
pub record FitsBlocks {Local State Core : Type 0} (P : Source ℤ Local State) (bank : Location → ℕ) (code : Code) (around : Surroundings Local State Core) (B : ℕ) : Type 0 where
  -- moves change nothing that the cores stand for
  pub stands : (c : ℕ → Core) (s t : State) (i : ℕ) (y : Local) (es : List (Access ℤ)) → Reachable P s → view_at P s i ≡ Moves y es → around.Stands c s → Moved P s i y es t →
      around.Stands c t
  -- where the source's step is not undefined, an act is that step
  pub act : (s : State) (i : ℕ) (w v : World ℤ Slot (ℕ → Core)) → Reachable P s → (P.is_ended s ≡ false → P.is_live s i ≡ true → P.step s i ≢ Undefined) →
      around.Stands w.cores s → (planned_hardware bank code around B).Rests w.cores i (P.local s i) (w.slots i) → around.Act w i v →
      (t : State) × ActLands P (planned_hardware bank code around B) s t i w v
  -- who acts, waits or wakes is in no block
  pub acts_outside : (i : ℕ) (w v : World ℤ Slot (ℕ → Core)) → around.Act w i v → (plan_of code (w.slots i)).states ≡ 0
  pub waits_outside : (c : ℕ → Core) (i : ℕ) (x : Local) (q : Slot) → around.Waits c i x q → (plan_of code q).states ≡ 0
  pub wakes_outside : (c : ℕ → Core) (i : ℕ) (q r : Slot) → around.Wakes c i q r → (plan_of code q).states ≡ 0
  -- who wakes takes a number of steps that access no global, and rests where these lead
  pub wakes : (c : ℕ → Core) (s : State) (i : ℕ) (q r : Slot) → Reachable P s → (planned_hardware bank code around B).Rests c i (P.local s i) q → around.Wakes c i q r →
      (n : ℕ) × OnlyMoves P n (P.local s i) (P.memory s) × ((hs : List (Move ℤ Local)) → RunsAlone P (P.local s i) (P.memory s) hs → length hs ≡ n →
      (accesses_of hs ≡ []) × (planned_hardware bank code around B).Rests c i (end_of (P.local s i) hs) r × (changes_left code r < changes_left code q + B * n))

-- a program, its code planned in blocks, and what runs it
pub record PlannedThreads : Type 1 where
  pub Local : Type 0
  pub State : Type 0
  pub Core : Type 0
  pub source : Source ℤ Local State
  pub bank : Location → ℕ
  pub banks : AreBanks bank
  pub code : Code
  pub keeps : (f l : ℕ) → KeepsOrders (code.blocks f l) (code.plans f l)
  pub spared : (f l s : ℕ) → 0 < (code.plans f l).states → code.spare f l s ≡ 0
  pub around : Surroundings Local State Core
  -- so many changes of a slot at most for each step of its thread
  pub B : ℕ
  pub lowered : IsLowered source code around.Starts B
  pub fits : FitsBlocks source bank code around B

abbrev pub hardware_of : (M : PlannedThreads) → Hardware ℤ M.Local M.State Slot (ℕ → M.Core)
hardware_of M = planned_hardware M.bank M.code M.around M.B
