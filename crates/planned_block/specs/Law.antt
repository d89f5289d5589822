-- The law of a planned block: whatever its stalls, it makes only accesses of its run, and ends with its effect.
use Rattle.std.specs.Prelude.{◌≡◌, ℕ, ◌<◌, ℤ, List, [], ◌∷◌, ◌++◌, false}
use Rattle.interleaving.specs.Memory.{Location, Memory, Access, memory_after, AgreeOn}
use Rattle.interleaving.specs.AnyOrder.{accesses_in}
use Rattle.planned_block.specs.Block.{Block, size, operand_value, finished, leads_to}
use Rattle.planned_block.specs.Plan.{Plan}
use Rattle.planned_block.specs.Run.{Running, bank_events_at, block_run}
use Rattle.planned_block.specs.Slot.{Slot, accesses_where, Works, Passes, Finishes}

-- one cycle: the memory that the slot finds, the accesses that it makes, and what it becomes
pub record Cycle : Type 0 where
  pub memory : Memory ℤ
  pub accesses : List (Access ℤ)
  pub slot : Slot

-- the accesses of some cycles
abbrev pub made_in : List Cycle → List (Access ℤ)
made_in [] = []
made_in (c ∷ cs) = c.accesses ++ made_in cs

abbrev pub slot_after : Slot → List Cycle → Slot
slot_after q [] = q
slot_after q (c ∷ cs) = slot_after c.slot cs

-- at the start of the block
pub record IsAtStart (p : Plan) (q : Slot) : Type 0 where
  pub state : q.state ≡ 0
  pub granted : (k : ℕ) → q.granted k ≡ false
  pub some : 0 < p.states

module _ (bank : Location → ℕ) (b : Block) (p : Plan) (first : Slot) (m : Memory ℤ) where
  abbrev pub run : Running
  run = block_run b first.variables first.arrays m

  -- the accesses that operation k makes in the run
  abbrev pub accesses_of_operation : ℕ → List (Access ℤ)
  accesses_of_operation k = accesses_in (bank_events_at b first.variables run.values k)

  -- cycles within the block. In each of them the places that the run touches are as the block itself has left them:
  -- nobody else has written them
  abbrev pub PassThrough : Slot → List (Access ℤ) → List Cycle → Type 0
  PassThrough q made [] = Unit {0}
  PassThrough q made (c ∷ cs) =
      Passes bank b p q c.memory c.accesses c.slot × AgreeOn run.accesses (memory_after made m) c.memory × PassThrough c.slot (made ++ c.accesses) cs

  -- the block is over with the effect of its run
  pub record IsOver (made : List (Access ℤ)) (q : Slot) : Type 0 where
    pub memory : (l : Location) → memory_after made m l ≡ run.memory l
    pub arrays : (l : Location) → q.arrays l ≡ run.arrays l
    pub variables : (x : ℕ) → q.variables x ≡ finished (operand_value first.variables run.values) b.finals first.variables x
    pub stage : q.stage ≡ leads_to (operand_value first.variables run.values) b.next

  -- in a cycle after these it makes those accesses of the run that belong to the operations granted, and no others;
  -- and when it is left it is over
  pub record KeepsToRun (made : List (Access ℤ)) (q : Slot) : Type 0 where
    pub only_its_accesses : (now : Memory ℤ) (es : List (Access ℤ)) (t : Works bank b p q now es) → AgreeOn run.accesses (memory_after made m) now →
        es ≡ accesses_where t.grants accesses_of_operation (size b) 0
    pub with_its_effect : (now : Memory ℤ) (es : List (Access ℤ)) (r : Slot) → Finishes bank b p q now es r → AgreeOn run.accesses (memory_after made m) now →
        IsOver (made ++ es) r

-- whatever the cycles before: stalls, and grants in any order
abbrev pub BlockKeepsToRun : (Location → ℕ) → Block → Plan → Type 0
BlockKeepsToRun bank b p =
    (first : Slot) (m : Memory ℤ) (cs : List Cycle) → IsAtStart p first → PassThrough bank b p first m first [] cs →
    KeepsToRun bank b p first m (made_in cs) (slot_after first cs)
