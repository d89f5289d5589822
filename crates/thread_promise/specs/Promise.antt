-- What the promise of a thread's module speaks of: the ports of a bank and what is asked there, the block that runs at a stage, and the slot that
-- has left an act.
use Rattle.std.specs.Prelude.{◌≡◌, ℕ, Bool, true, false, not, List, Option, Some, slice_get}
use Rattle.hls_ints.specs.Residues.{bit_of}
use Rattle.hls_ints.specs.Types.{IntegerType}
use Rattle.bank_partition.specs.declared.banks.Spread.{Spread}
use Rattle.block_ir.specs.declared.block.Operation.{Operation}
use Rattle.block_ir.specs.declared.block.Block.{Block}
use Rattle.block_ir.specs.declared.code.Stage.{Stage}
use Rattle.block_ir.specs.declared.code.Stage.TheVariants as stage
use Rattle.block_ir.specs.declared.code.ThreadCode.{ThreadCode}
use Rattle.block_ir.specs.declared.plan.BlockPlan.{BlockPlan}
use Rattle.block_ir.specs.declared.plan.StagePlan.TheVariants as planned
use Rattle.block_ir.specs.declared.plan.Planned.{Planned}
use Rattle.plan_conditions.specs.Plan.{KeepsOrders}
use Rattle.plan_conditions.specs.Slot.{Slot}
use Rattle.plan_conditions.specs.View.{planned_view, plan_view}
use Rattle.plan_conditions.specs.Right.{WorksFromRegisters, AreUnitsApart}
use Rattle.circuit.specs.Readings.{Reading}
use Rattle.thread_promise.specs.Types.{IsTypedBlock}
use Rattle.thread_promise.specs.Globals.{IsAddress, IsAccess}

-- where the ports for a bank stand: whether it grants, and the word that it tells; whether it is asked, whether to write, the address and what
-- is written
pub record BankPorts : Type 0 where
  pub grant : ℕ
  pub word : ℕ
  pub ask : ℕ
  pub writes : ℕ
  pub address : ℕ
  pub value : ℕ

-- a slot that has left an act for a stage
abbrev pub went_on : ℕ → Slot → Slot
went_on l q = record {
  routine = q.routine;
  stage = l;
  state = 0;
  granted = λ k. false;
  variables = q.variables;
  arrays = q.arrays;
  registers = q.registers;
  words = q.words;
  beat = not q.beat;
}

abbrev pub is_run : Option Stage → Bool
is_run (Some (stage.Run b)) = true
is_run _ = false

-- in a reading a bank is asked, where the thread is enabled, for an access of element j of its global: to read, or to write a number
pub record AsksBank (r : Reading) (enable : ℕ) (ports : BankPorts) (s : Spread) (j : ℕ) (writes : Bool) (number : ℕ) : Type 0 where
  pub ask : r.signal ports.ask ≡ r.signal enable
  pub operation : r.signal ports.writes ≡ bit_of writes
  pub address : IsAddress s j (r.signal ports.address)
  pub value : writes ≡ true → r.signal ports.value ≡ number

-- the block at a stage, whose plan keeps its orders; what takes more than logic works on what registers hold, and each functional unit for
-- one operation at a time
pub record RunsAt (globals : List IntegerType) (spreads : List Spread) (code : ThreadCode) (plan : Planned) (l : ℕ) (b : Block) (p : BlockPlan) : Type 0 where
  pub listed : slice_get code.stages l ≡ Some (stage.Run b)
  pub planned_so : slice_get plan.stages l ≡ Some (planned.Run p)
  pub typed : IsTypedBlock globals code b
  pub accesses : (k : ℕ) (o : Operation) → slice_get b.operations k ≡ Some o → IsAccess spreads o
  pub keeps : KeepsOrders (planned_view b) (plan_view b p)
  pub registered : WorksFromRegisters (planned_view b) (plan_view b p)
  pub units : AreUnitsApart b p
