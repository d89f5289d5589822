-- Which barrier a thread meets others at: at the meeting of a wait, that of the wait.
use Rattle.std.specs.Prelude.{◌≡◌, ℕ, ◌<◌, ◌≤◌, false, List, length, Some, slice_get, ℤ}
use Rattle.hls_ints.specs.Residues.{residue_of}
use Rattle.block_ir.specs.Asked.{act_value}
use Rattle.block_ir.specs.declared.code.Act.TheVariants.{BarrierWait}
use Rattle.block_ir.specs.declared.code.ActOperand.{ActOperand}
use Rattle.block_ir.specs.declared.code.Stage.{Stage}
use Rattle.block_ir.specs.declared.code.Stage.TheVariants as stage
use Rattle.block_ir.specs.declared.code.ThreadCode.{ThreadCode}
use Rattle.netlist.specs.declared.netlist.Signal.{Signal}
use Rattle.netlist.specs.declared.netlist.Module.{Module}
use Rattle.verilog_meaning.specs.Readings.{Reading}
use Rattle.circuit.specs.Modules.{Obeys}
use Rattle.operator_wires.specs.Gives.{Grows}
use Rattle.operator_wires.specs.Built.{Base, IsEarlier, Adds}
use Rattle.block_datapath.specs.Moves.{meeting}
use Rattle.block_datapath.specs.declared.registers.Registers.{Registers}
use Rattle.thread_slots.specs.Numbers.{numbers}
use Rattle.thread_slots.specs.Slots.{KnowsStage}
use Rattle.thread_slots.specs.Wired.{AreSlots}
use Rattle.thread_asks.specs.Fields.{IsTypedActOperand, SeesVariables}

module _ (code : ThreadCode) (registers : Registers) where
  -- at the meeting of a wait at stage l a signal shows its barrier
  abbrev pub Names : ℕ → Stage → List Signal → ℕ → Type 0
  Names l s new object =
      (barrier : ActOperand) (next : ℕ) → s ≡ stage.Act (BarrierWait barrier) next → (m : Module) (r : Reading) (variables : ℕ → ℤ) → Grows new m.signals → Obeys m r →
      KnowsStage code registers m r → r.signal registers.stage.register ≡ meeting (length code.stages) l → SeesVariables code registers m r variables →
      IsTypedActOperand code barrier → r.signal object ≡ residue_of 64 (act_value variables barrier)

  -- A STAGE: at other numbers the object is the same
  pub record NamesStage (l : ℕ) (s : Stage) (old new : List Signal) (before after : ℕ) : Type 0 where
    pub grows : Grows old new
    pub rests : (m : Module) (r : Reading) → Grows new m.signals → Obeys m r → KnowsStage code registers m r → l < length code.stages →
        numbers (length code.stages) l s (r.signal registers.stage.register) ≡ false → r.signal after ≡ r.signal before
    pub names : l < length code.stages → Names l s new after
    pub wired : l < length code.stages → (base : Base) → AreSlots base old code registers → IsEarlier old base before 64 → Adds base old new 64 after

  -- so it does at the meetings of the first n stages
  abbrev pub AllNamed : ℕ → List Signal → ℕ → Type 0
  AllNamed n new object = (k : ℕ) (s : Stage) → k < n → slice_get code.stages k ≡ Some s → Names k s new object

  -- THE FIRST n STAGES
  pub record NamesMet (n : ℕ) (old new : List Signal) (object : ℕ) : Type 0 where
    pub grows : Grows old new
    pub names : AllNamed n new object
    pub wired : n ≤ length code.stages → (base : Base) → AreSlots base old code registers → Adds base old new 64 object
