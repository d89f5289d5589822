-- Operands as registers hold them.
use Rattle.std.specs.Prelude.{◌≡◌, ℕ, ◌<◌, ◌≤◌, ◌%◌, ◌^◌, List, Option, ℤ}
use Rattle.hls_ints.specs.Residues.{residue_of}
use Rattle.hls_ints.specs.Types.{IntegerType, HasType, width_of, wrapped}
use Rattle.block_ir.specs.declared.operand.Source.{Source}
use Rattle.block_ir.specs.declared.operand.Source.TheVariants.{Constant, Variable, Value}
use Rattle.block_ir.specs.declared.operand.Operand.{Operand}
use Rattle.block_ir.specs.declared.plan.BlockPlan.{BlockPlan}
use Rattle.planned_block.specs.Block.{operand_value}
use Rattle.plan_blocks.specs.View.{source_view, operand_view, register_at}
use Rattle.netlist.specs.declared.netlist.Signal.{Signal}
use Rattle.netlist.specs.declared.netlist.Module.{Module}
use Rattle.verilog_meaning.specs.Readings.{Reading, width}
use Rattle.circuit.specs.Modules.{Obeys}
use Rattle.operator_wires.specs.declared.words.Word.{Word}
use Rattle.operator_wires.specs.Gives.{Grows}
use Rattle.operator_wires.specs.Words.{IsWord}
use Rattle.operator_wires.specs.Built.{Base, IsEarlier, AddsWord}
use Rattle.block_datapath.specs.Types.{source_type}
use Rattle.block_datapath.specs.declared.registers.Held.{Held}
use Rattle.block_datapath.specs.declared.registers.Registers.{Registers}
use Rattle.block_datapath.specs.Seen.{IsVariable, IsKept}
use Rattle.block_datapath.specs.Wired.{AreRegisters}

-- what an operand comes from stands in registers, where the variables and the values of operations are these
abbrev pub IsRegistered : Module → Reading → Registers → List IntegerType → BlockPlan → (ℕ → ℤ) → (ℕ → ℤ) → Source → Type 0
IsRegistered m r registers types p variables given (Constant ty v) = HasType ty v
IsRegistered m r registers types p variables given (Variable x ty) = IsVariable m r registers types x ty (variables x)
IsRegistered m r registers types p variables given (Value k ty) = IsKept m r registers (register_at p.registers k) ty (given k)

-- a register has a value of a type in its low bits
pub record HoldsLow (m : Module) (r : Reading) (held : Held) (ty : IntegerType) (v : ℤ) : Type 0 where
  pub wide : width m held.register ≡ held.width
  pub room : width_of ty ≤ held.width
  pub fits : r.signal held.register < 2 ^ held.width
  pub shows : r.signal held.register % 2 ^ width_of ty ≡ residue_of (width_of ty) v
  pub typed : HasType ty v

module _ (old new : List Signal) where
  pub record ShowsLow (held : Held) (ty : IntegerType) (out : Word) : Type 0 where
    pub grows : Grows old new
    pub shows : (m : Module) (r : Reading) (v : ℤ) → Grows new m.signals → Obeys m r → HoldsLow m r held ty v → IsWord m r out ty v
    pub wired : (base : Base) → IsEarlier old base held.register held.width → AddsWord base old new ty out

  module _ (registers : Registers) where
    pub record ShowsRegister (register : Option ℕ) (ty : IntegerType) (out : Word) : Type 0 where
      pub grows : Grows old new
      pub shows : (m : Module) (r : Reading) (v : ℤ) → Grows new m.signals → Obeys m r → IsKept m r registers register ty v → IsWord m r out ty v
      pub wired : (base : Base) (types : List IntegerType) → AreRegisters old base types registers → AddsWord base old new ty out

    module _ (types : List IntegerType) (p : BlockPlan) where
      pub record ShowsSource (source : Source) (out : Word) : Type 0 where
        pub grows : Grows old new
        pub shows : (m : Module) (r : Reading) (variables given : ℕ → ℤ) → Grows new m.signals → Obeys m r → IsRegistered m r registers types p variables given source →
            IsWord m r out (source_type source) (operand_value variables given (source_view source))
        pub wired : (base : Base) → AreRegisters old base types registers → AddsWord base old new (source_type source) out

      -- THE WORD of an operand, converted to the type in which a unit works
      pub record ShowsUnitWord (ty : IntegerType) (operand : Operand) (out : Word) : Type 0 where
        pub grows : Grows old new
        pub shows : (m : Module) (r : Reading) (variables given : ℕ → ℤ) → Grows new m.signals → Obeys m r → IsRegistered m r registers types p variables given operand.source →
            IsWord m r out ty (wrapped ty (operand_value variables given (operand_view operand)))
        pub wired : (base : Base) → AreRegisters old base types registers → AddsWord base old new ty out
