-- The operators of units: results of the operands that multiplexers choose.
use Rattle.std.specs.Prelude.{◌≡◌, ℕ, List, length, Some, slice_get, slice_index, ℤ}
use Rattle.hls_ints.specs.Types.{IntegerType, width_of, wrapped}
use Rattle.c_program.specs.declared.tree.BinaryOperator.{BinaryOperator}
use Rattle.block_ir.specs.Arithmetic.{binary_total}
use Rattle.operator_words.specs.Shown.{binary_result}
use Rattle.netlist.specs.declared.netlist.Signal.{Signal}
use Rattle.netlist.specs.declared.netlist.Module.{Module}
use Rattle.verilog_meaning.specs.Readings.{Reading, width}
use Rattle.circuit.specs.Modules.{Obeys}
use Rattle.operator_wires.specs.Gives.{Grows}
use Rattle.operator_wires.specs.Words.{IsWord}
use Rattle.operator_wires.specs.Built.{Base, AreWires}
use Rattle.block_datapath.specs.Units.{word_at}
use Rattle.unit_datapath.specs.declared.inputs.UnitInputs.{UnitInputs}
use Rattle.unit_datapath.specs.Inputs.{GetsOperands, ArePlaces, AreInputs}

-- wires are added, and so many places
pub record AddsPlaces (base : Base) (old new : List Signal) (w n : ℕ) (places : List ℕ) : Type 0 where
  pub wires : AreWires base old new
  pub stand : ArePlaces new base w n places

-- the links of unit x are as wide as a type
pub record HasWidth (m : Module) (c : UnitInputs) (x : ℕ) (ty : IntegerType) : Type 0 where
  pub left : width m (slice_index c.lefts x) ≡ width_of ty
  pub right : width m (slice_index c.rights x) ≡ width_of ty

-- each of the first units shows what an operator gives on its operands
pub record ShowsResults (old new : List Signal) (c : UnitInputs) (operator : BinaryOperator) (ty : IntegerType) (n : ℕ) (places : List ℕ) : Type 0 where
  pub grows : Grows old new
  pub count : length places ≡ n
  pub shows : (m : Module) (r : Reading) (x place : ℕ) (a b : ℤ) → Grows new m.signals → Obeys m r → slice_get places x ≡ Some place → HasWidth m c x ty →
      GetsOperands r c x ty a b →
      IsWord m r (word_at place (binary_result operator ty)) (binary_result operator ty) (binary_total operator ty (wrapped ty a) (wrapped ty b))
  pub wired : (base : Base) (many : ℕ) → AreInputs old base (width_of ty) many c → AddsPlaces base old new (width_of (binary_result operator ty)) n places
