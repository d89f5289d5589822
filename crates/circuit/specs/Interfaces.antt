-- Modules that can stand in a table of modules: the ports that they have, and that each is laid out soundly as a text's module.
use Rattle.std.specs.Prelude.{◌≡◌, ℕ, ◌+◌, ◌-◌, nat_eq, List, [], length, Some, slice_get}
use Rattle.verilog_tree.specs.Scope.{is_clk}
use Rattle.netlist.specs.declared.netlist.Signal.{Signal}
use Rattle.netlist.specs.declared.netlist.Module.{Module}
use Rattle.netlist.specs.Laid.{IsLaidModule, input_signals, output_signals}
use Rattle.netlist.specs.Sound.{IsSoundModule}
use Rattle.circuit.specs.Modules.{Has}

-- where so many outputs of a module begin
abbrev pub first_of : Module → List ℕ → ℕ
first_of m outputs = length m.signals - length outputs

-- the first signals of a module have these widths, and its last ones those
pub record HasPorts (m : Module) (inputs outputs : List ℕ) : Type 0 where
  pub inputs_are : (x w : ℕ) → slice_get inputs x ≡ Some w → Has m x w
  pub outputs_are : (x w : ℕ) → slice_get outputs x ≡ Some w → Has m (length m.signals - length outputs + x) w

-- a module has these input ports and these output ports, and the first input alone is the clock
pub record HasInterface (m : Module) (inputs outputs : List ℕ) : Type 0 where
  pub ports : HasPorts m inputs outputs
  pub input_count : length (input_signals m) ≡ length inputs
  pub output_count : length (output_signals m) ≡ length outputs
  pub clock : (x : ℕ) (s : Signal) → slice_get m.signals x ≡ Some s → is_clk s.name ≡ nat_eq x 0

-- a module without instances of this interface, which is laid out soundly whatever modules stand before it
pub record IsTableModule (m : Module) (inputs outputs : List ℕ) : Type 0 where
  pub alone : m.instances ≡ []
  pub interface : HasInterface m inputs outputs
  pub laid : (before : List Module) → IsLaidModule before m
  pub sound : (before : List Module) → IsSoundModule m before
