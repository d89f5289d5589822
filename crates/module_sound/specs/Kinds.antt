-- Where inputs, registers, wires and outputs of a module stand.
use Rattle.std.specs.Prelude.{◌≡◌, ℕ, ◌-◌, ◌<◌, ◌≤◌, Bool, true, false, length, Some, slice_get}
use Rattle.netlist.specs.declared.netlist.Value.{Value}
use Rattle.netlist.specs.declared.netlist.Value.TheVariants.{Select}
use Rattle.netlist.specs.declared.netlist.Source.{Source}
use Rattle.netlist.specs.declared.netlist.Source.TheVariants.{Input, Register, Assigned, Port}
use Rattle.netlist.specs.declared.netlist.Signal.{Signal}
use Rattle.netlist.specs.declared.netlist.Effect.{Effect}
use Rattle.netlist.specs.declared.netlist.Effect.TheVariants as effect
use Rattle.netlist.specs.declared.netlist.Action.{Action}
use Rattle.netlist.specs.declared.netlist.Module.{Module}
use Rattle.leaf_machine.specs.Modules.{Has}
use Rattle.module_sound.specs.Names.{place_of}

-- an effect sets register x
abbrev pub IsSetOf : ℕ → Effect → Type 0
IsSetOf x e = (source : ℕ) × (e ≡ effect.Set x source)

-- statement k of a module sets register x
pub record SetsAt (m : Module) (k x : ℕ) : Type 0 where
  pub action : Action
  pub listed : slice_get m.actions k ≡ Some action
  pub is : IsSetOf x action.effect

-- what a select reads has more than one bit
abbrev pub HasRange : Module → Value → Type 0
HasRange m (Select x high low) = (v : ℕ) × Has m x v × (1 < v)
HasRange m _ = Unit {0}

module _ (m : Module) (inputs first x : ℕ) where
  -- inputs stand first, outputs from a place on, and each register is set
  abbrev pub IsKindAt : Bool → Source → Type 0
  IsKindAt out Input = (x < inputs) × (out ≡ false)
  IsKindAt out (Register n) = (inputs ≤ x) × (x < first) × (out ≡ false) × SetsAt m (x - inputs) x
  IsKindAt out (Assigned v) = (inputs ≤ x) × (first ≤ x → out ≡ true) × (x < first → out ≡ false) × HasRange m v
  IsKindAt out (Port i p) = ⊥

  pub record IsPlacedSignal (s : Signal) : Type 0 where
    pub named : place_of (length m.signals) inputs s.name ≡ Some x
    pub kind : IsKindAt s.is_output s.source

-- THE SIGNALS OF A MODULE stand at the places of their kinds
pub record IsPlaced (m : Module) (inputs first : ℕ) : Type 0 where
  pub within : first ≤ length m.signals
  pub order : inputs ≤ first
  pub each : (x : ℕ) (s : Signal) → slice_get m.signals x ≡ Some s → IsPlacedSignal m inputs first x s
