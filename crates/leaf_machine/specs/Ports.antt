-- The ports of a thread's module, by the cores that it asks.
use Rattle.std.specs.Prelude.{◌≡◌, ℕ, ◌+◌, ◌<◌, true, List, [], ◌∷◌, ◌++◌, length, take, replicate, Some, slice_get}
use Rattle.std.specs.List.{flat_map}
use Rattle.netlist.specs.declared.netlist.Module.{Module}
use Rattle.circuit.specs.Rows.{EachOf}
use Rattle.circuit.specs.Interfaces.{first_of, IsTableModule}
use Rattle.leaf_machine.specs.Leaves.{LeafPorts}
use Rattle.leaf_machine.specs.Standing.{IsSilent}

-- the widths of the parts of an ask of one thread, the first of which says whether it asks; and those of the numbers that the core tells it
pub record CorePort : Type 0 where
  pub asks : List ℕ
  pub told : List ℕ

abbrev pub asks_of : List CorePort → List ℕ
asks_of ports = flat_map (λ (p : CorePort). p.asks) ports

abbrev pub told_of : List CorePort → List ℕ
told_of ports = flat_map (λ (p : CorePort). p.told) ports

-- how many of them stand before those of core k
abbrev pub ask_place : List CorePort → ℕ → ℕ
ask_place ports k = length (asks_of (take k ports))

abbrev pub told_place : List CorePort → ℕ → ℕ
told_place ports k = length (told_of (take k ports))

-- the clock, whether the thread is enabled, for each core whether it grants, and what cores tell
abbrev pub thread_inputs : List CorePort → List ℕ
thread_inputs ports = 1 ∷ 1 ∷ (replicate (length ports) 1 ++ told_of ports)

-- what it asks of cores, whether it needs one, and whether it is done
abbrev pub thread_outputs : List CorePort → List ℕ
thread_outputs ports = asks_of ports ++ 1 ∷ 1 ∷ []

-- a thread's module of this name, for these cores: it can stand in a table of modules, it writes nothing, and its ports stand in this order
pub record IsRoutineModule (name : List ℕ) (ports : List CorePort) (m : Module) (inputs : ℕ) (leaf : LeafPorts) : Type 0 where
  pub named : m.name ≡ name
  pub stands : IsTableModule m (thread_inputs ports) (thread_outputs ports)
  pub silent : EachOf IsSilent m.actions
  pub inputs_are : inputs ≡ length (thread_inputs ports)
  pub uses : (k : ℕ) → k < length ports → leaf.uses k ≡ true
  pub enable : leaf.enable ≡ 1
  pub grant : (k : ℕ) → k < length ports → leaf.grant k ≡ 2 + k
  pub told : (k j : ℕ) (p : CorePort) → slice_get ports k ≡ Some p → j < length p.told → leaf.told k j ≡ 2 + length ports + (told_place ports k + j)
  pub ask : (k j : ℕ) (p : CorePort) → slice_get ports k ≡ Some p → j < length p.asks → leaf.ask k j ≡ first_of m (thread_outputs ports) + (ask_place ports k + j)
  pub need : leaf.need ≡ first_of m (thread_outputs ports) + length (asks_of ports)
  pub done : leaf.done ≡ first_of m (thread_outputs ports) + (length (asks_of ports) + 1)

-- number j of what core k is asked stands where its place says
abbrev pub PartsStand : Type 0
PartsStand = (ports : List CorePort) (k j : ℕ) (p : CorePort) → slice_get ports k ≡ Some p → j < length p.asks
    → slice_get (asks_of ports) (ask_place ports k + j) ≡ slice_get p.asks j
