-- The steps of a net, one for each signal that is no register.
use Rattle.std.specs.Prelude.{◌≡◌, ℕ, ◌+◌, List, [], ◌∷◌, ◌++◌, Option, Some, None, slice_get}
use Rattle.netlist.specs.declared.netlist.Source.{Source}
use Rattle.netlist.specs.declared.netlist.Source.TheVariants.{Input, Assigned, Port}
use Rattle.netlist.specs.declared.netlist.Signal.{Signal}
use Rattle.netlist.specs.declared.netlist.Instance.{Instance}
use Rattle.netlist.specs.declared.netlist.Module.{Module}
use Rattle.verilog_meaning.specs.Readings.{or_zero}
use Rattle.sim_values.specs.declared.settle.Feed.{Feed}
use Rattle.sim_values.specs.declared.settle.Feed.TheVariants.{Copied, Computed}
use Rattle.sim_values.specs.declared.settle.Step.{Step}
use Rattle.sim_values.specs.declared.edge.Part.{Part}
use Rattle.sim_values.specs.Stands.{spot_of, step}
use Rattle.sim_layout.specs.Given.{AreRooted, AreRoots}
use Rattle.sim_values.specs.Tree.{instances_of}

abbrev pub signals_of : Option Module → List Signal
signals_of None = []
signals_of (Some m) = m.signals

abbrev pub steps_to : ℕ → List Feed → List Step
steps_to target [] = []
steps_to target (f ∷ feeds) = step target f ∷ steps_to target feeds

-- what gives signal x of a part its number, inputs aside
abbrev pub own_feed : List Part → Part → ℕ → Source → List Feed
own_feed parts p x (Assigned v) = Computed p.module x p.spot ∷ []
own_feed parts p x (Port i port) = Copied ((spot_of (slice_get parts (p.children + i))).base + port) ∷ []
own_feed parts p x _ = []

abbrev pub own_steps : List Part → Part → ℕ → List Signal → List Step
own_steps parts p x [] = []
own_steps parts p x (s ∷ signals) = steps_to (p.spot.base + x) (own_feed parts p x s.source) ++ own_steps parts p (x + 1) signals

-- what gives input x of an instance its number, where the words of the instance round it stand at a base
abbrev pub join_feed : ℕ → List ℕ → ℕ → Source → List Feed
join_feed base inputs x Input = Copied (base + or_zero (slice_get inputs x)) ∷ []
join_feed base inputs x _ = []

abbrev pub join_steps : ℕ → List ℕ → ℕ → ℕ → List Signal → List Step
join_steps base inputs child x [] = []
join_steps base inputs child x (s ∷ signals) = steps_to (child + x) (join_feed base inputs x s.source) ++ join_steps base inputs child (x + 1) signals

abbrev pub instance_steps : List Module → List Part → Part → ℕ → Instance → List Step
instance_steps modules parts p i n = join_steps p.spot.base n.inputs (spot_of (slice_get parts (p.children + i))).base 0 (signals_of (slice_get modules n.of))

abbrev pub all_instances : List Module → List Part → Part → ℕ → List Instance → List Step
all_instances modules parts p i [] = []
all_instances modules parts p i (n ∷ instances) = instance_steps modules parts p i n ++ all_instances modules parts p (i + 1) instances

abbrev pub part_steps : List Module → List Part → Part → List Step
part_steps modules parts p = own_steps parts p 0 (signals_of (slice_get modules p.module)) ++ all_instances modules parts p 0 (instances_of (slice_get modules p.module))

abbrev pub all_steps : List Module → List Part → List Part → List Step
all_steps modules parts [] = []
all_steps modules parts (p ∷ rest) = part_steps modules parts p ++ all_steps modules parts rest

-- all steps of a net: those for the inputs of the outermost module, and those of the instances
pub record AreWires (modules : List Module) (parts : List Part) (signals : List Signal) (base most : ℕ) (wires : List Step) : Type 0 where
  pub roots : List Step
  pub rooted : AreRooted roots base most signals
  pub only : AreRoots base most signals roots
  pub are : wires ≡ roots ++ all_steps modules parts parts
