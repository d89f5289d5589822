-- The tree of the text that tells a netlist: ports, wires and registers, memories, assigns in order of their targets,
-- one initial block, one always block, instances.
use Rattle.std.specs.Prelude.{ℕ, ◌+◌, ◌-◌, nat_eq, nat_lt, if◌then◌else◌, List, [], ◌∷◌, ◌++◌, length, map, Option, Some, None, option_map, unwrap_or, slice_get}
use Rattle.std.specs.List.{flat_map}
use Rattle.verilog_tree.specs.declared.tree.Constant.{Constant}
use Rattle.verilog_tree.specs.declared.tree.Direction.{Direction}
use Rattle.verilog_tree.specs.declared.tree.Direction.TheVariants as direction
use Rattle.verilog_tree.specs.declared.tree.Expression.{Expression}
use Rattle.verilog_tree.specs.declared.tree.Expression.TheVariants as e
use Rattle.verilog_tree.specs.declared.tree.Port.{Port}
use Rattle.verilog_tree.specs.declared.tree.InitialConstant.{InitialConstant}
use Rattle.verilog_tree.specs.declared.tree.WriteArgument.{WriteArgument}
use Rattle.verilog_tree.specs.declared.tree.WriteArgument.TheVariants as w
use Rattle.verilog_tree.specs.declared.tree.Statement.{Statement}
use Rattle.verilog_tree.specs.declared.tree.Statement.TheVariants as s
use Rattle.verilog_tree.specs.declared.tree.Connection.{Connection}
use Rattle.verilog_tree.specs.declared.tree.Instance as text_instance
use Rattle.verilog_tree.specs.declared.tree.Memory as text_memory
use Rattle.verilog_tree.specs.declared.tree.Module as text_module
use Rattle.verilog_tree.specs.declared.tree.Item.{Item}
use Rattle.verilog_tree.specs.declared.tree.Item.TheVariants as i
use Rattle.verilog_tree.specs.declared.tree.Net.{Net}
use Rattle.netlist.specs.declared.netlist.Value.{Value}
use Rattle.netlist.specs.declared.netlist.Value.TheVariants as v
use Rattle.netlist.specs.declared.netlist.Source.{Source}
use Rattle.netlist.specs.declared.netlist.Source.TheVariants as source
use Rattle.netlist.specs.declared.netlist.Signal.{Signal}
use Rattle.netlist.specs.declared.netlist.Memory.{Memory}
use Rattle.netlist.specs.declared.netlist.Argument.{Argument}
use Rattle.netlist.specs.declared.netlist.Argument.TheVariants as a
use Rattle.netlist.specs.declared.netlist.Effect.{Effect}
use Rattle.netlist.specs.declared.netlist.Effect.TheVariants as effect
use Rattle.netlist.specs.declared.netlist.Action.{Action}
use Rattle.netlist.specs.declared.netlist.Instance.{Instance}
use Rattle.netlist.specs.declared.netlist.Module.{Module}
use Rattle.netlist.specs.declared.netlist.Netlist.{Netlist}
use Rattle.netlist.specs.NetlistOf.{Name, Kind, InputPort, OutputPort, PlainWire, Reg}
use Rattle.netlist.specs.Laid.{kind_of}

-- of each of a list, by its place from k on
abbrev pub with_places : {A B : Type 0} → (ℕ → A → B) → ℕ → List A → List B
with_places f k [] = []
with_places f k (x ∷ xs) = f k x ∷ with_places f (k + 1) xs

-- a block of these, where there are any
abbrev pub block : {A B : Type 0} → (List A → B) → List A → List B
block f [] = []
block f (x ∷ xs) = f (x ∷ xs) ∷ []

-- the range of a width: none for one bit
abbrev pub high_of : ℕ → Option ℕ
high_of width = if nat_lt 1 width then Some (width - 1) else None

abbrev pub sized : ℕ → ℕ → Constant
sized width value = record { width = width; value = value }

-- ---- ports, wires, registers and memories

abbrev pub port : Direction → Signal → Port
port d x = record { direction = d; high = high_of x.width; name = x.name }

abbrev pub port_by : Signal → Kind → List Port
port_by x InputPort = port direction.Input x ∷ []
port_by x OutputPort = port direction.Output x ∷ []
port_by x PlainWire = []
port_by x Reg = []

abbrev pub port_of : Signal → List Port
port_of x = port_by x (kind_of x)

abbrev pub declared_by : Signal → Kind → List Item
declared_by x InputPort = []
declared_by x OutputPort = []
declared_by x PlainWire = i.Wire (record { high = high_of x.width; name = x.name }) ∷ []
declared_by x Reg = i.Register (record { high = high_of x.width; name = x.name }) ∷ []

abbrev pub declared : Signal → List Item
declared x = declared_by x (kind_of x)

abbrev pub memory_of : Memory → text_memory.Memory
memory_of x = record { high = x.width - 1; name = x.name; last = length x.initial - 1 }

abbrev pub memory_item : Memory → Item
memory_item x = i.Memory (memory_of x)

-- ---- initial constants

abbrev pub register_by : Signal → Source → List InitialConstant
register_by x source.Input = []
register_by x (source.Register n) = record { name = x.name; word = None; value = sized x.width n } ∷ []
register_by x (source.Assigned right) = []
register_by x (source.Port j port) = []

abbrev pub register_constant : Signal → List InitialConstant
register_constant x = register_by x x.source

abbrev pub word_constant : Memory → ℕ → ℕ → InitialConstant
word_constant x k n = record { name = x.name; word = Some k; value = sized x.width n }

abbrev pub memory_constants : Memory → List InitialConstant
memory_constants x = with_places (word_constant x) 0 x.initial

abbrev pub constants : Module → List InitialConstant
constants m = flat_map register_constant m.signals ++ flat_map memory_constants m.memories

abbrev pub initial_item : List InitialConstant → Item
initial_item cs = i.Initial (record { constants = cs })

abbrev pub always_item : List Statement → Item
always_item body = i.Always (record { body = body })

module _ (m : Module) where
  -- the names of a signal and of a memory, and the module's where there is none at the place
  abbrev pub signal_name : ℕ → Name
  signal_name x = unwrap_or (option_map (λ (s : Signal). s.name) (slice_get m.signals x)) m.name

  abbrev pub memory_name : ℕ → Name
  memory_name j = unwrap_or (option_map (λ (c : Memory). c.name) (slice_get m.memories j)) m.name

  abbrev pub signal_width : ℕ → ℕ
  signal_width x = unwrap_or (option_map (λ (s : Signal). s.width) (slice_get m.signals x)) 0

  abbrev pub words : ℕ → ℕ
  words j = unwrap_or (option_map (λ (c : Memory). length c.initial) (slice_get m.memories j)) 0

  -- ---- right sides

  abbrev pub select : ℕ → ℕ → ℕ → Expression
  select x high low = if nat_eq high low then e.BitSelect (signal_name x) high else e.PartSelect (signal_name x) high low

  -- at a target of this width
  abbrev pub expression : ℕ → Value → Expression
  expression width (v.Copy x) = e.Copy (signal_name x)
  expression width (v.Constant n) = e.Constant (sized width n)
  expression width (v.BitwiseNot x) = e.BitwiseNot (signal_name x)
  expression width (v.Binary operator x y) = e.Binary operator (signal_name x) (signal_name y)
  expression width (v.SignedLess x y) = e.SignedLess (signal_name x) (signal_name y)
  expression width (v.ArithmeticShiftRight x y) = e.ArithmeticShiftRight (signal_name x) (signal_name y)
  expression width (v.Conditional c x y) = e.Conditional (signal_name c) (signal_name x) (signal_name y)
  expression width (v.Division operator x y) = e.Division (signal_name y) (sized width 0) (sized width 0) operator (signal_name x) (signal_name y)
  expression width (v.SignedDivision operator x y) = e.SignedDivision (signal_name y) (sized width 0) (sized width 0) operator (signal_name x) (signal_name y)
  expression width (v.MemoryRead j x) = e.MemoryRead (signal_name x) (sized (signal_width x) (words j)) (memory_name j) (signal_name x) (sized width 0)
  expression width (v.Select x high low) = select x high low
  expression width (v.Concatenation xs) = e.Concatenation (map signal_name xs)
  expression width (v.Replication n x) = e.Replication n (signal_name x)

  abbrev pub assign_by : Signal → Source → List Item
  assign_by x source.Input = []
  assign_by x (source.Register n) = []
  assign_by x (source.Assigned right) = i.Assign (record { target = x.name; value = expression x.width right }) ∷ []
  assign_by x (source.Port j port) = []

  abbrev pub assign_of : Signal → List Item
  assign_of x = assign_by x x.source

  -- ---- statements

  abbrev pub argument : Argument → WriteArgument
  argument (a.Unsigned x) = w.Unsigned (signal_name x)
  argument (a.Signed x) = w.Signed (signal_name x)

  abbrev pub effect_statement : Effect → Statement
  effect_statement (effect.Set x y) = s.Set (signal_name x) (signal_name y)
  effect_statement (effect.Store j x y) = s.Store (memory_name j) (signal_name x) (signal_name y)
  effect_statement (effect.Write text arguments) = s.Write text (map argument arguments)

  -- under the conditions, the outermost first
  abbrev pub guarded : List ℕ → Effect → Statement
  guarded [] x = effect_statement x
  guarded (c ∷ cs) x = s.If (signal_name c) (guarded cs x ∷ [])

  abbrev pub statement : Action → Statement
  statement x = guarded x.conditions x.effect

-- ---- instances, among all modules

-- the ports of a module from place k on, tied to signals of m
abbrev pub tie : Module → Module → ℕ → ℕ → Connection
tie m of k x = record { port = signal_name of k; signal = signal_name m x }

-- the input ports stand first, and the output ports last
abbrev pub connections : Module → Module → Instance → List Connection
connections m of n = with_places (tie m of) 0 n.inputs ++ with_places (tie m of) (length of.signals - length n.outputs) n.outputs

abbrev pub module_at : List Module → Module → ℕ → Module
module_at modules m k = unwrap_or (slice_get modules k) m

abbrev pub instance_by : Module → Instance → Module → text_instance.Instance
instance_by m n of = record { module_name = of.name; name = n.name; connections = connections m of n }

abbrev pub instance_of : List Module → Module → Instance → text_instance.Instance
instance_of modules m n = instance_by m n (module_at modules m n.of)

abbrev pub instance_item : List Module → Module → Instance → Item
instance_item modules m n = i.Instance (instance_of modules m n)

-- ---- modules

abbrev pub ports : Module → List Port
ports m = flat_map port_of m.signals

abbrev pub items : List Module → Module → List Item
items modules m =
    flat_map declared m.signals ++ map memory_item m.memories ++ flat_map (assign_of m) m.signals
    ++ block initial_item (constants m) ++ block always_item (map (statement m) m.actions) ++ map (instance_item modules m) m.instances

abbrev pub text_of_module : List Module → Module → text_module.Module
text_of_module modules m = record { name = m.name; ports = ports m; items = items modules m }

unfoldable pub net_of : Netlist → Net
net_of n = record { modules = map (text_of_module n.modules) n.modules }
