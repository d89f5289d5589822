-- The netlist of a text: each name is looked up in its module, and each signal gets what drives it.
-- Of a well-formed text each name is found and each signal has one driver; the answers elsewhere are of no account.
use Rattle.std.specs.Prelude.{ℕ, ◌+◌, zero, suc, Bool, true, false, nat_eq, ◌&&◌, if◌then◌else◌, List, [], ◌∷◌, ◌++◌, map, Option, Some, None, slice_get}
use Rattle.std.specs.List.{flat_map, position_or_len}
use Rattle.std.specs.Str.{bytes_eq}
use Rattle.verilog_tree.specs.declared.tree.Assign.{Assign}
use Rattle.verilog_tree.specs.declared.tree.Direction.{Direction}
use Rattle.verilog_tree.specs.declared.tree.Direction.TheVariants as direction
use Rattle.verilog_tree.specs.declared.tree.Expression.{Expression}
use Rattle.verilog_tree.specs.declared.tree.Expression.TheVariants as e
use Rattle.verilog_tree.specs.declared.tree.Port.{Port}
use Rattle.verilog_tree.specs.declared.tree.InitialConstant.{InitialConstant}
use Rattle.verilog_tree.specs.declared.tree.WriteArgument.{WriteArgument}
use Rattle.verilog_tree.specs.declared.tree.WriteArgument.TheVariants as w
use Rattle.verilog_tree.specs.declared.tree.Statement.{Statement}
use Rattle.verilog_tree.specs.declared.tree.Statement.TheOpen.{Statement-F}
use Rattle.verilog_tree.specs.declared.tree.Statement.TheFolds.{fold-Statement}
use Rattle.verilog_tree.specs.declared.tree.Connection.{Connection}
use Rattle.verilog_tree.specs.declared.tree.Instance as text_instance
use Rattle.verilog_tree.specs.declared.tree.Memory as text_memory
use Rattle.verilog_tree.specs.declared.tree.Module as text_module
use Rattle.verilog_tree.specs.declared.tree.Item.{Item}
use Rattle.verilog_tree.specs.declared.tree.Item.TheVariants as i
use Rattle.verilog_tree.specs.declared.tree.Net.{Net}
use Rattle.netlist.specs.declared.netlist.Value.{Value}
use Rattle.netlist.specs.declared.netlist.Value.TheVariants as v
use Rattle.netlist.specs.declared.netlist.Source.{Source}
use Rattle.netlist.specs.declared.netlist.Source.TheVariants as source
use Rattle.netlist.specs.declared.netlist.Signal.{Signal}
use Rattle.netlist.specs.declared.netlist.Memory.{Memory}
use Rattle.netlist.specs.declared.netlist.Argument.{Argument}
use Rattle.netlist.specs.declared.netlist.Argument.TheVariants as a
use Rattle.netlist.specs.declared.netlist.Effect.TheVariants as effect
use Rattle.netlist.specs.declared.netlist.Action.{Action}
use Rattle.netlist.specs.declared.netlist.Instance.{Instance}
use Rattle.netlist.specs.declared.netlist.Module.{Module}
use Rattle.netlist.specs.declared.netlist.Netlist.{Netlist}

abbrev pub Name : Type 0
Name = List ℕ

abbrev pub some : {A : Type 0} → Option A → List A
some None = []
some (Some a) = a ∷ []

-- ---- what a module declares: its inputs, then its wires and registers, then its outputs, each in the text's order

pub data Kind : Type 0 where
  InputPort : Kind
  OutputPort : Kind
  PlainWire : Kind
  Reg : Kind

abbrev pub is_output_port : Kind → Bool
is_output_port OutputPort = true
is_output_port _ = false

pub record Declaration : Type 0 where
  pub name : Name
  pub width : ℕ
  pub kind : Kind

-- without a range it is one bit
abbrev pub width_of : Option ℕ → ℕ
width_of None = 1
width_of (Some high) = high + 1

abbrev pub declaration : Kind → Port → Declaration
declaration kind p = record { name = p.name; width = width_of p.high; kind = kind }

abbrev pub input_port : Direction → Port → List Declaration
input_port direction.Input p = declaration InputPort p ∷ []
input_port direction.Output p = []

abbrev pub output_port : Direction → Port → List Declaration
output_port direction.Input p = []
output_port direction.Output p = declaration OutputPort p ∷ []

abbrev pub input_ports : text_module.Module → List Declaration
input_ports m = flat_map (λ (p : Port). input_port p.direction p) m.ports

abbrev pub output_ports : text_module.Module → List Declaration
output_ports m = flat_map (λ (p : Port). output_port p.direction p) m.ports

abbrev pub item_declaration : Item → Option Declaration
item_declaration (i.Wire x) = Some (record { name = x.name; width = width_of x.high; kind = PlainWire })
item_declaration (i.Register x) = Some (record { name = x.name; width = width_of x.high; kind = Reg })
item_declaration _ = None

abbrev pub declarations : text_module.Module → List Declaration
declarations m = input_ports m ++ flat_map (λ x. some (item_declaration x)) m.items ++ output_ports m

abbrev pub memory_item : Item → Option text_memory.Memory
memory_item (i.Memory x) = Some x
memory_item _ = None

abbrev pub instance_item : Item → Option text_instance.Instance
instance_item (i.Instance x) = Some x
instance_item _ = None

abbrev pub assign_item : Item → Option Assign
assign_item (i.Assign x) = Some x
assign_item _ = None

abbrev pub memory_items : text_module.Module → List text_memory.Memory
memory_items m = flat_map (λ x. some (memory_item x)) m.items

abbrev pub instance_items : text_module.Module → List text_instance.Instance
instance_items m = flat_map (λ x. some (instance_item x)) m.items

abbrev pub assign_items : text_module.Module → List Assign
assign_items m = flat_map (λ x. some (assign_item x)) m.items

abbrev pub initial_constants : Item → List InitialConstant
initial_constants (i.Initial x) = x.constants
initial_constants _ = []

-- the first place of a name among these, and past them where it is none of them
abbrev pub place : List Name → Name → ℕ
place names x = position_or_len (bytes_eq x) names

-- ---- initial constants

abbrev pub same_word : Option ℕ → Option ℕ → Bool
same_word None None = true
same_word None (Some k) = false
same_word (Some j) None = false
same_word (Some j) (Some k) = nat_eq j k

abbrev pub initial_of : List InitialConstant → Name → Option ℕ → ℕ
initial_of [] x word = 0
initial_of (c ∷ cs) x word = if bytes_eq x c.name && same_word word c.word then c.value.value else initial_of cs x word

-- the constants of n words, from word k on
abbrev pub words_of : List InitialConstant → Name → ℕ → ℕ → List ℕ
words_of cs x k zero = []
words_of cs x k (suc n) = initial_of cs x (Some k) ∷ words_of cs x (k + 1) n

-- ---- one module, whose signals and memories have these names

module _ (signals memories : List Name) where
  abbrev pub at : Name → ℕ
  at x = place signals x

  abbrev pub value : Expression → Value
  value (e.Copy x) = v.Copy (at x)
  value (e.Constant c) = v.Constant c.value
  value (e.BitwiseNot x) = v.BitwiseNot (at x)
  value (e.Binary operator x y) = v.Binary operator (at x) (at y)
  value (e.SignedLess x y) = v.SignedLess (at x) (at y)
  value (e.ArithmeticShiftRight x y) = v.ArithmeticShiftRight (at x) (at y)
  value (e.Conditional c x y) = v.Conditional (at c) (at x) (at y)
  value (e.Division tested none guarded operator x y) = v.Division operator (at x) (at y)
  value (e.SignedDivision tested none guarded operator x y) = v.SignedDivision operator (at x) (at y)
  value (e.MemoryRead tested bound m address guarded) = v.MemoryRead (place memories m) (at address)
  value (e.BitSelect x bit) = v.Select (at x) bit bit
  value (e.PartSelect x high low) = v.Select (at x) high low
  value (e.Concatenation parts) = v.Concatenation (map at parts)
  value (e.Replication count x) = v.Replication count (at x)

  abbrev pub argument : WriteArgument → Argument
  argument (w.Unsigned x) = a.Unsigned (at x)
  argument (w.Signed x) = a.Signed (at x)

  -- the actions of a statement, under the conditions round it
  abbrev pub statement_step : Statement-F (List ℕ → List Action) → List ℕ → List Action
  statement_step (Statement-F.Set x y) conditions = record { conditions = conditions; effect = effect.Set (at x) (at y) } ∷ []
  statement_step (Statement-F.Store m x y) conditions = record { conditions = conditions; effect = effect.Store (place memories m) (at x) (at y) } ∷ []
  statement_step (Statement-F.If c body) conditions = flat_map (λ f. f (conditions ++ at c ∷ [])) body
  statement_step (Statement-F.Write text arguments) conditions = record { conditions = conditions; effect = effect.Write text (map argument arguments) } ∷ []

  abbrev pub statement_actions : Statement → List ℕ → List Action
  statement_actions = fold-Statement (List ℕ → List Action) statement_step

  abbrev pub item_actions : Item → List Action
  item_actions (i.Always x) = flat_map (λ s. statement_actions s []) x.body
  item_actions _ = []

-- the right side that is assigned to a name
abbrev pub assigned : List Assign → Name → Option Expression
assigned [] x = None
assigned (a ∷ assigns) x = if bytes_eq x a.target then Some a.value else assigned assigns x

-- what a connection ties to a port
abbrev pub connected : List Connection → Name → Name
connected [] port = []
connected (c ∷ cs) port = if bytes_eq port c.port then c.signal else connected cs port

-- the first output port, from place k on, that these connections tie to the name
abbrev pub tied_output : List Declaration → List Connection → Name → ℕ → Option ℕ
tied_output [] cs x k = None
tied_output (d ∷ ds) cs x k =
    if is_output_port d.kind && bytes_eq x (connected cs d.name) then Some k else tied_output ds cs x (k + 1)

abbrev pub module_names : List text_module.Module → List Name
module_names modules = map (λ (m : text_module.Module). m.name) modules

-- a list of an instance's module
abbrev pub of_module : {A : Type 0} → (text_module.Module → List A) → Option text_module.Module → List A
of_module f None = []
of_module f (Some m) = f m

abbrev pub of_instance : {A : Type 0} → (text_module.Module → List A) → List text_module.Module → text_instance.Instance → List A
of_instance f modules n = of_module f (slice_get modules (place (module_names modules) n.module_name))

abbrev pub tied_source : ℕ → Option ℕ → Source → Source
tied_source k None other = other
tied_source k (Some port) other = source.Port k port

-- the port of an instance, from instance k on, that drives the name
abbrev pub tied : List text_module.Module → List text_instance.Instance → Name → ℕ → Source
tied modules [] x k = source.Input
tied modules (n ∷ ns) x k = tied_source k (tied_output (of_instance declarations modules n) n.connections x 0) (tied modules ns x (k + 1))

module _ (modules : List text_module.Module) (m : text_module.Module) where
  abbrev pub signal_names : List Name
  signal_names = map (λ (d : Declaration). d.name) (declarations m)

  abbrev pub memory_names : List Name
  memory_names = map (λ (x : text_memory.Memory). x.name) (memory_items m)

  abbrev pub constants : List InitialConstant
  constants = flat_map initial_constants m.items

  abbrev pub driven : Option Expression → Name → Source
  driven None x = tied modules (instance_items m) x 0
  driven (Some right) x = source.Assigned (value signal_names memory_names right)

  abbrev pub source_of : Kind → Name → Source
  source_of InputPort x = source.Input
  source_of Reg x = source.Register (initial_of constants x None)
  source_of OutputPort x = driven (assigned (assign_items m) x) x
  source_of PlainWire x = driven (assigned (assign_items m) x) x

  abbrev pub signal_of : Declaration → Signal
  signal_of d = record { name = d.name; width = d.width; is_output = is_output_port d.kind; source = source_of d.kind d.name }

  abbrev pub memory_of : text_memory.Memory → Memory
  memory_of x = record { name = x.name; width = x.high + 1; initial = words_of constants x.name 0 (x.last + 1) }

  abbrev pub instance_of : text_instance.Instance → Instance
  instance_of n = record {
    name = n.name;
    of = place (module_names modules) n.module_name;
    inputs = map (λ (d : Declaration). place signal_names (connected n.connections d.name)) (of_instance input_ports modules n);
    outputs = map (λ (d : Declaration). place signal_names (connected n.connections d.name)) (of_instance output_ports modules n);
  }

  -- the module, after these ones
  unfoldable pub module_of : Module
  module_of = record {
    name = m.name;
    signals = map signal_of (declarations m);
    memories = map memory_of (memory_items m);
    actions = flat_map (item_actions signal_names memory_names) m.items;
    instances = map instance_of (instance_items m);
  }

-- the modules of a text, after the ones before them
abbrev pub modules_of : List text_module.Module → List text_module.Module → List Module
modules_of before [] = []
modules_of before (m ∷ ms) = module_of before m ∷ modules_of (before ++ m ∷ []) ms

unfoldable pub netlist_of : Net → Netlist
netlist_of n = record { modules = modules_of [] n.modules }
