-- What is known of a text up to a place in it.
use Rattle.std.specs.Prelude.{ℕ, zero, suc, Bool, true, false, not, ◌&&◌, ◌||◌, nat_eq, if◌then◌else◌, List, [], ◌∷◌, ◌++◌, Option, Some, None, codes}
use Rattle.std.specs.List.{list_any}
use Rattle.std.specs.Str.{bytes_eq}
use Rattle.std.specs.Option.{option_eq}
use Rattle.verilog_tree.specs.declared.kind.Kind.{Kind}
use Rattle.verilog_tree.specs.declared.tree.Direction.{Direction}
use Rattle.verilog_tree.specs.declared.tree.Direction.TheVariants as dir
use Rattle.verilog_tree.specs.declared.tree.Port.{Port}
use Rattle.verilog_tree.specs.declared.tree.InitialConstant.{InitialConstant}
use Rattle.verilog_tree.specs.declared.tree.Statement.{Statement}
use Rattle.verilog_tree.specs.declared.tree.Statement.TheOpen.{Statement-F}
use Rattle.verilog_tree.specs.declared.tree.Statement.TheFolds.{fold-Statement}
use Rattle.verilog_tree.specs.declared.tree.Connection.{Connection}
use Rattle.verilog_tree.specs.declared.tree.Item.{Item}
use Rattle.verilog_tree.specs.declared.tree.Item.TheVariants as i
use Rattle.verilog_tree.specs.declared.tree.Module.{Module}
use Rattle.verilog_tree.specs.Scope.{Name, Names, is_known, Scope, is_declared, declaration, port_declaration}
use Rattle.verilog_tree.specs.Rules.{port_named}

-- a state after each of the list in turn
abbrev pub after : {S A : Type 0} → (S → A → S) → S → List A → S
after step s [] = s
after step s (x ∷ xs) = after step (step s x) xs

-- ---- sets of names and of places

abbrev pub with_name : Names → Name → Names
with_name known x = if is_known known x then known else known ++ x ∷ []

-- a register, or a word of a memory
abbrev pub Place : Type 0
Place = Name × Option ℕ

abbrev pub same_place : Place → Place → Bool
same_place p q = bytes_eq p.0 q.0 && option_eq nat_eq p.1 q.1

abbrev pub is_place : List Place → Place → Bool
is_place places p = list_any (same_place p) places

abbrev pub with_place : List Place → Place → List Place
with_place places p = if is_place places p then places else places ++ p ∷ []

abbrev pub place_of : InitialConstant → Place
place_of x = (x.name, x.word)

-- the words of a memory below n
abbrev pub words_below : List Place → Name → ℕ → Bool
words_below places x zero = true
words_below places x (suc k) = words_below places x k && is_place places (x, Some k)

-- ---- modules that stand earlier

-- what an instance sees of its module; `prints` says whether a `$write` stands in it or below it
pub record Interface : Type 0 where
  pub name : Name
  pub ports : List Port
  pub prints : Bool

abbrev pub interface_named : List Interface → Name → Option Interface
interface_named [] name = None
interface_named (x ∷ xs) name = if bytes_eq name x.name then Some x else interface_named xs name

abbrev pub ports_of : Option Interface → List Port
ports_of None = []
ports_of (Some x) = x.ports

abbrev pub top : Name
top = codes "top"

abbrev pub is_top : Name → Bool
is_top name = bytes_eq name top

-- a module that prints, `top` and what is above it aside
abbrev pub prints_below_top : Option Interface → Bool
prints_below_top None = false
prints_below_top (Some x) = x.prints && not (is_top x.name)

-- ---- what an item drives, writes, gives and prints

abbrev pub is_output : Option Port → Bool
is_output None = false
is_output (Some p) = is_output_direction p.direction where
  is_output_direction : Direction → Bool
  is_output_direction dir.Output = true
  is_output_direction dir.Input = false

-- the signals at the outputs of an instance
abbrev pub outputs : List Port → List Connection → Names
outputs ports [] = []
outputs ports (c ∷ cs) = if is_output (port_named ports c.port) then c.signal ∷ outputs ports cs else outputs ports cs

abbrev pub drives : List Interface → Item → Names
drives earlier (i.Assign x) = x.target ∷ []
drives earlier (i.Instance x) = outputs (ports_of (interface_named earlier x.module_name)) x.connections
drives earlier _ = []

abbrev pub joined : List Names → Names
joined [] = []
joined (x ∷ xs) = x ++ joined xs

abbrev pub written_step : Statement-F Names → Names
written_step (Statement-F.Set register source) = register ∷ []
written_step (Statement-F.Store memory address source) = memory ∷ []
written_step (Statement-F.If condition body) = joined body
written_step (Statement-F.Write text arguments) = []

-- the registers and memories that a statement writes
abbrev pub written_by : Statement → Names
written_by = fold-Statement Names written_step

abbrev pub any_true : List Bool → Bool
any_true [] = false
any_true (b ∷ bs) = b || any_true bs

abbrev pub prints_step : Statement-F Bool → Bool
prints_step (Statement-F.If condition body) = any_true body
prints_step (Statement-F.Write text arguments) = true
prints_step _ = false

abbrev pub statement_prints : Statement → Bool
statement_prints = fold-Statement Bool prints_step

abbrev pub body_of : Item → List Statement
body_of (i.Always x) = x.body
body_of _ = []

abbrev pub constants_of : Item → List InitialConstant
constants_of (i.Initial x) = x.constants
constants_of _ = []

-- an always block with a `$write`
abbrev pub item_prints : Item → Bool
item_prints x = list_any statement_prints (body_of x)

abbrev pub module_of : Item → Option Name
module_of (i.Instance x) = Some x.module_name
module_of _ = None

-- an instance of a module that prints below `top`
abbrev pub places_printer : List Interface → Item → Bool
places_printer earlier (i.Instance x) = prints_below_top (interface_named earlier x.module_name)
places_printer earlier _ = false

abbrev pub module_prints : List Interface → Module → Bool
module_prints earlier m = list_any (λ x. item_prints x || places_printer earlier x) m.items

-- ---- what is known

pub record Facts : Type 0 where
  -- the modules that stand earlier
  pub modules : List Interface
  -- whether an always block with a `$write` stands before
  pub printed : Bool
  -- the modules that have an instance before
  pub placed : Names
  -- of this module: the declarations, what is driven and written, and what has an initial constant
  pub scope : Scope
  pub driven : Names
  pub written : Names
  pub given : List Place

abbrev pub nothing : Facts
nothing = record { modules = []; printed = false; placed = []; scope = []; driven = []; written = []; given = [] }

abbrev pub with_declaration : Scope → Name × Kind → Scope
with_declaration scope d = if is_declared scope d.0 then scope else scope ++ d ∷ []

abbrev pub after_declaration : Scope → Option (Name × Kind) → Scope
after_declaration scope None = scope
after_declaration scope (Some d) = with_declaration scope d

abbrev pub after_module_name : Names → Option Name → Names
after_module_name names None = names
after_module_name names (Some x) = with_name names x

abbrev pub after_statement : Names → Statement → Names
after_statement written x = after with_name written (written_by x)

abbrev pub after_constant : List Place → InitialConstant → List Place
after_constant given x = with_place given (place_of x)

abbrev pub after_port : Facts → Port → Facts
after_port f p = record f { scope = with_declaration f.scope (port_declaration p) }

abbrev pub after_item : Facts → Item → Facts
after_item f x = record f {
  printed = f.printed || item_prints x;
  placed = after_module_name f.placed (module_of x);
  scope = after_declaration f.scope (declaration x);
  driven = after with_name f.driven (drives f.modules x);
  written = after after_statement f.written (body_of x);
  given = after after_constant f.given (constants_of x);
}

-- at the head of a module, behind its ports, and at its end
abbrev pub head_facts : Facts → Facts
head_facts f = record f { scope = []; driven = []; written = []; given = [] }

abbrev pub port_facts : Facts → Module → Facts
port_facts f m = after after_port (head_facts f) m.ports

abbrev pub module_facts : Facts → Module → Facts
module_facts f m = after after_item (port_facts f m) m.items

abbrev pub interface_of : List Interface → Module → Interface
interface_of earlier m = record { name = m.name; ports = m.ports; prints = module_prints earlier m }

abbrev pub after_module : Facts → Module → Facts
after_module f m = record (module_facts f m) { modules = f.modules ++ interface_of f.modules m ∷ [] }
