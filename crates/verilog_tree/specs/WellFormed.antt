-- A well-formed net: one that stands for hardware with one driver for each wire, one block for each register, and widths that agree.
use Rattle.std.specs.Prelude.{◌≡◌, Bool, true, false, not, ◌==◌, ◌&&◌, ◌||◌, nat_lt, List, [], ◌∷◌, Option, Some, None, is_some}
use Rattle.std.specs.List.{list_any}
use Rattle.verilog_tree.specs.declared.kind.Kind.{Kind}
use Rattle.verilog_tree.specs.declared.tree.Direction.{Direction}
use Rattle.verilog_tree.specs.declared.tree.Direction.TheVariants as dir
use Rattle.verilog_tree.specs.declared.tree.Port.{Port}
use Rattle.verilog_tree.specs.declared.tree.InitialConstant.{InitialConstant}
use Rattle.verilog_tree.specs.declared.tree.Item.{Item}
use Rattle.verilog_tree.specs.declared.tree.Item.TheVariants as i
use Rattle.verilog_tree.specs.declared.tree.Module.{Module}
use Rattle.verilog_tree.specs.declared.tree.Net.{Net}
use Rattle.verilog_tree.specs.Grammar.{clk}
use Rattle.verilog_tree.specs.Reads.{IsFull}
use Rattle.verilog_tree.specs.Scope.{Name, Names, is_known, is_clk, Scope, is_declared, declaration, width_of}
use Rattle.verilog_tree.specs.Rules.{all_right, has_port, assign_right, statement_right, initial_constant_right, connections_right}
use Rattle.verilog_tree.specs.Facts.{Place, is_place, place_of, words_below, with_name, Interface, interface_named, ports_of, is_top, drives, written_by}
use Rattle.verilog_tree.specs.Facts.{body_of, constants_of, item_prints, places_printer, Facts, nothing, after, after_port, after_item, after_constant}
use Rattle.verilog_tree.specs.Facts.{head_facts, port_facts, module_facts, after_module}

-- ---- what may stand once

abbrev pub is_new_declaration : Scope → Option (Name × Kind) → Bool
is_new_declaration scope None = true
is_new_declaration scope (Some d) = not (is_declared scope d.0 || is_clk d.0)

-- none is known, and no two are the same
abbrev pub are_new : Names → Names → Bool
are_new known [] = true
are_new known (x ∷ xs) = not (is_known known x) && are_new (with_name known x) xs

abbrev pub none_known : Names → Names → Bool
none_known known xs = not (list_any (is_known known) xs)

abbrev pub are_new_places : List Place → List InitialConstant → Bool
are_new_places given [] = true
are_new_places given (x ∷ xs) = not (is_place given (place_of x)) && are_new_places (after_constant given x) xs

-- one instance alone of a module that prints below `top`
abbrev pub is_new_printer : Facts → Item → Bool
is_new_printer before (i.Instance x) = not (places_printer before.modules (i.Instance x) && is_known before.placed x.module_name)
is_new_printer before _ = true

-- ---- what an item needs of its module

-- the module of an instance stands earlier
abbrev pub instance_right : Option Interface → (List Port → Bool) → Bool
instance_right None connected = false
instance_right (Some x) connected = connected x.ports

-- the names are declared and of their kinds, and the widths agree
abbrev pub item_right : List Interface → Scope → Item → Bool
item_right earlier scope (i.Wire x) = nat_lt 0 (width_of x.high)
item_right earlier scope (i.Register x) = nat_lt 0 (width_of x.high)
item_right earlier scope (i.Memory x) = nat_lt 0 (width_of (Some x.high))
item_right earlier scope (i.Assign x) = assign_right scope x.target x.value
item_right earlier scope (i.Initial x) = all_right (initial_constant_right scope) x.constants
item_right earlier scope (i.Always x) = all_right (statement_right scope) x.body
item_right earlier scope (i.Instance x) = instance_right (interface_named earlier x.module_name) (λ ports. connections_right scope ports x.connections)

-- a wire has its driver, a register its block and its initial constant, and each word of a memory its initial constant
abbrev pub is_complete : Facts → Item → Bool
is_complete all (i.Wire x) = is_known all.driven x.name
is_complete all (i.Register x) = is_known all.written x.name && is_place all.given (x.name, None)
is_complete all (i.Memory x) = words_below all.given x.name x.last && is_place all.given (x.name, Some x.last)
is_complete all _ = true

-- an item, by the facts of its whole module and of what stands before it
pub record IsItem (all before : Facts) (x : Item) : Type 0 where
  -- it declares no name that is declared before it, nor `clk`
  pub new : is_new_declaration before.scope (declaration x) ≡ true
  pub right : item_right all.modules all.scope x ≡ true
  -- it drives nothing that is driven before it
  pub driver : are_new before.driven (drives all.modules x) ≡ true
  -- it writes nothing that another always block before it writes
  pub writer : all_right (λ s. none_known before.written (written_by s)) (body_of x) ≡ true
  -- it gives one initial constant to a place, and none to one that has one before it
  pub initial : are_new_places before.given (constants_of x) ≡ true
  -- what it declares is complete
  pub complete : is_complete all x ≡ true
  -- `$write` stands in one always block of the net
  pub printing : (item_prints x && before.printed) ≡ false
  pub printer : is_new_printer before x ≡ true

-- ---- ports

abbrev pub is_input : Direction → Bool
is_input dir.Input = true
is_input dir.Output = false

pub record IsPort (all before : Facts) (p : Port) : Type 0 where
  pub new : is_declared before.scope p.name ≡ false
  pub width : nat_lt 0 (width_of p.high) ≡ true
  -- an output has its driver
  pub driven : (is_input p.direction || is_known all.driven p.name) ≡ true
  -- `clk` is an input of one bit
  pub clock : (not (is_clk p.name) || (is_input p.direction && width_of p.high == 1)) ≡ true

-- ---- modules

-- each of a list, by what is known before it
abbrev pub EachAfter : {S A : Type 0} → (S → A → Type 0) → (S → A → S) → S → List A → Type 0
EachAfter P step s [] = Unit {0}
EachAfter P step s (x ∷ xs) = P s x × EachAfter P step (step s x) xs

-- an always block, or an instance of a module that has `clk`
abbrev pub is_clocked : List Interface → Item → Bool
is_clocked earlier (i.Always x) = true
is_clocked earlier (i.Instance x) = has_port (ports_of (interface_named earlier x.module_name)) clk
is_clocked earlier _ = false

-- a module, by the facts of the whole net and of the modules before it
pub record IsModule (whole before : Facts) (m : Module) : Type 0 where
  pub new : is_some (interface_named before.modules m.name) ≡ false
  pub name : is_clk m.name ≡ false
  pub clock : (not (list_any (is_clocked before.modules) m.items) || has_port m.ports clk) ≡ true
  -- one with a `$write` is `top` or has its instance
  pub placed : (not (list_any item_prints m.items) || (is_top m.name || is_known whole.placed m.name)) ≡ true
  pub ports : EachAfter (IsPort (module_facts before m)) after_port (head_facts before) m.ports
  pub items : EachAfter (IsItem (module_facts before m)) after_item (port_facts before m) m.items

pub record IsWellFormed (n : Net) : Type 0 where
  -- no list is empty of which the grammar asks for one
  pub full : IsFull n
  pub modules : EachAfter (IsModule (after after_module nothing n.modules)) after_module nothing n.modules
