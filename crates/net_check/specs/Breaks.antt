-- Which parts of a net break a rule of well-formed nets: for each rule, what it is to break it.
use Rattle.std.specs.Prelude.{◌≡◌, ◌<◌, ◌⊎◌, Bool, true, false, not, ◌==◌, ◌&&◌, ◌||◌, nat_lt, List, [], ◌∷◌, Some, is_some, slice_get, take}
use Rattle.std.specs.List.{list_any}
use Rattle.verilog_tree.specs.declared.tree.Expression.{Expression}
use Rattle.verilog_tree.specs.declared.tree.Expression.TheVariants as expr
use Rattle.verilog_tree.specs.declared.tree.Port.{Port}
use Rattle.verilog_tree.specs.declared.tree.Item.{Item}
use Rattle.verilog_tree.specs.declared.tree.Item.TheVariants as i
use Rattle.verilog_tree.specs.declared.tree.Module.{Module}
use Rattle.verilog_tree.specs.declared.tree.Net.{Net}
use Rattle.verilog_tree.specs.Grammar.{clk}
use Rattle.verilog_tree.specs.Scope.{is_known, is_clk, is_declared, declaration, width_of}
use Rattle.verilog_tree.specs.Rules.{all_right, has_port}
use Rattle.verilog_tree.specs.Facts.{Facts, interface_named, is_top, drives, written_by, body_of, constants_of, item_prints, nothing, after}
use Rattle.verilog_tree.specs.Facts.{after_port, after_item, head_facts, port_facts, module_facts, after_module}
use Rattle.verilog_tree.specs.WellFormed.{IsWellFormed, is_new_declaration, are_new, none_known, are_new_places, is_new_printer, item_right, is_complete, is_input, is_clocked}
use Rattle.net_check.specs.declared.fault.ModulePart.{ModulePart}
use Rattle.net_check.specs.declared.fault.ModulePart.TheVariants as part
use Rattle.net_check.specs.declared.fault.NetPart.{NetPart}
use Rattle.net_check.specs.declared.fault.NetPart.TheVariants as net

abbrev pub is_empty : {A : Type 0} → List A → Bool
is_empty [] = true
is_empty (x ∷ xs) = false

-- a concatenation without parts
abbrev pub lacks_parts : Expression → Bool
lacks_parts (expr.Concatenation parts) = is_empty parts
lacks_parts _ = false

-- such a right side, or an instance without connections
abbrev pub lacks : Item → Bool
lacks (i.Assign x) = lacks_parts x.value
lacks (i.Instance x) = is_empty x.connections
lacks _ = false

-- an item, by the facts of its whole module and of what stands before it
pub data BreaksItem (all before : Facts) (x : Item) : Type 0 where
  -- a list is empty of which the grammar asks for one
  Lacks : lacks x ≡ true → BreaksItem all before x
  -- it declares a name that is declared before it, or `clk`
  Declares : is_new_declaration before.scope (declaration x) ≡ false → BreaksItem all before x
  -- a name in it is not declared or of another kind, or two widths differ
  Differs : item_right all.modules all.scope x ≡ false → BreaksItem all before x
  -- it drives what is driven before it, or drives a signal twice
  Drives : are_new before.driven (drives all.modules x) ≡ false → BreaksItem all before x
  -- it writes what another always block before it writes
  Writes : all_right (λ s. none_known before.written (written_by s)) (body_of x) ≡ false → BreaksItem all before x
  -- it gives an initial constant to a place that has one
  Gives : are_new_places before.given (constants_of x) ≡ false → BreaksItem all before x
  -- what it declares has no driver, no block that writes it, or not all of its initial constants
  Incomplete : is_complete all x ≡ false → BreaksItem all before x
  -- it has a `$write`, and so has an always block before it
  Prints : (item_prints x && before.printed) ≡ true → BreaksItem all before x
  -- it is a second instance of a module that prints
  Places : is_new_printer before x ≡ false → BreaksItem all before x

-- a port, by the same
pub data BreaksPort (all before : Facts) (p : Port) : Type 0 where
  Declares : is_declared before.scope p.name ≡ true → BreaksPort all before p
  Width : nat_lt 0 (width_of p.high) ≡ false → BreaksPort all before p
  -- an output without a driver
  Undriven : (is_input p.direction || is_known all.driven p.name) ≡ false → BreaksPort all before p
  -- `clk` that is no input of one bit
  Clock : (not (is_clk p.name) || (is_input p.direction && width_of p.high == 1)) ≡ false → BreaksPort all before p

-- the head of a module, by the facts of the whole net and of the modules before it
pub data BreaksHead (whole before : Facts) (m : Module) : Type 0 where
  Portless : is_empty m.ports ≡ true → BreaksHead whole before m
  -- its name is that of a module before it, or `clk`
  Named : is_some (interface_named before.modules m.name) ≡ true → BreaksHead whole before m
  NamedClock : is_clk m.name ≡ true → BreaksHead whole before m
  -- an always block, or an instance of a module that has `clk`, in one that has none
  Clockless : (not (list_any (is_clocked before.modules) m.items) || has_port m.ports clk) ≡ false → BreaksHead whole before m
  -- a `$write` in one that is not `top` and has no instance
  Unplaced : (not (list_any item_prints m.items) || (is_top m.name || is_known whole.placed m.name)) ≡ false → BreaksHead whole before m

-- a part of a module
abbrev pub BreaksPart : Facts → Facts → Module → ModulePart → Type 0
BreaksPart whole before m part.Head = BreaksHead whole before m
BreaksPart whole before m (part.Port k) = (p : Port) × (slice_get m.ports k ≡ Some p) × BreaksPort (module_facts before m) (after after_port (head_facts before) (take k m.ports)) p
BreaksPart whole before m (part.Item k) =
    (x : Item) × (slice_get m.items k ≡ Some x) × BreaksItem (module_facts before m) (after after_item (port_facts before m) (take k m.items)) x

-- a part of a net
abbrev pub Breaks : Net → NetPart → Type 0
Breaks n net.Modules = is_empty n.modules ≡ true
Breaks n (net.Module k p) = (m : Module) × (slice_get n.modules k ≡ Some m) × BreaksPart (after after_module nothing n.modules) (after after_module nothing (take k n.modules)) m p

-- ---- the text's order

abbrev pub StandsBefore : ModulePart → ModulePart → Type 0
StandsBefore part.Head (part.Port k) = Unit {0}
StandsBefore part.Head (part.Item k) = Unit {0}
StandsBefore (part.Port j) (part.Port k) = j < k
StandsBefore (part.Port j) (part.Item k) = Unit {0}
StandsBefore (part.Item j) (part.Item k) = j < k
StandsBefore _ _ = ⊥

-- the list of modules goes before all that stands in it
abbrev pub GoesBefore : NetPart → NetPart → Type 0
GoesBefore net.Modules (net.Module k p) = Unit {0}
GoesBefore (net.Module j q) (net.Module k p) = (j < k) ⊎ ((j ≡ k) × StandsBefore q p)
GoesBefore _ _ = ⊥

-- the first part that breaks a rule
pub record IsFirstBroken (n : Net) (p : NetPart) : Type 0 where
  pub breaks : Breaks n p
  pub first : (q : NetPart) → GoesBefore q p → Breaks n q → ⊥

-- ---- a law

abbrev pub NoneBreaks : Net → Type 0
NoneBreaks n = (p : NetPart) → Breaks n p → ⊥

-- a net is well formed exactly where no part of it breaks a rule
abbrev pub WellFormedWhereNoneBreaks : Type 0
WellFormedWhereNoneBreaks = (n : Net) → (IsWellFormed n → NoneBreaks n) × (NoneBreaks n → IsWellFormed n)
