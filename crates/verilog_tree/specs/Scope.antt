-- What the names of a module are declared as.
use Rattle.std.specs.Prelude.{ℕ, ◌+◌, Bool, true, false, nat_lt, if◌then◌else◌, List, [], ◌∷◌, Option, Some, None, is_some}
use Rattle.std.specs.List.{list_any}
use Rattle.std.specs.Str.{bytes_eq}
use Rattle.verilog_tree.specs.declared.kind.SignalClass.{SignalClass}
use Rattle.verilog_tree.specs.declared.kind.SignalClass.TheVariants as class
use Rattle.verilog_tree.specs.declared.kind.Kind.{Kind}
use Rattle.verilog_tree.specs.declared.kind.Kind.TheVariants as kind
use Rattle.verilog_tree.specs.declared.tree.Direction.{Direction}
use Rattle.verilog_tree.specs.declared.tree.Direction.TheVariants as dir
use Rattle.verilog_tree.specs.declared.tree.Port.{Port}
use Rattle.verilog_tree.specs.declared.tree.Item.{Item}
use Rattle.verilog_tree.specs.declared.tree.Item.TheVariants as i
use Rattle.verilog_tree.specs.Grammar.{clk}

abbrev pub Name : Type 0
Name = List ℕ

abbrev pub Names : Type 0
Names = List Name

abbrev pub is_known : Names → Name → Bool
is_known names name = list_any (bytes_eq name) names

abbrev pub is_clk : Name → Bool
is_clk name = bytes_eq name clk

-- the declarations, in the text's order
abbrev pub Scope : Type 0
Scope = List (Name × Kind)

-- the first declaration of a name
abbrev pub kind_of : Scope → Name → Option Kind
kind_of [] name = None
kind_of (d ∷ ds) name = if bytes_eq name d.0 then Some d.1 else kind_of ds name

abbrev pub is_declared : Scope → Name → Bool
is_declared scope name = is_some (kind_of scope name)

-- ---- what is declared

-- one bit without a range; 0 where the range is too wide
abbrev pub width_of : Option ℕ → ℕ
width_of None = 1
width_of (Some high) = if nat_lt high 64 then high + 1 else 0

abbrev pub signal : SignalClass → Option ℕ → Kind
signal c high = kind.Signal c (width_of high) (is_some high)

abbrev pub port_class : Direction → SignalClass
port_class dir.Input = class.Input
port_class dir.Output = class.Output

abbrev pub port_declaration : Port → Name × Kind
port_declaration p = (p.name, if is_clk p.name then kind.Clock else signal (port_class p.direction) p.high)

abbrev pub declaration : Item → Option (Name × Kind)
declaration (i.Wire x) = Some (x.name, signal class.Wire x.high)
declaration (i.Register x) = Some (x.name, signal class.Register x.high)
declaration (i.Memory x) = Some (x.name, kind.Memory (width_of (Some x.high)) x.last)
declaration (i.Instance x) = Some (x.name, kind.Instance)
declaration _ = None

-- ---- names of a kind; a width is 0 where the name is of another kind

-- of a name that an expression may read
abbrev pub read_width : Option Kind → ℕ
read_width (Some (kind.Signal c width has_range)) = width
read_width _ = 0

-- of a name with a range that an expression may read
abbrev pub ranged_width : Option Kind → ℕ
ranged_width (Some (kind.Signal c width has_range)) = if has_range then width else 0
ranged_width _ = 0

-- of a name that an assign or an instance's output may drive
abbrev pub driven_width : Option Kind → ℕ
driven_width (Some (kind.Signal class.Wire width has_range)) = width
driven_width (Some (kind.Signal class.Output width has_range)) = width
driven_width _ = 0

abbrev pub register_width : Option Kind → ℕ
register_width (Some (kind.Signal class.Register width has_range)) = width
register_width _ = 0

abbrev pub memory_width : Option Kind → ℕ
memory_width (Some (kind.Memory width last)) = width
memory_width _ = 0

-- the number of words of a memory
abbrev pub words_of : Option Kind → ℕ
words_of (Some (kind.Memory width last)) = last + 1
words_of _ = 0

abbrev pub is_clock : Option Kind → Bool
is_clock (Some kind.Clock) = true
is_clock _ = false
