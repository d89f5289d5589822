-- A text that each reader of Verilog takes: no name in it is a reserved word, and a module declares each name before it uses it. Of a netlist:
-- that nothing in it is called by a reserved word.
use Rattle.std.specs.Prelude.{◌≡◌, ◌++◌, true, false, List, [], ◌∷◌, map, codes}
use Rattle.std.specs.List.{flat_map}
use Rattle.verilog_tree.specs.declared.token.Token.{Token}
use Rattle.verilog_tree.specs.declared.token.Token.TheVariants as t
use Rattle.verilog_tree.specs.declared.tree.Port.{Port}
use Rattle.verilog_tree.specs.declared.tree.Connection.{Connection}
use Rattle.verilog_tree.specs.declared.tree.Item.{Item}
use Rattle.verilog_tree.specs.declared.tree.Item.TheVariants as i
use Rattle.verilog_tree.specs.declared.tree.Module as text_module
use Rattle.verilog_tree.specs.declared.tree.Net.{Net}
use Rattle.verilog_tree.specs.Grammar.{Tokens}
use Rattle.verilog_tree.specs.Grammar as grammar
use Rattle.verilog_tree.specs.Reads.{Each}
use Rattle.verilog_tree.specs.Scope.{Name, Names, is_known}
use Rattle.netlist.specs.declared.netlist.Module.{Module}
use Rattle.netlist.specs.declared.netlist.Netlist.{Netlist}
use Rattle.netlist.specs.Laid.{declared_names}

-- ---- reserved words (IEEE 1364-2005, Annex B)

unfoldable pub reserved_words : Names
reserved_words =
    codes "always" ∷ codes "and" ∷ codes "assign" ∷ codes "automatic" ∷ codes "begin" ∷ codes "buf" ∷ codes "bufif0" ∷ codes "bufif1" ∷ codes "case"
    ∷ codes "casex" ∷ codes "casez" ∷ codes "cell" ∷ codes "cmos" ∷ codes "config" ∷ codes "deassign" ∷ codes "default" ∷ codes "defparam" ∷ codes "design"
    ∷ codes "disable" ∷ codes "edge" ∷ codes "else" ∷ codes "end" ∷ codes "endcase" ∷ codes "endconfig" ∷ codes "endfunction" ∷ codes "endgenerate"
    ∷ codes "endmodule" ∷ codes "endprimitive" ∷ codes "endspecify" ∷ codes "endtable" ∷ codes "endtask" ∷ codes "event" ∷ codes "for" ∷ codes "force"
    ∷ codes "forever" ∷ codes "fork" ∷ codes "function" ∷ codes "generate" ∷ codes "genvar" ∷ codes "highz0" ∷ codes "highz1" ∷ codes "if" ∷ codes "ifnone"
    ∷ codes "incdir" ∷ codes "include" ∷ codes "initial" ∷ codes "inout" ∷ codes "input" ∷ codes "instance" ∷ codes "integer" ∷ codes "join" ∷ codes "large"
    ∷ codes "liblist" ∷ codes "library" ∷ codes "localparam" ∷ codes "macromodule" ∷ codes "medium" ∷ codes "module" ∷ codes "nand" ∷ codes "negedge"
    ∷ codes "nmos" ∷ codes "nor" ∷ codes "noshowcancelled" ∷ codes "not" ∷ codes "notif0" ∷ codes "notif1" ∷ codes "or" ∷ codes "output" ∷ codes "parameter"
    ∷ codes "pmos" ∷ codes "posedge" ∷ codes "primitive" ∷ codes "pull0" ∷ codes "pull1" ∷ codes "pulldown" ∷ codes "pullup" ∷ codes "pulsestyle_ondetect"
    ∷ codes "pulsestyle_onevent" ∷ codes "rcmos" ∷ codes "real" ∷ codes "realtime" ∷ codes "reg" ∷ codes "release" ∷ codes "repeat" ∷ codes "rnmos"
    ∷ codes "rpmos" ∷ codes "rtran" ∷ codes "rtranif0" ∷ codes "rtranif1" ∷ codes "scalared" ∷ codes "showcancelled" ∷ codes "signed" ∷ codes "small"
    ∷ codes "specify" ∷ codes "specparam" ∷ codes "strong0" ∷ codes "strong1" ∷ codes "supply0" ∷ codes "supply1" ∷ codes "table" ∷ codes "task"
    ∷ codes "time" ∷ codes "tran" ∷ codes "tranif0" ∷ codes "tranif1" ∷ codes "tri" ∷ codes "tri0" ∷ codes "tri1" ∷ codes "triand" ∷ codes "trior"
    ∷ codes "trireg" ∷ codes "unsigned" ∷ codes "use" ∷ codes "uwire" ∷ codes "vectored" ∷ codes "wait" ∷ codes "wand" ∷ codes "weak0" ∷ codes "weak1"
    ∷ codes "while" ∷ codes "wire" ∷ codes "wor" ∷ codes "xnor" ∷ codes "xor" ∷ []

-- a name that is none of them
abbrev pub IsFree : Name → Type 0
IsFree x = is_known reserved_words x ≡ false

-- ---- the names in a text

abbrev pub token_names : Token → Names
token_names (t.Name x) = x ∷ []
token_names _ = []

-- in the text's order, each as often as it stands there
abbrev pub names_in : Tokens → Names
names_in tokens = flat_map token_names tokens

-- ---- declarations and uses (IEEE 1364-2005, 4.5: a name that is used first would be an implicit net, which may not be declared again)

-- what an item declares
abbrev pub declared_by : Item → Names
declared_by (i.Wire x) = x.name ∷ []
declared_by (i.Register x) = x.name ∷ []
declared_by (i.Memory x) = x.name ∷ []
declared_by (i.Assign x) = []
declared_by (i.Initial x) = []
declared_by (i.Always x) = []
declared_by (i.Instance x) = x.name ∷ []

-- what it uses: an instance the signals that it is connected to, and another item that declares nothing each name in it
abbrev pub used_by : Item → Names
used_by (i.Wire x) = []
used_by (i.Register x) = []
used_by (i.Memory x) = []
used_by (i.Assign x) = names_in (grammar.item (i.Assign x))
used_by (i.Initial x) = names_in (grammar.item (i.Initial x))
used_by (i.Always x) = names_in (grammar.item (i.Always x))
used_by (i.Instance x) = map (λ (c : Connection). c.signal) x.connections

abbrev pub IsKnownTo : Names → Name → Type 0
IsKnownTo known x = is_known known x ≡ true

-- each item, where these names are declared before all of them, uses only names that are declared before it
abbrev pub DeclareFirst : Names → List Item → Type 0
DeclareFirst known [] = Unit {0}
DeclareFirst known (x ∷ items) = Each (IsKnownTo known) (used_by x) × DeclareFirst (known ++ declared_by x) items

-- the ports stand before the items
abbrev pub DeclaresFirst : text_module.Module → Type 0
DeclaresFirst m = DeclareFirst (map (λ (p : Port). p.name) m.ports) m.items

-- THE TEXT IS PORTABLE
pub record IsPortable (n : Net) : Type 0 where
  pub names : Each IsFree (names_in (grammar.net n))
  pub declared : Each DeclaresFirst n.modules

-- ---- netlists

-- neither a module is called by a reserved word nor what it declares
pub record IsFreelyNamed (m : Module) : Type 0 where
  pub name : IsFree m.name
  pub declared : Each IsFree (declared_names m)

abbrev pub HasFreeNames : Netlist → Type 0
HasFreeNames n = Each IsFreelyNamed n.modules
