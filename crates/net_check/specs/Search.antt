-- The search for the first part of a net that breaks a rule.
use Rattle.std.specs.Prelude.{ℕ, ◌+◌, Bool, true, false, not, ◌==◌, ◌&&◌, ◌||◌, nat_lt, if◌then◌else◌, List, [], ◌∷◌, Option, Some, None, is_some}
use Rattle.std.specs.List.{list_any}
use Rattle.verilog_tree.specs.declared.tree.Port.{Port}
use Rattle.verilog_tree.specs.declared.tree.Item.{Item}
use Rattle.verilog_tree.specs.declared.tree.Module.{Module}
use Rattle.verilog_tree.specs.Grammar.{clk}
use Rattle.verilog_tree.specs.Scope.{Names, is_known, is_clk, is_declared, declaration, width_of}
use Rattle.verilog_tree.specs.Rules.{all_right, has_port}
use Rattle.verilog_tree.specs.Facts.{Facts, interface_named, is_top, drives, written_by, body_of, constants_of, item_prints, nothing, after}
use Rattle.verilog_tree.specs.Facts.{after_port, after_item, head_facts, port_facts, module_facts, after_module}
use Rattle.verilog_tree.specs.WellFormed.{is_new_declaration, are_new, none_known, are_new_places, is_new_printer, item_right, is_complete, is_input, is_clocked}
use Rattle.net_check.specs.Breaks.{is_empty, lacks}
use Rattle.net_check.specs.declared.fault.ModulePart.{ModulePart}
use Rattle.net_check.specs.declared.fault.ModulePart.TheVariants as part
use Rattle.net_check.specs.declared.fault.NetPart.{NetPart}
use Rattle.net_check.specs.declared.fault.NetPart.TheVariants as net

-- ---- the rules as tests

-- the module that has the name, and whether it is known to be placed, by the modules before it
abbrev pub head_stands : Names → Facts → Module → Bool
head_stands placed before m =
    not (is_empty m.ports) && (not (is_some (interface_named before.modules m.name)) && (not (is_clk m.name)
    && ((not (list_any (is_clocked before.modules) m.items) || has_port m.ports clk)
    && (not (list_any item_prints m.items) || (is_top m.name || is_known placed m.name)))))

abbrev pub port_stands : Facts → Facts → Port → Bool
port_stands all before p =
    not (is_declared before.scope p.name) && (nat_lt 0 (width_of p.high) && ((is_input p.direction || is_known all.driven p.name)
    && (not (is_clk p.name) || (is_input p.direction && width_of p.high == 1))))

-- what it declares, drives, writes and gives is new
abbrev pub is_new : Facts → Facts → Item → Bool
is_new all before x =
    is_new_declaration before.scope (declaration x) && (are_new before.driven (drives all.modules x)
    && (all_right (λ s. none_known before.written (written_by s)) (body_of x) && are_new_places before.given (constants_of x)))

abbrev pub prints_once : Facts → Item → Bool
prints_once before x = not (item_prints x && before.printed) && is_new_printer before x

abbrev pub item_stands : Facts → Facts → Item → Bool
item_stands all before x = is_new all before x && (prints_once before x && (not (lacks x) && (is_complete all x && item_right all.modules all.scope x)))

-- ---- the first that fails

abbrev pub first_wrong : {S A : Type 0} → (S → A → Bool) → (S → A → S) → S → List A → ℕ → Option ℕ
first_wrong test step s [] k = None
first_wrong test step s (x ∷ xs) k = if test s x then first_wrong test step (step s x) xs (k + 1) else Some k

abbrev pub in_order : Bool → Option ℕ → Option ℕ → Option ModulePart
in_order false port item = Some part.Head
in_order true (Some k) item = Some (part.Port k)
in_order true None (Some k) = Some (part.Item k)
in_order true None None = None

-- the first part of a module, by the names of the modules that have an instance in the net
abbrev pub first_part : Names → Facts → Module → Option ModulePart
first_part placed before m =
    in_order (head_stands placed before m) (first_wrong (port_stands (module_facts before m)) after_port (head_facts before) m.ports 0)
    (first_wrong (item_stands (module_facts before m)) after_item (port_facts before m) m.items 0)

abbrev pub or_later : ℕ → Option ModulePart → Option NetPart → Option NetPart
or_later k None later = later
or_later k (Some p) later = Some (net.Module k p)

abbrev pub first_among : Names → Facts → List Module → ℕ → Option NetPart
first_among placed before [] k = None
first_among placed before (m ∷ ms) k = or_later k (first_part placed before m) (first_among placed (after_module before m) ms (k + 1))

abbrev pub first_of : List Module → Option NetPart
first_of [] = Some net.Modules
first_of (m ∷ ms) = first_among (after after_module nothing (m ∷ ms)).placed nothing (m ∷ ms) 0
