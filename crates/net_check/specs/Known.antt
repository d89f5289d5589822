-- What is known up to a place in a net, in the parts that the check keeps apart: of the modules that stand earlier, of the net's prints, and of the module.
use Rattle.std.specs.Prelude.{ℕ, Bool, true, false, ◌&&◌, ◌||◌, List, [], Option}
use Rattle.verilog_tree.specs.declared.tree.Port.{Port}
use Rattle.verilog_tree.specs.declared.tree.Item.{Item}
use Rattle.verilog_tree.specs.declared.tree.Module.{Module}
use Rattle.verilog_tree.specs.Scope.{Names, declaration, port_declaration}
use Rattle.verilog_tree.specs.Rules.{all_right}
use Rattle.verilog_tree.specs.Facts as fact
use Rattle.verilog_tree.specs.WellFormed as well
use Rattle.net_check.specs.Search as search_for
use Rattle.net_check.specs.declared.fault.ModulePart.{ModulePart}
use Rattle.net_check.specs.declared.fault.NetPart.{NetPart}
use Rattle.net_check.specs.declared.facts.ModuleFacts.{ModuleFacts}
use Rattle.net_check.specs.declared.printing.Printing.{Printing}

-- ---- of a module

abbrev pub unknown : ModuleFacts
unknown = record { scope = []; driven = []; written = []; given = [] }

abbrev pub after_port : ModuleFacts → Port → ModuleFacts
after_port m p = record m { scope = fact.with_declaration m.scope (port_declaration p) }

abbrev pub after_item : List fact.Interface → ModuleFacts → Item → ModuleFacts
after_item earlier m x = record {
  scope = fact.after_declaration m.scope (declaration x);
  driven = fact.after fact.with_name m.driven (fact.drives earlier x);
  written = fact.after fact.after_statement m.written (fact.body_of x);
  given = fact.after fact.after_constant m.given (fact.constants_of x);
}

abbrev pub writes_new : Names → Item → Bool
writes_new written x = all_right (λ s. well.none_known written (fact.written_by s)) (fact.body_of x)

-- all that the item declares, drives, writes and gives is new
abbrev pub is_new : List fact.Interface → ModuleFacts → Item → Bool
is_new earlier m x =
    well.is_new_declaration m.scope (declaration x) && (well.are_new m.driven (fact.drives earlier x)
    && (writes_new m.written x && well.are_new_places m.given (fact.constants_of x)))

-- ---- of the prints of a net

abbrev pub unprinted : Printing
unprinted = record { printed = false; placed = [] }

abbrev pub after_print : Printing → Item → Printing
after_print p x = record { printed = p.printed || fact.item_prints x; placed = fact.after_module_name p.placed (fact.module_of x) }

abbrev pub after_placed : Names → Item → Names
after_placed names x = fact.after_module_name names (fact.module_of x)

abbrev pub after_placed_in : Names → Module → Names
after_placed_in names m = fact.after after_placed names m.items

-- ---- together

abbrev pub facts_of : List fact.Interface → Printing → ModuleFacts → fact.Facts
facts_of earlier p m = record {
  modules = earlier;
  printed = p.printed;
  placed = p.placed;
  scope = m.scope;
  driven = m.driven;
  written = m.written;
  given = m.given;
}

-- it is no second instance of a module that prints
abbrev pub is_alone : List fact.Interface → Names → Item → Bool
is_alone earlier placed = well.is_new_printer (facts_of earlier (record { printed = false; placed = placed }) unknown)

abbrev pub printing_of : fact.Facts → Printing
printing_of f = record { printed = f.printed; placed = f.placed }

-- what the item declares is complete, by its whole module
abbrev pub is_complete : ModuleFacts → Item → Bool
is_complete m = well.is_complete (facts_of [] unprinted m)

-- ---- the search, by these parts

abbrev pub port_stands : ModuleFacts → ModuleFacts → Port → Bool
port_stands all before = search_for.port_stands (facts_of [] unprinted all) (facts_of [] unprinted before)

abbrev pub item_stands : List fact.Interface → ModuleFacts → Printing → ModuleFacts → Item → Bool
item_stands earlier all p before = search_for.item_stands (facts_of earlier unprinted all) (facts_of earlier p before)

abbrev pub wrong_item : List fact.Interface → ModuleFacts → Printing → ModuleFacts → List Item → Option ℕ
wrong_item earlier all p before items = search_for.first_wrong (search_for.item_stands (facts_of earlier unprinted all)) fact.after_item (facts_of earlier p before) items 0

abbrev pub after_items : List fact.Interface → Printing → ModuleFacts → List Item → fact.Facts
after_items earlier p before = fact.after fact.after_item (facts_of earlier p before)

abbrev pub head_stands : Names → List fact.Interface → Module → Bool
head_stands placed earlier = search_for.head_stands placed (facts_of earlier unprinted unknown)

-- at the head of a module
abbrev pub head_of : List fact.Interface → Printing → fact.Facts
head_of earlier p = facts_of earlier p unknown

abbrev pub first_part : Names → List fact.Interface → Printing → Module → Option ModulePart
first_part placed earlier p = search_for.first_part placed (head_of earlier p)

-- where the head meets the rules
abbrev pub first_inside : List fact.Interface → Printing → Module → Option ModulePart
first_inside earlier p m =
    search_for.in_order true
    (search_for.first_wrong (search_for.port_stands (fact.module_facts (head_of earlier p) m)) fact.after_port (head_of earlier p) m.ports 0)
    (search_for.first_wrong (search_for.item_stands (fact.module_facts (head_of earlier p) m)) fact.after_item (fact.port_facts (head_of earlier p) m) m.items 0)

abbrev pub printing_after : List fact.Interface → Printing → Module → Printing
printing_after earlier p m = printing_of (fact.module_facts (head_of earlier p) m)

abbrev pub after_module : List fact.Interface → Printing → Module → fact.Facts
after_module earlier p m = fact.head_facts (fact.after_module (head_of earlier p) m)

-- the first part of a net's modules, by the modules that have an instance in it
abbrev pub first_of : List Module → Option NetPart
first_of ms = search_for.first_among (fact.after fact.after_module fact.nothing ms).placed fact.nothing ms 0
