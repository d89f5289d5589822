-- What is known of a net, in the parts that the check keeps apart.
use Rattle.std.proofs.Common.{◌≡◌, ℕ, ◌+◌, List, [], ◌∷◌, Option, Some, None, Bool, true, false, refl, ap, ◌∙◌}
use Rattle.std.specs.Prelude.{if◌then◌else◌, not, is_some}
use Rattle.std.proofs.lemmas.Bool.{not-true, and_parts}
use Rattle.lists.proofs.Places.{none_of}
use Rattle.verilog_tree.specs.declared.tree.Port.{Port}
use Rattle.verilog_tree.specs.declared.tree.Item.{Item}
use Rattle.verilog_tree.specs.declared.tree.Module.{Module}
use Rattle.verilog_tree.specs.Scope.{Names}
use Rattle.verilog_tree.specs.Facts as fact
use Rattle.net_check.specs.declared.fault.ModulePart.TheVariants as part
use Rattle.net_check.specs.declared.facts.ModuleFacts.{ModuleFacts}
use Rattle.net_check.specs.declared.printing.Printing.{Printing}
use Rattle.net_check.specs.Breaks.{is_empty}
use Rattle.net_check.specs.Search as search_for
use Rattle.net_check.specs.Known as known

module _ (earlier : List fact.Interface) where
  pub ports_known : (p : Printing) (l : ModuleFacts) (ps : List Port)
      → fact.after fact.after_port (known.facts_of earlier p l) ps ≡ known.facts_of earlier p (fact.after known.after_port l ps)
  ports_known p l [] = refl
  ports_known p l (x ∷ ps) = ports_known p (known.after_port l x) ps

  pub items_known : (p : Printing) (l : ModuleFacts) (xs : List Item)
      → fact.after fact.after_item (known.facts_of earlier p l) xs ≡ known.facts_of earlier (fact.after known.after_print p xs) (fact.after (known.after_item earlier) l xs)
  items_known p l [] = refl
  items_known p l (x ∷ xs) = items_known (known.after_print p x) (known.after_item earlier l x) xs

  -- the whole of a module
  abbrev pub all_of : Module → ModuleFacts
  all_of m = fact.after (known.after_item earlier) (fact.after known.after_port known.unknown m.ports) m.items

  pub module_known : (p : Printing) (m : Module) → fact.module_facts (known.head_of earlier p) m ≡ known.facts_of earlier (fact.after known.after_print p m.items) (all_of m)
  module_known p m =
      ap (λ f. fact.after fact.after_item f m.items) (ports_known p known.unknown m.ports) ∙ items_known p (fact.after known.after_port known.unknown m.ports) m.items

  first_port : (q p : Printing) (all l : ModuleFacts) (ps : List Port) (k : ℕ)
      → search_for.first_wrong (search_for.port_stands (known.facts_of earlier q all)) fact.after_port (known.facts_of earlier p l) ps k
      ≡ search_for.first_wrong (known.port_stands all) known.after_port l ps k
  first_port q p all l [] k = refl
  first_port q p all l (x ∷ ps) k = ap (λ o. if known.port_stands all l x then o else Some k) (first_port q p all (known.after_port l x) ps (k + 1))

  -- the search for a port, by the module's own facts
  pub ports_searched : (p : Printing) (m : Module)
      → search_for.first_wrong (search_for.port_stands (fact.module_facts (known.head_of earlier p) m)) fact.after_port (known.head_of earlier p) m.ports 0
      ≡ search_for.first_wrong (known.port_stands (all_of m)) known.after_port known.unknown m.ports 0
  ports_searched p m =
      ap (λ f. search_for.first_wrong (search_for.port_stands f) fact.after_port (known.head_of earlier p) m.ports 0) (module_known p m)
      ∙ first_port (fact.after known.after_print p m.items) p (all_of m) known.unknown m.ports 0

  first_item : (q : Printing) (all : ModuleFacts) (f : fact.Facts) (xs : List Item) (k : ℕ)
      → search_for.first_wrong (search_for.item_stands (known.facts_of earlier q all)) fact.after_item f xs k
      ≡ search_for.first_wrong (search_for.item_stands (known.facts_of earlier known.unprinted all)) fact.after_item f xs k
  first_item q all f [] k = refl
  first_item q all f (x ∷ xs) k =
      ap (λ o. if search_for.item_stands (known.facts_of earlier known.unprinted all) f x then o else Some k) (first_item q all (fact.after_item f x) xs (k + 1))

  -- the search for an item, by the module's own facts
  pub items_searched : (p : Printing) (m : Module)
      → search_for.first_wrong (search_for.item_stands (fact.module_facts (known.head_of earlier p) m)) fact.after_item (fact.port_facts (known.head_of earlier p) m) m.items 0
      ≡ search_for.first_wrong (search_for.item_stands (known.facts_of earlier known.unprinted (all_of m))) fact.after_item
      (known.facts_of earlier p (fact.after known.after_port known.unknown m.ports)) m.items 0
  items_searched p m =
      (λ i. search_for.first_wrong (search_for.item_stands (module_known p m i)) fact.after_item (ports_known p known.unknown m.ports i) m.items 0)
      ∙ first_item (fact.after known.after_print p m.items) (all_of m) (known.facts_of earlier p (fact.after known.after_port known.unknown m.ports)) m.items 0

-- ---- heads

head_true : (b : Bool) (o r : Option ℕ) → search_for.in_order b o r ≡ None → b ≡ true
head_true true o r h = refl
head_true false o r h = cc

-- where no part breaks a rule, the name is new
pub name_new : (placed : Names) (earlier : List fact.Interface) (p : Printing) (m : Module) → known.first_part placed earlier p m ≡ None
    → fact.interface_named earlier m.name ≡ None
name_new placed earlier p m h =
    let stands = head_true (known.head_stands placed earlier m) _ _ h in
    none_of _ (not-true _ (and_parts (not (is_some (fact.interface_named earlier m.name))) _ (and_parts (not (is_empty m.ports)) _ stands).1).0)

pub head_fails : (b : Bool) (o r : Option ℕ) → b ≡ false → search_for.in_order b o r ≡ Some part.Head
head_fails true o r h = cc
head_fails false o r h = refl

-- ---- the modules of a net

pub from_head : (placed : Names) (f : fact.Facts) (ms : List Module) (k : ℕ) → search_for.first_among placed f ms k ≡ search_for.first_among placed (fact.head_facts f) ms k
from_head placed f [] k = refl
from_head placed f (m ∷ ms) k = refl

placed_items : (f : fact.Facts) (xs : List Item) → (fact.after fact.after_item f xs).placed ≡ fact.after known.after_placed f.placed xs
placed_items f [] = refl
placed_items f (x ∷ xs) = placed_items (fact.after_item f x) xs

placed_ports : (f : fact.Facts) (ps : List Port) → (fact.after fact.after_port f ps).placed ≡ f.placed
placed_ports f [] = refl
placed_ports f (p ∷ ps) = placed_ports (fact.after_port f p) ps

pub placed_in : (f : fact.Facts) (ms : List Module) → (fact.after fact.after_module f ms).placed ≡ fact.after known.after_placed_in f.placed ms
placed_in f [] = refl
placed_in f (m ∷ ms) =
    placed_in (fact.after_module f m) ms
    ∙ ap (λ names. fact.after known.after_placed_in names ms) (placed_items (fact.port_facts f m) m.items
    ∙ ap (λ names. fact.after known.after_placed names m.items) (placed_ports (fact.head_facts f) m.ports))
