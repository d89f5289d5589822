-- The search in a module, and in one module after another.
use Rattle.std.proofs.Common.{◌≡◌, ℕ, suc, ◌+◌, ◌<◌, List, ◌∷◌, length, drop, get_or, Option, Some, None, true, sym, ap, ◌∙◌, arith}
use Rattle.std.proofs.Math.Seq.{drop-cons}
use Rattle.verilog_tree.specs.declared.tree.Port.{Port}
use Rattle.verilog_tree.specs.declared.tree.Item.{Item}
use Rattle.verilog_tree.specs.declared.tree.Module.{Module}
use Rattle.verilog_tree.specs.Scope.{Names}
use Rattle.verilog_tree.specs.Facts as fact
use Rattle.net_check.specs.declared.fault.ModulePart.{ModulePart}
use Rattle.net_check.specs.declared.fault.ModulePart.TheVariants as part
use Rattle.net_check.specs.declared.fault.NetPart.{NetPart}
use Rattle.net_check.specs.declared.facts.ModuleFacts.{ModuleFacts}
use Rattle.net_check.specs.declared.printing.Printing.{Printing}
use Rattle.net_check.specs.Search as search_for
use Rattle.net_check.specs.Known as known
use Rattle.net_check.proofs.KnownParts.{all_of, ports_searched, items_searched, from_head}

module _ (earlier : List fact.Interface) (p : Printing) (m : Module) where
  abbrev ports_first : Option ℕ
  ports_first = search_for.first_wrong (search_for.port_stands (fact.module_facts (known.head_of earlier p) m)) fact.after_port (known.head_of earlier p) m.ports 0

  abbrev items_first : Option ℕ
  items_first =
      search_for.first_wrong (search_for.item_stands (fact.module_facts (known.head_of earlier p) m)) fact.after_item (fact.port_facts (known.head_of earlier p) m) m.items 0

  pub port_is : (all before : ModuleFacts) (ports : List Port) (o r : Option ℕ) → all ≡ all_of earlier m → before ≡ known.unknown → ports ≡ m.ports
      → o ≡ search_for.first_wrong (known.port_stands all) known.after_port before ports 0 → o ≡ r → ports_first ≡ r
  port_is all before ports o r ea eb ep h e =
      ports_searched earlier p m ∙ sym (λ i. search_for.first_wrong (known.port_stands (ea i)) known.after_port (eb i) (ep i) 0) ∙ sym h ∙ e

  pub item_is : (all before : ModuleFacts) (items : List Item) (o r : Option ℕ) → all ≡ all_of earlier m → before ≡ fact.after known.after_port known.unknown m.ports
      → items ≡ m.items
      → o ≡ search_for.first_wrong (search_for.item_stands (known.facts_of earlier known.unprinted all)) fact.after_item (known.facts_of earlier p before) items 0 → o ≡ r
      → items_first ≡ r
  item_is all before items o r ea eb ei h e =
      items_searched earlier p m ∙ sym (λ i. search_for.first_wrong (search_for.item_stands (known.facts_of earlier known.unprinted (ea i))) fact.after_item
      (known.facts_of earlier p (eb i)) (ei i) 0)
      ∙ sym h ∙ e

  pub port_found : (k : ℕ) → ports_first ≡ Some k → Some (part.Port k) ≡ known.first_inside earlier p m
  port_found k h = sym (ap (λ o. search_for.in_order true o items_first) h)

  pub item_found : (k : ℕ) → ports_first ≡ None → items_first ≡ Some k → Some (part.Item k) ≡ known.first_inside earlier p m
  item_found k h g = sym (λ i. search_for.in_order true (h i) (g i))

  pub none_found : ports_first ≡ None → items_first ≡ None → None ≡ known.first_inside earlier p m
  none_found h g = sym (λ i. search_for.in_order true (h i) (g i))

-- one module more
pub next_first : (placed : Names) (earlier new : List fact.Interface) (p q : Printing) (ms : List Module) (k : ℕ) (m : Module) (o : Option ModulePart) (all : Option NetPart)
    → k < length ms → m ≡ get_or ms k m → o ≡ known.first_part placed earlier p m → o ≡ None → known.facts_of new q known.unknown ≡ known.after_module earlier p m
    → search_for.first_among placed (known.head_of earlier p) (drop k ms) k ≡ all → search_for.first_among placed (known.head_of new q) (drop (k + 1) ms) (k + 1) ≡ all
next_first placed earlier new p q ms k m o all lt is e none facts h =
    let next : suc k ≡ k + 1 = omega arith in
    let cut : drop k ms ≡ m ∷ drop (k + 1) ms = drop-cons ms k m lt ∙ ap (λ y. y ∷ drop (suc k) ms) (sym is) ∙ ap (λ n. m ∷ drop n ms) next in
    ap (λ f. search_for.first_among placed f (drop (k + 1) ms) (k + 1)) facts
    ∙ sym (from_head placed (fact.after_module (known.head_of earlier p) m) (drop (k + 1) ms) (k + 1))
    ∙ sym (ap (λ r. search_for.or_later k r (search_for.first_among placed (fact.after_module (known.head_of earlier p) m) (drop (k + 1) ms) (k + 1))) (sym e ∙ none))
    ∙ ap (λ l. search_for.first_among placed (known.head_of earlier p) l k) (sym cut) ∙ h
