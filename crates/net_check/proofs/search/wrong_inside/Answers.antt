use Rattle.std.proofs.Common.{◌≡◌, Some, None, sym, ap, ◌∙◌}
use Rattle.verilog_tree.specs.Facts as fact
use Rattle.net_check.specs.Known as known
use Rattle.net_check.proofs.KnownParts.{all_of, ports_known}
use Rattle.net_check.proofs.Inside as inside
use Rattle.net_check.proofs.search.wrong_inside.Goals as goal

pub returns-in-Some-clause-found : goal.returns-in-Some-clause-found
returns-in-Some-clause-found c =
    let ports : c.add_ports.new.self ≡ fact.after known.after_port known.unknown c.args.module.now.ports = c.in_ok-add_ports.ensures
    ∙ (λ i. fact.after known.after_port (c.requires.all i) (c.as_slice-ports.ensures i)) in
    let all : c.add_items.new.self ≡ all_of c.args.interfaces.now c.args.module.now = c.in_ok-add_items.ensures
    ∙ (λ i. fact.after (known.after_item c.args.interfaces.now) (ports i) (c.as_slice-items.ensures i)) in
    inside.port_found c.args.interfaces.now c.args.printing.now c.args.module.now c.in-Some.at
    (inside.port_is c.args.interfaces.now c.args.printing.now c.args.module.now c.add_items.new.self c.args.before.now c.as_slice-ports.result.now c.in_ok-port.port
    (Some c.in-Some.at)
    all c.requires.before c.as_slice-ports.ensures c.in_ok-port.ensures.first c.in-Some.is)

pub returns-in-Some-item-clause-found : goal.returns-in-Some-item-clause-found
returns-in-Some-item-clause-found c =
    let ports : c.add_ports.new.self ≡ fact.after known.after_port known.unknown c.args.module.now.ports = c.in_ok-add_ports.ensures
    ∙ (λ i. fact.after known.after_port (c.requires.all i) (c.as_slice-ports.ensures i)) in
    let all : c.add_items.new.self ≡ all_of c.args.interfaces.now c.args.module.now = c.in_ok-add_items.ensures
    ∙ (λ i. fact.after (known.after_item c.args.interfaces.now) (ports i) (c.as_slice-items.ensures i)) in
    let before : c.wrong_port.new.before ≡ fact.after known.after_port known.unknown c.args.module.now.ports =
    c.in_ok-port.ensures.facts c.in-None.is ∙ (λ i. fact.after known.after_port (c.requires.before i) (c.as_slice-ports.ensures i)) in
    inside.item_found c.args.interfaces.now c.args.printing.now c.args.module.now c.in-Some-item.at
    (inside.port_is c.args.interfaces.now c.args.printing.now c.args.module.now c.add_items.new.self c.args.before.now c.as_slice-ports.result.now c.in_ok-port.port None
    all c.requires.before c.as_slice-ports.ensures c.in_ok-port.ensures.first c.in-None.is)
    (inside.item_is c.args.interfaces.now c.args.printing.now c.args.module.now c.add_items.new.self c.wrong_port.new.before c.as_slice-items.result.now
    c.in_ok-item-in-None.item (Some c.in-Some-item.at)
    all before c.as_slice-items.ensures c.in_ok-item-in-None.ensures.first c.in-Some-item.is)

pub returns-in-None-item-clause-found : goal.returns-in-None-item-clause-found
returns-in-None-item-clause-found c =
    let ports : c.add_ports.new.self ≡ fact.after known.after_port known.unknown c.args.module.now.ports = c.in_ok-add_ports.ensures
    ∙ (λ i. fact.after known.after_port (c.requires.all i) (c.as_slice-ports.ensures i)) in
    let all : c.add_items.new.self ≡ all_of c.args.interfaces.now c.args.module.now = c.in_ok-add_items.ensures
    ∙ (λ i. fact.after (known.after_item c.args.interfaces.now) (ports i) (c.as_slice-items.ensures i)) in
    let before : c.wrong_port.new.before ≡ fact.after known.after_port known.unknown c.args.module.now.ports =
    c.in_ok-port.ensures.facts c.in-None.is ∙ (λ i. fact.after known.after_port (c.requires.before i) (c.as_slice-ports.ensures i)) in
    inside.none_found c.args.interfaces.now c.args.printing.now c.args.module.now
    (inside.port_is c.args.interfaces.now c.args.printing.now c.args.module.now c.add_items.new.self c.args.before.now c.as_slice-ports.result.now c.in_ok-port.port None
    all c.requires.before c.as_slice-ports.ensures c.in_ok-port.ensures.first c.in-None.is)
    (inside.item_is c.args.interfaces.now c.args.printing.now c.args.module.now c.add_items.new.self c.wrong_port.new.before c.as_slice-items.result.now
    c.in_ok-item-in-None.item None
    all before c.as_slice-items.ensures c.in_ok-item-in-None.ensures.first c.in-None-item.is)

pub returns-in-None-item-clause-printing : goal.returns-in-None-item-clause-printing
returns-in-None-item-clause-printing c =
    let before : c.wrong_port.new.before ≡ fact.after known.after_port known.unknown c.args.module.now.ports =
    c.in_ok-port.ensures.facts c.in-None.is ∙ (λ i. fact.after known.after_port (c.requires.before i) (c.as_slice-ports.ensures i)) in
    let facts : known.facts_of c.args.interfaces.now c.wrong_item.new.printing c.wrong_item.new.before
    ≡ fact.module_facts (known.head_of c.args.interfaces.now c.args.printing.now) c.args.module.now =
    c.in_ok-item-in-None.ensures.facts c.in-None-item.is
    ∙ (λ i. fact.after fact.after_item (known.facts_of c.args.interfaces.now c.args.printing.now (before i)) (c.as_slice-items.ensures i))
    ∙ ap (λ f. fact.after fact.after_item f c.args.module.now.items) (sym (ports_known c.args.interfaces.now c.args.printing.now known.unknown c.args.module.now.ports)) in
    λ none. ap known.printing_of facts
