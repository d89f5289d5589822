use Rattle.std.proofs.Common.{◌≡◌, ◌++◌, ◌∷◌, [], List, None, false, sym, ◌∙◌, ap, map, rules, arith}
use Rattle.std.specs.Prelude.{is_some, if◌then◌else◌}
use Rattle.std.specs.Str.{bytes_eq}
use Rattle.std.specs.Map.{lookup}
use Rattle.std.proofs.lemmas.Grind.{common_steps}
use Rattle.std.proofs.lemmas.List.{map_push}
use Rattle.lists.proofs.Places.{none_of}
use Rattle.verilog_tree.specs.declared.tree.Port.{Port}
use Rattle.verilog_tree.specs.Scope.{Name}
use Rattle.net_rules.specs.Tables.{plain_port, is_named, with_port}
use Rattle.net_rules.proofs.Tables.{new-entry}
use Rattle.net_rules.proofs.PortTables.{lookup-ports, some_copied}
use Rattle.net_rules.proofs.interfaces.Ports.new.Goals as goal

pub loop-port-preserved-then-is_some : goal.loop-port-preserved-then-is_some
loop-port-preserved-then-is_some c =
    let entries = c.loop-port.named.entries in
    let table : List (Name × Port) = map plain_port entries in
    let name : c.as_bytes-name.result.now ≡ c.port-item.result.name = c.as_bytes-name.ensures.value ∙ c.as_str.ensures.bytes in
    let known : c.is_some.result ≡ is_named table c.port-item.result.name =
    c.is_some.ensures ∙ sym (some_copied c.get.result) ∙ ap is_some c.get.ensures.value
    ∙ sym (some_copied (lookup (λ k. bytes_eq c.as_bytes-name.result.now k.now) entries)) ∙ ap is_some (lookup-ports c.as_bytes-name.result.now entries)
    ∙ ap (λ n. is_named table n) name in
    let added : List (Name × Port) = table ++ (c.port-item.result.name, c.port-item.result) ∷ [] in
    let e : table ≡ with_port table c.port-item.result = sym (ap (λ b. if b then table else added) (sym known ∙ c.if-is_some.true)) in
    first_of (search rules, grind (arith, common_steps))

pub loop-port-preserved : goal.loop-port-preserved
loop-port-preserved c =
    let entries = c.loop-port.named.entries in
    let table : List (Name × Port) = map plain_port entries in
    let name : c.as_bytes-name.result.now ≡ c.port-item.result.name = c.as_bytes-name.ensures.value ∙ c.as_str.ensures.bytes in
    let known : c.is_some.result ≡ is_named table c.port-item.result.name =
    c.is_some.ensures ∙ sym (some_copied c.get.result) ∙ ap is_some c.get.ensures.value
    ∙ sym (some_copied (lookup (λ k. bytes_eq c.as_bytes-name.result.now k.now) entries)) ∙ ap is_some (lookup-ports c.as_bytes-name.result.now entries)
    ∙ ap (λ n. is_named table n) name in
    let unknown : is_named table c.port-item.result.name ≡ false = sym known ∙ c.if-is_some.false in
    let none : lookup (λ k. bytes_eq c.as_bytes-name.result.now k.now) entries ≡ None =
    none_of _ (sym (some_copied (lookup (λ k. bytes_eq c.as_bytes-name.result.now k.now) entries))
    ∙ ap is_some (lookup-ports c.as_bytes-name.result.now entries)
    ∙ ap (λ n. is_named table n) name ∙ unknown) in
    let added : List (Name × Port) = table ++ (c.port-item.result.name, c.port-item.result) ∷ [] in
    let e : map plain_port c.insert.new.self.entries ≡ with_port table c.port-item.result =
    ap (map plain_port) (c.in_ok-insert.ensures.entries ∙ new-entry c.as_bytes-name.result _ entries none)
    ∙ map_push plain_port entries (c.as_bytes-name.result, _) ∙ (λ i. table ++ (name i, c.port-item.result) ∷ [])
    ∙ sym (ap (λ b. if b then table else added) unknown) in
    first_of (search rules, grind (arith, common_steps))
