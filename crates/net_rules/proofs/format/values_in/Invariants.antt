use Rattle.std.proofs.Common.{◌≡◌, ◌+◌, ◌≤◌, drop}
use Rattle.std.specs.Prelude.{option_map}
use Rattle.verilog_tree.specs.Rules as rule
use Rattle.net_rules.specs.Format.{formatting}
use Rattle.net_rules.proofs.format.values_in.Given as goal

abbrev pub invariant-loop-byte : goal.invariant-loop-byte
invariant-loop-byte l =
    (option_map (λ n. l.values + n) (rule.values_in (formatting l.at) (drop l.byte-index l.text)) ≡ rule.values_in rule.Between l.text) × (l.values ≤ l.byte-index)
