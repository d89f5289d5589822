use Rattle.verilog_tree.proofs.Names.{is_name-suffixed}
use Rattle.verilog_tree.proofs.name.Identifier.with_suffix.Goals as goal

pub invariant_of-result : goal.invariant_of-result
invariant_of-result c = is_name-suffixed _ _ _ _ _ c.self.invariant c.requires c.in_ok-text.ensures.cases c.in_ok-push_str.ensures.bytes c.in_ok-push_str-2.ensures.bytes
