-- Where a string of a `$write` stands.
use Rattle.verilog_tree.specs.Rules as rule
use Rattle.net_rules.specs.declared.format.Formatting.{Formatting}
use Rattle.net_rules.specs.declared.format.Formatting.TheVariants as at

abbrev pub formatting : Formatting → rule.Formatting
formatting at.Between = rule.Between
formatting at.Percent = rule.Percent
formatting at.Zero = rule.Zero
formatting at.Backslash = rule.Backslash
formatting at.Value = rule.Value
formatting at.Wrong = rule.Wrong
