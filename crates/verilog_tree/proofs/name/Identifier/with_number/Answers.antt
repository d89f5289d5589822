use Rattle.std.proofs.Common.{◌≡◌, true, ◌∙◌, subst, sym}
use Rattle.verilog_tree.specs.Spelling.{all_pass, is_name_byte}
use Rattle.verilog_tree.proofs.Names.{name_bytes-decimal}
use Rattle.verilog_tree.proofs.name.Identifier.with_number.Goals as goal

pub with_suffix-requires : goal.with_suffix-requires
with_suffix-requires c = subst (λ z. all_pass is_name_byte z ≡ true) (sym (c.as_str.ensures.value ∙ c.in_ok-suffix.ensures.ok)) (name_bytes-decimal c.args.number c.ranges.number.fits)
