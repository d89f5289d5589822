use Rattle.std.proofs.Common.{ap, ◌∙◌}
use Rattle.std.specs.List.{filter}
use Rattle.code_blocks.specs.Needs.{is_narrower}
use Rattle.code_blocks.proofs.Conversions.{conversions_at}
use Rattle.code_blocks.proofs.operands.converted.Goals as goal

pub returns : goal.returns
returns c =
    conversions_at c.args.ty c.args.operand.now c.in_ok-conversions.conversions c.push.new.self
    (c.in_ok-conversions.ensures ∙ ap (filter (is_narrower c.args.ty)) c.as_slice.ensures) c.in_ok-push.ensures.ok
