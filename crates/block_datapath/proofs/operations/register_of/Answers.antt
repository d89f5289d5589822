use Rattle.std.proofs.Common.{ap, ◌∙◌}
use Rattle.std.specs.Option.{option_flatten}
use Rattle.block_datapath.proofs.OperationWords.{register_flat}
use Rattle.block_datapath.proofs.operations.register_of.Goals as goal

pub returns : goal.returns
returns c =
    c.flatten.ensures ∙ ap option_flatten (c.copied.ensures ∙ c.get.ensures.value) ∙ register_flat c.args.plan.now.registers c.args.number
