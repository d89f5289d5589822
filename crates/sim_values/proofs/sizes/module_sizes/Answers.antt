use Rattle.std.proofs.Common.{take, arith}
use Rattle.std.proofs.lemmas.Grind.{common_steps}
use Rattle.sim_values.proofs.OneSizeMore.{one_size_more}
use Rattle.sim_values.proofs.sizes.module_sizes.Goals as goal

pub loop-module-preserved : goal.loop-module-preserved
loop-module-preserved c =
    let more = one_size_more (take c.loop-module.module-index c.args.modules.now) c.module-item.result in
    grind (arith, common_steps, more)
