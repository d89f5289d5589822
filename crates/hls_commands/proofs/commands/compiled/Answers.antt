use Rattle.std.proofs.Common.{Some, rules, subst, sym}
use Rattle.hls_words.specs.declared.task.Task.TheVariants.{Build}
use Rattle.hls_io.specs.Causes.{Rose}
use Rattle.hls_commands.specs.Inside.{StopsBy}
use Rattle.hls_commands.proofs.RefusalLemmas.{stops}
use Rattle.hls_commands.proofs.commands.compiled.Goals as goal

pub returns-clause-stop : goal.returns-clause-stop
returns-clause-stop g c =
    subst (StopsBy (Some (Build c.args.jobs)) (g.S.Source.left c.args.source.now) (Rose (g.S.Source.faults c.args.source.now) (g.S.Source.faults c.text_read.new.source))) (sym c.stop_of.ensures)
    (stops c.args.jobs (g.S.Source.left c.args.source.now) _ c.as_slice.result.now c.in-Err.error (search rules) c.in-Err.ensures.refused)
