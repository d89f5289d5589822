use Rattle.std.proofs.Common.{Some, rules, subst, sym}
use Rattle.hls_words.specs.declared.task.Task.TheVariants.{Replay}
use Rattle.hls_io.specs.Causes.{Rose}
use Rattle.hls_commands.specs.Inside.{StopsBy}
use Rattle.hls_commands.proofs.RefusalLemmas.{stops_replay}
use Rattle.hls_commands.proofs.runs.compiled_with_journal.Goals as goal

pub returns-clause-stop : goal.returns-clause-stop
returns-clause-stop g c =
    let journal = c.in_ok-journal.journal in
    subst (StopsBy (Some Replay) (g.S.Source.left c.args.source.now) (Rose (g.S.Source.faults c.args.source.now) (g.S.Source.faults c.whole_read.new.source))) (sym c.stop_of.ensures)
    (stops_replay (g.S.Source.left c.args.source.now) _ journal.entries journal.bad c.behind.result.now c.in-Err.error (search rules) c.in-Err.ensures.refused)
