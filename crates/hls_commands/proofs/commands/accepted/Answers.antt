use Rattle.std.proofs.Common.{None, rules, subst, sym}
use Rattle.hls_io.specs.Causes.{Rose}
use Rattle.hls_commands.specs.Inside.{StopsBy}
use Rattle.hls_commands.proofs.RefusalLemmas.{stops_reading}
use Rattle.hls_commands.proofs.commands.accepted.Goals as goal

pub returns-clause-stop : goal.returns-clause-stop
returns-clause-stop g c =
    subst (StopsBy None (g.S.Source.left c.args.source.now) (Rose (g.S.Source.faults c.args.source.now) (g.S.Source.faults c.text_read.new.source))) (sym c.refused.ensures)
    (stops_reading (g.S.Source.left c.args.source.now) _ c.as_slice.result.now c.in-Err.error (search rules) c.in-Err.ensures.refused)
