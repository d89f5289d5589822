use Rattle.std.proofs.Common.{None, rules, subst, sym}
use Rattle.hls_io.specs.Causes.{Rose}
use Rattle.hls_commands.specs.Inside.{StopsBy, due_of}
use Rattle.hls_commands.proofs.RefusalLemmas.{stops_reading}
use Rattle.hls_commands.proofs.CheckLemmas.{shown_owes}
use Rattle.hls_commands.proofs.checks.check_run.Goals as goal

pub returns-in-Ok-clause-ok : goal.returns-in-Ok-clause-ok
returns-in-Ok-clause-ok g c =
    shown_owes (g.S.Source.left c.args.source.now) c.as_slice.result.now (search rules) c.in-Ok.told c.in-Ok.ensures.ok (due_of c.in_ok-shown-in-Ok.field-0)
    c.in_ok-shown-in-Ok.field-0.status c.in_ok-shown-in-Ok.ensures

pub returns-clause-stop : goal.returns-clause-stop
returns-clause-stop g c =
    subst (StopsBy None (g.S.Source.left c.args.source.now) (Rose (g.S.Source.faults c.args.source.now) (g.S.Source.faults c.text_read.new.source))) (sym c.refused.ensures)
    (stops_reading (g.S.Source.left c.args.source.now) _ c.as_slice.result.now c.in-Err.error (search rules) c.in-Err.ensures.refused)
