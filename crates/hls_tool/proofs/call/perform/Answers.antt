use Rattle.std.proofs.Common.{Some}
use Rattle.hls_io.specs.Causes.{Rose}
use Rattle.hls_commands.specs.Inside.{due_of}
use Rattle.hls_tool.proofs.DeliveryLemmas.{may_be_owed}
use Rattle.hls_tool.proofs.call.perform.Goals as goal

pub returns : goal.returns
returns g c = record {
  answered = record {
    owed = due_of c.run_task-answer.result;
    owes = c.run_task-answer.ensures.owes;
    ends = c.deliver.ensures.ends;
    text = c.deliver.ensures.text;
    journal = c.deliver.ensures.journal;
  };
}

pub deliver-requires : goal.deliver-requires
deliver-requires g c =
    may_be_owed (Some c.args.task) (g.S.Source.left c.args.source.now)
    (Rose (g.S.Source.faults c.args.source.now) (g.S.Source.faults c.run_task-answer.new.source)) (due_of c.run_task-answer.result) _ c.run_task-answer.ensures.owes
