use Rattle.std.proofs.Common.{rules}
use Rattle.c_program.specs.Plain.{program_of}
use Rattle.hls_commands.proofs.commands.walk_turns.Goals as goal

pub returns-clause-ok : goal.returns-clause-ok
returns-clause-ok g c = record {
  text = c.in_ok-accepted.ensures.ok.0;
  program = program_of c.in_ok-accepted.accepted.program;
  weight = c.in_ok-accepted.accepted.weight;
  gave = c.in_ok-accepted.ensures.ok.1;
  accepted = c.in_ok-accepted.ensures.ok.2;
  end = c.in_ok-walked.walked.end;
  walked = c.in_ok-walked.ensures;
  status = c.status_of.ensures;
  plain = search rules;
  unlisted = search rules;
  err = search rules;
}
