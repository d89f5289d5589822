use Rattle.std.proofs.Common.{refl}
use Rattle.c_program.specs.Plain.{program_of}
use Rattle.hls_commands.proofs.commands.build.Goals as goal

pub returns-clause-ok : goal.returns-clause-ok
returns-clause-ok g c = (
  refl,
  record {
    text = c.in_ok-made.ensures.ok.0;
    program = program_of c.in_ok-made.made.program;
    weight = c.in_ok-made.made.weight;
    net = c.in_ok-made.made.net;
    gave = c.in_ok-made.ensures.ok.1;
    compiled = c.in_ok-made.ensures.ok.2;
    out = refl;
    unlisted = c.new.ensures;
    err = cc (c.in_ok-line.ensures, c.thread_count-threads.ensures, c.len.ensures);
  },
)
