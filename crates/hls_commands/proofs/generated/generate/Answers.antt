use Rattle.std.proofs.Common.{rules}
use Rattle.c_program.specs.Plain.{program_of}
use Rattle.generated_text.specs.Draws.{lines_of}
use Rattle.generated_text.specs.Text.{text_of}
use Rattle.hls_commands.proofs.generated.generate.Goals as goal

pub make-requires-clause-some : goal.make-requires-clause-some
make-requires-clause-some g c κs within = c.requires.some

pub make-requires-clause-most : goal.make-requires-clause-most
make-requires-clause-most g c κs within = c.requires.most

pub make-requires-clause-few : goal.make-requires-clause-few
make-requires-clause-few g c κs within = c.requires.few

pub ran_as-requires : goal.ran_as-requires
ran_as-requires g c = (text_of c.args.threads (lines_of c.args.seed c.args.size), c.in_ok-c_bytes.ensures.compiled)

pub returns-clause-ok : goal.returns-clause-ok
returns-clause-ok g c =
    let b = c.in_ok-c_bytes.field-0.built in
    let made = c.in_ok-c_bytes.ensures in (
      c.in_ok-ran.ran.cycles,
      c.in_ok-ran.ran.is_done,
      record {
        program = program_of b.program;
        weight = b.weight;
        net = b.net;
        compiled = made.compiled;
        good = made.good;
        counted = made.counted;
        unlisted = search rules;
        ran = c.in_ok-ran.ensures;
        err = cc (c.in_ok-line.ensures, c.len.ensures, made.long);
      },
      search rules,
    )
