use Rattle.std.proofs.Common.{sym, ◌∙◌}
use Rattle.std.specs.Box.{box_value}
use Rattle.clap.specs.Words.{found_of, rows_of}
use Rattle.clap.specs.declared.parser.matches.ArgMatches.TheViews.{out-ArgMatches, out-SubCommand}
use Rattle.hls_words.specs.Line.{task_in}
use Rattle.hls_words.proofs.LineLemmas.{by_name}
use Rattle.hls_words.proofs.line.task_or_usage.Goals as goal

pub returns-in-Ok-Some-clause-ok : goal.returns-in-Ok-Some-clause-ok
returns-in-Ok-Some-clause-ok c =
    by_name task_in (λ b. (out-SubCommand (box_value b)).name.now) (λ b. rows_of (found_of (out-SubCommand (box_value b)).matches))
    (out-ArgMatches c.args.matches.now).subcommand c.in-Some.name.now (rows_of (found_of c.in-Some.inner.now)) c.in-Some.ensures.name c.in-Some.ensures.rows
    ∙ sym c.in-Ok-Some.ensures ∙ c.in-Ok-Some.field-0-is
