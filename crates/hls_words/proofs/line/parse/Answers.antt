use Rattle.std.proofs.Common.{◌≡◌, ◌∙◌, map, rules, string_bytes}
use Rattle.std.specs.Prelude.{option_and_then}
use Rattle.std.proofs.lemmas.Result.{IfOk-weaker}
use Rattle.clap.specs.Words.{subcommand_rows_of}
use Rattle.hls_words.specs.Line.{IsInRange, task_in, task_of}
use Rattle.hls_words.proofs.line.parse.Goals as goal
use Rattle.hls_words.proofs.LineLemmas.{task_of-parsed, task_of-refused}
use Rattle.hls_words.proofs.Ranges.{asked_in_range}

pub returns-in-Ok-try_get_matches_from-clause-ok : goal.returns-in-Ok-try_get_matches_from-clause-ok
returns-in-Ok-try_get_matches_from-clause-ok c =
    let meant : task_of (map string_bytes c.args.words.now) ≡ option_and_then (λ p. task_in p.0 p.1) (subcommand_rows_of c.in-Ok-try_get_matches_from.matches) =
    task_of-parsed _ _ _ c.in-Ok.ensures c.in-Ok-try_get_matches_from.ensures.kinds c.in-Ok-try_get_matches_from.ensures.matches in
    rw meant c.task_or_usage.ensures.ok

pub returns-in-Ok-try_get_matches_from-clause-usage : goal.returns-in-Ok-try_get_matches_from-clause-usage
returns-in-Ok-try_get_matches_from-clause-usage c =
    let meant : task_of (map string_bytes c.args.words.now) ≡ option_and_then (λ p. task_in p.0 p.1) (subcommand_rows_of c.in-Ok-try_get_matches_from.matches) =
    task_of-parsed _ _ _ c.in-Ok.ensures c.in-Ok-try_get_matches_from.ensures.kinds c.in-Ok-try_get_matches_from.ensures.matches in
    rw meant c.task_or_usage.ensures.usage

pub returns-in-Ok-try_get_matches_from-clause-range : goal.returns-in-Ok-try_get_matches_from-clause-range
returns-in-Ok-try_get_matches_from-clause-range c =
    let words = map string_bytes c.args.words.now in
    let meant : task_of words ≡ option_and_then (λ p. task_in p.0 p.1) (subcommand_rows_of c.in-Ok-try_get_matches_from.matches) =
    task_of-parsed _ _ _ c.in-Ok.ensures c.in-Ok-try_get_matches_from.ensures.kinds c.in-Ok-try_get_matches_from.ensures.matches in
    IfOk-weaker c.task_or_usage.result _ IsInRange (λ t is. asked_in_range words t (meant ∙ is)) c.task_or_usage.ensures.ok

pub returns-in-Err-clause-usage : goal.returns-in-Err-clause-usage
returns-in-Err-clause-usage c = λ e. task_of-refused _ _ c.in-Err.error c.in-Ok.ensures c.in-Err.ensures.kinds (c.refusal.ensures (search rules))
