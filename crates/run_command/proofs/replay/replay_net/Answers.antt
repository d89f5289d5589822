use Rattle.std.proofs.lemmas.Result.{IfOk-weaker}
use Rattle.run_command.proofs.Bad.{is_bad, not_legal, misspelt}
use Rattle.run_command.proofs.replay.replay_net.Goals as goal

pub returns-in-BadEntry : goal.returns-in-BadEntry
returns-in-BadEntry c =
    let modules = c.args.modules.now in
    let index = c.in-BadEntry.index in
    let first = not_legal modules c.args.threads c.args.entries c.args.bad c.as_slice.result.now c.as_slice.ensures c.in_ok-index.field-0 c.in_ok-index.ensures index
    c.in-BadEntry.is in
    IfOk-weaker c.bad_entry.result _ _ (is_bad modules c.args.threads c.args.entries c.args.bad index first) c.bad_entry.ensures

pub returns-in-Some : goal.returns-in-Some
returns-in-Some c =
    let modules = c.args.modules.now in
    let index = c.in-Some.index in
    let x = c.in-Replayed in
    let first =
    misspelt modules c.args.threads c.args.entries c.args.bad c.as_slice.result.now c.as_slice.ensures c.in_ok-index.field-0 c.in_ok-index.ensures x.output x.cycles
    x.verdict x.is index c.in-Some.is in
    IfOk-weaker c.bad_entry-in-Some.result _ _ (is_bad modules c.args.threads c.args.entries c.args.bad index first) c.bad_entry-in-Some.ensures
