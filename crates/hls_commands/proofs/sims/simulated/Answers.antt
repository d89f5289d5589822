use Rattle.std.proofs.lemmas.Result.{IfOk-weaker}
use Rattle.hls_commands.proofs.SimLemmas.{printed_owes, not_net_owes, looped_owes}
use Rattle.hls_commands.proofs.sims.simulated.Goals as goal

pub returns-in-Ok : goal.returns-in-Ok
returns-in-Ok c =
    IfOk-weaker c.printed.result _ _ (λ a is. printed_owes c.args.cycles c.args.text.now c.requires c.in-Ok.ran c.in-Ok.ensures.ok a is) c.printed.ensures

pub returns-in-Err-NotNet : goal.returns-in-Err-NotNet
returns-in-Err-NotNet c =
    IfOk-weaker c.not_net.result _ _
    (λ a is. not_net_owes c.args.cycles c.args.text.now c.requires c.in-Err-NotNet.field-0 c.in-Err-NotNet.offset c.in-Err-NotNet.field-0-is c.in-Err-NotNet.ensures.fails a is)
    c.not_net.ensures

pub returns-in-Err-Loop : goal.returns-in-Err-Loop
returns-in-Err-Loop c =
    IfOk-weaker c.looped.result _ _
    (λ a is. looped_owes c.args.cycles c.args.text.now c.requires c.in-Err-Loop.field-0 c.in-Err-Loop.path c.in-Err-Loop.field-0-is c.in-Err-Loop.ensures.fails a is)
    c.looped.ensures
