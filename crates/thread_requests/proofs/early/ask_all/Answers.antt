use Rattle.std.proofs.Common.{◌≡◌, subst, sym}
use Rattle.operator_wires.proofs.MadeWords.{of_ok}
use Rattle.thread_requests.specs.declared.early.Asked.{Asked}
use Rattle.thread_requests.specs.Early.{AsksBanks}
use Rattle.thread_requests.proofs.early.ask_all.Goals as goal

pub returns : goal.returns
returns c =
    let a = c.args.wires.now.signals in
    let b = c.ask_banks.new.wires.signals in
    let made : Asked = record { requests = c.ask_banks.new.requests; done = c.in_ok-done.done } in
    of_ok c.new.result (λ (z : Asked). z ≡ made)
    (λ (z : Asked). AsksBanks c.args.globals.now c.args.code.now c.args.registers.now c.args.caller c.args.planned.now a b z.requests z.done)
    (λ z same.
    subst (λ (y : Asked). AsksBanks c.args.globals.now c.args.code.now c.args.registers.now c.args.caller c.args.planned.now a b y.requests y.done) (sym same)
    (c.in_ok-done.ensures a c.in_ok-requests.ensures)) c.new.ensures
