use Rattle.std.proofs.Common.{List, subst}
use Rattle.bank_partition.specs.declared.banks.Spread.{Spread}
use Rattle.thread_asks.specs.Asking.{AsksAllWired}
use Rattle.thread_requests.specs.Banks.{SpreadsRequests}
use Rattle.thread_requests.specs.Early.{with_banks}
use Rattle.thread_requests.proofs.AllAsks.{banks_asked}
use Rattle.thread_requests.proofs.early.ask_banks.Goals as goal

pub returns : goal.returns
returns c = λ a start.
    let b = c.args.wires.now.signals in
    let d = c.ask_stages.new.wires.signals in
    let e = c.spread_requests.new.wires.signals in
    let globals = c.args.globals.now in
    let code = c.args.code.now in
    let registers = c.args.registers.now in
    let before = c.args.requests.now in
    let asked = c.ask_stages.new.requests in
    let banks = c.in_ok-banks.banks in
    banks_asked globals code registers c.args.caller c.args.planned.now a b d e before (with_banks asked banks) asked.banks c.in_ok-whole.whole
    c.in_ok-done.done c.in_ok-whole.ensures start.begins start.met.names start.wired
    (subst (λ (z : List Spread). AsksAllWired globals z code registers c.args.caller c.args.planned.now b d before asked c.in_ok-done.done)
    c.as_slice.ensures c.in_ok-done.ensures)
    (subst (λ (z : List Spread). SpreadsRequests z d e asked.banks banks) c.as_slice-2.ensures c.in_ok-banks.ensures)
