use Rattle.thread_slots.specs.declared.requests.Requests.{Requests}
use Rattle.thread_slots.proofs.RequestLinks.{begins_asking, begins_linked}
use Rattle.thread_slots.proofs.requests.Requests.begin.Goals as goal

pub returns-clause-begins : goal.returns-clause-begins
returns-clause-begins c =
    let x : Requests = record {
      mutex = c.in_ok-mutex.mutex;
      barrier = c.in_ok-barrier.barrier;
      thread_ids = c.in_ok-thread_ids.thread_ids;
      printer = c.in_ok-printer.printer;
      banks = c.in_ok-banks.banks;
    } in
    begins_asking c.args.wires.now.signals c.begin.new.wires.signals c.begin-2.new.wires.signals c.begin-3.new.wires.signals c.begin-4.new.wires.signals
    c.begin-5.new.wires.signals c.args.served c.args.words.now x c.in_ok-mutex.ensures c.in_ok-barrier.ensures c.in_ok-thread_ids.ensures c.in_ok-printer.ensures c.in_ok-banks.ensures.shows

pub returns-clause-wired : goal.returns-clause-wired
returns-clause-wired c =
    let x : Requests = record {
      mutex = c.in_ok-mutex.mutex;
      barrier = c.in_ok-barrier.barrier;
      thread_ids = c.in_ok-thread_ids.thread_ids;
      printer = c.in_ok-printer.printer;
      banks = c.in_ok-banks.banks;
    } in
    begins_linked c.args.wires.now.signals c.begin.new.wires.signals c.begin-2.new.wires.signals c.begin-3.new.wires.signals c.begin-4.new.wires.signals
    c.begin-5.new.wires.signals c.args.served c.args.words.now x c.in_ok-mutex.ensures c.in_ok-barrier.ensures c.in_ok-thread_ids.ensures c.in_ok-printer.ensures c.in_ok-banks.ensures.shows
    c.in_ok-banks.ensures.wired
