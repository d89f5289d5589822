use Rattle.hls_ints.specs.Words.{word_inclusive_or}
use Rattle.verilog_meaning.specs.Readings.{width}
use Rattle.operator_wires.specs.Gives.{Gives}
use Rattle.operator_wires.specs.Added.{BothAdds}
use Rattle.operator_wires.proofs.MadeWords.{of_two}
use Rattle.thread_requests.specs.Needing.{NeedsMore, HasStates, IsBehind}
use Rattle.thread_requests.proofs.Needs.{needs_word}
use Rattle.thread_requests.proofs.needing.need_word.Goals as goal

pub returns : goal.returns
returns c =
    let b = c.in_state.new.wires.signals in
    let e = c.either.new.self.signals in
    of_two c.either.result
    (λ out. Gives b e out 1 (λ m r. word_inclusive_or (width m c.args.need) (r.signal c.args.need) (r.signal c.in_ok-here.here)))
    (λ out. BothAdds b e c.args.need c.in_ok-here.here out)
    (NeedsMore c.args.registers.now (HasStates c.args.registers.now c.args.at c.args.states) (IsBehind c.args.registers.now c.args.at c.args.states c.args.start)
    c.args.wires.now.signals e c.args.need)
    (λ out t u.
    needs_word c.args.registers.now c.args.at c.args.states c.args.start c.following-state.result c.args.wires.now.signals b e c.args.need c.in_ok-here.here out
    c.following-state.ensures c.in_ok-here.ensures.shows c.in_ok-here.ensures.wired t u)
    c.either.ensures.shows c.either.ensures.wired
