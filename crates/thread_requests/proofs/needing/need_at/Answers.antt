use Rattle.hls_ints.specs.Words.{word_inclusive_or}
use Rattle.verilog_meaning.specs.Readings.{width}
use Rattle.operator_wires.specs.Gives.{Gives}
use Rattle.operator_wires.specs.Added.{BothAdds}
use Rattle.operator_wires.proofs.MadeWords.{of_two}
use Rattle.thread_requests.specs.Needing.{NeedsMore, IsNumbered, IsThere}
use Rattle.thread_requests.proofs.Needs.{needs_there}
use Rattle.thread_requests.proofs.needing.need_at.Goals as goal

pub returns : goal.returns
returns c =
    let b = c.at_stage.new.wires.signals in
    let e = c.either.new.self.signals in
    of_two c.either.result
    (λ out. Gives b e out 1 (λ m r. word_inclusive_or (width m c.args.need) (r.signal c.args.need) (r.signal c.in_ok-at.at)))
    (λ out. BothAdds b e c.args.need c.in_ok-at.at out)
    (NeedsMore c.args.registers.now (IsNumbered c.args.registers.now c.args.number) (IsThere c.args.registers.now c.args.number) c.args.wires.now.signals e c.args.need)
    (λ out t u.
    needs_there c.args.registers.now c.args.number c.args.wires.now.signals b e c.args.need c.in_ok-at.at out c.in_ok-at.ensures.shows c.in_ok-at.ensures.wired t u)
    c.either.ensures.shows c.either.ensures.wired
