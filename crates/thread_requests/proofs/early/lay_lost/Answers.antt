use Rattle.hls_ints.specs.Words.{word_and}
use Rattle.verilog_meaning.specs.Readings.{width}
use Rattle.operator_wires.specs.Gives.{Gives}
use Rattle.operator_wires.specs.Added.{BothAdds}
use Rattle.operator_wires.proofs.MadeWords.{of_two}
use Rattle.thread_requests.specs.Early.{IsLost}
use Rattle.thread_requests.proofs.OpenCores.{lost_made}
use Rattle.thread_requests.proofs.early.lay_lost.Goals as goal

pub returns : goal.returns
returns c =
    let s0 = c.args.wires.now.signals in
    let s1 = c.either.new.self.signals in
    let s2 = c.either-2.new.self.signals in
    let s3 = c.constant.new.self.signals in
    let s4 = c.any_of.new.wires.signals in
    let s5 = c.not.new.self.signals in
    let s6 = c.both.new.self.signals in
    let wanted = c.in_ok-wanted.wanted in
    let shut = c.in_ok-shut.shut in
    of_two c.both.result (λ place. Gives s5 s6 place 1 (λ m r. word_and (width m wanted) (r.signal wanted) (r.signal shut))) (BothAdds s5 s6 wanted shut)
    (IsLost c.args.requests.now c.args.opens.now s0 s6)
    (λ lost t u.
    lost_made s0 s1 s2 s3 s4 s5 s6 c.args.requests.now c.args.opens.now c.in_ok-objects.objects wanted c.in_ok-never.never c.in_ok-open.open shut lost
    c.in_ok-objects.ensures.shows c.in_ok-wanted.ensures.shows c.in_ok-never.ensures.shows c.in_ok-open.ensures.shows c.in_ok-shut.ensures.shows t
    c.in_ok-objects.ensures.wired c.in_ok-wanted.ensures.wired c.in_ok-never.ensures.wired c.in_ok-open.ensures.wired c.in_ok-shut.ensures.wired u)
    c.both.ensures.shows c.both.ensures.wired
