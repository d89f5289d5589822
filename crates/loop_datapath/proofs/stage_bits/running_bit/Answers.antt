use Rattle.std.proofs.Common.{◌≡◌, nat_eq, slice_get, slice_index, Some, if◌then◌else◌, ap, ◌∙◌}
use Rattle.operator_wires.specs.Added.{ChoiceAdds}
use Rattle.operator_wires.specs.Gives.{Gives}
use Rattle.operator_wires.proofs.MadeWords.{of_ok}
use Rattle.loop_datapath.specs.declared.times.OperationTime.{OperationTime}
use Rattle.loop_datapath.specs.Times.{time_at}
use Rattle.loop_datapath.specs.States.{phase_bit}
use Rattle.loop_datapath.specs.StageBits.{ShowsRunning}
use Rattle.loop_datapath.specs.Wired.{IsRunningBit}
use Rattle.loop_datapath.proofs.InsideStages.{running_shown, running_known, running_wired}
use Rattle.loop_datapath.proofs.stage_bits.running_bit.Goals as goal

pub returns-in_default-clause-wired : goal.returns-in_default-clause-wired
returns-in_default-clause-wired c =
    running_known c.args.wires.now.signals c.flag_bit.new.wires.signals c.args.registers.now c.args.times.now c.args.words.now c.args.states.now c.in_ok-known.known
    c.in_ok-known.ensures.wired

pub returns-clause-shows : goal.returns-clause-shows
returns-clause-shows c =
    let listed : slice_get c.args.words.now c.args.comparison ≡ Some c.in-Some.word = cc in
    let begun : c.place_at.result ≡ slice_index c.args.states.now.rounds 1 = cc in
    let compares : c.phase-compares.result ≡ phase_bit c.args.states.now (time_at c.args.times.now.operations c.args.comparison).phase =
    c.phase-compares.ensures ∙ ap (λ (t : OperationTime). phase_bit c.args.states.now t.phase) c.time_at.ensures in
    of_ok c.choice.result
    (λ place. Gives c.both.new.self.signals c.choice.new.self.signals place 1
    (λ m r. if nat_eq (r.signal c.phase-compares.result) 0 then r.signal c.in_ok-known.known else r.signal c.in_ok-runs.runs))
    (ShowsRunning c.args.wires.now.signals c.choice.new.self.signals c.args.registers.now c.args.times.now c.args.comparison c.args.words.now c.args.states.now)
    (λ place t. running_shown c.args.wires.now.signals c.flag_bit.new.wires.signals c.is_zero.new.self.signals c.not.new.self.signals c.not-2.new.self.signals
    c.either.new.self.signals c.both.new.self.signals c.choice.new.self.signals c.args.registers.now c.args.times.now c.args.comparison c.args.words.now c.args.states.now
    c.in_ok-known.known c.in_ok-fails.fails c.in_ok-holds.holds c.place_at.result c.in_ok-is_first.is_first c.in_ok-ran.ran c.in_ok-runs.runs place c.phase-compares.result
    c.in-Some.word listed begun compares c.in_ok-known.ensures.shows c.in_ok-fails.ensures.shows c.in_ok-holds.ensures.shows c.in_ok-is_first.ensures.shows
    c.in_ok-ran.ensures.shows c.in_ok-runs.ensures.shows t)
    c.choice.ensures.shows

pub returns-clause-wired : goal.returns-clause-wired
returns-clause-wired c =
    let listed : slice_get c.args.words.now c.args.comparison ≡ Some c.in-Some.word = cc in
    let begun : c.place_at.result ≡ slice_index c.args.states.now.rounds 1 = cc in
    of_ok c.choice.result
    (ChoiceAdds c.both.new.self.signals c.choice.new.self.signals 1 c.phase-compares.result c.in_ok-runs.runs c.in_ok-known.known)
    (IsRunningBit c.args.wires.now.signals c.choice.new.self.signals c.args.registers.now c.args.times.now c.args.words.now c.args.states.now)
    (λ place t. running_wired c.args.wires.now.signals c.flag_bit.new.wires.signals c.is_zero.new.self.signals c.not.new.self.signals c.not-2.new.self.signals
    c.either.new.self.signals c.both.new.self.signals c.choice.new.self.signals c.args.registers.now c.args.times.now c.args.comparison c.time_at.result.phase
    c.args.words.now c.args.states.now
    c.in_ok-known.known c.in_ok-fails.fails c.in_ok-holds.holds c.in_ok-is_first.is_first c.in_ok-ran.ran c.in_ok-runs.runs place c.phase-compares.result c.place_at.result
    c.in-Some.word listed c.phase-compares.ensures begun c.in_ok-known.ensures.wired c.in_ok-fails.ensures.wired c.in_ok-holds.ensures.wired c.in_ok-is_first.ensures.wired
    c.in_ok-ran.ensures.wired c.in_ok-runs.ensures.wired t)
    c.choice.ensures.wired
