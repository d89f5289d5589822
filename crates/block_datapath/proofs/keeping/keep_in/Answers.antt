use Rattle.std.proofs.Common.{refl}
use Rattle.std.proofs.lemmas.Result.{on_ok_weaker}
use Rattle.block_datapath.specs.declared.states.Moment.{Moment}
use Rattle.block_datapath.proofs.ConditionalChains.{keep_linked}
use Rattle.block_datapath.proofs.LinkWires.{keep_wired}
use Rattle.block_datapath.proofs.keeping.keep_in.Goals as goal

pub returns-clause-shows : goal.returns-clause-shows
returns-clause-shows c =
    let end = c.args.end in
    let moment : Moment = record { at = end.at; state = c.args.given.last; states = end.states } in
    on_ok_weaker c.set_next.result
    (λ v. keep_linked c.args.wires.now.signals c.in_state.new.wires.signals c.resized.new.self.signals c.set_next.new.wires.signals c.args.registers.now moment end.states
    c.args.nexts.now
    c.set_next.new.nexts c.args.given c.args.number c.in_ok-condition.condition c.in_ok-source.source c.args.held c.requires.register c.requires.held refl refl
    c.in_ok-condition.ensures.shows c.in_ok-source.ensures.shows v)
    c.set_next.ensures.shows

pub returns-clause-wired : goal.returns-clause-wired
returns-clause-wired c =
    let end = c.args.end in
    let moment : Moment = record { at = end.at; state = c.args.given.last; states = end.states } in
    on_ok_weaker c.set_next.result
    (λ v. keep_wired c.args.wires.now.signals c.in_state.new.wires.signals c.resized.new.self.signals c.set_next.new.wires.signals c.args.registers.now moment c.args.nexts.now
    c.set_next.new.nexts c.args.given
    c.args.number c.in_ok-condition.condition c.in_ok-source.source c.args.held c.requires.held c.in_ok-condition.ensures.wired c.in_ok-source.ensures.wired v)
    c.set_next.ensures.wired
