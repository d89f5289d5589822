use Rattle.std.proofs.Common.{Option, sym, subst}
use Rattle.hls_ints.specs.Words.{word_and}
use Rattle.bank_partition.specs.declared.banks.Spread.{Spread}
use Rattle.verilog_meaning.specs.Readings.{width}
use Rattle.operator_wires.specs.Gives.{Gives}
use Rattle.operator_wires.specs.Added.{BothAdds}
use Rattle.operator_wires.proofs.BuiltWires.{stands_after, wires_then}
use Rattle.operator_wires.proofs.MadeWords.{of_ok}
use Rattle.thread_states.specs.Control.{RemembersOne, AddsMark}
use Rattle.thread_states.proofs.LeftStates.{mark_of_some, mark_of_none}
use Rattle.thread_states.proofs.control.remember_one.Goals as goal

pub returns-in_ok-any-in-Some-clause-shows : goal.returns-in_ok-any-in-Some-clause-shows
returns-in_ok-any-in-Some-clause-shows c =
    of_ok c.both.result
    (λ out. Gives c.any_within.new.wires.signals c.both.new.self.signals out 1 (λ m r. word_and (width m c.in_ok-any-in-Some.any) (r.signal c.in_ok-any-in-Some.any)
    (r.signal c.args.stay)))
    (RemembersOne c.args.wires.now.signals c.both.new.self.signals c.args.mark c.args.got.now c.args.spread c.args.stay)
    (λ out t.
    subst (λ (s : Option Spread). RemembersOne c.args.wires.now.signals c.both.new.self.signals c.args.mark c.args.got.now s c.args.stay out) (sym c.in-Some.is)
    (mark_of_some c.args.wires.now.signals c.any_within.new.wires.signals c.both.new.self.signals c.args.mark c.args.got.now c.in-Some.spread c.args.stay c.in_ok-any-in-Some.any
    out
    c.in_ok-any-in-Some.ensures.shows t))
    c.both.ensures.shows

pub returns-in_ok-any-in-Some-clause-wired : goal.returns-in_ok-any-in-Some-clause-wired
returns-in_ok-any-in-Some-clause-wired c =
    of_ok c.both.result (BothAdds c.any_within.new.wires.signals c.both.new.self.signals c.in_ok-any-in-Some.any c.args.stay)
    (AddsMark c.args.wires.now.signals c.both.new.self.signals c.args.mark c.args.got.now c.args.stay)
    (λ out t base mark wins stay.
    let first = c.in_ok-any-in-Some.ensures.wired base wins mark in
    let last = t base first.stands (stands_after c.args.wires.now.signals c.any_within.new.wires.signals base c.args.stay 1 first.wires.grows stay) in
    record { wires = wires_then base c.args.wires.now.signals c.any_within.new.wires.signals c.both.new.self.signals first.wires last.wires; stands = last.stands })
    c.both.ensures.wired

pub returns-in-None-clause-shows : goal.returns-in-None-clause-shows
returns-in-None-clause-shows c =
    of_ok c.both-in-None.result
    (λ out. Gives c.args.wires.now.signals c.both-in-None.new.self.signals out 1 (λ m r. word_and (width m c.args.mark) (r.signal c.args.mark) (r.signal c.args.stay)))
    (RemembersOne c.args.wires.now.signals c.both-in-None.new.self.signals c.args.mark c.args.got.now c.args.spread c.args.stay)
    (λ out t.
    subst (λ (s : Option Spread). RemembersOne c.args.wires.now.signals c.both-in-None.new.self.signals c.args.mark c.args.got.now s c.args.stay out) (sym c.in-None.is)
    (mark_of_none c.args.wires.now.signals c.both-in-None.new.self.signals c.args.mark c.args.got.now c.args.stay out t))
    c.both-in-None.ensures.shows

pub returns-in-None-clause-wired : goal.returns-in-None-clause-wired
returns-in-None-clause-wired c =
    of_ok c.both-in-None.result (BothAdds c.args.wires.now.signals c.both-in-None.new.self.signals c.args.mark c.args.stay)
    (AddsMark c.args.wires.now.signals c.both-in-None.new.self.signals c.args.mark c.args.got.now c.args.stay)
    (λ out t base mark wins stay. t base mark stay) c.both-in-None.ensures.wired
