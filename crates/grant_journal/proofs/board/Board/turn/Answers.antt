use Rattle.std.specs.Prelude.{◌≡◌, ◌+◌, ◌≤◌, List, [], ◌∷◌, ◌++◌, length, vec_capacity, refl}
use Rattle.std.proofs.Common.{subst, arith, rules, ap, ◌∙◌}
use Rattle.verilog_meaning.specs.Cycles.{Valuation}
use Rattle.verilog_meaning.specs.Threads.{IsSame}
use Rattle.journal_text.specs.declared.entry.Entry.{Entry}
use Rattle.journal_laws.specs.Journal.{LeadsTo}
use Rattle.grant_journal.specs.Boards.{IsSlotAt, IsGiven}
use Rattle.grant_journal.proofs.Offers.{one_state}
use Rattle.grant_journal.proofs.LoneTurns.{runs_on, goes_through, grown_more, grown_added, grown_within, grown_over}
use Rattle.grant_journal.proofs.board.Board.turn.Goals as goal

pub same-self : goal.same-self
same-self g c = refl

pub next-requires : goal.next-requires
next-requires g c = omega arith

pub returns-in-Ended-clause-ended : goal.returns-in-Ended-clause-ended
returns-in-Ended-clause-ended g c = (c.in-Ended.ensures.next, c.in-Ended.ensures.journal)

pub copy_slot-requires : goal.copy_slot-requires
copy_slot-requires g c = c.in-Thread.ensures.next.holds.2.within

pub commit-requires-clause-thread : goal.commit-requires-clause-thread
commit-requires-clause-thread g c = c.in-Thread.ensures.next.holds.2.within

pub commit-requires-clause-run : goal.commit-requires-clause-run
commit-requires-clause-run g c =
    let i = c.in-Thread.thread in
    runs_on g.J.Case.modules g.J.Case.threads g.J.Case.most g.J.Case.layout (c.self.invariant.1).frame c.args.self.now i c.closed-closed.result
    c.copy_slot.new.local c.set.new.self c.closed-closed.new.self
    (subst (λ (j : List Entry). IsSlotAt g.J.Case.modules g.J.Case.threads j i c.copy_slot.new.local) c.in-Thread.ensures.journal c.copy_slot.ensures) c.set.ensures c.closed-closed.ensures.run

pub commit-requires-clause-most : goal.commit-requires-clause-most
commit-requires-clause-most g c = c.closed-closed.ensures.most

pub returns-in_err-commit-clause-ended : goal.returns-in_err-commit-clause-ended
returns-in_err-commit-clause-ended g c = search rules

pub returns-in_err-commit-clause-more : goal.returns-in_err-commit-clause-more
returns-in_err-commit-clause-more g c = search rules

pub returns-in_err-commit-clause-added : goal.returns-in_err-commit-clause-added
returns-in_err-commit-clause-added g c = search rules

pub returns-in_err-commit-clause-within : goal.returns-in_err-commit-clause-within
returns-in_err-commit-clause-within g c = search rules

pub unreachable-requires : goal.unreachable-requires
unreachable-requires g c =
    let i = c.in-Thread.thread in
    let b = c.self.inside in
    let k = c.self.invariant.1 in
    let v : b.journal.items ≡ c.args.self.now = (let h = c.self.view_is in cc) in
    let one =
    one_state g.J.Case.modules g.J.Case.threads g.J.Case.most g.J.Case.layout b.sim b.journal.items (vec_capacity b.journal) b.output k c.threads.ensures.stands in
    goes_through g.J.Case.modules g.J.Case.threads g.J.Case.most g.J.Case.layout k.frame c.args.self.now i c.closed-closed.result c.copy_slot.new.local c.set.new.self c.closed-closed.new.self
    (subst (λ (j : List Entry). IsSlotAt g.J.Case.modules g.J.Case.threads j i c.copy_slot.new.local) c.in-Thread.ensures.journal c.copy_slot.ensures) c.set.ensures c.closed-closed.ensures.run
    (subst
    (λ (j : List Entry). (h l : Valuation) → LeadsTo g.J.Case.modules k.frame.top g.J.Case.threads j h → LeadsTo g.J.Case.modules k.frame.top g.J.Case.threads j l
    → IsSame g.J.Case.modules k.frame.top g.J.Case.threads h l)
    v one)
    c.commit.new.self c.commit.new.local c.in-Thread.ensures.next c.in_ok-commit.field-0
    (subst
    (λ (j : List Entry). IsGiven g.J.Case.modules g.J.Case.threads g.J.Case.most i c.copy_slot.new.local c.closed-closed.result j c.closed-closed.new.self
    c.commit.new.self c.commit.new.local c.in_ok-commit.field-0)
    c.in-Thread.ensures.journal c.in_ok-commit.ensures.given)
    c.in-Stale.is

pub unreachable-unreachable : goal.unreachable-unreachable
unreachable-unreachable g c = c.unreachable.result

pub returns-in-Committed-clause-more : goal.returns-in-Committed-clause-more
returns-in-Committed-clause-more g c =
    grown_more g.J.Case.modules g.J.Case.threads g.J.Case.most c.in-Thread.thread c.closed-closed.result c.copy_slot.new.local c.closed-closed.new.self
    c.next.new.self c.commit.new.self c.commit.new.local
    c.in_ok-commit.field-0 c.in_ok-commit.ensures.given c.in-Committed.is
    ∙ ap (λ (j : List Entry). length j + 1) c.in-Thread.ensures.journal

pub returns-in-Committed-clause-added : goal.returns-in-Committed-clause-added
returns-in-Committed-clause-added g c =
    let grown = grown_added g.J.Case.modules g.J.Case.threads g.J.Case.most c.in-Thread.thread c.closed-closed.result c.copy_slot.new.local c.closed-closed.new.self
    c.next.new.self c.commit.new.self c.commit.new.local
    c.in_ok-commit.field-0 c.in_ok-commit.ensures.given c.in-Committed.is in
    (grown.0, grown.1 ∙ ap (λ (j : List Entry). j ++ grown.0 ∷ []) c.in-Thread.ensures.journal)

pub returns-in-Committed-clause-within : goal.returns-in-Committed-clause-within
returns-in-Committed-clause-within g c =
    let i = c.in-Thread.thread in
    let v : c.self.inside.journal.items ≡ c.args.self.now = (let h = c.self.view_is in cc) in
    grown_within g.J.Case.modules g.J.Case.threads g.J.Case.most i c.closed-closed.result c.copy_slot.new.local c.closed-closed.new.self c.args.self.now
    c.commit.new.self c.commit.new.local c.in_ok-commit.field-0
    (subst
    (λ (j : List Entry). IsGiven g.J.Case.modules g.J.Case.threads g.J.Case.most i c.copy_slot.new.local c.closed-closed.result j c.closed-closed.new.self
    c.commit.new.self c.commit.new.local c.in_ok-commit.field-0)
    c.in-Thread.ensures.journal c.in_ok-commit.ensures.given)
    c.in-Committed.is (subst (λ (j : List Entry). length j ≤ g.J.Case.most) v (c.self.invariant.1).within)

pub returns-in-Ended-2-clause-ended : goal.returns-in-Ended-2-clause-ended
returns-in-Ended-2-clause-ended g c =
    let i = c.in-Thread.thread in
    grown_over g.J.Case.modules g.J.Case.threads g.J.Case.most i c.closed-closed.result c.copy_slot.new.local c.closed-closed.new.self c.args.self.now
    c.commit.new.self c.commit.new.local c.in_ok-commit.field-0
    (subst
    (λ (j : List Entry). IsGiven g.J.Case.modules g.J.Case.threads g.J.Case.most i c.copy_slot.new.local c.closed-closed.result j c.closed-closed.new.self
    c.commit.new.self c.commit.new.local c.in_ok-commit.field-0)
    c.in-Thread.ensures.journal c.in_ok-commit.ensures.given)
    c.in-Ended-2.verdict c.in-Ended-2.is
