use Rattle.std.proofs.Common.{◌∷◌, ◌∙◌, ap, sym}
use Rattle.std.proofs.lemmas.Result.{IfOk-weaker}
use Rattle.c_program.specs.Plain.{statement_of}
use Rattle.c_program.specs.Tree.{Statement}
use Rattle.thread_semantics.specs.Work.{Turn, opened}
use Rattle.c_evaluation.specs.View.{item_of, loop_of, work_of}
use Rattle.c_evaluation.proofs.OpenedParts.{without_item, later_items, do_arm, for_arm}
use Rattle.c_evaluation.proofs.work.+opening.Goals as goal

pub open_before-returns-in-Some : goal.open_before-returns-in-Some
open_before-returns-in-Some t c =
    let old = work_of c.args.work.now.items in
    let h = rw c.in_ok-put.ensures at (rw c.in-Some.is at c.in_ok-going.ensures) in
    without_item (opened (statement_of c.args.part.now) (item_of c.args.item ∷ old)) (item_of c.args.item) old (work_of c.open.new.work.items) _ c.in-Some.going h
    (ap work_of c.pop_front.ensures.rest ∙ later_items c.open.new.work.items)

pub open_before-returns-in-None : goal.open_before-returns-in-None
open_before-returns-in-None t c = rw c.in_ok-put.ensures at (rw c.in-None.is at c.in_ok-going.ensures)

pub open_for-returns-in-Some : goal.open_for-returns-in-Some
open_for-returns-in-Some t c =
    let loop = loop_of c.args.looping in
    let old = work_of c.args.work.now.items in
    let h = rw c.in_ok-put.ensures at (rw c.deref.ensures at (rw c.in-Some.is at c.in_ok-going.ensures)) in
    without_item (opened (Statement.Sequence (statement_of c.args.first.now) loop.condition) (Turn loop ∷ old)) (Turn loop) old (work_of c.open_both.new.work.items) _ c.in-Some.going h
    (ap work_of c.pop_front.ensures.rest ∙ later_items c.open_both.new.work.items)

pub open_for-returns-in-None : goal.open_for-returns-in-None
open_for-returns-in-None t c = rw c.in_ok-put.ensures at (rw c.deref.ensures at (rw c.in-None.is at c.in_ok-going.ensures))

pub open-returns-in-DoWhile : goal.open-returns-in-DoWhile
open-returns-in-DoWhile t c =
    IfOk-weaker c.open_do.result _ _
    (λ g h. do_arm (statement_of c.args.statement.now) (statement_of c.in-DoWhile.body.value) (statement_of c.in-DoWhile.condition.value) (work_of c.args.work.now.items) _ g
    (ap statement_of c.in-DoWhile.is) h)
    c.open_do.ensures

pub open-returns-in-For : goal.open-returns-in-For
open-returns-in-For t c =
    IfOk-weaker c.open_for.result _ _
    (λ g h. for_arm (statement_of c.args.statement.now) (statement_of c.in-For.first.value) (statement_of c.deref-in-For.result.now) (statement_of c.in-For.condition.value)
    (statement_of c.in-For.last.value) (statement_of c.in-For.body.value) (work_of c.args.work.now.items) _ g (ap statement_of c.in-For.is)
    (ap statement_of (sym c.deref-in-For.ensures)) h)
    c.open_for.ensures
