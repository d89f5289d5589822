use Rattle.std.proofs.Common.{◌≡◌, List, [], ◌∷◌, ◌∙◌, refl, sym, ap, drop, get_or, length, rules, arith, None}
use Rattle.std.proofs.lemmas.Grind.{common_steps}
use Rattle.std.proofs.lemmas.Result.{IfOk-weaker}
use Rattle.c_program.specs.Plain.{program_of}
use Rattle.thread_semantics.specs.Move.{returned, work_move}
use Rattle.c_evaluation.specs.declared.work.Item.{Item}
use Rattle.c_evaluation.specs.View.{item_of, work_of}
use Rattle.c_state.specs.View.{frame_of, memory_in}
use Rattle.c_step_parts.specs.Plan.{erased}
use Rattle.c_step_parts.proofs.plan.call_plan.Goals as goal

work_is : (items : List Item) (first : Item) → items ≡ first ∷ drop 1 items → work_of items ≡ item_of first ∷ drop 1 (work_of items)
work_is [] first e = absurd (let none : 0 ≡ 1 = ap length e in omega arith)
work_is (item ∷ rest) first e = ap (λ items. item_of (get_or items 0 first) ∷ work_of rest) e

none_is : (items : List Item) → length items ≡ 0 → items ≡ []
none_is [] e = refl
none_is (item ∷ rest) e = absurd (omega (arith, e))

pub returns-in-Some : goal.returns-in-Some
returns-in-Some c =
    let P = program_of c.args.program.now in
    let m = memory_in c.args.frame.now c.args.globals.now in
    let f = frame_of c.args.frame.now in
    let items = c.args.frame.now.work.items in
    let first : items ≡ c.in-Some.item.now ∷ drop 1 items = search rules in
    IfOk-weaker c.item_plan.result _ _
    (λ plan h fs. h fs ∙ ap (λ work. erased (work_move P m f fs work)) (sym (work_is items c.in-Some.item.now first)))
    c.item_plan.ensures

pub returns-in-None : goal.returns-in-None
returns-in-None c fs =
    let P = program_of c.args.program.now in
    let m = memory_in c.args.frame.now c.args.globals.now in
    let f = frame_of c.args.frame.now in
    let none : length c.args.frame.now.work.items ≡ 0 = grind (arith, common_steps) in
    ap (λ n. erased (returned P n None [] f fs)) c.end_of.ensures ∙ ap (λ items. erased (work_move P m f fs (work_of items))) (sym (none_is c.args.frame.now.work.items none))
