use Rattle.std.proofs.Common.{map, sym, ap, ◌∙◌}
use Rattle.c_program.specs.Plain.{function_of}
use Rattle.code_storage.specs.Reaching.{has}
use Rattle.code_storage.proofs.Reached.{marks_end}
use Rattle.code_storage.proofs.reaching.+mark_from.Goals as goal

pub returns : goal.returns
returns t c =
    marks_end (map function_of c.args.functions.now) c.args.depth c.args.number c.args.marks.now c.loop-callee.marks c.mark.new.marks c.as_slice-callee-items.result.now c.loop-callee.callee-index
    c.if-depth-eq0.false (ap (λ m. has m c.args.number) (sym c.as_slice.ensures) ∙ sym c.has.ensures ∙ c.if-has.false) (c.as_slice-callee-items.ensures.value ∙ c.in_ok-calls.ensures)
    c.loop-callee.invariant c.loop-callee-test.false c.mark.ensures
