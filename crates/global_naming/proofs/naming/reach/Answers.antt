-- The calls are those of the first functions.
use Rattle.std.proofs.Common.{◌≡◌, sym, ap, ◌∙◌, map, length}
use Rattle.std.proofs.lemmas.List.{take_all, length-map}
use Rattle.c_program.specs.Plain.{function_of}
use Rattle.global_naming.specs.Tables.{calls_from}
use Rattle.global_naming.proofs.Calls.{calls_next}
use Rattle.global_naming.proofs.naming.reach.Goals as goal

pub loop-caller-preserved : goal.loop-caller-preserved
loop-caller-preserved c =
    calls_next c.args.program.now.functions.items c.loop-caller.caller _ c.function-item.result c.loop-caller.calls.items _
    (rw c.deref-function-items.ensures.value at c.loop-caller-test.true) (rw c.deref-function-items.ensures.value at c.function-item.is)
    c.loop-caller.invariant c.in_ok-push_calls_from.ensures

pub returns : goal.returns
returns c =
    let fs = c.args.program.now.functions.items in
    let all = take_all c.loop-caller.caller fs (rw c.deref-function-items.ensures.value at c.loop-caller-test.false) in
    let calls : c.deref.result.now ≡ calls_from (map function_of fs) = c.deref.ensures.value ∙ c.loop-caller.invariant ∙ ap (λ xs. calls_from (map function_of xs)) all in
    let count : c.len.result ≡ length (map function_of fs) = c.len.ensures ∙ c.args.program.now.functions.ok.0 ∙ sym (length-map fs function_of) in
    rw (count, calls) at c.reach_of.ensures
