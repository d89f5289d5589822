use Rattle.std.proofs.Common.{◌++◌, map, take, sym, ap, ◌∙◌}
use Rattle.std.specs.Prelude.{string_bytes}
use Rattle.c_program.specs.Plain.{function_of}
use Rattle.code_storage.specs.Names.{scalar_names, variable_names}
use Rattle.code_storage.specs.Reaching.{has, kept, with_marks}
use Rattle.code_storage.proofs.Names.{kept_names, names_more}
use Rattle.code_storage.proofs.RoomsFull.{rooms_next}
use Rattle.code_storage.proofs.naming.names_of.Goals as goal

pub loop-number-preserved : goal.loop-number-preserved
loop-number-preserved c =
    let marks = c.args.marks.now in
    let fs = c.args.functions.now in
    let i = c.loop-number.number in
    let f = function_of c.index-functions-number.result in
    let before = with_marks marks (map function_of (take i fs)) in
    c.in_ok-push_names.ensures
    ∙ ap (λ l. l ++ scalar_names c.kept_locals-locals.result.now (map string_bytes c.deref.result.now)) c.loop-number.invariant
    ∙ ap (λ ls. variable_names before ++ scalar_names ls (map string_bytes c.deref.result.now)) (c.kept_locals-locals.ensures ∙ ap (λ b. (kept b f).locals) c.has.ensures)
    ∙ ap (λ names. variable_names before ++ scalar_names (kept (has marks i) f).locals names)
    (ap (map string_bytes) c.deref.ensures.value ∙ sym (kept_names (has marks i) f))
    ∙ sym (names_more before (kept (has marks i) f))
    ∙ ap variable_names (sym (rooms_next marks fs i c.index-functions-number.result c.loop-number-test.true c.index-functions-number.is))
