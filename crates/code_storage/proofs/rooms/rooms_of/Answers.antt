use Rattle.std.proofs.Common.{◌+◌, ◌∙◌, ap, length, map, subst}
use Rattle.std.proofs.lemmas.Result.{err_from_is_err_and}
use Rattle.c_program.specs.Plain.{function_of, program_of}
use Rattle.code_blocks.specs.Room.{IsFull}
use Rattle.code_storage.specs.Locals.{ArePlaced, all_locals, prints}
use Rattle.code_storage.specs.Names.{variable_names}
use Rattle.code_storage.specs.Reaching.{marks_of, with_marks}
use Rattle.code_storage.proofs.Housed.{housed, named, housed_full}
use Rattle.code_storage.proofs.rooms.rooms_of.Goals as goal

pub returns-in_err-rooms-clause-full : goal.returns-in_err-rooms-clause-full
returns-in_err-rooms-clause-full c =
    let p = err_from_is_err_and c.from_residual-in_err-rooms.result c.from_residual-in_err-rooms.ensures.1 in
    let fs = ap (map function_of) c.as_slice-functions.ensures.value in
    rw (p.1, p.2) (λ resolved.
    housed_full (program_of c.args.program.now) c.args.root _
    (subst (λ xs. IsFull (length (all_locals (with_marks (marks_of xs c.args.root) xs)) + prints xs) c.in_err-rooms.field-0.0) fs
    (subst (λ marks. IsFull (length (all_locals (with_marks marks (map function_of c.as_slice-functions.result.now))) + prints
    (map function_of c.as_slice-functions.result.now)) c.in_err-rooms.field-0.0)
    (c.as_slice-2.ensures ∙ c.in_ok-marks.ensures) c.in_err-rooms.ensures.full)) resolved)

pub returns-clause-housing : goal.returns-clause-housing
returns-clause-housing c =
    let fs = ap (map function_of) c.as_slice-functions.ensures.value in
    λ resolved.
    housed (program_of c.args.program.now) c.args.root resolved c.in_ok-rooms.rooms
    (subst (λ xs. ArePlaced (with_marks (marks_of xs c.args.root) xs) c.in_ok-rooms.rooms) fs
    (subst (λ marks. ArePlaced (with_marks marks (map function_of c.as_slice-functions.result.now)) c.in_ok-rooms.rooms)
    (c.as_slice-2.ensures ∙ c.in_ok-marks.ensures) c.in_ok-rooms.ensures.placed))

pub returns-clause-names : goal.returns-clause-names
returns-clause-names c =
    let fs = ap (map function_of) c.as_slice-functions.ensures.value in
    λ resolved.
    named (program_of c.args.program.now) c.args.root resolved c.in_ok-rooms.rooms
    (subst (λ xs. ArePlaced (with_marks (marks_of xs c.args.root) xs) c.in_ok-rooms.rooms) fs
    (subst (λ marks. ArePlaced (with_marks marks (map function_of c.as_slice-functions.result.now)) c.in_ok-rooms.rooms)
    (c.as_slice-2.ensures ∙ c.in_ok-marks.ensures) c.in_ok-rooms.ensures.placed))
    _
    (c.in_ok-names.ensures
    ∙ ap (λ marks. variable_names (with_marks marks (map function_of c.as_slice-functions.result.now))) (c.as_slice.ensures ∙ c.in_ok-marks.ensures)
    ∙ ap (λ xs. variable_names (with_marks (marks_of xs c.args.root) xs)) fs)
