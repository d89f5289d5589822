use Rattle.std.proofs.Common.{◌++◌, [], ◌∷◌, map, take, refl, sym, subst}
use Rattle.std.proofs.lemmas.Result.{err_from_is_err_and}
use Rattle.std.proofs.lemmas.List.{take_all}
use Rattle.c_program.specs.Plain.{function_of}
use Rattle.code_storage.specs.Reaching.{kept, with_marks}
use Rattle.code_storage.specs.Locals.{ArePlaced}
use Rattle.code_storage.proofs.RoomsFull.{rooms_next, rooms_full}
use Rattle.code_storage.proofs.rooms.place_functions.Goals as goal

pub loop-number-init : goal.loop-number-init
loop-number-init c = record { rooms = c.new.ensures; houses = record { variables = c.new-2.ensures; arrays = c.new-3.ensures }; sites = refl }

pub loop-number-preserved : goal.loop-number-preserved
loop-number-preserved c =
    let marks = c.args.marks.now in
    let fs = c.args.functions.now in
    let i = c.loop-number.number in
    let f = c.index-functions-number.result in
    subst (λ gs. ArePlaced gs c.add.new.self) (sym (rooms_next marks fs i f c.loop-number-test.true c.index-functions-number.is))
    (subst (λ b. ArePlaced (with_marks marks (map function_of (take i fs)) ++ kept b (function_of f) ∷ []) c.add.new.self) c.has.ensures
    (c.in_ok-add.ensures.placed (with_marks marks (map function_of (take i fs))) c.loop-number.invariant))

pub returns-clause-placed : goal.returns-clause-placed
returns-clause-placed c =
    subst (λ xs. ArePlaced (with_marks c.args.marks.now (map function_of xs)) c.loop-number.rooms)
    (take_all c.loop-number.number c.args.functions.now c.loop-number-test.false) c.loop-number.invariant

pub returns-in_err-add-clause-full : goal.returns-in_err-add-clause-full
returns-in_err-add-clause-full c =
    let p = err_from_is_err_and c.from_residual.result c.from_residual.ensures.1 in
    rw (p.1, p.2)
    (rooms_full c.args.marks.now c.args.functions.now c.loop-number.number c.index-functions-number.result c.loop-number.rooms c.has.result _ c.loop-number-test.true c.index-functions-number.is
    c.has.ensures c.loop-number.invariant
    (c.in_err-add.ensures.full (with_marks c.args.marks.now (map function_of (take c.loop-number.number c.args.functions.now))) c.loop-number.invariant))
