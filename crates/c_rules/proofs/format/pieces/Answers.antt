use Rattle.std.proofs.Common.{◌≡◌, ◌≢◌, length, arith}
use Rattle.std.proofs.lemmas.Grind.{common_steps}
use Rattle.c_program.specs.Plain.{pieces_of}
use Rattle.c_rules.specs.Formats.{Draft, pieces_in}
use Rattle.c_rules.proofs.FormatLemmas.{next_of, end_of, stuck_of, rest_of}
use Rattle.c_rules.proofs.format.pieces.Goals as goal

pub returns-then-is_empty : goal.returns-then-is_empty
returns-then-is_empty c =
    let draft : Draft = (pieces_of c.loop-turn.pieces.items, c.loop-turn.text.items) in
    let none : length c.loop-turn.left.now ≡ 0 = grind (arith, common_steps) in
    let whole = end_of _ draft c.loop-turn.left.now (pieces_in c.args.format.now) none c.loop-turn.invariant in
    rw whole c.finished.ensures

pub returns-in_default : goal.returns-in_default
returns-in_default c =
    let draft : Draft = (pieces_of c.loop-turn.pieces.items, c.loop-turn.text.items) in
    let some : length c.loop-turn.left.now ≢ 0 = grind (arith, common_steps) in
    stuck_of _ draft c.loop-turn.left.now (pieces_in c.args.format.now) some c.in_default.ensures c.loop-turn.invariant

pub loop-turn-preserved : goal.loop-turn-preserved
loop-turn-preserved c =
    let draft : Draft = (pieces_of c.loop-turn.pieces.items, c.loop-turn.text.items) in
    let some : length c.loop-turn.left.now ≢ 0 = grind (arith, common_steps) in
    next_of _ _ draft _ c.loop-turn.left.now c.in-Some.rest.now c.in-Some.part (pieces_in c.args.format.now) c.loop-turn-test.true some c.in-Some.ensures c.in_ok-add.ensures c.loop-turn.invariant

pub returns-then-is_empty-2 : goal.returns-then-is_empty-2
returns-then-is_empty-2 c =
    let draft : Draft = (pieces_of c.loop-turn.pieces.items, c.loop-turn.text.items) in
    let none : length c.loop-turn.left.now ≡ 0 = grind (arith, common_steps) in
    let whole = end_of _ draft c.loop-turn.left.now (pieces_in c.args.format.now) none c.loop-turn.invariant in
    rw whole c.finished-then-is_empty-2.ensures

pub returns-else-is_empty-2 : goal.returns-else-is_empty-2
returns-else-is_empty-2 c =
    let draft : Draft = (pieces_of c.loop-turn.pieces.items, c.loop-turn.text.items) in
    let some : length c.loop-turn.left.now ≢ 0 = grind (arith, common_steps) in
    rest_of _ _ draft c.loop-turn.left.now (pieces_in c.args.format.now) c.loop-turn-test.false some c.loop-turn.invariant
