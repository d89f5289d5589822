use Rattle.std.proofs.Common.{rules, arith}
use Rattle.std.proofs.lemmas.Grind.{common_steps}
use Rattle.grammar.specs.Readers.{reads_while, sees_all, appended}
use Rattle.c_reading.specs.Tokens.{read_next}
use Rattle.c_reading.specs.Declarations.{next_initial_ahead, read_braced, read_initial, read_initials, read_single}
use Rattle.grammar.proofs.Turns.{one_more, no_more}
use Rattle.c_parser.proofs.Initials.{initial_none, initial_above}
use Rattle.c_parser.proofs.declarations.+initials.Goals as goal

pub initials-loop-turn-init : goal.initials-loop-turn-init
unfolding read_initials
initials-loop-turn-init t c = first_of (search rules, grind (arith, common_steps))

pub initials-returns : goal.initials-returns
unfolding reads_while
initials-returns t c =
    let e = no_more (λ n. reads_while (sees_all next_initial_ahead) appended
    (read_next (read_initial c.args.room)) n c.loop-turn.found c.loop-turn.cursor) _ c.loop-turn._turn c.loop-turn-test.false c.loop-turn.invariant in
    first_of (search rules, grind (arith, common_steps))

pub initials-returns-then-not-begins_next_initial : goal.initials-returns-then-not-begins_next_initial
unfolding reads_while
initials-returns-then-not-begins_next_initial t c =
    let e = one_more (λ n. reads_while (sees_all next_initial_ahead) appended
    (read_next (read_initial c.args.room)) n c.loop-turn.found c.loop-turn.cursor) _ c.loop-turn._turn c.loop-turn-test.true c.loop-turn.invariant in
    first_of (search rules, grind (arith, common_steps))

pub initials-returns-in_err-mark : goal.initials-returns-in_err-mark
unfolding reads_while read_next
initials-returns-in_err-mark t c =
    let e = one_more (λ n. reads_while (sees_all next_initial_ahead) appended
    (read_next (read_initial c.args.room)) n c.loop-turn.found c.loop-turn.cursor) _ c.loop-turn._turn c.loop-turn-test.true c.loop-turn.invariant in
    first_of (search rules, grind (arith, common_steps))

pub initials-returns-in_err-initial : goal.initials-returns-in_err-initial
unfolding reads_while read_next
initials-returns-in_err-initial t c =
    let e = one_more (λ n. reads_while (sees_all next_initial_ahead) appended
    (read_next (read_initial c.args.room)) n c.loop-turn.found c.loop-turn.cursor) _ c.loop-turn._turn c.loop-turn-test.true c.loop-turn.invariant in
    first_of (search rules, grind (arith, common_steps))

pub initials-loop-turn-preserved : goal.initials-loop-turn-preserved
unfolding reads_while read_next
initials-loop-turn-preserved t c =
    let e = one_more (λ n. reads_while (sees_all next_initial_ahead) appended
    (read_next (read_initial c.args.room)) n c.loop-turn.found c.loop-turn.cursor) _ c.loop-turn._turn c.loop-turn-test.true c.loop-turn.invariant in
    first_of (search rules, grind (arith, common_steps))

pub initial-returns-then-room-eq0 : goal.initial-returns-then-room-eq0
initial-returns-then-room-eq0 t c =
    let e = initial_none c.args.room (omega arith) c.args.cursor.now in
    first_of (search rules, grind (arith, common_steps))

pub initial-returns-in_ok-found : goal.initial-returns-in_ok-found
unfolding read_braced
initial-returns-in_ok-found t c =
    let e = initial_above c.args.room (omega arith) c.args.cursor.now in
    first_of (search rules, grind (arith, common_steps))

pub initial-returns-in_ok-value : goal.initial-returns-in_ok-value
unfolding read_single
initial-returns-in_ok-value t c =
    let e = initial_above c.args.room (omega arith) c.args.cursor.now in
    first_of (search rules, grind (arith, common_steps))

pub initial-returns-in_err-found : goal.initial-returns-in_err-found
unfolding read_braced
initial-returns-in_err-found t c =
    let e = initial_above c.args.room (omega arith) c.args.cursor.now in
    first_of (search rules, grind (arith, common_steps))

pub initial-returns-in_err-value : goal.initial-returns-in_err-value
unfolding read_single
initial-returns-in_err-value t c =
    let e = initial_above c.args.room (omega arith) c.args.cursor.now in
    first_of (search rules, grind (arith, common_steps))
