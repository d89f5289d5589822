use Rattle.std.proofs.Common.{◌≡◌, ◌+◌, ◌-◌, ◌*◌, ◌≤◌, List, [], ◌∷◌, length, get_or, take, drop, refl, ap, ◌∙◌, arith}
use Rattle.std.proofs.lemmas.Result.{IfErr-weaker, IfOk-weaker, err_from_is_err_and}
use Rattle.std.proofs.lemmas.List.Sums.{sum_by-cons}
use Rattle.hls_ints.specs.Types.{IntegerType}
use Rattle.c_program.specs.declared.tree.Expression.{Expression as ExpressionTree}
use Rattle.c_program.specs.Plain.{expression_of, expressions_of}
use Rattle.c_program.specs.Weight.{expression_weight, expressions_weight, arguments_weight}
use Rattle.block_ir.specs.declared.operand.Operand.{Operand}
use Rattle.code_blocks.specs.declared.fault.LoweringFault.{LoweringFault}
use Rattle.code_blocks.specs.declared.homes.Home.{Home}
use Rattle.code_blocks.specs.declared.homes.Home.TheVariants as home
use Rattle.code_blocks.specs.declared.open_block.OpenBlock.{OpenBlock}
use Rattle.code_blocks.specs.Evaluating.{Evaluates}
use Rattle.code_blocks.specs.Passing.{PutsThere}
use Rattle.code_blocks.specs.Room.{IsFull}
use Rattle.code_blocks.proofs.Puts.{rest_is}
use Rattle.code_blocks.proofs.Arguments.{arguments_end, room_ends, locals_end, one_more, one_more_works}
use Rattle.code_blocks.proofs.passing.+pass_arguments.Goals as goal

-- what the first argument needs, where it does not fit
first_needs : (e : ExpressionTree) (trees : List ExpressionTree) (b : OpenBlock) (fault : LoweringFault) → 1 ≤ length trees → e ≡ get_or trees 0 e →
    IsFull (length b.operations + (3 * expression_weight (expression_of e) + 1)) fault → IsFull (length b.operations + 3 * arguments_weight (expressions_of trees)) fault
first_needs e [] b fault some is full = absurd (omega arith)
first_needs e (e0 ∷ trees) b fault some is full = λ large.
    let h = full large in
    let w : expression_weight (expression_of e) ≡ expression_weight (expression_of e0) = ap (λ z. expression_weight (expression_of z)) is in
    let sum : expressions_weight (expressions_of (e0 ∷ trees)) ≡ expression_weight (expression_of e0) + expressions_weight (expressions_of trees) =
    sum_by-cons expression_weight (expression_of e0) (expressions_of trees) in
    omega (arith, h, w, sum)

put_operations : (h : Home) (ty : IntegerType) (a : Operand) (old new : OpenBlock) → PutsThere h ty a old new → new.operations ≡ old.operations
put_operations (home.Variable n) ty a old new p = p.operations
put_operations (home.Array n) ty a old new p = ap (λ (z : OpenBlock). z.operations) p

-- what the other arguments need, where they do not fit
rest_needs : (homes room : List Home) (h other : Home) (ty : IntegerType) (e : ExpressionTree) (trees trees' : List ExpressionTree) (old mid put : OpenBlock) (a : Operand) (fault : LoweringFault) →
    1 ≤ length trees → e ≡ get_or trees 0 e → trees' ≡ take (length trees - 1) (drop 1 trees) → h ≡ get_or room 0 other →
    Evaluates homes (expression_of e) old mid a → PutsThere h ty a mid put →
    IsFull (length put.operations + 3 * arguments_weight (expressions_of trees')) fault → IsFull (length old.operations + 3 * arguments_weight (expressions_of trees)) fault
rest_needs homes room h other ty e [] trees' old mid put a fault some is rest place first puts full = absurd (omega arith)
rest_needs homes room h other ty e (e0 ∷ trees) trees' old mid put a fault some is rest place first puts full = λ large.
    let l = full large in
    let w : expression_weight (expression_of e) ≡ expression_weight (expression_of e0) = ap (λ z. expression_weight (expression_of z)) is in
    let r : arguments_weight (expressions_of trees') ≡ arguments_weight (expressions_of trees) = ap (λ z. arguments_weight (expressions_of z)) (rest ∙ rest_is e0 trees) in
    let o : length put.operations ≡ length mid.operations = ap length (put_operations h ty a mid put puts) in
    let n = first.computes.count in
    let sum : expressions_weight (expressions_of (e0 ∷ trees)) ≡ expression_weight (expression_of e0) + expressions_weight (expressions_of trees) =
    sum_by-cons expression_weight (expression_of e0) (expressions_of trees) in
    omega (arith, l, w, r, o, n, sum)

pub returns-in_default-clause-passes : goal.returns-in_default-clause-passes
returns-in_default-clause-passes t c = arguments_end c.args.homes.now c.args.room.now c.args.locals.now c.args.arguments.now c.args.block.now c.in_default.len_below

pub returns-in_default-room-clause-passes : goal.returns-in_default-room-clause-passes
returns-in_default-room-clause-passes t c =
    room_ends c.args.homes.now c.args.room.now c.args.locals.now c.args.arguments.now c.args.block.now c.in-len1-up.len_at_least c.in_default-room.len_below

pub returns-in_default-locals-clause-passes : goal.returns-in_default-locals-clause-passes
returns-in_default-locals-clause-passes t c =
    locals_end c.args.homes.now c.args.room.now c.args.locals.now c.args.arguments.now c.args.block.now c.in-len1-up.len_at_least c.in_default-locals.len_below

pub returns-clause-passes : goal.returns-clause-passes
returns-clause-passes t c =
    IfOk-weaker c.pass_arguments.result _ _
    (λ _ rest.
    one_more c.args.homes.now c.args.room.now _ c.args.locals.now _ c.args.arguments.now _ _ _ c.local-item.result c.argument-item.result c.args.block.now
    c.lower_expression.new.block c.put_there.new.block c.pass_arguments.new.block c.in_ok-value.value c.in-len1-up.len_at_least c.in-len1-up-room.len_at_least c.in-len1-up-locals.len_at_least
    c.argument-item.is refl c.local-item.is refl refl refl c.in_ok-value.ensures.value c.in_ok-put_there.ensures rest)
    c.pass_arguments.ensures.passes

pub returns-clause-typed : goal.returns-clause-typed
returns-clause-typed t c =
    IfOk-weaker c.pass_arguments.result _ _
    (λ _ rest.
    one_more_works c.args.homes.now c.args.room.now _ c.args.locals.now _ c.args.arguments.now _ _ _ c.local-item.result c.argument-item.result c.args.block.now
    c.lower_expression.new.block c.put_there.new.block c.pass_arguments.new.block c.in_ok-value.value c.in-len1-up.len_at_least c.in-len1-up-room.len_at_least c.in-len1-up-locals.len_at_least
    c.argument-item.is refl c.local-item.is refl refl refl c.in_ok-value.ensures.value c.in_ok-put_there.ensures rest)
    c.pass_arguments.ensures.typed

pub returns-in_default-clause-full : goal.returns-in_default-clause-full
returns-in_default-clause-full t c = tt

pub returns-in_default-room-clause-full : goal.returns-in_default-room-clause-full
returns-in_default-room-clause-full t c = tt

pub returns-in_default-locals-clause-full : goal.returns-in_default-locals-clause-full
returns-in_default-locals-clause-full t c = tt

pub returns-clause-full : goal.returns-clause-full
returns-clause-full t c =
    IfErr-weaker c.pass_arguments.result _ _
    (λ fault.
    rest_needs c.args.homes.now c.args.room.now _ _ c.local-item.result.ty c.argument-item.result c.args.arguments.now _ c.args.block.now c.lower_expression.new.block c.put_there.new.block
    c.in_ok-value.value fault c.in-len1-up.len_at_least c.argument-item.is refl refl c.in_ok-value.ensures.value c.in_ok-put_there.ensures)
    c.pass_arguments.ensures.full

pub returns-in_err-value-clause-passes : goal.returns-in_err-value-clause-passes
returns-in_err-value-clause-passes t c =
    let p = err_from_is_err_and c.from_residual.result c.from_residual.ensures.1 in
    rw p.1 tt

pub returns-in_err-value-clause-typed : goal.returns-in_err-value-clause-typed
returns-in_err-value-clause-typed t c =
    let p = err_from_is_err_and c.from_residual.result c.from_residual.ensures.1 in
    rw p.1 tt

pub returns-in_err-put_there-clause-passes : goal.returns-in_err-put_there-clause-passes
returns-in_err-put_there-clause-passes t c =
    let p = err_from_is_err_and c.from_residual-in_err-put_there.result c.from_residual-in_err-put_there.ensures.1 in
    rw p.1 tt

pub returns-in_err-put_there-clause-typed : goal.returns-in_err-put_there-clause-typed
returns-in_err-put_there-clause-typed t c =
    let p = err_from_is_err_and c.from_residual-in_err-put_there.result c.from_residual-in_err-put_there.ensures.1 in
    rw p.1 tt

pub returns-in_err-put_there-clause-full : goal.returns-in_err-put_there-clause-full
returns-in_err-put_there-clause-full t c =
    let p = err_from_is_err_and c.from_residual-in_err-put_there.result c.from_residual-in_err-put_there.ensures.1 in
    rw (p.1, p.2) (λ is. cc)

pub returns-in_err-value-clause-full : goal.returns-in_err-value-clause-full
returns-in_err-value-clause-full t c =
    let p = err_from_is_err_and c.from_residual.result c.from_residual.ensures.1 in
    rw (p.1, p.2) (first_needs c.argument-item.result c.args.arguments.now c.args.block.now _ c.in-len1-up.len_at_least c.argument-item.is c.in_err-value.ensures.full)
