-- What statements and blocks give.
use Rattle.std.proofs.Common.{◌≡◌, refl, sym, ap, subst, ℕ, ◌<◌, ◌≤◌, Bool, true, false, ℤ, List, [], ◌∷◌, ◌++◌, map, length, Option, Some, None, arith}
use Rattle.std.specs.Prelude.{◌+◌, ◌-◌, min, nat_eq, IsTrue, ⊤}
use Rattle.std.specs.List.{AllByRecursion}
use Rattle.std.proofs.lemmas.Bool.{both_ways}
use Rattle.lists.proofs.Places.{all_back, all_front, in_none}
use denote.Hole.Holds.{Such}
use Rattle.c_tree.specs.declared.expression.Expression.{Expression as ExpressionTree, out-Expression}
use Rattle.c_tree.specs.declared.statement.SimpleStatement.{SimpleStatement}
use Rattle.c_tree.specs.declared.statement.ForStart.{ForStart}
use Rattle.c_tree.specs.declared.statement.ForStart.TheVariants as start
use Rattle.c_tree.specs.declared.statement.Block.{Block as BlockTree, roll-Block}
use Rattle.c_tree.specs.declared.statement.BlockItem.{BlockItem as BlockItemTree, roll-BlockItem}
use Rattle.c_tree.specs.declared.statement.CaseLabel.{CaseLabel}
use Rattle.c_tree.specs.declared.statement.Group.{Group as GroupTree, roll-Group}
use Rattle.c_tree.specs.declared.statement.Statement.{Statement as StatementTree, roll-Statement}
use Rattle.c_tree.specs.declared.statement.BlockItem.TheOpen.{Block-F, BlockItem-F, Group-F, Statement-F}
use Rattle.c_tree.specs.declared.statement.BlockItem.TheBlock.{the_family, member-BlockItem, member-Statement, member-Block, member-Group}
use Rattle.c_tree.specs.declared.statement.BlockItem.TheFolds.{claims, map-BlockItem, map-Statement, map-Block, map-Group, fold-BlockItem, fold-Statement, fold-Group}
use Rattle.c_tree.specs.declared.statement.BlockItem.TheFolds.{fold-roll-BlockItem, fold-roll-Statement, fold-roll-Block, fold-roll-Group, ind-Block}
use Rattle.hls_ints.specs.Types.{IntegerType, promoted, wrapped}
use Rattle.hls_ints.proofs.Conversions.{wrapped-range}
use Rattle.c_program.specs.Tree.{Expression, Statement, Function, Program}
use Rattle.c_program.specs.Types.{type_of}
use Rattle.c_program.specs.Weight.{statement_weight}
use Rattle.c_program.specs.Resolved as r
use Rattle.c_rules.specs.declared.fault.Rule.TheVariants as rule
use Rattle.c_rules.specs.declared.findings.Findings.{Findings}
use Rattle.c_rules.specs.Names.{opened, closed}
use Rattle.c_rules.specs.declared.constants.Constancy.{Constancy}
use Rattle.c_rules.specs.declared.constants.Constancy.TheVariants as is
use Rattle.c_rules.specs.declared.names.Scope.{Scope}
use Rattle.c_rules.specs.Cases.{stands, noted}
use Rattle.c_rules.specs.Constants.{constancy, operator_count}
use Rattle.c_rules.specs.Walks.{pure, finds, finds_if, through, place_in_tree, ◌>>=◌, ◌>>◌}
use Rattle.c_expressions.specs.Cuts.{Cut, free_from}
use Rattle.c_expressions.specs.Expressions.{condition, looked, value}
use Rattle.c_expressions.specs.Sequences.{sequence}
use Rattle.c_resolution.specs.Simple.{simple, returned, check_break, check_continue}
use Rattle.c_resolution.specs.Locals.{declaration}
use Rattle.c_resolution.specs.States.{state, Goes, finding, scoping}
use Rattle.c_resolution.specs.Statements as y
use Rattle.c_resolution.specs.Statements.{Adds, Groups, item_step, statement_step, block_step, group_step, item, statement, items, group}
use Rattle.c_resolved_program.specs.Leaves.{Leaves, AreValid, all_of, of_any, expression_leaves, simple_leaves, start_leaves}
use Rattle.c_resolved_program.specs.Leaves.{item_layer, statement_layer, block_layer, group_layer, label_leaves, block_leaves}
use Rattle.c_resolved_program.specs.Orders.{left, given, around, IsInOrder, IsAsked, IsAhead, IsOrderly, IsPointerAt, IsFoundCreation, Holds, GivesRoutines}
use Rattle.c_resolved_program.proofs.Walks.{Shows, shows_pure, shows_then, shows_as, shows_broken, shows_if, turn, all_more}
use Rattle.c_resolved_program.proofs.Cuts as u
use Rattle.c_resolved_program.proofs.Behind as k
use Rattle.c_resolved_program.proofs.Trees.{condition_shows, looked_shows, value_shows}
use Rattle.c_resolved_program.proofs.Simple.{simple_shows, returned_shows}
use Rattle.c_resolved_program.proofs.Steps.{Does, does_pure, does_then, does_as, does_finding, does_finding_in, does_opened, does_closed, does_through}
use Rattle.c_resolved_program.proofs.Globals.{zero_is}
use Rattle.c_resolved_program.proofs.Locals.{declaration_does}
use Rattle.c_resolved_program.proofs.BodyScope as m
use Rattle.c_resolved_program.proofs.Sequences as q

-- leaves by their layers
abbrev pub item_leaves : BlockItemTree → Leaves
item_leaves = fold-BlockItem Leaves Leaves Leaves Leaves item_layer statement_layer block_layer group_layer

abbrev pub group_leaves : GroupTree → Leaves
group_leaves = fold-Group Leaves Leaves Leaves Leaves item_layer statement_layer block_layer group_layer

abbrev pub statement_leaves : StatementTree → Leaves
statement_leaves = fold-Statement Leaves Leaves Leaves Leaves item_layer statement_layer block_layer group_layer

-- no break stands outside of loops and switches, and no continue outside of loops
jump_is : (b : Bool) (loops : ℕ) → (b ≡ false → loops ≡ 0) → nat_eq loops 0 ≡ false → IsTrue b
jump_is true loops none some = refl
jump_is false loops none some = absurd (both_ways (nat_eq loops 0) some (ap (λ n. nat_eq n 0) (none refl)))

-- a scope out of a loop's body, or out of that of a switch
out_of_body : (b : Bool) (n m : ℕ) → m ≤ min (n + 1) 0xffff_ffff_ffff_ffff → (b ≡ false → n ≡ 0) → b ≡ false → m - 1 ≡ 0
out_of_body b n m le none is = let zero_is : n ≡ 0 = none is in grind arith

none_inside : (b : Bool) (n m : ℕ) → m ≤ n → (b ≡ false → n ≡ 0) → b ≡ false → m ≡ 0
none_inside b n m le none is = let zero_is : n ≡ 0 = none is in omega (arith, le, zero_is)

module _ (whole : Findings) (P : Program) (number : ℕ) (f : Function) (given_routines : GivesRoutines whole P) (small : f.declared_locals < 0xffff_ffff) where
  abbrev InOrder : r.Around → Statement → Type 0
  InOrder b x = IsInOrder whole P number f b x

  abbrev AsCondition : Statement → Type 0
  AsCondition c = IsAsked whole P number f f.declared_locals c

  abbrev All : r.Around → List Statement → Type 0
  All b xs = AllByRecursion (InOrder b) xs

  -- ---- parts

  -- a condition at the place of its statement
  condition_shows_here : (s : Scope) (e : ExpressionTree) → AreValid (expression_leaves e) → Shows whole (IsOrderly P number f s) AsCondition (condition s e s.kept_from)
  condition_shows_here s e valid =
      shows_as (condition s e s.kept_from) (λ now. (now, (let first = now.kept.first in omega (arith, first)))) (λ c now is. subst (λ n. IsAsked whole P number f n c) now.kept.first is)
      (condition_shows whole P number f small s e valid s.kept_from)

  condition_does : (b : r.Around) {Before : Type 0} (e : ExpressionTree) → AreValid (expression_leaves e) →
      Does whole P number f b Before AsCondition (finding (λ s. condition s e s.kept_from))
  condition_does b e valid = does_finding (λ s. condition s e s.kept_from) (λ s. shows_as (condition s e s.kept_from) (λ c. c.1) (λ _ _ is. is) (condition_shows_here s e valid))

  simple_does : (b kind : r.Around) {Before : Type 0} (x : SimpleStatement) → AreValid (simple_leaves x) → Does whole P number f b Before (InOrder kind) (finding (λ s. simple s x))
  simple_does b kind x valid = does_finding (λ s. simple s x) (λ s. shows_as (simple s x) (λ c. c.1) (λ _ _ is. is) (simple_shows whole P number f small s given_routines kind x valid))

  loop_body_does : (b : r.Around) {Before : Type 0} (body : Goes Statement) → m.IsStaying body → Does whole P number f r.in_loop ⊤ (InOrder r.in_loop) body →
      Does whole P number f b Before (InOrder r.in_loop) (y.loop_body body)
  unfolding y.loop_body
  loop_body_does b body stays h =
      let out = λ (x : Statement). scoping y.shallower >> pure x in
      record {
        back = λ x ahead.
            let inside = state (y.deeper x.scope) x.found in
            let a = subst (λ o. IsAhead whole f (left o)) (turn (body inside) out) ahead in
            let behind = h.back inside (record { found = a.found; locals = a.locals }) in
            record { found = behind.found; locals = behind.locals };
        forth = λ x ahead before holds.
            let inside = state (y.deeper x.scope) x.found in
            let a = subst (λ o. IsAhead whole f (left o)) (turn (body inside) out) ahead in
            let order = holds.orderly in
            let deep : Holds P number f r.in_loop inside = record {
              orderly = record { inner = order.inner; outer = order.outer; headers = order.headers; function = order.function; gives = order.gives; kept = order.kept };
              exits = λ no. cc;
              loops = λ no. cc;
              lengths = holds.lengths;
            } in
            let done = h.forth inside (record { found = a.found; locals = a.locals }) tt deep in
            let later = done.0.orderly in
            subst (λ o. Holds P number f b (left o) × InOrder r.in_loop (given o)) (sym (turn (body inside) out)) (
              record {
                orderly = record { inner = later.inner; outer = later.outer; headers = later.headers; function = later.function; gives = later.gives; kept = later.kept };
                exits = out_of_body b.leaves x.scope.exits (left (body inside)).scope.exits (stays inside).0.exits holds.exits;
                loops = out_of_body b.turns x.scope.loops (left (body inside)).scope.loops (stays inside).0.loops holds.loops;
                lengths = done.0.lengths;
              },
              done.1,
            );
      }

  -- ---- the head of a for

  start_does : (b : r.Around) {Before : Type 0} (x : ForStart) → AreValid (start_leaves x) → Does whole P number f b Before (InOrder r.nowhere) (y.for_start x)
  start_does b start.Nothing valid = does_pure Statement.Done (λ _. q.nothing_in_order whole P number f r.nowhere)
  start_does b (start.Simple x) valid = simple_does b r.nowhere x valid
  start_does b (start.Declaration d) valid =
      does_then (declaration [] d) (λ list. pure (sequence list))
      (does_as (declaration [] d) (λ _. tt) (λ _ _ is. is) (declaration_does whole P number f given_routines small b r.nowhere [] d valid))
      (λ list. does_pure (sequence list) (λ c. q.sequence_is whole P number f r.nowhere list c.1))

  for_condition_does : (b : r.Around) {Before : Type 0} (test : Option ExpressionTree) → AreValid (of_any expression_leaves test) →
      Does whole P number f b Before AsCondition (finding (y.for_condition test))
  for_condition_does b None valid = does_finding (y.for_condition None) (λ s. shows_pure y.int_one
      (λ _. record { is = λ _. refl; few = omega arith; calls = λ callee inside. absurd (in_none callee inside) }))
  for_condition_does b (Some test) valid = condition_does b test valid

  for_step_does : (b : r.Around) {Before : Type 0} (x : Option SimpleStatement) → AreValid (of_any simple_leaves x) → Does whole P number f b Before (InOrder r.nowhere)
      (finding (y.for_step x))
  for_step_does b None valid = does_finding (y.for_step None) (λ s. shows_pure Statement.Done (λ _. q.nothing_in_order whole P number f r.nowhere))
  for_step_does b (Some x) valid = simple_does b r.nowhere x valid

  for_head_does : (b : r.Around) {Before : Type 0} (begin : ForStart) (test : Option ExpressionTree) (step : Option SimpleStatement) → AreValid (start_leaves begin) →
      AreValid (of_any expression_leaves test) → AreValid (of_any simple_leaves step) → Does whole P number f b Before (q.IsHead whole P number f) (y.for_head begin test step)
  unfolding y.for_head
  for_head_does b begin test step h0 h1 h2 =
      let stepping = λ (first : Statement) (c : Statement). finding (y.for_step step) >>= (λ last. pure (first, c, last)) in
      let testing = λ (first : Statement). finding (y.for_condition test) >>= stepping first in
      does_then (y.for_start begin) testing (start_does b begin h0)
      (λ first. does_then (finding (y.for_condition test)) (stepping first) (for_condition_does b test h1)
      (λ c. does_then (finding (y.for_step step)) (λ last. pure (first, c, last)) (for_step_does b step h2)
      (λ last. does_pure (first, c, last) (λ is. (is.0.0.1, is.0.1, is.1)))))

  moving_head : (begin : ForStart) (test : Option ExpressionTree) (step : Option SimpleStatement) → m.IsMoving (y.for_head begin test step)
  unfolding y.for_head
  moving_head begin test step =
      let stepping = λ (first : Statement) (c : Statement). finding (y.for_step step) >>= (λ last. pure (first, c, last)) in
      let testing = λ (first : Statement). finding (y.for_condition test) >>= stepping first in
      m.moving_then (y.for_start begin) testing (moving_start begin)
      (λ first. m.moving_then (finding (y.for_condition test)) (stepping first) (m.moving_staying (finding (y.for_condition test)) (m.staying_finding (y.for_condition test)))
      (λ c. m.moving_then (finding (y.for_step step)) (λ last. pure (first, c, last)) (m.moving_staying (finding (y.for_step step)) (m.staying_finding (y.for_step step)))
      (λ last. m.moving_pure {A = y.Head} (first, c, last))))
    where
      moving_start : (x : ForStart) → m.IsMoving (y.for_start x)
      moving_start start.Nothing = m.moving_pure Statement.Done
      moving_start (start.Simple x) = m.moving_staying (finding (λ s. simple s x)) (m.staying_finding (λ s. simple s x))
      moving_start (start.Declaration d) = m.moving_then (declaration [] d) (λ list. pure (sequence list)) (m.moving_declaration [] d) (λ list. m.moving_pure (sequence list))

  -- ---- what is claimed of each tree

  abbrev DoesItem : Leaves → Adds → Type 0
  DoesItem leaves w = AreValid leaves → (l t : Bool) (list : List Statement) → Does whole P number f (around l t) (All (around l t) list) (All (around l t)) (w list)

  abbrev DoesStatement : Leaves → Goes Statement → Type 0
  DoesStatement leaves w = AreValid leaves → (l t : Bool) → Does whole P number f (around l t) ⊤ (InOrder (around l t)) w

  pub record IsItem (leaves : Leaves) (w : Adds) : Type 0 where
    pub moves : (list : List Statement) → m.IsMoving (w list)
    pub does : DoesItem leaves w

  pub record IsStatement (leaves : Leaves) (w : Goes Statement) : Type 0 where
    pub stays : m.IsStaying w
    pub does : DoesStatement leaves w

  pub record IsBlock (leaves : Leaves) (w : Goes Statement) : Type 0 where
    pub moves : m.IsMoving w
    pub does : DoesStatement leaves w

  -- the statements of a switch over the type so far
  abbrev AllIn : IntegerType → Bool → y.Cases → Type 0
  AllIn ty t c = AllByRecursion (InOrder (r.in_switch ty (around false t))) c.steps

  abbrev DoesGroup : Leaves → Groups → Type 0
  DoesGroup leaves w = AreValid leaves → (ty : IntegerType) (t : Bool) (c : y.Cases) → Does whole P number f (around true t) (AllIn ty t c) (AllIn ty t) (w ty c)

  pub record IsGroup (leaves : Leaves) (w : Groups) : Type 0 where
    pub stays : (ty : IntegerType) (c : y.Cases) → m.IsStaying (w ty c)
    pub does : DoesGroup leaves w

  abbrev ClaimGroup : GroupTree → Type 0
  ClaimGroup x = IsGroup (group_leaves x) (group x)

  abbrev ClaimBlockItem : BlockItemTree → Type 0
  ClaimBlockItem x = IsItem (item_leaves x) (item x)

  abbrev ClaimStatement : StatementTree → Type 0
  ClaimStatement x = IsStatement (statement_leaves x) (statement x)

  abbrev ClaimBlock : BlockTree → Type 0
  ClaimBlock x = IsBlock (block_leaves x) (items x)

  abbrev SomeBlockItem : Type 0
  SomeBlockItem = Such the_family (claims ClaimBlockItem ClaimStatement ClaimBlock ClaimGroup) member-BlockItem

  abbrev SomeStatement : Type 0
  SomeStatement = Such the_family (claims ClaimBlockItem ClaimStatement ClaimBlock ClaimGroup) member-Statement

  abbrev SomeBlock : Type 0
  SomeBlock = Such the_family (claims ClaimBlockItem ClaimStatement ClaimBlock ClaimGroup) member-Block

  abbrev SomeGroup : Type 0
  SomeGroup = Such the_family (claims ClaimBlockItem ClaimStatement ClaimBlock ClaimGroup) member-Group

  abbrev seen_group : Group-F SomeBlockItem SomeStatement SomeBlock SomeGroup → Group-F BlockItemTree StatementTree BlockTree GroupTree
  seen_group y = map-Group SomeBlockItem SomeStatement SomeBlock SomeGroup BlockItemTree StatementTree BlockTree GroupTree (λ e. e.0) (λ e. e.0) (λ e. e.0) (λ e. e.0) y

  abbrev leaves_in_group : Group-F BlockItemTree StatementTree BlockTree GroupTree → Group-F Leaves Leaves Leaves Leaves
  leaves_in_group x = map-Group BlockItemTree StatementTree BlockTree GroupTree Leaves Leaves Leaves Leaves item_leaves statement_leaves block_leaves group_leaves x

  abbrev parts_in_group : Group-F BlockItemTree StatementTree BlockTree GroupTree → Group-F Adds (Goes Statement) (Goes Statement) Groups
  parts_in_group x = map-Group BlockItemTree StatementTree BlockTree GroupTree Adds (Goes Statement) (Goes Statement) Groups item statement items group x

  abbrev seen_item : BlockItem-F SomeBlockItem SomeStatement SomeBlock SomeGroup → BlockItem-F BlockItemTree StatementTree BlockTree GroupTree
  seen_item y = map-BlockItem SomeBlockItem SomeStatement SomeBlock SomeGroup BlockItemTree StatementTree BlockTree GroupTree (λ e. e.0) (λ e. e.0) (λ e. e.0) (λ e. e.0) y

  abbrev leaves_in_item : BlockItem-F BlockItemTree StatementTree BlockTree GroupTree → BlockItem-F Leaves Leaves Leaves Leaves
  leaves_in_item x = map-BlockItem BlockItemTree StatementTree BlockTree GroupTree Leaves Leaves Leaves Leaves item_leaves statement_leaves block_leaves group_leaves x

  abbrev parts_in_item : BlockItem-F BlockItemTree StatementTree BlockTree GroupTree → BlockItem-F Adds (Goes Statement) (Goes Statement) Groups
  parts_in_item x = map-BlockItem BlockItemTree StatementTree BlockTree GroupTree Adds (Goes Statement) (Goes Statement) Groups item statement items group x

  abbrev seen_statement : Statement-F SomeBlockItem SomeStatement SomeBlock SomeGroup → Statement-F BlockItemTree StatementTree BlockTree GroupTree
  seen_statement y = map-Statement SomeBlockItem SomeStatement SomeBlock SomeGroup BlockItemTree StatementTree BlockTree GroupTree (λ e. e.0) (λ e. e.0) (λ e. e.0) (λ e. e.0) y

  abbrev leaves_in_statement : Statement-F BlockItemTree StatementTree BlockTree GroupTree → Statement-F Leaves Leaves Leaves Leaves
  leaves_in_statement x = map-Statement BlockItemTree StatementTree BlockTree GroupTree Leaves Leaves Leaves Leaves item_leaves statement_leaves block_leaves group_leaves x

  abbrev parts_in_statement : Statement-F BlockItemTree StatementTree BlockTree GroupTree → Statement-F Adds (Goes Statement) (Goes Statement) Groups
  parts_in_statement x = map-Statement BlockItemTree StatementTree BlockTree GroupTree Adds (Goes Statement) (Goes Statement) Groups item statement items group x

  abbrev seen_block : Block-F SomeBlockItem SomeStatement SomeBlock SomeGroup → Block-F BlockItemTree StatementTree BlockTree GroupTree
  seen_block y = map-Block SomeBlockItem SomeStatement SomeBlock SomeGroup BlockItemTree StatementTree BlockTree GroupTree (λ e. e.0) (λ e. e.0) (λ e. e.0) (λ e. e.0) y

  abbrev leaves_in_block : Block-F BlockItemTree StatementTree BlockTree GroupTree → Block-F Leaves Leaves Leaves Leaves
  leaves_in_block x = map-Block BlockItemTree StatementTree BlockTree GroupTree Leaves Leaves Leaves Leaves item_leaves statement_leaves block_leaves group_leaves x

  abbrev parts_in_block : Block-F BlockItemTree StatementTree BlockTree GroupTree → Block-F Adds (Goes Statement) (Goes Statement) Groups
  parts_in_block x = map-Block BlockItemTree StatementTree BlockTree GroupTree Adds (Goes Statement) (Goes Statement) Groups item statement items group x

  -- ---- each layer

  item_case : (x : BlockItem-F SomeBlockItem SomeStatement SomeBlock SomeGroup) → IsItem (item_layer (leaves_in_item (seen_item x))) (item_step (parts_in_item (seen_item x)))
  item_case (BlockItem-F.Declaration d) = record {
    moves = λ list. m.moving_declaration list d;
    does = λ valid l t list. declaration_does whole P number f given_routines small (around l t) (around l t) list d valid;
  }
  item_case (BlockItem-F.Statement x) = record {
    moves = λ list. m.moving_then (statement x.0) (λ step. pure (list ++ step ∷ [])) (m.moving_staying (statement x.0) x.1.stays) (λ step. m.moving_pure (list ++ step ∷ []));
    does = λ valid l t list.
        does_then (statement x.0) (λ step. pure (list ++ step ∷ [])) (does_as (statement x.0) (λ _. tt) (λ _ _ is. is) (x.1.does valid l t))
        (λ step. does_pure (list ++ step ∷ []) (λ c. all_more (InOrder (around l t)) list step c.0 c.1));
  }

  each_item : (l t : Bool) (list : List SomeBlockItem) → AreValid (all_of (map item_leaves (map (λ e. e.0) list))) →
      AllByRecursion (λ (w : Adds). (steps : List Statement) → Does whole P number f (around l t) (All (around l t) steps) (All (around l t)) (w steps)) (map item (map (λ e. e.0) list))
  each_item l t [] valid = tt
  each_item l t (x ∷ list) valid =
      let more = all_of (map item_leaves (map (λ e. e.0) list)) in
      (x.1.does (all_front _ (item_leaves x.0) more valid) l t, each_item l t list (all_back _ (item_leaves x.0) more valid))

  each_moves : (list : List SomeBlockItem) → AllByRecursion (λ (w : Adds). (steps : List Statement) → m.IsMoving (w steps)) (map item (map (λ e. e.0) list))
  each_moves [] = tt
  each_moves (x ∷ list) = (x.1.moves, each_moves list)

  block_case : (x : Block-F SomeBlockItem SomeStatement SomeBlock SomeGroup) → IsBlock (block_layer (leaves_in_block (seen_block x))) (block_step (parts_in_block (seen_block x)))
  block_case x =
      let list = map item (map (λ e. e.0) x.items) in
      record {
        moves = m.moving_then (y.block_items list) (λ steps. pure (sequence steps))
            (m.moving_each (λ (steps : List Statement) (add : Adds). add steps) [] list (each_moves x.items)) (λ steps. m.moving_pure (sequence steps));
        does = λ valid l t.
            does_then (y.block_items list) (λ steps. pure (sequence steps))
            (does_as (y.block_items list) (λ _. (tt, tt)) (λ _ _ is. is)
            (does_through {Before = ⊤} (λ (w : Adds). (steps : List Statement) → Does whole P number f (around l t) (All (around l t) steps) (All (around l t)) (w steps))
            (All (around l t)) (λ steps add. add steps)
            (λ steps add h. does_as (add steps) (λ c. c.1) (λ _ _ is. is) (h steps)) [] list (each_item l t x.items valid)))
            (λ steps. does_pure (sequence steps) (λ c. q.sequence_is whole P number f (around l t) steps c.1));
      }

  break_case : (at : ℕ) → IsStatement [] (y.break_at at)
  unfolding check_break
  break_case at = record {
    stays = m.staying_then (finding (λ s. check_break s at)) (λ _. pure Statement.Break) (m.staying_finding (λ s. check_break s at)) (λ _. m.staying_pure Statement.Break);
    does = λ valid l t.
        does_then (finding (λ s. check_break s at)) (λ _. pure Statement.Break)
        (does_finding_in (λ s _. nat_eq s.exits 0 ≡ false) (λ s. check_break s at) (λ s. shows_if (nat_eq s.exits 0) rule.Place at)
        (λ st _ holds some. jump_is l st.scope.exits holds.exits some))
        (λ _. does_pure Statement.Break (λ c. k.plain_in whole P number f (around l t) Statement.Break c.1 refl refl refl));
  }

  continue_case : (at : ℕ) → IsStatement [] (y.continue_at at)
  unfolding check_continue
  continue_case at = record {
    stays = m.staying_then (finding (λ s. check_continue s at)) (λ _. pure Statement.Continue) (m.staying_finding (λ s. check_continue s at)) (λ _. m.staying_pure Statement.Continue);
    does = λ valid l t.
        does_then (finding (λ s. check_continue s at)) (λ _. pure Statement.Continue)
        (does_finding_in (λ s _. nat_eq s.loops 0 ≡ false) (λ s. check_continue s at) (λ s. shows_if (nat_eq s.loops 0) rule.Place at)
        (λ st _ holds some. jump_is t st.scope.loops holds.loops some))
        (λ _. does_pure Statement.Continue (λ c. k.plain_in whole P number f (around l t) Statement.Continue c.1 refl refl refl));
  }

  block_statement_is : (leaves : Leaves) (w : Goes Statement) → IsBlock leaves w → IsStatement leaves (y.block_statement w)
  block_statement_is leaves w h = record {
    stays = m.in_block w Statement y.block_of h.moves;
    does = λ valid l t.
        let out = λ (body : Statement). scoping closed >> pure (y.block_of body) in
        does_then (scoping opened) (λ _. w >>= out) does_opened
        (λ _. does_then w out (does_as w (λ _. tt) (λ _ _ is. is) (h.does valid l t))
        (λ body. does_then (scoping closed) (λ _. pure (y.block_of body)) does_closed
        (λ _. does_pure (y.block_of body) (λ c. q.block_is whole P number f (around l t) body c.0.1))));
  }

  branch_is : (test : ExpressionTree) (leaves others : Leaves) (consequent alternative : Goes Statement) → IsStatement leaves consequent → IsStatement others alternative →
      IsStatement (expression_leaves test ++ (leaves ++ others)) (finding (λ s. condition s test s.kept_from) >>= (λ c. consequent >>= (λ x. alternative >>= (λ z. pure (y.if_of c x z)))))
  branch_is test leaves others consequent alternative h k =
      let last = λ (c : Statement) (x : Statement). alternative >>= (λ z. pure (y.if_of c x z)) in
      let next = λ (c : Statement). consequent >>= last c in
      record {
        stays = m.staying_then (finding (λ s. condition s test s.kept_from)) next (m.staying_finding (λ s. condition s test s.kept_from))
            (λ c. m.staying_then consequent (last c) h.stays (λ x. m.staying_then alternative (λ z. pure (y.if_of c x z)) k.stays (λ z. m.staying_pure (y.if_of c x z))));
        does = λ valid l t.
            let first = all_front _ (expression_leaves test) (leaves ++ others) valid in
            let more = all_back _ (expression_leaves test) (leaves ++ others) valid in
            does_then (finding (λ s. condition s test s.kept_from)) next (condition_does (around l t) test first)
            (λ c. does_then consequent (last c) (does_as consequent (λ _. tt) (λ _ _ is. is) (h.does (all_front _ leaves others more) l t))
            (λ x. does_then alternative (λ z. pure (y.if_of c x z)) (does_as alternative (λ _. tt) (λ _ _ is. is) (k.does (all_back _ leaves others more) l t))
            (λ z. does_pure (y.if_of c x z) (λ d. q.if_is whole P number f (around l t) c x z d.0.0.1 d.0.1 d.1))));
      }

  done_is : IsStatement [] (pure Statement.Done)
  done_is = record { stays = m.staying_pure Statement.Done; does = λ valid l t. does_pure Statement.Done (λ _. q.nothing_in_order whole P number f (around l t)) }

  while_loop_is : (test : ExpressionTree) (leaves : Leaves) (body : Goes Statement) → IsStatement leaves body → IsStatement (expression_leaves test ++ leaves)
      (y.while_loop test body)
  while_loop_is test leaves body h =
      let next = λ (c : Statement). y.loop_body body >>= (λ x. pure (y.while_of c x)) in
      record {
        stays = m.staying_then (finding (λ s. condition s test s.kept_from)) next (m.staying_finding (λ s. condition s test s.kept_from))
            (λ c. m.staying_then (y.loop_body body) (λ x. pure (y.while_of c x)) (m.in_loop_body body h.stays) (λ x. m.staying_pure (y.while_of c x)));
        does = λ valid l t.
            does_then (finding (λ s. condition s test s.kept_from)) next (condition_does (around l t) test (all_front _ (expression_leaves test) leaves valid))
            (λ c. does_then (y.loop_body body) (λ x. pure (y.while_of c x)) (loop_body_does (around l t) body h.stays (h.does (all_back _ (expression_leaves test) leaves valid) true true))
            (λ x. does_pure (y.while_of c x) (λ d. q.while_is whole P number f (around l t) c x d.0.1 d.1)));
      }

  do_while_is : (test : ExpressionTree) (leaves : Leaves) (body : Goes Statement) → IsStatement leaves body → IsStatement (leaves ++ expression_leaves test) (y.do_while body test)
  do_while_is test leaves body h =
      let next = λ (x : Statement). finding (λ s. condition s test s.kept_from) >>= (λ c. pure (y.do_while_of x c)) in
      record {
        stays = m.staying_then (y.loop_body body) next (m.in_loop_body body h.stays)
            (λ x. m.staying_then (finding (λ s. condition s test s.kept_from)) (λ c. pure (y.do_while_of x c)) (m.staying_finding (λ s. condition s test s.kept_from))
            (λ c. m.staying_pure (y.do_while_of x c)));
        does = λ valid l t.
            does_then (y.loop_body body) next (loop_body_does (around l t) body h.stays (h.does (all_front _ leaves (expression_leaves test) valid) true true))
            (λ x. does_then (finding (λ s. condition s test s.kept_from)) (λ c. pure (y.do_while_of x c)) (condition_does (around l t) test (all_back _ leaves (expression_leaves test) valid))
            (λ c. does_pure (y.do_while_of x c) (λ d. q.do_while_is whole P number f (around l t) x c d.0.1 d.1)));
      }

  for_loop_is : (begin : ForStart) (test : Option ExpressionTree) (step : Option SimpleStatement) (leaves : Leaves) (body : Goes Statement) → IsStatement leaves body →
      IsStatement (start_leaves begin ++ (of_any expression_leaves test ++ (of_any simple_leaves step ++ leaves))) (y.for_loop begin test step body)
  unfolding y.for_loop
  for_loop_is begin test step leaves body h =
      let out = λ (head : y.Head) (x : Statement). scoping closed >> pure (y.for_of head x) in
      let next = λ (head : y.Head). y.loop_body body >>= out head in
      record {
        stays = m.in_block_of_two (y.for_head begin test step) (y.loop_body body) Statement y.for_of (moving_head begin test step)
            (m.moving_staying (y.loop_body body) (m.in_loop_body body h.stays));
        does = λ valid l t.
            let rest = of_any expression_leaves test ++ (of_any simple_leaves step ++ leaves) in
            let last = of_any simple_leaves step ++ leaves in
            let h0 = all_front _ (start_leaves begin) rest valid in
            let v1 = all_back _ (start_leaves begin) rest valid in
            let h1 = all_front _ (of_any expression_leaves test) last v1 in
            let v2 = all_back _ (of_any expression_leaves test) last v1 in
            let h2 = all_front _ (of_any simple_leaves step) leaves v2 in
            let h3 = all_back _ (of_any simple_leaves step) leaves v2 in
            does_then (scoping opened) (λ _. y.for_head begin test step >>= next) does_opened
            (λ _. does_then (y.for_head begin test step) next (for_head_does (around l t) begin test step h0 h1 h2)
            (λ head. does_then (y.loop_body body) (out head) (loop_body_does (around l t) body h.stays (h.does h3 true true))
            (λ x. does_then (scoping closed) (λ _. pure (y.for_of head x)) does_closed
            (λ _. does_pure (y.for_of head x) (λ c. q.for_is whole P number f (around l t) head x c.0.0.1 c.0.1)))));
      }

  -- ---- switches

  -- a value of the type has it, whatever number it comes from
  case_type : (ty : IntegerType) (x : Constancy) → r.IsLabel (Some ty) (Some (y.case_value ty x))
  case_type ty (is.Constant x) = wrapped-range ty x.number
  case_type ty is.Unknown = zero_is ty
  case_type ty is.NotConstant = zero_is ty

  label_in_order : (ty : IntegerType) (t : Bool) (value : Option ℤ) (operators : ℕ) → r.IsLabel (Some ty) value →
      InOrder (r.in_switch ty (around false t)) (Statement.Label value operators)
  label_in_order ty t value operators is = k.plain_in whole P number f (r.in_switch ty (around false t)) (Statement.Label value operators) is refl refl refl

  -- the same steps with other values
  abbrev SameSteps : y.Cases → y.Cases → Type 0
  SameSteps c d = d.steps ≡ c.steps

  noted_shows : {Earlier : Type 0} (ty : IntegerType) (x : Constancy) (at : ℕ) (c : y.Cases) → Shows whole Earlier (SameSteps c) (y.noted_case ty x at c)
  unfolding y.noted_case
  noted_shows ty (is.Constant x) at c =
      shows_then (finds_if (stands c.values (wrapped ty x.number)) rule.Twice at) (λ _. pure (record c { values = noted c.values (wrapped ty x.number) }))
      (shows_if (stands c.values (wrapped ty x.number)) rule.Twice at) (λ _. shows_pure (record c { values = noted c.values (wrapped ty x.number) }) (λ _. refl))
  noted_shows ty is.Unknown at c = shows_pure c (λ _. refl)
  noted_shows ty is.NotConstant at c =
      shows_then (finds rule.Constant at) (λ _. pure c) (shows_broken {Is = λ _. ⊤} rule.Constant at) (λ _. shows_pure c (λ _. refl))

  label_shows : (ty : IntegerType) (t : Bool) (x : CaseLabel) (c : y.Cases) (s : Scope) → AreValid (label_leaves x) →
      Shows whole (IsOrderly P number f s × AllIn ty t c) (AllIn ty t) (y.label ty x c s)
  unfolding y.case_label y.default_label
  label_shows ty t x c s valid = by x.value valid
    where
      add : (d : y.Cases) (value : Option ℤ) (operators : ℕ) → d.steps ≡ c.steps → r.IsLabel (Some ty) value → AllIn ty t c → AllIn ty t (y.labelled value operators d)
      add d value operators same is all =
          all_more (InOrder (r.in_switch ty (around false t))) d.steps (Statement.Label value operators)
          (subst (λ l. AllByRecursion (InOrder (r.in_switch ty (around false t))) l) (sym same) all) (label_in_order ty t value operators is)

      by : (e : Option ExpressionTree) → AreValid (of_any expression_leaves e) → Shows whole (IsOrderly P number f s × AllIn ty t c) (AllIn ty t) (y.label_of ty e x.offset c s)
      by (Some e) valid =
          let made = λ (d : y.Cases). y.labelled (Some (y.case_value ty (constancy e))) (operator_count e) d in
          let walk = y.noted_case ty (constancy e) (out-Expression e).offset c in
          shows_then (looked s e) (λ _. walk >>= (λ d. pure (made d))) (shows_as (looked s e) (λ b. b.0) (λ _ _ is. is) (looked_shows whole P number f small s e valid))
          (λ _. shows_then walk (λ d. pure (made d)) (noted_shows ty (constancy e) (out-Expression e).offset c)
          (λ d. shows_pure (made d) (λ b. add d (Some (y.case_value ty (constancy e))) (operator_count e) b.1 (case_type ty (constancy e)) b.0.0.1)))
      by None valid =
          let made = y.labelled None 0 (record c { has_default = true }) in
          shows_then (finds_if c.has_default rule.Twice x.offset) (λ _. pure made) (shows_if c.has_default rule.Twice x.offset)
          (λ _. shows_pure made (λ b. add (record c { has_default = true }) None 0 refl tt b.0.1))

  next_does : (ty : IntegerType) (t : Bool) (leaves : Leaves) (w : Goes Statement) (c : y.Cases) → IsStatement leaves w → AreValid leaves →
      Does whole P number f (around true t) (AllIn ty t c) (AllIn ty t) (y.next_statement c w)
  next_does ty t leaves w c h valid =
      does_then w (λ step. pure (record c { steps = c.steps ++ step ∷ [] })) (does_as w (λ _. tt) (λ _ _ is. is) (h.does valid true t))
      (λ step. does_pure (record c { steps = c.steps ++ step ∷ [] })
      (λ b. all_more (InOrder (r.in_switch ty (around false t))) c.steps step b.0 (q.labelled_is whole P number f (r.in_switch ty (around false t)) step b.1)))

  each_next : (ty : IntegerType) (t : Bool) (list : List SomeStatement) → AreValid (all_of (map statement_leaves (map (λ e. e.0) list))) →
      AllByRecursion (λ w. (c : y.Cases) → Does whole P number f (around true t) (AllIn ty t c) (AllIn ty t) (y.next_statement c w)) (map statement (map (λ e. e.0) list))
  each_next ty t [] valid = tt
  each_next ty t (x ∷ list) valid =
      let more = all_of (map statement_leaves (map (λ e. e.0) list)) in (
        λ c. next_does ty t (statement_leaves x.0) (statement x.0) c x.1 (all_front _ (statement_leaves x.0) more valid),
        each_next ty t list (all_back _ (statement_leaves x.0) more valid),
      )

  each_next_stays : (list : List SomeStatement) → AllByRecursion (λ w. (c : y.Cases) → m.IsStaying (y.next_statement c w)) (map statement (map (λ e. e.0) list))
  each_next_stays [] = tt
  each_next_stays (x ∷ list) = (
    λ c. m.staying_then (statement x.0) (λ step. pure (record c { steps = c.steps ++ step ∷ [] })) x.1.stays (λ step. m.staying_pure (record c { steps = c.steps ++ step ∷ [] })),
    each_next_stays list,
  )

  group_case : (x : Group-F SomeBlockItem SomeStatement SomeBlock SomeGroup) → IsGroup (group_layer (leaves_in_group (seen_group x))) (group_step (parts_in_group (seen_group x)))
  group_case x =
      let list = map statement (map (λ e. e.0) x.statements) in
      let leaves = all_of (map statement_leaves (map (λ e. e.0) x.statements)) in
      record {
        stays = λ ty c.
            m.staying_then (finding (y.label ty x.label c)) (λ d. through y.next_statement d list) (m.staying_finding (y.label ty x.label c))
            (λ d. m.staying_each y.next_statement d list (each_next_stays x.statements));
        does = λ valid ty t c.
            does_then (finding (y.label ty x.label c)) (λ d. through y.next_statement d list)
            (does_finding (y.label ty x.label c)
            (λ s. shows_as (y.label ty x.label c s) (λ b. (b.1, b.0)) (λ _ _ is. is) (label_shows ty t x.label c s (all_front _ (label_leaves x.label) leaves valid))))
            (λ d. does_as (through y.next_statement d list) (λ b. (tt, b.1)) (λ _ _ is. is)
            (does_through {Before = ⊤} (λ w. (c : y.Cases) → Does whole P number f (around true t) (AllIn ty t c) (AllIn ty t) (y.next_statement c w)) (AllIn ty t) y.next_statement
            (λ c w h. does_as (y.next_statement c w) (λ b. b.1) (λ _ _ is. is) (h c)) d list (each_next ty t x.statements (all_back _ (label_leaves x.label) leaves valid))));
      }

  -- groups with their leaves
  abbrev AreGroups : List Leaves → List Groups → Type 0
  AreGroups [] [] = ⊤
  AreGroups (leaves ∷ more) (w ∷ list) = IsGroup leaves w × AreGroups more list
  AreGroups (leaves ∷ more) [] = ⊥
  AreGroups [] (w ∷ list) = ⊥

  all_groups : (list : List SomeGroup) → AreGroups (map group_leaves (map (λ g. g.0) list)) (map group (map (λ g. g.0) list))
  all_groups [] = tt
  all_groups (x ∷ list) = (x.1, all_groups list)

  abbrev add_group : IntegerType → y.Cases → Groups → Goes y.Cases
  add_group ty c w = w ty c

  groups_do : (ty : IntegerType) (t : Bool) (leaves : List Leaves) (list : List Groups) → AreGroups leaves list → AreValid (all_of leaves) →
      AllByRecursion (λ w. (c : y.Cases) → Does whole P number f (around true t) (AllIn ty t c) (AllIn ty t) (add_group ty c w)) list
  groups_do ty t [] [] all valid = tt
  groups_do ty t (leaves ∷ more) (w ∷ list) all valid =
      (all.0.does (all_front _ leaves (all_of more) valid) ty t, groups_do ty t more list all.1 (all_back _ leaves (all_of more) valid))
  groups_do ty t (leaves ∷ more) [] all valid = absurd all
  groups_do ty t [] (w ∷ list) all valid = absurd all

  groups_stay : (ty : IntegerType) (leaves : List Leaves) (list : List Groups) → AreGroups leaves list → AllByRecursion (λ w. (c : y.Cases) → m.IsStaying (add_group ty c w)) list
  groups_stay ty [] [] all = tt
  groups_stay ty (leaves ∷ more) (w ∷ list) all = (all.0.stays ty, groups_stay ty more list all.1)
  groups_stay ty (leaves ∷ more) [] all = absurd all
  groups_stay ty [] (w ∷ list) all = absurd all

  body_stays : (ty : IntegerType) (leaves : List Leaves) (list : List Groups) → AreGroups leaves list → m.IsStaying (y.switch_body ty list)
  unfolding y.switch_body
  body_stays ty leaves list all =
      m.in_switch (through (add_group ty) y.no_cases list) (λ (c : y.Cases). sequence c.steps) (m.staying_each (add_group ty) y.no_cases list (groups_stay ty leaves list all))

  body_does : (ty : IntegerType) (l t : Bool) {Before : Type 0} (leaves : List Leaves) (list : List Groups) → AreGroups leaves list → AreValid (all_of leaves) →
      Does whole P number f (around l t) Before (InOrder (r.in_switch ty (around l t))) (y.switch_body ty list)
  unfolding y.switch_body
  body_does ty l t leaves list all valid =
      let body = through (add_group ty) y.no_cases list in
      let stays = m.staying_each (add_group ty) y.no_cases list (groups_stay ty leaves list all) in
      let h = does_as {Before = ⊤ × AllIn ty t y.no_cases} {Earlier = ⊤} {Is = AllIn ty t} {Seen = AllIn ty t} body (λ _. (tt, tt)) (λ _ _ is. is)
      (does_through {Before = ⊤} (λ w. (c : y.Cases) → Does whole P number f (around true t) (AllIn ty t c) (AllIn ty t) (add_group ty c w)) (AllIn ty t) (add_group ty)
      (λ c w h. does_as (add_group ty c w) (λ b. b.1) (λ _ _ is. is) (h c)) y.no_cases list (groups_do ty t leaves list all valid)) in
      let out = λ (c : y.Cases). scoping y.unswitched >> pure (sequence c.steps) in
      record {
        back = λ x ahead.
            let inside = state (y.switched x.scope) x.found in
            let a = subst (λ o. IsAhead whole f (left o)) (turn (body inside) out) ahead in
            let behind = h.back inside (record { found = a.found; locals = a.locals }) in
            record { found = behind.found; locals = behind.locals };
        forth = λ x ahead before holds.
            let inside = state (y.switched x.scope) x.found in
            let a = subst (λ o. IsAhead whole f (left o)) (turn (body inside) out) ahead in
            let order = holds.orderly in
            let deep : Holds P number f (around true t) inside = record {
              orderly = record { inner = order.inner; outer = order.outer; headers = order.headers; function = order.function; gives = order.gives; kept = order.kept };
              exits = λ no. cc;
              loops = holds.loops;
              lengths = holds.lengths;
            } in
            let done = h.forth inside (record { found = a.found; locals = a.locals }) tt deep in
            let later = done.0.orderly in
            subst (λ o. Holds P number f (around l t) (left o) × InOrder (r.in_switch ty (around l t)) (given o)) (sym (turn (body inside) out)) (
              record {
                orderly = record { inner = later.inner; outer = later.outer; headers = later.headers; function = later.function; gives = later.gives; kept = later.kept };
                exits = out_of_body l x.scope.exits (left (body inside)).scope.exits (stays inside).0.exits holds.exits;
                loops = done.0.loops;
                lengths = done.0.lengths;
              },
              q.sequence_is whole P number f (r.in_switch ty (around l t)) (given (body inside)).steps done.1,
            );
      }

  -- a value at the head of a switch, in a scope that is in order
  abbrev Switched : Cut Expression → Type 0
  Switched x = u.IsValue whole P number f f.declared_locals 0 (free_from f.declared_locals) x

  switched_shows : (s : Scope) (e : ExpressionTree) (at : ℕ) → AreValid (expression_leaves e) → Shows whole (IsOrderly P number f s) Switched (value s e at (free_from s.kept_from))
  switched_shows s e at valid =
      shows_as (value s e at (free_from s.kept_from)) (λ now. (now, k.starts whole P number f s now)) (λ x now is. subst (λ n. u.IsValue whole P number f n 0 (free_from n) x) now.kept.first is)
      (value_shows whole P number f small s e valid s.kept_from 0 at (free_from s.kept_from))

  switch_in_order : (at : ℕ) (l t : Bool) (x : Cut Expression) (body : Statement) → Switched x → InOrder (r.in_switch (promoted (type_of x.rest)) (around l t)) body →
      InOrder (around l t) (y.switch_of at x body)
  switch_in_order at l t x body h is =
      let last : Statement = Statement.Switch at (promoted (type_of x.rest)) x.rest body in
      let w = u.behind_weight x.cuts.before last in
      record {
        is = λ fit.
            let fits = u.behind_fits (length f.locals) x.cuts.before last fit in
            u.behind_statement whole P number f (around l t) x.cuts.before last (h.cuts.is fits.0) (refl, h.rest fits.0, is.is fits.1);
        few =
            (let inside = h.cuts.inside in
            let own = is.few in
            u.behind_end (f.declared_locals + (statement_weight (y.switch_of at x body) + 3)) x.cuts.before last (omega (arith, inside, w)) (omega (arith, w, own)));
        calls = u.behind_calls whole P number f x.cuts.before last h.cuts.found is.calls;
        creates = u.behind_creates whole P number f (λ thread routine. IsPointerAt P routine × IsFoundCreation whole thread routine) x.cuts.before last h.cuts.found is.creates;
      }

  switch_is : (e : ExpressionTree) (leaves : List Leaves) (groups : List Groups) (at : ℕ) → AreGroups leaves groups →
      IsStatement (expression_leaves e ++ all_of leaves) (y.switch e groups at)
  unfolding y.switch
  switch_is e leaves groups at all =
      let walk = finding (λ s. value s e at (free_from s.kept_from)) in
      let next = λ (x : Cut Expression). y.switch_body (promoted (type_of x.rest)) groups >>= (λ body. pure (y.switch_of at x body)) in
      record {
        stays = m.staying_then walk next (m.staying_finding (λ s. value s e at (free_from s.kept_from)))
            (λ x. m.staying_then (y.switch_body (promoted (type_of x.rest)) groups) (λ body. pure (y.switch_of at x body)) (body_stays (promoted (type_of x.rest)) leaves groups all)
            (λ body. m.staying_pure (y.switch_of at x body)));
        does = λ valid l t.
            does_then walk next
            (does_finding (λ s. value s e at (free_from s.kept_from))
            (λ s. shows_as (value s e at (free_from s.kept_from)) (λ b. b.1) (λ _ _ is. is) (switched_shows s e at (all_front _ (expression_leaves e) (all_of leaves) valid))))
            (λ x. does_then (y.switch_body (promoted (type_of x.rest)) groups) (λ body. pure (y.switch_of at x body))
            (body_does (promoted (type_of x.rest)) l t leaves groups all (all_back _ (expression_leaves e) (all_of leaves) valid))
            (λ body. does_pure (y.switch_of at x body) (λ b. switch_in_order at l t x body b.0.1 b.1)));
      }

  statement_case : (x : Statement-F SomeBlockItem SomeStatement SomeBlock SomeGroup) → IsStatement (statement_layer (leaves_in_statement (seen_statement x)))
      (statement_step (parts_in_statement (seen_statement x)))
  statement_case (Statement-F.Block body) = block_statement_is (block_leaves body.0) (items body.0) body.1
  statement_case Statement-F.Empty = record {
    stays = m.staying_pure Statement.Empty;
    does = λ valid l t. does_pure Statement.Empty (λ _. k.plain_in whole P number f (around l t) Statement.Empty tt refl refl refl);
  }
  statement_case (Statement-F.Simple x) = record { stays = m.staying_finding (λ s. simple s x); does = λ valid l t. simple_does (around l t) (around l t) x valid }
  statement_case (Statement-F.Break at) = break_case at
  statement_case (Statement-F.Continue at) = continue_case at
  statement_case (Statement-F.If test consequent None) =
      branch_is test (statement_leaves consequent.0) [] (statement consequent.0) (pure Statement.Done) consequent.1 done_is
  statement_case (Statement-F.If test consequent (Some alternative)) =
      branch_is test (statement_leaves consequent.0) (statement_leaves alternative.0) (statement consequent.0) (statement alternative.0) consequent.1 alternative.1
  statement_case (Statement-F.While test body) = while_loop_is test (statement_leaves body.0) (statement body.0) body.1
  statement_case (Statement-F.DoWhile body test) = do_while_is test (statement_leaves body.0) (statement body.0) body.1
  statement_case (Statement-F.For begin test step body) = for_loop_is begin test step (statement_leaves body.0) (statement body.0) body.1
  statement_case (Statement-F.Return x at) = record {
    stays = m.staying_finding (λ s. returned s x at);
    does = λ valid l t. does_finding (λ s. returned s x at) (λ s. shows_as (returned s x at) (λ c. c.1) (λ _ _ is. is)
        (returned_shows whole P number f small s given_routines (around l t) x at valid));
  }
  statement_case (Statement-F.Switch e groups at) =
      switch_is e (map group_leaves (map (λ g. g.0) groups)) (map group (map (λ g. g.0) groups)) (place_in_tree at) (all_groups groups)

  item_induct : (x : BlockItem-F BlockItemTree StatementTree BlockTree GroupTree) (z : BlockItem-F SomeBlockItem SomeStatement SomeBlock SomeGroup) → seen_item z ≡ x → ClaimBlockItem
      (roll-BlockItem x)
  item_induct x z e = subst (λ t. ClaimBlockItem (roll-BlockItem t)) e
      (subst (λ leaves. IsItem leaves (item (roll-BlockItem (seen_item z)))) (sym (fold-roll-BlockItem Leaves Leaves Leaves Leaves item_layer statement_layer block_layer group_layer (seen_item z)))
      (subst (λ w. IsItem (item_layer (leaves_in_item (seen_item z))) w)
      (sym (fold-roll-BlockItem Adds (Goes Statement) (Goes Statement) Groups item_step statement_step block_step group_step (seen_item z))) (item_case z)))

  statement_induct : (x : Statement-F BlockItemTree StatementTree BlockTree GroupTree) (z : Statement-F SomeBlockItem SomeStatement SomeBlock SomeGroup) → seen_statement z ≡ x → ClaimStatement
      (roll-Statement x)
  statement_induct x z e = subst (λ t. ClaimStatement (roll-Statement t)) e
      (subst (λ leaves. IsStatement leaves (statement (roll-Statement (seen_statement z))))
      (sym (fold-roll-Statement Leaves Leaves Leaves Leaves item_layer statement_layer block_layer group_layer (seen_statement z)))
      (subst (λ w. IsStatement (statement_layer (leaves_in_statement (seen_statement z))) w)
      (sym (fold-roll-Statement Adds (Goes Statement) (Goes Statement) Groups item_step statement_step block_step group_step (seen_statement z))) (statement_case z)))

  block_induct : (x : Block-F BlockItemTree StatementTree BlockTree GroupTree) (z : Block-F SomeBlockItem SomeStatement SomeBlock SomeGroup) → seen_block z ≡ x → ClaimBlock (roll-Block x)
  block_induct x z e = subst (λ t. ClaimBlock (roll-Block t)) e
      (subst (λ leaves. IsBlock leaves (items (roll-Block (seen_block z)))) (sym (fold-roll-Block Leaves Leaves Leaves Leaves item_layer statement_layer block_layer group_layer (seen_block z)))
      (subst (λ w. IsBlock (block_layer (leaves_in_block (seen_block z))) w)
      (sym (fold-roll-Block Adds (Goes Statement) (Goes Statement) Groups item_step statement_step block_step group_step (seen_block z))) (block_case z)))

  group_induct : (x : Group-F BlockItemTree StatementTree BlockTree GroupTree) (z : Group-F SomeBlockItem SomeStatement SomeBlock SomeGroup) → seen_group z ≡ x → ClaimGroup
      (roll-Group x)
  group_induct x z e = subst (λ t. ClaimGroup (roll-Group t)) e
      (subst (λ leaves. IsGroup leaves (group (roll-Group (seen_group z))))
      (sym (fold-roll-Group Leaves Leaves Leaves Leaves item_layer statement_layer block_layer group_layer (seen_group z)))
      (subst (λ w. IsGroup (group_layer (leaves_in_group (seen_group z))) w)
      (sym (fold-roll-Group Adds (Goes Statement) (Goes Statement) Groups item_step statement_step block_step group_step (seen_group z))) (group_case z)))

  pub block_claim : (x : BlockTree) → IsBlock (block_leaves x) (items x)
  block_claim = ind-Block ClaimBlockItem ClaimStatement ClaimBlock ClaimGroup item_induct statement_induct block_induct group_induct
