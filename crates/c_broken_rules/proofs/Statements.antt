-- What statements and blocks write.
use Rattle.std.proofs.Common.{◌≡◌, refl, sym, subst, ℕ, List, [], ◌∷◌, ◌++◌, map, Option, Some, None, append_assoc}
use Rattle.std.specs.Prelude.{◌+◌, ◌-◌, min}
use denote.Hole.Holds.{Such}
use Rattle.hls_ints.specs.Types.{IntegerType, promoted}
use Rattle.c_tree.specs.declared.expression.Expression.{Expression as ExpressionTree, out-Expression}
use Rattle.c_tree.specs.declared.declaration.Declaration.{Declaration}
use Rattle.c_tree.specs.declared.statement.SimpleStatement.{SimpleStatement}
use Rattle.c_tree.specs.declared.statement.ForStart.{ForStart}
use Rattle.c_tree.specs.declared.statement.ForStart.TheVariants as start
use Rattle.c_tree.specs.declared.statement.CaseLabel.{CaseLabel}
use Rattle.c_tree.specs.declared.statement.Block.{Block as BlockTree, roll-Block}
use Rattle.c_tree.specs.declared.statement.BlockItem.{BlockItem as BlockItemTree, roll-BlockItem}
use Rattle.c_tree.specs.declared.statement.Group.{Group as GroupTree, roll-Group}
use Rattle.c_tree.specs.declared.statement.Statement.{Statement as StatementTree, roll-Statement}
use Rattle.c_tree.specs.declared.statement.BlockItem.TheOpen.{Block-F, BlockItem-F, Group-F, Statement-F}
use Rattle.c_tree.specs.declared.statement.BlockItem.TheBlock.{the_family, member-BlockItem, member-Statement, member-Block, member-Group}
use Rattle.c_tree.specs.declared.statement.BlockItem.TheFolds.{claims, map-BlockItem, map-Statement, map-Block, map-Group, fold-Group}
use Rattle.c_tree.specs.declared.statement.BlockItem.TheFolds.{fold-roll-BlockItem, fold-roll-Statement, fold-roll-Block, fold-roll-Group, ind-Block}
use Rattle.c_program.specs.Tree.{Expression, Statement}
use Rattle.c_program.specs.Types.{type_of}
use Rattle.c_rules.specs.declared.findings.Findings.{Findings}
use Rattle.c_rules.specs.declared.names.Scope.{Scope}
use Rattle.c_rules.specs.Constants.{constancy, operator_count}
use Rattle.c_rules.specs.Names.{opened, closed}
use Rattle.c_rules.specs.Walks.{Outcome, pure, through, place_in_tree, ◌>>=◌, ◌>>◌}
use Rattle.c_expressions.specs.Cuts.{Cut, free_from}
use Rattle.c_expressions.specs.Expressions.{condition, looked, value}
use Rattle.c_expressions.specs.Sequences.{sequence}
use Rattle.c_resolution.specs.Simple.{simple, returned, check_break, check_continue}
use Rattle.c_resolution.specs.Locals.{declaration}
use Rattle.c_resolution.specs.States.{State, Goes, finding, in_scope, scoping}
use Rattle.c_resolution.specs.Statements as y
use Rattle.c_resolution.specs.Statements.{Adds, Cases, Groups, item_step, statement_step, block_step, group_step, item, statement, items, group}
use Rattle.c_broken_rules.specs.Sight.{Names, Where, behind, inside}
use Rattle.c_broken_rules.specs.Parts as p
use Rattle.c_broken_rules.specs.Parts.{Part, Parts, Sighted, Itemed, Grouped, of_any, of_all, item_layer, statement_layer, block_layer, group_layer, item_parts, statement_parts, block_parts}
use Rattle.c_broken_rules.proofs.Ledgers.{Ledger, Good, Writes, given, left, after_one, good_pure, good_then, good_before, nothing_new, writes_both}
use Rattle.c_broken_rules.proofs.Labels.{IsNoted, none_noted, same_noted, label_noted}
use Rattle.c_broken_rules.proofs.Values.{good_condition, good_looked, good_value}
use Rattle.c_broken_rules.proofs.Simple as k
use Rattle.c_broken_rules.proofs.Locals as l
use Rattle.c_broken_rules.proofs.Walks.{Scoping, Right, Goes_right, within, right_pure, right_then, right_before, right_finding, right_finding_is, right_scoping, right_as}

regroup : (ps cs ss bs : Parts) → (ps ++ (cs ++ ss)) ++ bs ≡ ps ++ (cs ++ (ss ++ bs))
regroup ps cs ss bs = simp append_assoc

in_scope_gives : {A : Type 0} (Is : A → Type 0) (scope : Scope) (o : Outcome Findings A) → Is (given o) → Is (given (in_scope scope o))
in_scope_gives Is scope (Outcome.Gives a found) h = h

module _ (L : Ledger) (S : Scoping L) where
  condition_is : (v : ExpressionTree) (w : Where) → Goes_right L S w (finding (λ s. condition s v s.kept_from)) (λ _. Unit {0}) (p.expression_parts w v) w
  condition_is v w =
      right_finding L S (λ s. condition s v s.kept_from) (p.expression_parts w v) w (λ s agrees. good_condition L s w (S.events s w agrees) v s.kept_from)

  simple_is : (x : SimpleStatement) (w : Where) → Goes_right L S w (finding (λ s. simple s x)) (λ _. Unit {0}) (p.simple_parts w x) w
  simple_is x w = right_finding L S (λ s. simple s x) (p.simple_parts w x) w (λ s agrees. k.simple L s w (S.events s w agrees) (S.creates s w agrees) x)

  done : {A : Type 0} (a : A) (w : Where) → Goes_right L S w (pure a) (λ _. Unit {0}) [] w
  done a w = right_pure L S (λ _. Unit {0}) a w tt

  break_is : (at : ℕ) (w : Where) → Goes_right L S w (y.break_at at) (λ _. Unit {0}) [] w
  break_is at w =
      right_then L S (finding (λ s. check_break s at)) (λ _. pure Statement.Break) (λ _. Unit {0}) (λ _. Unit {0}) [] [] w w w
      (right_finding L S (λ s. check_break s at) [] w (λ s agrees. k.break_is L s w (S.events s w agrees) at)) (λ _ _. done Statement.Break w)

  continue_is : (at : ℕ) (w : Where) → Goes_right L S w (y.continue_at at) (λ _. Unit {0}) [] w
  continue_is at w =
      right_then L S (finding (λ s. check_continue s at)) (λ _. pure Statement.Continue) (λ _. Unit {0}) (λ _. Unit {0}) [] [] w w w
      (right_finding L S (λ s. check_continue s at) [] w (λ s agrees. k.continue_is L s w (S.events s w agrees) at)) (λ _ _. done Statement.Continue w)

  -- ---- what is claimed of each tree

  abbrev IsItem : Adds → Itemed → Type 0
  IsItem walk q = (steps : List Statement) (w : Where) → Goes_right L S w (walk steps) (λ _. Unit {0}) (q.parts w) (behind q.names w)

  abbrev IsStatement : Goes Statement → Sighted → Type 0
  IsStatement walk q = (w : Where) → Goes_right L S w walk (λ _. Unit {0}) (q w) w

  -- a block in the scope at hand, which may declare more names
  pub record IsBlock (walk : Goes Statement) (q : Sighted) : Type 0 where
    pub end : Names → Where → Names
    pub is : (scope : Names) (w : Where) → Goes_right L S (within scope w) walk (λ _. Unit {0}) (q (within scope w)) (within (end scope w) w)

  -- a group of a switch, behind those labels
  abbrev IsGroup : Groups → Grouped → Type 0
  IsGroup walk q =
      (over : ExpressionTree) (ty : IntegerType) (before : List CaseLabel) (c : Cases) (w : Where) → S.IsSwitched w over ty → IsNoted ty before c →
      Goes_right L S w (walk ty c) (IsNoted ty (before ++ q.label ∷ [])) (of_any (p.expression_parts w) q.label.value ++ (Part.Label w over before q.label ∷ q.parts w)) w

  -- ---- loops

  loop_body : (body : Goes Statement) (q : Sighted) → IsStatement body q → IsStatement (y.loop_body body) q
  unfolding y.loop_body
  loop_body body q h w =
      right_then L S (scoping y.deeper) (λ _. body >>= (λ b. scoping y.shallower >> pure b)) (λ _. Unit {0}) (λ _. Unit {0}) [] (q w) w w w
      (right_scoping L S y.deeper w w (λ s agrees. S.loops s w (min (s.loops + 1) 0xffff_ffff_ffff_ffff) (min (s.exits + 1) 0xffff_ffff_ffff_ffff) agrees))
      (λ _ _. right_before L S body (λ b. scoping y.shallower >> pure b) (λ _. Unit {0}) (λ _. Unit {0}) (q w) w w w (h w)
      (λ b _. right_then L S (scoping y.shallower) (λ _. pure b) (λ _. Unit {0}) (λ _. Unit {0}) [] [] w w w
      (right_scoping L S y.shallower w w (λ s agrees. S.loops s w (s.loops - 1) (s.exits - 1) agrees)) (λ _ _. done b w)))

  declared_start : (d : Declaration) (w : Where) → Goes_right L S w (y.declared_start d) (λ _. Unit {0}) (p.declaration_parts w d) (behind (p.declared_names d) w)
  declared_start d w =
      let v = behind (p.declared_names d) w in
      right_before L S (declaration [] d) (λ steps. pure (sequence steps)) (λ _. Unit {0}) (λ _. Unit {0}) (p.declaration_parts w d) w v v (l.declaration L S [] d w)
      (λ steps _. done (sequence steps) v)

  same_names : {A : Type 0} (walk : Goes A) (ps : Parts) (w : Where) → Goes_right L S w walk (λ _. Unit {0}) ps w → Goes_right L S w walk (λ _. Unit {0}) ps (behind [] w)
  same_names walk ps w h = right_as L S walk (λ _. Unit {0}) (λ _. Unit {0}) ps w w (behind [] w) (λ _ u. u) (λ s agrees. S.no_names s w agrees) h

  start_is : (begin : ForStart) (w : Where) → Goes_right L S w (y.for_start begin) (λ _. Unit {0}) (p.start_parts begin w) (behind (p.start_names begin) w)
  start_is start.Nothing w = same_names (y.for_start start.Nothing) [] w (done Statement.Done w)
  start_is (start.Declaration d) w = declared_start d w
  start_is (start.Simple x) w = same_names (y.for_start (start.Simple x)) (p.simple_parts w x) w (simple_is x w)

  for_condition : (test : Option ExpressionTree) (w : Where) → Goes_right L S w (finding (y.for_condition test)) (λ _. Unit {0}) (of_any (p.expression_parts w) test) w
  for_condition None w = right_finding L S (y.for_condition None) [] w (λ s agrees. good_pure L y.int_one)
  for_condition (Some v) w = condition_is v w

  for_step : (step : Option SimpleStatement) (w : Where) → Goes_right L S w (finding (y.for_step step)) (λ _. Unit {0}) (of_any (p.simple_parts w) step) w
  for_step None w = right_finding L S (y.for_step None) [] w (λ s agrees. good_pure L Statement.Done)
  for_step (Some x) w = simple_is x w

  -- the head and the body of a for, in a scope of their own
  for_loop : (begin : ForStart) (test : Option ExpressionTree) (step : Option SimpleStatement) (body : Goes Statement) (q : Sighted) → IsStatement body q →
      IsStatement (y.for_loop begin test step body) (p.for_parts begin test step q)
  unfolding y.for_loop y.for_head
  for_loop begin test step body q h w x agrees =
      let opening = S.is_open x.scope w agrees in
      let v = behind (p.start_names begin) (inside w) in
      let ps = p.start_parts begin (inside w) in
      let cs = of_any (p.expression_parts v) test in
      let ss = of_any (p.simple_parts v) step in
      let last = λ (first c : Statement). finding (y.for_step step) >>= (λ l. pure (first, c, l)) in
      let head = y.for_start begin >>= (λ first. finding (y.for_condition test) >>= (λ c. last first c)) in
      let rest = λ (head : y.Head). y.loop_body body >>= (λ b. scoping closed >> pure (y.for_of head b)) in
      let head_is : Goes_right L S (inside w) head (λ _. Unit {0}) (ps ++ (cs ++ ss)) v =
      right_then L S (y.for_start begin) (λ first. finding (y.for_condition test) >>= (λ c. last first c)) (λ _. Unit {0}) (λ _. Unit {0}) ps (cs ++ ss) (inside w) v v
      (start_is begin (inside w))
      (λ first _. right_then L S (finding (y.for_condition test)) (λ c. last first c) (λ _. Unit {0}) (λ _. Unit {0}) cs ss v v v (for_condition test v)
      (λ c _. right_before L S (finding (y.for_step step)) (λ l. pure (first, c, l)) (λ _. Unit {0}) (λ _. Unit {0}) ss v v v (for_step step v)
      (λ l _. done (first, c, l) v))) in
      let rest_is : (head : y.Head) → Goes_right L S v (rest head) (λ _. Unit {0}) (q v) w = λ head.
      right_before L S (y.loop_body body) (λ b. scoping closed >> pure (y.for_of head b)) (λ _. Unit {0}) (λ _. Unit {0}) (q v) v v w (loop_body body q h v)
      (λ b _. right_then L S (scoping closed) (λ _. pure (y.for_of head b)) (λ _. Unit {0}) (λ _. Unit {0}) [] [] v w w
      (right_scoping L S closed v w (λ s here. S.closed s (p.start_names begin) w opening here)) (λ _ _. done (y.for_of head b) w)) in
      right_then L S (scoping opened) (λ _. head >>= rest) (λ _. Unit {0}) (λ _. Unit {0}) [] (ps ++ (cs ++ (ss ++ q v))) w (inside w) w
      (right_scoping L S opened w (inside w) (λ s agrees. S.opened s w agrees))
      (λ _ _. subst (λ rs. Goes_right L S (inside w) (head >>= rest) (λ _. Unit {0}) rs w) (regroup ps cs ss (q v))
      (right_then L S head rest (λ _. Unit {0}) (λ _. Unit {0}) (ps ++ (cs ++ ss)) (q v) (inside w) v w head_is (λ head _. rest_is head))) x agrees

  -- ---- lists of items

  abbrev ItemClaim : BlockItemTree → Type 0
  ItemClaim x = IsItem (item x) (item_parts x)

  abbrev StatementClaim : StatementTree → Type 0
  StatementClaim x = IsStatement (statement x) (statement_parts x)

  abbrev BlockClaim : BlockTree → Type 0
  BlockClaim x = IsBlock (items x) (block_parts x)

  abbrev group_parts : GroupTree → Grouped
  group_parts = fold-Group Itemed Sighted Sighted Grouped item_layer statement_layer block_layer group_layer

  abbrev GroupClaim : GroupTree → Type 0
  GroupClaim x = IsGroup (group x) (group_parts x)

  abbrev SomeItem : Type 0
  SomeItem = Such the_family (claims ItemClaim StatementClaim BlockClaim GroupClaim) member-BlockItem

  abbrev SomeStatement : Type 0
  SomeStatement = Such the_family (claims ItemClaim StatementClaim BlockClaim GroupClaim) member-Statement

  abbrev SomeBlock : Type 0
  SomeBlock = Such the_family (claims ItemClaim StatementClaim BlockClaim GroupClaim) member-Block

  abbrev SomeGroup : Type 0
  SomeGroup = Such the_family (claims ItemClaim StatementClaim BlockClaim GroupClaim) member-Group

  abbrev names_behind : List Itemed → Names → Names
  names_behind [] scope = scope
  names_behind (i ∷ more) scope = names_behind more (scope ++ i.names)

  items_are : (list : List SomeItem) (steps : List Statement) (scope : Names) (w : Where) →
      Goes_right L S (within scope w) (through (λ steps add. add steps) steps (map item (map (λ e. e.0) list))) (λ _. Unit {0})
      (p.items_parts (map item_parts (map (λ e. e.0) list)) (within scope w)) (within (names_behind (map item_parts (map (λ e. e.0) list)) scope) w)
  items_are [] steps scope w x agrees = record { writes = nothing_new L x.found; agrees = agrees; value = tt }
  items_are (i ∷ list) steps scope w x agrees =
      let walk = λ (steps : List Statement) (add : Adds). add steps in
      let rest = map item (map (λ e. e.0) list) in
      let o = item i.0 steps x in
      let first = i.1 steps (within scope w) x agrees in
      let second = items_are list (given o) (scope ++ (item_parts i.0).names) w (left o) first.agrees in
      let ps = (item_parts i.0).parts (within scope w) in
      let qs = p.items_parts (map item_parts (map (λ e. e.0) list)) (within (scope ++ (item_parts i.0).names) w) in
      let v = within (names_behind (map item_parts (map (λ e. e.0) list)) (scope ++ (item_parts i.0).names)) w in
      subst (λ (z : Outcome State (List Statement)). Right L S.Agrees x z (λ _. Unit {0}) (ps ++ qs) v) (sym (after_one walk steps (item i.0) rest x))
      (record { writes = writes_both L ps qs first.writes second.writes; agrees = second.agrees; value = tt })

  -- ---- each layer

  abbrev seen_item : BlockItem-F SomeItem SomeStatement SomeBlock SomeGroup → BlockItem-F BlockItemTree StatementTree BlockTree GroupTree
  seen_item y = map-BlockItem SomeItem SomeStatement SomeBlock SomeGroup BlockItemTree StatementTree BlockTree GroupTree (λ e. e.0) (λ e. e.0) (λ e. e.0) (λ e. e.0) y

  abbrev walks_in_item : BlockItem-F BlockItemTree StatementTree BlockTree GroupTree → BlockItem-F Adds (Goes Statement) (Goes Statement) Groups
  walks_in_item x = map-BlockItem BlockItemTree StatementTree BlockTree GroupTree Adds (Goes Statement) (Goes Statement) Groups item statement items group x

  abbrev parts_in_item : BlockItem-F BlockItemTree StatementTree BlockTree GroupTree → BlockItem-F Itemed Sighted Sighted Grouped
  parts_in_item x = map-BlockItem BlockItemTree StatementTree BlockTree GroupTree Itemed Sighted Sighted Grouped item_parts statement_parts block_parts group_parts x

  abbrev seen_statement : Statement-F SomeItem SomeStatement SomeBlock SomeGroup → Statement-F BlockItemTree StatementTree BlockTree GroupTree
  seen_statement y = map-Statement SomeItem SomeStatement SomeBlock SomeGroup BlockItemTree StatementTree BlockTree GroupTree (λ e. e.0) (λ e. e.0) (λ e. e.0) (λ e. e.0) y

  abbrev walks_in_statement : Statement-F BlockItemTree StatementTree BlockTree GroupTree → Statement-F Adds (Goes Statement) (Goes Statement) Groups
  walks_in_statement x = map-Statement BlockItemTree StatementTree BlockTree GroupTree Adds (Goes Statement) (Goes Statement) Groups item statement items group x

  abbrev parts_in_statement : Statement-F BlockItemTree StatementTree BlockTree GroupTree → Statement-F Itemed Sighted Sighted Grouped
  parts_in_statement x = map-Statement BlockItemTree StatementTree BlockTree GroupTree Itemed Sighted Sighted Grouped item_parts statement_parts block_parts group_parts x

  abbrev seen_block : Block-F SomeItem SomeStatement SomeBlock SomeGroup → Block-F BlockItemTree StatementTree BlockTree GroupTree
  seen_block y = map-Block SomeItem SomeStatement SomeBlock SomeGroup BlockItemTree StatementTree BlockTree GroupTree (λ e. e.0) (λ e. e.0) (λ e. e.0) (λ e. e.0) y

  abbrev walks_in_block : Block-F BlockItemTree StatementTree BlockTree GroupTree → Block-F Adds (Goes Statement) (Goes Statement) Groups
  walks_in_block x = map-Block BlockItemTree StatementTree BlockTree GroupTree Adds (Goes Statement) (Goes Statement) Groups item statement items group x

  abbrev parts_in_block : Block-F BlockItemTree StatementTree BlockTree GroupTree → Block-F Itemed Sighted Sighted Grouped
  parts_in_block x = map-Block BlockItemTree StatementTree BlockTree GroupTree Itemed Sighted Sighted Grouped item_parts statement_parts block_parts group_parts x

  abbrev seen_group : Group-F SomeItem SomeStatement SomeBlock SomeGroup → Group-F BlockItemTree StatementTree BlockTree GroupTree
  seen_group y = map-Group SomeItem SomeStatement SomeBlock SomeGroup BlockItemTree StatementTree BlockTree GroupTree (λ e. e.0) (λ e. e.0) (λ e. e.0) (λ e. e.0) y

  abbrev walks_in_group : Group-F BlockItemTree StatementTree BlockTree GroupTree → Group-F Adds (Goes Statement) (Goes Statement) Groups
  walks_in_group x = map-Group BlockItemTree StatementTree BlockTree GroupTree Adds (Goes Statement) (Goes Statement) Groups item statement items group x

  abbrev parts_in_group : Group-F BlockItemTree StatementTree BlockTree GroupTree → Group-F Itemed Sighted Sighted Grouped
  parts_in_group x = map-Group BlockItemTree StatementTree BlockTree GroupTree Itemed Sighted Sighted Grouped item_parts statement_parts block_parts group_parts x

  block_case : (x : Block-F SomeItem SomeStatement SomeBlock SomeGroup) → IsBlock (block_step (walks_in_block (seen_block x))) (block_layer (parts_in_block (seen_block x)))
  block_case x =
      let walks = map item (map (λ e. e.0) x.items) in
      let parts = map item_parts (map (λ e. e.0) x.items) in
      record {
        end = λ scope w. names_behind parts scope;
        is = λ scope w.
            right_before L S (y.block_items walks) (λ steps. pure (sequence steps)) (λ _. Unit {0}) (λ _. Unit {0}) (p.items_parts parts (within scope w)) (within scope w)
            (within (names_behind parts scope) w) (within (names_behind parts scope) w) (items_are x.items [] scope w)
            (λ steps _. done (sequence steps) (within (names_behind parts scope) w));
      }

  item_case : (x : BlockItem-F SomeItem SomeStatement SomeBlock SomeGroup) → IsItem (item_step (walks_in_item (seen_item x))) (item_layer (parts_in_item (seen_item x)))
  item_case (BlockItem-F.Declaration d) = λ steps w. l.declaration L S steps d w
  item_case (BlockItem-F.Statement t) = λ steps w.
      same_names (y.with_step (statement t.0) steps) (statement_parts t.0 w) w
      (right_before L S (statement t.0) (λ step. pure (steps ++ step ∷ [])) (λ _. Unit {0}) (λ _. Unit {0}) (statement_parts t.0 w) w w w (t.1 w)
      (λ step _. done (steps ++ step ∷ []) w))

  block_statement : (body : Goes Statement) (q : Sighted) → IsBlock body q → IsStatement (y.block_statement body) (λ w. q (inside w))
  block_statement body q h w x agrees =
      let opening = S.is_open x.scope w agrees in
      let v = within (h.end [] w) w in
      right_then L S (scoping opened) (λ _. body >>= (λ b. scoping closed >> pure (y.block_of b))) (λ _. Unit {0}) (λ _. Unit {0}) [] (q (inside w)) w (inside w) w
      (right_scoping L S opened w (inside w) (λ s agrees. S.opened s w agrees))
      (λ _ _. right_before L S body (λ b. scoping closed >> pure (y.block_of b)) (λ _. Unit {0}) (λ _. Unit {0}) (q (inside w)) (inside w) v w (h.is [] w)
      (λ b _. right_then L S (scoping closed) (λ _. pure (y.block_of b)) (λ _. Unit {0}) (λ _. Unit {0}) [] [] v w w
      (right_scoping L S closed v w (λ s here. S.closed s (h.end [] w) w opening here)) (λ _ _. done (y.block_of b) w))) x agrees

  branch : (test : ExpressionTree) (a b : Goes Statement) (ps qs : Sighted) → IsStatement a ps → IsStatement b qs → (w : Where) →
      Goes_right L S w (finding (λ s. condition s test s.kept_from) >>= (λ c. a >>= (λ x. b >>= (λ y. pure (Statement.If c x y))))) (λ _. Unit {0})
      (p.expression_parts w test ++ (ps w ++ qs w)) w
  branch test a b ps qs h k w =
      right_then L S (finding (λ s. condition s test s.kept_from)) (λ c. a >>= (λ x. b >>= (λ y. pure (Statement.If c x y)))) (λ _. Unit {0}) (λ _. Unit {0}) (p.expression_parts w test)
      (ps w ++ qs w) w w w (condition_is test w)
      (λ c _. right_then L S a (λ x. b >>= (λ y. pure (Statement.If c x y))) (λ _. Unit {0}) (λ _. Unit {0}) (ps w) (qs w) w w w (h w)
      (λ x _. right_before L S b (λ y. pure (Statement.If c x y)) (λ _. Unit {0}) (λ _. Unit {0}) (qs w) w w w (k w) (λ y _. done (Statement.If c x y) w)))

  if_case : (test : ExpressionTree) (a : SomeStatement) (o : Option SomeStatement) → let x : Statement-F SomeItem SomeStatement SomeBlock SomeGroup = Statement-F.If test a o in
      IsStatement (statement_step (walks_in_statement (seen_statement x))) (statement_layer (parts_in_statement (seen_statement x)))
  if_case test a None w = branch test (statement a.0) (pure Statement.Done) (statement_parts a.0) (λ v. []) a.1 (λ v. done Statement.Done v) w
  if_case test a (Some b) w = branch test (statement a.0) (statement b.0) (statement_parts a.0) (statement_parts b.0) a.1 b.1 w

  -- ---- switches

  label_by : (s : Scope) (w : Where) (over : ExpressionTree) (ty : IntegerType) (before : List CaseLabel) (l : CaseLabel) (c : Cases) (v : Option ExpressionTree) → l.value ≡ v →
      S.Agrees s w → S.IsSwitched w over ty → IsNoted ty before c →
      Good L (y.label_of ty v l.offset c s) (of_any (p.expression_parts w) v ++ Part.Label w over before l ∷ [])
  unfolding y.case_label
  label_by s w over ty before l c None is agrees at_type noted = S.default s w over ty before l c agrees at_type noted is
  label_by s w over ty before l c (Some e) is agrees at_type noted =
      let case = y.noted_case ty (constancy e) (out-Expression e).offset c in
      let made = λ (x : Cases). y.labelled (Some (y.case_value ty (constancy e))) (operator_count e) x in
      good_then L (looked s e) (λ _. case >>= (λ x. pure (made x))) (p.expression_parts w e) (Part.Label w over before l ∷ []) (good_looked L s w (S.events s w agrees) e)
      (λ _. good_before L case (λ x. pure (made x)) (Part.Label w over before l ∷ []) (S.case s w over ty before l e c agrees at_type noted is) (λ x. good_pure L (made x)))

  label_is : (over : ExpressionTree) (ty : IntegerType) (before : List CaseLabel) (l : CaseLabel) (c : Cases) (w : Where) → S.IsSwitched w over ty → IsNoted ty before c →
      Goes_right L S w (finding (y.label ty l c)) (IsNoted ty (before ++ l ∷ [])) (of_any (p.expression_parts w) l.value ++ Part.Label w over before l ∷ []) w
  label_is over ty before l c w at_type noted =
      right_finding_is L S (y.label ty l c) (IsNoted ty (before ++ l ∷ [])) (of_any (p.expression_parts w) l.value ++ Part.Label w over before l ∷ []) w
      (λ s agrees. label_by s w over ty before l c l.value refl agrees at_type noted) (λ s found. label_noted ty before l c s found noted)

  -- statements note no label
  statements_are : (list : List SomeStatement) (ty : IntegerType) (labels : List CaseLabel) (c : Cases) (w : Where) → IsNoted ty labels c →
      Goes_right L S w (through y.next_statement c (map statement (map (λ e. e.0) list))) (IsNoted ty labels) (of_all (map statement_parts (map (λ e. e.0) list)) w) w
  statements_are [] ty labels c w noted x agrees = record { writes = nothing_new L x.found; agrees = agrees; value = noted }
  statements_are (t ∷ list) ty labels c w noted x agrees =
      let rest = map statement (map (λ e. e.0) list) in
      let more = λ (step : Statement). let d : Cases = record c { steps = c.steps ++ step ∷ [] } in d in
      let o = y.next_statement c (statement t.0) x in
      let first = right_before L S (statement t.0) (λ step. pure (more step)) (λ _. Unit {0}) (IsNoted ty labels) (statement_parts t.0 w) w w w (t.1 w)
      (λ step _. right_pure L S (IsNoted ty labels) (more step) w (same_noted refl refl noted)) x agrees in
      let second = statements_are list ty labels (given o) w first.value (left o) first.agrees in
      let ps = statement_parts t.0 w in
      let qs = of_all (map statement_parts (map (λ e. e.0) list)) w in
      subst (λ (z : Outcome State Cases). Right L S.Agrees x z (IsNoted ty labels) (ps ++ qs) w) (sym (after_one y.next_statement c (statement t.0) rest x))
      (record { writes = writes_both L ps qs first.writes second.writes; agrees = second.agrees; value = second.value })

  group_case : (x : Group-F SomeItem SomeStatement SomeBlock SomeGroup) → IsGroup (group_step (walks_in_group (seen_group x))) (group_layer (parts_in_group (seen_group x)))
  group_case g over ty before c w at_type noted =
      let l = g.label in
      let es = of_any (p.expression_parts w) l.value in
      let qs = of_all (map statement_parts (map (λ e. e.0) g.statements)) w in
      let rest = λ (d : Cases). through y.next_statement d (map statement (map (λ e. e.0) g.statements)) in
      subst (λ ps. Goes_right L S w (finding (y.label ty l c) >>= rest) (IsNoted ty (before ++ l ∷ [])) ps w) (append_assoc es (Part.Label w over before l ∷ []) qs)
      (right_then L S (finding (y.label ty l c)) rest (IsNoted ty (before ++ l ∷ [])) (IsNoted ty (before ++ l ∷ [])) (es ++ Part.Label w over before l ∷ []) qs w w w
      (label_is over ty before l c w at_type noted) (λ d next. statements_are g.statements ty (before ++ l ∷ []) d w next))

  groups_are : (list : List SomeGroup) (over : ExpressionTree) (ty : IntegerType) (before : List CaseLabel) (c : Cases) (w : Where) → S.IsSwitched w over ty → IsNoted ty before c →
      Goes_right L S w (through (y.next_group ty) c (map group (map (λ e. e.0) list))) (λ _. Unit {0}) (p.groups_parts over before (map group_parts (map (λ e. e.0) list)) w) w
  groups_are [] over ty before c w at_type noted x agrees = record { writes = nothing_new L x.found; agrees = agrees; value = tt }
  groups_are (g ∷ list) over ty before c w at_type noted x agrees =
      let rest = map group (map (λ e. e.0) list) in
      let l = (group_parts g.0).label in
      let o = y.next_group ty c (group g.0) x in
      let first = g.1 over ty before c w at_type noted x agrees in
      let second = groups_are list over ty (before ++ l ∷ []) (given o) w at_type first.value (left o) first.agrees in
      let es = of_any (p.expression_parts w) l.value in
      let ps = Part.Label w over before l ∷ (group_parts g.0).parts w in
      let qs = p.groups_parts over (before ++ l ∷ []) (map group_parts (map (λ e. e.0) list)) w in
      subst (λ (z : Outcome State Cases). Right L S.Agrees x z (λ _. Unit {0}) (es ++ (ps ++ qs)) w) (sym (after_one (y.next_group ty) c (group g.0) rest x))
      (record {
        writes = subst (λ rs. Writes L x.found (left (through (y.next_group ty) (given o) rest (left o))).found rs) (append_assoc es ps qs)
            (writes_both L (es ++ ps) qs first.writes second.writes);
        agrees = second.agrees;
        value = tt;
      })

  body_is : (list : List SomeGroup) (over : ExpressionTree) (ty : IntegerType) (w : Where) → S.IsSwitched w over ty →
      Goes_right L S w (y.switch_body ty (map group (map (λ e. e.0) list))) (λ _. Unit {0}) (p.groups_parts over [] (map group_parts (map (λ e. e.0) list)) w) w
  unfolding y.switch_body
  body_is list over ty w at_type =
      let walk = through (y.next_group ty) y.no_cases (map group (map (λ e. e.0) list)) in
      let last = λ (c : Cases). scoping y.unswitched >> pure (sequence c.steps) in
      let ps = p.groups_parts over [] (map group_parts (map (λ e. e.0) list)) w in
      right_then L S (scoping y.switched) (λ _. walk >>= last) (λ _. Unit {0}) (λ _. Unit {0}) [] ps w w w
      (right_scoping L S y.switched w w (λ s agrees. S.loops s w s.loops (min (s.exits + 1) 0xffff_ffff_ffff_ffff) agrees))
      (λ _ _. right_before L S walk last (λ _. Unit {0}) (λ _. Unit {0}) ps w w w (groups_are list over ty [] y.no_cases w at_type (none_noted ty))
      (λ c _. right_then L S (scoping y.unswitched) (λ _. pure (sequence c.steps)) (λ _. Unit {0}) (λ _. Unit {0}) [] [] w w w
      (right_scoping L S y.unswitched w w (λ s agrees. S.loops s w s.loops (s.exits - 1) agrees)) (λ _ _. done (sequence c.steps) w)))

  -- the value, and the type at which the switch works
  abbrev IsAt : Where → ExpressionTree → Cut Expression → Type 0
  IsAt w e x = S.IsSwitched w e (promoted (type_of x.rest))

  value_is : (e : ExpressionTree) (at : ℕ) (w : Where) → Goes_right L S w (finding (λ s. value s e at (free_from s.kept_from))) (IsAt w e) (p.expression_parts w e) w
  value_is e at w x agrees =
      let walk = λ (s : Scope). value s e at (free_from s.kept_from) in
      let h = right_finding L S walk (p.expression_parts w e) w (λ s here. good_value L s w (S.events s w here) e at (free_from s.kept_from)) x agrees in
      record {
        writes = h.writes;
        agrees = h.agrees;
        value = in_scope_gives (IsAt w e) x.scope (walk x.scope x.found) (S.switched x.scope w e at (free_from x.scope.kept_from) x.found agrees);
      }

  switch_is : (e : ExpressionTree) (list : List SomeGroup) (at : ℕ) (w : Where) →
      Goes_right L S w (y.switch e (map group (map (λ e. e.0) list)) at) (λ _. Unit {0})
      (p.expression_parts w e ++ p.groups_parts e [] (map group_parts (map (λ e. e.0) list)) w) w
  unfolding y.switch
  switch_is e list at w =
      let groups = map group (map (λ e. e.0) list) in
      let ps = p.groups_parts e [] (map group_parts (map (λ e. e.0) list)) w in
      let body = λ (x : Cut Expression). y.switch_body (promoted (type_of x.rest)) groups in
      right_then L S (finding (λ s. value s e at (free_from s.kept_from))) (λ x. body x >>= (λ b. pure (y.switch_of at x b))) (IsAt w e) (λ _. Unit {0}) (p.expression_parts w e) ps
      w w w (value_is e at w)
      (λ x at_type. right_before L S (body x) (λ b. pure (y.switch_of at x b)) (λ _. Unit {0}) (λ _. Unit {0}) ps w w w (body_is list e (promoted (type_of x.rest)) w at_type)
      (λ b _. done (y.switch_of at x b) w))

  statement_case : (x : Statement-F SomeItem SomeStatement SomeBlock SomeGroup) →
      IsStatement (statement_step (walks_in_statement (seen_statement x))) (statement_layer (parts_in_statement (seen_statement x)))
  statement_case (Statement-F.Block b) = block_statement (items b.0) (block_parts b.0) b.1
  statement_case Statement-F.Empty = λ w. done Statement.Empty w
  statement_case (Statement-F.Simple x) = λ w. simple_is x w
  statement_case (Statement-F.Break at) = λ w. break_is at w
  statement_case (Statement-F.Continue at) = λ w. continue_is at w
  statement_case (Statement-F.If test a o) = if_case test a o
  statement_case (Statement-F.While test b) = λ w.
      right_then L S (finding (λ s. condition s test s.kept_from)) (λ c. y.loop_body (statement b.0) >>= (λ x. pure (y.while_of c x))) (λ _. Unit {0}) (λ _. Unit {0})
      (p.expression_parts w test)
      (statement_parts b.0 w) w w w (condition_is test w)
      (λ c _. right_before L S (y.loop_body (statement b.0)) (λ x. pure (y.while_of c x)) (λ _. Unit {0}) (λ _. Unit {0}) (statement_parts b.0 w) w w w
      (loop_body (statement b.0) (statement_parts b.0) b.1 w) (λ x _. done (y.while_of c x) w))
  statement_case (Statement-F.DoWhile b test) = λ w.
      right_then L S (y.loop_body (statement b.0)) (λ x. finding (λ s. condition s test s.kept_from) >>= (λ c. pure (y.do_while_of x c))) (λ _. Unit {0}) (λ _. Unit {0})
      (statement_parts b.0 w)
      (p.expression_parts w test) w w w (loop_body (statement b.0) (statement_parts b.0) b.1 w)
      (λ x _. right_before L S (finding (λ s. condition s test s.kept_from)) (λ c. pure (y.do_while_of x c)) (λ _. Unit {0}) (λ _. Unit {0}) (p.expression_parts w test) w w w
      (condition_is test w) (λ c _. done (y.do_while_of x c) w))
  statement_case (Statement-F.For begin test step b) = for_loop begin test step (statement b.0) (statement_parts b.0) b.1
  statement_case (Statement-F.Return x at) = λ w. right_finding L S (λ s. returned s x at) (p.returned_parts w x) w (λ s agrees. k.returned L s w (S.events s w agrees) x at)
  statement_case (Statement-F.Switch e groups at) = λ w. switch_is e groups (place_in_tree at) w

  -- ---- each tree

  item_induct : (x : BlockItem-F BlockItemTree StatementTree BlockTree GroupTree) (z : BlockItem-F SomeItem SomeStatement SomeBlock SomeGroup) → seen_item z ≡ x → ItemClaim (roll-BlockItem x)
  item_induct x z e = subst (λ t. ItemClaim (roll-BlockItem t)) e
      (subst (λ q. IsItem (item (roll-BlockItem (seen_item z))) q) (sym (fold-roll-BlockItem Itemed Sighted Sighted Grouped item_layer statement_layer block_layer group_layer (seen_item z)))
      (subst (λ w. IsItem w (item_layer (parts_in_item (seen_item z))))
      (sym (fold-roll-BlockItem Adds (Goes Statement) (Goes Statement) Groups item_step statement_step block_step group_step (seen_item z))) (item_case z)))

  statement_induct : (x : Statement-F BlockItemTree StatementTree BlockTree GroupTree) (z : Statement-F SomeItem SomeStatement SomeBlock SomeGroup) → seen_statement z ≡ x → StatementClaim
      (roll-Statement x)
  statement_induct x z e = subst (λ t. StatementClaim (roll-Statement t)) e
      (subst (λ q. IsStatement (statement (roll-Statement (seen_statement z))) q)
      (sym (fold-roll-Statement Itemed Sighted Sighted Grouped item_layer statement_layer block_layer group_layer (seen_statement z)))
      (subst (λ w. IsStatement w (statement_layer (parts_in_statement (seen_statement z))))
      (sym (fold-roll-Statement Adds (Goes Statement) (Goes Statement) Groups item_step statement_step block_step group_step (seen_statement z))) (statement_case z)))

  block_induct : (x : Block-F BlockItemTree StatementTree BlockTree GroupTree) (z : Block-F SomeItem SomeStatement SomeBlock SomeGroup) → seen_block z ≡ x → BlockClaim (roll-Block x)
  block_induct x z e = subst (λ t. BlockClaim (roll-Block t)) e
      (subst (λ q. IsBlock (items (roll-Block (seen_block z))) q) (sym (fold-roll-Block Itemed Sighted Sighted Grouped item_layer statement_layer block_layer group_layer (seen_block z)))
      (subst (λ w. IsBlock w (block_layer (parts_in_block (seen_block z))))
      (sym (fold-roll-Block Adds (Goes Statement) (Goes Statement) Groups item_step statement_step block_step group_step (seen_block z))) (block_case z)))

  group_induct : (x : Group-F BlockItemTree StatementTree BlockTree GroupTree) (z : Group-F SomeItem SomeStatement SomeBlock SomeGroup) → seen_group z ≡ x → GroupClaim (roll-Group x)
  group_induct x z e = subst (λ t. GroupClaim (roll-Group t)) e
      (subst (λ q. IsGroup (group (roll-Group (seen_group z))) q) (sym (fold-roll-Group Itemed Sighted Sighted Grouped item_layer statement_layer block_layer group_layer (seen_group z)))
      (subst (λ w. IsGroup w (group_layer (parts_in_group (seen_group z))))
      (sym (fold-roll-Group Adds (Goes Statement) (Goes Statement) Groups item_step statement_step block_step group_step (seen_group z))) (group_case z)))

  pub block : (x : BlockTree) → IsBlock (items x) (block_parts x)
  block = ind-Block ItemClaim StatementClaim BlockClaim GroupClaim item_induct statement_induct block_induct group_induct
