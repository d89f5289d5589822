-- How many locals the parts of a statement declare at most.
use Rattle.std.proofs.Common.{refl, ℕ, ◌≤◌, List, [], ◌∷◌, ◌++◌, length, Option, arith}
use Rattle.std.specs.Prelude.{◌+◌}
use Rattle.c_tree.specs.declared.expression.Expression.{Expression as ExpressionTree}
use Rattle.c_tree.specs.declared.declaration.Declaration.{Declaration}
use Rattle.c_tree.specs.declared.statement.SimpleStatement.{SimpleStatement}
use Rattle.c_tree.specs.declared.statement.ForStart.{ForStart}
use Rattle.c_program.specs.Tree.{Statement}
use Rattle.c_rules.specs.Names.{opened, closed}
use Rattle.hls_ints.specs.Types.{IntegerType, promoted}
use Rattle.c_program.specs.Types.{type_of}
use Rattle.c_rules.specs.declared.names.Scope.{Scope}
use Rattle.c_rules.specs.Walks.{pure, through, ◌>>=◌, ◌>>◌}
use Rattle.c_expressions.specs.Cuts.{free_from}
use Rattle.c_expressions.specs.Expressions.{condition, value}
use Rattle.c_expressions.specs.Sequences.{sequence}
use Rattle.c_resolution.specs.Simple.{check_break, check_continue}
use Rattle.c_resolution.specs.Locals.{declaration}
use Rattle.c_resolution.specs.States.{Goes, finding, scoping}
use Rattle.c_resolution.specs.Statements as y
use Rattle.c_resolved_program.proofs.LocalCounts.{Grows, grows_more, grows_then, grows_pure, grows_finding, grows_scoping, opened_locals, closed_same, declaration_grows}

pub in_turn : {A B : Type 0} (k m n : ℕ) (p : Goes A) (q : A → Goes B) → m + n ≤ k → Grows m p → ((a : A) → Grows n (q a)) → Grows k (p >>= q)
in_turn k m n p q le hp hq = grows_more (m + n) k (p >>= q) le (grows_then m n p q hp hq)

pub loop_body_grows : (n : ℕ) (body : Goes Statement) → Grows n body → Grows n (y.loop_body body)
unfolding y.loop_body
loop_body_grows n body h =
    let out = λ (b : Statement). scoping y.shallower >> pure b in
    in_turn n 0 n (scoping y.deeper) (λ _. body >>= out) (omega arith) (grows_scoping y.deeper (λ s. refl))
    (λ _. in_turn n n 0 body out (omega arith) h
    (λ b. in_turn 0 0 0 (scoping y.shallower) (λ _. pure b) (omega arith) (grows_scoping y.shallower (λ s. refl)) (λ _. grows_pure b)))

pub declared_start_grows : (d : Declaration) → Grows (length d.declarators) (y.declared_start d)
declared_start_grows d =
    in_turn (length d.declarators) (length d.declarators) 0 (declaration [] d) (λ steps. pure (sequence steps)) (omega arith) (declaration_grows [] d)
    (λ steps. grows_pure (sequence steps))

for_head_grows : (n : ℕ) (begin : ForStart) (test : Option ExpressionTree) (step : Option SimpleStatement) → Grows n (y.for_start begin) → Grows n (y.for_head begin test step)
unfolding y.for_head
for_head_grows n begin test step h =
    let out : Statement → Statement → Statement → Goes y.Head = λ first c last. pure (first, c, last) in
    let stepping = λ (first c : Statement). finding (y.for_step step) >>= out first c in
    in_turn n n 0 (y.for_start begin) (λ first. finding (y.for_condition test) >>= stepping first) (omega arith) h
    (λ first. in_turn 0 0 0 (finding (y.for_condition test)) (stepping first) (omega arith) (grows_finding (y.for_condition test))
    (λ c. in_turn 0 0 0 (finding (y.for_step step)) (out first c) (omega arith) (grows_finding (y.for_step step)) (λ last. grows_pure {A = y.Head} (first, c, last))))

pub for_loop_grows : (n m k : ℕ) (begin : ForStart) (test : Option ExpressionTree) (step : Option SimpleStatement) (body : Goes Statement) → m + k ≤ n →
    Grows m (y.for_start begin) → Grows k body → Grows n (y.for_loop begin test step body)
unfolding y.for_loop
for_loop_grows n m k begin test step body le first h =
    let out = λ (head : y.Head) (x : Statement). scoping closed >> pure (y.for_of head x) in
    let next = λ (head : y.Head). y.loop_body body >>= out head in
    in_turn n 0 n (scoping opened) (λ _. y.for_head begin test step >>= next) (omega arith) (grows_scoping opened opened_locals)
    (λ _. in_turn n m k (y.for_head begin test step) next le (for_head_grows m begin test step first)
    (λ head. in_turn k k 0 (y.loop_body body) (out head) (omega arith) (loop_body_grows k body h)
    (λ x. in_turn 0 0 0 (scoping closed) (λ _. pure (y.for_of head x)) (omega arith) (grows_scoping closed closed_same) (λ _. grows_pure (y.for_of head x)))))

pub block_statement_grows : (n : ℕ) (items : Goes Statement) → Grows n items → Grows n (y.block_statement items)
block_statement_grows n items h =
    let out = λ (body : Statement). scoping closed >> pure (y.block_of body) in
    in_turn n 0 n (scoping opened) (λ _. items >>= out) (omega arith) (grows_scoping opened opened_locals)
    (λ _. in_turn n n 0 items out (omega arith) h
    (λ body. in_turn 0 0 0 (scoping closed) (λ _. pure (y.block_of body)) (omega arith) (grows_scoping closed closed_same) (λ _. grows_pure (y.block_of body))))

pub branch_grows : (n m k : ℕ) (test : ExpressionTree) (consequent : Goes Statement) (alternative : Option (Goes Statement)) → m + k ≤ n → Grows m consequent →
    Grows k (y.missing_is_done alternative) → Grows n (y.branch test consequent alternative)
branch_grows n m k test consequent alternative le h other =
    let out = λ (c : Statement) (a b : Statement). pure (y.if_of c a b) in
    let second = λ (c : Statement) (a : Statement). y.missing_is_done alternative >>= out c a in
    in_turn n 0 n (finding (λ s. condition s test s.kept_from)) (λ c. consequent >>= second c) (omega arith) (grows_finding (λ s. condition s test s.kept_from))
    (λ c. in_turn n m k consequent (second c) le h
    (λ a. in_turn k k 0 (y.missing_is_done alternative) (out c a) (omega arith) other (λ b. grows_pure (y.if_of c a b))))

pub while_loop_grows : (n : ℕ) (test : ExpressionTree) (body : Goes Statement) → Grows n body → Grows n (y.while_loop test body)
while_loop_grows n test body h =
    let out = λ (c b : Statement). pure (y.while_of c b) in
    in_turn n 0 n (finding (λ s. condition s test s.kept_from)) (λ c. y.loop_body body >>= out c) (omega arith) (grows_finding (λ s. condition s test s.kept_from))
    (λ c. in_turn n n 0 (y.loop_body body) (out c) (omega arith) (loop_body_grows n body h) (λ b. grows_pure (y.while_of c b)))

pub do_while_grows : (n : ℕ) (body : Goes Statement) (test : ExpressionTree) → Grows n body → Grows n (y.do_while body test)
do_while_grows n body test h =
    let out = λ (b c : Statement). pure (y.do_while_of b c) in
    in_turn n n 0 (y.loop_body body) (λ b. finding (λ s. condition s test s.kept_from) >>= out b) (omega arith) (loop_body_grows n body h)
    (λ b. in_turn 0 0 0 (finding (λ s. condition s test s.kept_from)) (out b) (omega arith) (grows_finding (λ s. condition s test s.kept_from)) (λ c. grows_pure (y.do_while_of b c)))

pub break_grows : (at : ℕ) → Grows 0 (y.break_at at)
break_grows at = in_turn 0 0 0 (finding (λ s. check_break s at)) (λ _. pure Statement.Break) (omega arith) (grows_finding (λ s. check_break s at)) (λ _. grows_pure Statement.Break)

pub continue_grows : (at : ℕ) → Grows 0 (y.continue_at at)
continue_grows at =
    in_turn 0 0 0 (finding (λ s. check_continue s at)) (λ _. pure Statement.Continue) (omega arith) (grows_finding (λ s. check_continue s at)) (λ _. grows_pure Statement.Continue)

-- ---- switches

pub next_statement_grows : (n : ℕ) (c : y.Cases) (x : Goes Statement) → Grows n x → Grows n (y.next_statement c x)
next_statement_grows n c x h =
    in_turn n n 0 x (λ step. pure (record c { steps = c.steps ++ step ∷ [] })) (omega arith) h (λ step. grows_pure (record c { steps = c.steps ++ step ∷ [] }))

-- a switch grows as its groups do
pub switch_grows : (n : ℕ) (e : ExpressionTree) (groups : List y.Groups) (at : ℕ) →
    ((ty : IntegerType) → Grows n (through (λ c (g : y.Groups). g ty c) y.no_cases groups)) → Grows n (y.switch e groups at)
unfolding y.switch y.switch_body
switch_grows n e groups at h =
    let add = λ (ty : IntegerType) (c : y.Cases) (g : y.Groups). g ty c in
    let out = λ (c : y.Cases). scoping y.unswitched >> pure (sequence c.steps) in
    let body = λ (ty : IntegerType). scoping y.switched >> (through (add ty) y.no_cases groups >>= out) in
    let walk = λ (s : Scope). value s e at (free_from s.kept_from) in
    in_turn n 0 n (finding walk) (λ x. body (promoted (type_of x.rest)) >>= (λ b. pure (y.switch_of at x b))) (omega arith) (grows_finding walk)
    (λ x. in_turn n n 0 (body (promoted (type_of x.rest))) (λ b. pure (y.switch_of at x b)) (omega arith)
    (in_turn n 0 n (scoping y.switched) (λ _. through (add (promoted (type_of x.rest))) y.no_cases groups >>= out) (omega arith) (grows_scoping y.switched (λ s. refl))
    (λ _. in_turn n n 0 (through (add (promoted (type_of x.rest))) y.no_cases groups) out (omega arith) (h (promoted (type_of x.rest)))
    (λ c. in_turn 0 0 0 (scoping y.unswitched) (λ _. pure (sequence c.steps)) (omega arith) (grows_scoping y.unswitched (λ s. refl)) (λ _. grows_pure (sequence c.steps)))))
    (λ b. grows_pure (y.switch_of at x b)))

pub with_step_grows : (n : ℕ) (x : Goes Statement) (steps : List Statement) → Grows n x → Grows n (y.with_step x steps)
with_step_grows n x steps h = in_turn n n 0 x (λ step. pure (steps ++ step ∷ [])) (omega arith) h (λ step. grows_pure (steps ++ step ∷ []))
