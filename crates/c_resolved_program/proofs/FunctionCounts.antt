-- What a function at file scope adds: one function at most, whose locals are its parameters and those of its body.
use Rattle.std.proofs.Common.{ℕ, ◌≤◌, length, Option, Some, None, le_trans, arith}
use Rattle.std.specs.Prelude.{◌+◌, ⊤}
use Rattle.c_tree.specs.declared.statement.Block.{Block}
use Rattle.c_tree.specs.declared.declaration.Function.{Function as FunctionTree}
use Rattle.c_program.specs.declared.tree.ReturnType.{ReturnType}
use Rattle.c_program.specs.Tree.{Statement}
use Rattle.c_rules.specs.declared.names.Header.{Header}
use Rattle.c_rules.specs.Constants.{plus}
use Rattle.c_rules.specs.Names.{closed}
use Rattle.c_rules.specs.Walks.{Outcome, place_in_tree, ◌>>=◌}
use Rattle.c_resolution.specs.States.{State, Goes, state, scoping}
use Rattle.c_resolution.specs.Files.{File, Tables as FileTables, Declares, in_file, going}
use Rattle.c_resolution.specs.Functions as y
use Rattle.c_resolution.specs.Declarators.{block_declarators}
use Rattle.c_resolution.specs.Resolving.{after}
use Rattle.c_resolution.specs.Statements.{items}
use Rattle.c_resolved_program.proofs.LocalCounts.{grows_scoping, closed_same}
use Rattle.c_resolved_program.proofs.ParameterCounts.{head_grows}
use Rattle.c_resolved_program.proofs.FileCounts.{IsTabled, IsSmall, Does, tabled_more, then_file, does_going, does_quiet, with_function_tabled}

-- a part that leaves so many declarations at most, however many locals it declares
abbrev Tables : {A : Type 0} → ℕ → ℕ → Declares A → Type 0
Tables m n w = (x : File) → IsTabled m x.tables → IsTabled n (after (w x)).tables

tables_then : {A B : Type 0} (m n : ℕ) (p : Declares A) (q : A → Declares B) → Tables m m p → ((a : A) → Tables m n (q a)) → Tables m n (p >>= q)
tables_then m n p q hp hq x h = then_file (p x) q (λ (z : File). IsTabled m z.tables) (λ (z : File). IsTabled n z.tables) (hp x h) hq

in_file_tables : {A : Type 0} (m : ℕ) (t : FileTables) (o : Outcome State A) → IsTabled m t → IsTabled m (after (in_file t o)).tables
in_file_tables m t (Outcome.Gives a s) h = h

tables_going : {A : Type 0} (m : ℕ) (w : Goes A) → Tables m m (going w)
tables_going m w x h = in_file_tables m x.tables (w (state x.scope x.found)) h

least_sum : (count k n j : ℕ) → count ≤ k → n ≤ j → plus (place_in_tree count) n ≤ k + j
least_sum count k n j h le = grind arith

finished_tables : (m n : ℕ) (f : FunctionTree) (returns : ReturnType) (body : Block) (count : ℕ) (b : Statement) → m + 1 ≤ n → y.kept_from count body ≤ n →
    Tables m n (y.finished f returns body count b)
finished_tables m n f returns body count b le fits x h = with_function_tabled m n (y.defined f returns body count b x.scope.locals x.scope.local_names) x.tables le fits h

definition_tables : (m k j n : ℕ) (f : FunctionTree) (returns : ReturnType) (body : Block) (x : File) → m + 1 ≤ n → k + j ≤ n → block_declarators body ≤ j → IsSmall m k x →
    IsTabled n (after (y.definition f returns body x)).tables
unfolding y.definition
definition_tables m k j n f returns body x le le' few h =
    let count = length x.scope.locals in
    let out = λ (b : Statement). going (scoping y.left) >>= (λ _. y.finished f returns body count b) in
    let next = λ (_ : Unit {0}). going (items body) >>= out in
    let enter = y.entered (place_in_tree (length x.tables.functions)) (y.kept_from count body) in
    let fits = least_sum count k (block_declarators body) j h.locals few in
    tables_then m n (going (scoping enter)) next (tables_going m (scoping enter))
    (λ _. tables_then m n (going (items body)) out (tables_going m (items body))
    (λ b. tables_then m n (going (scoping y.left)) (λ _. y.finished f returns body count b) (tables_going m (scoping y.left))
    (λ _. finished_tables m n f returns body count b le (le_trans fits le')))) x h.tables

-- what a body declares at most
abbrev pub BodyDeclares : ℕ → Option Block → Type 0
BodyDeclares j None = ⊤
BodyDeclares j (Some body) = block_declarators body ≤ j

body_tables : (m k j n : ℕ) (f : FunctionTree) (returns : ReturnType) (body : Option Block) (x : File) → m + 1 ≤ n → k + j ≤ n → BodyDeclares j body → IsSmall m k x →
    IsTabled n (after (y.body_of f returns body x)).tables
body_tables m k j n f returns None x le le' few h = tabled_more m n x.tables (omega (arith, le)) h.tables
body_tables m k j n f returns (Some body) x le le' few h = definition_tables m k j n f returns body x le le' few h

function_by_does : (m j n : ℕ) (f : FunctionTree) (h : Header) → m + 1 ≤ n → length f.parameters + j ≤ n → BodyDeclares j f.body → Does m 0 n 0 (y.function_by f h)
unfolding y.function_by
function_by_does m j n f h le le' few x small =
    let k = length f.parameters in
    let out = λ (_ : Unit {0}). going (scoping closed) in
    let empty = λ (_ : Unit {0}). going (scoping y.without_locals) >>= out in
    let next = λ (_ : Unit {0}). y.body_of f (y.return_type h) f.body >>= empty in
    let head = y.head f h (length x.tables.functions) in
    let Tabled : File → Type 0 = λ (z : File). IsTabled n z.tables in
    then_file (going head x) next (IsSmall m (0 + k)) (IsSmall n 0) (does_going m 0 k head (head_grows f h (length x.tables.functions)) x small)
    (λ _ z first. then_file (y.body_of f (y.return_type h) f.body z) empty Tabled (IsSmall n 0)
    (body_tables m (0 + k) j n f (y.return_type h) f.body z le (omega (arith, le')) few first)
    (λ _ w second. then_file (going (scoping y.without_locals) w) out (IsSmall n 0) (IsSmall n 0) (record { tables = second; locals = omega arith })
    (λ _ v last. does_quiet n 0 (scoping closed) (grows_scoping closed closed_same) v last)))

pub function_does : (m j n : ℕ) (f : FunctionTree) → m + 1 ≤ n → length f.parameters + j ≤ n → BodyDeclares j f.body → Does m 0 n 0 (y.function f)
unfolding y.function
function_does m j n f le le' few x small = function_by_does m j n f (y.header x.scope f) le le' few x small
