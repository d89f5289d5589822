-- A function at file scope: what it leaves, and that its definition is in order.
use Rattle.std.proofs.Common.{◌≡◌, sym, ap, subst, ◌∙◌, ◌<◌, length, Some}
use Rattle.c_tree.specs.declared.statement.Block.{Block}
use Rattle.c_tree.specs.declared.declaration.Function.{Function as FunctionTree}
use Rattle.c_program.specs.Tree.{Program}
use Rattle.c_rules.specs.declared.findings.Findings.{Findings}
use Rattle.c_rules.specs.declared.names.Header.{Header}
use Rattle.c_rules.specs.Names.{closed}
use Rattle.c_rules.specs.Walks.{Outcome, place_in_tree, ◌>>◌}
use Rattle.c_resolution.specs.States.{State, state, scoping}
use Rattle.c_resolution.specs.Statements.{items}
use Rattle.c_resolution.specs.Files.{File, Declares, file, going}
use Rattle.c_resolution.specs.Functions as y
use Rattle.c_resolved_program.specs.Leaves.{AreValid, block_leaves}
use Rattle.c_resolved_program.specs.Orders.{left, given, IsPartOf, GivesRoutines}
use Rattle.c_resolved_program.proofs.Walks.{turn}
use Rattle.c_resolved_program.proofs.Functions.{in_file_is, named, head_is, before_body, defined_at, definition_is}
use Rattle.c_resolved_program.proofs.Definitions.{IsReady, IsDefined, definition_in_order}

-- what is known behind the head of a function
abbrev pub headed : FunctionTree → Header → File → File
headed f h x =
    let s = left (y.head f h (length x.tables.functions) (state x.scope x.found)) in
    file s.scope s.found x.tables

-- what a function with a body leaves
pub function_left : (f : FunctionTree) (h : Header) (body : Block) (x : File) → f.body ≡ Some body →
    left (y.function_by f h x) ≡
    (let d = left (y.definition f (y.return_type h) body (headed f h x)) in file (closed (y.without_locals d.scope)) d.found d.tables)
unfolding y.function_by
function_left f h body x is =
    let head : Declares (Unit {0}) = going (y.head f h (length x.tables.functions)) in
    let out : Declares (Unit {0}) = going (scoping y.without_locals) >> going (scoping closed) in
    let rest : Declares (Unit {0}) = y.body_of f (y.return_type h) f.body >> out in
    ap (λ (o : Outcome File (Unit {0})). left o) (turn (head x) (λ _. rest))
    ∙ ap (λ (o : Outcome File (Unit {0})). left (rest (left o))) (in_file_is x.tables (y.head f h (length x.tables.functions) (state x.scope x.found)))
    ∙ ap (λ b. left ((y.body_of f (y.return_type h) b >> out) (headed f h x))) is
    ∙ ap (λ (o : Outcome File (Unit {0})). left o) (turn (y.definition f (y.return_type h) body (headed f h x)) (λ _. out))

-- the definition is in order, where the scope behind the name is ready for it
pub function_defined : (whole : Findings) (P : Program) (given_routines : GivesRoutines whole P) (f : FunctionTree) (h : Header) (body : Block) (x : File) →
    AreValid (block_leaves body) →
    let code = defined_at f (y.return_type h) body (headed f h x) in
    let count = length x.tables.functions in
    code.declared_locals < 0xffff_ffff → IsReady P (place_in_tree count) f h code (named f h count (state x.scope x.found)) →
    IsPartOf whole (left (y.definition f (y.return_type h) body (headed f h x))).found → IsDefined whole P (place_in_tree count) h code
function_defined whole P given_routines f h body x valid =
    let count = length x.tables.functions in
    let n = named f h count (state x.scope x.found) in
    let code_of = λ (s : State).
    let o = items body (before_body count body s) in
    y.defined f (y.return_type h) body (length s.scope.locals) (given o) (left o).scope.locals (left o).scope.local_names in
    let e = head_is f h count (state x.scope x.found) in
    λ small ready part.
    let ended = subst (λ (z : File). IsPartOf whole z.found) (definition_is f (y.return_type h) body (headed f h x)) part in
    subst (λ (s : State). IsDefined whole P (place_in_tree count) h (code_of s)) (sym e)
    (definition_in_order whole P given_routines f h body count n valid
    (subst (λ (s : State). (code_of s).declared_locals < 0xffff_ffff) e small)
    (subst (λ (s : State). IsReady P (place_in_tree count) f h (code_of s) n) e ready)
    (subst (λ (s : State). IsPartOf whole (left (items body (before_body count body s))).found) e ended))
