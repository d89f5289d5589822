-- What is known behind each declaration of a generated text.
use Rattle.std.proofs.Common.{◌≡◌, ℕ, suc, List, [], ◌∷◌, ◌++◌, map, Some, None, true, false, refl, sym, ap}
use Rattle.std.proofs.Common.{◌∙◌}
use Rattle.std.specs.Prelude.{codes, min, pos}
use Rattle.hls_ints.specs.Types.{int_type, unsigned_int, long_int}
use Rattle.c_token.specs.declared.constant.ConstantType.TheVariants.{Int as IntConstant}
use Rattle.c_token.specs.declared.constant.Constant.TheVariants.{Typed}
use Rattle.c_tree.specs.declared.expression.Form.{Form}
use Rattle.c_tree.specs.declared.expression.Form.TheVariants as form
use Rattle.c_tree.specs.declared.expression.Argument.TheOpen.{Form-F}
use Rattle.c_tree.specs.declared.expression.Argument.TheFolds.{fold-Form, fold-roll-Form, fold-roll-Expression}
use Rattle.c_tree.specs.declared.statement.Block.{Block, out-Block}
use Rattle.c_program.specs.declared.tree.LocalVariable.{LocalVariable}
use Rattle.c_program.specs.declared.tree.ReturnType.TheVariants as returns_as
use Rattle.c_program.specs.Tree.{Expression, Statement, Function}
use Rattle.c_rules.specs.declared.dimensions.Dimensions.TheVariants.{Scalar}
use Rattle.c_rules.specs.declared.names.ObjectKind.TheVariants.{Thread, Mutex}
use Rattle.c_rules.specs.declared.constants.Constancy.{Constancy}
use Rattle.c_rules.specs.declared.constants.Constancy.TheVariants as is
use Rattle.c_rules.specs.Constants.{constancy, typed, Nothing, Operand, form_step}
use Rattle.c_program.specs.Resolved.{scalar}
use Rattle.c_rules.specs.declared.specifiers.BasicType.TheVariants.{Int}
use Rattle.c_rules.specs.declared.specifiers.BaseType.TheVariants as base
use Rattle.c_rules.specs.declared.findings.Findings.{Findings}
use Rattle.c_rules.specs.declared.names.Meaning.TheVariants as meaning
use Rattle.c_rules.specs.declared.names.Header.{Header}
use Rattle.c_rules.specs.declared.names.Gives.{Gives}
use Rattle.c_rules.specs.declared.names.Gives.TheVariants as gives
use Rattle.c_rules.specs.declared.names.Scope.{Scope}
use Rattle.c_rules.specs.Findings.{nothing}
use Rattle.c_rules.specs.Walks.{Outcome, and_then, place_in_tree}
use Rattle.c_rules.specs.Library.{function_named}
use Rattle.c_rules.specs.Names.{is_taken, declaring, opened, closed}
use Rattle.c_rules.specs.Specifiers.{base_of}
use Rattle.c_resolution.specs.Functions.{declare_function, parameter_meaning, parameter, parameters, definition, head, function_by, function}
use Rattle.c_resolution.specs.Globals.{global_variable, global_object, global_as, global, objects}
use Rattle.c_resolution.specs.Locals.{length_from, array_length, dimensions, new_local, declare}
use Rattle.c_resolution.specs.Statements.{items}
use Rattle.c_resolution.specs.States.{state}
use Rattle.c_resolution.specs.Globals.{text}
use Rattle.c_resolution.specs.Declarators.{block_declarators}
use Rattle.c_resolution.specs.Slots.{slots_end}
use Rattle.c_resolution.specs.Files.{File, Tables, file}
use Rattle.c_resolution.specs.Resolving.{no_tables, scope_with}
use Rattle.c_resolution.specs.Texts.{declaration as declares}
use Rattle.generated_profile.proofs.Trees as tr
use Rattle.generated_profile.proofs.Scopes.{Names, object_names, names_with_worker, worker_header, definitions, with_argument, worker_scope}
use Rattle.generated_profile.proofs.Layers as node
use Rattle.generated_profile.proofs.Lettered as word

-- ---- files

-- at file scope, where values were kept from that local on in the function before
abbrev outside : Names → List Header → Gives → ℕ → Scope
outside names headers back kept_from = record {
  definitions = definitions;
  outer = [];
  inner = names;
  headers = headers;
  function = None;
  gives = back;
  locals = [];
  local_names = [];
  loops = 0;
  exits = 0;
  kept_from = kept_from;
}

abbrev pub tables : ℕ → List Function → Tables
tables size functions = record {
  functions = functions;
  globals =
      record { name = text (codes "s"); ty = unsigned_int; length = 1; initial = [] }
      ∷ record { name = text (codes "g"); ty = unsigned_int; length = size; initial = [] } ∷ [];
  threads = record { length = size; routine = None } ∷ [];
  mutexes = record { length = 1; initialised = false } ∷ [];
  barriers = [];
}

abbrev pub behind_objects : ℕ → File
behind_objects size = file (outside (object_names size) [] gives.Unlisted 0) nothing (tables size [])

-- the length of an array that is declared with so many elements
abbrev pub size_of : ℕ → ℕ
size_of threads = min threads 0xffff_ffff_ffff_ffff

-- a constant as a constant expression
constancy_of : Form → Constancy
constancy_of =
    fold-Form Nothing Constancy Nothing Nothing Constancy Nothing Nothing Operand (λ a. tt) form_step (λ a. tt) (λ a. tt) (λ e. e.form) (λ a. tt) (λ a. tt)
    (λ t. (t.operator, t.operand))

constant_constancy : (n o : ℕ) → constancy (tr.constant n o) ≡ is.Constant (typed int_type (pos n))
unfolding constancy_of
constant_constancy n o =
    fold-roll-Expression Nothing Constancy Nothing Nothing Constancy Nothing Nothing Operand (λ a. tt) form_step (λ a. tt) (λ a. tt) (λ e. e.form) (λ a. tt) (λ a. tt)
    (λ t. (t.operator, t.operand)) (record { offset = o; form = form.Constant (Typed n IntConstant) o })
    ∙ ap constancy_of (sym (form.rolls-Constant (Typed n IntConstant) o))
    ∙ fold-roll-Form Nothing Constancy Nothing Nothing Constancy Nothing Nothing Operand (λ a. tt) form_step (λ a. tt) (λ a. tt) (λ e. e.form) (λ a. tt) (λ a. tt)
    (λ t. (t.operator, t.operand)) (Form-F.Constant (Typed n IntConstant) o)

array_is : (s : Scope) (k o : ℕ) (found : Findings) → array_length (tr.constant (suc k) o) s found ≡ Outcome.Gives (size_of (suc k)) found
unfolding array_length length_from
array_is s k o found =
    ap (λ (r : Outcome Findings (Unit {0})). and_then r (λ x. length_from (constancy (tr.constant (suc k) o)) o))
    (node.value_looked s (tr.constant (suc k) o) (Expression.Constant int_type (pos (suc k))) found (node.constant_value s (suc k) o found))
    ∙ ap (λ c. length_from c o found) (constant_constancy (suc k) o)

abbrev pub with_threads : ℕ → File
with_threads size =
    file (outside ((codes "t", meaning.Object (record { kind = Thread; number = 0; length = Some size })) ∷ []) [] gives.Unlisted 0) nothing
    (record no_tables { threads = record { length = size; routine = None } ∷ [] })

pub threads_declared : (k : ℕ) (at : ℕ → ℕ) → declares (tr.threads_object (suc k) at) (file (scope_with definitions) nothing no_tables)
    ≡ Outcome.Gives tt (with_threads (size_of (suc k)))
unfolding function_named is_taken declaring base_of dimensions declare global_variable global_object global_as global objects
threads_declared k at = rw (array_is (scope_with definitions) k (at 3) nothing) refl

abbrev pub with_mutex : ℕ → File
with_mutex size =
    file (outside ((codes "t", meaning.Object (record { kind = Thread; number = 0; length = Some size }))
    ∷ (codes "m", meaning.Object (record { kind = Mutex; number = 0; length = None })) ∷ []) [] gives.Unlisted 0) nothing
    (record no_tables { threads = record { length = size; routine = None } ∷ []; mutexes = record { length = 1; initialised = false } ∷ [] })

pub mutex_declared : (size : ℕ) (at : ℕ → ℕ) → declares (tr.mutex_object at) (with_threads size) ≡ Outcome.Gives tt (with_mutex size)
unfolding function_named is_taken declaring base_of dimensions declare global_variable global_object global_as global objects
mutex_declared size at = refl

abbrev pub with_sum : ℕ → File
with_sum size =
    file (outside ((codes "t", meaning.Object (record { kind = Thread; number = 0; length = Some size }))
    ∷ (codes "m", meaning.Object (record { kind = Mutex; number = 0; length = None }))
    ∷ (codes "s", word.static 0 Scalar) ∷ []) [] gives.Unlisted 0) nothing
    (record no_tables {
      threads = record { length = size; routine = None } ∷ [];
      mutexes = record { length = 1; initialised = false } ∷ [];
      globals = record { name = text (codes "s"); ty = unsigned_int; length = 1; initial = [] } ∷ [];
    })

pub sum_declared : (size : ℕ) (at : ℕ → ℕ) → declares (tr.sum_object at) (with_mutex size) ≡ Outcome.Gives tt (with_sum size)
unfolding function_named is_taken declaring base_of dimensions declare global_variable global_object global_as global objects
sum_declared size at = refl

pub elements_declared : (k : ℕ) (at : ℕ → ℕ) → declares (tr.elements_object (suc k) at) (with_sum (size_of (suc k))) ≡ Outcome.Gives tt (behind_objects (size_of (suc k)))
unfolding function_named is_taken declaring base_of dimensions declare global_variable global_object global_as global objects
elements_declared k at = rw (array_is (with_sum (size_of (suc k))).scope k (at 15) nothing) refl

-- the worker, by its body
abbrev pub worker_function : Statement → ℕ → Function
worker_function body end = record {
  name = text (codes "worker");
  returns = returns_as.Pointer;
  parameters = 1;
  declared_locals = 6;
  locals = scalar long_int ∷ scalar long_int ∷ scalar unsigned_int ∷ scalar unsigned_int ∷ scalar unsigned_int ∷ scalar unsigned_int ∷ [];
  local_names = map text (codes "arg" ∷ codes "id" ∷ codes "a" ∷ codes "b" ∷ codes "c" ∷ codes "d" ∷ []);
  body = body;
  end = place_in_tree end;
}

abbrev pub behind_worker : ℕ → Function → File
behind_worker size f = file (outside (names_with_worker size) (worker_header ∷ []) gives.Pointer 6) nothing (tables size (f ∷ []))

pub worker_declared : (size : ℕ) (at : ℕ → ℕ) (body : Block) (b : Statement) →
    block_declarators body ≡ 5 → slots_end b ≡ 0 → items body (state (with_argument size) nothing) ≡ Outcome.Gives b (state (worker_scope size) nothing) →
    declares (tr.worker_by at (Some body)) (behind_objects size) ≡ Outcome.Gives tt (behind_worker size (worker_function b (out-Block body).close))
unfolding function_named is_taken declaring opened closed base_of dimensions new_local declare declare_function parameter_meaning parameter parameters
    definition head function_by function
worker_declared size at body b from none h = rw from (rw h (rw from (rw none refl)))

-- ---- main, by its body

abbrev pub main_header : Header
main_header = record { returns = record { base = base.Integer Int; is_pointer = false }; parameters = []; is_main = true; definition = Some 1 }

abbrev pub names_with_main : ℕ → Names
names_with_main size = names_with_worker size ++ ((codes "main", meaning.Function 1) ∷ [])

abbrev in_main : ℕ → Names → List LocalVariable → List (List ℕ) → Scope
in_main size inner locals names = record {
  definitions = definitions;
  outer = names_with_main size ∷ [];
  inner = inner;
  headers = worker_header ∷ main_header ∷ [];
  function = Some 1;
  gives = gives.Integer;
  locals = locals;
  local_names = names;
  loops = 0;
  exits = 0;
  kept_from = 1;
}

abbrev pub main_begins : ℕ → Scope
main_begins size = in_main size [] [] []

abbrev pub main_scope : ℕ → Scope
main_scope size = in_main size ((codes "i", word.automatic 0 Int) ∷ []) (scalar int_type ∷ []) (codes "i" ∷ [])

abbrev pub main_function : Statement → ℕ → Function
main_function body end = record {
  name = text (codes "main");
  returns = returns_as.Integer int_type;
  parameters = 0;
  declared_locals = 1;
  locals = scalar int_type ∷ [];
  local_names = map text (codes "i" ∷ []);
  body = body;
  end = place_in_tree end;
}

-- with the creation of a worker
abbrev pub behind_main : ℕ → Function → Function → Findings → File
behind_main size worker f found = file (outside (names_with_main size) (worker_header ∷ main_header ∷ []) gives.Integer 1) found (tables size (worker ∷ f ∷ []))

pub main_declared : (size : ℕ) (at : ℕ → ℕ) (worker : Function) (body : Block) (b : Statement) (found : Findings) →
    block_declarators body ≡ 1 → slots_end b ≡ 0 → items body (state (main_begins size) nothing) ≡ Outcome.Gives b (state (main_scope size) found) →
    declares (tr.main_by at (Some body)) (behind_worker size worker) ≡ Outcome.Gives tt (behind_main size worker (main_function b (out-Block body).close) found)
unfolding function_named is_taken declaring opened closed base_of dimensions new_local declare declare_function parameter_meaning parameter parameters
    definition head function_by function
main_declared size at worker body b found from none h = rw from (rw h (rw from (rw none refl)))
