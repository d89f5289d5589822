-- What is known in the worker of a generated text.
use Rattle.std.proofs.Common.{◌≡◌, ℕ, List, [], ◌∷◌, ◌++◌, Some, true, false, refl, ap, ◌∙◌}
use Rattle.std.specs.Prelude.{codes, fold}
use Rattle.hls_ints.specs.Types.{unsigned_int, long_int}
use Rattle.c_tree.specs.declared.expression.Expression.{Expression as ExpressionTree}
use Rattle.c_tree.specs.declared.expression.BinaryOperator.TheVariants as b
use Rattle.c_tree.specs.declared.expression.Form.TheVariants as form
use Rattle.c_tree.specs.declared.expression.TypeWord.TheVariants as w
use Rattle.c_tree.specs.declared.declaration.Declarator.{Declarator}
use Rattle.c_tree.specs.Trees as tree
use Rattle.c_program.specs.declared.tree.Storage.TheVariants.{Automatic}
use Rattle.c_program.specs.declared.tree.BinaryOperator.TheVariants as operator
use Rattle.c_program.specs.declared.tree.LocalVariable.{LocalVariable}
use Rattle.c_program.specs.Tree.{Expression, Place, Statement}
use Rattle.c_program.specs.Resolved.{scalar}
use Rattle.c_rules.specs.declared.dimensions.Dimensions.TheVariants.{Scalar, One}
use Rattle.c_rules.specs.declared.specifiers.BasicType.TheVariants.{UnsignedInt, Long}
use Rattle.c_rules.specs.declared.specifiers.BaseType.TheVariants as base
use Rattle.c_rules.specs.declared.findings.Findings.{Findings}
use Rattle.c_rules.specs.declared.names.ObjectKind.TheVariants.{Thread}
use Rattle.c_rules.specs.declared.specifiers.Spelled.{Spelled}
use Rattle.c_rules.specs.declared.names.Variable.{Variable}
use Rattle.c_rules.specs.declared.names.Meaning.{Meaning}
use Rattle.c_rules.specs.declared.names.Meaning.TheVariants as meaning
use Rattle.c_rules.specs.declared.names.Header.{Header}
use Rattle.c_rules.specs.declared.names.Gives.TheVariants as gives
use Rattle.c_rules.specs.declared.names.Scope.{Scope}
use Rattle.c_rules.specs.Library.{function_named}
use Rattle.c_rules.specs.Names.{look_up, is_taken, declaring, opened, closed}
use Rattle.c_rules.specs.Specifiers.{base_of, spelled_by}
use Rattle.c_rules.specs.Walks.{Outcome, and_then, pure, place_in_tree, ◌>>=◌}
use Rattle.c_expressions.specs.Cuts.{Cut, free_from}
use Rattle.c_expressions.specs.Expressions.{cast, converted, place_value, element_number, no_number, Meant}
use Rattle.c_resolution.specs.States.{Goes, State, state, in_scope}
use Rattle.c_resolution.specs.Locals.{declarator, dimensions, local, new_local, declare, initialised, initialised_by, declaration}
use Rattle.c_resolution.specs.Statements.{item}
use Rattle.generated_text.specs.declared.draws.Letter.TheVariants.{A, B, C, D}
use Rattle.generated_text.specs.Text.{byte_of}
use Rattle.generated_profile.proofs.Trees as tr
use Rattle.generated_profile.proofs.Layers as node
use Rattle.generated_profile.proofs.Lettered as word

abbrev pub Names : Type 0
Names = List (List ℕ × Meaning)

-- at file scope, by the length of the arrays
abbrev pub object_names : ℕ → Names
object_names size =
    (codes "t", meaning.Object (record { kind = Thread; number = 0; length = Some size }))
    ∷ (codes "m", word.lock_place)
    ∷ (codes "s", word.static 0 Scalar)
    ∷ (codes "g", word.static 1 (One size))
    ∷ []

abbrev pub worker_header : Header
worker_header = record {
  returns = record { base = base.Void; is_pointer = true };
  parameters = record { base = base.Void; is_pointer = true } ∷ [];
  is_main = false;
  definition = Some 0;
}

abbrev pub names_with_worker : ℕ → Names
names_with_worker size = object_names size ++ ((codes "worker", meaning.Function 0) ∷ [])

abbrev pub definitions : List (List ℕ × ℕ)
definitions = (codes "worker", 0) ∷ (codes "main", 1) ∷ []

-- in the worker, by its locals
abbrev pub inside : ℕ → Names → List LocalVariable → List (List ℕ) → Scope
inside size inner locals names = record {
  definitions = definitions;
  outer = names_with_worker size ∷ [];
  inner = inner;
  headers = worker_header ∷ [];
  function = Some 0;
  gives = gives.Pointer;
  locals = locals;
  local_names = names;
  loops = 0;
  exits = 0;
  kept_from = 6;
}

abbrev pub with_argument : ℕ → Scope
with_argument size = inside size ((codes "arg", meaning.Argument) ∷ []) (scalar long_int ∷ []) (codes "arg" ∷ [])

abbrev pub with_id : ℕ → Scope
with_id size =
    inside size ((codes "arg", meaning.Argument) ∷ (codes "id", word.automatic 1 Long) ∷ []) (scalar long_int ∷ scalar long_int ∷ []) (codes "arg" ∷ codes "id" ∷ [])

abbrev pub with_a : ℕ → Scope
with_a size =
    inside size ((codes "arg", meaning.Argument) ∷ (codes "id", word.automatic 1 Long) ∷ (codes "a", word.automatic 2 UnsignedInt) ∷ [])
    (scalar long_int ∷ scalar long_int ∷ scalar unsigned_int ∷ []) (codes "arg" ∷ codes "id" ∷ codes "a" ∷ [])

abbrev pub with_b : ℕ → Scope
with_b size =
    inside size
    ((codes "arg", meaning.Argument) ∷ (codes "id", word.automatic 1 Long) ∷ (codes "a", word.automatic 2 UnsignedInt)
    ∷ (codes "b", word.automatic 3 UnsignedInt) ∷ [])
    (scalar long_int ∷ scalar long_int ∷ scalar unsigned_int ∷ scalar unsigned_int ∷ []) (codes "arg" ∷ codes "id" ∷ codes "a" ∷ codes "b" ∷ [])

abbrev pub with_c : ℕ → Scope
with_c size =
    inside size
    ((codes "arg", meaning.Argument) ∷ (codes "id", word.automatic 1 Long) ∷ (codes "a", word.automatic 2 UnsignedInt)
    ∷ (codes "b", word.automatic 3 UnsignedInt) ∷ (codes "c", word.automatic 4 UnsignedInt) ∷ [])
    (scalar long_int ∷ scalar long_int ∷ scalar unsigned_int ∷ scalar unsigned_int ∷ scalar unsigned_int ∷ [])
    (codes "arg" ∷ codes "id" ∷ codes "a" ∷ codes "b" ∷ codes "c" ∷ [])

-- where the lines stand
abbrev pub worker_scope : ℕ → Scope
worker_scope size =
    inside size
    ((codes "arg", meaning.Argument) ∷ (codes "id", word.automatic 1 Long) ∷ (codes "a", word.automatic 2 UnsignedInt)
    ∷ (codes "b", word.automatic 3 UnsignedInt) ∷ (codes "c", word.automatic 4 UnsignedInt) ∷ (codes "d", word.automatic 5 UnsignedInt) ∷ [])
    (scalar long_int ∷ scalar long_int ∷ scalar unsigned_int ∷ scalar unsigned_int ∷ scalar unsigned_int ∷ scalar unsigned_int ∷ [])
    (codes "arg" ∷ codes "id" ∷ codes "a" ∷ codes "b" ∷ codes "c" ∷ codes "d" ∷ [])

pub worker_means : (size : ℕ) → word.Means (worker_scope size) size
unfolding look_up function_named
worker_means size = record {
  letters = λ x. elim x as (λ y. look_up (worker_scope size) (byte_of y ∷ []) ≡ word.known_letter y) [ A ↦ refl | B ↦ refl | C ↦ refl | D ↦ refl ];
  id = refl;
  elements = refl;
  total = refl;
  mutex = refl;
  lock = refl;
  unlock = refl;
}

pub inner_means : (size : ℕ) → word.Means (opened (worker_scope size)) size
unfolding look_up function_named opened
inner_means size = record {
  letters = λ x. elim x as (λ y. look_up (opened (worker_scope size)) (byte_of y ∷ []) ≡ word.known_letter y) [ A ↦ refl | B ↦ refl | C ↦ refl | D ↦ refl ];
  id = refl;
  elements = refl;
  total = refl;
  mutex = refl;
  lock = refl;
  unlock = refl;
}

pub worker_closes : (size : ℕ) → closed (opened (worker_scope size)) ≡ worker_scope size
unfolding opened closed
worker_closes size = refl

-- ---- long id = (long)arg;

id_right : (size o p q : ℕ) (found : Findings) →
    node.IsValue (with_id size) (tree.expression o (form.Cast (tr.words (w.Long ∷ []) p) (tr.variable (tr.named (codes "arg") q)))) found
    (Expression.Cast long_int (Expression.Variable Automatic 0 long_int))
unfolding cast converted look_up function_named base_of
id_right size o p q found at cuts =
    let s : Scope = with_id size in
    let e : ExpressionTree = tr.variable (tr.named (codes "arg") q) in
    let words = tr.words (w.Long ∷ []) p in
    node.cast_value s o words e found at cuts ∙ ap (λ (m : Meant). cast s words m at cuts found) (node.variable_meant s (tr.named (codes "arg") q))

pub id_step : (size : ℕ) (at : ℕ → ℕ) (found : Findings) → item (tr.id_item at) [] (state (with_argument size) found)
    ≡ Outcome.Gives (Statement.Assign (place_in_tree (at 28)) (Place.Scalar Automatic 1 long_int)
    (Expression.Cast long_int (Expression.Variable Automatic 0 long_int)) ∷ []) (state (with_id size) found)
unfolding declaration declarator dimensions local new_local declare is_taken declaring function_named base_of initialised initialised_by
id_step size at found =
    ap (λ add. add [] (state (with_argument size) found)) (node.declaration_item (record {
      specifiers = tr.words (w.Long ∷ []) (at 27);
      declarators = tr.declarator (tr.named (codes "id") (at 28)) (Some (tree.expression (at 30) (form.Cast (tr.words (w.Long ∷ []) (at 31)) (tr.variable (tr.named (codes "arg") (at 33)))))) ∷ [];
    }))
    ∙ ap (λ r. and_then (in_scope (with_id size) (and_then r (initialised_by (Some (record { storage = Automatic; number = 1; ty = Long; dimensions = Scalar; is_const = false })) (at 28))))
    (λ step. pure (step ∷ []))) (id_right size (at 30) (at 31) (at 33) found (place_in_tree (at 28)) (free_from 6))

-- ---- unsigned a = (unsigned)id + 1, b = 2, c = 3, d = 4;

abbrev first_tree : (ℕ → ℕ) → ExpressionTree
first_tree at =
    tree.expression (at 38) (form.Binary
    (tree.expression (at 38) (form.Cast (tr.words (w.Unsigned ∷ []) (at 39)) (tr.variable (tr.named (codes "id") (at 41)))))
    (tree.term (b.Add, (at 42)) (tr.constant 1 (at 43)) ∷ []))

-- an unsigned local of that number
abbrev unsigned_local : ℕ → Variable
unsigned_local n = record { storage = Automatic; number = n; ty = UnsignedInt; dimensions = Scalar; is_const = false }

abbrev unsigned_words : ℕ → Spelled
unsigned_words o = spelled_by (tr.words (w.Unsigned ∷ []) o)

abbrev first_value : Expression
first_value = word.unsigned_of operator.Add (Expression.Cast unsigned_int word.id_value) (word.int_number 1)

first_gives : (size : ℕ) (at : ℕ → ℕ) (found : Findings) → node.IsValue (with_a size) (first_tree at) found first_value
unfolding cast converted look_up function_named base_of place_value element_number no_number
first_gives size at found =
    let s : Scope = with_a size in
    let words = tr.words (w.Unsigned ∷ []) (at 39) in
    let e : ExpressionTree = tr.variable (tr.named (codes "id") (at 41)) in
    let converted_id : node.IsValue s (tree.expression (at 38) (form.Cast words e)) found (Expression.Cast unsigned_int word.id_value) =
    λ step cuts.
    node.cast_value s (at 38) words e found step cuts ∙ ap (λ (m : Meant). cast s words m step cuts found) (node.variable_meant s (tr.named (codes "id") (at 41))) in
    node.between_value s (at 38) (at 42) b.Add (tree.expression (at 38) (form.Cast words e)) (tr.constant 1 (at 43))
    (Expression.Cast unsigned_int word.id_value) (word.int_number 1) first_value found refl converted_id (node.constant_value s 1 (at 43) found) refl

declares_a : (size o : ℕ) (e : ExpressionTree) (v : Expression) (found : Findings) →
    node.IsValue (with_a size) e found v →
    (p : ℕ) → declarator (unsigned_words p) (tr.declarator (tr.named (codes "a") o) (Some e)) (state (with_id size) found)
    ≡ Outcome.Gives (word.set_to o A v) (state (with_a size) found)
unfolding declarator dimensions local new_local declare is_taken declaring function_named base_of initialised initialised_by
declares_a size o e v found h p =
    ap (λ (r : Outcome Findings (Cut Expression)). in_scope (with_a size) (and_then r (initialised_by (Some (unsigned_local 2)) o))) (h (place_in_tree o) (free_from 6))

declares_b : (size o : ℕ) (e : ExpressionTree) (v : Expression) (found : Findings) →
    node.IsValue (with_b size) e found v →
    (p : ℕ) → declarator (unsigned_words p) (tr.declarator (tr.named (codes "b") o) (Some e)) (state (with_a size) found)
    ≡ Outcome.Gives (word.set_to o B v) (state (with_b size) found)
unfolding declarator dimensions local new_local declare is_taken declaring function_named base_of initialised initialised_by
declares_b size o e v found h p =
    ap (λ (r : Outcome Findings (Cut Expression)). in_scope (with_b size) (and_then r (initialised_by (Some (unsigned_local 3)) o))) (h (place_in_tree o) (free_from 6))

declares_c : (size o : ℕ) (e : ExpressionTree) (v : Expression) (found : Findings) →
    node.IsValue (with_c size) e found v →
    (p : ℕ) → declarator (unsigned_words p) (tr.declarator (tr.named (codes "c") o) (Some e)) (state (with_b size) found)
    ≡ Outcome.Gives (word.set_to o C v) (state (with_c size) found)
unfolding declarator dimensions local new_local declare is_taken declaring function_named base_of initialised initialised_by
declares_c size o e v found h p =
    ap (λ (r : Outcome Findings (Cut Expression)). in_scope (with_c size) (and_then r (initialised_by (Some (unsigned_local 4)) o))) (h (place_in_tree o) (free_from 6))

declares_d : (size o : ℕ) (e : ExpressionTree) (v : Expression) (found : Findings) →
    node.IsValue (worker_scope size) e found v →
    (p : ℕ) → declarator (unsigned_words p) (tr.declarator (tr.named (codes "d") o) (Some e)) (state (with_c size) found)
    ≡ Outcome.Gives (word.set_to o D v) (state (worker_scope size) found)
unfolding declarator dimensions local new_local declare is_taken declaring function_named base_of initialised initialised_by
declares_d size o e v found h p =
    ap (λ (r : Outcome Findings (Cut Expression)). in_scope (worker_scope size) (and_then r (initialised_by (Some (unsigned_local 5)) o))) (h (place_in_tree o) (free_from 6))

-- behind other steps
pub letters_step : (size : ℕ) (at : ℕ → ℕ) (found : Findings) (steps : List Statement) → item (tr.letters_item at) steps (state (with_id size) found)
    ≡ Outcome.Gives (steps ++ (word.set_to (at 36) A first_value ∷ []) ++ (word.set_to (at 45) B (word.int_number 2) ∷ [])
    ++ (word.set_to (at 49) C (word.int_number 3) ∷ []) ++ (word.set_to (at 53) D (word.int_number 4) ∷ [])) (state (worker_scope size) found)
unfolding declaration
letters_step size at found steps =
    let a : Declarator = tr.declarator (tr.named (codes "a") (at 36)) (Some (first_tree at)) in
    let b2 : Declarator = tr.declarator (tr.named (codes "b") (at 45)) (Some (tr.constant 2 (at 47))) in
    let c3 : Declarator = tr.declarator (tr.named (codes "c") (at 49)) (Some (tr.constant 3 (at 51))) in
    let d4 : Declarator = tr.declarator (tr.named (codes "d") (at 53)) (Some (tr.constant 4 (at 55))) in
    let walk : List Statement → Declarator → Goes (List Statement) =
    λ done x. (declarator (unsigned_words (at 35)) x >>= (λ step. pure (done ++ (step ∷ [])))) in
    let more : List Declarator → Outcome State (List Statement) → Outcome State (List Statement) = λ list r. fold (λ o x. and_then o (λ done. walk done x)) r list in
    let one : List Statement = steps ++ (word.set_to (at 36) A first_value ∷ []) in
    let two : List Statement = one ++ (word.set_to (at 45) B (word.int_number 2) ∷ []) in
    let three : List Statement = two ++ (word.set_to (at 49) C (word.int_number 3) ∷ []) in
    ap (λ add. add steps (state (with_id size) found))
    (node.declaration_item (record { specifiers = tr.words (w.Unsigned ∷ []) (at 35); declarators = a ∷ b2 ∷ c3 ∷ d4 ∷ [] }))
    ∙ ap (λ (r : Outcome State Statement). more (b2 ∷ c3 ∷ d4 ∷ []) (and_then r (λ step. pure (steps ++ (step ∷ [])))))
    (declares_a size (at 36) (first_tree at) first_value found (first_gives size at found) (at 35))
    ∙ ap (λ (r : Outcome State Statement). more (c3 ∷ d4 ∷ []) (and_then r (λ step. pure (one ++ (step ∷ [])))))
    (declares_b size (at 45) (tr.constant 2 (at 47)) (word.int_number 2) found (node.constant_value (with_b size) 2 (at 47) found) (at 35))
    ∙ ap (λ (r : Outcome State Statement). more (d4 ∷ []) (and_then r (λ step. pure (two ++ (step ∷ [])))))
    (declares_c size (at 49) (tr.constant 3 (at 51)) (word.int_number 3) found (node.constant_value (with_c size) 3 (at 51) found) (at 35))
    ∙ ap (λ (r : Outcome State Statement). and_then r (λ step. pure (three ++ (step ∷ []))))
    (declares_d size (at 53) (tr.constant 4 (at 55)) (word.int_number 4) found (node.constant_value (worker_scope size) 4 (at 55) found) (at 35))
