-- What the layers of a tree stand for, each by its parts.
use Rattle.std.proofs.Common.{◌≡◌, ℕ, List, [], ◌∷◌, ◌++◌, length, map, Option, Some, None, Bool, cond, refl, sym, ap, ◌∙◌}
use Rattle.std.specs.Prelude.{pos, fold, false, ◌&&◌}
use Rattle.hls_ints.specs.Types.{int_type}
use Rattle.c_token.specs.declared.constant.ConstantType.TheVariants.{Int}
use Rattle.c_token.specs.declared.constant.Constant.{Constant}
use Rattle.c_token.specs.declared.constant.Constant.TheVariants.{Typed}
use Rattle.c_tree.specs.declared.expression.Name.{Name}
use Rattle.c_tree.specs.declared.expression.Specifiers.{Specifiers}
use Rattle.c_tree.specs.declared.expression.BinaryOperator.{BinaryOperator}
use Rattle.c_tree.specs.declared.expression.Expression.{Expression as ExpressionTree}
use Rattle.c_tree.specs.declared.expression.Form.{Form}
use Rattle.c_tree.specs.declared.expression.Form.TheVariants as form
use Rattle.c_tree.specs.declared.expression.Place.{Place as PlaceTree, out-Place, out-roll-Place}
use Rattle.c_tree.specs.declared.expression.Call.{Call as CallTree, out-roll-Call}
use Rattle.c_tree.specs.declared.expression.Choice.{Choice as ChoiceTree}
use Rattle.c_tree.specs.declared.expression.Pointer.{Pointer as PointerTree}
use Rattle.c_tree.specs.declared.expression.Term.{Term}
use Rattle.c_tree.specs.declared.expression.Argument.{Argument as ArgumentTree}
use Rattle.c_tree.specs.declared.expression.Argument.TheVariants as argument
use Rattle.c_tree.specs.declared.expression.Argument.TheOpen.{Argument-F, Form-F, Place-F, Call-F}
use Rattle.c_tree.specs.declared.expression.Argument.TheFolds.{fold-Form, fold-roll-Argument, fold-roll-Form, fold-roll-Expression, fold-roll-Place, fold-roll-Term}
use Rattle.c_tree.specs.declared.declaration.Declaration.{Declaration}
use Rattle.c_tree.specs.declared.statement.AssignmentOperator.TheVariants.{Set}
use Rattle.c_tree.specs.declared.statement.SimpleStatement.{SimpleStatement}
use Rattle.c_tree.specs.declared.statement.Returned.{Returned}
use Rattle.c_tree.specs.declared.statement.ForStart.{ForStart}
use Rattle.c_tree.specs.declared.statement.Block.{Block}
use Rattle.c_tree.specs.declared.statement.BlockItem.{BlockItem}
use Rattle.c_tree.specs.declared.statement.BlockItem.TheVariants as block_item
use Rattle.c_tree.specs.declared.statement.BlockItem.TheOpen.{BlockItem-F, Statement-F}
use Rattle.c_tree.specs.declared.statement.BlockItem.TheFolds.{fold-roll-BlockItem, fold-roll-Statement, fold-roll-Block}
use Rattle.c_tree.specs.declared.statement.Statement.{Statement as StatementTree}
use Rattle.c_tree.specs.declared.statement.Statement.TheVariants as st
use Rattle.c_tree.specs.Trees as tree
use Rattle.c_program.specs.declared.tree.Storage.{Storage}
use Rattle.c_program.specs.Tree.{Expression, Place, ObjectPlace, ThreadCall, Statement}
use Rattle.c_rules.specs.declared.findings.Findings.{Findings}
use Rattle.c_rules.specs.declared.names.ObjectKind.{ObjectKind}
use Rattle.c_rules.specs.declared.names.Scope.{Scope}
use Rattle.c_rules.specs.declared.dimensions.Dimensions.{Dimensions}
use Rattle.c_rules.specs.declared.dimensions.Dimensions.TheVariants.{Scalar, One}
use Rattle.c_rules.specs.declared.names.Meaning.{Meaning}
use Rattle.c_rules.specs.declared.names.Meaning.TheVariants as meaning
use Rattle.c_rules.specs.declared.specifiers.BasicType.{BasicType}
use Rattle.c_rules.specs.declared.names.ObjectKind.TheVariants.{Mutex, Thread}
use Rattle.c_rules.specs.declared.names.Known.{Known}
use Rattle.c_rules.specs.declared.names.Known.TheVariants as known
use Rattle.c_rules.specs.declared.library.LibraryFunction.TheVariants as library
use Rattle.c_rules.specs.Names.{look_up}
use Rattle.c_rules.specs.Specifiers.{c_type}
use Rattle.c_rules.specs.Walks.{Outcome, and_then, pure, through, finds_any, place_in_tree, ◌>>=◌, ◌>>◌}
use Rattle.c_expressions.specs.Cuts.{Cuts, Cut, cut, free_from}
use Rattle.c_expressions.specs.Expressions.{Valued, Passed, Formed, Called, Choice, Meant, Placed, Pointed, Operand, meant, placed, term, chosen, test}
use Rattle.c_expressions.specs.Expressions.{argument_step, form_step, call_step, choice_step, expression_step, place_step, pointer_step, term_step}
use Rattle.c_expressions.specs.Expressions.{value, condition, looked, a_value, constant, constant_form, place_form, place_value, binary_form, cast, operated}
use Rattle.c_expressions.specs.Expressions.{is_short_circuit, are_short_circuits, truth_value, arithmetic_value, joined_condition, operand_condition}
use Rattle.c_expressions.specs.Expressions.{argument as passed, all_passed, all_values, next_value, looked_argument, terms_value, term_value}
use Rattle.c_expressions.specs.Expressions.{element_number, no_number, dimensions_of, variable_of, misuse, named_value}
use Rattle.c_expressions.specs.Sequences.{behind_cuts}
use Rattle.c_calls.specs.Calls.{call, call_of, library_call, library_statement, object_call, object_statement, thread_call}
use Rattle.c_calls.specs.Arguments.{ArgumentLayer, address_argument, address_in, object_place, object_named, object_at, object_dimensions, object_of}
use Rattle.c_expressions.specs.Callees.{library_name, library_place}
use Rattle.c_expressions.specs.Targets.{target, target_fault, named_place}
use Rattle.c_resolution.specs.States.{Goes, State, finding}
use Rattle.c_resolution.specs.Simple.{simple, assigned, returned}
use Rattle.c_resolution.specs.Locals.{declaration}
use Rattle.c_resolution.specs.Statements.{Adds, Groups, item, items, statement, item_step, statement_step, block_step, group_step, with_step}
use Rattle.c_resolution.specs.Statements.{block_statement, branch, for_loop}
use Rattle.generated_profile.proofs.Trees as tr

abbrev PlaceLayer : Type 0
PlaceLayer = Place-F ArgumentTree Form CallTree ChoiceTree ExpressionTree PlaceTree PointerTree Term

abbrev CallLayer : Type 0
CallLayer = Call-F ArgumentTree Form CallTree ChoiceTree ExpressionTree PlaceTree PointerTree Term

-- an expression without cuts: its value, whatever its step and the cuts before it
abbrev pub IsValue : Scope → ExpressionTree → Findings → Expression → Type 0
IsValue s e found v = (at : ℕ) (cuts : Cuts) → value s e at cuts found ≡ Outcome.Gives (cut cuts v) found

-- a place to assign to, without cuts
abbrev pub IsTarget : Scope → PlaceTree → Findings → Place → Type 0
IsTarget s p found q = (at : ℕ) (cuts : Cuts) → target s p at cuts found ≡ Outcome.Gives (cut cuts q) found

-- the address of an object of POSIX threads, without cuts
abbrev pub IsAddress : Scope → ObjectKind → ArgumentTree → Findings → ObjectPlace → Type 0
IsAddress s kind a found q = (at : ℕ) (cuts : Cuts) → address_argument s kind a at cuts found ≡ Outcome.Gives (cut cuts q) found

-- what the name of an integer object that is not const stands for
abbrev pub integer : Storage → ℕ → BasicType → Dimensions → Meaning
integer storage n ty dimensions = meaning.Variable (record { storage = storage; number = n; ty = ty; dimensions = dimensions; is_const = false })

abbrev pub object : ObjectKind → ℕ → Option ℕ → Meaning
object kind n length = meaning.Object (record { kind = kind; number = n; length = length })

-- ---- expressions

module _ (s : Scope) where
  abbrev formed : Form → Formed
  formed =
      fold-Form Passed Formed Called Choice Meant Placed Pointed Operand (argument_step s) (form_step s) (call_step s) (choice_step s) (expression_step s)
      (place_step s) (pointer_step s) (term_step s)

  expression_is : (at : ℕ) (f : Form) → meant s (tree.expression at f) ≡ expression_step s (record { offset = at; form = formed f })
  expression_is at f =
      fold-roll-Expression Passed Formed Called Choice Meant Placed Pointed Operand (argument_step s) (form_step s) (call_step s) (choice_step s)
      (expression_step s) (place_step s) (pointer_step s) (term_step s) (record { offset = at; form = f })

  constant_is : (c : Constant) (at : ℕ) → formed (form.Constant c at) ≡ constant_form s c at
  constant_is c at =
      ap formed (sym (form.rolls-Constant c at))
      ∙ fold-roll-Form Passed Formed Called Choice Meant Placed Pointed Operand (argument_step s) (form_step s) (call_step s) (choice_step s)
      (expression_step s) (place_step s) (pointer_step s) (term_step s) (Form-F.Constant c at)

  place_is : (p : PlaceTree) → formed (form.Place p) ≡ place_form s (placed s p)
  place_is p =
      ap formed (sym (form.rolls-Place p))
      ∙ fold-roll-Form Passed Formed Called Choice Meant Placed Pointed Operand (argument_step s) (form_step s) (call_step s) (choice_step s)
      (expression_step s) (place_step s) (pointer_step s) (term_step s) (Form-F.Place p)

  cast_is : (words : Specifiers) (e : ExpressionTree) → formed (form.Cast words e) ≡ a_value s (cast s words (meant s e))
  cast_is words e =
      ap formed (sym (form.rolls-Cast words e))
      ∙ fold-roll-Form Passed Formed Called Choice Meant Placed Pointed Operand (argument_step s) (form_step s) (call_step s) (choice_step s)
      (expression_step s) (place_step s) (pointer_step s) (term_step s) (Form-F.Cast words e)

  binary_is : (e : ExpressionTree) (terms : List Term) → formed (form.Binary e terms) ≡ binary_form s (meant s e) (map (term s) terms)
  binary_is e terms =
      ap formed (sym (form.rolls-Binary e terms))
      ∙ fold-roll-Form Passed Formed Called Choice Meant Placed Pointed Operand (argument_step s) (form_step s) (call_step s) (choice_step s)
      (expression_step s) (place_step s) (pointer_step s) (term_step s) (Form-F.Binary e terms)

  pub term_is : (op : BinaryOperator) (at : ℕ) (e : ExpressionTree) → term s (tree.term (op, at) e) ≡ record { operator = op; operand = meant s e }
  term_is op at e =
      fold-roll-Term Passed Formed Called Choice Meant Placed Pointed Operand (argument_step s) (form_step s) (call_step s) (choice_step s)
      (expression_step s) (place_step s) (pointer_step s) (term_step s) (record { operator = op; offset = at; operand = e })

  pub placed_is : (x : Name) (indices : List ExpressionTree) → placed s (tree.place x indices) ≡ record { name = x; indices = map (meant s) indices }
  placed_is x indices =
      fold-roll-Place Passed Formed Called Choice Meant Placed Pointed Operand (argument_step s) (form_step s) (call_step s) (choice_step s)
      (expression_step s) (place_step s) (pointer_step s) (term_step s) (record { name = x; indices = indices })

  -- ---- values

  value_is : (at : ℕ) (f : Form) → value s (tree.expression at f) ≡ (formed f).value
  value_is at f = ap (λ (m : Meant). m.value) (expression_is at f)

  pub constant_value : (n offset : ℕ) (found : Findings) → IsValue s (tr.constant n offset) found (Expression.Constant int_type (pos n))
  unfolding constant
  constant_value n offset found at cuts =
      ap (λ (w : Valued). w at cuts found)
      (value_is offset (form.Constant (Typed n Int) offset) ∙ ap (λ (f : Formed). f.value) (constant_is (Typed n Int) offset))

  -- an expression without cuts that is looked through
  pub value_looked : (e : ExpressionTree) (v : Expression) (found : Findings) → IsValue s e found v → looked s e found ≡ Outcome.Gives tt found
  value_looked e v found h =
      let o : ℕ = place_in_tree (meant s e).offset in
      ap (λ (r : Outcome Findings (Cut Expression)). and_then (and_then r (λ x. pure (chosen o x))) (λ x. pure tt)) (h o (free_from 0))

  -- what a place stands for, by what its name stands for
  abbrev valued : ℕ → Cuts → Name → List Meant → Findings → Known → Outcome Findings (Cut Expression)
  valued at cuts x indices found k =
      (element_number (dimensions_of (variable_of k)) indices at cuts >>= (λ number.
      (finds_any (misuse k (length indices)) x.offset >> pure (cut number.cuts (named_value (variable_of k) number.rest))))) found

  place_gives : (offset : ℕ) (x : Name) (indices : List ExpressionTree) (k : Known) (found : Findings) (at : ℕ) (cuts : Cuts) → look_up s x.bytes ≡ k →
      value s (tree.expression offset (form.Place (tree.place x indices))) at cuts found ≡ valued at cuts x (map (meant s) indices) found k
  unfolding place_value
  place_gives offset x indices k found at cuts look =
      ap (λ (w : Valued). w at cuts found)
      (value_is offset (form.Place (tree.place x indices)) ∙ ap (λ (f : Formed). f.value) (place_is (tree.place x indices))
      ∙ ap (place_value s) (placed_is x indices))
      ∙ ap (valued at cuts x (map (meant s) indices) found) look

  pub variable_value : (x : Name) (storage : Storage) (n : ℕ) (ty : BasicType) (found : Findings) → look_up s x.bytes ≡ known.Declared (integer storage n ty Scalar) →
      IsValue s (tr.variable x) found (Expression.Variable storage n (c_type ty))
  unfolding element_number no_number
  variable_value x storage n ty found look at cuts = place_gives x.offset x [] (known.Declared (integer storage n ty Scalar)) found at cuts look

  pub variable_meant : (x : Name) → meant s (tr.variable x)
      ≡ expression_step s (record { offset = x.offset; form = place_form s (record { name = x; indices = [] }) })
  variable_meant x =
      expression_is x.offset (form.Place (tree.place x []))
      ∙ ap (λ (f : Formed). expression_step s (record { offset = x.offset; form = f })) (place_is (tree.place x []) ∙ ap (place_form s) (placed_is x []))

  pub element_value : (offset : ℕ) (x : Name) (e : ExpressionTree) (i : Expression) (storage : Storage) (n size : ℕ) (ty : BasicType) (found : Findings) →
      look_up s x.bytes ≡ known.Declared (integer storage n ty (One size)) → IsValue s e found i →
      IsValue s (tree.expression offset (form.Place (tree.place x (e ∷ [])))) found (Expression.Element storage n size (c_type ty) i)
  unfolding element_number
  element_value offset x e i storage n size ty found look h at cuts =
      let k : Known = known.Declared (integer storage n ty (One size)) in
      place_gives offset x (e ∷ []) k found at cuts look
      ∙ ap (λ (r : Outcome Findings (Cut Expression)). and_then (and_then r (λ y. pure (cut y.cuts (Some y.rest))))
      (λ number. pure (cut number.cuts (named_value (variable_of k) number.rest)))) (h at cuts)

  pub cast_value : (offset : ℕ) (words : Specifiers) (e : ExpressionTree) (found : Findings) (at : ℕ) (cuts : Cuts) →
      value s (tree.expression offset (form.Cast words e)) at cuts found ≡ cast s words (meant s e) at cuts found
  cast_value offset words e found at cuts =
      ap (λ (w : Valued). w at cuts found) (value_is offset (form.Cast words e) ∙ ap (λ (f : Formed). f.value) (cast_is words e))

  -- operators one after another behind a value
  pub terms_next : (op : BinaryOperator) (offset : ℕ) (e : ExpressionTree) (more : List Operand) (x y v : Expression) (found : Findings) →
      IsValue s e found y → operated op x y ≡ v → (at : ℕ) (cuts : Cuts) →
      terms_value s at (cut cuts x) (term s (tree.term (op, offset) e) ∷ more) found ≡ terms_value s at (cut cuts v) more found
  unfolding terms_value
  terms_next op offset e more x y v found operand result at cuts =
      ap (λ (t : Operand). through (term_value s at) (cut cuts x) (t ∷ more) found) (term_is op offset e)
      ∙ ap (λ (r : Outcome Findings (Cut Expression)).
      fold (λ o t. and_then o (λ a. term_value s at a t)) (and_then r (λ b. pure (cut b.cuts (operated op x b.rest)))) more) (operand at cuts)
      ∙ ap (λ (w : Expression). fold (λ o t. and_then o (λ a. term_value s at a t)) (Outcome.Gives (cut cuts w) found) more) result

  pub terms_none : (x : Expression) (found : Findings) (at : ℕ) (cuts : Cuts) → terms_value s at (cut cuts x) [] found ≡ Outcome.Gives (cut cuts x) found
  unfolding terms_value
  terms_none x found at cuts = refl

  -- operators of which the first is no short circuit
  arithmetic : (op : BinaryOperator) (offset : ℕ) (e : ExpressionTree) (more : List Term) → is_short_circuit op ≡ false →
      are_short_circuits s (map (term s) (tree.term (op, offset) e ∷ more)) ≡ false
  arithmetic op offset e more plain =
      ap (λ (t : Operand). is_short_circuit t.operator && are_short_circuits s (map (term s) more)) (term_is op offset e)
      ∙ ap (λ (b : Bool). b && are_short_circuits s (map (term s) more)) plain

  plain_value : (offset : ℕ) (e : ExpressionTree) (op : BinaryOperator) (o : ℕ) (f : ExpressionTree) (more : List Term) (found : Findings) →
      is_short_circuit op ≡ false → (at : ℕ) (cuts : Cuts) →
      value s (tree.expression offset (form.Binary e (tree.term (op, o) f ∷ more))) at cuts found
      ≡ arithmetic_value s (meant s e) (map (term s) (tree.term (op, o) f ∷ more)) at cuts found
  plain_value offset e op o f more found plain at cuts =
      let terms : List Term = tree.term (op, o) f ∷ more in
      ap (λ (w : Valued). w at cuts found) (value_is offset (form.Binary e terms) ∙ ap (λ (f : Formed). f.value) (binary_is e terms))
      ∙ ap (λ (b : Bool). cond b (truth_value s (meant s e) (map (term s) terms) cuts) (arithmetic_value s (meant s e) (map (term s) terms) at cuts) found)
      (arithmetic op o f more plain)

  pub terms_from : (offset : ℕ) (e : ExpressionTree) (op : BinaryOperator) (o : ℕ) (f : ExpressionTree) (more : List Term) (x : Expression) (found : Findings) →
      is_short_circuit op ≡ false → IsValue s e found x → (at : ℕ) (cuts : Cuts) →
      value s (tree.expression offset (form.Binary e (tree.term (op, o) f ∷ more))) at cuts found
      ≡ terms_value s at (cut cuts x) (map (term s) (tree.term (op, o) f ∷ more)) found
  terms_from offset e op o f more x found plain h at cuts =
      plain_value offset e op o f more found plain at cuts
      ∙ ap (λ (r : Outcome Findings (Cut Expression)). and_then r (λ a. terms_value s at a (map (term s) (tree.term (op, o) f ∷ more)))) (h at cuts)

  -- an operator between two expressions
  pub between_value : (offset o : ℕ) (op : BinaryOperator) (e f : ExpressionTree) (x y v : Expression) (found : Findings) → is_short_circuit op ≡ false →
      IsValue s e found x → IsValue s f found y → operated op x y ≡ v →
      IsValue s (tree.expression offset (form.Binary e (tree.term (op, o) f ∷ []))) found v
  between_value offset o op e f x y v found plain first second result at cuts =
      terms_from offset e op o f [] x found plain first at cuts ∙ terms_next op o f [] x y v found second result at cuts ∙ terms_none v found at cuts

  -- the same as a condition, which is one operand
  pub between_condition : (offset o : ℕ) (op : BinaryOperator) (e f : ExpressionTree) (v : Expression) (found : Findings) (n : ℕ) → is_short_circuit op ≡ false →
      IsValue s (tree.expression offset (form.Binary e (tree.term (op, o) f ∷ []))) found v →
      condition s (tree.expression offset (form.Binary e (tree.term (op, o) f ∷ []))) n found ≡ Outcome.Gives (Statement.Test (place_in_tree offset) v) found
  between_condition offset o op e f v found n plain h =
      let terms : List Term = tree.term (op, o) f ∷ [] in
      let tested : Outcome Findings (Cut Expression) → Outcome Findings Statement =
      λ r. and_then (and_then r (λ x. pure (chosen (place_in_tree offset) x))) (λ x. pure (test x)) in
      ap (λ (m : Meant). m.condition n found)
      (expression_is offset (form.Binary e terms) ∙ ap (λ (f : Formed). expression_step s (record { offset = offset; form = f })) (binary_is e terms))
      ∙ ap (λ (b : Bool). cond b (joined_condition s (meant s e) (map (term s) terms) n)
      (operand_condition s (arithmetic_value s (meant s e) (map (term s) terms)) offset n) found) (arithmetic op o f [] plain)
      ∙ ap tested (sym (plain_value offset e op o f [] found plain (place_in_tree offset) (free_from n)) ∙ h (place_in_tree offset) (free_from n))

  -- ---- places

  pub layer_of_place : (x : Name) (indices : List ExpressionTree) → out-Place (tree.place x indices) ≡ record { name = x; indices = indices }
  layer_of_place x indices = out-roll-Place (record { name = x; indices = indices })

  -- what is assigned to, by what its name stands for
  abbrev targeted : ℕ → Cuts → Name → List Meant → ℕ → Findings → Known → Outcome Findings (Cut Place)
  targeted at cuts x indices count found k =
      (element_number (dimensions_of (variable_of k)) indices at cuts >>= (λ number.
      (finds_any (target_fault k count) x.offset >> pure (cut number.cuts (named_place (variable_of k) number.rest))))) found

  target_by : (x : Name) (indices : List ExpressionTree) (k : Known) (found : Findings) (at : ℕ) (cuts : Cuts) → look_up s x.bytes ≡ k →
      target s (tree.place x indices) at cuts found ≡ targeted at cuts x (map (meant s) indices) (length indices) found k
  unfolding target
  target_by x indices k found at cuts look =
      ap (λ (q : PlaceLayer). targeted at cuts q.name (placed s (tree.place x indices)).indices (length q.indices) found (look_up s q.name.bytes))
      (layer_of_place x indices)
      ∙ ap (λ (p : Placed). targeted at cuts x p.indices (length indices) found (look_up s x.bytes)) (placed_is x indices)
      ∙ ap (targeted at cuts x (map (meant s) indices) (length indices) found) look

  pub target_alone : (x : Name) (storage : Storage) (n : ℕ) (ty : BasicType) (found : Findings) → look_up s x.bytes ≡ known.Declared (integer storage n ty Scalar) →
      IsTarget s (tree.place x []) found (Place.Scalar storage n (c_type ty))
  unfolding element_number no_number
  target_alone x storage n ty found look at cuts = target_by x [] (known.Declared (integer storage n ty Scalar)) found at cuts look

  pub target_element : (x : Name) (e : ExpressionTree) (i : Expression) (storage : Storage) (n size : ℕ) (ty : BasicType) (found : Findings) →
      look_up s x.bytes ≡ known.Declared (integer storage n ty (One size)) → IsValue s e found i →
      IsTarget s (tree.place x (e ∷ [])) found (Place.Element storage n size (c_type ty) i)
  unfolding element_number
  target_element x e i storage n size ty found look h at cuts =
      let k : Known = known.Declared (integer storage n ty (One size)) in
      target_by x (e ∷ []) k found at cuts look
      ∙ ap (λ (r : Outcome Findings (Cut Expression)). and_then (and_then r (λ y. pure (cut y.cuts (Some y.rest))))
      (λ number. pure (cut number.cuts (named_place (variable_of k) number.rest)))) (h at cuts)

  -- ---- arguments

  -- an object, by what its name stands for
  abbrev addressed : ObjectKind → ℕ → Cuts → Name → List Meant → ℕ → ℕ → Findings → Known → Outcome Findings (Cut ObjectPlace)
  addressed kind at cuts x indices count offset found k =
      (element_number (object_dimensions (object_of kind k)) indices at cuts >>= (λ number.
      (object_named kind k x.offset offset count number.rest >>= (λ o. pure (cut number.cuts o))))) found

  object_by : (kind : ObjectKind) (x : Name) (indices : List ExpressionTree) (offset : ℕ) (k : Known) (found : Findings) (at : ℕ) (cuts : Cuts) → look_up s x.bytes ≡ k →
      object_place s kind (tree.place x indices) offset at cuts found ≡ addressed kind at cuts x (map (meant s) indices) (length indices) offset found k
  unfolding object_place
  object_by kind x indices offset k found at cuts look =
      ap (λ (q : PlaceLayer). addressed kind at cuts q.name (placed s (tree.place x indices)).indices (length q.indices) offset found (look_up s q.name.bytes))
      (layer_of_place x indices)
      ∙ ap (λ (p : Placed). addressed kind at cuts x p.indices (length indices) offset found (look_up s x.bytes)) (placed_is x indices)
      ∙ ap (addressed kind at cuts x (map (meant s) indices) (length indices) offset found) look

  address_by : (kind : ObjectKind) (p : PlaceTree) (offset : ℕ) (found : Findings) (at : ℕ) (cuts : Cuts) →
      address_argument s kind (argument.Address p offset) at cuts found ≡ object_place s kind p offset at cuts found
  unfolding address_argument
  address_by kind p offset found at cuts =
      ap (λ (l : ArgumentLayer). address_in s kind (argument.Address p offset) l at cuts found) (argument.outs-Address p offset)

  pub mutex_address : (x : Name) (n offset : ℕ) (found : Findings) → look_up s x.bytes ≡ known.Declared (object Mutex n None) →
      IsAddress s Mutex (argument.Address (tree.place x []) offset) found (ObjectPlace.Single n)
  unfolding element_number no_number object_named object_at
  mutex_address x n offset found look at cuts =
      address_by Mutex (tree.place x []) offset found at cuts ∙ object_by Mutex x [] offset (known.Declared (object Mutex n None)) found at cuts look

  pub thread_element : (x : Name) (e : ExpressionTree) (i : Expression) (n size offset : ℕ) (found : Findings) →
      look_up s x.bytes ≡ known.Declared (object Thread n (Some size)) → IsValue s e found i → (at : ℕ) (cuts : Cuts) →
      object_place s Thread (tree.place x (e ∷ [])) offset at cuts found ≡ Outcome.Gives (cut cuts (ObjectPlace.Element n size i)) found
  unfolding element_number object_named object_at
  thread_element x e i n size offset found look h at cuts =
      let k : Known = known.Declared (object Thread n (Some size)) in
      object_by Thread x (e ∷ []) offset k found at cuts look
      ∙ ap (λ (r : Outcome Findings (Cut Expression)). and_then (and_then r (λ y. pure (cut y.cuts (Some y.rest))))
      (λ number. (object_named Thread k x.offset offset 1 number.rest >>= (λ o. pure (cut number.cuts o))))) (h at cuts)

  pub thread_address : (x : Name) (e : ExpressionTree) (i : Expression) (n size offset : ℕ) (found : Findings) →
      look_up s x.bytes ≡ known.Declared (object Thread n (Some size)) → IsValue s e found i →
      IsAddress s Thread (argument.Address (tree.place x (e ∷ [])) offset) found (ObjectPlace.Element n size i)
  thread_address x e i n size offset found look h at cuts =
      address_by Thread (tree.place x (e ∷ [])) offset found at cuts ∙ thread_element x e i n size offset found look h at cuts

  -- ---- arguments of a printf

  value_passed : (e : ExpressionTree) → passed s (argument.Value e) ≡ argument_step s (Argument-F.Value (meant s e))
  value_passed e =
      ap (passed s) (sym (argument.rolls-Value e))
      ∙ fold-roll-Argument Passed Formed Called Choice Meant Placed Pointed Operand (argument_step s) (form_step s) (call_step s) (choice_step s)
      (expression_step s) (place_step s) (pointer_step s) (term_step s) (Argument-F.Value e)

  pub one_passed : (e : ExpressionTree) (v : Expression) (found : Findings) → IsValue s e found v → (at : ℕ) (cuts : Cuts) →
      all_passed s (argument.Value e ∷ []) at cuts found ≡ Outcome.Gives (cut cuts (v ∷ [])) found
  unfolding all_values
  one_passed e v found h at cuts =
      ap (λ (p : Passed). through (next_value at) (cut cuts []) (p ∷ []) found) (value_passed e)
      ∙ ap (λ (r : Outcome Findings (Cut Expression)). and_then r (λ x. pure (cut x.cuts (x.rest ∷ [])))) (h at cuts)

  pub text_looked : (bytes : List ℕ) (offset : ℕ) (found : Findings) → looked_argument s (argument.Text bytes offset) found ≡ Outcome.Gives tt found
  text_looked bytes offset found =
      ap (λ (a : ArgumentTree). looked_argument s a found) (sym (argument.rolls-Text bytes offset))
      ∙ ap (λ (p : Passed). p.looked found) (fold-roll-Argument Passed Formed Called Choice Meant Placed Pointed Operand (argument_step s) (form_step s)
      (call_step s) (choice_step s) (expression_step s) (place_step s) (pointer_step s) (term_step s) (Argument-F.Text bytes offset))

  -- ---- calls

  pub call_is : (at : ℕ) (f : Name) (list : List ArgumentTree) (k : Known) (found : Findings) → look_up s f.bytes ≡ k →
      call s at (tree.call f list) found ≡ call_of s k at f.offset list found
  unfolding call
  call_is at f list k found look =
      ap (λ (c : CallLayer). call_of s (look_up s c.name.bytes) at c.name.offset c.arguments found) (out-roll-Call (record { name = f; arguments = list }))
      ∙ ap (λ (l : Known). call_of s l at f.offset list found) look

  pub lock_is : (at name_at : ℕ) (a : ArgumentTree) (p : ObjectPlace) (found : Findings) → IsAddress s Mutex a found p →
      call_of s (known.Library library.MutexLock) at name_at (a ∷ []) found ≡ Outcome.Gives (Statement.Thread at (ThreadCall.MutexLock p)) found
  unfolding call_of library_call library_name library_place library_statement object_call object_statement
  lock_is at name_at a p found h =
      ap (λ (r : Outcome Findings (Cut ObjectPlace)). and_then r (λ q. pure (thread_call at q.cuts (ThreadCall.MutexLock q.rest)))) (h at (free_from s.kept_from))

  pub unlock_is : (at name_at : ℕ) (a : ArgumentTree) (p : ObjectPlace) (found : Findings) → IsAddress s Mutex a found p →
      call_of s (known.Library library.MutexUnlock) at name_at (a ∷ []) found ≡ Outcome.Gives (Statement.Thread at (ThreadCall.MutexUnlock p)) found
  unfolding call_of library_call library_name library_place library_statement object_call object_statement
  unlock_is at name_at a p found h =
      ap (λ (r : Outcome Findings (Cut ObjectPlace)). and_then r (λ q. pure (thread_call at q.cuts (ThreadCall.MutexUnlock q.rest)))) (h at (free_from s.kept_from))

-- ---- statements

module _ (s : Scope) (found : Findings) where
  -- an assignment without cuts
  pub assigns : (o : ℕ) (p : PlaceTree) (e : ExpressionTree) (q : Place) (v : Expression) → IsTarget s p found q → IsValue s e found v →
      simple s (tr.changed o p Set e) found ≡ Outcome.Gives (Statement.Assign (place_in_tree o) q v) found
  unfolding simple assigned
  assigns o p e q v first second =
      ap (λ (r : Outcome Findings (Cut Expression)). and_then r (λ right. (target s p (place_in_tree o) right.cuts
      >>= (λ w. pure (behind_cuts w.cuts.before (Statement.Assign (place_in_tree o) w.rest right.rest)))))) (second (place_in_tree o) (free_from s.kept_from))
      ∙ ap (λ (r : Outcome Findings (Cut Place)). and_then r (λ w. pure (behind_cuts w.cuts.before (Statement.Assign (place_in_tree o) w.rest v))))
      (first (place_in_tree o) (free_from s.kept_from))

pub statement_item : (x : StatementTree) → item (block_item.Statement x) ≡ with_step (statement x)
statement_item x =
    ap item (sym (block_item.rolls-Statement x))
    ∙ fold-roll-BlockItem Adds (Goes Statement) (Goes Statement) Groups item_step statement_step block_step group_step (BlockItem-F.Statement x)

pub declaration_item : (d : Declaration) → item (block_item.Declaration d) ≡ (λ steps. declaration steps d)
declaration_item d =
    ap item (sym (block_item.rolls-Declaration d))
    ∙ fold-roll-BlockItem Adds (Goes Statement) (Goes Statement) Groups item_step statement_step block_step group_step (BlockItem-F.Declaration d)

pub simple_statement : (x : SimpleStatement) → statement (st.Simple x) ≡ finding (λ s. simple s x)
simple_statement x =
    ap statement (sym (st.rolls-Simple x))
    ∙ fold-roll-Statement Adds (Goes Statement) (Goes Statement) Groups item_step statement_step block_step group_step (Statement-F.Simple x)

pub return_statement : (x : Returned) (at : ℕ) → statement (st.Return x at) ≡ finding (λ s. returned s x at)
return_statement x at =
    ap statement (sym (st.rolls-Return x at))
    ∙ fold-roll-Statement Adds (Goes Statement) (Goes Statement) Groups item_step statement_step block_step group_step (Statement-F.Return x at)

pub inner_block : (b : Block) → statement (st.Block b) ≡ block_statement (items b)
inner_block b =
    ap statement (sym (st.rolls-Block b))
    ∙ fold-roll-Statement Adds (Goes Statement) (Goes Statement) Groups item_step statement_step block_step group_step (Statement-F.Block b)

pub block_is : (list : List BlockItem) (close : ℕ) → items (tree.block list close) ≡ block_step (record { items = map item list; close = close })
block_is list close = fold-roll-Block Adds (Goes Statement) (Goes Statement) Groups item_step statement_step block_step group_step (record { items = list; close = close })

pub branch_statement : (test : ExpressionTree) (a : StatementTree) → statement (st.If test a None) ≡ branch test (statement a) None
branch_statement test a =
    ap statement (sym (st.rolls-If test a None))
    ∙ fold-roll-Statement Adds (Goes Statement) (Goes Statement) Groups item_step statement_step block_step group_step (Statement-F.If test a None)

pub for_statement : (first : ForStart) (test : Option ExpressionTree) (last : Option SimpleStatement) (body : StatementTree) →
    statement (st.For first test last body) ≡ for_loop first test last (statement body)
for_statement first test last body =
    ap statement (sym (st.rolls-For first test last body))
    ∙ fold-roll-Statement Adds (Goes Statement) (Goes Statement) Groups item_step statement_step block_step group_step (Statement-F.For first test last body)

-- items one after another
abbrev pub joins : Outcome State (List Statement) → Adds → Outcome State (List Statement)
joins o add = and_then o (λ x. add x)

pub items_append : (xs ys : List BlockItem) (o : Outcome State (List Statement)) → fold joins o (map item (xs ++ ys)) ≡ fold joins (fold joins o (map item xs)) (map item ys)
items_append [] ys o = refl
items_append (a ∷ xs) ys o = items_append xs ys (joins o (item a))
