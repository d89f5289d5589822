-- The type of the value of an expression is the one that the declarations in sight say.
use Rattle.std.proofs.Common.{◌≡◌, refl, sym, subst, ap, ◌∙◌, ℕ, Bool, true, false, List, [], ◌∷◌, map, length, Option, Some, None}
use Rattle.std.specs.Prelude.{◌&&◌, fold, if◌then◌else◌, slice_get}
use Rattle.std.specs.List.{list_all}
use denote.Hole.Holds.{Such}
use Rattle.hls_ints.specs.Types.{IntegerType, int_type, promoted, usual_type}
use Rattle.c_token.specs.declared.constant.Constant.{Constant}
use Rattle.c_token.specs.declared.constant.Constant.TheVariants as constant
use Rattle.c_tree.specs.declared.expression.Name.{Name}
use Rattle.c_tree.specs.declared.expression.UnaryOperator.{UnaryOperator}
use Rattle.c_tree.specs.declared.expression.UnaryOperator.TheVariants as u
use Rattle.c_tree.specs.declared.expression.BinaryOperator.{BinaryOperator}
use Rattle.c_tree.specs.declared.expression.BinaryOperator.TheVariants as b
use Rattle.c_tree.specs.declared.expression.Specifiers.{Specifiers}
use Rattle.c_tree.specs.declared.expression.Argument.{Argument as ArgumentTree, roll-Argument}
use Rattle.c_tree.specs.declared.expression.Form.{Form as FormTree, roll-Form}
use Rattle.c_tree.specs.declared.expression.Call.{Call as CallTree, roll-Call}
use Rattle.c_tree.specs.declared.expression.Choice.{Choice as ChoiceTree, roll-Choice}
use Rattle.c_tree.specs.declared.expression.Expression.{Expression as ExpressionTree, roll-Expression}
use Rattle.c_tree.specs.declared.expression.Place.{Place as PlaceTree, roll-Place}
use Rattle.c_tree.specs.declared.expression.Pointer.{Pointer as PointerTree, roll-Pointer}
use Rattle.c_tree.specs.declared.expression.Term.{Term as TermTree, roll-Term}
use Rattle.c_tree.specs.declared.expression.Argument.TheOpen.{Argument-F, Form-F, Call-F, Choice-F, Expression-F, Place-F, Pointer-F, Term-F}
use Rattle.c_tree.specs.declared.expression.Argument.TheBlock.{the_family, member-Argument, member-Form, member-Call, member-Choice}
use Rattle.c_tree.specs.declared.expression.Argument.TheBlock.{member-Expression, member-Place, member-Pointer, member-Term}
use Rattle.c_tree.specs.declared.expression.Argument.TheFolds.{claims, map-Argument, map-Form, map-Call, map-Choice, map-Expression, map-Place, map-Pointer, map-Term}
use Rattle.c_tree.specs.declared.expression.Argument.TheFolds.{fold-Argument, fold-Form, fold-Call, fold-Choice, fold-Place, fold-Pointer, fold-Term}
use Rattle.c_tree.specs.declared.expression.Argument.TheFolds.{fold-roll-Form, fold-roll-Call, fold-roll-Choice}
use Rattle.c_tree.specs.declared.expression.Argument.TheFolds.{fold-roll-Expression, fold-roll-Place, fold-roll-Term, ind-Expression}
use Rattle.c_tree.specs.declared.declaration.Function.{Function}
use Rattle.c_program.specs.Tree.{Expression, Statement}
use Rattle.c_program.specs.Types.{type_of}
use Rattle.c_rules.specs.declared.specifiers.BasicType.{BasicType}
use Rattle.c_rules.specs.declared.findings.Findings.{Findings}
use Rattle.c_rules.specs.declared.names.Variable.{Variable}
use Rattle.c_rules.specs.declared.names.Scope.{Scope}
use Rattle.c_rules.specs.Constants.{constant_value}
use Rattle.c_rules.specs.Names.{look_up}
use Rattle.c_rules.specs.Specifiers.{c_type, plain_integer}
use Rattle.c_rules.specs.Walks.{Outcome, Finds, pure, through, visited, finds_any, place_in_tree, ◌>>=◌, ◌>>◌}
use Rattle.c_expressions.specs.Callees as c
use Rattle.c_expressions.specs.Cuts.{Cuts, Cut, cut, free_from, kept}
use Rattle.c_expressions.specs.Expressions as e
use Rattle.c_expressions.specs.Expressions.{Passed, Formed, Called, Choice, Meant, Placed, Pointed, Operand}
use Rattle.c_broken_rules.specs.Sight.{Where}
use Rattle.c_broken_rules.specs.Typing as t
use Rattle.c_broken_rules.specs.Typing.{Nothing, Typed, plain_type, type_of_constant, type_of_function, type_of_object, type_of_plain}
use Rattle.c_broken_rules.proofs.Ledgers.{given, left, turn, after_one}

-- ---- what a part of a walk gives

abbrev type_given : Outcome Findings (Cut Expression) → IntegerType
type_given o = type_of (given o).rest

-- parts one after another
module _ {A B C : Type 0} (type_at : A → IntegerType) (step : A → B → Finds A) (next : IntegerType → C → IntegerType) where
  abbrev pub Steps : B → C → Type 0
  Steps item x = (a : A) (found : Findings) → type_at (given (step a item found)) ≡ next (type_at a) x

  abbrev pub AllSteps : List B → List C → Type 0
  AllSteps [] [] = Unit {0}
  AllSteps (item ∷ items) (x ∷ xs) = Steps item x × AllSteps items xs
  AllSteps [] (x ∷ xs) = ⊥
  AllSteps (item ∷ items) [] = ⊥

  through_is : (items : List B) (xs : List C) → AllSteps items xs → (a : A) (found : Findings) → type_at (given (through step a items found)) ≡ fold next (type_at a) xs
  through_is [] [] h a found = refl
  through_is (item ∷ items) (x ∷ xs) h a found =
      ap (λ (o : Outcome Findings A). type_at (given o)) (after_one step a item items found)
      ∙ through_is items xs h.1 (given (step a item found)) (left (step a item found)) ∙ ap (λ ty. fold next ty xs) (h.0 a found)
  through_is [] (x ∷ xs) h a found = absurd h
  through_is (item ∷ items) [] h a found = absurd h

-- ---- operators

unary_is : (operator : UnaryOperator) (x : Expression) → type_of (e.unary operator x) ≡ t.unary_type operator (type_of x)
unary_is u.Plus x = refl
unary_is u.Minus x = refl
unary_is u.Complement x = refl
unary_is u.Not x = refl

operated_is : (operator : BinaryOperator) (x y : Expression) → type_of (e.operated operator x y) ≡ t.binary_type operator (type_of x) (type_of y)
operated_is b.LogicalOr x y = refl
operated_is b.LogicalAnd x y = refl
operated_is b.BitOr x y = refl
operated_is b.BitXor x y = refl
operated_is b.BitAnd x y = refl
operated_is b.Equal x y = refl
operated_is b.NotEqual x y = refl
operated_is b.Less x y = refl
operated_is b.Greater x y = refl
operated_is b.LessEqual x y = refl
operated_is b.GreaterEqual x y = refl
operated_is b.ShiftLeft x y = refl
operated_is b.ShiftRight x y = refl
operated_is b.Add x y = refl
operated_is b.Subtract x y = refl
operated_is b.Multiply x y = refl
operated_is b.Divide x y = refl
operated_is b.Remainder x y = refl

constant_by : (k : Constant) (at : ℕ) (found : Findings) → type_of (given (e.constant_from (constant_value k) at found)) ≡ type_of_constant k
constant_by (constant.Typed value ty) at found = refl
constant_by constant.TooLarge at found = refl

constant_is : (k : Constant) (at : ℕ) (found : Findings) → type_of (given (e.constant k at found)) ≡ type_of_constant k
unfolding e.constant
constant_is k at found = constant_by k at found

converted_is : (at : ℕ) (ty : Option BasicType) (x : Expression) (found : Findings) → type_of (given (e.converted at ty x found)) ≡ type_of_plain ty
unfolding e.converted
converted_is at (Some ty) x found = refl
converted_is at None x found = refl

-- ---- names

abbrev pub type_of_variable : Option Variable → IntegerType
type_of_variable None = int_type
type_of_variable (Some v) = c_type v.ty

object_is : (v : Variable) (number : Option Expression) → type_of (e.object_value v number) ≡ c_type v.ty
object_is v None = refl
object_is v (Some number) = refl

named_is : (v : Option Variable) (number : Option Expression) → type_of (e.named_value v number) ≡ type_of_variable v
named_is None number = refl
named_is (Some v) number = object_is v number

-- the type of a call's value, by the number of the function's definition
abbrev pub type_of_call : IntegerType → Option ℕ → IntegerType
type_of_call ty None = int_type
type_of_call ty (Some function) = ty

called_is : (at n : ℕ) (ty : IntegerType) (d : Option ℕ) (values : Cut (List Expression)) → type_of (e.called_value at n ty d values).rest ≡ type_of_call ty d
called_is at n ty None values = refl
called_is at n ty (Some function) values = refl

-- the names of a scope have the types that their declarations say
pub record AreTyped (s : Scope) (defined : List Function) (w : Where) : Type 0 where
  pub object : (name : Name) → type_of_variable (e.variable_named s name) ≡ type_of_object (t.declared_as defined w name)
  pub function : (name : Name) (number count : ℕ) (found : Findings) → c.number_of (look_up s name.bytes) ≡ Some number →
      type_of_call (c.value_type (slice_get s.headers number)) (given (c.function_name s number count true name.offset found)) ≡
      type_of_function defined (t.declared_as defined w name)
  pub no_function : (name : Name) → c.number_of (look_up s name.bytes) ≡ None → type_of_function defined (t.declared_as defined w name) ≡ int_type

module _ (s : Scope) (defined : List Function) (w : Where) (typed : AreTyped s defined w) where
  -- ---- layers

  abbrev HasType : e.Valued → IntegerType → Type 0
  HasType v ty = (at : ℕ) (cuts : Cuts) (found : Findings) → type_given (v at cuts found) ≡ ty

  constant_typed : (k : Constant) (offset : ℕ) → HasType (λ at cuts. e.constant k offset >>= (λ x. pure (cut cuts x))) (type_of_constant k)
  constant_typed k offset at cuts found = ap type_given (turn (e.constant k offset found) (λ x. pure (cut cuts x))) ∙ constant_is k offset found

  place_value : (p : Placed) (name : Name) → p.name ≡ name → HasType (e.place_value s p) (type_of_object (t.declared_as defined w name))
  unfolding e.place_value
  place_value p name same at cuts found =
      let v = e.variable_named s p.name in
      let number = e.element_number (e.dimensions_of v) p.indices at cuts in
      let fault = finds_any (e.misuse (look_up s p.name.bytes) (length p.indices)) p.name.offset in
      let made = λ (x : Cut (Option Expression)). cut x.cuts (e.named_value v x.rest) in
      ap type_given (turn (number found) (λ x. fault >> pure (made x))) ∙ named_is v (given (number found)).rest ∙ typed.object p.name
      ∙ ap (λ n. type_of_object (t.declared_as defined w n)) same

  unary_value : (operator : UnaryOperator) (m : Meant) (ty : IntegerType) → HasType m.value ty → HasType (e.unary_value s operator m) (t.unary_type operator ty)
  unary_value operator m ty h at cuts found =
      ap type_given (turn (m.value at cuts found) (λ y. pure (cut y.cuts (e.unary operator y.rest)))) ∙ unary_is operator (given (m.value at cuts found)).rest
      ∙ ap (t.unary_type operator) (h at cuts found)

  cast : (words : Specifiers) (m : Meant) → HasType (e.cast s words m) (plain_type words)
  unfolding e.cast
  cast words m at cuts found =
      let ty = plain_integer words in
      let operand = e.cast_operand s ty m at cuts in
      let value = λ (y : Cut Expression). e.converted words.offset ty y.rest in
      let last = λ (y : Cut Expression) (z : Expression). pure (cut y.cuts z) in
      let o = operand found in
      ap type_given (turn o (λ y. value y >>= (λ z. last y z))) ∙ ap type_given (turn (value (given o) (left o)) (λ z. last (given o) z))
      ∙ converted_is words.offset ty (given o).rest (left o)

  -- terms with their types
  abbrev IsTerm : Operand → Typed → Type 0
  IsTerm x y = (x.operator ≡ y.operator) × HasType x.operand.value y.type

  abbrev AreTerms : List Operand → List Typed → Type 0
  AreTerms [] [] = Unit {0}
  AreTerms (x ∷ xs) (y ∷ ys) = IsTerm x y × AreTerms xs ys
  AreTerms [] (y ∷ ys) = ⊥
  AreTerms (x ∷ xs) [] = ⊥

  same_all : (xs : List Operand) (ys : List Typed) → AreTerms xs ys →
      list_all (λ (x : Operand). e.is_short_circuit x.operator) xs ≡ list_all (λ (y : Typed). e.is_short_circuit y.operator) ys
  same_all [] [] h = refl
  same_all (x ∷ xs) (y ∷ ys) h =
      ap (λ o. e.is_short_circuit o && list_all (λ (z : Operand). e.is_short_circuit z.operator) xs) h.0.0 ∙ ap (λ b. e.is_short_circuit y.operator && b) (same_all xs ys h.1)
  same_all [] (y ∷ ys) h = absurd h
  same_all (x ∷ xs) [] h = absurd h

  abbrev next_type : IntegerType → Typed → IntegerType
  next_type ty y = t.binary_type y.operator ty y.type

  term_is : (at : ℕ) (x : Operand) (y : Typed) → IsTerm x y → Steps (λ (z : Cut Expression). type_of z.rest) (e.term_value s at) next_type x y
  term_is at x y h z found =
      let right = given (x.operand.value at z.cuts found) in
      ap type_given (turn (x.operand.value at z.cuts found) (λ v. pure (cut v.cuts (e.operated x.operator z.rest v.rest)))) ∙ operated_is x.operator z.rest right.rest
      ∙ ap (λ ty. t.binary_type x.operator (type_of z.rest) ty) (h.1 at z.cuts found) ∙ ap (λ o. t.binary_type o (type_of z.rest) y.type) h.0

  terms_are : (at : ℕ) (xs : List Operand) (ys : List Typed) → AreTerms xs ys → AllSteps (λ (z : Cut Expression). type_of z.rest) (e.term_value s at) next_type xs ys
  terms_are at [] [] h = tt
  terms_are at (x ∷ xs) (y ∷ ys) h = (term_is at x y h.0, terms_are at xs ys h.1)
  terms_are at [] (y ∷ ys) h = absurd h
  terms_are at (x ∷ xs) [] h = absurd h

  arithmetic_value : (m : Meant) (ty : IntegerType) (xs : List Operand) (ys : List Typed) → HasType m.value ty → AreTerms xs ys →
      HasType (e.arithmetic_value s m xs) (fold next_type ty ys)
  unfolding e.terms_value
  arithmetic_value m ty xs ys h k at cuts found =
      let o = m.value at cuts found in
      ap type_given (turn o (λ x. e.terms_value s at x xs))
      ∙ through_is (λ (z : Cut Expression). type_of z.rest) (e.term_value s at) next_type xs ys (terms_are at xs ys k) (given o) (left o)
      ∙ ap (λ z. fold next_type z ys) (h at cuts found)

  truth_value : (m : Meant) (xs : List Operand) (cuts : Cuts) (found : Findings) → type_given (e.truth_value s m xs cuts found) ≡ int_type
  truth_value m xs cuts found =
      ap type_given (turn (e.joined_condition s m xs cuts.next found) (λ x. pure (kept cuts.next int_type (Statement.Truth cuts.next x) cuts)))

  binary_by : (m : Meant) (ty : IntegerType) (xs : List Operand) (ys : List Typed) (b : Bool) → HasType m.value ty → AreTerms xs ys → (at : ℕ) (cuts : Cuts) (found : Findings) →
      type_given ((if b then e.truth_value s m xs cuts else e.arithmetic_value s m xs at cuts) found) ≡ (if b then int_type else fold next_type ty ys)
  binary_by m ty xs ys true h k at cuts found = truth_value m xs cuts found
  binary_by m ty xs ys false h k at cuts found = arithmetic_value m ty xs ys h k at cuts found

  binary_value : (m : Meant) (ty : IntegerType) (xs : List Operand) (ys : List Typed) → HasType m.value ty → AreTerms xs ys →
      HasType (e.binary_value s m xs) (t.terms_type defined w ty ys)
  binary_value m ty xs ys h k at cuts found =
      binary_by m ty xs ys (e.are_short_circuits s xs) h k at cuts found ∙ ap (λ b. if b then int_type else fold next_type ty ys) (same_all xs ys k)

  -- calls

  call_by : (x : Called) (o : Option ℕ) → c.number_of (look_up s x.name.bytes) ≡ o → (at : ℕ) (cuts : Cuts) (found : Findings) →
      type_given (e.call_by s o (look_up s x.name.bytes) x at cuts found) ≡ type_of_function defined (t.declared_as defined w x.name)
  unfolding e.function_value e.no_value
  call_by x (Some number) is at cuts found =
      let name = x.name in
      let ty = c.value_type (slice_get s.headers number) in
      let definition = c.function_name s number (length x.arguments) true name.offset in
      let values = e.all_values x.arguments at cuts in
      let last = λ (d : Option ℕ) (v : Cut (List Expression)). pure (e.called_value at cuts.next ty d v) in
      let o = definition found in
      let z = values (left o) in
      ap type_given (turn o (λ d. values >>= (λ v. last d v))) ∙ ap type_given (turn z (λ v. last (given o) v)) ∙ called_is at cuts.next ty (given o) (given z)
      ∙ typed.function name number (length x.arguments) found is
  call_by x None is at cuts found =
      let name = x.name in
      let misplaced = c.misplaced s (look_up s name.bytes) (length x.arguments) name.offset in
      let looked = visited (λ (y : Passed). y.looked) x.arguments in
      let o = misplaced found in
      ap type_given (turn o (λ _. looked >> pure (cut cuts e.nothing))) ∙ ap type_given (turn (looked (left o)) (λ _. pure (cut cuts e.nothing)))
      ∙ sym (typed.no_function name is)

  call_value : (x : Called) (name : Name) → x.name ≡ name → HasType (e.call_value s x) (type_of_function defined (t.declared_as defined w name))
  call_value x name same at cuts found =
      call_by x (c.number_of (look_up s x.name.bytes)) refl at cuts found ∙ ap (λ n. type_of_function defined (t.declared_as defined w n)) same

  -- conditionals

  abbrev type_chosen : e.Chosen → IntegerType
  type_chosen x = type_of x.rest

  operand_is : (n : ℕ) (m : Meant) (ty : IntegerType) → HasType m.value ty → (found : Findings) → type_chosen (given (e.operand_value n m found)) ≡ ty
  operand_is n m ty h found =
      let at = place_in_tree m.offset in
      ap (λ (o : Outcome Findings e.Chosen). type_chosen (given o)) (turn (m.value at (free_from n) found) (λ x. pure (e.chosen at x))) ∙ h at (free_from n) found

  abbrev IsChoice : Choice → IntegerType → Type 0
  IsChoice x ty = HasType x.otherwise.value ty

  abbrev AreChoices : List Choice → List IntegerType → Type 0
  AreChoices [] [] = Unit {0}
  AreChoices (x ∷ xs) (ty ∷ types) = IsChoice x ty × AreChoices xs types
  AreChoices [] (ty ∷ types) = ⊥
  AreChoices (x ∷ xs) [] = ⊥

  choice_is : (n : ℕ) (x : Choice) (ty : IntegerType) → IsChoice x ty → Steps type_chosen (e.next_choice s n) usual_type x ty
  choice_is n x ty h y found =
      let made = λ (z : Statement) (o : e.Chosen). e.conditional n (place_in_tree x.condition.offset) z y o in
      let k = x.condition.condition n found in
      let o = e.operand_value n x.otherwise (left k) in
      ap (λ (z : Outcome Findings e.Chosen). type_chosen (given z)) (turn k (λ z. e.operand_value n x.otherwise >>= (λ v. pure (made z v))))
      ∙ ap (λ (z : Outcome Findings e.Chosen). type_chosen (given z)) (turn o (λ v. pure (made (given k) v)))
      ∙ ap (usual_type (type_chosen y)) (operand_is n x.otherwise ty h (left k))

  choices_are : (n : ℕ) (xs : List Choice) (types : List IntegerType) → AreChoices xs types → AllSteps type_chosen (e.next_choice s n) usual_type xs types
  choices_are n [] [] h = tt
  choices_are n (x ∷ xs) (ty ∷ types) h = (choice_is n x ty h.0, choices_are n xs types h.1)
  choices_are n [] (ty ∷ types) h = absurd h
  choices_are n (x ∷ xs) [] h = absurd h

  conditional_value : (m : Meant) (ty : IntegerType) (xs : List Choice) (types : List IntegerType) → HasType m.value ty → AreChoices xs types →
      HasType (e.conditional_value s m xs) (fold usual_type ty types)
  unfolding e.further_choices
  conditional_value m ty xs types h k at cuts found =
      let n = cuts.next in
      let o = e.operand_value n m found in
      ap type_given (turn (e.choices_value s n m xs found) (λ x. pure (e.with_choice cuts x)))
      ∙ ap (λ (z : Outcome Findings e.Chosen). type_chosen (given z)) (turn o (λ x. e.further_choices s n x xs))
      ∙ through_is type_chosen (e.next_choice s n) usual_type xs types (choices_are n xs types k) (given o) (left o)
      ∙ ap (λ z. fold usual_type z types) (operand_is n m ty h found)

  -- ---- the folds of types

  abbrev argument_type : Argument-F Nothing IntegerType Name IntegerType IntegerType Name Nothing Typed → Nothing
  argument_type l = tt

  abbrev call_name : Call-F Nothing IntegerType Name IntegerType IntegerType Name Nothing Typed → Name
  call_name l = l.name

  abbrev choice_type : Choice-F Nothing IntegerType Name IntegerType IntegerType Name Nothing Typed → IntegerType
  choice_type l = l.otherwise

  abbrev expression_layer : Expression-F Nothing IntegerType Name IntegerType IntegerType Name Nothing Typed → IntegerType
  expression_layer l = l.form

  abbrev place_name : Place-F Nothing IntegerType Name IntegerType IntegerType Name Nothing Typed → Name
  place_name l = l.name

  abbrev pointer_type : Pointer-F Nothing IntegerType Name IntegerType IntegerType Name Nothing Typed → Nothing
  pointer_type l = tt

  abbrev term_layer : Term-F Nothing IntegerType Name IntegerType IntegerType Name Nothing Typed → Typed
  term_layer l = record { operator = l.operator; type = l.operand }

  abbrev type_of_argument : ArgumentTree → Nothing
  type_of_argument =
      fold-Argument Nothing IntegerType Name IntegerType IntegerType Name Nothing Typed argument_type (t.form_type defined w) call_name choice_type
      expression_layer place_name pointer_type term_layer

  abbrev type_of_form : FormTree → IntegerType
  type_of_form =
      fold-Form Nothing IntegerType Name IntegerType IntegerType Name Nothing Typed argument_type (t.form_type defined w) call_name choice_type expression_layer
      place_name pointer_type term_layer

  abbrev name_of_call : CallTree → Name
  name_of_call =
      fold-Call Nothing IntegerType Name IntegerType IntegerType Name Nothing Typed argument_type (t.form_type defined w) call_name choice_type expression_layer
      place_name pointer_type term_layer

  abbrev type_of_choice : ChoiceTree → IntegerType
  type_of_choice =
      fold-Choice Nothing IntegerType Name IntegerType IntegerType Name Nothing Typed argument_type (t.form_type defined w) call_name choice_type
      expression_layer place_name pointer_type term_layer

  abbrev name_of_place : PlaceTree → Name
  name_of_place =
      fold-Place Nothing IntegerType Name IntegerType IntegerType Name Nothing Typed argument_type (t.form_type defined w) call_name choice_type
      expression_layer place_name pointer_type term_layer

  abbrev type_of_pointer : PointerTree → Nothing
  type_of_pointer =
      fold-Pointer Nothing IntegerType Name IntegerType IntegerType Name Nothing Typed argument_type (t.form_type defined w) call_name choice_type
      expression_layer place_name pointer_type term_layer

  abbrev type_of_term : TermTree → Typed
  type_of_term =
      fold-Term Nothing IntegerType Name IntegerType IntegerType Name Nothing Typed argument_type (t.form_type defined w) call_name choice_type expression_layer
      place_name pointer_type term_layer

  abbrev pointed : PointerTree → Pointed
  pointed =
      fold-Pointer Passed Formed Called Choice Meant Placed Pointed Operand (e.argument_step s) (e.form_step s) (e.call_step s) (e.choice_step s)
      (e.expression_step s) (e.place_step s) (e.pointer_step s) (e.term_step s)

  abbrev ClaimArgument : ArgumentTree → Type 0
  ClaimArgument x = Unit {0}

  abbrev ClaimForm : FormTree → Type 0
  ClaimForm x = HasType (e.formed s x).value (type_of_form x)

  abbrev ClaimCall : CallTree → Type 0
  ClaimCall x = (e.called s x).name ≡ name_of_call x

  abbrev ClaimChoice : ChoiceTree → Type 0
  ClaimChoice x = IsChoice (e.choice s x) (type_of_choice x)

  abbrev ClaimExpression : ExpressionTree → Type 0
  ClaimExpression x = HasType (e.meant s x).value (t.expression_type defined w x)

  abbrev ClaimPlace : PlaceTree → Type 0
  ClaimPlace x = (e.placed s x).name ≡ name_of_place x

  abbrev ClaimPointer : PointerTree → Type 0
  ClaimPointer x = Unit {0}

  abbrev ClaimTerm : TermTree → Type 0
  ClaimTerm x = IsTerm (e.term s x) (type_of_term x)

  abbrev SomeArgument : Type 0
  SomeArgument = Such the_family (claims ClaimArgument ClaimForm ClaimCall ClaimChoice ClaimExpression ClaimPlace ClaimPointer ClaimTerm) member-Argument

  abbrev SomeForm : Type 0
  SomeForm = Such the_family (claims ClaimArgument ClaimForm ClaimCall ClaimChoice ClaimExpression ClaimPlace ClaimPointer ClaimTerm) member-Form

  abbrev SomeCall : Type 0
  SomeCall = Such the_family (claims ClaimArgument ClaimForm ClaimCall ClaimChoice ClaimExpression ClaimPlace ClaimPointer ClaimTerm) member-Call

  abbrev SomeChoice : Type 0
  SomeChoice = Such the_family (claims ClaimArgument ClaimForm ClaimCall ClaimChoice ClaimExpression ClaimPlace ClaimPointer ClaimTerm) member-Choice

  abbrev SomeExpression : Type 0
  SomeExpression = Such the_family (claims ClaimArgument ClaimForm ClaimCall ClaimChoice ClaimExpression ClaimPlace ClaimPointer ClaimTerm) member-Expression

  abbrev SomePlace : Type 0
  SomePlace = Such the_family (claims ClaimArgument ClaimForm ClaimCall ClaimChoice ClaimExpression ClaimPlace ClaimPointer ClaimTerm) member-Place

  abbrev SomePointer : Type 0
  SomePointer = Such the_family (claims ClaimArgument ClaimForm ClaimCall ClaimChoice ClaimExpression ClaimPlace ClaimPointer ClaimTerm) member-Pointer

  abbrev SomeTerm : Type 0
  SomeTerm = Such the_family (claims ClaimArgument ClaimForm ClaimCall ClaimChoice ClaimExpression ClaimPlace ClaimPointer ClaimTerm) member-Term

  abbrev seen_argument : Argument-F SomeArgument SomeForm SomeCall SomeChoice SomeExpression SomePlace SomePointer SomeTerm →
      Argument-F ArgumentTree FormTree CallTree ChoiceTree ExpressionTree PlaceTree PointerTree TermTree
  seen_argument y =
      map-Argument SomeArgument SomeForm SomeCall SomeChoice SomeExpression SomePlace SomePointer SomeTerm ArgumentTree FormTree CallTree ChoiceTree
      ExpressionTree PlaceTree PointerTree TermTree (λ e. e.0) (λ e. e.0) (λ e. e.0) (λ e. e.0) (λ e. e.0) (λ e. e.0) (λ e. e.0) (λ e. e.0) y

  abbrev seen_form : Form-F SomeArgument SomeForm SomeCall SomeChoice SomeExpression SomePlace SomePointer SomeTerm →
      Form-F ArgumentTree FormTree CallTree ChoiceTree ExpressionTree PlaceTree PointerTree TermTree
  seen_form y =
      map-Form SomeArgument SomeForm SomeCall SomeChoice SomeExpression SomePlace SomePointer SomeTerm ArgumentTree FormTree CallTree ChoiceTree ExpressionTree
      PlaceTree PointerTree TermTree (λ e. e.0) (λ e. e.0) (λ e. e.0) (λ e. e.0) (λ e. e.0) (λ e. e.0) (λ e. e.0) (λ e. e.0) y

  abbrev walks_in_form : Form-F ArgumentTree FormTree CallTree ChoiceTree ExpressionTree PlaceTree PointerTree TermTree → Form-F Passed Formed Called Choice Meant Placed Pointed Operand
  walks_in_form x =
      map-Form ArgumentTree FormTree CallTree ChoiceTree ExpressionTree PlaceTree PointerTree TermTree Passed Formed Called Choice Meant Placed Pointed Operand
      (e.argument s) (e.formed s) (e.called s) (e.choice s) (e.meant s) (e.placed s) pointed (e.term s) x

  abbrev types_in_form : Form-F ArgumentTree FormTree CallTree ChoiceTree ExpressionTree PlaceTree PointerTree TermTree → Form-F Nothing IntegerType Name IntegerType IntegerType Name Nothing Typed
  types_in_form x =
      map-Form ArgumentTree FormTree CallTree ChoiceTree ExpressionTree PlaceTree PointerTree TermTree Nothing IntegerType Name IntegerType IntegerType Name
      Nothing Typed type_of_argument type_of_form name_of_call type_of_choice (t.expression_type defined w) name_of_place type_of_pointer
      type_of_term x

  abbrev seen_call : Call-F SomeArgument SomeForm SomeCall SomeChoice SomeExpression SomePlace SomePointer SomeTerm →
      Call-F ArgumentTree FormTree CallTree ChoiceTree ExpressionTree PlaceTree PointerTree TermTree
  seen_call y =
      map-Call SomeArgument SomeForm SomeCall SomeChoice SomeExpression SomePlace SomePointer SomeTerm ArgumentTree FormTree CallTree ChoiceTree ExpressionTree
      PlaceTree PointerTree TermTree (λ e. e.0) (λ e. e.0) (λ e. e.0) (λ e. e.0) (λ e. e.0) (λ e. e.0) (λ e. e.0) (λ e. e.0) y

  abbrev walks_in_call : Call-F ArgumentTree FormTree CallTree ChoiceTree ExpressionTree PlaceTree PointerTree TermTree → Call-F Passed Formed Called Choice Meant Placed Pointed Operand
  walks_in_call x =
      map-Call ArgumentTree FormTree CallTree ChoiceTree ExpressionTree PlaceTree PointerTree TermTree Passed Formed Called Choice Meant Placed Pointed Operand
      (e.argument s) (e.formed s) (e.called s) (e.choice s) (e.meant s) (e.placed s) pointed (e.term s) x

  abbrev types_in_call : Call-F ArgumentTree FormTree CallTree ChoiceTree ExpressionTree PlaceTree PointerTree TermTree → Call-F Nothing IntegerType Name IntegerType IntegerType Name Nothing Typed
  types_in_call x =
      map-Call ArgumentTree FormTree CallTree ChoiceTree ExpressionTree PlaceTree PointerTree TermTree Nothing IntegerType Name IntegerType IntegerType Name
      Nothing Typed type_of_argument type_of_form name_of_call type_of_choice (t.expression_type defined w) name_of_place type_of_pointer
      type_of_term x

  abbrev seen_choice : Choice-F SomeArgument SomeForm SomeCall SomeChoice SomeExpression SomePlace SomePointer SomeTerm →
      Choice-F ArgumentTree FormTree CallTree ChoiceTree ExpressionTree PlaceTree PointerTree TermTree
  seen_choice y =
      map-Choice SomeArgument SomeForm SomeCall SomeChoice SomeExpression SomePlace SomePointer SomeTerm ArgumentTree FormTree CallTree ChoiceTree
      ExpressionTree PlaceTree PointerTree TermTree (λ e. e.0) (λ e. e.0) (λ e. e.0) (λ e. e.0) (λ e. e.0) (λ e. e.0) (λ e. e.0) (λ e. e.0) y

  abbrev walks_in_choice : Choice-F ArgumentTree FormTree CallTree ChoiceTree ExpressionTree PlaceTree PointerTree TermTree → Choice-F Passed Formed Called Choice Meant Placed Pointed Operand
  walks_in_choice x =
      map-Choice ArgumentTree FormTree CallTree ChoiceTree ExpressionTree PlaceTree PointerTree TermTree Passed Formed Called Choice Meant Placed Pointed
      Operand (e.argument s) (e.formed s) (e.called s) (e.choice s) (e.meant s) (e.placed s) pointed (e.term s) x

  abbrev types_in_choice : Choice-F ArgumentTree FormTree CallTree ChoiceTree ExpressionTree PlaceTree PointerTree TermTree →
      Choice-F Nothing IntegerType Name IntegerType IntegerType Name Nothing Typed
  types_in_choice x =
      map-Choice ArgumentTree FormTree CallTree ChoiceTree ExpressionTree PlaceTree PointerTree TermTree Nothing IntegerType Name IntegerType IntegerType Name
      Nothing Typed type_of_argument type_of_form name_of_call type_of_choice (t.expression_type defined w) name_of_place type_of_pointer
      type_of_term x

  abbrev seen_expression : Expression-F SomeArgument SomeForm SomeCall SomeChoice SomeExpression SomePlace SomePointer SomeTerm →
      Expression-F ArgumentTree FormTree CallTree ChoiceTree ExpressionTree PlaceTree PointerTree TermTree
  seen_expression y =
      map-Expression SomeArgument SomeForm SomeCall SomeChoice SomeExpression SomePlace SomePointer SomeTerm ArgumentTree FormTree CallTree ChoiceTree
      ExpressionTree PlaceTree PointerTree TermTree (λ e. e.0) (λ e. e.0) (λ e. e.0) (λ e. e.0) (λ e. e.0) (λ e. e.0) (λ e. e.0) (λ e. e.0) y

  abbrev walks_in_expression : Expression-F ArgumentTree FormTree CallTree ChoiceTree ExpressionTree PlaceTree PointerTree TermTree →
      Expression-F Passed Formed Called Choice Meant Placed Pointed Operand
  walks_in_expression x =
      map-Expression ArgumentTree FormTree CallTree ChoiceTree ExpressionTree PlaceTree PointerTree TermTree Passed Formed Called Choice Meant Placed Pointed
      Operand (e.argument s) (e.formed s) (e.called s) (e.choice s) (e.meant s) (e.placed s) pointed (e.term s) x

  abbrev types_in_expression : Expression-F ArgumentTree FormTree CallTree ChoiceTree ExpressionTree PlaceTree PointerTree TermTree →
      Expression-F Nothing IntegerType Name IntegerType IntegerType Name Nothing Typed
  types_in_expression x =
      map-Expression ArgumentTree FormTree CallTree ChoiceTree ExpressionTree PlaceTree PointerTree TermTree Nothing IntegerType Name IntegerType IntegerType
      Name Nothing Typed type_of_argument type_of_form name_of_call type_of_choice (t.expression_type defined w) name_of_place type_of_pointer
      type_of_term x

  abbrev seen_place : Place-F SomeArgument SomeForm SomeCall SomeChoice SomeExpression SomePlace SomePointer SomeTerm →
      Place-F ArgumentTree FormTree CallTree ChoiceTree ExpressionTree PlaceTree PointerTree TermTree
  seen_place y =
      map-Place SomeArgument SomeForm SomeCall SomeChoice SomeExpression SomePlace SomePointer SomeTerm ArgumentTree FormTree CallTree ChoiceTree ExpressionTree
      PlaceTree PointerTree TermTree (λ e. e.0) (λ e. e.0) (λ e. e.0) (λ e. e.0) (λ e. e.0) (λ e. e.0) (λ e. e.0) (λ e. e.0) y

  abbrev walks_in_place : Place-F ArgumentTree FormTree CallTree ChoiceTree ExpressionTree PlaceTree PointerTree TermTree → Place-F Passed Formed Called Choice Meant Placed Pointed Operand
  walks_in_place x =
      map-Place ArgumentTree FormTree CallTree ChoiceTree ExpressionTree PlaceTree PointerTree TermTree Passed Formed Called Choice Meant Placed Pointed Operand
      (e.argument s) (e.formed s) (e.called s) (e.choice s) (e.meant s) (e.placed s) pointed (e.term s) x

  abbrev types_in_place : Place-F ArgumentTree FormTree CallTree ChoiceTree ExpressionTree PlaceTree PointerTree TermTree → Place-F Nothing IntegerType Name IntegerType IntegerType Name Nothing Typed
  types_in_place x =
      map-Place ArgumentTree FormTree CallTree ChoiceTree ExpressionTree PlaceTree PointerTree TermTree Nothing IntegerType Name IntegerType IntegerType Name
      Nothing Typed type_of_argument type_of_form name_of_call type_of_choice (t.expression_type defined w) name_of_place type_of_pointer
      type_of_term x

  abbrev seen_pointer : Pointer-F SomeArgument SomeForm SomeCall SomeChoice SomeExpression SomePlace SomePointer SomeTerm →
      Pointer-F ArgumentTree FormTree CallTree ChoiceTree ExpressionTree PlaceTree PointerTree TermTree
  seen_pointer y =
      map-Pointer SomeArgument SomeForm SomeCall SomeChoice SomeExpression SomePlace SomePointer SomeTerm ArgumentTree FormTree CallTree ChoiceTree
      ExpressionTree PlaceTree PointerTree TermTree (λ e. e.0) (λ e. e.0) (λ e. e.0) (λ e. e.0) (λ e. e.0) (λ e. e.0) (λ e. e.0) (λ e. e.0) y

  abbrev seen_term : Term-F SomeArgument SomeForm SomeCall SomeChoice SomeExpression SomePlace SomePointer SomeTerm →
      Term-F ArgumentTree FormTree CallTree ChoiceTree ExpressionTree PlaceTree PointerTree TermTree
  seen_term y =
      map-Term SomeArgument SomeForm SomeCall SomeChoice SomeExpression SomePlace SomePointer SomeTerm ArgumentTree FormTree CallTree ChoiceTree ExpressionTree
      PlaceTree PointerTree TermTree (λ e. e.0) (λ e. e.0) (λ e. e.0) (λ e. e.0) (λ e. e.0) (λ e. e.0) (λ e. e.0) (λ e. e.0) y

  abbrev walks_in_term : Term-F ArgumentTree FormTree CallTree ChoiceTree ExpressionTree PlaceTree PointerTree TermTree → Term-F Passed Formed Called Choice Meant Placed Pointed Operand
  walks_in_term x =
      map-Term ArgumentTree FormTree CallTree ChoiceTree ExpressionTree PlaceTree PointerTree TermTree Passed Formed Called Choice Meant Placed Pointed Operand
      (e.argument s) (e.formed s) (e.called s) (e.choice s) (e.meant s) (e.placed s) pointed (e.term s) x

  abbrev types_in_term : Term-F ArgumentTree FormTree CallTree ChoiceTree ExpressionTree PlaceTree PointerTree TermTree → Term-F Nothing IntegerType Name IntegerType IntegerType Name Nothing Typed
  types_in_term x =
      map-Term ArgumentTree FormTree CallTree ChoiceTree ExpressionTree PlaceTree PointerTree TermTree Nothing IntegerType Name IntegerType IntegerType Name
      Nothing Typed type_of_argument type_of_form name_of_call type_of_choice (t.expression_type defined w) name_of_place type_of_pointer
      type_of_term x

  -- ---- cases

  each_term : (list : List SomeTerm) → AreTerms (map (e.term s) (map (λ e. e.0) list)) (map type_of_term (map (λ e. e.0) list))
  each_term [] = tt
  each_term (x ∷ list) = (x.1, each_term list)

  each_choice : (list : List SomeChoice) → AreChoices (map (e.choice s) (map (λ e. e.0) list)) (map type_of_choice (map (λ e. e.0) list))
  each_choice [] = tt
  each_choice (x ∷ list) = (x.1, each_choice list)

  form_case : (y : Form-F SomeArgument SomeForm SomeCall SomeChoice SomeExpression SomePlace SomePointer SomeTerm) →
      HasType (e.form_step s (walks_in_form (seen_form y))).value (t.form_type defined w (types_in_form (seen_form y)))
  form_case (Form-F.Constant k offset) = constant_typed k offset
  form_case (Form-F.Place q) = place_value (e.placed s q.0) (name_of_place q.0) q.1
  form_case (Form-F.Call k) = call_value (e.called s k.0) (name_of_call k.0) k.1
  form_case (Form-F.Unary operator x) = unary_value operator (e.meant s x.0) (t.expression_type defined w x.0) x.1
  form_case (Form-F.Cast words x) = cast words (e.meant s x.0)
  form_case (Form-F.Binary first terms) =
      binary_value (e.meant s first.0) (t.expression_type defined w first.0) (map (e.term s) (map (λ e. e.0) terms)) (map type_of_term (map (λ e. e.0) terms)) first.1
      (each_term terms)
  form_case (Form-F.Conditional first choices) =
      conditional_value (e.meant s first.0) (t.expression_type defined w first.0) (map (e.choice s) (map (λ e. e.0) choices)) (map type_of_choice (map (λ e. e.0) choices)) first.1
      (each_choice choices)

  -- ---- each tree

  argument_induct : (x : Argument-F ArgumentTree FormTree CallTree ChoiceTree ExpressionTree PlaceTree PointerTree TermTree)
      (y : Argument-F SomeArgument SomeForm SomeCall SomeChoice SomeExpression SomePlace SomePointer SomeTerm) →
      seen_argument y ≡ x → ClaimArgument (roll-Argument x)
  argument_induct x y is = tt

  pointer_induct : (x : Pointer-F ArgumentTree FormTree CallTree ChoiceTree ExpressionTree PlaceTree PointerTree TermTree)
      (y : Pointer-F SomeArgument SomeForm SomeCall SomeChoice SomeExpression SomePlace SomePointer SomeTerm) →
      seen_pointer y ≡ x → ClaimPointer (roll-Pointer x)
  pointer_induct x y is = tt

  form_induct : (x : Form-F ArgumentTree FormTree CallTree ChoiceTree ExpressionTree PlaceTree PointerTree TermTree)
      (y : Form-F SomeArgument SomeForm SomeCall SomeChoice SomeExpression SomePlace SomePointer SomeTerm) →
      seen_form y ≡ x → ClaimForm (roll-Form x)
  form_induct x y is = subst (λ k. ClaimForm (roll-Form k)) is
      (subst (λ (m : Formed). HasType m.value (type_of_form (roll-Form (seen_form y)))) (sym (fold-roll-Form Passed Formed Called Choice Meant Placed Pointed Operand
      (e.argument_step s) (e.form_step s) (e.call_step s) (e.choice_step s) (e.expression_step s) (e.place_step s) (e.pointer_step s) (e.term_step s) (seen_form y)))
      (subst (λ (q : IntegerType). HasType (e.form_step s (walks_in_form (seen_form y))).value q) (sym (fold-roll-Form Nothing IntegerType Name IntegerType IntegerType Name Nothing Typed
      argument_type (t.form_type defined w) call_name choice_type expression_layer place_name pointer_type term_layer (seen_form y))) (form_case y)))

  call_induct : (x : Call-F ArgumentTree FormTree CallTree ChoiceTree ExpressionTree PlaceTree PointerTree TermTree)
      (y : Call-F SomeArgument SomeForm SomeCall SomeChoice SomeExpression SomePlace SomePointer SomeTerm) →
      seen_call y ≡ x → ClaimCall (roll-Call x)
  call_induct x y is = subst (λ k. ClaimCall (roll-Call k)) is
      (subst (λ (m : Called). m.name ≡ (name_of_call (roll-Call (seen_call y)))) (sym (fold-roll-Call Passed Formed Called Choice Meant Placed Pointed Operand
      (e.argument_step s) (e.form_step s) (e.call_step s) (e.choice_step s) (e.expression_step s) (e.place_step s) (e.pointer_step s) (e.term_step s) (seen_call y)))
      (subst (λ (q : Name). (e.call_step s (walks_in_call (seen_call y))).name ≡ q) (sym (fold-roll-Call Nothing IntegerType Name IntegerType IntegerType Name Nothing Typed
      argument_type (t.form_type defined w) call_name choice_type expression_layer place_name pointer_type term_layer (seen_call y))) refl))

  choice_induct : (x : Choice-F ArgumentTree FormTree CallTree ChoiceTree ExpressionTree PlaceTree PointerTree TermTree)
      (y : Choice-F SomeArgument SomeForm SomeCall SomeChoice SomeExpression SomePlace SomePointer SomeTerm) →
      seen_choice y ≡ x → ClaimChoice (roll-Choice x)
  choice_induct x y is = subst (λ k. ClaimChoice (roll-Choice k)) is
      (subst (λ (m : Choice). IsChoice m (type_of_choice (roll-Choice (seen_choice y)))) (sym (fold-roll-Choice Passed Formed Called Choice Meant Placed Pointed Operand
      (e.argument_step s) (e.form_step s) (e.call_step s) (e.choice_step s) (e.expression_step s) (e.place_step s) (e.pointer_step s) (e.term_step s) (seen_choice y)))
      (subst (λ (q : IntegerType). IsChoice (e.choice_step s (walks_in_choice (seen_choice y))) q) (sym (fold-roll-Choice Nothing IntegerType Name IntegerType IntegerType Name Nothing Typed
      argument_type (t.form_type defined w) call_name choice_type expression_layer place_name pointer_type term_layer (seen_choice y))) y.otherwise.1))

  expression_induct : (x : Expression-F ArgumentTree FormTree CallTree ChoiceTree ExpressionTree PlaceTree PointerTree TermTree)
      (y : Expression-F SomeArgument SomeForm SomeCall SomeChoice SomeExpression SomePlace SomePointer SomeTerm) →
      seen_expression y ≡ x → ClaimExpression (roll-Expression x)
  expression_induct x y is = subst (λ k. ClaimExpression (roll-Expression k)) is
      (subst (λ (m : Meant). HasType m.value (t.expression_type defined w (roll-Expression (seen_expression y)))) (sym (fold-roll-Expression Passed Formed Called Choice Meant Placed Pointed Operand
      (e.argument_step s) (e.form_step s) (e.call_step s) (e.choice_step s) (e.expression_step s) (e.place_step s) (e.pointer_step s) (e.term_step s) (seen_expression y)))
      (subst (λ (q : IntegerType). HasType (e.expression_step s (walks_in_expression (seen_expression y))).value q)
      (sym (fold-roll-Expression Nothing IntegerType Name IntegerType IntegerType Name Nothing Typed
      argument_type (t.form_type defined w) call_name choice_type expression_layer place_name pointer_type term_layer (seen_expression y))) y.form.1))

  place_induct : (x : Place-F ArgumentTree FormTree CallTree ChoiceTree ExpressionTree PlaceTree PointerTree TermTree)
      (y : Place-F SomeArgument SomeForm SomeCall SomeChoice SomeExpression SomePlace SomePointer SomeTerm) →
      seen_place y ≡ x → ClaimPlace (roll-Place x)
  place_induct x y is = subst (λ k. ClaimPlace (roll-Place k)) is
      (subst (λ (m : Placed). m.name ≡ (name_of_place (roll-Place (seen_place y)))) (sym (fold-roll-Place Passed Formed Called Choice Meant Placed Pointed Operand
      (e.argument_step s) (e.form_step s) (e.call_step s) (e.choice_step s) (e.expression_step s) (e.place_step s) (e.pointer_step s) (e.term_step s) (seen_place y)))
      (subst (λ (q : Name). (e.place_step s (walks_in_place (seen_place y))).name ≡ q) (sym (fold-roll-Place Nothing IntegerType Name IntegerType IntegerType Name Nothing Typed
      argument_type (t.form_type defined w) call_name choice_type expression_layer place_name pointer_type term_layer (seen_place y))) refl))

  term_induct : (x : Term-F ArgumentTree FormTree CallTree ChoiceTree ExpressionTree PlaceTree PointerTree TermTree)
      (y : Term-F SomeArgument SomeForm SomeCall SomeChoice SomeExpression SomePlace SomePointer SomeTerm) →
      seen_term y ≡ x → ClaimTerm (roll-Term x)
  term_induct x y is = subst (λ k. ClaimTerm (roll-Term k)) is
      (subst (λ (m : Operand). IsTerm m (type_of_term (roll-Term (seen_term y)))) (sym (fold-roll-Term Passed Formed Called Choice Meant Placed Pointed Operand
      (e.argument_step s) (e.form_step s) (e.call_step s) (e.choice_step s) (e.expression_step s) (e.place_step s) (e.pointer_step s) (e.term_step s) (seen_term y)))
      (subst (λ (q : Typed). IsTerm (e.term_step s (walks_in_term (seen_term y))) q) (sym (fold-roll-Term Nothing IntegerType Name IntegerType IntegerType Name Nothing Typed
      argument_type (t.form_type defined w) call_name choice_type expression_layer place_name pointer_type term_layer (seen_term y))) (refl, y.operand.1)))

  pub expression_is : (x : ExpressionTree) → ClaimExpression x
  expression_is = ind-Expression ClaimArgument ClaimForm ClaimCall ClaimChoice ClaimExpression ClaimPlace ClaimPointer ClaimTerm argument_induct form_induct call_induct
      choice_induct expression_induct place_induct pointer_induct term_induct

  -- a switch works at the promoted type of its value
  pub switched_is : (x : ExpressionTree) (at : ℕ) (cuts : Cuts) (found : Findings) → promoted (type_of (given (e.value s x at cuts found)).rest) ≡ t.switch_type defined w x
  switched_is x at cuts found = ap promoted (expression_is x at cuts found)
