-- Expressions, whatever they are, find no create.
use Rattle.std.proofs.Common.{◌≡◌, refl, sym, ap, subst, ◌∙◌, ℕ, Bool, true, false, List, [], ◌∷◌, ◌++◌, map, length, Option, Some, None}
use Rattle.std.specs.Prelude.{◌&&◌, ◌||◌, not, nat_eq, is_none, if◌then◌else◌, slice_get}
use Rattle.std.specs.List.{AllByRecursion}
use denote.Hole.Holds.{Such}
use Rattle.c_tree.specs.declared.expression.Name.{Name}
use Rattle.c_token.specs.declared.constant.Constant.{Constant}
use Rattle.c_tree.specs.declared.expression.UnaryOperator.{UnaryOperator}
use Rattle.c_tree.specs.declared.expression.Specifiers.{Specifiers}
use Rattle.c_tree.specs.declared.expression.Argument.{Argument as ArgumentTree, roll-Argument}
use Rattle.c_tree.specs.declared.expression.Form.{Form as FormTree, roll-Form}
use Rattle.c_tree.specs.declared.expression.Call.{Call as CallTree, roll-Call}
use Rattle.c_tree.specs.declared.expression.Choice.{Choice as ChoiceTree, roll-Choice}
use Rattle.c_tree.specs.declared.expression.Expression.{Expression as ExpressionTree, roll-Expression}
use Rattle.c_tree.specs.declared.expression.Place.{Place as PlaceTree, roll-Place}
use Rattle.c_tree.specs.declared.expression.Pointer.{Pointer as PointerTree, roll-Pointer}
use Rattle.c_tree.specs.declared.expression.Term.{Term as TermTree, roll-Term}
use Rattle.c_tree.specs.declared.expression.Argument.TheOpen.{Argument-F, Form-F, Call-F, Choice-F, Expression-F, Place-F, Pointer-F, Term-F}
use Rattle.c_tree.specs.declared.expression.Argument.TheBlock.{the_family, member-Argument, member-Form, member-Call, member-Choice}
use Rattle.c_tree.specs.declared.expression.Argument.TheBlock.{member-Expression, member-Place, member-Pointer, member-Term}
use Rattle.c_tree.specs.declared.expression.Argument.TheFolds.{claims, map-Argument, map-Form, map-Call, map-Choice, map-Expression, map-Place, map-Pointer, map-Term}
use Rattle.c_tree.specs.declared.expression.Argument.TheFolds.{fold-Form, fold-Call, fold-Pointer}
use Rattle.c_tree.specs.declared.expression.Argument.TheFolds.{fold-roll-Argument, fold-roll-Form, fold-roll-Call, fold-roll-Choice}
use Rattle.c_tree.specs.declared.expression.Argument.TheFolds.{fold-roll-Expression, fold-roll-Place, fold-roll-Pointer, fold-roll-Term}
use Rattle.c_tree.specs.declared.expression.Argument.TheFolds.{ind-Argument, ind-Expression, ind-Place}
use Rattle.c_program.specs.Tree.{Expression, Statement}
use Rattle.c_rules.specs.declared.fault.Rule.{Rule}
use Rattle.c_rules.specs.declared.fault.Rule.TheVariants as rule
use Rattle.c_rules.specs.declared.findings.Findings.{Findings}
use Rattle.c_rules.specs.declared.constants.Typed.{Typed}
use Rattle.c_rules.specs.declared.specifiers.BasicType.{BasicType}
use Rattle.c_rules.specs.declared.library.LibraryFunction.{LibraryFunction}
use Rattle.c_rules.specs.declared.library.LibraryFunction.TheVariants as library
use Rattle.c_rules.specs.declared.dimensions.Dimensions.{Dimensions}
use Rattle.c_rules.specs.declared.dimensions.Dimensions.TheVariants.{Scalar, One, Two, Three}
use Rattle.c_rules.specs.Dimensions.{times}
use Rattle.hls_ints.specs.Types.{int_type}
use Rattle.c_rules.specs.declared.names.Known.{Known}
use Rattle.c_rules.specs.declared.names.Known.TheVariants as known
use Rattle.c_rules.specs.declared.names.Header.{Header}
use Rattle.c_rules.specs.declared.names.Scope.{Scope}
use Rattle.c_rules.specs.Constants.{constant_value}
use Rattle.c_rules.specs.Library.{takes}
use Rattle.c_rules.specs.Names.{look_up, is_void_type, is_start_routine, gives_pointer}
use Rattle.c_rules.specs.Specifiers.{c_type, plain_integer}
use Rattle.c_rules.specs.Findings as findings
use Rattle.c_rules.specs.Walks.{Outcome, Finds, pure, optional, through, visited, finds, finds_if, finds_any, calls, place_in_tree, ◌>>=◌, ◌>>◌}
use Rattle.c_expressions.specs.Callees as c
use Rattle.c_expressions.specs.Expressions as e
use Rattle.c_expressions.specs.Expressions.{Looked, Passed, Formed, Called, Choice, Meant, Placed, Pointed, Operand, argument_step, form_step, call_step}
use Rattle.c_expressions.specs.Expressions.{choice_step, expression_step, place_step, pointer_step, term_step}
use Rattle.c_expressions.specs.Expressions.{meant, placed, term, choice, argument, value}
use Rattle.c_expressions.specs.Cuts.{Cuts, Cut, cut, free_from, kept}
use Rattle.c_resolved_program.specs.Orders.{left, given}
use Rattle.c_resolved_program.proofs.Walks.{IfAny, turn, after_one}

-- a part that finds no create
pub record IsQuiet {A : Type 0} (w : Finds A) : Type 0 where
  pub same : (found : Findings) → (left (w found)).creations ≡ found.creations

pub quiet_pure : {A : Type 0} (a : A) → IsQuiet (pure a)
quiet_pure a = record { same = λ found. refl }

pub quiet_then : {A B : Type 0} (p : Finds A) (q : A → Finds B) → IsQuiet p → ((a : A) → IsQuiet (q a)) → IsQuiet (p >>= q)
quiet_then {A} {B} p q hp hq = record {
  same = λ found. ap (λ (o : Outcome Findings B). (left o).creations) (turn (p found) q) ∙ (hq (given (p found))).same (left (p found)) ∙ hp.same found;
}

pub quiet_finds : (r : Rule) (at : ℕ) → IsQuiet (finds r at)
unfolding findings.broken
quiet_finds r at = record { same = λ found. refl }

pub quiet_if : (b : Bool) (r : Rule) (at : ℕ) → IsQuiet (finds_if b r at)
unfolding findings.broken
quiet_if true r at = record { same = λ found. refl }
quiet_if false r at = record { same = λ found. refl }

pub quiet_any : (r : Option Rule) (at : ℕ) → IsQuiet (finds_any r at)
unfolding findings.broken
quiet_any (Some r) at = record { same = λ found. refl }
quiet_any None at = record { same = λ found. refl }

pub quiet_call : (caller : Option ℕ) (callee at : ℕ) → IsQuiet (calls caller callee at)
quiet_call (Some caller) callee at = record { same = λ found. refl }
quiet_call None callee at = record { same = λ found. refl }

pub quiet_either : {A : Type 0} (b : Bool) (v w : Finds A) → IsQuiet v → IsQuiet w → IsQuiet (if b then v else w)
quiet_either true v w h k = h
quiet_either false v w h k = k

pub quiet_optional : {A : Type 0} (w : Option (Finds A)) → IfAny (λ (p : Finds A). IsQuiet p) w → IsQuiet (optional w)
quiet_optional None h = quiet_pure None
quiet_optional (Some p) h = quiet_then p (λ a. pure (Some a)) h (λ a. quiet_pure (Some a))

pub quiet_through : {A B : Type 0} (step : A → B → Finds A) (a : A) (items : List B) → AllByRecursion (λ b. (a : A) → IsQuiet (step a b)) items → IsQuiet (through step a items)
quiet_through step a [] all = record { same = λ found. refl }
quiet_through {A} step a (b ∷ rest) all = record {
  same = λ found.
      ap (λ (o : Outcome Findings A). (left o).creations) (after_one step a b rest found)
      ∙ (quiet_through step (given (step a b found)) rest all.1).same (left (step a b found)) ∙ (all.0 a).same found;
}

quiet_items : {B : Type 0} (walk : B → Finds (Unit {0})) (items : List B) → AllByRecursion (λ b. IsQuiet (walk b)) items → AllByRecursion
    (λ b. (a : Unit {0}) → IsQuiet (walk b)) items
quiet_items walk [] all = tt
quiet_items walk (b ∷ items) all = (λ _. all.0, quiet_items walk items all.1)

pub quiet_visited : {B : Type 0} (walk : B → Finds (Unit {0})) (items : List B) → AllByRecursion (λ b. IsQuiet (walk b)) items → IsQuiet (visited walk items)
quiet_visited walk items all = quiet_through (λ _ b. walk b) tt items (quiet_items walk items all)

-- ---- calls

quiet_header_rules : (h : Header) (count : ℕ) (is_value : Bool) (at : ℕ) → IsQuiet (c.header_rules h count is_value at)
unfolding c.header_rules
quiet_header_rules h count is_value at =
    let defined = finds_if (is_none h.definition) rule.Unknown at in
    let valued = finds_if (is_value && is_void_type h.returns) rule.Kind at in
    let counted = finds_if (not (nat_eq count (length h.parameters))) rule.Arguments at in
    let placed = finds_if (h.is_main || is_start_routine h) rule.Threads at in
    quiet_then defined (λ _. valued >> (counted >> placed)) (quiet_if (is_none h.definition) rule.Unknown at)
    (λ _. quiet_then valued (λ _. counted >> placed) (quiet_if (is_value && is_void_type h.returns) rule.Kind at)
    (λ _. quiet_then counted (λ _. placed) (quiet_if (not (nat_eq count (length h.parameters))) rule.Arguments at)
    (λ _. quiet_if (h.is_main || is_start_routine h) rule.Threads at)))

quiet_called : (s : Scope) (at : ℕ) (d : Option ℕ) → IsQuiet (c.called s at d)
unfolding c.called
quiet_called s at None = quiet_pure None
quiet_called s at (Some callee) = quiet_then (calls s.function callee at) (λ _. pure (Some callee)) (quiet_call s.function callee at) (λ _. quiet_pure (Some callee))

quiet_header_call : (s : Scope) (count : ℕ) (is_value : Bool) (at : ℕ) (h : Option Header) → IsQuiet (c.header_call s count is_value at h)
quiet_header_call s count is_value at None = quiet_then (finds rule.Unknown at) (λ _. pure None) (quiet_finds rule.Unknown at) (λ _. quiet_pure None)
quiet_header_call s count is_value at (Some h) =
    quiet_then (c.header_rules h count is_value at) (λ _. c.called s at h.definition) (quiet_header_rules h count is_value at) (λ _. quiet_called s at h.definition)

pub quiet_function_name : (s : Scope) (header count : ℕ) (is_value : Bool) (at : ℕ) → IsQuiet (c.function_name s header count is_value at)
unfolding c.function_name
quiet_function_name s header count is_value at = quiet_header_call s count is_value at (slice_get s.headers header)

quiet_library_place : (s : Scope) (function : LibraryFunction) (at : ℕ) → IsQuiet (c.library_place s function at)
unfolding c.library_place
quiet_library_place s library.Create at = quiet_pure tt
quiet_library_place s library.Join at = quiet_pure tt
quiet_library_place s library.Exit at = quiet_if (is_none s.function || not (gives_pointer s.gives)) rule.Threads at
quiet_library_place s library.Print at = quiet_pure tt
quiet_library_place s library.MutexInit at = quiet_pure tt
quiet_library_place s library.MutexDestroy at = quiet_pure tt
quiet_library_place s library.MutexLock at = quiet_pure tt
quiet_library_place s library.MutexUnlock at = quiet_pure tt
quiet_library_place s library.BarrierInit at = quiet_pure tt
quiet_library_place s library.BarrierDestroy at = quiet_pure tt
quiet_library_place s library.BarrierWait at = quiet_pure tt

pub quiet_library_name : (s : Scope) (function : LibraryFunction) (count at : ℕ) → IsQuiet (c.library_name s function count at)
unfolding c.library_name
quiet_library_name s function count at =
    quiet_then (finds_if (not (takes function count)) rule.Arguments at) (λ _. c.library_place s function at) (quiet_if (not (takes function count)) rule.Arguments at)
    (λ _. quiet_library_place s function at)

pub quiet_no_function : (k : Known) (at : ℕ) → IsQuiet (c.no_function k at)
unfolding c.no_function
quiet_no_function k at =
    quiet_then (finds_if (c.is_unknown k) rule.Unknown at) (λ _. finds_if (c.is_usable k) rule.Kind at) (quiet_if (c.is_unknown k) rule.Unknown at)
    (λ _. quiet_if (c.is_usable k) rule.Kind at)

quiet_library_value : (s : Scope) (function : LibraryFunction) (count at : ℕ) → IsQuiet (c.library_value s function count at)
unfolding c.library_value
quiet_library_value s function count at =
    quiet_then (finds rule.Place at) (λ _. c.library_name s function count at) (quiet_finds rule.Place at) (λ _. quiet_library_name s function count at)

quiet_misplaced : (s : Scope) (k : Known) (count at : ℕ) → IsQuiet (c.misplaced s k count at)
unfolding c.misplaced
quiet_misplaced s (known.Library function) count at = quiet_library_value s function count at
quiet_misplaced s (known.Declared m) count at = quiet_no_function (known.Declared m) at
quiet_misplaced s known.Unknown count at = quiet_no_function known.Unknown at

-- ---- values

quiet_refused : (r : Rule) (at : ℕ) → IsQuiet (e.refused r at)
quiet_refused r at = quiet_then (finds r at) (λ _. pure e.nothing) (quiet_finds r at) (λ _. quiet_pure e.nothing)

quiet_constant_from : (x : Option Typed) (at : ℕ) → IsQuiet (e.constant_from x at)
quiet_constant_from (Some x) at = quiet_pure (Expression.Constant x.ty x.number)
quiet_constant_from None at = quiet_refused rule.Constant at

quiet_constant : (k : Constant) (at : ℕ) → IsQuiet (e.constant k at)
unfolding e.constant
quiet_constant k at = quiet_constant_from (constant_value k) at

quiet_converted : (at : ℕ) (ty : Option BasicType) (x : Expression) → IsQuiet (e.converted at ty x)
unfolding e.converted
quiet_converted at (Some ty) x = quiet_pure (Expression.Cast (c_type ty) x)
quiet_converted at None x = quiet_refused rule.Kind at

-- ---- layers

abbrev pub QuietValue : e.Valued → Type 0
QuietValue w = (at : ℕ) (cuts : Cuts) → IsQuiet (w at cuts)

pub record QuietMeant (m : Meant) : Type 0 where
  pub value : QuietValue m.value
  pub condition : (n : ℕ) → IsQuiet (m.condition n)

pub record QuietForm (m : Formed) : Type 0 where
  pub value : QuietValue m.value
  pub condition : (at n : ℕ) → IsQuiet (m.condition at n)

abbrev pub QuietPlace : Placed → Type 0
QuietPlace p = AllByRecursion QuietMeant p.indices

abbrev pub QuietOperand : Operand → Type 0
QuietOperand t = QuietMeant t.operand

pub record QuietChoice (x : Choice) : Type 0 where
  pub condition : QuietMeant x.condition
  pub otherwise : QuietMeant x.otherwise

pub record QuietPassed (x : Passed) : Type 0 where
  pub value : QuietValue x.value
  pub looked : IsQuiet x.looked

abbrev pub QuietCall : Called → Type 0
QuietCall k = AllByRecursion QuietPassed k.arguments

abbrev pub QuietPointed : Pointed → Type 0
QuietPointed p = IsQuiet p.looked

chosen_value : (w : e.Valued) (offset n : ℕ) → QuietValue w → IsQuiet (e.chosen_value w offset n)
chosen_value w offset n h =
    let at = place_in_tree offset in
    quiet_then (w at (free_from n)) (λ x. pure (e.chosen at x)) (h at (free_from n)) (λ x. quiet_pure (e.chosen at x))

operand_value : (n : ℕ) (x : Meant) → QuietMeant x → IsQuiet (e.operand_value n x)
operand_value n x h = chosen_value x.value x.offset n h.value

pub quiet_look : (x : Meant) → QuietMeant x → IsQuiet (e.look x)
quiet_look x h = quiet_then (e.operand_value 0 x) (λ _. pure tt) (operand_value 0 x h) (λ _. quiet_pure tt)

each_look : (list : List Meant) → AllByRecursion QuietMeant list → AllByRecursion (λ x. IsQuiet (e.look x)) list
each_look [] all = tt
each_look (x ∷ list) all = (quiet_look x all.0, each_look list all.1)

look_at_all : (list : List Meant) → AllByRecursion QuietMeant list → IsQuiet (e.look_at_all list)
look_at_all list all = quiet_visited e.look list (each_look list all)

each_value : (list : List Passed) (at : ℕ) → AllByRecursion QuietPassed list → AllByRecursion (λ w. (x : Cut (List Expression)) → IsQuiet (e.next_value at x w)) list
each_value [] at all = tt
each_value (w ∷ list) at all = (
  λ x. quiet_then (w.value at x.cuts) (λ y. pure (cut y.cuts (x.rest ++ y.rest ∷ []))) (all.0.value at x.cuts) (λ y. quiet_pure (cut y.cuts (x.rest ++ y.rest ∷ []))),
  each_value list at all.1,
)

pub quiet_all_values : (list : List Passed) (at : ℕ) (cuts : Cuts) → AllByRecursion QuietPassed list → IsQuiet (e.all_values list at cuts)
unfolding e.all_values
quiet_all_values list at cuts all = quiet_through (e.next_value at) (cut cuts []) list (each_value list at all)

no_number : (list : List Meant) (cuts : Cuts) → AllByRecursion QuietMeant list → IsQuiet (e.no_number list cuts)
unfolding e.no_number
no_number list cuts all = quiet_then (e.look_at_all list) (λ _. pure (cut cuts None)) (look_at_all list all) (λ _. quiet_pure (cut cuts None))

pub quiet_element : (d : Dimensions) (list : List Meant) (at : ℕ) (cuts : Cuts) → AllByRecursion QuietMeant list → IsQuiet (e.element_number d list at cuts)
unfolding e.element_number
quiet_element Scalar list at cuts all = no_number list cuts all
quiet_element (One a) [] at cuts all = no_number [] cuts all
quiet_element (One a) (i ∷ []) at cuts all =
    quiet_then (i.value at cuts) (λ x. pure (cut x.cuts (Some x.rest))) (all.0.value at cuts) (λ x. quiet_pure (cut x.cuts (Some x.rest)))
quiet_element (One a) (i ∷ j ∷ more) at cuts all = no_number (i ∷ j ∷ more) cuts all
quiet_element (Two a k) [] at cuts all = no_number [] cuts all
quiet_element (Two a k) (i ∷ []) at cuts all = no_number (i ∷ []) cuts all
quiet_element (Two a k) (i ∷ j ∷ []) at cuts all =
    let made = λ (x y : Cut Expression). cut y.cuts (Some (Expression.Row x.rest a y.rest k)) in
    quiet_then (i.value at cuts) (λ x. j.value at x.cuts >>= (λ y. pure (made x y))) (all.0.value at cuts)
    (λ x. quiet_then (j.value at x.cuts) (λ y. pure (made x y)) (all.1.0.value at x.cuts) (λ y. quiet_pure (made x y)))
quiet_element (Two a k) (i ∷ j ∷ l ∷ more) at cuts all = no_number (i ∷ j ∷ l ∷ more) cuts all
quiet_element (Three a k m) [] at cuts all = no_number [] cuts all
quiet_element (Three a k m) (i ∷ []) at cuts all = no_number (i ∷ []) cuts all
quiet_element (Three a k m) (i ∷ j ∷ []) at cuts all = no_number (i ∷ j ∷ []) cuts all
quiet_element (Three a k m) (i ∷ j ∷ l ∷ []) at cuts all =
    let made = λ (x y z : Cut Expression). cut z.cuts (Some (Expression.Row (Expression.Row x.rest a y.rest k) (times a k) z.rest m)) in
    quiet_then (i.value at cuts) (λ x. j.value at x.cuts >>= (λ y. l.value at y.cuts >>= (λ z. pure (made x y z)))) (all.0.value at cuts)
    (λ x. quiet_then (j.value at x.cuts) (λ y. l.value at y.cuts >>= (λ z. pure (made x y z))) (all.1.0.value at x.cuts)
    (λ y. quiet_then (l.value at y.cuts) (λ z. pure (made x y z)) (all.1.1.0.value at y.cuts) (λ z. quiet_pure (made x y z))))
quiet_element (Three a k m) (i ∷ j ∷ l ∷ o ∷ more) at cuts all = no_number (i ∷ j ∷ l ∷ o ∷ more) cuts all

module _ (s : Scope) where
  operand_condition : (w : e.Valued) (offset n : ℕ) → QuietValue w → IsQuiet (e.operand_condition s w offset n)
  operand_condition w offset n h = quiet_then (e.chosen_value w offset n) (λ x. pure (e.test x)) (chosen_value w offset n h) (λ x. quiet_pure (e.test x))

  a_value : (w : e.Valued) → QuietValue w → QuietForm (e.a_value s w)
  a_value w h = record { value = h; condition = λ at n. operand_condition w at n h }

  constant_value_is : (k : Constant) (offset : ℕ) → QuietValue (λ at cuts. e.constant k offset >>= (λ x. pure (cut cuts x)))
  constant_value_is k offset at cuts = quiet_then (e.constant k offset) (λ x. pure (cut cuts x)) (quiet_constant k offset) (λ x. quiet_pure (cut cuts x))

  place_value : (p : Placed) → QuietPlace p → QuietValue (e.place_value s p)
  unfolding e.place_value
  place_value p h at cuts =
      let v = e.variable_named s p.name in
      let fault = e.misuse (look_up s p.name.bytes) (length p.indices) in
      let made = λ (x : Cut (Option Expression)). cut x.cuts (e.named_value v x.rest) in
      quiet_then (e.element_number (e.dimensions_of v) p.indices at cuts) (λ x. finds_any fault p.name.offset >> pure (made x))
      (quiet_element (e.dimensions_of v) p.indices at cuts h)
      (λ x. quiet_then (finds_any fault p.name.offset) (λ _. pure (made x)) (quiet_any fault p.name.offset) (λ _. quiet_pure (made x)))

  place_form : (p : Placed) → QuietPlace p → QuietForm (e.place_form s p)
  place_form p h = record { value = place_value p h; condition = λ at n. operand_condition (e.place_value s p) at n (place_value p h) }

  unary_value : (operator : UnaryOperator) (x : Meant) → QuietMeant x → QuietValue (e.unary_value s operator x)
  unary_value operator x h at cuts =
      quiet_then (x.value at cuts) (λ y. pure (cut y.cuts (e.unary operator y.rest))) (h.value at cuts) (λ y. quiet_pure (cut y.cuts (e.unary operator y.rest)))

  unary_form : (operator : UnaryOperator) (x : Meant) → QuietMeant x → QuietForm (e.unary_form s operator x)
  unary_form operator x h = record {
    value = unary_value operator x h;
    condition = λ at n.
        quiet_either (e.is_not operator) (e.opposite s (x.condition n)) (e.operand_condition s (e.unary_value s operator x) at n)
        (quiet_then (x.condition n) (λ k. pure (e.opposite_of k)) (h.condition n) (λ k. quiet_pure (e.opposite_of k)))
        (operand_condition (e.unary_value s operator x) at n (unary_value operator x h));
  }

  cast : (words : Specifiers) (x : Meant) → QuietMeant x → QuietValue (e.cast s words x)
  unfolding e.cast
  cast words x h at cuts =
      let ty = plain_integer words in
      quiet_then (e.cast_operand s ty x at cuts) (λ y. e.converted words.offset ty y.rest >>= (λ z. pure (cut y.cuts z)))
      (quiet_either (e.is_long ty && e.is_argument_name s x.name) (pure (cut cuts e.argument_value)) (x.value at cuts) (quiet_pure (cut cuts e.argument_value)) (h.value at cuts))
      (λ y. quiet_then (e.converted words.offset ty y.rest) (λ z. pure (cut y.cuts z)) (quiet_converted words.offset ty y.rest) (λ z. quiet_pure (cut y.cuts z)))

  terms_value : (terms : List Operand) (at : ℕ) → AllByRecursion QuietOperand terms → AllByRecursion (λ (t : Operand). (x : Cut Expression) → IsQuiet (e.term_value s at x t)) terms
  terms_value [] at all = tt
  terms_value (t ∷ terms) at all = (
    λ x.
        quiet_then (t.operand.value at x.cuts) (λ y. pure (cut y.cuts (e.operated t.operator x.rest y.rest))) (all.0.value at x.cuts)
        (λ y. quiet_pure (cut y.cuts (e.operated t.operator x.rest y.rest))),
    terms_value terms at all.1,
  )

  terms_condition : (terms : List Operand) (n : ℕ) → AllByRecursion QuietOperand terms → AllByRecursion (λ (t : Operand). (k : Statement) → IsQuiet (e.term_condition s n k t)) terms
  terms_condition [] n all = tt
  terms_condition (t ∷ terms) n all =
      (λ k. quiet_then (t.operand.condition n) (λ d. pure (e.joined t.operator k d)) (all.0.condition n) (λ d. quiet_pure (e.joined t.operator k d)), terms_condition terms n all.1)

  arithmetic_value : (first : Meant) (terms : List Operand) → QuietMeant first → AllByRecursion QuietOperand terms → QuietValue (e.arithmetic_value s first terms)
  unfolding e.terms_value
  arithmetic_value first terms h all at cuts =
      quiet_then (first.value at cuts) (λ x. e.terms_value s at x terms) (h.value at cuts) (λ x. quiet_through (e.term_value s at) x terms (terms_value terms at all))

  joined_condition : (first : Meant) (terms : List Operand) → QuietMeant first → AllByRecursion QuietOperand terms → (n : ℕ) → IsQuiet (e.joined_condition s first terms n)
  unfolding e.terms_condition
  joined_condition first terms h all n =
      quiet_then (first.condition n) (λ k. e.terms_condition s n k terms) (h.condition n) (λ k. quiet_through (e.term_condition s n) k terms (terms_condition terms n all))

  truth_value : (first : Meant) (terms : List Operand) → QuietMeant first → AllByRecursion QuietOperand terms → (cuts : Cuts) → IsQuiet (e.truth_value s first terms cuts)
  truth_value first terms h all cuts =
      quiet_then (e.joined_condition s first terms cuts.next) (λ x. pure (kept cuts.next int_type (Statement.Truth cuts.next x) cuts)) (joined_condition first terms h all cuts.next)
      (λ x. quiet_pure (kept cuts.next int_type (Statement.Truth cuts.next x) cuts))

  binary_form : (first : Meant) (terms : List Operand) → QuietMeant first → AllByRecursion QuietOperand terms → QuietForm (e.binary_form s first terms)
  binary_form first terms h all = record {
    value = λ at cuts.
        quiet_either (e.are_short_circuits s terms) (e.truth_value s first terms cuts) (e.arithmetic_value s first terms at cuts) (truth_value first terms h all cuts)
        (arithmetic_value first terms h all at cuts);
    condition = λ at n.
        quiet_either (e.are_short_circuits s terms) (e.joined_condition s first terms n) (e.operand_condition s (e.arithmetic_value s first terms) at n) (joined_condition first terms h all n)
        (operand_condition (e.arithmetic_value s first terms) at n (arithmetic_value first terms h all));
  }

  each_looked : (list : List Passed) → AllByRecursion QuietPassed list → AllByRecursion (λ (x : Passed). IsQuiet x.looked) list
  each_looked [] all = tt
  each_looked (x ∷ list) all = (all.0.looked, each_looked list all.1)

  function_value : (name : Name) (list : List Passed) (header : ℕ) → AllByRecursion QuietPassed list → QuietValue (e.function_value s name list header)
  unfolding e.function_value
  function_value name list header all at cuts =
      let made = λ (d : Option ℕ) (values : Cut (List Expression)). e.called_value at cuts.next (c.value_type (slice_get s.headers header)) d values in
      quiet_then (c.function_name s header (length list) true name.offset) (λ d. e.all_values list at cuts >>= (λ values. pure (made d values)))
      (quiet_function_name s header (length list) true name.offset)
      (λ d. quiet_then (e.all_values list at cuts) (λ values. pure (made d values)) (quiet_all_values list at cuts all)
      (λ values. quiet_pure (made d values)))

  no_value : (k : Known) (name : Name) (list : List Passed) (cuts : Cuts) → AllByRecursion QuietPassed list → IsQuiet (e.no_value s k name list cuts)
  unfolding e.no_value
  no_value k name list cuts all =
      let looked = visited (λ (x : Passed). x.looked) list in
      quiet_then (c.misplaced s k (length list) name.offset) (λ _. looked >> pure (cut cuts e.nothing)) (quiet_misplaced s k (length list) name.offset)
      (λ _. quiet_then looked (λ _. pure (cut cuts e.nothing)) (quiet_visited (λ (x : Passed). x.looked) list (each_looked list all)) (λ _. quiet_pure (cut cuts e.nothing)))

  call_by : (o : Option ℕ) (k : Known) (x : Called) → QuietCall x → QuietValue (e.call_by s o k x)
  call_by (Some header) k x all at cuts = function_value x.name x.arguments header all at cuts
  call_by None k x all at cuts = no_value k x.name x.arguments cuts all

  call_value : (k : Called) → QuietCall k → QuietValue (e.call_value s k)
  call_value k all = call_by (c.number_of (look_up s k.name.bytes)) (look_up s k.name.bytes) k all

  next_choices : (choices : List Choice) (n : ℕ) → AllByRecursion QuietChoice choices → AllByRecursion (λ k. (x : e.Chosen) → IsQuiet (e.next_choice s n x k)) choices
  next_choices [] n all = tt
  next_choices (k ∷ choices) n all = (
    λ x.
        let made = λ (z : Statement) (y : e.Chosen). e.conditional n (place_in_tree k.condition.offset) z x y in
        quiet_then (k.condition.condition n) (λ z. e.operand_value n k.otherwise >>= (λ y. pure (made z y))) (all.0.condition.condition n)
        (λ z. quiet_then (e.operand_value n k.otherwise) (λ y. pure (made z y)) (operand_value n k.otherwise all.0.otherwise) (λ y. quiet_pure (made z y))),
    next_choices choices n all.1,
  )

  conditional_value : (first : Meant) (choices : List Choice) → QuietMeant first → AllByRecursion QuietChoice choices → QuietValue (e.conditional_value s first choices)
  unfolding e.further_choices
  conditional_value first choices h all at cuts =
      quiet_then (e.choices_value s cuts.next first choices) (λ x. pure (e.with_choice cuts x))
      (quiet_then (e.operand_value cuts.next first) (λ x. e.further_choices s cuts.next x choices) (operand_value cuts.next first h)
      (λ x. quiet_through (e.next_choice s cuts.next) x choices (next_choices choices cuts.next all)))
      (λ x. quiet_pure (e.with_choice cuts x))

  refused_value : (offset : ℕ) (looked : Looked) → IsQuiet looked → QuietValue (λ at cuts. e.refused_value s offset looked cuts)
  unfolding e.refused_value
  refused_value offset looked h at cuts =
      quiet_then (finds rule.Kind offset) (λ _. looked >> pure (cut cuts e.nothing)) (quiet_finds rule.Kind offset)
      (λ _. quiet_then looked (λ _. pure (cut cuts e.nothing)) h (λ _. quiet_pure (cut cuts e.nothing)))

  refused_argument : (offset : ℕ) (looked : Looked) → IsQuiet looked → QuietPassed (e.refused_argument s offset looked)
  refused_argument offset looked h = record { value = refused_value offset looked h; looked = h }

  abbrev formed : FormTree → Formed
  formed = fold-Form Passed Formed Called Choice Meant Placed Pointed Operand (argument_step s) (form_step s) (call_step s) (choice_step s) (expression_step s) (place_step s)
      (pointer_step s) (term_step s)

  abbrev called : CallTree → Called
  called = fold-Call Passed Formed Called Choice Meant Placed Pointed Operand (argument_step s) (form_step s) (call_step s) (choice_step s) (expression_step s) (place_step s)
      (pointer_step s) (term_step s)

  abbrev pointed : PointerTree → Pointed
  pointed = fold-Pointer Passed Formed Called Choice Meant Placed Pointed Operand (argument_step s) (form_step s) (call_step s) (choice_step s) (expression_step s) (place_step s)
      (pointer_step s) (term_step s)

  abbrev ClaimArgument : ArgumentTree → Type 0
  ClaimArgument x = QuietPassed (argument s x)

  abbrev ClaimForm : FormTree → Type 0
  ClaimForm x = QuietForm (formed x)

  abbrev ClaimCall : CallTree → Type 0
  ClaimCall x = QuietCall (called x)

  abbrev ClaimChoice : ChoiceTree → Type 0
  ClaimChoice x = QuietChoice (choice s x)

  abbrev ClaimExpression : ExpressionTree → Type 0
  ClaimExpression x = QuietMeant (meant s x)

  abbrev ClaimPlace : PlaceTree → Type 0
  ClaimPlace x = QuietPlace (placed s x)

  abbrev ClaimPointer : PointerTree → Type 0
  ClaimPointer x = QuietPointed (pointed x)

  abbrev ClaimTerm : TermTree → Type 0
  ClaimTerm x = QuietOperand (term s x)

  abbrev SomeArgument : Type 0
  SomeArgument = Such the_family (claims ClaimArgument ClaimForm ClaimCall ClaimChoice ClaimExpression ClaimPlace ClaimPointer ClaimTerm) member-Argument

  abbrev SomeForm : Type 0
  SomeForm = Such the_family (claims ClaimArgument ClaimForm ClaimCall ClaimChoice ClaimExpression ClaimPlace ClaimPointer ClaimTerm) member-Form

  abbrev SomeCall : Type 0
  SomeCall = Such the_family (claims ClaimArgument ClaimForm ClaimCall ClaimChoice ClaimExpression ClaimPlace ClaimPointer ClaimTerm) member-Call

  abbrev SomeChoice : Type 0
  SomeChoice = Such the_family (claims ClaimArgument ClaimForm ClaimCall ClaimChoice ClaimExpression ClaimPlace ClaimPointer ClaimTerm) member-Choice

  abbrev SomeExpression : Type 0
  SomeExpression = Such the_family (claims ClaimArgument ClaimForm ClaimCall ClaimChoice ClaimExpression ClaimPlace ClaimPointer ClaimTerm) member-Expression

  abbrev SomePlace : Type 0
  SomePlace = Such the_family (claims ClaimArgument ClaimForm ClaimCall ClaimChoice ClaimExpression ClaimPlace ClaimPointer ClaimTerm) member-Place

  abbrev SomePointer : Type 0
  SomePointer = Such the_family (claims ClaimArgument ClaimForm ClaimCall ClaimChoice ClaimExpression ClaimPlace ClaimPointer ClaimTerm) member-Pointer

  abbrev SomeTerm : Type 0
  SomeTerm = Such the_family (claims ClaimArgument ClaimForm ClaimCall ClaimChoice ClaimExpression ClaimPlace ClaimPointer ClaimTerm) member-Term

  are_terms : (list : List SomeTerm) → AllByRecursion QuietOperand (map (term s) (map (λ e. e.0) list))
  are_terms [] = tt
  are_terms (x ∷ list) = (x.1, are_terms list)

  are_indices : (list : List SomeExpression) → AllByRecursion QuietMeant (map (meant s) (map (λ e. e.0) list))
  are_indices [] = tt
  are_indices (x ∷ list) = (x.1, are_indices list)

  are_choices : (list : List SomeChoice) → AllByRecursion QuietChoice (map (choice s) (map (λ e. e.0) list))
  are_choices [] = tt
  are_choices (x ∷ list) = (x.1, are_choices list)

  are_arguments : (list : List SomeArgument) → AllByRecursion QuietPassed (map (argument s) (map (λ e. e.0) list))
  are_arguments [] = tt
  are_arguments (x ∷ list) = (x.1, are_arguments list)

  abbrev seen_argument : Argument-F SomeArgument SomeForm SomeCall SomeChoice SomeExpression SomePlace SomePointer SomeTerm →
      Argument-F ArgumentTree FormTree CallTree ChoiceTree ExpressionTree PlaceTree PointerTree TermTree
  seen_argument y = map-Argument SomeArgument SomeForm SomeCall SomeChoice SomeExpression SomePlace SomePointer SomeTerm ArgumentTree FormTree CallTree ChoiceTree ExpressionTree
      PlaceTree PointerTree TermTree (λ e. e.0) (λ e. e.0) (λ e. e.0) (λ e. e.0) (λ e. e.0) (λ e. e.0) (λ e. e.0) (λ e. e.0) y

  abbrev parts_in_argument : Argument-F ArgumentTree FormTree CallTree ChoiceTree ExpressionTree PlaceTree PointerTree TermTree →
      Argument-F Passed Formed Called Choice Meant Placed Pointed Operand
  parts_in_argument x = map-Argument ArgumentTree FormTree CallTree ChoiceTree ExpressionTree PlaceTree PointerTree TermTree Passed Formed Called Choice Meant Placed Pointed Operand
      (argument s) (formed) (called) (choice s) (meant s) (placed s) (pointed) (term s) x

  abbrev seen_form : Form-F SomeArgument SomeForm SomeCall SomeChoice SomeExpression SomePlace SomePointer SomeTerm →
      Form-F ArgumentTree FormTree CallTree ChoiceTree ExpressionTree PlaceTree PointerTree TermTree
  seen_form y = map-Form SomeArgument SomeForm SomeCall SomeChoice SomeExpression SomePlace SomePointer SomeTerm ArgumentTree FormTree CallTree ChoiceTree ExpressionTree PlaceTree
      PointerTree TermTree (λ e. e.0) (λ e. e.0) (λ e. e.0) (λ e. e.0) (λ e. e.0) (λ e. e.0) (λ e. e.0) (λ e. e.0) y

  abbrev parts_in_form : Form-F ArgumentTree FormTree CallTree ChoiceTree ExpressionTree PlaceTree PointerTree TermTree →
      Form-F Passed Formed Called Choice Meant Placed Pointed Operand
  parts_in_form x = map-Form ArgumentTree FormTree CallTree ChoiceTree ExpressionTree PlaceTree PointerTree TermTree Passed Formed Called Choice Meant Placed Pointed Operand
      (argument s) (formed) (called) (choice s) (meant s) (placed s) (pointed) (term s) x

  abbrev seen_call : Call-F SomeArgument SomeForm SomeCall SomeChoice SomeExpression SomePlace SomePointer SomeTerm →
      Call-F ArgumentTree FormTree CallTree ChoiceTree ExpressionTree PlaceTree PointerTree TermTree
  seen_call y = map-Call SomeArgument SomeForm SomeCall SomeChoice SomeExpression SomePlace SomePointer SomeTerm ArgumentTree FormTree CallTree ChoiceTree ExpressionTree PlaceTree
      PointerTree TermTree (λ e. e.0) (λ e. e.0) (λ e. e.0) (λ e. e.0) (λ e. e.0) (λ e. e.0) (λ e. e.0) (λ e. e.0) y

  abbrev parts_in_call : Call-F ArgumentTree FormTree CallTree ChoiceTree ExpressionTree PlaceTree PointerTree TermTree →
      Call-F Passed Formed Called Choice Meant Placed Pointed Operand
  parts_in_call x = map-Call ArgumentTree FormTree CallTree ChoiceTree ExpressionTree PlaceTree PointerTree TermTree Passed Formed Called Choice Meant Placed Pointed Operand
      (argument s) (formed) (called) (choice s) (meant s) (placed s) (pointed) (term s) x

  abbrev seen_choice : Choice-F SomeArgument SomeForm SomeCall SomeChoice SomeExpression SomePlace SomePointer SomeTerm →
      Choice-F ArgumentTree FormTree CallTree ChoiceTree ExpressionTree PlaceTree PointerTree TermTree
  seen_choice y = map-Choice SomeArgument SomeForm SomeCall SomeChoice SomeExpression SomePlace SomePointer SomeTerm ArgumentTree FormTree CallTree ChoiceTree ExpressionTree
      PlaceTree PointerTree TermTree (λ e. e.0) (λ e. e.0) (λ e. e.0) (λ e. e.0) (λ e. e.0) (λ e. e.0) (λ e. e.0) (λ e. e.0) y

  abbrev parts_in_choice : Choice-F ArgumentTree FormTree CallTree ChoiceTree ExpressionTree PlaceTree PointerTree TermTree →
      Choice-F Passed Formed Called Choice Meant Placed Pointed Operand
  parts_in_choice x = map-Choice ArgumentTree FormTree CallTree ChoiceTree ExpressionTree PlaceTree PointerTree TermTree Passed Formed Called Choice Meant Placed Pointed Operand
      (argument s) (formed) (called) (choice s) (meant s) (placed s) (pointed) (term s) x

  abbrev seen_expression : Expression-F SomeArgument SomeForm SomeCall SomeChoice SomeExpression SomePlace SomePointer SomeTerm →
      Expression-F ArgumentTree FormTree CallTree ChoiceTree ExpressionTree PlaceTree PointerTree TermTree
  seen_expression y = map-Expression SomeArgument SomeForm SomeCall SomeChoice SomeExpression SomePlace SomePointer SomeTerm ArgumentTree FormTree CallTree ChoiceTree
      ExpressionTree PlaceTree PointerTree TermTree (λ e. e.0) (λ e. e.0) (λ e. e.0) (λ e. e.0) (λ e. e.0) (λ e. e.0) (λ e. e.0) (λ e. e.0) y

  abbrev parts_in_expression : Expression-F ArgumentTree FormTree CallTree ChoiceTree ExpressionTree PlaceTree PointerTree TermTree →
      Expression-F Passed Formed Called Choice Meant Placed Pointed Operand
  parts_in_expression x = map-Expression ArgumentTree FormTree CallTree ChoiceTree ExpressionTree PlaceTree PointerTree TermTree Passed Formed Called Choice Meant Placed Pointed
      Operand (argument s) (formed) (called) (choice s) (meant s) (placed s) (pointed) (term s) x

  abbrev seen_place : Place-F SomeArgument SomeForm SomeCall SomeChoice SomeExpression SomePlace SomePointer SomeTerm →
      Place-F ArgumentTree FormTree CallTree ChoiceTree ExpressionTree PlaceTree PointerTree TermTree
  seen_place y = map-Place SomeArgument SomeForm SomeCall SomeChoice SomeExpression SomePlace SomePointer SomeTerm ArgumentTree FormTree CallTree ChoiceTree ExpressionTree
      PlaceTree PointerTree TermTree (λ e. e.0) (λ e. e.0) (λ e. e.0) (λ e. e.0) (λ e. e.0) (λ e. e.0) (λ e. e.0) (λ e. e.0) y

  abbrev parts_in_place : Place-F ArgumentTree FormTree CallTree ChoiceTree ExpressionTree PlaceTree PointerTree TermTree →
      Place-F Passed Formed Called Choice Meant Placed Pointed Operand
  parts_in_place x = map-Place ArgumentTree FormTree CallTree ChoiceTree ExpressionTree PlaceTree PointerTree TermTree Passed Formed Called Choice Meant Placed Pointed Operand
      (argument s) (formed) (called) (choice s) (meant s) (placed s) (pointed) (term s) x

  abbrev seen_pointer : Pointer-F SomeArgument SomeForm SomeCall SomeChoice SomeExpression SomePlace SomePointer SomeTerm →
      Pointer-F ArgumentTree FormTree CallTree ChoiceTree ExpressionTree PlaceTree PointerTree TermTree
  seen_pointer y = map-Pointer SomeArgument SomeForm SomeCall SomeChoice SomeExpression SomePlace SomePointer SomeTerm ArgumentTree FormTree CallTree ChoiceTree ExpressionTree
      PlaceTree PointerTree TermTree (λ e. e.0) (λ e. e.0) (λ e. e.0) (λ e. e.0) (λ e. e.0) (λ e. e.0) (λ e. e.0) (λ e. e.0) y

  abbrev parts_in_pointer : Pointer-F ArgumentTree FormTree CallTree ChoiceTree ExpressionTree PlaceTree PointerTree TermTree →
      Pointer-F Passed Formed Called Choice Meant Placed Pointed Operand
  parts_in_pointer x = map-Pointer ArgumentTree FormTree CallTree ChoiceTree ExpressionTree PlaceTree PointerTree TermTree Passed Formed Called Choice Meant Placed Pointed Operand
      (argument s) (formed) (called) (choice s) (meant s) (placed s) (pointed) (term s) x

  abbrev seen_term : Term-F SomeArgument SomeForm SomeCall SomeChoice SomeExpression SomePlace SomePointer SomeTerm →
      Term-F ArgumentTree FormTree CallTree ChoiceTree ExpressionTree PlaceTree PointerTree TermTree
  seen_term y = map-Term SomeArgument SomeForm SomeCall SomeChoice SomeExpression SomePlace SomePointer SomeTerm ArgumentTree FormTree CallTree ChoiceTree ExpressionTree PlaceTree
      PointerTree TermTree (λ e. e.0) (λ e. e.0) (λ e. e.0) (λ e. e.0) (λ e. e.0) (λ e. e.0) (λ e. e.0) (λ e. e.0) y

  abbrev parts_in_term : Term-F ArgumentTree FormTree CallTree ChoiceTree ExpressionTree PlaceTree PointerTree TermTree →
      Term-F Passed Formed Called Choice Meant Placed Pointed Operand
  parts_in_term x = map-Term ArgumentTree FormTree CallTree ChoiceTree ExpressionTree PlaceTree PointerTree TermTree Passed Formed Called Choice Meant Placed Pointed Operand
      (argument s) (formed) (called) (choice s) (meant s) (placed s) (pointed) (term s) x

  form_case : (y : Form-F SomeArgument SomeForm SomeCall SomeChoice SomeExpression SomePlace SomePointer SomeTerm) → QuietForm (form_step s (parts_in_form (seen_form y)))
  form_case (Form-F.Constant k at) = a_value (λ here cuts. e.constant k at >>= (λ x. pure (cut cuts x))) (constant_value_is k at)
  form_case (Form-F.Place p) = place_form (placed s p.0) p.1
  form_case (Form-F.Call k) = a_value (e.call_value s (called k.0)) (call_value (called k.0) k.1)
  form_case (Form-F.Unary operator x) = unary_form operator (meant s x.0) x.1
  form_case (Form-F.Cast words x) = a_value (e.cast s words (meant s x.0)) (cast words (meant s x.0) x.1)
  form_case (Form-F.Binary first terms) = binary_form (meant s first.0) (map (term s) (map (λ e. e.0) terms)) first.1 (are_terms terms)
  form_case (Form-F.Conditional first choices) =
      a_value (e.conditional_value s (meant s first.0) (map (choice s) (map (λ e. e.0) choices)))
      (conditional_value (meant s first.0) (map (choice s) (map (λ e. e.0) choices)) first.1 (are_choices choices))

  argument_case : (y : Argument-F SomeArgument SomeForm SomeCall SomeChoice SomeExpression SomePlace SomePointer SomeTerm) → QuietPassed
      (argument_step s (parts_in_argument (seen_argument y)))
  argument_case (Argument-F.Value x) = record { value = x.1.value; looked = quiet_look (meant s x.0) x.1 }
  argument_case (Argument-F.Text bytes at) = refused_argument at (pure tt) (quiet_pure tt)
  argument_case (Argument-F.Address p at) = refused_argument at (e.look_at_all (placed s p.0).indices) (look_at_all (placed s p.0).indices p.1)
  argument_case (Argument-F.Pointer p) = refused_argument (pointed p.0).offset (pointed p.0).looked p.1

  call_case : (y : Call-F SomeArgument SomeForm SomeCall SomeChoice SomeExpression SomePlace SomePointer SomeTerm) → QuietCall (call_step s (parts_in_call (seen_call y)))
  call_case y = are_arguments y.arguments

  choice_case : (y : Choice-F SomeArgument SomeForm SomeCall SomeChoice SomeExpression SomePlace SomePointer SomeTerm) → QuietChoice
      (choice_step s (parts_in_choice (seen_choice y)))
  choice_case y = record { condition = y.condition.1; otherwise = y.otherwise.1 }

  expression_case : (y : Expression-F SomeArgument SomeForm SomeCall SomeChoice SomeExpression SomePlace SomePointer SomeTerm) →
      QuietMeant (expression_step s (parts_in_expression (seen_expression y)))
  expression_case y = record { value = y.form.1.value; condition = y.form.1.condition y.offset }

  place_case : (y : Place-F SomeArgument SomeForm SomeCall SomeChoice SomeExpression SomePlace SomePointer SomeTerm) → QuietPlace (place_step s (parts_in_place (seen_place y)))
  place_case y = are_indices y.indices

  pointer_at : (offset : ℕ) (operand : Option SomeExpression) → let y : Pointer-F SomeArgument SomeForm SomeCall SomeChoice SomeExpression SomePlace SomePointer SomeTerm = record
      { offset = offset; operand = operand } in
      QuietPointed (pointer_step s (parts_in_pointer (seen_pointer y)))
  pointer_at offset None = quiet_pure tt
  pointer_at offset (Some x) = quiet_look (meant s x.0) x.1

  pointer_case : (y : Pointer-F SomeArgument SomeForm SomeCall SomeChoice SomeExpression SomePlace SomePointer SomeTerm) → QuietPointed
      (pointer_step s (parts_in_pointer (seen_pointer y)))
  pointer_case y = pointer_at y.offset y.operand

  term_case : (y : Term-F SomeArgument SomeForm SomeCall SomeChoice SomeExpression SomePlace SomePointer SomeTerm) → QuietOperand (term_step s (parts_in_term (seen_term y)))
  term_case y = y.operand.1

  argument_induct : (x : Argument-F ArgumentTree FormTree CallTree ChoiceTree ExpressionTree PlaceTree PointerTree TermTree)
      (y : Argument-F SomeArgument SomeForm SomeCall SomeChoice SomeExpression SomePlace SomePointer SomeTerm) → seen_argument y ≡ x → ClaimArgument (roll-Argument x)
  argument_induct x y e = subst (λ k. ClaimArgument (roll-Argument k)) e (subst QuietPassed
      (sym (fold-roll-Argument Passed Formed Called Choice Meant Placed Pointed Operand (argument_step s) (form_step s) (call_step s) (choice_step s) (expression_step s)
      (place_step s) (pointer_step s) (term_step s) (seen_argument y))) (argument_case y))

  form_induct : (x : Form-F ArgumentTree FormTree CallTree ChoiceTree ExpressionTree PlaceTree PointerTree TermTree)
      (y : Form-F SomeArgument SomeForm SomeCall SomeChoice SomeExpression SomePlace SomePointer SomeTerm) → seen_form y ≡ x → ClaimForm (roll-Form x)
  form_induct x y e = subst (λ k. ClaimForm (roll-Form k)) e
      (subst QuietForm
      (sym (fold-roll-Form Passed Formed Called Choice Meant Placed Pointed Operand (argument_step s) (form_step s) (call_step s) (choice_step s) (expression_step s) (place_step s)
      (pointer_step s) (term_step s) (seen_form y))) (form_case y))

  call_induct : (x : Call-F ArgumentTree FormTree CallTree ChoiceTree ExpressionTree PlaceTree PointerTree TermTree)
      (y : Call-F SomeArgument SomeForm SomeCall SomeChoice SomeExpression SomePlace SomePointer SomeTerm) → seen_call y ≡ x → ClaimCall (roll-Call x)
  call_induct x y e = subst (λ k. ClaimCall (roll-Call k)) e
      (subst QuietCall
      (sym (fold-roll-Call Passed Formed Called Choice Meant Placed Pointed Operand (argument_step s) (form_step s) (call_step s) (choice_step s) (expression_step s) (place_step s)
      (pointer_step s) (term_step s) (seen_call y))) (call_case y))

  choice_induct : (x : Choice-F ArgumentTree FormTree CallTree ChoiceTree ExpressionTree PlaceTree PointerTree TermTree)
      (y : Choice-F SomeArgument SomeForm SomeCall SomeChoice SomeExpression SomePlace SomePointer SomeTerm) → seen_choice y ≡ x → ClaimChoice (roll-Choice x)
  choice_induct x y e = subst (λ k. ClaimChoice (roll-Choice k)) e (subst QuietChoice
      (sym (fold-roll-Choice Passed Formed Called Choice Meant Placed Pointed Operand (argument_step s) (form_step s) (call_step s) (choice_step s) (expression_step s)
      (place_step s) (pointer_step s) (term_step s) (seen_choice y))) (choice_case y))

  expression_induct : (x : Expression-F ArgumentTree FormTree CallTree ChoiceTree ExpressionTree PlaceTree PointerTree TermTree)
      (y : Expression-F SomeArgument SomeForm SomeCall SomeChoice SomeExpression SomePlace SomePointer SomeTerm) → seen_expression y ≡ x → ClaimExpression (roll-Expression x)
  expression_induct x y e = subst (λ k. ClaimExpression (roll-Expression k)) e (subst QuietMeant
      (sym (fold-roll-Expression Passed Formed Called Choice Meant Placed Pointed Operand (argument_step s) (form_step s) (call_step s) (choice_step s) (expression_step s)
      (place_step s) (pointer_step s) (term_step s) (seen_expression y))) (expression_case y))

  place_induct : (x : Place-F ArgumentTree FormTree CallTree ChoiceTree ExpressionTree PlaceTree PointerTree TermTree)
      (y : Place-F SomeArgument SomeForm SomeCall SomeChoice SomeExpression SomePlace SomePointer SomeTerm) → seen_place y ≡ x → ClaimPlace (roll-Place x)
  place_induct x y e = subst (λ k. ClaimPlace (roll-Place k)) e
      (subst QuietPlace
      (sym (fold-roll-Place Passed Formed Called Choice Meant Placed Pointed Operand (argument_step s) (form_step s) (call_step s) (choice_step s) (expression_step s) (place_step s)
      (pointer_step s) (term_step s) (seen_place y))) (place_case y))

  pointer_induct : (x : Pointer-F ArgumentTree FormTree CallTree ChoiceTree ExpressionTree PlaceTree PointerTree TermTree)
      (y : Pointer-F SomeArgument SomeForm SomeCall SomeChoice SomeExpression SomePlace SomePointer SomeTerm) → seen_pointer y ≡ x → ClaimPointer (roll-Pointer x)
  pointer_induct x y e = subst (λ k. ClaimPointer (roll-Pointer k)) e (subst QuietPointed
      (sym (fold-roll-Pointer Passed Formed Called Choice Meant Placed Pointed Operand (argument_step s) (form_step s) (call_step s) (choice_step s) (expression_step s)
      (place_step s) (pointer_step s) (term_step s) (seen_pointer y))) (pointer_case y))

  term_induct : (x : Term-F ArgumentTree FormTree CallTree ChoiceTree ExpressionTree PlaceTree PointerTree TermTree)
      (y : Term-F SomeArgument SomeForm SomeCall SomeChoice SomeExpression SomePlace SomePointer SomeTerm) → seen_term y ≡ x → ClaimTerm (roll-Term x)
  term_induct x y e = subst (λ k. ClaimTerm (roll-Term k)) e
      (subst QuietOperand
      (sym (fold-roll-Term Passed Formed Called Choice Meant Placed Pointed Operand (argument_step s) (form_step s) (call_step s) (choice_step s) (expression_step s) (place_step s)
      (pointer_step s) (term_step s) (seen_term y))) (term_case y))

  pub quiet_argument : (x : ArgumentTree) → QuietPassed (argument s x)
  quiet_argument = ind-Argument ClaimArgument ClaimForm ClaimCall ClaimChoice ClaimExpression ClaimPlace ClaimPointer ClaimTerm argument_induct form_induct call_induct
      choice_induct expression_induct place_induct pointer_induct term_induct

  pub quiet_expression : (x : ExpressionTree) → QuietMeant (meant s x)
  quiet_expression = ind-Expression ClaimArgument ClaimForm ClaimCall ClaimChoice ClaimExpression ClaimPlace ClaimPointer ClaimTerm argument_induct form_induct call_induct
      choice_induct expression_induct place_induct pointer_induct term_induct

  pub quiet_place : (x : PlaceTree) → QuietPlace (placed s x)
  quiet_place = ind-Place ClaimArgument ClaimForm ClaimCall ClaimChoice ClaimExpression ClaimPlace ClaimPointer ClaimTerm argument_induct form_induct call_induct choice_induct
      expression_induct place_induct pointer_induct term_induct

  pub quiet_value : (x : ExpressionTree) (at : ℕ) (cuts : Cuts) → IsQuiet (value s x at cuts)
  quiet_value x at cuts = (quiet_expression x).value at cuts

  pub quiet_looked : (x : ExpressionTree) → IsQuiet (e.looked s x)
  quiet_looked x = quiet_look (meant s x) (quiet_expression x)

  pub quiet_number : (d : Dimensions) (x : PlaceTree) (at : ℕ) (cuts : Cuts) → IsQuiet (e.place_number s d x at cuts)
  quiet_number d x at cuts = quiet_element d (placed s x).indices at cuts (quiet_place x)
