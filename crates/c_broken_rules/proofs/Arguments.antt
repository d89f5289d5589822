-- What the walk over an argument finds, by its parts.
use Rattle.std.proofs.Common.{◌≡◌, refl, sym, subst, ap, ◌∙◌, ℕ, suc, Bool, true, false, List, [], ◌∷◌, ◌++◌, map, length, Option, Some, None, arith}
use Rattle.std.proofs.lemmas.Bool.{false≢true, eqb-true}
use Rattle.std.specs.Prelude.{not, nat_eq, is_none, if◌then◌else◌, option_map}
use Rattle.std.proofs.lemmas.Option.{same_Some, none-some}
use Rattle.c_tree.specs.declared.expression.Name.{Name}
use Rattle.c_tree.specs.declared.expression.Form.{out-Form}
use Rattle.c_tree.specs.declared.expression.Expression.{Expression as ExpressionTree, out-Expression}
use Rattle.c_tree.specs.declared.expression.Place.{Place as PlaceTree, out-Place}
use Rattle.c_tree.specs.declared.expression.Pointer.{Pointer as PointerTree, out-Pointer}
use Rattle.c_tree.specs.declared.expression.Argument.{Argument as ArgumentTree, out-Argument}
use Rattle.c_tree.specs.declared.expression.Argument.TheOpen.{Argument-F, Form-F}
use Rattle.c_program.specs.Tree.{Expression}
use Rattle.c_rules.specs.declared.fault.Rule.TheVariants as rule
use Rattle.c_rules.specs.declared.names.ObjectKind.{ObjectKind}
use Rattle.c_rules.specs.declared.names.ObjectKind.TheVariants.{Thread}
use Rattle.c_rules.specs.declared.names.Header.{Header}
use Rattle.c_rules.specs.declared.names.Scope.{Scope}
use Rattle.c_rules.specs.Names.{look_up}
use Rattle.c_rules.specs.Walks.{Finds, ◌>>=◌, ◌>>◌, pure, finds, finds_if}
use Rattle.c_expressions.specs.Cuts.{Cuts, Cut, cut}
use Rattle.c_expressions.specs.Expressions as e
use Rattle.c_calls.specs.Arguments as a
use Rattle.c_broken_rules.specs.Sight.{Where}
use Rattle.c_broken_rules.specs.Parts as p
use Rattle.c_broken_rules.specs.Parts.{Part, Parts, all_of, of_any}
use Rattle.c_broken_rules.proofs.Ledgers.{Ledger, Good, nothing_new, good_pure, good_then, good_before, good_with}
use Rattle.c_broken_rules.proofs.Events.{Events}
use Rattle.c_broken_rules.proofs.Unrolled.{argument_is, expression_is, pointer_is, place_name, place_indices, argument_of, form_of}
use Rattle.c_broken_rules.proofs.Values.{good_argument, good_value, good_number}

module _ (L : Ledger) (s : Scope) (w : Where) (events : Events L s w) where
  -- what stands for a value or an object, at any place and behind any cuts
  abbrev GoodAt : {A : Type 0} → (ℕ → Cuts → Finds (Cut A)) → Parts → Type 0
  GoodAt walk ps = (at : ℕ) (cuts : Cuts) → Good L (walk at cuts) ps

  looked_argument : (x : ArgumentTree) → Good L (e.looked_argument s x) (p.argument_parts w x)
  looked_argument x = (good_argument L s w events x).looked

  pub refused : (x : ArgumentTree) → Good L (a.refused s x) (p.argument_parts w x)
  unfolding a.refused
  refused x =
      good_then L (finds rule.Kind (e.argument_offset x)) (λ _. e.looked_argument s x) [] (p.argument_parts w x) (events.other rule.Kind (e.argument_offset x) tt)
      (λ _. looked_argument x)

  refused_value : (x : ArgumentTree) (cuts : Cuts) → Good L (a.refused_value s x cuts) (p.argument_parts w x)
  unfolding a.refused_value
  refused_value x cuts = good_before L (a.refused s x) (λ _. pure (cut cuts a.null)) (p.argument_parts w x) (refused x) (λ _. good_pure L (cut cuts a.null))

  refused_object : (x : ArgumentTree) (cuts : Cuts) → Good L (a.refused_object s x cuts) (p.argument_parts w x)
  unfolding a.refused_object
  refused_object x cuts = good_before L (a.refused s x) (λ _. pure (cut cuts a.no_object)) (p.argument_parts w x) (refused x) (λ _. good_pure L (cut cuts a.no_object))

  kind_if : (b : Bool) (at : ℕ) → Good L (finds_if b rule.Kind at) []
  kind_if true at = record { writes = (events.other rule.Kind at tt).writes }
  kind_if false at = record { writes = λ found. nothing_new L found }

  refused_routine : (is_other : Bool) (x : ArgumentTree) → Good L (a.refused_routine s is_other x) (p.argument_parts w x)
  unfolding a.refused_routine
  refused_routine is_other x =
      good_then L (finds_if is_other rule.Kind (e.argument_offset x)) (λ _. e.looked_argument s x >> pure None) [] (p.argument_parts w x) (kind_if is_other (e.argument_offset x))
      (λ _. good_before L (e.looked_argument s x) (λ _. pure None) (p.argument_parts w x) (looked_argument x) (λ _. good_pure L None))

  -- ---- values and pointers

  value_by : (x : ArgumentTree) (l : a.ArgumentLayer) → p.argument_parts w x ≡ argument_of w l → GoodAt (a.value_in s x l) (p.argument_parts w x)
  value_by x (Argument-F.Value v) is at cuts = subst (λ ps. Good L (e.value s v at cuts) ps) (sym is) (good_value L s w events v at cuts)
  value_by x (Argument-F.Text bytes offset) is at cuts = refused_value x cuts
  value_by x (Argument-F.Address q offset) is at cuts = refused_value x cuts
  value_by x (Argument-F.Pointer q) is at cuts = refused_value x cuts

  pub value_argument : (x : ArgumentTree) → GoodAt (a.value_argument s x) (p.argument_parts w x)
  unfolding a.value_argument
  value_argument x at cuts = value_by x (out-Argument x) (argument_is w x) at cuts

  operand_value : (o : Option ExpressionTree) → GoodAt (a.operand_value s o) (of_any (p.expression_parts w) o)
  operand_value None at cuts = good_pure L (cut cuts a.null)
  operand_value (Some v) at cuts = good_value L s w events v at cuts

  pub pointer_value : (q : PointerTree) → GoodAt (a.pointer_value s q) (p.pointer_parts w q)
  unfolding a.pointer_value
  pointer_value q at cuts =
      subst (λ ps. Good L (a.operand_value s (out-Pointer q).operand at cuts) ps) (sym (pointer_is w q)) (operand_value (out-Pointer q).operand at cuts)

  pointer_by : (x : ArgumentTree) (l : a.ArgumentLayer) → p.argument_parts w x ≡ argument_of w l → GoodAt (a.pointer_in s x l) (p.argument_parts w x)
  pointer_by x (Argument-F.Pointer q) is at cuts = subst (λ ps. Good L (a.pointer_value s q at cuts) ps) (sym is) (pointer_value q at cuts)
  pointer_by x (Argument-F.Value v) is at cuts = refused_value x cuts
  pointer_by x (Argument-F.Text bytes offset) is at cuts = refused_value x cuts
  pointer_by x (Argument-F.Address q offset) is at cuts = refused_value x cuts

  pub pointer_argument : (x : ArgumentTree) → GoodAt (a.pointer_argument s x) (p.argument_parts w x)
  unfolding a.pointer_argument
  pointer_argument x at cuts = pointer_by x (out-Argument x) (argument_is w x) at cuts

  operand_null : (o : Option ExpressionTree) → is_none o ≡ true → of_any (p.expression_parts w) o ≡ []
  operand_null None is = refl
  operand_null (Some v) is = absurd (cc)

  null_parts : (l : a.ArgumentLayer) → a.is_null_in l ≡ true → argument_of w l ≡ []
  null_parts (Argument-F.Pointer q) is = pointer_is w q ∙ operand_null (out-Pointer q).operand is
  null_parts (Argument-F.Value v) is = absurd (false≢true is)
  null_parts (Argument-F.Text bytes at) is = absurd (false≢true is)
  null_parts (Argument-F.Address q at) is = absurd (false≢true is)

  null_by : (x : ArgumentTree) (b : Bool) → a.is_null x ≡ b → Good L (if b then pure tt else a.refused s x) (p.argument_parts w x)
  null_by x true is = subst (λ ps. Good L (pure tt) ps) (sym (argument_is w x ∙ null_parts (out-Argument x) is)) (good_pure L tt)
  null_by x false is = refused x

  pub null_argument : (x : ArgumentTree) → Good L (a.null_argument s x) (p.argument_parts w x)
  unfolding a.null_argument
  null_argument x = null_by x (a.is_null x) refl

  -- ---- objects

  object_place : (kind : ObjectKind) (q : PlaceTree) (offset : ℕ) → GoodAt (a.object_place s kind q offset) (p.place_parts w q)
  unfolding a.object_place
  object_place kind q offset at cuts =
      let name = (out-Place q).name in
      let count = length (out-Place q).indices in
      let d = a.object_dimensions (a.object_of kind (look_up s name.bytes)) in
      let object = λ (i : Cut (Option Expression)). a.object_named kind (look_up s name.bytes) name.offset offset count i.rest in
      good_then L (e.place_number s d q at cuts) (λ i. object i >>= (λ o. pure (cut i.cuts o))) (all_of (p.indexed w q).indices) (Part.Use w name ∷ [])
      (good_number L s w events d q at cuts)
      (λ i. good_before L (object i) (λ o. pure (cut i.cuts o)) (Part.Use w name ∷ []) (events.object kind name offset count i.rest) (λ o. good_pure L (cut i.cuts o)))

  address_by : (kind : ObjectKind) (x : ArgumentTree) (l : a.ArgumentLayer) → GoodAt (a.address_in s kind x l) (p.object_layer w x l)
  address_by kind x (Argument-F.Address q offset) at cuts = object_place kind q offset at cuts
  address_by kind x (Argument-F.Text bytes offset) at cuts = refused_object x cuts
  address_by kind x (Argument-F.Value v) at cuts = refused_object x cuts
  address_by kind x (Argument-F.Pointer q) at cuts = refused_object x cuts

  pub address_argument : (kind : ObjectKind) (x : ArgumentTree) → GoodAt (a.address_argument s kind x) (p.object_parts w x)
  unfolding a.address_argument
  address_argument kind x at cuts = address_by kind x (out-Argument x) at cuts

  -- the place that an argument is, with and without its own
  form_place : (at : ℕ) (f : a.FormLayer) → option_map (λ (r : PlaceTree × ℕ). r.0) (a.place_in_form at f) ≡ p.place_in_form w f
  form_place at (Form-F.Place q) = refl
  form_place at (Form-F.Constant v k) = refl
  form_place at (Form-F.Call c) = refl
  form_place at (Form-F.Unary o v) = refl
  form_place at (Form-F.Cast words v) = refl
  form_place at (Form-F.Binary v terms) = refl
  form_place at (Form-F.Conditional v choices) = refl

  layer_place : (l : a.ArgumentLayer) → option_map (λ (r : PlaceTree × ℕ). r.0) (a.place_in_layer l) ≡ p.place_in_layer w l
  layer_place (Argument-F.Value v) = form_place (out-Expression v).offset (out-Form (out-Expression v).form)
  layer_place (Argument-F.Text bytes at) = refl
  layer_place (Argument-F.Address q at) = refl
  layer_place (Argument-F.Pointer q) = refl

  pub argument_place : (x : ArgumentTree) → option_map (λ (r : PlaceTree × ℕ). r.0) (a.place_in_argument x) ≡ p.place_in w x
  argument_place x = layer_place (out-Argument x)

  thread_by : (x : ArgumentTree) (o : Option (PlaceTree × ℕ)) → GoodAt (a.thread_from s x o) (p.thread_by w x (option_map (λ (r : PlaceTree × ℕ). r.0) o))
  thread_by x (Some r) at cuts = object_place Thread r.0 r.1 at cuts
  thread_by x None at cuts = refused_object x cuts

  pub thread_argument : (x : ArgumentTree) → GoodAt (a.thread_argument s x) (p.thread_parts w x)
  unfolding a.thread_argument
  thread_argument x at cuts =
      subst (λ o. Good L (a.thread_from s x (a.place_in_argument x) at cuts) (p.thread_by w x o)) (argument_place x) (thread_by x (a.place_in_argument x) at cuts)

  -- ---- start routines

  named_routine : (x : ArgumentTree) (name : Name) (at : ℕ) (is_other : Bool) (h : Option Header) → a.header_of s (look_up s name.bytes) ≡ h →
      p.argument_parts w x ≡ Part.Use w name ∷ Part.Read w name ∷ [] →
      Good L (a.routine_from s x h is_other name.offset at) (Part.Routine w name ∷ p.argument_parts w x)
  named_routine x name at is_other (Some h) is parts = subst (λ ps. Good L (a.routine h name.offset at) (Part.Routine w name ∷ ps)) (sym parts) (events.routine name h at is)
  named_routine x name at is_other None is parts = good_with L (Part.Routine w name) (p.argument_parts w x) (events.no_routine name is) (refused_routine is_other x)

  routine_place : (x : ArgumentTree) (q : PlaceTree) (at : ℕ) (is_other b : Bool) → a.is_alone q ≡ b →
      (b ≡ true → p.argument_parts w x ≡ Part.Use w (out-Place q).name ∷ Part.Read w (out-Place q).name ∷ []) →
      Good L (a.routine_from s x (if b then a.header_of s (look_up s (out-Place q).name.bytes) else None) is_other (out-Place q).name.offset at)
      (p.routine_by w (if b then Some (out-Place q).name else None) ++ p.argument_parts w x)
  routine_place x q at is_other true is parts = named_routine x (out-Place q).name at is_other (a.header_of s (look_up s (out-Place q).name.bytes)) refl (parts refl)
  routine_place x q at is_other false is parts = refused_routine is_other x

  -- the parts of a name alone
  two_parts : (n m : Name) (list : List Parts) → n ≡ m → list ≡ [] → (p.place_by w n list).parts ≡ Part.Use w m ∷ Part.Read w m ∷ []
  two_parts n m list e f = ap (λ j. (p.place_by w n j).parts) f ∙ ap (λ k. Part.Use w k ∷ Part.Read w k ∷ []) e

  abbrev place_alone : PlaceTree → Parts
  place_alone q = (p.place_by w (p.indexed w q).name (p.indexed w q).indices).parts

  not_none : (n : ℕ) → suc n ≡ 0 → ⊥
  not_none n h = omega arith

  no_index : (list : List ExpressionTree) → nat_eq (length list) 0 ≡ true → map (p.expression_parts w) list ≡ []
  no_index [] is = refl
  no_index (v ∷ list) is = absurd (not_none (length list) (eqb-true (suc (length list)) 0 is))

  name_parts : (q : PlaceTree) → a.is_alone q ≡ true → place_alone q ≡ Part.Use w (out-Place q).name ∷ Part.Read w (out-Place q).name ∷ []
  name_parts q is =
      two_parts (p.indexed w q).name (out-Place q).name (p.indexed w q).indices (place_name w q) (place_indices w q ∙ no_index (out-Place q).indices is)

  alone_form : (at : ℕ) (f : a.FormLayer) (r : PlaceTree × ℕ) → a.place_in_form at f ≡ Some r → (form_of w f).parts ≡ place_alone r.0
  alone_form at (Form-F.Place q) r is = ap (λ (z : PlaceTree × ℕ). place_alone z.0) (same_Some (q, at) r is)
  alone_form at (Form-F.Constant v k) r is = absurd (none-some r is)
  alone_form at (Form-F.Call c) r is = absurd (none-some r is)
  alone_form at (Form-F.Unary o v) r is = absurd (none-some r is)
  alone_form at (Form-F.Cast words v) r is = absurd (none-some r is)
  alone_form at (Form-F.Binary v terms) r is = absurd (none-some r is)
  alone_form at (Form-F.Conditional v choices) r is = absurd (none-some r is)

  alone_layer : (l : a.ArgumentLayer) (r : PlaceTree × ℕ) → a.place_in_layer l ≡ Some r → argument_of w l ≡ place_alone r.0
  alone_layer (Argument-F.Value v) r is =
      ap (λ (q : p.Parted). q.parts) (expression_is w v) ∙ alone_form (out-Expression v).offset (out-Form (out-Expression v).form) r is
  alone_layer (Argument-F.Text bytes at) r is = absurd (none-some r is)
  alone_layer (Argument-F.Address q at) r is = absurd (none-some r is)
  alone_layer (Argument-F.Pointer q) r is = absurd (none-some r is)

  routine_by : (x : ArgumentTree) (o : Option (PlaceTree × ℕ)) → a.place_in_argument x ≡ o →
      Good L (a.routine_at s x o) (p.routine_by w (p.name_by w (option_map (λ (r : PlaceTree × ℕ). r.0) o)) ++ p.argument_parts w x)
  routine_by x (Some r) is =
      routine_place x r.0 r.1 (not (a.is_unnamed s r.0)) (a.is_alone r.0) refl
      (λ none. argument_is w x ∙ alone_layer (out-Argument x) r is ∙ name_parts r.0 none)
  routine_by x None is = refused_routine true x

  pub routine_argument : (x : ArgumentTree) → Good L (a.routine_argument s x) (p.routine_by w (p.name_alone w x) ++ p.argument_parts w x)
  unfolding a.routine_argument
  routine_argument x =
      subst (λ o. Good L (a.routine_at s x (a.place_in_argument x)) (p.routine_by w (p.name_by w o) ++ p.argument_parts w x)) (argument_place x)
      (routine_by x (a.place_in_argument x) refl)
