-- What arguments give by the form that a call has at their place.
use Rattle.std.proofs.Common.{◌≡◌, refl, ap, subst, ◌∙◌, ℕ, ◌<◌, Bool, true, false, List, [], ◌∷◌, map, length, Option, Some, None, arith}
use Rattle.std.specs.Prelude.{not, is_none, if◌then◌else◌, option_map, ⊤}
use Rattle.std.specs.List.{AllByRecursion}
use Rattle.c_tree.specs.declared.expression.Argument.{Argument, out-Argument}
use Rattle.c_tree.specs.declared.expression.Argument.TheOpen.{Argument-F}
use Rattle.c_tree.specs.declared.expression.Expression.{Expression as ExpressionTree}
use Rattle.c_tree.specs.declared.expression.Place.{Place as PlaceTree, out-Place}
use Rattle.c_tree.specs.declared.expression.Pointer.{Pointer as PointerTree, out-Pointer}
use Rattle.c_program.specs.Tree.{Expression, ObjectPlace, Function, Program}
use Rattle.c_program.specs.Weight.{place_weight, object_place_weight}
use Rattle.c_program.specs.Resolved.{IsPlace}
use Rattle.c_rules.specs.declared.fault.Rule.TheVariants as rule
use Rattle.c_rules.specs.declared.findings.Findings.{Findings}
use Rattle.c_tree.specs.declared.expression.Argument.TheFolds.{fold_out-Place}
use Rattle.c_rules.specs.declared.dimensions.Dimensions.{Dimensions}
use Rattle.c_rules.specs.declared.names.Object.{Object}
use Rattle.c_rules.specs.declared.names.ObjectKind.{ObjectKind}
use Rattle.c_rules.specs.declared.names.ObjectKind.TheVariants.{Thread}
use Rattle.c_rules.specs.declared.names.Header.{Header}
use Rattle.c_rules.specs.declared.names.Scope.{Scope}
use Rattle.c_program.specs.declared.tree.ReturnType.TheVariants.{Pointer}
use Rattle.c_rules.specs.declared.specifiers.BaseType.{BaseType}
use Rattle.c_rules.specs.declared.specifiers.BaseType.TheVariants as base
use Rattle.c_rules.specs.declared.names.Meaning.TheVariants as meaning
use Rattle.c_rules.specs.declared.names.Known.{Known}
use Rattle.c_rules.specs.declared.names.Known.TheVariants as known
use Rattle.c_rules.specs.Names.{look_up, is_start_routine, is_void_pointer, is_void_base, is_pointer_alone}
use Rattle.c_resolution.specs.Functions.{return_by, return_type}
use Rattle.std.proofs.lemmas.Bool.{and_parts, not-false}
use Rattle.c_rules.specs.Walks.{pure, finds, finds_if, finds_any, ◌>>=◌, ◌>>◌}
use Rattle.c_expressions.specs.Cuts.{Cuts, Cut, cut}
use Rattle.c_expressions.specs.Expressions as e
use Rattle.c_expressions.specs.Expressions.{placed, argument, all_passed, place_number, argument_offset, looked_argument, dimensions_of, variable_of}
use Rattle.c_calls.specs.Arguments as a
use Rattle.c_expressions.specs.Targets as t
use Rattle.c_resolved_program.specs.Leaves.{AreValid, expression_leaves, place_leaves, pointer_leaves, argument_leaves}
use Rattle.c_resolved_program.specs.Orders.{IsHeader, IsOrderly, IsPointerAt}
use Rattle.c_resolved_program.proofs.Walks.{Shows, shows_pure, shows_then, shows_as, shows_broken, shows_if, shows_any, IfAny}
use Rattle.c_resolved_program.proofs.Elements.{element_is}
use Rattle.c_resolved_program.proofs.Cuts as c
use Rattle.c_resolved_program.proofs.Layers as l
use Rattle.c_resolved_program.proofs.Known.{Is, number_room, dimensions_are, look_up_is}
use Rattle.c_resolved_program.proofs.Objects.{IsObjectAt, IsSingle, IsNoneBy, object_named_shows, place_is, place_room}
use Rattle.c_resolved_program.proofs.Parts.{ValidLayer, argument_valid, place_in_argument_valid, pointer_valid}
use Rattle.c_resolved_program.proofs.Trees.{value_shows, indices_show, argument_shows}

returns_by : (routine : Bool) (base : BaseType) (pointer : Bool) → routine ≡ true → is_void_base base ≡ true → return_by routine base pointer ≡ Pointer
returns_by true base.Void pointer is void = refl
returns_by true (base.Integer ty) pointer is void = cc
returns_by true base.Thread pointer is void = cc
returns_by true base.Mutex pointer is void = cc
returns_by true base.Barrier pointer is void = cc
returns_by true base.Unlisted pointer is void = cc
returns_by false base pointer is void = cc

-- a start routine returns a pointer
pub routine_returns : (h : Header) → is_start_routine h ≡ true → return_type h ≡ Pointer
routine_returns h starts =
    let pointer = (and_parts (is_void_pointer h.returns) (is_pointer_alone h.parameters) starts).0 in
    returns_by (is_start_routine h) h.returns.base h.returns.is_pointer starts
    (and_parts (is_void_base h.returns.base) h.returns.is_pointer pointer).0

module _ (whole : Findings) (P : Program) (number : ℕ) (f : Function) (small : f.declared_locals < 0xffff_ffff) (s : Scope) where
  abbrev pub Now : Type 0
  Now = IsOrderly P number f s

  abbrev Behind : ℕ → ℕ → Cuts → Type 0
  Behind n p cuts = l.Behind whole P number f small s n p cuts

  -- an integer behind cuts
  abbrev pub Valued : ℕ → ℕ → Cuts → Cut Expression → Type 0
  Valued n p cuts x = l.Valued whole P number f small s n p cuts x

  -- an object of the kind behind cuts
  abbrev pub Placed : ObjectKind → ℕ → ℕ → Cuts → Cut ObjectPlace → Type 0
  Placed kind n p cuts x = c.Follows whole P number f object_place_weight (IsObjectAt P f kind) n p cuts x

  pub null_is : Is P f a.null
  null_is = refl

  -- an argument of another form
  refused_shows : (x : Argument) → AreValid (argument_leaves x) → Shows whole Now (λ _. ⊥) (a.refused s x)
  unfolding a.refused
  refused_shows x valid =
      shows_then (finds rule.Kind (argument_offset x)) (λ _. looked_argument s x) (shows_broken {Is = λ _. ⊥} rule.Kind (argument_offset x))
      (λ _. shows_as (looked_argument s x) (λ b. b.0) (λ _ b _. b.1) (argument_shows whole P number f small s x valid).looked)

  refused_then : {A : Type 0} {Seen : A → Type 0} (n p : ℕ) (cuts : Cuts) (x : Argument) (w : A) → AreValid (argument_leaves x) → Shows whole (Behind n p cuts) Seen (a.refused s x >> pure w)
  refused_then n p cuts x w valid =
      shows_then (a.refused s x) (λ _. pure w) (shows_as (a.refused s x) (λ b. b.0) (λ _ _ is. is) (refused_shows x valid)) (λ _. shows_pure w (λ b. absurd b.1))

  -- ---- integers

  value_in_shows : (x : Argument) (y : a.ArgumentLayer) → AreValid (argument_leaves x) → ValidLayer y → (n p at : ℕ) (cuts : Cuts) →
      Shows whole (Behind n p cuts) (Valued n p cuts) (a.value_in s x y at cuts)
  unfolding a.refused_value
  value_in_shows x (Argument-F.Value e) valid parts n p at cuts = value_shows whole P number f small s e parts n p at cuts
  value_in_shows x (Argument-F.Text bytes offset) valid parts n p at cuts = refused_then n p cuts x (cut cuts a.null) valid
  value_in_shows x (Argument-F.Address q offset) valid parts n p at cuts = refused_then n p cuts x (cut cuts a.null) valid
  value_in_shows x (Argument-F.Pointer q) valid parts n p at cuts = refused_then n p cuts x (cut cuts a.null) valid

  pub value_argument_shows : (x : Argument) → AreValid (argument_leaves x) → (n p at : ℕ) (cuts : Cuts) → Shows whole (Behind n p cuts) (Valued n p cuts) (a.value_argument s x at cuts)
  unfolding a.value_argument
  value_argument_shows x valid n p at cuts = value_in_shows x (out-Argument x) valid (argument_valid x valid) n p at cuts

  each_value_shows : (list : List Argument) → AllByRecursion (λ x. AreValid (argument_leaves x)) list →
      AllByRecursion (l.IsPassed whole P number f small s) (map (argument s) list)
  each_value_shows [] all = tt
  each_value_shows (x ∷ list) all = (argument_shows whole P number f small s x all.0, each_value_shows list all.1)

  values_count : (list : List Argument) → length (map (argument s) list) ≡ length list
  values_count [] = refl
  values_count (x ∷ list) = let e = values_count list in omega (arith, e)

  pub value_arguments_show : (list : List Argument) → AllByRecursion (λ x. AreValid (argument_leaves x)) list → (n p at : ℕ) (cuts : Cuts) →
      Shows whole (Behind n p cuts) (l.Passing whole P number f small s (length list) n p cuts) (all_passed s list at cuts)
  value_arguments_show list all n p at cuts =
      shows_as (all_passed s list at cuts) (λ b. b) (λ _ _ is. (is.0, is.1 ∙ values_count list))
      (l.all_values_show whole P number f small s (map (argument s) list) (each_value_shows list all) n p at cuts)

  -- ---- NULL and pointers

  pub null_argument_shows : (x : Argument) → AreValid (argument_leaves x) → Shows whole Now (λ _. ⊤) (a.null_argument s x)
  unfolding a.null_argument
  null_argument_shows x valid = by (a.is_null x)
    where
      by : (b : Bool) → Shows whole Now (λ _. ⊤) (if b then pure tt else a.refused s x)
      by true = shows_pure tt (λ _. tt)
      by false = shows_as (a.refused s x) (λ b. b) (λ _ _ _. tt) (refused_shows x valid)

  operand_value_shows : (o : Option ExpressionTree) → IfAny (λ e. AreValid (expression_leaves e)) o → (n p at : ℕ) (cuts : Cuts) →
      Shows whole (Behind n p cuts) (Valued n p cuts) (a.operand_value s o at cuts)
  operand_value_shows None valid n p at cuts = shows_pure (cut cuts a.null) (λ b. c.follows_none whole P number f c.value_room (Is P f) n p cuts a.null null_is b.1)
  operand_value_shows (Some e) valid n p at cuts = value_shows whole P number f small s e valid n p at cuts

  pub pointer_value_shows : (q : PointerTree) → AreValid (pointer_leaves q) → (n p at : ℕ) (cuts : Cuts) → Shows whole (Behind n p cuts) (Valued n p cuts) (a.pointer_value s q at cuts)
  unfolding a.pointer_value
  pointer_value_shows q valid n p at cuts = operand_value_shows (out-Pointer q).operand (pointer_valid q valid) n p at cuts

  pointer_in_shows : (x : Argument) (y : a.ArgumentLayer) → AreValid (argument_leaves x) → ValidLayer y → (n p at : ℕ) (cuts : Cuts) →
      Shows whole (Behind n p cuts) (Valued n p cuts) (a.pointer_in s x y at cuts)
  unfolding a.refused_value
  pointer_in_shows x (Argument-F.Pointer q) valid parts n p at cuts = pointer_value_shows q parts n p at cuts
  pointer_in_shows x (Argument-F.Text bytes offset) valid parts n p at cuts = refused_then n p cuts x (cut cuts a.null) valid
  pointer_in_shows x (Argument-F.Address q offset) valid parts n p at cuts = refused_then n p cuts x (cut cuts a.null) valid
  pointer_in_shows x (Argument-F.Value e) valid parts n p at cuts = refused_then n p cuts x (cut cuts a.null) valid

  pub pointer_argument_shows : (x : Argument) → AreValid (argument_leaves x) → (n p at : ℕ) (cuts : Cuts) →
      Shows whole (Behind n p cuts) (Valued n p cuts) (a.pointer_argument s x at cuts)
  unfolding a.pointer_argument
  pointer_argument_shows x valid n p at cuts = pointer_in_shows x (out-Argument x) valid (argument_valid x valid) n p at cuts

  -- ---- elements

  map_count : {A B : Type 0} (g : A → B) (list : List A) → length (map g list) ≡ length list
  map_count g [] = refl
  map_count g (x ∷ list) = let e = map_count g list in omega (arith, e)

  indices_count : (q : PlaceTree) → length (placed s q).indices ≡ length (out-Place q).indices
  indices_count q =
      ap (λ (x : e.Placed). length x.indices)
      (fold_out-Place e.Passed e.Formed e.Called e.Choice e.Meant e.Placed e.Pointed e.Operand (e.argument_step s) (e.form_step s) (e.call_step s) (e.choice_step s)
      (e.expression_step s) (e.place_step s) (e.pointer_step s) (e.term_step s) q) ∙ map_count (e.meant s) (out-Place q).indices

  place_number_shows : (d : Dimensions) (q : PlaceTree) → AreValid (place_leaves q) → (n p at : ℕ) (cuts : Cuts) →
      Shows whole (Behind n p cuts × l.InnerLengths whole P number f small s d) (l.Numbered whole P number f small s d (length (out-Place q).indices) n p cuts) (place_number s d q at cuts)
  place_number_shows d q valid n p at cuts =
      subst (λ k. Shows whole (Behind n p cuts × l.InnerLengths whole P number f small s d) (l.Numbered whole P number f small s d k n p cuts) (place_number s d q at cuts)) (indices_count q)
      (l.element_shows whole P number f small s d (placed s q).indices (indices_show whole P number f small s q valid) n p at cuts)

  -- ---- objects

  object_lengths : (o : Option Object) → l.InnerLengths whole P number f small s (a.object_dimensions o)
  object_lengths None = tt
  object_lengths (Some o) = by o.length
    where
      by : (size : Option ℕ) → l.InnerLengths whole P number f small s (a.length_dimensions size)
      by None = tt
      by (Some k) = tt

  single_is : (o : Option Object) (i : Option Expression) → l.IsNone whole P number f small s (a.object_dimensions o) i → IsSingle P f o i
  single_is None i none = tt
  single_is (Some o) i none = by o.length i none
    where
      by : (size : Option ℕ) (i : Option Expression) → l.IsNone whole P number f small s (a.length_dimensions size) i → IsNoneBy P f size i
      by None None none = tt
      by None (Some x) none = absurd none
      by (Some k) i none = tt

  object_place_shows : (kind : ObjectKind) (q : PlaceTree) (offset : ℕ) → AreValid (place_leaves q) → (n p at : ℕ) (cuts : Cuts) →
      Shows whole (Behind n p cuts) (Placed kind n p cuts) (a.object_place s kind q offset at cuts)
  unfolding a.object_place
  object_place_shows kind q offset valid n p at cuts =
      let name = (out-Place q).name in
      let k = look_up s name.bytes in
      let o = a.object_of kind k in
      let d = a.object_dimensions o in
      let indices = length (out-Place q).indices in
      let named = λ (x : Cut (Option Expression)). a.object_named kind k name.offset offset indices x.rest in
      shows_then (place_number s d q at cuts) (λ x. named x >>= (λ place. pure (cut x.cuts place)))
      (shows_as (place_number s d q at cuts) (λ b. (b, object_lengths o)) (λ _ _ is. is) (place_number_shows d q valid n p at cuts))
      (λ x. shows_then (named x) (λ place. pure (cut x.cuts place))
      (shows_as (named x) (λ b. look_up_is P number f s name.bytes b.0.0) (λ _ _ is. is) (object_named_shows P f kind k name.offset offset indices x.rest))
      (λ place. shows_pure (cut x.cuts place)
      (λ b. c.follows_as whole P number f (number_room P f) (l.IfCounted whole P number f small s d indices) object_place_weight (IsObjectAt P f kind) n p cuts x place
      (b.1.1 (single_is o x.rest b.0.1.1)) (λ counted. b.1.0 counted) b.0.1.0)))

  address_in_shows : (kind : ObjectKind) (x : Argument) (y : a.ArgumentLayer) → AreValid (argument_leaves x) → ValidLayer y → (n p at : ℕ) (cuts : Cuts) →
      Shows whole (Behind n p cuts) (Placed kind n p cuts) (a.address_in s kind x y at cuts)
  unfolding a.refused_object
  address_in_shows kind x (Argument-F.Address q offset) valid parts n p at cuts = object_place_shows kind q offset parts n p at cuts
  address_in_shows kind x (Argument-F.Text bytes offset) valid parts n p at cuts = refused_then n p cuts x (cut cuts a.no_object) valid
  address_in_shows kind x (Argument-F.Value e) valid parts n p at cuts = refused_then n p cuts x (cut cuts a.no_object) valid
  address_in_shows kind x (Argument-F.Pointer q) valid parts n p at cuts = refused_then n p cuts x (cut cuts a.no_object) valid

  pub address_argument_shows : (kind : ObjectKind) (x : Argument) → AreValid (argument_leaves x) → (n p at : ℕ) (cuts : Cuts) →
      Shows whole (Behind n p cuts) (Placed kind n p cuts) (a.address_argument s kind x at cuts)
  unfolding a.address_argument
  address_argument_shows kind x valid n p at cuts = address_in_shows kind x (out-Argument x) valid (argument_valid x valid) n p at cuts

  thread_from_shows : (x : Argument) (q : Option (PlaceTree × ℕ)) → AreValid (argument_leaves x) → IfAny (λ (p : PlaceTree × ℕ). AreValid (place_leaves p.0)) q →
      (n p at : ℕ) (cuts : Cuts) → Shows whole (Behind n p cuts) (Placed Thread n p cuts) (a.thread_from s x q at cuts)
  unfolding a.refused_object
  thread_from_shows x (Some q) valid parts n p at cuts = object_place_shows Thread q.0 q.1 parts n p at cuts
  thread_from_shows x None valid parts n p at cuts = refused_then n p cuts x (cut cuts a.no_object) valid

  pub thread_argument_shows : (x : Argument) → AreValid (argument_leaves x) → (n p at : ℕ) (cuts : Cuts) →
      Shows whole (Behind n p cuts) (Placed Thread n p cuts) (a.thread_argument s x at cuts)
  unfolding a.thread_argument
  thread_argument_shows x valid n p at cuts = thread_from_shows x (a.place_in_argument x) valid (place_in_argument_valid x valid) n p at cuts

  -- ---- start routines

  header_of_is : (k : Known) → Now → IfAny (IsHeader P) (a.header_of s k)
  header_of_is (known.Declared (meaning.Function header)) now = element_is (IsHeader P) s.headers header now.headers
  header_of_is (known.Declared (meaning.Variable v)) now = tt
  header_of_is (known.Declared meaning.Argument) now = tt
  header_of_is (known.Declared (meaning.Object o)) now = tt
  header_of_is (known.Declared meaning.Unusable) now = tt
  header_of_is (known.Library function) now = tt
  header_of_is known.Unknown now = tt

  header_if : (b : Bool) (h : Option Header) → IfAny (IsHeader P) h → IfAny (IsHeader P) (if b then h else None)
  header_if true h is = is
  header_if false h is = tt

  header_at_is : (p : PlaceTree) → Now → IfAny (IsHeader P) (a.header_at s p)
  header_at_is p now =
      let h = a.header_of s (look_up s (out-Place p).name.bytes) in
      header_if (a.is_alone p) h (header_of_is (look_up s (out-Place p).name.bytes) now)

  routine_with : (at : ℕ) (h : Header) (d : Option ℕ) → h.definition ≡ d → is_start_routine h ≡ true → IsHeader P h →
      IfAny (λ (r : ℕ × ℕ). IsPointerAt P r.0) (option_map (λ number. (number, at)) d)
  routine_with at h None is starts header = tt
  routine_with at h (Some d) is starts header =
      let definition = header.definition d is in
      (definition.code, definition.found, definition.returns ∙ routine_returns h starts)

  routine_shows : {Earlier : Type 0} (h : Header) (name_at at : ℕ) → (Earlier → IsHeader P h) →
      Shows whole Earlier (IfAny (λ (r : ℕ × ℕ). IsPointerAt P r.0)) (a.routine h name_at at)
  unfolding a.routine
  routine_shows h name_at at header =
      shows_then (finds_if (not (is_start_routine h)) rule.Kind at)
      (λ _. finds_if (is_none h.definition) rule.Unknown name_at >> pure (option_map (λ number. (number, name_at)) h.definition))
      (shows_if (not (is_start_routine h)) rule.Kind at)
      (λ _. shows_then (finds_if (is_none h.definition) rule.Unknown name_at) (λ _. pure (option_map (λ number. (number, name_at)) h.definition))
      (shows_if (is_none h.definition) rule.Unknown name_at)
      (λ _. shows_pure (option_map (λ number. (number, name_at)) h.definition)
      (λ b. routine_with name_at h h.definition refl (not-false (is_start_routine h) b.0.1) (header b.0.0))))

  refused_routine_shows : (is_other : Bool) (x : Argument) → AreValid (argument_leaves x) →
      Shows whole Now (IfAny (λ (r : ℕ × ℕ). IsPointerAt P r.0)) (a.refused_routine s is_other x)
  unfolding a.refused_routine
  refused_routine_shows is_other x valid =
      shows_then (finds_if is_other rule.Kind (argument_offset x)) (λ _. looked_argument s x >> pure None) (shows_if is_other rule.Kind (argument_offset x))
      (λ _. shows_then (looked_argument s x) (λ _. pure None) (shows_as (looked_argument s x) (λ b. b.0) (λ _ _ seen. seen) (argument_shows whole P number f small s x valid).looked)
      (λ _. shows_pure None (λ _. tt)))

  routine_from_shows : (x : Argument) (h : Option Header) (is_other : Bool) (name_at at : ℕ) → AreValid (argument_leaves x) → (Now → IfAny (IsHeader P) h) →
      Shows whole Now (IfAny (λ (r : ℕ × ℕ). IsPointerAt P r.0)) (a.routine_from s x h is_other name_at at)
  routine_from_shows x (Some h) is_other name_at at valid header = routine_shows h name_at at header
  routine_from_shows x None is_other name_at at valid header = refused_routine_shows is_other x valid

  routine_at_shows : (x : Argument) (p : Option (PlaceTree × ℕ)) → AreValid (argument_leaves x) →
      Shows whole Now (IfAny (λ (r : ℕ × ℕ). IsPointerAt P r.0)) (a.routine_at s x p)
  routine_at_shows x (Some p) valid =
      routine_from_shows x (a.header_at s p.0) (not (a.is_unnamed s p.0)) (out-Place p.0).name.offset p.1 valid (header_at_is p.0)
  routine_at_shows x None valid = refused_routine_shows true x valid

  pub routine_argument_shows : (x : Argument) → AreValid (argument_leaves x) →
      Shows whole Now (IfAny (λ (r : ℕ × ℕ). IsPointerAt P r.0)) (a.routine_argument s x)
  unfolding a.routine_argument
  routine_argument_shows x valid = routine_at_shows x (a.place_in_argument x) valid

  -- ---- what is assigned to

  pub target_shows : (q : PlaceTree) → AreValid (place_leaves q) → (n p at : ℕ) (cuts : Cuts) →
      Shows whole (Behind n p cuts) (c.Follows whole P number f place_weight (IsPlace P f) n p cuts) (t.target s q at cuts)
  unfolding t.target
  target_shows q valid n p at cuts =
      let name = (out-Place q).name in
      let k = look_up s name.bytes in
      let v = variable_of k in
      let d = dimensions_of v in
      let indices = length (out-Place q).indices in
      let fault = t.target_fault k indices in
      let made = λ (x : Cut (Option Expression)). cut x.cuts (t.named_place v x.rest) in
      let is_known = λ (now : Now). look_up_is P number f s name.bytes now in
      shows_then (place_number s d q at cuts) (λ x. finds_any fault name.offset >> pure (made x))
      (shows_as (place_number s d q at cuts) (λ b. (b, l.inner_lengths whole P number f small s d (dimensions_are P f k (is_known b.0)))) (λ _ _ is. is)
      (place_number_shows d q valid n p at cuts))
      (λ x. shows_then (finds_any fault name.offset) (λ _. pure (made x)) (shows_any fault name.offset)
      (λ _. shows_pure (made x)
      (λ b. c.follows_as whole P number f (number_room P f) (l.IfCounted whole P number f small s d indices) place_weight (IsPlace P f) n p cuts x (t.named_place v x.rest)
      (place_room P f k indices x.rest (is_known b.0.0.0) b.1) (λ so. place_is P f k indices x.rest (is_known b.0.0.0) b.1 so) b.0.1.0)))
