-- What each layer of an expression's tree gives, where its parts do as they should.
use Rattle.std.proofs.Common.{◌≡◌, refl, sym, subst, ℕ, ◌<◌, ◌≤◌, Bool, true, false, List, [], ◌∷◌, ◌++◌, map, length, Option, Some, None, eqb-true, arith, ◌∙◌}
use Rattle.std.specs.Prelude.{◌+◌, ◌&&◌, is_none, nat_eq, if◌then◌else◌, slice_get, pos, ⊤}
use Rattle.std.specs.List.{AllByRecursion}
use Rattle.std.proofs.lemmas.List.Sums.{sum_by_push}
use Rattle.lists.proofs.Places.{in_one, length_more}
use Rattle.hls_ints.specs.Types.{IntegerType, HasType, int_type, unsigned_long}
use Rattle.c_tree.specs.declared.expression.Name.{Name}
use Rattle.c_tree.specs.declared.expression.UnaryOperator.{UnaryOperator}
use Rattle.c_tree.specs.declared.expression.BinaryOperator.{BinaryOperator}
use Rattle.c_tree.specs.declared.expression.BinaryOperator.TheVariants as b
use Rattle.c_tree.specs.declared.expression.Specifiers.{Specifiers}
use Rattle.c_tree.specs.declared.expression.Argument.TheOpen.{Argument-F, Form-F, Choice-F, Expression-F}
use Rattle.c_program.specs.declared.tree.BinaryOperator.{BinaryOperator as ResolvedBinary}
use Rattle.c_program.specs.Tree.{Expression, Statement, Function, Program}
use Rattle.c_program.specs.Calls.{calls_of}
use Rattle.c_program.specs.Weight.{expression_weight, arguments_weight, statement_weight}
use Rattle.c_program.specs.Resolved as r
use Rattle.c_rules.specs.declared.dimensions.Dimensions.{Dimensions}
use Rattle.c_rules.specs.declared.dimensions.Dimensions.TheVariants.{Scalar, One, Two, Three}
use Rattle.c_rules.specs.declared.fault.Rule.TheVariants as rule
use Rattle.c_rules.specs.declared.findings.Findings.{Findings}
use Rattle.c_rules.specs.declared.names.Header.{Header}
use Rattle.c_rules.specs.declared.names.Known.{Known}
use Rattle.c_rules.specs.declared.names.Scope.{Scope}
use Rattle.c_rules.specs.declared.specifiers.BasicType.{BasicType}
use Rattle.c_rules.specs.Dimensions.{count, times}
use Rattle.c_rules.specs.Names.{look_up}
use Rattle.c_rules.specs.Specifiers.{c_type, plain_integer}
use Rattle.c_rules.specs.Walks.{Finds, pure, finds, finds_any, visited, place_in_tree, ◌>>=◌, ◌>>◌}
use Rattle.c_expressions.specs.Callees.{function_name, misplaced, number_of, value_type}
use Rattle.c_expressions.specs.Cuts.{Cuts, Cut, cut, free_from, kept}
use Rattle.c_expressions.specs.Expressions as e
use Rattle.c_resolution.specs.Slots.{slots_end}
use Rattle.c_resolved_program.specs.Leaves.{IsValidConstant, AreOfOneLevel}
use Rattle.c_resolved_program.specs.Orders.{IsHeader, IsOrderly, IsAsked, IsFoundCall, IsLength, AreLengths}
use Rattle.c_resolved_program.proofs.Walks.{Shows, shows_pure, shows_then, shows_as, shows_broken, shows_any, shows_through, shows_visited, IfAny, all_more, both_found}
use Rattle.c_resolved_program.proofs.Known.{Is, IsNumber, argument_is, constant_shows, look_up_is, number_room, named_room, named_value_is, dimensions_are, known_apart}
use Rattle.c_resolved_program.proofs.Callees.{IsCallOf, IsApart, function_name_shows, misplaced_shows}
use Rattle.c_resolved_program.proofs.Called.{is_value_call}
use Rattle.c_resolved_program.proofs.Cuts as c
use Rattle.c_resolved_program.proofs.Elements.{element_is}
use Rattle.c_resolved_program.proofs.Maxima.{first_of_max, second_of_max, max_of_both}

-- a length is a number of 64 bits
length_type : (n : ℕ) → IsLength n → HasType unsigned_long (pos n)
length_type n is = let le = is.1 in grind arith

module _ (whole : Findings) (P : Program) (number : ℕ) (f : Function) (small : f.declared_locals < 0xffff_ffff) (s : Scope) where
  abbrev pub Before : Type 0
  Before = IsOrderly P number f s

  slots_of : Before → c.Slots whole P number f
  slots_of before = before.kept.slots

  -- ---- parts that do as they should

  abbrev pub IsLooked : e.Looked → Type 0
  IsLooked w = Shows whole Before (λ _. ⊤) w

  abbrev pub Behind : ℕ → ℕ → Cuts → Type 0
  Behind n p cuts = Before × c.AreCuts whole P number f n p cuts

  abbrev pub Valued : ℕ → ℕ → Cuts → Cut Expression → Type 0
  Valued n p cuts x = c.IsValue whole P number f n p cuts x

  abbrev pub IsValue : e.Valued → Type 0
  IsValue w = (n p at : ℕ) (cuts : Cuts) → Shows whole (Behind n p cuts) (Valued n p cuts) (w at cuts)

  -- where the locals from n on are free
  abbrev pub From : ℕ → Type 0
  From n = Before × (f.declared_locals ≤ n)

  abbrev pub AsCondition : ℕ → Statement → Type 0
  AsCondition n x = IsAsked whole P number f n x

  pub record IsGood (m : e.Meant) : Type 0 where
    pub value : IsValue m.value
    pub condition : (n : ℕ) → Shows whole (From n) (AsCondition n) (m.condition n)

  pub record IsFormed (m : e.Formed) : Type 0 where
    pub value : IsValue m.value
    pub condition : (at n : ℕ) → Shows whole (From n) (AsCondition n) (m.condition at n)

  abbrev pub IsPlaced : e.Placed → Type 0
  IsPlaced p = AllByRecursion IsGood p.indices

  abbrev pub IsOperand : e.Operand → Type 0
  IsOperand t = IsGood t.operand

  pub record IsChoice (x : e.Choice) : Type 0 where
    pub condition : IsGood x.condition
    pub otherwise : IsGood x.otherwise

  pub record IsPassed (x : e.Passed) : Type 0 where
    pub value : IsValue x.value
    pub looked : IsLooked x.looked

  abbrev pub IsCalled : e.Called → Type 0
  IsCalled x = AllByRecursion IsPassed x.arguments

  abbrev pub IsPointed : e.Pointed → Type 0
  IsPointed x = IsLooked x.looked

  -- ---- values and conditions

  chosen_shows : (value : e.Valued) (offset n : ℕ) → IsValue value → Shows whole (From n) (c.IsChosen whole P number f n) (e.chosen_value value offset n)
  chosen_shows value offset n h =
      let at = place_in_tree offset in
      shows_then (value at (free_from n)) (λ x. pure (e.chosen at x))
      (shows_as (value at (free_from n)) (λ b. (b.0, c.none_yet whole P number f n b.1)) (λ _ _ is. is) (h n 0 at (free_from n)))
      (λ x. shows_pure (e.chosen at x) (λ b. c.chosen_is whole P number f n at x b.1))

  operand_shows : (n : ℕ) (x : e.Meant) → IsGood x → Shows whole (From n) (c.IsChosen whole P number f n) (e.operand_value n x)
  operand_shows n x h = chosen_shows x.value x.offset n h.value

  -- what is looked through has no fault behind it only where it has none before
  pub look_shows : (x : e.Meant) → IsGood x → IsLooked (e.look x)
  look_shows x h =
      let shown = operand_shows 0 x h in
      shows_then {Is = λ _. ⊤} (e.operand_value 0 x) (λ _. pure tt) (record { back = shown.back; forth = λ found part before. tt }) (λ _. shows_pure tt (λ _. tt))

  each_look : (list : List e.Meant) → AllByRecursion IsGood list → AllByRecursion (λ x. IsLooked (e.look x)) list
  each_look [] all = tt
  each_look (x ∷ list) all = (look_shows x all.0, each_look list all.1)

  pub look_at_all_shows : (list : List e.Meant) → AllByRecursion IsGood list → IsLooked (e.look_at_all list)
  look_at_all_shows list all = shows_visited e.look list (each_look list all)

  operand_condition_shows : (value : e.Valued) (offset n : ℕ) → IsValue value → Shows whole (From n) (AsCondition n) (e.operand_condition s value offset n)
  operand_condition_shows value offset n h =
      shows_then (e.chosen_value value offset n) (λ x. pure (e.test x)) (chosen_shows value offset n h)
      (λ x. shows_pure (e.test x) (λ b. c.test_is whole P number f n x b.1))

  a_value_is : (value : e.Valued) → IsValue value → IsFormed (e.a_value s value)
  a_value_is value h = record { value = h; condition = λ at n. operand_condition_shows value at n h }

  -- the same cuts with another expression
  with_rest : (n p : ℕ) (cuts : Cuts) (x : Cut Expression) (y : Expression) → expression_weight x.rest ≤ expression_weight y → (Is P f x.rest → Is P f y) → Valued n p cuts x →
      Valued n p cuts (cut x.cuts y)
  with_rest n p cuts x y le is h =
      c.follows_as whole P number f c.value_room (Is P f) c.value_room (Is P f) n p cuts x y (omega (arith, le)) is h

  -- ---- places

  -- the lengths of the inner dimensions
  abbrev pub InnerLengths : Dimensions → Type 0
  InnerLengths Scalar = ⊤
  InnerLengths (One a) = ⊤
  InnerLengths (Two a k) = IsLength k
  InnerLengths (Three a k m) = IsLength k × IsLength m

  pub inner_lengths : (d : Dimensions) → AreLengths d → InnerLengths d
  inner_lengths Scalar all = tt
  inner_lengths (One a) all = tt
  inner_lengths (Two a k) all = all.1
  inner_lengths (Three a k m) all = (all.1, all.2)

  -- the number of an element, if there are as many indices as dimensions
  abbrev pub IfCounted : Dimensions → ℕ → Option Expression → Type 0
  IfCounted d indices o = nat_eq (count d) indices ≡ true → IsNumber P f d o

  -- a scalar has none
  abbrev pub IsNone : Dimensions → Option Expression → Type 0
  IsNone Scalar (Some number) = ⊥
  IsNone d o = ⊤

  none_is_none : (d : Dimensions) → IsNone d None
  none_is_none Scalar = tt
  none_is_none (One a) = tt
  none_is_none (Two a k) = tt
  none_is_none (Three a k m) = tt

  abbrev pub Numbered : Dimensions → ℕ → ℕ → ℕ → Cuts → Cut (Option Expression) → Type 0
  Numbered d indices n p cuts x = c.Follows whole P number f (number_room P f) (IfCounted d indices) n p cuts x × IsNone d x.rest

  no_number_shows : (d : Dimensions) (list : List e.Meant) (n p : ℕ) (cuts : Cuts) → AllByRecursion IsGood list → IfCounted d (length list) None →
      Shows whole (Behind n p cuts) (Numbered d (length list) n p cuts) (e.no_number list cuts)
  unfolding e.no_number
  no_number_shows d list n p cuts all none =
      shows_then (e.look_at_all list) (λ _. pure (cut cuts None)) (shows_as (e.look_at_all list) (λ b. b.0) (λ _ _ is. is) (look_at_all_shows list all))
      (λ _. shows_pure (cut cuts None) (λ b. (c.follows_none whole P number f (number_room P f) (IfCounted d (length list)) n p cuts None none b.0.1, none_is_none d)))

  row_follows : (n p : ℕ) (cuts : Cuts) (x y : Cut Expression) (a k : ℕ) → HasType unsigned_long (pos k) → Valued n p cuts x → Valued n (p + c.value_room x.rest) x.cuts y →
      Valued n p cuts (cut y.cuts (Expression.Row x.rest a y.rest k))
  row_follows n p cuts x y a k ty h g =
      c.follows_both whole P number f c.value_room (Is P f) c.value_room (Is P f) c.value_room (Is P f) n p cuts x y (Expression.Row x.rest a y.rest k) (omega arith)
      (λ one two. (one, two, ty)) h g

  as_number : (d : Dimensions) (indices n p : ℕ) (cuts : Cuts) (x : Cut Expression) → (Is P f x.rest → IsNumber P f d (Some x.rest)) → IsNone d (Some x.rest) →
      Valued n p cuts x → Numbered d indices n p cuts (cut x.cuts (Some x.rest))
  as_number d indices n p cuts x is none h =
      (c.follows_as whole P number f c.value_room (Is P f) (number_room P f) (IfCounted d indices) n p cuts x (Some x.rest) (omega arith) (λ good _. is good) h, none)

  pub element_shows : (d : Dimensions) (list : List e.Meant) → AllByRecursion IsGood list → (n p at : ℕ) (cuts : Cuts) →
      Shows whole (Behind n p cuts × InnerLengths d) (Numbered d (length list) n p cuts) (e.element_number d list at cuts)
  unfolding e.element_number
  element_shows Scalar list all n p at cuts = shows_as (e.no_number list cuts) (λ b. b.0) (λ _ _ is. is) (no_number_shows Scalar list n p cuts all (λ _. tt))
  element_shows (One a) [] all n p at cuts =
      shows_as (e.no_number [] cuts) (λ b. b.0) (λ _ _ is. is)
      (no_number_shows (One a) [] n p cuts all (λ same. absurd (let e = eqb-true 1 0 same in omega (arith, e))))
  element_shows (One a) (i ∷ []) all n p at cuts =
      shows_then (i.value at cuts) (λ x. pure (cut x.cuts (Some x.rest))) (shows_as (i.value at cuts) (λ b. b.0) (λ _ _ is. is) (all.0.value n p at cuts))
      (λ x. shows_pure (cut x.cuts (Some x.rest)) (λ b. as_number (One a) 1 n p cuts x (λ is. is) tt b.1))
  element_shows (One a) (i ∷ j ∷ more) all n p at cuts =
      shows_as (e.no_number (i ∷ j ∷ more) cuts) (λ b. b.0) (λ _ _ is. is)
      (no_number_shows (One a) (i ∷ j ∷ more) n p cuts all (λ same. absurd (let e = eqb-true 1 (length (i ∷ j ∷ more)) same in omega (arith, e))))
  element_shows (Two a k) [] all n p at cuts =
      shows_as (e.no_number [] cuts) (λ b. b.0) (λ _ _ is. is)
      (no_number_shows (Two a k) [] n p cuts all (λ same. absurd (let e = eqb-true 2 0 same in omega (arith, e))))
  element_shows (Two a k) (i ∷ []) all n p at cuts =
      shows_as (e.no_number (i ∷ []) cuts) (λ b. b.0) (λ _ _ is. is) (no_number_shows (Two a k) (i ∷ []) n p cuts all (λ same. absurd (let e = eqb-true 2 (length (i ∷ [])) same in omega (arith, e))))
  element_shows (Two a k) (i ∷ j ∷ []) all n p at cuts =
      let made = λ (x y : Cut Expression). cut y.cuts (Some (Expression.Row x.rest a y.rest k)) in
      shows_then (i.value at cuts) (λ x. j.value at x.cuts >>= (λ y. pure (made x y)))
      (shows_as (i.value at cuts) (λ b. b.0) (λ _ _ is. is) (all.0.value n p at cuts))
      (λ x. shows_then (j.value at x.cuts) (λ y. pure (made x y))
      (shows_as (j.value at x.cuts) (λ b. (b.0.0.0, b.1.cuts)) (λ _ _ is. is) (all.1.0.value n (p + c.value_room x.rest) at x.cuts))
      (λ y. shows_pure (made x y)
      (λ b. as_number (Two a k) 2 n p cuts (cut y.cuts (Expression.Row x.rest a y.rest k)) (λ is. is) tt
      (row_follows n p cuts x y a k (length_type k b.0.0.1) b.0.1 b.1))))
  element_shows (Two a k) (i ∷ j ∷ l ∷ more) all n p at cuts =
      shows_as (e.no_number (i ∷ j ∷ l ∷ more) cuts) (λ b. b.0) (λ _ _ is. is)
      (no_number_shows (Two a k) (i ∷ j ∷ l ∷ more) n p cuts all (λ same. absurd (let e = eqb-true 2 (length (i ∷ j ∷ l ∷ more)) same in omega (arith, e))))
  element_shows (Three a k m) [] all n p at cuts =
      shows_as (e.no_number [] cuts) (λ b. b.0) (λ _ _ is. is)
      (no_number_shows (Three a k m) [] n p cuts all (λ same. absurd (let e = eqb-true 3 0 same in omega (arith, e))))
  element_shows (Three a k m) (i ∷ []) all n p at cuts =
      shows_as (e.no_number (i ∷ []) cuts) (λ b. b.0) (λ _ _ is. is)
      (no_number_shows (Three a k m) (i ∷ []) n p cuts all (λ same. absurd (let e = eqb-true 3 (length (i ∷ [])) same in omega (arith, e))))
  element_shows (Three a k m) (i ∷ j ∷ []) all n p at cuts =
      shows_as (e.no_number (i ∷ j ∷ []) cuts) (λ b. b.0) (λ _ _ is. is)
      (no_number_shows (Three a k m) (i ∷ j ∷ []) n p cuts all (λ same. absurd (let e = eqb-true 3 (length (i ∷ j ∷ [])) same in omega (arith, e))))
  element_shows (Three a k m) (i ∷ j ∷ l ∷ []) all n p at cuts =
      let row = λ (x y : Cut Expression). cut y.cuts (Expression.Row x.rest a y.rest k) in
      let made = λ (x y z : Cut Expression). cut z.cuts (Some (Expression.Row (Expression.Row x.rest a y.rest k) (times a k) z.rest m)) in
      shows_then (i.value at cuts) (λ x. j.value at x.cuts >>= (λ y. l.value at y.cuts >>= (λ z. pure (made x y z))))
      (shows_as (i.value at cuts) (λ b. b.0) (λ _ _ is. is) (all.0.value n p at cuts))
      (λ x. shows_then (j.value at x.cuts) (λ y. l.value at y.cuts >>= (λ z. pure (made x y z)))
      (shows_as (j.value at x.cuts) (λ b. (b.0.0.0, b.1.cuts)) (λ _ _ is. is) (all.1.0.value n (p + c.value_room x.rest) at x.cuts))
      (λ y. shows_then (l.value at y.cuts) (λ z. pure (made x y z))
      (shows_as (l.value at y.cuts) (λ b. (b.0.0.0.0, (row_follows n p cuts x y a k (length_type k b.0.0.1.0) b.0.1 b.1).cuts)) (λ _ _ is. is)
      (all.1.1.0.value n (p + c.value_room (row x y).rest) at y.cuts))
      (λ z. shows_pure (made x y z)
      (λ b. as_number (Three a k m) 3 n p cuts (cut z.cuts (Expression.Row (row x y).rest (times a k) z.rest m)) (λ is. is) tt
      (row_follows n p cuts (row x y) z (times a k) m (length_type m b.0.0.0.1.1) (row_follows n p cuts x y a k (length_type k b.0.0.0.1.0) b.0.0.1 b.0.1) b.1)))))
  element_shows (Three a k m) (i ∷ j ∷ l ∷ o ∷ more) all n p at cuts =
      shows_as (e.no_number (i ∷ j ∷ l ∷ o ∷ more) cuts) (λ b. b.0) (λ _ _ is. is)
      (no_number_shows (Three a k m) (i ∷ j ∷ l ∷ o ∷ more) n p cuts all (λ same. absurd (let e = eqb-true 3 (length (i ∷ j ∷ l ∷ o ∷ more)) same in omega (arith, e))))

  place_value_shows : (p : e.Placed) → IsPlaced p → IsValue (e.place_value s p)
  unfolding e.place_value
  place_value_shows p h n q at cuts =
      let k = look_up s p.name.bytes in
      let v = e.variable_named s p.name in
      let d = e.dimensions_of v in
      let fault = e.misuse k (length p.indices) in
      let made = λ (x : Cut (Option Expression)). cut x.cuts (e.named_value v x.rest) in
      let is_known = λ (before : Before). look_up_is P number f s p.name.bytes before in
      shows_then (e.element_number d p.indices at cuts) (λ x. finds_any fault p.name.offset >> pure (made x))
      (shows_as (e.element_number d p.indices at cuts) (λ b. (b, inner_lengths d (dimensions_are P f k (is_known b.0)))) (λ _ _ is. is) (element_shows d p.indices h n q at cuts))
      (λ x. shows_then (finds_any fault p.name.offset) (λ _. pure (made x)) (shows_any fault p.name.offset)
      (λ _. shows_pure (made x)
      (λ b. c.follows_as whole P number f (number_room P f) (IfCounted d (length p.indices)) c.value_room (Is P f) n q cuts x (e.named_value v x.rest)
      (named_room P f k (length p.indices) x.rest (is_known b.0.0.0) b.1)
      (λ so. named_value_is P f k (length p.indices) x.rest (is_known b.0.0.0) b.1 so) b.0.1.0)))

  place_form_is : (p : e.Placed) → IsPlaced p → IsFormed (e.place_form s p)
  place_form_is p h = record { value = place_value_shows p h; condition = λ at n. operand_condition_shows (e.place_value s p) at n (place_value_shows p h) }

  -- ---- constants, operators of one operand, and casts

  constant_is : (k : _) (offset : ℕ) → IsValidConstant k → IsValue (λ at cuts. e.constant k offset >>= (λ x. pure (cut cuts x)))
  constant_is k offset h n p at cuts =
      shows_then (e.constant k offset) (λ x. pure (cut cuts x)) (shows_as (e.constant k offset) (λ _. h) (λ _ _ is. is) (constant_shows P f k offset))
      (λ x. shows_pure (cut cuts x) (λ b. c.follows_none whole P number f c.value_room (Is P f) n p cuts x b.1 b.0.1))

  unary_value_shows : (operator : UnaryOperator) (x : e.Meant) → IsGood x → IsValue (e.unary_value s operator x)
  unary_value_shows operator x h n p at cuts =
      shows_then (x.value at cuts) (λ y. pure (cut y.cuts (e.unary operator y.rest))) (h.value n p at cuts)
      (λ y. shows_pure (cut y.cuts (e.unary operator y.rest)) (λ b. with_rest n p cuts y (e.unary operator y.rest) (omega arith) (λ is. (refl, is)) b.1))

  opposite_asked : (n : ℕ) (x : Statement) → AsCondition n x → AsCondition n (Statement.Opposite x)
  opposite_asked n x h = record { is = h.is; few = (let few = h.few in omega (arith, few)); calls = h.calls }

  opposite_shows : (n : ℕ) (w : Finds Statement) → Shows whole (From n) (AsCondition n) w → Shows whole (From n) (AsCondition n) (e.opposite s w)
  opposite_shows n w h = shows_then w (λ x. pure (e.opposite_of x)) h (λ x. shows_pure (e.opposite_of x) (λ b. opposite_asked n x b.1))

  shows_either : {A Earlier : Type 0} {Seen : A → Type 0} (chosen : Bool) (v w : Finds A) → Shows whole Earlier Seen v → Shows whole Earlier Seen w →
      Shows whole Earlier Seen (if chosen then v else w)
  shows_either true v w h k = h
  shows_either false v w h k = k

  unary_form_is : (operator : UnaryOperator) (x : e.Meant) → IsGood x → IsFormed (e.unary_form s operator x)
  unary_form_is operator x h = record {
    value = unary_value_shows operator x h;
    condition = λ at n.
        shows_either (e.is_not operator) (e.opposite s (x.condition n)) (e.operand_condition s (e.unary_value s operator x) at n)
        (opposite_shows n (x.condition n) (h.condition n)) (operand_condition_shows (e.unary_value s operator x) at n (unary_value_shows operator x h));
  }

  argument_named : (name : Option (List ℕ)) → e.is_argument_name s name ≡ true → Before → Is P f e.argument_value
  argument_named None h before = cc
  argument_named (Some name) h before = argument_is P f (look_up s name) (look_up_is P number f s name before) h

  cast_operand_by : (long named : Bool) (x : e.Meant) → IsGood x → (named ≡ true → Before → Is P f e.argument_value) → (n p at : ℕ) (cuts : Cuts) →
      Shows whole (Behind n p cuts) (Valued n p cuts) (if long && named then pure (cut cuts e.argument_value) else x.value at cuts)
  cast_operand_by true true x h is n p at cuts =
      shows_pure (cut cuts e.argument_value) (λ b. c.follows_none whole P number f c.value_room (Is P f) n p cuts e.argument_value (is refl b.0) b.1)
  cast_operand_by true false x h is n p at cuts = h.value n p at cuts
  cast_operand_by false named x h is n p at cuts = h.value n p at cuts

  -- what an expression is converted to
  abbrev AsConverted : Expression → Expression → Type 0
  AsConverted x y = (expression_weight x ≤ expression_weight y) × (Is P f x → Is P f y)

  converted_shows : {Earlier : Type 0} (at : ℕ) (ty : Option BasicType) (x : Expression) → Shows whole Earlier (AsConverted x) (e.converted at ty x)
  unfolding e.converted
  converted_shows at (Some ty) x = shows_pure (Expression.Cast (c_type ty) x) (λ _. (omega arith, λ is. is))
  converted_shows at None x =
      shows_then (finds rule.Kind at) (λ _. pure e.nothing) (shows_broken {Is = λ _. ⊥} rule.Kind at) (λ _. shows_pure e.nothing (λ b. absurd b.1))

  cast_shows : (words : Specifiers) (x : e.Meant) → IsGood x → IsValue (e.cast s words x)
  unfolding e.cast
  cast_shows words x h n p at cuts =
      let ty = plain_integer words in
      let made = λ (y : Cut Expression) (z : Expression). cut y.cuts z in
      shows_then (e.cast_operand s ty x at cuts) (λ y. e.converted words.offset ty y.rest >>= (λ z. pure (made y z)))
      (cast_operand_by (e.is_long ty) (e.is_argument_name s x.name) x h (argument_named x.name) n p at cuts)
      (λ y. shows_then (e.converted words.offset ty y.rest) (λ z. pure (made y z)) (converted_shows words.offset ty y.rest)
      (λ z. shows_pure (made y z) (λ b. with_rest n p cuts y z b.1.0 b.1.1 b.0.1)))

  -- ---- operators of two operands

  -- an operator that is no short circuit
  abbrev IsPlain : e.Operand → Type 0
  IsPlain t = e.is_short_circuit t.operator ≡ false

  operated_follows : (operator : BinaryOperator) (n p : ℕ) (cuts : Cuts) (x y : Cut Expression) → e.is_short_circuit operator ≡ false → Valued n p cuts x →
      Valued n (p + c.value_room x.rest) x.cuts y → Valued n p cuts (cut y.cuts (e.operated operator x.rest y.rest))
  operated_follows operator n p cuts x y plain h g = by (e.binary_operator operator) (plain_operator operator plain)
    where
      plain_operator : (o : BinaryOperator) → e.is_short_circuit o ≡ false → (k : ResolvedBinary) × (e.binary_operator o ≡ Some k)
      plain_operator b.LogicalOr not_short = cc
      plain_operator b.LogicalAnd not_short = cc
      plain_operator b.BitOr not_short = (_, refl)
      plain_operator b.BitXor not_short = (_, refl)
      plain_operator b.BitAnd not_short = (_, refl)
      plain_operator b.Equal not_short = (_, refl)
      plain_operator b.NotEqual not_short = (_, refl)
      plain_operator b.Less not_short = (_, refl)
      plain_operator b.Greater not_short = (_, refl)
      plain_operator b.LessEqual not_short = (_, refl)
      plain_operator b.GreaterEqual not_short = (_, refl)
      plain_operator b.ShiftLeft not_short = (_, refl)
      plain_operator b.ShiftRight not_short = (_, refl)
      plain_operator b.Add not_short = (_, refl)
      plain_operator b.Subtract not_short = (_, refl)
      plain_operator b.Multiply not_short = (_, refl)
      plain_operator b.Divide not_short = (_, refl)
      plain_operator b.Remainder not_short = (_, refl)

      by : (o : Option ResolvedBinary) → (k : ResolvedBinary) × (o ≡ Some k) → Valued n p cuts (cut y.cuts (e.operated_by o x.rest y.rest))
      by None there = absurd (none_is there.0 there.1)
        where
          none_is : (k : ResolvedBinary) → None ≡ Some k → ⊥
          none_is k same = cc
      by (Some o) there =
          c.follows_both whole P number f c.value_room (Is P f) c.value_room (Is P f) c.value_room (Is P f) n p cuts x y (e.binary o x.rest y.rest) (omega arith)
          (λ one two. (refl, one, two)) h g

  term_value_shows : (n p at : ℕ) (cuts : Cuts) (x : Cut Expression) (t : e.Operand) → IsOperand t → IsPlain t →
      Shows whole (Before × Valued n p cuts x) (Valued n p cuts) (e.term_value s at x t)
  term_value_shows n p at cuts x t h plain =
      shows_then (t.operand.value at x.cuts) (λ y. pure (cut y.cuts (e.operated t.operator x.rest y.rest)))
      (shows_as (t.operand.value at x.cuts) (λ b. (b.0, b.1.cuts)) (λ _ _ is. is) (h.value n (p + c.value_room x.rest) at x.cuts))
      (λ y. shows_pure (cut y.cuts (e.operated t.operator x.rest y.rest)) (λ b. operated_follows t.operator n p cuts x y plain b.0.1 b.1))

  abbrev Plain : e.Operand → Type 0
  Plain t = IsOperand t × IsPlain t

  terms_value_shows : (n p at : ℕ) (cuts : Cuts) (x : Cut Expression) (terms : List e.Operand) → AllByRecursion Plain terms →
      Shows whole (Before × Valued n p cuts x) (Valued n p cuts) (e.terms_value s at x terms)
  unfolding e.terms_value
  terms_value_shows n p at cuts x terms all =
      shows_through Plain (λ _. Valued n p cuts) (e.term_value s at) (λ x t rest h. term_value_shows n p at cuts x t h.0 h.1) x terms all

  arithmetic_shows : (first : e.Meant) (terms : List e.Operand) → IsGood first → AllByRecursion Plain terms → IsValue (e.arithmetic_value s first terms)
  arithmetic_shows first terms h all n p at cuts =
      shows_then (first.value at cuts) (λ x. e.terms_value s at x terms) (h.value n p at cuts)
      (λ x. shows_as (e.terms_value s at x terms) (λ b. (b.0.0, b.1)) (λ _ _ is. is) (terms_value_shows n p at cuts x terms all))

  -- ---- short circuits

  joined_few : (n : ℕ) (x z whole_one : Statement) → slots_end whole_one ≡ slots_end (Statement.Both x z) → statement_weight whole_one ≡ statement_weight (Statement.Both x z) →
      AsCondition n x → AsCondition n z → slots_end whole_one ≤ n + (statement_weight whole_one + 1)
  joined_few n x z whole_one ends weighs h k =
      let one = h.few in
      let two = k.few in
      let both = max_of_both (slots_end x) (slots_end z) (n + (statement_weight (Statement.Both x z) + 1)) (omega (arith, one)) (omega (arith, two)) in
      omega (arith, ends, weighs, both)

  both_asked : (n : ℕ) (x z : Statement) → AsCondition n x → AsCondition n z → AsCondition n (Statement.Both x z)
  both_asked n x z h k = record {
    is = λ fit. (h.is (first_of_max (slots_end x) (slots_end z) (length f.locals) fit), k.is (second_of_max (slots_end x) (slots_end z) (length f.locals) fit));
    few = joined_few n x z (Statement.Both x z) refl refl h k;
    calls = both_found whole number (calls_of x) (calls_of z) h.calls k.calls;
  }

  either_asked : (n : ℕ) (x z : Statement) → AsCondition n x → AsCondition n z → AsCondition n (Statement.Either x z)
  either_asked n x z h k = record {
    is = λ fit. (h.is (first_of_max (slots_end x) (slots_end z) (length f.locals) fit), k.is (second_of_max (slots_end x) (slots_end z) (length f.locals) fit));
    few = joined_few n x z (Statement.Either x z) refl refl h k;
    calls = both_found whole number (calls_of x) (calls_of z) h.calls k.calls;
  }

  abbrev Joined : ℕ → Statement → Type 0
  Joined n x = AsCondition n x × r.IsJoined x

  joined_is : (operator : BinaryOperator) (n : ℕ) (x z : Statement) → AsCondition n x → AsCondition n z → Joined n (e.joined operator x z)
  joined_is b.LogicalOr n x z h k = (either_asked n x z h k, tt)
  joined_is operator n x z h k = (both_asked n x z h k, tt)

  -- joined where no more operands are left than behind the first
  abbrev SoFar : ℕ → ℕ → List e.Operand → Statement → Type 0
  SoFar n most rest x = AsCondition n x × (length rest ≤ most → r.IsJoined x)

  term_condition_shows : (n most : ℕ) (x : Statement) (t : e.Operand) (rest : List e.Operand) → IsOperand t →
      Shows whole (From n × SoFar n most (t ∷ rest) x) (SoFar n most rest) (e.term_condition s n x t)
  term_condition_shows n most x t rest h =
      shows_then (t.operand.condition n) (λ z. pure (e.joined t.operator x z)) (shows_as (t.operand.condition n) (λ b. b.0) (λ _ _ is. is) (h.condition n))
      (λ z. shows_pure (e.joined t.operator x z) (λ b. let so = joined_is t.operator n x z b.0.1.0 b.1 in (so.0, λ _. so.1)))

  joined_condition_shows : (n : ℕ) (first : e.Meant) (t : e.Operand) (more : List e.Operand) → IsGood first → AllByRecursion IsOperand (t ∷ more) →
      Shows whole (From n) (Joined n) (e.joined_condition s first (t ∷ more) n)
  unfolding e.terms_condition
  joined_condition_shows n first t more h all =
      shows_then (first.condition n) (λ x. e.terms_condition s n x (t ∷ more)) (h.condition n)
      (λ x. shows_as (e.terms_condition s n x (t ∷ more)) (λ b. (b.0, (b.1, λ le. absurd (too_long le)))) (λ _ _ is. (is.0, is.1 (omega arith)))
      (shows_through {Before = From n} IsOperand (SoFar n (length more)) (e.term_condition s n) (λ x t rest h. term_condition_shows n (length more) x t rest h) x (t ∷ more) all))
    where
      too_long : length (t ∷ more) ≤ length more → ⊥
      too_long le = omega (arith, le)

  truth_follows : (n p : ℕ) (cuts : Cuts) (x : Statement) → Before → c.AreCuts whole P number f n p cuts → Joined cuts.next x →
      Valued n p cuts (kept cuts.next int_type (Statement.Truth cuts.next x) cuts)
  truth_follows n p cuts x before h joined =
      let last : Statement = Statement.Truth cuts.next x in
      c.kept_is whole P number f n p 0 cuts cuts int_type last small (slots_of before) h (c.more_room whole P number f n p (p + 0) cuts (omega arith) h) (omega arith) (omega arith)
      (λ _ fit. (
        before.kept.slots cuts.next h.from (let le = first_of_max (cuts.next + 1) (slots_end x) (length f.locals) fit in omega (arith, le)),
        joined.1,
        joined.0.is (second_of_max (cuts.next + 1) (slots_end x) (length f.locals) fit),
      ))
      (record { calls = joined.0.calls; creates = refl })
      (let le = first_of_max (cuts.next + 1) (slots_end x) (slots_end last) (omega arith) in omega (arith, le))
      (let few = h.few in
      let own = joined.0.few in
      max_of_both (cuts.next + 1) (slots_end x) (n + (p + (statement_weight last + 1))) (omega (arith, few)) (omega (arith, few, own)))

  truth_shows : (first : e.Meant) (t : e.Operand) (more : List e.Operand) → IsGood first → AllByRecursion IsOperand (t ∷ more) → (n p : ℕ) (cuts : Cuts) →
      Shows whole (Behind n p cuts) (Valued n p cuts) (e.truth_value s first (t ∷ more) cuts)
  truth_shows first t more h all n p cuts =
      shows_then (e.joined_condition s first (t ∷ more) cuts.next) (λ x. pure (kept cuts.next int_type (Statement.Truth cuts.next x) cuts))
      (shows_as (e.joined_condition s first (t ∷ more) cuts.next) (λ b. (b.0, b.1.from)) (λ _ _ is. is) (joined_condition_shows cuts.next first t more h all))
      (λ x. shows_pure (kept cuts.next int_type (Statement.Truth cuts.next x) cuts) (λ b. truth_follows n p cuts x b.0.0 b.0.1 b.1))

  -- ---- by the level of the operators

  all_short : (list : List e.Operand) → AllByRecursion (λ (t : e.Operand). e.is_short_circuit t.operator ≡ true) list → e.are_short_circuits s list ≡ true
  all_short [] all = refl
  all_short (t ∷ list) all = both_true (e.is_short_circuit t.operator) (e.are_short_circuits s list) all.0 (all_short list all.1)
    where
      both_true : (x y : Bool) → x ≡ true → y ≡ true → (x && y) ≡ true
      both_true true y h k = k
      both_true false y h k = cc

  first_plain : (t : e.Operand) (more : List e.Operand) → e.is_short_circuit t.operator ≡ false → e.are_short_circuits s (t ∷ more) ≡ false
  first_plain t more plain = subst (λ x. (x && e.are_short_circuits s more) ≡ false) (sym plain) refl

  abbrev operators : List e.Operand → List BinaryOperator
  operators list = map (λ (t : e.Operand). t.operator) list

  all_like : (test : Bool) (first : BinaryOperator) (list : List e.Operand) → e.is_short_circuit first ≡ test →
      AllByRecursion (λ o. e.is_short_circuit o ≡ e.is_short_circuit first) (operators list) → AllByRecursion (λ (t : e.Operand). e.is_short_circuit t.operator ≡ test) list
  all_like test first [] is all = tt
  all_like test first (t ∷ list) is all = (all.0 ∙ is, all_like test first list is all.1)

  with_plain : (list : List e.Operand) → AllByRecursion IsOperand list → AllByRecursion IsPlain list → AllByRecursion Plain list
  with_plain [] all plain = tt
  with_plain (t ∷ list) all plain = ((all.0, plain.0), with_plain list all.1 plain.1)

  binary_by : (test : Bool) (first : e.Meant) (t : e.Operand) (more : List e.Operand) → IsGood first → AllByRecursion IsOperand (t ∷ more) →
      AllByRecursion (λ (t : e.Operand). e.is_short_circuit t.operator ≡ test) (t ∷ more) → IsFormed (e.binary_form s first (t ∷ more))
  binary_by true first t more h all like =
      let short = all_short (t ∷ more) like in
      record {
        value = λ n p at cuts.
            subst (λ x. Shows whole (Behind n p cuts) (Valued n p cuts) (if x then e.truth_value s first (t ∷ more) cuts else e.arithmetic_value s first (t ∷ more) at cuts)) (sym short)
            (truth_shows first t more h all n p cuts);
        condition = λ at n.
            subst (λ x. Shows whole (From n) (AsCondition n) (if x then e.joined_condition s first (t ∷ more) n else
            e.operand_condition s (e.arithmetic_value s first (t ∷ more)) at n)) (sym short)
            (shows_as (e.joined_condition s first (t ∷ more) n) (λ b. b) (λ _ _ is. is.0) (joined_condition_shows n first t more h all));
      }
  binary_by false first t more h all like =
      let plain = first_plain t more like.0 in
      let every = with_plain (t ∷ more) all like in
      record {
        value = λ n p at cuts.
            subst (λ x. Shows whole (Behind n p cuts) (Valued n p cuts) (if x then e.truth_value s first (t ∷ more) cuts else e.arithmetic_value s first (t ∷ more) at cuts)) (sym plain)
            (arithmetic_shows first (t ∷ more) h every n p at cuts);
        condition = λ at n.
            subst (λ x. Shows whole (From n) (AsCondition n) (if x then e.joined_condition s first (t ∷ more) n else
            e.operand_condition s (e.arithmetic_value s first (t ∷ more)) at n)) (sym plain)
            (operand_condition_shows (e.arithmetic_value s first (t ∷ more)) at n (arithmetic_shows first (t ∷ more) h every));
      }

  binary_form_is : (first : e.Meant) (terms : List e.Operand) → IsGood first → AllByRecursion IsOperand terms → AreOfOneLevel (operators terms) →
      IsFormed (e.binary_form s first terms)
  binary_form_is first [] h all level = absurd level
  binary_form_is first (t ∷ more) h all level =
      binary_by (e.is_short_circuit t.operator) first t more h all (refl, all_like (e.is_short_circuit t.operator) t.operator more refl level)

  -- ---- calls

  abbrev pub Passing : ℕ → ℕ → ℕ → Cuts → Cut (List Expression) → Type 0
  Passing count n p cuts x = c.Follows whole P number f arguments_weight (r.AreExpressions P f) n p cuts x × (length x.rest ≡ count)

  abbrev SomePassed : List e.Passed → ℕ → ℕ → ℕ → Cuts → Cut (List Expression) → Type 0
  SomePassed rest count n p cuts x = c.Follows whole P number f arguments_weight (r.AreExpressions P f) n p cuts x × (length x.rest + length rest ≡ count)

  pushed : (list : List Expression) (x : Expression) → arguments_weight list + (expression_weight x + 1) ≤ arguments_weight (list ++ x ∷ [])
  pushed list x =
      let w = sum_by_push expression_weight list x in
      let l = length_more list x in
      omega (arith, w, l)

  next_value_shows : (count n p at : ℕ) (cuts : Cuts) (x : Cut (List Expression)) (value : e.Passed) (rest : List e.Passed) → IsPassed value →
      Shows whole (Before × SomePassed (value ∷ rest) count n p cuts x) (SomePassed rest count n p cuts) (e.next_value at x value)
  next_value_shows count n p at cuts x value rest h =
      shows_then (value.value at x.cuts) (λ y. pure (cut y.cuts (x.rest ++ y.rest ∷ [])))
      (shows_as (value.value at x.cuts) (λ b. (b.0, b.1.0.cuts)) (λ _ _ is. is) (h.value n (p + arguments_weight x.rest) at x.cuts))
      (λ y. shows_pure (cut y.cuts (x.rest ++ y.rest ∷ []))
      (λ b. (
        c.follows_both whole P number f arguments_weight (r.AreExpressions P f) c.value_room (Is P f) arguments_weight (r.AreExpressions P f) n p cuts x y (x.rest ++ y.rest ∷ [])
            (pushed x.rest y.rest) (λ all is. all_more (Is P f) x.rest y.rest all is) b.0.1.0 b.1,
        (let l = length_more x.rest y.rest in let so = b.0.1.1 in omega (arith, l, so)),
      )))

  pub all_values_show : (list : List e.Passed) → AllByRecursion IsPassed list → (n p at : ℕ) (cuts : Cuts) →
      Shows whole (Behind n p cuts) (Passing (length list) n p cuts) (e.all_values list at cuts)
  unfolding e.all_values
  all_values_show list all n p at cuts =
      shows_as (e.all_values list at cuts)
      (λ b. (b.0, (c.follows_none whole P number f arguments_weight (r.AreExpressions P f) n p cuts [] tt b.1, omega arith)))
      (λ x _ is. (is.0, (let so = is.1 in omega (arith, so))))
      (shows_through {Before = Before} IsPassed (λ rest. SomePassed rest (length list) n p cuts) (e.next_value at)
      (λ x value rest h. next_value_shows (length list) n p at cuts x value rest h) (cut cuts []) list all)

  call_follows : (at : ℕ) (ty : IntegerType) (h : Option Header) (count : ℕ) (d : Option ℕ) (n p : ℕ) (cuts : Cuts) (values : Cut (List Expression)) → Before →
      c.AreCuts whole P number f n p cuts → IfAny (IsHeader P) h → IsCallOf whole number h count true d → Passing count n p cuts values →
      Valued n p cuts (e.called_value at cuts.next ty d values)
  call_follows at ty None count d n p cuts values before old header called passed = absurd called
  call_follows at ty (Some h) count None n p cuts values before old header called passed = absurd (no_definition h.definition (called.0) called.1.defined)
    where
      no_definition : (d : Option ℕ) → None ≡ d → is_none d ≡ false → ⊥
      no_definition None same some = cc
      no_definition (Some x) same some = cc
  call_follows at ty (Some h) count (Some callee) n p cuts values before old header called passed =
      let x : Statement = Statement.Call at (Some cuts.next) callee values.rest in
      c.kept_is whole P number f n p (arguments_weight values.rest) cuts values.cuts ty x small (slots_of before) old passed.0.cuts passed.0.more (omega arith)
      (λ fits fit. is_value_call P f h count header cuts.next callee values.rest (before.kept.slots cuts.next old.from (omega (arith, fit))) (sym called.0) called.1
      (passed.0.rest fits) passed.1)
      (record { calls = λ g inside. subst (λ k. IsFoundCall whole number k) (in_one callee g inside) called.2; creates = refl })
      (omega arith) (let few = old.few in omega (arith, few))

  function_value_shows : (name : Name) (list : List e.Passed) (header : ℕ) → AllByRecursion IsPassed list → IsValue (e.function_value s name list header)
  unfolding e.function_value
  function_value_shows name list header all n p at cuts =
      let h = slice_get s.headers header in
      let ty = value_type h in
      let made = λ (d : Option ℕ) (values : Cut (List Expression)). e.called_value at cuts.next ty d values in
      shows_then (function_name s header (length list) true name.offset) (λ d. e.all_values list at cuts >>= (λ values. pure (made d values)))
      (shows_as (function_name s header (length list) true name.offset) (λ b. b.0.function) (λ _ _ is. is) (function_name_shows number s header (length list) true name.offset))
      (λ d. shows_then (e.all_values list at cuts) (λ values. pure (made d values))
      (shows_as (e.all_values list at cuts) (λ b. b.0) (λ _ _ is. is) (all_values_show list all n p at cuts))
      (λ values. shows_pure (made d values)
      (λ b. call_follows at ty h (length list) d n p cuts values b.0.0.0 b.0.0.1 (element_is (IsHeader P) s.headers header b.0.0.0.headers) b.0.1 b.1)))

  each_looked : (list : List e.Passed) → AllByRecursion IsPassed list → AllByRecursion (λ (x : e.Passed). IsLooked x.looked) list
  each_looked [] all = tt
  each_looked (x ∷ list) all = (all.0.looked, each_looked list all.1)

  no_value_shows : (k : Known) (name : Name) (list : List e.Passed) → AllByRecursion IsPassed list → (n p : ℕ) (cuts : Cuts) → (Before → IsApart k) →
      Shows whole (Behind n p cuts) (Valued n p cuts) (e.no_value s k name list cuts)
  unfolding e.no_value
  no_value_shows k name list all n p cuts apart =
      let looked = visited (λ (x : e.Passed). x.looked) list in
      shows_then (misplaced s k (length list) name.offset) (λ _. looked >> pure (cut cuts e.nothing))
      (shows_as (misplaced s k (length list) name.offset) (λ b. (b.0.function, apart b.0)) (λ _ _ is. is) (misplaced_shows number s k (length list) name.offset))
      (λ _. shows_then looked (λ _. pure (cut cuts e.nothing))
      (shows_as looked (λ b. b.0.0) (λ _ _ is. is) (shows_visited (λ (x : e.Passed). x.looked) list (each_looked list all)))
      (λ _. shows_pure (cut cuts e.nothing) (λ b. absurd b.0.1)))

  call_by_shows : (o : Option ℕ) (k : Known) (x : e.Called) → IsCalled x → (Before → IsApart k) → IsValue (e.call_by s o k x)
  call_by_shows (Some header) k x all apart n p at cuts = function_value_shows x.name x.arguments header all n p at cuts
  call_by_shows None k x all apart n p at cuts = no_value_shows k x.name x.arguments all n p cuts apart

  call_value_shows : (x : e.Called) → IsCalled x → IsValue (e.call_value s x)
  call_value_shows x all =
      let k = look_up s x.name.bytes in
      call_by_shows (number_of k) k x all (λ before. known_apart P f k (look_up_is P number f s x.name.bytes before))

  -- ---- conditionals

  next_choice_shows : (n : ℕ) (x : e.Chosen) (choice : e.Choice) → IsChoice choice → Shows whole (From n × c.IsChosen whole P number f n x) (c.IsChosen whole P number f n)
      (e.next_choice s n x choice)
  next_choice_shows n x choice h =
      let offset = place_in_tree choice.condition.offset in
      shows_then (choice.condition.condition n) (λ z. e.operand_value n choice.otherwise >>= (λ y. pure (e.conditional n offset z x y)))
      (shows_as (choice.condition.condition n) (λ b. b.0) (λ _ _ is. is) (h.condition.condition n))
      (λ z. shows_then (e.operand_value n choice.otherwise) (λ y. pure (e.conditional n offset z x y))
      (shows_as (e.operand_value n choice.otherwise) (λ b. b.0.0) (λ _ _ is. is) (operand_shows n choice.otherwise h.otherwise))
      (λ y. shows_pure (e.conditional n offset z x y)
      (λ b. c.conditional_is whole P number f n offset z x y (slots_of b.0.0.0.0) b.0.0.0.1 b.0.1 b.0.0.1 b.1)))

  conditional_value_shows : (first : e.Meant) (choices : List e.Choice) → IsGood first → AllByRecursion IsChoice choices → IsValue (e.conditional_value s first choices)
  unfolding e.further_choices
  conditional_value_shows first choices h all n p at cuts =
      shows_then (e.choices_value s cuts.next first choices) (λ x. pure (e.with_choice cuts x))
      (shows_as (e.choices_value s cuts.next first choices) (λ b. (b.0, b.1.from)) (λ _ _ is. is)
      (shows_then (e.operand_value cuts.next first) (λ x. e.further_choices s cuts.next x choices) (operand_shows cuts.next first h)
      (λ x. shows_through {Before = From cuts.next} IsChoice (λ _. c.IsChosen whole P number f cuts.next) (e.next_choice s cuts.next)
      (λ x choice rest h. next_choice_shows cuts.next x choice h) x choices all)))
      (λ x. shows_pure (e.with_choice cuts x) (λ b. c.choice_is whole P number f n p cuts x small b.0.1 b.1))

  -- ---- the layers

  abbrev Layer : (Type 0 → Type 0 → Type 0 → Type 0 → Type 0 → Type 0 → Type 0 → Type 0 → Type 0) → Type 0
  Layer F = F e.Passed e.Formed e.Called e.Choice e.Meant e.Placed e.Pointed e.Operand

  -- the parts of a form's layer do as they should
  abbrev pub AreForm : Layer Form-F → Type 0
  AreForm (Form-F.Constant k at) = IsValidConstant k
  AreForm (Form-F.Place p) = IsPlaced p
  AreForm (Form-F.Call x) = IsCalled x
  AreForm (Form-F.Unary operator x) = IsGood x
  AreForm (Form-F.Cast words x) = IsGood x
  AreForm (Form-F.Binary first terms) = IsGood first × AllByRecursion IsOperand terms × AreOfOneLevel (operators terms)
  AreForm (Form-F.Conditional first choices) = IsGood first × AllByRecursion IsChoice choices

  pub form_is : (l : Layer Form-F) → AreForm l → IsFormed (e.form_step s l)
  form_is (Form-F.Constant k at) h = a_value_is (λ here cuts. e.constant k at >>= (λ x. pure (cut cuts x))) (constant_is k at h)
  form_is (Form-F.Place p) h = place_form_is p h
  form_is (Form-F.Call x) h = a_value_is (e.call_value s x) (call_value_shows x h)
  form_is (Form-F.Unary operator x) h = unary_form_is operator x h
  form_is (Form-F.Cast words x) h = a_value_is (e.cast s words x) (cast_shows words x h)
  form_is (Form-F.Binary first terms) h = binary_form_is first terms h.0 h.1 h.2
  form_is (Form-F.Conditional first choices) h = a_value_is (e.conditional_value s first choices) (conditional_value_shows first choices h.0 h.1)

  pub expression_is : (l : Layer Expression-F) → IsFormed l.form → IsGood (e.expression_step s l)
  expression_is l h = record { value = h.value; condition = h.condition l.offset }

  abbrev pub AreArgument : Layer Argument-F → Type 0
  AreArgument (Argument-F.Value x) = IsGood x
  AreArgument (Argument-F.Text bytes at) = ⊤
  AreArgument (Argument-F.Address p at) = IsPlaced p
  AreArgument (Argument-F.Pointer p) = IsPointed p

  refused_value_shows : (offset : ℕ) (looked : e.Looked) → IsLooked looked → IsValue (λ at cuts. e.refused_value s offset looked cuts)
  unfolding e.refused_value
  refused_value_shows offset looked h n p at cuts =
      shows_then (finds rule.Kind offset) (λ _. looked >> pure (cut cuts e.nothing)) (shows_broken {Is = λ _. ⊥} rule.Kind offset)
      (λ _. shows_then looked (λ _. pure (cut cuts e.nothing)) (shows_as looked (λ b. b.0.0) (λ _ _ is. is) h) (λ _. shows_pure (cut cuts e.nothing) (λ b. absurd b.0.1)))

  refused_is : (offset : ℕ) (looked : e.Looked) → IsLooked looked → IsPassed (e.refused_argument s offset looked)
  refused_is offset looked h = record { value = refused_value_shows offset looked h; looked = h }

  pub argument_layer_is : (l : Layer Argument-F) → AreArgument l → IsPassed (e.argument_step s l)
  argument_layer_is (Argument-F.Value x) h = record { value = h.value; looked = look_shows x h }
  argument_layer_is (Argument-F.Text bytes at) h = refused_is at (pure tt) (shows_pure tt (λ _. tt))
  argument_layer_is (Argument-F.Address p at) h = refused_is at (e.look_at_all p.indices) (look_at_all_shows p.indices h)
  argument_layer_is (Argument-F.Pointer p) h = refused_is p.offset p.looked h

  pub choice_is : (l : Layer Choice-F) → IsGood l.condition → IsGood l.otherwise → IsChoice (e.choice_step s l)
  choice_is l h k = record { condition = h; otherwise = k }

  pub looked_operand_shows : (o : Option e.Meant) → IfAny IsGood o → IsLooked (e.looked_operand s o)
  looked_operand_shows None h = shows_pure tt (λ _. tt)
  looked_operand_shows (Some x) h = look_shows x h
