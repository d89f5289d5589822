-- What the walk over the initial values of an object finds, by their parts.
use Rattle.std.proofs.Common.{◌≡◌, refl, sym, subst, ap, ◌∙◌, ℕ, suc, Bool, true, false, List, [], ◌∷◌, ◌++◌, map, arith, ℤ}
use Rattle.std.proofs.lemmas.Bool.{true≢false}
use Rattle.std.specs.Prelude.{◌+◌, nat_le, if◌then◌else◌}
use denote.Hole.Holds.{Such}
use Rattle.hls_ints.specs.Types.{IntegerType}
use Rattle.c_tree.specs.declared.expression.Name.{Name}
use Rattle.c_tree.specs.declared.expression.Expression.{Expression as ExpressionTree, out-Expression}
use Rattle.c_tree.specs.declared.declaration.Initial.{Initial, out-Initial, roll-Initial}
use Rattle.c_tree.specs.declared.declaration.Initial.TheOpen.{Initial-F}
use Rattle.c_tree.specs.declared.declaration.Initial.TheBlock.{the_family, member-Initial}
use Rattle.c_tree.specs.declared.declaration.Initial.TheFolds.{claims, map-Initial, fold-roll-Initial, ind-Initial}
use Rattle.c_tree.specs.declared.declaration.Initializer.{Initializer}
use Rattle.c_tree.specs.declared.declaration.Initializer.TheVariants as initial_as
use Rattle.c_rules.specs.declared.fault.Rule.TheVariants as rule
use Rattle.c_rules.specs.declared.dimensions.Dimensions.{Dimensions}
use Rattle.c_rules.specs.declared.dimensions.Dimensions.TheVariants.{Scalar, One, Two, Three}
use Rattle.c_rules.specs.declared.findings.Findings.{Findings}
use Rattle.c_rules.specs.declared.names.Scope.{Scope}
use Rattle.c_rules.specs.Constants.{constancy}
use Rattle.c_rules.specs.Dimensions.{elements, inner, is_scalar, outermost, times}
use Rattle.c_rules.specs.Walks.{Outcome, Finds, pure, finds, finds_if, through, ◌>>◌}
use Rattle.c_expressions.specs.Expressions as e
use Rattle.c_resolution.specs.Globals as g
use Rattle.c_broken_rules.specs.Sight.{Where}
use Rattle.c_broken_rules.specs.Parts as p
use Rattle.c_broken_rules.specs.Parts.{Part, Parts}
use Rattle.c_broken_rules.proofs.Ledgers.{Ledger, Good, Writes, given, left, after_one, good_pure, good_then, good_before, nothing_new, writes_both}
use Rattle.c_broken_rules.proofs.Events.{Events, elements_given}
use Rattle.c_broken_rules.proofs.Values.{good_looked}
use Rattle.c_broken_rules.proofs.Lengths.{HasLengths, given_pure, kept_lengths, no_scalar, outermost_is, inner_is, elements_are}

module _ (L : Ledger) (s : Scope) (w : Where) (events : Events L s w) where
  initial_value : (ty : IntegerType) (v : ExpressionTree) → Good L (g.initial_value ty v s) (p.value_parts w v)
  unfolding g.initial_value
  initial_value ty v =
      good_then L (e.looked s v) (λ _. g.initial_from ty (constancy v) (out-Expression v).offset) (p.expression_parts w v) (Part.Initial v ∷ []) (good_looked L s w events v)
      (λ _. events.initial ty v)

  one_value : (ty : IntegerType) (v : ExpressionTree) → Good L (g.one_value ty v s) (p.value_parts w v)
  one_value ty v = good_before L (g.initial_value ty v s) (λ x. pure (x ∷ [])) (p.value_parts w v) (initial_value ty v) (λ x. good_pure L (x ∷ []))

  -- ---- braces

  -- what stands between braces, as one more element of the dimensions or where it is of another form
  pub record GoodItem (x : g.Item) (q : p.Item) : Type 0 where
    pub values : (too_many : Bool) (ty : IntegerType) (d : Dimensions) (lengths : List ExpressionTree) (ps : Parts) → HasLengths d lengths →
        Good L (finds_if too_many rule.Constant q.at) ps → Good L (x.values too_many ty d) (ps ++ q.given lengths)
    pub looked : Good L x.looked q.looked

  abbrev pub AreGood : List g.Item → List p.Item → Type 0
  AreGood [] [] = Unit {0}
  AreGood (x ∷ list) (q ∷ parts) = GoodItem x q × AreGood list parts
  AreGood [] (q ∷ parts) = ⊥
  AreGood (x ∷ list) [] = ⊥

  looked_from : (list : List g.Item) (parts : List p.Item) (u : Unit {0}) → AreGood list parts → Good L (through (λ _ (x : g.Item). x.looked) u list) (p.looked_items parts)
  looked_from [] [] u h = record { writes = λ found. nothing_new L found }
  looked_from (x ∷ list) (q ∷ parts) u h = record {
    writes = λ found.
        let o = x.looked found in
        subst (λ (z : Outcome Findings (Unit {0})). Writes L found (left z) (q.looked ++ p.looked_items parts)) (sym (after_one (λ _ (x : g.Item). x.looked) u x list found))
        (writes_both L q.looked (p.looked_items parts) (h.0.looked.writes found) ((looked_from list parts (given o) h.1).writes (left o)));
  }
  looked_from [] (q ∷ parts) u h = absurd h
  looked_from (x ∷ list) [] u h = absurd h

  pub looked_items : (list : List g.Item) (parts : List p.Item) → AreGood list parts → Good L (g.looked_items list) (p.looked_items parts)
  looked_items list parts h = looked_from list parts tt h

  refused_item : (at : ℕ) (looked : Finds (Unit {0})) (ps : Parts) → Good L looked ps → Good L (g.refused_item at looked) ps
  unfolding g.refused_item
  refused_item at looked ps h =
      good_then L (finds rule.Kind at) (λ _. looked >> pure []) [] ps (events.other rule.Kind at tt) (λ _. good_before L looked (λ _. pure []) ps h (λ _. good_pure L []))

  -- elements one after another, of which there are as many as the first lengths say
  module _ (ty : IntegerType) (size : ℕ) (d : Dimensions) (first lengths : List ExpressionTree) (are : size ≡ elements_given 1 first) (has : HasLengths d lengths) where
    abbrev next_row : g.Row → List ℤ → g.Row
    next_row row values = (row.0 + 1, g.filled (times row.0 (elements d)) row.1 ++ values)

    next_item : (row : g.Row) (x : g.Item) (q : p.Item) → GoodItem x q → Good L (g.next_item ty size d row x) (Part.Listed first row.0 q.at ∷ q.given lengths)
    next_item row x q h =
        good_before L (x.values (nat_le size row.0) ty d) (λ values. pure (next_row row values)) (Part.Listed first row.0 q.at ∷ q.given lengths)
        (h.values (nat_le size row.0) ty d lengths (Part.Listed first row.0 q.at ∷ []) has (events.listed first size row.0 q.at are)) (λ values. good_pure L (next_row row values))

    next_number : (row : g.Row) (x : g.Item) (found : Findings) → (given (g.next_item ty size d row x found)).0 ≡ suc row.0
    next_number row x found =
        let next : row.0 + 1 ≡ suc row.0 = omega arith in
        ap (λ (r : g.Row). r.0) (given_pure (x.values (nat_le size row.0) ty d) (λ values. next_row row values) found) ∙ next

    row_from : (list : List g.Item) (parts : List p.Item) (row : g.Row) (index : ℕ) → AreGood list parts → row.0 ≡ index →
        Good L (through (g.next_item ty size d) row list) (p.items_given first lengths index parts)
    row_from [] [] row index h is = record { writes = λ found. nothing_new L found }
    row_from (x ∷ list) (q ∷ parts) row index h is = record {
      writes = λ found.
          let o = g.next_item ty size d row x found in
          let ps = Part.Listed first index q.at ∷ q.given lengths in
          let rest = p.items_given first lengths (suc index) parts in
          subst (λ (z : Outcome Findings g.Row). Writes L found (left z) (ps ++ rest)) (sym (after_one (g.next_item ty size d) row x list found))
          (writes_both L ps rest
          ((subst (λ i. Good L (g.next_item ty size d row x) (Part.Listed first i q.at ∷ q.given lengths)) is (next_item row x q h.0)).writes found)
          ((row_from list parts (given o) (suc index) h.1 (next_number row x found ∙ ap suc is)).writes (left o)));
    }
    row_from [] (q ∷ parts) row index h is = absurd h
    row_from (x ∷ list) [] row index h is = absurd h

    row_values : (list : List g.Item) (parts : List p.Item) → AreGood list parts → Good L (g.row_values ty size d list) (p.items_given first lengths 0 parts)
    unfolding g.row_values
    row_values list parts h =
        let start : g.Row = (0, []) in
        good_before L (through (g.next_item ty size d) start list) (λ row. pure row.1) (p.items_given first lengths 0 parts) (row_from list parts start 0 h refl)
        (λ row. good_pure L row.1)

  -- ---- items by their form

  value_as : (v : ExpressionTree) (ty : IntegerType) (d : Dimensions) (lengths : List ExpressionTree) → HasLengths d lengths →
      Good L (g.value_as v s (is_scalar d) ty) (p.value_given w v lengths)
  value_as v ty Scalar [] h = one_value ty v
  value_as v ty Scalar (x ∷ lengths) h = absurd h
  value_as v ty (One a) [] h = absurd h
  value_as v ty (One a) (x ∷ lengths) h = refused_item (out-Expression v).offset (e.looked s v) (p.expression_parts w v) (good_looked L s w events v)
  value_as v ty (Two a b) [] h = absurd h
  value_as v ty (Two a b) (x ∷ lengths) h = refused_item (out-Expression v).offset (e.looked s v) (p.expression_parts w v) (good_looked L s w events v)
  value_as v ty (Three a b c) [] h = absurd h
  value_as v ty (Three a b c) (x ∷ lengths) h = refused_item (out-Expression v).offset (e.looked s v) (p.expression_parts w v) (good_looked L s w events v)

  value_item : (v : ExpressionTree) → GoodItem (g.item_step s (Initial-F.Value v)) (p.item_layer_of w (Initial-F.Value v))
  value_item v = record {
    values = λ too_many ty d lengths ps has h.
        good_then L (finds_if too_many rule.Constant (out-Expression v).offset) (λ _. g.value_as v s (is_scalar d) ty) ps (p.value_given w v lengths) h
        (λ _. value_as v ty d lengths has);
    looked = good_looked L s w events v;
  }

  rows : (list : List g.Item) (parts : List p.Item) (at : ℕ) (ty : IntegerType) (d : Dimensions) (b : Bool) (x : ExpressionTree) (lengths : List ExpressionTree) →
      AreGood list parts → HasLengths d (x ∷ lengths) → b ≡ false → Good L (g.list_as list at b ty d) (p.items_given (x ∷ []) lengths 0 parts)
  rows list parts at ty d false x lengths all h is =
      row_values ty (outermost d) (inner d) (x ∷ []) lengths (outermost_is d x lengths h) (inner_is d x lengths h) list parts all
  rows list parts at ty d true x lengths all h is = absurd (true≢false is)

  list_as : (list : List g.Item) (parts : List p.Item) (at : ℕ) (ty : IntegerType) (d : Dimensions) (lengths : List ExpressionTree) → AreGood list parts → HasLengths d lengths →
      Good L (g.list_as list at (is_scalar d) ty d) (p.list_given w parts lengths)
  list_as list parts at ty Scalar [] all h = refused_item at (g.looked_items list) (p.looked_items parts) (looked_items list parts all)
  list_as list parts at ty d (x ∷ lengths) all h = rows list parts at ty d (is_scalar d) x lengths all h (no_scalar d x lengths h)
  list_as list parts at ty (One a) [] all h = absurd h
  list_as list parts at ty (Two a b) [] all h = absurd h
  list_as list parts at ty (Three a b c) [] all h = absurd h

  abbrev list_item : List g.Item → ℕ → g.Item
  list_item list at = record { values = g.list_item list at; looked = g.looked_items list }

  abbrev list_parts : List p.Item → ℕ → p.Item
  list_parts parts at = record { at = at; looked = p.looked_items parts; given = p.list_given w parts }

  good_list : (list : List g.Item) (parts : List p.Item) (at : ℕ) → AreGood list parts → GoodItem (list_item list at) (list_parts parts at)
  good_list list parts at all = record {
    values = λ too_many ty d lengths ps has h.
        good_then L (finds_if too_many rule.Constant at) (λ _. g.list_as list at (is_scalar d) ty d) ps (p.list_given w parts lengths) h
        (λ _. list_as list parts at ty d lengths all has);
    looked = looked_items list parts all;
  }

  abbrev Claim : Initial → Type 0
  Claim x = GoodItem (g.item s x) (p.initial_item w x)

  abbrev SomeInitial : Type 0
  SomeInitial = Such the_family (claims Claim) member-Initial

  abbrev seen : Initial-F SomeInitial → Initial-F Initial
  seen x = map-Initial SomeInitial Initial (λ e. e.0) x

  these : (list : List SomeInitial) → AreGood (map (g.item s) (map (λ e. e.0) list)) (map (p.initial_item w) (map (λ e. e.0) list))
  these [] = tt
  these (x ∷ list) = (x.1, these list)

  initial_case : (x : Initial-F SomeInitial) →
      GoodItem (g.item_step s (map-Initial Initial g.Item (g.item s) (seen x))) (p.item_layer_of w (map-Initial Initial p.Item (p.initial_item w) (seen x)))
  initial_case (Initial-F.Value v) = value_item v
  initial_case (Initial-F.List list at) = good_list (map (g.item s) (map (λ e. e.0) list)) (map (p.initial_item w) (map (λ e. e.0) list)) at (these list)

  initial_induct : (x : Initial-F Initial) (t : Initial-F SomeInitial) → seen t ≡ x → Claim (roll-Initial x)
  initial_induct x t is = subst (λ k. Claim (roll-Initial k)) is
      (subst (λ (m : g.Item). GoodItem m (p.initial_item w (roll-Initial (seen t)))) (sym (fold-roll-Initial g.Item (g.item_step s) (seen t)))
      (subst (λ (q : p.Item). GoodItem (g.item_step s (map-Initial Initial g.Item (g.item s) (seen t))) q) (sym (fold-roll-Initial p.Item (p.item_layer_of w) (seen t)))
      (initial_case t)))

  good_initial : (x : Initial) → Claim x
  good_initial = ind-Initial Claim initial_induct

  all_good : (list : List Initial) → AreGood (map (g.item s) list) (map (p.initial_item w) list)
  all_good [] = tt
  all_good (x ∷ list) = (good_initial x, all_good list)

  -- ---- the initialiser of an object

  same_braces : (x : Initial-F Initial) → g.has_braces x ≡ p.has_braces x
  same_braces (Initial-F.Value v) = refl
  same_braces (Initial-F.List list at) = refl

  same_rows : (list : List Initial) → g.is_by_rows list ≡ p.is_by_rows list
  same_rows [] = refl
  same_rows (x ∷ list) = same_braces (out-Initial x)

  array_by : (ty : IntegerType) (d : Dimensions) (x : ExpressionTree) (rest : List ExpressionTree) (list : List Initial) (b : Bool) → HasLengths d (x ∷ rest) →
      Good L (if b then g.row_values ty (outermost d) (inner d) (map (g.item s) list) else g.row_values ty (elements d) Scalar (map (g.item s) list))
      (if b then p.items_given (x ∷ []) rest 0 (map (p.initial_item w) list) else p.items_given (x ∷ rest) [] 0 (map (p.initial_item w) list))
  array_by ty d x rest list true h =
      row_values ty (outermost d) (inner d) (x ∷ []) rest (outermost_is d x rest h) (inner_is d x rest h) (map (g.item s) list) (map (p.initial_item w) list) (all_good list)
  array_by ty d x rest list false h =
      row_values ty (elements d) Scalar (x ∷ rest) [] (elements_are d x rest h) tt (map (g.item s) list) (map (p.initial_item w) list) (all_good list)

  array_values : (ty : IntegerType) (d : Dimensions) (x : ExpressionTree) (more : List ExpressionTree) (list : List Initial) → HasLengths d (x ∷ p.inner_lengths more) →
      Good L (g.array_values ty d list s) (p.array_parts w x more list)
  unfolding g.array_values
  array_values ty d x more list h =
      let rest = p.inner_lengths more in
      subst (λ b. Good L (if b then g.row_values ty (outermost d) (inner d) (map (g.item s) list) else g.row_values ty (elements d) Scalar (map (g.item s) list))
      (p.array_parts w x more list)) (sym (same_rows list)) (array_by ty d x rest list (p.is_by_rows list) h)

  looked : (i : Initializer) → Good L (g.looked_through i s) (p.initializer_parts w i)
  looked (initial_as.Value v) = good_looked L s w events v
  looked (initial_as.List list at) = looked_items (map (g.item s) list) (map (p.initial_item w) list) (all_good list)
  looked initial_as.Mutex = good_pure L tt

  pub refused : (name : Name) (i : Initializer) → Good L (g.refused name i s) (p.initializer_parts w i)
  unfolding g.refused
  refused name i = good_then L (finds rule.Kind name.offset) (λ _. g.looked_through i s) [] (p.initializer_parts w i) (events.other rule.Kind name.offset tt) (λ _. looked i)

  refused_values : (name : Name) (i : Initializer) → Good L (g.refused_values name i s) (p.initializer_parts w i)
  unfolding g.refused_values
  refused_values name i = good_before L (g.refused name i s) (λ _. pure []) (p.initializer_parts w i) (refused name i) (λ _. good_pure L [])

  array_initial : (name : Name) (ty : IntegerType) (d : Dimensions) (b : Bool) (x : ExpressionTree) (more : List ExpressionTree) (i : Initializer) →
      HasLengths d (x ∷ p.inner_lengths more) → b ≡ false → Good L (g.initial_of name ty d b i s) (p.initial_parts w (x ∷ more) i)
  array_initial name ty d false x more (initial_as.Value v) h is = refused_values name (initial_as.Value v)
  array_initial name ty d false x more (initial_as.List list at) h is = array_values ty d x more list h
  array_initial name ty d false x more initial_as.Mutex h is = refused_values name initial_as.Mutex
  array_initial name ty d true x more i h is = absurd (true≢false is)

  pub initial_of : (name : Name) (ty : IntegerType) (d : Dimensions) (lengths : List ExpressionTree) (i : Initializer) → HasLengths d (kept_lengths lengths) →
      Good L (g.initial_of name ty d (is_scalar d) i s) (p.initial_parts w lengths i)
  initial_of name ty Scalar [] (initial_as.Value v) h = one_value ty v
  initial_of name ty Scalar [] (initial_as.List list at) h = refused_values name (initial_as.List list at)
  initial_of name ty Scalar [] initial_as.Mutex h = refused_values name initial_as.Mutex
  initial_of name ty (One a) [] i h = absurd h
  initial_of name ty (Two a b) [] i h = absurd h
  initial_of name ty (Three a b c) [] i h = absurd h
  initial_of name ty d (x ∷ more) i h = array_initial name ty d (is_scalar d) x more i h (no_scalar d x (p.inner_lengths more) h)
