-- What initial values and lengths at file scope give.
use Rattle.std.proofs.Common.{◌≡◌, ◌∙◌, refl, sym, ap, subst, ℕ, zero, suc, ◌<◌, ◌≤◌, Bool, true, false, List, []}
use Rattle.std.proofs.Common.{◌∷◌, ◌++◌, map, length, Option, Some, None, leb-false, le_trans, mul-one, mul_comm, mul_assoc, ℤ, pos, arith}
use Rattle.std.proofs.lemmas.List.{length-append}
use denote.Hole.Holds.{Such}
use Rattle.std.specs.Prelude.{◌+◌, ◌*◌, ◌-◌, ◌&&◌, min, nat_le, is_none, replicate, if◌then◌else◌, ⊤}
use Rattle.std.specs.List.{AllByRecursion}
use Rattle.std.proofs.lemmas.Bool.{and_parts}
use Rattle.lists.proofs.Places.{all_back, all_front}
use Rattle.hls_ints.specs.Types.{IntegerType, Width, bits_8, bits_16, bits_32, bits_64, HasType, wrapped}
use Rattle.hls_ints.proofs.Conversions.{wrapped-range}
use Rattle.c_tree.specs.declared.expression.Name.{Name}
use Rattle.c_tree.specs.declared.expression.Expression.{Expression as ExpressionTree, out-Expression}
use Rattle.c_tree.specs.declared.declaration.Initial.{Initial, roll-Initial}
use Rattle.c_tree.specs.declared.declaration.Initial.TheOpen.{Initial-F}
use Rattle.c_tree.specs.declared.declaration.Initial.TheBlock.{the_family, member-Initial}
use Rattle.c_tree.specs.declared.declaration.Initial.TheFolds.{claims, map-Initial, fold-roll-Initial, ind-Initial}
use Rattle.c_tree.specs.declared.declaration.Initializer.{Initializer}
use Rattle.c_tree.specs.declared.declaration.Initializer.TheVariants as initial_as
use Rattle.c_program.specs.declared.tree.ReturnType.TheVariants as returns_as
use Rattle.c_program.specs.Tree.{Statement, Function, Program}
use Rattle.c_rules.specs.declared.dimensions.Dimensions.{Dimensions}
use Rattle.c_rules.specs.declared.dimensions.Dimensions.TheVariants.{Scalar, One, Two, Three}
use Rattle.c_rules.specs.Dimensions.{elements, inner, is_scalar, outermost, times, with_length}
use Rattle.c_rules.specs.declared.fault.Rule.TheVariants as rule
use Rattle.c_rules.specs.declared.findings.Findings.{Findings}
use Rattle.c_rules.specs.declared.constants.Constancy.{Constancy}
use Rattle.c_rules.specs.declared.constants.Constancy.TheVariants as is
use Rattle.c_rules.specs.declared.names.ObjectKind.TheVariants.{Mutex}
use Rattle.c_rules.specs.declared.names.Object.{Object}
use Rattle.c_rules.specs.declared.names.Variable.{Variable}
use Rattle.c_rules.specs.declared.names.Scope.{Scope}
use Rattle.c_rules.specs.Constants.{constancy}
use Rattle.c_rules.specs.Names.{same_kind}
use Rattle.c_rules.specs.Specifiers.{c_type}
use Rattle.c_rules.specs.Walks.{Finds, pure, finds, finds_if, through, ◌>>◌}
use Rattle.c_expressions.specs.Expressions.{looked}
use Rattle.c_resolution.specs.Locals as l
use Rattle.c_resolution.specs.Globals as g
use Rattle.c_resolved_program.specs.Leaves.{Leaves, AreValid, expression_leaves, initial_layer, initial_leaves, initializer_leaves, all_of, of_any, of_each}
use Rattle.c_resolved_program.specs.Orders.{IsLength, AreLengths}
use Rattle.c_resolved_program.proofs.Lists.{all_both}
use Rattle.c_resolved_program.proofs.Walks.{Shows, shows_pure, shows_then, shows_as, shows_broken, shows_if, shows_through, shows_visited}
use Rattle.c_resolved_program.proofs.Trees.{looked_shows as value_looked}
use Rattle.c_resolved_program.proofs.Locals.{length_from_shows, with_length_is, each_length}

zero_at : (signed : Bool) (w : Width) → HasType (record { width = w; signed = signed }) (pos 0)
zero_at true bits_8 = refl
zero_at true bits_16 = refl
zero_at true bits_32 = refl
zero_at true bits_64 = refl
zero_at false bits_8 = refl
zero_at false bits_16 = refl
zero_at false bits_32 = refl
zero_at false bits_64 = refl

pub zero_is : (ty : IntegerType) → HasType ty (pos 0)
zero_is ty = zero_at ty.signed ty.width

-- a function that is none of a program
nobody : Function
nobody = record {
  name = [];
  returns = returns_as.Void;
  parameters = 0;
  declared_locals = 0;
  locals = [];
  local_names = [];
  body = Statement.Done;
  end = 0;
}

more_rows : (k n e : ℕ) → k ≤ n → k * e ≤ n * e
more_rows zero n e le = omega arith
more_rows (suc k) zero e le = absurd (omega (arith, le))
more_rows (suc k) (suc n) e le = let h = more_rows k n e (omega (arith, le)) in omega (arith, h)

-- the number of elements, as many as they may be
abbrev pub total : Dimensions → ℕ
total Scalar = 1
total (One a) = a
total (Two a b) = a * b
total (Three a b c) = a * b * c

least_first : (m n : ℕ) → min m n ≤ m
least_first m n = grind arith

elements_most : (d : Dimensions) → elements d ≤ total d
elements_most Scalar = omega arith
elements_most (One a) = omega arith
elements_most (Two a b) = least_first (a * b) 0xffff_ffff_ffff_ffff
elements_most (Three a b c) =
    le_trans (least_first (times a b * c) 0xffff_ffff_ffff_ffff) (more_rows (times a b) (a * b) c (least_first (a * b) 0xffff_ffff_ffff_ffff))

-- the rows of an array have its elements
rows_total : (d : Dimensions) → is_scalar d ≡ false → outermost d * total (inner d) ≡ total d
rows_total Scalar is = cc
rows_total (One a) is = mul-one a
rows_total (Two a b) is = refl
rows_total (Three a b c) is = sym (mul_assoc a b c)

-- where the number of elements is not cut off it is all of them
not_cut : (m n : ℕ) → min m n < n → min m n ≡ m
not_cut m n lt = grind arith

product_least : (m c : ℕ) → 0 < c → m ≤ m * c
product_least m zero some = absurd (omega (arith, some))
product_least m (suc c) some = let h = more_rows 1 (suc c) m (omega arith) in let e = mul_comm m (suc c) in omega (arith, h, e)

pub all_counted : (d : Dimensions) → AreLengths d → elements d < 0xffff_ffff_ffff_ffff → elements d ≡ total d
all_counted Scalar are lt = refl
all_counted (One a) are lt = refl
all_counted (Two a b) are lt = not_cut (a * b) 0xffff_ffff_ffff_ffff lt
all_counted (Three a b c) are lt =
    let outer = not_cut (times a b * c) 0xffff_ffff_ffff_ffff lt in
    let le = product_least (times a b) c are.2.0 in
    let both = not_cut (a * b) 0xffff_ffff_ffff_ffff (omega (arith, outer, le, lt)) in
    outer ∙ ap (λ k. k * c) both

same_rows : (k m n : ℕ) → m ≤ n → k * m ≤ k * n
same_rows zero m n le = omega arith
same_rows (suc k) m n le = let h = same_rows k m n le in omega (arith, h, le)

one_row : (k n : ℕ) → (k + 1) * n ≡ k * n + n
one_row zero n = omega arith
one_row (suc k) n = let h = one_row k n in omega (arith, h)

module _ (whole : Findings) (P : Program) (f : Function) (s : Scope) where
  -- a value outside of a function is gone through
  looked_shows : (e : ExpressionTree) → AreValid (expression_leaves e) → Shows whole ⊤ (λ _. ⊤) (looked s e)
  unfolding nobody
  looked_shows e valid = record { back = (value_looked whole P 0 nobody (omega arith) s e valid).back; forth = λ found part before. tt }

  array_length_shows : {Earlier : Type 0} (e : ExpressionTree) → AreValid (expression_leaves e) → Shows whole Earlier IsLength (l.array_length e s)
  unfolding l.array_length
  array_length_shows e valid =
      shows_then (looked s e) (λ _. l.length_from (constancy e) (out-Expression e).offset) (shows_as (looked s e) (λ _. tt) (λ _ _ is. is) (looked_shows e valid))
      (λ _. length_from_shows (constancy e) (out-Expression e).offset)

  next_length_shows : (d : Dimensions) (e : ExpressionTree) → AreValid (expression_leaves e) → Shows whole (⊤ × AreLengths d) AreLengths (l.next_length s d e)
  next_length_shows d e valid =
      shows_then (l.array_length e s) (λ n. pure (with_length d n)) (array_length_shows e valid) (λ n. shows_pure (with_length d n) (λ x. with_length_is d n x.0.1 x.1))

  -- each length of an array is at least 1
  pub file_dimensions_show : (lengths : List ExpressionTree) → AreValid (of_each expression_leaves lengths) → Shows whole ⊤ AreLengths (l.dimensions lengths s)
  unfolding l.dimensions
  file_dimensions_show lengths valid =
      shows_as (l.dimensions lengths s) (λ _. (tt, tt)) (λ _ _ is. is)
      (shows_through {Before = ⊤} (λ e. AreValid (expression_leaves e)) (λ _. AreLengths) (l.next_length s) (λ d e rest h. next_length_shows d e h) Scalar lengths (each_length lengths valid))

  -- ---- initial values

  initial_from_shows : (ty : IntegerType) (x : Constancy) (at : ℕ) → Shows whole ⊤ (HasType ty) (g.initial_from ty x at)
  unfolding g.initial_from
  initial_from_shows ty (is.Constant x) at = shows_pure (wrapped ty x.number) (λ _. wrapped-range ty x.number)
  initial_from_shows ty is.Unknown at = shows_pure (pos 0) (λ _. zero_is ty)
  initial_from_shows ty is.NotConstant at =
      shows_then (finds rule.Constant at) (λ _. pure (pos 0)) (shows_broken {Is = λ _. ⊤} rule.Constant at) (λ _. shows_pure (pos 0) (λ _. zero_is ty))

  initial_value_shows : (ty : IntegerType) (e : ExpressionTree) → AreValid (expression_leaves e) → Shows whole ⊤ (HasType ty) (g.initial_value ty e s)
  unfolding g.initial_value
  initial_value_shows ty e valid =
      shows_then (looked s e) (λ _. g.initial_from ty (constancy e) (out-Expression e).offset) (looked_shows e valid)
      (λ _. shows_as (g.initial_from ty (constancy e) (out-Expression e).offset) (λ _. tt) (λ _ _ is. is) (initial_from_shows ty (constancy e) (out-Expression e).offset))

  -- as many values at most as the array has elements, each of its type
  abbrev pub AreInitial : IntegerType → ℕ → List ℤ → Type 0
  AreInitial ty size values = AllByRecursion (HasType ty) values × (length values ≤ size)

  one_shows : {Earlier : Type 0} (ty : IntegerType) (e : ExpressionTree) → AreValid (expression_leaves e) → Shows whole Earlier (AreInitial ty 1) (g.one_value ty e s)
  one_shows ty e valid =
      shows_then (g.initial_value ty e s) (λ x. pure (x ∷ [])) (shows_as (g.initial_value ty e s) (λ _. tt) (λ _ _ is. is) (initial_value_shows ty e valid))
      (λ x. shows_pure (x ∷ []) (λ b. ((b.1, tt), omega arith)))

  -- ---- braces

  -- what stands between braces: as many values at most as the element has elements, and it is gone through
  pub record IsItem (x : g.Item) : Type 0 where
    pub values : (too_many : Bool) (ty : IntegerType) (d : Dimensions) → Shows whole ⊤ (λ values. AreInitial ty (total d) values × (too_many ≡ false)) (x.values too_many ty d)
    pub looked : Shows whole ⊤ (λ _. ⊤) x.looked

  -- so many items before, and no more values than their elements
  abbrev SoFar : IntegerType → ℕ → Dimensions → g.Row → Type 0
  SoFar ty size d row = AreInitial ty (row.0 * total d) row.1 × (row.0 ≤ size)

  zeros_are : (ty : IntegerType) (n : ℕ) → AllByRecursion (HasType ty) (replicate n (pos 0))
  zeros_are ty zero = tt
  zeros_are ty (suc n) = (zero_is ty, zeros_are ty n)

  zeros_count : (n : ℕ) → length (replicate n (pos 0)) ≡ n
  zeros_count zero = refl
  zeros_count (suc n) = ap suc (zeros_count n)

  least_fill : (n m k : ℕ) → m ≤ k → n ≤ k → m + (min n 4096 - m) ≤ k
  least_fill n m k le lt = grind arith

  filled_is : (ty : IntegerType) (n k : ℕ) (values more : List ℤ) (e : ℕ) → n ≤ k → AreInitial ty k values → AreInitial ty e more → AreInitial ty (k + e) (g.filled n values ++ more)
  filled_is ty n k values more e lt h next =
      let zeros = replicate (min n 4096 - length values) (pos 0) in
      let one = length-append values zeros in
      let two = length-append (values ++ zeros) more in
      let m = zeros_count (min n 4096 - length values) in
      let le = least_fill n (length values) k h.1 lt in
      let last = next.1 in
      (all_both (HasType ty) (values ++ zeros) more (all_both (HasType ty) values zeros h.0 (zeros_are ty (min n 4096 - length values))) next.0, omega (arith, one, two, m, le, last))

  next_shows : (ty : IntegerType) (size : ℕ) (d : Dimensions) (row : g.Row) (x : g.Item) → IsItem x → Shows whole (⊤ × SoFar ty size d row) (SoFar ty size d) (g.next_item ty size d row x)
  next_shows ty size d row x h =
      let made : List ℤ → g.Row = λ values. (row.0 + 1, g.filled (times row.0 (elements d)) row.1 ++ values) in
      shows_then (x.values (nat_le size row.0) ty d) (λ values. pure (made values)) (shows_as (x.values (nat_le size row.0) ty d) (λ _. tt) (λ _ _ is. is) (h.values (nat_le size row.0) ty d))
      (λ values. shows_pure (made values)
      (λ b.
      let lt = leb-false size row.0 b.1.1 in
      let few = le_trans (least_first (row.0 * elements d) 0xffff_ffff_ffff_ffff) (same_rows row.0 (elements d) (total d) (elements_most d)) in
      let is = filled_is ty (times row.0 (elements d)) (row.0 * total d) row.1 values (total d) few b.0.1.0 b.1.0 in
      let le = is.1 in
      let e = one_row row.0 (total d) in
      ((is.0, omega (arith, le, e)), omega (arith, lt))))

  row_shows : {Earlier : Type 0} (ty : IntegerType) (size : ℕ) (d : Dimensions) (list : List g.Item) → AllByRecursion IsItem list →
      Shows whole Earlier (AreInitial ty (size * total d)) (g.row_values ty size d list)
  unfolding g.row_values
  row_shows ty size d list all =
      shows_then (through (g.next_item ty size d) (0, []) list) (λ row. pure row.1)
      (shows_as (through (g.next_item ty size d) (0, []) list) (λ _. (tt, ((tt, omega arith), omega arith))) (λ _ _ is. is)
      (shows_through {Before = ⊤} IsItem (λ _. SoFar ty size d) (g.next_item ty size d) (λ row x rest h. next_shows ty size d row x h) (0, []) list all))
      (λ row. shows_pure row.1 (λ b. (b.1.0.0, le_trans b.1.0.1 (more_rows row.0 size (total d) b.1.1))))

  looked_items_show : (list : List g.Item) → AllByRecursion IsItem list → Shows whole ⊤ (λ _. ⊤) (g.looked_items list)
  looked_items_show list all = shows_visited (λ (x : g.Item). x.looked) list (each_looked list all)
    where
      each_looked : (list : List g.Item) → AllByRecursion IsItem list → AllByRecursion (λ (x : g.Item). Shows whole ⊤ (λ _. ⊤) x.looked) list
      each_looked [] all = tt
      each_looked (x ∷ list) all = (all.0.looked, each_looked list all.1)

  refused_item_shows : {Earlier : Type 0} {Seen : List ℤ → Type 0} (at : ℕ) (w : Finds (Unit {0})) → Shows whole ⊤ (λ _. ⊤) w → Shows whole Earlier Seen (g.refused_item at w)
  unfolding g.refused_item
  refused_item_shows at w h =
      shows_then (finds rule.Kind at) (λ _. w >> pure []) (shows_broken {Is = λ _. ⊥} rule.Kind at)
      (λ _. shows_then w (λ _. pure []) (shows_as w (λ _. tt) (λ _ _ is. is) h) (λ _. shows_pure [] (λ b. absurd b.0.1)))

  value_as_shows : {Earlier : Type 0} (e : ExpressionTree) (ty : IntegerType) (d : Dimensions) (b : Bool) → is_scalar d ≡ b → AreValid (expression_leaves e) →
      Shows whole Earlier (AreInitial ty (total d)) (g.value_as e s b ty)
  value_as_shows e ty Scalar true is valid = one_shows ty e valid
  value_as_shows e ty (One a) true is valid = cc
  value_as_shows e ty (Two a b) true is valid = cc
  value_as_shows e ty (Three a b c) true is valid = cc
  value_as_shows e ty d false is valid = refused_item_shows (out-Expression e).offset (looked s e) (looked_shows e valid)

  value_item_is : (e : ExpressionTree) → AreValid (expression_leaves e) → IsItem (record { values = g.value_item e s; looked = looked s e })
  value_item_is e valid = record {
    values = λ too_many ty d.
        shows_then (finds_if too_many rule.Constant (out-Expression e).offset) (λ _. g.value_as e s (is_scalar d) ty) (shows_if too_many rule.Constant (out-Expression e).offset)
        (λ _. shows_as (g.value_as e s (is_scalar d) ty) (λ b. b) (λ _ b is. (is, b.1)) (value_as_shows e ty d (is_scalar d) refl valid));
    looked = looked_shows e valid;
  }

  list_as_shows : {Earlier : Type 0} (list : List g.Item) (at : ℕ) (ty : IntegerType) (d : Dimensions) (b : Bool) → is_scalar d ≡ b → AllByRecursion IsItem list →
      Shows whole Earlier (AreInitial ty (total d)) (g.list_as list at b ty d)
  list_as_shows list at ty d true is all = refused_item_shows at (g.looked_items list) (looked_items_show list all)
  list_as_shows list at ty d false is all =
      shows_as (g.row_values ty (outermost d) (inner d) list) (λ b. b) (λ values _ is_row. subst (λ n. AreInitial ty n values) (rows_total d is) is_row)
      (row_shows ty (outermost d) (inner d) list all)

  list_item_is : (list : List g.Item) (at : ℕ) → AllByRecursion IsItem list → IsItem (record { values = g.list_item list at; looked = g.looked_items list })
  list_item_is list at all = record {
    values = λ too_many ty d.
        shows_then (finds_if too_many rule.Constant at) (λ _. g.list_as list at (is_scalar d) ty d) (shows_if too_many rule.Constant at)
        (λ _. shows_as (g.list_as list at (is_scalar d) ty d) (λ b. b) (λ _ b is. (is, b.1)) (list_as_shows list at ty d (is_scalar d) refl all));
    looked = looked_items_show list all;
  }

  abbrev ClaimInitial : Initial → Type 0
  ClaimInitial x = AreValid (initial_leaves x) → IsItem (g.item s x)

  abbrev SomeInitial : Type 0
  SomeInitial = Such the_family (claims ClaimInitial) member-Initial

  abbrev seen : Initial-F SomeInitial → Initial-F Initial
  seen x = map-Initial SomeInitial Initial (λ e. e.0) x

  each_item : (list : List SomeInitial) → AreValid (all_of (map initial_leaves (map (λ e. e.0) list))) → AllByRecursion IsItem (map (g.item s) (map (λ e. e.0) list))
  each_item [] valid = tt
  each_item (x ∷ list) valid =
      let more = all_of (map initial_leaves (map (λ e. e.0) list)) in
      (x.1 (all_front _ (initial_leaves x.0) more valid), each_item list (all_back _ (initial_leaves x.0) more valid))

  initial_case : (x : Initial-F SomeInitial) → AreValid (initial_layer (map-Initial Initial Leaves initial_leaves (seen x))) →
      IsItem (g.item_step s (map-Initial Initial g.Item (g.item s) (seen x)))
  initial_case (Initial-F.Value e) valid = value_item_is e valid
  initial_case (Initial-F.List list at) valid = list_item_is (map (g.item s) (map (λ e. e.0) list)) at (each_item list valid)

  initial_induct : (x : Initial-F Initial) (t : Initial-F SomeInitial) → seen t ≡ x → ClaimInitial (roll-Initial x)
  initial_induct x t e =
      subst (λ k. ClaimInitial (roll-Initial k)) e
      (λ valid. subst IsItem (sym (fold-roll-Initial g.Item (g.item_step s) (seen t))) (initial_case t (subst AreValid (fold-roll-Initial Leaves initial_layer (seen t)) valid)))

  item_is : (x : Initial) → ClaimInitial x
  item_is = ind-Initial ClaimInitial initial_induct

  items_are : (list : List Initial) → AreValid (of_each initial_leaves list) → AllByRecursion IsItem (map (g.item s) list)
  items_are [] valid = tt
  items_are (x ∷ list) valid =
      (item_is x (all_front _ (initial_leaves x) (of_each initial_leaves list) valid), items_are list (all_back _ (initial_leaves x) (of_each initial_leaves list) valid))

  array_by : (ty : IntegerType) (d : Dimensions) (list : List g.Item) (b : Bool) → is_scalar d ≡ false → AllByRecursion IsItem list →
      Shows whole ⊤ (AreInitial ty (total d)) (if b then g.row_values ty (outermost d) (inner d) list else g.row_values ty (elements d) Scalar list)
  array_by ty d list true is all =
      shows_as (g.row_values ty (outermost d) (inner d) list) (λ b. b) (λ values _ is_row. subst (λ n. AreInitial ty n values) (rows_total d is) is_row)
      (row_shows ty (outermost d) (inner d) list all)
  array_by ty d list false is all =
      shows_as (g.row_values ty (elements d) Scalar list) (λ b. b)
      (λ values _ flat. (flat.0, (let le = flat.1 in let one = mul-one (elements d) in let most = elements_most d in omega (arith, le, one, most))))
      (row_shows ty (elements d) Scalar list all)

  -- ---- initialisers of another form

  initializer_shows : (i : Initializer) → AreValid (initializer_leaves i) → Shows whole ⊤ (λ _. ⊤) (g.looked_through i s)
  initializer_shows (initial_as.Value e) valid = looked_shows e valid
  initializer_shows (initial_as.List list at) valid = looked_items_show (map (g.item s) list) (items_are list valid)
  initializer_shows initial_as.Mutex valid = shows_pure tt (λ _. tt)

  pub refused_shows : (name : Name) (i : Initializer) → AreValid (initializer_leaves i) → Shows whole ⊤ (λ _. ⊥) (g.refused name i s)
  unfolding g.refused
  refused_shows name i valid =
      shows_then (finds rule.Kind name.offset) (λ _. g.looked_through i s) (shows_broken {Is = λ _. ⊥} rule.Kind name.offset)
      (λ _. shows_as (g.looked_through i s) (λ _. tt) (λ _ b _. b.1) (initializer_shows i valid))

  refused_values_show : {Seen : List ℤ → Type 0} (name : Name) (i : Initializer) → AreValid (initializer_leaves i) → Shows whole ⊤ Seen (g.refused_values name i s)
  unfolding g.refused_values
  refused_values_show name i valid = shows_then (g.refused name i s) (λ _. pure []) (refused_shows name i valid) (λ _. shows_pure [] (λ b. absurd b.1))

  initial_of_shows : (name : Name) (ty : IntegerType) (d : Dimensions) (b : Bool) (i : Initializer) → is_scalar d ≡ b → AreValid (initializer_leaves i) →
      Shows whole ⊤ (AreInitial ty (total d)) (g.initial_of name ty d b i s)
  unfolding g.array_values
  initial_of_shows name ty Scalar true (initial_as.Value e) is valid = one_shows ty e valid
  initial_of_shows name ty (One a) true (initial_as.Value e) is valid = cc
  initial_of_shows name ty (Two a b) true (initial_as.Value e) is valid = cc
  initial_of_shows name ty (Three a b c) true (initial_as.Value e) is valid = cc
  initial_of_shows name ty d false (initial_as.List list at) is valid = array_by ty d (map (g.item s) list) (g.is_by_rows list) is (items_are list valid)
  initial_of_shows name ty d true (initial_as.List list at) is valid = refused_values_show name (initial_as.List list at) valid
  initial_of_shows name ty d true initial_as.Mutex is valid = refused_values_show name initial_as.Mutex valid
  initial_of_shows name ty d false (initial_as.Value e) is valid = refused_values_show name (initial_as.Value e) valid
  initial_of_shows name ty d false initial_as.Mutex is valid = refused_values_show name initial_as.Mutex valid

  -- the initial values of a global
  pub initial_shows : (name : Name) (v : Variable) (i : Option Initializer) → AreValid (of_any initializer_leaves i) →
      Shows whole ⊤ (AreInitial (c_type v.ty) (total v.dimensions)) (g.initial name v i s)
  initial_shows name v None valid = shows_pure [] (λ _. (tt, omega arith))
  initial_shows name v (Some i) valid = initial_of_shows name (c_type v.ty) v.dimensions (is_scalar v.dimensions) i refl valid

  -- ---- mutexes that are initialised where they are declared

  -- only a scalar
  scalar_if : (b : Bool) (o : Object) (name : Name) (i : Initializer) → g.is_scalar_mutex o ≡ b → AreValid (initializer_leaves i) → (c : Bool) →
      Shows whole ⊤ (λ (initialised : Bool). initialised ≡ true → is_none o.length ≡ true) (if c && b then pure true else g.refused name i s >> pure false)
  scalar_if true o name i scalar valid true = shows_pure true (λ _ _. (and_parts (same_kind o.kind Mutex) (is_none o.length) scalar).1)
  scalar_if true o name i scalar valid false = shows_then (g.refused name i s) (λ _. pure false) (refused_shows name i valid) (λ _. shows_pure false (λ b. absurd b.1))
  scalar_if false o name i scalar valid true = shows_then (g.refused name i s) (λ _. pure false) (refused_shows name i valid) (λ _. shows_pure false (λ b. absurd b.1))
  scalar_if false o name i scalar valid false = shows_then (g.refused name i s) (λ _. pure false) (refused_shows name i valid) (λ _. shows_pure false (λ b. absurd b.1))

  pub initialised_shows : (o : Object) (name : Name) (i : Option Initializer) → AreValid (of_any initializer_leaves i) →
      Shows whole ⊤ (λ (initialised : Bool). initialised ≡ true → is_none o.length ≡ true) (g.is_initialised o name i s)
  initialised_shows o name None valid = shows_pure false (λ _ h. cc)
  initialised_shows o name (Some i) valid = scalar_if (g.is_scalar_mutex o) o name i refl valid (g.is_mutex_initializer i)
