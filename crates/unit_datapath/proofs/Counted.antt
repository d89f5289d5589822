-- How many lists of results there are, and how long they are.
use Rattle.std.proofs.Common.{◌≡◌, ℕ, zero, suc, ◌+◌, ◌<◌, ◌≤◌, ◌⊎◌, nat_eq, Bool, true, false, not, ◌&&◌, if◌then◌else◌, List, [], ◌∷◌, ◌++◌, length, Some, slice_get, slice_index}
use Rattle.std.proofs.Common.{refl, sym, ap, subst, ◌∙◌, arith, inl, inr, ⊎_elim}
use Rattle.std.proofs.lemmas.Bool.{not-true, and_from, and_parts, eq-eqb}
use Rattle.std.proofs.lemmas.Option.{slice_get-get_or}
use Rattle.lists.proofs.Places.{get_back, get_front, get_either}
use Rattle.hls_ints.specs.Types.{IntegerType, Width, bits, bits_8, bits_16, bits_32, bits_64, width_of, int_type, unsigned_int, long_int, unsigned_long}
use Rattle.c_program.specs.declared.tree.BinaryOperator.{BinaryOperator}
use Rattle.c_program.specs.declared.tree.BinaryOperator.TheVariants as operator
use Rattle.block_ir.specs.declared.code.ThreadCode.{ThreadCode}
use Rattle.block_ir.specs.declared.plan.Planned.{Planned}
use Rattle.planned_block.specs.Block.{IsAmong}
use Rattle.netlist.specs.declared.netlist.Signal.{Signal}
use Rattle.block_datapath.specs.declared.registers.UnitResults.{UnitResults}
use Rattle.block_datapath.specs.Units.{is_for, unit_type, unit_place, same_operator, same_type}
use Rattle.unit_datapath.specs.declared.kinds.UnitKind.{UnitKind}
use Rattle.unit_datapath.specs.declared.inputs.UnitInputs.{UnitInputs}
use Rattle.unit_datapath.specs.declared.units.UnitCounts.{UnitCounts}
use Rattle.unit_datapath.specs.Kinds.{is_of}
use Rattle.unit_datapath.specs.Counts.{IsCountOf}
use Rattle.unit_datapath.specs.Units.{HasUnit, IsOperatorCount, AreCounted, AreCountsOf, AreOnce, IsLaid}
use Rattle.unit_datapath.proofs.UnitKinds.{type_same}
use Rattle.unit_datapath.proofs.UnitsLaid.{only_get}
use Rattle.unit_datapath.proofs.UnitValues.{type_is, operator_is}

-- a list is as long as the numbers of the units ask for
abbrev pub IsLongEnough : ThreadCode → Planned → UnitResults → Type 0
IsLongEnough code plan u = (0 < length u.places) × IsCountOf (HasUnit code plan u.operator u.ty) (length u.places)

-- ---- lists that are there once

only_place : {A : Type 0} (v u : A) (x : ℕ) → slice_get (v ∷ []) x ≡ Some u → x ≡ 0
only_place v u zero e = refl
only_place v u (suc x) e = absurd cc

split_at : {A : Type 0} (xs ys : List A) (x : ℕ) (u : A) → slice_get (xs ++ ys) x ≡ Some u →
    (slice_get xs x ≡ Some u) ⊎ ((y : ℕ) × (x ≡ length xs + y) × (slice_get ys y ≡ Some u))
split_at [] ys x u e = inr (x, (let same : x ≡ 0 + x = omega arith in same), e)
split_at (z ∷ xs) ys zero u e = inl e
split_at (z ∷ xs) ys (suc x) u e =
    ⊎_elim (λ (f : slice_get xs x ≡ Some u). inl f)
    (λ (f : (y : ℕ) × (x ≡ length xs + y) × (slice_get ys y ≡ Some u)).
    inr (f.0, (let at = f.1 in let same : suc x ≡ suc (length xs) + f.0 = omega arith in same), f.2))
    (split_at xs ys x u e)

once_both : (xs ys : List UnitResults) → AreOnce xs → AreOnce ys →
    ((x y : ℕ) (u v : UnitResults) → slice_get xs x ≡ Some u → slice_get ys y ≡ Some v → u.operator ≡ v.operator → u.ty ≡ v.ty → ⊥) → AreOnce (xs ++ ys)
once_both xs ys t u apart x y v w e f o s =
    ⊎_elim
    (λ (p : slice_get xs x ≡ Some v).
    ⊎_elim (λ (q : slice_get xs y ≡ Some w). t x y v w p q o s)
    (λ (q : (k : ℕ) × (y ≡ length xs + k) × (slice_get ys k ≡ Some w)). absurd (apart x q.0 v w p q.2 o s)) (split_at xs ys y w f))
    (λ (p : (k : ℕ) × (x ≡ length xs + k) × (slice_get ys k ≡ Some v)).
    ⊎_elim (λ (q : slice_get xs y ≡ Some w). absurd (apart y p.0 w v q p.2 (sym o) (sym s)))
    (λ (q : (k : ℕ) × (y ≡ length xs + k) × (slice_get ys k ≡ Some w)). p.1 ∙ ap (λ (k : ℕ). length xs + k) (u p.0 q.0 v w p.2 q.2 o s) ∙ sym q.1) (split_at xs ys y w f))
    (split_at xs ys x v e)

-- ---- the counts of a kind

pub counts_made : (code : ThreadCode) (plan : Planned) (kind : UnitKind) (products quotients remainders both most : ℕ) → IsOperatorCount code plan kind operator.Multiply products →
    IsOperatorCount code plan kind operator.Divide quotients → IsOperatorCount code plan kind operator.Remainder remainders → products ≤ both → quotients ≤ both → both ≤ most →
    remainders ≤ most → AreCountsOf code plan kind (record { products = products; quotients = quotients; remainders = remainders; most = most })
counts_made code plan kind products quotients remainders both most t u v p q b r = record {
  products = t;
  quotients = u;
  remainders = v;
  products_most = omega (arith, p, b);
  quotients_most = omega (arith, q, b);
  remainders_most = r;
  none = λ e. (omega (arith, p, b, e), omega (arith, q, b, e), omega (arith, r, e));
}

-- ---- a kind

module _ (code : ThreadCode) (plan : Planned) (kind : UnitKind) where
  -- the list of one operator
  pub record IsCounted (operator : BinaryOperator) (more : List UnitResults) : Type 0 where
    pub each : (x : ℕ) (u : UnitResults) → slice_get more x ≡ Some u → (u.ty ≡ kind.ty) × (is_of kind u.operator kind.ty ≡ true) × IsLongEnough code plan u
    pub own : (x : ℕ) (u : UnitResults) → slice_get more x ≡ Some u → u.operator ≡ operator
    pub once : AreOnce more
    pub all : (n : ℕ) → is_of kind operator kind.ty ≡ true → HasUnit code plan operator kind.ty n →
        (x : ℕ) × (u : UnitResults) × (slice_get more x ≡ Some u) × (u.operator ≡ operator)

  pub one_counted : (operator : BinaryOperator) (n : ℕ) (d e : List Signal) (c : UnitInputs) (more : List UnitResults) → IsOperatorCount code plan kind operator n →
      IsLaid d e c operator kind.ty n more → IsCounted operator more
  one_counted operator n d e c [] count laid = record {
    each = λ x u f. absurd cc;
    own = λ x u f. absurd cc;
    once = λ x y u v f. absurd cc;
    all = λ k of_kind has. absurd (let less = (count.counted of_kind).above k has in let none = laid.0 in omega (arith, less, none));
  }
  one_counted operator n d e c (u ∷ v ∷ us) count laid = absurd laid
  one_counted operator n d e c (u ∷ []) count laid = record {
    each = λ x w f. subst (λ (z : UnitResults). (z.ty ≡ kind.ty) × (is_of kind z.operator kind.ty ≡ true) × IsLongEnough code plan z) (only_get u w x f) own;
    own = λ x w f. ap (λ (z : UnitResults). z.operator) (sym (only_get u w x f)) ∙ laid.0;
    once = λ x y v w f g o t. only_place u v x f ∙ sym (only_place u w y g);
    all = λ k of_kind has. (0, u, refl, laid.0);
  }
    where
      yes : is_of kind operator kind.ty ≡ true
      yes = count.of_kind laid.2

      long : length u.places ≡ n
      long = laid.3.count

      own : (u.ty ≡ kind.ty) × (is_of kind u.operator kind.ty ≡ true) × IsLongEnough code plan u
      own = (
        laid.1,
        subst (λ (z : BinaryOperator). is_of kind z kind.ty ≡ true) (sym laid.0) yes,
        (
          subst (λ (z : ℕ). 0 < z) (sym long) laid.2,
          subst (λ (z : ℕ). IsCountOf (HasUnit code plan u.operator u.ty) z) (sym long)
              (subst (λ (z : BinaryOperator). IsCountOf (HasUnit code plan z u.ty) n) (sym laid.0)
              (subst (λ (z : IntegerType). IsCountOf (HasUnit code plan operator z) n) (sym laid.1) (count.counted yes))),
        ),
      )

  pub kind_counted : (first second third : List UnitResults) → IsCounted operator.Multiply first → IsCounted operator.Divide second → IsCounted operator.Remainder third →
      AreCounted code plan kind ((first ++ second) ++ third)
  kind_counted first second third t u v = record {
    of_kind = λ x w f. let own = each x w f in (own.0, own.1);
    counted = λ x w f. (each x w f).2;
    once = once_both (first ++ second) third (once_both first second t.once u.once two_apart) v.once three_apart;
    all = λ o n of_kind has. found o n of_kind has;
  }
    where
      two_apart : (x y : ℕ) (k l : UnitResults) → slice_get first x ≡ Some k → slice_get second y ≡ Some l → k.operator ≡ l.operator → k.ty ≡ l.ty → ⊥
      two_apart x y k l p q o s = let e : operator.Multiply ≡ operator.Divide = sym (t.own x k p) ∙ o ∙ u.own y l q in cc

      three_apart : (x y : ℕ) (k l : UnitResults) → slice_get (first ++ second) x ≡ Some k → slice_get third y ≡ Some l → k.operator ≡ l.operator → k.ty ≡ l.ty → ⊥
      three_apart x y k l p q o s =
          ⊎_elim
          (λ (f : slice_get first x ≡ Some k). (let e : operator.Multiply ≡ operator.Remainder = sym (t.own x k f) ∙ o ∙ v.own y l q in (let g : ⊥ = cc in g)))
          (λ (f : (z : ℕ) × (slice_get second z ≡ Some k)). (let e : operator.Divide ≡ operator.Remainder = sym (u.own f.0 k f.1) ∙ o ∙ v.own y l q in (let g : ⊥ = cc in g)))
          (get_either first second x k p)

      each : (x : ℕ) (w : UnitResults) → slice_get ((first ++ second) ++ third) x ≡ Some w → (w.ty ≡ kind.ty) × (is_of kind w.operator kind.ty ≡ true) × IsLongEnough code plan w
      each x w f =
          ⊎_elim
          (λ (g : slice_get (first ++ second) x ≡ Some w).
          ⊎_elim (λ (h : slice_get first x ≡ Some w). t.each x w h) (λ (h : (y : ℕ) × (slice_get second y ≡ Some w)). u.each h.0 w h.1) (get_either first second x w g))
          (λ (g : (y : ℕ) × (slice_get third y ≡ Some w)). v.each g.0 w g.1)
          (get_either (first ++ second) third x w f)

      found : (o : BinaryOperator) (n : ℕ) → is_of kind o kind.ty ≡ true → HasUnit code plan o kind.ty n →
          (x : ℕ) × (w : UnitResults) × (slice_get ((first ++ second) ++ third) x ≡ Some w) × (w.operator ≡ o)
      found operator.Multiply n of_kind has =
          let one = t.all n of_kind has in
          (one.0, one.1, get_front (first ++ second) third one.0 one.1 (get_front first second one.0 one.1 one.2), one.3)
      found operator.Divide n of_kind has =
          let one = u.all n of_kind has in
          (length first + one.0, one.1, get_front (first ++ second) third (length first + one.0) one.1 (get_back first second one.0 one.1 one.2), one.3)
      found operator.Remainder n of_kind has =
          let one = v.all n of_kind has in
          (length (first ++ second) + one.0, one.1, get_back (first ++ second) third one.0 one.1 one.2, one.3)
      found operator.Add n of_kind has = absurd cc
      found operator.Subtract n of_kind has = absurd cc
      found operator.ShiftLeft n of_kind has = absurd cc
      found operator.ShiftRight n of_kind has = absurd cc
      found operator.Less n of_kind has = absurd cc
      found operator.Greater n of_kind has = absurd cc
      found operator.LessEqual n of_kind has = absurd cc
      found operator.GreaterEqual n of_kind has = absurd cc
      found operator.Equal n of_kind has = absurd cc
      found operator.NotEqual n of_kind has = absurd cc
      found operator.And n of_kind has = absurd cc
      found operator.ExclusiveOr n of_kind has = absurd cc
      found operator.InclusiveOr n of_kind has = absurd cc

  pub none_counted : (counts : UnitCounts) → AreCountsOf code plan kind counts → counts.most ≡ 0 → AreCounted code plan kind []
  none_counted counts t none = record {
    of_kind = λ x u f. absurd cc;
    counted = λ x u f. absurd cc;
    once = λ x y u v f. absurd cc;
    all = λ o n of_kind has. absurd (missing o n of_kind has);
  }
    where
      zeros : (counts.products ≡ 0) × (counts.quotients ≡ 0) × (counts.remainders ≡ 0)
      zeros = t.none none

      missing : (o : BinaryOperator) (n : ℕ) → is_of kind o kind.ty ≡ true → HasUnit code plan o kind.ty n → ⊥
      missing operator.Multiply n of_kind has = (let less = (t.products.counted of_kind).above n has in let e = zeros.0 in omega (arith, less, e))
      missing operator.Divide n of_kind has = (let less = (t.quotients.counted of_kind).above n has in let e = zeros.1 in omega (arith, less, e))
      missing operator.Remainder n of_kind has = (let less = (t.remainders.counted of_kind).above n has in let e = zeros.2 in omega (arith, less, e))
      missing operator.Add n of_kind has = absurd cc
      missing operator.Subtract n of_kind has = absurd cc
      missing operator.ShiftLeft n of_kind has = absurd cc
      missing operator.ShiftRight n of_kind has = absurd cc
      missing operator.Less n of_kind has = absurd cc
      missing operator.Greater n of_kind has = absurd cc
      missing operator.LessEqual n of_kind has = absurd cc
      missing operator.GreaterEqual n of_kind has = absurd cc
      missing operator.Equal n of_kind has = absurd cc
      missing operator.NotEqual n of_kind has = absurd cc
      missing operator.And n of_kind has = absurd cc
      missing operator.ExclusiveOr n of_kind has = absurd cc
      missing operator.InclusiveOr n of_kind has = absurd cc

-- ---- kinds

same_kinds : (k l : UnitKind) → k.divides ≡ l.divides → k.ty ≡ l.ty → k ≡ l
same_kinds k l d e = ap (λ (b : Bool). record { divides = b; ty = k.ty }) d ∙ ap (λ (t : IntegerType). record { divides = l.divides; ty = t }) e

-- two kinds of one type that have an operator are the same
kind_same : (k l : UnitKind) (o : BinaryOperator) → k.ty ≡ l.ty → is_of k o k.ty ≡ true → is_of l o l.ty ≡ true → k ≡ l
kind_same k l operator.Multiply e p q =
    same_kinds k l
    (not-true k.divides (and_parts (not k.divides) (same_type k.ty (unit_type operator.Multiply k.ty)) p).0
    ∙ sym (not-true l.divides (and_parts (not l.divides) (same_type l.ty (unit_type operator.Multiply l.ty)) q).0)) e
kind_same k l operator.Divide e p q = same_kinds k l ((and_parts k.divides (same_type k.ty k.ty) p).0 ∙ sym (and_parts l.divides (same_type l.ty l.ty) q).0) e
kind_same k l operator.Remainder e p q = same_kinds k l ((and_parts k.divides (same_type k.ty k.ty) p).0 ∙ sym (and_parts l.divides (same_type l.ty l.ty) q).0) e
kind_same k l operator.Add e p q = absurd cc
kind_same k l operator.Subtract e p q = absurd cc
kind_same k l operator.ShiftLeft e p q = absurd cc
kind_same k l operator.ShiftRight e p q = absurd cc
kind_same k l operator.Less e p q = absurd cc
kind_same k l operator.Greater e p q = absurd cc
kind_same k l operator.LessEqual e p q = absurd cc
kind_same k l operator.GreaterEqual e p q = absurd cc
kind_same k l operator.Equal e p q = absurd cc
kind_same k l operator.NotEqual e p q = absurd cc
kind_same k l operator.And e p q = absurd cc
kind_same k l operator.ExclusiveOr e p q = absurd cc
kind_same k l operator.InclusiveOr e p q = absurd cc

-- a number of its own for each of the six kinds
abbrev pub number : UnitKind → ℕ
number k = (if k.divides then 1 else 0) + ((if k.ty.signed then 2 else 0) + width_of k.ty)

abbrev pub all_differ : List UnitKind → UnitKind → Bool
all_differ [] k = true
all_differ (y ∷ ys) k = not (nat_eq (number k) (number y)) && all_differ ys k

pub not_among : (kinds : List UnitKind) (k : UnitKind) → all_differ kinds k ≡ true → IsAmong kinds k → ⊥
not_among [] k e h = h
not_among (y ∷ ys) k e h =
    ⊎_elim
    (λ (s : k ≡ y).
    let same : nat_eq (number k) (number y) ≡ true = ap (λ (z : UnitKind). nat_eq (number k) (number z)) (sym s) ∙ eq-eqb (number k) (number k) refl in
    let other : nat_eq (number k) (number y) ≡ false = not-true (nat_eq (number k) (number y)) (and_parts (not (nat_eq (number k) (number y))) (all_differ ys k) e).0 in
    (let g : ⊥ = cc in g))
    (λ (r : IsAmong ys k). not_among ys k (and_parts (not (nat_eq (number k) (number y))) (all_differ ys k) e).1 r)
    h

-- results are those of one of these kinds
abbrev pub IsOfOne : List UnitKind → UnitResults → Type 0
IsOfOne kinds u = (k : UnitKind) × IsAmong kinds k × (u.ty ≡ k.ty) × (is_of k u.operator k.ty ≡ true)

module _ (code : ThreadCode) (plan : Planned) where
  pub record AreAllCounted (kinds : List UnitKind) (results : List UnitResults) : Type 0 where
    pub own : (x : ℕ) (u : UnitResults) → slice_get results x ≡ Some u → IsOfOne kinds u
    pub once : AreOnce results
    pub each : (x : ℕ) (u : UnitResults) → slice_get results x ≡ Some u → IsLongEnough code plan u
    pub all : (kind : UnitKind) (o : BinaryOperator) (n : ℕ) → IsAmong kinds kind → is_of kind o kind.ty ≡ true → HasUnit code plan o kind.ty n →
        (x : ℕ) × (u : UnitResults) × (slice_get results x ≡ Some u) × (u.operator ≡ o) × (u.ty ≡ kind.ty)

  pub all_none : (results : List UnitResults) → results ≡ [] → AreAllCounted [] results
  all_none results none = record {
    own = λ x u f. absurd (let g = ap (λ (l : List UnitResults). slice_get l x) none in cc);
    once = λ x y u v f. absurd (let g = ap (λ (l : List UnitResults). slice_get l x) none in cc);
    each = λ x u f. absurd (let g = ap (λ (l : List UnitResults). slice_get l x) none in cc);
    all = λ kind o n among of_kind has. absurd among;
  }

  pub all_more : (kinds : List UnitKind) (kind : UnitKind) (xs ys : List UnitResults) → AreAllCounted kinds xs → AreCounted code plan kind ys → (IsAmong kinds kind → ⊥) →
      AreAllCounted (kind ∷ kinds) (xs ++ ys)
  all_more kinds kind xs ys t u fresh = record {
    own = λ x w f.
        ⊎_elim
        (λ (g : slice_get xs x ≡ Some w). let k = t.own x w g in (k.0, inr k.1, k.2, k.3))
        (λ (g : (y : ℕ) × (slice_get ys y ≡ Some w)). let k = u.of_kind g.0 w g.1 in (kind, inl refl, k.0, k.1))
        (get_either xs ys x w f);
    once = once_both xs ys t.once u.once
        (λ x y v w p q o s.
        let k = t.own x v p in
        let own = u.of_kind y w q in
        fresh
        (subst (λ (z : UnitKind). IsAmong kinds z)
        (kind_same k.0 kind v.operator (sym k.2 ∙ s ∙ own.0) k.3 (subst (λ (z : BinaryOperator). is_of kind z kind.ty ≡ true) (sym o) own.1)) k.1));
    each = λ x w f.
        ⊎_elim (λ (g : slice_get xs x ≡ Some w). t.each x w g) (λ (g : (y : ℕ) × (slice_get ys y ≡ Some w)). u.counted g.0 w g.1) (get_either xs ys x w f);
    all = λ k o n among of_kind has.
        ⊎_elim
        (λ (same : k ≡ kind).
        let own = u.all o n (subst (λ (z : UnitKind). is_of z o z.ty ≡ true) same of_kind) (subst (λ (z : UnitKind). HasUnit code plan o z.ty n) same has) in
        (length xs + own.0, own.1, get_back xs ys own.0 own.1 own.2, own.3, (u.of_kind own.0 own.1 own.2).0 ∙ ap (λ (z : UnitKind). z.ty) (sym same)))
        (λ (rest : IsAmong kinds k).
        let own = t.all k o n rest of_kind has in
        (own.0, own.1, get_front xs ys own.0 own.1 own.2, own.3, own.4))
        among;
  }

  -- an operator and a type have a list that is long enough: the first one is
  pub place_there : (us : List UnitResults) (o : BinaryOperator) (ty : IntegerType) (n x : ℕ) (u : UnitResults) → slice_get us x ≡ Some u → is_for o ty u ≡ true →
      ((y : ℕ) (w : UnitResults) → slice_get us y ≡ Some w → is_for o ty w ≡ true → n < length w.places) → (place : ℕ) × (unit_place us o ty n ≡ Some place)
  place_there [] o ty n x u e is long = absurd cc
  place_there (v ∷ us) o ty n x u e is long = by_first (is_for o ty v) refl (λ k f. place_there us o ty n k u f is (λ y w g h. long (suc y) w g h))
    where
      rest : (k : ℕ) → x ≡ k → is_for o ty v ≡ false → ((j : ℕ) → slice_get us j ≡ Some u → (place : ℕ) × (unit_place us o ty n ≡ Some place)) →
          (place : ℕ) × (unit_place us o ty n ≡ Some place)
      rest zero at f later = absurd (let same : v ≡ u = (let g = subst (λ (z : ℕ). slice_get (v ∷ us) z ≡ Some u) at e in cc) in let h : is_for o ty v
          ≡ true = ap (is_for o ty) same ∙ is in cc)
      rest (suc k) at f later = later k (subst (λ (z : ℕ). slice_get (v ∷ us) z ≡ Some u) at e)

      by_first : (t : Bool) → is_for o ty v ≡ t → ((j : ℕ) → slice_get us j ≡ Some u → (place : ℕ) × (unit_place us o ty n ≡ Some place)) →
          (place : ℕ) × (unit_place (v ∷ us) o ty n ≡ Some place)
      by_first true f later =
          (slice_index v.places n, ap (λ (z : Bool). if z then slice_get v.places n else unit_place us o ty n) f ∙ slice_get-get_or v.places n 0 (long 0 v refl f))
      by_first false f later =
          let more = rest x refl f later in
          (more.0, ap (λ (z : Bool). if z then slice_get v.places n else unit_place us o ty n) f ∙ more.1)

  is_for_own : (o : BinaryOperator) (ty : IntegerType) (u : UnitResults) → u.operator ≡ o → u.ty ≡ unit_type o ty → same_operator o o ≡ true → is_for o ty u ≡ true
  is_for_own o ty u e f s =
      and_from (same_operator u.operator o) (same_type u.ty (unit_type o ty)) (subst (λ (z : BinaryOperator). same_operator z o ≡ true) (sym e) s)
      (subst (λ (z : IntegerType). same_type z (unit_type o ty) ≡ true) (sym f) (type_same (unit_type o ty)))

  -- an operation whose kind is among these finds its result
  pub unit_found : (kinds : List UnitKind) (results : List UnitResults) (kind : UnitKind) (o : BinaryOperator) (ty : IntegerType) (n : ℕ) → AreAllCounted kinds results →
      IsAmong kinds kind →
      same_operator o o ≡ true → kind.ty ≡ unit_type o ty → is_of kind o kind.ty ≡ true → HasUnit code plan o (unit_type o ty) n →
      (place : ℕ) × (unit_place results o ty n ≡ Some place)
  unit_found kinds results kind o ty n t among s same of_kind has =
      let own = t.all kind o n among of_kind (subst (λ (z : IntegerType). HasUnit code plan o z n) (sym same) has) in
      place_there results o ty n own.0 own.1 own.2 (is_for_own o ty own.1 own.3 (own.4 ∙ same) s)
      (λ y w f made.
      let one : w.operator ≡ o = operator_is w.operator o (and_parts (same_operator w.operator o) (same_type w.ty (unit_type o ty)) made).0 in
      let two : w.ty ≡ unit_type o ty = type_is w.ty (unit_type o ty) (and_parts (same_operator w.operator o) (same_type w.ty (unit_type o ty)) made).1 in
      (t.each y w f).1.above n
      (subst (λ (z : BinaryOperator). HasUnit code plan z w.ty n) (sym one) (subst (λ (z : IntegerType). HasUnit code plan o z n) (sym two) has)))

-- ---- the six kinds

abbrev pub kind_for : Bool → IntegerType → UnitKind
kind_for divides ty = record { divides = divides; ty = ty }

abbrev pub six_kinds : List UnitKind
six_kinds =
    kind_for true unsigned_long ∷ kind_for true long_int ∷ kind_for true unsigned_int ∷ kind_for true int_type ∷ kind_for false unsigned_long ∷ kind_for false unsigned_int ∷ []

module _ (code : ThreadCode) (plan : Planned) (results : List UnitResults) (t : AreAllCounted code plan six_kinds results) where
  abbrev Found : BinaryOperator → IntegerType → ℕ → Type 0
  Found o ty n = (place : ℕ) × (unit_place results o ty n ≡ Some place)

  product_found : (w : Width) (signed : Bool) (n : ℕ) → (bits w ≡ 32) ⊎ (bits w ≡ 64) → HasUnit code plan operator.Multiply (record { width = w; signed = false }) n →
      Found operator.Multiply (record { width = w; signed = signed }) n
  product_found bits_32 signed n wide has =
      unit_found code plan six_kinds results (kind_for false unsigned_int) operator.Multiply (record { width = bits_32; signed = signed }) n t
      (inr (inr (inr (inr (inr (inl refl)))))) refl refl refl has
  product_found bits_64 signed n wide has =
      unit_found code plan six_kinds results (kind_for false unsigned_long) operator.Multiply (record { width = bits_64; signed = signed }) n t
      (inr (inr (inr (inr (inl refl))))) refl refl refl has
  product_found bits_8 signed n wide has = absurd (⊎_elim (λ (e : 8 ≡ 32). (let f : ⊥ = omega (arith, e) in f)) (λ (e : 8 ≡ 64). (let f : ⊥ = omega (arith, e) in f)) wide)
  product_found bits_16 signed n wide has = absurd (⊎_elim (λ (e : 16 ≡ 32). (let f : ⊥ = omega (arith, e) in f)) (λ (e : 16 ≡ 64). (let f : ⊥ = omega (arith, e) in f)) wide)

  quotient_found : (o : BinaryOperator) (w : Width) (signed : Bool) (n : ℕ) → same_operator o o ≡ true → ((ty : IntegerType) → unit_type o ty ≡ ty) →
      ((ty : IntegerType) → is_of (kind_for true ty) o ty ≡ true) → (bits w ≡ 32) ⊎ (bits w ≡ 64) → HasUnit code plan o (unit_type o (record { width = w; signed = signed })) n →
      Found o (record { width = w; signed = signed }) n
  quotient_found o bits_32 true n s own of_kind wide has =
      unit_found code plan six_kinds results (kind_for true int_type) o int_type n t (inr (inr (inr (inl refl)))) s (sym (own int_type)) (of_kind int_type) has
  quotient_found o bits_32 false n s own of_kind wide has =
      unit_found code plan six_kinds results (kind_for true unsigned_int) o unsigned_int n t (inr (inr (inl refl))) s (sym (own unsigned_int)) (of_kind unsigned_int) has
  quotient_found o bits_64 true n s own of_kind wide has =
      unit_found code plan six_kinds results (kind_for true long_int) o long_int n t (inr (inl refl)) s (sym (own long_int)) (of_kind long_int) has
  quotient_found o bits_64 false n s own of_kind wide has =
      unit_found code plan six_kinds results (kind_for true unsigned_long) o unsigned_long n t (inl refl) s (sym (own unsigned_long)) (of_kind unsigned_long) has
  quotient_found o bits_8 signed n s own of_kind wide has = absurd (⊎_elim (λ (e : 8 ≡ 32). (let f : ⊥ = omega (arith, e) in f))
      (λ (e : 8 ≡ 64). (let f : ⊥ = omega (arith, e) in f)) wide)
  quotient_found o bits_16 signed n s own of_kind wide has = absurd (⊎_elim (λ (e : 16 ≡ 32). (let f : ⊥ = omega (arith, e) in f))
      (λ (e : 16 ≡ 64). (let f : ⊥ = omega (arith, e) in f)) wide)

  pub all_found : (o : BinaryOperator) (ty : IntegerType) (n : ℕ) → (width_of ty ≡ 32) ⊎ (width_of ty ≡ 64) → same_operator o o ≡ true → HasUnit code plan o (unit_type o ty) n →
      Found o ty n
  all_found operator.Multiply ty n wide s has = product_found ty.width ty.signed n wide has
  all_found operator.Divide ty n wide s has = quotient_found operator.Divide ty.width ty.signed n refl (λ k. refl) (λ k. type_same k) wide has
  all_found operator.Remainder ty n wide s has = quotient_found operator.Remainder ty.width ty.signed n refl (λ k. refl) (λ k. type_same k) wide has
  all_found operator.Add ty n wide s has = absurd cc
  all_found operator.Subtract ty n wide s has = absurd cc
  all_found operator.ShiftLeft ty n wide s has = absurd cc
  all_found operator.ShiftRight ty n wide s has = absurd cc
  all_found operator.Less ty n wide s has = absurd cc
  all_found operator.Greater ty n wide s has = absurd cc
  all_found operator.LessEqual ty n wide s has = absurd cc
  all_found operator.GreaterEqual ty n wide s has = absurd cc
  all_found operator.Equal ty n wide s has = absurd cc
  all_found operator.NotEqual ty n wide s has = absurd cc
  all_found operator.And ty n wide s has = absurd cc
  all_found operator.ExclusiveOr ty n wide s has = absurd cc
  all_found operator.InclusiveOr ty n wide s has = absurd cc
