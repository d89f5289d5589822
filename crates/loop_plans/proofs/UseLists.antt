-- The uses one after another are all uses, and nothing else.
use Rattle.std.proofs.Common.{◌≡◌, ℕ, suc, zero, ◌+◌, ◌*◌, ◌^◌, ◌<◌, ◌≤◌, List, [], ◌∷◌, ◌++◌, length, length-append, take, slice_get}
use Rattle.std.proofs.Common.{Bool, true, false, if◌then◌else◌, nat_eq, Option, Some, None, refl, ap, subst, sym, ◌∙◌, ◌⊎◌, inl, inr, ⊎_elim, arith, add-one}
use Rattle.std.proofs.Common.{append_assoc}
use Rattle.std.specs.List.{Contains}
use Rattle.std.specs.Option.{option_or}
use Rattle.std.proofs.lemmas.List.{append-nil, take_all}
use Rattle.std.proofs.lemmas.List.Elements.{Contains-append_left, Contains-append_right, Contains-append_cases}
use Rattle.lists.proofs.Places.{in_none, in_one, take_next}
use Rattle.block_ir.specs.declared.operand.Source.{Source}
use Rattle.block_ir.specs.declared.operand.Source.TheVariants.{Constant, Variable, Value}
use Rattle.block_ir.specs.declared.block.Operation.{Operation}
use Rattle.block_ir.specs.declared.block.Operation.TheVariants.{Unary, Binary, ReadGlobal, WriteGlobal, ReadArray, WriteArray}
use Rattle.block_ir.specs.declared.block.Final.{Final}
use Rattle.plan_blocks.specs.Alike.{SourceNeedsBelow, FinalsNeedBelow}
use Rattle.loop_pipeline.specs.declared.table.Carried.{Carried}
use Rattle.loop_pipeline.specs.Table.{AreCarried}
use Rattle.loop_plans.specs.declared.carried.Origin.{Origin}
use Rattle.loop_plans.specs.Carried.{last_source, GivenBy, HandedOn, SourceNames, OperationNames, IsUse, AreUses}
use Rattle.loop_plans.specs.Listed.{origin_at, origin_of, carried_use, use_at, use_of, uses_of, uses_from}
use Rattle.loop_plans.proofs.Origins.{origin_is, origin_found, handed_soon}

-- ---- one operand

-- the use of this source by operation `to`
abbrev IsUseOf : List Final → ℕ → Source → Carried → Type 0
IsUseOf finals to s k = (k.to ≡ to) × (x : ℕ) × SourceNames s x × HandedOn finals k.turns x k.from

abbrev IsUseBy : List Final → ℕ → Operation → Carried → Type 0
IsUseBy finals to o k = (k.to ≡ to) × (x : ℕ) × OperationNames o x × HandedOn finals k.turns x k.from

carried_path : (k : Carried) (from to turns : ℕ) → k.from ≡ from → k.to ≡ to → k.turns ≡ turns → k ≡ carried_use from to turns
carried_path k from to turns p q r = λ i. record { from = p i; to = q i; turns = r i }

module _ (finals : List Final) where
  use_sound : (to : ℕ) (s : Source) (k : Carried) → Contains (use_of finals to s) k → IsUseOf finals to s k
  use_sound to (Constant ty v) k h = absurd (in_none k h)
  use_sound to (Variable x ty) k h = by_origin (origin_of finals x) refl h
    where
      by_origin : (o : Option Origin) → origin_of finals x ≡ o → Contains (use_at to o) k → IsUseOf finals to (Variable x ty) k
      by_origin None e c = absurd (in_none k c)
      by_origin (Some o) e c =
          let one : carried_use o.operation to o.turns ≡ k = in_one _ k c in
          (sym (ap (λ (z : Carried). z.to) one), x, refl, subst (λ (z : Carried). HandedOn finals z.turns x z.from) one (origin_is finals x o e))
  use_sound to (Value j ty) k h = absurd (in_none k h)

  use_complete : (to : ℕ) (s : Source) (k : Carried) → IsUseOf finals to s k → Contains (use_of finals to s) k
  use_complete to (Constant ty v) k u = absurd u.2
  use_complete to (Variable y ty) k u =
      let handed : HandedOn finals k.turns y k.from = subst (λ (z : ℕ). HandedOn finals k.turns z k.from) (sym u.2) u.3 in
      let found = origin_found finals k.turns y k.from handed in
      let here : Contains (use_at to (Some (origin_at k.from k.turns))) k =
      (0, omega arith, sym (carried_path k k.from to k.turns refl u.0 refl)) in
      subst (λ (o : Option Origin). Contains (use_at to o) k) (sym found) here
  use_complete to (Value j ty) k u = absurd u.2

  use_few : (to : ℕ) (s : Source) → length (use_of finals to s) ≤ 1
  use_few to (Constant ty v) = omega arith
  use_few to (Variable x ty) = by_origin (origin_of finals x)
    where
      by_origin : (o : Option Origin) → length (use_at to o) ≤ 1
      by_origin None = omega arith
      by_origin (Some o) = omega arith
  use_few to (Value j ty) = omega arith

  -- ---- one operation

  both_sound : (to : ℕ) (s r : Source) (k : Carried) → Contains (use_of finals to s ++ use_of finals to r) k → IsUseOf finals to s k ⊎ IsUseOf finals to r k
  both_sound to s r k h = ⊎_elim (λ c. inl (use_sound to s k c)) (λ c. inr (use_sound to r k c))
      (Contains-append_cases (use_of finals to s) (use_of finals to r) k h)

  either_named : (to : ℕ) (s r : Source) (k : Carried) → IsUseOf finals to s k ⊎ IsUseOf finals to r k →
      (k.to ≡ to) × (x : ℕ) × (SourceNames s x ⊎ SourceNames r x) × HandedOn finals k.turns x k.from
  either_named to s r k (inl u) = (u.0, u.1, inl u.2, u.3)
  either_named to s r k (inr u) = (u.0, u.1, inr u.2, u.3)

  both_complete : (to : ℕ) (s r : Source) (k : Carried) (x : ℕ) → k.to ≡ to → SourceNames s x ⊎ SourceNames r x → HandedOn finals k.turns x k.from →
      Contains (use_of finals to s ++ use_of finals to r) k
  both_complete to s r k x e (inl n) h = Contains-append_left (use_of finals to s) (use_of finals to r) k (use_complete to s k (e, x, n, h))
  both_complete to s r k x e (inr n) h = Contains-append_right (use_of finals to s) (use_of finals to r) k (use_complete to r k (e, x, n, h))

  uses_sound : (to : ℕ) (o : Operation) (k : Carried) → Contains (uses_of finals to o) k → IsUseBy finals to o k
  uses_sound to (Unary operator ty a) k h = use_sound to a.source k h
  uses_sound to (Binary operator ty a b) k h = either_named to a.source b.source k (both_sound to a.source b.source k h)
  uses_sound to (ReadGlobal g n i) k h = use_sound to i.source k h
  uses_sound to (WriteGlobal g n i a) k h = either_named to i.source a.source k (both_sound to i.source a.source k h)
  uses_sound to (ReadArray y n i) k h = use_sound to i.source k h
  uses_sound to (WriteArray y n i a) k h = either_named to i.source a.source k (both_sound to i.source a.source k h)

  uses_complete : (to : ℕ) (o : Operation) (k : Carried) → IsUseBy finals to o k → Contains (uses_of finals to o) k
  uses_complete to (Unary operator ty a) k u = use_complete to a.source k u
  uses_complete to (Binary operator ty a b) k u = both_complete to a.source b.source k u.1 u.0 u.2 u.3
  uses_complete to (ReadGlobal g n i) k u = use_complete to i.source k u
  uses_complete to (WriteGlobal g n i a) k u = both_complete to i.source a.source k u.1 u.0 u.2 u.3
  uses_complete to (ReadArray y n i) k u = use_complete to i.source k u
  uses_complete to (WriteArray y n i a) k u = both_complete to i.source a.source k u.1 u.0 u.2 u.3

  both_few : (to : ℕ) (s r : Source) → length (use_of finals to s ++ use_of finals to r) ≤ 2
  both_few to s r =
      let a = use_few to s in
      let b = use_few to r in
      omega (arith, a, b, length-append (use_of finals to s) (use_of finals to r))

  uses_few : (to : ℕ) (o : Operation) → length (uses_of finals to o) ≤ 2
  uses_few to (Unary operator ty a) = let h = use_few to a.source in omega (arith, h)
  uses_few to (Binary operator ty a b) = both_few to a.source b.source
  uses_few to (ReadGlobal g n i) = let h = use_few to i.source in omega (arith, h)
  uses_few to (WriteGlobal g n i a) = both_few to i.source a.source
  uses_few to (ReadArray y n i) = let h = use_few to i.source in omega (arith, h)
  uses_few to (WriteArray y n i a) = both_few to i.source a.source

  -- ---- all operations

  record IsUseFrom (m : ℕ) (os : List Operation) (k : Carried) : Type 0 where
    place : ℕ
    to : k.to ≡ m + place
    user : Operation
    there : slice_get os place ≡ Some user
    by : IsUseBy finals k.to user k

  all_sound : (os : List Operation) (m : ℕ) (k : Carried) → Contains (uses_from finals m os) k → IsUseFrom m os k
  all_sound [] m k h = absurd (in_none k h)
  all_sound (o ∷ os) m k h = by_part (all_sound os (suc m) k) (Contains-append_cases (uses_of finals m o) (uses_from finals (suc m) os) k h)
    where
      by_part : (Contains (uses_from finals (suc m) os) k → IsUseFrom (suc m) os k) →
          (Contains (uses_of finals m o) k) ⊎ (Contains (uses_from finals (suc m) os) k) → IsUseFrom m (o ∷ os) k
      by_part rest (inl c) =
          let u = uses_sound m o k c in
          record { place = 0; to = omega (arith, u.0); user = o; there = refl; by = (refl, u.1, u.2, u.3) }
      by_part rest (inr c) =
          let u = rest c in
          record { place = suc u.place; to = omega (arith, u.to); user = u.user; there = u.there; by = u.by }

  all_complete : (os : List Operation) (m j : ℕ) (o : Operation) (k : Carried) → slice_get os j ≡ Some o → k.to ≡ m + j → IsUseBy finals k.to o k →
      Contains (uses_from finals m os) k
  all_complete [] m j o k e t u = absurd cc
  all_complete (p ∷ os) m zero o k e t u =
      let same : p ≡ o = cc in
      let n : k.to ≡ m = omega arith in
      let here : Contains (uses_of finals m p) k = subst (λ (z : Operation). Contains (uses_of finals m z) k) (sym same)
      (uses_complete m o k (n, u.1, u.2, u.3)) in
      Contains-append_left (uses_of finals m p) (uses_from finals (suc m) os) k here
  all_complete (p ∷ os) m (suc j) o k e t u =
      Contains-append_right (uses_of finals m p) (uses_from finals (suc m) os) k (all_complete os (suc m) j o k e (omega arith) u)

  all_few : (os : List Operation) (m : ℕ) → length (uses_from finals m os) ≤ 2 * length os
  all_few [] m = omega arith
  all_few (o ∷ os) m =
      let h = all_few os (suc m) in
      let a = uses_few m o in
      omega (arith, h, a, length-append (uses_of finals m o) (uses_from finals (suc m) os))

  pub are_uses : (os : List Operation) (list : List Carried) → list ≡ uses_from finals 0 os → AreUses os finals list
  are_uses os list e = (sound, complete)
    where
      sound : (k : Carried) → Contains list k → IsUse os finals k
      sound k h =
          let u = all_sound os 0 k (subst (λ (l : List Carried). Contains l k) e h) in
          let n : u.place ≡ k.to = omega (arith, u.to) in
          record {
            user = u.user;
            there = subst (λ (j : ℕ). slice_get os j ≡ Some u.user) n u.there;
            variable = u.by.1;
            names = u.by.2;
            handed = u.by.3;
          }

      complete : (k : Carried) → IsUse os finals k → Contains list k
      complete k u =
          subst (λ (l : List Carried). Contains l k) (sym e) (all_complete os 0 k.to u.user k u.there (omega arith) (refl, u.variable, u.names, u.handed))

-- ---- their numbers

source_below : (n : ℕ) (fs : List Final) (x : ℕ) (s : Source) → FinalsNeedBelow n fs → last_source fs x ≡ Some s → SourceNeedsBelow n s
source_below n [] x s below e = absurd cc
source_below n (f ∷ fs) x s below e = by_rest (last_source fs x) (source_below n fs x s below.1) e
  where
    by_name : (b : Bool) → (if b then Some f.value.source else None) ≡ Some s → SourceNeedsBelow n s
    by_name true g = let same : f.value.source ≡ s = cc in subst (λ (z : Source). SourceNeedsBelow n z) same below.0
    by_name false g = absurd cc

    by_rest : (o : Option Source) → (o ≡ Some s → SourceNeedsBelow n s) → option_or o (if nat_eq x f.variable then Some f.value.source else None) ≡ Some s →
        SourceNeedsBelow n s
    by_rest None rest g = by_name (nat_eq x f.variable) g
    by_rest (Some r) rest g = rest g

pub handed_below : (n : ℕ) (finals : List Final) (t x i : ℕ) → FinalsNeedBelow n finals → HandedOn finals t x i → i < n
handed_below n finals zero x i below h = absurd h
handed_below n finals (suc t) x i below h = by_source (λ y k. handed_below n finals t y i below k) (last_source finals x) (source_below n finals x) h
  where
    by_source : ((y : ℕ) → HandedOn finals t y i → i < n) → (s : Option Source) →
        ((r : Source) → FinalsNeedBelow n finals → s ≡ Some r → SourceNeedsBelow n r) →
        GivenBy t (λ z. HandedOn finals t z i) s i → i < n
    by_source rest None known g = absurd g
    by_source rest (Some (Constant ty v)) known g = absurd g
    by_source rest (Some (Variable y ty)) known g = rest y g
    by_source rest (Some (Value j ty)) known g = let l = known (Value j ty) below refl in let e = g.1 in omega (arith, l, e)

some_turn : (finals : List Final) (t x i : ℕ) → HandedOn finals t x i → 1 ≤ t
some_turn finals zero x i h = absurd h
some_turn finals (suc t) x i h = omega arith

pub get_below : (os : List Operation) (k : ℕ) (o : Operation) → slice_get os k ≡ Some o → k < length os
get_below [] k o e = absurd cc
get_below (p ∷ os) zero o e = omega arith
get_below (p ∷ os) (suc k) o e = let h = get_below os k o e in omega arith

pub are_carried : (os : List Operation) (finals : List Final) (list : List Carried) → FinalsNeedBelow (length os) finals → length finals < 2 ^ 32 →
    list ≡ uses_from finals 0 os → AreCarried (length os) list
are_carried os finals list below small e = record {
  each = λ k h.
      (let u = (are_uses finals os list e).0 k h in
      let soon = handed_soon finals k.turns u.variable k.from u.handed in
      record {
        from = handed_below (length os) finals k.turns u.variable k.from below u.handed;
        to = get_below os k.to u.user u.there;
        turns = (some_turn finals k.turns u.variable k.from u.handed, omega (arith, soon, small));
      });
  few = (let h = all_few finals os 0 in rw e (omega (arith, h)));
}

-- ---- one operation more

uses-append : (finals : List Final) (k : ℕ) (os : List Operation) (o : Operation) →
    uses_from finals k (os ++ o ∷ []) ≡ uses_from finals k os ++ uses_of finals (k + length os) o
uses-append finals k [] o =
    let e : k + 0 ≡ k = omega arith in
    append-nil (uses_of finals k o) ∙ ap (λ (n : ℕ). uses_of finals n o) (sym e)
uses-append finals k (x ∷ os) o =
    let e : suc k + length os ≡ k + suc (length os) = omega arith in
    ap (λ (l : List Carried). uses_of finals k x ++ l) (uses-append finals (suc k) os o ∙ ap (λ (n : ℕ). uses_from finals (suc k) os ++ uses_of finals n o) e)
    ∙ sym (append_assoc (uses_of finals k x) (uses_from finals (suc k) os) (uses_of finals (k + suc (length os)) o))

length_taken : (os : List Operation) (i : ℕ) (o : Operation) → slice_get os i ≡ Some o → length (take i os) ≡ i
length_taken [] i o e = absurd cc
length_taken (x ∷ os) zero o e = refl
length_taken (x ∷ os) (suc i) o e = ap suc (length_taken os i o e)

pub uses_next : (finals : List Final) (os : List Operation) (i : ℕ) (o : Operation) (x y : List Carried) → slice_get os i ≡ Some o →
    x ≡ uses_from finals 0 (take i os) → y ≡ x ++ uses_of finals i o → y ≡ uses_from finals 0 (take (i + 1) os)
uses_next finals os i o x y e f g =
    let n : 0 + length (take i os) ≡ i = omega (arith, length_taken os i o e) in
    let same : uses_from finals 0 (take (suc i) os) ≡ uses_from finals 0 (take i os) ++ uses_of finals i o =
    ap (uses_from finals 0) (take_next os i o e) ∙ uses-append finals 0 (take i os) o
    ∙ ap (λ (m : ℕ). uses_from finals 0 (take i os) ++ uses_of finals m o) n in
    rw (add-one, same, g, f) refl

pub uses_whole : (finals : List Final) (os : List Operation) (i : ℕ) (list : List Carried) → length os ≤ i → list ≡ uses_from finals 0 (take i os) →
    list ≡ uses_from finals 0 os
uses_whole finals os i list l e = e ∙ ap (uses_from finals 0) (take_all i os l)
