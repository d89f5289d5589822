-- One kind after another.
use Rattle.std.proofs.Common.{◌≡◌, ◌≢◌, ℕ, suc, ◌<◌, List, [], ◌∷◌, ◌++◌, length, replicate, Bool, true, false, ◌||◌, if◌then◌else◌}
use Rattle.std.proofs.Common.{refl, ap, subst, sym, ◌∙◌, ◌⊎◌, inl, inr, arith}
use Rattle.std.specs.Prelude.{slice_index}
use Rattle.std.specs.List.{Contains}
use Rattle.std.proofs.lemmas.Bool.{cases_eq, cases_Bool, or_left, or_right, or_cases, or_parts}
use Rattle.std.proofs.lemmas.List.{ext_get_or, get_or-replicate, length-replicate}
use Rattle.std.proofs.lemmas.List.Elements.{Contains-append_cases}
use Rattle.std.proofs.lemmas.List.Quantifiers.{all_pairs_push}
use Rattle.lists.proofs.Places.{in_one}
use Rattle.interval_pack.specs.LeftEdge.{IsBefore}
use Rattle.interval_pack.proofs.Unique.{same_numbers}
use Rattle.op_graph.specs.declared.node.Kind.{Kind}
use Rattle.op_graph.specs.declared.node.Node.{Node}
use Rattle.op_graph.specs.Graph.{kind_at, same_kind}
use Rattle.unit_binding.specs.declared.bind.UnitCount.{UnitCount}
use Rattle.unit_binding.specs.Units.{is_listed, AreOnce, WorkTogether, IsPresent, IsGreatestUse, AreUnits, AreCounts, UnitsAgree}
use Rattle.unit_binding.specs.Works.{IsTaken, IsBoundKind, AreBound}
use Rattle.unit_binding.proofs.SameKinds.{same_along, same_back, listed-append, unlisted}

-- what is not done shares units
pub not_done : (s l done : Bool) → done ≡ (if s then l else true) → done ≡ false → s ≡ true
not_done true l done e f = refl
not_done false l done e f = absurd cc

-- and is not listed
pub not_listed : (s l done : Bool) → done ≡ (if s then l else true) → done ≡ false → l ≡ false
not_listed true l done e f = sym e ∙ f
not_listed false l done e f = absurd cc

module _ (nodes : List Node) (starts : List ℕ) where
  pub none_bound : (units : List ℕ) (counts : List UnitCount) → units ≡ replicate (length nodes) 0 → counts ≡ [] → AreBound nodes starts 0 units counts
  none_bound units counts zeros empty = rw (zeros, empty) (record {
    count = length-replicate (length nodes) 0;
    zero_unit = λ i l e. get_or-replicate {A = ℕ} (length nodes) i 0 0 l;
    apart = λ i j l m e b w. absurd cc;
    least = λ j r l e lt. absurd cc;
    listed = λ i l. absurd (omega arith);
    once = λ i j d l m. absurd (omega arith);
    present = λ c h. let l = h.1 in absurd (omega arith);
    greatest = λ c h. let l = h.1 in absurd (omega arith);
  })

  module _ (k : ℕ) (units : List ℕ) (counts : List UnitCount) (are : AreBound nodes starts k units counts) where
    -- the kind of operation k shares no units, or is listed
    pub nothing_new : ((same_kind (kind_at nodes k) (kind_at nodes k) ≡ true) → is_listed counts (kind_at nodes k) ≡ true) → AreBound nodes starts (suc k) units counts
    nothing_new known = record {
      count = are.count;
      zero_unit = are.zero_unit;
      apart = are.apart;
      least = are.least;
      listed = λ i l. listed i l (cases_eq i k);
      once = are.once;
      present = are.present;
      greatest = are.greatest;
    }
      where
        listed : (i : ℕ) → i < suc k → (i ≡ k) ⊎ (i ≡ k → ⊥) → same_kind (kind_at nodes i) (kind_at nodes i) ≡ true → is_listed counts (kind_at nodes i) ≡ true
        listed i l (inl e) s =
            let s' : same_kind (kind_at nodes k) (kind_at nodes k) ≡ true = subst (λ (z : ℕ). same_kind (kind_at nodes z) (kind_at nodes z) ≡ true) e s in
            subst (λ (z : ℕ). is_listed counts (kind_at nodes z) ≡ true) (sym e) (known s')
        listed i l (inr ne) s = let n : i ≢ k = ne in are.listed i (omega arith) s

    pub known_kind : (done : Bool) → done ≡ (if same_kind (kind_at nodes k) (kind_at nodes k) then is_listed counts (kind_at nodes k) else true) → done ≡ true →
        AreBound nodes starts (suc k) units counts
    known_kind done e f = nothing_new (λ s.
        let g : done ≡ is_listed counts (kind_at nodes k) = e ∙ ap (λ (b : Bool). if b then is_listed counts (kind_at nodes k) else true) s in
        sym g ∙ f)

    module _ (place : k < length nodes) (shares : same_kind (kind_at nodes k) (kind_at nodes k) ≡ true) (fresh : is_listed counts (kind_at nodes k) ≡ false)
        (new : List ℕ) (bound : IsBoundKind nodes starts (kind_at nodes k) units new) (count : ℕ) (greatest : IsGreatestUse nodes starts (kind_at nodes k) count)
        (counts' : List UnitCount) (more : counts' ≡ counts ++ (record { kind = kind_at nodes k; count = count }) ∷ []) where
      abbrev kind : Kind
      kind = kind_at nodes k

      abbrev added : UnitCount
      added = record { kind = kind; count = count }

      listed_is : (l : Kind) → is_listed counts' l ≡ (is_listed counts l || same_kind kind l)
      listed_is l = ap (λ (cs : List UnitCount). is_listed cs l) more ∙ listed-append counts added l

      -- two operations at work together are both of the kind, or neither is
      other_too : (i j : ℕ) → WorkTogether nodes starts i j → same_kind kind (kind_at nodes i) ≡ false →
          (same_kind kind (kind_at nodes j) ≡ true) ⊎ (same_kind kind (kind_at nodes j) ≡ false) → same_kind kind (kind_at nodes j) ≡ false
      other_too i j w e (inl f) =
          let back = same_back (kind_at nodes i) (kind_at nodes j) w.0 in
          let g = same_along kind (kind_at nodes j) (kind_at nodes i) f back in
          absurd cc
      other_too i j w e (inr f) = f

      first_of : (a b : Bool) → (a ≡ true) ⊎ (b ≡ true) → b ≡ false → a ≡ true
      first_of a b (inl x) g = x
      first_of a b (inr x) g = absurd cc

      apart : (i j : ℕ) → i < length nodes → j < length nodes → is_listed counts' (kind_at nodes i) ≡ true → IsBefore (slice_index starts) i j → WorkTogether nodes starts i j →
          slice_index new i ≢ slice_index new j
      apart i j li lj listed before together = by_kind (cases_Bool (same_kind kind (kind_at nodes i)))
        where
          by_kind : (same_kind kind (kind_at nodes i) ≡ true) ⊎ (same_kind kind (kind_at nodes i) ≡ false) → slice_index new i ≢ slice_index new j
          by_kind (inl e) = bound.apart i j li lj e before together
          by_kind (inr e) =
              let f = other_too i j together e (cases_Bool (same_kind kind (kind_at nodes j))) in
              let both : (is_listed counts (kind_at nodes i) || same_kind kind (kind_at nodes i)) ≡ true = sym (listed_is (kind_at nodes i)) ∙ listed in
              let old : is_listed counts (kind_at nodes i) ≡ true = first_of _ _ (or_cases (is_listed counts (kind_at nodes i)) (same_kind kind (kind_at nodes i)) both) e in
              let h = are.apart i j li lj old before together in
              λ same. h (sym (bound.others i li e) ∙ (same ∙ bound.others j lj f))

      least : (j r : ℕ) → j < length nodes → is_listed counts' (kind_at nodes j) ≡ true → r < slice_index new j → IsTaken nodes starts new j r
      least j r lj listed lt = by_kind (cases_Bool (same_kind kind (kind_at nodes j)))
        where
          by_kind : (same_kind kind (kind_at nodes j) ≡ true) ⊎ (same_kind kind (kind_at nodes j) ≡ false) → IsTaken nodes starts new j r
          by_kind (inl e) = bound.least j r lj e lt
          by_kind (inr e) =
              let both : (is_listed counts (kind_at nodes j) || same_kind kind (kind_at nodes j)) ≡ true = sym (listed_is (kind_at nodes j)) ∙ listed in
              let old : is_listed counts (kind_at nodes j) ≡ true = first_of _ _ (or_cases (is_listed counts (kind_at nodes j)) (same_kind kind (kind_at nodes j)) both) e in
              let g = bound.others j lj e in
              let w = are.least j r lj old (omega arith) in
              let back : WorkTogether nodes starts j w.0 = (same_back (kind_at nodes w.0) (kind_at nodes j) w.3.0, w.3.2, w.3.1) in
              let f = other_too j w.0 back e (cases_Bool (same_kind kind (kind_at nodes w.0))) in
              (w.0, w.1, w.2, w.3, bound.others w.0 w.1 f ∙ w.4)

      pub one_more : AreBound nodes starts (suc k) new counts'
      one_more = record {
        count = bound.count ∙ are.count;
        zero_unit = λ i l e.
            let both : (is_listed counts (kind_at nodes i) || same_kind kind (kind_at nodes i)) ≡ false = sym (listed_is (kind_at nodes i)) ∙ e in
            let n = or_parts (is_listed counts (kind_at nodes i)) (same_kind kind (kind_at nodes i)) both in
            bound.others i l n.1 ∙ are.zero_unit i l n.0;
        apart = apart;
        least = least;
        listed = λ i l. listed i l (cases_eq i k);
        once = subst AreOnce (sym more)
            (all_pairs_push (λ (c : UnitCount) (d : UnitCount). same_kind c.kind d.kind ≡ false) counts added are.once (unlisted counts kind fresh));
        present = λ c h. present c (by_part c h);
        greatest = λ c h. greatest_of c (by_part c h);
      }
        where
          listed : (i : ℕ) → i < suc k → (i ≡ k) ⊎ (i ≡ k → ⊥) → same_kind (kind_at nodes i) (kind_at nodes i) ≡ true → is_listed counts' (kind_at nodes i) ≡ true
          listed i l (inl e) s =
              let here : is_listed counts' kind ≡ true = listed_is kind ∙ or_right (is_listed counts kind) (same_kind kind kind) shares in
              subst (λ (z : ℕ). is_listed counts' (kind_at nodes z) ≡ true) (sym e) here
          listed i l (inr ne) s =
              let n : i ≢ k = ne in
              listed_is (kind_at nodes i) ∙ or_left (is_listed counts (kind_at nodes i)) (same_kind kind (kind_at nodes i)) (are.listed i (omega arith) s)

          -- a count was there before, or is the one of the kind
          by_part : (c : UnitCount) → Contains counts' c → (Contains counts c) ⊎ (added ≡ c)
          by_part c h = the_last (Contains-append_cases counts (added ∷ []) c (subst (λ (cs : List UnitCount). Contains cs c) more h))
            where
              the_last : (Contains counts c) ⊎ (Contains (added ∷ []) c) → (Contains counts c) ⊎ (added ≡ c)
              the_last (inl x) = inl x
              the_last (inr x) = inr (in_one added c x)

          present : (c : UnitCount) → (Contains counts c) ⊎ (added ≡ c) → IsPresent nodes c.kind
          present c (inl x) = are.present c x
          present c (inr e) = subst (λ (x : UnitCount). IsPresent nodes x.kind) e (k, place, shares)

          greatest_of : (c : UnitCount) → (Contains counts c) ⊎ (added ≡ c) → IsGreatestUse nodes starts c.kind c.count
          greatest_of c (inl x) = are.greatest c x
          greatest_of c (inr e) = subst (λ (x : UnitCount). IsGreatestUse nodes starts x.kind x.count) e greatest

  module _ (units : List ℕ) (counts : List UnitCount) (are : AreBound nodes starts (length nodes) units counts) where
    pub all_units : AreUnits nodes starts units
    all_units = record {
      count = are.count;
      bound = record {
        apart = λ i j li lj before together.
            let back = same_back (kind_at nodes i) (kind_at nodes j) together.0 in
            let shares = same_along (kind_at nodes i) (kind_at nodes j) (kind_at nodes i) together.0 back in
            are.apart i j li lj (are.listed i li shares) before together;
        least = λ j r lj lt. least j r lj lt (cases_Bool (is_listed counts (kind_at nodes j)));
      };
    }
      where
        least : (j r : ℕ) → j < length nodes → r < slice_index units j → (is_listed counts (kind_at nodes j) ≡ true) ⊎ (is_listed counts (kind_at nodes j) ≡ false) →
            IsTaken nodes starts units j r
        least j r lj lt (inl e) = are.least j r lj e lt
        least j r lj lt (inr e) = let z = are.zero_unit j lj e in absurd (omega arith)

    pub all_counts : AreCounts nodes starts counts
    all_counts = record { listed = are.listed; once = are.once; present = are.present; greatest = are.greatest }

pub units_agree : UnitsAgree
units_agree nodes starts u v a b =
    ext_get_or 0 u v (a.count ∙ sym b.count)
    (λ i l. same_numbers (length nodes) (slice_index starts) (WorkTogether nodes starts) (slice_index u) (slice_index v) a.bound b.bound i (let c = a.count in omega arith))
