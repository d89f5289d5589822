-- Events of a run, some of which are done at once, in an order that keeps those of one place.
use Rattle.std.specs.Prelude.{◌⊎◌, Bool, true, false, ◌||◌, if◌then◌else◌, ℤ}
use Rattle.std.proofs.Common.{inr, ◌≡◌, ◌≢◌, ℕ, zero, suc, ◌+◌, ◌<◌, ◌≤◌, List, [], ◌∷◌, ◌++◌, refl, sym, ap, ◌∙◌, subst, ⊎_elim, inl, arith, append_assoc, append-nil}
use Rattle.std.proofs.lemmas.Bool.{cases_eq, or_parts}
use Rattle.std.proofs.Math.Bool.{or-false}
use Rattle.interleaving.specs.Memory.{Location, Memory, Access, memory_after, Touches, AreApart}
use Rattle.interleaving.specs.AnyOrder.{Event, accesses_in, ReadsRight, Remains}
use Rattle.interleaving.proofs.Accesses.{touches_left, touches_right}
use Rattle.interleaving.proofs.Apart.{apart_swap, apart_join}
use Rattle.interleaving.proofs.AnyOrder.{accesses_in-append, remains_one}
use Rattle.interleaving.proofs.Update.{at, at_same, at_other}
use Rattle.planned_block.specs.InFlight.{events_but}
use Rattle.planned_block.specs.Run.{events_from}

-- those that pass
abbrev pub events_where : (ℕ → List (Event ℤ)) → (ℕ → Bool) → ℕ → ℕ → List (Event ℤ)
events_where ev f zero n = []
events_where ev f (suc r) n = (if f n then ev n else []) ++ events_where ev f r (suc n)

abbrev pub IsOne : List (Event ℤ) → Type 0
IsOne es = (es ≡ []) ⊎ ((a : Event ℤ) × (es ≡ a ∷ []))

module _ (ev : ℕ → List (Event ℤ)) where
  pub undone_same : (d e : ℕ → Bool) (r n : ℕ) → ((k : ℕ) → n ≤ k → k < n + r → (ev k ≡ []) ⊎ (d k ≡ e k)) → events_but ev d r n ≡ events_but ev e r n
  undone_same d e zero n same = refl
  undone_same d e (suc r) n same =
      let rest = undone_same d e r (suc n) (λ k a b. same k (omega arith) (omega arith)) in
      ⊎_elim
      (λ z. here (d n) (e n) (events_but ev d r (suc n)) (events_but ev e r (suc n)) z rest)
      (λ t. ap (λ (b : Bool). if b then events_but ev d r (suc n) else ev n ++ events_but ev d r (suc n)) t ∙ ap (λ l. if e n then l else ev n ++ l) rest)
      (same n (omega arith) (omega arith))
    where
      here : (a b : Bool) (u v : List (Event ℤ)) → ev n ≡ [] → u ≡ v → (if a then u else ev n ++ u) ≡ (if b then v else ev n ++ v)
      here true true u v z t = t
      here true false u v z t = t ∙ sym (ap (λ l. l ++ v) z)
      here false true u v z t = ap (λ l. l ++ u) z ∙ t
      here false false u v z t = ap (λ l. ev n ++ l) t

  undone_other : (d : ℕ → Bool) (k r n : ℕ) → k < n → events_but ev (at d k true) r n ≡ events_but ev d r n
  undone_other d k r n lt = undone_same (at d k true) d r n (λ j le _. inr (at_other d k j true (λ (e : j ≡ k). absurd (omega arith))))

  pub none_left : (d : ℕ → Bool) (r n : ℕ) → ((k : ℕ) → n ≤ k → k < n + r → (ev k ≡ []) ⊎ (d k ≡ true)) → events_but ev d r n ≡ []
  none_left d r n all = undone_same d (λ _. true) r n all ∙ nothing r n
    where
      nothing : (r n : ℕ) → events_but ev (λ _. true) r n ≡ []
      nothing zero n = refl
      nothing (suc r) n = nothing r (suc n)

  -- the events of operation k stand among those left, with us before them
  pub record Splits (d : ℕ → Bool) (k r n : ℕ) : Type 0 where
    pub us : List (Event ℤ)
    pub vs : List (Event ℤ)
    pub before : events_but ev d r n ≡ us ++ (ev k ++ vs)
    pub after : events_but ev (at d k true) r n ≡ us ++ vs
    pub apart : ((j : ℕ) → j < k → d j ≡ false → AreApart (accesses_in (ev j)) (accesses_in (ev k))) → AreApart (accesses_in us) (accesses_in (ev k))

  splits : (d : ℕ → Bool) (k r n : ℕ) → n ≤ k → k < n + r → d k ≡ false → Splits d k r n
  splits d k zero n le lt e = absurd (omega arith)
  splits d k (suc r) n le lt e = ⊎_elim here (λ ne. there ne (d n) refl (splits d k r (suc n) (omega arith) (omega arith) e)) (cases_eq n k)
    where
      here : n ≡ k → Splits d k (suc r) n
      here same =
          let not_yet : d n ≡ false = ap d same ∙ e in
          let now : at d k true n ≡ true = ap (λ j. at d k true j) same ∙ at_same d k true in
          record {
            us = [];
            vs = events_but ev d r (suc n);
            before =
                subst (λ (b : Bool). (if b then events_but ev d r (suc n) else ev n ++ events_but ev d r (suc n)) ≡ ev k ++ events_but ev d r (suc n)) (sym not_yet)
                (ap (λ j. ev j ++ events_but ev d r (suc n)) same);
            after =
                subst (λ (b : Bool). (if b then events_but ev (at d k true) r (suc n) else ev n ++ events_but ev (at d k true) r (suc n)) ≡ events_but ev d r (suc n)) (sym now)
                (undone_other d k r (suc n) (omega arith));
            apart = λ _. record { first = λ p w t. w; second = λ p t w. t };
          }

      there : n ≢ k → (b : Bool) → d n ≡ b → Splits d k r (suc n) → Splits d k (suc r) n
      there ne true q s =
          let now : at d k true n ≡ true = at_other d k n true ne ∙ q in
          record {
            us = s.us;
            vs = s.vs;
            before = subst (λ (b : Bool). (if b then events_but ev d r (suc n) else ev n ++ events_but ev d r (suc n)) ≡ s.us ++ (ev k ++ s.vs)) (sym q) s.before;
            after = subst (λ (b : Bool). (if b then events_but ev (at d k true) r (suc n) else ev n ++ events_but ev (at d k true) r (suc n)) ≡ s.us ++ s.vs) (sym now) s.after;
            apart = s.apart;
          }
      there ne false q s =
          let now : at d k true n ≡ false = at_other d k n true ne ∙ q in
          let e' = ev n in
          record {
            us = e' ++ s.us;
            vs = s.vs;
            before = subst (λ (b : Bool). (if b then events_but ev d r (suc n) else e' ++ events_but ev d r (suc n)) ≡ (e' ++ s.us) ++ (ev k ++ s.vs)) (sym q)
                (ap (λ l. e' ++ l) s.before ∙ sym (append_assoc e' s.us (ev k ++ s.vs)));
            after = subst (λ (b : Bool). (if b then events_but ev (at d k true) r (suc n) else e' ++ events_but ev (at d k true) r (suc n)) ≡ (e' ++ s.us) ++ s.vs) (sym now)
                (ap (λ l. e' ++ l) s.after ∙ sym (append_assoc e' s.us s.vs));
            apart = λ each.
                let below : n < k = omega arith in
                let one = each n below q in
                let rest = s.apart each in
                subst (λ l. AreApart l (accesses_in (ev k))) (sym (accesses_in-append e' s.us))
                (apart_swap (accesses_in (ev k)) (accesses_in e' ++ accesses_in s.us)
                (apart_join (accesses_in (ev k)) (accesses_in e') (accesses_in s.us) (apart_swap (accesses_in e') (accesses_in (ev k)) one)
                (apart_swap (accesses_in s.us) (accesses_in (ev k)) rest)));
          }

  module _ (m : Memory ℤ) (all : List (Access ℤ)) (N : ℕ) (one : (k : ℕ) → IsOne (ev k)) where
    left_events : (done : List (Access ℤ)) (us vs es : List (Event ℤ)) → IsOne es → Remains m all done (us ++ (es ++ vs)) → AreApart (accesses_in us) (accesses_in es) →
        ReadsRight (memory_after done m) es × Remains m all (done ++ accesses_in es) (us ++ vs)
    left_events done us vs es (inl z) l a =
        let l' : Remains m all done (us ++ vs) = subst (λ x. Remains m all done (us ++ (x ++ vs))) z l in (
          subst (ReadsRight (memory_after done m)) (sym z) tt,
          subst (λ x. Remains m all x (us ++ vs)) (sym (ap (λ x. done ++ accesses_in x) z ∙ append-nil done)) l',
        )
    left_events done us vs es (inr o) l a =
        let l' : Remains m all done (us ++ o.0 ∷ vs) = subst (λ x. Remains m all done (us ++ (x ++ vs))) o.1 l in
        let got = remains_one m all done us vs o.0 l' (subst (λ x. AreApart (accesses_in us) (accesses_in x)) o.1 a) in
        subst (λ x. ReadsRight (memory_after done m) x × Remains m all (done ++ accesses_in x) (us ++ vs)) (sym o.1) got

    -- one operation that may be done
    pub left_more : (done : List (Access ℤ)) (d : ℕ → Bool) (k : ℕ) → Remains m all done (events_but ev d N 0) → k < N → d k ≡ false →
        ((j : ℕ) → j < k → d j ≡ false → AreApart (accesses_in (ev j)) (accesses_in (ev k))) → ReadsRight (memory_after done m) (ev k)
        × Remains m all (done ++ accesses_in (ev k)) (events_but ev (at d k true) N 0)
    left_more done d k l lt e clear =
        let s = splits d k N 0 (omega arith) (omega arith) e in
        let got = left_events done s.us s.vs (ev k) (one k) (subst (λ x. Remains m all done x) s.before l) (s.apart clear) in
        (got.0, subst (λ x. Remains m all (done ++ accesses_in (ev k)) x) (sym s.after) got.1)

    -- what is left touches what the run touches
    pub left_within : (done : List (Access ℤ)) (d : ℕ → Bool) (k : ℕ) (q : Location) → Remains m all done (events_but ev d N 0) → k < N → d k ≡ false → Touches q (accesses_in (ev k)) → Touches q all
    left_within done d k q l lt e t =
        let s = splits d k N 0 (omega arith) (omega arith) e in
        l.within q (subst (λ x. Touches q x) (sym (ap accesses_in s.before ∙ accesses_in-append s.us (ev k ++ s.vs) ∙ ap (λ x. accesses_in s.us ++ x) (accesses_in-append (ev k) s.vs)))
        (touches_right (accesses_in s.us) (accesses_in (ev k) ++ accesses_in s.vs) q (touches_left (accesses_in (ev k)) (accesses_in s.vs) q t)))

    -- several that may be done, all at once
    module _ (old go : ℕ → Bool) (fresh : (k : ℕ) → go k ≡ true → old k ≡ false)
        (clear : (j k : ℕ) → j < k → k < N → go k ≡ true → old j ≡ false → AreApart (accesses_in (ev j)) (accesses_in (ev k))) where
      turned : (b : Bool) → b ≡ false → (c : Bool) → (b || c) ≡ c
      turned true e c = absurd cc
      turned false e c = refl

      sweep_on : (r n : ℕ) (d : ℕ → Bool) (done : List (Access ℤ)) → n + r ≡ N → Remains m all done (events_but ev d N 0) → ((k : ℕ) → n ≤ k → d k ≡ old k) →
          ((k : ℕ) → k < n → d k ≡ (old k || go k)) → Remains m all (done ++ accesses_in (events_where ev go r n)) (events_but ev (λ k. old k || go k) N 0)
      sweep_on zero n d done e l above below =
          subst (λ x. Remains m all x (events_but ev (λ k. old k || go k) N 0)) (sym (append-nil done))
          (subst (Remains m all done) (undone_same d (λ k. old k || go k) N 0 (λ k _ lt. inr (below k (omega arith)))) l)
      sweep_on (suc r) n d done e l above below = now (go n) refl (λ d' done' l' a b. sweep_on r (suc n) d' done' (omega arith) l' a b)
        where
          now : (g : Bool) → go n ≡ g → ((d' : ℕ → Bool) (done' : List (Access ℤ)) → Remains m all done' (events_but ev d' N 0) → ((k : ℕ) → suc n ≤ k → d' k ≡ old k) →
              ((k : ℕ) → k < suc n → d' k ≡ (old k || go k)) → Remains m all (done' ++ accesses_in (events_where ev go r (suc n))) (events_but ev (λ k. old k || go k) N 0)) →
              Remains m all (done ++ accesses_in (events_where ev go (suc r) n)) (events_but ev (λ k. old k || go k) N 0)
          now true q on =
              let off = fresh n q in
              let more = (left_more done d n l (omega arith) (above n (omega arith) ∙ off) (λ j lt z. clear j n lt (omega arith) q (or_parts (old j) (go j) (sym (below j lt) ∙ z)).0)).1 in
              let got = on (at d n true) (done ++ accesses_in (ev n)) more
              (λ k le. at_other d n k true (λ (x : k ≡ n). absurd (omega arith)) ∙ above k (omega arith))
              (λ k lt. ⊎_elim
              (λ (x : k ≡ n). ap (at d n true) x ∙ at_same d n true ∙ sym (ap (λ j. old j || go j) x ∙ turned (old n) off (go n) ∙ q))
              (λ ne. at_other d n k true ne ∙ below k (omega arith))
              (cases_eq k n)) in
              subst (λ x. Remains m all x (events_but ev (λ k. old k || go k) N 0))
              (append_assoc done (accesses_in (ev n)) (accesses_in (events_where ev go r (suc n)))
              ∙ ap (λ x. done ++ x) (sym (accesses_in-append (ev n) (events_where ev go r (suc n))))
              ∙ ap (λ (b : Bool). done ++ accesses_in ((if b then ev n else []) ++ events_where ev go r (suc n))) (sym q))
              got
          now false q on =
              let got = on d done l
              (λ k le. above k (omega arith))
              (λ k lt. ⊎_elim
              (λ (x : k ≡ n). above k (omega arith) ∙ sym (ap (λ (b : Bool). old k || b) (ap go x ∙ q) ∙ or-false (old k)))
              (λ ne. below k (omega arith))
              (cases_eq k n)) in
              subst (λ x. Remains m all x (events_but ev (λ k. old k || go k) N 0)) (ap (λ (b : Bool). done ++ accesses_in ((if b then ev n else []) ++ events_where ev go r (suc n))) (sym q)) got

      pub sweep : (done : List (Access ℤ)) → Remains m all done (events_but ev old N 0) → Remains m all (done ++ accesses_in (events_where ev go N 0)) (events_but ev (λ k. old k || go k) N 0)
      sweep done l = sweep_on N 0 old done (omega arith) l (λ k le. refl) (λ k lt. absurd (omega arith))

      pub sweep_right : (done : List (Access ℤ)) (k : ℕ) → Remains m all done (events_but ev old N 0) → k < N → go k ≡ true → ReadsRight (memory_after done m) (ev k)
      sweep_right done k l lt g = (left_more done old k l lt (fresh k g) (λ j below z. clear j k below lt g z)).0

-- where nothing is done, all are left
pub events_but-nothing : (ev : ℕ → List (Event ℤ)) (count n : ℕ) → events_but ev (λ _. false) count n ≡ events_from ev count n
events_but-nothing ev zero n = refl
events_but-nothing ev (suc count) n = ap (λ l. ev n ++ l) (events_but-nothing ev count (suc n))
