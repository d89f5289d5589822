-- The accesses of a run, made in another order that keeps those of one place.
use Rattle.std.proofs.Common.{◌≡◌, List, [], ◌∷◌, ◌++◌, refl, sym, ap, ◌∙◌, subst, ⊎_elim, inl, inr}
use Rattle.interleaving.specs.AnyOrder.{Event, ReadEvent, WriteEvent, access_of, accesses_in, ReadsRight, Remains, MayComeFirst}
use Rattle.interleaving.specs.Memory.{Location, Memory, Access, Write, with_value, memory_after, Touches, Writes, AreApart, AgreeOn}
use Rattle.interleaving.proofs.Accesses.{memory_after-agree, memory_after-unwritten, memory_after-append, touched, touches_left}
use Rattle.interleaving.proofs.Accesses.{touches_right, touches_either, writes_left, writes_right, writes_either, touches_or_not}
use Rattle.interleaving.proofs.Apart.{memory_after-commute}

module _ {Value : Type 0} where
  pub accesses_in-append : (es fs : List (Event Value)) → accesses_in (es ++ fs) ≡ accesses_in es ++ accesses_in fs
  accesses_in-append [] fs = refl
  accesses_in-append (e ∷ es) fs = ap (λ l. access_of e ∷ l) (accesses_in-append es fs)

  pub right_same : (es : List (Event Value)) (m n : Memory Value) → ((p : Location) → m p ≡ n p) → ReadsRight m es → ReadsRight n es
  right_same [] m n same r = tt
  right_same (ReadEvent p v ∷ es) m n same r = (sym (same p) ∙ r.0, right_same es m n same r.1)
  right_same (WriteEvent p v ∷ es) m n same r = right_same es (with_value m p v) (with_value n p v) (λ q. memory_after-agree (Write p v ∷ []) m n q (same q)) r

  pub right_after : (us vs : List (Event Value)) (m : Memory Value) → ReadsRight m (us ++ vs) → ReadsRight (memory_after (accesses_in us) m) vs
  right_after [] vs m r = r
  right_after (ReadEvent p v ∷ us) vs m r = right_after us vs m r.1
  right_after (WriteEvent p v ∷ us) vs m r = right_after us vs (with_value m p v) r

  pub right_join : (us vs : List (Event Value)) (m : Memory Value) → ReadsRight m us → ReadsRight (memory_after (accesses_in us) m) vs → ReadsRight m (us ++ vs)
  right_join [] vs m r q = q
  right_join (ReadEvent p v ∷ us) vs m r q = (r.0, right_join us vs m r.1 q)
  right_join (WriteEvent p v ∷ us) vs m r q = right_join us vs (with_value m p v) r q

  pub right_before : (us vs : List (Event Value)) (m : Memory Value) → ReadsRight m (us ++ vs) → ReadsRight m us
  right_before [] vs m r = tt
  right_before (ReadEvent p v ∷ us) vs m r = (r.0, right_before us vs m r.1)
  right_before (WriteEvent p v ∷ us) vs m r = right_before us vs (with_value m p v) r

  -- reads that another memory answers alike are right there
  pub right_on : (us : List (Event Value)) (m n : Memory Value) → AgreeOn (accesses_in us) m n → ReadsRight m us → ReadsRight n us
  right_on [] m n same r = tt
  right_on (ReadEvent p v ∷ us) m n same r = (sym (same p (inl refl)) ∙ r.0, right_on us m n (λ q t. same q (inr t)) r.1)
  right_on (WriteEvent p v ∷ us) m n same r = right_on us (with_value m p v) (with_value n p v) (λ q t. memory_after-agree (Write p v ∷ []) m n q (same q (inr t))) r

  -- ANY ORDER
  pub comes_first : (m : Memory Value) → MayComeFirst m
  comes_first m us vs a apart r = (right_join (a ∷ []) (us ++ vs) m first (right_join us vs (memory_after (access_of a ∷ []) m) mid rest), effect)
    where
      swap : (p : Location) → memory_after (access_of a ∷ []) (memory_after (accesses_in us) m) p ≡ memory_after (accesses_in us) (memory_after (access_of a ∷ []) m) p
      swap p = memory_after-commute (accesses_in us) (access_of a ∷ []) m p apart

      after : ReadsRight (memory_after (accesses_in us) m) (a ∷ vs)
      after = right_after us (a ∷ vs) m r

      first : ReadsRight m (a ∷ [])
      first = right_on (a ∷ []) (memory_after (accesses_in us) m) m (λ p t. memory_after-unwritten (accesses_in us) m p (λ w. apart.first p w t))
          (right_before (a ∷ []) vs (memory_after (accesses_in us) m) after)

      mid : ReadsRight (memory_after (access_of a ∷ []) m) us
      mid = right_on us m (memory_after (access_of a ∷ []) m) (λ p t. sym (memory_after-unwritten (access_of a ∷ []) m p (λ w. apart.second p t w))) (right_before us (a ∷ vs) m r)

      rest : ReadsRight (memory_after (accesses_in us) (memory_after (access_of a ∷ []) m)) vs
      rest = right_same vs (memory_after (access_of a ∷ []) (memory_after (accesses_in us) m))
          (memory_after (accesses_in us) (memory_after (access_of a ∷ []) m)) swap (right_after (a ∷ []) vs (memory_after (accesses_in us) m) after)

      effect : (p : Location) → memory_after (accesses_in (a ∷ (us ++ vs))) m p ≡ memory_after (accesses_in (us ++ a ∷ vs)) m p
      effect p =
          ap (λ (f : Memory Value). f p) (memory_after-append (access_of a ∷ []) (accesses_in (us ++ vs)) m)
          ∙ ap (λ l. memory_after l (memory_after (access_of a ∷ []) m) p) (accesses_in-append us vs)
          ∙ ap (λ (f : Memory Value). f p) (memory_after-append (accesses_in us) (accesses_in vs) (memory_after (access_of a ∷ []) m))
          ∙ memory_after-agree (accesses_in vs) (memory_after (accesses_in us) (memory_after (access_of a ∷ []) m)) (memory_after (access_of a ∷ []) (memory_after (accesses_in us) m)) p (sym (swap p))
          ∙ sym (ap (λ (f : Memory Value). f p) (memory_after-append (access_of a ∷ []) (accesses_in vs) (memory_after (accesses_in us) m)))
          ∙ sym (ap (λ (f : Memory Value). f p) (memory_after-append (accesses_in us) (access_of a ∷ accesses_in vs) m))
          ∙ ap (λ l. memory_after l m p) (sym (accesses_in-append us (a ∷ vs)))

  -- at the start all is left
  pub remains_all : (m : Memory Value) (es : List (Event Value)) → ReadsRight m es → Remains m (accesses_in es) [] es
  remains_all m es r = record { right = r; effect = λ p. refl; inside = λ p w. absurd w; within = λ p t. t; writes = λ p w. w }

  -- one access_of more, before which nothing that it conflicts with is left: it reads what the run reads
  pub remains_one : (m : Memory Value) (all made : List (Access Value)) (us vs : List (Event Value)) (a : Event Value) → Remains m all made (us ++ a ∷ vs) →
      AreApart (accesses_in us) (access_of a ∷ []) → ReadsRight (memory_after made m) (a ∷ []) × Remains m all (made ++ access_of a ∷ []) (us ++ vs)
  remains_one m all made us vs a l apart = (
    right_before (a ∷ []) (us ++ vs) (memory_after made m) p.0,
    record {
      right = subst (λ w. ReadsRight w (us ++ vs)) (sym (memory_after-append made (access_of a ∷ []) m)) (right_after (a ∷ []) (us ++ vs) (memory_after made m) p.0);
      effect = λ q. ap (λ w. memory_after (accesses_in (us ++ vs)) w q) (memory_after-append made (access_of a ∷ []) m)
          ∙ sym (ap (λ (f : Memory Value). f q) (memory_after-append (access_of a ∷ []) (accesses_in (us ++ vs)) (memory_after made m))) ∙ p.1 q ∙ l.effect q;
      inside = λ q w. ⊎_elim (l.inside q) (λ v. l.writes q (subst (λ x. Writes q x) (sym (accesses_in-append us (a ∷ vs)))
          (writes_right (accesses_in us) (access_of a ∷ accesses_in vs) q (writes_left (access_of a ∷ []) (accesses_in vs) q v)))) (writes_either made (access_of a ∷ []) q w);
      within = λ q t. l.within q (subst (λ x. Touches q x) (sym (accesses_in-append us (a ∷ vs)))
          (⊎_elim (λ u. touches_left (accesses_in us) (access_of a ∷ accesses_in vs) q u)
          (λ v. touches_right (accesses_in us) (access_of a ∷ accesses_in vs) q (touches_right (access_of a ∷ []) (accesses_in vs) q v))
          (touches_either (accesses_in us) (accesses_in vs) q (subst (λ x. Touches q x) (accesses_in-append us vs) t))));
      writes = λ q t. l.writes q (subst (λ x. Writes q x) (sym (accesses_in-append us (a ∷ vs)))
          (⊎_elim (λ u. writes_left (accesses_in us) (access_of a ∷ accesses_in vs) q u)
          (λ v. writes_right (accesses_in us) (access_of a ∷ accesses_in vs) q (writes_right (access_of a ∷ []) (accesses_in vs) q v))
          (writes_either (accesses_in us) (accesses_in vs) q (subst (λ x. Writes q x) (accesses_in-append us vs) t))));
    },
  )
    where
      p :
          ReadsRight (memory_after made m) (a ∷ (us ++ vs)) × ((q : Location) → memory_after (accesses_in (a ∷ (us ++ vs))) (memory_after made m) q ≡ memory_after
          (accesses_in (us ++ a ∷ vs)) (memory_after made m) q)
      p = comes_first (memory_after made m) us vs a apart l.right

  -- where nothing is left, the effect is that of the run
  pub remains_none : (m : Memory Value) (all made : List (Access Value)) → Remains m all made [] → (p : Location) → memory_after made m p ≡ memory_after all m p
  remains_none m all made l p = l.effect p

  -- it depends on what the run touches alone
  pub remains_frame : (m n : Memory Value) (all made : List (Access Value)) (rest : List (Event Value)) → AgreeOn all m n → Remains m all made rest → Remains n all made rest
  remains_frame m n all made rest same l = record {
    right = right_on rest (memory_after made m) (memory_after made n) (λ p t. memory_after-agree made m n p (same p (l.within p t))) l.right;
    effect = λ p. ⊎_elim (agree p) (away p) (touches_or_not all p);
    inside = l.inside;
    within = l.within;
    writes = l.writes;
  }
    where
      agree : (p : Location) → Touches p all → memory_after (accesses_in rest) (memory_after made n) p ≡ memory_after all n p
      agree p t =
          memory_after-agree (accesses_in rest) (memory_after made n) (memory_after made m) p (memory_after-agree made n m p (sym (same p t)))
          ∙ l.effect p ∙ memory_after-agree all m n p (same p t)

      away : (p : Location) → (Touches p all → ⊥) → memory_after (accesses_in rest) (memory_after made n) p ≡ memory_after all n p
      away p far =
          memory_after-unwritten (accesses_in rest) (memory_after made n) p (λ w. far (touched all p (l.writes p w)))
          ∙ memory_after-unwritten made n p (λ w. far (touched all p (l.inside p w)))
          ∙ sym (memory_after-unwritten all n p (λ w. far (touched all p w)))
