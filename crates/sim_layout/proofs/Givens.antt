-- What a choice gives the inputs of the outermost module, by their names.
use Rattle.std.specs.Prelude.{◌≡◌, ℕ, zero, suc, ◌+◌, ◌<◌, ◌⊎◌, true, false, List, [], ◌∷◌, ◌++◌, length, drop, Some, None, Result, decimal, slice_get, slice_index, codes, refl}
use Rattle.std.proofs.Common.{ap, sym, ◌∙◌, subst, inl, inr, ⊎_elim, arith}
use Rattle.std.specs.Str.{bytes_eq}
use Rattle.std.specs.Str.Parse.{ParsesUnsigned}
use Rattle.std.specs.Str.Pattern.{LacksTextAt}
use Rattle.std.specs.Result.{result_ok}
use Rattle.std.proofs.lemmas.Fmt.{parse-decimal}
use Rattle.std.proofs.lemmas.Slice.Eq.{bytes_eq-Decides}
use Rattle.std.proofs.lemmas.Bool.{cond-false, cond-true}
use Rattle.lists.proofs.Places.{get_last}
use Rattle.verilog_meaning.specs.Names.{numbered}
use Rattle.verilog_meaning.specs.Cycles.{pref_number}
use Rattle.netlist.specs.declared.netlist.Source.{Source}
use Rattle.netlist.specs.declared.netlist.Source.TheVariants.{Input, Register, Assigned, Port}
use Rattle.netlist.specs.declared.netlist.Signal.{Signal}
use Rattle.sim_values.specs.declared.settle.Feed.{Feed}
use Rattle.sim_values.specs.declared.settle.Feed.TheVariants.{Zero, Enables, Preferred}
use Rattle.sim_values.specs.declared.settle.Step.{Step}
use Rattle.sim_values.specs.Stands.{step}
use Rattle.sim_layout.specs.Given.{IsInput, TellsPref, IsPrefOf, IsRooted, IsRoot, AreRoots, IsGivenOne, IsGivenFor}
use Rattle.sim_values.proofs.Orders.{get_more, get_snoc}
use Rattle.sim_values.proofs.Trees.{front_or_back}

module _ (name : List ℕ) where
  abbrev test : ℕ → Type 0
  test k = bytes_eq name (numbered (codes "pref") k) ≡ true

  abbrev other : ℕ → Type 0
  other k = bytes_eq name (numbered (codes "pref") k) ≡ false

  first_pref : (prefs : List ℕ) (k j : ℕ) → ((i : ℕ) → i < j → other (k + i)) → test (k + j) → pref_number name prefs k ≡ slice_index prefs j
  first_pref [] k zero h t = refl
  first_pref [] k (suc j) h t = refl
  first_pref (p ∷ prefs) k zero h t =
      let here : k + 0 ≡ k = omega arith in
      cond-true (bytes_eq name (numbered (codes "pref") k)) p (pref_number name prefs (k + 1)) (subst test here t)
  first_pref (p ∷ prefs) k (suc j) h t =
      let here : k + 0 ≡ k = omega arith in
      let last : k + suc j ≡ k + 1 + j = omega arith in
      cond-false (bytes_eq name (numbered (codes "pref") k)) p (pref_number name prefs (k + 1)) (subst other here (h 0 (omega arith)))
      ∙ first_pref prefs (k + 1) j (λ i l. subst other (let z : k + suc i ≡ k + 1 + i = omega arith in z) (h (suc i) (omega arith))) (subst test last t)

  no_pref : (prefs : List ℕ) (k : ℕ) → ((i : ℕ) → i < length prefs → other (k + i)) → pref_number name prefs k ≡ 0
  no_pref [] k h = refl
  no_pref (p ∷ prefs) k h =
      let here : k + 0 ≡ k = omega arith in
      cond-false (bytes_eq name (numbered (codes "pref") k)) p (pref_number name prefs (k + 1)) (subst other here (h 0 (omega arith)))
      ∙ no_pref prefs (k + 1) (λ i l. subst other (let z : k + suc i ≡ k + 1 + i = omega arith in z) (h (suc i) (omega arith)))

-- ---- the number of a name pref_k

-- what the name is followed by are the decimals of k
digits_are : (name digits : List ℕ) (n k : ℕ) → name ≡ codes "pref_" ++ drop n name → digits ≡ drop n name → name ≡ numbered (codes "pref") k → digits ≡ decimal k
digits_are name digits n k front rest is = (let e : codes "pref_" ++ drop n name ≡ codes "pref_" ++ decimal k = sym front ∙ is in let same : drop n name ≡ decimal k = cc in rest ∙ same)

pub pref_read : {E : Type 0} (name digits : List ℕ) (n : ℕ) (r : Result ℕ E) → name ≡ codes "pref_" ++ drop n name → digits ≡ drop n name → ParsesUnsigned 64 10 digits r → TellsPref name (result_ok r)
pref_read name digits n r front rest parsed k small is =
    ap result_ok (parse-decimal 64 k digits r small small (digits_are name digits n k front rest ((bytes_eq-Decides name (numbered (codes "pref") k)).0 is)) parsed)

pub pref_lacks : (name : List ℕ) → LacksTextAt (codes "pref_") name 0 → TellsPref name None
pref_lacks name lacks k small is = absurd (lacks (decimal k) ((bytes_eq-Decides name (numbered (codes "pref") k)).0 is))

pub input_en : (most : ℕ) (name : List ℕ) → bytes_eq name (codes "en") ≡ true → IsInput most name Enables
input_en most name e = record { always = λ modules c f few. sym (cond-true (bytes_eq name (codes "en")) c.mask (pref_number name c.prefs 0) e); plain = λ modules. refl }

pub input_pref : (most : ℕ) (name : List ℕ) (j : ℕ) → bytes_eq name (codes "en") ≡ false → IsPrefOf name most (Some j) → IsInput most name (Preferred j)
input_pref most name j e is = record {
  always = λ modules c f few.
      sym (cond-false (bytes_eq name (codes "en")) c.mask (pref_number name c.prefs 0) e ∙ first_pref name c.prefs 0 j
      (λ i l. subst (other name) (let z : i ≡ 0 + i = omega arith in z) (is.1 i l)) (subst (test name) (let z : j ≡ 0 + j = omega arith in z) is.0));
  plain = λ modules. refl;
}

pub input_zero : (most : ℕ) (name : List ℕ) → bytes_eq name (codes "en") ≡ false → IsPrefOf name most None → IsInput most name Zero
input_zero most name e is = record {
  always = λ modules c f few.
      sym (cond-false (bytes_eq name (codes "en")) c.mask (pref_number name c.prefs 0) e ∙ no_pref name c.prefs 0
      (λ i l. subst (other name) (let z : i ≡ 0 + i = omega arith in z) (is i (omega arith))));
  plain = λ modules. refl;
}

pub rooted_last : (old wires : List Step) (place most : ℕ) (name : List ℕ) (feed : Feed) → IsInput most name feed → wires ≡ old ++ step place feed ∷ [] → IsRooted wires place most name
rooted_last old wires place most name feed is e =
    record { feed = feed; takes = (length old, subst (λ (ws : List Step). slice_get ws (length old) ≡ Some (step place feed)) (sym e) (get_last old (step place feed))); given = is }

rooted_stable : (old more : List Step) (place most : ℕ) (name : List ℕ) → IsRooted old place most name → IsRooted (old ++ more) place most name
rooted_stable old more place most name r = record { feed = r.feed; takes = ((r.takes).0, get_more old more (r.takes).0 (step place r.feed) (r.takes).1); given = r.given }

less_or : (x at : ℕ) → x < at + 1 → (x < at) ⊎ (x ≡ at)
less_or x at l = ⊎_elim (λ a. inl a) (λ b. inr (let z = b.1 in omega arith)) (front_or_back x at)

abbrev pub Rooted : List Step → ℕ → ℕ → ℕ → List Signal → Type 0
Rooted wires base most count signals = (x : ℕ) (s : Signal) → x < count → slice_get signals x ≡ Some s → s.source ≡ Input → IsRooted wires (base + x) most s.name

module _ (old new : List Step) (base most at : ℕ) (signals : List Signal) (here : Signal) (listed : slice_get signals at ≡ Some here) where
  one_here : (s : Signal) → slice_get signals at ≡ Some s → s ≡ here
  one_here s there = (let e : Some s ≡ Some here = sym there ∙ listed in cc)

  rooted_same : new ≡ old → (here.source ≡ Input → ⊥) → Rooted old base most at signals → Rooted new base most (at + 1) signals
  rooted_same e lacks before x s l there input = ⊎_elim
      (λ less. subst (λ (ws : List Step). IsRooted ws (base + x) most s.name) (sym e) (before x s less there input))
      (λ same. let is = one_here s (ap (slice_get signals) (sym same) ∙ there) in absurd (lacks (ap (λ (u : Signal). u.source) (sym is) ∙ input)))
      (less_or x at l)

  rooted_one : IsGivenOne (base + at) most here.name old new → Rooted old base most at signals → Rooted new base most (at + 1) signals
  rooted_one g before x s l there input = ⊎_elim
      (λ less. subst (λ (ws : List Step). IsRooted ws (base + x) most s.name) (sym g.2) (rooted_stable old (step (base + at) g.0 ∷ []) (base + x) most s.name (before x s less there input)))
      (λ same.
      let is = one_here s (ap (slice_get signals) (sym same) ∙ there) in
      subst (λ (k : ℕ). IsRooted new (base + k) most s.name) (sym same)
      (subst (λ (u : Signal). IsRooted new (base + at) most u.name) (sym is) (rooted_last old new (base + at) most here.name g.0 g.1 g.2)))
      (less_or x at l)

  -- one signal more
  pub rooted_more : (source : Source) → here.source ≡ source → IsGivenFor (base + at) most here.name source old new → Rooted old base most at signals → Rooted new base most (at + 1) signals
  rooted_more Input e g before = rooted_one g before
  rooted_more (Register n) e g before = rooted_same g (λ i. no_input (e ∙ refl) i) before
    where
      no_input : here.source ≡ Register n → here.source ≡ Input → ⊥
      no_input a b = cc
  rooted_more (Assigned v) e g before = rooted_same g (λ i. no_input e i) before
    where
      no_input : here.source ≡ Assigned v → here.source ≡ Input → ⊥
      no_input a b = cc
  rooted_more (Port i port) e g before = rooted_same g (λ z. no_input e z) before
    where
      no_input : here.source ≡ Port i port → here.source ≡ Input → ⊥
      no_input a b = cc

  pub only_more : (source : Source) → here.source ≡ source → IsGivenFor (base + at) most here.name source old new → AreRoots base most signals old → AreRoots base most signals new
  only_more Input e g before = λ k s there. ⊎_elim
      (λ less. before k s less)
      (λ same. subst (IsRoot base most signals) (sym same) (record { number = at; signal = here; listed = listed; input = e; target = refl; given = g.1 }))
      (get_snoc old (step (base + at) g.0) k s (ap (λ (ws : List Step). slice_get ws k) (sym g.2) ∙ there))
  only_more (Register n) e g before = subst (AreRoots base most signals) (sym g) before
  only_more (Assigned v) e g before = subst (AreRoots base most signals) (sym g) before
  only_more (Port i port) e g before = subst (AreRoots base most signals) (sym g) before
