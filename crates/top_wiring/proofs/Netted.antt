-- The whole net is sound.
use Rattle.std.proofs.Common.{◌≡◌, ℕ, zero, suc, ◌+◌, ◌≤◌, Bool, true, false, List, [], ◌∷◌, ◌++◌, length}
use Rattle.std.proofs.Common.{take, Option, Some, None, refl, sym, ap, ◌∙◌, subst, inl, inr, arith, add-zero, length-append}
use Rattle.std.specs.Prelude.{slice_get, codes, ◌||◌}
use Rattle.std.proofs.Math.Seq.{take-append_seam}
use Rattle.std.proofs.lemmas.List.{take-append-le}
use Rattle.std.proofs.lemmas.Option.{same_Some, none-some, slice_get_within}
use Rattle.std.proofs.lemmas.Bool.{or_right}
use Rattle.lists.proofs.Places.{get_front, get_back, get_mapped, get_unmapped}
use Rattle.verilog_tree.specs.Facts.{is_top}
use Rattle.netlist.specs.declared.netlist.Action.{Action}
use Rattle.netlist.specs.declared.netlist.Instance.{Instance}
use Rattle.netlist.specs.declared.netlist.Module.{Module}
use Rattle.netlist.specs.declared.netlist.Netlist.{Netlist}
use Rattle.netlist.specs.Laid.{AreApart, module_names, IsLaidModule}
use Rattle.netlist.specs.Sound.{is_write, Writes, Places, IsPrinting, IsSoundModule, IsSound}
use Rattle.netlist.specs.Sound as Sound
use Rattle.top_parts.specs.declared.layout.Layout.{Layout}
use Rattle.top_wiring.specs.Round.{count, top_instance}
use Rattle.top_wiring.specs.Sound.{AreSound, WritesIn, IsOf, NetsAreSound}
use Rattle.top_wiring.specs.Wired.{IsWired}
use Rattle.top_wiring.proofs.Lists.{get_either}
use Rattle.top_wiring.proofs.Soundness as soundness
use Rattle.top_wiring.proofs.RoundModule as rounding

-- whether an action of a module writes
abbrev writes : List Action → Bool
writes [] = false
writes (a ∷ actions) = is_write a.effect || writes actions

abbrev writes_at : Option Module → Bool
writes_at None = false
writes_at (Some m) = writes m.actions

writes_there : (actions : List Action) (k : ℕ) (a : Action) → slice_get actions k ≡ Some a → is_write a.effect ≡ true → writes actions ≡ true
writes_there [] k a e h = absurd (none-some a e)
writes_there (b ∷ actions) zero a e h = ap (λ (z : Action). is_write z.effect || writes actions) (same_Some b a e) ∙ ap (λ z. z || writes actions) h
writes_there (b ∷ actions) (suc k) a e h = or_right (is_write b.effect) (writes actions) (writes_there actions k a e h)

writer_of : (actions : List Action) → writes actions ≡ true → (k : ℕ) × (a : Action) × (slice_get actions k ≡ Some a) × (is_write a.effect ≡ true)
writer_of [] e = absurd (let z : false ≡ true = e in cc)
writer_of (a ∷ actions) e = by_first (is_write a.effect) refl e (λ h. writer_of actions h)
  where
    by_first : (b : Bool) → is_write a.effect ≡ b → (b || writes actions) ≡ true → (writes actions ≡ true
        → (k : ℕ) × (x : Action) × (slice_get actions k ≡ Some x) × (is_write x.effect ≡ true)) → (k : ℕ) × (x : Action) × (slice_get (a ∷ actions) k ≡ Some x) × (is_write x.effect ≡ true)
    by_first true q h next = (0, a, refl, q)
    by_first false q h next = let m = next h in (suc m.0, m.1, m.2, m.3)

module _ (layout : Layout) (modules : List Module) (n : Netlist) (w : IsWired modules layout n) (sound : AreSound layout modules) where
  -- a module of the net is one of those given, top or top_rr
  data Member (k : ℕ) (m : Module) : Type 0 where
    given : slice_get modules k ≡ Some m → Member k m
    top : k ≡ length modules → m ≡ w.top → Member k m
    round : k ≡ length modules + 1 → m ≡ w.round → Member k m

  one : (x : Module) (k : ℕ) (m : Module) → slice_get (x ∷ []) k ≡ Some m → (k ≡ 0) × (m ≡ x)
  one x zero m e = (refl, sym (same_Some x m e))
  one x (suc k) m e = absurd (none-some m e)

  member : (k : ℕ) (m : Module) → slice_get n.modules k ≡ Some m → Member k m
  member k m e = elim (get_either (modules ++ w.top ∷ []) (w.round ∷ []) k m (ap (λ l. slice_get l k) (sym w.are) ∙ e)) [
    | inl g ↦ elim (get_either modules (w.top ∷ []) k m g) [
      | inl f ↦ given f
      | inr f ↦ let o = one w.top f.at m f.found in let p = f.is in let z = o.0 in top (omega arith) o.1
    ]
    | inr g ↦
        let o = one w.round g.at m g.found in
        let a = length-append modules (w.top ∷ []) in
        let p = g.is in let z = o.0 in
        round (omega arith) o.1
  ]

  -- ---- where the modules stand

  top_there : slice_get n.modules (length modules) ≡ Some w.top
  top_there =
      ap (λ l. slice_get l (length modules)) w.are
      ∙ get_front (modules ++ w.top ∷ []) (w.round ∷ []) (length modules) w.top
      (ap (slice_get (modules ++ w.top ∷ [])) (sym (add-zero (length modules))) ∙ get_back modules (w.top ∷ []) 0 w.top refl)

  before_given : (k : ℕ) (m : Module) → slice_get modules k ≡ Some m → take k modules ≡ take k n.modules
  before_given k m e =
      let l = slice_get_within modules k m e in
      let a = length-append modules (w.top ∷ []) in
      sym (ap (take k) w.are ∙ take-append-le k (modules ++ w.top ∷ []) (w.round ∷ []) (omega arith) ∙ take-append-le k modules (w.top ∷ []) (omega arith))

  before_top : modules ≡ take (length modules) n.modules
  before_top =
      let a = length-append modules (w.top ∷ []) in
      sym (ap (take (length modules)) w.are ∙ take-append-le (length modules) (modules ++ w.top ∷ []) (w.round ∷ []) (omega arith) ∙ take-append_seam modules (w.top ∷ []))

  before_round : modules ++ w.top ∷ [] ≡ take (length modules + 1) n.modules
  before_round =
      let a = length-append modules (w.top ∷ []) in
      let q : length modules + 1 ≡ length (modules ++ w.top ∷ []) = omega arith in
      sym (ap (λ k. take k n.modules) q ∙ ap (take (length (modules ++ w.top ∷ []))) w.are ∙ take-append_seam (modules ++ w.top ∷ []) (w.round ∷ []))

  -- ---- laid and sound

  abbrev LaidAt : ℕ → Module → Type 0
  LaidAt k m = IsLaidModule (take k n.modules) m

  abbrev SoundAt : ℕ → Module → Type 0
  SoundAt k m = IsSoundModule m (take k n.modules)

  laid_at : (k : ℕ) (m : Module) → Member k m → LaidAt k m
  laid_at k m (given e) = subst (λ l. IsLaidModule l m) (before_given k m e) (sound.laid k m e)
  laid_at k m (top e q) =
      subst (λ z. LaidAt z m) (sym e) (subst (λ z. LaidAt (length modules) z) (sym q) (subst (λ l. IsLaidModule l w.top) before_top (soundness.top_laid layout modules sound w.top w.is_top)))
  laid_at k m (round e q) =
      subst (λ z. LaidAt z m) (sym e) (subst (λ z. LaidAt (length modules + 1) z) (sym q)
      (subst (λ l. IsLaidModule l w.round) before_round (rounding.round_laid layout modules sound w.top w.is_top w.round w.is_round)))

  sound_at : (k : ℕ) (m : Module) → Member k m → SoundAt k m
  sound_at k m (given e) = subst (IsSoundModule m) (before_given k m e) (sound.sound k m e)
  sound_at k m (top e q) =
      subst (λ z. SoundAt z m) (sym e) (subst (λ z. SoundAt (length modules) z) (sym q) (subst (IsSoundModule w.top) before_top (soundness.top_sound layout modules sound w.top w.is_top)))
  sound_at k m (round e q) =
      subst (λ z. SoundAt z m) (sym e) (subst (λ z. SoundAt (length modules + 1) z) (sym q)
      (subst (IsSoundModule w.round) before_round (rounding.round_sound layout modules sound w.top w.is_top w.round w.is_round)))

  -- ---- names of modules

  tops_differ : codes "top" ≡ codes "top_rr" → ⊥
  tops_differ e = cc

  same_member : (i j : ℕ) (a b : Module) → a.name ≡ b.name → Member i a → Member j b → i ≡ j
  same_member i j a b q (given e) (given f) =
      sound.names i j a.name (get_mapped (λ (m : Module). m.name) modules i a e) (get_mapped (λ (m : Module). m.name) modules j b f ∙ ap (λ z. Some z) (sym q))
  same_member i j a b q (given e) (top f r) = absurd ((sound.no_top i a e).0 (q ∙ ap (λ (m : Module). m.name) r ∙ w.is_top.named))
  same_member i j a b q (given e) (round f r) = absurd ((sound.no_top i a e).1 (q ∙ ap (λ (m : Module). m.name) r ∙ w.is_round.named))
  same_member i j a b q (top e r) (given f) = absurd ((sound.no_top j b f).0 (sym q ∙ ap (λ (m : Module). m.name) r ∙ w.is_top.named))
  same_member i j a b q (top e r) (top f s) = e ∙ sym f
  same_member i j a b q (top e r) (round f s) =
      absurd (tops_differ (sym (ap (λ (m : Module). m.name) r ∙ w.is_top.named) ∙ q ∙ ap (λ (m : Module). m.name) s ∙ w.is_round.named))
  same_member i j a b q (round e r) (given f) = absurd ((sound.no_top j b f).1 (sym q ∙ ap (λ (m : Module). m.name) r ∙ w.is_round.named))
  same_member i j a b q (round e r) (top f s) =
      absurd (tops_differ (sym (sym (ap (λ (m : Module). m.name) r ∙ w.is_round.named) ∙ q ∙ ap (λ (m : Module). m.name) s ∙ w.is_top.named)))
  same_member i j a b q (round e r) (round f s) = e ∙ sym f

  names : AreApart (module_names n.modules)
  names i j x e f =
      let a = get_unmapped (λ (m : Module). m.name) n.modules i x e in
      let b = get_unmapped (λ (m : Module). m.name) n.modules j x f in
      same_member i j a.0 b.0 (a.2 ∙ sym b.2) (member i a.0 a.1) (member j b.0 b.1)

  -- ---- printing

  -- top and top_rr write nothing
  given_writes : (k : ℕ) (m : Module) (i : ℕ) (a : Action) → slice_get m.actions i ≡ Some a → is_write a.effect ≡ true → Member k m → WritesIn layout modules k
  given_writes k m i a e h (given f) = record { module_ = m; listed = f; number = i; action = a; stands = e; writes = h }
  given_writes k m i a e h (top f q) = absurd (none-some a (ap (λ l. slice_get l i) (sym (ap (λ (z : Module). z.actions) q ∙ w.is_top.actions)) ∙ e))
  given_writes k m i a e h (round f q) = absurd (counts i (ap (λ l. slice_get l i) (sym (ap (λ (z : Module). z.actions) q ∙ w.is_round.actions)) ∙ e))
    where
      counts : (i : ℕ) → slice_get (count ∷ []) i ≡ Some a → ⊥
      counts zero g = let z : false ≡ true = ap (λ (y : Action). is_write y.effect) (same_Some count a g) ∙ h in cc
      counts (suc i) g = none-some a g

  in_given : (k : ℕ) → Writes n k → WritesIn layout modules k
  in_given k h = given_writes k h.0 h.1 h.2 h.4 h.5 (member k h.0 h.3)

  abbrev below : ℕ → Bool
  below k = writes_at (slice_get n.modules k)

  below_writes : (k : ℕ) → below k ≡ true → Writes n k
  below_writes k e = by_module (slice_get n.modules k) refl e
    where
      by_module : (o : Option Module) → slice_get n.modules k ≡ o → writes_at o ≡ true → Writes n k
      by_module None q h = absurd (let z : false ≡ true = h in cc)
      by_module (Some m) q h = let x = writer_of m.actions h in (m, x.0, x.1, q, x.2, x.3)

  writes_below : (k : ℕ) → Writes n k → below k ≡ true
  writes_below k h = ap writes_at h.3 ∙ writes_there h.0.actions h.1 h.2 h.4 h.5

  is_top_there : Sound.IsTop n (length modules)
  is_top_there = (w.top, top_there, ap is_top w.is_top.named)

  -- instances of a module that writes stand in top
  holder : (k i of : ℕ) (m : Module) (x : Instance) → slice_get m.instances i ≡ Some x → x.of ≡ of → WritesIn layout modules of → Member k m → (k ≡ length modules) × (m ≡ w.top)
  holder k i of m x e q writes (given f) = absurd (none-some x (ap (λ l. slice_get l i) (sym (sound.alone k m f)) ∙ e))
  holder k i of m x e q writes (top f r) = (f, r)
  holder k i of m x e q writes (round f r) =
      let inside = slice_get_within modules of writes.module_ writes.listed in
      let at : length modules ≡ x.of = only i (ap (λ l. slice_get l i) (sym (ap (λ (z : Module). z.instances) r ∙ w.is_round.instances)) ∙ e) in
      absurd (omega arith)
    where
      only : (i : ℕ) → slice_get (top_instance (length modules) (length layout.cores) ∷ []) i ≡ Some x → length modules ≡ x.of
      only zero g = ap (λ (z : Instance). z.of) (same_Some (top_instance (length modules) (length layout.cores)) x g)
      only (suc i) g = absurd (none-some x g)

  placed_in : (k i of : ℕ) → Places n k i of → below of ≡ true → (k ≡ length modules) × IsOf layout modules i of
  placed_in k i of h e =
      let writes = in_given of (below_writes of e) in
      let t = holder k i of h.0 h.1 h.3 h.4 writes (member k h.0 h.2) in
      let p = soundness.part_of_instance layout modules sound w.top w.is_top i h.1 (ap (λ (z : Module). slice_get z.instances i) (sym t.1) ∙ h.3) in
      (t.0, record { part = p.0; listed = p.1; is = p.2 ∙ h.4 })

  at_top : (k : ℕ) → k ≡ length modules → Sound.IsTop n k
  at_top k e = subst (Sound.IsTop n) (sym e) is_top_there

  printing : IsPrinting n
  printing = record {
    below = below;
    writes = λ k h. inr (writes_below k h);
    holds = λ k i of h e. inl (at_top k (placed_in k i of h e).0);
    one = λ k j a b. sound.one_writes k j (in_given k a) (in_given j b);
    placed = λ k h.
        let p = sound.placed k (in_given k h) in
        let i = soundness.instance_of_part layout modules sound w.top w.is_top p.0 p.1.part p.1.listed in
        inr (length modules, p.0, (w.top, i.0, top_there, i.1, i.2 ∙ p.1.is));
    once = λ k i j l of e a b.
        let x = placed_in k i of a e in
        let y = placed_in j l of b e in
        (x.0 ∙ sym y.0, sound.once of i l (in_given of (below_writes of e)) x.1 y.1);
  }

  filled : 1 ≤ length n.modules
  filled = let l = slice_get_within n.modules (length modules) w.top top_there in omega arith

  pub is_sound : IsSound n
  is_sound = record {
    laid = record { names = names; modules = λ k m e. laid_at k m (member k m e) };
    filled = filled;
    modules = λ k m e. sound_at k m (member k m e);
    printing = printing;
  }

pub nets_are_sound : NetsAreSound
nets_are_sound layout modules n w sound = is_sound layout modules n w sound
