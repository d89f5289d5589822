-- Steps in order settle the places that they give, and change no place that was known.
use Rattle.std.specs.Prelude.{◌≡◌, ℕ, zero, suc, ◌+◌, ◌<◌, ◌⊎◌, nat_eq, List, [], ◌∷◌, map, length, Option, Some, None, slice_get, slice_index, refl}
use Rattle.std.proofs.Common.{ap, sym, ◌∙◌, subst, inl, inr, ⊎_elim, arith}
use Rattle.std.proofs.lemmas.List.{get_or-set_same, get_or-set_other}
use Rattle.std.proofs.Math.ListN.{length-set}
use Rattle.std.proofs.lemmas.Bool.{cases_eq, ne_eqb, eq-eqb, cond-false, cond-true}
use Rattle.hls_ints.specs.Words.{word}
use Rattle.netlist.specs.declared.netlist.Source.{Source}
use Rattle.netlist.specs.declared.netlist.Source.TheVariants.{Input, Register, Assigned, Port}
use Rattle.netlist.specs.declared.netlist.Signal.{Signal}
use Rattle.netlist.specs.declared.netlist.Module.{Module}
use Rattle.circuit.specs.Cycles.{Choice}
use Rattle.circuit.specs.Threads.{operands, IsOneOf}
use Rattle.circuit.proofs.Operands.{Agree, same_value}
use Rattle.sim_values.specs.declared.value.Spot.{Spot}
use Rattle.sim_values.specs.declared.settle.Feed.{Feed}
use Rattle.sim_values.specs.declared.settle.Feed.TheVariants.{Zero, Enables, Preferred, Copied, Computed}
use Rattle.sim_values.specs.declared.settle.Step.{Step}
use Rattle.circuit.specs.Rows.{EachOf}
use Rattle.sim_values.specs.Flat.{Flat, reading, fed, source_number, signal_number, module_number, with_numbers, stepped, settled}
use Rattle.sim_values.specs.Order.{source_reads, signal_reads, module_reads, reads, InOrder, rank}

pub each_one : (P : ℕ → Type 0) (base : ℕ) (xs : List ℕ) → EachOf P (map (λ y. base + y) xs) → (x : ℕ) → IsOneOf x xs → P (base + x)
each_one P base [] e x i = absurd i
each_one P base (y ∷ ys) e x (inl same) = subst (λ z. P (base + z)) (sym same) e.0
each_one P base (y ∷ ys) e x (inr i) = each_one P base ys e.1 x i

pub each_from : (P : ℕ → Type 0) (xs : List ℕ) → ((x : ℕ) → IsOneOf x xs → P x) → EachOf P xs
each_from P [] f = tt
each_from P (x ∷ xs) f = (f x (inl refl), each_from P xs (λ y i. f y (inr i)))

pub each_to : {X : Type 0} (P Q : X → Type 0) (xs : List X) → ((x : X) → P x → Q x) → EachOf P xs → EachOf Q xs
each_to P Q [] f e = tt
each_to P Q (x ∷ xs) f e = (f x e.0, each_to P Q xs f e.1)

-- two lists of words are the same at these places
abbrev pub Alike : List ℕ → List ℕ → List ℕ → Type 0
Alike ns qs places = EachOf (λ k. slice_index ns k ≡ slice_index qs k) places

same_source : (f : Flat) (ns qs : List ℕ) (m : Module) (spot : Spot) (source : Source) → Alike ns qs (source_reads spot.base source)
    → source_number m (reading spot (with_numbers f ns)) source ≡ source_number m (reading spot (with_numbers f qs)) source
same_source f ns qs m spot Input a = refl
same_source f ns qs m spot (Register n) a = refl
same_source f ns qs m spot (Port i port) a = refl
same_source f ns qs m spot (Assigned v) a =
    let agree : Agree (operands v) (reading spot (with_numbers f ns)) (reading spot (with_numbers f qs)) =
    record { signals = each_one (λ k. slice_index ns k ≡ slice_index qs k) spot.base (operands v) a; words = λ j k. refl } in
    ap (word 64) (same_value m (reading spot (with_numbers f ns)) (reading spot (with_numbers f qs)) v agree)

same_signal : (f : Flat) (ns qs : List ℕ) (m : Module) (spot : Spot) (s : Option Signal) → Alike ns qs (signal_reads spot.base s)
    → signal_number m (reading spot (with_numbers f ns)) s ≡ signal_number m (reading spot (with_numbers f qs)) s
same_signal f ns qs m spot None a = refl
same_signal f ns qs m spot (Some s) a = same_source f ns qs m spot s.source a

same_module : (f : Flat) (ns qs : List ℕ) (spot : Spot) (x : ℕ) (m : Option Module) → Alike ns qs (module_reads spot.base x m)
    → module_number (reading spot (with_numbers f ns)) x m ≡ module_number (reading spot (with_numbers f qs)) x m
same_module f ns qs spot x None a = refl
same_module f ns qs spot x (Some m) a = same_signal f ns qs m spot (slice_get m.signals x) a

module _ (modules : List Module) (c : Choice) where
  pub same_fed : (f : Flat) (ns qs : List ℕ) (feed : Feed) → Alike ns qs (reads modules feed) → fed modules c (with_numbers f ns) feed ≡ fed modules c (with_numbers f qs) feed
  same_fed f ns qs Zero a = refl
  same_fed f ns qs Enables a = refl
  same_fed f ns qs (Preferred k) a = refl
  same_fed f ns qs (Copied from) a = a.0
  same_fed f ns qs (Computed k x spot) a = same_module f ns qs spot x (slice_get modules k) a

  pub settled-length : (steps : List Step) (f : Flat) → length (settled modules c f steps) ≡ length f.numbers
  settled-length [] f = refl
  settled-length (s ∷ steps) f = settled-length steps (with_numbers f (stepped modules c f s)) ∙ length-set f.numbers s.target (fed modules c f s.feed)

  pub settled-known : (known : ℕ → Type 0) (steps : List Step) (f : Flat) (k : ℕ) → InOrder modules known steps → known k
      → slice_index (settled modules c f steps) k ≡ slice_index f.numbers k
  settled-known known [] f k o h = refl
  settled-known known (s ∷ steps) f k o h =
      settled-known (λ j. known j ⊎ (j ≡ s.target)) steps (with_numbers f (stepped modules c f s)) k o.2 (inl h)
      ∙ get_or-set_other f.numbers s.target k (fed modules c f s.feed) 0 (λ e. o.1 (subst known e h))

  -- after the steps each holds
  pub settled-settles : (known : ℕ → Type 0) (n : ℕ) (steps : List Step) (f : Flat) → length f.numbers ≡ n → EachOf (λ (s : Step). s.target < n) steps → InOrder modules known steps
      → EachOf (λ (s : Step). slice_index (settled modules c f steps) s.target ≡ fed modules c (with_numbers f (settled modules c f steps)) s.feed) steps
  settled-settles known n [] f l p o = tt
  settled-settles known n (s ∷ steps) f l p o =
      let v = fed modules c f s.feed in
      let next = with_numbers f (stepped modules c f s) in
      let known' : ℕ → Type 0 = λ j. known j ⊎ (j ≡ s.target) in
      let q = settled modules c next steps in
      let long : s.target < length f.numbers = subst (λ (m : ℕ). s.target < m) (sym l) p.0 in
      let here : slice_index q s.target ≡ v = settled-known known' steps next s.target o.2 (inr refl) ∙ get_or-set_same f.numbers s.target v 0 long in
      let same : v ≡ fed modules c (with_numbers f q) s.feed =
      same_fed f f.numbers q s.feed (each_to known (λ k. slice_index f.numbers k ≡ slice_index q k) (reads modules s.feed) (λ k h. sym (settled-known known (s ∷ steps) f k o h)) o.0) in
      (here ∙ same, settled-settles known' n steps next (length-set f.numbers s.target v ∙ l) p.1 o.2)

-- ---- ranks

rank_here : (i : ℕ) (s : Step) (steps : List Step) (k : ℕ) → s.target ≡ k → rank i (s ∷ steps) k ≡ i + 1
rank_here i s steps k e = cond-true (nat_eq s.target k) (i + 1) (rank (i + 1) steps k) (eq-eqb s.target k e)

rank_later : (i : ℕ) (s : Step) (steps : List Step) (k : ℕ) → (s.target ≡ k → ⊥) → rank i (s ∷ steps) k ≡ rank (i + 1) steps k
rank_later i s steps k e = cond-false (nat_eq s.target k) (i + 1) (rank (i + 1) steps k) (ne_eqb s.target k e)

module _ (modules : List Module) where
  pub rank_known : (known : ℕ → Type 0) (i : ℕ) (steps : List Step) (k : ℕ) → InOrder modules known steps → known k → rank i steps k ≡ 0
  rank_known known i [] k o h = refl
  rank_known known i (s ∷ steps) k o h =
      rank_later i s steps k (λ e. o.1 (subst known (sym e) h)) ∙ rank_known (λ j. known j ⊎ (j ≡ s.target)) (i + 1) steps k o.2 (inl h)

  -- a step gives what was not known
  pub gives_new : (known : ℕ → Type 0) (steps : List Step) (j k : ℕ) (s : Step) → InOrder modules known steps → slice_get steps j ≡ Some s → known k → s.target ≡ k → ⊥
  gives_new known [] j k s o at h e = absurd cc
  gives_new known (t ∷ steps) zero k s o at h e = let same : t ≡ s = cc in o.1 (subst known (sym (ap (λ (u : Step). u.target) same ∙ e)) h)
  gives_new known (t ∷ steps) (suc j) k s o at h e = gives_new (λ x. known x ⊎ (x ≡ t.target)) steps j k s o.2 at (inl h) e

  rank_above : (known : ℕ → Type 0) (i : ℕ) (steps : List Step) (j : ℕ) (s : Step) → InOrder modules known steps → slice_get steps j ≡ Some s → i < rank i steps s.target
  rank_above known i [] j s o at = absurd cc
  rank_above known i (t ∷ steps) zero s o at =
      let same : t ≡ s = cc in
      let e = rank_here i t steps s.target (ap (λ (u : Step). u.target) same) in omega arith
  rank_above known i (t ∷ steps) (suc j) s o at =
      let known' : ℕ → Type 0 = λ x. known x ⊎ (x ≡ t.target) in
      let e = rank_later i t steps s.target (λ q. gives_new known' steps j t.target s o.2 at (inr refl) (sym q)) in
      let r = rank_above known' (i + 1) steps j s o.2 at in omega arith

  -- what a step reads has a lower rank than what it gives
  pub rank_reads : (known : ℕ → Type 0) (i : ℕ) (steps : List Step) (j : ℕ) (s : Step) → InOrder modules known steps → slice_get steps j ≡ Some s
      → EachOf (λ y. rank i steps y < rank i steps s.target) (reads modules s.feed)
  rank_reads known i [] j s o at = absurd cc
  rank_reads known i (t ∷ steps) zero s o at =
      let same : t ≡ s = cc in
      let e = rank_here i t steps s.target (ap (λ (u : Step). u.target) same) in
      each_to known (λ y. rank i (t ∷ steps) y < rank i (t ∷ steps) s.target) (reads modules s.feed)
      (λ y h. let z = rank_known known i (t ∷ steps) y o h in omega arith)
      (subst (λ (u : Step). EachOf known (reads modules u.feed)) same o.0)
  rank_reads known i (t ∷ steps) (suc j) s o at =
      let known' : ℕ → Type 0 = λ x. known x ⊎ (x ≡ t.target) in
      let e = rank_later i t steps s.target (λ q. gives_new known' steps j t.target s o.2 at (inr refl) (sym q)) in
      let above = rank_above known' (i + 1) steps j s o.2 at in
      each_to (λ y. rank (i + 1) steps y < rank (i + 1) steps s.target) (λ y. rank i (t ∷ steps) y < rank i (t ∷ steps) s.target) (reads modules s.feed)
      (λ y l. ⊎_elim
      (λ same. let h = rank_here i t steps y same in omega arith)
      (λ apart. let h = rank_later i t steps y apart in omega arith)
      (cases_eq t.target y))
      (rank_reads known' (i + 1) steps j s o.2 at)
