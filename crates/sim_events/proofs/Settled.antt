-- Words in which each step gives what it gives, and which differ from others only where a step gives them, are those that the steps settle.
use Rattle.std.specs.Prelude.{◌≡◌, ℕ, zero, suc, ◌<◌, ◌⊎◌, List, [], ◌∷◌, length, slice_index, slice_set, refl}
use Rattle.std.proofs.Common.{ap, sym, ◌∙◌, subst, inl, inr, ⊎_elim, arith}
use Rattle.std.proofs.lemmas.List.{get_or-set_same, get_or-set_other, ext_get_or}
use Rattle.std.proofs.lemmas.Option.{none-some}
use Rattle.std.proofs.lemmas.Bool.{cases_eq}
use Rattle.std.proofs.Math.ListN.{length-set}
use Rattle.netlist.specs.declared.netlist.Module.{Module}
use Rattle.verilog_meaning.specs.Cycles.{Choice}
use Rattle.verilog_meaning.specs.Threads.{IsOneOf}
use Rattle.sim_values.specs.declared.settle.Step.{Step}
use Rattle.sim_values.specs.Rows.{EachOf}
use Rattle.sim_values.specs.Flat.{Flat, fed, with_numbers, stepped, settled}
use Rattle.sim_values.specs.Order.{reads, InOrder, Takes}
use Rattle.sim_values.proofs.Settles.{each_from, each_to, same_fed}
use Rattle.sim_events.specs.Events.{Touches, Gives, Holds, flat_at}

no_target : (u : Step) (steps : List Step) (y : ℕ) → (y ≡ u.target → ⊥) → ((s : Step) → Takes steps s → s.target ≡ y → ⊥) → (s : Step) → Takes (u ∷ steps) s → s.target ≡ y → ⊥
no_target u steps y apart none s (zero, at) e = let same : u ≡ s = cc in apart (sym e ∙ ap (λ (z : Step). z.target) (sym same))
no_target u steps y apart none s (suc j, at) e = none s (j, at) e

module _ (modules : List Module) where
  pub settles_to : (c : Choice) (known : ℕ → Type 0) (steps : List Step) (f : Flat) (q : List ℕ) → length f.numbers ≡ length q → EachOf (λ (s : Step). s.target < length q) steps
      → InOrder modules known steps → ((y : ℕ) → known y → slice_index f.numbers y ≡ slice_index q y)
      → ((y : ℕ) → ((s : Step) → Takes steps s → s.target ≡ y → ⊥) → slice_index f.numbers y ≡ slice_index q y)
      → ((s : Step) → Takes steps s → Gives modules c (with_numbers f q) s) → settled modules c f steps ≡ q
  settles_to c known [] f q l p o same rest done = ext_get_or 0 f.numbers q l (λ y inside. rest y (λ s t e. none-some s t.1))
  settles_to c known (u ∷ steps) f q l p o same rest done =
      let v = fed modules c f u.feed in
      let next = with_numbers f (stepped modules c f u) in
      let given : v ≡ slice_index q u.target =
      same_fed modules c f f.numbers q u.feed (each_to known (λ y. slice_index f.numbers y ≡ slice_index q y) (reads modules u.feed) same o.0) ∙ sym (done u (0, refl)) in
      let within = p.0 in
      let inside : u.target < length f.numbers = omega (arith, l, within) in
      let here : slice_index (stepped modules c f u) u.target ≡ slice_index q u.target = get_or-set_same f.numbers u.target v 0 inside ∙ given in
      let there : (y : ℕ) → y ≡ u.target → slice_index (stepped modules c f u) y ≡ slice_index q y =
      λ y e. ap (slice_index (stepped modules c f u)) e ∙ here ∙ ap (slice_index q) (sym e) in
      settles_to c (λ y. known y ⊎ (y ≡ u.target)) steps next q (length-set f.numbers u.target v ∙ l) p.1 o.2
      (λ y h. ⊎_elim (λ old. get_or-set_other f.numbers u.target y v 0 (λ e. o.1 (subst known e old)) ∙ same y old) (λ e. there y e) h)
      (λ y none. ⊎_elim
      (λ e. there y e)
      (λ apart. get_or-set_other f.numbers u.target y v 0 apart ∙ rest y (no_target u steps y apart none))
      (cases_eq y u.target))
      (λ s t. done s (suc t.0, t.1))

  -- ---- a word changes that a step does not touch

  pub gives_other : (c : Choice) (f : Flat) (t v : ℕ) (s : Step) → (Touches modules s t → ⊥) → Gives modules c f s → Gives modules c (with_numbers f (slice_set f.numbers t v)) s
  gives_other c f t v s away g =
      get_or-set_other f.numbers t s.target v 0 (λ e. away (inl (sym e))) ∙ g
      ∙ same_fed modules c f f.numbers (slice_set f.numbers t v) s.feed
      (each_from (λ y. slice_index f.numbers y ≡ slice_index (slice_set f.numbers t v) y) (reads modules s.feed)
      (λ y i. sym (get_or-set_other f.numbers t y v 0 (λ e. away (inr (subst (λ z. IsOneOf z (reads modules s.feed)) e i))))))

  pub holds_other : (numbers : List ℕ) (t v : ℕ) (s : Step) → (Touches modules s t → ⊥) → Holds modules numbers s → Holds modules (slice_set numbers t v) s
  holds_other numbers t v s away h = λ c words starts. gives_other c (flat_at numbers words starts) t v s away (h c words starts)

  -- a step that does not read its own word gives it
  pub gives_taken : (c : Choice) (f : Flat) (s : Step) (v : ℕ) → (IsOneOf s.target (reads modules s.feed) → ⊥) → s.target < length f.numbers → v ≡ fed modules c f s.feed
      → Gives modules c (with_numbers f (slice_set f.numbers s.target v)) s
  gives_taken c f s v away inside is =
      get_or-set_same f.numbers s.target v 0 inside ∙ is
      ∙ same_fed modules c f f.numbers (slice_set f.numbers s.target v) s.feed
      (each_from (λ y. slice_index f.numbers y ≡ slice_index (slice_set f.numbers s.target v) y) (reads modules s.feed)
      (λ y i. sym (get_or-set_other f.numbers s.target y v 0 (λ e. away (subst (λ z. IsOneOf z (reads modules s.feed)) e i)))))
