-- The choices of the cycles in lockstep, one more at a time.
use Rattle.std.specs.Prelude.{◌≡◌, ℕ, zero, suc, ◌+◌, List, [], ◌∷◌, ◌++◌, length, replicate, Some, slice_get, refl}
use Rattle.std.proofs.Common.{ap, sym, ◌∙◌, subst, ⊎_elim, arith, length-append}
use Rattle.lists.proofs.Places.{get_left}
use Rattle.verilog_meaning.specs.Threads.{all_enabled}
use Rattle.sim_values.specs.declared.settle.Choice as code
use Rattle.sim_layout.specs.Running.{choice_of}
use Rattle.cycle_sim.specs.Lockstep.{AreRounds}
use Rattle.sim_values.proofs.Trees.{get_back, front_or_back}

pub choices_none : (threads prefs : ℕ) (choices : List code.Choice) → choices ≡ [] → AreRounds threads prefs 0 choices
choices_none threads prefs choices e = subst (λ (cs : List code.Choice). AreRounds threads prefs 0 cs) (sym e) (record { long = refl; each = λ k c at. absurd cc })

one_at : (c d : code.Choice) (i k : ℕ) → slice_get (d ∷ []) i ≡ Some c → (i ≡ 0) × (d ≡ c)
one_at c d zero k e = (refl, cc)
one_at c d (suc i) k e = absurd cc

pub choices_more : (threads prefs count : ℕ) (choices new : List code.Choice) (c : code.Choice) → AreRounds threads prefs count choices → choice_of c ≡ all_enabled threads (replicate prefs count)
    → new ≡ choices ++ c ∷ [] → AreRounds threads prefs (count + 1) new
choices_more threads prefs count choices new c is e made =
    subst (λ (cs : List code.Choice). AreRounds threads prefs (count + 1) cs) (sym made) (record {
      long = (let l = is.long in omega (arith, l, length-append choices (c ∷ [])));
      each = λ k d at. ⊎_elim
          (λ less. is.each k d (sym (get_left choices (c ∷ []) k less) ∙ at))
          (λ back.
          let one = one_at d c back.0 k (sym (get_back choices (c ∷ []) k back.0 back.1) ∙ at) in
          let here : count ≡ k = (let l = is.long in let a = back.1 in let b = one.0 in omega (arith, l, a, b)) in
          subst (λ (z : code.Choice). choice_of z ≡ all_enabled threads (replicate prefs k)) one.1 (e ∙ ap (λ n. all_enabled threads (replicate prefs n)) here))
          (front_or_back k (length choices));
    })
