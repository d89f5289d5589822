-- Who waits somewhere, where one barrier changes.
use Rattle.std.specs.Prelude.{Bool, true, false, ◌||◌, nat_eq, Option, Some, None, slice_get, slice_set}
use Rattle.std.specs.List.{AllByRecursion, list_any}
use Rattle.std.proofs.Common.{◌≡◌, ℕ, zero, suc, ◌<◌, List, [], ◌∷◌, refl, ap, ap₂, sym, ◌∙◌}
use Rattle.std.proofs.Math.Bool.{or-true}
use Rattle.planned_block.proofs.Bits.{same_is}
use Rattle.thread_semantics.specs.State.{Frame, Slot, Unused, Running, Finished}
use Rattle.thread_semantics.specs.Step.{is_running}

module _ {A : Type 0} (p : A → Bool) where
  pub any_set_same : (xs : List A) (n : ℕ) (a b : A) → slice_get xs n ≡ Some b → p a ≡ p b → list_any p (slice_set xs n a) ≡ list_any p xs
  any_set_same [] n a b e same = refl
  any_set_same (x ∷ xs) zero a b e same = let here : x ≡ b = cc in ap (λ (z : Bool). z || list_any p xs) (same ∙ ap p (sym here))
  any_set_same (x ∷ xs) (suc n) a b e same = ap (λ (z : Bool). p x || z) (any_set_same xs n a b e same)

  pub none_any : (xs : List A) → ((m : ℕ) (b : A) → slice_get xs m ≡ Some b → p b ≡ false) → list_any p xs ≡ false
  none_any [] each = refl
  none_any (x ∷ xs) each = ap₂ (λ (a b : Bool). a || b) (each 0 x refl) (none_any xs (λ m b e. each (suc m) b e))

pub all_below : (T : ℕ) (ws : List ℕ) → ((w : ℕ) → list_any (nat_eq w) ws ≡ true → w < T) → AllByRecursion (λ w. w < T) ws
all_below T [] each = tt
all_below T (w ∷ ws) each =
    (each w (ap (λ (z : Bool). z || list_any (nat_eq w) ws) (same_is w w refl)), all_below T ws (λ v e. each v (ap (λ (z : Bool). nat_eq v w || z) e ∙ or-true (nat_eq v w))))

pub live_frames : (o : Option Slot) → is_running o ≡ true → (frames : List Frame) × (o ≡ Some (Running frames))
live_frames None e = absurd cc
live_frames (Some Unused) e = absurd cc
live_frames (Some (Running frames)) e = (frames, refl)
live_frames (Some Finished) e = absurd cc
