-- Rounds that keep nothing but the starts.
use Rattle.std.proofs.Common.{◌≡◌, ℕ, ◌<◌, ◌+◌, List, length, get_or, take, sym, ◌∙◌, Bool, true}
use Rattle.std.specs.List.{All, Contains}
use Rattle.std.proofs.lemmas.List.{length-set}
use Rattle.schedule_sdc.specs.declared.constraint.Constraint.{Constraint}
use Rattle.schedule_sdc.specs.declared.relax.Lift.{Lift}
use Rattle.schedule_sdc.specs.declared.relax.Lift.TheVariants.{Kept, Raised}
use Rattle.schedule_sdc.specs.Relaxed.{AreEarly, IsLift, IsRise}
use Rattle.schedule_sdc.proofs.Rounds.{IsRound, round_kept, round_raised, still_early, larger}

pub record InRelaxedRound (list : List Constraint) (first starts : List ℕ) (raised : Bool) (old : List ℕ) (k : ℕ) : Type 0 where
  pub count : length starts ≡ length first
  pub early : AreEarly list (length first) starts
  pub round : IsRound raised old starts (take k list)

module _ (list : List Constraint) (first starts : List ℕ) (raised : Bool) (old : List ℕ) (k : ℕ) (now : InRelaxedRound list first starts raised old k) (l : k < length list)
    (c : Constraint) (is : c ≡ get_or list k c) (inside : All (λ d. (d.from < length first) × (d.to < length first)) list) (newer : List ℕ) (change : Lift)
    (does : IsLift c starts newer change) where
  pub lift_kept : (b : Bool) → change ≡ Kept → b ≡ raised → InRelaxedRound list first newer b old (k + 1)
  lift_kept b e f =
      let d : IsLift c starts newer Kept = rw e at does in
      let s : newer ≡ starts = sym d.0 in
      record {
        count = rw s now.count;
        early = rw s now.early;
        round = rw f (round_kept raised old starts newer list k c l is d.0 d.1 now.round);
      }

  pub lift_raised : (b : Bool) → change ≡ Raised → b ≡ true → InRelaxedRound list first newer b old (k + 1)
  lift_raised b e f =
      let d : IsLift c starts newer Raised = rw e at does in
      let listed : Contains list c = (k, l, sym is) in
      let rise : IsRise c starts newer = d in
      record {
        count = rw d.1 (length-set starts c.to d.0 ∙ now.count);
        early = still_early list (length first) starts newer now.count now.early c listed inside rise;
        round = rw f (round_raised raised old starts newer (take k list) (larger list (length first) starts newer now.count c listed inside rise) now.round);
      }
