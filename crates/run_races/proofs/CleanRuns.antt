-- A program with a clean run is good and ends; one with an ordered run prints in each interleaving that ends what that run prints.
use Rattle.std.proofs.Common.{◌≡◌, ℕ, suc, ◌+◌, ◌≤◌, List, length, arith, [], ◌∷◌, refl, ap, sym, ◌∙◌, inl, inr}
use Rattle.std.specs.Prelude.{true, false}
use Rattle.c_program.specs.Tree.{Program}
use Rattle.c_program.specs.Resolved.{IsResolved}
use Rattle.thread_semantics.specs.State.{State, start}
use Rattle.thread_semantics.specs.Move.{Move}
use Rattle.thread_semantics.specs.Step.{Steps, is_running, is_live, is_blocked, IsDeadlocked, step, and_steps, after}
use Rattle.race_model.proofs.Sound.{IsSound, goes, start_sound}
use Rattle.run_races.specs.Order.{Depends, DependsOrPrints}
use Rattle.run_races.specs.Clean.{IsOrderedBy, IsClean, IsOrdered, CleanIsGood, CleanEnds, OrderedPrintsOnce}
use Rattle.run_races.proofs.GoodPrograms.{GoesOn, kept_by_steps, good}
use Rattle.run_races.proofs.RemainingRuns.{EndsWith, Counts, still_ordered, still_prints, one_fewer}
use Rattle.run_races.proofs.Swaps.{exchange}

pub clean_is_good : CleanIsGood
clean_is_good P R list clean = good P R (still_ordered Depends (λ m j n d. d) P R (exchange P R)) list clean

-- the output with which a run ends
ends_with : (P : Program) (list : List ℕ) (s t : State) → and_steps P (Steps s) list ≡ Steps t → EndsWith P s list t.output
ends_with P [] s t e = let same : s ≡ t = cc in ap (λ (u : State). u.output) same
ends_with P (i ∷ list) s t e = λ u q. ends_with P list u t (sym (ap (λ o. and_steps P o list) q) ∙ e)

-- where no thread runs, the run that goes on is at its end
at_end : (D : Move → ℕ → Move → Type 0) (P : Program) (s : State) (rest output : List ℕ) → IsSound P s → s.ended ≡ true → IsOrderedBy D P s rest → EndsWith P s rest output →
    s.output ≡ output
at_end D P s [] output sound over ordered ends = ends
at_end D P s (i ∷ rest) output sound over ordered ends =
    let still : is_live s i ≡ false = sound.quiet over i in
    let lives : is_live s i ≡ true = ap is_running (goes P s ordered.0 i ordered.1).at in
    absurd (let no = sym still ∙ lives in cc)

module _ (P : Program) (R : IsResolved P) (output : List ℕ) where
  -- a run goes on that ends with this output
  record Prints (s : State) : Type 0 where
    on : GoesOn DependsOrPrints P s
    ends : EndsWith P s on.rest output

  weaker : (m : Move) (j : ℕ) (n : Move) → Depends m j n → DependsOrPrints m j n
  weaker m j n d = inl d

  counts : Counts DependsOrPrints
  counts m j n both = inr both

  still : (s t : State) (i : ℕ) → Prints s → step P s i ≡ Steps t → Prints t
  still s t i x e = record {
    on = still_ordered DependsOrPrints weaker P R (exchange P R) s t i x.on e;
    ends = still_prints DependsOrPrints weaker P R (exchange P R) s t i x.on e output counts x.ends;
  }

  prints_so : (list : List ℕ) → IsOrdered P (start P) list → EndsWith P (start P) list output → (other : List ℕ) (s : State) → after P other ≡ Steps s → s.ended ≡ true →
      s.output ≡ output
  prints_so list ordered ends other s at over =
      let first : Prints (start P) = record { on = record { sound = start_sound P R; reached = ([], refl); rest = list; ordered = ordered }; ends = ends } in
      let x = kept_by_steps P (λ n u. Prints u) (λ n u v i y e. still u v i y e) other 0 (start P) s first at in
      at_end DependsOrPrints P s x.on.rest output x.on.sound over x.on.ordered x.ends

pub ordered_prints_once : OrderedPrintsOnce
ordered_prints_once P R list ordered t at other s there over = prints_so P R t.output list ordered (ends_with P list (start P) t at) other s there over

module _ (P : Program) (R : IsResolved P) (total : ℕ) where
  -- a run goes on from there, behind so many steps, that has so many in all
  record Within (n : ℕ) (s : State) : Type 0 where
    on : GoesOn Depends P s
    count : n + length on.rest ≡ total

  same : (m : Move) (j : ℕ) (n : Move) → Depends m j n → Depends m j n
  same m j n d = d

  still_within : (n : ℕ) (s t : State) (i : ℕ) → Within n s → step P s i ≡ Steps t → Within (suc n) t
  still_within n s t i x e =
      let y : GoesOn Depends P t = still_ordered Depends same P R (exchange P R) s t i x.on e in
      let fewer : length x.on.rest ≡ suc (length y.rest) = one_fewer Depends same P R (exchange P R) s t i x.on e in
      let all : n + length x.on.rest ≡ total = x.count in
      record { on = y; count = omega arith }

  -- who goes on isn't deadlocked
  none_stuck : (s : State) (rest : List ℕ) → IsOrderedBy Depends P s rest → IsDeadlocked P s → ⊥
  none_stuck s [] over dead = let no = sym over ∙ dead.running in cc
  none_stuck s (i ∷ rest) ordered dead =
      let stuck = dead.stuck i (ap is_running (goes P s ordered.0 i ordered.1).at) in
      let no = sym stuck ∙ ap is_blocked ordered.1 in
      cc

  within : (list : List ℕ) → length list ≡ total → IsClean P (start P) list → (other : List ℕ) (s : State) → after P other ≡ Steps s →
      (length other ≤ total) × (IsDeadlocked P s → ⊥)
  within list count clean other s at =
      let first : Within 0 (start P) = record { on = record { sound = start_sound P R; reached = ([], refl); rest = list; ordered = clean }; count = omega (arith, count) } in
      let x = kept_by_steps P Within still_within other 0 (start P) s first at in
      let all : length other + 0 + length x.on.rest ≡ total = x.count in
      (omega (arith, all), λ dead. none_stuck s x.on.rest x.on.ordered dead)

pub clean_ends : CleanEnds
clean_ends P R list clean other s at = within P R (length list) list refl clean other s at
