-- A run of which each step was noted, and what remains to be shown of how it goes on.
use Rattle.std.proofs.Common.{◌≡◌, ℕ, zero, suc, ◌+◌, ◌<◌, length, take, get_or, replicate, List, [], ◌∷◌, ◌++◌, refl, ap, sym, ◌∙◌, subst, append_assoc}
use Rattle.std.specs.Prelude.{◌⊎◌, Bool, true, false, ◌||◌, nat_eq}
use Rattle.std.proofs.lemmas.List.{append-nil, take_more}
use Rattle.c_program.specs.Tree.{Program}
use Rattle.thread_semantics.specs.State.{State, start}
use Rattle.thread_semantics.specs.Move.{Move}
use Rattle.thread_semantics.specs.Step.{Stepped, Steps, Blocks, Undefines, step, and_steps, after}
use Rattle.thread_semantics.specs.Races.{touched}
use Rattle.turns.specs.declared.Turn.{Turn}
use Rattle.turns.specs.Turns.{threads_of}
use Rattle.run_check.specs.Race.{LeadsTo, IsTurnTaken}
use Rattle.run_races.specs.Order.{next_move, told, Meet, Depends, DependsOrPrints, AllOrderedBy}
use Rattle.run_races.specs.Clean.{IsOrderedBy, IsClean, IsOrdered}
use Rattle.run_check.specs.Class.{class_of, released_by}
use Rattle.run_check.specs.Shadow.{Shadow, IsNoted}
use Rattle.run_check.specs.Shown.{HasPeaks, StandsFor, GoesOn, IsOf, IsShown}
use Rattle.run_check.proofs.Traces.{one_more_of, prints_lost}
use Rattle.run_check.proofs.Ordered.{ordered, ordered_prints, stays, stands_new, noted_peaks}

pub and_step : (P : Program) (stepped : Stepped) (list : List ℕ) (s t : State) (j : ℕ) → and_steps P stepped list ≡ Steps s → step P s j ≡ Steps t →
    and_steps P stepped (list ++ j ∷ []) ≡ Steps t
and_step P (Steps u) [] s t j e q = let same : u ≡ s = cc in ap (λ v. step P v j) same ∙ q
and_step P (Blocks cause) [] s t j e q = absurd cc
and_step P (Undefines offset cause) [] s t j e q = absurd cc
and_step P (Steps u) (i ∷ list) s t j e q = and_step P (step P u i) list s t j e q
and_step P (Blocks cause) (i ∷ list) s t j e q = absurd cc
and_step P (Undefines offset cause) (i ∷ list) s t j e q = absurd cc

pub after_step : (P : Program) (list : List ℕ) (s t : State) (j : ℕ) → after P list ≡ Steps s → step P s j ≡ Steps t → after P (list ++ j ∷ []) ≡ Steps t
after_step P list s t j e q = and_step P (Steps (start P)) list s t j e q

pub none_shown : (P : Program) (K : Shadow) → HasPeaks K.clock → IsOf P [] K → K.one_output ≡ true → IsShown P [] (start P) K
none_shown P K peaks kept one = record {
  taken = refl;
  peaks = peaks;
  kept = kept;
  clean = λ rest all clean. clean;
  outputs = λ one rest all clean. clean;
  outputs_lost = λ none. absurd (let no = sym one ∙ none in cc);
}

-- what is kept of a run behind one more step, by a dependence of which the step happens behind all
goes_on : (D : Move → ℕ → Move → Type 0) (P : Program) (list : List ℕ) (s t : State) (j : ℕ) (K K' : Shadow) → HasPeaks K.clock → (steps : step P s j ≡ Steps t) →
    IsNoted K K' j (class_of (next_move P s j)) (touched (next_move P s j)) (released_by s j (class_of (next_move P s j))) t.ended →
    ((i : ℕ) (m : Move) (h : ℕ → Bool) (again : Bool) → StandsFor s K i m h again → D m j (next_move P s j) → (h j ≡ true) ⊎ Meet s i m again (next_move P s j)) →
    GoesOn D P list s K → GoesOn D P (list ++ j ∷ []) t K'
goes_on D P list s t j K K' peaks steps x behind on = λ rest all clean.
    subst (λ l. IsOrderedBy D P (start P) l) (sym (append_assoc list (j ∷ []) rest))
    (on (j ∷ rest)
    (λ i m h again y. (
      behind i m h again y,
      (λ u e.
          let same : t ≡ u = cc in
          subst (λ v. AllOrderedBy D P i m (told s j (next_move P s j) h) (again || nat_eq j i) v rest) same
          (all i m (told s j (next_move P s j) h) (again || nat_eq j i) (stays P s t j K K' steps peaks x i m h again y))),
    )) (
      t,
      steps,
      all j (next_move P s j) (told s j (next_move P s j) (nat_eq j)) false (stands_new P s t j K K' steps peaks x),
      clean,
    ))

pub one_more : (P : Program) (list : List ℕ) (s t : State) (j : ℕ) (K K' : Shadow) → IsShown P list s K → step P s j ≡ Steps t →
    IsNoted K K' j (class_of (next_move P s j)) (touched (next_move P s j)) (released_by s j (class_of (next_move P s j))) t.ended →
    IsShown P (list ++ j ∷ []) t K'
one_more P list s t j K K' z steps x = record {
  taken = after_step P list s t j z.taken steps;
  peaks = noted_peaks P s t j K K' steps z.peaks x;
  kept = one_more_of P list s t j K K' z.taken z.peaks x z.kept;
  clean = goes_on Depends P list s t j K K' z.peaks steps x (ordered P s t j K K' steps z.peaks x) z.clean;
  outputs = λ one.
      goes_on DependsOrPrints P list s t j K K' z.peaks steps x
      (λ i m h again y. ordered_prints P s t j K K' steps z.peaks x i m h again y one) (z.outputs (x.outputs one).0);
  outputs_lost = λ none. prints_lost P list s t j K K' z.taken z.peaks x z.kept z.outputs_lost none;
}

pub all_shown : (P : Program) (list : List ℕ) (s : State) (K : Shadow) → IsShown P list s K → s.ended ≡ true → IsClean P (start P) list
all_shown P list s K z ended =
    subst (λ l. IsClean P (start P) l) (append-nil list) (z.clean [] (λ i m h again y. tt) ended)

pub all_ordered : (P : Program) (list : List ℕ) (s : State) (K : Shadow) → IsShown P list s K → s.ended ≡ true → K.one_output ≡ true → IsOrdered P (start P) list
all_ordered P list s K z ended one =
    subst (λ l. IsOrdered P (start P) l) (append-nil list) (z.outputs one [] (λ i m h again y. tt) ended)

pub replicate_more : (n x : ℕ) → replicate n x ++ x ∷ [] ≡ replicate (suc n) x
replicate_more zero x = refl
replicate_more (suc n) x = ap (λ l. x ∷ l) (replicate_more n x)

and_all : (P : Program) (stepped : Stepped) (xs ys : List ℕ) (s t : State) → and_steps P stepped xs ≡ Steps s → and_steps P (Steps s) ys ≡ Steps t →
    and_steps P stepped (xs ++ ys) ≡ Steps t
and_all P stepped [] ys s t e q = subst (λ x. and_steps P x ys ≡ Steps t) (sym e) q
and_all P (Steps u) (i ∷ xs) ys s t e q = and_all P (step P u i) xs ys s t e q
and_all P (Blocks cause) (i ∷ xs) ys s t e q = absurd cc
and_all P (Undefines offset cause) (i ∷ xs) ys s t e q = absurd cc

threads_joined : (xs ys : List Turn) → threads_of (xs ++ ys) ≡ threads_of xs ++ threads_of ys
threads_joined [] ys = refl
threads_joined (t ∷ xs) ys = ap (λ l. replicate t.steps t.thread ++ l) (threads_joined xs ys) ∙ sym (append_assoc (replicate t.steps t.thread) (threads_of xs) (threads_of ys))

pub threads_last : (xs : List Turn) (t : Turn) → threads_of (xs ++ t ∷ []) ≡ threads_of xs ++ replicate t.steps t.thread
threads_last xs t = threads_joined xs (t ∷ []) ∙ ap (λ l. threads_of xs ++ l) (append-nil (replicate t.steps t.thread))

pub none_lead : (P : Program) (s : State) → s ≡ start P → LeadsTo P [] s
none_lead P s is = subst (λ u. LeadsTo P [] u) (sym is) (record { taken = refl; running = refl })

pub leads_more : (P : Program) (turns : List Turn) (k : ℕ) (d : Turn) (s t : State) → k < length turns → LeadsTo P (take k turns) s →
    IsTurnTaken P s (get_or turns k d) t → LeadsTo P (take (k + 1) turns) t
leads_more P turns k d s t lt x y =
    let turn = get_or turns k d in
    let list : threads_of (take (k + 1) turns) ≡ threads_of (take k turns) ++ replicate turn.steps turn.thread =
    ap threads_of (take_more turns k d lt) ∙ threads_last (take k turns) turn in
    record {
      taken =
          subst (λ l. after P l ≡ Steps t) (sym list)
          (and_all P (Steps (start P)) (threads_of (take k turns)) (replicate turn.steps turn.thread) s t x.taken y.taken);
      running = y.running x.running;
    }
