-- The plans of stages, one after another.
use Rattle.std.proofs.Common.{◌≡◌, ℕ, zero, suc, ◌+◌, ◌<◌, ◌≤◌, List, [], ◌∷◌, ◌++◌, length, slice_get, take, Some, refl, ap, subst, ◌∙◌, ◌⊎◌, inl, inr}
use Rattle.std.proofs.Common.{arith, add-one}
use Rattle.std.specs.Prelude.{max}
use Rattle.std.specs.List.{AllByRecursion}
use Rattle.std.proofs.lemmas.Bool.{cases_lt}
use Rattle.std.proofs.lemmas.List.{take_all}
use Rattle.lists.proofs.Places.{take_next}
use Rattle.block_ir.specs.declared.code.Stage.{Stage}
use Rattle.block_ir.specs.declared.code.Stage.TheVariants as stage
use Rattle.block_ir.specs.declared.code.ThreadCode.{ThreadCode}
use Rattle.block_ir.specs.declared.plan.Planned.{Planned}
use Rattle.block_ir.specs.declared.plan.StagePlan.{StagePlan}
use Rattle.block_ir.specs.declared.plan.StagePlan.TheVariants as planned
use Rattle.fsm_plan.specs.Planned.{IsPlannedStage, EachPlanned, StageReaches, SomeReaches, IsPlanned, IsNumbered}
use Rattle.fsm_plan.specs.Stages.{IsPlannedAlone}

-- more registers serve too
stage_more : (n m : ℕ) (s : Stage) (p : StagePlan) → n ≤ m → IsPlannedStage n s p → IsPlannedStage m s p
stage_more n m (stage.Run b) (planned.Run p) l h = (h.0, h.1, (let k = h.2 in omega arith))
stage_more n m (stage.Act a next) planned.Act l h = tt
stage_more n m (stage.Run b) planned.Act l h = absurd h
stage_more n m (stage.Act a next) (planned.Run p) l h = absurd h

each_more : (n m : ℕ) (ss : List Stage) (ps : List StagePlan) → n ≤ m → EachPlanned n ss ps → EachPlanned m ss ps
each_more n m [] [] l h = tt
each_more n m (s ∷ ss) (p ∷ ps) l h = (stage_more n m s p l h.0, each_more n m ss ps l h.1)
each_more n m [] (p ∷ ps) l h = absurd h
each_more n m (s ∷ ss) [] l h = absurd h

each-append : (n : ℕ) (ss : List Stage) (ps : List StagePlan) (s : Stage) (p : StagePlan) → EachPlanned n ss ps → IsPlannedStage n s p → EachPlanned n (ss ++ s ∷ [])
    (ps ++ p ∷ [])
each-append n [] [] s p h one = (one, tt)
each-append n (x ∷ ss) (y ∷ ps) s p h one = (h.0, each-append n ss ps s p h.1 one)
each-append n [] (y ∷ ps) s p h one = absurd h
each-append n (x ∷ ss) [] s p h one = absurd h

reaches_first : (n m : ℕ) (ss : List Stage) (ps : List StagePlan) (s : Stage) (p : StagePlan) → EachPlanned m ss ps → SomeReaches n ss ps → SomeReaches n (ss ++ s ∷ [])
    (ps ++ p ∷ [])
reaches_first n m [] ps s p e h = absurd h
reaches_first n m (x ∷ ss) [] s p e h = absurd h
reaches_first n m (x ∷ ss) (y ∷ ps) s p e (inl h) = inl h
reaches_first n m (x ∷ ss) (y ∷ ps) s p e (inr h) = inr (reaches_first n m ss ps s p e.1 h)

reaches_last : (n m : ℕ) (ss : List Stage) (ps : List StagePlan) (s : Stage) (p : StagePlan) → EachPlanned m ss ps → StageReaches n s p → SomeReaches n (ss ++ s ∷ [])
    (ps ++ p ∷ [])
reaches_last n m [] [] s p e h = inl h
reaches_last n m (x ∷ ss) (y ∷ ps) s p e h = inr (reaches_last n m ss ps s p e.1 h)
reaches_last n m [] (y ∷ ps) s p e h = absurd e
reaches_last n m (x ∷ ss) [] s p e h = absurd e

alone_served : (n count : ℕ) (s : Stage) (p : StagePlan) → IsNumbered s → count ≤ n → IsPlannedAlone s p count → IsPlannedStage n s p
alone_served n count (stage.Run b) (planned.Run p) few l h = (count, h few, l)
alone_served n count (stage.Act a next) planned.Act few l h = tt
alone_served n count (stage.Run b) planned.Act few l h = absurd h
alone_served n count (stage.Act a next) (planned.Run p) few l h = absurd h

alone_reaches : (count : ℕ) (s : Stage) (p : StagePlan) → IsNumbered s → IsPlannedAlone s p count → (count ≡ 0) ⊎ StageReaches count s p
alone_reaches count (stage.Run b) (planned.Run p) few h = inr (h few)
alone_reaches count (stage.Act a next) planned.Act few h = inl h
alone_reaches count (stage.Run b) planned.Act few h = absurd h
alone_reaches count (stage.Act a next) (planned.Run p) few h = absurd h

abbrev pub IsReached : ℕ → List Stage → List StagePlan → Type 0
IsReached n ss ps = (n ≡ 0) ⊎ SomeReaches n ss ps

module _ (ss : List Stage) (ps : List StagePlan) (n : ℕ) (s : Stage) (p : StagePlan) (count : ℕ) (each : EachPlanned n ss ps) (reached : IsReached n ss ps)
    (few : IsNumbered s) (alone : IsPlannedAlone s p count) where
  next_each : EachPlanned (max n count) (ss ++ s ∷ []) (ps ++ p ∷ [])
  next_each = each-append (max n count) ss ps s p (each_more n (max n count) ss ps (grind arith) each) (alone_served (max n count) count s p few (grind arith) alone)

  next_reached : (n < count) ⊎ (count ≤ n) → IsReached (max n count) (ss ++ s ∷ []) (ps ++ p ∷ [])
  next_reached (inl l) =
      let e : count ≡ max n count = grind arith in
      subst (λ (z : ℕ). IsReached z (ss ++ s ∷ []) (ps ++ p ∷ [])) e (by_alone (alone_reaches count s p few alone))
    where
      by_alone : (count ≡ 0) ⊎ StageReaches count s p → IsReached count (ss ++ s ∷ []) (ps ++ p ∷ [])
      by_alone (inl z) = inl z
      by_alone (inr r) = inr (reaches_last count n ss ps s p each r)
  next_reached (inr l) =
      let e : n ≡ max n count = grind arith in
      subst (λ (z : ℕ). IsReached z (ss ++ s ∷ []) (ps ++ p ∷ [])) e (by_before reached)
    where
      by_before : IsReached n ss ps → IsReached n (ss ++ s ∷ []) (ps ++ p ∷ [])
      by_before (inl z) = inl z
      by_before (inr r) = inr (reaches_first n n ss ps s p each r)

numbered_at : (ss : List Stage) (i : ℕ) (s : Stage) → AllByRecursion IsNumbered ss → slice_get ss i ≡ Some s → IsNumbered s
numbered_at [] i s all e = absurd cc
numbered_at (x ∷ ss) zero s all e = let same : x ≡ s = cc in subst IsNumbered same all.0
numbered_at (x ∷ ss) (suc i) s all e = numbered_at ss i s all.1 e

-- what holds of the stages so far
pub record SoFar (n : ℕ) (ss : List Stage) (ps : List StagePlan) : Type 0 where
  pub each : EachPlanned n ss ps
  pub reached : IsReached n ss ps

pub next_stage : (ss : List Stage) (i n m count : ℕ) (s : Stage) (p : StagePlan) (ps qs : List StagePlan) → slice_get ss i ≡ Some s →
    AllByRecursion IsNumbered ss → SoFar n (take i ss) ps → IsPlannedAlone s p count → m ≡ max n count → qs ≡ ps ++ p ∷ [] → SoFar m (take (i + 1) ss) qs
next_stage ss i n m count s p ps qs e all sofar alone f g =
    let t : take (i + 1) ss ≡ take i ss ++ s ∷ [] = ap (λ (k : ℕ). take k ss) (add-one i) ∙ take_next ss i s e in
    rw (f, g, t) (record {
      each = next_each (take i ss) ps n s p count sofar.each sofar.reached (numbered_at ss i s all e) alone;
      reached = next_reached (take i ss) ps n s p count sofar.each sofar.reached (numbered_at ss i s all e) alone (cases_lt n count);
    })

pub planned_code : (code : ThreadCode) (p : Planned) (ss : List Stage) (i : ℕ) → SoFar p.registers (take i ss) p.stages → length ss ≤ i → ss ≡ code.stages → IsPlanned code p
planned_code code p ss i sofar l e =
    let t : take i ss ≡ code.stages = take_all i ss l ∙ e in
    record {
      each = subst (λ (z : List Stage). EachPlanned p.registers z p.stages) t sofar.each;
      reached = subst (λ (z : List Stage). IsReached p.registers z p.stages) t sofar.reached;
    }

pub none_yet : (ss : List Stage) (ps : List StagePlan) → ps ≡ [] → SoFar 0 (take 0 ss) ps
none_yet [] ps e = rw e (record { each = tt; reached = inl refl })
none_yet (s ∷ ss) ps e = rw e (record { each = tt; reached = inl refl })
