-- The plans of the codes of a program's thread functions.
use Rattle.std.proofs.Common.{◌≡◌, ℕ, zero, suc, ◌<◌, ◌^◌, List, [], ◌∷◌, length, map, Option, Some, None, refl, sym, ap, ◌∙◌, subst}
use Rattle.std.specs.Prelude.{option_map, slice_get, string_bytes}
use Rattle.std.specs.List.{AllByRecursion}
use Rattle.std.proofs.lemmas.List.{length-map}
use Rattle.std.proofs.lemmas.Option.{none-some, same_Some, slice_get-map}
use Rattle.c_program.specs.Tree.{Program}
use Rattle.c_program.specs.Weight.{thread_functions}
use Rattle.block_ir.specs.declared.block.Block.{Block}
use Rattle.block_ir.specs.declared.code.Stage.{Stage}
use Rattle.block_ir.specs.declared.code.Stage.TheVariants as stage
use Rattle.block_ir.specs.declared.code.ThreadCode.{ThreadCode}
use Rattle.block_ir.specs.declared.plan.Planned.{Planned}
use Rattle.code_following.specs.Typed.{IsTypedCode}
use Rattle.fsm_plan.specs.Planned.{IsNumbered, IsNumberedCode, IsPlanned, PlannedIsRight}
use Rattle.fsm_plan.specs.Plans as parallel
use Rattle.law_routines.specs.Plans.{IsRoutine}
use Rattle.program_plans.specs.declared.PlannedFunction.{PlannedFunction}
use Rattle.program_plans.specs.Plans.{IsPlannedFunction, ArePlanned, routine_of, PlannedAreRoutines}
use Rattle.program_plans.specs.Steps.{function_name, AreCodes, AreZipped}
use Rattle.program_plans.proofs.CodesInOrder.{code_at}

-- the blocks of a typed code have operations of 32 bits' numbers
each_numbered : (ss : List Stage) → ((l : ℕ) (b : Block) → slice_get ss l ≡ Some (stage.Run b) → length b.operations < 2 ^ 32) → AllByRecursion IsNumbered ss
each_numbered [] h = tt
each_numbered (stage.Run b ∷ ss) h = (h 0 b refl, each_numbered ss (λ l c e. h (suc l) c e))
each_numbered (stage.Act a next ∷ ss) h = (tt, each_numbered ss (λ l c e. h (suc l) c e))

pub is_numbered : (P : Program) (f : ℕ) (code : ThreadCode) → IsTypedCode P f code → IsNumberedCode code
is_numbered P f code typed = each_numbered code.stages (λ l b at. (typed.stages l (stage.Run b) at).few)

-- ---- plans side by side

pub plans_count : (cs : List ThreadCode) (ps : List Planned) → parallel.ArePlanned cs ps → length ps ≡ length cs
plans_count [] [] all = refl
plans_count [] (p ∷ ps) all = absurd all
plans_count (c ∷ cs) [] all = absurd all
plans_count (c ∷ cs) (p ∷ ps) all = ap suc (plans_count cs ps all.1)

plan_at : (cs : List ThreadCode) (ps : List Planned) (k : ℕ) (c : ThreadCode) (p : Planned) → parallel.ArePlanned cs ps → slice_get cs k ≡ Some c →
    slice_get ps k ≡ Some p → IsNumberedCode c → IsPlanned c p
plan_at [] ps k c p all here there numbered = absurd (none-some c here)
plan_at (d ∷ cs) [] k c p all here there numbered = absurd all
plan_at (d ∷ cs) (q ∷ ps) zero c p all here there numbered =
    let same : d ≡ c = same_Some d c here in
    subst (IsPlanned c) (same_Some q p there) (subst (λ (z : ThreadCode). IsPlanned z q) same (all.0 (subst IsNumberedCode (sym same) numbered)))
plan_at (d ∷ cs) (q ∷ ps) (suc k) c p all here there numbered = plan_at cs ps k c p all.1 here there numbered

-- ---- the whole

-- an element of a list that is mapped
mapped_at : {A B : Type 0} (g : A → B) (xs : List A) (ys : List B) (k : ℕ) (x : A) → map g xs ≡ ys → slice_get xs k ≡ Some x → slice_get ys k ≡ Some (g x)
mapped_at g xs ys k x e at = ap (λ l. slice_get l k) (sym e) ∙ slice_get-map g xs k ∙ ap (option_map g) at

module _ (P : Program) (codes : List ThreadCode) (plans : List Planned) (planned : List PlannedFunction) (coded : AreCodes P (thread_functions P) codes)
    (all : parallel.ArePlanned codes plans) (zipped : AreZipped P (thread_functions P) codes plans planned) where
  planned_at : (k f : ℕ) (p : PlannedFunction) → slice_get (thread_functions P) k ≡ Some f → slice_get planned k ≡ Some p → IsPlannedFunction P f p
  planned_at k f p here there =
      let name = mapped_at (λ (q : PlannedFunction). string_bytes q.name) planned (map (function_name P) (thread_functions P)) k p zipped.names_are there in
      let wanted = mapped_at (function_name P) (thread_functions P) (map (function_name P) (thread_functions P)) k f refl here in
      let at_code = mapped_at (λ (q : PlannedFunction). q.code) planned codes k p zipped.codes_are there in
      let at_plan = mapped_at (λ (q : PlannedFunction). q.plan) planned plans k p zipped.plans_are there in
      let is = code_at P (thread_functions P) codes k f p.code coded here at_code in
      record {
        named = same_Some (string_bytes p.name) (function_name P f) (sym name ∙ wanted);
        code = is.code;
        maximal = is.maximal;
        planned = plan_at codes plans k p.code p.plan all at_code at_plan (is_numbered P f p.code is.code.typed);
      }

  pub are_planned : ArePlanned P planned
  are_planned = record {
    count =
        sym (length-map planned (λ (q : PlannedFunction). string_bytes q.name)) ∙ ap length zipped.names_are ∙ length-map (thread_functions P) (function_name P);
    each = planned_at;
  }

-- ---- each planned function is a routine

pub planned_are_routines : PlannedIsRight → PlannedAreRoutines
planned_are_routines right P plans all k f c here there = by (slice_get plans k) refl (sym (slice_get-map routine_of plans k) ∙ there)
  where
    by : (o : Option PlannedFunction) → slice_get plans k ≡ o → option_map routine_of o ≡ Some c → IsRoutine P f c
    by None at e = absurd (none-some c e)
    by (Some p) at e =
        let is = all.each k f p here at in
        subst (IsRoutine P f) (same_Some (routine_of p) c e) (record { code = is.code; plan = right p.code p.plan is.planned })
