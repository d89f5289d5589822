-- The code of each function that threads run, by a right plan, is code as the machine and the theory need it.
use Rattle.std.specs.Prelude.{Bool, if◌then◌else◌, Option, Some, None, slice_get}
use Rattle.std.specs.List.{flat_map}
use Rattle.std.proofs.Common.{◌≡◌, ◌≢◌, ℕ, zero, suc, ◌+◌, ◌*◌, ◌<◌, ◌≤◌, List, [], ◌∷◌, ◌++◌, length, replicate, refl, sym, ap, ◌∙◌, subst, ⊎_elim, arith, ℤ}
use Rattle.std.proofs.lemmas.Option.{slice_get_within}
use Rattle.lists.proofs.Places.{get_nothing}
use Rattle.hls_ints.specs.Types.{IntegerType}
use Rattle.c_program.specs.declared.tree.ThreadObject.{ThreadObject}
use Rattle.c_program.specs.Tree.{Program}
use Rattle.c_program.specs.Weight.{weight, hardware_routines}
use Rattle.c_program.specs.Resolved.{IsResolved, IsRoutineAt}
use Rattle.c_program.proofs.Runners.{runners_are_threads}
use Rattle.block_ir.specs.declared.block.Operation.{Operation}
use Rattle.block_ir.specs.declared.block.Next.{Next}
use Rattle.block_ir.specs.declared.block.Next.TheVariants.{Jump, Branch}
use Rattle.block_ir.specs.declared.block.Block.{Block}
use Rattle.block_ir.specs.declared.code.Act.TheVariants as act
use Rattle.block_ir.specs.declared.code.Stage.{Stage}
use Rattle.block_ir.specs.declared.code.Stage.TheVariants as stage
use Rattle.block_ir.specs.declared.plan.StagePlan.{StagePlan}
use Rattle.bank_partition.specs.Shapes.{spreads_from}
use Rattle.code_following.specs.Typed.{types_of, most_operations, BeginsWith, IsTypedNext, IsTypedStage}
use Rattle.code_following.proofs.Arguments.{main_takes_none}
use Rattle.planned_block.proofs.Bits.{less_is, not_less_is, less_or_not}
use Rattle.planned_block.specs.Following.{own_latencies, AreChains, no_spare}
use Rattle.planned_block.specs.Block.{Operand, leads_to}
use Rattle.block_refine.specs.Threads.{block_at, plan_at}
use Rattle.block_refine.specs.Routines.{RoutineCode, Codes, stage_at, rest_of, blocks_of, plans_of, ArePlanned}
use Rattle.law_threads.specs.Laws.{AreChainsThere, AreCoded}
use Rattle.law_cycle.specs.Thread.{LeadsBelow, StageLeads}
use Rattle.law_cycle.specs.Built.{IsCode}
use Rattle.law_routines.specs.Plans.{IsRoutine, AreRoutines, stage_chain, chain_of, RoutinesAreCoded, RoutinesAreCode}
use Rattle.law_routines.proofs.Chains.{goes_within, planned_at, short, holds, stepless, low}
use Rattle.law_routines.proofs.Whole.{planned}

-- ---- one function

module _ (P : Program) (threads : List ℕ) (f : ℕ) (c : RoutineCode) (is : IsRoutine P f c) where
  leads : (before : List Operation) (to : Next) → IsTypedNext (types_of P c.code) (length c.code.stages) before to → LeadsBelow (length c.code.stages) to
  leads before (Jump l) h = h
  leads before (Branch test l k) h = (h.1, h.2)

  stage_leads : (s : Stage) → IsTypedStage (types_of P c.code) P (length c.code.stages) (most_operations P c.code.stages) s → StageLeads (length c.code.stages) s
  stage_leads (stage.Run b) h = leads b.operations b.next h.next
  stage_leads (stage.Act (act.Print site values) next) h = h.1
  stage_leads (stage.Act act.Return next) h = tt
  stage_leads (stage.Act (act.Create thread argument) next) h = h.1
  stage_leads (stage.Act (act.Join thread) next) h = h.1
  stage_leads (stage.Act (act.MutexInit mutex) next) h = h.1
  stage_leads (stage.Act (act.MutexDestroy mutex) next) h = h.1
  stage_leads (stage.Act (act.MutexLock mutex) next) h = h.1
  stage_leads (stage.Act (act.MutexUnlock mutex) next) h = h.1
  stage_leads (stage.Act (act.BarrierInit barrier count) next) h = h.1
  stage_leads (stage.Act (act.BarrierDestroy barrier) next) h = h.1
  stage_leads (stage.Act (act.BarrierWait barrier) next) h = h.1

  routine_is_code : IsCode P (spreads_from threads 0 0 P.globals) c 4
  routine_is_code = record {
    leads = λ l s at. stage_leads s (is.code.typed.stages l s at);
    planned = planned P threads f c.code c.plan is.code.typed is.plan;
    few = λ l site next values at. (is.code.typed.stages l (stage.Act (act.Print site values) next) at).0.few;
    prints = λ l site next values format at at_site. (is.code.typed.stages l (stage.Act (act.Print site values) next) at).0.counted format at_site;
  }

-- code of no stages
empty_is_code : (P : Program) (threads : List ℕ) (c : RoutineCode) → c.code.stages ≡ [] → IsCode P (spreads_from threads 0 0 P.globals) c 4
empty_is_code P threads c none = record {
  leads = λ l s at. absurd (get_nothing c.code.stages l s none at);
  planned = λ l b at. absurd (get_nothing c.code.stages l (stage.Run b) none at);
  few = λ l site next values at. absurd (get_nothing c.code.stages l (stage.Act (act.Print site values) next) none at);
  prints = λ l site next values format at at_site. absurd (get_nothing c.code.stages l (stage.Act (act.Print site values) next) none at);
}

pub routines_are_code : RoutinesAreCode
routines_are_code P threads codes are f =
    ⊎_elim (λ is. routine_is_code P threads f (codes f) is) (λ none. empty_is_code P threads (codes f) none) (are.each f)

-- ---- who runs on a hardware thread but main's is a start routine

module _ (P : Program) (R : IsResolved P) (f : ℕ) where
  in_part : (l k : ℕ) (r : Option ℕ) (rest : List (Option ℕ)) (Q : Type 0) → (r ≡ Some f → Q) → ((j : ℕ) → slice_get rest j ≡ Some (Some f) → Q) →
      slice_get (replicate l r ++ rest) k ≡ Some (Some f) → Q
  in_part zero k r rest Q here there e = there k e
  in_part (suc l) zero r rest Q here there e = here cc
  in_part (suc l) (suc k) r rest Q here there e = in_part l k r rest Q here there e

  routine_at : (os : List ThreadObject) → ((x : ℕ) (o : ThreadObject) → slice_get os x ≡ Some o → o.routine ≡ Some f → IsRoutineAt (slice_get P.functions f)) →
      (k : ℕ) → slice_get (flat_map (λ (z : ThreadObject). replicate z.length z.routine) os) k ≡ Some (Some f) → IsRoutineAt (slice_get P.functions f)
  routine_at [] each k e = absurd cc
  routine_at (o ∷ os) each k e =
      in_part o.length k o.routine (flat_map (λ (z : ThreadObject). replicate z.length z.routine) os) (IsRoutineAt (slice_get P.functions f)) (λ r. each 0 o refl r)
      (λ j d. routine_at os (λ x p at r. each (suc x) p at r) j d) e

  not_main : (i : ℕ) → slice_get (hardware_routines P) (suc i) ≡ Some (Some f) → f ≢ P.main
  not_main i e same =
      let there = routine_at P.threads (λ x o at r. (R.threads x o at).routine f r) i e in
      let found : slice_get P.functions f ≡ Some R.main.code = ap (λ (k : ℕ). slice_get P.functions k) same ∙ R.main.found in
      let routine = subst IsRoutineAt found there in
      let both = sym R.main.returns ∙ routine.returns in
      cc

-- ---- the chains

module _ (P : Program) (codes : Codes) (are : AreRoutines P codes) where
  block_there : (f l : ℕ) (b : Block) → stage_at codes f l ≡ Some (stage.Run b) → IsRoutine P f (codes f)
  block_there f l b at = ⊎_elim (λ is. is) (λ none. absurd (get_nothing (codes f).code.stages l (stage.Run b) none at)) (are.each f)

  are_planned : ArePlanned codes
  are_planned f l b at =
      let is = block_there f l b at in
      let p = planned_at P f (codes f).code (codes f).plan is.code.typed is.plan l b at in
      subst (λ (o : Option Stage). 0 < (plan_at o (slice_get (codes f).plan.stages l)).states) (sym at)
      (subst (λ (o : Option StagePlan). 0 < (plan_at (Some (stage.Run b)) o).states) (sym p.1) p.2.some)

  short_at : (f l : ℕ) (o : Option Stage) → stage_at codes f l ≡ o → (plan_at o (slice_get (codes f).plan.stages l)).states ≤ own_latencies (block_at o)
  short_at f l None at = omega arith
  short_at f l (Some (stage.Act a next)) at = omega arith
  short_at f l (Some (stage.Run b)) at =
      let is = block_there f l b at in short P f (codes f).code (codes f).plan is.code.typed is.plan l (Some (stage.Run b)) at

  abbrev chain_there : ℕ → ℕ → ℕ
  chain_there f l = stage_chain P (codes f).code.stages l

  holds_at : (f l : ℕ) (o : Option Stage) → stage_at codes f l ≡ o → own_latencies (block_at o) ≤ chain_there f l
  holds_at f l None at = omega arith
  holds_at f l (Some (stage.Act a next)) at = omega arith
  holds_at f l (Some (stage.Run b)) at =
      let is = block_there f l b at in holds P f (codes f).code (codes f).plan is.code.typed is.plan l (Some (stage.Run b)) at

  -- code without stages has no chains
  low_at : (f l : ℕ) → l < rest_of codes f → chain_there f l ≤ 32 * weight P + 1
  low_at f l lt = ⊎_elim (λ is. low P f (codes f).code (codes f).plan is.code.typed is.plan l) (λ none. absurd (nothing (codes f).code.stages none lt)) (are.each f)
    where
      nothing : (stages : List Stage) → stages ≡ [] → l < length stages → ⊥
      nothing stages none less = let e = ap length none in omega (arith, e, less)

  low_there : (f l : ℕ) → l < rest_of codes f → chain_of P codes f l ≡ chain_there f l
  low_there f l lt = ap (λ (b : Bool). if b then chain_there f l else 32 * weight P + 2) (less_is l (rest_of codes f) lt)

  high_there : (f l : ℕ) → rest_of codes f ≤ l → chain_of P codes f l ≡ 32 * weight P + 2
  high_there f l le = ap (λ (b : Bool). if b then chain_there f l else 32 * weight P + 2) (not_less_is l (rest_of codes f) le)

  -- by whether it is a stage
  by_test : (f l : ℕ) (Q : ℕ → Type 0) → (l < rest_of codes f → Q (chain_there f l)) → (rest_of codes f ≤ l → Q (32 * weight P + 2)) → Q (chain_of P codes f l)
  by_test f l Q inside past =
      ⊎_elim (λ lt. subst Q (sym (low_there f l lt)) (inside lt)) (λ le. subst Q (sym (high_there f l le)) (past le)) (less_or_not l (rest_of codes f))

  -- what a block takes
  own_at : (f l : ℕ) (o : Option Stage) → stage_at codes f l ≡ o → own_latencies (block_at o) ≤ 32 * weight P + 1
  own_at f l None at = omega arith
  own_at f l (Some (stage.Act a next)) at = omega arith
  own_at f l (Some (stage.Run b)) at =
      let holds_ = holds_at f l (Some (stage.Run b)) at in
      let few = low_at f l (slice_get_within (codes f).code.stages l (stage.Run b) at) in
      omega (arith, holds_, few)

  stepless_at : (f l : ℕ) (o : Option Stage) → stage_at codes f l ≡ o → 0 < (plan_at o (slice_get (codes f).plan.stages l)).states → (block_at o).steps ≡ 0 → (value : Operand → ℤ) →
      own_latencies (block_at o) + (chain_of P codes f (leads_to value (block_at o).next) + 0) ≤ chain_of P codes f l
  stepless_at f l None at some idle value = omega arith
  stepless_at f l (Some (stage.Act a next)) at some idle value = omega arith
  stepless_at f l (Some (stage.Run b)) at some idle value =
      let is = block_there f l b at in
      let typed = is.code.typed.stages l (stage.Run b) at in
      let to = leads_to value (block_at (Some (stage.Run b))).next in
      let room = stepless P f (codes f).code (codes f).plan is.code.typed is.plan l (Some (stage.Run b)) at some idle value in
      let here = low_there f l (slice_get_within (codes f).code.stages l (stage.Run b) at) in
      let there = low_there f to (goes_within (types_of P (codes f).code) (rest_of codes f) b.operations b.next value typed.next) in
      omega (arith, room, here, there)

  chains : AreChains (blocks_of codes) (plans_of codes) (chain_of P codes) no_spare (weight P)
  chains = record {
    short = λ f l. short_at f l (stage_at codes f l) refl;
    holds = λ f l.
        by_test f l (λ n. own_latencies (blocks_of codes f l) ≤ n) (λ lt. holds_at f l (stage_at codes f l) refl)
        (λ le. let few = own_at f l (stage_at codes f l) refl in omega (arith, few));
    stepless = λ f l some idle value. stepless_at f l (stage_at codes f l) refl some idle value;
    bounded = λ f l. by_test f l (λ n. 2 * n + 0 ≤ 64 * (weight P + 1)) (λ lt. let few = low_at f l lt in omega (arith, few)) (λ le. omega arith);
  }

  chains_there : AreChainsThere P codes (chain_of P codes)
  chains_there = record {
    chains = chains;
    low = λ f l lt. let is = low_there f l lt in let few = low_at f l lt in omega (arith, is, few);
    high = high_there;
  }

  module _ (R : IsResolved P) where
    thread_there : (i f : ℕ) → slice_get (hardware_routines P) i ≡ Some (Some f) → IsRoutine P f (codes f)
    thread_there i f runs = are.threads f (runners_are_threads P R i f runs)

    has_argument : (f : ℕ) (argument : Option ℕ) (types : List IntegerType) → BeginsWith P f argument types → f ≢ P.main → (x : ℕ) × (argument ≡ Some x)
    has_argument f None types begins other = absurd (other begins)
    has_argument f (Some x) types begins other = (x, refl)

    argument_there : (i f : ℕ) → 0 < i → slice_get (hardware_routines P) i ≡ Some (Some f) → (x : ℕ) × ((codes f).code.argument ≡ Some x)
    argument_there zero f lt runs = absurd (omega arith)
    argument_there (suc i) f lt runs =
        has_argument f (codes f).code.argument (codes f).code.variables (thread_there (suc i) f runs).code.typed.argument (not_main P R f i runs)

    coded : AreCoded P codes (chain_of P codes)
    coded = record {
      lowered = λ i f runs. (thread_there i f runs).code.lowered;
      main = main_takes_none P (codes P.main).code.argument (codes P.main).code.variables (thread_there 0 P.main refl).code.typed.argument;
      argument = argument_there;
      planned = are_planned;
      chained = chains_there;
    }

pub routines_are_coded : RoutinesAreCoded
routines_are_coded P codes R are = coded P codes are R
