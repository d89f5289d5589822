-- A pthread call: the step that evaluates its operands, and the act.
use Rattle.std.proofs.Common.{◌≡◌, ℕ, zero, suc, ◌+◌, ◌≤◌, true, List, [], ◌∷◌, ◌++◌, length, ℤ, Option, Some, refl, sym, ap, None, ◌∙◌, subst, arith, append-nil}
use Rattle.std.proofs.Common.{length-append}
use Rattle.std.proofs.lemmas.Option.{slice_get_within}
use Rattle.lists.proofs.Places.{get_front, set_same}
use Rattle.c_program.specs.Tree.{ThreadCall, Statement, Program}
use Rattle.thread_semantics.specs.Memory.{Memory, Evaluation, Gives, Fails}
use Rattle.thread_semantics.specs.Work.{Work, Do, Perform, Onward, settled}
use Rattle.thread_semantics.specs.State.{Frame}
use Rattle.thread_semantics.specs.Move.{prepared, going_on, work_move, operands_of, act_of, move}
use Rattle.block_ir.specs.declared.code.Act.{Act as CodeAct}
use Rattle.block_ir.specs.declared.code.ActOperand.{ActOperand}
use Rattle.block_ir.specs.declared.code.ActOperand.TheVariants as act_operand
use Rattle.block_ir.specs.declared.code.Stage.TheVariants as stage
use Rattle.block_ir.specs.Run.{Cells, operations_run}
use Rattle.code_following.specs.Following.{reads_of, AfterMove, AreValues, NamesObject, SameAct, IsAct, AtStage, DoesAct, DoesStage, Follows}
use Rattle.code_following.specs.Operands.{RunsIts}
use Rattle.code_following.proofs.Operands.{operands_fit}
use Rattle.code_storage.specs.declared.objects.Objects.{Objects}
use Rattle.code_blocks.specs.declared.homes.Home.{Home}
use Rattle.code_blocks.specs.declared.open_block.OpenBlock.{OpenBlock}
use Rattle.code_blocks.proofs.OperationRuns.{run_length}
use Rattle.code_blocks.specs.Evaluating.{held_by}
use Rattle.code_places.specs.declared.lowering.Lowering.{Lowering}
use Rattle.code_places.specs.Labels.{IsHere}
use Rattle.code_places.specs.Resuming.{Keeping, nothing_kept, IsMid, AtFresh, IsSound}
use Rattle.code_places.specs.Apart.{IsGood}
use Rattle.code_places.specs.Control.{with_label, ActsAt, Whole, IsIn, GoesOn}
use Rattle.code_places.specs.declared.targets.Loop.{Loop}
use Rattle.code_places.specs.Doing.{Grows, OnwardUpTo, Suits, Leads}
use Rattle.code_places.proofs.LabelSteps.{pushed_here}
use Rattle.code_places.proofs.OpenLabels.{act_open}
use Rattle.code_places.proofs.Shapes.{have_homes}
use Rattle.code_places.proofs.ResumedPlaces.{Goes, resume_less}
use Rattle.code_places.proofs.KeptLocals.{seat_kept}
use Rattle.code_places.proofs.LabelTargets.{pushed_at}
use Rattle.code_places.proofs.CodeGrowth.{grows_both, stage_idle, stage_reached, stage_goes, acts_pushed, acts_whole, acts_grows, acts_site}
use Rattle.code_places.proofs.BlockSteps.{block_grows, step_goes}
use Rattle.code_calls.specs.Acts.{values_of, with_values, act_on, first_of_call, place_of, number_operand, operands_at, act_at, PreparesCall, WorksOnCall}
use Rattle.code_calls.proofs.ObjectNumbers.{operand_values}
use Rattle.code_calls.proofs.Typed.{thread_typed}

-- the act of a call is that of its operands
same_act : (P : Program) (call : ThreadCall) (variables : ℕ → ℤ) (object value : ActOperand) (vs : List ℤ) → AreValues variables (with_values object value (values_of call)) vs →
    NamesObject vs → RunsIts P call vs → SameAct P variables (act_on call object value) (act_of call) vs
same_act P (ThreadCall.Create thread routine argument) variables object value vs are names runs = (are, names, runs)
same_act P (ThreadCall.Join thread) variables object value vs are names runs = (are, names)
same_act P (ThreadCall.MutexInit mutex) variables object value vs are names runs = (are, names)
same_act P (ThreadCall.MutexDestroy mutex) variables object value vs are names runs = (are, names)
same_act P (ThreadCall.MutexLock mutex) variables object value vs are names runs = (are, names)
same_act P (ThreadCall.MutexUnlock mutex) variables object value vs are names runs = (are, names)
same_act P (ThreadCall.BarrierInit barrier count) variables object value vs are names runs = (are, names)
same_act P (ThreadCall.BarrierDestroy barrier) variables object value vs are names runs = (are, names)
same_act P (ThreadCall.BarrierWait barrier) variables object value vs are names runs = (are, names)

-- it is no return
does_act : (P : Program) (Next : AtStage) (call : ThreadCall) (object value : ActOperand) (next : ℕ) (variables : ℕ → ℤ) (arrays : Cells) (frames : List Frame) →
    ((globals : List (List ℤ)) → IsAct P variables (act_on call object value) (move P globals frames) (λ after. Next next variables arrays after)) →
    DoesAct P Next (act_on call object value) next variables arrays frames
does_act P Next (ThreadCall.Create thread routine argument) object value next variables arrays frames h = h
does_act P Next (ThreadCall.Join thread) object value next variables arrays frames h = h
does_act P Next (ThreadCall.MutexInit mutex) object value next variables arrays frames h = h
does_act P Next (ThreadCall.MutexDestroy mutex) object value next variables arrays frames h = h
does_act P Next (ThreadCall.MutexLock mutex) object value next variables arrays frames h = h
does_act P Next (ThreadCall.MutexUnlock mutex) object value next variables arrays frames h = h
does_act P Next (ThreadCall.BarrierInit barrier count) object value next variables arrays frames h = h
does_act P Next (ThreadCall.BarrierDestroy barrier) object value next variables arrays frames h = h
does_act P Next (ThreadCall.BarrierWait barrier) object value next variables arrays frames h = h

-- the operands hold what a call's step kept, which is what a call's operands come to
abbrev pub call_kept : Program → Objects → ℕ → ThreadCall → Keeping
call_kept P o n call variables kept = AreValues variables (operands_at n o call) kept × NamesObject kept × RunsIts P call kept

module _ (P : Program) (call : ThreadCall) (old mid new : Lowering) (b : OpenBlock) (code_act : CodeAct) (first : ℕ) (first_is : first ≡ length old.variables)
    (prepares : PreparesCall old.homes old.objects first call old.block b) (works : WorksOnCall old.homes old.objects first call old.block b)
    (stepped : mid ≡ record old { block = record b { steps = suc b.steps } }) (act_is : code_act ≡ act_at first old.objects call)
    (acts : ActsAt code_act mid new) (offset : ℕ) (on : old.reached ≡ true) where
  abbrev statement : Statement
  statement = Statement.Thread offset call

  abbrev between : Lowering
  between = record old { block = record b { steps = suc b.steps } }

  block_is : mid.block ≡ record b { steps = suc b.steps }
  block_is = ap (λ (z : Lowering). z.block) stepped

  mid_sound : (size : ℕ) → IsSound size old.block → IsSound size between.block
  mid_sound size sound = record {
    size = prepares.size ∙ sound.size;
    noted = prepares.noted sound.noted;
    below = prepares.below sound.below;
    fresh = λ idle. absurd cc;
  }

  pub mid_grows : Grows old mid
  mid_grows = subst (Grows old) (sym stepped) (block_grows old between refl mid_sound on)

  mid_reached : mid.reached ≡ true
  mid_reached = ap (λ (z : Lowering). z.reached) stepped ∙ on

  module _ (W : Whole) (homes : List Home) (size n : ℕ) (k : List Work) (ready : PreparesCall homes old.objects size call old.block b) (act_here : code_act ≡ act_at size old.objects call)
      (suits : Suits P W homes size statement old) (whole : IsIn W new) (after : OnwardUpTo W homes n new (settled Onward k)) where
    abbrev keeping : Keeping
    keeping = call_kept W.setting.program old.objects size call

    good_mid : IsGood size mid
    good_mid = mid_grows.good size suits.good

    idle_act : acts.mid.block.steps ≡ 0
    idle_act = stage_idle size mid acts.mid good_mid acts.begins

    idle_new : new.block.steps ≡ 0
    idle_new = ap (λ (z : Lowering). z.block.steps) acts.same ∙ idle_act

    reached_new : new.reached ≡ true
    reached_new = ap (λ (z : Lowering). z.reached) acts.same ∙ stage_reached mid acts.mid mid_reached acts.begins

    next_here : IsHere new.stages acts.next
    next_here =
        subst (λ (z : Lowering). IsHere z.stages acts.next) (sym acts.same)
        (set_same acts.pushed.labels acts.next (Some (length acts.pushed.places))
        (slice_get_within acts.pushed.labels acts.next None (act_open code_act mid new acts)))

    call_acts : (i : ℕ) → i ≤ n → AtFresh W.setting homes keeping i (length acts.mid.stages.stages.items) (Perform offset (act_of call) ∷ k)
    call_acts zero le resume variables arrays f fs work stands = tt
    call_acts (suc i) le resume variables arrays f fs work stands =
        subst (λ s. DoesStage W.setting.program (Follows W.setting.program W.setting.stages i) s variables arrays (f ∷ fs))
        (sym (pushed_at W.stage_of W.setting.stages (with_label acts.mid).stages acts.pushed (acts_pushed code_act mid new acts W whole)
        (stage.Act code_act acts.next) acts.pushes))
        (subst (λ a. DoesAct W.setting.program (Follows W.setting.program W.setting.stages i) a (W.stage_of acts.next) variables arrays (f ∷ fs)) (sym act_here)
        (does_act W.setting.program (Follows W.setting.program W.setting.stages i) call (number_operand size (first_of_call old.objects call) (place_of call)) (act_operand.Variable (suc size) _)
        (W.stage_of acts.next) variables arrays (f ∷ fs)
        (λ globals.
        subst (λ w. IsAct W.setting.program variables (act_at size old.objects call) (work_move W.setting.program (record { locals = f.locals; globals = globals }) f fs w)
        (λ frames. Follows W.setting.program W.setting.stages i (W.stage_of acts.next) variables arrays frames)) (sym work) (
          same_act W.setting.program call variables (number_operand size (first_of_call old.objects call) (place_of call)) (act_operand.Variable (suc size) _)
              f.kept stands.kept.0 stands.kept.1 stands.kept.2,
          (after reached_new i (omega arith)).fresh idle_new acts.next next_here
              (resume_less W.setting.program W.setting.stages W.setting.word W.setting.callers i (suc i) (omega arith) resume) variables arrays (going_on f k) fs refl
              (record { number = stands.number; shape = stands.shape; locals = stands.locals; kept = tt; callers = stands.callers }),
        ))))

    at_act : (i : ℕ) → i ≤ n → GoesOn W homes keeping i acts.mid (Perform offset (act_of call) ∷ k)
    at_act i le = record {
      fresh = λ idle label among.
          subst (λ l. AtFresh W.setting homes keeping i l (Perform offset (act_of call) ∷ k))
          (sym (pushed_here (stage.Act code_act acts.next) (with_label acts.mid).stages acts.pushed acts.pushes W.stage_of
          (acts_pushed code_act mid new acts W whole).obeys label (get_front acts.mid.stages.labels (None ∷ []) label
          (Some (length acts.mid.stages.places)) among))) (call_acts i le);
      busy = λ busy. absurd (let idle = idle_act in omega arith);
      here = λ busy. absurd (let idle = idle_act in omega arith);
    }

    steps_on : Goes W.setting homes W.setting homes nothing_kept keeping old.block mid.block ready.operations (Do statement ∷ k) (Perform offset (act_of call) ∷ k)
    steps_on variables r f fs globals work m Cont then_ =
        subst (λ w. AfterMove (work_move W.setting.program seen f fs w) globals Cont) (sym work) (by (operands_of W.setting.program call seen) refl)
      where
        seen : Memory
        seen = record { locals = f.locals; globals = globals }

        by : (E : Evaluation (List ℤ)) → operands_of W.setting.program call seen ≡ E → AfterMove (prepared offset (act_of call) E f fs k) globals Cont
        by (Fails cause) e = tt
        by (Gives vs ls) e =
            let fits = operands_fit W.setting.program W.setting.function call seen vs ls suits.resolved e in
            let values_are = operand_values W.setting.program W.setting.function old.objects suits.seated.objects call seen vs ls suits.resolved e in
            let room : size + 2 ≤ length old.block.current = (let all = suits.good.sound.size in omega (arith, all)) in
            let held = ready.does variables r seen vs ls suits.good.sound.below m.values
            (have_homes W.setting.function.locals homes size f.locals suits.locals m.shape) room m.holds values_are in
            let s = operations_run variables ready.operations r in
            then_ (record f { work = Perform offset (act_of call) ∷ k; kept = vs }) fs globals (reads_of ls ++ []) refl
            (subst (λ (z : OpenBlock). IsMid W.setting homes keeping z variables s (record f { work = Perform offset (act_of call) ∷ k; kept = vs }) fs globals) (sym block_is)
            (record {
              number = m.number;
              shape = m.shape;
              values = (let l = run_length variables ready.operations r in let a = ap length ready.added
                  ∙ length-append old.block.operations ready.operations in let v = m.values in omega (arith, l, a, v));
              holds = held.holds;
              kept = (held.operands_, fits.0, fits.1);
              callers = seat_kept P W homes size old (held_by old.block.current variables r.values) (held_by b.current variables s.values) r.arrays s.arrays fs suits.seated held.spares m.callers;
            }))
            (held.reads.accesses ∙ ap (λ l. r.accesses ++ l) (sym (append-nil (reads_of ls))))

    call_goes : OnwardUpTo W homes n old (Do statement ∷ k)
    call_goes reached j le =
        step_goes W homes size j nothing_kept keeping old mid ready.operations (Do statement ∷ k) (Perform offset (act_of call) ∷ k) (ap (λ (z : Lowering). z.stages) stepped)
        (ap (λ (z : OpenBlock). z.operations) block_is ∙ ready.added) (ap (λ (z : OpenBlock). z.steps) block_is ∙ ap suc ready.steps) steps_on suits.good
        (stage_goes W homes j (Perform offset (act_of call) ∷ k) keeping size mid acts.mid good_mid mid_reached acts.begins
        (acts_whole code_act mid new acts W whole) (λ i below. at_act i (omega arith)))

  pub thread_leads : (around : Option Loop) → Leads P around statement old new
  thread_leads around = record {
    grows = grows_both old mid new mid_grows (acts_grows code_act mid new acts);
    site = (let e = acts_site code_act mid new acts ∙ ap (λ (z : Lowering). z.site) stepped in omega (arith, e));
    typed = thread_typed P call old mid new b code_act first first_is prepares works stepped act_is acts offset mid_grows;
    leads = λ W homes size n k suits whole out after.
        let size_is : first ≡ size = first_is ∙ suits.good.variables in
        call_goes W homes size n k
        (subst (λ m. PreparesCall homes old.objects m call old.block b) size_is (subst (λ hs. PreparesCall hs old.objects first call old.block b) suits.homes_ prepares))
        (act_is ∙ ap (λ m. act_at m old.objects call) size_is) suits whole after;
  }
