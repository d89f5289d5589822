-- A printf: the step that evaluates its arguments, and the act.
use Rattle.std.proofs.Common.{◌≡◌, ℕ, zero, suc, ◌+◌, ◌≤◌, true, List, [], ◌∷◌, ◌++◌, length, ℤ, Option, Some, refl, sym, ap, None, ◌∙◌, subst, arith, append-nil}
use Rattle.std.proofs.Common.{length-append}
use Rattle.std.specs.Prelude.{slice_get}
use Rattle.std.proofs.lemmas.Option.{slice_get_within}
use Rattle.lists.proofs.Places.{get_front, set_same}
use Rattle.hls_ints.specs.Types.{IntegerType}
use Rattle.c_program.specs.Tree.{Expression, Piece, Statement, Program}
use Rattle.code_places.specs.Weighing.{inlined_weight}
use Rattle.thread_semantics.specs.Memory.{Memory, Evaluation, Gives, Fails}
use Rattle.thread_semantics.specs.Value.{values}
use Rattle.thread_semantics.specs.Work.{Work, Do, Perform, Print, Onward, settled}
use Rattle.thread_semantics.specs.Move.{prepared, going_on, work_move}
use Rattle.block_ir.specs.declared.code.Act.TheVariants as code
use Rattle.block_ir.specs.declared.code.ActOperand.{ActOperand}
use Rattle.block_ir.specs.declared.code.Stage.TheVariants as stage
use Rattle.block_ir.specs.Run.{operations_run}
use Rattle.code_blocks.specs.declared.homes.Home.{Home}
use Rattle.code_blocks.specs.declared.open_block.OpenBlock.{OpenBlock}
use Rattle.code_places.specs.declared.targets.Loop.{Loop}
use Rattle.code_places.specs.declared.lowering.Lowering.{Lowering}
use Rattle.code_places.specs.Labels.{IsHere}
use Rattle.code_blocks.specs.Typing.{Typing, HasWords, WorksOnValues}
use Rattle.code_blocks.specs.Printing.{HoldWords, word_operands, PutsValues}
use Rattle.code_following.specs.Following.{reads_of, conversions_of, converted_values, AfterMove, print_formats, AreValues, IsAct, DoesStage, Follows}
use Rattle.code_places.specs.Resuming.{Keeping, nothing_kept, IsMid, AtFresh, IsSound}
use Rattle.code_places.specs.Apart.{IsTypedNow, IsGood}
use Rattle.code_places.specs.Control.{with_label, ActsAt, Whole, IsIn, GoesOn}
use Rattle.code_places.specs.Doing.{Grows, at_site, OnwardUpTo, Suits, SuitsTyping, Leads}
use Rattle.code_places.proofs.LabelSteps.{pushed_here}
use Rattle.code_places.proofs.OpenLabels.{act_open}
use Rattle.code_blocks.proofs.OperationRuns.{run_length}
use Rattle.code_blocks.proofs.Puts.{arguments_converted}
use Rattle.code_blocks.proofs.Words.{words_are_values}
use Rattle.code_blocks.specs.Evaluating.{held_by}
use Rattle.code_storage.proofs.Sites.{site_at, conversions_length}
use Rattle.code_places.proofs.TypedGrowth.{open_more, print_typed}
use Rattle.code_places.proofs.Shapes.{have_homes}
use Rattle.code_places.proofs.ResumedPlaces.{Goes, resume_less}
use Rattle.code_places.proofs.KeptLocals.{seat_kept}
use Rattle.code_places.proofs.LabelTargets.{pushed_at}
use Rattle.code_places.proofs.CodeGrowth.{grows_both, site_grows, stage_idle, stage_reached, stage_goes, acts_pushed, acts_whole, acts_grows, acts_site, acts_typed}
use Rattle.code_places.proofs.BlockSteps.{block_grows, step_goes, values_length}

converted_length : (types : List IntegerType) (vs : List ℤ) → length types ≡ length vs → length (converted_values types vs) ≡ length vs
converted_length [] [] e = refl
converted_length [] (v ∷ vs) e = absurd (omega arith)
converted_length (ty ∷ types) [] e = absurd (omega arith)
converted_length (ty ∷ types) (v ∷ vs) e = ap suc (converted_length types vs (omega arith))

-- the variables from n on hold the values that a printf kept, as many as count
abbrev pub words_kept : ℕ → ℕ → List Piece → Keeping
words_kept n count format variables kept = HoldWords variables n (converted_values (conversions_of format) kept) × (count ≡ length (converted_values (conversions_of format) kept))

module _ (P : Program) (format : List Piece) (arguments : List Expression) (old mid new : Lowering) (b : OpenBlock) (types : List IntegerType) (operands : List ActOperand) (site first : ℕ)
    (first_is : first ≡ length old.variables) (types_are : types ≡ conversions_of format) (puts : PutsValues old.homes first types arguments old.block b)
    (works : WorksOnValues old.homes first arguments old.block b) (stepped : mid ≡ record old { block = record b { steps = suc b.steps }; site = old.site + 1 })
    (operands_are : operands ≡ word_operands first (length arguments)) (site_is : site ≡ old.site) (acts : ActsAt (code.Print site operands) mid new) (offset : ℕ) (around : Option Loop)
    (on : old.reached ≡ true) where
  abbrev statement : Statement
  statement = Statement.Print offset format arguments

  abbrev keeping : ℕ → Keeping
  keeping size = words_kept size (length arguments) format

  abbrev between : Lowering
  between = record old { block = record b { steps = suc b.steps } }

  block_is : mid.block ≡ record b { steps = suc b.steps }
  block_is = ap (λ (z : Lowering). z.block) stepped

  mid_sound : (size : ℕ) → IsSound size old.block → IsSound size between.block
  mid_sound size sound = record {
    size = puts.size ∙ sound.size;
    noted = puts.noted sound.noted;
    below = puts.below sound.below;
    fresh = λ idle. absurd cc;
  }

  mid_grows : Grows old mid
  mid_grows =
      subst (Grows old) (sym stepped)
      (grows_both old between (at_site (old.site + 1) between) (block_grows old between refl mid_sound on) (site_grows (old.site + 1) between))

  mid_reached : mid.reached ≡ true
  mid_reached = ap (λ (z : Lowering). z.reached) stepped ∙ on

  mid_typed : (S : Typing) (w size : ℕ) → SuitsTyping P S size statement old → IsTypedNow S w old → IsTypedNow S (w + inlined_weight S.program statement) mid
  mid_typed S w size suits now =
      let size_is : first ≡ size = first_is ∙ suits.good.variables in
      let open_ = works.typed S suits.fits (suits.resolved.passed, subst (λ n. HasWords S.types n (length arguments)) (sym size_is) suits.words) now.block in
      subst (IsTypedNow S (w + inlined_weight S.program statement)) (sym stepped)
      (open_more S w (w + inlined_weight S.program statement) old (at_site (old.site + 1) between) refl (omega arith)
      (record { operations = open_.operations; few = open_.few; current = open_.current }) (let c = works.count in let m = suits.resolved.most in omega (arith, c, m))
      (let f = now.steps in let p = puts.steps in omega (arith, f, p)) now)

  print_stays : (S : Typing) (w size : ℕ) → SuitsTyping P S size statement old → IsTypedNow S w old → IsTypedNow S (w + inlined_weight S.program statement) new
  print_stays S w size suits now =
      let size_is : first ≡ size = first_is ∙ suits.good.variables in
      let typed =
      print_typed S size format arguments offset old.site site operands suits.words suits.resolved suits.sites (operands_are ∙ ap (λ n. word_operands n (length arguments)) size_is) site_is in
      acts_typed (code.Print site operands) mid new acts S (w + inlined_weight S.program statement) size (mid_grows.good size suits.good) (λ m n stage_of below. (typed, below acts.next))
      (mid_typed S w size suits now)

  module _ (W : Whole) (homes : List Home) (size n : ℕ) (k : List Work) (puts_here : PutsValues homes size types arguments old.block b)
      (operands_here : operands ≡ word_operands size (length arguments))
      (suits : Suits P W homes size statement old) (whole : IsIn W new) (after : OnwardUpTo W homes n new (settled Onward k)) where
    good_mid : IsGood size mid
    good_mid = mid_grows.good size suits.good

    idle_act : acts.mid.block.steps ≡ 0
    idle_act = stage_idle size mid acts.mid good_mid acts.begins

    idle_new : new.block.steps ≡ 0
    idle_new = ap (λ (z : Lowering). z.block.steps) acts.same ∙ idle_act

    reached_new : new.reached ≡ true
    reached_new = ap (λ (z : Lowering). z.reached) acts.same ∙ stage_reached mid acts.mid mid_reached acts.begins

    next_here : IsHere new.stages acts.next
    next_here =
        subst (λ (z : Lowering). IsHere z.stages acts.next) (sym acts.same)
        (set_same acts.pushed.labels acts.next (Some (length acts.pushed.places))
        (slice_get_within acts.pushed.labels acts.next None (act_open (code.Print site operands) mid new acts)))

    print_acts : (i : ℕ) → i ≤ n → AtFresh W.setting homes (keeping size) i (length acts.mid.stages.stages.items) (Perform offset (Print format) ∷ k)
    print_acts zero le resume variables arrays f fs work stands = tt
    print_acts (suc i) le resume variables arrays f fs work stands =
        subst (λ o. DoesStage W.setting.program (Follows W.setting.program W.setting.stages i) o variables arrays (f ∷ fs))
        (sym (pushed_at W.stage_of W.setting.stages (with_label acts.mid).stages acts.pushed (acts_pushed (code.Print site operands) mid new acts W whole)
        (stage.Act (code.Print site operands) acts.next) acts.pushes))
        (λ globals.
        subst (λ w. IsAct W.setting.program variables (code.Print site operands) (work_move W.setting.program (record { locals = f.locals; globals = globals }) f fs w)
        (λ frames. Follows W.setting.program W.setting.stages i (W.stage_of acts.next) variables arrays frames)) (sym work) (
          (
            ap (λ i. slice_get (print_formats W.setting.program) i) site_is ∙ site_at W.setting.program format arguments offset old.site suits.sites,
            subst (λ os. AreValues variables os (converted_values (conversions_of format) f.kept)) (sym operands_here)
                (words_are_values variables size (length arguments) (converted_values (conversions_of format) f.kept) stands.kept.1 stands.kept.0),
          ),
          (after reached_new i (omega arith)).fresh idle_new acts.next next_here
              (resume_less W.setting.program W.setting.stages W.setting.word W.setting.callers i (suc i) (omega arith) resume) variables arrays (going_on f k) fs refl
              (record { number = stands.number; shape = stands.shape; locals = stands.locals; kept = tt; callers = stands.callers }),
        ))

    at_act : (i : ℕ) → i ≤ n → GoesOn W homes (keeping size) i acts.mid (Perform offset (Print format) ∷ k)
    at_act i le = record {
      fresh = λ idle label among.
          subst (λ l. AtFresh W.setting homes (keeping size) i l (Perform offset (Print format) ∷ k))
          (sym (pushed_here (stage.Act (code.Print site operands) acts.next) (with_label acts.mid).stages acts.pushed acts.pushes W.stage_of
          (acts_pushed (code.Print site operands) mid new acts W whole).obeys label (get_front acts.mid.stages.labels (None ∷ []) label
          (Some (length acts.mid.stages.places)) among))) (print_acts i le);
      busy = λ busy. absurd (let idle = idle_act in omega arith);
      here = λ busy. absurd (let idle = idle_act in omega arith);
    }

    prepares : Goes W.setting homes W.setting homes nothing_kept (keeping size) old.block mid.block puts_here.operations (Do statement ∷ k) (Perform offset (Print format) ∷ k)
    prepares variables r f fs globals work m Cont then_ =
        subst (λ w. AfterMove (work_move W.setting.program seen f fs w) globals Cont) (sym work) (by (values arguments seen) refl)
      where
        seen : Memory
        seen = record { locals = f.locals; globals = globals }

        by : (E : Evaluation (List ℤ)) → values arguments seen ≡ E → AfterMove (prepared offset (Print format) E f fs k) globals Cont
        by (Fails cause) e = tt
        by (Gives vs ls) e =
            let long : length types ≡ length arguments = ap length types_are ∙ conversions_length format ∙ suits.resolved.count in
            let vs_long : length vs ≡ length arguments = values_length arguments seen vs ls e in
            let ws_long : length (converted_values types vs) ≡ length arguments = converted_length types vs (long ∙ sym vs_long) ∙ vs_long in
            let room : size + length (converted_values types vs) ≤ length old.block.current =
            (let most = suits.resolved.most in let all = suits.good.sound.size in omega (arith, ws_long, most, all)) in
            let held = puts_here.does variables r seen (converted_values types vs) ls suits.good.sound.below m.values
            (have_homes W.setting.function.locals homes size f.locals suits.locals m.shape) room m.holds (arguments_converted types arguments seen vs ls long e) in
            let s = operations_run variables puts_here.operations r in
            then_ (record f { work = Perform offset (Print format) ∷ k; kept = vs }) fs globals (reads_of ls ++ []) refl
            (subst (λ (z : OpenBlock). IsMid W.setting homes (keeping size) z variables s (record f { work = Perform offset (Print format) ∷ k; kept = vs }) fs globals) (sym block_is)
            (record {
              number = m.number;
              shape = m.shape;
              values = (let l = run_length variables puts_here.operations r in let a = ap length puts_here.added
                  ∙ length-append old.block.operations puts_here.operations in let v = m.values in omega (arith, l, a, v));
              holds = held.holds;
              kept = subst (λ tys. HoldWords (held_by b.current variables s.values) size (converted_values tys vs) ×
                  (length arguments ≡ length (converted_values tys vs))) types_are (held.words, sym ws_long);
              callers = seat_kept P W homes size old (held_by old.block.current variables r.values) (held_by b.current variables s.values) r.arrays s.arrays fs suits.seated held.spares m.callers;
            }))
            (held.reads.accesses ∙ ap (λ l. r.accesses ++ l) (sym (append-nil (reads_of ls))))

    print_goes : OnwardUpTo W homes n old (Do statement ∷ k)
    print_goes reached j le =
        step_goes W homes size j nothing_kept (keeping size) old mid puts_here.operations (Do statement ∷ k) (Perform offset (Print format) ∷ k) (ap (λ (z : Lowering). z.stages) stepped)
        (ap (λ (z : OpenBlock). z.operations) block_is ∙ puts_here.added) (ap (λ (z : OpenBlock). z.steps) block_is ∙ ap suc puts_here.steps) prepares suits.good
        (stage_goes W homes j (Perform offset (Print format) ∷ k) (keeping size) size mid acts.mid good_mid mid_reached acts.begins
        (acts_whole (code.Print site operands) mid new acts W whole) (λ i below. at_act i (omega arith)))

  pub print_leads : Leads P around statement old new
  print_leads = record {
    grows = grows_both old mid new mid_grows (acts_grows (code.Print site operands) mid new acts);
    site = acts_site (code.Print site operands) mid new acts ∙ ap (λ (z : Lowering). z.site) stepped;
    typed = print_stays;
    leads = λ W homes size n k suits whole out after.
        let size_is : first ≡ size = first_is ∙ suits.good.variables in
        print_goes W homes size n k
        (subst (λ m. PutsValues homes m types arguments old.block b) size_is (subst (λ hs. PutsValues hs first types arguments old.block b) suits.homes_ puts))
        (operands_are ∙ ap (λ m. word_operands m (length arguments)) size_is) suits whole after;
  }
