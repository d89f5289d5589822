-- Steps of a block: the code before one goes on where the code behind it does.
use Rattle.std.proofs.Common.{◌≡◌, ℕ, zero, suc, ◌+◌, ◌<◌, ◌≤◌, Bool, true, List, [], ◌∷◌, ◌++◌, length, ℤ, Option, Some, refl, sym, ap, ◌∙◌, subst, arith, length-append}
use Rattle.hls_ints.specs.Types.{wrapped}
use Rattle.c_program.specs.declared.tree.Storage.{Storage}
use Rattle.c_program.specs.declared.tree.Storage.TheVariants.{Automatic, Static}
use Rattle.c_program.specs.Tree.{Expression, Statement, Function, Program}
use Rattle.c_program.specs.Limits.{print_count}
use Rattle.code_places.specs.Weighing.{inlined_weight}
use Rattle.c_program.specs.Resolved.{Around, IsStatement}
use Rattle.thread_semantics.specs.Memory.{Location, Memory, Evaluation, Gives, Fails, and_then, with_element}
use Rattle.thread_semantics.specs.Value.{value, values}
use Rattle.thread_semantics.specs.Work.{Work, Do, Onward, settled}
use Rattle.thread_semantics.specs.State.{Frame}
use Rattle.thread_semantics.specs.Move.{Assignment, stored, stored_in, going_on, statement_move, work_move, move}
use Rattle.block_ir.specs.declared.block.Operation.{Operation}
use Rattle.block_ir.specs.declared.code.Act.TheVariants as code
use Rattle.block_ir.specs.declared.code.Stage.TheVariants as stage
use Rattle.block_ir.specs.Run.{Cells, Access, Running, operations_run}
use Rattle.code_blocks.specs.declared.homes.Home.{Home}
use Rattle.code_blocks.specs.declared.open_block.OpenBlock.{OpenBlock}
use Rattle.code_places.specs.declared.targets.Loop.{Loop}
use Rattle.code_places.specs.declared.stages.Stages.{Stages}
use Rattle.code_places.specs.declared.lowering.Lowering.{Lowering}
use Rattle.code_blocks.specs.Evaluating.{Holds, held_by}
use Rattle.code_blocks.specs.Assigning.{HaveHomes, IsThere, memory_after, writes_of, Assigned, Assigns}
use Rattle.code_places.specs.Labels.{IsHere, is_used}
use Rattle.code_blocks.specs.Typing.{Typing}
use Rattle.code_following.specs.Following.{reads_of, AfterMove, IsEnd, DoesStage, Follows}
use Rattle.code_places.specs.Resuming.{HasShape, Caller, in_call, Keeping, nothing_kept, AreHeld, CallersResume, IsMid, InBlock, AtFresh, IsSound}
use Rattle.code_places.specs.Apart.{IsTypedNow, IsGood}
use Rattle.code_places.specs.Seats.{IsSeated}
use Rattle.code_places.specs.Control.{EndsCall, Whole, IsIn, GoesOn}
use Rattle.code_places.specs.Doing.{Grows, Suits, SuitsTyping, Leads}
use Rattle.code_places.proofs.LabelSteps.{pushed_here}
use Rattle.code_blocks.proofs.OperationRuns.{parts, run_length}
use Rattle.code_blocks.proofs.Steps.{gives_is}
use Rattle.code_blocks.proofs.Puts.{homes_more}
use Rattle.code_places.proofs.Shapes.{lengths_with_element, have_homes}
use Rattle.code_places.proofs.ResumedPlaces.{Goes, in_more}
use Rattle.code_places.proofs.KeptLocals.{seat_kept}
use Rattle.code_places.proofs.LabelTargets.{pushed_at, goes_of_in}
use Rattle.code_places.proofs.CodeGrowth.{stage_idle, stage_goes, call_whole}

-- only the block at hand changes, at a place that is reached
pub block_grows : (old new : Lowering) → new ≡ record old { block = new.block } → ((size : ℕ) → IsSound size old.block → IsSound size new.block) → old.reached ≡ true → Grows old new
block_grows old new same sounds on = record {
  homes = ap (λ (z : Lowering). z.homes) same;
  back = ap (λ (z : Lowering). z.back) same;
  rooms = ap (λ (z : Lowering). z.rooms) same;
  variables = ap (λ (z : Lowering). z.variables) same;
  arrays = ap (λ (z : Lowering). z.arrays) same;
  objects = ap (λ (z : Lowering). z.objects) same;
  words = ap (λ (z : Lowering). z.act_operands) same;
  good = λ size g. record {
    variables = ap (λ (z : Lowering). length z.variables) same ∙ g.variables;
    sound = sounds size g.sound;
    idle = λ off. absurd (let e = ap (λ (z : Lowering). z.reached) same in cc);
  };
  whole = λ W w. let v = subst (IsIn W) same w in record { part = record { more = v.part.more; is = v.part.is }; obeys = v.obeys };
  used = λ label is. ap (λ (z : Lowering). is_used z.stages.used label) same ∙ is;
}

-- a step of the block at hand, which leaves the thread in a call of this kind
pub call_step_goes : (W : Whole) (homes : List Home) (number : ℕ) (function : Function) (callers : List Caller) (seats : List Home) (size n : ℕ) (Kept After : Keeping) (old new : Lowering)
    (more : List Operation) (k after : List Work) → new.stages ≡ old.stages → new.block.operations ≡ old.block.operations ++ more → new.block.steps ≡ suc old.block.steps →
    Goes W.setting homes (in_call W.setting number function callers) seats Kept After old.block new.block more k after →
    ((j : ℕ) → j < n → CallersResume W.setting j → CallersResume (in_call W.setting number function callers) j) → IsGood size old →
    GoesOn (record W { setting = in_call W.setting number function callers }) seats After n new after → GoesOn W homes Kept n old k
call_step_goes W homes number function callers seats size n Kept After old new more k after same added stepped goes resumes good g =
    let busy : 0 < new.block.steps = omega arith in
    goes_of_in W homes Kept size n old k good.sound
    (in_more W.setting homes number function callers seats Kept After old.block new.block more k after added stepped goes n (length old.stages.stages.items) resumes
    (subst (λ (z : Stages). InBlock (in_call W.setting number function callers) seats After n (length z.stages.items) new.block after) same (g.busy busy)))
    (λ label among.
    subst (λ (z : Stages). W.stage_of label ≡ length z.stages.items) same (g.here busy label (subst (λ (z : Stages). IsHere z label) (sym same) among)))

-- in the same call
pub step_goes : (W : Whole) (homes : List Home) (size n : ℕ) (Kept After : Keeping) (old new : Lowering) (more : List Operation) (k after : List Work) → new.stages ≡ old.stages →
    new.block.operations ≡ old.block.operations ++ more → new.block.steps ≡ suc old.block.steps → Goes W.setting homes W.setting homes Kept After old.block new.block more k after → IsGood size old →
    GoesOn W homes After n new after → GoesOn W homes Kept n old k
step_goes W homes size n Kept After old new more k after same added stepped goes good g =
    call_step_goes W homes W.setting.number W.setting.function W.setting.callers homes size n Kept After old new more k after same added stepped goes (λ j lt resume. resume) good g

-- Steps that assign.

-- a step that stores a value: what is stored, and where, is known
module _ (P : Program) (W : Whole) (homes : List Home) (size : ℕ) (Kept : Keeping) (k : List Work) (old : Lowering) (new : OpenBlock) (more : List Operation) (seated : IsSeated P W homes size old)
    (variables : ℕ → ℤ) (r : Running) (f : Frame) (fs : List Frame) (globals : List (List ℤ)) (mid : IsMid W.setting homes Kept old.block variables r f fs globals)
    (Cont : List Frame → List (List ℤ) → List Access → Type 0)
    (then_ : (g : Frame) (gs : List Frame) (left : List (List ℤ)) (made : List Access) → g.work ≡ settled Onward k →
    IsMid W.setting homes nothing_kept new variables (operations_run variables more r) g gs left → (operations_run variables more r).accesses ≡ r.accesses ++ made → Cont (g ∷ gs) left made)
    (lengths : length (operations_run variables more r).values ≡ length new.operations) (x : Assignment) (ls : List Location)
    (done : Assigned homes old.block.current new.current variables (record { locals = f.locals; globals = globals }) r (operations_run variables more r) x ls) where
  abbrev stored_run : Running
  stored_run = operations_run variables more r

  held_on : AreHeld W.setting.callers (held_by new.current variables stored_run.values) stored_run.arrays fs
  held_on =
      seat_kept P W homes size old (held_by old.block.current variables r.values) (held_by new.current variables stored_run.values) r.arrays stored_run.arrays fs seated (done.spares size) mid.callers

  by_storage : (storage : Storage) → x.target.storage ≡ storage → AfterMove (stored_in storage x ls f fs k) globals Cont
  by_storage Automatic e =
      let d = subst (λ z. (stored_run.accesses ≡ r.accesses ++ (reads_of ls ++ writes_of z x))
      × Holds homes new.current variables (memory_after z x (record { locals = f.locals; globals = globals })) stored_run) e
      (done.accesses, done.holds) in
      then_ (record (going_on f k) { locals = with_element f.locals x.target.variable x.target.index (Some (wrapped x.target.ty x.value)) }) fs globals (reads_of ls ++ []) refl
      (record {
        number = mid.number;
        shape = lengths_with_element f.locals x.target.variable x.target.index (Some (wrapped x.target.ty x.value)) ∙ mid.shape;
        values = lengths;
        holds = d.1;
        kept = tt;
        callers = held_on;
      })
      d.0
  by_storage Static e =
      let d = subst (λ z. (stored_run.accesses ≡ r.accesses ++ (reads_of ls ++ writes_of z x))
      × Holds homes new.current variables (memory_after z x (record { locals = f.locals; globals = globals })) stored_run) e
      (done.accesses, done.holds) in
      then_ (going_on f k) fs (with_element globals x.target.variable x.target.index (wrapped x.target.ty x.value)) (reads_of ls ++ writes_of Static x) refl
      (record { number = mid.number; shape = mid.shape; values = lengths; holds = d.1; kept = tt; callers = held_on })
      d.0

  pub stored_goes : AfterMove (stored_in x.target.storage x ls f fs k) globals Cont
  stored_goes = by_storage x.target.storage refl

module _ (P : Program) (s : Statement) (offset : ℕ) (F : Memory → Evaluation Assignment) (old new : Lowering) (a : Assigns old.homes F old.block new.block)
    (same : new ≡ record old { block = new.block })
    (moves : (P : Program) (m : Memory) (f : Frame) (fs : List Frame) (k : List Work) → statement_move P m f fs k s ≡ stored offset (F m) f fs k)
    (there : (P : Program) (f : Function) (around : Around) (m : Memory) → IsStatement P f around s → HasShape f.locals m.locals → (x : Assignment) (ls : List Location) → F m ≡ Gives x ls →
    IsThere x.target.storage m.locals x.target.variable x.target.index) where
  module _ (W : Whole) (homes : List Home) (size : ℕ) (k : List Work) (b : Assigns homes F old.block new.block) (suits : Suits P W homes size s old)
      (variables : ℕ → ℤ) (r : Running) (f : Frame) (fs : List Frame) (globals : List (List ℤ)) (mid : IsMid W.setting homes nothing_kept old.block variables r f fs globals)
      (Cont : List Frame → List (List ℤ) → List Access → Type 0)
      (then_ : (g : Frame) (gs : List Frame) (left : List (List ℤ)) (made : List Access) → g.work ≡ settled Onward k →
      IsMid W.setting homes nothing_kept new.block variables (operations_run variables b.operations r) g gs left →
      (operations_run variables b.operations r).accesses ≡ r.accesses ++ made → Cont (g ∷ gs) left made) where
    abbrev seen : Memory
    seen = record { locals = f.locals; globals = globals }

    abbrev ran : Running
    ran = operations_run variables b.operations r

    lengths : length ran.values ≡ length new.block.operations
    lengths =
        let l = run_length variables b.operations r in
        let e = ap length b.added ∙ length-append old.block.operations b.operations in
        let v = mid.values in
        omega (arith, l, e, v)

    homed : HaveHomes homes (length old.block.current) f.locals
    homed =
        homes_more homes size (length old.block.current) f.locals (let long = suits.good.sound.size in omega arith)
        (have_homes W.setting.function.locals homes size f.locals suits.locals mid.shape)

    module _ (x : Assignment) (ls : List Location) (gives : F seen ≡ Gives x ls) where
      done : Assigned homes old.block.current new.block.current variables seen r ran x ls
      done =
          b.does variables r seen x ls suits.good.sound.below mid.values homed mid.holds gives
          (there W.setting.program W.setting.function suits.around seen suits.resolved mid.shape x ls gives)

    after_stored : (E : Evaluation Assignment) → F seen ≡ E → AfterMove (stored offset E f fs k) globals Cont
    after_stored (Gives x ls) e = stored_goes P W homes size nothing_kept k old new.block b.operations suits.seated variables r f fs globals mid Cont then_ lengths x ls (done x ls e)
    after_stored (Fails cause) e = tt

    pub assign_goes : f.work ≡ Do s ∷ k → AfterMove (move W.setting.program globals (f ∷ fs)) globals Cont
    assign_goes work =
        subst (λ w. AfterMove (work_move W.setting.program seen f fs w) globals Cont) (sym work)
        (subst (λ v. AfterMove v globals Cont) (sym (moves W.setting.program seen f fs k)) (after_stored (F seen) refl))

  assign_sounds : (size : ℕ) → IsSound size old.block → IsSound size new.block
  assign_sounds size sound = record {
    size = a.size ∙ sound.size;
    noted = a.noted sound.noted;
    below = a.below sound.below;
    fresh = λ idle. absurd (let e = a.steps in omega arith);
  }

  pub assigning_leads : print_count s ≡ 0 → ((k : List Work) → settled Onward (Do s ∷ k) ≡ Do s ∷ k) → (around : Option Loop) → old.reached ≡ true →
      ((S : Typing) (w size : ℕ) → SuitsTyping P S size s old → IsTypedNow S w old → IsTypedNow S (w + inlined_weight S.program s) new) → Leads P around s old new
  assigning_leads none opens around on typed = record {
    grows = block_grows old new same assign_sounds on;
    site = (let is = ap (λ (z : Lowering). z.site) same in omega (arith, is, none));
    typed = typed;
    leads = λ W homes size n k suits whole out after reached j le.
        let b = subst (λ hs. Assigns hs F old.block new.block) suits.homes_ a in
        subst (λ w. GoesOn W homes nothing_kept j old w) (sym (opens k))
        (step_goes W homes size j nothing_kept nothing_kept old new b.operations (Do s ∷ k) (settled Onward k) (ap (λ (z : Lowering). z.stages) same) b.added b.steps
        (λ variables r f fs globals work mid Cont then_. assign_goes W homes size k b suits variables r f fs globals mid Cont then_ work)
        suits.good (after (ap (λ (z : Lowering). z.reached) same ∙ on) j le));
  }

-- The end of the thread's outermost call.

pub no_callers : (cs : List Caller) (variables : ℕ → ℤ) (arrays : Cells) (fs : List Frame) → cs ≡ [] → AreHeld cs variables arrays fs → fs ≡ []
no_callers [] variables arrays [] none held = refl
no_callers [] variables arrays (f ∷ fs) none held = absurd held
no_callers (c ∷ cs) variables arrays fs none held = cc

-- where the thread's next step is its return
pub call_goes : (W : Whole) (homes : List Home) (size n : ℕ) (Kept : Keeping) (k : List Work) (old new : Lowering) → EndsCall old new → IsGood size old → IsIn W new → W.setting.callers ≡ [] →
    ((f : Frame) (globals : List (List ℤ)) → f.work ≡ k → IsEnd (move W.setting.program globals (f ∷ []))) → old.reached ≡ true → (j : ℕ) → j ≤ n → GoesOn W homes Kept j old k
call_goes W homes size n Kept k old new e good whole outermost ends = λ on j le.
    stage_goes W homes j k Kept size old e.mid good on e.begins (call_whole old new e W whole) (λ i below. at_act i)
  where
    at_end : (i : ℕ) → AtFresh W.setting homes Kept i (length e.mid.stages.stages.items) k
    at_end zero resume variables arrays f fs is stands = tt
    at_end (suc i) resume variables arrays f fs is stands =
        subst (λ o. DoesStage W.setting.program (Follows W.setting.program W.setting.stages i) o variables arrays (f ∷ fs))
        (sym (pushed_at W.stage_of W.setting.stages e.mid.stages new.stages whole (stage.Act code.Return 0) e.pushes))
        (λ globals. subst (λ gs. IsEnd (move W.setting.program globals (f ∷ gs))) (sym (no_callers W.setting.callers variables arrays fs outermost stands.callers)) (ends f globals is))

    at_act : (i : ℕ) → GoesOn W homes Kept i e.mid k
    at_act i = record {
      fresh = λ idle label among.
          subst (λ l. AtFresh W.setting homes Kept i l k) (sym (pushed_here (stage.Act code.Return 0) e.mid.stages new.stages e.pushes W.stage_of whole.obeys label among)) (at_end i);
      busy = λ busy. absurd (let idle = stage_idle size old e.mid good e.begins in omega arith);
      here = λ busy. absurd (let idle = stage_idle size old e.mid good e.begins in omega arith);
    }

-- printf.

pub values_length : (es : List Expression) (m : Memory) (vs : List ℤ) (ls : List Location) → values es m ≡ Gives vs ls → length vs ≡ length es
values_length [] m vs ls e = ap length (sym (gives_is [] vs ls e).0)
values_length (e ∷ es) m vs ls is =
    let p = parts (value e m) (λ v. and_then (values es m) (λ ws. Gives (v ∷ ws) [])) vs ls is in
    let q = parts (values es m) (λ ws. Gives (p.value ∷ ws) []) vs p.rest p.then_ in
    let g = gives_is (p.value ∷ q.value) vs q.rest q.then_ in
    let rest = values_length es m q.value q.first q.is in
    sym (ap length g.0) ∙ ap suc rest
