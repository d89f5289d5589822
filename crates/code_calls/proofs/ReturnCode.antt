-- The code of a return: a step whose block leads to where the caller goes on.
use Rattle.std.proofs.Common.{◌≡◌, ℕ, suc, ◌+◌, ◌*◌, ◌≤◌, true, List, [], ◌∷◌, ◌++◌, length, ℤ, Option, Some, None, refl, sym, ap, ◌∙◌, subst, inl, inr, arith}
use Rattle.std.proofs.Common.{append-nil}
use Rattle.std.specs.Prelude.{slice_get, ◌⊎◌}
use Rattle.hls_ints.specs.Types.{long_int}
use Rattle.c_program.specs.declared.tree.ReturnType.{ReturnType}
use Rattle.c_program.specs.declared.tree.ReturnType.TheVariants.{Void, Integer, Pointer}
use Rattle.c_program.specs.Tree.{Expression, Statement, Program}
use Rattle.c_program.specs.Resolved.{IsExpression, IsReturn, Around, IsStatement}
use Rattle.c_program.specs.Weight.{expression_weight}
use Rattle.thread_semantics.specs.declared.cause.UndefinedCause.{UndefinedCause}
use Rattle.thread_semantics.specs.Memory.{Location, Memory, Evaluation, Gives, Fails}
use Rattle.thread_semantics.specs.Value.{value}
use Rattle.thread_semantics.specs.Work.{Work, Do}
use Rattle.thread_semantics.specs.State.{Frame}
use Rattle.thread_semantics.specs.Move.{Faults, returned_value, returned, moving, end_offset, statement_move, work_move, move}
use Rattle.block_ir.specs.declared.operand.Operand.{Operand}
use Rattle.block_ir.specs.declared.block.Operation.{Operation}
use Rattle.block_ir.specs.Run.{Access, Running, operand_value, operations_run}
use Rattle.code_following.specs.Following.{AfterMove, IsEnd}
use Rattle.code_blocks.specs.declared.homes.Home.{Home}
use Rattle.code_places.specs.declared.targets.Loop.{Loop}
use Rattle.code_blocks.specs.declared.open_block.OpenBlock.{OpenBlock}
use Rattle.code_places.specs.declared.targets.Back.{Back}
use Rattle.code_places.specs.declared.lowering.Lowering.{Lowering}
use Rattle.code_blocks.specs.Needs.{IsBelow, AreBelow}
use Rattle.code_blocks.specs.Evaluating.{current_value, with_more, Reads, Evaluates, held_by}
use Rattle.code_blocks.specs.Closing.{HasNoted}
use Rattle.code_following.specs.Typed.{IsTypedOperand}
use Rattle.code_blocks.specs.Typing.{Typing, IsTypedOpen}
use Rattle.code_places.specs.Resuming.{in_call, going_again, Keeping, nothing_kept, IsMid, IsSound}
use Rattle.code_places.specs.Apart.{IsTypedNow, IsGood}
use Rattle.code_places.specs.Control.{EndsCall, Whole, IsIn, GoesOn}
use Rattle.code_places.specs.Seats.{GoesBack, LeadsBack, IsSeated, HasVariable, HasWord}
use Rattle.code_places.specs.Weighing.{inlined_weight}
use Rattle.code_places.specs.Doing.{Grows, Shifts, OnwardUpTo, Leads, LowersHere}
use Rattle.code_calls.specs.Calling.{return_of, PutsReturned, Returns, StepsBack, ReturnsNothing, Closes}
use Rattle.code_blocks.proofs.OperationRuns.{reads_none}
use Rattle.code_blocks.proofs.Steps.{fits_on, read_held, length_on}
use Rattle.code_blocks.proofs.TypedExpressions.{operand_converted}
use Rattle.code_blocks.proofs.TypedAssignments.{variable_stored}
use Rattle.code_places.proofs.TypedGrowth.{IsTypedBut, open_more, now_more}
use Rattle.code_places.proofs.CodeGrowth.{grows_both, shifts_refl, jumps_shifts, jumps_but, call_shifts}
use Rattle.code_places.proofs.BlockSteps.{block_grows, call_goes}
use Rattle.code_calls.proofs.ReturnTargets.{Leaves, into_small, returned_goes, back_goes, IsReturned, is_returned, returned_none}

-- ---- the outermost call

pub outermost_seat : (P : Program) (W : Whole) (homes : List Home) (size : ℕ) (c : Lowering) → IsSeated P W homes size c → c.back ≡ None → W.setting.callers ≡ []
outermost_seat P W homes size c seated is = subst (LeadsBack W) is seated.back

pub back_seat : (P : Program) (W : Whole) (homes : List Home) (size : ℕ) (b : Back) (c : Lowering) → IsSeated P W homes size c → c.back ≡ Some b → GoesBack W b
back_seat P W homes size b c seated is = subst (LeadsBack W) is seated.back

-- ---- a step that returns a value

-- the next step is undefined, or returns the value that stands in an operand
pub record IsReturning (P : Program) (variables : ℕ → ℤ) (r s : Running) (a : Operand) (f : Frame) (fs : List Frame) (globals : List (List ℤ)) : Type 0 where
  pub offset : ℕ
  pub given : ℤ
  pub reads_ : List Location
  pub reads : Reads r s reads_
  pub stands : operand_value variables s.values a ≡ given
  pub is : move P globals (f ∷ fs) ≡ returned P offset (Some given) reads_ f fs

pub record IsFaulting (P : Program) (f : Frame) (fs : List Frame) (globals : List (List ℤ)) : Type 0 where
  pub offset : ℕ
  pub cause : UndefinedCause
  pub is : move P globals (f ∷ fs) ≡ Faults offset cause

module _ (P : Program) (b : Back) (old code new : Lowering) (more : List Operation) (a : Operand) (code_is : code ≡ record old { block = code.block }) (added : code.block ≡ with_more old.block more)
    (under : AreBelow (length old.block.operations) old.block.current → IsBelow (length code.block.operations) a) (back_is : old.back ≡ Some b) (ret : Returns b a code new)
    (on : old.reached ≡ true) where
  ir : IsReturned b.into b.returns a code.block ret.put
  ir = is_returned b.into b.returns a code.block ret.put ret.puts

  abbrev stepped_block : OpenBlock
  stepped_block = record ret.put { steps = suc ret.put.steps }

  stepped_is : ret.stepped ≡ record old { block = stepped_block }
  stepped_is = ret.is ∙ ap (λ (z : Lowering). record z { block = stepped_block }) code_is

  block_is : ret.stepped.block ≡ stepped_block
  block_is = ap (λ (z : Lowering). z.block) stepped_is

  stepped_same : ret.stepped ≡ record old { block = ret.stepped.block }
  stepped_same = stepped_is ∙ ap (λ (z : OpenBlock). record old { block = z }) (sym block_is)

  put_fits : AreBelow (length old.block.operations) old.block.current → AreBelow (length ret.put.operations) ret.put.current
  put_fits fits =
      subst (λ os. AreBelow (length os) ret.put.current) (sym ir.operations)
      (ir.below (length code.block.operations) (under fits) (fits_on [] old.block code.block more added fits))

  stepped_sounds : (size : ℕ) → IsSound size old.block → IsSound size ret.stepped.block
  stepped_sounds size sound = subst (IsSound size) (sym block_is) (record {
    size = ir.size ∙ ap (λ (z : OpenBlock). length z.current) added ∙ sound.size;
    noted = ir.noted (subst HasNoted (sym added) sound.noted);
    below = put_fits sound.below;
    fresh = λ idle. absurd cc;
  })

  value_stepped : Grows old ret.stepped
  value_stepped = block_grows old ret.stepped stepped_same stepped_sounds on

  pub value_grows : Grows old new
  value_grows = grows_both old ret.stepped new value_stepped (jumps_shifts b.label ret.stepped new ret.jumps).grows

  pub value_site : new.site ≡ old.site
  value_site = (jumps_shifts b.label ret.stepped new ret.jumps).site ∙ ap (λ (z : Lowering). z.site) stepped_is

  put_typed : (S : Typing) → HasVariable S.types b.into → IsTypedOperand S.types code.block.operations a → IsTypedOpen S.types code.block → IsTypedOpen S.types ret.put
  put_typed S variable typed open_ = by b.into b.returns variable ret.puts
    where
      by : (into : Option ℕ) (returns : ReturnType) → HasVariable S.types into → PutsReturned into returns a code.block ret.put → IsTypedOpen S.types ret.put
      by None returns there p = subst (IsTypedOpen S.types) (sym p) open_
      by (Some n) Void there p = subst (IsTypedOpen S.types) (sym p) open_
      by (Some n) Pointer there p = subst (IsTypedOpen S.types) (sym p) open_
      by (Some n) (Integer ty) there p =
          variable_stored S.types n long_int p.twice code.block ret.put p.operations p.current there
          (operand_converted S.types long_int code.block.operations p.once p.twice p.second (operand_converted S.types ty code.block.operations a p.once p.first typed)) p.second.type open_

  pub value_typed : (S : Typing) (w most size : ℕ) → 1 ≤ most → length code.block.operations ≤ length old.block.operations + 4 * most → HasWord S.types (Some b) → IsTypedOpen S.types code.block →
      IsTypedOperand S.types code.block.operations a → IsGood size old → IsTypedNow S w old → IsTypedNow S (w + most) new
  value_typed S w most size some count word open_ typed good now =
      let put_open = put_typed S word typed open_ in
      let same = ap length ir.operations in
      (jumps_shifts b.label ret.stepped new ret.jumps).typed S (w + most) size (value_stepped.good size good)
      (subst (IsTypedNow S (w + most)) (sym stepped_is)
      (open_more S w (w + most) old (record old { block = record ret.put { steps = suc ret.put.steps } }) refl (omega arith)
      (record { operations = put_open.operations; few = put_open.few; current = put_open.current }) (omega (arith, same, count))
      (let f = now.steps in let t = ir.steps in let u = ap (λ (z : OpenBlock). z.steps) added in omega (arith, f, t, u, some)) now))

  module _ (W : Whole) (homes : List Home) (size n : ℕ) (Kept : Keeping) (k : List Work) (good : IsGood size old) (seated : IsSeated P W homes size old) (whole : IsIn W new)
      (outcome : (variables : ℕ → ℤ) (r : Running) (f : Frame) (fs : List Frame) (globals : List (List ℤ)) → f.work ≡ k → IsMid W.setting homes Kept old.block variables r f fs globals →
      IsFaulting W.setting.program f fs globals ⊎ IsReturning W.setting.program variables r (operations_run variables more r) a f fs globals) where
    back : GoesBack W b
    back = back_seat P W homes size b old seated back_is

    pub value_goes : GoesOn W homes Kept n old k
    value_goes =
        back_goes W homes size n Kept k b back old ret.stepped new more good (stepped_sounds size good.sound).noted (ap (λ (z : Lowering). z.stages) stepped_is)
        (ap (λ (z : OpenBlock). z.operations) block_is ∙ ir.operations ∙ ap (λ (z : OpenBlock). z.operations) added)
        (ap (λ (z : OpenBlock). z.steps) block_is ∙ ap suc (ir.steps ∙ ap (λ (z : OpenBlock). z.steps) added)) ret.jumps whole
        (λ variables r f fs globals is mid Cont then_. by variables r f fs globals mid Cont then_ (outcome variables r f fs globals is mid))
      where
        by : (variables : ℕ → ℤ) (r : Running) (f : Frame) (fs : List Frame) (globals : List (List ℤ)) (mid : IsMid W.setting homes Kept old.block variables r f fs globals)
            (Cont : List Frame → List (List ℤ) → List Access → Type 0)
            (then_ : (g : Frame) (gs : List Frame) (left : List (List ℤ)) (made : List Access) → g.work ≡ going_again back.caller.work →
            IsMid (in_call W.setting back.caller.number back.caller.function back.rest) back.caller.homes nothing_kept
            ret.stepped.block variables (operations_run variables more r) g gs left → (operations_run variables more r).accesses ≡ r.accesses ++ made → Cont (g ∷ gs) left made) →
            IsFaulting W.setting.program f fs globals ⊎ IsReturning W.setting.program variables r (operations_run variables more r) a f fs globals →
            AfterMove (move W.setting.program globals (f ∷ fs)) globals Cont
        by variables r f fs globals mid Cont then_ (inl h) = subst (λ mv. AfterMove mv globals Cont) (sym h.is) tt
        by variables r f fs globals mid Cont then_ (inr h) =
            let s = operations_run variables more r in
            let seen : Memory = record { locals = f.locals; globals = globals } in
            let current : (i : ℕ) → held_by ret.stepped.block.current variables s.values i ≡ held_by ret.put.current variables s.values i =
            (λ i. ap (λ (z : OpenBlock). current_value (slice_get z.current i) variables s.values i) block_is) in
            subst (λ mv. AfterMove mv globals Cont) (sym h.is)
            (returned_goes P W homes size b old ret.stepped.block more Kept seated back variables r f fs globals mid Cont then_ (Some h.given) h.reads_ h.reads
            (length_on homes old.block code.block more added variables r mid.values ∙ ap length (sym (ap (λ (z : OpenBlock). z.operations) block_is ∙ ir.operations)))
            (subst (λ ty. Leaves size b.into (returned_value ty (Some h.given)) (held_by old.block.current variables r.values) (held_by ret.stepped.block.current variables s.values)) back.returns
            (record {
              put = λ n u at given.
                  current n
                  ∙ ir.there variables s.values h.given u n at
                  (let below = into_small P W homes size b old seated back n at in
                  let all = good.sound.size in let same = ap (λ (z : OpenBlock). length z.current) added in omega (arith, below, all, same))
                  h.stands given;
              others = λ i lt free.
                  current i
                  ∙ ap (λ o. current_value o variables s.values i) (ir.other h.given i free)
                  ∙ read_held homes old.block code.block more added variables r seen h.reads_ good.sound.below mid.values h.reads i;
            }))
            h.offset)

-- ---- a return of nothing

module _ (old new : Lowering) (p : StepsBack old new) where
  nothing_is : p.stepped.block ≡ record old.block { steps = suc old.block.steps }
  nothing_is = ap (λ (z : Lowering). z.block) p.is

  nothing_sounds : (size : ℕ) → IsSound size old.block → IsSound size p.stepped.block
  nothing_sounds size sound = subst (IsSound size) (sym nothing_is) (record { size = sound.size; noted = sound.noted; below = sound.below; fresh = λ idle. absurd cc })

  nothing_stepped : old.reached ≡ true → Grows old p.stepped
  nothing_stepped on = block_grows old p.stepped (p.is ∙ ap (λ (z : OpenBlock). record old { block = z }) (sym nothing_is)) nothing_sounds on

  steps_back_shifts : old.reached ≡ true → Shifts old new
  steps_back_shifts on =
      let jumps = jumps_shifts p.back.label p.stepped new p.jumps in
      record {
        grows = grows_both old p.stepped new (nothing_stepped on) jumps.grows;
        site = jumps.site ∙ ap (λ (z : Lowering). z.site) p.is;
        typed = λ S w size good now.
            jumps_but p.back.label p.stepped new p.jumps (let e = ap (λ (z : OpenBlock). z.steps) nothing_is in omega (arith, e)) (nothing_sounds size good.sound).noted S w
            (subst (IsTypedBut S w) (sym p.is)
            (record { block = record { operations = now.block.operations; few = now.block.few; current = now.block.current }; idle = now.idle; size = now.size; stages = now.stages }));
      }

  steps_back_goes : (P : Program) (W : Whole) (homes : List Home) (size n : ℕ) (k : List Work) → IsGood size old → IsSeated P W homes size old → IsIn W new → (offset : Frame → ℕ) →
      ((f : Frame) (fs : List Frame) (globals : List (List ℤ)) → f.work ≡ k → move W.setting.program globals (f ∷ fs) ≡ returned W.setting.program (offset f) None [] f fs) →
      GoesOn W homes nothing_kept n old k
  steps_back_goes P W homes size n k good seated whole offset moves =
      let back = back_seat P W homes size p.back old seated p.is_back in
      back_goes W homes size n nothing_kept k p.back back old p.stepped new [] good (nothing_sounds size good.sound).noted (ap (λ (z : Lowering). z.stages) p.is)
      (ap (λ (z : OpenBlock). z.operations) nothing_is ∙ sym (append-nil old.block.operations)) (ap (λ (z : OpenBlock). z.steps) nothing_is) p.jumps whole
      (λ variables r f fs globals is mid Cont then_.
      subst (λ mv. AfterMove mv globals Cont) (sym (moves f fs globals is))
      (returned_goes P W homes size p.back old p.stepped.block [] nothing_kept seated back variables r f fs globals mid Cont then_ None [] (reads_none r [] refl)
      (mid.values ∙ ap (λ (z : OpenBlock). length z.operations) (sym nothing_is))
      (record {
        put = λ n u at given. absurd (let none : None ≡ Some u = sym (returned_none W.setting.function.returns) ∙ given in cc);
        others = λ i lt free. ap (λ (z : OpenBlock). current_value (slice_get z.current i) variables r.values i) nothing_is;
      }) (offset f)))

pub nothing_shifts : (old new : Lowering) → old.reached ≡ true → ReturnsNothing old new → Shifts old new
nothing_shifts old new on (inl p) = call_shifts old new p.ends
nothing_shifts old new on (inr p) = steps_back_shifts old new p on

pub nothing_goes : (P : Program) (W : Whole) (homes : List Home) (size n : ℕ) (k : List Work) (old new : Lowering) → ReturnsNothing old new → IsGood size old →
    IsSeated P W homes size old → IsIn W new →
    (offset : Frame → ℕ) → ((f : Frame) (fs : List Frame) (globals : List (List ℤ)) → f.work ≡ k → move W.setting.program globals (f ∷ fs) ≡ returned W.setting.program (offset f) None [] f fs) →
    OnwardUpTo W homes n old k
nothing_goes P W homes size n k old new (inl p) good seated whole offset moves =
    call_goes W homes size n nothing_kept k old new p.ends good whole (outermost_seat P W homes size old seated p.outermost)
    (λ f globals is. subst IsEnd (sym (moves f [] globals is)) tt)
nothing_goes P W homes size n k old new (inr p) good seated whole offset moves = λ on j le.
    steps_back_goes old new p P W homes size j k good seated whole offset moves

-- the closing brace
pub closes_shifts : (old new : Lowering) → Closes old new → Shifts old new
closes_shifts old new (inl p) = subst (Shifts old) (sym p.same) (shifts_refl old)
closes_shifts old new (inr p) = nothing_shifts old new p.on p.returns

pub closes_goes : (P : Program) (W : Whole) (homes : List Home) (size n : ℕ) (old new : Lowering) → Closes old new → IsGood size old → IsSeated P W homes size old → IsIn W new →
    OnwardUpTo W homes n old []
closes_goes P W homes size n old new (inl p) good seated whole = λ on. absurd (let off = p.off in cc)
closes_goes P W homes size n old new (inr p) good seated whole =
    nothing_goes P W homes size n [] old new p.returns good seated whole
    (λ f. end_offset (slice_get W.setting.program.functions f.function))
    (λ f fs globals is. ap (λ w. work_move W.setting.program (record { locals = f.locals; globals = globals }) f fs w) is)

-- ---- the statements

pub empty_return_at : (P : Program) (old new : Lowering) → ReturnsNothing old new → (offset : ℕ) (around : Option Loop) → LowersHere P around (Statement.Return offset None) old new
empty_return_at P old new returns offset around = λ on. record {
  grows = (nothing_shifts old new on returns).grows;
  site = (let e = (nothing_shifts old new on returns).site in omega (arith, e));
  typed = λ S w size suits now. now_more S w (w + inlined_weight S.program (Statement.Return offset None)) new (omega arith) ((nothing_shifts old new on returns).typed S w size suits.good now);
  leads = λ W homes size n k suits whole out after.
      nothing_goes P W homes size n (Do (Statement.Return offset None) ∷ k) old new returns suits.good suits.seated whole (λ f. offset)
      (λ f fs globals is. ap (λ w. work_move W.setting.program (record { locals = f.locals; globals = globals }) f fs w) is);
}

return_ends : (P : Program) (m : Memory) (f : Frame) (k : List Work) (offset : ℕ) (e : Expression) → IsEnd (statement_move P m f [] k (return_of offset e))
return_ends P m f k offset e = by (value e m)
  where
    by : (E : Evaluation ℤ) → IsEnd (moving offset E (λ v reads. returned P offset (Some v) reads f []))
    by (Gives v reads) = tt
    by (Fails cause) = tt

pub end_return_at : (P : Program) (old new : Lowering) (e : Expression) → old.back ≡ None → EndsCall old new → (offset : ℕ) (around : Option Loop) →
    LowersHere P around (return_of offset e) old new
end_return_at P old new e none ends offset around = λ on. record {
  grows = (call_shifts old new ends).grows;
  site = (let x = (call_shifts old new ends).site in omega (arith, x));
  typed = λ S w size suits now. now_more S w (w + inlined_weight S.program (return_of offset e)) new (omega arith) ((call_shifts old new ends).typed S w size suits.good now);
  leads = λ W homes size n k suits whole out after.
      call_goes W homes size n nothing_kept (Do (return_of offset e) ∷ k) old new ends suits.good whole (outermost_seat P W homes size old suits.seated none)
      (λ f globals work. subst (λ w. IsEnd (work_move W.setting.program (record { locals = f.locals; globals = globals }) f [] w)) (sym work)
      (return_ends W.setting.program (record { locals = f.locals; globals = globals }) f k offset e));
}

module _ (P : Program) (b : Back) (old code new : Lowering) (e : Expression) (a : Operand) (first : Evaluates old.homes e old.block code.block a) (code_is : code ≡ record old { block = code.block })
    (back_is : old.back ≡ Some b) (ret : Returns b a code new) (offset : ℕ) (around : Option Loop) (on : old.reached ≡ true) where
  returns_out : (W : Whole) (homes : List Home) (size : ℕ) (k : List Work) (here : Evaluates homes e old.block code.block a) → IsGood size old →
      (variables : ℕ → ℤ) (r : Running) (f : Frame) (fs : List Frame) (globals : List (List ℤ)) → f.work ≡ Do (return_of offset e) ∷ k →
      IsMid W.setting homes nothing_kept old.block variables r f fs globals →
      IsFaulting W.setting.program f fs globals ⊎ IsReturning W.setting.program variables r (operations_run variables here.operations r) a f fs globals
  returns_out W homes size k here good variables r f fs globals work mid = by (value e seen) refl
    where
      seen : Memory
      seen = record { locals = f.locals; globals = globals }

      is : move W.setting.program globals (f ∷ fs) ≡ moving offset (value e seen) (λ v reads. returned W.setting.program offset (Some v) reads f fs)
      is = ap (λ w. work_move W.setting.program seen f fs w) work

      by : (E : Evaluation ℤ) → value e seen ≡ E → IsFaulting W.setting.program f fs globals ⊎ IsReturning W.setting.program variables r (operations_run variables here.operations r) a f fs globals
      by (Fails cause) q = inl (record { offset = offset; cause = cause; is = is ∙ ap (λ E. moving offset E (λ v reads. returned W.setting.program offset (Some v) reads f fs)) q })
      by (Gives v ls) q = inr (record {
        offset = offset;
        given = v;
        reads_ = ls;
        reads = here.reads variables r seen v ls good.sound.below mid.values mid.holds q;
        stands = here.gives variables r seen v ls good.sound.below mid.values mid.holds q;
        is = is ∙ ap (λ E. moving offset E (λ v reads. returned W.setting.program offset (Some v) reads f fs)) q;
      })

  pub return_leads : Leads P around (return_of offset e) old new
  return_leads = record {
    grows = value_grows P b old code new first.operations a code_is first.added first.below back_is ret on;
    site = (let x = value_site P b old code new first.operations a code_is first.added first.below back_is ret on in omega (arith, x));
    typed = λ S w size suits now.
        let i = first.computes.typed S suits.fits (typed_right S suits.around suits.resolved) now.block in
        value_typed P b old code new first.operations a code_is first.added first.below back_is ret on S w (expression_weight e + 1) size (omega arith)
        (let c = first.computes.count in omega (arith, c))
        (subst (HasWord S.types) back_is suits.seated.back) i.block i.operand suits.good now;
    leads = λ W homes size n k suits whole out after reached j le.
        let here = subst (λ hs. Evaluates hs e old.block code.block a) suits.homes_ first in
        value_goes P b old code new here.operations a code_is here.added here.below back_is ret on W homes size j nothing_kept (Do (return_of offset e) ∷ k) suits.good suits.seated whole
        (returns_out W homes size k here suits.good);
  }
    where
      typed_right : (S : Typing) (around_ : Around) → IsStatement S.program S.function around_ (return_of offset e) →
          IsExpression S.program S.function e
      typed_right S around_ is = by S.function.returns is
        where
          by : (returns : ReturnType) → IsReturn S.program S.function returns (Some e) →
              IsExpression S.program S.function e
          by Void h = absurd h
          by (Integer ty) h = h
          by Pointer h = h

pub return_at : (P : Program) (b : Back) (old code new : Lowering) (e : Expression) (a : Operand) (homes : List Home) → homes ≡ old.homes → Evaluates homes e old.block code.block a →
    code ≡ record old { block = code.block } → old.back ≡ Some b → Returns b a code new → (offset : ℕ) (around : Option Loop) → LowersHere P around (return_of offset e) old new
return_at P b old code new e a homes housed first code_is back_is ret offset around = λ on.
    return_leads P b old code new e a (subst (λ hs. Evaluates hs e old.block code.block a) housed first) code_is back_is ret offset around on
