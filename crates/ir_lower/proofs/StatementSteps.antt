-- The code of statements without others in them.
use Rattle.std.proofs.Common.{◌≡◌, ℕ, suc, ◌+◌, ◌*◌, List, [], ◌∷◌, ℤ, Option, Some, refl, sym, ap, ◌∙◌, subst, arith, append-nil}
use Rattle.std.specs.Prelude.{OnOk, IfErr, IfSome, MatchResult}
use Rattle.std.proofs.Common.{Result, Ok, Err}
use Rattle.hls_ints.specs.Types.{IntegerType}
use Rattle.c_program.specs.declared.tree.BinaryOperator.{BinaryOperator}
use Rattle.c_program.specs.Tree.{Expression, Place, Statement, Program}
use Rattle.c_program.specs.Limits.{print_count}
use Rattle.code_places.specs.Weighing.{inlined_weight}
use Rattle.c_program.specs.Resolved.{IsExpression, IsPlace, IsUpdate}
use Rattle.thread_semantics.specs.Work.{Work, Do, Onward, Leaving, Turning, settled}
use Rattle.thread_semantics.specs.Move.{assignment, update, without_values, going_on, work_move}
use Rattle.code_blocks.specs.declared.homes.Home.{Home}
use Rattle.code_blocks.specs.declared.open_block.OpenBlock.{OpenBlock}
use Rattle.code_places.specs.declared.targets.Loop.{Loop}
use Rattle.code_places.specs.declared.lowering.Lowering.{Lowering}
use Rattle.code_blocks.specs.Assigning.{Assigns}
use Rattle.code_blocks.specs.Typing.{WorksOnAssignment, WorksOnUpdate}
use Rattle.code_following.specs.Following.{AfterMove}
use Rattle.code_places.specs.Resuming.{nothing_kept, IsMid, IsSound}
use Rattle.code_places.specs.Control.{Jumps, Whole}
use Rattle.code_places.specs.Doing.{OnwardUpTo, IfUsed, Leads, LowersHere}
use Rattle.code_places.proofs.TypedGrowth.{now_more, works_typed, idle_works}
use Rattle.code_places.proofs.Shapes.{lengths_without, element_without, assignment_there, update_there}
use Rattle.code_places.proofs.ResumedPlaces.{Goes}
use Rattle.code_places.proofs.CodeGrowth.{grows_refl, jumps_shifts, jumps_goes}
use Rattle.code_places.proofs.BlockSteps.{assigning_leads, block_grows, step_goes}

pub assign_at : (P : Program) (place : Place) (e : Expression) (homes : List Home) (old new : Lowering) → homes ≡ old.homes →
    Assigns homes (λ m. assignment place e m) old.block new.block → WorksOnAssignment homes place e old.block new.block → new ≡ record old { block = new.block } →
    (offset : ℕ) (around : Option Loop) → LowersHere P around (Statement.Assign offset place e) old new
assign_at P place e homes old new housed a works same offset around = λ on.
    assigning_leads P (Statement.Assign offset place e) offset (λ m. assignment place e m) old new
    (subst (λ hs. Assigns hs (λ m. assignment place e m) old.block new.block) housed a) same (λ P m f fs k. refl)
    (λ P f at m ok shape x ls gives. assignment_there P f m shape place e x ls ok.0 gives) refl (λ k. refl) around on
    (λ S w size suits now.
    works_typed S w (inlined_weight S.program (Statement.Assign offset place e)) homes
    (λ S. IsPlace S.program S.function place × IsExpression S.program S.function e) old new same housed
    (omega arith) a.steps works suits.fits suits.resolved now)

pub update_at : (P : Program) (place : Place) (operator : BinaryOperator) (ty : IntegerType) (e : Expression) (homes : List Home) (old new : Lowering) → homes ≡ old.homes →
    Assigns homes (λ m. update place operator ty e m) old.block new.block → WorksOnUpdate homes place operator ty e old.block new.block → new ≡ record old { block = new.block } →
    (offset : ℕ) (around : Option Loop) → LowersHere P around (Statement.Update offset place operator ty e) old new
update_at P place operator ty e homes old new housed a works same offset around = λ on.
    assigning_leads P (Statement.Update offset place operator ty e) offset (λ m. update place operator ty e m) old new
    (subst (λ hs. Assigns hs (λ m. update place operator ty e m) old.block new.block) housed a) same (λ P m f fs k. refl)
    (λ P f at m ok shape x ls gives. update_there P f m shape place operator ty e x ls ok.target gives) refl (λ k. refl) around on
    (λ S w size suits now.
    works_typed S w (inlined_weight S.program (Statement.Update offset place operator ty e)) homes (λ S. IsUpdate S.program S.function place operator ty e) old new same housed
    (omega arith) a.steps works suits.fits suits.resolved
    now)

-- what follows from two clauses of a last call
pub on_ok_both : {T E P Q R : Type 0} (r : Result T E) → (P → Q → R) → OnOk r P → OnOk r Q → OnOk r R
on_ok_both (Ok x) f p q = f p q
on_ok_both (Err y) f p q = tt

-- the two cases of a last call
pub match_ok : {T E : Type 0} (P : Type 0) (Q : E → Type 0) (r : Result T E) → MatchResult r (λ _. P) Q → OnOk r P
match_ok P Q (Ok x) h = h
match_ok P Q (Err y) h = tt

pub match_err : {T E : Type 0} (P : T → Type 0) (Q : E → Type 0) (r : Result T E) → MatchResult r P Q → IfErr r Q
match_err P Q (Ok x) h = tt
match_err P Q (Err y) h = h

-- A declarator: no element of the local is written any more.

pub declare_at : (P : Program) (old new : Lowering) (b : OpenBlock) → b ≡ record old.block { steps = suc old.block.steps } → new ≡ record old { block = b } →
    (offset local operators : ℕ) (around : Option Loop) → LowersHere P around (Statement.Declare offset local operators) old new
declare_at P old new b stepped is offset local operators around = λ on. record {
  grows = block_grows old new same
      (λ size sound. subst (IsSound size) (sym block_is) (record {
        size = sound.size;
        noted = sound.noted;
        below = sound.below;
        fresh = λ idle. absurd cc;
      })) on;
  site = (let e = ap (λ (z : Lowering). z.site) is in omega (arith, e));
  typed = λ S w size suits now.
      works_typed S w (inlined_weight S.program (Statement.Declare offset local operators)) old.homes (λ S. Unit {0}) old new same refl
      (omega arith) (ap (λ (z : OpenBlock). z.steps) block_is)
      (idle_works old.homes (4 * inlined_weight S.program (Statement.Declare offset local operators)) old.block new.block block_is) suits.fits tt now;
  leads = λ W homes size n k suits whole out after reached j le.
      step_goes W homes size j nothing_kept nothing_kept old new [] (Do (Statement.Declare offset local operators) ∷ k) (settled Onward k) (ap (λ (z : Lowering). z.stages) is)
      (ap (λ (z : OpenBlock). z.operations) block_is ∙ sym (append-nil old.block.operations)) (ap (λ (z : OpenBlock). z.steps) block_is) (declares W homes k) suits.good
      (after (ap (λ (z : Lowering). z.reached) is ∙ on) j le);
}
  where
    block_is : new.block ≡ record old.block { steps = suc old.block.steps }
    block_is = ap (λ (z : Lowering). z.block) is ∙ stepped

    same : new ≡ record old { block = new.block }
    same = is ∙ ap (λ (z : OpenBlock). record old { block = z }) (sym (ap (λ (z : Lowering). z.block) is))

    declares : (W : Whole) (homes : List Home) (k : List Work) →
        Goes W.setting homes W.setting homes nothing_kept nothing_kept old.block new.block [] (Do (Statement.Declare offset local operators) ∷ k) (settled Onward k)
    declares W homes k variables r f fs globals is mid Cont then_ =
        subst (λ w. AfterMove (work_move W.setting.program (record { locals = f.locals; globals = globals }) f fs w) globals Cont) (sym is)
        (then_ (record (going_on f k) { locals = without_values f.locals local }) fs globals [] refl
        (subst (λ (z : OpenBlock). IsMid W.setting homes nothing_kept z variables r (record (going_on f k) { locals = without_values f.locals local }) fs globals) (sym block_is)
        (record {
          number = mid.number;
          shape = lengths_without f.locals local ∙ mid.shape;
          values = mid.values;
          holds = record {
            locals = λ x i v e. mid.holds.locals x i v (element_without f.locals local x i v e);
            globals = mid.holds.globals;
          };
          kept = tt;
          callers = mid.callers;
        }))
        (sym (append-nil r.accesses)))

-- Statements that do nothing.

nothing_leads : (P : Program) (s : Statement) (c : Lowering) (around : Option Loop) → print_count s ≡ 0 → ((k : List Work) → settled Onward (Do s ∷ k) ≡ settled Onward k) → Leads P around s c c
nothing_leads P s c around none opens = record {
  grows = grows_refl c;
  site = omega arith;
  typed = λ S w size suits now. now_more S w (w + inlined_weight S.program s) c (omega arith) now;
  leads = λ W homes size n k suits whole out after. subst (λ w. OnwardUpTo W homes n c w) (sym (opens k)) after;
}

pub done_at : (P : Program) (around : Option Loop) (s : Statement) (c : Lowering) → s ≡ Statement.Done → LowersHere P around s c c
done_at P around s c is = λ on. rw is (nothing_leads P Statement.Done c around refl (λ k. refl))

pub empty_at : (P : Program) (around : Option Loop) (s : Statement) (c : Lowering) → s ≡ Statement.Empty → LowersHere P around s c c
empty_at P around s c is = λ on. rw is (nothing_leads P Statement.Empty c around refl (λ k. refl))

pub label_at : (P : Program) (around : Option Loop) (s : Statement) (value : Option ℤ) (operators : ℕ) (c : Lowering) → s ≡ Statement.Label value operators → LowersHere P around s c c
label_at P around s value operators c is = λ on. rw is (nothing_leads P (Statement.Label value operators) c around refl (λ k. refl))

pub lowers_is : (P : Program) (around : Option Loop) (s t : Statement) (old new : Lowering) → t ≡ s → LowersHere P around s old new → LowersHere P around t old new
lowers_is P around s t old new e h = subst (λ z. LowersHere P around z old new) (sym e) h

-- Break and continue.

pub break_at : (P : Program) (around : Option Loop) (l : Loop) (old new : Lowering) → around ≡ Some l → Jumps l.leaving old new → LowersHere P around Statement.Break old new
break_at P around l old new is jumps = λ on. rw is record {
  grows = (jumps_shifts l.leaving old new jumps).grows;
  site = (let e = (jumps_shifts l.leaving old new jumps).site in omega (arith, e));
  typed = λ S w size suits now.
      now_more S w (w + 1) new (omega arith) ((jumps_shifts l.leaving old new jumps).typed S w size suits.good now);
  leads = λ W homes size n k suits whole out after. jumps_goes W homes n (settled Leaving k) l.leaving size old new suits.good jumps whole out.0;
}

pub continue_at : (P : Program) (around : Option Loop) (l : Loop) (turning : ℕ) (old new : Lowering) → around ≡ Some l → l.turning ≡ Some turning → Jumps turning old new →
    LowersHere P around Statement.Continue old new
continue_at P around l turning old new is turns jumps = λ on. rw is record {
  grows = (jumps_shifts turning old new jumps).grows;
  site = (let e = (jumps_shifts turning old new jumps).site in omega (arith, e));
  typed = λ S w size suits now.
      now_more S w (w + 1) new (omega arith) ((jumps_shifts turning old new jumps).typed S w size suits.good now);
  leads = λ W homes size n k suits whole out after.
      jumps_goes W homes n (settled Turning k) turning size old new suits.good jumps whole (subst (λ o. IfSome o (λ t. IfUsed W homes n new.stages.used t (settled Turning k))) turns out.1);
}
