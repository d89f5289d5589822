-- Where a thread stands at an act of its code, its step is that act.
use Rattle.std.proofs.Common.{◌≡◌, ◌≢◌, ℕ, suc, List, map, refl, ap, sym, ◌∙◌, subst}
use Rattle.std.specs.Prelude.{ℤ, Bool, true, false, Option, Some, slice_get, slice_set, if◌then◌else◌}
use Rattle.std.specs.List.{list_any, list_all}
use Rattle.std.proofs.lemmas.List.{length-set}
use Rattle.lists.proofs.Places.{set_there, set_elsewhere}
use Rattle.c_program.specs.Tree.{Program}
use Rattle.c_program.specs.Resolved.{IsResolved}
use Rattle.thread_semantics.specs.declared.cause.UndefinedCause.TheVariants.{LiveThread}
use Rattle.thread_semantics.specs.State.{Frame, Running, Finished, State}
use Rattle.thread_semantics.specs.Move.{Move, move}
use Rattle.thread_semantics.specs.Step.{Stepped, Steps, Undefines, finished, moved, created_slots, is_unused, is_waiter, is_running, step}
use Rattle.block_ir.specs.declared.code.Act.{Act as CodeAct}
use Rattle.block_ir.specs.declared.code.Act.TheVariants as act
use Rattle.block_ir.specs.declared.code.Stage.{Stage}
use Rattle.block_ir.specs.declared.code.Stage.TheVariants as stage
use Rattle.interleaving.specs.Memory.{Location, Memory}
use Rattle.interleaving.specs.Source.{Undefined, View, view_at}
use Rattle.interleaving.specs.Interleaving.{Reachable}
use Rattle.planned_block.specs.Following.{AtStage}
use Rattle.race_model.specs.Source.{Local, local_of, running, location_of, view_of_move, outcome_of, c_source}
use Rattle.race_model.specs.Orderly.{is_finished, is_over}
use Rattle.race_model.proofs.Sound.{IsSound, step_moved, runs_on, reachable_sound}
use Rattle.race_model.proofs.Threaded.{view_is}
use Rattle.race_model.proofs.Possible.{is_possible}
use Rattle.code_following.specs.Following.{IsAct, IsEnd}
use Rattle.block_refine.specs.Threads.{plan_at, AtActOf}
use Rattle.block_refine.specs.Routines.{Codes, stage_at, AtStageOf, Starts}
use Rattle.block_refine.specs.Acts.{IsDefined}
use Rattle.block_refine.specs.RoutineActs.{IsStepOf, ActsAreSteps, ReturnsThere, ReturnsAreSteps}
use Rattle.block_refine.proofs.RoutineStages.{Followed}

-- every act but a return is a step and the calls after it
is_act_of : (P : Program) (Next : AtStage Local) (a : CodeAct) (next : ℕ) (variables : ℕ → ℤ) (arrays : Memory ℤ) (frames : List Frame) → a ≢ act.Return →
    AtActOf P Next a next variables arrays frames → (globals : List (List ℤ)) →
    IsAct P variables a (move P globals frames) (λ after. Next (running after) next variables arrays)
is_act_of P Next act.Return next variables arrays frames ne k globals = absurd (ne refl)
is_act_of P Next a next variables arrays frames ne k globals = k globals

-- a thread that runs has one list of calls
same_calls : (x : Local) (calls others : List Frame) → x ≡ running calls → x ≡ running others → calls ≡ others
same_calls x calls others e d = let slots : Some (Running calls) ≡ Some (Running others) = ap (λ (y : Local). y.slot) (sym e ∙ d) in cc

module _ (P : Program) (codes : Codes) (f : ℕ) where
  module _ (R : IsResolved P) (s : State) (i l next : ℕ) (variables : ℕ → ℤ) (arrays : Memory ℤ) (a : CodeAct) (at : Reachable (c_source P) s)
      (defined : IsDefined P s i) (starts : Starts P codes (local_of s i) f l variables arrays) (q : stage_at codes f l ≡ Some (stage.Act a next)) where
    -- what the n stages from the act on say
    at_act : (n : ℕ) → AtStageOf P (Followed P codes f n) (Some (stage.Act a next)) (local_of s i) variables arrays
    at_act n =
        subst (λ o. AtStageOf P (Followed P codes f n) o (local_of s i) variables arrays) q
        ((starts (suc n)).1 (ap (λ (o : Option Stage). (plan_at o (slice_get (codes f).plan.stages l)).states) q))

    -- the calls at the act
    abbrev calls : List Frame
    calls = (at_act 0).0

    own : local_of s i ≡ running calls
    own = (at_act 0).1

    slot : slice_get s.slots i ≡ Some (Running calls)
    slot = ap (λ (x : Local). x.slot) own

    free : list_any (is_waiter i) s.barriers ≡ false
    free = ap (λ (x : Local). x.waits) own

    sound : IsSound P s
    sound = reachable_sound P R s at

    act_here : (n : ℕ) → AtActOf P (Followed P codes f n) a next variables arrays calls
    act_here n =
        subst (λ frames. AtActOf P (Followed P codes f n) a next variables arrays frames)
        (same_calls (local_of s i) (at_act n).0 calls (at_act n).1 own) (at_act n).2

    steps_as : (mv : Move) → move P s.globals calls ≡ mv → step P s i ≡ moved P s i mv
    steps_as mv e = step_moved P s i calls slot free ∙ ap (moved P s i) e

    sees_as : (mv : Move) → move P s.globals calls ≡ mv → view_at (c_source P) s i ≡ view_of_move mv
    sees_as mv e = view_is P s i calls sound.shape slot free ∙ ap view_of_move e

    is_defined : (o : Stepped) → step P s i ≡ o → outcome_of o ≢ Undefined
    is_defined o e none = defined (runs_on P R s i calls sound slot) (ap is_running slot) (ap outcome_of e ∙ none)

    pub step_of : a ≢ act.Return → IsStepOf P codes s i f next variables arrays a
    step_of ne = go (move P s.globals calls) refl (λ n. is_act_of P (Followed P codes f n) a next variables arrays calls ne (act_here n) s.globals)
      where
        go : (mv : Move) → move P s.globals calls ≡ mv → ((n : ℕ) → IsAct P variables a mv (λ after. Followed P codes f n (running after) next variables arrays)) →
            IsStepOf P codes s i f next variables arrays a
        go (Move.Moves new reads write) e k = absurd (k 0)
        go (Move.Acts offset c operands new) e k = record {
          calls = calls;
          runs = own;
          offset = offset;
          act = c;
          operands = operands;
          frames = new;
          same = (k 0).0;
          view = sees_as (Move.Acts offset c operands new) e;
          steps = steps_as (Move.Acts offset c operands new) e;
          starts = λ n. (k n).1;
        }
        go (Move.Ends offset reads) e k = absurd (k 0)
        go (Move.Faults offset cause) e k = absurd (is_defined (Undefines offset cause) (steps_as (Move.Faults offset cause) e) refl)
        go Move.Impossible e k = absurd (is_possible P R s i calls sound slot e)

    -- a return ends the thread
    pub ends_as : a ≡ act.Return → (offset : ℕ) × (reads : List Location) × (view_at (c_source P) s i ≡ View.Ends reads) × (step P s i ≡ finished s i offset)
    ends_as return = go (move P s.globals calls) refl (subst (λ b. AtActOf P (Followed P codes f 0) b next variables arrays calls) return (act_here 0) s.globals)
      where
        go : (mv : Move) → move P s.globals calls ≡ mv → IsEnd mv →
            (offset : ℕ) × (reads : List Location) × (view_at (c_source P) s i ≡ View.Ends reads) × (step P s i ≡ finished s i offset)
        go (Move.Moves new reads write) e k = absurd k
        go (Move.Acts offset c operands new) e k = absurd k
        go (Move.Ends offset reads) e k = (offset, map location_of reads, sees_as (Move.Ends offset reads) e, steps_as (Move.Ends offset reads) e)
        go (Move.Faults offset cause) e k = absurd (is_defined (Undefines offset cause) (steps_as (Move.Faults offset cause) e) refl)
        go Move.Impossible e k = absurd (is_possible P R s i calls sound slot e)

  -- where main returns, its slot is finished and the program ended
  main_returns : (s : State) (variables : ℕ → ℤ) (arrays : Memory ℤ) (frames : List Frame) (reads : List Location) → slice_get s.slots 0 ≡ Some (Running frames) →
      view_at (c_source P) s 0 ≡ View.Ends reads → step P s 0 ≡ Steps (record s { slots = slice_set s.slots 0 Finished; ended = true }) →
      ReturnsThere P s
  main_returns s variables arrays frames reads slot view steps =
      let t : State = record s { slots = slice_set s.slots 0 Finished; ended = true } in
      let over : is_over (local_of t 0) ≡ true = ap is_finished (set_there s.slots 0 (Running frames) Finished slot) in
      record {
        state = t;
        reads = reads;
        view = view;
        steps = steps;
        output = refl;
        ended = refl;
        keeps = record {
          globals = refl;
          mutexes = refl;
          barriers = refl;
          threads = length-set s.slots 0 Finished;
          others = λ j ne d. record {
            slot = set_elsewhere s.slots 0 j Finished (λ same. ne (sym same)) d;
            waits = list_any (is_waiter j) s.barriers;
          };
        };
        over = over;
      }

pub acts_are_steps : ActsAreSteps
acts_are_steps P codes s i f l next variables arrays a R at defined starts q ne = step_of P codes f R s i l next variables arrays a at defined starts q ne

pub returns_are_steps : ReturnsAreSteps
returns_are_steps P codes s f l next variables arrays R at defined starts q =
    go (list_all is_unused (created_slots s.slots)) end.3
  where
    end : (offset : ℕ) × (reads : List Location) × (view_at (c_source P) s 0 ≡ View.Ends reads) × (step P s 0 ≡ finished s 0 offset)
    end = ends_as P codes f R s 0 l next variables arrays act.Return at defined starts q refl

    go : (b : Bool) → step P s 0 ≡ (if b then Steps (record s { slots = slice_set s.slots 0 Finished; ended = true }) else Undefines end.0 LiveThread) →
        ReturnsThere P s
    go true e = main_returns P codes f s variables arrays _ end.1 (slot P codes f R s 0 l next variables arrays act.Return at defined starts q) end.2 e
    go false e = absurd (is_defined P codes f R s 0 l next variables arrays act.Return at defined starts q (Undefines end.0 LiveThread) e refl)
