-- Where the code in the making goes on.
use Rattle.std.proofs.Common.{◌≡◌, ℕ, zero, suc, ◌+◌, ◌<◌, ◌≤◌, List, [], ◌∷◌, ◌++◌, length, ℤ, Option, Some, None, refl, sym, ap, ◌∙◌, subst, arith, append_assoc, length-append}
use Rattle.std.specs.Prelude.{slice_get}
use Rattle.lists.proofs.Places.{get_last, get_left}
use Rattle.c_program.specs.Tree.{Function, Program}
use Rattle.thread_semantics.specs.Work.{Work}
use Rattle.thread_semantics.specs.State.{Frame}
use Rattle.thread_semantics.specs.Move.{move}
use Rattle.block_ir.specs.declared.operand.Operand.{Operand}
use Rattle.block_ir.specs.declared.block.Operation.{Operation}
use Rattle.block_ir.specs.declared.code.Stage.{Stage}
use Rattle.block_ir.specs.Run.{Cells, Access, Running, operations_run, started, block_run}
use Rattle.code_blocks.specs.declared.homes.Home.{Home}
use Rattle.code_blocks.specs.declared.homes.Home.TheVariants as home
use Rattle.code_blocks.specs.declared.open_block.OpenBlock.{OpenBlock}
use Rattle.code_blocks.specs.Evaluating.{current_value, local_value, held_by}
use Rattle.code_blocks.specs.Closing.{IsUnchanged, IsFresh}
use Rattle.code_following.specs.Following.{AfterMove, AfterMoves, DoesStage, Follows}
use Rattle.code_places.specs.Resuming.{home_value, Caller, Setting, in_call, Keeping, AreHeld, Stands, AllResume, CallersResume, IsMid, Comes, InBlock, AtFresh, IsSound}
use Rattle.code_blocks.proofs.OperationRuns.{run_append, same_function}

-- stages that are there stay there
pub stage_at : (xs zs all : List Stage) (y : Stage) → all ≡ (xs ++ y ∷ []) ++ zs → slice_get all (length xs) ≡ Some y
stage_at xs zs all y e =
    ap (λ l. slice_get l (length xs)) e
    ∙ get_left (xs ++ y ∷ []) zs (length xs) (let long = length-append xs (y ∷ []) in omega (arith, long))
    ∙ get_last xs y

-- callers go on for fewer stages too
pub resume_less : (P : Program) (stages : List Stage) (word : ℕ) (cs : List Caller) (i n : ℕ) → i ≤ n → AllResume P stages word cs n → AllResume P stages word cs i
resume_less P stages word [] i n le all = tt
resume_less P stages word (c ∷ cs) i n le all = (λ j below. all.0 j (omega arith), resume_less P stages word cs i n le all.1)

unchanged_value : (current : List (Option Operand)) (variables : ℕ → ℤ) (values : List ℤ) (x : ℕ) (o : Option (Option Operand)) → slice_get current x ≡ o → IsUnchanged current →
    current_value o variables values x ≡ variables x
unchanged_value current variables values x (Some (Some a)) e unchanged = absurd (unchanged x a e)
unchanged_value current variables values x (Some None) e unchanged = refl
unchanged_value current variables values x None e unchanged = refl

module _ (S : Setting) (homes : List Home) (Kept : Keeping) where
  -- a block that hasn't begun
  module _ (size l : ℕ) (b : OpenBlock) (k : List Work) (fresh : IsFresh size b) (variables : ℕ → ℤ) (arrays : Cells) where
    held_fresh : variables ≡ held_by b.current variables []
    held_fresh = same_function variables (held_by b.current variables []) (λ x. sym (unchanged_value b.current variables [] x (slice_get b.current x) refl fresh.current))

    local_fresh : (globals : Cells) (x j : ℕ) (o : Option Home) → local_value o b.current variables (started arrays globals) x j ≡ home_value o variables arrays x j
    local_fresh globals x j (Some (home.Array a)) = refl
    local_fresh globals x j (Some (home.Variable n)) = unchanged_value b.current variables [] n (slice_get b.current n) refl fresh.current
    local_fresh globals x j None = unchanged_value b.current variables [] x (slice_get b.current x) refl fresh.current

    module _ (n : ℕ) (inside : InBlock S homes Kept n l b k) where
      run_is : (globals : Cells) → operations_run variables inside.rest (started arrays globals) ≡ block_run inside.block variables arrays globals
      unfolding block_run
      run_is globals =
          ap (λ os. operations_run variables os (started arrays globals)) (sym (inside.operations ∙ ap (λ os. os ++ inside.rest) fresh.operations))

      count_is : inside.count ≡ inside.block.steps
      count_is = let idle = fresh.steps in let all = inside.steps in omega arith

      pub begins : (j : ℕ) → j < n → CallersResume S (suc j) → (f : Frame) (fs : List Frame) → f.work ≡ k → Stands S homes Kept variables arrays f fs →
          Follows S.program S.stages (suc j) l variables arrays (f ∷ fs)
      begins j lt resume f fs is stands =
          subst (λ o. DoesStage S.program (Follows S.program S.stages j) o variables arrays (f ∷ fs)) (sym inside.at)
          (record {
            steps = λ globals cells hold.
                subst (λ count. AfterMoves S.program count (f ∷ fs) globals []
                (λ frames made. Comes S homes Kept inside.block j variables (block_run inside.block variables arrays cells) frames made)) count_is
                (subst (λ s. AfterMoves S.program inside.count (f ∷ fs) globals [] (λ frames made. Comes S homes Kept inside.block j variables s frames made)) (run_is cells)
                (inside.goes j lt (resume_less S.program S.stages S.word S.callers j (suc j) (omega arith) resume) variables (started arrays cells) f fs globals is
                (record {
                  number = stands.number;
                  shape = stands.shape;
                  values = ap length (sym fresh.operations);
                  holds = record {
                    locals = λ x i v e. local_fresh cells x i (slice_get homes x) ∙ stands.locals x i v e;
                    globals = hold;
                  };
                  kept = subst (λ vs. Kept vs f.kept) held_fresh stands.kept;
                  callers = subst (λ vs. AreHeld S.callers vs arrays fs) held_fresh stands.callers;
                })));
          })

  pub fresh_of_in : (size n l : ℕ) (b : OpenBlock) (k : List Work) → IsFresh size b → InBlock S homes Kept n l b k → AtFresh S homes Kept n l k
  fresh_of_in size zero l b k fresh inside = λ resume variables arrays f fs is stands. tt
  fresh_of_in size (suc j) l b k fresh inside = λ resume variables arrays f fs is stands. begins size l b k fresh variables arrays (suc j) inside j (omega arith) resume f fs is stands

pub fresh_sound : (size : ℕ) (b : OpenBlock) → IsFresh (size + 4) b → IsSound size b
fresh_sound size b fresh = record {
  size = fresh.size;
  noted = λ x o e. absurd (fresh.current x o e);
  below = λ x o e. absurd (fresh.current x o e);
  fresh = λ idle. fresh;
}

-- a step that adds operations, and leaves the thread in a call of this kind
abbrev pub Goes : Setting → List Home → Setting → List Home → Keeping → Keeping → OpenBlock → OpenBlock → List Operation → List Work → List Work → Type 1
Goes S homes T seats Kept After old new more k after =
    (variables : ℕ → ℤ) (r : Running) (f : Frame) (fs : List Frame) (globals : List (List ℤ)) → f.work ≡ k → IsMid S homes Kept old variables r f fs globals →
    (Cont : List Frame → List (List ℤ) → List Access → Type 0) →
    ((g : Frame) (gs : List Frame) (left : List (List ℤ)) (made : List Access) → g.work ≡ after → IsMid T seats After new variables (operations_run variables more r) g gs left →
    (operations_run variables more r).accesses ≡ r.accesses ++ made → Cont (g ∷ gs) left made) →
    AfterMove (move S.program globals (f ∷ fs)) globals Cont

module _ (S : Setting) (homes : List Home) (number : ℕ) (function : Function) (callers : List Caller) (seats : List Home) (Kept After : Keeping) (old new : OpenBlock) (more : List Operation)
    (k after : List Work) (added : new.operations ≡ old.operations ++ more) (stepped : new.steps ≡ suc old.steps)
    (goes : Goes S homes (in_call S number function callers) seats Kept After old new more k after) where
  pub in_more : (n l : ℕ) → ((j : ℕ) → j < n → CallersResume S j → CallersResume (in_call S number function callers) j) →
      InBlock (in_call S number function callers) seats After n l new after → InBlock S homes Kept n l old k
  in_more n l resumes inside = record {
    block = inside.block;
    at = inside.at;
    rest = more ++ inside.rest;
    operations = inside.operations ∙ ap (λ os. os ++ inside.rest) added ∙ append_assoc old.operations more inside.rest;
    count = suc inside.count;
    steps = (let e = inside.steps in omega arith);
    goes = λ j lt resume variables r f fs globals is mid.
        goes variables r f fs globals is mid
        (λ next left made. AfterMoves S.program inside.count next left (r.accesses ++ made)
        (λ frames all. Comes S homes Kept inside.block j variables (operations_run variables (more ++ inside.rest) r) frames all))
        (λ g gs left made is' mid' same.
        subst (λ a. AfterMoves S.program inside.count (g ∷ gs) left a (λ frames all. Comes S homes Kept inside.block j variables (operations_run variables (more ++ inside.rest) r) frames all)) same
        (subst (λ s. AfterMoves S.program inside.count (g ∷ gs) left (operations_run variables more r).accesses (λ frames all. Comes S homes Kept inside.block j variables s frames all))
        (sym (run_append variables more inside.rest r))
        (inside.goes j lt (resumes j lt resume) variables (operations_run variables more r) g gs left is' mid')));
  }
