-- The code of a program begins at its first place.
use Rattle.std.proofs.Common.{◌≡◌, ℕ, zero, suc, true, false, List, [], ◌∷◌, map, Some, None, refl, sym, ap, ◌∙◌, subst, inl, inr, arith}
use Rattle.std.specs.Prelude.{slice_get}
use Rattle.std.proofs.lemmas.Bool.{and_parts}
use Rattle.c_program.specs.declared.tree.Function.{Function as FunctionTree}
use Rattle.c_program.specs.declared.tree.Program.{Program as ProgramTree}
use Rattle.c_program.specs.Plain.{function_of, program_of, statement_of}
use Rattle.c_program.specs.Tree.{Program}
use Rattle.block_ir.specs.declared.block.Block.{Block}
use Rattle.block_ir.specs.declared.code.Stage.TheVariants.{Run}
use Rattle.code_storage.specs.declared.rooms.Rooms.{Rooms}
use Rattle.code_places.specs.declared.lowering.Lowering.{Lowering}
use Rattle.ir_lower.specs.Taken.{is_taken, are_taken}
use Rattle.code_places.specs.Labels.{is_used, IsFit, IsFirst, AreAhead}
use Rattle.code_places.specs.Control.{marked, with_label, Begins, IsAtHand, Begun}
use Rattle.code_places.specs.Doing.{Proceeds, IsNew, Starts}
use Rattle.code_calls.specs.Calling.{Closes}
use Rattle.code_places.proofs.LabelTargets.{placed_here}
use Rattle.code_places.proofs.CodeGrowth.{begins_shifts}
use Rattle.code_places.proofs.OpenLabels.{unused_after, begins_advance}
use Rattle.code_calls.proofs.OpenCalls.{closes_first, closes_all}
use Rattle.code_places.proofs.OpenParts.{none_begun}

-- ---- the whole

taken_in : (fs : List FunctionTree) (n : ℕ) (f : FunctionTree) → slice_get fs n ≡ Some f → are_taken (map function_of fs) ≡ true → is_taken false false (statement_of f.body) ≡ true
taken_in [] n f at all = absurd cc
taken_in (g ∷ gs) zero f at all =
    ap (λ z. is_taken false false (statement_of z.body)) (let same : f ≡ g = cc in same) ∙ (and_parts (is_taken false false (statement_of g.body)) (are_taken (map function_of gs)) all).0
taken_in (g ∷ gs) (suc n) f at all = taken_in gs n f at (and_parts (is_taken false false (statement_of g.body)) (are_taken (map function_of gs)) all).1

pub taken_body : (p : ProgramTree) (number : ℕ) (f : FunctionTree) → slice_get p.functions.items number ≡ Some f → are_taken (program_of p).functions ≡ true →
    is_taken false false (statement_of f.body) ≡ true
taken_body p number f at taken = taken_in p.functions.items number f at taken

module _ (P : Program) (H : Rooms) (number words : ℕ) (first : Lowering) (new_ : IsNew P H number words first) (start : ℕ) (begun : Lowering) (starts : Starts start first begun) where
  labelled_is : starts.labelled.stages ≡ (with_label first).stages
  labelled_is = ap (λ (z : Lowering). z.stages) starts.is

  pub start_at_hand : IsAtHand start begun
  start_at_hand = by starts.begins
    where
      by : Begins start starts.labelled begun → IsAtHand start begun
      by (inr p) = absurd (let busy = p.ends.busy in let e = new_.block.steps in let same = ap (λ (z : Lowering). z.block.steps) starts.is in omega (arith, busy, e, same))
      by (inl p) = subst (IsAtHand start) (sym p.same) (record {
        none = ap (λ (z : Lowering). z.stages.stages.items) starts.is ∙ new_.items;
        on = refl;
        label = start;
        here = placed_here start (marked start starts.labelled) p.open_;
        alike = λ stage_of o. refl;
        unused = unused_after start starts.labelled p.open_
            (λ other apart o. ap (λ (z : Lowering). is_used z.stages.used other) starts.is ∙ ap (λ us. is_used us other) new_.used);
      })

  first_fit : IsFit first.stages
  first_fit = record {
    below = λ number n e. absurd (let p = new_.places in let none = ap (λ ps. slice_get ps number) p in cc);
    later = λ number label other e bound. absurd (let p = new_.places in let none = ap (λ ps. slice_get ps number) p in cc);
  }

  nothing_there : (l : ℕ) (b : Block) → slice_get first.stages.stages.items l ≡ Some (Run b) → ⊥
  nothing_there l b at = absurd (let none = ap (λ ss. slice_get ss l) new_.items in cc)

  first_ahead : AreAhead first.stages
  first_ahead = record {
    first = λ b at. absurd (nothing_there 0 b at);
    choices = λ l b at idle. absurd (nothing_there l b at);
    ahead = λ l b label number k n at idle to bound le came. absurd (nothing_there l b at);
  }

  pub start_back : begun.back ≡ None
  start_back = (begins_shifts start starts.labelled begun starts.begins).grows.back ∙ starts.relabels.shifts.grows.back ∙ new_.back

  module _ (lowered ended : Lowering) (proceeds : Proceeds None begun lowered) (closes : Closes lowered ended) where
    lowered_begun : Begun start lowered
    lowered_begun = none_begun start lowered (proceeds.begun start (inl (inl start_at_hand)))

    pub ended_first : IsFirst start ended.stages
    ended_first = closes_first lowered ended closes start lowered_begun

    lowered_fit : IsFit lowered.stages
    lowered_fit = proceeds.advances.fit ((begins_advance start starts.labelled begun starts.begins).fit (starts.relabels.advances.fit first_fit))

    pub ended_fit : IsFit ended.stages
    ended_fit = (closes_all lowered ended closes).fit lowered_fit

    pub ended_ahead : AreAhead ended.stages
    ended_ahead =
        (closes_all lowered ended closes).ahead
        (proceeds.advances.ahead ((begins_advance start starts.labelled begun starts.begins).ahead (starts.relabels.advances.ahead first_ahead)))
