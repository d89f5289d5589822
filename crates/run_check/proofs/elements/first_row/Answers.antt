use Rattle.std.proofs.Common.{◌≡◌, ◌∙◌, ℕ, ap, refl}
use Rattle.std.specs.Prelude.{slice_index}
use Rattle.run_check.proofs.Rows.{all_zero}
use Rattle.run_check.proofs.FirstRows.{first_more}
use Rattle.run_check.proofs.elements.first_row.Goals as goal

pub loop-preserved : goal.loop-preserved
loop-preserved c =
    let zero : (k : ℕ) → slice_index c.in_ok-reads.reads.items k ≡ 0 = λ k. ap (λ xs. slice_index xs k) c.in_ok-reads.ensures ∙ all_zero c.args.threads k in
    rw c.in_ok-push.ensures.items
    (first_more c.loop.row.items (record { write = record { thread = 0; number = 0 }; reads = c.in_ok-reads.reads }) c.loop.invariant refl zero)
