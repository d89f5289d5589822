use Rattle.std.proofs.Common.{◌≡◌, ◌*◌, ◌∙◌, Bool, List, ℕ, false, length, ap, sym, subst, arith}
use Rattle.std.specs.Prelude.{slice_index_or}
use Rattle.sim_layout.specs.Running.{choice_of}
use Rattle.sim_events.specs.Events.{AreOrdered, IsSettling}
use Rattle.sim_events.proofs.Flags.{block_clear, block_end}
use Rattle.sim_events.proofs.PendingSteps.{settling_none, settling_skips, settling_all}
use Rattle.sim_events.proofs.pending.settle_again.Goals as goal
use Rattle.sim_events.proofs.pending.settle_again.Goals.{then-is_marked, else-is_marked}

pub loop-block-init : goal.loop-block-init
loop-block-init c = record {
  settling = settling_none c.args.modules.now c.args.steps.now c.args.fanout.now.starts.items c.args.fanout.now.steps.items (choice_of c.args.choice.now) c.args.words.now c.args.starts.now
      c.args.numbers.now c.args.pending.now.steps.items c.requires.keeping;
  flagged = c.requires.flagged;
}

pub take_block-requires-clause-ordered : goal.take_block-requires-clause-ordered
take_block-requires-clause-ordered c = subst (λ n. AreOrdered c.args.modules.now c.args.steps.now n) (sym c.loop-block.invariant.settling.long) c.requires.ordered

pub take_block-requires-clause-count : goal.take_block-requires-clause-count
take_block-requires-clause-count c = c.loop-block.invariant.settling.keeping.long

pub loop-block-preserved : goal.loop-block-preserved
loop-block-preserved c =
    let first = c.args.numbers.now in
    let block = c.loop-block.block in
    let At : ℕ → List ℕ → List Bool → Type 0 =
    IsSettling c.args.modules.now c.args.steps.now (choice_of c.args.choice.now) c.args.words.now c.args.starts.now c.args.fanout.now.starts.items c.args.fanout.now.steps.items first in
    let clear : c.is_marked.result ≡ false → slice_index_or c.loop-block.pending.blocks.items block false ≡ false =
    λ e. ap (λ (m : List Bool). slice_index_or m block false) (sym c.as_slice.ensures.value) ∙ sym c.is_marked.ensures ∙ e in
    elim c.if-is_marked.branch [
      | then-is_marked w ↦
          rw w.numbers-is
          (rw w.pending-is
          (record {
            settling = subst (λ n. At n w.take_block.new.numbers w.take_block.new.pending.steps.items) (omega arith) (w.take_block.ensures.settling first c.loop-block.invariant.settling);
            flagged = w.take_block.ensures.flagged;
          }))
      | else-is_marked w ↦
          rw w.numbers-is
          (rw w.pending-is
          (record {
            settling = subst (λ n. At n c.loop-block.numbers c.loop-block.pending.steps.items) (omega arith)
                (settling_skips c.args.modules.now c.args.steps.now c.args.fanout.now.starts.items c.args.fanout.now.steps.items (choice_of c.args.choice.now) c.args.words.now c.args.starts.now first
                16 (block * 16) c.loop-block.numbers c.loop-block.pending.steps.items
                (block_clear c.loop-block.pending.steps.items c.loop-block.pending.blocks.items c.loop-block.invariant.flagged block (clear w.if-is_marked.false))
                c.loop-block.invariant.settling);
            flagged = c.loop-block.invariant.flagged;
          }))
    ]

pub returns-clause-numbers : goal.returns-clause-numbers
returns-clause-numbers c =
    let end = block_end (length c.args.steps.now) in
    settling_all c.args.modules.now c.args.steps.now c.args.fanout.now.starts.items c.args.fanout.now.steps.items (choice_of c.args.choice.now) c.args.words.now c.args.starts.now c.args.numbers.now
    (c.loop-block.block * 16) c.loop-block.numbers c.loop-block.pending.steps.items (omega (arith, end)) c.requires.ordered c.loop-block.invariant.settling

pub returns-clause-keeping : goal.returns-clause-keeping
returns-clause-keeping c = c.loop-block.invariant.settling.keeping

pub returns-clause-flagged : goal.returns-clause-flagged
returns-clause-flagged c = c.loop-block.invariant.flagged
