use Rattle.std.proofs.lemmas.Option.{slice_get-get_or}
use Rattle.thread_slots.specs.Wired.{IsNamedOutput}
use Rattle.thread_requests.proofs.OutputPorts.{rows_none, rows_more}
use Rattle.thread_slots.proofs.SlotWires.{laid_grows, behind_none, behind_then}
use Rattle.thread_requests.proofs.RequestWires.{output_numbered}
use Rattle.thread_requests.proofs.outputs.lay_rows.Goals as goal

pub loop-row-preserved : goal.loop-row-preserved
loop-row-preserved c =
    let listed = slice_get-get_or c.args.rows.now c.loop-row.row-index _ c.loop-row-test.true in
    record {
      lays =
          rows_more c.args.wires.now.signals c.loop-row.wires.signals c.output.new.self.signals c.args.rows.now c.loop-row.row-index _ _ c.loop-row.invariant.lays listed
          c.in_ok-output.ensures.stands;
      named = λ n many.
          behind_then (IsNamedOutput n) c.args.wires.now.signals c.loop-row.wires.signals c.output.new.self.signals
          (laid_grows c.loop-row.wires.signals c.output.new.self.signals _ _ _ _ _ c.in_ok-output.ensures.laid) (c.loop-row.invariant.named n many)
          (output_numbered n c.loop-row.wires.signals c.output.new.self.signals _ _ _ _ c.in_ok-output.ensures.laid (many c.loop-row.row-index _ listed));
    }

pub loop-row-init : goal.loop-row-init
loop-row-init c = record { lays = rows_none c.args.wires.now.signals c.args.rows.now; named = λ n many. behind_none (IsNamedOutput n) c.args.wires.now.signals }
