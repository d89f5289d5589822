use Rattle.std.proofs.lemmas.Result.{on_ok_weaker}
use Rattle.thread_requests.specs.Outputs.{request_row, field_row}
use Rattle.thread_requests.proofs.OutputPorts.{four_added}
use Rattle.thread_requests.proofs.outputs.add_bank.Goals as goal

pub returns : goal.returns
returns c =
    on_ok_weaker c.add-4.result (four_added c.args.rows.now c.add.new.rows c.add-2.new.rows c.add-3.new.rows c.add-4.new.rows (request_row c.args.ask) (field_row 1 c.args.writes)
    (field_row 64 c.args.address) (field_row c.args.width c.args.value) c.in_ok-add.ensures c.in_ok-add-2.ensures c.in_ok-add-3.ensures)
    c.add-4.ensures
