use Rattle.std.proofs.Common.{◌≡◌, List, ◌++◌, length, sym, ap, ◌∙◌}
use Rattle.thread_requests.specs.declared.outputs.Row.{Row}
use Rattle.thread_requests.specs.Outputs.{joined, rows_from, acts_from}
use Rattle.block_ir.specs.declared.service.Service.{Service}
use Rattle.thread_slots.specs.Services.{services}
use Rattle.thread_requests.proofs.OutputPorts.{joined_then}
use Rattle.thread_requests.proofs.outputs.request_rows.Goals as goal

pub returns : goal.returns
returns c =
    let asks = c.args.asks.now in
    let requests = c.args.requests.now in
    let banks = rows_from asks requests.banks 0 c.args.words.now in
    let first : c.add_banks.new.rows ≡ joined banks = c.in_ok-add_banks.ensures ∙ ap (λ (l : List Row). l ++ joined banks) c.new-rows.ensures in
    c.in_ok-add_acts.ensures
    ∙ ap (λ (l : List Row). l ++ joined (acts_from c.args.served asks requests (length c.args.words.now) c.as_slice-kinds.result.now)) first
    ∙ ap (λ (l : List Service). joined banks ++ joined (acts_from c.args.served asks requests (length c.args.words.now) l)) (c.as_slice-kinds.ensures ∙ c.in_ok-services.ensures)
    ∙ sym (joined_then banks (acts_from c.args.served asks requests (length c.args.words.now) (services c.args.served)))
