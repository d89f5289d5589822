use Rattle.std.proofs.Common.{[], ◌∷◌, ◌++◌, ap, ◌∙◌, append_assoc}
use Rattle.std.proofs.lemmas.Result.{on_ok_weaker}
use Rattle.thread_requests.specs.Outputs.{request_row, fields_from}
use Rattle.thread_requests.proofs.outputs.add_request.Goals as goal

pub returns : goal.returns
returns c =
    on_ok_weaker c.add_fields.result (λ e. e ∙ ap (λ l. c.add.new.rows ++ fields_from c.args.first 0 l) c.as_slice.ensures
    ∙ ap (λ l. l ++ fields_from c.args.first 0 c.args.request.now.fields) c.in_ok-add.ensures
    ∙ append_assoc c.args.rows.now (request_row c.args.ask ∷ []) (fields_from c.args.first 0 c.args.request.now.fields))
    c.add_fields.ensures
