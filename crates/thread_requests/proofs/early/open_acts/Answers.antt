use Rattle.std.proofs.Common.{refl, ap, ◌∙◌}
use Rattle.std.specs.Prelude.{List, ℕ, [], ◌∷◌, ◌++◌}
use Rattle.thread_slots.specs.Services.{if_thread_ids}
use Rattle.thread_requests.proofs.OpenCores.{acts_opened}
use Rattle.thread_requests.proofs.early.open_acts.Goals as goal

pub returns : goal.returns
returns c =
    let served = c.args.served in
    let requests = c.args.requests.now in
    let barriers = c.in_ok-barriers.field-0 in
    let last = if_thread_ids served.thread_ids (requests.thread_ids.wants ∷ []) ++ requests.printer.wants ∷ [] in
    acts_opened served requests c.args.wires.now.signals c.open_objects.new.wires.signals c.open_objects-2.new.wires.signals c.in_ok-mutexes.mutexes barriers
    (record { opens = c.in_ok-opens.opens; barriers = barriers.names }) c.in_ok-mutexes.ensures c.in_ok-barriers.ensures
    (c.in_ok-opens.ensures ∙ ap (λ (l : List ℕ). l ++ (barriers.opens ++ last)) c.into_opens.ensures) refl
