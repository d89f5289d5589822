use Rattle.std.proofs.Common.{◌≡◌, List, ℕ, length, map, subst, ◌∙◌}
use Rattle.hls_ints.specs.Types.{width_of}
use Rattle.thread_slots.specs.Requests.{BeginsAsking, BeginsLinked}
use Rattle.thread_requests.proofs.Named.{begins_met, linked_met}
use Rattle.thread_requests.proofs.early.begin_requests.Goals as goal

pub returns : goal.returns
returns c =
    let a = c.args.wires.now.signals in
    let b = c.begin.new.wires.signals in
    let d = c.name_met.new.wires.signals in
    let code = c.args.code.now in
    let registers = c.args.registers.now in
    let widths = map width_of c.args.globals.now in
    let words : c.as_slice.result.now ≡ widths = c.as_slice.ensures ∙ c.in_ok-words.ensures in
    let requests = c.in_ok-requests.requests in
    let met = c.in_ok-met.met in
    let begun : BeginsAsking a b c.args.served widths requests =
    subst (λ (z : List ℕ). BeginsAsking a b c.args.served z requests) words c.in_ok-requests.ensures.begins in
    let linked : BeginsLinked a b c.args.served widths requests =
    subst (λ (z : List ℕ). BeginsLinked a b c.args.served z requests) words c.in_ok-requests.ensures.wired in
    record {
      with_begin = b;
      begins = begins_met code registers c.args.served widths a b d requests met (length code.stages) begun c.in_ok-met.ensures;
      met = c.in_ok-met.ensures;
      wired = linked_met code registers c.args.served widths a b d requests met linked c.in_ok-met.ensures;
    }
