use Rattle.std.proofs.Common.{ℕ, subst}
use Rattle.std.specs.Prelude.{IfOk}
use Rattle.thread_requests.specs.Needing.{NeedsMore, IsNumbered, IsThere}
use Rattle.thread_requests.proofs.needing.need_meeting.Goals as goal

pub returns : goal.returns
returns c =
    subst (λ (k : ℕ). IfOk c.need_at.result (NeedsMore c.args.registers.now (IsNumbered c.args.registers.now k) (IsThere c.args.registers.now k) c.args.wires.now.signals
    c.need_at.new.wires.signals c.args.need)) c.in_ok-meeting.ensures c.need_at.ensures
