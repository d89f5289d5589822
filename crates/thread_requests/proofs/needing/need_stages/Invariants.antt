use Rattle.thread_requests.specs.Needing.{NeedsMore, FitStages, IsNeedOfFirst}
use Rattle.thread_requests.proofs.needing.need_stages.Given as goal

abbrev pub invariant-loop-number : goal.invariant-loop-number
invariant-loop-number l =
    NeedsMore l.registers (FitStages l.registers l.code l.planned) (IsNeedOfFirst l.registers l.code l.planned l.number) l.fn.wires.signals l.wires.signals l.first l.need
