use Rattle.std.proofs.Common.{sym, ◌∙◌}
use Rattle.operator_wires.proofs.MadeWords.{of_ok}
use Rattle.thread_requests.specs.Needing.{NeedsMore, HasStates, IsBehind, IsTaken}
use Rattle.thread_requests.proofs.Needs.{needs_read, needs_other}
use Rattle.thread_requests.proofs.needing.need_read.Goals as goal

pub returns-then-is_read : goal.returns-then-is_read
returns-then-is_read c =
    of_ok c.need_word.result
    (NeedsMore c.args.registers.now (HasStates c.args.registers.now c.args.at c.args.states) (IsBehind c.args.registers.now c.args.at c.args.states c.args.start)
    c.args.wires.now.signals c.need_word.new.wires.signals c.args.need)
    (NeedsMore c.args.registers.now (HasStates c.args.registers.now c.args.at c.args.states)
    (IsTaken c.args.registers.now c.args.at c.args.states c.args.start c.args.operation.now) c.args.wires.now.signals c.need_word.new.wires.signals c.args.need)
    (λ out t.
    needs_read c.args.registers.now c.args.at c.args.states c.args.start c.args.operation.now c.args.wires.now.signals c.need_word.new.wires.signals c.args.need out
    (sym c.is_read.ensures ∙ c.if-is_read.true) t) c.need_word.ensures

pub returns-else-is_read : goal.returns-else-is_read
returns-else-is_read c =
    needs_other c.args.registers.now c.args.at c.args.states c.args.start c.args.operation.now c.args.wires.now.signals c.args.need (sym c.is_read.ensures ∙ c.if-is_read.false)
