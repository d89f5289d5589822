use Rattle.std.proofs.Common.{◌<◌, ◌≤◌, ap, arith, refl, length}
use Rattle.block_ir.specs.declared.operand.Source.{Source}
use Rattle.register_binding.specs.Used.{is_value}
use Rattle.register_binding.proofs.ListMarks.{nothing_used, mark_one, past_marked}
use Rattle.register_binding.proofs.used.mark.Goals as goal

pub returns-in-Constant : goal.returns-in-Constant
returns-in-Constant c = nothing_used _ _ (λ k. ap (λ (s : Source). is_value s k) c.in-Constant.is)

pub returns-in-Variable : goal.returns-in-Variable
returns-in-Variable c = nothing_used _ _ (λ k. ap (λ (s : Source). is_value s k) c.in-Variable.is)

pub returns-then-number-end : goal.returns-then-number-end
returns-then-number-end c =
    let within : c.in-Value.number < length c.args.used.now.items = omega arith in
    mark_one _ c.args.used.now.items _ c.in-Value.number within refl (λ k. ap (λ (s : Source). is_value s k) c.in-Value.is)

pub returns-else-number-end : goal.returns-else-number-end
returns-else-number-end c =
    let past : length c.args.used.now.items ≤ c.in-Value.number = omega arith in
    past_marked _ c.args.used.now.items c.in-Value.number past (λ k. ap (λ (s : Source). is_value s k) c.in-Value.is)
