use Rattle.std.proofs.Common.{ap, subst}
use Rattle.c_program.specs.Plain.{expression_of}
use Rattle.code_blocks.specs.declared.open_block.OpenBlock.{OpenBlock}
use Rattle.code_blocks.specs.Truths.{LooksAt}
use Rattle.code_control.proofs.Decisions.{tests_branch}
use Rattle.code_control.proofs.conditions.lower_test.Goals as goal

pub returns : goal.returns
returns c =
    tests_branch c.args.note (expression_of c.args.operand.now) c.args.nonzero c.args.zero c.args.code.now (record c.args.code.now { block = c.step.new.self }) c.branch-code.new.self
    c.lower_operand.new.block c.in_ok-test.test
    (subst (λ hs. LooksAt hs c.args.note (expression_of c.args.operand.now) c.args.code.now.block c.lower_operand.new.block c.in_ok-test.test) c.as_slice-homes.ensures c.in_ok-test.ensures.looks)
    (ap (λ (z : OpenBlock). record c.args.code.now { block = z }) c.in_ok-step.ensures.after) c.in_ok-branch.ensures
