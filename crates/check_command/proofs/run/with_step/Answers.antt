use Rattle.std.proofs.Common.{◌≡◌, ◌++◌, ◌∷◌, [], ap, ◌∙◌, rules}
use Rattle.turns.specs.Turns.{threads_of, turn}
use Rattle.run_check.proofs.Runs.{threads_last}
use Rattle.check_command.proofs.run.with_step.Goals as goal

pub returns : goal.returns
returns c =
    let list : c.push.new.self.items ≡ c.args.turns.items ++ turn c.args.thread 1 ∷ [] = search rules in
    ap threads_of list ∙ threads_last c.args.turns.items (turn c.args.thread 1)
