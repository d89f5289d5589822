-- What a run of a net answers.
use Rattle.std.specs.Prelude.{◌≡◌, ℕ, Bool, List, ◌++◌}
use Rattle.netlist.specs.declared.netlist.Module.{Module}
use Rattle.hardware_threads.specs.Run.{IsRan}
use Rattle.run_command.specs.Lines.{listed_lines, summary}
use Rattle.run_command.specs.declared.run.RunAnswer.{RunAnswer}

-- a journal of at most so many entries that a run made, what it printed and its verdict, and the lines that say so
pub record IsRunAnswer (modules : List Module) (threads most : ℕ) (listed : Bool) (a : RunAnswer) : Type 0 where
  pub ran : IsRan modules threads most a.journal a.output a.verdict
  pub lines : a.lines ≡ listed_lines listed a.journal ++ summary a.journal a.verdict
