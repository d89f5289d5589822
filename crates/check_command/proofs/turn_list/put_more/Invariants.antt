use Rattle.std.proofs.Common.{◌≡◌, ◌++◌, drop}
use Rattle.check_command.specs.TurnList.{more_text}
use Rattle.check_command.proofs.turn_list.put_more.Given as goal

abbrev pub invariant-loop-turn : goal.invariant-loop-turn
invariant-loop-turn l = l.fn.text ++ more_text l.turns ≡ l.text ++ more_text (drop l.turn-index l.turns)
