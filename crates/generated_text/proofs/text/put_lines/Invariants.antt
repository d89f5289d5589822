use Rattle.std.proofs.Common.{◌≡◌, ◌++◌, ◌-◌}
use Rattle.std.specs.List.{flat_map}
use Rattle.generated_text.specs.Draws.{lines_of}
use Rattle.generated_text.specs.Text.{line_text}
use Rattle.generated_text.proofs.text.put_lines.Given as goal

-- the lines that are left follow those that stand there
abbrev pub invariant-loop-drawn : goal.invariant-loop-drawn
invariant-loop-drawn l =
    l.out ++ flat_map line_text (lines_of l.draws.number (l.size - l.drawn)) ≡ l.fn.out ++ flat_map line_text (lines_of l.fn.seed l.size)
