use Rattle.std.proofs.Common.{◌++◌, ◌∙◌, ap}
use Rattle.generated_text.specs.declared.draws.Line.{Line}
use Rattle.generated_text.specs.Text.{line_text}
use Rattle.generated_text.proofs.Texts.{one_more, none_left}
use Rattle.generated_text.proofs.text.put_lines.Goals as goal

pub loop-drawn-preserved : goal.loop-drawn-preserved
loop-drawn-preserved c =
    one_more line_text c.args.out.now c.loop-drawn.out _ c.args.seed c.loop-drawn.draws.number _ c.args.size c.loop-drawn.drawn
    c.loop-drawn-test.true c.loop-drawn.invariant c.line.ensures.number
    (c.in_ok-put_line.ensures ∙ ap (λ (l : Line). c.loop-drawn.out ++ line_text l) c.line.ensures.line)

pub returns : goal.returns
returns c =
    none_left line_text c.args.out.now c.loop-drawn.out c.args.seed c.loop-drawn.draws.number c.args.size c.loop-drawn.drawn
    c.loop-drawn-test.false c.loop-drawn.invariant
