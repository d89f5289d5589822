use Rattle.std.proofs.Common.{◌++◌, ◌+◌, ◌-◌, ◌/◌, ◌∙◌, ℕ, List, ap, refl}
use Rattle.vcd_text.specs.Dump.{id_digits}
use Rattle.vcd_text.proofs.Ids.{goes_on}
use Rattle.vcd_text.proofs.put_id.Goals as goal

pub loop-i-preserved : goal.loop-i-preserved
loop-i-preserved c =
    ap (λ (l : List ℕ). l ++ id_digits (10 - (c.loop-i.i + 1)) (c.loop-i.rest / 94)) c.in_ok-push.ensures
    ∙ goes_on c.loop-i.out _ c.loop-i.i c.loop-i.rest _ c.loop-i-test.true c.if-rest-eq0.false refl c.loop-i.invariant
