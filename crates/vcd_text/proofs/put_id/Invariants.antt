use Rattle.std.proofs.Common.{◌≡◌, ◌++◌, ◌-◌}
use Rattle.vcd_text.specs.Dump.{id_digits}
use Rattle.vcd_text.proofs.put_id.Given as goal

abbrev pub invariant-loop-i : goal.invariant-loop-i
invariant-loop-i l = l.out ++ id_digits (10 - l.i) l.rest ≡ l.fn.out ++ id_digits 10 l.number
