-- What an answer stands for.
use Rattle.std.specs.Prelude.{string_bytes}
use Rattle.lock_discipline.specs.Discipline.{Verdict, Disciplined, Doubt}
use Rattle.lockset_check.specs.declared.check.Checked.{Checked}
use Rattle.lockset_check.specs.declared.check.Checked.TheVariants as checked

abbrev pub verdict_of : Checked → Verdict
verdict_of (checked.Disciplined globals) = Disciplined globals
verdict_of (checked.Doubt offset name) = Doubt offset (string_bytes name)
