use Rattle.std.proofs.Common.{ap, ◌∙◌, sym}
use Rattle.std.specs.List.{list_any}
use Rattle.c_program.specs.Plain.{program_of}
use Rattle.program_modules.specs.Numbers.{is_idle_object}
use Rattle.program_modules.proofs.ModuleCount.{idle_is}
use Rattle.program_modules.proofs.has_idle.Goals as goal

pub returns : goal.returns
returns c = c.any_idle.ensures ∙ ap (list_any is_idle_object) c.as_slice.ensures.value ∙ sym (idle_is (program_of c.args.program.now))
