use Rattle.std.proofs.Common.{◌∷◌, List, ap, ◌∙◌}
use Rattle.std.specs.List.{flat_map}
use Rattle.c_program.specs.declared.tree.ThreadObject.{ThreadObject}
use Rattle.c_program.specs.Plain.{program_of}
use Rattle.program_modules.specs.Numbers.{object_numbers}
use Rattle.program_modules.proofs.ModuleCount.{numbers_are}
use Rattle.program_modules.proofs.module_numbers.Goals as goal

pub returns : goal.returns
returns c =
    c.in_ok-numbers.ensures ∙ ap (λ (os : List ThreadObject). 0 ∷ flat_map (object_numbers c.args.functions.now) os) c.as_slice.ensures.value
    ∙ numbers_are (program_of c.args.program.now) c.args.functions.now c.requires
