use Rattle.std.proofs.Common.{◌≡◌, map, take}
use Rattle.std.specs.List.{flat_map}
use Rattle.c_program.specs.Plain.{function_of}
use Rattle.c_program.specs.Tree.{Function}
use Rattle.code_following.specs.Following.{formats_of}
use Rattle.program_cores.specs.Sites.{site_of}
use Rattle.program_cores.proofs.sites.print_sites.Given as goal

abbrev pub invariant-loop-function : goal.invariant-loop-function
invariant-loop-function l =
    l.sites ≡ map site_of (flat_map (λ (f : Function). formats_of f.body) (map function_of (take l.function-index l.functions)))
