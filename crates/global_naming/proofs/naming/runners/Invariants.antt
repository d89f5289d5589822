use Rattle.std.specs.List.{flat_map}
use Rattle.std.proofs.Common.{◌≡◌, ◌∷◌, take, map}
use Rattle.c_program.specs.Plain.{program_of}
use Rattle.global_naming.specs.Tables.{runner_of, first_runner, object_runners}
use Rattle.global_naming.proofs.naming.runners.Given as goal

abbrev pub invariant-loop-object : goal.invariant-loop-object
invariant-loop-object l =
    let P = program_of l.program in
    map runner_of l.runners.items ≡ first_runner P l.reach.rows ∷ flat_map (object_runners P l.reach.rows) (take l.object-index l.program.threads.items)
