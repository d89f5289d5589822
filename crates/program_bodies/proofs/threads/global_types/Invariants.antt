use Rattle.std.proofs.Common.{◌≡◌, map, take}
use Rattle.c_program.specs.Tree.{GlobalVariable}
use Rattle.c_program.specs.Plain.{global_of}
use Rattle.program_bodies.proofs.threads.global_types.Given as goal

abbrev pub invariant-loop-global : goal.invariant-loop-global
invariant-loop-global l = l.types ≡ map (λ (g : GlobalVariable). g.ty) (map global_of (take l.global-index l.globals))
