use Rattle.std.proofs.Common.{◌≡◌, ◌∷◌, take}
use Rattle.std.specs.List.{flat_map}
use Rattle.program_modules.specs.Numbers.{object_numbers}
use Rattle.program_modules.proofs.all_numbers.Given as goal

abbrev pub invariant-loop-object : goal.invariant-loop-object
invariant-loop-object l = l.numbers ≡ 0 ∷ flat_map (object_numbers l.functions) (take l.object-index l.objects)
