-- How deep a statement can be opened: the measure by which that ends.
use Rattle.std.proofs.Common.{ℕ, suc, ◌+◌}
use Rattle.c_program.specs.Tree.{Statement}

abbrev pub opening_size : Statement → ℕ
opening_size (Statement.Sequence first rest) = suc (opening_size first + opening_size rest)
opening_size (Statement.Block body) = suc (opening_size body)
opening_size (Statement.Truth slot condition) = suc (opening_size condition)
opening_size (Statement.Both first second) = suc (opening_size first)
opening_size (Statement.Either first second) = suc (opening_size first)
opening_size (Statement.Opposite inner) = suc (opening_size inner)
opening_size (Statement.If condition consequent alternative) = suc (opening_size condition)
opening_size (Statement.While condition body) = suc (opening_size condition)
opening_size (Statement.DoWhile body condition) = suc (opening_size body + opening_size condition)
opening_size (Statement.For first condition last body) = suc (suc (opening_size first + opening_size condition))
opening_size statement = 1
