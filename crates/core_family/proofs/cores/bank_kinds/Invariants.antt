use Rattle.std.proofs.Common.{◌≡◌, map, take}
use Rattle.core_family.specs.Family.{Bank}
use Rattle.core_family.specs.View.{kind_of}
use Rattle.core_family.proofs.cores.bank_kinds.Given as goal

abbrev pub invariant-loop-bank : goal.invariant-loop-bank
invariant-loop-bank l = map kind_of l.kinds ≡ map Bank (take l.bank-index l.banks)
