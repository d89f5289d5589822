use Rattle.std.proofs.Common.{List, map, refl, ap, ◌∙◌, subst, sym}
use Rattle.std.specs.List.{AllByRecursion}
use Rattle.c_limits.proofs.Within.{within_limits}
use Rattle.c_program.specs.Plain.{program_of}
use Rattle.bank_partition.specs.declared.banks.Bank.{Bank}
use Rattle.bank_partition.specs.Shapes.{shape_of}
use Rattle.program_cores.specs.Banks.{core_shapes, IsNamed}
use Rattle.program_cores.specs.Cores.{mutex_shapes}
use Rattle.program_cores.proofs.Cores.{same_cores}
use Rattle.program_cores.proofs.Globals.{banks_named, each_named}
use Rattle.program_cores.proofs.wanted.Goals as goal

pub bank_shapes-requires : goal.bank_shapes-requires
bank_shapes-requires c =
    subst (AllByRecursion (λ (b : Bank). IsNamed (shape_of b))) (sym c.as_slice.ensures.value)
    (each_named c.args.banks.now.banks.items (banks_named (program_of c.args.program.now) c.requires.parted.0 c.requires.resolved c.args.banks.now c.requires.parted.1.is))

pub barrier_count-barriers-requires : goal.barrier_count-barriers-requires
barrier_count-barriers-requires c = (within_limits (program_of c.args.program.now) c.requires.limits).barriers

pub returns : goal.returns
returns c =
    same_cores (program_of c.args.program.now) c.requires.resolved c.requires.limits c.args.banks.now c.requires.parted _ c.threads_of-threads.ensures
    (c.in_ok-shapes.ensures ∙ ap (λ (bs : List Bank). core_shapes c.threads_of-threads.result (map shape_of bs)) c.as_slice.ensures.value)
    (c.in_ok-mutexes.ensures ∙ ap (mutex_shapes c.threads_of-threads.result) c.as_slice-2.ensures.value) c.barrier_count-barriers.ensures refl c.in_ok-printer.ensures
