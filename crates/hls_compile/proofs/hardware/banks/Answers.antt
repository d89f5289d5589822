use Rattle.std.proofs.Common.{ℕ, List, arith, subst}
use Rattle.c_program.specs.Plain.{program_of}
use Rattle.c_limits.proofs.Within.{within_limits}
use Rattle.bank_partition.specs.Partition.{IsPartition}
use Rattle.program_cores.proofs.Cores.{few_threads}
use Rattle.hls_compile.proofs.hardware.banks.Goals as goal

pub naming_threads-requires : goal.naming_threads-requires
naming_threads-requires c = record {
  acyclic = c.requires.resolved.acyclic;
  functions = let few = (within_limits (program_of c.args.program.now) c.requires.limits).functions in omega (arith, few);
  threads = let few = few_threads (program_of c.args.program.now) c.requires.limits in omega (arith, few);
}

pub returns : goal.returns
returns c = record {
  counts = c.in_ok-threads.threads.items;
  counted = c.in_ok-threads.ensures;
  parted = record {
    is = subst (λ (counts : List ℕ). IsPartition (program_of c.args.program.now) counts c.in_ok-banks.banks) c.as_slice.ensures.value c.in_ok-banks.ensures.partition;
    are = c.in_ok-banks.ensures.banks;
    elements = c.in_ok-banks.ensures.elements;
    held = c.in_ok-banks.ensures.held;
  };
}
