use Rattle.c_program.specs.Plain.{program_of}
use Rattle.program_cores.proofs.Cores.{few_threads}
use Rattle.program_cores.proofs.threads_of.Goals as goal

pub count_of-requires : goal.count_of-requires
count_of-requires c = few_threads (program_of c.args.program.now) c.requires
