use Rattle.std.proofs.Common.{ℕ, List, Option}
use Rattle.hls_words.specs.declared.task.Task.{Task}
use Rattle.hls_status.specs.declared.status.Status.{Status}
use Rattle.hls_status.specs.declared.status.Status.TheVariants as status
use Rattle.hls_commands.specs.Answers.{Due, OwesAt}
use Rattle.hls_tool.specs.Delivery.{MayBeOwed}

-- what is owed for a task may be owed
pub may_be_owed : (task : Option Task) (left : Option (List ℕ)) (rose : Type 0) (d : Due) (s : Status) → OwesAt task left rose d s → MayBeOwed s d.out
may_be_owed task left rose d status.Ok h = tt
may_be_owed task left rose d (status.Refused r) h = tt
may_be_owed task left rose d status.Usage h = tt
may_be_owed task left rose d status.ReadFault h = tt
may_be_owed task left rose d (status.WriteFault n m) h = h
may_be_owed task left rose d status.Memory h = h.out
may_be_owed task left rose d status.Entries h = tt
may_be_owed task left rose d status.Stuck h = tt
may_be_owed task left rose d (status.BadEntry index) h = tt
may_be_owed task left rose d (status.Walked end) h = tt
may_be_owed task left rose d (status.Cycles cycles) h = tt
may_be_owed task left rose d (status.NotNet offset) h = tt
may_be_owed task left rose d (status.Loop signal) h = tt
may_be_owed task left rose d (status.Doubt offset name) h = tt
may_be_owed task left rose d (status.Race first second name) h = tt
may_be_owed task left rose d (status.UndefinedStep offset cause) h = tt
may_be_owed task left rose d (status.Unknown steps cause) h = tt
