use Rattle.std.proofs.Common.{sym, subst}
use Rattle.std.specs.Prelude.{IfOk}
use Rattle.core_family.specs.declared.cores.CoreKind.{CoreKind as Held}
use Rattle.core_tables.specs.Family.{Bank, Mutex, Barrier, ThreadIds, Printer, threads_of, IsCoreModule}
use Rattle.core_family.specs.View.{kind_of}
use Rattle.core_places.specs.Kinds.{IsRight}
use Rattle.core_places.proofs.Modules.{core_module}
use Rattle.core_places.proofs.kinds.module.Goals as goal

pub returns-in-Bank : goal.returns-in-Bank
returns-in-Bank c =
    subst (λ (z : Held). IfOk c.module.result (IsCoreModule (threads_of (kind_of z)) (kind_of z))) (sym c.in-Bank.is)
    (core_module (Bank c.in-Bank.shape.now) c.module.result (subst (λ (z : Held). IsRight (kind_of z)) c.in-Bank.is c.requires).addressed c.module.ensures.core c.module.ensures.leaf c.module.ensures.table c.module.ensures.stands)

pub returns-in-Mutex : goal.returns-in-Mutex
returns-in-Mutex c =
    subst (λ (z : Held). IfOk c.module-in-Mutex.result (IsCoreModule (threads_of (kind_of z)) (kind_of z))) (sym c.in-Mutex.is)
    (core_module (Mutex c.in-Mutex.shape) c.module-in-Mutex.result tt c.module-in-Mutex.ensures.core c.module-in-Mutex.ensures.leaf c.module-in-Mutex.ensures.table c.module-in-Mutex.ensures.stands)

pub returns-in-Barrier : goal.returns-in-Barrier
returns-in-Barrier c =
    subst (λ (z : Held). IfOk c.module-in-Barrier.result (IsCoreModule (threads_of (kind_of z)) (kind_of z))) (sym c.in-Barrier.is)
    (core_module (Barrier (record { threads = c.in-Barrier.threads })) c.module-in-Barrier.result tt c.module-in-Barrier.ensures.core c.module-in-Barrier.ensures.leaf c.module-in-Barrier.ensures.table c.module-in-Barrier.ensures.stands)

pub returns-in-ThreadIds : goal.returns-in-ThreadIds
returns-in-ThreadIds c =
    subst (λ (z : Held). IfOk c.module-in-ThreadIds.result (IsCoreModule (threads_of (kind_of z)) (kind_of z))) (sym c.in-ThreadIds.is)
    (core_module (ThreadIds (record { threads = c.in-ThreadIds.threads })) c.module-in-ThreadIds.result tt c.module-in-ThreadIds.ensures.core c.module-in-ThreadIds.ensures.leaf c.module-in-ThreadIds.ensures.table c.module-in-ThreadIds.ensures.stands)

pub returns-in-Printer : goal.returns-in-Printer
returns-in-Printer c =
    subst (λ (z : Held). IfOk c.module-in-Printer.result (IsCoreModule (threads_of (kind_of z)) (kind_of z))) (sym c.in-Printer.is)
    (core_module (Printer c.in-Printer.shape.now) c.module-in-Printer.result tt c.module-in-Printer.ensures.core c.module-in-Printer.ensures.leaf c.module-in-Printer.ensures.table c.module-in-Printer.ensures.stands)
