-- THE START: the machine's first state shows the first slots, the first memory and the first cores.
use Rattle.std.specs.Prelude.{nat_eq, replicate, Option, Some, None}
use Rattle.std.proofs.Common.{◌≡◌, ℕ, ◌≤◌, [], length, refl, sym, ap, subst, arith}
use Rattle.std.proofs.lemmas.Option.{slice_get_within}
use Rattle.c_program.specs.Tree.{Program}
use Rattle.thread_semantics.specs.State.{start as first_state}
use Rattle.race_model.specs.Source.{memory_of}
use Rattle.block_ir.specs.Asked.{mutex_core, barrier_core, thread_ids_core, printer_core}
use Rattle.block_refine.specs.Routines.{rest_of}
use Rattle.circuit.specs.Wiring.{start}
use Rattle.mutex_cores.specs.declared.mutex.Shape.{Shape as MutexShape}
use Rattle.mutex_cores.specs.Machine.{initial_mutex}
use Rattle.barrier_cores.specs.declared.barrier.Shape.{Shape as BarrierShape}
use Rattle.thread_id_cores.specs.declared.thread_ids.Shape.{Shape as ThreadIdsShape}
use Rattle.printer_cores.specs.declared.printer.Shape.{Shape as PrinterShape}
use Rattle.leaf_machine.specs.Leaves.{leaf_thread}
use Rattle.leaf_machine.proofs.Leaves.{leaf_keeps_slots}
use Rattle.thread_promise.specs.Moves.{first_slot}
use Rattle.law_threads.specs.Cores.{OfMutex, OfBarrier, OfThreadIds, OfPrinter}
use Rattle.law_threads.specs.Surroundings.{routine_of}
use Rattle.core_family.specs.Family.{CoreKind, Bank, Mutex, Barrier, ThreadIds, Printer, machine_of}
use Rattle.core_family.specs.Laws.{FitsFirst}
use Rattle.core_family.proofs.ToldFits.{each_keeps_fitting}
use Rattle.law_banks.proofs.Net.{net_starts as banks_start}
use Rattle.law_cycle.proofs.ThreadMoves.{thread_starts}
use Rattle.law_cycle.specs.Built.{Parts, IsBuilt, Machine, thread_at}
use Rattle.law_cycle.specs.Bodies.{numbers_of, core_at, core_machine, core_count}
use Rattle.law_cycle.specs.Stage.{Stage, shown_as}
use Rattle.law_cycle.specs.Cycle.{First, NetStarts}
use Rattle.law_cycle.proofs.Cores.{has_banks}
use Rattle.core_family.proofs.Listed.{mutex_at, barrier_at, thread_ids_at, printer_at, Which, IsBank, IsMutex, IsBarrier, IsThreadIds, IsPrinter, IsPast, which}
use Rattle.law_cycle.proofs.Steps.{is_thread}

-- ---- what cores begin with

mutex_begins : (o : Option CoreKind) (s : MutexShape) → o ≡ Some (Mutex s) → shown_as o (machine_of o).start [] ≡ OfMutex (initial_mutex s.initialised)
mutex_begins None s e = absurd cc
mutex_begins (Some (Bank c)) s e = absurd cc
mutex_begins (Some (Mutex c)) s e = let same : c ≡ s = cc in ap (λ (z : MutexShape). OfMutex (initial_mutex z.initialised)) same
mutex_begins (Some (Barrier c)) s e = absurd cc
mutex_begins (Some (ThreadIds c)) s e = absurd cc
mutex_begins (Some (Printer c)) s e = absurd cc

barrier_begins : (o : Option CoreKind) (s : BarrierShape) → o ≡ Some (Barrier s) →
    shown_as o (machine_of o).start [] ≡ OfBarrier (record { count = 0; waiting = replicate s.threads 0 })
barrier_begins None s e = absurd cc
barrier_begins (Some (Bank c)) s e = absurd cc
barrier_begins (Some (Mutex c)) s e = absurd cc
barrier_begins (Some (Barrier c)) s e =
    let same : c ≡ s = cc in ap (λ (z : BarrierShape). OfBarrier (record { count = 0; waiting = replicate z.threads 0 })) same
barrier_begins (Some (ThreadIds c)) s e = absurd cc
barrier_begins (Some (Printer c)) s e = absurd cc

thread_ids_begin : (o : Option CoreKind) (s : ThreadIdsShape) → o ≡ Some (ThreadIds s) →
    shown_as o (machine_of o).start [] ≡ OfThreadIds (record { statuses = replicate s.threads 0; arguments = replicate s.threads 0 })
thread_ids_begin None s e = absurd cc
thread_ids_begin (Some (Bank c)) s e = absurd cc
thread_ids_begin (Some (Mutex c)) s e = absurd cc
thread_ids_begin (Some (Barrier c)) s e = absurd cc
thread_ids_begin (Some (ThreadIds c)) s e =
    let same : c ≡ s = cc in ap (λ (z : ThreadIdsShape). OfThreadIds (record { statuses = replicate z.threads 0; arguments = replicate z.threads 0 })) same
thread_ids_begin (Some (Printer c)) s e = absurd cc

printer_begins : (o : Option CoreKind) (s : PrinterShape) → o ≡ Some (Printer s) → shown_as o (machine_of o).start [] ≡ OfPrinter []
printer_begins None s e = absurd cc
printer_begins (Some (Bank c)) s e = absurd cc
printer_begins (Some (Mutex c)) s e = absurd cc
printer_begins (Some (Barrier c)) s e = absurd cc
printer_begins (Some (ThreadIds c)) s e = absurd cc
printer_begins (Some (Printer c)) s e = refl

module _ (P : Program) (K : Parts) (built : IsBuilt P K) where
  abbrev begun : Machine K
  begun = start K.cores.threads (core_count K.cores) (λ i. leaf_thread (K.bodies i).body (K.bodies i).leaf) (core_machine K.cores)

  -- what a core behind the banks begins with fits
  first_fits : (k : ℕ) → length K.cores.banks ≤ k → Which K.cores k → FitsFirst (core_at K.cores k)
  first_fits k l (IsBank b listed core) = absurd (let lt = slice_get_within K.cores.banks k b listed in omega (arith, lt, l))
  first_fits k l (IsMutex n s listed at core) = subst FitsFirst (sym core) tt
  first_fits k l (IsBarrier n below at core) = subst FitsFirst (sym core) tt
  first_fits k l (IsThreadIds on at core) = subst FitsFirst (sym core) tt
  first_fits k l (IsPrinter at core) = subst FitsFirst (sym core) tt
  first_fits k l (IsPast past core) = subst FitsFirst (sym core) tt

  abbrev first_stage : Stage P K
  first_stage = record {
    net = begun;
    out = [];
    slots = λ i. first_slot (nat_eq i 0) (routine_of P i) (rest_of K.codes (routine_of P i));
    memory = memory_of (first_state P).globals;
    fits = λ i lt.
        (leaf_keeps_slots (K.bodies i).body (K.bodies i).inputs (K.bodies i).leaf (core_count K.cores) (λ k. (core_machine K.cores k).parts)
        (λ k. (core_machine K.cores k).told) (built.bodies i lt).1.leaf).starts;
    stands = λ i lt. thread_starts (thread_at P K i) (is_thread P K built i lt);
    holds = banks_start P K.cores.threads (core_count K.cores) (λ i. leaf_thread (K.bodies i).body (K.bodies i).leaf) (core_machine K.cores) K.cores.banks (has_banks K.cores) K.spreads built.banked
        built.resolved.globals;
    told = λ k l. (each_keeps_fitting (core_at K.cores k)).starts (first_fits k l (which K.cores k));
  }

  pub first : First P K
  first = record {
    stage = first_stage;
    net = refl;
    out = refl;
    slots = λ i. refl;
    memory = λ l. refl;
    mutexes = λ n s e. mutex_begins (core_at K.cores (mutex_core (numbers_of K.cores) n)) s (mutex_at K.cores n s e);
    barriers = λ n l. barrier_begins (core_at K.cores (barrier_core (numbers_of K.cores) n)) (record { threads = K.cores.threads }) (barrier_at K.cores n l);
    thread_ids = λ on. thread_ids_begin (core_at K.cores (thread_ids_core (numbers_of K.cores))) (record { threads = K.cores.threads }) (thread_ids_at K.cores on);
    printer = printer_begins (core_at K.cores (printer_core (numbers_of K.cores))) K.cores.printer (printer_at K.cores);
  }

pub net_starts : NetStarts
net_starts P K built = first P K built
