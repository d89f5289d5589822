-- Each core offers only to who asks, and each reading shows a state of it.
use Rattle.std.proofs.Common.{◌+◌, length, Some, None, refl, ap, arith}
use Rattle.std.specs.Prelude.{nat_lt}
use Rattle.circuit.specs.Rows.{spread}
use Rattle.circuit.proofs.Growth.{length-spread}
use Rattle.circuit.specs.Turns.{WaitsForAsks}
use Rattle.circuit.proofs.Spreads.{spread_is}
use Rattle.bank_cores.specs.declared.bank.Shape.{Shape as BankShape}
use Rattle.bank_cores.specs.Bank.{kept}
use Rattle.bank_cores.specs.Machine.{bank_machine, bank_places}
use Rattle.printer_cores.specs.declared.printer.Shape.{Shape as PrinterShape}
use Rattle.printer_cores.specs.Machine.{printer_machine, printer_places}
use Rattle.mutex_cores.proofs.MutexWords.{mutex_waits}
use Rattle.barrier_cores.proofs.WaitBits.{barriers_wait}
use Rattle.thread_id_cores.proofs.ShownTable.{thread_ids_wait}
use Rattle.core_family.specs.Family.{Bank, Mutex, Barrier, ThreadIds, Printer}
use Rattle.core_family.specs.Laws.{EachWaits}

bank_waits : (s : BankShape) → WaitsForAsks (bank_machine s) (bank_places s)
bank_waits s = record {
  shown = λ r. (
    record { words = spread (λ k. r.word 0 k) 0 (length s.initial); kept = spread (λ i. r.signal (kept s.threads + i)) 0 s.threads },
    record {
      sized = length-spread (λ k. r.word 0 k) 0 (length s.initial);
      words = λ k l. spread_is (λ j. r.word 0 j) (length s.initial) k l;
      each = length-spread (λ i. r.signal (kept s.threads + i)) 0 s.threads;
      kept = λ i l. spread_is (λ j. r.signal (kept s.threads + j)) s.threads i l;
    },
  );
  some = omega arith;
  asked = λ s i f e. ap (nat_lt 0) e;
}

printer_waits : (s : PrinterShape) → WaitsForAsks (printer_machine s) (printer_places s)
printer_waits s = record {
  shown = λ r. (tt, tt);
  some = omega arith;
  asked = λ s i f e. ap (nat_lt 0) e;
}

pub each_waits : EachWaits
each_waits None = record {
  shown = λ r. (tt, tt);
  some = omega arith;
  asked = λ s i f e. refl;
}
each_waits (Some (Bank s)) = bank_waits s
each_waits (Some (Mutex s)) = mutex_waits s
each_waits (Some (Barrier s)) = barriers_wait s.threads
each_waits (Some (ThreadIds s)) = thread_ids_wait s
each_waits (Some (Printer s)) = printer_waits s
