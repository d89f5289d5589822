-- Any reading shows some table, and who asks nothing is offered nothing.
use Rattle.std.proofs.Common.{ap, arith}
use Rattle.std.specs.Prelude.{◌&&◌, nat_lt}
use Rattle.circuit.specs.Rows.{spread}
use Rattle.circuit.proofs.Growth.{length-spread}
use Rattle.circuit.proofs.Spreads.{spread_is}
use Rattle.core_states.specs.Machines.{ids_eligible}
use Rattle.thread_id_cores.specs.Laws.{ThreadIdsWait}

pub thread_ids_wait : ThreadIdsWait
thread_ids_wait shape = record {
  shown = λ r. (
    record { statuses = spread (λ k. r.word 0 k) 0 shape.threads; arguments = spread (λ k. r.word 1 k) 0 shape.threads },
    record {
      sized = length-spread (λ k. r.word 0 k) 0 shape.threads;
      statuses = λ k l. spread_is (λ j. r.word 0 j) shape.threads k l;
      each = length-spread (λ k. r.word 1 k) 0 shape.threads;
      arguments = λ k l. spread_is (λ j. r.word 1 j) shape.threads k l;
    },
  );
  some = omega arith;
  asked = λ s i f e. ap (λ x. nat_lt 0 x && ids_eligible s (f 1) (f 2)) e;
}
