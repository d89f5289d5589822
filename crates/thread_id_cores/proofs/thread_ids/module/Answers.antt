use Rattle.circuit.specs.Modules.{IsLeaf}
use Rattle.circuit.specs.Interfaces.{IsTableModule}
use Rattle.circuit.specs.Machines.{IsCore}
use Rattle.circuit.proofs.Growth.{of_ok}
use Rattle.thread_id_cores.specs.ThreadIds.{IsThreadIdsModule}
use Rattle.thread_id_cores.specs.Machine.{thread_ids_machine, thread_ids_places, inputs, input_widths, output_widths, is_late}
use Rattle.thread_id_cores.proofs.ThreadIdTable.{thread_ids_is_core, thread_ids_leaf}
use Rattle.thread_id_cores.proofs.ThreadIdsStand.{thread_ids_stands}
use Rattle.thread_id_cores.proofs.thread_ids.module.Goals as goal

pub returns : goal.returns
returns c =
    let shape = c.args.shape.now in
    record {
      core =
          of_ok c.table.result (IsThreadIdsModule shape) (IsCore (thread_ids_machine shape) (thread_ids_places shape) shape.threads)
          (λ m is. thread_ids_is_core shape c.requires m is) c.table.ensures;
      leaf = of_ok c.table.result (IsThreadIdsModule shape) (λ m. IsLeaf m (inputs shape) (is_late shape)) (λ m is. thread_ids_leaf shape c.requires m is) c.table.ensures;
      table = c.table.ensures;
      stands = of_ok c.table.result (IsThreadIdsModule shape) (λ m. IsTableModule m (input_widths shape) (output_widths shape)) (λ m is. thread_ids_stands shape c.requires m is) c.table.ensures;
    }
