use Rattle.circuit.specs.Modules.{IsLeaf}
use Rattle.circuit.specs.Interfaces.{IsTableModule}
use Rattle.circuit.specs.Machines.{IsCore}
use Rattle.circuit.proofs.Growth.{of_ok}
use Rattle.bank_cores.specs.Bank.{IsBank}
use Rattle.bank_cores.specs.Machine.{bank_machine, bank_places, inputs, input_widths, output_widths, is_late}
use Rattle.bank_cores.proofs.BankTable.{bank_core, bank_leaf}
use Rattle.bank_cores.proofs.BankStands.{bank_stands}
use Rattle.bank_cores.proofs.bank.module.Goals as goal

pub returns : goal.returns
returns c =
    let shape = c.args.shape.now in
    record {
      core = of_ok c.table.result (IsBank shape) (IsCore (bank_machine shape) (bank_places shape) shape.threads) (λ m is. bank_core shape c.requires m is) c.table.ensures;
      leaf = of_ok c.table.result (IsBank shape) (λ m. IsLeaf m (inputs shape) (is_late shape)) (λ m is. bank_leaf shape c.requires m is) c.table.ensures;
      table = c.table.ensures;
      stands = of_ok c.table.result (IsBank shape) (λ m. IsTableModule m (input_widths shape) (output_widths shape)) (λ m is. bank_stands shape c.requires m is) c.table.ensures;
    }
