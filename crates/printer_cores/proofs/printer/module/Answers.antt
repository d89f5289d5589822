use Rattle.circuit.specs.Modules.{IsLeaf}
use Rattle.circuit.specs.Interfaces.{IsTableModule}
use Rattle.circuit.specs.Machines.{IsCore}
use Rattle.circuit.proofs.Growth.{of_ok}
use Rattle.printer_cores.specs.Printer.{IsPrinter}
use Rattle.printer_cores.specs.Machine.{printer_machine, printer_places, inputs, input_widths, output_widths, is_late}
use Rattle.printer_cores.proofs.PrinterTable.{printer_core, printer_leaf}
use Rattle.printer_cores.proofs.PrinterStands.{printer_stands}
use Rattle.printer_cores.proofs.printer.module.Goals as goal

pub returns : goal.returns
returns c =
    let shape = c.args.shape.now in
    record {
      core = of_ok c.table.result (IsPrinter shape) (IsCore (printer_machine shape) (printer_places shape) shape.threads) (λ m is. printer_core shape c.requires m is) c.table.ensures;
      leaf = of_ok c.table.result (IsPrinter shape) (λ m. IsLeaf m (inputs shape) (is_late shape)) (λ m is. printer_leaf shape c.requires m is) c.table.ensures;
      table = c.table.ensures;
      stands = of_ok c.table.result (IsPrinter shape) (λ m. IsTableModule m (input_widths shape) (output_widths shape)) (λ m is. printer_stands shape c.requires m is) c.table.ensures;
    }
