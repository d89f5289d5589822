-- The printer's module can stand in a table of modules.
use Rattle.std.proofs.Common.{ℕ, ◌+◌, ◌*◌, ◌^◌, ◌<◌, ◌≤◌, List, [], ◌∷◌, length, sym, ap, ◌∙◌, subst, arith}
use Rattle.std.proofs.Math.Nat.{mul-le-mul_right}
use Rattle.verilog_tree.specs.Scope.{is_clk}
use Rattle.netlist.specs.declared.netlist.Source.TheVariants as source
use Rattle.netlist.specs.declared.netlist.Module.{Module}
use Rattle.netlist.specs.Sound.{IsSet}
use Rattle.circuit.specs.Rows.{EachOf}
use Rattle.circuit.specs.Interfaces.{IsTableModule}
use Rattle.circuit.specs.Fits.{registers}
use Rattle.circuit.proofs.LeafForm.{ActsOnData, IsFormedMemory}
use Rattle.circuit.proofs.TableRows.{length-laid}
use Rattle.circuit.proofs.TableModule.{stands, apart}
use Rattle.printer_cores.specs.declared.format.Part.{Part}
use Rattle.printer_cores.specs.declared.printer.Shape.{Shape}
use Rattle.printer_cores.specs.Rows as row
use Rattle.printer_cores.specs.Printer.{table_of, at, results, writes_from, IsShape, IsPrinter}
use Rattle.printer_cores.specs.Machine.{inputs, input_widths, output_widths}
use Rattle.printer_cores.proofs.PrinterTable.{laid_by, acts_fit, begins}
use Rattle.printer_cores.proofs.Values.{has_site_values, arguments_behind}

writes_on : (m : Module) (wires first : ℕ) → 0 < wires → 0 < first → (k : ℕ) (sites : List (List Part)) → EachOf (ActsOnData m) (writes_from wires first k sites)
writes_on m wires first a b k [] = tt
writes_on m wires first a b k (parts ∷ sites) = (
  ((omega arith, tt), (arguments_behind first b parts, has_site_values first parts)),
  writes_on m wires first a b (k + 1) sites,
)

module _ (shape : Shape) (ok : IsShape shape) (m : Module) (is : IsPrinter shape m) where
  -- there is no register
  set : (x : ℕ) → inputs shape ≤ x → x < at shape (registers (table_of shape)) → (c : ℕ) → IsSet m x (source.Register c)
  set x a b c = absurd (omega arith)

  small : length m.signals < 2 ^ 64
  small =
      let e = ap length is.signals ∙ length-laid shape.threads (table_of shape) in let a = ok.few in let b = ok.few_values in let d = ok.few_sites in
      let f : shape.threads * shape.values ≤ 64 * shape.values = mul-le-mul_right shape.values a in
      omega arith

  pub printer_stands : IsTableModule m (input_widths shape) (output_widths shape)
  printer_stands = stands (laid_by shape ok m is) set small is.instances (acts_fit shape ok m is) (begins shape ok m is)
      (apart (laid_by shape ok m is) set small is.memories is.instances) (ap is_clk is.named)
      (subst (EachOf (ActsOnData m)) (sym is.actions) (writes_on m (at shape row.hits) (results shape) (omega arith) (omega arith) 0 shape.sites))
      (subst (EachOf (IsFormedMemory m)) (sym is.memories) tt)
