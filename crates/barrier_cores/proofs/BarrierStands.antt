-- The barrier's module can stand in a table of modules.
use Rattle.std.proofs.Common.{ℕ, ◌+◌, ◌^◌, ◌<◌, ◌≤◌, [], length, sym, ap, ◌∙◌, subst, arith}
use Rattle.std.proofs.lemmas.List.{append-nil}
use Rattle.verilog_tree.specs.Scope.{is_clk}
use Rattle.netlist.specs.declared.netlist.Source.TheVariants as source
use Rattle.netlist.specs.declared.netlist.Module.{Module}
use Rattle.netlist.specs.Sound.{IsSet}
use Rattle.circuit.specs.Rows.{EachOf, set_at}
use Rattle.circuit.specs.Interfaces.{IsTableModule}
use Rattle.circuit.specs.Table.{place}
use Rattle.circuit.specs.Fits.{registers}
use Rattle.circuit.proofs.Edges.{each_spread, set_by_some}
use Rattle.circuit.proofs.LeafForm.{ActsOnData, IsFormedMemory}
use Rattle.circuit.proofs.TableRows.{length-laid}
use Rattle.circuit.proofs.TableModule.{stands, apart}
use Rattle.barrier_cores.specs.declared.barrier.Shape.{Shape}
use Rattle.barrier_cores.specs.Rows as row
use Rattle.barrier_cores.specs.Barrier.{rows, at, statements, IsShape, IsBarrier}
use Rattle.barrier_cores.specs.Machine.{inputs, input_widths, output_widths}
use Rattle.barrier_cores.proofs.BarrierTable.{laid_by, acts_fit, begins}

module _ (shape : Shape) (ok : IsShape shape) (m : Module) (is : IsBarrier shape m) where
  abbrev n : ℕ
  n = shape.threads

  set : (x : ℕ) → inputs n ≤ x → x < place n rows (registers rows) → (c : ℕ) → IsSet m x (source.Register c)
  set x a b c = set_by_some m (at n row.waiting) (at n row.next) (n + 1) [] (is.actions ∙ sym (append-nil (statements n))) x a (omega arith) c

  small : length m.signals < 2 ^ 64
  small = let e = ap length is.signals ∙ length-laid n rows in let b = ok.few in omega arith

  acts : EachOf (ActsOnData m) (statements n)
  acts = each_spread (ActsOnData m) (set_at (at n row.waiting) (at n row.next)) 0 (n + 1) (λ k l. (tt, omega arith))

  pub barrier_stands : IsTableModule m (input_widths n) (output_widths n)
  barrier_stands = stands (laid_by shape ok m is) set small
      is.instances (acts_fit shape ok m is) (begins shape ok m is)
      (apart (laid_by shape ok m is) set small is.memories is.instances)
      (ap is_clk is.named)
      (subst (EachOf (ActsOnData m)) (sym is.actions) acts)
      (subst (EachOf (IsFormedMemory m)) (sym is.memories) tt)
