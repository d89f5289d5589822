-- The mutex's module can stand in a table of modules.
use Rattle.std.proofs.Common.{◌≡◌, ℕ, ◌+◌, ◌^◌, ◌<◌, ◌≤◌, Bool, true, false, List, [], length, refl, sym, ap, ◌∙◌, subst, arith}
use Rattle.verilog_tree.specs.Scope.{is_clk}
use Rattle.netlist.specs.declared.netlist.Source.TheVariants as source
use Rattle.netlist.specs.declared.netlist.Module.{Module}
use Rattle.netlist.specs.Sound.{IsSet}
use Rattle.circuit.specs.declared.table.Row.{Row}
use Rattle.circuit.specs.Rows.{EachOf, set_at}
use Rattle.circuit.specs.Interfaces.{IsTableModule}
use Rattle.circuit.specs.Table.{place}
use Rattle.circuit.specs.Fits.{registers}
use Rattle.circuit.proofs.Edges.{set_by_some}
use Rattle.circuit.proofs.LeafForm.{ActsOnData, IsFormedMemory}
use Rattle.circuit.proofs.TableRows.{length-laid}
use Rattle.circuit.proofs.TableModule.{stands, apart}
use Rattle.mutex_cores.specs.declared.mutex.Shape.{Shape}
use Rattle.mutex_cores.specs.Mutex.{mutex_name, rows, owner, chain, IsShape, IsMutex}
use Rattle.mutex_cores.specs.Machine.{inputs, input_widths, output_widths}
use Rattle.mutex_cores.proofs.MutexTable.{laid_by, acts_fit, begins}

no_clock : (b : Bool) → is_clk (mutex_name b) ≡ false
no_clock true = refl
no_clock false = refl

module _ (shape : Shape) (ok : IsShape shape) (m : Module) (is : IsMutex shape m) where
  abbrev n : ℕ
  n = shape.threads

  abbrev table : List Row
  table = rows shape.initialised

  set : (x : ℕ) → inputs shape ≤ x → x < place n table (registers table) → (c : ℕ) → IsSet m x (source.Register c)
  set x a b c = set_by_some m (owner n) (chain n + n) 1 [] is.actions x a b c

  small : length m.signals < 2 ^ 64
  small = let e = ap length is.signals ∙ length-laid n table in let b = ok.few in omega arith

  acts : ActsOnData m (set_at (owner n) (chain n + n) 0)
  acts = (tt, omega arith)

  pub mutex_stands : IsTableModule m (input_widths shape) (output_widths shape)
  mutex_stands = stands (laid_by shape ok m is) set small
      is.instances (acts_fit shape ok m is) (begins shape ok m is)
      (apart (laid_by shape ok m is) set small is.memories is.instances)
      (ap is_clk is.named ∙ no_clock shape.initialised)
      (subst (EachOf (ActsOnData m)) (sym is.actions) (acts, tt))
      (subst (EachOf (IsFormedMemory m)) (sym is.memories) tt)
