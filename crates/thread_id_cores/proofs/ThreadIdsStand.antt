-- The module of the thread ids can stand in a table of modules.
use Rattle.std.proofs.Common.{ℕ, ◌^◌, ◌<◌, ◌≤◌, length, refl, sym, ap, ◌∙◌, subst, arith}
use Rattle.std.proofs.lemmas.List.{length-replicate}
use Rattle.verilog_tree.specs.Scope.{is_clk}
use Rattle.netlist.specs.declared.netlist.Source.TheVariants as source
use Rattle.netlist.specs.declared.netlist.Module.{Module}
use Rattle.netlist.specs.Laid.{AreApart, declared_names}
use Rattle.netlist.specs.Sound.{IsSet}
use Rattle.circuit.specs.Rows.{EachOf}
use Rattle.circuit.specs.Interfaces.{IsTableModule}
use Rattle.circuit.specs.Table.{place}
use Rattle.circuit.specs.Fits.{registers}
use Rattle.circuit.proofs.LeafForm.{ActsOnData, IsFormedMemory}
use Rattle.circuit.proofs.TableRows.{length-laid}
use Rattle.circuit.proofs.TableModule.{stands, signals_named, none_zero}
use Rattle.thread_id_cores.specs.declared.thread_ids.Shape.{Shape}
use Rattle.thread_id_cores.specs.ThreadIds.{rows, statements, IsShape, IsThreadIdsModule}
use Rattle.thread_id_cores.specs.Machine.{inputs, input_widths, output_widths}
use Rattle.thread_id_cores.proofs.ThreadIdTable.{laid_by, acts_fit, begins}
use Rattle.thread_id_cores.proofs.MemoryNames.{memories_apart}

module _ (shape : Shape) (ok : IsShape shape) (m : Module) (is : IsThreadIdsModule shape m) where
  abbrev n : ℕ
  n = shape.threads

  -- there is no register
  set : (x : ℕ) → inputs shape ≤ x → x < place n rows (registers rows) → (c : ℕ) → IsSet m x (source.Register c)
  set x a b c = absurd (omega arith)

  small : length m.signals < 2 ^ 64
  small = let e = ap length is.signals ∙ length-laid n rows in let b = ok.few in omega arith

  names : AreApart (declared_names m)
  names = memories_apart m n is.memories is.instances
      (none_zero (laid_by shape ok m is) set small)
      (signals_named (laid_by shape ok m is) set small)

  acts : EachOf (ActsOnData m) (statements n)
  acts = (((omega arith, tt), (omega arith, omega arith)), (((omega arith, tt), (omega arith, omega arith)), tt))

  pub thread_ids_stands : IsTableModule m (input_widths shape) (output_widths shape)
  thread_ids_stands = stands (laid_by shape ok m is) set small
      is.instances (acts_fit shape ok m is) (begins shape ok m is) names (ap is_clk is.named)
      (subst (EachOf (ActsOnData m)) (sym is.actions) acts)
      (subst (EachOf (IsFormedMemory m)) (sym is.memories) (
        record { low = omega arith; high = omega arith; words = (let e = length-replicate {A = ℕ} n 0 in let b = ok.some in omega arith); clock = refl },
        (record { low = omega arith; high = omega arith; words = (let e = length-replicate {A = ℕ} n 0 in let b = ok.some in omega arith); clock = refl }, tt),
      ))
