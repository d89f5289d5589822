-- The bank's module can stand in a table of modules.
use Rattle.std.proofs.Common.{ℕ, ◌^◌, ◌<◌, ◌≤◌, List, [], ◌∷◌, length, refl, sym, ap, ◌∙◌, subst, arith}
use Rattle.verilog_tree.specs.Scope.{is_clk}
use Rattle.netlist.specs.declared.netlist.Source.TheVariants as source
use Rattle.netlist.specs.declared.netlist.Module.{Module}
use Rattle.netlist.specs.Laid.{AreApart, declared_names}
use Rattle.netlist.specs.Sound.{IsSet}
use Rattle.circuit.specs.declared.table.Row.{Row}
use Rattle.circuit.specs.Rows.{EachOf, sets, set_at}
use Rattle.circuit.specs.Interfaces.{IsTableModule}
use Rattle.circuit.specs.Table.{place}
use Rattle.circuit.specs.Fits.{registers}
use Rattle.circuit.proofs.Edges.{each_joined, each_spread, set_by_some}
use Rattle.circuit.proofs.LeafForm.{ActsOnData, IsFormedMemory}
use Rattle.circuit.proofs.MemoryNames.{one_memory}
use Rattle.circuit.proofs.TableRows.{length-laid}
use Rattle.circuit.proofs.TableModule.{stands, roles, signals_named}
use Rattle.bank_cores.specs.declared.bank.Shape.{Shape}
use Rattle.bank_cores.specs.Rows as row
use Rattle.bank_cores.specs.Bank.{at, end, store_under, statements, memory_of, IsShape, IsBank}
use Rattle.bank_cores.specs.Machine.{table_of, inputs, input_widths, output_widths}
use Rattle.bank_cores.proofs.BankTable.{laid_by, acts_fit, begins}
use Rattle.bank_cores.proofs.MemoryName.{not_it}

module _ (shape : Shape) (ok : IsShape shape) (m : Module) (is : IsBank shape m) where
  abbrev n : ℕ
  n = shape.threads

  abbrev table : List Row
  table = table_of shape

  set : (x : ℕ) → inputs shape ≤ x → x < place n table (registers table) → (c : ℕ) → IsSet m x (source.Register c)
  set x b c i =
      set_by_some m (at n row.kept) (at n row.next) n (store_under (end n row.stores) (end n row.address) (end n row.value) ∷ []) is.actions x b c i

  small : length m.signals < 2 ^ 64
  small = let e = ap length is.signals ∙ length-laid n table in let b = ok.few in omega arith

  names : AreApart (declared_names m)
  names = one_memory m is.instances (memory_of shape) is.memories
      (signals_named (laid_by shape ok m is) set small)
      (not_it m (roles (laid_by shape ok m is))
      (memory_of shape) refl)

  acts : EachOf (ActsOnData m) (statements n)
  acts =
      each_joined (ActsOnData m) (sets (at n row.kept) (at n row.next) n) (store_under (end n row.stores) (end n row.address) (end n row.value) ∷ [])
      (each_spread (ActsOnData m) (set_at (at n row.kept) (at n row.next)) 0 n (λ k l. (tt, omega arith)))
      (((omega arith, tt), (omega arith, omega arith)), tt)

  pub bank_stands : IsTableModule m (input_widths shape) (output_widths shape)
  bank_stands = stands (laid_by shape ok m is) set small
      is.instances (acts_fit shape ok m is) (begins shape ok m is) names (ap is_clk is.named)
      (subst (EachOf (ActsOnData m)) (sym is.actions) acts)
      (subst (EachOf (IsFormedMemory m)) (sym is.memories) (record { low = ok.low; high = ok.high; words = ok.some; clock = refl }, tt))
