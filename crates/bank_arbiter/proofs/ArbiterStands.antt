-- The arbiter's module can stand in a table of modules.
use Rattle.std.proofs.Common.{ℕ, ◌^◌, ◌<◌, ◌≤◌, length, sym, ap, ◌∙◌, subst, arith}
use Rattle.verilog_tree.specs.Scope.{is_clk}
use Rattle.netlist.specs.declared.netlist.Source.TheVariants as source
use Rattle.netlist.specs.declared.netlist.Module.{Module}
use Rattle.netlist.specs.Sound.{IsSet}
use Rattle.circuit.specs.Rows.{EachOf}
use Rattle.circuit.specs.Modules.{FitsAction, FitsMemory}
use Rattle.circuit.specs.Interfaces.{IsTableModule}
use Rattle.circuit.specs.Fits.{registers}
use Rattle.circuit.proofs.LeafForm.{ActsOnData, IsFormedMemory}
use Rattle.circuit.proofs.TableRows.{length-laid}
use Rattle.circuit.proofs.TableModule.{stands, apart}
use Rattle.bank_arbiter.specs.Arbiter.{rows, at, inputs, input_widths, output_widths, IsArbiter}
use Rattle.bank_arbiter.proofs.FirstCandidate.{laid_by}

module _ (n : ℕ) (few : n ≤ 64) (m : Module) (is : IsArbiter n m) where
  -- there is no register
  set : (x : ℕ) → inputs n ≤ x → x < at n (registers rows) → (c : ℕ) → IsSet m x (source.Register c)
  set x a b c = absurd (omega arith)

  small : length m.signals < 2 ^ 64
  small = let e = ap length is.signals ∙ length-laid n rows in let b = few in omega arith

  pub arbiter_stands : IsTableModule m (input_widths n) (output_widths n)
  arbiter_stands = stands (laid_by n few m is) set small is.instances
      (subst (EachOf (FitsAction m)) (sym is.actions) tt) (subst (EachOf FitsMemory) (sym is.memories) tt)
      (apart (laid_by n few m is) set small is.memories is.instances) (ap is_clk is.named)
      (subst (EachOf (ActsOnData m)) (sym is.actions) tt) (subst (EachOf (IsFormedMemory m)) (sym is.memories) tt)
