-- A simulator of the netlist of a well-formed text can be opened.
use Rattle.std.specs.Prelude.{◌≡◌, ℕ, Some, slice_get, codes}
use Rattle.std.proofs.Common.{ap, ◌∙◌}
use Rattle.lists.proofs.Places.{get_mapped}
use Rattle.verilog_tree.specs.declared.tree.Net.{Net}
use Rattle.verilog_tree.specs.WellFormed.{IsWellFormed}
use Rattle.netlist.specs.declared.netlist.Signal.{Signal}
use Rattle.netlist.specs.declared.netlist.Module.{Module}
use Rattle.netlist.specs.Laid.{signal_names}
use Rattle.netlist.specs.NetlistOf.{netlist_of}
use Rattle.verilog_meaning.specs.Names.{top_of, IsSignal}
use Rattle.well_formed_net.specs.Fitting.{IsFitModule}
use Rattle.well_formed_net.proofs.Modules.{fits_of_well_formed}
use Rattle.well_formed_net.proofs.Prints.{modules_apart, stands_earlier, printing}
use Rattle.sim_layout.specs.Rounds.{enables, threads_of}
use Rattle.cycle_sim.proofs.Right.{named_at}
use Rattle.cycle_sim.proofs.Enables.{enable_at}
use Rattle.cycle_sim.proofs.PrinterInstance.{PrintsOnce, printer_of}
use Rattle.cycle_sim.proofs.TakenChoices.{wide_taken}
use Rattle.well_formed_net.specs.Openable.{OpenableOfWellFormed}
use Rattle.well_formed_net.proofs.Right.{right}

module _ (n : Net) (is : IsWellFormed n) (top : Module) (top_is : top_of (netlist_of n).modules ≡ Some top) where
  fit_top : IsFitModule (netlist_of n).modules top
  fit_top = let k = named_at (netlist_of n).modules (codes "top") top top_is in fits_of_well_formed n is k.0 top k.1

  name_at : (y : ℕ) (t : Signal) → slice_get top.signals y ≡ Some t → t.name ≡ codes "en" → slice_get (signal_names top) y ≡ Some (codes "en")
  name_at y t e named = get_mapped (λ (u : Signal). u.name) top.signals y t e ∙ ap Some named

  -- there are as many threads as `en` has bits
  threads : (x : ℕ) (s : Signal) → IsSignal top (codes "en") x s → threads_of (netlist_of n).modules ≡ s.width
  threads x s there =
      ap enables top_is
      ∙ enable_at top.signals x s there.listed there.named
      (λ y t e named. fit_top.signals_apart y x (codes "en") (name_at y t e named) (name_at x s there.listed there.named))

  once : PrintsOnce (netlist_of n)
  once = record { names = modules_apart n is; earlier = stands_earlier n is; printing = printing n is }

pub openable_of_well_formed : OpenableOfWellFormed
openable_of_well_formed n is top top_is done wide = record {
  top = top;
  is_top = top_is;
  right = right (netlist_of n).modules (fits_of_well_formed n is) top top_is;
  printer = printer_of (netlist_of n) (once n is top top_is);
  done = done;
  takes = wide_taken (netlist_of n).modules top (threads n is top top_is) wide;
}
