-- The table of threads and cores that fit has its cores, so that its layout is small.
use Rattle.std.proofs.Common.{◌≡◌, ℕ, List, refl, sym, subst, arith}
use Rattle.verilog_tree.specs.declared.tree.Net.{Net}
use Rattle.verilog_tree.specs.Reads.{IsFull, Reads}
use Rattle.verilog_tree.specs.WellFormed.{IsWellFormed}
use Rattle.netlist.specs.declared.netlist.Module.{Module}
use Rattle.netlist.specs.declared.netlist.Netlist.{Netlist}
use Rattle.netlist.specs.NetlistOf.{netlist_of}
use Rattle.netlist.specs.Laid.{IsLaid}
use Rattle.netlist.specs.Sound.{IsSound}
use Rattle.top_parts.specs.declared.layout.Layout.{Layout}
use Rattle.top_wiring.specs.Top.{IsSmall}
use Rattle.top_wiring.specs.Sound.{AreSound}
use Rattle.top_wiring.specs.Wired.{IsWired}
use Rattle.core_places.specs.Tables.{IsArbiterModule, HasCores, layout_of}
use Rattle.core_places.proofs.Small.{is_small}
use Rattle.core_family.specs.declared.cores.Cores.{Cores}
use Rattle.core_places.specs.Placing.{AreKinds}
use Rattle.core_places.specs.Kinds.{HaveModules}
use Rattle.core_places.proofs.CoresPlaced.{placed_narrow, cores_are_placed}
use Rattle.netlist_text.specs.Portable.{HasFreeNames, IsPortable}
use Rattle.net_emitter.specs.Written.{IsWritten, table_of, FitsTable}

module _ (threads : List ℕ) (routines : List Module) (w : Cores) (right : HaveModules w) (fits : FitsTable threads routines w) (arbiter : Module) (kinds : List Module)
    (granting : IsArbiterModule w.threads arbiter) (are : AreKinds w kinds) where
  has_cores : HasCores (table_of threads routines arbiter w kinds)
  has_cores = record {
    some = let n = fits.count in let s = right.some in omega (arith, n, s);
    few_threads = let n = fits.count in let f = right.few in omega (arith, n, f);
    few_cores = fits.few_cores;
    narrow = placed_narrow w fits.narrow;
    granting = subst (λ n. IsArbiterModule n arbiter) (sym fits.count) granting;
    each = (cores_are_placed w (table_of threads routines arbiter w kinds) refl fits.count are).each;
    threads = fits.runs;
  }

  pub layout_small : IsSmall (layout_of (table_of threads routines arbiter w kinds))
  layout_small = is_small (table_of threads routines arbiter w kinds) has_cores

pub written_as : (modules table : List Module) (laid layout : Layout) (n : Netlist) (net : Net) (text : List ℕ) → table ≡ modules → layout ≡ laid → IsWired table layout n →
    (AreSound layout table → IsSound n) → (IsLaid n → netlist_of net ≡ n) → (IsSound n → IsWellFormed net) → (IsSound n → HasFreeNames n → IsPortable net) →
    (IsFull net → Reads text net) → IsWritten laid modules n net text
written_as modules table laid layout n net text e f wired sound netlist formed portable reads =
    subst (λ (l : Layout). IsWritten l modules n net text) f
    (subst (λ (ms : List Module). IsWritten layout ms n net text) e (record { wired = wired; sound = sound; netlist = netlist; formed = formed; portable = portable; reads = reads }))
