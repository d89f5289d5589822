-- The text of the net of a program's parts is good Verilog of it.
use Rattle.std.proofs.Common.{◌≡◌, ℕ, List, ◌∙◌, subst}
use Rattle.c_program.specs.Tree.{Program}
use Rattle.verilog_tree.specs.declared.tree.Net.{Net}
use Rattle.good_verilog.specs.GoodVerilog.{IsGoodVerilog}
use Rattle.netlist.specs.declared.netlist.Netlist.{Netlist}
use Rattle.core_tables.specs.Tables.{Table, layout_of, modules_of}
use Rattle.core_tables.specs.Whole.{AreThreads}
use Rattle.net_emitter.specs.Placing as placing
use Rattle.net_emitter.proofs.CoresPlaced.{cores_are_placed}
use Rattle.law_cycle.specs.Built.{Parts, thread_modules, thread_leaves, IsBuilt}
use Rattle.law_net.specs.Wired.{IsWholeTableOf}
use Rattle.law_net.proofs.ThreadsStand.{threads_stand}
use Rattle.law_net.proofs.WiredFollow.{wired_follow}
use Rattle.law_net.specs.Tables.{IsLaidTable}
use Rattle.net_emitter.specs.Written.{IsWritten}
use Rattle.law_net.specs.Texts.{IsNetOf, FollowsProgram}
use Rattle.law_net.specs.Good.{ThreadsStand, LaidTablesAreGood, PlacedTablesAreLaid}
use Rattle.law_net.proofs.LaidTablesAreWhole.{same_bank, is_whole}
use Rattle.law_net.proofs.TextsAreGood.{texts_are_nets, texts_are_good}

module _ (P : Program) (K : Parts) (t : Table) (built : IsBuilt P K) (is : IsLaidTable K t) where
  stand : AreThreads t (thread_modules K) (thread_leaves K)
  stand = threads_stand P K t built is.shapes is.threads.count is.threads.runs

  table : IsWholeTableOf P K t
  table = record { built = built; whole = is_whole P K t built is; cores = is.shapes; count = is.threads.count; runs = is.threads.runs }

  module _ (n : Netlist) (net : Net) (text : List ℕ) (written : IsWritten (layout_of t) (modules_of t) n net text) where
    follows : FollowsProgram P n.modules written.wired.top
    follows = let law = wired_follow P K t n table written.wired in record { determined = law.0; runs = law.1; follows = law.2 }

    good_text : IsGoodVerilog P text × ((read : IsNetOf K.cores.threads n text) × (read.net ≡ net))
    good_text = (
      texts_are_good P t (thread_modules K) (thread_leaves K) n net text table.whole stand (is.threads.count ∙ built.threads) written follows,
      subst (λ k. (read : IsNetOf k n text) × (read.net ≡ net)) is.threads.count (texts_are_nets t (thread_modules K) (thread_leaves K) n net text table.whole stand written),
    )

pub each_thread_stands : ThreadsStand
each_thread_stands P K t built is = stand P K t built is

pub laid_tables_are_good : LaidTablesAreGood
laid_tables_are_good P K t n net text built is written = good_text P K t built is n net text written

-- ---- the cores as they are placed

pub placed_tables_are_laid : PlacedTablesAreLaid
placed_tables_are_laid P K t built narrow table =
    let cores = cores_are_placed K.cores t table.cores table.threads.count table.kinds in
    record {
      threads = table.threads;
      granting = table.granting;
      shapes = cores.shapes;
      numbered = cores.numbered;
      each = cores.each;
      used = cores.used;
      kinds = cores.once (same_bank P K built);
      narrow = narrow;
    }
