-- All threads are planned.
use Rattle.std.proofs.Common.{ℕ, List}
use Rattle.c_program.specs.Tree.{Program}
use Rattle.c_program.specs.Weight.{bound}
use Rattle.c_program.specs.Resolved.{IsResolved}
use Rattle.thread_semantics.specs.State.{State}
use Rattle.bank_partition.specs.declared.banks.Spread.{Spread}
use Rattle.planned_block.specs.Block.{IsOrdered}
use Rattle.planned_block.specs.Plan.{KeepsOrders}
use Rattle.planned_block.specs.Slot.{AreBanks}
use Rattle.planned_block.specs.Hardware.{PlannedThreads}
use Rattle.planned_block.proofs.CycleChain.{are_planned}
use Rattle.race_model.specs.Source.{Local, c_source}
use Rattle.thread_promise.specs.Globals.{bank_of}
use Rattle.law_threads.specs.Cores.{Core}
use Rattle.block_ir.specs.Asked.{Numbers}
use Rattle.block_refine.specs.Routines.{Codes, blocks_of, plans_of}
use Rattle.law_threads.specs.Requests.{AreNumbers}
use Rattle.block_refine.proofs.RoutineLaws.{blocks_are_steps}
use Rattle.law_threads.specs.Surroundings.{around, hardware_code}
use Rattle.law_threads.specs.Laws.{AreCoded}
use Rattle.law_threads.proofs.Fits.{fits_threads}
use Rattle.law_net.specs.Start.{ThreadsArePlanned}

module _ (P : Program) (codes : Codes) (N : Numbers) (T : ℕ) (spreads : List Spread) (chain : ℕ → ℕ → ℕ) (R : IsResolved P) (numbers : AreNumbers P N T)
    (coded : AreCoded P codes chain) (keeps : (f l : ℕ) → KeepsOrders (blocks_of codes f l) (plans_of codes f l)) (banks : AreBanks (bank_of spreads)) where
  pub ordered : (f l : ℕ) → IsOrdered (blocks_of codes f l)
  ordered f l = record { earlier = (keeps f l).earlier; final = (keeps f l).final }

  abbrev pub threads : PlannedThreads
  threads = record {
    Local = Local;
    State = State;
    Core = Core;
    source = c_source P;
    bank = bank_of spreads;
    banks = banks;
    code = hardware_code codes chain;
    keeps = keeps;
    spared = λ f l s lt. λ i. 0;
    around = around P codes N T;
    B = bound P;
    lowered = blocks_are_steps P codes chain R ordered coded.chained.chains;
    fits = fits_threads P codes N T spreads chain R numbers coded;
  }

pub threads_planned : (P : Program) (codes : Codes) (N : Numbers) (T : ℕ) (spreads : List Spread) (chain : ℕ → ℕ → ℕ) → ThreadsArePlanned P codes N T spreads chain
threads_planned P codes N T spreads chain R numbers coded keeps banks = are_planned (threads P codes N T spreads chain R numbers coded keeps banks)
