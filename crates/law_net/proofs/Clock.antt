-- The cycles of what is built: whoever does not move keeps its slot; and the clock.
use Rattle.std.specs.Prelude.{nat_eq, Bool, false, ◌^◌, ◌-◌}
use Rattle.std.proofs.Common.{◌≡◌, ℕ, ◌<◌, ◌≤◌, ⊎_elim}
use Rattle.c_program.specs.Tree.{Program}
use Rattle.race_model.specs.Source.{c_source}
use Rattle.interleaving.specs.Interleaving.{IsGood}
use Rattle.interleaving.specs.Progress.{IsClocked}
use Rattle.planned_block.proofs.Bits.{is_same, less_or_not}
use Rattle.planned_block.specs.Hardware.{PlannedThreads, hardware_of}
use Rattle.verilog_meaning.specs.Cycles.{Choice}
use Rattle.law_cycle.specs.Built.{Parts, IsBuilt}
use Rattle.law_cycle.specs.Stage.{Stage, look}
use Rattle.law_cycle.specs.Cycle.{FitsTheory, threads_of, Cycled}
use Rattle.law_cycle.specs.Clock as net
use Rattle.law_cycle.specs.Clock.{Cycles, EnablesAll}
use Rattle.law_cycle.proofs.BuiltCode.{built_fits}
use Rattle.law_cycle.proofs.MachineCycle.{net_cycles}
use Rattle.law_cycle.proofs.Clocked.{net_is_clocked}
use Rattle.law_net.proofs.Masks.{full_enables}

module _ (P : Program) (K : Parts) (built : IsBuilt P K) where
  abbrev pub fits : FitsTheory P K built.chain
  fits = built_fits P K built

  abbrev pub M : PlannedThreads
  M = threads_of P K built.chain fits

  pub cycles : Cycles P K built.chain fits
  cycles c h = net_cycles P K built built.chain fits c h

  abbrev pub cycled : (h : Stage P K) (c : Choice) → Cycled P K c h built.chain fits
  cycled h c = cycles c h

  abbrev pub next : Stage P K → Choice → Stage P K
  next = net.cycle P K built.chain fits cycles

  -- who moves
  abbrev pub moves : Stage P K → Choice → ℕ → Bool
  moves = net.moving P K built.chain fits cycles

  abbrev pub is_full : Choice → Bool
  is_full c = nat_eq c.mask (2 ^ K.cores.threads - 1)

  abbrev pub counts : Stage P K → Choice → Bool
  counts = net.counts P K built.chain fits cycles is_full

  -- where nobody moves no slot changes
  pub same_slots : (h : Stage P K) (c : Choice) → ((i : ℕ) → i < K.cores.threads → moves h c i ≡ false) → (i : ℕ) → (next h c).slots i ≡ h.slots i
  same_slots h c unmoved i =
      ⊎_elim (λ (lt : i < K.cores.threads). (cycles c h).stays i lt (unmoved i lt)) (λ (le : K.cores.threads ≤ i). (cycles c h).cycle.beyond i le) (less_or_not i K.cores.threads)

  enables : EnablesAll K.cores.threads is_full
  enables c full i lt = full_enables K.cores.threads i c.mask lt (is_same c.mask (2 ^ K.cores.threads - 1) full)

  pub clocked : IsGood (c_source P) → IsClocked (c_source P) (hardware_of M) K.cores.threads (look P K) counts next
  clocked good = net_is_clocked P K built fits cycles is_full enables good
