-- The machine is clocked: each cycle is a chain of moves, and where one that counts moves nobody, the state is stuck.
use Rattle.std.specs.Prelude.{◌≡◌, ℕ, ◌<◌, ◌||◌, Bool, true}
use Rattle.c_program.specs.Tree.{Program}
use Rattle.interleaving.specs.Interleaving.{IsGood}
use Rattle.interleaving.specs.Progress.{IsClocked}
use Rattle.planned_block.specs.Advance.{any_below}
use Rattle.planned_block.specs.Hardware.{hardware_of}
use Rattle.planned_block.specs.Net.{moves}
use Rattle.race_model.specs.Source.{c_source}
use Rattle.verilog_meaning.specs.Cycles.{Choice}
use Rattle.circuit.specs.Wiring.{is_enabled}
use Rattle.law_cycle.specs.Built.{Parts, IsBuilt}
use Rattle.law_cycle.specs.Stage.{Stage, look}
use Rattle.law_cycle.specs.Cycle.{FitsTheory, threads_of, Cycled}

-- a cycle of each choice from each state
abbrev pub Cycles : (P : Program) (K : Parts) (chain : ℕ → ℕ → ℕ) → FitsTheory P K chain → Type 0
Cycles P K chain known = (c : Choice) (h : Stage P K) → Cycled P K c h chain known

module _ (P : Program) (K : Parts) (chain : ℕ → ℕ → ℕ) (known : FitsTheory P K chain) (cycles : Cycles P K chain known) where
  abbrev pub cycle : Stage P K → Choice → Stage P K
  cycle h c = (cycles c h).next

  -- who moves
  abbrev pub moving : Stage P K → Choice → ℕ → Bool
  moving h c = moves (threads_of P K chain known) (look P K h) (look P K (cycle h c)) (cycles c h).grants

  -- a choice counts where it is full, or somebody moves
  abbrev pub counts : (Choice → Bool) → Stage P K → Choice → Bool
  counts is_full h c = is_full c || any_below (moving h c) K.cores.threads

-- those that are full enable each of T threads
abbrev pub EnablesAll : ℕ → (Choice → Bool) → Type 0
EnablesAll T is_full = (c : Choice) → is_full c ≡ true → (i : ℕ) → i < T → is_enabled c.mask i ≡ true

-- CLOCKED
abbrev pub NetIsClocked : Type 0
NetIsClocked =
    (P : Program) (K : Parts) (built : IsBuilt P K) (known : FitsTheory P K built.chain) (cycles : Cycles P K built.chain known) (is_full : Choice → Bool) →
    EnablesAll K.cores.threads is_full → IsGood (c_source P) →
    IsClocked (c_source P) (hardware_of (threads_of P K built.chain known)) K.cores.threads (look P K) (counts P K built.chain known cycles is_full) (cycle P K built.chain known cycles)
