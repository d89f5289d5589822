-- Threads around their blocks: acts, waits and wakes are what the theory of planned hardware asks for.
use Rattle.std.specs.Prelude.{◌≡◌, ℕ, ◌+◌, ◌*◌, ◌<◌, ◌≤◌, nat_eq, List, ℤ, Some, None, slice_get, Bool, false}
use Rattle.c_program.specs.Tree.{Program}
use Rattle.c_program.specs.Weight.{weight, bound, hardware_routines}
use Rattle.c_program.specs.Resolved.{IsResolved}
use Rattle.thread_semantics.specs.State.{Frame, State}
use Rattle.bank_partition.specs.declared.banks.Spread.{Spread}
use Rattle.block_ir.specs.declared.code.Act.{Act as CodeAct}
use Rattle.block_ir.specs.declared.code.Stage.TheVariants as stage
use Rattle.interleaving.specs.Memory.{Memory}
use Rattle.interleaving.specs.Source.{Blocked}
use Rattle.interleaving.specs.Interleaving.{Reachable}
use Rattle.interleaving.specs.Headline.{MarksEnd}
use Rattle.planned_block.specs.Slot.{Slot}
use Rattle.planned_block.specs.Hardware.{Begins, planned_hardware, FitsBlocks}
use Rattle.planned_block.specs.Following.{no_spare, AreChains}
use Rattle.race_model.specs.Source.{Local, local_of, running, c_source}
use Rattle.race_model.specs.Orderly.{is_over}
use Rattle.thread_promise.specs.Globals.{bank_of}
use Rattle.block_ir.specs.Asked.{Asked, asked, Numbers, core_of}
use Rattle.law_threads.specs.Cores.{Core, may_grant}
use Rattle.law_threads.specs.Stands.{StandsFor}
use Rattle.code_following.specs.Following.{IsLowered}
use Rattle.law_threads.specs.Routines.{Codes, stage_at, rest_of, blocks_of, plans_of, ArePlanned, Starts}
use Rattle.law_threads.specs.Acts.{IsDefined}
use Rattle.law_threads.specs.Requests.{AreNumbers}
use Rattle.law_threads.specs.Surroundings.{Waits, Wakes, around, hardware_code}

-- the chains of blocks, with room at a rest or a meeting for what a wake leads to
pub record AreChainsThere (P : Program) (codes : Codes) (chain : ℕ → ℕ → ℕ) : Type 0 where
  pub chains : AreChains (blocks_of codes) (plans_of codes) chain no_spare (weight P)
  pub low : (f l : ℕ) → l < rest_of codes f → chain f l ≤ 32 * weight P + 1
  pub high : (f l : ℕ) → rest_of codes f ≤ l → chain f l ≡ 32 * weight P + 2

-- the code of all functions that hardware threads run
pub record AreCoded (P : Program) (codes : Codes) (chain : ℕ → ℕ → ℕ) : Type 0 where
  pub lowered : (i f : ℕ) → slice_get (hardware_routines P) i ≡ Some (Some f) → IsLowered P f (codes f).code
  -- main has no argument, another thread has one
  pub main : (codes P.main).code.argument ≡ None
  pub argument : (i f : ℕ) → 0 < i → slice_get (hardware_routines P) i ≡ Some (Some f) → (x : ℕ) × ((codes f).code.argument ≡ Some x)
  pub planned : ArePlanned codes
  pub chained : AreChainsThere P codes chain

module _ (P : Program) (codes : Codes) (N : Numbers) (T : ℕ) (spreads : List Spread) (chain : ℕ → ℕ → ℕ) where
  -- a thread rests: it is at the start of a stage, or waits
  abbrev pub Rests : (ℕ → Core) → ℕ → Local → Slot → Type 0
  Rests = (planned_hardware (bank_of spreads) (hardware_code codes chain) (around P codes N T) (bound P)).Rests

  -- STANDS AWAKE: a thread at the start of a stage runs, and waits nowhere
  abbrev pub StandsAwake : Type 0
  StandsAwake =
      AreCoded P codes chain → IsResolved P → (x : Local) (f l : ℕ) (variables : ℕ → ℤ) (arrays : Memory ℤ) → Starts P codes x f l variables arrays →
      (frames : List Frame) × (x ≡ running frames)

  -- THREADS FIT
  abbrev pub FitsThreads : Type 0
  FitsThreads =
      IsResolved P → AreNumbers P N T → AreCoded P codes chain →
      FitsBlocks (c_source P) (bank_of spreads) (hardware_code codes chain) (around P codes N T) (bound P)

  abbrev pub marks : Slot → Bool
  marks q = nat_eq q.stage (rest_of codes q.routine)

  -- THE MARK OF THE END
  abbrev pub MarksThreads : Type 0
  MarksThreads =
      IsResolved P → AreNumbers P N T → AreCoded P codes chain →
      MarksEnd (c_source P) (planned_hardware (bank_of spreads) (hardware_code codes chain) (around P codes N T) (bound P)) is_over marks

  -- who is in no block, asks nothing that may be granted, and doesn't wake
  pub data Stalls (c : ℕ → Core) (i : ℕ) (x : Local) (q : Slot) : Type 0 where
    AtAct : (begun : Begins (bank_of spreads) (hardware_code codes chain) (around P codes N T) (bound P) x q) (a : CodeAct) (next k : ℕ) (ask : Asked)
        (listed : stage_at codes q.routine q.stage ≡ Some (stage.Act a next)) (asks : asked (nat_eq i 0) a q.variables ≡ Some ask) (core : core_of N ask ≡ Some k)
        (kept : may_grant (c k) i ask ≡ false) → Stalls c i x q
    Rests_on : (waits : Waits P codes N T c i x q) (still : (r : Slot) → Wakes P codes N T c i q r → ⊥) → Stalls c i x q

  -- WHAT BLOCKS: such a thread is blocked
  abbrev pub WhatBlocks : Type 0
  WhatBlocks =
      IsResolved P → AreNumbers P N T → AreCoded P codes chain →
      (s : State) (i : ℕ) (c : ℕ → Core) (q : Slot) → Reachable (c_source P) s → IsDefined P s i → StandsFor N T c s → Stalls c i (local_of s i) q →
      (c_source P).step s i ≡ Blocked
