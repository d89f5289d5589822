-- ONE LAW for all requests: where the core that an act asks may grant it, the act is the step of its thread, and the cores after the grant stand
-- for the state after the step; where it may not, the step is blocked.
use Rattle.std.specs.Prelude.{◌≡◌, ◌≢◌, ℕ, ◌<◌, ◌^◌, nat_eq, nat_lt, true, false, List, [], ◌∷◌, ℤ, Some, slice_get}
use Rattle.hls_ints.specs.Residues.{residue_of}
use Rattle.c_program.specs.Tree.{Program}
use Rattle.c_program.specs.Weight.{thread_count, hardware_routines}
use Rattle.thread_semantics.specs.State.{Frame, Unused, Running, Finished, State, started}
use Rattle.thread_semantics.specs.Step.{is_running}
use Rattle.block_ir.specs.declared.code.Act.{Act as CodeAct}
use Rattle.block_ir.specs.declared.code.Act.TheVariants as act
use Rattle.block_ir.specs.declared.code.ActOperand.{ActOperand}
use Rattle.block_ir.specs.declared.code.Stage.TheVariants as stage
use Rattle.interleaving.specs.Memory.{Memory}
use Rattle.interleaving.specs.Source.{StepsTo, Blocked, view_at}
use Rattle.interleaving.specs.Interleaving.{Reachable}
use Rattle.interleaving.specs.Threaded.{IsSynchronizing}
use Rattle.race_model.specs.Source.{Local, local_of, running, c_source}
use Rattle.block_ir.specs.Asked.{act_value, Asked, asked, Numbers, core_of}
use Rattle.code_following.specs.Following.{print_formats}
use Rattle.law_threads.specs.Cores.{Core, may_grant, core_after, status_at, argument_at, waits_bit}
use Rattle.law_threads.specs.Stands.{StandsFor}
use Rattle.block_refine.specs.Routines.{Codes, stage_at, Starts}
use Rattle.block_refine.specs.Acts.{IsDefined}

-- there are cores enough for the program, and no more than words of 64 bits count
pub record AreNumbers (P : Program) (N : Numbers) (T : ℕ) : Type 0 where
  pub threads : T ≡ thread_count P
  pub thread_ids : N.thread_ids ≡ nat_lt 1 T
  pub few_threads : T < 2 ^ 64
  pub few_mutexes : N.mutexes < 2 ^ 64
  pub few_barriers : N.barriers < 2 ^ 64

-- thread j is told the same
pub record HearsSame (N : Numbers) (c d : ℕ → Core) (j : ℕ) : Type 0 where
  pub status : status_at N d j ≡ status_at N c j
  pub argument : argument_at N d j ≡ argument_at N c j
  pub bits : (n : ℕ) → n < N.barriers → waits_bit N d n j ≡ waits_bit N c n j

-- how another thread stands after a step from s to t, with the cores c before it and d after it
pub data Other (P : Program) (N : Numbers) (c d : ℕ → Core) (s t : State) (j : ℕ) : Type 0 where
  Same : (local : local_of t j ≡ local_of s j) (hears : HearsSame N c d j) → Other P N c d s t j
  -- it is created
  Begun : (below : 0 < j) (was : slice_get s.slots j ≡ Some Unused) (r : ℕ) (v : ℤ) (routine : slice_get (hardware_routines P) j ≡ Some (Some r))
      (now : local_of t j ≡ running (started (slice_get P.functions r) r (v ∷ []))) (status : status_at N d j ≡ 1) (argument : argument_at N d j ≡ residue_of 64 v) →
      Other P N c d s t j
  Joined : (below : 0 < j) (was : slice_get s.slots j ≡ Some Finished) (now : slice_get t.slots j ≡ Some Unused) (status : status_at N d j ≢ 1) → Other P N c d s t j
  -- it waited at a barrier that opens
  Released : (frames : List Frame) (was : local_of s j ≡ record { slot = Some (Running frames); waits = true }) (now : local_of t j ≡ running frames)
      (bits : (n : ℕ) → n < N.barriers → waits_bit N d n j ≡ false) → Other P N c d s t j

-- a thread at a barrier: it is at the stage next once it doesn't wait, as the barrier's core says
pub record Meets (P : Program) (codes : Codes) (N : Numbers) (c : ℕ → Core) (i : ℕ) (x : Local) (f next : ℕ) (variables : ℕ → ℤ) (arrays : Memory ℤ) (b : ActOperand) : Type 0 where
  pub frames : List Frame
  pub runs : x.slot ≡ Some (Running frames)
  pub below : residue_of 64 (act_value variables b) < N.barriers
  pub bit : x.waits ≡ waits_bit N c (residue_of 64 (act_value variables b)) i
  pub starts : Starts P codes (running frames) f next variables arrays

-- where the thread itself stands then: a thread that returns has finished, and at a barrier's wait it meets
abbrev pub OwnAfter : Program → Codes → Numbers → (ℕ → Core) → ℕ → Local → ℕ → ℕ → (ℕ → ℤ) → Memory ℤ → CodeAct → Type 0
OwnAfter P codes N d i x f next variables arrays (act.BarrierWait b) = Meets P codes N d i x f next variables arrays b
OwnAfter P codes N d i x f next variables arrays act.Return = (is_running x.slot ≡ false) × (status_at N d i ≢ 1)
OwnAfter P codes N d i x f next variables arrays a = Starts P codes x f next variables arrays

module _ (P : Program) (codes : Codes) (N : Numbers) (T : ℕ) where
  abbrev pub cores_after : ℕ → ℕ → Asked → (ℕ → Core) → ℕ → Core
  cores_after k i ask c = core_after T (print_formats P) k i ask c

  pub record Goes (s : State) (i f next : ℕ) (variables : ℕ → ℤ) (arrays : Memory ℤ) (a : CodeAct) (ask : Asked) (k : ℕ) (c : ℕ → Core) : Type 0 where
    pub state : State
    pub view : IsSynchronizing (view_at (c_source P) s i)
    pub steps : (c_source P).step s i ≡ StepsTo state
    pub stands : StandsFor N T (cores_after k i ask c) state
    pub own : OwnAfter P codes N (cores_after k i ask c) i (local_of state i) f next variables arrays a
    pub others : (j : ℕ) → j ≢ i → Other P N c (cores_after k i ask c) s state j

  -- the core that is asked, and what it is to the program
  pub record Serves (s : State) (i f next : ℕ) (variables : ℕ → ℤ) (arrays : Memory ℤ) (a : CodeAct) (ask : Asked) (c : ℕ → Core) : Type 0 where
    pub core : ℕ
    pub is : core_of N ask ≡ Some core
    pub goes : may_grant (c core) i ask ≡ true → Goes s i f next variables arrays a ask core c
    pub waits : may_grant (c core) i ask ≡ false → (c_source P).step s i ≡ Blocked

  -- a thread stands at an act that asks something, its step is not undefined, and the cores stand for the state
  pub record StandsAtAct (s : State) (i f l next : ℕ) (variables : ℕ → ℤ) (arrays : Memory ℤ) (a : CodeAct) (ask : Asked) (c : ℕ → Core) : Type 0 where
    pub reached : Reachable (c_source P) s
    pub defined : IsDefined P s i
    pub cores : StandsFor N T c s
    pub starts : Starts P codes (local_of s i) f l variables arrays
    pub listed : stage_at codes f l ≡ Some (stage.Act a next)
    pub asks : asked (nat_eq i 0) a variables ≡ Some ask

  -- REQUESTS ARE STEPS
  abbrev pub RequestsAreSteps : Type 0
  RequestsAreSteps =
      (s : State) (i f l next : ℕ) (variables : ℕ → ℤ) (arrays : Memory ℤ) (a : CodeAct) (ask : Asked) (c : ℕ → Core) →
      StandsAtAct s i f l next variables arrays a ask c → Serves s i f next variables arrays a ask c
