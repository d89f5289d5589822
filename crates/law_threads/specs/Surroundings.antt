-- What threads do besides blocks: how they wait, wake and act.
use Rattle.std.specs.Prelude.{◌≡◌, ◌≢◌, ℕ, ◌<◌, ◌≤◌, nat_eq, true, false, [], ◌∷◌, length, ℤ, Option, Some, slice_get}
use Rattle.hls_ints.specs.Residues.{residue_of}
use Rattle.c_program.specs.Tree.{Program}
use Rattle.thread_semantics.specs.State.{State, started}
use Rattle.thread_semantics.specs.Step.{is_running}
use Rattle.interleaving.specs.Memory.{Location}
use Rattle.interleaving.specs.Hardware.{World}
use Rattle.block_ir.specs.declared.code.Act.{Act as CodeAct}
use Rattle.block_ir.specs.declared.code.Act.TheVariants as act
use Rattle.block_ir.specs.declared.code.ActOperand.{ActOperand}
use Rattle.block_ir.specs.declared.code.Stage.TheVariants as stage
use Rattle.planned_block.specs.Slot.{Slot}
use Rattle.planned_block.specs.Hardware.{Code, Surroundings}
use Rattle.planned_block.specs.Following.{no_spare, code_of}
use Rattle.race_model.specs.Source.{Local, running}
use Rattle.race_model.specs.Orderly.{is_over}
use Rattle.block_ir.specs.Asked.{act_value, Asked, asked, Numbers, core_of}
use Rattle.thread_promise.specs.Promise.{went_on}
use Rattle.law_threads.specs.Cores.{Core, may_grant, status_at, argument_at, waits_bit}
use Rattle.law_threads.specs.Stands.{StandsFor}
use Rattle.thread_promise.specs.Moves.{meeting, stage_after, set_out}
use Rattle.c_program.specs.Weight.{hardware_routines}
use Rattle.law_threads.specs.Routines.{Codes, stage_at, rest_of, blocks_of, plans_of, Starts}
use Rattle.law_threads.specs.Requests.{Meets, cores_after}

-- the function that hardware thread i runs, and a number that no function has where it runs none
abbrev pub routine_in : Program → Option (Option ℕ) → ℕ
routine_in P (Some (Some f)) = f
routine_in P o = length P.functions

abbrev pub routine_of : Program → ℕ → ℕ
routine_of P i = routine_in P (slice_get (hardware_routines P) i)

module _ (P : Program) (codes : Codes) (N : Numbers) (T : ℕ) where
  abbrev pub rest : Slot → ℕ
  rest q = rest_of codes q.routine

  pub data Waits (c : ℕ → Core) (i : ℕ) (x : Local) (q : Slot) : Type 0 where
    -- there is no such thread
    Absent : (beyond : T ≤ i) (at : q.stage ≡ rest q) → Waits c i x q
    -- main has returned
    Over : (main : i ≡ 0) (at : q.stage ≡ rest q) (over : is_over x ≡ true) → Waits c i x q
    -- it has not begun, or is over
    Idle : (thread : 0 < i) (own : q.routine ≡ routine_of P i) (at : q.stage ≡ rest q) (none : is_running x.slot ≡ false) (status : status_at N c i ≢ 1) → Waits c i x q
    -- it is created, and has yet to set out
    Handed : (thread : 0 < i) (own : q.routine ≡ routine_of P i) (at : q.stage ≡ rest q) (r : ℕ) (v : ℤ) (runs : slice_get (hardware_routines P) i ≡ Some (Some r))
        (is : x ≡ running (started (slice_get P.functions r) r (v ∷ []))) (status : status_at N c i ≡ 1) (argument : argument_at N c i ≡ residue_of 64 v) → Waits c i x q
    -- its wait at a barrier is granted
    Meeting : (l next : ℕ) (b : ActOperand) (at : q.stage ≡ meeting (rest q) l) (listed : stage_at codes q.routine l ≡ Some (stage.Act (act.BarrierWait b) next))
        (meets : Meets P codes N c i x q.routine next q.variables q.arrays b) → Waits c i x q

  pub data Wakes (c : ℕ → Core) (i : ℕ) (q r : Slot) : Type 0 where
    Sets_out : (thread : 0 < i) (below : i < T) (at : q.stage ≡ rest q) (status : status_at N c i ≡ 1)
        (slot : r ≡ set_out (codes q.routine).code.argument (argument_at N c i) q) → Wakes c i q r
    Goes_on : (l next : ℕ) (b : ActOperand) (at : q.stage ≡ meeting (rest q) l) (listed : stage_at codes q.routine l ≡ Some (stage.Act (act.BarrierWait b) next))
        (bit : waits_bit N c (residue_of 64 (act_value q.variables b)) i ≡ false) (slot : r ≡ went_on next q) → Wakes c i q r

  pub data Does (w : World ℤ Slot (ℕ → Core)) (i : ℕ) (v : World ℤ Slot (ℕ → Core)) : Type 0 where
    -- a core grants what an act asks
    Requests : (a : CodeAct) (next k : ℕ) (ask : Asked) (own : (w.slots i).routine ≡ routine_of P i)
        (listed : stage_at codes (w.slots i).routine (w.slots i).stage ≡ Some (stage.Act a next)) (asks : asked (nat_eq i 0) a (w.slots i).variables ≡ Some ask)
        (core : core_of N ask ≡ Some k) (eligible : may_grant (w.cores k) i ask ≡ true)
        (slot : v.slots i ≡ went_on (stage_after (rest (w.slots i)) (w.slots i).stage a next) (w.slots i))
        (cores : (j : ℕ) → v.cores j ≡ cores_after P codes N T k i ask w.cores j) → Does w i v
    -- main returns
    Returns : (main : i ≡ 0) (next : ℕ) (listed : stage_at codes (w.slots i).routine (w.slots i).stage ≡ Some (stage.Act act.Return next))
        (slot : v.slots i ≡ went_on (rest (w.slots i)) (w.slots i)) (cores : (j : ℕ) → v.cores j ≡ w.cores j) → Does w i v

  pub record Acts (w : World ℤ Slot (ℕ → Core)) (i : ℕ) (v : World ℤ Slot (ℕ → Core)) : Type 0 where
    pub act : Does w i v
    pub others : (j : ℕ) → j ≢ i → v.slots j ≡ w.slots j
    pub memory : (l : Location) → v.memory l ≡ w.memory l

  abbrev pub around : Surroundings Local State Core
  around = record {
    Starts = Starts P codes;
    Waits = Waits;
    Wakes = Wakes;
    Stands = StandsFor N T;
    Act = Acts;
  }

abbrev pub hardware_code : Codes → (ℕ → ℕ → ℕ) → Code
hardware_code codes chain = code_of (blocks_of codes) (plans_of codes) chain no_spare
