-- What the module of a thread does in a cycle of a pipelined loop, as a function of its slot alone.
use Rattle.std.specs.Prelude.{◌≡◌, ℕ, zero, suc, ◌+◌, ◌-◌, ◌*◌, ◌<◌, nat_eq, ℤ, pos, Bool, false, not, ◌&&◌, if◌then◌else◌}
use Rattle.planned_block.specs.Block.{operation_at, size, finished}
use Rattle.planned_block.specs.Run.{value_of}
use Rattle.planned_block.specs.Slot.{Slot}
use Rattle.planned_loop.specs.Loop.{Loop, nothing}
use Rattle.planned_loop.specs.Plan.{LoopPlan, KeepsLoop}
use Rattle.planned_loop.specs.Move.{flag, smaller, prologue, operand_ahead, handed, running_next, is_in, arrays_next, goes_round, is_last, GoesOn, Rounds}

-- whose a register is
pub data Owner : Type 0 where
  Chain : (operation copy : ℕ) → Owner
  Bit : (stage : ℕ) → Owner
  Nobody : Owner

-- no register serves two values, or a value and a bit
pub record AreOwners (l : Loop) (p : LoopPlan) (owner : ℕ → Owner) : Type 0 where
  pub chains : (i d : ℕ) → i < size l.block → d + p.stage i < p.stages → owner (p.register i d) ≡ Chain i d
  pub bits : (s : ℕ) → s < p.stages → owner (p.bit s) ≡ Bit s

module _ (l : Loop) (p : LoopPlan) (owner : ℕ → Owner) (exit round phase : ℕ) (q : Slot) where
  abbrev pub ahead : ℕ → ℕ
  ahead k = smaller round (p.stages - 1) - p.stage k

  -- the wires after n rounds of computing; they are settled after as many as there are operations
  abbrev pub wires_after : ℕ → ℕ → ℤ
  wires_after zero k = pos 0
  wires_after (suc n) k =
      value_of (operation_at l.block k).kind q.arrays nothing
      (operand_ahead l p (smaller round (p.stages - 1)) phase q (wires_after n) (ahead k) (operation_at l.block k).left)
      (operand_ahead l p (smaller round (p.stages - 1)) phase q (wires_after n) (ahead k) (operation_at l.block k).right)

  abbrev pub wires : ℕ → ℤ
  wires = wires_after (size l.block)

  abbrev pub is_round_end : Bool
  is_round_end = nat_eq (suc phase) p.interval

  abbrev pub register_next : Owner → ℤ → ℤ
  register_next (Chain i d) old = if nat_eq (p.phase i) phase then handed l p q wires i d else old
  register_next (Bit zero) old = running_next l p round phase q wires
  register_next (Bit (suc s)) old = if is_round_end then flag (is_in l p round phase q wires s) else old
  register_next Nobody old = old

  -- the loop is left
  abbrev pub is_leaving : Bool
  is_leaving = is_round_end && not (goes_round l p round phase q wires)

  abbrev pub loop_next : Slot
  loop_next = record {
    routine = q.routine;
    stage = if is_leaving then exit else q.stage;
    state = if is_round_end then (if goes_round l p round phase q wires then smaller (suc round) (prologue p) * p.interval else 0) else suc q.state;
    granted = λ k. false;
    variables = if is_round_end && is_last l p round phase q wires then finished
        (operand_ahead l p (smaller round (p.stages - 1)) phase q wires 0) l.block.finals q.variables else q.variables;
    arrays = arrays_next l p round phase q wires;
    registers = λ x. register_next (owner x) (q.registers x);
    words = q.words;
    beat = not q.beat;
  }

-- THERE IS A NEXT SLOT: the function does what the relation says
abbrev pub LoopMoves : Type 0
LoopMoves =
    (l : Loop) (p : LoopPlan) (owner : ℕ → Owner) (exit round phase : ℕ) (q : Slot) → KeepsLoop l p → AreOwners l p owner →
    (suc phase < p.interval → GoesOn l p round phase q (wires l p owner exit round phase q) (loop_next l p owner exit round phase q))
    × (suc phase ≡ p.interval → Rounds l p round phase q (wires l p owner exit round phase q) (loop_next l p owner exit round phase q))
