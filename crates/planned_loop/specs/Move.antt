-- One cycle of an enabled thread in a pipelined loop. The state of its slot is round * interval + phase, where the rounds of the prologue have
-- numbers, and all rounds from then on the next one.
use Rattle.std.specs.Prelude.{◌≡◌, ℕ, zero, suc, ◌+◌, ◌-◌, ◌*◌, ◌<◌, nat_eq, nat_lt, ℤ, pos, List, Bool, true, false, not, ◌&&◌, ◌||◌, if◌then◌else◌}
use Rattle.interleaving.specs.Memory.{Memory, Access, memory_after}
use Rattle.planned_block.specs.Block.{Operand, operation_at, size, operand_value, finished, is_zero}
use Rattle.planned_block.specs.Run.{array_access, value_of}
use Rattle.planned_block.specs.Slot.{Slot, accesses_where}
use Rattle.planned_loop.specs.Loop.{Loop, nothing}
use Rattle.planned_loop.specs.Plan.{LoopPlan}

abbrev pub flag : Bool → ℤ
flag true = pos 1
flag false = pos 0

abbrev pub is_set : ℤ → Bool
is_set v = not (is_zero v)

abbrev pub smaller : ℕ → ℕ → ℕ
smaller a b = if nat_lt a b then a else b

-- how many rounds the prologue has, one at least
abbrev pub prologue : LoopPlan → ℕ
prologue p = if nat_lt 1 (p.stages - 1) then p.stages - 1 else 1

module _ (l : Loop) (p : LoopPlan) where
  -- a value that its round has not given yet is a round older
  abbrev pub late : ℕ → ℕ → ℕ
  late i phase = if nat_lt (p.phase i) phase then 0 else 1

  -- in this phase, where so many iterations are begun behind the oldest one that has left nothing in the variables: the value of operation i in
  -- the iteration d behind that one
  module _ (begun phase : ℕ) (q : Slot) (wire : ℕ → ℤ) where
    abbrev pub value_ahead : ℕ → ℕ → ℤ
    value_ahead d i =
        if nat_eq (p.stage i + d) begun && nat_eq (p.phase i) phase then wire i
        else q.registers (p.register i (begun - (d + p.stage i + late i phase)))

    -- the variables as that iteration begins
    abbrev pub variables_ahead : ℕ → ℕ → ℤ
    variables_ahead zero = q.variables
    variables_ahead (suc d) = finished (λ a. operand_value (variables_ahead d) (value_ahead d) a) l.block.finals (variables_ahead d)

    abbrev pub operand_ahead : ℕ → Operand → ℤ
    operand_ahead d a = operand_value (variables_ahead d) (value_ahead d) a

  -- what goes into the register of a value, where the phase is that of its operation
  abbrev pub handed : Slot → (ℕ → ℤ) → ℕ → ℕ → ℤ
  handed q wire i zero = wire i
  handed q wire i (suc d) = q.registers (p.register i d)

  module _ (round phase : ℕ) (q : Slot) (wire : ℕ → ℤ) where
    abbrev pub begun : ℕ
    begun = smaller round (p.stages - 1)

    -- the iteration of this round has begun, and its comparison, if it is known, held
    abbrev pub is_running : Bool
    is_running = nat_eq round 0 || is_set (q.registers (p.bit 0))

    abbrev pub running_next : ℤ
    running_next = if nat_eq phase (p.phase l.comparison) then flag (is_running && is_set (wire l.comparison)) else q.registers (p.bit 0)

    -- an iteration is in this stage, and its comparison held; of the first stage this is known once it has compared
    abbrev pub is_in : ℕ → Bool
    is_in zero = is_set running_next
    is_in (suc s) = nat_lt s round && is_set (q.registers (p.bit (suc s)))

    abbrev pub is_done_now : ℕ → Bool
    is_done_now k = nat_eq (p.phase k) phase && (not (nat_lt round (p.stage k)) && is_in (p.stage k))

    abbrev pub access_now : ℕ → List (Access ℤ)
    access_now k =
        array_access (operation_at l.block k).kind (operand_ahead begun phase q wire (begun - p.stage k) (operation_at l.block k).left)
        (operand_ahead begun phase q wire (begun - p.stage k) (operation_at l.block k).right)

    abbrev pub arrays_next : Memory ℤ
    arrays_next = memory_after (accesses_where is_done_now access_now (size l.block) 0) q.arrays

    -- some iteration is in one of the first n stages
    abbrev pub is_some_in : ℕ → Bool
    is_some_in zero = false
    is_some_in (suc s) = is_some_in s || is_in s

    -- another round follows
    abbrev pub goes_round : Bool
    goes_round = is_some_in (prologue p)

    -- an iteration ends with this round
    abbrev pub is_last : Bool
    is_last = not (nat_lt round (p.stages - 1)) && is_in (p.stages - 1)

    -- what every cycle does
    pub record Works (r : Slot) : Type 0 where
      -- each operation whose phase it is gives its value
      pub wired : (k : ℕ) → k < size l.block → p.phase k ≡ phase →
          wire k ≡ value_of (operation_at l.block k).kind q.arrays nothing (operand_ahead begun phase q wire (begun - p.stage k) (operation_at l.block k).left)
          (operand_ahead begun phase q wire (begun - p.stage k) (operation_at l.block k).right)
      pub shifts : (i d : ℕ) → i < size l.block → d + p.stage i < p.stages →
          r.registers (p.register i d) ≡ (if nat_eq (p.phase i) phase then handed q wire i d else q.registers (p.register i d))
      pub runs : r.registers (p.bit 0) ≡ running_next
      pub arrays : r.arrays ≡ arrays_next

    -- a cycle within a round
    pub record GoesOn (r : Slot) : Type 0 where
      pub works : Works r
      pub within : suc phase < p.interval
      pub state : r.state ≡ suc q.state
      pub variables : r.variables ≡ q.variables
      pub bits : (s : ℕ) → suc s < p.stages → r.registers (p.bit (suc s)) ≡ q.registers (p.bit (suc s))

    -- the last cycle of a round
    pub record Rounds (r : Slot) : Type 0 where
      pub works : Works r
      pub last : suc phase ≡ p.interval
      pub variables : r.variables ≡ (if is_last then finished (operand_ahead begun phase q wire 0) l.block.finals q.variables else q.variables)
      pub bits : (s : ℕ) → suc s < p.stages → r.registers (p.bit (suc s)) ≡ flag (is_in s)
      pub state : goes_round ≡ true → r.state ≡ smaller (suc round) (prologue p) * p.interval
