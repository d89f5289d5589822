-- The slot of a thread that runs planned blocks, and what it does in one cycle, in which some of its requests are granted.
--
-- bank : Location → ℕ is the number of the bank that holds a place. A bank is of one global, which may have several of them: element j
-- of a global with K banks stands in its bank j mod K. For each thread a bank keeps the word that the thread read there last.
use Rattle.std.specs.Prelude.{◌≡◌, ℕ, zero, suc, ◌<◌, nat_eq, nat_lt, ℤ, pos, List, [], ◌++◌, Bool, true, false, not, ◌&&◌, ◌||◌, Option, Some, None, ◌⊎◌, if◌then◌else◌}
use Rattle.interleaving.specs.Memory.{Location, Memory, Access, memory_after}
use Rattle.planned_block.specs.Block.{Operand, Kind, Simple, Multiply, Divide, BankRead, BankWrite, ArrayRead, ArrayWrite}
use Rattle.planned_block.specs.Block.{Block, operation_at, size, operand_value, finished, leads_to, element}
use Rattle.planned_block.specs.Run.{bank_access, array_access}
use Rattle.planned_block.specs.Plan.{Plan, last_state}

-- the banks of two globals are different
abbrev pub AreBanks : (Location → ℕ) → Type 0
AreBanks bank = (p q : Location) → bank p ≡ bank q → p.object ≡ q.object

pub record Slot : Type 0 where
  -- the function that its thread runs, main or a start routine, and the stage of its code
  pub routine : ℕ
  pub stage : ℕ
  pub state : ℕ
  -- which requests of this state have been granted
  pub granted : ℕ → Bool
  pub variables : ℕ → ℤ
  pub arrays : Memory ℤ
  pub registers : ℕ → ℤ
  -- by bank: the word last read there, in a register of the core that is kept for this thread
  pub words : ℕ → ℤ
  -- turned by each change, so that a block that leads to itself and changes nothing else changes the slot
  pub beat : Bool

abbrev pub is_request : Kind → Bool
is_request (Simple f) = false
is_request (Multiply f) = false
is_request (Divide f) = false
is_request (BankRead x) = true
is_request (BankWrite x) = true
is_request (ArrayRead x) = false
is_request (ArrayWrite x) = false

-- the accesses of those of count operations from n on that pass
abbrev pub accesses_where : (ℕ → Bool) → (ℕ → List (Access ℤ)) → ℕ → ℕ → List (Access ℤ)
accesses_where passes accesses zero n = []
accesses_where passes accesses (suc count) n = (if passes n then accesses n else []) ++ accesses_where passes accesses count (suc n)

abbrev pub register_value : (ℕ → ℤ) → Option ℕ → ℤ
register_value registers None = pos 0
register_value registers (Some r) = registers r

module _ (b : Block) (p : Plan) where
  -- the value of operation k: on its wire in its last state, later in its register
  abbrev pub value_now : Slot → (ℕ → ℤ) → ℕ → ℤ
  value_now q wire k = if nat_eq (last_state b p k) q.state then wire k else register_value q.registers (p.register k)

  abbrev pub operand_now : Slot → (ℕ → ℤ) → Operand → ℤ
  operand_now q wire o = operand_value q.variables (value_now q wire) o

  abbrev pub starts_now : Slot → ℕ → Bool
  starts_now q k = nat_eq (p.start k) q.state

  -- operation k has a request in this state
  abbrev pub asks : Slot → ℕ → Bool
  asks q k = is_request (operation_at b k).kind && starts_now q k

  -- it has been granted, or is now
  abbrev pub granted_with : Slot → (ℕ → Bool) → ℕ → Bool
  granted_with q grants k = q.granted k || grants k

  -- it has been granted, in an earlier state or in this one
  abbrev pub was_granted : Slot → ℕ → Bool
  was_granted q k = nat_lt (p.start k) q.state || (starts_now q k && q.granted k)

  abbrev pub bank_access_now : Slot → (ℕ → ℤ) → ℕ → List (Access ℤ)
  bank_access_now q wire k = bank_access (operation_at b k).kind (operand_now q wire (operation_at b k).left) (operand_now q wire (operation_at b k).right)

  abbrev pub array_access_now : Slot → (ℕ → ℤ) → ℕ → List (Access ℤ)
  array_access_now q wire k = array_access (operation_at b k).kind (operand_now q wire (operation_at b k).left) (operand_now q wire (operation_at b k).right)

  -- the arrays when this state is left
  abbrev pub arrays_next : Slot → (ℕ → ℤ) → Memory ℤ
  arrays_next q wire = memory_after (accesses_where (starts_now q) (array_access_now q wire) (size b) 0) q.arrays

  -- the registers when this state is left
  pub record RegistersAfter (q : Slot) (wire : ℕ → ℤ) (registers : ℕ → ℤ) : Type 0 where
    pub written : (k r : ℕ) → k < size b → last_state b p k ≡ q.state → p.register k ≡ Some r → registers r ≡ wire k
    pub kept : (r : ℕ) → ((k : ℕ) → k < size b → last_state b p k ≡ q.state → p.register k ≡ Some r → ⊥) → registers r ≡ q.registers r

  -- the same state, in which these are granted
  abbrev pub stayed : Slot → (ℕ → Bool) → (ℕ → ℤ) → Slot
  stayed q grants words = record {
    routine = q.routine;
    stage = q.stage;
    state = q.state;
    granted = granted_with q grants;
    variables = q.variables;
    arrays = q.arrays;
    registers = q.registers;
    words = words;
    beat = not q.beat;
  }

  -- the next state of the block
  abbrev pub gone_on : Slot → (ℕ → ℤ) → (ℕ → ℤ) → (ℕ → ℤ) → Slot
  gone_on q wire words registers = record {
    routine = q.routine;
    stage = q.stage;
    state = suc q.state;
    granted = λ k. false;
    variables = q.variables;
    arrays = arrays_next q wire;
    registers = registers;
    words = words;
    beat = not q.beat;
  }

  -- the state is kept: only the bits of the new grants and the words change
  pub record Stays (q : Slot) (grants : ℕ → Bool) (words : ℕ → ℤ) (r : Slot) : Type 0 where
    pub some : (k : ℕ) × (k < size b) × (grants k ≡ true)
    pub slot : r ≡ stayed q grants words

  -- each request of the state is granted, now or before
  abbrev pub AllGranted : Slot → (ℕ → Bool) → Type 0
  AllGranted q grants = (k : ℕ) → k < size b → asks q k ≡ true → granted_with q grants k ≡ true

  -- the state is left for the next one of the block
  pub record GoesOn (q : Slot) (wire words : ℕ → ℤ) (r : Slot) : Type 0 where
    pub within : suc q.state < p.states
    pub registers : RegistersAfter q wire r.registers
    pub slot : r ≡ gone_on q wire words r.registers

  -- the block is left. Its registers and the words are of no use any more
  pub record Leaves (q : Slot) (wire : ℕ → ℤ) (r : Slot) : Type 0 where
    pub at_end : suc q.state ≡ p.states
    pub routine : r.routine ≡ q.routine
    pub stage : r.stage ≡ leads_to (operand_now q wire) b.next
    pub state : r.state ≡ 0
    pub granted : (k : ℕ) → r.granted k ≡ false
    pub variables : (x : ℕ) → r.variables x ≡ finished (operand_now q wire) b.finals q.variables x
    pub arrays : (l : Location) → r.arrays l ≡ arrays_next q wire l
    pub beat : r.beat ≡ not q.beat

module _ (bank : Location → ℕ) where
  -- what a kind of operation gives in its last state: a read takes the word of the bank that its index names, which it still has
  abbrev pub result_of : Kind → (ℕ → ℤ) → Memory ℤ → ℤ → ℤ → ℤ
  result_of (Simple f) words arrays l r = f l r
  result_of (Multiply f) words arrays l r = f l r
  result_of (Divide f) words arrays l r = f l r
  result_of (BankRead x) words arrays l r = words (bank (element x l))
  result_of (BankWrite x) words arrays l r = pos 0
  result_of (ArrayRead x) words arrays l r = arrays (element x l)
  result_of (ArrayWrite x) words arrays l r = pos 0

  module _ (b : Block) (p : Plan) where
    -- what an operation gives in this state; a word is that of an earlier cycle
    abbrev pub result_now : Slot → (ℕ → ℤ) → ℕ → ℤ
    result_now q wire k = result_of (operation_at b k).kind q.words q.arrays (operand_now b p q wire (operation_at b k).left) (operand_now b p q wire (operation_at b k).right)

    -- the wires of a state: those of the operations whose last state it is show what these give, from each other or from registers
    abbrev pub IsWired : Slot → (ℕ → ℤ) → Type 0
    IsWired q wire = (k : ℕ) → k < size b → last_state b p k ≡ q.state → wire k ≡ result_now q wire k

    -- the bank that a granted read of operation k asks
    abbrev pub bank_asked : Slot → (ℕ → ℤ) → ℕ → ℕ → ℕ
    bank_asked q wire k x = bank (element x (operand_now b p q wire (operation_at b k).left))

    -- the words after these grants, where m is the memory of this cycle
    pub record WordsAfter (q : Slot) (wire : ℕ → ℤ) (m : Memory ℤ) (grants : ℕ → Bool) (words : ℕ → ℤ) : Type 0 where
      pub read : (k x : ℕ) → k < size b → grants k ≡ true → (operation_at b k).kind ≡ BankRead x →
          words (bank_asked q wire k x) ≡ m (element x (operand_now b p q wire (operation_at b k).left))
      pub kept : (n : ℕ) → ((k x : ℕ) → k < size b → grants k ≡ true → (operation_at b k).kind ≡ BankRead x → bank_asked q wire k x ≡ n → ⊥) → words n ≡ q.words n

    -- the thread works for one cycle, in which it reads this memory and makes these accesses
    pub record Works (q : Slot) (m : Memory ℤ) (es : List (Access ℤ)) : Type 0 where
      pub inside : q.state < p.states
      pub grants : ℕ → Bool
      pub wire : ℕ → ℤ
      pub words : ℕ → ℤ
      -- only requests of this state are granted, each once
      pub requested : (k : ℕ) → grants k ≡ true → (k < size b) × (asks b p q k ≡ true) × (q.granted k ≡ false)
      pub wired : IsWired q wire
      pub read : WordsAfter q wire m grants words
      pub accesses : es ≡ accesses_where grants (bank_access_now b p q wire) (size b) 0

    -- a cycle within the block: the state is kept, or left once all its requests are granted
    abbrev pub Passes : Slot → Memory ℤ → List (Access ℤ) → Slot → Type 0
    Passes q m es r = (t : Works q m es) × (Stays b p q t.grants t.words r ⊎ (AllGranted b p q t.grants × GoesOn b p q t.wire t.words r))

    -- the last cycle of the block
    abbrev pub Finishes : Slot → Memory ℤ → List (Access ℤ) → Slot → Type 0
    Finishes q m es r = (t : Works q m es) × AllGranted b p q t.grants × Leaves b p q t.wire r

    -- one cycle of the slot
    abbrev pub Turns : Slot → Memory ℤ → List (Access ℤ) → Slot → Type 0
    Turns q m es r = Passes q m es r ⊎ Finishes q m es r
