-- The table of constraints as a condition on starts (difference constraints of a schedule: Cong and Zhang 2006), what a packing of
-- registers gives, and the sequential plan.
use Rattle.std.specs.Prelude.{◌≡◌, ◌≢◌, ℕ, zero, suc, ◌<◌, ◌≤◌, ◌+◌, ◌-◌, nat_eq, nat_lt, List, [], ◌∷◌, Bool, true, false, ◌||◌, Some, None, ◌⊎◌, if◌then◌else◌}
use Rattle.planned_block.specs.Block.{Operand, Constant, Variable, Value, Through, Kind, Final, Next, Jump, Branch, Block, operation_at, size, Uses}
use Rattle.planned_block.specs.Plan.{Plan, further_states, last_state, is_simple, target_of, OfGlobal, OfArray, gap_after}

-- 2 for a product and a read of a global, 8 for a quotient or a remainder, 1 for all else
abbrev pub latency : Kind → ℕ
latency kind = suc (further_states kind)

-- the rows of the table, one by one
pub record MeetsTable (b : Block) (p : Plan) : Type 0 where
  -- operation i to the end
  pub ends : (k : ℕ) → k < size b → p.start k + latency (operation_at b k).kind ≤ p.states
  -- j uses the value of i, both simple
  pub chained : (i j : ℕ) → j < size b → Uses (operation_at b j) i → is_simple (operation_at b i).kind ≡ true → is_simple (operation_at b j).kind ≡ true → p.start i ≤ p.start j
  -- k uses a value of j, j one of i, all three simple
  pub chained_twice : (i j k : ℕ) → k < size b → Uses (operation_at b k) j → Uses (operation_at b j) i →
      is_simple (operation_at b i).kind ≡ true → is_simple (operation_at b j).kind ≡ true → is_simple (operation_at b k).kind ≡ true → p.start i + 1 ≤ p.start k
  -- j uses the value of i, i simple, j not
  pub kept : (i j : ℕ) → j < size b → Uses (operation_at b j) i → is_simple (operation_at b i).kind ≡ true → is_simple (operation_at b j).kind ≡ false → p.start i + 1 ≤ p.start j
  -- j uses the value of i, i not simple
  pub awaited : (i j : ℕ) → j < size b → Uses (operation_at b j) i → is_simple (operation_at b i).kind ≡ false → p.start i + latency (operation_at b i).kind ≤ p.start j
  -- j before k, both accesses of one global
  pub one_bank : (j k x : ℕ) (v w : Bool) → j < k → k < size b → target_of (operation_at b j).kind ≡ OfGlobal x v → target_of (operation_at b k).kind ≡ OfGlobal x w →
      p.start j + gap_after v ≤ p.start k
  -- j before k, both accesses of one local array, one of them a write
  pub one_array : (j k x : ℕ) (v w : Bool) → j < k → k < size b → target_of (operation_at b j).kind ≡ OfArray x v → target_of (operation_at b k).kind ≡ OfArray x w →
      (v || w) ≡ true → p.start j + 1 ≤ p.start k

abbrev pub greater : ℕ → ℕ → ℕ
greater a c = if nat_lt a c then c else a

abbrev pub uses_in : Operand → ℕ → Bool
uses_in (Constant n) k = false
uses_in (Variable x) k = false
uses_in (Value j) k = nat_eq j k
uses_in (Through f o) k = uses_in o k

-- the last state in which one of the first n operations that use k works, or 0
abbrev pub last_user : Block → Plan → ℕ → ℕ → ℕ
last_user b p k zero = 0
last_user b p k (suc n) =
    greater (last_user b p k n) (if uses_in (operation_at b n).left k || uses_in (operation_at b n).right k then last_state b p n else 0)

abbrev pub any_final : List Final → ℕ → Bool
any_final [] k = false
any_final (f ∷ fs) k = uses_in f.value k || any_final fs k

abbrev pub next_uses : Next → ℕ → Bool
next_uses (Jump l) k = false
next_uses (Branch test _ _) k = uses_in test k

-- the last state in which the value of k is used, or 0: variables are set, and the branch is taken, in the block's last state
abbrev pub last_use : Block → Plan → ℕ → ℕ
last_use b p k = greater (last_user b p k (size b)) (if any_final b.finals k || next_uses b.next k then p.states - 1 else 0)

-- registers: a value lives from the state after its operation's last one to its last use, that state included;
-- values that live at once have different registers
pub record IsPacked (b : Block) (p : Plan) : Type 0 where
  pub until : (k : ℕ) → k < size b → p.until k ≡ last_use b p k
  pub has : (k : ℕ) → k < size b → last_state b p k < p.until k → (r : ℕ) × (p.register k ≡ Some r)
  pub short : (k r : ℕ) → k < size b → p.register k ≡ Some r → last_state b p k < p.until k
  pub apart : (j k r : ℕ) → j < size b → k < size b → j ≢ k → p.register j ≡ Some r → p.register k ≡ Some r → (p.until j ≤ last_state b p k) ⊎ (p.until k ≤ last_state b p j)

-- rows of a packing of intervals: a value whose interval, from the state after its operation's last one to the state after its last use,
-- has a state gets the row of it; two values whose intervals meet have different rows
pub record HasRows (b : Block) (p : Plan) (row : ℕ → ℕ) : Type 0 where
  pub until : (k : ℕ) → k < size b → p.until k ≡ last_use b p k
  pub register : (k : ℕ) → k < size b → p.register k ≡ (if nat_lt (last_state b p k) (p.until k) then Some (row k) else None)
  pub differ : (j k : ℕ) → j < size b → k < size b → j ≢ k → suc (last_state b p j) < suc (p.until k) → suc (last_state b p k) < suc (p.until j) → row j ≢ row k

-- the latencies of the first n operations
abbrev pub latencies_before : Block → ℕ → ℕ
latencies_before b zero = 0
latencies_before b (suc k) = latencies_before b k + latency (operation_at b k).kind

-- the operations one after another; a block without operations takes one state
abbrev pub sequential_starts : Block → Plan
sequential_starts b = record {
  start = latencies_before b;
  states = greater 1 (latencies_before b (size b));
  register = λ k. None;
  until = λ k. 0;
}

-- with a register of its own for each value that is used later
abbrev pub sequential : Block → Plan
sequential b = record {
  start = latencies_before b;
  states = greater 1 (latencies_before b (size b));
  register = λ k. if nat_lt (last_state b (sequential_starts b) k) (last_use b (sequential_starts b) k) then Some k else None;
  until = last_use b (sequential_starts b);
}
