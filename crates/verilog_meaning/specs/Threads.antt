-- Nets of threads: slots, closed and open cycles, journals of a run, verdicts.
use Rattle.std.specs.Prelude.{◌≡◌, ◌≢◌, ℕ, zero, suc, ◌+◌, ◌-◌, ◌/◌, ◌%◌, ◌^◌, ◌<◌, ◌≤◌, ◌⊎◌, Bool, true, false, List, [], ◌∷◌, ◌++◌, All, Some, codes, if◌then◌else◌}
use Rattle.std.specs.Str.{bytes_eq}
use Rattle.netlist.specs.declared.netlist.Signal.{Signal}
use Rattle.netlist.specs.declared.netlist.Source.{Source}
use Rattle.netlist.specs.declared.netlist.Source.TheVariants.{Input, Register, Assigned, Port}
use Rattle.netlist.specs.declared.netlist.Value.{Value}
use Rattle.netlist.specs.declared.netlist.Value.TheVariants.{Copy, Constant, BitwiseNot, Binary, SignedLess, ArithmeticShiftRight, Conditional, Division, SignedDivision, MemoryRead, Select}
use Rattle.netlist.specs.declared.netlist.Value.TheVariants.{Concatenation, Replication}
use Rattle.netlist.specs.declared.netlist.Instance.{Instance}
use Rattle.netlist.specs.declared.netlist.Module.{Module}
use Rattle.verilog_meaning.specs.Names.{numbered, IsSignal, IsInstance}
use Rattle.verilog_meaning.specs.Ports.{HasPorts}
use Rattle.verilog_meaning.specs.Cycles.{Path, Valuation, Choice, module_at, instance_at, connected, IsAt, IsSettled, IsState, IsSameIn, IsSameAt, Cycle, ShowsDone}

-- the number of the instance of a name
abbrev pub instance_named : List Instance → List ℕ → ℕ
instance_named [] name = 0
instance_named (n ∷ ns) name = if bytes_eq name n.name then 0 else suc (instance_named ns name)

-- the bit of a thread
abbrev pub bit_of : ℕ → ℕ → ℕ
bit_of mask i = (mask / 2 ^ i) % 2

-- the choice of thread i alone, with all prefs 0
abbrev pub alone : ℕ → Choice
alone i = record { mask = 2 ^ i; prefs = [] }

-- the choice of all of so many threads
abbrev pub all_enabled : ℕ → List ℕ → Choice
all_enabled threads prefs = record { mask = 2 ^ threads - 1; prefs = prefs }

-- a mask of a bit for each thread, and prefs of 6 bits
abbrev pub IsChoice : ℕ → Choice → Type 0
IsChoice threads c = (c.mask < 2 ^ threads) × All (λ p. p < 64) c.prefs

-- ---- what a signal's equation names

abbrev pub operands : Value → List ℕ
operands (Copy x) = x ∷ []
operands (Constant n) = []
operands (BitwiseNot x) = x ∷ []
operands (Binary operator x y) = x ∷ y ∷ []
operands (SignedLess x y) = x ∷ y ∷ []
operands (ArithmeticShiftRight x y) = x ∷ y ∷ []
operands (Conditional c x y) = c ∷ x ∷ y ∷ []
operands (Division operator x y) = x ∷ y ∷ []
operands (SignedDivision operator x y) = x ∷ y ∷ []
operands (MemoryRead j x) = x ∷ []
operands (Select x high low) = x ∷ []
operands (Concatenation xs) = xs
operands (Replication n x) = x ∷ []

abbrev pub IsOneOf : ℕ → List ℕ → Type 0
IsOneOf x [] = ⊥
IsOneOf x (y ∷ ys) = (x ≡ y) ⊎ IsOneOf x ys

abbrev pub Place : Type 0
Place = Path × ℕ

module _ (modules : List Module) (top : Module) where
  -- the equation that gives signal x of the instance at a path names the signal at a place; registers are no signals
  abbrev pub Names : Path → ℕ → Source → Place → Type 0
  Names path x (Register n) q = ⊥
  Names path x (Assigned right) q = (q.0 ≡ path) × IsOneOf q.1 (operands right)
  Names path x (Port i port) q = (q.0 ≡ i ∷ path) × (q.1 ≡ port)
  Names [] x Input q = ⊥
  Names (i ∷ outer) x Input q = (q.0 ≡ outer) × (q.1 ≡ connected modules top (instance_at modules top outer i) x)

  -- one signal depends on another
  pub data Depends : Place → Place → Type 0 where
    directly : {path : Path} {m : Module} {x : ℕ} {s : Signal} {q : Place} → IsAt modules top path m x s → Names path x s.source q → Depends (path, x) q
    through : {p q r : Place} → Depends p q → Depends q r → Depends p r

  module _ (threads : ℕ) where
    -- the slot of thread i is what instance t_i holds
    abbrev pub slot : ℕ → Path
    slot i = instance_named top.instances (numbered (codes "t") i) ∷ []

    abbrev pub IsSameSlot : ℕ → Valuation → Valuation → Type 0
    IsSameSlot i h g = IsSameIn modules top (slot i) h g

    abbrev pub IsSame : Valuation → Valuation → Type 0
    IsSame h g = IsSameIn modules top [] h g

    abbrev pub ChangesSlot : Valuation → Valuation → Type 0
    ChangesSlot h g = (i : ℕ) × (i < threads) × (IsSameSlot i h g → ⊥)

    -- the output need of thread i has this number in h under c
    pub record Needs (h : Valuation) (c : Choice) (i b : ℕ) : Type 0 where
      pub kind : Module
      pub stands : module_at modules top (slot i) ≡ Some kind
      pub place : ℕ
      pub signal : Signal
      pub is : IsSignal kind (codes "need") place signal
      pub through : Valuation
      pub settled : IsSettled modules top h c through
      pub number : (through (slot i)).signal place ≡ b

    -- a thread's instance, and its output need of one bit
    pub record HasThread (i : ℕ) : Type 0 where
      pub place : ℕ
      pub instance : Instance
      pub is : IsInstance top (numbered (codes "t") i) place instance
      pub kind : Module
      pub stands : module_at modules top (slot i) ≡ Some kind
      pub need_place : ℕ
      pub need : Signal
      pub has_need : IsSignal kind (codes "need") need_place need
      pub one_bit : need.width ≡ 1
      pub out : need.is_output ≡ true

    -- ---- threaded nets

    -- a net of threads that keep to themselves in closed cycles
    pub record IsThreaded : Type 0 where
      pub ports : HasPorts top threads
      pub has : (i : ℕ) → i < threads → HasThread i
      pub loopless : (p : Place) → Depends p p → ⊥
      pub stays : (h g : Valuation) (c : Choice) (out : List ℕ) (i : ℕ) → IsState modules top h → IsChoice threads c → i < threads → Cycle modules top h c g out → bit_of c.mask i ≡ 0
          → IsSameSlot i h g
      pub needs : (h g : Valuation) (c d : Choice) (i a b : ℕ) → i < threads → IsSameSlot i h g → Needs h c i a → Needs g d i b → a ≡ b
      pub closed_moves : (h g : Valuation) (c : Choice) (out : List ℕ) (i : ℕ) → IsState modules top h → IsChoice threads c → i < threads → Cycle modules top h c g out → bit_of c.mask i ≡ 1
          → Needs h c i 0 → IsSameSlot i h g → ⊥
      pub closed_alike : (h h' g g' : Valuation) (c c' : Choice) (out out' : List ℕ) (i : ℕ) → IsState modules top h → IsState modules top h' → i < threads → Cycle modules top h c g out
          → Cycle modules top h' c' g' out' → bit_of c.mask i ≡ 1 → bit_of c'.mask i ≡ 1 → Needs h c i 0 → IsSameSlot i h h' → IsSameSlot i g g'
      pub closed_alone : (h g : Valuation) (out : List ℕ) (i : ℕ) → IsState modules top h → i < threads → Cycle modules top h (alone i) g out → Needs h (alone i) i 0
          → (out ≡ []) × ((path : Path) → ((inner : Path) → path ≢ inner ++ slot i) → IsSameAt modules top path h g)
      pub open_moves : (h g : Valuation) (out : List ℕ) (i : ℕ) → IsState modules top h → i < threads → Cycle modules top h (alone i) g out → Needs h (alone i) i 1 → IsSameSlot i h g → IsSame h g
      pub idle : (h g : Valuation) (c : Choice) (out : List ℕ) → IsState modules top h → c.mask ≡ 0 → Cycle modules top h c g out → IsSame h g
      pub done_alike : (h g : Valuation) (c d : Choice) (a b : ℕ) → IsSameSlot 0 h g → ShowsDone modules top h c a → ShowsDone modules top g d b → a ≡ b
      pub done_stays : (h g : Valuation) (c : Choice) (out : List ℕ) → IsState modules top h → ShowsDone modules top h c 1 → Cycle modules top h (alone 0) g out → IsSame h g
      pub stuck : (h : Valuation) → IsState modules top h → ((i : ℕ) (g : Valuation) (out : List ℕ) → i < threads → Cycle modules top h (alone i) g out → IsSame h g)
          → (g : Valuation) (c : Choice) (out : List ℕ) → IsChoice threads c → Cycle modules top h c g out → IsSame h g × (out ≡ [])

    -- ---- counted cycles: all bits are set, or a slot changes

    pub data Counted : Valuation → List Choice → ℕ → Type 0 where
      none : {h : Valuation} → Counted h [] 0
      counts : {h g : Valuation} {c : Choice} {choices : List Choice} {n : ℕ} {out : List ℕ} → Cycle modules top h c g out → (c.mask ≡ 2 ^ threads - 1) ⊎ ChangesSlot h g
          → Counted g choices n → Counted h (c ∷ choices) (suc n)
      passes : {h g : Valuation} {c : Choice} {choices : List Choice} {n : ℕ} {out : List ℕ} → Cycle modules top h c g out → c.mask ≢ 2 ^ threads - 1 → (ChangesSlot h g → ⊥)
          → Counted g choices n → Counted h (c ∷ choices) n

    -- ---- journals

    -- some closed cycles of a thread, and an open one where said
    pub record Entry : Type 0 where
      pub thread : ℕ
      pub closed : ℕ
      pub opened : Bool

    abbrev pub times : ℕ → Choice → List Choice
    times zero c = []
    times (suc n) c = c ∷ times n c

    abbrev pub entry_choices : Entry → List Choice
    entry_choices e = times (if e.opened then e.closed + 1 else e.closed) (alone e.thread)

    abbrev pub choices_of : List Entry → List Choice
    choices_of [] = []
    choices_of (e ∷ journal) = entry_choices e ++ choices_of journal

    -- these cycles of thread i lead from h to g: each changes its slot, and none begins where done is shown
    abbrev pub Moves : ℕ → ℕ → ℕ → Valuation → Valuation → Type 0
    Moves need i zero h g = IsSame h g
    Moves need i (suc n) h g =
        (mid : Valuation) × (out : List ℕ) × Needs h (alone i) i need × ShowsDone modules top h (all_enabled threads []) 0 × Cycle modules top h (alone i) mid out ×
        (IsSameSlot i h mid → ⊥) × Moves need i n mid g

    abbrev pub open_cycles : Bool → ℕ
    open_cycles true = 1
    open_cycles false = 0

    -- an entry that leads from h to g: closed cycles, and then perhaps an open one
    pub record IsLegalEntry (h : Valuation) (e : Entry) (g : Valuation) : Type 0 where
      pub thread : e.thread < threads
      pub most : e.closed ≤ 4096
      pub some : 0 < e.closed + open_cycles e.opened
      pub between : Valuation
      pub closed : Moves 0 e.thread e.closed h between
      pub open_ : Moves 1 e.thread (open_cycles e.opened) between g

    abbrev pub IsLegal : Valuation → List Entry → Valuation → Type 0
    IsLegal h [] g = IsSame h g
    IsLegal h (e ∷ journal) g = (mid : Valuation) × IsLegalEntry h e mid × IsLegal mid journal g

    -- after its closed cycles an entry has 4,096 of them, or stands at an open state and opens it exactly where that moves
    pub record IsFullEntry (between : Valuation) (e : Entry) : Type 0 where
      pub stops : (Needs between (alone e.thread) e.thread 0 × (e.closed ≡ 4096)) ⊎ Needs between (alone e.thread) e.thread 1
      pub opens : (g : Valuation) (out : List ℕ) → Needs between (alone e.thread) e.thread 1 → Cycle modules top between (alone e.thread) g out → (IsSameSlot e.thread between g → ⊥) → e.opened ≡ true

    -- a journal whose entries are legal and full leads from h to g
    abbrev pub IsJournal : Valuation → List Entry → Valuation → Type 0
    IsJournal h [] g = IsSame h g
    IsJournal h (e ∷ journal) g = (mid : Valuation) × (legal : IsLegalEntry h e mid) × IsFullEntry legal.between e × IsJournal mid journal g

    -- ---- verdicts

    pub data Verdict : Type 0 where
      Done : Verdict
      Stuck : Verdict
      Entries : Verdict

    -- no cycle of one thread changes anything
    abbrev pub IsStuck : Valuation → Type 0
    IsStuck h = (i : ℕ) (g : Valuation) (out : List ℕ) → i < threads → Cycle modules top h (alone i) g out → IsSame h g

    -- the verdict on a state after e of at most n entries
    abbrev pub HasVerdict : Valuation → ℕ → ℕ → Verdict → Type 0
    HasVerdict h e n Done = ShowsDone modules top h (all_enabled threads []) 1
    HasVerdict h e n Stuck = ShowsDone modules top h (all_enabled threads []) 0 × IsStuck h
    HasVerdict h e n Entries = ShowsDone modules top h (all_enabled threads []) 0 × (IsStuck h → ⊥) × (e ≡ n)
