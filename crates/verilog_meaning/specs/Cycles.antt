-- Settled valuations, cycles and runs of a netlist.
use Rattle.std.specs.Prelude.{◌≡◌, ℕ, ◌+◌, ◌^◌, ◌<◌, ◌⊎◌, List, [], ◌∷◌, ◌++◌, length, Option, Some, None, option_and_then, slice_get, codes, true, if◌then◌else◌}
use Rattle.std.specs.Str.{bytes_eq}
use Rattle.netlist.specs.declared.netlist.Signal.{Signal}
use Rattle.netlist.specs.declared.netlist.Source.{Source}
use Rattle.netlist.specs.declared.netlist.Source.TheVariants.{Input, Register, Assigned, Port}
use Rattle.netlist.specs.declared.netlist.Memory.{Memory}
use Rattle.netlist.specs.declared.netlist.Instance.{Instance}
use Rattle.netlist.specs.declared.netlist.Module.{Module}
use Rattle.verilog_meaning.specs.Readings.{Reading, value, next_reading, written, initial_reading, or_zero}
use Rattle.verilog_meaning.specs.Names.{numbered, IsSignal}

-- an instance by its number in the instance round it, and so on outwards; the outermost module is []
abbrev pub Path : Type 0
Path = List ℕ

-- a number for every signal and every memory word of the net; a state is one of which registers and words count
abbrev pub Valuation : Type 0
Valuation = Path → Reading

-- which threads are enabled, and the preferred thread of each arbiter
pub record Choice : Type 0 where
  pub mask : ℕ
  pub prefs : List ℕ

-- what a choice gives an input of the outermost module, by its name; clk is 0
abbrev pub pref_number : List ℕ → List ℕ → ℕ → ℕ
pref_number name [] k = 0
pref_number name (p ∷ prefs) k = if bytes_eq name (numbered (codes "pref") k) then p else pref_number name prefs (k + 1)

abbrev pub choice_number : Choice → List ℕ → ℕ
choice_number c name = if bytes_eq name (codes "en") then c.mask else pref_number name c.prefs 0

-- what gives an input of the outermost module its number, by its name
abbrev pub Given : Type 0
Given = List ℕ → ℕ

abbrev pub IsRegister : Source → Type 0
IsRegister (Register n) = Unit {0}
IsRegister _ = ⊥

module _ (modules : List Module) (top : Module) where
  -- the module of the instance at a path
  abbrev pub module_at : Path → Option Module
  module_at [] = Some top
  module_at (i ∷ outer) = option_and_then (λ (m : Module). option_and_then (λ (n : Instance). slice_get modules n.of) (slice_get m.instances i)) (module_at outer)

  abbrev pub instance_at : Path → ℕ → Option Instance
  instance_at outer i = option_and_then (λ (m : Module). slice_get m.instances i) (module_at outer)

  abbrev pub connected : Option Instance → ℕ → ℕ
  connected None x = 0
  connected (Some n) x = or_zero (slice_get n.inputs x)

  -- signal x of the instance at a path
  pub record IsAt (path : Path) (m : Module) (x : ℕ) (s : Signal) : Type 0 where
    pub stands : module_at path ≡ Some m
    pub listed : slice_get m.signals x ≡ Some s

  -- memory j of the instance at a path
  pub record HasMemory (path : Path) (m : Module) (j : ℕ) (s : Memory) : Type 0 where
    pub stands : module_at path ≡ Some m
    pub listed : slice_get m.memories j ≡ Some s

  -- ---- settled

  -- the number that an input has: outermost the one that is given, else that of the signal which it is connected to
  abbrev pub input_given : Given → Valuation → Path → ℕ → Signal → ℕ
  input_given f v [] x s = f s.name
  input_given f v (i ∷ outer) x s = (v outer).signal (connected (instance_at outer i) x)

  abbrev pub input_number : Choice → Valuation → Path → ℕ → Signal → ℕ
  input_number c = input_given (choice_number c)

  -- the number that a signal's source gives it
  abbrev pub number_given : Valuation → Given → Valuation → Path → Module → ℕ → Signal → Source → ℕ
  number_given h f v path m x s Input = input_given f v path x s
  number_given h f v path m x s (Register n) = (h path).signal x
  number_given h f v path m x s (Assigned right) = value m (v path) right
  number_given h f v path m x s (Port i port) = (v (i ∷ path)).signal port

  abbrev pub number : Valuation → Choice → Valuation → Path → Module → ℕ → Signal → Source → ℕ
  number h c = number_given h (choice_number c)

  -- every signal has the number that its source gives it, below 2 to its width, and every word that of the state
  pub record IsSettledGiven (h : Valuation) (f : Given) (v : Valuation) : Type 0 where
    pub signals : (path : Path) (m : Module) (x : ℕ) (s : Signal) → IsAt path m x s → (v path).signal x ≡ number_given h f v path m x s s.source
    pub within : (path : Path) (m : Module) (x : ℕ) (s : Signal) → IsAt path m x s → (v path).signal x < 2 ^ s.width
    pub words : (path : Path) (j k : ℕ) → (v path).word j k ≡ (h path).word j k

  abbrev pub IsSettled : Valuation → Choice → Valuation → Type 0
  IsSettled h c v = IsSettledGiven h (choice_number c) v

  -- the numbers of registers and memory words fit
  pub record IsState (h : Valuation) : Type 0 where
    pub registers : (path : Path) (m : Module) (x : ℕ) (s : Signal) → IsAt path m x s → IsRegister s.source → (h path).signal x < 2 ^ s.width
    pub words : (path : Path) (m : Module) (j k : ℕ) (s : Memory) → HasMemory path m j s → k < length s.initial → (h path).word j k < 2 ^ s.width

  -- two states are the same in the instance at a path and in all that stand in it
  pub record IsSameIn (outer : Path) (h g : Valuation) : Type 0 where
    pub registers : (path : Path) (m : Module) (x : ℕ) (s : Signal) → IsAt (path ++ outer) m x s → IsRegister s.source → (h (path ++ outer)).signal x ≡ (g (path ++ outer)).signal x
    pub words : (path : Path) (m : Module) (j k : ℕ) (s : Memory) → HasMemory (path ++ outer) m j s → k < length s.initial → (h (path ++ outer)).word j k ≡ (g (path ++ outer)).word j k

  -- two states are the same in the instance at exactly this path
  pub record IsSameAt (path : Path) (h g : Valuation) : Type 0 where
    pub registers : (m : Module) (x : ℕ) (s : Signal) → IsAt path m x s → IsRegister s.source → (h path).signal x ≡ (g path).signal x
    pub words : (m : Module) (j k : ℕ) (s : Memory) → HasMemory path m j s → k < length s.initial → (h path).word j k ≡ (g path).word j k

  -- ---- cycles

  abbrev pub next_at : Option Module → Reading → Reading
  next_at None r = r
  next_at (Some m) r = next_reading m r

  abbrev pub next_state : Valuation → Valuation
  next_state v path = next_at (module_at path) (v path)

  abbrev pub written_at : Valuation → Path → Option Module → List ℕ
  written_at v path None = []
  written_at v path (Some m) = written m (v path)

  -- what is written is written by one instance: at most one module has a $write, and it has one instance
  pub record IsWritten (v : Valuation) (out : List ℕ) : Type 0 where
    pub each : (path : Path) → (written_at v path (module_at path) ≡ []) ⊎ (written_at v path (module_at path) ≡ out)
    pub one : (out ≡ []) ⊎ ((path : Path) × (written_at v path (module_at path) ≡ out))

  -- a cycle under these inputs leads from h to g and writes out
  pub record CycleGiven (h : Valuation) (f : Given) (g : Valuation) (out : List ℕ) : Type 0 where
    pub through : Valuation
    pub settled : IsSettledGiven h f through
    pub next : IsSameIn [] (next_state through) g
    pub written : IsWritten through out

  -- and under c
  abbrev pub Cycle : Valuation → Choice → Valuation → List ℕ → Type 0
  Cycle h c g out = CycleGiven h (choice_number c) g out

  -- ---- runs

  abbrev pub initial_state : Valuation
  initial_state path = initial_reading (module_at path)

  -- cycles under these choices lead from h to g and write out
  abbrev pub Runs : Valuation → List Choice → Valuation → List ℕ → Type 0
  Runs h [] g out = IsSameIn [] h g × (out ≡ [])
  Runs h (c ∷ choices) g out =
      (mid : Valuation) × (first : List ℕ) × (rest : List ℕ) × Cycle h c mid first × Runs mid choices g rest × (out ≡ first ++ rest)

  -- these choices lead from the initial constants to h, and out was written on the way
  abbrev pub Reaches : List Choice → Valuation → List ℕ → Type 0
  Reaches choices h out = Runs initial_state choices h out

  -- the output done, of one bit, has this number in h under c
  pub record ShowsDone (h : Valuation) (c : Choice) (b : ℕ) : Type 0 where
    pub place : ℕ
    pub signal : Signal
    pub is : IsSignal top (codes "done") place signal
    pub out : signal.is_output ≡ true
    pub bit : signal.width ≡ 1
    pub through : Valuation
    pub settled : IsSettled h c through
    pub number : (through []).signal place ≡ b
