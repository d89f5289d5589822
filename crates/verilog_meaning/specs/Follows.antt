-- What it is that a net follows a program of threads: under every list of choices one interleaving has printed what the
-- net has printed, is ended where done is shown, has its globals, and has taken steps by a count of cycles.
use Rattle.std.specs.Prelude.{◌≡◌, ◌↔◌, ℕ, suc, ◌+◌, ◌/◌, ◌%◌, ◌≤◌, ◌<◌, ◌⊎◌, List, length, take, All, Some, slice_get, codes, decimal, [], ◌∷◌, ◌++◌}
use Rattle.netlist.specs.declared.netlist.Signal.{Signal}
use Rattle.netlist.specs.declared.netlist.Memory.{Memory}
use Rattle.netlist.specs.declared.netlist.Instance.{Instance}
use Rattle.netlist.specs.declared.netlist.Module.{Module}
use Rattle.verilog_meaning.specs.Names.{IsMinimal, with_digits, IsInstance, IsMemory}
use Rattle.verilog_meaning.specs.Cycles.{Valuation, Choice, module_at, IsAt, IsState, IsSettled, Cycle, Reaches, ShowsDone, initial_state}
use Rattle.verilog_meaning.specs.Threads.{ChangesSlot, all_enabled, IsChoice, Counted}

-- ---- the globals of a program in a net

-- the bank of a global whose number has these digits: an instance u_x_digits of top, with a memory bank_x_digits
pub record BankOf (modules : List Module) (top : Module) (x digits : List ℕ) : Type 0 where
  pub place : ℕ
  pub instance : Instance
  pub is : IsInstance top (with_digits (codes "u_" ++ x) digits) place instance
  pub kind : Module
  pub stands : module_at modules top (place ∷ []) ≡ Some kind
  pub number : ℕ
  pub memory : Memory
  pub has : IsMemory kind (with_digits (codes "bank_" ++ x) digits) number memory

-- that of number k
abbrev pub Bank : List Module → Module → List ℕ → ℕ → Type 0
Bank modules top x k = BankOf modules top x (decimal k)

-- a global has so many banks: those whose numbers have these digits, each once
pub record HasBanks (modules : List Module) (top : Module) (x : List ℕ) (banks : ℕ) : Type 0 where
  pub numbers : List (List ℕ)
  pub once : (a b : ℕ) (digits : List ℕ) → slice_get numbers a ≡ Some digits → slice_get numbers b ≡ Some digits → a ≡ b
  pub listed : (digits : List ℕ) → IsMinimal digits → BankOf modules top x digits → (a : ℕ) × (slice_get numbers a ≡ Some digits)
  pub are : (a : ℕ) (digits : List ℕ) → slice_get numbers a ≡ Some digits → IsMinimal digits × BankOf modules top x digits
  pub count : length numbers ≡ banks

-- where element j of the global x stands: word j / K of bank j mod K, where there are K of them
pub record IsElement (modules : List Module) (top : Module) (x : List ℕ) (j : ℕ) : Type 0 where
  pub banks : ℕ
  pub has : HasBanks modules top x banks
  pub some : 0 < banks
  pub bank : Bank modules top x (j % banks)
  pub inside : j / banks < length bank.memory.initial

-- in h the element is this word, in a memory of this width
pub record HasWord (modules : List Module) (top : Module) (h : Valuation) (x : List ℕ) (j width word : ℕ) : Type 0 where
  pub element : IsElement modules top x j
  pub wide : element.bank.memory.width ≡ width
  pub holds : (h (element.bank.place ∷ [])).word element.bank.number (j / element.banks) ≡ word

-- ---- following

-- what is seen of a program of threads: where lists of thread numbers lead, what was printed, whether all is over, whether
-- every live thread is blocked, and the words of its globals
pub record Program (State : Type 0) : Type 1 where
  pub After : List ℕ → State → Type 0
  pub output : State → List ℕ
  pub IsEnded : State → Type 0
  pub IsDeadlocked : State → Type 0
  -- element j of the global x, of a type of this width, has these bits
  pub Holds : State → List ℕ → ℕ → ℕ → ℕ → Type 0
  -- the most slot changes between two steps
  pub bound : ℕ

module _ (modules : List Module) (top : Module) (threads : ℕ) {State : Type 0} (P : Program State) where
  -- every choice of all threads would change a slot
  abbrev pub Lively : Valuation → Type 0
  Lively h = (prefs : List ℕ) (g : Valuation) (out : List ℕ) → All (λ p. p < 64) prefs → Cycle modules top h (all_enabled threads prefs) g out → ChangesSlot modules top threads h g

  -- after these choices the net, in h with out written, is where these steps lead
  pub record Matches (choices : List Choice) (h : Valuation) (out : List ℕ) (steps : List ℕ) : Type 0 where
    pub state : State
    pub after : P.After steps state
    pub printed : out ≡ P.output state
    pub done : ShowsDone modules top h (all_enabled threads []) 1 ↔ P.IsEnded state
    pub globals : P.IsEnded state → (x : List ℕ) (j width word : ℕ) → P.Holds state x j width word → HasWord modules top h x j width word
    pub progress : P.IsEnded state ⊎ (P.IsDeadlocked state ⊎ (Lively h × ((m : ℕ) → Counted modules top threads (initial_state modules top) choices m → m / P.bound ≤ length steps + threads)))

  -- one interleaving, of which each moment of the run has a beginning that matches it
  pub record Follows (choices : List Choice) : Type 0 where
    pub interleaving : List ℕ
    pub steps : ℕ → ℕ
    pub rises : (n : ℕ) → steps n ≤ steps (suc n)
    pub rests : (n : ℕ) (c : Choice) (h g : Valuation) (out written : List ℕ) → slice_get choices n ≡ Some c → Reaches modules top (take n choices) h out → Cycle modules top h c g written
        → (ChangesSlot modules top threads h g → ⊥) → steps (suc n) ≡ steps n
    pub matches : (n : ℕ) (h : Valuation) (out : List ℕ) → n ≤ length choices → Reaches modules top (take n choices) h out → Matches (take n choices) h out (take (steps n) interleaving)

  abbrev pub FollowsAlways : Type 0
  FollowsAlways = (choices : List Choice) → All (IsChoice threads) choices → Follows choices

-- ---- determined nets

-- every state has exactly one settled valuation for each choice, with one value of done
pub record IsDetermined (modules : List Module) (top : Module) (threads : ℕ) : Type 0 where
  pub exists : (h : Valuation) (c : Choice) → IsState modules top h → IsChoice threads c → (v : Valuation) × IsSettled modules top h c v
  pub unique : (h : Valuation) (c : Choice) (v w : Valuation) → IsSettled modules top h c v → IsSettled modules top h c w → (path : List ℕ) (m : Module) (x : ℕ) (s : Signal)
      → IsAt modules top path m x s → (v path).signal x ≡ (w path).signal x
  pub done : (h : Valuation) (c d : Choice) (a b : ℕ) → ShowsDone modules top h c a → ShowsDone modules top h d b → a ≡ b
