-- What gives the inputs of the outermost module their numbers.
use Rattle.std.specs.Prelude.{◌≡◌, ℕ, ◌+◌, ◌^◌, ◌<◌, true, false, List, [], ◌∷◌, ◌++◌, Option, Some, None, slice_get, codes}
use Rattle.std.specs.Str.{bytes_eq}
use Rattle.netlist.specs.declared.netlist.Source.{Source}
use Rattle.netlist.specs.declared.netlist.Source.TheVariants.{Input, Register, Assigned, Port}
use Rattle.netlist.specs.declared.netlist.Signal.{Signal}
use Rattle.netlist.specs.declared.netlist.Module.{Module}
use Rattle.verilog_meaning.specs.Names.{numbered}
use Rattle.sim_values.specs.declared.settle.Feed.{Feed}
use Rattle.sim_values.specs.declared.settle.Step.{Step}
use Rattle.sim_values.specs.Order.{Takes, reads}
use Rattle.sim_values.specs.Stands.{IsGiven, step}

abbrev pub is_pref : List ℕ → ℕ → Type 0
is_pref name k = bytes_eq name (numbered (codes "pref") k) ≡ true

-- where this is a name pref_k, its number
abbrev pub TellsPref : List ℕ → Option ℕ → Type 0
TellsPref name found = (k : ℕ) → k < 2 ^ 64 → is_pref name k → found ≡ Some k

-- the first of so many numbers k for which this is the name pref_k
abbrev pub IsPrefOf : List ℕ → ℕ → Option ℕ → Type 0
IsPrefOf name most None = (k : ℕ) → k < most → bytes_eq name (numbered (codes "pref") k) ≡ false
IsPrefOf name most (Some j) = is_pref name j × ((k : ℕ) → k < j → bytes_eq name (numbered (codes "pref") k) ≡ false)

-- a feed gives what each choice of at most so many prefs gives the input of a name
pub record IsInput (most : ℕ) (name : List ℕ) (feed : Feed) : Type 0 where
  pub always : (modules : List Module) → IsGiven modules most name feed
  pub plain : (modules : List Module) → reads modules feed ≡ []

-- a step gives the word at a place what a choice gives the input of a name
pub record IsRooted (wires : List Step) (place most : ℕ) (name : List ℕ) : Type 0 where
  pub feed : Feed
  pub takes : Takes wires (step place feed)
  pub given : IsInput most name feed

abbrev pub AreRooted : List Step → ℕ → ℕ → List Signal → Type 0
AreRooted wires base most signals = (x : ℕ) (s : Signal) → slice_get signals x ≡ Some s → s.source ≡ Input → IsRooted wires (base + x) most s.name

-- a step that gives an input of the outermost module what a choice gives it
pub record IsRoot (base most : ℕ) (signals : List Signal) (s : Step) : Type 0 where
  pub number : ℕ
  pub signal : Signal
  pub listed : slice_get signals number ≡ Some signal
  pub input : signal.source ≡ Input
  pub target : s.target ≡ base + number
  pub given : IsInput most signal.name s.feed

abbrev pub AreRoots : ℕ → ℕ → List Signal → List Step → Type 0
AreRoots base most signals steps = (k : ℕ) (s : Step) → slice_get steps k ≡ Some s → IsRoot base most signals s

-- one step more, which gives the word at a place what a choice gives the input of a name
abbrev pub IsGivenOne : ℕ → ℕ → List ℕ → List Step → List Step → Type 0
IsGivenOne place most name old new = (feed : Feed) × IsInput most name feed × (new ≡ old ++ step place feed ∷ [])

-- the same for an input; other signals need none
abbrev pub IsGivenFor : ℕ → ℕ → List ℕ → Source → List Step → List Step → Type 0
IsGivenFor place most name Input old new = IsGivenOne place most name old new
IsGivenFor place most name (Register n) old new = new ≡ old
IsGivenFor place most name (Assigned v) old new = new ≡ old
IsGivenFor place most name (Port i port) old new = new ≡ old
