-- The ports of the outermost module of a net of threads.
use Rattle.std.specs.Prelude.{◌≡◌, ℕ, ◌<◌, ◌⊎◌, true, List, Some, slice_get, codes}
use Rattle.netlist.specs.declared.netlist.Signal.{Signal}
use Rattle.netlist.specs.declared.netlist.Source.TheVariants.{Input}
use Rattle.netlist.specs.declared.netlist.Module.{Module}
use Rattle.verilog_meaning.specs.Names.{numbered, IsSignal}

-- a module has the output done, of one bit
pub record HasDone (m : Module) : Type 0 where
  pub place : ℕ
  pub signal : Signal
  pub is : IsSignal m (codes "done") place signal
  pub out : signal.is_output ≡ true
  pub bit : signal.width ≡ 1

-- a module takes an input of this name and width
pub record TakesInput (m : Module) (name : List ℕ) (width : ℕ) : Type 0 where
  pub place : ℕ
  pub signal : Signal
  pub is : IsSignal m name place signal
  pub input : signal.source ≡ Input
  pub wide : signal.width ≡ width

-- the ports: the clock, an enable bit for each thread, done, a preferred thread of 6 bits for each arbiter, and no other
pub record HasPorts (top : Module) (threads : ℕ) : Type 0 where
  pub clock : TakesInput top (codes "clk") 1
  pub enable : TakesInput top (codes "en") threads
  pub done : HasDone top
  pub arbiters : ℕ
  pub prefs : (k : ℕ) → k < arbiters → TakesInput top (numbered (codes "pref") k) 6
  pub only : (x : ℕ) (s : Signal) → slice_get top.signals x ≡ Some s → (s.source ≡ Input) ⊎ (s.is_output ≡ true) →
      (s.name ≡ codes "clk") ⊎ ((s.name ≡ codes "en") ⊎ ((s.name ≡ codes "done") ⊎ ((k : ℕ) × (k < arbiters) × (s.name ≡ numbered (codes "pref") k))))
