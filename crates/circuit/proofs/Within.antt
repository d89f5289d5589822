-- In a net whose widths fit, numbers that meet the equations stay below 2 to each signal's width.
use Rattle.std.proofs.Common.{◌≡◌, ℕ, zero, suc, ◌^◌, ◌<◌, ◌≤◌, List, [], ◌∷◌, length, Some, slice_get, refl, sym, subst, arith}
use Rattle.netlist.specs.declared.netlist.Source.{Source}
use Rattle.netlist.specs.declared.netlist.Source.TheVariants.{Input, Register, Assigned, Port}
use Rattle.netlist.specs.declared.netlist.Signal.{Signal}
use Rattle.netlist.specs.declared.netlist.Memory.{Memory}
use Rattle.netlist.specs.declared.netlist.Module.{Module}
use Rattle.verilog_meaning.specs.Cycles.{Path, Valuation, Given, choice_number, module_at, instance_at, connected, number_given, IsAt, IsSettledGiven, IsState, IsRegister}
use Rattle.verilog_meaning.specs.Threads.{Place, Names}
use Rattle.verilog_meaning.proofs.OneSettled.{IsDeclared, IsLevelled, seen, solved, solved-signals}
use Rattle.circuit.specs.Modules.{Has}
use Rattle.circuit.specs.Nets.{FitsSource, FitsNet, FitsGiven, HasSettledGiven, HasSettled}
use Rattle.circuit.proofs.Tables.{fits_among}
use Rattle.circuit.proofs.Widths.{Fitting, value_below}

module _ (modules : List Module) (top : Module) (level : Path → ℕ
    → ℕ) (levelled : IsLevelled modules top level) (fits : FitsNet modules top) (h : Valuation) (given : Given) (state : IsState modules top h) (choice : FitsGiven modules top given)
    (v : Valuation) (signals : (path : Path) (m : Module) (x : ℕ) (s : Signal) → IsAt modules top path m x s
    → (v path).signal x ≡ number_given modules top h given v path m x s s.source) (words : (path : Path) (j k : ℕ) → (v path).word j k ≡ (h path).word j k) where
  -- all signals of a level below n
  abbrev Below : ℕ → Type 0
  Below n = (path : Path) (m : Module) (x : ℕ) (s : Signal) → IsAt modules top path m x s → level path x < n → (v path).signal x < 2 ^ s.width

  has_below : (n : ℕ) → Below n → (path : Path) (m : Module) → module_at modules top path ≡ Some m → (y w : ℕ) → Has m y w → level path y < n → (v path).signal y < 2 ^ w
  has_below n b path m stands y w has l = subst (λ k. (v path).signal y < 2 ^ k) has.wide (b path m y has.signal (record { stands = stands; listed = has.listed }) l)

  words_below : (path : Path) (m : Module) → module_at modules top path ≡ Some m → (j k : ℕ) (s : Memory) → slice_get m.memories j ≡ Some s → k < length s.initial → (v path).word j k < 2 ^ s.width
  words_below path m stands j k s e l = rw (words path j k) (state.words path m j k s (record { stands = stands; listed = e }) l)

  source_below : (n : ℕ) → Below n → (path : Path) (m : Module) (x : ℕ) (s : Signal) → IsAt modules top path m x s → level path x ≤ n → (source : Source) → s.source ≡ source
      → ((q : Place) → Names modules top path x source q → IsDeclared modules top q × (level q.0 q.1 < level path x)) → FitsSource modules top path m x s.width source
      → number_given modules top h given v path m x s source < 2 ^ s.width
  source_below n b path m x s at l (Register k) e names f = state.registers path m x s at (subst IsRegister (sym e) tt)
  source_below n b path m x s at l (Assigned right) e names f =
      value_below m (v path) (words_below path m at.stands) s.width right
      (fits_among (Has m) (Fitting m (v path)) (λ j. slice_get m.memories j) s.width right
      (λ y u i has. record { has = has; below = has_below n b path m at.stands y u has (let k = (names (path, y) (refl, i)).1 in omega arith) }) f)
  source_below n b path m x s at l (Port i port) e names f =
      has_below n b (i ∷ path) f.0 f.1 port s.width f.2 (let k = (names (i ∷ path, port) (refl, refl)).1 in omega arith)
  source_below n b [] m x s at l Input e names f = choice m x s at e
  source_below n b (i ∷ outer) m x s at l Input e names f =
      has_below n b outer f.0 f.1 (connected modules top (instance_at modules top outer i) x) s.width f.2
      (let k = (names (outer, connected modules top (instance_at modules top outer i) x) (refl, refl)).1 in omega arith)

  all_below : (n : ℕ) → Below n
  all_below zero path m x s at l = absurd (omega arith)
  all_below (suc n) path m x s at l =
      rw (signals path m x s at)
      (source_below n (all_below n) path m x s at (omega arith) s.source refl (levelled path m x s at) (fits path m x s at))

  pub within : (path : Path) (m : Module) (x : ℕ) (s : Signal) → IsAt modules top path m x s → (v path).signal x < 2 ^ s.width
  within path m x s at = all_below (suc (level path x)) path m x s at (omega arith)

  pub settled : IsSettledGiven modules top h given v
  settled = record { signals = signals; within = within; words = words }

pub has_settled_given : HasSettledGiven
has_settled_given modules top level levelled fits h given state choice =
    let v = seen modules top h given level levelled (solved modules top h given level levelled) in
    (v, settled modules top level levelled fits h given state choice v (solved-signals modules top h given level levelled) (λ path j k. refl))

pub has_settled : HasSettled
has_settled modules top level levelled fits h c state choice = has_settled_given modules top level levelled fits h (choice_number c) state choice
