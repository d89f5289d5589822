-- What `top_rr` does: what `top` does where all threads are enabled and each arbiter prefers the cycle's number modulo 16.
use Rattle.std.specs.Prelude.{◌↔◌, ℕ, ◌≤◌, List, [], ◌∷◌, ◌++◌, length}
use Rattle.netlist.specs.declared.netlist.Module.{Module}
use Rattle.netlist.specs.declared.netlist.Netlist.{Netlist}
use Rattle.verilog_meaning.specs.Cycles.{Valuation, Choice, IsSameIn, Reaches, ShowsDone}
use Rattle.verilog_meaning.specs.Threads.{all_enabled}
use Rattle.verilog_meaning.specs.Follows.{IsDetermined}
use Rattle.sim_layout.specs.Rounds.{round, rounds}
use Rattle.top_parts.specs.declared.layout.Layout.{Layout}
use Rattle.top_wiring.specs.Ports.{threads, cores}
use Rattle.top_wiring.specs.Leaves.{SettlesOnce}
use Rattle.top_wiring.specs.Wired.{IsWired}

-- the state of instance 0 of the outermost module, and of all that stands in it
abbrev pub held : Valuation → Valuation
held h path = h (path ++ 0 ∷ [])

module _ (modules : List Module) (outermost : Module) where
  -- from the initial state, cycles under these choices write these bytes
  abbrev pub Writes : List Choice → List ℕ → Type 0
  Writes choices out = (h : Valuation) × Reaches modules outermost choices h out

  -- and done has then this number under one more choice
  abbrev pub Ends : List Choice → Choice → List ℕ → ℕ → Type 0
  Ends choices last out b = (h : Valuation) × Reaches modules outermost choices h out × ShowsDone modules outermost h last b

-- two outermost modules: the one has an instance of the other, of so many threads, with so many arbiters at most
module _ (modules : List Module) (wrapper top : Module) (threads prefs : ℕ) where
  -- n cycles of the wrapper, under any n choices since it has no input but the clock, and n cycles of top
  pub record AreRunsOf : Type 0 where
    pub inwards : (choices : List Choice) (h : Valuation) (out : List ℕ) → Reaches modules wrapper choices h out
        → Reaches modules top (rounds threads prefs (length choices)) (held h) out
    pub outwards : (choices : List Choice) (g : Valuation) (out : List ℕ) → Reaches modules top (rounds threads prefs (length choices)) g out
        → (h : Valuation) × Reaches modules wrapper choices h out × IsSameIn modules top [] (held h) g
    -- done is shown by the one where by the other
    pub shows : (choices : List Choice) (h : Valuation) (out : List ℕ) → Reaches modules wrapper choices h out
        → (c : Choice) (b : ℕ) → ShowsDone modules wrapper h c b ↔ ShowsDone modules top (held h) (round threads prefs (length choices)) b

  -- the same of what is seen: the bytes after n cycles, and done
  pub record AreWritesOf : Type 0 where
    pub writes : (choices : List Choice) (out : List ℕ) → Writes modules wrapper choices out ↔ Writes modules top (rounds threads prefs (length choices)) out
    pub ends : (choices : List Choice) (last : Choice) (out : List ℕ) (b : ℕ)
        → Ends modules wrapper choices last out b ↔ Ends modules top (rounds threads prefs (length choices)) (round threads prefs (length choices)) out b

  -- and with done where each arbiter prefers thread 0
  abbrev pub AreEndsOf : Type 0
  AreEndsOf =
      (choices : List Choice) (last : Choice) (out : List ℕ) (b : ℕ)
      → Ends modules wrapper choices last out b ↔ Ends modules top (rounds threads prefs (length choices)) (all_enabled threads []) out b

-- P of top_rr and top in each net that is wired, of so many threads, with a pref for each core or more
abbrev pub InEachNet : (List Module → Module → Module → ℕ → ℕ → Type 0) → Type 0
InEachNet P =
    (layout : Layout) (modules : List Module) (n : Netlist) (w : IsWired modules layout n) (prefs : ℕ) → cores layout ≤ prefs
    → P n.modules w.round w.top (threads layout) prefs

-- RUNS OF TOP_RR ARE RUNS OF TOP under the choices of the rounds, and the other way round
abbrev pub RunsAsTop : Type 0
RunsAsTop = InEachNet AreRunsOf

-- TOP_RR WRITES AND SHOWS WHAT TOP DOES
abbrev pub WritesAsTop : Type 0
WritesAsTop = InEachNet AreWritesOf

-- TOP_RR IS DONE WHERE TOP IS: where each state has exactly one settled valuation for each choice, with one value of done
abbrev pub EndsAsTop : Type 0
EndsAsTop =
    InEachNet (λ modules wrapper top threads prefs. SettlesOnce modules top threads → IsDetermined modules top threads → AreEndsOf modules wrapper top threads prefs)
