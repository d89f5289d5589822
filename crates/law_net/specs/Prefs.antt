-- The prefs of a net of threads by their count.
use Rattle.std.specs.Prelude.{◌≡◌, ℕ, ◌^◌, ◌≤◌, List, Some}
use Rattle.netlist.specs.declared.netlist.Module.{Module}
use Rattle.netlist.specs.Laid.{AreApart, signal_names}
use Rattle.verilog_meaning.specs.Names.{top_of}
use Rattle.verilog_meaning.specs.Ports.{HasPorts}
use Rattle.sim_layout.specs.Rounds.{prefs_of}

-- PREFS ARE COUNTED: in a net with the ports of a net of threads, whose signals have names apart, the simulator counts as many inputs as
-- there are arbiters, so that they are pref_0, pref_1 and so on. Names tell 2 ^ 64 prefs apart
abbrev pub PrefsAreCounted : Type 0
PrefsAreCounted =
    (modules : List Module) (top : Module) (threads : ℕ) → top_of modules ≡ Some top → AreApart (signal_names top) → (ports : HasPorts top threads) → ports.arbiters ≤ 2 ^ 64
    → prefs_of modules ≡ ports.arbiters
