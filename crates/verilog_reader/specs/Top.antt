-- The ports that the module `top` of a net may have for a simulator to run it.
use Rattle.std.specs.Prelude.{◌≡◌, ℕ, ◌<◌, ◌≤◌, true, List, codes}
use Rattle.verilog_tree.specs.declared.tree.Direction.TheVariants as dir
use Rattle.verilog_tree.specs.declared.tree.Port.{Port}
use Rattle.verilog_tree.specs.Grammar.{clk}
use Rattle.verilog_tree.specs.Scope.{Name, width_of}
use Rattle.verilog_tree.specs.Rules.{has_port}
use Rattle.verilog_meaning.specs.Names.{numbered}

abbrev pub pref : ℕ → Name
pref = numbered (codes "pref")

pub record IsDone (p : Port) : Type 0 where
  pub name : p.name ≡ codes "done"
  pub way : p.direction ≡ dir.Output
  pub bit : width_of p.high ≡ 1

pub record IsEnable (p : Port) : Type 0 where
  pub name : p.name ≡ codes "en"
  pub way : p.direction ≡ dir.Input

-- an input `pref_k` of 4 bits or more, where `pref_0` up to `pref_(k-1)` are ports too
pub record IsPref (ports : List Port) (p : Port) : Type 0 where
  pub number : ℕ
  pub name : p.name ≡ pref number
  pub way : p.direction ≡ dir.Input
  pub wide : 4 ≤ width_of p.high
  pub gapless : (k : ℕ) → k < number → has_port ports (pref k) ≡ true

-- a port that `top` may have, by all of its ports; of `clk` a rule of well-formed nets says that it is an input of one bit
pub data IsWanted (ports : List Port) (p : Port) : Type 0 where
  Clock : p.name ≡ clk → IsWanted ports p
  Done : IsDone p → IsWanted ports p
  Enable : IsEnable p → IsWanted ports p
  Pref : IsPref ports p → IsWanted ports p

abbrev pub top : Name
top = codes "top"
