-- What a reader of Verilog answers: the net that a text spells, or the offset at which it is none that a simulator runs.
use Rattle.std.specs.Prelude.{◌≡◌, ℕ, ◌⊎◌, true, false, List, length, Some, slice_get, codes}
use Rattle.verilog_tree.specs.declared.token.Token.{Token}
use Rattle.verilog_tree.specs.declared.tree.Port.{Port}
use Rattle.verilog_tree.specs.declared.tree.Module.{Module}
use Rattle.verilog_tree.specs.declared.tree.Net.{Net}
use Rattle.verilog_tree.specs.Spelling.{Text}
use Rattle.verilog_tree.specs.Grammar as g
use Rattle.verilog_tree.specs.Reads.{Reads}
use Rattle.verilog_tree.specs.Rules.{has_port}
use Rattle.verilog_tree.specs.WellFormed.{IsWellFormed}
use Rattle.verilog_reader.specs.Top.{top, IsWanted}
use Rattle.verilog_reader.specs.Before.{before_name, before_port, before_item, before}
use Rattle.verilog_rules.specs.Leads.{LeadsTo, IsSyntaxFault}
use Rattle.net_check.specs.declared.fault.ModulePart.{ModulePart}
use Rattle.net_check.specs.declared.fault.ModulePart.TheVariants as part
use Rattle.net_check.specs.declared.fault.NetPart.{NetPart}
use Rattle.net_check.specs.declared.fault.NetPart.TheVariants as net
use Rattle.net_check.specs.Breaks.{Breaks, GoesBefore}

-- the place of the module `top` in a net
pub record IsTopAt (n : Net) (k : ℕ) (m : Module) : Type 0 where
  pub listed : slice_get n.modules k ≡ Some m
  pub named : m.name ≡ top

-- a module that a simulator runs has the ports `clk` and `done`, and none but those it may have
pub record IsRunnable (m : Module) : Type 0 where
  pub clock : has_port m.ports g.clk ≡ true
  pub done : has_port m.ports (codes "done") ≡ true
  pub wanted : (k : ℕ) (p : Port) → slice_get m.ports k ≡ Some p → IsWanted m.ports p

-- a net that a simulator runs: well formed, with a module `top`
pub record IsSimulated (n : Net) : Type 0 where
  pub well_formed : IsWellFormed n
  pub number : ℕ
  pub top : Module
  pub is_top : IsTopAt n number top
  pub runnable : (k : ℕ) (m : Module) → IsTopAt n k m → IsRunnable m

-- the text spells such a net
pub record IsRead (text : Text) (n : Net) : Type 0 where
  pub reads : Reads text n
  pub simulated : IsSimulated n

-- ---- parts of a net that break a rule

-- a part breaks a rule of well-formed nets, or is a port that `top` may not have
pub data IsWrong (n : Net) (p : NetPart) : Type 0 where
  Broken : Breaks n p → IsWrong n p
  Unwanted : (j k : ℕ) (m : Module) (port : Port) → p ≡ net.Module j (part.Port k) → IsTopAt n j m → slice_get m.ports k ≡ Some port → (IsWanted m.ports port → ⊥) → IsWrong n p

-- the first of these in the text
pub record IsFirstWrong (n : Net) (p : NetPart) : Type 0 where
  pub wrong : IsWrong n p
  pub first : (q : NetPart) → GoesBefore q p → IsWrong n q → ⊥

-- what stands in a module before a part of it; its head stands at its name
abbrev pub before_part : ModulePart → Module → List Token
before_part part.Head x = before_name x
before_part (part.Port k) x = before_port k x
before_part (part.Item k) x = before_item k x

-- the part of module number k of the net stands at the offset
pub record StandsAt (text : Text) (n : Net) (k : ℕ) (p : ModulePart) (offset : ℕ) : Type 0 where
  pub of : Module
  pub listed : slice_get n.modules k ≡ Some of
  pub at : LeadsTo text (before n.modules k (before_part p of)) offset

-- no part breaks a rule
abbrev pub NoneWrong : Net → Type 0
NoneWrong n = (p : NetPart) → IsWrong n p → ⊥

-- module number k is a `top` without `clk` or without `done`
pub record LacksPort (n : Net) (k : ℕ) : Type 0 where
  pub top : Module
  pub is_top : IsTopAt n k top
  pub lacks : (has_port top.ports g.clk ≡ false) ⊎ (has_port top.ports (codes "done") ≡ false)

abbrev pub LacksTop : Net → Type 0
LacksTop n = (k : ℕ) (m : Module) → IsTopAt n k m → ⊥

-- ---- where a text is no net that a simulator runs

pub data IsFault (text : Text) (offset : ℕ) : Type 0 where
  -- the first token at which no sentence goes on
  Syntax : IsSyntaxFault text offset → IsFault text offset
  -- the first item, port or module's name that breaks a rule
  Rule : (n : Net) → Reads text n → (k : ℕ) (p : ModulePart) → IsFirstWrong n (net.Module k p) → StandsAt text n k p offset → IsFault text offset
  -- the name of `top`, which has no `clk` or no `done`
  Lacks : (n : Net) → Reads text n → NoneWrong n → (k : ℕ) → LacksPort n k → StandsAt text n k part.Head offset → IsFault text offset
  -- the text's end, where there is no `top`
  Topless : (n : Net) → Reads text n → NoneWrong n → LacksTop n → offset ≡ length text → IsFault text offset
