-- What the functions of the reader say of a net whose tokens are the text's.
use Rattle.std.specs.Prelude.{◌≡◌, ℕ, Bool, true, false, not, ◌==◌, ◌&&◌, ◌||◌, nat_lt, if◌then◌else◌}
use Rattle.std.specs.Prelude.{◌⊎◌, List, length, Option, Some, None, Result, Ok, Err, unwrap_or, slice_get}
use Rattle.std.specs.Str.{bytes_eq}
use Rattle.verilog_tree.specs.declared.tree.Module.{Module}
use Rattle.verilog_tree.specs.declared.tree.Net.{Net}
use Rattle.verilog_tree.specs.Spelling.{Text}
use Rattle.verilog_tree.specs.WellFormed.{IsWellFormed}
use Rattle.net_check.specs.declared.fault.ModulePart.{ModulePart}
use Rattle.net_check.specs.declared.fault.ModulePart.TheVariants as part
use Rattle.net_check.specs.declared.fault.NetPart.{NetPart}
use Rattle.net_check.specs.declared.fault.NetPart.TheVariants as net
use Rattle.net_check.specs.Breaks.{IsFirstBroken}
use Rattle.verilog_reader.specs.Top.{top}
use Rattle.verilog_reader.specs.Ports.{has_ports}
use Rattle.verilog_reader.specs.Before.{before}
use Rattle.verilog_lexer.specs.declared.tokens.Lexed.{Lexed}
use Rattle.verilog_reader.specs.declared.read.ReadError.{ReadError}
use Rattle.verilog_reader.specs.declared.read.ReadError.TheVariants as error
use Rattle.verilog_reader.specs.declared.read.Place.{Place}
use Rattle.verilog_reader.specs.declared.read.Place.TheVariants as place
use Rattle.verilog_reader.specs.Faults.{IsSimulated, IsFirstWrong, NoneWrong, LacksPort, LacksTop, before_part, IsFault}

-- a port stands before the part of the same module
abbrev pub port_before : ℕ → ModulePart → Bool
port_before port part.Head = false
port_before port (part.Port k) = nat_lt port k
port_before port (part.Item k) = true

-- port number at.1 of module number at.0 stands before the part of module number k
abbrev pub stands_before : ℕ × ℕ → ℕ → ModulePart → Bool
stands_before at k p = nat_lt at.0 k || (at.0 == k && port_before at.1 p)

-- the first part that breaks a rule of well-formed nets
abbrev pub IsBroken : Net → Option NetPart → Type 0
IsBroken n None = IsWellFormed n
IsBroken n (Some p) = IsFirstBroken n p

-- the earlier of the first part that breaks a rule of well-formed nets and the first port that `top` may not have
abbrev pub or_unwanted : ℕ → ModulePart → Option (ℕ × ℕ) → Place
or_unwanted k p None = place.Part k p
or_unwanted k p (Some at) = if stands_before at k p then place.Part at.0 (part.Port at.1) else place.Part k p

abbrev pub earlier : NetPart → Option (ℕ × ℕ) → Place
earlier net.Modules unwanted = place.End
earlier (net.Module k p) unwanted = or_unwanted k p unwanted

-- a module `top` without `clk` or without `done`
abbrev pub lacks_port : Module → Bool
lacks_port m = bytes_eq m.name top && not (has_ports m)

-- the first of them
abbrev pub IsFirstLacking : List Module → Option ℕ → Type 0
IsFirstLacking modules None = (j : ℕ) (m : Module) → slice_get modules j ≡ Some m → lacks_port m ≡ false
IsFirstLacking modules (Some k) = (m : Module) × (slice_get modules k ≡ Some m) × (lacks_port m ≡ true)

abbrev pub HasTop : List Module → Type 0
HasTop modules = (k : ℕ) × (m : Module) × (slice_get modules k ≡ Some m) × (bytes_eq m.name top ≡ true)

-- where a net in which no part breaks a rule is none that a simulator runs, by its modules
abbrev pub IsLacking : List Module → Option Place → Type 0
IsLacking modules None = HasTop modules × IsFirstLacking modules None
IsLacking modules (Some (place.Part k p)) = IsFirstLacking modules (Some k) × (p ≡ part.Head)
IsLacking modules (Some place.End) = HasTop modules → ⊥

-- where the net is none that a simulator runs
abbrev pub IsFaultAt : Net → Place → Type 0
IsFaultAt n (place.Part k p) = IsFirstWrong n (net.Module k p) ⊎ (NoneWrong n × LacksPort n k × (p ≡ part.Head))
IsFaultAt n place.End = NoneWrong n × LacksTop n

abbrev pub IsFaultOf : Net → Option Place → Type 0
IsFaultOf n None = IsSimulated n
IsFaultOf n (Some p) = IsFaultAt n p

-- the offset of token number k, or of what stands behind the last
abbrev pub offset_at : Lexed → ℕ → ℕ
offset_at l k = unwrap_or (slice_get l.starts k) l.end

-- the offset of a place of the net whose tokens these are, in a text of so many bytes
abbrev pub IsOffset : Lexed → ℕ → Net → Place → ℕ → Type 0
IsOffset l size n (place.Part k p) offset = (x : Module) → slice_get n.modules k ≡ Some x → offset ≡ offset_at l (length (before n.modules k (before_part p x)))
IsOffset l size n place.End offset = offset ≡ size

abbrev pub TellsPlace : Lexed → ℕ → Net → ReadError → Type 0
TellsPlace l size n (error.NotNet offset) = (p : Place) × IsFaultAt n p × IsOffset l size n p offset
TellsPlace l size n error.Memory = Unit {0}

-- ---- of a whole text

abbrev pub TellsNotNet : Text → ReadError → Type 0
TellsNotNet text (error.NotNet offset) = IsFault text offset
TellsNotNet text error.Memory = Unit {0}

-- the answer is this net, unless memory ran out
abbrev pub Finds : Net → Result Net ReadError → Type 0
Finds n (Ok found) = found ≡ n
Finds n (Err (error.NotNet offset)) = ⊥
Finds n (Err error.Memory) = Unit {0}
