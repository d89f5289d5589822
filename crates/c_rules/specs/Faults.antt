-- Which broken rule is reported: the first by place in the text, and at one place by number.
use Rattle.std.specs.Prelude.{ℕ, Bool, ◌||◌, ◌&&◌, nat_eq, nat_lt, if◌then◌else◌, Option, Some, None}
use Rattle.c_rules.specs.declared.fault.Rule.{Rule}
use Rattle.c_rules.specs.declared.fault.Rule.TheVariants.{Unknown, Twice, Kind, Arguments, Recursive, Threads, Place, Constant, Format}
use Rattle.c_rules.specs.declared.fault.Fault.{Fault}

abbrev pub number : Rule → ℕ
number Unknown = 4
number Twice = 5
number Kind = 6
number Arguments = 7
number Recursive = 8
number Threads = 9
number Place = 10
number Constant = 11
number Format = 13

abbrev pub is_before : Fault → Fault → Bool
is_before a b = nat_lt a.offset b.offset || (nat_eq a.offset b.offset && nat_lt (number a.rule) (number b.rule))

-- the first of two
unfoldable pub first : Option Fault → Option Fault → Option Fault
first None b = b
first (Some a) None = Some a
first (Some a) (Some b) = if is_before b a then Some b else Some a
