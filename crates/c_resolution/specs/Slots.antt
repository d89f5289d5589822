-- The locals in which statements keep values, behind those that are declared.
use Rattle.std.specs.Prelude.{ℕ, ◌+◌, ◌-◌, max, List, ◌++◌, length, replicate, Option, Some, None}
use Rattle.hls_ints.specs.Types.{long_int}
use Rattle.c_program.specs.declared.tree.LocalVariable.{LocalVariable}
use Rattle.c_program.specs.Tree.{Statement}
use Rattle.c_program.specs.Resolved.{scalar}

abbrev pub slot_end : Option ℕ → ℕ
slot_end None = 0
slot_end (Some slot) = slot + 1

-- the number behind the last local in which a statement keeps a value, and 0 where it keeps none
abbrev pub slots_end : Statement → ℕ
slots_end (Statement.Sequence first rest) = max (slots_end first) (slots_end rest)
slots_end (Statement.Block body) = slots_end body
slots_end (Statement.Call offset into function arguments) = slot_end into
slots_end (Statement.Keep offset slot ty operand) = slot + 1
slots_end (Statement.Truth slot condition) = max (slot + 1) (slots_end condition)
slots_end (Statement.Both first second) = max (slots_end first) (slots_end second)
slots_end (Statement.Either first second) = max (slots_end first) (slots_end second)
slots_end (Statement.Opposite inner) = slots_end inner
slots_end (Statement.If condition consequent alternative) = max (slots_end condition) (max (slots_end consequent) (slots_end alternative))
slots_end (Statement.While condition body) = max (slots_end condition) (slots_end body)
slots_end (Statement.DoWhile body condition) = max (slots_end body) (slots_end condition)
slots_end (Statement.For first condition last body) = max (slots_end first) (max (slots_end condition) (max (slots_end last) (slots_end body)))
slots_end (Statement.Switch offset ty operand body) = slots_end body
slots_end statement = 0

-- so many locals, those behind the given ones being scalars of the type long
abbrev pub with_slots : ℕ → List LocalVariable → List LocalVariable
with_slots end locals = locals ++ replicate (end - length locals) (scalar long_int)
