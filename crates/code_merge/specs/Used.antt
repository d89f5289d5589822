-- Stages that are used.
use Rattle.std.specs.Prelude.{ℕ, zero, suc, ◌||◌, ◌&&◌, Bool, false, not, if◌then◌else◌, nat_eq, nat_lt, List, [], ◌∷◌, length, map}
use Rattle.block_ir.specs.declared.block.Next.{Next}
use Rattle.block_ir.specs.declared.block.Next.TheVariants.{Jump, Branch}
use Rattle.block_ir.specs.declared.code.Stage.{Stage}
use Rattle.block_ir.specs.declared.code.Stage.TheVariants.{Run, Act}
use Rattle.block_ir.specs.declared.code.ThreadCode.{ThreadCode}
use Rattle.code_merge.specs.Maximal.{ways}

-- EMPTY: what is left of a block that has become a part of another one
abbrev pub empty : Stage
empty = Run (record { operations = []; finals = []; next = Jump 0; steps = 1 })

abbrev pub leads_to_first : Next → Bool
leads_to_first (Jump l) = nat_eq l 0
leads_to_first (Branch test nonzero zero_) = false

abbrev pub is_empty : Stage → Bool
is_empty (Run b) = nat_eq (length b.operations) 0 && nat_eq (length b.finals) 0 && nat_eq b.steps 1 && leads_to_first b.next
is_empty (Act act next) = false

-- USED: stage l is the first one, or no empty block, or a way leads to it
abbrev pub is_used : List Stage → ℕ → Stage → Bool
is_used stages l s = nat_eq l 0 || not (is_empty s) || nat_lt 0 (ways l stages)

-- which of these are, from stage l on
abbrev pub used_from : List Stage → ℕ → List Stage → List Bool
used_from stages l [] = []
used_from stages l (s ∷ rest) = is_used stages l s ∷ used_from stages (suc l) rest

abbrev pub used : List Stage → List Bool
used stages = used_from stages 0 stages

-- those of the items whose flag is set
abbrev pub kept : {A : Type 0} → List Bool → List A → List A
kept [] items = []
kept (u ∷ us) [] = []
kept (u ∷ us) (x ∷ items) = if u then x ∷ kept us items else kept us items

-- the number that item l has among those: how many of the flags before its own are set
abbrev pub number : List Bool → ℕ → ℕ
number [] l = 0
number (u ∷ us) zero = 0
number (u ∷ us) (suc l) = if u then suc (number us l) else number us l

-- it leads to the same stages, which have new numbers
abbrev pub next_renumbered : (ℕ → ℕ) → Next → Next
next_renumbered new (Jump l) = Jump (new l)
next_renumbered new (Branch test nonzero zero_) = Branch test (new nonzero) (new zero_)

abbrev pub renumbered : (ℕ → ℕ) → Stage → Stage
renumbered new (Run b) = Run (record { operations = b.operations; finals = b.finals; next = next_renumbered new b.next; steps = b.steps })
renumbered new (Act act next) = Act act (new next)

-- the used stages, numbered anew
abbrev pub used_stages : List Stage → List Stage
used_stages stages = map (renumbered (number (used stages))) (kept (used stages) stages)

-- the code with its used stages alone
abbrev pub with_used : ThreadCode → ThreadCode
with_used code = record code { stages = used_stages code.stages }
