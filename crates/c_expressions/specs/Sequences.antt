-- Statements one after another (C99 6.8.2).
use Rattle.std.specs.Prelude.{ℕ, zero, suc, nat_le, Bool, if◌then◌else◌, List, [], ◌∷◌, ◌++◌, length, fold, Option, Some, None}
use Rattle.c_program.specs.Tree.{Statement}

abbrev pub neighbours : Statement → Statement → Statement
neighbours first next = Statement.Sequence first next

-- some statements with one that waits for its neighbour
abbrev pub Joined : Type 0
Joined = List Statement × Option Statement

abbrev pub joined_to : List Statement → Option Statement → Statement → Joined
joined_to done None next = (done, Some next)
joined_to done (Some first) next = (done ++ neighbours first next ∷ [], None)

abbrev pub with_next : Joined → Statement → Joined
with_next j next = joined_to j.0 j.1 next

abbrev pub with_last : List Statement → Option Statement → List Statement
with_last done None = done
with_last done (Some last) = done ++ last ∷ []

abbrev pub all_joined : Joined → List Statement
all_joined j = with_last j.0 j.1

-- each two neighbours joined
abbrev pub paired : List Statement → List Statement
paired list = all_joined (fold with_next ([], None) list)

-- the statement of a list of one, and none of an empty list
abbrev pub only : List Statement → Statement
only [] = Statement.Done
only (first ∷ []) = first
only (first ∷ next ∷ more) = only (next ∷ more)

abbrev pub is_short : List Statement → Bool
is_short list = nat_le (length list) 1

abbrev pub halved : List Statement → List Statement
halved list = if is_short list then list else paired list

abbrev pub rounds : ℕ → List Statement → List Statement
rounds zero list = list
rounds (suc n) list = halved (rounds n list)

-- Neighbours are joined, and those joined, until one statement is left: so a program is not much deeper than its text
-- is nested, however many statements stand side by side. As many rounds as there are statements suffice.
unfoldable pub sequence : List Statement → Statement
sequence list = only (rounds (length list) list)

-- a statement behind the cuts of its expressions, if there are any
abbrev pub behind_cuts : List Statement → Statement → Statement
behind_cuts [] last = last
behind_cuts (first ∷ more) last = sequence (first ∷ more ++ last ∷ [])
