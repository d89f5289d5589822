-- Lists of turns as text.
use Rattle.std.specs.Prelude.{ℕ, nat_eq, if◌then◌else◌, List, [], ◌∷◌, ◌++◌, codes, decimal}
use Rattle.turns.specs.declared.Turn.{Turn}

-- `i` for one step of thread i, else `i*k`
abbrev pub turn_text : Turn → List ℕ
turn_text t = decimal t.thread ++ (if nat_eq t.steps 1 then [] else codes "*" ++ decimal t.steps)

-- each behind a comma
abbrev pub more_text : List Turn → List ℕ
more_text [] = []
more_text (t ∷ ts) = codes "," ++ (turn_text t ++ more_text ts)

-- with commas between
abbrev pub list_text : List Turn → List ℕ
list_text [] = []
list_text (t ∷ ts) = turn_text t ++ more_text ts

-- and a line feed
abbrev pub list_line : List Turn → List ℕ
list_line ts = list_text ts ++ codes "\n"
