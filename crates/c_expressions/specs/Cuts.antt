-- What is evaluated before a step, each to a local that keeps it, and what is left of the step's expressions (C99 6.5.2.2, 6.5.13 to
-- 6.5.15).
use Rattle.std.specs.Prelude.{ℕ, List, [], ◌∷◌, ◌++◌, map}
use Rattle.hls_ints.specs.Types.{IntegerType}
use Rattle.c_program.specs.Tree.{Expression, Statement}
use Rattle.c_program.specs.Plain.{boxed_statement_of}
use Rattle.c_rules.specs.Constants.{plus}
use Rattle.c_expressions.specs.declared.cuts.Cuts.{Cuts as CutsTree}

-- the cuts of a step so far, in their order, and the first local behind those that keep a value for it
pub record Cuts : Type 0 where
  pub before : List Statement
  pub next : ℕ

-- no cut yet, where the locals from that number on are free
abbrev pub free_from : ℕ → Cuts
free_from n = record { before = []; next = n }

-- a part of a step: the cuts so far, its own behind those of the parts before it, and what is left of it
pub record Cut (A : Type 0) : Type 0 where
  pub cuts : Cuts
  pub rest : A

abbrev pub cut : {A : Type 0} → Cuts → A → Cut A
cut cuts rest = record { cuts = cuts; rest = rest }

-- more statements that give one value, which the local of the number keeps: those behind it are free again
abbrev pub keeping_all : ℕ → List Statement → Cuts → Cuts
keeping_all n statements cuts = record { before = cuts.before ++ statements; next = plus n 1 }

-- one more cut, whose value the local keeps
abbrev pub keeping : ℕ → Statement → Cuts → Cuts
keeping n statement cuts = keeping_all n (statement ∷ []) cuts

-- the value of a cut
abbrev pub kept : ℕ → IntegerType → Statement → Cuts → Cut Expression
kept n ty statement cuts = cut (keeping n statement cuts) (Expression.Kept n ty)

-- the cuts as the program holds them
abbrev pub cuts_of : CutsTree → Cuts
cuts_of c = record { before = map boxed_statement_of c.before.items; next = c.next }
