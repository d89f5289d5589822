-- The law of programs that trees spell.
use Rattle.std.specs.Prelude.{◌≡◌, ℕ, ◌^◌, ◌<◌, ◌≤◌, List, length, Some}
use Rattle.std.specs.List.{AllByRecursion}
use Rattle.c_tree.specs.declared.declaration.TranslationUnit.{TranslationUnit}
use Rattle.c_tree.specs.declared.expression.Expression.{Expression as ExpressionTree}
use Rattle.c_tree.specs.declared.statement.Block.{Block}
use Rattle.c_program.specs.Tree.{Piece, Expression, Function, GlobalVariable, Program}
use Rattle.c_program.specs.Resolved.{IsExpression, IsCut, IsPiece, IsResolved, nowhere}
use Rattle.c_rules.specs.declared.findings.Findings.{Findings}
use Rattle.c_rules.specs.declared.names.Scope.{Scope}
use Rattle.c_rules.specs.Formats.{pieces_in}
use Rattle.c_expressions.specs.Cuts.{Cut, free_from}
use Rattle.c_expressions.specs.Expressions.{value}
use Rattle.c_resolution.specs.States.{State}
use Rattle.c_resolution.specs.Statements.{items}
use Rattle.c_resolution.specs.Resolving.{Spells, behind}
use Rattle.c_resolved_program.specs.Leaves.{Leaf, IsValidLeaf, AreValid, HasValidLeaves, expression_leaves, block_leaves}
use Rattle.c_resolved_program.specs.Gathered.{IsGathered}
use Rattle.c_resolved_program.specs.Orders.{left, given, list_end, IsPartOf, IsOrderly, IsAhead, Holds, IsInOrder, GivesRoutines}

-- no array has so many elements that their number is cut off
abbrev pub HasElements : Program → Type 0
HasElements P = AllByRecursion (λ (g : GlobalVariable). g.length < 0xffff_ffff_ffff_ffff) P.globals

-- each declaration of the program has a number of 32 bits, and so has each local behind those that a function declares
pub record IsNumbered (P : Program) : Type 0 where
  pub functions : length P.functions ≤ 2 ^ 32
  pub locals : AllByRecursion (λ (f : Function). f.declared_locals < 0xffff_ffff) P.functions
  pub globals : length P.globals ≤ 2 ^ 32
  pub threads : length P.threads ≤ 2 ^ 32
  pub mutexes : length P.mutexes ≤ 2 ^ 32
  pub barriers : length P.barriers ≤ 2 ^ 32
  pub elements : HasElements P

-- what a step has: its cuts, where the function has the locals in which they keep values, and then what is left of it
pub record IsResolvedCut (P : Program) (f : Function) (x : Cut Expression) : Type 0 where
  pub cuts : list_end x.cuts.before ≤ length f.locals → AllByRecursion (IsCut P f) x.cuts.before
  pub rest : list_end x.cuts.before ≤ length f.locals → IsExpression P f x.rest

-- a value without a fault is an expression of the program, behind cuts of the program
abbrev pub ValueIsExpression : Type 0
ValueIsExpression =
    (whole found : Findings) (P : Program) (number : ℕ) (f : Function) (s : Scope) (e : ExpressionTree) (at : ℕ) → AreValid (expression_leaves e) →
    f.declared_locals < 0xffff_ffff → IsOrderly P number f s → IsPartOf whole (left (value s e at (free_from s.kept_from) found)) →
    IsResolvedCut P f (given (value s e at (free_from s.kept_from) found))

-- the body of a function, gone through without a fault from a scope that is in order, is in order
abbrev pub BodyIsInOrder : Type 0
BodyIsInOrder =
    (whole : Findings) (P : Program) (number : ℕ) (f : Function) (body : Block) (x : State) → GivesRoutines whole P → f.declared_locals < 0xffff_ffff →
    AreValid (block_leaves body) → Holds P number f nowhere x → IsAhead whole f (left (items body x)) → IsInOrder whole P number f nowhere (given (items body x))

-- the format of a printf is in order
abbrev pub FormatIsPieces : Type 0
FormatIsPieces = (bytes : List ℕ) (pieces : List Piece) → IsValidLeaf (Leaf.Text bytes) → pieces_in bytes ≡ Some pieces → AllByRecursion IsPiece pieces

-- a program that a tree spells is resolved where its declarations are in order one by one
abbrev pub GatheredIsResolved : Type 0
GatheredIsResolved =
    (tree : TranslationUnit) (P : Program) → Spells tree P → IsGathered P (behind tree.declarations).tables.threads (behind tree.declarations).found → IsResolved P

-- a tree whose leaves are those of a text spells a resolved program
abbrev pub SpelledIsResolved : Type 0
SpelledIsResolved = (tree : TranslationUnit) (P : Program) → HasValidLeaves tree → Spells tree P → IsNumbered P → IsResolved P
