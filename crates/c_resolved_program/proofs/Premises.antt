-- The two premises of the law of programs that trees spell, for the tree of a text's tokens.
use Rattle.std.proofs.Common.{◌≡◌, refl, sym, ap, subst, ℕ, suc, ◌+◌, ◌<◌, ◌≤◌, List, [], ◌∷◌, length, None, arith}
use Rattle.std.specs.List.{AllByRecursion}
use Rattle.c_token.specs.declared.token.Token.{Token}
use Rattle.grammar.specs.Rules.{Placed}
use Rattle.grammar.specs.Sentences.{plain, SentenceWithin}
use Rattle.c_tree.specs.declared.declaration.ExternalDeclaration.{ExternalDeclaration}
use Rattle.c_tree.specs.declared.declaration.TranslationUnit.{TranslationUnit}
use Rattle.c_tree.specs.Declarations.{unit}
use Rattle.c_program.specs.Tree.{Function, Program}
use Rattle.c_rules.specs.Walks.{Outcome}
use Rattle.c_resolution.specs.Files.{File}
use Rattle.c_resolution.specs.Texts.{declarations}
use Rattle.c_resolution.specs.Resolving.{Spells, before, behind, program_at}
use Rattle.c_resolved_program.specs.Leaves.{HasValidLeaves}
use Rattle.c_resolved_program.specs.Laws.{HasElements, IsNumbered}
use Rattle.c_resolved_program.proofs.ValidSentences.{AreValid}
use Rattle.c_resolved_program.proofs.Tokens.{IsValidToken}
use Rattle.c_resolved_program.proofs.Texts.{AreTokens, AreFew}
use Rattle.c_resolved_program.proofs.FileCounts.{IsSmall}
use Rattle.c_resolved_program.proofs.DeclarationLeaves.{IsUnit, unit_gives}
use Rattle.c_resolved_program.proofs.Lengths.{given_count}

-- ---- the tokens with their nesting

placed_are : (placed : List (Placed Token)) → AreTokens (plain placed) → AreValid IsValidToken placed
placed_are [] all = tt
placed_are (x ∷ placed) all = (all.0, placed_are placed all.1)

plain_length : (placed : List (Placed Token)) → length (plain placed) ≡ length placed
plain_length [] = refl
plain_length (x ∷ placed) = ap suc (plain_length placed)

-- a tree of so many tokens
pub record IsFewTokens (tree : TranslationUnit) : Type 0 where
  pub tokens : ℕ
  pub few : tokens ≤ 16385
  pub unit : IsUnit tokens tree

pub of_sentence : (ts : List Token) (tree : TranslationUnit) → AreFew ts → SentenceWithin unit 64 ts tree → IsFewTokens tree
of_sentence ts tree few h =
    let placed : List (Placed Token) = h.0 in
    record {
      tokens = length placed;
      few = omega (arith, few.count, ap length h.1, plain_length placed);
      unit = (unit_gives h.2.0).gives 0 placed tree h.2.1 (placed_are placed (subst AreTokens (sym h.1) few.valid));
    }

pub valid_leaves : (tree : TranslationUnit) → IsFewTokens tree → HasValidLeaves tree
valid_leaves tree h = h.unit.0

-- ---- numbers

small_at_start : (list : List ExternalDeclaration) → IsSmall 0 0 (before list)
small_at_start list = record {
  tables = record { functions = omega arith; locals = tt; globals = omega arith; threads = omega arith; mutexes = omega arith; barriers = omega arith };
  locals = omega arith;
}

small_behind : (tree : TranslationUnit) (h : IsFewTokens tree) → IsSmall (0 + h.tokens) 0 (behind tree.declarations)
unfolding behind declarations
small_behind tree h = h.unit.1 0 (Outcome.Gives tt (before tree.declarations)) (small_at_start tree.declarations)

all_less : (m n : ℕ) → m < n → (list : List Function) → AllByRecursion (λ (f : Function). f.declared_locals ≤ m) list → AllByRecursion (λ (f : Function). f.declared_locals < n) list
all_less m n l [] all = tt
all_less m n l (f ∷ list) all = (omega (arith, all.0, l), all_less m n l list all.1)

program_numbered : (x : File) (main n : ℕ) → n < 0xffff_ffff → IsSmall n 0 x → HasElements (program_at x main) → IsNumbered (program_at x main)
program_numbered x main n le h counted = record {
  functions = omega (arith, h.tables.functions, le);
  locals = all_less n 0xffff_ffff le x.tables.functions h.tables.locals;
  globals = omega (arith, h.tables.globals, le);
  threads = omega (arith, h.tables.threads, le, given_count x.found.creations x.tables.threads None);
  mutexes = omega (arith, h.tables.mutexes, le);
  barriers = omega (arith, h.tables.barriers, le);
  elements = counted;
}

pub numbered : (tree : TranslationUnit) (P : Program) → IsFewTokens tree → Spells tree P → HasElements P → IsNumbered P
numbered tree P h spelled counted =
    subst IsNumbered (sym spelled.program)
    (program_numbered (behind tree.declarations) spelled.main (0 + h.tokens) (omega (arith, h.few)) (small_behind tree h) (subst HasElements spelled.program counted))
