-- The laws.
use Rattle.std.proofs.Common.{ℕ, ◌<◌, ◌≤◌, List, [], ◌∷◌, arith}
use Rattle.std.specs.List.{AllByRecursion}
use Rattle.c_program.specs.Tree.{GlobalVariable, Program}
use Rattle.c_program.specs.Limits.{greatest, longest_array, longest_local}
use Rattle.c_limits.proofs.Within.{within_limits}
use Rattle.c_resolved_program.specs.Laws.{HasElements}
use Rattle.c_resolved_program.proofs.Maxima.{first_of_max, second_of_max}
use Rattle.c_token.specs.Spelling.{Bytes}
use Rattle.c_tree.specs.declared.declaration.TranslationUnit.{TranslationUnit}
use Rattle.c_accepted.specs.Profile.{IsTreeOf}
use Rattle.c_resolved_program.proofs.SpelledLaw.{spelled_law}
use Rattle.c_resolved_program.specs.AcceptedLaws.{TreeHasValidLeaves, TreeIsNumbered, AcceptedIsResolved}
use Rattle.c_resolved_program.proofs.Texts.{tokens_of}
use Rattle.c_resolved_program.proofs.Premises.{IsFewTokens, of_sentence, valid_leaves, numbered}

few_tokens : (text : Bytes) (tree : TranslationUnit) → IsTreeOf text tree → IsFewTokens tree
few_tokens text tree is = of_sentence is.tokens tree (tokens_of text is.tokens is.lexed) is.sentence

pub leaves_law : TreeHasValidLeaves
leaves_law text tree is = valid_leaves tree (few_tokens text tree is)

pub numbers_law : TreeIsNumbered
numbers_law text tree P is spelled counted = numbered tree P (few_tokens text tree is) spelled counted

most_of : (m : ℕ) (list : List GlobalVariable) → greatest (λ (g : GlobalVariable). g.length) list ≤ m → m < 0xffff_ffff_ffff_ffff →
    AllByRecursion (λ (g : GlobalVariable). g.length < 0xffff_ffff_ffff_ffff) list
most_of m [] le lt = tt
most_of m (g ∷ list) le lt =
    let rest = greatest (λ (g : GlobalVariable). g.length) list in
    let one = first_of_max g.length rest m le in
    (omega (arith, one, lt), most_of m list (second_of_max g.length rest m le) lt)

-- an accepted program has at most 4096 elements in an array
elements_of : (P : Program) → longest_array P ≤ 4096 → HasElements P
elements_of P le =
    most_of 4096 P.globals (first_of_max (greatest (λ (g : GlobalVariable). g.length) P.globals) (greatest longest_local P.functions) 4096 le) (omega arith)

pub resolved_law : AcceptedIsResolved
resolved_law text P w accepted =
    spelled_law accepted.tree P (leaves_law text accepted.tree accepted.is) accepted.spelled
    (numbers_law text accepted.tree P accepted.is accepted.spelled (elements_of P (within_limits P accepted.within.limits).arrays))
