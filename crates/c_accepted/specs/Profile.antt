-- The texts that are accepted, and why others are refused, by what each stage of the front end is.
use Rattle.std.specs.Prelude.{◌≡◌, ℕ, ◌<◌, ◌≤◌, List, length, Some, None, Ok, Err}
use Rattle.c_token.specs.declared.token.Token.{Token}
use Rattle.c_token.specs.Spelling.{Bytes}
use Rattle.c_lexer.specs.Texts.{LexesAs}
use Rattle.c_lexer.specs.declared.fault.LexFault.TheVariants as lex
use Rattle.c_lexer.specs.declared.fault.TextLimit.{TextLimit}
use Rattle.c_lexer.specs.declared.fault.TextLimit.TheVariants as text_limit
use Rattle.grammar.specs.Sentences.{SentenceWithin, FaultAt, TooDeepAt}
use Rattle.c_tree.specs.declared.declaration.TranslationUnit.{TranslationUnit}
use Rattle.c_tree.specs.Declarations.{unit}
use Rattle.c_parser.specs.Parsed.{offset_at}
use Rattle.c_program.specs.Tree.{Program}
use Rattle.c_program.specs.Weight.{weight}
use Rattle.c_program.specs.Counting.{capped}
use Rattle.c_limits.specs.Counts.{first_passed}
use Rattle.c_limits.specs.declared.limit.Limit.{Limit}
use Rattle.c_limits.specs.declared.limit.Limit.TheVariants.{Tokens, NameLength, Nesting}
use Rattle.c_resolution.specs.Resolving.{IsFirstFault, Spells, LacksMain}
use Rattle.c_accepted.specs.declared.refusal.Refusal.{Refusal}
use Rattle.c_accepted.specs.declared.refusal.Refusal.TheVariants as refusal

abbrev pub most_bytes : ℕ
most_bytes = 65536

-- the text splits into tokens within their limits, and these are a sentence of the grammar with this tree, no token of which
-- is nested deeper than the limit
pub record IsTreeOf (text : Bytes) (tree : TranslationUnit) : Type 0 where
  pub short : length text ≤ most_bytes
  pub tokens : List Token
  pub lexed : LexesAs text (Ok tokens)
  pub sentence : SentenceWithin unit 64 tokens tree

-- an accepted program is within all limits, and this is its weight
pub record IsWithin (P : Program) (w : ℕ) : Type 0 where
  pub limits : first_passed P ≡ None
  pub weighs : w ≡ capped (weight P)

-- the tree of the text breaks no rule on names, kinds and types, and this is its program
pub record IsAccepted (text : Bytes) (P : Program) (w : ℕ) : Type 0 where
  pub tree : TranslationUnit
  pub is : IsTreeOf text tree
  pub spelled : Spells tree P
  pub within : IsWithin P w

-- of a program that a limit refuses
abbrev pub IsPassed : Program → Refusal → Type 0
IsPassed P (refusal.Limit passed) = first_passed P ≡ Some passed
IsPassed P r = ⊥

abbrev pub limit_of_text : TextLimit → Limit
limit_of_text text_limit.Tokens = Tokens
limit_of_text text_limit.NameLength = NameLength

-- a limit of tokens, of the length of a name, or of nesting, is passed first at this place
abbrev pub IsPassedAt : Bytes → Limit → ℕ → ℕ → Type 0
IsPassedAt text Tokens count at = LexesAs text (Err (lex.Limit text_limit.Tokens count at))
IsPassedAt text NameLength count at = LexesAs text (Err (lex.Limit text_limit.NameLength count at))
IsPassedAt text Nesting count at =
    (ts : List Token) × (k : ℕ) × LexesAs text (Ok ts) × TooDeepAt unit 64 ts k count × (at ≡ offset_at ts k)
IsPassedAt text _ count at = ⊥

-- the cause of a refusal
abbrev pub IsRefused : Bytes → Refusal → Type 0
IsRefused text refusal.TooLong = most_bytes < length text
IsRefused text (refusal.NoToken at) = (length text ≤ most_bytes) × LexesAs text (Err (lex.Bad at))
IsRefused text (refusal.Syntax at) =
    (length text ≤ most_bytes) × ((ts : List Token) × (k : ℕ) × LexesAs text (Ok ts) × FaultAt unit 64 ts k × (at ≡ offset_at ts k))
IsRefused text (refusal.Broken rule at) =
    (tree : TranslationUnit) × IsTreeOf text tree × IsFirstFault tree (Some (record { rule = rule; offset = at }))
IsRefused text refusal.NoMain = (tree : TranslationUnit) × IsTreeOf text tree × LacksMain tree
IsRefused text (refusal.LimitAt passed at) = (length text ≤ most_bytes) × IsPassedAt text passed.limit passed.count at
IsRefused text (refusal.Limit passed) =
    (tree : TranslationUnit) × IsTreeOf text tree × ((P : Program) × Spells tree P × (first_passed P ≡ Some passed))
