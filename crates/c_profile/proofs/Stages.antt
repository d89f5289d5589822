-- A text has one answer: stage by stage it is one thing.
use Rattle.std.proofs.Common.{◌≡◌, ℕ, ◌<◌, ◌≤◌, ◌⊎◌, inl, inr, List, length, Option, Some, None, refl, sym, ap, ◌∙◌, subst, arith}
use Rattle.std.specs.Prelude.{Result, Ok, Err}
use Rattle.c_token.specs.declared.token.Token.{Token}
use Rattle.c_token.specs.Spelling.{Bytes}
use Rattle.c_lexer.specs.declared.fault.LexFault.{LexFault}
use Rattle.c_lexer.specs.declared.fault.LexFault.TheVariants as lex
use Rattle.c_lexer.specs.declared.fault.TextLimit.TheVariants as text_limit
use Rattle.c_lexer.specs.Texts.{LexesAs}
use Rattle.c_lexer.proofs.Unique.{one_answer}
use Rattle.grammar.specs.Sentences.{SentenceWithin, FaultAt, TooDeepAt}
use Rattle.grammar.specs.Readers.{Reading}
use Rattle.c_tree.specs.declared.declaration.TranslationUnit.{TranslationUnit}
use Rattle.c_tree.specs.Declarations.{unit}
use Rattle.c_parser.specs.declared.ParseError.{ParseError}
use Rattle.c_parser.specs.declared.ParseError.TheVariants as parse
use Rattle.c_parser.specs.Parsed.{offset_at}
use Rattle.c_reading.proofs.Texts as t
use Rattle.c_program.specs.Tree.{Program}
use Rattle.c_program.specs.Weight.{weight}
use Rattle.c_program.specs.Counting.{capped}
use Rattle.c_limits.specs.Counts.{first_passed}
use Rattle.c_limits.specs.declared.limit.Limit.{Limit}
use Rattle.c_limits.specs.declared.limit.Limit.TheVariants as limit
use Rattle.c_limits.specs.declared.limit.Passed.{Passed}
use Rattle.c_rules.specs.declared.fault.Fault.{Fault}
use Rattle.c_resolution.specs.Files.{File}
use Rattle.c_resolution.specs.Texts.{main_number}
use Rattle.c_resolution.proofs.Once.{first_fault_once}
use Rattle.c_resolution.specs.Resolving.{IsFirstFault, Spells, behind, routines_given, program_at}
use Rattle.c_accepted.specs.declared.refusal.Refusal.{Refusal}
use Rattle.c_accepted.specs.declared.refusal.Refusal.TheVariants as refusal
use Rattle.c_accepted.specs.Profile.{most_bytes, IsTreeOf, IsAccepted, IsRefused, IsPassedAt, limit_of_text}

-- ---- the answer by what each stage finds

data Answer : Type 0 where
  Accepts : Program → ℕ → Answer
  Refuses : Refusal → Answer

abbrev passed_at : Limit → ℕ → ℕ → Answer
passed_at which count at = Refuses (refusal.LimitAt (record { limit = which; count = count }) at)

abbrev AtLimits : Program → Option Passed → Answer → Type 0
AtLimits P None a = a ≡ Accepts P (capped (weight P))
AtLimits P (Some passed) a = a ≡ Refuses (refusal.Limit passed)

abbrev AtMain : File → Option ℕ → Answer → Type 0
AtMain x None a = a ≡ Refuses refusal.NoMain
AtMain x (Some main) a = AtLimits (program_at x main) (first_passed (program_at x main)) a

abbrev AtFault : TranslationUnit → Option Fault → Answer → Type 0
AtFault tree (Some f) a = a ≡ Refuses (refusal.Broken f.rule f.offset)
AtFault tree None a = AtMain (behind tree.declarations) (main_number (behind tree.declarations).scope) a

abbrev AtTree : TranslationUnit → Answer → Type 0
AtTree tree a = (fault : Option Fault) × IsFirstFault tree fault × AtFault tree fault a

abbrev AtTokens : List Token → Result TranslationUnit ParseError → Answer → Type 0
AtTokens ts (Ok tree) a = SentenceWithin unit 64 ts tree × AtTree tree a
AtTokens ts (Err (parse.Syntax k at)) a = FaultAt unit 64 ts k × (a ≡ Refuses (refusal.Syntax (offset_at ts k)))
AtTokens ts (Err (parse.Nesting k count at)) a = TooDeepAt unit 64 ts k count × (a ≡ passed_at limit.Nesting count (offset_at ts k))
AtTokens ts (Err parse.Memory) a = ⊥

abbrev AtText : Result (List Token) LexFault → Answer → Type 0
AtText (Ok ts) a = (y : Result TranslationUnit ParseError) × AtTokens ts y a
AtText (Err (lex.Bad at)) a = a ≡ Refuses (refusal.NoToken at)
AtText (Err (lex.Limit which count at)) a = a ≡ passed_at (limit_of_text which) count at
AtText (Err lex.Memory) a = ⊥

record IsShort (text : Bytes) (a : Answer) : Type 0 where
  pub short : length text ≤ most_bytes
  pub split : Result (List Token) LexFault
  pub lexed : LexesAs text split
  pub is : AtText split a

record IsLong (text : Bytes) (a : Answer) : Type 0 where
  pub long : most_bytes < length text
  pub is : a ≡ Refuses refusal.TooLong

abbrev IsAnswer : Bytes → Answer → Type 0
IsAnswer text a = IsLong text a ⊎ IsShort text a

-- ---- tokens have one tree

trees_by : (ts : List Token) (u v : TranslationUnit) (r : Reading Token TranslationUnit) → t.reading ts ≡ r → SentenceWithin unit 64 ts u → SentenceWithin unit 64 ts v → u ≡ v
trees_by ts u v (Ok (x, new)) e h k = sym (t.only_one ts x u new e h).0 ∙ (t.only_one ts x v new e k).0
trees_by ts u v (Err stop) e h k = absurd (t.no_sentence ts stop u e h)

trees_once : (ts : List Token) (u v : TranslationUnit) → SentenceWithin unit 64 ts u → SentenceWithin unit 64 ts v → u ≡ v
trees_once ts u v h k = trees_by ts u v (t.reading ts) refl h k

-- ---- each stage gives one answer

limits_once : (P : Program) (passed : Option Passed) (a b : Answer) → AtLimits P passed a → AtLimits P passed b → a ≡ b
limits_once P None a b h k = h ∙ sym k
limits_once P (Some passed) a b h k = h ∙ sym k

main_once : (x : File) (main : Option ℕ) (a b : Answer) → AtMain x main a → AtMain x main b → a ≡ b
main_once x None a b h k = h ∙ sym k
main_once x (Some main) a b h k = limits_once (program_at x main) (first_passed (program_at x main)) a b h k

fault_once : (tree : TranslationUnit) (fault : Option Fault) (a b : Answer) → AtFault tree fault a → AtFault tree fault b → a ≡ b
fault_once tree (Some f) a b h k = h ∙ sym k
fault_once tree None a b h k = main_once (behind tree.declarations) (main_number (behind tree.declarations).scope) a b h k

tree_once : (tree : TranslationUnit) (a b : Answer) → AtTree tree a → AtTree tree b → a ≡ b
tree_once tree a b h k = fault_once tree k.0 a b (subst (λ f. AtFault tree f a) (first_fault_once tree h.0 k.0 h.1 k.1) h.2) k.2

tokens_once : (ts : List Token) (y z : Result TranslationUnit ParseError) (a b : Answer) → AtTokens ts y a → AtTokens ts z b → a ≡ b
tokens_once ts (Ok u) (Ok v) a b h k = tree_once v a b (subst (λ tree. AtTree tree a) (trees_once ts u v h.0 k.0) h.1) k.1
tokens_once ts (Ok u) (Err (parse.Syntax j at)) a b h k = absurd (t.sentence_or_fault ts u j h.0 k.0)
tokens_once ts (Ok u) (Err (parse.Nesting j count at)) a b h k = absurd (t.sentence_or_deep ts u j count h.0 k.0)
tokens_once ts (Err (parse.Syntax i at)) (Ok v) a b h k = absurd (t.sentence_or_fault ts v i k.0 h.0)
tokens_once ts (Err (parse.Syntax i at)) (Err (parse.Syntax j at')) a b h k =
    h.1 ∙ ap (λ n. Refuses (refusal.Syntax (offset_at ts n))) (t.fault_once ts i j h.0 k.0) ∙ sym k.1
tokens_once ts (Err (parse.Syntax i at)) (Err (parse.Nesting j count at')) a b h k = absurd (t.fault_or_deep ts i j count h.0 k.0)
tokens_once ts (Err (parse.Nesting i count at)) (Ok v) a b h k = absurd (t.sentence_or_deep ts v i count k.0 h.0)
tokens_once ts (Err (parse.Nesting i count at)) (Err (parse.Syntax j at')) a b h k = absurd (t.fault_or_deep ts j i count k.0 h.0)
tokens_once ts (Err (parse.Nesting i m at)) (Err (parse.Nesting j n at')) a b h k =
    let once = t.deep_once ts i j m n h.0 k.0 in
    h.1 ∙ (λ x. passed_at limit.Nesting (once.1 x) (offset_at ts (once.0 x))) ∙ sym k.1
tokens_once ts (Err parse.Memory) z a b h k = absurd h
tokens_once ts (Ok u) (Err parse.Memory) a b h k = absurd k
tokens_once ts (Err (parse.Syntax i at)) (Err parse.Memory) a b h k = absurd k
tokens_once ts (Err (parse.Nesting i count at)) (Err parse.Memory) a b h k = absurd k

text_once : (x : Result (List Token) LexFault) (a b : Answer) → AtText x a → AtText x b → a ≡ b
text_once (Ok ts) a b h k = tokens_once ts h.0 k.0 a b h.1 k.1
text_once (Err (lex.Bad at)) a b h k = h ∙ sym k
text_once (Err (lex.Limit which count at)) a b h k = h ∙ sym k
text_once (Err lex.Memory) a b h k = absurd h

answer_once : (text : Bytes) (a b : Answer) → IsAnswer text a → IsAnswer text b → a ≡ b
answer_once text a b (inl h) (inl k) = h.is ∙ sym k.is
answer_once text a b (inl h) (inr k) = absurd (omega (arith, h.long, k.short))
answer_once text a b (inr h) (inl k) = absurd (omega (arith, k.long, h.short))
answer_once text a b (inr h) (inr k) =
    text_once k.split a b (subst (λ x. AtText x a) (one_answer text h.split k.split h.lexed k.lexed) h.is) k.is

-- ---- what is accepted or refused is so answered

at_tree : (text : Bytes) (tree : TranslationUnit) (a : Answer) → IsTreeOf text tree → AtTree tree a → IsAnswer text a
at_tree text tree a is h = inr (record { short = is.short; split = Ok is.tokens; lexed = is.lexed; is = (Ok tree, (is.sentence, h)) })

at_program : (tree : TranslationUnit) (P : Program) (passed : Option Passed) (a : Answer) → Spells tree P → first_passed P ≡ passed → AtLimits P passed a → AtTree tree a
at_program tree P passed a spelled is h =
    let limits : AtLimits P (first_passed P) a = subst (λ p. AtLimits P p a) (sym is) h in
    let program : AtLimits (program_at (behind tree.declarations) spelled.main) (first_passed (program_at (behind tree.declarations) spelled.main)) a =
    subst (λ Q. AtLimits Q (first_passed Q) a) spelled.program limits in
    (None, spelled.no_fault, subst (λ main. AtMain (behind tree.declarations) main a) (sym spelled.has_main) program)

at_accepted : (text : Bytes) (P : Program) (v : ℕ) → IsAccepted text P v → IsAnswer text (Accepts P v)
at_accepted text P v h = at_tree text h.tree (Accepts P v) h.is (at_program h.tree P None (Accepts P v) h.spelled h.within.limits (ap (Accepts P) h.within.weighs))

at_passed : (text : Bytes) (which : Limit) (count at : ℕ) → length text ≤ most_bytes → IsPassedAt text which count at → IsAnswer text (passed_at which count at)
at_passed text limit.Tokens count at short h = inr (record { short = short; split = Err (lex.Limit text_limit.Tokens count at); lexed = h; is = refl })
at_passed text limit.NameLength count at short h = inr (record { short = short; split = Err (lex.Limit text_limit.NameLength count at); lexed = h; is = refl })
at_passed text limit.Nesting count at short h =
    inr (record { short = short; split = Ok h.0; lexed = h.2; is = (Err (parse.Nesting h.1 count at), (h.3, ap (passed_at limit.Nesting count) h.4)) })
at_passed text limit.Functions count at short h = absurd h
at_passed text limit.ThreadIds count at short h = absurd h
at_passed text limit.MutexElements count at short h = absurd h
at_passed text limit.BarrierElements count at short h = absurd h
at_passed text limit.OneArray count at short h = absurd h
at_passed text limit.GlobalElements count at short h = absurd h
at_passed text limit.PrintSites count at short h = absurd h
at_passed text limit.LocalElements count at short h = absurd h
at_passed text limit.Weight count at short h = absurd h

at_refused : (text : Bytes) (r : Refusal) → IsRefused text r → IsAnswer text (Refuses r)
at_refused text refusal.TooLong h = inl (record { long = h; is = refl })
at_refused text (refusal.NoToken at) h = inr (record { short = h.0; split = Err (lex.Bad at); lexed = h.1; is = refl })
at_refused text (refusal.Syntax at) h =
    inr (record { short = h.0; split = Ok h.1.0; lexed = h.1.2; is = (Err (parse.Syntax h.1.1 at), (h.1.3, ap (λ n. Refuses (refusal.Syntax n)) h.1.4)) })
at_refused text (refusal.Broken rule at) h = at_tree text h.0 (Refuses (refusal.Broken rule at)) h.1 (Some (record { rule = rule; offset = at }), h.2, refl)
at_refused text refusal.NoMain h =
    let tree : TranslationUnit = h.0 in
    let main : AtMain (behind tree.declarations) None (Refuses refusal.NoMain) = refl in
    at_tree text tree (Refuses refusal.NoMain) h.1 (None, h.2.no_fault, subst (λ m. AtMain (behind tree.declarations) m (Refuses refusal.NoMain)) (sym h.2.no_main) main)
at_refused text (refusal.LimitAt passed at) h = at_passed text passed.limit passed.count at h.0 h.1
at_refused text (refusal.Limit passed) h =
    at_tree text h.0 (Refuses (refusal.Limit passed)) h.1 (at_program h.0 h.2.0 (Some passed) (Refuses (refusal.Limit passed)) h.2.1 h.2.2 refl)

-- ---- the laws

abbrev program_in : Program → Answer → Program
program_in P (Accepts Q v) = Q
program_in P (Refuses r) = P

abbrev weight_in : Answer → ℕ
weight_in (Accepts Q v) = v
weight_in (Refuses r) = 0

abbrev refusal_in : Answer → Refusal
refusal_in (Accepts Q v) = refusal.TooLong
refusal_in (Refuses r) = r

pub accepted_once : (text : Bytes) (P Q : Program) (v u : ℕ) → IsAccepted text P v → IsAccepted text Q u → (P ≡ Q) × (v ≡ u)
accepted_once text P Q v u h k =
    let same = answer_once text (Accepts P v) (Accepts Q u) (at_accepted text P v h) (at_accepted text Q u k) in
    (ap (program_in P) same, ap weight_in same)

pub refused_once : (text : Bytes) (r s : Refusal) → IsRefused text r → IsRefused text s → r ≡ s
refused_once text r s h k = ap refusal_in (answer_once text (Refuses r) (Refuses s) (at_refused text r h) (at_refused text s k))

pub never_both : (text : Bytes) (P : Program) (v : ℕ) (r : Refusal) → IsAccepted text P v → IsRefused text r → ⊥
never_both text P v r h k =
    let same = answer_once text (Accepts P v) (Refuses r) (at_accepted text P v h) (at_refused text r k) in cc
