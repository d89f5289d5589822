-- Each text has an answer: stage by stage it is one thing or another.
use Rattle.std.proofs.Common.{◌≡◌, ℕ, zero, suc, ◌+◌, ◌-◌, ◌<◌, ◌≤◌, ◌⊎◌, inl, inr, ⊎_elim, Bool, true, false, List, [], ◌∷◌, ◌++◌, length, drop, fold, map, Option, Some, None, refl, arith}
use Rattle.std.specs.Prelude.{Result, Ok, Err}
use Rattle.c_token.specs.declared.token.Token.{Token}
use Rattle.c_token.specs.Spelling.{Bytes}
use Rattle.c_lexer.specs.declared.fault.LexFault.{LexFault}
use Rattle.c_lexer.specs.declared.fault.LexFault.TheVariants as lex
use Rattle.c_lexer.specs.declared.fault.TextLimit.TheVariants as text_limit
use Rattle.c_lexer.specs.Meaning.{State, start, after}
use Rattle.c_lexer.specs.Texts.{Piece, LexesAs, Passed as TextPassed, with_token, with_end, may_end, limit_of, fault_place}
use Rattle.c_lexer.specs.Stepping.{Steps, next_piece}
use Rattle.c_lexer.proofs.Whole.{Done, none_done, one_done, moves, step_failed, unfinished, finished}
use Rattle.c_call_graph.specs.Graphs.{all_marks, table}
use Rattle.c_call_graph.specs.Reaching.{leads}
use Rattle.c_call_graph.proofs.SearchResult.{is_reach}
use Rattle.grammar.specs.Readers.{Reading, Syntax, Deep}
use Rattle.c_tree.specs.declared.declaration.TranslationUnit.{TranslationUnit}
use Rattle.c_parser.specs.Parsed.{offset_at}
use Rattle.c_reading.proofs.Texts as t
use Rattle.c_program.specs.Tree.{Program, Function}
use Rattle.c_program.specs.Weight.{weight}
use Rattle.c_program.specs.Counting.{capped}
use Rattle.c_limits.specs.Counts.{first_passed}
use Rattle.c_limits.specs.declared.limit.Limit.TheVariants as limit
use Rattle.c_limits.specs.declared.limit.Passed.{Passed}
use Rattle.c_rules.specs.declared.fault.Fault.{Fault}
use Rattle.c_rules.specs.declared.findings.Findings.{Findings}
use Rattle.c_rules.specs.Faults.{first}
use Rattle.c_resolution.specs.CallRules.{IsCallFault, call_of, with_call}
use Rattle.c_resolution.specs.Texts.{main_number}
use Rattle.c_resolution.specs.Resolving.{IsFirstFault, Spells, behind, routines_given, program_at}
use Rattle.c_accepted.specs.declared.refusal.Refusal.TheVariants as refusal
use Rattle.c_accepted.specs.Profile.{most_bytes, IsTreeOf}
use Rattle.c_profile.specs.Laws.{HasAnswer}

-- ---- a text splits, or has a fault

abbrev Split : Type 0
Split = Result (List Token) LexFault

abbrev Splitting : Bytes → Type 0
Splitting text = (r : Split) × LexesAs text r

abbrev Onward : Bytes → ℕ → Type 0
Onward text n = (ts : List Token) (s : State) (rest : Bytes) → length rest ≤ n → Done text ts s rest → Splitting text

ended : (text : Bytes) (ts : List Token) (s : State) (may : Bool) → Done text ts s [] → may_end s.mode ≡ may → Splitting text
ended text ts s true done e = (Ok (with_end text ts), finished text ts (with_end text ts) s [] done refl e refl)
ended text ts s false done e =
    let k : ℕ = fault_place s.mode (length text) [] in
    (Err (lex.Bad k), unfinished text ts s [] k done refl e refl)

limited : (text : Bytes) (n : ℕ) (ts : List Token) (s : State) (z : Bytes) (p : Piece) (passed : Option TextPassed) → Onward text n → length z ≤ suc n → 0 < length z
    → Done text ts s z → next_piece (length text - length z) s z ≡ Some p → limit_of (length ts) p ≡ passed → Splitting text
limited text n ts s z p (Some passed) go few some done found e =
    let at : ℕ = length text - length z in
    (Err (lex.Limit passed.0 passed.1 at), step_failed text ts s z (lex.Limit passed.0 passed.1 at) done some (p, found, e, refl))
limited text n ts s z p None go few some done found e =
    let at : ℕ = length text - length z in
    let next : State = after p.effect p.bytes s in
    let us : List Token = ts ++ with_token at p.effect.action [] in
    let more : Bytes = drop (length p.bytes) z in
    let steps : Steps at z s ts next us more = record { piece = p; found = found; takes = record { state = refl; tokens = refl; within = e }; rest = refl } in
    go us next more (omega (arith, few, moves at z s next ts us more steps)) (one_done text ts s z next us more done steps)

stepped : (text : Bytes) (n : ℕ) (ts : List Token) (s : State) (z : Bytes) (found : Option Piece) → Onward text n → length z ≤ suc n → 0 < length z
    → Done text ts s z → next_piece (length text - length z) s z ≡ found → Splitting text
stepped text n ts s z None go few some done e =
    let k : ℕ = fault_place s.mode (length text - length z) z in
    (Err (lex.Bad k), step_failed text ts s z (lex.Bad k) done some (e, refl))
stepped text n ts s z (Some p) go few some done e = limited text n ts s z p (limit_of (length ts) p) go few some done e refl

split_from : (text : Bytes) (n : ℕ) → Onward text n
split_from text n ts s [] few done = ended text ts s (may_end s.mode) done refl
split_from text zero ts s (b ∷ z) few done = absurd (omega (arith, few))
split_from text (suc n) ts s (b ∷ z) few done =
    stepped text n ts s (b ∷ z) (next_piece (length text - length (b ∷ z)) s (b ∷ z)) (split_from text n) few (omega arith) done refl

splitting : (text : Bytes) → Splitting text
splitting text = split_from text (length text) [] start text (omega arith) (none_done text start refl)

-- ---- a tree has a first fault, or none

first_fault : (tree : TranslationUnit) → (fault : Option Fault) × IsFirstFault tree fault
first_fault tree =
    let functions : List Function = (behind tree.declarations).tables.functions in
    let found : Findings = (behind tree.declarations).found in
    let rows : List (List Bool) = all_marks (table (map call_of found.calls) (length functions)) (length functions) in
    let calls : Option Fault = fold (with_call (leads rows)) found.fault found.calls in
    let is_calls : IsCallFault functions found calls = record { leads = leads rows; decides = is_reach (length functions) (map call_of found.calls); is = refl } in
    (first calls (routines_given (behind tree.declarations)).1, record { calls = calls; is_calls = is_calls; is = refl })

-- ---- answers

module _ (text : Bytes) where
  by_program : (tree : TranslationUnit) (P : Program) (passed : Option Passed) → IsTreeOf text tree → Spells tree P → first_passed P ≡ passed → HasAnswer text
  by_program tree P None is spelled e = inl (P, capped (weight P), record { tree = tree; is = is; spelled = spelled; within = record { limits = e; weighs = refl } })
  by_program tree P (Some passed) is spelled e = inr (refusal.Limit passed, (tree, is, (P, spelled, e)))

  by_main : (tree : TranslationUnit) (main : Option ℕ) → IsTreeOf text tree → IsFirstFault tree None → main_number (behind tree.declarations).scope ≡ main → HasAnswer text
  by_main tree None is no_fault e = inr (refusal.NoMain, (tree, is, record { no_fault = no_fault; no_main = e }))
  by_main tree (Some main) is no_fault e =
      let P : Program = program_at (behind tree.declarations) main in
      by_program tree P (first_passed P) is (record { no_fault = no_fault; main = main; has_main = e; program = refl }) refl

  by_fault : (tree : TranslationUnit) (fault : Option Fault) → IsTreeOf text tree → IsFirstFault tree fault → HasAnswer text
  by_fault tree (Some f) is h = inr (refusal.Broken f.rule f.offset, (tree, is, h))
  by_fault tree None is h = by_main tree (main_number (behind tree.declarations).scope) is h refl

  by_tree : (tree : TranslationUnit) → IsTreeOf text tree → HasAnswer text
  by_tree tree is = let f = first_fault tree in by_fault tree f.0 is f.1

  by_reading : (ts : List Token) (r : Reading Token TranslationUnit) → length text ≤ most_bytes → LexesAs text (Ok ts) → t.reading ts ≡ r → HasAnswer text
  by_reading ts (Ok (tree, [])) short lexed e = by_tree tree (record { short = short; tokens = ts; lexed = lexed; sentence = t.all_read ts tree [] e refl })
  by_reading ts (Ok (tree, x ∷ more)) short lexed e =
      let k : ℕ = length ts - length (x ∷ more) in
      inr (refusal.Syntax (offset_at ts k), (short, (ts, k, lexed, t.some_left ts tree (x ∷ more) e (λ none. omega (arith, none)), refl)))
  by_reading ts (Err (Syntax rest)) short lexed e =
      let k : ℕ = length ts - length rest in
      inr (refusal.Syntax (offset_at ts k), (short, (ts, k, lexed, t.err_fault ts rest e, refl)))
  by_reading ts (Err (Deep above rest)) short lexed e =
      let k : ℕ = length ts - length rest in
      inr (refusal.LimitAt (record { limit = limit.Nesting; count = 64 + above }) (offset_at ts k), (short, (ts, k, lexed, t.err_deep ts above rest e, refl)))

  by_split : (r : Split) → length text ≤ most_bytes → LexesAs text r → HasAnswer text
  by_split (Ok ts) short h = by_reading ts (t.reading ts) short h refl
  by_split (Err (lex.Bad at)) short h = inr (refusal.NoToken at, (short, h))
  by_split (Err (lex.Limit text_limit.Tokens count at)) short h = inr (refusal.LimitAt (record { limit = limit.Tokens; count = count }) at, (short, h))
  by_split (Err (lex.Limit text_limit.NameLength count at)) short h = inr (refusal.LimitAt (record { limit = limit.NameLength; count = count }) at, (short, h))
  by_split (Err lex.Memory) short h = absurd h.ends

  by_length : (length text ≤ most_bytes) ⊎ (most_bytes < length text) → HasAnswer text
  by_length (inl short) = let s = splitting text in by_split s.0 short s.1
  by_length (inr long) = inr (refusal.TooLong, long)

most_or_more : (m n : ℕ) → (m ≤ n) ⊎ (n < m)
most_or_more zero n = inl (omega arith)
most_or_more (suc m) zero = inr (omega arith)
most_or_more (suc m) (suc n) = ⊎_elim (λ h. inl (omega (arith, h))) (λ h. inr (omega (arith, h))) (most_or_more m n)

pub has_answer : (text : Bytes) → HasAnswer text
has_answer text = by_length text (most_or_more (length text) most_bytes)
