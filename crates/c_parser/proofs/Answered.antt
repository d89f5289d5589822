-- What parsing answers, by what the tokens are.
use Rattle.std.proofs.Common.{◌≡◌, ℕ, ◌+◌, ◌-◌, List, length, refl, sym, ap, ◌∙◌, subst}
use Rattle.std.specs.Prelude.{Result, Ok, Err}
use Rattle.c_token.specs.declared.token.Token.{Token}
use Rattle.grammar.specs.Sentences.{SentenceWithin, FaultAt, TooDeepAt}
use Rattle.c_tree.specs.declared.declaration.TranslationUnit.{TranslationUnit}
use Rattle.c_tree.specs.Declarations.{unit}
use Rattle.c_parser.specs.declared.ParseError.{ParseError}
use Rattle.c_parser.specs.declared.ParseError.TheVariants as error
use Rattle.c_parser.specs.Parsed.{Parsed, Finds, AnswersOnly, offset_at}
use Rattle.c_reading.proofs.Texts as t

-- the clauses of `parse`
pub record Answered (ts : List Token) (r : Result TranslationUnit ParseError) : Type 0 where
  pub answer : Parsed ts r
  pub every : (v : TranslationUnit) → SentenceWithin unit 64 ts v → Finds v r
  pub syntax : (k : ℕ) → FaultAt unit 64 ts k → AnswersOnly (error.Syntax k (offset_at ts k)) r
  pub nesting : (k count : ℕ) → TooDeepAt unit 64 ts k count → AnswersOnly (error.Nesting k count (offset_at ts k)) r

module _ (ts : List Token) where
  pub tree : (v : TranslationUnit) (new : List Token) → t.reading ts ≡ Ok (v, new) → length new ≡ 0 → Answered ts (Ok v)
  tree v new e none =
      let whole = t.all_read ts v new e none in
      record {
        answer = whole;
        every = λ u h. (t.only_one ts v u new e h).0;
        syntax = λ k f. t.sentence_or_fault ts v k whole f;
        nesting = λ k count d. t.sentence_or_deep ts v k count whole d;
      }

  pub fault : (k : ℕ) → FaultAt unit 64 ts k → Answered ts (Err (error.Syntax k (offset_at ts k)))
  fault k f = record {
    answer = (f, refl);
    every = λ v h. t.sentence_or_fault ts v k h f;
    syntax = λ j g. ap (λ i. error.Syntax i (offset_at ts i)) (t.fault_once ts k j f g);
    nesting = λ j count d. absurd (t.fault_or_deep ts k j count f d);
  }

  pub deep : (k count : ℕ) → TooDeepAt unit 64 ts k count → Answered ts (Err (error.Nesting k count (offset_at ts k)))
  deep k count d = record {
    answer = (d, refl);
    every = λ v h. t.sentence_or_deep ts v k count h d;
    syntax = λ j f. absurd (t.fault_or_deep ts j k count f d);
    nesting = λ j n c. let once = t.deep_once ts k j count n d c in (λ i. error.Nesting (once.0 i) (once.1 i) (offset_at ts (once.0 i)));
  }

  -- the same by how many tokens are left
  pub fault_left : (e : ParseError) (rest : List Token) (left : ℕ) → FaultAt unit 64 ts (length ts - length rest) → left ≡ length rest
      → e ≡ error.Syntax (length ts - left) (offset_at ts (length ts - left)) → Answered ts (Err e)
  fault_left e rest left f same is =
      let place : length ts - left ≡ length ts - length rest = ap (λ n. length ts - n) same in
      let whole : e ≡ error.Syntax (length ts - length rest) (offset_at ts (length ts - length rest)) = is ∙ ap (λ k. error.Syntax k (offset_at ts k)) place in
      subst (λ y. Answered ts (Err y)) (sym whole) (fault (length ts - length rest) f)

  pub deep_left : (e : ParseError) (rest : List Token) (left above : ℕ) → TooDeepAt unit 64 ts (length ts - length rest) (64 + above) → left ≡ length rest
      → e ≡ error.Nesting (length ts - left) (64 + above) (offset_at ts (length ts - left)) → Answered ts (Err e)
  deep_left e rest left above d same is =
      let place : length ts - left ≡ length ts - length rest = ap (λ n. length ts - n) same in
      let whole : e ≡ error.Nesting (length ts - length rest) (64 + above) (offset_at ts (length ts - length rest)) =
      is ∙ ap (λ k. error.Nesting k (64 + above) (offset_at ts k)) place in
      subst (λ y. Answered ts (Err y)) (sym whole) (deep (length ts - length rest) (64 + above) d)
