-- Sentences, what starts a sentence, and the place at which a text departs from a grammar or nests too deep.
use Rattle.std.specs.Prelude.{◌≡◌, ℕ, ◌+◌, ◌<◌, ◌≤◌, List, [], ◌∷◌, ◌++◌, length, take}
use Rattle.grammar.specs.Rules.{Placed, Family}

module _ {T : Type 0} where
  -- the tokens without their nesting
  abbrev pub plain : List (Placed T) → List T
  plain [] = []
  plain (x ∷ xs) = x.0 ∷ plain xs

  -- no nesting is above the limit
  abbrev pub Within : ℕ → List (Placed T) → Type 0
  Within limit [] = Unit {0}
  Within limit (x ∷ xs) = (x.1 ≤ limit) × Within limit xs

  module _ {A : Type 0} (P : Family T A) where
    -- at a nesting, the tokens spell the value, however often the rule is entered within itself
    abbrev pub Spelled : ℕ → List (Placed T) → A → Type 0
    Spelled at placed v = (depth : ℕ) × P depth at placed v

    -- some sentence starts with these tokens
    abbrev pub Starts : ℕ → List (Placed T) → Type 0
    Starts at front = (rest : List (Placed T)) × (v : A) × Spelled at (front ++ rest) v

    -- the tokens are a sentence with this value; a whole text stands at nesting 0
    abbrev pub Sentence : List T → A → Type 0
    Sentence ts v = (placed : List (Placed T)) × (plain placed ≡ ts) × Spelled 0 placed v

    -- the same, with no token nested deeper than the limit
    abbrev pub SentenceWithin : ℕ → List T → A → Type 0
    SentenceWithin limit ts v = (placed : List (Placed T)) × (plain placed ≡ ts) × Spelled 0 placed v × Within limit placed

    -- some sentence starts with these tokens
    abbrev pub StartsSentence : List T → Type 0
    StartsSentence ts = (front : List (Placed T)) × (plain front ≡ ts) × Starts 0 front

    -- the same, with none of them nested deeper than the limit
    abbrev pub StartsWithin : ℕ → List T → Type 0
    StartsWithin limit ts = (front : List (Placed T)) × (plain front ≡ ts) × Starts 0 front × Within limit front

    -- A syntax fault at token k: some sentence starts with the first k tokens, none of them nested deeper than the
    -- limit, and no sentence starts with the first k + 1. Where k is the number of tokens the text ends too early.
    pub record FaultAt (limit : ℕ) (ts : List T) (k : ℕ) : Type 0 where
      pub inside : k ≤ length ts
      pub begun : StartsWithin limit (take k ts)
      pub stuck : k < length ts → StartsSentence (take (k + 1) ts) → ⊥
      pub cut : k ≡ length ts → (v : A) → Sentence ts v → ⊥

    -- Token k has this nesting and is the first one nested deeper than the limit, in a sentence that starts with the
    -- first k + 1 tokens.
    pub record TooDeepAt (limit : ℕ) (ts : List T) (k : ℕ) (nesting : ℕ) : Type 0 where
      pub front : List (Placed T)
      pub token : T
      pub begun : Starts 0 (front ++ ((token, nesting) ∷ []))
      pub place : length front ≡ k
      pub is : plain front ++ (token ∷ []) ≡ take (k + 1) ts
      pub before : Within limit front
      pub deep : limit < nesting
