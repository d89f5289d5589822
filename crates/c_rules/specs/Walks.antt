-- How a text is gone through, part by part: what a part stands for, and what is known behind it.
use Rattle.std.specs.Prelude.{◌≡◌, ℕ, Bool, List, [], ◌∷◌, ◌++◌, Option, Some, None, Result, Ok, Err, fold, min, ⊤}
use Rattle.c_rules.specs.declared.fault.Rule.{Rule}
use Rattle.c_rules.specs.declared.findings.Findings.{Findings}
use Rattle.c_rules.specs.Findings as findings

-- what a part stands for, and what is known behind it
pub data Outcome (S A : Type 0) : Type 0 where
  Gives : (value : A) (after : S) → Outcome S A

-- a part of a text by what is known before it
abbrev pub Walk : Type 0 → Type 0 → Type 0
Walk S A = S → Outcome S A

module _ {S : Type 0} where
  abbrev pub pure : {A : Type 0} → A → Walk S A
  pure a s = Outcome.Gives a s

  abbrev pub and_then : {A B : Type 0} → Outcome S A → (A → Walk S B) → Outcome S B
  and_then (Outcome.Gives a s) q = q a s

  -- two parts, the second of which may depend on what the first stands for
  abbrev pub in_turn : {A B : Type 0} → Walk S A → (A → Walk S B) → Walk S B
  in_turn p q s = and_then (p s) q

  infixl 10 ◌>>=◌
  abbrev pub ◌>>=◌ : {A B : Type 0} → Walk S A → (A → Walk S B) → Walk S B
  p >>= q = in_turn p q

  infixl 10 ◌>>◌
  abbrev pub ◌>>◌ : {A B : Type 0} → Walk S A → Walk S B → Walk S B
  p >> q = p >>= (λ _. q)

  -- a part that may be missing
  abbrev pub optional : {A : Type 0} → Option (Walk S A) → Walk S (Option A)
  optional None = pure None
  optional (Some p) = p >>= (λ a. pure (Some a))

  -- parts one after another, each of which goes on from what those before it stand for
  abbrev pub through : {A B : Type 0} → (A → B → Walk S A) → A → List B → Walk S A
  through step a items s = fold (λ o b. and_then o (λ x. step x b)) (Outcome.Gives a s) items

  -- what each of the parts stands for
  abbrev pub each : {A B : Type 0} → (B → Walk S A) → List B → Walk S (List A)
  each walk items = through (λ found b. walk b >>= (λ a. pure (found ++ a ∷ []))) [] items

  -- parts that stand for nothing
  abbrev pub visited : {B : Type 0} → (B → Walk S (Unit {0})) → List B → Walk S (Unit {0})
  visited walk items = through (λ _ b. walk b) tt items

  -- a call that goes through a part, unless memory runs out
  abbrev pub Walks : {R A E : Type 0} → (R → A) → Outcome S A → Result R E → S → Type 0
  Walks view outcome (Ok r) new = outcome ≡ Outcome.Gives (view r) new
  Walks view outcome (Err e) new = ⊤

-- ---- walks that find broken rules

abbrev pub Finds : Type 0 → Type 0
Finds A = Walk Findings A

-- a rule is broken at the place
abbrev pub finds : Rule → ℕ → Finds (Unit {0})
finds rule at found = Outcome.Gives tt (findings.broken rule at found)

-- the same, if so
abbrev pub finds_if : Bool → Rule → ℕ → Finds (Unit {0})
finds_if is_broken rule at found = Outcome.Gives tt (findings.broken_if is_broken rule at found)

-- the rule that is broken, if there is one
abbrev pub finds_any : Option Rule → ℕ → Finds (Unit {0})
finds_any rule at found = Outcome.Gives tt (findings.broken_any rule at found)

abbrev pub calls : Option ℕ → ℕ → ℕ → Finds (Unit {0})
calls caller callee at found = Outcome.Gives tt (findings.called caller callee at found)

abbrev pub creates : ℕ → ℕ → ℕ → Finds (Unit {0})
creates thread routine at found = Outcome.Gives tt (findings.created thread routine at found)

-- what a place of the text is in the program's tree
abbrev pub place_in_tree : ℕ → ℕ
place_in_tree at = min at 0xffff_ffff
