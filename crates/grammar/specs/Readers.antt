-- Readers: functions that read a value from the front of a list of tokens, top down.
--
-- The head of Rules.antt shows a reading beside its rule and its program. It has a parameter `room`: how many levels of
-- nesting are left, the one that the phrase stands at among them. What the rule puts into `nested` is read by a reader of
-- its own: a bracket by `reads_within`; what refers to itself by cases on the room,
--
--     read_cast zero = too_deep_or (is OpenRound) begins_cast
--     read_cast (suc room) = read_operand (read_cast room) room
use Rattle.std.specs.Prelude.{ℕ, zero, suc, Bool, true, false, if◌then◌else◌, ◌&&◌, ◌==◌, List, [], ◌∷◌, ◌++◌, length, Option, Some, None, Result, Ok, Err}

-- why reading stopped, and the tokens from the faulty one on
pub data Stop (T : Type 0) : Type 0 where
  -- no sentence goes on with the first of these tokens
  Syntax : List T → Stop T
  -- a sentence goes on with the first of these tokens, but it is nested too deep, by so many levels
  Deep : ℕ → List T → Stop T

abbrev pub Reading : Type 0 → Type 0 → Type 0
Reading T A = Result (A × List T) (Stop T)

-- the value and the tokens after it, or why there is none
abbrev pub Reader : Type 0 → Type 0 → Type 0
Reader T A = List T → Reading T A

-- one more at the end of a list
abbrev pub appended : {A : Type 0} → List A → A → List A
appended found v = found ++ (v ∷ [])

module _ {T : Type 0} where
  abbrev pub reads_pure : {A : Type 0} → A → Reader T A
  reads_pure a ts = Ok (a, ts)

  abbrev pub taken : {A : Type 0} → T → List T → Option A → Reading T A
  taken t ts (Some a) = Ok (a, ts)
  taken t ts None = Err (Syntax (t ∷ ts))

  abbrev pub reads_one : {A : Type 0} → (T → Option A) → Reader T A
  reads_one f [] = Err (Syntax [])
  reads_one f (t ∷ ts) = taken t ts (f t)

  abbrev pub and_then : {A B : Type 0} → Reading T A → (A → Reader T B) → Reading T B
  and_then (Ok x) q = q x.0 x.1
  and_then (Err stop) q = Err stop

  abbrev pub reads_both : {A B : Type 0} → Reader T A → (A → Reader T B) → Reader T B
  reads_both p q ts = and_then (p ts) q

  infixl 10 ◌>>=◌
  abbrev pub ◌>>=◌ : {A B : Type 0} → Reader T A → (A → Reader T B) → Reader T B
  p >>= q = reads_both p q

  infixl 10 ◌>>◌
  abbrev pub ◌>>◌ : {A B : Type 0} → Reader T A → Reader T B → Reader T B
  p >> q = p >>= (λ _. q)

  -- the next token is of the set
  abbrev pub sees : (T → Bool) → List T → Bool
  sees f [] = false
  sees f (t ∷ ts) = f t

  -- the next tokens are of the sets, one of each
  abbrev pub sees_all : List (T → Bool) → List T → Bool
  sees_all [] ts = true
  sees_all (f ∷ fs) [] = false
  sees_all (f ∷ fs) (t ∷ ts) = f t && sees_all fs ts

  -- one reader or the other, by the tokens ahead
  abbrev pub reads_when : {A : Type 0} → (List T → Bool) → Reader T A → Reader T A → Reader T A
  reads_when test p q ts = if test ts then p ts else q ts

  -- the same by the next token
  abbrev pub reads_either : {A : Type 0} → (T → Bool) → Reader T A → Reader T A → Reader T A
  reads_either f p q = reads_when (sees f) p q

  -- once if the next token is of the set, else not at all
  abbrev pub reads_optional : {A : Type 0} → (T → Bool) → Reader T A → Reader T (Option A)
  reads_optional f p = reads_either f (p >>= (λ v. reads_pure (Some v))) (reads_pure None)

  -- no level of nesting is left for a rule whose sentences begin with the tokens of the set
  abbrev pub too_deep : {A : Type 0} → (T → Bool) → Reader T A
  too_deep f ts = if sees f ts then Err (Deep 1 ts) else Err (Syntax ts)

  -- the same where those of a second set, which open a bracket, stand one level deeper still
  abbrev pub too_deep_or : {A : Type 0} → (T → Bool) → (T → Bool) → Reader T A
  too_deep_or opens f ts = if sees opens ts then Err (Deep 2 ts) else too_deep f ts

  -- a rule one level deeper, by how many levels are left for it
  abbrev pub reads_within : {A : Type 0} → (T → Bool) → ℕ → Reader T A → Reader T A
  reads_within f room p ts = if room == 0 then too_deep f ts else p ts

  -- a loop: as long as the tokens ahead pass the test, one more value joins those found; the number bounds the turns
  unfoldable pub reads_while : {S A : Type 0} → (List T → Bool) → (S → A → S) → Reader T A → ℕ → S → Reader T S
  reads_while test join p zero found ts = Ok (found, ts)
  reads_while test join p (suc n) found ts =
      if test ts then and_then (p ts) (λ v. reads_while test join p n (join found v)) else Ok (found, ts)

  -- the values that the loop finds while the next token is of the set; a turn takes a token
  unfoldable pub reads_many : {A : Type 0} → (T → Bool) → Reader T A → Reader T (List A)
  reads_many f p ts = reads_while (sees f) appended p (length ts) [] ts
