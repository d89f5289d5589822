-- Each text has one answer: a sentence, one place of a syntax fault, or one place at which it nests too deep.
use Rattle.std.proofs.Common.{◌≡◌, ℕ, zero, suc, ◌+◌, ◌<◌, ◌≤◌, List, [], ◌∷◌, ◌++◌, length, take, refl, sym, ap, ◌∙◌, subst, ⊎_elim, append_assoc, length-append, arith}
use Rattle.std.specs.Prelude.{Bool}
use Rattle.std.proofs.lemmas.Bool.{cases_lt}
use Rattle.std.proofs.lemmas.List.{length-take-le, take_all, append-nil}
use Rattle.std.proofs.Math.Nat.{le_antisymm}
use Rattle.grammar.specs.Rules.{Placed, Family}
use Rattle.grammar.specs.Sentences.{plain, Within, Starts, Sentence, SentenceWithin, StartsSentence, StartsWithin, FaultAt, TooDeepAt}
use Rattle.grammar.specs.Readers.{Reader}
use Rattle.grammar.proofs.Lists.{plain-append, length-plain, plain_cut, within_front, within_back, Agrees, agrees_same, agrees_front}
use Rattle.grammar.proofs.Good.{Reads}

in_order : (i k : ℕ) → (i < k → ⊥) → (k < i → ⊥) → i ≡ k
in_order i k a b = le_antisymm (not_less k i b) (not_less i k a) where
  not_less : (i k : ℕ) → (i < k → ⊥) → k ≤ i
  not_less zero zero a = omega arith
  not_less zero (suc k) a = absurd (a (omega arith))
  not_less (suc i) zero a = omega arith
  not_less (suc i) (suc k) a = let h = not_less i k (λ lt. a (omega arith)) in omega arith

module _ {T : Type 0} where
  -- the first i tokens are the first of the first k
  take_front : (i k : ℕ) (ts : List T) → i ≤ k → (z : List T) × (take k ts ≡ take i ts ++ z)
  take_front zero k ts le = (take k ts, refl)
  take_front (suc i) zero ts le = absurd (omega arith)
  take_front (suc i) (suc k) [] le = ([], refl)
  take_front (suc i) (suc k) (t ∷ ts) le = let h = take_front i k ts (omega arith) in (h.0, ap (λ l. t ∷ l) h.1)

  same_front : (x y a b : List T) → x ++ a ≡ y ++ b → length x ≡ length y → x ≡ y
  same_front [] [] a b e s = refl
  same_front [] (t ∷ y) a b e s = absurd (omega (arith, s))
  same_front (t ∷ x) [] a b e s = absurd (omega (arith, s))
  same_front (t ∷ x) (u ∷ y) a b e s =
      let heads : t ≡ u = cc in
      let tails : x ++ a ≡ y ++ b = cc in
      let rest = same_front x y a b tails (omega (arith, s)) in
      (λ i. heads i ∷ rest i)

  length_take : (k : ℕ) (ts : List T) → length (take k ts) ≤ length ts
  length_take zero ts = omega arith
  length_take (suc k) [] = omega arith
  length_take (suc k) (t ∷ ts) = let h = length_take k ts in omega arith

  module _ {A : Type 0} {P : Family T A} {p : ℕ → ℕ → Reader T A} {first : T → Bool} {last : A → T → Bool} {null : Bool} (good : (n : ℕ) → Reads (λ depth. Unit {0}) n P (p n) first last null) where
    -- what starts a sentence has one nesting
    pub one_nesting : (x y : List (Placed T)) → Starts P 0 x → Starts P 0 y → plain x ≡ plain y → x ≡ y
    one_nesting x y h k e =
        let w : List (Placed T) = x ++ h.0 in
        let w' : List (Placed T) = y ++ k.0 in
        let n : ℕ = suc (length w + length w') in
        let agree : Agrees w w' = (good n).fixed h.2.0 k.2.0 0 w w' h.1 k.1 (omega arith) (omega arith) h.2.1 k.2.1 in
        agrees_same x y (agrees_front x y h.0 k.0 agree) e

    starts_shorter : (x y : List (Placed T)) → Starts P 0 (x ++ y) → Starts P 0 x
    starts_shorter x y h = (y ++ h.0, h.1, (h.2.0, subst (λ l. P h.2.0 0 l h.1) (append_assoc x y h.0) h.2.1))

    -- fewer tokens of what starts a sentence, within the same limit
    cut_within : (limit i k : ℕ) (ts : List T) → i ≤ k → StartsWithin P limit (take k ts) → StartsWithin P limit (take i ts)
    cut_within limit i k ts le h =
        let z = take_front i k ts le in
        let c = plain_cut h.0 (take i ts) z.0 (h.1 ∙ z.1) in
        (c.0, c.3, starts_shorter c.0 c.1 (subst (Starts P 0) c.2 h.2), within_front limit c.0 c.1 (subst (Within limit) c.2 h.3))

    cut_starts : (i k : ℕ) (ts : List T) → i ≤ k → StartsSentence P (take k ts) → StartsSentence P (take i ts)
    cut_starts i k ts le h =
        let z = take_front i k ts le in
        let c = plain_cut h.0 (take i ts) z.0 (h.1 ∙ z.1) in
        (c.0, c.3, starts_shorter c.0 c.1 (subst (Starts P 0) c.2 h.2))

    deep_starts : (limit : ℕ) (ts : List T) (k n : ℕ) (d : TooDeepAt P limit ts k n) → StartsSentence P (take (k + 1) ts)
    deep_starts limit ts k n d = (d.front ++ ((d.token, n) ∷ []), plain-append d.front ((d.token, n) ∷ []) ∙ d.is, d.begun)

    deep_inside : (limit : ℕ) (ts : List T) (k n : ℕ) → TooDeepAt P limit ts k n → k < length ts
    deep_inside limit ts k n d =
        let size : length (take (k + 1) ts) ≤ length ts = length_take (k + 1) ts in
        omega (arith, size, ap length d.is, length-append (plain d.front) (d.token ∷ []), length-plain d.front, d.place)

    -- what starts a sentence within the limit ends before a token that is too deep
    deep_past : (limit : ℕ) (ts : List T) (j k n : ℕ) → TooDeepAt P limit ts j n → j < k → StartsWithin P limit (take k ts) → ⊥
    deep_past limit ts j k n d lt h =
        let c = cut_within limit (j + 1) k ts (omega arith) h in
        let front : List (Placed T) = d.front ++ ((d.token, n) ∷ []) in
        let same : c.0 ≡ front = one_nesting c.0 front c.2 d.begun (c.1 ∙ sym d.is ∙ sym (plain-append d.front ((d.token, n) ∷ []))) in
        let low = within_back limit d.front ((d.token, n) ∷ []) (subst (Within limit) same c.3) in
        omega (arith, low.0, d.deep)

    deep_before : (limit : ℕ) (ts : List T) (k n : ℕ) → TooDeepAt P limit ts k n → StartsWithin P limit (take k ts)
    deep_before limit ts k n d =
        let z = take_front k (k + 1) ts (omega arith) in
        let long : plain d.front ++ (d.token ∷ []) ≡ take k ts ++ z.0 = d.is ∙ z.1 in
        let c = plain_cut (d.front ++ ((d.token, n) ∷ [])) (take k ts) z.0 (plain-append d.front ((d.token, n) ∷ []) ∙ long) in
        (d.front, same_front (plain d.front) (take k ts) (d.token ∷ []) z.0 long (sizes (take k ts) refl), starts_shorter d.front ((d.token, n) ∷ []) d.begun, d.before) where
          sizes : (y : List T) → take k ts ≡ y → length (plain d.front) ≡ length y
          sizes y e =
              let lt = deep_inside limit ts k n d in
              let size = length-take-le k ts (omega (arith, lt)) in
              omega (arith, size, ap length e, length-plain d.front, d.place)

    pub fault_once : (limit : ℕ) (ts : List T) (j k : ℕ) → FaultAt P limit ts j → FaultAt P limit ts k → j ≡ k
    fault_once limit ts j k a b = in_order j k (past j k a b) (past k j b a) where
      past : (j k : ℕ) → FaultAt P limit ts j → FaultAt P limit ts k → j < k → ⊥
      past j k a b lt =
          let begun = cut_within limit (j + 1) k ts (omega arith) b.begun in
          a.stuck (omega (arith, b.inside, lt)) (begun.0, begun.1, begun.2)

    pub deep_once : (limit : ℕ) (ts : List T) (j k m n : ℕ) → TooDeepAt P limit ts j m → TooDeepAt P limit ts k n → (j ≡ k) × (m ≡ n)
    deep_once limit ts j k m n a b =
        let place : j ≡ k = in_order j k (λ lt. deep_past limit ts j k m a lt (deep_before limit ts k n b)) (λ lt. deep_past limit ts k j n b lt (deep_before limit ts j m a)) in
        let x : List (Placed T) = a.front ++ ((a.token, m) ∷ []) in
        let y : List (Placed T) = b.front ++ ((b.token, n) ∷ []) in
        let fronts : a.front ≡ b.front = one_nesting a.front b.front (starts_shorter a.front ((a.token, m) ∷ []) a.begun) (starts_shorter b.front ((b.token, n) ∷ []) b.begun)
        (same_front (plain a.front) (plain b.front) (a.token ∷ []) (b.token ∷ []) (a.is ∙ ap (λ i. take (i + 1) ts) place ∙ sym b.is)
        (omega (arith, length-plain a.front, length-plain b.front, a.place, b.place, place))) in
        let same : x ≡ y = one_nesting x y a.begun b.begun (plain-append a.front ((a.token, m) ∷ []) ∙ a.is ∙ ap (λ i. take (i + 1) ts) place ∙ sym b.is ∙ sym
        (plain-append b.front ((b.token, n) ∷ []))) in
        (place, same_nesting a.token b.token m n (same_back a.front b.front ((a.token, m) ∷ []) ((b.token, n) ∷ []) fronts same)) where
          same_back : (x y c d : List (Placed T)) → x ≡ y → x ++ c ≡ y ++ d → c ≡ d
          same_back [] [] c d e f = f
          same_back [] (u ∷ y) c d e f = cc
          same_back (t ∷ x) [] c d e f = cc
          same_back (t ∷ x) (u ∷ y) c d e f =
              let e' : x ≡ y = cc in
              let f' : x ++ c ≡ y ++ d = cc in
              same_back x y c d e' f'

          same_nesting : (t u : T) (m n : ℕ) → ◌≡◌ {A = List (Placed T)} ((t, m) ∷ []) ((u, n) ∷ []) → m ≡ n
          same_nesting t u m n e =
              let was : Placed T = (t, m) in
              let is : Placed T = (u, n) in
              let pair : was ≡ is = cc in
              ap (λ z. z.1) pair

    pub fault_or_deep : (limit : ℕ) (ts : List T) (j k n : ℕ) → FaultAt P limit ts j → TooDeepAt P limit ts k n → ⊥
    fault_or_deep limit ts j k n a b =
        ⊎_elim
        (λ lt. deep_past limit ts k j n b lt a.begun)
        (λ le. a.stuck (let lt = deep_inside limit ts k n b in omega (arith, lt, le)) (cut_starts (j + 1) (k + 1) ts (omega (arith, le)) (deep_starts limit ts k n b)))
        (cases_lt k j)

    sentence_starts : (ts : List T) (v : A) (k : ℕ) → Sentence P ts v → StartsSentence P (take k ts)
    sentence_starts ts v k h =
        let all : take (length ts + k) ts ≡ ts = take_all (length ts + k) ts (omega arith) in
        cut_starts k (length ts + k) ts (omega arith) (h.0, h.1 ∙ sym all, ([], v, (h.2.0, subst (λ l. P h.2.0 0 l v) (sym (append-nil h.0)) h.2.1)))

    -- a sentence has no syntax fault
    pub sentence_or_fault : (limit : ℕ) (ts : List T) (v : A) (k : ℕ) → Sentence P ts v → FaultAt P limit ts k → ⊥
    sentence_or_fault limit ts v k h a =
        ⊎_elim
        (λ lt. a.stuck lt (sentence_starts ts v (k + 1) h))
        (λ le. a.cut (let i = a.inside in omega (arith, i, le)) v h)
        (cases_lt k (length ts))

    -- a sentence that keeps the limit has no token that is too deep
    pub sentence_or_deep : (limit : ℕ) (ts : List T) (v : A) (k n : ℕ) → SentenceWithin P limit ts v → TooDeepAt P limit ts k n → ⊥
    sentence_or_deep limit ts v k n h d =
        let all : take (length ts) ts ≡ ts = take_all (length ts) ts (omega arith) in
        deep_past limit ts k (length ts) n d (deep_inside limit ts k n d) (h.0, h.1 ∙ sym all, ([], v, (h.2.0, subst (λ l. P h.2.0 0 l v) (sym (append-nil h.0)) h.2.1)), h.3)
