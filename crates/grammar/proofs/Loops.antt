-- Any number of a rule, and what follows it.
use Rattle.std.proofs.Common.{◌≡◌, ℕ, zero, suc, ◌+◌, ◌-◌, ◌≤◌, List, [], ◌∷◌, ◌++◌, length, Bool, true, false, refl, sym, ap, ◌∙◌, subst, inl, inr, ⊎_elim, append_assoc, arith}
use Rattle.std.specs.Prelude.{Ok, Err, if◌then◌else◌, ◌||◌, fold}
use Rattle.std.proofs.lemmas.Bool.{or_left, or_right, both_ways}
use Rattle.std.proofs.lemmas.List.{append-nil}
use Rattle.std.proofs.Math.Bool.{or-false}
use Rattle.grammar.specs.Rules.{Placed, Family, pure, ◌>>=◌, many}
use Rattle.grammar.specs.Sentences.{Spelled}
use Rattle.grammar.specs.Readers.{Reading, Reader, and_then, sees, sees_all, reads_pure, reads_both, reads_when, reads_while, reads_many, appended}
use Rattle.grammar.proofs.Lists.{or_cases, no_tokens}
use Rattle.grammar.proofs.Good.{Reads, ◌∘>◌, less}
use Rattle.grammar.proofs.Parts.{resize, same_rule, same_reader, reads_nothing, some_then}
use Rattle.grammar.proofs.Choice.{◌<∘>◌, StartsBy, DepartsBy, either_in, ahead_two, starts_both}

pub fold-appended : {A : Type 0} → (found vs : List A) → fold appended found vs ≡ found ++ vs
fold-appended found [] = sym (append-nil found)
fold-appended found (v ∷ vs) = fold-appended (found ++ (v ∷ [])) vs ∙ append_assoc found (v ∷ []) vs

module _ {T : Type 0} where
  module _ {D : ℕ → Type 0} {S A B : Type 0} {n : ℕ} {P : Family T A} {Q : S → Family T B} {p : ℕ → Reader T A} {q : S → ℕ → Reader T B}
      {first first' : T → Bool} {last : A → T → Bool} {last' : B → T → Bool} {null' : Bool}
      (join : S → A → S) (test : List T → Bool) (nothing_ahead : test [] ≡ false)
      (item : Reads D n P p first last false) (after : (s : S) → Reads D n (Q s) (q s) first' last' null')
      (again_apart : (v : A) (t : T) → last v t ≡ true → first t ≡ true → ⊥) (after_apart : (v : A) (t : T) → last v t ≡ true → first' t ≡ true → ⊥)
      (Last : B → T → Bool) (early : (v : A) (b : B) (t : T) → null' ≡ true → last v t ≡ true → Last b t ≡ true)
      (choose : (k : ℕ) → k ≤ n → (s : S) (R : A → Family T B) (r : A → ℕ → Reader T B) → Reads D k (P ∘> R) (λ room. reads_both (p room) (λ v. r v room)) first Last false
      → Reads D k ((P ∘> R) <∘> Q s) (λ room. reads_when test (reads_both (p room) (λ v. r v room)) (q s room)) (λ t. first t || first' t) Last null') where
    -- the rest of the loop, and what follows it
    abbrev pub Tail : S → Family T B
    Tail s depth = many (P depth) >>= (λ vs. Q (fold join s vs) depth)

    abbrev First : T → Bool
    First t = first t || first' t

    -- one more and the rest, or what follows
    abbrev Turn : S → Family T B
    Turn s = (P ∘> (λ v. Tail (join s v))) <∘> Q s

    turn_to : (s : S) (depth at : ℕ) (w : List (Placed T)) (b : B) → Turn s depth at w b → Tail s depth at w b
    turn_to s depth at w b h =
        ⊎_elim
        (λ k.
        let t = k.5 in
        (k.0 ∷ t.0, k.1 ++ t.1, t.2, k.3 ∙ ap (λ l. k.1 ++ l) t.3 ∙ sym (append_assoc k.1 t.1 t.2), (k.1, t.1, refl, k.4, t.4), t.5))
        (λ k. ([], [], w, refl, refl, k))
        h

    turn_from_at : (s : S) (depth at : ℕ) (w : List (Placed T)) (b : B) (vs : List A) (f r : List (Placed T)) → w ≡ f ++ r → many (P depth) at f vs → Q
        (fold join s vs) depth at r b → Turn s depth at w b
    turn_from_at s depth at w b [] f r e m k =
        let same : r ≡ w = sym (e ∙ ap (λ l. l ++ r) m) in
        inr (subst (λ l. Q s depth at l b) same k)
    turn_from_at s depth at w b (v ∷ vs) f r e m k = inl (v, m.0, m.1 ++ r, e ∙ ap (λ l. l ++ r) m.2 ∙ append_assoc m.0 m.1 r, m.3, (vs, m.1, r, refl, m.4, k))

    turn_from : (s : S) (depth at : ℕ) (w : List (Placed T)) (b : B) → Tail s depth at w b → Turn s depth at w b
    turn_from s depth at w b h = turn_from_at s depth at w b h.0 h.1 h.2 h.3 h.4 h.5

    -- ---- what is known of the rule before any of it is read

    many_deeper : (depth at : ℕ) → D depth → (w : List (Placed T)) (vs : List A) → many (P depth) at w vs → many (P (suc depth)) at w vs
    many_deeper depth at dd w [] h = h
    many_deeper depth at dd w (v ∷ vs) h = (h.0, h.1, h.2, item.deeper depth at dd h.0 v h.3, many_deeper depth at dd h.1 vs h.4)

    turn_begins : (depth at : ℕ) → D depth → (s : S) (t : Placed T) (w : List (Placed T)) (b : B) → Turn s depth at (t ∷ w) b → First t.0 ≡ true
    turn_begins depth at dd s t w b h =
        ⊎_elim (λ k. or_left (first t.0) (first' t.0) (item_begins k.1 k.2 k.0 k.3 k.4)) (λ k. or_right (first t.0) (first' t.0) ((after s).begins depth at dd t w b k)) h where
          item_begins : (f r : List (Placed T)) (v : A) → t ∷ w ≡ f ++ r → P depth at f v → first t.0 ≡ true
          item_begins [] r v e k = absurd (both_ways false refl (item.empty depth at dd v k))
          item_begins (x ∷ f) r v e k = let same : x ≡ t = cc in subst (λ y. first y.0 ≡ true) same (item.begins depth at dd x f v k)

    turn_above : (depth at : ℕ) → D depth → (s : S) (t : Placed T) (w : List (Placed T)) (b : B) → Turn s depth at (t ∷ w) b → at ≤ t.1
    turn_above depth at dd s t w b h =
        ⊎_elim (λ k. item_above k.1 k.2 k.0 k.3 k.4) (λ k. (after s).above depth at dd t w b k) h where
          item_above : (f r : List (Placed T)) (v : A) → t ∷ w ≡ f ++ r → P depth at f v → at ≤ t.1
          item_above [] r v e k = absurd (both_ways false refl (item.empty depth at dd v k))
          item_above (x ∷ f) r v e k = let same : x ≡ t = cc in subst (λ y. at ≤ y.1) same (item.above depth at dd x f v k)

    turn_empty : (depth at : ℕ) → D depth → (s : S) (b : B) → Turn s depth at [] b → null' ≡ true
    turn_empty depth at dd s b h = ⊎_elim (λ k. no_item k.1 k.2 k.0 k.3 k.4) (λ k. (after s).empty depth at dd b k) h where
      no_item : {X : Type 0} (f r : List (Placed T)) (v : A) → [] ≡ f ++ r → P depth at f v → X
      no_item [] r v e k = absurd (both_ways false refl (item.empty depth at dd v k))
      no_item (x ∷ f) r v e k = cc

    only_after : (s : S) (at : ℕ) (w : List (Placed T)) (b : B) → Spelled (Q s) at w b → Spelled (Tail s) at w b
    only_after s at w b h = (h.0, turn_to s h.0 at w b (inr h.1))

    shape : (s : S) (r : ℕ → Reader T B) → Reads D 0 (Tail s) r First Last null'
    shape s r = record {
      whole = λ lt. absurd (omega arith);
      deeper = λ depth at dd w b h. (h.0, h.1, h.2, h.3, many_deeper depth at dd h.1 h.0 h.4, (after (fold join s h.0)).deeper depth at dd h.2 b h.5);
      begins = λ depth at dd t w b h. turn_begins depth at dd s t w b (turn_from s depth at (t ∷ w) b h);
      above = λ depth at dd t w b h. turn_above depth at dd s t w b (turn_from s depth at (t ∷ w) b h);
      begun = λ lt. absurd (omega arith);
      empty = λ depth at dd b h. turn_empty depth at dd s b (turn_from s depth at [] b h);
      nothing = λ all at h. let k = (after s).nothing all at h in (k.0, only_after s at [] k.0 k.1);
      inhabited = λ all at. let k = (after s).inhabited all at in (k.0, k.1, only_after s at k.0 k.1 k.2);
      stable = λ room ts lt calm. absurd (omega arith);
      fixed = λ depth depth' at w w' v v' lt lt' h h'. absurd (omega arith);
      sound = λ at room ts lt. absurd (omega arith);
      complete = λ depth at room ts w rest v lt e h low av. absurd (omega arith);
    }

    -- ---- turn by turn

    turn : (m : ℕ) → suc m ≤ n → (s : S) (r : S → ℕ → Reader T B) → ((s : S) → Reads D m (Tail s) (r s) First Last null')
        → Reads D (suc m) (Tail s) (λ room. reads_when test (reads_both (p room) (λ v. r (join s v) room)) (q s room)) First Last null'
    turn m le s r tails =
        let more = some_then {n = suc m} {m = m} (omega arith) (less item (suc m) le) (λ v. tails (join s v)) (λ v t l f. or_cases (first t) (first' t) f (again_apart v t l) (after_apart v t l))
        Last (λ b t e. e) (λ v depth at b t z h e. early v b t z e) in
        same_rule (choose (suc m) le s (λ v. Tail (join s v)) (λ v. r (join s v)) more) (Tail s) (turn_to s) (turn_from s)

    unfoldable reads_loop : ℕ → S → ℕ → Reader T B
    reads_loop zero s room ts = q s room ts
    reads_loop (suc k) s room ts = if test ts then and_then (p room ts) (λ v. reads_loop k (join s v) room) else q s room ts

    loop_at : (k : ℕ) → suc k ≤ n → (s : S) → Reads D (suc k) (Tail s) (reads_loop k s) First Last null'
    unfolding reads_loop
    loop_at zero le s =
        let none = turn zero le s (λ s. q s) (λ s. shape s (q s)) in
        same_reader none (λ room ts. q s room ts) (λ room ts lt.
        let empty : ts ≡ [] = no_tokens ts lt in
        let out : test ts ≡ false = ap test empty ∙ nothing_ahead in
        ap (λ b. if b then and_then (p room ts) (λ v. q (join s v) room) else q s room ts) out)
    loop_at (suc k) le s = turn (suc k) le s (reads_loop k) (loop_at k (omega arith))

    while_seen : (k : ℕ) → ((s : S) (room : ℕ) (ts : List T) → reads_loop k s room ts ≡ and_then (reads_while test join (p room) k s ts) (λ s. q s room)) → (s : S) (room : ℕ) (ts : List T) (b : Bool)
        → (if b then and_then (p room ts) (λ v. reads_loop k (join s v) room) else q s room ts)
        ≡ and_then (if b then and_then (p room ts) (λ v. reads_while test join (p room) k (join s v)) else Ok (s, ts)) (λ s. q s room)
    while_seen k same s room ts true = item_seen (p room ts) where
      item_seen : (x : Reading T A) → and_then x (λ v. reads_loop k (join s v) room) ≡ and_then (and_then x (λ v. reads_while test join (p room) k (join s v))) (λ s. q s room)
      item_seen (Ok x) = same (join s x.0) room x.1
      item_seen (Err stop) = refl
    while_seen k same s room ts false = refl

    while_same : (k : ℕ) (s : S) (room : ℕ) (ts : List T) → reads_loop k s room ts ≡ and_then (reads_while test join (p room) k s ts) (λ s. q s room)
    unfolding reads_loop reads_while
    while_same zero s room ts = refl
    while_same (suc k) s room ts = while_seen k (while_same k) s room ts (test ts)

    -- with as many turns as there are tokens
    loop_all : (s : S) → Reads D n (Tail s) (λ room ts. reads_loop (length ts) s room ts) First Last null'
    loop_all s =
        let known = shape s (λ room ts. reads_loop (length ts) s room ts) in
        record {
          whole = item.whole;
          deeper = known.deeper;
          begins = known.begins;
          above = known.above;
          begun = λ lt at t h. (loop_at (n - 1) (omega arith) s).begun (omega arith) at t h;
          empty = known.empty;
          nothing = known.nothing;
          inhabited = known.inhabited;
          stable = λ room ts lt calm. (loop_at (length ts) (omega arith) s).stable room ts (omega arith) calm;
          fixed = λ depth depth' at w w' v v' lt lt' h h'. (loop_at (n - 1) (omega (arith, lt)) s).fixed depth depth' at w w' v v' (omega (arith, lt)) (omega (arith, lt')) h h';
          sound = λ at room ts lt. (loop_at (length ts) (omega arith) s).sound at room ts (omega arith);
          complete = λ depth at room ts w rest v lt e h low av. (loop_at (length ts) (omega arith) s).complete depth at room ts w rest v (omega arith) e h low av;
        }

    pub loop_in : (s : S) → Reads D n (Tail s) (λ room ts. and_then (reads_while test join (p room) (length ts) s ts) (λ s. q s room)) (λ t. first t || first' t) Last null'
    loop_in s = same_reader (loop_all s) (λ room ts. and_then (reads_while test join (p room) (length ts) s ts) (λ s. q s room)) (λ room ts lt. while_same (length ts) s room ts)

  -- ---- by the next token

  module _ {D : ℕ → Type 0} {S A B : Type 0} {n : ℕ} {P : Family T A} {Q : S → Family T B} {p : ℕ → Reader T A} {q : S → ℕ → Reader T B}
      {first first' : T → Bool} {last : A → T → Bool} {last' : B → T → Bool} {null' : Bool}
      (join : S → A → S) (item : Reads D n P p first last false) (after : (s : S) → Reads D n (Q s) (q s) first' last' null')
      (again_apart : (v : A) (t : T) → last v t ≡ true → first t ≡ true → ⊥) (after_apart : (v : A) (t : T) → last v t ≡ true → first' t ≡ true → ⊥)
      (apart : (t : T) → first t ≡ true → first' t ≡ true → ⊥)
      (Last : B → T → Bool) (after_in : (b : B) (t : T) → last' b t ≡ true → Last b t ≡ true)
      (early : (v : A) (b : B) (t : T) → null' ≡ true → last v t ≡ true → Last b t ≡ true) (first_in : (b : B) (t : T) → null' ≡ true → first t ≡ true → Last b t ≡ true) where
    -- any number of P, and then Q of what was found
    pub loop : (s : S) → Reads D n (λ depth. many (P depth) >>= (λ vs. Q (fold join s vs) depth))
        (λ room ts. and_then (reads_while (sees first) join (p room) (length ts) s ts) (λ s. q s room)) (λ t. first t || first' t) Last null'
    loop = loop_in join (sees first) refl item after again_apart after_apart Last early
        (λ k le s R r left. either_in left (less (after s) k le) apart Last (λ b t e. e) after_in (λ depth at b t z h e. first_in b t z e))

  module _ {D : ℕ → Type 0} {S A : Type 0} {n : ℕ} {P : Family T A} {p : ℕ → Reader T A} {first : T → Bool} {last : A → T → Bool}
      (join : S → A → S) (item : Reads D n P p first last false) (again_apart : (v : A) (t : T) → last v t ≡ true → first t ≡ true → ⊥)
      (Last : S → T → Bool) (last_in : (v : A) (b : S) (t : T) → last v t ≡ true → Last b t ≡ true) (first_in : (b : S) (t : T) → first t ≡ true → Last b t ≡ true) where
    and_pure : (r : Reading T S) → and_then r (λ s. reads_pure s) ≡ r
    and_pure (Ok x) = refl
    and_pure (Err stop) = refl

    -- any number of P, joined one after the other to what was there
    pub folded : (s : S) → Reads D n (λ depth. many (P depth) >>= (λ vs. pure (fold join s vs))) (λ room ts. reads_while (sees first) join (p room) (length ts) s ts) first Last true
    folded s =
        let all = loop join item (λ s. reads_nothing {n = n} item.whole s) again_apart (λ v t l f. cc) (λ t l f. cc) Last (λ b t e. cc) (λ v b t z e. last_in v b t e) (λ b t z e. first_in b t e) s in
        resize (same_reader all (λ room ts. reads_while (sees first) join (p room) (length ts) s ts) (λ room ts lt. and_pure (reads_while (sees first) join (p room) (length ts) s ts)))
        first Last true (λ t. or-false (first t)) (λ v t h. h) refl

  module _ {D : ℕ → Type 0} {A : Type 0} {n : ℕ} {P : Family T A} {p : ℕ → Reader T A} {first last : T → Bool}
      (item : Reads D n P p first (λ v. last) false) (again_apart : (t : T) → last t ≡ true → first t ≡ true → ⊥) where
    abbrev Folded : Family T (List A)
    Folded depth = many (P depth) >>= (λ vs. pure (fold appended [] vs))

    to_many : (depth at : ℕ) (w : List (Placed T)) (vs : List A) → Folded depth at w vs → many (P depth) at w vs
    to_many depth at w vs h =
        let value : vs ≡ h.0 = h.5.1 ∙ fold-appended [] h.0 in
        let tokens : w ≡ h.1 = h.3 ∙ ap (λ l. h.1 ++ l) h.5.0 ∙ append-nil h.1 in
        subst (λ l. many (P depth) at l vs) (sym tokens) (subst (λ x. many (P depth) at h.1 x) (sym value) h.4)

    from_many : (depth at : ℕ) (w : List (Placed T)) (vs : List A) → many (P depth) at w vs → Folded depth at w vs
    from_many depth at w vs h = (vs, w, [], sym (append-nil w), h, (refl, sym (fold-appended [] vs)))

    -- any number of P, in a list
    pub collected : Reads D n (λ depth. many (P depth)) (λ room. reads_many first (p room)) first (λ vs t. last t || first t) true
    unfolding reads_many
    collected =
        same_rule (folded appended item (λ v t l f. again_apart t l f) (λ vs t. last t || first t) (λ v b t e. or_left (last t) (first t) e) (λ b t e. or_right (last t) (first t) e) [])
        (λ depth. many (P depth)) to_many from_many

  -- ---- by two tokens

  module _ {D : ℕ → Type 0} {S A B : Type 0} {n : ℕ} {P : Family T A} {Q : S → Family T B} {p : ℕ → Reader T A} {q : S → ℕ → Reader T B}
      {first first' : T → Bool} {last : A → T → Bool} {last' : B → T → Bool}
      (join : S → A → S) (f g : T → Bool) (k : ℕ) (item : Reads D n P p first last false) (after : (s : S) → Reads D n (Q s) (q s) first' last' false)
      (again_apart : (v : A) (t : T) → last v t ≡ true → first t ≡ true → ⊥) (after_apart : (v : A) (t : T) → last v t ≡ true → first' t ≡ true → ⊥)
      (heads : ((d : ℕ) → D d) → (depth at : ℕ) (w : List (Placed T)) (v : A) → P depth at w v → StartsBy (f ∷ g ∷ []) (at + k) w)
      (others : ((d : ℕ) → D d) → (s : S) (depth at : ℕ) (w : List (Placed T)) (v : B) → Q s depth at w v → DepartsBy (f ∷ g ∷ []) (at + k) w)
      (left_first : (t : T) → f t ≡ true → first t ≡ true) (right_first : (t : T) → f t ≡ true → first' t ≡ true) where
    -- as long as the next two tokens are of the sets, and then Q of what was found, which is never empty
    pub loop_two : (s : S) → Reads D n (λ depth. many (P depth) >>= (λ vs. Q (fold join s vs) depth))
        (λ room ts. and_then (reads_while (sees_all (f ∷ g ∷ [])) join (p room) (length ts) s ts) (λ s. q s room)) (λ t. first t || first' t) last' false
    loop_two = loop_in join (sees_all (f ∷ g ∷ [])) refl item after again_apart after_apart last' (λ v b t z e. cc)
        (λ j le s R r left. ahead_two left (less (after s) j le) f g k last' (λ b t e. e) (λ b t e. e)
        (λ all depth at w v h. starts_both (P depth) (λ a. R a depth) (f ∷ g ∷ []) at (at + k) w v h (heads all depth at h.1 h.0 h.4))
        (λ all depth at w v h. others all s depth at w v h) left_first right_first)

  -- ---- where what is found is a list

  module _ {D : ℕ → Type 0} {A B : Type 0} {n : ℕ} {P : Family T A} {p : ℕ → Reader T B} {first : T → Bool} {last : B → T → Bool} {null : Bool} (Q : List A → Family T B) (found : List A) where
    -- the rule says the list plainly
    pub as_list : Reads D n (λ depth. many (P depth) >>= (λ vs. Q (fold appended found vs) depth)) p first last null → Reads D n
        (λ depth. many (P depth) >>= (λ vs. Q (found ++ vs) depth)) p first last null
    as_list good =
        same_rule good (λ depth. many (P depth) >>= (λ vs. Q (found ++ vs) depth))
        (λ depth at w v h. (h.0, h.1, h.2, h.3, h.4, subst (λ l. Q l depth at h.2 v) (fold-appended found h.0) h.5))
        (λ depth at w v h. (h.0, h.1, h.2, h.3, h.4, subst (λ l. Q l depth at h.2 v) (sym (fold-appended found h.0)) h.5))
