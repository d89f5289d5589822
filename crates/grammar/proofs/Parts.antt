-- The rules without parts, the same reading under other sets, and what joins rules most often.
use Rattle.std.proofs.Common.{◌≡◌, ℕ, suc, ◌+◌, ◌<◌, ◌≤◌, List, [], ◌∷◌, ◌++◌, length, Option, Some, None, Bool, true, false, refl, sym, ap, ◌∙◌, subst, ◌⊎◌, inl, inr, length-append, arith}
use Rattle.std.specs.Prelude.{Ok, Err, if◌then◌else◌, ◌||◌, ◌&&◌}
use Rattle.std.proofs.lemmas.Bool.{or_left, or_right, and_from, and_parts, both_ways}
use mathlib.Core.Bool.{or-false}
use Rattle.std.proofs.Math.Bool.{and-true}
use Rattle.grammar.specs.Rules.{Placed, Family, pure, one}
use Rattle.grammar.specs.Sentences.{plain, Spelled, Starts}
use Rattle.grammar.specs.Readers.{Syntax, Deep, Reading, Reader, and_then, reads_pure, taken, reads_one, reads_both}
use Rattle.grammar.proofs.Lists.{or_cases, length-plain, Agrees}
use Rattle.grammar.proofs.Good.{Reads, Answers, Dead, Calm, Begun, ◌∘>◌, avoids_wider}
use Rattle.grammar.proofs.Both.{both_in}

abbrev pub gives : {A : Type 0} → Option A → Bool
gives (Some a) = true
gives None = false

-- a set, if b
abbrev pub if_so : {T : Type 0} → Bool → (T → Bool) → T → Bool
if_so b f t = b && f t

-- ---- what a reading that came to its end read

pub then_ok : {T A B : Type 0} {x : B × List T} (q : A → Reader T B) (r : Reading T A) → and_then r q ≡ Ok x → (y : A × List T) × (r ≡ Ok y) × (q y.0 y.1 ≡ Ok x)
then_ok q (Ok y) e = (y, refl, e)
then_ok q (Err stop) e = cc

-- three readings, of which the first two are one
pub reads_regrouped : {T A B C : Type 0} (q : A → Reader T B) (r : B → Reader T C) (x : Reading T A) → and_then (and_then x q) r ≡ and_then x (λ a. reads_both (q a) r)
reads_regrouped q r (Ok x) = refl
reads_regrouped q r (Err stop) = refl

pub when_ok : {T B : Type 0} {z : B × List T} (x y : Reading T B) (b : Bool) → (if b then x else y) ≡ Ok z → (x ≡ Ok z) ⊎ (y ≡ Ok z)
when_ok x y true e = inl e
when_ok x y false e = inr e

module _ {T : Type 0} where
  abbrev pub nowhere : T → Bool
  nowhere t = false

  module _ {D : ℕ → Type 0} {A : Type 0} {n : ℕ} {P : Family T A} {p : ℕ → Reader T A} {first : T → Bool} {last : A → T → Bool} {null : Bool} (good : Reads D n P p first last null) where
    -- the same sets, or a larger one of what goes on
    pub resize : (first' : T → Bool) (last' : A → T → Bool) (null' : Bool) → ((t : T) → first t ≡ first' t) →
        ((v : A) (t : T) → last v t ≡ true → last' v t ≡ true) → null ≡ null' → Reads D n P p first' last' null'
    resize first' last' null' f l z = record {
      whole = good.whole;
      deeper = good.deeper;
      begins = λ depth at dd t w v h. sym (f t.0) ∙ good.begins depth at dd t w v h;
      above = good.above;
      begun = λ lt at t h. good.begun lt at t (f t ∙ h);
      empty = λ depth at dd v h. sym z ∙ good.empty depth at dd v h;
      nothing = λ all at h. good.nothing all at (z ∙ h);
      inhabited = good.inhabited;
      stable = good.stable;
      fixed = good.fixed;
      sound = good.sound;
      complete = λ depth at room ts w rest v lt e h low av. good.complete depth at room ts w rest v lt e h low (avoids_wider (last v) (last' v) (l v) rest av);
    }

    pub widen : (last' : A → T → Bool) → ((v : A) (t : T) → last v t ≡ true → last' v t ≡ true) → Reads D n P p first last' null
    widen last' l = resize first last' null (λ t. refl) l refl

    -- what holds at every depth holds at some
    pub under : {D' : ℕ → Type 0} → (0 < n → (depth : ℕ) → D' depth) → ((depth : ℕ) → D depth) → Reads D' n P p first last null
    under whole all = record {
      whole = whole;
      deeper = λ depth at dd. good.deeper depth at (all depth);
      begins = λ depth at dd. good.begins depth at (all depth);
      above = λ depth at dd. good.above depth at (all depth);
      begun = good.begun;
      empty = λ depth at dd. good.empty depth at (all depth);
      nothing = λ all'. good.nothing all;
      inhabited = λ all'. good.inhabited all;
      stable = good.stable;
      fixed = good.fixed;
      sound = good.sound;
      complete = good.complete;
    }

    -- an equal rule
    module _ (P' : Family T A) (to : (depth at : ℕ) (w : List (Placed T)) (v : A) → P depth at w v → P' depth at w v)
        (from : (depth at : ℕ) (w : List (Placed T)) (v : A) → P' depth at w v → P depth at w v) where
      dead_same : (at : ℕ) (done rest : List T) → Dead P at done rest → Dead P' at done rest
      dead_same at done [] dead = tt
      dead_same at done (t ∷ rest) dead = λ depth w more v e h. dead depth w more v e (from depth at w v h)

      spelled_same : (at : ℕ) (w : List (Placed T)) (v : A) → Spelled P at w v → Spelled P' at w v
      spelled_same at w v h = (h.0, to h.0 at w v h.1)

      starts_same : (at : ℕ) (w : List (Placed T)) → Starts P at w → Starts P' at w
      starts_same at w h = (h.0, h.1, spelled_same at (w ++ h.0) h.1 h.2)

      answers_same : (at limit : ℕ) (ts : List T) (r : Reading T A) → Answers P at limit ts r → Answers P' at limit ts r
      answers_same at limit ts (Ok x) k = (k.0, k.1, spelled_same at k.0 x.0 k.2, k.3, dead_same at (plain k.0) x.1 k.4)
      answers_same at limit ts (Err (Syntax rest)) k = (k.0, k.1, starts_same at k.0 k.2, k.3, dead_same at (plain k.0) rest k.4)
      answers_same at limit ts (Err (Deep above rest)) k = (k.0, k.1, k.2, k.3, k.4, k.5, starts_same at (k.0 ++ ((k.1, k.2) ∷ [])) k.6, k.7, k.8)

      pub same_rule : Reads D n P' p first last null
      same_rule = record {
        whole = good.whole;
        deeper = λ depth at dd w v h. to (suc depth) at w v (good.deeper depth at dd w v (from depth at w v h));
        begins = λ depth at dd t w v h. good.begins depth at dd t w v (from depth at (t ∷ w) v h);
        above = λ depth at dd t w v h. good.above depth at dd t w v (from depth at (t ∷ w) v h);
        begun = λ lt at t h. let k = good.begun lt at t h in (k.0, k.1, k.2, k.3, spelled_same at ((t, k.0) ∷ k.1) k.2 k.4);
        empty = λ depth at dd v h. good.empty depth at dd v (from depth at [] v h);
        nothing = λ all at h. let k = good.nothing all at h in (k.0, spelled_same at [] k.0 k.1);
        inhabited = λ all at. let k = good.inhabited all at in (k.0, k.1, spelled_same at k.0 k.1 k.2);
        stable = good.stable;
        fixed = λ depth depth' at w w' v v' lt lt' h h'. good.fixed depth depth' at w w' v v' lt lt' (from depth at w v h) (from depth' at w' v' h');
        sound = λ at room ts lt. answers_same at (at + room) ts (p room ts) (good.sound at room ts lt);
        complete = λ depth at room ts w rest v lt e h low av. good.complete depth at room ts w rest v lt e (from depth at w v h) low av;
      }

    -- an equal reader
    pub same_reader : (p' : ℕ → Reader T A) → ((room : ℕ) (ts : List T) → length ts < n → p room ts ≡ p' room ts) → Reads D n P p' first last null
    same_reader p' same = record {
      whole = good.whole;
      deeper = good.deeper;
      begins = good.begins;
      above = good.above;
      begun = good.begun;
      empty = good.empty;
      nothing = good.nothing;
      inhabited = good.inhabited;
      stable = λ room ts lt calm. sym (same (suc room) ts lt) ∙ good.stable room ts lt (subst Calm (sym (same room ts lt)) calm) ∙ same room ts lt;
      fixed = good.fixed;
      sound = λ at room ts lt. subst (Answers P at (at + room) ts) (same room ts lt) (good.sound at room ts lt);
      complete = λ depth at room ts w rest v lt e h low av. sym (same room ts lt) ∙ good.complete depth at room ts w rest v lt e h low av;
    }

    -- how many tokens are left
    no_longer_from : (at limit : ℕ) (ts : List T) (x : A × List T) (r : Reading T A) → r ≡ Ok x → Answers P at limit ts r → length x.1 ≤ length ts
    no_longer_from at limit ts x (Ok y) e k =
        let same : y ≡ x = cc in
        let cut : ts ≡ plain k.0 ++ x.1 = k.1 ∙ ap (λ z. plain k.0 ++ z.1) same in
        omega (arith, ap length cut, length-append (plain k.0) x.1)
    no_longer_from at limit ts x (Err stop) e k = cc

    pub no_longer : (room : ℕ) (ts : List T) (x : A × List T) → length ts < n → p room ts ≡ Ok x → length x.1 < n
    no_longer room ts x lt e = let le = no_longer_from 0 (0 + room) ts x (p room ts) e (good.sound 0 room ts lt) in omega (arith, le)

    some_tokens : (depth at : ℕ) → D depth → (done : List (Placed T)) (v : A) → null ≡ false → P depth at done v → 0 < length done
    some_tokens depth at dd [] v z h = absurd (both_ways null z (good.empty depth at dd v h))
    some_tokens depth at dd (t ∷ done) v z h = omega arith

    shorter_from : ((d : ℕ) → D d) → null ≡ false → (at limit : ℕ) (ts : List T) (x : A × List T) (r : Reading T A) → r ≡ Ok x → Answers P at limit ts r → length x.1 < length ts
    shorter_from all z at limit ts x (Ok y) e k =
        let same : y ≡ x = cc in
        let cut : ts ≡ plain k.0 ++ x.1 = k.1 ∙ ap (λ z. plain k.0 ++ z.1) same in
        let some = some_tokens k.2.0 at (all k.2.0) k.0 y.0 z k.2.1 in
        omega (arith, ap length cut, length-append (plain k.0) x.1, some, length-plain k.0)
    shorter_from all z at limit ts x (Err stop) e k = cc

    pub shorter : null ≡ false → (m : ℕ) → n ≤ suc m → (room : ℕ) (ts : List T) (x : A × List T) → length ts < n → p room ts ≡ Ok x → length x.1 < m
    shorter z m le room ts x lt e = let less = shorter_from (good.whole (omega arith)) z 0 (0 + room) ts x (p room ts) e (good.sound 0 room ts lt) in omega (arith, less)

  -- ---- no token

  pub reads_nothing : {D : ℕ → Type 0} {A : Type 0} {n : ℕ} → (0 < n → (depth : ℕ) → D depth) → (a : A) → Reads D n (λ depth. pure a) (λ room. reads_pure a) nowhere (λ v. nowhere) true
  reads_nothing whole a = record {
    whole = whole;
    deeper = λ depth at dd w v h. h;
    begins = λ depth at dd t w v h. cc (h.0);
    above = λ depth at dd t w v h. cc (h.0);
    begun = λ lt at t h. cc;
    empty = λ depth at dd v h. refl;
    nothing = λ all at h. (a, (0, (refl, refl)));
    inhabited = λ all at. ([], a, (0, (refl, refl)));
    stable = λ room ts lt calm. refl;
    fixed = λ depth depth' at w w' v v' lt lt' h h'. subst (λ l. Agrees l w') (sym h.0) tt;
    sound = λ at room ts lt. ([], refl, (0, (refl, refl)), tt, nothing_dead a at ts);
    complete = λ depth at room ts w rest v lt e h low av.
        let same : ts ≡ rest = e ∙ ap (λ l. plain l ++ rest) h.0 in
        let value : v ≡ a = h.1 in
        cc (same, value);
  } where
    nothing_dead : {A : Type 0} (a : A) (at : ℕ) (ts : List T) → Dead {A = A} (λ depth. pure a) at [] ts
    nothing_dead a at [] = tt
    nothing_dead a at (t ∷ ts) = λ depth w more v e h. let none : plain w ≡ [] = ap plain h.0 in cc (none, e)

  -- ---- one token

  module _ {A : Type 0} (f : T → Option A) where
    abbrev Token : Family T A
    Token depth = one f

    one_dead : (at : ℕ) (t : T) (rest : List T) → Dead Token at (t ∷ []) rest
    one_dead at t [] = tt
    one_dead at t (u ∷ rest) = λ depth w more v e h. let only : plain w ≡ h.0 ∷ [] = ap plain h.1 in cc (only, e)

    one_begins : (t s : Placed T) (w : List (Placed T)) (at : ℕ) (u : T) (v : A) → t ∷ w ≡ (u, at) ∷ [] → f u ≡ Some v → gives (f t.0) ≡ true
    one_begins t s w at u v e g =
        let here : Placed T = (u, at) in
        let same : t ≡ here = cc in
        ap (λ x. gives (f x.0)) same ∙ ap gives g

    one_above : (t : Placed T) (w : List (Placed T)) (at : ℕ) (u : T) → t ∷ w ≡ (u, at) ∷ [] → at ≤ t.1
    one_above t w at u e =
        let here : Placed T = (u, at) in
        let same : here ≡ t = cc in
        let low : at ≤ at = omega arith in
        subst (λ x. at ≤ x.1) same low

    one_sound : (at limit : ℕ) → at ≤ limit → (t : T) (rest : List T) → Starts Token at [] → (o : Option A) → f t ≡ o → Answers Token at limit (t ∷ rest) (taken t rest o)
    one_sound at limit low t rest some (Some a) e = ((t, at) ∷ [], refl, (0, (t, refl, e)), (low, tt), one_dead at t rest)
    one_sound at limit low t rest some None e = (
      [],
      refl,
      some,
      tt,
      λ depth w more v s h.
          let only : plain w ≡ h.0 ∷ [] = ap plain h.1 in
          let same : t ≡ h.0 = cc (only, s) in
          let same' = ap f same in
          let no : ⊥ = cc (e, same', h.2) in no,
    )

    one_sound_at : (at limit : ℕ) → at ≤ limit → (ts : List T) → Starts Token at [] → Answers Token at limit ts (reads_one f ts)
    one_sound_at at limit low [] some = ([], refl, some, tt, tt)
    one_sound_at at limit low (t ∷ rest) some = one_sound at limit low t rest some (f t) refl

    one_begun : (at : ℕ) (t : T) (o : Option A) → f t ≡ o → gives o ≡ true → Begun Token at t
    one_begun at t (Some a) e g = (at, [], a, omega arith, (0, (t, refl, e)))
    one_begun at t None e g = cc

    one_fixed : (at : ℕ) (w w' : List (Placed T)) (t t' : T) → w ≡ (t, at) ∷ [] → w' ≡ (t', at) ∷ [] → Agrees w w'
    one_fixed at w w' t t' e e' =
        let agree : Agrees ((t, at) ∷ []) ((t', at) ∷ []) = λ s. (refl, tt) in
        subst (λ l. Agrees l w') (sym e) (subst (λ l. Agrees ((t, at) ∷ []) l) (sym e') agree)

    pub reads_by : {D : ℕ → Type 0} {n : ℕ} → (0 < n → (depth : ℕ) → D depth) → (t : T) (a : A) → f t ≡ Some a → Reads D n Token (λ room. reads_one f) (λ t. gives (f t)) (λ v. nowhere) false
    reads_by whole t a e = record {
      whole = whole;
      deeper = λ depth at dd w v h. h;
      begins = λ depth at dd s w v h. one_begins s s w at h.0 v h.1 h.2;
      above = λ depth at dd s w v h. one_above s w at h.0 h.1;
      begun = λ lt at s h. one_begun at s (f s) refl h;
      empty = λ depth at dd v h. cc (h.1);
      nothing = λ all at h. cc;
      inhabited = λ all at. ((t, at) ∷ [], a, (0, (t, refl, e)));
      stable = λ room ts lt calm. refl;
      fixed = λ depth depth' at w w' v v' lt lt' h h'. one_fixed at w w' h.0 h'.0 h.1 h'.1;
      sound = λ at room ts lt. one_sound_at at (at + room) (omega arith) ts ((t, at) ∷ [], a, (0, (t, refl, e)));
      complete = λ depth at room ts w rest v lt e h low av.
          let cut : ts ≡ h.0 ∷ rest = e ∙ ap (λ l. plain l ++ rest) h.1 in
          ap (reads_one f) cut ∙ ap (taken h.0 rest) h.2;
    }

  -- ---- one rule after the other, where the first is never empty

  module _ {D : ℕ → Type 0} {A B : Type 0} {n m : ℕ} {P : Family T A} {Q : A → Family T B} {p : ℕ → Reader T A} {q : A → ℕ → Reader T B} {first : T → Bool}
      {last : A → T → Bool} {first' : A → T → Bool} {last' : B → T → Bool} {null' : Bool}
      (le : n ≤ suc m) (before : Reads D n P p first last false) (after : (a : A) → Reads D m (Q a) (q a) (first' a) last' null')
      (apart : (a : A) (t : T) → last a t ≡ true → first' a t ≡ true → ⊥) where
    -- what goes on after both, given for an empty second rule too
    pub some_then : (Last : B → T → Bool) → ((b : B) (t : T) → last' b t ≡ true → Last b t ≡ true)
        → ((a : A) (depth at : ℕ) (b : B) (t : T) → null' ≡ true → Q a depth at [] b → last a t ≡ true → Last b t ≡ true)
        → Reads D n (P ∘> Q) (λ room. reads_both (p room) (λ a. q a room)) first Last false
    some_then Last last_in early_in =
        both_in before after apart (shorter before refl m le) first Last (λ t e. e) (λ a t z e. cc) (λ lt at t e. inl e) last_in early_in

  module _ {D : ℕ → Type 0} {A B : Type 0} {n : ℕ} {P : Family T A} {Q : A → Family T B} {p : ℕ → Reader T A} {q : A → ℕ → Reader T B} {first : T → Bool}
      {last : A → T → Bool} {first' : A → T → Bool} {last' : B → T → Bool}
      (before : Reads D n P p first last false) (after : (a : A) → Reads D n (Q a) (q a) (first' a) last' false)
      (apart : (a : A) (t : T) → last a t ≡ true → first' a t ≡ true → ⊥) where
    -- two rules that are never empty
    pub in_turn : Reads D n (P ∘> Q) (λ room. reads_both (p room) (λ a. q a room)) first last' false
    in_turn = both_in before after apart (no_longer before) first last' (λ t e. e) (λ a t z e. cc) (λ lt at t e. inl e) (λ b t e. e) (λ a depth at b t z h e. cc)

  module _ {D : ℕ → Type 0} {A B : Type 0} {n : ℕ} {P : Family T A} {Q : A → Family T B} {p : ℕ → Reader T A} {q : A → ℕ → Reader T B} {first : T → Bool}
      {last : A → T → Bool} {first' : T → Bool} {last' : B → T → Bool} {null null' : Bool}
      (before : Reads D n P p first last null) (after : (a : A) → Reads D n (Q a) (q a) first' last' null')
      (apart : (a : A) (t : T) → last a t ≡ true → first' t ≡ true → ⊥) where
    begins_with : 0 < n → (at : ℕ) (t : T) → (first t || if_so null first' t) ≡ true → (first t ≡ true) ⊎ ((a : A) × Spelled P at [] a × (first' t ≡ true) × (0 < n))
    begins_with lt at t e =
        or_cases (first t) (if_so null first' t) e (λ h. inl h) (λ h. let parts = and_parts null (first' t) h in let a = before.nothing (before.whole lt) at parts.0 in inr (a.0, a.1, parts.1, lt))

    -- any two rules
    pub both : (Last : B → T → Bool) → ((b : B) (t : T) → last' b t ≡ true → Last b t ≡ true)
        → ((a : A) (depth at : ℕ) (b : B) (t : T) → null' ≡ true → Q a depth at [] b → last a t ≡ true → Last b t ≡ true)
        → Reads D n (P ∘> Q) (λ room. reads_both (p room) (λ a. q a room)) (λ t. first t || if_so null first' t) Last (null && null')
    both Last last_in early_in =
        both_in before after apart (no_longer before) (λ t. first t || if_so null first' t) Last
        (λ t e. or_left (first t) (if_so null first' t) e) (λ a t z e. or_right (first t) (if_so null first' t) (and_from null (first' t) z e)) begins_with last_in early_in

  -- the last value, by which the reading ends: `v ← P; pure (g v)`
  module _ {D : ℕ → Type 0} {A B : Type 0} {n : ℕ} {P : Family T A} {p : ℕ → Reader T A} {first : T → Bool} {last : A → T → Bool} {null : Bool}
      (good : Reads D n P p first last null) (g : A → B) where
    pub ends : (Last : B → T → Bool) → ((a : A) (t : T) → last a t ≡ true → Last (g a) t ≡ true)
        → Reads D n (P ∘> (λ a depth. pure (g a))) (λ room. reads_both (p room) (λ a. reads_pure (g a))) first Last null
    ends Last last_in =
        resize
        (both good (λ a. reads_nothing {n = n} good.whole (g a)) (λ a t l f. cc) Last (λ b t e. cc) (λ a depth at b t z h e. subst (λ x. Last x t ≡ true) (sym h.1) (last_in a t e)))
        first Last null (λ t. end_first null (first t)) (λ v t h. h) (and-true null)
      where
        end_first : (null b : Bool) → (b || (null && false)) ≡ b
        end_first true b = or-false b
        end_first false b = or-false b

  -- ---- a token, and a rule after it

  module _ {D : ℕ → Type 0} {A B : Type 0} {f : T → Option A} {n m : ℕ} {Q : A → Family T B} {q : A → ℕ → Reader T B} {first' : A → T → Bool} {last' : B → T → Bool} {null' : Bool}
      (le : n ≤ suc m) (whole : 0 < n → (depth : ℕ) → D depth) (set : T → Bool) (exactly : (t : T) → gives (f t) ≡ set t)
      (t : T) (a : A) (e : f t ≡ Some a) (after : (a : A) → Reads D m (Q a) (q a) (first' a) last' null') where
    pub one_then : Reads D n ((λ depth. one f) ∘> Q) (λ room. reads_both (reads_one f) (λ a. q a room)) set last' false
    one_then =
        let token = resize (reads_by f {n = n} whole t a e) set (λ v. nowhere) false exactly (λ v t h. h) refl in
        some_then le token after (λ a t l f. cc) last' (λ b t g. g) (λ a depth at b t z h g. cc)
