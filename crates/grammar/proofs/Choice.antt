-- One rule or the other, by the tokens ahead.
use Rattle.std.proofs.Common.{◌≡◌, ℕ, suc, ◌+◌, ◌<◌, List, [], ◌∷◌, ◌++◌, length, Option, Some, None, Bool, true, false, refl, sym, ap, ◌∙◌, subst, inl, inr, ⊎_elim, append_assoc, arith}
use Rattle.std.specs.Prelude.{Ok, Err, if◌then◌else◌, ◌||◌, ◌&&◌, not}
use Rattle.std.proofs.lemmas.Bool.{or_left, or_right, and_from, and_parts, cases_Bool, false_from_ne_true, both_ways, not_from_false}
use mathlib.Core.Bool.{or-false}
use Rattle.std.proofs.lemmas.List.{append-nil}
use Rattle.grammar.specs.Rules.{Placed, Rule, Family, one, ◌>>=◌, ◌<|>◌, optional}
use Rattle.grammar.specs.Sentences.{plain}
use Rattle.grammar.specs.Readers.{Syntax, Deep, Reading, Reader, sees, sees_all, reads_when, reads_either, reads_optional}
use Rattle.grammar.proofs.Lists.{or_cases, plain-append, Agrees, agrees-sym}
use Rattle.grammar.proofs.Good.{Reads, Answers, Dead, Avoids, Calm, ◌∘>◌, avoids_wider, deeper_by}
use Rattle.grammar.proofs.Parts.{if_so, gives, resize, same_rule, reads_nothing, ends}

not_not : (b : Bool) → not b ≡ true → b ≡ true → ⊥
not_not true e h = cc
not_not false e h = cc

module _ {T : Type 0} where
  -- one rule or the other, at each depth
  infixl 9 ◌<∘>◌
  abbrev pub ◌<∘>◌ : {A : Type 0} → Family T A → Family T A → Family T A
  (P <∘> Q) depth = P depth <|> Q depth

  -- a sentence starts with these tokens
  abbrev pub StartsPlain : {A : Type 0} → Family T A → ℕ → List T → Type 0
  StartsPlain {A = A} P at x = (depth : ℕ) × (w : List (Placed T)) × (more : List T) × (v : A) × (plain w ≡ x ++ more) × P depth at w v

  module _ {D : ℕ → Type 0} {A : Type 0} {n : ℕ} {P Q : Family T A} {p q : ℕ → Reader T A} {first first' : T → Bool} {last last' : A → T → Bool} {null null' : Bool}
      (left : Reads D n P p first last null) (right : Reads D n Q q first' last' null') (test : List T → Bool)
      (Last : A → T → Bool) (left_in : (v : A) (t : T) → last v t ≡ true → Last v t ≡ true) (right_in : (v : A) (t : T) → last' v t ≡ true → Last v t ≡ true)
      (goes_left : 0 < n → (at : ℕ) (x : List T) (t : T) (rest : List T) → test (x ++ (t ∷ rest)) ≡ true → (depth : ℕ) (w : List (Placed T)) (more : List T)
      (v : A) → plain w ≡ x ++ (t ∷ more) → Q depth at w v → StartsPlain P at (x ++ (t ∷ [])))
      (goes_right : 0 < n → (at : ℕ) (x : List T) (t : T) (rest : List T) → test (x ++ (t ∷ rest)) ≡ false → (depth : ℕ) (w : List (Placed T)) (more : List T)
      (v : A) → plain w ≡ x ++ (t ∷ more) → P depth at w v → StartsPlain Q at (x ++ (t ∷ [])))
      (left_seen : ((d : ℕ) → D d) → (depth at : ℕ) (w : List (Placed T)) (rest : List T) (v : A) → P depth at w v → Avoids (Last v) rest → test (plain w ++ rest) ≡ true)
      (right_seen : ((d : ℕ) → D d) → (depth at : ℕ) (w : List (Placed T)) (rest : List T) (v : A) → Q depth at w v → Avoids (Last v) rest → test (plain w ++ rest) ≡ false)
      (agree : ((d : ℕ) → D d) → (depth depth' at : ℕ) (w w' : List (Placed T)) (v v' : A) → P depth at w v → Q depth' at w' v' → Agrees w w') where
    abbrev Either : Family T A
    Either = P <∘> Q

    reach : (x : List T) (t : T) (w : List (Placed T)) (more : List T) → plain w ≡ (x ++ (t ∷ [])) ++ more → plain w ≡ x ++ (t ∷ more)
    reach x t w more e = e ∙ append_assoc x (t ∷ []) more

    left_dead : 0 < n → (at : ℕ) (ts done rest : List T) → test ts ≡ true → ts ≡ done ++ rest → Dead P at done rest → Dead Either at done rest
    left_dead lt at ts done [] e cut dead = tt
    left_dead lt at ts done (t ∷ rest) e cut dead = λ depth w more v s h.
        ⊎_elim
        (λ hp. dead depth w more v s hp)
        (λ hq. let k = goes_left lt at done t rest (ap test (sym cut) ∙ e) depth w more v s hq in dead k.0 k.1 k.2 k.3 (reach done t k.1 k.2 k.4) k.5)
        h

    right_dead : 0 < n → (at : ℕ) (ts done rest : List T) → test ts ≡ false → ts ≡ done ++ rest → Dead Q at done rest → Dead Either at done rest
    right_dead lt at ts done [] e cut dead = tt
    right_dead lt at ts done (t ∷ rest) e cut dead = λ depth w more v s h.
        ⊎_elim
        (λ hp. let k = goes_right lt at done t rest (ap test (sym cut) ∙ e) depth w more v s hp in dead k.0 k.1 k.2 k.3 (reach done t k.1 k.2 k.4) k.5)
        (λ hq. dead depth w more v s hq)
        h

    left_answers : 0 < n → (at limit : ℕ) (ts : List T) → test ts ≡ true → (r : Reading T A) → Answers P at limit ts r → Answers Either at limit ts r
    left_answers lt at limit ts e (Ok x) k = (k.0, k.1, (k.2.0, inl k.2.1), k.3, left_dead lt at ts (plain k.0) x.1 e k.1 k.4)
    left_answers lt at limit ts e (Err (Syntax rest)) k = (k.0, k.1, (k.2.0, k.2.1, (k.2.2.0, inl k.2.2.1)), k.3, left_dead lt at ts (plain k.0) rest e k.1 k.4)
    left_answers lt at limit ts e (Err (Deep above rest)) k = (k.0, k.1, k.2, k.3, k.4, k.5, (k.6.0, k.6.1, (k.6.2.0, inl k.6.2.1)), k.7, k.8)

    right_answers : 0 < n → (at limit : ℕ) (ts : List T) → test ts ≡ false → (r : Reading T A) → Answers Q at limit ts r → Answers Either at limit ts r
    right_answers lt at limit ts e (Ok x) k = (k.0, k.1, (k.2.0, inr k.2.1), k.3, right_dead lt at ts (plain k.0) x.1 e k.1 k.4)
    right_answers lt at limit ts e (Err (Syntax rest)) k = (k.0, k.1, (k.2.0, k.2.1, (k.2.2.0, inr k.2.2.1)), k.3, right_dead lt at ts (plain k.0) rest e k.1 k.4)
    right_answers lt at limit ts e (Err (Deep above rest)) k = (k.0, k.1, k.2, k.3, k.4, k.5, (k.6.0, k.6.1, (k.6.2.0, inr k.6.2.1)), k.7, k.8)

    abbrev chosen : Bool → ℕ → Reader T A
    chosen b room ts = if b then p room ts else q room ts

    when_sound : (at room : ℕ) (ts : List T) → length ts < n → (b : Bool) → test ts ≡ b → Answers Either at (at + room) ts (chosen b room ts)
    when_sound at room ts lt true e = left_answers (omega arith) at (at + room) ts e (p room ts) (left.sound at room ts lt)
    when_sound at room ts lt false e = right_answers (omega arith) at (at + room) ts e (q room ts) (right.sound at room ts lt)

    when_stable : (room : ℕ) (ts : List T) → length ts < n → (b : Bool) → Calm (chosen b room ts) → chosen b (suc room) ts ≡ chosen b room ts
    when_stable room ts lt true calm = left.stable room ts lt calm
    when_stable room ts lt false calm = right.stable room ts lt calm

    when_fixed : (depth depth' at : ℕ) (w w' : List (Placed T)) (v v' : A) → length w < n → length w' < n → Either depth at w v → Either depth' at w' v' → Agrees w w'
    when_fixed depth depth' at w w' v v' lt lt' h h' =
        ⊎_elim
        (λ hp. ⊎_elim (λ hp'. left.fixed depth depth' at w w' v v' lt lt' hp hp') (λ hq'. agree (left.whole (omega arith)) depth depth' at w w' v v' hp hq') h')
        (λ hq. ⊎_elim (λ hp'. agrees-sym w' w (agree (left.whole (omega arith)) depth' depth at w' w v' v hp' hq)) (λ hq'. right.fixed depth depth' at w w' v v' lt lt' hq hq') h')
        h

    pub when_in : Reads D n Either (λ room. reads_when test (p room) (q room)) (λ t. first t || first' t) Last (null || null')
    when_in = record {
      whole = left.whole;
      deeper = λ depth at dd w v h. ⊎_elim (λ hp. inl (left.deeper depth at dd w v hp)) (λ hq. inr (right.deeper depth at dd w v hq)) h;
      begins = λ depth at dd t w v h. ⊎_elim (λ hp. or_left (first t.0) (first' t.0) (left.begins depth at dd t w v hp))
          (λ hq. or_right (first t.0) (first' t.0) (right.begins depth at dd t w v hq)) h;
      above = λ depth at dd t w v h. ⊎_elim (λ hp. left.above depth at dd t w v hp) (λ hq. right.above depth at dd t w v hq) h;
      begun = λ lt at t h. or_cases (first t) (first' t) h
          (λ e. let k = left.begun lt at t e in (k.0, k.1, k.2, k.3, (k.4.0, inl k.4.1)))
          (λ e. let k = right.begun lt at t e in (k.0, k.1, k.2, k.3, (k.4.0, inr k.4.1)));
      empty = λ depth at dd v h. ⊎_elim (λ hp. or_left null null' (left.empty depth at dd v hp)) (λ hq. or_right null null' (right.empty depth at dd v hq)) h;
      nothing = λ all at h. or_cases null null' h
          (λ e. let k = left.nothing all at e in (k.0, (k.1.0, inl k.1.1)))
          (λ e. let k = right.nothing all at e in (k.0, (k.1.0, inr k.1.1)));
      inhabited = λ all at. let k = left.inhabited all at in (k.0, k.1, (k.2.0, inl k.2.1));
      stable = λ room ts lt calm. when_stable room ts lt (test ts) calm;
      fixed = when_fixed;
      sound = λ at room ts lt. when_sound at room ts lt (test ts) refl;
      complete = λ depth at room ts w rest v lt e h low av.
          ⊎_elim
          (λ hp. ap (λ b. chosen b room ts) (ap test e ∙ left_seen
          (left.whole (omega arith)) depth at w rest v hp av) ∙ left.complete depth at room ts w rest v lt e hp low (avoids_wider (last v) (Last v) (left_in v) rest av))
          (λ hq. ap (λ b. chosen b room ts) (ap test e ∙ right_seen
          (left.whole (omega arith)) depth at w rest v hq av) ∙ right.complete depth at room ts w rest v lt e hq low (avoids_wider (last' v) (Last v) (right_in v) rest av))
          h;
    }

  -- ---- by the next token

  -- the first token of a list that goes on with t
  abbrev head : List T → T → T
  head [] t = t
  head (x ∷ done) t = x

  sees_head : (f : T → Bool) (done : List T) (t : T) (rest : List T) → sees f (done ++ (t ∷ rest)) ≡ f (head done t)
  sees_head f [] t rest = refl
  sees_head f (x ∷ done) t rest = refl

  begins_head : {D : ℕ → Type 0} {A : Type 0} {n : ℕ} {P : Family T A} {p : ℕ → Reader T A} {first : T → Bool} {last : A → T → Bool} {null : Bool}
      → Reads D n P p first last null → ((d : ℕ) → D d) → (depth at : ℕ) (done : List T) (t : T) (more : List T) (w : List (Placed T)) (v : A)
      → plain w ≡ done ++ (t ∷ more) → P depth at w v → first (head done t) ≡ true
  begins_head good all depth at [] t more [] v e h = cc
  begins_head {first = first} good all depth at [] t more (y ∷ w) v e h = let same : y.0 ≡ t = cc in subst (λ x. first x ≡ true) same (good.begins depth at (all depth) y w v h)
  begins_head good all depth at (x ∷ done) t more [] v e h = cc
  begins_head {first = first} good all depth at (x ∷ done) t more (y ∷ w) v e h = let same : y.0 ≡ x = cc in subst (λ x. first x ≡ true) same (good.begins depth at (all depth) y w v h)

  module _ {D : ℕ → Type 0} {A : Type 0} {n : ℕ} {P Q : Family T A} {p q : ℕ → Reader T A} {first first' : T → Bool} {last last' : A → T → Bool} {null' : Bool}
      (left : Reads D n P p first last false) (right : Reads D n Q q first' last' null')
      (apart : (t : T) → first t ≡ true → first' t ≡ true → ⊥)
      (Last : A → T → Bool) (left_in : (v : A) (t : T) → last v t ≡ true → Last v t ≡ true) (right_in : (v : A) (t : T) → last' v t ≡ true → Last v t ≡ true)
      (empty_in : (depth at : ℕ) (v : A) (t : T) → null' ≡ true → Q depth at [] v → first t ≡ true → Last v t ≡ true) where
    sees_left : ((d : ℕ) → D d) → (depth at : ℕ) (w : List (Placed T)) (rest : List T) (v : A) → P depth at w v → sees first (plain w ++ rest) ≡ true
    sees_left all depth at [] rest v h = absurd (both_ways false refl (left.empty depth at (all depth) v h))
    sees_left all depth at (t ∷ w) rest v h = left.begins depth at (all depth) t w v h

    avoids_sees : (f : T → Bool) (ts : List T) → Avoids f ts → sees f ts ≡ false
    avoids_sees f [] av = refl
    avoids_sees f (t ∷ ts) av = av

    sees_right : ((d : ℕ) → D d) → (depth at : ℕ) (w : List (Placed T)) (rest : List T) (v : A) → Q depth at w v → Avoids (Last v) rest → sees first (plain w ++ rest) ≡ false
    sees_right all depth at [] rest v h av = avoids_sees first rest (avoids_wider first (Last v) (λ t e. empty_in depth at v t (right.empty depth at (all depth) v h) h e) rest av)
    sees_right all depth at (t ∷ w) rest v h av = false_from_ne_true (first t.0) (λ yes. apart t.0 yes (right.begins depth at (all depth) t w v h))

    token_agree : ((d : ℕ) → D d) → (depth depth' at : ℕ) (w w' : List (Placed T)) (v v' : A) → P depth at w v → Q depth' at w' v' → Agrees w w'
    token_agree all depth depth' at [] w' v v' h h' = tt
    token_agree all depth depth' at (x ∷ w) [] v v' h h' = tt
    token_agree all depth depth' at (x ∷ w) (y ∷ w') v v' h h' = λ e.
        absurd (apart x.0 (left.begins depth at (all depth) x w v h) (subst (λ t. first' t ≡ true) (sym e) (right.begins depth' at (all depth') y w' v' h')))

    pub either_in : Reads D n (P <∘> Q) (λ room. reads_either first (p room) (q room)) (λ t. first t || first' t) Last null'
    either_in =
        when_in left right (sees first) Last left_in right_in
        (λ lt at x t rest seen depth w more v e h. absurd (apart (head x t) (sym (sees_head first x t rest) ∙ seen) (begins_head right (left.whole lt) depth at x t more w v e h)))
        (λ lt at x t rest seen depth w more v e h. absurd (both_ways (first (head x t)) (sym (sees_head first x t rest) ∙ seen) (begins_head left (left.whole lt) depth at x t more w v e h)))
        (λ all depth at w rest v h av. sees_left all depth at w rest v h)
        sees_right token_agree

  -- the same where no value matters
  module _ {D : ℕ → Type 0} {A : Type 0} {n : ℕ} {P Q : Family T A} {p q : ℕ → Reader T A} {first first' : T → Bool} {last last' : A → T → Bool} {null' : Bool}
      (left : Reads D n P p first last false) (right : Reads D n Q q first' last' null') where
    pub either : ((t : T) → first t ≡ true → first' t ≡ true → ⊥) → Reads D n (P <∘> Q) (λ room. reads_either first (p room) (q room))
        (λ t. first t || first' t) (λ v t. last v t || (last' v t || if_so null' first t)) null'
    either apart = either_in left right apart (λ v t. last v t || (last' v t || if_so null' first t)) (λ v t e. or_left (last v t) _ e)
        (λ v t e. or_right (last v t) _ (or_left (last' v t) _ e)) (λ depth at v t z h e. or_right (last v t) _ (or_right (last' v t) _ (and_from null' (first t) z e)))

  -- ---- by several tokens

  -- the tokens are of the sets, one of each, and fewer than the sets
  abbrev pub partly : List (T → Bool) → List T → Bool
  partly [] x = false
  partly (f ∷ fs) [] = true
  partly (f ∷ fs) (t ∷ x) = f t && partly fs x

  -- one of the tokens is not of its set
  abbrev pub departs : List (T → Bool) → List T → Bool
  departs [] x = false
  departs (f ∷ fs) [] = false
  departs (f ∷ fs) (t ∷ x) = not (f t) || departs fs x

  -- the tokens have this nesting, as long as they are of the sets; of the last set's token nothing is said
  abbrev pub Level : List (T → Bool) → ℕ → List (Placed T) → Type 0
  Level [] m w = Unit {0}
  Level (f ∷ []) m w = Unit {0}
  Level (f ∷ g ∷ fs) m [] = Unit {0}
  Level (f ∷ g ∷ fs) m (x ∷ w) = f x.0 ≡ true → (x.1 ≡ m) × Level (g ∷ fs) m w

  level_token : (f : T → Bool) (fs : List (T → Bool)) (m : ℕ) (t : Placed T) (w : List (Placed T)) → t.1 ≡ m → Level fs m w → Level (f ∷ fs) m (t ∷ w)
  level_token f [] m t w e h = tt
  level_token f (g ∷ fs) m t w e h = λ here. (e, h)

  level_out : (f : T → Bool) (fs : List (T → Bool)) (m : ℕ) (t : Placed T) (w : List (Placed T)) → f t.0 ≡ false → Level (f ∷ fs) m (t ∷ w)
  level_out f [] m t w out = tt
  level_out f (g ∷ fs) m t w out = λ here. absurd (both_ways (f t.0) out here)

  sees_within : (fs : List (T → Bool)) (x : List T) (t : T) (rest more : List T) → sees_all fs (x ++ (t ∷ rest)) ≡ true → partly fs (x ++ (t ∷ [])) ≡ false → sees_all fs (x ++ (t ∷ more)) ≡ true
  sees_within [] x t rest more e out = refl
  sees_within (f ∷ fs) [] t rest more e out =
      let parts = and_parts (f t) (sees_all fs rest) e in
      and_from (f t) (sees_all fs more) parts.0 (none_left fs (partly_no parts.0 out)) where
        partly_no : f t ≡ true → (f t && partly fs []) ≡ false → partly fs [] ≡ false
        partly_no here out' = false_from_ne_true (partly fs []) (λ h. both_ways (f t && partly fs []) out' (and_from (f t) (partly fs []) here h))

        none_left : (gs : List (T → Bool)) → partly gs [] ≡ false → sees_all gs more ≡ true
        none_left [] h = refl
        none_left (g ∷ gs) h = cc
  sees_within (f ∷ fs) (y ∷ x) t rest more e out =
      let parts = and_parts (f y) (sees_all fs (x ++ (t ∷ rest))) e in
      and_from (f y) (sees_all fs (x ++ (t ∷ more))) parts.0
      (sees_within fs x t rest more parts.1 (false_from_ne_true (partly fs (x ++ (t ∷ []))) (λ h. both_ways (f y && partly fs (x ++ (t ∷ []))) out (and_from (f y)
      (partly fs (x ++ (t ∷ []))) parts.0 h))))

  pub sees_all-append : (fs : List (T → Bool)) (x y : List T) → sees_all fs x ≡ true → sees_all fs (x ++ y) ≡ true
  sees_all-append [] x y e = refl
  sees_all-append (f ∷ fs) [] y e = cc
  sees_all-append (f ∷ fs) (t ∷ x) y e = let parts = and_parts (f t) (sees_all fs x) e in and_from (f t) (sees_all fs (x ++ y)) parts.0 (sees_all-append fs x y parts.1)

  pub departs_not : (fs : List (T → Bool)) (x y : List T) → departs fs x ≡ true → sees_all fs (x ++ y) ≡ false
  departs_not [] x y e = cc
  departs_not (f ∷ fs) [] y e = cc
  departs_not (f ∷ fs) (t ∷ x) y e =
      false_from_ne_true (f t && sees_all fs (x ++ y)) (λ h.
      let parts = and_parts (f t) (sees_all fs (x ++ y)) h in
      or_cases (not (f t)) (departs fs x) e (λ out. not_not (f t) out parts.0) (λ out. both_ways (sees_all fs (x ++ y)) (departs_not fs x y out) parts.1))

  pub departs-append : (fs : List (T → Bool)) (x y : List T) → departs fs x ≡ true → departs fs (x ++ y) ≡ true
  departs-append [] x y e = cc
  departs-append (f ∷ fs) [] y e = cc
  departs-append (f ∷ fs) (t ∷ x) y e = or_cases (not (f t)) (departs fs x) e (λ out. or_left (not (f t)) (departs fs (x ++ y)) out)
      (λ out. or_right (not (f t)) (departs fs (x ++ y)) (departs-append fs x y out))

  pub level-append : (fs : List (T → Bool)) (m : ℕ) (x y : List (Placed T)) → departs fs (plain x) ≡ true → Level fs m x → Level fs m (x ++ y)
  level-append [] m x y e h = tt
  level-append (f ∷ []) m x y e h = tt
  level-append (f ∷ g ∷ fs) m [] y e h = cc
  level-append (f ∷ g ∷ fs) m (t ∷ x) y e h = λ here.
      let k = h here in
      (k.0, or_cases (not (f t.0)) (departs (g ∷ fs) (plain x)) e (λ out. absurd (not_not (f t.0) out here)) (λ out. level-append (g ∷ fs) m x y out k.1))

  level_agree : (fs : List (T → Bool)) (m : ℕ) (w w' : List (Placed T)) → sees_all fs (plain w) ≡ true → (sees_all fs (plain w') ≡ true → ⊥) → Level fs m w → Level fs m w' → Agrees w w'
  level_agree [] m w w' e bar h h' = absurd (bar refl)
  level_agree (f ∷ fs) m [] w' e bar h h' = tt
  level_agree (f ∷ fs) m (x ∷ w) [] e bar h h' = tt
  level_agree (f ∷ []) m (x ∷ w) (y ∷ w') e bar h h' = λ same.
      let parts = and_parts (f x.0) true e in
      absurd (bar (and_from (f y.0) true (subst (λ t. f t ≡ true) same parts.0) refl))
  level_agree (f ∷ g ∷ fs) m (x ∷ w) (y ∷ w') e bar h h' = λ same.
      let parts = and_parts (f x.0) (sees_all (g ∷ fs) (plain w)) e in
      let here : f y.0 ≡ true = subst (λ t. f t ≡ true) same parts.0 in
      let k = h parts.0 in
      let k' = h' here in
      (k.0 ∙ sym k'.0, level_agree (g ∷ fs) m w w' parts.1 (λ s. bar (and_from (f y.0) (sees_all (g ∷ fs) (plain w')) here s)) k.1 k'.1)

  -- The sentences of the first rule start with tokens of the sets, one of each, those of the second do not; and what
  -- starts with fewer of them can become either, with the same nestings.
  module _ {D : ℕ → Type 0} {A : Type 0} {n : ℕ} {P Q : Family T A} {p q : ℕ → Reader T A} {first first' : T → Bool} {last last' : A → T → Bool} {null null' : Bool}
      (left : Reads D n P p first last null) (right : Reads D n Q q first' last' null') (fs : List (T → Bool)) (k : ℕ)
      (Last : A → T → Bool) (left_in : (v : A) (t : T) → last v t ≡ true → Last v t ≡ true) (right_in : (v : A) (t : T) → last' v t ≡ true → Last v t ≡ true)
      (heads : ((d : ℕ) → D d) → (depth at : ℕ) (w : List (Placed T)) (v : A) → P depth at w v → (sees_all fs (plain w) ≡ true) × Level fs (at + k) w)
      (others : ((d : ℕ) → D d) → (depth at : ℕ) (w : List (Placed T)) (rest : List T) (v : A) → Q depth at w v → Avoids (Last v) rest → sees_all fs (plain w ++ rest) ≡ false)
      (levels : ((d : ℕ) → D d) → (depth at : ℕ) (w : List (Placed T)) (v : A) → Q depth at w v → Level fs (at + k) w)
      (left_common : 0 < n → (at : ℕ) (x : List T) → partly fs x ≡ true → StartsPlain P at x)
      (right_common : 0 < n → (at : ℕ) (x : List T) → partly fs x ≡ true → StartsPlain Q at x) where
    never : ((d : ℕ) → D d) → (depth at : ℕ) (w : List (Placed T)) (v : A) → Q depth at w v → sees_all fs (plain w) ≡ false
    never all depth at w v h = ap (sees_all fs) (sym (append-nil (plain w))) ∙ others all depth at w [] v h tt

    pub ahead_in : Reads D n (P <∘> Q) (λ room. reads_when (sees_all fs) (p room) (q room)) (λ t. first t || first' t) Last (null || null')
    ahead_in =
        when_in left right (sees_all fs) Last left_in right_in
        (λ lt at x t rest seen depth w more v e h.
        ⊎_elim (λ yes. left_common lt at (x ++ (t ∷ [])) yes)
        (λ no. absurd (both_ways (sees_all fs (plain w)) (never (left.whole lt) depth at w v h) (ap (sees_all fs) e ∙ sees_within fs x t rest more seen no)))
        (cases_Bool (partly fs (x ++ (t ∷ [])))))
        (λ lt at x t rest seen depth w more v e h.
        ⊎_elim (λ yes. right_common lt at (x ++ (t ∷ [])) yes)
        (λ no. absurd (both_ways (sees_all fs (x ++ (t ∷ rest))) seen (sees_within fs x t more rest (ap (sees_all fs) (sym e) ∙ (heads (left.whole lt) depth at w v h).0) no)))
        (cases_Bool (partly fs (x ++ (t ∷ [])))))
        (λ all depth at w rest v h av. sees_all-append fs (plain w) rest (heads all depth at w v h).0)
        others
        (λ all depth depth' at w w' v v' h h'. level_agree fs (at + k) w w' (heads all depth at w v h).0
        (λ s. both_ways (sees_all fs (plain w')) (never all depth' at w' v' h') s) (heads all depth at w v h).1 (levels all depth' at w' v' h'))

  -- ---- how sentences start

  -- the tokens start with tokens of the sets, one of each, of this nesting
  abbrev pub StartsBy : List (T → Bool) → ℕ → List (Placed T) → Type 0
  StartsBy fs m w = (sees_all fs (plain w) ≡ true) × Level fs m w

  -- the tokens do not, but up to the first that is not of its set they have this nesting
  abbrev pub DepartsBy : List (T → Bool) → ℕ → List (Placed T) → Type 0
  DepartsBy fs m w = (departs fs (plain w) ≡ true) × Level fs m w

  level_on : (fs : List (T → Bool)) (m : ℕ) (x y : List (Placed T)) → sees_all fs (plain x) ≡ true → Level fs m x → Level fs m (x ++ y)
  level_on [] m x y e h = tt
  level_on (f ∷ []) m x y e h = tt
  level_on (f ∷ g ∷ fs) m [] y e h = cc
  level_on (f ∷ g ∷ fs) m (t ∷ x) y e h = λ here. let k = h here in (k.0, level_on (g ∷ fs) m x y (and_parts (f t.0) (sees_all (g ∷ fs) (plain x)) e).1 k.1)

  pub starts-append : (fs : List (T → Bool)) (m : ℕ) (x y : List (Placed T)) → StartsBy fs m x → StartsBy fs m (x ++ y)
  starts-append fs m x y h = (ap (sees_all fs) (plain-append x y) ∙ sees_all-append fs (plain x) (plain y) h.0, level_on fs m x y h.0 h.1)

  pub departs_by-append : (fs : List (T → Bool)) (m : ℕ) (x y : List (Placed T)) → DepartsBy fs m x → DepartsBy fs m (x ++ y)
  departs_by-append fs m x y h = (ap (departs fs) (plain-append x y) ∙ departs-append fs (plain x) (plain y) h.0, level-append fs m x y h.0 h.1)

  -- a rule after a rule starts as the first does
  pub starts_both : {A B : Type 0} (P : Rule T A) (Q : A → Rule T B) (fs : List (T → Bool)) (at m : ℕ) (w : List (Placed T)) (v : B) (h : (P >>= Q) at w v) → StartsBy fs m h.1 → StartsBy fs m w
  starts_both P Q fs at m w v h k = subst (StartsBy fs m) (sym h.3) (starts-append fs m h.1 h.2 k)

  pub departs_both : {A B : Type 0} (P : Rule T A) (Q : A → Rule T B) (fs : List (T → Bool)) (at m : ℕ) (w : List (Placed T)) (v : B) (h : (P >>= Q) at w v) → DepartsBy fs m h.1 → DepartsBy fs m w
  departs_both P Q fs at m w v h k = subst (DepartsBy fs m) (sym h.3) (departs_by-append fs m h.1 h.2 k)

  -- one token, and what follows it
  pub one_starts : {A B : Type 0} (f : T → Option A) (Q : A → Rule T B) (set : T → Bool) (fs : List (T → Bool)) (at m : ℕ) (w : List (Placed T)) (v : B) → ((t : T) → gives (f t) ≡ set t) → at ≡ m
      → (h : (one f >>= Q) at w v) → StartsBy fs m h.2 → StartsBy (set ∷ fs) m w
  one_starts f Q set fs at m w v exactly same h more =
      let whole : w ≡ (h.4.0, at) ∷ h.2 = h.3 ∙ ap (λ l. l ++ h.2) h.4.1 in
      let seen : set h.4.0 ≡ true = sym (exactly h.4.0) ∙ ap gives h.4.2 in
      subst (StartsBy (set ∷ fs) m) (sym whole) (and_from (set h.4.0) (sees_all fs (plain h.2)) seen more.0, level_token set fs m (h.4.0, at) h.2 same more.1)

  pub one_departs : {A B : Type 0} (f : T → Option A) (Q : A → Rule T B) (set : T → Bool) (fs : List (T → Bool)) (at m : ℕ) (w : List (Placed T)) (v : B) → at ≡ m
      → (h : (one f >>= Q) at w v) → DepartsBy fs m h.2 → DepartsBy (set ∷ fs) m w
  one_departs f Q set fs at m w v same h more =
      let whole : w ≡ (h.4.0, at) ∷ h.2 = h.3 ∙ ap (λ l. l ++ h.2) h.4.1 in
      subst (DepartsBy (set ∷ fs) m) (sym whole) (or_right (not (set h.4.0)) (departs fs (plain h.2)) more.0, level_token set fs m (h.4.0, at) h.2 same more.1)

  pub first_departs : (f : T → Bool) (fs : List (T → Bool)) (m : ℕ) (t : Placed T) (w : List (Placed T)) → f t.0 ≡ false → DepartsBy (f ∷ fs) m (t ∷ w)
  first_departs f fs m t w out = (or_left (not (f t.0)) (departs fs (plain w)) (not_from_false (f t.0) out), level_out f fs m t w out)

  module _ {D : ℕ → Type 0} {A : Type 0} {n : ℕ} {P : Family T A} {p : ℕ → Reader T A} {first : T → Bool} {last : A → T → Bool} (good : Reads D n P p first last false) where
    -- a rule none of whose first tokens is of the set
    pub begins_departs : (f : T → Bool) (fs : List (T → Bool)) → ((t : T) → first t ≡ true → f t ≡ true → ⊥) → (depth at m : ℕ) → D depth →
        (w : List (Placed T)) (v : A) → P depth at w v → DepartsBy (f ∷ fs) m w
    begins_departs f fs apart depth at m dd [] v h = absurd (both_ways false refl (good.empty depth at dd v h))
    begins_departs f fs apart depth at m dd (t ∷ w) v h = first_departs f fs m t w (false_from_ne_true (f t.0) (λ yes. apart t.0 (good.begins depth at dd t w v h) yes))

    -- a rule all of whose first tokens are of the set
    pub begins_starts : (f : T → Bool) → ((t : T) → first t ≡ true → f t ≡ true) → (depth at m : ℕ) → D depth → (w : List (Placed T)) (v : A) → P depth at w v → StartsBy (f ∷ []) m w
    begins_starts f within depth at m dd [] v h = absurd (both_ways false refl (good.empty depth at dd v h))
    begins_starts f within depth at m dd (t ∷ w) v h = (and_from (f t.0) true (within t.0 (good.begins depth at dd t w v h)) refl, tt)

  -- one token or none, and what follows it
  pub optional_departs : {A B : Type 0} (f : T → Option A) (Q : Option A → Rule T B) (set : T → Bool) (fs : List (T → Bool)) (at m : ℕ) (w : List (Placed T)) (v : B) → at ≡ m
      → (h : (optional (one f) >>= Q) at w v) → DepartsBy fs m h.2 → DepartsBy (set ∷ fs) m h.2 → DepartsBy (set ∷ fs) m w
  optional_departs f Q set fs at m w v same h more alone =
      subst (DepartsBy (set ∷ fs) m) (sym h.3)
      (⊎_elim
      (λ k.
      let token : h.1 ≡ (k.4.0, at) ∷ [] = k.3 ∙ ap (λ l. l ++ k.2) k.4.1 ∙ ap (λ l. (k.4.0, at) ∷ l) k.5.0 in
      let here : DepartsBy (set ∷ fs) m ((k.4.0, at) ∷ h.2) = (or_right (not (set k.4.0)) (departs fs (plain h.2)) more.0, level_token set fs m (k.4.0, at) h.2 same more.1) in
      subst (λ l. DepartsBy (set ∷ fs) m (l ++ h.2)) (sym token) here)
      (λ k. subst (λ l. DepartsBy (set ∷ fs) m (l ++ h.2)) (sym k.0) alone)
      h.4)

  -- ---- by two tokens: what is common is the first

  module _ {D : ℕ → Type 0} {A : Type 0} {n : ℕ} {P Q : Family T A} {p q : ℕ → Reader T A} {first first' : T → Bool} {last last' : A → T → Bool} {null null' : Bool}
      (left : Reads D n P p first last null) (right : Reads D n Q q first' last' null') (f g : T → Bool) (k : ℕ)
      (Last : A → T → Bool) (left_in : (v : A) (t : T) → last v t ≡ true → Last v t ≡ true) (right_in : (v : A) (t : T) → last' v t ≡ true → Last v t ≡ true)
      (heads : ((d : ℕ) → D d) → (depth at : ℕ) (w : List (Placed T)) (v : A) → P depth at w v → StartsBy (f ∷ g ∷ []) (at + k) w)
      (others : ((d : ℕ) → D d) → (depth at : ℕ) (w : List (Placed T)) (v : A) → Q depth at w v → DepartsBy (f ∷ g ∷ []) (at + k) w)
      (left_first : (t : T) → f t ≡ true → first t ≡ true) (right_first : (t : T) → f t ≡ true → first' t ≡ true) where
    common_of : {R : Family T A} {r : ℕ → Reader T A} {begins : T → Bool} {ends : A → T → Bool} {z : Bool} → Reads D n R r begins ends z →
        ((t : T) → f t ≡ true → begins t ≡ true) → 0 < n → (at : ℕ) (x : List T) → partly (f ∷ g ∷ []) x ≡ true → StartsPlain R at x
    common_of good within lt at [] e = let some = good.inhabited (good.whole lt) at in (some.2.0, some.0, plain some.0, some.1, refl, some.2.1)
    common_of good within lt at (t ∷ []) e =
        let some = good.begun lt at t (within t (and_parts (f t) true e).0) in
        (some.4.0, (t, some.0) ∷ some.1, plain some.1, some.2, refl, some.4.1)
    common_of good within lt at (t ∷ u ∷ x) e =
        let parts = and_parts (f t) (g u && false) e in
        let no_way : false ≡ true = (and_parts (g u) false parts.1).1 in
        absurd (both_ways false refl no_way)

    pub ahead_two : Reads D n (P <∘> Q) (λ room. reads_when (sees_all (f ∷ g ∷ [])) (p room) (q room)) (λ t. first t || first' t) Last (null || null')
    ahead_two =
        ahead_in left right (f ∷ g ∷ []) k Last left_in right_in heads
        (λ all depth at w rest v h av. departs_not (f ∷ g ∷ []) (plain w) rest (others all depth at w v h).0)
        (λ all depth at w v h. (others all depth at w v h).1)
        (common_of left left_first) (common_of right right_first)

  -- ---- what starts a sentence, token by token, for the common beginnings of two alternatives

  pub start_none : {D : ℕ → Type 0} {A : Type 0} {n : ℕ} {P : Family T A} {p : ℕ → Reader T A} {first : T → Bool} {last : A → T → Bool} {null : Bool}
      → Reads D n P p first last null → 0 < n → (at : ℕ) → StartsPlain P at []
  start_none good lt at = let k = good.inhabited (good.whole lt) at in (k.2.0, k.0, plain k.0, k.1, refl, k.2.1)

  pub start_begun : {D : ℕ → Type 0} {A : Type 0} {n : ℕ} {P : Family T A} {p : ℕ → Reader T A} {first : T → Bool} {last : A → T → Bool} {null : Bool}
      → Reads D n P p first last null → 0 < n → (at : ℕ) (t : T) → first t ≡ true → StartsPlain P at (t ∷ [])
  start_begun good lt at t e = let k = good.begun lt at t e in (k.4.0, (t, k.0) ∷ k.1, plain k.1, k.2, refl, k.4.1)

  pub start_one : {A B : Type 0} (f : T → Option A) (Q : A → Family T B) (at : ℕ) (t : T) (a : A) (x : List T) → f t ≡ Some a → StartsPlain (Q a) at x → StartsPlain ((λ depth. one f) ∘> Q) at (t ∷ x)
  start_one f Q at t a x e k = (k.0, (t, at) ∷ k.1, k.2, k.3, ap (λ l. t ∷ l) k.4, (a, (t, at) ∷ [], k.1, refl, (t, refl, e), k.5))

  pub start_both : {D : ℕ → Type 0} {A B : Type 0} {n m : ℕ} {P : Family T A} {Q : A → Family T B} {p : ℕ → Reader T A} {q : A → ℕ → Reader T B}
      {first : T → Bool} {last : A → T → Bool} {first' : A → T → Bool} {last' : B → T → Bool} {null null' : Bool}
      → Reads D n P p first last null → ((a : A) → Reads D m (Q a) (q a) (first' a) last' null') → 0 < n → (at : ℕ) (x : List T) → StartsPlain P at x → StartsPlain (P ∘> Q) at x
  start_both {P = P} {Q = Q} before after lt at x k =
      let all = before.whole lt in
      let some = (after k.3).inhabited all at in
      let ph : P (some.2.0 + k.0) at k.1 k.3 = deeper_by before all some.2.0 k.0 at k.1 k.3 k.5 in
      let qh : Q k.3 (k.0 + some.2.0) at some.0 some.1 = deeper_by (after k.3) all k.0 some.2.0 at some.0 some.1 some.2.1 in
      let same : k.0 + some.2.0 ≡ some.2.0 + k.0 = omega arith in (
        some.2.0 + k.0,
        k.1 ++ some.0,
        k.2 ++ plain some.0,
        some.1,
        plain-append k.1 some.0 ∙ ap (λ l. l ++ plain some.0) k.4 ∙ append_assoc x k.2 (plain some.0),
        (k.3, k.1, some.0, refl, ph, subst (λ d. Q k.3 d at some.0 some.1) same qh),
      )

  pub start_left : {A : Type 0} (P Q : Family T A) (at : ℕ) (x : List T) → StartsPlain P at x → StartsPlain (P <∘> Q) at x
  start_left P Q at x k = (k.0, k.1, k.2, k.3, k.4, inl k.5)

  -- ---- the same alternatives in the other order

  module _ {D : ℕ → Type 0} {A : Type 0} {n : ℕ} {P Q : Family T A} {p : ℕ → Reader T A} {first : T → Bool} {last : A → T → Bool} {null : Bool} where
    pub swapped : Reads D n (P <∘> Q) p first last null → Reads D n (Q <∘> P) p first last null
    swapped good = same_rule good (Q <∘> P) (λ depth at w v h. ⊎_elim (λ a. inr a) (λ b. inl b) h) (λ depth at w v h. ⊎_elim (λ a. inr a) (λ b. inl b) h)

  -- ---- a common beginning

  module _ {D : ℕ → Type 0} {A B : Type 0} {n : ℕ} {P : Family T A} {Q R : A → Family T B} {p : ℕ → Reader T B} {first : T → Bool} {last : B → T → Bool} {null : Bool} where
    -- two alternatives that begin with the same rule
    pub shared : Reads D n (P ∘> (λ a. Q a <∘> R a)) p first last null → Reads D n ((P ∘> Q) <∘> (P ∘> R)) p first last null
    shared good =
        same_rule good ((P ∘> Q) <∘> (P ∘> R))
        (λ depth at w v h. ⊎_elim (λ q. inl (h.0, h.1, h.2, h.3, h.4, q)) (λ r. inr (h.0, h.1, h.2, h.3, h.4, r)) h.5)
        (λ depth at w v h. ⊎_elim (λ q. (q.0, q.1, q.2, q.3, q.4, inl q.5)) (λ r. (r.0, r.1, r.2, r.3, r.4, inr r.5)) h)

  module _ {D : ℕ → Type 0} {A B C : Type 0} {n : ℕ} {P : Family T A} {Q : A → Family T B} {R : B → Family T C} {p : ℕ → Reader T C} {first : T → Bool} {last : C → T → Bool} {null : Bool} where
    -- three rules, of which the first two are one
    pub regrouped : Reads D n (P ∘> (λ a. Q a ∘> R)) p first last null → Reads D n ((P ∘> Q) ∘> R) p first last null
    regrouped good =
        same_rule good ((P ∘> Q) ∘> R)
        (λ depth at w v h.
        let k = h.5 in
        (k.0, h.1 ++ k.1, k.2, h.3 ∙ ap (λ l. h.1 ++ l) k.3 ∙ sym (append_assoc h.1 k.1 k.2), (h.0, h.1, k.1, refl, h.4, k.4), k.5))
        (λ depth at w v h.
        let k = h.4 in
        (k.0, k.1, k.2 ++ h.2, h.3 ∙ ap (λ l. l ++ h.2) k.3 ∙ append_assoc k.1 k.2 h.2, k.4, (h.0, k.2, h.2, refl, k.5, h.5)))

  -- ---- once or not at all

  module _ {D : ℕ → Type 0} {A : Type 0} {n : ℕ} {P : Family T A} {p : ℕ → Reader T A} {first : T → Bool} {last : A → T → Bool} (good : Reads D n P p first last false)
      (Last : Option A → T → Bool) (some_in : (v : A) (t : T) → last v t ≡ true → Last (Some v) t ≡ true) (none_in : (t : T) → first t ≡ true → Last None t ≡ true) where
    pub may : Reads D n (λ depth. optional (P depth)) (λ room. reads_optional first (p room)) first Last true
    may =
        resize
        (either_in (ends good (λ v. Some v) Last some_in) (reads_nothing {n = n} good.whole None) (λ t e h. cc) Last (λ v t e. e) (λ v t e. cc)
        (λ depth at v t z h e. subst (λ o. Last o t ≡ true) (sym h.1) (none_in t e)))
        first Last true (λ t. or-false (first t)) (λ v t e. e) refl
