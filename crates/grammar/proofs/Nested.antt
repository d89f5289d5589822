-- One level deeper, and rules that refer to themselves.
use Rattle.std.proofs.Common.{◌≡◌, ℕ, zero, suc, ◌+◌, ◌<◌, ◌≤◌, List, [], ◌∷◌, ◌++◌, length, Option, Bool, true, false, refl, sym, ap, ◌∙◌, subst, ⊎_elim, arith}
use Rattle.std.specs.Prelude.{Ok, Err, if◌then◌else◌, ◌==◌}
use Rattle.std.proofs.lemmas.Bool.{eqb-true, false_from_ne_true, both_ways}
use Rattle.grammar.specs.Rules.{Placed, Family, one, ◌>>=◌, ◌<|>◌, nested}
use Rattle.grammar.specs.Sentences.{plain, Within, Spelled, Starts}
use Rattle.grammar.specs.Readers.{Syntax, Deep, Reading, Reader, sees, too_deep, too_deep_or, reads_within}
use Rattle.grammar.proofs.Lists.{Agrees}
use Rattle.grammar.proofs.Good.{Reads, Answers, Dead, Avoids, Calm, ◌∘>◌}
use Rattle.grammar.proofs.Parts.{gives, same_reader}

-- what a bracket adds
abbrev pub extra : Bool → ℕ
extra true = 1
extra false = 0

module _ {T : Type 0} where
  module _ {D : ℕ → Type 0} {A : Type 0} {n : ℕ} {P : Family T A} {p : ℕ → Reader T A} {first : T → Bool} {last : A → T → Bool} (good : Reads D n P p first last false) where
    abbrev Inside : Family T A
    Inside depth = nested (P depth)

    abbrev Stopped : List T → Reading T A
    Stopped ts = Err (Syntax ts)

    -- what begins with no token of the set stops at once
    unseen : (at room : ℕ) (ts : List T) → length ts < n → sees first ts ≡ false → (r : Reading T A) → Answers P at (at + room) ts r → r ≡ Err (Syntax ts)
    unseen at room ts lt out (Ok x) k = absurd (seen_sentence ts k.0 x.1 x.0 k.2.0 k.1 out k.2.1) where
      seen_sentence : (ts : List T) (w : List (Placed T)) (rest : List T) (v : A) (depth : ℕ) → ts ≡ plain w ++ rest → sees first ts ≡ false → P depth at w v → ⊥
      seen_sentence ts [] rest v depth e out h = both_ways false refl (good.empty depth at (good.whole (omega arith) depth) v h)
      seen_sentence ts (t ∷ w) rest v depth e out h = both_ways (first t.0) (sym (ap (sees first) e) ∙ out) (good.begins depth at (good.whole (omega arith) depth) t w v h)
    unseen at room ts lt out (Err (Syntax rest)) k = stuck_at k.0 k.1 k.2 where
      stuck_at : (w : List (Placed T)) → ts ≡ plain w ++ rest → Starts P at w → Stopped rest ≡ Stopped ts
      stuck_at [] e h = ap Stopped (sym e)
      stuck_at (t ∷ w) e h = absurd (both_ways (first t.0) (sym (ap (sees first) e) ∙ out) (good.begins h.2.0 at (good.whole (omega arith) h.2.0) t (w ++ h.0) h.1 h.2.1))
    unseen at room ts lt out (Err (Deep above rest)) k = absurd (deep_at k.0 (k.5 ∙ ap (λ l. plain k.0 ++ l) k.4) k.6) where
      deep_at : (w : List (Placed T)) → ts ≡ plain w ++ (k.1 ∷ k.3) → Starts P at (w ++ ((k.1, k.2) ∷ [])) → ⊥
      deep_at [] e h = both_ways (first k.1) (sym (ap (sees first) e) ∙ out) (good.begins h.2.0 at (good.whole (omega arith) h.2.0) (k.1, k.2) h.0 h.1 h.2.1)
      deep_at (t ∷ w) e h = both_ways (first t.0) (sym (ap (sees first) e) ∙ out) (good.begins h.2.0 at (good.whole (omega arith) h.2.0) t ((w ++ ((k.1, k.2) ∷ [])) ++ h.0) h.1 h.2.1)

    to_inside : (at limit : ℕ) (ts : List T) (r : Reading T A) → Answers P (at + 1) limit ts r → Answers Inside at limit ts r
    to_inside at limit ts (Ok x) k = (k.0, k.1, k.2, k.3, inside_dead at (plain k.0) x.1 k.4) where
      inside_dead : (at : ℕ) (done rest : List T) → Dead P (at + 1) done rest → Dead Inside at done rest
      inside_dead at done [] dead = tt
      inside_dead at done (t ∷ rest) dead = dead
    to_inside at limit ts (Err (Syntax rest)) k = (k.0, k.1, k.2, k.3, inside_dead' at (plain k.0) rest k.4) where
      inside_dead' : (at : ℕ) (done rest : List T) → Dead P (at + 1) done rest → Dead Inside at done rest
      inside_dead' at done [] dead = tt
      inside_dead' at done (t ∷ rest) dead = dead
    to_inside at limit ts (Err (Deep above rest)) k = k

    -- how much deeper than the rule the sentences' first tokens stand
    abbrev Leads : (T → ℕ) → Type 0
    Leads more = (depth at : ℕ) → D depth → (t : Placed T) (w : List (Placed T)) (v : A) → P depth at (t ∷ w) v → t.1 ≡ at + more t.0

    abbrev stopped_by : (T → ℕ) → List T → Reading T A
    stopped_by more [] = Err (Syntax [])
    stopped_by more (t ∷ ts) = if first t then Err (Deep (suc (more t)) (t ∷ ts)) else Err (Syntax (t ∷ ts))

    deep_at : (more : T → ℕ) → Leads more → (at : ℕ) (t : T) (ts : List T) → length (t ∷ ts) < n → (b : Bool) → first t ≡ b → Answers Inside at (at + 0)
        (t ∷ ts) (if b then Err (Deep (suc (more t)) (t ∷ ts)) else Err (Syntax (t ∷ ts)))
    deep_at more leads at t ts lt true e =
        let k = good.begun (omega arith) (at + 1) t e in
        let here : k.0 ≡ (at + 1) + more t = leads k.4.0 (at + 1) (good.whole (omega arith) k.4.0) (t, k.0) k.1 k.2 k.4.1 in
        ([], t, k.0, ts, refl, refl, (k.1, k.2, k.4), tt, ((let i : k.0 ≡ (at + 0) + suc (more t) = omega (arith, here) in i), (let i : at + 0 < k.0 = omega (arith, here) in i)))
    deep_at more leads at t ts lt false e =
        let some = good.inhabited (good.whole (omega arith)) (at + 1) in
        ([], refl, (some.0, some.1, some.2), tt, λ depth w more v s h. no_first depth w more v s h) where
          no_first : (depth : ℕ) (w : List (Placed T)) (more : List T) (v : A) → plain w ≡ t ∷ more → P depth (at + 1) w v → ⊥
          no_first depth [] more v s h = cc
          no_first depth (x ∷ w) more v s h =
              let same : x.0 ≡ t = cc in
              both_ways (first t) e (subst (λ y. first y ≡ true) same (good.begins depth (at + 1) (good.whole (omega arith) depth) x w v h))

    deep_sound : (more : T → ℕ) → Leads more → (at : ℕ) (ts : List T) → length ts < n → Answers Inside at (at + 0) ts (stopped_by more ts)
    deep_sound more leads at [] lt = let some = good.inhabited (good.whole (omega arith)) (at + 1) in ([], refl, (some.0, some.1, some.2), tt, tt)
    deep_sound more leads at (t ∷ ts) lt = deep_at more leads at t ts lt (first t) refl

    -- p', which takes a level of room and reads as p does with the rest, reads the rule one level deeper
    module _ (p' : ℕ → Reader T A) (more : T → ℕ) (leads : Leads more) (without : (ts : List T) → p' 0 ts ≡ stopped_by more ts) (with : (room : ℕ) (ts : List T) → p' (suc room) ts ≡ p room ts) where
      inside_sound : (at room : ℕ) (ts : List T) → length ts < n → Answers Inside at (at + room) ts (p' room ts)
      inside_sound at zero ts lt = subst (Answers Inside at (at + 0) ts) (sym (without ts)) (deep_sound more leads at ts lt)
      inside_sound at (suc room) ts lt =
          let limit : (at + 1) + room ≡ at + suc room = omega arith in
          subst (Answers Inside at (at + suc room) ts) (sym (with room ts)) (subst (λ l. Answers Inside at l ts (p room ts)) limit
          (to_inside at ((at + 1) + room) ts (p room ts) (good.sound (at + 1) room ts lt)))

      inside_complete : (depth at room : ℕ) (ts : List T) (w : List (Placed T)) (rest : List T) (v : A) → length ts < n → ts ≡ plain w ++ rest
          → Inside depth at w v → Within (at + room) w → Avoids (last v) rest → p' room ts ≡ Ok (v, rest)
      inside_complete depth at zero ts [] rest v lt e h low av = absurd (both_ways false refl (good.empty depth (at + 1) (good.whole (omega arith) depth) v h))
      inside_complete depth at zero ts (t ∷ w) rest v lt e h low av =
          let high : at + 1 ≤ t.1 = good.above depth (at + 1) (good.whole (omega arith) depth) t w v h in
          absurd (omega (arith, high, low.0))
      inside_complete depth at (suc room) ts w rest v lt e h low av =
          let limit : at + suc room ≡ (at + 1) + room = omega arith in
          with room ts ∙ good.complete depth (at + 1) room ts w rest v lt e h (subst (λ l. Within l w) limit low) av

      out_of : (ts : List T) → Calm (stopped_by more ts) → sees first ts ≡ false
      out_of [] calm = refl
      out_of (t ∷ ts) calm = out_at (first t) calm where
        out_at : (b : Bool) → Calm {A = A} (if b then Err (Deep (suc (more t)) (t ∷ ts)) else Err (Syntax (t ∷ ts))) → b ≡ false
        out_at true calm = absurd calm
        out_at false calm = refl

      stopped_out : (ts : List T) → sees first ts ≡ false → stopped_by more ts ≡ Stopped ts
      stopped_out [] out = refl
      stopped_out (t ∷ ts) out = ap (λ b. if b then Err (Deep (suc (more t)) (t ∷ ts)) else Err (Syntax (t ∷ ts))) out

      inside_stable : (room : ℕ) (ts : List T) → length ts < n → Calm (p' room ts) → p' (suc room) ts ≡ p' room ts
      inside_stable zero ts lt calm =
          let out : sees first ts ≡ false = out_of ts (subst Calm (without ts) calm) in
          with 0 ts ∙ unseen 0 0 ts lt out (p 0 ts) (good.sound 0 0 ts lt) ∙ sym (without ts ∙ stopped_out ts out)
      inside_stable (suc room) ts lt calm = with (suc room) ts ∙ good.stable room ts lt (subst Calm (with room ts) calm) ∙ sym (with room ts)

      pub inside_in : Reads D n Inside p' first last false
      inside_in = record {
        whole = good.whole;
        deeper = λ depth at. good.deeper depth (at + 1);
        begins = λ depth at. good.begins depth (at + 1);
        above = λ depth at dd t w v h. (let i = good.above depth (at + 1) dd t w v h in omega (arith, i));
        begun = λ lt at t h. let k = good.begun lt (at + 1) t h in (k.0, k.1, k.2, omega (arith, k.3), k.4);
        empty = λ depth at. good.empty depth (at + 1);
        nothing = λ all at. good.nothing all (at + 1);
        inhabited = λ all at. good.inhabited all (at + 1);
        stable = inside_stable;
        fixed = λ depth depth' at. good.fixed depth depth' (at + 1);
        sound = inside_sound;
        complete = inside_complete;
      }

  -- sentences begin at the nesting of their rule
  pub record Flat {A : Type 0} (D : ℕ → Type 0) (P : Family T A) : Type 0 where
    pub level : (depth at : ℕ) → D depth → (t : Placed T) (w : List (Placed T)) (v : A) → P depth at (t ∷ w) v → t.1 ≡ at

  -- the same, but with a token of the set one level deeper
  pub record OpensBy {A : Type 0} (D : ℕ → Type 0) (opens : T → Bool) (P : Family T A) : Type 0 where
    pub level : (depth at : ℕ) → D depth → (t : Placed T) (w : List (Placed T)) (v : A) → P depth at (t ∷ w) v → t.1 ≡ at + extra (opens t.0)

  module _ {D : ℕ → Type 0} {A : Type 0} {n : ℕ} {P : Family T A} {first : T → Bool} {last : A → T → Bool} where
    -- a reader that refers to itself, below where it is entered: p' without room stops, and with room reads as p does
    pub deeper_in : {p : ℕ → Reader T A} → Reads D n P p first last false → (opens : T → Bool) → OpensBy D opens P → ((t : T) → opens t ≡ true → first t ≡ true)
        → (p' : ℕ → Reader T A) → ((ts : List T) → p' 0 ts ≡ too_deep_or opens first ts) → ((room : ℕ) (ts : List T) → p' (suc room) ts ≡ p room ts)
        → Reads D n (λ depth. nested (P depth)) p' first last false
    deeper_in good opens level opening p' without with = inside_in good p' (λ t. extra (opens t)) level.level (λ ts. without ts ∙ same_stop ts) with where
      same_stop : (ts : List T) → too_deep_or {A = A} opens first ts ≡ stopped_by good (λ t. extra (opens t)) ts
      same_stop [] = refl
      same_stop (t ∷ ts) = stop_at (opens t) refl where
        stop_at : (b : Bool) → opens t ≡ b → (if b then Err (Deep 2 (t ∷ ts)) else too_deep {A = A} first (t ∷ ts)) ≡ (if first t then Err (Deep (suc (extra b)) (t ∷ ts)) else Err (Syntax (t ∷ ts)))
        stop_at true e = ap (λ c. if c then Err (Deep 2 (t ∷ ts)) else Err (Syntax (t ∷ ts))) (sym (opening t e))
        stop_at false e = refl

    -- a bracket and what it encloses: p reads it, the room that it takes being one of those it counts
    pub within_in : (p : ℕ → Reader T A) → Reads D n P (λ room. p (suc room)) first last false → Flat D P → Reads D n (λ depth. nested (P depth))
        (λ room. reads_within first room (p room)) first last false
    within_in p good flat =
        inside_in good (λ room. reads_within first room (p room)) (λ t. 0) (λ depth at dd t w v h. let i = flat.level depth at dd t w v h in omega (arith, i)) same_stop
        (λ room ts. ap (λ b. if b then too_deep first ts else p (suc room) ts) (false_from_ne_true (suc room == 0) (λ h. omega (arith, eqb-true (suc room) 0 h)))) where
          same_stop : (ts : List T) → too_deep {A = A} first ts ≡ stopped_by good (λ t. 0) ts
          same_stop [] = refl
          same_stop (t ∷ ts) = refl

  -- ---- at which level sentences begin

  -- one token, and what follows it
  pub one_flat : {D : ℕ → Type 0} {A B : Type 0} (f : T → Option A) (Q : A → Family T B) → Flat D ((λ depth. one f) ∘> Q)
  one_flat f Q = record {
    level = λ depth at dd t w v h.
        let whole : t ∷ w ≡ (h.4.0, at) ∷ h.2 = h.3 ∙ ap (λ l. l ++ h.2) h.4.1 in
        let here : Placed T = (h.4.0, at) in
        let same : here ≡ t = cc (whole) in
        sym (ap (λ x. x.1) same);
  }

  -- and what follows it
  pub one_opens : {D : ℕ → Type 0} {A B : Type 0} (opens : T → Bool) (f : T → Option A) (Q : A → Family T B) → ((t : T) → gives (f t) ≡ true → opens t ≡ false)
      → OpensBy D opens ((λ depth. one f) ∘> Q)
  one_opens opens f Q closes = record {
    level = λ depth at dd t w v h.
        let whole : t ∷ w ≡ (h.4.0, at) ∷ h.2 = h.3 ∙ ap (λ l. l ++ h.2) h.4.1 in
        let here : Placed T = (h.4.0, at) in
        let same : here ≡ t = cc (whole) in
        let out : opens t.0 ≡ false = subst (λ x. opens x.0 ≡ false) same (closes h.4.0 (ap gives h.4.2)) in
        let level : t.1 ≡ at = sym (ap (λ x. x.1) same) in
        let none : extra (opens t.0) ≡ 0 = ap extra out in
        omega (arith, level, none);
  }

  -- a bracket and what it encloses
  pub group_opens : {D : ℕ → Type 0} {A B : Type 0} (opens : T → Bool) (f : T → Option A) (Q : A → Family T B) →
      ((t : T) → gives (f t) ≡ true → opens t ≡ true) → OpensBy D opens (λ depth. nested (one f >>= (λ a. Q a depth)))
  group_opens opens f Q all = record {
    level = λ depth at dd t w v h.
        let whole : t ∷ w ≡ (h.4.0, at + 1) ∷ h.2 = h.3 ∙ ap (λ l. l ++ h.2) h.4.1 in
        let here : Placed T = (h.4.0, at + 1) in
        let same : here ≡ t = cc (whole) in
        let out : opens t.0 ≡ true = subst (λ x. opens x.0 ≡ true) same (all h.4.0 (ap gives h.4.2)) in
        let level : t.1 ≡ at + 1 = sym (ap (λ x. x.1) same) in
        let one_more : extra (opens t.0) ≡ 1 = ap extra out in
        omega (arith, level, one_more);
  }

  -- a rule that is never empty, and what follows it
  pub both_opens : {D : ℕ → Type 0} {A B : Type 0} {P : Family T A} {opens : T → Bool} (Q : A → Family T B) → ((depth at : ℕ) (v : A) → P depth at [] v → ⊥)
      → OpensBy D opens P → OpensBy D opens (P ∘> Q)
  both_opens {D = D} {A = A} {P = P} {opens = opens} Q some opening = record { level = λ depth at dd t w v h. front_opens depth at dd t w h.1 h.2 h.0 h.3 h.4 } where
    front_opens : (depth at : ℕ) → D depth → (t : Placed T) (w front back : List (Placed T)) (a : A) → t ∷ w ≡ front ++ back → P depth at front a → t.1 ≡ at + extra (opens t.0)
    front_opens depth at dd t w [] back a e k = absurd (some depth at a k)
    front_opens depth at dd t w (x ∷ front) back a e k =
        let same : x ≡ t = cc in
        subst (λ y. y.1 ≡ at + extra (opens y.0)) same (opening.level depth at dd x front a k)

  pub either_opens : {D : ℕ → Type 0} {A : Type 0} {P Q : Family T A} {opens : T → Bool} → OpensBy D opens P → OpensBy D opens Q → OpensBy D opens (λ depth. P depth <|> Q depth)
  either_opens left right = record { level = λ depth at dd t w v h. ⊎_elim (λ k. left.level depth at dd t w v k) (λ k. right.level depth at dd t w v k) h }

  -- a rule that is known at each depth from the one below
  pub depth_opens : {A : Type 0} (E : Family T A) (opens : T → Bool) → ((at : ℕ) (w : List (Placed T)) (v : A) → E 0 at w v → ⊥) → {D : ℕ → Type 0} → OpensBy
      (λ depth. Unit {0}) opens (λ depth. E (suc depth)) → OpensBy D opens E
  depth_opens E opens none body = record { level = λ depth at dd t w v h. at_depth depth at t w v h } where
    at_depth : (depth at : ℕ) (t : Placed T) (w : List (Placed T)) (v : _) → E depth at (t ∷ w) v → t.1 ≡ at + extra (opens t.0)
    at_depth zero at t w v h = absurd (none at (t ∷ w) v h)
    at_depth (suc depth) at t w v h = body.level depth at tt t w v h

  -- ---- a rule by how often it is entered: the one at a depth is made of the one below

  module _ {D D' : ℕ → Type 0} {A : Type 0} {n : ℕ} (E : Family T A) {p : ℕ → Reader T A} {first : T → Bool} {last : A → T → Bool} {null : Bool}
      (body : Reads D n (λ depth. E (suc depth)) p first last null) (none : (at : ℕ) (w : List (Placed T)) (v : A) → E 0 at w v → ⊥)
      (below : (depth : ℕ) → D' (suc depth) → D depth) (whole : 0 < n → (depth : ℕ) → D' depth) (whole' : ((d : ℕ) → D' d) → (d : ℕ) → D d) where
    abbrev Next : Family T A
    Next depth = E (suc depth)

    entered_deeper : (depth at : ℕ) → D' depth → (w : List (Placed T)) (v : A) → E depth at w v → E (suc depth) at w v
    entered_deeper zero at dd w v h = absurd (none at w v h)
    entered_deeper (suc depth) at dd w v h = body.deeper depth at (below depth dd) w v h

    entered_begins : (depth at : ℕ) → D' depth → (t : Placed T) (w : List (Placed T)) (v : A) → E depth at (t ∷ w) v → first t.0 ≡ true
    entered_begins zero at dd t w v h = absurd (none at (t ∷ w) v h)
    entered_begins (suc depth) at dd t w v h = body.begins depth at (below depth dd) t w v h

    entered_above : (depth at : ℕ) → D' depth → (t : Placed T) (w : List (Placed T)) (v : A) → E depth at (t ∷ w) v → at ≤ t.1
    entered_above zero at dd t w v h = absurd (none at (t ∷ w) v h)
    entered_above (suc depth) at dd t w v h = body.above depth at (below depth dd) t w v h

    entered_empty : (depth at : ℕ) → D' depth → (v : A) → E depth at [] v → null ≡ true
    entered_empty zero at dd v h = absurd (none at [] v h)
    entered_empty (suc depth) at dd v h = body.empty depth at (below depth dd) v h

    entered_fixed : (depth depth' at : ℕ) (w w' : List (Placed T)) (v v' : A) → length w < n → length w' < n → E depth at w v → E depth' at w' v' → Agrees w w'
    entered_fixed zero depth' at w w' v v' lt lt' h h' = absurd (none at w v h)
    entered_fixed (suc depth) zero at w w' v v' lt lt' h h' = absurd (none at w' v' h')
    entered_fixed (suc depth) (suc depth') at w w' v v' lt lt' h h' = body.fixed depth depth' at w w' v v' lt lt' h h'

    entered_complete : (depth at room : ℕ) (ts : List T) (w : List (Placed T)) (rest : List T) (v : A) → length ts < n → ts ≡ plain w ++ rest → E depth at w v
        → Within (at + room) w → Avoids (last v) rest → p room ts ≡ Ok (v, rest)
    entered_complete zero at room ts w rest v lt e h low av = absurd (none at w v h)
    entered_complete (suc depth) at room ts w rest v lt e h low av = body.complete depth at room ts w rest v lt e h low av

    entered_dead_at : (at : ℕ) (done : List T) (t : T) (rest : List T) → Dead Next at done (t ∷ rest) → (depth : ℕ) (w : List (Placed T)) (more : List T)
        (v : A) → plain w ≡ done ++ (t ∷ more) → E depth at w v → ⊥
    entered_dead_at at done t rest dead zero w more v e h = none at w v h
    entered_dead_at at done t rest dead (suc depth) w more v e h = dead depth w more v e h

    entered_dead : (at : ℕ) (done rest : List T) → Dead Next at done rest → Dead E at done rest
    entered_dead at done [] dead = tt
    entered_dead at done (t ∷ rest) dead = entered_dead_at at done t rest dead

    entered_answers : (at limit : ℕ) (ts : List T) (r : Reading T A) → Answers Next at limit ts r → Answers E at limit ts r
    entered_answers at limit ts (Ok x) k = (k.0, k.1, (suc k.2.0, k.2.1), k.3, entered_dead at (plain k.0) x.1 k.4)
    entered_answers at limit ts (Err (Syntax rest)) k = (k.0, k.1, (k.2.0, k.2.1, (suc k.2.2.0, k.2.2.1)), k.3, entered_dead at (plain k.0) rest k.4)
    entered_answers at limit ts (Err (Deep above rest)) k = (k.0, k.1, k.2, k.3, k.4, k.5, (k.6.0, k.6.1, (suc k.6.2.0, k.6.2.1)), k.7, k.8)

    pub entered : Reads D' n E p first last null
    entered = record {
      whole = whole;
      deeper = entered_deeper;
      begins = entered_begins;
      above = entered_above;
      begun = λ lt at t h. let k = body.begun lt at t h in (k.0, k.1, k.2, k.3, (suc k.4.0, k.4.1));
      empty = entered_empty;
      nothing = λ all at h. let k = body.nothing (whole' all) at h in (k.0, (suc k.1.0, k.1.1));
      inhabited = λ all at. let k = body.inhabited (whole' all) at in (k.0, k.1, (suc k.2.0, k.2.1));
      stable = body.stable;
      fixed = entered_fixed;
      sound = λ at room ts lt. entered_answers at (at + room) ts (p room ts) (body.sound at room ts lt);
      complete = entered_complete;
    }

  -- ---- what is known of a rule before any of it is read

  module _ {A : Type 0} (G : Family T A) {first : T → Bool} {last : A → T → Bool} {null : Bool}
      (empty : null ≡ true → (at : ℕ) → (v : A) × Spelled G at [] v) (some : (at : ℕ) → (w : List (Placed T)) × (v : A) × Spelled G at w v) where
    -- at no depth, nothing
    unknown : (r : ℕ → Reader T A) → Reads (λ depth. depth < 0) 0 G r first last null
    unknown r = record {
      whole = λ lt. absurd (omega arith);
      deeper = λ depth at dd w v h. absurd (omega arith);
      begins = λ depth at dd t w v h. absurd (omega arith);
      above = λ depth at dd t w v h. absurd (omega arith);
      begun = λ lt. absurd (omega arith);
      empty = λ depth at dd v h. absurd (omega arith);
      nothing = λ all at h. empty h at;
      inhabited = λ all. some;
      stable = λ room ts lt calm. absurd (omega arith);
      fixed = λ depth depth' at w w' v v' lt lt' h h'. absurd (omega arith);
      sound = λ at room ts lt. absurd (omega arith);
      complete = λ depth at room ts w rest v lt e h low av. absurd (omega arith);
    }

    -- at every depth, what is known up to each
    shape_of : (r : ℕ → Reader T A) → ((k : ℕ) → Reads (λ depth. depth < k) 0 G r first last null) → Reads (λ depth. Unit {0}) 0 G r first last null
    shape_of r known = record {
      whole = λ lt. absurd (omega arith);
      deeper = λ depth at dd. (known (suc depth)).deeper depth at (omega arith);
      begins = λ depth at dd. (known (suc depth)).begins depth at (omega arith);
      above = λ depth at dd. (known (suc depth)).above depth at (omega arith);
      begun = λ lt. absurd (omega arith);
      empty = λ depth at dd. (known (suc depth)).empty depth at (omega arith);
      nothing = λ all at h. empty h at;
      inhabited = λ all. some;
      stable = λ room ts lt calm. absurd (omega arith);
      fixed = λ depth depth' at w w' v v' lt lt' h h'. absurd (omega arith);
      sound = λ at room ts lt. absurd (omega arith);
      complete = λ depth at room ts w rest v lt e h low av. absurd (omega arith);
    }

  -- A rule that refers to itself, and its reader, at every depth and for any number of tokens. The reader is by how many
  -- tokens there are, too, for a rule that refers to itself without nesting deeper; most do not use that number.
  module _ {A : Type 0} (E : Family T A) (p : ℕ → ℕ → Reader T A) {first : T → Bool} {last : A → T → Bool} {null : Bool}
      (none : (at : ℕ) (w : List (Placed T)) (v : A) → E 0 at w v → ⊥)
      (empty : null ≡ true → (at : ℕ) → (v : A) × Spelled E at [] v)
      (some : (at : ℕ) → (w : List (Placed T)) × (v : A) × Spelled E at w v)
      (body : (D : ℕ → Type 0) (n m : ℕ) → n ≤ suc m → m ≤ n → (0 < n → (depth : ℕ) → D depth) → Reads D m E (p m) first last null → Reads D n
      (λ depth. E (suc depth)) (p (suc m)) first last null) where
    shape : (k : ℕ) → Reads (λ depth. depth < k) 0 E (p 0) first last null
    shape zero = unknown E empty some (p 0)
    shape (suc k) =
        let inner = body (λ depth. depth < k) 0 0 (omega arith) (omega arith) (λ lt. absurd (omega arith)) (shape k) in
        same_reader (entered {D' = λ depth. depth < suc k} E inner none (λ depth lt. omega arith) (λ lt. absurd (omega arith))
        (λ all d. absurd (omega (arith, all (suc k))))) (p 0) (λ room ts lt. absurd (omega arith))

    pub at_any_depth : (n : ℕ) → Reads (λ depth. Unit {0}) n E (p n) first last null
    at_any_depth zero = shape_of E empty some (p 0) shape
    at_any_depth (suc n) =
        entered E (body (λ depth. Unit {0}) (suc n) n (omega arith) (omega arith) (λ lt depth. tt) (at_any_depth n)) none (λ depth lt. tt) (λ lt depth. tt) (λ all d. tt)

  -- Two rules that refer to themselves and to each other, as an operand with parentheses and an expression of operands.
  -- The second may begin with the first.
  module _ {A B : Type 0} (E : Family T A) (F : Family T B) (p : ℕ → ℕ → Reader T A) (q : ℕ → ℕ → Reader T B)
      {first first' : T → Bool} {last : A → T → Bool} {last' : B → T → Bool}
      (none : (at : ℕ) (w : List (Placed T)) (v : A) → E 0 at w v → ⊥) (none' : (at : ℕ) (w : List (Placed T)) (v : B) → F 0 at w v → ⊥)
      (some : (at : ℕ) → (w : List (Placed T)) × (v : A) × Spelled E at w v) (some' : (at : ℕ) → (w : List (Placed T)) × (v : B) × Spelled F at w v)
      (body : (D : ℕ → Type 0) (n m : ℕ) → n ≤ suc m → m ≤ n → (0 < n → (depth : ℕ) → D depth) → Reads D m E (p m) first last false
      → Reads D m F (q m) first' last' false → Reads D n (λ depth. E (suc depth)) (p (suc m)) first last false)
      (body' : (D : ℕ → Type 0) (n m : ℕ) → n ≤ suc m → m ≤ n → (0 < n → (depth : ℕ) → D depth) → Reads D n E (p (suc m)) first last false
      → Reads D m F (q m) first' last' false → Reads D n (λ depth. F (suc depth)) (q (suc m)) first' last' false) where
    Shapes : ℕ → Type 0
    Shapes k = Reads (λ depth. depth < k) 0 E (p 0) first last false × Reads (λ depth. depth < k) 0 F (q 0) first' last' false

    shapes : (k : ℕ) → Shapes k
    unfolding Shapes
    shapes zero = (unknown E (λ h at. cc) some (p 0), unknown F (λ h at. cc) some' (q 0))
    shapes (suc k) =
        let below = shapes k in
        let at_one = same_reader below.0 (p 1) (λ room ts lt. absurd (omega arith)) in
        let e = body (λ depth. depth < k) 0 0 (omega arith) (omega arith) (λ lt. absurd (omega arith)) below.0 below.1 in
        let f = body' (λ depth. depth < k) 0 0 (omega arith) (omega arith) (λ lt. absurd (omega arith)) at_one below.1 in (
          same_reader (entered {D' = λ depth. depth < suc k} E e none (λ depth lt. omega arith) (λ lt. absurd (omega arith)) (λ all d. absurd (omega (arith, all (suc k))))) (p 0)
              (λ room ts lt. absurd (omega arith)),
          same_reader (entered {D' = λ depth. depth < suc k} F f none' (λ depth lt. omega arith) (λ lt. absurd (omega arith)) (λ all d. absurd (omega (arith, all (suc k))))) (q 0)
              (λ room ts lt. absurd (omega arith)),
        )

    pub two_at_any_depth : (n : ℕ) → Reads (λ depth. Unit {0}) n E (p n) first last false × Reads (λ depth. Unit {0}) n F (q n) first' last' false
    unfolding Shapes
    two_at_any_depth zero = (shape_of E (λ h at. cc) some (p 0) (λ k. (shapes k).0), shape_of F (λ h at. cc) some' (q 0) (λ k. (shapes k).1))
    two_at_any_depth (suc n) =
        let below = two_at_any_depth n in
        let e = entered E (body (λ depth. Unit {0}) (suc n) n (omega arith) (omega arith) (λ lt depth. tt) below.0 below.1) none (λ depth lt. tt) (λ lt depth. tt) (λ all d. tt) in
        (e, entered F (body' (λ depth. Unit {0}) (suc n) n (omega arith) (omega arith) (λ lt depth. tt) e below.1) none' (λ depth lt. tt) (λ lt depth. tt) (λ all d. tt))
