-- One rule after the other.
use Rattle.std.proofs.Common.{◌≡◌, ℕ, suc, ◌+◌, ◌<◌, ◌≤◌, List, [], ◌∷◌, ◌++◌, length, Bool, true, false, refl, sym, ap, ◌∙◌, subst, ◌⊎◌, inl, inr, ⊎_elim, append_assoc, length-append, arith}
use Rattle.std.specs.Prelude.{Ok, Err, ◌&&◌}
use Rattle.std.proofs.lemmas.Bool.{and_from, and_parts, false_from_ne_true}
use Rattle.grammar.specs.Rules.{Placed, Family}
use Rattle.grammar.specs.Sentences.{plain, Within, Spelled, Starts}
use Rattle.grammar.specs.Readers.{Syntax, Deep, Reading, Reader, and_then, reads_both}
use Rattle.grammar.proofs.Lists.{cuts, no_more, plain-append, length-plain, within-append, within_front, within_back, roof, Agrees, agrees-append, agrees-sym}
use Rattle.grammar.proofs.Good.{Reads, Answers, Dead, Avoids, Calm, Begun, ◌∘>◌, avoids_wider, deeper_by, calm_complete, roof_complete, one_value, goes_on}

module _ {T : Type 0} where
  module _ {D : ℕ → Type 0} {A B : Type 0} {n m : ℕ} {P : Family T A} {Q : A → Family T B} {p : ℕ → Reader T A} {q : A → ℕ → Reader T B} {first : T → Bool}
      {last : A → T → Bool} {first' : A → T → Bool} {last' : B → T → Bool} {null null' : Bool}
      (before : Reads D n P p first last null) (after : (a : A) → Reads D m (Q a) (q a) (first' a) last' null')
      (apart : (a : A) (t : T) → last a t ≡ true → first' a t ≡ true → ⊥)
      (fits : (room : ℕ) (ts : List T) (x : A × List T) → length ts < n → p room ts ≡ Ok x → length x.1 < m)
      (First : T → Bool) (Last : B → T → Bool)
      (first_in : (t : T) → first t ≡ true → First t ≡ true) (second_in : (a : A) (t : T) → null ≡ true → first' a t ≡ true → First t ≡ true)
      (first_of : 0 < n → (at : ℕ) (t : T) → First t ≡ true → (first t ≡ true) ⊎ ((a : A) × Spelled P at [] a × (first' a t ≡ true) × (0 < m)))
      (last_in : (b : B) (t : T) → last' b t ≡ true → Last b t ≡ true)
      (early_in : (a : A) (depth at : ℕ) (b : B) (t : T) → null' ≡ true → Q a depth at [] b → last a t ≡ true → Last b t ≡ true) where
    abbrev Joined : Family T B
    Joined = P ∘> Q

    both_begins : (depth at : ℕ) → D depth → (t : Placed T) (w front back : List (Placed T)) (a : A) (v : B) → t ∷ w ≡ front ++ back → P depth at front a → Q a depth at back v → First t.0 ≡ true
    both_begins depth at dd t w [] back a v e h k =
        second_in a t.0 (before.empty depth at dd a h) ((after a).begins depth at dd t w v (subst (λ l. Q a depth at l v) (sym e) k))
    both_begins depth at dd t w (x ∷ front) back a v e h k =
        let same : x ≡ t = cc in
        first_in t.0 (subst (λ y. first y.0 ≡ true) same (before.begins depth at dd x front a h))

    both_above : (depth at : ℕ) → D depth → (t : Placed T) (w front back : List (Placed T)) (a : A) (v : B) → t ∷ w ≡ front ++ back → P depth at front a → Q a depth at back v → at ≤ t.1
    both_above depth at dd t w [] back a v e h k = (after a).above depth at dd t w v (subst (λ l. Q a depth at l v) (sym e) k)
    both_above depth at dd t w (x ∷ front) back a v e h k =
        let same : x ≡ t = cc in
        subst (λ y. at ≤ y.1) same (before.above depth at dd x front a h)

    both_empty : (depth at : ℕ) → D depth → (front back : List (Placed T)) (a : A) (v : B) → [] ≡ front ++ back → P depth at front a → Q a depth at back v → (null && null') ≡ true
    both_empty depth at dd [] back a v e h k = and_from null null' (before.empty depth at dd a h) ((after a).empty depth at dd v (subst (λ l. Q a depth at l v) (sym e) k))
    both_empty depth at dd (x ∷ front) back a v e h k = cc

    -- a token at which the second rule begins does not go on with the first
    avoids_token : (a : A) (t : T) → first' a t ≡ true → last a t ≡ false
    avoids_token a t h = false_from_ne_true (last a t) (λ yes. apart a t yes h)

    second_begins : (depth at : ℕ) → D depth → (a : A) (x : T) (l : List T) (back : List (Placed T)) (v : B) → plain back ≡ x ∷ l → Q a depth at back v → first' a x ≡ true
    second_begins depth at dd a x l [] v e h = cc
    second_begins depth at dd a x l (y ∷ back) v e h =
        let same : y.0 ≡ x = cc in
        subst (λ t. first' a t ≡ true) same ((after a).begins depth at dd y back v h)

    -- the same where the second rule's tokens are z and more, and z goes on with the next token of it
    avoids_next : (depth at : ℕ) → D depth → (a : A) (z : List T) (t : T) (s rest : List T) (back : List (Placed T)) (v : B) → plain back ≡ z ++ (t ∷ s)
        → Q a depth at back v → Avoids (last a) (z ++ (t ∷ rest))
    avoids_next depth at dd a [] t s rest back v e h = avoids_token a t (second_begins depth at dd a t s back v e h)
    avoids_next depth at dd a (x ∷ z) t s rest back v e h = avoids_token a x (second_begins depth at dd a x (z ++ (t ∷ s)) back v e h)

    split : (front back w : List (Placed T)) (l : List T) → w ≡ front ++ back → plain w ≡ l → plain front ++ plain back ≡ l
    split front back w l e h = sym (plain-append front back) ∙ ap plain (sym e) ∙ h

    -- the first reader failed
    err_dead : (at room : ℕ) (ts done rest : List T) → length ts < n → p room ts ≡ Err (Syntax rest) → ts ≡ done ++ rest → Dead P at done rest → Dead Joined at done rest
    err_dead at room ts done [] lt e cut dead = tt
    err_dead at room ts done (t ∷ rest) lt e cut dead = λ depth w more v spelled h.
        ⊎_elim
        (λ short.
        let cut' : ts ≡ plain h.1 ++ (short.0 ++ (t ∷ rest)) = cut ∙ ap (λ l. l ++ (t ∷ rest)) short.1 ∙ append_assoc (plain h.1) short.0 (t ∷ rest) in
        let calm : Calm (p room ts) = subst Calm (sym e) tt in
        let got = calm_complete before depth at room ts h.1 (short.0 ++ (t ∷ rest)) h.0 lt cut' h.4
        (avoids_next depth at (before.whole (omega arith) depth) h.0 short.0 t more rest h.2 v short.2 h.5) calm in
        let no : ⊥ = cc (got, e) in no)
        (λ long. let same : long.0 ≡ t = cc (long.3) in dead depth h.1 long.1 h.0 (subst (λ x. plain h.1 ≡ done ++ (x ∷ long.1)) same long.2) h.4)
        (cuts (plain h.1) (plain h.2) done (t ∷ more) (split h.1 h.2 w (done ++ (t ∷ more)) h.3 spelled))

    dead_at : (at : ℕ) (done mid next : List T) (t u : T) (rest more l : List T) → mid ≡ next ++ (t ∷ rest) → next ++ (t ∷ more) ≡ u ∷ l → Dead P at done mid →
        (depth : ℕ) (w : List (Placed T)) (z : List T) (a : A) → plain w ≡ done ++ (u ∷ z) → P depth at w a → ⊥
    dead_at at done mid [] t u rest more l e f dead depth w z a s h =
        let same : u ≡ t = cc in
        (subst (Dead P at done) e dead) depth w z a (subst (λ x. plain w ≡ done ++ (x ∷ z)) same s) h
    dead_at at done mid (x ∷ next) t u rest more l e f dead depth w z a s h =
        let same : u ≡ x = cc in
        (subst (Dead P at done) e dead) depth w z a (subst (λ y. plain w ≡ done ++ (y ∷ z)) same s) h

    -- the first reader went on to mid, and the second to the rest
    ok_dead : (at room : ℕ) (ts done mid next rest : List T) (a : A) → length ts < n → p room ts ≡ Ok (a, mid) → ts ≡ done ++ mid → Dead P at done mid
        → mid ≡ next ++ rest → Dead (Q a) at next rest → Dead Joined at (done ++ next) rest
    ok_dead at room ts done mid next [] a lt e cut dead cut' dead' = tt
    ok_dead at room ts done mid next (t ∷ rest) a lt e cut dead cut' dead' = λ depth w more v spelled h.
        ⊎_elim
        (λ short.
        let z : List T = short.0 in
        let back : plain h.2 ≡ (z ++ next) ++ (t ∷ more) = short.2 ∙ sym (append_assoc z next (t ∷ more)) in
        let far : z ++ mid ≡ (z ++ next) ++ (t ∷ rest) = ap (λ l. z ++ l) cut' ∙ sym (append_assoc z next (t ∷ rest)) in
        let all : ts ≡ plain h.1 ++ (z ++ mid) = cut ∙ ap (λ l. l ++ mid) short.1 ∙ append_assoc (plain h.1) z mid in
        let avoids : Avoids (last h.0) (z ++ mid) = subst (Avoids (last h.0)) (sym far) (avoids_next depth at (before.whole (omega arith) depth) h.0 (z ++ next) t more rest h.2 v back h.5) in
        let calm : Calm (p room ts) = subst Calm (sym e) tt in
        let got = calm_complete before depth at room ts h.1 (z ++ mid) h.0 lt all h.4 avoids calm in
        let was : A × List T = (h.0, z ++ mid) in
        let is : A × List T = (a, mid) in
        let pair : was ≡ is = cc (got, e) in
        let same_rest : mid ≡ z ++ mid = sym (ap (λ x. x.1) pair) in
        let same_value : h.0 ≡ a = ap (λ x. x.0) pair in
        let none : z ≡ [] = no_more z mid same_rest in
        let here : plain h.2 ≡ next ++ (t ∷ more) = short.2 ∙ ap (λ l. l ++ (next ++ (t ∷ more))) none in
        dead' depth h.2 more v here (subst (λ x. Q x depth at h.2 v) same_value h.5))
        (λ long. dead_at at done mid next t long.0 rest more (long.1 ++ plain h.2) cut' long.3 dead depth h.1 long.1 h.0 long.2 h.4)
        (cuts (plain h.1) (plain h.2) done (next ++ (t ∷ more)) (split h.1 h.2 w (done ++ (next ++ (t ∷ more))) h.3 (spelled ∙ append_assoc done next (t ∷ more))))

    spells_on : ((d : ℕ) → D d) → (at : ℕ) (done next : List (Placed T)) (a : A) (v : B) → Spelled P at done a → Spelled (Q a) at next v → Spelled Joined at (done ++ next) v
    spells_on all at done next a v h k =
        let ph : P (k.0 + h.0) at done a = deeper_by before all k.0 h.0 at done a h.1 in
        let qh : Q a (h.0 + k.0) at next v = deeper_by (after a) all h.0 k.0 at next v k.1 in
        let same : k.0 + h.0 ≡ h.0 + k.0 = omega arith in
        (h.0 + k.0, (a, done, next, refl, subst (λ x. P x at done a) same ph, qh))

    starts_on : ((d : ℕ) → D d) → (at : ℕ) (done next : List (Placed T)) (a : A) → Spelled P at done a → Starts (Q a) at next → Starts Joined at (done ++ next)
    starts_on all at done next a h k =
        (k.0, k.1, subst (λ l. Spelled Joined at l k.1) (sym (append_assoc done next k.0)) (spells_on all at done (next ++ k.0) a k.1 h k.2))

    -- a beginning of the first rule is one of both
    starts_first : ((d : ℕ) → D d) → (at : ℕ) (done : List (Placed T)) → Starts P at done → Starts Joined at done
    starts_first all at done k =
        let some = (after k.1).inhabited all at in
        let more = spells_on all at (done ++ k.0) some.0 k.1 some.1 k.2 some.2 in
        (k.0 ++ some.0, some.1, subst (λ l. Spelled Joined at l some.1) (append_assoc done k.0 some.0) more)

    joined_cut : (ts mid : List T) (done next : List (Placed T)) (rest : List T) → ts ≡ plain done ++ mid → mid ≡ plain next ++ rest → ts ≡ plain (done ++ next) ++ rest
    joined_cut ts mid done next rest e f = e ∙ ap (λ l. plain done ++ l) f ∙ sym (append_assoc (plain done) (plain next) rest) ∙ ap (λ l. l ++ rest) (sym (plain-append done next))

    joined_dead : (at : ℕ) (done next : List (Placed T)) (rest : List T) → Dead Joined at (plain done ++ plain next) rest → Dead Joined at (plain (done ++ next)) rest
    joined_dead at done next rest dead = subst (λ l. Dead Joined at l rest) (sym (plain-append done next)) dead

    second : (at room : ℕ) (ts mid : List T) (done : List (Placed T)) (a : A) → length ts < n → p room ts ≡ Ok (a, mid) → ts ≡ plain done ++ mid
        → Spelled P at done a → Within (at + room) done → Dead P at (plain done) mid
        → (r : Reading T B) → Answers (Q a) at (at + room) mid r → Answers Joined at (at + room) ts r
    second at room ts mid done a lt e cut h low dead (Ok x) k = (
      done ++ k.0,
      joined_cut ts mid done k.0 x.1 cut k.1,
      spells_on (before.whole (omega arith)) at done k.0 a x.0 h k.2,
      within-append (at + room) done k.0 low k.3,
      joined_dead at done k.0 x.1 (ok_dead at room ts (plain done) mid (plain k.0) x.1 a lt e cut dead k.1 k.4),
    )
    second at room ts mid done a lt e cut h low dead (Err (Syntax rest)) k = (
      done ++ k.0,
      joined_cut ts mid done k.0 rest cut k.1,
      starts_on (before.whole (omega arith)) at done k.0 a h k.2,
      within-append (at + room) done k.0 low k.3,
      joined_dead at done k.0 rest (ok_dead at room ts (plain done) mid (plain k.0) rest a lt e cut dead k.1 k.4),
    )
    second at room ts mid done a lt e cut h low dead (Err (Deep above rest)) k =
        let begun = starts_on (before.whole (omega arith)) at done (k.0 ++ ((k.1, k.2) ∷ [])) a h k.6 in (
          done ++ k.0,
          k.1,
          k.2,
          k.3,
          k.4,
          joined_cut ts mid done k.0 rest cut k.5,
          subst (Starts Joined at)
              (sym (append_assoc done k.0 ((k.1, k.2) ∷ []))) begun,
          within-append (at + room) done k.0 low k.7,
          k.8,
        )

    first_then : (at room : ℕ) (ts : List T) → length ts < n → (r : Reading T A) → p room ts ≡ r → Answers P at (at + room) ts r → Answers Joined at (at + room) ts (and_then r (λ a. q a room))
    first_then at room ts lt (Ok x) e k = second at room ts x.1 k.0 x.0 lt e k.1 k.2 k.3 k.4 (q x.0 room x.1) ((after x.0).sound at room x.1 (fits room ts x lt e))
    first_then at room ts lt (Err (Syntax rest)) e k = (k.0, k.1, starts_first (before.whole (omega arith)) at k.0 k.2, k.3, err_dead at room ts (plain k.0) rest lt e k.1 k.4)
    first_then at room ts lt (Err (Deep above rest)) e k = (k.0, k.1, k.2, k.3, k.4, k.5, starts_first (before.whole (omega arith)) at (k.0 ++ ((k.1, k.2) ∷ [])) k.6, k.7, k.8)

    avoids_back : (depth at : ℕ) → D depth → (a : A) (back : List (Placed T)) (rest : List T) (v : B) → Q a depth at back v → Avoids (Last v) rest → Avoids (last a) (plain back ++ rest)
    avoids_back depth at dd a [] rest v h av = avoids_wider (last a) (Last v) (λ t e. early_in a depth at v t ((after a).empty depth at dd v h) h e) rest av
    avoids_back depth at dd a (t ∷ back) rest v h av = avoids_token a t.0 ((after a).begins depth at dd t back v h)

    avoids_own : (depth at : ℕ) → D depth → (a : A) (back : List (Placed T)) (v : B) → Q a depth at back v → Avoids (last a) (plain back)
    avoids_own depth at dd a [] v h = tt
    avoids_own depth at dd a (t ∷ back) v h = avoids_token a t.0 ((after a).begins depth at dd t back v h)

    both_complete : (depth at room : ℕ) (ts : List T) (w : List (Placed T)) (rest : List T) (v : B) → length ts < n → ts ≡ plain w ++ rest
        → Joined depth at w v → Within (at + room) w → Avoids (Last v) rest → and_then (p room ts) (λ a. q a room) ≡ Ok (v, rest)
    both_complete depth at room ts w rest v lt e h low av =
        let cut : ts ≡ plain h.1 ++ (plain h.2 ++ rest) = e ∙ ap (λ l. plain l ++ rest) h.3 ∙ ap (λ l. l ++ rest) (plain-append h.1 h.2) ∙ append_assoc (plain h.1) (plain h.2) rest in
        let low' : Within (at + room) (h.1 ++ h.2) = subst (Within (at + room)) h.3 low in
        let got = before.complete depth at room ts h.1 (plain h.2 ++ rest) h.0 lt cut h.4 (within_front (at + room) h.1 h.2 low')
        (avoids_back depth at (before.whole (omega arith) depth) h.0 h.2 rest v h.5 av) in
        let got' = (after h.0).complete depth at room (plain h.2 ++ rest) h.2 rest v (fits room ts (h.0, plain h.2 ++ rest) lt got) refl h.5
        (within_back (at + room) h.1 h.2 low') (avoids_wider (last' v) (Last v) (last_in v) rest av) in
        ap (λ r. and_then r (λ a. q a room)) got ∙ got'

    both_stable : (room : ℕ) (ts : List T) → length ts < n → (r : Reading T A) → p room ts ≡ r → Calm (and_then r (λ a. q a room)) → and_then (p (suc room) ts)
        (λ a. q a (suc room)) ≡ and_then r (λ a. q a room)
    both_stable room ts lt (Ok x) e calm =
        let same : p (suc room) ts ≡ Ok x = before.stable room ts lt (subst Calm (sym e) tt) ∙ e in
        ap (λ r. and_then r (λ a. q a (suc room))) same ∙ (after x.0).stable room x.1 (fits room ts x lt e) calm
    both_stable room ts lt (Err (Syntax rest)) e calm =
        let same : p (suc room) ts ≡ Err (Syntax rest) = before.stable room ts lt (subst Calm (sym e) tt) ∙ e in
        ap (λ r. and_then r (λ a. q a (suc room))) same
    both_stable room ts lt (Err (Deep above rest)) e calm = absurd calm

    -- what the second rule takes is shorter than m
    back_short : (depth at : ℕ) (front back : List (Placed T)) (a : A) (v : B) → length (front ++ back) < n → P depth at front a → Q a depth at back v → length back < m
    back_short depth at front back a v lt h k =
        let size : length (plain front ++ plain back) < n = omega (arith, lt, ap length (plain-append front back), length-plain (front ++ back)) in
        let got = roof_complete before depth at 0 front (plain back) a size h (avoids_own depth at (before.whole (omega arith) depth) a back v k) in
        let short = fits (roof front + 0) (plain front ++ plain back) (a, plain back) size got in
        omega (arith, short, length-plain back)

    -- where one front goes on beyond the other, the rest begins with another token
    longer_front : (depth depth' at : ℕ) (f f' b b' z : List (Placed T)) (t : Placed T) (a a' : A) (v : B) → length (f' ++ b') < n → P depth at f a
        → Q a depth at b v → P depth' at f' a' → f' ≡ f ++ (t ∷ z) → Agrees b (t ∷ (z ++ b'))
    longer_front depth depth' at f f' [] b' z t a a' v lt h k h' e = tt
    longer_front depth depth' at f f' (y ∷ b) b' z t a a' v lt h k h' e = λ same.
        let size : length (f ++ (t ∷ z)) < n = omega (arith, lt, length-append f' b', ap length e) in
        let on : last a t.0 ≡ true = goes_on before depth depth' at f z t a a' size h (subst (λ l. P depth' at l a') e h') in
        let begins : first' a y.0 ≡ true = (after a).begins depth at (before.whole (omega arith) depth) y b v k in
        absurd (apart a t.0 on (subst (λ x. first' a x ≡ true) same begins))

    both_fixed : (depth depth' at : ℕ) (w w' : List (Placed T)) (v v' : B) → length w < n → length w' < n → Joined depth at w v → Joined depth' at w' v' → Agrees w w'
    both_fixed depth depth' at w w' v v' lt lt' h h' =
        let size : length (h.1 ++ h.2) < n = omega (arith, lt, ap length h.3) in
        let size' : length (h'.1 ++ h'.2) < n = omega (arith, lt', ap length h'.3) in
        let fronts = before.fixed depth depth' at h.1 h'.1 h.0 h'.0 (omega (arith, size, length-append h.1 h.2)) (omega (arith, size', length-append h'.1 h'.2)) h.4 h'.4 in
        let all : Agrees (h.1 ++ h.2) (h'.1 ++ h'.2) =
        agrees-append h.1 h'.1 h.2 h'.2 fronts
        (λ same.
        let value : h'.0 ≡ h.0 = one_value before depth' depth at h'.1 h'.0 h.0 (omega (arith, size', length-append h'.1 h'.2)) h'.4 (subst (λ l. P depth at l h.0) same h.4) in
        (after h.0).fixed depth depth' at h.2 h'.2 v v' (back_short depth at h.1 h.2 h.0 v size h.4 h.5)
        (back_short depth' at h'.1 h'.2 h'.0 v' size' h'.4 h'.5) h.5 (subst (λ a. Q a depth' at h'.2 v') value h'.5))
        (λ t z e. longer_front depth depth' at h.1 h'.1 h.2 h'.2 z t h.0 h'.0 v size' h.4 h.5 h'.4 e)
        (λ t z e. agrees-sym h'.2 (t ∷ (z ++ h.2)) (longer_front depth' depth at h'.1 h.1 h'.2 h.2 z t h'.0 h.0 v' size h'.4 h'.5 h.4 e)) in
        subst (λ l. Agrees l w') (sym h.3) (subst (λ l. Agrees (h.1 ++ h.2) l) (sym h'.3) all)

    both_begun : 0 < n → (at : ℕ) (t : T) → (first t ≡ true) ⊎ ((a : A) × Spelled P at [] a × (first' a t ≡ true) × (0 < m)) → Begun Joined at t
    both_begun lt at t (inl h) =
        let all = before.whole lt in
        let k = before.begun lt at t h in
        let some = (after k.2).inhabited all at in
        (k.0, k.1 ++ some.0, some.1, k.3, spells_on all at ((t, k.0) ∷ k.1) some.0 k.2 some.1 k.4 some.2)
    both_begun lt at t (inr h) =
        let k = (after h.0).begun h.3 at t h.2 in
        (k.0, k.1, k.2, k.3, spells_on (before.whole lt) at [] ((t, k.0) ∷ k.1) h.0 k.2 h.1 k.4)

    pub both_in : Reads D n Joined (λ room. reads_both (p room) (λ a. q a room)) First Last (null && null')
    both_in = record {
      whole = before.whole;
      deeper = λ depth at dd w v h. (h.0, h.1, h.2, h.3, before.deeper depth at dd h.1 h.0 h.4, (after h.0).deeper depth at dd h.2 v h.5);
      begins = λ depth at dd t w v h. both_begins depth at dd t w h.1 h.2 h.0 v h.3 h.4 h.5;
      above = λ depth at dd t w v h. both_above depth at dd t w h.1 h.2 h.0 v h.3 h.4 h.5;
      begun = λ lt at t h. both_begun lt at t (first_of lt at t h);
      empty = λ depth at dd v h. both_empty depth at dd h.1 h.2 h.0 v h.3 h.4 h.5;
      nothing = λ all at h.
          let parts = and_parts null null' h in
          let a = before.nothing all at parts.0 in
          let b = (after a.0).nothing all at parts.1 in
          (b.0, spells_on all at [] [] a.0 b.0 a.1 b.1);
      inhabited = λ all at.
          let a = before.inhabited all at in
          let b = (after a.1).inhabited all at in
          (a.0 ++ b.0, b.1, spells_on all at a.0 b.0 a.1 b.1 a.2 b.2);
      stable = λ room ts lt calm. both_stable room ts lt (p room ts) refl calm;
      fixed = both_fixed;
      sound = λ at room ts lt. first_then at room ts lt (p room ts) refl (before.sound at room ts lt);
      complete = both_complete;
    }
