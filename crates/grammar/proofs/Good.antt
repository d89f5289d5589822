-- When a reader reads a rule: both ways, and with the exact token at which no sentence goes on or the nesting is too deep.
use Rattle.std.proofs.Common.{◌≡◌, ℕ, zero, suc, ◌+◌, ◌<◌, ◌≤◌, List, [], ◌∷◌, ◌++◌, length, Bool, true, false, refl, sym, ap, ◌∙◌, subst, ⊎_elim, arith}
use Rattle.std.specs.Prelude.{Ok, Err}
use Rattle.std.proofs.lemmas.Bool.{cases_Bool, false_from_ne_true, both_ways}
use Rattle.std.proofs.lemmas.List.{append-nil}
use Rattle.grammar.specs.Rules.{Placed, Family, ◌>>=◌}
use Rattle.grammar.specs.Sentences.{plain, Within, Spelled, Starts}
use Rattle.grammar.specs.Readers.{Syntax, Deep, Reading, Reader}
use Rattle.grammar.proofs.Lists.{plain-append, length-plain, within_wider, roof, within_roof, Agrees}

module _ {T : Type 0} where
  -- one rule after the other, at each depth
  infixl 10 ◌∘>◌
  abbrev pub ◌∘>◌ : {A B : Type 0} → Family T A → (A → Family T B) → Family T B
  (P ∘> Q) depth = P depth >>= (λ a. Q a depth)

  -- the next token is not of the set
  abbrev pub Avoids : (T → Bool) → List T → Type 0
  Avoids f [] = Unit {0}
  Avoids f (t ∷ ts) = f t ≡ false

  -- no sentence goes on from these tokens with the first of the rest
  abbrev pub Dead : {A : Type 0} → Family T A → ℕ → List T → List T → Type 0
  Dead P at before [] = Unit {0}
  Dead {A = A} P at before (t ∷ rest) = (depth : ℕ) (w : List (Placed T)) (more : List T) (v : A) → plain w ≡ before ++ (t ∷ more) → P depth at w v → ⊥

  -- What a reading says of a rule at a nesting, under a limit: a sentence and that it goes on no further; or what
  -- starts a sentence, and that none goes on so; or what starts a sentence that goes on above the limit.
  abbrev pub Answers : {A : Type 0} → Family T A → ℕ → ℕ → List T → Reading T A → Type 0
  Answers P at limit ts (Ok x) = (before : List (Placed T)) × (ts ≡ plain before ++ x.1) × Spelled P at before x.0 × Within limit before × Dead P at (plain before) x.1
  Answers P at limit ts (Err (Syntax rest)) = (before : List (Placed T)) × (ts ≡ plain before ++ rest) × Starts P at before × Within limit before × Dead P at (plain before) rest
  Answers P at limit ts (Err (Deep above rest)) =
      (before : List (Placed T)) × (t : T) × (deep : ℕ) × (more : List T) × (rest ≡ t ∷ more) × (ts ≡ plain before ++ rest) × Starts P at
      (before ++ ((t, deep) ∷ [])) × Within limit before × ((deep ≡ limit + above) × (limit < deep))

  -- not stopped by the nesting
  abbrev pub Calm : {A : Type 0} → Reading T A → Type 0
  Calm (Ok x) = Unit {0}
  Calm (Err (Syntax rest)) = Unit {0}
  Calm (Err (Deep above rest)) = ⊥

  -- a sentence begins with the token
  abbrev pub Begun : {A : Type 0} → Family T A → ℕ → T → Type 0
  Begun {A = A} P at t = (nesting : ℕ) × (more : List (Placed T)) × (v : A) × (at ≤ nesting) × Spelled P at ((t, nesting) ∷ more) v

  -- p, by how many levels of nesting are left, reads P from fewer than n tokens. P's sentences begin with the tokens of
  -- first, go on after their end only with tokens of last, and are empty just if null says so. D are the depths of which
  -- that much is known; all of them, where n is above 0.
  pub record Reads {A : Type 0} (D : ℕ → Type 0) (n : ℕ) (P : Family T A) (p : ℕ → Reader T A) (first : T → Bool) (last : A → T → Bool) (null : Bool) : Type 0 where
    pub whole : 0 < n → (depth : ℕ) → D depth
    pub deeper : (depth at : ℕ) → D depth → (w : List (Placed T)) (v : A) → P depth at w v → P (suc depth) at w v
    pub begins : (depth at : ℕ) → D depth → (t : Placed T) (w : List (Placed T)) (v : A) → P depth at (t ∷ w) v → first t.0 ≡ true
    pub above : (depth at : ℕ) → D depth → (t : Placed T) (w : List (Placed T)) (v : A) → P depth at (t ∷ w) v → at ≤ t.1
    pub begun : 0 < n → (at : ℕ) (t : T) → first t ≡ true → Begun P at t
    pub empty : (depth at : ℕ) → D depth → (v : A) → P depth at [] v → null ≡ true
    pub nothing : ((d : ℕ) → D d) → (at : ℕ) → null ≡ true → (v : A) × Spelled P at [] v
    pub inhabited : ((d : ℕ) → D d) → (at : ℕ) → (w : List (Placed T)) × (v : A) × Spelled P at w v
    pub stable : (room : ℕ) (ts : List T) → length ts < n → Calm (p room ts) → p (suc room) ts ≡ p room ts
    pub fixed : (depth depth' at : ℕ) (w w' : List (Placed T)) (v v' : A) → length w < n → length w' < n → P depth at w v → P depth' at w' v' → Agrees w w'
    pub sound : (at room : ℕ) (ts : List T) → length ts < n → Answers P at (at + room) ts (p room ts)
    pub complete : (depth at room : ℕ) (ts : List T) (w : List (Placed T)) (rest : List T) (v : A) → length ts < n → ts ≡ plain w ++ rest → P depth at w v
        → Within (at + room) w → Avoids (last v) rest → p room ts ≡ Ok (v, rest)

  pub avoids_wider : (f g : T → Bool) → ((t : T) → f t ≡ true → g t ≡ true) → (ts : List T) → Avoids g ts → Avoids f ts
  avoids_wider f g within [] av = tt
  avoids_wider f g within (t ∷ ts) av = false_from_ne_true (f t) (λ yes. both_ways (g t) av (within t yes))

  module _ {D : ℕ → Type 0} {A : Type 0} {n : ℕ} {P : Family T A} {p : ℕ → Reader T A} {first : T → Bool} {last : A → T → Bool} {null : Bool} (good : Reads D n P p first last null) where
    pub deeper_by : ((d : ℕ) → D d) → (k depth at : ℕ) (w : List (Placed T)) (v : A) → P depth at w v → P (k + depth) at w v
    deeper_by all zero depth at w v h = let e : depth ≡ 0 + depth = omega arith in subst (λ d. P d at w v) e h
    deeper_by all (suc k) depth at w v h =
        let e : suc (k + depth) ≡ suc k + depth = omega arith in
        subst (λ d. P d at w v) e (good.deeper (k + depth) at (all (k + depth)) w v (deeper_by all k depth at w v h))

    -- more room changes only what was stopped by the nesting
    pub raised : (k room : ℕ) (ts : List T) → length ts < n → Calm (p room ts) → p (k + room) ts ≡ p room ts
    raised zero room ts lt calm = let e : 0 + room ≡ room = omega arith in ap (λ r. p r ts) e
    raised (suc k) room ts lt calm =
        let e : suc k + room ≡ suc (k + room) = omega arith in
        let fewer = raised k room ts lt calm in
        ap (λ r. p r ts) e ∙ good.stable (k + room) ts lt (subst Calm (sym fewer) calm) ∙ fewer

    -- a sentence is read, whatever its nestings, unless they stop the reader
    pub calm_complete : (depth at room : ℕ) (ts : List T) (w : List (Placed T)) (rest : List T) (v : A) → length ts < n → ts ≡ plain w ++ rest → P depth at w v
        → Avoids (last v) rest → Calm (p room ts) → p room ts ≡ Ok (v, rest)
    calm_complete depth at room ts w rest v lt e h av calm =
        let high : Within (at + (roof w + room)) w = within_wider (roof w + (at + room)) (at + (roof w + room)) (omega arith) w (within_roof (at + room) w) in
        sym (raised (roof w) room ts lt calm) ∙ good.complete depth at (roof w + room) ts w rest v lt e h high av

    -- the same with room enough
    pub roof_complete : (depth at k : ℕ) (w : List (Placed T)) (rest : List T) (v : A) → length (plain w ++ rest) < n → P depth at w v → Avoids (last v) rest
        → p (roof w + k) (plain w ++ rest) ≡ Ok (v, rest)
    roof_complete depth at k w rest v lt h av =
        let high : Within (at + (roof w + k)) w = within_wider (roof w + (at + k)) (at + (roof w + k)) (omega arith) w (within_roof (at + k) w) in
        good.complete depth at (roof w + k) (plain w ++ rest) w rest v lt refl h high av

    -- the tokens have one value
    pub one_value : (depth depth' at : ℕ) (w : List (Placed T)) (v v' : A) → length w < n → P depth at w v → P depth' at w v' → v ≡ v'
    one_value depth depth' at w v v' lt h h' =
        let same : plain w ++ [] ≡ plain w = append-nil (plain w) in
        let short : length (plain w ++ []) < n = omega (arith, lt, ap length same, length-plain w) in
        let a = roof_complete depth at 0 w [] v short h tt in
        let b = roof_complete depth' at 0 w [] v' short h' tt in
        let was : A × List T = (v, []) in
        let is : A × List T = (v', []) in
        let pair : was ≡ is = cc (a, b) in
        ap (λ x. x.0) pair

    -- a sentence goes on only with a token of last
    pub goes_on : (depth depth' at : ℕ) (w z : List (Placed T)) (t : Placed T) (v v' : A) → length (w ++ (t ∷ z)) < n → P depth at w v → P depth' at (w ++ (t ∷ z)) v' → last v t.0 ≡ true
    goes_on depth depth' at w z t v v' lt h h' =
        ⊎_elim (λ yes. yes)
        (λ no.
        let long : List (Placed T) = w ++ (t ∷ z) in
        let all : plain long ++ [] ≡ plain w ++ (t.0 ∷ plain z) = append-nil (plain long) ∙ plain-append w (t ∷ z) in
        let size : length (plain long ++ []) < n = omega (arith, lt, ap length (append-nil (plain long)), length-plain long) in
        let a = roof_complete depth' at (roof w) long [] v' size h' tt in
        let room : roof long + roof w ≡ roof w + roof long = omega arith in
        let b = roof_complete depth at (roof long) w (t.0 ∷ plain z) v (subst (λ l. length l < n) all size) h no in
        let c : p (roof w + roof long) (plain w ++ (t.0 ∷ plain z)) ≡ Ok (v', []) = subst (λ l. p (roof w + roof long) l ≡ Ok (v', [])) all
        (subst (λ r. p r (plain long ++ []) ≡ Ok (v', [])) room a) in
        let was : A × List T = (v, t.0 ∷ plain z) in
        let is : A × List T = (v', []) in
        let pair : was ≡ is = cc (b, c) in
        let none : t.0 ∷ plain z ≡ [] = ap (λ x. x.1) pair in
        cc (none))
        (cases_Bool (last v t.0))

    pub less : (k : ℕ) → k ≤ n → Reads D k P p first last null
    less k le = record {
      whole = λ lt. good.whole (omega arith);
      deeper = good.deeper;
      begins = good.begins;
      above = good.above;
      begun = λ lt. good.begun (omega arith);
      empty = good.empty;
      nothing = good.nothing;
      inhabited = good.inhabited;
      stable = λ room ts lt calm. good.stable room ts (omega arith) calm;
      fixed = λ depth depth' at w w' v v' lt lt' h h'. good.fixed depth depth' at w w' v v' (omega arith) (omega arith) h h';
      sound = λ at room ts lt. good.sound at room ts (omega arith);
      complete = λ depth at room ts w rest v lt e h in_limit av. good.complete depth at room ts w rest v (omega arith) e h in_limit av;
    }
