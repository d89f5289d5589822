-- Following the finals finds where a variable comes from, and nothing else.
use Rattle.std.proofs.Common.{◌≡◌, ℕ, suc, zero, ◌+◌, ◌-◌, ◌<◌, ◌≤◌, ◌≢◌, List, [], ◌∷◌, ◌++◌, length, Bool, true, false, Option, Some, None}
use Rattle.std.proofs.Common.{nat_eq, if◌then◌else◌, refl, ap, subst, sym, ◌∙◌, arith, add-one, take, slice_get}
use Rattle.std.specs.Option.{option_or}
use Rattle.std.proofs.lemmas.Bool.{eqb-true}
use Rattle.lists.proofs.Places.{take_next}
use Rattle.planned_block.proofs.Bits.{other_is}
use Rattle.block_ir.specs.declared.operand.Source.{Source}
use Rattle.block_ir.specs.declared.operand.Source.TheVariants.{Constant, Variable, Value}
use Rattle.block_ir.specs.declared.block.Final.{Final}
use Rattle.loop_plans.specs.declared.carried.Origin.{Origin}
use Rattle.loop_plans.specs.Carried.{last_source, GivenBy, HandedOn}
use Rattle.loop_plans.specs.Listed.{origin_at, origin_by, origin_from, origin_of}

-- ---- the last final of a variable

or_if : (b : Bool) (s : Source) (l g : Option Source) → option_or (if b then Some s else l) g ≡ (if b then Some s else option_or l g)
or_if true s l g = refl
or_if false s l g = refl

-- one final more
pub last_more : (fs : List Final) (f : Final) (x : ℕ) → last_source (fs ++ f ∷ []) x ≡ (if nat_eq x f.variable then Some f.value.source else last_source fs x)
last_more [] f x = refl
last_more (g ∷ fs) f x =
    let given = if nat_eq x g.variable then Some g.value.source else None in
    ap (λ (o : Option Source). option_or o given) (last_more fs f x) ∙ or_if (nat_eq x f.variable) f.value.source (last_source fs x) given

-- ---- the walk

abbrev Finds : List Final → ℕ → ℕ → Origin → Type 0
Finds finals d x o = (t : ℕ) × (o.turns ≡ t + d) × HandedOn finals t x o.operation

pub origin_sound : (finals : List Final) (m d x : ℕ) (o : Origin) → origin_from finals m (suc d) x ≡ Some o → Finds finals d x o
origin_sound finals zero d x o e = absurd cc
origin_sound finals (suc m) d x o e = by_source (origin_sound finals m (suc d)) (last_source finals x) refl e
  where
    by_source : ((y : ℕ) (p : Origin) → origin_from finals m (suc (suc d)) y ≡ Some p → Finds finals (suc d) y p) →
        (s : Option Source) → last_source finals x ≡ s → origin_by (origin_from finals m (suc (suc d))) (suc d) s ≡ Some o → Finds finals d x o
    by_source rest None f g = absurd cc
    by_source rest (Some (Constant ty v)) f g = absurd cc
    by_source rest (Some (Variable y ty)) f g =
        let h = rest y o g in
        (suc h.0, omega (arith, h.1), subst (λ (s : Option Source). GivenBy h.0 (λ z. HandedOn finals h.0 z o.operation) s o.operation) (sym f) h.2)
    by_source rest (Some (Value j ty)) f g =
        let same : origin_at j (suc d) ≡ o = cc in
        let p : j ≡ o.operation = ap (λ (z : Origin). z.operation) same in
        let q : suc d ≡ o.turns = ap (λ (z : Origin). z.turns) same in
        (1, omega (arith, q), subst (λ (s : Option Source). GivenBy 0 (λ z. HandedOn finals 0 z o.operation) s o.operation) (sym f) (refl, p))

pub origin_complete : (finals : List Final) (t m d x i : ℕ) → HandedOn finals t x i → t ≤ m →
    origin_from finals m (suc d) x ≡ Some (origin_at i (t + d))
origin_complete finals zero m d x i h l = absurd h
origin_complete finals (suc t) zero d x i h l = absurd (omega arith)
origin_complete finals (suc t) (suc m) d x i h l = by_source (λ y k. origin_complete finals t m (suc d) y i k (omega arith)) (last_source finals x) refl h
  where
    by_source : ((y : ℕ) → HandedOn finals t y i → origin_from finals m (suc (suc d)) y ≡ Some (origin_at i (t + suc d))) →
        (s : Option Source) → last_source finals x ≡ s → GivenBy t (λ y. HandedOn finals t y i) s i →
        origin_by (origin_from finals m (suc (suc d))) (suc d) (last_source finals x) ≡ Some (origin_at i (suc t + d))
    by_source rest None f g = absurd g
    by_source rest (Some (Constant ty v)) f g = absurd g
    by_source rest (Some (Variable y ty)) f g =
        let n : t + suc d ≡ suc t + d = omega arith in
        ap (origin_by (origin_from finals m (suc (suc d))) (suc d)) f ∙ rest y g ∙ ap (λ (z : ℕ). Some (origin_at i z)) n
    by_source rest (Some (Value j ty)) f g =
        let z = g.0 in
        let n : suc d ≡ suc t + d = omega arith in
        ap (origin_by (origin_from finals m (suc (suc d))) (suc d)) f ∙ ap (λ (k : ℕ). Some (origin_at k (suc d))) g.1
        ∙ ap (λ (k : ℕ). Some (origin_at i k)) n

-- a variable comes from one place alone
handed_once : (finals : List Final) (s t x i j : ℕ) → HandedOn finals s x i → HandedOn finals t x j → s ≡ t
handed_once finals s t x i j h k =
    let a = origin_complete finals s (s + t) 0 x i h (omega arith) in
    let b = origin_complete finals t (s + t) 0 x j k (omega arith) in
    let o : Origin = origin_at i (s + 0) in
    let p : Origin = origin_at j (t + 0) in
    let same : Some o ≡ Some p = sym a ∙ b in
    let one : o ≡ p = cc in
    let turns : s + 0 ≡ t + 0 = ap (λ (z : Origin). z.turns) one in
    omega (arith, turns)

-- ---- no walk is longer than the finals: no variable comes twice, so with each step the finals of one are done with

abbrev without : List Final → ℕ → List Final
without [] x = []
without (f ∷ fs) x = if nat_eq x f.variable then without fs x else f ∷ without fs x

or_none : (o : Option Source) → option_or o None ≡ o
or_none None = refl
or_none (Some s) = refl

without_last : (fs : List Final) (x y : ℕ) → y ≢ x → last_source (without fs x) y ≡ last_source fs y
without_last [] x y ne = refl
without_last (f ∷ fs) x y ne = by_name (nat_eq x f.variable) refl (without_last fs x y ne)
  where
    by_name : (b : Bool) → nat_eq x f.variable ≡ b → last_source (without fs x) y ≡ last_source fs y →
        last_source (if b then without fs x else f ∷ without fs x) y ≡ last_source (f ∷ fs) y
    by_name true e rest =
        let same : x ≡ f.variable = eqb-true x f.variable e in
        let other : nat_eq y f.variable ≡ false = other_is y f.variable (λ z. ne (z ∙ sym same)) in
        rest ∙ sym (ap (λ (b : Bool). option_or (last_source fs y) (if b then Some f.value.source else None)) other ∙ or_none (last_source fs y))
    by_name false e rest = ap (λ (o : Option Source). option_or o (if nat_eq y f.variable then Some f.value.source else None)) rest

without_few : (fs : List Final) (x : ℕ) → length (without fs x) ≤ length fs
without_few [] x = omega arith
without_few (f ∷ fs) x = by_name (nat_eq x f.variable) (without_few fs x)
  where
    by_name : (b : Bool) → length (without fs x) ≤ length fs → length (if b then without fs x else f ∷ without fs x) ≤ suc (length fs)
    by_name true rest = omega arith
    by_name false rest = omega arith

without_fewer : (fs : List Final) (x : ℕ) (s : Source) → last_source fs x ≡ Some s → length (without fs x) < length fs
without_fewer [] x s e = absurd cc
without_fewer (f ∷ fs) x s e = by_name (nat_eq x f.variable) e (without_fewer fs x s)
  where
    by_name : (b : Bool) → option_or (last_source fs x) (if b then Some f.value.source else None) ≡ Some s →
        (last_source fs x ≡ Some s → length (without fs x) < length fs) → length (if b then without fs x else f ∷ without fs x) < suc (length fs)
    by_name true g rest = let h = without_few fs x in omega (arith, h)
    by_name false g rest = let h = rest (sym (or_none (last_source fs x)) ∙ g) in omega (arith, h)

still_handed : (finals : List Final) (x i t y : ℕ) → ((s : ℕ) → s ≤ t → HandedOn finals s x i → ⊥) → HandedOn finals t y i → HandedOn (without finals x) t y i
still_handed finals x i zero y avoids h = absurd h
still_handed finals x i (suc t) y avoids h = by_source (λ z k. still_handed finals x i t z (λ s l. avoids s (omega arith)) k) (last_source finals y) refl h
  where
    other : y ≢ x
    other e = avoids (suc t) (omega arith) (subst (λ (z : ℕ). HandedOn finals (suc t) z i) e h)

    by_source : ((z : ℕ) → HandedOn finals t z i → HandedOn (without finals x) t z i) → (s : Option Source) → last_source finals y ≡ s →
        GivenBy t (λ z. HandedOn finals t z i) s i → GivenBy t (λ z. HandedOn (without finals x) t z i) (last_source (without finals x) y) i
    by_source rest None f g = absurd g
    by_source rest (Some (Constant ty v)) f g = absurd g
    by_source rest (Some (Variable z ty)) f g =
        subst (λ (s : Option Source). GivenBy t (λ z. HandedOn (without finals x) t z i) s i) (sym (without_last finals x y other ∙ f)) (rest z g)
    by_source rest (Some (Value j ty)) f g =
        subst (λ (s : Option Source). GivenBy t (λ z. HandedOn (without finals x) t z i) s i) (sym (without_last finals x y other ∙ f)) g

handed_within : (k : ℕ) (finals : List Final) (t x i : ℕ) → length finals ≤ k → HandedOn finals t x i → t ≤ length finals
handed_within k finals zero x i l h = omega arith
handed_within zero [] (suc t) x i l h = absurd h
handed_within zero (f ∷ fs) (suc t) x i l h = absurd (omega arith)
handed_within (suc k) finals (suc t) x i l h = by_source (λ m y. handed_within k (without finals x) t y i m) (last_source finals x) refl h
  where
    by_source : ((m : length (without finals x) ≤ k) (y : ℕ) → HandedOn (without finals x) t y i → t ≤ length (without finals x)) →
        (s : Option Source) → last_source finals x ≡ s → GivenBy t (λ z. HandedOn finals t z i) s i → suc t ≤ length finals
    by_source rest None f g = absurd g
    by_source rest (Some (Constant ty v)) f g = absurd g
    by_source rest (Some (Variable y ty)) f g =
        let fewer = without_fewer finals x (Variable y ty) f in
        let avoids : (s : ℕ) → s ≤ t → HandedOn finals s x i → ⊥ = λ s m z. (let e = handed_once finals s (suc t) x i i z h in absurd (omega (arith, e, m))) in
        let r = rest (omega (arith, fewer, l)) y (still_handed finals x i t y avoids g) in
        omega (arith, r, fewer)
    by_source rest (Some (Value j ty)) f g =
        let fewer = without_fewer finals x (Value j ty) f in
        let z = g.0 in
        omega (arith, fewer, z)

pub handed_soon : (finals : List Final) (t x i : ℕ) → HandedOn finals t x i → t ≤ length finals
handed_soon finals t x i h = handed_within (length finals) finals t x i (omega arith) h

pub origin_found : (finals : List Final) (t x i : ℕ) → HandedOn finals t x i → origin_of finals x ≡ Some (origin_at i t)
origin_found finals t x i h =
    let n : t + 0 ≡ t = omega arith in
    origin_complete finals t (length finals) 0 x i h (handed_soon finals t x i h) ∙ ap (λ (z : ℕ). Some (origin_at i z)) n

pub origin_is : (finals : List Final) (x : ℕ) (o : Origin) → origin_of finals x ≡ Some o → HandedOn finals o.turns x o.operation
origin_is finals x o e =
    let h = origin_sound finals (length finals) 0 x o e in
    let n : h.0 ≡ o.turns = omega (arith, h.1) in
    subst (λ (t : ℕ). HandedOn finals t x o.operation) n h.2

-- ---- the code's walk

pub walk_step : (finals : List Final) (n turn x : ℕ) (s : Option Source) (o : Option Origin) → turn < n → last_source finals x ≡ s →
    origin_from finals (n - turn) (turn + 1) x ≡ o → origin_by (origin_from finals (n - (turn + 1)) (turn + 1 + 1)) (turn + 1) s ≡ o
walk_step finals n turn x s o l e f =
    let m : suc (n - (turn + 1)) ≡ n - turn = omega arith in
    let t : turn + 1 + 1 ≡ suc (turn + 1) = omega arith in
    ap (λ (z : ℕ). origin_by (origin_from finals (n - (turn + 1)) z) (turn + 1) s) t
    ∙ ap (origin_by (origin_from finals (n - (turn + 1)) (suc (turn + 1))) (turn + 1)) (sym e)
    ∙ ap (λ (z : ℕ). origin_from finals z (turn + 1) x) m ∙ f

pub walk_over : (finals : List Final) (n turn x : ℕ) (o : Option Origin) → n ≤ turn → origin_from finals (n - turn) (turn + 1) x ≡ o → None ≡ o
walk_over finals n turn x o l f =
    let m : 0 ≡ n - turn = omega arith in
    ap (λ (z : ℕ). origin_from finals z (turn + 1) x) m ∙ f

-- what the first finals give, one more
pub sources_next : (fs : List Final) (i : ℕ) (f : Final) (x : ℕ) → slice_get fs i ≡ Some f →
    last_source (take (i + 1) fs) x ≡ (if nat_eq x f.variable then Some f.value.source else last_source (take i fs) x)
sources_next fs i f x e = rw add-one (ap (λ (l : List Final). last_source l x) (take_next fs i f e) ∙ last_more (take i fs) f x)
