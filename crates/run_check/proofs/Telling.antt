-- Who has heard of a step, by what the next step acts on.
use Rattle.std.proofs.Common.{◌≡◌, ℕ, List, [], ◌∷◌, refl, ap, sym, ◌∙◌, ⊎_elim, inl, inr}
use Rattle.std.specs.Prelude.{◌⊎◌, Bool, true, ◌&&◌, ◌||◌, nat_eq}
use Rattle.std.specs.List.{list_any}
use Rattle.std.proofs.lemmas.Bool.{eqb-true, eq-eqb, and_parts, and_from, or_left, or_right, or_cases}
use Rattle.thread_semantics.specs.Work.{Act}
use Rattle.thread_semantics.specs.State.{State}
use Rattle.thread_semantics.specs.Move.{Move}
use Rattle.thread_semantics.specs.Races.{id_of_move}
use Rattle.run_races.specs.Order.{is_in, told, mutex_of_move, barrier_of_move, prints}
use Rattle.run_check.specs.declared.class.Class.{Class}
use Rattle.run_check.specs.declared.class.Class.TheVariants as class
use Rattle.run_check.specs.Class.{class_of, is_print, mutex_of, barrier_of, id_of, released_by, Tells}

abbrev pub told_class : Class → List ℕ → ℕ → (ℕ → Bool) → ℕ → Bool
told_class (class.Creates n) released i heard j = heard j || (nat_eq j n && heard i)
told_class (class.Joins n) released i heard j = heard j || (nat_eq j i && heard n)
told_class (class.Waits n) released i heard j = heard j || (is_in j released && list_any heard released)
told_class c released i heard j = heard j

pub told_is : (s : State) (i : ℕ) (m : Move) (heard : ℕ → Bool) (j : ℕ) →
    told s i m heard j ≡ told_class (class_of m) (released_by s i (class_of m)) i heard j
told_is s i (Move.Acts offset (Act.Print format) operands fs) heard j = refl
told_is s i (Move.Acts offset (Act.Create routine) operands fs) heard j = refl
told_is s i (Move.Acts offset Act.Join operands fs) heard j = refl
told_is s i (Move.Acts offset Act.MutexInit operands fs) heard j = refl
told_is s i (Move.Acts offset Act.MutexDestroy operands fs) heard j = refl
told_is s i (Move.Acts offset Act.MutexLock operands fs) heard j = refl
told_is s i (Move.Acts offset Act.MutexUnlock operands fs) heard j = refl
told_is s i (Move.Acts offset Act.BarrierInit operands fs) heard j = refl
told_is s i (Move.Acts offset Act.BarrierDestroy operands fs) heard j = refl
told_is s i (Move.Acts offset Act.BarrierWait operands fs) heard j = refl
told_is s i m heard j = refl

pub mutex_is : (m : Move) → mutex_of (class_of m) ≡ mutex_of_move m
mutex_is (Move.Acts offset (Act.Print format) operands fs) = refl
mutex_is (Move.Acts offset (Act.Create routine) operands fs) = refl
mutex_is (Move.Acts offset Act.Join operands fs) = refl
mutex_is (Move.Acts offset Act.MutexInit operands fs) = refl
mutex_is (Move.Acts offset Act.MutexDestroy operands fs) = refl
mutex_is (Move.Acts offset Act.MutexLock operands fs) = refl
mutex_is (Move.Acts offset Act.MutexUnlock operands fs) = refl
mutex_is (Move.Acts offset Act.BarrierInit operands fs) = refl
mutex_is (Move.Acts offset Act.BarrierDestroy operands fs) = refl
mutex_is (Move.Acts offset Act.BarrierWait operands fs) = refl
mutex_is m = refl

pub barrier_is : (m : Move) → barrier_of (class_of m) ≡ barrier_of_move m
barrier_is (Move.Acts offset (Act.Print format) operands fs) = refl
barrier_is (Move.Acts offset (Act.Create routine) operands fs) = refl
barrier_is (Move.Acts offset Act.Join operands fs) = refl
barrier_is (Move.Acts offset Act.MutexInit operands fs) = refl
barrier_is (Move.Acts offset Act.MutexDestroy operands fs) = refl
barrier_is (Move.Acts offset Act.MutexLock operands fs) = refl
barrier_is (Move.Acts offset Act.MutexUnlock operands fs) = refl
barrier_is (Move.Acts offset Act.BarrierInit operands fs) = refl
barrier_is (Move.Acts offset Act.BarrierDestroy operands fs) = refl
barrier_is (Move.Acts offset Act.BarrierWait operands fs) = refl
barrier_is m = refl

pub id_is : (m : Move) → id_of (class_of m) ≡ id_of_move m
id_is (Move.Acts offset (Act.Print format) operands fs) = refl
id_is (Move.Acts offset (Act.Create routine) operands fs) = refl
id_is (Move.Acts offset Act.Join operands fs) = refl
id_is (Move.Acts offset Act.MutexInit operands fs) = refl
id_is (Move.Acts offset Act.MutexDestroy operands fs) = refl
id_is (Move.Acts offset Act.MutexLock operands fs) = refl
id_is (Move.Acts offset Act.MutexUnlock operands fs) = refl
id_is (Move.Acts offset Act.BarrierInit operands fs) = refl
id_is (Move.Acts offset Act.BarrierDestroy operands fs) = refl
id_is (Move.Acts offset Act.BarrierWait operands fs) = refl
id_is m = refl

pub prints_is : (m : Move) → is_print (class_of m) ≡ prints m
prints_is (Move.Acts offset (Act.Print format) operands fs) = refl
prints_is (Move.Acts offset (Act.Create routine) operands fs) = refl
prints_is (Move.Acts offset Act.Join operands fs) = refl
prints_is (Move.Acts offset Act.MutexInit operands fs) = refl
prints_is (Move.Acts offset Act.MutexDestroy operands fs) = refl
prints_is (Move.Acts offset Act.MutexLock operands fs) = refl
prints_is (Move.Acts offset Act.MutexUnlock operands fs) = refl
prints_is (Move.Acts offset Act.BarrierInit operands fs) = refl
prints_is (Move.Acts offset Act.BarrierDestroy operands fs) = refl
prints_is (Move.Acts offset Act.BarrierWait operands fs) = refl
prints_is m = refl

any_of : (p : ℕ → Bool) (xs : List ℕ) (v : ℕ) → is_in v xs ≡ true → p v ≡ true → list_any p xs ≡ true
any_of p [] v x e = absurd cc
any_of p (y ∷ xs) v x e =
    ⊎_elim (λ h. or_left (p y) (list_any p xs) (ap p (sym (eqb-true v y h)) ∙ e))
    (λ h. or_right (p y) (list_any p xs) (any_of p xs v h e)) (or_cases (nat_eq v y) (is_in v xs) x)

any_more : (p q : ℕ → Bool) → ((v : ℕ) → p v ≡ true → q v ≡ true) → (xs : List ℕ) → list_any p xs ≡ true → list_any q xs ≡ true
any_more p q m [] x = x
any_more p q m (y ∷ xs) x =
    ⊎_elim (λ h. or_left (q y) (list_any q xs) (m y h)) (λ h. or_right (q y) (list_any q xs) (any_more p q m xs h))
    (or_cases (p y) (list_any p xs) x)

-- who had heard of it has
pub told_more : (c : Class) (r : List ℕ) (i : ℕ) (h : ℕ → Bool) (j : ℕ) → h j ≡ true → told_class c r i h j ≡ true
told_more (class.Creates n) r i h j e = or_left (h j) (nat_eq j n && h i) e
told_more (class.Joins n) r i h j e = or_left (h j) (nat_eq j i && h n) e
told_more (class.Waits n) r i h j e = or_left (h j) (is_in j r && list_any h r) e
told_more c r i h j e = e

-- who is told by one who had has
pub told_by : (c : Class) (r : List ℕ) (i : ℕ) (h : ℕ → Bool) (v j : ℕ) → Tells c r i v j → h v ≡ true → told_class c r i h j ≡ true
told_by (class.Creates n) r i h v j x e = or_right (h j) (nat_eq j n && h i) (and_from (nat_eq j n) (h i) (eq-eqb j n x.1) (ap h (sym x.0) ∙ e))
told_by (class.Joins n) r i h v j x e = or_right (h j) (nat_eq j i && h n) (and_from (nat_eq j i) (h n) (eq-eqb j i x.1) (ap h (sym x.0) ∙ e))
told_by (class.Waits n) r i h v j x e = or_right (h j) (is_in j r && list_any h r) (and_from (is_in j r) (list_any h r) x.1 (any_of h r v x.0 e))
told_by c r i h v j x e = absurd x

some_of : (p : ℕ → Bool) (xs : List ℕ) → list_any p xs ≡ true → (v : ℕ) × (is_in v xs ≡ true) × (p v ≡ true)
some_of p [] e = absurd cc
some_of p (y ∷ xs) e =
    ⊎_elim (λ h. (y, or_left (nat_eq y y) (is_in y xs) (eq-eqb y y refl), h))
    (λ h. let v = some_of p xs h in (v.0, or_right (nat_eq v.0 y) (is_in v.0 xs) v.1, v.2)) (or_cases (p y) (list_any p xs) e)

-- who has heard of it behind the step had before, or is told by one who had
pub told_back : (c : Class) (r : List ℕ) (i : ℕ) (h : ℕ → Bool) (j : ℕ) → told_class c r i h j ≡ true →
    (h j ≡ true) ⊎ ((v : ℕ) × Tells c r i v j × (h v ≡ true))
told_back (class.Creates n) r i h j x =
    ⊎_elim (λ e. inl e) (λ e. let a = and_parts (nat_eq j n) (h i) e in inr (i, (refl, eqb-true j n a.0), a.1)) (or_cases (h j) (nat_eq j n && h i) x)
told_back (class.Joins n) r i h j x =
    ⊎_elim (λ e. inl e) (λ e. let a = and_parts (nat_eq j i) (h n) e in inr (n, (refl, eqb-true j i a.0), a.1)) (or_cases (h j) (nat_eq j i && h n) x)
told_back (class.Waits n) r i h j x =
    ⊎_elim (λ e. inl e)
    (λ e. let a = and_parts (is_in j r) (list_any h r) e in let v = some_of h r a.1 in inr (v.0, (v.1, a.0), v.2))
    (or_cases (h j) (is_in j r && list_any h r) x)
told_back c r i h j x = inl x

-- the more have heard of it before, the more have behind the step
pub told_wider : (c : Class) (r : List ℕ) (i : ℕ) (h g : ℕ → Bool) (j : ℕ) → ((v : ℕ) → h v ≡ true → g v ≡ true) →
    told_class c r i h j ≡ true → told_class c r i g j ≡ true
told_wider (class.Creates n) r i h g j m x =
    ⊎_elim (λ e. or_left (g j) (nat_eq j n && g i) (m j e))
    (λ e. let a = and_parts (nat_eq j n) (h i) e in or_right (g j) (nat_eq j n && g i) (and_from (nat_eq j n) (g i) a.0 (m i a.1)))
    (or_cases (h j) (nat_eq j n && h i) x)
told_wider (class.Joins n) r i h g j m x =
    ⊎_elim (λ e. or_left (g j) (nat_eq j i && g n) (m j e))
    (λ e. let a = and_parts (nat_eq j i) (h n) e in or_right (g j) (nat_eq j i && g n) (and_from (nat_eq j i) (g n) a.0 (m n a.1)))
    (or_cases (h j) (nat_eq j i && h n) x)
told_wider (class.Waits n) r i h g j m x =
    ⊎_elim (λ e. or_left (g j) (is_in j r && list_any g r) (m j e))
    (λ e. let a = and_parts (is_in j r) (list_any h r) e in
    or_right (g j) (is_in j r && list_any g r) (and_from (is_in j r) (list_any g r) a.0 (any_more h g m r a.1)))
    (or_cases (h j) (is_in j r && list_any h r) x)
told_wider c r i h g j m x = m j x

-- where a barrier lets thread i and one that has heard of it go, all who hear of the step of thread i hear of it
pub told_all : (c : Class) (r : List ℕ) (i n v : ℕ) (h : ℕ → Bool) (j : ℕ) → c ≡ class.Waits n → is_in i r ≡ true → is_in v r ≡ true → h v ≡ true →
    told_class c r i (nat_eq i) j ≡ true → told_class c r i h j ≡ true
told_all (class.Waits k) r i n v h j is own there e x =
    let any = any_of h r v there e in
    ⊎_elim
    (λ q. or_right (h j) (is_in j r && list_any h r) (and_from (is_in j r) (list_any h r) (ap (λ u. is_in u r) (sym (eqb-true i j q)) ∙ own) any))
    (λ q. or_right (h j) (is_in j r && list_any h r) (and_from (is_in j r) (list_any h r) (and_parts (is_in j r) (list_any (nat_eq i) r) q).0 any))
    (or_cases (nat_eq i j) (is_in j r && list_any (nat_eq i) r) x)
told_all c r i n v h j is own there e x = absurd cc
