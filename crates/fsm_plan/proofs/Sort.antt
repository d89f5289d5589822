-- An order is sorted by exchanging neighbours.
use Rattle.std.proofs.Common.{◌≡◌, ◌≢◌, ℕ, suc, ◌<◌, ◌≤◌, ◌+◌, List, [], ◌∷◌, length, refl, ap, ◌∙◌, ◌⊎◌, inl, inr, arith}
use Rattle.std.specs.List.{AllByRecursion}
use Rattle.std.proofs.lemmas.Bool.{cases_lt}
use Rattle.op_graph.specs.declared.node.Node.{Node}
use Rattle.fsm_plan.specs.Run.{State, Given, after, run}
use Rattle.fsm_plan.specs.Law.{AreApart, from_on}
use Rattle.fsm_plan.proofs.Commute.{Commutes}

abbrev insert_by : (a b : ℕ) → List ℕ → List ℕ → (b < a) ⊎ (a ≤ b) → List ℕ
insert_by a b m n (inl l) = b ∷ n
insert_by a b m n (inr l) = a ∷ b ∷ m

abbrev pub insert : ℕ → List ℕ → List ℕ
insert a [] = a ∷ []
insert a (b ∷ m) = insert_by a b m (insert a m) (cases_lt b a)

abbrev pub sort : List ℕ → List ℕ
sort [] = []
sort (a ∷ m) = insert a (sort m)

all_insert_by : (P : ℕ → Type 0) (a b : ℕ) (m n : List ℕ) (d : (b < a) ⊎ (a ≤ b)) → P a → P b → AllByRecursion P m → AllByRecursion P n → AllByRecursion P (insert_by a b m n d)
all_insert_by P a b m n (inl l) pa pb pm pn = (pb, pn)
all_insert_by P a b m n (inr l) pa pb pm pn = (pa, (pb, pm))

pub all_insert : (P : ℕ → Type 0) (a : ℕ) (m : List ℕ) → P a → AllByRecursion P m → AllByRecursion P (insert a m)
all_insert P a [] p all = (p, tt)
all_insert P a (b ∷ m) p all = all_insert_by P a b m (insert a m) (cases_lt b a) p all.0 all.1 (all_insert P a m p all.1)

pub all_sort : (P : ℕ → Type 0) (m : List ℕ) → AllByRecursion P m → AllByRecursion P (sort m)
all_sort P [] all = tt
all_sort P (a ∷ m) all = all_insert P a (sort m) all.0 (all_sort P m all.1)

length_insert_by : (a b : ℕ) (m n : List ℕ) (d : (b < a) ⊎ (a ≤ b)) → length n ≡ suc (length m) → length (insert_by a b m n d) ≡ suc (suc (length m))
length_insert_by a b m n (inl l) e = ap suc e
length_insert_by a b m n (inr l) e = refl

length_insert : (a : ℕ) (m : List ℕ) → length (insert a m) ≡ suc (length m)
length_insert a [] = refl
length_insert a (b ∷ m) = length_insert_by a b m (insert a m) (cases_lt b a) (length_insert a m)

pub length_sort : (m : List ℕ) → length (sort m) ≡ length m
length_sort [] = refl
length_sort (a ∷ m) = length_insert a (sort m) ∙ ap suc (length_sort m)

-- each element is below all that follow it
abbrev pub Rises : List ℕ → Type 0
Rises [] = Unit {0}
Rises (a ∷ m) = AllByRecursion (λ b. a < b) m × Rises m

map_all : (P Q : ℕ → Type 0) → ((b : ℕ) → P b → Q b) → (m : List ℕ) → AllByRecursion P m → AllByRecursion Q m
map_all P Q f [] all = tt
map_all P Q f (b ∷ m) all = (f b all.0, map_all P Q f m all.1)

rises_by : (a b : ℕ) (m n : List ℕ) → b ≢ a → AllByRecursion (λ c. b < c) m → Rises m → Rises n → (b < a → AllByRecursion (λ c. b < c) n) → (d : (b < a) ⊎ (a ≤ b)) →
    Rises (insert_by a b m n d)
rises_by a b m n ne all r rn alln (inl l) = (alln l, rn)
rises_by a b m n ne all r rn alln (inr l) =
    let lt : a < b = omega arith in
    ((lt, map_all (λ c. b < c) (λ c. a < c) (λ c h. omega arith) m all), (all, r))

rises_insert : (a : ℕ) (m : List ℕ) → AllByRecursion (λ b. b ≢ a) m → Rises m → Rises (insert a m)
rises_insert a [] ne r = (tt, tt)
rises_insert a (b ∷ m) ne r = rises_by a b m (insert a m) ne.0 r.0 r.1 (rises_insert a m ne.1 r.1) (λ l. all_insert (λ c. b < c) a m l r.0) (cases_lt b a)

pub rises_sort : (m : List ℕ) → AreApart m → Rises (sort m)
rises_sort [] apart = tt
rises_sort (a ∷ m) apart = rises_insert a (sort m) (all_sort (λ b. b ≢ a) m apart.0) (rises_sort m apart.1)

-- a rising list of numbers from i on, as many as there are below n, is all of them
room : (n a : ℕ) (m : List ℕ) → Rises (a ∷ m) → AllByRecursion (λ b. b < n) (a ∷ m) → a + length (a ∷ m) ≤ n
room n a [] r all = omega (arith, all.0)
room n a (b ∷ m) r all = let h = room n b m r.1 all.1 in let lt : a < b = r.0.0 in omega arith

pub is_from_on : (n : ℕ) (m : List ℕ) (i : ℕ) → Rises m → AllByRecursion (λ b. b < n) m → AllByRecursion (λ b. i ≤ b) m → i + length m ≡ n → m ≡ from_on i (length m)
is_from_on n [] i r all low e = refl
is_from_on n (a ∷ m) i r all low e =
    let h = room n a m r all in
    let same : a ≡ i = omega (arith, h, low.0) in
    let low' : AllByRecursion (λ b. i + 1 ≤ b) m = map_all (λ b. a < b) (λ b. i + 1 ≤ b) (λ b l. omega (arith, low.0)) m r.0 in
    let rest : m ≡ from_on (i + 1) (length m) = is_from_on n m (i + 1) r.1 all.1 low' (omega arith) in
    ap (λ (x : ℕ). x ∷ m) same ∙ ap (λ (x : List ℕ). i ∷ x) rest

module _ (g : Given) (nodes : List Node) where
  run_by : (a b : ℕ) (m n : List ℕ) → (b < a → Commutes g nodes a b) → ((s : State) → run g nodes (a ∷ m) s ≡ run g nodes n s) → (s : State) → (d : (b < a) ⊎ (a ≤ b)) →
      run g nodes (a ∷ b ∷ m) s ≡ run g nodes (insert_by a b m n d) s
  run_by a b m n cross rest s (inl l) = ap (λ (t : State). run g nodes m t) (cross l s) ∙ rest (after g nodes b s)
  run_by a b m n cross rest s (inr l) = refl

  run_insert : (a : ℕ) (m : List ℕ) → AllByRecursion (λ b. b < a → Commutes g nodes a b) m → (s : State) → run g nodes (a ∷ m) s ≡ run g nodes (insert a m) s
  run_insert a [] all s = refl
  run_insert a (b ∷ m) all s = run_by a b m (insert a m) all.0 (run_insert a m all.1) s (cases_lt b a)

  -- an earlier element may be taken over each later one that is smaller
  abbrev pub MayCross : List ℕ → Type 0
  MayCross [] = Unit {0}
  MayCross (a ∷ m) = AllByRecursion (λ b. b < a → Commutes g nodes a b) m × MayCross m

  pub run_sort : (m : List ℕ) → MayCross m → (s : State) → run g nodes m s ≡ run g nodes (sort m) s
  run_sort [] may s = refl
  run_sort (a ∷ m) may s = run_sort m may.1 (after g nodes a s) ∙ run_insert a (sort m) (all_sort (λ b. b < a → Commutes g nodes a b) m may.0) s
