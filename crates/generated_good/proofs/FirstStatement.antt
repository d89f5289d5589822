-- Work whose statements, side by side, are a list begins with the first of them, once it is settled.
use Rattle.std.proofs.Common.{◌≡◌, List, [], ◌∷◌, ◌++◌, refl, ap, sym, ◌∙◌, subst, append_assoc}
use Rattle.c_program.specs.Tree.{Statement}
use Rattle.thread_semantics.specs.Work.{Work, Do, Going, Onward, in_order, opened, settled}
use Rattle.generated_program.specs.Worker.{side_by_side}

-- the work is these statements, and nothing else
abbrev pub Left : List Work → List Statement → Type 0
Left [] ss = ss ≡ []
Left (Do t ∷ k) ss = (rest : List Statement) × (ss ≡ side_by_side t ++ rest) × Left k rest
Left (item ∷ k) ss = ⊥

abbrev nothing : Going → List Work
nothing going = []

-- the first step of the statement before the work k
abbrev pub first_of : Statement → List Work → List Work
first_of s k = opened s k nothing

-- a statement whose first step doesn't depend on what follows the work behind it
abbrev pub IsPlain : Statement → Type 0
IsPlain s = (k : List Work) (rest : Going → List Work) → opened s k rest ≡ first_of s k

opens_nothing : (t : Statement) (k : List Work) (rest : Going → List Work) → side_by_side t ≡ [] → opened t k rest ≡ rest Onward
opens_nothing Statement.Done k rest e = refl
opens_nothing (Statement.Sequence first next) k rest e = go (side_by_side first) refl e (λ j r q. opens_nothing first j r q) (λ q. opens_nothing next k rest q)
  where
    go : (xs : List Statement) → side_by_side first ≡ xs → xs ++ side_by_side next ≡ [] →
        ((j : List Work) (r : Going → List Work) → side_by_side first ≡ [] → opened first j r ≡ r Onward) →
        (side_by_side next ≡ [] → opened next k rest ≡ rest Onward) → opened (Statement.Sequence first next) k rest ≡ rest Onward
    go [] q x one two = one (Do next ∷ k) (λ going. in_order going (opened next k rest) rest) q ∙ two x
    go (y ∷ ys) q x one two = absurd cc
opens_nothing t k rest e = absurd cc

-- what opened work comes to: the first statement before work that is the others
pub record Opened (work : List Work) (s : Statement) (ss : List Statement) : Type 0 where
  pub behind : List Work
  pub is : work ≡ first_of s behind
  pub left : Left behind ss

other_work : (work work' : List Work) (s : Statement) (ss : List Statement) → work ≡ work' → Opened work' s ss → Opened work s ss
other_work work work' s ss e o = record { behind = o.behind; is = e ∙ o.is; left = o.left }

alone : (t s : Statement) (more ss : List Statement) (k : List Work) (rest : Going → List Work) → t ∷ [] ≡ s ∷ more → IsPlain s → Left k ss → Opened
    (opened t k rest) s (more ++ ss)
alone t s more ss k rest e plain l =
    let same : s ≡ t = cc in
    let none : [] ≡ more = cc in
    record {
      behind = k;
      is = subst (λ x. opened x k rest ≡ first_of s k) same (plain k rest);
      left = subst (λ x. Left k (x ++ ss)) none l;
    }

opens : (t s : Statement) (more ss : List Statement) (k : List Work) (rest : Going → List Work) → side_by_side t ≡ s ∷ more → IsPlain s → Left k ss → Opened
    (opened t k rest) s (more ++ ss)
opens Statement.Done s more ss k rest e plain l = absurd cc
opens (Statement.Sequence first next) s more ss k rest e plain l =
    go (side_by_side first) refl e (λ m zs j r q h. opens first s m zs j r q plain h) (λ q. opens next s more ss k rest q plain l)
  where
    go : (xs : List Statement) → side_by_side first ≡ xs → xs ++ side_by_side next ≡ s ∷ more →
        ((m zs : List Statement) (j : List Work) (r : Going → List Work) → side_by_side first ≡ s ∷ m → Left j zs → Opened (opened first j r) s (m ++ zs)) →
        (side_by_side next ≡ s ∷ more → Opened (opened next k rest) s (more ++ ss)) → Opened (opened (Statement.Sequence first next) k rest) s (more ++ ss)
    go [] q x one two =
        other_work _ _ s (more ++ ss) (opens_nothing first (Do next ∷ k) (λ going. in_order going (opened next k rest) rest) q) (two x)
    go (y ∷ ys) q x one two =
        let same : y ≡ s = cc in
        let tail : ys ++ side_by_side next ≡ more = cc in
        let o = one ys (side_by_side next ++ ss) (Do next ∷ k) (λ going. in_order going (opened next k rest) rest) (q ∙ ap (λ z. z ∷ ys) same) (ss, refl, l) in
        subst (λ zs. Opened (opened (Statement.Sequence first next) k rest) s zs) (sym (append_assoc ys (side_by_side next) ss) ∙ ap (λ zs. zs ++ ss) tail) o
opens t s more ss k rest e plain l = alone t s more ss k rest e plain l

pub settles : (k : List Work) (s : Statement) (ss : List Statement) → Left k (s ∷ ss) → IsPlain s → Opened (settled Onward k) s ss
settles [] s ss l plain = absurd cc
settles (Do t ∷ k) s ss (rest, e, l) plain = go (side_by_side t) refl e (λ q. settles k s ss q plain)
  where
    go : (xs : List Statement) → side_by_side t ≡ xs → s ∷ ss ≡ xs ++ rest → (Left k (s ∷ ss) → Opened (settled Onward k) s ss) → Opened
        (settled Onward (Do t ∷ k)) s ss
    go [] q x later =
        other_work _ _ s ss (opens_nothing t k (λ going. settled going k) q) (later (subst (λ zs. Left k zs) (sym x) l))
    go (y ∷ ys) q x later =
        let same : y ≡ s = cc in
        let tail : ys ++ rest ≡ ss = cc in
        subst (λ zs. Opened (settled Onward (Do t ∷ k)) s zs) tail (opens t s ys rest k (λ going. settled going k) (q ∙ ap (λ z. z ∷ ys) same) plain l)
settles (item ∷ k) s ss l plain = absurd l
