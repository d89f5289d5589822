-- Tables whose keys refer to names, as lists of names with what they stand for.
use Rattle.std.proofs.Common.{◌≡◌, refl, ap, ℕ, cond, Bool, true, false, List, [], ◌∷◌, map, Option, Some}
use Rattle.std.specs.Str.{bytes_eq}
use Rattle.std.specs.Map.{lookup}
use Rattle.indexmap.specs.IndexMap.{insert_entry}
use denote.Bor.{Bor}
use Rattle.std.specs.Prelude.{option_map}
use Rattle.c_rules.specs.declared.names.Meaning.{Meaning}
use Rattle.c_rules.specs.Levels.{plain, named_in, inserted, number_in, numbered}

pub lookup-plain :
    {A : Type 0} (name : List ℕ) (es : List (Bor (List ℕ) × A)) →
    lookup (λ k. bytes_eq name k.now) es ≡ named_in (map plain es) name
lookup-plain name [] = refl
lookup-plain name (e ∷ es) = ap (λ rest. cond (bytes_eq name e.0.now) (Some e.1) rest) (lookup-plain name es)

-- an entry before an insertion into the rest
one_more :
    {A : Type 0} (name : Bor (List ℕ)) (a : A) (e : Bor (List ℕ) × A) (es new : List (Bor (List ℕ) × A)) (rest : List (List ℕ × A)) →
    map plain new ≡ rest → (b : Bool) →
    map plain (cond b ((e.0, a) ∷ es) (e ∷ new)) ≡ cond b ((e.0.now, a) ∷ map plain es) ((e.0.now, e.1) ∷ rest)
one_more name a e es new rest same true = refl
one_more name a e es new rest same false = ap (λ more. (e.0.now, e.1) ∷ more) same

pub insert-plain :
    {A : Type 0} (name : Bor (List ℕ)) (a : A) (es : List (Bor (List ℕ) × A)) →
    map plain (insert_entry (λ (x y : Bor (List ℕ)). bytes_eq x.now y.now) es name a) ≡ inserted (map plain es) name.now a
insert-plain name a [] = refl
insert-plain name a (e ∷ es) = one_more name a e es _ _ (insert-plain name a es) (bytes_eq name.now e.0.now)

-- ---- definitions

either_number : (b : Bool) (m : Meaning) (rest : Option Meaning) (numbers : Option ℕ) → numbers ≡ option_map number_in rest →
    cond b (Some (number_in m)) numbers ≡ option_map number_in (cond b (Some m) rest)
either_number true m rest numbers same = refl
either_number false m rest numbers same = same

pub lookup_numbered : (name : List ℕ) (es : List (List ℕ × Meaning)) → named_in (map numbered es) name ≡ option_map number_in (named_in es name)
lookup_numbered name [] = refl
lookup_numbered name (e ∷ es) = either_number (bytes_eq name e.0) e.1 _ _ (lookup_numbered name es)

numbered_more : (b : Bool) (m : Meaning) (e : List ℕ × Meaning) (es new : List (List ℕ × Meaning)) (rest : List (List ℕ × ℕ)) → map numbered new ≡ rest →
    map numbered (cond b ((e.0, m) ∷ es) (e ∷ new)) ≡ cond b ((e.0, number_in m) ∷ map numbered es) (numbered e ∷ rest)
numbered_more true m e es new rest same = refl
numbered_more false m e es new rest same = ap (λ more. numbered e ∷ more) same

pub insert_numbered : (name : List ℕ) (m : Meaning) (es : List (List ℕ × Meaning)) →
    map numbered (inserted es name m) ≡ inserted (map numbered es) name (number_in m)
insert_numbered name m [] = refl
insert_numbered name m (e ∷ es) = numbered_more (bytes_eq name e.0) m e es _ _ (insert_numbered name m es)
