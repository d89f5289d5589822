-- Look-ups in tables, and insertions.
use Rattle.std.proofs.Common.{◌≡◌, ℕ, List, [], ◌∷◌, ◌++◌, map, Option, Some, None, Bool, true, false, refl, ap}
use Rattle.std.specs.Prelude.{cond, is_some, if◌then◌else◌, ◌||◌}
use Rattle.std.specs.List.{list_any}
use Rattle.std.specs.Str.{bytes_eq}
use Rattle.std.specs.Map.{lookup}
use Rattle.std.proofs.lemmas.List.{map_push}
use Rattle.indexmap.specs.IndexMap.{insert_entry}
use denote.Bor.{Bor}
use Rattle.verilog_tree.specs.declared.kind.Kind.{Kind}
use Rattle.verilog_tree.specs.Scope.{kind_of}
use Rattle.net_rules.specs.Tables.{plain}

-- ---- sets

pub any-map : {X Y : Type 0} (f : X → Y) (p : Y → Bool) (xs : List X) → list_any p (map f xs) ≡ list_any (λ x. p (f x)) xs
any-map f p [] = refl
any-map f p (x ∷ xs) = ap (λ b. p (f x) || b) (any-map f p xs)

-- a key that is new goes last
pub with-map : {X Y : Type 0} (f : X → Y) (b : Bool) (ks : List X) (k : X) → map f (if b then ks else ks ++ k ∷ []) ≡ (if b then map f ks else map f ks ++ f k ∷ [])
with-map f true ks k = refl
with-map f false ks k = map_push f ks k

-- ---- maps

pub lookup-plain : (name : List ℕ) (es : List (Bor (List ℕ) × Kind)) → lookup (λ k. bytes_eq name k.now) es ≡ kind_of (map plain es) name
lookup-plain name [] = refl
lookup-plain name (e ∷ es) = ap (λ rest. cond (bytes_eq name e.0.now) (Some e.1) rest) (lookup-plain name es)

abbrev pub same_key : Bor (List ℕ) → Bor (List ℕ) → Bool
same_key a b = bytes_eq a.now b.now

module _ {A : Type 0} where
  new_at : (k : Bor (List ℕ)) (x : A) (e : Bor (List ℕ) × A) (es : List (Bor (List ℕ) × A)) (b : Bool)
      → cond b (Some e.1) (lookup (λ y. bytes_eq k.now y.now) es) ≡ None
      → (lookup (λ y. bytes_eq k.now y.now) es ≡ None → insert_entry same_key es k x ≡ es ++ (k, x) ∷ [])
      → (if b then (e.0, x) ∷ es else e ∷ insert_entry same_key es k x) ≡ e ∷ (es ++ (k, x) ∷ [])
  new_at k x e es true h rest = cc
  new_at k x e es false h rest = ap (λ l. e ∷ l) (rest h)

  -- a key that is new goes last
  pub new-entry : (k : Bor (List ℕ)) (x : A) (es : List (Bor (List ℕ) × A)) → lookup (λ y. bytes_eq k.now y.now) es ≡ None → insert_entry same_key es k x ≡ es ++ (k, x) ∷ []
  new-entry k x [] h = refl
  new-entry k x (e ∷ es) h = new_at k x e es (bytes_eq k.now e.0.now) h (new-entry k x es)
