-- The text of a path, an instance at a time.
use Rattle.std.specs.Prelude.{◌≡◌, ℕ, suc, ◌+◌, ◌-◌, ◌<◌, ◌≤◌, List, [], ◌∷◌, ◌++◌, length, drop, Option, Some, None, option_and_then, slice_get, slice_index, refl}
use Rattle.std.proofs.Common.{ap, sym, ◌∙◌, subst, arith, append_assoc, drop-cons}
use Rattle.std.proofs.lemmas.List.{append-nil}
use Rattle.netlist.specs.declared.netlist.Instance.{Instance}
use Rattle.netlist.specs.declared.netlist.Module.{Module}
use Rattle.verilog_meaning.specs.Cycles.{Path, module_at}
use Rattle.sim_loops.specs.Dotted.{instance_in, module_of, instance_name, prefix}

module_inside : (modules : List Module) (o : Option Module) (i : ℕ)
    → module_of modules (instance_in o i) ≡ option_and_then (λ (m : Module). option_and_then (λ (n : Instance). slice_get modules n.of) (slice_get m.instances i)) o
module_inside modules None i = refl
module_inside modules (Some m) i = refl

-- the path up to its last instance is put behind a text; that instance has this module
pub record IsPut (modules : List Module) (t : Module) (path : Path) (start text : List ℕ) (kind : Option Module) : Type 0 where
  pub written : text ≡ start ++ prefix modules t path
  pub stands : kind ≡ module_at modules t path

pub put_more : (modules : List Module) (t : Module) (outer : Path) (i : ℕ) (start text more : List ℕ) (kind inner : Option Module) → IsPut modules t outer start text kind
    → more ≡ text ++ instance_name (instance_in kind i) ++ 46 ∷ [] → inner ≡ module_of modules (instance_in kind i) → IsPut modules t (i ∷ outer) start more inner
put_more modules t outer i start text more kind inner is e f = record {
  written = e ∙ ap (λ z. z ++ instance_name (instance_in kind i) ++ 46 ∷ []) is.written
      ∙ ap (λ z. z ++ 46 ∷ []) (append_assoc start (prefix modules t outer) (instance_name (instance_in kind i)))
      ∙ append_assoc start (prefix modules t outer ++ instance_name (instance_in kind i)) (46 ∷ [])
      ∙ ap (λ o. start ++ (prefix modules t outer ++ instance_name (instance_in o i) ++ 46 ∷ [])) is.stands;
  stands = f ∙ module_inside modules kind i ∙ ap (λ o. option_and_then (λ (m : Module). option_and_then (λ (n : Instance). slice_get modules n.of)
      (slice_get m.instances i)) o) is.stands;
}

drop_all : {X : Type 0} (xs : List X) → drop (length xs) xs ≡ []
drop_all [] = refl
drop_all (x ∷ xs) = drop_all xs

module _ (modules : List Module) (t : Module) (path : Path) (start : List ℕ) where
  abbrev pub last : ℕ → Path
  last done = drop (length path - done) path

  pub put_none : (text : List ℕ) (kind : Option Module) → text ≡ start → kind ≡ Some t → IsPut modules t (last 0) start text kind
  put_none text kind e f =
      subst (λ (p : Path). IsPut modules t p start text kind) (sym (ap (λ k. drop k path) (let z : length path - 0 ≡ length path = omega arith in z) ∙ drop_all path))
      (record { written = e ∙ sym (append-nil start); stands = f })

  pub put_next : (done place : ℕ) (text more : List ℕ) (kind inner : Option Module) → IsPut modules t (last done) start text kind → done < length path
      → place ≡ length path - 1 - done
      → more ≡ text ++ instance_name (instance_in kind (slice_index path place)) ++ 46 ∷ [] → inner ≡ module_of modules (instance_in kind (slice_index path place))
      → IsPut modules t (last (done + 1)) start more inner
  put_next done place text more kind inner is less e f g =
      let here : length path - (done + 1) ≡ place = omega arith in
      let next : length path - done ≡ suc place = omega arith in
      let rest = subst (λ (k : ℕ). IsPut modules t (drop k path) start text kind) next is in
      subst (λ (p : Path). IsPut modules t p start more inner) (sym (ap (λ k. drop k path) here ∙ drop-cons path place 0 (omega arith)))
      (put_more modules t (drop (suc place) path) (slice_index path place) start text more kind inner rest f g)

  pub put_all : (done : ℕ) → length path ≤ done → (text : List ℕ) (kind : Option Module) → IsPut modules t (last done) start text kind → IsPut modules t path start text kind
  put_all done all text kind is = subst (λ (k : ℕ). IsPut modules t (drop k path) start text kind) (let z : length path - done ≡ 0 = omega arith in z) is
