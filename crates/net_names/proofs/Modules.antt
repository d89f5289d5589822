-- Places among the modules before one.
use Rattle.std.proofs.Common.{◌≡◌, refl, sym, ap, ◌∙◌, ℕ, zero, suc, ◌+◌, Bool, true, false, not, List, [], ◌∷◌, length, take, min, cond, ◌<◌, ◌≤◌, arith}
use Rattle.std.specs.Prelude.{slice_get}
use Rattle.std.specs.Str.{bytes_eq}
use Rattle.std.proofs.lemmas.List.{length-map, take-map}
use Rattle.verilog_tree.specs.declared.tree.Module.{Module}
use Rattle.netlist.specs.NetlistOf.{Name, place, module_names}

place_by : (b : Bool) (p q k : ℕ) → p ≡ min q k → cond (not b) (1 + p) 0 ≡ min (cond (not b) (1 + q) 0) (suc k)
place_by true p q k e = omega arith
place_by false p q k e = omega (arith, e)

place_before : (names : List Name) (k : ℕ) (x : Name) → k ≤ length names → place (take k names) x ≡ min (place names x) k
place_before names zero x le = omega arith
place_before [] (suc k) x le = absurd (omega (arith, le))
place_before (y ∷ names) (suc k) x le = place_by (bytes_eq x y) (place (take k names) x) (place names x) k (place_before names k x (omega (arith, le)))

pub module_place : (all : List Module) (before : ℕ) (x : Name) → before ≤ length all → place (module_names (take before all)) x ≡ min (place (module_names all) x) before
module_place all before x le =
    ap (λ names. place names x) (sym (take-map (λ (m : Module). m.name) before all))
    ∙ place_before (module_names all) before x (let e = length-map all (λ (m : Module). m.name) in omega (arith, e, le))

pub taken_get : {A : Type 0} (xs : List A) (k i : ℕ) → i < k → slice_get (take k xs) i ≡ slice_get xs i
taken_get xs zero i lt = absurd (omega (arith, lt))
taken_get [] (suc k) i lt = refl
taken_get (x ∷ xs) (suc k) zero lt = refl
taken_get (x ∷ xs) (suc k) (suc i) lt = taken_get xs k i (omega (arith, lt))
