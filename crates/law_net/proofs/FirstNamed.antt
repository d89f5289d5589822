-- The modules of thread functions are found by their names.
use Rattle.std.proofs.Common.{◌≡◌, ℕ, zero, suc, ◌<◌, Bool, true, false, if◌then◌else◌, List, [], ◌∷◌, Some, refl, sym, ap, ◌∙◌, arith}
use Rattle.std.specs.Prelude.{slice_get}
use Rattle.std.specs.Str.{bytes_eq}
use Rattle.std.proofs.lemmas.Slice.Eq.{bytes_eq-Decides}
use Rattle.std.proofs.lemmas.Option.{none-some, same_Some}
use Rattle.netlist.specs.declared.netlist.Module.{Module}
use Rattle.verilog_meaning.specs.Names.{module_named}

named_by : (b : Bool) (t : Module) (ms : List Module) (k : ℕ) (m : Module) (name : List ℕ) → bytes_eq name t.name ≡ b → (t.name ≡ name → ⊥) →
    module_named ms name ≡ Some m → (if b then Some t else module_named ms name) ≡ Some m
named_by true t ms k m name e other rest = absurd (other (sym ((bytes_eq-Decides name t.name).0 e)))
named_by false t ms k m name e other rest = rest

-- the first module of a name is found
pub first_named : (ms : List Module) (k : ℕ) (m : Module) (name : List ℕ) → slice_get ms k ≡ Some m → m.name ≡ name →
    ((j : ℕ) (o : Module) → j < k → slice_get ms j ≡ Some o → o.name ≡ name → ⊥) → module_named ms name ≡ Some m
first_named [] k m name e named others = absurd (none-some m e)
first_named (t ∷ ms) zero m name e named others =
    let same : bytes_eq name t.name ≡ true = (bytes_eq-Decides name t.name).1 (sym (ap (λ (y : Module). y.name) (same_Some t m e) ∙ named)) in
    ap (λ b. if b then Some t else module_named ms name) same ∙ e
first_named (t ∷ ms) (suc k) m name e named others =
    named_by (bytes_eq name t.name) t ms k m name refl (λ q. others 0 t (omega arith) refl q)
    (first_named ms k m name e named (λ j o l d q. others (suc j) o (omega (arith, l)) d q))
