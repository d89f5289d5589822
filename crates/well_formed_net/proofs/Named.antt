-- The modules of a well-formed text by their names: no two have one name, and an instance sees the module of its name.
use Rattle.std.proofs.Common.{◌≡◌, ℕ, zero, suc, ◌<◌, List, [], ◌∷◌, Some, None, refl, sym, ap, ◌∙◌, subst, inl, inr, take, arith}
use Rattle.std.specs.Prelude.{slice_get, if◌then◌else◌}
use Rattle.std.proofs.lemmas.Option.{same_Some, none-some}
use Rattle.std.proofs.lemmas.Bool.{cases_order}
use Rattle.std.proofs.lemmas.Slice.Eq.{bytes_eq-Decides}
use Rattle.lists.proofs.Places.{none_of}
use Rattle.verilog_tree.specs.declared.tree.Module.{Module}
use Rattle.verilog_tree.specs.Scope.{Name}
use Rattle.verilog_tree.specs.Facts.{Facts, Interface, interface_named, interface_of, nothing, after, after_module}
use Rattle.verilog_tree.specs.WellFormed.{EachAfter, IsModule}
use Rattle.well_formed_net.proofs.Lists.{each_at, each_take}
use Rattle.well_formed_net.proofs.Earlier.{modules_kept}
use Rattle.netlist_text.proofs.NetFormed.{named_back}

pub take_get : {A : Type 0} (xs : List A) (k i : ℕ) (x : A) → i < k → slice_get xs i ≡ Some x → slice_get (take k xs) i ≡ Some x
take_get [] zero i x l e = absurd (none-some x e)
take_get [] (suc k) i x l e = absurd (none-some x e)
take_get (y ∷ xs) zero i x l e = absurd (omega arith)
take_get (y ∷ xs) (suc k) zero x l e = e
take_get (y ∷ xs) (suc k) (suc i) x l e = take_get xs k i x (omega arith) e

-- what is known after some modules is known after all
pub kept_take : (ms : List Module) (f : Facts) (k : ℕ) (z : Name) (x : Interface) → interface_named (after after_module f (take k ms)).modules z ≡ Some x
    → interface_named (after after_module f ms).modules z ≡ Some x
kept_take [] f zero z x e = e
kept_take [] f (suc k) z x e = e
kept_take (m ∷ ms) f zero z x e = modules_kept (m ∷ ms) f z x e
kept_take (m ∷ ms) f (suc k) z x e = kept_take ms (after_module f m) k z x e

module _ (whole : Facts) where
  here : (m : Module) (ms : List Module) (f : Facts) → IsModule whole f m → interface_named (after after_module (after_module f m) ms).modules m.name
      ≡ Some (interface_of f.modules m)
  here m ms f is =
      modules_kept ms (after_module f m) m.name (interface_of f.modules m)
      (named_back f.modules (interface_of f.modules m ∷ []) m.name (none_of (interface_named f.modules m.name) is.new)
      ∙ ap (λ b. if b then Some (interface_of f.modules m) else None) ((bytes_eq-Decides m.name m.name).1 refl))

  -- a module is the one of its name
  pub own : (ms : List Module) (f : Facts) (k : ℕ) (t : Module) → EachAfter (IsModule whole) after_module f ms → slice_get ms k ≡ Some t
      → interface_named (after after_module f ms).modules t.name ≡ Some (interface_of (after after_module f (take k ms)).modules t)
  own [] f k t each e = absurd (none-some t e)
  own (m ∷ ms) f zero t each e =
      subst (λ (y : Module). interface_named (after after_module (after_module f m) ms).modules y.name ≡ Some (interface_of f.modules y)) (same_Some m t e) (here m ms f each.0)
  own (m ∷ ms) f (suc k) t each e = own ms (after_module f m) k t each.1 e

  module _ (ms : List Module) (each : EachAfter (IsModule whole) after_module nothing ms) where
    not_later : (i j : ℕ) (t u : Module) → slice_get ms i ≡ Some t → slice_get ms j ≡ Some u → t.name ≡ u.name → i < j → ⊥
    not_later i j t u e g same l =
        let there = own (take j ms) nothing i t (each_take (IsModule whole) after_module nothing ms j each) (take_get ms j i t l e) in
        let none = none_of (interface_named (after after_module nothing (take j ms)).modules u.name) (each_at (IsModule whole) after_module nothing ms j u each g).new in
        none-some _ (sym none ∙ ap (interface_named (after after_module nothing (take j ms)).modules) (sym same) ∙ there)

    -- no two modules have one name
    pub names_apart : (i j : ℕ) (t u : Module) → slice_get ms i ≡ Some t → slice_get ms j ≡ Some u → t.name ≡ u.name → i ≡ j
    names_apart i j t u e g same = elim (cases_order i j) [
      | inl q ↦ q
      | inr p ↦ elim p [ inl l ↦ absurd (not_later i j t u e g same l) | inr l ↦ absurd (not_later j i u t g e (sym same) l) ]
    ]
