-- The module of an instance stands earlier in the text, and at the same place in the netlist.
use Rattle.std.proofs.Common.{◌≡◌, ℕ, zero, suc, ◌+◌, ◌<◌, List, [], ◌∷◌, ◌++◌, Bool, true, false, cond, Some, None, refl, sym, ap, ◌∙◌, take, append_assoc, arith}
use Rattle.std.specs.Prelude.{not, slice_get, if◌then◌else◌}
use Rattle.std.specs.Str.{bytes_eq}
use Rattle.std.proofs.lemmas.Option.{same_Some, none-some}
use Rattle.std.proofs.lemmas.List.{append-nil}
use Rattle.std.proofs.lemmas.Slice.Eq.{bytes_eq-Decides}
use Rattle.verilog_tree.specs.declared.tree.Module.{Module}
use Rattle.verilog_tree.specs.Scope.{Name}
use Rattle.verilog_tree.specs.Facts.{Facts, Interface, interface_named, interface_of, after, after_module}
use Rattle.netlist.specs.declared.netlist.Module as netlist_module
use Rattle.netlist.specs.NetlistOf as n
use Rattle.netlist.specs.NetlistOf.{place}
use Rattle.netlist_text.proofs.NetFormed.{named_front, named_back}

-- ---- interfaces by name

-- what is known of a module stays known
pub modules_kept : (ms : List Module) (f : Facts) (z : Name) (x : Interface) → interface_named f.modules z ≡ Some x → interface_named (after after_module f ms).modules z ≡ Some x
modules_kept [] f z x e = e
modules_kept (m ∷ ms) f z x e = modules_kept ms (after_module f m) z x (named_front f.modules (interface_of f.modules m ∷ []) z x e)

-- the module of a name, and what instances of it see
pub record IsEarlier (f : Facts) (ms : List Module) (z : Name) (x : Interface) : Type 0 where
  pub number : ℕ
  pub place_is : place (n.module_names ms) z ≡ number
  pub of : Module
  pub listed : slice_get ms number ≡ Some of
  pub name : z ≡ of.name
  pub is : x ≡ interface_of (after after_module f (take number ms)).modules of

module _ (m : Module) (ms : List Module) (f : Facts) (z : Name) (x : Interface) where
  abbrev mine : Interface
  mine = interface_of f.modules m

  place_at : (b : Bool) → bytes_eq z m.name ≡ b → place (n.module_names (m ∷ ms)) z ≡ cond (not b) (1 + place (n.module_names ms) z) 0
  place_at b e = ap (λ t. cond (not t) (1 + place (n.module_names ms) z) 0) e

  earlier_by : interface_named f.modules z ≡ None → interface_named (after after_module (after_module f m) ms).modules z ≡ Some x → (b : Bool) → bytes_eq z m.name ≡ b
      → (interface_named (f.modules ++ mine ∷ []) z ≡ None → IsEarlier (after_module f m) ms z x) → IsEarlier f (m ∷ ms) z x
  earlier_by none e true q next =
      let here : interface_named (f.modules ++ mine ∷ []) z ≡ Some mine = named_back f.modules (mine ∷ []) z none ∙ ap (λ b. if b then Some mine else None) q in
      record {
        number = 0;
        place_is = place_at true q;
        of = m;
        listed = refl;
        name = (bytes_eq-Decides z m.name).0 q;
        is = same_Some x mine (sym e ∙ modules_kept ms (after_module f m) z mine here);
      }
  earlier_by none e false q next =
      let r = next (named_back f.modules (mine ∷ []) z none ∙ ap (λ b. if b then Some mine else None) q) in
      let number_is = r.place_is in
      let step : 1 + place (n.module_names ms) z ≡ suc r.number = omega (arith, number_is) in
      record { number = suc r.number; place_is = place_at false q ∙ step; of = r.of; listed = r.listed; name = r.name; is = r.is }

pub earlier : (ms : List Module) (f : Facts) (z : Name) (x : Interface) → interface_named f.modules z ≡ None → interface_named (after after_module f ms).modules z ≡ Some x →
    IsEarlier f ms z x
earlier [] f z x none e = absurd (none-some x (sym none ∙ e))
earlier (m ∷ ms) f z x none e =
    earlier_by m ms f z x none e (bytes_eq z m.name) refl (λ none_too. earlier ms (after_module f m) z x none_too e)

-- ---- modules of the netlist

-- a module of the netlist is that of a module of the text
pub record IsTold (before ms : List Module) (k : ℕ) (m : netlist_module.Module) : Type 0 where
  pub text : Module
  pub listed : slice_get ms k ≡ Some text
  pub is : m ≡ n.module_of (before ++ take k ms) text

pub told_module : (ms before : List Module) (k : ℕ) (m : netlist_module.Module) → slice_get (n.modules_of before ms) k ≡ Some m → IsTold before ms k m
told_module [] before k m e = absurd (none-some m e)
told_module (t ∷ ms) before zero m e =
    record { text = t; listed = refl; is = sym (same_Some (n.module_of before t) m e) ∙ ap (λ (l : List Module). n.module_of l t) (sym (append-nil before)) }
told_module (t ∷ ms) before (suc k) m e =
    let r = told_module ms (before ++ t ∷ []) k m e in
    record { text = r.text; listed = r.listed; is = r.is ∙ ap (λ (l : List Module). n.module_of l r.text) (append_assoc before (t ∷ []) (take k ms)) }

pub module_there : (ms before : List Module) (k : ℕ) (t : Module) → slice_get ms k ≡ Some t → slice_get (n.modules_of before ms) k ≡ Some (n.module_of (before ++ take k ms) t)
module_there [] before k t e = absurd (none-some t e)
module_there (m ∷ ms) before zero t e =
    ap (λ (z : Module). Some (n.module_of before z)) (same_Some m t e) ∙ ap (λ (l : List Module). Some (n.module_of l t)) (sym (append-nil before))
module_there (m ∷ ms) before (suc k) t e =
    module_there ms (before ++ m ∷ []) k t e ∙ ap (λ (l : List Module). Some (n.module_of l t)) (append_assoc before (m ∷ []) (take k ms))

pub take_take : {A : Type 0} (xs : List A) (j k : ℕ) → j < k → take j (take k xs) ≡ take j xs
take_take [] zero zero l = refl
take_take [] zero (suc k) l = refl
take_take [] (suc j) zero l = absurd (omega arith)
take_take [] (suc j) (suc k) l = refl
take_take (x ∷ xs) zero zero l = refl
take_take (x ∷ xs) zero (suc k) l = refl
take_take (x ∷ xs) (suc j) zero l = absurd (omega arith)
take_take (x ∷ xs) (suc j) (suc k) l = ap (λ t. x ∷ t) (take_take xs j k (omega arith))
