-- What the names of a well-formed module are declared as: each declaration stands, and each name is declared by a port or an item.
use Rattle.std.proofs.Common.{◌≡◌, ℕ, zero, suc, ◌⊎◌, List, [], ◌∷◌, ◌++◌, Bool, true, false, Option, Some, None, refl, sym, ap, ◌∙◌, subst, inl, inr, take}
use Rattle.std.specs.Prelude.{◌||◌, slice_get, is_some, if◌then◌else◌}
use Rattle.std.specs.Str.{bytes_eq}
use Rattle.std.proofs.lemmas.Option.{same_Some, none-some}
use Rattle.std.proofs.lemmas.Bool.{or_parts, not-true}
use Rattle.std.proofs.lemmas.Slice.Eq.{bytes_eq-Decides}
use Rattle.verilog_tree.specs.declared.kind.Kind.{Kind}
use Rattle.verilog_tree.specs.declared.tree.Port.{Port}
use Rattle.verilog_tree.specs.declared.tree.Item.{Item}
use Rattle.verilog_tree.specs.declared.tree.Module.{Module}
use Rattle.verilog_tree.specs.Scope.{Name, Scope, kind_of, is_clk, is_declared, declaration, port_declaration}
use Rattle.verilog_tree.specs.Facts.{Facts, after, after_port, after_item, with_declaration, after_declaration, head_facts, port_facts, module_facts}
use Rattle.verilog_tree.specs.WellFormed.{IsItem, IsPort, IsModule, is_new_declaration}
use Rattle.netlist_text.proofs.Members.{Entry}
use Rattle.well_formed_net.proofs.Lists.{each_at}

-- ---- one declaration more

kept_by : (x : Entry) (s t : Scope) (z : Name) (k : Kind) → (kind_of s z ≡ Some k → kind_of (s ++ t) z ≡ Some k) → (b : Bool) → (if b then Some x.1 else kind_of s z) ≡ Some k
    → (if b then Some x.1 else kind_of (s ++ t) z) ≡ Some k
kept_by x s t z k next true e = e
kept_by x s t z k next false e = next e

append_kept : (s t : Scope) (z : Name) (k : Kind) → kind_of s z ≡ Some k → kind_of (s ++ t) z ≡ Some k
append_kept [] t z k e = absurd (none-some k e)
append_kept (x ∷ s) t z k e = kept_by x s t z k (append_kept s t z k) (bytes_eq z x.0) e

append_by : (x : Entry) (s : Scope) (d : Entry) → (is_some (kind_of s d.0) ≡ false → kind_of (s ++ d ∷ []) d.0 ≡ Some d.1) → (b : Bool)
    → is_some (if b then Some x.1 else kind_of s d.0) ≡ false → (if b then Some x.1 else kind_of (s ++ d ∷ []) d.0) ≡ Some d.1
append_by x s d next true e = absurd (cc)
append_by x s d next false e = next e

append_comes : (s : Scope) (d : Entry) → is_declared s d.0 ≡ false → kind_of (s ++ d ∷ []) d.0 ≡ Some d.1
append_comes [] d e = ap (λ b. if b then Some d.1 else None) ((bytes_eq-Decides d.0 d.0).1 refl)
append_comes (x ∷ s) d e = append_by x s d (append_comes s d) (bytes_eq d.0 x.0) e

-- the name has this kind before, or by a new declaration
abbrev IsFrom : Scope → Entry → Name → Kind → Type 0
IsFrom s d z k = (kind_of s z ≡ Some k) ⊎ ((d.0 ≡ z) × (d.1 ≡ k))

one_by : (d : Entry) (z : Name) (k : Kind) (b : Bool) → bytes_eq z d.0 ≡ b → (if b then Some d.1 else None) ≡ Some k → (d.0 ≡ z) × (d.1 ≡ k)
one_by d z k true q e = (sym ((bytes_eq-Decides z d.0).0 q), same_Some d.1 k e)
one_by d z k false q e = absurd (none-some k e)

from_by : (x : Entry) (s : Scope) (d : Entry) (z : Name) (k : Kind) → (kind_of (s ++ d ∷ []) z ≡ Some k → IsFrom s d z k) → (b : Bool)
    → (if b then Some x.1 else kind_of (s ++ d ∷ []) z) ≡ Some k → ((if b then Some x.1 else kind_of s z) ≡ Some k) ⊎ ((d.0 ≡ z) × (d.1 ≡ k))
from_by x s d z k next true e = inl e
from_by x s d z k next false e = next e

append_from : (s : Scope) (d : Entry) (z : Name) (k : Kind) → kind_of (s ++ d ∷ []) z ≡ Some k → IsFrom s d z k
append_from [] d z k e = inr (one_by d z k (bytes_eq z d.0) refl e)
append_from (x ∷ s) d z k e = from_by x s d z k (append_from s d z k) (bytes_eq z x.0) e

with_kept : (b : Bool) (s : Scope) (d : Entry) (z : Name) (k : Kind) → kind_of s z ≡ Some k → kind_of (if b then s else s ++ d ∷ []) z ≡ Some k
with_kept true s d z k e = e
with_kept false s d z k e = append_kept s (d ∷ []) z k e

with_from : (b : Bool) (s : Scope) (d : Entry) (z : Name) (k : Kind) → kind_of (if b then s else s ++ d ∷ []) z ≡ Some k → IsFrom s d z k
with_from true s d z k e = inl e
with_from false s d z k e = append_from s d z k e

pub with_comes : (s : Scope) (d : Entry) → is_declared s d.0 ≡ false → kind_of (with_declaration s d) d.0 ≡ Some d.1
with_comes s d e = ap (λ b. kind_of (if b then s else s ++ d ∷ []) d.0) e ∙ append_comes s d e

pub after_kept : (o : Option Entry) (s : Scope) (z : Name) (k : Kind) → kind_of s z ≡ Some k → kind_of (after_declaration s o) z ≡ Some k
after_kept None s z k e = e
after_kept (Some d) s z k e = with_kept (is_declared s d.0) s d z k e

-- ---- one after the other

module _ {A : Type 0} (step : Facts → A → Facts) (declares : A → Option Entry) (is : (f : Facts) (x : A) → (step f x).scope ≡ after_declaration f.scope (declares x)) where
  -- one of a list declares a name as this kind
  record Declares (xs : List A) (z : Name) (k : Kind) : Type 0 where
    pub at : ℕ
    pub x : A
    pub found : slice_get xs at ≡ Some x
    pub entry : Entry
    pub declared : declares x ≡ Some entry
    pub name : entry.0 ≡ z
    pub kind : entry.1 ≡ k

  stays : (xs : List A) (f : Facts) (z : Name) (k : Kind) → kind_of f.scope z ≡ Some k → kind_of (after step f xs).scope z ≡ Some k
  stays [] f z k e = e
  stays (x ∷ xs) f z k e = stays xs (step f x) z k (subst (λ (s : Scope). kind_of s z ≡ Some k) (sym (is f x)) (after_kept (declares x) f.scope z k e))

  comes : (xs : List A) (f : Facts) (j : ℕ) (x : A) (d : Entry) → slice_get xs j ≡ Some x → declares x ≡ Some d → is_declared (after step f (take j xs)).scope d.0 ≡ false
      → kind_of (after step f xs).scope d.0 ≡ Some d.1
  comes [] f j x d e q new = absurd (none-some x e)
  comes (y ∷ xs) f zero x d e q new =
      let there : (step f y).scope ≡ with_declaration f.scope d = is f y ∙ ap (λ t. after_declaration f.scope (declares t)) (same_Some y x e) ∙ ap (after_declaration f.scope) q in
      stays xs (step f y) d.0 d.1 (subst (λ (s : Scope). kind_of s d.0 ≡ Some d.1) (sym there) (with_comes f.scope d new))
  comes (y ∷ xs) f (suc j) x d e q new = comes xs (step f y) j x d e q new

  here_by : (y : A) (xs : List A) (o : Option Entry) (s : Scope) (z : Name) (k : Kind) → declares y ≡ o → kind_of (after_declaration s o) z ≡ Some k
      → (kind_of s z ≡ Some k) ⊎ Declares (y ∷ xs) z k
  here_by y xs None s z k q e = inl e
  here_by y xs (Some d) s z k q e = elim (with_from (is_declared s d.0) s d z k e) [
    | inl p ↦ inl p
    | inr p ↦ inr (record { at = 0; x = y; found = refl; entry = d; declared = q; name = p.0; kind = p.1 })
  ]

  comes_from : (xs : List A) (f : Facts) (z : Name) (k : Kind) → kind_of (after step f xs).scope z ≡ Some k → (kind_of f.scope z ≡ Some k) ⊎ Declares xs z k
  comes_from [] f z k e = inl e
  comes_from (y ∷ xs) f z k e = elim (comes_from xs (step f y) z k e) [
    | inl p ↦ here_by y xs (declares y) f.scope z k refl (subst (λ (s : Scope). kind_of s z ≡ Some k) (is f y) p)
    | inr p ↦ inr (record { at = suc p.at; x = p.x; found = p.found; entry = p.entry; declared = p.declared; name = p.name; kind = p.kind })
  ]

abbrev pub of_port : Port → Option Entry
of_port p = Some (port_declaration p)

port_step : (f : Facts) (p : Port) → (after_port f p).scope ≡ after_declaration f.scope (of_port p)
port_step f p = refl

item_step : (f : Facts) (x : Item) → (after_item f x).scope ≡ after_declaration f.scope (declaration x)
item_step f x = refl

-- ---- of a module

-- a port or an item declares a name as this kind
pub record IsPortNamed (m : Module) (z : Name) (k : Kind) : Type 0 where
  pub at : ℕ
  pub port : Port
  pub found : slice_get m.ports at ≡ Some port
  pub name : port.name ≡ z
  pub kind : (port_declaration port).1 ≡ k

pub record IsItemNamed (m : Module) (z : Name) (k : Kind) : Type 0 where
  pub at : ℕ
  pub item : Item
  pub found : slice_get m.items at ≡ Some item
  pub entry : Entry
  pub declared : declaration item ≡ Some entry
  pub name : entry.0 ≡ z
  pub kind : entry.1 ≡ k

pub new_by : (s : Scope) (o : Option Entry) (d : Entry) → o ≡ Some d → is_new_declaration s o ≡ true → (is_declared s d.0 ≡ false) × (is_clk d.0 ≡ false)
new_by s o d e h = or_parts (is_declared s d.0) (is_clk d.0) (not-true (is_declared s d.0 || is_clk d.0) (subst (λ (t : Option Entry). is_new_declaration s t ≡ true) e h))

module _ (whole f : Facts) (m : Module) (is : IsModule whole f m) where
  abbrev pub all : Facts
  all = module_facts f m

  pub port_is : (at : ℕ) (p : Port) → slice_get m.ports at ≡ Some p → IsPort all (after after_port (head_facts f) (take at m.ports)) p
  port_is at p e = each_at (IsPort all) after_port (head_facts f) m.ports at p is.ports e

  pub item_is : (at : ℕ) (x : Item) → slice_get m.items at ≡ Some x → IsItem all (after after_item (port_facts f m) (take at m.items)) x
  item_is at x e = each_at (IsItem all) after_item (port_facts f m) m.items at x is.items e

  pub port_kind : (at : ℕ) (p : Port) → slice_get m.ports at ≡ Some p → kind_of all.scope p.name ≡ Some (port_declaration p).1
  port_kind at p e =
      stays after_item declaration item_step m.items (port_facts f m) p.name (port_declaration p).1
      (comes after_port of_port port_step m.ports (head_facts f) at p (port_declaration p) e refl (port_is at p e).new)

  pub item_kind : (at : ℕ) (x : Item) (d : Entry) → slice_get m.items at ≡ Some x → declaration x ≡ Some d → (kind_of all.scope d.0 ≡ Some d.1) × (is_clk d.0 ≡ false)
  item_kind at x d e q =
      let new = new_by (after after_item (port_facts f m) (take at m.items)).scope (declaration x) d q (item_is at x e).new in
      (comes after_item declaration item_step m.items (port_facts f m) at x d e q new.0, new.1)

  pub kind_named : (z : Name) (k : Kind) → kind_of all.scope z ≡ Some k → IsPortNamed m z k ⊎ IsItemNamed m z k
  kind_named z k e = elim (comes_from after_item declaration item_step m.items (port_facts f m) z k e) [
    | inl p ↦ elim (comes_from after_port of_port port_step m.ports (head_facts f) z k p) [
      | inl q ↦ absurd (none-some k q)
      | inr q ↦ (let same : port_declaration q.x ≡ q.entry = same_Some (port_declaration q.x) q.entry q.declared in
          inl (record { at = q.at; port = q.x; found = q.found; name = ap (λ (d : Entry). d.0) same ∙ q.name; kind = ap (λ (d : Entry). d.1) same ∙ q.kind }))
    ]
    | inr q ↦ inr (record { at = q.at; item = q.x; found = q.found; entry = q.entry; declared = q.declared; name = q.name; kind = q.kind })
  ]
