-- A module in or below which a $write stands, `top` aside, has one instance at most.
use Rattle.std.proofs.Common.{◌≡◌, ℕ, zero, suc, List, [], ◌∷◌, ◌++◌, Bool, true, false, Option, Some, None, refl, sym, ap, ◌∙◌, subst, inl, inr, take}
use Rattle.std.specs.Prelude.{◌&&◌, slice_get, if◌then◌else◌}
use Rattle.std.specs.List.{flat_map}
use Rattle.std.specs.Str.{bytes_eq}
use Rattle.std.proofs.lemmas.Slice.Eq.{bytes_eq-Decides}
use Rattle.std.proofs.lemmas.Option.{same_Some, none-some}
use Rattle.std.proofs.lemmas.Bool.{not-true}
use Rattle.verilog_tree.specs.declared.tree.Instance.{Instance}
use Rattle.verilog_tree.specs.declared.tree.Item.{Item}
use Rattle.verilog_tree.specs.declared.tree.Item.TheVariants as i
use Rattle.verilog_tree.specs.declared.tree.Module.{Module}
use Rattle.verilog_tree.specs.Scope.{Name, Names, is_known}
use Rattle.verilog_tree.specs.Facts.{Facts, Interface, places_printer, module_of, with_name, after_module_name, after, after_item, after_module, port_facts, module_facts}
use Rattle.verilog_tree.specs.WellFormed.{EachAfter, IsItem, IsModule, is_new_printer}
use Rattle.netlist.specs.NetlistOf as n
use Rattle.netlist_text.proofs.Members.{In, in_first, in_front, in_back, in_flat, in_holds, is_known_in, in_after}
use Rattle.netlist_text.proofs.Grown.{module_places, item_modules, module_placed, port_facts_are}
use Rattle.well_formed_net.proofs.Tests.{both, second_false}
use Rattle.well_formed_net.proofs.Drivers.{instance_is, instance_at}

abbrev instances : List Item → List Instance
instances xs = flat_map (λ (x : Item). n.some (n.instance_item x)) xs

-- ---- names that are known

known_by : (names : Names) (y z : Name) (b : Bool) → In names z → In (if b then names else names ++ y ∷ []) z
known_by names y z true h = h
known_by names y z false h = in_front names (y ∷ []) z h

comes_by : (names : Names) (y : Name) (b : Bool) → is_known names y ≡ b → In (if b then names else names ++ y ∷ []) y
comes_by names y true e = is_known_in names y e
comes_by names y false e = in_back names (y ∷ []) y (in_first y [])

stays : (names : Names) (o : Option Name) (z : Name) → In names z → In (after_module_name names o) z
stays names None z h = h
stays names (Some y) z h = known_by names y z (is_known names y) h

-- what is not known later was not known before
not_known : (names more : Names) (z : Name) → (In names z → In more z) → is_known more z ≡ false → is_known names z ≡ false
not_known names more z keeps h = by (is_known names z) refl where
  by : (b : Bool) → is_known names z ≡ b → b ≡ false
  by true e = both h (in_holds bytes_eq bytes_eq-Decides more z (keeps (is_known_in names z e)))
  by false e = refl

-- P z: a $write stands in or below the module of this name
module _ (P : Name → Type 0) where
  -- those of a list with P are not known, and no two have one name
  record AreOnce (placed : Names) (ts : List Instance) : Type 0 where
    pub new : (j : ℕ) (t : Instance) → slice_get ts j ≡ Some t → P t.module_name → is_known placed t.module_name ≡ false
    pub one : (j l : ℕ) (t u : Instance) → slice_get ts j ≡ Some t → slice_get ts l ≡ Some u → t.module_name ≡ u.module_name → P t.module_name → j ≡ l

  -- an instance before others
  module _ (placed : Names) (t : Instance) (ts : List Instance) (first : P t.module_name → is_known placed t.module_name ≡ false)
      (rest : AreOnce (with_name placed t.module_name) ts) where
    there : In (with_name placed t.module_name) t.module_name
    there = comes_by placed t.module_name (is_known placed t.module_name) refl

    not_again : (l : ℕ) (u : Instance) → slice_get ts l ≡ Some u → t.module_name ≡ u.module_name → P u.module_name → ⊥
    not_again l u e same p =
        both (rest.new l u e p)
        (in_holds bytes_eq bytes_eq-Decides (with_name placed t.module_name) u.module_name (subst (In (with_name placed t.module_name)) same there))

    new_of : (j : ℕ) (u : Instance) → slice_get (t ∷ ts) j ≡ Some u → P u.module_name → is_known placed u.module_name ≡ false
    new_of zero u e p =
        let same : t ≡ u = same_Some t u e in
        subst (λ (y : Instance). is_known placed y.module_name ≡ false) same (first (subst (λ (y : Instance). P y.module_name) (sym same) p))
    new_of (suc j) u e p =
        not_known placed (with_name placed t.module_name) u.module_name (known_by placed t.module_name u.module_name (is_known placed t.module_name)) (rest.new j u e p)

    one_of : (j l : ℕ) (u v : Instance) → slice_get (t ∷ ts) j ≡ Some u → slice_get (t ∷ ts) l ≡ Some v → u.module_name ≡ v.module_name → P u.module_name → j ≡ l
    one_of zero zero u v e g same p = refl
    one_of zero (suc l) u v e g same p =
        absurd (not_again l v g (ap (λ (y : Instance). y.module_name) (same_Some t u e) ∙ same) (subst P same p))
    one_of (suc j) zero u v e g same p =
        absurd (not_again j u e (ap (λ (y : Instance). y.module_name) (same_Some t v g) ∙ sym same) p)
    one_of (suc j) (suc l) u v e g same p = ap suc (rest.one j l u v e g same p)

    one_more : AreOnce placed (t ∷ ts)
    one_more = record { new = new_of; one = one_of }

  -- ---- the items of a module

  items_by : (all f : Facts) (x : Item) (xs : List Item) → IsItem all f x → ((t : Instance) → In (instances (x ∷ xs)) t → P t.module_name →
      places_printer f.modules (i.Instance t) ≡ true)
      → AreOnce (after_module_name f.placed (module_of x)) (instances xs) → (o : Option Instance) → n.instance_item x ≡ o → AreOnce f.placed (n.some o ++ instances xs)
  items_by all f x xs is prints rest None e = record {
    new = λ j t q p. not_known f.placed (after_module_name f.placed (module_of x)) t.module_name (stays f.placed (module_of x) t.module_name) (rest.new j t q p);
    one = rest.one;
  }
  items_by all f x xs is prints rest (Some t) e =
      let same : x ≡ i.Instance t = instance_is x t e in
      let placed : after_module_name f.placed (module_of x) ≡ with_name f.placed t.module_name = ap (λ (y : Item). after_module_name f.placed (module_of y)) same in
      let printer : is_new_printer f (i.Instance t) ≡ true = subst (λ (y : Item). is_new_printer f y ≡ true) same is.printer in
      let held : In (instances (x ∷ xs)) t = in_front (n.some (n.instance_item x)) (instances xs) t (subst (λ (y : Option Instance). In (n.some y) t) (sym e) (in_first t [])) in
      one_more f.placed t (instances xs)
      (λ p. second_false (places_printer f.modules (i.Instance t)) (is_known f.placed t.module_name)
      (not-true (places_printer f.modules (i.Instance t) && is_known f.placed t.module_name) printer) (prints t held p))
      (subst (λ (names : Names). AreOnce names (instances xs)) placed rest)

  items_once : (all f : Facts) (xs : List Item) → EachAfter (IsItem all) after_item f xs
      → ((t : Instance) → In (instances xs) t → P t.module_name → places_printer f.modules (i.Instance t) ≡ true) → AreOnce f.placed (instances xs)
  items_once all f [] each prints = record { new = λ j t e p. absurd (none-some t e); one = λ j l t u e g same p. absurd (none-some t e) }
  items_once all f (x ∷ xs) each prints =
      items_by all f x xs each.0 prints
      (items_once all (after_item f x) xs each.1 (λ t h p. prints t (in_back (n.some (n.instance_item x)) (instances xs) t h) p)) (n.instance_item x) refl

  -- ---- the modules of a text

  module _ (whole : Facts) where
    -- where instances of the modules with P stand
    record AreAllOnce (placed : Names) (ms : List Module) : Type 0 where
      pub new : (k j : ℕ) (m : Module) (t : Instance) → slice_get ms k ≡ Some m → slice_get (n.instance_items m) j ≡ Some t → P t.module_name →
          is_known placed t.module_name ≡ false
      pub one : (k o j l : ℕ) (m w : Module) (t u : Instance) → slice_get ms k ≡ Some m → slice_get ms o ≡ Some w → slice_get (n.instance_items m) j ≡ Some t
          → slice_get (n.instance_items w) l ≡ Some u → t.module_name ≡ u.module_name → P t.module_name → (k ≡ o) × (j ≡ l)

    placed_there : (f : Facts) (m : Module) (t : Instance) → In (n.instance_items m) t → In (after_module f m).placed t.module_name
    placed_there f m t h =
        let a = instance_at m t h in
        subst (λ (names : Names). In names t.module_name) (sym (module_placed f m))
        (in_after bytes_eq bytes_eq-Decides f.placed (module_places m) t.module_name
        (inr (in_flat item_modules m.items a.at (i.Instance t) t.module_name a.found (in_first t.module_name []))))

    placed_stays : (f : Facts) (m : Module) (z : Name) → In f.placed z → In (after_module f m).placed z
    placed_stays f m z h =
        subst (λ (names : Names). In names z) (sym (module_placed f m)) (in_after bytes_eq bytes_eq-Decides f.placed (module_places m) z (inl h))

    module _ (f : Facts) (m : Module) (ms : List Module) (first : AreOnce f.placed (n.instance_items m)) (rest : AreAllOnce (after_module f m).placed ms) where
      new_all : (k j : ℕ) (w : Module) (t : Instance) → slice_get (m ∷ ms) k ≡ Some w → slice_get (n.instance_items w) j ≡ Some t → P t.module_name →
          is_known f.placed t.module_name ≡ false
      new_all zero j w t e q p = first.new j t (ap (λ (y : Module). slice_get (n.instance_items y) j) (same_Some m w e) ∙ q) p
      new_all (suc k) j w t e q p = not_known f.placed (after_module f m).placed t.module_name (placed_stays f m t.module_name) (rest.new k j w t e q p)

      not_later : (k j l : ℕ) (w : Module) (t u : Instance) → slice_get (n.instance_items m) j ≡ Some t → slice_get ms k ≡ Some w → slice_get (n.instance_items w) l ≡ Some u
          → t.module_name ≡ u.module_name → P u.module_name → ⊥
      not_later k j l w t u q e g same p =
          both (rest.new k l w u e g p)
          (in_holds bytes_eq bytes_eq-Decides (after_module f m).placed u.module_name
          (subst (In (after_module f m).placed) same (placed_there f m t (record { at = j; found = q }))))

      one_all : (k o j l : ℕ) (v w : Module) (t u : Instance) → slice_get (m ∷ ms) k ≡ Some v → slice_get (m ∷ ms) o ≡ Some w → slice_get (n.instance_items v) j ≡ Some t
          → slice_get (n.instance_items w) l ≡ Some u → t.module_name ≡ u.module_name → P t.module_name → (k ≡ o) × (j ≡ l)
      one_all zero zero j l v w t u e g q r same p = (
        refl,
        first.one j l t u (ap (λ (y : Module). slice_get (n.instance_items y) j) (same_Some m v e) ∙ q)
            (ap (λ (y : Module). slice_get (n.instance_items y) l) (same_Some m w g) ∙ r) same p,
      )
      one_all zero (suc o) j l v w t u e g q r same p =
          absurd (not_later o j l w t u (ap (λ (y : Module). slice_get (n.instance_items y) j) (same_Some m v e) ∙ q) g r same (subst P same p))
      one_all (suc k) zero j l v w t u e g q r same p =
          absurd (not_later k l j v u t (ap (λ (y : Module). slice_get (n.instance_items y) l) (same_Some m w g) ∙ r) e q (sym same) p)
      one_all (suc k) (suc o) j l v w t u e g q r same p = let x = rest.one k o j l v w t u e g q r same p in (ap suc x.0, x.1)

    -- P of an instance's module is seen where the instance stands
    abbrev pub Sees : Facts → List Module → Type 0
    Sees f ms = (k : ℕ) (m : Module) (t : Instance) → slice_get ms k ≡ Some m → In (n.instance_items m) t → P t.module_name
        → places_printer (after after_module f (take k ms)).modules (i.Instance t) ≡ true

    all_once : (ms : List Module) (f : Facts) → EachAfter (IsModule whole) after_module f ms → Sees f ms → AreAllOnce f.placed ms
    all_once [] f each sees = record { new = λ k j m t e q p. absurd (none-some m e); one = λ k o j l m w t u e g q r same p. absurd (none-some m e) }
    all_once (m ∷ ms) f each sees =
        let ports : (port_facts f m).placed ≡ f.placed = ap (λ (g : Facts). g.placed) (port_facts_are f m) in
        let modules : (port_facts f m).modules ≡ f.modules = ap (λ (g : Facts). g.modules) (port_facts_are f m) in
        let first = items_once (module_facts f m) (port_facts f m) m.items each.0.items
        (λ t h p. subst (λ (ys : List Interface). places_printer ys (i.Instance t) ≡ true) (sym modules) (sees 0 m t refl h p)) in
        let rest = all_once ms (after_module f m) each.1 (λ k w t e h p. sees (suc k) w t e h p) in
        let mine = subst (λ (names : Names). AreOnce names (n.instance_items m)) ports first in
        record { new = new_all f m ms mine rest; one = one_all f m ms mine rest }

    -- two instances of such a module are one
    pub one_instance : (ms : List Module) (f : Facts) → EachAfter (IsModule whole) after_module f ms → Sees f ms → (k o j l : ℕ) (m w : Module) (t u : Instance) →
        slice_get ms k ≡ Some m
        → slice_get ms o ≡ Some w → slice_get (n.instance_items m) j ≡ Some t → slice_get (n.instance_items w) l ≡ Some u → t.module_name ≡ u.module_name → P t.module_name
        → (k ≡ o) × (j ≡ l)
    one_instance ms f each sees = (all_once ms f each sees).one
