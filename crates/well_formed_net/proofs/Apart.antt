-- The names of a well-formed module's signals stand apart, and so do those of its memories and of its instances.
use Rattle.std.proofs.Common.{◌≡◌, ℕ, zero, suc, inl, inr, List, [], ◌∷◌, ◌++◌, Bool, true, false, Option, Some, None, refl, sym, ap, ◌∙◌, subst, map, arith}
use Rattle.std.specs.Prelude.{is_some, option_map, if◌then◌else◌}
use Rattle.std.specs.List.{flat_map}
use Rattle.std.proofs.lemmas.List.{map-append}
use Rattle.std.proofs.lemmas.Option.{same_Some, none-some}
use Rattle.verilog_tree.specs.declared.kind.SignalClass.{SignalClass}
use Rattle.verilog_tree.specs.declared.kind.SignalClass.TheVariants as class
use Rattle.verilog_tree.specs.declared.kind.Kind.{Kind}
use Rattle.verilog_tree.specs.declared.kind.Kind.TheVariants as kind
use Rattle.verilog_tree.specs.declared.tree.Direction.{Direction}
use Rattle.verilog_tree.specs.declared.tree.Direction.TheVariants as direction
use Rattle.verilog_tree.specs.declared.tree.Port.{Port}
use Rattle.verilog_tree.specs.declared.tree.Memory as text_memory
use Rattle.verilog_tree.specs.declared.tree.Instance.{Instance}
use Rattle.verilog_tree.specs.declared.tree.Item.{Item}
use Rattle.verilog_tree.specs.declared.tree.Item.TheVariants as i
use Rattle.verilog_tree.specs.declared.tree.Module.{Module}
use Rattle.verilog_tree.specs.Scope as scope
use Rattle.verilog_tree.specs.Scope.{Name, Scope, kind_of, is_clk, is_declared, signal, declaration, port_declaration}
use Rattle.verilog_tree.specs.Facts.{Facts, after_port, after_item, after_declaration, head_facts, port_facts, module_facts}
use Rattle.verilog_tree.specs.WellFormed.{EachAfter, IsItem, IsPort, IsModule}
use Rattle.netlist.specs.NetlistOf as n
use Rattle.netlist.specs.Laid.{AreApart}
use Rattle.netlist_text.proofs.Places.{get_either}
use Rattle.netlist_text.proofs.Members.{In, Entry, in_none, in_cons, in_one, in_front, in_back, in_either, in_unmap, in_unflat}
use Rattle.well_formed_net.proofs.Tests.{both}
use Rattle.well_formed_net.proofs.Lists.{some_in}
use Rattle.well_formed_net.proofs.Declarations.{new_by, with_comes, after_kept, of_port}
use Rattle.well_formed_net.proofs.Signals.{IsTold, told, told_kind, class_of, inner_declarations}

-- ---- names that stand apart

apart_cons : (z : Name) (xs : List Name) → (In xs z → ⊥) → AreApart xs → AreApart (z ∷ xs)
apart_cons z xs new apart zero zero x e f = refl
apart_cons z xs new apart zero (suc j) x e f = absurd (new (record { at = j; found = f ∙ sym e }))
apart_cons z xs new apart (suc k) zero x e f = absurd (new (record { at = k; found = e ∙ sym f }))
apart_cons z xs new apart (suc k) (suc j) x e f = ap suc (apart k j x e f)

apart_append : (xs ys : List Name) → AreApart xs → AreApart ys → ((z : Name) → In xs z → In ys z → ⊥) → AreApart (xs ++ ys)
apart_append xs ys front back none k j x e f = elim (get_either xs ys k x e) [
  | inl p ↦ elim (get_either xs ys j x f) [
    | inl q ↦ front k j x p q
    | inr q ↦ absurd (none x (record { at = k; found = p }) (record { at = q.at; found = q.found }))
  ]
  | inr p ↦ elim (get_either xs ys j x f) [
    | inl q ↦ absurd (none x (record { at = j; found = q }) (record { at = p.at; found = p.found }))
    | inr q ↦ (let same = back p.at q.at x p.found q.found in let a = p.is in let b = q.is in omega (arith, same, a, b))
  ]
]

-- ---- names that are new one after the other

not_by : (d : Option Entry) (s : Scope) (z : Name) (o : Option Kind) → kind_of s z ≡ o → is_declared (after_declaration s d) z ≡ false → is_some o ≡ false
not_by d s z None e h = refl
not_by d s z (Some k) e h = both h (ap is_some (after_kept d s z k e))

-- what is not declared after a declaration was not before
not_before : (d : Option Entry) (s : Scope) (z : Name) → is_declared (after_declaration s d) z ≡ false → is_declared s z ≡ false
not_before d s z h = not_by d s z (kind_of s z) refl h

module _ {A : Type 0} (step : Facts → A → Facts) (declares : A → Option Entry) (is : (f : Facts) (x : A) → (step f x).scope ≡ after_declaration f.scope (declares x))
    (P : Facts → A → Type 0) (new : (f : Facts) (x : A) (d : Entry) → P f x → declares x ≡ Some d → is_declared f.scope d.0 ≡ false)
    (g : A → Option Name) (named_as : (x : A) (z : Name) → g x ≡ Some z → (k : Kind) × (declares x ≡ Some (z, k))) where
  abbrev named : List A → List Name
  named xs = flat_map (λ (x : A). n.some (g x)) xs

  -- the names stand apart, and none is declared before
  abbrev AreNew : Scope → List Name → Type 0
  AreNew s names = AreApart names × ((z : Name) → In names z → is_declared s z ≡ false)

  before_step : (f : Facts) (x : A) (z : Name) → is_declared (step f x).scope z ≡ false → is_declared f.scope z ≡ false
  before_step f x z h = not_before (declares x) f.scope z (subst (λ (s : Scope). is_declared s z ≡ false) (is f x) h)

  new_here : (f : Facts) (x : A) (xs : List A) → P f x → AreNew (step f x).scope (named xs) → (o : Option Name) → g x ≡ o → AreNew f.scope (n.some o ++ named xs)
  new_here f x xs p rest None e = (rest.0, λ z h. before_step f x z (rest.1 z h))
  new_here f x xs p rest (Some y) e =
      let k = named_as x y e in
      let fresh : is_declared f.scope y ≡ false = new f x (y, k.0) p k.1 in
      let there : is_declared (step f x).scope y ≡ true =
      ap (λ s. is_declared s y) (is f x) ∙ ap (λ d. is_declared (after_declaration f.scope d) y) k.1 ∙ ap is_some (with_comes f.scope (y, k.0) fresh) in (
        apart_cons y (named xs) (λ h. both (rest.1 y h) there) rest.0,
        λ z h. elim (in_cons y z (named xs) h) [
          | inl q ↦ subst (λ (t : Name). is_declared f.scope t ≡ false) q fresh
          | inr q ↦ before_step f x z (rest.1 z q)
        ],
      )

  all_new : (f : Facts) (xs : List A) → EachAfter P step f xs → AreNew f.scope (named xs)
  all_new f [] each = (λ k j x e. absurd (none-some x e), λ z h. absurd (in_none z h))
  all_new f (x ∷ xs) each = new_here f x xs each.0 (all_new (step f x) xs each.1) (g x) refl

  apart_names : (f : Facts) (xs : List A) → EachAfter P step f xs → AreApart (named xs)
  apart_names f xs each = (all_new f xs each).0

-- ---- names of what a list has

map_some : {A B : Type 0} (h : A → B) (o : Option A) (ys : List A) → map h (n.some o ++ ys) ≡ n.some (option_map h o) ++ map h ys
map_some h None ys = refl
map_some h (Some a) ys = refl

map_flat : {A B C : Type 0} (h : B → C) (g : A → Option B) (xs : List A) → map h (flat_map (λ x. n.some (g x)) xs) ≡ flat_map (λ x. n.some (option_map h (g x))) xs
map_flat h g [] = refl
map_flat h g (x ∷ xs) = map_some h (g x) (flat_map (λ y. n.some (g y)) xs) ∙ ap (λ l. n.some (option_map h (g x)) ++ l) (map_flat h g xs)

abbrev name_of : n.Declaration → Name
name_of d = d.name

abbrev input_by : Direction → Port → Option n.Declaration
input_by direction.Input p = Some (n.declaration n.InputPort p)
input_by direction.Output p = None

abbrev output_by : Direction → Port → Option n.Declaration
output_by direction.Input p = None
output_by direction.Output p = Some (n.declaration n.OutputPort p)

input_one : (r : Direction) (p : Port) → n.input_port r p ≡ n.some (input_by r p)
input_one direction.Input p = refl
input_one direction.Output p = refl

output_one : (r : Direction) (p : Port) → n.output_port r p ≡ n.some (output_by r p)
output_one direction.Input p = refl
output_one direction.Output p = refl

inputs_are : (ps : List Port) → flat_map (λ (p : Port). n.input_port p.direction p) ps ≡ flat_map (λ (p : Port). n.some (input_by p.direction p)) ps
inputs_are [] = refl
inputs_are (p ∷ ps) =
    ap (λ l. l ++ flat_map (λ (q : Port). n.input_port q.direction q) ps) (input_one p.direction p) ∙ ap (λ l. n.some (input_by p.direction p) ++ l) (inputs_are ps)

outputs_are : (ps : List Port) → flat_map (λ (p : Port). n.output_port p.direction p) ps ≡ flat_map (λ (p : Port). n.some (output_by p.direction p)) ps
outputs_are [] = refl
outputs_are (p ∷ ps) =
    ap (λ l. l ++ flat_map (λ (q : Port). n.output_port q.direction q) ps) (output_one p.direction p) ∙ ap (λ l. n.some (output_by p.direction p) ++ l) (outputs_are ps)

input_named : (r : Direction) (p : Port) (z : Name) → option_map name_of (input_by r p) ≡ Some z → p.name ≡ z
input_named direction.Input p z e = same_Some p.name z e
input_named direction.Output p z e = absurd (none-some z e)

output_named : (r : Direction) (p : Port) (z : Name) → option_map name_of (output_by r p) ≡ Some z → p.name ≡ z
output_named direction.Input p z e = absurd (none-some z e)
output_named direction.Output p z e = same_Some p.name z e

-- which of the three parts of a module's signals a declaration stands in
abbrev part_of_class : SignalClass → ℕ
part_of_class class.Input = 0
part_of_class class.Wire = 1
part_of_class class.Register = 1
part_of_class class.Output = 2

abbrev part : n.Declaration → ℕ
part d = part_of_class (class_of d.kind)

abbrev part_of_kind : Kind → ℕ
part_of_kind (kind.Signal c w r) = part_of_class c
part_of_kind kind.Clock = 0
part_of_kind (kind.Memory w last) = 0
part_of_kind kind.Instance = 0

input_part : (r : Direction) (p : Port) (d : n.Declaration) → In (n.input_port r p) d → part d ≡ 0
input_part direction.Input p d h = ap part (sym (in_one _ d h))
input_part direction.Output p d h = absurd (in_none d h)

output_part : (r : Direction) (p : Port) (d : n.Declaration) → In (n.output_port r p) d → part d ≡ 2
output_part direction.Input p d h = absurd (in_none d h)
output_part direction.Output p d h = ap part (sym (in_one _ d h))

inner_part : (x : Item) (d : n.Declaration) → n.item_declaration x ≡ Some d → part d ≡ 1
inner_part (i.Wire y) d e = ap part (sym (same_Some _ d e))
inner_part (i.Register y) d e = ap part (sym (same_Some _ d e))
inner_part (i.Memory y) d e = absurd (none-some d e)
inner_part (i.Assign y) d e = absurd (none-some d e)
inner_part (i.Initial y) d e = absurd (none-some d e)
inner_part (i.Always y) d e = absurd (none-some d e)
inner_part (i.Instance y) d e = absurd (none-some d e)

inner_named : (x : Item) (z : Name) → option_map name_of (n.item_declaration x) ≡ Some z → (k : Kind) × (declaration x ≡ Some (z, k))
inner_named (i.Wire y) z e = (signal class.Wire y.high, ap (λ (t : Name). Some (t, signal class.Wire y.high)) (same_Some y.name z e))
inner_named (i.Register y) z e = (signal class.Register y.high, ap (λ (t : Name). Some (t, signal class.Register y.high)) (same_Some y.name z e))
inner_named (i.Memory y) z e = absurd (none-some z e)
inner_named (i.Assign y) z e = absurd (none-some z e)
inner_named (i.Initial y) z e = absurd (none-some z e)
inner_named (i.Always y) z e = absurd (none-some z e)
inner_named (i.Instance y) z e = absurd (none-some z e)

memory_named : (x : Item) (z : Name) → option_map (λ (y : text_memory.Memory). y.name) (n.memory_item x) ≡ Some z → (k : Kind) × (declaration x ≡ Some (z, k))
memory_named (i.Memory y) z e =
    (kind.Memory (scope.width_of (Some y.high)) y.last, ap (λ (t : Name). Some (t, kind.Memory (scope.width_of (Some y.high)) y.last)) (same_Some y.name z e))
memory_named (i.Wire y) z e = absurd (none-some z e)
memory_named (i.Register y) z e = absurd (none-some z e)
memory_named (i.Assign y) z e = absurd (none-some z e)
memory_named (i.Initial y) z e = absurd (none-some z e)
memory_named (i.Always y) z e = absurd (none-some z e)
memory_named (i.Instance y) z e = absurd (none-some z e)

instance_named : (x : Item) (z : Name) → option_map (λ (y : Instance). y.name) (n.instance_item x) ≡ Some z → (k : Kind) × (declaration x ≡ Some (z, k))
instance_named (i.Instance y) z e = (kind.Instance, ap (λ (t : Name). Some (t, kind.Instance)) (same_Some y.name z e))
instance_named (i.Wire y) z e = absurd (none-some z e)
instance_named (i.Register y) z e = absurd (none-some z e)
instance_named (i.Memory y) z e = absurd (none-some z e)
instance_named (i.Assign y) z e = absurd (none-some z e)
instance_named (i.Initial y) z e = absurd (none-some z e)
instance_named (i.Always y) z e = absurd (none-some z e)

-- ---- of a well-formed module

module _ (whole f : Facts) (m : Module) (is : IsModule whole f m) where
  abbrev all : Facts
  all = module_facts f m

  items_apart : (g : Item → Option Name) → ((x : Item) (z : Name) → g x ≡ Some z → (k : Kind) × (declaration x ≡ Some (z, k))) →
      AreApart (flat_map (λ (x : Item). n.some (g x)) m.items)
  items_apart g named_as =
      apart_names after_item declaration (λ h x. refl) (IsItem all) (λ h x d p e. (new_by h.scope (declaration x) d e p.new).0) g named_as (port_facts f m) m.items is.items

  pub memories_apart : AreApart (map (λ (y : text_memory.Memory). y.name) (n.memory_items m))
  memories_apart =
      subst AreApart (sym (map_flat (λ (y : text_memory.Memory). y.name) n.memory_item m.items))
      (items_apart (λ x. option_map (λ (y : text_memory.Memory). y.name) (n.memory_item x)) memory_named)

  pub instances_apart : AreApart (map (λ (y : Instance). y.name) (n.instance_items m))
  instances_apart =
      subst AreApart (sym (map_flat (λ (y : Instance). y.name) n.instance_item m.items))
      (items_apart (λ x. option_map (λ (y : Instance). y.name) (n.instance_item x)) instance_named)

  inner_apart : AreApart (map name_of (flat_map inner_declarations m.items))
  inner_apart = subst AreApart (sym (map_flat name_of n.item_declaration m.items)) (items_apart (λ x. option_map name_of (n.item_declaration x)) inner_named)

  ports_apart : (g : Port → Option Name) → ((p : Port) (z : Name) → g p ≡ Some z → p.name ≡ z) → AreApart (flat_map (λ (p : Port). n.some (g p)) m.ports)
  ports_apart g named_as =
      apart_names after_port of_port (λ h p. refl) (IsPort all)
      (λ h p d q e. subst (λ (t : Entry). is_declared h.scope t.0 ≡ false) (same_Some (port_declaration p) d e) q.new) g
      (λ p z e. ((port_declaration p).1, ap (λ (t : Name). Some (t, (port_declaration p).1)) (named_as p z e))) (head_facts f) m.ports is.ports

  inputs_apart : AreApart (map name_of (n.input_ports m))
  inputs_apart =
      subst AreApart (sym (ap (map name_of) (inputs_are m.ports) ∙ map_flat name_of (λ (p : Port). input_by p.direction p) m.ports))
      (ports_apart (λ p. option_map name_of (input_by p.direction p)) (λ p z e. input_named p.direction p z e))

  outputs_apart : AreApart (map name_of (n.output_ports m))
  outputs_apart =
      subst AreApart (sym (ap (map name_of) (outputs_are m.ports) ∙ map_flat name_of (λ (p : Port). output_by p.direction p) m.ports))
      (ports_apart (λ p. option_map name_of (output_by p.direction p)) (λ p z e. output_named p.direction p z e))

  -- ---- a name stands in one of the three parts

  clock_part : (k : n.Kind) → k ≡ n.InputPort → part_of_class (class_of k) ≡ 0
  clock_part k e = ap (λ t. part_of_class (class_of t)) e

  told_part : (d : n.Declaration) (t : IsTold all.scope d) (b : Bool) → is_clk d.name ≡ b →
      part_of_kind (if b then kind.Clock else kind.Signal (class_of d.kind) d.width t.has_range) ≡ part d
  told_part d t true e = sym (clock_part d.kind (t.clock e).0)
  told_part d t false e = refl

  one_part : (d e : n.Declaration) → In (n.declarations m) d → In (n.declarations m) e → d.name ≡ e.name → part d ≡ part e
  one_part d e p q same =
      let t = told whole f m is d p in
      let u = told whole f m is e q in
      let kinds : told_kind d t.has_range ≡ told_kind e u.has_range = same_Some _ _ (sym t.kind ∙ ap (kind_of all.scope) same ∙ u.kind) in
      sym (told_part d t (is_clk d.name) refl) ∙ ap part_of_kind kinds ∙ told_part e u (is_clk e.name) refl

  abbrev inner : List n.Declaration
  inner = flat_map inner_declarations m.items

  in_inputs : (d : n.Declaration) → In (n.input_ports m) d → part d ≡ 0
  in_inputs d h = let r = in_unflat (λ (p : Port). n.input_port p.direction p) m.ports d h in input_part r.x.direction r.x d r.inside

  in_outputs : (d : n.Declaration) → In (n.output_ports m) d → part d ≡ 2
  in_outputs d h = let r = in_unflat (λ (p : Port). n.output_port p.direction p) m.ports d h in output_part r.x.direction r.x d r.inside

  in_inner : (d : n.Declaration) → In inner d → part d ≡ 1
  in_inner d h = let r = in_unflat inner_declarations m.items d h in inner_part r.x d (some_in (n.item_declaration r.x) d r.inside)

  front_apart : AreApart (map name_of (n.input_ports m) ++ map name_of inner)
  front_apart = apart_append (map name_of (n.input_ports m)) (map name_of inner) inputs_apart inner_apart (λ z p q.
      (let a = in_unmap name_of (n.input_ports m) z p in
      let b = in_unmap name_of inner z q in
      let ha : In (n.input_ports m) a.x = record { at = a.at; found = a.found } in
      let hb : In inner b.x = record { at = b.at; found = b.found } in
      let same = one_part a.x b.x (in_front (n.input_ports m ++ inner) (n.output_ports m) a.x (in_front (n.input_ports m) inner a.x ha))
      (in_front (n.input_ports m ++ inner) (n.output_ports m) b.x (in_back (n.input_ports m) inner b.x hb)) (a.is ∙ sym b.is) in
      let x = in_inputs a.x ha in
      let y = in_inner b.x hb in omega (arith, same, x, y)))

  front_part : (d : n.Declaration) → In (n.input_ports m ++ inner) d → (part d ≡ 2) → ⊥
  front_part d h e = elim (in_either (n.input_ports m) inner d h) [
    | inl p ↦ (let x = in_inputs d p in omega (arith, e, x))
    | inr p ↦ (let x = in_inner d p in omega (arith, e, x))
  ]

  -- no two signals have one name
  pub signals_apart : AreApart (map name_of (n.declarations m))
  signals_apart =
      subst AreApart (sym (map-append name_of (n.input_ports m ++ inner) (n.output_ports m)))
      (apart_append (map name_of (n.input_ports m ++ inner)) (map name_of (n.output_ports m))
      (subst AreApart (sym (map-append name_of (n.input_ports m) inner)) front_apart) outputs_apart
      (λ z p q.
      (let a = in_unmap name_of (n.input_ports m ++ inner) z p in
      let b = in_unmap name_of (n.output_ports m) z q in
      let ha : In (n.input_ports m ++ inner) a.x = record { at = a.at; found = a.found } in
      let hb : In (n.output_ports m) b.x = record { at = b.at; found = b.found } in
      let same = one_part a.x b.x (in_front (n.input_ports m ++ inner) (n.output_ports m) a.x ha) (in_back (n.input_ports m ++ inner) (n.output_ports m) b.x hb)
      (a.is ∙ sym b.is) in
      front_part a.x ha (same ∙ in_outputs b.x hb))))
