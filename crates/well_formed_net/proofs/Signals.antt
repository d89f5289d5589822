-- What a well-formed module declares in its netlist: each declaration is the one of its name, and each name that may be read has one.
use Rattle.std.proofs.Common.{◌≡◌, ℕ, ◌+◌, ◌<◌, ◌≤◌, List, [], ◌++◌, Bool, true, false, Option, Some, None, refl, sym, ap, ◌∙◌, subst, inl, inr, map, take, arith}
use Rattle.std.specs.Prelude.{◌&&◌, ◌==◌, slice_get, is_some, nat_lt, if◌then◌else◌}
use Rattle.std.specs.List.{flat_map}
use Rattle.std.proofs.lemmas.Option.{same_Some, none-some}
use Rattle.std.proofs.lemmas.Bool.{ltb-true, eqb-true, and_parts}
use Rattle.lists.proofs.Places.{get_unmapped}
use Rattle.verilog_tree.specs.declared.kind.SignalClass.{SignalClass}
use Rattle.verilog_tree.specs.declared.kind.SignalClass.TheVariants as class
use Rattle.verilog_tree.specs.declared.kind.Kind.{Kind}
use Rattle.verilog_tree.specs.declared.kind.Kind.TheVariants as kind
use Rattle.verilog_tree.specs.declared.tree.Direction.{Direction}
use Rattle.verilog_tree.specs.declared.tree.Direction.TheVariants as direction
use Rattle.verilog_tree.specs.declared.tree.Port.{Port}
use Rattle.verilog_tree.specs.declared.tree.Item.{Item}
use Rattle.verilog_tree.specs.declared.tree.Item.TheVariants as i
use Rattle.verilog_tree.specs.declared.tree.Module.{Module}
use Rattle.verilog_tree.specs.Scope.{Name, Scope, kind_of, is_clk, signal, port_class, port_declaration, declaration, read_width, driven_width, register_width, is_clock}
use Rattle.verilog_tree.specs.Scope as scope
use Rattle.verilog_tree.specs.Facts.{Facts, after, after_port, head_facts}
use Rattle.verilog_tree.specs.WellFormed.{IsPort, IsModule, is_input}
use Rattle.netlist.specs.NetlistOf as n
use Rattle.netlist.specs.NetlistOf.{place}
use Rattle.netlist_text.proofs.Members.{In, Entry, in_none, in_one, in_first, in_front, in_back, in_either, in_map, in_flat, in_unflat}
use Rattle.well_formed_net.proofs.Tests.{both, implied}
use Rattle.well_formed_net.proofs.Lists.{place_found, some_in}
use Rattle.well_formed_net.proofs.Declarations.{all, port_is, item_is, port_kind, item_kind, kind_named}

-- ---- numbers

-- a range that is not too wide has the width that its declaration has in a netlist
pub record IsRange (high : Option ℕ) : Type 0 where
  pub width : scope.width_of high ≡ n.width_of high
  pub low : 1 ≤ n.width_of high
  pub most : n.width_of high ≤ 64

range_by : (b : Bool) (high : ℕ) → nat_lt high 64 ≡ b → nat_lt 0 (if b then high + 1 else 0) ≡ true → ((if b then high + 1 else 0) ≡ high + 1) × (high < 64)
range_by true high e h = (refl, ltb-true high 64 e)
range_by false high e h = absurd (cc)

pub range_of : (high : Option ℕ) → nat_lt 0 (scope.width_of high) ≡ true → IsRange high
range_of None h = record { width = refl; low = omega arith; most = omega arith }
range_of (Some high) h =
    let r = range_by (nat_lt high 64) high refl h in
    let l : high < 64 = r.1 in
    record { width = r.0; low = omega arith; most = omega arith }

-- ---- a declaration and what its name is declared as

abbrev pub class_of : n.Kind → SignalClass
class_of n.InputPort = class.Input
class_of n.OutputPort = class.Output
class_of n.PlainWire = class.Wire
class_of n.Reg = class.Register

abbrev pub kind_at : Direction → n.Kind
kind_at direction.Input = n.InputPort
kind_at direction.Output = n.OutputPort

same_class : (r : Direction) → port_class r ≡ class_of (kind_at r)
same_class direction.Input = refl
same_class direction.Output = refl

abbrev pub told_kind : n.Declaration → Bool → Kind
told_kind d r = if is_clk d.name then kind.Clock else kind.Signal (class_of d.kind) d.width r

pub record IsTold (sc : Scope) (d : n.Declaration) : Type 0 where
  pub has_range : Bool
  pub kind : kind_of sc d.name ≡ Some (told_kind d has_range)
  pub low : 1 ≤ d.width
  pub high : d.width ≤ 64
  pub clock : is_clk d.name ≡ true → (d.kind ≡ n.InputPort) × (d.width ≡ 1)

input_at : (r : Direction) → is_input r ≡ true → kind_at r ≡ n.InputPort
input_at direction.Input h = refl
input_at direction.Output h = absurd (cc)

inner : (sc : Scope) (c : SignalClass) (k : n.Kind) → c ≡ class_of k → (name : Name) (high : Option ℕ) → kind_of sc name ≡ Some (signal c high) → is_clk name ≡ false
    → nat_lt 0 (scope.width_of high) ≡ true → IsTold sc (record { name = name; width = n.width_of high; kind = k })
inner sc c k e name high is clk wide =
    let r = range_of high wide in
    let same_kind : signal c high ≡ kind.Signal (class_of k) (n.width_of high) (is_some high) =
    ap (λ w. kind.Signal c w (is_some high)) r.width ∙ ap (λ t. kind.Signal t (n.width_of high) (is_some high)) e in
    record {
      has_range = is_some high;
      kind = is ∙ ap Some (same_kind ∙ sym (ap (λ b. if b then kind.Clock else kind.Signal (class_of k) (n.width_of high) (is_some high)) clk));
      low = r.low;
      high = r.most;
      clock = λ h. both clk h;
    }

-- a wire or an output
abbrev pub is_driven_kind : n.Kind → Bool
is_driven_kind n.InputPort = false
is_driven_kind n.OutputPort = true
is_driven_kind n.PlainWire = true
is_driven_kind n.Reg = false

-- ---- of a module

abbrev pub names_of : Module → List Name
names_of m = map (λ (d : n.Declaration). d.name) (n.declarations m)

-- a kind that signals have
abbrev pub is_signal_kind : Kind → Bool
is_signal_kind (kind.Signal c w r) = true
is_signal_kind kind.Clock = true
is_signal_kind (kind.Memory w last) = false
is_signal_kind kind.Instance = false

abbrev pub inner_declarations : Item → List n.Declaration
inner_declarations x = n.some (n.item_declaration x)

pub in_input_ports : (r : Direction) (p : Port) (d : n.Declaration) → In (n.input_port r p) d → n.declaration (kind_at r) p ≡ d
in_input_ports direction.Input p d h = in_one _ d h
in_input_ports direction.Output p d h = absurd (in_none d h)

pub in_output_ports : (r : Direction) (p : Port) (d : n.Declaration) → In (n.output_port r p) d → n.declaration (kind_at r) p ≡ d
in_output_ports direction.Input p d h = absurd (in_none d h)
in_output_ports direction.Output p d h = in_one _ d h

module _ (m : Module) where
  in_inner : (d : n.Declaration) → In (flat_map inner_declarations m.items) d → In (n.declarations m) d
  in_inner d h = in_front (n.input_ports m ++ flat_map inner_declarations m.items) (n.output_ports m) d (in_back (n.input_ports m) (flat_map inner_declarations m.items) d h)

  port_by : (at : ℕ) (p : Port) → slice_get m.ports at ≡ Some p → (r : Direction) → p.direction ≡ r → In (n.declarations m) (n.declaration (kind_at r) p)
  port_by at p found direction.Input e =
      let d : n.Declaration = n.declaration n.InputPort p in
      in_front (n.input_ports m ++ flat_map inner_declarations m.items) (n.output_ports m) d
      (in_front (n.input_ports m) (flat_map inner_declarations m.items) d
      (in_flat (λ (q : Port). n.input_port q.direction q) m.ports at p d found (subst (λ (t : Direction). In (n.input_port t p) d) (sym e) (in_first d []))))
  port_by at p found direction.Output e =
      let d : n.Declaration = n.declaration n.OutputPort p in
      in_back (n.input_ports m ++ flat_map inner_declarations m.items) (n.output_ports m) d
      (in_flat (λ (q : Port). n.output_port q.direction q) m.ports at p d found (subst (λ (t : Direction). In (n.output_port t p) d) (sym e) (in_first d [])))

  -- a port's declaration is one of the module
  pub port_declared : (at : ℕ) (p : Port) → slice_get m.ports at ≡ Some p → In (n.declarations m) (n.declaration (kind_at p.direction) p)
  port_declared at p found = port_by at p found p.direction refl

  item_in : (at : ℕ) (x : Item) (e : Entry) → slice_get m.items at ≡ Some x → declaration x ≡ Some e → is_signal_kind e.1 ≡ true → In (names_of m) e.0
  item_in at (i.Wire y) e found q h =
      let d : n.Declaration = record { name = y.name; width = n.width_of y.high; kind = n.PlainWire } in
      subst (λ (t : Entry). In (names_of m) t.0) (same_Some _ e q)
      (in_map (λ (t : n.Declaration). t.name) (n.declarations m) d (in_inner d (in_flat inner_declarations m.items at (i.Wire y) d found (in_first d []))))
  item_in at (i.Register y) e found q h =
      let d : n.Declaration = record { name = y.name; width = n.width_of y.high; kind = n.Reg } in
      subst (λ (t : Entry). In (names_of m) t.0) (same_Some _ e q)
      (in_map (λ (t : n.Declaration). t.name) (n.declarations m) d (in_inner d (in_flat inner_declarations m.items at (i.Register y) d found (in_first d []))))
  item_in at (i.Memory y) e found q h = both (ap (λ (t : Entry). is_signal_kind t.1) (sym (same_Some _ e q))) h
  item_in at (i.Instance y) e found q h = both (ap (λ (t : Entry). is_signal_kind t.1) (sym (same_Some _ e q))) h
  item_in at (i.Assign y) e found q h = absurd (none-some e q)
  item_in at (i.Initial y) e found q h = absurd (none-some e q)
  item_in at (i.Always y) e found q h = absurd (none-some e q)

module _ (whole f : Facts) (m : Module) (is : IsModule whole f m) where
  abbrev sc : Scope
  sc = (all whole f m is).scope

  pub told_port : (at : ℕ) (p : Port) → slice_get m.ports at ≡ Some p → IsTold sc (n.declaration (kind_at p.direction) p)
  told_port at p found =
      let port : IsPort (all whole f m is) (after after_port (head_facts f) (take at m.ports)) p = port_is whole f m is at p found in
      let r = range_of p.high port.width in
      let same_kind : signal (port_class p.direction) p.high ≡ kind.Signal (class_of (kind_at p.direction)) (n.width_of p.high) (is_some p.high) =
      ap (λ w. kind.Signal (port_class p.direction) w (is_some p.high)) r.width ∙ ap (λ t. kind.Signal t (n.width_of p.high) (is_some p.high)) (same_class p.direction) in
      record {
        has_range = is_some p.high;
        kind = port_kind whole f m is at p found ∙ ap (λ (k : Kind). Some (if is_clk p.name then kind.Clock else k)) same_kind;
        low = r.low;
        high = r.most;
        clock = λ h.
            let t = implied (is_clk p.name) (is_input p.direction && scope.width_of p.high == 1) port.clock h in (
              input_at p.direction (and_parts (is_input p.direction) (scope.width_of p.high == 1) t).0,
              sym r.width ∙ eqb-true (scope.width_of p.high) 1 (and_parts (is_input p.direction) (scope.width_of p.high == 1) t).1,
            );
      }

  told_item : (at : ℕ) (x : Item) → slice_get m.items at ≡ Some x → (d : n.Declaration) → n.item_declaration x ≡ Some d → IsTold sc d
  told_item at (i.Wire y) found d e =
      let k = item_kind whole f m is at (i.Wire y) (y.name, signal class.Wire y.high) found refl in
      subst (IsTold sc) (same_Some _ d e) (inner sc class.Wire n.PlainWire refl y.name y.high k.0 k.1 (item_is whole f m is at (i.Wire y) found).right)
  told_item at (i.Register y) found d e =
      let k = item_kind whole f m is at (i.Register y) (y.name, signal class.Register y.high) found refl in
      subst (IsTold sc) (same_Some _ d e) (inner sc class.Register n.Reg refl y.name y.high k.0 k.1 (item_is whole f m is at (i.Register y) found).right)
  told_item at (i.Memory y) found d e = absurd (none-some d e)
  told_item at (i.Instance y) found d e = absurd (none-some d e)
  told_item at (i.Assign y) found d e = absurd (none-some d e)
  told_item at (i.Initial y) found d e = absurd (none-some d e)
  told_item at (i.Always y) found d e = absurd (none-some d e)

  told_input : (d : n.Declaration) → In (n.input_ports m) d → IsTold sc d
  told_input d h =
      let q = in_unflat (λ (p : Port). n.input_port p.direction p) m.ports d h in
      subst (IsTold sc) (in_input_ports q.x.direction q.x d q.inside) (told_port q.at q.x q.found)

  told_output : (d : n.Declaration) → In (n.output_ports m) d → IsTold sc d
  told_output d h =
      let q = in_unflat (λ (p : Port). n.output_port p.direction p) m.ports d h in
      subst (IsTold sc) (in_output_ports q.x.direction q.x d q.inside) (told_port q.at q.x q.found)

  told_inner : (d : n.Declaration) → In (flat_map inner_declarations m.items) d → IsTold sc d
  told_inner d h =
      let q = in_unflat inner_declarations m.items d h in
      told_item q.at q.x q.found d (some_in (n.item_declaration q.x) d q.inside)

  -- each declaration is that of its name
  pub told : (d : n.Declaration) → In (n.declarations m) d → IsTold sc d
  told d h = elim (in_either (n.input_ports m ++ flat_map inner_declarations m.items) (n.output_ports m) d h) [
    | inl p ↦ elim (in_either (n.input_ports m) (flat_map inner_declarations m.items) d p) [ inl q ↦ told_input d q | inr q ↦ told_inner d q ]
    | inr p ↦ told_output d p
  ]

  -- ---- names

  named : (z : Name) (k : Kind) → kind_of sc z ≡ Some k → is_signal_kind k ≡ true → In (names_of m) z
  named z k e h = elim (kind_named whole f m is z k e) [
    | inl p ↦ subst (In (names_of m)) p.name
        (in_map (λ (t : n.Declaration). t.name) (n.declarations m) (n.declaration (kind_at p.port.direction) p.port) (port_declared m p.at p.port p.found))
    | inr p ↦ subst (In (names_of m)) p.name (item_in m p.at p.item p.entry p.found p.declared (ap is_signal_kind p.kind ∙ h))
  ]

  -- the declaration at the place of a name
  pub record IsNamed (z : Name) : Type 0 where
    pub declared : n.Declaration
    pub at : slice_get (n.declarations m) (place (names_of m) z) ≡ Some declared
    pub name : declared.name ≡ z
    pub told : IsTold sc declared

  pub found : (z : Name) (k : Kind) → kind_of sc z ≡ Some k → is_signal_kind k ≡ true → IsNamed z
  found z k e h =
      let q = get_unmapped (λ (t : n.Declaration). t.name) (n.declarations m) (place (names_of m) z) z (place_found (names_of m) z (named z k e h)) in
      record { declared = q.0; at = q.1; name = q.2; told = told q.0 (record { at = place (names_of m) z; found = q.1 }) }

  -- what is read of a declaration of a name, by a test of its kind
  told_at : (z : Name) (k : Kind) → kind_of sc z ≡ Some k → (q : IsNamed z) → told_kind q.declared q.told.has_range ≡ k
  told_at z k e q = same_Some _ k (sym q.told.kind ∙ ap (kind_of sc) q.name ∙ e)

  read_by : (d : n.Declaration) (r b : Bool) → 0 < read_width (Some (if b then kind.Clock else kind.Signal (class_of d.kind) d.width r))
      → d.width ≡ read_width (Some (if b then kind.Clock else kind.Signal (class_of d.kind) d.width r))
  read_by d r true l = absurd (omega arith)
  read_by d r false l = refl

  -- a name of a width
  pub record IsRead (z : Name) (w : ℕ) : Type 0 where
    pub there : IsNamed z
    pub wide : there.declared.width ≡ w

  read_kind : (z : Name) (o : Option Kind) → kind_of sc z ≡ o → 0 < read_width o → IsRead z (read_width o)
  read_kind z None e l = absurd (omega arith)
  read_kind z (Some (kind.Signal c w r)) e l =
      let q = found z (kind.Signal c w r) e refl in
      let k : read_width (Some (told_kind q.declared q.told.has_range)) ≡ w = ap (λ t. read_width (Some t)) (told_at z (kind.Signal c w r) e q) in
      record { there = q; wide = read_by q.declared q.told.has_range (is_clk q.declared.name) (subst (λ (t : ℕ). 0 < t) (sym k) l) ∙ k }
  read_kind z (Some kind.Clock) e l = absurd (omega arith)
  read_kind z (Some (kind.Memory w last)) e l = absurd (omega arith)
  read_kind z (Some kind.Instance) e l = absurd (omega arith)

  -- a name that may be read
  pub read : (z : Name) → 0 < read_width (kind_of sc z) → IsRead z (read_width (kind_of sc z))
  read z l = read_kind z (kind_of sc z) refl l

  -- a register of a width
  pub record IsSet (z : Name) (w : ℕ) : Type 0 where
    pub there : IsNamed z
    pub wide : there.declared.width ≡ w
    pub register : there.declared.kind ≡ n.Reg

  set_by : (d : n.Declaration) (r b : Bool) (k : n.Kind) → 0 < register_width (Some (if b then kind.Clock else kind.Signal (class_of k) d.width r))
      → (d.width ≡ register_width (Some (if b then kind.Clock else kind.Signal (class_of k) d.width r))) × (k ≡ n.Reg)
  set_by d r true k l = absurd (omega arith)
  set_by d r false n.Reg l = (refl, refl)
  set_by d r false n.InputPort l = absurd (omega arith)
  set_by d r false n.OutputPort l = absurd (omega arith)
  set_by d r false n.PlainWire l = absurd (omega arith)

  set_kind : (z : Name) (o : Option Kind) → kind_of sc z ≡ o → 0 < register_width o → IsSet z (register_width o)
  set_kind z None e l = absurd (omega arith)
  set_kind z (Some (kind.Signal c w r)) e l =
      let q = found z (kind.Signal c w r) e refl in
      let k : register_width (Some (told_kind q.declared q.told.has_range)) ≡ register_width (Some (kind.Signal c w r)) =
      ap (λ t. register_width (Some t)) (told_at z (kind.Signal c w r) e q) in
      let s = set_by q.declared q.told.has_range (is_clk q.declared.name) q.declared.kind (subst (λ (t : ℕ). 0 < t) (sym k) l) in
      record { there = q; wide = s.0 ∙ k; register = s.1 }
  set_kind z (Some kind.Clock) e l = absurd (omega arith)
  set_kind z (Some (kind.Memory w last)) e l = absurd (omega arith)
  set_kind z (Some kind.Instance) e l = absurd (omega arith)

  -- a name that statements set
  pub set : (z : Name) → 0 < register_width (kind_of sc z) → IsSet z (register_width (kind_of sc z))
  set z l = set_kind z (kind_of sc z) refl l

  clock_by : (d : n.Declaration) (r b : Bool) → is_clock (Some (if b then kind.Clock else kind.Signal (class_of d.kind) d.width r)) ≡ true → b ≡ true
  clock_by d r true e = refl
  clock_by d r false e = absurd (cc)

  clock_kind : (z : Name) (o : Option Kind) → kind_of sc z ≡ o → is_clock o ≡ true → IsRead z 1
  clock_kind z None e h = absurd (cc)
  clock_kind z (Some kind.Clock) e h =
      let q = found z kind.Clock e refl in
      let k : is_clock (Some (told_kind q.declared q.told.has_range)) ≡ true = ap (λ t. is_clock (Some t)) (told_at z kind.Clock e q) in
      record { there = q; wide = (q.told.clock (clock_by q.declared q.told.has_range (is_clk q.declared.name) k)).1 }
  clock_kind z (Some (kind.Signal c w r)) e h = absurd (cc)
  clock_kind z (Some (kind.Memory w last)) e h = absurd (cc)
  clock_kind z (Some kind.Instance) e h = absurd (cc)

  -- the clock
  pub clock_read : (z : Name) → is_clock (kind_of sc z) ≡ true → IsRead z 1
  clock_read z h = clock_kind z (kind_of sc z) refl h

  -- ---- what is driven

  driven_by : (k : n.Kind) (w : ℕ) (r : Bool) → is_driven_kind k ≡ true → driven_width (Some (kind.Signal (class_of k) w r)) ≡ w
  driven_by n.InputPort w r h = absurd (cc)
  driven_by n.OutputPort w r h = refl
  driven_by n.PlainWire w r h = refl
  driven_by n.Reg w r h = absurd (cc)

  no_clock : (d : n.Declaration) → IsTold sc d → is_driven_kind d.kind ≡ true → (b : Bool) → is_clk d.name ≡ b → b ≡ false
  no_clock d t h true e = both (ap is_driven_kind (t.clock e).0) h
  no_clock d t h false e = refl

  -- a wire or an output has its declaration's width
  pub driven : (d : n.Declaration) → IsTold sc d → is_driven_kind d.kind ≡ true → driven_width (kind_of sc d.name) ≡ d.width
  driven d t h =
      ap driven_width t.kind
      ∙ ap (λ b. driven_width (Some (if b then kind.Clock else kind.Signal (class_of d.kind) d.width t.has_range))) (no_clock d t h (is_clk d.name) refl)
      ∙ driven_by d.kind d.width t.has_range h

  registered_by : (k : n.Kind) (w : ℕ) (r : Bool) → k ≡ n.Reg → register_width (Some (kind.Signal (class_of k) w r)) ≡ w
  registered_by k w r e = ap (λ t. register_width (Some (kind.Signal (class_of t) w r))) e

  no_clock_register : (d : n.Declaration) → IsTold sc d → d.kind ≡ n.Reg → (b : Bool) → is_clk d.name ≡ b → b ≡ false
  no_clock_register d t h true e = both (ap is_register h) (ap is_register (t.clock e).0) where
    is_register : n.Kind → Bool
    is_register n.Reg = false
    is_register n.InputPort = true
    is_register n.OutputPort = true
    is_register n.PlainWire = true
  no_clock_register d t h false e = refl

  -- so has a register
  pub registered : (d : n.Declaration) → IsTold sc d → d.kind ≡ n.Reg → register_width (kind_of sc d.name) ≡ d.width
  registered d t h =
      ap register_width t.kind
      ∙ ap (λ b. register_width (Some (if b then kind.Clock else kind.Signal (class_of d.kind) d.width t.has_range))) (no_clock_register d t h (is_clk d.name) refl)
      ∙ registered_by d.kind d.width t.has_range h
