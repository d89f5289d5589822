-- What stands round an instance in a well-formed text: its module, and the signals that its ports are connected to.
use Rattle.std.proofs.Common.{◌≡◌, ℕ, suc, ◌<◌, ◌≤◌, List, [], ◌∷◌, ◌++◌, Bool, true, false, Option, Some, None, refl, sym, ap, ◌∙◌, subst, inl, inr, take, arith}
use Rattle.std.specs.Prelude.{◌&&◌, ◌==◌, slice_get, nat_lt, if◌then◌else◌}
use Rattle.std.specs.List.{flat_map}
use Rattle.std.specs.Str.{bytes_eq}
use Rattle.std.proofs.lemmas.Option.{same_Some, none-some}
use Rattle.std.proofs.lemmas.Bool.{ltb-true, eqb-true, and_parts}
use Rattle.std.proofs.lemmas.Slice.Eq.{bytes_eq-Decides}
use Rattle.verilog_tree.specs.declared.kind.SignalClass.{SignalClass}
use Rattle.verilog_tree.specs.declared.kind.Kind.TheVariants as kind
use Rattle.verilog_tree.specs.declared.tree.Direction.{Direction}
use Rattle.verilog_tree.specs.declared.tree.Direction.TheVariants as direction
use Rattle.verilog_tree.specs.declared.tree.Port.{Port}
use Rattle.verilog_tree.specs.declared.tree.Connection.{Connection}
use Rattle.verilog_tree.specs.declared.tree.Instance.{Instance}
use Rattle.verilog_tree.specs.declared.tree.Item.{Item}
use Rattle.verilog_tree.specs.declared.tree.Item.TheVariants as i
use Rattle.verilog_tree.specs.declared.tree.Module.{Module}
use Rattle.verilog_tree.specs.Scope.{Name, Scope, kind_of, is_clk, signal, port_class, port_declaration, read_width, driven_width, is_clock}
use Rattle.verilog_tree.specs.Scope as scope
use Rattle.verilog_tree.specs.Rules.{all_right, are_distinct, is_signal, has_width, signal_right, connects, takes, port_named, connected_ports, connections_right}
use Rattle.verilog_tree.specs.Scope.{is_known}
use Rattle.verilog_tree.specs.Facts.{Facts, Interface, interface_named, interface_of, nothing, after, after_module, port_facts, module_facts}
use Rattle.verilog_tree.specs.WellFormed.{EachAfter, IsModule, instance_right}
use Rattle.netlist.specs.NetlistOf as n
use Rattle.netlist.specs.NetlistOf.{place}
use Rattle.netlist_text.proofs.Members.{In, in_none, in_first, in_rest, in_cons, in_either, in_unflat, is_known_in}
use Rattle.netlist_text.proofs.Grown.{items_modules, port_facts_are}
use Rattle.well_formed_net.proofs.Tests.{both, right_in}
use Rattle.well_formed_net.proofs.Lists.{some_in, taken, each_at}
use Rattle.well_formed_net.proofs.Declarations.{item_is, port_kind}
use Rattle.well_formed_net.proofs.Signals.{IsTold, IsRead, told, told_kind, kind_at, class_of, read, clock_read, in_input_ports, in_output_ports, inner_declarations}
use Rattle.well_formed_net.proofs.Earlier.{earlier, take_take}

-- ---- ports and connections by name

pub record IsPortFound (ps : List Port) (z : Name) (p : Port) : Type 0 where
  pub at : ℕ
  pub found : slice_get ps at ≡ Some p
  pub name : p.name ≡ z

port_by : (q : Port) (ps : List Port) (z : Name) (p : Port) → (port_named ps z ≡ Some p → IsPortFound ps z p) → (b : Bool) → bytes_eq z q.name ≡ b
    → (if b then Some q else port_named ps z) ≡ Some p → IsPortFound (q ∷ ps) z p
port_by q ps z p next true e h = record { at = 0; found = h; name = sym (ap (λ (t : Port). t.name) (same_Some q p h)) ∙ sym ((bytes_eq-Decides z q.name).0 e) }
port_by q ps z p next false e h = let r = next h in record { at = suc r.at; found = r.found; name = r.name }

pub port_found : (ps : List Port) (z : Name) (p : Port) → port_named ps z ≡ Some p → IsPortFound ps z p
port_found [] z p e = absurd (none-some p e)
port_found (q ∷ ps) z p e = port_by q ps z p (port_found ps z p) (bytes_eq z q.name) refl e

-- what is connected to a port
record IsConnection (cs : List Connection) (z : Name) : Type 0 where
  pub connection : Connection
  pub held : In cs connection
  pub port : connection.port ≡ z
  pub signal : n.connected cs z ≡ connection.signal

connection_by : (c : Connection) (cs : List Connection) (z : Name) → In (connected_ports (c ∷ cs)) z → (In (connected_ports cs) z → IsConnection cs z) → (b : Bool) →
    bytes_eq z c.port ≡ b
    → IsConnection (c ∷ cs) z
connection_by c cs z h next true e =
    record { connection = c; held = in_first c cs; port = sym ((bytes_eq-Decides z c.port).0 e); signal = ap (λ b. if b then c.signal else n.connected cs z) e }
connection_by c cs z h next false e = elim (in_cons c.port z (connected_ports cs) h) [
  | inl q ↦ absurd (let t : true ≡ false = sym ((bytes_eq-Decides z c.port).1 (sym q)) ∙ e in cc)
  | inr q ↦ (let r = next q in
      record { connection = r.connection; held = in_rest c r.connection cs r.held; port = r.port; signal = ap (λ b. if b then c.signal else n.connected cs z) e ∙ r.signal })
]

connection_found : (cs : List Connection) (z : Name) → In (connected_ports cs) z → IsConnection cs z
connection_found [] z h = absurd (in_none z h)
connection_found (c ∷ cs) z h = connection_by c cs z h (connection_found cs z) (bytes_eq z c.port) refl

-- ---- ports among declarations

abbrev pub is_port_kind : n.Kind → Bool
is_port_kind n.InputPort = true
is_port_kind n.OutputPort = true
is_port_kind n.PlainWire = false
is_port_kind n.Reg = false

pub inner_kind : (x : Item) (d : n.Declaration) → n.item_declaration x ≡ Some d → is_port_kind d.kind ≡ false
inner_kind (i.Wire y) d e = ap (λ (t : n.Declaration). is_port_kind t.kind) (sym (same_Some _ d e))
inner_kind (i.Register y) d e = ap (λ (t : n.Declaration). is_port_kind t.kind) (sym (same_Some _ d e))
inner_kind (i.Memory y) d e = absurd (none-some d e)
inner_kind (i.Assign y) d e = absurd (none-some d e)
inner_kind (i.Initial y) d e = absurd (none-some d e)
inner_kind (i.Always y) d e = absurd (none-some d e)
inner_kind (i.Instance y) d e = absurd (none-some d e)

-- the port of a declaration
pub record IsPortOf (m : Module) (d : n.Declaration) : Type 0 where
  pub at : ℕ
  pub port : Port
  pub found : slice_get m.ports at ≡ Some port
  pub is : n.declaration (kind_at port.direction) port ≡ d

pub port_of : (m : Module) (d : n.Declaration) → In (n.declarations m) d → is_port_kind d.kind ≡ true → IsPortOf m d
port_of m d h k = elim (in_either (n.input_ports m ++ flat_map inner_declarations m.items) (n.output_ports m) d h) [
  | inl p ↦ elim (in_either (n.input_ports m) (flat_map inner_declarations m.items) d p) [
    | inl q ↦ (let r = in_unflat (λ (t : Port). n.input_port t.direction t) m.ports d q in
        record { at = r.at; port = r.x; found = r.found; is = in_input_ports r.x.direction r.x d r.inside })
    | inr q ↦ (let r = in_unflat inner_declarations m.items d q in both (inner_kind r.x d (some_in (n.item_declaration r.x) d r.inside)) k)
  ]
  | inr p ↦ (let r = in_unflat (λ (t : Port). n.output_port t.direction t) m.ports d p in
      record { at = r.at; port = r.x; found = r.found; is = in_output_ports r.x.direction r.x d r.inside })
]

-- ---- a port as its module declares it

-- a plain port that is declared as a signal has that width
port_width : (c : SignalClass) (w : ℕ) (r : Bool) (p : Port) → kind.Signal c w r ≡ signal (port_class p.direction) p.high → scope.width_of p.high ≡ w
port_width c w r p e = sym (ap (λ t. read_width (Some t)) e)

output_direction : (r : Direction) (w : ℕ) (s : Bool) (high : Option ℕ) → kind.Signal (class_of n.OutputPort) w s ≡ signal (port_class r) high → 1 ≤ w → r ≡ direction.Output
output_direction direction.Output w s high e l = refl
output_direction direction.Input w s high e l = absurd (let z : w ≡ 0 = ap (λ t. driven_width (Some t)) e in omega (arith, z, l))

input_direction : (r : Direction) (w : ℕ) (s : Bool) (high : Option ℕ) → kind.Signal (class_of n.InputPort) w s ≡ signal (port_class r) high → 1 ≤ w → r ≡ direction.Input
input_direction direction.Input w s high e l = refl
input_direction direction.Output w s high e l =
    absurd (let z : 0 ≡ scope.width_of high = ap (λ t. driven_width (Some t)) e in let y : w ≡ scope.width_of high = ap (λ t. read_width (Some t)) e in omega (arith, z, y, l))

module _ (sc : Scope) (d : n.Declaration) (t : IsTold sc d) (p : Port) (is : kind_of sc p.name ≡ Some (port_declaration p).1) (name : p.name ≡ d.name) where
  kinds : told_kind d t.has_range ≡ (port_declaration p).1
  kinds = same_Some _ _ (sym t.kind ∙ ap (kind_of sc) (sym name) ∙ is)

  plain : is_clk d.name ≡ false → kind.Signal (class_of d.kind) d.width t.has_range ≡ signal (port_class p.direction) p.high
  plain e =
      sym (ap (λ b. if b then kind.Clock else kind.Signal (class_of d.kind) d.width t.has_range) e) ∙ kinds
      ∙ ap (λ b. if b then kind.Clock else signal (port_class p.direction) p.high) (ap is_clk name ∙ e)

-- ---- in a well-formed text

module _ (ms : List Module) (whole : Facts) (each : EachAfter (IsModule whole) after_module nothing ms) where
  -- what is known before a module
  abbrev pub facts_at : ℕ → Facts
  facts_at k = after after_module nothing (take k ms)

  pub formed : (k : ℕ) (m : Module) → slice_get ms k ≡ Some m → IsModule whole (facts_at k) m
  formed k m found = each_at (IsModule whole) after_module nothing ms k m each found

  module _ (k : ℕ) (m : Module) (found : slice_get ms k ≡ Some m) where
    abbrev before : List Module
    before = take k ms

    abbrev f : Facts
    f = facts_at k

    abbrev pub scope_at : Scope
    scope_at = (module_facts f m).scope

    modules_are : (module_facts f m).modules ≡ f.modules
    modules_are = items_modules (port_facts f m) m.items ∙ ap (λ (g : Facts). g.modules) (port_facts_are f m)

    -- the module of an instance
    pub record IsInstanceOf (t : Instance) : Type 0 where
      pub number : ℕ
      pub place_is : place (n.module_names before) t.module_name ≡ number
      pub of : Module
      pub held : slice_get before number ≡ Some of
      pub listed : slice_get ms number ≡ Some of
      pub lower : number < k
      pub name : t.module_name ≡ of.name
      pub interface : Interface
      pub named : interface_named f.modules t.module_name ≡ Some interface
      pub is : interface ≡ interface_of (facts_at number).modules of
      pub right : connections_right scope_at of.ports t.connections ≡ true

    instance_by : (t : Instance) (o : Option Interface) → interface_named f.modules t.module_name ≡ o →
        instance_right o (λ ports. connections_right scope_at ports t.connections) ≡ true
        → IsInstanceOf t
    instance_by t None e h = absurd (cc)
    instance_by t (Some x) e h =
        let r = earlier before nothing t.module_name x refl e in
        let l = taken ms k r.number r.of r.listed in
        record {
          number = r.number;
          place_is = r.place_is;
          of = r.of;
          held = r.listed;
          listed = l.0;
          lower = l.1;
          name = r.name;
          interface = x;
          named = e;
          is = r.is ∙ ap (λ (l : List Module). interface_of (after after_module nothing l).modules r.of) (take_take ms r.number k l.1);
          right = subst (λ (ps : List Port). connections_right scope_at ps t.connections ≡ true) (ap (λ (y : Interface). y.ports) r.is) h;
        }

    pub instance_of : (at : ℕ) (t : Instance) → slice_get m.items at ≡ Some (i.Instance t) → IsInstanceOf t
    instance_of at t there =
        let item = item_is whole f m (formed k m found) at (i.Instance t) there in
        instance_by t (interface_named f.modules t.module_name) refl
        (subst (λ ys. instance_right (interface_named ys t.module_name) (λ ports. connections_right scope_at ports t.connections) ≡ true) modules_are item.right)

    -- ---- what its ports are connected to

    module _ (t : Instance) (o : IsInstanceOf t) where
      abbrev of_scope : Scope
      of_scope = (module_facts (facts_at o.number) o.of).scope

      abbrev of_formed : IsModule whole (facts_at o.number) o.of
      of_formed = formed o.number o.of o.listed

      abbrev test : Connection → Bool
      test c = takes scope_at (port_named o.of.ports c.port) c.signal

      abbrev rest : Bool
      rest = are_distinct (connected_ports t.connections) && all_right (λ (p : Port). is_known (connected_ports t.connections) p.name) o.of.ports

      -- a port of the module's, and its connection
      record IsTied (z : Name) : Type 0 where
        pub port : Port
        pub is : IsPortFound o.of.ports z port
        pub connects : connects scope_at port (n.connected t.connections z) ≡ true

      tied_by : (z : Name) (e : Option Port) → port_named o.of.ports z ≡ e → takes scope_at e (n.connected t.connections z) ≡ true → IsTied z
      tied_by z None e h = absurd (cc)
      tied_by z (Some p) e h = record { port = p; is = port_found o.of.ports z p e; connects = h }

      tied : (at : ℕ) (p : Port) → slice_get o.of.ports at ≡ Some p → IsTied p.name
      tied at p there =
          let all_known = (and_parts (are_distinct (connected_ports t.connections)) (all_right (λ (q : Port). is_known (connected_ports t.connections) q.name) o.of.ports)
          (and_parts (all_right test t.connections) rest o.right).1).1 in
          let known = right_in (λ (q : Port). is_known (connected_ports t.connections) q.name) o.of.ports p all_known (record { at = at; found = there }) in
          let c = connection_found t.connections p.name (is_known_in (connected_ports t.connections) p.name known) in
          let takes_it = right_in test t.connections c.connection (and_parts (all_right test t.connections) rest o.right).0 c.held in
          tied_by p.name (port_named o.of.ports p.name) refl
          (subst (λ (y : Name). takes scope_at (port_named o.of.ports p.name) y ≡ true) (sym c.signal)
          (subst (λ (y : Name). takes scope_at (port_named o.of.ports y) c.connection.signal ≡ true) c.port takes_it))

      -- of a declaration of the module that is a port
      record IsTiedPort (d : n.Declaration) : Type 0 where
        pub port : Port
        pub is : kind_of of_scope port.name ≡ Some (port_declaration port).1
        pub name : port.name ≡ d.name
        pub told : IsTold of_scope d
        pub connects : connects scope_at port (n.connected t.connections d.name) ≡ true

      tied_port : (d : n.Declaration) → In (n.declarations o.of) d → is_port_kind d.kind ≡ true → IsTiedPort d
      tied_port d h port =
          let p = port_of o.of d h port in
          let name : p.port.name ≡ d.name = ap (λ (y : n.Declaration). y.name) p.is in
          let r = tied p.at p.port p.found in
          record {
            port = r.port;
            is = port_kind whole (facts_at o.number) o.of of_formed r.is.at r.port r.is.found;
            name = r.is.name ∙ name;
            told = told whole (facts_at o.number) o.of of_formed d h;
            connects = subst (λ (y : Name). connects scope_at r.port (n.connected t.connections y) ≡ true) name r.connects;
          }

      -- an output port has the width of what it drives
      output_by : (d : n.Declaration) (r : IsTiedPort d) → d.kind ≡ n.OutputPort → (b : Bool) → is_clk d.name ≡ b →
          driven_width (kind_of scope_at (n.connected t.connections d.name)) ≡ d.width
      output_by d r e true c = both (ap is_input_kind e) (ap is_input_kind (r.told.clock c).0) where
        is_input_kind : n.Kind → Bool
        is_input_kind n.InputPort = true
        is_input_kind n.OutputPort = false
        is_input_kind n.PlainWire = false
        is_input_kind n.Reg = false
      output_by d r e false c =
          let x = n.connected t.connections d.name in
          let k = plain of_scope d r.told r.port r.is r.name c in
          let wide : scope.width_of r.port.high ≡ d.width = port_width (class_of d.kind) d.width r.told.has_range r.port k in
          let way = output_direction r.port.direction d.width r.told.has_range r.port.high
          (subst (λ (q : n.Kind). kind.Signal (class_of q) d.width r.told.has_range ≡ signal (port_class r.port.direction) r.port.high) e k) r.told.low in
          let here : signal_right scope_at r.port.direction x (scope.width_of r.port.high) ≡ true =
          sym (ap (λ b. if b then (is_clk x && is_clock (kind_of scope_at x)) else signal_right scope_at r.port.direction x (scope.width_of r.port.high)) (ap is_clk r.name ∙ c)) ∙
          r.connects in
          let out : signal_right scope_at direction.Output x (scope.width_of r.port.high) ≡ true =
          subst (λ (q : Direction). signal_right scope_at q x (scope.width_of r.port.high) ≡ true) way here in
          eqb-true (driven_width (kind_of scope_at x)) (scope.width_of r.port.high)
          (and_parts (nat_lt 0 (scope.width_of r.port.high)) (driven_width (kind_of scope_at x) == scope.width_of r.port.high) out).1
          ∙ wide

      pub output_tied : (d : n.Declaration) → In (n.declarations o.of) d → d.kind ≡ n.OutputPort → driven_width (kind_of scope_at (n.connected t.connections d.name)) ≡ d.width
      output_tied d h e = output_by d (tied_port d h (ap is_port_kind e)) e (is_clk d.name) refl

      -- a name of a width
      abbrev Reads : Name → ℕ → Type 0
      Reads z w = IsRead whole f m (formed k m found) z w

      -- an input port has the width of what it is connected to
      input_by : (d : n.Declaration) (r : IsTiedPort d) → d.kind ≡ n.InputPort → (b : Bool) → is_clk d.name ≡ b → Reads (n.connected t.connections d.name) d.width
      input_by d r e true c =
          let x = n.connected t.connections d.name in
          let here : (is_clk x && is_clock (kind_of scope_at x)) ≡ true =
          sym (ap (λ b. if b then (is_clk x && is_clock (kind_of scope_at x)) else signal_right scope_at r.port.direction x (scope.width_of r.port.high)) (ap is_clk r.name ∙ c)) ∙
          r.connects in
          subst (Reads x) (sym (r.told.clock c).1) (clock_read whole f m (formed k m found) x (and_parts (is_clk x) (is_clock (kind_of scope_at x)) here).1)
      input_by d r e false c =
          let x = n.connected t.connections d.name in
          let q = plain of_scope d r.told r.port r.is r.name c in
          let wide : scope.width_of r.port.high ≡ d.width = port_width (class_of d.kind) d.width r.told.has_range r.port q in
          let way = input_direction r.port.direction d.width r.told.has_range r.port.high
          (subst (λ (y : n.Kind). kind.Signal (class_of y) d.width r.told.has_range ≡ signal (port_class r.port.direction) r.port.high) e q) r.told.low in
          let here : signal_right scope_at r.port.direction x (scope.width_of r.port.high) ≡ true =
          sym (ap (λ b. if b then (is_clk x && is_clock (kind_of scope_at x)) else signal_right scope_at r.port.direction x (scope.width_of r.port.high)) (ap is_clk r.name ∙ c)) ∙
          r.connects in
          let into : has_width scope_at x (scope.width_of r.port.high) ≡ true = subst (λ (y : Direction). signal_right scope_at y x (scope.width_of r.port.high) ≡ true) way here in
          let reads = read whole f m (formed k m found) x (ltb-true 0 (read_width (kind_of scope_at x))
          (and_parts (is_signal scope_at x) (read_width (kind_of scope_at x) == scope.width_of r.port.high) into).0) in
          subst (Reads x)
          (eqb-true (read_width (kind_of scope_at x)) (scope.width_of r.port.high) (and_parts (is_signal scope_at x)
          (read_width (kind_of scope_at x) == scope.width_of r.port.high) into).1 ∙ wide) reads

      pub input_tied : (d : n.Declaration) → In (n.declarations o.of) d → d.kind ≡ n.InputPort → Reads (n.connected t.connections d.name) d.width
      input_tied d h e = input_by d (tied_port d h (ap is_port_kind e)) e (is_clk d.name) refl
