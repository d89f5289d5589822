-- What drives the signals of a well-formed module: each wire and each output has an assign or an output of an instance, of its width.
use Rattle.std.proofs.Common.{◌≡◌, ℕ, suc, ◌+◌, ◌⊎◌, List, [], ◌∷◌, ◌++◌, Bool, true}
use Rattle.std.proofs.Common.{false, Option, Some, None, refl, sym, ap, ◌∙◌, subst, inl, inr, take, arith}
use Rattle.std.specs.Prelude.{not, ◌&&◌, slice_get, nat_lt, if◌then◌else◌}
use Rattle.std.specs.List.{flat_map}
use Rattle.std.specs.Str.{bytes_eq}
use Rattle.std.proofs.lemmas.Slice.Eq.{bytes_eq-Decides}
use Rattle.std.proofs.lemmas.Option.{same_Some, none-some}
use Rattle.std.proofs.lemmas.Bool.{not-true, and_parts}
use Rattle.verilog_tree.specs.declared.tree.Direction.{Direction}
use Rattle.verilog_tree.specs.declared.tree.Direction.TheVariants as direction
use Rattle.verilog_tree.specs.declared.tree.Expression.{Expression}
use Rattle.verilog_tree.specs.declared.tree.Port.{Port}
use Rattle.verilog_tree.specs.declared.tree.Assign.{Assign}
use Rattle.verilog_tree.specs.declared.tree.Connection.{Connection}
use Rattle.verilog_tree.specs.declared.tree.Instance.{Instance}
use Rattle.verilog_tree.specs.declared.tree.Item.{Item}
use Rattle.verilog_tree.specs.declared.tree.Item.TheVariants as i
use Rattle.verilog_tree.specs.declared.tree.Module.{Module}
use Rattle.verilog_tree.specs.Scope.{Name, Names, Scope, is_known, kind_of, driven_width}
use Rattle.verilog_tree.specs.Rules.{all_right, are_distinct, expression_right, assign_right, port_named, connected_ports}
use Rattle.verilog_tree.specs.Facts.{Facts, Interface, interface_named, ports_of, is_output, outputs, drives, nothing, after, with_name, after_module, port_facts, module_facts}
use Rattle.verilog_tree.specs.WellFormed.{EachAfter, IsModule, is_input}
use Rattle.verilog_tree.proofs.Tests.{and_both}
use Rattle.netlist.specs.declared.netlist.Source.TheVariants as source
use Rattle.netlist.specs.NetlistOf as n
use Rattle.netlist.specs.NetlistOf.{is_output_port}
use Rattle.netlist_text.proofs.Members.{In, in_none, in_one, in_first, in_rest, in_cons, in_either, in_flat, in_unflat, in_holds, is_known_in, after_in}
use Rattle.netlist_text.proofs.Grown.{items_driven, port_facts_are}
use Rattle.well_formed_net.proofs.Tests.{both, or_there}
use Rattle.well_formed_net.proofs.Lists.{some_in}
use Rattle.well_formed_net.proofs.Declarations.{item_is, port_is}
use Rattle.well_formed_net.proofs.Signals.{told, kind_at, driven, is_driven_kind, in_input_ports, in_output_ports, port_declared, inner_declarations}
use Rattle.well_formed_net.proofs.Connected.{port_found, facts_at, formed, IsInstanceOf, instance_of, output_tied}

-- ---- assigns

record IsAssign (assigns : List Assign) (x : Name) (right : Expression) : Type 0 where
  pub assign : Assign
  pub held : In assigns assign
  pub target : x ≡ assign.target
  pub value : assign.value ≡ right

assign_by : (a : Assign) (assigns : List Assign) (x : Name) (right : Expression) → (n.assigned assigns x ≡ Some right → IsAssign assigns x right) → (b : Bool) →
    bytes_eq x a.target ≡ b
    → (if b then Some a.value else n.assigned assigns x) ≡ Some right → IsAssign (a ∷ assigns) x right
assign_by a assigns x right next true e h = record { assign = a; held = in_first a assigns; target = (bytes_eq-Decides x a.target).0 e; value = same_Some a.value right h }
assign_by a assigns x right next false e h = let r = next h in record { assign = r.assign; held = in_rest a r.assign assigns r.held; target = r.target; value = r.value }

assign_found : (assigns : List Assign) (x : Name) (right : Expression) → n.assigned assigns x ≡ Some right → IsAssign assigns x right
assign_found [] x right e = absurd (none-some right e)
assign_found (a ∷ assigns) x right e = assign_by a assigns x right (assign_found assigns x right) (bytes_eq x a.target) refl e

no_assign_by : (a b : Assign) (assigns : List Assign) (x : Name) → (n.assigned assigns x ≡ None → In assigns a → ⊥) → (t : Bool) → bytes_eq x b.target ≡ t →
    (if t then Some b.value else n.assigned assigns x) ≡ None
    → In (b ∷ assigns) a → x ≡ a.target → ⊥
no_assign_by a b assigns x next true e h q same = none-some b.value (sym h)
no_assign_by a b assigns x next false e h q same = elim (in_cons b a assigns q) [
  | inl r ↦ both e (subst (λ (y : Name). bytes_eq x y ≡ true) (same ∙ ap (λ (t : Assign). t.target) (sym r)) ((bytes_eq-Decides x x).1 refl))
  | inr r ↦ next h r
]

no_assign : (assigns : List Assign) (x : Name) (a : Assign) → n.assigned assigns x ≡ None → In assigns a → x ≡ a.target → ⊥
no_assign [] x a e h same = in_none a h
no_assign (b ∷ assigns) x a e h same = no_assign_by a b assigns x (λ f q. no_assign assigns x a f q same) (bytes_eq x b.target) refl e h same

assign_is : (x : Item) (a : Assign) → n.assign_item x ≡ Some a → x ≡ i.Assign a
assign_is (i.Assign z) a e = ap i.Assign (same_Some z a e)
assign_is (i.Wire z) a e = absurd (none-some a e)
assign_is (i.Register z) a e = absurd (none-some a e)
assign_is (i.Memory z) a e = absurd (none-some a e)
assign_is (i.Initial z) a e = absurd (none-some a e)
assign_is (i.Always z) a e = absurd (none-some a e)
assign_is (i.Instance z) a e = absurd (none-some a e)

pub instance_is : (x : Item) (t : Instance) → n.instance_item x ≡ Some t → x ≡ i.Instance t
instance_is (i.Instance z) t e = ap i.Instance (same_Some z t e)
instance_is (i.Wire z) t e = absurd (none-some t e)
instance_is (i.Register z) t e = absurd (none-some t e)
instance_is (i.Memory z) t e = absurd (none-some t e)
instance_is (i.Assign z) t e = absurd (none-some t e)
instance_is (i.Initial z) t e = absurd (none-some t e)
instance_is (i.Always z) t e = absurd (none-some t e)

-- an instance of a module stands among its items
pub record IsItemAt (m : Module) (t : Instance) : Type 0 where
  pub at : ℕ
  pub found : slice_get m.items at ≡ Some (i.Instance t)

pub instance_at : (m : Module) (t : Instance) → In (n.instance_items m) t → IsItemAt m t
instance_at m t h =
    let q = in_unflat (λ (x : Item). n.some (n.instance_item x)) m.items t h in
    record { at = q.at; found = q.found ∙ ap Some (instance_is q.x t (some_in (n.instance_item q.x) t q.inside)) }

-- ---- outputs that drive a name

pub record IsOutputAt (ds : List n.Declaration) (cs : List Connection) (x : Name) (k port : ℕ) : Type 0 where
  pub number : ℕ
  pub port_is : port ≡ k + number
  pub declared : n.Declaration
  pub listed : slice_get ds number ≡ Some declared
  pub output : is_output_port declared.kind ≡ true
  pub tied : x ≡ n.connected cs declared.name

output_by : (d : n.Declaration) (ds : List n.Declaration) (cs : List Connection) (x : Name) (k port : ℕ) →
    (n.tied_output ds cs x (k + 1) ≡ Some port → IsOutputAt ds cs x (k + 1) port) → (b : Bool)
    → (is_output_port d.kind && bytes_eq x (n.connected cs d.name)) ≡ b → (if b then Some k else n.tied_output ds cs x (k + 1)) ≡ Some port → IsOutputAt (d ∷ ds) cs x k port
output_by d ds cs x k port next true e h =
    let same : k ≡ port = same_Some k port h in
    record {
      number = 0;
      port_is = omega (arith, same);
      declared = d;
      listed = refl;
      output = (and_parts (is_output_port d.kind) (bytes_eq x (n.connected cs d.name)) e).0;
      tied = (bytes_eq-Decides x (n.connected cs d.name)).0 (and_parts (is_output_port d.kind) (bytes_eq x (n.connected cs d.name)) e).1;
    }
output_by d ds cs x k port next false e h =
    let r = next h in
    let is = r.port_is in
    record { number = suc r.number; port_is = omega (arith, is); declared = r.declared; listed = r.listed; output = r.output; tied = r.tied }

pub output_found : (ds : List n.Declaration) (cs : List Connection) (x : Name) (k port : ℕ) → n.tied_output ds cs x k ≡ Some port → IsOutputAt ds cs x k port
output_found [] cs x k port e = absurd (none-some port e)
output_found (d ∷ ds) cs x k port e =
    output_by d ds cs x k port (output_found ds cs x (k + 1) port) (is_output_port d.kind && bytes_eq x (n.connected cs d.name)) refl e

no_output_by : (d c : n.Declaration) (ds : List n.Declaration) (cs : List Connection) (x : Name) (k : ℕ) → (n.tied_output ds cs x (k + 1) ≡ None → In ds c → ⊥) → (b : Bool)
    → (is_output_port d.kind && bytes_eq x (n.connected cs d.name)) ≡ b → (if b then Some k else n.tied_output ds cs x (k + 1)) ≡ None → In (d ∷ ds) c →
    is_output_port c.kind ≡ true
    → x ≡ n.connected cs c.name → ⊥
no_output_by d c ds cs x k next true e h q out same = none-some k (sym h)
no_output_by d c ds cs x k next false e h q out same = elim (in_cons d c ds q) [
  | inl r ↦ both e (and_both (is_output_port d.kind) (bytes_eq x (n.connected cs d.name)) (ap (λ (t : n.Declaration). is_output_port t.kind) r ∙ out)
      (subst (λ (y : Name). bytes_eq x y ≡ true) (same ∙ ap (λ (t : n.Declaration). n.connected cs t.name) (sym r)) ((bytes_eq-Decides x x).1 refl)))
  | inr r ↦ next h r
]

no_output : (ds : List n.Declaration) (cs : List Connection) (x : Name) (k : ℕ) (c : n.Declaration) → n.tied_output ds cs x k ≡ None → In ds c → is_output_port c.kind ≡ true
    → x ≡ n.connected cs c.name → ⊥
no_output [] cs x k c e h out same = in_none c h
no_output (d ∷ ds) cs x k c e h out same =
    no_output_by d c ds cs x k (λ f q. no_output ds cs x (k + 1) c f q out same) (is_output_port d.kind && bytes_eq x (n.connected cs d.name)) refl e h out same

-- ---- instances that drive a name

module _ (before : List Module) where
  abbrev output_of : Instance → Name → Option ℕ
  output_of t x = n.tied_output (n.of_instance n.declarations before t) t.connections x 0

  -- the first instance that drives it
  pub record IsTiedTo (ts : List Instance) (x : Name) (k : ℕ) : Type 0 where
    pub number : ℕ
    pub instance : Instance
    pub listed : slice_get ts number ≡ Some instance
    pub port : ℕ
    pub output : output_of instance x ≡ Some port
    pub is : n.tied before ts x k ≡ source.Port (k + number) port

  tied_by : (u : Instance) (ts : List Instance) (x : Name) (k : ℕ) → (output_of u x ≡ None → IsTiedTo ts x (k + 1)) → (o : Option ℕ) → output_of u x ≡ o → IsTiedTo (u ∷ ts) x k
  tied_by u ts x k next (Some port) e =
      let zero_more : k ≡ k + 0 = omega arith in
      record {
        number = 0;
        instance = u;
        listed = refl;
        port = port;
        output = e;
        is = ap (λ o. n.tied_source k o (n.tied before ts x (k + 1))) e ∙ ap (λ j. source.Port j port) zero_more;
      }
  tied_by u ts x k next None e =
      let r = next e in
      let more : k + 1 + r.number ≡ k + suc r.number = omega arith in
      record {
        number = suc r.number;
        instance = r.instance;
        listed = r.listed;
        port = r.port;
        output = r.output;
        is = ap (λ o. n.tied_source k o (n.tied before ts x (k + 1))) e ∙ r.is ∙ ap (λ j. source.Port j r.port) more;
      }

  tied_found : (ts : List Instance) (x : Name) (k : ℕ) (t : Instance) → In ts t → (output_of t x ≡ None → ⊥) → IsTiedTo ts x k
  tied_found [] x k t h some = absurd (in_none t h)
  tied_found (u ∷ ts) x k t h some =
      tied_by u ts x k (λ none. tied_found ts x (k + 1) t (elim (in_cons u t ts h) [
        | inl e ↦ absurd (some (ap (λ (v : Instance). output_of v x) (sym e) ∙ none))
        | inr q ↦ q
      ]) some) (output_of u x) refl

-- ---- what drives a declared wire or output

pub record IsConnectedOut (ps : List Port) (cs : List Connection) (x : Name) : Type 0 where
  pub connection : Connection
  pub held : In cs connection
  pub output : is_output (port_named ps connection.port) ≡ true
  pub signal : connection.signal ≡ x

outputs_by : (c : Connection) (ps : List Port) (cs : List Connection) (x : Name) → (In (outputs ps cs) x → IsConnectedOut ps cs x) → (b : Bool) →
    is_output (port_named ps c.port) ≡ b
    → In (if b then c.signal ∷ outputs ps cs else outputs ps cs) x → IsConnectedOut ps (c ∷ cs) x
outputs_by c ps cs x next true e h = elim (in_cons c.signal x (outputs ps cs) h) [
  | inl q ↦ record { connection = c; held = in_first c cs; output = e; signal = q }
  | inr q ↦ (let r = next q in record { connection = r.connection; held = in_rest c r.connection cs r.held; output = r.output; signal = r.signal })
]
outputs_by c ps cs x next false e h = let r = next h in record { connection = r.connection; held = in_rest c r.connection cs r.held; output = r.output; signal = r.signal }

outputs_in : (ps : List Port) (cs : List Connection) (x : Name) → In (outputs ps cs) x → IsConnectedOut ps cs x
outputs_in ps [] x h = absurd (in_none x h)
outputs_in ps (c ∷ cs) x h = outputs_by c ps cs x (outputs_in ps cs x) (is_output (port_named ps c.port)) refl h

-- the connection to a port is the only one
only_by : (c d : Connection) (cs : List Connection) → (In cs c → n.connected cs c.port ≡ c.signal) → are_distinct (connected_ports (d ∷ cs)) ≡ true → In (d ∷ cs) c → (b : Bool)
    → bytes_eq c.port d.port ≡ b → (if b then d.signal else n.connected cs c.port) ≡ c.signal
only_by c d cs next apart h true e = elim (in_cons d c cs h) [
  | inl q ↦ ap (λ (t : Connection). t.signal) q
  | inr q ↦ absurd (known_not d.port (connected_ports cs) apart (subst (In (connected_ports cs)) ((bytes_eq-Decides c.port d.port).0 e) (port_in cs c q)))
] where
  port_in : (cs : List Connection) (c : Connection) → In cs c → In (connected_ports cs) c.port
  port_in [] c q = absurd (in_none c q)
  port_in (d ∷ cs) c q = elim (in_cons d c cs q) [
    | inl r ↦ subst (λ (t : Connection). In (connected_ports (d ∷ cs)) t.port) r (in_first d.port (connected_ports cs))
    | inr r ↦ in_rest d.port c.port (connected_ports cs) (port_in cs c r)
  ]

  known_not : (x : Name) (xs : Names) → are_distinct (x ∷ xs) ≡ true → In xs x → ⊥
  known_not x xs h q = both (not-true (is_known xs x) (and_parts (not (is_known xs x)) (are_distinct xs) h).0) (in_holds bytes_eq bytes_eq-Decides xs x q)
only_by c d cs next apart h false e = elim (in_cons d c cs h) [
  | inl q ↦ both e (subst (λ (t : Connection). bytes_eq c.port t.port ≡ true) (sym q) ((bytes_eq-Decides c.port c.port).1 refl))
  | inr q ↦ next q
]

only : (cs : List Connection) (c : Connection) → are_distinct (connected_ports cs) ≡ true → In cs c → n.connected cs c.port ≡ c.signal
only [] c apart h = absurd (in_none c h)
only (d ∷ cs) c apart h =
    only_by c d cs (only cs c (and_parts (not (is_known (connected_ports cs) d.port)) (are_distinct (connected_ports cs)) apart).1) apart h (bytes_eq c.port d.port) refl

-- an output that is found by its name
is_out : (o : Option Port) → is_output o ≡ true → (p : Port) × (o ≡ Some p) × (p.direction ≡ direction.Output)
is_out None h = absurd (cc)
is_out (Some p) h = (p, refl, by_direction p.direction h) where
  by_direction : (r : Direction) → is_output (Some (record p { direction = r })) ≡ true → r ≡ direction.Output
  by_direction direction.Output e = refl
  by_direction direction.Input e = absurd (cc)

output_kind : (d : n.Declaration) → is_output_port d.kind ≡ true → d.kind ≡ n.OutputPort
output_kind d h = by_kind d.kind h where
  by_kind : (k : n.Kind) → is_output_port k ≡ true → k ≡ n.OutputPort
  by_kind n.OutputPort e = refl
  by_kind n.InputPort e = absurd (cc)
  by_kind n.PlainWire e = absurd (cc)
  by_kind n.Reg e = absurd (cc)

module _ (ms : List Module) (whole : Facts) (each : EachAfter (IsModule whole) after_module nothing ms) (k : ℕ) (m : Module) (found : slice_get ms k ≡ Some m) where
  abbrev before : List Module
  before = take k ms

  abbrev f : Facts
  f = facts_at ms whole each k

  abbrev all : Facts
  all = module_facts f m

  abbrev scope : Scope
  scope = all.scope

  abbrev is : IsModule whole f m
  is = formed ms whole each k m found

  -- ---- it has a driver

  known_item : (at : ℕ) (x : Item) → slice_get m.items at ≡ Some x → (d : n.Declaration) → n.item_declaration x ≡ Some d → is_driven_kind d.kind ≡ true →
      is_known all.driven d.name ≡ true
  known_item at (i.Wire y) there d e h = subst (λ (t : n.Declaration). is_known all.driven t.name ≡ true) (same_Some _ d e) (item_is whole f m is at (i.Wire y) there).complete
  known_item at (i.Register y) there d e h = both (ap (λ (t : n.Declaration). is_driven_kind t.kind) (sym (same_Some _ d e))) h
  known_item at (i.Memory y) there d e h = absurd (none-some d e)
  known_item at (i.Assign y) there d e h = absurd (none-some d e)
  known_item at (i.Initial y) there d e h = absurd (none-some d e)
  known_item at (i.Always y) there d e h = absurd (none-some d e)
  known_item at (i.Instance y) there d e h = absurd (none-some d e)

  no_input : (r : Direction) → is_driven_kind (kind_at r) ≡ true → is_input r ≡ false
  no_input direction.Input h = absurd (cc)
  no_input direction.Output h = refl

  known_port : (at : ℕ) (p : Port) → slice_get m.ports at ≡ Some p → (d : n.Declaration) → n.declaration (kind_at p.direction) p ≡ d → is_driven_kind d.kind ≡ true
      → is_known all.driven d.name ≡ true
  known_port at p there d e h =
      subst (λ (t : n.Declaration). is_known all.driven t.name ≡ true) e
      (or_there (is_input p.direction) (is_known all.driven p.name) (port_is whole f m is at p there).driven
      (no_input p.direction (ap (λ (t : n.Declaration). is_driven_kind t.kind) e ∙ h)))

  known : (d : n.Declaration) → In (n.declarations m) d → is_driven_kind d.kind ≡ true → is_known all.driven d.name ≡ true
  known d q h = elim (in_either (n.input_ports m ++ flat_map inner_declarations m.items) (n.output_ports m) d q) [
    | inl p ↦ elim (in_either (n.input_ports m) (flat_map inner_declarations m.items) d p) [
      | inl o ↦ (let r = in_unflat (λ (t : Port). n.input_port t.direction t) m.ports d o in known_port r.at r.x r.found d (in_input_ports r.x.direction r.x d r.inside) h)
      | inr o ↦ (let r = in_unflat inner_declarations m.items d o in known_item r.at r.x r.found d (some_in (n.item_declaration r.x) d r.inside) h)
    ]
    | inr p ↦ (let r = in_unflat (λ (t : Port). n.output_port t.direction t) m.ports d p in known_port r.at r.x r.found d (in_output_ports r.x.direction r.x d r.inside) h)
  ]

  -- an item that drives it
  record IsDriving (x : Name) : Type 0 where
    pub at : ℕ
    pub item : Item
    pub there : slice_get m.items at ≡ Some item
    pub drives_it : In (drives f.modules item) x

  driven_are : all.driven ≡ after with_name [] (flat_map (drives f.modules) m.items)
  driven_are = items_driven (port_facts f m) m.items ∙ ap (λ (g : Facts). after with_name g.driven (flat_map (drives g.modules) m.items)) (port_facts_are f m)

  driving : (x : Name) → is_known all.driven x ≡ true → IsDriving x
  driving x h = elim (after_in bytes_eq bytes_eq-Decides [] (flat_map (drives f.modules) m.items) x (subst (λ (l : Names). In l x) driven_are (is_known_in all.driven x h))) [
    | inl q ↦ absurd (in_none x q)
    | inr q ↦ (let r = in_unflat (drives f.modules) m.items x q in record { at = r.at; item = r.x; there = r.found; drives_it = r.inside })
  ]

  -- an instance whose output drives a name
  ties : (at : ℕ) (t : Instance) → slice_get m.items at ≡ Some (i.Instance t) → (x : Name) → In (drives f.modules (i.Instance t)) x → output_of before t x ≡ None → ⊥
  ties at t there x h none =
      let o = instance_of ms whole each k m found at t there in
      let ports : ports_of (interface_named f.modules t.module_name) ≡ o.of.ports = ap ports_of o.named ∙ ap (λ (y : Interface). y.ports) o.is in
      let c = outputs_in o.of.ports t.connections x (subst (λ (ps : List Port). In (outputs ps t.connections) x) ports h) in
      let p = is_out (port_named o.of.ports c.connection.port) c.output in
      let q = port_found o.of.ports c.connection.port p.0 p.1 in
      let apart = (and_parts (are_distinct (connected_ports t.connections)) (all_right (λ (y : Port). is_known (connected_ports t.connections) y.name) o.of.ports)
      (and_parts _ (are_distinct (connected_ports t.connections) && all_right (λ (y : Port). is_known (connected_ports t.connections) y.name) o.of.ports) o.right).1).0 in
      let d : n.Declaration = n.declaration (kind_at (p.0).direction) p.0 in
      let here : n.of_instance n.declarations before t ≡ n.declarations o.of = ap (λ (j : ℕ). n.of_module n.declarations (slice_get before j)) o.place_is ∙ ap
      (n.of_module n.declarations) o.held in
      let tied_here : x ≡ n.connected t.connections d.name =
      sym c.signal ∙ sym (only t.connections c.connection apart c.held) ∙ ap (n.connected t.connections) (sym q.name) in
      no_output (n.declarations o.of) t.connections x 0 d (ap (λ ds. n.tied_output ds t.connections x 0) (sym here) ∙ none) (port_declared o.of q.at p.0 q.found)
      (ap (λ r. is_output_port (kind_at r)) p.2) tied_here

  -- a wire or an output has an assign, or an output of an instance
  abbrev pub IsDriver : Name → Type 0
  IsDriver x =
      ((right : Expression) × (n.assigned (n.assign_items m) x ≡ Some right))
      ⊎ ((n.assigned (n.assign_items m) x ≡ None) × IsTiedTo before (n.instance_items m) x 0)

  tied_item : (x : Name) → n.assigned (n.assign_items m) x ≡ None → (at : ℕ) (y : Item) → slice_get m.items at ≡ Some y → In (drives f.modules y) x →
      IsTiedTo before (n.instance_items m) x 0
  tied_item x none at (i.Instance t) there h =
      tied_found before (n.instance_items m) x 0 t (in_flat (λ (y : Item). n.some (n.instance_item y)) m.items at (i.Instance t) t there (in_first t [])) (ties at t there x h)
  tied_item x none at (i.Assign a) there h =
      absurd (no_assign (n.assign_items m) x a none (in_flat (λ (y : Item). n.some (n.assign_item y)) m.items at (i.Assign a) a there (in_first a [])) (sym (in_one a.target x h)))
  tied_item x none at (i.Wire y) there h = absurd (in_none x h)
  tied_item x none at (i.Register y) there h = absurd (in_none x h)
  tied_item x none at (i.Memory y) there h = absurd (in_none x h)
  tied_item x none at (i.Initial y) there h = absurd (in_none x h)
  tied_item x none at (i.Always y) there h = absurd (in_none x h)

  driver_by : (d : n.Declaration) → In (n.declarations m) d → is_driven_kind d.kind ≡ true → (o : Option Expression) → n.assigned (n.assign_items m) d.name ≡ o → IsDriver d.name
  driver_by d q h (Some right) e = inl (right, e)
  driver_by d q h None e = let r = driving d.name (known d q h) in inr (e, tied_item d.name e r.at r.item r.there r.drives_it)

  pub driver : (d : n.Declaration) → In (n.declarations m) d → is_driven_kind d.kind ≡ true → IsDriver d.name
  driver d q h = driver_by d q h (n.assigned (n.assign_items m) d.name) refl

  -- ---- widths

  -- what is assigned fits the width
  pub assigned_right : (d : n.Declaration) (right : Expression) → In (n.declarations m) d → is_driven_kind d.kind ≡ true → n.assigned (n.assign_items m) d.name ≡ Some right
      → expression_right scope right d.width ≡ true
  assigned_right d right q h e =
      let a = assign_found (n.assign_items m) d.name right e in
      let r = in_unflat (λ (x : Item). n.some (n.assign_item x)) m.items a.assign a.held in
      let there : slice_get m.items r.at ≡ Some (i.Assign a.assign) = r.found ∙ ap Some (assign_is r.x a.assign (some_in (n.assign_item r.x) a.assign r.inside)) in
      let rule : assign_right scope a.assign.target a.assign.value ≡ true = (item_is whole f m is r.at (i.Assign a.assign) there).right in
      let width = driven_width (kind_of scope a.assign.target) in
      let fits = (and_parts (nat_lt 0 width) (expression_right scope a.assign.value width) rule).1 in
      let wide : width ≡ d.width = ap (λ (x : Name). driven_width (kind_of scope x)) (sym a.target) ∙ driven whole f m is d (told whole f m is d q) h in
      subst (λ (w : ℕ). expression_right scope right w ≡ true) wide (subst (λ (x : Expression). expression_right scope x width ≡ true) a.value fits)

  -- the port of an instance that drives a name, and its width
  pub record IsWidePort (x : Name) (port w : ℕ) (t : Instance) : Type 0 where
    pub is : IsInstanceOf ms whole each k m found t
    pub declared : n.Declaration
    pub listed : slice_get (n.declarations is.of) port ≡ Some declared
    pub wide : declared.width ≡ w

  pub port_wide : (d : n.Declaration) → In (n.declarations m) d → is_driven_kind d.kind ≡ true → (r : IsTiedTo before (n.instance_items m) d.name 0)
      → IsWidePort d.name r.port d.width r.instance
  port_wide d q h r =
      let there = instance_at m r.instance (record { at = r.number; found = r.listed }) in
      let o = instance_of ms whole each k m found there.at r.instance there.found in
      let here : n.of_instance n.declarations before r.instance ≡ n.declarations o.of = ap (λ (j : ℕ). n.of_module n.declarations (slice_get before j)) o.place_is ∙ ap
      (n.of_module n.declarations) o.held in
      let p = output_found (n.declarations o.of) r.instance.connections d.name 0 r.port (ap (λ ds. n.tied_output ds r.instance.connections d.name 0) (sym here) ∙ r.output) in
      let is_port = p.port_is in
      let same_port : r.port ≡ p.number = omega (arith, is_port) in
      let wide : driven_width (kind_of scope (n.connected r.instance.connections p.declared.name)) ≡ p.declared.width =
      output_tied ms whole each k m found r.instance o p.declared (record { at = p.number; found = p.listed }) (output_kind p.declared p.output) in
      record {
        is = o;
        declared = p.declared;
        listed = ap (slice_get (n.declarations o.of)) same_port ∙ p.listed;
        wide = sym wide ∙ ap (λ (x : Name). driven_width (kind_of scope x)) (sym p.tied) ∙ driven whole f m is d (told whole f m is d q) h;
      }
