-- What is made of a module's tables is the module of the netlist.
use Rattle.std.proofs.Common.{◌≡◌, refl, sym, ap, ◌∙◌, ℕ, ◌+◌, Bool, true, false, List, [], ◌∷◌, ◌++◌, map, length, take, drop, Option, Some, None, ◌<◌, arith}
use Rattle.std.proofs.Common.{get_or, append_assoc}
use Rattle.std.proofs.lemmas.List.{drop_more, length-append, length-map, map-append, take_more}
use Rattle.std.specs.Prelude.{if◌then◌else◌, ◌&&◌}
use Rattle.std.specs.List.{flat_map}
use Rattle.std.specs.Str.{bytes_eq}
use Rattle.verilog_tree.specs.declared.tree.Connection.{Connection}
use Rattle.verilog_tree.specs.declared.tree.Direction.{Direction}
use Rattle.verilog_tree.specs.declared.tree.Direction.TheVariants as direction
use Rattle.verilog_tree.specs.declared.tree.Expression.{Expression}
use Rattle.verilog_tree.specs.declared.tree.InitialConstant.{InitialConstant}
use Rattle.verilog_tree.specs.declared.tree.Instance.{Instance}
use Rattle.verilog_tree.specs.declared.tree.Item.{Item}
use Rattle.verilog_tree.specs.declared.tree.Item.TheVariants as i
use Rattle.verilog_tree.specs.declared.tree.Memory.{Memory}
use Rattle.verilog_tree.specs.declared.tree.Module.{Module}
use Rattle.verilog_tree.specs.declared.tree.Port.{Port}
use Rattle.netlist.specs.declared.netlist.Source.{Source}
use Rattle.netlist.specs.declared.netlist.Source.TheVariants as source
use Rattle.netlist.specs.declared.netlist.Module as netlist_module
use Rattle.netlist.specs.NetlistOf as n
use Rattle.netlist.specs.NetlistOf.{Name, Declaration, InputPort, OutputPort, is_output_port, module_of, modules_of}
use Rattle.net_names.specs.declared.kinds.Kind.{Kind}
use Rattle.net_names.specs.declared.tables.Tables.{Tables}
use Rattle.net_names.specs.Names.{is_side, side_names, item_name, item_names, memory_name, names_in, memory_names_in, first_output}
use Rattle.net_names.specs.Kinds.{IsKind, module_at}
use Rattle.net_names.specs.Tabled.{AreTables}
use Rattle.net_names.specs.Ties.{Tied, port_ties, kind_ties, all_ties, tied_source}
use Rattle.net_netlist.specs.Laid as laid

-- what is made of the parts of each part
pub map_flat : {A B C : Type 0} (f : B → C) (g : A → List B) (h : A → List C) → ((a : A) → map f (g a) ≡ h a) → (xs : List A) → map f (flat_map g xs) ≡ flat_map h xs
map_flat f g h e [] = refl
map_flat f g h e (x ∷ xs) = map-append f (g x) (flat_map g xs) ∙ (λ t. e x t ++ map_flat f g h e xs t)

-- ---- ports

module _ {C : Type 0} (f : Declaration → C) where
  input_by : (d : Direction) (p : Port) → map f (n.input_port d p) ≡ (if is_side true d then f (n.declaration InputPort p) ∷ [] else [])
  input_by direction.Input p = refl
  input_by direction.Output p = refl

  output_by : (d : Direction) (p : Port) → map f (n.output_port d p) ≡ (if is_side false d then f (n.declaration OutputPort p) ∷ [] else [])
  output_by direction.Input p = refl
  output_by direction.Output p = refl

  pub inputs_are : (ports : List Port) → map f (flat_map (λ (p : Port). n.input_port p.direction p) ports)
      ≡ flat_map (λ (p : Port). if is_side true p.direction then f (n.declaration InputPort p) ∷ [] else []) ports
  inputs_are ports = map_flat f (λ (p : Port). n.input_port p.direction p) (λ (p : Port). if is_side true p.direction then f (n.declaration InputPort p) ∷ [] else [])
      (λ p. input_by p.direction p) ports

  pub outputs_are : (ports : List Port) → map f (flat_map (λ (p : Port). n.output_port p.direction p) ports)
      ≡ flat_map (λ (p : Port). if is_side false p.direction then f (n.declaration OutputPort p) ∷ [] else []) ports
  outputs_are ports = map_flat f (λ (p : Port). n.output_port p.direction p) (λ (p : Port). if is_side false p.direction then f (n.declaration OutputPort p) ∷ [] else [])
      (λ p. output_by p.direction p) ports

  -- the declarations of a module, each made into something
  pub declarations_are : (m : Module) (inner : List C) → map f (flat_map (λ x. n.some (n.item_declaration x)) m.items) ≡ inner →
      map f (n.declarations m) ≡ flat_map (λ (p : Port). if is_side true p.direction then f (n.declaration InputPort p) ∷ [] else []) m.ports ++ inner
      ++ flat_map (λ (p : Port). if is_side false p.direction then f (n.declaration OutputPort p) ∷ [] else []) m.ports
  declarations_are m inner e =
      map-append f (n.input_ports m ++ flat_map (λ x. n.some (n.item_declaration x)) m.items) (n.output_ports m)
      ∙ ap (λ l. l ++ map f (n.output_ports m)) (map-append f (n.input_ports m) (flat_map (λ x. n.some (n.item_declaration x)) m.items))
      ∙ (λ t. inputs_are m.ports t ++ e t ++ outputs_are m.ports t)

-- ---- names

item_name_is : (x : Item) → map (λ (d : Declaration). d.name) (n.some (n.item_declaration x)) ≡ item_name x
item_name_is (i.Wire x) = refl
item_name_is (i.Register x) = refl
item_name_is (i.Memory x) = refl
item_name_is (i.Assign x) = refl
item_name_is (i.Initial x) = refl
item_name_is (i.Always x) = refl
item_name_is (i.Instance x) = refl

item_names_are : (items : List Item) → map (λ (d : Declaration). d.name) (flat_map (λ x. n.some (n.item_declaration x)) items) ≡ item_names items
item_names_are items = map_flat (λ (d : Declaration). d.name) (λ x. n.some (n.item_declaration x)) item_name item_name_is items

pub names_are : (modules : List Module) (m : Module) → n.signal_names modules m ≡ names_in m
names_are modules m = declarations_are (λ (d : Declaration). d.name) m (item_names m.items) (item_names_are m.items)

memory_name_is : (x : Item) → map (λ (y : Memory). y.name) (n.some (n.memory_item x)) ≡ memory_name x
memory_name_is (i.Wire x) = refl
memory_name_is (i.Register x) = refl
memory_name_is (i.Memory x) = refl
memory_name_is (i.Assign x) = refl
memory_name_is (i.Initial x) = refl
memory_name_is (i.Always x) = refl
memory_name_is (i.Instance x) = refl

pub memory_names_are : (modules : List Module) (m : Module) → n.memory_names modules m ≡ memory_names_in m
memory_names_are modules m = map_flat (λ (y : Memory). y.name) (λ x. n.some (n.memory_item x)) memory_name memory_name_is m.items

-- ---- ties

-- declarations of which none is an output
abbrev NoOutputs : List Declaration → Type 0
NoOutputs [] = Unit {0}
NoOutputs (d ∷ ds) = (is_output_port d.kind ≡ false) × NoOutputs ds

no_outputs_append : (xs ys : List Declaration) → NoOutputs xs → NoOutputs ys → NoOutputs (xs ++ ys)
no_outputs_append [] ys p q = q
no_outputs_append (x ∷ xs) ys p q = (p.0, no_outputs_append xs ys p.1 q)

input_no_output : (d : Direction) (p : Port) → NoOutputs (n.input_port d p)
input_no_output direction.Input p = (refl, tt)
input_no_output direction.Output p = tt

inputs_no_outputs : (ports : List Port) → NoOutputs (flat_map (λ (p : Port). n.input_port p.direction p) ports)
inputs_no_outputs [] = tt
inputs_no_outputs (p ∷ ports) = no_outputs_append (n.input_port p.direction p) _ (input_no_output p.direction p) (inputs_no_outputs ports)

item_no_output : (x : Item) → NoOutputs (n.some (n.item_declaration x))
item_no_output (i.Wire x) = (refl, tt)
item_no_output (i.Register x) = (refl, tt)
item_no_output (i.Memory x) = tt
item_no_output (i.Assign x) = tt
item_no_output (i.Initial x) = tt
item_no_output (i.Always x) = tt
item_no_output (i.Instance x) = tt

items_no_outputs : (items : List Item) → NoOutputs (flat_map (λ x. n.some (n.item_declaration x)) items)
items_no_outputs [] = tt
items_no_outputs (x ∷ items) = no_outputs_append (n.some (n.item_declaration x)) _ (item_no_output x) (items_no_outputs items)

skip_by : (b : Bool) (x : Name) (cs : List Connection) (name : Name) (k j : ℕ) (ds : List Declaration) (o : Option ℕ) → b ≡ false → n.tied_output ds cs x (k + 1) ≡ o →
    (if b && bytes_eq x (n.connected cs name) then Some k else n.tied_output ds cs x (k + 1)) ≡ o
skip_by true x cs name k j ds o e next = cc
skip_by false x cs name k j ds o e next = next

skipped : (xs ys : List Declaration) (cs : List Connection) (x : Name) (k : ℕ) → NoOutputs xs → n.tied_output (xs ++ ys) cs x k ≡ n.tied_output ys cs x (k + length xs)
skipped [] ys cs x k none = let e : k ≡ k + 0 = omega arith in ap (n.tied_output ys cs x) e
skipped (d ∷ xs) ys cs x k none =
    let e : (k + 1) + length xs ≡ k + length (d ∷ xs) = omega arith in
    skip_by (is_output_port d.kind) x cs d.name k k (xs ++ ys) (n.tied_output ys cs x (k + length (d ∷ xs))) none.0
    (skipped xs ys cs x (k + 1) none.1 ∙ ap (n.tied_output ys cs x) e)

before_outputs : (m : Module) → length (n.input_ports m ++ flat_map (λ x. n.some (n.item_declaration x)) m.items) ≡ first_output m
before_outputs m =
    let inner = flat_map (λ x. n.some (n.item_declaration x)) m.items in
    let inputs : length (n.input_ports m) ≡ length (side_names true m.ports) =
    sym (length-map (n.input_ports m) (λ (d : Declaration). d.name)) ∙ ap length (inputs_are (λ (d : Declaration). d.name) m.ports) in
    let items : length inner ≡ length (item_names m.items) = sym (length-map inner (λ (d : Declaration). d.name)) ∙ ap length (item_names_are m.items) in
    length-append (n.input_ports m) inner ∙ (λ t. inputs t + items t)

tied_declared : (m : Module) (cs : List Connection) (x : Name) → n.tied_output (n.declarations m) cs x 0 ≡ n.tied_output (n.output_ports m) cs x (first_output m)
tied_declared m cs x =
    let front = n.input_ports m ++ flat_map (λ y. n.some (n.item_declaration y)) m.items in
    let e : 0 + length front ≡ length front = omega arith in
    skipped front (n.output_ports m) cs x 0 (no_outputs_append (n.input_ports m) _ (inputs_no_outputs m.ports) (items_no_outputs m.items))
    ∙ ap (n.tied_output (n.output_ports m) cs x) (e ∙ before_outputs m)

tie_by : (b : Bool) (instance port : ℕ) (rest : Source) (o : Option ℕ) (others : Source) → rest ≡ n.tied_source instance o others →
    (if b then source.Port instance port else rest) ≡ n.tied_source instance (if b then Some port else o) others
tie_by true instance port rest o others e = refl
tie_by false instance port rest o others e = e

module _ (cs : List Connection) (instance : ℕ) (others : List Tied) (x : Name) where
  ports_by : (d : Direction) (p : Port) (ports : List Port) (k : ℕ) →
      ((j : ℕ) → tied_source (port_ties cs instance ports j ++ others) x
      ≡ n.tied_source instance (n.tied_output (flat_map (λ (q : Port). n.output_port q.direction q) ports) cs x j) (tied_source others x)) →
      tied_source ((if is_side false d then record { name = n.connected cs p.name; instance = instance; port = k } ∷ port_ties cs instance ports (k + 1)
      else port_ties cs instance ports k) ++ others) x
      ≡ n.tied_source instance (n.tied_output (n.output_port d p ++ flat_map (λ (q : Port). n.output_port q.direction q) ports) cs x k) (tied_source others x)
  ports_by direction.Input p ports k next = next k
  ports_by direction.Output p ports k next =
      tie_by (bytes_eq x (n.connected cs p.name)) instance k (tied_source (port_ties cs instance ports (k + 1) ++ others) x)
      (n.tied_output (flat_map (λ (q : Port). n.output_port q.direction q) ports) cs x (k + 1)) (tied_source others x) (next (k + 1))

  ports_tied : (ports : List Port) (k : ℕ) → tied_source (port_ties cs instance ports k ++ others) x
      ≡ n.tied_source instance (n.tied_output (flat_map (λ (q : Port). n.output_port q.direction q) ports) cs x k) (tied_source others x)
  ports_tied [] k = refl
  ports_tied (p ∷ ports) k = ports_by p.direction p ports k (λ j. ports_tied ports j)

  kind_tied : (o : Option Module) → tied_source (kind_ties cs instance o ++ others) x
      ≡ n.tied_source instance (n.tied_output (n.of_module n.declarations o) cs x 0) (tied_source others x)
  kind_tied None = refl
  kind_tied (Some m) = ports_tied m.ports (first_output m) ∙ ap (λ o. n.tied_source instance o (tied_source others x)) (sym (tied_declared m cs x))

pub tied_is : (all : List Module) (before : ℕ) (ns : List Instance) (k : ℕ) (x : Name) → tied_source (all_ties all before ns k) x ≡ n.tied (take before all) ns x k
tied_is all before [] k x = refl
tied_is all before (y ∷ ns) k x =
    kind_tied y.connections k (all_ties all before ns (k + 1)) x (module_at all before y.module_name)
    ∙ ap (n.tied_source k (n.tied_output (n.of_module n.declarations (module_at all before y.module_name)) y.connections x 0)) (tied_is all before ns (k + 1) x)

-- ---- a module

module _ (all : List Module) (before : ℕ) (m : Module) (t : Tables) (are : AreTables all before m t) where
  abbrev ms : List Module
  ms = take before all

  signals_same : t.names.signals ≡ n.signal_names ms m
  signals_same = are.names.signals ∙ sym (names_are ms m)

  memories_same : t.names.memories ≡ n.memory_names ms m
  memories_same = are.names.memories ∙ sym (memory_names_are ms m)

  driven_by : (o : Option Expression) (x : Name) → laid.driven_source t o x ≡ n.driven ms m o x
  driven_by None x = ap (λ l. tied_source l x) are.drivers.ties ∙ tied_is all before (n.instance_items m) 0 x
  driven_by (Some right) x = (λ s. source.Assigned (n.value (signals_same s) (memories_same s) right))

  driver_is : (x : Name) → laid.driver t x ≡ n.driven ms m (n.assigned (n.assign_items m) x) x
  driver_is x = ap (λ l. laid.driven_source t (n.assigned l x) x) are.drivers.assigns ∙ driven_by (n.assigned (n.assign_items m) x) x

  item_signal_is : (x : Item) → map (n.signal_of ms m) (n.some (n.item_declaration x)) ≡ laid.item_signal t x
  item_signal_is (i.Wire x) = ap (λ s. laid.signal x.name (n.width_of x.high) false s ∷ []) (sym (driver_is x.name))
  item_signal_is (i.Register x) = ap (λ cs. laid.signal x.name (n.width_of x.high) false (source.Register (n.initial_of cs x.name None)) ∷ []) (sym are.initials)
  item_signal_is (i.Memory x) = refl
  item_signal_is (i.Assign x) = refl
  item_signal_is (i.Initial x) = refl
  item_signal_is (i.Always x) = refl
  item_signal_is (i.Instance x) = refl

  output_signal : (b : Bool) (p : Port) → (if b then n.signal_of ms m (n.declaration OutputPort p) ∷ [] else [])
      ≡ (if b then laid.signal p.name (n.width_of p.high) true (laid.driver t p.name) ∷ [] else [])
  output_signal true p = ap (λ s. laid.signal p.name (n.width_of p.high) true s ∷ []) (sym (driver_is p.name))
  output_signal false p = refl

  each_same : {A B : Type 0} (f g : A → List B) → ((a : A) → f a ≡ g a) → (xs : List A) → flat_map f xs ≡ flat_map g xs
  each_same f g e [] = refl
  each_same f g e (x ∷ xs) = (λ s. e x s ++ each_same f g e xs s)

  pub signals_are : laid.all_signals t m ≡ map (n.signal_of ms m) (n.declarations m)
  signals_are =
      let inner = map_flat (n.signal_of ms m) (λ x. n.some (n.item_declaration x)) (laid.item_signal t) item_signal_is m.items in
      let outputs = each_same (λ (p : Port). if is_side false p.direction then n.signal_of ms m (n.declaration OutputPort p) ∷ [] else []) (laid.port_signal t false)
      (λ p. output_signal (is_side false p.direction) p) m.ports in
      sym (declarations_are (n.signal_of ms m) m (flat_map (laid.item_signal t) m.items) inner
      ∙ ap (λ l. flat_map (laid.port_signal t true) m.ports ++ flat_map (laid.item_signal t) m.items ++ l) outputs)

  memory_is : (x : Item) → map (n.memory_of ms m) (n.some (n.memory_item x)) ≡ laid.item_memory t.initials x
  memory_is (i.Wire x) = refl
  memory_is (i.Register x) = refl
  memory_is (i.Memory x) =
      ap (λ (cs : List InitialConstant). record { name = x.name; width = x.high + 1; initial = n.words_of cs x.name 0 (x.last + 1) } ∷ []) (sym are.initials)
  memory_is (i.Assign x) = refl
  memory_is (i.Initial x) = refl
  memory_is (i.Always x) = refl
  memory_is (i.Instance x) = refl

  pub memories_are : flat_map (laid.item_memory t.initials) m.items ≡ map (n.memory_of ms m) (n.memory_items m)
  memories_are = sym (map_flat (n.memory_of ms m) (λ x. n.some (n.memory_item x)) (laid.item_memory t.initials) memory_is m.items)

  pub actions_are : flat_map (n.item_actions t.names.signals t.names.memories) m.items ≡ flat_map (n.item_actions (n.signal_names ms m) (n.memory_names ms m)) m.items
  actions_are = (λ s. flat_map (n.item_actions (signals_same s) (memories_same s)) m.items)

  -- ---- instances

  inputs_by : (cs : List Connection) (o : Option Module) →
      map (λ (d : Declaration). n.place (n.signal_names ms m) (n.connected cs d.name)) (n.of_module n.input_ports o) ≡ laid.kind_places (n.signal_names ms m) cs true o
  inputs_by cs None = refl
  inputs_by cs (Some k) = inputs_are (λ (d : Declaration). n.place (n.signal_names ms m) (n.connected cs d.name)) k.ports

  outputs_by : (cs : List Connection) (o : Option Module) →
      map (λ (d : Declaration). n.place (n.signal_names ms m) (n.connected cs d.name)) (n.of_module n.output_ports o) ≡ laid.kind_places (n.signal_names ms m) cs false o
  outputs_by cs None = refl
  outputs_by cs (Some k) = outputs_are (λ (d : Declaration). n.place (n.signal_names ms m) (n.connected cs d.name)) k.ports

  instance_is : (x : Instance) → n.instance_of ms m x ≡ laid.instance_at all before (n.signal_names ms m) x
  instance_is x = (λ s. record {
    name = x.name;
    of = n.place (n.module_names ms) x.module_name;
    inputs = inputs_by x.connections (module_at all before x.module_name) s;
    outputs = outputs_by x.connections (module_at all before x.module_name) s;
  })

  item_instance_is : (x : Item) → map (n.instance_of ms m) (n.some (n.instance_item x)) ≡ laid.item_instance all before (n.signal_names ms m) x
  item_instance_is (i.Wire x) = refl
  item_instance_is (i.Register x) = refl
  item_instance_is (i.Memory x) = refl
  item_instance_is (i.Assign x) = refl
  item_instance_is (i.Initial x) = refl
  item_instance_is (i.Always x) = refl
  item_instance_is (i.Instance x) = ap (λ y. y ∷ []) (instance_is x)

  pub instances_are : flat_map (laid.item_instance all before t.names.signals) m.items ≡ map (n.instance_of ms m) (n.instance_items m)
  instances_are =
      ap (λ l. flat_map (laid.item_instance all before l) m.items) signals_same
      ∙ sym (map_flat (n.instance_of ms m) (λ x. n.some (n.instance_item x)) (laid.item_instance all before (n.signal_names ms m)) item_instance_is m.items)

-- the module that is found
pub kind_is : (all : List Module) (before : ℕ) (x : Name) (k : Option Kind) → IsKind all before x k → laid.module_of_kind k ≡ module_at all before x
kind_is all before x None e = sym e
kind_is all before x (Some k) e = sym e.0

-- ---- the modules

module-next : (before rest : List Module) (m : Module) (made : List netlist_module.Module) →
    (made ++ module_of before m ∷ []) ++ modules_of (before ++ m ∷ []) rest ≡ made ++ modules_of before (m ∷ rest)
module-next before rest m made = append_assoc made (module_of before m ∷ []) (modules_of (before ++ m ∷ []) rest)

-- one module more is made
pub one_module : (all : List Module) (k : ℕ) (d : Module) (made : List netlist_module.Module) → k < length all →
    (made ++ module_of (take k all) (get_or all k d) ∷ []) ++ modules_of (take (k + 1) all) (drop (k + 1) all) ≡ made ++ modules_of (take k all) (drop k all)
one_module all k d made lt =
    ap (λ before. (made ++ module_of (take k all) (get_or all k d) ∷ []) ++ modules_of before (drop (k + 1) all)) (take_more all k d lt)
    ∙ module-next (take k all) (drop (k + 1) all) (get_or all k d) made
    ∙ ap (λ rest. made ++ modules_of (take k all) rest) (sym (drop_more all k d lt))
