-- What the text of a module tells: its declarations, memories, assigns, constants, actions and instances.
use Rattle.std.proofs.Common.{◌≡◌, List, [], ◌∷◌, ◌++◌, refl, sym, ap, ◌∙◌, map}
use Rattle.std.specs.Prelude.{if◌then◌else◌}
use Rattle.std.specs.List.{flat_map}
use Rattle.std.proofs.lemmas.List.{append-nil, map-append}
use Rattle.std.proofs.lemmas.Simd.{map-map}
use Rattle.verilog_tree.specs.declared.tree.Port.{Port}
use Rattle.verilog_tree.specs.declared.tree.Wire.{Wire}
use Rattle.verilog_tree.specs.declared.tree.Register.{Register}
use Rattle.verilog_tree.specs.declared.tree.Assign.{Assign}
use Rattle.verilog_tree.specs.declared.tree.Item.{Item}
use Rattle.verilog_tree.specs.declared.tree.Item.TheVariants as i
use Rattle.netlist.specs.declared.netlist.Source.{Source}
use Rattle.netlist.specs.declared.netlist.Source.TheVariants as source
use Rattle.netlist.specs.declared.netlist.Signal.{Signal}
use Rattle.netlist.specs.declared.netlist.Action.{Action}
use Rattle.netlist.specs.declared.netlist.Module.{Module}
use Rattle.netlist.specs.NetlistOf as n
use Rattle.netlist.specs.NetlistOf.{Name, Kind, InputPort, OutputPort, PlainWire, Reg, Declaration, is_output_port}
use Rattle.netlist.specs.Laid.{kind_of, is_input_port, is_inner, input_signals, inner_signals, output_signals, signal_names}
use Rattle.netlist_text.specs.LaidOut as laid
use Rattle.netlist_text.proofs.Parts.{flat_flat, flat_none, flat_filter, map_none, map_single, block_none, block_all, parts}

abbrev pub as_kind : Signal → Kind → Declaration
as_kind x k = record { name = x.name; width = n.width_of (laid.high_of x.width); kind = k }

abbrev pub told_declaration : Signal → Declaration
told_declaration x = as_kind x (kind_of x)

-- ---- ports

input_of : (x : Signal) (k : Kind) → flat_map (λ (p : Port). n.input_port p.direction p) (laid.port_by x k) ≡ (if is_input_port k then as_kind x k ∷ [] else [])
input_of x InputPort = refl
input_of x OutputPort = refl
input_of x PlainWire = refl
input_of x Reg = refl

output_of : (x : Signal) (k : Kind) → flat_map (λ (p : Port). n.output_port p.direction p) (laid.port_by x k) ≡ (if is_output_port k then as_kind x k ∷ [] else [])
output_of x InputPort = refl
output_of x OutputPort = refl
output_of x PlainWire = refl
output_of x Reg = refl

inner_of : (x : Signal) (k : Kind) → flat_map (λ (y : Item). n.some (n.item_declaration y)) (laid.declared_by x k) ≡ (if is_inner k then as_kind x k ∷ [] else [])
inner_of x InputPort = refl
inner_of x OutputPort = refl
inner_of x PlainWire = refl
inner_of x Reg = refl

-- ---- parts that tell nothing

none_declared_by : {B : Type 0} (g : Item → List B) → ((y : Wire) → g (i.Wire y) ≡ []) → ((y : Register) → g (i.Register y) ≡ []) → (x : Signal) (k : Kind)
    → flat_map g (laid.declared_by x k) ≡ []
none_declared_by g wire register x InputPort = refl
none_declared_by g wire register x OutputPort = refl
none_declared_by g wire register x PlainWire = ap (λ l. l ++ []) (wire _)
none_declared_by g wire register x Reg = ap (λ l. l ++ []) (register _)

pub none_declared : {B : Type 0} (g : Item → List B) → ((y : Wire) → g (i.Wire y) ≡ []) → ((y : Register) → g (i.Register y) ≡ []) → (ss : List Signal)
    → flat_map g (flat_map laid.declared ss) ≡ []
none_declared g wire register ss = flat_flat g laid.declared ss ∙ flat_none (λ x. flat_map g (laid.declared x)) (λ x. none_declared_by g wire register x (kind_of x)) ss

none_assigned_by : {B : Type 0} (g : Item → List B) → ((y : Assign) → g (i.Assign y) ≡ []) → (m : Module) (x : Signal) (from : Source) → flat_map g (laid.assign_by m x from) ≡ []
none_assigned_by g assign m x source.Input = refl
none_assigned_by g assign m x (source.Register c) = refl
none_assigned_by g assign m x (source.Assigned right) = ap (λ l. l ++ []) (assign _)
none_assigned_by g assign m x (source.Port j port) = refl

pub none_assigned : {B : Type 0} (g : Item → List B) → ((y : Assign) → g (i.Assign y) ≡ []) → (m : Module) (ss : List Signal) → flat_map g (flat_map (laid.assign_of m) ss) ≡ []
none_assigned g assign m ss = flat_flat g (laid.assign_of m) ss ∙ flat_none (λ x. flat_map g (laid.assign_of m x)) (λ x. none_assigned_by g assign m x x.source) ss

-- ---- a module among all

module _ (all : List Module) (m : Module) where
  -- what a view of items tells of the six parts
  told : {B : Type 0} (g : Item → List B) (ra rb rc rd re rf : List B)
      → flat_map g (flat_map laid.declared m.signals) ≡ ra → flat_map g (map laid.memory_item m.memories) ≡ rb → flat_map g (flat_map (laid.assign_of m) m.signals) ≡ rc
      → flat_map g (laid.block laid.initial_item (laid.constants m)) ≡ rd → flat_map g (laid.block laid.always_item (map (laid.statement m) m.actions)) ≡ re
      → flat_map g (map (laid.instance_item all m) m.instances) ≡ rf → flat_map g (laid.items all m) ≡ ra ++ rb ++ rc ++ rd ++ re ++ rf
  told g ra rb rc rd re rf = parts g (flat_map laid.declared m.signals) (map laid.memory_item m.memories) (flat_map (laid.assign_of m) m.signals)
      (laid.block laid.initial_item (laid.constants m)) (laid.block laid.always_item (map (laid.statement m) m.actions)) (map (laid.instance_item all m) m.instances)
      ra rb rc rd re rf

  told_inputs : n.input_ports (laid.text_of_module all m) ≡ map told_declaration (input_signals m)
  told_inputs =
      flat_flat (λ (p : Port). n.input_port p.direction p) laid.port_of m.signals
      ∙ flat_filter (λ (x : Signal). is_input_port (kind_of x)) told_declaration (λ x. flat_map (λ (p : Port). n.input_port p.direction p) (laid.port_of x)) (λ x. input_of x (kind_of x)) m.signals

  told_outputs : n.output_ports (laid.text_of_module all m) ≡ map told_declaration (output_signals m)
  told_outputs =
      flat_flat (λ (p : Port). n.output_port p.direction p) laid.port_of m.signals
      ∙ flat_filter (λ (x : Signal). is_output_port (kind_of x)) told_declaration (λ x. flat_map (λ (p : Port). n.output_port p.direction p) (laid.port_of x)) (λ x. output_of x
      (kind_of x)) m.signals

  told_inner : flat_map (λ (y : Item). n.some (n.item_declaration y)) (laid.items all m) ≡ map told_declaration (inner_signals m)
  told_inner =
      let g : Item → List Declaration = λ y. n.some (n.item_declaration y) in
      let d : List Declaration = map told_declaration (inner_signals m) in
      told g d [] [] [] [] []
      (flat_flat g laid.declared m.signals
      ∙ flat_filter (λ (x : Signal). is_inner (kind_of x)) told_declaration (λ x. flat_map g (laid.declared x)) (λ x. inner_of x (kind_of x)) m.signals)
      (map_none g laid.memory_item (λ x. refl) m.memories) (none_assigned g (λ x. refl) m m.signals)
      (block_none g laid.initial_item (λ x. refl) (laid.constants m)) (block_none g laid.always_item (λ x. refl) (map (laid.statement m) m.actions))
      (map_none g (laid.instance_item all m) (λ x. refl) m.instances)
      ∙ simp append-nil

  pub told_declarations : m.signals ≡ input_signals m ++ inner_signals m ++ output_signals m → n.declarations (laid.text_of_module all m) ≡ map told_declaration m.signals
  told_declarations order =
      let a : List Declaration = map told_declaration (input_signals m) in
      let b : List Declaration = map told_declaration (inner_signals m) in
      let inner : List Declaration = flat_map (λ (y : Item). n.some (n.item_declaration y)) (laid.items all m) in
      ap (λ l. l ++ inner ++ n.output_ports (laid.text_of_module all m)) told_inputs ∙ ap (λ l. a ++ l ++ n.output_ports (laid.text_of_module all m)) told_inner
      ∙ ap (λ l. a ++ b ++ l) told_outputs
      ∙ sym (map-append told_declaration (input_signals m ++ inner_signals m) (output_signals m)
      ∙ ap (λ l. l ++ map told_declaration (output_signals m)) (map-append told_declaration (input_signals m) (inner_signals m)))
      ∙ ap (map told_declaration) (sym order)

  pub told_ports_in : n.input_ports (laid.text_of_module all m) ≡ map told_declaration (input_signals m)
  told_ports_in = told_inputs

  pub told_ports_out : n.output_ports (laid.text_of_module all m) ≡ map told_declaration (output_signals m)
  told_ports_out = told_outputs

  pub told_memories : n.memory_items (laid.text_of_module all m) ≡ map laid.memory_of m.memories
  told_memories =
      let g : Item → List _ = λ y. n.some (n.memory_item y) in
      told g [] (map laid.memory_of m.memories) [] [] [] []
      (none_declared g (λ x. refl) (λ x. refl) m.signals) (map_single g laid.memory_item laid.memory_of (λ x. refl) m.memories) (none_assigned g (λ x. refl) m m.signals)
      (block_none g laid.initial_item (λ x. refl) (laid.constants m)) (block_none g laid.always_item (λ x. refl) (map (laid.statement m) m.actions))
      (map_none g (laid.instance_item all m) (λ x. refl) m.instances)
      ∙ simp append-nil

  pub told_assigns : n.assign_items (laid.text_of_module all m) ≡ flat_map (λ (x : Signal). flat_map (λ (y : Item). n.some (n.assign_item y)) (laid.assign_of m x)) m.signals
  told_assigns =
      let g : Item → List Assign = λ y. n.some (n.assign_item y) in
      told g [] [] (flat_map (λ (x : Signal). flat_map g (laid.assign_of m x)) m.signals) [] [] []
      (none_declared g (λ x. refl) (λ x. refl) m.signals) (map_none g laid.memory_item (λ x. refl) m.memories) (flat_flat g (laid.assign_of m) m.signals)
      (block_none g laid.initial_item (λ x. refl) (laid.constants m)) (block_none g laid.always_item (λ x. refl) (map (laid.statement m) m.actions))
      (map_none g (laid.instance_item all m) (λ x. refl) m.instances)
      ∙ simp append-nil

  pub told_constants : flat_map n.initial_constants (laid.items all m) ≡ laid.constants m
  told_constants =
      let g = n.initial_constants in
      told g [] [] [] (laid.constants m) [] []
      (none_declared g (λ x. refl) (λ x. refl) m.signals) (map_none g laid.memory_item (λ x. refl) m.memories) (none_assigned g (λ x. refl) m m.signals)
      (block_all g laid.initial_item (λ cs. cs) (λ x. refl) refl (laid.constants m)) (block_none g laid.always_item (λ x. refl) (map (laid.statement m) m.actions))
      (map_none g (laid.instance_item all m) (λ x. refl) m.instances)
      ∙ simp append-nil

  pub told_instances : n.instance_items (laid.text_of_module all m) ≡ map (laid.instance_of all m) m.instances
  told_instances =
      let g : Item → List _ = λ y. n.some (n.instance_item y) in
      told g [] [] [] [] [] (map (laid.instance_of all m) m.instances)
      (none_declared g (λ x. refl) (λ x. refl) m.signals) (map_none g laid.memory_item (λ x. refl) m.memories) (none_assigned g (λ x. refl) m m.signals)
      (block_none g laid.initial_item (λ x. refl) (laid.constants m)) (block_none g laid.always_item (λ x. refl) (map (laid.statement m) m.actions))
      (map_single g (laid.instance_item all m) (laid.instance_of all m) (λ x. refl) m.instances)

  pub told_actions : (signals memories : List Name) → flat_map (n.item_actions signals memories) (laid.items all m)
      ≡ flat_map (λ s. n.statement_actions signals memories s []) (map (laid.statement m) m.actions)
  told_actions signals memories =
      let g : Item → List Action = n.item_actions signals memories in
      told g [] [] [] [] (flat_map (λ s. n.statement_actions signals memories s []) (map (laid.statement m) m.actions)) []
      (none_declared g (λ x. refl) (λ x. refl) m.signals) (map_none g laid.memory_item (λ x. refl) m.memories) (none_assigned g (λ x. refl) m m.signals)
      (block_none g laid.initial_item (λ x. refl) (laid.constants m))
      (block_all g laid.always_item (λ body. flat_map (λ s. n.statement_actions signals memories s []) body) (λ x. refl) refl (map (laid.statement m) m.actions))
      (map_none g (laid.instance_item all m) (λ x. refl) m.instances)
      ∙ simp append-nil

  pub told_signal_names : m.signals ≡ input_signals m ++ inner_signals m ++ output_signals m → map (λ (d : Declaration). d.name) (n.declarations (laid.text_of_module all m)) ≡ signal_names m
  told_signal_names order = ap (map (λ (d : Declaration). d.name)) (told_declarations order) ∙ map-map (λ (d : Declaration). d.name) told_declaration m.signals
