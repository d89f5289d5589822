-- What a front of a module's items declares, drives, writes, gives and places.
use Rattle.std.proofs.Common.{◌≡◌, ℕ, ◌⊎◌, List, [], ◌∷◌, ◌++◌, Bool, true, false, Some, refl, sym, ap, ◌∙◌, subst, inl, inr, map}
use Rattle.std.specs.Prelude.{slice_get, ◌-◌, length, if◌then◌else◌}
use Rattle.std.specs.List.{flat_map}
use Rattle.std.proofs.lemmas.List.{append-nil, map-append}
use Rattle.verilog_tree.specs.declared.kind.SignalClass.TheVariants as class
use Rattle.verilog_tree.specs.declared.kind.Kind as scope_kind
use Rattle.verilog_tree.specs.declared.kind.Kind.TheVariants as kind
use Rattle.verilog_tree.specs.declared.tree.InitialConstant.{InitialConstant}
use Rattle.verilog_tree.specs.declared.tree.Statement.{Statement}
use Rattle.verilog_tree.specs.declared.tree.Item.{Item}
use Rattle.verilog_tree.specs.Scope.{Name, Names, is_clk, signal, declaration, port_declaration}
use Rattle.verilog_tree.specs.Scope as scope
use Rattle.verilog_tree.specs.Facts.{Interface, Place, place_of, drives, written_by}
use Rattle.netlist.specs.declared.netlist.Value.{Value}
use Rattle.netlist.specs.declared.netlist.Source.{Source}
use Rattle.netlist.specs.declared.netlist.Source.TheVariants as source
use Rattle.netlist.specs.declared.netlist.Signal.{Signal}
use Rattle.netlist.specs.declared.netlist.Memory.{Memory}
use Rattle.netlist.specs.declared.netlist.Instance.{Instance}
use Rattle.netlist.specs.declared.netlist.Module.{Module}
use Rattle.netlist.specs.NetlistOf.{Kind, InputPort, OutputPort, PlainWire, Reg, some}
use Rattle.netlist.specs.Laid.{kind_of, is_inner}
use Rattle.netlist_text.specs.LaidOut as laid
use Rattle.netlist_text.proofs.Parts.{flat_flat, map_none, map_single, block_none, block_all, parts}
use Rattle.netlist_text.proofs.Told.{none_declared, none_assigned}
use Rattle.netlist_text.proofs.Members.{In, Entry, in_none, in_one, in_first, in_front, in_back, in_either, in_map, in_unmap, in_flat, in_unflat}
use Rattle.netlist_text.proofs.Grown.{item_writes, item_places, item_modules}

-- ---- what a signal is declared as

abbrev pub told_kind_by : Signal → Kind → scope_kind.Kind
told_kind_by x InputPort = if is_clk x.name then kind.Clock else signal class.Input (laid.high_of x.width)
told_kind_by x OutputPort = if is_clk x.name then kind.Clock else signal class.Output (laid.high_of x.width)
told_kind_by x PlainWire = signal class.Wire (laid.high_of x.width)
told_kind_by x Reg = signal class.Register (laid.high_of x.width)

abbrev pub told_kind : Signal → scope_kind.Kind
told_kind x = told_kind_by x (kind_of x)

abbrev pub told_entry : Signal → Entry
told_entry x = (x.name, told_kind x)

abbrev pub memory_kind : Memory → scope_kind.Kind
memory_kind c = kind.Memory (scope.width_of (Some (c.width - 1))) (length c.initial - 1)

abbrev pub memory_entry : Memory → Entry
memory_entry c = (c.name, memory_kind c)

abbrev pub instance_entry : Instance → Entry
instance_entry n = (n.name, kind.Instance)

abbrev pub is_port : Kind → Bool
is_port InputPort = true
is_port OutputPort = true
is_port PlainWire = false
is_port Reg = false

abbrev declares : Item → List Entry
declares y = some (declaration y)

-- ---- ports

port_entry_by : (x : Signal) (k : Kind) (e : Entry) → In (map port_declaration (laid.port_by x k)) e → (is_port k ≡ true) × (e ≡ (x.name, told_kind_by x k))
port_entry_by x InputPort e h = (refl, sym (in_one _ e h))
port_entry_by x OutputPort e h = (refl, sym (in_one _ e h))
port_entry_by x PlainWire e h = absurd (in_none e h)
port_entry_by x Reg e h = absurd (in_none e h)

port_entry_there : (x : Signal) (k : Kind) → is_port k ≡ true → In (map port_declaration (laid.port_by x k)) (x.name, told_kind_by x k)
port_entry_there x InputPort h = in_first _ []
port_entry_there x OutputPort h = in_first _ []
port_entry_there x PlainWire h = cc
port_entry_there x Reg h = cc

ports_flat : (ss : List Signal) → map port_declaration (flat_map laid.port_of ss) ≡ flat_map (λ (x : Signal). map port_declaration (laid.port_of x)) ss
ports_flat [] = refl
ports_flat (x ∷ ss) = map-append port_declaration (laid.port_of x) (flat_map laid.port_of ss) ∙ ap (λ l. map port_declaration (laid.port_of x) ++ l) (ports_flat ss)

-- a declaration of a signal among these
pub record OfSignal (ss : List Signal) (p : Kind → Bool) (e : Entry) : Type 0 where
  pub s : Signal
  pub at : ℕ
  pub found : slice_get ss at ≡ Some s
  pub passes : p (kind_of s) ≡ true
  pub is : e ≡ told_entry s

pub record OfMemory (cs : List Memory) (e : Entry) : Type 0 where
  pub c : Memory
  pub at : ℕ
  pub found : slice_get cs at ≡ Some c
  pub is : e ≡ memory_entry c

pub record OfInstance (ns : List Instance) (e : Entry) : Type 0 where
  pub n : Instance
  pub at : ℕ
  pub found : slice_get ns at ≡ Some n
  pub is : e ≡ instance_entry n

pub port_entries : (ss : List Signal) (e : Entry) → In (map port_declaration (flat_map laid.port_of ss)) e → OfSignal ss is_port e
port_entries ss e h =
    let f = in_unflat (λ (x : Signal). map port_declaration (laid.port_of x)) ss e (subst (λ (l : List Entry). In l e) (ports_flat ss) h) in
    let p = port_entry_by f.x (kind_of f.x) e f.inside in
    record { s = f.x; at = f.at; found = f.found; passes = p.0; is = p.1 }

pub port_entries_there : (ss : List Signal) (k : ℕ) (s : Signal) → slice_get ss k ≡ Some s → is_port (kind_of s) ≡ true → In (map port_declaration (flat_map laid.port_of ss)) (told_entry s)
port_entries_there ss k s h p =
    subst (λ (l : List Entry). In l (told_entry s)) (sym (ports_flat ss))
    (in_flat (λ (x : Signal). map port_declaration (laid.port_of x)) ss k s (told_entry s) h (port_entry_there s (kind_of s) p))

-- ---- items

inner_entry_by : (x : Signal) (k : Kind) (e : Entry) → In (flat_map declares (laid.declared_by x k)) e → (is_inner k ≡ true) × (e ≡ (x.name, told_kind_by x k))
inner_entry_by x InputPort e h = absurd (in_none e h)
inner_entry_by x OutputPort e h = absurd (in_none e h)
inner_entry_by x PlainWire e h = (refl, sym (in_one _ e h))
inner_entry_by x Reg e h = (refl, sym (in_one _ e h))

inner_entry_there : (x : Signal) (k : Kind) → is_inner k ≡ true → In (flat_map declares (laid.declared_by x k)) (x.name, told_kind_by x k)
inner_entry_there x InputPort h = cc
inner_entry_there x OutputPort h = cc
inner_entry_there x PlainWire h = in_first _ []
inner_entry_there x Reg h = in_first _ []

-- ---- targets

pub record OfTarget (ts : List Signal) (z : Name) : Type 0 where
  pub s : Signal
  pub at : ℕ
  pub found : slice_get ts at ≡ Some s
  pub right : Value
  pub is : s.source ≡ source.Assigned right
  pub name : z ≡ s.name

target_by : (m : Module) (mods : List Interface) (s : Signal) (from : Source) (z : Name) → In (flat_map (drives mods) (laid.assign_by m s from)) z
    → (right : Value) × (from ≡ source.Assigned right) × (z ≡ s.name)
target_by m mods s source.Input z h = absurd (in_none z h)
target_by m mods s (source.Register c) z h = absurd (in_none z h)
target_by m mods s (source.Assigned right) z h = (right, refl, sym (in_one s.name z h))
target_by m mods s (source.Port j port) z h = absurd (in_none z h)

target_here : (m : Module) (mods : List Interface) (s : Signal) (from : Source) (right : Value) → from ≡ source.Assigned right → In (flat_map (drives mods) (laid.assign_by m s from)) s.name
target_here m mods s source.Input right e = cc
target_here m mods s (source.Register c) right e = cc
target_here m mods s (source.Assigned other) right e = in_first s.name []
target_here m mods s (source.Port j port) right e = cc

module _ (all : List Module) (m : Module) where
  -- a front of the items: these wires and registers, memories, assigns, constants, statements and instances
  abbrev pub front : List Signal → List Memory → List Signal → List InitialConstant → List Statement → List Instance → List Item
  front ss cs ts constants body ns =
      flat_map laid.declared ss ++ map laid.memory_item cs ++ flat_map (laid.assign_of m) ts ++ laid.block laid.initial_item constants ++ laid.block laid.always_item body
      ++ map (laid.instance_item all m) ns

  view : {B : Type 0} (g : Item → List B) (ss : List Signal) (cs : List Memory) (ts : List Signal) (constants : List InitialConstant) (body : List Statement) (ns : List Instance)
      (ra rb rc rd re rf : List B)
      → flat_map g (flat_map laid.declared ss) ≡ ra → flat_map g (map laid.memory_item cs) ≡ rb → flat_map g (flat_map (laid.assign_of m) ts) ≡ rc
      → flat_map g (laid.block laid.initial_item constants) ≡ rd → flat_map g (laid.block laid.always_item body) ≡ re → flat_map g (map (laid.instance_item all m) ns) ≡ rf
      → flat_map g (front ss cs ts constants body ns) ≡ ra ++ rb ++ rc ++ rd ++ re ++ rf
  view g ss cs ts constants body ns ra rb rc rd re rf = parts g (flat_map laid.declared ss) (map laid.memory_item cs) (flat_map (laid.assign_of m) ts)
      (laid.block laid.initial_item constants) (laid.block laid.always_item body) (map (laid.instance_item all m) ns) ra rb rc rd re rf

  module _ (ss : List Signal) (cs : List Memory) (ts : List Signal) (constants : List InitialConstant) (body : List Statement) (ns : List Instance) where
    pub declared_view : flat_map (λ (y : Item). some (declaration y)) (front ss cs ts constants body ns)
        ≡ flat_map (λ (x : Signal). flat_map (λ (y : Item). some (declaration y)) (laid.declared x)) ss ++ map memory_entry cs ++ map instance_entry ns
    declared_view =
        let g : Item → List Entry = λ y. some (declaration y) in
        view g ss cs ts constants body ns (flat_map (λ (x : Signal). flat_map g (laid.declared x)) ss) (map memory_entry cs) [] [] [] (map instance_entry ns)
        (flat_flat g laid.declared ss) (map_single g laid.memory_item memory_entry (λ x. refl) cs) (none_assigned g (λ x. refl) m ts)
        (block_none g laid.initial_item (λ x. refl) constants) (block_none g laid.always_item (λ x. refl) body) (map_single g (laid.instance_item all m) instance_entry (λ x. refl) ns)
        ∙ simp append-nil

    pub driven_view : (mods : List Interface) → flat_map (drives mods) (front ss cs ts constants body ns)
        ≡ flat_map (λ (x : Signal). flat_map (drives mods) (laid.assign_of m x)) ts ++ flat_map (drives mods) (map (laid.instance_item all m) ns)
    driven_view mods =
        let g : Item → Names = drives mods in
        view g ss cs ts constants body ns [] [] (flat_map (λ (x : Signal). flat_map g (laid.assign_of m x)) ts) [] [] (flat_map g (map (laid.instance_item all m) ns))
        (none_declared g (λ x. refl) (λ x. refl) ss) (map_none g laid.memory_item (λ x. refl) cs) (flat_flat g (laid.assign_of m) ts)
        (block_none g laid.initial_item (λ x. refl) constants) (block_none g laid.always_item (λ x. refl) body) refl
        ∙ simp append-nil

    pub written_view : flat_map item_writes (front ss cs ts constants body ns) ≡ flat_map written_by body
    written_view =
        let g : Item → Names = item_writes in
        view g ss cs ts constants body ns [] [] [] [] (flat_map written_by body) []
        (none_declared g (λ x. refl) (λ x. refl) ss) (map_none g laid.memory_item (λ x. refl) cs) (none_assigned g (λ x. refl) m ts)
        (block_none g laid.initial_item (λ x. refl) constants) (block_all g laid.always_item (λ b. flat_map written_by b) (λ x. refl) refl body) (map_none g (laid.instance_item all m)
        (λ x. refl) ns)
        ∙ simp append-nil

    pub given_view : flat_map item_places (front ss cs ts constants body ns) ≡ map place_of constants
    given_view =
        let g : Item → List Place = item_places in
        view g ss cs ts constants body ns [] [] [] (map place_of constants) [] []
        (none_declared g (λ x. refl) (λ x. refl) ss) (map_none g laid.memory_item (λ x. refl) cs) (none_assigned g (λ x. refl) m ts)
        (block_all g laid.initial_item (λ c. map place_of c) (λ x. refl) refl constants) (block_none g laid.always_item (λ x. refl) body) (map_none g (laid.instance_item all m) (λ x. refl) ns)
        ∙ simp append-nil

    pub placed_view : flat_map item_modules (front ss cs ts constants body ns) ≡ map (λ (n : Instance). (laid.instance_of all m n).module_name) ns
    placed_view =
        let g : Item → Names = item_modules in
        view g ss cs ts constants body ns [] [] [] [] [] (map (λ (n : Instance). (laid.instance_of all m n).module_name) ns)
        (none_declared g (λ x. refl) (λ x. refl) ss) (map_none g laid.memory_item (λ x. refl) cs) (none_assigned g (λ x. refl) m ts)
        (block_none g laid.initial_item (λ x. refl) constants) (block_none g laid.always_item (λ x. refl) body)
        (map_single g (laid.instance_item all m) (λ (n : Instance). (laid.instance_of all m n).module_name) (λ x. refl) ns)

    -- ---- declarations of a front

    pub item_entries : (e : Entry) → In (flat_map (λ (y : Item). some (declaration y)) (front ss cs ts constants body ns)) e → OfSignal ss is_inner e ⊎ (OfMemory cs e ⊎ OfInstance ns e)
    item_entries e h =
        let inner : List Entry = flat_map (λ (x : Signal). flat_map (λ (y : Item). some (declaration y)) (laid.declared x)) ss in
        elim (in_either (inner ++ map memory_entry cs) (map instance_entry ns) e (subst (λ (l : List Entry). In l e) declared_view h)) [
          | inl p ↦ elim (in_either inner (map memory_entry cs) e p) [
            | inl q ↦ inl (let f = in_unflat (λ (x : Signal). flat_map (λ (y : Item). some (declaration y)) (laid.declared x)) ss e q in
                let r = inner_entry_by f.x (kind_of f.x) e f.inside in record { s = f.x; at = f.at; found = f.found; passes = r.0; is = r.1 })
            | inr q ↦ inr (inl (let f = in_unmap memory_entry cs e q in record { c = f.x; at = f.at; found = f.found; is = sym f.is }))
          ]
          | inr p ↦ inr (inr (let f = in_unmap instance_entry ns e p in record { n = f.x; at = f.at; found = f.found; is = sym f.is }))
        ]

    pub inner_there : (k : ℕ) (s : Signal) → slice_get ss k ≡ Some s → is_inner (kind_of s) ≡ true
        → In (flat_map (λ (y : Item). some (declaration y)) (front ss cs ts constants body ns)) (told_entry s)
    inner_there k s h p =
        let inner : List Entry = flat_map (λ (x : Signal). flat_map (λ (y : Item). some (declaration y)) (laid.declared x)) ss in
        subst (λ (l : List Entry). In l (told_entry s)) (sym declared_view)
        (in_front (inner ++ map memory_entry cs) (map instance_entry ns) (told_entry s) (in_front inner (map memory_entry cs) (told_entry s)
        (in_flat (λ (x : Signal). flat_map (λ (y : Item). some (declaration y)) (laid.declared x)) ss k s (told_entry s) h (inner_entry_there s (kind_of s) p))))

    pub memory_there : (j : ℕ) (c : Memory) → slice_get cs j ≡ Some c → In (flat_map (λ (y : Item). some (declaration y)) (front ss cs ts constants body ns)) (memory_entry c)
    memory_there j c h =
        let inner : List Entry = flat_map (λ (x : Signal). flat_map (λ (y : Item). some (declaration y)) (laid.declared x)) ss in
        subst (λ (l : List Entry). In l (memory_entry c)) (sym declared_view)
        (in_front (inner ++ map memory_entry cs) (map instance_entry ns) (memory_entry c) (in_back inner (map memory_entry cs) (memory_entry c)
        (in_map memory_entry cs c (record { at = j; found = h }))))

    -- ---- what a front drives

    pub driven_names : (mods : List Interface) (z : Name) → In (flat_map (drives mods) (front ss cs ts constants body ns)) z
        → OfTarget ts z ⊎ In (flat_map (drives mods) (map (laid.instance_item all m) ns)) z
    driven_names mods z h =
        elim (in_either (flat_map (λ (x : Signal). flat_map (drives mods) (laid.assign_of m x)) ts) (flat_map (drives mods) (map (laid.instance_item all m) ns)) z
        (subst (λ (l : Names). In l z) (driven_view mods) h)) [
          | inl p ↦ inl (let f = in_unflat (λ (x : Signal). flat_map (drives mods) (laid.assign_of m x)) ts z p in
              let t = target_by m mods f.x f.x.source z f.inside in record { s = f.x; at = f.at; found = f.found; right = t.0; is = t.1; name = t.2 })
          | inr p ↦ inr p
        ]

    pub target_there : (mods : List Interface) (k : ℕ) (s : Signal) (right : Value) → slice_get ts k ≡ Some s → s.source ≡ source.Assigned right
        → In (flat_map (drives mods) (front ss cs ts constants body ns)) s.name
    target_there mods k s right h is =
        let targets : Names = flat_map (λ (x : Signal). flat_map (drives mods) (laid.assign_of m x)) ts in
        subst (λ (l : Names). In l s.name) (sym (driven_view mods)) (in_front targets (flat_map (drives mods) (map (laid.instance_item all m) ns)) s.name
        (in_flat (λ (x : Signal). flat_map (drives mods) (laid.assign_of m x)) ts k s s.name h (target_here m mods s s.source right is)))

    pub output_there : (mods : List Interface) (z : Name) → In (flat_map (drives mods) (map (laid.instance_item all m) ns)) z → In (flat_map (drives mods) (front ss cs ts constants body ns)) z
    output_there mods z h =
        let targets : Names = flat_map (λ (x : Signal). flat_map (drives mods) (laid.assign_of m x)) ts in
        subst (λ (l : Names). In l z) (sym (driven_view mods)) (in_back targets (flat_map (drives mods) (map (laid.instance_item all m) ns)) z h)
