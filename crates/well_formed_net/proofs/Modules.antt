-- Each module of the netlist of a well-formed text fits.
use Rattle.std.proofs.Common.{◌≡◌, ℕ, suc, ◌+◌, ◌^◌, ◌<◌, List, [], ◌∷◌, ◌++◌, Bool, true, false}
use Rattle.std.proofs.Common.{Option, Some, None, refl, sym, ap, ◌∙◌, subst, inl, inr, map, take, zero-add}
use Rattle.std.specs.Prelude.{slice_get}
use Rattle.std.specs.List.{flat_map}
use Rattle.std.proofs.lemmas.Option.{same_Some}
use Rattle.std.proofs.lemmas.Simd.{map-map}
use Rattle.lists.proofs.Places.{get_mapped, get_unmapped}
use Rattle.verilog_tree.specs.declared.tree.Direction.{Direction}
use Rattle.verilog_tree.specs.declared.tree.Direction.TheVariants as direction
use Rattle.verilog_tree.specs.declared.tree.Expression.{Expression}
use Rattle.verilog_tree.specs.declared.tree.Port.{Port}
use Rattle.verilog_tree.specs.declared.tree.Instance as text_instance
use Rattle.verilog_tree.specs.declared.tree.Item.{Item}
use Rattle.verilog_tree.specs.declared.tree.Item.TheVariants as i
use Rattle.verilog_tree.specs.declared.tree.Module as text
use Rattle.verilog_tree.specs.declared.tree.Net.{Net}
use Rattle.verilog_tree.specs.Scope.{Name, Scope, kind_of, register_width, memory_width}
use Rattle.verilog_tree.specs.Rules.{width}
use Rattle.verilog_tree.specs.Facts.{Facts, nothing, after, after_module, module_facts}
use Rattle.verilog_tree.specs.WellFormed.{EachAfter, IsModule}
use Rattle.netlist.specs.declared.netlist.Source.{Source}
use Rattle.netlist.specs.declared.netlist.Source.TheVariants as source
use Rattle.netlist.specs.declared.netlist.Signal.{Signal}
use Rattle.netlist.specs.declared.netlist.Memory.{Memory}
use Rattle.netlist.specs.declared.netlist.Action.{Action}
use Rattle.netlist.specs.declared.netlist.Instance.{Instance}
use Rattle.netlist.specs.declared.netlist.Module.{Module}
use Rattle.netlist.specs.NetlistOf as n
use Rattle.netlist.specs.NetlistOf.{place, module_of, netlist_of}
use Rattle.netlist.specs.Laid.{AreApart, signal_names, memory_names, instance_names}
use Rattle.netlist_text.proofs.Places.{get_either}
use Rattle.netlist_text.proofs.Members.{In, in_none, in_one, in_unflat}
use Rattle.verilog_meaning.specs.Readings.{or_zero}
use Rattle.verilog_meaning.specs.Cycles.{IsRegister}
use Rattle.circuit.specs.Rows.{EachOf}
use Rattle.circuit.specs.Modules.{Has, HasRegister, FitsAction, FitsMemory, FitsValue}
use Rattle.well_formed_net.proofs.Tests.{both}
use Rattle.well_formed_net.specs.Fitting as fitting
use Rattle.well_formed_net.specs.Fitting.{IsFitSource, IsFitSignal, IsFitInstance, IsFitModule, FitsOfWellFormed}
use Rattle.well_formed_net.proofs.Lists.{some_in}
use Rattle.well_formed_net.proofs.Declarations.{item_is}
use Rattle.well_formed_net.proofs.Signals.{IsRead, names_of, told, read, set, registered, is_driven_kind, inner_declarations}
use Rattle.well_formed_net.proofs.Rights.{IsWords, fits}
use Rattle.well_formed_net.proofs.Statements.{each_append, body_fits}
use Rattle.well_formed_net.proofs.Constants.{memory_found, register_below, all_memories_fit}
use Rattle.well_formed_net.proofs.Earlier.{told_module, module_there}
use Rattle.well_formed_net.proofs.Connected.{facts_at, formed, instance_of, input_tied, is_port_kind, inner_kind}
use Rattle.well_formed_net.proofs.Drivers.{IsTiedTo, driver, assigned_right, port_wide, instance_at}
use Rattle.well_formed_net.proofs.Apart as apart

-- ---- the parts of a module of the netlist

module _ (before : List text.Module) (m : text.Module) where
  pub signals_are : (module_of before m).signals ≡ map (n.signal_of before m) (n.declarations m)
  unfolding module_of
  signals_are = refl

  memories_are : (module_of before m).memories ≡ map (n.memory_of before m) (n.memory_items m)
  unfolding module_of
  memories_are = refl

  pub actions_are : (module_of before m).actions ≡ flat_map (n.item_actions (n.signal_names before m) (n.memory_names before m)) m.items
  unfolding module_of
  actions_are = refl

  pub instances_are : (module_of before m).instances ≡ map (n.instance_of before m) (n.instance_items m)
  unfolding module_of
  instances_are = refl

  pub signal_at : (x : ℕ) (d : n.Declaration) → slice_get (n.declarations m) x ≡ Some d → slice_get (module_of before m).signals x ≡ Some (n.signal_of before m d)
  signal_at x d e = ap (λ (l : List Signal). slice_get l x) signals_are ∙ get_mapped (n.signal_of before m) (n.declarations m) x d e

  -- the signal of a declaration has its width
  has_declared : (x : ℕ) (d : n.Declaration) → slice_get (n.declarations m) x ≡ Some d → Has (module_of before m) x d.width
  has_declared x d e = record { signal = n.signal_of before m d; listed = signal_at x d e; wide = refl }

-- ---- inputs stand first

abbrev is_input_kind : n.Kind → Bool
is_input_kind n.InputPort = true
is_input_kind n.OutputPort = false
is_input_kind n.PlainWire = false
is_input_kind n.Reg = false

output_kind : (r : Direction) (p : Port) (d : n.Declaration) → In (n.output_port r p) d → is_input_kind d.kind ≡ false
output_kind direction.Input p d h = absurd (in_none d h)
output_kind direction.Output p d h = ap (λ (t : n.Declaration). is_input_kind t.kind) (sym (in_one _ d h))

input_at : (m : text.Module) (x : ℕ) (d : n.Declaration) → slice_get (n.declarations m) x ≡ Some d → d.kind ≡ n.InputPort → slice_get (n.input_ports m) x ≡ Some d
input_at m x d e is = elim (get_either (n.input_ports m ++ flat_map inner_declarations m.items) (n.output_ports m) x d e) [
  | inl p ↦ elim (get_either (n.input_ports m) (flat_map inner_declarations m.items) x d p) [
    | inl q ↦ q
    | inr q ↦ (let r = in_unflat inner_declarations m.items d (record { at = q.at; found = q.found }) in
        both (inner_kind r.x d (some_in (n.item_declaration r.x) d r.inside)) (ap is_port_kind is))
  ]
  | inr p ↦ (let r = in_unflat (λ (t : Port). n.output_port t.direction t) m.ports d (record { at = p.at; found = p.found }) in
      both (output_kind r.x.direction r.x d r.inside) (ap is_input_kind is))
]

-- ---- a module of a well-formed text

abbrev is_input : Source → Bool
is_input source.Input = true
is_input (source.Register c) = false
is_input (source.Assigned v) = false
is_input (source.Port j port) = false

module _ (ms : List text.Module) (whole : Facts) (each : EachAfter (IsModule whole) after_module nothing ms) where
  abbrev modules : List Module
  modules = n.modules_of [] ms

  module _ (k : ℕ) (m : text.Module) (found : slice_get ms k ≡ Some m) where
    abbrev before : List text.Module
    before = take k ms

    abbrev f : Facts
    f = facts_at ms whole each k

    abbrev scope : Scope
    scope = (module_facts f m).scope

    abbrev is : IsModule whole f m
    is = formed ms whole each k m found

    abbrev mine : Module
    mine = module_of before m

    abbrev names : List Name
    names = names_of m

    abbrev memory_list : List Name
    memory_list = n.memory_names before m

    -- ---- names

    read_has : (x : Name) (w : ℕ) → IsRead whole f m is x w → Has mine (place names x) w
    read_has x w r = subst (Has mine (place names x)) r.wide (has_declared before m (place names x) r.there.declared r.there.at)

    at_name : (x : Name) → 0 < width scope x → Has mine (place names x) (width scope x)
    at_name x l = read_has x (width scope x) (read whole f m is x l)

    at_register : (x : Name) → 0 < register_width (kind_of scope x) → HasRegister mine (place names x) (register_width (kind_of scope x))
    at_register x l =
        let r = set whole f m is x l in
        record {
          signal = n.signal_of before m r.there.declared;
          listed = signal_at before m (place names x) r.there.declared r.there.at;
          wide = r.wide;
          is = subst (λ (q : n.Kind). IsRegister (n.source_of before m q r.there.declared.name)) (sym r.register) tt;
        }

    at_memory : (x : Name) → 0 < memory_width (kind_of scope x) → IsWords (λ j. slice_get mine.memories j) memory_list scope x
    at_memory x l = subst (λ (ys : List Memory). IsWords (λ j. slice_get ys j) memory_list scope x) (sym (memories_are before m)) (memory_found whole f m is x l)

    -- ---- signals

    assigned_fits : (d : n.Declaration) (right : Expression) → In (n.declarations m) d → is_driven_kind d.kind ≡ true → n.assigned (n.assign_items m) d.name ≡ Some right
        → FitsValue (Has mine) (λ j. slice_get mine.memories j) d.width (n.value names memory_list right)
    assigned_fits d right q h e =
        fits names memory_list scope (Has mine) (λ j. slice_get mine.memories j) at_name at_memory right d.width (told whole f m is d q).low
        (assigned_right ms whole each k m found d right q h e)

    port_fits : (d : n.Declaration) → In (n.declarations m) d → is_driven_kind d.kind ≡ true → (r : IsTiedTo before (n.instance_items m) d.name 0)
        → fitting.IsPortOf modules mine (0 + r.number) r.port d.width
    port_fits d q h r =
        let p = port_wide ms whole each k m found d q h r in
        record {
          instance = n.instance_of before m r.instance;
          listed = ap (slice_get mine.instances) (zero-add r.number) ∙ ap (λ (l : List Instance). slice_get l r.number) (instances_are before m)
              ∙ get_mapped (n.instance_of before m) (n.instance_items m) r.number r.instance r.listed;
          of = module_of (take p.is.number ms) p.is.of;
          stands = ap (slice_get modules) p.is.place_is ∙ module_there ms [] p.is.number p.is.of p.is.listed;
          has = subst (Has (module_of (take p.is.number ms) p.is.of) r.port) p.wide (has_declared (take p.is.number ms) p.is.of r.port p.declared p.listed);
        }

    driven_fits : (d : n.Declaration) → In (n.declarations m) d → is_driven_kind d.kind ≡ true
        → IsFitSource modules mine d.width (n.driven before m (n.assigned (n.assign_items m) d.name) d.name)
    driven_fits d q h = elim (driver ms whole each k m found d q h) [
      | inl a ↦ subst (λ (o : Option Expression). IsFitSource modules mine d.width (n.driven before m o d.name)) (sym a.1) (assigned_fits d a.0 q h a.1)
      | inr a ↦ subst (λ (o : Option Expression). IsFitSource modules mine d.width (n.driven before m o d.name)) (sym a.0)
          (subst (λ (s : Source). IsFitSource modules mine d.width s) (sym a.1.is) (port_fits d q h a.1))
    ]

    source_fits : (d : n.Declaration) → In (n.declarations m) d → (q : n.Kind) → d.kind ≡ q → IsFitSource modules mine d.width (n.source_of before m q d.name)
    source_fits d h n.InputPort e = tt
    source_fits d h n.Reg e =
        subst (λ w. n.initial_of (n.constants before m) d.name None < 2 ^ w) (registered whole f m is d (told whole f m is d h) e) (register_below whole f m is d.name)
    source_fits d h n.OutputPort e = driven_fits d h (ap is_driven_kind e)
    source_fits d h n.PlainWire e = driven_fits d h (ap is_driven_kind e)

    signal_fits : (x : ℕ) (s : Signal) → slice_get mine.signals x ≡ Some s → IsFitSignal modules mine s
    signal_fits x s e =
        let q = get_unmapped (n.signal_of before m) (n.declarations m) x s (ap (λ (l : List Signal). slice_get l x) (sym (signals_are before m)) ∙ e) in
        let h : In (n.declarations m) q.0 = record { at = x; found = q.1 } in
        let t = told whole f m is q.0 h in
        subst (IsFitSignal modules mine) q.2 (record { low = t.low; high = t.high; drives = source_fits q.0 h (q.0).kind refl })

    -- a wire and an output are no inputs
    driven_no_input : (d : n.Declaration) → In (n.declarations m) d → is_driven_kind d.kind ≡ true →
        is_input (n.driven before m (n.assigned (n.assign_items m) d.name) d.name) ≡ false
    driven_no_input d q h = elim (driver ms whole each k m found d q h) [
      | inl a ↦ ap (λ o. is_input (n.driven before m o d.name)) a.1
      | inr a ↦ ap (λ o. is_input (n.driven before m o d.name)) a.0 ∙ ap is_input a.1.is
    ]

    input_by : (d : n.Declaration) → In (n.declarations m) d → (q : n.Kind) → d.kind ≡ q → n.source_of before m q d.name ≡ source.Input → q ≡ n.InputPort
    input_by d h n.InputPort e s = refl
    input_by d h n.Reg e s = both refl (ap is_input s)
    input_by d h n.OutputPort e s = both (driven_no_input d h (ap is_driven_kind e)) (ap is_input s)
    input_by d h n.PlainWire e s = both (driven_no_input d h (ap is_driven_kind e)) (ap is_input s)

    pub input_kind : (d : n.Declaration) → In (n.declarations m) d → n.source_of before m d.kind d.name ≡ source.Input → d.kind ≡ n.InputPort
    input_kind d h s = input_by d h d.kind refl s

    -- ---- statements

    abbrev acts : Item → List Action
    acts = n.item_actions names memory_list

    item_acts : (at : ℕ) (x : Item) → slice_get m.items at ≡ Some x → EachOf (FitsAction mine) (acts x)
    item_acts at (i.Always y) e = body_fits names memory_list mine scope at_name at_register at_memory y.body (item_is whole f m is at (i.Always y) e).right
    item_acts at (i.Wire y) e = tt
    item_acts at (i.Register y) e = tt
    item_acts at (i.Memory y) e = tt
    item_acts at (i.Assign y) e = tt
    item_acts at (i.Initial y) e = tt
    item_acts at (i.Instance y) e = tt

    all_act : (xs : List Item) → ((at : ℕ) (x : Item) → slice_get xs at ≡ Some x → EachOf (FitsAction mine) (acts x)) → EachOf (FitsAction mine) (flat_map acts xs)
    all_act [] h = tt
    all_act (x ∷ xs) h = each_append (FitsAction mine) (acts x) (flat_map acts xs) (h 0 x refl) (all_act xs (λ at y e. h (suc at) y e))

    -- ---- names that stand apart

    signals_apart : AreApart (signal_names mine)
    signals_apart =
        subst AreApart (sym (ap (map (λ (y : Signal). y.name)) (signals_are before m) ∙ map-map (λ (y : Signal). y.name) (n.signal_of before m) (n.declarations m)))
        (apart.signals_apart whole f m is)

    memories_apart : AreApart (memory_names mine)
    memories_apart =
        subst AreApart (sym (ap (map (λ (y : Memory). y.name)) (memories_are before m) ∙ map-map (λ (y : Memory). y.name) (n.memory_of before m) (n.memory_items m)))
        (apart.memories_apart whole f m is)

    instances_apart : AreApart (instance_names mine)
    instances_apart =
        subst AreApart (sym (ap (map (λ (y : Instance). y.name)) (instances_are before m) ∙ map-map (λ (y : Instance). y.name) (n.instance_of before m) (n.instance_items m)))
        (apart.instances_apart whole f m is)

  -- ---- instances

  module _ (k : ℕ) (m : text.Module) (found : slice_get ms k ≡ Some m) where
    instance_by : (t : text_instance.Instance) → In (n.instance_items m) t → IsFitInstance modules (mine k m found) (n.instance_of (take k ms) m t)
    instance_by t h of stands x s listed input =
        let a = instance_at m t h in
        let o = instance_of ms whole each k m found a.at t a.found in
        let there : slice_get modules (place (n.module_names (take k ms)) t.module_name) ≡ Some (module_of (take o.number ms) o.of) =
        ap (slice_get modules) o.place_is ∙ module_there ms [] o.number o.of o.listed in
        let same : of ≡ module_of (take o.number ms) o.of = same_Some of (module_of (take o.number ms) o.of) (sym stands ∙ there) in
        let q = get_unmapped (n.signal_of (take o.number ms) o.of) (n.declarations o.of) x s
        (ap (λ (l : List Signal). slice_get l x) (sym (signals_are (take o.number ms) o.of)) ∙ subst (λ (y : Module). slice_get y.signals x ≡ Some s) same listed) in
        let held : In (n.declarations o.of) q.0 = record { at = x; found = q.1 } in
        let is_in : (q.0).kind ≡ n.InputPort = input_kind o.number o.of o.listed q.0 held (ap (λ (y : Signal). y.source) q.2 ∙ input) in
        let ports : n.of_instance n.input_ports (take k ms) t ≡ n.input_ports o.of =
        ap (λ (j : ℕ). n.of_module n.input_ports (slice_get (take k ms) j)) o.place_is ∙ ap (n.of_module n.input_ports) o.held in
        let tie : n.Declaration → ℕ = λ d. place (n.signal_names (take k ms) m) (n.connected t.connections d.name) in
        let at : slice_get (map tie (n.of_instance n.input_ports (take k ms) t)) x ≡ Some (tie q.0) =
        ap (λ (l : List n.Declaration). slice_get (map tie l) x) ports ∙ get_mapped tie (n.input_ports o.of) x q.0 (input_at o.of x q.0 q.1 is_in) in
        subst (λ (j : ℕ). Has (mine k m found) j s.width) (sym (ap or_zero at))
        (subst (Has (mine k m found) (tie q.0)) (ap (λ (y : Signal). y.width) q.2)
        (read_has k m found (n.connected t.connections (q.0).name) (q.0).width (input_tied ms whole each k m found t o q.0 held is_in)))

    instance_fits : (j : ℕ) (y : Instance) → slice_get (mine k m found).instances j ≡ Some y → IsFitInstance modules (mine k m found) y
    instance_fits j y e =
        let q = get_unmapped (n.instance_of (take k ms) m) (n.instance_items m) j y (ap (λ (l : List Instance). slice_get l j) (sym (instances_are (take k ms) m)) ∙ e) in
        subst (IsFitInstance modules (mine k m found)) q.2 (instance_by q.0 (record { at = j; found = q.1 }))

    module_fits : IsFitModule modules (mine k m found)
    module_fits = record {
      signals = signal_fits k m found;
      instances = instance_fits;
      actions = subst (EachOf (FitsAction (mine k m found))) (sym (actions_are (take k ms) m)) (all_act k m found m.items (item_acts k m found));
      memories = subst (EachOf FitsMemory) (sym (memories_are (take k ms) m)) (all_memories_fit whole (f k m found) m (is k m found));
      signals_apart = signals_apart k m found;
      memories_apart = memories_apart k m found;
      instances_apart = instances_apart k m found;
    }

pub modules_are : (net : Net) → (netlist_of net).modules ≡ n.modules_of [] net.modules
unfolding netlist_of
modules_are net = refl

pub fits_of_well_formed : FitsOfWellFormed
fits_of_well_formed net formed_net k m e =
    let whole = after after_module nothing net.modules in
    let at : slice_get (n.modules_of [] net.modules) k ≡ Some m = ap (λ (l : List Module). slice_get l k) (sym (modules_are net)) ∙ e in
    let t = told_module net.modules [] k m at in
    let fit = module_fits net.modules whole formed_net.modules k t.text t.listed in
    subst (λ (l : List Module). IsFitModule l m) (sym (modules_are net)) (subst (λ (y : Module). IsFitModule (n.modules_of [] net.modules) y) (sym t.is) fit)
