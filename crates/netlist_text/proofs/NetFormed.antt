-- The text of a sound netlist is a well-formed net.
use Rattle.std.proofs.Common.{◌≡◌, ℕ, zero, suc, ◌+◌, ◌<◌, ◌≤◌, ◌⊎◌, List, [], ◌∷◌, ◌++◌, Bool, true, false}
use Rattle.std.proofs.Common.{Some, None, refl, sym, ap, ◌∙◌, subst, inl, inr, length, map, take, append_assoc, add-zero, arith}
use Rattle.std.specs.Prelude.{slice_get, is_some, unwrap_or, not, nat_eq, ◌&&◌, ◌||◌, if◌then◌else◌}
use Rattle.std.specs.List.{flat_map, list_any}
use Rattle.std.specs.Str.{bytes_eq}
use Rattle.std.proofs.lemmas.Slice.Eq.{bytes_eq-Decides}
use Rattle.std.proofs.lemmas.Option.{same_Some, none-some, slice_get_within}
use Rattle.std.proofs.lemmas.List.{take_at, length_push}
use Rattle.std.proofs.lemmas.Bool.{false_from_ne_true, or_cases, and_parts}
use Rattle.lists.proofs.Places.{get_front, get_back, get_mapped}
use Rattle.verilog_tree.specs.declared.tree.Connection.{Connection}
use Rattle.verilog_tree.specs.declared.tree.Expression.TheVariants as e
use Rattle.verilog_tree.specs.declared.tree.Item.TheVariants as i
use Rattle.verilog_tree.specs.declared.tree.Instance as text_instance
use Rattle.verilog_tree.specs.declared.tree.Module as text_module
use Rattle.verilog_tree.specs.Scope.{Name, Names, is_known}
use Rattle.verilog_tree.specs.Rules.{connected_ports}
use Rattle.verilog_tree.specs.Reads.{IsFilled, Each, IsFullExpression, IsFullItem, IsFullModule}
use Rattle.verilog_tree.specs.Facts.{Facts, Interface, interface_named, interface_of, is_top, nothing}
use Rattle.verilog_tree.specs.Facts.{after, after_module, with_name, item_prints, places_printer, prints_below_top, statement_prints}
use Rattle.verilog_tree.specs.WellFormed.{EachAfter, IsModule, IsWellFormed}
use Rattle.netlist.specs.declared.netlist.Value.{Value}
use Rattle.netlist.specs.declared.netlist.Value.TheVariants as v
use Rattle.netlist.specs.declared.netlist.Source.{Source}
use Rattle.netlist.specs.declared.netlist.Source.TheVariants as source
use Rattle.netlist.specs.declared.netlist.Signal.{Signal}
use Rattle.netlist.specs.declared.netlist.Action.{Action}
use Rattle.netlist.specs.declared.netlist.Instance.{Instance}
use Rattle.netlist.specs.declared.netlist.Module.{Module}
use Rattle.netlist.specs.declared.netlist.Netlist.{Netlist}
use Rattle.netlist.specs.NetlistOf.{Kind, InputPort, OutputPort, PlainWire, Reg}
use Rattle.netlist.specs.Laid as netlist_laid
use Rattle.netlist.specs.Laid.{IsSource, IsLaidModule, kind_by, signal_names, memory_names, instance_names}
use Rattle.netlist.specs.Sound as sound
use Rattle.netlist.specs.Sound.{IsSound, IsSoundModule, Writes, Places, IsTop, is_write}
use Rattle.netlist_text.specs.LaidOut as laid
use Rattle.netlist_text.specs.LaidOut.{net_of}
use Rattle.netlist_text.proofs.Places.{get_either, apart_front, other_name}
use Rattle.netlist_text.proofs.Connections.{AreBefore, instance_is}
use Rattle.netlist_text.proofs.Back.{before_are, fits_at}
use Rattle.netlist_text.proofs.Members.{In, in_none, in_flat, in_unmap, in_map, after_in, in_after, in_holds, holds_in}
use Rattle.netlist_text.proofs.EachOfLists.{each_append, each_flat, each_map, each_block}
use Rattle.netlist_text.proofs.Grown.{module_printed, module_placed, modules_placed, module_writes, module_places, item_modules}
use Rattle.netlist_text.proofs.Views.{is_port, front, placed_view}
use Rattle.netlist_text.proofs.Widths.{IsPlain}
use Rattle.netlist_text.proofs.Interfaces.{HasInterface, KnowsModules, port_there}
use Rattle.netlist_text.proofs.Actions.{prints_are}
use Rattle.netlist_text.proofs.Ties.{connected_by}
use Rattle.netlist_text.proofs.Fronts.{split_at, any_front, any_passes}
use Rattle.netlist_text.proofs.Formed.{at, placed_is, all_formed}
use Rattle.netlist_text.proofs.PortsFormed.{implied, ports_formed, clocked}

-- ---- interfaces by name

front_step : (k : Interface) (mods ys : List Interface) (z : Name) (x : Interface) → (interface_named mods z ≡ Some x → interface_named (mods ++ ys) z ≡ Some x) → (b : Bool)
    → (if b then Some k else interface_named mods z) ≡ Some x → (if b then Some k else interface_named (mods ++ ys) z) ≡ Some x
front_step k mods ys z x next true h = h
front_step k mods ys z x next false h = next h

pub named_front : (mods ys : List Interface) (z : Name) (x : Interface) → interface_named mods z ≡ Some x → interface_named (mods ++ ys) z ≡ Some x
named_front [] ys z x h = absurd (none-some x h)
named_front (k ∷ mods) ys z x h = front_step k mods ys z x (named_front mods ys z x) (bytes_eq z k.name) h

back_step : (k : Interface) (mods ys : List Interface) (z : Name) → (interface_named mods z ≡ None → interface_named (mods ++ ys) z ≡ interface_named ys z) → (b : Bool)
    → (if b then Some k else interface_named mods z) ≡ None → (if b then Some k else interface_named (mods ++ ys) z) ≡ interface_named ys z
back_step k mods ys z next true h = absurd (none-some k (sym h))
back_step k mods ys z next false h = next h

pub named_back : (mods ys : List Interface) (z : Name) → interface_named mods z ≡ None → interface_named (mods ++ ys) z ≡ interface_named ys z
named_back [] ys z h = refl
named_back (k ∷ mods) ys z h = back_step k mods ys z (named_back mods ys z) (bytes_eq z k.name) h

-- ---- lists that may not be empty

filled : {A : Type 0} (xs : List A) (x : A) → In xs x → IsFilled xs
filled [] x h = in_none x h
filled (y ∷ xs) x h = tt

filled_ports : (cs : List Connection) (z : Name) → In (connected_ports cs) z → IsFilled cs
filled_ports [] z h = in_none z h
filled_ports (c ∷ cs) z h = tt

full_declared : (s : Signal) (k : Kind) → Each IsFullItem (laid.declared_by s k)
full_declared s InputPort = tt
full_declared s OutputPort = tt
full_declared s PlainWire = (tt, tt)
full_declared s Reg = (tt, tt)

full_select : (m : Module) (x high low : ℕ) (b : Bool) → IsFullExpression (if b then e.BitSelect (laid.signal_name m x) high else e.PartSelect (laid.signal_name m x) high low)
full_select m x high low true = tt
full_select m x high low false = tt

full_parts : (m : Module) (xs : List ℕ) → sound.is_filled m xs ≡ true → IsFilled (map (laid.signal_name m) xs)
full_parts m [] h = cc
full_parts m (x ∷ xs) h = tt

full_expression : (m : Module) (w : ℕ) (right : Value) → sound.value_fits m right w ≡ true → IsFullExpression (laid.expression m w right)
full_expression m w (v.Copy x) h = tt
full_expression m w (v.Constant c) h = tt
full_expression m w (v.BitwiseNot x) h = tt
full_expression m w (v.Binary operator x y) h = tt
full_expression m w (v.SignedLess x y) h = tt
full_expression m w (v.ArithmeticShiftRight x y) h = tt
full_expression m w (v.Conditional c x y) h = tt
full_expression m w (v.Division operator x y) h = tt
full_expression m w (v.SignedDivision operator x y) h = tt
full_expression m w (v.MemoryRead j x) h = tt
full_expression m w (v.Select x high low) h = full_select m x high low (nat_eq high low)
full_expression m w (v.Concatenation xs) h = full_parts m xs (and_parts _ _ h).0
full_expression m w (v.Replication c x) h = tt

full_assign : (m : Module) (s : Signal) (from : Source) → sound.source_fits m from s.width ≡ true → Each IsFullItem (laid.assign_by m s from)
full_assign m s source.Input h = tt
full_assign m s (source.Register c) h = tt
full_assign m s (source.Assigned right) h = (full_expression m s.width right h, tt)
full_assign m s (source.Port j port) h = tt

-- a signal that is a port
port_kind : (before : List Module) (m : Module) (x : ℕ) (from : Source) (out : Bool) → IsSource before m x out from → (from ≡ source.Input) ⊎ (out ≡ true) → is_port (kind_by from out) ≡ true
port_kind before m x source.Input out h p = refl
port_kind before m x (source.Register c) out h (inl p) = absurd (cc)
port_kind before m x (source.Register c) out h (inr p) = let clash : true ≡ false = sym p ∙ h in absurd (cc)
port_kind before m x (source.Assigned right) out h (inl p) = absurd (cc)
port_kind before m x (source.Assigned right) out h (inr p) = ap (λ b. is_port (kind_by (source.Assigned right) b)) p
port_kind before m x (source.Port j port) out h (inl p) = absurd (cc)
port_kind before m x (source.Port j port) out h (inr p) = ap (λ b. is_port (kind_by (source.Port j port) b)) p

-- ---- all modules

module _ (x : Netlist) (ok : IsSound x) where
  abbrev make : Module → text_module.Module
  make = laid.text_of_module x.modules

  abbrev end : Facts
  end = after after_module nothing (map make x.modules)

  sound_at : (ms : List Module) (m : Module) (back : List Module) → x.modules ≡ ms ++ m ∷ back → IsSoundModule m ms
  sound_at ms m back e =
      subst (λ (l : List Module). IsSoundModule m l) (ap (take (length ms)) e ∙ take_at ms (m ∷ back) (length ms) refl)
      (ok.modules (length ms) m (split_at x.modules ms back m e))

  plain_at : (j : ℕ) (y : Module) → slice_get x.modules j ≡ Some y → (k : ℕ) (s : Signal) → slice_get y.signals k ≡ Some s → IsPlain s
  plain_at j y h k s q =
      let a = (ok.laid.modules j y h).signals k s q in
      let b = (ok.modules j y h).signals k s q in
      record { low = a.low; high = a.high; clock = λ c. (b.clock c).0 }

  -- two modules of one name are one
  same_module : (i j : ℕ) (y z : Module) → slice_get x.modules i ≡ Some y → slice_get x.modules j ≡ Some z → y.name ≡ z.name → i ≡ j
  same_module i j y z p q e = ok.laid.names i j z.name (get_mapped (λ (w : Module). w.name) x.modules i y p ∙ ap Some e) (get_mapped (λ (w : Module). w.name) x.modules j z q)

  record Placed (ms : List Module) (z : Name) : Type 0 where
    pub k : ℕ
    pub i : ℕ
    pub of : ℕ
    pub y : Module
    pub low : k < length ms
    pub places : Places x k i of
    pub found : slice_get x.modules of ≡ Some y
    pub name : z ≡ y.name

  -- what is known after these modules
  record IsKnown (ms : List Module) (f : Facts) : Type 0 where
    pub knows : KnowsModules f.modules ms
    pub prints : (j : ℕ) (y : Module) → slice_get ms j ≡ Some y → (a : Interface) → interface_named f.modules y.name ≡ Some a → (a.prints && not (is_top a.name)) ≡ true → ok.printing.below j ≡ true
    pub absent : (z : Name) → ((j : ℕ) (y : Module) → slice_get ms j ≡ Some y → y.name ≡ z → ⊥) → interface_named f.modules z ≡ None
    pub printed : f.printed ≡ true → (j : ℕ) × (j < length ms) × Writes x j
    pub placed : (z : Name) → In f.placed z → Placed ms z

  module _ (ms : List Module) (m : Module) (back : List Module) (split : x.modules ≡ ms ++ m ∷ back) (f : Facts) (g : IsKnown ms f) where
    here : slice_get x.modules (length ms) ≡ Some m
    here = split_at x.modules ms back m split

    earlier : (j : ℕ) (y : Module) → slice_get ms j ≡ Some y → slice_get x.modules j ≡ Some y
    earlier j y h = ap (λ l. slice_get l j) split ∙ get_front ms (m ∷ back) j y h

    known : AreBefore x.modules ms
    known = before_are x ok.laid ms (m ∷ back) split

    fits : IsLaidModule ms m
    fits = fits_at x ok.laid ms m back split

    right : IsSoundModule m ms
    right = sound_at ms m back split

    is_this : (y : Module) → slice_get x.modules (length ms) ≡ Some y → y ≡ m
    is_this y h = same_Some y m (sym h ∙ here)

    -- ---- what it writes and places

    writes_by : list_any (λ (a : Action). is_write a.effect) m.actions ≡ true → Writes x (length ms)
    writes_by h = let p = any_passes (λ (a : Action). is_write a.effect) m.actions h in (m, p.held.at, p.x, here, p.held.found, p.passes)

    prints_writes : list_any statement_prints (map (laid.statement m) m.actions) ≡ true → Writes x (length ms)
    prints_writes h = writes_by (sym (prints_are m m.actions) ∙ h)

    text_writes : module_writes (make m) ≡ true → Writes x (length ms)
    text_writes h = elim (any_front item_prints (λ y. refl) (λ y. refl) (λ y. refl) (λ y. refl) (λ y. refl) x.modules m m.signals m.memories m.signals (laid.constants m) (map
        (laid.statement m) m.actions) m.instances h) [
          | inl p ↦ prints_writes p.0
          | inr p ↦ (let clash : false ≡ true = p.3 in absurd (cc))
        ]

    top_is : IsTop x (length ms) → is_top m.name ≡ true
    top_is t = ap (λ (y : Module). is_top y.name) (sym (is_this t.0 t.1)) ∙ t.2

    places_here : (k : ℕ) (n : Instance) → slice_get m.instances k ≡ Some n → Places x (length ms) k n.of
    places_here k n h = (m, n, here, h, refl)

    -- an instance of a module that prints is one of those below
    below_by : (k : ℕ) (n : Instance) → slice_get m.instances k ≡ Some n → places_printer f.modules (laid.instance_item x.modules m n) ≡ true → ok.printing.below n.of ≡ true
    below_by k n h p =
        let o = fits.instances k n h in
        let interface = g.knows n.of o.of o.earlier in
        let q : (interface.interface.prints && not (is_top interface.interface.name)) ≡ true =
        sym (ap (λ t. places_printer f.modules (i.Instance t)) (instance_is x.modules ms m known n o.of o.earlier) ∙ ap prints_below_top interface.named) ∙ p in
        g.prints n.of o.of o.earlier interface.interface interface.named q

    top_or_below : (not (is_top m.name)) ≡ true → IsTop x (length ms) ⊎ (ok.printing.below (length ms) ≡ true) → ok.printing.below (length ms) ≡ true
    top_or_below h (inl t) = let clash : not true ≡ true = ap not (sym (top_is t)) ∙ h in absurd (cc)
    top_or_below h (inr b) = b

    or_off : (a : Bool) → (a || false) ≡ true → a ≡ true
    or_off true h = refl
    or_off false h = h

    prints_here : ((interface_of f.modules (make m)).prints && not (is_top m.name)) ≡ true → ok.printing.below (length ms) ≡ true
    prints_here h =
        let some = (and_parts (interface_of f.modules (make m)).prints _ h).0 in
        let below = (and_parts (interface_of f.modules (make m)).prints _ h).1 in
        elim (any_front (λ y. item_prints y || places_printer f.modules y) (λ y. refl) (λ y. refl) (λ y. refl) (λ y. refl) (λ y. refl)
        x.modules m m.signals m.memories m.signals (laid.constants m) (map (laid.statement m) m.actions) m.instances some) [
          | inl p ↦ top_or_below below (ok.printing.writes (length ms) (prints_writes (or_off _ p.0)))
          | inr p ↦ top_or_below below (ok.printing.holds (length ms) p.0 p.1.of (places_here p.0 p.1 p.2) (below_by p.0 p.1 p.2 p.3))
        ]

    -- the name of the module of an instance
    module_name_is : (k : ℕ) (n : Instance) → slice_get m.instances k ≡ Some n → (y : Module) → slice_get x.modules n.of ≡ Some y → (laid.instance_of x.modules m n).module_name ≡ y.name
    module_name_is k n h y q = ap (λ o. (laid.instance_by m n (unwrap_or o m)).module_name) q

    placed_in : (z : Name) (ns : List Instance) → ((k : ℕ) (n : Instance) → slice_get ns k ≡ Some n → slice_get m.instances k ≡ Some n)
        → In (map (λ (n : Instance). (laid.instance_of x.modules m n).module_name) ns) z
        → (k : ℕ) × (n : Instance) × (slice_get ns k ≡ Some n) × (Places x (length ms) k n.of) × ((y : Module) × (slice_get x.modules n.of ≡ Some y) × (z ≡ y.name))
    placed_in z ns among h =
        let u = in_unmap (λ (n : Instance). (laid.instance_of x.modules m n).module_name) ns z h in
        let there = among u.at u.x u.found in
        let o = fits.instances u.at u.x there in
        let found = earlier u.x.of o.of o.earlier in
        (u.at, u.x, u.found, places_here u.at u.x there, (o.of, found, sym u.is ∙ module_name_is u.at u.x there o.of found))

    -- ---- what is known behind it

    names_apart : (j : ℕ) (y : Module) → slice_get ms j ≡ Some y → y.name ≡ m.name → ⊥
    names_apart j y h e =
        let same : j ≡ length ms = same_module j (length ms) y m (earlier j y h) here e in
        let low : j < length ms = slice_get_within ms j y h in omega arith

    new_here : interface_named f.modules m.name ≡ None
    new_here = g.absent m.name names_apart

    abbrev mine : Interface
    mine = interface_of f.modules (make m)

    named_here : interface_named (f.modules ++ mine ∷ []) m.name ≡ Some mine
    named_here = named_back f.modules (mine ∷ []) m.name new_here ∙ ap (λ b. if b then Some mine else None) ((bytes_eq-Decides m.name m.name).1 refl)

    last_is : (j : ℕ) (y : Module) → slice_get (ms ++ m ∷ []) (length ms + j) ≡ Some y → slice_get (m ∷ []) j ≡ Some y → (j ≡ 0) × (m ≡ y)
    last_is zero y h q = (refl, same_Some m y q)
    last_is (suc j) y h q = absurd (none-some y q)

    knows_next : KnowsModules (f.modules ++ mine ∷ []) (ms ++ m ∷ [])
    knows_next j y h = elim (get_either ms (m ∷ []) j y h) [
      | inl p ↦ (let k = g.knows j y p in record { interface = k.interface; named = named_front f.modules (mine ∷ []) y.name k.interface k.named; name = k.name; ports = k.ports })
      | inr p ↦ (let same : m ≡ y = (last_is p.at y (ap (slice_get (ms ++ m ∷ [])) (sym p.is) ∙ h) p.found).1 in
          subst (λ (w : Module). HasInterface (f.modules ++ mine ∷ []) w) same (record { interface = mine; named = named_here; name = refl; ports = refl }))
    ]

    prints_next : (j : ℕ) (y : Module) → slice_get (ms ++ m ∷ []) j ≡ Some y → (a : Interface) → interface_named (f.modules ++ mine ∷ []) y.name ≡ Some a → (a.prints && not (is_top a.name)) ≡ true
        → ok.printing.below j ≡ true
    prints_next j y h a q p = elim (get_either ms (m ∷ []) j y h) [
      | inl r ↦ (let k = g.knows j y r in
          let same : k.interface ≡ a = same_Some k.interface a (sym (named_front f.modules (mine ∷ []) y.name k.interface k.named) ∙ q) in
          g.prints j y r a (k.named ∙ ap Some same) p)
      | inr r ↦ (let l = last_is r.at y (ap (slice_get (ms ++ m ∷ [])) (sym r.is) ∙ h) r.found in
          let named : interface_named (f.modules ++ mine ∷ []) m.name ≡ Some a = ap (λ (w : Module). interface_named (f.modules ++ mine ∷ []) w.name) l.1 ∙ q in
          let same : a ≡ mine = same_Some a mine (sym named ∙ named_here) in
          let at_end : j ≡ length ms = r.is ∙ ap (λ k. length ms + k) l.0 ∙ add-zero (length ms) in
          ap ok.printing.below at_end ∙ prints_here (ap (λ (w : Interface). w.prints && not (is_top w.name)) (sym same) ∙ p))
    ]

    absent_next : (z : Name) → ((j : ℕ) (y : Module) → slice_get (ms ++ m ∷ []) j ≡ Some y → y.name ≡ z → ⊥) → interface_named (f.modules ++ mine ∷ []) z ≡ None
    absent_next z none =
        let last : slice_get (ms ++ m ∷ []) (length ms + 0) ≡ Some m = get_back ms (m ∷ []) 0 m refl in
        named_back f.modules (mine ∷ []) z (g.absent z (λ j y h e. none j y (get_front ms (m ∷ []) j y h) e))
        ∙ ap (λ b. if b then Some mine else None) (other_name z m.name (λ e. none (length ms + 0) m last (sym e)))

    printed_next : (after_module f (make m)).printed ≡ true → (j : ℕ) × (j < length (ms ++ m ∷ [])) × Writes x j
    printed_next h = elim (or_cases f.printed (module_writes (make m)) (sym (module_printed f (make m)) ∙ h)) [
      | inl p ↦ (let w = g.printed p in let c = length_push ms m in let l : w.0 < length ms = w.1 in (w.0, omega arith, w.2))
      | inr p ↦ (let c = length_push ms m in (length ms, omega arith, text_writes p))
    ]

    placed_next : (z : Name) → In (after_module f (make m)).placed z → Placed (ms ++ m ∷ []) z
    placed_next z h = elim (after_in bytes_eq bytes_eq-Decides f.placed (module_places (make m)) z (subst (λ (l : Names). In l z) (module_placed f (make m)) h)) [
      | inl p ↦ (let a = g.placed z p in let c = length_push ms m in let l : a.k < length ms = a.low in
          record { k = a.k; i = a.i; of = a.of; y = a.y; low = omega arith; places = a.places; found = a.found; name = a.name })
      | inr p ↦ (let a = placed_in z m.instances (λ k n q. q)
          (subst (λ (l : Names). In l z) (placed_view x.modules m m.signals m.memories m.signals (laid.constants m) (map (laid.statement m) m.actions) m.instances) p) in
          let c = length_push ms m in
          record { k = length ms; i = a.0; of = a.1.of; y = a.4.0; low = omega arith; places = a.3; found = a.4.1; name = a.4.2 })
    ]

    known_next : IsKnown (ms ++ m ∷ []) (after_module f (make m))
    known_next = record { knows = knows_next; prints = prints_next; absent = absent_next; printed = printed_next; placed = placed_next }

    -- ---- the module itself

    quiet : (list_any (λ (a : Action). is_write a.effect) m.actions && f.printed) ≡ false
    quiet = false_from_ne_true (list_any (λ (a : Action). is_write a.effect) m.actions && f.printed) (λ h.
        (let w = g.printed (and_parts (list_any (λ (a : Action). is_write a.effect) m.actions) f.printed h).1 in
        let same : w.0 ≡ length ms = ok.printing.one w.0 (length ms) w.2 (writes_by (and_parts _ f.printed h).0) in
        let low : w.0 < length ms = w.1 in omega arith))

    plain_before : (j : ℕ) (y : Module) → slice_get ms j ≡ Some y → (k : ℕ) (s : Signal) → slice_get y.signals k ≡ Some s → IsPlain s
    plain_before j y h = plain_at j y (earlier j y h)

    lone : (a b : List Instance) (n : Instance) → m.instances ≡ a ++ n ∷ b → (of : Module) → slice_get ms n.of ≡ Some of
        → (places_printer f.modules (laid.instance_item x.modules m n)
        && is_known (at x.modules ms m known fits right f g.knows plain_before (front x.modules m m.signals m.memories m.signals (laid.constants m) (map
        (laid.statement m) m.actions) a)).placed of.name) ≡ false
    lone a b n e of h =
        let at_n = split_at m.instances a b n e in
        let items = front x.modules m m.signals m.memories m.signals (laid.constants m) (map (laid.statement m) m.actions) a in
        let state = at x.modules ms m known fits right f g.knows plain_before items in
        false_from_ne_true (places_printer f.modules (laid.instance_item x.modules m n) && is_known state.placed of.name) (λ q.
        (let below = below_by (length a) n at_n (and_parts _ _ q).0 in
        let held : In state.placed of.name = holds_in bytes_eq bytes_eq-Decides state.placed of.name (and_parts (places_printer f.modules (laid.instance_item x.modules m n)) _ q).1 in
        let grown : In (after with_name f.placed (flat_map item_modules items)) of.name = subst (λ (l : Names). In l of.name)
        (placed_is x.modules ms m known fits right f g.knows plain_before items) held in
        elim (after_in bytes_eq bytes_eq-Decides f.placed (flat_map item_modules items) of.name grown) [
          | inl p ↦ (let w = g.placed of.name p in
              let same : w.of ≡ n.of = same_module w.of n.of w.y of w.found (earlier n.of of h) (sym w.name) in
              let other : Places x w.k w.i n.of = subst (λ (k : ℕ). Places x w.k w.i k) same w.places in
              let clash : w.k ≡ length ms = (ok.printing.once w.k w.i (length ms) (length a) n.of below other (places_here (length a) n at_n)).0 in
              let low : w.k < length ms = w.low in omega arith)
          | inr p ↦ (let w = placed_in of.name a (λ k y r. ap (λ l. slice_get l k) e ∙ get_front a (n ∷ b) k y r)
              (subst (λ (l : Names). In l of.name) (placed_view x.modules m m.signals m.memories m.signals (laid.constants m) (map (laid.statement m) m.actions) a) p) in
              let same : w.1.of ≡ n.of = same_module w.1.of n.of w.4.0 of w.4.1 (earlier n.of of h) (sym w.4.2) in
              let other : Places x (length ms) w.0 n.of = subst (λ (k : ℕ). Places x (length ms) w.0 k) same w.3 in
              let clash : w.0 ≡ length a = (ok.printing.once (length ms) w.0 (length ms) (length a) n.of below other (places_here (length a) n at_n)).1 in
              let low : w.0 < length a = slice_get_within a w.0 w.1 w.2 in omega arith)
        ]))

    placed_end : (j k : ℕ) → Places x j k (length ms) → is_known end.placed m.name ≡ true
    placed_end j k p =
        let y = p.0 in
        let n = p.1 in
        let of_is : slice_get x.modules n.of ≡ Some m = ap (slice_get x.modules) p.4 ∙ here in
        let name : (laid.instance_of x.modules y n).module_name ≡ m.name = ap (λ o. (laid.instance_by y n (unwrap_or o y)).module_name) of_is in
        let one : In (module_places (make y)) m.name =
        subst (λ (l : Names). In l m.name) (sym (placed_view x.modules y y.signals y.memories y.signals (laid.constants y) (map (laid.statement y) y.actions) y.instances))
        (subst (λ (z : Name). In (map (λ (w : Instance). (laid.instance_of x.modules y w).module_name) y.instances) z) name
        (in_map (λ (w : Instance). (laid.instance_of x.modules y w).module_name) y.instances n (record { at = k; found = p.3 }))) in
        let all_places : In (flat_map module_places (map make x.modules)) m.name = in_flat module_places (map make x.modules) j (make y) m.name (get_mapped make x.modules j y p.2) one in
        in_holds bytes_eq bytes_eq-Decides end.placed m.name
        (subst (λ (l : Names). In l m.name) (sym (modules_placed nothing (map make x.modules))) (in_after bytes_eq bytes_eq-Decides [] (flat_map module_places (map make x.modules)) m.name
        (inr all_places)))

    or_top : (a b : Bool) → (a ≡ true) ⊎ (b ≡ true) → (a || b) ≡ true
    or_top true b h = refl
    or_top false b (inl h) = absurd (cc)
    or_top false b (inr h) = h

    module_formed : IsModule end f (make m)
    module_formed = record {
      new = ap is_some new_here;
      name = right.name;
      clock = implied _ _ (clocked x.modules ms m known fits right f.modules g.knows (apart_front (signal_names m) (memory_names m) (apart_front (signal_names m ++ memory_names m)
          (instance_names m) fits.names)));
      placed = implied _ _ (λ h. or_top (is_top m.name) (is_known end.placed m.name) (elim (ok.printing.placed (length ms) (text_writes h)) [
        | inl t ↦ inl (top_is t)
        | inr p ↦ inr (placed_end p.0 p.1 p.2)
      ]));
      ports = ports_formed x.modules ms m known fits right f g.knows plain_before;
      items = all_formed x.modules ms m known fits right f g.knows plain_before quiet lone;
    }

  modules_formed : (ms back : List Module) → x.modules ≡ ms ++ back → (f : Facts) → IsKnown ms f → EachAfter (IsModule end) after_module f (map make back)
  modules_formed ms [] split f g = tt
  modules_formed ms (m ∷ back) split f g = (
    module_formed ms m back split f g,
    modules_formed (ms ++ m ∷ []) back (split ∙ sym (append_assoc ms (m ∷ []) back)) (after_module f (make m)) (known_next ms m back split f g),
  )

  nothing_known : IsKnown [] nothing
  nothing_known = record {
    knows = λ j y h. absurd (none-some y h);
    prints = λ j y h. absurd (none-some y h);
    absent = λ z h. refl;
    printed = λ h. absurd (cc);
    placed = λ z h. absurd (in_none z h);
  }

  -- ---- no list is empty of which the grammar asks for one

  a_port : (j : ℕ) (y : Module) → slice_get x.modules j ≡ Some y → (k : ℕ) × (s : Signal) × (slice_get y.signals k ≡ Some s) × (is_port (netlist_laid.kind_of s) ≡ true)
  a_port j y h =
      let p = (ok.modules j y h).port in
      let from = ((ok.laid.modules j y h).signals p.0 p.1 p.2).drives in
      (p.0, p.1, p.2, port_kind (take j x.modules) y p.0 p.1.source p.1.is_output from p.3)

  full_instance : (ms : List Module) (m : Module) (back : List Module) (split : x.modules ≡ ms ++ m ∷ back) (k : ℕ) (n : Instance) → slice_get m.instances k ≡ Some n
      → IsFullItem (laid.instance_item x.modules m n)
  full_instance ms m back split k n h =
      let known_before = before_are x ok.laid ms (m ∷ back) split in
      let o = (fits_at x ok.laid ms m back split).instances k n h in
      let there : slice_get x.modules n.of ≡ Some o.of = ap (λ l. slice_get l n.of) split ∙ get_front ms (m ∷ back) n.of o.of o.earlier in
      let p = a_port n.of o.of there in
      subst (λ (t : text_instance.Instance). IsFullItem (i.Instance t)) (sym (instance_is x.modules ms m known_before n o.of o.earlier))
      (filled_ports (laid.connections m o.of n) p.1.name (connected_by m o.of (known_before.ordered n.of o.of o.earlier) n o.inputs o.outputs p.0 p.1 p.2 p.3))

  full_modules : (ms back : List Module) → x.modules ≡ ms ++ back → Each IsFullModule (map make back)
  full_modules ms [] split = tt
  full_modules ms (m ∷ back) split =
      let at_m = split_at x.modules ms back m split in
      let p = a_port (length ms) m at_m in
      let right_m = sound_at ms m back split in (
        (
          filled (laid.ports m) _ (port_there m p.0 p.1 p.2 p.3),
          each_append IsFullItem (flat_map laid.declared m.signals ++ map laid.memory_item m.memories ++ flat_map (laid.assign_of m) m.signals ++ laid.block laid.initial_item (laid.constants m)
              ++ laid.block laid.always_item (map (laid.statement m) m.actions)) (map (laid.instance_item x.modules m) m.instances)
              (each_append IsFullItem (flat_map laid.declared m.signals ++ map laid.memory_item m.memories ++ flat_map (laid.assign_of m) m.signals ++ laid.block laid.initial_item (laid.constants m))
              (laid.block laid.always_item (map (laid.statement m) m.actions))
              (each_append IsFullItem (flat_map laid.declared m.signals ++ map laid.memory_item m.memories ++ flat_map (laid.assign_of m) m.signals) (laid.block laid.initial_item (laid.constants m))
              (each_append IsFullItem (flat_map laid.declared m.signals ++ map laid.memory_item m.memories) (flat_map (laid.assign_of m) m.signals)
              (each_append IsFullItem (flat_map laid.declared m.signals) (map laid.memory_item m.memories)
              (each_flat IsFullItem laid.declared m.signals (λ k s h. full_declared s (netlist_laid.kind_of s))) (each_map IsFullItem laid.memory_item m.memories (λ k c h. tt)))
              (each_flat IsFullItem (laid.assign_of m) m.signals (λ k s h. full_assign m s s.source (right_m.signals k s h).fits)))
              (each_block IsFullItem laid.initial_item (laid.constants m) tt))
              (each_block IsFullItem laid.always_item (map (laid.statement m) m.actions) tt))
              (each_map IsFullItem (laid.instance_item x.modules m) m.instances (full_instance ms m back split)),
        ),
        full_modules (ms ++ m ∷ []) back (split ∙ sym (append_assoc ms (m ∷ []) back)),
      )

  some_module : (ms : List Module) → 1 ≤ length ms → IsFilled (map make ms)
  some_module [] h = omega arith
  some_module (m ∷ ms) h = tt

  pub net_formed : IsWellFormed (net_of x)
  unfolding net_of
  net_formed = record {
    full = (some_module x.modules ok.filled, full_modules [] x.modules refl);
    modules = modules_formed [] x.modules refl nothing nothing_known;
  }
