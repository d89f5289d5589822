-- The text of a sound netlist declares each name before it uses it.
use Rattle.std.proofs.Common.{◌≡◌, ℕ, ◌+◌, ◌-◌, ◌<◌, List, [], ◌∷◌, ◌++◌, Bool, true, Some, refl, sym, ap, ◌∙◌, subst, inl, inr, length, map, append_assoc}
use Rattle.std.specs.Prelude.{slice_get}
use Rattle.std.specs.List.{flat_map}
use Rattle.std.specs.Str.{bytes_eq}
use Rattle.std.proofs.lemmas.Slice.Eq.{bytes_eq-Decides}
use Rattle.std.proofs.lemmas.List.{append-nil}
use Rattle.lists.proofs.Places.{get_there}
use Rattle.verilog_tree.specs.declared.tree.Port.{Port}
use Rattle.verilog_tree.specs.declared.tree.Connection.{Connection}
use Rattle.verilog_tree.specs.declared.tree.InitialConstant.{InitialConstant}
use Rattle.verilog_tree.specs.declared.tree.Item.{Item}
use Rattle.verilog_tree.specs.Grammar.{clk}
use Rattle.verilog_tree.specs.Reads.{Each}
use Rattle.verilog_tree.specs.Scope.{Name, Names}
use Rattle.netlist.specs.declared.netlist.Source.{Source}
use Rattle.netlist.specs.declared.netlist.Source.TheVariants as source
use Rattle.netlist.specs.declared.netlist.Signal.{Signal}
use Rattle.netlist.specs.declared.netlist.Memory.{Memory}
use Rattle.netlist.specs.declared.netlist.Action.{Action}
use Rattle.netlist.specs.declared.netlist.Instance.{Instance}
use Rattle.netlist.specs.declared.netlist.Module.{Module}
use Rattle.netlist.specs.declared.netlist.Netlist.{Netlist}
use Rattle.netlist.specs.NetlistOf.{Kind, InputPort, OutputPort, PlainWire, Reg}
use Rattle.netlist.specs.Laid.{AreSignals, AreMemories, IsSource, IsLaidModule, kind_of, is_inner, operands, memories_read, first_output}
use Rattle.netlist.specs.Sound.{IsSound, IsSoundModule, HasClock}
use Rattle.netlist_text.specs.LaidOut as laid
use Rattle.netlist_text.specs.LaidOut.{net_of}
use Rattle.netlist_text.specs.Portable.{IsKnownTo, DeclareFirst, DeclaresFirst}
use Rattle.netlist_text.specs.Portable as portable
use Rattle.netlist_text.proofs.Values.{signal_name_at, memory_name_at}
use Rattle.netlist_text.proofs.Back.{driven_within}
use Rattle.netlist_text.proofs.Members.{In, in_first, in_front, in_back, in_map, in_flat, in_holds, holds_in}
use Rattle.netlist_text.proofs.Scoped.{port_or_inner}
use Rattle.netlist_text.proofs.Interfaces.{port_there, told_port}
use Rattle.netlist_text.proofs.EachOfLists.{each_append, each_flat, each_map, each_block, each_from, each_weaker, each_mapped}
use Rattle.netlist_text.proofs.TextNames.{initial_names, assign_names, NamesThese, always_names, constants_given}

-- ---- item after item

known_more : (xs ys : Names) (x : Name) → IsKnownTo xs x → IsKnownTo (xs ++ ys) x
known_more xs ys x h = in_holds bytes_eq bytes_eq-Decides (xs ++ ys) x (in_front xs ys x (holds_in bytes_eq bytes_eq-Decides xs x h))

-- an item uses these names alone
abbrev UsesKnown : Names → Item → Type 0
UsesKnown known x = Each (IsKnownTo known) (portable.used_by x)

within : (known : Names) (xs : List Item) → Each (UsesKnown known) xs → DeclareFirst known xs
within known [] h = tt
within known (x ∷ xs) h = (
  h.0,
  within (known ++ portable.declared_by x) xs (each_weaker (UsesKnown known) (UsesKnown (known ++ portable.declared_by x)) xs
      (λ y. each_weaker (IsKnownTo known) (IsKnownTo (known ++ portable.declared_by x)) (portable.used_by y) (known_more known (portable.declared_by x))) h.1),
)

first_append : (known : Names) (xs ys : List Item) → DeclareFirst known xs → DeclareFirst (known ++ flat_map portable.declared_by xs) ys → DeclareFirst known (xs ++ ys)
first_append known [] ys h g = subst (λ (l : Names). DeclareFirst l ys) (append-nil known) g
first_append known (x ∷ xs) ys h g = (
  h.0,
  first_append (known ++ portable.declared_by x) xs ys h.1
      (subst (λ (l : Names). DeclareFirst l ys) (sym (append_assoc known (portable.declared_by x) (flat_map portable.declared_by xs))) g),
)

later : {A : Type 0} (a c d e f : List A) → a ++ c ++ d ++ e ++ f ≡ a ++ (c ++ d ++ e ++ f)
later a c d e f = ap (λ l. l ++ e ++ f) (append_assoc a c d) ∙ ap (λ l. l ++ f) (append_assoc a (c ++ d) e) ∙ append_assoc a (c ++ d ++ e) f

-- ---- what the first items of a module declare

record Declares (xs : List Item) (x : Name) : Type 0 where
  item : Item
  held : In xs item
  named : In (portable.declared_by item) x

inner_declares : (s : Signal) (k : Kind) → is_inner k ≡ true → Declares (laid.declared_by s k) s.name
inner_declares s InputPort h = absurd cc
inner_declares s OutputPort h = absurd cc
inner_declares s PlainWire h = record { item = _; held = in_first _ []; named = in_first s.name [] }
inner_declares s Reg h = record { item = _; held = in_first _ []; named = in_first s.name [] }

declares_nothing_new : (s : Signal) (k : Kind) (known : Names) → Each (UsesKnown known) (laid.declared_by s k)
declares_nothing_new s InputPort known = tt
declares_nothing_new s OutputPort known = tt
declares_nothing_new s PlainWire known = (tt, tt)
declares_nothing_new s Reg known = (tt, tt)

module _ (all before : List Module) (m : Module) (fits : IsLaidModule before m) (ok : IsSoundModule m before) where
  abbrev port_names : Names
  port_names = map (λ (p : Port). p.name) (laid.ports m)

  abbrev declarations : List Item
  declarations = flat_map laid.declared m.signals ++ map laid.memory_item m.memories

  abbrev known : Names
  known = port_names ++ flat_map portable.declared_by declarations

  abbrev Known : Name → Type 0
  Known = IsKnownTo known

  know : (x : Name) → In known x → Known x
  know x h = in_holds bytes_eq bytes_eq-Decides known x h

  declared_in : (x : Name) → Declares declarations x → Known x
  declared_in x d =
      know x (in_back port_names (flat_map portable.declared_by declarations) x (in_flat portable.declared_by declarations d.held.at d.item x d.held.found d.named))

  signal_there : (k : ℕ) (s : Signal) → slice_get m.signals k ≡ Some s → Known s.name
  signal_there k s h = elim (port_or_inner (kind_of s)) [
    | inl p ↦
        know s.name (in_front port_names (flat_map portable.declared_by declarations) s.name
        (in_map (λ (q : Port). q.name) (laid.ports m) (told_port s) (port_there m k s h p)))
    | inr p ↦ (let d = inner_declares s (kind_of s) p in
        declared_in s.name (record {
          item = d.item;
          held = in_front (flat_map laid.declared m.signals) (map laid.memory_item m.memories) d.item (in_flat laid.declared m.signals k s d.item h d.held);
          named = d.named;
        }))
  ]

  memory_there : (j : ℕ) (c : Memory) → slice_get m.memories j ≡ Some c → Known c.name
  memory_there j c h =
      declared_in c.name (record {
        item = laid.memory_item c;
        held = in_back (flat_map laid.declared m.signals) (map laid.memory_item m.memories) (laid.memory_item c)
            (in_map laid.memory_item m.memories c (record { at = j; found = h }));
        named = in_first c.name [];
      })

  signal_known : (x : ℕ) → x < length m.signals → Known (laid.signal_name m x)
  signal_known x low = let s = get_there m.signals x low in subst Known (sym (signal_name_at m x s.0 s.1)) (signal_there x s.0 s.1)

  memory_known : (j : ℕ) → j < length m.memories → Known (laid.memory_name m j)
  memory_known j low = let c = get_there m.memories j low in subst Known (sym (memory_name_at m j c.0 c.1)) (memory_there j c.0 c.1)

  signals_known : (xs : List ℕ) → AreSignals m xs → Each (λ x. Known (laid.signal_name m x)) xs
  signals_known xs h = each_from (λ x. Known (laid.signal_name m x)) xs (λ k x e. signal_known x (h k x e))

  memories_known : (js : List ℕ) → AreMemories m js → Each (λ j. Known (laid.memory_name m j)) js
  memories_known js h = each_from (λ j. Known (laid.memory_name m j)) js (λ k j e. memory_known j (h k j e))

  -- ---- what the others use

  assign_known : (x : ℕ) (s : Signal) (out : Bool) (from : Source) → Known s.name → IsSource before m x out from → Each (UsesKnown known) (laid.assign_by m s from)
  assign_known x s out source.Input p h = tt
  assign_known x s out (source.Register n) p h = tt
  assign_known x s out (source.Assigned right) p h =
      (assign_names Known m s.name s.width right p (signals_known (operands right) h.0) (memories_known (memories_read right) h.1), tt)
  assign_known x s out (source.Port j port) p h = tt

  given : Each (λ (c : InitialConstant). Known c.name) (laid.constants m)
  given = constants_given Known m (each_from (λ (s : Signal). Known s.name) m.signals signal_there) (each_from (λ (c : Memory). Known c.name) m.memories memory_there)

  clock_known : HasClock m m → Known clk
  clock_known h = subst Known ((bytes_eq-Decides h.1.name clk).0 h.3) (signal_there h.0 h.1 h.2)

  action_known : (k : ℕ) (x : Action) → slice_get m.actions k ≡ Some x → NamesThese Known m x
  action_known k x h =
      let a = fits.actions k x h in
      record { conditions = signals_known _ a.conditions; signals = signals_known _ a.signals; memories = memories_known _ a.memories }

  always_known : Each (UsesKnown known) (laid.block laid.always_item (map (laid.statement m) m.actions))
  always_known = by m.actions refl
    where
      by : (xs : List Action) → m.actions ≡ xs → Each (UsesKnown known) (laid.block laid.always_item (map (laid.statement m) xs))
      by [] e = tt
      by (x ∷ xs) e = (
        subst (λ (l : List Action). UsesKnown known (laid.always_item (map (laid.statement m) l))) e
            (always_names Known m (clock_known (ok.actions_clocked 0 x (ap (λ l. slice_get l 0) e))) (each_from (NamesThese Known m) m.actions action_known)),
        tt,
      )

  ties_known : (of : Module) (k : ℕ) (xs : List ℕ) → AreSignals m xs → Each (λ (c : Connection). Known c.signal) (laid.with_places (laid.tie m of) k xs)
  ties_known of k xs h = by k xs (signals_known xs h)
    where
      by : (k : ℕ) (xs : List ℕ) → Each (λ x. Known (laid.signal_name m x)) xs → Each (λ (c : Connection). Known c.signal) (laid.with_places (laid.tie m of) k xs)
      by k [] h = tt
      by k (x ∷ xs) h = (h.0, by (k + 1) xs h.1)

  instance_known : (i : ℕ) (n : Instance) → slice_get m.instances i ≡ Some n → UsesKnown known (laid.instance_item all m n)
  instance_known i n e =
      let x = fits.instances i n e in
      let of = laid.module_at all m n.of in
      let outputs : AreSignals m n.outputs = λ j y f. driven_within m y (source.Port i (first_output x.of + j)) (x.drives j y f) in
      each_mapped Known (λ (c : Connection). c.signal) (laid.connections m of n)
      (each_append (λ (c : Connection). Known c.signal) (laid.with_places (laid.tie m of) 0 n.inputs)
      (laid.with_places (laid.tie m of) (length of.signals - length n.outputs) n.outputs) (ties_known of 0 n.inputs x.input_places)
      (ties_known of (length of.signals - length n.outputs) n.outputs outputs))

  others_known : Each (UsesKnown known) (flat_map (laid.assign_of m) m.signals ++ laid.block laid.initial_item (laid.constants m)
      ++ laid.block laid.always_item (map (laid.statement m) m.actions) ++ map (laid.instance_item all m) m.instances)
  others_known =
      let c = flat_map (laid.assign_of m) m.signals in
      let d = laid.block laid.initial_item (laid.constants m) in
      let e = laid.block laid.always_item (map (laid.statement m) m.actions) in
      let f = map (laid.instance_item all m) m.instances in
      each_append (UsesKnown known) (c ++ d ++ e) f
      (each_append (UsesKnown known) (c ++ d) e
      (each_append (UsesKnown known) c d
      (each_flat (UsesKnown known) (laid.assign_of m) m.signals (λ k s h. assign_known k s s.is_output s.source (signal_there k s h) (fits.signals k s h).drives))
      (each_block (UsesKnown known) laid.initial_item (laid.constants m) (initial_names Known (laid.constants m) given)))
      always_known)
      (each_map (UsesKnown known) (laid.instance_item all m) m.instances instance_known)

  declarations_use_nothing : Each (UsesKnown port_names) declarations
  declarations_use_nothing =
      each_append (UsesKnown port_names) (flat_map laid.declared m.signals) (map laid.memory_item m.memories)
      (each_flat (UsesKnown port_names) laid.declared m.signals (λ k s h. declares_nothing_new s (kind_of s) port_names))
      (each_map (UsesKnown port_names) laid.memory_item m.memories (λ j c h. tt))

  pub module_declares : DeclaresFirst (laid.text_of_module all m)
  module_declares =
      let c = flat_map (laid.assign_of m) m.signals in
      let d = laid.block laid.initial_item (laid.constants m) in
      let e = laid.block laid.always_item (map (laid.statement m) m.actions) in
      let f = map (laid.instance_item all m) m.instances in
      subst (DeclareFirst port_names) (sym (later declarations c d e f))
      (first_append port_names declarations (c ++ d ++ e ++ f) (within port_names declarations declarations_use_nothing) (within known (c ++ d ++ e ++ f) others_known))

-- ---- all modules

pub net_declares : (x : Netlist) → IsSound x → Each DeclaresFirst (net_of x).modules
unfolding net_of
net_declares x ok =
    each_map DeclaresFirst (laid.text_of_module x.modules) x.modules (λ k m e. module_declares x.modules _ m (ok.laid.modules k m e) (ok.modules k m e))
