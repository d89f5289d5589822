-- The declarations of a module, whole and in front of an item.
use Rattle.std.proofs.Common.{◌≡◌, ℕ, ◌<◌, ◌⊎◌, List, [], ◌∷◌, ◌++◌, true, false, Some, None, refl, sym, ap, ◌∙◌, subst, inl, inr, length, map, arith}
use Rattle.std.specs.Prelude.{slice_get, is_some, not, ◌||◌}
use Rattle.std.specs.List.{flat_map}
use Rattle.std.proofs.lemmas.Option.{same_Some, slice_get_within}
use Rattle.lists.proofs.Places.{get_front}
use Rattle.verilog_tree.specs.declared.kind.Kind as scope_kind
use Rattle.verilog_tree.specs.declared.kind.Kind.TheVariants as kind
use Rattle.verilog_tree.specs.declared.tree.InitialConstant.{InitialConstant}
use Rattle.verilog_tree.specs.declared.tree.Statement.{Statement}
use Rattle.verilog_tree.specs.declared.tree.Item.{Item}
use Rattle.verilog_tree.specs.Scope.{Name, Scope, kind_of, is_clk, declaration, port_declaration}
use Rattle.verilog_tree.specs.Facts.{Facts, after, after_item, with_declaration, port_facts}
use Rattle.verilog_tree.specs.WellFormed.{is_new_declaration}
use Rattle.netlist.specs.declared.netlist.Signal.{Signal}
use Rattle.netlist.specs.declared.netlist.Memory.{Memory}
use Rattle.netlist.specs.declared.netlist.Instance.{Instance}
use Rattle.netlist.specs.declared.netlist.Module.{Module}
use Rattle.netlist.specs.NetlistOf.{Kind, InputPort, OutputPort, PlainWire, Reg, some}
use Rattle.netlist.specs.Laid as netlist_laid
use Rattle.netlist.specs.Laid.{AreApart, declared_names, is_inner}
use Rattle.netlist_text.specs.LaidOut as laid
use Rattle.netlist_text.proofs.Members.{In, Entry, Named, in_none, in_front, in_back, in_either, kind_unique, undeclared, declarations_in, in_declarations}
use Rattle.netlist_text.proofs.Grown.{after-append, items_scope, port_facts_are}
use Rattle.netlist_text.proofs.Views.{told_kind, told_entry, memory_kind, memory_entry, is_port, OfSignal, OfMemory}
use Rattle.netlist_text.proofs.Views.{OfInstance, port_entries, port_entries_there, front, item_entries, inner_there, memory_there}
use Rattle.netlist_text.proofs.Slots.{same_signal, same_memory, same_instance, signal_no_memory, signal_no_instance, memory_no_instance}

pub no_both : (k : Kind) → is_port k ≡ true → is_inner k ≡ true → ⊥
no_both InputPort p q = cc
no_both OutputPort p q = cc
no_both PlainWire p q = cc
no_both Reg p q = cc

pub port_or_inner : (k : Kind) → (is_port k ≡ true) ⊎ (is_inner k ≡ true)
port_or_inner InputPort = inl refl
port_or_inner OutputPort = inl refl
port_or_inner PlainWire = inr refl
port_or_inner Reg = inr refl

module _ (all : List Module) (m : Module) (f : Facts) where
  abbrev pub start : Facts
  start = port_facts f (laid.text_of_module all m)

  abbrev port_list : Scope
  port_list = map port_declaration (laid.ports m)

  pub scope_is : (xs : List Item) → (after after_item start xs).scope ≡ after with_declaration [] (port_list ++ flat_map (λ (y : Item). some (declaration y)) xs)
  scope_is xs =
      items_scope start xs ∙ ap (λ (g : Facts). after with_declaration g.scope (flat_map (λ (y : Item). some (declaration y)) xs)) (port_facts_are f (laid.text_of_module all m))
      ∙ sym (after-append with_declaration [] port_list (flat_map (λ (y : Item). some (declaration y)) xs))

  module _ (ss : List Signal) (cs : List Memory) (ts : List Signal) (constants : List InitialConstant) (body : List Statement) (ns : List Instance) where
    abbrev pub Origin : Entry → Type 0
    Origin e = OfSignal m.signals is_port e ⊎ (OfSignal ss is_inner e ⊎ (OfMemory cs e ⊎ OfInstance ns e))

    pub origin : (e : Entry) → In (after after_item start (front all m ss cs ts constants body ns)).scope e → Origin e
    origin e h =
        let items : List Entry = flat_map (λ (y : Item). some (declaration y)) (front all m ss cs ts constants body ns) in
        let held : In (after with_declaration [] (port_list ++ items)) e = subst (λ (l : Scope). In l e) (scope_is (front all m ss cs ts constants body ns)) h in
        elim (declarations_in [] (port_list ++ items) e held) [
          | inl p ↦ absurd (in_none e p)
          | inr p ↦ elim (in_either port_list items e p) [ inl q ↦ inl (port_entries m.signals e q) | inr q ↦ inr (item_entries all m ss cs ts constants body ns e q) ]
        ]

    -- a name that no entry in front has may be declared
    pub new_name : (d : Entry) → is_clk d.0 ≡ false → ((e : Entry) → Origin e → e.0 ≡ d.0 → ⊥)
        → is_new_declaration (after after_item start (front all m ss cs ts constants body ns)).scope (Some d) ≡ true
    new_name d clk none =
        let sc = (after after_item start (front all m ss cs ts constants body ns)).scope in
        let absent : kind_of sc d.0 ≡ None = undeclared sc d.0 (λ e p q. none e (origin e p) q) in
        ap (λ o. not (is_some o || is_clk d.0)) absent ∙ ap not clk

    pub declared_as : (x : Name) (k : scope_kind.Kind) → ((e : Entry) → Origin e → e.0 ≡ x → e.1 ≡ k)
        → Named (port_list ++ flat_map (λ (y : Item). some (declaration y)) (front all m ss cs ts constants body ns)) x
        → kind_of (after after_item start (front all m ss cs ts constants body ns)).scope x ≡ Some k
    declared_as x k one named =
        let items : List Entry = flat_map (λ (y : Item). some (declaration y)) (front all m ss cs ts constants body ns) in
        let there = in_declarations [] (port_list ++ items) x (inr named) in
        let held : In (after after_item start (front all m ss cs ts constants body ns)).scope there.entry =
        subst (λ (l : Scope). In l there.entry) (sym (scope_is (front all m ss cs ts constants body ns))) there.held in
        kind_unique (after after_item start (front all m ss cs ts constants body ns)).scope x k (λ e p q. one e (origin e p) q) held.at there.entry held.found there.name

-- ---- the whole module

module _ (all : List Module) (m : Module) (f : Facts) (apart : AreApart (declared_names m)) (constants : List InitialConstant) (body : List Statement) where
  abbrev pub whole : List Item
  whole = front all m m.signals m.memories m.signals constants body m.instances

  same_kind : (x y : ℕ) (s t : Signal) → slice_get m.signals x ≡ Some s → slice_get m.signals y ≡ Some t → s.name ≡ t.name → told_kind s ≡ told_kind t
  same_kind x y s t p q e =
      let at : slice_get m.signals y ≡ Some s = ap (slice_get m.signals) (sym (same_signal m apart x y s t p q e)) ∙ p in
      ap told_kind (same_Some s t (sym at ∙ q))

  one_signal : (x : ℕ) (s : Signal) → slice_get m.signals x ≡ Some s → (e : Entry) → Origin all m f m.signals m.memories m.signals constants body m.instances e → e.0 ≡ s.name → e.1 ≡ told_kind s
  one_signal x s h e (inl o) q =
      ap (λ (d : Entry). d.1) o.is ∙ same_kind o.at x o.s s o.found h (sym (ap (λ (d : Entry). d.0) o.is) ∙ q)
  one_signal x s h e (inr (inl o)) q =
      ap (λ (d : Entry). d.1) o.is ∙ same_kind o.at x o.s s o.found h (sym (ap (λ (d : Entry). d.0) o.is) ∙ q)
  one_signal x s h e (inr (inr (inl o))) q = absurd (signal_no_memory m apart x o.at s o.c h o.found (sym (sym (ap (λ (d : Entry). d.0) o.is) ∙ q)))
  one_signal x s h e (inr (inr (inr o))) q = absurd (signal_no_instance m apart x o.at s o.n h o.found (sym (sym (ap (λ (d : Entry). d.0) o.is) ∙ q)))

  one_memory : (j : ℕ) (c : Memory) → slice_get m.memories j ≡ Some c → (e : Entry) → Origin all m f m.signals m.memories m.signals constants body m.instances e → e.0 ≡ c.name → e.1 ≡ memory_kind c
  one_memory j c h e (inl o) q = absurd (signal_no_memory m apart o.at j o.s c o.found h (sym (ap (λ (d : Entry). d.0) o.is) ∙ q))
  one_memory j c h e (inr (inl o)) q = absurd (signal_no_memory m apart o.at j o.s c o.found h (sym (ap (λ (d : Entry). d.0) o.is) ∙ q))
  one_memory j c h e (inr (inr (inl o))) q =
      let same : o.at ≡ j = same_memory m apart o.at j o.c c o.found h (sym (ap (λ (d : Entry). d.0) o.is) ∙ q) in
      ap (λ (d : Entry). d.1) o.is ∙ ap memory_kind (same_Some o.c c (sym o.found ∙ ap (slice_get m.memories) same ∙ h))
  one_memory j c h e (inr (inr (inr o))) q = absurd (memory_no_instance m apart j o.at c o.n h o.found (sym (sym (ap (λ (d : Entry). d.0) o.is) ∙ q)))

  signal_named : (x : ℕ) (s : Signal) → slice_get m.signals x ≡ Some s → Named (map port_declaration (laid.ports m) ++ flat_map (λ (y : Item). some (declaration y)) whole) s.name
  signal_named x s h =
      let ports : List Entry = map port_declaration (laid.ports m) in
      let items : List Entry = flat_map (λ (y : Item). some (declaration y)) whole in
      elim (port_or_inner (netlist_laid.kind_of s)) [
        | inl p ↦ record { entry = told_entry s; held = in_front ports items (told_entry s) (port_entries_there m.signals x s h p); name = refl }
        | inr p ↦ record { entry = told_entry s; held = in_back ports items (told_entry s) (inner_there all m m.signals m.memories m.signals constants body m.instances x s h p); name = refl }
      ]

  pub signal_declared : (x : ℕ) (s : Signal) → slice_get m.signals x ≡ Some s → kind_of (after after_item (start all m f) whole).scope s.name ≡ Some (told_kind s)
  signal_declared x s h = declared_as all m f m.signals m.memories m.signals constants body m.instances s.name (told_kind s) (one_signal x s h) (signal_named x s h)

  pub memory_declared : (j : ℕ) (c : Memory) → slice_get m.memories j ≡ Some c → kind_of (after after_item (start all m f) whole).scope c.name ≡ Some (memory_kind c)
  memory_declared j c h =
      let ports : List Entry = map port_declaration (laid.ports m) in
      let items : List Entry = flat_map (λ (y : Item). some (declaration y)) whole in
      declared_as all m f m.signals m.memories m.signals constants body m.instances c.name (memory_kind c) (one_memory j c h)
      (record { entry = memory_entry c; held = in_back ports items (memory_entry c) (memory_there all m m.signals m.memories m.signals constants body m.instances j c h); name = refl })

-- ---- what an item declares is new

module _ (all : List Module) (m : Module) (f : Facts) (apart : AreApart (declared_names m)) where
  pub inner_new : (a b : List Signal) (s : Signal) → m.signals ≡ a ++ s ∷ b → slice_get m.signals (length a) ≡ Some s → is_inner (netlist_laid.kind_of s) ≡ true → is_clk s.name ≡ false
      → is_new_declaration (after after_item (start all m f) (front all m a [] [] [] [] [])).scope (Some (told_entry s)) ≡ true
  inner_new a b s e h inner clk = new_name all m f a [] [] [] [] [] (told_entry s) clk none where
    none : (d : Entry) → Origin all m f a [] [] [] [] [] d → d.0 ≡ s.name → ⊥
    none d (inl o) q =
        let name : o.s.name ≡ s.name = sym (ap (λ (y : Entry). y.0) o.is) ∙ q in
        let same : o.at ≡ length a = same_signal m apart o.at (length a) o.s s o.found h name in
        let is : o.s ≡ s = same_Some o.s s (sym o.found ∙ ap (slice_get m.signals) same ∙ h) in
        no_both (netlist_laid.kind_of s) (subst (λ (t : Signal). is_port (netlist_laid.kind_of t) ≡ true) is o.passes) inner
    none d (inr (inl o)) q =
        let name : o.s.name ≡ s.name = sym (ap (λ (y : Entry). y.0) o.is) ∙ q in
        let there : slice_get m.signals o.at ≡ Some o.s = ap (λ l. slice_get l o.at) e ∙ get_front a (s ∷ b) o.at o.s o.found in
        let same : o.at ≡ length a = same_signal m apart o.at (length a) o.s s there h name in
        let low : o.at < length a = slice_get_within a o.at o.s o.found in omega arith
    none d (inr (inr (inl o))) q = absurd (in_none o.c (record { at = o.at; found = o.found }))
    none d (inr (inr (inr o))) q = absurd (in_none o.n (record { at = o.at; found = o.found }))

  pub memory_new : (a b : List Memory) (c : Memory) → m.memories ≡ a ++ c ∷ b → slice_get m.memories (length a) ≡ Some c → is_clk c.name ≡ false
      → is_new_declaration (after after_item (start all m f) (front all m m.signals a [] [] [] [])).scope (Some (memory_entry c)) ≡ true
  memory_new a b c e h clk = new_name all m f m.signals a [] [] [] [] (memory_entry c) clk none where
    none : (d : Entry) → Origin all m f m.signals a [] [] [] [] d → d.0 ≡ c.name → ⊥
    none d (inl o) q = signal_no_memory m apart o.at (length a) o.s c o.found h (sym (ap (λ (y : Entry). y.0) o.is) ∙ q)
    none d (inr (inl o)) q = signal_no_memory m apart o.at (length a) o.s c o.found h (sym (ap (λ (y : Entry). y.0) o.is) ∙ q)
    none d (inr (inr (inl o))) q =
        let there : slice_get m.memories o.at ≡ Some o.c = ap (λ l. slice_get l o.at) e ∙ get_front a (c ∷ b) o.at o.c o.found in
        let same : o.at ≡ length a = same_memory m apart o.at (length a) o.c c there h (sym (ap (λ (y : Entry). y.0) o.is) ∙ q) in
        let low : o.at < length a = slice_get_within a o.at o.c o.found in omega arith
    none d (inr (inr (inr o))) q = absurd (in_none o.n (record { at = o.at; found = o.found }))

  pub instance_new : (constants : List InitialConstant) (body : List Statement) (a b : List Instance) (n : Instance) → m.instances ≡ a ++ n ∷ b → slice_get m.instances (length a) ≡ Some n
      → is_clk n.name ≡ false
      → is_new_declaration (after after_item (start all m f) (front all m m.signals m.memories m.signals constants body a)).scope (Some (n.name, kind.Instance)) ≡ true
  instance_new constants body a b n e h clk = new_name all m f m.signals m.memories m.signals constants body a (n.name, kind.Instance) clk none where
    none : (d : Entry) → Origin all m f m.signals m.memories m.signals constants body a d → d.0 ≡ n.name → ⊥
    none d (inl o) q = signal_no_instance m apart o.at (length a) o.s n o.found h (sym (ap (λ (y : Entry). y.0) o.is) ∙ q)
    none d (inr (inl o)) q = signal_no_instance m apart o.at (length a) o.s n o.found h (sym (ap (λ (y : Entry). y.0) o.is) ∙ q)
    none d (inr (inr (inl o))) q = memory_no_instance m apart o.at (length a) o.c n o.found h (sym (ap (λ (y : Entry). y.0) o.is) ∙ q)
    none d (inr (inr (inr o))) q =
        let there : slice_get m.instances o.at ≡ Some o.n = ap (λ l. slice_get l o.at) e ∙ get_front a (n ∷ b) o.at o.n o.found in
        let same : o.at ≡ length a = same_instance m apart o.at (length a) o.n n there h (sym (ap (λ (y : Entry). y.0) o.is) ∙ q) in
        let low : o.at < length a = slice_get_within a o.at o.n o.found in omega arith
