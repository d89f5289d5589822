-- In a well-formed text one instance at most has a $write: the rule of $write holds of its netlist.
use Rattle.std.proofs.Common.{◌≡◌, ℕ, ◌<◌, ◌⊎◌, List, [], Bool, true, false, Option, Some, None, refl, sym, ap, ◌∙◌, subst, inl, inr, take, arith}
use Rattle.std.specs.Prelude.{not, ◌&&◌, ◌||◌, slice_get}
use Rattle.std.specs.List.{flat_map, list_any}
use Rattle.std.specs.Str.{bytes_eq}
use Rattle.std.proofs.lemmas.Slice.Eq.{bytes_eq-Decides}
use Rattle.std.proofs.lemmas.Option.{same_Some}
use Rattle.std.proofs.lemmas.Bool.{cases_order, or_parts, or_left, or_right}
use Rattle.std.proofs.lemmas.Map.Keys.{any_passes_from_place}
use Rattle.lists.proofs.Places.{get_mapped, get_unmapped}
use Rattle.verilog_tree.specs.declared.tree.Instance as text_instance
use Rattle.verilog_tree.specs.declared.tree.Item.{Item}
use Rattle.verilog_tree.specs.declared.tree.Item.TheVariants as i
use Rattle.verilog_tree.specs.declared.tree.Module as text
use Rattle.verilog_tree.specs.declared.tree.Net.{Net}
use Rattle.verilog_tree.specs.Scope.{Name, Names, is_known}
use Rattle.verilog_tree.specs.Facts.{Facts, interface_named, is_top, prints_below_top, item_prints, places_printer, module_prints}
use Rattle.verilog_tree.specs.Facts.{nothing, after, after_item, after_module, port_facts}
use Rattle.verilog_tree.specs.WellFormed.{EachAfter, IsModule, IsWellFormed}
use Rattle.netlist.specs.declared.netlist.Action.{Action}
use Rattle.netlist.specs.declared.netlist.Instance.{Instance}
use Rattle.netlist.specs.declared.netlist.Module.{Module}
use Rattle.netlist.specs.NetlistOf as n
use Rattle.netlist.specs.NetlistOf.{place, module_of, netlist_of}
use Rattle.netlist.specs.Laid.{AreApart, module_names}
use Rattle.netlist.specs.Sound.{IsPrinting, IsTop, Places, Writes, is_write}
use Rattle.netlist_text.proofs.Members.{In, in_none, in_one, in_first, in_flat, in_unflat, is_known_in, after_in}
use Rattle.netlist_text.proofs.Grown.{items_printed, modules_printed, modules_placed, module_places, module_writes, item_modules, port_facts_are}
use Rattle.well_formed_net.proofs.Tests.{both, implied, or_there, second_false}
use Rattle.well_formed_net.proofs.Declarations.{item_is}
use Rattle.well_formed_net.proofs.Statements.{body_prints}
use Rattle.well_formed_net.proofs.Earlier.{IsTold, told_module, module_there}
use Rattle.well_formed_net.proofs.Connected.{facts_at, formed, IsInstanceOf, instance_of}
use Rattle.well_formed_net.proofs.Drivers.{instance_at}
use Rattle.well_formed_net.proofs.Modules.{actions_are, instances_are, modules_are}
use Rattle.well_formed_net.proofs.Named.{take_get, kept_take, own, names_apart}
use Rattle.well_formed_net.proofs.Once.{one_instance}

pub name_is : (before : List text.Module) (m : text.Module) → (module_of before m).name ≡ m.name
unfolding module_of
name_is before m = refl

module _ (ms : List text.Module) (each : EachAfter (IsModule (after after_module nothing ms)) after_module nothing ms) where
  abbrev whole : Facts
  whole = after after_module nothing ms

  abbrev before_at : ℕ → Facts
  before_at k = facts_at ms whole each k

  -- a $write stands in or below the module of a name, `top` aside
  abbrev prints : Name → Bool
  prints z = prints_below_top (interface_named whole.modules z)

  abbrev IsPrinter : Name → Type 0
  IsPrinter z = prints z ≡ true

  own_prints : (k : ℕ) (t : text.Module) → slice_get ms k ≡ Some t → prints t.name ≡ (module_prints (before_at k).modules t && not (is_top t.name))
  own_prints k t e = ap prints_below_top (own whole ms nothing k t each e)

  -- where an instance stands, its module is known as what it is
  sees : (k : ℕ) (m : text.Module) (t : text_instance.Instance) → slice_get ms k ≡ Some m → In (n.instance_items m) t →
      prints t.module_name ≡ places_printer (before_at k).modules (i.Instance t)
  sees k m t e h =
      let a = instance_at m t h in
      let o = instance_of ms whole each k m e a.at t a.found in
      ap prints_below_top (kept_take ms nothing k t.module_name o.interface o.named) ∙ sym (ap prints_below_top o.named)

  -- ---- what prints

  module _ (k : ℕ) (m : text.Module) (found : slice_get ms k ≡ Some m) where
    abbrev mine : Module
    mine = module_of (take k ms) m

    record HasWrite : Type 0 where
      pub at : ℕ
      pub item : Item
      pub there : slice_get m.items at ≡ Some item
      pub prints_it : item_prints item ≡ true

    write_in : (at : ℕ) (x : Item) (a : Action) → slice_get m.items at ≡ Some x → In (n.item_actions (n.signal_names (take k ms) m) (n.memory_names (take k ms) m) x) a →
        is_write a.effect ≡ true → HasWrite
    write_in at (i.Always y) a e h w = record {
      at = at;
      item = i.Always y;
      there = e;
      prints_it = body_prints (n.signal_names (take k ms) m)
          (n.memory_names (take k ms) m) y.body a h w;
    }
    write_in at (i.Wire y) a e h w = absurd (in_none a h)
    write_in at (i.Register y) a e h w = absurd (in_none a h)
    write_in at (i.Memory y) a e h w = absurd (in_none a h)
    write_in at (i.Assign y) a e h w = absurd (in_none a h)
    write_in at (i.Initial y) a e h w = absurd (in_none a h)
    write_in at (i.Instance y) a e h w = absurd (in_none a h)

    has_write : (j : ℕ) (a : Action) → slice_get mine.actions j ≡ Some a → is_write a.effect ≡ true → HasWrite
    has_write j a e w =
        let acts = n.item_actions (n.signal_names (take k ms) m) (n.memory_names (take k ms) m) in
        let r = in_unflat acts m.items a (record { at = j; found = ap (λ (l : List Action). slice_get l j) (sym (actions_are (take k ms) m)) ∙ e }) in
        write_in r.at r.x a r.found r.inside w

    -- it is `top`, or prints below it
    top_or_below : module_prints (before_at k).modules m ≡ true → (b : Bool) → is_top m.name ≡ b → (is_top m.name ≡ true) ⊎ (prints m.name ≡ true)
    top_or_below h true e = inl e
    top_or_below h false e = inr (own_prints k m found ∙ ap (λ b. b && not (is_top m.name)) h ∙ ap not e)

    write_below : HasWrite → (is_top m.name ≡ true) ⊎ (prints m.name ≡ true)
    write_below w =
        top_or_below (any_passes_from_place (λ x. item_prints x || places_printer (before_at k).modules x) m.items w.at w.item w.there
        (or_left (item_prints w.item) (places_printer (before_at k).modules w.item) w.prints_it))
        (is_top m.name) refl

    holder_below : (t : text_instance.Instance) → In (n.instance_items m) t → IsPrinter t.module_name → (is_top m.name ≡ true) ⊎ (prints m.name ≡ true)
    holder_below t h p =
        let a = instance_at m t h in
        top_or_below
        (any_passes_from_place (λ x. item_prints x || places_printer (before_at k).modules x) m.items a.at (i.Instance t) a.found
        (or_right (item_prints (i.Instance t)) (places_printer (before_at k).modules (i.Instance t)) (sym (sees k m t found h) ∙ p)))
        (is_top m.name) refl

    -- no block with a $write stands before one
    printed_before : (w : HasWrite) → (after after_item (port_facts (before_at k) m) (take w.at m.items)).printed ≡ false
    printed_before w =
        second_false (item_prints w.item) _ (item_is whole (before_at k) m (formed ms whole each k m found) w.at w.item w.there).printing w.prints_it

    unprinted : HasWrite → (before_at k).printed ≡ false
    unprinted w =
        (or_parts (before_at k).printed (list_any item_prints (take w.at m.items)) (sym (items_printed (port_facts (before_at k) m) (take w.at m.items) ∙ ap (λ
        (g : Facts). g.printed || list_any item_prints (take w.at m.items))
        (port_facts_are (before_at k) m)) ∙ printed_before w)).0

  not_after : (k j : ℕ) (m w : text.Module) (e : slice_get ms k ≡ Some m) (g : slice_get ms j ≡ Some w) → HasWrite k m e → HasWrite j w g → k < j → ⊥
  not_after k j m w e g a b l =
      let writes : module_writes m ≡ true = any_passes_from_place item_prints m.items a.at a.item a.there a.prints_it in
      let printed : (before_at j).printed ≡ true = modules_printed nothing (take j ms) ∙ any_passes_from_place module_writes (take j ms) k m (take_get ms j k m l e) writes in
      both (unprinted j w g b) printed

  one_writer : (k j : ℕ) (m w : text.Module) (e : slice_get ms k ≡ Some m) (g : slice_get ms j ≡ Some w) → HasWrite k m e → HasWrite j w g → k ≡ j
  one_writer k j m w e g a b = elim (cases_order k j) [
    | inl q ↦ q
    | inr p ↦ elim p [ inl l ↦ absurd (not_after k j m w e g a b l) | inr l ↦ absurd (not_after j k w m g e b a l) ]
  ]

-- ---- of the netlist

module_is : (y : Item) (z : Name) → In (item_modules y) z → (t : text_instance.Instance) × (y ≡ i.Instance t) × (t.module_name ≡ z)
module_is (i.Instance t) z h = (t, refl, in_one t.module_name z h)
module_is (i.Wire y) z h = absurd (in_none z h)
module_is (i.Register y) z h = absurd (in_none z h)
module_is (i.Memory y) z h = absurd (in_none z h)
module_is (i.Assign y) z h = absurd (in_none z h)
module_is (i.Initial y) z h = absurd (in_none z h)
module_is (i.Always y) z h = absurd (in_none z h)

module _ (net : Net) (formed_net : IsWellFormed net) where
  abbrev texts : List text.Module
  texts = net.modules

  abbrev all_facts : Facts
  all_facts = after after_module nothing net.modules

  abbrev each_module : EachAfter (IsModule all_facts) after_module nothing net.modules
  each_module = formed_net.modules

  abbrev modules : List Module
  modules = (netlist_of net).modules

  abbrev is_printer : Name → Bool
  is_printer z = prints texts each_module z

  told : (k : ℕ) (m : Module) → slice_get modules k ≡ Some m → IsTold [] texts k m
  told k m e = told_module texts [] k m (ap (λ (l : List Module). slice_get l k) (sym (modules_are net)) ∙ e)

  -- the module of the netlist for one of the text
  pub told_there : (k : ℕ) (t : text.Module) → slice_get texts k ≡ Some t → slice_get modules k ≡ Some (module_of (take k texts) t)
  told_there k t e = ap (λ (l : List Module). slice_get l k) (modules_are net) ∙ module_there texts [] k t e

  same_name : (k : ℕ) (m : Module) (t : IsTold [] texts k m) → m.name ≡ t.text.name
  same_name k m t = ap (λ (y : Module). y.name) t.is ∙ name_is (take k texts) t.text

  abbrev below_of : Option text.Module → Bool
  below_of None = false
  below_of (Some t) = is_printer t.name

  abbrev below : ℕ → Bool
  below k = below_of (slice_get texts k)

  top_or : (k : ℕ) (m : Module) → slice_get modules k ≡ Some m → (t : IsTold [] texts k m) → (is_top t.text.name ≡ true) ⊎ (is_printer t.text.name ≡ true) →
      IsTop (netlist_of net) k ⊎ (below k ≡ true)
  top_or k m e t h = elim h [
    | inl p ↦ inl (m, e, ap is_top (same_name k m t) ∙ p)
    | inr p ↦ inr (ap below_of t.listed ∙ p)
  ]

  -- a module that writes has a $write in the text
  record IsWriter (k : ℕ) : Type 0 where
    pub mine : Module
    pub listed : slice_get modules k ≡ Some mine
    pub told_as : IsTold [] texts k mine
    pub writes : HasWrite texts each_module k told_as.text told_as.listed

  writer : (k : ℕ) → Writes (netlist_of net) k → IsWriter k
  writer k w =
      let t = told k w.0 w.3 in
      record {
        mine = w.0;
        listed = w.3;
        told_as = t;
        writes = has_write texts each_module k t.text t.listed w.1 w.2 (subst (λ (y : Module). slice_get y.actions w.1 ≡ Some w.2) t.is w.4) w.5;
      }

  -- an instance of the netlist is one of the text
  record IsPlaced (k j : ℕ) (m : Module) (x : Instance) : Type 0 where
    pub told_as : IsTold [] texts k m
    pub instance : text_instance.Instance
    pub held : slice_get (n.instance_items told_as.text) j ≡ Some instance
    pub there : IsInstanceOf texts all_facts each_module k told_as.text told_as.listed instance
    pub number : x.of ≡ there.number

  place_of : (k j : ℕ) (m : Module) (x : Instance) → slice_get modules k ≡ Some m → slice_get m.instances j ≡ Some x → IsPlaced k j m x
  place_of k j m x e g =
      let t = told k m e in
      let listed : slice_get (module_of (take k texts) t.text).instances j ≡ Some x = subst (λ (y : Module). slice_get y.instances j ≡ Some x) t.is g in
      let q = get_unmapped (n.instance_of (take k texts) t.text) (n.instance_items t.text) j x
      (◌∙◌ {c = Some x} (ap (λ (l : List Instance). slice_get l j) (sym (instances_are (take k texts) t.text))) listed) in
      let a = instance_at t.text q.0 (record { at = j; found = q.1 }) in
      let o = instance_of texts all_facts each_module k t.text t.listed a.at q.0 a.found in
      record { told_as = t; instance = q.0; held = q.1; there = o; number = ◌∙◌ {c = o.number} (ap (λ (y : Instance). y.of) (sym q.2)) o.place_is }

  placed_printer : (k j : ℕ) (m : Module) (x : Instance) (p : IsPlaced k j m x) (of : ℕ) → x.of ≡ of → below of ≡ true → is_printer p.instance.module_name ≡ true
  placed_printer k j m x p of is b =
      ap is_printer p.there.name ∙ sym (ap below_of p.there.listed) ∙ ap below (sym p.number ∙ is) ∙ b

  writes_top : (k : ℕ) → Writes (netlist_of net) k → IsTop (netlist_of net) k ⊎ (below k ≡ true)
  writes_top k w = let r = writer k w in top_or k r.mine r.listed r.told_as (write_below texts each_module k r.told_as.text r.told_as.listed r.writes)

  holds : (k j of : ℕ) → Places (netlist_of net) k j of → below of ≡ true → IsTop (netlist_of net) k ⊎ (below k ≡ true)
  holds k j of p b =
      let r = place_of k j p.0 p.1 p.2 p.3 in
      top_or k p.0 p.2 r.told_as
      (holder_below texts each_module k r.told_as.text r.told_as.listed r.instance (record { at = j; found = r.held }) (placed_printer k j p.0 p.1 r of p.4 b))

  one : (k j : ℕ) → Writes (netlist_of net) k → Writes (netlist_of net) j → k ≡ j
  one k j w v =
      let a = writer k w in
      let b = writer j v in
      one_writer texts each_module k j a.told_as.text b.told_as.text a.told_as.listed b.told_as.listed a.writes b.writes

  once : (k a j l of : ℕ) → below of ≡ true → Places (netlist_of net) k a of → Places (netlist_of net) j l of → (k ≡ j) × (a ≡ l)
  once k a j l of b p q =
      let r = place_of k a p.0 p.1 p.2 p.3 in
      let o = place_of j l q.0 q.1 q.2 q.3 in
      let number : r.there.number ≡ o.there.number = sym r.number ∙ p.4 ∙ sym q.4 ∙ o.number in
      let same : r.there.of ≡ o.there.of = same_Some r.there.of o.there.of (sym r.there.listed ∙ ap (slice_get texts) number ∙ o.there.listed) in
      one_instance (λ z. is_printer z ≡ true) all_facts texts nothing each_module (λ c m t e h y. sym (sees texts each_module c m t e h) ∙ y) k j a l r.told_as.text o.told_as.text
      r.instance o.instance r.told_as.listed o.told_as.listed r.held o.held (r.there.name ∙ ap (λ (y : text.Module). y.name) same ∙ sym o.there.name)
      (placed_printer k a p.0 p.1 r of p.4 b)

  -- ---- a module that writes is `top` or has an instance

  abbrev HasPlace : ℕ → Type 0
  HasPlace k = (j : ℕ) × (a : ℕ) × Places (netlist_of net) j a k

  placed_here : (k : ℕ) (t : text.Module) → slice_get texts k ≡ Some t → (j : ℕ) (v : text.Module) → slice_get texts j ≡ Some v → (u : text_instance.Instance) →
      In (n.instance_items v) u
      → u.module_name ≡ t.name → HasPlace k
  placed_here k t e j v g u h same =
      let c = instance_at v u h in
      let o = instance_of texts all_facts each_module j v g c.at u c.found in
      let number : o.number ≡ k = names_apart all_facts texts each_module o.number k o.of t o.listed e (sym o.name ∙ same) in (
        j,
        h.at,
        (
          module_of (take j texts) v,
          n.instance_of (take j texts) v u,
          told_there j v g,
          ap (λ (l : List Instance). slice_get l h.at) (instances_are (take j texts) v) ∙ get_mapped (n.instance_of (take j texts) v) (n.instance_items v) h.at u h.found,
          o.place_is ∙ number,
        ),
      )

  known_place : (k : ℕ) (t : text.Module) → slice_get texts k ≡ Some t → is_known all_facts.placed t.name ≡ true → HasPlace k
  known_place k t e known =
      elim (after_in bytes_eq bytes_eq-Decides [] (flat_map module_places texts) t.name
      (subst (λ (l : Names). In l t.name) (modules_placed nothing texts) (is_known_in all_facts.placed t.name known))) [
        | inl p ↦ absurd (in_none t.name p)
        | inr p ↦ (let r = in_unflat module_places texts t.name p in
            let y = in_unflat item_modules r.x.items t.name r.inside in
            let u = module_is y.x t.name y.inside in
            placed_here k t e r.at r.x r.found u.0
            (in_flat (λ (x : Item). n.some (n.instance_item x)) r.x.items y.at (i.Instance u.0) u.0 (y.found ∙ ap Some u.1) (in_first u.0 [])) u.2)
      ]

  top_or_placed : (k : ℕ) (m : Module) → slice_get modules k ≡ Some m → (t : IsTold [] texts k m) → HasWrite texts each_module k t.text t.listed → (b : Bool) →
      is_top t.text.name ≡ b
      → IsTop (netlist_of net) k ⊎ HasPlace k
  top_or_placed k m e t w true h = inl (m, e, ap is_top (same_name k m t) ∙ h)
  top_or_placed k m e t w false h =
      let rule = implied (list_any item_prints t.text.items) (is_top t.text.name || is_known all_facts.placed t.text.name)
      (formed texts all_facts each_module k t.text t.listed).placed
      (any_passes_from_place item_prints t.text.items w.at w.item w.there w.prints_it) in
      inr (known_place k t.text t.listed (or_there (is_top t.text.name) (is_known all_facts.placed t.text.name) rule h))

  placed : (k : ℕ) → Writes (netlist_of net) k → IsTop (netlist_of net) k ⊎ HasPlace k
  placed k w = let r = writer k w in top_or_placed k r.mine r.listed r.told_as r.writes (is_top r.told_as.text.name) refl

  pub printing : IsPrinting (netlist_of net)
  printing = record { below = below; writes = writes_top; holds = holds; one = one; placed = placed; once = once }

  -- ---- names and places of modules

  pub modules_apart : AreApart (module_names modules)
  modules_apart k j x e f =
      let a = get_unmapped (λ (y : Module). y.name) modules k x e in
      let b = get_unmapped (λ (y : Module). y.name) modules j x f in
      let t = told k a.0 a.1 in
      let u = told j b.0 b.1 in
      names_apart all_facts texts each_module k j t.text u.text t.listed u.listed (sym (same_name k a.0 t) ∙ a.2 ∙ sym b.2 ∙ same_name j b.0 u)

  -- the module of an instance stands earlier
  pub stands_earlier : (k j : ℕ) (m : Module) (x : Instance) → slice_get modules k ≡ Some m → slice_get m.instances j ≡ Some x → x.of < k
  stands_earlier k j m x e g =
      let r = place_of k j m x e g in
      let number = r.number in
      let lower = r.there.lower in omega (arith, number, lower)
