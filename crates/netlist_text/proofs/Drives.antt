-- Each wire and each output has its driver, and no second one.
use Rattle.std.proofs.Common.{◌≡◌, ℕ, zero, suc, ◌+◌, ◌<◌, List, [], ◌∷◌, ◌++◌, true, Some, refl, sym, ap, ◌∙◌, subst, inl, inr, length, map, arith}
use Rattle.std.specs.Prelude.{slice_get}
use Rattle.std.specs.List.{flat_map}
use Rattle.std.specs.Str.{bytes_eq}
use Rattle.std.proofs.lemmas.Slice.Eq.{bytes_eq-Decides}
use Rattle.std.proofs.lemmas.Option.{same_Some, none-some, slice_get_within}
use Rattle.lists.proofs.Places.{get_front, get_mapped, get_unmapped}
use Rattle.verilog_tree.specs.declared.tree.InitialConstant.{InitialConstant}
use Rattle.verilog_tree.specs.declared.tree.Statement.{Statement}
use Rattle.verilog_tree.specs.declared.tree.Item.{Item}
use Rattle.verilog_tree.specs.Scope.{Name, Names, is_known}
use Rattle.verilog_tree.specs.Facts.{Facts, after, after_item, with_name, drives}
use Rattle.verilog_tree.specs.WellFormed.{are_new}
use Rattle.netlist.specs.declared.netlist.Value.{Value}
use Rattle.netlist.specs.declared.netlist.Source.{Source}
use Rattle.netlist.specs.declared.netlist.Source.TheVariants as source
use Rattle.netlist.specs.declared.netlist.Signal.{Signal}
use Rattle.netlist.specs.declared.netlist.Instance.{Instance}
use Rattle.netlist.specs.declared.netlist.Module.{Module}
use Rattle.netlist.specs.Laid.{IsSource, IsDriven, IsLaidInstance, IsLaidModule, first_output}
use Rattle.netlist_text.specs.LaidOut as laid
use Rattle.netlist_text.proofs.Values.{signal_name_at}
use Rattle.netlist_text.proofs.Connections.{AreBefore}
use Rattle.netlist_text.proofs.Members.{In, IsApart, in_none, in_one, in_map, in_flat, in_unflat, names_new, after_in, in_after, in_holds}
use Rattle.netlist_text.proofs.Grown.{items_driven, items_modules, port_facts_are}
use Rattle.netlist_text.proofs.Views.{front, driven_names, target_there, output_there}
use Rattle.netlist_text.proofs.Slots.{same_signal}
use Rattle.netlist_text.proofs.Scoped.{start}
use Rattle.netlist_text.proofs.Interfaces.{KnowsModules, drives_are, driven_by, output_of}

one_at : {A : Type 0} (y x : A) (k : ℕ) → slice_get (y ∷ []) k ≡ Some x → k ≡ 0
one_at y x zero h = refl
one_at y x (suc k) h = absurd (none-some x h)

pub one_apart : {A : Type 0} (y : A) → IsApart (y ∷ [])
one_apart y = λ i j x p q. one_at y x i p ∙ sym (one_at y x j q)

module _ (all before : List Module) (m : Module) (known : AreBefore all before) (fits : IsLaidModule before m) (f : Facts) (knows : KnowsModules f.modules before) where
  pub modules_are : (xs : List Item) → (after after_item (start all m f) xs).modules ≡ f.modules
  modules_are xs = items_modules (start all m f) xs ∙ ap (λ (g : Facts). g.modules) (port_facts_are f (laid.text_of_module all m))

  driven_is : (xs : List Item) → (after after_item (start all m f) xs).driven ≡ after with_name [] (flat_map (drives f.modules) xs)
  driven_is xs = items_driven (start all m f) xs ∙ ap (λ (g : Facts). after with_name g.driven (flat_map (drives g.modules) xs)) (port_facts_are f (laid.text_of_module all m))

  in_driven : (xs : List Item) (z : Name) → In (after after_item (start all m f) xs).driven z → In (flat_map (drives f.modules) xs) z
  in_driven xs z h = elim (after_in bytes_eq bytes_eq-Decides [] (flat_map (drives f.modules) xs) z (subst (λ (l : Names). In l z) (driven_is xs) h)) [
    | inl p ↦ absurd (in_none z p)
    | inr p ↦ p
  ]

  known_driven : (xs : List Item) (z : Name) → In (flat_map (drives f.modules) xs) z → is_known (after after_item (start all m f) xs).driven z ≡ true
  known_driven xs z h =
      in_holds bytes_eq bytes_eq-Decides (after after_item (start all m f) xs).driven z
      (subst (λ (l : Names). In l z) (sym (driven_is xs)) (in_after bytes_eq bytes_eq-Decides [] (flat_map (drives f.modules) xs) z (inr h)))

  -- two signals of one name have one source
  same_source : (x y : ℕ) (s t : Signal) → slice_get m.signals x ≡ Some s → slice_get m.signals y ≡ Some t → s.name ≡ t.name → s.source ≡ t.source
  same_source x y s t p q e =
      let same : x ≡ y = same_signal m fits.names x y s t p q e in
      ap (λ (u : Signal). u.source) (same_Some s t (sym p ∙ ap (slice_get m.signals) same ∙ q))

  pub assign_new : (a b : List Signal) (s : Signal) → m.signals ≡ a ++ s ∷ b → slice_get m.signals (length a) ≡ Some s
      → are_new (after after_item (start all m f) (front all m m.signals m.memories a [] [] [])).driven (s.name ∷ []) ≡ true
  assign_new a b s e h =
      let items = front all m m.signals m.memories a [] [] [] in
      names_new (after after_item (start all m f) items).driven (s.name ∷ []) (λ z p q.
      elim (driven_names all m m.signals m.memories a [] [] [] f.modules z (in_driven items z q)) [
        | inl o ↦ (let there : slice_get m.signals o.at ≡ Some o.s = ap (λ l. slice_get l o.at) e ∙ get_front a (s ∷ b) o.at o.s o.found in
            let same : o.at ≡ length a = same_signal m fits.names o.at (length a) o.s s there h (sym o.name ∙ sym (in_one s.name z p)) in
            let low : o.at < length a = slice_get_within a o.at o.s o.found in absurd (omega arith))
        | inr o ↦ absurd (in_none z o)
      ]) (one_apart s.name)

  outputs_apart : (i : ℕ) (n : Instance) → IsLaidInstance before m i n → IsApart (map (laid.signal_name m) n.outputs)
  outputs_apart i n h = λ j k z p q.
      (let a = get_unmapped (laid.signal_name m) n.outputs j z p in
      let b = get_unmapped (laid.signal_name m) n.outputs k z q in
      let s = output_of all before m known f.modules knows i n h j a.0 a.1 in
      let t = output_of all before m known f.modules knows i n h k b.0 b.1 in
      let name : s.0.name ≡ t.0.name = sym (signal_name_at m a.0 s.0 s.1) ∙ a.2 ∙ sym b.2 ∙ signal_name_at m b.0 t.0 t.1 in
      let same : source.Port i (first_output h.of + j) ≡ source.Port i (first_output h.of + k) = sym s.2 ∙ same_source a.0 b.0 s.0 t.0 s.1 t.1 name ∙ t.2 in
      let e : first_output h.of + j ≡ first_output h.of + k = cc in omega arith)

  earlier_output : (a : List Instance) (n : Instance) (b : List Instance) → m.instances ≡ a ++ n ∷ b → (z : Name) → In (flat_map (drives f.modules) (map (laid.instance_item all m) a)) z
      → (i : ℕ) × (i < length a) × ((x : ℕ) × (s : Signal) × (port : ℕ) × (slice_get m.signals x ≡ Some s) × (s.source ≡ source.Port i port) × (z ≡ s.name))
  earlier_output a n b e z h =
      let g = in_unflat (drives f.modules) (map (laid.instance_item all m) a) z h in
      let o = get_unmapped (laid.instance_item all m) a g.at g.x g.found in
      let there : slice_get m.instances g.at ≡ Some o.0 = ap (λ l. slice_get l g.at) e ∙ get_front a (n ∷ b) g.at o.0 o.1 in
      let d = driven_by all before m known f.modules knows g.at o.0 (fits.instances g.at o.0 there) z (subst (λ (y : Item). In (drives f.modules y) z) (sym o.2) g.inside) in
      (g.at, slice_get_within a g.at o.0 o.1, (d.x, d.s, d.port, d.found, d.is, d.name))

  pub outputs_new : (constants : List InitialConstant) (body : List Statement) (a b : List Instance) (n : Instance) → m.instances ≡ a ++ n ∷ b → slice_get m.instances (length a) ≡ Some n
      → are_new (after after_item (start all m f) (front all m m.signals m.memories m.signals constants body a)).driven (drives f.modules (laid.instance_item all m n)) ≡ true
  outputs_new constants body a b n e h =
      let items = front all m m.signals m.memories m.signals constants body a in
      let ok = fits.instances (length a) n h in
      names_new (after after_item (start all m f) items).driven (drives f.modules (laid.instance_item all m n)) (λ z p q.
      (let d = driven_by all before m known f.modules knows (length a) n ok z p in
      elim (driven_names all m m.signals m.memories m.signals constants body a f.modules z (in_driven items z q)) [
        | inl o ↦ (let same : o.s.source ≡ d.s.source = same_source o.at d.x o.s d.s o.found d.found (sym o.name ∙ d.name) in
            let clash : source.Assigned o.right ≡ source.Port (length a) d.port = sym o.is ∙ same ∙ d.is in absurd (cc))
        | inr o ↦ (let g = earlier_output a n b e z o in
            let same : g.2.1.source ≡ d.s.source = same_source g.2.0 d.x g.2.1 d.s g.2.3 d.found (sym g.2.5 ∙ d.name) in
            let clash : source.Port g.0 g.2.2 ≡ source.Port (length a) d.port = sym g.2.4 ∙ same ∙ d.is in
            let at : g.0 ≡ length a = cc in
            let low : g.0 < length a = g.1 in absurd (omega arith))
      ])) (subst (λ (l : Names). IsApart l) (sym (drives_are all before m known f.modules knows (length a) n ok)) (outputs_apart (length a) n ok))

  -- ---- the drivers of the whole module

  module _ (constants : List InitialConstant) (body : List Statement) where
    abbrev items : List Item
    items = front all m m.signals m.memories m.signals constants body m.instances

    pub assigned_known : (x : ℕ) (s : Signal) (right : Value) → slice_get m.signals x ≡ Some s → s.source ≡ source.Assigned right
        → is_known (after after_item (start all m f) items).driven s.name ≡ true
    assigned_known x s right h e = known_driven items s.name (target_there all m m.signals m.memories m.signals constants body m.instances f.modules x s right h e)

    pub port_known : (x : ℕ) (s : Signal) (i port : ℕ) → slice_get m.signals x ≡ Some s → s.source ≡ source.Port i port → is_known (after after_item (start all m f) items).driven s.name ≡ true
    port_known x s i port h e =
        let d : IsDriven before m x i port = subst (λ (k : Source). IsSource before m x s.is_output k) e (fits.signals x s h).drives in
        let ok = fits.instances i d.instance d.stands in
        let held : In (map (laid.signal_name m) d.instance.outputs) (laid.signal_name m x) = in_map (laid.signal_name m) d.instance.outputs x (record { at = d.output; found = d.tied }) in
        let driven : In (drives f.modules (laid.instance_item all m d.instance)) (laid.signal_name m x) =
        subst (λ (l : Names). In l (laid.signal_name m x)) (sym (drives_are all before m known f.modules knows i d.instance ok)) held in
        let flat = in_flat (drives f.modules) (map (laid.instance_item all m) m.instances) i (laid.instance_item all m d.instance) (laid.signal_name m x)
        (get_mapped (laid.instance_item all m) m.instances i d.instance d.stands) driven in
        subst (λ (z : Name). is_known (after after_item (start all m f) items).driven z ≡ true) (signal_name_at m x s h)
        (known_driven items (laid.signal_name m x) (output_there all m m.signals m.memories m.signals constants body m.instances f.modules (laid.signal_name m x) flat))
