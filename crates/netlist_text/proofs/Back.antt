-- The netlist of the text that is laid out is the given one.
use Rattle.std.proofs.Common.{◌≡◌, ℕ, ◌+◌, ◌-◌, ◌<◌, ◌≤◌, List, [], ◌∷◌, ◌++◌, Bool, true, false, Some, None, refl, sym, ap, ◌∙◌, subst, length, map, take, append_assoc, add-zero, arith}
use Rattle.std.specs.Prelude.{slice_get, nat_lt, if◌then◌else◌}
use Rattle.std.specs.List.{flat_map}
use Rattle.std.proofs.lemmas.Bool.Decides.{nat_tests}
use Rattle.std.proofs.lemmas.Option.{slice_get_within}
use Rattle.std.proofs.lemmas.List.{take_at, map-append}
use Rattle.std.proofs.lemmas.Simd.{map-map}
use Rattle.lists.proofs.Places.{get_front, get_back}
use Rattle.verilog_tree.specs.declared.tree.Memory as text_memory
use Rattle.verilog_tree.specs.declared.tree.Module as text_module
use Rattle.verilog_tree.specs.declared.tree.Net.{Net}
use Rattle.netlist.specs.declared.netlist.Source.{Source}
use Rattle.netlist.specs.declared.netlist.Source.TheVariants as source
use Rattle.netlist.specs.declared.netlist.Signal.{Signal}
use Rattle.netlist.specs.declared.netlist.Memory.{Memory}
use Rattle.netlist.specs.declared.netlist.Action.{Action}
use Rattle.netlist.specs.declared.netlist.Instance.{Instance}
use Rattle.netlist.specs.declared.netlist.Module.{Module}
use Rattle.netlist.specs.declared.netlist.Netlist.{Netlist}
use Rattle.netlist.specs.NetlistOf as n
use Rattle.netlist.specs.NetlistOf.{Name, Declaration, OutputPort, PlainWire, is_output_port, place, connected, module_of, modules_of, netlist_of}
use Rattle.netlist.specs.Laid.{AreApart, IsSource, IsLaidInstance, IsLaidModule, IsLaid, kind_by, kind_of, source_at}
use Rattle.netlist.specs.Laid.{input_signals, output_signals, signal_names, memory_names, instance_names, module_names}
use Rattle.netlist_text.specs.LaidOut as laid
use Rattle.netlist_text.specs.LaidOut.{net_of}
use Rattle.netlist_text.proofs.Places.{map_back, map_against, apart_front, apart_back}
use Rattle.netlist_text.proofs.Told.{told_declaration, told_declarations, told_ports_in, told_ports_out, told_memories}
use Rattle.netlist_text.proofs.Told.{told_assigns, told_constants, told_instances, told_actions, told_signal_names}
use Rattle.netlist_text.proofs.Constants.{register_back, memory_words_back}
use Rattle.netlist_text.proofs.Values.{signal_back, value_back, actions_back}
use Rattle.netlist_text.proofs.Connections.{AreBefore, texts, instance_is, place_is, of_instance_is, input_connected, output_connected}
use Rattle.netlist_text.proofs.Sources.{assigned_right, assigned_at, mapped_some, tied_back}

width_by : (w : ℕ) → 1 ≤ w → (b : Bool) → nat_lt 1 w ≡ b → n.width_of (if b then Some (w - 1) else None) ≡ w
width_by w h true e = omega arith
width_by w h false e = let low : w ≤ 1 = grind (arith, nat_tests) in omega arith

width_back : (w : ℕ) → 1 ≤ w → n.width_of (laid.high_of w) ≡ w
width_back w h = width_by w h (nat_lt 1 w) refl

pub driven_within : (m : Module) (p : ℕ) (from : Source) → source_at m p ≡ Some from → p < length m.signals
driven_within m p from h = let u = mapped_some (λ (y : Signal). y.source) (slice_get m.signals p) from h in slice_get_within m.signals p u.0 u.1

output_back : (from : Source) (out : Bool) → (before : List Module) (m : Module) (x : ℕ) → IsSource before m x out from → is_output_port (kind_by from out) ≡ out
output_back source.Input out before m x h = sym h
output_back (source.Register c) out before m x h = sym h
output_back (source.Assigned right) true before m x h = refl
output_back (source.Assigned right) false before m x h = refl
output_back (source.Port j port) true before m x h = refl
output_back (source.Port j port) false before m x h = refl

module _ (all before : List Module) (m : Module) (known : AreBefore all before) (fits : IsLaidModule before m) where
  abbrev text : text_module.Module
  text = laid.text_of_module all m

  abbrev earlier : List text_module.Module
  earlier = texts all before m known

  signals_apart : AreApart (signal_names m)
  signals_apart = apart_front (signal_names m) (memory_names m) (apart_front (signal_names m ++ memory_names m) (instance_names m) fits.names)

  memories_apart : AreApart (memory_names m)
  memories_apart = apart_back (signal_names m) (memory_names m) (apart_front (signal_names m ++ memory_names m) (instance_names m) fits.names)

  signal_names_back : n.signal_names earlier text ≡ signal_names m
  signal_names_back = told_signal_names all m fits.order

  memory_names_back : n.memory_names earlier text ≡ memory_names m
  memory_names_back = ap (map (λ (x : text_memory.Memory). x.name)) (told_memories all m) ∙ map-map (λ (x : text_memory.Memory). x.name) laid.memory_of m.memories

  constants_back : n.constants earlier text ≡ laid.constants m
  constants_back = told_constants all m

  -- ---- signals

  driven_back : (k : ℕ) (s : Signal) → slice_get m.signals k ≡ Some s
      → n.driven earlier text (n.assigned (n.assign_items text) s.name) s.name ≡ n.driven earlier text (assigned_right m s s.source) s.name
  driven_back k s h = ap (λ o. n.driven earlier text o s.name) (ap (λ l. n.assigned l s.name) (told_assigns all m) ∙ assigned_at m k s signals_apart h)

  by_output : (out : Bool) (x : Name) → n.source_of earlier text (if out then OutputPort else PlainWire) x ≡ n.driven earlier text (n.assigned (n.assign_items text) x) x
  by_output true x = refl
  by_output false x = refl

  source_by : (k : ℕ) (s : Signal) (from : Source) (out : Bool) → slice_get m.signals k ≡ Some s → s.source ≡ from → IsSource before m k out from
      → n.source_of earlier text (kind_by from out) s.name ≡ from
  source_by k s source.Input out h is ok = refl
  source_by k s (source.Register c) out h is ok =
      ap source.Register (ap (λ cs. n.initial_of cs s.name None) constants_back ∙ register_back m k s c signals_apart h is)
  source_by k s (source.Assigned right) out h is ok =
      by_output out s.name ∙ driven_back k s h ∙ ap (λ f. n.driven earlier text (assigned_right m s f) s.name) is
      ∙ ap (λ l. source.Assigned (n.value l (n.memory_names earlier text) (laid.expression m s.width right))) signal_names_back
      ∙ ap (λ l. source.Assigned (n.value (signal_names m) l (laid.expression m s.width right))) memory_names_back
      ∙ ap source.Assigned (value_back m signals_apart memories_apart s.width right ok.0 ok.1)
  source_by k s (source.Port j port) out h is ok =
      by_output out s.name ∙ driven_back k s h ∙ ap (λ f. n.driven earlier text (assigned_right m s f) s.name) is
      ∙ ap (λ l. n.tied earlier l s.name 0) (told_instances all m)
      ∙ tied_back all before m known signals_apart k s j port h is fits.instances ok

  signal_of_back : (k : ℕ) (s : Signal) → slice_get m.signals k ≡ Some s → n.signal_of earlier text (told_declaration s) ≡ s
  signal_of_back k s h =
      let ok = fits.signals k s h in
      let make : ℕ → Bool → Source → Signal = λ w o f. record { name = s.name; width = w; is_output = o; source = f } in
      ap (λ w. make w (is_output_port (kind_of s)) (n.source_of earlier text (kind_of s) s.name)) (width_back s.width ok.low)
      ∙ ap (λ o. make s.width o (n.source_of earlier text (kind_of s) s.name)) (output_back s.source s.is_output before m k ok.drives)
      ∙ ap (make s.width s.is_output) (source_by k s s.source s.is_output h refl ok.drives)

  signals_back : map (n.signal_of earlier text) (n.declarations text) ≡ m.signals
  signals_back = ap (map (n.signal_of earlier text)) (told_declarations all m fits.order) ∙ map_back (n.signal_of earlier text) told_declaration m.signals signal_of_back

  -- ---- memories

  memory_of_back : (j : ℕ) (c : Memory) → slice_get m.memories j ≡ Some c → n.memory_of earlier text (laid.memory_of c) ≡ c
  memory_of_back j c h =
      let ok = fits.memories j c h in
      let low : 1 ≤ c.width = ok.low in
      let words : 1 ≤ length c.initial = ok.words in
      let width : c.width - 1 + 1 ≡ c.width = omega arith in
      let count : length c.initial - 1 + 1 ≡ length c.initial = omega arith in
      let make : ℕ → List ℕ → Memory = λ w l. record { name = c.name; width = w; initial = l } in
      ap (λ w. make w (n.words_of (n.constants earlier text) c.name 0 (length c.initial - 1 + 1))) width
      ∙ ap (λ k. make c.width (n.words_of (n.constants earlier text) c.name 0 k)) count
      ∙ ap (λ cs. make c.width (n.words_of cs c.name 0 (length c.initial))) constants_back
      ∙ ap (make c.width) (memory_words_back m j c memories_apart h)

  memories_back : map (n.memory_of earlier text) (n.memory_items text) ≡ m.memories
  memories_back = ap (map (n.memory_of earlier text)) (told_memories all m) ∙ map_back (n.memory_of earlier text) laid.memory_of m.memories memory_of_back

  -- ---- actions

  all_actions_back : flat_map (n.item_actions (n.signal_names earlier text) (n.memory_names earlier text)) text.items ≡ m.actions
  all_actions_back =
      ap (λ l. flat_map (n.item_actions l (n.memory_names earlier text)) text.items) signal_names_back
      ∙ ap (λ l. flat_map (n.item_actions (signal_names m) l) text.items) memory_names_back
      ∙ told_actions all m (signal_names m) (memory_names m) ∙ actions_back m signals_apart memories_apart m.actions fits.actions

  -- ---- instances

  instance_by_back : (j : ℕ) (x : Instance) (h : IsLaidInstance before m j x) → n.instance_of earlier text (laid.instance_by m x h.of) ≡ x
  instance_by_back j x h =
      let ordered = known.ordered x.of h.of h.earlier in
      let cs = laid.connections m h.of x in
      let tie : Declaration → ℕ = λ d. place (n.signal_names earlier text) (connected cs d.name) in
      let at : Signal → ℕ = λ s. place (signal_names m) (connected cs s.name) in
      let find : (p : ℕ) → p < length m.signals → place (signal_names m) (laid.signal_name m p) ≡ p = signal_back m signals_apart memories_apart in
      let same : (ss : List Signal) → map tie (map told_declaration ss) ≡ map at ss = λ ss.
      map-map tie told_declaration ss ∙ ap (λ l. map (λ (s : Signal). place l (connected cs s.name)) ss) signal_names_back in
      let inputs : map tie (n.of_instance n.input_ports earlier (laid.instance_by m x h.of)) ≡ x.inputs =
      ap (map tie) (of_instance_is all before m known n.input_ports x h.of h.earlier ∙ told_ports_in all h.of) ∙ same (input_signals h.of)
      ∙ map_against at (input_signals h.of) x.inputs (sym h.inputs) (λ k s p q r.
      ap (place (signal_names m)) (input_connected m h.of x ordered h.inputs h.outputs k p s q r) ∙ find p (h.input_places k p r)) in
      let outputs : map tie (n.of_instance n.output_ports earlier (laid.instance_by m x h.of)) ≡ x.outputs =
      ap (map tie) (of_instance_is all before m known n.output_ports x h.of h.earlier ∙ told_ports_out all h.of) ∙ same (output_signals h.of)
      ∙ map_against at (output_signals h.of) x.outputs (sym h.outputs) (λ k s p q r.
      ap (place (signal_names m)) (output_connected m h.of x ordered h.inputs h.outputs k p s q r) ∙ find p (driven_within m p _ (h.drives k p r))) in
      let make : ℕ → List ℕ → List ℕ → Instance = λ o a b. record { name = x.name; of = o; inputs = a; outputs = b } in
      ap (λ o. make o (map tie (n.of_instance n.input_ports earlier (laid.instance_by m x h.of))) (map tie (n.of_instance n.output_ports earlier (laid.instance_by m x h.of))))
      (place_is all before m known x.of h.of h.earlier)
      ∙ ap (λ a. make x.of a (map tie (n.of_instance n.output_ports earlier (laid.instance_by m x h.of)))) inputs
      ∙ ap (make x.of x.inputs) outputs

  instance_of_back : (j : ℕ) (x : Instance) → slice_get m.instances j ≡ Some x → n.instance_of earlier text (laid.instance_of all m x) ≡ x
  instance_of_back j x h =
      let ok = fits.instances j x h in
      ap (n.instance_of earlier text) (instance_is all before m known x ok.of ok.earlier) ∙ instance_by_back j x ok

  instances_back : map (n.instance_of earlier text) (n.instance_items text) ≡ m.instances
  instances_back = ap (map (n.instance_of earlier text)) (told_instances all m) ∙ map_back (n.instance_of earlier text) (laid.instance_of all m) m.instances instance_of_back

  pub module_back : module_of earlier text ≡ m
  unfolding module_of
  module_back =
      let make : List Signal → List Memory → List Action → List Instance → Module = λ a b c d. record { name = m.name; signals = a; memories = b; actions = c; instances = d } in
      let a = map (n.signal_of earlier text) (n.declarations text) in
      let b = map (n.memory_of earlier text) (n.memory_items text) in
      let c = flat_map (n.item_actions (n.signal_names earlier text) (n.memory_names earlier text)) text.items in
      let d = map (n.instance_of earlier text) (n.instance_items text) in
      ap (λ l. make l b c d) signals_back ∙ ap (λ l. make m.signals l c d) memories_back ∙ ap (λ l. make m.signals m.memories l d) all_actions_back
      ∙ ap (make m.signals m.memories m.actions) instances_back

-- ---- all modules

pub before_are : (x : Netlist) → IsLaid x → (front back : List Module) → x.modules ≡ front ++ back → AreBefore x.modules front
before_are x h front back e = record {
  names = apart_front (module_names front) (module_names back)
      (subst (λ (l : List Name). AreApart l) (ap module_names e ∙ map-append (λ (y : Module). y.name) front back) h.names);
  among = λ k y q. ap (λ l. slice_get l k) e ∙ get_front front back k y q;
  ordered = λ k y q.
      (let ok = h.modules k y (ap (λ l. slice_get l k) e ∙ get_front front back k y q) in
      record { names = apart_front (signal_names y) (memory_names y) (apart_front (signal_names y ++ memory_names y) (instance_names y) ok.names); order = ok.order });
}

module _ (x : Netlist) (h : IsLaid x) where
  abbrev make_text : Module → text_module.Module
  make_text = laid.text_of_module x.modules

  pub fits_at : (front : List Module) (m : Module) (back : List Module) → x.modules ≡ front ++ m ∷ back → IsLaidModule front m
  fits_at front m back e =
      let found : slice_get (front ++ m ∷ back) (length front) ≡ Some m = ap (slice_get (front ++ m ∷ back)) (sym (add-zero (length front))) ∙ get_back front (m ∷ back) 0 m refl in
      subst (λ (l : List Module). IsLaidModule l m) (ap (take (length front)) e ∙ take_at front (m ∷ back) (length front) refl)
      (h.modules (length front) m (ap (λ l. slice_get l (length front)) e ∙ found))

  modules_back : (front back : List Module) → x.modules ≡ front ++ back → modules_of (map make_text front) (map make_text back) ≡ back
  modules_back front [] e = refl
  modules_back front (m ∷ back) e =
      let rest : x.modules ≡ (front ++ m ∷ []) ++ back = e ∙ sym (append_assoc front (m ∷ []) back) in
      ap (λ t. t ∷ modules_of (map make_text front ++ make_text m ∷ []) (map make_text back)) (module_back x.modules front m (before_are x h front (m ∷ back) e) (fits_at front m back e))
      ∙ ap (λ l. m ∷ modules_of l (map make_text back)) (sym (map-append make_text front (m ∷ [])))
      ∙ ap (λ l. m ∷ l) (modules_back (front ++ m ∷ []) back rest)

pub netlist_back : (x : Netlist) → IsLaid x → netlist_of (net_of x) ≡ x
unfolding netlist_of net_of
netlist_back x h = let make : List Module → Netlist = λ ms. record { modules = ms } in ap make (modules_back x h [] x.modules refl)

pub form_is : (x : Netlist) (read : List Module) (ms : List text_module.Module) → read ≡ x.modules → ms ≡ map (laid.text_of_module read) read → record { modules = ms } ≡ net_of x
unfolding net_of
form_is x read ms e f = let make : List text_module.Module → Net = λ l. record { modules = l } in ap make f ∙ ap (λ l. make (map (laid.text_of_module l) l)) e
