-- Each item of a module is well formed.
use Rattle.std.proofs.Common.{◌≡◌, ℕ, ◌-◌, ◌<◌, ◌≤◌, List, [], ◌∷◌, ◌++◌, Bool, true, false, Some, None, refl, sym, ap, ◌∙◌, subst, inl, inr, length, map, arith}
use Rattle.std.specs.Prelude.{slice_get, not, nat_lt, ◌&&◌, ◌||◌}
use Rattle.std.specs.List.{flat_map, list_any}
use Rattle.std.specs.Str.{bytes_eq}
use Rattle.std.proofs.lemmas.Slice.Eq.{bytes_eq-Decides}
use Rattle.std.proofs.lemmas.Bool.Decides.{nat_tests}
use Rattle.std.proofs.lemmas.Option.{none-some}
use Rattle.std.proofs.lemmas.List.{append-nil}
use Rattle.std.proofs.lemmas.Bool.{false_from_ne_true}
use Rattle.std.proofs.Math.Bool.{or-false}
use Rattle.verilog_tree.specs.declared.tree.InitialConstant.{InitialConstant}
use Rattle.verilog_tree.specs.declared.tree.Statement.{Statement}
use Rattle.verilog_tree.specs.declared.tree.Item.{Item}
use Rattle.verilog_tree.specs.declared.tree.Item.TheVariants as i
use Rattle.verilog_tree.specs.Scope as scope
use Rattle.verilog_tree.specs.Scope.{Name, Names, is_known, is_clk, driven_width}
use Rattle.verilog_tree.specs.Rules as rules
use Rattle.verilog_tree.specs.Rules.{all_right}
use Rattle.verilog_tree.specs.Facts.{Facts, Place, after, after_item, with_name, with_place, same_place}
use Rattle.verilog_tree.specs.Facts.{is_place, drives, written_by, item_prints, places_printer, interface_named}
use Rattle.verilog_tree.specs.WellFormed.{EachAfter, IsItem, are_new, is_new_printer, instance_right, item_right, are_new_places, none_known}
use Rattle.verilog_tree.proofs.Tests.{and_both}
use Rattle.netlist.specs.declared.netlist.Value.{Value}
use Rattle.netlist.specs.declared.netlist.Source.{Source}
use Rattle.netlist.specs.declared.netlist.Source.TheVariants as source
use Rattle.netlist.specs.declared.netlist.Signal.{Signal}
use Rattle.netlist.specs.declared.netlist.Memory.{Memory}
use Rattle.netlist.specs.declared.netlist.Action.{Action}
use Rattle.netlist.specs.declared.netlist.Instance.{Instance}
use Rattle.netlist.specs.declared.netlist.Module.{Module}
use Rattle.netlist.specs.Laid.{IsSource, IsLaidModule, kind_by, kind_of, is_inner}
use Rattle.netlist.specs.Sound as sound
use Rattle.netlist.specs.Sound.{IsSoundModule, is_write}
use Rattle.netlist_text.specs.LaidOut as laid
use Rattle.netlist_text.proofs.Values.{signal_name_at}
use Rattle.netlist_text.proofs.Connections.{AreBefore, instance_is}
use Rattle.netlist_text.proofs.Members.{In, in_after, in_holds}
use Rattle.netlist_text.proofs.Grown.{after-append, items_written, items_given, items_printed, items_placed, item_writes, item_places, item_modules, port_facts_are}
use Rattle.netlist_text.proofs.Views.{told_kind_by, front, written_view, given_view}
use Rattle.netlist_text.proofs.Widths.{IsPlain, KnowsNames, width_of_high, memory_width_of, expression_fits, driven_assigned, no_clock_register, no_clock_assigned, no_clock_port}
use Rattle.netlist_text.proofs.Scoped.{start, signal_declared, memory_declared, inner_new, memory_new, instance_new}
use Rattle.netlist_text.proofs.Interfaces.{KnowsModules, output_of}
use Rattle.netlist_text.proofs.Drives.{modules_are, assign_new, outputs_new, assigned_known, port_known}
use Rattle.netlist_text.proofs.Actions.{prints_are, set_written, none_written, statements_right}
use Rattle.netlist_text.proofs.Ties.{connections_right}
use Rattle.netlist_text.proofs.Initials.{place_decides, constants_new, register_given, word_given, constants_right, words_known}
use Rattle.netlist_text.proofs.Fronts.{split_at, any_front, each_append, each_at, each_flat, each_map, each_block}

pub positive : (w : ℕ) → 1 ≤ w → nat_lt 0 w ≡ true
positive w h = grind (arith, nat_tests)

module _ (all before : List Module) (m : Module) (known : AreBefore all before) (fits : IsLaidModule before m) (ok : IsSoundModule m before) (f : Facts) (knows : KnowsModules f.modules before)
    (plain_before : (j : ℕ) (x : Module) → slice_get before j ≡ Some x → (k : ℕ) (s : Signal) → slice_get x.signals k ≡ Some s → IsPlain s) where
  abbrev pub constants : List InitialConstant
  constants = laid.constants m

  abbrev pub body : List Statement
  body = map (laid.statement m) m.actions

  abbrev pub begin : Facts
  begin = start all m f

  abbrev pub whole : Facts
  whole = after after_item begin (front all m m.signals m.memories m.signals constants body m.instances)

  abbrev pub at : List Item → Facts
  at xs = after after_item begin xs

  pub plain : (x : ℕ) (s : Signal) → slice_get m.signals x ≡ Some s → IsPlain s
  plain x s h = let a = fits.signals x s h in record { low = a.low; high = a.high; clock = λ c. ((ok.signals x s h).clock c).0 }

  pub names : KnowsNames whole.scope m
  names = record {
    plain = plain;
    signal = signal_declared all m f fits.names constants body;
    memory = memory_declared all m f fits.names constants body;
    memory_low = λ j c h. (fits.memories j c h).low;
    memory_high = λ j c h. (fits.memories j c h).high;
    memory_words = λ j c h. (fits.memories j c h).words;
  }

  -- ---- what is written and given

  written_is : (xs : List Item) → (at xs).written ≡ after with_name [] (flat_map item_writes xs)
  written_is xs = items_written begin xs ∙ ap (λ (g : Facts). after with_name g.written (flat_map item_writes xs)) (port_facts_are f (laid.text_of_module all m))

  given_is : (xs : List Item) → (at xs).given ≡ after with_place [] (flat_map item_places xs)
  given_is xs = items_given begin xs ∙ ap (λ (g : Facts). after with_place g.given (flat_map item_places xs)) (port_facts_are f (laid.text_of_module all m))

  printed_is : (xs : List Item) → (at xs).printed ≡ (f.printed || list_any item_prints xs)
  printed_is xs = items_printed begin xs ∙ ap (λ (g : Facts). g.printed || list_any item_prints xs) (port_facts_are f (laid.text_of_module all m))

  pub placed_is : (xs : List Item) → (at xs).placed ≡ after with_name f.placed (flat_map item_modules xs)
  placed_is xs = items_placed begin xs ∙ ap (λ (g : Facts). after with_name g.placed (flat_map item_modules xs)) (port_facts_are f (laid.text_of_module all m))

  place_known : (p : Place) → In (map (λ (c : InitialConstant). (c.name, c.word)) constants) p → is_place whole.given p ≡ true
  place_known p h =
      let items = front all m m.signals m.memories m.signals constants body m.instances in
      in_holds same_place place_decides whole.given p
      (subst (λ (l : List Place). In l p) (sym (given_is items)) (in_after same_place place_decides [] (flat_map item_places items) p
      (inr (subst (λ (l : List Place). In l p) (sym (given_view all m m.signals m.memories m.signals constants body m.instances)) h))))

  register_known : (x : ℕ) (s : Signal) (v : ℕ) → slice_get m.signals x ≡ Some s → s.source ≡ source.Register v → is_known whole.written s.name ≡ true
  register_known x s v h e =
      let items = front all m m.signals m.memories m.signals constants body m.instances in
      let set = subst (λ (k : Source). sound.IsSet m x k) e (ok.signals x s h).set in
      let held : In (flat_map written_by body) s.name =
      subst (λ (z : Name). In (flat_map written_by body) z) (signal_name_at m x s h) (set_written m set.0 set.1 x set.2 set.3 set.4) in
      in_holds bytes_eq bytes_eq-Decides whole.written s.name
      (subst (λ (l : Names). In l s.name) (sym (written_is items)) (in_after bytes_eq bytes_eq-Decides [] (flat_map item_writes items) s.name
      (inr (subst (λ (l : Names). In l s.name) (sym (written_view all m m.signals m.memories m.signals constants body m.instances)) held))))

  -- ---- wires and registers

  wire_formed : (a b : List Signal) (s : Signal) → m.signals ≡ a ++ s ∷ b → is_inner (kind_of s) ≡ true → is_clk s.name ≡ false → is_known whole.driven s.name ≡ true
      → IsItem whole (at (front all m a [] [] [] [] [])) (i.Wire (record { high = laid.high_of s.width; name = s.name }))
  wire_formed a b s e inner clk driven =
      let h = split_at m.signals a b s e in
      let p = plain (length a) s h in
      record {
        new = inner_new all m f fits.names a b s e h inner clk;
        right = ap (nat_lt 0) (width_of_high s.width p.low p.high) ∙ positive s.width p.low;
        driver = refl;
        writer = refl;
        initial = refl;
        complete = driven;
        printing = refl;
        printer = refl;
      }

  register_formed : (a b : List Signal) (s : Signal) (v : ℕ) → m.signals ≡ a ++ s ∷ b → s.source ≡ source.Register v
      → IsItem whole (at (front all m a [] [] [] [] [])) (i.Register (record { high = laid.high_of s.width; name = s.name }))
  register_formed a b s v e is =
      let h = split_at m.signals a b s e in
      let p = plain (length a) s h in
      record {
        new = inner_new all m f fits.names a b s e h (ap (λ k. is_inner (kind_by k s.is_output)) is) (no_clock_register s v p is);
        right = ap (nat_lt 0) (width_of_high s.width p.low p.high) ∙ positive s.width p.low;
        driver = refl;
        writer = refl;
        initial = refl;
        complete = and_both _ _ (register_known (length a) s v h is) (place_known (s.name, None) (register_given m fits.names (length a) s v h is));
        printing = refl;
        printer = refl;
      }

  declared_by : (a b : List Signal) (s : Signal) → m.signals ≡ a ++ s ∷ b → (from : Source) (out : Bool) → s.source ≡ from → s.is_output ≡ out
      → EachAfter (IsItem whole) after_item (at (front all m a [] [] [] [] [])) (laid.declared_by s (kind_by from out))
  declared_by a b s e source.Input out is o = tt
  declared_by a b s e (source.Register v) out is o = (register_formed a b s v e is, tt)
  declared_by a b s e (source.Assigned right) true is o = tt
  declared_by a b s e (source.Assigned right) false is o =
      let h = split_at m.signals a b s e in (
        wire_formed a b s e (ap (λ k. is_inner (kind_by k s.is_output)) is ∙ ap (λ k. is_inner (kind_by (source.Assigned right) k)) o) (no_clock_assigned s right (plain (length a) s h) is)
            (assigned_known all before m known fits f knows constants body (length a) s right h is),
        tt,
      )
  declared_by a b s e (source.Port j port) true is o = tt
  declared_by a b s e (source.Port j port) false is o =
      let h = split_at m.signals a b s e in (
        wire_formed a b s e (ap (λ k. is_inner (kind_by k s.is_output)) is ∙ ap (λ k. is_inner (kind_by (source.Port j port) k)) o) (no_clock_port s j port (plain (length a) s h) is)
            (port_known all before m known fits f knows constants body (length a) s j port h is),
        tt,
      )

  front_of_signals : (a : List Signal) → front all m a [] [] [] [] [] ≡ flat_map laid.declared a
  front_of_signals a = simp append-nil

  pub declared_formed : EachAfter (IsItem whole) after_item begin (flat_map laid.declared m.signals)
  declared_formed = each_flat (IsItem whole) after_item laid.declared begin m.signals (λ a b s e.
      each_at (IsItem whole) after_item (at (flat_map laid.declared a)) (at (front all m a [] [] [] [] [])) (laid.declared s) (ap at (sym (front_of_signals a)))
      (declared_by a b s e s.source s.is_output refl refl))

  -- ---- memories

  memory_formed : (a b : List Memory) (c : Memory) → m.memories ≡ a ++ c ∷ b → IsItem whole (at (front all m m.signals a [] [] [] [])) (laid.memory_item c)
  memory_formed a b c e =
      let h = split_at m.memories a b c e in
      let p = fits.memories (length a) c h in
      let words : 1 ≤ length c.initial = p.words in
      record {
        new = memory_new all m f fits.names a b c e h (ok.memories (length a) c h).clock;
        right = ap (nat_lt 0) (memory_width_of c.width p.low p.high) ∙ positive c.width p.low;
        driver = refl;
        writer = refl;
        initial = refl;
        complete = and_both _ _
            (words_known whole.given c.name (length c.initial - 1) (λ k lt. place_known (c.name, Some k) (word_given m fits.names (length a) c k h (omega arith))))
            (place_known (c.name, Some (length c.initial - 1)) (word_given m fits.names (length a) c (length c.initial - 1) h (omega arith)));
        printing = refl;
        printer = refl;
      }

  front_of_memories : (a : List Memory) → front all m m.signals a [] [] [] [] ≡ flat_map laid.declared m.signals ++ map laid.memory_item a
  front_of_memories a = simp append-nil

  pub memories_formed : EachAfter (IsItem whole) after_item (at (flat_map laid.declared m.signals)) (map laid.memory_item m.memories)
  memories_formed = each_map (IsItem whole) after_item laid.memory_item (at (flat_map laid.declared m.signals)) m.memories (λ a b c e.
      subst (λ (g : Facts). IsItem whole g (laid.memory_item c)) (ap at (front_of_memories a) ∙ after-append after_item begin (flat_map laid.declared m.signals) (map laid.memory_item a))
      (memory_formed a b c e))

  -- ---- assigns

  assign_formed : (a b : List Signal) (s : Signal) (right : Value) → m.signals ≡ a ++ s ∷ b → s.source ≡ source.Assigned right
      → IsItem whole (at (front all m m.signals m.memories a [] [] [])) (i.Assign (record { target = s.name; value = laid.expression m s.width right }))
  assign_formed a b s right e is =
      let h = split_at m.signals a b s e in
      let p = plain (length a) s h in
      let places = subst (λ (k : Source). IsSource before m (length a) s.is_output k) is (fits.signals (length a) s h).drives in
      let value : sound.value_fits m right s.width ≡ true = ap (λ k. sound.source_fits m k s.width) (sym is) ∙ (ok.signals (length a) s h).fits in
      let w : driven_width (scope.kind_of whole.scope s.name) ≡ s.width =
      ap driven_width (names.signal (length a) s h) ∙ ap (λ k. driven_width (Some (told_kind_by s (kind_by k s.is_output)))) is ∙ driven_assigned s right p is s.is_output in
      record {
        new = refl;
        right = ap (λ k. nat_lt 0 k && rules.expression_right whole.scope (laid.expression m s.width right) k) w
            ∙ and_both _ _ (positive s.width p.low) (expression_fits whole.scope m names right s.width places.0 places.1 value);
        driver = assign_new all before m known fits f knows a b s e h;
        writer = refl;
        initial = refl;
        complete = refl;
        printing = refl;
        printer = refl;
      }

  assign_by : (a b : List Signal) (s : Signal) → m.signals ≡ a ++ s ∷ b → (from : Source) → s.source ≡ from
      → EachAfter (IsItem whole) after_item (at (front all m m.signals m.memories a [] [] [])) (laid.assign_by m s from)
  assign_by a b s e source.Input is = tt
  assign_by a b s e (source.Register v) is = tt
  assign_by a b s e (source.Assigned right) is = (assign_formed a b s right e is, tt)
  assign_by a b s e (source.Port j port) is = tt

  abbrev second : List Item
  second = flat_map laid.declared m.signals ++ map laid.memory_item m.memories

  front_of_assigns : (a : List Signal) → front all m m.signals m.memories a [] [] [] ≡ second ++ flat_map (laid.assign_of m) a
  front_of_assigns a = simp append-nil

  pub assigns_formed : EachAfter (IsItem whole) after_item (at second) (flat_map (laid.assign_of m) m.signals)
  assigns_formed = each_flat (IsItem whole) after_item (laid.assign_of m) (at second) m.signals (λ a b s e.
      each_at (IsItem whole) after_item (after after_item (at second) (flat_map (laid.assign_of m) a)) (at (front all m m.signals m.memories a [] [] [])) (laid.assign_of m s)
      (sym (after-append after_item begin second (flat_map (laid.assign_of m) a)) ∙ ap at (sym (front_of_assigns a))) (assign_by a b s e s.source refl))

  -- ---- the initial block

  abbrev third : List Item
  third = second ++ flat_map (laid.assign_of m) m.signals

  third_is : front all m m.signals m.memories m.signals [] [] [] ≡ third
  third_is = front_of_assigns m.signals

  none_given : (at third).given ≡ []
  none_given =
      given_is third ∙ ap (λ l. after with_place [] (flat_map item_places l)) (sym third_is) ∙ ap (after with_place []) (given_view all m m.signals m.memories m.signals [] [] [])

  initial_formed : IsItem whole (at third) (laid.initial_item constants)
  initial_formed = record {
    new = refl;
    right = constants_right m fits.names whole.scope names (λ k s h. (ok.signals k s h).fits) (λ j c h. (ok.memories j c h).fits);
    driver = refl;
    writer = refl;
    initial = ap (λ l. are_new_places l constants) none_given ∙ constants_new m fits.names;
    complete = refl;
    printing = refl;
    printer = refl;
  }

  -- ---- the always block

  abbrev fourth : List Item
  fourth = third ++ laid.block laid.initial_item constants

  fourth_is : front all m m.signals m.memories m.signals constants [] [] ≡ fourth
  fourth_is = simp append-nil

  none_written_yet : (at fourth).written ≡ []
  none_written_yet =
      written_is fourth ∙ ap (λ l. after with_name [] (flat_map item_writes l)) (sym fourth_is) ∙ ap (after with_name []) (written_view all m m.signals m.memories m.signals constants [] [])

  none_printed_yet : list_any item_prints fourth ≡ false
  none_printed_yet = ap (list_any item_prints) (sym fourth_is) ∙ false_from_ne_true (list_any item_prints (front all m m.signals m.memories m.signals constants [] [])) (λ h.
      elim (any_front item_prints (λ y. refl) (λ y. refl) (λ y. refl) (λ y. refl) (λ y. refl) all m m.signals m.memories m.signals constants [] [] h) [
        | inl p ↦ (let z : 0 < 0 = p.1 in omega arith)
        | inr p ↦ none-some p.1 p.2
      ])

  always_formed : (list_any (λ (x : Action). is_write x.effect) m.actions && f.printed) ≡ false → IsItem whole (at fourth) (laid.always_item body)
  always_formed quiet = record {
    new = refl;
    right = statements_right whole.scope m names fits.actions ok.actions;
    driver = refl;
    writer = ap (λ l. all_right (λ s. none_known l (written_by s)) body) none_written_yet ∙ none_written body;
    initial = refl;
    complete = refl;
    printing = ap (λ b. b && (at fourth).printed) (prints_are m m.actions)
        ∙ ap (λ b. list_any (λ (x : Action). is_write x.effect) m.actions && b) (printed_is fourth ∙ ap (λ b. f.printed || b) none_printed_yet ∙ or-false f.printed) ∙ quiet;
    printer = refl;
  }

  -- ---- instances

  abbrev fifth : List Item
  fifth = fourth ++ laid.block laid.always_item body

  instance_formed : (a b : List Instance) (n : Instance) → m.instances ≡ a ++ n ∷ b
      → ((of : Module) → slice_get before n.of ≡ Some of
      → (places_printer f.modules (laid.instance_item all m n) && is_known (at (front all m m.signals m.memories m.signals constants body a)).placed of.name) ≡ false)
      → IsItem whole (at (front all m m.signals m.memories m.signals constants body a)) (laid.instance_item all m n)
  instance_formed a b n e lone =
      let h = split_at m.instances a b n e in
      let x = fits.instances (length a) n h in
      let y = ok.instances (length a) n h in
      let here = front all m m.signals m.memories m.signals constants body a in
      let of = x.of in
      let ordered = known.ordered n.of of x.earlier in
      let interface = knows n.of of x.earlier in
      record {
        new = instance_new all m f fits.names constants body a b n e h y.clock;
        right = ap (λ t. item_right whole.modules whole.scope (i.Instance t)) (instance_is all before m known n of x.earlier)
            ∙ ap (λ l. instance_right (interface_named l of.name) (λ ports. rules.connections_right whole.scope ports (laid.connections m of n)))
            (modules_are all before m known fits f knows (front all m m.signals m.memories m.signals constants body m.instances))
            ∙ ap (λ o. instance_right o (λ ports. rules.connections_right whole.scope ports (laid.connections m of n))) interface.named
            ∙ ap (λ ports. rules.connections_right whole.scope ports (laid.connections m of n)) interface.ports
            ∙ connections_right whole.scope m names of ordered (plain_before n.of of x.earlier) n x.inputs x.outputs x.input_places
            (λ j k q s r. y.inputs of x.earlier j k q s r) (length a) (output_of all before m known f.modules knows (length a) n x) (λ j k q s r. y.outputs of x.earlier j k q s r);
        driver = ap (λ l. are_new (at here).driven (drives l (laid.instance_item all m n))) (modules_are all before m known fits f knows
            (front all m m.signals m.memories m.signals constants body m.instances))
            ∙ outputs_new all before m known fits f knows constants body a b n e h;
        writer = refl;
        initial = refl;
        complete = refl;
        printing = refl;
        printer = ap (λ t. is_new_printer (at here) (i.Instance t)) (instance_is all before m known n of x.earlier)
            ∙ ap (λ l. not (places_printer l (i.Instance (laid.instance_by m n of)) && is_known (at here).placed of.name)) (modules_are all before m known fits f knows here)
            ∙ ap not (ap (λ t. places_printer f.modules (i.Instance t) && is_known (at here).placed of.name) (sym (instance_is all before m known n of x.earlier)) ∙ lone of x.earlier);
      }

  -- ---- all items

  pub all_formed : (list_any (λ (x : Action). is_write x.effect) m.actions && f.printed) ≡ false
      → ((a b : List Instance) (n : Instance) → m.instances ≡ a ++ n ∷ b → (of : Module) → slice_get before n.of ≡ Some of
      → (places_printer f.modules (laid.instance_item all m n) && is_known (at (front all m m.signals m.memories m.signals constants body a)).placed of.name) ≡ false)
      → EachAfter (IsItem whole) after_item begin (laid.items all m)
  all_formed quiet lone =
      let P = IsItem whole in
      let g1 = flat_map laid.declared m.signals in
      let g2 = map laid.memory_item m.memories in
      let g3 = flat_map (laid.assign_of m) m.signals in
      let g4 = laid.block laid.initial_item constants in
      let g5 = laid.block laid.always_item body in
      let g6 = map (laid.instance_item all m) m.instances in
      each_append P after_item begin fifth g6
      (each_append P after_item begin fourth g5
      (each_append P after_item begin third g4
      (each_append P after_item begin second g3 (each_append P after_item begin g1 g2 declared_formed memories_formed) assigns_formed)
      (each_block P after_item laid.initial_item (at third) constants (λ h. initial_formed)))
      (each_block P after_item laid.always_item (at fourth) body (λ h. always_formed quiet)))
      (each_map P after_item (laid.instance_item all m) (at fifth) m.instances (λ a b n e.
      subst (λ (g : Facts). IsItem whole g (laid.instance_item all m n)) (after-append after_item begin fifth (map (laid.instance_item all m) a)) (instance_formed a b n e (lone a b n e))))
