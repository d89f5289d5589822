-- The text of a netlist in which nothing is called by a reserved word has none among its names.
use Rattle.std.proofs.Common.{◌≡◌, ℕ, ◌+◌, ◌-◌, List, [], ◌∷◌, ◌++◌, Option, Some, None, refl, map, length}
use Rattle.std.specs.Prelude.{slice_get, option_map, unwrap_or}
use Rattle.std.specs.List.{flat_map}
use Rattle.lists.proofs.Places.{get_mapped}
use Rattle.verilog_tree.specs.declared.token.Word.TheVariants as word
use Rattle.verilog_tree.specs.declared.token.Mark.TheVariants as mark
use Rattle.verilog_tree.specs.declared.tree.Direction.TheVariants as direction
use Rattle.verilog_tree.specs.declared.tree.Port.{Port}
use Rattle.verilog_tree.specs.declared.tree.Connection.{Connection}
use Rattle.verilog_tree.specs.declared.tree.InitialConstant.{InitialConstant}
use Rattle.verilog_tree.specs.declared.tree.Item.{Item}
use Rattle.verilog_tree.specs.declared.tree.Item.TheVariants as i
use Rattle.verilog_tree.specs.Grammar.{clk}
use Rattle.verilog_tree.specs.Grammar as grammar
use Rattle.verilog_tree.specs.Reads.{Each}
use Rattle.netlist.specs.declared.netlist.Source.{Source}
use Rattle.netlist.specs.declared.netlist.Source.TheVariants as source
use Rattle.netlist.specs.declared.netlist.Signal.{Signal}
use Rattle.netlist.specs.declared.netlist.Memory.{Memory}
use Rattle.netlist.specs.declared.netlist.Action.{Action}
use Rattle.netlist.specs.declared.netlist.Instance.{Instance}
use Rattle.netlist.specs.declared.netlist.Module.{Module}
use Rattle.netlist.specs.declared.netlist.Netlist.{Netlist}
use Rattle.netlist.specs.NetlistOf.{Kind, InputPort, OutputPort, PlainWire, Reg}
use Rattle.netlist.specs.Laid.{kind_of, operands, memories_read, effect_signals, memories_stored, signal_names, memory_names, instance_names}
use Rattle.netlist_text.specs.LaidOut as laid
use Rattle.netlist_text.specs.LaidOut.{net_of}
use Rattle.netlist_text.specs.Portable.{reserved_words, IsFree, names_in, IsFreelyNamed, HasFreeNames}
use Rattle.netlist_text.proofs.EachOfLists.{each_append, each_flat, each_map, each_block, each_from, each_there, each_weaker, each_mapped, each_front, each_back}
use Rattle.netlist_text.proofs.TextNames.{AreNames, joined, all_names, comma_names, port_names, wire_names, register_names, initial_names, assign_names}
use Rattle.netlist_text.proofs.TextNames.{NamesThese, always_names, constants_given}

clk_free : IsFree clk
unfolding reserved_words
clk_free = refl

-- ---- a module

module _ (m : Module) (own : IsFreelyNamed m) where
  signals : Each IsFree (signal_names m)
  signals = each_front IsFree (signal_names m) (memory_names m) (each_front IsFree (signal_names m ++ memory_names m) (instance_names m) own.declared)

  memories : Each IsFree (memory_names m)
  memories = each_back IsFree (signal_names m) (memory_names m) (each_front IsFree (signal_names m ++ memory_names m) (instance_names m) own.declared)

  signal_there : (x : ℕ) (s : Signal) → slice_get m.signals x ≡ Some s → IsFree s.name
  signal_there x s e = each_there IsFree (signal_names m) signals x s.name (get_mapped (λ (y : Signal). y.name) m.signals x s e)

  memory_there : (j : ℕ) (c : Memory) → slice_get m.memories j ≡ Some c → IsFree c.name
  memory_there j c e = each_there IsFree (memory_names m) memories j c.name (get_mapped (λ (y : Memory). y.name) m.memories j c e)

  instance_there : (k : ℕ) (n : Instance) → slice_get m.instances k ≡ Some n → IsFree n.name
  instance_there k n e =
      each_there IsFree (instance_names m) (each_back IsFree (signal_names m ++ memory_names m) (instance_names m) own.declared) k n.name
      (get_mapped (λ (y : Instance). y.name) m.instances k n e)

  signal_by : (x : ℕ) (o : Option Signal) → slice_get m.signals x ≡ o → IsFree (unwrap_or (option_map (λ (s : Signal). s.name) o) m.name)
  signal_by x None e = own.name
  signal_by x (Some s) e = signal_there x s e

  pub signal_free : (x : ℕ) → IsFree (laid.signal_name m x)
  signal_free x = signal_by x (slice_get m.signals x) refl

  memory_by : (j : ℕ) (o : Option Memory) → slice_get m.memories j ≡ o → IsFree (unwrap_or (option_map (λ (c : Memory). c.name) o) m.name)
  memory_by j None e = own.name
  memory_by j (Some c) e = memory_there j c e

  memory_free : (j : ℕ) → IsFree (laid.memory_name m j)
  memory_free j = memory_by j (slice_get m.memories j) refl

  all_signals : (xs : List ℕ) → Each (λ x. IsFree (laid.signal_name m x)) xs
  all_signals xs = each_from (λ x. IsFree (laid.signal_name m x)) xs (λ k x e. signal_free x)

  all_memories : (js : List ℕ) → Each (λ j. IsFree (laid.memory_name m j)) js
  all_memories js = each_from (λ j. IsFree (laid.memory_name m j)) js (λ k j e. memory_free j)

-- ---- its phrases, among modules of which nothing is called by a reserved word either

module _ (all : List Module) (others : Each IsFreelyNamed all) (m : Module) (own : IsFreelyNamed m) where
  abbrev IsFreeItem : Item → Type 0
  IsFreeItem x = AreNames IsFree (grammar.item x)

  port_by : (s : Signal) (k : Kind) → IsFree s.name → Each (λ (p : Port). AreNames IsFree (grammar.port p)) (laid.port_by s k)
  port_by s InputPort p = (port_names IsFree direction.Input (laid.high_of s.width) s.name p, tt)
  port_by s OutputPort p = (port_names IsFree direction.Output (laid.high_of s.width) s.name p, tt)
  port_by s PlainWire p = tt
  port_by s Reg p = tt

  declared_by : (s : Signal) (k : Kind) → IsFree s.name → Each IsFreeItem (laid.declared_by s k)
  declared_by s InputPort p = tt
  declared_by s OutputPort p = tt
  declared_by s PlainWire p = (wire_names IsFree (laid.high_of s.width) s.name p, tt)
  declared_by s Reg p = (register_names IsFree (laid.high_of s.width) s.name p, tt)

  assigned_by : (s : Signal) (from : Source) → IsFree s.name → Each IsFreeItem (laid.assign_by m s from)
  assigned_by s source.Input p = tt
  assigned_by s (source.Register n) p = tt
  assigned_by s (source.Assigned right) p =
      (assign_names IsFree m s.name s.width right p (all_signals m own (operands right)) (all_memories m own (memories_read right)), tt)
  assigned_by s (source.Port j port) p = tt

  names_these : (x : Action) → NamesThese IsFree m x
  names_these x = record {
    conditions = all_signals m own x.conditions;
    signals = all_signals m own (effect_signals x.effect);
    memories = all_memories m own (memories_stored x.effect);
  }

  ties : (of : Module) → IsFreelyNamed of → (k : ℕ) (xs : List ℕ) → Each (λ (c : Connection). AreNames IsFree (grammar.connection c)) (laid.with_places (laid.tie m of) k xs)
  ties of free k [] = tt
  ties of free k (x ∷ xs) = ((signal_free of free k, (signal_free m own x, tt)), ties of free (k + 1) xs)

  instance_by : (n : Instance) (of : Module) → IsFree n.name → IsFreelyNamed of → IsFreeItem (i.Instance (laid.instance_by m n of))
  instance_by n of p free =
      let connections = laid.connections m of n in
      let front = laid.with_places (laid.tie m of) 0 n.inputs in
      let back = laid.with_places (laid.tie m of) (length of.signals - length n.outputs) n.outputs in (
        free.name,
        (
          p,
          joined IsFree (grammar.commas grammar.connection connections ++ grammar.mark mark.CloseRound) (grammar.mark mark.Semicolon)
              (joined IsFree (grammar.commas grammar.connection connections) (grammar.mark mark.CloseRound)
              (comma_names IsFree grammar.connection connections
              (each_append (λ (c : Connection). AreNames IsFree (grammar.connection c)) front back (ties of free 0 n.inputs)
              (ties of free (length of.signals - length n.outputs) n.outputs))) tt) tt,
        ),
      )

  module_by : (k : ℕ) (o : Option Module) → slice_get all k ≡ o → IsFreelyNamed (unwrap_or o m)
  module_by k None e = own
  module_by k (Some of) e = each_there IsFreelyNamed all others k of e

  given : Each (λ (c : InitialConstant). IsFree c.name) (laid.constants m)
  given =
      constants_given IsFree m (each_from (λ (s : Signal). IsFree s.name) m.signals (signal_there m own))
      (each_from (λ (c : Memory). IsFree c.name) m.memories (memory_there m own))

  all_items : Each IsFreeItem (laid.items all m)
  all_items =
      let a = flat_map laid.declared m.signals in
      let b = map laid.memory_item m.memories in
      let c = flat_map (laid.assign_of m) m.signals in
      let d = laid.block laid.initial_item (laid.constants m) in
      let e = laid.block laid.always_item (map (laid.statement m) m.actions) in
      let f = map (laid.instance_item all m) m.instances in
      each_append IsFreeItem (a ++ b ++ c ++ d ++ e) f
      (each_append IsFreeItem (a ++ b ++ c ++ d) e
      (each_append IsFreeItem (a ++ b ++ c) d
      (each_append IsFreeItem (a ++ b) c
      (each_append IsFreeItem a b
      (each_flat IsFreeItem laid.declared m.signals (λ k s h. declared_by s (kind_of s) (signal_there m own k s h)))
      (each_map IsFreeItem laid.memory_item m.memories (λ j x h. (memory_there m own j x h, tt))))
      (each_flat IsFreeItem (laid.assign_of m) m.signals (λ k s h. assigned_by s s.source (signal_there m own k s h))))
      (each_block IsFreeItem laid.initial_item (laid.constants m) (initial_names IsFree (laid.constants m) given)))
      (each_block IsFreeItem laid.always_item (map (laid.statement m) m.actions)
      (always_names IsFree m clk_free (each_from (NamesThese IsFree m) m.actions (λ k x h. names_these x)))))
      (each_map IsFreeItem (laid.instance_item all m) m.instances
      (λ k n h. instance_by n (laid.module_at all m n.of) (instance_there m own k n h) (module_by n.of (slice_get all n.of) refl)))

  pub module_free : AreNames IsFree (grammar.module_tokens (laid.text_of_module all m))
  module_free =
      let ports = laid.ports m in
      let items = laid.items all m in
      let head = grammar.commas grammar.port ports ++ grammar.mark mark.CloseRound ++ grammar.mark mark.Semicolon in (
        own.name,
        joined IsFree (head ++ grammar.all grammar.item items) (grammar.word word.EndModule)
            (joined IsFree head (grammar.all grammar.item items)
            (joined IsFree (grammar.commas grammar.port ports ++ grammar.mark mark.CloseRound) (grammar.mark mark.Semicolon)
            (joined IsFree (grammar.commas grammar.port ports) (grammar.mark mark.CloseRound)
            (comma_names IsFree grammar.port ports
            (each_flat (λ (p : Port). AreNames IsFree (grammar.port p)) laid.port_of m.signals (λ k s h. port_by s (kind_of s) (signal_there m own k s h)))) tt) tt)
            (all_names IsFree grammar.item items all_items)) tt,
      )

-- ---- all modules

pub net_free : (x : Netlist) → HasFreeNames x → Each IsFree (names_in (grammar.net (net_of x)))
unfolding net_of
net_free x free =
    all_names IsFree grammar.module_tokens (map (laid.text_of_module x.modules) x.modules)
    (each_mapped (λ t. AreNames IsFree (grammar.module_tokens t)) (laid.text_of_module x.modules) x.modules
    (each_weaker IsFreelyNamed (λ m. AreNames IsFree (grammar.module_tokens (laid.text_of_module x.modules m))) x.modules (module_free x.modules free) free))
