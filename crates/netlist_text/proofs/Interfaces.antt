-- What an instance sees of its module, and what it drives.
use Rattle.std.proofs.Common.{◌≡◌, ℕ, zero, suc, ◌+◌, ◌-◌, ◌<◌, ◌⊎◌, List, [], ◌∷◌, ◌++◌, Bool, true}
use Rattle.std.proofs.Common.{false, Some, refl, sym, ap, ◌∙◌, subst, inl, inr, length, map, add-zero, zero-add, arith}
use Rattle.std.specs.Prelude.{slice_get, if◌then◌else◌}
use Rattle.std.specs.Str.{bytes_eq}
use Rattle.std.proofs.lemmas.Option.{same_Some, none-some}
use Rattle.std.proofs.lemmas.Slice.Eq.{bytes_eq-Decides}
use Rattle.lists.proofs.Places.{get_there, get_mapped}
use Rattle.verilog_tree.specs.declared.tree.Direction.{Direction}
use Rattle.verilog_tree.specs.declared.tree.Direction.TheVariants as direction
use Rattle.verilog_tree.specs.declared.tree.Port.{Port}
use Rattle.verilog_tree.specs.declared.tree.Connection.{Connection}
use Rattle.verilog_tree.specs.declared.tree.Item.TheVariants as i
use Rattle.verilog_tree.specs.Scope.{Name, Names}
use Rattle.verilog_tree.specs.Rules.{port_named}
use Rattle.verilog_tree.specs.Facts.{Interface, interface_named, ports_of, is_output, outputs, drives}
use Rattle.netlist.specs.declared.netlist.Source.TheVariants as source
use Rattle.netlist.specs.declared.netlist.Signal.{Signal}
use Rattle.netlist.specs.declared.netlist.Instance.{Instance}
use Rattle.netlist.specs.declared.netlist.Module.{Module}
use Rattle.netlist.specs.NetlistOf.{Kind, InputPort, OutputPort, PlainWire, Reg, is_output_port}
use Rattle.netlist.specs.Laid.{AreApart, IsLaidInstance, kind_of, is_input_port, input_signals, output_signals, first_output, signal_names}
use Rattle.netlist_text.specs.LaidOut as laid
use Rattle.netlist_text.proofs.Places.{get_filtered}
use Rattle.netlist_text.proofs.Values.{signal_name_at}
use Rattle.netlist_text.proofs.Connections.{IsOrdered, input_at, output_at, AreBefore, instance_is}
use Rattle.netlist_text.proofs.Sources.{mapped_some}
use Rattle.netlist_text.proofs.Members.{In, in_none, in_one, in_first, in_rest, in_flat, in_unflat, in_unmap}
use Rattle.netlist_text.proofs.Views.{is_port}

-- ---- ports by name

abbrev pub direction_by : Kind → Direction
direction_by InputPort = direction.Input
direction_by OutputPort = direction.Output
direction_by PlainWire = direction.Input
direction_by Reg = direction.Input

abbrev pub told_port : Signal → Port
told_port s = laid.port (direction_by (kind_of s)) s

port_by_in : (s : Signal) (k : Kind) (p : Port) → In (laid.port_by s k) p → (is_port k ≡ true) × (p ≡ laid.port (direction_by k) s)
port_by_in s InputPort p h = (refl, sym (in_one _ p h))
port_by_in s OutputPort p h = (refl, sym (in_one _ p h))
port_by_in s PlainWire p h = absurd (in_none p h)
port_by_in s Reg p h = absurd (in_none p h)

port_by_there : (s : Signal) (k : Kind) → is_port k ≡ true → In (laid.port_by s k) (laid.port (direction_by k) s)
port_by_there s InputPort h = in_first _ []
port_by_there s OutputPort h = in_first _ []
port_by_there s PlainWire h = cc
port_by_there s Reg h = cc

port_step : (q : Port) (ps : List Port) (x : Name) (p : Port) → ((r : Port) → In (q ∷ ps) r → r.name ≡ x → r ≡ p) → (port_named ps x ≡ Some p) ⊎ (q.name ≡ x)
    → (b : Bool) → bytes_eq x q.name ≡ b → (if b then Some q else port_named ps x) ≡ Some p
port_step q ps x p all next true e = ap Some (all q (in_first q ps) (sym ((bytes_eq-Decides x q.name).0 e)))
port_step q ps x p all (inl h) false e = h
port_step q ps x p all (inr h) false e = let t : bytes_eq x q.name ≡ true = ap (bytes_eq x) h ∙ (bytes_eq-Decides x x).1 refl in let f : true ≡ false = sym t ∙ e in absurd (cc)

port_first : (ps : List Port) (x : Name) (p : Port) → ((r : Port) → In ps r → r.name ≡ x → r ≡ p) → (k : ℕ) → slice_get ps k ≡ Some p → p.name ≡ x → port_named ps x ≡ Some p
port_first [] x p all k h is = absurd (none-some p h)
port_first (q ∷ ps) x p all zero h is = port_step q ps x p all (inr (ap (λ (r : Port). r.name) (same_Some q p h) ∙ is)) (bytes_eq x q.name) refl
port_first (q ∷ ps) x p all (suc k) h is =
    port_step q ps x p all (inl (port_first ps x p (λ r i e. all r (in_rest q r ps i) e) k h is)) (bytes_eq x q.name) refl

pub record FromSignal (m : Module) (p : Port) : Type 0 where
  pub s : Signal
  pub at : ℕ
  pub found : slice_get m.signals at ≡ Some s
  pub port : is_port (kind_of s) ≡ true
  pub is : p ≡ told_port s

pub port_from : (m : Module) (p : Port) → In (laid.ports m) p → FromSignal m p
port_from m p h =
    let f = in_unflat laid.port_of m.signals p h in
    let q = port_by_in f.x (kind_of f.x) p f.inside in
    record { s = f.x; at = f.at; found = f.found; port = q.0; is = q.1 }

pub port_there : (m : Module) (k : ℕ) (s : Signal) → slice_get m.signals k ≡ Some s → is_port (kind_of s) ≡ true → In (laid.ports m) (told_port s)
port_there m k s h p = in_flat laid.port_of m.signals k s (told_port s) h (port_by_there s (kind_of s) p)

pub port_found : (m : Module) → AreApart (signal_names m) → (k : ℕ) (s : Signal) → slice_get m.signals k ≡ Some s → is_port (kind_of s) ≡ true
    → port_named (laid.ports m) s.name ≡ Some (told_port s)
port_found m apart k s h p =
    let there = port_there m k s h p in
    let one : (r : Port) → In (laid.ports m) r → r.name ≡ s.name → r ≡ told_port s = λ r i e.
    (let f = port_from m r i in
    let name : f.s.name ≡ s.name = sym (ap (λ (q : Port). q.name) f.is) ∙ e in
    let same : f.at ≡ k = apart f.at k s.name (get_mapped (λ (y : Signal). y.name) m.signals f.at f.s f.found ∙ ap Some name) (get_mapped (λ (y : Signal). y.name) m.signals k s h) in
    f.is ∙ ap told_port (same_Some f.s s (sym f.found ∙ ap (slice_get m.signals) same ∙ h))) in
    port_first (laid.ports m) s.name (told_port s) one there.at there.found refl

pub input_is_port : (k : Kind) → is_input_port k ≡ true → is_port k ≡ true
input_is_port InputPort h = refl
input_is_port OutputPort h = cc
input_is_port PlainWire h = cc
input_is_port Reg h = cc

pub output_is_port : (k : Kind) → is_output_port k ≡ true → is_port k ≡ true
output_is_port InputPort h = cc
output_is_port OutputPort h = refl
output_is_port PlainWire h = cc
output_is_port Reg h = cc

pub input_direction : (k : Kind) → is_input_port k ≡ true → direction_by k ≡ direction.Input
input_direction InputPort h = refl
input_direction OutputPort h = cc
input_direction PlainWire h = cc
input_direction Reg h = cc

pub output_direction : (k : Kind) → is_output_port k ≡ true → direction_by k ≡ direction.Output
output_direction InputPort h = cc
output_direction OutputPort h = refl
output_direction PlainWire h = cc
output_direction Reg h = cc

-- ---- ports of an instance's module

-- port k of a module, found by its name
pub record IsPortAt (of : Module) (k : ℕ) (d : Direction) : Type 0 where
  pub s : Signal
  pub at : slice_get of.signals k ≡ Some s
  pub port : is_port (kind_of s) ≡ true
  pub direction : direction_by (kind_of s) ≡ d
  pub named : port_named (laid.ports of) (laid.signal_name of k) ≡ Some (laid.port d s)

port_at : (of : Module) → IsOrdered of → (k : ℕ) (s : Signal) (d : Direction) → slice_get of.signals k ≡ Some s → is_port (kind_of s) ≡ true → direction_by (kind_of s) ≡ d → IsPortAt of k d
port_at of ordered k s d h p e = record {
  s = s;
  at = h;
  port = p;
  direction = e;
  named = ap (port_named (laid.ports of)) (signal_name_at of k s h) ∙ port_found of ordered.names k s h p ∙ ap (λ x. Some (laid.port x s)) e;
}

pub input_port_at : (of : Module) → IsOrdered of → (k : ℕ) → k < length (input_signals of) → IsPortAt of k direction.Input
input_port_at of ordered k lt =
    let t = get_there (input_signals of) k lt in
    let input = get_filtered (λ (x : Signal). is_input_port (kind_of x)) of.signals k t.0 t.1 in
    port_at of ordered k t.0 direction.Input (input_at of ordered k t.0 t.1) (input_is_port (kind_of t.0) input) (input_direction (kind_of t.0) input)

pub output_port_at : (of : Module) → IsOrdered of → (k : ℕ) → k < length (output_signals of) → IsPortAt of (first_output of + k) direction.Output
output_port_at of ordered k lt =
    let t = get_there (output_signals of) k lt in
    let output = get_filtered (λ (x : Signal). is_output_port (kind_of x)) of.signals k t.0 t.1 in
    port_at of ordered (first_output of + k) t.0 direction.Output (output_at of ordered k t.0 t.1) (output_is_port (kind_of t.0) output) (output_direction (kind_of t.0) output)

-- ---- what an instance drives

outputs_append : (ps : List Port) (xs ys : List Connection) → outputs ps (xs ++ ys) ≡ outputs ps xs ++ outputs ps ys
outputs_append ps [] ys = refl
outputs_append ps (c ∷ xs) ys = by_test (is_output (port_named ps c.port)) (outputs_append ps xs ys) where
  by_test : (b : Bool) → outputs ps (xs ++ ys) ≡ outputs ps xs ++ outputs ps ys
      → (if b then c.signal ∷ outputs ps (xs ++ ys) else outputs ps (xs ++ ys)) ≡ (if b then c.signal ∷ outputs ps xs else outputs ps xs) ++ outputs ps ys
  by_test true e = ap (λ l. c.signal ∷ l) e
  by_test false e = e

module _ (m of : Module) where
  abbrev ties : ℕ → List ℕ → List Connection
  ties = laid.with_places (laid.tie m of)

  no_outputs : (k : ℕ) (xs : List ℕ) → ((j : ℕ) → j < length xs → IsPortAt of (k + j) direction.Input) → outputs (laid.ports of) (ties k xs) ≡ []
  no_outputs k [] h = refl
  no_outputs k (x ∷ xs) h =
      let p = h 0 (omega arith) in
      let here : port_named (laid.ports of) (laid.signal_name of k)
      ≡ Some (laid.port direction.Input p.s) = ap (λ j. port_named (laid.ports of) (laid.signal_name of j)) (sym (add-zero k)) ∙ p.named in
      ap (λ o. if is_output o then laid.signal_name m x ∷ outputs (laid.ports of) (ties (k + 1) xs) else outputs (laid.ports of) (ties (k + 1) xs)) here
      ∙ no_outputs (k + 1) xs (λ j lt. let e : k + suc j ≡ k + 1 + j = omega arith in subst (λ (i : ℕ). IsPortAt of i direction.Input) e (h (suc j) (omega arith)))

  all_outputs : (k : ℕ) (xs : List ℕ) → ((j : ℕ) → j < length xs → IsPortAt of (k + j) direction.Output) → outputs (laid.ports of) (ties k xs) ≡ map (laid.signal_name m) xs
  all_outputs k [] h = refl
  all_outputs k (x ∷ xs) h =
      let p = h 0 (omega arith) in
      let here : port_named (laid.ports of) (laid.signal_name of k)
      ≡ Some (laid.port direction.Output p.s) = ap (λ j. port_named (laid.ports of) (laid.signal_name of j)) (sym (add-zero k)) ∙ p.named in
      ap (λ o. if is_output o then laid.signal_name m x ∷ outputs (laid.ports of) (ties (k + 1) xs) else outputs (laid.ports of) (ties (k + 1) xs)) here
      ∙ ap (λ l. laid.signal_name m x ∷ l)
      (all_outputs (k + 1) xs (λ j lt. let e : k + suc j ≡ k + 1 + j = omega arith in subst (λ (i : ℕ). IsPortAt of i direction.Output) e (h (suc j) (omega arith))))

  pub outputs_are : (n : Instance) → IsOrdered of → length n.inputs ≡ length (input_signals of) → length n.outputs ≡ length (output_signals of)
      → outputs (laid.ports of) (laid.connections m of n) ≡ map (laid.signal_name m) n.outputs
  outputs_are n ordered ins outs =
      let first : ℕ = length of.signals - length n.outputs in
      let same : first_output of ≡ first = ap (λ j. length of.signals - j) (sym outs) in
      outputs_append (laid.ports of) (ties 0 n.inputs) (ties first n.outputs)
      ∙ ap (λ l. l ++ outputs (laid.ports of) (ties first n.outputs))
      (no_outputs 0 n.inputs (λ j lt. subst (λ (i : ℕ). IsPortAt of i direction.Input) (sym (zero-add j)) (input_port_at of ordered j (omega arith))))
      ∙ all_outputs first n.outputs (λ j lt. subst (λ (i : ℕ). IsPortAt of (i + j) direction.Output) same (output_port_at of ordered j (omega arith)))

-- ---- the modules before

pub record HasInterface (mods : List Interface) (x : Module) : Type 0 where
  pub interface : Interface
  pub named : interface_named mods x.name ≡ Some interface
  pub name : interface.name ≡ x.name
  pub ports : interface.ports ≡ laid.ports x

abbrev pub KnowsModules : List Interface → List Module → Type 0
KnowsModules mods before = (j : ℕ) (x : Module) → slice_get before j ≡ Some x → HasInterface mods x

module _ (all before : List Module) (m : Module) (known : AreBefore all before) (mods : List Interface) (knows : KnowsModules mods before) where
  pub drives_are : (i : ℕ) (n : Instance) → IsLaidInstance before m i n → drives mods (laid.instance_item all m n) ≡ map (laid.signal_name m) n.outputs
  drives_are at n h =
      ap (λ t. drives mods (i.Instance t)) (instance_is all before m known n h.of h.earlier)
      ∙ ap (λ o. outputs (ports_of o) (laid.connections m h.of n)) (knows n.of h.of h.earlier).named
      ∙ ap (λ ps. outputs ps (laid.connections m h.of n)) (knows n.of h.of h.earlier).ports
      ∙ outputs_are m h.of n (known.ordered n.of h.of h.earlier) h.inputs h.outputs

  -- a signal that an output of an instance drives
  pub record IsOutputOf (i : ℕ) (z : Name) : Type 0 where
    pub x : ℕ
    pub s : Signal
    pub j : ℕ
    pub port : ℕ
    pub found : slice_get m.signals x ≡ Some s
    pub is : s.source ≡ source.Port i port
    pub name : z ≡ s.name

  pub output_of : (i : ℕ) (n : Instance) (h : IsLaidInstance before m i n) (j x : ℕ) → slice_get n.outputs j ≡ Some x
      → (s : Signal) × (slice_get m.signals x ≡ Some s) × (s.source ≡ source.Port i (first_output h.of + j))
  output_of i n h j x q = mapped_some (λ (y : Signal). y.source) (slice_get m.signals x) (source.Port i (first_output h.of + j)) (h.drives j x q)

  pub driven_by : (i : ℕ) (n : Instance) → IsLaidInstance before m i n → (z : Name) → In (drives mods (laid.instance_item all m n)) z → IsOutputOf i z
  driven_by i n h z q =
      let f = in_unmap (laid.signal_name m) n.outputs z (subst (λ (l : Names). In l z) (drives_are i n h) q) in
      let s = output_of i n h f.at f.x f.found in
      record { x = f.x; s = s.0; j = f.at; port = first_output h.of + f.at; found = s.1; is = s.2; name = sym f.is ∙ signal_name_at m f.x s.0 s.1 }
