-- The condition of `open`, said of the text: the module `top` of a text and of its netlist.
use Rattle.std.specs.Prelude.{◌≡◌, ℕ, zero, suc, Bool, true, false, List, [], ◌∷◌, take, Some, slice_get, if◌then◌else◌, refl, codes}
use Rattle.std.specs.Str.{bytes_eq}
use Rattle.std.proofs.Common.{ap, sym, ◌∙◌, subst, arith}
use Rattle.std.proofs.lemmas.Option.{same_Some, none-some}
use Rattle.std.proofs.lemmas.Slice.Eq.{bytes_eq-Decides}
use Rattle.lists.proofs.Places.{get_mapped, get_unmapped}
use Rattle.verilog_tree.specs.declared.tree.Direction.{Direction}
use Rattle.verilog_tree.specs.declared.tree.Direction.TheVariants as direction
use Rattle.verilog_tree.specs.declared.tree.Port.{Port}
use Rattle.verilog_tree.specs.declared.tree.Module as text
use Rattle.verilog_tree.specs.declared.tree.Net.{Net}
use Rattle.verilog_tree.specs.Facts.{nothing, after, after_module}
use Rattle.verilog_tree.specs.WellFormed.{IsWellFormed}
use Rattle.netlist.specs.declared.netlist.Source.TheVariants as source
use Rattle.netlist.specs.declared.netlist.Signal.{Signal}
use Rattle.netlist.specs.declared.netlist.Module.{Module}
use Rattle.netlist.specs.NetlistOf as n
use Rattle.netlist.specs.NetlistOf.{Name, module_of, netlist_of}
use Rattle.netlist.specs.Laid.{AreApart, module_names}
use Rattle.netlist_text.proofs.Places.{apart_rest, head_other}
use Rattle.netlist_text.proofs.Members.{In}
use Rattle.verilog_meaning.specs.Names.{module_named, top_of}
use Rattle.verilog_meaning.specs.Ports.{HasDone}
use Rattle.well_formed_net.proofs.Signals.{kind_at, port_declared}
use Rattle.well_formed_net.proofs.Connected.{is_port_kind, port_of}
use Rattle.well_formed_net.proofs.Modules.{signals_are, signal_at, input_kind}
use Rattle.well_formed_net.proofs.Prints.{modules_apart, told_there, name_is}
use Rattle.cycle_sim.specs.Right.{HasWidePrefs}
use Rattle.well_formed_net.specs.Openable.{HasTop, OpenableText}
use Rattle.well_formed_net.proofs.Openable.{openable_of_well_formed}

-- ---- the module of a name

pub named_module : (ms : List Module) (name : Name) (k : ℕ) (m : Module) → AreApart (module_names ms) → slice_get ms k ≡ Some m → m.name ≡ name → module_named ms name ≡ Some m
named_module [] name k m apart e named = absurd (none-some m e)
named_module (t ∷ ms) name zero m apart e named =
    let same : bytes_eq name t.name ≡ true = (bytes_eq-Decides name t.name).1 (sym (ap (λ (y : Module). y.name) (same_Some t m e) ∙ named)) in
    ap (λ b. if b then Some t else module_named ms name) same ∙ e
named_module (t ∷ ms) name (suc k) m apart e named =
    let other : bytes_eq name t.name ≡ false =
    head_other t.name (module_names ms) k name apart (get_mapped (λ (y : Module). y.name) ms k m e ∙ ap Some named) in
    ap (λ b. if b then Some t else module_named ms name) other ∙ named_module ms name k m (apart_rest t.name (module_names ms) apart) e named

input_direction : (r : Direction) → kind_at r ≡ n.InputPort → r ≡ direction.Input
input_direction direction.Input e = refl
input_direction direction.Output e = absurd (let z : false ≡ true = ap is_input e in cc) where
  is_input : n.Kind → Bool
  is_input n.InputPort = true
  is_input n.OutputPort = false
  is_input n.PlainWire = false
  is_input n.Reg = false

-- ---- `top`

module _ (net : Net) (is : IsWellFormed net) (has : HasTop net) where
  abbrev before : List text.Module
  before = take has.number net.modules

  abbrev mine : Module
  mine = module_of before has.top

  top_there : slice_get (netlist_of net).modules has.number ≡ Some mine
  top_there = told_there net is has.number has.top has.listed

  is_top : top_of (netlist_of net).modules ≡ Some mine
  is_top = named_module (netlist_of net).modules (codes "top") has.number mine (modules_apart net is) top_there (name_is before has.top ∙ has.named)

  done : HasDone mine
  done =
      let d : n.Declaration = n.declaration (kind_at has.done.direction) has.done in
      let h = port_declared has.top has.place has.done has.done_listed in
      record {
        place = h.at;
        signal = n.signal_of before has.top d;
        is = record { listed = signal_at before has.top h.at d h.found; named = has.done_named };
        out = ap (λ (r : Direction). n.is_output_port (kind_at r)) has.done_out;
        bit = has.done_bit;
      }

  -- ---- its inputs

  record IsInputPort (s : Signal) : Type 0 where
    pub at : ℕ
    pub port : Port
    pub found : slice_get has.top.ports at ≡ Some port
    pub way : port.direction ≡ direction.Input
    pub name : port.name ≡ s.name
    pub bits : n.width_of port.high ≡ s.width

  input_port : (d : n.Declaration) → In (n.declarations has.top) d → d.kind ≡ n.InputPort → IsInputPort (n.signal_of before has.top d)
  input_port d h is_in =
      let p = port_of has.top d h (ap is_port_kind is_in) in
      record {
        at = p.at;
        port = p.port;
        found = p.found;
        way = input_direction p.port.direction (ap (λ (y : n.Declaration). y.kind) p.is ∙ is_in);
        name = ap (λ (y : n.Declaration). y.name) p.is;
        bits = ap (λ (y : n.Declaration). y.width) p.is;
      }

  -- the declaration of a signal
  declared : (x : ℕ) (s : Signal) → slice_get mine.signals x ≡ Some s → (d : n.Declaration) × (slice_get (n.declarations has.top) x ≡ Some d) × (n.signal_of before has.top d ≡ s)
  declared x s e = get_unmapped (n.signal_of before has.top) (n.declarations has.top) x s (ap (λ (l : List Signal). slice_get l x) (sym (signals_are before has.top)) ∙ e)

  input_of : (x : ℕ) (s : Signal) → slice_get mine.signals x ≡ Some s → s.source ≡ source.Input → IsInputPort s
  input_of x s e input =
      let q = declared x s e in
      let h : In (n.declarations has.top) q.0 = record { at = x; found = q.1 } in
      let from : n.source_of before has.top (q.0).kind (q.0).name ≡ source.Input = ap (λ (y : Signal). y.source) q.2 ∙ input in
      subst IsInputPort q.2 (input_port q.0 h (input_kind net.modules (after after_module nothing net.modules) is.modules has.number has.top has.listed q.0 h from))

  wide : HasWidePrefs mine
  wide x k s there input =
      let p = input_of x s there.listed input in
      let four = has.wide p.at k p.port p.found p.way (p.name ∙ there.named) in
      let bits = p.bits in
      omega (arith, four, bits)

pub openable_text : OpenableText
openable_text net is has = openable_of_well_formed net is (mine net is has) (is_top net is has) (done net is has) (wide net is has)
