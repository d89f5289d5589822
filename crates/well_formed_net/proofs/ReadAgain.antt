-- A text of a well-formed net whose outermost module has the ports of a net of threads is read as this net.
use Rattle.std.specs.Prelude.{◌≡◌, ℕ, zero, suc, ◌+◌, ◌<◌, ◌≤◌, Bool, true, false, is_some, List, [], ◌∷◌, ◌++◌, take, Option, Some, None, slice_get, if◌then◌else◌, refl, codes}
use Rattle.std.specs.Str.{bytes_eq}
use Rattle.std.proofs.Common.{ap, sym, ◌∙◌, subst, inl, inr, arith}
use Rattle.std.proofs.lemmas.Option.{same_Some, none-some}
use Rattle.std.proofs.lemmas.Bool.{lt-ltb}
use Rattle.std.proofs.lemmas.Slice.Eq.{bytes_eq-Decides}
use Rattle.lists.proofs.Places.{get_mapped, get_unmapped}
use Rattle.verilog_tree.specs.declared.tree.Direction.{Direction}
use Rattle.verilog_tree.specs.declared.tree.Direction.TheVariants as direction
use Rattle.verilog_tree.specs.declared.tree.Port.{Port}
use Rattle.verilog_tree.specs.declared.tree.Module as text
use Rattle.verilog_tree.specs.declared.tree.Net.{Net}
use Rattle.verilog_tree.specs.Facts.{nothing, after, after_module}
use Rattle.verilog_tree.specs.Rules.{has_port, port_named}
use Rattle.verilog_tree.specs.Scope as scope
use Rattle.verilog_tree.specs.WellFormed.{IsWellFormed}
use Rattle.netlist.specs.declared.netlist.Source.TheVariants as source
use Rattle.netlist.specs.declared.netlist.Signal.{Signal}
use Rattle.netlist.specs.declared.netlist.Module.{Module}
use Rattle.netlist.specs.NetlistOf as n
use Rattle.netlist.specs.NetlistOf.{Name, module_of, netlist_of}
use Rattle.netlist.specs.Laid.{AreApart, module_names}
use Rattle.netlist_text.proofs.Members.{In}
use Rattle.verilog_meaning.specs.Names.{module_named, top_of}
use Rattle.verilog_meaning.specs.Ports.{HasPorts, TakesInput}
use Rattle.well_formed_net.proofs.Signals.{kind_at, port_declared}
use Rattle.well_formed_net.proofs.Connected.{is_port_kind, port_of}
use Rattle.well_formed_net.proofs.Modules.{fits_of_well_formed, modules_are, signals_are, signal_at, input_kind}
use Rattle.well_formed_net.proofs.Prints.{modules_apart, told_there, name_is}
use Rattle.well_formed_net.proofs.Texts.{named_module}
use Rattle.verilog_reader.specs.Top.{IsWanted, Clock, Done, Enable, Pref, pref}
use Rattle.verilog_reader.specs.Faults.{IsRunnable, IsSimulated, IsTopAt}
use Rattle.well_formed_net.specs.ReadAgain.{IsReadAgain}

-- ---- the module of a name

-- the number of one that is found by its name
record IsNumbered (ms : List Module) (name : Name) : Type 0 where
  pub number : ℕ
  pub held : Module
  pub listed : slice_get ms number ≡ Some held
  pub named : held.name ≡ name

numbered_or : (t : Module) (ms : List Module) (name : Name) (m : Module) (b : Bool) → bytes_eq name t.name ≡ b → (if b then Some t else module_named ms name) ≡ Some m
    → (module_named ms name ≡ Some m → IsNumbered ms name) → IsNumbered (t ∷ ms) name
numbered_or t ms name m true same e rest = record { number = 0; held = t; listed = refl; named = sym ((bytes_eq-Decides name t.name).0 same) }
numbered_or t ms name m false same e rest = let r = rest e in record { number = suc r.number; held = r.held; listed = r.listed; named = r.named }

number_of : (ms : List Module) (name : Name) (m : Module) → module_named ms name ≡ Some m → IsNumbered ms name
number_of [] name m e = absurd (none-some m e)
number_of (t ∷ ms) name m e = numbered_or t ms name m (bytes_eq name t.name) refl e (number_of ms name m)

-- the module of the text that one of the netlist is
tree_of : (ts before : List text.Module) (k : ℕ) (m : Module) → slice_get (n.modules_of before ts) k ≡ Some m → (t : text.Module) × (slice_get ts k ≡ Some t) × (m.name ≡ t.name)
tree_of [] before k m e = absurd (none-some m e)
tree_of (t ∷ ts) before zero m e = (t, refl, ap (λ (y : Module). y.name) (sym (same_Some (module_of before t) m e)) ∙ name_is before t)
tree_of (t ∷ ts) before (suc k) m e = tree_of ts (before ++ t ∷ []) k m e

-- ---- ports by their names

has_or : (b : Bool) (p : Port) (o : Option Port) → (b ≡ false → is_some o ≡ true) → is_some (if b then Some p else o) ≡ true
has_or true p o rest = refl
has_or false p o rest = rest refl

port_there : (ports : List Port) (name : Name) (k : ℕ) (p : Port) → slice_get ports k ≡ Some p → p.name ≡ name → has_port ports name ≡ true
port_there [] name k p e named = absurd (none-some p e)
port_there (t ∷ ports) name zero p e named =
    let same : bytes_eq name t.name ≡ true = (bytes_eq-Decides name t.name).1 (sym (ap (λ (y : Port). y.name) (same_Some t p e) ∙ named)) in
    has_or (bytes_eq name t.name) t (port_named ports name) (λ other. absurd (let z : true ≡ false = sym same ∙ other in cc))
port_there (t ∷ ports) name (suc k) p e named =
    has_or (bytes_eq name t.name) t (port_named ports name) (λ other. port_there ports name k p e named)

-- a range of at most 64 bits has one width in a text and in its netlist
width_same : (high : Option ℕ) (w : ℕ) → w ≤ 64 → n.width_of high ≡ w → scope.width_of high ≡ w
width_same None w most e = e
width_same (Some high) w most e = let below : high < 64 = omega (arith, most, e) in ap (λ b. if b then high + 1 else 0) (lt-ltb high 64 below) ∙ e

abbrev is_input : n.Kind → Bool
is_input n.InputPort = true
is_input _ = false

no_output : kind_at direction.Output ≡ n.InputPort → ⊥
no_output e = let z : false ≡ true = ap is_input e in cc

-- ---- the ports of `top`

module _ (net : Net) (is : IsWellFormed net) (k : ℕ) (m : text.Module) (listed : slice_get net.modules k ≡ Some m) (threads : ℕ) where
  abbrev before : List text.Module
  before = take k net.modules

  abbrev mine : Module
  mine = module_of before m

  module _ (ports : HasPorts mine threads) where
    -- signals of one name are one
    one : (x y : ℕ) (s t : Signal) → slice_get mine.signals x ≡ Some s → slice_get mine.signals y ≡ Some t → s.name ≡ t.name → s ≡ t
    one x y s t e f named =
        let apart = (fits_of_well_formed net is k mine (told_there net is k m listed)).signals_apart in
        let same : x ≡ y = apart x y t.name (get_mapped (λ (z : Signal). z.name) mine.signals x s e ∙ ap Some named) (get_mapped (λ (z : Signal). z.name) mine.signals y t f) in
        same_Some s t (sym e ∙ ap (λ (z : ℕ). slice_get mine.signals z) same ∙ f)

    declared : (x : ℕ) (s : Signal) → slice_get mine.signals x ≡ Some s → (d : n.Declaration) × (slice_get (n.declarations m) x ≡ Some d) × (n.signal_of before m d ≡ s)
    declared x s e = get_unmapped (n.signal_of before m) (n.declarations m) x s (ap (λ (l : List Signal). slice_get l x) (sym (signals_are before m)) ∙ e)

    kind_of_input : (d : n.Declaration) → In (n.declarations m) d → n.source_of before m d.kind d.name ≡ source.Input → d.kind ≡ n.InputPort
    kind_of_input d h from = input_kind net.modules (after after_module nothing net.modules) is.modules k m listed d h from

    -- a signal that is a port stands in the text's
    port_at : (x : ℕ) (s : Signal) (name : Name) → slice_get mine.signals x ≡ Some s → s.name ≡ name
        → ((d : n.Declaration) → In (n.declarations m) d → n.signal_of before m d ≡ s → is_port_kind d.kind ≡ true) → has_port m.ports name ≡ true
    port_at x s name e named ported =
        let q = declared x s e in
        let h : In (n.declarations m) q.0 = record { at = x; found = q.1 } in
        let p = port_of m q.0 h (ported q.0 h q.2) in
        port_there m.ports name p.at p.port p.found (ap (λ (y : n.Declaration). y.name) p.is ∙ ap (λ (y : Signal). y.name) q.2 ∙ named)

    takes : (name : Name) (w : ℕ) → TakesInput mine name w → has_port m.ports name ≡ true
    takes name w t =
        port_at t.place t.signal name t.is.listed t.is.named
        (λ d h same. ap is_port_kind (kind_of_input d h (ap (λ (y : Signal). y.source) same ∙ t.input)))

    ported_output : (q : n.Kind) → n.is_output_port q ≡ true → is_port_kind q ≡ true
    ported_output n.InputPort e = refl
    ported_output n.OutputPort e = refl
    ported_output n.PlainWire e = absurd (let z : false ≡ true = e in cc)
    ported_output n.Reg e = absurd (let z : false ≡ true = e in cc)

    has_done : has_port m.ports (codes "done") ≡ true
    has_done =
        port_at ports.done.place ports.done.signal (codes "done") ports.done.is.listed ports.done.is.named
        (λ d h same. ported_output d.kind (ap (λ (y : Signal). y.is_output) same ∙ ports.done.out))

    -- ---- each port

    module _ (j : ℕ) (p : Port) (found : slice_get m.ports j ≡ Some p) where
      abbrev d : n.Declaration
      d = n.declaration (kind_at p.direction) p

      there : In (n.declarations m) d
      there = port_declared m j p found

      abbrev mine_signal : Signal
      mine_signal = n.signal_of before m d

      at : slice_get mine.signals there.at ≡ Some mine_signal
      at = signal_at before m there.at d there.found

      -- the signal of a port that has the name of another signal
      same_as : (y : ℕ) (t : Signal) (name : Name) → slice_get mine.signals y ≡ Some t → t.name ≡ name → p.name ≡ name → mine_signal ≡ t
      same_as y t name e named own = one there.at y mine_signal t at e (own ∙ sym named)

      no_input : p.direction ≡ direction.Output → (name : Name) (w : ℕ) → TakesInput mine name w → p.name ≡ name → ⊥
      no_input out name w t own =
          let kind : kind_at p.direction ≡ n.InputPort =
          kind_of_input d there (ap (λ (y : Signal). y.source) (same_as t.place t.signal name t.is.listed t.is.named own) ∙ t.input) in
          no_output (ap kind_at (sym out) ∙ kind)

      wide : (name : Name) (w : ℕ) → w ≤ 64 → TakesInput mine name w → p.name ≡ name → scope.width_of p.high ≡ w
      wide name w most t own =
          width_same p.high w most (ap (λ (y : Signal). y.width) (same_as t.place t.signal name t.is.listed t.is.named own) ∙ t.wide)

      input : p.direction ≡ direction.Input → IsWanted m.ports p
      input way =
          let from : mine_signal.source ≡ source.Input = ap (λ (r : Direction). n.source_of before m (kind_at r) p.name) way in
          elim (ports.only there.at mine_signal at (inl from)) [
            | inl c ↦ Clock c
            | inr rest ↦ elim rest [
              | inl e ↦ Enable (record { name = e; way = way })
              | inr more ↦ elim more [
                | inl e ↦ absurd (
                    let f : mine_signal.is_output ≡ false = ap (λ (r : Direction). n.is_output_port (kind_at r)) way in
                    let t : mine_signal.is_output ≡ true =
                    ap (λ (y : Signal). y.is_output)
                    (same_as ports.done.place ports.done.signal (codes "done") ports.done.is.listed ports.done.is.named e) ∙ ports.done.out in
                    let z : false ≡ true = sym f ∙ t in
                    cc
                    )
                | inr e ↦ Pref (record {
                  number = e.0;
                  name = e.2;
                  way = way;
                  wide = let w : scope.width_of p.high ≡ 6 = wide (pref e.0) 6 (omega arith) (ports.prefs e.0 e.1) e.2 in omega (arith, w);
                  gapless = λ i less. takes (pref i) 6 (ports.prefs i (let low = e.1 in omega (arith, less, low)));
                })
              ]
            ]
          ]

      output : p.direction ≡ direction.Output → IsWanted m.ports p
      output way =
          let out : mine_signal.is_output ≡ true = ap (λ (r : Direction). n.is_output_port (kind_at r)) way in
          elim (ports.only there.at mine_signal at (inr out)) [
            | inl c ↦ Clock c
            | inr rest ↦ elim rest [
              | inl e ↦ absurd (no_input way (codes "en") threads ports.enable e)
              | inr more ↦ elim more [
                | inl e ↦ Done (record {
                  name = e;
                  way = way;
                  bit = width_same p.high 1 (omega arith)
                      (ap (λ (y : Signal). y.width)
                      (same_as ports.done.place ports.done.signal (codes "done") ports.done.is.listed ports.done.is.named e) ∙ ports.done.bit);
                })
                | inr e ↦ absurd (no_input way (pref e.0) 6 (ports.prefs e.0 e.1) e.2)
              ]
            ]
          ]

      by_way : (r : Direction) → p.direction ≡ r → IsWanted m.ports p
      by_way direction.Input way = input way
      by_way direction.Output way = output way

    pub runnable : IsRunnable m
    runnable = record {
      clock = takes (codes "clk") 1 ports.clock;
      done = has_done;
      wanted = λ j p found. by_way j p found p.direction refl;
    }

-- ---- the net

module _ (net : Net) (top : Module) (threads : ℕ) (is : IsWellFormed net) (is_top : top_of (netlist_of net).modules ≡ Some top) (ports : HasPorts top threads) where
  top_is : (k : ℕ) (m : text.Module) → IsTopAt net k m → top ≡ module_of (take k net.modules) m
  top_is k m at =
      let mine = module_of (take k net.modules) m in
      same_Some top mine
      (sym is_top ∙ named_module (netlist_of net).modules (codes "top") k mine (modules_apart net is) (told_there net is k m at.listed) (name_is (take k net.modules) m ∙ at.named))

  simulated : IsSimulated net
  simulated =
      let r = number_of (netlist_of net).modules (codes "top") top is_top in
      let t = tree_of net.modules [] r.number r.held (ap (λ (l : List Module). slice_get l r.number) (sym (modules_are net)) ∙ r.listed) in
      record {
        well_formed = is;
        number = r.number;
        top = t.0;
        is_top = record { listed = t.1; named = sym t.2 ∙ r.named };
        runnable = λ k m at. runnable net is k m at.listed threads (subst (λ (y : Module). HasPorts y threads) (top_is k m at) ports);
      }

pub read_again : IsReadAgain
read_again text net top threads reads is is_top ports = record { reads = reads; simulated = simulated net top threads is is_top ports }
