-- The ports of a module are well formed, and a module with something clocked has the clock.
use Rattle.std.proofs.Common.{◌≡◌, ℕ, ◌<◌, List, [], ◌∷◌, ◌++◌, Bool, true, false, Some, refl, sym, ap, ◌∙◌, inl, inr, length, map, arith}
use Rattle.std.specs.Prelude.{slice_get, is_some, not, nat_lt, ◌==◌, ◌&&◌, ◌||◌, if◌then◌else◌}
use Rattle.std.specs.List.{flat_map, list_any}
use Rattle.std.specs.Str.{bytes_eq}
use Rattle.std.proofs.lemmas.Bool.{eq-eqb}
use Rattle.std.proofs.lemmas.Option.{slice_get_within}
use Rattle.std.proofs.lemmas.Slice.Eq.{bytes_eq-Decides}
use Rattle.lists.proofs.Places.{get_front}
use Rattle.verilog_tree.specs.declared.tree.Port.{Port}
use Rattle.verilog_tree.specs.declared.tree.Item.TheVariants as i
use Rattle.verilog_tree.specs.Grammar.{clk}
use Rattle.verilog_tree.specs.Scope as scope
use Rattle.verilog_tree.specs.Scope.{Name, Scope, is_clk, kind_of, port_declaration}
use Rattle.verilog_tree.specs.Rules.{port_named, has_port}
use Rattle.verilog_tree.specs.Facts.{Facts, Interface, ports_of, after, after_port, with_declaration, head_facts}
use Rattle.verilog_tree.specs.WellFormed.{EachAfter, IsPort, is_clocked}
use Rattle.netlist.specs.declared.netlist.Source.{Source}
use Rattle.netlist.specs.declared.netlist.Source.TheVariants as source
use Rattle.netlist.specs.declared.netlist.Signal.{Signal}
use Rattle.netlist.specs.declared.netlist.Module.{Module}
use Rattle.netlist.specs.Laid as netlist_laid
use Rattle.netlist.specs.Laid.{AreApart, IsLaidModule, kind_by, signal_names}
use Rattle.netlist.specs.Sound.{IsSoundModule, HasClock}
use Rattle.netlist_text.specs.LaidOut as laid
use Rattle.netlist_text.proofs.Connections.{AreBefore, instance_is}
use Rattle.netlist_text.proofs.Members.{In, Entry, in_none, in_first, in_rest, undeclared, declarations_in}
use Rattle.netlist_text.proofs.Grown.{ports_are}
use Rattle.netlist_text.proofs.Views.{is_port, port_entries}
use Rattle.netlist_text.proofs.Slots.{same_signal}
use Rattle.netlist_text.proofs.Widths.{IsPlain, width_of_high, no_clock_assigned, no_clock_port}
use Rattle.netlist_text.proofs.Interfaces.{KnowsModules, port_from, port_found}
use Rattle.netlist_text.proofs.Drives.{assigned_known, port_known}
use Rattle.netlist_text.proofs.Fronts.{split_at, any_front, each_flat}
use Rattle.netlist_text.proofs.Formed.{whole, plain, positive}

pub implied : (a b : Bool) → (a ≡ true → b ≡ true) → (not a || b) ≡ true
implied true b h = h refl
implied false b h = refl

module _ (all before : List Module) (m : Module) (known : AreBefore all before) (fits : IsLaidModule before m) (ok : IsSoundModule m before) (f : Facts) (knows : KnowsModules f.modules before)
    (plain_before : (j : ℕ) (x : Module) → slice_get before j ≡ Some x → (k : ℕ) (s : Signal) → slice_get x.signals k ≡ Some s → IsPlain s) where
  abbrev all_facts : Facts
  all_facts = whole all before m known fits ok f knows plain_before

  abbrev of_ports : List Signal → Facts
  of_ports a = after after_port (head_facts f) (flat_map laid.port_of a)

  port_new : (a b : List Signal) (s : Signal) → m.signals ≡ a ++ s ∷ b → scope.is_declared (of_ports a).scope s.name ≡ false
  port_new a b s e =
      let h = split_at m.signals a b s e in
      let list : Scope = map port_declaration (flat_map laid.port_of a) in
      let is : (of_ports a).scope ≡ after with_declaration [] list = ap (λ (g : Facts). g.scope) (ports_are (head_facts f) (flat_map laid.port_of a)) in
      ap (λ l. scope.is_declared l s.name) is ∙ ap is_some (undeclared (after with_declaration [] list) s.name (λ d p q.
      elim (declarations_in [] list d p) [
        | inl r ↦ in_none d r
        | inr r ↦ (let o = port_entries a d r in
            let there : slice_get m.signals o.at ≡ Some o.s = ap (λ l. slice_get l o.at) e ∙ get_front a (s ∷ b) o.at o.s o.found in
            let same : o.at ≡ length a = same_signal m fits.names o.at (length a) o.s s there h (sym (ap (λ (y : Entry). y.0) o.is) ∙ q) in
            let low : o.at < length a = slice_get_within a o.at o.s o.found in absurd (omega arith))
      ]))

  plain_at : (k : ℕ) (s : Signal) → slice_get m.signals k ≡ Some s → IsPlain s
  plain_at = plain all before m known fits ok f knows plain_before

  clock_by : (s : Signal) (w : ℕ) → w ≡ s.width → (b : Bool) → (b ≡ true → s.width ≡ 1) → (not b || (true && w == 1)) ≡ true
  clock_by s w e true h = eq-eqb w 1 (e ∙ h refl)
  clock_by s w e false h = refl

  port_by : (a b : List Signal) (s : Signal) → m.signals ≡ a ++ s ∷ b → (from : Source) (out : Bool) → s.source ≡ from
      → EachAfter (IsPort all_facts) after_port (of_ports a) (laid.port_by s (kind_by from out))
  port_by a b s e source.Input out is =
      let h = split_at m.signals a b s e in
      let p = plain_at (length a) s h in
      let w = width_of_high s.width p.low p.high in (
        record {
          new = port_new a b s e;
          width = ap (nat_lt 0) w ∙ positive s.width p.low;
          driven = refl;
          clock = clock_by s (scope.width_of (laid.high_of s.width)) w (is_clk s.name) (λ c. ((ok.signals (length a) s h).clock c).1);
        },
        tt,
      )
  port_by a b s e (source.Register v) out is = tt
  port_by a b s e (source.Assigned right) true is =
      let h = split_at m.signals a b s e in
      let p = plain_at (length a) s h in (
        record {
          new = port_new a b s e;
          width = ap (nat_lt 0) (width_of_high s.width p.low p.high) ∙ positive s.width p.low;
          driven = assigned_known all before m known fits f knows (laid.constants m) (map (laid.statement m) m.actions) (length a) s right h is;
          clock = ap (λ c. not c || (false && scope.width_of (laid.high_of s.width) == 1)) (no_clock_assigned s right p is);
        },
        tt,
      )
  port_by a b s e (source.Assigned right) false is = tt
  port_by a b s e (source.Port j port) true is =
      let h = split_at m.signals a b s e in
      let p = plain_at (length a) s h in (
        record {
          new = port_new a b s e;
          width = ap (nat_lt 0) (width_of_high s.width p.low p.high) ∙ positive s.width p.low;
          driven = port_known all before m known fits f knows (laid.constants m) (map (laid.statement m) m.actions) (length a) s j port h is;
          clock = ap (λ c. not c || (false && scope.width_of (laid.high_of s.width) == 1)) (no_clock_port s j port p is);
        },
        tt,
      )
  port_by a b s e (source.Port j port) false is = tt

  pub ports_formed : EachAfter (IsPort all_facts) after_port (head_facts f) (laid.ports m)
  ports_formed = each_flat (IsPort all_facts) after_port laid.port_of (head_facts f) m.signals (λ a b s e. port_by a b s e s.source s.is_output refl)

-- ---- the clock

first_of_mapped : {A B : Type 0} (f : A → B) (xs : List A) → 0 < length (map f xs) → (x : A) × (slice_get xs 0 ≡ Some x)
first_of_mapped f [] h = absurd (omega arith)
first_of_mapped f (x ∷ xs) h = (x, refl)

pub clock_port : (m : Module) → AreApart (signal_names m) → ((k : ℕ) (s : Signal) → slice_get m.signals k ≡ Some s → is_clk s.name ≡ true → s.source ≡ source.Input) → HasClock m m
    → has_port (laid.ports m) clk ≡ true
clock_port m apart inputs h =
    let s = h.1 in
    let input : s.source ≡ source.Input = inputs h.0 s h.2 h.3 in
    let port : is_port (netlist_laid.kind_of s) ≡ true = ap (λ k. is_port (kind_by k s.is_output)) input in
    ap (has_port (laid.ports m)) (sym ((bytes_eq-Decides s.name clk).0 h.3)) ∙ ap is_some (port_found m apart h.0 s h.2 port)

record FoundPort (ps : List Port) (x : Name) : Type 0 where
  pub p : Port
  pub held : In ps p
  pub name : p.name ≡ x

found_step : (p : Port) (ps : List Port) (x : Name) → (is_some (port_named ps x) ≡ true → FoundPort ps x) → (b : Bool) → bytes_eq x p.name ≡ b
    → is_some (if b then Some p else port_named ps x) ≡ true → FoundPort (p ∷ ps) x
found_step p ps x next true e h = record { p = p; held = in_first p ps; name = sym ((bytes_eq-Decides x p.name).0 e) }
found_step p ps x next false e h = let n = next h in record { p = n.p; held = in_rest p n.p ps n.held; name = n.name }

found_port : (ps : List Port) (x : Name) → is_some (port_named ps x) ≡ true → FoundPort ps x
found_port [] x h = absurd (cc)
found_port (p ∷ ps) x h = found_step p ps x (found_port ps x) (bytes_eq x p.name) refl h

clock_of_port : (m of : Module) → has_port (laid.ports of) clk ≡ true → HasClock m of
clock_of_port m of h =
    let p = found_port (laid.ports of) clk h in
    let s = port_from of p.p p.held in
    let name : s.s.name ≡ clk = sym (ap (λ (q : Port). q.name) s.is) ∙ p.name in
    (s.at, s.s, s.found, ap is_clk name)

module _ (all before : List Module) (m : Module) (known : AreBefore all before) (fits : IsLaidModule before m) (ok : IsSoundModule m before) (mods : List Interface)
    (knows : KnowsModules mods before)
    (apart : AreApart (signal_names m)) where
  pub clocked : list_any (is_clocked mods) (laid.items all m) ≡ true → has_port (laid.ports m) clk ≡ true
  clocked h = clock_port m apart (λ k s q c. ((ok.signals k s q).clock c).0)
      (elim (any_front (is_clocked mods) (λ y. refl) (λ y. refl) (λ y. refl) (λ y. refl) (λ y. refl) all m m.signals m.memories m.signals (laid.constants m) (map
      (laid.statement m) m.actions) m.instances h) [
        | inl p ↦ (let a = first_of_mapped (laid.statement m) m.actions p.1 in ok.actions_clocked 0 a.0 a.1)
        | inr p ↦ (let n = p.1 in
            let x = fits.instances p.0 n p.2 in
            let interface = knows n.of x.of x.earlier in
            let q : has_port (laid.ports x.of) clk ≡ true =
            sym (ap (λ t. is_clocked mods (i.Instance t)) (instance_is all before m known n x.of x.earlier) ∙ ap (λ o. has_port (ports_of o) clk) interface.named
            ∙ ap (λ ps. has_port ps clk) interface.ports) ∙ p.3 in
            ok.instances_clocked p.0 n x.of p.2 x.earlier (clock_of_port m x.of q))
      ])
