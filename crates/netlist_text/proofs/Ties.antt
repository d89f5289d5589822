-- The connections of an instance are right: each port once, at a signal of its width.
use Rattle.std.proofs.Common.{◌≡◌, ℕ, zero, suc, ◌+◌, ◌-◌, ◌<◌, ◌≤◌, List, [], ◌∷◌, ◌++◌, Bool, true}
use Rattle.std.proofs.Common.{false, Some, refl, sym, ap, ◌∙◌, subst, inl, inr, length, add-zero, zero-add, arith}
use Rattle.std.specs.Prelude.{slice_get, not, nat_lt, ◌==◌, ◌&&◌, if◌then◌else◌}
use Rattle.std.specs.Str.{bytes_eq}
use Rattle.std.proofs.lemmas.Slice.Eq.{bytes_eq-Decides}
use Rattle.std.proofs.lemmas.Bool.{eq-eqb, false_from_ne_true, and_parts}
use Rattle.std.proofs.lemmas.Bool.Decides.{nat_tests}
use Rattle.std.proofs.lemmas.Option.{same_Some, none-some, slice_get_within}
use Rattle.lists.proofs.Places.{get_there, get_mapped}
use Rattle.verilog_tree.specs.declared.kind.Kind.TheVariants as kind
use Rattle.verilog_tree.specs.declared.kind.SignalClass.TheVariants as class
use Rattle.verilog_tree.specs.declared.tree.Direction.TheVariants as direction
use Rattle.verilog_tree.specs.declared.tree.Port.{Port}
use Rattle.verilog_tree.specs.declared.tree.Connection.{Connection}
use Rattle.verilog_tree.specs.Scope as scope
use Rattle.verilog_tree.specs.Scope.{Name, Names, Scope, is_known, is_clk, is_clock, driven_width}
use Rattle.verilog_tree.specs.Rules as rules
use Rattle.verilog_tree.specs.Rules.{all_right, port_named, connected_ports, are_distinct}
use Rattle.verilog_tree.proofs.Tests.{and_both}
use Rattle.netlist.specs.declared.netlist.Source.TheVariants as source
use Rattle.netlist.specs.declared.netlist.Signal.{Signal}
use Rattle.netlist.specs.declared.netlist.Instance.{Instance}
use Rattle.netlist.specs.declared.netlist.Module.{Module}
use Rattle.netlist.specs.Laid.{AreApart, kind_by, kind_of, is_inner, input_signals, inner_signals, output_signals, first_output, signal_names}
use Rattle.netlist.specs.Sound as sound
use Rattle.netlist_text.specs.LaidOut as laid
use Rattle.netlist_text.proofs.Places.{get_either, get_filtered}
use Rattle.netlist_text.proofs.Values.{signal_name_at}
use Rattle.netlist_text.proofs.Connections.{IsOrdered, length_parts, first_is}
use Rattle.netlist_text.proofs.Members.{In, IsApart, in_first, in_rest, in_front, in_back, in_either, not_holds, in_holds, apart_tail}
use Rattle.netlist_text.proofs.Views.{told_kind, told_kind_by, is_port}
use Rattle.netlist_text.proofs.Scoped.{no_both}
use Rattle.netlist_text.proofs.Widths.{IsPlain, KnowsNames, width_of_high, has_is, driven_by_port, no_clock_port}
use Rattle.netlist_text.proofs.Interfaces.{IsPortAt, input_port_at, output_port_at, port_from, direction_by}

-- ---- tests over lists

pub all_in : {A : Type 0} (p : A → Bool) (xs : List A) → ((x : A) → In xs x → p x ≡ true) → all_right p xs ≡ true
all_in p [] h = refl
all_in p (x ∷ xs) h = and_both _ _ (h x (in_first x xs)) (all_in p xs (λ y q. h y (in_rest x y xs q)))

all_append : {A : Type 0} (p : A → Bool) (xs ys : List A) → all_right p xs ≡ true → all_right p ys ≡ true → all_right p (xs ++ ys) ≡ true
all_append p [] ys h g = g
all_append p (x ∷ xs) ys h g = and_both _ _ (and_parts (p x) (all_right p xs) h).0 (all_append p xs ys (and_parts (p x) (all_right p xs) h).1 g)

module _ (m of : Module) where
  abbrev ties : ℕ → List ℕ → List Connection
  ties = laid.with_places (laid.tie m of)

  all_ties : (p : Connection → Bool) (k : ℕ) (xs : List ℕ) → ((j x : ℕ) → slice_get xs j ≡ Some x → p (laid.tie m of (k + j) x) ≡ true) → all_right p (ties k xs) ≡ true
  all_ties p k [] h = refl
  all_ties p k (x ∷ xs) h =
      let here : p (laid.tie m of k x) ≡ true = ap (λ j. p (laid.tie m of j x)) (sym (add-zero k)) ∙ h 0 x refl in
      and_both _ _ here (all_ties p (k + 1) xs (λ j y q. let e : k + 1 + j ≡ k + suc j = omega arith in ap (λ i. p (laid.tie m of i y)) e ∙ h (suc j) y q))

  -- ---- the ports that are connected

  ports_append : (xs ys : List Connection) → connected_ports (xs ++ ys) ≡ connected_ports xs ++ connected_ports ys
  ports_append [] ys = refl
  ports_append (c ∷ xs) ys = ap (λ l. c.port ∷ l) (ports_append xs ys)

  tied_ports : (k : ℕ) (xs : List ℕ) (j : ℕ) (z : Name) → slice_get (connected_ports (ties k xs)) j ≡ Some z → (z ≡ laid.signal_name of (k + j)) × (j < length xs)
  tied_ports k [] j z h = absurd (none-some z h)
  tied_ports k (x ∷ xs) zero z h = (sym (same_Some (laid.signal_name of k) z h) ∙ ap (laid.signal_name of) (sym (add-zero k)), omega arith)
  tied_ports k (x ∷ xs) (suc j) z h =
      let p = tied_ports (k + 1) xs j z h in
      let e : k + 1 + j ≡ k + suc j = omega arith in
      let l : j < length xs = p.1 in (p.0 ∙ ap (laid.signal_name of) e, omega arith)

  tied_there : (k : ℕ) (xs : List ℕ) (j : ℕ) → j < length xs → In (connected_ports (ties k xs)) (laid.signal_name of (k + j))
  tied_there k [] j lt = absurd (omega arith)
  tied_there k (x ∷ xs) zero lt =
      subst (λ (i : ℕ). In (connected_ports (ties k (x ∷ xs))) (laid.signal_name of i)) (sym (add-zero k)) (in_first (laid.signal_name of k) (connected_ports (ties (k + 1) xs)))
  tied_there k (x ∷ xs) (suc j) lt =
      let e : k + 1 + j ≡ k + suc j = omega arith in
      subst (λ (i : ℕ). In (connected_ports (ties k (x ∷ xs))) (laid.signal_name of i)) e
      (in_rest (laid.signal_name of k) (laid.signal_name of (k + 1 + j)) (connected_ports (ties (k + 1) xs)) (tied_there (k + 1) xs j (omega arith)))

  module _ (apart : AreApart (signal_names of)) where
    same_place : (i j : ℕ) → i < length of.signals → j < length of.signals → laid.signal_name of i ≡ laid.signal_name of j → i ≡ j
    same_place i j p q e =
        let s = get_there of.signals i p in
        let t = get_there of.signals j q in
        apart i j t.0.name (get_mapped (λ (y : Signal). y.name) of.signals i s.0 s.1 ∙ ap Some (sym (signal_name_at of i s.0 s.1) ∙ e ∙ signal_name_at of j t.0 t.1))
        (get_mapped (λ (y : Signal). y.name) of.signals j t.0 t.1)

    ties_apart : (k : ℕ) (xs : List ℕ) → k + length xs ≤ length of.signals → IsApart (connected_ports (ties k xs))
    ties_apart k xs fits = λ i j z p q.
        (let a = tied_ports k xs i z p in
        let b = tied_ports k xs j z q in
        let la : i < length xs = a.1 in
        let lb : j < length xs = b.1 in
        let e : k + i ≡ k + j = same_place (k + i) (k + j) (omega arith) (omega arith) (sym a.0 ∙ b.0) in omega arith)

distinct_from : (xs : Names) → IsApart xs → are_distinct xs ≡ true
distinct_from [] apart = refl
distinct_from (x ∷ xs) apart =
    and_both _ _ (ap not (not_holds bytes_eq bytes_eq-Decides xs x (λ p. let e : 0 ≡ suc p.at = apart 0 (suc p.at) x refl p.found in absurd (omega arith))))
    (distinct_from xs (apart_tail x xs apart))

distinct_append : (xs ys : Names) → IsApart xs → IsApart ys → ((z : Name) → In xs z → In ys z → ⊥) → are_distinct (xs ++ ys) ≡ true
distinct_append [] ys a b none = distinct_from ys b
distinct_append (x ∷ xs) ys a b none =
    and_both _ _ (ap not (not_holds bytes_eq bytes_eq-Decides (xs ++ ys) x (λ p. elim (in_either xs ys x p) [
      | inl q ↦ (let e : 0 ≡ suc q.at = a 0 (suc q.at) x refl q.found in absurd (omega arith))
      | inr q ↦ none x (in_first x xs) q
    ]))) (distinct_append xs ys (apart_tail x xs a) b (λ z p q. none z (in_rest x z xs p) q))

-- ---- the ports of an instance, each connected once

module _ (m of : Module) (ordered : IsOrdered of) (n : Instance) (ins : length n.inputs ≡ length (input_signals of)) (outs : length n.outputs ≡ length (output_signals of)) where
  abbrev pub first : ℕ
  first = length of.signals - length n.outputs

  pub first_same : first_output of ≡ first
  first_same = ap (λ j. length of.signals - j) (sym outs)

  room : length n.inputs + length n.outputs ≤ length of.signals
  room = let e = length_parts of ordered in omega arith

  pub distinct : are_distinct (connected_ports (laid.connections m of n)) ≡ true
  distinct =
      let r = room in
      let a = connected_ports (ties m of 0 n.inputs) in
      let b = connected_ports (ties m of first n.outputs) in
      ap are_distinct (ports_append m of (ties m of 0 n.inputs) (ties m of first n.outputs))
      ∙ distinct_append a b (ties_apart m of ordered.names 0 n.inputs (omega arith)) (ties_apart m of ordered.names first n.outputs (omega arith)) (λ z p q.
      (let x = tied_ports m of 0 n.inputs p.at z p.found in
      let y = tied_ports m of first n.outputs q.at z q.found in
      let lx : p.at < length n.inputs = x.1 in
      let ly : q.at < length n.outputs = y.1 in
      let e : 0 + p.at ≡ first + q.at = same_place m of ordered.names (0 + p.at) (first + q.at) (omega arith) (omega arith) (sym x.0 ∙ y.0) in omega arith))

  -- every port is connected
  tied_input : (k : ℕ) (s : Signal) → slice_get of.signals k ≡ Some s → k < length n.inputs → In (connected_ports (laid.connections m of n)) s.name
  tied_input k s h lt =
      let a = connected_ports (ties m of 0 n.inputs) in
      let b = connected_ports (ties m of first n.outputs) in
      subst (λ (l : Names). In l s.name) (sym (ports_append m of (ties m of 0 n.inputs) (ties m of first n.outputs)))
      (in_front a b s.name (subst (λ (z : Name). In a z) (ap (laid.signal_name of) (zero-add k) ∙ signal_name_at of k s h) (tied_there m of 0 n.inputs k lt)))

  tied_output : (j : ℕ) (s : Signal) → slice_get of.signals (first_output of + j) ≡ Some s → j < length n.outputs → In (connected_ports (laid.connections m of n)) s.name
  tied_output j s h lt =
      let a = connected_ports (ties m of 0 n.inputs) in
      let b = connected_ports (ties m of first n.outputs) in
      subst (λ (l : Names). In l s.name) (sym (ports_append m of (ties m of 0 n.inputs) (ties m of first n.outputs)))
      (in_back a b s.name
      (subst (λ (z : Name). In b z) (ap (λ i. laid.signal_name of (i + j)) (sym first_same) ∙ signal_name_at of (first_output of + j) s h) (tied_there m of first n.outputs j lt)))

  pub connected_by : (k : ℕ) (s : Signal) → slice_get of.signals k ≡ Some s → is_port (kind_of s) ≡ true → In (connected_ports (laid.connections m of n)) s.name
  connected_by k s h p =
      let r : slice_get (input_signals of ++ inner_signals of ++ output_signals of) k ≡ Some s = ap (λ l. slice_get l k) (sym ordered.order) ∙ h in
      elim (get_either (input_signals of ++ inner_signals of) (output_signals of) k s r) [
        | inl front ↦ elim (get_either (input_signals of) (inner_signals of) k s front) [
          | inl q ↦ (let l : k < length (input_signals of) = slice_get_within (input_signals of) k s q in tied_input k s h (omega arith))
          | inr q ↦ absurd (no_both (kind_of s) p (get_filtered (λ (x : Signal). is_inner (kind_of x)) of.signals q.at s q.found))
        ]
        | inr q ↦ (let l : q.at < length (output_signals of) = slice_get_within (output_signals of) q.at s q.found in
            let e : k ≡ first_output of + q.at = q.is ∙ ap (λ i. i + q.at) (sym (first_is of ordered)) in
            tied_output q.at s (ap (slice_get of.signals) (sym e) ∙ h) (omega arith))
      ]

  pub port_connected : (p : Port) → In (laid.ports of) p → is_known (connected_ports (laid.connections m of n)) p.name ≡ true
  port_connected p h =
      let f = port_from of p h in
      ap (λ (q : Port). is_known (connected_ports (laid.connections m of n)) q.name) f.is
      ∙ in_holds bytes_eq bytes_eq-Decides (connected_ports (laid.connections m of n)) f.s.name (connected_by f.at f.s f.found f.port)

-- ---- an instance

clock_kind : (t : Signal) → IsPlain t → is_clk t.name ≡ true → is_clock (Some (told_kind t)) ≡ true
clock_kind t p h =
    let e : t.source ≡ source.Input = p.clock h in
    ap (λ f. is_clock (Some (told_kind_by t (kind_by f t.is_output)))) e ∙ ap (λ b. is_clock (Some (if b then kind.Clock else scope.signal class.Input (laid.high_of t.width)))) h

-- an output is no clock
output_no_clock : (s : Signal) → IsPlain s → direction_by (kind_of s) ≡ direction.Output → is_clk s.name ≡ false
output_no_clock s p d = false_from_ne_true (is_clk s.name) (λ h.
    let e : direction.Input ≡ direction.Output = sym (ap (λ f. direction_by (kind_by f s.is_output)) (p.clock h)) ∙ d in absurd (cc))

module _ (sc : Scope) (m : Module) (knows : KnowsNames sc m) (of : Module) (ordered : IsOrdered of) (plain : (k : ℕ) (s : Signal) → slice_get of.signals k ≡ Some s → IsPlain s) where
  input_by : (s : Signal) (x : ℕ) → IsPlain s → (t : Signal) → slice_get m.signals x ≡ Some t → (b : Bool)
      → (if b then sound.is_clk_at m (slice_get m.signals x) else sound.has_width m x s.width) ≡ true
      → (if b then (is_clk t.name && is_clock (scope.kind_of sc t.name)) else rules.has_width sc t.name (scope.width_of (laid.high_of s.width))) ≡ true
  input_by s x p t q true h =
      let clk : is_clk t.name ≡ true = sym (ap (sound.is_clk_at m) q) ∙ h in
      and_both _ _ clk (ap is_clock (knows.signal x t q) ∙ clock_kind t (knows.plain x t q) clk)
  input_by s x p t q false h =
      ap (λ n. rules.has_width sc n (scope.width_of (laid.high_of s.width))) (sym (signal_name_at m x t q))
      ∙ has_is sc m knows x (scope.width_of (laid.high_of s.width)) (slice_get_within m.signals x t q) ∙ ap (sound.has_width m x) (width_of_high s.width p.low p.high) ∙ h

  takes_input : (j x : ℕ) → IsPortAt of j direction.Input → x < length m.signals → ((s : Signal) → slice_get of.signals j ≡ Some s → sound.input_fits m s x ≡ true)
      → rules.takes sc (port_named (laid.ports of) (laid.signal_name of j)) (laid.signal_name m x) ≡ true
  takes_input j x p lt fits =
      let t = get_there m.signals x lt in
      ap (λ o. rules.takes sc o (laid.signal_name m x)) p.named ∙ ap (rules.takes sc (Some (laid.port direction.Input p.s))) (signal_name_at m x t.0 t.1)
      ∙ input_by p.s x (plain j p.s p.at) t.0 t.1 (is_clk p.s.name) (fits p.s p.at)

  takes_output : (k x i port : ℕ) → IsPortAt of k direction.Output → (t : Signal) → slice_get m.signals x ≡ Some t → t.source ≡ source.Port i port
      → ((s : Signal) → slice_get of.signals k ≡ Some s → sound.width m x ≡ s.width)
      → rules.takes sc (port_named (laid.ports of) (laid.signal_name of k)) (laid.signal_name m x) ≡ true
  takes_output k x i port p t q is fits =
      let s = p.s in
      let ps = plain k s p.at in
      let pt = knows.plain x t q in
      let low : 1 ≤ s.width = ps.low in
      let w = scope.width_of (laid.high_of s.width) in
      let w_is : w ≡ s.width = width_of_high s.width ps.low ps.high in
      let clk : is_clk s.name ≡ false = output_no_clock s ps p.direction in
      let t_width : sound.width m x ≡ t.width = ap (sound.width_read m) q ∙ ap (λ b. if b then 0 else t.width) (no_clock_port t i port pt is) in
      let driven : driven_width (scope.kind_of sc t.name) ≡ t.width =
      ap driven_width (knows.signal x t q) ∙ ap (λ f. driven_width (Some (told_kind_by t (kind_by f t.is_output)))) is ∙ driven_by_port t i port pt is t.is_output in
      let same : driven_width (scope.kind_of sc t.name) ≡ w = driven ∙ sym t_width ∙ fits s p.at ∙ sym w_is in
      let positive : nat_lt 0 w ≡ true = (let above : 1 ≤ w = subst (λ (k : ℕ). 1 ≤ k) (sym w_is) low in grind (arith, nat_tests)) in
      ap (λ o. rules.takes sc o (laid.signal_name m x)) p.named ∙ ap (rules.takes sc (Some (laid.port direction.Output s))) (signal_name_at m x t q)
      ∙ ap (λ b. if b then (is_clk t.name && is_clock (scope.kind_of sc t.name)) else (nat_lt 0 w && driven_width (scope.kind_of sc t.name) == w)) clk
      ∙ and_both _ _ positive (eq-eqb _ _ same)

  pub connections_right : (n : Instance) (ins : length n.inputs ≡ length (input_signals of)) (outs : length n.outputs ≡ length (output_signals of)) → ((j x : ℕ)
      → slice_get n.inputs j ≡ Some x → x < length m.signals)
      → ((j x : ℕ) → slice_get n.inputs j ≡ Some x → (s : Signal) → slice_get of.signals j ≡ Some s → sound.input_fits m s x ≡ true)
      → (i : ℕ) → ((j x : ℕ) → slice_get n.outputs j ≡ Some x → (t : Signal) × (slice_get m.signals x ≡ Some t) × (t.source ≡ source.Port i (first_output of + j)))
      → ((j x : ℕ) → slice_get n.outputs j ≡ Some x → (s : Signal) → slice_get of.signals (first_output of + j) ≡ Some s → sound.width m x ≡ s.width)
      → rules.connections_right sc (laid.ports of) (laid.connections m of n) ≡ true
  connections_right n ins outs within fits i drives widths =
      let first : ℕ = length of.signals - length n.outputs in
      let test : Connection → Bool = λ c. rules.takes sc (port_named (laid.ports of) c.port) c.signal in
      and_both _ _ (all_append test (ties m of 0 n.inputs) (ties m of first n.outputs)
      (all_ties m of test 0 n.inputs (λ j x q.
      (let l : j < length n.inputs = slice_get_within n.inputs j x q in
      let e : 0 + j ≡ j = zero-add j in
      ap (λ k. test (laid.tie m of k x)) e ∙ takes_input j x (input_port_at of ordered j (omega arith)) (within j x q) (fits j x q))))
      (all_ties m of test first n.outputs (λ j x q.
      (let l : j < length n.outputs = slice_get_within n.outputs j x q in
      let t = drives j x q in
      ap (λ k. test (laid.tie m of (k + j) x)) (sym (first_same m of ordered n ins outs))
      ∙ takes_output (first_output of + j) x i (first_output of + j) (output_port_at of ordered j (omega arith)) t.0 t.1 t.2 (widths j x q)))))
      (and_both _ _ (distinct m of ordered n ins outs) (all_in (λ (p : Port). is_known (connected_ports (laid.connections m of n)) p.name) (laid.ports of)
      (port_connected m of ordered n ins outs)))
