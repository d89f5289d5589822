-- The module top_rr as a wrapper of top: its own numbers, and what it gives top.
use Rattle.std.proofs.Common.{◌≡◌, ℕ, zero, suc, ◌+◌, ◌-◌, ◌*◌, ◌%◌, ◌^◌, ◌<◌, ◌≤◌, Bool, true, false, if◌then◌else◌, List, [], ◌∷◌, ◌++◌, length, get_or, replicate, Some}
use Rattle.std.proofs.Common.{refl, sym, ap, ◌∙◌, subst, arith, add-zero, zero-add, zero-mul}
use Rattle.std.specs.Prelude.{slice_get, codes}
use Rattle.std.specs.Str.{bytes_eq}
use Rattle.std.proofs.lemmas.Option.{same_Some, none-some}
use Rattle.std.proofs.lemmas.Slice.Eq.{bytes_eq-Decides}
use Rattle.lists.proofs.Places.{get_front, get_back, copies_there}
use Rattle.hls_ints.specs.Words.{word_sum}
use Rattle.verilog_tree.specs.declared.tree.BinaryOperator.TheVariants.{Add}
use Rattle.netlist.specs.declared.netlist.Value.TheVariants.{Copy, Constant, Binary, Concatenation}
use Rattle.netlist.specs.declared.netlist.Source.TheVariants as source
use Rattle.netlist.specs.declared.netlist.Signal.{Signal}
use Rattle.netlist.specs.declared.netlist.Instance.{Instance}
use Rattle.netlist.specs.declared.netlist.Module.{Module}
use Rattle.netlist.specs.declared.netlist.Netlist.{Netlist}
use Rattle.verilog_meaning.specs.Names.{numbered}
use Rattle.verilog_meaning.specs.Readings.{signal_width, width, or_zero, written, register_after, action_bytes}
use Rattle.verilog_meaning.specs.Cycles.{Valuation, Choice, IsRegister, instance_at, connected, pref_number, choice_number, number, IsAt, IsSettled, next_state}
use Rattle.sim_layout.specs.Rounds.{round}
use Rattle.top_parts.specs.declared.layout.Layout.{Layout}
use Rattle.top_parts.specs.declared.wires.Wire.{Wire}
use Rattle.top_parts.specs.declared.wires.Wire.TheVariants as wires
use Rattle.top_wiring.specs.Wires.{source_of, wire_signal}
use Rattle.top_wiring.specs.Top.{input, preference, output, all_wires, done_place}
use Rattle.top_wiring.specs.Round.{inner, round_signals, top_instance}
use Rattle.top_wiring.specs.Wired.{IsWired}
use Rattle.top_wiring.proofs.Lists.{get_behind}
use Rattle.top_wiring.proofs.TopPlaces as standing
use Rattle.top_wiring.proofs.SignalKinds as signals
use Rattle.top_wiring.proofs.SignalKinds.SignalKind.{clock, mask, chosen, wire, done}
use Rattle.law_net.proofs.Paths.{IsWrapper}
use Rattle.law_net.proofs.Insides.{IsFed}

-- ---- the numbers of a choice by name

pub no_pref : (prefs : List ℕ) (k : ℕ) → pref_number (codes "clk") prefs k ≡ 0
no_pref [] k = refl
no_pref (p ∷ prefs) k = no_pref prefs (k + 1)

either_same : (b : Bool) (p q : ℕ) → q ≡ p → (if b then p else q) ≡ p
either_same true p q e = refl
either_same false p q e = e

-- where all prefs are one number, so is that of each of their names
pref_is : (name : List ℕ) (p n from j : ℕ) → name ≡ numbered (codes "pref") (from + j) → j < n → pref_number name (replicate n p) from ≡ p
pref_is name p zero from j e l = absurd (omega arith)
pref_is name p (suc n) from zero e l =
    let there : name ≡ numbered (codes "pref") from = e ∙ ap (numbered (codes "pref")) (add-zero from) in
    ap (λ (b : Bool). if b then p else pref_number name (replicate n p) (from + 1)) ((bytes_eq-Decides name (numbered (codes "pref") from)).1 there)
pref_is name p (suc n) from (suc j) e l =
    let next : from + suc j ≡ from + 1 + j = omega arith in
    either_same (bytes_eq name (numbered (codes "pref") from)) p (pref_number name (replicate n p) (from + 1))
    (pref_is name p n (from + 1) j (e ∙ ap (numbered (codes "pref")) next) (omega arith))

-- ---- names that begin differently

first_differs : (x y : List ℕ) (a b : ℕ) → get_or x 0 0 ≡ a → get_or y 0 0 ≡ b → (a ≡ b → ⊥) → x ≡ y → ⊥
first_differs x y a b e f h g = h (sym e ∙ ap (λ z. get_or z 0 0) g ∙ f)

other_than_done : (first : Signal) (s : Signal) (a : ℕ) → get_or first.name 0 0 ≡ a → (a ≡ 100 → ⊥) → first ≡ s → s.name ≡ codes "done" → ⊥
other_than_done first s a e differs same q = first_differs first.name (codes "done") a 100 e refl differs (ap (λ (z : Signal). z.name) same ∙ q)

module _ (layout : Layout) (modules : List Module) (n : Netlist) (w : IsWired modules layout n) where
  abbrev pub T : ℕ
  T = length layout.threads

  abbrev pub K : ℕ
  K = length layout.cores

  -- the last signal of top
  abbrev pub last : ℕ
  last = length w.top.signals - 1

  abbrev pub laid : List Signal
  laid = round_signals T last

  pub own_at : (x : ℕ) (s : Signal) → slice_get laid x ≡ Some s → IsAt n.modules w.round [] w.round x s
  own_at x s e = record { stands = refl; listed = ap (λ (l : List Signal). slice_get l x) w.is_round.signals ∙ e }

  pub laid_at : (x : ℕ) (s : Signal) → slice_get w.round.signals x ≡ Some s → slice_get laid x ≡ Some s
  laid_at x s e = ap (λ (l : List Signal). slice_get l x) (sym w.is_round.signals) ∙ e

  pub wrapped : IsWrapper n.modules w.round w.top
  wrapped = record {
    instance = top_instance (length modules) K;
    only = w.is_round.instances;
    of =
        ap (λ (l : List Module). slice_get l (length modules)) w.are
        ∙ get_front (modules ++ w.top ∷ []) (w.round ∷ []) (length modules) w.top
        (ap (slice_get (modules ++ w.top ∷ [])) (sym (add-zero (length modules))) ∙ get_back modules (w.top ∷ []) 0 w.top refl);
  }

  -- ---- done, the last signal of top

  pub done_stands : slice_get w.top.signals last ≡ Some (output (done_place modules layout))
  done_stands =
      let many = standing.length-signals modules layout w.top w.is_top in
      let e : 2 + K + length (all_wires modules layout) ≡ last = omega arith in
      subst (λ (z : ℕ). slice_get w.top.signals z ≡ Some (output (done_place modules layout))) e (standing.output_stands modules layout w.top w.is_top)

  -- no other signal of top has its name
  pub top_done : (x : ℕ) (s : Signal) → s.name ≡ codes "done" → signals.SignalKind modules layout x s → x ≡ last
  top_done x s q (clock e h) = absurd (other_than_done (input (codes "clk") 1) s 99 refl (λ z. omega arith) (sym h) q)
  top_done x s q (mask e h) = absurd (other_than_done (input (codes "en") T) s 101 refl (λ z. omega arith) (sym h) q)
  top_done x s q (chosen k l e h) = absurd (other_than_done (preference k) s 112 refl (λ z. omega arith) (sym h) q)
  top_done x s q (wire y v l e h) = absurd (other_than_done (wire_signal x v) s 119 refl (λ z. omega arith) (sym h) q)
  top_done x s q (done e h) = let many = standing.length-signals modules layout w.top w.is_top in omega arith

  -- nor does another of top_rr
  pub own_done : (x : ℕ) (s : Signal) → slice_get laid x ≡ Some s → s.name ≡ codes "done" → x ≡ 8
  own_done zero s e q = absurd (other_than_done _ s 99 refl (λ z. omega arith) (same_Some _ s e) q)
  own_done (suc zero) s e q = absurd (other_than_done _ s 99 refl (λ z. omega arith) (same_Some _ s e) q)
  own_done (suc (suc zero)) s e q = absurd (other_than_done _ s 119 refl (λ z. omega arith) (same_Some _ s e) q)
  own_done (suc (suc (suc zero))) s e q = absurd (other_than_done _ s 119 refl (λ z. omega arith) (same_Some _ s e) q)
  own_done (suc (suc (suc (suc zero)))) s e q = absurd (other_than_done _ s 119 refl (λ z. omega arith) (same_Some _ s e) q)
  own_done (suc (suc (suc (suc (suc zero))))) s e q = absurd (other_than_done _ s 119 refl (λ z. omega arith) (same_Some _ s e) q)
  own_done (suc (suc (suc (suc (suc (suc zero)))))) s e q = absurd (other_than_done _ s 119 refl (λ z. omega arith) (same_Some _ s e) q)
  own_done (suc (suc (suc (suc (suc (suc (suc zero))))))) s e q = absurd (other_than_done _ s 119 refl (λ z. omega arith) (same_Some _ s e) q)
  own_done (suc (suc (suc (suc (suc (suc (suc (suc zero)))))))) s e q = refl
  own_done (suc (suc (suc (suc (suc (suc (suc (suc (suc x))))))))) s e q = absurd (none-some s e)

  -- the counter is its one register
  pub own_register : (x : ℕ) (s : Signal) → slice_get laid x ≡ Some s → IsRegister s.source → x ≡ 1
  own_register zero s e is = absurd (subst (λ (z : Signal). IsRegister z.source) (sym (same_Some _ s e)) is)
  own_register (suc zero) s e is = refl
  own_register (suc (suc zero)) s e is = absurd (subst (λ (z : Signal). IsRegister z.source) (sym (same_Some _ s e)) is)
  own_register (suc (suc (suc zero))) s e is = absurd (subst (λ (z : Signal). IsRegister z.source) (sym (same_Some _ s e)) is)
  own_register (suc (suc (suc (suc zero)))) s e is = absurd (subst (λ (z : Signal). IsRegister z.source) (sym (same_Some _ s e)) is)
  own_register (suc (suc (suc (suc (suc zero))))) s e is = absurd (subst (λ (z : Signal). IsRegister z.source) (sym (same_Some _ s e)) is)
  own_register (suc (suc (suc (suc (suc (suc zero)))))) s e is = absurd (subst (λ (z : Signal). IsRegister z.source) (sym (same_Some _ s e)) is)
  own_register (suc (suc (suc (suc (suc (suc (suc zero))))))) s e is = absurd (subst (λ (z : Signal). IsRegister z.source) (sym (same_Some _ s e)) is)
  own_register (suc (suc (suc (suc (suc (suc (suc (suc zero)))))))) s e is = absurd (subst (λ (z : Signal). IsRegister z.source) (sym (same_Some _ s e)) is)
  own_register (suc (suc (suc (suc (suc (suc (suc (suc (suc x))))))))) s e is = absurd (none-some s e)

  -- ---- the numbers of top_rr in a settled valuation

  -- a number behind zeros is itself
  pub behind_zeros : (a b p : ℕ) → (0 * a + 0) * b + p ≡ p
  behind_zeros a b p = ap (λ z. (z + 0) * b + p) (zero-mul a) ∙ ap (λ z. z + p) (zero-mul b) ∙ zero-add p

  pub four : width w.round 1 ≡ 4
  four = ap (λ (l : List Signal). signal_width (slice_get l 1)) w.is_round.signals

  module _ (h v : Valuation) (c : Choice) (settled : IsSettled n.modules w.round h c v) where
    own : (x : ℕ) (s : Signal) → slice_get laid x ≡ Some s → (v []).signal x ≡ number n.modules w.round h c v [] w.round x s s.source
    own x s e = settled.signals [] w.round x s (own_at x s e)

    pub clock_is : (v []).signal 0 ≡ 0
    clock_is = own 0 (input (codes "clk") 1) refl ∙ no_pref c.prefs 0

    pub counter_is : (v []).signal 1 ≡ (h []).signal 1
    counter_is = own 1 (inner (codes "counter") 1 4 (source.Register 0)) refl

    one_is : (v []).signal 2 ≡ 1
    one_is = own 2 (inner (codes "w") 2 4 (source.Assigned (Constant 1))) refl

    pub next_is : (v []).signal 3 ≡ ((h []).signal 1 + 1) % 16
    next_is =
        own 3 (inner (codes "w") 3 4 (source.Assigned (Binary Add 1 2))) refl
        ∙ ap (λ (z : ℕ). word_sum z ((v []).signal 1) ((v []).signal 2)) four
        ∙ ap (λ (z : ℕ). word_sum 4 z ((v []).signal 2)) counter_is
        ∙ ap (λ (z : ℕ). word_sum 4 ((h []).signal 1) z) one_is

    pub mask_is : (v []).signal 4 ≡ 2 ^ T - 1
    mask_is = own 4 (inner (codes "w") 4 T (source.Assigned (Constant (2 ^ T - 1)))) refl

    zeros_are : (v []).signal 6 ≡ 0
    zeros_are = own 6 (inner (codes "w") 6 2 (source.Assigned (Constant 0))) refl

    -- the preferred thread is the counter
    pub preferred_is : (v []).signal 7 ≡ (h []).signal 1
    preferred_is =
        own 7 (inner (codes "w") 7 6 (source.Assigned (Concatenation (6 ∷ 1 ∷ [])))) refl
        ∙ ap (λ z. (0 * 2 ^ width w.round 6 + z) * 2 ^ width w.round 1 + (v []).signal 1) zeros_are
        ∙ behind_zeros (2 ^ width w.round 6) (2 ^ width w.round 1) ((v []).signal 1)
        ∙ counter_is

    -- done is what the instance shows
    pub done_is : (v []).signal 8 ≡ (v (0 ∷ [])).signal last
    done_is = own 8 (output 5) refl ∙ own 5 (inner (codes "w") 5 1 (source.Port 0 last)) refl

  -- ---- an edge

  pub counts : (v : Valuation) → (next_state n.modules w.round v []).signal 1 ≡ (v []).signal 3
  counts v = ap (λ l. register_after (v []) l 1 ((v []).signal 1)) w.is_round.actions

  pub silent : (v : Valuation) → written w.round (v []) ≡ []
  silent v = ap (action_bytes w.round (v [])) w.is_round.actions

  -- ---- what top gets

  fed_by : (x y : ℕ) → slice_get (0 ∷ 4 ∷ [] ++ replicate K 7) x ≡ Some y → connected n.modules w.round (instance_at n.modules w.round [] 0) x ≡ y
  fed_by x y e = ap (λ (ns : List Instance). connected n.modules w.round (slice_get ns 0) x) w.is_round.instances ∙ ap or_zero e

  wire_no_input : (v : Wire) → source_of v ≡ source.Input → ⊥
  wire_no_input wires.Whole e = cc
  wire_no_input (wires.Bit i) e = cc
  wire_no_input (wires.Port v j q) e = cc

  module _ (prefs : ℕ) (enough : K ≤ prefs) (v : Valuation) (k : ℕ)
      (at_clock : (v []).signal 0 ≡ 0) (at_preferred : (v []).signal 7 ≡ k % 16) (at_mask : (v []).signal 4 ≡ 2 ^ T - 1) where
    abbrev turn : Choice
    turn = round T prefs k

    abbrev Gets : ℕ → Signal → Type 0
    Gets x s = (v []).signal (connected n.modules w.round (instance_at n.modules w.round [] 0) x) ≡ choice_number turn s.name

    gets : (x y number : ℕ) (s t : Signal) → slice_get (0 ∷ 4 ∷ [] ++ replicate K 7) x ≡ Some y → (v []).signal y ≡ number → choice_number turn t.name ≡ number → s ≡ t → Gets x s
    gets x y number s t place is given same = ap (v []).signal (fed_by x y place) ∙ is ∙ sym given ∙ ap (λ (z : Signal). choice_number turn z.name) (sym same)

    by_kind : (x : ℕ) (s : Signal) → s.source ≡ source.Input → signals.SignalKind modules layout x s → Gets x s
    by_kind x s i (clock e q) =
        gets x 0 0 s (input (codes "clk") 1) (ap (slice_get (0 ∷ 4 ∷ [] ++ replicate K 7)) e) at_clock (no_pref (replicate prefs (k % 16)) 0) q
    by_kind x s i (mask e q) = gets x 4 (2 ^ T - 1) s (input (codes "en") T) (ap (slice_get (0 ∷ 4 ∷ [] ++ replicate K 7)) e) at_mask refl q
    by_kind x s i (chosen j l e q) =
        let name = numbered (codes "pref") j in
        let few : j < prefs = omega (arith, l, enough) in
        let place : slice_get (0 ∷ 4 ∷ [] ++ replicate K 7) x ≡ Some 7 =
        ap (slice_get (0 ∷ 4 ∷ [] ++ replicate K 7)) e ∙ get_behind 2 (0 ∷ 4 ∷ []) (replicate K 7) j 7 refl (copies_there K 7 j l) in
        gets x 7 (k % 16) s (input name 6) place at_preferred (pref_is name (k % 16) prefs 0 j (ap (numbered (codes "pref")) (sym (zero-add j))) few) q
    by_kind x s i (wire y v' f e q) = absurd (wire_no_input v' (ap (λ (z : Signal). z.source) (sym q) ∙ i))
    by_kind x s i (done e q) = let z : source.Assigned (Copy (done_place modules layout)) ≡ source.Input = ap (λ (z : Signal). z.source) (sym q) ∙ i in absurd cc

    pub is_fed : IsFed n.modules w.round w.top wrapped v turn
    is_fed x s e i = by_kind x s i (signals.signal_kind modules layout w.top w.is_top x s e)
