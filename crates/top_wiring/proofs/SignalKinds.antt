-- Each signal of top is the clock, the mask, a preference, a wire or done.
use Rattle.std.proofs.Common.{◌≡◌, ℕ, zero, suc, ◌+◌, ◌≢◌, ◌<◌, Bool, true, false, nat_eq, if◌then◌else◌, List}
use Rattle.std.proofs.Common.{[], ◌∷◌, ◌++◌, length, Some, refl, sym, ap, ◌∙◌, inl, inr, arith, zero-add, length-append}
use Rattle.std.specs.Prelude.{slice_get, slice_index, codes}
use Rattle.std.proofs.lemmas.Bool.Decides.{nat_tests}
use Rattle.std.proofs.lemmas.Option.{same_Some, none-some}
use Rattle.netlist.specs.declared.netlist.Signal.{Signal}
use Rattle.netlist.specs.declared.netlist.Module.{Module}
use Rattle.circuit.specs.Rows.{spread}
use Rattle.top_parts.specs.declared.layout.Layout.{Layout}
use Rattle.top_parts.specs.declared.parts.Part.{Part}
use Rattle.top_parts.specs.declared.wires.Wire.{Wire}
use Rattle.top_parts.specs.declared.wires.Wire.TheVariants.{Whole, Bit, Port}
use Rattle.top_parts.specs.Parts.{each_from, parts}
use Rattle.top_parts.specs.Wires.{first_port, port_wire, ports, enables, blocks, wire_signal}
use Rattle.top_wiring.specs.Top.{input, preference, output, starts, all_wires, done_place, IsTop}
use Rattle.top_parts.proofs.GrownLists.{length-each_from}
use Rattle.top_wiring.proofs.Lists.{get_either, each_back, spread_back, flat_from_back, IsBehind}
use Rattle.top_wiring.proofs.TopPlaces as standing

module _ (modules : List Module) (layout : Layout) where
  abbrev T : ℕ
  T = length layout.threads

  abbrev K : ℕ
  K = length layout.cores

  pub data SignalKind (x : ℕ) (s : Signal) : Type 0 where
    clock : x ≡ 0 → s ≡ input (codes "clk") 1 → SignalKind x s
    mask : x ≡ 1 → s ≡ input (codes "en") T → SignalKind x s
    chosen : (k : ℕ) → k < K → x ≡ 2 + k → s ≡ preference k → SignalKind x s
    wire : (y : ℕ) (v : Wire) → slice_get (all_wires modules layout) y ≡ Some v → x ≡ 2 + K + y → s ≡ wire_signal x v → SignalKind x s
    done : x ≡ 2 + K + length (all_wires modules layout) → s ≡ output (done_place modules layout) → SignalKind x s

  pub data WireKind (y : ℕ) (v : Wire) : Type 0 where
    whole : T ≡ 1 → y ≡ 0 → v ≡ Whole → WireKind y v
    bit : T ≢ 1 → y < T → v ≡ Bit y → WireKind y v
    port : (j : ℕ) (p : Part) (x w : ℕ) → slice_get (parts layout) j ≡ Some p → slice_get p.outputs x ≡ Some w → v ≡ Port w j (first_port modules p + x)
        → 2 + K + y ≡ slice_index (starts modules layout) j + x → WireKind y v

  enable_kind : (y : ℕ) (v : Wire) (b : Bool) → nat_eq T 1 ≡ b → slice_get (if b then Whole ∷ [] else spread Bit 0 T) y ≡ Some v → WireKind y v
  enable_kind zero v true e h = whole (let q : T ≡ 1 = grind (arith, nat_tests) in q) refl (sym (same_Some Whole v h))
  enable_kind (suc y) v true e h = absurd (none-some v h)
  enable_kind y v false e h = let b = spread_back Bit 0 T y v h in bit (let q : T ≢ 1 = grind (arith, nat_tests) in q) b.0 (b.1 ∙ ap Bit (zero-add y))

  module _ (top : Module) (is : IsTop modules layout top) where
    block_kind : (y at : ℕ) (v : Wire) → y ≡ T + at → slice_get (blocks modules (parts layout)) at ≡ Some v → WireKind y v
    block_kind y at v e h =
        let m = flat_from_back (ports modules) 0 (parts layout) at v h in
        let b = each_back (port_wire (0 + m.number) (first_port modules m.item)) 0 m.item.outputs m.rest v m.found in
        let s = standing.start_is modules layout top is m.number m.item m.listed in
        let place = m.place in
        port m.number m.item m.rest b.0 m.listed b.1
        (b.2 ∙ ap (λ z. Port b.0 z (first_port modules m.item + (0 + m.rest))) (zero-add m.number) ∙ ap (λ z. Port b.0 m.number (first_port modules m.item + z)) (zero-add m.rest))
        (omega arith)

    pub wire_kind : (y : ℕ) (v : Wire) → slice_get (all_wires modules layout) y ≡ Some v → WireKind y v
    wire_kind y v h = elim (get_either (enables T) (blocks modules (parts layout)) y v h) [
      | inl g ↦ enable_kind y v (nat_eq T 1) refl g
      | inr g ↦ block_kind y g.at v (g.is ∙ ap (λ z. z + g.at) (standing.length-enables T)) g.found
    ]

    abbrev heads : List Signal
    heads = input (codes "clk") 1 ∷ input (codes "en") T ∷ []

    abbrev inputs : List Signal
    inputs = heads ++ spread preference 0 K

    abbrev inners : List Signal
    inners = each_from wire_signal (2 + K) (all_wires modules layout)

    head_kind : (x : ℕ) (s : Signal) → slice_get heads x ≡ Some s → SignalKind x s
    head_kind zero s h = clock refl (sym (same_Some (input (codes "clk") 1) s h))
    head_kind (suc zero) s h = mask refl (sym (same_Some (input (codes "en") T) s h))
    head_kind (suc (suc x)) s h = absurd (none-some s h)

    input_kind : (x : ℕ) (s : Signal) → slice_get inputs x ≡ Some s → SignalKind x s
    input_kind x s h = elim (get_either heads (spread preference 0 K) x s h) [
      | inl g ↦ head_kind x s g
      | inr g ↦ let b = spread_back preference 0 K g.at s g.found in chosen g.at b.0 g.is (b.1 ∙ ap preference (zero-add g.at))
    ]

    inner_kind : (x : ℕ) (s : Signal) → IsBehind (length inputs) inners x s → SignalKind x s
    inner_kind x s g =
        let b = each_back wire_signal (2 + K) (all_wires modules layout) g.at s g.found in
        let e : x ≡ 2 + K + g.at = g.is ∙ ap (λ z. z + g.at) (standing.length-inputs modules layout top is) in
        wire g.at b.0 b.1 e (b.2 ∙ ap (λ z. wire_signal z b.0) (sym e))

    last_kind : (x : ℕ) (s : Signal) → IsBehind (length (inputs ++ inners)) (output (done_place modules layout) ∷ []) x s → SignalKind x s
    last_kind x s g = done (g.is ∙ ap (λ z. z + g.at) n ∙ (let q = only g.at g.found in omega arith)) (at g.at g.found)
      where
        n : length (inputs ++ inners) ≡ 2 + K + length (all_wires modules layout)
        n =
            let a = length-append inputs inners in
            let b = standing.length-inputs modules layout top is in
            let c = length-each_from wire_signal (2 + K) (all_wires modules layout) in
            omega arith

        only : (y : ℕ) → slice_get (output (done_place modules layout) ∷ []) y ≡ Some s → y ≡ 0
        only zero h = refl
        only (suc y) h = absurd (none-some s h)

        at : (y : ℕ) → slice_get (output (done_place modules layout) ∷ []) y ≡ Some s → s ≡ output (done_place modules layout)
        at zero h = sym (same_Some (output (done_place modules layout)) s h)
        at (suc y) h = absurd (none-some s h)

    pub signal_kind : (x : ℕ) (s : Signal) → slice_get top.signals x ≡ Some s → SignalKind x s
    signal_kind x s h =
        elim (get_either (inputs ++ inners) (output (done_place modules layout) ∷ []) x s (ap (λ l. slice_get l x) (sym is.signals) ∙ h)) [
          | inl g ↦ elim (get_either inputs inners x s g) [
            | inl f ↦ input_kind x s f
            | inr f ↦ inner_kind x s f
          ]
          | inr g ↦ last_kind x s g
        ]
