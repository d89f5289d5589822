-- The numbers of a choice fit the inputs of top.
use Rattle.std.proofs.Common.{◌≡◌, ℕ, suc, ◌+◌, ◌^◌, ◌<◌, Bool, true, false, if◌then◌else◌, List, [], ◌∷◌, length, refl, sym, ap, ◌∙◌, subst, arith}
use Rattle.std.specs.Prelude.{slice_get, codes, All}
use Rattle.std.specs.Str.{bytes_eq}
use Rattle.std.proofs.lemmas.Option.{same_Some}
use Rattle.netlist.specs.declared.netlist.Value.TheVariants.{Copy}
use Rattle.netlist.specs.declared.netlist.Source.TheVariants as source
use Rattle.netlist.specs.declared.netlist.Signal.{Signal}
use Rattle.netlist.specs.declared.netlist.Module.{Module}
use Rattle.netlist.specs.declared.netlist.Netlist.{Netlist}
use Rattle.verilog_meaning.specs.Names.{numbered}
use Rattle.verilog_meaning.specs.Cycles.{Choice, pref_number, choice_number}
use Rattle.verilog_meaning.specs.Threads.{IsChoice}
use Rattle.circuit.specs.Nets.{FitsChoice}
use Rattle.top_parts.specs.declared.layout.Layout.{Layout}
use Rattle.top_parts.specs.declared.wires.Wire.{Wire}
use Rattle.top_parts.specs.declared.wires.Wire.TheVariants.{Whole, Bit, Port}
use Rattle.top_parts.specs.Wires.{source_of}
use Rattle.top_wiring.specs.Top.{done_place}
use Rattle.top_wiring.specs.Wired.{IsWired}
use Rattle.top_wiring.proofs.SignalKinds as signals
use Rattle.top_wiring.proofs.SignalKinds.SignalKind.{clock, mask, chosen, wire, done}

module _ (layout : Layout) (modules : List Module) (n : Netlist) (w : IsWired modules layout n) where
  abbrev T : ℕ
  T = length layout.threads

  either_low : (b : Bool) (p q : ℕ) → p < 64 → q < 64 → (if b then p else q) < 64
  either_low true p q a c = a
  either_low false p q a c = c

  pref_low : (name : List ℕ) (prefs : List ℕ) (k : ℕ) → All (λ p. p < 64) prefs → pref_number name prefs k < 64
  pref_low name [] k all = omega arith
  pref_low name (p ∷ prefs) k all =
      either_low (bytes_eq name (numbered (codes "pref") k)) p (pref_number name prefs (k + 1)) (all 0 p (omega arith))
      (pref_low name prefs (k + 1) (λ j d l. all (suc j) d (omega arith)))

  no_pref : (prefs : List ℕ) (k : ℕ) → pref_number (codes "clk") prefs k ≡ 0
  no_pref [] k = refl
  no_pref (p ∷ prefs) k = no_pref prefs (k + 1)

  wire_no_input : (v : Wire) → source_of v ≡ source.Input → ⊥
  wire_no_input Whole e = cc
  wire_no_input (Bit i) e = cc
  wire_no_input (Port v j q) e = cc

  choice_low : (c : Choice) → IsChoice T c → (x : ℕ) (s : Signal) → s.source ≡ source.Input → signals.SignalKind modules layout x s → choice_number c s.name < 2 ^ s.width
  choice_low c is x s input (clock e q) =
      subst (λ (z : Signal). choice_number c z.name < 2 ^ z.width) (sym q) (let z : choice_number c (codes "clk") ≡ 0 = no_pref c.prefs 0 in subst (λ y. y < 2 ^ 1) (sym z) (omega arith))
  choice_low c is x s input (mask e q) = subst (λ (z : Signal). choice_number c z.name < 2 ^ z.width) (sym q) is.0
  choice_low c is x s input (chosen k l e q) =
      subst (λ (z : Signal). choice_number c z.name < 2 ^ z.width) (sym q) (pref_low (numbered (codes "pref") k) c.prefs 0 is.1)
  choice_low c is x s input (wire y v f e q) = absurd (wire_no_input v (ap (λ (z : Signal). z.source) (sym q) ∙ input))
  choice_low c is x s input (done e q) = let z : source.Assigned (Copy (done_place modules layout)) ≡ source.Input = ap (λ (z : Signal). z.source) (sym q) ∙ input in absurd cc

  pub choice_fits : (c : Choice) → IsChoice T c → FitsChoice n.modules w.top c
  choice_fits c is m x s at input =
      let same : w.top ≡ m = same_Some w.top m at.stands in
      choice_low c is x s input (signals.signal_kind modules layout w.top w.is_top x s (ap (λ (z : Module). slice_get z.signals x) same ∙ at.listed))
