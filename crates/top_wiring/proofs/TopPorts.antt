-- The ports of top.
use Rattle.std.proofs.Common.{◌≡◌, ℕ, ◌+◌, ◌<◌, ◌⊎◌, true, false, List, length, ap, subst, refl, inl, inr, ⊎_elim, Some}
use Rattle.std.specs.Prelude.{slice_get, codes}
use Rattle.netlist.specs.declared.netlist.Source.TheVariants.{Input}
use Rattle.netlist.specs.declared.netlist.Signal.{Signal}
use Rattle.netlist.specs.declared.netlist.Module.{Module}
use Rattle.verilog_meaning.specs.Names.{numbered}
use Rattle.verilog_meaning.specs.Ports.{HasPorts}
use Rattle.top_parts.specs.declared.layout.Layout.{Layout}
use Rattle.top_parts.specs.declared.wires.Wire.{Wire}
use Rattle.top_parts.specs.declared.wires.Wire.TheVariants.{Whole, Bit, Port}
use Rattle.top_parts.specs.Wires.{source_of, wire_signal}
use Rattle.top_wiring.specs.Top.{input, preference, output, all_wires, done_place, IsTop}
use Rattle.top_wiring.proofs.SignalKinds as signals
use Rattle.top_wiring.proofs.SignalKinds.SignalKind.{clock, mask, chosen, wire, done}
use Rattle.top_wiring.proofs.TopPlaces as standing

module _ (layout : Layout) (modules : List Module) (top : Module) (is : IsTop modules layout top) where
  abbrev T : ℕ
  T = length layout.threads

  abbrev K : ℕ
  K = length layout.cores

  abbrev IsPort : Signal → Type 0
  IsPort s = (s.source ≡ Input) ⊎ (s.is_output ≡ true)

  wire_no_input : (v : Wire) → source_of v ≡ Input → ⊥
  wire_no_input Whole e = cc
  wire_no_input (Bit i) e = cc
  wire_no_input (Port v j q) e = cc

  wire_no_port : (place : ℕ) (v : Wire) → IsPort (wire_signal place v) → ⊥
  wire_no_port place v port = ⊎_elim (wire_no_input v) (λ (out : false ≡ true). cc) port

  abbrev IsNamed : Signal → Type 0
  IsNamed s = (s.name ≡ codes "clk") ⊎ ((s.name ≡ codes "en") ⊎ ((s.name ≡ codes "done") ⊎ ((k : ℕ) × (k < K) × (s.name ≡ numbered (codes "pref") k))))

  named : (x : ℕ) (s : Signal) → IsPort s → signals.SignalKind modules layout x s → IsNamed s
  named x s port (clock e q) = inl (ap (λ (z : Signal). z.name) q)
  named x s port (mask e q) = inr (inl (ap (λ (z : Signal). z.name) q))
  named x s port (chosen k l e q) = inr (inr (inr (k, l, ap (λ (z : Signal). z.name) q)))
  named x s port (wire y v f e q) = absurd (wire_no_port x v (subst IsPort q port))
  named x s port (done e q) = inr (inr (inl (ap (λ (z : Signal). z.name) q)))

  pub has_ports : HasPorts top T
  has_ports = record {
    clock = record {
      place = 0;
      signal = input (codes "clk") 1;
      is = record { listed = standing.clock_stands modules layout top is; named = refl };
      input = refl;
      wide = refl;
    };
    enable = record {
      place = 1;
      signal = input (codes "en") T;
      is = record { listed = standing.mask_stands modules layout top is; named = refl };
      input = refl;
      wide = refl;
    };
    done = record {
      place = 2 + K + length (all_wires modules layout);
      signal = output (done_place modules layout);
      is = record { listed = standing.output_stands modules layout top is; named = refl };
      out = refl;
      bit = refl;
    };
    arbiters = K;
    prefs = λ k l. record {
      place = 2 + k;
      signal = preference k;
      is = record { listed = standing.preference_stands modules layout top is k l; named = refl };
      input = refl;
      wide = refl;
    };
    only = λ x s e port. named x s port (signals.signal_kind modules layout top is x s e);
  }

  pub prefs_are : has_ports.arbiters ≡ K
  unfolding has_ports
  prefs_are = refl
