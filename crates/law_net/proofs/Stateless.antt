-- Arbiters and the outermost module hold nothing.
use Rattle.std.proofs.Common.{◌≡◌, ℕ, zero, suc, ◌+◌, List, [], ◌∷◌, ◌++◌, length, Some, slice_get, sym, ap, ◌∙◌, subst}
use Rattle.netlist.specs.declared.netlist.Signal.{Signal}
use Rattle.netlist.specs.declared.netlist.Module.{Module}
use Rattle.verilog_meaning.specs.Cycles.{IsRegister}
use Rattle.circuit.specs.Rows.{EachOf, spread}
use Rattle.bank_arbiter.specs.Arbiter.{IsArbiter}
use Rattle.bank_arbiter.proofs.Stateless.{no_register}
use Rattle.top_parts.specs.declared.layout.Layout.{Layout}
use Rattle.top_parts.specs.declared.wires.Wire.{Wire}
use Rattle.top_parts.specs.declared.wires.Wire.TheVariants.{Whole, Bit, Port}
use Rattle.top_wiring.specs.Parts.{each_from}
use Rattle.top_wiring.specs.Wires.{wire_signal}
use Rattle.top_wiring.specs.Top.{preference, output, all_wires, done_place, IsTop}
use Rattle.law_net.specs.Steady.{HoldsNothing}

abbrev IsNoRegister : Signal → Type 0
IsNoRegister s = IsRegister s.source → ⊥

one_of : (ss : List Signal) (x : ℕ) (s : Signal) → EachOf IsNoRegister ss → slice_get ss x ≡ Some s → IsNoRegister s
one_of [] x s f e = absurd cc
one_of (t ∷ ss) zero s f e = let same : t ≡ s = cc in subst IsNoRegister same f.0
one_of (t ∷ ss) (suc x) s f e = one_of ss x s f.1 e

joined : (ss ts : List Signal) → EachOf IsNoRegister ss → EachOf IsNoRegister ts → EachOf IsNoRegister (ss ++ ts)
joined [] ts f g = g
joined (s ∷ ss) ts f g = (f.0, joined ss ts f.1 g)

spread_each : (f : ℕ → Signal) (i n : ℕ) → ((k : ℕ) → IsNoRegister (f k)) → EachOf IsNoRegister (spread f i n)
spread_each f i zero h = tt
spread_each f i (suc n) h = (h i, spread_each f (i + 1) n h)

-- ---- the arbiter

pub arbiter_holds : (n : ℕ) (m : Module) → IsArbiter n m → HoldsNothing m
arbiter_holds n m is = record { registers = no_register n m is; memories = is.memories }

-- ---- the outermost module

wire_is : (place : ℕ) (w : Wire) → IsNoRegister (wire_signal place w)
wire_is place Whole i = i
wire_is place (Bit b) i = i
wire_is place (Port w j q) i = i

wires_each : (place : ℕ) (ws : List Wire) → EachOf IsNoRegister (each_from wire_signal place ws)
wires_each place [] = tt
wires_each place (w ∷ ws) = (wire_is place w, wires_each (place + 1) ws)

pub top_holds : (modules : List Module) (layout : Layout) (m : Module) → IsTop modules layout m → HoldsNothing m
top_holds modules layout m is = record {
  registers = λ x s e.
      let K = length layout.cores in
      let wires = each_from wire_signal (2 + K) (all_wires modules layout) in
      let last = output (done_place modules layout) ∷ [] in
      one_of m.signals x s
      (subst (EachOf IsNoRegister) (sym is.signals) (
        (λ i. i),
        (
          (λ i. i),
          joined (spread preference 0 K ++ wires) last
              (joined (spread preference 0 K) wires (spread_each preference 0 K (λ k i. i)) (wires_each (2 + K) (all_wires modules layout))) ((λ i. i), tt),
        ),
      )) e;
  memories = is.memories;
}
