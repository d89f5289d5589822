-- Each change of a slot toggles its beat, in a net of threads that keep to themselves.
use Rattle.std.proofs.Common.{◌≡◌, ◌≢◌, ◌⊎◌, ℕ, zero, suc, ◌+◌, ◌^◌, ◌<◌, List, [], ◌∷◌, sym, ap, ◌∙◌, subst, inl, inr, ⊎_elim, arith}
use Rattle.std.proofs.lemmas.Bool.Decides.{nat_tests}
use Rattle.netlist.specs.declared.netlist.Module.{Module}
use Rattle.verilog_meaning.specs.Readings.{Reading, next_reading}
use Rattle.verilog_meaning.specs.Cycles.{Path, Valuation, Choice, Cycle}
use Rattle.verilog_meaning.specs.Threads.{slot, IsSameSlot}
use Rattle.circuit.specs.Rows.{EachOf}
use Rattle.circuit.specs.Modules.{FitsAction}
use Rattle.circuit.specs.Machines.{CoreMachine, ThreadMachine}
use Rattle.circuit.specs.Wiring.{NetPlaces}
use Rattle.circuit.proofs.States.{register_fits}
use Rattle.law_net.specs.Steady.{IsSteady}
use Rattle.law_net.proofs.RestingCycle.{edge_is, stays_by}
use Rattle.law_net.proofs.Fields.{own_obeys, own_holds, slot_of}
use Rattle.law_cycle.specs.Bodies.{TurnsBeat}

-- two bits that differ
bits_differ : (x y : ℕ) → x < 2 → y < 2 → x ≢ y → x + y ≡ 1
bits_differ zero zero a b d = absurd (d refl_zero)
  where
    refl_zero : zero ≡ zero
    refl_zero = omega arith
bits_differ zero (suc zero) a b d = omega arith
bits_differ (suc zero) zero a b d = omega arith
bits_differ (suc zero) (suc zero) a b d = absurd (d (omega arith))
bits_differ x (suc (suc y)) a b d = absurd (omega arith)
bits_differ (suc (suc x)) y a b d = absurd (omega arith)

module _ (threads cores : ℕ) (T : ℕ → ThreadMachine) (C : ℕ → CoreMachine) (p : NetPlaces threads cores T C) (modules : List Module) (top : Module)
    (steady : IsSteady threads cores T C p modules top) (i : ℕ) (l : i < threads) (place : ℕ) (turning : TurnsBeat (steady.net.threads_stand i l).0 place)
    (acts : EachOf (FitsAction (steady.net.threads_stand i l).0) (steady.net.threads_stand i l).0.actions) (h g : Valuation) (c : Choice) (out : List ℕ)
    (cycle : Cycle modules top h c g out) where
  abbrev own : Module
  own = (steady.net.threads_stand i l).0

  abbrev path : Path
  path = p.thread_at i ∷ []

  abbrev r : Reading
  r = cycle.through path

  now_is : (h path).signal place ≡ r.signal place
  now_is = (own_holds threads cores T C p modules top steady i l h cycle.through c cycle.settled).registers place turning.signal turning.is.listed turning.register

  next_is : (next_reading own r).signal place ≡ (g path).signal place
  next_is =
      (edge_is threads cores T C p modules top steady h cycle.through c cycle.settled g cycle.next (p.thread_at i) own (steady.net.threads_stand i l).1).registers place
      turning.signal turning.is.listed turning.register

  now_fits : r.signal place < 2
  now_fits =
      subst (λ w. r.signal place < 2 ^ w) turning.one_bit
      ((own_obeys threads cores T C p modules top steady i l h cycle.through c cycle.settled).within place turning.signal turning.is.listed)

  next_fits : (next_reading own r).signal place < 2
  next_fits =
      let o = own_obeys threads cores T C p modules top steady i l h cycle.through c cycle.settled in
      subst (λ w. (next_reading own r).signal place < 2 ^ w) turning.one_bit
      (register_fits own r o.within own.actions acts place turning.signal turning.is.listed (r.signal place) (o.within place turning.signal turning.is.listed))

  pub toggled : IsSameSlot modules top threads i h g ⊎ ((h (slot modules top threads i)).signal place + (g (slot modules top threads i)).signal place ≡ 1)
  toggled =
      let either : ((next_reading own r).signal place ≡ r.signal place) ⊎ ((next_reading own r).signal place ≢ r.signal place) = grind (arith, nat_tests) in
      ⊎_elim
      (λ (same : (next_reading own r).signal place ≡ r.signal place).
      inl (slot_of threads cores T C p modules top steady i l h g
      (stays_by threads cores T C p modules top steady h cycle.through c cycle.settled g cycle.next (p.thread_at i) own (steady.net.threads_stand i l).1
      (turning.turns r (own_obeys threads cores T C p modules top steady i l h cycle.through c cycle.settled) same))))
      (λ (other : (next_reading own r).signal place ≢ r.signal place).
      let sum = bits_differ (r.signal place) ((next_reading own r).signal place) now_fits next_fits (λ e. other (sym e)) in
      inr
      (ap (λ q. (h q).signal place + (g q).signal place) (steady.slots i l)
      ∙ ap (λ x. x + (g path).signal place) now_is ∙ ap (λ x. r.signal place + x) (sym next_is) ∙ sum)) either
