-- The wires of control stand: the first ask the cores, and the others tell when a state is left and what follows it.
use Rattle.std.proofs.Common.{◌≡◌, ℕ, ◌<◌, ◌≤◌, ◌^◌, List, length, sym, ◌∙◌, arith}
use Rattle.std.proofs.Math.Pow.{pow_mono}
use Rattle.netlist.specs.declared.netlist.Signal.{Signal}
use Rattle.operator_wires.specs.Built.{Base, IsEarlier, Adds}
use Rattle.operator_wires.proofs.PutSignals.{grows_then}
use Rattle.operator_wires.proofs.BuiltWires.{stands_after, wires_then}
use Rattle.block_datapath.specs.declared.registers.Held.{Held}
use Rattle.block_datapath.specs.declared.registers.Registers.{Registers}
use Rattle.thread_slots.specs.declared.chains.Chains.{Chains}
use Rattle.thread_slots.specs.declared.inputs.Inputs.{Inputs}
use Rattle.thread_states.specs.declared.control.Edge.{Edge}
use Rattle.thread_slots.specs.Bits.{LaysWith, AddsNots, AddsBoths, AddsWiths, AddsAny}
use Rattle.thread_states.specs.Control.{AddsRemembered}
use Rattle.thread_states.specs.Wired.{IsSteered, WiresControl}
use Rattle.thread_slots.proofs.BitLists.{of_bits_later}

more_than_one : (n : ℕ) → 1 ≤ n → 1 < 2 ^ n
more_than_one n low = let power : 2 ^ 1 ≤ 2 ^ n = pow_mono {i = 1} {j = n} low in omega arith

module _ (base : Base) where
  -- both of two bits, one of them, and what is not a bit
  abbrev pub Joins : List Signal → List Signal → ℕ → ℕ → ℕ → Type 0
  Joins a b left right place = IsEarlier a base left 1 → IsEarlier a base right 1 → Adds base a b 1 place

  abbrev pub Turns : List Signal → List Signal → ℕ → ℕ → Type 0
  Turns a b of place = IsEarlier a base of 1 → Adds base a b 1 place

  pub state_wired : (a b c d e : List Signal) (state : Held) (is_last one following first place : ℕ)
      → (base.first ≤ length a → 1 ≤ state.width → state.width ≤ 64 → 1 < 2 ^ state.width → Adds base a b state.width one)
      → (IsEarlier b base state.register state.width → IsEarlier b base one state.width → Adds base b c state.width following)
      → (base.first ≤ length c → 1 ≤ state.width → state.width ≤ 64 → 0 < 2 ^ state.width → Adds base c d state.width first)
      → (IsEarlier d base is_last 1 → IsEarlier d base first state.width → IsEarlier d base following state.width → Adds base d e state.width place)
      → IsEarlier a base state.register state.width → IsEarlier a base is_last 1 → base.first ≤ length a → base.first ≤ length c → Adds base a e state.width place
  state_wired a b c d e state is_last one following first place t u v w here last room later_room =
      let some : 1 < 2 ^ state.width = more_than_one state.width here.low in
      let s = t room here.low here.high some in
      let p = u (stands_after a b base state.register state.width s.wires.grows here) s.stands in
      let to_c = wires_then base a b c s.wires p.wires in
      let q = v later_room here.low here.high (omega arith) in
      let to_d = wires_then base a c d to_c q.wires in
      let r = w (stands_after a d base is_last 1 to_d.grows last) q.stands (stands_after c d base following state.width q.wires.grows p.stands) in
      record { wires = wires_then base a d e to_d r.wires; stands = r.stands }

  pub control_wired : (s0 s1 s2 s3 s4 s5 s6 s7 s8 s9 s10 s11 s12 : List Signal) (registers : Registers) (inputs : Inputs) (x : Chains) (opens granted : List ℕ) (edge : Edge)
      (wins missing lacks : List ℕ) (blocked free stay : ℕ) → IsSteered base s0 registers inputs x opens granted → LaysWith s0 s1 opens inputs.enable (length opens) edge.asks
      → length missing ≡ length opens → AddsWiths s0 s1 opens inputs.enable edge.asks → AddsBoths s1 s2 edge.asks inputs.grants wins → AddsNots s2 s3 wins missing
      → AddsBoths s3 s4 opens missing lacks → AddsAny s4 s5 x.waits lacks blocked → Turns s5 s6 blocked free → Joins s6 s7 inputs.enable free edge.leave
      → (IsEarlier s7 base registers.state.register registers.state.width → IsEarlier s7 base x.is_last 1 → Adds base s7 s8 registers.state.width edge.state)
      → Turns s8 s9 registers.beat edge.beat → AddsAny s9 s10 edge.leave wins edge.moved → Turns s10 s11 edge.leave stay → AddsRemembered s11 s12 granted wins stay edge.granted
      → WiresControl base s0 s12 registers inputs opens granted edge
  control_wired s0 s1 s2 s3 s4 s5 s6 s7 s8 s9 s10 s11 s12 registers inputs x opens granted edge wins missing lacks blocked free stay s laid count t1 t2 t3 t4 t5 t6 t7 t8 t9 t10 t11
      t12 =
      let e1 = t1 base s.opens s.enable in
      let w1 = e1.wires in
      let e2 = t2 base e1.stand (of_bits_later base s0 s1 inputs.grants w1.grows s.grants) (laid.count ∙ sym s.count) in
      let w2 = wires_then base s0 s1 s2 w1 e2.wires in
      let e3 = t3 base e2.stand in
      let w3 = wires_then base s0 s2 s3 w2 e3.wires in
      let e4 = t4 base (of_bits_later base s0 s3 opens w3.grows s.opens) e3.stand (sym count) in
      let w4 = wires_then base s0 s3 s4 w3 e4.wires in
      let e5 = t5 base e4.stand (stands_after s0 s4 base x.waits 1 w4.grows s.waits) in
      let w5 = wires_then base s0 s4 s5 w4 e5.wires in
      let e6 = t6 e5.stands in
      let w6 = wires_then base s0 s5 s6 w5 e6.wires in
      let e7 = t7 (stands_after s0 s6 base inputs.enable 1 w6.grows s.enable) e6.stands in
      let w7 = wires_then base s0 s6 s7 w6 e7.wires in
      let e8 = t8 (stands_after s0 s7 base registers.state.register registers.state.width w7.grows s.state) (stands_after s0 s7 base x.is_last 1 w7.grows s.is_last) in
      let w8 = wires_then base s0 s7 s8 w7 e8.wires in
      let e9 = t9 (stands_after s0 s8 base registers.beat 1 w8.grows s.beat) in
      let w9 = wires_then base s0 s8 s9 w8 e9.wires in
      let from_7 = grows_then s7 s8 s9 e8.wires.grows e9.wires.grows in
      let from_2 =
      grows_then s2 s3 s9 e3.wires.grows
      (grows_then s3 s4 s9 e4.wires.grows (grows_then s4 s5 s9 e5.wires.grows (grows_then s5 s6 s9 e6.wires.grows (grows_then s6 s7 s9 e7.wires.grows from_7)))) in
      let e10 = t10 base (of_bits_later base s2 s9 wins from_2 e2.stand) (stands_after s7 s9 base edge.leave 1 from_7 e7.stands) in
      let w10 = wires_then base s0 s9 s10 w9 e10.wires in
      let from_7' = grows_then s7 s9 s10 from_7 e10.wires.grows in
      let e11 = t11 (stands_after s7 s10 base edge.leave 1 from_7' e7.stands) in
      let w11 = wires_then base s0 s10 s11 w10 e11.wires in
      let from_2' = grows_then s2 s9 s11 from_2 (grows_then s9 s10 s11 e10.wires.grows e11.wires.grows) in
      let e12 = t12 base (of_bits_later base s0 s11 granted w11.grows s.granted) (of_bits_later base s2 s11 wins from_2' e2.stand) e11.stands in
      let to_end_10 = grows_then s10 s11 s12 e11.wires.grows e12.wires.grows in
      let to_end_9 = grows_then s9 s10 s12 e10.wires.grows to_end_10 in
      let to_end_8 = grows_then s8 s9 s12 e9.wires.grows to_end_9 in
      let to_end_7 = grows_then s7 s8 s12 e8.wires.grows to_end_8 in
      let to_end_2 = grows_then s2 s11 s12 from_2' e12.wires.grows in
      let to_end_1 = grows_then s1 s2 s12 e2.wires.grows to_end_2 in
      record {
        with_asks = s1;
        first = laid;
        wires = wires_then base s0 s11 s12 w11 e12.wires;
        later = to_end_1;
        asks = of_bits_later base s1 s12 edge.asks to_end_1 e1.stand;
        leave = stands_after s7 s12 base edge.leave 1 to_end_7 e7.stands;
        state = stands_after s8 s12 base edge.state registers.state.width to_end_8 e8.stands;
        beat = stands_after s9 s12 base edge.beat 1 to_end_9 e9.stands;
        moved = stands_after s10 s12 base edge.moved 1 to_end_10 e10.stands;
        marks = e12.stand;
      }
