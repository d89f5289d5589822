-- Whether an operation is at work: one state after the other.
use Rattle.std.proofs.Common.{◌≡◌, ℕ, ◌+◌, ◌^◌, ◌<◌, nat_eq, true, ◌||◌, List, ap, subst, ◌∙◌, arith}
use Rattle.hls_ints.specs.Residues.{bit_of}
use Rattle.hls_ints.specs.Words.{word_inclusive_or}
use Rattle.netlist.specs.declared.netlist.Signal.{Signal}
use Rattle.verilog_meaning.specs.Readings.{width}
use Rattle.operator_wires.specs.Gives.{Gives}
use Rattle.operator_wires.specs.Added.{BothAdds}
use Rattle.operator_wires.proofs.PutSignals.{grows_then}
use Rattle.operator_wires.proofs.BuiltWires.{stands_after, wires_then, adds_after}
use Rattle.operator_wires.proofs.Bits.{or_bits}
use Rattle.block_datapath.specs.declared.registers.Registers.{Registers}
use Rattle.block_datapath.specs.declared.states.Moment.{Moment}
use Rattle.block_datapath.specs.Chains.{TellsState}
use Rattle.block_datapath.specs.Wired.{IsStateBit}
use Rattle.unit_datapath.specs.States.{is_within, TellsWork}

within_one : (start s : ℕ) → nat_eq s start ≡ is_within start 0 s
within_one start s = grind arith

within_more : (start n s : ℕ) → (is_within start n s || nat_eq s (start + (n + 1))) ≡ is_within start (n + 1) s
within_more start n s = grind arith

module _ (registers : Registers) (end : Moment) (start : ℕ) where
  abbrev at_state : ℕ → Moment
  at_state s = record { at = end.at; state = s; states = end.states }

  pub work_one : (a b : List Signal) (moment : Moment) (place : ℕ) → moment ≡ at_state start → TellsState a b registers moment place → IsStateBit a b registers moment place →
      TellsWork a b registers end start 0 place
  work_one a b moment place same told wired =
      let t = subst (λ (z : Moment). TellsState a b registers z place) same told in
      let u = subst (λ (z : Moment). IsStateBit a b registers z place) same wired in
      record {
        grows = t.grows;
        wide = t.wide;
        shows = λ m r s g o is small low. t.shows m r true s g o is (omega arith) ∙ ap bit_of (within_one start s);
        rests = t.rests;
        wired = u;
      }

  pub work_more : (a b c d : List Signal) (n state before here place : ℕ) (moment : Moment) → TellsWork a b registers end start n before →
      (start + (n + 1) < 2 ^ 64 → state ≡ start + (n + 1)) → moment ≡ at_state state → TellsState b c registers moment here → IsStateBit b c registers moment here →
      Gives c d place 1 (λ m r. word_inclusive_or (width m before) (r.signal before) (r.signal here)) → BothAdds c d before here place →
      TellsWork a d registers end start (n + 1) place
  work_more a b c d n state before here place moment t plain same told is_bit u both =
      let next = subst (λ (z : Moment). TellsState b c registers z here) same told in
      let wired = subst (λ (z : Moment). IsStateBit b c registers z here) same is_bit in
      record {
        grows = grows_then a b d t.grows (grows_then b c d next.grows u.grows);
        wide = λ m g e. u.wide m g;
        shows = λ m r s g o is small low.
            let to_c = grows_then c d m.signals u.grows g in
            let to_b = grows_then b c m.signals next.grows to_c in
            let at : state ≡ start + (n + 1) = plain (omega arith) in
            let first : r.signal before ≡ bit_of (is_within start n s) = t.shows m r s to_b o is small (omega arith) in
            let second : r.signal here ≡ bit_of (nat_eq s (start + (n + 1))) =
            next.shows m r true s to_c o is (omega arith) ∙ ap (λ (k : ℕ). bit_of (nat_eq s k)) at in
            u.shows m r g o
            ∙ ap (λ (k : ℕ). word_inclusive_or k (r.signal before) (r.signal here)) (t.wide m to_b is.wide)
            ∙ ap (λ (k : ℕ). word_inclusive_or 1 k (r.signal here)) first
            ∙ ap (word_inclusive_or 1 (bit_of (is_within start n s))) second
            ∙ or_bits (is_within start n s) (nat_eq s (start + (n + 1)))
            ∙ ap bit_of (within_more start n s);
        rests = λ m r g o wide off.
            let to_c = grows_then c d m.signals u.grows g in
            let to_b = grows_then b c m.signals next.grows to_c in
            u.shows m r g o
            ∙ ap (λ (k : ℕ). word_inclusive_or k (r.signal before) (r.signal here)) (t.wide m to_b wide)
            ∙ ap (λ (k : ℕ). word_inclusive_or 1 k (r.signal here)) (t.rests m r to_b o wide off)
            ∙ ap (word_inclusive_or 1 0) (next.rests m r to_c o wide off);
        wired = λ base state at room.
            let first = t.wired base state at room in
            let g = first.wires.grows in
            let bit = wired base (stands_after a b base registers.state.register registers.state.width g state) (stands_after a b base end.at 1 g at) room in
            adds_after base a c d 1 place (wires_then base a b c first.wires bit.wires) (both base (stands_after b c base before 1 bit.wires.grows first.stands) bit.stands);
      }
