-- Choices of one thread, what need tells, and one cycle as a trial.
use Rattle.std.specs.Prelude.{◌≡◌, ℕ, ◌-◌, ◌^◌, ◌<◌, Bool, true, false, if◌then◌else◌, nat_eq, codes}
use Rattle.std.specs.Str.{bytes_eq}
use Rattle.std.proofs.Common.{ap, sym, ◌∙◌, subst, arith}
use Rattle.std.proofs.lemmas.Option.{same_Some}
use Rattle.std.proofs.lemmas.Nat.{pow_pos, pow_below}
use Rattle.verilog_meaning.specs.Cycles.{Cycle}
use Rattle.verilog_meaning.specs.Threads.{slot, alone, IsSameSlot, Needs}
use Rattle.circuit.specs.Nets.{FitsChoice}
use Rattle.sim_layout.specs.Running.{state_of}
use Rattle.sim_layout.specs.Rounds.{threads_of}
use Rattle.cycle_sim.proofs.Same.{moved, settled_moved}
use Rattle.cycle_sim.proofs.FlatLaws.{cycle_once}
use Rattle.slot_sim.specs.Laws.{AloneFits, NeedIsTold, NeedsMove, MovesByTrial}
use Rattle.slot_sim.proofs.Sames.{in_refl, in_trans, within}

bit_fits : (b : Bool) (T i w : ℕ) → i < T → (if b then 2 ^ T - 1 else 0) < w → (if b then 2 ^ i else 0) < w
bit_fits true T i w l m = let a = pow_below i T l in let p : 0 < 2 ^ i = pow_pos i in omega arith
bit_fits false T i w l m = m

pub alone_fits : AloneFits
alone_fits r st i l = record {
  few = omega arith;
  numbers = λ top e.
      subst (λ t. FitsChoice r.modules t (alone i)) (same_Some st.top top (sym st.is_top ∙ e))
      (λ m x s at input. bit_fits (bytes_eq s.name (codes "en")) (threads_of r.modules) i (2 ^ s.width) l (st.takes 0 0 (omega arith) m x s at input));
}

pub need_is_told : NeedIsTold
need_is_told r threads i a b threaded l x y =
    let same : y.top ≡ x.top = same_Some y.top x.top (sym y.is_top ∙ x.is_top) in
    let h = state_of r in
    let needs : Needs r.modules x.top threads h (alone i) i y.number = subst (λ t. Needs r.modules t threads h (alone i) i y.number) same y.needs in
    let e : x.number ≡ y.number = (threaded x.top x.is_top).needs h h (alone i) (alone i) i x.number y.number l (in_refl r.modules x.top (slot r.modules x.top threads i) h) x.needs needs in
    x.is ∙ ap (λ n. nat_eq n 1) e ∙ sym y.is

pub needs_move : NeedsMove
needs_move modules top threads h g c i b same n = record {
  kind = n.kind;
  stands = n.stands;
  place = n.place;
  signal = n.signal;
  is = n.is;
  through = moved modules top h g same c n.through n.settled;
  settled = settled_moved modules top h g same c n.through n.settled;
  number = n.number;
}

pub moves_by_trial : MovesByTrial
moves_by_trial r st threads i top e g out cycle = (
  λ differs. record { top = top; is_top = e; next = g; out = out; cycle = cycle; changes = differs },
  λ same moving.
      let t : moving.top ≡ top = same_Some moving.top top (sym moving.is_top ∙ e) in
      let h = state_of r in
      let other : Cycle r.modules top h (alone i) moving.next moving.out = subst (λ z. Cycle r.modules z h (alone i) moving.next moving.out) t moving.cycle in
      let changes : IsSameSlot r.modules top threads i h moving.next → ⊥ = subst (λ z. IsSameSlot r.modules z threads i h moving.next → ⊥) t moving.changes in
      let once = cycle_once r st top e h g moving.next (alone i) out moving.out cycle other in
      let s = slot r.modules top threads i in
      changes (in_trans r.modules top s h g moving.next same (within r.modules top s g moving.next once.0)),
)
