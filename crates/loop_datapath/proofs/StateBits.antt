-- The states of a loop as bits: lemmas of each function that adds some.
use Rattle.std.proofs.Common.{◌≡◌, ◌≢◌, ℕ, zero, suc, ◌+◌, ◌-◌, ◌*◌, ◌%◌, ◌^◌, ◌<◌, ◌≤◌, nat_eq, nat_le, Bool, true, false, not, ◌&&◌, ◌||◌, List, [], ◌∷◌, ◌++◌}
use Rattle.std.proofs.Common.{length, slice_get, slice_index, Some, max, refl, sym, ap, subst, ◌∙◌, ⊎_elim, arith}
use Rattle.std.specs.Prelude.{slice_index_or}
use Rattle.std.proofs.lemmas.Bool.{cases_eq, cases_lt, le-leb, lt-leb, and_right}
use Rattle.std.proofs.lemmas.Nat.{mul-add-lt, mod-mul-add, pow_pos}
use Rattle.std.proofs.lemmas.Option.{slice_get-get_or, get_or_from_slice_get}
use Rattle.std.proofs.lemmas.List.{get_or_past}
use Rattle.std.proofs.Math.Bool.{or-false}
use Rattle.std.proofs.Math.Nat.{mul-le-mul_right, mul_comm}
use Rattle.netlist.specs.declared.netlist.Signal.{Signal}
use Rattle.netlist.specs.declared.netlist.Module.{Module}
use Rattle.verilog_meaning.specs.Readings.{Reading}
use Rattle.hls_ints.specs.Residues.{bit_of}
use Rattle.circuit.specs.Modules.{Obeys}
use Rattle.planned_block.specs.Advance.{any_below}
use Rattle.planned_block.proofs.Bits.{same_is, other_is}
use Rattle.operator_wires.specs.Gives.{Grows, Gives}
use Rattle.operator_wires.specs.Built.{Base, IsEarlier}
use Rattle.operator_wires.specs.Added.{ConstantAdds, NumberAdds}
use Rattle.operator_wires.proofs.PutSignals.{grows_then}
use Rattle.operator_wires.proofs.BuiltWires.{stands_after, room_of, wires_then}
use Rattle.block_datapath.specs.declared.registers.Registers.{Registers}
use Rattle.block_datapath.specs.Chains.{TellsStage, IsMoment, TellsState}
use Rattle.block_datapath.specs.Leave.{HasStage}
use Rattle.block_datapath.specs.Wired.{IsStateBit}
use Rattle.thread_slots.specs.Bits.{HasBit, HaveBits, MakesBits, MakesAny, EitherIf, AddsAny}
use Rattle.thread_slots.proofs.BitLists.{bits_more, any_more, of_bits_later, adds_none, adds_more}
use Rattle.loop_datapath.specs.declared.times.LoopTimes.{LoopTimes}
use Rattle.loop_datapath.specs.declared.states.StateSet.{StateSet}
use Rattle.loop_datapath.specs.declared.states.StateSet.TheVariants.{Phase, From}
use Rattle.loop_datapath.specs.declared.states.LoopStates.{LoopStates}
use Rattle.loop_datapath.specs.Ahead.{HasRounds}
use Rattle.loop_datapath.specs.States.{contains, state_count, phase_bit, StateOf, PartOf, IsInRound, TellsLoop}
use Rattle.loop_datapath.specs.Wired.{AreBits, ArePhases, AreLoopStates, AreStateBits, AreSomeBits, AreLoopBits}

-- ---- one of many

none_of : (f : ℕ → Bool) (there : Bool) (s n : ℕ) → (there ≡ true → n ≤ s) → any_below (λ k. f k && (there && nat_eq s k)) n ≡ false
none_of f there s zero le = refl
none_of f there s (suc n) le =
    ap (λ b. b || (f n && (there && nat_eq s n))) (none_of f there s n (λ e. (let l = le e in omega arith)))
    ∙ and_right (f n) (there && nat_eq s n) (other there le)
  where
    other : (t : Bool) → (t ≡ true → suc n ≤ s) → (t && nat_eq s n) ≡ false
    other true l = let less = l refl in other_is s n (λ e. (let f : ⊥ = omega arith in f))
    other false l = refl

one_of : (f : ℕ → Bool) (s n : ℕ) → s < n → any_below (λ k. f k && nat_eq s k) n ≡ f s
one_of f s zero less = absurd (omega arith)
one_of f s (suc n) less = ⊎_elim here (λ ne. before ne (one_of f s n (omega arith))) (cases_eq s n)
  where
    here : s ≡ n → (any_below (λ k. f k && nat_eq s k) n || (f n && nat_eq s n)) ≡ f s
    here e =
        ap (λ b. b || (f n && nat_eq s n)) (none_of f true s n (λ t. omega arith))
        ∙ ap (λ b. f n && b) (same_is s n e) ∙ with_true (f n) ∙ ap f (sym e)
      where
        with_true : (b : Bool) → (b && true) ≡ b
        with_true true = refl
        with_true false = refl

    before : s ≢ n → any_below (λ k. f k && nat_eq s k) n ≡ f s → (any_below (λ k. f k && nat_eq s k) n || (f n && nat_eq s n)) ≡ f s
    before ne rest =
        ap (λ b. any_below (λ k. f k && nat_eq s k) n || b) (and_right (f n) (nat_eq s n) (other_is s n ne))
        ∙ or-false (any_below (λ k. f k && nat_eq s k) n) ∙ rest

one_there : (f : ℕ → Bool) (there : Bool) (s n : ℕ) → (there ≡ true → s < n) → any_below (λ k. f k && (there && nat_eq s k)) n ≡ (there && f s)
one_there f true s n less = one_of f s n (less refl)
one_there f false s n less = none_of f false s n (λ e. absurd cc)

-- ---- bits of states, and of parts of them

pub any_further : (a b c : List Signal) (first : ℕ) (bits : List ℕ) (counts : ℕ → Bool) (n x any out : ℕ) (counted : Bool) → counted ≡ counts n →
    MakesAny a b first bits counts n any → slice_get bits n ≡ Some x → EitherIf b c any x counted out → MakesAny a c first bits counts (n + 1) out
any_further a b c first bits counts n x any out counted e t listed u =
    any_more a b c first bits counts n x any out t listed (subst (λ z. EitherIf b c any x z out) e u)

pub state_more : (a b c : List Signal) (registers : Registers) (at count n place : ℕ) (outs after : List ℕ) → MakesBits a b n outs (StateOf registers at count)
    → n < count → TellsState b c registers (record { at = at; state = n; states = count }) place → after ≡ outs ++ place ∷ []
    → MakesBits a c (n + 1) after (StateOf registers at count)
state_more a b c registers at count n place outs after t less u same =
    bits_more (StateOf registers at count) a b c n place outs after t u.grows
    (λ m r v g o made.
    subst (λ z. HasBit m r place z) (sym made.is)
    (record { wide = u.wide m g made.moment.wide; shows = u.shows m r made.there made.state g o made.moment less }))
    same

pub part_more : (a b c : List Signal) (never : ℕ) (states : List ℕ) (part : ℕ → StateSet) (n place : ℕ) (outs after : List ℕ) →
    MakesBits a b n outs (PartOf never states part) → MakesAny b c never states (contains (part n)) (length states) place → after ≡ outs ++ place ∷ [] →
    MakesBits a c (n + 1) after (PartOf never states part)
part_more a b c never states part n place outs after t u same =
    bits_more (PartOf never states part) a b c n place outs after t u.grows
    (λ m r v g o made.
    subst (λ z. HasBit m r place z) (one_there (contains (part n)) made.there made.state (length states) made.below ∙ sym made.is)
    (u.shows m r false (λ j. made.there && nat_eq made.state j) g o made.none made.has))
    same

-- ---- the bits of phases in a list

pub phase_listed : (phases : List ℕ) (never k : ℕ) → k < length phases → slice_index_or phases k never ≡ slice_index phases k
phase_listed phases never k less = get_or_from_slice_get phases k (slice_index phases k) never (slice_get-get_or phases k 0 less)

-- ---- all of them

phase_in : (interval round phase k : ℕ) → phase < interval → (true && contains (Phase interval k) (round * interval + phase)) ≡ nat_eq phase k
phase_in interval round phase k less =
    ap (λ b. not b && nat_eq ((round * interval + phase) % interval) k) (other_is interval 0 (λ e. (let f : ⊥ = omega arith in f)))
    ∙ ap (λ n. nat_eq n k) (mod-mul-add round interval phase less)

round_in : (interval round phase z : ℕ) → phase < interval → nat_le (z * interval) (round * interval + phase) ≡ nat_le z round
round_in interval round phase z less = ⊎_elim later begun (cases_lt round z)
  where
    later : round < z → nat_le (z * interval) (round * interval + phase) ≡ nat_le z round
    later l =
        let more = mul-le-mul_right {m = suc round} {n = z} interval l in
        lt-leb (z * interval) (round * interval + phase) (omega (arith, more)) ∙ sym (lt-leb z round l)

    begun : z ≤ round → nat_le (z * interval) (round * interval + phase) ≡ nat_le z round
    begun l =
        let more = mul-le-mul_right {m = z} {n = round} interval l in
        le-leb (z * interval) (round * interval + phase) (omega (arith, more)) ∙ sym (le-leb z round l)

last_in : (count s : ℕ) → s < count → nat_le (count - 1) s ≡ nat_eq (suc s) count
last_in count s less = ⊎_elim here before (cases_eq (suc s) count)
  where
    here : suc s ≡ count → nat_le (count - 1) s ≡ nat_eq (suc s) count
    here e = le-leb (count - 1) s (omega arith) ∙ sym (same_is (suc s) count e)

    before : suc s ≢ count → nat_le (count - 1) s ≡ nat_eq (suc s) count
    before ne = lt-leb (count - 1) s (omega arith) ∙ sym (other_is (suc s) count ne)

pub below_count : (interval rounds round phase : ℕ) → round < rounds → phase < interval → round * interval + phase < rounds * interval
below_count interval rounds round phase low less =
    let small = mul-add-lt round interval phase rounds low less in
    subst (λ n. round * interval + phase < n) (mul_comm interval rounds) small

module _ (registers : Registers) (l : ℕ) (times : LoopTimes) (s0 s1 s2 s3 s4 s5 s6 : List Signal) (at never last : ℕ) (bits phases rounds : List ℕ)
    (stage : TellsStage s0 s1 registers l at) (none : Gives s1 s2 never 1 (λ m r. 0))
    (all : MakesBits s2 s3 (state_count times) bits (StateOf registers at (state_count times)))
    (each_phase : MakesBits s3 s4 times.interval phases (PartOf never bits (Phase times.interval)))
    (each_round : MakesBits s4 s5 (max 2 times.stages) rounds (PartOf never bits (λ k. From (k * times.interval))))
    (final : MakesAny s5 s6 never bits (contains (From (state_count times - 1))) (length bits) last) where
  module _ (m : Module) (r : Reading) (g : Grows s6 m.signals) (o : Obeys m r) where
    g5 : Grows s5 m.signals
    g5 = grows_then s5 s6 m.signals final.grows g

    g4 : Grows s4 m.signals
    g4 = grows_then s4 s5 m.signals each_round.grows g5

    g3 : Grows s3 m.signals
    g3 = grows_then s3 s4 m.signals each_phase.grows g4

    g2 : Grows s2 m.signals
    g2 = grows_then s2 s3 m.signals all.grows g3

    g1 : Grows s1 m.signals
    g1 = grows_then s1 s2 m.signals none.grows g2

    has_none : HasBit m r never false
    has_none = record { wide = none.wide m g2; shows = none.shows m r g2 o }

    -- a reading is at the stage, and there in a state, or not
    module _ (there : Bool) (s : ℕ) (below : there ≡ true → s < state_count times) (moment : IsMoment m r registers at (state_count times) there s) where
      has_states : HaveBits m r bits (length bits) (λ j. there && nat_eq s j)
      has_states j less =
          all.shows m r j (there && nat_eq s j) g3 o (subst (λ n. j < n) all.count less) (record { there = there; state = s; moment = moment; is = refl })

      within : there ≡ true → s < length bits
      within e = subst (λ n. s < n) (sym all.count) (below e)

      has_phase : (k : ℕ) (t : Bool) → k < times.interval → t ≡ (there && contains (Phase times.interval k) s) → HasBit m r (slice_index_or phases k never) t
      has_phase k t less is =
          subst (λ p. HasBit m r p t) (sym (phase_listed phases never k (subst (λ n. k < n) (sym each_phase.count) less)))
          (each_phase.shows m r k t g4 o less (record { none = has_none; there = there; state = s; below = within; has = has_states; is = is }))

      no_phase : (k : ℕ) → times.interval ≤ k → HasBit m r (slice_index_or phases k never) false
      no_phase k le = subst (λ p. HasBit m r p false) (sym (get_or_past phases k never (subst (λ n. n ≤ k) (sym each_phase.count) le))) has_none

      has_last : HasBit m r last (there && contains (From (state_count times - 1)) s)
      has_last =
          subst (λ t. HasBit m r last t) (one_there (contains (From (state_count times - 1))) there s (length bits) within)
          (final.shows m r false (λ j. there && nat_eq s j) g o has_none has_states)

    below_all : (round phase : ℕ) → IsInRound registers l times m r round phase → round * times.interval + phase < state_count times
    below_all round phase is = below_count times.interval (max 2 times.stages) round phase is.round_below is.phase_below

    on_moment : (round phase : ℕ) → IsInRound registers l times m r round phase → IsMoment m r registers at (state_count times) true (round * times.interval + phase)
    on_moment round phase is = record {
      wide = stage.wide m g1;
      shows = stage.shows m r g1 o is.has.wide is.has.room is.has.fits ∙ ap bit_of (same_is (r.signal registers.stage.register) l is.stage);
      state_wide = λ e. is.wide;
      state = λ e. is.state;
      below = λ e. below_all round phase is;
      room = λ e. is.room;
    }

    off_moment : HasStage registers l m r → r.signal registers.stage.register ≢ l → IsMoment m r registers at (state_count times) false 0
    off_moment has ne = record {
      wide = stage.wide m g1;
      shows = stage.shows m r g1 o has.wide has.room has.fits ∙ ap bit_of (other_is (r.signal registers.stage.register) l ne);
      state_wide = λ e. absurd cc;
      state = λ e. absurd cc;
      below = λ e. absurd cc;
      room = λ e. absurd cc;
    }

    phases_shown : (round phase : ℕ) → IsInRound registers l times m r round phase → (k : ℕ) → HasBit m r (slice_index_or phases k never) (nat_eq phase k)
    phases_shown round phase is k = ⊎_elim inside beyond (cases_lt k times.interval)
      where
        inside : k < times.interval → HasBit m r (slice_index_or phases k never) (nat_eq phase k)
        inside less =
            has_phase true (round * times.interval + phase) (λ e. below_all round phase is) (on_moment round phase is) k (nat_eq phase k) less
            (sym (phase_in times.interval round phase k is.phase_below))

        beyond : times.interval ≤ k → HasBit m r (slice_index_or phases k never) (nat_eq phase k)
        beyond le =
            let low = is.phase_below in
            subst (λ t. HasBit m r (slice_index_or phases k never) t) (sym (other_is phase k (λ e. (let f : ⊥ = omega arith in f))))
            (no_phase true (round * times.interval + phase) (λ e. below_all round phase is) (on_moment round phase is) k le)

    rounds_shown : (round phase : ℕ) → IsInRound registers l times m r round phase → HasRounds m r rounds (max 2 times.stages) round
    rounds_shown round phase is z less =
        let s = round * times.interval + phase in
        let moment = on_moment round phase is in
        let bit = each_round.shows m r z (nat_le z round) g5 o less
        (record {
          none = has_none;
          there = true;
          state = s;
          below = within true s (λ e. below_all round phase is) moment;
          has = has_states true s (λ e. below_all round phase is) moment;
          is = sym (round_in times.interval round phase z is.phase_below);
        }) in
        (bit.wide, bit.shows)

    last_shown : (round phase : ℕ) → IsInRound registers l times m r round phase → HasBit m r last (nat_eq (suc (round * times.interval + phase)) (state_count times))
    last_shown round phase is =
        subst (λ t. HasBit m r last t) (last_in (state_count times) (round * times.interval + phase) (below_all round phase is))
        (has_last true (round * times.interval + phase) (λ e. below_all round phase is) (on_moment round phase is))

    phases_rest : HasStage registers l m r → r.signal registers.stage.register ≢ l → (k : ℕ) → HasBit m r (slice_index_or phases k never) false
    phases_rest has ne k = ⊎_elim
        (λ (less : k < times.interval). has_phase false 0 (λ e. absurd cc) (off_moment has ne) k false less refl)
        (λ (le : times.interval ≤ k). no_phase false 0 (λ e. absurd cc) (off_moment has ne) k le)
        (cases_lt k times.interval)

    last_rest : HasStage registers l m r → r.signal registers.stage.register ≢ l → HasBit m r last false
    last_rest has ne = has_last false 0 (λ e. absurd cc) (off_moment has ne)

  told_at : TellsLoop registers l times s0 s6 (record { never = never; phases = phases; rounds = rounds; last = last })
  told_at = record {
    grows = grows_then s0 s1 s6 stage.grows
        (grows_then s1 s2 s6 none.grows (grows_then s2 s3 s6 all.grows (grows_then s3 s4 s6 each_phase.grows (grows_then s4 s5 s6 each_round.grows final.grows))));
    round_count = each_round.count;
    none = λ m r g o. has_none m r g o;
    phases = λ m r round phase g o is. phases_shown m r g o round phase is;
    rounds = λ m r round phase g o is. rounds_shown m r g o round phase is;
    last = λ m r round phase g o is. last_shown m r g o round phase is;
    rests = λ m r g o has ne. phases_rest m r g o has ne;
    last_rests = λ m r g o has ne. last_rest m r g o has ne;
  }

pub loop_told : (registers : Registers) (l : ℕ) (times : LoopTimes) (s0 s1 s2 s3 s4 s5 s6 : List Signal) (at never last count before : ℕ) (all_bits bits phases rounds : List ℕ) →
    count ≡ state_count times → before ≡ count - 1 → bits ≡ all_bits → TellsStage s0 s1 registers l at → Gives s1 s2 never 1 (λ m r. 0) →
    MakesBits s2 s3 count all_bits (StateOf registers at count) → MakesBits s3 s4 times.interval phases (PartOf never bits (Phase times.interval)) →
    MakesBits s4 s5 (max 2 times.stages) rounds (PartOf never bits (λ k. From (k * times.interval))) →
    MakesAny s5 s6 never bits (contains (From before)) (length bits) last →
    TellsLoop registers l times s0 s6 (record { never = never; phases = phases; rounds = rounds; last = last })
loop_told registers l times s0 s1 s2 s3 s4 s5 s6 at never last count before all_bits bits phases rounds is_count is_before same stage none all each_phase each_round final =
    told_at registers l times s0 s1 s2 s3 s4 s5 s6 at never last bits phases rounds stage none
    (subst (λ n. MakesBits s2 s3 n bits (StateOf registers at n)) is_count
    (subst (λ (z : List ℕ). MakesBits s2 s3 count z (StateOf registers at count)) (sym same) all)) each_phase each_round
    (subst (λ n. MakesAny s5 s6 never bits (contains (From n)) (length bits) last) (is_before ∙ ap (λ n. n - 1) is_count) final)

-- ---- how they are put together

pub states_wired_none : (a : List Signal) (registers : Registers) (at count : ℕ) (outs : List ℕ) → outs ≡ [] → AreStateBits a a registers at count outs
states_wired_none a registers at count outs e base state stands few = adds_none base a outs e

pub states_wired_more : (a b c : List Signal) (registers : Registers) (at count n place : ℕ) (outs after : List ℕ) → AreStateBits a b registers at count outs →
    IsStateBit b c registers (record { at = at; state = n; states = count }) place → after ≡ outs ++ place ∷ [] → AreStateBits a c registers at count after
states_wired_more a b c registers at count n place outs after t u same base state stands few =
    let before = t base state stands few in
    let more = before.wires.grows in
    adds_more base a b c outs after place before
    (u base (stands_after a b base registers.state.register registers.state.width more state) (stands_after a b base at 1 more stands) few) same

pub some_wired_none : (a : List Signal) (never : ℕ) (states outs : List ℕ) → outs ≡ [] → AreSomeBits a a never states outs
some_wired_none a never states outs e base stands are = adds_none base a outs e

pub some_wired_more : (a b c : List Signal) (never place : ℕ) (states outs after : List ℕ) → AreSomeBits a b never states outs → AddsAny b c never states place →
    after ≡ outs ++ place ∷ [] → AreSomeBits a c never states after
some_wired_more a b c never place states outs after t u same base stands are =
    let before = t base stands are in
    let more = before.wires.grows in
    adds_more base a b c outs after place before (u base (of_bits_later base a b states more are) (stands_after a b base never 1 more stands)) same

-- the phases of a list stand, and what stands for all others
pub phases_stand : (a : List Signal) (base : Base) (states : LoopStates) → AreBits a base states.phases → IsEarlier a base states.never 1 → ArePhases a base states
phases_stand a base states are stands k = ⊎_elim
    (λ (less : k < length states.phases).
    subst (λ p. IsEarlier a base p 1) (sym (phase_listed states.phases states.never k less))
    (are k (slice_index states.phases k) (slice_get-get_or states.phases k 0 less)))
    (λ (le : length states.phases ≤ k). subst (λ p. IsEarlier a base p 1) (sym (get_or_past states.phases k states.never le)) stands)
    (cases_lt k (length states.phases))

pub loop_wired : (registers : Registers) (l : ℕ) (times : LoopTimes) (s0 s1 s2 s3 s4 s5 s6 : List Signal) (at never last count : ℕ) (all_bits bits phases rounds : List ℕ) →
    count ≡ state_count times → bits ≡ all_bits → NumberAdds s0 s1 registers.stage.width registers.stage.register l at → ConstantAdds s1 s2 1 0 never →
    AreStateBits s2 s3 registers at count all_bits →
    AreSomeBits s3 s4 never bits phases → AreSomeBits s4 s5 never bits rounds → AddsAny s5 s6 never bits last →
    AreLoopBits s0 s6 registers l times (record { never = never; phases = phases; rounds = rounds; last = last })
loop_wired registers l times s0 s1 s2 s3 s4 s5 s6 at never last count all_bits bits phases rounds is_count same stage none all each_phase each_round final base types is low few =
    let one = stage base is.stage low in
    let two = none base (room_of s1 base at 1 one.stands) (omega arith) (omega arith) (pow_pos 1) in
    let w2 = wires_then base s0 s1 s2 one.wires two.wires in
    let three = all base (stands_after s0 s2 base registers.state.register registers.state.width w2.grows is.state) (stands_after s1 s2 base at 1 two.wires.grows one.stands)
    (subst (λ n. n ≤ 2 ^ registers.state.width) (sym is_count) few) in
    let bits_3 = subst (λ (z : List ℕ). AreBits s3 base z) (sym same) three.stand in
    let never_3 = stands_after s2 s3 base never 1 three.wires.grows two.stands in
    let four = each_phase base never_3 bits_3 in
    let never_4 = stands_after s3 s4 base never 1 four.wires.grows never_3 in
    let bits_4 = of_bits_later base s3 s4 bits four.wires.grows bits_3 in
    let five = each_round base never_4 bits_4 in
    let never_5 = stands_after s4 s5 base never 1 five.wires.grows never_4 in
    let bits_5 = of_bits_later base s4 s5 bits five.wires.grows bits_4 in
    let six = final base bits_5 never_5 in
    let never_6 = stands_after s5 s6 base never 1 six.wires.grows never_5 in
    let to_4 = wires_then base s0 s2 s4 w2 (wires_then base s2 s3 s4 three.wires four.wires) in
    let phases_6 = of_bits_later base s5 s6 phases six.wires.grows (of_bits_later base s4 s5 phases five.wires.grows four.stand) in
    record {
      wires = wires_then base s0 s4 s6 to_4 (wires_then base s4 s5 s6 five.wires six.wires);
      bits = record {
        never = never_6;
        phases = phases_stand s6 base (record { never = never; phases = phases; rounds = rounds; last = last }) phases_6 never_6;
        rounds = of_bits_later base s5 s6 rounds six.wires.grows five.stand;
        last = six.stands;
      };
    }

pub loop_states_after : (a b : List Signal) (base : Base) (states : LoopStates) → Grows a b → AreLoopStates a base states → AreLoopStates b base states
loop_states_after a b base states g is = record {
  never = stands_after a b base states.never 1 g is.never;
  phases = λ k. stands_after a b base (phase_bit states k) 1 g (is.phases k);
  rounds = of_bits_later base a b states.rounds g is.rounds;
  last = stands_after a b base states.last 1 g is.last;
}
