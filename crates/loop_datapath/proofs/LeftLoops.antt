-- A loop at a stage leaves what one cycle of the planned loop says.
use Rattle.std.proofs.Common.{◌≡◌, ◌≢◌, ℕ, zero, suc, ◌+◌, ◌-◌, ◌*◌, ◌%◌, ◌^◌, ◌<◌, ◌≤◌, nat_eq, nat_lt, Bool, true, false, not, ◌&&◌, ◌||◌, if◌then◌else◌}
use Rattle.std.proofs.Common.{List, length, slice_get, slice_index, Some, max, ℤ, refl, sym, ap, subst, ◌∙◌, inl, inr, ◌⊎◌, ⊎_elim, arith}
use Rattle.std.proofs.Math.Nat.{mod-eq_of_lt}
use Rattle.std.proofs.Math.Pow.{mod-mod-pow}
use Rattle.std.proofs.Math.Seq.{take-length}
use Rattle.std.proofs.lemmas.Bool.{cases_eq, cases_lt, lt-ltb, le-ltb, and_parts}
use Rattle.std.proofs.lemmas.Option.{slice_get_within}
use Rattle.netlist.specs.declared.netlist.Signal.{Signal}
use Rattle.netlist.specs.declared.netlist.Module.{Module}
use Rattle.verilog_meaning.specs.Readings.{Reading, width}
use Rattle.hls_ints.specs.Residues.{residue_of, bit_of}
use Rattle.hls_ints.specs.Types.{IntegerType, HasType, width_of}
use Rattle.hls_ints.specs.Words.{word_and, word_complement}
use Rattle.hls_ints.proofs.Conversions.{residue_of-below}
use Rattle.block_ir.specs.declared.block.Operation.{Operation}
use Rattle.block_ir.specs.declared.block.Final.{Final}
use Rattle.block_ir.specs.declared.block.Block.{Block}
use Rattle.block_ir.specs.declared.code.ThreadCode.{ThreadCode}
use Rattle.plan_blocks.specs.View.{source_view, operand_view, finals_view}
use Rattle.planned_block.specs.Block.{size, finished}
use Rattle.planned_block.specs.Slot.{Slot}
use Rattle.planned_block.proofs.Bits.{same_is, other_is, is_same}
use Rattle.planned_loop.specs.Loop.{Loop}
use Rattle.planned_loop.specs.Plan.{LoopPlan, Comes}
use Rattle.planned_loop.specs.Move.{smaller, flag, is_set, operand_ahead, handed, is_in, goes_round, is_last}
use Rattle.planned_loop.specs.Next.{Owner, Chain, Bit, wires, register_next, is_leaving, loop_next}
use Rattle.planned_loop.proofs.RoundNumbers.{smaller_is}
use Rattle.circuit.specs.Modules.{Obeys}
use Rattle.operator_wires.specs.declared.words.Word.{Word}
use Rattle.operator_wires.specs.Gives.{Grows, Gives}
use Rattle.operator_wires.specs.Words.{resized_word}
use Rattle.operator_wires.proofs.PutSignals.{grows_then}
use Rattle.operator_wires.proofs.TypedWords.{at_least}
use Rattle.thread_promise.specs.Types.{value_type, operand_type}
use Rattle.block_datapath.specs.declared.registers.Held.{Held}
use Rattle.block_datapath.specs.declared.registers.Registers.{Registers}
use Rattle.block_datapath.specs.Seen.{IsKept}
use Rattle.block_datapath.specs.Chains.{next_number, held_width}
use Rattle.block_datapath.specs.Leave.{HasStage}
use Rattle.block_datapath.proofs.OperationValues.{within_view}
use Rattle.thread_slots.specs.Bits.{HasBit}
use Rattle.thread_slots.proofs.BitLists.{has_not, has_both}
use Rattle.loop_datapath.specs.declared.times.OperationTime.{OperationTime}
use Rattle.loop_datapath.specs.declared.times.LoopTimes.{LoopTimes}
use Rattle.loop_datapath.specs.declared.states.LoopStates.{LoopStates}
use Rattle.loop_datapath.specs.declared.stage_bits.StageBits.{StageBits}
use Rattle.loop_datapath.specs.declared.leaving_loop.LoopLeft.{LoopLeft}
use Rattle.loop_datapath.specs.Times.{time_at, times_view, loop_of, lateness}
use Rattle.loop_datapath.specs.Ahead.{SeesAhead, HasRounds}
use Rattle.loop_datapath.specs.Operations.{IsRightLoop, IsLive, IsComputed, IsShownIn, ShowsWords}
use Rattle.loop_datapath.specs.States.{state_count, phase_bit, ShowsPhase, TellsLoop}
use Rattle.loop_datapath.specs.StageBits.{IsKnown, SeesStages, TellsStages}
use Rattle.loop_datapath.specs.Chains.{held_number, CanCopy, chain_at, IsInChain, AreChainsApart, is_given, KeepsChains, KeepsStages}
use Rattle.loop_datapath.specs.Leave.{SetsLoopFinals, ahead_in, SeesLoop, HasLoopRoom, next_phase, next_round, LeavesRound, RestsSo, LeavesLoop}
use Rattle.loop_datapath.proofs.AheadOperands.{low_number}
use Rattle.loop_datapath.proofs.BitGates.{both_off}
use Rattle.loop_datapath.proofs.InsideStages.{set_flag}
use Rattle.loop_datapath.proofs.LoopOperands.{comes_converted, source_seen}
use Rattle.loop_datapath.proofs.SeenLoops as seen
use Rattle.loop_datapath.proofs.SeenLoops.{size_is, among, HasWord}
use Rattle.loop_datapath.proofs.StateBits.{below_count}

-- ---- more signals

pub told_later : (registers : Registers) (l : ℕ) (times : LoopTimes) (a b c : List Signal) (states : LoopStates) → TellsLoop registers l times a b states → Grows b c →
    TellsLoop registers l times a c states
told_later registers l times a b c states t more = record {
  grows = grows_then a b c t.grows more;
  round_count = t.round_count;
  none = λ m r g. t.none m r (grows_then b c m.signals more g);
  phases = λ m r round phase g. t.phases m r round phase (grows_then b c m.signals more g);
  rounds = λ m r round phase g. t.rounds m r round phase (grows_then b c m.signals more g);
  last = λ m r round phase g. t.last m r round phase (grows_then b c m.signals more g);
  rests = λ m r g. t.rests m r (grows_then b c m.signals more g);
  last_rests = λ m r g. t.last_rests m r (grows_then b c m.signals more g);
}

pub words_later : (globals : List IntegerType) (code : ThreadCode) (registers : Registers) (turn : Block) (times : LoopTimes) (rounds : List ℕ) (a b c d : List Signal) (n : ℕ)
    (words : List Word) → ShowsWords globals code registers turn times rounds b c n words → Grows a b → Grows c d →
    ShowsWords globals code registers turn times rounds a d n words
words_later globals code registers turn times rounds a b c d n words t before more = record {
  grows = grows_then a b d before (grows_then b c d t.grows more);
  count = t.count;
  each = λ k o less listed.
      let found = t.each k o less listed in
      let is : IsShownIn globals code registers turn times rounds c k o found.0 = found.2 in (
        found.0,
        found.1,
        record {
          says = is.says;
          sign = is.sign;
          shows = λ comparison m r q wire begun right g. is.shows comparison m r q wire begun right (grows_then c d m.signals more g);
        },
      );
}

pub stages_later : (a b c d : List Signal) (registers : Registers) (times : LoopTimes) (comparison : ℕ) (words : List Word) (states : LoopStates) (bits : StageBits) →
    TellsStages b c registers times comparison words states bits → Grows a b → Grows c d → TellsStages a d registers times comparison words states bits
stages_later a b c d registers times comparison words states bits t before more = record {
  grows = grows_then a b d before (grows_then b c d t.grows more);
  count = t.count;
  inside = λ turn m r round phase q wire g. t.inside turn m r round phase q wire (grows_then c d m.signals more g);
  goes_round = λ turn m r round phase q wire g. t.goes_round turn m r round phase q wire (grows_then c d m.signals more g);
  is_last = λ turn m r round phase q wire g. t.is_last turn m r round phase q wire (grows_then c d m.signals more g);
}

-- ---- rounds

ahead_more : (round rounds last : ℕ) → smaller (smaller (suc round) rounds) last ≤ suc (smaller round last)
ahead_more round rounds last =
    let a = smaller_is (suc round) rounds in
    let b = smaller_is (smaller (suc round) rounds) last in
    let c = smaller_is round last in
    by_least a.0 b.0 b.1 c.2
  where
    by_least : smaller (suc round) rounds ≤ suc round → smaller (smaller (suc round) rounds) last ≤ smaller (suc round) rounds → smaller (smaller (suc round) rounds) last ≤ last →
        (smaller round last ≡ round) ⊎ (smaller round last ≡ last) → smaller (smaller (suc round) rounds) last ≤ suc (smaller round last)
    by_least p q s (inl e) = omega arith
    by_least p q s (inr e) = omega arith

late_before : (t : OperationTime) (phase : ℕ) → t.phase < phase → lateness t phase ≡ 0
late_before t phase less = ap (λ (b : Bool). if b then 0 else 1) (lt-ltb t.phase phase less)

late_from : (t : OperationTime) (phase : ℕ) → phase ≤ t.phase → lateness t phase ≡ 1
late_from t phase le = ap (λ (b : Bool). if b then 0 else 1) (le-ltb t.phase phase le)

-- ---- low bits

-- zeros above
widened : (t : Bool) (from to n : ℕ) → from ≤ to → nat_lt to from ≡ t → resized_word false from to n ≡ n
widened true from to n le e = absurd (let less = le-ltb to from le in cc)
widened false from to n le e = by_second (nat_lt from to) refl
  where
    by_second : (u : Bool) → nat_lt from to ≡ u → resized_word false from to n ≡ n
    by_second true f = rw (e, f) refl
    by_second false f = rw (e, f) refl

-- a register that has room for a type, in another one that has
low_kept : (from to ty n : ℕ) → 1 ≤ ty → ty ≤ from → ty ≤ to → n < 2 ^ from → resized_word false from to n % 2 ^ ty ≡ n % 2 ^ ty
low_kept from to ty n some room other fits = ⊎_elim
    (λ (less : to < from).
    let cut : resized_word false from to n ≡ n % 2 ^ to =
    low_number (nat_lt to from) (nat_lt from to && false) from to n (omega arith) (omega arith) fits refl refl in
    let e : (to - ty) + ty ≡ to = omega arith in
    ap (λ k. k % 2 ^ ty) cut ∙ ap (λ k. n % 2 ^ k % 2 ^ ty) (sym e) ∙ mod-mod-pow n (to - ty) ty)
    (λ (le : from ≤ to). ap (λ k. k % 2 ^ ty) (widened (nat_lt to from) from to n le refl))
    (cases_lt to from)

wide_bit : (w : ℕ) (t : Bool) → 1 ≤ w → resized_word false 1 w (bit_of t) % 2 ^ 1 ≡ bit_of t
wide_bit w t some = ap (λ k. k % 2 ^ 1) (widened (nat_lt w 1) 1 w (bit_of t) some refl) ∙ low t
  where
    low : (u : Bool) → bit_of u % 2 ^ 1 ≡ bit_of u
    low true = refl
    low false = refl

module _ (globals : List IntegerType) (code : ThreadCode) (registers : Registers) (l : ℕ) (turn : Block) (comparison : ℕ) (times : LoopTimes)
    (s0 s1 s2 s3 s4 s5 s6 s7 s8 s9 : List Signal) (before after kept middle kept_after : List ℕ) (words : List Word) (states : LoopStates) (bits : StageBits)
    (end stops last again : ℕ) (is_end : end ≡ phase_bit states (times.interval - 1)) (told : TellsLoop registers l times s0 s1 states)
    (shown : ShowsWords globals code registers turn times states.rounds s1 s2 (length turn.operations) words)
    (stages : TellsStages s2 s3 registers times comparison words states bits)
    (finals : SetsLoopFinals s3 s4 code registers turn times words bits end before after turn.finals (length turn.finals))
    (chains : KeepsChains s4 s5 registers times states kept middle words (length words))
    (flags : KeepsStages s5 s6 registers times comparison bits states middle kept_after (max 1 times.stages))
    (stopping : Gives s6 s7 stops 1 (λ m r. word_complement (width m bits.goes_round) (r.signal bits.goes_round)))
    (lasting : Gives s7 s8 last 1 (λ m r. word_and (width m end) (r.signal end) (r.signal stops)))
    (repeating : Gives s8 s9 again 1 (λ m r. word_and (width m states.last) (r.signal states.last) (r.signal bits.goes_round))) where
  abbrev left : LoopLeft
  left = record { words = words; states = states; bits = bits; last = last; again = again }

  from_6 : Grows s6 s9
  from_6 = grows_then s6 s7 s9 stopping.grows (grows_then s7 s8 s9 lasting.grows repeating.grows)

  from_3 : Grows s3 s9
  from_3 = grows_then s3 s4 s9 finals.grows (grows_then s4 s5 s9 chains.grows (grows_then s5 s6 s9 flags.grows from_6))

  from_2 : Grows s2 s9
  from_2 = grows_then s2 s3 s9 stages.grows from_3

  from_1 : Grows s1 s9
  from_1 = grows_then s1 s2 s9 shown.grows from_2

  told_all : TellsLoop registers l times s0 s9 states
  told_all = told_later registers l times s0 s1 s9 states told from_1

  shown_all : ShowsWords globals code registers turn times states.rounds s0 s9 (length turn.operations) words
  shown_all = words_later globals code registers turn times states.rounds s0 s1 s2 s9 (length turn.operations) words shown told.grows from_2

  stages_all : TellsStages s0 s9 registers times comparison words states bits
  stages_all = stages_later s0 s2 s3 s9 registers times comparison words states bits stages (grows_then s0 s1 s2 told.grows shown.grows) from_3

  module _ (m : Module) (r : Reading) (g : Grows s9 m.signals) (o : Obeys m r) where
    g8 : Grows s8 m.signals
    g8 = grows_then s8 s9 m.signals repeating.grows g

    g7 : Grows s7 m.signals
    g7 = grows_then s7 s8 m.signals lasting.grows g8

    g6 : Grows s6 m.signals
    g6 = grows_then s6 s7 m.signals stopping.grows g7

    g5 : Grows s5 m.signals
    g5 = grows_then s5 s6 m.signals flags.grows g6

    g4 : Grows s4 m.signals
    g4 = grows_then s4 s5 m.signals chains.grows g5

    -- ---- at another stage

    rests_at : HasStage registers l m r → r.signal registers.stage.register ≢ l → RestsSo globals code registers l turn comparison times before after kept kept_after left m r
    rests_at has ne =
        let none = told_all.rests m r g o has ne in
        let off : HasBit m r end false = subst (λ p. HasBit m r p false) (sym is_end) (none (times.interval - 1)) in
        record {
          last = both_off s7 s8 last end stops m r lasting g8 o off;
          again = both_off s8 s9 again states.last bits.goes_round m r repeating g o (told_all.last_rests m r g o has ne);
          variables = λ x less. finals.rests m r x g4 o off less;
          keeps = λ x less. flags.rests m r x g6 o none (subst (λ n. x < n) (sym chains.count) less) ∙ chains.rests m r x g5 o none less;
        }

    module _ (owner : ℕ → Owner) (exit : ℕ) (q : Slot) (round phase : ℕ) (right : IsRightLoop globals code registers turn times comparison)
        (sees : SeesLoop globals code registers l turn comparison times m r q round phase)
        (has_room : HasLoopRoom globals code registers l turn comparison times owner m r kept) where
      abbrev the_loop : Loop
      the_loop = loop_of turn comparison

      abbrev the_plan : LoopPlan
      the_plan = times_view times

      abbrev begun : ℕ
      begun = smaller round (times.stages - 1)

      abbrev wire : ℕ → ℤ
      wire = wires the_loop the_plan owner exit round phase q

      abbrev next : Slot
      next = loop_next the_loop the_plan owner exit round phase q

      abbrev time : ℕ → OperationTime
      time k = time_at times.operations k

      some : 0 < times.stages
      some = seen.some globals code registers l turn comparison times s0 s9 words states bits told_all shown_all stages_all m r g o owner exit q round phase right sees has_room.owners

      begun_low : begun ≤ times.stages - 1
      begun_low = seen.begun_low globals code registers l turn comparison times s0 s9 words states bits told_all shown_all stages_all m r g o owner exit q round phase right sees
          has_room.owners

      begun_less : begun < times.stages
      begun_less = seen.begun_less globals code registers l turn comparison times s0 s9 words states bits told_all shown_all stages_all m r g o owner exit q round phase right sees
          has_room.owners

      phase_low : phase < times.interval
      phase_low = seen.phase_low globals code registers l turn comparison times s0 s9 words states bits told_all shown_all stages_all m r g o owner exit q round phase right sees
          has_room.owners

      phases : ShowsPhase m r states phase
      phases = seen.phases globals code registers l turn comparison times s0 s9 words states bits told_all shown_all stages_all m r g o owner exit q round phase right sees has_room.owners

      has_rounds : HasRounds m r states.rounds times.stages begun
      has_rounds = seen.has_rounds globals code registers l turn comparison times s0 s9 words states bits told_all shown_all stages_all m r g o owner exit q round phase right sees
          has_room.owners

      computed : IsComputed globals code registers turn times comparison begun phase q wire
      computed = seen.computed globals code registers l turn comparison times s0 s9 words states bits told_all shown_all stages_all m r g o owner exit q round phase right sees
          has_room.owners

      comparison_low : (time comparison).phase < times.interval
      comparison_low = seen.comparison_low globals code registers l turn comparison times s0 s9 words states bits told_all shown_all stages_all m r g o owner exit q round phase right sees
          has_room.owners

      sees_stages : SeesStages m r registers times comparison words states round phase q wire
      sees_stages = seen.sees_stages globals code registers l turn comparison times s0 s9 words states bits told_all shown_all stages_all m r g o owner exit q round phase right sees
          has_room.owners

      is_operation : (k : ℕ) → k < size the_loop.block → k < length turn.operations
      is_operation k less = subst (λ n. k < n) (size_is turn.operations) less

      has_word : (k : ℕ) (operation : Operation) → slice_get turn.operations k ≡ Some operation →
          HasWord globals code registers l turn comparison times s0 s9 words states bits told_all shown_all stages_all m r g o owner exit q round phase right sees has_room.owners k
          (value_type globals code operation)
      has_word = seen.has_word globals code registers l turn comparison times s0 s9 words states bits told_all shown_all stages_all m r g o owner exit q round phase right sees
          has_room.owners

      has_goes : suc phase ≡ times.interval → HasBit m r bits.goes_round (goes_round the_loop the_plan round phase q wire)
      has_goes e = stages_all.goes_round turn m r round phase q wire g o sees_stages e

      has_end : (t : Bool) → nat_eq phase (times.interval - 1) ≡ t → HasBit m r end t
      has_end t e = subst (λ p. HasBit m r p t) (sym is_end) (subst (λ z. HasBit m r (phase_bit states (times.interval - 1)) z) e (phases (times.interval - 1)))

      ends_on : suc phase ≡ times.interval → HasBit m r end true
      ends_on e = has_end true (same_is phase (times.interval - 1) (omega arith))

      ends_off : suc phase ≢ times.interval → HasBit m r end false
      ends_off ne = let low = phase_low in has_end false (other_is phase (times.interval - 1) (λ e. ne (omega (arith, e))))

      abbrev goes : Bool
      goes = goes_round the_loop the_plan round phase q wire

      abbrev ended : Bool
      ended = is_last the_loop the_plan round phase q wire

      -- ---- where it is left, and where it goes back

      has_last : HasBit m r last (is_leaving the_loop the_plan owner exit round phase q)
      has_last = ⊎_elim
          (λ (e : suc phase ≡ times.interval).
          subst (λ t. HasBit m r last (t && not goes)) (sym (same_is (suc phase) times.interval e))
          (has_both s7 s8 last end stops lasting m r true (not goes) g8 o (ends_on e) (has_not s6 s7 stops bits.goes_round stopping m r goes g7 o (has_goes e))))
          (λ (ne : suc phase ≢ times.interval).
          subst (λ t. HasBit m r last (t && not goes)) (sym (other_is (suc phase) times.interval ne))
          (both_off s7 s8 last end stops m r lasting g8 o (ends_off ne)))
          (cases_eq (suc phase) times.interval)

      has_again : HasBit m r again (nat_eq (suc q.state) (state_count times) && goes)
      has_again =
          let at : round * times.interval + phase ≡ q.state = sym sees.state in
          let final = subst (λ n. HasBit m r states.last (nat_eq (suc n) (state_count times))) at (told_all.last m r round phase g o sees.in_round) in
          ⊎_elim
          (λ (e : suc phase ≡ times.interval).
          has_both s8 s9 again states.last bits.goes_round repeating m r (nat_eq (suc q.state) (state_count times)) goes g o final (has_goes e))
          (λ (ne : suc phase ≢ times.interval).
          let low = phase_low in
          let small = below_count times.interval (max 2 times.stages) round (suc phase) sees.in_round.round_below (omega arith) in
          let off = other_is (suc q.state) (state_count times) (λ e. (let state = sees.state in let other : ⊥ = omega (arith, small, e, state) in other)) in
          subst (λ t. HasBit m r again (t && goes)) (sym off)
          (both_off s8 s9 again states.last bits.goes_round m r repeating g o (subst (λ t. HasBit m r states.last t) off final)))
          (cases_eq (suc phase) times.interval)

      -- ---- variables

      -- at the end of a round in which an iteration ends all stages have begun
      all_begun : ended ≡ true → begun ≡ times.stages - 1
      all_begun over = ⊎_elim
          (λ (less : round < times.stages - 1).
          let first = (and_parts (not (nat_lt round (times.stages - 1))) (is_in the_loop the_plan round phase q wire (times.stages - 1)) over).0 in
          let is = lt-ltb round (times.stages - 1) less in
          let none : not true ≡ true = ap not (sym is) ∙ first in
          absurd (let no : ⊥ = cc in no))
          (λ (more : times.stages - 1 ≤ round). ap (λ t. if t then round else times.stages - 1) (le-ltb round (times.stages - 1) more))
          (cases_lt round (times.stages - 1))

      finals_seen : suc phase ≡ times.interval → ended ≡ true → (k : ℕ) (f : Final) → slice_get turn.finals k ≡ Some f →
          (slice_get code.variables f.variable ≡ Some (operand_type f.value))
          × SeesAhead m r registers words code.variables turn comparison times (times.stages - 1) (times.interval - 1) q wire 0 f.value.source
      finals_seen e over k f listed =
          let typed = right.typed.finals k f listed in
          let at : begun ≡ times.stages - 1 = all_begun over in
          let now : phase ≡ times.interval - 1 = omega (arith, e) in
          let there : times.stages - 1 + 0 ≡ begun = omega (arith, at) in
          let seen = source_seen globals code registers turn times comparison right states.rounds s9 words (length turn.operations) shown_all.each m r q wire begun phase g o has_rounds
          begun_less sees.values computed 0 (times.stages - 1) f.value.source there typed.0
          (λ t i le c. by_time t i le c) in (
            typed.1,
            subst (λ n. SeesAhead m r registers words code.variables turn comparison times n (times.interval - 1) q wire 0 f.value.source) at
                (subst (λ n. SeesAhead m r registers words code.variables turn comparison times begun n q wire 0 f.value.source) now seen),
          )
        where
          by_time : (t i : ℕ) → t ≤ 0 → Comes (finals_view turn.finals) t (source_view f.value.source) i →
              ((time i).stage < times.stages - 1 + t) ⊎ (((time i).stage ≡ times.stages - 1 + t) × ((time i).phase < phase))
              ⊎ ((t ≡ 0) × ((time i).stage ≡ times.stages - 1 + t) × ((time i).phase ≡ phase) × (i < length turn.operations))
          by_time (suc t) i le c = absurd (omega arith)
          by_time zero i le c =
              let used = comes_converted (finals_view turn.finals) f.value.conversions (source_view f.value.source) 0 i c in
              let lt = right.keeps.final i (record { variable = f.variable; value = operand_view f.value }) (among turn.finals k f listed) used in
              let inside = right.keeps.inside i lt in
              let stage_low = inside.0 in
              let phase_in = inside.1 in
              ⊎_elim (λ less. inl less)
              (λ (more : times.stages - 1 + 0 ≤ (time i).stage).
              let at : (time i).stage ≡ times.stages - 1 + 0 = omega arith in
              ⊎_elim (λ earlier. inr (inl (at, earlier)))
              (λ (later : phase ≤ (time i).phase). inr (inr (refl, at, (let now : (time i).phase ≡ phase = omega arith in now), is_operation i lt)))
              (cases_lt (time i).phase phase))
              (cases_lt (time i).stage (times.stages - 1 + 0))

      abbrev left_in : Bool → ℕ → ℤ
      left_in t = if t then finished (operand_ahead the_loop the_plan begun phase q wire 0) (finals_view turn.finals) q.variables else q.variables

      abbrev Left : Bool → ℕ → IntegerType → Type 0
      Left t x ty = (next_number r after x ≡ residue_of (width_of ty) (left_in t x)) × HasType ty (left_in t x)

      at_end : (x : ℕ) (ty : IntegerType) → slice_get code.variables x ≡ Some ty → x < length before →
          next_number r before x ≡ residue_of (width_of ty) (q.variables x) → HasType ty (q.variables x) → suc phase ≡ times.interval → (t : Bool) → ended ≡ t → Left t x ty
      at_end x ty declared less holds typed e true over =
          let all = take-length turn.finals in
          let at = all_begun over in
          let now : phase ≡ times.interval - 1 = omega (arith, e) in
          let set = finals.shows comparison m r q wire x ty g4 o (ends_on e)
          (subst (λ t. HasBit m r bits.is_last t) over (stages_all.is_last turn m r round phase q wire g o sees_stages e)) (finals_seen e over) declared less holds typed in
          subst (λ (v : ℤ). (next_number r after x ≡ residue_of (width_of ty) v) × HasType ty v)
          (ap (λ (fs : List Final). finished (operand_ahead the_loop the_plan (times.stages - 1) (times.interval - 1) q wire 0) (finals_view fs) q.variables x) all
          ∙ ap (λ n. finished (operand_ahead the_loop the_plan n (times.interval - 1) q wire 0) (finals_view turn.finals) q.variables x) (sym at)
          ∙ ap (λ n. finished (operand_ahead the_loop the_plan begun n q wire 0) (finals_view turn.finals) q.variables x) (sym now)) set
      at_end x ty declared less holds typed e false over =
          (finals.stays m r x g4 o (ends_on e) (subst (λ t. HasBit m r bits.is_last t) over (stages_all.is_last turn m r round phase q wire g o sees_stages e)) less ∙ holds, typed)

      variable_at : (x : ℕ) (ty : IntegerType) → slice_get code.variables x ≡ Some ty → x < length before →
          next_number r before x ≡ residue_of (width_of ty) (q.variables x) →
          (next_number r after x ≡ residue_of (width_of ty) (next.variables x)) × HasType ty (next.variables x)
      variable_at x ty declared less holds =
          let typed = (sees.values.variables x ty declared).typed in
          ⊎_elim
          (λ (e : suc phase ≡ times.interval).
          subst (λ t. Left (t && ended) x ty) (sym (same_is (suc phase) times.interval e)) (at_end x ty declared less holds typed e ended refl))
          (λ (ne : suc phase ≢ times.interval).
          subst (λ t. Left (t && ended) x ty) (sym (other_is (suc phase) times.interval ne)) (finals.rests m r x g4 o (ends_off ne) less ∙ holds, typed))
          (cases_eq (suc phase) times.interval)

      -- ---- registers

      no_chain : (k d s : ℕ) → k < size the_loop.block → IsInChain times k d → s < times.stages → chain_at times k d ≡ times.bits + s → ⊥
      no_chain k d s lt inside less e =
          let one = has_room.owners.chains k d lt inside in
          let two = has_room.owners.bits s less in
          let same : Chain k d ≡ Bit s = sym one ∙ ap owner e ∙ two in
          cc

      apart : AreChainsApart times (length words)
      apart i j d e low low_too inside inside_too same =
          let all = size_is turn.operations in
          let many = shown.count in
          let one = has_room.owners.chains i d (omega arith) inside in
          let two = has_room.owners.chains j e (omega arith) inside_too in
          let both : Chain i d ≡ Chain j e = sym one ∙ ap owner same ∙ two in
          (cc, cc)

      can_copy : (word : Word) → width m word.place ≡ word.width → CanCopy m registers word
      can_copy word wide = record { value = wide; kept = λ n h listed. (has_room.still n h listed).0 }

      held_low : (x : ℕ) (h : Held) → slice_get registers.kept x ≡ Some h → x < length kept
      held_low x h listed = let count = has_room.count in let low = slice_get_within registers.kept x h listed in omega arith

      -- a value that lives on has been alive, or its stage has begun
      lived : (k d : ℕ) → (time k).phase < times.interval →
          d + (time k).stage + lateness (time k) (next_phase globals code registers l turn comparison times phase)
          ≤ ahead_in globals code registers l turn comparison times (next_round globals code registers l turn comparison times round phase) →
          (d + (time k).stage ≤ begun) × ((time k).phase ≢ phase → d + (time k).stage + lateness (time k) phase ≤ begun)
      lived k d low ahead = ⊎_elim
          (λ (e : suc phase ≡ times.interval).
          let on = same_is (suc phase) times.interval e in
          let late = late_from (time k) 0 (omega arith) in
          let more = ahead_more round (max 2 times.stages - 1) (times.stages - 1) in
          let there : d + (time k).stage + lateness (time k) 0 ≤ smaller (smaller (suc round) (max 2 times.stages - 1)) (times.stages - 1) =
          subst (λ t. d + (time k).stage + lateness (time k) (if t then 0 else suc phase) ≤ smaller (if t then smaller (suc round) (max 2 times.stages - 1) else round) (times.stages - 1))
          on ahead in
          let sum : d + (time k).stage ≤ begun = omega (arith, late, more, there) in (
            sum,
            λ ne.
                (let early = late_before (time k) phase (omega arith) in
                let out : d + (time k).stage + lateness (time k) phase ≤ begun = omega (arith, early, sum) in out),
          ))
          (λ (ne : suc phase ≢ times.interval).
          let off = other_is (suc phase) times.interval ne in
          let there : d + (time k).stage + lateness (time k) (suc phase) ≤ begun =
          subst (λ t. d + (time k).stage + lateness (time k) (if t then 0 else suc phase) ≤ smaller (if t then smaller (suc round) (max 2 times.stages - 1) else round) (times.stages - 1))
          off ahead in (
            omega (arith, there),
            λ other. ⊎_elim
                (λ (less : (time k).phase < phase).
                let early = late_before (time k) phase less in
                let later = late_before (time k) (suc phase) (omega arith) in
                let out : d + (time k).stage + lateness (time k) phase ≤ begun = omega (arith, early, later, there) in out)
                (λ (le : phase ≤ (time k).phase).
                let early = late_from (time k) phase le in
                let later = late_from (time k) (suc phase) (omega arith) in
                let out : d + (time k).stage + lateness (time k) phase ≤ begun = omega (arith, early, later, there) in out)
                (cases_lt (time k).phase phase),
          ))
          (cases_eq (suc phase) times.interval)

      -- the number that a register holds next, if neither a chain nor a stage gives it another one
      handed_on : (k d : ℕ) → k < size the_loop.block → IsInChain times k d → chain_at times k d < length kept →
          next_number r kept_after (chain_at times k d) ≡ next_number r middle (chain_at times k d)
      handed_on k d lt inside less =
          let enough = some in
          flags.others m r (chain_at times k d) g6 o (subst (λ n. chain_at times k d < n) (sym chains.count) less)
          (λ s low e. no_chain k d s lt inside (omega arith) e)

      abbrev HoldsNext : ℕ → IntegerType → ℤ → Type 0
      HoldsNext x ty v = (next_number r kept_after x % 2 ^ width_of ty ≡ residue_of (width_of ty) v) × HasType ty v

      -- a value that its operation gives now
      value_given : (k : ℕ) (operation : Operation) (h : Held) → slice_get turn.operations k ≡ Some operation → IsInChain times k 0 →
          slice_get registers.kept (chain_at times k 0) ≡ Some h → width_of (value_type globals code operation) ≤ h.width → (time k).phase ≡ phase → (time k).stage ≤ begun →
          HoldsNext (chain_at times k 0) (value_type globals code operation) (wire k)
      value_given k operation h listed inside held room now low =
          let ty = value_type globals code operation in
          let x = chain_at times k 0 in
          let lt = within_view turn.operations k operation listed in
          let less = held_low x h held in
          let has = has_word k operation listed in
          let is = has.shows now low in
          let within : k < length words = subst (λ n. k < n) (sym shown.count) (is_operation k lt) in
          let fits : has.word.width ≤ h.width = subst (λ n. n ≤ h.width) (sym has.says) room in
          let number : next_number r kept_after x ≡ residue_of (width_of ty) (wire k) =
          handed_on k 0 lt inside less
          ∙ chains.shows m r phase k 0 has.word g5 o phases apart within has.listed (can_copy has.word (is.wide ∙ sym has.says)) (sym now) inside less has_room.count
          ∙ ap (λ z. resized_word false has.word.width (held_width z) (r.signal has.word.place)) held
          ∙ widened (nat_lt h.width has.word.width) has.word.width h.width (r.signal has.word.place) fits refl ∙ is.shows
          in
          (ap (λ n. n % 2 ^ width_of ty) number ∙ mod-eq_of_lt (residue_of-below (width_of ty) (wire k)), is.typed)

      -- a value that the register before hands on
      value_handed : (k d : ℕ) (operation : Operation) (h : Held) → slice_get turn.operations k ≡ Some operation → IsInChain times k (suc d) →
          slice_get registers.kept (chain_at times k (suc d)) ≡ Some h → width_of (value_type globals code operation) ≤ h.width → (time k).phase ≡ phase →
          suc d + (time k).stage ≤ begun → HoldsNext (chain_at times k (suc d)) (value_type globals code operation) (q.registers (chain_at times k d))
      value_handed k d operation h listed inside held room now low =
          let ty = value_type globals code operation in
          let x = chain_at times k (suc d) in
          let lt = within_view turn.operations k operation listed in
          let less = held_low x h held in
          let has = has_word k operation listed in
          let early : (time k).stage ≤ begun = omega arith in
          let wide = (has.shows now early).wide ∙ sym has.says in
          let within : k < length words = subst (λ n. k < n) (sym shown.count) (is_operation k lt) in
          let late = late_from (time k) phase (let e : phase ≤ (time k).phase = omega arith in e) in
          let live : IsLive globals code registers turn times begun phase k d (chain_at times k d) =
          record { operation = operation; listed = listed; register = refl; ahead = (let e : d + (time k).stage + lateness (time k) phase ≤ begun = omega (arith, late, low) in e) } in
          let is : IsKept m r registers (Some (chain_at times k d)) ty (q.registers (chain_at times k d)) = sees.values.live k d (chain_at times k d) live in
          let low_type = at_least ty in
          let some_bits : 1 ≤ width_of ty = omega (arith, low_type) in
          let number : next_number r kept_after x ≡ resized_word false is.held.width h.width (r.signal is.held.register) =
          handed_on k (suc d) lt inside less
          ∙ chains.shows m r phase k (suc d) has.word g5 o phases apart within has.listed (can_copy has.word wide) (sym now) inside less has_room.count
          ∙ ap (λ z. held_number r (held_width z) (slice_get registers.kept (chain_at times k d))) held
          ∙ ap (held_number r h.width) is.listed
          in (
            ap (λ n. n % 2 ^ width_of ty) number ∙ low_kept is.held.width h.width (width_of ty) (r.signal is.held.register) some_bits is.room room is.fits ∙ is.shows,
            is.typed,
          )

      -- a value that stays where it is
      value_stays : (k d : ℕ) (operation : Operation) (h : Held) → slice_get turn.operations k ≡ Some operation → IsInChain times k d →
          slice_get registers.kept (chain_at times k d) ≡ Some h → (time k).phase ≢ phase → d + (time k).stage + lateness (time k) phase ≤ begun →
          HoldsNext (chain_at times k d) (value_type globals code operation) (q.registers (chain_at times k d))
      value_stays k d operation h listed inside held other low =
          let ty = value_type globals code operation in
          let x = chain_at times k d in
          let lt = within_view turn.operations k operation listed in
          let less = held_low x h held in
          let within : k < length words = subst (λ n. k < n) (sym shown.count) (is_operation k lt) in
          let live : IsLive globals code registers turn times begun phase k d x = record { operation = operation; listed = listed; register = refl; ahead = low } in
          let is : IsKept m r registers (Some x) ty (q.registers x) = sees.values.live k d x live in
          let same : is.held ≡ h = (let a = is.listed in cc) in
          let number : next_number r kept_after x ≡ r.signal is.held.register =
          handed_on k d lt inside less ∙ chains.stays m r phase k d g5 o phases apart within (λ e. other (sym e)) inside less
          ∙ (has_room.still x h held).1 ∙ ap (λ (z : Held). r.signal z.register) (sym same)
          in
          (ap (λ n. n % 2 ^ width_of ty) number ∙ is.shows, is.typed)

      live_by : (k d : ℕ) (operation : Operation) → slice_get turn.operations k ≡ Some operation → IsInChain times k d → d + (time k).stage ≤ begun →
          ((time k).phase ≢ phase → d + (time k).stage + lateness (time k) phase ≤ begun) → (t : Bool) → nat_eq (time k).phase phase ≡ t →
          HoldsNext (chain_at times k d) (value_type globals code operation) (if t then handed the_loop the_plan q wire k d else q.registers (chain_at times k d))
      live_by k zero operation listed inside low later true e =
          let there = has_room.chains k 0 operation listed inside in
          value_given k operation there.0 listed inside there.1 there.2 (is_same (time k).phase phase e) (omega arith)
      live_by k (suc d) operation listed inside low later true e =
          let there = has_room.chains k (suc d) operation listed inside in
          value_handed k d operation there.0 listed inside there.1 there.2 (is_same (time k).phase phase e) low
      live_by k d operation listed inside low later false e =
          let there = has_room.chains k d operation listed inside in
          let other : (time k).phase ≢ phase = λ same. (let on = same_is (time k).phase phase same in let no : ⊥ = cc in no) in
          value_stays k d operation there.0 listed inside there.1 other (later other)

      live_at : (k d n : ℕ) (t : IsLive globals code registers turn times
          (ahead_in globals code registers l turn comparison times (next_round globals code registers l turn comparison times round phase))
          (next_phase globals code registers l turn comparison times phase) k d n) → HoldsNext n (value_type globals code t.operation) (next.registers n)
      live_at k d n t =
          let lt = within_view turn.operations k t.operation t.listed in
          let past = lived k d (right.keeps.inside k lt).1 t.ahead in
          let enough = some in
          let most = begun_low in
          let inside : IsInChain times k d = (let a = past.0 in omega arith) in
          let whose = has_room.owners.chains k d lt inside in
          subst (λ x. HoldsNext x (value_type globals code t.operation) (next.registers x)) (sym t.register)
          (subst (λ (w : Owner). HoldsNext (chain_at times k d) (value_type globals code t.operation)
          (register_next the_loop the_plan owner exit round phase q w (q.registers (chain_at times k d)))) (sym whose)
          (live_by k d t.operation t.listed inside past.0 past.1 (nat_eq (time k).phase phase) refl))

      -- ---- bits of stages

      no_value : (s : ℕ) (h : Held) → s < times.stages → slice_get registers.kept (times.bits + s) ≡ Some h →
          next_number r middle (times.bits + s) ≡ r.signal h.register
      no_value s h less held =
          let low = held_low (times.bits + s) h held in
          let all = size_is turn.operations in
          let many = shown.count in
          chains.others m r (times.bits + s) g5 o low (λ k d within inside e. no_chain k d s (omega arith) inside less (sym e)) ∙ (has_room.still (times.bits + s) h held).1

      -- where it stays, and is known
      bit_stays : (s : ℕ) → s < times.stages → is_given times comparison phase s ≡ false → IsKnown times comparison round phase s →
          next_number r kept_after (times.bits + s) % 2 ^ 1 ≡ bit_of (is_set (q.registers (times.bits + s)))
      bit_stays s less off known =
          let there = has_room.bits s less in
          let low = held_low (times.bits + s) there.0 there.1 in
          let is = sees.flags s less known in
          let same : is.held ≡ there.0 = (let a = is.listed in let b = there.1 in cc) in
          ap (λ n. n % 2 ^ 1) (flags.stays m r phase s g6 o phases (omega arith) off (subst (λ n. times.bits + s < n) (sym chains.count) low)
          ∙ no_value s there.0 less there.1 ∙ ap (λ (z : Held). r.signal z.register) (sym same)) ∙ is.shows

      bit_given : (s : ℕ) (t : Bool) → s < times.stages → is_given times comparison phase s ≡ true → HasBit m r (slice_index bits.inside (s - 1)) t →
          next_number r kept_after (times.bits + s) % 2 ^ 1 ≡ bit_of t
      bit_given s t less on has =
          let there = has_room.bits s less in
          let low = held_low (times.bits + s) there.0 there.1 in
          ap (λ n. n % 2 ^ 1) (flags.shows m r phase s t g6 o phases (omega arith) on has (subst (λ n. times.bits + s < n) (sym chains.count) low) (chains.count ∙ has_room.count)
          ∙ ap (λ z. resized_word false 1 (held_width z) (bit_of t)) there.1) ∙ wide_bit there.0.width t there.2

      abbrev inside_stage : ℕ → Bool
      inside_stage = is_in the_loop the_plan round phase q wire

      has_inside : (s : ℕ) → s < times.stages → (time comparison).phase ≤ phase → HasBit m r (slice_index bits.inside s) (inside_stage s)
      has_inside s less le = stages_all.inside turn m r round phase q wire g o sees_stages s less (inr (inr le))

      -- that of the first stage is known behind the comparison
      known_before : IsKnown times comparison (next_round globals code registers l turn comparison times round phase)
          (next_phase globals code registers l turn comparison times phase) 0 → phase ≢ (time comparison).phase → IsKnown times comparison round phase 0
      known_before known ne = ⊎_elim
          (λ (e : suc phase ≡ times.interval). let low = comparison_low in inr (omega arith))
          (λ (other : suc phase ≢ times.interval).
          let off = other_is (suc phase) times.interval other in
          let there : (0 < round) ⊎ ((time comparison).phase < suc phase) =
          subst (λ t. (0 < (if t then smaller (suc round) (max 2 times.stages - 1) else round)) ⊎ ((time comparison).phase < (if t then 0 else suc phase))) off known in
          ⊎_elim (λ begun. inl begun) (λ (less : (time comparison).phase < suc phase). inr (omega arith)) there)
          (cases_eq (suc phase) times.interval)

      first_flag : IsKnown times comparison (next_round globals code registers l turn comparison times round phase)
          (next_phase globals code registers l turn comparison times phase) 0 → (t : Bool) → nat_eq phase (time comparison).phase ≡ t →
          next_number r kept_after (times.bits + 0) % 2 ^ 1
          ≡ bit_of (is_set (if t then flag ((nat_eq round 0 || is_set (q.registers (times.bits + 0))) && is_set (wire comparison)) else q.registers (times.bits + 0)))
      first_flag known true e =
          let le : (time comparison).phase ≤ phase = (let same = is_same phase (time comparison).phase e in omega arith) in
          bit_given 0 (inside_stage 0) some e (has_inside 0 some le)
          ∙ ap (λ t. bit_of (is_set (if t then flag ((nat_eq round 0 || is_set (q.registers (times.bits + 0))) && is_set (wire comparison)) else q.registers (times.bits + 0)))) e
      first_flag known false e =
          bit_stays 0 some e (known_before known (λ same. (let on = same_is phase (time comparison).phase same in let no : ⊥ = cc in no)))

      later_flag : (s : ℕ) → suc s < times.stages → (suc phase ≢ times.interval → s < round) → (t : Bool) → nat_eq (suc phase) times.interval ≡ t →
          next_number r kept_after (times.bits + suc s) % 2 ^ 1 ≡ bit_of (is_set (if t then flag (inside_stage s) else q.registers (times.bits + suc s)))
      later_flag s less known true e =
          let last = is_same (suc phase) times.interval e in
          let low = comparison_low in
          let on : nat_eq phase (times.interval - 1) ≡ true = same_is phase (times.interval - 1) (omega arith) in
          let back : suc s - 1 ≡ s = omega arith in
          bit_given (suc s) (inside_stage s) less on
          (subst (λ k. HasBit m r (slice_index bits.inside k) (inside_stage s)) (sym back) (has_inside s (omega arith) (omega arith)))
          ∙ ap bit_of (sym (set_flag (inside_stage s)))
      later_flag s less known false e =
          let ne : suc phase ≢ times.interval = λ same. (let on = same_is (suc phase) times.interval same in let no : ⊥ = cc in no) in
          let low = phase_low in
          let off : nat_eq phase (times.interval - 1) ≡ false = other_is phase (times.interval - 1) (λ f. ne (omega (arith, f, low))) in
          bit_stays (suc s) less off (known ne)

      flag_at : (s : ℕ) → s < times.stages → IsKnown times comparison (next_round globals code registers l turn comparison times round phase)
          (next_phase globals code registers l turn comparison times phase) s →
          next_number r kept_after (times.bits + s) % 2 ^ 1 ≡ bit_of (is_set (next.registers (times.bits + s)))
      flag_at zero less known =
          first_flag known (nat_eq phase (time comparison).phase) refl
          ∙ ap (λ (w : Owner). bit_of (is_set (register_next the_loop the_plan owner exit round phase q w (q.registers (times.bits + 0))))) (sym (has_room.owners.bits 0 less))
      flag_at (suc s) less known =
          later_flag s less
          (λ ne. subst (λ t. s < (if t then smaller (suc round) (max 2 times.stages - 1) else round)) (other_is (suc phase) times.interval ne) known)
          (nat_eq (suc phase) times.interval) refl
          ∙ ap (λ (w : Owner). bit_of (is_set (register_next the_loop the_plan owner exit round phase q w (q.registers (times.bits + suc s)))))
          (sym (has_room.owners.bits (suc s) less))

      leaves_at : LeavesRound globals code registers l turn comparison times before after kept kept_after left owner exit m r q round phase next
      leaves_at = record {
        last = has_last;
        again = has_again;
        variables = λ x ty declared less holds. variable_at x ty declared less holds;
        live = λ k d n t. live_at k d n t;
        flags = λ s less known. flag_at s less known;
      }

  -- THE LOOP IS LEFT so
  left_so : LeavesLoop globals code registers l turn comparison times before after kept kept_after left s0 s9
  left_so = record {
    grows = grows_then s0 s1 s9 told.grows from_1;
    count = finals.count;
    kept_count = flags.count ∙ chains.count;
    told = told_all;
    shown = shown_all;
    stages = stages_all;
    rests = λ m r g o has ne. rests_at m r g o has ne;
    moves = λ owner exit m r q round phase right g o sees has_room. leaves_at m r g o owner exit q round phase right sees has_room;
  }

pub loop_left : (globals : List IntegerType) (code : ThreadCode) (registers : Registers) (l : ℕ) (turn : Block) (comparison : ℕ) (times : LoopTimes)
    (s0 s1 s2 s3 s4 s5 s6 s7 s8 s9 : List Signal) (before after kept middle kept_after : List ℕ) (words given : List Word) (states : LoopStates) (bits : StageBits)
    (rounds : List ℕ) (end stops last again : ℕ) → rounds ≡ states.rounds → given ≡ words → end ≡ phase_bit states (times.interval - 1) →
    TellsLoop registers l times s0 s1 states → ShowsWords globals code registers turn times rounds s1 s2 (length turn.operations) words →
    TellsStages s2 s3 registers times comparison given states bits →
    SetsLoopFinals s3 s4 code registers turn times given bits end before after turn.finals (length turn.finals) →
    KeepsChains s4 s5 registers times states kept middle given (length given) →
    KeepsStages s5 s6 registers times comparison bits states middle kept_after (max 1 times.stages) →
    Gives s6 s7 stops 1 (λ m r. word_complement (width m bits.goes_round) (r.signal bits.goes_round)) →
    Gives s7 s8 last 1 (λ m r. word_and (width m end) (r.signal end) (r.signal stops)) →
    Gives s8 s9 again 1 (λ m r. word_and (width m states.last) (r.signal states.last) (r.signal bits.goes_round)) →
    LeavesLoop globals code registers l turn comparison times before after kept kept_after
    (record { words = words; states = states; bits = bits; last = last; again = again }) s0 s9
loop_left globals code registers l turn comparison times s0 s1 s2 s3 s4 s5 s6 s7 s8 s9 before after kept middle kept_after words given states bits rounds end stops last again
    is_rounds is_given is_end told shown stages finals chains flags stopping lasting repeating =
    left_so globals code registers l turn comparison times s0 s1 s2 s3 s4 s5 s6 s7 s8 s9 before after kept middle kept_after words states bits end stops last again is_end told
    (subst (λ (z : List ℕ). ShowsWords globals code registers turn times z s1 s2 (length turn.operations) words) is_rounds shown)
    (subst (λ (z : List Word). TellsStages s2 s3 registers times comparison z states bits) is_given stages)
    (subst (λ (z : List Word). SetsLoopFinals s3 s4 code registers turn times z bits end before after turn.finals (length turn.finals)) is_given finals)
    (subst (λ (z : List Word). KeepsChains s4 s5 registers times states kept middle z (length z)) is_given chains) flags stopping lasting repeating
