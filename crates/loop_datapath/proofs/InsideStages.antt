-- Which stages of a loop have an iteration, as bits: lemmas of each function that adds some.
use Rattle.std.proofs.Common.{◌≡◌, ◌≢◌, ℕ, zero, suc, ◌+◌, ◌-◌, ◌%◌, ◌^◌, ◌<◌, ◌≤◌, nat_eq, nat_lt, nat_le, Bool, true, false, not, ◌&&◌, ◌||◌, if◌then◌else◌}
use Rattle.std.proofs.Common.{List, [], ◌∷◌, ◌++◌, length, slice_get, slice_index, Some, None, max, min, take, ℤ, pos, negsuc, refl, sym, ap, subst, ◌∙◌, inl, inr, ◌⊎◌, ⊎_elim, arith}
use Rattle.std.proofs.Common.{length-append}
use Rattle.std.proofs.lemmas.Bool.{cases_eq, cases_lt, le-leb, lt-leb, lt-ltb, le-ltb}
use Rattle.std.proofs.lemmas.Nat.{pow_pos}
use Rattle.std.proofs.lemmas.List.{get_or_push, get_or_append_left, get_or-take, length-take}
use Rattle.netlist.specs.declared.netlist.Signal.{Signal}
use Rattle.netlist.specs.declared.netlist.Module.{Module}
use Rattle.verilog_meaning.specs.Readings.{Reading, width}
use Rattle.hls_ints.specs.Residues.{bit_of}
use Rattle.hls_ints.specs.Words.{word_and, word_inclusive_or, word_complement}
use Rattle.hls_ints.specs.Operators.{is_zero}
use Rattle.block_ir.specs.declared.block.Block.{Block}
use Rattle.planned_block.specs.Block.{is_zero as planned_zero}
use Rattle.planned_block.specs.Slot.{Slot}
use Rattle.planned_block.specs.Advance.{any_below}
use Rattle.planned_block.proofs.Bits.{same_is, other_is}
use Rattle.planned_loop.specs.Move.{flag, is_set, prologue, running_next, is_in, is_some_in, goes_round, is_last}
use Rattle.planned_loop.proofs.RoundNumbers.{rounds_are}
use Rattle.circuit.specs.Modules.{Obeys}
use Rattle.operator_wires.specs.declared.words.Word.{Word}
use Rattle.operator_wires.specs.Gives.{Grows, Gives}
use Rattle.operator_wires.specs.Words.{IsWord, Resizes, TestsZero}
use Rattle.operator_wires.specs.Built.{Base, IsEarlier, Adds}
use Rattle.operator_wires.specs.Added.{ResizedAdds, ConstantAdds, NotAdds, BothAdds, ChoiceAdds, BitOfOne}
use Rattle.operator_wires.proofs.PutSignals.{grows_refl, grows_then}
use Rattle.operator_wires.proofs.BuiltWires.{stands_after, wires_none, wires_then}
use Rattle.operator_wires.proofs.Bits.{chosen_by}
use Rattle.block_datapath.specs.declared.registers.Held.{Held}
use Rattle.block_datapath.specs.declared.registers.Registers.{Registers}
use Rattle.block_datapath.proofs.BlockWires.{room, registers_after}
use Rattle.thread_slots.specs.Bits.{HasBit, HaveBits, MakesAny, AddsAny}
use Rattle.thread_slots.proofs.BitLists.{has_not, has_both, has_either, of_bits_later, adds_none, adds_more}
use Rattle.loop_datapath.specs.declared.times.LoopTimes.{LoopTimes}
use Rattle.loop_datapath.specs.declared.states.LoopStates.{LoopStates}
use Rattle.loop_datapath.specs.Times.{time_at, times_view, loop_of}
use Rattle.loop_datapath.specs.Ahead.{HasRounds}
use Rattle.loop_datapath.specs.States.{phase_bit}
use Rattle.loop_datapath.specs.StageBits.{IsFlag, IsKnown, SeesStages, ShowsFlag, ShowsRunning, ShowsInside, TellsStages}
use Rattle.loop_datapath.specs.Wired.{AreBits, IsFlagBit, IsRunningBit, AreInsideBits, AreStageBits}
use Rattle.loop_datapath.proofs.AheadOperands.{low_number}
use Rattle.loop_datapath.proofs.AheadWires.{words_after}
use Rattle.loop_datapath.proofs.BitGates.{both_off, either_on}
use Rattle.loop_datapath.proofs.RoundWires.{bit_there}
use Rattle.loop_datapath.proofs.StateBits.{loop_states_after}

-- ---- bits in registers

pub flag_shown : (a b : List Signal) (registers : Registers) (n place : ℕ) (held : Held) → slice_get registers.kept n ≡ Some held →
    Resizes a b held.register held.width 1 false place → ShowsFlag a b registers n place
flag_shown a b registers n place held e t = record {
  grows = t.grows;
  shows = λ m r v g o is.
      let l = is.listed in
      let same : is.held ≡ held = cc in
      let wide : width m held.register ≡ held.width = subst (λ (h : Held). width m h.register ≡ h.width) same is.wide in
      let some : 1 ≤ held.width = subst (λ (h : Held). 1 ≤ h.width) same is.room in
      let fits : r.signal held.register < 2 ^ held.width = subst (λ (h : Held). r.signal h.register < 2 ^ h.width) same is.fits in
      record {
        wide = t.wide m g wide;
        shows = t.shows m r g o wide
            ∙ low_number (nat_lt 1 held.width) (nat_lt held.width 1 && false) held.width 1 (r.signal held.register) (omega arith) some fits refl refl
            ∙ ap (λ (h : Held). r.signal h.register % 2 ^ 1) (sym same) ∙ is.shows;
      };
}

pub no_flag : (a b : List Signal) (registers : Registers) (n place : ℕ) → slice_get registers.kept n ≡ None → Gives a b place 1 (λ m r. 0) →
    ShowsFlag a b registers n place
no_flag a b registers n place e t = record { grows = t.grows; shows = λ m r v g o is. (let l = is.listed in absurd cc) }

-- ---- whether the iteration of a round runs

zero_same : (v : ℤ) → is_zero v ≡ planned_zero v
zero_same (pos n) = refl
zero_same (negsuc n) = refl

pub set_flag : (t : Bool) → is_set (flag t) ≡ t
set_flag true = refl
set_flag false = refl

module _ (s0 s1 s2 s3 s4 s5 s6 s7 : List Signal) (registers : Registers) (times : LoopTimes) (comparison : ℕ) (words : List Word) (states : LoopStates)
    (known fails holds begun first ran runs place compares : ℕ) (word : Word) (listed : slice_get words comparison ≡ Some word)
    (is_begun : begun ≡ slice_index states.rounds 1) (is_compares : compares ≡ phase_bit states (time_at times.operations comparison).phase)
    (knows : ShowsFlag s0 s1 registers times.bits known) (tests : TestsZero s1 s2 word fails)
    (turns : Gives s2 s3 holds 1 (λ m r. word_complement (width m fails) (r.signal fails)))
    (begins : Gives s3 s4 first 1 (λ m r. word_complement (width m begun) (r.signal begun)))
    (either : Gives s4 s5 ran 1 (λ m r. word_inclusive_or (width m first) (r.signal first) (r.signal known)))
    (both : Gives s5 s6 runs 1 (λ m r. word_and (width m ran) (r.signal ran) (r.signal holds)))
    (chooses : Gives s6 s7 place 1 (λ m r. if nat_eq (r.signal compares) 0 then r.signal known else r.signal runs)) where
  module _ (turn : Block) (m : Module) (r : Reading) (round phase : ℕ) (q : Slot) (wire : ℕ → ℤ) (g : Grows s7 m.signals) (o : Obeys m r)
      (sees : SeesStages m r registers times comparison words states round phase q wire) where
    g6 : Grows s6 m.signals
    g6 = grows_then s6 s7 m.signals chooses.grows g

    g5 : Grows s5 m.signals
    g5 = grows_then s5 s6 m.signals both.grows g6

    g4 : Grows s4 m.signals
    g4 = grows_then s4 s5 m.signals either.grows g5

    g3 : Grows s3 m.signals
    g3 = grows_then s3 s4 m.signals begins.grows g4

    g2 : Grows s2 m.signals
    g2 = grows_then s2 s3 m.signals turns.grows g3

    g1 : Grows s1 m.signals
    g1 = grows_then s1 s2 m.signals tests.grows g2

    abbrev told : Bool
    told = is_set (q.registers (times.bits + 0))

    -- where the register of the first stage tells
    has_known : IsKnown times comparison round phase 0 → HasBit m r known told
    has_known is =
        let e : times.bits + 0 ≡ times.bits = omega arith in
        knows.shows m r told g1 o (subst (λ n. IsFlag m r registers n told) e (sees.flags 0 sees.some is))

    has_first : HasBit m r first (not (nat_le 1 round))
    has_first =
        let has = sees.told.rounds 1 (omega arith) in
        let bit : HasBit m r begun (nat_le 1 round) = subst (λ p. HasBit m r p (nat_le 1 round)) (sym is_begun) (record { wide = has.0; shows = has.1 }) in
        has_not s3 s4 first begun begins m r (nat_le 1 round) g4 o bit

    has_ran : HasBit m r ran (nat_eq round 0 || told)
    has_ran = ⊎_elim
        (λ (e : round ≡ 0).
        let on : HasBit m r first true = subst (λ n. HasBit m r first (not (nat_le 1 n))) e has_first in
        subst (λ n. HasBit m r ran (nat_eq n 0 || told)) (sym e) (either_on s4 s5 ran first known m r either g5 o on))
        (λ (ne : round ≢ 0).
        let some : 0 < round = omega arith in
        let off : HasBit m r first false = subst (λ t. HasBit m r first (not t)) (le-leb 1 round some) has_first in
        subst (λ t. HasBit m r ran (t || told)) (sym (other_is round 0 ne))
        (has_either s4 s5 ran first known either m r false told g5 o off (has_known (inl some))))
        (cases_eq round 0)

    -- in the comparison's phase
    has_runs : (time_at times.operations comparison).phase ≡ phase → HasBit m r runs ((nat_eq round 0 || told) && is_set (wire comparison))
    has_runs e =
        let l = sees.compares.listed in
        let same : sees.compares.word ≡ word = cc in
        let is = subst (λ (w : Word). IsWord m r w sees.compares.ty (wire comparison)) same (sees.compares.shows e) in
        let failed : HasBit m r fails (is_zero (wire comparison)) =
        record { wide = tests.wide m g2; shows = tests.shows m r sees.compares.ty (wire comparison) g2 o is } in
        let held : HasBit m r holds (is_set (wire comparison)) =
        subst (λ t. HasBit m r holds (not t)) (zero_same (wire comparison)) (has_not s2 s3 holds fails turns m r (is_zero (wire comparison)) g3 o failed) in
        has_both s5 s6 runs ran holds both m r (nat_eq round 0 || told) (is_set (wire comparison)) g6 o has_ran held

    chosen : (t : Bool) → nat_eq phase (time_at times.operations comparison).phase ≡ t → r.signal place ≡ (if t then r.signal runs else r.signal known)
    chosen t e =
        let here = sees.told.phases (time_at times.operations comparison).phase in
        chooses.shows m r g o ∙ ap (λ p. if nat_eq (r.signal p) 0 then r.signal known else r.signal runs) is_compares
        ∙ ap (λ n. if nat_eq n 0 then r.signal known else r.signal runs) (here.shows ∙ ap bit_of e) ∙ chosen_by t (r.signal runs) (r.signal known)

    running : (0 < round) ⊎ ((time_at times.operations comparison).phase ≤ phase) →
        HasBit m r place (is_set (running_next (loop_of turn comparison) (times_view times) round phase q wire))
    running when = ⊎_elim
        (λ (e : phase ≡ (time_at times.operations comparison).phase).
        let test = same_is phase (time_at times.operations comparison).phase e in
        let is = has_runs (sym e) in
        let value = (nat_eq round 0 || told) && is_set (wire comparison) in
        subst (λ t. HasBit m r place (is_set (if t then flag value else q.registers (times.bits + 0)))) (sym test)
        (subst (λ t. HasBit m r place t) (sym (set_flag value)) (record { wide = chooses.wide m g; shows = chosen true test ∙ is.shows })))
        (λ (ne : phase ≢ (time_at times.operations comparison).phase).
        let test = other_is phase (time_at times.operations comparison).phase ne in
        let known_now : IsKnown times comparison round phase 0 = ⊎_elim (λ some. inl some) (λ (le : (time_at times.operations comparison).phase ≤ phase). inr (omega arith)) when in
        let is = has_known known_now in
        subst (λ t. HasBit m r place (is_set (if t then flag ((nat_eq round 0 || told) && is_set (wire comparison)) else q.registers (times.bits + 0)))) (sym test)
        (record { wide = chooses.wide m g; shows = chosen false test ∙ is.shows }))
        (cases_eq phase (time_at times.operations comparison).phase)

  pub running_shown : ShowsRunning s0 s7 registers times comparison words states place
  running_shown = record {
    grows = grows_then s0 s1 s7 knows.grows
        (grows_then s1 s2 s7 tests.grows (grows_then s2 s3 s7 turns.grows (grows_then s3 s4 s7 begins.grows (grows_then s4 s5 s7 either.grows
        (grows_then s5 s6 s7 both.grows chooses.grows)))));
    shows = λ turn m r round phase q wire g o sees when. running turn m r round phase q wire g o sees when;
  }

-- there is a comparison
pub running_none : (a b : List Signal) (registers : Registers) (times : LoopTimes) (comparison : ℕ) (words : List Word) (states : LoopStates) (place : ℕ) →
    slice_get words comparison ≡ None → Grows a b → ShowsRunning a b registers times comparison words states place
running_none a b registers times comparison words states place none grows = record {
  grows = grows;
  shows = λ turn m r round phase q wire g o sees when. (let l = sees.compares.listed in absurd cc);
}

-- ---- which stages have an iteration

pub inside_first : (a : List Signal) (registers : Registers) (times : LoopTimes) (running : ℕ) (rounds before inside : List ℕ) → before ≡ [] → inside ≡ before ++ running ∷ [] →
    ShowsInside a a registers times running rounds 1 inside
inside_first a registers times running rounds before inside none same =
    let is : inside ≡ running ∷ [] = same ∙ ap (λ (l : List ℕ). l ++ running ∷ []) none in
    record {
      grows = grows_refl a;
      count = ap length is;
      first = ap (λ (l : List ℕ). slice_index l 0) is;
      shows = λ comparison turn m r round phase q wire g o begun flags s less small. absurd (omega arith);
    }

pub inside_more : (a b c d : List Signal) (registers : Registers) (times : LoopTimes) (running n begun known bit number : ℕ) (rounds inside after : List ℕ) → 1 ≤ n →
    begun ≡ slice_index rounds n → number ≡ times.bits + n → ShowsInside a b registers times running rounds n inside → ShowsFlag b c registers number known →
    Gives c d bit 1 (λ m r. word_and (width m begun) (r.signal begun) (r.signal known)) → after ≡ inside ++ bit ∷ [] →
    ShowsInside a d registers times running rounds (n + 1) after
inside_more a b c d registers times running n begun known bit number rounds inside after some is_begun is_number t knows both same = record {
  grows = grows_then a b d t.grows (grows_then b c d knows.grows both.grows);
  count = ap length same ∙ length-append inside (bit ∷ []) ∙ ap (λ k. k + 1) t.count;
  first = ap (λ (l : List ℕ). slice_index l 0) same ∙ get_or_append_left inside (bit ∷ []) 0 0 (subst (λ k. 0 < k) (sym t.count) (omega arith)) ∙ t.first;
  shows = λ comparison turn m r round phase q wire g o has flags s less small. ⊎_elim
      (λ (e : suc s ≡ n).
      let at : slice_index after (suc s) ≡ bit =
      ap (λ (l : List ℕ). slice_index l (suc s)) same ∙ ap (slice_index (inside ++ bit ∷ [])) (e ∙ sym t.count) ∙ get_or_push inside bit 0 (length inside) refl in
      let round_bit = has (suc s) (omega arith) in
      let value = is_set (q.registers (times.bits + suc s)) in
      let left : HasBit m r begun (nat_lt s round) =
      subst (λ p. HasBit m r p (nat_lt s round)) (ap (slice_index rounds) e ∙ sym is_begun) (record { wide = round_bit.0; shows = round_bit.1 }) in
      subst (λ p. HasBit m r p (nat_lt s round && value)) (sym at)
      (⊎_elim
      (λ (in_it : s < round).
      let numbered : times.bits + suc s ≡ number = ap (λ k. times.bits + k) e ∙ sym is_number in
      let right : HasBit m r known value =
      knows.shows m r value (grows_then c d m.signals both.grows g) o (subst (λ k. IsFlag m r registers k value) numbered (flags (suc s) small in_it)) in
      has_both c d bit begun known both m r (nat_lt s round) value g o left right)
      (λ (le : round ≤ s).
      let off = le-ltb s round le in
      subst (λ z. HasBit m r bit (z && value)) (sym off)
      (both_off c d bit begun known m r both g o (subst (λ z. HasBit m r begun z) off left)))
      (cases_lt s round)))
      (λ (ne : suc s ≢ n).
      let lower : suc s < n = omega arith in
      let at : slice_index after (suc s) ≡ slice_index inside (suc s) =
      ap (λ (l : List ℕ). slice_index l (suc s)) same ∙ get_or_append_left inside (bit ∷ []) 0 (suc s) (subst (λ k. suc s < k) (sym t.count) lower) in
      subst (λ p. HasBit m r p (is_in (loop_of turn comparison) (times_view times) round phase q wire (suc s))) (sym at)
      (t.shows comparison turn m r round phase q wire (grows_then b c m.signals knows.grows (grows_then c d m.signals both.grows g)) o has flags s lower small))
      (cases_eq (suc s) n);
}

-- ---- all of them

some_is : (turn : Block) (comparison : ℕ) (times : LoopTimes) (round phase : ℕ) (q : Slot) (wire : ℕ → ℤ) (n : ℕ) →
    any_below (λ k. true && is_in (loop_of turn comparison) (times_view times) round phase q wire k) n ≡ is_some_in (loop_of turn comparison) (times_view times) round phase q wire n
some_is turn comparison times round phase q wire zero = refl
some_is turn comparison times round phase q wire (suc n) =
    ap (λ t. t || is_in (loop_of turn comparison) (times_view times) round phase q wire n) (some_is turn comparison times round phase q wire n)

not_later : (a b : ℕ) → nat_le a b ≡ not (nat_lt b a)
not_later a b = ⊎_elim (λ (less : b < a). lt-leb a b less ∙ ap not (sym (lt-ltb b a less))) (λ (le : a ≤ b). le-leb a b le ∙ ap not (sym (le-ltb b a le))) (cases_lt b a)

module _ (s0 s1 s2 s3 s4 : List Signal) (registers : Registers) (times : LoopTimes) (comparison : ℕ) (words : List Word) (states : LoopStates)
    (running goes left right ended count end : ℕ) (rounds inside stages ahead : List ℕ) (is_left : left ≡ slice_index rounds end)
    (is_right : right ≡ slice_index stages end) (is_rounds : rounds ≡ states.rounds) (is_stages : stages ≡ inside)
    (is_ahead : ahead ≡ take count stages) (is_count : count ≡ max 2 times.stages - 1) (is_end : end ≡ times.stages - 1)
    (runs : ShowsRunning s0 s1 registers times comparison words states running)
    (each : ShowsInside s1 s2 registers times running rounds (max 1 times.stages) inside)
    (any : MakesAny s2 s3 states.never ahead (λ k. true) (length ahead) goes)
    (both : Gives s3 s4 ended 1 (λ m r. word_and (width m left) (r.signal left) (r.signal right))) where
  module _ (turn : Block) (m : Module) (r : Reading) (round phase : ℕ) (q : Slot) (wire : ℕ → ℤ) (g : Grows s4 m.signals) (o : Obeys m r)
      (sees : SeesStages m r registers times comparison words states round phase q wire) where
    h3 : Grows s3 m.signals
    h3 = grows_then s3 s4 m.signals both.grows g

    h2 : Grows s2 m.signals
    h2 = grows_then s2 s3 m.signals any.grows h3

    h1 : Grows s1 m.signals
    h1 = grows_then s1 s2 m.signals each.grows h2

    abbrev in_stage : ℕ → Bool
    in_stage = is_in (loop_of turn comparison) (times_view times) round phase q wire

    has_rounds : HasRounds m r rounds (max 2 times.stages) round
    has_rounds = subst (λ (z : List ℕ). HasRounds m r z (max 2 times.stages) round) (sym is_rounds) sees.told.rounds

    in_first : (0 < round) ⊎ ((time_at times.operations comparison).phase ≤ phase) → HasBit m r (slice_index inside 0) (in_stage 0)
    in_first when =
        subst (λ p. HasBit m r p (in_stage 0)) (sym each.first) (runs.shows turn m r round phase q wire h1 o sees when)

    in_at : (s : ℕ) → s < times.stages → (0 < s) ⊎ (0 < round) ⊎ ((time_at times.operations comparison).phase ≤ phase) → HasBit m r (slice_index inside s) (in_stage s)
    in_at zero less (inl none) = absurd (omega arith)
    in_at zero less (inr when) = in_first when
    in_at (suc s) less when = each.shows comparison turn m r round phase q wire h2 o has_rounds sees.flags s (omega arith) less

    module _ (last : suc phase ≡ times.interval) where
      when_last : (s : ℕ) → (0 < s) ⊎ (0 < round) ⊎ ((time_at times.operations comparison).phase ≤ phase)
      when_last s = let low = sees.inside in inr (inr (omega arith))

      ahead_count : length ahead ≡ prologue (times_view times)
      ahead_count =
          let some = sees.some in
          let many = each.count in
          let p = rounds_are times.stages in
          let n : length ahead ≡ min count (length stages) = ap length is_ahead ∙ length-take count stages in
          let e : length stages ≡ length inside = ap length is_stages in
          let low : length ahead ≡ max 1 (times.stages - 1) = omega (arith, n, e) in
          by_rounds p low
        where
          by_rounds : (1 ≤ prologue (times_view times)) × (times.stages - 1 ≤ prologue (times_view times))
              × ((prologue (times_view times) ≡ 1) ⊎ (prologue (times_view times) ≡ times.stages - 1)) → length ahead ≡ max 1 (times.stages - 1) →
              length ahead ≡ prologue (times_view times)
          by_rounds p low = ⊎_elim (λ e. (let a = p.0 in let b = p.1 in omega (arith, a, b, e, low))) (λ e. (let a = p.0 in let b = p.1 in omega (arith, a, b, e, low))) p.2

      have_ahead : HaveBits m r ahead (length ahead) in_stage
      have_ahead k less =
          let some = sees.some in
          let many = each.count in
          let n : length ahead ≡ min count (length stages) = ap length is_ahead ∙ length-take count stages in
          let e : length stages ≡ length inside = ap length is_stages in
          let low : k < count = omega (arith, n, less) in
          let small : k < times.stages = omega (arith, n, e, less) in
          let at : slice_index ahead k ≡ slice_index inside k =
          ap (λ (z : List ℕ). slice_index z k) is_ahead ∙ get_or-take count stages k 0 low ∙ ap (λ (z : List ℕ). slice_index z k) is_stages in
          subst (λ p. HasBit m r p (in_stage k)) (sym at) (in_at k small (when_last k))

      has_goes : HasBit m r goes (goes_round (loop_of turn comparison) (times_view times) round phase q wire)
      has_goes =
          subst (λ t. HasBit m r goes t)
          (ap (any_below (λ k. true && in_stage k)) ahead_count ∙ some_is turn comparison times round phase q wire (prologue (times_view times)))
          (any.shows m r false in_stage h3 o sees.told.none have_ahead)

      has_ended : HasBit m r ended (is_last (loop_of turn comparison) (times_view times) round phase q wire)
      has_ended =
          let some = sees.some in
          let end_less : end < max 2 times.stages = omega (arith, is_end) in
          let begun = has_rounds end end_less in
          let begins : HasBit m r (slice_index rounds end) (not (nat_lt round (times.stages - 1))) =
          record { wide = begun.0; shows = begun.1 ∙ ap bit_of (ap (λ k. nat_le k round) is_end ∙ not_later (times.stages - 1) round) } in
          let small : times.stages - 1 < times.stages = omega arith in
          let inside_it : HasBit m r (slice_index stages end) (in_stage (times.stages - 1)) =
          subst (λ k. HasBit m r (slice_index stages k) (in_stage (times.stages - 1))) (sym is_end)
          (subst (λ (z : List ℕ). HasBit m r (slice_index z (times.stages - 1)) (in_stage (times.stages - 1))) (sym is_stages)
          (in_at (times.stages - 1) small (when_last (times.stages - 1)))) in
          has_both s3 s4 ended left right both m r (not (nat_lt round (times.stages - 1))) (in_stage (times.stages - 1)) g o
          (subst (λ p. HasBit m r p (not (nat_lt round (times.stages - 1)))) (sym is_left) begins)
          (subst (λ p. HasBit m r p (in_stage (times.stages - 1))) (sym is_right) inside_it)

  pub stages_told : TellsStages s0 s4 registers times comparison words states (record { inside = inside; goes_round = goes; is_last = ended })
  stages_told = record {
    grows = grows_then s0 s1 s4 runs.grows (grows_then s1 s2 s4 each.grows (grows_then s2 s3 s4 any.grows both.grows));
    count = each.count;
    inside = λ turn m r round phase q wire g o sees s less when. in_at turn m r round phase q wire g o sees s less when;
    goes_round = λ turn m r round phase q wire g o sees last. has_goes turn m r round phase q wire g o sees last;
    is_last = λ turn m r round phase q wire g o sees last. has_ended turn m r round phase q wire g o sees last;
  }

-- ---- how they are put together

pub flag_wired : (a b : List Signal) (registers : Registers) (n place : ℕ) (held : Held) → slice_get registers.kept n ≡ Some held →
    ResizedAdds a b held.register held.width 1 false place → IsFlagBit a b registers place
flag_wired a b registers n place held e t base types is = t base (is.kept n held e) (omega arith) (omega arith) (λ no. absurd cc)

pub no_flag_wired : (a b : List Signal) (registers : Registers) (place : ℕ) → ConstantAdds a b 1 0 place → IsFlagBit a b registers place
no_flag_wired a b registers place t base types is = t base (room a base types registers is) (omega arith) (omega arith) (pow_pos 1)

pub running_known : (a b : List Signal) (registers : Registers) (times : LoopTimes) (words : List Word) (states : LoopStates) (place : ℕ) → IsFlagBit a b registers place →
    IsRunningBit a b registers times words states place
running_known a b registers times words states place t base types is = t base types is.registers

pub running_wired : (s0 s1 s2 s3 s4 s5 s6 s7 : List Signal) (registers : Registers) (times : LoopTimes) (comparison k : ℕ) (words : List Word) (states : LoopStates)
    (known fails holds first ran runs place compares round : ℕ) (word : Word) → slice_get words comparison ≡ Some word → compares ≡ phase_bit states k →
    round ≡ slice_index states.rounds 1 → IsFlagBit s0 s1 registers known → BitOfOne s1 s2 word fails → NotAdds s2 s3 1 fails holds → NotAdds s3 s4 1 round first →
    BothAdds s4 s5 first known ran → BothAdds s5 s6 ran holds runs → ChoiceAdds s6 s7 1 compares runs known place → IsRunningBit s0 s7 registers times words states place
running_wired s0 s1 s2 s3 s4 s5 s6 s7 registers times comparison k words states known fails holds first ran runs place compares round word listed is_compares is_round
    knows tests turns begins either both chooses base types is =
    let one = knows base types is.registers in
    let own = words_after s0 s1 base words one.wires.grows is.words comparison word listed in
    let two = tests base own.0 own.1 in
    let three = turns base two.stands in
    let w2 = wires_then base s0 s1 s2 one.wires two.wires in
    let w3 = wires_then base s0 s2 s3 w2 three.wires in
    let begun = bit_there s0 base states.rounds 1 is.bits.rounds (let many = is.round_count in omega arith) in
    let four = begins base (subst (λ p. IsEarlier s3 base p 1) (sym is_round) (stands_after s0 s3 base (slice_index states.rounds 1) 1 w3.grows begun)) in
    let w4 = wires_then base s0 s3 s4 w3 four.wires in
    let known_2 = stands_after s1 s2 base known 1 two.wires.grows one.stands in
    let known_4 = stands_after s3 s4 base known 1 four.wires.grows (stands_after s2 s3 base known 1 three.wires.grows known_2) in
    let five = either base four.stands known_4 in
    let w5 = wires_then base s0 s4 s5 w4 five.wires in
    let holds_5 = stands_after s4 s5 base holds 1 five.wires.grows (stands_after s3 s4 base holds 1 four.wires.grows three.stands) in
    let six = both base five.stands holds_5 in
    let w6 = wires_then base s0 s5 s6 w5 six.wires in
    let known_6 = stands_after s5 s6 base known 1 six.wires.grows (stands_after s4 s5 base known 1 five.wires.grows known_4) in
    let here = subst (λ p. IsEarlier s6 base p 1) (sym is_compares) (stands_after s0 s6 base (phase_bit states k) 1 w6.grows (is.bits.phases k)) in
    let seven = chooses base here six.stands known_6 in
    record { wires = wires_then base s0 s6 s7 w6 seven.wires; stands = seven.stands }

pub inside_wired_first : (a : List Signal) (registers : Registers) (times : LoopTimes) (running : ℕ) (rounds before inside : List ℕ) → before ≡ [] →
    inside ≡ before ++ running ∷ [] → AreInsideBits a a registers times running rounds inside
inside_wired_first a registers times running rounds before inside none same base types is stands are many =
    adds_more base a a a before inside running (adds_none base a before none) (record { wires = wires_none base a; stands = stands }) same

pub inside_wired_more : (a b c d : List Signal) (registers : Registers) (times : LoopTimes) (running n begun known bit : ℕ) (rounds inside after : List ℕ) → n < times.stages →
    begun ≡ slice_index rounds n → AreInsideBits a b registers times running rounds inside → IsFlagBit b c registers known → BothAdds c d begun known bit → after ≡ inside ++ bit ∷ [] →
    AreInsideBits a d registers times running rounds after
inside_wired_more a b c d registers times running n begun known bit rounds inside after less is_begun t knows both same base types is stands are many =
    let before = t base types is stands are many in
    let flag_there = knows base types (registers_after a b base types registers before.wires.grows is) in
    let w = wires_then base a b c before.wires flag_there.wires in
    let begins = stands_after a c base (slice_index rounds n) 1 w.grows (bit_there a base rounds n are (omega arith)) in
    let made = both base (subst (λ p. IsEarlier c base p 1) (sym is_begun) begins) flag_there.stands in
    let more : Adds base b d 1 bit = record { wires = wires_then base b c d flag_there.wires made.wires; stands = made.stands } in
    adds_more base a b d inside after bit before more same

bits_of_first : (a : List Signal) (base : Base) (bits : List ℕ) (n : ℕ) → AreBits a base bits → AreBits a base (take n bits)
bits_of_first a base [] zero are k x e = absurd cc
bits_of_first a base [] (suc n) are k x e = absurd cc
bits_of_first a base (y ∷ bits) zero are k x e = absurd cc
bits_of_first a base (y ∷ bits) (suc n) are zero x e = are zero x e
bits_of_first a base (y ∷ bits) (suc n) are (suc k) x e = bits_of_first a base bits n (λ j z f. are (suc j) z f) k x e

pub stages_wired : (s0 s1 s2 s3 s4 : List Signal) (registers : Registers) (times : LoopTimes) (words : List Word) (states : LoopStates)
    (running goes left right ended count end : ℕ) (rounds inside stages ahead : List ℕ) → left ≡ slice_index rounds end → right ≡ slice_index stages end → rounds ≡ states.rounds →
    stages ≡ inside → ahead ≡ take count stages → end ≡ times.stages - 1 →
    length inside ≡ max 1 times.stages → IsRunningBit s0 s1 registers times words states running → AreInsideBits s1 s2 registers times running rounds inside →
    AddsAny s2 s3 states.never ahead goes → BothAdds s3 s4 left right ended →
    AreStageBits s0 s4 registers times words states (record { inside = inside; goes_round = goes; is_last = ended })
stages_wired s0 s1 s2 s3 s4 registers times words states running goes left right ended count end rounds inside stages ahead is_left is_right is_rounds is_stages is_ahead is_end long runs
    each any both
    base types is =
    let one = runs base types is in
    let states_1 = loop_states_after s0 s1 base states one.wires.grows is.bits in
    let rounds_1 = subst (λ (z : List ℕ). AreBits s1 base z) (sym is_rounds) states_1.rounds in
    let many : length rounds ≡ max 2 times.stages = ap length is_rounds ∙ is.round_count in
    let two = each base types (registers_after s0 s1 base types registers one.wires.grows is.registers) one.stands rounds_1 (omega arith) in
    let stages_2 = subst (λ (z : List ℕ). AreBits s2 base z) (sym is_stages) two.stand in
    let ahead_2 = subst (λ (z : List ℕ). AreBits s2 base z) (sym is_ahead) (bits_of_first s2 base stages count stages_2) in
    let never_2 = stands_after s1 s2 base states.never 1 two.wires.grows states_1.never in
    let three = any base ahead_2 never_2 in
    let w3 = wires_then base s1 s2 s3 two.wires three.wires in
    let stages_3 = of_bits_later base s2 s3 stages three.wires.grows stages_2 in
    let rounds_3 = of_bits_later base s1 s3 rounds w3.grows rounds_1 in
    let e : length stages ≡ length inside = ap length is_stages in
    let four = both base (subst (λ p. IsEarlier s3 base p 1) (sym is_left) (bit_there s3 base rounds end rounds_3 (omega (arith, many, is_end))))
    (subst (λ p. IsEarlier s3 base p 1) (sym is_right) (bit_there s3 base stages end stages_3 (omega (arith, e, long, is_end)))) in
    let w4 = wires_then base s1 s3 s4 w3 four.wires in
    record {
      wires = wires_then base s0 s1 s4 one.wires w4;
      inside = of_bits_later base s3 s4 inside four.wires.grows (of_bits_later base s2 s3 inside three.wires.grows two.stand);
      goes_round = stands_after s3 s4 base goes 1 four.wires.grows three.stands;
      is_last = four.stands;
    }
