-- A reading of a loop sees what its operations use and where its iterations are, and its writes are those that are done now.
use Rattle.std.proofs.Common.{◌≡◌, ◌≢◌, ℕ, zero, suc, ◌+◌, ◌-◌, ◌<◌, ◌≤◌, nat_eq, nat_lt, nat_le, Bool, true, false, not, ◌&&◌, if◌then◌else◌}
use Rattle.std.proofs.Common.{List, [], ◌∷◌, length, slice_get, slice_index, Some, max, ℤ, pos, refl, sym, ap, subst, ◌∙◌, inl, inr, ◌⊎◌, ⊎_elim, arith}
use Rattle.std.specs.Prelude.{slice_index_or}
use Rattle.std.proofs.lemmas.Bool.{cases_eq, cases_lt, le-leb, lt-ltb, le-ltb, and_parts, and_right}
use Rattle.std.proofs.lemmas.Option.{slice_get_within}
use Rattle.lists.proofs.Places.{get_there}
use Rattle.netlist.specs.declared.netlist.Signal.{Signal}
use Rattle.netlist.specs.declared.netlist.Module.{Module}
use Rattle.verilog_meaning.specs.Readings.{Reading}
use Rattle.hls_ints.specs.Residues.{bit_of}
use Rattle.hls_ints.specs.Types.{IntegerType, width_of}
use Rattle.block_ir.specs.declared.operand.Operand.{Operand}
use Rattle.block_ir.specs.declared.block.Operation.{Operation}
use Rattle.block_ir.specs.declared.block.Operation.TheVariants.{WriteArray}
use Rattle.block_ir.specs.declared.block.Final.{Final}
use Rattle.block_ir.specs.declared.block.Block.{Block}
use Rattle.block_ir.specs.declared.code.ThreadCode.{ThreadCode}
use Rattle.block_ir.specs.Run.{place_written}
use Rattle.plan_blocks.specs.View.{source_view, operand_view, operation_view, operations_view, finals_view}
use Rattle.planned_block.specs.Block.{Operand as PlannedOperand, Operation as PlannedOperation, Final as PlannedFinal, IsAmong, operation_at, size}
use Rattle.planned_block.specs.Plan.{target_of}
use Rattle.planned_block.specs.Slot.{Slot}
use Rattle.planned_block.proofs.Bits.{same_is, other_is, is_same}
use Rattle.planned_loop.specs.Loop.{Loop}
use Rattle.planned_loop.specs.Plan.{LoopPlan, IsOperand, Comes}
use Rattle.planned_loop.specs.Move.{smaller, is_set, is_in, is_done_now, Works}
use Rattle.planned_loop.specs.Next.{Owner, AreOwners, wires, loop_next}
use Rattle.planned_loop.proofs.NextSlots.{loop_moves}
use Rattle.planned_loop.proofs.RoundNumbers.{smaller_is}
use Rattle.circuit.specs.Modules.{Obeys}
use Rattle.operator_wires.specs.declared.words.Word.{Word}
use Rattle.operator_wires.specs.Gives.{Grows}
use Rattle.operator_wires.specs.Words.{IsWord}
use Rattle.thread_promise.specs.Types.{value_type, operand_type, IsTypedSource}
use Rattle.block_datapath.specs.declared.registers.Registers.{Registers}
use Rattle.block_datapath.proofs.OperationValues.{listed_view, within_view}
use Rattle.thread_slots.specs.Bits.{HasBit}
use Rattle.loop_datapath.specs.declared.times.OperationTime.{OperationTime}
use Rattle.loop_datapath.specs.declared.times.LoopTimes.{LoopTimes}
use Rattle.loop_datapath.specs.declared.states.LoopStates.{LoopStates}
use Rattle.loop_datapath.specs.declared.stage_bits.StageBits.{StageBits}
use Rattle.loop_datapath.specs.declared.leaving_loop.LoopWrite.{LoopWrite}
use Rattle.loop_datapath.specs.Times.{time_at, times_view, loop_of}
use Rattle.loop_datapath.specs.Ahead.{operand_there, SeesAhead, HasRounds}
use Rattle.loop_datapath.specs.Operations.{IsRightLoop, SeesValues, IsComputed, IsShownIn, ShowsWords}
use Rattle.loop_datapath.specs.States.{phase_bit, ShowsPhase, TellsLoop}
use Rattle.loop_datapath.specs.StageBits.{SeesComparison, SeesStages, TellsStages}
use Rattle.loop_datapath.specs.Leave.{ShowsWrite, SeesLoop}
use Rattle.loop_datapath.proofs.LoopOperands.{comes_through, comes_converted, operand_seen}
use Rattle.loop_datapath.proofs.StateBits.{phase_listed}

-- ---- operations and finals by their numbers

pub size_is : (os : List Operation) → length (operations_view os) ≡ length os
size_is [] = refl
size_is (o ∷ os) = let rest = size_is os in omega (arith, rest)

pub among : (fs : List Final) (k : ℕ) (f : Final) → slice_get fs k ≡ Some f → IsAmong (finals_view fs) (record { variable = f.variable; value = operand_view f.value })
among [] k f e = absurd cc
among (x ∷ fs) zero f e =
    let same : f ≡ x = cc in
    inl (ap (λ (z : Final). let out : PlannedFinal = record { variable = z.variable; value = operand_view z.value } in out) same)
among (x ∷ fs) (suc k) f e = inr (among fs k f e)

-- ---- rounds

round_ahead : (round last z : ℕ) → z ≤ last → nat_le z round ≡ nat_le z (smaller round last)
round_ahead round last z le = ⊎_elim
    (λ (less : round < last). ap (λ t. nat_le z (if t then round else last)) (sym (lt-ltb round last less)))
    (λ (more : last ≤ round).
    le-leb z round (omega arith) ∙ sym (le-leb z last le) ∙ ap (λ t. nat_le z (if t then round else last)) (sym (le-ltb round last more)))
    (cases_lt round last)

-- which rounds have begun is told by which stage is done
done_in : (the_loop : Loop) (p : LoopPlan) (round phase : ℕ) (q : Slot) (wire : ℕ → ℤ) (s : ℕ) →
    (not (nat_lt round s) && is_in the_loop p round phase q wire s) ≡ is_in the_loop p round phase q wire s
done_in the_loop p round phase q wire zero = ap (λ t. not t && is_in the_loop p round phase q wire 0) (le-ltb round 0 (omega arith))
done_in the_loop p round phase q wire (suc s) = ⊎_elim
    (λ (less : s < round).
    ap (λ t. not t && (nat_lt s round && is_set (q.registers (p.bit (suc s))))) (le-ltb round (suc s) (omega arith)))
    (λ (le : round ≤ s).
    let off = le-ltb s round le in
    ap (λ t. not (nat_lt round (suc s)) && (t && is_set (q.registers (p.bit (suc s))))) off ∙ and_right (not (nat_lt round (suc s))) false refl
    ∙ ap (λ t. t && is_set (q.registers (p.bit (suc s)))) (sym off))
    (cases_lt s round)

module _ (globals : List IntegerType) (code : ThreadCode) (registers : Registers) (l : ℕ) (turn : Block) (comparison : ℕ) (times : LoopTimes) (old new : List Signal)
    (words : List Word) (states : LoopStates) (bits : StageBits) (told : TellsLoop registers l times old new states)
    (shown : ShowsWords globals code registers turn times states.rounds old new (length turn.operations) words)
    (stages : TellsStages old new registers times comparison words states bits) (m : Module) (r : Reading) (g : Grows new m.signals) (o : Obeys m r)
    (owner : ℕ → Owner) (exit : ℕ) (q : Slot) (round phase : ℕ) (right : IsRightLoop globals code registers turn times comparison)
    (sees : SeesLoop globals code registers l turn comparison times m r q round phase) (owners : AreOwners (loop_of turn comparison) (times_view times) owner) where
  abbrev the_loop : Loop
  the_loop = loop_of turn comparison

  abbrev the_plan : LoopPlan
  the_plan = times_view times

  abbrev begun : ℕ
  begun = smaller round (times.stages - 1)

  abbrev wire : ℕ → ℤ
  wire = wires the_loop the_plan owner exit round phase q

  abbrev next : Slot
  next = loop_next the_loop the_plan owner exit round phase q

  abbrev time : ℕ → OperationTime
  time k = time_at times.operations k

  pub some : 0 < times.stages
  some = right.keeps.some

  pub begun_low : begun ≤ times.stages - 1
  begun_low = (smaller_is round (times.stages - 1)).1

  pub begun_less : begun < times.stages
  begun_less = let a = some in let b = begun_low in omega arith

  pub phase_low : phase < times.interval
  phase_low = sees.in_round.phase_below

  pub phases : ShowsPhase m r states phase
  phases = told.phases m r round phase g o sees.in_round

  pub all_rounds : HasRounds m r states.rounds (max 2 times.stages) round
  all_rounds = told.rounds m r round phase g o sees.in_round

  pub has_rounds : HasRounds m r states.rounds times.stages begun
  has_rounds z less =
      let bit = all_rounds z (omega arith) in
      (bit.0, bit.1 ∙ ap bit_of (round_ahead round (times.stages - 1) z (omega arith)))

  works : Works the_loop the_plan round phase q wire next
  works = ⊎_elim
      (λ (e : suc phase ≡ times.interval). ((loop_moves the_loop the_plan owner exit round phase q right.keeps owners).1 e).works)
      (λ (ne : suc phase ≢ times.interval).
      let low = phase_low in
      let less : suc phase < times.interval = omega arith in
      ((loop_moves the_loop the_plan owner exit round phase q right.keeps owners).0 less).works)
      (cases_eq (suc phase) times.interval)

  pub computed : IsComputed globals code registers turn times comparison begun phase q wire
  computed = works.wired

  pub is_operation : (k : ℕ) → k < size the_loop.block → k < length turn.operations
  is_operation k less = subst (λ n. k < n) (size_is turn.operations) less

  -- the word of an operation in its phase, once its stage has begun
  pub record HasWord (k : ℕ) (ty : IntegerType) : Type 0 where
    pub word : Word
    pub listed : slice_get words k ≡ Some word
    pub says : word.width ≡ width_of ty
    pub shows : (time k).phase ≡ phase → (time k).stage ≤ begun → IsWord m r word ty (wire k)

  pub has_word : (k : ℕ) (operation : Operation) → slice_get turn.operations k ≡ Some operation → HasWord k (value_type globals code operation)
  has_word k operation listed =
      let found = shown.each k operation (slice_get_within turn.operations k operation listed) listed in
      let is : IsShownIn globals code registers turn times states.rounds new k operation found.0 = found.2 in
      record {
        word = found.0;
        listed = found.1;
        says = is.says;
        shows = λ e low. is.shows comparison m r q wire begun right g o has_rounds begun_less low
            (subst (λ n. SeesValues globals code registers turn times m r q begun n) (sym e) sees.values)
            (subst (λ n. IsComputed globals code registers turn times comparison begun n q wire) (sym e) computed);
      }

  compares : SeesComparison m r times comparison words phase wire
  compares =
      let found = get_there turn.operations comparison (is_operation comparison right.keeps.compares) in
      let has = has_word comparison found.0 found.1 in
      let first : (time comparison).stage ≡ 0 = right.keeps.first in
      record { word = has.word; listed = has.listed; ty = value_type globals code found.0; shows = λ e. has.shows e (omega (arith, first)) }

  pub comparison_low : (time comparison).phase < times.interval
  comparison_low = (right.keeps.inside comparison right.keeps.compares).1

  pub sees_stages : SeesStages m r registers times comparison words states round phase q wire
  sees_stages = record {
    some = some;
    told = record { none = told.none m r g o; phases = phases; rounds = all_rounds };
    flags = sees.flags;
    compares = compares;
    inside = comparison_low;
  }

  -- ---- writes

  -- a source of an operand of operation k, where it is done now
  source_done : (k : ℕ) (a : Operand) (b : PlannedOperand) → k < size the_loop.block → (time k).phase ≡ phase → (time k).stage ≤ begun →
      IsTypedSource globals code turn.operations a.source → IsOperand (operation_at the_loop.block k) b →
      ((t i : ℕ) → Comes (finals_view turn.finals) t (source_view a.source) i → Comes (finals_view turn.finals) t b i) →
      SeesAhead m r registers words code.variables turn comparison times begun (time k).phase q wire (begun - (time k).stage) a.source
  source_done k a b lt now low typed is through =
      let inside = is_operation k lt in
      operand_seen globals code registers turn times comparison right states.rounds new words k
      (λ j operation less listed. shown.each j operation (omega arith) listed) m r q wire begun (time k).phase g o has_rounds begun_less
      (subst (λ n. SeesValues globals code registers turn times m r q begun n) (sym now) sees.values)
      (subst (λ n. IsComputed globals code registers turn times comparison begun n q wire) (sym now) computed) a b refl low lt typed is through

  -- A WRITE is made where its operation is done now, and its index and its value are those that the operation then has
  pub record WritesSo (k : ℕ) (place source : Operand) (write : LoopWrite) : Type 0 where
    pub condition : HasBit m r write.condition (is_done_now the_loop the_plan round phase q wire k)
    pub index : is_done_now the_loop the_plan round phase q wire k ≡ true →
        IsWord m r write.index (operand_type place) (operand_there turn comparison times begun phase q wire (begun - (time k).stage) place)
    pub value : is_done_now the_loop the_plan round phase q wire k ≡ true →
        IsWord m r write.value (operand_type source) (operand_there turn comparison times begun phase q wire (begun - (time k).stage) source)

  module _ (a b : List Signal) (k x n : ℕ) (index value : Operand) (write : LoopWrite) (more : Grows b m.signals)
      (listed : slice_get turn.operations k ≡ Some (WriteArray x n index value))
      (writes : ShowsWrite a b code registers turn times words bits states (time_at times.operations k) x index value write) where
    lt : k < size the_loop.block
    lt = within_view turn.operations k (WriteArray x n index value) listed

    abbrev done : Bool
    done = is_done_now the_loop the_plan round phase q wire k

    view : operation_at the_loop.block k ≡ operation_view (WriteArray x n index value)
    view = listed_view turn.operations k (WriteArray x n index value) listed

    condition_by : (t : Bool) → nat_eq (time k).phase phase ≡ t →
        HasBit m r write.condition (t && (not (nat_lt round (time k).stage) && is_in the_loop the_plan round phase q wire (time k).stage))
    condition_by false e =
        let other : phase ≢ (time k).phase = λ same. (let on = same_is (time k).phase phase (sym same) in let no : ⊥ = cc in no) in
        writes.rests m r more o (subst (λ t. HasBit m r (phase_bit states (time k).phase) t) (other_is phase (time k).phase other) (phases (time k).phase))
    condition_by true e =
        let now : (time k).phase ≡ phase = is_same (time k).phase phase e in
        let inside = right.keeps.inside k lt in
        let target = ap (λ (z : PlannedOperation). target_of z.kind) view in
        let late = right.keeps.tested k (right.keeps.writes k x lt target) lt in
        let first : (time comparison).stage ≡ 0 = right.keeps.first in
        let when : (0 < (time k).stage) ⊎ (0 < round) ⊎ ((time comparison).phase ≤ phase) =
        ⊎_elim (λ (earlier : (time comparison).stage < (time k).stage + 0). inl (omega arith))
        (λ (beside : ((time comparison).stage ≡ (time k).stage + 0) × ((time comparison).phase < (time k).phase)). inr (inr (let less = beside.1 in omega arith))) late in
        let bit = stages.inside turn m r round phase q wire g o sees_stages (time k).stage inside.0 when in
        let many = stages.count in
        let enough = some in
        let there : slice_index_or bits.inside (time k).stage states.never ≡ slice_index bits.inside (time k).stage =
        phase_listed bits.inside states.never (time k).stage (let low = inside.0 in omega (arith, many)) in
        subst (λ t. HasBit m r write.condition t) (sym (done_in the_loop the_plan round phase q wire (time k).stage))
        (writes.condition m r true (is_in the_loop the_plan round phase q wire (time k).stage) more o
        (subst (λ t. HasBit m r (phase_bit states (time k).phase) t) (same_is phase (time k).phase (sym now)) (phases (time k).phase))
        (subst (λ p. HasBit m r p (is_in the_loop the_plan round phase q wire (time k).stage)) (sym there) bit))

    phase_done : done ≡ true → (time k).phase ≡ phase
    phase_done e = is_same (time k).phase phase (and_parts (nat_eq (time k).phase phase)
        (not (nat_lt round (time k).stage) && is_in the_loop the_plan round phase q wire (time k).stage) e).0

    stage_done : done ≡ true → (time k).stage ≤ begun
    stage_done e =
        let both = (and_parts (nat_eq (time k).phase phase) (not (nat_lt round (time k).stage) && is_in the_loop the_plan round phase q wire (time k).stage) e).1 in
        let low = (and_parts (not (nat_lt round (time k).stage)) (is_in the_loop the_plan round phase q wire (time k).stage) both).0 in
        let inside = (right.keeps.inside k lt).0 in
        ⊎_elim
        (λ (less : round < (time k).stage). absurd (let is = lt-ltb round (time k).stage less in let no : not true ≡ true = ap not (sym is) ∙ low in let none : ⊥ = cc in none))
        (λ (le : (time k).stage ≤ round).
        ⊎_elim (λ (e : begun ≡ round). omega arith) (λ (e : begun ≡ times.stages - 1). omega arith) (smaller_is round (times.stages - 1)).2)
        (cases_lt round (time k).stage)

    pub write_done : WritesSo k index value write
    write_done = record {
      condition = condition_by (nat_eq (time k).phase phase) refl;
      index = λ e.
          let now = phase_done e in
          let low = stage_done e in
          let typed = right.typed.operations k (WriteArray x n index value) listed in
          subst (λ p. IsWord m r write.index (operand_type index) (operand_there turn comparison times begun p q wire (begun - (time k).stage) index)) now
          (writes.index comparison m r q wire begun more o has_rounds low begun_less
          (source_done k index (operation_view (WriteArray x n index value)).left lt now low typed.0 (inl (ap (λ (z : PlannedOperation). z.left) (sym view)))
          (λ t i c. comes_through (finals_view turn.finals) (λ v. pos (place_written n v)) (operand_view index) t i
          (comes_converted (finals_view turn.finals) index.conversions (source_view index.source) t i c))));
      value = λ e.
          let now = phase_done e in
          let low = stage_done e in
          let typed = right.typed.operations k (WriteArray x n index value) listed in
          subst (λ p. IsWord m r write.value (operand_type value) (operand_there turn comparison times begun p q wire (begun - (time k).stage) value)) now
          (writes.value comparison m r q wire begun more o has_rounds low begun_less
          (source_done k value (operation_view (WriteArray x n index value)).right lt now low typed.1 (inr (ap (λ (z : PlannedOperation). z.right) (sym view)))
          (λ t i c. comes_converted (finals_view turn.finals) value.conversions (source_view value.source) t i c)));
    }
