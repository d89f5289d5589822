-- An operand in each round: lemmas of the function that puts its word together, round by round.
use Rattle.std.proofs.Common.{◌≡◌, ℕ, ◌+◌, ◌-◌, ◌<◌, ◌≤◌, nat_eq, nat_le, true, false, if◌then◌else◌, List, slice_index}
use Rattle.std.proofs.Common.{ℤ, sym, ap, subst, ◌∙◌, arith, ⊎_elim}
use Rattle.std.specs.Prelude.{Result, IfOk}
use Rattle.std.proofs.lemmas.Bool.{cases_lt}
use Rattle.std.proofs.lemmas.Bool.Decides.{nat_tests}
use Rattle.netlist.specs.declared.netlist.Signal.{Signal}
use Rattle.netlist.specs.declared.netlist.Module.{Module}
use Rattle.verilog_meaning.specs.Readings.{Reading, width}
use Rattle.hls_ints.specs.Residues.{bit_of}
use Rattle.hls_ints.specs.Types.{IntegerType, width_of}
use Rattle.block_ir.specs.declared.operand.Operand.{Operand}
use Rattle.block_ir.specs.declared.block.Block.{Block}
use Rattle.plan_blocks.specs.View.{source_view}
use Rattle.planned_block.specs.Slot.{Slot}
use Rattle.operator_wires.specs.declared.words.Word.{Word}
use Rattle.operator_wires.specs.Gives.{Grows, Gives}
use Rattle.operator_wires.specs.Words.{IsWord}
use Rattle.circuit.specs.Modules.{Obeys}
use Rattle.operator_wires.proofs.PutSignals.{grows_then}
use Rattle.operator_wires.proofs.MadeWords.{of_ok}
use Rattle.thread_promise.specs.Types.{operand_type}
use Rattle.block_datapath.specs.declared.registers.Registers.{Registers}
use Rattle.loop_datapath.specs.declared.times.LoopTimes.{LoopTimes}
use Rattle.loop_datapath.specs.declared.times.RoundPhase.{RoundPhase}
use Rattle.loop_datapath.specs.Ahead.{reach_of, value_there, variable_there, operand_there, SeesAhead, IsNumber, HasRounds}
use Rattle.loop_datapath.specs.Ahead.{ShowsOperandAhead, ShowsTo, ShowsFurther, ShowsOperandIn}
use Rattle.loop_datapath.proofs.Settled.{converted_same, settled}

begun_bit : (z begun : ℕ) → z ≤ begun → nat_le z begun ≡ true
begun_bit z begun le = grind (arith, nat_tests)

unbegun_bit : (z begun : ℕ) → begun < z → nat_le z begun ≡ false
unbegun_bit z begun less = grind (arith, nat_tests)

-- one round more
pub further_shown : {E : Type 0} (x : Result ℕ E) (registers : Registers) (types : List IntegerType) (turn : Block) (times : LoopTimes) (words : List Word) (rounds : List ℕ)
    (operand : Operand) (a b c : List Signal) (at : RoundPhase) (d w place round : ℕ) (later : Word) → w ≡ width_of (operand_type operand) →
    round ≡ slice_index rounds at.begun → ShowsOperandAhead a b registers times words at d types turn operand later →
    IfOk x (λ out. Gives b c out w (λ m r. if nat_eq (r.signal round) 0 then r.signal place else r.signal later.place)) →
    IfOk x (ShowsFurther a c registers types turn times words rounds at d operand place)
further_shown x registers types turn times words rounds operand a b c at d w place round later says found t made =
    of_ok x (λ out. Gives b c out w (λ m r. if nat_eq (r.signal round) 0 then r.signal place else r.signal later.place))
    (ShowsFurther a c registers types turn times words rounds at d operand place)
    (λ out u. record {
      grows = grows_then a b c t.grows u.grows;
      wide = λ m g. u.wide m g ∙ says;
      before = λ m r begun g o has less small.
          let bit = ap r.signal found ∙ (has at.begun small).1 ∙ ap bit_of (unbegun_bit at.begun begun less) in
          u.shows m r g o ∙ ap (λ k. if nat_eq k 0 then r.signal place else r.signal later.place) bit;
      behind = λ comparison m r q wire begun g o has low small seen.
          let bit = ap r.signal found ∙ (has at.begun small).1 ∙ ap bit_of (begun_bit at.begun begun low) in
          let chosen = u.shows m r g o ∙ ap (λ k. if nat_eq k 0 then r.signal place else r.signal later.place) bit in
          let is = t.shows comparison m r q wire (grows_then b c m.signals u.grows g) o seen in
          record { wide = u.wide m g ∙ says; shows = chosen ∙ is.shows; typed = is.typed };
    }) made

module _ (registers : Registers) (types : List IntegerType) (turn : Block) (times : LoopTimes) (words : List Word) (rounds : List ℕ) (stage phase : ℕ) (operand : Operand) where
  -- the first round that the operation needs
  pub first_shown : (a b : List Signal) (at : RoundPhase) (word : Word) → at.begun ≡ stage → at.phase ≡ phase →
      ShowsOperandAhead a b registers times words at 0 types turn operand word → ShowsTo a b registers types turn times words rounds stage phase operand 0 word.place
  first_shown a b at word from same t = record {
    grows = t.grows;
    before = λ comparison m r q wire begun g o has low high less seen.
        let e : begun ≡ at.begun = omega (arith, low, high, from) in
        let d : begun - stage ≡ 0 = omega arith in
        subst (λ n. IsNumber m r word.place (operand_type operand) (operand_there turn comparison times n phase q wire (begun - stage) operand)) (sym e)
        (subst (λ n. IsNumber m r word.place (operand_type operand) (operand_there turn comparison times at.begun phase q wire n operand)) (sym d)
        (number comparison m r q wire g o
        (subst (λ n. SeesAhead m r registers words types turn comparison times at.begun phase q wire n operand.source) d
        (subst (λ n. SeesAhead m r registers words types turn comparison times n phase q wire (begun - stage) operand.source) e seen))));
    behind = λ comparison m r q wire begun g o has low less seen.
        let e : stage + 0 ≡ at.begun = omega (arith, from) in
        subst (λ n. IsNumber m r word.place (operand_type operand) (operand_there turn comparison times n phase q wire 0 operand)) (sym e)
        (number comparison m r q wire g o (subst (λ n. SeesAhead m r registers words types turn comparison times n phase q wire 0 operand.source) e seen));
  }
    where
      number : (comparison : ℕ) (m : Module) (r : Reading) (q : Slot) (wire : ℕ → ℤ) → Grows b m.signals → Obeys m r →
          SeesAhead m r registers words types turn comparison times at.begun phase q wire 0 operand.source →
          IsNumber m r word.place (operand_type operand) (operand_there turn comparison times at.begun phase q wire 0 operand)
      number comparison m r q wire g o seen =
          let is = t.shows comparison m r q wire g o
          (subst (λ n. SeesAhead m r registers words types turn comparison times at.begun n q wire 0 operand.source) (sym same) seen) in
          subst (λ n. IsNumber m r word.place (operand_type operand) (operand_there turn comparison times at.begun n q wire 0 operand)) same
          (record { wide = is.wide; shows = is.shows; typed = is.typed })

  pub more_shown : (a b c : List Signal) (at : RoundPhase) (n place out : ℕ) → at.begun ≡ stage + (n + 1) → at.phase ≡ phase → at.begun < times.stages →
      ShowsTo a b registers types turn times words rounds stage phase operand n place →
      ShowsFurther b c registers types turn times words rounds at (n + 1) operand place out →
      ShowsTo a c registers types turn times words rounds stage phase operand (n + 1) out
  more_shown a b c at n place out from same small t u = record {
    grows = grows_then a b c t.grows u.grows;
    before = λ comparison m r q wire begun g o has low high less seen.
        ⊎_elim
        (λ (earlier : begun < stage + (n + 1)).
        let is = t.before comparison m r q wire begun (grows_then b c m.signals u.grows g) o has low (omega arith) less seen in
        record { wide = u.wide m g; shows = u.before m r begun g o has (omega (arith, from)) small ∙ is.shows; typed = is.typed })
        (λ (past : stage + (n + 1) ≤ begun).
        let e : begun ≡ stage + (n + 1) = omega arith in
        let d : begun - stage ≡ n + 1 = omega arith in
        subst (λ k. IsNumber m r out (operand_type operand) (operand_there turn comparison times k phase q wire (begun - stage) operand)) (sym e)
        (subst (λ k. IsNumber m r out (operand_type operand) (operand_there turn comparison times (stage + (n + 1)) phase q wire k operand)) (sym d)
        (there comparison m r q wire begun g o has past
        (subst (λ k. SeesAhead m r registers words types turn comparison times (stage + (n + 1)) phase q wire k operand.source) d
        (subst (λ k. SeesAhead m r registers words types turn comparison times k phase q wire (begun - stage) operand.source) e seen)))))
        (cases_lt begun (stage + (n + 1)));
    behind = λ comparison m r q wire begun g o has low less seen. there comparison m r q wire begun g o has low seen;
  }
    where
      there : (comparison : ℕ) (m : Module) (r : Reading) (q : Slot) (wire : ℕ → ℤ) (begun : ℕ) → Grows c m.signals → Obeys m r →
          HasRounds m r rounds times.stages begun → stage + (n + 1) ≤ begun →
          SeesAhead m r registers words types turn comparison times (stage + (n + 1)) phase q wire (n + 1) operand.source →
          IsNumber m r out (operand_type operand) (operand_there turn comparison times (stage + (n + 1)) phase q wire (n + 1) operand)
      there comparison m r q wire begun g o has past seen =
          subst (λ k. IsNumber m r out (operand_type operand) (operand_there turn comparison times k phase q wire (n + 1) operand)) from
          (subst (λ k. IsNumber m r out (operand_type operand) (operand_there turn comparison times at.begun k q wire (n + 1) operand)) same
          (u.behind comparison m r q wire begun g o has (omega (arith, from, past)) small
          (subst (λ k. SeesAhead m r registers words types turn comparison times at.begun k q wire (n + 1) operand.source) (sym same)
          (subst (λ k. SeesAhead m r registers words types turn comparison times k phase q wire (n + 1) operand.source) (sym from) seen))))

  -- with as many rounds as make a difference
  pub all_shown : (a b : List Signal) (n place : ℕ) (out : Word) → n ≡ reach_of turn.finals (times.stages - 1 - stage) operand.source →
      out.place ≡ place → out.width ≡ width_of (operand_type operand) → out.signed ≡ (operand_type operand).signed →
      ShowsTo a b registers types turn times words rounds stage phase operand n place → ShowsOperandIn a b registers types turn times words rounds stage phase operand out
  all_shown a b n place out reach at says sign t = record {
    grows = t.grows;
    shows = λ comparison m r q wire begun g o has low less seen.
        word m r (operand_there turn comparison times begun phase q wire (begun - stage) operand)
        (⊎_elim
        (λ (earlier : begun < stage + n). t.before comparison m r q wire begun g o has low (omega arith) less seen)
        (λ (past : stage + n ≤ begun).
        let d = reach_of turn.finals (times.stages - 1 - stage) operand.source in
        let e : stage + d + (begun - (stage + n)) ≡ begun = omega (arith, reach) in
        let f : d + (begun - (stage + n)) ≡ begun - stage = omega (arith, reach) in
        let most : d + (begun - (stage + n)) ≤ times.stages - 1 - stage = omega (arith, reach) in
        let there = subst (λ k. SeesAhead m r registers words types turn comparison times begun phase q wire k operand.source) (sym f) seen in
        let is = settled turn comparison times phase q wire m r registers words types (times.stages - 1 - stage) (begun - (stage + n)) operand.source (stage + d) most
        (subst (λ k. SeesAhead m r registers words types turn comparison times k phase q wire (d + (begun - (stage + n))) operand.source) (sym e) there) in
        let here = t.behind comparison m r q wire begun g o has past less
        (subst (λ k. SeesAhead m r registers words types turn comparison times (stage + k) phase q wire k operand.source) (sym reach) is.0) in
        let same : operand_there turn comparison times begun phase q wire (begun - stage) operand ≡ operand_there turn comparison times (stage + n) phase q wire n operand =
        ap (λ k. operand_there turn comparison times begun phase q wire k operand) (sym f)
        ∙ ap (λ k. operand_there turn comparison times k phase q wire (d + (begun - (stage + n))) operand) (sym e)
        ∙ converted_same operand.conversions (source_view operand.source) (source_view operand.source)
        (variable_there turn comparison times (stage + d + (begun - (stage + n))) phase q wire (d + (begun - (stage + n))))
        (value_there turn comparison times (stage + d + (begun - (stage + n))) phase q wire (d + (begun - (stage + n))))
        (variable_there turn comparison times (stage + d) phase q wire d) (value_there turn comparison times (stage + d) phase q wire d) is.1
        ∙ ap (λ k. operand_there turn comparison times (stage + k) phase q wire k operand) (sym reach)
        in
        subst (λ (v : ℤ). IsNumber m r place (operand_type operand) v) (sym same) here)
        (cases_lt begun (stage + n)));
  }
    where
      word : (m : Module) (r : Reading) (v : ℤ) → IsNumber m r place (operand_type operand) v → IsWord m r out (operand_type operand) v
      word m r v is = record { says = says; sign = sign; wide = ap (width m) at ∙ is.wide; shows = ap r.signal at ∙ is.shows; typed = is.typed }
