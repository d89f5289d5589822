-- Where an iteration ends its finals are left in the variables: lemmas of each function that links them.
use Rattle.std.proofs.Common.{◌≡◌, ℕ, ◌+◌, ◌-◌, ◌<◌, nat_eq, Bool, true, false, not, ◌&&◌, if◌then◌else◌, List, [], ◌∷◌, ◌++◌, length, take, slice_get}
use Rattle.std.proofs.Common.{Option, Some, None, ℤ, refl, sym, ap, subst, ◌∙◌, arith, ⊎_elim}
use Rattle.std.proofs.lemmas.Bool.{cases_eq}
use Rattle.std.proofs.lemmas.Bool.Decides.{nat_tests}
use Rattle.netlist.specs.declared.netlist.Signal.{Signal}
use Rattle.netlist.specs.declared.netlist.Module.{Module}
use Rattle.verilog_meaning.specs.Readings.{Reading, width}
use Rattle.hls_ints.specs.Residues.{residue_of}
use Rattle.hls_ints.specs.Words.{word_and}
use Rattle.hls_ints.specs.Types.{IntegerType, HasType, width_of, wrapped}
use Rattle.block_ir.specs.declared.block.Final.{Final}
use Rattle.block_ir.specs.declared.block.Block.{Block}
use Rattle.block_ir.specs.declared.code.ThreadCode.{ThreadCode}
use Rattle.plan_blocks.specs.View.{operand_view, finals_view}
use Rattle.planned_block.specs.Block.{Operand as PlannedOperand, finished}
use Rattle.planned_block.specs.Slot.{Slot}
use Rattle.planned_loop.specs.Move.{operand_ahead}
use Rattle.planned_loop.proofs.OperandsAhead.{from_final, finished_is}
use Rattle.circuit.specs.Modules.{Obeys}
use Rattle.operator_wires.specs.declared.words.Word.{Word}
use Rattle.operator_wires.specs.Gives.{Grows, Gives}
use Rattle.operator_wires.specs.Words.{IsWord, Becomes}
use Rattle.operator_wires.specs.Built.{IsEarlier}
use Rattle.operator_wires.specs.Added.{BothAdds, IsConverted}
use Rattle.operator_wires.proofs.PutSignals.{grows_refl, grows_then}
use Rattle.operator_wires.proofs.BuiltWires.{stands_after, wires_then}
use Rattle.operator_wires.proofs.Bits.{set_bit}
use Rattle.thread_promise.specs.Types.{operand_type}
use Rattle.block_datapath.specs.declared.registers.Registers.{Registers}
use Rattle.block_datapath.specs.Chains.{next_number, is_set, SetsNext}
use Rattle.block_datapath.specs.Wired.{HasWidthAt, IsLinked}
use Rattle.block_datapath.proofs.OperandWords.{own_word}
use Rattle.block_datapath.proofs.LinkWires.{chains_after, links_none}
use Rattle.thread_slots.specs.Bits.{HasBit}
use Rattle.thread_slots.proofs.BitLists.{has_both}
use Rattle.loop_datapath.specs.declared.times.LoopTimes.{LoopTimes}
use Rattle.loop_datapath.specs.declared.times.RoundPhase.{RoundPhase}
use Rattle.loop_datapath.specs.declared.stage_bits.StageBits.{StageBits}
use Rattle.loop_datapath.specs.Times.{times_view, loop_of}
use Rattle.loop_datapath.specs.Ahead.{last_final, operand_there, SeesAhead, ShowsOperandAhead}
use Rattle.loop_datapath.specs.Wired.{IsWordAhead, SetsFinalLinks}
use Rattle.loop_datapath.specs.Leave.{SetsLoopFinal, SetsLoopFinals}
use Rattle.loop_datapath.proofs.LastFinals.{view_final, final_seen, last_taken, last_kept}
use Rattle.loop_datapath.proofs.AheadWires.{found_after}
use Rattle.loop_datapath.proofs.BitGates.{both_off}

-- ---- tests

unset : (b : Bool) (v w : ℕ) → (if b && false then v else w) ≡ w
unset true v w = refl
unset false v w = refl

by_number : (b : Bool) (v w : ℕ) → (if b && true then v else w) ≡ (if b then v else w)
by_number true v w = refl
by_number false v w = refl

set_of : (m : Module) (r : Reading) (place : ℕ) (t : Bool) → HasBit m r place t → is_set r place ≡ t
set_of m r place t has = ap (λ n. not (nat_eq n 0)) has.shows ∙ set_bit t

-- ---- one final

module _ (code : ThreadCode) (registers : Registers) (turn : Block) (times : LoopTimes) (words : List Word) (types : List IntegerType) (same : types ≡ code.variables)
    (at : RoundPhase) (ends : ℕ) (f : Final) where
  pub final_set : (a b c d : List Signal) (before after : List ℕ) (ty : IntegerType) (word own : Word) → slice_get types f.variable ≡ Some ty →
      ShowsOperandAhead a b registers times words at 0 types turn f.value word → Becomes b c word ty (wrapped ty) own → SetsNext c d before after f.variable ends own.place →
      SetsLoopFinal a d code registers turn times words at ends before after f
  final_set a b c d before after ty word own declared t u v = record {
    grows = grows_then a b d t.grows (grows_then b c d u.grows v.grows);
    count = v.count;
    rests = λ m r x g o bit less.
        v.shows m r x g o less
        ∙ ap (λ (k : Bool). if nat_eq x f.variable && k then r.signal own.place else next_number r before x) (set_of m r ends false bit)
        ∙ unset (nat_eq x f.variable) (r.signal own.place) (next_number r before x);
    shows = λ comparison m r q wire ty2 x g o bit listed kind seen less.
        let here : slice_get code.variables f.variable ≡ Some ty = ap (λ (l : List IntegerType). slice_get l f.variable) (sym same) ∙ declared in
        let one : ty ≡ ty2 = cc in
        let gc = grows_then c d m.signals v.grows g in
        let source = subst (λ (l : List IntegerType). SeesAhead m r registers words l turn comparison times at.begun at.phase q wire 0 f.value.source) (sym same) seen in
        let value = operand_there turn comparison times at.begun at.phase q wire 0 f.value in
        let first = t.shows comparison m r q wire (grows_then b c m.signals u.grows gc) o source in
        let is : IsWord m r word ty2 value = subst (λ (k : IntegerType). IsWord m r word k value) kind first in
        let last : IsWord m r own ty2 value =
        own_word m r own ty2 value is.typed (subst (λ (k : IntegerType). IsWord m r own k (wrapped k value)) one (u.shows m r ty2 value gc o is)) in (
          v.shows m r x g o less
              ∙ ap (λ (k : Bool). if nat_eq x f.variable && k then r.signal own.place else next_number r before x) (set_of m r ends true bit)
              ∙ by_number (nat_eq x f.variable) (r.signal own.place) (next_number r before x)
              ∙ ap (λ n. if nat_eq x f.variable then n else next_number r before x) last.shows,
          is.typed,
        );
  }

  pub final_unset : (a : List Signal) (before : List ℕ) → slice_get types f.variable ≡ None → SetsLoopFinal a a code registers turn times words at ends before before f
  final_unset a before none = record {
    grows = grows_refl a;
    count = refl;
    rests = λ m r x g o bit less. refl;
    shows = λ comparison m r q wire ty x g o bit listed kind seen less.
        absurd (let missing : slice_get code.variables f.variable ≡ None = ap (λ (l : List IntegerType). slice_get l f.variable) (sym same) ∙ none in cc);
  }

-- ---- some finals

-- where a bit is set variables get the first n of the finals
pub record SetsSome (old new : List Signal) (code : ThreadCode) (registers : Registers) (turn : Block) (times : LoopTimes) (words : List Word) (at : RoundPhase) (ends : ℕ)
    (before after : List ℕ) (finals : List Final) (n : ℕ) : Type 0 where
  pub grows : Grows old new
  pub count : length after ≡ length before
  pub rests : (m : Module) (r : Reading) (x : ℕ) → Grows new m.signals → Obeys m r → HasBit m r ends false → x < length before → next_number r after x ≡ next_number r before x
  pub shows : (comparison : ℕ) (m : Module) (r : Reading) (q : Slot) (wire : ℕ → ℤ) (x : ℕ) (ty : IntegerType) → Grows new m.signals → Obeys m r → HasBit m r ends true →
      ((k : ℕ) (f : Final) → slice_get finals k ≡ Some f → (slice_get code.variables f.variable ≡ Some (operand_type f.value))
      × SeesAhead m r registers words code.variables turn comparison times at.begun at.phase q wire 0 f.value.source) →
      slice_get code.variables x ≡ Some ty → x < length before → next_number r before x ≡ residue_of (width_of ty) (q.variables x) → HasType ty (q.variables x) →
      (next_number r after x
      ≡ residue_of (width_of ty) (finished (operand_ahead (loop_of turn comparison) (times_view times) at.begun at.phase q wire 0) (finals_view (take n finals)) q.variables x))
      × HasType ty (finished (operand_ahead (loop_of turn comparison) (times_view times) at.begun at.phase q wire 0) (finals_view (take n finals)) q.variables x)

-- what finals leave, by the last one
finished_last : (value : PlannedOperand → ℤ) (fs : List Final) (old : ℕ → ℤ) (x : ℕ) →
    finished value (finals_view fs) old x ≡ from_final value (view_final (last_final fs x)) (old x)
finished_last value fs old x = finished_is value (finals_view fs) old x ∙ ap (λ (o : Option PlannedOperand). from_final value o (old x)) (final_seen fs x)

finished_taken : (value : PlannedOperand → ℤ) (fs : List Final) (f : Final) (old : ℕ → ℤ) (x : ℕ) → f.variable ≡ x →
    finished value (finals_view (fs ++ f ∷ [])) old x ≡ value (operand_view f.value)
finished_taken value fs f old x e =
    finished_last value (fs ++ f ∷ []) old x ∙ ap (λ (o : Option Final). from_final value (view_final o) (old x)) (last_taken fs f x e)

finished_kept : (value : PlannedOperand → ℤ) (fs : List Final) (f : Final) (old : ℕ → ℤ) (x : ℕ) → (f.variable ≡ x → ⊥) →
    finished value (finals_view (fs ++ f ∷ [])) old x ≡ finished value (finals_view fs) old x
finished_kept value fs f old x ne =
    finished_last value (fs ++ f ∷ []) old x ∙ ap (λ (o : Option Final). from_final value (view_final o) (old x)) (last_kept fs f x ne) ∙ sym (finished_last value fs old x)

chosen_one : (x k v w : ℕ) → k ≡ x → (if nat_eq x k then v else w) ≡ v
chosen_one x k v w e = let is : nat_eq x k ≡ true = grind (arith, nat_tests) in ap (λ (b : Bool). if b then v else w) is

chosen_other : (x k v w : ℕ) → (k ≡ x → ⊥) → (if nat_eq x k then v else w) ≡ w
chosen_other x k v w ne = let is : nat_eq x k ≡ false = grind (arith, nat_tests) in ap (λ (b : Bool). if b then v else w) is

module _ (code : ThreadCode) (registers : Registers) (turn : Block) (times : LoopTimes) (words : List Word) (at : RoundPhase) (ends : ℕ) (finals : List Final) where
  pub some_none : (a : List Signal) (before : List ℕ) → SetsSome a a code registers turn times words at ends before before finals 0
  some_none a before = record {
    grows = grows_refl a;
    count = refl;
    rests = λ m r x g o bit less. refl;
    shows = λ comparison m r q wire x ty g o bit seen listed less held typed. (held, typed);
  }

  pub some_more : (a b c : List Signal) (before middle after : List ℕ) (n : ℕ) (f : Final) → slice_get finals n ≡ Some f → take (n + 1) finals ≡ take n finals ++ f ∷ [] →
      SetsSome a b code registers turn times words at ends before middle finals n → SetsLoopFinal b c code registers turn times words at ends middle after f →
      SetsSome a c code registers turn times words at ends before after finals (n + 1)
  some_more a b c before middle after n f next longer t u = record {
    grows = grows_then a b c t.grows u.grows;
    count = u.count ∙ t.count;
    rests = λ m r x g o bit less.
        u.rests m r x g o bit (subst (λ k. x < k) (sym t.count) less) ∙ t.rests m r x (grows_then b c m.signals u.grows g) o bit less;
    shows = λ comparison m r q wire x ty g o bit seen listed less held typed.
        let value = operand_ahead (loop_of turn comparison) (times_view times) at.begun at.phase q wire 0 in
        let own = seen n f next in
        let first = t.shows comparison m r q wire x ty (grows_then b c m.signals u.grows g) o bit seen listed less held typed in
        let last = u.shows comparison m r q wire (operand_type f.value) x g o bit own.0 refl own.1 (subst (λ k. x < k) (sym t.count) less) in
        subst (λ (fs : List Final). (next_number r after x ≡ residue_of (width_of ty) (finished value (finals_view fs) q.variables x))
        × HasType ty (finished value (finals_view fs) q.variables x)) (sym longer)
        (⊎_elim
        (λ (e : f.variable ≡ x).
        let kind : operand_type f.value ≡ ty = (let one = own.0 in cc) in
        let is = sym (finished_taken value (take n finals) f q.variables x e) in
        let number : next_number r after x ≡ residue_of (width_of ty) (value (operand_view f.value)) =
        last.0 ∙ chosen_one x f.variable (residue_of (width_of (operand_type f.value)) (value (operand_view f.value))) (next_number r middle x) e
        ∙ ap (λ (k : IntegerType). residue_of (width_of k) (value (operand_view f.value))) kind in (
          number ∙ ap (residue_of (width_of ty)) is,
          subst (λ (v : ℤ). HasType ty v) is (subst (λ (k : IntegerType). HasType k (value (operand_view f.value))) kind last.1),
        ))
        (λ (ne : f.variable ≡ x → ⊥).
        let is = sym (finished_kept value (take n finals) f q.variables x ne) in (
          last.0 ∙ chosen_other x f.variable (residue_of (width_of (operand_type f.value)) (value (operand_view f.value))) (next_number r middle x) ne
              ∙ first.0 ∙ ap (residue_of (width_of ty)) is,
          subst (λ (v : ℤ). HasType ty v) is first.1,
        ))
        (cases_eq f.variable x));
  }

  -- ---- all finals, where a round ends and an iteration with it

  pub all_set : (a b c : List Signal) (bits : StageBits) (end : ℕ) (before after : List ℕ) (n : ℕ) → at.begun ≡ times.stages - 1 → at.phase ≡ times.interval - 1 →
      Gives a b ends 1 (λ m r. word_and (width m end) (r.signal end) (r.signal bits.is_last)) →
      SetsSome b c code registers turn times words at ends before after finals n → SetsLoopFinals a c code registers turn times words bits end before after finals n
  all_set a b c bits end before after n from last t u = record {
    grows = grows_then a b c t.grows u.grows;
    count = u.count;
    rests = λ m r x g o off less. u.rests m r x g o (both_off a b ends end bits.is_last m r t (grows_then b c m.signals u.grows g) o off) less;
    stays = λ m r x g o on off less.
        u.rests m r x g o (has_both a b ends end bits.is_last t m r true false (grows_then b c m.signals u.grows g) o on off) less;
    shows = λ comparison m r q wire x ty g o on is seen listed less held typed.
        let bit = has_both a b ends end bits.is_last t m r true true (grows_then b c m.signals u.grows g) o on is in
        let value : ℕ → ℕ → ℤ = λ begun phase. finished (operand_ahead (loop_of turn comparison) (times_view times) begun phase q wire 0) (finals_view (take n finals)) q.variables x in
        let there = u.shows comparison m r q wire x ty g o bit
        (λ k f e.
        let own = seen k f e in (
          own.0,
          subst (λ j. SeesAhead m r registers words code.variables turn comparison times at.begun j q wire 0 f.value.source) (sym last)
              (subst (λ j. SeesAhead m r registers words code.variables turn comparison times j (times.interval - 1) q wire 0 f.value.source) (sym from) own.1),
        ))
        listed less held typed in
        let same : value at.begun at.phase ≡ value (times.stages - 1) (times.interval - 1) = ap (λ j. value j at.phase) from ∙ ap (value (times.stages - 1)) last in (
          there.0 ∙ ap (residue_of (width_of ty)) same,
          subst (λ (v : ℤ). HasType ty v) same there.1,
        );
  }

-- ---- wires

module _ (types : List IntegerType) (registers : Registers) (words : List Word) where
  pub final_linked : (a b c d : List Signal) (ends number : ℕ) (before after : List ℕ) (from ty : IntegerType) (word own : Word) → slice_get types number ≡ Some ty →
      IsWordAhead a b types registers words from word → IsConverted b c word ty own → IsLinked c d number own.width ends own.place before after →
      SetsFinalLinks a d types registers words ends ends before after
  final_linked a b c d ends number before after from ty word own declared t u v base found last end chains =
      let first = t base found in
      let next = u base from first.word in
      let wires = wires_then base a b c first.wires next.wires in
      let wide : HasWidthAt registers.variables number own.width =
      λ h e.
      (let there = found.registers.variables number h e in
      let listed = there.declared in
      let one : there.ty ≡ ty = cc in
      there.says ∙ ap width_of one ∙ sym next.word.says) in
      let link = v base registers.variables (chains_after a c base registers.variables before wires.grows chains) wide (stands_after a c base ends 1 wires.grows last)
      (subst (λ w. IsEarlier c base own.place w) (sym next.word.says) next.word.stands) in
      record { wires = wires_then base a c d wires link.wires; chains = link.chains }

  pub final_unlinked : (a : List Signal) (ends : ℕ) (before : List ℕ) → SetsFinalLinks a a types registers words ends ends before before
  final_unlinked a ends before base found last end chains = links_none a base registers.variables before chains

  pub links_more : (a b c : List Signal) (ends : ℕ) (before middle after : List ℕ) → SetsFinalLinks a b types registers words ends ends before middle →
      SetsFinalLinks b c types registers words ends ends middle after → SetsFinalLinks a c types registers words ends ends before after
  links_more a b c ends before middle after t u base found last end chains =
      let first = t base found last end chains in
      let grown = first.wires.grows in
      let next = u base (found_after a b base types registers words grown found) (stands_after a b base ends 1 grown last) (stands_after a b base ends 1 grown end) first.chains in
      record { wires = wires_then base a b c first.wires next.wires; chains = next.chains }

  pub all_linked : (a b c : List Signal) (last end ends : ℕ) (before after : List ℕ) → BothAdds a b end last ends → SetsFinalLinks b c types registers words ends ends before after →
      SetsFinalLinks a c types registers words last end before after
  all_linked a b c last end ends before after t u base found is_last is_end chains =
      let both = t base is_end is_last in
      let grown = both.wires.grows in
      let next = u base (found_after a b base types registers words grown found) both.stands both.stands (chains_after a b base registers.variables before grown chains) in
      record { wires = wires_then base a b c both.wires next.wires; chains = next.chains }
