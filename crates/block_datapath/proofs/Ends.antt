-- The end of a block as the planned block has it.
use Rattle.std.proofs.Common.{◌≡◌, ◌≢◌, ℕ, zero, suc, ◌-◌, ◌^◌, ◌<◌, ◌≤◌, Bool, true, false, ◌&&◌, nat_eq, if◌then◌else◌}
use Rattle.std.proofs.Common.{List, [], ◌∷◌, length, slice_get, Some, ℤ, pos, negsuc, refl, sym, ap, subst, ◌∙◌, arith, inl, inr, ⊎_elim, max, min}
use Rattle.std.proofs.lemmas.Option.{slice_get_within}
use Rattle.std.proofs.lemmas.Bool.{eqb-true, cases_eq}
use mathlib.Core.Bool.{and-true, and-false}
use Rattle.std.proofs.Math.Nat.{min-eq_left}
use Rattle.interleaving.specs.Memory.{Location}
use Rattle.netlist.specs.declared.netlist.Signal.{Signal}
use Rattle.netlist.specs.declared.netlist.Module.{Module}
use Rattle.verilog_meaning.specs.Readings.{Reading, width}
use Rattle.hls_ints.specs.Residues.{residue_of, bit_of}
use Rattle.hls_ints.specs.Types.{IntegerType, HasType, width_of}
use Rattle.hls_ints.specs.Operators.{is_zero}
use Rattle.block_ir.specs.declared.operand.Source.{Source}
use Rattle.block_ir.specs.declared.operand.Source.TheVariants.{Constant, Variable, Value}
use Rattle.block_ir.specs.declared.block.Operation.{Operation}
use Rattle.block_ir.specs.declared.block.Final.{Final}
use Rattle.block_ir.specs.declared.block.Next.{Next}
use Rattle.block_ir.specs.declared.block.Next.TheVariants.{Jump, Branch}
use Rattle.block_ir.specs.declared.block.Block.{Block}
use Rattle.block_ir.specs.declared.code.ThreadCode.{ThreadCode}
use Rattle.block_ir.specs.declared.plan.BlockPlan.{BlockPlan}
use Rattle.planned_block.specs.Block.{Operand as PlannedOperand, Final as PlannedFinal, IsAmong, IsUsedAtEnd, finished, leads_to, is_zero as planned_zero}
use Rattle.planned_block.specs.Advance.{last_of}
use Rattle.planned_block.specs.Slot.{Slot, value_now, operand_now}
use Rattle.planned_block.proofs.Bits.{same_is, other_is}
use Rattle.thread_promise.specs.View.{operand_view, finals_view, next_view, planned_view, plan_view}
use Rattle.operator_wires.specs.Modules.{Obeys}
use Rattle.operator_wires.specs.Gives.{Grows}
use Rattle.operator_wires.specs.Words.{IsWord}
use Rattle.operator_wires.proofs.PutSignals.{grows_then}
use Rattle.block_datapath.specs.declared.registers.Registers.{Registers}
use Rattle.block_datapath.specs.declared.operands.Given.{Given}
use Rattle.block_datapath.specs.declared.states.Moment.{Moment}
use Rattle.block_datapath.specs.declared.ending.Finish.{Finish}
use Rattle.block_datapath.specs.declared.leaving_block.Left.{Left}
use Rattle.thread_promise.specs.Types.{operand_type, IsTypedSource, IsTypedNext}
use Rattle.block_datapath.specs.Seen.{IsValue, SeesSource}
use Rattle.block_datapath.specs.Operations.{seen_value, SeesSlot, IsFed, IsRight, IsShown, ShowsFirst}
use Rattle.block_datapath.specs.Chains.{next_number, TellsStage, IsMoment, TellsState}
use Rattle.block_datapath.specs.Ending.{IsFinal, ShowsFinals, next_stage, SeesTest, ShowsNext, finishes_in, finish_number, SetsFirst}
use Rattle.block_datapath.specs.Leave.{HasStage, IsInStage, RestsSo, FinishesBlock}
use Rattle.block_datapath.proofs.OperationValues.{value_here, uses_source, first_grown, first_from}

-- ---- lists of finals

among : (fs : List Final) (k : ℕ) (f : Final) → slice_get fs k ≡ Some f → IsAmong (finals_view fs) (record { variable = f.variable; value = operand_view f.value })
among [] k f e = absurd cc
among (x ∷ fs) zero f e =
    let same : f ≡ x = cc in
    inl (ap (λ (z : Final). let out : PlannedFinal = record { variable = z.variable; value = operand_view z.value } in out) same)
among (x ∷ fs) (suc k) f e = inr (among fs k f e)

last_of-none : (test : ℕ → Bool) (number : ℕ → ℕ) (old n : ℕ) → ((k : ℕ) → test k ≡ false) → last_of test number old n ≡ old
last_of-none test number old zero none = refl
last_of-none test number old (suc n) none = ap (λ (t : Bool). if t then number n else last_of test number old n) (none n) ∙ last_of-none test number old n none

last_of-shift : (test : ℕ → Bool) (number : ℕ → ℕ) (old n : ℕ)
    → last_of test number old (suc n) ≡ last_of (λ k. test (suc k)) (λ k. number (suc k)) (if test 0 then number 0 else old) n
last_of-shift test number old zero = refl
last_of-shift test number old (suc n) = ap (λ z. if test (suc n) then number (suc n) else z) (last_of-shift test number old n)

-- the finish of each final is of its variable, and of x it shows the value
abbrev Finishes : Reading → ℕ → ℕ → (PlannedOperand → ℤ) → List Final → List Finish → Type 0
Finishes r x w value fs os =
    (k : ℕ) (f : Final) → slice_get fs k ≡ Some f → (out : Finish) × (slice_get os k ≡ Some out) × (out.variable ≡ f.variable)
    × (f.variable ≡ x → r.signal out.word.place ≡ residue_of w (value (operand_view f.value)))

-- what a variable gets has its type
finals_typed : (ty : IntegerType) (x : ℕ) (value : PlannedOperand → ℤ) (fs : List Final) (after : ℕ → ℤ)
    → ((k : ℕ) (f : Final) → slice_get fs k ≡ Some f → f.variable ≡ x → HasType ty (value (operand_view f.value))) → HasType ty (after x) →
    HasType ty (finished value (finals_view fs) after x)
finals_typed ty x value [] after each e = e
finals_typed ty x value (f ∷ fs) after each e =
    finals_typed ty x value fs (λ y. if nat_eq y f.variable then value (operand_view f.value) else after y) (λ k g listed. each (suc k) g listed)
    (⊎_elim
    (λ (same : x ≡ f.variable).
    subst (λ (t : Bool). HasType ty (if t then value (operand_view f.value) else after x)) (sym (same_is x f.variable same)) (each 0 f refl (sym same)))
    (λ (ne : x ≢ f.variable). subst (λ (t : Bool). HasType ty (if t then value (operand_view f.value) else after x)) (sym (other_is x f.variable ne)) e)
    (cases_eq x f.variable))

one_final : (r : Reading) (x w old : ℕ) (value : PlannedOperand → ℤ) (f : Final) (o : Finish) (after : ℕ → ℤ) → old ≡ residue_of w (after x) → o.variable ≡ f.variable
    → (f.variable ≡ x → r.signal o.word.place ≡ residue_of w (value (operand_view f.value)))
    → (if nat_eq x o.variable && true then r.signal o.word.place else old) ≡ residue_of w (if nat_eq x f.variable then value (operand_view f.value) else after x)
one_final r x w old value f o after e variable shows =
    ap (λ (t : Bool). if t then r.signal o.word.place else old) (and-true (nat_eq x o.variable) ∙ ap (nat_eq x) variable)
    ∙ ⊎_elim here there (cases_eq x f.variable)
  where
    here : x ≡ f.variable → (if nat_eq x f.variable then r.signal o.word.place else old) ≡ residue_of w (if nat_eq x f.variable then value (operand_view f.value) else after x)
    here same =
        ap (λ (t : Bool). if t then r.signal o.word.place else old) (same_is x f.variable same) ∙ shows (sym same)
        ∙ ap (λ (t : Bool). residue_of w (if t then value (operand_view f.value) else after x)) (sym (same_is x f.variable same))

    there : x ≢ f.variable → (if nat_eq x f.variable then r.signal o.word.place else old) ≡ residue_of w (if nat_eq x f.variable then value (operand_view f.value) else after x)
    there ne =
        ap (λ (t : Bool). if t then r.signal o.word.place else old) (other_is x f.variable ne) ∙ e
        ∙ ap (λ (t : Bool). residue_of w (if t then value (operand_view f.value) else after x)) (sym (other_is x f.variable ne))

finals_last : (r : Reading) (x w : ℕ) (value : PlannedOperand → ℤ) (fs : List Final) (os : List Finish) (old : ℕ) (after : ℕ → ℤ) → Finishes r x w value fs os →
    old ≡ residue_of w (after x)
    → last_of (λ k. finishes_in (slice_get os k) x && true) (λ k. finish_number r (slice_get os k)) old (length fs) ≡ residue_of w (finished value (finals_view fs) after x)
finals_last r x w value [] os old after each e = e
finals_last r x w value (f ∷ fs) [] old after each e = let t = each 0 f refl in let h = t.1 in absurd cc
finals_last r x w value (f ∷ fs) (o ∷ os) old after each e =
    let t = each 0 f refl in
    let first : t.0 ≡ o = (let h = t.1 in cc) in
    let variable : o.variable ≡ f.variable = ap (λ (z : Finish). z.variable) (sym first) ∙ t.2 in
    let shows : f.variable ≡ x → r.signal o.word.place ≡ residue_of w (value (operand_view f.value)) = λ s. ap (λ (z : Finish). r.signal z.word.place) (sym first) ∙ t.3 s in
    last_of-shift (λ k. finishes_in (slice_get (o ∷ os) k) x && true) (λ k. finish_number r (slice_get (o ∷ os) k)) old (length fs)
    ∙ finals_last r x w value fs os (if nat_eq x o.variable && true then r.signal o.word.place else old)
    (λ y. if nat_eq y f.variable then value (operand_view f.value) else after y)
    (λ k g listed. each (suc k) g listed) (one_final r x w old value f o after e variable shows)

-- ---- what the end of a block sees

module _ (globals : List IntegerType) (code : ThreadCode) (registers : Registers) (b : Block) (p : BlockPlan) (right : IsRight globals code registers b p) (new : List Signal)
    (values : List Given)
    (shown : (k : ℕ) (o : Operation) → k < length b.operations → slice_get b.operations k ≡ Some o
    → (given : Given) × (slice_get values k ≡ Some given) × IsShown globals code registers b p new k o given)
    (bank : Location → ℕ) (m : Module) (r : Reading) (q : Slot) (wire : ℕ → ℤ) (grows : Grows new m.signals) (obeys : Obeys m r) (sees : SeesSlot globals code registers b p m r q)
    (wired : IsFed globals code registers b p bank m r q wire) (at_end : suc q.state ≡ p.states) where
  below_all : (k : ℕ) (o : Operation) → slice_get b.operations k ≡ Some o → k < length b.operations
  below_all k o e = slice_get_within b.operations k o e

  source_end : (source : Source) (state : ℕ) → state ≡ q.state → IsTypedSource globals code b.operations source →
      ((j : ℕ) (ty : IntegerType) → source ≡ Value j ty → IsUsedAtEnd (planned_view b) j)
      → SeesSource m r registers code.variables values state q.variables (value_now (planned_view b) (plan_view b p) q wire) source
  source_end (Constant ty v) state at typed uses = typed
  source_end (Variable x ty) state at typed uses = sees.variables x ty typed
  source_end (Value j ty) state at typed uses =
      let u = uses j ty refl in
      let used = right.keeps.used_last j u in
      let ends = right.keeps.ends j (right.keeps.final j u) in
      subst (λ (t : IntegerType). IsValue m r registers values state j t (value_now (planned_view b) (plan_view b p) q wire j)) typed.2
      (value_here globals code registers b p right new values (length b.operations) shown bank m r q wire grows obeys sees wired j typed.0 state
      (below_all j typed.0 typed.1) typed.1 at
      (omega arith) (omega arith))

  final_end : (k : ℕ) (f : Final) (state : ℕ) → state ≡ q.state → slice_get b.finals k ≡ Some f
      → SeesSource m r registers code.variables values state q.variables (value_now (planned_view b) (plan_view b p) q wire) f.value.source
  final_end k f state at listed =
      source_end f.value.source state at (right.typed.finals k f listed).0
      (λ j ty e. inl (record { variable = f.variable; value = operand_view f.value }, among b.finals k f listed, uses_source f.value j ty e))

  test_end : (next : Next) (state : ℕ) → state ≡ q.state → b.next ≡ next → IsTypedNext globals code b.operations next
      → SeesTest registers code values state m r q.variables (value_now (planned_view b) (plan_view b p) q wire) next
  test_end (Jump l) state at e typed = tt
  test_end (Branch test nonzero otherwise) state at e typed =
      source_end test.source state at typed.0
      (λ j ty s. inr (operand_view test, nonzero, otherwise, ap next_view e, uses_source test j ty s))

  stage_end : (next : Next) (state : ℕ) → IsTypedNext globals code b.operations next
      → next_stage registers code values state q.variables (value_now (planned_view b) (plan_view b p) q wire) next
      ≡ leads_to (operand_now (planned_view b) (plan_view b p) q wire) (next_view next)
  stage_end (Jump l) state typed = min-eq_left typed
  stage_end (Branch test nonzero otherwise) state typed =
      ap (λ z. if is_zero (seen_value q.variables (value_now (planned_view b) (plan_view b p) q wire) test) then z else min nonzero (length code.stages))
      (min-eq_left typed.2)
      ∙ ap (λ z. if is_zero (seen_value q.variables (value_now (planned_view b) (plan_view b p) q wire) test) then otherwise else z) (min-eq_left typed.1)
      ∙ zero_same (seen_value q.variables (value_now (planned_view b) (plan_view b p) q wire) test) nonzero otherwise
    where
      zero_same : (v : ℤ) (y n : ℕ) → (if is_zero v then n else y) ≡ (if planned_zero v then n else y)
      zero_same (pos k) y n = refl
      zero_same (negsuc k) y n = refl

-- ---- the block at a stage

last_is : (s states : ℕ) → s < states → nat_eq s (max 1 states - 1) ≡ nat_eq (suc s) states
last_is s states below =
    let all : max 1 states - 1 ≡ states - 1 = omega arith in
    ap (nat_eq s) all
    ∙ ⊎_elim (λ e. same_is s (states - 1) e ∙ sym (same_is (suc s) states (omega arith))) (λ ne. other_is s (states - 1) ne ∙ sym (other_is (suc s) states (λ e. ne (omega arith))))
    (cases_eq s (states - 1))

module _ (globals : List IntegerType) (code : ThreadCode) (registers : Registers) (l : ℕ) (b : Block) (p : BlockPlan) (s0 s1 s2 s3 s4 s5 s6 : List Signal) (before after : List ℕ)
    (values : List Given) (finishes : List Finish) (end : Moment) (last target : ℕ) (state : end.state ≡ max 1 p.states - 1) (states : end.states ≡ max 1 p.states)
    (tells_stage : TellsStage s0 s1 registers l end.at) (first : ShowsFirst globals code registers b p s1 s2 (length b.operations) values)
    (finals : ShowsFinals registers code values end.state s2 s3 b.finals (length b.finals) finishes) (next : ShowsNext registers code values end.state s3 s4 b.next target)
    (tells_state : TellsState s4 s5 registers end last) (sets : SetsFirst s5 s6 last before after finishes (length finishes)) where
  from_5 : (m : Module) → Grows s6 m.signals → Grows s5 m.signals
  from_5 m g = grows_then s5 s6 m.signals sets.grows g

  from_4 : (m : Module) → Grows s6 m.signals → Grows s4 m.signals
  from_4 m g = grows_then s4 s5 m.signals tells_state.grows (from_5 m g)

  from_3 : (m : Module) → Grows s6 m.signals → Grows s3 m.signals
  from_3 m g = grows_then s3 s4 m.signals next.grows (from_4 m g)

  from_2 : (m : Module) → Grows s6 m.signals → Grows s2 m.signals
  from_2 m g = grows_then s2 s3 m.signals finals.grows (from_3 m g)

  from_1 : (m : Module) → Grows s6 m.signals → Grows s1 m.signals
  from_1 m g = grows_then s1 s2 m.signals first.grows (from_2 m g)

  all_grow : Grows s0 s6
  all_grow =
      grows_then s0 s1 s6 tells_stage.grows
      (grows_then s1 s2 s6 first.grows (grows_then s2 s3 s6 finals.grows (grows_then s3 s4 s6 next.grows (grows_then s4 s5 s6 tells_state.grows sets.grows))))

  low : end.state < end.states
  low = omega arith

  stage_bit : (m : Module) (r : Reading) → Grows s6 m.signals → Obeys m r → HasStage registers l m r → r.signal end.at ≡ bit_of (nat_eq (r.signal registers.stage.register) l)
  stage_bit m r g o has = tells_stage.shows m r (from_1 m g) o has.wide has.room has.fits

  rests_at : (m : Module) (r : Reading) (left : Left) → left.last ≡ last → Grows s6 m.signals → Obeys m r → HasStage registers l m r → r.signal registers.stage.register ≢ l
      → RestsSo globals code registers l b p before after left r
  rests_at m r left same g o has ne =
      let off = stage_bit m r g o has ∙ ap bit_of (other_is (r.signal registers.stage.register) l ne) in
      let wide = tells_stage.wide m (from_1 m g) in
      let never = tells_state.rests m r (from_5 m g) o wide off in
      record {
        last = ap r.signal same ∙ never;
        variables = λ x less.
            sets.shows m r false x g o never less
            ∙ last_of-none (λ k. finishes_in (slice_get finishes k) x && false) (λ k. finish_number r (slice_get finishes k)) (next_number r before x) (length finishes)
            (λ k. and-false (finishes_in (slice_get finishes k) x));
      }

  module _ (bank : Location → ℕ) (m : Module) (r : Reading) (q : Slot) (wire : ℕ → ℤ) (right : IsRight globals code registers b p) (g : Grows s6 m.signals) (o : Obeys m r)
      (inside : IsInStage globals code registers l b p m r q) (sees : SeesSlot globals code registers b p m r q) (wired : IsFed globals code registers b p bank m r q wire)
    where
      moment : IsMoment m r registers end.at end.states true q.state
      moment =
          let on = stage_bit m r g o inside.has ∙ ap bit_of (same_is (r.signal registers.stage.register) l inside.stage) in
          let below = inside.below in
          let room = inside.room in
          let some : max 1 p.states ≡ p.states = omega arith in
          record {
            wide = tells_stage.wide m (from_1 m g);
            shows = on;
            state_wide = λ t. inside.wide;
            state = λ t. inside.state;
            below = λ t. omega arith;
            room = λ t. subst (λ (n : ℕ). n ≤ 2 ^ registers.state.width) (sym (states ∙ some)) room;
          }

      last_at : r.signal last ≡ bit_of (nat_eq (suc q.state) p.states)
      last_at =
          let below = inside.below in
          tells_state.shows m r true q.state (from_5 m g) o moment low ∙ ap (λ n. bit_of (nat_eq q.state n)) state ∙ ap bit_of (last_is q.state p.states below)

      state_at : suc q.state ≡ p.states → end.state ≡ q.state
      state_at at_end = omega arith

      finish_word : (at_end : suc q.state ≡ p.states) (x : ℕ) (ty : IntegerType) (k : ℕ) (f : Final) (out : Finish) → slice_get code.variables x ≡ Some ty →
          slice_get b.finals k ≡ Some f
          → IsFinal registers code values end.state s3 f out → f.variable ≡ x → IsWord m r out.word ty (operand_now (planned_view b) (plan_view b p) q wire (operand_view f.value))
      finish_word at_end x ty k f out declared listed is same =
          let typed = right.typed.finals k f listed in
          let own : slice_get code.variables f.variable ≡ Some ty = ap (slice_get code.variables) same ∙ declared in
          let kind = typed.1 in
          let matches : operand_type f.value ≡ ty = cc in
          is.shows m r q.variables (value_now (planned_view b) (plan_view b p) q wire) ty (from_3 m g) o
          (final_end globals code registers b p right s2 values first.each bank m r q wire (from_2 m g) o sees wired at_end k f end.state (state_at at_end) listed) own matches

      finish_at : (at_end : suc q.state ≡ p.states) (x : ℕ) (ty : IntegerType) → slice_get code.variables x ≡ Some ty
          → Finishes r x (width_of ty) (operand_now (planned_view b) (plan_view b p) q wire) b.finals finishes
      finish_at at_end x ty declared k f listed =
          let t = finals.each k f (slice_get_within b.finals k f listed) listed in
          let is : IsFinal registers code values end.state s3 f t.0 = t.2 in
          (t.0, t.1, is.variable, λ same. (finish_word at_end x ty k f t.0 declared listed is same).shows)

      typed_by : (t : Bool) (x : ℕ) (ty : IntegerType) → nat_eq (suc q.state) p.states ≡ t → slice_get code.variables x ≡ Some ty → HasType ty (q.variables x)
          → HasType ty (if t then finished (operand_now (planned_view b) (plan_view b p) q wire) (finals_view b.finals) q.variables x else q.variables x)
      typed_by true x ty e declared typed =
          finals_typed ty x (operand_now (planned_view b) (plan_view b p) q wire) b.finals q.variables
          (λ k f listed same.
          let t = finals.each k f (slice_get_within b.finals k f listed) listed in
          (finish_word (eqb-true (suc q.state) p.states e) x ty k f t.0 declared listed t.2 same).typed) typed
      typed_by false x ty e declared typed = typed

      variables_by : (t : Bool) (x : ℕ) (ty : IntegerType) → nat_eq (suc q.state) p.states ≡ t → slice_get code.variables x ≡ Some ty
          → next_number r before x ≡ residue_of (width_of ty) (q.variables x)
          → last_of (λ k. finishes_in (slice_get finishes k) x && t) (λ k. finish_number r (slice_get finishes k)) (next_number r before x) (length finishes)
          ≡ residue_of (width_of ty) (if t then finished (operand_now (planned_view b) (plan_view b p) q wire) (finals_view b.finals) q.variables x else q.variables x)
      variables_by true x ty e declared rest =
          ap (last_of (λ k. finishes_in (slice_get finishes k) x && true) (λ k. finish_number r (slice_get finishes k)) (next_number r before x)) finals.count
          ∙ finals_last r x (width_of ty) (operand_now (planned_view b) (plan_view b p) q wire) b.finals finishes (next_number r before x) q.variables
          (finish_at (eqb-true (suc q.state) p.states e) x ty declared) rest
      variables_by false x ty e declared rest =
          last_of-none (λ k. finishes_in (slice_get finishes k) x && false) (λ k. finish_number r (slice_get finishes k)) (next_number r before x) (length finishes)
          (λ k. and-false (finishes_in (slice_get finishes k) x))
          ∙ rest

      variables_at : (x : ℕ) (ty : IntegerType) → slice_get code.variables x ≡ Some ty → x < length before → next_number r before x ≡ residue_of (width_of ty) (q.variables x)
          → next_number r after x
          ≡ residue_of (width_of ty) (if nat_eq (suc q.state) p.states then finished (operand_now (planned_view b) (plan_view b p) q wire)
          (finals_view b.finals) q.variables x else q.variables x)
      variables_at x ty declared less rest =
          sets.shows m r (nat_eq (suc q.state) p.states) x g o last_at less ∙ variables_by (nat_eq (suc q.state) p.states) x ty refl declared rest

      target_at : suc q.state ≡ p.states → r.signal target ≡ leads_to (operand_now (planned_view b) (plan_view b p) q wire) (next_view b.next)
      target_at at_end =
          next.shows m r q.variables (value_now (planned_view b) (plan_view b p) q wire) (from_4 m g) o
          (test_end globals code registers b p right s2 values first.each bank m r q wire (from_2 m g) o sees wired at_end b.next end.state (state_at at_end) refl right.typed.next)
          ∙ stage_end globals code registers b p right s2 values first.each bank m r q wire (from_2 m g) o sees wired at_end b.next end.state right.typed.next

  pub block_left : (left : Left) → left.values ≡ values → left.end ≡ end → left.last ≡ last → left.target ≡ target
      → FinishesBlock globals code registers l b p before after left s0 s6
  block_left left given at e f = record {
    shown =
        subst (λ (z : List Given). ShowsFirst globals code registers b p s0 s6 (length b.operations) z) (sym given)
        (first_from globals code registers b p s0 s1 s6 (length b.operations) values tells_stage.grows
        (first_grown globals code registers b p s1 s2 s6 (length b.operations) values first
        (grows_then s2 s3 s6 finals.grows (grows_then s3 s4 s6 next.grows (grows_then s4 s5 s6 tells_state.grows sets.grows)))));
    told = subst (λ (z : Moment). TellsStage s0 s6 registers l z.at) (sym at) (record {
      grows = all_grow;
      wide = λ m g. tells_stage.wide m (from_1 m g);
      shows = λ m r g o wide low small. tells_stage.shows m r (from_1 m g) o wide low small;
    });
    states = ap (λ (z : Moment). z.states) at ∙ states;
    count = sets.count;
    wide = λ m g. subst (λ (x : ℕ). width m x ≡ 1) (sym e) (tells_state.wide m (from_5 m g) (tells_stage.wide m (from_1 m g)));
    rests = λ m r g o has ne. rests_at m r left e g o has ne;
    moves = λ bank m r q wire right g o inside sees wired. record {
      last = ap r.signal e ∙ last_at bank m r q wire right g o inside sees wired;
      variables = variables_at bank m r q wire right g o inside sees wired;
      typed = λ x ty declared typed. typed_by bank m r q wire right g o inside sees wired (nat_eq (suc q.state) p.states) x ty refl declared typed;
      target = λ at_end. ap r.signal f ∙ target_at bank m r q wire right g o inside sees wired at_end;
    };
  }

-- the same, where lists are seen as slices
pub block_left_by : (globals : List IntegerType) (code : ThreadCode) (registers : Registers) (l : ℕ) (b : Block) (p : BlockPlan) (s0 s1 s2 s3 s4 s5 s6 : List Signal)
    (before after : List ℕ)
    (values given : List Given) (finals : List Final) (finishes finishing : List Finish) (end : Moment) (last target at : ℕ) (left : Left) → given ≡ values → finals ≡ b.finals →
    finishing ≡ finishes
    → end.at ≡ at → end.state ≡ max 1 p.states - 1 → end.states ≡ max 1 p.states → TellsStage s0 s1 registers l at
    → ShowsFirst globals code registers b p s1 s2 (length b.operations) values → ShowsFinals registers code given end.state s2 s3 finals (length finals) finishes
    → ShowsNext registers code given end.state s3 s4 b.next target → TellsState s4 s5 registers end last → SetsFirst s5 s6 last before after finishing (length finishing)
    → left.values ≡ values → left.end ≡ end → left.last ≡ last → left.target ≡ target → FinishesBlock globals code registers l b p before after left s0 s6
block_left_by globals code registers l b p s0 s1 s2 s3 s4 s5 s6 before after values given finals finishes finishing end last target at left e f h place state states t u v w x y
    values_are end_is
    last_is_it target_is_it =
    let v' : ShowsFinals registers code values end.state s2 s3 b.finals (length b.finals) finishes =
    subst (λ (z : List Final). ShowsFinals registers code values end.state s2 s3 z (length z) finishes) f
    (subst (λ (z : List Given). ShowsFinals registers code z end.state s2 s3 finals (length finals) finishes) e v) in
    let w' : ShowsNext registers code values end.state s3 s4 b.next target = subst (λ (z : List Given). ShowsNext registers code z end.state s3 s4 b.next target) e w in
    let y' : SetsFirst s5 s6 last before after finishes (length finishes) = subst (λ (z : List Finish). SetsFirst s5 s6 last before after z (length z)) h y in
    let t' : TellsStage s0 s1 registers l end.at = subst (λ (z : ℕ). TellsStage s0 s1 registers l z) (sym place) t in
    block_left globals code registers l b p s0 s1 s2 s3 s4 s5 s6 before after values finishes end last target state states t' u v' w' x y' left values_are end_is last_is_it
    target_is_it
