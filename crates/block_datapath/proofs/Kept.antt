-- Registers for values hold next what the planned block says.
use Rattle.std.proofs.Common.{◌≡◌, ◌≢◌, ℕ, zero, suc, ◌%◌, ◌^◌, ◌<◌, ◌≤◌, Bool, true, false, ◌&&◌, nat_eq, nat_lt, if◌then◌else◌}
use Rattle.std.proofs.Common.{List, length, slice_get, Option, Some, None, ℤ, refl, sym, ap, subst, ◌∙◌, arith, ◌⊎◌, inl, inr, ⊎_elim, max}
use Rattle.std.proofs.Math.Nat.{mod-eq_of_lt}
use Rattle.std.proofs.lemmas.Option.{slice_get_within}
use Rattle.std.proofs.lemmas.Bool.{eqb-true, and_from, and_parts, cases_eq}
use Rattle.std.proofs.Math.Bool.{and-false}
use Rattle.lists.proofs.Places.{get_there}
use Rattle.interleaving.specs.Memory.{Location}
use Rattle.netlist.specs.declared.netlist.Signal.{Signal}
use Rattle.netlist.specs.declared.netlist.Module.{Module}
use Rattle.verilog_meaning.specs.Readings.{Reading}
use Rattle.hls_ints.specs.Residues.{residue_of, bit_of}
use Rattle.hls_ints.specs.Types.{IntegerType, HasType, width_of}
use Rattle.hls_ints.proofs.Conversions.{residue_of-below}
use Rattle.block_ir.specs.declared.block.Operation.{Operation}
use Rattle.block_ir.specs.declared.block.Block.{Block}
use Rattle.block_ir.specs.declared.code.ThreadCode.{ThreadCode}
use Rattle.block_ir.specs.declared.plan.BlockPlan.{BlockPlan}
use Rattle.planned_block.specs.Block.{size}
use Rattle.planned_block.specs.Advance.{last_of, is_register}
use Rattle.planned_block.specs.Plan.{last_state}
use Rattle.planned_block.specs.Slot.{Slot, RegistersAfter}
use Rattle.planned_block.proofs.Bits.{same_is, other_is}
use Rattle.thread_promise.specs.View.{planned_view, plan_view}
use Rattle.operator_wires.specs.Modules.{Obeys}
use Rattle.operator_wires.specs.Gives.{Grows}
use Rattle.operator_wires.specs.Words.{resized_word}
use Rattle.operator_wires.proofs.PutSignals.{grows_then}
use Rattle.block_datapath.specs.declared.registers.Held.{Held}
use Rattle.block_datapath.specs.declared.registers.Registers.{Registers}
use Rattle.block_datapath.specs.declared.operands.Given.{Given}
use Rattle.block_datapath.specs.declared.leaving_block.Left.{Left}
use Rattle.thread_promise.specs.Types.{value_type}
use Rattle.block_datapath.specs.Seen.{IsKept}
use Rattle.thread_promise.specs.Slots.{IsAlive}
use Rattle.block_datapath.specs.Operations.{SeesSlot, IsFed, IsRight, IsShown, ShowsFirst}
use Rattle.block_datapath.specs.Chains.{next_number, IsMoment, held_width, keeps_in, kept_number, CanKeep, KeepsFirst}
use Rattle.block_datapath.specs.Leave.{HasRoom, KeepsBlock, HasStage, IsInStage, FinishesBlock, LeavesBlock}
use Rattle.block_datapath.proofs.OperationValues.{within_view, first_grown}

-- ---- the last that passes

by_last : (test : ℕ → Bool) (number : ℕ → ℕ) (old n w : ℕ) (t : Bool) → test n ≡ t → (t ≡ true → number n ≡ w) → (t ≡ false → last_of test number old n ≡ w)
    → last_of test number old (suc n) ≡ w
by_last test number old n w true e hit miss = ap (λ (t : Bool). if t then number n else last_of test number old n) e ∙ hit refl
by_last test number old n w false e hit miss = ap (λ (t : Bool). if t then number n else last_of test number old n) e ∙ miss refl

last_of-all_false : (test : ℕ → Bool) (number : ℕ → ℕ) (old n : ℕ) → ((j : ℕ) → j < n → test j ≡ true → ⊥) → last_of test number old n ≡ old
last_of-all_false test number old zero none = refl
last_of-all_false test number old (suc n) none =
    by_last test number old n old (test n) refl (λ e. absurd (none n (omega arith) e)) (λ e. last_of-all_false test number old n (λ j lt. none j (omega arith)))

last_of-one : (test : ℕ → Bool) (number : ℕ → ℕ) (old n k : ℕ) → k < n → test k ≡ true → ((j : ℕ) → j < n → test j ≡ true → j ≡ k) → last_of test number old n ≡ number k
last_of-one test number old zero k lt hit one = absurd (omega arith)
last_of-one test number old (suc n) k lt hit one =
    by_last test number old n (number k) (test n) refl (λ e. ap number (one n (omega arith) e))
    (λ e.
    let other : n ≢ k = λ s. let clash : true ≡ false = sym hit ∙ ap test (sym s) ∙ e in absurd cc in
    last_of-one test number old n k (omega arith) hit (λ j less. one j (omega arith)))

named : (o : Option ℕ) (x : ℕ) → is_register o x ≡ true → o ≡ Some x
named None x e = absurd cc
named (Some y) x e = ap Some (eqb-true y x e)

-- zeros above
widened : (t : Bool) (from to n : ℕ) → from ≤ to → nat_lt to from ≡ t → resized_word false from to n ≡ n
widened true from to n le e = absurd (let less : to < from = grind arith in omega arith)
widened false from to n le e = by_second (nat_lt from to && false) (and-false (nat_lt from to))
  where
    by_second : (u : Bool) → (nat_lt from to && false) ≡ false → resized_word false from to n ≡ n
    by_second u f = rw (e, f) refl

module _ (globals : List IntegerType) (code : ThreadCode) (registers : Registers) (b : Block) (p : BlockPlan) (s0 s1 s2 : List Signal) (before after : List ℕ) (values : List Given)
    (end_at : ℕ) (first : ShowsFirst globals code registers b p s0 s1 (length b.operations) values)
    (kept : KeepsFirst s1 s2 registers end_at (max 1 p.states) before after values (length values)) where
  module _ (bank : Location → ℕ) (m : Module) (r : Reading) (q : Slot) (wire : ℕ → ℤ) (right : IsRight globals code registers b p) (g : Grows s2 m.signals) (o : Obeys m r)
      (moment : IsMoment m r registers end_at (max 1 p.states) true q.state) (sees : SeesSlot globals code registers b p m r q)
      (wired : IsFed globals code registers b p bank m r q wire)
    where
      earlier : Grows s1 m.signals
      earlier = grows_then s1 s2 m.signals kept.grows g

      -- each value is that of an operation
      record Of (j : ℕ) (v : Given) : Type 0 where
        operation : Operation
        listed : slice_get b.operations j ≡ Some operation
        shown : IsShown globals code registers b p s1 j operation v

      operation_of : (j : ℕ) (v : Given) → slice_get values j ≡ Some v → Of j v
      operation_of j v listed =
          let below : j < length b.operations = subst (λ (n : ℕ). j < n) first.count (slice_get_within values j v listed) in
          let found = get_there b.operations j below in
          let t = first.each j found.0 below found.1 in
          let same : t.0 ≡ v = (let h = t.1 in cc) in
          record { operation = found.0; listed = found.1; shown = subst (λ (z : Given). IsShown globals code registers b p s1 j found.0 z) same t.2 }

      can : (j : ℕ) (v : Given) → slice_get values j ≡ Some v → CanKeep m (max 1 p.states) true q.state v
      can j v listed =
          let t = operation_of j v listed in
          let last = t.shown.last right in
          let ends = right.keeps.ends j (within_view b.operations j t.operation t.listed) in
          record {
            below = omega arith;
            wide = λ e.
                let here : last_state (planned_view b) (plan_view b p) j ≡ q.state = sym (eqb-true q.state v.last e ∙ last) in
                (t.shown.shows bank m r q wire right earlier o sees wired here).wide ∙ sym t.shown.says;
          }

      abbrev test : ℕ → ℕ → Bool
      test x j = keeps_in (slice_get values j) true q.state x

      -- an operation whose value register x gets now
      record Gets (x j : ℕ) : Type 0 where
        small : j < size (planned_view b)
        ends : last_state (planned_view b) (plan_view b p) j ≡ q.state
        register : (plan_view b p).register j ≡ Some x

      gets : (x j : ℕ) (v : Option Given) → slice_get values j ≡ v → keeps_in v true q.state x ≡ true → Gets x j
      gets x j None e hit = absurd cc
      gets x j (Some v) e hit =
          let t = operation_of j v e in
          let ends = (and_parts (nat_eq q.state v.last) (is_register v.register x) hit).0 in
          let name = (and_parts (nat_eq q.state v.last) (is_register v.register x) hit).1 in
          record {
            small = within_view b.operations j t.operation t.listed;
            ends = sym (eqb-true q.state v.last ends ∙ t.shown.last right);
            register = sym t.shown.register ∙ named v.register x name;
          }

      module _ (registers_after : ℕ → ℤ) (after_is : RegistersAfter (planned_view b) (plan_view b p) q wire registers_after) (room : HasRoom globals code registers b p m r before)
          (next : Slot)
          (at : next.state ≡ suc q.state) (k x : ℕ) (t : IsAlive b p next k x) where
        small : k < size (planned_view b)
        small = within_view b.operations k t.operation t.listed

        chain : next_number r after x
            ≡ last_of (test x) (λ j. kept_number r (held_width (slice_get registers.kept x)) (slice_get values j)) (next_number r before x) (length values)
        chain =
            let place = room.room k x t.operation t.listed t.register in
            let count = room.count in
            let inside = slice_get_within registers.kept x place.0 place.1 in
            kept.shows m r true q.state x g o moment can (omega arith) count

        -- no other value gets the register
        alone : (j : ℕ) → Gets x j → j ≡ k ⊎ ⊥
        alone j other = ⊎_elim (λ e. inl e) (λ ne. inr (clash ne)) (cases_eq j k)
          where
            clash : j ≢ k → ⊥
            clash ne =
                let ends = other.ends in
                let short = right.keeps.short j x other.small other.register in
                let mine = right.keeps.short k x small t.register in
                let used = t.used in
                let past = t.past in
                ⊎_elim (λ h. omega arith) (λ h. omega arith) (right.keeps.apart j k x other.small small ne other.register t.register)

        now : last_state (planned_view b) (plan_view b p) k ≡ q.state
            → (next_number r after x % 2 ^ width_of (value_type globals code t.operation) ≡ residue_of (width_of (value_type globals code t.operation)) (registers_after x))
            × HasType (value_type globals code t.operation) (registers_after x)
        now e =
            let place = room.room k x t.operation t.listed t.register in
            let found = first.each k t.operation (slice_get_within b.operations k t.operation t.listed) t.listed in
            let v : Given = found.0 in
            let is : IsShown globals code registers b p s1 k t.operation v = found.2 in
            let ty = value_type globals code t.operation in
            let word = is.shows bank m r q wire right earlier o sees wired e in
            let ends : nat_eq q.state v.last ≡ true = same_is q.state v.last (sym (is.last right ∙ e)) in
            let name : is_register v.register x ≡ true = ap (λ (z : Option ℕ). is_register z x) (is.register ∙ t.register) ∙ same_is x x refl in
            let hit : test x k ≡ true = ap (λ (z : Option Given). keeps_in z true q.state x) found.1 ∙ and_from (nat_eq q.state v.last) (is_register v.register x) ends name in
            let below : k < length values = subst (λ (n : ℕ). k < n) (sym first.count) (slice_get_within b.operations k t.operation t.listed) in
            let one : (j : ℕ) → j < length values → test x j ≡ true → j ≡ k = λ j less h. ⊎_elim (λ s. s) (λ z. absurd z) (alone j (gets x j (slice_get values j) refl h)) in
            let w = held_width (slice_get registers.kept x) in
            let wide : w ≡ place.0.width = ap held_width place.1 in
            let le : v.word.width ≤ w = subst (λ (n : ℕ). n ≤ w) (sym is.says) (subst (λ (n : ℕ). width_of ty ≤ n) (sym wide) place.2) in
            let number : next_number r after x ≡ residue_of (width_of ty) (wire k) =
            chain ∙ last_of-one (test x) (λ j. kept_number r w (slice_get values j)) (next_number r before x) (length values) k below hit one
            ∙ ap (kept_number r w) found.1 ∙ widened (nat_lt w v.word.width) v.word.width w (r.signal v.word.place) le refl ∙ word.shows
            in (
              ap (λ n. n % 2 ^ width_of ty) number ∙ mod-eq_of_lt (residue_of-below (width_of ty) (wire k)) ∙ ap (residue_of (width_of ty))
                  (sym (after_is.written k x small e t.register)),
              subst (λ (z : ℤ). HasType ty z) (sym (after_is.written k x small e t.register)) word.typed,
            )

        before_now : last_state (planned_view b) (plan_view b p) k ≢ q.state
            → (next_number r after x % 2 ^ width_of (value_type globals code t.operation) ≡ residue_of (width_of (value_type globals code t.operation)) (registers_after x))
            × HasType (value_type globals code t.operation) (registers_after x)
        before_now ne =
            let place = room.room k x t.operation t.listed t.register in
            let ty = value_type globals code t.operation in
            let past = t.past in
            let used = t.used in
            let less : last_state (planned_view b) (plan_view b p) k < q.state = omega arith in
            let not_now : (j : ℕ) → Gets x j → ⊥ = λ j other. ⊎_elim (λ (e : j ≡ k). ne (ap (last_state (planned_view b) (plan_view b p)) (sym e) ∙ other.ends)) (λ z. z)
            (alone j other) in
            let alive : IsKept m r registers (Some x) ty (q.registers x) =
            sees.alive k x (record { operation = t.operation; listed = t.listed; register = t.register; past = less; used = omega arith })
            in
            let same : alive.held ≡ place.0 = (let h = alive.listed in let i = place.1 in cc) in
            let stays : next_number r after x ≡ r.signal alive.held.register =
            chain
            ∙ last_of-all_false (test x) (λ j. kept_number r (held_width (slice_get registers.kept x)) (slice_get values j)) (next_number r before x) (length values)
            (λ j lt hit. not_now j (gets x j (slice_get values j) refl hit))
            ∙ place.3 ∙ ap (λ (z : Held). r.signal z.register) (sym same)
            in
            let rest = after_is.kept x (λ j low ends name. not_now j (record { small = low; ends = ends; register = name })) in (
              ap (λ n. n % 2 ^ width_of ty) stays ∙ alive.shows ∙ ap (residue_of (width_of ty)) (sym rest),
              subst (λ (z : ℤ). HasType ty z) (sym rest) alive.typed,
            )

        pub kept_next : (next_number r after x % 2 ^ width_of (value_type globals code t.operation)
            ≡ residue_of (width_of (value_type globals code t.operation)) (registers_after x))
            × HasType (value_type globals code t.operation) (registers_after x)
        kept_next = ⊎_elim now before_now (cases_eq (last_state (planned_view b) (plan_view b p) k) q.state)

  pub block_keeps : KeepsBlock globals code registers b p s0 s2 before after end_at values
  block_keeps = record {
    shown = first_grown globals code registers b p s0 s1 s2 (length b.operations) values first kept.grows;
    count = kept.count;
    rests = kept.rests;
    keeps = λ bank m r q wire right g o moment sees wired registers_after after_is room next at k x t.
        kept_next bank m r q wire right g o moment sees wired registers_after after_is room next at k x t;
  }

-- a block whose end is left, and whose registers keep values
pub block_leaves : (globals : List IntegerType) (code : ThreadCode) (registers : Registers) (l : ℕ) (b : Block) (p : BlockPlan) (old middle new : List Signal)
    (before after kept kept_after : List ℕ) (left : Left) (given : List Given) → given ≡ left.values → FinishesBlock globals code registers l b p before after left old middle
    → KeepsFirst middle new registers left.end.at left.end.states kept kept_after given (length given)
    → LeavesBlock globals code registers l b p before after left kept kept_after old new
block_leaves globals code registers l b p old middle new before after kept kept_after left given same ends keeps =
    record {
      grows = grows_then old middle new ends.shown.grows keeps.grows;
      count = ends.count;
      kept_count = keeps.count;
      shown = block.shown;
      bit = bit;
      moment = λ m r q g o inside. subst (λ (n : ℕ). IsMoment m r registers left.end.at n true q.state) (sym ends.states) (moment m r q g o inside);
      bit_wide = λ m g. ends.told.wide m (back m g);
      states = ends.states;
      wide = λ m g. ends.wide m (back m g);
      rests = λ m r g o has ne. ends.rests m r (back m g) o has ne;
      kept_rests = λ m r x g o has ne less.
          let off : r.signal left.end.at ≡ 0 = bit m r g o has ∙ ap bit_of (other_is (r.signal registers.stage.register) l ne) in
          keeps.rests m r x g o (ends.told.wide m (back m g)) off less;
      moves = λ bank m r q wire right g o inside sees wired. (
        ends.moves bank m r q wire right (back m g) o inside sees wired,
        block.keeps bank m r q wire right g o (moment m r q g o inside) sees wired,
      );
    }
  where
    back : (m : Module) → Grows new m.signals → Grows middle m.signals
    back m g = grows_then middle new m.signals keeps.grows g

    bit : (m : Module) (r : Reading) → Grows new m.signals → Obeys m r → HasStage registers l m r → r.signal left.end.at ≡ bit_of (nat_eq (r.signal registers.stage.register) l)
    bit m r g o has = ends.told.shows m r (back m g) o has.wide has.room has.fits

    moment : (m : Module) (r : Reading) (q : Slot) → Grows new m.signals → Obeys m r → IsInStage globals code registers l b p m r q
        → IsMoment m r registers left.end.at (max 1 p.states) true q.state
    moment m r q g o inside =
        let below = inside.below in
        let room = inside.room in
        record {
          wide = ends.told.wide m (back m g);
          shows = bit m r g o inside.has ∙ ap bit_of (same_is (r.signal registers.stage.register) l inside.stage);
          state_wide = λ t. inside.wide;
          state = λ t. inside.state;
          below = λ t. omega arith;
          room = λ t. omega arith;
        }

    keeps_all : KeepsFirst middle new registers left.end.at (max 1 p.states) kept kept_after left.values (length left.values)
    keeps_all =
        subst (λ (n : ℕ). KeepsFirst middle new registers left.end.at n kept kept_after left.values (length left.values)) ends.states
        (subst (λ (z : List Given). KeepsFirst middle new registers left.end.at left.end.states kept kept_after z (length z)) same keeps)

    block : KeepsBlock globals code registers b p old new kept kept_after left.end.at left.values
    block = block_keeps globals code registers b p old middle new kept kept_after left.values left.end.at ends.shown keeps_all
