-- Hardware of planned blocks is planned.
use Rattle.std.specs.Prelude.{nat_eq, nat_lt, ◌&&◌, ℤ, Bool, true, false, ◌||◌, not}
use Rattle.std.proofs.Common.{inr, ◌≡◌, ℕ, suc, ◌+◌, ◌*◌, ◌<◌, ◌≤◌, List, [], ◌∷◌, ◌++◌, length, refl, sym, ap, ◌∙◌, subst, ⊎_elim, inl, arith}
use Rattle.std.proofs.Math.Path.{fun_ext}
use Rattle.std.proofs.Math.Bool.{and-false, or-true}
use Rattle.interleaving.specs.Memory.{Location, Memory, Access, memory_after, Writes, AgreeOn}
use Rattle.interleaving.specs.Source.{Source, Move, accesses_of, end_of}
use Rattle.interleaving.specs.Hardware.{Hardware, IsPlanned, FliesOrLands}
use Rattle.interleaving.specs.Progress.{IsTimed}
use Rattle.interleaving.proofs.AnyOrder.{remains_none, remains_frame}
use Rattle.planned_block.specs.Block.{Block, operation_at, size, operand_value, finished, leads_to, IsOrdered}
use Rattle.planned_block.specs.Plan.{Plan}
use Rattle.planned_block.specs.Run.{block_run}
use Rattle.planned_block.specs.Slot.{Slot, is_request, starts_now, was_granted, stayed, gone_on, AllGranted, Works, Turns, Stays, GoesOn, Leaves}
use Rattle.planned_block.specs.InFlight.{InFlight}
use Rattle.planned_block.specs.Hardware.{Code, block_of, plan_of, is_open, changes_left, changes_of, Begins, Flies, IsBlockRun, PlannedThreads, hardware_of}
use Rattle.planned_block.proofs.Bits.{both_true, is_same, not_less_is}
use Rattle.planned_block.proofs.RequestCount.{count_le, count_less, open_before, granted_stays, granted_goes}
use Rattle.planned_block.proofs.BlockCycle.{stays, goes_on, IsDone, leaves, stored_next}
use Rattle.planned_block.proofs.BlockLaw.{at_start}
use Rattle.planned_block.proofs.SequentialRun.{run_arrays}

module _ (code : Code) (spared : (f l s : ℕ) → 0 < (code.plans f l).states → code.spare f l s ≡ 0) where
  -- a slot at the start of a block has no more left than the block has
  fresh_left : (q : Slot) → q.state ≡ 0 → changes_left code q ≤ changes_of code q.routine q.stage
  fresh_left q z =
      let c = count_le (is_open code q) (λ k. is_request (operation_at (block_of code q) k).kind) (size (block_of code q))
      (λ k lt t. (both_true (is_request (operation_at (block_of code q) k).kind) (not (was_granted (block_of code q) (plan_of code q) q k)) t).0) in
      let same : code.spare q.routine q.stage q.state ≡ code.spare q.routine q.stage 0 = ap (code.spare q.routine q.stage) z in
      omega arith

  closes : (before now had has request : Bool) → has ≡ true → now ≡ true → (request && not (before || (now && (had || has)))) ≡ false
  closes before now had has request h n =
      ap (λ z. request && not (before || (z && (had || has)))) n ∙ ap (λ z. request && not (before || z)) (ap (λ z. had || z) h ∙ or-true had)
      ∙ ap (λ z. request && not z) (or-true before) ∙ and-false request

  -- each grant leaves one request less
  stay_less : (bank : Location → ℕ) (q : Slot) (now : Memory ℤ) (es : List (Access ℤ)) (t : Works bank (block_of code q) (plan_of code q) q now es) →
      (k : ℕ) → k < size (block_of code q) → t.grants k ≡ true → changes_left code (stayed (block_of code q) (plan_of code q) q t.grants t.words) < changes_left code q
  stay_less bank q now es t k lt g =
      let less = count_less (is_open code (stayed (block_of code q) (plan_of code q) q t.grants t.words)) (is_open code q) k (size (block_of code q)) lt closed opened
      (λ j below o. open_before (is_request (operation_at (block_of code q) j).kind) (was_granted (block_of code q) (plan_of code q) q j)
      (was_granted (block_of code q) (plan_of code q) (stayed (block_of code q) (plan_of code q) q t.grants t.words) j)
      (granted_stays (nat_lt ((plan_of code q).start j) q.state) (starts_now (block_of code q) (plan_of code q) q j) (q.granted j) (t.grants j)) o) in
      omega arith
    where
      asked : (is_request (operation_at (block_of code q) k).kind ≡ true) × (starts_now (block_of code q) (plan_of code q) q k ≡ true)
      asked = both_true (is_request (operation_at (block_of code q) k).kind) (starts_now (block_of code q) (plan_of code q) q k) (t.requested k g).1

      closed : is_open code (stayed (block_of code q) (plan_of code q) q t.grants t.words) k ≡ false
      closed = closes (nat_lt ((plan_of code q).start k) q.state) (starts_now (block_of code q) (plan_of code q) q k) (q.granted k) (t.grants k)
          (is_request (operation_at (block_of code q) k).kind) g asked.1

      opened : is_open code q k ≡ true
      opened =
          let e = is_same ((plan_of code q).start k) q.state asked.1 in
          ap (λ z. z && not (was_granted (block_of code q) (plan_of code q) q k)) asked.0
          ∙ ap not (ap (λ z. z || (starts_now (block_of code q) (plan_of code q) q k && q.granted k)) (not_less_is ((plan_of code q).start k) q.state (omega arith))
          ∙ ap (λ z. z && q.granted k) asked.1 ∙ (t.requested k g).2)

  -- no request comes anew
  go_less : (q : Slot) (wire words registers : ℕ → ℤ) → suc q.state < (plan_of code q).states →
      changes_left code (gone_on (block_of code q) (plan_of code q) q wire words registers) < changes_left code q
  go_less q wire words registers within =
      let a = spared q.routine q.stage q.state (omega arith) in
      let b = spared q.routine q.stage (suc q.state) (omega arith) in
      let le = count_le (is_open code (gone_on (block_of code q) (plan_of code q) q wire words registers)) (is_open code q) (size (block_of code q))
      (λ k lt o. open_before (is_request (operation_at (block_of code q) k).kind) (was_granted (block_of code q) (plan_of code q) q k)
      (was_granted (block_of code q) (plan_of code q) (gone_on (block_of code q) (plan_of code q) q wire words registers) k)
      (granted_goes ((plan_of code q).start k) q.state (q.granted k) (nat_eq ((plan_of code q).start k) (suc q.state) && false)) o) in
      omega arith

module _ (M : PlannedThreads) where
  abbrev P : Source ℤ M.Local M.State
  P = M.source

  abbrev H : Hardware ℤ M.Local M.State Slot (ℕ → M.Core)
  H = hardware_of M

  abbrev InBlock : M.Local → Memory ℤ → List (Move ℤ M.Local) → List (Access ℤ) → Slot → Type 0
  InBlock = Flies M.bank M.code M.around M.B

  abbrev AtStart : M.Local → Slot → Type 0
  AtStart = Begins M.bank M.code M.around M.B

  begins : (x : M.Local) (m : Memory ℤ) (q : Slot) (hs : List (Move ℤ M.Local)) → AtStart x q → 0 < (plan_of M.code q).states →
      IsBlockRun P M.code M.around.Starts M.B x q.routine q.stage q.variables q.arrays m hs → InBlock x m hs [] q
  begins x m q hs r some l =
      let b = block_of M.code q in
      let keeps = M.keeps q.routine q.stage in
      let ordered : IsOrdered b = record { earlier = keeps.earlier; final = keeps.final } in
      let run = block_run b q.variables q.arrays m in
      record {
        first = q.arrays;
        values = run.values;
        stored = [];
        flight = subst (λ a. InFlight M.bank b (plan_of M.code q) m a q.arrays run.values [] [] q) l.accesses (at_start M.bank b (plan_of M.code q) ordered q m r.state r.granted some);
        ends = subst (λ a. M.around.Starts (end_of x hs) q.routine (leads_to (operand_value q.variables run.values) b.next) (finished (operand_value q.variables run.values) b.finals q.variables) a)
            (run_arrays b q.variables ordered q.arrays m) l.ends;
        fits = l.fits;
      }

  once : (n : ℕ) → 0 < n → M.B ≤ M.B * n
  once n lt = grind arith

  module _ (c : ℕ → M.Core) (i : ℕ) (x : M.Local) (m now : Memory ℤ) (hs : List (Move ℤ M.Local)) (made es : List (Access ℤ)) (q : Slot) (f : InBlock x m hs made q)
      (sees : AgreeOn (accesses_of hs) (memory_after made m) now) where
    abbrev Result : Slot → Type 0
    Result r = FliesOrLands P H c i x m hs (made ++ es) q r

    abbrev b : Block
    b = block_of M.code q

    abbrev p : Plan
    p = plan_of M.code q

    stay : (t : Works M.bank b p q now es) (r : Slot) → Stays b p q t.grants t.words r → Result r
    stay t r s =
        let flown : InBlock x m hs (made ++ es) (stayed b p q t.grants t.words) = record {
          first = f.first;
          values = f.values;
          stored = f.stored;
          flight = stays M.bank M.banks b p (M.keeps q.routine q.stage) m (accesses_of hs) f.first f.values made f.stored q f.flight now es t sees;
          ends = f.ends;
          fits = f.fits;
        } in
        let less = stay_less M.code M.spared M.bank q now es t s.some.0 s.some.1 s.some.2 in
        subst Result (sym s.slot) (inl (flown, omega arith))

    go : (t : Works M.bank b p q now es) (r : Slot) → AllGranted b p q t.grants → GoesOn b p q t.wire t.words r → Result r
    go t r granted g =
        let flown : InBlock x m hs (made ++ es) (gone_on b p q t.wire t.words r.registers) = record {
          first = f.first;
          values = f.values;
          stored = stored_next M.bank M.banks b p (M.keeps q.routine q.stage) m (accesses_of hs) f.first f.values made f.stored q f.flight now es t sees;
          flight = goes_on M.bank M.banks b p (M.keeps q.routine q.stage) m (accesses_of hs) f.first f.values made f.stored q f.flight now es t sees granted r.registers g.registers g.within;
          ends = f.ends;
          fits = f.fits;
        } in
        let less = go_less M.code M.spared q t.wire t.words r.registers g.within in
        subst Result (sym g.slot) (inl (flown, omega arith))

    land : (t : Works M.bank b p q now es) (r : Slot) → AllGranted b p q t.grants → Leaves b p q t.wire r → Result r
    land t r granted e = inr (
      record {
        effect = remains_none m (accesses_of hs) (made ++ es) d.none_left_over;
        inside = d.none_left_over.inside;
        rests =
            inl (record { starts = starts; state = e.state; granted = e.granted });
      },
      cost hs refl,
    )
      where
        d : IsDone M.bank M.banks b p (M.keeps q.routine q.stage) m (accesses_of hs) f.first f.values made f.stored q f.flight now es t sees r
        d = leaves M.bank M.banks b p (M.keeps q.routine q.stage) m (accesses_of hs) f.first f.values made f.stored q f.flight now es t sees granted r e

        starts : M.around.Starts (end_of x hs) r.routine r.stage r.variables r.arrays
        starts =
            subst (λ z. M.around.Starts (end_of x hs) z r.stage r.variables r.arrays) (sym e.routine)
            (subst (λ l. M.around.Starts (end_of x hs) q.routine l r.variables r.arrays) (sym d.stage)
            (subst (λ v. M.around.Starts (end_of x hs) q.routine (leads_to (operand_value q.variables f.values) b.next) v r.arrays) (fun_ext (λ y. sym (d.variables y)))
            (subst (λ a. M.around.Starts (end_of x hs) q.routine (leads_to (operand_value q.variables f.values) b.next) (finished (operand_value q.variables f.values) b.finals q.variables) a)
            (fun_ext (λ l. sym (d.arrays l))) f.ends)))

        cost : (gs : List (Move ℤ M.Local)) → hs ≡ gs → changes_left M.code r < changes_left M.code q + M.B * length hs
        cost [] z =
            let fresh = fresh_left M.code M.spared r e.state in
            let fits = f.fits z in
            let to : changes_of M.code r.routine r.stage ≡ changes_of M.code q.routine (leads_to (operand_value q.variables f.values) b.next) =
            ap (λ z. changes_of M.code z r.stage) e.routine ∙ ap (changes_of M.code q.routine) d.stage in
            let within = t.inside in
            let none : M.B * length hs ≡ 0 = ap (λ l. M.B * length l) z ∙ (grind arith) in
            omega arith
        cost (h ∷ gs) z =
            let fresh = fresh_left M.code M.spared r e.state in
            let bound = M.lowered.bounded r.routine r.stage in
            let more = once (length hs) (subst (λ l. 0 < length l) (sym z) (omega arith)) in
            let within = t.inside in
            omega arith

    turn : (r : Slot) → Turns M.bank b p q now es r → Result r
    turn r t = ⊎_elim (λ pass. ⊎_elim (stay pass.0 r) (λ g. go pass.0 r g.0 g.1) pass.1) (λ last. land last.0 r last.1 last.2) t

  turns_inside : (q r : Slot) (m : Memory ℤ) (es : List (Access ℤ)) → Turns M.bank (block_of M.code q) (plan_of M.code q) q m es r → q.state < (plan_of M.code q).states
  turns_inside q r m es t = ⊎_elim (λ pass. pass.0.inside) (λ last. last.0.inside) t

  -- who wakes takes steps that access no global
  woke : (c : ℕ → M.Core) (s : M.State) (i : ℕ) (q r : Slot) (es : List (Access ℤ)) (hs : List (Move ℤ M.Local)) (n : ℕ) → es ≡ [] →
      (accesses_of hs ≡ []) × H.Rests c i (end_of (P.local s i) hs) r × (changes_left M.code r < changes_left M.code q + M.B * n) → length hs ≡ n →
      FliesOrLands P H c i (P.local s i) (P.memory s) hs es q r
  woke c s i q r es hs n e w long = inr (
    record {
      effect = λ l. ap (λ a. memory_after a (P.memory s) l) (e ∙ sym w.0);
      inside = λ l wr. subst (λ a. Writes l a) (e ∙ sym w.0) wr;
      rests = w.1;
    },
    subst (λ k. changes_left M.code r < changes_left M.code q + M.B * k) (sym long) w.2,
  )

  pub blocks_planned : IsPlanned P H
  blocks_planned = record {
    begins = λ c s i q r m es at rests t.
        ⊎_elim
        (λ u.
        let inside = turns_inside q r m es u in
        let some : 0 < (plan_of M.code q).states = omega arith in
        ⊎_elim
        (λ (b : AtStart (P.local s i) q).
        let l = M.lowered.blocks s i q.routine q.stage q.variables q.arrays at b.starts some in (
          (block_of M.code q).steps,
          l.only_moves,
          λ hs run n agree. turn c i (P.local s i) (P.memory s) m hs [] es q
              (begins (P.local s i) (P.memory s) q hs b some (l.block_runs hs run n)) agree r u,
        ))
        (λ w. let none = M.fits.waits_outside c i (P.local s i) q w in absurd (omega arith))
        rests)
        (λ k.
        let woken = M.fits.wakes c s i q r at rests k.1 in
        (woken.0, woken.1, λ hs run n agree. woke c s i q r es hs woken.0 k.0 (woken.2 hs run n) n))
        t;
    frame = λ x m n hs made q f agree. record {
      first = f.first;
      values = f.values;
      stored = f.stored;
      flight = record {
        inside = f.flight.inside;
        computed = f.flight.computed;
        banks = remains_frame m n (accesses_of hs) made _ agree f.flight.banks;
        array = f.flight.array;
        arrays = f.flight.arrays;
        registers = f.flight.registers;
        word_granted = f.flight.word_granted;
        word_taken = f.flight.word_taken;
      };
      ends = f.ends;
      fits = f.fits;
    };
    inside = λ x m hs made q l f wr. f.flight.banks.inside l wr;
    turn = λ c i x m now hs made es q r run f sees t.
        ⊎_elim
        (λ u. turn c i x m now hs made es q f sees r u)
        (λ k. let none = M.fits.wakes_outside c i q r k.1 in let some = f.flight.inside in absurd (omega arith))
        t;
    stands = M.fits.stands;
    act = M.fits.act;
    act_rests = λ x m hs made i w v f a. let none = M.fits.acts_outside i w v a in let some = f.flight.inside in omega arith;
  }

  pub blocks_timed : IsTimed H M.B (changes_left M.code)
  blocks_timed = record { spends = λ q r k s. s }
