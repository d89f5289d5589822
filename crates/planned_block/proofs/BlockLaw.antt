-- The law of a planned block, for any cycles.
use Rattle.std.specs.Prelude.{nat_eq, nat_lt, ◌&&◌, ℤ, Bool, false, ◌||◌}
use Rattle.std.proofs.Common.{inr, ◌≡◌, ℕ, ◌<◌, List, [], ◌∷◌, ◌++◌, refl, sym, ap, ◌∙◌, subst, ⊎_elim, arith, append_assoc, append-nil}
use Rattle.std.proofs.Math.Bool.{and-false}
use Rattle.interleaving.specs.Memory.{Location, Memory, Access, memory_after, AgreeOn}
use Rattle.interleaving.specs.AnyOrder.{Event, accesses_in, Remains}
use Rattle.interleaving.proofs.AnyOrder.{remains_none, remains_all}
use Rattle.planned_block.specs.Block.{Block, size, operand_value, finished, leads_to, IsOrdered}
use Rattle.planned_block.specs.Plan.{Plan, KeepsOrders}
use Rattle.planned_block.specs.Run.{Running, bank_events_at, array_events_at, events_from, block_run}
use Rattle.planned_block.specs.Slot.{AreBanks, Slot, accesses_where, was_granted, AllGranted, Passes, Stays, GoesOn}
use Rattle.planned_block.specs.InFlight.{events_but, started_before, InFlight}
use Rattle.planned_block.specs.Law.{Cycle, made_in, slot_after, run, PassThrough, KeepsToRun, BlockKeepsToRun}
use Rattle.planned_block.proofs.Bits.{not_less_is}
use Rattle.planned_block.proofs.Sweep.{events_where, undone_same, events_but-nothing}
use Rattle.planned_block.proofs.BlockCycle.{stays, goes_on, leaves, accesses_right, accesses_where-events, stored_next}
use Rattle.planned_block.proofs.SequentialRun.{is_run, run_accesses, run_arrays, run_memory}

none_granted : (a s : ℕ) (g : Bool) → s ≡ 0 → g ≡ false → (nat_lt a s || (nat_eq a s && g)) ≡ false
none_granted a s g z e = ap (λ c. c || (nat_eq a s && g)) (not_less_is a s (omega arith)) ∙ ap (λ h. nat_eq a s && h) e ∙ and-false (nat_eq a s)

-- a block at its start is in flight, with nothing made
pub at_start : (bank : Location → ℕ) (b : Block) (p : Plan) → IsOrdered b → (q : Slot) (m : Memory ℤ) → q.state ≡ 0 → ((k : ℕ) → q.granted k ≡ false) → 0 < p.states →
    InFlight bank b p m (block_run b q.variables q.arrays m).accesses q.arrays (block_run b q.variables q.arrays m).values [] [] q
at_start bank b p ordered q m state granted some =
    let r = block_run b q.variables q.arrays m in
    let bank_ev = bank_events_at b q.variables r.values in
    let array_ev = array_events_at b q.variables r.values in
    let own = is_run b q.variables ordered q.arrays m in
    record {
      inside = omega (arith, state, some);
      computed = own.computed;
      banks = subst (λ a. Remains m a [] (events_but bank_ev (was_granted b p q) (size b) 0)) (sym (run_accesses b q.variables ordered q.arrays m))
          (subst (Remains m (accesses_in (events_from bank_ev (size b) 0)) [])
          (sym (events_but-nothing bank_ev (size b) 0)
          ∙ undone_same bank_ev (λ _. false) (was_granted b p q) (size b) 0 (λ k _ _. inr (sym (none_granted (p.start k) q.state (q.granted k) state (granted k)))))
          (remains_all m (events_from bank_ev (size b) 0) own.bank));
      array = subst (Remains q.arrays (accesses_in (events_from array_ev (size b) 0)) [])
          (sym (events_but-nothing array_ev (size b) 0)
          ∙ undone_same array_ev (λ _. false) (started_before p q.state) (size b) 0 (λ k _ _. inr (sym (not_less_is (p.start k) q.state (omega (arith, state))))))
          (remains_all q.arrays (events_from array_ev (size b) 0) own.array);
      arrays = λ l. refl;
      registers = λ k x lt less used e. absurd (omega (arith, state));
      word_granted = λ k x lt e s t. absurd (cc (t, granted k));
      word_taken = λ k x lt e s. absurd (omega (arith, state));
    }

module _ (bank : Location → ℕ) (banks : AreBanks bank) (b : Block) (p : Plan) (keeps : KeepsOrders b p) (start : Slot) (m : Memory ℤ) where
  abbrev r : Running
  r = run bank b p start m

  -- somewhere in the block
  record IsAmid (made : List (Access ℤ)) (q : Slot) : Type 0 where
    stored : List (Access ℤ)
    variables : q.variables ≡ start.variables
    flight : InFlight bank b p m r.accesses start.arrays r.values made stored q

  amid_pass : (made : List (Access ℤ)) (q : Slot) (now : Memory ℤ) (es : List (Access ℤ)) (q' : Slot) → Passes bank b p q now es q' → AgreeOn r.accesses (memory_after made m) now →
      IsAmid made q → IsAmid (made ++ es) q'
  amid_pass made q now es q' pass sees a = ⊎_elim stay (λ g. go g.0 g.1) pass.1
    where
      stay : Stays b p q pass.0.grants pass.0.words q' → IsAmid (made ++ es) q'
      stay s =
          subst (λ z. IsAmid (made ++ es) z) (sym s.slot)
          (record { stored = a.stored; variables = a.variables; flight = stays bank banks b p keeps m r.accesses start.arrays r.values made a.stored q a.flight now es pass.0 sees })

      go : AllGranted b p q pass.0.grants → GoesOn b p q pass.0.wire pass.0.words q' → IsAmid (made ++ es) q'
      go granted g =
          subst (λ z. IsAmid (made ++ es) z) (sym g.slot)
          (record {
            stored = stored_next bank banks b p keeps m r.accesses start.arrays r.values made a.stored q a.flight now es pass.0 sees;
            variables = a.variables;
            flight = goes_on bank banks b p keeps m r.accesses start.arrays r.values made a.stored q a.flight now es pass.0 sees granted q'.registers g.registers g.within;
          })

  amid_all : (cs : List Cycle) (made : List (Access ℤ)) (q : Slot) → PassThrough bank b p start m q made cs → IsAmid made q → IsAmid (made ++ made_in cs) (slot_after q cs)
  amid_all [] made q f a = subst (λ l. IsAmid l q) (sym (append-nil made)) a
  amid_all (c ∷ cs) made q f a =
      subst (λ l. IsAmid l (slot_after c.slot cs)) (append_assoc made c.accesses (made_in cs))
      (amid_all cs (made ++ c.accesses) c.slot f.2 (amid_pass made q c.memory c.accesses c.slot f.0 f.1 a))

  accesses_of_those : (f : ℕ → Bool) (ev : ℕ → List (Event ℤ)) (n k : ℕ) → accesses_where f (λ j. accesses_in (ev j)) n k ≡ accesses_in (events_where ev f n k)
  accesses_of_those f ev n k = accesses_where-events f (λ j. accesses_in (ev j)) ev n k (λ j _ _ _. refl)

  keeps_to_run : IsOrdered b → (made : List (Access ℤ)) (q : Slot) → IsAmid made q → KeepsToRun bank b p start m made q
  keeps_to_run ordered made q a = record {
    only_its_accesses = λ now es t sees.
        accesses_right bank banks b p keeps m r.accesses start.arrays r.values made a.stored q a.flight now es t sees
        ∙ sym (accesses_of_those t.grants (bank_events_at b q.variables r.values) (size b) 0)
        ∙ ap (λ v. accesses_where t.grants (λ k. accesses_in (bank_events_at b v r.values k)) (size b) 0) a.variables;
    with_its_effect = λ now es q' t sees.
        let d = leaves bank banks b p keeps m r.accesses start.arrays r.values made a.stored q a.flight now es t.0 sees t.1 q' t.2 in
        record {
          memory = λ l. remains_none m r.accesses (made ++ es) d.none_left_over l ∙ ap (λ x. memory_after x m l) (run_accesses b start.variables ordered start.arrays m)
              ∙ sym (ap (λ (w : Memory ℤ). w l) (run_memory b start.variables ordered start.arrays m));
          arrays = λ l. d.arrays l ∙ ap (λ v. memory_after (accesses_in (events_from (array_events_at b v r.values) (size b) 0)) start.arrays l) a.variables
              ∙ sym (ap (λ (w : Memory ℤ). w l) (run_arrays b start.variables ordered start.arrays m));
          variables = λ x. d.variables x ∙ ap (λ v. finished (operand_value v r.values) b.finals v x) a.variables;
          stage = d.stage ∙ ap (λ v. leads_to (operand_value v r.values) b.next) a.variables;
        };
  }

-- THE LAW OF A PLANNED BLOCK
pub block_keeps_to_run : (bank : Location → ℕ) → AreBanks bank → (b : Block) (p : Plan) → KeepsOrders b p → BlockKeepsToRun bank b p
block_keeps_to_run bank banks b p keeps first m cs start pass =
    let ordered : IsOrdered b = record { earlier = keeps.earlier; final = keeps.final } in
    keeps_to_run bank banks b p keeps first m ordered (made_in cs) (slot_after first cs)
    (amid_all bank banks b p keeps first m cs [] first pass
    (record { stored = []; variables = refl; flight = at_start bank b p ordered first m start.state start.granted start.some }))
