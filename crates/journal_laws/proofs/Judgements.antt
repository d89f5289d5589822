-- What done, need and the cycles of one thread tell of a state.
use Rattle.std.specs.Prelude.{◌≡◌, ℕ, ◌^◌, ◌<◌, ◌⊎◌, true, false, nat_eq, List, [], ◌++◌, Some, refl}
use Rattle.std.proofs.Common.{sym, ◌∙◌, subst, inl, inr, ⊎_elim, arith}
use Rattle.std.proofs.lemmas.Bool.Decides.{nat_tests}
use Rattle.std.proofs.lemmas.Option.{same_Some}
use Rattle.std.proofs.lemmas.Bool.{eqb-true, cases_eq}
use Rattle.netlist.specs.declared.netlist.Module.{Module}
use Rattle.verilog_meaning.specs.Names.{top_of}
use Rattle.verilog_meaning.specs.Cycles.{Path, Valuation, Choice, IsState, IsSameIn, Cycle, ShowsDone}
use Rattle.verilog_meaning.specs.Threads.{slot, alone, all_enabled, IsSame, IsSameSlot, Needs, IsThreaded, IsStuck}
use Rattle.sim_layout.specs.Running.{Running, state_of, TellsDone}
use Rattle.slot_sim.specs.Slots.{TellsNeed, Moving}
use Rattle.slot_sim.proofs.Bits.{set_here, alone_is_choice}
use Rattle.slot_sim.proofs.Sames.{to_at}
use Rattle.journal_laws.specs.Journal.{CanMove}
use Rattle.journal_laws.proofs.LoneCycles.{slot_within}

low : (n : ℕ) → n < 2 → (n ≡ 0) ⊎ (n ≡ 1)
low n l = ⊎_elim (λ e. inl e) (λ other. inr (omega (arith, l, other))) (cases_eq n 0)

not_one : (n : ℕ) → false ≡ nat_eq n 1 → n < 2 → n ≡ 0
not_one n e l = grind (arith, nat_tests)

-- numbers are the same or not
pub slot_stable : (modules : List Module) (top : Module) (outer : Path) (h g : Valuation) → ((IsSameIn modules top outer h g → ⊥) → ⊥) → IsSameIn modules top outer h g
slot_stable modules top outer h g never = record {
  registers = λ path m x s at i.
      ⊎_elim (λ same. same) (λ other. absurd (never (λ is. other (is.registers path m x s at i)))) (cases_eq ((h (path ++ outer)).signal x) ((g (path ++ outer)).signal x));
  words = λ path m j k s at l.
      ⊎_elim (λ same. same) (λ other. absurd (never (λ is. other (is.words path m j k s at l)))) (cases_eq ((h (path ++ outer)).word j k) ((g (path ++ outer)).word j k));
}

pub state_to : (modules : List Module) (top : Module) (threads : ℕ) (h g : Valuation) → IsState modules top h → IsSame modules top threads h g → IsState modules top g
state_to modules top threads h g st same = record {
  registers = λ path m x s at i. subst (λ n. n < 2 ^ s.width) ((to_at modules top h g same path).registers m x s at i) (st.registers path m x s at i);
  words = λ path m j k s at l. subst (λ n. n < 2 ^ s.width) ((to_at modules top h g same path).words m j k s at l) (st.words path m j k s at l);
}

module _ (modules : List Module) (top : Module) where
  pub shown_bit : (h : Valuation) (c : Choice) (b : ℕ) → ShowsDone modules top h c b → b < 2
  shown_bit h c b shows =
      let n = (shows.through []).signal shows.place in
      let small : n < 2 = subst (λ w. n < 2 ^ w) shows.bit (shows.settled.within [] top shows.place shows.signal (record { stands = refl; listed = shows.is.listed })) in
      subst (λ k. k < 2) shows.number small

  module _ (threads : ℕ) (t : IsThreaded modules top threads) (i : ℕ) (l : i < threads) where
    -- need is 0 or 1
    pub need_bit : (h g : Valuation) (out : List ℕ) → Cycle modules top h (alone i) g out → Needs modules top threads h (alone i) i 0 ⊎ Needs modules top threads h (alone i) i 1
    need_bit h g out cycle =
        let has = t.has i l in
        let n = (cycle.through (slot modules top threads i)).signal has.need_place in
        let small : n < 2 =
        subst (λ w. n < 2 ^ w) has.one_bit (cycle.settled.within (slot modules top threads i) has.kind has.need_place has.need (record { stands = has.stands; listed = has.has_need.listed })) in
        let needs : Needs modules top threads h (alone i) i n = record {
          kind = has.kind;
          stands = has.stands;
          place = has.need_place;
          signal = has.need;
          is = has.has_need;
          through = cycle.through;
          settled = cycle.settled;
          number = refl;
        } in
        ⊎_elim (λ e. inl (subst (λ k. Needs modules top threads h (alone i) i k) e needs)) (λ e. inr (subst (λ k. Needs modules top threads h (alone i) i k) e needs)) (low n small)

    pub cannot_stuck : (h : Valuation) → CanMove modules top threads h i → IsStuck modules top threads h → ⊥
    cannot_stuck h moving stuck = moving.changes (slot_within modules top threads i h moving.next (stuck i moving.next moving.out l moving.cycle))

  -- where no thread can move, no cycle of one thread changes anything
  pub stuck_none : (threads : ℕ) → IsThreaded modules top threads → (h : Valuation) → IsState modules top h → ((k : ℕ) → k < threads → CanMove modules top threads h k → ⊥)
      → IsStuck modules top threads h
  stuck_none threads t h state none i g out l cycle =
      let same : IsSameSlot modules top threads i h g =
      slot_stable modules top (slot modules top threads i) h g (λ differs. none i l (record { next = g; out = out; cycle = cycle; changes = differs })) in
      ⊎_elim
      (λ closed. absurd (t.closed_moves h g (alone i) out i state (alone_is_choice threads i l) l cycle (set_here i) closed same))
      (λ open_. t.open_moves h g out i state l cycle open_ same)
      (need_bit threads t i l h g out cycle)

-- ---- what the calls of a simulator tell, with `top` by its name

module _ (r : Running) (top : Module) (e : top_of r.modules ≡ Some top) (threads : ℕ) where
  pub can_move : (i : ℕ) → Moving threads i r → CanMove r.modules top threads (state_of r) i
  can_move i m =
      subst (λ (x : Module). CanMove r.modules x threads (state_of r) i) (same_Some m.top top (sym m.is_top ∙ e))
      (let c : CanMove r.modules m.top threads (state_of r) i = record { next = m.next; out = m.out; cycle = m.cycle; changes = m.changes } in c)

  pub moving : (i : ℕ) → CanMove r.modules top threads (state_of r) i → Moving threads i r
  moving i c = record { top = top; is_top = e; next = c.next; out = c.out; cycle = c.cycle; changes = c.changes }

  abbrev All : Choice
  All = all_enabled threads []

  pub not_shown : TellsDone All r false → ShowsDone r.modules top (state_of r) All 0
  not_shown d =
      let shows : ShowsDone r.modules top (state_of r) All d.number = subst (λ (x : Module). ShowsDone r.modules x (state_of r) All d.number) (same_Some d.top top (sym d.is_top ∙ e)) d.shows in
      subst (λ n. ShowsDone r.modules top (state_of r) All n) (not_one d.number d.is (shown_bit r.modules top (state_of r) All d.number shows)) shows

  pub is_shown : TellsDone All r true → ShowsDone r.modules top (state_of r) All 1
  is_shown d =
      let shows : ShowsDone r.modules top (state_of r) All d.number = subst (λ (x : Module). ShowsDone r.modules x (state_of r) All d.number) (same_Some d.top top (sym d.is_top ∙ e)) d.shows in
      subst (λ n. ShowsDone r.modules top (state_of r) All n) (eqb-true d.number 1 (sym d.is)) shows

  pub need_told : (i : ℕ) → TellsNeed threads i r true → Needs r.modules top threads (state_of r) (alone i) i 1
  need_told i n =
      let needs : Needs r.modules top threads (state_of r) (alone i) i n.number =
      subst (λ (x : Module). Needs r.modules x threads (state_of r) (alone i) i n.number) (same_Some n.top top (sym n.is_top ∙ e)) n.needs in
      subst (λ k. Needs r.modules top threads (state_of r) (alone i) i k) (eqb-true n.number 1 (sym n.is)) needs

  pub need_tells : (i : ℕ) → Needs r.modules top threads (state_of r) (alone i) i 1 → TellsNeed threads i r true
  need_tells i n = record { top = top; is_top = e; number = 1; needs = n; is = refl }
