-- Whether a thread moves: it does where its next cycle is closed, and else where the edge changes its slot.
use Rattle.std.specs.Prelude.{◌≡◌, ℕ, ◌^◌, ◌<◌, Bool, true, false, MatchBool, nat_eq, List, [], Some, refl}
use Rattle.std.proofs.Common.{ap, sym, ◌∙◌, subst, arith}
use Rattle.std.proofs.lemmas.Bool.Decides.{nat_tests}
use Rattle.std.proofs.lemmas.Option.{same_Some}
use Rattle.netlist.specs.declared.netlist.Module.{Module}
use Rattle.verilog_meaning.specs.Names.{top_of}
use Rattle.verilog_meaning.specs.Cycles.{Choice, IsAt, IsSameIn, Cycle}
use Rattle.verilog_meaning.specs.Threads.{slot, alone, HasThread, IsThreaded, Needs}
use Rattle.sim_layout.specs.Rounds.{threads_of}
use Rattle.sim_layout.specs.Running.{Running, Stands, flat, state_of, choice_of, IsSettledRun, IsSameState, settled_run, advanced}
use Rattle.slot_sim.specs.declared.slot.Slot.{Slot}
use Rattle.slot_sim.specs.Changing.{parts_change}
use Rattle.slot_sim.specs.Slots.{IsThreadedIn, TellsNeed, Moving, Opening, IsSlot}
use Rattle.slot_sim.proofs.AlteredSlots.{differs, stays}
use Rattle.slot_sim.proofs.Bits.{set_here, alone_is_choice}
use Rattle.slot_sim.proofs.ThreadsStand.{members}
use Rattle.slot_sim.proofs.Sames.{in_refl}
use Rattle.slot_sim.proofs.Trials.{alone_fits, need_is_told, moves_by_trial}
use Rattle.slot_sim.proofs.ClosedRuns.{is_state, goes_on}

-- ---- a closed cycle

module _ (r : Running) (st : Stands r) (threads i : ℕ) (threaded : IsThreadedIn r.modules threads) (many : threads_of r.modules ≡ threads) (l : i < threads) (tells : TellsNeed threads i r false) where
  abbrev t : IsThreaded r.modules tells.top threads
  t = threaded tells.top tells.is_top

  abbrev has : HasThread r.modules tells.top threads i
  has = t.has i l

  cycle : (out : List ℕ) × Cycle r.modules tells.top (state_of r) (alone i) (state_of (advanced (settled_run (alone i) r))) out
  cycle = goes_on r st tells.top tells.is_top i (omega (arith, many, l))

  there : IsAt r.modules tells.top (slot r.modules tells.top threads i) has.kind has.need_place has.need
  there = record { stands = has.stands; listed = has.has_need.listed }

  number : ℕ
  number = (cycle.1.through (slot r.modules tells.top threads i)).signal has.need_place

  needs : Needs r.modules tells.top threads (state_of r) (alone i) i number
  unfolding number cycle
  needs = record {
    kind = has.kind;
    stands = has.stands;
    place = has.need_place;
    signal = has.need;
    is = has.has_need;
    through = cycle.1.through;
    settled = cycle.1.settled;
    number = refl;
  }

  small : number < 2
  unfolding number cycle
  small = subst (λ w. number < 2 ^ w) has.one_bit (cycle.1.settled.within (slot r.modules tells.top threads i) has.kind has.need_place has.need there)

  not_one : (n : ℕ) → false ≡ nat_eq n 1 → n < 2 → n ≡ 0
  not_one n e low = grind (arith, nat_tests)

  closed : number ≡ 0
  closed =
      let same : tells.number ≡ number =
      t.needs (state_of r) (state_of r) (alone i) (alone i) i tells.number number l (in_refl r.modules tells.top (slot r.modules tells.top threads i) (state_of r)) tells.needs needs in
      not_one number (tells.is ∙ ap (λ n. nat_eq n 1) same) small

  pub closed_moving : Moving threads i r
  closed_moving = record {
    top = tells.top;
    is_top = tells.is_top;
    next = state_of (advanced (settled_run (alone i) r));
    out = cycle.0;
    cycle = cycle.1;
    changes = t.closed_moves (state_of r) (state_of (advanced (settled_run (alone i) r))) (alone i) cycle.0 i (is_state r st tells.top tells.is_top)
        (alone_is_choice threads i l) l cycle.1 (set_here i)
        (subst (λ n. Needs r.modules tells.top threads (state_of r) (alone i) i n) closed needs);
  }

-- ---- the state of another simulator

pub state_in : (a b : Running) (modules : List Module) (top : Module) → a.modules ≡ modules → top_of modules ≡ Some top → IsSameState a b → IsSameIn modules top [] (state_of a) (state_of b)
state_in a b modules top e is same =
    subst (λ (ms : List Module). IsSameIn ms top [] (state_of a) (state_of b)) e
    (subst (λ (t : Module). IsSameIn a.modules t [] (state_of a) (state_of b)) (same_Some same.top top (sym same.is_top ∙ ap top_of e ∙ is)) same.same)

-- ---- by cases on what a call tells

pub match_bool : (b : Bool) {A B : Type 0} → (b ≡ true → A) → (b ≡ false → B) → MatchBool b A B
match_bool true f g = f refl
match_bool false f g = g refl

-- ---- the edge from settled words

module _ (r n : Running) (i : ℕ) (s : Slot) (is : IsSlot i r.modules r.parts s) (l : i < threads_of r.modules) (under : IsSettledRun (choice_of s.alone) r n) where
  abbrev st : Stands r
  st = under.stands

  run : n ≡ settled_run (alone i) r
  run = under.is ∙ ap (λ (c : Choice). settled_run c r) is.alone_is

  cycle_there : (out : List ℕ) × Cycle r.modules st.top (state_of r) (alone i) (state_of (advanced (settled_run (alone i) r))) out
  cycle_there = goes_on r st st.top st.is_top i l

  told : (b : Bool) → b ≡ parts_change n.modules n.parts (flat n) s.members.items → parts_change r.modules r.parts (flat (settled_run (alone i) r)) s.members.items ≡ b
  told b e = sym (e ∙ ap (λ (m : Running). parts_change m.modules m.parts (flat m) s.members.items) run)

  moves_at : (b : Bool) → b ≡ parts_change n.modules n.parts (flat n) s.members.items → b ≡ true → Moving (threads_of r.modules) i r
  moves_at b e t =
      (moves_by_trial r st (threads_of r.modules) i st.top st.is_top (state_of (advanced (settled_run (alone i) r))) cycle_there.0 cycle_there.1).0
      (differs r st (alone i) (alone_fits r st i l) (slot r.modules st.top (threads_of r.modules) i) s.members.items (members r st i s is) (told b e ∙ t))

  stays_at : (b : Bool) → b ≡ parts_change n.modules n.parts (flat n) s.members.items → b ≡ false → Moving (threads_of r.modules) i r → ⊥
  stays_at b e f =
      (moves_by_trial r st (threads_of r.modules) i st.top st.is_top (state_of (advanced (settled_run (alone i) r))) cycle_there.0 cycle_there.1).1
      (stays r st (alone i) (alone_fits r st i l) (slot r.modules st.top (threads_of r.modules) i) s.members.items (members r st i s is) (told b e ∙ f))

  pub moving_told : (b : Bool) → b ≡ parts_change n.modules n.parts (flat n) s.members.items → MatchBool b (Moving (threads_of r.modules) i r) (Moving (threads_of r.modules) i r → ⊥)
  moving_told b e = match_bool b (moves_at b e) (stays_at b e)

  pub opening_told : (b : Bool) → b ≡ parts_change n.modules n.parts (flat n) s.members.items → TellsNeed (threads_of r.modules) i r true
      → MatchBool b (Opening (threads_of r.modules) i r) (Opening (threads_of r.modules) i r → ⊥)
  opening_told b e need = match_bool b (λ t. (need, moves_at b e t)) (λ f o. stays_at b e f o.1)

-- a closed cycle is not open
pub not_opening : (r : Running) (threads i : ℕ) → IsThreadedIn r.modules threads → i < threads → TellsNeed threads i r false → Opening threads i r → ⊥
not_opening r threads i threaded l closed o =
    let clash : false ≡ true = need_is_told r threads i false true threaded l closed o.0 in
    absurd cc
