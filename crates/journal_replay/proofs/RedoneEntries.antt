-- Cycles and entries done again.
use Rattle.std.specs.Prelude.{◌≡◌, ℕ, suc, ◌+◌, ◌-◌, ◌<◌, Bool, true, false, MatchBool, List, [], ◌++◌, Some, refl}
use mathlib.Core.Bool.{beq, not}
use Rattle.std.proofs.Common.{ap, sym, ◌∙◌, subst, arith}
use Rattle.std.proofs.lemmas.List.{append_assoc}
use Rattle.netlist.specs.declared.netlist.Module.{Module}
use Rattle.verilog_meaning.specs.Names.{top_of}
use Rattle.verilog_meaning.specs.Cycles.{Valuation, Choice, Cycle, Runs, ShowsDone}
use Rattle.verilog_meaning.specs.Threads.{slot, alone, all_enabled, times, IsSame, IsSameSlot, Needs, Moves}
use Rattle.sim_layout.specs.Rounds.{threads_of}
use Rattle.sim_layout.specs.Running.{Running, Stands, state_of, IsSameNet, IsSameState, IsCycleOf, TellsDone}
use Rattle.cycle_sim.proofs.FlatLaws.{cycle_once}
use Rattle.cycle_sim.proofs.Same.{same_refl, runs_on}
use Rattle.slot_sim.specs.Slots.{IsThreadedIn, TellsNeed, Moving}
use Rattle.slot_sim.proofs.Sames.{in_refl}
use Rattle.slot_sim.proofs.Trials.{need_is_told}
use Rattle.journal_laws.specs.Journal.{CanMove}
use Rattle.journal_laws.specs.Steps.{OfTop}
use Rattle.journal_laws.proofs.LoneCycles.{times_more, slot_within, slot_trans, moves_from, moves_more}
use Rattle.journal_laws.proofs.Judgements.{can_move, moving, need_told, is_shown, not_shown}
use Rattle.journal_laws.proofs.Alike.{shown_back, moving_back, moving_on, of_top}
use Rattle.journal_laws.proofs.EntrySlots.{cycle_back}
use Rattle.journal_laws.proofs.Once.{moves_split, moves_once}
use Rattle.journal_laws.proofs.ClosedCycles.{need_closed}
use Rattle.journal_replay.specs.Replays.{needed, MayStep, AreRedone, CannotRedo}

-- ---- what need tells, either way

pub need_at : (r : Running) (n i : ℕ) → IsThreadedIn r.modules n → i < n → (top : Module) → top_of r.modules ≡ Some top → (g : Valuation) (out : List ℕ)
    → Cycle r.modules top (state_of r) (alone i) g out
    → (b : Bool) → TellsNeed n i r b → Needs r.modules top n (state_of r) (alone i) i (needed b)
need_at r n i threaded below top e g out cycle true tells = need_told r top e n i tells
need_at r n i threaded below top e g out cycle false tells = need_closed r n i threaded below top e g out cycle tells

tells_at : (r : Running) (n i : ℕ) (top : Module) → top_of r.modules ≡ Some top → (b : Bool) → Needs r.modules top n (state_of r) (alone i) i (needed b) → TellsNeed n i r b
tells_at r n i top e true needs = record { top = top; is_top = e; number = 1; needs = needs; is = refl }
tells_at r n i top e false needs = record { top = top; is_top = e; number = 0; needs = needs; is = refl }

-- ---- whether a cycle may be done

pub other_bit : (a b : Bool) → not (beq a b) ≡ true → a ≡ b → ⊥
other_bit true true e same = absurd cc
other_bit true false e same = absurd cc
other_bit false true e same = absurd cc
other_bit false false e same = absurd cc

pub same_bit : (a b : Bool) → not (beq a b) ≡ false → a ≡ b
same_bit true true e = refl
same_bit true false e = absurd cc
same_bit false true e = absurd cc
same_bit false false e = refl

module _ (r : Running) (i : ℕ) (b : Bool) (threaded : IsThreadedIn r.modules (threads_of r.modules)) (below : i < threads_of r.modules) where
  pub need_differs : (told : Bool) → TellsNeed (threads_of r.modules) i r told → (told ≡ b → ⊥) → MayStep i b r → ⊥
  need_differs told tells other m = other (need_is_told r (threads_of r.modules) i told b threaded below tells m.need)

  module _ (s : Running) (net : IsSameNet r s) (state : IsSameState r s) where
    there : top_of s.modules ≡ Some state.top
    there = ap top_of net.modules ∙ state.is_top

    pub done_shown : TellsDone (all_enabled (threads_of s.modules) []) s true → MayStep i b r → ⊥
    done_shown d m =
        let one = shown_back r s net state (threads_of s.modules) 1 (is_shown s state.top there (threads_of s.modules) d) in
        let none = not_shown r state.top state.is_top (threads_of r.modules) m.running in
        let h = state_of r in
        let e : 1 ≡ 0 =
        (threaded state.top state.is_top).done_alike h h (all_enabled (threads_of s.modules) []) (all_enabled (threads_of r.modules) []) 1 0
        (in_refl r.modules state.top (slot r.modules state.top (threads_of r.modules) 0) h) one none in
        absurd (omega (arith, e))

    running_back : TellsDone (all_enabled (threads_of s.modules) []) s false → TellsDone (all_enabled (threads_of r.modules) []) r false
    running_back d = record {
      top = state.top;
      is_top = state.is_top;
      number = 0;
      shows = subst (λ (k : ℕ). ShowsDone r.modules state.top (state_of r) (all_enabled k []) 0) (ap threads_of net.modules)
          (shown_back r s net state (threads_of s.modules) 0 (not_shown s state.top there (threads_of s.modules) d));
      is = refl;
    }

    -- the last test
    pub may_told : TellsNeed (threads_of r.modules) i r b → TellsDone (all_enabled (threads_of s.modules) []) s false → (u : Running) → IsSameNet r u → IsSameState r u → (c : Bool)
        → MatchBool c (Moving (threads_of u.modules) i u) (Moving (threads_of u.modules) i u → ⊥) → MatchBool c (MayStep i b r) (MayStep i b r → ⊥)
    may_told tells d u un us true m = record { need = tells; running = running_back d; moves = moving_back r u un us i m }
    may_told tells d u un us false m = λ may. m (moving_on r u un us i may.moves)

-- ---- so many cycles

abbrev pub AreDone : Running → Running → ℕ → Bool → ℕ → List ℕ → List ℕ → Type 0
AreDone old r i b k before after = OfTop old (λ ms top n. AreRedone ms top n i b k (state_of old) (state_of r) before after)

module _ (old r : Running) (st : Stands old) (i : ℕ) (b : Bool) (k : ℕ) (threaded : IsThreadedIn old.modules (threads_of old.modules)) (below : i < threads_of old.modules)
    (net : IsSameNet old r)
    (before now : List ℕ) (done : AreDone old r i b k before now) where
  abbrev top : Module
  top = done.top

  abbrev ms : List Module
  ms = old.modules

  abbrev n : ℕ
  n = threads_of old.modules

  abbrev g : Valuation
  g = state_of r

  at : top_of r.modules ≡ Some top
  at = ap top_of net.modules ∙ done.is_top

  over : (P : List Module → Module → ℕ → Type 0) → P r.modules top (threads_of r.modules) → P ms top n
  over P = subst (λ (x : List Module). P x top (threads_of x)) net.modules

  under : (P : List Module → Module → ℕ → Type 0) → P ms top n → P r.modules top (threads_of r.modules)
  under P = subst (λ (x : List Module). P x top (threads_of x)) (sym net.modules)

  -- one more
  pub done_more : MayStep i b r → (s : Running) → IsSameNet r s → IsSameState r s → (new : Running) (after : List ℕ) → IsCycleOf (alone i) s new now after
      → AreDone old new i b (k + 1) before after
  done_more may s sn ss new after c =
      let l = state_of new in
      let x = of_top (λ ms top n. (bytes : List ℕ) × Cycle ms top g (alone i) l bytes × (after ≡ now ++ bytes)) r (cycle_back r s sn ss i new now after c) top at in
      let cycle : Cycle ms top g (alone i) l x.0 = over (λ ms top n. Cycle ms top g (alone i) l x.0) x.1 in
      let needs : Needs ms top n g (alone i) i (needed b) =
      over (λ ms top n. Needs ms top n g (alone i) i (needed b))
      (need_at r (threads_of r.modules) i (subst (λ (y : List Module). IsThreadedIn y (threads_of y)) (sym net.modules) threaded)
      (subst (λ (y : List Module). i < threads_of y) (sym net.modules) below)
      top at l x.0 x.1 b may.need) in
      let shows : ShowsDone ms top g (all_enabled n []) 0 =
      over (λ ms top n. ShowsDone ms top g (all_enabled n []) 0) (not_shown r top at (threads_of r.modules) may.running) in
      let move : CanMove ms top n g i = over (λ ms top n. CanMove ms top n g i) (can_move r top at (threads_of r.modules) i may.moves) in
      let once = cycle_once old st top done.is_top g l move.next (alone i) x.0 move.out cycle move.cycle in
      let changes : IsSameSlot ms top n i g l → ⊥ = λ is. move.changes (slot_trans ms top n i g l move.next is (slot_within ms top n i l move.next once.0)) in
      let d = done.holds in
      let count : suc k ≡ k + 1 = omega arith in record {
        top = top;
        is_top = done.is_top;
        holds = record {
          moves = subst (λ (j : ℕ). Moves ms top n (needed b) i j (state_of old) l) count (moves_more ms top n i (needed b) k (state_of old) g l x.0 d.moves needs shows
              cycle changes);
          bytes = d.bytes ++ x.0;
          runs = subst (λ (cs : List Choice). Runs ms top (state_of old) cs l (d.bytes ++ x.0)) (times_more ms top n k (alone i) ∙ ap (λ j. times ms top n j (alone i)) count)
              (runs_on ms top (times ms top n k (alone i)) (state_of old) g l (alone i) d.bytes x.0 d.runs cycle);
          appended = x.2 ∙ ap (λ z. z ++ x.0) d.appended ∙ append_assoc before d.bytes x.0;
        };
      }

  -- or no more: there are no so many
  pub cannot_more : (MayStep i b r → ⊥) → (count : ℕ) → k < count → OfTop old (λ ms top n. CannotRedo ms top n i b count (state_of old))
  cannot_more stuck count l = record {
    top = top;
    is_top = done.is_top;
    holds = λ z m.
        let s = moves_split ms top n (needed b) i k (suc (count - (k + 1))) count (state_of old) z (omega (arith, l)) m in
        let same : IsSame ms top n g s.0 = moves_once old st top done.is_top n (needed b) i k (state_of old) (state_of old) g s.0 (same_refl ms top (state_of old))
        (done.holds).moves s.1 in
        let first = moves_from ms top n i (needed b) (suc (count - (k + 1))) g s.0 z same s.2 in
        stuck (record {
          need = tells_at r (threads_of r.modules) i top at b (under (λ ms top n. Needs ms top n g (alone i) i (needed b)) first.2);
          running = record { top = top; is_top = at; number = 0; shows = under (λ ms top n. ShowsDone ms top g (all_enabled n []) 0) first.3; is = refl };
          moves = moving r top at (threads_of r.modules) i
              (under (λ ms top n. CanMove ms top n g i) (let c : CanMove ms top n g i = record { next = first.0; out = first.1; cycle = first.4; changes = first.5 } in c));
        });
  }
