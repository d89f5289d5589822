-- Closed cycles one after another.
use Rattle.std.specs.Prelude.{◌≡◌, ℕ, zero, suc, ◌+◌, ◌<◌, false, true, List, [], Some, refl}
use Rattle.std.proofs.Common.{ap, sym, ◌∙◌, subst, inl, inr, ⊎_elim, arith}
use Rattle.std.proofs.lemmas.Option.{same_Some}
use Rattle.std.proofs.lemmas.Bool.{eqb-false}
use Rattle.netlist.specs.declared.netlist.Module.{Module}
use Rattle.verilog_meaning.specs.Names.{top_of}
use Rattle.verilog_meaning.specs.Cycles.{Valuation, Cycle}
use Rattle.verilog_meaning.specs.Threads.{alone, IsSame, Needs}
use Rattle.sim_layout.specs.Rounds.{threads_of}
use Rattle.sim_layout.specs.Running.{Running, Stands, state_of, IsSameNet, IsSameState, IsCycleOf}
use Rattle.slot_sim.proofs.Same.{same_refl, same_sym, same_trans, cycle_moved}
use Rattle.slot_sim.specs.Slots.{IsThreadedIn, TellsNeed}
use Rattle.slot_sim.specs.Threaded.{Advances}
use Rattle.slot_sim.proofs.ClosedRuns.{is_state}
use Rattle.slot_sim.proofs.Trials.{needs_move}
use Rattle.journal_laws.specs.Steps.{OfTop, IsClosedRun}
use Rattle.journal_laws.proofs.LoneCycles.{slot_within}
use Rattle.journal_laws.proofs.Judgements.{need_bit, need_told}
use Rattle.journal_laws.proofs.Alike.{of_top, of_net}
use Rattle.journal_laws.proofs.EntrySlots.{cycle_back}

module _ (modules : List Module) (top : Module) (n i : ℕ) where
  -- closed cycles lead from one state to another
  abbrev pub Passes : ℕ → Valuation → Valuation → Type 0
  Passes zero h g = IsSame modules top n h g
  Passes (suc k) h g = (mid : Valuation) × (out : List ℕ) × Needs modules top n h (alone i) i 0 × Cycle modules top h (alone i) mid out × Passes k mid g

  passes_more : (k : ℕ) (h g m : Valuation) (out : List ℕ) → Passes k h g → Needs modules top n g (alone i) i 0 → Cycle modules top g (alone i) m out → Passes (suc k) h m
  passes_more zero h g m out p needs cycle =
      (m, out, needs_move modules top n h g (alone i) i 0 p needs, cycle_moved modules top h g p (alone i) m out cycle, same_refl modules top m)
  passes_more (suc k) h g m out p needs cycle = (p.0, p.1, p.2, p.3, passes_more k p.0 g m out p.4 needs cycle)

  passes_to : (k : ℕ) (h g m : Valuation) → Passes k h g → IsSame modules top n g m → Passes k h m
  passes_to zero h g m p same = same_trans modules top h g m p same
  passes_to (suc k) h g m p same = (p.0, p.1, p.2, p.3, passes_to k p.0 g m p.4 same)

  advances : (k : ℕ) (h g : Valuation) → Passes k h g → Advances modules top n i k h g
  advances zero h g p = slot_within modules top n i h g p
  advances (suc k) h g p = (p.0, p.1, p.2, p.3, advances k p.0 g p.4)

-- need that is told not to be 1 is 0
pub need_closed : (r : Running) (n i : ℕ) → IsThreadedIn r.modules n → i < n → (top : Module) → top_of r.modules ≡ Some top → (g : Valuation)
    (out : List ℕ) → Cycle r.modules top (state_of r) (alone i) g out
    → TellsNeed n i r false → Needs r.modules top n (state_of r) (alone i) i 0
need_closed r n i threaded below top e g out cycle tells =
    let h = state_of r in
    ⊎_elim (λ zero. zero)
    (λ one. absurd (
    let told : Needs r.modules top n h (alone i) i tells.number = subst (λ (y : Module). Needs r.modules y n h (alone i) i tells.number) (same_Some tells.top top (sym tells.is_top ∙ e)) tells.needs in
    let same : tells.number ≡ 1 =
    (threaded top e).needs h h (alone i) (alone i) i tells.number 1 below (slot_within r.modules top n i h h (same_refl r.modules top h)) told one in
    eqb-false tells.number 1 (sym tells.is) same))
    (need_bit r.modules top n (threaded top e) i below h g out cycle)

-- so many were done in a simulator
abbrev pub ArePassed : Running → Running → ℕ → ℕ → Type 0
ArePassed old r i k = OfTop old (λ ms top n. Passes ms top n i k (state_of old) (state_of r))

pub none_passed : (old : Running) → Stands old → (i : ℕ) → ArePassed old old i 0
none_passed old st i = record { top = st.top; is_top = st.is_top; holds = same_refl old.modules st.top (state_of old) }

-- the next cycle is closed, and goes on in a simulator that stands in the same state
module _ (old r s : Running) (i k : ℕ) (threaded : IsThreadedIn old.modules (threads_of old.modules)) (below : i < threads_of old.modules) (net : IsSameNet old r) (passed : ArePassed old r i k)
    (net_s : IsSameNet r s) (state : IsSameState r s) where
  abbrev top : Module
  top = passed.top

  abbrev ms : List Module
  ms = old.modules

  abbrev n : ℕ
  n = threads_of old.modules

  same : IsSame ms top n (state_of r) (state_of s)
  same =
      let o : OfTop r (λ ms top n. IsSame ms top n (state_of r) (state_of s)) = record { top = state.top; is_top = state.is_top; holds = state.same } in
      of_top (λ ms top n. IsSame ms top n (state_of r) (state_of s)) old (of_net (λ ms top n. IsSame ms top n (state_of r) (state_of s)) old r net o) top passed.is_top

  pub passed_more : TellsNeed (threads_of r.modules) i r false → (new : Running) (out : List ℕ) → IsCycleOf (alone i) s new [] out → ArePassed old new i (k + 1)
  passed_more tells new out c =
      let o : OfTop r (λ ms top n. (bytes : List ℕ) × Cycle ms top (state_of r) (alone i) (state_of new) bytes × (out ≡ bytes)) = cycle_back r s net_s state i new [] out c in
      let x = of_top (λ ms top n. (bytes : List ℕ) × Cycle ms top (state_of r) (alone i) (state_of new) bytes × (out ≡ bytes)) old
      (of_net (λ ms top n. (bytes : List ℕ) × Cycle ms top (state_of r) (alone i) (state_of new) bytes × (out ≡ bytes)) old r net o) top passed.is_top in
      let there = ap top_of net.modules ∙ passed.is_top in
      let needs : Needs ms top n (state_of r) (alone i) i 0 =
      subst (λ (y : List Module). Needs y top (threads_of y) (state_of r) (alone i) i 0) net.modules
      (need_closed r (threads_of r.modules) i (subst (λ (y : List Module). IsThreadedIn y (threads_of y)) (sym net.modules) threaded) (subst (λ
      (y : List Module). i < threads_of y) (sym net.modules) below)
      top there (state_of new) x.0 (subst (λ (y : List Module). Cycle y top (state_of r) (alone i) (state_of new) x.0) (sym net.modules) x.1) tells) in
      record {
        top = top;
        is_top = passed.is_top;
        holds = subst (λ (j : ℕ). Passes ms top n i j (state_of old) (state_of new)) (let e : suc k ≡ k + 1 = omega arith in e)
            (passes_more ms top n i k (state_of old) (state_of r) (state_of new) x.0 passed.holds needs x.1);
      }

  pub stopped : Stands old → TellsNeed (threads_of r.modules) i r true → (most : ℕ) → OfTop old (λ ms top n. IsClosedRun ms top n i most k (state_of old) (state_of s))
  stopped st tells most =
      let need : Needs ms top n (state_of r) (alone i) i 1 =
      subst (λ (y : List Module). Needs y top (threads_of y) (state_of r) (alone i) i 1) net.modules (need_told r top (ap top_of net.modules ∙ passed.is_top) (threads_of r.modules) i tells) in
      record {
        top = top;
        is_top = passed.is_top;
        holds = record {
          state = is_state old st top passed.is_top;
          run = advances ms top n i k (state_of old) (state_of s) (passes_to ms top n i k (state_of old) (state_of r) (state_of s) passed.holds same);
          whole = inr (needs_move ms top n (state_of s) (state_of r) (alone i) i 1 (same_sym ms top (state_of r) (state_of s) same) need);
        };
      }

pub ran_all : (old r : Running) (i k most : ℕ) → Stands old → ArePassed old r i k → k ≡ most → OfTop old (λ ms top n. IsClosedRun ms top n i most most (state_of old) (state_of r))
ran_all old r i k most st passed e =
    let all : ArePassed old r i most = subst (λ (j : ℕ). ArePassed old r i j) e passed in record {
      top = all.top;
      is_top = all.is_top;
      holds = record {
        state = is_state old st all.top all.is_top;
        run = advances old.modules all.top (threads_of old.modules) i most (state_of old) (state_of r) all.holds;
        whole = inl refl;
      };
    }
