-- A simulator whose state is that of another one.
use Rattle.std.specs.Prelude.{◌≡◌, ℕ, Bool, true, false, ◌+◌, ◌<◌, ◌≤◌, List, [], Option, Some, None}
use Rattle.std.proofs.Common.{ap, sym, ◌∙◌, subst, ⊎_elim, arith}
use Rattle.std.proofs.lemmas.Option.{same_Some}
use Rattle.std.proofs.lemmas.Bool.{cases_lt, cases_eq}
use Rattle.netlist.specs.declared.netlist.Module.{Module}
use Rattle.verilog_meaning.specs.Names.{top_of}
use Rattle.verilog_meaning.specs.Cycles.{Valuation, Choice, IsSameIn, ShowsDone}
use Rattle.verilog_meaning.specs.Threads.{alone, all_enabled, IsSame, IsStuck}
use Rattle.sim_layout.specs.Rounds.{threads_of}
use Rattle.sim_layout.specs.Running.{Running, Stands, state_of, IsSameNet, IsSameState, TellsDone}
use Rattle.slot_sim.proofs.Same.{same_sym, same_trans, cycle_moved, shows_moved}
use Rattle.slot_sim.specs.Slots.{IsThreadedIn, Moving}
use Rattle.slot_sim.proofs.ClosedRuns.{is_state}
use Rattle.slot_sim.proofs.WhoMoves.{state_in}
use Rattle.journal_laws.specs.declared.verdict.Verdict.{Verdict}
use Rattle.journal_laws.specs.declared.verdict.Verdict.TheVariants as verdicts
use Rattle.journal_laws.specs.Journal.{CanMove, GoesOn, Ends, Judged}
use Rattle.journal_laws.specs.Steps.{OfTop, IsFirstFound, IsMover, IsPreferred}
use Rattle.journal_laws.proofs.LoneCycles.{changes_from}
use Rattle.journal_laws.proofs.Judgements.{can_move, moving, not_shown, is_shown, stuck_none, cannot_stuck}

pub net_sym : (a b : Running) → IsSameNet a b → IsSameNet b a
net_sym a b n = record { modules = sym n.modules; parts = sym n.parts; steps = sym n.steps; starts = sym n.starts; prefs = sym n.prefs; done = sym n.done }

pub state_trans : (a b c : Running) → IsSameNet a b → IsSameState a b → IsSameState b c → IsSameState a c
state_trans a b c net x y = record {
  top = x.top;
  is_top = x.is_top;
  same = same_trans a.modules x.top (state_of a) (state_of b) (state_of c) x.same (state_in b c a.modules x.top net.modules x.is_top y);
}

pub can_move_from : (modules : List Module) (top : Module) (threads i : ℕ) (h g : Valuation) → IsSame modules top threads h g → CanMove modules top threads g i → CanMove modules top threads h i
can_move_from modules top threads i h g same m = record {
  next = m.next;
  out = m.out;
  cycle = cycle_moved modules top h g same (alone i) m.next m.out m.cycle;
  changes = changes_from modules top threads i h g m.next same m.changes;
}

-- what is told of the later of two simulators holds of the earlier
module _ (r s : Running) (net : IsSameNet r s) (state : IsSameState r s) where
  pub moving_back : (i : ℕ) → Moving (threads_of s.modules) i s → Moving (threads_of r.modules) i r
  moving_back i m =
      let threads = threads_of r.modules in
      let same : IsSameIn r.modules state.top [] (state_of r) (state_of s) = state.same in
      let there : CanMove s.modules state.top (threads_of s.modules) (state_of s) i = can_move s state.top (ap top_of net.modules ∙ state.is_top) (threads_of s.modules) i m in
      let here : CanMove r.modules state.top threads (state_of s) i = subst (λ (ms : List Module). CanMove ms state.top (threads_of ms) (state_of s) i) net.modules there in
      moving r state.top state.is_top threads i (can_move_from r.modules state.top threads i (state_of r) (state_of s) same here)

  pub shown_back : (threads : ℕ) (b : ℕ) → ShowsDone s.modules state.top (state_of s) (all_enabled threads []) b → ShowsDone r.modules state.top (state_of r) (all_enabled threads []) b
  shown_back threads b shows =
      shows_moved r.modules state.top (state_of r) (state_of s) state.same (all_enabled threads []) b
      (subst (λ (ms : List Module). ShowsDone ms state.top (state_of s) (all_enabled threads []) b) net.modules shows)

pub moving_on : (r s : Running) → IsSameNet r s → IsSameState r s → (i : ℕ) → Moving (threads_of r.modules) i r → Moving (threads_of s.modules) i s
moving_on r s net state i m =
    moving_back s r (net_sym r s net)
    (record {
      top = state.top;
      is_top = ap top_of net.modules ∙ state.is_top;
      same = subst (λ (ms : List Module). IsSameIn ms state.top [] (state_of s) (state_of r)) (sym net.modules) (same_sym r.modules state.top (state_of r) (state_of s) state.same);
    })
    i m

-- ---- the first that can move

abbrev pub NoneBefore : Running → ℕ → ℕ → Type 0
NoneBefore r from n = (k : ℕ) → from ≤ k → k < n → Moving (threads_of r.modules) k r → ⊥

pub none_more : (r s : Running) → IsSameNet r s → IsSameState r s → (from n : ℕ) → NoneBefore r from n → (Moving (threads_of s.modules) n s → ⊥) → NoneBefore r from (n + 1)
none_more r s net state from n none here k l m moves =
    ⊎_elim
    (λ (e : k ≡ n). here (moving_on r s net state n (subst (λ j. Moving (threads_of r.modules) j r) e moves)))
    (λ other. none k l (omega (arith, m, other)) moves)
    (cases_eq k n)

pub first_found : (r s : Running) → IsSameNet r s → IsSameState r s → (from end i : ℕ) → from ≤ i → i < end → NoneBefore r from i → Moving (threads_of s.modules) i s → IsFirstFound r from end (Some i)
first_found r s net state from end i l m none moves = (l, m, moving_back r s net state i moves, none)

-- ---- the first from a preferred one on

pub preferred_first : (r : Running) (prefer end i : ℕ) → end ≡ threads_of r.modules → IsFirstFound r prefer end (Some i) → IsPreferred r prefer i
preferred_first r prefer end i e f = record {
  within = subst (λ (n : ℕ). i < n) e f.1;
  moves = f.2;
  none = λ k l comes m. ⊎_elim (λ a. f.3 k a.0 a.1 m) (λ b. let low = b.0 in let high = f.0 in absurd (omega (arith, low, high))) comes;
}

module _ (r s : Running) (net : IsSameNet r s) (state : IsSameState r s) (prefer end : ℕ) (e : end ≡ threads_of r.modules) (none : NoneBefore r prefer end) where
  pub preferred_wrapped : (i : ℕ) → prefer ≤ threads_of r.modules → IsFirstFound s 0 prefer (Some i) → IsPreferred r prefer i
  preferred_wrapped i within f = record {
    within = (let low = f.1 in omega (arith, low, within));
    moves = moving_back r s net state i f.2;
    none = λ k l comes m.
        ⊎_elim
        (λ a. let low = f.1 in let p = a.0 in let q = a.1 in absurd (omega (arith, low, p, q)))
        (λ b. ⊎_elim (λ p. none k p (omega (arith, l, e)) m) (λ q. f.3 k (omega arith) q (moving_on r s net state k m)) b.1)
        comes;
  }

  pub mover_wrapped : (o : Option ℕ) → prefer ≤ threads_of r.modules → IsFirstFound s 0 prefer o → IsMover r prefer o
  mover_wrapped None within f = λ k l m. ⊎_elim (λ low. f k (omega arith) low (moving_on r s net state k m)) (λ high. none k high (omega (arith, l, e)) m) (cases_lt k prefer)
  mover_wrapped (Some i) within f = preferred_wrapped i within f

-- ---- the verdict

module _ (r s : Running) (st : Stands r) (net : IsSameNet r s) (state : IsSameState r s) (threaded : IsThreadedIn r.modules (threads_of r.modules)) (e n : ℕ) where
  abbrev count : ℕ
  count = threads_of r.modules

  abbrev Verdicts : Option Verdict → Type 0
  Verdicts v = OfTop r (λ ms top k. Judged ms top k (state_of r) e n v)

  there : top_of s.modules ≡ Some state.top
  there = ap top_of net.modules ∙ state.is_top

  abbrev Told : Bool → Type 0
  Told b = TellsDone (all_enabled (threads_of s.modules) []) s b

  all_same : all_enabled (threads_of s.modules) [] ≡ all_enabled count []
  all_same = ap (λ n. all_enabled n []) (ap threads_of net.modules)

  pub judged_done : Told true → Verdicts (Some verdicts.Done)
  judged_done d = record {
    top = state.top;
    is_top = state.is_top;
    holds = subst (λ (c : Choice). ShowsDone r.modules state.top (state_of r) c 1) all_same (shown_back r s net state (threads_of s.modules) 1 (is_shown s state.top there (threads_of s.modules) d));
  }

  going : Told false → ShowsDone r.modules state.top (state_of r) (all_enabled count []) 0
  going d = subst (λ (c : Choice). ShowsDone r.modules state.top (state_of r) c 0) all_same (shown_back r s net state (threads_of s.modules) 0 (not_shown s state.top there (threads_of s.modules) d))

  pub judged_stuck : Told false → NoneBefore r 0 count → Verdicts (Some verdicts.Stuck)
  judged_stuck d none = record {
    top = state.top;
    is_top = state.is_top;
    holds = (
      going d,
      stuck_none r.modules state.top count (threaded state.top state.is_top) (state_of r) (is_state r st state.top state.is_top)
          (λ k l m. none k (omega arith) l (moving r state.top state.is_top count k m)),
    );
  }

  -- a thread can move
  module _ (i : ℕ) (d : Told false) (l : i < count) (m : Moving count i r) where
    pub judged_entries : e ≡ n → Verdicts (Some verdicts.Entries)
    judged_entries same = record {
      top = state.top;
      is_top = state.is_top;
      holds = (going d, cannot_stuck r.modules state.top count (threaded state.top state.is_top) i l (state_of r) (can_move r state.top state.is_top count i m), same);
    }

    pub judged_none : (e ≡ n → ⊥) → Verdicts None
    judged_none other = record {
      top = state.top;
      is_top = state.is_top;
      holds = record { running = going d; thread = i; within = l; moves = can_move r state.top state.is_top count i m; room = other };
    }

-- ---- in a state that is the same

module _ (modules : List Module) (top : Module) (n : ℕ) (h g : Valuation) (same : IsSame modules top n h g) where
  stuck_from : IsStuck modules top n g → IsStuck modules top n h
  stuck_from stuck i k out l cycle =
      same_trans modules top h g k same (stuck i k out l (cycle_moved modules top g h (same_sym modules top h g same) (alone i) k out cycle))

  stuck_to : IsStuck modules top n h → IsStuck modules top n g
  stuck_to stuck i k out l cycle =
      same_trans modules top g h k (same_sym modules top h g same) (stuck i k out l (cycle_moved modules top h g same (alone i) k out cycle))

  shows_from : (b : ℕ) → ShowsDone modules top g (all_enabled n []) b → ShowsDone modules top h (all_enabled n []) b
  shows_from b = shows_moved modules top h g same (all_enabled n []) b

  pub ends_from : (e most : ℕ) (v : Verdict) → Ends modules top n g e most v → Ends modules top n h e most v
  ends_from e most verdicts.Done x = shows_from 1 x
  ends_from e most verdicts.Stuck x = (shows_from 0 x.0, stuck_from x.1)
  ends_from e most verdicts.Entries x = (shows_from 0 x.0, λ stuck. x.1 (stuck_to stuck), x.2)

  pub goes_from : (e most : ℕ) → GoesOn modules top n g e most → GoesOn modules top n h e most
  goes_from e most x = record { running = shows_from 0 x.running; thread = x.thread; within = x.within; moves = can_move_from modules top n x.thread h g same x.moves; room = x.room }

-- ---- it holds of a net

module _ (P : List Module → Module → ℕ → Type 0) where
  pub of_top : (r : Running) → OfTop r P → (top : Module) → top_of r.modules ≡ Some top → P r.modules top (threads_of r.modules)
  of_top r o top e = subst (λ (x : Module). P r.modules x (threads_of r.modules)) (same_Some o.top top (sym o.is_top ∙ e)) o.holds

  pub of_net : (r s : Running) → IsSameNet r s → OfTop s P → OfTop r P
  of_net r s net o = record {
    top = o.top;
    is_top = ap top_of (sym net.modules) ∙ o.is_top;
    holds = subst (λ (ms : List Module). P ms o.top (threads_of ms)) net.modules o.holds;
  }
