-- An entry is made: closed cycles that were done on a copy, and perhaps an open one.
use Rattle.std.specs.Prelude.{◌≡◌, ◌≢◌, ℕ, suc, ◌+◌, ◌<◌, ◌≤◌, ◌⊎◌, true, false, List, [], Some, refl}
use Rattle.std.proofs.Common.{ap, sym, ◌∙◌, subst, inl, inr, ⊎_elim, arith}
use Rattle.std.proofs.lemmas.Bool.{cases_eq}
use Rattle.netlist.specs.declared.netlist.Module.{Module}
use Rattle.verilog_meaning.specs.Names.{top_of}
use Rattle.verilog_meaning.specs.Cycles.{Valuation, Choice, IsState, Cycle, Runs, ShowsDone}
use Rattle.verilog_meaning.specs.Threads.{slot, alone, all_enabled, IsSame, IsSameSlot, Needs, IsThreaded, Moves, times}
use Rattle.sim_layout.specs.Rounds.{threads_of}
use Rattle.sim_layout.specs.Running.{Running, Stands, state_of, settled_run, advanced}
use Rattle.slot_sim.proofs.Same.{same_refl, same_sym, cycle_moved, shows_moved, runs_to_same, runs_on}
use Rattle.slot_sim.specs.Threaded.{IsSameBut, Advances}
use Rattle.slot_sim.specs.Laws.{Goes}
use Rattle.slot_sim.proofs.ClosedRuns.{closed_goes, is_state, goes_on, shown}
use Rattle.slot_sim.proofs.Sames.{but_trans, taken_is_same}
use Rattle.journal_laws.specs.Journal.{made, CanMove}
use Rattle.journal_laws.specs.Steps.{Enters}
use Rattle.journal_laws.proofs.LoneCycles.{but_sym, times_more, slot_within, slot_sym, slot_trans, moves_to, first_stays}
use Rattle.journal_laws.proofs.Judgements.{need_bit, shown_bit, state_to}

module _ (r : Running) (st : Stands r) (top : Module) (e : top_of r.modules ≡ Some top) (threads i closed : ℕ) (t : IsThreaded r.modules top threads) (many : threads_of r.modules ≡ threads)
    (below : i < threads) (few : closed ≤ 4096) (shows : ShowsDone r.modules top (state_of r) (all_enabled threads []) 0)
    (l g : Valuation) (state : IsState r.modules top l) (same : IsSameSlot r.modules top threads i (state_of r) l) (a : Advances r.modules top threads i closed l g)
    (p : Valuation) (kept : IsSameBut r.modules top (slot r.modules top threads i) (state_of r) p) (taken : IsSameSlot r.modules top threads i g p) where
  abbrev ms : List Module
  ms = r.modules

  abbrev h : Valuation
  h = state_of r

  abbrev all : Choice
  all = all_enabled threads []

  goes : Goes threads i closed r top g
  goes = closed_goes r st threads i closed top e t many below l g state same shows a

  -- with the slot put in, the state is that after the closed cycles
  arrived : IsSame ms top threads (state_of goes.to) p
  arrived =
      taken_is_same ms top threads i (state_of goes.to) p
      (but_trans ms top (slot ms top threads i) (state_of goes.to) h p (but_sym ms top (slot ms top threads i) h (state_of goes.to) goes.kept) kept)
      (slot_trans ms top threads i (state_of goes.to) g p goes.same taken)

  pub closed_moves : Moves ms top threads 0 i closed h p
  closed_moves = moves_to ms top threads i 0 closed h (state_of goes.to) p goes.moves arrived

  pub closed_runs : Runs ms top h (times ms top threads closed (alone i)) p []
  closed_runs = runs_to_same ms top (times ms top threads closed (alone i)) h (state_of goes.to) p [] goes.runs arrived

  net_top : top_of goes.to.modules ≡ Some top
  net_top = ap top_of goes.net.modules ∙ e

  back : IsSame ms top threads p (state_of goes.to)
  back = same_sym ms top (state_of goes.to) p arrived

  -- thread i has a next cycle there, and done shows a number
  pub put_cycle : (k : Valuation) × (out : List ℕ) × Cycle ms top p (alone i) k out
  put_cycle =
      let there : i < threads_of goes.to.modules = (let m = many in let n = ap threads_of goes.net.modules in let b = below in omega (arith, m, n, b)) in
      let c = goes_on goes.to goes.stands top net_top i there in
      let k : Valuation = state_of (advanced (settled_run (alone i) goes.to)) in
      (k, c.0, cycle_moved ms top p (state_of goes.to) back (alone i) k c.0 (subst (λ (x : List Module). Cycle x top (state_of goes.to) (alone i) k c.0) goes.net.modules c.1))

  put_shown : (b : ℕ) × ShowsDone ms top p all b
  put_shown =
      let s = shown goes.to goes.stands top net_top in
      let n : threads_of goes.to.modules ≡ threads = ap threads_of goes.net.modules ∙ many in
      let there : ShowsDone goes.to.modules top (state_of goes.to) all s.0 = subst (λ (n : ℕ). ShowsDone goes.to.modules top (state_of goes.to) (all_enabled n []) s.0) n s.1 in
      (s.0, shows_moved ms top p (state_of goes.to) back all s.0 (subst (λ (x : List Module). ShowsDone x top (state_of goes.to) all s.0) goes.net.modules there))

  pub put_state : IsState ms top p
  put_state =
      state_to ms top threads (state_of goes.to) p
      (subst (λ (x : List Module). IsState x top (state_of goes.to)) goes.net.modules (is_state goes.to goes.stands top net_top)) arrived

  -- done is not shown there where thread i moves
  pub put_running : (k : Valuation) (out : List ℕ) → Cycle ms top p (alone i) k out → (IsSameSlot ms top threads i p k → ⊥) → ShowsDone ms top p all 0
  put_running k out cycle changes =
      let b = put_shown in
      let zero_in : 0 < threads = (let x = below in omega (arith, x)) in
      ⊎_elim
      (λ (first : i ≡ 0).
      ⊎_elim
      (λ (one : b.0 ≡ 1). absurd (changes (slot_within ms top threads i p k (t.done_stays p k all out put_state (subst (λ n. ShowsDone ms top p all n) one b.1)
      (subst (λ j. Cycle ms top p (alone j) k out) first cycle)))))
      (λ other. subst (λ n. ShowsDone ms top p all n) (let s = shown_bit ms top p all b.0 b.1 in omega (arith, s, other)) b.1)
      (cases_eq b.0 1))
      (λ (other : i ≢ 0).
      let stays : IsSameSlot ms top threads 0 h p = first_stays r st top e threads i 0 t below other zero_in closed h p (is_state r st top e) closed_moves in
      subst (λ n. ShowsDone ms top p all n) (sym (t.done_alike h p all all 0 b.0 stays shows b.1)) b.1)
      (cases_eq i 0)

  -- ---- with an open cycle

  pub entered_open : Needs ms top threads p (alone i) i 1 → (k : Valuation) (bytes : List ℕ) → Cycle ms top p (alone i) k bytes → (IsSameSlot ms top threads i p k → ⊥)
      → Enters ms top threads (made i closed true) h k bytes
  entered_open need k bytes cycle changes = record {
    legal = record {
      thread = below;
      most = few;
      some = omega arith;
      between = p;
      closed = closed_moves;
      open_ = (k, bytes, need, put_running k bytes cycle changes, cycle, changes, same_refl ms top k);
    };
    full = record { stops = inr need; opens = λ x out n c d. refl };
    runs = subst (λ (cs : List Choice). Runs ms top h cs k bytes) (times_more ms top threads closed (alone i) ∙ ap (λ n. times ms top threads n (alone i))
        (let e : suc closed ≡ closed + 1 = omega arith in e))
        (runs_on ms top (times ms top threads closed (alone i)) h p k (alone i) [] bytes closed_runs cycle);
  }

  -- ---- without one

  pub entered_closed : 0 < closed → (closed ≡ 4096) ⊎ Needs ms top threads g (alone i) i 1 → (Needs ms top threads p (alone i) i 1 → CanMove ms top threads p i → ⊥) → (k : Valuation)
      → IsSame ms top threads p k → Enters ms top threads (made i closed false) h k []
  entered_closed some whole waits k is = record {
    legal = record { thread = below; most = few; some = omega (arith, some); between = p; closed = closed_moves; open_ = is };
    full = record {
      stops = ⊎_elim
          (λ z. ⊎_elim
          (λ most. inl (z, most))
          (λ one. absurd (let eq : 0 ≡ 1 = t.needs p g (alone i) (alone i) i 0 1 below (slot_sym ms top threads i g p taken) z one in omega (arith, eq)))
          whole)
          (λ one. inr one)
          (need_bit ms top threads t i below p put_cycle.0 put_cycle.1 put_cycle.2);
      opens = λ x out n c d. absurd (waits n (record { next = x; out = out; cycle = c; changes = d }));
    };
    runs = runs_to_same ms top (times ms top threads closed (alone i)) h p k [] closed_runs is;
  }
