-- Closed cycles of a thread go in one state as they go in another with the same slot.
use Rattle.std.specs.Prelude.{◌≡◌, ◌≢◌, ℕ, zero, suc, ◌^◌, ◌<◌, nat_eq, slice_index, List, [], Some, refl}
use Rattle.std.proofs.Common.{sym, ◌∙◌, subst, ⊎_elim, arith}
use Rattle.std.proofs.lemmas.Option.{same_Some}
use Rattle.std.proofs.lemmas.Bool.{cases_eq}
use Rattle.netlist.specs.declared.netlist.Module.{Module}
use Rattle.verilog_meaning.specs.Names.{top_of}
use Rattle.verilog_meaning.specs.Cycles.{Path, Valuation, Choice, IsState, Cycle, ShowsDone}
use Rattle.verilog_meaning.specs.Threads.{slot, alone, all_enabled, IsSameSlot, Needs, IsThreaded}
use Rattle.circuit.specs.Nets.{FitsNet, FitsStatements}
use Rattle.circuit.proofs.States.{keeps_states}
use Rattle.sim_values.specs.Flat.{all_written}
use Rattle.sim_layout.specs.Running.{Running, Stands, flat, state_of, Fits, settled_run, advanced}
use Rattle.sim_layout.specs.Rounds.{threads_of}
use Rattle.cycle_sim.proofs.Cycles.{run_cycle, advanced_stands, done_told}
use Rattle.cycle_sim.proofs.LockstepTurns.{net_refl, takes_rounds, fits_all}
use Rattle.slot_sim.specs.Threaded.{IsSameBut, Advances}
use Rattle.slot_sim.specs.Laws.{Goes, ClosedGoes}
use Rattle.slot_sim.proofs.Bits.{set_here, first_not_set, alone_is_choice}
use Rattle.slot_sim.proofs.Sames.{in_refl, in_trans, within, but_refl, but_trans}
use Rattle.slot_sim.proofs.Trials.{alone_fits}

-- ---- what a simulator's words give, with `top` by its name

module _ (r : Running) (st : Stands r) (top : Module) (e : top_of r.modules ≡ Some top) where
  pub here : (P : Module → Type 0) → P st.top → P top
  here P = subst P (same_Some st.top top (sym st.is_top ∙ e))

  pub is_state : IsState r.modules top (state_of r)
  is_state = here (λ t. IsState r.modules t (state_of r)) st.state

  pub keeps : (h g : Valuation) (c : Choice) (out : List ℕ) → IsState r.modules top h → Cycle r.modules top h c g out → IsState r.modules top g
  keeps =
      (keeps_states r.modules top (here (λ t. FitsNet r.modules t) st.right.fits) (here (λ t. FitsStatements r.modules t) st.right.statements)).1

  pub goes_on : (i : ℕ) → i < threads_of r.modules → (out : List ℕ) × Cycle r.modules top (state_of r) (alone i) (state_of (advanced (settled_run (alone i) r))) out
  goes_on i l =
      let fits = alone_fits r st i l in
      let out = all_written r.modules (flat (settled_run (alone i) r)) r.parts in
      (out, here (λ t. Cycle r.modules t (state_of r) (alone i) (state_of (advanced (settled_run (alone i) r))) out) (run_cycle r st (alone i) fits))

  -- done shows some number, under the choice of all threads
  pub shown : (number : ℕ) × ShowsDone r.modules top (state_of r) (all_enabled (threads_of r.modules) []) number
  shown =
      let all : Choice = all_enabled (threads_of r.modules) [] in
      let fits : Fits r all = fits_all r r (takes_rounds r st) (net_refl r) all refl in
      let told = done_told r st all fits (nat_eq (slice_index (settled_run all r).numbers r.done) 1) refl in
      (told.number, subst (λ t. ShowsDone r.modules t (state_of r) all told.number) (same_Some told.top top (sym told.is_top ∙ e)) told.shows)

module _ (threads i : ℕ) (below : i < threads) where
  module _ (r : Running) (st : Stands r) (top : Module) (e : top_of r.modules ≡ Some top) (t : IsThreaded r.modules top threads) (many : threads_of r.modules ≡ threads) where
    abbrev modules : List Module
    modules = r.modules

    abbrev h : Valuation
    h = state_of r

    abbrev r' : Running
    r' = advanced (settled_run (alone i) r)

    abbrev g : Valuation
    g = state_of r'

    abbrev all : Choice
    all = all_enabled threads []

    abbrev s : Path
    s = slot modules top threads i

    few : i < threads_of modules
    few = omega (arith, many, below)

    fits : Fits r (alone i)
    fits = alone_fits r st i few

    pub next_stands : Stands r'
    next_stands = advanced_stands r st (alone i) fits

    -- the number of need
    needed : (number : ℕ) × Needs modules top threads h (alone i) i number
    needed =
        let one = goes_on r st top e i few in
        let has = t.has i below in (
          (one.1.through s).signal has.need_place,
          record {
            kind = has.kind;
            stands = has.stands;
            place = has.need_place;
            signal = has.need;
            is = has.has_need;
            through = one.1.through;
            settled = one.1.settled;
            number = refl;
          },
        )

    -- the one number of done, of one bit
    bit_shown : (number : ℕ) × (number < 2) × ShowsDone modules top h all number
    bit_shown =
        let some = shown r st top e in
        let shows : ShowsDone modules top h all some.0 = subst (λ n. ShowsDone modules top h (all_enabled n []) some.0) many some.1 in
        let done = t.ports.done in
        let small : (shows.through []).signal done.place < 2 ^ done.signal.width = shows.settled.within [] top done.place done.signal (record { stands = refl; listed = done.is.listed }) in (
          (shows.through []).signal done.place,
          subst (λ w. (shows.through []).signal done.place < 2 ^ w) done.bit small,
          record { place = done.place; signal = done.signal; is = done.is; out = done.out; bit = done.bit; through = shows.through; settled = shows.settled; number = refl },
        )

    module _ (l : Valuation) (state : IsState modules top l) (same : IsSameSlot modules top threads i h l) (m : Valuation) (out : List ℕ) (need : Needs modules top threads l (alone i) i 0)
        (there : Cycle modules top l (alone i) m out) where
      pub needs : Needs modules top threads h (alone i) i 0
      needs = subst (λ n. Needs modules top threads h (alone i) i n) (t.needs h l (alone i) (alone i) i needed.0 0 below same needed.1 need) needed.1

      pub changes : IsSameSlot modules top threads i h g → ⊥
      changes = t.closed_moves h g (alone i) (goes_on r st top e i few).0 i (is_state r st top e) (alone_is_choice threads i below) below (goes_on r st top e i few).1 (set_here i) needs

      alone_closed : ((goes_on r st top e i few).0 ≡ []) × IsSameBut modules top s h g
      alone_closed = t.closed_alone h g (goes_on r st top e i few).0 i (is_state r st top e) below (goes_on r st top e i few).1 needs

      pub cycle : Cycle modules top h (alone i) g []
      cycle = subst (λ z. Cycle modules top h (alone i) g z) alone_closed.0 (goes_on r st top e i few).1

      pub kept : IsSameBut modules top s h g
      kept = alone_closed.1

      pub next_same : IsSameSlot modules top threads i g m
      next_same = t.closed_alike h l g m (alone i) (alone i) [] out i (is_state r st top e) state below cycle there (set_here i) (set_here i) needs same

      -- main's closed cycle is not done
      main_runs : i ≡ 0 → ShowsDone modules top h all 0
      main_runs first =
          let b = bit_shown in
          ⊎_elim
          (λ one. absurd (changes (within modules top s h g (t.done_stays h g all [] (is_state r st top e) (subst (λ n. ShowsDone modules top h all n) one b.2)
          (subst (λ k. Cycle modules top h (alone k) g []) first cycle)))))
          (λ other. subst (λ n. ShowsDone modules top h all n) (let low = b.1 in omega (arith, low, other)) b.2)
          (cases_eq b.0 1)

      pub running : (i ≢ 0 → ShowsDone modules top h all 0) → ShowsDone modules top h all 0
      running other = ⊎_elim main_runs other (cases_eq i 0)

  -- of another thread's closed cycle done hangs on main's slot, which stays
  pub still : (r : Running) (st : Stands r) (top : Module) (e : top_of r.modules ≡ Some top) (t : IsThreaded r.modules top threads) (many : threads_of r.modules ≡ threads)
      → Cycle r.modules top (state_of r) (alone i) (state_of (advanced (settled_run (alone i) r))) [] → (i ≢ 0 → ShowsDone r.modules top (state_of r) (all_enabled threads []) 0)
      → i ≢ 0 → ShowsDone r.modules top (state_of (advanced (settled_run (alone i) r))) (all_enabled threads []) 0
  still r st top e t many cycle runs other =
      let r' = advanced (settled_run (alone i) r) in
      let b = bit_shown r' (next_stands r st top e t many) top e t many in
      let zero_in : 0 < threads = (let k = below in omega (arith, k)) in
      let same = t.stays (state_of r) (state_of r') (alone i) [] 0 (is_state r st top e) (alone_is_choice threads i below) zero_in cycle (first_not_set i other) in
      subst (λ n. ShowsDone r.modules top (state_of r') (all_enabled threads []) n)
      (sym (t.done_alike (state_of r) (state_of r') (all_enabled threads []) (all_enabled threads []) 0 b.0 same (runs other) b.2)) b.2

  goes : (n : ℕ) (r : Running) (st : Stands r) (top : Module) (e : top_of r.modules ≡ Some top) (t : IsThreaded r.modules top threads) (many : threads_of r.modules ≡ threads) (l k : Valuation)
      → IsState r.modules top l → IsSameSlot r.modules top threads i (state_of r) l → (i ≢ 0 → ShowsDone r.modules top (state_of r) (all_enabled threads []) 0)
      → Advances r.modules top threads i n l k → Goes threads i n r top k
  goes zero r st top e t many l k state same runs a = record {
    to = r;
    net = net_refl r;
    stands = st;
    moves = in_refl r.modules top [] (state_of r);
    runs = (in_refl r.modules top [] (state_of r), refl);
    same = in_trans r.modules top (slot r.modules top threads i) (state_of r) l k same a;
    kept = but_refl r.modules top (slot r.modules top threads i) (state_of r);
  }
  goes (suc n) r st top e t many l k state same runs a =
      let m = a.0 in
      let r' = advanced (settled_run (alone i) r) in
      let s = slot r.modules top threads i in
      let c = cycle r st top e t many l state same m a.1 a.2 a.3 in
      let rest = goes n r' (next_stands r st top e t many) top e t many m k (keeps r st top e l m (alone i) a.1 state a.3)
      (next_same r st top e t many l state same m a.1 a.2 a.3) (still r st top e t many c runs) a.4 in
      record {
        to = rest.to;
        net = record { modules = rest.net.modules; parts = rest.net.parts; steps = rest.net.steps; starts = rest.net.starts; prefs = rest.net.prefs; done = rest.net.done };
        stands = rest.stands;
        moves = (
          state_of r',
          [],
          needs r st top e t many l state same m a.1 a.2 a.3,
          running r st top e t many l state same m a.1 a.2 a.3 runs,
          c,
          changes r st top e t many l state same m a.1 a.2 a.3,
          rest.moves,
        );
        runs = (state_of r', [], [], c, rest.runs, refl);
        same = rest.same;
        kept = but_trans r.modules top s (state_of r) (state_of r') (state_of rest.to) (kept r st top e t many l state same m a.1 a.2 a.3) rest.kept;
      }

pub closed_goes : ClosedGoes
closed_goes r st threads i n top e t many below l g state same shows a = goes threads i below n r st top e t many l g state same (λ other. shows) a
