-- Runs of top_rr are runs of top in it, under the choices of the rounds.
use Rattle.std.proofs.Common.{◌≡◌, ℕ, zero, suc, ◌+◌, ◌%◌, ◌≤◌, List, [], ◌∷◌, ◌++◌, length, refl, sym, ap, ◌∙◌, subst, arith, add-zero, zero-add}
use Rattle.netlist.specs.declared.netlist.Source.TheVariants as source
use Rattle.netlist.specs.declared.netlist.Module.{Module}
use Rattle.netlist.specs.declared.netlist.Netlist.{Netlist}
use Rattle.std.specs.Prelude.{slice_get, codes}
use Rattle.std.proofs.Math.Nat.{mod-add-mod}
use Rattle.verilog_meaning.specs.Readings.{initial_reading, initial_signal}
use Rattle.verilog_meaning.specs.Cycles.{Path, Valuation, Choice, IsSameIn, IsSettled, Cycle, Runs, Reaches, ShowsDone, next_state, initial_state}
use Rattle.sim_layout.specs.Rounds.{round, rounds}
use Rattle.cycle_sim.proofs.Same.{same_trans, runs_from_same}
use Rattle.top_parts.specs.declared.layout.Layout.{Layout}
use Rattle.top_wiring.specs.Round.{inner}
use Rattle.top_wiring.specs.Top.{output, done_place}
use Rattle.top_wiring.specs.Wired.{IsWired}
use Rattle.law_net.specs.Alike.{held}
use Rattle.law_net.proofs.Paths.{module_inside}
use Rattle.law_net.proofs.Insides.{register_at, same_each, same_inside, settled_inside, next_inside, wrote_inside}
use Rattle.law_net.proofs.Wrapped.{last, laid_at, own_at, wrapped, done_stands, own_done, clock_is, preferred_is, next_is, mask_is, done_is, counts, silent, is_fed}

-- ---- the choices from a cycle on

module _ (threads prefs : ℕ) where
  abbrev pub rounds_from : ℕ → ℕ → List Choice
  rounds_from k zero = []
  rounds_from k (suc n) = round threads prefs k ∷ rounds_from (k + 1) n

  abbrev with_turn : List Choice → ℕ → List Choice
  with_turn choices k = choices ++ round threads prefs k ∷ []

  one_more : (k n : ℕ) → rounds_from k (suc n) ≡ with_turn (rounds_from k n) (k + n)
  one_more k zero = ap (λ (z : ℕ). round threads prefs z ∷ []) (sym (add-zero k))
  one_more k (suc n) =
      let e : k + 1 + n ≡ k + suc n = omega arith in
      ap (λ (l : List Choice). round threads prefs k ∷ l) (one_more (k + 1) n ∙ ap (with_turn (rounds_from (k + 1) n)) e)

  pub from_first : (n : ℕ) → rounds_from 0 n ≡ rounds threads prefs n
  from_first zero = refl
  from_first (suc n) = one_more 0 n ∙ ap (with_turn (rounds_from 0 n)) (zero-add n) ∙ ap (λ (l : List Choice). with_turn l n) (from_first n)

-- the counter of top_rr in a state
abbrev pub Counts : Valuation → ℕ → Type 0
Counts h k = (h []).signal 1 ≡ k % 16

module _ (layout : Layout) (modules : List Module) (n : Netlist) (w : IsWired modules layout n) (prefs : ℕ) (enough : length layout.cores ≤ prefs) where
  abbrev turn : ℕ → Choice
  turn = round (length layout.threads) prefs

  abbrev turns : ℕ → ℕ → List Choice
  turns = rounds_from (length layout.threads) prefs

  -- ---- settled valuations

  pub settles_in : (h v : Valuation) (c : Choice) (k : ℕ) → Counts h k → IsSettled n.modules w.round h c v → IsSettled n.modules w.top (held h) (turn k) (held v)
  settles_in h v c k at settled =
      let is = wrapped layout modules n w in
      let clock = clock_is layout modules n w h v c settled in
      let preferred = preferred_is layout modules n w h v c settled ∙ at in
      let mask = mask_is layout modules n w h v c settled in
      settled_inside n.modules w.round w.top is h v c (turn k) (is_fed layout modules n w prefs enough v k clock preferred mask) settled

  pub shows_in : (h : Valuation) (c : Choice) (b k : ℕ) → Counts h k → ShowsDone n.modules w.round h c b → ShowsDone n.modules w.top (held h) (turn k) b
  shows_in h c b k at shows =
      let v = shows.through in
      let place : shows.place ≡ 8 = own_done layout modules n w shows.place shows.signal (laid_at layout modules n w shows.place shows.signal shows.is.listed) shows.is.named in
      record {
        place = last layout modules n w;
        signal = output (done_place modules layout);
        is = record { listed = done_stands layout modules n w; named = refl };
        out = refl;
        bit = refl;
        through = held v;
        settled = settles_in h v c k at shows.settled;
        number = sym (done_is layout modules n w h v c shows.settled) ∙ ap (v []).signal (sym place) ∙ shows.number;
      }

  -- ---- a cycle

  module _ (h g : Valuation) (c : Choice) (out : List ℕ) (k : ℕ) (at : Counts h k) (cycle : Cycle n.modules w.round h c g out) where
    abbrev v : Valuation
    v = cycle.through

    next_in : IsSameIn n.modules w.top [] (next_state n.modules w.top (held v)) (held g)
    next_in =
        let is = wrapped layout modules n w in
        same_trans n.modules w.top (next_state n.modules w.top (held v)) (held (next_state n.modules w.round v)) (held g)
        (same_each n.modules w.top (next_state n.modules w.top (held v)) (held (next_state n.modules w.round v)) (λ path. sym (next_inside n.modules w.round w.top is v path)))
        (same_inside n.modules w.round w.top is (next_state n.modules w.round v) g cycle.next)

    pub cycle_in : Cycle n.modules w.top (held h) (turn k) (held g) out
    cycle_in = record {
      through = held v;
      settled = settles_in h v c k at cycle.settled;
      next = next_in;
      written = wrote_inside n.modules w.round w.top (wrapped layout modules n w) v (silent layout modules n w v) out cycle.written;
    }

    pub counts_on : Counts g (k + 1)
    counts_on =
        let counter = inner (codes "counter") 1 4 (source.Register 0) in
        let kept = register_at n.modules w.round (next_state n.modules w.round v) g cycle.next [] w.round 1 counter (own_at layout modules n w 1 counter refl) tt in
        sym kept ∙ counts layout modules n w v ∙ next_is layout modules n w h v c cycle.settled ∙ ap (λ (z : ℕ). (z + 1) % 16) at ∙ mod-add-mod k 16 1

  -- ---- runs

  pub runs_in : (choices : List Choice) (h g : Valuation) (out : List ℕ) (k : ℕ) → Counts h k → Runs n.modules w.round h choices g out
      → Runs n.modules w.top (held h) (turns k (length choices)) (held g) out × Counts g (k + length choices)
  runs_in [] h g out k at runs =
      let counter = inner (codes "counter") 1 4 (source.Register 0) in
      let kept = register_at n.modules w.round h g runs.0 [] w.round 1 counter (own_at layout modules n w 1 counter refl) tt in
      ((same_inside n.modules w.round w.top (wrapped layout modules n w) h g runs.0, runs.1), sym kept ∙ at ∙ ap (λ (z : ℕ). z % 16) (sym (add-zero k)))
  runs_in (c ∷ choices) h g out k at runs =
      let step = cycle_in h runs.0 c runs.1 k at runs.3 in
      let more = runs_in choices runs.0 g runs.2 (k + 1) (counts_on h runs.0 c runs.1 k at runs.3) runs.4 in
      let e : k + 1 + length choices ≡ k + suc (length choices) = omega arith in
      ((held runs.0, runs.1, runs.2, step, more.0, runs.5), more.1 ∙ ap (λ (z : ℕ). z % 16) e)

  -- ---- from the initial state

  pub starts : Counts (initial_state n.modules w.round) 0
  starts = ap (λ l. initial_signal (slice_get l 1)) w.is_round.signals

  pub starts_in : (path : Path) → initial_state n.modules w.top path ≡ held (initial_state n.modules w.round) path
  starts_in path = ap initial_reading (sym (module_inside n.modules w.round w.top (wrapped layout modules n w) path))

  pub counts_after : (choices : List Choice) (h : Valuation) (out : List ℕ) → Reaches n.modules w.round choices h out → Counts h (length choices)
  counts_after choices h out runs =
      (runs_in choices (initial_state n.modules w.round) h out 0 starts runs).1 ∙ ap (λ (z : ℕ). z % 16) (zero-add (length choices))

  pub reaches_in : (choices : List Choice) (h : Valuation) (out : List ℕ) → Reaches n.modules w.round choices h out
      → Reaches n.modules w.top (rounds (length layout.threads) prefs (length choices)) (held h) out
  reaches_in choices h out runs =
      let first = initial_state n.modules w.round in
      let inward = (runs_in choices first h out 0 starts runs).0 in
      let same = same_each n.modules w.top (initial_state n.modules w.top) (held first) starts_in in
      subst (λ (l : List Choice). Reaches n.modules w.top l (held h) out) (from_first (length layout.threads) prefs (length choices))
      (runs_from_same n.modules w.top (turns 0 (length choices)) (initial_state n.modules w.top) (held first) (held h) out same inward)
