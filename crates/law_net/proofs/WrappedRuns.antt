-- Runs of top under the choices of the rounds are runs of top_rr round it.
use Rattle.std.proofs.Common.{◌≡◌, ℕ, zero, suc, ◌+◌, ◌-◌, ◌%◌, ◌^◌, ◌<◌, ◌≤◌, List, [], ◌∷◌, ◌++◌, length, Some, refl, sym, ap, ◌∙◌, subst, arith, add-zero, lit<}
use Rattle.std.proofs.Math.Path.{fun_ext}
use Rattle.std.specs.Prelude.{slice_get, slice_index}
use Rattle.std.proofs.lemmas.Nat.{pow_pos}
use Rattle.std.proofs.lemmas.Option.{same_Some, none-some}
use Rattle.std.proofs.Math.Nat.{mod-add-mod}
use Rattle.hls_ints.specs.Words.{word_sum}
use Rattle.netlist.specs.declared.netlist.Signal.{Signal}
use Rattle.netlist.specs.declared.netlist.Module.{Module}
use Rattle.netlist.specs.declared.netlist.Netlist.{Netlist}
use Rattle.verilog_meaning.specs.Readings.{Reading, width}
use Rattle.verilog_meaning.specs.Cycles.{Path, Valuation, Choice, number, IsSameIn, IsSettled, IsWritten, Cycle, Runs, Reaches, ShowsDone, next_state, initial_state}
use Rattle.sim_layout.specs.Rounds.{round, rounds}
use Rattle.cycle_sim.proofs.Same.{same_trans, shows_moved, runs_from_same}
use Rattle.top_parts.specs.declared.layout.Layout.{Layout}
use Rattle.top_wiring.specs.Round.{round_signals}
use Rattle.top_wiring.specs.Top.{output, done_place}
use Rattle.top_wiring.specs.Wired.{IsWired}
use Rattle.top_wiring.proofs.SignalKinds as signals
use Rattle.law_net.specs.Alike.{held}
use Rattle.law_net.proofs.Paths.{inside}
use Rattle.law_net.proofs.Insides.{same_each, same_outside, SameOwn, IsOwn, settled_outside, next_inside, wrote_outside}
use Rattle.law_net.proofs.Wrapped.{no_pref, last, laid_at, wrapped, done_stands, top_done, own_register, four, behind_zeros, counts, silent, is_fed}
use Rattle.law_net.proofs.RoundTurns.{rounds_from, Counts, from_first, starts, starts_in}

-- ---- a reading round a state: the reading of the outermost module, and in its instances the state

-- a path that begins with i, without its last number, which is that of an instance of the outermost module
abbrev front_of : ℕ → Path → Path
front_of i [] = []
front_of i (j ∷ rest) = i ∷ front_of j rest

front_inside : (i : ℕ) (path : Path) → front_of i (path ++ 0 ∷ []) ≡ i ∷ path
front_inside i [] = refl
front_inside i (j ∷ rest) = ap (λ (z : Path). i ∷ z) (front_inside j rest)

abbrev pub wrap : Reading → Valuation → Valuation
wrap r g [] = r
wrap r g (i ∷ outer) = g (front_of i outer)

pub wrap_inside : (r : Reading) (g : Valuation) (path : Path) → wrap r g (inside path) ≡ g path
wrap_inside r g [] = refl
wrap_inside r g (i ∷ outer) = ap g (front_inside i outer)

held_wrap : (r : Reading) (g : Valuation) → held (wrap r g) ≡ g
held_wrap r g = fun_ext (wrap_inside r g)

module _ (layout : Layout) (modules : List Module) (n : Netlist) (w : IsWired modules layout n) (prefs : ℕ) (enough : length layout.cores ≤ prefs) where
  abbrev T : ℕ
  T = length layout.threads

  abbrev shown : ℕ
  shown = last layout modules n w

  abbrev turn : ℕ → Choice
  turn = round T prefs

  -- the reading of top_rr in cycle k, where done has this number
  abbrev pub reading : ℕ → ℕ → Reading
  reading k b = record { signal = slice_index (0 ∷ k % 16 ∷ 1 ∷ (k + 1) % 16 ∷ (2 ^ T - 1) ∷ b ∷ 0 ∷ k % 16 ∷ b ∷ []); word = λ j i. 0 }

  -- the state of top_rr in cycle k, round a state of top
  abbrev pub around : ℕ → Valuation → Valuation
  around k g = wrap (reading k 0) g

  -- ---- settled valuations

  module _ (k : ℕ) (g v : Valuation) (c : Choice) (settled : IsSettled n.modules w.top g (turn k) v) where
    abbrev number_of_done : ℕ
    number_of_done = (v []).signal shown

    abbrev pub through : Valuation
    through = wrap (reading k number_of_done) v

    abbrev Right : ℕ → Signal → Type 0
    Right x s = ((through []).signal x ≡ number n.modules w.round (around k g) c through [] w.round x s s.source) × ((through []).signal x < 2 ^ s.width)

    below_mask : (m : ℕ) → 0 < m → m - 1 < m
    below_mask m l = omega arith

    bit : number_of_done < 2 ^ 1
    bit = settled.within [] w.top shown (output (done_place modules layout)) (record { stands = refl; listed = done_stands layout modules n w })

    counter_low : (k : ℕ) → k % 16 < 16
    counter_low k = omega arith

    preferred_low : (k : ℕ) → k % 16 < 64
    preferred_low k = omega arith

    right : (x : ℕ) (s : Signal) → slice_get (round_signals T shown) x ≡ Some s → Right x s
    right zero s e = subst (Right 0) (same_Some _ s e) (sym (no_pref c.prefs 0), lit< tt)
    right (suc zero) s e = subst (Right 1) (same_Some _ s e) (refl, counter_low k)
    right (suc (suc zero)) s e = subst (Right 2) (same_Some _ s e) (refl, lit< tt)
    right (suc (suc (suc zero))) s e =
        subst (Right 3) (same_Some _ s e) (sym (mod-add-mod k 16 1) ∙ ap (λ (z : ℕ). word_sum z (k % 16) 1) (sym (four layout modules n w)), counter_low (k + 1))
    right (suc (suc (suc (suc zero)))) s e = subst (Right 4) (same_Some _ s e) (refl, below_mask (2 ^ T) (pow_pos T))
    right (suc (suc (suc (suc (suc zero))))) s e = subst (Right 5) (same_Some _ s e) (refl, bit)
    right (suc (suc (suc (suc (suc (suc zero)))))) s e = subst (Right 6) (same_Some _ s e) (refl, lit< tt)
    right (suc (suc (suc (suc (suc (suc (suc zero))))))) s e =
        subst (Right 7) (same_Some _ s e) (sym (behind_zeros layout modules n w (2 ^ width w.round 6) (2 ^ width w.round 1) (k % 16)), preferred_low k)
    right (suc (suc (suc (suc (suc (suc (suc (suc zero)))))))) s e = subst (Right 8) (same_Some _ s e) (refl, bit)
    right (suc (suc (suc (suc (suc (suc (suc (suc (suc x))))))))) s e = absurd (none-some s e)

    words : (path : Path) (j i : ℕ) → (through path).word j i ≡ (around k g path).word j i
    words [] j i = refl
    words (m ∷ outer) j i = settled.words (front_of m outer) j i

    own : IsOwn n.modules w.round (around k g) c through
    own = record {
      signals = λ x s e. (right x s (laid_at layout modules n w x s e)).0;
      within = λ x s e. (right x s (laid_at layout modules n w x s e)).1;
      words = words;
    }

    pub settles_out : IsSettled n.modules w.round (around k g) c through
    settles_out =
        let r = reading k number_of_done in
        let d = turn k in
        let inner = subst (λ (z : Valuation). IsSettled n.modules w.top z d (held through)) (sym (held_wrap (reading k 0) g))
        (subst (λ (z : Valuation). IsSettled n.modules w.top g d z) (sym (held_wrap r v)) settled) in
        settled_outside n.modules w.round w.top (wrapped layout modules n w) (around k g) through c d (is_fed layout modules n w prefs enough through k refl refl refl) own inner

  pub shows_out : (k : ℕ) (g : Valuation) (c : Choice) (b : ℕ) → ShowsDone n.modules w.top g (turn k) b → ShowsDone n.modules w.round (around k g) c b
  shows_out k g c b shows =
      let v = shows.through in
      let kind = signals.signal_kind modules layout w.top w.is_top shows.place shows.signal shows.is.listed in
      let place : shows.place ≡ shown = top_done layout modules n w shows.place shows.signal shows.is.named kind in
      record {
        place = 8;
        signal = output 5;
        is = record { listed = ap (λ (l : List Signal). slice_get l 8) w.is_round.signals; named = refl };
        out = refl;
        bit = refl;
        through = through k g v c shows.settled;
        settled = settles_out k g v c shows.settled;
        number = ap (v []).signal (sym place) ∙ shows.number;
      }

  -- ---- a cycle

  -- readings of top_rr with the same counter, round states of top
  own_same : (h g : Valuation) → (h []).signal 1 ≡ (g []).signal 1 → SameOwn n.modules w.round w.top (wrapped layout modules n w) h g
  own_same h g same x s e r =
      subst (λ (z : ℕ). (h []).signal z ≡ (g []).signal z) (sym (own_register layout modules n w x s (laid_at layout modules n w x s e) r)) same

  module _ (k : ℕ) (g g' : Valuation) (c : Choice) (out : List ℕ) (cycle : Cycle n.modules w.top g (turn k) g' out) where
    abbrev v : Valuation
    v = cycle.through

    abbrev V : Valuation
    V = through k g v c cycle.settled

    next_there : (path : Path) → held (next_state n.modules w.round V) path ≡ next_state n.modules w.top v path
    next_there path =
        next_inside n.modules w.round w.top (wrapped layout modules n w) V path
        ∙ ap (λ (z : Valuation). next_state n.modules w.top z path) (held_wrap (reading k ((v []).signal shown)) v)

    next_out : IsSameIn n.modules w.round [] (next_state n.modules w.round V) (around (k + 1) g')
    next_out =
        let left = held (next_state n.modules w.round V) in
        let middle = next_state n.modules w.top v in
        let right = held (around (k + 1) g') in
        let first = same_each n.modules w.top left middle next_there in
        let second = same_each n.modules w.top g' right (λ path. sym (wrap_inside (reading (k + 1) 0) g' path)) in
        same_outside n.modules w.round w.top (wrapped layout modules n w) w.is_round.memories (next_state n.modules w.round V) (around (k + 1) g')
        (own_same (next_state n.modules w.round V) (around (k + 1) g') (counts layout modules n w V))
        (same_trans n.modules w.top left middle right first (same_trans n.modules w.top middle g' right cycle.next second))

    pub cycle_out : Cycle n.modules w.round (around k g) c (around (k + 1) g') out
    cycle_out = record {
      through = V;
      settled = settles_out k g v c cycle.settled;
      next = next_out;
      written = wrote_outside n.modules w.round w.top (wrapped layout modules n w) V (silent layout modules n w V) out
          (subst (λ (z : Valuation). IsWritten n.modules w.top z out) (sym (held_wrap (reading k ((v []).signal shown)) v)) cycle.written);
    }

  -- ---- runs

  same_around : (h : Valuation) (g : Valuation) (k : ℕ) → Counts h k → IsSameIn n.modules w.top [] (held h) g → IsSameIn n.modules w.round [] h (around k g)
  same_around h g k at same =
      let back = same_each n.modules w.top g (held (around k g)) (λ path. sym (wrap_inside (reading k 0) g path)) in
      same_outside n.modules w.round w.top (wrapped layout modules n w) w.is_round.memories h (around k g) (own_same h (around k g) at)
      (same_trans n.modules w.top (held h) g (held (around k g)) same back)

  pub runs_out : (choices : List Choice) (g g' : Valuation) (out : List ℕ) (k : ℕ) → Runs n.modules w.top g (rounds_from T prefs k (length choices)) g' out
      → Runs n.modules w.round (around k g) choices (around (k + length choices) g') out
  runs_out [] g g' out k runs =
      let there = same_each n.modules w.top (held (around k g)) g (wrap_inside (reading k 0) g) in
      let same = same_trans n.modules w.top (held (around k g)) g g' there runs.0 in
      (same_around (around k g) g' (k + 0) (ap (λ (z : ℕ). z % 16) (sym (add-zero k))) same, runs.1)
  runs_out (c ∷ choices) g g' out k runs =
      let e : k + 1 + length choices ≡ k + suc (length choices) = omega arith in
      let more = subst (λ (z : ℕ). Runs n.modules w.round (around (k + 1) runs.0) choices (around z g') runs.2) e (runs_out choices runs.0 g' runs.2 (k + 1) runs.4) in
      (around (k + 1) runs.0, runs.1, runs.2, cycle_out k g runs.0 c runs.1 runs.3, more, runs.5)

  -- ---- from the initial state

  pub reaches_out : (choices : List Choice) (g : Valuation) (out : List ℕ) → Reaches n.modules w.top (rounds T prefs (length choices)) g out
      → Reaches n.modules w.round choices (around (0 + length choices) g) out
  reaches_out choices g out runs =
      let first = initial_state n.modules w.round in
      let inner = initial_state n.modules w.top in
      let to = around (0 + length choices) g in
      let by_turns = subst (λ (l : List Choice). Runs n.modules w.top inner l g out) (sym (from_first T prefs (length choices))) runs in
      let same = same_around first inner 0 (starts layout modules n w prefs enough)
      (same_each n.modules w.top (held first) inner (λ path. sym (starts_in layout modules n w prefs enough path))) in
      runs_from_same n.modules w.round choices first (around 0 inner) to out same (runs_out choices inner g out 0 by_turns)

  pub held_around : (k : ℕ) (g : Valuation) → IsSameIn n.modules w.top [] (held (around k g)) g
  held_around k g = same_each n.modules w.top (held (around k g)) g (wrap_inside (reading k 0) g)

  -- what the instance shows is shown by top_rr
  pub shows_around : (h : Valuation) (c : Choice) (b k : ℕ) → Counts h k → ShowsDone n.modules w.top (held h) (turn k) b
      → ShowsDone n.modules w.round h c b
  shows_around h c b k at shows =
      let same = same_around h (held h) k at (same_each n.modules w.top (held h) (held h) (λ path. refl)) in
      shows_moved n.modules w.round h (around k (held h)) same c b (shows_out k (held h) c b shows)
