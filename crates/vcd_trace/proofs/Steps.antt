-- A run is traced cycle by cycle.
use Rattle.std.proofs.Common.{◌≡◌, refl, sym, ap, ◌∙◌, subst, ℕ, suc, ◌+◌, ◌<◌, ◌≤◌, ◌^◌, ◌⊎◌, ⊎_elim, Bool, false, List, [], ◌++◌, map, length, append_assoc, arith}
use Rattle.std.specs.Prelude.{slice_index}
use Rattle.std.proofs.lemmas.Option.{same_Some}
use Rattle.std.proofs.lemmas.List.{length-map}
use Rattle.netlist.specs.declared.netlist.Module.{Module}
use Rattle.verilog_meaning.specs.Cycles.{Valuation, IsSameIn, Runs, Reaches, initial_state}
use Rattle.verilog_meaning.specs.Threads.{all_enabled}
use Rattle.sim_layout.specs.Running.{Running, Stands, state_of, IsSameNet, IsSameState, IsCycleOf, TellsDone}
use Rattle.sim_layout.specs.Rounds.{threads_of, round, rounds}
use Rattle.cycle_sim.specs.Lockstep.{IsTurned}
use Rattle.cycle_sim.proofs.Same.{runs_from_same}
use Rattle.cycle_sim.proofs.LockstepTurns.{takes_rounds, turned_none, IsTold, told, turned_on}
use Rattle.cycle_sim.specs.Round.{IsBegun, turns}
use Rattle.vcd_text.specs.Dump.{AreValues, first_frame, frame}
use Rattle.vcd_text.specs.Recover.{frames, recover}
use Rattle.vcd_text.proofs.Recovered.{recovers}
use Rattle.net_registers.specs.declared.listing.Listing.{Listing}
use Rattle.net_registers.specs.Marks.{Register, registers_of}
use Rattle.net_registers.specs.Heads.{IsListing, width_of, place_of, head_lines}
use Rattle.net_registers.proofs.Listed.{numbers_are, narrow_of}
use Rattle.vcd_trace.specs.Trace.{AreNumbers, IsTraced}
use Rattle.vcd_trace.specs.Tracing.{AreFrom, IsTracing}
use Rattle.vcd_trace.proofs.Frames.{more, more_old, more_new, frames_more}

-- the first frame
pub tracing_none : (r : Running) (l : Listing) (text numbers : List ℕ) → Stands r → IsListing r l → numbers ≡ map (slice_index r.numbers) l.places → AreValues l.widths numbers →
    text ≡ l.head ++ first_frame l.widths numbers → IsTracing r r l 0 text numbers
tracing_none r l text numbers is listing are fit text_is =
    let turned = turned_none r [] (takes_rounds r is) in
    record {
      listing = listing;
      out = [];
      turned = turned;
      values = λ k. numbers;
      each = λ k le. record {
        state = state_of r;
        out = turned.bytes;
        ran = subst (λ (n : ℕ). Runs r.modules turned.top (state_of r) (rounds (threads_of r.modules) r.prefs n) (state_of r) turned.bytes) (let e : 0 ≡ k = omega
            (arith, le) in e) turned.rounds.turned;
        are = are ∙ ap (map (slice_index r.numbers)) listing.places ∙ numbers_are r (registers_of listing.marks);
      };
      fit = λ k le. fit;
      text_is = text_is;
      last = refl;
    }

module _ (first now : Running) (l : Listing) (n : ℕ) (text numbers : List ℕ) (is : IsTracing first now l n text numbers) where
  -- done was told: the state is the same
  pub tracing_told : (asked : Running) (shown : Bool) → IsSameNet now asked → TellsDone (all_enabled (threads_of now.modules) []) now shown → IsSameState now asked →
      IsTold first asked n [] is.out shown
  tracing_told asked shown net tells same =
      told first now asked n [] is.out (all_enabled (threads_of now.modules) []) shown shown
      (ap (λ (ms : List Module). all_enabled (threads_of ms) []) is.turned.net.modules) refl is.turned net tells same

-- a cycle more
module _ (first now asked next : Running) (l : Listing) (n : ℕ) (text more_text numbers more_numbers : List ℕ) (is : IsTracing first now l n text numbers) where
  cycle_from : (told_it : IsTold first asked n [] is.out false) (out : List ℕ) → IsSameNet asked next →
      IsCycleOf (round (threads_of asked.modules) asked.prefs n) asked next [] out → IsTurned first next (n + 1) [] (is.out ++ out)
  cycle_from told_it out net cycle =
      let c = round (threads_of asked.modules) asked.prefs n in
      let same : c ≡ round (threads_of first.modules) first.prefs n =
      (λ i. round (threads_of (told_it.turned.net.modules i)) (told_it.turned.net.prefs i) n) in
      let shifted : IsCycleOf c asked next is.out (is.out ++ out) =
      record { top = cycle.top; is_top = cycle.is_top; bytes = cycle.bytes; appended = ap (λ (z : List ℕ). is.out ++ z) cycle.appended; cycle = cycle.cycle } in
      turned_on first asked next n [] is.out (is.out ++ out) c same told_it net shifted

  pub tracing_more : (told_it : IsTold first asked n [] is.out false) (out : List ℕ) → IsSameNet asked next → IsCycleOf (round (threads_of asked.modules) asked.prefs n) asked next [] out →
      more_numbers ≡ map (slice_index next.numbers) l.places → AreValues l.widths more_numbers → more_text ≡ text ++ frame (n + 1) l.widths numbers more_numbers
      → IsTracing first next l (n + 1) more_text more_numbers
  tracing_more told_it out net cycle are fit text_is =
      let turned = cycle_from told_it out net cycle in
      let gs = registers_of is.listing.marks in
      let same_top : is.turned.top ≡ turned.top = same_Some is.turned.top turned.top (sym is.turned.is_top ∙ turned.is_top) in
      let places : l.places ≡ map (place_of next.parts) gs = is.listing.places ∙ ap (λ parts. map (place_of parts) gs) (sym turned.net.parts) in
      let here : AreFrom first turned.top gs (n + 1) more_numbers =
      record { state = state_of next; out = turned.bytes; ran = turned.rounds.turned; are = are ∙ ap (map (slice_index next.numbers)) places ∙ numbers_are next gs } in
      record {
        listing = is.listing;
        out = is.out ++ out;
        turned = turned;
        values = more is.values n more_numbers;
        each = λ k le. ⊎_elim
            (λ (old : k ≤ n). subst (AreFrom first turned.top gs k) (sym (more_old is.values n more_numbers k old)) (subst (λ (t : Module). AreFrom first t gs k
            (is.values k)) same_top (is.each k old)))
            (λ (new : suc n ≡ k). subst (λ (j : ℕ). AreFrom first turned.top gs j (more is.values n more_numbers j)) new
            (subst (AreFrom first turned.top gs (suc n)) (sym (more_new is.values n more_numbers)) (subst (λ (j : ℕ). AreFrom first turned.top gs j more_numbers)
            (let e : n + 1 ≡ suc n = omega arith in e) here)))
            (let d : (k ≤ n) ⊎ (suc n ≡ k) = grind (arith, le) in d);
        fit = λ k le. ⊎_elim
            (λ (old : k ≤ n). subst (AreValues l.widths) (sym (more_old is.values n more_numbers k old)) (is.fit k old))
            (λ (new : suc n ≡ k). subst (λ (j : ℕ). AreValues l.widths (more is.values n more_numbers j)) new (subst (AreValues l.widths) (sym (more_new is.values n more_numbers)) fit))
            (let d : (k ≤ n) ⊎ (suc n ≡ k) = grind (arith, le) in d);
        text_is =
            text_is ∙ ap (λ (t : List ℕ). t ++ frame (n + 1) l.widths numbers more_numbers) is.text_is
            ∙ append_assoc l.head (frames l.widths is.values n) (frame (n + 1) l.widths numbers more_numbers)
            ∙ ap (λ (v : List ℕ). l.head ++ (frames l.widths is.values n ++ frame (n + 1) l.widths v more_numbers)) is.last
            ∙ ap (λ (t : List ℕ). l.head ++ t) (frames_more l.widths is.values n more_numbers);
        last = sym (ap (more is.values n more_numbers) (let e : n + 1 ≡ suc n = omega arith in e) ∙ more_new is.values n more_numbers);
      }

-- ---- the end

module _ (first now asked : Running) (l : Listing) (most n : ℕ) (text numbers : List ℕ) (begun : IsBegun first) (stands : Stands first)
    (is : IsTracing first now l n text numbers) (within : n ≤ most)
    (small : most < 2 ^ 32) (few : length l.widths < 2 ^ 64) (shown : Bool) (told_it : IsTold first asked n [] is.out shown) where
  abbrev top : Module
  top = told_it.turned.top

  abbrev gs : List Register
  gs = registers_of is.listing.marks

  begins : IsSameIn first.modules top [] (initial_state first.modules top) (state_of first)
  begins = subst (λ z. IsSameIn first.modules z [] (initial_state first.modules z) (state_of first)) (same_Some begun.top top (sym begun.is_top ∙ told_it.turned.is_top)) begun.begins

  from_start : (k : ℕ) (to : Valuation) (bytes : List ℕ) → Runs first.modules top (state_of first) (rounds (threads_of first.modules) first.prefs k) to bytes →
      Reaches first.modules top (turns first.modules (threads_of first.modules) k) to bytes
  from_start k to bytes runs =
      subst (λ p. Reaches first.modules top (rounds (threads_of first.modules) p k) to bytes) begun.count
      (runs_from_same first.modules top (rounds (threads_of first.modules) first.prefs k) (initial_state first.modules top) (state_of first) to bytes begins runs)

  each : (k : ℕ) → k ≤ n → AreNumbers first.modules top (threads_of first.modules) gs k (is.values k)
  each k le =
      let same_top : is.turned.top ≡ top = same_Some is.turned.top top (sym is.turned.is_top ∙ told_it.turned.is_top) in
      let f = is.each k le in
      record {
        state = f.state;
        out = f.out;
        reached = from_start k f.state f.out (subst (λ (t : Module). Runs first.modules t (state_of first) (rounds (threads_of first.modules) first.prefs k) f.state f.out) same_top f.ran);
        are = f.are;
      }

  pub traced : (shown ≡ false → n ≡ most) →
      IsTraced first.modules (threads_of first.modules) most n shown text
  traced all = record {
    top = top;
    is_top = told_it.turned.is_top;
    marks = is.listing.marks;
    are = is.listing.are;
    within = within;
    going = λ k lt. let g = told_it.turned.rounds.going k lt in record { state = g.state; out = g.out; turned = from_start k g.state g.out g.turned; going = g.going };
    values = is.values;
    each = each;
    text_is = is.text_is ∙ (λ i. is.listing.head i ++ frames (is.listing.widths i) is.values n);
    last = state_of asked;
    out = told_it.turned.bytes;
    ends = from_start n (state_of asked) told_it.turned.bytes told_it.turned.rounds.turned;
    tells = told_it.tells;
    all = all;
    recovers = λ k r le lt.
        let long : length l.widths ≡ length gs = ap length is.listing.widths ∙ length-map gs width_of in
        ap (λ (t : List ℕ). recover t k r) (is.text_is ∙ ap (λ (h : List ℕ). h ++ frames l.widths is.values n) is.listing.head)
        ∙ recovers (head_lines is.listing.marks) l.widths is.values n k r is.listing.lines is.fit (narrow_of first l stands is.listing) few (omega (arith, within, small)) le
        (omega (arith, lt, long));
  }
