-- The laws of top_rr.
use Rattle.std.proofs.Common.{ℕ, ◌+◌, ◌%◌, ◌^◌, ◌<◌, List, [], ◌∷◌, length, replicate, refl, subst, arith}
use Rattle.std.proofs.lemmas.Nat.{pow_pos}
use Rattle.std.proofs.lemmas.List.Elements.{All-replicate}
use Rattle.netlist.specs.declared.netlist.Module.{Module}
use Rattle.verilog_meaning.specs.Cycles.{Valuation, Choice, IsState, IsSameIn, Runs, ShowsDone, initial_state}
use Rattle.verilog_meaning.specs.Threads.{all_enabled, IsChoice}
use Rattle.verilog_meaning.specs.Follows.{IsDetermined}
use Rattle.sim_layout.specs.Rounds.{round, rounds}
use Rattle.cycle_sim.proofs.Same.{shows_moved}
use Rattle.top_wiring.specs.Leaves.{SettlesOnce}
use Rattle.law_net.specs.Alike.{held, Writes, Ends, AreRunsOf, AreWritesOf, RunsAsTop, WritesAsTop, EndsAsTop}
use Rattle.law_net.proofs.Insides.{register_at, word_at}
use Rattle.law_net.proofs.RoundTurns.{shows_in, counts_after, reaches_in}
use Rattle.law_net.proofs.WrappedRuns.{around, reaches_out, held_around, shows_around}

pub runs_as_top : RunsAsTop
runs_as_top layout modules n w prefs enough = record {
  inwards = reaches_in layout modules n w prefs enough;
  outwards = λ choices g out runs.
      let k = 0 + length choices in
      (around layout modules n w prefs enough k g, reaches_out layout modules n w prefs enough choices g out runs, held_around layout modules n w prefs enough k g);
  shows = λ choices h out runs c b.
      let at = counts_after layout modules n w prefs enough choices h out runs in
      (shows_in layout modules n w prefs enough h c b (length choices) at, shows_around layout modules n w prefs enough h c b (length choices) at);
}

-- ---- what is seen

module _ (modules : List Module) (wrapper top : Module) (threads prefs : ℕ) (are : AreRunsOf modules wrapper top threads prefs) where
  abbrev turns : List Choice → List Choice
  turns choices = rounds threads prefs (length choices)

  abbrev turn : List Choice → Choice
  turn choices = round threads prefs (length choices)

  writes_in : (choices : List Choice) (out : List ℕ) → Writes modules wrapper choices out → Writes modules top (turns choices) out
  writes_in choices out run = (held run.0, are.inwards choices run.0 out run.1)

  writes_out : (choices : List Choice) (out : List ℕ) → Writes modules top (turns choices) out → Writes modules wrapper choices out
  writes_out choices out run = let there = are.outwards choices run.0 out run.1 in (there.0, there.1)

  ends_in : (choices : List Choice) (last : Choice) (out : List ℕ) (b : ℕ) → Ends modules wrapper choices last out b → Ends modules top (turns choices) (turn choices) out b
  ends_in choices last out b run = (held run.0, are.inwards choices run.0 out run.1, (are.shows choices run.0 out run.1 last b).0 run.2)

  ends_out : (choices : List Choice) (last : Choice) (out : List ℕ) (b : ℕ) → Ends modules top (turns choices) (turn choices) out b → Ends modules wrapper choices last out b
  ends_out choices last out b run =
      let there = are.outwards choices run.0 out run.1 in
      let shows = shows_moved modules top (held there.0) run.0 there.2 (turn choices) b run.2 in
      (there.0, there.1, (are.shows choices there.0 out there.1 last b).1 shows)

  pub are_writes : AreWritesOf modules wrapper top threads prefs
  are_writes = record {
    writes = λ choices out. (writes_in choices out, writes_out choices out);
    ends = λ choices last out b. (ends_in choices last out b, ends_out choices last out b);
  }

pub writes_as_top : WritesAsTop
writes_as_top layout modules n w prefs enough =
    are_writes n.modules w.round w.top (length layout.threads) prefs (runs_as_top layout modules n w prefs enough)

-- ---- done under another choice

is_choice : (threads prefs preferred : ℕ) → preferred < 16 → IsChoice threads (all_enabled threads (replicate prefs preferred))
is_choice threads prefs preferred l = ((let p : 0 < 2 ^ threads = pow_pos threads in omega (arith, p)), All-replicate (λ p. p < 64) prefs preferred (omega (arith, l)))

module _ (modules : List Module) (top : Module) (threads : ℕ) (settles : SettlesOnce modules top threads) (determined : IsDetermined modules top threads) where
  state_same : (h g : Valuation) → IsState modules top h → IsSameIn modules top [] h g → IsState modules top g
  state_same h g is same = record {
    registers = λ path m x s at r. subst (λ (z : ℕ). z < 2 ^ s.width) (register_at modules top h g same path m x s at r) (is.registers path m x s at r);
    words = λ path m j k s at l. subst (λ (z : ℕ). z < 2 ^ s.width) (word_at modules top h g same path m j k s at l) (is.words path m j k s at l);
  }

  keep : (choices : List Choice) (h g : Valuation) (out : List ℕ) → IsState modules top h → Runs modules top h choices g out → IsState modules top g
  keep [] h g out is runs = state_same h g is runs.0
  keep (c ∷ choices) h g out is runs = keep choices runs.0 g runs.2 (settles.keeps h runs.0 c runs.1 is runs.3) runs.4

  -- what done shows under one choice, it shows under another
  shows_under : (h : Valuation) (c d : Choice) (b : ℕ) → IsState modules top h → IsChoice threads d → ShowsDone modules top h c b → ShowsDone modules top h d b
  shows_under h c d b is choice shows =
      let v = settles.exists h d is choice in
      let other : ShowsDone modules top h d ((v.0 []).signal shows.place) =
      record { place = shows.place; signal = shows.signal; is = shows.is; out = shows.out; bit = shows.bit; through = v.0; settled = v.1; number = refl } in
      subst (λ (z : ℕ). ShowsDone modules top h d z) (determined.done h d c ((v.0 []).signal shows.place) b other shows) other

  -- the same after a run
  pub ends_under : (choices : List Choice) (c d : Choice) (out : List ℕ) (b : ℕ) → IsChoice threads d → Ends modules top choices c out b → Ends modules top choices d out b
  ends_under choices c d out b choice run =
      (run.0, run.1, shows_under run.0 c d b (keep choices (initial_state modules top) run.0 out settles.starts run.1) choice run.2)

pub ends_as_top : EndsAsTop
ends_as_top layout modules n w prefs enough settles determined choices last out b =
    let T = length layout.threads in
    let turns = rounds T prefs (length choices) in
    let turn = round T prefs (length choices) in
    let are = (writes_as_top layout modules n w prefs enough).ends choices last out b in
    let low : length choices % 16 < 16 = omega arith in
    let to = ends_under n.modules w.top T settles determined turns turn (all_enabled T []) out b (is_choice T 0 0 (omega arith)) in
    let from = ends_under n.modules w.top T settles determined turns (all_enabled T []) turn out b (is_choice T prefs (length choices % 16) low) in
    ((λ run. to (are.0 run)), (λ run. are.1 (from run)))
