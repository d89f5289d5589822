-- What a run and a replay answer.
use Rattle.std.proofs.Common.{◌≡◌, ℕ, List, [], ◌∷◌, Some, refl, sym, ◌∙◌, subst}
use Rattle.std.proofs.lemmas.Option.{same_Some}
use Rattle.std.proofs.Math.Nat.{suc-ne-zero}
use Rattle.c_program.specs.Tree.{Program}
use Rattle.c_program.specs.Weight.{thread_count}
use Rattle.thread_semantics.specs.Races.{IsGood}
use Rattle.verilog_tree.specs.declared.tree.Net.{Net}
use Rattle.verilog_tree.specs.Reads.{Reads}
use Rattle.verilog_rules.proofs.OneNet.{reads_one}
use Rattle.netlist.specs.declared.netlist.Module.{Module}
use Rattle.netlist.specs.NetlistOf.{netlist_of}
use Rattle.verilog_meaning.specs.Names.{top_of}
use Rattle.verilog_meaning.specs.Cycles.{Valuation, Reaches, ShowsDone, initial_state}
use Rattle.verilog_meaning.specs.Threads.{Entry, IsThreaded, IsLegal, IsJournal, all_enabled, choices_of}
use Rattle.slot_sim.proofs.Sames.{in_refl}
use Rattle.journal_laws.specs.declared.verdict.Verdict.{Verdict}
use Rattle.journal_laws.specs.declared.verdict.Verdict.TheVariants as verdict
use Rattle.journal_laws.specs.Journal.{Ends, all_entries}
use Rattle.good_verilog.specs.GoodVerilog.{IsGoodVerilog}
use Rattle.journal_follows.specs.Follows.{ShowsInterleaving, HasInterleaving, JournalsFollow, RunsFollow, ReplaysFollow}
use Rattle.journal_follows.proofs.JournalFollowed.{shows_interleaving}

-- ---- the net that the text reads as

abbrev Follows : Program → List Module → Module → Type 0
Follows P modules top =
    (journal : List (Entry modules top (thread_count P))) (g h : Valuation) (out : List ℕ) → IsLegal modules top (thread_count P) (initial_state modules top) journal g
    → Reaches modules top (choices_of modules top (thread_count P) journal) h out → ShowsInterleaving P modules top h out

pub journals_follow : JournalsFollow
journals_follow P text net top is good reads top_is threaded =
    let At : Net → Type 0 = λ n. (t : Module) → top_of (netlist_of n).modules ≡ Some t → IsThreaded (netlist_of n).modules t (thread_count P) → Follows P (netlist_of n).modules t in
    let own : At good.net = λ t there. subst (λ (u : Module). IsThreaded (netlist_of good.net).modules u (thread_count P) → Follows P (netlist_of good.net).modules u)
    (same_Some good.top t (sym good.is_top ∙ there)) (shows_interleaving P text good is) in
    subst At (reads_one text good.net net good.reads reads) own top top_is threaded

-- ---- verdicts

module _ (modules : List Module) (top : Module) (count : ℕ) where
  legal_of : (journal : List (Entry modules top count)) (h g : Valuation) → IsJournal modules top count h journal g → IsLegal modules top count h journal g
  legal_of [] h g is = is
  legal_of (e ∷ journal) h g is = (is.0, is.1, legal_of journal is.0 g is.3)

module _ (P : Program) (modules : List Module) (top : Module) (threaded : IsThreaded modules top (thread_count P)) (h : Valuation) (out : List ℕ)
    (shows : ShowsInterleaving P modules top h out) where
  not_both : ShowsDone modules top h (all_enabled (thread_count P) []) 1 → ShowsDone modules top h (all_enabled (thread_count P) []) 0 → ⊥
  not_both a b = suc-ne-zero 0 (threaded.done_alike h h (all_enabled (thread_count P) []) (all_enabled (thread_count P) []) 1 0 (in_refl modules top _ h) a b)

  judged : (e n : ℕ) (v : Verdict) → Ends modules top (thread_count P) h e n v → HasInterleaving P out v
  judged e n verdict.Done ends = record {
    steps = shows.steps;
    state = shows.state;
    after = shows.after;
    printed = shows.printed;
    done = (λ same. shows.done.0 ends, λ ended. refl);
    deadlocked = λ same. absurd cc;
  }
  judged e n verdict.Stuck ends = record {
    steps = shows.steps;
    state = shows.state;
    after = shows.after;
    printed = shows.printed;
    done = (λ same. absurd cc, λ ended. absurd (not_both (shows.done.1 ended) ends.0));
    deadlocked = λ same. shows.deadlocked e n ends;
  }
  judged e n verdict.Entries ends = record {
    steps = shows.steps;
    state = shows.state;
    after = shows.after;
    printed = shows.printed;
    done = (λ same. absurd cc, λ ended. absurd (not_both (shows.done.1 ended) ends.0));
    deadlocked = λ same. absurd cc;
  }

-- ---- what is answered, of the outermost module

module _ (P : Program) (text : List ℕ) (net : Net) (top : Module) (is : IsGood P) (good : IsGoodVerilog P text) (reads : Reads text net)
    (top_is : top_of (netlist_of net).modules ≡ Some top) (threaded : IsThreaded (netlist_of net).modules top (thread_count P)) where
  threaded_at : (t : Module) → top_of (netlist_of net).modules ≡ Some t → IsThreaded (netlist_of net).modules t (thread_count P)
  threaded_at t there = subst (λ (u : Module). IsThreaded (netlist_of net).modules u (thread_count P)) (same_Some top t (sym top_is ∙ there)) threaded

  answered : (t : Module) → top_of (netlist_of net).modules ≡ Some t → (journal : List (Entry (netlist_of net).modules t (thread_count P))) (g h : Valuation) (out : List ℕ)
      → IsLegal (netlist_of net).modules t (thread_count P) (initial_state (netlist_of net).modules t) journal g
      → Reaches (netlist_of net).modules t (choices_of (netlist_of net).modules t (thread_count P) journal) h out
      → (e n : ℕ) (v : Verdict) → Ends (netlist_of net).modules t (thread_count P) h e n v → HasInterleaving P out v
  answered t there journal g h out legal reached e n v ends =
      judged P (netlist_of net).modules t (threaded_at t there) h out (journals_follow P text net t is good reads there (threaded_at t there) journal g h out legal reached) e n v ends

pub runs_follow : RunsFollow
runs_follow P text net top is good reads top_is threaded most journal out v ran =
    let t = ran.ends.top in
    let run = ran.ends.holds in
    let entries = all_entries (netlist_of net).modules t (thread_count P) journal in
    answered P text net top is good reads top_is threaded t ran.ends.is_top entries run.0 run.0 out
    (legal_of (netlist_of net).modules t (thread_count P) entries (initial_state (netlist_of net).modules t) run.0 run.1) run.2 _ most v run.3

pub replays_follow : ReplaysFollow
replays_follow P text net top is good reads top_is threaded journal out v run =
    let t = run.top in
    let replayed = run.holds.1 in
    answered P text net top is good reads top_is threaded t run.is_top (all_entries (netlist_of net).modules t (thread_count P) journal) replayed.0 replayed.0 out replayed.1.legal
    replayed.1.reached _ _ v replayed.2
