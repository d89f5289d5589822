-- The interleaving that a journal shows.
use Rattle.std.specs.Prelude.{◌≡◌, ◌↔◌, ℕ, List, [], Some, true}
use Rattle.c_program.specs.Tree.{Program}
use Rattle.c_program.specs.Weight.{thread_count}
use Rattle.thread_semantics.specs.State.{State}
use Rattle.thread_semantics.specs.Step.{Steps, after, IsDeadlocked}
use Rattle.thread_semantics.specs.Races.{IsGood}
use Rattle.verilog_tree.specs.declared.tree.Net.{Net}
use Rattle.verilog_tree.specs.Reads.{Reads}
use Rattle.netlist.specs.NetlistOf.{netlist_of}
use Rattle.netlist.specs.declared.netlist.Module.{Module}
use Rattle.verilog_meaning.specs.Names.{top_of}
use Rattle.verilog_meaning.specs.Cycles.{Valuation, Reaches, ShowsDone, initial_state}
use Rattle.verilog_meaning.specs.Threads.{Entry, IsThreaded, IsLegal, HasVerdict, Stuck, all_enabled, choices_of}
use Rattle.good_verilog.specs.GoodVerilog.{IsGoodVerilog}
use Rattle.journal_text.specs.declared.entry.Entry as code
use Rattle.journal_laws.specs.declared.verdict.Verdict.{Verdict}
use Rattle.journal_laws.specs.declared.verdict.Verdict.TheVariants as verdict
use Rattle.hardware_threads.specs.Run.{IsRan}
use Rattle.run_command.specs.Replays.{AreRun}

-- the program has an interleaving that printed what its net wrote on the way to state h; it is ended exactly where the net shows done, and deadlocked
-- where no thread of the net can move
pub record ShowsInterleaving (P : Program) (modules : List Module) (top : Module) (h : Valuation) (out : List ℕ) : Type 0 where
  pub steps : List ℕ
  pub state : State
  pub after : after P steps ≡ Steps state
  pub printed : out ≡ state.output
  pub done : ShowsDone modules top h (all_enabled (thread_count P) []) 1 ↔ (state.ended ≡ true)
  pub deadlocked : (entries most : ℕ) → HasVerdict modules top (thread_count P) h entries most Stuck → IsDeadlocked P state

-- the program has an interleaving that printed this; it is ended exactly under the verdict Done, and deadlocked under Stuck
pub record HasInterleaving (P : Program) (out : List ℕ) (v : Verdict) : Type 0 where
  pub steps : List ℕ
  pub state : State
  pub after : after P steps ≡ Steps state
  pub printed : out ≡ state.output
  pub done : (v ≡ verdict.Done) ↔ (state.ended ≡ true)
  pub deadlocked : v ≡ verdict.Stuck → IsDeadlocked P state

-- X holds of each good program and the net that its good Verilog reads as, where that is threaded
abbrev pub OfGood : (Program → List Module → Module → Type 0) → Type 0
OfGood X =
    (P : Program) (text : List ℕ) (net : Net) (top : Module) → IsGood P → IsGoodVerilog P text → Reads text net → top_of (netlist_of net).modules ≡ Some top
    → IsThreaded (netlist_of net).modules top (thread_count P) → X P (netlist_of net).modules top

-- JOURNALS SHOW INTERLEAVINGS: so does the state to which the choices of a legal journal lead
abbrev pub JournalsFollow : Type 0
JournalsFollow =
    OfGood
    (λ P modules top. (journal : List (Entry modules top (thread_count P))) (g h : Valuation) (out : List ℕ)
    → IsLegal modules top (thread_count P) (initial_state modules top) journal g → Reaches modules top (choices_of modules top (thread_count P) journal) h out
    → ShowsInterleaving P modules top h out)

-- so it is with what a run answers
abbrev pub RunsFollow : Type 0
RunsFollow =
    OfGood (λ P modules top. (most : ℕ) (journal : List code.Entry) (out : List ℕ) (v : Verdict) → IsRan modules (thread_count P) most journal out v → HasInterleaving P out v)

-- and with what a replay answers
abbrev pub ReplaysFollow : Type 0
ReplaysFollow =
    OfGood (λ P modules top. (journal : List code.Entry) (out : List ℕ) (v : Verdict) → AreRun modules (thread_count P) journal out v → HasInterleaving P out v)
