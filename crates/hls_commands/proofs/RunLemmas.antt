-- What is compiled to be run can be run, and what a run owes.
use Rattle.std.proofs.Common.{◌≡◌, ℕ, ◌<◌, ◌≤◌, ap, arith, ⊎_elim, Bool, true, false, List, Option, Some, None, inl, inr, refl, ◌∙◌, sym, subst}
use Rattle.std.proofs.lemmas.Option.{same_Some}
use Rattle.verilog_tree.specs.declared.tree.Net.{Net}
use Rattle.verilog_rules.proofs.OneNet.{reads_one}
use Rattle.netlist.specs.declared.netlist.Module.{Module}
use Rattle.netlist.specs.declared.netlist.Netlist.{Netlist}
use Rattle.netlist.specs.NetlistOf.{netlist_of}
use Rattle.verilog_meaning.specs.Names.{top_of}
use Rattle.verilog_meaning.specs.Threads.{Depends, IsThreaded}
use Rattle.cycle_sim.specs.declared.sim.OpenError.{OpenError}
use Rattle.cycle_sim.specs.declared.sim.OpenError.TheVariants as errors
use Rattle.cycle_sim.specs.Opened.{IsOpenable, IsCause}
use Rattle.sim_layout.specs.Rounds.{threads_of}
use Rattle.cycle_sim.proofs.Enables.{threads_of_sound}
use Rattle.cycle_sim.proofs.PrinterInstance.{one_printer}
use Rattle.cycle_sim.proofs.Right.{right_of_sound}
use Rattle.cycle_sim.proofs.TakenChoices.{turns_taken}
use Rattle.journal_text.specs.declared.entry.Entry.{Entry}
use Rattle.run_command.specs.Lines.{summary}
use Rattle.run_command.specs.declared.replay.ReplayAnswer.{ReplayAnswer}
use Rattle.run_command.specs.declared.replay.ReplayAnswer.TheVariants as answers
use Rattle.run_command.specs.Replays.{AreRun, IsReplayAnswer}
use Rattle.slot_sim.specs.Slots.{IsThreadedIn}
use Rattle.journal_laws.specs.declared.verdict.Verdict.{Verdict}
use Rattle.journal_laws.specs.declared.verdict.Verdict.TheVariants as verdicts
use Rattle.hls_words.specs.declared.task.Task.{Task}
use Rattle.hls_words.specs.declared.task.Task.TheVariants.{Step, Run, Replay, Walk}
use Rattle.turns.specs.declared.Turn.{Turn}
use Rattle.c_interpreter.specs.declared.walk.WalkEnd.{WalkEnd as Ends}
use Rattle.c_interpreter.specs.declared.walk.WalkEnd.TheVariants as ends
use Rattle.c_program.specs.Tree.{Program}
use Rattle.c_program.specs.Weight.{thread_count}
use Rattle.hls_compile.specs.Compiled.{IsCompiled}
use Rattle.hls_status.specs.declared.status.Status.{Status}
use Rattle.hls_commands.specs.Answers.{Due, GaveJournal, IsJudged, IsReplayed, IsRun, IsRunBy, IsStepped, IsWalked, OwesAt, Succeeds, run_status, status_of, verdict_status}
use Rattle.hls_commands.specs.Inside.{IsAnswerOf, IsReplayOrBad}

module _ (text : List ℕ) (P : Program) (weight : ℕ) (n : Netlist) (written : List ℕ) (is : IsCompiled text P weight n written) where
  -- the net enables as many threads as the program has
  pub threads_are : threads_of n.modules ≡ thread_count P
  threads_are =
      let one = reads_one written is.good.net is.net.net is.good.reads is.net.reads in
      let modules : (netlist_of is.good.net).modules ≡ n.modules = ap (λ (t : Net). (netlist_of t).modules) one ∙ ap (λ (k : Netlist). k.modules) is.net.is in
      let enable = is.good.enables in
      threads_of_sound n is.net.sound is.good.top enable.place enable.signal (sym (ap top_of modules) ∙ is.good.is_top) enable.is ∙ enable.wide

  pub openable : IsOpenable n.modules
  openable = record {
    top = is.net.top;
    is_top = is.net.is_top;
    right = right_of_sound n is.net.sound is.net.top is.net.is_top;
    printer = one_printer n is.net.sound;
    done = is.net.done;
    takes = turns_taken n.modules is.net.top (thread_count P) threads_are (is.net.takes is.net.top is.net.is_top);
  }

  -- it has a simulator: of the causes none but want of memory comes
  pub no_cause : (e : OpenError) → IsCause n.modules e → e ≡ errors.Memory
  no_cause (errors.Loop k x) cause =
      let same = same_Some cause.top is.net.top (sym cause.is_top ∙ is.net.is_top) in
      absurd (is.net.loopless (cause.path, x) (subst (λ (t : Module). Depends n.modules t (cause.path, x) (cause.path, x)) same cause.depends))
  no_cause errors.Memory cause = refl

  -- how many threads it has
  pub any_thread : 0 < thread_count P
  any_thread = omega arith

  pub few_threads : thread_count P ≤ 64
  few_threads = is.few

  -- it is a net of threads
  pub is_threaded : IsThreadedIn n.modules (thread_count P)
  is_threaded top e =
      subst (λ (t : Module). IsThreaded n.modules t (thread_count P)) (same_Some is.threaded.top top (sym is.threaded.is_top ∙ e)) is.threaded.threaded

owes_by : (most : ℕ) (vcd : Bool) (left : Option (List ℕ)) (rose : Type 0) (d : Due) (s : Status) (cycles : ℕ) (done : Bool) → IsRun most vcd left d cycles done → s ≡ run_status done cycles
    → OwesAt (Some (Step most vcd)) left rose d s
owes_by most vcd left rose d s cycles true run e = subst (OwesAt (Some (Step most vcd)) left rose d) (sym e) (cycles, run)
owes_by most vcd left rose d s cycles false run e = subst (OwesAt (Some (Step most vcd)) left rose d) (sym e) run

-- a run owes what it has come to
pub stepped_owes : (most : ℕ) (vcd : Bool) (left : Option (List ℕ)) (rose : Type 0) (d : Due) (s : Status) → IsStepped most vcd left d s → OwesAt (Some (Step most vcd)) left rose d s
stepped_owes most vcd left rose d s is = owes_by most vcd left rose d s is.0 is.1 is.2 is.3

judged : (task : Task) (left : Option (List ℕ)) (rose : Type 0) (d : Due) (v : Verdict) → IsJudged (Some task) left d v
    → (verdicts.Done ≡ v → Succeeds (Some task) left d) → OwesAt (Some task) left rose d (verdict_status v)
judged task left rose d verdicts.Done is done = done refl
judged task left rose d verdicts.Stuck is done = is
judged task left rose d verdicts.Entries is done = is

run_done : (most : ℕ) (listed : Bool) (left : Option (List ℕ)) (rose : Type 0) (d : Due) (v : Verdict) → IsRunBy most listed left d v → OwesAt (Some (Run most listed)) left rose d (verdict_status v)
run_done most listed left rose d v is =
    judged (Run most listed) left rose d v is (λ e. subst (λ (x : Verdict). IsRunBy most listed left d x) (sym e) is)

pub run_owes : (most : ℕ) (listed : Bool) (left : Option (List ℕ)) (rose : Type 0) (d : Due) (s : Status) → ((v : Verdict) × IsRunBy most listed left d v × (s ≡ verdict_status v))
    → OwesAt (Some (Run most listed)) left rose d s
run_owes most listed left rose d s is = subst (OwesAt (Some (Run most listed)) left rose d) (sym is.2) (run_done most listed left rose d is.0 is.1)

replay_done : (left : Option (List ℕ)) (rose : Type 0) (d : Due) (v : Verdict) → IsReplayed left d v → OwesAt (Some Replay) left rose d (verdict_status v)
replay_done left rose d v is = judged Replay left rose d v is (λ e. subst (λ (x : Verdict). IsReplayed left d x) (sym e) is)

pub replay_owes : (left : Option (List ℕ)) (rose : Type 0) (d : Due) (s : Status) → IsReplayOrBad left d s → OwesAt (Some Replay) left rose d s
replay_owes left rose d s is =
    ⊎_elim
    (λ good. subst (OwesAt (Some Replay) left rose d) (sym good.2) (replay_done left rose d good.0 good.1))
    (λ bad. subst (OwesAt (Some Replay) left rose d) (sym bad.2) bad.1)
    is

-- a walk owes what it has come to
walked_by : (turns : List Turn) (left : Option (List ℕ)) (rose : Type 0) (d : Due) (s : Status) (end : Ends) → s ≡ status_of end → IsWalked turns left d s
    → OwesAt (Some (Walk turns)) left rose d s
walked_by turns left rose d s (ends.Ended n) e is = subst (OwesAt (Some (Walk turns)) left rose d) (sym e) (subst (IsWalked turns left d) e is)
walked_by turns left rose d s (ends.Listed n) e is = subst (OwesAt (Some (Walk turns)) left rose d) (sym e) (subst (IsWalked turns left d) e is)
walked_by turns left rose d s (ends.Blocked n i cause) e is = subst (OwesAt (Some (Walk turns)) left rose d) (sym e) (subst (IsWalked turns left d) e is)
walked_by turns left rose d s (ends.Undefined n at cause) e is = subst (OwesAt (Some (Walk turns)) left rose d) (sym e) (subst (IsWalked turns left d) e is)

pub walked_owes : (turns : List Turn) (left : Option (List ℕ)) (rose : Type 0) (d : Due) (s : Status) → IsWalked turns left d s → OwesAt (Some (Walk turns)) left rose d s
walked_owes turns left rose d s is = walked_by turns left rose d s is.end is.status is

-- ---- replays

-- a journal done again on a net, as an answer
module _ (left : Option (List ℕ)) (entries : List Entry) (bad : Option ℕ) (text : List ℕ) (P : Program) (weight : ℕ) (n : Netlist) (written : List ℕ) (g : GaveJournal left entries bad text)
    (c : IsCompiled text P weight n written) (d : Due) (s : Status) where
  pub replay_answers : (r : ReplayAnswer) → IsReplayAnswer n.modules (thread_count P) entries bad r → IsAnswerOf written r d s → IsReplayOrBad left d s
  replay_answers (answers.Replayed v output journal line) is a =
      let j : d.journal ≡ entries = a.2 ∙ is.1 in
      inl (
        v,
        record {
          text = text;
          program = P;
          weight = weight;
          net = n;
          gave = subst (λ (x : List Entry). GaveJournal left x None text) (sym j) (subst (λ (b : Option ℕ). GaveJournal left entries b text) is.0 g);
          compiled = subst (λ (w : List ℕ). IsCompiled text P weight n w) (sym a.1) c;
          run = subst (λ (x : List Entry). AreRun n.modules (thread_count P) x d.out v) (sym j)
              (subst (λ (o : List ℕ). AreRun n.modules (thread_count P) entries o v) (sym a.3) is.2);
          err = a.4 ∙ is.3 ∙ ap (λ (x : List Entry). summary x v) (sym j);
        },
        a.0,
      )
  replay_answers (answers.BadEntry index line) is a =
      inr (
        index,
        record {
          text = text;
          program = P;
          weight = weight;
          net = n;
          entries = entries;
          bad = bad;
          gave = g;
          compiled = subst (λ (w : List ℕ). IsCompiled text P weight n w) (sym a.1) c;
          first = is.0;
          unlisted = a.2;
          out = a.3;
          err = a.4 ∙ is.1;
        },
        a.0,
      )
