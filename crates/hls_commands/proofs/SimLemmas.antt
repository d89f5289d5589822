-- What a simulation owes.
use Rattle.std.proofs.Common.{◌≡◌, ℕ, ◌≤◌, Bool, true, false, List, length, Option, Some, inr, sym, subst, String, string_bytes}
use Rattle.std.specs.declared.alloc.Global.{Global}
use Rattle.netlist.specs.NetlistOf.{netlist_of}
use Rattle.sim_layout.specs.Rounds.{threads_of as enabled_of}
use Rattle.cycle_sim.specs.Round.{IsRound}
use Rattle.cycle_sim.specs.declared.run.Ran.{Ran}
use Rattle.sim_command.specs.declared.sim.SimError.{SimError}
use Rattle.sim_command.specs.declared.sim.SimError.TheVariants as error
use Rattle.sim_command.specs.Simulated.{Fails, IsSimulatedRun}
use Rattle.hls_words.specs.declared.task.Task.TheVariants.{Sim}
use Rattle.hls_status.specs.declared.status.Status.{Status}
use Rattle.hls_status.specs.declared.status.Status.TheVariants as status
use Rattle.hls_status.specs.Lines.{loop_line, not_net_line}
use Rattle.hls_commands.specs.declared.answer.Answer.{Answer}
use Rattle.hls_commands.specs.Answers.{Due, Gave, GaveVerilog, IsPlain, IsSimulated, OwesAt, most_simulated, run_status}
use Rattle.hls_commands.specs.Inside.{IsPrinted, SimOwes, SimOwesFor, due_of}

-- ---- what the command answers

ran_by : (most : ℕ) (left : Option (List ℕ)) (d : Due) (s : Status) (cycles : ℕ) (done : Bool) → IsSimulated most left d cycles done
    → s ≡ run_status done cycles → SimOwes most left d s
ran_by most left d s cycles true run e = subst (SimOwes most left d) (sym e) (cycles, run)
ran_by most left d s cycles false run e = subst (SimOwes most left d) (sym e) run

module _ (most : ℕ) (text : List ℕ) (short : length text ≤ most_simulated) where
  given : (left : Option (List ℕ)) → Gave left text → GaveVerilog left text
  given left gave = record { gave = gave; short = short }

  pub printed_owes : (r : Ran) → IsSimulatedRun text most r → (a : Answer)
      → (a.status ≡ run_status r.is_done r.cycles) × IsPrinted r (due_of a) → SimOwesFor most text (due_of a) a.status
  printed_owes r run a is = λ left gave.
      ran_by most left (due_of a) a.status r.cycles r.is_done (record {
        text = text;
        net = run.net;
        gave = given left gave;
        read = run.read;
        loopless = run.loopless;
        ran = subst (λ (out : List ℕ). IsRound (netlist_of run.net).modules (enabled_of (netlist_of run.net).modules) most r.cycles r.is_done out) (sym is.1.out) run.ran;
        unwritten = is.1.text;
        unlisted = is.1.journal;
        err = is.1.err;
      }) is.0

  pub not_net_owes : (e : SimError) (offset : ℕ) → e ≡ error.NotNet offset → Fails text e → (a : Answer)
      → (a.status ≡ status.NotNet offset) × IsPlain (due_of a) (not_net_line offset)
      → SimOwesFor most text (due_of a) a.status
  not_net_owes e offset same fails a is = λ left gave.
      let cause : Fails text (error.NotNet offset) = subst (Fails text) same fails in
      subst (SimOwes most left (due_of a)) (sym is.0) (inr (text, given left gave, cause.0, cause.1), is.1)

  pub looped_owes : (e : SimError) (path : String Global) → e ≡ error.Loop path → Fails text e → (a : Answer)
      → (a.status ≡ status.Loop path) × IsPlain (due_of a) (loop_line (string_bytes path))
      → SimOwesFor most text (due_of a) a.status
  looped_owes e path same fails a is = λ left gave.
      let cause : Fails text (error.Loop path) = subst (Fails text) same fails in
      subst (SimOwes most left (due_of a)) (sym is.0) (
        record {
          text = text;
          net = cause.0;
          gave = given left gave;
          read = cause.1;
          first = cause.2;
        },
        is.1,
      )

-- ---- what is owed for the task

pub sim_owes : (most : ℕ) (left : Option (List ℕ)) (rose : Type 0) (d : Due) (s : Status) → SimOwes most left d s → OwesAt (Some (Sim most)) left rose d s
sim_owes most left rose d status.Ok is = is
sim_owes most left rose d (status.Refused r) is = absurd is
sim_owes most left rose d status.Usage is = absurd is
sim_owes most left rose d status.ReadFault is = absurd is
sim_owes most left rose d (status.WriteFault out err) is = is
sim_owes most left rose d status.Memory is = absurd is
sim_owes most left rose d status.Entries is = is
sim_owes most left rose d status.Stuck is = is
sim_owes most left rose d (status.BadEntry index) is = is
sim_owes most left rose d (status.Walked end) is = is
sim_owes most left rose d (status.Cycles cycles) is = is
sim_owes most left rose d (status.NotNet offset) is = is
sim_owes most left rose d (status.Loop signal) is = is
sim_owes most left rose d (status.Doubt offset name) is = absurd is
sim_owes most left rose d (status.Race first second name) is = is
sim_owes most left rose d (status.UndefinedStep offset cause) is = is
sim_owes most left rose d (status.Unknown steps cause) is = is
