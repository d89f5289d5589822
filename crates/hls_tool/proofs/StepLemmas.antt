-- A simulation of the text of a build ends as the steps of its C text do.
use Rattle.std.proofs.Common.{◌≡◌, ℕ, ◌≤◌, Bool, false, true, List, length, Option, Some, None, ap, arith, sym, subst, ◌∙◌, ⊎_elim}
use Rattle.std.specs.Prelude.{⊤, string_bytes}
use Rattle.std.proofs.lemmas.Option.{same_Some}
use Rattle.verilog_tree.specs.declared.tree.Net.{Net}
use Rattle.verilog_tree.specs.Reads.{Reads}
use Rattle.verilog_rules.proofs.OneNet.{reads_one}
use Rattle.netlist.specs.declared.netlist.Module.{Module}
use Rattle.netlist.specs.declared.netlist.Netlist.{Netlist}
use Rattle.netlist.specs.NetlistOf.{netlist_of}
use Rattle.verilog_meaning.specs.Names.{top_of}
use Rattle.verilog_meaning.specs.Ports.{HasPorts}
use Rattle.verilog_meaning.specs.Threads.{Depends}
use Rattle.sim_layout.specs.Rounds.{threads_of as enabled_of}
use Rattle.cycle_sim.specs.Round.{IsRound}
use Rattle.verilog_reader.specs.Faults.{IsRead}
use Rattle.well_formed_net.proofs.ReadAgain.{read_again}
use Rattle.well_formed_net.proofs.RunsOnce.{runs_alike}
use Rattle.sim_loops.specs.First.{IsLoopless}
use Rattle.sim_loops.specs.Dotted.{IsLoopPath}
use Rattle.c_program.specs.Weight.{thread_count}
use Rattle.hls_commands.specs.Compiled.{IsCompiled}
use Rattle.hls_words.specs.declared.task.Task.{Task}
use Rattle.hls_words.specs.declared.task.Task.TheVariants.{Sim}
use Rattle.hls_tool.specs.declared.outcome.Outcome.{Outcome}
use Rattle.hls_status.specs.declared.status.Status.{Status}
use Rattle.hls_status.specs.declared.status.Status.TheVariants as status
use Rattle.hls_status.specs.Lines.{cycles_line}
use Rattle.hls_commands.specs.Answers.{Due, HasLoop, IsNotNet, IsSimulated, IsStepped, OwesAt, most_simulated, run_status}
use Rattle.hls_commands.proofs.RunLemmas.{threads_are}
use Rattle.hls_tool.specs.Call.{Answered, AnswersAs, AsksToSimulate}
use Rattle.hls_tool.specs.Delivery.{Ends, Passage, TookAll}
use Rattle.hls_tool.proofs.SimLemmas.{owed_for}

-- a signal of the net depends on itself
looped : (modules : List Module) (path : List ℕ) → IsLoopPath modules path → IsLoopless modules → ⊥
looped modules path is loopless = loopless is.top is.is_top (is.path, is.signal) is.loops.depends

module _ (most : ℕ) (c_text : List ℕ) (d : Due) (s : Status) (stepped : IsStepped most false (Some c_text) d s) (short : length d.text ≤ most_simulated) where
  compiled : IsCompiled stepped.2.text stepped.2.program stepped.2.weight stepped.2.net d.text
  compiled = stepped.2.compiled

  abbrev net : Net
  net = compiled.good.net

  abbrev modules : List Module
  modules = (netlist_of net).modules

  abbrev threads : ℕ
  threads = thread_count stepped.2.program

  -- ---- the net of the text

  modules_are : modules ≡ stepped.2.net.modules
  modules_are =
      ap (λ (t : Net). (netlist_of t).modules) (reads_one d.text net compiled.net.net compiled.good.reads compiled.net.reads) ∙ ap (λ (k : Netlist). k.modules) compiled.net.is

  read : IsRead d.text net
  read =
      let same : compiled.threaded.top ≡ compiled.good.top =
      same_Some compiled.threaded.top compiled.good.top (sym compiled.threaded.is_top ∙ ap top_of (sym modules_are) ∙ compiled.good.is_top) in
      read_again d.text net compiled.good.top threads compiled.good.reads compiled.good.formed compiled.good.is_top
      (subst (λ (t : Module). HasPorts t threads) same compiled.threaded.threaded.ports)

  loopless : IsLoopless modules
  loopless top is p =
      let mine : compiled.net.top ≡ top = same_Some compiled.net.top top (sym compiled.net.is_top ∙ ap top_of (sym modules_are) ∙ is) in
      let At : List Module → Module → Type 0 = λ ms t. Depends ms t p p → ⊥ in
      subst (λ (ms : List Module). At ms top) (sym modules_are) (subst (At stepped.2.net.modules) mine (compiled.net.loopless p))

  enabled : enabled_of modules ≡ threads
  enabled = ap enabled_of modules_are ∙ threads_are stepped.2.text stepped.2.program stepped.2.weight stepped.2.net d.text compiled

  ran : IsRound modules threads most stepped.0 stepped.1 d.out
  ran = subst (λ (ms : List Module). IsRound ms threads most stepped.0 stepped.1 d.out) (sym modules_are) stepped.2.ran

  -- a net that is read of the text is this one
  same_net : (given : List ℕ) (n : Net) → given ≡ d.text → IsRead given n → n ≡ net
  same_net given n e is = reads_one d.text n net (subst (λ (t : List ℕ). Reads t n) e is.reads) compiled.good.reads

  -- ---- what a simulation of the text owes

  abbrev SameAs : Due → Status → Type 0
  SameAs owed t = (t ≡ s) × (owed.out ≡ d.out) × (owed.err ≡ d.err)

  simulated : (owed : Due) (n : ℕ) (shown : Bool) → IsSimulated most (Some d.text) owed n shown → SameAs owed (run_status shown n)
  simulated owed n shown h =
      let there : IsRound modules (enabled_of modules) most n shown owed.out =
      subst (λ (k : Net). IsRound (netlist_of k).modules (enabled_of (netlist_of k).modules) most n shown owed.out) (same_net h.text h.net h.gave.gave h.read) h.ran in
      let x = runs_alike net compiled.good.top threads most compiled.good.formed compiled.good.is_top compiled.good.determined n stepped.0 shown stepped.1 owed.out d.out
      (subst (λ (k : ℕ). IsRound modules k most n shown owed.out) enabled there) ran in (
        ap (λ (b : Bool). run_status b n) x.1 ∙ ap (run_status stepped.1) x.0 ∙ sym stepped.3,
        x.2,
        h.err ∙ ap (λ (b : Bool). cycles_line b n) x.1 ∙ ap (cycles_line stepped.1) x.0 ∙ sym stepped.2.err,
      )

  never_none : (offset : ℕ) → IsNotNet (Some d.text) offset → ⊥
  never_none offset h =
      ⊎_elim (λ long. let more = long.1 in omega (arith, more, short)) (λ other. other.3 net (subst (λ (t : List ℕ). IsRead t net) (sym other.1.gave) read)) h

  never_looped : (path : List ℕ) → HasLoop (Some d.text) path → ⊥
  never_looped path h = looped modules path (subst (λ (k : Net). IsLoopPath (netlist_of k).modules path) (same_net h.text h.net h.gave.gave h.read) h.first) loopless

  -- the same, but for a fault of the source and want of memory
  abbrev IsSame : Due → Status → Type 0
  IsSame owed status.ReadFault = ⊤
  IsSame owed status.Memory = ⊤
  IsSame owed t = SameAs owed t

  owes_same : (rose : Type 0) (owed : Due) (t : Status) → OwesAt (Some (Sim most)) (Some d.text) rose owed t → IsSame owed t
  owes_same rose owed status.Ok h = simulated owed h.0 true h.1
  owes_same rose owed (status.Refused r) h = absurd h.1
  owes_same rose owed status.Usage h = absurd (let e : Some (Sim most) ≡ None = h.0 in cc)
  owes_same rose owed status.ReadFault h = tt
  owes_same rose owed (status.WriteFault n m) h = absurd h
  owes_same rose owed status.Memory h = tt
  owes_same rose owed status.Entries h = absurd h
  owes_same rose owed status.Stuck h = absurd h
  owes_same rose owed (status.BadEntry index) h = absurd h
  owes_same rose owed (status.Walked end) h = absurd h
  owes_same rose owed (status.Cycles cycles) h = simulated owed cycles false h
  owes_same rose owed (status.NotNet offset) h = absurd (never_none offset h.0)
  owes_same rose owed (status.Loop signal) h = absurd (never_looped (string_bytes signal) h.0)
  owes_same rose owed (status.Doubt offset name) h = absurd h.0
  owes_same rose owed (status.Race first second name) h = absurd h
  owes_same rose owed (status.UndefinedStep offset cause) h = absurd h
  owes_same rose owed (status.Unknown steps cause) h = absurd h

  module _ (owed : Due) (out err : Passage) where
    took : (u : Status) → SameAs owed u → TookAll owed.out owed.err out err → (u ≡ s) × TookAll d.out d.err out err
    took u same all = (same.0, subst (λ (e : List ℕ). TookAll d.out e out err) same.2 (subst (λ (o : List ℕ). TookAll o owed.err out err) same.1 all))

    ends_so : (u : Status) → Ends owed.status owed.out owed.err out err u → IsSame owed owed.status → AnswersAs d s out err u
    ends_so status.Ok h k = took status.Ok (subst (IsSame owed) (sym h.0) k) h.1
    ends_so (status.Refused r) h k = took (status.Refused r) (subst (IsSame owed) (sym h.0) k) h.1
    ends_so status.Usage h k = took status.Usage (subst (IsSame owed) (sym h.0) k) h.1
    ends_so status.ReadFault h k = tt
    ends_so (status.WriteFault n m) h k = tt
    ends_so status.Memory h k = tt
    ends_so status.Entries h k = took status.Entries (subst (IsSame owed) (sym h.0) k) h.1
    ends_so status.Stuck h k = took status.Stuck (subst (IsSame owed) (sym h.0) k) h.1
    ends_so (status.BadEntry index) h k = took (status.BadEntry index) (subst (IsSame owed) (sym h.0) k) h.1
    ends_so (status.Walked end) h k = took (status.Walked end) (subst (IsSame owed) (sym h.0) k) h.1
    ends_so (status.Cycles cycles) h k = took (status.Cycles cycles) (subst (IsSame owed) (sym h.0) k) h.1
    ends_so (status.NotNet offset) h k = took (status.NotNet offset) (subst (IsSame owed) (sym h.0) k) h.1
    ends_so (status.Loop signal) h k = took (status.Loop signal) (subst (IsSame owed) (sym h.0) k) h.1
    ends_so (status.Doubt offset name) h k = took (status.Doubt offset name) (subst (IsSame owed) (sym h.0) k) h.1
    ends_so (status.Race first second name) h k = took (status.Race first second name) (subst (IsSame owed) (sym h.0) k) h.1
    ends_so (status.UndefinedStep offset cause) h k = took (status.UndefinedStep offset cause) (subst (IsSame owed) (sym h.0) k) h.1
    ends_so (status.Unknown steps cause) h k = took (status.Unknown steps cause) (subst (IsSame owed) (sym h.0) k) h.1

  pub as_step : (task : Option Task) (left : Option (List ℕ)) (rose : Type 0) (out err : Passage) (outcome : Outcome) → Answered task left rose out err outcome
      → AsksToSimulate most task left d.text → AnswersAs d s out err outcome.status
  as_step task left rose out err outcome h asked =
      ends_so h.owed out err outcome.status h.ends (owes_same rose h.owed h.owed.status (owed_for task left rose out err outcome most d.text h asked))
