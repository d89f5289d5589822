-- How a simulation of a Verilog text ends, and that of the text of a build ends as its steps do.
use Rattle.std.proofs.Common.{◌≡◌, ℕ, ◌≤◌, Bool, false, true, List, length, Option, Some, None, inl, inr, sym, subst, ⊎_elim}
use Rattle.std.specs.Prelude.{String, string_bytes}
use Rattle.std.specs.declared.alloc.Global.{Global}
use Rattle.verilog_tree.specs.declared.tree.Net.{Net}
use Rattle.verilog_reader.specs.Faults.{IsRead}
use Rattle.hls_words.specs.declared.task.Task.{Task}
use Rattle.hls_words.specs.declared.task.Task.TheVariants.{Sim}
use Rattle.hls_tool.specs.declared.outcome.Outcome.{Outcome}
use Rattle.hls_status.specs.declared.status.Status.{Status}
use Rattle.hls_status.specs.declared.status.Status.TheVariants as status
use Rattle.hls_commands.specs.Answers.{Due, GaveVerilog, HasLoop, HasLoopOf, IsDoubtOf, IsNotNet, IsNotNetOf, IsSimulated, OwesAt, most_simulated}
use Rattle.hls_tool.specs.Call.{Answered, AsksToSimulate, Spells, SpellsLoop, SpellsLoopless, SpellsNone, TellsSimulation}
use Rattle.hls_tool.specs.Delivery.{Ends, Passage}

module _ (text : List ℕ) where
  -- a text that the source gave is the one that it has
  spells : (given : List ℕ) (n : Net) → GaveVerilog (Some text) given → IsRead given n → Spells text n
  spells given n gave read = record {
    short = subst (λ (t : List ℕ). length t ≤ most_simulated) gave.gave gave.short;
    read = subst (λ (t : List ℕ). IsRead t n) gave.gave read;
  }

  loopless : (most : ℕ) (d : Due) (cycles : ℕ) (done : Bool) → IsSimulated most (Some text) d cycles done → SpellsLoopless text
  loopless most d cycles done h = (h.net, spells h.text h.net h.gave h.read, h.loopless)

  looped : (path : List ℕ) → HasLoop (Some text) path → SpellsLoop text path
  looped path h = (h.net, spells h.text h.net h.gave h.read, h.first)

  none : (offset : ℕ) → IsNotNet (Some text) offset → SpellsNone text
  none offset h =
      ⊎_elim (λ long. inl long.1) (λ other. inr (λ n read. other.3 n (subst (λ (t : List ℕ). IsRead t n) (sym other.1.gave) read))) h

  owes_simulation : (most : ℕ) (rose : Type 0) (d : Due) (s : Status) → OwesAt (Some (Sim most)) (Some text) rose d s → TellsSimulation text s
  owes_simulation most rose d status.Ok h = loopless most d h.0 true h.1
  owes_simulation most rose d (status.Refused r) h = h.1
  owes_simulation most rose d status.Usage h = absurd (let e : Some (Sim most) ≡ None = h.0 in cc)
  owes_simulation most rose d status.ReadFault h = tt
  owes_simulation most rose d (status.WriteFault n m) h = tt
  owes_simulation most rose d status.Memory h = tt
  owes_simulation most rose d status.Entries h = h
  owes_simulation most rose d status.Stuck h = h
  owes_simulation most rose d (status.BadEntry index) h = h
  owes_simulation most rose d (status.Walked end) h = h
  owes_simulation most rose d (status.Cycles cycles) h = loopless most d cycles false h
  owes_simulation most rose d (status.NotNet offset) h = none offset h.0
  owes_simulation most rose d (status.Loop signal) h = looped (string_bytes signal) h.0
  owes_simulation most rose d (status.Doubt offset name) h = h.0
  owes_simulation most rose d (status.Race first second name) h = h
  owes_simulation most rose d (status.UndefinedStep offset cause) h = h
  owes_simulation most rose d (status.Unknown steps cause) h = h

  ends_so : (owed : Status) (due line : List ℕ) (out err : Passage) (s : Status) → Ends owed due line out err s → TellsSimulation text owed → TellsSimulation text s
  ends_so owed due line out err status.Ok h k = subst (TellsSimulation text) (sym h.0) k
  ends_so owed due line out err (status.Refused r) h k = subst (TellsSimulation text) (sym h.0) k
  ends_so owed due line out err status.Usage h k = subst (TellsSimulation text) (sym h.0) k
  ends_so owed due line out err status.ReadFault h k = tt
  ends_so owed due line out err (status.WriteFault n m) h k = tt
  ends_so owed due line out err status.Memory h k = tt
  ends_so owed due line out err status.Entries h k = subst (TellsSimulation text) (sym h.0) k
  ends_so owed due line out err status.Stuck h k = subst (TellsSimulation text) (sym h.0) k
  ends_so owed due line out err (status.BadEntry index) h k = subst (TellsSimulation text) (sym h.0) k
  ends_so owed due line out err (status.Walked end) h k = subst (TellsSimulation text) (sym h.0) k
  ends_so owed due line out err (status.Cycles cycles) h k = subst (TellsSimulation text) (sym h.0) k
  ends_so owed due line out err (status.NotNet offset) h k = subst (TellsSimulation text) (sym h.0) k
  ends_so owed due line out err (status.Loop signal) h k = subst (TellsSimulation text) (sym h.0) k
  ends_so owed due line out err (status.Doubt offset name) h k = subst (TellsSimulation text) (sym h.0) k
  ends_so owed due line out err (status.Race first second name) h k = subst (TellsSimulation text) (sym h.0) k
  ends_so owed due line out err (status.UndefinedStep offset cause) h k = subst (TellsSimulation text) (sym h.0) k
  ends_so owed due line out err (status.Unknown steps cause) h k = subst (TellsSimulation text) (sym h.0) k

module _ (task : Option Task) (left : Option (List ℕ)) (rose : Type 0) (out err : Passage) (outcome : Outcome) (most : ℕ) (text : List ℕ)
    (h : Answered task left rose out err outcome) (asked : AsksToSimulate most task left text) where
  pub owed_for : OwesAt (Some (Sim most)) (Some text) rose h.owed h.owed.status
  owed_for = subst (λ (l : Option (List ℕ)). OwesAt (Some (Sim most)) l rose h.owed h.owed.status) asked.tells
      (subst (λ (k : Option Task). OwesAt k left rose h.owed h.owed.status) asked.asks h.owes)

  pub simulates : TellsSimulation text outcome.status
  simulates = ends_so text h.owed.status h.owed.out h.owed.err out err outcome.status h.ends (owes_simulation text most rose h.owed h.owed.status owed_for)

-- ---- the causes of its own answers

module _ (task : Option Task) (left : Option (List ℕ)) (rose : Type 0) (out err : Passage) (outcome : Outcome) (h : Answered task left rose out err outcome) where
  ended : (s : Status) → outcome.status ≡ s → Ends h.owed.status h.owed.out h.owed.err out err s
  ended s e = subst (λ (t : Status). Ends h.owed.status h.owed.out h.owed.err out err t) e h.ends

  owed_so : (s : Status) → s ≡ h.owed.status → OwesAt task left rose h.owed s
  owed_so s e = subst (λ (t : Status). OwesAt task left rose h.owed t) (sym e) h.owes

  pub tells_not_net : (offset : ℕ) → outcome.status ≡ status.NotNet offset → IsNotNetOf task left offset
  tells_not_net offset e = (owed_so (status.NotNet offset) (ended (status.NotNet offset) e).0).0

  pub tells_loop : (signal : String Global) → outcome.status ≡ status.Loop signal → HasLoopOf task left (string_bytes signal)
  tells_loop signal e = (owed_so (status.Loop signal) (ended (status.Loop signal) e).0).0

  pub tells_doubt : (offset : ℕ) (name : String Global) → outcome.status ≡ status.Doubt offset name → IsDoubtOf task left offset (string_bytes name)
  tells_doubt offset name e = (owed_so (status.Doubt offset name) (ended (status.Doubt offset name) e).0).0
