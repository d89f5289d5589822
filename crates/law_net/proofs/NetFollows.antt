-- The net follows the program where its machine does: from the state at the start as from each fresh one.
use Rattle.std.proofs.Common.{ℕ, List, subst}
use Rattle.c_program.specs.Tree.{Program}
use Rattle.thread_semantics.specs.Races.{IsGood}
use Rattle.netlist.specs.declared.netlist.Module.{Module}
use Rattle.verilog_meaning.specs.Cycles.{Choice, initial_state}
use Rattle.verilog_meaning.specs.Follows as net
use Rattle.verilog_meaning.specs.Follows.{IsDetermined, FollowsAlways}
use Rattle.good_verilog.specs.Program.{seen_of}
use Rattle.law_cycle.specs.Built.{Parts}
use Rattle.law_net.specs.Follows.{first_machine}
use Rattle.law_net.specs.From.{FollowsFrom}
use Rattle.law_net.specs.Whole.{IsWhole, RunsExist, NetFollows}
use Rattle.law_net.proofs.MachineFollows.{machine_follows}
use Rattle.law_net.proofs.Determined.{determined}
use Rattle.law_net.proofs.Cycles.{initial_shows, initial_is_state}
use Rattle.law_net.proofs.NetFollowsFrom.{net_follows_it}
use Rattle.law_net.proofs.RunsExist.{runs_exist}

module _ (P : Program) (K : Parts) (modules : List Module) (top : Module) (whole : IsWhole P K modules top) where
  from_start : (choices : List Choice) → FollowsFrom modules top K.cores.threads (seen_of P) (initial_state modules top) choices
      → net.Follows modules top K.cores.threads (seen_of P) choices
  from_start choices f = record {
    interleaving = f.interleaving;
    steps = f.steps;
    rises = f.rises;
    rests = f.rests;
    matches = λ n h out l reaches.
        let q = f.matches n h out l reaches in record {
          state = q.state;
          after = q.after;
          printed = q.printed;
          done = q.done;
          globals = q.globals;
          progress = q.progress;
        };
  }

  follows_all : IsDetermined modules top K.cores.threads × RunsExist modules top K.cores.threads × (IsGood P → FollowsAlways modules top K.cores.threads (seen_of P))
  follows_all = (
    determined P K modules top whole,
    λ choices all. runs_exist P K modules top whole choices all,
    λ good choices all.
        from_start choices
        (net_follows_it P K modules top whole (initial_state modules top) (initial_is_state P K modules top whole) (first_machine K) (initial_shows P K modules top whole)
        choices (machine_follows P K whole.built good choices)),
  )

pub net_follows : NetFollows
net_follows P K modules top whole =
    subst (λ (n : ℕ). IsDetermined modules top n × RunsExist modules top n × (IsGood P → FollowsAlways modules top n (seen_of P))) whole.built.threads
    (follows_all P K modules top whole)
