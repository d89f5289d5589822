-- A simulator of a net, in the case of a run.
use Rattle.std.specs.Prelude.{◌≡◌, ℕ, ◌<◌, ◌≤◌, List, refl}
use Rattle.std.proofs.Common.{sym, ◌∙◌, ap, subst}
use Rattle.netlist.specs.declared.netlist.Module.{Module}
use Rattle.verilog_meaning.specs.Names.{top_of}
use Rattle.sim_layout.specs.Rounds.{threads_of}
use Rattle.sim_layout.specs.Running.{Running}
use Rattle.cycle_sim.specs.Opened.{IsOpened}
use Rattle.slot_sim.specs.Slots.{IsThreadedIn}
use Rattle.grant_journal.specs.Boards.{Frame}

module _ (modules : List Module) (first : Running) (opened : IsOpened modules first) where
  pub frame_of : (threads : ℕ) → IsThreadedIn modules threads → 0 < threads → threads ≤ 64 → threads ≡ threads_of modules → Frame first.modules threads first
  frame_of threads threaded any few many = record {
    top = opened.top;
    is_top = ap top_of opened.net ∙ opened.is_top;
    threaded = subst (λ (ms : List Module). IsThreadedIn ms threads) (sym opened.net) threaded opened.top (ap top_of opened.net ∙ opened.is_top);
    any = any;
    few = few;
    many = ap threads_of opened.net ∙ sym many;
    same = refl;
  }

  pub opened_first : IsOpened first.modules first
  opened_first = subst (λ (ms : List Module). IsOpened ms first) (sym opened.net) opened
