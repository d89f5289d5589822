-- A run of the net of good Verilog under the choices of `top_rr` shows an interleaving.
use Rattle.std.proofs.Common.{◌≡◌, ℕ, List, [], length, take, sym, ◌∙◌, subst, arith}
use Rattle.std.specs.Prelude.{Bool}
use Rattle.std.proofs.lemmas.Bool.{eqb-true, eq-eqb}
use Rattle.std.proofs.lemmas.List.{take_all}
use Rattle.std.proofs.lemmas.Option.{same_Some}
use Rattle.c_program.specs.Tree.{Program}
use Rattle.c_program.specs.Weight.{thread_count}
use Rattle.thread_semantics.specs.Races.{IsGood}
use Rattle.verilog_tree.specs.declared.tree.Net.{Net}
use Rattle.verilog_tree.specs.Reads.{Reads}
use Rattle.verilog_rules.proofs.OneNet.{reads_one}
use Rattle.netlist.specs.declared.netlist.Module.{Module}
use Rattle.netlist.specs.NetlistOf.{netlist_of}
use Rattle.verilog_meaning.specs.Cycles.{Choice, Reaches, ShowsDone}
use Rattle.verilog_meaning.specs.Threads.{all_enabled}
use Rattle.sim_layout.specs.Rounds.{Tells, prefs_of}
use Rattle.cycle_sim.specs.Round.{IsRound, turns}
use Rattle.cycle_sim.proofs.RoundChoices.{rounds_are_choices}
use Rattle.good_verilog.specs.GoodVerilog.{IsGoodVerilog}
use Rattle.commands_follow.specs.Shown.{HasPrinted}

module _ (P : Program) (text : List ℕ) (good : IsGoodVerilog P text) (is : IsGood P) (most cycles : ℕ) (done : Bool) (out : List ℕ)
    (r : IsRound (netlist_of good.net).modules (thread_count P) most cycles done out) where
  shown : HasPrinted P out done
  shown =
      let modules = (netlist_of good.net).modules in
      let threads = thread_count P in
      let choices = turns modules threads cycles in
      let all = all_enabled threads [] in
      let same : r.top ≡ good.top = same_Some r.top good.top (sym r.is_top ∙ good.is_top) in
      let reached = subst (λ (t : Module). Reaches modules t choices r.state out) same r.turned in
      let tells = subst (λ (t : Module). Tells modules t threads r.state done) same r.tells in
      let f = good.follows is choices (rounds_are_choices threads (prefs_of modules) cycles) in
      let whole : take (length choices) choices ≡ choices = take_all (length choices) choices (omega arith) in
      let m = f.matches (length choices) r.state out (omega arith) (subst (λ (cs : List Choice). Reaches modules good.top cs r.state out) (sym whole) reached) in
      record {
        steps = take (f.steps (length choices)) f.interleaving;
        state = m.state;
        after = m.after;
        printed = m.printed;
        ended = (
          λ is_done. m.done.0 (subst (λ n. ShowsDone modules good.top r.state all n) (eqb-true tells.0 1 (sym tells.2 ∙ is_done)) tells.1),
          λ ended. tells.2 ∙ eq-eqb tells.0 1 (good.determined.done r.state all all tells.0 1 tells.1 (m.done.1 ended)),
        );
      }

-- of whatever net the text reads as
pub step_shown : (P : Program) (text : List ℕ) (net : Net) → IsGood P → IsGoodVerilog P text → Reads text net → (most cycles : ℕ) (done : Bool) (out : List ℕ)
    → IsRound (netlist_of net).modules (thread_count P) most cycles done out → HasPrinted P out done
step_shown P text net is good reads most cycles done out r =
    shown P text good is most cycles done out
    (subst (λ (n : Net). IsRound (netlist_of n).modules (thread_count P) most cycles done out) (sym (reads_one text good.net net good.reads reads)) r)
