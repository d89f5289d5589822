-- `hls step` does what top_rr does.
use Rattle.std.proofs.Common.{◌≡◌, ℕ, ◌^◌, ◌≤◌, Bool, false, List, [], ◌∷◌, length, Some, refl, sym, ap, ◌∙◌, subst, arith, append_assoc}
use Rattle.std.specs.Prelude.{codes}
use Rattle.std.proofs.lemmas.Option.{same_Some}
use Rattle.netlist.specs.declared.netlist.Module.{Module}
use Rattle.netlist.specs.declared.netlist.Netlist.{Netlist}
use Rattle.verilog_meaning.specs.Names.{top_of}
use Rattle.verilog_meaning.specs.Cycles.{Valuation, Choice, Reaches, initial_state}
use Rattle.verilog_meaning.specs.Threads.{all_enabled}
use Rattle.verilog_meaning.specs.Follows.{IsDetermined}
use Rattle.sim_layout.specs.Rounds.{enable_width, enables, threads_of, prefs_in, prefs_of, rounds, Tells, IsGoing}
use Rattle.cycle_sim.specs.Round.{turns, IsRound}
use Rattle.top_parts.specs.declared.layout.Layout.{Layout}
use Rattle.top_wiring.specs.Leaves.{SettlesOnce}
use Rattle.top_wiring.specs.Wired.{IsWired}
use Rattle.law_net.specs.Alike.{Ends}
use Rattle.law_net.specs.Found.{HasNo}
use Rattle.law_net.specs.Stepped.{Stops, StepsAsRound}
use Rattle.law_net.proofs.Found.{named_behind}
use Rattle.law_net.proofs.CountedPrefs.{cores_counted}
use Rattle.law_net.proofs.Alike.{ends_as_top}

module _ (layout : Layout) (modules : List Module) (n : Netlist) (w : IsWired modules layout n) (none : HasNo (codes "top") modules) where
  abbrev T : ℕ
  T = length layout.threads

  abbrev K : ℕ
  K = length layout.cores

  abbrev P : ℕ
  P = prefs_of n.modules

  top_there : top_of n.modules ≡ Some w.top
  top_there =
      ap top_of (w.are ∙ append_assoc modules (w.top ∷ []) (w.round ∷ [])) ∙ named_behind modules (codes "top") w.top (w.round ∷ []) none w.is_top.named

  threads_are : threads_of n.modules ≡ T
  threads_are = ap enables top_there ∙ ap enable_width w.is_top.signals

  -- each core has its pref
  pub prefs_enough : K ≤ 2 ^ 64 → K ≤ P
  prefs_enough l =
      let counted = cores_counted layout modules w.top w.is_top l in
      let same = ap prefs_in top_there in
      omega (arith, counted, same)

  module _ (few : K ≤ 2 ^ 64) (settles : SettlesOnce n.modules w.top T) (determined : IsDetermined n.modules w.top T) where
    -- what so many cycles of top tell, those of top_rr do
    told : (choices : List Choice) (last : Choice) (cycles : ℕ) (state : Valuation) (out : List ℕ) (shown : Bool) → length choices ≡ cycles
        → Reaches n.modules w.top (rounds T P cycles) state out → Tells n.modules w.top T state shown → Stops n.modules w.round choices last out shown
    told choices last cycles state out shown e turned tells =
        let run : Ends n.modules w.top (rounds T P (length choices)) (all_enabled T []) out tells.0 =
        (state, subst (λ (k : ℕ). Reaches n.modules w.top (rounds T P k) state out) (sym e) turned, tells.1) in
        (tells.0, (ends_as_top layout modules n w P (prefs_enough few) settles determined choices last out tells.0).1 run, tells.2)

pub steps_as_round : StepsAsRound
steps_as_round layout modules n w none few settles determined most cycles done out ran =
    let T = length layout.threads in
    let r : IsRound n.modules T most cycles done out = subst (λ (t : ℕ). IsRound n.modules t most cycles done out) (threads_are layout modules n w none) ran in
    let same : r.top ≡ w.top = same_Some r.top w.top (sym r.is_top ∙ top_there layout modules n w none) in
    let turned = subst (λ (z : Module). Reaches n.modules z (turns n.modules T cycles) r.state out) same r.turned in
    let tells = subst (λ (z : Module). Tells n.modules z T r.state done) same r.tells in
    record {
      within = r.within;
      going = λ choices last l.
          let g = subst (λ (z : Module). IsGoing n.modules z T (prefs_of n.modules) (initial_state n.modules z) (length choices)) same (r.going (length choices) l) in
          (g.out, told layout modules n w none few settles determined choices last (length choices) g.state g.out false refl g.turned g.going);
      ended = λ choices last e. told layout modules n w none few settles determined choices last cycles r.state out done e turned tells;
      all = r.all;
    }
