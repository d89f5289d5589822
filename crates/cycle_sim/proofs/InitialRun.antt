-- A run from the initial state of a net.
use Rattle.std.specs.Prelude.{◌≡◌, ℕ, ◌<◌, ◌⊎◌, Bool, true, false, List, []}
use Rattle.std.proofs.Common.{sym, ◌∙◌, subst, ⊎_elim, arith}
use Rattle.std.proofs.lemmas.Option.{same_Some}
use Rattle.netlist.specs.declared.netlist.Module.{Module}
use Rattle.verilog_meaning.specs.Cycles.{Valuation, IsSameIn, Runs, Reaches, ShowsDone, initial_state}
use Rattle.verilog_meaning.specs.Threads.{all_enabled}
use Rattle.sim_layout.specs.Running.{Running, state_of, TellsDone}
use Rattle.sim_layout.specs.Rounds.{threads_of, prefs_of, rounds, Tells}
use Rattle.cycle_sim.specs.Lockstep.{IsLockstep}
use Rattle.cycle_sim.proofs.Same.{runs_from_same}
use Rattle.cycle_sim.proofs.LockstepTurns.{here}
use Rattle.cycle_sim.specs.Round.{IsRound, IsBegun}

module _ (old mid : Running) (most n : ℕ) (out : List ℕ) (is : IsBegun old) (ran : IsLockstep old mid most n [] out) where
  abbrev t : Module
  t = ran.turned.top

  abbrev threads : ℕ
  threads = threads_of old.modules

  same : is.top ≡ t
  same = same_Some is.top t (sym is.is_top ∙ ran.turned.is_top)

  begins : IsSameIn old.modules t [] (initial_state old.modules t) (state_of old)
  begins = subst (λ z. IsSameIn old.modules z [] (initial_state old.modules z) (state_of old)) same is.begins

  -- from the initial state, and with a pref for each input `pref_k`
  from_start : (k : ℕ) (to : Valuation) (bytes : List ℕ) → Runs old.modules t (state_of old) (rounds threads old.prefs k) to bytes
      → Reaches old.modules t (rounds threads (prefs_of old.modules) k) to bytes
  from_start k to bytes runs =
      subst (λ p. Reaches old.modules t (rounds threads p k) to bytes) is.count
      (runs_from_same old.modules t (rounds threads old.prefs k) (initial_state old.modules t) (state_of old) to bytes begins runs)

  round_by : (shown : Bool) → Tells old.modules t threads (state_of mid) shown → (shown ≡ false → n ≡ most) → IsRound old.modules threads most n shown out
  round_by shown tells all = record {
    top = t;
    is_top = ran.turned.is_top;
    within = ran.within;
    going = λ k l. let g = ran.turned.rounds.going k l in record { state = g.state; out = g.out; turned = from_start k g.state g.out g.turned; going = g.going };
    state = state_of mid;
    turned = subst (λ bytes. Reaches old.modules t (rounds threads (prefs_of old.modules) n) (state_of mid) bytes) (sym ran.turned.appended)
        (from_start n (state_of mid) ran.turned.bytes ran.turned.rounds.turned);
    tells = tells;
    all = all;
  }

  -- fewer cycles ran than there were to run
  pub round_done : n < most → IsRound old.modules threads most n true out
  round_done less =
      round_by true (⊎_elim (λ (e : n ≡ most). absurd (omega (arith, e, less))) (λ (told : Tells old.modules t threads (state_of mid) true). told) ran.ends) (λ e. absurd cc)

  -- all ran
  pub round_all : (shown : Bool) → (n < most → ⊥) → TellsDone (all_enabled (threads_of mid.modules) []) mid shown → IsRound old.modules threads most n shown out
  round_all shown last tells =
      let net = ran.turned.net in
      let choice = all_enabled threads [] in
      let under : TellsDone choice mid shown = subst (λ ms. TellsDone (all_enabled (threads_of ms) []) mid shown) net.modules tells in
      let shows = here old mid t ran.turned.is_top net (λ ms z. ShowsDone ms z (state_of mid) choice under.number) under.top under.is_top under.shows in
      round_by shown (under.number, shows, under.is) (λ e. let w = ran.within in let d : (n < most) ⊎ (n ≡ most) = grind arith in ⊎_elim (λ (l : n < most). absurd (last l)) (λ (q : n ≡ most). q) d)
