-- Two runs of a net that settles each state in one way end alike.
use Rattle.std.proofs.Common.{◌≡◌, ℕ, ◌<◌, ◌≤◌, Bool, false, List, [], Some, ap, arith, sym, subst, ◌∙◌, ⊎_elim}
use Rattle.std.specs.Prelude.{◌⊎◌, nat_eq}
use Rattle.std.proofs.lemmas.Option.{same_Some}
use Rattle.std.proofs.lemmas.Bool.{cases_order}
use Rattle.netlist.specs.declared.netlist.Module.{Module}
use Rattle.netlist.specs.NetlistOf.{netlist_of}
use Rattle.verilog_meaning.specs.Names.{top_of}
use Rattle.verilog_meaning.specs.Cycles.{Valuation, Choice, IsSameIn, Reaches, initial_state}
use Rattle.verilog_meaning.specs.Threads.{all_enabled}
use Rattle.verilog_meaning.specs.Follows.{IsDetermined}
use Rattle.circuit.specs.Nets.{FitsStatements}
use Rattle.cycle_sim.proofs.Same.{same_refl, shows_moved}
use Rattle.cycle_sim.proofs.Once.{runs_once}
use Rattle.well_formed_net.proofs.Modules.{fits_of_well_formed}
use Rattle.well_formed_net.proofs.Right.{right}
use Rattle.sim_layout.specs.Rounds.{IsGoing, Tells, prefs_of}
use Rattle.cycle_sim.specs.Round.{IsRound, turns}
use Rattle.well_formed_net.specs.ReadAgain.{RunsOnce}

module _ (modules : List Module) (top : Module) (is_top : top_of modules ≡ Some top) (threads most : ℕ) (determined : IsDetermined modules top threads)
    (statements : FitsStatements modules top) where
  -- a run of this outermost module
  record Ran (n : ℕ) (done : Bool) (out : List ℕ) : Type 0 where
    pub within : n ≤ most
    pub going : (k : ℕ) → k < n → IsGoing modules top threads (prefs_of modules) (initial_state modules top) k
    pub state : Valuation
    pub turned : Reaches modules top (turns modules threads n) state out
    pub tells : Tells modules top threads state done
    pub all : done ≡ false → n ≡ most

  ran : (n : ℕ) (done : Bool) (out : List ℕ) → IsRound modules threads most n done out → Ran n done out
  ran n done out r =
      let same = same_Some r.top top (sym r.is_top ∙ is_top) in
      record {
        within = r.within;
        going = subst (λ (t : Module). (k : ℕ) → k < n → IsGoing modules t threads (prefs_of modules) (initial_state modules t) k) same r.going;
        state = r.state;
        turned = subst (λ (t : Module). Reaches modules t (turns modules threads n) r.state out) same r.turned;
        tells = subst (λ (t : Module). Tells modules t threads r.state done) same r.tells;
        all = r.all;
      }

  -- the same choices lead to one state and write the same
  ends_same : (choices : List Choice) (g k : Valuation) (out more : List ℕ) → Reaches modules top choices g out → Reaches modules top choices k more
      → IsSameIn modules top [] g k × (out ≡ more)
  ends_same choices g k out more a b =
      let start = initial_state modules top in runs_once modules top determined.unique statements choices start start g k out more (same_refl modules top start) a b

  tells_same : (g k : Valuation) (b c : Bool) → IsSameIn modules top [] g k → Tells modules top threads g b → Tells modules top threads k c → b ≡ c
  tells_same g k b c same x y =
      let all = all_enabled threads [] in
      x.2 ∙ ap (λ (n : ℕ). nat_eq n 1) (determined.done g all all x.0 y.0 x.1 (shows_moved modules top g k same all y.0 y.1)) ∙ sym y.2

  -- a run does not end where another goes on
  never_less : (n k : ℕ) (done shown : Bool) (out more : List ℕ) → Ran n done out → Ran k shown more → n < k → ⊥
  never_less n k done shown out more a b less =
      let going = b.going n less in
      let same = (ends_same (turns modules threads n) a.state going.state out going.out a.turned going.turned).0 in
      let ended : n ≡ most = a.all (tells_same a.state going.state done false same a.tells going.going) in
      let within = b.within in
      omega (arith, ended, within, less)

  alike : (n : ℕ) (done shown : Bool) (out more : List ℕ) → Ran n done out → Ran n shown more → (done ≡ shown) × (out ≡ more)
  alike n done shown out more a b =
      let same = ends_same (turns modules threads n) a.state b.state out more a.turned b.turned in
      (tells_same a.state b.state done shown same.0 a.tells b.tells, same.1)

  once : (n k : ℕ) (done shown : Bool) (out more : List ℕ) → Ran n done out → Ran k shown more → (n ≡ k) × (done ≡ shown) × (out ≡ more)
  once n k done shown out more a b =
      ⊎_elim
      (λ same.
      let ends = alike n done shown out more a (subst (λ (x : ℕ). Ran x shown more) (sym same) b) in
      (same, ends.0, ends.1))
      (λ other. ⊎_elim (λ less. absurd (never_less n k done shown out more a b less)) (λ less. absurd (never_less k n shown done more out b a less)) other)
      (cases_order n k)

pub runs_alike : RunsOnce
runs_alike net top threads most formed is_top determined n k done shown out more a b =
    let modules = (netlist_of net).modules in
    let statements : FitsStatements modules top = (right modules (fits_of_well_formed net formed) top is_top).statements in
    once modules top is_top threads most determined statements n k done shown out more (ran modules top is_top threads most determined statements n done out a)
    (ran modules top is_top threads most determined statements k shown more b)
