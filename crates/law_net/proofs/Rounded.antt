-- `top_rr` stands beside `top`, and does what it does.
use Rattle.std.proofs.Common.{◌≡◌, ℕ, ◌^◌, ◌-◌, ◌≤◌, ◌⊎◌, true, false, List, [], ◌∷◌, length, Some, refl, sym, ap, ◌∙◌, inl, inr, ⊎_elim, arith}
use Rattle.std.specs.Prelude.{slice_get, codes}
use Rattle.verilog_tree.specs.declared.tree.BinaryOperator.TheVariants.{Add}
use Rattle.netlist.specs.declared.netlist.Module.{Module}
use Rattle.netlist.specs.declared.netlist.Netlist.{Netlist}
use Rattle.netlist.specs.declared.netlist.Signal.{Signal}
use Rattle.netlist.specs.declared.netlist.Source.{Source}
use Rattle.netlist.specs.declared.netlist.Source.TheVariants.{Input, Register, Assigned, Port}
use Rattle.netlist.specs.declared.netlist.Value.TheVariants.{Constant, Binary, Concatenation}
use Rattle.verilog_meaning.specs.Ports.{HasDone, TakesInput}
use Rattle.circuit.specs.Rows.{EachOf}
use Rattle.circuit.proofs.Filters.{each_there}
use Rattle.sim_layout.specs.Rounds.{prefs_of}
use Rattle.top_parts.specs.declared.layout.Layout.{Layout}
use Rattle.top_wiring.specs.Sound.{AreSound}
use Rattle.top_wiring.specs.Round.{inner, round_signals}
use Rattle.top_wiring.specs.Top.{input, output}
use Rattle.top_wiring.specs.Wired.{IsWired}
use Rattle.law_net.specs.Rounded.{RoundsStand}
use Rattle.law_net.proofs.Alike.{writes_as_top}
use Rattle.law_net.proofs.Found.{round_is_found}
use Rattle.law_net.proofs.Stepped.{prefs_enough}

-- ---- ports

abbrev IsPort : Signal → Type 0
IsPort s = (s.source ≡ Input) ⊎ (s.is_output ≡ true)

abbrev IsNamed : Signal → Type 0
IsNamed s = (s.name ≡ codes "clk") ⊎ (s.name ≡ codes "done")

-- what is driven within, and is no output, is no port
within : (stem : List ℕ) (place width : ℕ) (source : Source) → (source ≡ Input → ⊥) → IsPort (inner stem place width source) → IsNamed (inner stem place width source)
within stem place width source driven port = absurd (⊎_elim driven (λ (out : false ≡ true). cc) port)

ports : (n done : ℕ) → EachOf (λ s. IsPort s → IsNamed s) (round_signals n done)
ports n done = (
  (λ port. inl refl),
  (
    within (codes "counter") 1 4 (Register 0) (λ (e : Register 0 ≡ Input). cc),
    (
      within (codes "w") 2 4 (Assigned (Constant 1)) (λ (e : Assigned (Constant 1) ≡ Input). cc),
      (
        within (codes "w") 3 4 (Assigned (Binary Add 1 2)) (λ (e : Assigned (Binary Add 1 2) ≡ Input). cc),
        (
          within (codes "w") 4 n (Assigned (Constant (2 ^ n - 1))) (λ (e : Assigned (Constant (2 ^ n - 1)) ≡ Input). cc),
          (
            within (codes "w") 5 1 (Port 0 done) (λ (e : Port 0 done ≡ Input). cc),
            (
              within (codes "w") 6 2 (Assigned (Constant 0)) (λ (e : Assigned (Constant 0) ≡ Input). cc),
              (
                within (codes "w") 7 6 (Assigned (Concatenation (6 ∷ 1 ∷ []))) (λ (e : Assigned (Concatenation (6 ∷ 1 ∷ [])) ≡ Input). cc),
                (
                  (λ port. inr refl),
                  tt,
                ),
              ),
            ),
          ),
        ),
      ),
    ),
  ),
)

module _ (layout : Layout) (modules : List Module) (n : Netlist) (w : IsWired modules layout n) (sound : AreSound layout modules) where
  -- the clock is the first signal
  clock : TakesInput w.round (codes "clk") 1
  clock = record {
    place = 0;
    signal = input (codes "clk") 1;
    is = record { listed = ap (λ (ss : List Signal). slice_get ss 0) w.is_round.signals; named = refl };
    input = refl;
    wide = refl;
  }

  -- done is the last signal
  shows : HasDone w.round
  shows = record {
    place = 8;
    signal = output 5;
    is = record { listed = ap (λ (ss : List Signal). slice_get ss 8) w.is_round.signals; named = refl };
    out = refl;
    bit = refl;
  }

  only : (x : ℕ) (s : Signal) → slice_get w.round.signals x ≡ Some s → IsPort s → IsNamed s
  only x s e =
      each_there (λ (s : Signal). IsPort s → IsNamed s) (round_signals (length layout.threads) (length w.top.signals - 1)) (ports (length layout.threads) (length w.top.signals - 1)) x s
      (sym (ap (λ (ss : List Signal). slice_get ss x) w.is_round.signals) ∙ e)

  few : length layout.cores ≤ 2 ^ 64
  few = let s = sound.small.few_cores in omega (arith, s)

  enough : length layout.cores ≤ prefs_of n.modules
  enough = prefs_enough layout modules n w (λ k m e. (sound.no_top k m e).0) few

pub rounds_stand : RoundsStand
rounds_stand layout modules n w sound = record {
  round = w.round;
  is_round = round_is_found layout modules n w (λ k m e. (sound.no_top k m e).1);
  clock = clock layout modules n w sound;
  shows = shows layout modules n w sound;
  only = only layout modules n w sound;
  writes = writes_as_top layout modules n w (prefs_of n.modules) (enough layout modules n w sound);
}
