-- The input ports.
use Rattle.std.proofs.Common.{◌≡◌, ℕ, ◌+◌, ◌<◌, false, List, length, map, slice_get, sym, ap, subst, ◌∙◌, arith}
use Rattle.std.specs.Prelude.{option_map, replicate}
use Rattle.std.proofs.lemmas.List.{length-map, length-replicate}
use Rattle.std.proofs.lemmas.Option.{slice_get-map, get_or_from_slice_get}
use Rattle.lists.proofs.Places.{get_last, copies_there}
use Rattle.netlist.specs.declared.netlist.Source.TheVariants.{Input}
use Rattle.netlist.specs.declared.netlist.Signal.{Signal}
use Rattle.operator_wires.specs.declared.wires.Role.TheVariants.{Clock}
use Rattle.operator_wires.specs.Gives.{Stands}
use Rattle.operator_wires.specs.Built.{Lays}
use Rattle.operator_wires.proofs.PutSignals.{grows_then, listed}
use Rattle.block_datapath.specs.declared.registers.Held.{Held}
use Rattle.thread_slots.specs.declared.inputs.Inputs.{Inputs}
use Rattle.thread_slots.specs.Slots.{StandsAt, LaysAll}
use Rattle.thread_slots.specs.Inputs.{LaysInputs}
use Rattle.thread_slots.proofs.LaidRegisters.{stands_last, stands_grow, stands_long, stands_later}

-- ---- inputs

-- the clock and the enable, and behind them a grant of each core
pub inputs_laid : (a b c d : List Signal) (cores clock enable : ℕ) (ones : List ℕ) (held list : List Held) (inputs : Inputs) → Stands a b 1 Input clock
    → Stands b c 1 Input enable → inputs.enable ≡ enable → ones ≡ replicate cores 1 → LaysAll Input c d ones (length ones) held → list ≡ held
    → inputs.grants ≡ map (λ (h : Held). h.register) list → Lays a b Clock 1 false Input clock → LaysInputs cores a d inputs
inputs_laid a b c d cores clock enable ones held list inputs t u e ones_are v list_is grants_are laid =
    let b_long = stands_long a b 1 clock Input t in
    let c_long = stands_long b c 1 enable Input u in
    let d_long = v.long in
    let count : length ones ≡ cores = ap length ones_are ∙ length-replicate cores 1 in
    let at : length c ≡ length a + 2 = omega arith in
    let to_d = v.grows in
    let from_b = grows_then b c d (stands_grow b c 1 enable Input u) to_d in
    let grants : inputs.grants ≡ map (λ (h : Held). h.register) held = grants_are ∙ ap (map (λ (h : Held). h.register)) list_is in
    record {
      grows = grows_then a b d (stands_grow a b 1 clock Input t) from_b;
      long = omega arith;
      clock = stands_later b d (length a) 1 Input from_b (stands_last a b 1 clock Input t);
      clock_named = λ s there.
          let here = listed b d (length a) laid.signal from_b (ap (λ l. slice_get l (length a)) laid.is ∙ get_last a laid.signal) in
          let same : laid.signal ≡ s = cc in
          ap (λ (z : Signal). z.name) (sym same) ∙ laid.named;
      enable = e ∙ u.last ∙ b_long;
      enable_stands = stands_later c d (length a + 1) 1 Input to_d (subst (λ (x : ℕ). StandsAt c x 1 Input) b_long (stands_last b c 1 enable Input u));
      count = ap length grants ∙ length-map held (λ (h : Held). h.register) ∙ v.count ∙ count;
      grants = λ k less.
          let f = v.each k 1 (subst (λ n. k < n) (sym count) less) (ap (λ l. slice_get l k) ones_are ∙ copies_there cores 1 k less) in
          get_or_from_slice_get inputs.grants k f.0.register 0
          (ap (λ l. slice_get l k) grants ∙ slice_get-map (λ (h : Held). h.register) held k ∙ ap (option_map (λ (h : Held). h.register)) f.1)
          ∙ f.3
          ∙ ap (λ n. n + k) at;
      grants_stand = λ k less.
          let f = v.each k 1 (subst (λ n. k < n) (sym count) less) (ap (λ l. slice_get l k) ones_are ∙ copies_there cores 1 k less) in
          subst (λ n. StandsAt d (n + k) 1 Input) at f.4;
    }
