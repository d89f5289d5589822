-- A net of modules that fit can be opened: its widths fit along all paths.
use Rattle.std.specs.Prelude.{◌≡◌, ℕ, List, [], ◌∷◌, Some, option_and_then, slice_get, refl}
use Rattle.std.proofs.Common.{ap, sym, ◌∙◌, subst, inl, inr, arith}
use Rattle.netlist.specs.declared.netlist.Value.{Value}
use Rattle.netlist.specs.declared.netlist.Value.TheVariants as v
use Rattle.netlist.specs.declared.netlist.Source.{Source}
use Rattle.netlist.specs.declared.netlist.Source.TheVariants as source
use Rattle.netlist.specs.declared.netlist.Signal.{Signal}
use Rattle.netlist.specs.declared.netlist.Argument.{Argument}
use Rattle.netlist.specs.declared.netlist.Argument.TheVariants.{Unsigned, Signed}
use Rattle.netlist.specs.declared.netlist.Effect.{Effect}
use Rattle.netlist.specs.declared.netlist.Effect.TheVariants as effect
use Rattle.netlist.specs.declared.netlist.Action.{Action}
use Rattle.netlist.specs.declared.netlist.Instance.{Instance}
use Rattle.netlist.specs.declared.netlist.Module.{Module}
use Rattle.verilog_meaning.specs.Names.{top_of}
use Rattle.verilog_meaning.specs.Readings.{or_zero, signal_width}
use Rattle.verilog_meaning.specs.Cycles.{Path, module_at, instance_at, connected, IsAt}
use Rattle.verilog_meaning.specs.Threads.{operands, IsOneOf}
use Rattle.circuit.specs.Modules.{Has, FitsValue, FitsArgument, FitsEffect, FitsAction}
use Rattle.circuit.specs.Nets.{FitsSource, FitsNet, FitsStatements}
use Rattle.circuit.proofs.Tables.{operand_of}
use Rattle.well_formed_net.specs.Fitting.{IsFitSource, IsFitModule}
use Rattle.circuit.specs.Rows.{EachOf}
use Rattle.sim_values.specs.Flat.{IsWide, HasRoom, IsNarrowSource, IsNarrowArgument, IsNarrowEffect, IsNarrowAction}
use Rattle.sim_layout.specs.Running.{IsRight}
use Rattle.sim_values.proofs.Settles.{each_from}
use Rattle.cycle_sim.proofs.Right.{held, placed_at}

-- ---- a module

module _ (modules : List Module) (m : Module) (fit : IsFitModule modules m) where
  wide : (x w : ℕ) → Has m x w → IsWide m x
  wide x w h =
      let same = ap signal_width h.listed in
      let is = fit.signals x h.signal h.listed in
      let low = is.low in
      let high = is.high in
      (omega (arith, same, low), omega (arith, same, high))

  room : (a : Value) (w : ℕ) → FitsValue (Has m) (λ j. slice_get m.memories j) w a → HasRoom a
  room (v.Select x high low) w f =
      let h = f.2.1 in
      let most = (fit.signals x h.signal h.listed).high in
      let same = h.wide in
      let less = f.2.2 in
      (f.0, omega (arith, most, same, less))
  room (v.Copy x) w f = tt
  room (v.Constant n) w f = tt
  room (v.BitwiseNot x) w f = tt
  room (v.Binary operator x y) w f = tt
  room (v.SignedLess x y) w f = tt
  room (v.ArithmeticShiftRight x y) w f = tt
  room (v.Conditional c x y) w f = tt
  room (v.Division operator x y) w f = tt
  room (v.SignedDivision operator x y) w f = tt
  room (v.MemoryRead j x) w f = tt
  room (v.Concatenation xs) w f = tt
  room (v.Replication n x) w f = tt

  narrow_source : (s : Source) (w : ℕ) → IsFitSource modules m w s → IsNarrowSource m s
  narrow_source source.Input w f = tt
  narrow_source (source.Register n) w f = tt
  narrow_source (source.Port i port) w f = tt
  narrow_source (source.Assigned a) w f = record {
    wide = each_from (IsWide m) (operands a) (λ x i. let p = operand_of (Has m) (λ j. slice_get m.memories j) w a f x i in wide x p.0 p.1);
    room = room a w f;
  }

  narrow_arguments : (arguments : List Argument) → EachOf (FitsArgument m) arguments → EachOf (IsNarrowArgument m) arguments
  narrow_arguments [] f = tt
  narrow_arguments (Unsigned x ∷ arguments) f = (tt, narrow_arguments arguments f.1)
  narrow_arguments (Signed x ∷ arguments) f = (wide x f.0.0 f.0.1, narrow_arguments arguments f.1)

  narrow_effect : (e : Effect) → FitsEffect m e → IsNarrowEffect m e
  narrow_effect (effect.Set x y) f = tt
  narrow_effect (effect.Store j x y) f = tt
  narrow_effect (effect.Write text arguments) f = narrow_arguments arguments f

  narrow_actions : (actions : List Action) → EachOf (FitsAction m) actions → EachOf (IsNarrowAction m) actions
  narrow_actions [] f = tt
  narrow_actions (a ∷ actions) f = (narrow_effect a.effect f.0.1, narrow_actions actions f.1)

-- ---- a net

module _ (modules : List Module) (fit : (k : ℕ) (m : Module) → slice_get modules k ≡ Some m → IsFitModule modules m) (top : Module) (top_is : top_of modules ≡ Some top) where
  fit_at : (path : Path) (m : Module) → module_at modules top path ≡ Some m → IsFitModule modules m
  fit_at path m at = let k = placed_at modules top top_is path m at in fit k.0 m k.1

  input_fits : (path : Path) (m : Module) (x : ℕ) (s : Signal) → IsAt modules top path m x s → s.source ≡ source.Input → FitsSource modules top path m x s.width source.Input
  input_fits [] m x s at input = tt
  input_fits (i ∷ outer) m x s at input =
      let h = held modules top outer i m at.stands in
      let has = (fit_at outer h.holder h.stands).instances i h.instance h.listed m h.kind x s at.listed input in
      let there : connected modules top (instance_at modules top outer i) x ≡ or_zero (slice_get (h.instance).inputs x) =
      ap (λ o. connected modules top o x) (ap (option_and_then (λ (z : Module). slice_get z.instances i)) h.stands ∙ h.listed) in
      (h.holder, h.stands, subst (λ z. Has h.holder z s.width) (sym there) has)

  source_fits : (path : Path) (m : Module) (x : ℕ) (s : Signal) → IsAt modules top path m x s → (from : Source) → s.source ≡ from → IsFitSource modules m s.width from
      → FitsSource modules top path m x s.width from
  source_fits path m x s at (source.Register n) e f = f
  source_fits path m x s at (source.Assigned a) e f = f
  source_fits path m x s at (source.Port i port) e f = (
    f.of,
    ap (option_and_then (λ (h : Module). option_and_then (λ (c : Instance). slice_get modules c.of) (slice_get h.instances i))) at.stands
        ∙ ap (option_and_then (λ (c : Instance). slice_get modules c.of)) f.listed ∙ f.stands,
    f.has,
  )
  source_fits path m x s at source.Input e f = input_fits path m x s at e

  fits : FitsNet modules top
  fits path m x s at = source_fits path m x s at s.source refl ((fit_at path m at.stands).signals x s at.listed).drives

  statements : FitsStatements modules top
  statements = record { acts = λ path m at. (fit_at path m at).actions; begins = λ path m at. (fit_at path m at).memories }

  pub right : IsRight modules top
  right = record {
    fits = fits;
    narrow = λ path m x s at. ((fit_at path m at.stands).signals x s at.listed).high;
    values = λ k x m s at listed. narrow_source modules m (fit k m at) s.source s.width ((fit k m at).signals x s listed).drives;
    prints = λ k m at. narrow_actions modules m (fit k m at) m.actions (fit k m at).actions;
    statements = statements;
    acts = λ k m at. (fit k m at).actions;
    named = record { instances = (fit_at [] top refl).instances_apart; memories = λ k m at. (fit k m at).memories_apart };
  }
