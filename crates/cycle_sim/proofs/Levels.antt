-- A net whose steps stand in order has levels: the number of the step that gives a signal its word.
use Rattle.std.specs.Prelude.{◌≡◌, ℕ, ◌+◌, ◌<◌, Bool, List, [], ◌∷◌, map, Some, slice_get, refl}
use Rattle.std.proofs.Common.{ap, sym, ◌∙◌, subst}
use Rattle.netlist.specs.declared.netlist.Source.{Source}
use Rattle.netlist.specs.declared.netlist.Source.TheVariants.{Input, Register, Assigned, Port}
use Rattle.netlist.specs.declared.netlist.Signal.{Signal}
use Rattle.netlist.specs.declared.netlist.Module.{Module}
use Rattle.verilog_meaning.specs.Cycles.{Path, module_at, instance_at, connected, IsAt}
use Rattle.verilog_meaning.specs.Threads.{Place, Names, operands}
use Rattle.verilog_meaning.proofs.OneSettled.{IsDeclared, IsLevelled}
use Rattle.circuit.specs.Modules.{Has as HasWidth}
use Rattle.circuit.specs.Nets.{FitsSource, FitsNet}
use Rattle.circuit.proofs.Tables.{operand_of}
use Rattle.sim_values.specs.declared.settle.Feed.TheVariants.{Copied, Computed}
use Rattle.sim_values.specs.declared.settle.Step.{Step}
use Rattle.sim_values.specs.declared.edge.Part.{Part}
use Rattle.circuit.specs.Rows.{EachOf}
use Rattle.sim_values.specs.Order.{rank}
use Rattle.sim_values.specs.Stands.{word_of, spot_at, kind_at, step, StandsFor, IsPlan}
use Rattle.sim_values.proofs.Settles.{each_one}
use Rattle.cycle_sim.proofs.StepReads.{lower, computed_reads}

pair_is : (q : Place) (path : Path) (x : ℕ) → q.0 ≡ path → q.1 ≡ x → q ≡ (path, x)
pair_is q path x e f = let whole : Path → ℕ → Place = λ a b. (a, b) in ap (λ a. whole a q.1) e ∙ ap (whole path) f

module _ (modules : List Module) (top : Module) (parts : List Part) (steps : List Step) (free : List Bool) (most n : ℕ) (plan : IsPlan modules top parts steps free most n)
    (fits : FitsNet modules top) where
  abbrev pub level : Path → ℕ → ℕ
  level path x = rank 0 steps (word_of parts path x)

  abbrev Lower : Path → ℕ → Place → Type 0
  Lower path x q = IsDeclared modules top q × (level q.0 q.1 < level path x)

  -- a signal of a width is declared
  there : (path : Path) (m : Module) (y w : ℕ) → module_at modules top path ≡ Some m → HasWidth m y w → IsDeclared modules top (path, y)
  there path m y w stands has = record { holder = m; signal = has.signal; at = record { stands = stands; listed = has.listed } }

  source_lower : (path : Path) (m : Module) (x : ℕ) (s : Signal) → IsAt modules top path m x s → (source : Source) → s.source ≡ source
      → StandsFor modules top parts steps free most path x s.name source → FitsSource modules top path m x s.width source → (q : Place) → Names modules top path x source q → Lower path x q
  source_lower path m x s at (Register r) e has g q names = absurd names
  source_lower path m x s at (Assigned right) e has g q names =
      let below : EachOf (λ y. rank 0 steps y < level path x) (map (λ y. (spot_at parts path).base + y) (operands right)) =
      subst (EachOf (λ y. rank 0 steps y < level path x)) (computed_reads modules top parts steps free most n plan path m x s right at e)
      (lower modules top parts steps free most n plan (step (word_of parts path x) (Computed (kind_at parts path) x (spot_at parts path))) has) in
      let has_width = operand_of (HasWidth m) (λ j. slice_get m.memories j) s.width right g q.1 names.1 in
      subst (Lower path x) (sym (pair_is q path q.1 names.0 refl))
      (there path m q.1 has_width.0 at.stands has_width.1, each_one (λ p. rank 0 steps p < level path x) (spot_at parts path).base (operands right) below q.1 names.1)
  source_lower path m x s at (Port i port) e has g q names =
      subst (Lower path x) (sym (pair_is q (i ∷ path) port names.0 names.1))
      (there (i ∷ path) g.0 port s.width g.1 g.2, (lower modules top parts steps free most n plan (step (word_of parts path x) (Copied (word_of parts (i ∷ path) port))) has).0)
  source_lower [] m x s at Input e has g q names = absurd names
  source_lower (i ∷ outer) m x s at Input e has g q names =
      let from = connected modules top (instance_at modules top outer i) x in
      subst (Lower (i ∷ outer) x) (sym (pair_is q outer from names.0 names.1))
      (there outer g.0 from s.width g.1 g.2, (lower modules top parts steps free most n plan (step (word_of parts (i ∷ outer) x) (Copied (word_of parts outer from))) has).0)

  pub levelled : IsLevelled modules top level
  levelled path m x s at q names = source_lower path m x s at s.source refl (plan.feeds path m x s at) (fits path m x s at) q names
