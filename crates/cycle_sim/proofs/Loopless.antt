-- In a net whose steps are in order no signal depends on itself.
use Rattle.std.specs.Prelude.{◌≡◌, ℕ, ◌<◌, Bool, List, [], ◌∷◌, refl}
use Rattle.std.proofs.Common.{sym, subst, arith}
use Rattle.netlist.specs.declared.netlist.Source.{Source}
use Rattle.netlist.specs.declared.netlist.Source.TheVariants.{Input, Register, Assigned, Port}
use Rattle.netlist.specs.declared.netlist.Signal.{Signal}
use Rattle.netlist.specs.declared.netlist.Module.{Module}
use Rattle.verilog_meaning.specs.Cycles.{Path, instance_at, connected, IsAt}
use Rattle.verilog_meaning.specs.Threads.{Place, Names, Depends, operands}
use Rattle.verilog_meaning.specs.Threads.Depends.{directly, through}
use Rattle.sim_values.specs.declared.settle.Feed.TheVariants.{Copied, Computed}
use Rattle.sim_values.specs.declared.settle.Step.{Step}
use Rattle.sim_values.specs.declared.edge.Part.{Part}
use Rattle.circuit.specs.Rows.{EachOf}
use Rattle.sim_values.specs.Order.{rank}
use Rattle.sim_values.specs.Stands.{word_of, spot_at, kind_at, step, StandsFor, IsPlan}
use Rattle.sim_values.proofs.Settles.{each_one}
use Rattle.cycle_sim.proofs.StepReads.{lower, computed_reads}

module _ (modules : List Module) (top : Module) (parts : List Part) (steps : List Step) (free : List Bool) (most n : ℕ) (plan : IsPlan modules top parts steps free most n) where
  abbrev level : Place → ℕ
  level p = rank 0 steps (word_of parts p.0 p.1)

  names_lower : (path : Path) (m : Module) (x : ℕ) (s : Signal) → IsAt modules top path m x s → (source : Source) → s.source ≡ source
      → StandsFor modules top parts steps free most path x s.name source → (q : Place) → Names modules top path x source q → level q < level (path, x)
  names_lower path m x s at (Register k) e has q names = absurd names
  names_lower path m x s at (Assigned right) e has q names =
      let base = (spot_at parts path).base in
      let below = subst (EachOf (λ y. rank 0 steps y < level (path, x))) (computed_reads modules top parts steps free most n plan path m x s right at e) (lower modules top parts steps free most n plan (step (word_of parts path x) (Computed (kind_at parts path) x (spot_at parts path))) has) in
      subst (λ (p : Path). rank 0 steps (word_of parts p q.1) < level (path, x)) (sym names.0)
      (each_one (λ p. rank 0 steps p < level (path, x)) base (operands right) below q.1 names.1)
  names_lower path m x s at (Port i port) e has q names =
      let l = (lower modules top parts steps free most n plan (step (word_of parts path x) (Copied (word_of parts (i ∷ path) port))) has).0 in
      subst (λ (p : Path). rank 0 steps (word_of parts p q.1) < level (path, x)) (sym names.0)
      (subst (λ y. rank 0 steps (word_of parts (i ∷ path) y) < level (path, x)) (sym names.1) l)
  names_lower [] m x s at Input e has q names = absurd names
  names_lower (i ∷ outer) m x s at Input e has q names =
      let from = connected modules top (instance_at modules top outer i) x in
      let l = (lower modules top parts steps free most n plan (step (word_of parts (i ∷ outer) x) (Copied (word_of parts outer from))) has).0 in
      subst (λ (p : Path). rank 0 steps (word_of parts p q.1) < level (i ∷ outer, x)) (sym names.0)
      (subst (λ y. rank 0 steps (word_of parts outer y) < level (i ∷ outer, x)) (sym names.1) l)

  depends_lower : {p q : Place} → Depends modules top p q → level q < level p
  depends_lower (directly {path = path} {m = m} {x = x} {s = s} {q = q} at names) = names_lower path m x s at s.source refl (plan.feeds path m x s at) q names
  depends_lower (through d e) = let a = depends_lower d in let b = depends_lower e in omega arith

  -- no signal depends on itself
  pub loopless : (p : Place) → Depends modules top p p → ⊥
  loopless p d = let l = depends_lower d in absurd (omega arith)
