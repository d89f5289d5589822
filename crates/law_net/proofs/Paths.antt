-- Where modules stand in a net whose outermost module has one instance: those of the instance's own net, behind a 0.
use Rattle.std.proofs.Common.{◌≡◌, ℕ, zero, suc, List, [], ◌∷◌, ◌++◌, Some, refl, sym, ap, ◌∙◌, subst}
use Rattle.std.specs.Prelude.{slice_get, option_and_then}
use Rattle.std.proofs.lemmas.Option.{same_Some, none-some}
use Rattle.netlist.specs.declared.netlist.Signal.{Signal}
use Rattle.netlist.specs.declared.netlist.Memory.{Memory}
use Rattle.netlist.specs.declared.netlist.Instance.{Instance}
use Rattle.netlist.specs.declared.netlist.Module.{Module}
use Rattle.verilog_meaning.specs.Cycles.{Path, module_at, instance_at, IsAt, HasMemory}
use Rattle.circuit.proofs.Staged.{from_then}

-- the path of what stands at a path in the instance
abbrev pub inside : Path → Path
inside path = path ++ 0 ∷ []

-- the one instance of the wrapper is one of top
pub record IsWrapper (modules : List Module) (wrapper top : Module) : Type 0 where
  pub instance : Instance
  pub only : wrapper.instances ≡ instance ∷ []
  pub of : slice_get modules instance.of ≡ Some top

module _ (modules : List Module) (wrapper top : Module) (is : IsWrapper modules wrapper top) where
  pub module_inside : (path : Path) → module_at modules wrapper (inside path) ≡ module_at modules top path
  module_inside [] = ap (λ (ns : List Instance). option_and_then (λ (n : Instance). slice_get modules n.of) (slice_get ns 0)) is.only ∙ is.of
  module_inside (i ∷ path) =
      ap (option_and_then (λ (m : Module). option_and_then (λ (n : Instance). slice_get modules n.of) (slice_get m.instances i))) (module_inside path)

  pub instance_inside : (path : Path) (i : ℕ) → instance_at modules wrapper (inside path) i ≡ instance_at modules top path i
  instance_inside path i = ap (option_and_then (λ (m : Module). slice_get m.instances i)) (module_inside path)

  pub signal_inside : (path : Path) (m : Module) (x : ℕ) (s : Signal) → IsAt modules top path m x s → IsAt modules wrapper (inside path) m x s
  signal_inside path m x s at = record { stands = module_inside path ∙ at.stands; listed = at.listed }

  pub memory_inside : (path : Path) (m : Module) (j : ℕ) (s : Memory) → HasMemory modules top path m j s → HasMemory modules wrapper (inside path) m j s
  memory_inside path m j s at = record { stands = module_inside path ∙ at.stands; listed = at.listed }

  -- ---- nothing else stands there

  data Spot (p : Path) : Type 0 where
    outermost : p ≡ [] → Spot p
    within : (path : Path) → p ≡ inside path → Spot p

  first_only : (i : ℕ) (n : Instance) → slice_get (is.instance ∷ []) i ≡ Some n → i ≡ 0
  first_only zero n e = refl
  first_only (suc i) n e = absurd (none-some n e)

  deeper : (i : ℕ) (outer : Path) (k : Module) (n : Instance) → module_at modules wrapper outer ≡ Some k → slice_get k.instances i ≡ Some n → Spot outer → Spot (i ∷ outer)
  deeper i outer k n stands listed (within path e) = within (i ∷ path) (ap (λ (z : Path). i ∷ z) e)
  deeper i outer k n stands listed (outermost e) =
      let same : wrapper ≡ k = same_Some wrapper k (ap (module_at modules wrapper) (sym e) ∙ stands) in
      let there : slice_get (is.instance ∷ []) i ≡ Some n =
      ap (λ (ns : List Instance). slice_get ns i) (sym is.only) ∙ ap (λ (z : Module). slice_get z.instances i) same ∙ listed in
      within [] (ap (λ (z : ℕ). z ∷ outer) (first_only i n there) ∙ ap (λ (z : Path). 0 ∷ z) e)

  spot : (p : Path) (m : Module) → module_at modules wrapper p ≡ Some m → Spot p
  spot [] m e = outermost refl
  spot (i ∷ outer) m e =
      let a = from_then (λ (k : Module). option_and_then (λ (n : Instance). slice_get modules n.of) (slice_get k.instances i)) (module_at modules wrapper outer) m e in
      let b = from_then (λ (n : Instance). slice_get modules n.of) (slice_get a.0.instances i) m a.2 in
      deeper i outer a.0 b.0 a.1 b.1 (spot outer a.0 a.1)

  -- what holds of the wrapper, and of each module inside, holds of each module
  pub each_spot : (P : Path → Module → Type 0) → P [] wrapper → ((path : Path) (m : Module) → module_at modules top path ≡ Some m → P (inside path) m)
      → (p : Path) (m : Module) → module_at modules wrapper p ≡ Some m → P p m
  each_spot P own each p m stands = by_spot (spot p m stands)
    where
      by_spot : Spot p → P p m
      by_spot (outermost e) =
          let same : wrapper ≡ m = same_Some wrapper m (ap (module_at modules wrapper) (sym e) ∙ stands) in
          subst (λ (z : Module). P p z) same (subst (λ (z : Path). P z wrapper) (sym e) own)
      by_spot (within path e) =
          subst (λ (z : Path). P z m) (sym e) (each path m (sym (module_inside path) ∙ ap (module_at modules wrapper) (sym e) ∙ stands))
