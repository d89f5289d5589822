-- The ports that the modules of threads, cores and the arbiter have for a layout.
use Rattle.std.specs.Prelude.{◌≡◌, ℕ, ◌*◌, ◌<◌, replicate, List, [], ◌∷◌, ◌++◌, length, take, Some, slice_get}
use Rattle.std.specs.List.{flat_map}
use Rattle.netlist.specs.declared.netlist.Module.{Module}
use Rattle.top_parts.specs.declared.layout.Group.{Group}
use Rattle.top_parts.specs.declared.layout.Core.{Core}
use Rattle.top_parts.specs.declared.layout.Layout.{Layout}
use Rattle.top_parts.specs.Parts.{ask_widths, told_widths}

module _ (layout : Layout) where
  abbrev pub threads : ℕ
  threads = length layout.threads

  abbrev pub cores : ℕ
  cores = length layout.cores

  -- how many numbers a thread hands to cores, and how many it is told
  abbrev pub asked : ℕ
  asked = length (ask_widths layout.cores)

  abbrev pub told : ℕ
  told = length (told_widths layout.cores)

  -- the same, of the cores before core k
  abbrev pub asked_before : ℕ → ℕ
  asked_before k = length (ask_widths (take k layout.cores))

  abbrev pub told_before : ℕ → ℕ
  told_before k = length (told_widths (take k layout.cores))

  -- the clock, whether it is enabled, whether each core grants, what cores tell
  abbrev pub thread_inputs : List ℕ
  thread_inputs = 1 ∷ 1 ∷ [] ++ replicate cores 1 ++ told_widths layout.cores

  -- the clock, for each group and thread the numbers of the group, whether each thread is granted
  abbrev pub core_inputs : Core → List ℕ
  core_inputs c = 1 ∷ [] ++ flat_map (λ (g : Group). replicate (threads * g.count) g.width) c.groups ++ replicate threads 1

  -- the clock, the preferred thread, whether each thread asks
  abbrev pub arbiter_inputs : List ℕ
  arbiter_inputs = 1 ∷ 6 ∷ [] ++ replicate threads 1

  abbrev pub arbiter_outputs : List ℕ
  arbiter_outputs = replicate threads 1

  -- P of the module of each thread, Q of that of each core, R of the arbiter's
  pub record EachModule (modules : List Module) (P : ℕ → Module → Type 0) (Q : ℕ → Core → Module → Type 0) (R : ℕ → Module → Type 0) : Type 0 where
    pub thread : (i number : ℕ) → slice_get layout.threads i ≡ Some number → (m : Module) × (slice_get modules number ≡ Some m) × P i m
    pub core : (k : ℕ) (c : Core) → slice_get layout.cores k ≡ Some c → (m : Module) × (slice_get modules c.module ≡ Some m) × Q k c m
    pub arbiter : (k : ℕ) → k < cores → (m : Module) × (slice_get modules layout.arbiter ≡ Some m) × R k m
