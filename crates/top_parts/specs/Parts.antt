-- The instances of top: threads, cores, and an arbiter for each core; and their output ports.
use Rattle.std.specs.Prelude.{ℕ, zero, suc, ◌+◌, replicate, List, [], ◌∷◌, ◌++◌, length, map, Option, Some, None}
use Rattle.std.specs.List.{flat_map}
use Rattle.circuit.specs.Rows.{spread}
use Rattle.top_parts.specs.declared.layout.Group.{Group}
use Rattle.top_parts.specs.declared.layout.Core.{Core}
use Rattle.top_parts.specs.declared.layout.Layout.{Layout}
use Rattle.top_parts.specs.declared.parts.Part.{Part}

-- by number, from a number on
abbrev pub each_from : {A B : Type 0} → (ℕ → A → B) → ℕ → List A → List B
each_from f i [] = []
each_from f i (x ∷ xs) = f i x ∷ each_from f (i + 1) xs

abbrev pub flat_from : {A B : Type 0} → (ℕ → A → List B) → ℕ → List A → List B
flat_from f i [] = []
flat_from f i (x ∷ xs) = f i x ++ flat_from f (i + 1) xs

-- the lists of n numbers, from number i on
abbrev pub flat_spread : {B : Type 0} → (ℕ → List B) → ℕ → ℕ → List B
flat_spread f i zero = []
flat_spread f i (suc n) = f i ++ flat_spread f (i + 1) n

-- the widths of the numbers that a thread hands to cores, group after group
abbrev pub group_widths : List Group → List ℕ
group_widths groups = flat_map (λ (g : Group). replicate g.count g.width) groups

abbrev pub ask_widths : List Core → List ℕ
ask_widths cores = flat_map (λ (c : Core). group_widths c.groups) cores

-- the widths of the numbers that cores tell a thread
abbrev pub told_widths : List Core → List ℕ
told_widths cores = flat_map (λ (c : Core). c.told) cores

-- what a thread puts out: its requests, whether it needs a core, and whether it is done
abbrev pub thread_outputs : List ℕ → List ℕ
thread_outputs asks = asks ++ replicate 2 1

-- what a core of n threads puts out: whether it may grant each, and each number that it tells, for each
abbrev pub core_outputs : ℕ → Core → List ℕ
core_outputs n c = replicate n 1 ++ flat_map (λ (w : ℕ). replicate n w) c.told

abbrev pub thread_part : List ℕ → ℕ → Part
thread_part asks number = record { of = number; outputs = thread_outputs asks }

abbrev pub core_part : ℕ → Core → Part
core_part n c = record { of = c.module; outputs = core_outputs n c }

abbrev pub arbiter_part : ℕ → ℕ → ℕ → Part
arbiter_part n number k = record { of = number; outputs = replicate n 1 }

abbrev pub parts : Layout → List Part
parts layout =
    map (thread_part (ask_widths layout.cores)) layout.threads
    ++ map (core_part (length layout.threads)) layout.cores
    ++ spread (arbiter_part (length layout.threads) layout.arbiter) 0 (length layout.cores)

abbrev pub output_count : Option Part → ℕ
output_count None = 0
output_count (Some p) = length p.outputs
