-- Ranks of words, of which a step reads none that is higher than its target's.
use Rattle.std.specs.Prelude.{◌≡◌, ℕ, ◌-◌, ◌^◌, ◌<◌, ◌≤◌, min, Bool, List, length, Option, Some, option_map, slice_get, slice_index}
use Rattle.netlist.specs.declared.netlist.Module.{Module}
use Rattle.verilog_meaning.specs.Threads.{IsOneOf}
use Rattle.sim_values.specs.declared.settle.Step.{Step}
use Rattle.sim_values.specs.Order.{reads, IsClear}
use Rattle.sim_layout.specs.Leads.{Leads}

-- the word of an index among these, or the greatest number where it is higher
abbrev pub operand : List ℕ → ℕ → Option ℕ
operand words index = option_map (λ (x : ℕ). min x (2 ^ 64 - 1)) (slice_get words index)

-- none of the words has a higher rank
abbrev pub AreUpTo : List ℕ → ℕ → List ℕ → Type 0
AreUpTo ranks most words = (y : ℕ) → IsOneOf y words → slice_index ranks y ≤ most

-- a step reads nothing of a higher rank than its target's, nor, where its target is not marked, of the same
pub record IsRanked (modules : List Module) (ranks : List ℕ) (marks : List Bool) (s : Step) : Type 0 where
  pub up_to : AreUpTo ranks (slice_index ranks s.target) (reads modules s.feed)
  pub below : IsClear marks s.target → (y : ℕ) → IsOneOf y (reads modules s.feed) → slice_index ranks y < slice_index ranks s.target

abbrev pub AreRanked : List Module → List Step → List ℕ → List Bool → ℕ → Type 0
AreRanked modules wires ranks marks count = (k : ℕ) (s : Step) → k < count → slice_get wires k ≡ Some s → IsRanked modules ranks marks s

-- a word that is not marked does not lead to itself
abbrev pub AreSuspects : List Module → List Step → List Bool → Type 0
AreSuspects modules wires marks = (k : ℕ) → k < length marks → IsClear marks k → Leads modules wires k k → ⊥
