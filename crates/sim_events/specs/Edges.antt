-- The clock edge in rows: the conditions of an action, and then its effect, by places.
use Rattle.std.specs.Prelude.{ℕ, ◌+◌, Bool, true, ◌&&◌, nat_lt, if◌then◌else◌, List, [], ◌∷◌, ◌++◌, Option, Some, None, slice_get, slice_index, slice_set}
use Rattle.netlist.specs.declared.netlist.Effect.{Effect}
use Rattle.netlist.specs.declared.netlist.Effect.TheVariants as effects
use Rattle.netlist.specs.declared.netlist.Action.{Action}
use Rattle.netlist.specs.declared.netlist.Module.{Module}
use Rattle.verilog_meaning.specs.Readings.{memory_words}
use Rattle.sim_values.specs.declared.value.Spot.{Spot}
use Rattle.sim_values.specs.declared.edge.Part.{Part}
use Rattle.sim_events.specs.declared.edge.EdgeRow.{EdgeRow}
use Rattle.sim_events.specs.declared.edge.EdgeRow.TheVariants.{When, Set, Store, Nothing}
use Rattle.sim_events.specs.Operations.{place}

-- ---- the rows of a net

abbrev pub when_rows : ℕ → List ℕ → List EdgeRow
when_rows base [] = []
when_rows base (x ∷ xs) = When (place base x) ∷ when_rows base xs

module _ (m : Module) (spot : Spot) (starts : List ℕ) where
  abbrev pub effect_row : Effect → EdgeRow
  effect_row (effects.Set x y) = Set (place spot.base x) (place spot.base y)
  effect_row (effects.Store j x y) = Store (slice_index starts (spot.memories + j)) (memory_words (slice_get m.memories j)) (place spot.base x) (place spot.base y)
  effect_row (effects.Write text arguments) = Nothing

  abbrev pub action_rows : Action → List EdgeRow
  action_rows a = when_rows spot.base a.conditions ++ effect_row a.effect ∷ []

  abbrev pub actions_rows : List Action → List EdgeRow
  actions_rows [] = []
  actions_rows (a ∷ actions) = action_rows a ++ actions_rows actions

abbrev pub part_rows : List ℕ → Part → Option Module → List EdgeRow
part_rows starts p None = []
part_rows starts p (Some m) = actions_rows m p.spot starts m.actions

abbrev pub edge_rows : List Module → List ℕ → List Part → List EdgeRow
edge_rows modules starts [] = []
edge_rows modules starts (p ∷ parts) = part_rows starts p (slice_get modules p.module) ++ edge_rows modules starts parts

-- ---- what they do: whether the conditions so far hold, the next numbers, and the words of memories

module _ (numbers : List ℕ) where
  abbrev pub holds_after : Bool → EdgeRow → Bool
  holds_after on (When x) = on && nat_lt 0 (slice_index numbers x)
  holds_after on _ = true

  abbrev pub set_after : Bool → List ℕ → EdgeRow → List ℕ
  set_after on next (Set x y) = if on then slice_set next x (slice_index numbers y) else next
  set_after on next _ = next

  abbrev pub stored_after : Bool → List ℕ → EdgeRow → List ℕ
  stored_after on words (Store start size x y) =
      if on then (if nat_lt (slice_index numbers x) size then slice_set words (start + slice_index numbers x) (slice_index numbers y) else words) else words
  stored_after on words _ = words

  abbrev pub sets : Bool → List ℕ → List EdgeRow → List ℕ
  sets on next [] = next
  sets on next (r ∷ rows) = sets (holds_after on r) (set_after on next r) rows

  abbrev pub stores : Bool → List ℕ → List EdgeRow → List ℕ
  stores on words [] = words
  stores on words (r ∷ rows) = stores (holds_after on r) (stored_after on words r) rows
