-- What is left of the words of one simulator where those of some parts are taken over from another.
use Rattle.std.specs.Prelude.{ℕ, ◌+◌, List, [], ◌∷◌, Option, Some, None, slice_get, slice_index, slice_set}
use Rattle.netlist.specs.declared.netlist.Memory.{Memory}
use Rattle.netlist.specs.declared.netlist.Module.{Module}
use Rattle.sim_values.specs.declared.edge.Part.{Part}
use Rattle.sim_layout.specs.Running.{Running, running}

-- the words ys, with as many of the words xs from a place on as there are in a list
abbrev pub taken : {X : Type 0} → List ℕ → List ℕ → ℕ → List X → List ℕ
taken xs ys place [] = ys
taken xs ys place (w ∷ l) = taken xs (slice_set ys place (slice_index xs place)) (place + 1) l

abbrev pub taken_memories : List ℕ → List ℕ → List ℕ → ℕ → List Memory → List ℕ
taken_memories xs ys starts first [] = ys
taken_memories xs ys starts first (m ∷ memories) = taken_memories xs (taken xs ys (slice_index starts first) m.initial) starts (first + 1) memories

-- the signals of a part, and the words of its memories
abbrev pub taken_numbers_of : List ℕ → List ℕ → Part → Option Module → List ℕ
taken_numbers_of xs ys p None = ys
taken_numbers_of xs ys p (Some m) = taken xs ys p.spot.base m.signals

abbrev pub taken_words_of : List ℕ → List ℕ → List ℕ → Part → Option Module → List ℕ
taken_words_of xs ys starts p None = ys
taken_words_of xs ys starts p (Some m) = taken_memories xs ys starts p.spot.memories m.memories

abbrev pub taken_numbers_at : List Module → List ℕ → List ℕ → Option Part → List ℕ
taken_numbers_at modules xs ys None = ys
taken_numbers_at modules xs ys (Some p) = taken_numbers_of xs ys p (slice_get modules p.module)

abbrev pub taken_words_at : List Module → List ℕ → List ℕ → List ℕ → Option Part → List ℕ
taken_words_at modules xs ys starts None = ys
taken_words_at modules xs ys starts (Some p) = taken_words_of xs ys starts p (slice_get modules p.module)

-- those of the parts at these places
abbrev pub taken_numbers : List Module → List Part → List ℕ → List ℕ → List ℕ → List ℕ
taken_numbers modules parts xs ys [] = ys
taken_numbers modules parts xs ys (q ∷ places) = taken_numbers modules parts xs (taken_numbers_at modules xs ys (slice_get parts q)) places

abbrev pub taken_words : List Module → List Part → List ℕ → List ℕ → List ℕ → List ℕ → List ℕ
taken_words modules parts starts xs ys [] = ys
taken_words modules parts starts xs ys (q ∷ places) = taken_words modules parts starts xs (taken_words_at modules xs ys starts (slice_get parts q)) places

abbrev pub with_state : Running → List ℕ → List ℕ → Running
with_state r numbers words = running r.modules r.parts r.steps numbers words r.starts r.prefs r.done
