-- Whether words are the same at the registers of an instance.
use Rattle.std.specs.Prelude.{◌≡◌, ℕ, ◌+◌, ◌<◌, length, Option, Some, None, slice_get, Bool, true, false, ◌&&◌, nat_eq, List, [], ◌∷◌, slice_index, if◌then◌else◌}
use Rattle.netlist.specs.declared.netlist.Signal.{Signal}
use Rattle.netlist.specs.declared.netlist.Memory.{Memory}
use Rattle.netlist.specs.declared.netlist.Module.{Module}
use Rattle.sim_values.specs.declared.edge.Part.{Part}
use Rattle.sim_values.specs.Flat.{Flat}
use Rattle.sim_layout.specs.Placed.{is_register}

abbrev pub registers_same : List ℕ → List ℕ → ℕ → List Signal → Bool
registers_same xs ys place [] = true
registers_same xs ys place (s ∷ signals) = (if is_register s.source then nat_eq (slice_index xs place) (slice_index ys place) else true) && registers_same xs ys (place + 1) signals

-- and at the words of a memory, and of memories that stand one behind the other
abbrev pub words_same : List ℕ → List ℕ → ℕ → ℕ → List ℕ → Bool
words_same xs ys place other [] = true
words_same xs ys place other (n ∷ initial) = nat_eq (slice_index xs place) (slice_index ys other) && words_same xs ys (place + 1) (other + 1) initial

abbrev pub memories_same : Flat → Flat → ℕ → List Memory → Bool
memories_same f g first [] = true
memories_same f g first (m ∷ memories) =
    words_same f.words g.words (slice_index f.starts first) (slice_index g.starts first) m.initial && memories_same f g (first + 1) memories

-- and in a part, and in the parts at some places
abbrev pub part_same : Flat → Flat → Part → Option Module → Bool
part_same f g p None = true
part_same f g p (Some m) = registers_same f.numbers g.numbers p.spot.base m.signals && memories_same f g p.spot.memories m.memories

abbrev pub part_same_at : List Module → Flat → Flat → Option Part → Bool
part_same_at modules f g None = true
part_same_at modules f g (Some p) = part_same f g p (slice_get modules p.module)

abbrev pub parts_same : List Module → List Part → Flat → Flat → List ℕ → Bool
parts_same modules parts f g [] = true
parts_same modules parts f g (q ∷ places) = part_same_at modules f g (slice_get parts q) && parts_same modules parts f g places

-- what the numbers mean
abbrev pub RegistersTold : Type 0
RegistersTold = (xs ys : List ℕ) (base : ℕ) (signals : List Signal) → registers_same xs ys base signals ≡ true → (x : ℕ) (s : Signal) → slice_get signals x ≡ Some s → is_register s.source ≡ true
    → slice_index xs (base + x) ≡ slice_index ys (base + x)

abbrev pub RegistersShown : Type 0
RegistersShown = (xs ys : List ℕ) (base : ℕ) (signals : List Signal) → ((x : ℕ) (s : Signal) → slice_get signals x ≡ Some s → is_register s.source ≡ true
    → slice_index xs (base + x) ≡ slice_index ys (base + x)) → registers_same xs ys base signals ≡ true

abbrev pub WordsTold : Type 0
WordsTold = (xs ys : List ℕ) (p q : ℕ) (stored : List ℕ) → words_same xs ys p q stored ≡ true → (k : ℕ) → k < length stored → slice_index xs (p + k) ≡ slice_index ys (q + k)

abbrev pub WordsShown : Type 0
WordsShown = (xs ys : List ℕ) (p q : ℕ) (stored : List ℕ) → ((k : ℕ) → k < length stored → slice_index xs (p + k) ≡ slice_index ys (q + k)) → words_same xs ys p q stored ≡ true
