-- What was taken over of the parts below a path is the other's state there, and all else stays.
use Rattle.std.specs.Prelude.{◌≡◌, ◌≢◌, ℕ, ◌+◌, ◌<◌, List, ◌++◌, length, Some, slice_get, slice_index}
use Rattle.std.proofs.Common.{ap, sym, ◌∙◌, subst}
use Rattle.std.proofs.lemmas.Option.{slice_get_within}
use Rattle.netlist.specs.declared.netlist.Signal.{Signal}
use Rattle.netlist.specs.declared.netlist.Memory.{Memory}
use Rattle.netlist.specs.declared.netlist.Module.{Module}
use Rattle.verilog_meaning.specs.Readings.{memory_words}
use Rattle.verilog_meaning.specs.Cycles.{Path, module_at, IsAt, HasMemory, IsSameIn}
use Rattle.sim_values.specs.declared.value.Spot.{Spot}
use Rattle.sim_values.specs.declared.edge.Part.{Part}
use Rattle.sim_values.specs.Stands.{place_of, spot_at, word_of}
use Rattle.sim_layout.specs.Running.{Running, Stands, state_of, IsSameNet}
use Rattle.cycle_sim.proofs.PutNumbers.{part_is}
use Rattle.slot_sim.specs.Threaded.{IsSameBut}
use Rattle.slot_sim.specs.Members.{AreMembers}
use Rattle.slot_sim.specs.Taking.{taken_numbers, taken_words, with_state}
use Rattle.slot_sim.proofs.CollectedParts.{instance_here}
use Rattle.slot_sim.proofs.Taken.{NoSignal, NoWord, numbers_inside, numbers_outside, words_inside, words_outside}

abbrev pub with_taken : Running → Running → List ℕ → Running
with_taken r o places =
    with_state r (taken_numbers o.modules o.parts o.numbers r.numbers places) (taken_words o.modules o.parts o.starts o.words r.words places)

module _ (r o : Running) (st : Stands r) (net : IsSameNet r o) (outer : Path) (places : List ℕ) (members : AreMembers r.modules st.top r.parts outer places) where
  abbrev numbers : List ℕ
  numbers = taken_numbers o.modules o.parts o.numbers r.numbers places

  abbrev words : List ℕ
  words = taken_words o.modules o.parts o.starts o.words r.words places

  numbers_are : taken_numbers o.modules o.parts o.numbers r.numbers places ≡ taken_numbers r.modules r.parts o.numbers r.numbers places
  numbers_are =
      ap (λ (ms : List Module). taken_numbers ms o.parts o.numbers r.numbers places) net.modules
      ∙ ap (λ (ps : List Part). taken_numbers r.modules ps o.numbers r.numbers places) net.parts

  words_are : taken_words o.modules o.parts o.starts o.words r.words places ≡ taken_words r.modules r.parts r.starts o.words r.words places
  words_are =
      ap (λ (ms : List Module). taken_words ms o.parts o.starts o.words r.words places) net.modules
      ∙ ap (λ (ps : List Part). taken_words r.modules ps o.starts o.words r.words places) net.parts
      ∙ ap (λ (ss : List ℕ). taken_words r.modules r.parts ss o.words r.words places) net.starts

  abbrev new : Running
  new = with_taken r o places

  -- ---- what is taken

  register_taken : (inner : Path) (m : Module) (x : ℕ) (s : Signal) → IsAt r.modules st.top (inner ++ outer) m x s → (state_of o (inner ++ outer)).signal x ≡ (state_of new (inner ++ outer)).signal x
  register_taken inner m x s at =
      let path = inner ++ outer in
      let is = part_is r st path m at.stands in
      let p = is.0 in
      let listed = members.each inner m at.stands in
      let less = slice_get_within m.signals x s at.listed in
      let there = numbers_inside r.modules r.parts o.numbers r.numbers places listed.0 (place_of r.parts path) p m listed.1 is.1 x less (st.apart.room (place_of r.parts path) p m x is.1 less) in
      ap (λ (ps : List Part). slice_index o.numbers (word_of ps path x)) net.parts
      ∙ ap (λ (t : Spot). slice_index o.numbers (t.base + x)) is.2
      ∙ sym there
      ∙ ap (λ (ns : List ℕ). slice_index ns (p.spot.base + x)) (sym numbers_are)
      ∙ ap (λ (t : Spot). slice_index numbers (t.base + x)) (sym is.2)

  word_taken : (inner : Path) (m : Module) (j k : ℕ) (s : Memory) → HasMemory r.modules st.top (inner ++ outer) m j s → k < length s.initial
      → (state_of o (inner ++ outer)).word j k ≡ (state_of new (inner ++ outer)).word j k
  word_taken inner m j k s at less =
      let path = inner ++ outer in
      let is = part_is r st path m at.stands in
      let p = is.0 in
      let listed = members.each inner m at.stands in
      let small : k < memory_words (slice_get m.memories j) = subst (λ (n : ℕ). k < n) (sym (ap memory_words at.listed)) less in
      let there = words_inside r.modules r.parts r.starts o.words r.words places listed.0 (place_of r.parts path) p m listed.1 is.1 j k s at.listed less
      (st.apart.word_room (place_of r.parts path) p m j k is.1 small) in
      ap (λ (ps : List Part). slice_index o.words (slice_index o.starts ((spot_at ps path).memories + j) + k)) net.parts
      ∙ ap (λ (ss : List ℕ). slice_index o.words (slice_index ss ((spot_at r.parts path).memories + j) + k)) net.starts
      ∙ ap (λ (t : Spot). slice_index o.words (slice_index r.starts (t.memories + j) + k)) is.2
      ∙ sym there
      ∙ ap (λ (ws : List ℕ). slice_index ws (slice_index r.starts (p.spot.memories + j) + k)) (sym words_are)
      ∙ ap (λ (t : Spot). slice_index words (slice_index r.starts (t.memories + j) + k)) (sym is.2)

  pub taken_there : IsSameIn r.modules st.top outer (state_of o) (state_of new)
  taken_there = record { registers = λ inner m x s at i. register_taken inner m x s at; words = λ inner m j k s at l. word_taken inner m j k s at l }

  -- ---- what stays

  module _ (path : Path) (other : (inner : Path) → path ≢ inner ++ outer) (m : Module) (stands : module_at r.modules st.top path ≡ Some m) where
    -- the part of the path is not one of those
    elsewhere : (k q : ℕ) → slice_get places k ≡ Some q → place_of r.parts path ≡ q → ⊥
    elsewhere k q at e =
        let i = members.only q (k, at) in
        other i.0 (st.apart.paths path (i.0 ++ outer) (instance_here r.modules st.top path m stands) i.1 (e ∙ sym i.2))

    no_signal : (x : ℕ) → x < length m.signals → NoSignal r.modules r.parts o.numbers places ((part_is r st path m stands).0.spot.base + x)
    no_signal x less k q at p' m' is' x' less' e =
        let is = part_is r st path m stands in
        elsewhere k q at (st.apart.signals (place_of r.parts path) q is.0 p' m m' x x' is.1 is' less less' e)

    no_word : (j i : ℕ) → i < memory_words (slice_get m.memories j) → NoWord r.modules r.parts r.starts o.words places (slice_index r.starts ((part_is r st path m stands).0.spot.memories + j) + i)
    no_word j i less k q at p' m' is' j' i' s at' less' e =
        let is = part_is r st path m stands in
        let small : i' < memory_words (slice_get m'.memories j') = subst (λ (n : ℕ). i' < n) (sym (ap memory_words at')) less' in
        elsewhere k q at (st.apart.words (place_of r.parts path) q is.0 p' m m' j j' i i' is.1 is' less small e).0

  register_kept : (path : Path) → ((inner : Path) → path ≢ inner ++ outer) → (m : Module) (x : ℕ) (s : Signal) → IsAt r.modules st.top path m x s →
      (state_of r path).signal x ≡ (state_of new path).signal x
  register_kept path other m x s at =
      let is = part_is r st path m at.stands in
      let p = is.0 in
      let less = slice_get_within m.signals x s at.listed in
      ap (λ (t : Spot). slice_index r.numbers (t.base + x)) is.2
      ∙ sym (numbers_outside r.modules r.parts o.numbers r.numbers places (p.spot.base + x) (no_signal path other m at.stands x less))
      ∙ ap (λ (ns : List ℕ). slice_index ns (p.spot.base + x)) (sym numbers_are)
      ∙ ap (λ (t : Spot). slice_index numbers (t.base + x)) (sym is.2)

  word_kept : (path : Path) → ((inner : Path) → path ≢ inner ++ outer) → (m : Module) (j k : ℕ) (s : Memory) → HasMemory r.modules st.top path m j s → k < length s.initial
      → (state_of r path).word j k ≡ (state_of new path).word j k
  word_kept path other m j k s at less =
      let is = part_is r st path m at.stands in
      let p = is.0 in
      let small : k < memory_words (slice_get m.memories j) = subst (λ (n : ℕ). k < n) (sym (ap memory_words at.listed)) less in
      ap (λ (t : Spot). slice_index r.words (slice_index r.starts (t.memories + j) + k)) is.2
      ∙ sym (words_outside r.modules r.parts r.starts o.words r.words places (slice_index r.starts (p.spot.memories + j) + k) (no_word path other m at.stands j k small))
      ∙ ap (λ (ws : List ℕ). slice_index ws (slice_index r.starts (p.spot.memories + j) + k)) (sym words_are)
      ∙ ap (λ (t : Spot). slice_index words (slice_index r.starts (t.memories + j) + k)) (sym is.2)

  pub kept_there : IsSameBut r.modules st.top outer (state_of r) (state_of new)
  kept_there path other = record { registers = λ m x s at i. register_kept path other m x s at; words = λ m j k s at l. word_kept path other m j k s at l }
