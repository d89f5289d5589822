-- Parts are found to hold the same exactly where the states are the same in the instances below a path.
use Rattle.std.specs.Prelude.{◌≡◌, ℕ, zero, suc, ◌+◌, ◌<◌, true, List, [], ◌∷◌, ◌++◌, length, Option, Some, None, slice_get, slice_index, refl}
use Rattle.std.proofs.Common.{ap, sym, ◌∙◌, subst, arith}
use Rattle.std.proofs.lemmas.Bool.{and_from, and_parts}
use Rattle.netlist.specs.declared.netlist.Source.{Source}
use Rattle.netlist.specs.declared.netlist.Source.TheVariants.{Input, Register, Assigned, Port}
use Rattle.netlist.specs.declared.netlist.Signal.{Signal}
use Rattle.netlist.specs.declared.netlist.Memory.{Memory}
use Rattle.netlist.specs.declared.netlist.Module.{Module}
use Rattle.verilog_meaning.specs.Cycles.{Path, module_at, IsAt, HasMemory, IsRegister, IsSameIn}
use Rattle.sim_values.specs.declared.value.Spot.{Spot}
use Rattle.sim_values.specs.declared.edge.Part.{Part}
use Rattle.sim_values.specs.Flat.{Flat}
use Rattle.sim_values.specs.Stands.{place_of, spot_of, spot_at, word_of}
use Rattle.sim_layout.specs.Running.{Running, IsPart, Stands, flat, state_of, IsSameNet}
use Rattle.cycle_sim.proofs.PutNumbers.{part_is}
use Rattle.slot_sim.specs.Members.{AreMembers}
use Rattle.sim_layout.specs.Placed.{is_register}
use Rattle.slot_sim.specs.Same.{registers_same, words_same, memories_same, part_same, part_same_at, parts_same}
use Rattle.slot_sim.proofs.CollectedParts.{instance_here}
use Rattle.slot_sim.proofs.SameNumbers.{registers_told, registers_shown, words_told, words_shown}

tests_register : (source : Source) → IsRegister source → is_register source ≡ true
tests_register Input i = absurd i
tests_register (Register n) i = refl
tests_register (Assigned v) i = absurd i
tests_register (Port k p) i = absurd i

register_tested : (source : Source) → is_register source ≡ true → IsRegister source
register_tested Input e = absurd cc
register_tested (Register n) e = tt
register_tested (Assigned v) e = absurd cc
register_tested (Port k p) e = absurd cc

-- ---- several memories

memories_told : (f g : Flat) (first : ℕ) (memories : List Memory) → memories_same f g first memories ≡ true → (j k : ℕ) (s : Memory) → slice_get memories j ≡ Some s → k < length s.initial
    → slice_index f.words (slice_index f.starts (first + j) + k) ≡ slice_index g.words (slice_index g.starts (first + j) + k)
memories_told f g first [] e j k s at l = absurd cc
memories_told f g first (m ∷ memories) e zero k s at l =
    let same : m ≡ s = cc in
    let here : first ≡ first + 0 = omega arith in
    let low : k < length m.initial = subst (λ (t : Memory). k < length t.initial) (sym same) l in
    subst (λ p. slice_index f.words (slice_index f.starts p + k) ≡ slice_index g.words (slice_index g.starts p + k)) here
    (words_told f.words g.words (slice_index f.starts first) (slice_index g.starts first) m.initial
    (and_parts (words_same f.words g.words (slice_index f.starts first) (slice_index g.starts first) m.initial) (memories_same f g (first + 1) memories) e).0 k low)
memories_told f g first (m ∷ memories) e (suc j) k s at l =
    let there : (first + 1) + j ≡ first + suc j = omega arith in
    subst (λ p. slice_index f.words (slice_index f.starts p + k) ≡ slice_index g.words (slice_index g.starts p + k)) there
    (memories_told f g (first + 1) memories
    (and_parts (words_same f.words g.words (slice_index f.starts first) (slice_index g.starts first) m.initial) (memories_same f g (first + 1) memories) e).1 j k s at l)

memories_shown : (f g : Flat) (first : ℕ) (memories : List Memory)
    → ((j k : ℕ) (s : Memory) → slice_get memories j ≡ Some s → k < length s.initial
    → slice_index f.words (slice_index f.starts (first + j) + k) ≡ slice_index g.words (slice_index g.starts (first + j) + k)) → memories_same f g first memories ≡ true
memories_shown f g first [] h = refl
memories_shown f g first (m ∷ memories) h =
    let here : first + 0 ≡ first = omega arith in
    and_from (words_same f.words g.words (slice_index f.starts first) (slice_index g.starts first) m.initial) (memories_same f g (first + 1) memories)
    (words_shown f.words g.words (slice_index f.starts first) (slice_index g.starts first) m.initial
    (λ k l. subst (λ p. slice_index f.words (slice_index f.starts p + k) ≡ slice_index g.words (slice_index g.starts p + k)) here (h 0 k m refl l)))
    (memories_shown f g (first + 1) memories
    (λ j k s at l.
    let there : first + suc j ≡ (first + 1) + j = omega arith in
    subst (λ p. slice_index f.words (slice_index f.starts p + k) ≡ slice_index g.words (slice_index g.starts p + k)) there (h (suc j) k s at l)))

-- ---- parts at some places

one_told : (modules : List Module) (parts : List Part) (f g : Flat) (places : List ℕ) → parts_same modules parts f g places ≡ true → (k q : ℕ) → slice_get places k ≡ Some q
    → part_same_at modules f g (slice_get parts q) ≡ true
one_told modules parts f g [] e k q at = absurd cc
one_told modules parts f g (r ∷ places) e zero q at =
    let same : r ≡ q = cc in
    subst (λ z. part_same_at modules f g (slice_get parts z) ≡ true) same (and_parts (part_same_at modules f g (slice_get parts r)) (parts_same modules parts f g places) e).0
one_told modules parts f g (r ∷ places) e (suc k) q at =
    one_told modules parts f g places (and_parts (part_same_at modules f g (slice_get parts r)) (parts_same modules parts f g places) e).1 k q at

all_shown : (modules : List Module) (parts : List Part) (f g : Flat) (places : List ℕ) → ((k q : ℕ) → slice_get places k ≡ Some q → part_same_at modules f g (slice_get parts q) ≡ true)
    → parts_same modules parts f g places ≡ true
all_shown modules parts f g [] h = refl
all_shown modules parts f g (q ∷ places) h =
    and_from (part_same_at modules f g (slice_get parts q)) (parts_same modules parts f g places) (h 0 q refl) (all_shown modules parts f g places (λ k r at. h (suc k) r at))

module _ (r o : Running) (st : Stands r) (net : IsSameNet r o) (outer : Path) (places : List ℕ) (members : AreMembers r.modules st.top r.parts outer places) where
  -- the numbers of the other's states, by the parts of the first
  other_signal : (path : Path) (x : ℕ) → (state_of o path).signal x ≡ slice_index o.numbers (word_of r.parts path x)
  other_signal path x = ap (λ (ps : List Part). slice_index o.numbers (word_of ps path x)) net.parts

  other_word : (path : Path) (j k : ℕ) → (state_of o path).word j k ≡ slice_index o.words (slice_index o.starts ((spot_at r.parts path).memories + j) + k)
  other_word path j k = ap (λ (ps : List Part). slice_index o.words (slice_index o.starts ((spot_at ps path).memories + j) + k)) net.parts

  module _ (e : parts_same r.modules r.parts (flat r) (flat o) places ≡ true) where
    there : (inner : Path) (m : Module) (at : module_at r.modules st.top (inner ++ outer) ≡ Some m) → part_same (flat r) (flat o) (part_is r st (inner ++ outer) m at).0 (Some m) ≡ true
    there inner m at =
        let is = part_is r st (inner ++ outer) m at in
        let listed = members.each inner m at in
        sym (ap (part_same_at r.modules (flat r) (flat o)) is.1.listed ∙ ap (part_same (flat r) (flat o) is.0) is.1.kind)
        ∙ one_told r.modules r.parts (flat r) (flat o) places e listed.0 (place_of r.parts (inner ++ outer)) listed.1

    register_is : (inner : Path) (m : Module) (x : ℕ) (s : Signal) → IsAt r.modules st.top (inner ++ outer) m x s → IsRegister s.source
        → (state_of r (inner ++ outer)).signal x ≡ (state_of o (inner ++ outer)).signal x
    register_is inner m x s at i =
        let path = inner ++ outer in
        let is = part_is r st path m at.stands in
        let p = is.0 in
        let told = registers_told r.numbers o.numbers p.spot.base m.signals
        (and_parts (registers_same r.numbers o.numbers p.spot.base m.signals) (memories_same (flat r) (flat o) p.spot.memories m.memories) (there inner m at.stands)).0 x s at.listed
        (tests_register s.source i) in
        ap (λ (t : Spot). slice_index r.numbers (t.base + x)) is.2 ∙ told ∙ sym (other_signal path x ∙ ap (λ (t : Spot). slice_index o.numbers (t.base + x)) is.2)

    word_is : (inner : Path) (m : Module) (j k : ℕ) (s : Memory) → HasMemory r.modules st.top (inner ++ outer) m j s → k < length s.initial
        → (state_of r (inner ++ outer)).word j k ≡ (state_of o (inner ++ outer)).word j k
    word_is inner m j k s at l =
        let path = inner ++ outer in
        let is = part_is r st path m at.stands in
        let p = is.0 in
        let told = memories_told (flat r) (flat o) p.spot.memories m.memories
        (and_parts (registers_same r.numbers o.numbers p.spot.base m.signals) (memories_same (flat r) (flat o) p.spot.memories m.memories) (there inner m at.stands)).1 j k s at.listed l in
        ap (λ (t : Spot). slice_index r.words (slice_index r.starts (t.memories + j) + k)) is.2 ∙ told
        ∙ sym (other_word path j k ∙ ap (λ (t : Spot). slice_index o.words (slice_index o.starts (t.memories + j) + k)) is.2)

    pub parts_told : IsSameIn r.modules st.top outer (state_of r) (state_of o)
    parts_told = record { registers = λ inner m x s at i. register_is inner m x s at i; words = λ inner m j k s at l. word_is inner m j k s at l }

  module _ (same : IsSameIn r.modules st.top outer (state_of r) (state_of o)) where
    kind_shown : (k q : ℕ) → slice_get places k ≡ Some q → (p : Part) → slice_get r.parts q ≡ Some p → (m : Option Module) → slice_get r.modules p.module ≡ m
        → part_same (flat r) (flat o) p m ≡ true
    kind_shown k q at p listed None kind = refl
    kind_shown k q at p listed (Some m) kind =
        let is : IsPart r.modules r.parts q p m = record { listed = listed; kind = kind } in
        let found = st.apart.reached q p m is in
        let i = members.only q (k, at) in
        let path : found.0 ≡ i.0 ++ outer = st.apart.paths found.0 (i.0 ++ outer) (instance_here r.modules st.top found.0 m found.2) i.1 (found.1 ∙ sym i.2) in
        let stands : module_at r.modules st.top (i.0 ++ outer) ≡ Some m = ap (module_at r.modules st.top) (sym path) ∙ found.2 in
        let spot : spot_at r.parts (i.0 ++ outer) ≡ p.spot = ap (λ z. spot_of (slice_get r.parts z)) i.2 ∙ ap spot_of listed in
        and_from (registers_same r.numbers o.numbers p.spot.base m.signals) (memories_same (flat r) (flat o) p.spot.memories m.memories)
        (registers_shown r.numbers o.numbers p.spot.base m.signals
        (λ x s there is_one.
        ap (λ (t : Spot). slice_index r.numbers (t.base + x)) (sym spot)
        ∙ same.registers i.0 m x s (record { stands = stands; listed = there }) (register_tested s.source is_one)
        ∙ other_signal (i.0 ++ outer) x ∙ ap (λ (t : Spot). slice_index o.numbers (t.base + x)) spot))
        (memories_shown (flat r) (flat o) p.spot.memories m.memories
        (λ j n s there l.
        ap (λ (t : Spot). slice_index r.words (slice_index r.starts (t.memories + j) + n)) (sym spot)
        ∙ same.words i.0 m j n s (record { stands = stands; listed = there }) l
        ∙ other_word (i.0 ++ outer) j n ∙ ap (λ (t : Spot). slice_index o.words (slice_index o.starts (t.memories + j) + n)) spot))

    one_shown : (k q : ℕ) → slice_get places k ≡ Some q → (p : Option Part) → slice_get r.parts q ≡ p → part_same_at r.modules (flat r) (flat o) p ≡ true
    one_shown k q at None e = refl
    one_shown k q at (Some p) e = kind_shown k q at p e (slice_get r.modules p.module) refl

    pub parts_shown : parts_same r.modules r.parts (flat r) (flat o) places ≡ true
    parts_shown = all_shown r.modules r.parts (flat r) (flat o) places (λ k q at. one_shown k q at (slice_get r.parts q) refl)
