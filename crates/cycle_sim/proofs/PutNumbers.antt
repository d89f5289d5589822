-- Words with a number put into them stand for the net, where it fits what stands there.
use Rattle.std.specs.Prelude.{◌≡◌, ℕ, ◌+◌, ◌^◌, ◌<◌, length, Some, slice_get, slice_index, slice_set}
use Rattle.std.proofs.Common.{ap, sym, ◌∙◌, subst, ⊎_elim}
use Rattle.std.proofs.lemmas.List.{get_or-set_same, get_or-set_other}
use Rattle.std.proofs.lemmas.Option.{slice_get_within}
use Rattle.std.proofs.Math.ListN.{length-set}
use Rattle.std.proofs.lemmas.Bool.{cases_eq}
use Rattle.netlist.specs.declared.netlist.Signal.{Signal}
use Rattle.netlist.specs.declared.netlist.Memory.{Memory}
use Rattle.netlist.specs.declared.netlist.Module.{Module}
use Rattle.verilog_meaning.specs.Readings.{memory_words}
use Rattle.verilog_meaning.specs.Cycles.{Path, module_at, IsAt, HasMemory, IsRegister}
use Rattle.sim_values.specs.declared.value.Spot.{Spot}
use Rattle.sim_values.specs.declared.edge.Part.{Part}
use Rattle.sim_values.specs.Stands.{place_of, spot_of, kind_of, spot_at, word_of, IsPlan}
use Rattle.sim_layout.specs.Running.{Running, IsPart, IsApart, Stands}
use Rattle.cycle_sim.specs.Putting.{FitsAt, with_number, place_of_word, FitsWordAt, with_word}

module _ (r : Running) (st : Stands r) where
  -- the part of a path
  pub part_is : (path : Path) (m : Module) → module_at r.modules st.top path ≡ Some m → (p : Part) × IsPart r.modules r.parts (place_of r.parts path) p m × (spot_at r.parts path ≡ p.spot)
  part_is path m at =
      let p = st.apart.stands path m at in
      (p.0, record { listed = p.1; kind = subst (λ (k : ℕ). slice_get r.modules k ≡ Some m) (ap kind_of p.1) (st.plan.laid path m at) }, ap spot_of p.1)

  -- the word of a signal is one of the words
  pub signal_room : (path : Path) (m : Module) (x : ℕ) (s : Signal) → IsAt r.modules st.top path m x s → word_of r.parts path x < length r.numbers
  signal_room path m x s at =
      let is = part_is path m at.stands in
      subst (λ (t : Spot). t.base + x < length r.numbers) (sym is.2) (st.apart.room (place_of r.parts path) is.0 m x is.1 (slice_get_within m.signals x s at.listed))

  pub word_room : (path : Path) (m : Module) (j k : ℕ) (s : Memory) → HasMemory r.modules st.top path m j s → k < length s.initial → place_of_word r path j k < length r.words
  word_room path m j k s at l =
      let is = part_is path m at.stands in
      let small : k < memory_words (slice_get m.memories j) = subst (λ (n : ℕ). k < n) (sym (ap memory_words at.listed)) l in
      subst (λ (t : Spot). slice_index r.starts (t.memories + j) + k < length r.words) (sym is.2) (st.apart.word_room (place_of r.parts path) is.0 m j k is.1 small)

  module _ (place number : ℕ) where
    put_register : FitsAt r place number → (path : Path) (m : Module) (x : ℕ) (s : Signal) → IsAt r.modules st.top path m x s → IsRegister s.source
        → slice_index (slice_set r.numbers place number) (word_of r.parts path x) < 2 ^ s.width
    put_register fits path m x s at i = ⊎_elim
        (λ same. subst (λ n. n < 2 ^ s.width)
        (sym (ap (slice_index (slice_set r.numbers place number)) same ∙ get_or-set_same r.numbers place number 0 (subst (λ k. k < length r.numbers) same (signal_room path m x s at))))
        (fits st.top st.is_top path m x s at i same))
        (λ apart. subst (λ n. n < 2 ^ s.width) (sym (get_or-set_other r.numbers place (word_of r.parts path x) number 0 apart)) (st.state.registers path m x s at i))
        (cases_eq (word_of r.parts path x) place)

    pub put_stands : FitsAt r place number → Stands (with_number r place number)
    put_stands fits = record {
      top = st.top;
      is_top = st.is_top;
      right = st.right;
      takes = st.takes;
      free = st.free;
      plan = subst (IsPlan r.modules st.top r.parts r.steps st.free r.prefs) (sym (length-set r.numbers place number)) st.plan;
      apart = subst (λ (n : ℕ). IsApart r.modules st.top r.parts r.starts n (length r.words)) (sym (length-set r.numbers place number)) st.apart;
      state = record { registers = put_register fits; words = st.state.words };
      done = st.done;
    }

    put_in_memory : FitsWordAt r place number → (path : Path) (m : Module) (j k : ℕ) (s : Memory) → HasMemory r.modules st.top path m j s → k < length s.initial
        → slice_index (slice_set r.words place number) (place_of_word r path j k) < 2 ^ s.width
    put_in_memory fits path m j k s at l = ⊎_elim
        (λ same. subst (λ n. n < 2 ^ s.width)
        (sym (ap (slice_index (slice_set r.words place number)) same ∙ get_or-set_same r.words place number 0 (subst (λ p. p < length r.words) same (word_room path m j k s at l))))
        (fits st.top st.is_top path m j k s at l same))
        (λ apart. subst (λ n. n < 2 ^ s.width) (sym (get_or-set_other r.words place (place_of_word r path j k) number 0 apart)) (st.state.words path m j k s at l))
        (cases_eq (place_of_word r path j k) place)

    pub put_word_stands : FitsWordAt r place number → Stands (with_word r place number)
    put_word_stands fits = record {
      top = st.top;
      is_top = st.is_top;
      right = st.right;
      takes = st.takes;
      free = st.free;
      plan = st.plan;
      apart = subst (λ (n : ℕ). IsApart r.modules st.top r.parts r.starts (length r.numbers) n) (sym (length-set r.words place number)) st.apart;
      state = record { registers = st.state.registers; words = put_in_memory fits };
      done = st.done;
    }
