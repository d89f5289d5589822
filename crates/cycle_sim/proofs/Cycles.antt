-- What the calls of a simulator do to its words is a cycle of the net.
use Rattle.std.specs.Prelude.{◌≡◌, ℕ, zero, suc, ◌+◌, ◌<◌, ◌⊎◌, Bool, true, false, if◌then◌else◌, List, [], ◌∷◌, ◌++◌, length, Option, Some, None, slice_get, slice_index, refl, nat_eq}
use Rattle.std.proofs.Common.{ap, sym, ◌∙◌, subst, inl, inr, ⊎_elim, arith}
use Rattle.std.proofs.lemmas.Option.{slice_get_within}
use Rattle.std.proofs.lemmas.List.{append-nil}
use Rattle.std.proofs.lemmas.Bool.{cases_Bool, or_parts}
use Rattle.netlist.specs.declared.netlist.Source.{Source}
use Rattle.netlist.specs.declared.netlist.Source.TheVariants.{Input, Register, Assigned, Port}
use Rattle.netlist.specs.declared.netlist.Effect.{Effect}
use Rattle.netlist.specs.declared.netlist.Effect.TheVariants.{Set, Store, Write}
use Rattle.netlist.specs.declared.netlist.Action.{Action}
use Rattle.netlist.specs.declared.netlist.Signal.{Signal}
use Rattle.netlist.specs.declared.netlist.Memory.{Memory}
use Rattle.netlist.specs.declared.netlist.Module.{Module}
use Rattle.netlist.specs.Sound.{is_write}
use Rattle.verilog_meaning.specs.Readings.{Reading, is_on, register_after, word_after, memory_words, effect_bytes, action_bytes, written}
use Rattle.verilog_meaning.specs.Cycles.{Path, Valuation, Choice, number, module_at, IsAt, HasMemory, IsRegister, IsSettled, IsSameIn, Cycle, IsWritten, next_at, next_state, written_at}
use Rattle.circuit.specs.Rows.{EachOf}
use Rattle.circuit.specs.Modules.{FitsAction, FitsEffect}
use Rattle.circuit.proofs.States.{keeps_states}
use Rattle.sim_values.specs.declared.value.Spot.{Spot}
use Rattle.sim_values.specs.declared.edge.Part.{Part}
use Rattle.sim_values.specs.Flat.{Flat, reading, actions_of, part_written, all_written}
use Rattle.sim_values.specs.Stands.{place_of, spot_of, kind_of, spot_at, word_of, valuation_of, IsPlan}
use Rattle.sim_layout.specs.Running.{Running, flat, state_of, some_write, IsPart, IsApart, Stands, IsSameState, settled_run, advanced, Fits, TellsDone}
use Rattle.sim_values.proofs.Settles.{settled-length}
use Rattle.cycle_sim.proofs.Lift.{flat_settled}
use Rattle.cycle_sim.proofs.Edges as edges
use Rattle.cycle_sim.proofs.Stores as stores

-- ---- a module without a $write writes nothing

quiet_effect : (m : Module) (r : Reading) (e : Effect) → is_write e ≡ false → effect_bytes m r e ≡ []
quiet_effect m r (Set x y) q = refl
quiet_effect m r (Store j x y) q = refl
quiet_effect m r (Write text arguments) q = absurd cc

quiet_if : (b : Bool) (bytes : List ℕ) → bytes ≡ [] → (if b then bytes else []) ≡ []
quiet_if true bytes e = e
quiet_if false bytes e = refl

quiet_actions : (m : Module) (r : Reading) (actions : List Action) → some_write actions ≡ false → action_bytes m r actions ≡ []
quiet_actions m r [] q = refl
quiet_actions m r (a ∷ actions) q =
    let here : (if is_on r a.conditions then effect_bytes m r a.effect else []) ≡ [] =
    quiet_if (is_on r a.conditions) (effect_bytes m r a.effect) (quiet_effect m r a.effect (or_parts (is_write a.effect) (some_write actions) q).0) in
    ap (λ xs. xs ++ action_bytes m r actions) here ∙ quiet_actions m r actions (or_parts (is_write a.effect) (some_write actions) q).1

module _ (r : Running) (st : Stands r) (c : Choice) (fits : Fits r c) where
  abbrev modules : List Module
  modules = r.modules

  abbrev parts : List Part
  parts = r.parts

  abbrev after : Flat
  after = flat (settled_run c r)

  abbrev through : Valuation
  through = state_of (settled_run c r)

  abbrev next : Flat
  next = flat (advanced (settled_run c r))

  is_settled : IsSettled modules st.top (state_of r) c through
  is_settled =
      flat_settled modules st.top parts r.steps st.free r.prefs (length r.numbers) st.plan st.right.fits st.right.narrow c fits.few (fits.numbers st.top st.is_top) (flat r) refl st.state

  -- ---- the part of a path

  part_is : (path : Path) (m : Module) → module_at modules st.top path ≡ Some m → (p : Part) × IsPart modules parts (place_of parts path) p m × (spot_at parts path ≡ p.spot)
  part_is path m at =
      let p = st.apart.stands path m at in
      (p.0, record { listed = p.1; kind = subst (λ (k : ℕ). slice_get modules k ≡ Some m) (ap kind_of p.1) (st.plan.laid path m at) }, ap spot_of p.1)

  -- ---- registers

  effect_misses : (q o : ℕ) (p other : Part) (m k : Module) (x : ℕ) → IsPart modules parts q p m → IsPart modules parts o other k → x < length m.signals → (o ≡ q → ⊥)
      → (e : Effect) → FitsEffect k e → edges.Misses other.spot after (p.spot.base + x) e
  effect_misses q o p other m k x is there l apart (Set y z) f =
      λ same. apart (sym (st.apart.signals q o p other m k x y is there l (slice_get_within k.signals y f.1.signal f.1.listed) same))
  effect_misses q o p other m k x is there l apart (Store j y z) f = tt
  effect_misses q o p other m k x is there l apart (Write text arguments) f = tt

  actions_miss : (q o : ℕ) (p other : Part) (m k : Module) (x : ℕ) → IsPart modules parts q p m → IsPart modules parts o other k → x < length m.signals → (o ≡ q → ⊥)
      → (actions : List Action) → EachOf (FitsAction k) actions → EachOf (λ (a : Action). edges.Misses other.spot after (p.spot.base + x) a.effect) actions
  actions_miss q o p other m k x is there l apart [] f = tt
  actions_miss q o p other m k x is there l apart (a ∷ actions) f =
      (effect_misses q o p other m k x is there l apart a.effect f.0.1, actions_miss q o p other m k x is there l apart actions f.1)

  part_misses : (q o : ℕ) (p other : Part) (m : Module) (x : ℕ) → IsPart modules parts q p m → x < length m.signals → slice_get parts o ≡ Some other → (o ≡ q → ⊥)
      → (kind : Option Module) → slice_get modules other.module ≡ kind → EachOf (λ (a : Action). edges.Misses other.spot after (p.spot.base + x) a.effect) (actions_of kind)
  part_misses q o p other m x is l at apart None e = tt
  part_misses q o p other m x is l at apart (Some k) e =
      actions_miss q o p other m k x is (record { listed = at; kind = e }) l apart k.actions (st.right.acts other.module k e)

  long : length after.numbers ≡ length r.numbers
  long = settled-length modules c r.steps (flat r)

  register_next : (path : Path) (m : Module) (x : ℕ) (s : Signal) → IsAt modules st.top path m x s → (next_state modules st.top through path).signal x ≡ (valuation_of parts next path).signal x
  register_next path m x s at =
      let is = part_is path m at.stands in
      let p = is.0 in
      let l : x < length m.signals = slice_get_within m.signals x s at.listed in
      let room : p.spot.base + x < length after.numbers = subst (λ (n : ℕ). p.spot.base + x < n) (sym long) (st.apart.room (place_of parts path) p m x is.1 l) in
      let all : slice_index next.numbers (p.spot.base + x) ≡ register_after (reading p.spot after) (actions_of (slice_get modules p.module)) x (slice_index after.numbers (p.spot.base + x)) =
      edges.all_register modules after parts (place_of parts path) p x after.numbers is.1.listed room
      (λ o other there apart. part_misses (place_of parts path) o p other m x is.1 l there apart (slice_get modules other.module) refl) in
      let own : slice_index next.numbers (p.spot.base + x) ≡ register_after (reading p.spot after) m.actions x (slice_index after.numbers (p.spot.base + x)) =
      all ∙ ap (λ (k : Option Module). register_after (reading p.spot after) (actions_of k) x (slice_index after.numbers (p.spot.base + x))) is.1.kind in
      let spotted : slice_index next.numbers (word_of parts path x) ≡ register_after (through path) m.actions x ((through path).signal x) =
      subst (λ (t : Spot). slice_index next.numbers (t.base + x) ≡ register_after (reading t after) m.actions x (slice_index after.numbers (t.base + x))) (sym is.2) own in
      ap (λ (k : Option Module). (next_at modules st.top k (through path)).signal x) at.stands ∙ sym spotted

  -- ---- memory words

  store_misses : (q o : ℕ) (p other : Part) (m k : Module) (j x : ℕ) → IsPart modules parts q p m → IsPart modules parts o other k → x < memory_words (slice_get m.memories j) → (o ≡ q → ⊥)
      → (e : Effect) → stores.Misses k other.spot after (stores.start m p.spot after j + x) e
  store_misses q o p other m k j x is there l apart (Set y z) = tt
  store_misses q o p other m k j x is there l apart (Store i y z) = λ a small same. apart (sym (st.apart.words q o p other m k j i x a is there l small same).0)
  store_misses q o p other m k j x is there l apart (Write text arguments) = tt

  stores_miss : (q o : ℕ) (p other : Part) (m k : Module) (j x : ℕ) → IsPart modules parts q p m → IsPart modules parts o other k → x < memory_words (slice_get m.memories j) → (o ≡ q → ⊥)
      → (actions : List Action) → EachOf (λ (a : Action). stores.Misses k other.spot after (stores.start m p.spot after j + x) a.effect) actions
  stores_miss q o p other m k j x is there l apart [] = tt
  stores_miss q o p other m k j x is there l apart (a ∷ actions) =
      (store_misses q o p other m k j x is there l apart a.effect, stores_miss q o p other m k j x is there l apart actions)

  word_next : (path : Path) (m : Module) (j k : ℕ) (s : Memory) → HasMemory modules st.top path m j s → k < length s.initial
      → (next_state modules st.top through path).word j k ≡ (valuation_of parts next path).word j k
  word_next path m j k s at l =
      let is = part_is path m at.stands in
      let p = is.0 in
      let small : k < memory_words (slice_get m.memories j) = subst (λ (n : ℕ). k < n) (sym (ap memory_words at.listed)) l in
      let own : slice_index next.words (stores.start m p.spot after j + k) ≡ word_after (reading p.spot after) m.actions j k (slice_index after.words (stores.start m p.spot after j + k)) =
      stores.all_word modules after parts (place_of parts path) p m j k after.words is.1.listed is.1.kind small
      (λ i a less same. sym (st.apart.words (place_of parts path) (place_of parts path) p p m m j i k a is.1 is.1 small less (sym same)).1)
      (st.apart.word_room (place_of parts path) p m j k is.1 small)
      (λ o other there apart kind e. stores_miss (place_of parts path) o p other m kind j k is.1 (record { listed = there; kind = e }) small apart kind.actions) in
      let spotted : slice_index next.words (slice_index after.starts ((spot_at parts path).memories + j) + k) ≡ word_after (through path) m.actions j k ((through path).word j k) =
      subst (λ (t : Spot). slice_index next.words (slice_index after.starts (t.memories + j) + k)
      ≡ word_after (reading t after) m.actions j k (slice_index after.words (slice_index after.starts (t.memories + j) + k)))
      (sym is.2) own in
      ap (λ (o : Option Module). (next_at modules st.top o (through path)).word j k) at.stands ∙ sym spotted

  leads : IsSameIn modules st.top [] (next_state modules st.top through) (state_of (advanced (settled_run c r)))
  leads = record {
    registers = λ path m x s at i. register_next (path ++ []) m x s at;
    words = λ path m j k s at l. word_next (path ++ []) m j k s at l;
  }

  -- ---- what is written

  abbrev output : List ℕ
  output = all_written modules after parts

  abbrev writes : Part → List ℕ
  writes p = part_written p after (slice_get modules p.module)

  all_quiet : (ps : List Part) → ((q : ℕ) (p : Part) → slice_get ps q ≡ Some p → writes p ≡ []) → all_written modules after ps ≡ []
  all_quiet [] quiet = refl
  all_quiet (p ∷ ps) quiet = ap (λ xs. xs ++ all_written modules after ps) (quiet 0 p refl) ∙ all_quiet ps (λ q o at. quiet (suc q) o at)

  all_one : (ps : List Part) (q : ℕ) (p : Part) → slice_get ps q ≡ Some p → ((o : ℕ) (other : Part) → slice_get ps o ≡ Some other → (o ≡ q → ⊥) → writes other ≡ [])
      → all_written modules after ps ≡ writes p
  all_one [] q p at quiet = absurd cc
  all_one (t ∷ ps) zero p at quiet =
      let same : t ≡ p = cc in
      ap (λ xs. writes t ++ xs) (all_quiet ps (λ o other there. quiet (suc o) other there (λ e. absurd (omega arith)))) ∙ append-nil (writes t) ∙ ap writes same
  all_one (t ∷ ps) (suc q) p at quiet =
      ap (λ xs. xs ++ all_written modules after ps) (quiet 0 t refl (λ e. absurd (omega arith)))
      ∙ all_one ps q p at (λ o other there apart. quiet (suc o) other there (λ e. apart (omega arith)))

  part_quiet : (p : Part) (kind : Option Module) → slice_get modules p.module ≡ kind → ((k : Module) → kind ≡ Some k → some_write k.actions ≡ false) → writes p ≡ []
  part_quiet p None e quiet = ap (part_written p after) e
  part_quiet p (Some k) e quiet = ap (part_written p after) e ∙ quiet_actions k (reading p.spot after) k.actions (quiet k refl)

  -- the instance of a module with a $write writes all
  printer_path : (path : Path) (m : Module) → module_at modules st.top path ≡ Some m → some_write m.actions ≡ true → written_at modules st.top through path (Some m) ≡ output
  printer_path path m at prints =
      let is = part_is path m at in
      let p = is.0 in
      let q = place_of parts path in
      let one : output ≡ writes p =
      all_one parts q p is.1.listed
      (λ o other there apart. part_quiet other (slice_get modules other.module) refl
      (λ k e. ⊎_elim
      (λ also. absurd (apart (sym (st.apart.printer q o p other m k is.1 (record { listed = there; kind = e }) prints also))))
      (λ quiet. quiet)
      (cases_Bool (some_write k.actions)))) in
      let own : writes p ≡ written m (reading p.spot after) = ap (part_written p after) is.1.kind in
      subst (λ (t : Spot). written m (reading t after) ≡ output) (sym is.2) (sym (one ∙ own))

  each_path : (path : Path) (o : Option Module) → module_at modules st.top path ≡ o → (written_at modules st.top through path o ≡ []) ⊎ (written_at modules st.top through path o ≡ output)
  each_path path None e = inl refl
  each_path path (Some m) e = ⊎_elim
      (λ prints. inr (printer_path path m e prints))
      (λ quiet. inl (quiet_actions m (through path) m.actions quiet))
      (cases_Bool (some_write m.actions))

  abbrev Printer : List Part → Type 0
  Printer ps = (q : ℕ) × (p : Part) × (m : Module) × (slice_get ps q ≡ Some p) × (slice_get modules p.module ≡ Some m) × (some_write m.actions ≡ true)

  head_printer : (p : Part) (ps : List Part) (kind : Option Module) → slice_get modules p.module ≡ kind → Printer (p ∷ ps) ⊎ (writes p ≡ [])
  head_printer p ps None e = inr (ap (part_written p after) e)
  head_printer p ps (Some m) e = ⊎_elim
      (λ prints. inl (0, p, m, refl, e, prints))
      (λ quiet. inr (ap (part_written p after) e ∙ quiet_actions m (reading p.spot after) m.actions quiet))
      (cases_Bool (some_write m.actions))

  abbrev AllQuiet : List Part → Type 0
  AllQuiet ps = (q : ℕ) (p : Part) → slice_get ps q ≡ Some p → writes p ≡ []

  more_quiet : (p : Part) (ps : List Part) → writes p ≡ [] → AllQuiet ps → AllQuiet (p ∷ ps)
  more_quiet p ps here rest zero o at = let same : p ≡ o = cc in subst (λ (t : Part). writes t ≡ []) same here
  more_quiet p ps here rest (suc q) o at = rest q o at

  find_printer : (ps : List Part) → Printer ps ⊎ AllQuiet ps
  find_printer [] = inr (λ q p at. absurd cc)
  find_printer (p ∷ ps) = ⊎_elim
      (λ found. inl found)
      (λ here. ⊎_elim
      (λ found. inl (suc found.0, found.1, found.2, found.3, found.4, found.5))
      (λ rest. inr (more_quiet p ps here rest))
      (find_printer ps))
      (head_printer p ps (slice_get modules p.module) refl)

  is_written : IsWritten modules st.top through output
  is_written = record {
    each = λ path. each_path path (module_at modules st.top path) refl;
    one = ⊎_elim
        (λ found.
        let path = st.apart.reached found.0 found.1 found.2 (record { listed = found.3; kind = found.4 }) in
        inr (path.0, ap (written_at modules st.top through path.0) path.2 ∙ printer_path path.0 found.2 path.2 found.5))
        (λ quiet. inl (all_quiet parts quiet))
        (find_printer parts);
  }

  -- ---- the whole

  pub run_cycle : Cycle modules st.top (state_of r) c (state_of (advanced (settled_run c r))) output
  run_cycle = record { through = through; settled = is_settled; next = leads; written = is_written }

  pub settled_stands : Stands (settled_run c r)
  settled_stands = record {
    top = st.top;
    is_top = st.is_top;
    right = st.right;
    takes = st.takes;
    free = st.free;
    plan = subst (IsPlan modules st.top parts r.steps st.free r.prefs) (sym long) st.plan;
    apart = subst (λ (n : ℕ). IsApart modules st.top parts r.starts n (length r.words)) (sym long) st.apart;
    state = record {
      registers = λ path m x s at i. is_settled.within path m x s at;
      words = λ path m j k s at l. st.state.words path m j k s at l;
    };
    done = st.done;
  }

  register_number : (path : Path) (m : Module) (x : ℕ) (s : Signal) (source : Source) → IsRegister source → number modules st.top (state_of r) c through path m x s source ≡ (state_of r path).signal x
  register_number path m x s (Register n) i = refl
  register_number path m x s Input i = absurd i
  register_number path m x s (Assigned v) i = absurd i
  register_number path m x s (Port j port) i = absurd i

  pub settled_same : IsSameState r (settled_run c r)
  settled_same = record {
    top = st.top;
    is_top = st.is_top;
    same = record {
      registers = λ path m x s at i. sym (is_settled.signals (path ++ []) m x s at ∙ register_number (path ++ []) m x s s.source i);
      words = λ path m j k s at l. refl;
    };
  }

  numbers_long : length next.numbers ≡ length r.numbers
  numbers_long = edges.all_length modules after parts after.numbers ∙ long

  words_long : length next.words ≡ length r.words
  words_long = stores.all_length modules after parts after.words

  pub advanced_stands : Stands (advanced (settled_run c r))
  advanced_stands = record {
    top = st.top;
    is_top = st.is_top;
    right = st.right;
    takes = st.takes;
    free = st.free;
    plan = subst (IsPlan modules st.top parts r.steps st.free r.prefs) (sym numbers_long) st.plan;
    apart = subst (λ (n : ℕ). IsApart modules st.top parts r.starts n (length next.words)) (sym numbers_long)
        (subst (λ (n : ℕ). IsApart modules st.top parts r.starts (length r.numbers) n) (sym words_long) st.apart);
    state = (keeps_states modules st.top st.right.fits st.right.statements).1 (state_of r) (state_of (advanced (settled_run c r))) c output st.state run_cycle;
    done = st.done;
  }

  -- what the settled word of done shows
  pub done_told : (shown : Bool) → shown ≡ nat_eq (slice_index (settled_run c r).numbers r.done) 1 → TellsDone c r shown
  done_told shown e = record {
    top = st.top;
    is_top = st.is_top;
    number = slice_index (settled_run c r).numbers r.done;
    shows = record {
      place = st.done.has.place;
      signal = st.done.has.signal;
      is = st.done.has.is;
      out = st.done.has.out;
      bit = st.done.has.bit;
      through = through;
      settled = is_settled;
      number = ap (slice_index (settled_run c r).numbers) (sym st.done.stands);
    };
    is = e;
  }
