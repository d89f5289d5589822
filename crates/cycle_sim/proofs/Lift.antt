-- Flat words after the steps are a settled valuation of the net.
use Rattle.std.specs.Prelude.{◌≡◌, ℕ, zero, suc, ◌+◌, ◌^◌, ◌<◌, ◌≤◌, Bool, List, [], ◌∷◌, map, length, Some, slice_get, slice_index, refl}
use Rattle.std.proofs.Common.{ap, sym, ◌∙◌, subst, arith}
use Rattle.std.proofs.Math.Nat.{pow-le-pow_right}
use Rattle.hls_ints.specs.Words.{word}
use Rattle.netlist.specs.declared.netlist.Source.{Source}
use Rattle.netlist.specs.declared.netlist.Source.TheVariants.{Input, Register, Assigned, Port}
use Rattle.netlist.specs.declared.netlist.Signal.{Signal}
use Rattle.netlist.specs.declared.netlist.Memory.{Memory}
use Rattle.netlist.specs.declared.netlist.Value.{Value}
use Rattle.netlist.specs.declared.netlist.Module.{Module}
use Rattle.verilog_meaning.specs.Readings.{value}
use Rattle.verilog_meaning.specs.Cycles.{Path, Valuation, Choice, module_at, instance_at, connected, choice_number, number, IsAt, IsSettled, IsState, IsRegister}
use Rattle.verilog_meaning.specs.Threads.{operands}
use Rattle.circuit.specs.Modules.{Has as HasWidth, FitsValue}
use Rattle.circuit.specs.Nets.{FitsSource, FitsNet, FitsChoice}
use Rattle.circuit.proofs.Tables.{fits_among}
use Rattle.circuit.proofs.Widths.{Fitting, value_below}
use Rattle.sim_values.specs.declared.settle.Feed.TheVariants.{Copied, Computed}
use Rattle.sim_values.specs.declared.settle.Step.{Step}
use Rattle.sim_values.specs.declared.edge.Part.{Part}
use Rattle.circuit.specs.Rows.{EachOf}
use Rattle.sim_values.specs.Flat.{Flat, fed, source_number, signal_number, module_number, with_numbers, settled}
use Rattle.sim_values.specs.Order.{reads, rank}
use Rattle.sim_values.specs.Stands.{word_of, spot_at, kind_at, valuation_of, step, Has, IsFree, StandsFor, IsPlan}
use Rattle.sim_values.proofs.Settles.{each_one, settled-known, settled-settles}
use Rattle.cycle_sim.proofs.StepReads.{lower, computed_reads}

each_get : {X : Type 0} (P : X → Type 0) (xs : List X) (j : ℕ) (x : X) → EachOf P xs → slice_get xs j ≡ Some x → P x
each_get P [] j x e at = absurd cc
each_get P (y ∷ xs) zero x e at = let same : y ≡ x = cc in subst P same e.0
each_get P (y ∷ xs) (suc j) x e at = each_get P xs j x e.1 at

small_word : (v w : ℕ) → v < 2 ^ w → w ≤ 64 → word 64 v ≡ v
small_word v w l m = let p : 2 ^ w ≤ 2 ^ 64 = pow-le-pow_right {n = 2} (omega arith) {i = w} {j = 64} m in grind arith

module _ (modules : List Module) (top : Module) (parts : List Part) (steps : List Step) (free : List Bool) (most n : ℕ) (plan : IsPlan modules top parts steps free most n)
    (fits : FitsNet modules top) (narrow : (path : Path) (m : Module) (x : ℕ) (s : Signal) → IsAt modules top path m x s → s.width ≤ 64)
    (c : Choice) (few : length c.prefs ≤ most) (choice : FitsChoice modules top c) (f : Flat) (long : length f.numbers ≡ n) (state : IsState modules top (valuation_of parts f)) where
  abbrev pub after : Flat
  after = with_numbers f (settled modules c f steps)

  abbrev pub seen : Valuation
  seen = valuation_of parts after

  abbrev held : Valuation
  held = valuation_of parts f

  holds : (s : Step) → Has steps s → slice_index (settled modules c f steps) s.target ≡ fed modules c after s.feed
  holds s has =
      each_get (λ (t : Step). slice_index (settled modules c f steps) t.target ≡ fed modules c after t.feed) steps has.0 s
      (settled-settles modules c (IsFree free) n steps f long plan.targets plan.ordered) has.1

  abbrev level : Path → ℕ → ℕ
  level path x = rank 0 steps (word_of parts path x)

  abbrev Below : ℕ → Type 0
  Below k = (path : Path) (m : Module) (x : ℕ) (s : Signal) → IsAt modules top path m x s → level path x < k → (seen path).signal x < 2 ^ s.width

  has_below : (k : ℕ) → Below k → (path : Path) (m : Module) → module_at modules top path ≡ Some m → (y w : ℕ) → HasWidth m y w → level path y < k → (seen path).signal y < 2 ^ w
  has_below k b path m stands y w has l = subst (λ u. (seen path).signal y < 2 ^ u) has.wide (b path m y has.signal (record { stands = stands; listed = has.listed }) l)

  words_below : (path : Path) (m : Module) → module_at modules top path ≡ Some m → (j k : ℕ) (s : Memory) → slice_get m.memories j ≡ Some s → k < length s.initial → (seen path).word j k < 2 ^ s.width
  words_below path m stands j k s e l = state.words path m j k s (record { stands = stands; listed = e }) l

  abbrev Right : Path → Module → ℕ → Signal → Source → Type 0
  Right path m x s source = ((seen path).signal x ≡ number modules top held c seen path m x s source) × ((seen path).signal x < 2 ^ s.width)

  -- what a computed step gives and reads
  computed_is : (path : Path) (m : Module) (x : ℕ) (s : Signal) (right : Value) → IsAt modules top path m x s → s.source ≡ Assigned right
      → fed modules c after (Computed (kind_at parts path) x (spot_at parts path)) ≡ word 64 (value m (seen path) right)
  computed_is path m x s right at e =
      ap (module_number (seen path) x) (plan.laid path m at.stands) ∙ ap (signal_number m (seen path)) at.listed ∙ ap (source_number m (seen path)) e

  assigned_right : (k : ℕ) → Below k → (path : Path) (m : Module) (x : ℕ) (s : Signal) (right : Value) → IsAt modules top path m x s → level path x ≤ k → s.source ≡ Assigned right
      → Has steps (step (word_of parts path x) (Computed (kind_at parts path) x (spot_at parts path))) → FitsValue (HasWidth m) (λ j. slice_get m.memories j) s.width right
      → Right path m x s (Assigned right)
  assigned_right k b path m x s right at l e has g =
      let feed = Computed (kind_at parts path) x (spot_at parts path) in
      let below : EachOf (λ y. rank 0 steps y < level path x) (map (λ y. (spot_at parts path).base + y) (operands right)) =
      subst (EachOf (λ y. rank 0 steps y < level path x)) (computed_reads modules top parts steps free most n plan path m x s right at e) (lower modules top parts steps free most n plan (step (word_of parts path x) feed) has) in
      let small : value m (seen path) right < 2 ^ s.width =
      value_below m (seen path) (words_below path m at.stands) s.width right
      (fits_among (HasWidth m) (Fitting m (seen path)) (λ j. slice_get m.memories j) s.width right
      (λ y u i has_width. record {
        has = has_width;
        below = has_below k b path m at.stands y u has_width
            (let z = each_one (λ p. rank 0 steps p < level path x) (spot_at parts path).base (operands right) below y i in omega arith);
      }) g) in
      let same : (seen path).signal x ≡ value m (seen path) right =
      holds (step (word_of parts path x) feed) has ∙ computed_is path m x s right at e ∙ small_word (value m (seen path) right) s.width small (narrow path m x s at) in
      (same, subst (λ (v : ℕ). v < 2 ^ s.width) (sym same) small)

  source_right : (k : ℕ) → Below k → (path : Path) (m : Module) (x : ℕ) (s : Signal) → IsAt modules top path m x s → level path x ≤ k → (source : Source) → s.source ≡ source
      → StandsFor modules top parts steps free most path x s.name source → FitsSource modules top path m x s.width source → Right path m x s source
  source_right k b path m x s at l (Register r) e has g =
      let same : (seen path).signal x ≡ (held path).signal x = settled-known modules c (IsFree free) steps f (word_of parts path x) plan.ordered has in
      (same, subst (λ (v : ℕ). v < 2 ^ s.width) (sym same) (state.registers path m x s at (subst IsRegister (sym e) tt)))
  source_right k b path m x s at l (Assigned right) e has g = assigned_right k b path m x s right at l e has g
  source_right k b path m x s at l (Port i port) e has g =
      let one = step (word_of parts path x) (Copied (word_of parts (i ∷ path) port)) in
      let same : (seen path).signal x ≡ (seen (i ∷ path)).signal port = holds one has in
      (same, subst (λ (v : ℕ). v < 2 ^ s.width) (sym same) (has_below k b (i ∷ path) g.0 g.1 port s.width g.2 (let z = (lower modules top parts steps free most n plan one has).0 in omega arith)))
  source_right k b [] m x s at l Input e has g =
      let same : (seen []).signal x ≡ choice_number c s.name = holds (step (word_of parts [] x) has.0) has.1 ∙ has.2 c after few in
      (same, subst (λ (v : ℕ). v < 2 ^ s.width) (sym same) (choice m x s at e))
  source_right k b (i ∷ outer) m x s at l Input e has g =
      let from = connected modules top (instance_at modules top outer i) x in
      let one = step (word_of parts (i ∷ outer) x) (Copied (word_of parts outer from)) in
      let same : (seen (i ∷ outer)).signal x ≡ (seen outer).signal from = holds one has in
      (same, subst (λ (v : ℕ). v < 2 ^ s.width) (sym same) (has_below k b outer g.0 g.1 from s.width g.2 (let z = (lower modules top parts steps free most n plan one has).0 in omega arith)))

  all_below : (k : ℕ) → Below k
  all_below zero path m x s at l = absurd (omega arith)
  all_below (suc k) path m x s at l = (source_right k (all_below k) path m x s at (omega arith) s.source refl (plan.feeds path m x s at) (fits path m x s at)).1

  pub flat_settled : IsSettled modules top held c seen
  flat_settled = record {
    signals = λ path m x s at. (source_right (level path x) (all_below (level path x)) path m x s at (omega arith) s.source refl (plan.feeds path m x s at) (fits path m x s at)).0;
    within = λ path m x s at. all_below (suc (level path x)) path m x s at (omega arith);
    words = λ path j k. refl;
  }
