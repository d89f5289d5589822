-- A net that is laid out and ordered stands in the words of its simulator.
use Rattle.std.specs.Prelude.{◌≡◌, ℕ, true, ◌+◌, ◌<◌, ◌^◌, Bool, List, [], ◌∷◌, ◌++◌, length, slice_index, slice_get, refl}
use Rattle.std.proofs.Common.{ap, sym, ◌∙◌, subst, ⊎_elim}
use Rattle.netlist.specs.declared.netlist.Source.{Source}
use Rattle.netlist.specs.declared.netlist.Source.TheVariants.{Input, Register, Assigned, Port}
use Rattle.netlist.specs.declared.netlist.Signal.{Signal}
use Rattle.netlist.specs.declared.netlist.Memory.{Memory}
use Rattle.netlist.specs.declared.netlist.Module.{Module}
use Rattle.verilog_meaning.specs.Readings.{initial_reading, initial_signal, initial_word, initial_number, or_zero}
use Rattle.verilog_meaning.specs.Cycles.{Path, IsAt, HasMemory, IsState, IsSameIn, initial_state, IsRegister}
use Rattle.circuit.proofs.States.{keeps_states}
use Rattle.sim_values.specs.declared.value.Spot.{Spot}
use Rattle.sim_values.specs.declared.settle.Step.{Step}
use Rattle.sim_values.specs.declared.edge.Part.{Part}
use Rattle.circuit.specs.Rows.{EachOf}
use Rattle.sim_values.specs.Order.{IsMarked, Known, IsOrder}
use Rattle.sim_values.specs.Stands.{place_of, word_of, step, Has, StandsFor, IsPlan}
use Rattle.sim_layout.specs.Placed.{is_register}
use Rattle.cycle_sim.specs.LaidOut.{IsLaidOut, GivesBy}
use Rattle.sim_values.proofs.Orders.{known_by}
use Rattle.cycle_sim.proofs.Laid.{place_same, one_path, found, spot_is, laid, has_step, gives_target, gives_here, register_free}
use Rattle.sim_layout.specs.Running.{Running, running, state_of, IsApart, IsDone}
use Rattle.sim_layout.specs.Rounds.{prefs_of, TakesTurns}
use Rattle.cycle_sim.specs.Opened.{writes_at, IsOne, IsReady}
use Rattle.cycle_sim.proofs.Loopless.{loopless}

module _ {modules : List Module} {t : Module} {parts : List Part} {numbers : List ℕ} {free : List Bool} {words starts : List ℕ} {wires : List Step} {prefs : ℕ}
    (l : IsLaidOut modules t parts numbers free words starts wires prefs)
    (takes : TakesTurns modules t) (counted : prefs ≡ prefs_of modules) (one : IsOne modules parts) (done : ℕ) (done_is : IsDone t parts done) (steps : List Step)
    (ordered : IsOrder modules wires free steps) where
  -- ---- steps

  no_register : (source : Source) → is_register source ≡ true → IsRegister source
  no_register Input e = absurd cc
  no_register (Register n) e = tt
  no_register (Assigned v) e = absurd cc
  no_register (Port i port) e = absurd cc

  listed_step : (path : Path) (m : Module) (x : ℕ) (s : Signal) → IsAt modules t path m x s → (IsRegister s.source → ⊥) →
      (w : Step) × Has steps w × GivesBy modules t parts prefs path x s.name s.source w
  listed_step path m x s at lacks =
      let h = has_step l path m x s at lacks in
      let there : Known (IsMarked free) steps (word_of parts path x) =
      subst (Known (IsMarked free) steps) (gives_target l path x s.name s.source h.step_is h.gives) (ordered.covers h.step_is h.takes) in
      ⊎_elim
      (λ free_there. absurd (lacks (no_register s.source (sym (register_free l path m x s at) ∙ free_there))))
      (λ by. (by.0, by.1, gives_here l path m x s at by.0 (ordered.from by.1.0 by.0 by.1.1) by.2))
      (known_by (IsMarked free) steps (word_of parts path x) there)

  feeds_by : (path : Path) (m : Module) (x : ℕ) (s : Signal) → IsAt modules t path m x s → (source : Source) → s.source ≡ source → StandsFor modules t parts steps free prefs path x s.name source
  feeds_by path m x s at (Register n) e = register_free l path m x s at ∙ ap is_register e
  feeds_by path m x s at (Assigned v) e =
      let h = listed_step path m x s at (λ r. subst IsRegister e r) in
      subst (Has steps) (subst (λ so. GivesBy modules t parts prefs path x s.name so h.0) e h.2) h.1
  feeds_by path m x s at (Port i port) e =
      let h = listed_step path m x s at (λ r. subst IsRegister e r) in
      subst (Has steps) (subst (λ so. GivesBy modules t parts prefs path x s.name so h.0) e h.2) h.1
  feeds_by [] m x s at Input e =
      let h = listed_step [] m x s at (λ r. subst IsRegister e r) in
      let g = subst (λ so. GivesBy modules t parts prefs [] x s.name so h.0) e h.2 in
      ((h.0).feed, subst (λ z. Has steps (step z (h.0).feed)) g.0 h.1, g.1.always modules)
  feeds_by (i ∷ outer) m x s at Input e =
      let h = listed_step (i ∷ outer) m x s at (λ r. subst IsRegister e r) in
      subst (Has steps) (subst (λ so. GivesBy modules t parts prefs (i ∷ outer) x s.name so h.0) e h.2) h.1

  plan : IsPlan modules t parts steps free prefs (length numbers)
  plan = record {
    laid = laid l;
    feeds = λ path m x s at. feeds_by path m x s at s.source refl;
    targets = subst (λ n. EachOf (λ (s : Step). s.target < n) steps) l.placed.long ordered.targets;
    ordered = ordered.ordered;
  }

  apart : IsApart modules t parts starts (length numbers) (length words)
  apart = record {
    stands = λ path m at. let f = found l path m at in (f.part, f.is.listed);
    reached = λ q p m is.
        let r = l.tree.grown.reached t l.top_at q p.module (l.placed.each q p is.listed).0 in
        (r.path, place_same l r.path ∙ r.is, r.kind_is ∙ is.kind);
    paths = one_path l;
    signals = l.placed.signals;
    room = l.placed.room;
    words = l.placed.words_apart;
    word_room = l.placed.word_room;
    printer = λ q o p other m k is there a b.
        one q o p other is.listed there.listed (ap writes_at is.kind ∙ a) (ap writes_at there.kind ∙ b);
  }

  abbrev run : Running
  run = running modules parts steps numbers words starts prefs done

  -- ---- the initial state

  same_register : (path : Path) (m : Module) (x : ℕ) (s : Signal) → IsAt modules t path m x s → (initial_state modules t path).signal x ≡ (state_of run path).signal x
  same_register path m x s at =
      let f = found l path m at.stands in
      ap (λ o. (initial_reading o).signal x) at.stands ∙ ap initial_signal at.listed
      ∙ sym (subst (λ (u : Spot). slice_index numbers (u.base + x) ≡ initial_number s.source) (sym (spot_is l path m f)) (l.placed.begins (place_of parts path) f.part m x s f.is at.listed).0)

  same_word : (path : Path) (m : Module) (j k : ℕ) (s : Memory) → HasMemory modules t path m j s → k < length s.initial → (initial_state modules t path).word j k ≡ (state_of run path).word j k
  same_word path m j k s at less =
      let f = found l path m at.stands in
      ap (λ o. (initial_reading o).word j k) at.stands ∙ ap (λ o. initial_word o k) at.listed
      ∙ sym (subst (λ (u : Spot). slice_index words (slice_index starts (u.memories + j) + k) ≡ or_zero (slice_get s.initial k)) (sym (spot_is l path m f))
      (l.placed.word_begins (place_of parts path) f.part m j k s f.is at.listed less))

  begins : IsSameIn modules t [] (initial_state modules t) (state_of run)
  begins = record {
    registers = λ path m x s at i. same_register (path ++ []) m x s at;
    words = λ path m j k s at l. same_word (path ++ []) m j k s at l;
  }

  state : IsState modules t (state_of run)
  state =
      let first = (keeps_states modules t l.right.fits l.right.statements).0 in
      record {
        registers = λ path m x s at i. subst (λ n. n < 2 ^ s.width) (same_register path m x s at) (first.registers path m x s at i);
        words = λ path m j k s at l. subst (λ n. n < 2 ^ s.width) (same_word path m j k s at l) (first.words path m j k s at l);
      }

  pub opened_stands : IsReady run
  opened_stands = record {
    stands = record { top = t; is_top = l.is_top; right = l.right; takes = takes; free = free; plan = plan; apart = apart; state = state; done = done_is };
    prefs_are = counted;
    begins = begins;
    loopless = loopless modules t parts steps free prefs (length numbers) plan;
  }
