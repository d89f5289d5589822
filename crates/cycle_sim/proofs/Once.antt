-- In a net that settles each state in one way, as one with levels does, a cycle has one next state and one output.
use Rattle.std.specs.Prelude.{◌≡◌, ℕ, ◌⊎◌, List, [], ◌∷◌, ◌++◌, Option, Some, None, refl}
use Rattle.std.proofs.Common.{ap, sym, ◌∙◌, subst, inl, inr, ⊎_elim}
use Rattle.netlist.specs.declared.netlist.Signal.{Signal}
use Rattle.netlist.specs.declared.netlist.Memory.{Memory}
use Rattle.netlist.specs.declared.netlist.Module.{Module}
use Rattle.verilog_meaning.specs.Readings.{register_after, word_after}
use Rattle.verilog_meaning.specs.Cycles.{Path, Valuation, Choice, choice_number, module_at, IsAt, HasMemory, IsSettled, IsSameIn, Cycle, Runs, IsWritten, next_at, next_state, written_at}
use Rattle.verilog_meaning.proofs.OneSettled.{IsLevelled, settled-same}
use Rattle.circuit.specs.Modules.{Has}
use Rattle.circuit.specs.Nets.{FitsStatements}
use Rattle.cycle_sim.proofs.Same.{same_sym, same_trans, cycle_moved}
use Rattle.cycle_sim.proofs.EdgeReads.{register_same, word_same, bytes_same}

-- a state and a choice have at most one settled valuation
abbrev pub SettlesInOneWay : List Module → Module → Type 0
SettlesInOneWay modules top =
    (h : Valuation) (c : Choice) (v w : Valuation) → IsSettled modules top h c v → IsSettled modules top h c w → (path : Path) (m : Module) (x : ℕ) (s : Signal)
    → IsAt modules top path m x s → (v path).signal x ≡ (w path).signal x

-- so it is where a net has levels
pub settles : (modules : List Module) (top : Module) (rank : Path → ℕ → ℕ) → IsLevelled modules top rank → SettlesInOneWay modules top
settles modules top rank is h c v w a b path m x s at = settled-same modules top h (choice_number c) rank is v w a b (path, x) (record { holder = m; signal = s; at = at })

module _ (modules : List Module) (top : Module) (settled : SettlesInOneWay modules top) (statements : FitsStatements modules top) where
  module _ (h : Valuation) (c : Choice) (v w : Valuation) (a : IsSettled modules top h c v) (b : IsSettled modules top h c w) where
    has_same : (path : Path) (m : Module) → module_at modules top path ≡ Some m → (x u : ℕ) → Has m x u → (v path).signal x ≡ (w path).signal x
    has_same path m stands x u has = settled h c v w a b path m x has.signal (record { stands = stands; listed = has.listed })

    next_register : (path : Path) (m : Module) (x : ℕ) (s : Signal) → IsAt modules top path m x s → (next_state modules top v path).signal x ≡ (next_state modules top w path).signal x
    next_register path m x s at =
        subst (λ o. (next_at modules top o (v path)).signal x ≡ (next_at modules top o (w path)).signal x) (sym at.stands)
        (register_same m (v path) (w path) (has_same path m at.stands) m.actions (statements.acts path m at.stands) x ((v path).signal x)
        ∙ ap (register_after (w path) m.actions x) (settled h c v w a b path m x s at))

    next_word : (path : Path) (m : Module) (j k : ℕ) (s : Memory) → HasMemory modules top path m j s → (next_state modules top v path).word j k ≡ (next_state modules top w path).word j k
    next_word path m j k s at =
        subst (λ o. (next_at modules top o (v path)).word j k ≡ (next_at modules top o (w path)).word j k) (sym at.stands)
        (word_same m (v path) (w path) (has_same path m at.stands) m.actions (statements.acts path m at.stands) j k ((v path).word j k)
        ∙ ap (word_after (w path) m.actions j k) (a.words path j k ∙ sym (b.words path j k)))

    pub next_same : IsSameIn modules top [] (next_state modules top v) (next_state modules top w)
    next_same = record {
      registers = λ path m x s at i. next_register (path ++ []) m x s at;
      words = λ path m j k s at l. next_word (path ++ []) m j k s at;
    }

    written_there : (path : Path) (o : Option Module) → module_at modules top path ≡ o → written_at modules top v path o ≡ written_at modules top w path o
    written_there path None e = refl
    written_there path (Some m) e = bytes_same m (v path) (w path) (has_same path m e) m.actions (statements.acts path m e)

    written_here : (path : Path) → written_at modules top v path (module_at modules top path) ≡ written_at modules top w path (module_at modules top path)
    written_here path = written_there path (module_at modules top path) refl

    -- what one of them writes is nothing or what the other writes
    one_way : (out more : List ℕ) → IsWritten modules top v out → IsWritten modules top w more → (out ≡ []) ⊎ (out ≡ more)
    one_way out more d e =
        ⊎_elim (λ none. inl none)
        (λ p. ⊎_elim (λ none. inl (sym p.1 ∙ written_here p.0 ∙ none)) (λ some. inr (sym p.1 ∙ written_here p.0 ∙ some)) (e.each p.0))
        d.one

    other_way : (out more : List ℕ) → IsWritten modules top v out → IsWritten modules top w more → (more ≡ []) ⊎ (more ≡ out)
    other_way out more d e =
        ⊎_elim (λ none. inl none)
        (λ p. ⊎_elim (λ none. inl (sym p.1 ∙ sym (written_here p.0) ∙ none)) (λ some. inr (sym p.1 ∙ sym (written_here p.0) ∙ some)) (d.each p.0))
        e.one

    written_same : (out more : List ℕ) → IsWritten modules top v out → IsWritten modules top w more → out ≡ more
    written_same out more d e =
        ⊎_elim (λ none. ⊎_elim (λ nothing. none ∙ sym nothing) (λ same. sym same) (other_way out more d e)) (λ same. same) (one_way out more d e)

  pub once : (h g k : Valuation) (c : Choice) (out more : List ℕ) → Cycle modules top h c g out → Cycle modules top h c k more → IsSameIn modules top [] g k × (out ≡ more)
  once h g k c out more a b = (
    same_trans modules top g (next_state modules top a.through) k (same_sym modules top (next_state modules top a.through) g a.next)
        (same_trans modules top (next_state modules top a.through) (next_state modules top b.through) k (next_same h c a.through b.through a.settled b.settled) b.next),
    written_same h c a.through b.through a.settled b.settled out more a.written b.written,
  )

  pub alike : (h l g k : Valuation) (c : Choice) (out more : List ℕ) → IsSameIn modules top [] h l → Cycle modules top h c g out → Cycle modules top l c k more
      → IsSameIn modules top [] g k × (out ≡ more)
  alike h l g k c out more same a b = once h g k c out more a (cycle_moved modules top h l same c k more b)

  pub runs_once : (choices : List Choice) (h l g k : Valuation) (out more : List ℕ) → IsSameIn modules top [] h l → Runs modules top h choices g out → Runs modules top l choices k more
      → IsSameIn modules top [] g k × (out ≡ more)
  runs_once [] h l g k out more same a b =
      (same_trans modules top g h k (same_sym modules top h g a.0) (same_trans modules top h l k same b.0), a.1 ∙ sym b.1)
  runs_once (c ∷ choices) h l g k out more same a b =
      let first = alike h l a.0 b.0 c a.1 b.1 same a.3 b.3 in
      let rest = runs_once choices a.0 b.0 g k a.2 b.2 first.0 a.4 b.4 in
      (rest.0, a.5 ∙ ap (λ z. z ++ a.2) first.1 ∙ ap (λ z. b.1 ++ z) rest.1 ∙ sym b.5)
