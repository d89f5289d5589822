-- A net whose signals have levels, each reading only lower ones, has exactly one settled valuation of each state and choice,
-- where its widths fit.
use Rattle.std.proofs.Common.{◌≡◌, ℕ, ◌<◌, List, [], ◌∷◌, Option, Some, None, slice_get, refl, ap, sym, ◌∙◌}
use Rattle.netlist.specs.declared.netlist.Signal.{Signal}
use Rattle.netlist.specs.declared.netlist.Source.{Source}
use Rattle.netlist.specs.declared.netlist.Source.TheVariants.{Input, Register, Assigned, Port}
use Rattle.netlist.specs.declared.netlist.Module.{Module}
use Rattle.verilog_meaning.specs.Cycles.{Path, Valuation, Given, module_at, instance_at, connected, number_given, IsAt, IsSettledGiven}
use Rattle.verilog_meaning.specs.Threads.{Place, Names, operands}
use Rattle.verilog_meaning.proofs.Ranked.{IsCausal, solution, solution-holds, solution-unique}
use Rattle.verilog_meaning.proofs.Operands.{Agree, same_value}

module _ (modules : List Module) (top : Module) where
  -- a signal of the net
  pub record IsDeclared (p : Place) : Type 0 where
    pub holder : Module
    pub signal : Signal
    pub at : IsAt modules top p.0 holder p.1 signal

  -- all that a signal's equation names is declared, and of lower level
  abbrev pub IsLevelled : (Path → ℕ → ℕ) → Type 0
  IsLevelled level = (path : Path) (m : Module) (x : ℕ) (s : Signal) → IsAt modules top path m x s → (q : Place) → Names modules top path x s.source q → IsDeclared q × (level q.0 q.1 < level path x)

  module _ (h : Valuation) (given : Given) (level : Path → ℕ → ℕ) (levelled : IsLevelled level) where
    -- the valuation of these numbers, with the words of the state
    abbrev pub seen : (Place → ℕ) → Valuation
    seen f path = record { signal = λ x. f (path, x); word = (h path).word }

    abbrev pub rank : Place → ℕ
    rank p = level p.0 p.1

    abbrev pub of_signal : (Place → ℕ) → Place → Module → Option Signal → ℕ
    of_signal f p m None = 0
    of_signal f p m (Some s) = number_given modules top h given (seen f) p.0 m p.1 s s.source

    abbrev pub of_module : (Place → ℕ) → Place → Option Module → ℕ
    of_module f p None = 0
    of_module f p (Some m) = of_signal f p m (slice_get m.signals p.1)

    abbrev pub equation : Place → (Place → ℕ) → ℕ
    equation p f = of_module f p (module_at modules top p.0)

    equation_is : (f : Place → ℕ) (p : Place) (m : Module) (s : Signal) → IsAt modules top p.0 m p.1 s → equation p f ≡ number_given modules top h given (seen f) p.0 m p.1 s s.source
    equation_is f p m s at = ap (of_module f p) at.stands ∙ ap (of_signal f p m) at.listed

    -- a source gives the same in two valuations that agree at what it names
    same_number : (f g : Place → ℕ) (path : Path) (m : Module) (x : ℕ) (s : Signal) (source : Source) → ((q : Place) → Names modules top path x source q → f q ≡ g q)
        → number_given modules top h given (seen f) path m x s source ≡ number_given modules top h given (seen g) path m x s source
    same_number f g path m x s (Register n) same = refl
    same_number f g path m x s (Assigned right) same =
        let agree : Agree (operands right) (seen f path) (seen g path) = record { signals = λ y i. same (path, y) (refl, i); words = λ j k. refl } in
        same_value m (seen f path) (seen g path) right agree
    same_number f g path m x s (Port i port) same = same (i ∷ path, port) (refl, refl)
    same_number f g [] m x s Input same = refl
    same_number f g (i ∷ outer) m x s Input same = same (outer, connected modules top (instance_at modules top outer i) x) (refl, refl)

    causal : IsCausal IsDeclared rank equation
    causal p t f g same =
        equation_is f p t.holder t.signal t.at
        ∙ same_number f g p.0 t.holder p.1 t.signal t.signal.source (λ q names. let l = levelled p.0 t.holder p.1 t.signal t.at q names in same q l.0 l.1)
        ∙ sym (equation_is g p t.holder t.signal t.at)

    abbrev pub solved : Place → ℕ
    solved = solution Place IsDeclared rank equation

    pub solved-signals : (path : Path) (m : Module) (x : ℕ) (s : Signal) → IsAt modules top path m x s → (seen solved path).signal x ≡ number_given modules top h given (seen solved) path m x s s.source
    solved-signals path m x s at =
        solution-holds Place IsDeclared rank equation causal (path, x) (record { holder = m; signal = s; at = at })
        ∙ equation_is solved (path, x) m s at

    -- a number by its source is the same in a valuation with the state's words and in its signals alone
    flat_number : (v : Valuation) → ((path : Path) (j k : ℕ) → (v path).word j k ≡ (h path).word j k) → (path : Path) (m : Module) (x : ℕ) (s : Signal) (source : Source)
        → number_given modules top h given v path m x s source ≡ number_given modules top h given (seen (λ p. (v p.0).signal p.1)) path m x s source
    flat_number v words path m x s (Register n) = refl
    flat_number v words path m x s (Assigned right) =
        let agree : Agree (operands right) (v path) (seen (λ p. (v p.0).signal p.1) path) = record { signals = λ y i. refl; words = words path } in
        same_value m (v path) (seen (λ p. (v p.0).signal p.1) path) right agree
    flat_number v words path m x s (Port i port) = refl
    flat_number v words [] m x s Input = refl
    flat_number v words (i ∷ outer) m x s Input = refl

    flat_holds : (v : Valuation) → IsSettledGiven modules top h given v → (p : Place) → IsDeclared p → (v p.0).signal p.1 ≡ equation p (λ q. (v q.0).signal q.1)
    flat_holds v settled p t =
        settled.signals p.0 t.holder p.1 t.signal t.at
        ∙ flat_number v settled.words p.0 t.holder p.1 t.signal t.signal.source
        ∙ sym (equation_is (λ q. (v q.0).signal q.1) p t.holder t.signal t.at)

    pub settled-same : (v w : Valuation) → IsSettledGiven modules top h given v → IsSettledGiven modules top h given w → (p : Place) → IsDeclared p → (v p.0).signal p.1 ≡ (w p.0).signal p.1
    settled-same v w sv sw =
        solution-unique Place IsDeclared rank equation causal (λ q. (v q.0).signal q.1) (λ q. (w q.0).signal q.1) (flat_holds v sv) (flat_holds w sw)
