-- A net in a wrapper: what is settled, what an edge leaves and what it writes is that of the wrapper and that of the net inside.
use Rattle.std.proofs.Common.{◌≡◌, ℕ, ◌^◌, ◌<◌, ◌⊎◌, List, [], ◌∷◌, ◌++◌, length, Option, Some, None, refl, sym, ap, ◌∙◌, subst, inl, inr, ⊎_elim}
use Rattle.std.specs.Prelude.{slice_get}
use Rattle.std.proofs.lemmas.List.{append-nil}
use Rattle.std.proofs.lemmas.Option.{same_Some, none-some}
use Rattle.netlist.specs.declared.netlist.Source.{Source}
use Rattle.netlist.specs.declared.netlist.Source.TheVariants.{Input, Register, Assigned, Port}
use Rattle.netlist.specs.declared.netlist.Signal.{Signal}
use Rattle.netlist.specs.declared.netlist.Memory.{Memory}
use Rattle.netlist.specs.declared.netlist.Instance.{Instance}
use Rattle.netlist.specs.declared.netlist.Module.{Module}
use Rattle.verilog_meaning.specs.Readings.{Reading, written}
use Rattle.verilog_meaning.specs.Cycles.{Path, Valuation, Choice, IsRegister, module_at, instance_at, connected, choice_number, IsAt, HasMemory}
use Rattle.verilog_meaning.specs.Cycles.{input_number, number, IsSettled, IsSameIn, next_at, next_state, written_at, IsWritten}
use Rattle.law_net.specs.Alike.{held}
use Rattle.law_net.proofs.Paths.{inside, IsWrapper, module_inside, instance_inside, signal_inside, memory_inside, each_spot}

-- ---- the same state, without the empty path behind

module _ (modules : List Module) (top : Module) where
  pub register_at : (h g : Valuation) → IsSameIn modules top [] h g → (path : Path) (m : Module) (x : ℕ) (s : Signal) → IsAt modules top path m x s → IsRegister s.source
      → (h path).signal x ≡ (g path).signal x
  register_at h g same path m x s at is =
      let There : Path → Type 0 = λ q. IsAt modules top q m x s → (h q).signal x ≡ (g q).signal x in
      subst There (append-nil path) (λ there. same.registers path m x s there is) at

  pub word_at : (h g : Valuation) → IsSameIn modules top [] h g → (path : Path) (m : Module) (j k : ℕ) (s : Memory) → HasMemory modules top path m j s → k < length s.initial
      → (h path).word j k ≡ (g path).word j k
  word_at h g same path m j k s at l =
      let There : Path → Type 0 = λ q. HasMemory modules top q m j s → (h q).word j k ≡ (g q).word j k in
      subst There (append-nil path) (λ there. same.words path m j k s there l) at

  -- the same readings everywhere
  pub same_each : (h g : Valuation) → ((path : Path) → h path ≡ g path) → IsSameIn modules top [] h g
  same_each h g e = record {
    registers = λ path m x s at is. ap (λ (r : Reading). r.signal x) (e (path ++ []));
    words = λ path m j k s at l. ap (λ (r : Reading). r.word j k) (e (path ++ []));
  }

-- an outermost module's own signals in a settled valuation, and all words
pub record IsOwn (modules : List Module) (wrapper : Module) (h : Valuation) (c : Choice) (v : Valuation) : Type 0 where
  pub signals : (x : ℕ) (s : Signal) → slice_get wrapper.signals x ≡ Some s → (v []).signal x ≡ number modules wrapper h c v [] wrapper x s s.source
  pub within : (x : ℕ) (s : Signal) → slice_get wrapper.signals x ≡ Some s → (v []).signal x < 2 ^ s.width
  pub words : (path : Path) (j k : ℕ) → (v path).word j k ≡ (h path).word j k

module _ (modules : List Module) (wrapper top : Module) (is : IsWrapper modules wrapper top) where
  -- ---- states

  pub same_inside : (h g : Valuation) → IsSameIn modules wrapper [] h g → IsSameIn modules top [] (held h) (held g)
  same_inside h g same = record {
    registers = λ path m x s at r. register_at modules wrapper h g same (inside (path ++ [])) m x s (signal_inside modules wrapper top is (path ++ []) m x s at) r;
    words = λ path m j k s at l. word_at modules wrapper h g same (inside (path ++ [])) m j k s (memory_inside modules wrapper top is (path ++ []) m j s at) l;
  }

  -- the registers of the wrapper itself
  abbrev pub SameOwn : Valuation → Valuation → Type 0
  SameOwn h g = (x : ℕ) (s : Signal) → slice_get wrapper.signals x ≡ Some s → IsRegister s.source → (h []).signal x ≡ (g []).signal x

  pub same_outside : wrapper.memories ≡ [] → (h g : Valuation) → SameOwn h g → IsSameIn modules top [] (held h) (held g) → IsSameIn modules wrapper [] h g
  same_outside none h g own same = record {
    registers = λ p m x s at r.
        each_spot modules wrapper top is (λ p m. slice_get m.signals x ≡ Some s → (h p).signal x ≡ (g p).signal x)
        (λ listed. own x s listed r)
        (λ path m stands listed. register_at modules top (held h) (held g) same path m x s (record { stands = stands; listed = listed }) r)
        (p ++ []) m at.stands at.listed;
    words = λ p m j k s at l.
        each_spot modules wrapper top is (λ p m. slice_get m.memories j ≡ Some s → (h p).word j k ≡ (g p).word j k)
        (λ listed. absurd (none-some s (ap (λ (ms : List Memory). slice_get ms j) (sym none) ∙ listed)))
        (λ path m stands listed. word_at modules top (held h) (held g) same path m j k s (record { stands = stands; listed = listed }) l)
        (p ++ []) m at.stands at.listed;
  }

  -- ---- settled valuations

  -- the instance of top gets the numbers that a choice has for top
  abbrev pub IsFed : Valuation → Choice → Type 0
  IsFed v d =
      (x : ℕ) (s : Signal) → slice_get top.signals x ≡ Some s → s.source ≡ Input
      → (v []).signal (connected modules wrapper (instance_at modules wrapper [] 0) x) ≡ choice_number d s.name

  connected_same : (o : Option Instance) (x : ℕ) → connected modules wrapper o x ≡ connected modules top o x
  connected_same None x = refl
  connected_same (Some n) x = refl

  module _ (h v : Valuation) (c d : Choice) (fed : IsFed v d) where
    input_inside : (path : Path) (m : Module) (x : ℕ) (s : Signal) → IsAt modules top path m x s → s.source ≡ Input
        → input_number modules wrapper c v (inside path) x s ≡ input_number modules top d (held v) path x s
    input_inside [] m x s at input =
        let same : top ≡ m = same_Some top m at.stands in
        fed x s (ap (λ (z : Module). slice_get z.signals x) same ∙ at.listed) input
    input_inside (i ∷ outer) m x s at input =
        ap (λ (z : ℕ). (v (inside outer)).signal z)
        (connected_same (instance_at modules wrapper (inside outer) i) x ∙ ap (λ (o : Option Instance). connected modules top o x) (instance_inside modules wrapper top is outer i))

    number_inside : (path : Path) (m : Module) (x : ℕ) (s : Signal) → IsAt modules top path m x s → (from : Source) → s.source ≡ from
        → number modules wrapper h c v (inside path) m x s from ≡ number modules top (held h) d (held v) path m x s from
    number_inside path m x s at Input e = input_inside path m x s at e
    number_inside path m x s at (Register n) e = refl
    number_inside path m x s at (Assigned right) e = refl
    number_inside path m x s at (Port i port) e = refl

    pub settled_inside : IsSettled modules wrapper h c v → IsSettled modules top (held h) d (held v)
    settled_inside settled = record {
      signals = λ path m x s at. settled.signals (inside path) m x s (signal_inside modules wrapper top is path m x s at) ∙ number_inside path m x s at s.source refl;
      within = λ path m x s at. settled.within (inside path) m x s (signal_inside modules wrapper top is path m x s at);
      words = λ path j k. settled.words (inside path) j k;
    }

    pub settled_outside : IsOwn modules wrapper h c v → IsSettled modules top (held h) d (held v) → IsSettled modules wrapper h c v
    settled_outside own settled = record {
      signals = λ p m x s at.
          each_spot modules wrapper top is (λ p m. slice_get m.signals x ≡ Some s → (v p).signal x ≡ number modules wrapper h c v p m x s s.source)
          (own.signals x s)
          (λ path m stands listed.
          let there : IsAt modules top path m x s = record { stands = stands; listed = listed } in
          settled.signals path m x s there ∙ sym (number_inside path m x s there s.source refl))
          p m at.stands at.listed;
      within = λ p m x s at.
          each_spot modules wrapper top is (λ p m. slice_get m.signals x ≡ Some s → (v p).signal x < 2 ^ s.width)
          (own.within x s)
          (λ path m stands listed. settled.within path m x s (record { stands = stands; listed = listed }))
          p m at.stands at.listed;
      words = own.words;
    }

  -- ---- edges

  next_same : (o : Option Module) (r : Reading) → next_at modules wrapper o r ≡ next_at modules top o r
  next_same None r = refl
  next_same (Some m) r = refl

  pub next_inside : (v : Valuation) (path : Path) → next_state modules wrapper v (inside path) ≡ next_state modules top (held v) path
  next_inside v path =
      next_same (module_at modules wrapper (inside path)) (v (inside path))
      ∙ ap (λ (o : Option Module). next_at modules top o (v (inside path))) (module_inside modules wrapper top is path)

  -- ---- bytes

  written_same : (v : Valuation) (path : Path) (o : Option Module) → written_at modules wrapper v (inside path) o ≡ written_at modules top (held v) path o
  written_same v path None = refl
  written_same v path (Some m) = refl

  module _ (v : Valuation) (silent : written wrapper (v []) ≡ []) where
    abbrev Outer : Path → Option Module → List ℕ
    Outer = written_at modules wrapper v

    abbrev Inner : Path → Option Module → List ℕ
    Inner = written_at modules top (held v)

    written_inside : (path : Path) → Outer (inside path) (module_at modules wrapper (inside path)) ≡ Inner path (module_at modules top path)
    written_inside path = written_same v path (module_at modules wrapper (inside path)) ∙ ap (Inner path) (module_inside modules wrapper top is path)

    -- what the instance at a path writes is nothing, or what one inside writes
    where_written : (out : List ℕ) (p : Path) (o : Option Module) → module_at modules wrapper p ≡ o → Outer p o ≡ out
        → (out ≡ []) ⊎ ((path : Path) × (Inner path (module_at modules top path) ≡ out))
    where_written out p None e w = inl (sym w)
    where_written out p (Some m) e w =
        each_spot modules wrapper top is (λ p m. Outer p (Some m) ≡ out → (out ≡ []) ⊎ ((path : Path) × (Inner path (module_at modules top path) ≡ out)))
        (λ here. inl (sym here ∙ silent))
        (λ path m stands there. inr (path, ap (Inner path) stands ∙ there))
        p m e w

    pub wrote_inside : (out : List ℕ) → IsWritten modules wrapper v out → IsWritten modules top (held v) out
    wrote_inside out w = record {
      each = λ path. ⊎_elim (λ e. inl (sym (written_inside path) ∙ e)) (λ e. inr (sym (written_inside path) ∙ e)) (w.each (inside path));
      one = ⊎_elim (λ e. inl e) (λ p. where_written out p.0 (module_at modules wrapper p.0) refl p.1) w.one;
    }

    each_written : (out : List ℕ) → IsWritten modules top (held v) out → (p : Path) (o : Option Module) → module_at modules wrapper p ≡ o → (Outer p o ≡ []) ⊎ (Outer p o ≡ out)
    each_written out w p None e = inl refl
    each_written out w p (Some m) e =
        each_spot modules wrapper top is (λ p m. (Outer p (Some m) ≡ []) ⊎ (Outer p (Some m) ≡ out))
        (inl silent)
        (λ path m stands. subst (λ (o : Option Module). (Inner path o ≡ []) ⊎ (Inner path o ≡ out)) stands (w.each path))
        p m e

    pub wrote_outside : (out : List ℕ) → IsWritten modules top (held v) out → IsWritten modules wrapper v out
    wrote_outside out w = record {
      each = λ p. each_written out w p (module_at modules wrapper p) refl;
      one = ⊎_elim (λ e. inl e) (λ p. inr (inside p.0, written_inside p.0 ∙ p.1)) w.one;
    }
