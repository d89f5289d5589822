-- States that agree in each instance are the same, where nothing stands deeper and the outermost module holds nothing.
use Rattle.std.proofs.Common.{◌≡◌, ◌<◌, ℕ, List, [], ◌∷◌, ◌++◌, length, Some, slice_get, refl, sym, ap, ◌∙◌, subst}
use Rattle.std.proofs.lemmas.List.{append-nil}
use Rattle.lists.proofs.Places.{get_nothing}
use Rattle.netlist.specs.declared.netlist.Signal.{Signal}
use Rattle.netlist.specs.declared.netlist.Memory.{Memory}
use Rattle.netlist.specs.declared.netlist.Module.{Module}
use Rattle.verilog_meaning.specs.Readings.{Reading}
use Rattle.verilog_meaning.specs.Cycles.{Path, Valuation, module_at, IsAt, HasMemory, IsRegister, IsSameIn, IsSameAt}
use Rattle.circuit.specs.Modules.{Agree}
use Rattle.law_net.specs.Steady.{HoldsNothing}

-- whatever holds nothing agrees
pub nothing_agrees : (m : Module) (h g : Reading) → HoldsNothing m → Agree m h g
nothing_agrees m h g holds = record {
  registers = λ x s e i. absurd (holds.registers x s e i);
  words = λ j k s e l. absurd (get_nothing m.memories j s holds.memories e);
}

module _ (modules : List Module) (top : Module) (shallow : (i j : ℕ) (rest : Path) (m : Module) → module_at modules top (i ∷ j ∷ rest) ≡ Some m → ⊥) where
  module _ (h g : Valuation) where
    -- ---- one instance

    module _ (j : ℕ) (agrees : (m : Module) → module_at modules top (j ∷ []) ≡ Some m → Agree m (h (j ∷ [])) (g (j ∷ []))) where
      there_register : (path : Path) (k : Module) (x : ℕ) (s : Signal) → IsAt modules top (path ++ j ∷ []) k x s → IsRegister s.source →
          (h (path ++ j ∷ [])).signal x ≡ (g (path ++ j ∷ [])).signal x
      there_register [] k x s at i = (agrees k at.stands).registers x s at.listed i
      there_register (a ∷ []) k x s at i = absurd (shallow a j [] k at.stands)
      there_register (a ∷ b ∷ path) k x s at i = absurd (shallow a b (path ++ j ∷ []) k at.stands)

      there_word : (path : Path) (k : Module) (i n : ℕ) (s : Memory) → HasMemory modules top (path ++ j ∷ []) k i s → n < length s.initial →
          (h (path ++ j ∷ [])).word i n ≡ (g (path ++ j ∷ [])).word i n
      there_word [] k i n s at l = (agrees k at.stands).words i n s at.listed l
      there_word (a ∷ []) k i n s at l = absurd (shallow a j [] k at.stands)
      there_word (a ∷ b ∷ path) k i n s at l = absurd (shallow a b (path ++ j ∷ []) k at.stands)

      pub same_in : IsSameIn modules top (j ∷ []) h g
      same_in = record { registers = there_register; words = there_word }

    pub agrees_in : (j : ℕ) → IsSameIn modules top (j ∷ []) h g → (m : Module) → module_at modules top (j ∷ []) ≡ Some m → Agree m (h (j ∷ [])) (g (j ∷ []))
    agrees_in j same m at = record {
      registers = λ x s e i. same.registers [] m x s (record { stands = at; listed = e }) i;
      words = λ k n s e l. same.words [] m k n s (record { stands = at; listed = e }) l;
    }

    -- ---- one path: the outermost module holds nothing, and nothing stands deeper than its instances

    module _ (outside : HoldsNothing top) where
      at_register : (path : Path) → ((j : ℕ) → path ≡ j ∷ [] → (m : Module) → module_at modules top (j ∷ []) ≡ Some m → Agree m (h (j ∷ [])) (g (j ∷ []))) →
          (k : Module) (x : ℕ) (s : Signal) → IsAt modules top path k x s → IsRegister s.source → (h path).signal x ≡ (g path).signal x
      at_register [] agrees k x s at i =
          let one : Some top ≡ Some k = at.stands in
          let same : top ≡ k = cc in
          absurd (outside.registers x s (ap (λ (z : Module). slice_get z.signals x) same ∙ at.listed) i)
      at_register (j ∷ []) agrees k x s at i = (agrees j refl k at.stands).registers x s at.listed i
      at_register (a ∷ b ∷ path) agrees k x s at i = absurd (shallow a b path k at.stands)

      at_word : (path : Path) → ((j : ℕ) → path ≡ j ∷ [] → (m : Module) → module_at modules top (j ∷ []) ≡ Some m → Agree m (h (j ∷ [])) (g (j ∷ []))) →
          (k : Module) (i n : ℕ) (s : Memory) → HasMemory modules top path k i s → n < length s.initial → (h path).word i n ≡ (g path).word i n
      at_word [] agrees k i n s at l =
          let one : Some top ≡ Some k = at.stands in
          let same : top ≡ k = cc in
          absurd (get_nothing top.memories i s outside.memories (ap (λ (z : Module). slice_get z.memories i) same ∙ at.listed))
      at_word (j ∷ []) agrees k i n s at l = (agrees j refl k at.stands).words i n s at.listed l
      at_word (a ∷ b ∷ path) agrees k i n s at l = absurd (shallow a b path k at.stands)

      pub same_at : (path : Path) → ((j : ℕ) → path ≡ j ∷ [] → (m : Module) → module_at modules top (j ∷ []) ≡ Some m → Agree m (h (j ∷ [])) (g (j ∷ []))) →
          IsSameAt modules top path h g
      same_at path agrees = record { registers = at_register path agrees; words = at_word path agrees }

    -- ---- the whole net

    module _ (outside : HoldsNothing top) (agrees : (j : ℕ) (m : Module) → module_at modules top (j ∷ []) ≡ Some m → Agree m (h (j ∷ [])) (g (j ∷ []))) where
      there : (path : Path) → IsSameAt modules top path h g
      there path = same_at outside path (λ j is m at. agrees j m at)

      pub same_all : IsSameIn modules top [] h g
      same_all = record {
        registers = λ path k x s at i.
            let There : Path → Type 0 = λ q. IsAt modules top q k x s → (h q).signal x ≡ (g q).signal x in
            subst There (sym (append-nil path)) (λ at. (there path).registers k x s at i) at;
        words = λ path k i n s at l.
            let There : Path → Type 0 = λ q. HasMemory modules top q k i s → (h q).word i n ≡ (g q).word i n in
            subst There (sym (append-nil path)) (λ at. (there path).words k i n s at l) at;
      }

    -- what is the same everywhere agrees in each instance
    pub agrees_all : IsSameIn modules top [] h g → (j : ℕ) (m : Module) → module_at modules top (j ∷ []) ≡ Some m → Agree m (h (j ∷ [])) (g (j ∷ []))
    agrees_all same j m at = record {
      registers = λ x s e i. same.registers (j ∷ []) m x s (record { stands = at; listed = e }) i;
      words = λ k n s e l. same.words (j ∷ []) m k n s (record { stands = at; listed = e }) l;
    }
