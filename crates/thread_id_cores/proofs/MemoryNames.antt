-- The memories of the core have other names than its signals: those are named by their places, and the first is the clock.
use Rattle.std.proofs.Common.{◌≡◌, ℕ, false, List, ◌∷◌, [], slice_get, Some, sym, ◌∙◌, refl, arith}
use Rattle.std.specs.Prelude.{codes, decimal}
use Rattle.std.proofs.lemmas.Fmt.{decimal_digit}
use Rattle.verilog_tree.specs.Scope.{is_clk}
use Rattle.netlist.specs.declared.netlist.Signal.{Signal}
use Rattle.netlist.specs.declared.netlist.Module.{Module}
use Rattle.netlist.specs.Laid.{AreApart, signal_names, declared_names}
use Rattle.circuit.proofs.MemoryNames.{IsUnlike, among_names, two_memories}
use Rattle.circuit.proofs.RowModules.{behind_dash}
use Rattle.thread_id_cores.specs.ThreadIds.{status_memory, argument_memory}

module _ (m : Module) (n : ℕ) (memories : m.memories ≡ status_memory n ∷ argument_memory n ∷ []) (instances : m.instances ≡ [])
    (none : (x : ℕ) (s : Signal) → slice_get m.signals x ≡ Some s → (y : List ℕ) → s.name ≡ y → behind_dash y ≡ decimal 0 → is_clk y ≡ false → ⊥) where
  unlike : (y : List ℕ) → behind_dash y ≡ 48 ∷ [] → is_clk y ≡ false → IsUnlike (signal_names m) y
  unlike y z other i x h q =
      let s = among_names m.signals i x h in none i s.0 s.1 y (sym s.2 ∙ q) (z ∙ sym (decimal_digit 0 (omega arith))) other

  pub memories_apart : AreApart (signal_names m) → AreApart (declared_names m)
  memories_apart apart =
      two_memories m instances (status_memory n) (argument_memory n) memories apart (unlike (codes "status_0") refl refl) (unlike (codes "argument_0") refl refl)
      (λ (e : codes "status_0" ≡ codes "argument_0"). cc)
