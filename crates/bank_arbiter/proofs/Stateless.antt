-- The arbiter has no register.
use Rattle.std.proofs.Common.{◌≡◌, ℕ, zero, suc, Bool, true, false, List, [], ◌∷◌, slice_get, Some, refl}
use Rattle.std.specs.Prelude.{not, ◌&&◌}
use Rattle.verilog_tree.proofs.Tests.{and_left, and_right}
use Rattle.netlist.specs.declared.netlist.Signal.{Signal}
use Rattle.netlist.specs.declared.netlist.Module.{Module}
use Rattle.verilog_meaning.specs.Cycles.{IsRegister}
use Rattle.circuit.specs.declared.table.Form.{Form}
use Rattle.circuit.specs.declared.table.Form.TheVariants.{Register}
use Rattle.circuit.specs.declared.table.Row.{Row}
use Rattle.circuit.specs.declared.table.Row.TheVariants.{One, Each, Chain}
use Rattle.circuit.specs.Table.{place, source_at}
use Rattle.circuit.specs.Fits.{is_register}
use Rattle.circuit.proofs.TableRows.{OfRow, OfSome, by_signals}
use Rattle.bank_arbiter.specs.Arbiter.{rows, IsArbiter}

abbrev is_plain : Row → Bool
is_plain (One r w f) = not (is_register f)
is_plain (Each r w f) = not (is_register f)
is_plain (Chain r w first step) = not (is_register first) && not (is_register step)
is_plain _ = false

abbrev are_plain : List Row → Bool
are_plain [] = true
are_plain (r ∷ rest) = is_plain r && are_plain rest

abbrev NoRegister : ℕ → Signal → Type 0
NoRegister x s = IsRegister s.source → ⊥

module _ (n : ℕ) where
  source : (f : Form) (i : ℕ) → not (is_register f) ≡ true → IsRegister (source_at n (place n rows) f i) → ⊥
  source (Register c) i p t = absurd cc
  source f i p t = t

  of_row : (at : ℕ) (r : Row) → is_plain r ≡ true → OfRow n (place n rows) NoRegister at r
  of_row at (One r w f) p = source f 0 p
  of_row at (Each r w f) p = λ i l. source f i p
  of_row at (Chain r w first step) p =
      let a = not (is_register first) in let b = not (is_register step) in (source first 0 (and_left a b p), (λ i l. source step i (and_right a b p)))
  of_row at r p = absurd cc

  of_some : (at : ℕ) (rest : List Row) → are_plain rest ≡ true → (k : ℕ) → OfSome n (place n rows) NoRegister at (slice_get rest k)
  of_some at [] p k = tt
  of_some at (r ∷ rest) p zero = of_row at r (and_left (is_plain r) (are_plain rest) p)
  of_some at (r ∷ rest) p (suc k) = of_some at rest (and_right (is_plain r) (are_plain rest) p) k

  pub no_register : (m : Module) → IsArbiter n m → (x : ℕ) (s : Signal) → slice_get m.signals x ≡ Some s → IsRegister s.source → ⊥
  no_register m is = by_signals n rows m is.signals NoRegister (λ k. of_some (place n rows k) rows refl k)
