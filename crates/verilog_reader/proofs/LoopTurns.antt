-- Turns of loops over ports and modules.
use Rattle.std.specs.Prelude.{◌≡◌, ℕ, ◌+◌, ◌<◌, ◌≤◌, Bool, true, false, List, length, Option, Some, None, slice_get}
use Rattle.std.specs.Str.{bytes_eq}
use Rattle.std.proofs.Common.{refl, sym, ap, ◌∙◌, subst, get_or, below_more, arith}
use Rattle.std.proofs.lemmas.Option.{slice_get_within, slice_get_read, get_or_from_slice_get}
use Rattle.verilog_tree.specs.declared.tree.Port.{Port}
use Rattle.verilog_tree.specs.declared.tree.Module.{Module}
use Rattle.verilog_reader.specs.Top.{top}
use Rattle.verilog_reader.specs.Ports.{IsUnwanted, AllWanted, IsUnwantedOf}

module _ {A : Type 0} (xs : List A) (n : ℕ) (P : A → Type 0) (before : (j : ℕ) (y : A) → j < n → slice_get xs j ≡ Some y → P y) where
  -- what holds of those before an element, and of it
  pub one_more : (x : A) → x ≡ get_or xs n x → P x → (j : ℕ) (y : A) → j < n + 1 → slice_get xs j ≡ Some y → P y
  one_more x is here j y lt e =
      below_more (λ i. (z : A) → slice_get xs i ≡ Some z → P z) n (λ i l z h. before i z l h) (λ z h. subst P (is ∙ get_or_from_slice_get xs n z x h) here) j lt y e

  -- what holds of all
  pub all_of : length xs ≤ n → (j : ℕ) (y : A) → slice_get xs j ≡ Some y → P y
  all_of le j y e = let lt = slice_get_within xs j y e in before j y (omega (arith, le, lt)) e

pub no_top : (b r : Bool) → r ≡ b → r ≡ false → b ≡ true → ⊥
no_top b r e f h = let clash : true ≡ false = sym h ∙ sym e ∙ f in cc (clash)

module _ (modules slice : List Module) (e : slice ≡ modules) (n : ℕ) (before : AllWanted slice n) where
  pub unwanted_here : (m : Module) (ports : List Port) (found : Option ℕ) (port : ℕ) → m ≡ get_or slice n m → n < length slice → bytes_eq m.name top ≡ true → ports ≡ m.ports
      → IsUnwanted ports found → found ≡ Some port → IsUnwantedOf modules (Some (n, port))
  unwanted_here m ports found port is lt named same u f = (
    subst (λ l. AllWanted l n) e before,
    (m, ap (λ l. slice_get l n) (sym e) ∙ slice_get_read slice (length slice) n m refl lt is, named, subst (λ l. IsUnwanted l (Some port)) same (subst (IsUnwanted ports) f u)),
  )

  pub all_wanted : length slice ≤ n → IsUnwantedOf modules None
  all_wanted le = subst (λ l. IsUnwantedOf l None) e (all_of slice n (λ m. bytes_eq m.name top ≡ true → IsUnwanted m.ports None) before le)
