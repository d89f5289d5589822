-- The memory of a bank has another name than its signals, none of which begins as a bank does.
use Rattle.std.proofs.Common.{◌≡◌, ℕ, true, false, nat_eq, List, [], ◌∷◌, slice_get, Some, refl, sym, ap, ◌∙◌}
use Rattle.netlist.specs.declared.netlist.Signal.{Signal}
use Rattle.netlist.specs.declared.netlist.Memory.{Memory}
use Rattle.netlist.specs.declared.netlist.Module.{Module}
use Rattle.netlist.specs.Laid.{signal_names}
use Rattle.circuit.specs.declared.rows.Role.{Role}
use Rattle.circuit.specs.declared.rows.Role.TheVariants as role
use Rattle.circuit.specs.Rows.{name_of}
use Rattle.circuit.proofs.MemoryNames.{IsUnlike, among_names}
use Rattle.circuit.proofs.RowModules.{HasRole}

abbrev first_of : List ℕ → ℕ
first_of [] = 0
first_of (c ∷ cs) = c

other_first : (r : Role) (place : ℕ) → nat_eq (first_of (name_of r place)) 98 ≡ false
other_first role.Clock place = refl
other_first role.Preference place = refl
other_first role.Ask place = refl
other_first role.Operation place = refl
other_first role.Address place = refl
other_first role.Data place = refl
other_first role.Argument place = refl
other_first role.Site place = refl
other_first role.Value place = refl
other_first role.Offer place = refl
other_first role.Grant place = refl
other_first role.Told place = refl
other_first role.State place = refl
other_first role.Wire place = refl

module _ (m : Module) (roles : (x : ℕ) (s : Signal) → slice_get m.signals x ≡ Some s → HasRole x s) (c : Memory) (first : nat_eq (first_of c.name) 98 ≡ true) where
  pub not_it : IsUnlike (signal_names m) c.name
  not_it i x h q =
      let s = among_names m.signals i x h in
      let r = roles i s.0 s.1 in
      let other : nat_eq (first_of s.0.name) 98 ≡ false = ap (λ (z : List ℕ). nat_eq (first_of z) 98) r.1 ∙ other_first r.0 i in
      let yes : nat_eq (first_of s.0.name) 98 ≡ true = ap (λ (z : List ℕ). nat_eq (first_of z) 98) (sym s.2 ∙ q) ∙ first in
      absurd (let e : true ≡ false = sym yes ∙ other in cc)
