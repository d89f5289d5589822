-- The ports of a bank stand in order.
use Rattle.std.proofs.Common.{◌≡◌, ℕ, zero, suc, ◌+◌, ◌*◌, ◌<◌, ◌≤◌, true, false, replicate, List, [], ◌∷◌, ◌++◌, length, refl, sym, ap, ◌∙◌, subst, arith, length-append}
use Rattle.std.specs.Prelude.{◌||◌}
use Rattle.std.proofs.lemmas.List.{append-nil, length-replicate}
use Rattle.netlist.specs.declared.netlist.Module.{Module}
use Rattle.circuit.specs.Modules.{IsLeaf, is_between}
use Rattle.circuit.specs.Interfaces.{first_of, HasInterface}
use Rattle.circuit.proofs.TableRows.{length-laid}
use Rattle.circuit.proofs.Tables.{between_on, between_behind}
use Rattle.bank_cores.specs.declared.bank.Shape.{Shape}
use Rattle.bank_cores.specs.Bank.{grants, kept, address_chain, offers, tells, rows}
use Rattle.bank_cores.specs.Machine.{bank_machine, bank_places, part_place, input_widths, output_widths, is_late}
use Rattle.core_family.specs.Family.{Bank, port_of, IsCoreModule}
use Rattle.core_tables.proofs.Ports.{inputs, outputs, length-ports}
use Rattle.core_tables.proofs.CoreStands.{StandsFor}

module _ (s : Shape) (m : Module) (is : IsCoreModule s.threads (Bank s) m) where
  abbrev n : ℕ
  n = s.threads

  abbrev asks : List ℕ
  asks = 1 ∷ 1 ∷ 64 ∷ s.width ∷ []

  -- with addresses of a width
  abbrev widths : ℕ → List ℕ
  widths a = 1 ∷ (replicate n 1 ++ (replicate n 1 ++ (replicate n a ++ (replicate n s.width ++ replicate n 1))))

  same_inputs : input_widths s ≡ inputs n asks
  same_inputs = ap widths is.addressed

  same_outputs : output_widths s ≡ outputs n (s.width ∷ [])
  same_outputs = ap (λ (l : List ℕ). replicate n 1 ++ l) (sym (append-nil (replicate n s.width)))

  offers_first : first_of m (outputs n (s.width ∷ [])) ≡ offers n
  offers_first =
      let a = ap length is.table.signals in let b = length-laid n (rows s.address_width s.width) in
      let c = length-replicate {A = ℕ} n 1 in let w = length-replicate {A = ℕ} n s.width in let d = ap length same_outputs in
      let e = length-append {A = ℕ} (replicate n 1) (replicate n s.width) in
      omega (arith, a, b, c, d, e, w)

  asks_in_order : (j i : ℕ) → j < 4 → i < n → part_place n j i ≡ 1 + (n * j + i)
  asks_in_order zero i l il = omega arith
  asks_in_order (suc zero) i l il = omega arith
  asks_in_order (suc (suc zero)) i l il = omega arith
  asks_in_order (suc (suc (suc zero))) i l il = omega arith
  asks_in_order (suc (suc (suc (suc j)))) i l il = absurd (omega arith)

  tells_in_order : (j i : ℕ) → j < 1 → i < n → tells n + i ≡ first_of m (outputs n (s.width ∷ [])) + (n + (j * n + i))
  tells_in_order zero i l il = let e = offers_first in omega (arith, e)
  tells_in_order (suc j) i l il = absurd (omega arith)

  early : (x : ℕ) → offers n ≤ x → is_late s x ≡ false
  early x l =
      ap (λ b. b || is_between (address_chain n) (offers n) x) (between_behind (grants n) (kept n) x (omega arith) (omega arith))
      ∙ between_behind (address_chain n) (offers n) x (omega arith) l

  grants_late : (i : ℕ) → i < n → is_late s (1 + (n * 4 + i)) ≡ true
  grants_late i l =
      ap (λ b. b || is_between (address_chain n) (offers n) (1 + (n * 4 + i))) (between_on (grants n) (kept n) (1 + (n * 4 + i)) (omega arith) (omega arith))

  many : kept n ≡ length (inputs n asks)
  many = let a = length-ports n asks (replicate n 1) in let b = length-replicate {A = ℕ} n 1 in omega (arith, a, b)

  pub bank_stands_for : StandsFor n (port_of (Bank s)).asks (port_of (Bank s)).told (bank_machine s) (bank_places s) (is_late s) m
  bank_stands_for = record {
    core = is.core;
    parts = refl;
    tells = refl;
    ask = asks_in_order;
    grant = λ i l. omega arith;
    offer = λ i l. ap (λ k. k + i) (sym offers_first);
    tell = tells_in_order;
    interface =
        subst (λ (l : List ℕ). HasInterface m l (outputs n (s.width ∷ []))) same_inputs
        (subst (λ (l : List ℕ). HasInterface m (input_widths s) l) same_outputs is.stands.interface);
    leaf = subst (λ k. IsLeaf m k (is_late s)) many is.leaf;
    grants_late = grants_late;
    early = λ x l. early (first_of m (outputs n (s.width ∷ [])) + x) (let e = offers_first in omega (arith, e));
  }
