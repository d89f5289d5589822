-- The ports of the core of the thread ids stand in order.
use Rattle.std.proofs.Common.{◌≡◌, ℕ, zero, suc, ◌+◌, ◌*◌, ◌<◌, ◌≤◌, true, false, replicate, List, [], ◌∷◌, ◌++◌, length, refl, sym, ap, ◌∙◌, subst, arith, length-append}
use Rattle.std.specs.Prelude.{◌||◌}
use Rattle.std.proofs.lemmas.List.{append-nil, length-replicate}
use Rattle.netlist.specs.declared.netlist.Module.{Module}
use Rattle.circuit.specs.Modules.{IsLeaf, is_between}
use Rattle.circuit.specs.Interfaces.{first_of, HasInterface}
use Rattle.circuit.proofs.TableRows.{length-laid}
use Rattle.circuit.proofs.Tables.{between_on, between_behind}
use Rattle.core_family.specs.Shape.{Shape}
use Rattle.core_family.specs.ThreadIds.{grants, zero_code, going_chain, offers, rows}
use Rattle.core_family.specs.Machine.{thread_ids_machine, thread_ids_places, part_place, told_place, output_widths, is_late}
use Rattle.core_family.specs.Family.{ThreadIds, port_of, IsCoreModule}
use Rattle.core_tables.proofs.Ports.{inputs, outputs, length-ports}
use Rattle.core_tables.proofs.CoreStands.{StandsFor}

module _ (s : Shape) (m : Module) (is : IsCoreModule s.threads (ThreadIds s) m) where
  abbrev n : ℕ
  n = s.threads

  abbrev asks : List ℕ
  asks = 1 ∷ 2 ∷ 64 ∷ 64 ∷ []

  abbrev told : List ℕ
  told = 1 ∷ 64 ∷ []

  same_outputs : output_widths s ≡ outputs n told
  same_outputs = ap (λ (l : List ℕ). replicate n 1 ++ (replicate n 1 ++ l)) (sym (append-nil (replicate n 64)))

  offers_first : first_of m (outputs n told) ≡ offers n
  offers_first =
      let a = ap length is.table.signals in let b = length-laid n rows in
      let c = length-replicate {A = ℕ} n 1 in let w = length-replicate {A = ℕ} n 64 in let d = ap length same_outputs in
      let e = length-append {A = ℕ} (replicate n 1) (replicate n 64) in
      let f = length-append {A = ℕ} (replicate n 1) (replicate n 1 ++ replicate n 64) in
      omega (arith, a, b, c, d, e, f, w)

  asks_in_order : (j i : ℕ) → j < 4 → i < n → part_place n j i ≡ 1 + (n * j + i)
  asks_in_order zero i l il = omega arith
  asks_in_order (suc zero) i l il = omega arith
  asks_in_order (suc (suc zero)) i l il = omega arith
  asks_in_order (suc (suc (suc zero))) i l il = omega arith
  asks_in_order (suc (suc (suc (suc j)))) i l il = absurd (omega arith)

  tells_in_order : (j i : ℕ) → j < 2 → i < n → told_place n j i ≡ first_of m (outputs n told) + (n + (j * n + i))
  tells_in_order zero i l il = let e = offers_first in omega (arith, e)
  tells_in_order (suc zero) i l il = let e = offers_first in omega (arith, e)
  tells_in_order (suc (suc j)) i l il = absurd (omega arith)

  early : (x : ℕ) → offers n ≤ x → is_late s x ≡ false
  early x l =
      ap (λ b. b || is_between (going_chain n) (offers n) x) (between_behind (grants n) (zero_code n) x (omega arith) (omega arith))
      ∙ between_behind (going_chain n) (offers n) x (omega arith) l

  grants_late : (i : ℕ) → i < n → is_late s (1 + (n * 4 + i)) ≡ true
  grants_late i l =
      ap (λ b. b || is_between (going_chain n) (offers n) (1 + (n * 4 + i))) (between_on (grants n) (zero_code n) (1 + (n * 4 + i)) (omega arith) (omega arith))

  many : zero_code n ≡ length (inputs n asks)
  many = let a = length-ports n asks (replicate n 1) in let b = length-replicate {A = ℕ} n 1 in omega (arith, a, b)

  pub thread_ids_stand_for : StandsFor n (port_of (ThreadIds s)).asks (port_of (ThreadIds s)).told (thread_ids_machine s) (thread_ids_places s) (is_late s) m
  thread_ids_stand_for = record {
    core = is.core;
    parts = refl;
    tells = refl;
    ask = asks_in_order;
    grant = λ i l. omega arith;
    offer = λ i l. ap (λ k. k + i) (sym offers_first);
    tell = tells_in_order;
    interface = subst (λ (l : List ℕ). HasInterface m (inputs n asks) l) same_outputs is.stands.interface;
    leaf = subst (λ k. IsLeaf m k (is_late s)) many is.leaf;
    grants_late = grants_late;
    early = λ x l. early (first_of m (outputs n told) + x) (let e = offers_first in omega (arith, e));
  }
