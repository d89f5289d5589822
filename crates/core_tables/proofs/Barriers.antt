-- The ports of a barrier stand in order.
use Rattle.std.proofs.Common.{◌≡◌, ℕ, zero, suc, ◌+◌, ◌*◌, ◌<◌, ◌≤◌, true, false, replicate, List, [], ◌∷◌, ◌++◌, length, refl, sym, ap, ◌∙◌, subst, arith, length-append}
use Rattle.std.specs.Prelude.{◌||◌}
use Rattle.std.proofs.lemmas.List.{append-nil, length-replicate}
use Rattle.netlist.specs.declared.netlist.Module.{Module}
use Rattle.circuit.specs.Modules.{IsLeaf, is_between}
use Rattle.circuit.specs.Interfaces.{first_of, HasInterface}
use Rattle.circuit.proofs.TableRows.{length-laid}
use Rattle.circuit.proofs.Tables.{between_on, between_behind}
use Rattle.barrier_cores.specs.declared.barrier.Shape.{Shape}
use Rattle.barrier_cores.specs.Barrier.{grants, waiting, operation_chain, offers, tells, rows}
use Rattle.barrier_cores.specs.Machine.{barrier_machine, barrier_places, part_place, is_late}
use Rattle.core_family.specs.Family.{Barrier, port_of, IsCoreModule}
use Rattle.core_tables.proofs.Ports.{inputs, outputs, length-ports}
use Rattle.core_tables.proofs.CoreStands.{StandsFor}

module _ (s : Shape) (m : Module) (is : IsCoreModule s.threads (Barrier s) m) where
  abbrev n : ℕ
  n = s.threads

  same_outputs : replicate n 1 ++ replicate n 1 ≡ outputs n (1 ∷ [])
  same_outputs = ap (λ (l : List ℕ). replicate n 1 ++ l) (sym (append-nil (replicate n 1)))

  offers_first : first_of m (outputs n (1 ∷ [])) ≡ offers n
  offers_first =
      let a = ap length is.table.signals in let b = length-laid n rows in
      let c = length-replicate {A = ℕ} n 1 in let d = ap length same_outputs in
      let e = length-append {A = ℕ} (replicate n 1) (replicate n 1) in
      omega (arith, a, b, c, d, e)

  asks_in_order : (j i : ℕ) → j < 3 → i < n → part_place n j i ≡ 1 + (n * j + i)
  asks_in_order zero i l il = omega arith
  asks_in_order (suc zero) i l il = omega arith
  asks_in_order (suc (suc zero)) i l il = omega arith
  asks_in_order (suc (suc (suc j))) i l il = absurd (omega arith)

  tells_in_order : (j i : ℕ) → j < 1 → i < n → tells n + i ≡ first_of m (outputs n (1 ∷ [])) + (n + (j * n + i))
  tells_in_order zero i l il = let e = offers_first in omega (arith, e)
  tells_in_order (suc j) i l il = absurd (omega arith)

  early : (x : ℕ) → offers n ≤ x → is_late n x ≡ false
  early x l =
      ap (λ b. b || is_between (operation_chain n) (offers n) x) (between_behind (grants n) (waiting n) x (omega arith) (omega arith))
      ∙ between_behind (operation_chain n) (offers n) x (omega arith) l

  grants_late : (i : ℕ) → i < n → is_late n (1 + (n * 3 + i)) ≡ true
  grants_late i l =
      ap (λ b. b || is_between (operation_chain n) (offers n) (1 + (n * 3 + i))) (between_on (grants n) (waiting n) (1 + (n * 3 + i)) (omega arith) (omega arith))

  many : waiting n ≡ length (inputs n (1 ∷ 2 ∷ 64 ∷ []))
  many = let a = length-ports n (1 ∷ 2 ∷ 64 ∷ []) (replicate n 1) in let b = length-replicate {A = ℕ} n 1 in omega (arith, a, b)

  pub barrier_stands_for : StandsFor n (port_of (Barrier s)).asks (port_of (Barrier s)).told (barrier_machine n) (barrier_places n) (is_late n) m
  barrier_stands_for = record {
    core = is.core;
    parts = refl;
    tells = refl;
    ask = asks_in_order;
    grant = λ i l. omega arith;
    offer = λ i l. ap (λ k. k + i) (sym offers_first);
    tell = tells_in_order;
    interface = subst (λ (l : List ℕ). HasInterface m (inputs n (1 ∷ 2 ∷ 64 ∷ [])) l) same_outputs is.stands.interface;
    leaf = subst (λ k. IsLeaf m k (is_late n)) many is.leaf;
    grants_late = grants_late;
    early = λ x l. early (first_of m (outputs n (1 ∷ [])) + x) (let e = offers_first in omega (arith, e));
  }
