-- The ports of a mutex stand in order.
use Rattle.std.proofs.Common.{◌≡◌, ℕ, zero, suc, ◌+◌, ◌*◌, ◌<◌, ◌≤◌, true, false, replicate, List, [], ◌∷◌, length, refl, sym, ap, ◌∙◌, subst, arith}
use Rattle.std.specs.Prelude.{◌||◌}
use Rattle.std.proofs.lemmas.List.{append-nil, length-replicate}
use Rattle.netlist.specs.declared.netlist.Module.{Module}
use Rattle.circuit.specs.Modules.{IsLeaf, is_between}
use Rattle.circuit.specs.Interfaces.{first_of, HasInterface}
use Rattle.circuit.proofs.TableRows.{length-laid}
use Rattle.circuit.proofs.Tables.{between_on, between_behind}
use Rattle.mutex_cores.specs.declared.mutex.Shape.{Shape}
use Rattle.mutex_cores.specs.Mutex.{grants, owner, chain, offers, rows}
use Rattle.mutex_cores.specs.Machine.{mutex_machine, mutex_places, part_place, is_late}
use Rattle.core_family.specs.Family.{Mutex, port_of, IsCoreModule}
use Rattle.core_tables.proofs.Ports.{inputs, outputs, length-ports}
use Rattle.core_tables.proofs.CoreStands.{StandsFor}

module _ (s : Shape) (m : Module) (is : IsCoreModule s.threads (Mutex s) m) where
  abbrev n : ℕ
  n = s.threads

  same_outputs : replicate n 1 ≡ outputs n []
  same_outputs = sym (append-nil (replicate n 1))

  offers_first : first_of m (outputs n []) ≡ offers n
  offers_first =
      let a = ap length is.table.signals in let b = length-laid n (rows s.initialised) in
      let c = length-replicate {A = ℕ} n 1 in let d = ap length same_outputs in
      omega (arith, a, b, c, d)

  asks_in_order : (j i : ℕ) → j < 2 → i < n → part_place n j i ≡ 1 + (n * j + i)
  asks_in_order zero i l il = omega arith
  asks_in_order (suc zero) i l il = omega arith
  asks_in_order (suc (suc j)) i l il = absurd (omega arith)

  early : (x : ℕ) → offers n ≤ x → is_late s x ≡ false
  early x l =
      ap (λ b. b || is_between (chain n) (offers n) x) (between_behind (grants n) (owner n) x (omega arith) (omega arith))
      ∙ between_behind (chain n) (offers n) x (omega arith) l

  grants_late : (i : ℕ) → i < n → is_late s (1 + (n * 2 + i)) ≡ true
  grants_late i l = ap (λ b. b || is_between (chain n) (offers n) (1 + (n * 2 + i))) (between_on (grants n) (owner n) (1 + (n * 2 + i)) (omega arith) (omega arith))

  many : owner n ≡ length (inputs n (1 ∷ 2 ∷ []))
  many = let a = length-ports n (1 ∷ 2 ∷ []) (replicate n 1) in let b = length-replicate {A = ℕ} n 1 in omega (arith, a, b)

  pub mutex_stands_for : StandsFor n (port_of (Mutex s)).asks (port_of (Mutex s)).told (mutex_machine s) (mutex_places s) (is_late s) m
  mutex_stands_for = record {
    core = is.core;
    parts = refl;
    tells = refl;
    ask = asks_in_order;
    grant = λ i l. omega arith;
    offer = λ i l. ap (λ k. k + i) (sym offers_first);
    tell = λ j i l il. absurd (omega arith);
    interface = subst (λ (l : List ℕ). HasInterface m (inputs n (1 ∷ 2 ∷ [])) l) same_outputs is.stands.interface;
    leaf = subst (λ k. IsLeaf m k (is_late s)) many is.leaf;
    grants_late = grants_late;
    early = λ x l. early (first_of m (outputs n []) + x) (let e = offers_first in omega (arith, e));
  }
