-- Beside the cores of a table each thread's module of the parts stands at the places of the layout.
use Rattle.std.proofs.Common.{◌≡◌, ℕ, ◌<◌, List, length, map, Some, sym, ap, ◌∙◌, subst, arith}
use Rattle.std.specs.Prelude.{slice_get}
use Rattle.std.proofs.lemmas.List.{length-map}
use Rattle.std.proofs.lemmas.Simd.{map-map}
use Rattle.c_program.specs.Tree.{Program}
use Rattle.leaf_machine.specs.Leaves.{IsSlotBit, IsThreadLeaf}
use Rattle.leaf_machine.specs.Steady.{IsSteadyThread}
use Rattle.leaf_machine.specs.Ports.{CorePort, IsRoutineModule}
use Rattle.core_tables.specs.Family.{CoreKind, machine_at, port_of}
use Rattle.core_tables.specs.Tables.{PlacedCore, Table, kinds_in}
use Rattle.core_tables.specs.Tables as table
use Rattle.core_tables.specs.Laws.{ThreadStands}
use Rattle.core_tables.specs.Whole.{AreThreads}
use Rattle.core_tables.proofs.Threads.{threads_fit}
use Rattle.law_cycle.specs.Built.{Parts, thread_modules, thread_leaves, IsBuilt}
use Rattle.law_cycle.specs.Bodies.{core_count}
use Rattle.law_cycle.specs.Kinds.{kinds_of, ports_of}
use Rattle.law_cycle.proofs.Listed.{count_is}

module _ (P : Program) (K : Parts) (t : Table) (built : IsBuilt P K) (shapes : kinds_in t ≡ kinds_of K.cores) where
  ports_are : ports_of K.cores ≡ table.ports_of t
  ports_are = sym (sym (map-map port_of (λ (c : PlacedCore). c.kind) t.cores) ∙ ap (map port_of) shapes)

  pub count_there : length t.cores ≡ core_count K.cores
  count_there = sym (length-map t.cores (λ (c : PlacedCore). c.kind)) ∙ ap length shapes ∙ count_is K.cores

  module _ (i : ℕ) (l : i < K.cores.threads) where
    abbrev Routine : List CorePort → Type 0
    Routine ports = IsRoutineModule (built.bodies i l).0 ports (K.bodies i).body (K.bodies i).inputs (K.bodies i).leaf

    -- beside so many cores of these shapes
    abbrev Leaf : ℕ → List CoreKind → Type 0
    Leaf n cores = IsThreadLeaf (K.bodies i).body (K.bodies i).inputs (K.bodies i).leaf n (λ k. (machine_at cores k).parts) (λ k. (machine_at cores k).told)

    abbrev Done : ℕ → List CoreKind → Type 0
    Done n cores = IsSlotBit (K.bodies i).body (K.bodies i).inputs (K.bodies i).leaf n (λ k. (machine_at cores k).parts) (λ k. (machine_at cores k).told) (K.bodies i).leaf.done

    pub routine_there : Routine (table.ports_of t)
    routine_there = subst Routine ports_are (built.bodies i l).1.routine

    pub leaf_there : Leaf (length t.cores) (kinds_in t)
    leaf_there = subst (λ n. Leaf n (kinds_in t)) (sym count_there) (subst (Leaf (core_count K.cores)) (sym shapes) (built.bodies i l).1.leaf)

    pub done_there : Done (length t.cores) (kinds_in t)
    done_there = subst (λ n. Done n (kinds_in t)) (sym count_there) (subst (Done (core_count K.cores)) (sym shapes) (built.bodies i l).1.done)

    pub steady_there : IsSteadyThread (length t.cores) (K.bodies i).body (K.bodies i).leaf
    steady_there = subst (λ n. IsSteadyThread n (K.bodies i).body (K.bodies i).leaf) (sym count_there) (built.bodies i l).1.steady

    stands : ThreadStands t (K.bodies i).body (K.bodies i).leaf
    stands = threads_fit t (built.bodies i l).0 (K.bodies i).body (K.bodies i).inputs (K.bodies i).leaf routine_there leaf_there done_there

  pub threads_stand : length t.threads ≡ K.cores.threads →
      ((i number : ℕ) → slice_get t.threads i ≡ Some number → slice_get t.routines number ≡ Some (K.bodies i).body) → AreThreads t (thread_modules K) (thread_leaves K)
  threads_stand count runs = record { runs = runs; stands = λ i l. stands i (let n = count in omega (arith, l, n)) }
