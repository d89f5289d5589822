-- The modules of a table keep their promises at the places of its layout.
use Rattle.std.proofs.Common.{refl}
use Rattle.std.proofs.lemmas.Option.{slice_get_within}
use Rattle.top_wiring.specs.Ports as port
use Rattle.top_wiring.specs.Machine.{IsThreadAt, IsCoreAt, IsArbiterAt}
use Rattle.bank_arbiter.specs.Arbiter as arbiter
use Rattle.leaf_machine.specs.Leaves.{leaf_thread, leaf_places}
use Rattle.core_family.specs.Family.{machine_at, places_at}
use Rattle.core_tables.specs.Tables.{layout_of, kinds_in}
use Rattle.core_tables.specs.Whole.{TablesKeepPromises}
use Rattle.core_tables.proofs.TablesFit.{arbiter_at, core_at, each_module}
use Rattle.core_tables.proofs.Sound.{alone}

pub tables_keep_promises : TablesKeepPromises
tables_keep_promises t modules leaves whole threads = record {
  thread_at = λ i l. refl;
  core_at = λ k l. refl;
  arbiter_at = λ k l. refl;
  each = each_module t whole.cores (λ i m. IsThreadAt (layout_of t) (leaf_thread (modules i) (leaves i)) (leaf_places (modules i) (leaves i)) (machine_at (kinds_in t)) m)
      (λ k c m. IsCoreAt (layout_of t) (machine_at (kinds_in t) k) (places_at (kinds_in t) k) c m)
      (λ k m. IsArbiterAt (layout_of t) (arbiter.places (port.threads (layout_of t))) m)
      (λ i number e. (modules i, threads.runs i number e, (threads.stands i (slice_get_within t.threads i number e)).promise))
      (λ k x p. core_at t whole.cores k x p) (λ k. arbiter_at t whole.cores);
  alone = alone t whole;
}
