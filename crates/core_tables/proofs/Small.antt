-- A layout of a table is small.
use Rattle.std.proofs.Common.{ℕ, ◌^◌, ◌<◌, List, [], ◌∷◌, length, map, arith}
use Rattle.std.proofs.lemmas.List.{length-map}
use Rattle.circuit.specs.Rows.{EachOf}
use Rattle.top_wiring.specs.Top.{HasFewTold, HasFewGroups, IsSmall}
use Rattle.core_family.specs.Family.{CoreKind, Bank, Mutex, Barrier, ThreadIds, Printer, port_of}
use Rattle.core_tables.specs.Fits.{groups_of}
use Rattle.top_wiring.specs.Top.{IsFewGroup}
use Rattle.core_tables.specs.Tables.{PlacedCore, Table, HasCores, laid_core, layout_of, kinds_at, IsNarrow}
use Rattle.core_tables.proofs.Widths.{asks_count, told_count}

few_told : (s : CoreKind) → length (port_of s).told < 2 ^ 16
few_told (Bank s) = omega arith
few_told (Mutex s) = omega arith
few_told (Barrier s) = omega arith
few_told (ThreadIds s) = omega arith
few_told (Printer s) = omega arith

few_groups : (s : CoreKind) → IsNarrow s → EachOf IsFewGroup (groups_of s)
few_groups (Bank s) n = (omega arith, (omega arith, (omega arith, (omega arith, tt))))
few_groups (Mutex s) n = (omega arith, (omega arith, tt))
few_groups (Barrier s) n = (omega arith, (omega arith, (omega arith, tt)))
few_groups (ThreadIds s) n = (omega arith, (omega arith, (omega arith, (omega arith, tt))))
few_groups (Printer s) n = (omega arith, (omega arith, (omega (arith, n), tt)))

each_told : (n : ℕ) (cores : List PlacedCore) → EachOf HasFewTold (map (laid_core n) cores)
each_told n [] = tt
each_told n (c ∷ cores) = (few_told c.kind, each_told n cores)

each_groups : (n : ℕ) (cores : List PlacedCore) → EachOf (λ (c : PlacedCore). IsNarrow c.kind) cores → EachOf HasFewGroups (map (laid_core n) cores)
each_groups n [] e = tt
each_groups n (c ∷ cores) e = (few_groups c.kind e.0, each_groups n cores e.1)

pub is_small : (t : Table) → HasCores t → IsSmall (layout_of t)
is_small t has = record {
  some = has.some;
  few_threads = has.few_threads;
  few_cores = (let n = length-map t.cores (laid_core (kinds_at t)) in let f = has.few_cores in omega (arith, n, f));
  few_told = each_told (kinds_at t) t.cores;
  few_groups = each_groups (kinds_at t) t.cores has.narrow;
  few_asks = (let a = asks_count (kinds_at t) t.cores has.narrow in let f = has.few_cores in omega (arith, a, f));
  few_news = (let a = told_count (kinds_at t) t.cores in let f = has.few_cores in omega (arith, a, f));
}
