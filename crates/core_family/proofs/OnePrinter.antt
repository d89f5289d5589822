-- The printer alone prints, and a thread has a port for each part of an ask.
use Rattle.std.proofs.Common.{◌≡◌, ℕ, zero, suc, ◌+◌, ◌<◌, [], ◌∷◌, Some, refl, sym, ap, subst, arith}
use Rattle.std.specs.Prelude.{slice_index}
use Rattle.std.proofs.lemmas.List.{length-replicate}
use Rattle.netlist.specs.declared.netlist.Module.{Module}
use Rattle.circuit.specs.Rows.{EachOf, set_at, sets}
use Rattle.circuit.proofs.Edges.{each_joined, each_spread}
use Rattle.leaf_machine.specs.Standing.{IsSilent}
use Rattle.thread_id_cores.specs.declared.thread_ids.Shape.{Shape as ThreadIdsShape}
use Rattle.bank_cores.specs.Bank as bank
use Rattle.barrier_cores.specs.Barrier as barrier
use Rattle.core_family.specs.Family.{CoreKind, Bank, Mutex, Barrier, ThreadIds, Printer, machine_of, port_of, told_width, IsTable}
use Rattle.core_family.specs.Laws.{EachFits, IsNoPrinter, LastPrints, OthersAreSilent}

none_told : {X : Type 0} (j : ℕ) → j < 0 → X
none_told j l = absurd (omega arith)

one_told : (w j : ℕ) → j < 1 → w ≡ slice_index (w ∷ []) j
one_told w zero l = refl
one_told w (suc j) l = absurd (omega arith)

thread_ids_told : (s : ThreadIdsShape) (j : ℕ) → j < 2 → told_width (Some (ThreadIds s)) j ≡ slice_index (port_of (ThreadIds s)).told j
thread_ids_told s zero l = refl
thread_ids_told s (suc zero) l = refl
thread_ids_told s (suc (suc j)) l = absurd (omega arith)

pub each_fits : EachFits
each_fits (Bank s) = record { asks = refl; told = refl; widths = one_told s.width }
each_fits (Mutex s) = record { asks = refl; told = refl; widths = none_told }
each_fits (Barrier s) = record { asks = refl; told = refl; widths = one_told 1 }
each_fits (ThreadIds s) = record { asks = refl; told = refl; widths = thread_ids_told s }
each_fits (Printer s) = record { asks = ap (λ k. suc (suc k)) (sym (length-replicate {A = ℕ} s.values 64)); told = refl; widths = none_told }

-- ---- machines

prints_nothing : (c : CoreKind) → IsNoPrinter c → (s : (machine_of (Some c)).State) (i : ℕ) (a : (machine_of (Some c)).Ask) → (machine_of (Some c)).prints s i a ≡ []
prints_nothing (Bank c) never s i a = refl
prints_nothing (Mutex c) never s i a = refl
prints_nothing (Barrier c) never s i a = refl
prints_nothing (ThreadIds c) never s i a = refl
prints_nothing (Printer c) never s i a = absurd (never c refl)

pub last_prints : LastPrints
last_prints [] p others zero other s i a = absurd (other refl)
last_prints [] p others (suc k) other s i a = refl
last_prints (c ∷ cores) p others zero other s i a = prints_nothing c others.0 s i a
last_prints (c ∷ cores) p others (suc k) other s i a = last_prints cores p others.1 k (λ e. other (ap suc e)) s i a

-- ---- modules

sets_silent : (register next count : ℕ) → EachOf IsSilent (sets register next count)
sets_silent register next count = each_spread IsSilent (set_at register next) 0 count (λ k l. refl)

table_silent : (c : CoreKind) (m : Module) → IsTable c m → IsNoPrinter c → EachOf IsSilent m.actions
table_silent (Bank c) m is never =
    subst (EachOf IsSilent) (sym is.actions)
    (each_joined IsSilent (sets (bank.kept c.threads) (bank.next c.threads) c.threads) _ (sets_silent (bank.kept c.threads) (bank.next c.threads) c.threads) (refl, tt))
table_silent (Mutex c) m is never = subst (EachOf IsSilent) (sym is.actions) (refl, tt)
table_silent (Barrier c) m is never =
    subst (EachOf IsSilent) (sym is.actions) (sets_silent (barrier.waiting c.threads) (barrier.next c.threads) (c.threads + 1))
table_silent (ThreadIds c) m is never = subst (EachOf IsSilent) (sym is.actions) (refl, (refl, tt))
table_silent (Printer c) m is never = absurd (never c refl)

pub others_silent : OthersAreSilent
others_silent threads c m is never = table_silent c m is.table never
