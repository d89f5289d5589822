-- The cores that are made of a program are those of its hardware.
use Rattle.std.proofs.Common.{◌≡◌, ℕ, ◌<◌, ◌≤◌, ◌^◌, Bool, true, false, nat_lt, List, length, None, refl, sym, ap, ◌∙◌, subst, arith}
use Rattle.std.proofs.lemmas.List.{length-map}
use Rattle.hls_ints.specs.Residues.{bit_of}
use Rattle.c_program.specs.Tree.{Program}
use Rattle.c_program.specs.Limits.{barrier_elements, IsWithinLimits}
use Rattle.c_program.specs.Resolved.{IsResolved}
use Rattle.c_program.specs.Weight.{thread_count}
use Rattle.c_limits.specs.Counts.{first_passed}
use Rattle.c_limits.proofs.Within.{within_limits}
use Rattle.bank_partition.specs.declared.banks.Banks.{Banks}
use Rattle.bank_partition.specs.Partition.{shapes}
use Rattle.bank_cores.specs.declared.bank.Shape.{Shape as Bank}
use Rattle.mutex_cores.specs.declared.mutex.Shape.{Shape as MutexShape}
use Rattle.printer_cores.specs.declared.printer.Shape.{Shape as PrinterShape}
use Rattle.core_family.specs.declared.cores.Cores.{Cores}
use Rattle.core_places.specs.Placing.{placed}
use Rattle.core_places.proofs.CoresPlaced.{placed_count}
use Rattle.program_cores.specs.Banks.{core_shape, core_shapes, IsPartedProgram}
use Rattle.program_cores.specs.Cores.{mutex_shapes, AreCoresOf}
use Rattle.program_cores.specs.Sites.{printer_shape, sites_of}
use Rattle.program_cores.proofs.Globals.{total_few, total_is, wanted_banks, are_partitioned}
use Rattle.program_cores.proofs.Mutexes.{all_threads, are_mutexes}
use Rattle.program_cores.proofs.Printable.{shape_is}

one_bit : (b : Bool) → bit_of b ≤ 1
one_bit true = omega arith
one_bit false = omega arith

pub few_threads : (P : Program) → first_passed P ≡ None → thread_count P ≤ 64
few_threads P limits = let l = (within_limits P limits).threads in omega (arith, l)

module _ (P : Program) (resolved : IsResolved P) (limits : first_passed P ≡ None) (parted : Banks) (part : IsPartedProgram P parted) where
  abbrev T : ℕ
  T = thread_count P

  abbrev cores : Cores
  cores = record {
    threads = T;
    banks = core_shapes T (shapes parted);
    mutexes = mutex_shapes T P.mutexes;
    barriers = barrier_elements P;
    thread_ids = nat_lt 1 T;
    printer = printer_shape T P;
  }

  within : IsWithinLimits P
  within = within_limits P limits

  few_banks : length (core_shapes T (shapes parted)) ≤ 16384
  few_banks =
      let long = length-map (shapes parted) (core_shape T) in
      let all = total_is P part.0 resolved limits parted part.1.is part.1.are in
      let low = total_few P part.0 resolved limits parted part.1.is part.1.are in
      omega (arith, long, all, low)

  few_cores : length (placed cores) < 2 ^ 15
  few_cores =
      let n = placed_count cores in
      let b = few_banks in
      let m = (are_mutexes T P).count in
      let few_mutexes = within.mutexes in
      let few_barriers = within.barriers in
      let bit = one_bit (nat_lt 1 T) in
      omega (arith, n, b, m, few_mutexes, few_barriers, bit)

  pub are_cores : AreCoresOf P parted.spreads.items cores
  are_cores = record {
    threads = refl;
    banked = are_partitioned P part.0 T parted (core_shapes T (shapes parted)) part.1.is part.1.are part.1.elements part.1.held refl;
    mutexes = are_mutexes T P;
    barriers = refl;
    thread_ids = refl;
    printer = record { threads = refl; sites = refl };
    values = refl;
    modules = record {
      some = omega arith;
      few = few_threads P limits;
      banks = wanted_banks P part.0 T (few_threads P limits) resolved parted part.1.is part.1.are part.1.held;
      mutexes = all_threads T P.mutexes;
      asked_by = refl;
      printer = shape_is P T (sites_of P) (few_threads P limits) refl resolved (let few = within.prints in omega (arith, few));
    };
    few = few_cores;
  }

abbrev made : ℕ → List Bank → List MutexShape → ℕ → Bool → PrinterShape → Cores
made t bs ms n on p = record { threads = t; banks = bs; mutexes = ms; barriers = n; thread_ids = on; printer = p }

-- and so are those that equal them
pub same_cores : (P : Program) → IsResolved P → first_passed P ≡ None → (parted : Banks) → IsPartedProgram P parted → (w : Cores) → w.threads ≡ thread_count P →
    w.banks ≡ core_shapes w.threads (shapes parted) → w.mutexes ≡ mutex_shapes w.threads P.mutexes → w.barriers ≡ barrier_elements P → w.thread_ids ≡ nat_lt 1 w.threads →
    w.printer ≡ printer_shape w.threads P → AreCoresOf P parted.spreads.items w
same_cores P resolved limits parted part w threads banks mutexes barriers thread_ids printer =
    subst (AreCoresOf P parted.spreads.items) (sym same) (are_cores P resolved limits parted part)
  where
    same : w ≡ cores P resolved limits parted part
    same =
        ap (λ (l : List Bank). made w.threads l w.mutexes w.barriers w.thread_ids w.printer) banks
        ∙ ap (λ (l : List MutexShape). made w.threads (core_shapes w.threads (shapes parted)) l w.barriers w.thread_ids w.printer) mutexes
        ∙ ap (λ n. made w.threads (core_shapes w.threads (shapes parted)) (mutex_shapes w.threads P.mutexes) n w.thread_ids w.printer) barriers
        ∙ ap (λ on. made w.threads (core_shapes w.threads (shapes parted)) (mutex_shapes w.threads P.mutexes) (barrier_elements P) on w.printer) thread_ids
        ∙ ap (λ (p : PrinterShape). made w.threads (core_shapes w.threads (shapes parted)) (mutex_shapes w.threads P.mutexes) (barrier_elements P) (nat_lt 1 w.threads) p) printer
        ∙ ap (λ t. made t (core_shapes t (shapes parted)) (mutex_shapes t P.mutexes) (barrier_elements P) (nat_lt 1 t) (printer_shape t P)) threads
