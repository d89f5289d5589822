-- The cores of a program have the names that the program says.
use Rattle.std.proofs.Common.{◌≡◌, ℕ, suc, ◌+◌, ◌<◌, List, [], ◌∷◌, ◌++◌, length, Some, refl, ap, ◌∙◌, subst, arith}
use Rattle.std.specs.Prelude.{slice_get, unwrap_or, nat_lt, codes}
use Rattle.c_program.specs.Tree.{GlobalVariable, Program}
use Rattle.c_program.specs.Limits.{mutex_elements, barrier_elements}
use Rattle.bank_partition.specs.declared.banks.Banks.{Banks}
use Rattle.bank_partition.specs.Counts.{bank_count}
use Rattle.global_naming.specs.Naming.{naming_threads}
use Rattle.net_emitter.specs.Cores.{Cores}
use Rattle.program_cores.specs.Cores.{AreCoresOf}
use Rattle.program_bodies.specs.Served.{numbered_names, thread_ids_names, names_of}
use Rattle.program_bodies.proofs.CoreNames.{global_names, partitioned_names}
use Rattle.hls_compile.specs.Banks.{AreBanksOf}
use Rattle.hls_compile.specs.Served.{bank_names, core_names}

-- by the threads that name each
counted_names : (P : Program) (counts : List ℕ) (x : ℕ) (gs : List GlobalVariable) → ((j : ℕ) → j < length gs → slice_get counts (x + j) ≡ Some (naming_threads P (x + j))) →
    global_names counts x gs ≡ bank_names P x gs
counted_names P counts x [] h = refl
counted_names P counts x (g ∷ gs) h =
    let z : x + 0 ≡ x = omega arith in
    let own : slice_get counts x ≡ Some (naming_threads P x) =
    subst (λ k. slice_get counts k ≡ Some (naming_threads P k)) z (h 0 (omega arith)) in
    ap (λ o. numbered_names (codes "u_" ++ g.name) (bank_count (unwrap_or o 0) g.length) ++ global_names counts (x + 1) gs) own
    ∙ ap (λ l. numbered_names (codes "u_" ++ g.name) (bank_count (naming_threads P x) g.length) ++ l)
    (counted_names P counts (x + 1) gs (λ j less.
    let y : x + suc j ≡ x + 1 + j = omega arith in
    subst (λ k. slice_get counts k ≡ Some (naming_threads P k)) y (h (suc j) (omega arith))))

pub cores_named : (P : Program) (banks : Banks) (w : Cores) → AreBanksOf P banks → AreCoresOf P banks.spreads.items w → names_of w ≡ core_names P
cores_named P banks w banked cores =
    let printed : List (List ℕ) = codes "uprinter_0" ∷ [] in
    let banks_are =
    partitioned_names P w.threads banks.spreads.items w.banks banked.counts cores.banked banked.parted.is.spreads
    ∙ counted_names P banked.counts 0 P.globals (λ j less.
    let z : j ≡ 0 + j = omega arith in subst (λ k. slice_get banked.counts k ≡ Some (naming_threads P k)) z (banked.counted.each j less)) in
    ap (λ l. l ++ numbered_names (codes "umutex") (length w.mutexes) ++ numbered_names (codes "ubarrier") w.barriers ++ thread_ids_names w.thread_ids ++ printed) banks_are
    ∙ ap (λ n. bank_names P 0 P.globals ++ numbered_names (codes "umutex") n ++ numbered_names (codes "ubarrier") w.barriers ++ thread_ids_names w.thread_ids ++ printed)
    cores.mutexes.count
    ∙ ap (λ n. bank_names P 0 P.globals ++ numbered_names (codes "umutex") (mutex_elements P) ++ numbered_names (codes "ubarrier") n ++ thread_ids_names w.thread_ids ++ printed)
    cores.barriers
    ∙ ap (λ b. bank_names P 0 P.globals ++ numbered_names (codes "umutex") (mutex_elements P) ++ numbered_names (codes "ubarrier") (barrier_elements P) ++ thread_ids_names b ++ printed)
    (cores.thread_ids ∙ ap (nat_lt 1) cores.threads)
