-- The lines of cores in a report are those of the names of the compiled program's cores.
use Rattle.std.proofs.Common.{◌≡◌, ℕ, zero, suc, ◌+◌, ◌/◌, List, [], ◌∷◌, ◌++◌, length, map, take, drop, refl, sym, ap, ◌∙◌, append_assoc, arith, length-append}
use Rattle.std.specs.Prelude.{codes}
use Rattle.std.proofs.lemmas.List.{length-map, take-map, drop-map}
use Rattle.std.proofs.Math.Seq.{take-append_seam, drop-append_seam}
use Rattle.c_program.specs.Weight.{thread_count}
use Rattle.netlist.specs.declared.netlist.Instance.{Instance}
use Rattle.plan_report.specs.Words.{numbered}
use Rattle.net_report.specs.Net.{core_line, cores_of}
use Rattle.program_bodies.specs.Served.{names_from, numbered_names}
use Rattle.hls_compile.specs.Served.{core_names}
use Rattle.hls_compile.specs.Reported.{name_line, ReportNamesCores}

lines_by : (k : ℕ) (xs : List Instance) → numbered core_line k xs ≡ numbered name_line k (map (λ (n : Instance). n.name) xs)
lines_by k [] = refl
lines_by k (x ∷ xs) = ap (λ l. core_line k x ++ l) (lines_by (suc k) xs)

names_long : (stem : List ℕ) (i n : ℕ) → length (names_from stem i n) ≡ n
names_long stem i zero = refl
names_long stem i (suc n) = ap suc (names_long stem (i + 1) n)

-- instances: so many threads, cores of these names, and as many arbiters
module _ (T : ℕ) (xs : List Instance) (names : List (List ℕ))
    (order : map (λ (n : Instance). n.name) xs ≡ numbered_names (codes "t") T ++ names ++ numbered_names (codes "arbiter") (length names)) where
  abbrev threads : List (List ℕ)
  threads = numbered_names (codes "t") T

  abbrev arbiters : List (List ℕ)
  arbiters = numbered_names (codes "arbiter") (length names)

  behind : map (λ (n : Instance). n.name) (drop T xs) ≡ names ++ arbiters
  behind =
      sym (drop-map (λ (n : Instance). n.name) T xs) ∙ ap (drop T) (order ∙ append_assoc threads names arbiters)
      ∙ ap (λ k. drop k (threads ++ (names ++ arbiters))) (sym (names_long (codes "t") 0 T)) ∙ drop-append_seam threads (names ++ arbiters)

  half : length (drop T xs) / 2 ≡ length names
  half =
      let all : length (drop T xs) ≡ length names + length arbiters =
      sym (length-map (drop T xs) (λ (n : Instance). n.name)) ∙ ap length behind ∙ length-append names arbiters in
      let many : length arbiters ≡ length names = names_long (codes "arbiter") 0 (length names) in
      omega arith

  pub cores_are : map (λ (n : Instance). n.name) (cores_of (drop T xs)) ≡ names
  cores_are =
      sym (take-map (λ (n : Instance). n.name) (length (drop T xs) / 2) (drop T xs)) ∙ ap (λ k. take k (map (λ (n : Instance). n.name) (drop T xs))) half
      ∙ ap (take (length names)) behind ∙ take-append_seam names arbiters

pub report_names_cores : ReportNamesCores
report_names_cores text P weight n written c =
    lines_by 0 (cores_of (drop (thread_count P) c.threaded.top.instances))
    ∙ ap (numbered name_line 0) (cores_are (thread_count P) c.threaded.top.instances (core_names P) c.served.order)
