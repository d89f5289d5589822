-- What a thread hands to the cores of a table, and what it is told, as lists of widths.
use Rattle.std.proofs.Common.{◌≡◌, ℕ, zero, suc, ◌*◌, ◌≤◌, List, [], ◌∷◌, ◌++◌, length, map, take, refl, sym, ap, ◌∙◌, arith, length-append}
use Rattle.std.specs.Prelude.{replicate}
use Rattle.std.proofs.lemmas.List.{append-nil, length-map, length-replicate}
use Rattle.circuit.specs.Rows.{EachOf}
use Rattle.top_wiring.specs.Parts.{group_widths, ask_widths, told_widths}
use Rattle.leaf_machine.specs.Ports.{CorePort, asks_of, told_of}
use Rattle.core_family.specs.Family.{CoreKind, Bank, Mutex, Barrier, ThreadIds, Printer, port_of}
use Rattle.core_tables.specs.Fits.{groups_of}
use Rattle.core_tables.specs.Tables.{PlacedCore, Table, laid_core, layout_of, kinds_at, ports_of, IsNarrow}
use Rattle.core_tables.specs.Laws.{HasThreadPorts}

abbrev port : PlacedCore → CorePort
port c = port_of c.kind

-- an ask is made of its groups
asked_widths : (s : CoreKind) → group_widths (groups_of s) ≡ (port_of s).asks
asked_widths (Bank s) = refl
asked_widths (Mutex s) = refl
asked_widths (Barrier s) = refl
asked_widths (ThreadIds s) = refl
asked_widths (Printer s) = ap (λ (l : List ℕ). 1 ∷ 16 ∷ l) (append-nil (replicate s.values 64))

pub asks_are : (n : ℕ) (cores : List PlacedCore) → ask_widths (map (laid_core n) cores) ≡ asks_of (map port cores)
asks_are n [] = refl
asks_are n (c ∷ cores) =
    ap (λ (l : List ℕ). l ++ ask_widths (map (laid_core n) cores)) (asked_widths c.kind) ∙ ap (λ (l : List ℕ). (port c).asks ++ l) (asks_are n cores)

pub news_are : (n : ℕ) (cores : List PlacedCore) → told_widths (map (laid_core n) cores) ≡ told_of (map port cores)
news_are n [] = refl
news_are n (c ∷ cores) = ap (λ (l : List ℕ). (port c).told ++ l) (news_are n cores)

first_asks : (n : ℕ) (cores : List PlacedCore) (k : ℕ) → ask_widths (take k (map (laid_core n) cores)) ≡ asks_of (take k (map port cores))
first_asks n cores zero = refl
first_asks n [] (suc k) = refl
first_asks n (c ∷ cores) (suc k) =
    ap (λ (l : List ℕ). l ++ ask_widths (take k (map (laid_core n) cores))) (asked_widths c.kind) ∙ ap (λ (l : List ℕ). (port c).asks ++ l) (first_asks n cores k)

first_news : (n : ℕ) (cores : List PlacedCore) (k : ℕ) → told_widths (take k (map (laid_core n) cores)) ≡ told_of (take k (map port cores))
first_news n cores zero = refl
first_news n [] (suc k) = refl
first_news n (c ∷ cores) (suc k) = ap (λ (l : List ℕ). (port c).told ++ l) (first_news n cores k)

pub thread_ports : (t : Table) → HasThreadPorts t
thread_ports t = record {
  inputs =
      ap (λ (n : ℕ). 1 ∷ 1 ∷ (replicate n 1 ++ told_widths (layout_of t).cores)) (length-map t.cores (laid_core (kinds_at t)) ∙ sym (length-map t.cores port))
      ∙ ap (λ (l : List ℕ). 1 ∷ 1 ∷ (replicate (length (ports_of t)) 1 ++ l)) (news_are (kinds_at t) t.cores);
  outputs = ap (λ (l : List ℕ). l ++ 1 ∷ 1 ∷ []) (asks_are (kinds_at t) t.cores);
  asked = λ k. ap length (first_asks (kinds_at t) t.cores k);
  told = λ k. ap length (first_news (kinds_at t) t.cores k);
}

-- ---- how many

few_asks : (s : CoreKind) → IsNarrow s → length (port_of s).asks ≤ 6
few_asks (Bank s) n = omega arith
few_asks (Mutex s) n = omega arith
few_asks (Barrier s) n = omega arith
few_asks (ThreadIds s) n = omega arith
few_asks (Printer s) n = let e = length-replicate {A = ℕ} s.values 64 in omega (arith, e, n)

few_told : (s : CoreKind) → length (port_of s).told ≤ 2
few_told (Bank s) = omega arith
few_told (Mutex s) = omega arith
few_told (Barrier s) = omega arith
few_told (ThreadIds s) = omega arith
few_told (Printer s) = omega arith

pub asks_count : (n : ℕ) (cores : List PlacedCore) → EachOf (λ (c : PlacedCore). IsNarrow c.kind) cores → length (ask_widths (map (laid_core n) cores)) ≤ 6 * length cores
asks_count n [] e = omega arith
asks_count n (c ∷ cores) e =
    let a = asks_count n cores e.1 in let b = few_asks c.kind e.0 in
    let d = length-append {A = ℕ} (group_widths (groups_of c.kind)) (ask_widths (map (laid_core n) cores)) in
    let w = ap length (asked_widths c.kind) in
    omega (arith, a, b, d, w)

pub told_count : (n : ℕ) (cores : List PlacedCore) → length (told_widths (map (laid_core n) cores)) ≤ 2 * length cores
told_count n [] = omega arith
told_count n (c ∷ cores) =
    let a = told_count n cores in let b = few_told c.kind in
    let d = length-append {A = ℕ} (port c).told (told_widths (map (laid_core n) cores)) in
    omega (arith, a, b, d)
