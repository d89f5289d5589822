-- The names of the instances of the outermost module that is wired of a table: the threads, the cores, the arbiters.
use Rattle.std.proofs.Common.{◌≡◌, ℕ, zero, suc, ◌+◌, List, [], ◌∷◌, ◌++◌, length, map, take, refl, sym, ap, ◌∙◌}
use Rattle.std.specs.Prelude.{codes}
use Rattle.std.proofs.lemmas.List.{length-map, map-append}
use Rattle.netlist.specs.declared.netlist.Instance.{Instance}
use Rattle.netlist.specs.declared.netlist.Netlist.{Netlist}
use Rattle.netlist.specs.Laid.{instance_names}
use Rattle.verilog_meaning.specs.Names.{numbered}
use Rattle.circuit.specs.Rows.{spread}
use Rattle.top_parts.specs.declared.layout.Core.{Core}
use Rattle.top_wiring.specs.Parts as top_parts
use Rattle.top_wiring.specs.Parts.{each_from}
use Rattle.top_wiring.specs.Ports.{threads, cores}
use Rattle.top_wiring.specs.Top.{starts, thread_instance, core_instance, arbiter_instance}
use Rattle.top_wiring.specs.Wired.{IsWired}
use Rattle.core_tables.specs.Tables.{PlacedCore, Table, core_name, kinds_at, laid_core, layout_of, modules_of}
use Rattle.law_net.specs.Served.{names_from, numbered_names, table_names}

-- ---- lists of instances

each_named : {A : Type 0} (f : ℕ → A → Instance) (stem : List ℕ) → ((k : ℕ) (x : A) → (f k x).name ≡ numbered stem k) → (i : ℕ) (xs : List A) →
    map (λ (n : Instance). n.name) (each_from f i xs) ≡ names_from stem i (length xs)
each_named f stem same i [] = refl
each_named f stem same i (x ∷ xs) =
    ap (λ z. z ∷ map (λ (n : Instance). n.name) (each_from f (i + 1) xs)) (same i x) ∙ ap (λ l. numbered stem i ∷ l) (each_named f stem same (i + 1) xs)

each_kept : (f : ℕ → Core → Instance) → ((k : ℕ) (c : Core) → (f k c).name ≡ c.name) → (i first : ℕ) (cs : List PlacedCore) →
    map (λ (n : Instance). n.name) (each_from f i (map (laid_core first) cs)) ≡ table_names cs
each_kept f same i first [] = refl
each_kept f same i first (c ∷ cs) =
    ap (λ z. z ∷ map (λ (n : Instance). n.name) (each_from f (i + 1) (map (laid_core first) cs))) (same i (laid_core first c))
    ∙ ap (λ l. core_name c.kind c.number ∷ l) (each_kept f same (i + 1) first cs)

spread_named : (f : ℕ → Instance) (stem : List ℕ) → ((k : ℕ) → (f k).name ≡ numbered stem k) → (i n : ℕ) →
    map (λ (n : Instance). n.name) (spread f i n) ≡ names_from stem i n
spread_named f stem same i zero = refl
spread_named f stem same i (suc n) =
    ap (λ z. z ∷ map (λ (n : Instance). n.name) (spread f (i + 1) n)) (same i) ∙ ap (λ l. numbered stem i ∷ l) (spread_named f stem same (i + 1) n)

-- ---- those of a table

module _ (t : Table) (n : Netlist) (wired : IsWired (modules_of t) (layout_of t) n) where
  pub as_many : cores (layout_of t) ≡ length (table_names t.cores)
  as_many =
      length-map t.cores (laid_core (kinds_at t)) ∙ sym (length-map t.cores (λ (c : PlacedCore). core_name c.kind c.number))

  pub in_order : instance_names wired.top ≡ numbered_names (codes "t") (length t.threads) ++ table_names t.cores ++ numbered_names (codes "arbiter") (length (table_names t.cores))
  in_order =
      let name : Instance → List ℕ = λ (i : Instance). i.name in
      let s = starts (modules_of t) (layout_of t) in
      let T = threads (layout_of t) in
      let K = cores (layout_of t) in
      let all = top_parts.parts (layout_of t) in
      let a = each_from (thread_instance s T K all (layout_of t).cores) 0 t.threads in
      let core : ℕ → Core → Instance = λ k c. core_instance s T K all (length (top_parts.ask_widths (take k (layout_of t).cores))) k c in
      let b = each_from core 0 (layout_of t).cores in
      let c = spread (arbiter_instance s T K all (layout_of t).arbiter) 0 K in
      ap (map name) wired.is_top.instances ∙ map-append name (a ++ b) c ∙ ap (λ l. l ++ map name c) (map-append name a b)
      ∙ ap (λ l. l ++ map name b ++ map name c) (each_named (thread_instance s T K all (layout_of t).cores) (codes "t") (λ k x. refl) 0 t.threads)
      ∙ ap (λ l. numbered_names (codes "t") (length t.threads) ++ l ++ map name c) (each_kept core (λ k x. refl) 0 (kinds_at t) t.cores)
      ∙ ap (λ l. numbered_names (codes "t") (length t.threads) ++ table_names t.cores ++ l)
      (spread_named (arbiter_instance s T K all (layout_of t).arbiter) (codes "arbiter") (λ k. refl) 0 K ∙ ap (names_from (codes "arbiter") 0) as_many)
