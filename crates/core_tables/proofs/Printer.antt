-- The printer's module stands at the places of a layout.
use Rattle.std.proofs.Common.{◌≡◌, ℕ, zero, suc, ◌+◌, ◌*◌, ◌<◌, ◌≤◌, true, false, replicate, List, [], ◌∷◌, ◌++◌, length, take, Some}
use Rattle.std.proofs.Common.{refl, sym, ap, ◌∙◌, subst, arith, append_assoc, length-append}
use Rattle.std.specs.Prelude.{◌||◌, slice_get}
use Rattle.std.proofs.Math.Nat.{mul-add}
use Rattle.std.proofs.lemmas.Option.{same_Some, none-some}
use Rattle.std.proofs.lemmas.List.{append-nil, length-replicate}
use Rattle.netlist.specs.declared.netlist.Module.{Module}
use Rattle.circuit.specs.Modules.{IsLeaf, is_between}
use Rattle.circuit.specs.Interfaces.{first_of, HasInterface}
use Rattle.circuit.proofs.TableRows.{length-laid}
use Rattle.circuit.proofs.Tables.{between_on, between_behind}
use Rattle.top_parts.specs.declared.layout.Group.{Group}
use Rattle.top_parts.specs.declared.layout.Core.{Core}
use Rattle.top_parts.specs.declared.layout.Layout.{Layout}
use Rattle.top_wiring.specs.Parts.{group_widths, core_outputs}
use Rattle.top_wiring.specs.Ports.{threads, core_inputs}
use Rattle.top_wiring.specs.Leaves.{IsCoreLeaf}
use Rattle.top_wiring.specs.Machine.{IsCoreAt}
use Rattle.printer_cores.specs.declared.format.Part.{Part}
use Rattle.printer_cores.specs.declared.printer.Shape.{Shape}
use Rattle.printer_cores.specs.Rows as row
use Rattle.printer_cores.specs.Printer as table
use Rattle.printer_cores.specs.Machine.{printer_machine, printer_places, part_place, inputs, input_widths, output_widths, is_late}
use Rattle.core_family.specs.Family.{Printer, IsCoreModule}
use Rattle.core_tables.specs.Fits.{group, groups_of, core_of, FitsLayout}

-- c values a site, for as many threads as the layout has
module _ (layout : Layout) (number : ℕ) (name : List ℕ) (c : ℕ) (sites : List (List Part)) (m : Module) where
  abbrev n : ℕ
  n = threads layout

  abbrev shape : Shape
  shape = record { threads = n; values = c; sites = sites }

  -- where a row starts
  abbrev P : ℕ → ℕ
  P = table.at shape

  abbrev core : Core
  core = core_of (Printer shape) number name

  module _ (is : IsCoreModule n (Printer shape) m) where
    -- the values of an ask
    value_count : length (group_widths (groups_of (Printer shape))) ≡ 2 + c
    value_count =
        let a = length-append {A = ℕ} (replicate c 64) [] in let b = length-replicate {A = ℕ} c 64 in
        omega (arith, a, b)

    same_inputs : input_widths shape ≡ core_inputs layout core
    same_inputs = widths_in n (n * 1) (let e : n * 1 ≡ n = omega arith in e)
      where
        widths_in : (n k : ℕ) → k ≡ n →
            ◌≡◌ {A = List ℕ} (1 ∷ (replicate n 1 ++ (replicate n 16 ++ (replicate (n * c) 64 ++ replicate n 1))))
            (1 ∷ ((replicate k 1 ++ (replicate k 16 ++ (replicate (n * c) 64 ++ []))) ++ replicate n 1))
        widths_in n k e =
            subst (λ j. ◌≡◌ {A = List ℕ} (1 ∷ (replicate n 1 ++ (replicate n 16 ++ (replicate (n * c) 64 ++ replicate n 1))))
            (1 ∷ ((replicate j 1 ++ (replicate j 16 ++ (replicate (n * c) 64 ++ []))) ++ replicate n 1))) (sym e)
            (ap (λ (l : List ℕ). 1 ∷ l)
            (sym (append_assoc (replicate n 1) (replicate n 16 ++ (replicate (n * c) 64 ++ [])) (replicate n 1)
            ∙ ap (λ (l : List ℕ). replicate n 1 ++ l) (append_assoc (replicate n 16) (replicate (n * c) 64 ++ []) (replicate n 1))
            ∙ ap (λ (l : List ℕ). replicate n 1 ++ (replicate n 16 ++ (l ++ replicate n 1))) (append-nil (replicate (n * c) 64)))))

    same_outputs : output_widths shape ≡ core_outputs n core
    same_outputs = sym (append-nil (replicate n 1))

    interface : HasInterface m (core_inputs layout core) (core_outputs n core)
    interface =
        subst (λ (l : List ℕ). HasInterface m l (core_outputs n core)) same_inputs
        (subst (λ (l : List ℕ). HasInterface m (input_widths shape) l) same_outputs is.stands.interface)

    offers_first : first_of m (core_outputs n core) ≡ P row.offers
    offers_first =
        let a = ap length is.table.signals in let b = length-laid n (table.table_of shape) in
        let d = length-replicate {A = ℕ} n 1 in let e = ap length same_outputs in
        omega (arith, a, b, d, e)

    first_at : (j i : ℕ) → j < 1 → i < n → part_place shape (0 + j) i ≡ 1 + (n * 0 + (i * 1 + j))
    first_at zero i l il = omega arith
    first_at (suc j) i l il = absurd (omega arith)

    site_at : (j i : ℕ) → j < 1 → i < n → part_place shape (1 + j) i ≡ 1 + (n * 1 + (i * 1 + j))
    site_at zero i l il = omega arith
    site_at (suc j) i l il = absurd (omega arith)

    value_at : (j i : ℕ) → j < c → i < n → part_place shape (2 + j) i ≡ 1 + (n * 2 + (i * c + j))
    value_at j i l il =
        let e : 2 + j ≡ suc (suc j) = omega arith in
        let f : P row.values + (i * c + j) ≡ 1 + (n * 2 + (i * c + j)) = omega arith in
        ap (λ k. part_place shape k i) e ∙ f

    ask_at : (g j i : ℕ) (x : Group) → slice_get (groups_of (Printer shape)) g ≡ Some x → j < x.count → i < n
        → part_place shape (length (group_widths (take g (groups_of (Printer shape)))) + j) i
        ≡ 1 + (n * length (group_widths (take g (groups_of (Printer shape)))) + (i * x.count + j))
    ask_at zero j i x e =
        subst (λ (z : Group). j < z.count → i < n → part_place shape (0 + j) i ≡ 1 + (n * 0 + (i * z.count + j))) (same_Some (group 1 1) x e) (first_at j i)
    ask_at (suc zero) j i x e =
        subst (λ (z : Group). j < z.count → i < n → part_place shape (1 + j) i ≡ 1 + (n * 1 + (i * z.count + j))) (same_Some (group 1 16) x e) (site_at j i)
    ask_at (suc (suc zero)) j i x e =
        subst (λ (z : Group). j < z.count → i < n → part_place shape (2 + j) i ≡ 1 + (n * 2 + (i * z.count + j))) (same_Some (group c 64) x e) (value_at j i)
    ask_at (suc (suc (suc g))) j i x e = absurd (none-some x e)

    grant_place : (i : ℕ) → P row.grants + i ≡ 1 + (n * length (group_widths (groups_of (Printer shape))) + i)
    grant_place i =
        let a : n * (2 + c) ≡ n * 2 + n * c = mul-add n 2 c in
        let b : P row.grants + i ≡ 1 + (n * (2 + c) + i) = omega (arith, a) in
        b ∙ ap (λ k. 1 + (n * k + i)) (sym value_count)

    at : IsCoreAt layout (printer_machine shape) (printer_places shape) core m
    at = record {
      is = is.core;
      parts = (let e : suc (suc c) ≡ 2 + c = omega arith in e) ∙ sym value_count;
      told = refl;
      ask = ask_at;
      grant = λ i l. grant_place i;
      offer = λ i l. ap (λ z. z + i) (sym offers_first);
      tell = λ j i l il. absurd (omega arith);
    }

    early : (x : ℕ) → P row.offers ≤ x → is_late shape x ≡ false
    early x l =
        ap (λ b. b || is_between (P row.going) (P row.offers) x) (between_behind (P row.grants) (P row.one) x (omega arith) (omega arith))
        ∙ between_behind (P row.going) (P row.offers) x (omega arith) l

    grants_late : (i : ℕ) → i < n → is_late shape (1 + (n * length (group_widths (groups_of (Printer shape))) + i)) ≡ true
    grants_late i l =
        ap (is_late shape) (sym (grant_place i))
        ∙ ap (λ b. b || is_between (P row.going) (P row.offers) (P row.grants + i)) (between_on (P row.grants) (P row.one) (P row.grants + i) (omega arith) (omega arith))

    many : inputs shape ≡ length (input_widths shape)
    many =
        let a = length-replicate {A = ℕ} n 1 in let b = length-replicate {A = ℕ} n 16 in let d = length-replicate {A = ℕ} (n * c) 64 in
        let e = length-append {A = ℕ} (replicate (n * c) 64) (replicate n 1) in
        let f = length-append {A = ℕ} (replicate n 16) (replicate (n * c) 64 ++ replicate n 1) in
        let g = length-append {A = ℕ} (replicate n 1) (replicate n 16 ++ (replicate (n * c) 64 ++ replicate n 1)) in
        omega arith

    leaf : IsCoreLeaf layout (is_late shape) core m
    leaf = record {
      leaf = subst (λ k. IsLeaf m k (is_late shape)) (many ∙ ap length same_inputs) is.leaf;
      ports = interface.ports;
      grants_late = grants_late;
      early = λ x l. early (first_of m (core_outputs n core) + x) (let e = offers_first in omega (arith, e));
    }

    pub fits : FitsLayout layout (Printer shape) core m
    fits = record { at = at; leaf = leaf; interface = interface }

pub printer_fits : (layout : Layout) (number : ℕ) (name : List ℕ) (s : Shape) (m : Module) → IsCoreModule (threads layout) (Printer s) m →
    FitsLayout layout (Printer s) (core_of (Printer s) number name) m
printer_fits layout number name s m is =
    let same : s ≡ record { threads = threads layout; values = s.values; sites = s.sites } =
    ap (λ (k : ℕ). record { threads = k; values = s.values; sites = s.sites }) is.asked_by in
    subst (λ (z : Shape). FitsLayout layout (Printer z) (core_of (Printer z) number name) m) (sym same)
    (fits layout number name s.values s.sites m (subst (λ (z : Shape). IsCoreModule (threads layout) (Printer z) m) same is))
