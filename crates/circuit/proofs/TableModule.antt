-- The module of a table of rows that passes its test can stand in a table of modules.
use Rattle.std.proofs.Common.{◌≡◌, ℕ, zero, suc, ◌+◌, ◌*◌, ◌^◌, ◌<◌, ◌≤◌, Bool, false, List, [], ◌∷◌, ◌++◌, length, take, drop, replicate, Option, Some, None}
use Rattle.std.proofs.Common.{slice_get, refl, sym, ap, ◌∙◌, subst, arith, add-zero, zero-add, length-append}
use Rattle.std.specs.Prelude.{decimal}
use Rattle.std.proofs.lemmas.List.{take-append-drop, length-replicate}
use Rattle.std.proofs.lemmas.Option.{none-some}
use Rattle.verilog_tree.specs.Scope.{is_clk}
use Rattle.netlist.specs.declared.netlist.Source.TheVariants as source
use Rattle.netlist.specs.declared.netlist.Signal.{Signal}
use Rattle.netlist.specs.declared.netlist.Module.{Module}
use Rattle.netlist.specs.Laid.{AreApart, signal_names, declared_names}
use Rattle.netlist.specs.Sound.{IsSet}
use Rattle.circuit.specs.declared.table.Row.{Row}
use Rattle.circuit.specs.declared.table.Row.TheVariants.{One, Each, Many, Chain, Chains}
use Rattle.circuit.specs.Rows.{EachOf}
use Rattle.circuit.specs.Modules.{Has, IsLeaf, FitsAction, FitsMemory}
use Rattle.circuit.specs.Interfaces.{IsTableModule}
use Rattle.circuit.specs.Table.{size_of, rows_end, place, widths}
use Rattle.circuit.specs.Fits.{inputs, registers, outputs, input_widths, output_widths, only_width, Words}
use Rattle.circuit.proofs.LeafForm.{ActsOnData, IsFormedMemory}
use Rattle.circuit.proofs.RowModules.{HasRole, roles_apart, signals_apart, not_zero, behind_dash, HasFrom, no_more, one_more, many_more, all_alike, has_ports}
use Rattle.circuit.proofs.TableModules.{table_module}
use Rattle.circuit.proofs.TableRows.{row_size, place_up, rows_end-append, by_signals, length-laid}
use Rattle.circuit.proofs.TableElements.{elements, some_inputs, inputs_first, outputs_last, place_one, clock_wide}
use Rattle.circuit.proofs.TableSound.{row_width, has_at, IsLaid, leaf, formed}

-- ---- parts of a list of rows

take_get : (i k : ℕ) (rows : List Row) (r : Row) → slice_get (take i rows) k ≡ Some r → (slice_get rows k ≡ Some r) × (take k (take i rows) ≡ take k rows)
take_get zero k rows r e = absurd (none-some r e)
take_get (suc i) k [] r e = absurd (none-some r e)
take_get (suc i) zero (x ∷ rows) r e = (e, refl)
take_get (suc i) (suc k) (x ∷ rows) r e = let h = take_get i k rows r e in (h.0, ap (λ l. x ∷ l) h.1)

drop_get : (o k : ℕ) (rows : List Row) (r : Row) → slice_get (drop o rows) k ≡ Some r → slice_get rows (o + k) ≡ Some r
drop_get zero k rows r e = ap (slice_get rows) (zero-add k) ∙ e
drop_get (suc o) k [] r e = absurd (none-some r e)
drop_get (suc o) k (x ∷ rows) r e = let z : suc o + k ≡ suc (o + k) = omega arith in ap (slice_get (x ∷ rows)) z ∙ drop_get o k rows r e

drop_take : (o k : ℕ) (rows : List Row) → take (o + k) rows ≡ take o rows ++ take k (drop o rows)
drop_take zero k rows = ap (λ j. take j rows) (zero-add k)
drop_take (suc o) zero [] = let z : suc o + 0 ≡ suc o = omega arith in ap (λ j. take j []) z
drop_take (suc o) (suc k) [] = let z : suc o + suc k ≡ suc (o + suc k) = omega arith in ap (λ j. take j []) z
drop_take (suc o) k (x ∷ rows) = let z : suc o + k ≡ suc (o + k) = omega arith in ap (λ j. take j (x ∷ rows)) z ∙ ap (λ l. x ∷ l) (drop_take o k rows)

-- ---- widths

module _ (n : ℕ) where
  length-widths : (at : ℕ) (rows : List Row) → at + length (widths n rows) ≡ rows_end n at rows
  length-widths at [] = add-zero at
  length-widths at (One r w f ∷ rows) = let e = length-widths (at + 1) rows in let z : at + length (w ∷ widths n rows) ≡ at + 1 + length (widths n rows) = omega arith in z ∙ e
  length-widths at (Each r w f ∷ []) = ap (λ k. at + k) (length-replicate {A = ℕ} n w)
  length-widths at (Each r w f ∷ x ∷ rows) =
      let e = length-widths (at + n) (x ∷ rows) in let a = length-append (replicate n w) (widths n (x ∷ rows)) in let b = length-replicate {A = ℕ} n w in
      let z : at + length (replicate n w ++ widths n (x ∷ rows)) ≡ at + n + length (widths n (x ∷ rows)) = omega arith in z ∙ e
  length-widths at (Many size r w f ∷ rows) =
      let e = length-widths (at + size_of n size) rows in
      let a = length-append (replicate (size_of n size) w) (widths n rows) in let b = length-replicate {A = ℕ} (size_of n size) w in
      let z : at + length (replicate (size_of n size) w ++ widths n rows) ≡ at + size_of n size + length (widths n rows) = omega arith in z ∙ e
  length-widths at (Chain r w first step ∷ rows) =
      let e = length-widths (at + 1 + n) rows in let a = length-append (replicate n w) (widths n rows) in let b = length-replicate {A = ℕ} n w in
      let z : at + length (w ∷ replicate n w ++ widths n rows) ≡ at + 1 + n + length (widths n rows) = omega arith in z ∙ e
  length-widths at (Chains count r w first step ∷ rows) =
      let many = count + n * count in
      let e = length-widths (at + count + n * count) rows in let a = length-append (replicate many w) (widths n rows) in let b = length-replicate {A = ℕ} many w in
      let z : at + length (replicate many w ++ widths n rows) ≡ at + count + n * count + length (widths n rows) = omega arith in z ∙ e

  module _ (m : Module) where
    -- each signal of some rows that stand from a place on has its row's width
    abbrev HaveWidths : ℕ → List Row → Type 0
    HaveWidths at rows = (k : ℕ) (r : Row) → slice_get rows k ≡ Some r → (e : ℕ) → e < row_size n r → Has m (rows_end n at (take k rows) + e) (row_width r)

    at_first : (at w : ℕ) → Has m (at + 0) w → Has m at w
    at_first at w h = subst (λ y. Has m y w) (add-zero at) h

    has_from : (at : ℕ) (rows : List Row) → HaveWidths at rows → HasFrom m at (widths n rows)
    has_from at [] h = no_more m at
    has_from at (One r w f ∷ rows) h = one_more m at w (widths n rows) (at_first at w (h 0 (One r w f) refl 0 (omega arith))) (has_from (at + 1) rows (λ k. h (suc k)))
    has_from at (Each r w f ∷ []) h = all_alike m at n w (λ e l. h 0 (Each r w f) refl e l)
    has_from at (Each r w f ∷ x ∷ rows) h = many_more m at n w (widths n (x ∷ rows)) (λ e l. h 0 (Each r w f) refl e l) (has_from (at + n) (x ∷ rows) (λ k. h (suc k)))
    has_from at (Many size r w f ∷ rows) h =
        many_more m at (size_of n size) w (widths n rows) (λ e l. h 0 (Many size r w f) refl e l) (has_from (at + size_of n size) rows (λ k. h (suc k)))
    has_from at (Chain r w first step ∷ rows) h =
        one_more m at w (replicate n w ++ widths n rows) (at_first at w (h 0 (Chain r w first step) refl 0 (omega arith)))
        (many_more m (at + 1) n w (widths n rows)
        (λ e l. let z : at + suc e ≡ at + 1 + e = omega arith in subst (λ y. Has m y w) z (h 0 (Chain r w first step) refl (suc e) (omega arith)))
        (has_from (at + 1 + n) rows (λ k. h (suc k))))
    has_from at (Chains count r w first step ∷ rows) h =
        let z : at + count + n * count ≡ at + (count + n * count) = omega arith in
        many_more m at (count + n * count) w (widths n rows) (λ e l. h 0 (Chains count r w first step) refl e l)
        (subst (λ y. HasFrom m y (widths n rows)) z (has_from (at + count + n * count) rows (λ k. h (suc k))))

-- ---- the module

module _ {n : ℕ} {late : ℕ → Bool} {memories : List Words} {rows : List Row} {m : Module} {late_at : ℕ → Bool} (table : IsLaid n late memories rows m late_at) where
  abbrev P : ℕ → ℕ
  P = place n rows

  abbrev ins : List ℕ
  ins = input_widths rows n

  abbrev outs : List ℕ
  outs = output_widths rows n

  pub inputs_long : length ins ≡ P (inputs rows)
  inputs_long = sym (zero-add (length ins)) ∙ length-widths n 0 (take (inputs rows) rows)

  pub signals_long : length m.signals ≡ P (outputs rows) + length outs
  signals_long =
      ap length table.signals ∙ length-laid n rows ∙ ap (rows_end n 0) (sym (take-append-drop (outputs rows) rows))
      ∙ rows_end-append n 0 (take (outputs rows) rows) (drop (outputs rows) rows)
      ∙ sym (length-widths n (P (outputs rows)) (drop (outputs rows) rows))

  clock_row : (o : Option Row) → slice_get rows 0 ≡ o → only_width o ≡ 1 → Has m 0 1
  clock_row None e w = absurd (omega arith)
  clock_row (Some (One r v f)) e w = subst (Has m 0) w (at_first n m 0 v (has_at n rows m table.signals 0 (One r v f) e 0 (omega arith)))
  clock_row (Some (Each r v f)) e w = absurd (omega arith)
  clock_row (Some (Many size r v f)) e w = absurd (omega arith)
  clock_row (Some (Chain r v first step)) e w = absurd (omega arith)
  clock_row (Some (Chains count r v first step)) e w = absurd (omega arith)

  inputs_are : HasFrom m 0 ins
  inputs_are = has_from n m 0 (take (inputs rows) rows) (λ k r q e l.
      let g = take_get (inputs rows) k rows r q in
      subst (λ (ks : List Row). Has m (rows_end n 0 ks + e) (row_width r)) (sym g.1) (has_at n rows m table.signals k r g.0 e l))

  outputs_are : HasFrom m (P (outputs rows)) outs
  outputs_are = has_from n m (P (outputs rows)) (drop (outputs rows) rows) (λ k r q e l.
      let z : P (outputs rows + k) ≡ rows_end n (P (outputs rows)) (take k (drop (outputs rows) rows)) =
      ap (rows_end n 0) (drop_take (outputs rows) k rows) ∙ rows_end-append n 0 (take (outputs rows) rows) (take k (drop (outputs rows) rows)) in
      subst (λ y. Has m (y + e) (row_width r)) z (has_at n rows m table.signals (outputs rows + k) r (drop_get (outputs rows) k rows r q) e l))

  pub roles : (x : ℕ) (s : Signal) → slice_get m.signals x ≡ Some s → HasRole x s
  roles = by_signals n rows m table.signals HasRole (elements n table.few late memories rows table.passes HasRole (λ k r w f i x el. (r, refl)))

  module _ (set : (x : ℕ) → P (inputs rows) ≤ x → x < P (registers rows) → (c : ℕ) → IsSet m x (source.Register c)) (small : length m.signals < 2 ^ 64) where
    pub signals_named : AreApart (signal_names m)
    signals_named = signals_apart m roles small (P (outputs rows)) (formed table set)

    pub none_zero : (x : ℕ) (s : Signal) → slice_get m.signals x ≡ Some s → (y : List ℕ) → s.name ≡ y → behind_dash y ≡ decimal 0 → is_clk y ≡ false → ⊥
    none_zero = not_zero m roles small (P (outputs rows)) (formed table set)

    pub apart : m.memories ≡ [] → m.instances ≡ [] → AreApart (declared_names m)
    apart = roles_apart m roles small (P (outputs rows)) (formed table set)

    pub stands : m.instances ≡ [] → EachOf (FitsAction m) m.actions → EachOf FitsMemory m.memories → AreApart (declared_names m) → is_clk m.name ≡ false
        → EachOf (ActsOnData m) m.actions → EachOf (IsFormedMemory m) m.memories → IsTableModule m ins outs
    stands alone acts begins names named clean fills =
        let one = place_one n table.few late memories rows table.passes in
        let some = some_inputs n table.few late memories rows table.passes in
        let a = inputs_first n table.few late memories rows table.passes in let b = outputs_last n table.few late memories rows table.passes in
        let up = place_up n rows 1 (inputs rows) (omega arith) in
        let room = place_up n rows (inputs rows) (outputs rows) (omega arith) in
        let long = inputs_long in
        table_module m ins outs late_at (P (outputs rows)) (record {
          leaf = subst (λ k. IsLeaf m k late_at) (sym inputs_long) (leaf table alone acts begins);
          clocked = omega arith;
          clock_bit = clock_row (slice_get rows 0) refl (clock_wide n table.few late memories rows table.passes);
          long = signals_long;
          room = omega arith;
          ports = has_ports m ins outs (P (outputs rows)) signals_long inputs_are outputs_are;
          names = names;
          named = named;
          formed = formed table set;
          acts = clean;
          memories = fills;
        })
