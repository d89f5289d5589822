-- Signals at the places of their kinds: inputs, then registers and wires, then outputs.
use Rattle.std.proofs.Common.{◌≡◌, ℕ, suc, ◌+◌, ◌<◌, ◌≤◌, Bool, true, false, if◌then◌else◌, List, []}
use Rattle.std.proofs.Common.{◌∷◌, ◌++◌, length, filter, slice_get, Some, refl, sym, ap, subst, ◌∙◌, arith, ⊎_elim}
use Rattle.std.proofs.lemmas.Bool.{cases_lt, cond-false, cond-true}
use Rattle.netlist.specs.declared.netlist.Source.{Source}
use Rattle.netlist.specs.declared.netlist.Source.TheVariants.{Input, Register, Assigned, Port}
use Rattle.netlist.specs.declared.netlist.Signal.{Signal}
use Rattle.netlist.specs.declared.netlist.Module.{Module}
use Rattle.netlist.specs.NetlistOf.{InputPort, OutputPort, PlainWire, is_output_port}
use Rattle.netlist.specs.Laid.{kind_by, kind_of, is_input_port, is_inner}
use Rattle.module_sound.specs.Kinds.{IsKindAt}

-- which kind a signal has
pub record IsOfKind (s : Signal) (input inner out : Bool) : Type 0 where
  pub input_is : is_input_port (kind_of s) ≡ input
  pub inner_is : is_inner (kind_of s) ≡ inner
  pub output_is : is_output_port (kind_of s) ≡ out

module _ (m : Module) (inputs first x : ℕ) (s : Signal) where
  input_by : (d : Source) (out : Bool) → x < inputs → IsKindAt m inputs first x out d → kind_by d out ≡ InputPort
  input_by Input out less t = refl
  input_by (Register n) out less t = absurd (let past = t.0 in omega arith)
  input_by (Assigned v) out less t = absurd (let past = t.0 in omega arith)
  input_by (Port i p) out less t = absurd t

  output_by : (d : Source) (out : Bool) → inputs ≤ first → first ≤ x → IsKindAt m inputs first x out d → kind_by d out ≡ OutputPort
  output_by Input out order past t = absurd (let less = t.0 in omega arith)
  output_by (Register n) out order past t = absurd (let less = t.1 in omega arith)
  output_by (Assigned v) out order past t = ap (λ b. if b then OutputPort else PlainWire) (t.1 past)
  output_by (Port i p) out order past t = absurd t

  inner_by : (d : Source) (out : Bool) → inputs ≤ x → x < first → IsKindAt m inputs first x out d
      → (is_input_port (kind_by d out) ≡ false) × (is_inner (kind_by d out) ≡ true) × (is_output_port (kind_by d out) ≡ false)
  inner_by Input out past less t = absurd (let low = t.0 in omega arith)
  inner_by (Register n) out past less t = (refl, refl, refl)
  inner_by (Assigned v) out past less t =
      let plain : kind_by (Assigned v) out ≡ PlainWire = ap (λ b. if b then OutputPort else PlainWire) (t.2 less) in
      (ap is_input_port plain, ap is_inner plain, ap is_output_port plain)
  inner_by (Port i p) out past less t = absurd t

  pub kind_input : x < inputs → IsKindAt m inputs first x s.is_output s.source → IsOfKind s true false false
  kind_input less t =
      let e = input_by s.source s.is_output less t in
      record { input_is = ap is_input_port e; inner_is = ap is_inner e; output_is = ap is_output_port e }

  pub kind_inner : inputs ≤ x → x < first → IsKindAt m inputs first x s.is_output s.source → IsOfKind s false true false
  kind_inner past less t = let e = inner_by s.source s.is_output past less t in record { input_is = e.0; inner_is = e.1; output_is = e.2 }

  pub kind_output : inputs ≤ first → first ≤ x → IsKindAt m inputs first x s.is_output s.source → IsOfKind s false false true
  kind_output order past t =
      let e = output_by s.source s.is_output order past t in
      record { input_is = ap is_input_port e; inner_is = ap is_inner e; output_is = ap is_output_port e }

-- ---- filters of a list whose elements stand from place p on

abbrev ins : List Signal → List Signal
ins xs = filter (λ (s : Signal). is_input_port (kind_of s)) xs

abbrev inners : List Signal → List Signal
inners xs = filter (λ (s : Signal). is_inner (kind_of s)) xs

abbrev outs : List Signal → List Signal
outs xs = filter (λ (s : Signal). is_output_port (kind_of s)) xs

module _ (m : Module) (inputs first : ℕ) (order : inputs ≤ first) where
  abbrev From : ℕ → List Signal → Type 0
  From p xs = (k : ℕ) (s : Signal) → slice_get xs k ≡ Some s → IsKindAt m inputs first (p + k) s.is_output s.source

  rest : (p : ℕ) (x : Signal) (xs : List Signal) → From p (x ∷ xs) → From (suc p) xs
  rest p x xs each k s e =
      let at : p + suc k ≡ suc p + k = omega arith in
      subst (λ (n : ℕ). IsKindAt m inputs first n s.is_output s.source) at (each (suc k) s e)

  head : (p : ℕ) (x : Signal) (xs : List Signal) → From p (x ∷ xs) → IsKindAt m inputs first p x.is_output x.source
  head p x xs each = let at : p + 0 ≡ p = omega arith in subst (λ (n : ℕ). IsKindAt m inputs first n x.is_output x.source) at (each 0 x refl)

  no_inputs : (p : ℕ) (xs : List Signal) → inputs ≤ p → From p xs → ins xs ≡ []
  no_inputs p [] past each = refl
  no_inputs p (x ∷ xs) past each =
      let later = no_inputs (suc p) xs (omega arith) (rest p x xs each) in
      ⊎_elim
      (λ (less : p < first). cond-false (is_input_port (kind_of x)) (x ∷ (ins xs)) (ins xs) (kind_inner m inputs first p x past less (head p x xs each)).input_is ∙ later)
      (λ (last : first ≤ p). cond-false (is_input_port (kind_of x)) (x ∷ (ins xs)) (ins xs) (kind_output m inputs first p x order last (head p x xs each)).input_is ∙ later)
      (cases_lt p first)

  no_inners : (p : ℕ) (xs : List Signal) → first ≤ p → From p xs → inners xs ≡ []
  no_inners p [] past each = refl
  no_inners p (x ∷ xs) past each =
      cond-false (is_inner (kind_of x)) (x ∷ (inners xs)) (inners xs) (kind_output m inputs first p x order past (head p x xs each)).inner_is
      ∙ no_inners (suc p) xs (omega arith) (rest p x xs each)

  pub in_order : (p : ℕ) (xs : List Signal) → From p xs → xs ≡ ins xs ++ inners xs ++ outs xs
  in_order p [] each = refl
  in_order p (x ∷ xs) each =
      let later = in_order (suc p) xs (rest p x xs each) in
      let here = head p x xs each in
      ⊎_elim
      (λ (less : p < inputs).
      let k = kind_input m inputs first p x less here in
      ap (λ l. x ∷ l) later ∙ sym (three (cond-true (is_input_port (kind_of x)) (x ∷ (ins xs)) (ins xs) k.input_is) (cond-false (is_inner (kind_of x)) (x ∷ (inners xs)) (inners xs) k.inner_is)
      (cond-false (is_output_port (kind_of x)) (x ∷ (outs xs)) (outs xs) k.output_is)))
      (λ (past : inputs ≤ p).
      let none = no_inputs (suc p) xs (omega arith) (rest p x xs each) in
      ⊎_elim
      (λ (less : p < first).
      let k = kind_inner m inputs first p x past less here in
      ap (λ l. x ∷ l) (later ∙ ap (λ l. l ++ inners xs ++ outs xs) none)
      ∙ sym (three (cond-false (is_input_port (kind_of x)) (x ∷ (ins xs)) (ins xs) k.input_is ∙ none) (cond-true (is_inner (kind_of x)) (x ∷ (inners xs)) (inners xs) k.inner_is)
      (cond-false (is_output_port (kind_of x)) (x ∷ (outs xs)) (outs xs) k.output_is)))
      (λ (last : first ≤ p).
      let k = kind_output m inputs first p x order last here in
      let no = no_inners (suc p) xs (omega arith) (rest p x xs each) in
      ap (λ l. x ∷ l) (later ∙ ap (λ l. l ++ inners xs ++ outs xs) none ∙ ap (λ l. [] ++ l ++ outs xs) no)
      ∙ sym (three (cond-false (is_input_port (kind_of x)) (x ∷ (ins xs)) (ins xs) k.input_is ∙ none) (cond-false (is_inner (kind_of x)) (x ∷ (inners xs)) (inners xs) k.inner_is ∙ no)
      (cond-true (is_output_port (kind_of x)) (x ∷ (outs xs)) (outs xs) k.output_is)))
      (cases_lt p first))
      (cases_lt p inputs)
    where
      three : {a b c d e f : List Signal} → a ≡ d → b ≡ e → c ≡ f → a ++ b ++ c ≡ d ++ e ++ f
      three {a} {b} {c} {d} {e} {f} g h i = ap (λ l. l ++ b ++ c) g ∙ ap (λ l. d ++ l ++ c) h ∙ ap (λ l. d ++ e ++ l) i

  -- ---- counts

  pub input_count : (p : ℕ) (xs : List Signal) → p ≤ inputs → inputs ≤ p + length xs → From p xs → length (ins xs) + p ≡ inputs
  input_count p [] le ge each = (let none : length (ins []) ≡ 0 = refl in omega arith)
  input_count p (x ∷ xs) le ge each =
      ⊎_elim
      (λ (less : p < inputs).
      let one = ap length (cond-true (is_input_port (kind_of x)) (x ∷ (ins xs)) (ins xs) (kind_input m inputs first p x less (head p x xs each)).input_is) in
      let later = input_count (suc p) xs less (omega arith) (rest p x xs each) in
      omega arith)
      (λ (past : inputs ≤ p). let none = ap length (no_inputs p (x ∷ xs) past each) in omega arith)
      (cases_lt p inputs)

  all_outputs : (p : ℕ) (xs : List Signal) → first ≤ p → From p xs → length (outs xs) ≡ length xs
  all_outputs p [] past each = refl
  all_outputs p (x ∷ xs) past each =
      ap length (cond-true (is_output_port (kind_of x)) (x ∷ (outs xs)) (outs xs) (kind_output m inputs first p x order past (head p x xs each)).output_is)
      ∙ ap suc (all_outputs (suc p) xs (omega arith) (rest p x xs each))

  pub output_count : (p : ℕ) (xs : List Signal) → p ≤ first → first ≤ p + length xs → From p xs → length (outs xs) + first ≡ p + length xs
  output_count p [] le ge each = (let none : length (outs []) ≡ 0 = refl in omega arith)
  output_count p (x ∷ xs) le ge each =
      ⊎_elim
      (λ (less : p < first).
      let later = output_count (suc p) xs less (omega arith) (rest p x xs each) in
      let none = ap length (cond-false (is_output_port (kind_of x)) (x ∷ (outs xs)) (outs xs) (not_output less)) in
      omega arith)
      (λ (past : first ≤ p). let all = all_outputs p (x ∷ xs) past each in omega arith)
      (cases_lt p first)
    where
      not_output : p < first → is_output_port (kind_of x) ≡ false
      not_output less =
          ⊎_elim (λ (low : p < inputs). (kind_input m inputs first p x low (head p x xs each)).output_is)
          (λ (past : inputs ≤ p). (kind_inner m inputs first p x past less (head p x xs each)).output_is) (cases_lt p inputs)

-- ---- checks, one place after the other
