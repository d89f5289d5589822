-- Grades of signals: inputs have those of their places, what registers alone reach has 0, what the enable reaches 1, and what
-- a grant or a word of a bank reaches 2.
use Rattle.std.proofs.Common.{◌≡◌, ℕ, ◌+◌, ◌<◌, ◌≤◌, Bool, nat_lt, if◌then◌else◌, min, List, length, Option, Some, sym, ap, subst, ◌∙◌, arith, ⊎_elim}
use Rattle.std.specs.Prelude.{slice_get}
use Rattle.std.proofs.lemmas.Bool.{cases_lt, le-ltb, lt-ltb}
use Rattle.netlist.specs.declared.netlist.Value.{Value}
use Rattle.netlist.specs.declared.netlist.Value.TheVariants.{Copy, Constant, BitwiseNot, Binary, SignedLess, ArithmeticShiftRight, Conditional, Division, SignedDivision}
use Rattle.netlist.specs.declared.netlist.Value.TheVariants.{MemoryRead, Select, Concatenation, Replication}
use Rattle.netlist.specs.declared.netlist.Source.{Source}
use Rattle.netlist.specs.declared.netlist.Signal.{Signal}
use Rattle.netlist.specs.declared.netlist.Memory.{Memory}
use Rattle.netlist.specs.declared.netlist.Module.{Module}
use Rattle.circuit.specs.Modules.{Has, FitsValue}
use Rattle.circuit.specs.Rows.{spread}
use Rattle.circuit.proofs.Tables.{fits_among}
use Rattle.circuit.proofs.Growth.{slice_get-spread}
use Rattle.module_sound.specs.Grades.{IsOperand, IsRightSide, IsGradedSource, IsGradedSignal}
use Rattle.module_sound.specs.Kinds.{HasRange}
use Rattle.operator_wires.specs.Gives.{Grows}
use Rattle.operator_wires.specs.Built.{Base, no_memory, SelectsOf, IsEarlier, IsRead, IsWire}
use Rattle.operator_wires.proofs.PutSignals.{listed}
use Rattle.operator_wires.proofs.BuiltWires.{within, longer}

-- ---- grades by places: so many inputs, then what registers alone reach, up to place l; the wires of stages, up to place d, which words of

-- banks reach; whether cores are asked, up to place a; the other wires of control, up to place e; and the outputs, first those that ask

module _ (inputs l d a e asked : ℕ) where
  abbrev at_outputs : ℕ → ℕ
  at_outputs x = if nat_lt x (e + asked) then 1 else 0

  abbrev at_control : ℕ → ℕ
  at_control x = if nat_lt x e then 2 else at_outputs x

  abbrev at_asks : ℕ → ℕ
  at_asks x = if nat_lt x a then 1 else at_control x

  abbrev at_stages : ℕ → ℕ
  at_stages x = if nat_lt x d then 2 else at_asks x

  abbrev at_slot : ℕ → ℕ
  at_slot x = if nat_lt x l then 0 else at_stages x

  pub level : ℕ → ℕ
  level x = if nat_lt x inputs then min x 2 else at_slot x

  pub input_level : (x : ℕ) → x < inputs → level x ≡ min x 2
  unfolding level
  input_level x less = ap (λ (t : Bool). if t then min x 2 else at_slot x) (lt-ltb x inputs less)

  past_inputs : (x : ℕ) → inputs ≤ x → level x ≡ at_slot x
  unfolding level
  past_inputs x le = ap (λ (t : Bool). if t then min x 2 else at_slot x) (le-ltb x inputs le)

  pub slot_level : (x : ℕ) → inputs ≤ x → x < l → level x ≡ 0
  slot_level x le less = past_inputs x le ∙ ap (λ (t : Bool). if t then 0 else at_stages x) (lt-ltb x l less)

  module _ (slots : inputs ≤ l) where
    past_slot : (x : ℕ) → l ≤ x → level x ≡ at_stages x
    past_slot x le = past_inputs x (omega arith) ∙ ap (λ (t : Bool). if t then 0 else at_stages x) (le-ltb x l le)

    pub stage_level : (x : ℕ) → l ≤ x → x < d → level x ≡ 2
    stage_level x le less = past_slot x le ∙ ap (λ (t : Bool). if t then 2 else at_asks x) (lt-ltb x d less)

    module _ (stages : l ≤ d) where
      past_stages : (x : ℕ) → d ≤ x → level x ≡ at_asks x
      past_stages x le = past_slot x (omega arith) ∙ ap (λ (t : Bool). if t then 2 else at_asks x) (le-ltb x d le)

      pub asks_level : (x : ℕ) → d ≤ x → x < a → level x ≡ 1
      asks_level x le less = past_stages x le ∙ ap (λ (t : Bool). if t then 1 else at_control x) (lt-ltb x a less)

      module _ (cores : d ≤ a) where
        past_asks : (x : ℕ) → a ≤ x → level x ≡ at_control x
        past_asks x le = past_stages x (omega arith) ∙ ap (λ (t : Bool). if t then 1 else at_control x) (le-ltb x a le)

        pub control_level : (x : ℕ) → a ≤ x → x < e → level x ≡ 2
        control_level x le less = past_asks x le ∙ ap (λ (t : Bool). if t then 2 else at_outputs x) (lt-ltb x e less)

        module _ (control : a ≤ e) where
          past_control : (x : ℕ) → e ≤ x → level x ≡ at_outputs x
          past_control x le = past_asks x (omega arith) ∙ ap (λ (t : Bool). if t then 2 else at_outputs x) (le-ltb x e le)

          pub asked_level : (x : ℕ) → e ≤ x → x < e + asked → level x ≡ 1
          asked_level x le less = past_control x le ∙ ap (λ (t : Bool). if t then 1 else 0) (lt-ltb x (e + asked) less)

          pub told_level : (x : ℕ) → e + asked ≤ x → level x ≡ 0
          told_level x le = past_control x (omega arith) ∙ ap (λ (t : Bool). if t then 1 else 0) (le-ltb x (e + asked) le)

        -- none is above 2
        pub most_level : (x : ℕ) → x < e → level x ≤ 2
        most_level x less =
            ⊎_elim (λ (h : x < inputs). (let z = input_level x h in omega arith))
            (λ (h : inputs ≤ x).
            ⊎_elim (λ (k : x < l). (let z = slot_level x h k in omega arith))
            (λ (k : l ≤ x).
            ⊎_elim (λ (p : x < d). (let z = stage_level x k p in omega arith))
            (λ (p : d ≤ x).
            ⊎_elim (λ (q : x < a). (let z = asks_level x p q in omega arith)) (λ (q : a ≤ x). (let z = control_level x q less in omega arith)) (cases_lt x a))
            (cases_lt x d))
            (cases_lt x l))
            (cases_lt x inputs)

-- ---- signals of grades

range_of : (m : Module) (P : ℕ → ℕ → Type 0) (v : Value) → ((y u : ℕ) → P y u → Has m y u) → SelectsOf P v → HasRange m v
range_of m P (Select x high low) h s = (s.0, h x s.0 s.1, s.2)
range_of m P (Copy x) h s = tt
range_of m P (Constant n) h s = tt
range_of m P (BitwiseNot x) h s = tt
range_of m P (Binary operator x y) h s = tt
range_of m P (SignedLess x y) h s = tt
range_of m P (ArithmeticShiftRight x y) h s = tt
range_of m P (Conditional c x y) h s = tt
range_of m P (Division operator x y) h s = tt
range_of m P (SignedDivision operator x y) h s = tt
range_of m P (MemoryRead j x) h s = tt
range_of m P (Concatenation xs) h s = tt
range_of m P (Replication n x) h s = tt

-- of other memories, among which these are
other_memory : (P : ℕ → ℕ → Type 0) (memory other : ℕ → Option Memory) → ((j : ℕ) (c : Memory) → memory j ≡ Some c → other j ≡ Some c) → (w : ℕ) (v : Value) →
    FitsValue P memory w v
    → FitsValue P other w v
other_memory P memory other among w (Copy x) f = f
other_memory P memory other among w (Constant n) f = f
other_memory P memory other among w (BitwiseNot x) f = f
other_memory P memory other among w (Binary operator x y) f = f
other_memory P memory other among w (SignedLess x y) f = f
other_memory P memory other among w (ArithmeticShiftRight x y) f = f
other_memory P memory other among w (Conditional c x y) f = f
other_memory P memory other among w (Division operator x y) f = f
other_memory P memory other among w (SignedDivision operator x y) f = f
other_memory P memory other among w (MemoryRead j x) f = (f.0, among j f.0 f.1, f.2, f.3)
other_memory P memory other among w (Select x high low) f = f
other_memory P memory other among w (Concatenation xs) f = f
other_memory P memory other among w (Replication n x) f = f

pub none_read : (m : Module) (j : ℕ) (c : Memory) → no_memory j ≡ Some c → slice_get m.memories j ≡ Some c
none_read m j c e = absurd cc

module _ (m : Module) (grade : ℕ → ℕ) where
  abbrev pub grades : List ℕ
  grades = spread grade 0 (length m.signals)

  pub grade_listed : (x : ℕ) → x < length m.signals → slice_get grades x ≡ Some (grade x)
  grade_listed x less = let e : 0 + x ≡ x = omega arith in slice_get-spread grade 0 (length m.signals) x less ∙ ap (λ n. Some (grade n)) e

  module _ (a : List Signal) (g : Grows a m.signals) where
    pub earlier_has : (base : Base) (y w : ℕ) → IsEarlier a base y w → Has m y w
    earlier_has base y w e = record { signal = e.signal; listed = listed a m.signals y e.signal g e.listed; wide = e.wide }

    pub earlier_operand : (base : Base) (x y w most : ℕ) → 0 < base.first → IsEarlier a base y w → y < x → grade y ≤ most → IsOperand m grades x most y w
    earlier_operand base x y w most some e before le = record {
      has = earlier_has base y w e;
      after = (let after = e.after in omega arith);
      before = before;
      own = grade y;
      listed = grade_listed y (let one = within a base y w e in let two = longer a m.signals g in omega arith);
      most = le;
    }

    pub wire_graded : (base : Base) (inputs x most : ℕ) (s : Signal) → 0 < base.first → ((j : ℕ) (c : Memory) → base.memory j ≡ Some c → slice_get m.memories j ≡ Some c)
        → ((y : ℕ) → base.first ≤ y → y < x → grade y ≤ most) → IsWire a base x s → IsGradedSignal m grades x inputs most s
    wire_graded base inputs x most s some memories all t =
        let fits : IsRightSide m grades x s.width most t.right =
        other_memory (IsOperand m grades x most) base.memory (λ j. slice_get m.memories j) memories s.width t.right
        (fits_among (IsRead a base x) (IsOperand m grades x most) base.memory s.width t.right
        (λ y u among r. earlier_operand base x y u most some r.earlier r.before (all y r.earlier.after r.before)) t.fits)
        in
        record { low = t.low; high = t.high; source = subst (λ (z : Source). IsGradedSource m grades x inputs s.width most z) (sym t.drives) fits }

    pub wire_ranges : (base : Base) (x : ℕ) (s : Signal) (t : IsWire a base x s) → HasRange m t.right
    wire_ranges base x s t = range_of m (IsRead a base x) t.right (λ y u r. earlier_has base y u r.earlier) t.selects
