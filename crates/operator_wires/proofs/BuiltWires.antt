-- Wires behind others: what stands goes on standing, and wires of wires are wires.
use Rattle.std.proofs.Common.{◌≡◌, ℕ, zero, suc, ◌+◌, ◌<◌, ◌≤◌, ◌^◌, ◌⊎◌, false, List, [], ◌∷◌, ◌++◌, length, Some, refl, sym, ap, subst, ◌∙◌, arith, length-append, ⊎_elim}
use Rattle.std.specs.Prelude.{slice_get, Result, Ok, Err, IfOk}
use Rattle.std.proofs.lemmas.Option.{slice_get_within}
use Rattle.std.proofs.lemmas.Bool.Decides.{nat_tests}
use Rattle.lists.proofs.Places.{get_last, get_left}
use Rattle.verilog_tree.specs.declared.tree.BinaryOperator.{BinaryOperator}
use Rattle.verilog_tree.specs.declared.tree.BinaryOperator.TheVariants as gate
use Rattle.netlist.specs.declared.netlist.Value.{Value}
use Rattle.netlist.specs.declared.netlist.Value.TheVariants.{Copy, Constant, BitwiseNot, Binary, SignedLess, ArithmeticShiftRight, Conditional, Division, SignedDivision}
use Rattle.netlist.specs.declared.netlist.Value.TheVariants.{MemoryRead, Select, Concatenation, Replication}
use Rattle.netlist.specs.declared.netlist.Source.TheVariants.{Assigned}
use Rattle.netlist.specs.declared.netlist.Signal.{Signal}
use Rattle.circuit.specs.Modules.{FitsBinary, FitsValue}
use Rattle.circuit.proofs.Tables.{fits_among}
use Rattle.operator_wires.specs.declared.wires.Role.TheVariants.{Wire}
use Rattle.operator_wires.specs.Gives.{Grows}
use Rattle.operator_wires.specs.Built.{Base, SelectsOf, Lays, IsEarlier, IsRightSide, IsRead, IsWire, AreWires, Adds}
use Rattle.operator_wires.specs.Added.{IsAdded, ConstantAdds, NotAdds, BinaryAdds, BothAdds, NumberAdds, ChoiceAdds, BesideAdds}
use Rattle.operator_wires.proofs.PutSignals.{grows_refl, grows_then, listed}

-- ---- signals that stand

pub within : (a : List Signal) (base : Base) (y w : ℕ) → IsEarlier a base y w → y < length a
within a base y w e = slice_get_within a y e.signal e.listed

pub stands_after : (a b : List Signal) (base : Base) (y w : ℕ) → Grows a b → IsEarlier a base y w → IsEarlier b base y w
stands_after a b base y w g e = record { signal = e.signal; listed = listed a b y e.signal g e.listed; wide = e.wide; after = e.after; low = e.low; high = e.high }

pub room_of : (a : List Signal) (base : Base) (y w : ℕ) → IsEarlier a base y w → base.first ≤ length a
room_of a base y w e = let l = within a base y w e in let f = e.after in omega arith

pub longer : (a b : List Signal) → Grows a b → length a ≤ length b
longer a b g = let n = ap length g.is ∙ length-append a g.more in omega arith

pub only_last : (a : List Signal) (t s : Signal) (x : ℕ) → length a ≤ x → slice_get (a ++ t ∷ []) x ≡ Some s → (x ≡ length a) × (t ≡ s)
only_last [] t s zero l e = (refl, (let same : t ≡ s = cc in same))
only_last [] t s (suc x) l e = absurd cc
only_last (y ∷ a) t s zero l e = absurd (omega arith)
only_last (y ∷ a) t s (suc x) l e = let rest = only_last a t s x (omega arith) e in (ap suc rest.0, rest.1)

pub front : (a b : List Signal) (x : ℕ) → Grows a b → x < length a → slice_get b x ≡ slice_get a x
front a b x g l = ap (λ l. slice_get l x) g.is ∙ get_left a g.more x l

-- ---- right sides under weaker conditions

pub selects_among : (P Q : ℕ → ℕ → Type 0) (v : Value) → ((y u : ℕ) → P y u → Q y u) → SelectsOf P v → SelectsOf Q v
selects_among P Q (Select x high low) h s = (s.0, h x s.0 s.1, s.2)
selects_among P Q (Copy x) h s = tt
selects_among P Q (Constant n) h s = tt
selects_among P Q (BitwiseNot x) h s = tt
selects_among P Q (Binary operator x y) h s = tt
selects_among P Q (SignedLess x y) h s = tt
selects_among P Q (ArithmeticShiftRight x y) h s = tt
selects_among P Q (Conditional c x y) h s = tt
selects_among P Q (Division operator x y) h s = tt
selects_among P Q (SignedDivision operator x y) h s = tt
selects_among P Q (MemoryRead j x) h s = tt
selects_among P Q (Concatenation xs) h s = tt
selects_among P Q (Replication n x) h s = tt

-- a wire is one after others come behind it
pub wire_after : (a b : List Signal) (base : Base) (x : ℕ) (s : Signal) → Grows a b → IsWire a base x s → IsWire b base x s
wire_after a b base x s g t =
    let more : (y u : ℕ) → IsRead a base x y u → IsRead b base x y u = λ y u r. record { earlier = stands_after a b base y u g r.earlier; before = r.before } in
    record {
      named = t.named;
      inner = t.inner;
      low = t.low;
      high = t.high;
      right = t.right;
      drives = t.drives;
      fits = fits_among (IsRead a base x) (IsRead b base x) base.memory s.width t.right (λ y u i r. more y u r) t.fits;
      selects = selects_among (IsRead a base x) (IsRead b base x) t.right more t.selects;
    }

-- ---- no wires, one wire, and wires behind wires

pub wires_none : (base : Base) (a : List Signal) → AreWires base a a
wires_none base a = record { grows = grows_refl a; each = λ x s l e. let b = slice_get_within a x s e in absurd (omega arith) }

pub wires_then : (base : Base) (a b c : List Signal) → AreWires base a b → AreWires base b c → AreWires base a c
wires_then base a b c t u = record {
  grows = grows_then a b c t.grows u.grows;
  each = λ x s l e.
      ⊎_elim (λ (h : x < length b). wire_after b c base x s u.grows (t.each x s l (sym (front b c x u.grows h) ∙ e)))
      (λ (h : length b ≤ x). u.each x s h e)
      (let both : (x < length b) ⊎ (length b ≤ x) = grind (arith, nat_tests) in both);
}

pub adds_after : (base : Base) (a b c : List Signal) (w place : ℕ) → AreWires base a b → Adds base b c w place → Adds base a c w place
adds_after base a b c w place t u = record { wires = wires_then base a b c t u.wires; stands = u.stands }

-- a wire that is laid, whose right side is right
pub lays_adds : (base : Base) (old new : List Signal) (w place : ℕ) (v : Value) → Lays old new Wire w false (Assigned v) place → IsRightSide old base w v → Adds base old new w place
lays_adds base old new w place v t right =
    let grows : Grows old new = record { more = t.signal ∷ []; is = t.is } in
    let here : slice_get new (length old) ≡ Some t.signal = ap (λ l. slice_get l (length old)) t.is ∙ get_last old t.signal in
    let more : (y u : ℕ) → IsEarlier old base y u → IsRead new base (length old) y u =
    λ y u e. record { earlier = stands_after old new base y u grows e; before = within old base y u e } in
    let fits : FitsValue (IsRead new base (length old)) base.memory w v =
    fits_among (IsEarlier old base) (IsRead new base (length old)) base.memory w v (λ y u i e. more y u e) right.fits in
    let wire : IsWire new base (length old) t.signal =
    record {
      named = t.named;
      inner = t.flag;
      low = subst (λ n. 1 ≤ n) (sym t.wide) right.low;
      high = subst (λ n. n ≤ 64) (sym t.wide) right.high;
      right = v;
      drives = t.drives;
      fits = subst (λ n. FitsValue (IsRead new base (length old)) base.memory n v) (sym t.wide) fits;
      selects = selects_among (IsEarlier old base) (IsRead new base (length old)) v more right.selects;
    }
    in
    record {
      wires = record {
        grows = grows;
        each = λ x s l e.
            let last = only_last old t.signal s x l (ap (λ z. slice_get z x) (sym t.is) ∙ e) in
            subst (λ n. IsWire new base n s) (sym last.0) (subst (IsWire new base (length old)) last.1 wire);
      };
      stands = record {
        signal = t.signal;
        listed = ap (slice_get new) t.last ∙ here;
        wide = t.wide;
        after = let p = t.last in let r = right.room in omega arith;
        low = right.low;
        high = right.high;
      };
    }

-- ---- right sides

pub constant_right : (a : List Signal) (base : Base) (w n : ℕ) → base.first ≤ length a → 1 ≤ w → w ≤ 64 → n < 2 ^ w → IsRightSide a base w (Constant n)
constant_right a base w n room low high f = record { room = room; low = low; high = high; fits = f; selects = tt }

pub not_right : (a : List Signal) (base : Base) (w x : ℕ) → IsEarlier a base x w → IsRightSide a base w (BitwiseNot x)
not_right a base w x e = record { room = room_of a base x w e; low = e.low; high = e.high; fits = e; selects = tt }

two_right : (a : List Signal) (base : Base) (w x y : ℕ) (operator : BinaryOperator) → IsEarlier a base x w → FitsBinary (IsEarlier a base) operator w x y → IsRightSide a base w (Binary operator x y)
two_right a base w x y operator e f = record { room = room_of a base x w e; low = e.low; high = e.high; fits = f; selects = tt }

test_right : (a : List Signal) (base : Base) (w v x y : ℕ) (operator : BinaryOperator) → w ≡ 1 → IsEarlier a base x v → FitsBinary (IsEarlier a base) operator w x y
    → IsRightSide a base w (Binary operator x y)
test_right a base w v x y operator one e f = record { room = room_of a base x v e; low = omega arith; high = omega arith; fits = f; selects = tt }

pub binary_right : (a : List Signal) (base : Base) (w x y : ℕ) (operator : BinaryOperator) → FitsBinary (IsEarlier a base) operator w x y → IsRightSide a base w (Binary operator x y)
binary_right a base w x y gate.Equal f = test_right a base w f.1.0 x y gate.Equal f.0 f.1.1 f
binary_right a base w x y gate.Less f = test_right a base w f.1.0 x y gate.Less f.0 f.1.1 f
binary_right a base w x y gate.ShiftLeft f = two_right a base w x y gate.ShiftLeft f.0 f
binary_right a base w x y gate.ShiftRight f = two_right a base w x y gate.ShiftRight f.0 f
binary_right a base w x y gate.Add f = two_right a base w x y gate.Add f.0 f
binary_right a base w x y gate.Subtract f = two_right a base w x y gate.Subtract f.0 f
binary_right a base w x y gate.Multiply f = two_right a base w x y gate.Multiply f.0 f
binary_right a base w x y gate.And f = two_right a base w x y gate.And f.0 f
binary_right a base w x y gate.Or f = two_right a base w x y gate.Or f.0 f
binary_right a base w x y gate.Xor f = two_right a base w x y gate.Xor f.0 f

pub choice_right : (a : List Signal) (base : Base) (w c x y : ℕ) → IsEarlier a base c 1 → IsEarlier a base x w → IsEarlier a base y w → IsRightSide a base w (Conditional c x y)
choice_right a base w c x y e f g = record { room = room_of a base x w f; low = f.low; high = f.high; fits = (e, f, g); selects = tt }

pub beside_right : (a : List Signal) (base : Base) (v u w x y : ℕ) → IsEarlier a base x v → IsEarlier a base y u → w ≡ v + u → w ≤ 64 → IsRightSide a base w (Concatenation (x ∷ y ∷ []))
beside_right a base v u w x y e f sum high = record {
  room = room_of a base x v e;
  low = let l = e.low in omega arith;
  high = high;
  fits = (v, u, e, (u, 0, f, refl, (let z : u ≡ u + 0 = omega arith in z)), sum);
  selects = tt;
}

-- ---- answers of functions that lay one wire

pub wire_answer : {E : Type 0} (x : Result ℕ E) (old new : List Signal) (w : ℕ) (v : Value) → IfOk x (Lays old new Wire w false (Assigned v)) → IfOk x (IsAdded old new w v)
wire_answer (Ok place) old new w v t = λ base right. lays_adds base old new w place v t right
wire_answer (Err e) old new w v t = tt

pub constant_answer : {E : Type 0} (x : Result ℕ E) (old new : List Signal) (w n : ℕ) → IfOk x (IsAdded old new w (Constant n))
    → IfOk x (ConstantAdds old new w n)
constant_answer (Ok place) old new w n t = λ base room low high f. t base (constant_right old base w n room low high f)
constant_answer (Err e) old new w n t = tt

pub not_answer : {E : Type 0} (x : Result ℕ E) (old new : List Signal) (w y : ℕ) → IfOk x (IsAdded old new w (BitwiseNot y))
    → IfOk x (NotAdds old new w y)
not_answer (Ok place) old new w y t = λ base e. t base (not_right old base w y e)
not_answer (Err e) old new w y t = tt

pub binary_answer : {E : Type 0} (x : Result ℕ E) (old new : List Signal) (w y z : ℕ) (operator : BinaryOperator) → IfOk x (IsAdded old new w (Binary operator y z))
    → IfOk x (BinaryAdds old new operator w y z)
binary_answer (Ok place) old new w y z operator t = λ base f. t base (binary_right old base w y z operator f)
binary_answer (Err e) old new w y z operator t = tt

pub both_answer : {E : Type 0} (x : Result ℕ E) (old new : List Signal) (y z : ℕ) → IfOk x (BinaryAdds old new gate.And 1 y z)
    → IfOk x (BothAdds old new y z)
both_answer (Ok place) old new y z t = λ base e f. t base (e, f)
both_answer (Err e) old new y z t = tt

pub either_answer : {E : Type 0} (x : Result ℕ E) (old new : List Signal) (y z : ℕ) → IfOk x (BinaryAdds old new gate.Or 1 y z)
    → IfOk x (BothAdds old new y z)
either_answer (Ok place) old new y z t = λ base e f. t base (e, f)
either_answer (Err e) old new y z t = tt

pub choice_answer : {E : Type 0} (x : Result ℕ E) (old new : List Signal) (w c y z : ℕ) → IfOk x (IsAdded old new w (Conditional c y z))
    → IfOk x (ChoiceAdds old new w c y z)
choice_answer (Ok place) old new w c y z t = λ base e f g. t base (choice_right old base w c y z e f g)
choice_answer (Err e) old new w c y z t = tt

pub beside_answer : {E : Type 0} (x : Result ℕ E) (old new : List Signal) (bits high low : ℕ) (parts : List ℕ) → parts ≡ high ∷ low ∷ [] → IfOk x (IsAdded old new bits (Concatenation parts))
    → IfOk x (BesideAdds old new bits high low)
beside_answer (Ok place) old new bits high low parts is t =
    λ base v w e f sum most.
    t base (subst (λ l. IsRightSide old base bits (Concatenation l)) (sym is) (beside_right old base v w bits high low e f sum most))
beside_answer (Err e) old new bits high low parts is t = tt

-- a number, and then a test of it
pub is_number_answer : {E : Type 0} (x : Result ℕ E) (a b c : List Signal) (bits y number constant : ℕ)
    → ConstantAdds a b bits number constant → IfOk x (BinaryAdds b c gate.Equal 1 y constant)
    → IfOk x (NumberAdds a c bits y number)
is_number_answer (Ok place) a b c bits y number constant t u =
    λ base e f.
    let first = t base (room_of a base y bits e) e.low e.high f in
    adds_after base a b c 1 place first.wires (u base (refl, (bits, stands_after a b base y bits first.wires.grows e, first.stands)))
is_number_answer (Err e) a b c bits y number constant t u = tt
