-- Words of types behind others.
use Rattle.std.proofs.Common.{◌≡◌, ℕ, ◌+◌, ◌-◌, ◌*◌, ◌<◌, ◌≤◌, ◌^◌, Bool, true, List, sym, subst, ◌∙◌, arith}
use Rattle.std.specs.Prelude.{Result, Ok, Err, IfOk}
use Rattle.std.proofs.lemmas.Nat.{pow_pos}
use Rattle.netlist.specs.declared.netlist.Signal.{Signal}
use Rattle.netlist.specs.declared.netlist.Value.TheVariants.{Select, Replication}
use Rattle.hls_ints.specs.Types.{IntegerType, width_of}
use Rattle.hls_ints.proofs.Ranges.{bits-at_least, bits-at_most}
use Rattle.operator_words.specs.Shown.{truth_type}
use Rattle.operator_wires.specs.declared.words.Word.{Word}
use Rattle.operator_wires.specs.Built.{Base, IsEarlier, IsRightSide, AreWires, Adds, StandsAs, AddsWord}
use Rattle.operator_wires.specs.Added.{IsAdded, ConstantAdds, BesideAdds, LowAdds, SignAdds, ZerosAdds, ResizedAdds, NumberAdds, IsConstant, IsConverted, TruthOf, BitOfOne}
use Rattle.operator_wires.proofs.BuiltWires.{stands_after, room_of, wires_none, wires_then, adds_after}

pub at_least : (ty : IntegerType) → 8 ≤ width_of ty
at_least ty = bits-at_least ty.width

pub at_most : (ty : IntegerType) → width_of ty ≤ 64
at_most ty = bits-at_most ty.width

-- ---- words that stand

pub stands_as_after : (base : Base) (a b : List Signal) (ty : IntegerType) (word : Word) → AreWires base a b → StandsAs a base ty word → StandsAs b base ty word
stands_as_after base a b ty word t is = record { says = is.says; sign = is.sign; stands = stands_after a b base word.place (width_of ty) t.grows is.stands }

-- a word's own signal
pub own : (base : Base) (a : List Signal) (ty : IntegerType) (word : Word) → StandsAs a base ty word → IsEarlier a base word.place word.width
own base a ty word is = subst (λ n. IsEarlier a base word.place n) (sym is.says) is.stands

pub word_of : (base : Base) (a b : List Signal) (ty : IntegerType) (place : ℕ) (out : Word) → Adds base a b (width_of ty) place → out.place ≡ place → out.width ≡ width_of ty
    → out.signed ≡ ty.signed → AddsWord base a b ty out
word_of base a b ty place out t at wide sign = record {
  wires = t.wires;
  word = record { says = wide; sign = sign; stands = subst (λ n. IsEarlier b base n (width_of ty)) (sym at) t.stands };
}

-- another place for a word of the same type
pub word_like : (base : Base) (a b : List Signal) (ty : IntegerType) (word out : Word) (place : ℕ) → StandsAs a base ty word → Adds base a b word.width place → out.place ≡ place
    → out.width ≡ word.width → out.signed ≡ word.signed → AddsWord base a b ty out
word_like base a b ty word out place is t at wide sign =
    word_of base a b ty place out (subst (λ n. Adds base a b n place) is.says t) at (wide ∙ is.says) (sign ∙ is.sign)

pub word_none : (base : Base) (a : List Signal) (ty : IntegerType) (word : Word) → StandsAs a base ty word → AddsWord base a a ty word
word_none base a ty word is = record { wires = wires_none base a; word = is }

pub word_after : (base : Base) (a b c : List Signal) (ty : IntegerType) (out : Word) → AreWires base a b → AddsWord base b c ty out → AddsWord base a c ty out
word_after base a b c ty out t u = record { wires = wires_then base a b c t u.wires; word = u.word }

-- ---- other widths

low_right : (a : List Signal) (base : Base) (of w to high : ℕ) → high ≡ to - 1 → IsEarlier a base of w → 1 ≤ to → to < w → IsRightSide a base to (Select of high 0)
low_right a base of w to high is e low less = record {
  room = room_of a base of w e;
  low = low;
  high = let h = e.high in omega arith;
  fits = ((let z : 0 ≤ high = omega arith in z), (let n : high + 1 - 0 ≡ to = omega arith in n), (w, e, (let l : high < w = omega arith in l)));
  selects = (w, e, (let l : 1 < w = omega arith in l));
}

pub low_answer : {E : Type 0} (x : Result ℕ E) (a b : List Signal) (of to high : ℕ) → high ≡ to - 1 → IfOk x (IsAdded a b to (Select of high 0)) → IfOk x (LowAdds a b of to)
low_answer (Ok place) a b of to high is t = λ base w e low less. t base (low_right a base of w to high is e low less)
low_answer (Err e) a b of to high is t = tt

pub sign_adds : (a b c d : List Signal) (sign fill place of from to top count : ℕ) → top ≡ from - 1 → count ≡ to - from → IsAdded a b 1 (Select of top top) sign
    → IsAdded b c count (Replication count sign) fill → BesideAdds c d to fill of place → SignAdds a d of from to place
sign_adds a b c d sign fill place of from to top count is counts t u v base e more less most =
    let bit : Adds base a b 1 sign =
    t base (record {
      room = room_of a base of from e;
      low = let l : 1 ≤ 1 = omega arith in l;
      high = let l : 1 ≤ 64 = omega arith in l;
      fits = ((let l : top ≤ top = omega arith in l), (let n : top + 1 - top ≡ 1 = omega arith in n), (from, e, (let l : top < from = omega arith in l)));
      selects = (from, e, more);
    }) in
    let copies : Adds base b c count fill =
    u base (record {
      room = room_of b base sign 1 bit.stands;
      low = omega arith;
      high = omega arith;
      fits = (1, bit.stands, (let n : count * 1 ≡ count = omega arith in n));
      selects = tt;
    }) in
    let both = wires_then base a b c bit.wires copies.wires in
    adds_after base a c d to place both (v base count from copies.stands (stands_after a c base of from both.grows e) (omega arith) most)

pub zeros_adds : (a b c : List Signal) (zeros place of from to count : ℕ) → count ≡ to - from → ConstantAdds a b count 0 zeros → BesideAdds b c to zeros of place → ZerosAdds a c of from to place
zeros_adds a b c zeros place of from to count counts t u base e less most =
    let none = t base (room_of a base of from e) (omega arith) (omega arith) (pow_pos count) in
    adds_after base a b c to place none.wires (u base count from none.stands (stands_after a b base of from none.wires.grows e) (omega arith) most)

pub resized_low : (a b : List Signal) (of from to place : ℕ) (signed : Bool) → to < from → LowAdds a b of to place → ResizedAdds a b of from to signed place
resized_low a b of from to place signed less t base e low high more = t base from e low less

pub resized_not : (a : List Signal) (of from to : ℕ) (signed : Bool) → from ≡ to → ResizedAdds a a of from to signed of
resized_not a of from to signed same base e low high more = record { wires = wires_none base a; stands = subst (λ n. IsEarlier a base of n) same e }

pub resized_sign : (a b : List Signal) (of from to place : ℕ) (signed : Bool) → from < to → signed ≡ true → SignAdds a b of from to place → ResizedAdds a b of from to signed place
resized_sign a b of from to place signed less is t base e low high more = t base e (more is) less high

pub resized_zeros : (a b : List Signal) (of from to place : ℕ) (signed : Bool) → from < to → ZerosAdds a b of from to place → ResizedAdds a b of from to signed place
resized_zeros a b of from to place signed less t base e low high more = t base e less high

-- ---- words of other types

pub converted_adds : (a b : List Signal) (word out : Word) (ty : IntegerType) (to place : ℕ) → ResizedAdds a b word.place word.width to word.signed place → to ≡ width_of ty
    → out.place ≡ place → out.width ≡ width_of ty → out.signed ≡ ty.signed → IsConverted a b word ty out
converted_adds a b word out ty to place t is at wide sign base from e =
    let low = at_least ty in
    let high = at_most ty in
    let more : 1 < word.width = let w = at_least from in let s = e.says in omega arith in
    let added : Adds base a b to place = t base (own base a from word e) (omega arith) (omega arith) (λ s. more) in
    word_of base a b ty place out (subst (λ n. Adds base a b n place) is added) at wide sign

pub constant_adds : (a b : List Signal) (ty : IntegerType) (out : Word) (n w place : ℕ) → ConstantAdds a b w n place → w ≡ width_of ty → n < 2 ^ w → out.place ≡ place
    → out.width ≡ width_of ty → out.signed ≡ ty.signed → IsConstant a b ty out
constant_adds a b ty out n w place t is below at wide sign base room =
    let low = at_least ty in
    let high = at_most ty in
    word_of base a b ty place out (subst (λ k. Adds base a b k place) is (t base room (omega arith) (omega arith) below)) at wide sign

pub truth_adds : (a b : List Signal) (bit place : ℕ) (out : Word) → ZerosAdds a b bit 1 32 place → out.place ≡ place → out.width ≡ 32 → out.signed ≡ true
    → TruthOf a b bit out
truth_adds a b bit place out t at wide sign base e = word_of base a b truth_type place out (t base e (let l : 1 < 32 = omega arith in l) (let l : 32 ≤ 64 = omega arith in l)) at wide sign

pub zero_test_adds : (a b : List Signal) (word : Word) (place : ℕ) → NumberAdds a b word.width word.place 0 place → BitOfOne a b word place
zero_test_adds a b word place t base ty is = t base (own base a ty word is) (pow_pos word.width)
