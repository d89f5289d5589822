-- Registers, links and wires that stand among signals.
use Rattle.std.proofs.Common.{◌≡◌, ◌≢◌, ℕ, zero, suc, ◌+◌, ◌<◌, ◌≤◌, ◌^◌, Bool, true, false, if◌then◌else◌, List, [], ◌∷◌, ◌++◌, length, map, Some, refl, sym, ap}
use Rattle.std.proofs.Common.{subst, ◌∙◌, arith, ⊎_elim}
use Rattle.std.specs.Prelude.{slice_get, codes}
use Rattle.std.proofs.lemmas.Option.{slice_get_within}
use Rattle.std.proofs.lemmas.Bool.{cases_lt}
use Rattle.std.proofs.lemmas.Nat.{pow_pos}
use Rattle.hls_ints.specs.Types.{IntegerType, Width, width_of, bits, bits_8, bits_16, bits_32, bits_64}
use Rattle.netlist.specs.declared.netlist.Source.{Source}
use Rattle.netlist.specs.declared.netlist.Source.TheVariants.{Input, Register}
use Rattle.netlist.specs.declared.netlist.Signal.{Signal}
use Rattle.module_sound.specs.Names.{place_of}
use Rattle.operator_wires.specs.declared.wires.Role.{Role}
use Rattle.operator_wires.specs.declared.wires.Role.TheVariants.{Clock, Enable, Need, Done, Beat, Grant, Told, Ask, Field, Stage, State, Granted, Variable, Kept, Wire}
use Rattle.operator_wires.specs.Gives.{Grows}
use Rattle.operator_wires.specs.Built.{is_single, name_at, Lays}
use Rattle.operator_wires.proofs.BuiltWires.{front, only_last}
use Rattle.netlist.specs.NetlistOf.{Name}
use Rattle.verilog_meaning.specs.Names.{numbered}
use Rattle.block_datapath.specs.declared.registers.Held.{Held}
use Rattle.thread_slots.specs.Naming.{name_or, stem_for, register_name, LaysNamed}
use Rattle.thread_slots.proofs.Digits.{digits_tell}
use Rattle.thread_slots.proofs.RegisterNames.{named_tells, named_differs}
use Rattle.thread_slots.specs.Wired.{AreFit, Behind, IsInnerInput, IsSlotRegister}

-- ---- names

-- a name with a number tells the place
pub name_tells : (role : Role) (n inputs x : ℕ) → is_single role ≡ false → x < 2 ^ 64 → place_of n inputs (name_at role x) ≡ Some x
name_tells Clock n inputs x e small = absurd cc
name_tells Enable n inputs x e small = absurd cc
name_tells Need n inputs x e small = absurd cc
name_tells Done n inputs x e small = absurd cc
name_tells Beat n inputs x e small = absurd cc
name_tells Grant n inputs x e small = digits_tell x small
name_tells Told n inputs x e small = digits_tell x small
name_tells Ask n inputs x e small = digits_tell x small
name_tells Field n inputs x e small = digits_tell x small
name_tells Stage n inputs x e small = digits_tell x small
name_tells State n inputs x e small = digits_tell x small
name_tells Granted n inputs x e small = digits_tell x small
name_tells Variable n inputs x e small = digits_tell x small
name_tells Kept n inputs x e small = digits_tell x small
name_tells Wire n inputs x e small = digits_tell x small

-- names differ where a letter does
letters_differ : (k p q : ℕ) (a b : Name) → slice_get a k ≡ Some p → slice_get b k ≡ Some q → p ≢ q → a ≡ b → ⊥
letters_differ k p q a b s t ne e = ne (let h : Some p ≡ Some q = sym s ∙ ap (λ (l : Name). slice_get l k) e ∙ t in cc)

-- no name begins with a but that of what is asked, whose next letter is no r
first_differs : (role : Role) (x j p : ℕ) → slice_get (name_at role x) 0 ≡ Some p → p ≢ 97 → name_at role x ≡ numbered (codes "array") j → ⊥
first_differs role x j p s ne e = letters_differ 0 p 97 (name_at role x) (numbered (codes "array") j) s refl ne e

-- no signal has the name of a memory
pub name_differs : (role : Role) (x j : ℕ) → name_at role x ≡ numbered (codes "array") j → ⊥
name_differs Clock x j e = first_differs Clock x j 99 refl (omega arith) e
name_differs Enable x j e = first_differs Enable x j 101 refl (omega arith) e
name_differs Need x j e = first_differs Need x j 110 refl (omega arith) e
name_differs Done x j e = first_differs Done x j 100 refl (omega arith) e
name_differs Beat x j e = first_differs Beat x j 98 refl (omega arith) e
name_differs Grant x j e = first_differs Grant x j 103 refl (omega arith) e
name_differs Told x j e = first_differs Told x j 116 refl (omega arith) e
name_differs Ask x j e = letters_differ 1 115 114 (name_at Ask x) (numbered (codes "array") j) refl refl (omega arith) e
name_differs Field x j e = first_differs Field x j 102 refl (omega arith) e
name_differs Stage x j e = first_differs Stage x j 115 refl (omega arith) e
name_differs State x j e = first_differs State x j 115 refl (omega arith) e
name_differs Granted x j e = first_differs Granted x j 103 refl (omega arith) e
name_differs Variable x j e = first_differs Variable x j 118 refl (omega arith) e
name_differs Kept x j e = first_differs Kept x j 107 refl (omega arith) e
name_differs Wire x j e = first_differs Wire x j 119 refl (omega arith) e

-- ---- signals behind others

pub laid_grows : (a b : List Signal) (role : Role) (w place : ℕ) (out : Bool) (d : Source) → Lays a b role w out d place → Grows a b
laid_grows a b role w place out d t = record { more = t.signal ∷ []; is = t.is }

module _ (P : ℕ → Signal → Type 0) where
  pub behind_none : (a : List Signal) → Behind P a a
  behind_none a x s le e = let less = slice_get_within a x s e in absurd (omega arith)

  pub behind_one : (a b : List Signal) (t : Signal) → b ≡ a ++ t ∷ [] → P (length a) t → Behind P a b
  behind_one a b t is p x s le e =
      let last = only_last a t s x le (ap (λ z. slice_get z x) (sym is) ∙ e) in
      subst (λ n. P n s) (sym last.0) (subst (P (length a)) last.1 p)

  pub behind_laid : (a b : List Signal) (role : Role) (w place : ℕ) (out : Bool) (d : Source) (t : Lays a b role w out d place) → P (length a) t.signal → Behind P a b
  behind_laid a b role w place out d t p = behind_one a b t.signal t.is p

  pub behind_then : (a b c : List Signal) → Grows b c → Behind P a b → Behind P b c → Behind P a c
  behind_then a b c g t u x s le e = ⊎_elim (λ (h : x < length b). t x s le (sym (front b c x g h) ∙ e)) (λ (h : length b ≤ x). u x s h e) (cases_lt x (length b))

-- ---- registers

register_signal : (inputs : ℕ) (a b : List Signal) (role : Role) (w n place : ℕ) (t : Lays a b role w false (Register n) place) →
    ((k : ℕ) → length a < 2 ^ 64 → place_of k inputs (name_at role (length a)) ≡ Some (length a))
    → n < 2 ^ w → 1 ≤ w → w ≤ 64 → IsSlotRegister inputs (length a) t.signal
register_signal inputs a b role w n place t tells fits low high = record {
  unlike = λ small j few e. name_differs role (length a) j (sym t.named ∙ e);
  named = λ k small. ap (place_of k inputs) t.named ∙ tells k small;
  inner = t.flag;
  low = subst (λ z. 1 ≤ z) (sym t.wide) low;
  high = subst (λ z. z ≤ 64) (sym t.wide) high;
  initial = n;
  drives = t.drives;
  fits = subst (λ z. n < 2 ^ z) (sym t.wide) fits;
}

pub register_behind : (inputs : ℕ) (a b : List Signal) (role : Role) (w n place : ℕ) → Lays a b role w false (Register n) place → is_single role ≡ false → n < 2 ^ w → 1 ≤ w → w ≤ 64
    → Behind (IsSlotRegister inputs) a b
register_behind inputs a b role w n place t many fits low high =
    behind_laid (IsSlotRegister inputs) a b role w place false (Register n) t
    (register_signal inputs a b role w n place t (λ k small. name_tells role k inputs (length a) many small) fits low high)

-- one for a variable
pub named_behind : (inputs : ℕ) (a b : List Signal) (names : List (List ℕ)) (k w : ℕ) (h : Held) → LaysNamed a b (register_name names k (length a)) w h → 1 ≤ w → w ≤ 64 →
    Behind (IsSlotRegister inputs) a b
named_behind inputs a b names k w h t low high =
    behind_one (IsSlotRegister inputs) a b t.signal t.is
    (record {
      unlike = λ small j few e. named_differs (name_or (slice_get names k)) (length a) j small few (sym t.named ∙ e);
      named = λ n small. ap (place_of n inputs) t.named ∙ named_tells (stem_for (name_or (slice_get names k))) n inputs (length a) small;
      inner = t.inner;
      low = subst (λ z. 1 ≤ z) (sym t.wide) low;
      high = subst (λ z. z ≤ 64) (sym t.wide) high;
      initial = 0;
      drives = t.drives;
      fits = pow_pos t.signal.width;
    })

-- ---- inputs

pub input_behind : (a b : List Signal) (role : Role) (w place : ℕ) → Lays a b role w false Input place →
    (length a < 2 ^ 64 → (n inputs : ℕ) → place_of n inputs (name_at role (length a)) ≡ Some (length a))
    → 1 ≤ w → w ≤ 64 → Behind IsInnerInput a b
input_behind a b role w place t tells low high =
    behind_laid IsInnerInput a b role w place false Input t
    (record {
      unlike = λ small j few e. name_differs role (length a) j (sym t.named ∙ e);
      named = λ n inputs small. ap (place_of n inputs) t.named ∙ tells small n inputs;
      inner = t.flag;
      low = subst (λ z. 1 ≤ z) (sym t.wide) low;
      high = subst (λ z. z ≤ 64) (sym t.wide) high;
      drives = t.drives;
    })

pub input_numbered : (a b : List Signal) (role : Role) (w place : ℕ) → Lays a b role w false Input place → is_single role ≡ false → 1 ≤ w → w ≤ 64 → Behind IsInnerInput a b
input_numbered a b role w place t many low high = input_behind a b role w place t (λ small n inputs. name_tells role n inputs (length a) many small) low high

-- ---- the registers of a slot

pub first_fits : (is_main : Bool) (end first w : ℕ) → first ≡ (if is_main then 0 else end) → end < 2 ^ w → first < 2 ^ w
first_fits true end first w e room = omega arith
first_fits false end first w e room = omega arith

bits_fit : (w : Width) → (1 ≤ bits w) × (bits w ≤ 64)
bits_fit bits_8 = (omega arith, omega arith)
bits_fit bits_16 = (omega arith, omega arith)
bits_fit bits_32 = (omega arith, omega arith)
bits_fit bits_64 = (omega arith, omega arith)

pub types_fit : (widths : List ℕ) (types : List IntegerType) → widths ≡ map width_of types → AreFit widths
types_fit widths types e x w there = by_type types x w (ap (λ (l : List ℕ). slice_get l x) (sym e) ∙ there)
  where
    by_type : (types : List IntegerType) (x w : ℕ) → slice_get (map width_of types) x ≡ Some w → (1 ≤ w) × (w ≤ 64)
    by_type [] x w e = absurd cc
    by_type (ty ∷ types) zero w e = let same : width_of ty ≡ w = cc in (let fit = bits_fit ty.width in (subst (λ n. 1 ≤ n) same fit.0, subst (λ n. n ≤ 64) same fit.1))
    by_type (ty ∷ types) (suc x) w e = by_type types x w e

pub slots_behind : (a b c d e f : List Signal) (place : ℕ) → length c ≡ length a + 2 → Lays c d Beat 1 false (Register 0) place → Grows b c → Grows d e → Grows e f
    → Behind (IsSlotRegister (length a)) a b → Behind (IsSlotRegister (length a)) b c → Behind (IsSlotRegister (length a)) d e → Behind (IsSlotRegister (length a)) e f
    → Behind (IsSlotRegister (length a)) a f
slots_behind a b c d e f place third beat bc de ef t u v w =
    let turned : Behind (IsSlotRegister (length a)) c d =
    behind_laid (IsSlotRegister (length a)) c d Beat 1 place false (Register 0) beat
    (register_signal (length a) c d Beat 1 0 place beat (λ k small. ap Some (sym third)) (omega arith) (omega arith) (omega arith)) in
    behind_then (IsSlotRegister (length a)) a e f ef
    (behind_then (IsSlotRegister (length a)) a d e de
    (behind_then (IsSlotRegister (length a)) a c d (laid_grows c d Beat 1 place false (Register 0) beat) (behind_then (IsSlotRegister (length a)) a b c bc t u) turned) v) w
