-- Words of other widths.
use Rattle.std.proofs.Common.{◌≡◌, ℕ, ◌+◌, ◌-◌, ◌*◌, ◌/◌, ◌%◌, ◌^◌, ◌<◌, ◌≤◌, Bool, true, false, ◌&&◌, if◌then◌else◌, nat_lt, List, [], ◌∷◌, ℤ, refl, sym, ap, subst, ◌∙◌, arith}
use Rattle.std.proofs.Math.Nat.{add-sub_cancel_left}
use Rattle.netlist.specs.declared.netlist.Signal.{Signal}
use Rattle.netlist.specs.declared.netlist.Value.TheVariants.{Select, Replication}
use Rattle.netlist.specs.declared.netlist.Module.{Module}
use Rattle.circuit.specs.Readings.{Reading, width, value, joined, repeated}
use Rattle.hls_ints.specs.Residues.{residue_of}
use Rattle.hls_ints.specs.Types.{IntegerType, HasType, width_of, wrapped}
use Rattle.hls_ints.proofs.Ranges.{bits-at_least}
use Rattle.hls_ints.proofs.Conversions.{residue_of-wrapped, wrapped-range}
use Rattle.circuit.specs.Modules.{Obeys}
use Rattle.operator_words.proofs.Resized.{low_bits_show, zeros_show, sign_shows}
use Rattle.operator_wires.specs.declared.words.Word.{Word}
use Rattle.operator_wires.specs.Gives.{Grows, Gives}
use Rattle.operator_wires.specs.Words.{resized_word, Resizes, Becomes}
use Rattle.operator_wires.proofs.PutSignals.{grows_refl, grows_then}

-- one signal after another
pub gives_after : (a b c : List Signal) (place w : ℕ) (f g : Module → Reading → ℕ) → Grows a b → Gives b c place w f →
    ((m : Module) (r : Reading) → Grows b m.signals → Grows c m.signals → Obeys m r → f m r ≡ g m r) → Gives a c place w g
gives_after a b c place w f g before t same = record {
  grows = grows_then a b c before t.grows;
  stands = t.stands;
  wide = t.wide;
  shows = λ m r h o. t.shows m r h o ∙ same m r (grows_then b c m.signals t.grows h) h o;
}

beside_zeros : (w v z n : ℕ) → z ≡ 0 → (0 * 2 ^ w + z) * 2 ^ v + n ≡ n
beside_zeros w v z n e = let none : 0 * 2 ^ w + z ≡ 0 = omega arith in ap (λ x. x * 2 ^ v + n) none ∙ (let e' : 0 * 2 ^ v + n ≡ n = omega arith in e')

-- zeros above
pub zeros_give : (a b c : List Signal) (zeros place of k to : ℕ) → Gives a b zeros k (λ m r. 0) → Gives b c place to (λ m r. joined m r (zeros ∷ of ∷ []) 0) →
    Gives a c place to (λ m r. r.signal of)
zeros_give a b c zeros place of k to t u =
    gives_after a b c place to (λ m r. joined m r (zeros ∷ of ∷ []) 0) (λ m r. r.signal of) t.grows u
    (λ m r g h o. beside_zeros (width m zeros) (width m of) (r.signal zeros) (r.signal of) (t.shows m r g o))

-- copies of the sign above
pub sign_gives : (a b c d : List Signal) (sign fill place of top count to : ℕ) →
    Gives a b sign 1 (λ m r. value m r (Select of top top)) → Gives b c fill count (λ m r. value m r (Replication count sign)) →
    Gives c d place to (λ m r. joined m r (fill ∷ of ∷ []) 0) →
    Gives a d place to (λ m r. repeated count 1 ((r.signal of / 2 ^ top) % 2 ^ 1) * 2 ^ width m of + r.signal of)
sign_gives a b c d sign fill place of top count to t u v =
    gives_after a c d place to (λ m r. joined m r (fill ∷ of ∷ []) 0) (λ m r. repeated count 1 ((r.signal of / 2 ^ top) % 2 ^ 1) * 2 ^ width m of + r.signal of)
    (grows_then a b c t.grows u.grows) v
    (λ m r g h o.
    let before = grows_then b c m.signals u.grows g in
    let bit : r.signal sign ≡ (r.signal of / 2 ^ top) % 2 ^ 1 = t.shows m r before o ∙ ap (λ n. (r.signal of / 2 ^ top) % 2 ^ n) (add-sub_cancel_left top 1) in
    let filled : r.signal fill ≡ repeated count 1 ((r.signal of / 2 ^ top) % 2 ^ 1) =
    u.shows m r g o ∙ ap (λ n. repeated count n (r.signal sign)) (t.wide m before) ∙ ap (repeated count 1) bit
    in
    let none : 0 * 2 ^ width m fill + r.signal fill ≡ r.signal fill = omega arith in
    ap (λ n. n * 2 ^ width m of + r.signal of) (none ∙ filled))

-- ---- the three cases of a resize, and none

pub resizes_low : (a b : List Signal) (of from to place : ℕ) (signed : Bool) → to < from → Gives a b place to (λ m r. r.signal of % 2 ^ (to - 1 + 1)) → Resizes a b of from to signed place
resizes_low a b of from to place signed h t =
    let test : nat_lt to from ≡ true = grind arith in
    record {
      grows = t.grows;
      wide = λ m g e. t.wide m g;
      shows = λ m r g o e.
          t.shows m r g o
          ∙ sym (ap (λ x. if x then r.signal of % 2 ^ (to - 1 + 1)
          else (if nat_lt from to && signed then repeated (to - from) 1 ((r.signal of / 2 ^ (from - 1)) % 2 ^ 1) * 2 ^ from + r.signal of else r.signal of)) test);
    }

pub resizes_sign : (a b : List Signal) (of from to place : ℕ) (signed : Bool) → from < to → signed ≡ true →
    Gives a b place to (λ m r. repeated (to - from) 1 ((r.signal of / 2 ^ (from - 1)) % 2 ^ 1) * 2 ^ width m of + r.signal of) → Resizes a b of from to signed place
resizes_sign a b of from to place signed h s t =
    let first : nat_lt to from ≡ false = grind arith in
    let second : (nat_lt from to && signed) ≡ true = grind arith in
    record {
      grows = t.grows;
      wide = λ m g e. t.wide m g;
      shows = λ m r g o e.
          let top = repeated (to - from) 1 ((r.signal of / 2 ^ (from - 1)) % 2 ^ 1) in
          t.shows m r g o ∙ ap (λ x. top * 2 ^ x + r.signal of) e
          ∙ sym (ap (λ x. if x then r.signal of % 2 ^ (to - 1 + 1) else (if nat_lt from to && signed then top * 2 ^ from + r.signal of else r.signal of)) first
          ∙ ap (λ x. if x then top * 2 ^ from + r.signal of else r.signal of) second);
    }

pub resizes_zeros : (a b : List Signal) (of from to place : ℕ) (signed : Bool) → from < to → signed ≡ false → Gives a b place to (λ m r. r.signal of) → Resizes a b of from to signed place
resizes_zeros a b of from to place signed h s t =
    let first : nat_lt to from ≡ false = grind arith in
    let second : (nat_lt from to && signed) ≡ false = grind arith in
    record {
      grows = t.grows;
      wide = λ m g e. t.wide m g;
      shows = λ m r g o e.
          let top = repeated (to - from) 1 ((r.signal of / 2 ^ (from - 1)) % 2 ^ 1) in
          t.shows m r g o
          ∙ sym (ap (λ x. if x then r.signal of % 2 ^ (to - 1 + 1) else (if nat_lt from to && signed then top * 2 ^ from + r.signal of else r.signal of)) first
          ∙ ap (λ x. if x then top * 2 ^ from + r.signal of else r.signal of) second);
    }

pub resizes_not : (a : List Signal) (of from to : ℕ) (signed : Bool) → from ≡ to → Resizes a a of from to signed of
resizes_not a of from to signed h =
    let first : nat_lt to from ≡ false = grind arith in
    let second : (nat_lt from to && signed) ≡ false = grind arith in
    record {
      grows = grows_refl a;
      wide = λ m g e. e ∙ h;
      shows = λ m r g o e.
          let top = repeated (to - from) 1 ((r.signal of / 2 ^ (from - 1)) % 2 ^ 1) in
          sym (ap (λ x. if x then r.signal of % 2 ^ (to - 1 + 1) else (if nat_lt from to && signed then top * 2 ^ from + r.signal of else r.signal of)) first
          ∙ ap (λ x. if x then top * 2 ^ from + r.signal of else r.signal of) second);
    }

-- ---- conversions of words

by_cases : (low high : Bool) (ty : IntegerType) (to : ℕ) (v : ℤ) → 1 ≤ to → HasType ty v → nat_lt to (width_of ty) ≡ low → (nat_lt (width_of ty) to && ty.signed) ≡ high →
    resized_word ty.signed (width_of ty) to (residue_of (width_of ty) v) ≡ residue_of to v
by_cases true high ty to v some h first second =
    let w = width_of ty in
    let n = residue_of w v in
    let less : to ≤ w = grind arith in
    let all : to - 1 + 1 ≡ to = omega arith in
    ap (λ x. if x then n % 2 ^ (to - 1 + 1) else (if nat_lt w to && ty.signed then repeated (to - w) 1 ((n / 2 ^ (w - 1)) % 2 ^ 1) * 2 ^ w + n else n)) first
    ∙ ap (λ x. n % 2 ^ x) all ∙ low_bits_show w to v less
by_cases false true ty to v some h first second =
    let w = width_of ty in
    let n = residue_of w v in
    let less : w ≤ to = grind arith in
    let signed : ty.signed ≡ true = grind arith in
    ap (λ x. if x then n % 2 ^ (to - 1 + 1) else (if nat_lt w to && ty.signed then repeated (to - w) 1 ((n / 2 ^ (w - 1)) % 2 ^ 1) * 2 ^ w + n else n)) first
    ∙ ap (λ x. if x then repeated (to - w) 1 ((n / 2 ^ (w - 1)) % 2 ^ 1) * 2 ^ w + n else n) second ∙ sign_shows ty to v signed less h
by_cases false false ty to v some h first second =
    let w = width_of ty in
    let n = residue_of w v in
    ap (λ x. if x then n % 2 ^ (to - 1 + 1) else (if nat_lt w to && ty.signed then repeated (to - w) 1 ((n / 2 ^ (w - 1)) % 2 ^ 1) * 2 ^ w + n else n)) first
    ∙ ap (λ x. if x then repeated (to - w) 1 ((n / 2 ^ (w - 1)) % 2 ^ 1) * 2 ^ w + n else n) second ∙ rest ty.signed refl
  where
    rest : (s : Bool) → ty.signed ≡ s → residue_of (width_of ty) v ≡ residue_of to v
    rest true s = let same : width_of ty ≡ to = grind arith in ap (λ x. residue_of x v) same
    rest false s = let less : width_of ty ≤ to = grind arith in zeros_show ty to v s less h

pub resized_shows : (ty : IntegerType) (to : ℕ) (v : ℤ) → 1 ≤ to → HasType ty v → resized_word ty.signed (width_of ty) to (residue_of (width_of ty) v) ≡ residue_of to v
resized_shows ty to v some h = by_cases (nat_lt to (width_of ty)) (nat_lt (width_of ty) to && ty.signed) ty to v some h refl refl

at_least_1 : (ty : IntegerType) → 1 ≤ width_of ty
at_least_1 ty = let least = bits-at_least ty.width in omega arith

-- a word, resized to a type's width, is the word of the converted value
pub converted_becomes : (a b : List Signal) (word out : Word) (ty : IntegerType) → Resizes a b word.place word.width (width_of ty) word.signed out.place →
    out.width ≡ width_of ty → out.signed ≡ ty.signed → Becomes a b word ty (wrapped ty) out
converted_becomes a b word out ty t wide sign = record {
  grows = t.grows;
  shows = λ m r from v g o is.
      let same : width m word.place ≡ word.width = is.wide ∙ sym is.says in
      record {
        says = wide;
        sign = sign;
        wide = t.wide m g same;
        shows =
            t.shows m r g o same
            ∙ ap (λ x. resized_word x word.width (width_of ty) (r.signal word.place)) is.sign
            ∙ ap (λ x. resized_word from.signed x (width_of ty) (r.signal word.place)) is.says
            ∙ ap (resized_word from.signed (width_of from) (width_of ty)) is.shows
            ∙ resized_shows from (width_of ty) v (at_least_1 ty) is.typed
            ∙ sym (residue_of-wrapped ty v);
        typed = wrapped-range ty v;
      };
}

-- the same, of a type's width in other words
pub converted_at : (a b : List Signal) (word out : Word) (ty : IntegerType) (to place : ℕ) → Resizes a b word.place word.width to word.signed place →
    to ≡ width_of ty → out.place ≡ place → out.width ≡ width_of ty → out.signed ≡ ty.signed → Becomes a b word ty (wrapped ty) out
converted_at a b word out ty to place t e at wide sign =
    let P : ℕ → Type 0 = λ n. Resizes a b word.place word.width n word.signed place in
    let Q : ℕ → Type 0 = λ p. Resizes a b word.place word.width (width_of ty) word.signed p in
    converted_becomes a b word out ty (subst Q (sym at) (subst P e t)) wide sign
