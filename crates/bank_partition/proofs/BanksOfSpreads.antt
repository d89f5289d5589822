-- The banks of a program stand where the spreads say.
use Rattle.std.proofs.Common.{◌≡◌, ℕ, zero, suc, ◌+◌, ◌*◌, ◌/◌, ◌%◌, ◌^◌, ◌<◌, ◌≤◌, ◌⊎◌, ◌-◌, List, [], ◌∷◌, ◌++◌, min, Some, None, slice_get, refl, sym, ap, ◌∙◌, subst, ⊎_elim, arith}
use Rattle.std.specs.Prelude.{true, false, nat_lt, if◌then◌else◌}
use Rattle.std.specs.Prelude.{pos, unwrap_or, length}
use Rattle.std.specs.List.{AllByRecursion}
use Rattle.hls_ints.specs.Types.{width_of}
use Rattle.hls_ints.proofs.Conversions.{residue_of-below, at_least_1}
use Rattle.std.proofs.lemmas.Bool.Decides.{nat_tests}
use Rattle.std.proofs.lemmas.Nat.{div-mul-add, mod-mul-add, div-add-mod'}
use Rattle.std.proofs.lemmas.Option.{none-some, same_Some}
use Rattle.std.proofs.lemmas.Bool.{lt-ltb}
use Rattle.hls_ints.proofs.Ranges.{bits-at_most}
use Rattle.c_program.specs.Tree.{GlobalVariable}
use Rattle.bank_partition.specs.declared.banks.Spread.{Spread}
use Rattle.bank_partition.specs.Counts.{power_from, words_of}
use Rattle.bank_partition.specs.Shapes.{BankShape, spread, number_at, first_value, count_of, bank_of, banks_from, spreads_from}
use Rattle.bank_partition.specs.Partition.{place_in, element_in, element_of, IsBankOf, AreShort, AreBanks, IsHeld, AreHeld, HasElements}
use Rattle.bank_partition.proofs.BankCount.{within_some, count_is, has_word, has_element, some_word}

-- ---- lists

pub spread_front : {A : Type 0} (f : ℕ → A) (i n : ℕ) (ys : List A) (k : ℕ) → k < n → slice_get (spread f i n ++ ys) k ≡ Some (f (i + k))
spread_front f i zero ys k l = absurd (omega arith)
spread_front f i (suc n) ys zero l = let e : i ≡ i + 0 = omega arith in ap (λ j. Some (f j)) e
spread_front f i (suc n) ys (suc k) l =
    let e : i + 1 + k ≡ i + suc k = omega arith in
    spread_front f (i + 1) n ys k (omega arith) ∙ ap (λ j. Some (f j)) e

pub spread_behind : {A : Type 0} (f : ℕ → A) (i n : ℕ) (ys : List A) (k : ℕ) → slice_get (spread f i n ++ ys) (n + k) ≡ slice_get ys k
spread_behind f i zero ys k = let e : zero + k ≡ k = omega arith in ap (slice_get ys) e
spread_behind f i (suc n) ys k =
    let e : suc n + k ≡ suc (n + k) = omega arith in
    ap (slice_get (f i ∷ (spread f (i + 1) n ++ ys))) e ∙ spread_behind f (i + 1) n ys k

short_at : (spreads : List Spread) → AreShort spreads → (x : ℕ) (s : Spread) → slice_get spreads x ≡ Some s → s.length < 2 ^ 64
short_at [] known x s e = absurd (none-some s e)
short_at (t ∷ spreads) known zero s e = subst (λ (y : Spread). y.length < 2 ^ 64) (same_Some t s e) known.0
short_at (t ∷ spreads) known (suc x) s e = short_at spreads known.1 x s e

-- ---- what the core of a bank asks

pub length-spread : {A : Type 0} (f : ℕ → A) (i n : ℕ) → length (spread f i n) ≡ n
length-spread f i zero = refl
length-spread f i (suc n) = ap suc (length-spread f (i + 1) n)

all_below : (bound : ℕ) (f : ℕ → ℕ) → ((k : ℕ) → f k < bound) → (i n : ℕ) → AllByRecursion (λ x. x < bound) (spread f i n)
all_below bound f h i zero = tt
all_below bound f h i (suc n) = (h i, all_below bound f h (i + 1) n)

bank_held : (x : ℕ) (g : GlobalVariable) (count k : ℕ) → IsHeld (bank_of x g count k)
bank_held x g count k = record {
  low = at_least_1 g.ty.width;
  high = bits-at_most g.ty.width;
  counted = length-spread (λ a. first_value g (a * count + k)) 0 (words_of count k g.length);
  fits = all_below (2 ^ width_of g.ty) (λ a. first_value g (a * count + k)) (λ a. residue_of-below (width_of g.ty) (unwrap_or (slice_get g.initial (a * count + k)) (pos 0))) 0
      (words_of count k g.length);
}

-- ---- banks of the globals from one on

module _ (threads : List ℕ) where
  -- bank k of the global x of these, where so many banks stand before them
  pub record StandsAt (x0 first : ℕ) (globals : List GlobalVariable) (x k : ℕ) (s : Spread) : Type 0 where
    pub bank : BankShape
    pub index : ℕ
    pub place : s.first + k ≡ first + index
    pub found : slice_get (banks_from threads x0 globals) index ≡ Some bank
    pub is : IsBankOf (x0 + x) k s bank

  stands : (x0 first : ℕ) (globals : List GlobalVariable) (x k : ℕ) (s : Spread) → slice_get (spreads_from threads x0 first globals) x ≡ Some s → k < s.count → StandsAt x0 first globals x k s
  stands x0 first [] x k s e l = absurd cc
  stands x0 first (g ∷ globals) zero k s e l =
      let count = count_of threads x0 g in
      let own : Spread = record { first = first; count = count; length = g.length } in
      let same : own ≡ s = cc in
      let z : x0 ≡ x0 + 0 = omega arith in
      subst (StandsAt x0 first (g ∷ globals) zero k) same (record {
        bank = bank_of x0 g count (0 + k);
        index = k;
        place = refl;
        found = spread_front (bank_of x0 g count) 0 count (banks_from threads (x0 + 1) globals) k (let c : own.count ≡ s.count = ap (λ (t : Spread). t.count) same in omega arith);
        is = record { global = z; number = (let y : 0 + k ≡ k = omega arith in y); count = refl; words = ap (λ j. words_of count j g.length) (let y : 0 + k ≡ k = omega arith in y) };
      })
  stands x0 first (g ∷ globals) (suc x) k s e l =
      let count = count_of threads x0 g in
      let known = stands (x0 + 1) (first + count) globals x k s e l in
      let z : x0 + 1 + x ≡ x0 + suc x = omega arith in
      record {
        bank = known.bank;
        index = count + known.index;
        place = (let p = known.place in omega arith);
        found = spread_behind (bank_of x0 g count) 0 count (banks_from threads (x0 + 1) globals) known.index ∙ known.found;
        is = subst (λ y. IsBankOf y k s known.bank) z known.is;
      }

  -- bank i of these is one of their globals
  pub record IsOwned (x0 first : ℕ) (globals : List GlobalVariable) (i : ℕ) (b : BankShape) : Type 0 where
    pub x : ℕ
    pub spread : Spread
    pub stands : slice_get (spreads_from threads x0 first globals) x ≡ Some spread
    pub global : b.global ≡ x0 + x
    pub below : b.number < spread.count
    pub place : first + i ≡ spread.first + b.number
    pub is : IsBankOf b.global b.number spread b
    pub held : IsHeld b
    pub filled : 0 < spread.length → 1 ≤ b.words

  owns : (x0 first : ℕ) (globals : List GlobalVariable) (i : ℕ) (b : BankShape) → slice_get (banks_from threads x0 globals) i ≡ Some b → IsOwned x0 first globals i b
  owns x0 first [] i b e = absurd cc
  owns x0 first (g ∷ globals) i b e =
      let count = count_of threads x0 g in
      let behind = banks_from threads (x0 + 1) globals in
      ⊎_elim
      (λ (l : i < count).
      let own : Some (bank_of x0 g count (0 + i)) ≡ Some b = sym (spread_front (bank_of x0 g count) 0 count behind i l) ∙ e in
      let same : bank_of x0 g count (0 + i) ≡ b = cc in
      let z : x0 ≡ x0 + 0 = omega arith in
      subst (IsOwned x0 first (g ∷ globals) i) same (record {
        x = 0;
        spread = record { first = first; count = count; length = g.length };
        stands = refl;
        global = z;
        below = omega arith;
        place = (let y : first + i ≡ first + (0 + i) = omega arith in y);
        is = record { global = refl; number = refl; count = refl; words = refl };
        held = bank_held x0 g count (0 + i);
        filled = λ some. let few : count ≤ g.length = (count_is (number_at threads x0) g.length some).allowed.filled in some_word count (0 + i) g.length (omega arith) few;
      }))
      (λ (l : count ≤ i).
      let k = i - count in
      let z : count + k ≡ i = omega arith in
      let known = owns (x0 + 1) (first + count) globals k b (sym (spread_behind (bank_of x0 g count) 0 count behind k) ∙ ap (slice_get (spread (bank_of x0 g count) 0 count ++ behind)) z ∙ e) in
      record {
        x = suc known.x;
        spread = known.spread;
        stands = known.stands;
        global = (let h = known.global in omega arith);
        below = known.below;
        place = (let p = known.place in omega arith);
        is = known.is;
        held = known.held;
        filled = known.filled;
      })
      (let c : (i < count) ⊎ (count ≤ i) = grind (arith, nat_tests) in c)

  some : (x0 first : ℕ) (globals : List GlobalVariable) (x : ℕ) (s : Spread) → slice_get (spreads_from threads x0 first globals) x ≡ Some s → 0 < s.count
  some x0 first [] x s e = absurd cc
  some x0 first (g ∷ globals) zero s e =
      let own : Spread = record { first = first; count = count_of threads x0 g; length = g.length } in
      let same : own ≡ s = cc in
      subst (λ (t : Spread). 0 < t.count) same (within_some (min (power_from (number_at threads x0)) g.length))
  some x0 first (g ∷ globals) (suc x) s e = some (x0 + 1) (first + count_of threads x0 g) globals x s e

  pub are_banks : (globals : List GlobalVariable) → AreShort (spreads_from threads 0 0 globals) → AreBanks (spreads_from threads 0 0 globals) (banks_from threads 0 globals)
  are_banks globals short = record {
    short = short_at (spreads_from threads 0 0 globals) short;
    some = some 0 0 globals;
    stand = λ x k s e l.
        let known = stands 0 0 globals x k s e l in
        let i : known.index ≡ s.first + k = let p = known.place in omega arith in
        let z : 0 + x ≡ x = omega arith in
        (known.bank, sym (ap (slice_get (banks_from threads 0 globals)) i) ∙ known.found, subst (λ y. IsBankOf y k s known.bank) z known.is);
    owned = λ i b e.
        let known = owns 0 0 globals i b e in
        let z : known.x ≡ b.global = let h = known.global in omega arith in (
          known.spread,
          sym (ap (slice_get (spreads_from threads 0 0 globals)) z) ∙ known.stands,
          known.below,
          (let p = known.place in let y : i ≡ known.spread.first + b.number = omega arith in y),
          known.is,
        );
  }

  pub are_held : (globals : List GlobalVariable) → AreHeld (spreads_from threads 0 0 globals) (banks_from threads 0 globals)
  are_held globals = record {
    each = λ i b e. (owns 0 0 globals i b e).held;
    filled = λ i b s e f some.
        let known = owns 0 0 globals i b e in
        let z : b.global ≡ known.x = let h = known.global in omega arith in
        let same : s ≡ known.spread = same_Some s known.spread (sym f ∙ ap (slice_get (spreads_from threads 0 0 globals)) z ∙ known.stands) in
        known.filled (subst (λ (t : Spread). 0 < t.length) same some);
  }

  pub elements_stand : (x0 first : ℕ) (globals : List GlobalVariable) → HasElements globals (spreads_from threads x0 first globals)
  elements_stand x0 first [] x j g e l = absurd (none-some g e)
  elements_stand x0 first (h ∷ globals) zero j g e l = record {
    spread = record { first = first; count = count_of threads x0 h; length = h.length };
    stands = refl;
    inside = subst (λ (y : GlobalVariable). j < y.length) (sym (same_Some h g e)) l;
  }
  elements_stand x0 first (h ∷ globals) (suc x) j g e l =
      let known = elements_stand (x0 + 1) (first + count_of threads x0 h) globals x j g e l in
      record { spread = known.spread; stands = known.stands; inside = known.inside }

-- ---- places and elements

same_element : (b : BankShape) (address x j : ℕ) → address < b.words → b.global ≡ x → address * b.count + b.number ≡ j → element_in (Some b) address ≡ Some (record { global = x; index = j })
same_element b address x j l g e =
    ap (λ t. if t then Some (record { global = b.global; index = address * b.count + b.number }) else None) (lt-ltb address b.words l)
    ∙ ap (λ y. Some (record { global = y; index = address * b.count + b.number })) g
    ∙ ap (λ y. Some (record { global = x; index = y })) e

pub element_is : (banks : List BankShape) (i address : ℕ) (b : BankShape) → slice_get banks i ≡ Some b → address < b.words
    → Some (record { global = b.global; index = address * b.count + b.number }) ≡ element_of banks i address
element_is banks i address b e l =
    sym (ap (λ o. element_in o address) e ∙ ap (λ t. if t then Some (record { global = b.global; index = address * b.count + b.number }) else None) (lt-ltb address b.words l))

pub no_element : (banks : List BankShape) (i address : ℕ) (b : BankShape) → slice_get banks i ≡ Some b → b.words ≤ address → None ≡ element_of banks i address
no_element banks i address b e l =
    let off : nat_lt address b.words ≡ false = grind (arith, nat_tests) in
    sym (ap (λ o. element_in o address) e ∙ ap (λ t. if t then Some (record { global = b.global; index = address * b.count + b.number }) else None) off)

module _ (spreads : List Spread) (banks : List BankShape) (are : AreBanks spreads banks) where
  -- the bank of an element has its word
  pub record Held (x j : ℕ) (s : Spread) : Type 0 where
    pub bank : BankShape
    pub found : slice_get banks (s.first + j % s.count) ≡ Some bank
    pub is : IsBankOf x (j % s.count) s bank
    pub word : j / s.count < bank.words

  pub held : (x j : ℕ) (s : Spread) → slice_get spreads x ≡ Some s → j < s.length → Held x j s
  held x j s e l =
      let c = are.some x s e in
      let below : j % s.count < s.count = omega arith in
      let b = are.stand x (j % s.count) s e below in
      record {
        bank = b.0;
        found = b.1;
        is = b.2;
        word = (let w = b.2.words in let h = has_word s.count s.length j c l in omega arith);
      }

  pub placed : (x j : ℕ) (s : Spread) → slice_get spreads x ≡ Some s → j < s.length
      → element_of banks (s.first + j % s.count) (j / s.count) ≡ Some (record { global = x; index = j })
  placed x j s e l =
      let h = held x j s e l in
      let index : j / s.count * h.bank.count + h.bank.number ≡ j =
      ap (λ c. j / s.count * c + h.bank.number) h.is.count ∙ ap (λ k. j / s.count * s.count + k) h.is.number ∙ div-add-mod' j s.count in
      ap (λ o. element_in o (j / s.count)) h.found ∙ same_element h.bank (j / s.count) x j h.word h.is.global index

  -- an element's index is below its global's length, and its place is the word
  pub found_back : (i address : ℕ) (b : BankShape) → slice_get banks i ≡ Some b → address < b.words
      → (s : Spread) × (slice_get spreads b.global ≡ Some s) × (address * b.count + b.number < s.length) × (place_in s (address * b.count + b.number) ≡ record { bank = i; address = address })
  found_back i address b e l =
      let o = are.owned i b e in
      let s = o.0 in
      let number : b.number < s.count = o.2 in
      let w : b.words ≡ words_of s.count b.number s.length = o.4.words in
      let inside : address * s.count + b.number < s.length = has_element s.count b.number s.length address number (omega arith) in
      let bank : s.first + (address * s.count + b.number) % s.count ≡ i = ap (λ k. s.first + k) (mod-mul-add address s.count b.number number) ∙ sym o.3 in
      let row : (address * s.count + b.number) / s.count ≡ address = div-mul-add address s.count b.number number in
      let here : place_in s (address * s.count + b.number) ≡ record { bank = i; address = address } =
      ap (λ k. record { bank = k; address = (address * s.count + b.number) / s.count }) bank ∙ ap (λ a. record { bank = i; address = a }) row in (
        s,
        o.1,
        subst (λ c. address * c + b.number < s.length) (sym o.4.count) inside,
        subst (λ c. place_in s (address * c + b.number) ≡ record { bank = i; address = address }) (sym o.4.count) here,
      )
