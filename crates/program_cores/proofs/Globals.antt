-- The banks of a program's globals, for any counts of the threads that name them: they are few, and their cores have modules.
use Rattle.std.proofs.Common.{◌≡◌, ℕ, zero, suc, ◌+◌, ◌-◌, ◌%◌, ◌^◌, ◌<◌, ◌≤◌, Bool, true, false, List, [], ◌∷◌, ◌++◌}
use Rattle.std.proofs.Common.{length, map, take, fold, min, Some, None, slice_get, refl, sym, ap, ◌∙◌, subst, inl, inr, arith}
use Rattle.std.specs.Prelude.{◌&&◌, ◌||◌, nat_eq, nat_le, sum_by, if◌then◌else◌, IsTrue}
use Rattle.std.specs.List.{AllByRecursion}
use Rattle.std.proofs.lemmas.List.{length-map}
use Rattle.std.proofs.lemmas.Option.{none-some}
use Rattle.std.proofs.lemmas.Bool.{or_left}
use Rattle.lists.proofs.Places.{get_there}
use Rattle.c_program.specs.Tree.{GlobalVariable, Program}
use Rattle.c_program.specs.Resolved.{is_letter, is_letter_or_digit, IsName, IsGlobal, IsResolved}
use Rattle.c_limits.specs.Counts.{first_passed}
use Rattle.c_limits.proofs.Within.{within_limits}
use Rattle.verilog_tree.specs.Spelling.{all_pass, is_name_byte}
use Rattle.circuit.specs.Rows.{EachOf}
use Rattle.bank_partition.specs.declared.banks.Spread.{Spread}
use Rattle.bank_partition.specs.declared.banks.Bank.{Bank as Part}
use Rattle.bank_partition.specs.declared.banks.Banks.{Banks}
use Rattle.bank_partition.specs.Counts.{one_if, words_of, power_from, power_within}
use Rattle.bank_partition.specs.Shapes.{BankShape, shape_of, number_at, count_of, bank_of as bank_shape, spread, banks_from, spreads_from}
use Rattle.bank_partition.specs.Partition.{shapes, IsPartition, HasElements, AreBanks, IsHeld, AreHeld}
use Rattle.bank_partition.proofs.BankCount.{count_is}
use Rattle.bank_cores.specs.declared.bank.Shape.{Shape as Bank}
use Rattle.thread_promise.specs.Globals.{IsSmallPower, bank_total}
use Rattle.law_banks.specs.Partition.{ArePartitioned}
use Rattle.thread_promise.proofs.BankTotal.{total_cons}
use Rattle.law_banks.proofs.Banks.{totals, below_all}
use Rattle.core_places.specs.Kinds.{IsWantedBank}
use Rattle.program_cores.specs.Banks.{core_shape, core_shapes, IsNamed, AreNamed}

-- ---- few elements, and few banks

shifted : (a : ℕ) (gs : List GlobalVariable) → fold (λ n (g : GlobalVariable). n + g.length) a gs ≡ a + fold (λ n (g : GlobalVariable). n + g.length) 0 gs
shifted a [] = let e : a ≡ a + 0 = omega arith in e
shifted a (g ∷ gs) =
    let one = shifted (a + g.length) gs in
    let two = shifted (0 + g.length) gs in
    omega arith

abbrev pub elements : List GlobalVariable → ℕ
elements gs = sum_by (λ (g : GlobalVariable). g.length) gs

elements_cons : (g : GlobalVariable) (gs : List GlobalVariable) → elements (g ∷ gs) ≡ g.length + elements gs
elements_cons g gs = let e = shifted (0 + g.length) gs in omega arith

-- a global has at most as many banks as elements
total_low : (threads : List ℕ) (x first : ℕ) (gs : List GlobalVariable) → AllByRecursion IsGlobal gs → bank_total (spreads_from threads x first gs) ≤ elements gs
total_low threads x first [] all = omega arith
total_low threads x first (g ∷ gs) all =
    let rest = total_low threads (x + 1) (first + count_of threads x g) gs all.1 in
    let c = total_cons (record { first = first; count = count_of threads x g; length = g.length }) (spreads_from threads (x + 1) (first + count_of threads x g) gs) in
    let e = elements_cons g gs in
    let own : count_of threads x g ≤ g.length = (count_is (number_at threads x) g.length all.0.not_empty).allowed.filled in
    omega (arith, rest, c, e, own)

-- ---- where they stand

small_power : (n : ℕ) → IsSmallPower (power_within n)
small_power n =
    either (nat_le 8 n) 8 _ (inr (inr (inr refl)))
    (either (nat_le 4 n) 4 _ (inr (inr (inl refl))) (either (nat_le 2 n) 2 1 (inr (inl refl)) (inl refl)))
  where
    either : (b : Bool) (x y : ℕ) → IsSmallPower x → IsSmallPower y → IsSmallPower (if b then x else y)
    either true x y p q = p
    either false x y p q = q

pub power_at : (threads : List ℕ) (x0 first : ℕ) (gs : List GlobalVariable) (x : ℕ) (s : Spread) → slice_get (spreads_from threads x0 first gs) x ≡ Some s → IsSmallPower s.count
power_at threads x0 first [] x s e = absurd (none-some s e)
power_at threads x0 first (g ∷ gs) zero s e =
    let same : record { first = first; count = count_of threads x0 g; length = g.length } ≡ s = cc in
    subst (λ (z : Spread). IsSmallPower z.count) same (small_power (min (power_from (number_at threads x0)) g.length))
power_at threads x0 first (g ∷ gs) (suc x) s e = power_at threads (x0 + 1) (first + count_of threads x0 g) gs x s e

pub first_at : (threads : List ℕ) (x0 first : ℕ) (gs : List GlobalVariable) (x : ℕ) (s : Spread) → slice_get (spreads_from threads x0 first gs) x ≡ Some s →
    s.first ≡ first + bank_total (take x (spreads_from threads x0 first gs))
first_at threads x0 first [] x s e = absurd (none-some s e)
first_at threads x0 first (g ∷ gs) zero s e =
    let same : record { first = first; count = count_of threads x0 g; length = g.length } ≡ s = cc in
    sym (ap (λ (z : Spread). z.first) same) ∙ (let q : first ≡ first + 0 = omega arith in q)
first_at threads x0 first (g ∷ gs) (suc x) s e =
    let rest = first_at threads (x0 + 1) (first + count_of threads x0 g) gs x s e in
    let c = total_cons (record { first = first; count = count_of threads x0 g; length = g.length }) (take x (spreads_from threads (x0 + 1) (first + count_of threads x0 g) gs)) in
    omega (arith, rest, c)

pub as_many : (threads : List ℕ) (x0 first : ℕ) (gs : List GlobalVariable) → length (spreads_from threads x0 first gs) ≡ length gs
as_many threads x0 first [] = refl
as_many threads x0 first (g ∷ gs) = ap suc (as_many threads (x0 + 1) (first + count_of threads x0 g) gs)

pub long_at : (threads : List ℕ) (x0 first : ℕ) (gs : List GlobalVariable) (x : ℕ) (s : Spread) → slice_get (spreads_from threads x0 first gs) x ≡ Some s → s.length ≤ elements gs
long_at threads x0 first [] x s e = absurd (none-some s e)
long_at threads x0 first (g ∷ gs) zero s e =
    let same : record { first = first; count = count_of threads x0 g; length = g.length } ≡ s = cc in
    let l = ap (λ (z : Spread). z.length) same in
    let c = elements_cons g gs in
    omega (arith, l, c)
long_at threads x0 first (g ∷ gs) (suc x) s e =
    let rest = long_at threads (x0 + 1) (first + count_of threads x0 g) gs x s e in let c = elements_cons g gs in omega (arith, rest, c)

module _ (P : Program) (counts : List ℕ) (resolved : IsResolved P) (limits : first_passed P ≡ None) (parted : Banks) (is : IsPartition P counts parted)
    (are : AreBanks parted.spreads.items (shapes parted)) where
  abbrev spreads : List Spread
  spreads = parted.spreads.items

  pub from : (x : ℕ) (s : Spread) → slice_get spreads x ≡ Some s → slice_get (spreads_from counts 0 0 P.globals) x ≡ Some s
  from x s e = ap (λ (ss : List Spread). slice_get ss x) (sym is.spreads) ∙ e

  pub few_elements : elements P.globals ≤ 16384
  few_elements = (within_limits P limits).globals

  pub total_is : bank_total spreads ≡ length (shapes parted)
  total_is = ap bank_total is.spreads ∙ totals counts 0 0 P.globals ∙ sym (ap length is.banks)

  pub total_few : bank_total spreads ≤ 16384
  total_few =
      let low = total_low counts 0 0 P.globals resolved.globals in
      let same = ap bank_total is.spreads in
      let few = few_elements in
      omega (arith, low, same, few)

  pub within : (x : ℕ) (s : Spread) → slice_get spreads x ≡ Some s → s.first + s.count ≤ bank_total spreads
  within x s e =
      let some = are.some x s e in
      let last = below_all spreads (shapes parted) are x (s.count - 1) s e (omega (arith, some)) in
      let all = total_is in
      omega (arith, some, last, all)

  pub all_there : (n : ℕ) → n < bank_total spreads → (x : ℕ) × (s : Spread) × (slice_get spreads x ≡ Some s) × (s.first ≤ n) × (n < s.first + s.count)
  all_there n l =
      let b = get_there (shapes parted) n (let all = total_is in omega (arith, all, l)) in
      let o = are.owned n b.0 b.1 in
      let place = o.3 in
      let below = o.2 in
      (b.0.global, o.0, o.1, omega (arith, place), omega (arith, place, below))

-- ---- names

arranged : (w x y z : Bool) → IsTrue ((w || x || y) || z) → (((w || x) || y) || z) ≡ true
arranged true x y z h = refl
arranged false true y z h = refl
arranged false false true z h = refl
arranged false false false true h = refl
arranged false false false false h = absurd cc

name_byte : (b : ℕ) → IsTrue (is_letter_or_digit b) → is_name_byte b ≡ true
name_byte b h = arranged (nat_le 65 b && nat_le b 90) (nat_le 97 b && nat_le b 122) (nat_eq b 95) (nat_le 48 b && nat_le b 57) h

name_bytes : (name : List ℕ) → AllByRecursion (λ b. IsTrue (is_letter_or_digit b)) name → all_pass is_name_byte name ≡ true
name_bytes [] all = refl
name_bytes (b ∷ name) all = ap (λ t. t && all_pass is_name_byte name) (name_byte b all.0) ∙ name_bytes name all.1

pub named : (name : List ℕ) → IsName name → all_pass is_name_byte name ≡ true
named [] h = absurd h
named (b ∷ name) h =
    ap (λ t. t && all_pass is_name_byte name) (name_byte b (or_left (is_letter b) (nat_le 48 b && nat_le b 57) h.0)) ∙ name_bytes name h.1

spread_named : (x : ℕ) (g : GlobalVariable) (count i n : ℕ) → all_pass is_name_byte g.name ≡ true → AreNamed (spread (bank_shape x g count) i n)
spread_named x g count i zero h = tt
spread_named x g count i (suc n) h = (h, spread_named x g count (i + 1) n h)

both_named : (xs ys : List BankShape) → AreNamed xs → AreNamed ys → AreNamed (xs ++ ys)
both_named [] ys p q = q
both_named (x ∷ xs) ys p q = (p.0, both_named xs ys p.1 q)

are_named : (threads : List ℕ) (x : ℕ) (gs : List GlobalVariable) → AllByRecursion IsGlobal gs → AreNamed (banks_from threads x gs)
are_named threads x [] all = tt
are_named threads x (g ∷ gs) all =
    both_named (spread (bank_shape x g (count_of threads x g)) 0 (count_of threads x g)) (banks_from threads (x + 1) gs)
    (spread_named x g (count_of threads x g) 0 (count_of threads x g) (named g.name all.0.name)) (are_named threads (x + 1) gs all.1)

pub banks_named : (P : Program) (counts : List ℕ) → IsResolved P → (parted : Banks) → IsPartition P counts parted → AreNamed (shapes parted)
banks_named P counts resolved parted is = subst AreNamed (sym is.banks) (are_named counts 0 P.globals resolved.globals)

pub each_named : (bs : List Part) → AreNamed (map shape_of bs) → AllByRecursion (λ b. IsNamed (shape_of b)) bs
each_named [] all = tt
each_named (b ∷ bs) all = (all.0, each_named bs all.1)

-- ---- cores

each_of : (bound : ℕ) (xs : List ℕ) → AllByRecursion (λ n. n < bound) xs → EachOf (λ n. n < bound) xs
each_of bound [] all = tt
each_of bound (x ∷ xs) all = (all.0, each_of bound xs all.1)

words_are : (threads : ℕ) (b : BankShape) → threads ≤ 64 → b.words < 2 ^ 64 → 1 ≤ b.words → IsHeld b → IsWantedBank threads (core_shape threads b)
words_are threads b low few some held = record {
  asked_by = refl;
  addressed = refl;
  shape = record {
    few = low;
    some = (let c = held.counted in omega (arith, c, some));
    addressed = (let c = held.counted in omega (arith, c, few));
    address_high = (let l : 64 ≤ 64 = omega arith in l);
    low = held.low;
    high = held.high;
    fits = each_of (2 ^ b.width) b.initial held.fits;
  };
}

all_cores : (threads : ℕ) (bs : List BankShape) → ((i : ℕ) (b : BankShape) → slice_get bs i ≡ Some b → IsWantedBank threads (core_shape threads b)) →
    EachOf (IsWantedBank threads) (core_shapes threads bs)
all_cores threads [] each = tt
all_cores threads (b ∷ bs) each = (each 0 b refl, all_cores threads bs (λ i c e. each (suc i) c e))

word_count : (count k n : ℕ) → words_of count k n ≤ n
word_count count k zero = omega arith
word_count count k (suc n) =
    let rest = word_count count k n in
    let one = low_one (nat_eq (n % count) k) in
    omega (arith, rest, one)
  where
    low_one : (b : Bool) → one_if b ≤ 1
    low_one true = omega arith
    low_one false = omega arith

pub wanted_banks : (P : Program) (counts : List ℕ) (threads : ℕ) → threads ≤ 64 → IsResolved P → (parted : Banks) → IsPartition P counts parted →
    AreBanks parted.spreads.items (shapes parted) → AreHeld parted.spreads.items (shapes parted) → EachOf (IsWantedBank threads) (core_shapes threads (shapes parted))
wanted_banks P counts threads low resolved parted is are held =
    all_cores threads (shapes parted)
    (λ i b e.
    let o = are.owned i b e in
    let words = o.4.words in
    let long = are.short b.global o.0 o.1 in
    let least = word_count o.0.count b.number o.0.length in
    let some = some_length P resolved parted is b.global o.0 o.1 in
    words_are threads b low (omega (arith, words, long, least)) (held.filled i b o.0 e o.1 some) (held.each i b e))
  where
    length_some : (counts : List ℕ) (x0 first : ℕ) (gs : List GlobalVariable) → AllByRecursion IsGlobal gs → (x : ℕ) (s : Spread) →
        slice_get (spreads_from counts x0 first gs) x ≡ Some s →
        0 < s.length
    length_some counts x0 first [] all x s e = absurd (none-some s e)
    length_some counts x0 first (g ∷ gs) all zero s e =
        let same : record { first = first; count = count_of counts x0 g; length = g.length } ≡ s = cc in
        subst (λ (z : Spread). 0 < z.length) same all.0.not_empty
    length_some counts x0 first (g ∷ gs) all (suc x) s e = length_some counts (x0 + 1) (first + count_of counts x0 g) gs all.1 x s e

    some_length : (P : Program) → IsResolved P → (parted : Banks) → IsPartition P counts parted → (x : ℕ) (s : Spread) → slice_get parted.spreads.items x ≡ Some s → 0 < s.length
    some_length P resolved parted is x s e = length_some counts 0 0 P.globals resolved.globals x s (ap (λ (ss : List Spread). slice_get ss x) (sym is.spreads) ∙ e)

core_at : (threads : ℕ) (bs : List BankShape) (n : ℕ) (b : BankShape) (c : Bank) → slice_get bs n ≡ Some b → slice_get (core_shapes threads bs) n ≡ Some c →
    core_shape threads b ≡ c
core_at threads [] n b c e f = absurd (none-some b e)
core_at threads (d ∷ bs) zero b c e f = let same : d ≡ b = cc in let made : core_shape threads d ≡ c = cc in ap (core_shape threads) (sym same) ∙ made
core_at threads (d ∷ bs) (suc n) b c e f = core_at threads bs n b c e f

pub are_partitioned : (P : Program) (counts : List ℕ) (threads : ℕ) (parted : Banks) (banks : List Bank) → IsPartition P counts parted →
    AreBanks parted.spreads.items (shapes parted) →
    HasElements P.globals parted.spreads.items → AreHeld parted.spreads.items (shapes parted) → banks ≡ core_shapes threads (shapes parted) →
    ArePartitioned P threads parted.spreads.items banks
are_partitioned P counts threads parted banks is are elements held same = record {
  partition = parted;
  threads = counts;
  is = is;
  spread = refl;
  count = ap length same ∙ length-map (shapes parted) (core_shape threads);
  each = λ n b c e f.
      let made = core_at threads (shapes parted) n b c e (ap (λ (cs : List Bank). slice_get cs n) (sym same) ∙ f) in
      record {
        threads = sym (ap (λ (z : Bank). z.threads) made);
        name = sym (ap (λ (z : Bank). z.name) made);
        number = sym (ap (λ (z : Bank). z.number) made);
        width = sym (ap (λ (z : Bank). z.width) made);
        initial = sym (ap (λ (z : Bank). z.initial) made);
      };
  stand = are;
  elements = elements;
  held = held;
}
