-- The banks of a partition: as many as the spreads say, those of two globals apart, and what they have at the start.
use Rattle.std.proofs.Common.{◌≡◌, ℕ, zero, suc, ◌+◌, ◌*◌, ◌-◌, ◌%◌, ◌<◌, ◌≤◌, List, [], ◌∷◌, ◌++◌, map, length, replicate, Option, Some}
use Rattle.std.proofs.Common.{None, slice_get, slice_index, ℤ, pos}
use Rattle.std.proofs.Common.{refl, sym, ap, ◌∙◌, subst, arith, length-append}
use Rattle.std.specs.Prelude.{unwrap_or}
use Rattle.std.specs.List.{AllByRecursion}
use Rattle.std.proofs.lemmas.Option.{slice_get_within, slice_get_past}
use Rattle.hls_ints.specs.Types.{IntegerType, HasType, width_of}
use Rattle.c_program.specs.Tree.{GlobalVariable, Program}
use Rattle.c_program.specs.Resolved.{IsGlobal}
use Rattle.thread_semantics.specs.Memory.{element}
use Rattle.thread_semantics.specs.State.{first_values, start}
use Rattle.race_model.specs.Source.{memory_of}
use Rattle.planned_block.specs.Slot.{AreBanks as AreApart}
use Rattle.bank_partition.specs.declared.banks.Spread.{Spread}
use Rattle.bank_partition.specs.Counts.{words_of}
use Rattle.bank_partition.specs.Shapes.{BankShape, spread, first_value, count_of, bank_of as bank_shape, banks_from, spreads_from}
use Rattle.bank_partition.specs.Partition.{AreBanks}
use Rattle.bank_partition.proofs.BanksOfSpreads.{spread_front, spread_behind, length-spread}
use Rattle.thread_promise.specs.Globals.{bank_total, bank_at, bank_of}
use Rattle.thread_promise.proofs.BankTotal.{total_cons}
use Rattle.law_banks.proofs.Typed.{zero_typed}

-- ---- how many there are

pub totals : (threads : List ℕ) (x first : ℕ) (globals : List GlobalVariable) → bank_total (spreads_from threads x first globals) ≡ length (banks_from threads x globals)
totals threads x first [] = refl
totals threads x first (g ∷ globals) =
    let count = count_of threads x g in
    let more = length (banks_from threads (x + 1) globals) in
    total_cons (record { first = first; count = count; length = g.length }) (spreads_from threads (x + 1) (first + count) globals)
    ∙ ap (λ n. count + n) (totals threads (x + 1) (first + count) globals)
    ∙ sym (length-append (spread (bank_shape x g count) 0 count) (banks_from threads (x + 1) globals) ∙ ap (λ n. n + more) (length-spread (bank_shape x g count) 0 count))

-- ---- whose they are

module _ (spreads : List Spread) (shapes : List BankShape) (are : AreBanks spreads shapes) where
  pub below_all : (x k : ℕ) (s : Spread) → slice_get spreads x ≡ Some s → k < s.count → s.first + k < length shapes
  below_all x k s e l = let b = are.stand x k s e l in slice_get_within shapes (s.first + k) b.0 b.1

  pub same_global : (x y k l : ℕ) (s t : Spread) → slice_get spreads x ≡ Some s → slice_get spreads y ≡ Some t → k < s.count → l < t.count → s.first + k ≡ t.first + l → x ≡ y
  same_global x y k l s t e f m n same =
      let a = are.stand x k s e m in
      let b = are.stand y l t f n in
      let one : Some a.0 ≡ Some b.0 = sym a.1 ∙ ap (slice_get shapes) same ∙ b.1 in
      let two : a.0 ≡ b.0 = cc in
      sym a.2.global ∙ ap (λ (z : BankShape). z.global) two ∙ b.2.global

  inside : (x i : ℕ) (s : Spread) → slice_get spreads x ≡ Some s → i % s.count < s.count
  inside x i s e = let c = are.some x s e in omega arith

  -- the banks of two globals are different
  pub banks_apart : bank_total spreads ≡ length shapes → AreApart (bank_of spreads)
  banks_apart total p q = by (slice_get spreads p.object) refl (slice_get spreads q.object) refl
    where
      by : (o : Option Spread) → slice_get spreads p.object ≡ o → (u : Option Spread) → slice_get spreads q.object ≡ u →
          bank_at (bank_total spreads) o p ≡ bank_at (bank_total spreads) u q → p.object ≡ q.object
      by None a None b h = omega arith
      by None a (Some t) b h = absurd (let l = below_all q.object (q.index % t.count) t b (inside q.object q.index t b) in omega arith)
      by (Some s) a None b h = absurd (let l = below_all p.object (p.index % s.count) s a (inside p.object p.index s a) in omega arith)
      by (Some s) a (Some t) b h =
          same_global p.object q.object (p.index % s.count) (q.index % t.count) s t a b (inside p.object p.index s a) (inside q.object q.index t b) h

-- ---- what they are

spread_index : (f : ℕ → ℕ) (i n k : ℕ) → k < n → slice_index (spread f i n) k ≡ f (i + k)
spread_index f i zero k l = absurd (omega arith)
spread_index f i (suc n) zero l = ap f (let e : i ≡ i + 0 = omega arith in e)
spread_index f i (suc n) (suc k) l = spread_index f (i + 1) n k (omega arith) ∙ ap f (let e : i + 1 + k ≡ i + suc k = omega arith in e)

-- bank k of the global x of these, the first of which has number x0, is that of the global y
pub record Stands (threads : List ℕ) (x0 first : ℕ) (globals : List GlobalVariable) (x k : ℕ) (g : GlobalVariable) (y : ℕ) : Type 0 where
  pub spread : Spread
  pub listed : slice_get (spreads_from threads x0 first globals) x ≡ Some spread
  pub count : spread.count ≡ count_of threads y g
  pub long : spread.length ≡ g.length
  pub index : ℕ
  pub place : spread.first + k ≡ first + index
  pub found : slice_get (banks_from threads x0 globals) index ≡ Some (bank_shape y g (count_of threads y g) k)

stands_at : (threads : List ℕ) (x0 first : ℕ) (globals : List GlobalVariable) (x k : ℕ) (g : GlobalVariable) (y : ℕ) → x0 + x ≡ y → slice_get globals x ≡ Some g →
    k < count_of threads y g → Stands threads x0 first globals x k g y
stands_at threads x0 first [] x k g y at e l = absurd cc
stands_at threads x0 first (h ∷ globals) zero k g y at e l =
    let same : h ≡ g = cc in
    let number : x0 ≡ y = omega arith in
    let count = count_of threads x0 h in
    let here : k < count → Stands threads x0 first (h ∷ globals) zero k h x0 =
    λ below. record {
      spread = record { first = first; count = count; length = h.length };
      listed = refl;
      count = refl;
      long = refl;
      index = k;
      place = refl;
      found = spread_front (bank_shape x0 h count) 0 count (banks_from threads (x0 + 1) globals) k below
          ∙ ap (λ i. Some (bank_shape x0 h count i)) (let z : 0 + k ≡ k = omega arith in z);
    } in
    subst (λ (z : ℕ). k < count_of threads z g → Stands threads x0 first (h ∷ globals) zero k g z) number
    (subst (λ (z : GlobalVariable). k < count_of threads x0 z → Stands threads x0 first (h ∷ globals) zero k z x0) same here) l
stands_at threads x0 first (h ∷ globals) (suc x) k g y at e l =
    let count = count_of threads x0 h in
    let known = stands_at threads (x0 + 1) (first + count) globals x k g y (omega arith) e l in
    record {
      spread = known.spread;
      listed = known.listed;
      count = known.count;
      long = known.long;
      index = count + known.index;
      place = (let p = known.place in omega arith);
      found = spread_behind (bank_shape x0 h count) 0 count (banks_from threads (x0 + 1) globals) known.index ∙ known.found;
    }

-- bank k of a global of this spread: its width, how many words it has, and the first ones
pub record IsFirst (shapes : List BankShape) (s : Spread) (g : GlobalVariable) (k : ℕ) : Type 0 where
  pub shape : BankShape
  pub found : slice_get shapes (s.first + k) ≡ Some shape
  pub named : shape.name ≡ g.name
  pub number : shape.number ≡ k
  pub width : shape.width ≡ width_of g.ty
  pub long : length shape.initial ≡ words_of s.count k s.length
  pub words : (a : ℕ) → a < words_of s.count k s.length → slice_index shape.initial a ≡ first_value g (a * s.count + k)

pub spread_long : (threads : List ℕ) (globals : List GlobalVariable) (x : ℕ) (s : Spread) (g : GlobalVariable) → slice_get (spreads_from threads 0 0 globals) x ≡ Some s →
    slice_get globals x ≡ Some g → (s.count ≡ count_of threads x g) × (s.length ≡ g.length)
spread_long threads globals x s g e f = go 0 0 globals x (let z : 0 + x ≡ x = omega arith in z) e f
  where
    go : (x0 first : ℕ) (gs : List GlobalVariable) (i : ℕ) → x0 + i ≡ x → slice_get (spreads_from threads x0 first gs) i ≡ Some s → slice_get gs i ≡ Some g →
        (s.count ≡ count_of threads x g) × (s.length ≡ g.length)
    go x0 first [] i at a b = absurd cc
    go x0 first (h ∷ gs) zero at a b =
        let same : h ≡ g = cc in
        let own : record { first = first; count = count_of threads x0 h; length = h.length } ≡ s = cc in
        let number : x0 ≡ x = omega arith in (
          sym (ap (λ (z : Spread). z.count) own) ∙ ap (λ z. count_of threads z h) number ∙ ap (count_of threads x) same,
          sym (ap (λ (z : Spread). z.length) own) ∙ ap (λ (z : GlobalVariable). z.length) same,
        )
    go x0 first (h ∷ gs) (suc i) at a b = go (x0 + 1) (first + count_of threads x0 h) gs i (omega arith) a b

pub first_is : (threads : List ℕ) (globals : List GlobalVariable) (x k : ℕ) (s : Spread) (g : GlobalVariable) → slice_get (spreads_from threads 0 0 globals) x ≡ Some s →
    slice_get globals x ≡ Some g → k < s.count → IsFirst (banks_from threads 0 globals) s g k
first_is threads globals x k s g e f l =
    let long = spread_long threads globals x s g e f in
    let count : s.count ≡ count_of threads x g = long.0 in
    let all : s.length ≡ g.length = long.1 in
    let known = stands_at threads 0 0 globals x k g x (let z : 0 + x ≡ x = omega arith in z) f (omega arith) in
    let one : Some known.spread ≡ Some s = sym known.listed ∙ e in
    let same : known.spread ≡ s = cc in
    let place : s.first + k ≡ known.index = let p = known.place in let q = ap (λ (z : Spread). z.first) same in omega arith in
    let words : words_of (count_of threads x g) k g.length ≡ words_of s.count k s.length =
    ap (λ n. words_of n k g.length) (sym count) ∙ ap (words_of s.count k) (sym all) in
    record {
      shape = bank_shape x g (count_of threads x g) k;
      found = ap (slice_get (banks_from threads 0 globals)) place ∙ known.found;
      named = refl;
      number = refl;
      width = refl;
      long = length-spread (λ a. first_value g (a * count_of threads x g + k)) 0 (words_of (count_of threads x g) k g.length) ∙ words;
      words = λ a below.
          spread_index (λ j. first_value g (j * count_of threads x g + k)) 0 (words_of (count_of threads x g) k g.length) a (omega arith)
          ∙ ap (λ j. first_value g (j * count_of threads x g + k)) (let z : 0 + a ≡ a = omega arith in z)
          ∙ ap (λ n. first_value g (a * n + k)) (sym count);
    }

-- ---- the memory at the start

padded_none : (n j : ℕ) → unwrap_or (slice_get (replicate n (pos 0)) j) (pos 0) ≡ pos 0
padded_none zero j = refl
padded_none (suc n) zero = refl
padded_none (suc n) (suc j) = padded_none n j

padded : (vs : List ℤ) (n j : ℕ) → unwrap_or (slice_get (vs ++ replicate n (pos 0)) j) (pos 0) ≡ unwrap_or (slice_get vs j) (pos 0)
padded [] n j = padded_none n j
padded (v ∷ vs) n zero = refl
padded (v ∷ vs) n (suc j) = padded vs n j

first_row : (globals : List GlobalVariable) (x j : ℕ) (g : GlobalVariable) → slice_get globals x ≡ Some g → element (map first_values globals) x j ≡ slice_get (first_values g) j
first_row [] x j g e = absurd cc
first_row (h ∷ globals) zero j g e = let same : h ≡ g = cc in ap (λ (z : GlobalVariable). slice_get (first_values z) j) same
first_row (h ∷ globals) (suc x) j g e = first_row globals x j g e

-- an element has its given value, or 0
pub first_element : (P : Program) (x j : ℕ) (g : GlobalVariable) → slice_get P.globals x ≡ Some g →
    memory_of (start P).globals (record { object = x; index = j }) ≡ unwrap_or (slice_get g.initial j) (pos 0)
first_element P x j g e =
    ap (λ (o : Option ℤ). unwrap_or o (pos 0)) (first_row P.globals x j g e) ∙ padded g.initial (g.length - length g.initial) j

typed_at : (ty : IntegerType) (vs : List ℤ) (j : ℕ) → AllByRecursion (HasType ty) vs → HasType ty (unwrap_or (slice_get vs j) (pos 0))
typed_at ty [] j all = zero_typed ty
typed_at ty (v ∷ vs) zero all = all.0
typed_at ty (v ∷ vs) (suc j) all = typed_at ty vs j all.1

global_at : (globals : List GlobalVariable) (x : ℕ) (g : GlobalVariable) → AllByRecursion IsGlobal globals → slice_get globals x ≡ Some g → IsGlobal g
global_at [] x g all e = absurd cc
global_at (h ∷ globals) zero g all e = let same : h ≡ g = cc in subst IsGlobal same all.0
global_at (h ∷ globals) (suc x) g all e = global_at globals x g all.1 e

module _ (P : Program) (all : AllByRecursion IsGlobal P.globals) where
  pub first_typed : (x j : ℕ) (g : GlobalVariable) → slice_get P.globals x ≡ Some g → HasType g.ty (memory_of (start P).globals (record { object = x; index = j }))
  first_typed x j g e =
      subst (HasType g.ty) (sym (first_element P x j g e)) (typed_at g.ty g.initial j (global_at P.globals x g all e).initial)

  pub first_outside : (x j : ℕ) (g : GlobalVariable) → slice_get P.globals x ≡ Some g → g.length ≤ j → memory_of (start P).globals (record { object = x; index = j }) ≡ pos 0
  first_outside x j g e l =
      let few = (global_at P.globals x g all e).given in
      first_element P x j g e ∙ ap (λ (o : Option ℤ). unwrap_or o (pos 0)) (slice_get_past g.initial j (omega arith))
