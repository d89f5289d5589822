-- The cores of a partition's banks: which bank of which global each is, and that they hold the memory of the start.
use Rattle.std.proofs.Common.{◌≡◌, ℕ, zero, suc, ◌+◌, ◌*◌, ◌/◌, ◌%◌, ◌^◌, ◌<◌, ◌≤◌, List, [], ◌∷◌, map, length, Some, slice_get, slice_index}
use Rattle.std.proofs.Common.{pos, refl, sym, ap, ◌∙◌, subst, arith}
use Rattle.std.specs.Prelude.{min}
use Rattle.std.specs.List.{AllByRecursion}
use Rattle.std.proofs.lemmas.Bool.Decides.{nat_tests}
use Rattle.std.proofs.lemmas.Nat.{div-add-mod'}
use Rattle.std.proofs.lemmas.List.{length-replicate}
use Rattle.std.proofs.lemmas.Option.{slice_get_within}
use Rattle.lists.proofs.Places.{zeros_at}
use Rattle.hls_ints.specs.Residues.{residue_of}
use Rattle.hls_ints.proofs.Conversions.{residue_of-below}
use Rattle.hls_ints.specs.Types.{IntegerType, HasType, width_of}
use Rattle.thread_promise.proofs.Typed.{residue_of-zero}
use Rattle.c_program.specs.Tree.{GlobalVariable, Program}
use Rattle.c_program.specs.Resolved.{IsGlobal}
use Rattle.thread_semantics.specs.State.{start}
use Rattle.race_model.specs.Source.{memory_of}
use Rattle.planned_block.specs.Slot.{AreBanks as AreApart}
use Rattle.bank_partition.specs.declared.banks.Spread.{Spread}
use Rattle.bank_partition.specs.Counts.{power_from, power_within, words_of}
use Rattle.bank_partition.specs.Shapes.{BankShape, number_at, first_value, count_of, spreads_from}
use Rattle.bank_partition.specs.Partition.{shapes}
use Rattle.bank_partition.proofs.BankCount.{has_word}
use Rattle.bank_cores.specs.declared.bank.Shape.{Shape as Bank}
use Rattle.bank_cores.specs.Machine.{Words}
use Rattle.thread_promise.specs.Globals.{bank_total, bank_of}
use Rattle.law_banks.specs.Partition.{globals_of, ArePartitioned, BeginAll, PartitionIsBanked, StartHolds, WordsFit}
use Rattle.law_banks.proofs.Banks.{totals, below_all, banks_apart, same_global, first_is, spread_long, first_element, first_typed, first_outside}
use Rattle.law_banks.proofs.Typed.{zero_typed}
use Rattle.law_banks.specs.Memory.{place_at, Holds}

pub there : {A : Type 0} (xs : List A) (i : ℕ) → i < length xs → (a : A) × (slice_get xs i ≡ Some a)
there [] i l = absurd (omega arith)
there (x ∷ xs) zero l = (x, refl)
there (x ∷ xs) (suc i) l = there xs i (omega arith)

spread_global : (threads : List ℕ) (x0 first : ℕ) (globals : List GlobalVariable) (x : ℕ) (s : Spread) → slice_get (spreads_from threads x0 first globals) x ≡ Some s →
    (g : GlobalVariable) × (slice_get globals x ≡ Some g)
spread_global threads x0 first [] x s e = absurd cc
spread_global threads x0 first (g ∷ globals) zero s e = (g, refl)
spread_global threads x0 first (g ∷ globals) (suc x) s e = spread_global threads (x0 + 1) (first + count_of threads x0 g) globals x s e

type_of_global : (globals : List GlobalVariable) (x : ℕ) (g : GlobalVariable) → slice_get globals x ≡ Some g → slice_get (map (λ (v : GlobalVariable). v.ty) globals) x ≡ Some g.ty
type_of_global [] x g e = absurd cc
type_of_global (h ∷ globals) zero g e = let same : h ≡ g = cc in ap (λ (v : GlobalVariable). Some v.ty) same
type_of_global (h ∷ globals) (suc x) g e = type_of_global globals x g e

low_power : (n : ℕ) → power_within n ≤ 8
low_power n = grind (arith, nat_tests)

module _ (P : Program) (T : ℕ) (spreads : List Spread) (banks : List Bank) (banked : ArePartitioned P T spreads banks) where
  abbrev all_shapes : List BankShape
  all_shapes = shapes banked.partition

  spreads_are : spreads ≡ spreads_from banked.threads 0 0 P.globals
  spreads_are = banked.spread ∙ banked.is.spreads

  at_spreads : (x : ℕ) (s : Spread) → slice_get spreads x ≡ Some s → slice_get (spreads_from banked.threads 0 0 P.globals) x ≡ Some s
  at_spreads x s e = ap (λ (ss : List Spread). slice_get ss x) (sym spreads_are) ∙ e

  pub total : bank_total spreads ≡ length banks
  total = ap bank_total spreads_are ∙ totals banked.threads 0 0 P.globals ∙ sym (banked.count ∙ ap length banked.is.banks)

  pub apart : AreApart (bank_of spreads)
  apart = banks_apart spreads all_shapes banked.stand (total ∙ banked.count)

  pub some_banks : (x : ℕ) (s : Spread) → slice_get spreads x ≡ Some s → 0 < s.count
  some_banks x s e = banked.stand.some x s e

  pub bank_below : (x k : ℕ) (s : Spread) → slice_get spreads x ≡ Some s → k < s.count → s.first + k < length banks
  bank_below x k s e l = let b = below_all spreads all_shapes banked.stand x k s e l in let n = banked.count in omega (arith, b, n)

  pub same_object : (x y k l : ℕ) (s t : Spread) → slice_get spreads x ≡ Some s → slice_get spreads y ≡ Some t → k < s.count → l < t.count → s.first + k ≡ t.first + l → x ≡ y
  same_object = same_global spreads all_shapes banked.stand

  pub global_there : (x : ℕ) (s : Spread) → slice_get spreads x ≡ Some s → (g : GlobalVariable) × (slice_get P.globals x ≡ Some g)
  global_there x s e = spread_global banked.threads 0 0 P.globals x s (at_spreads x s e)

  pub type_here : (x : ℕ) (g : GlobalVariable) → slice_get P.globals x ≡ Some g → slice_get (globals_of P) x ≡ Some g.ty
  type_here x g e = type_of_global P.globals x g e

  pub type_there : (x : ℕ) (s : Spread) → slice_get spreads x ≡ Some s → (ty : IntegerType) × (slice_get (globals_of P) x ≡ Some ty)
  type_there x s e = let g = global_there x s e in (g.0.ty, type_here x g.0 g.1)

  pub long_as_global : (x : ℕ) (s : Spread) (g : GlobalVariable) → slice_get spreads x ≡ Some s → slice_get P.globals x ≡ Some g → s.length ≡ g.length
  long_as_global x s g e f = (spread_long banked.threads P.globals x s g (at_spreads x s e) f).1

  -- a global has eight banks at most
  pub count_low : (x : ℕ) (s : Spread) → slice_get spreads x ≡ Some s → s.count ≤ 8
  count_low x s e =
      let g = global_there x s e in
      subst (λ n. n ≤ 8) (sym (spread_long banked.threads P.globals x s g.0 (at_spreads x s e) g.1).0) (low_power (min (power_from (number_at banked.threads x)) g.0.length))

  -- the core of bank k of a global
  pub record IsCoreOf (s : Spread) (g : GlobalVariable) (k : ℕ) : Type 0 where
    pub bank : Bank
    pub found : slice_get banks (s.first + k) ≡ Some bank
    pub named : bank.name ≡ g.name
    pub number : bank.number ≡ k
    pub threads : bank.threads ≡ T
    pub width : bank.width ≡ width_of g.ty
    pub long : length bank.initial ≡ words_of s.count k s.length
    pub words : (a : ℕ) → a < words_of s.count k s.length → slice_index bank.initial a ≡ first_value g (a * s.count + k)

  pub core_of : (x k : ℕ) (s : Spread) (g : GlobalVariable) → slice_get spreads x ≡ Some s → slice_get P.globals x ≡ Some g → k < s.count → IsCoreOf s g k
  core_of x k s g e f l =
      let first = first_is banked.threads P.globals x k s g (at_spreads x s e) f l in
      let b = there banks (s.first + k) (bank_below x k s e l) in
      let found : slice_get all_shapes (s.first + k) ≡ Some first.shape = ap (λ (bs : List BankShape). slice_get bs (s.first + k)) banked.is.banks ∙ first.found in
      let is = banked.each (s.first + k) first.shape b.0 found b.1 in
      record {
        bank = b.0;
        found = b.1;
        named = is.name ∙ first.named;
        number = is.number ∙ first.number;
        threads = is.threads;
        width = is.width ∙ first.width;
        long = ap length is.initial ∙ first.long;
        words = λ a below. ap (λ ns. slice_index ns a) is.initial ∙ first.words a below;
      }

  -- which bank a core is
  pub record IsBank (n : ℕ) (b : Bank) : Type 0 where
    pub x : ℕ
    pub k : ℕ
    pub spread : Spread
    pub listed : slice_get spreads x ≡ Some spread
    pub global : GlobalVariable
    pub declared : slice_get P.globals x ≡ Some global
    pub below : k < spread.count
    pub place : n ≡ spread.first + k
    pub named : b.name ≡ global.name
    pub number : b.number ≡ k
    pub width : b.width ≡ width_of global.ty

  pub bank_is : (n : ℕ) (b : Bank) → slice_get banks n ≡ Some b → IsBank n b
  bank_is n b e =
      let l : n < length all_shapes = let w = slice_get_within banks n b e in let c = banked.count in omega (arith, w, c) in
      let s = there all_shapes n l in
      let o = banked.stand.owned n s.0 s.1 in
      let g = global_there s.0.global o.0 o.1 in
      let core = core_of s.0.global s.0.number o.0 g.0 o.1 g.1 o.2 in
      let one : Some b ≡ Some core.bank = sym e ∙ ap (slice_get banks) o.3 ∙ core.found in
      let same : b ≡ core.bank = cc in
      record {
        x = s.0.global;
        k = s.0.number;
        spread = o.0;
        listed = o.1;
        global = g.0;
        declared = g.1;
        below = o.2;
        place = o.3;
        named = ap (λ (z : Bank). z.name) same ∙ core.named;
        number = ap (λ (z : Bank). z.number) same ∙ core.number;
        width = ap (λ (z : Bank). z.width) same ∙ core.width;
      }

  -- ---- the start

  module _ (all : AllByRecursion IsGlobal P.globals) (begun_words : ℕ → Words) (begins : BeginAll banks begun_words) where
    first_word : (x j : ℕ) (s : Spread) (g : GlobalVariable) → slice_get spreads x ≡ Some s → slice_get P.globals x ≡ Some g → j < s.length →
        slice_index (begun_words (s.first + j % s.count)).words (j / s.count) ≡ residue_of (width_of g.ty) (memory_of (start P).globals (place_at x j))
    first_word x j s g e f l =
        let some = some_banks x s e in
        let below : j % s.count < s.count = omega arith in
        let core = core_of x (j % s.count) s g e f below in
        ap (λ (z : Words). slice_index z.words (j / s.count)) (begins (s.first + j % s.count) core.bank core.found)
        ∙ core.words (j / s.count) (has_word s.count s.length j some l)
        ∙ ap (first_value g) (div-add-mod' j s.count)
        ∙ ap (residue_of (width_of g.ty)) (sym (first_element P x j g f))

    pub first_holds : Holds spreads (globals_of P) T begun_words (memory_of (start P).globals) (λ i n. pos 0)
    first_holds = record {
      elements = λ x j s ty e t l.
          let g = global_there x s e in
          let one : Some g.0.ty ≡ Some ty = sym (type_here x g.0 g.1) ∙ t in
          let same : g.0.ty ≡ ty = cc in
          first_word x j s g.0 e g.1 l ∙ ap (λ (z : IntegerType). residue_of (width_of z) (memory_of (start P).globals (place_at x j))) same;
      typed = λ x j s ty e t l.
          let g = global_there x s e in
          let one : Some g.0.ty ≡ Some ty = sym (type_here x g.0 g.1) ∙ t in
          let same : g.0.ty ≡ ty = cc in
          subst (λ z. HasType z (memory_of (start P).globals (place_at x j))) same (first_typed P all x j g.0 g.1);
      outside = λ x i s e l.
          let g = global_there x s e in
          let long = long_as_global x s g.0 e g.1 in
          first_outside P all x (16 * suc s.length + i) g.0 g.1 (omega (arith, long));
      sized = λ x k s e l.
          let g = global_there x s e in
          let core = core_of x k s g.0 e g.1 l in
          ap (λ (z : Words). length z.words) (begins (s.first + k) core.bank core.found) ∙ core.long;
      each = λ x k s e l.
          let g = global_there x s e in
          let core = core_of x k s g.0 e g.1 l in
          ap (λ (z : Words). length z.kept) (begins (s.first + k) core.bank core.found) ∙ length-replicate core.bank.threads 0 ∙ core.threads;
      kept = λ i x k s ty lt e t l.
          let g = global_there x s e in
          let core = core_of x k s g.0 e g.1 l in
          ap (λ (z : Words). slice_index z.kept i) (begins (s.first + k) core.bank core.found) ∙ zeros_at core.bank.threads i
          ∙ sym (residue_of-zero (width_of ty));
      kept_typed = λ i x k s ty lt e t l. zero_typed ty;
    }

pub partition_is_banked : PartitionIsBanked
partition_is_banked P T spreads banks banked = record {
  spread = record { some = λ x s e. some_banks P T spreads banks banked x s e; type = λ x s e. type_there P T spreads banks banked x s e };
  apart = apart P T spreads banks banked;
  below = λ x k s e l. (let b = bank_below P T spreads banks banked x k s e l in let n = total P T spreads banks banked in omega (arith, b, n));
  same_object = λ x y k l s t e f m n same. same_object P T spreads banks banked x y k l s t e f m n same;
}

pub start_holds : StartHolds
start_holds P T spreads banks held banked all begins = first_holds P T spreads banks banked all held begins

pub words_fit : WordsFit
words_fit P T spreads banks held memory words banked h i n b lt e =
    let is = bank_is P T spreads banks banked n b e in
    let t = type_here P T spreads banks banked is.x is.global is.declared in
    subst (λ w. slice_index (held n).kept i < 2 ^ w) (sym is.width)
    (subst (λ m. slice_index (held m).kept i < 2 ^ width_of is.global.ty) (sym is.place)
    (subst (λ z. z < 2 ^ width_of is.global.ty) (sym (h.kept i is.x is.k is.spread is.global.ty lt is.listed t is.below))
    (residue_of-below (width_of is.global.ty) (words i (is.spread.first + is.k)))))
