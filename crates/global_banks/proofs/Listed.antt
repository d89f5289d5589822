-- The instances that are banks, and the digits of their numbers.
use Rattle.std.specs.Prelude.{◌≡◌, ℕ, zero, suc, ◌<◌, Bool, true, false, nat_lt, List, []}
use Rattle.std.specs.Prelude.{◌∷◌, length, map, Option, Some, None, option_and_then, slice_get, codes, if◌then◌else◌, refl}
use Rattle.std.proofs.Common.{ap, sym, ◌∙◌, subst, arith}
use Rattle.std.proofs.lemmas.Option.{same_Some, none-some}
use Rattle.std.proofs.lemmas.Bool.{ltb-true, lt-ltb, and_parts, and_from}
use Rattle.netlist.specs.declared.netlist.Memory.{Memory}
use Rattle.netlist.specs.declared.netlist.Instance.{Instance}
use Rattle.netlist.specs.declared.netlist.Module.{Module}
use Rattle.netlist.specs.Laid.{AreApart, instance_names}
use Rattle.verilog_meaning.specs.Names.{IsMinimal, IsMemory}
use Rattle.verilog_meaning.specs.Follows.{BankOf, HasBanks}
use Rattle.verilog_meaning.proofs.DistinctLists.{AreOnce, IsIn, same_length}
use Rattle.global_banks.specs.Banks.{rest_of, is_rest, is_decimal, memory_place, memories_of, is_bank_by, is_bank, bank_count}
use Rattle.global_banks.proofs.Named.{bank_name, found_at, within, rest_named, named_rest, rest_only, rest_all}
use Rattle.global_banks.proofs.Digits.{minimal_passes, passed_minimal}

-- ---- memories and instances by their digits

module _ (x digits : List ℕ) where
  abbrev pub is_memory : Memory → Bool
  is_memory m = is_rest (rest_of (codes "bank_") x m.name) digits

  abbrev pub is_instance : Instance → Bool
  is_instance n = is_rest (rest_of (codes "u_") x n.name) digits

  -- the memory that is found has the name
  memory_found : (kind : Module) → memory_place x digits kind.memories < length kind.memories
      → (m : Memory) × IsMemory kind (bank_name (codes "bank_") x digits) (memory_place x digits kind.memories) m
  memory_found kind l =
      let h = found_at is_memory kind.memories l in
      (h.item, record { listed = h.listed; named = rest_only (codes "bank_") x (h.item).name digits h.passes })

  memory_inside : (kind : Module) (k : ℕ) (m : Memory) → IsMemory kind (bank_name (codes "bank_") x digits) k m → memory_place x digits kind.memories < length kind.memories
  memory_inside kind k m is = within is_memory kind.memories k m is.listed (rest_all (codes "bank_") x m.name digits is.named)

-- ---- which instances are banks

module _ (modules : List Module) (x : List ℕ) where
  -- an instance is named u_x_digits, and its module has a memory bank_x_digits
  record IsBank (n : Instance) (digits : List ℕ) : Type 0 where
    minimal : IsMinimal digits
    named : n.name ≡ bank_name (codes "u_") x digits
    kind : Module
    stands : slice_get modules n.of ≡ Some kind
    place : ℕ
    memory : Memory
    has : IsMemory kind (bank_name (codes "bank_") x digits) place memory

  module _ (n : Instance) where
    abbrev memories : List Memory
    memories = memories_of (slice_get modules n.of)

    memories_some : (digits : List ℕ) (o : Option Module) → slice_get modules n.of ≡ o → memory_place x digits (memories_of o) < length (memories_of o)
        → (kind : Module) × (slice_get modules n.of ≡ Some kind) × (memory_place x digits kind.memories < length kind.memories)
    memories_some digits None e l = absurd (omega arith)
    memories_some digits (Some kind) e l = (kind, e, l)

    -- an instance that passes has a number
    numbered_by : (o : Option (List ℕ)) → rest_of (codes "u_") x n.name ≡ o → is_bank_by x memories o ≡ true → (digits : List ℕ) × (rest_of (codes "u_") x n.name ≡ Some digits)
    numbered_by None e q = absurd cc
    numbered_by (Some digits) e q = (digits, e)

    has_number : is_bank modules x n ≡ true → (digits : List ℕ) × (rest_of (codes "u_") x n.name ≡ Some digits)
    has_number q = numbered_by (rest_of (codes "u_") x n.name) refl q

    -- and is the bank of this number
    passed_bank : (digits : List ℕ) → rest_of (codes "u_") x n.name ≡ Some digits → is_bank modules x n ≡ true → IsBank n digits
    passed_bank digits e q =
        let parts = and_parts (is_decimal digits) (nat_lt (memory_place x digits memories) (length memories)) (ap (is_bank_by x memories) (sym e) ∙ q) in
        let kind = memories_some digits (slice_get modules n.of) refl (ltb-true (memory_place x digits memories) (length memories) parts.1) in
        let memory = memory_found x digits kind.0 kind.2 in
        record {
          minimal = passed_minimal digits parts.0;
          named = rest_named (codes "u_") x n.name digits e;
          kind = kind.0;
          stands = kind.1;
          place = memory_place x digits (kind.0).memories;
          memory = memory.0;
          has = memory.1;
        }

    bank_passes : (digits : List ℕ) (is : IsBank n digits) → is_bank modules x n ≡ true
    bank_passes digits is =
        let kind = is.kind in
        let inside : nat_lt (memory_place x digits memories) (length memories) ≡ true =
        subst (λ (o : Option Module). nat_lt (memory_place x digits (memories_of o)) (length (memories_of o)) ≡ true) (sym is.stands)
        (lt-ltb (memory_place x digits kind.memories) (length kind.memories) (memory_inside x digits kind is.place is.memory is.has)) in
        ap (is_bank_by x memories) (named_rest (codes "u_") x n.name digits is.named)
        ∙ and_from (is_decimal digits) (nat_lt (memory_place x digits memories) (length memories)) (minimal_passes digits is.minimal) inside

  -- ---- their numbers

  abbrev digits_in : Option (List ℕ) → List ℕ
  digits_in None = []
  digits_in (Some digits) = digits

  abbrev digits_of : Instance → List ℕ
  digits_of n = digits_in (rest_of (codes "u_") x n.name)

  abbrev numbers : List Instance → List (List ℕ)
  numbers [] = []
  numbers (n ∷ ns) = if is_bank modules x n then digits_of n ∷ numbers ns else numbers ns

  abbrev with_head : Bool → Instance → List Instance → List (List ℕ)
  with_head b n ns = if b then digits_of n ∷ numbers ns else numbers ns

  many_by : (b : Bool) (n : Instance) (ns : List Instance) → length (numbers ns) ≡ bank_count modules x ns
      → length (with_head b n ns) ≡ (if b then suc (bank_count modules x ns) else bank_count modules x ns)
  many_by true n ns e = ap suc e
  many_by false n ns e = e

  many : (ns : List Instance) → length (numbers ns) ≡ bank_count modules x ns
  many [] = refl
  many (n ∷ ns) = many_by (is_bank modules x n) n ns (many ns)

  -- a number that is listed is that of an instance
  record IsOf (ns : List Instance) (digits : List ℕ) : Type 0 where
    at : ℕ
    instance : Instance
    listed : slice_get ns at ≡ Some instance
    passes : is_bank modules x instance ≡ true
    number : rest_of (codes "u_") x instance.name ≡ Some digits

  later : (n : Instance) (ns : List Instance) (digits : List ℕ) → IsOf ns digits → IsOf (n ∷ ns) digits
  later n ns digits is = record { at = suc is.at; instance = is.instance; listed = is.listed; passes = is.passes; number = is.number }

  own_number : (n : Instance) (digits : List ℕ) → is_bank modules x n ≡ true → digits_of n ≡ digits → rest_of (codes "u_") x n.name ≡ Some digits
  own_number n digits q e = let own = has_number n q in own.1 ∙ ap (λ z. Some z) (sym (ap digits_in own.1) ∙ e)

  back_by : (b : Bool) (n : Instance) (ns : List Instance) → is_bank modules x n ≡ b → ((a : ℕ) (digits : List ℕ) → slice_get (numbers ns) a ≡ Some digits → IsOf ns digits)
      → (a : ℕ) (digits : List ℕ) → slice_get (with_head b n ns) a ≡ Some digits → IsOf (n ∷ ns) digits
  back_by true n ns q rest zero digits e = record { at = 0; instance = n; listed = refl; passes = q; number = own_number n digits q (same_Some (digits_of n) digits e) }
  back_by true n ns q rest (suc a) digits e = later n ns digits (rest a digits e)
  back_by false n ns q rest a digits e = later n ns digits (rest a digits e)

  back : (ns : List Instance) (a : ℕ) (digits : List ℕ) → slice_get (numbers ns) a ≡ Some digits → IsOf ns digits
  back [] a digits e = absurd (none-some digits e)
  back (n ∷ ns) a digits e = back_by (is_bank modules x n) n ns refl (back ns) a digits e

  -- and each bank's number is listed
  ahead_by : (b : Bool) (n : Instance) (ns : List Instance) (digits : List ℕ) → IsIn (numbers ns) digits → IsIn (with_head b n ns) digits
  ahead_by true n ns digits is = (suc is.0, is.1)
  ahead_by false n ns digits is = is

  here_by : (b : Bool) (n : Instance) (ns : List Instance) (digits : List ℕ) → b ≡ true → rest_of (codes "u_") x n.name ≡ Some digits → IsIn (with_head b n ns) digits
  here_by true n ns digits q e = (0, ap (λ (o : Option (List ℕ)). Some (digits_in o)) e)
  here_by false n ns digits q e = absurd cc

  there : (ns : List Instance) (p : ℕ) (n : Instance) (digits : List ℕ) → slice_get ns p ≡ Some n → is_bank modules x n ≡ true → rest_of (codes "u_") x n.name ≡ Some digits
      → IsIn (numbers ns) digits
  there [] p n digits e q f = absurd (none-some n e)
  there (m ∷ ns) zero n digits e q f =
      let same = same_Some m n e in
      here_by (is_bank modules x m) m ns digits (ap (is_bank modules x) same ∙ q) (ap (λ (z : Instance). rest_of (codes "u_") x z.name) same ∙ f)
  there (m ∷ ns) (suc p) n digits e q f = ahead_by (is_bank modules x m) m ns digits (there ns p n digits e q f)

  -- ---- names apart give each number once

  abbrev name_list : List Instance → List (List ℕ)
  name_list ns = map (λ (n : Instance). n.name) ns

  named_at : (ns : List Instance) (p : ℕ) (n : Instance) → slice_get ns p ≡ Some n → slice_get (name_list ns) p ≡ Some n.name
  named_at [] p n e = absurd (none-some n e)
  named_at (m ∷ ns) zero n e = ap (λ (z : Instance). Some z.name) (same_Some m n e)
  named_at (m ∷ ns) (suc p) n e = named_at ns p n e

  tail_apart : (n : Instance) (ns : List Instance) → AreApart (name_list (n ∷ ns)) → AreApart (name_list ns)
  tail_apart n ns apart i j name e f = let s : suc i ≡ suc j = apart (suc i) (suc j) name e f in omega (arith, s)

  head_other : (n : Instance) (ns : List Instance) (digits : List ℕ) → AreApart (name_list (n ∷ ns)) → rest_of (codes "u_") x n.name ≡ Some digits → IsOf ns digits → ⊥
  head_other n ns digits apart e is =
      let own = rest_named (codes "u_") x n.name digits e in
      let other = rest_named (codes "u_") x is.instance.name digits is.number in
      let same : 0 ≡ suc is.at = apart 0 (suc is.at) n.name refl (named_at ns is.at is.instance is.listed ∙ ap (λ z. Some z) (other ∙ sym own)) in
      omega (arith, same)

  once_by : (b : Bool) (n : Instance) (ns : List Instance) → is_bank modules x n ≡ b → AreApart (name_list (n ∷ ns)) → AreOnce (numbers ns) → AreOnce (with_head b n ns)
  once_by false n ns q apart rest a c digits e f = rest a c digits e f
  once_by true n ns q apart rest zero zero digits e f = refl
  once_by true n ns q apart rest zero (suc c) digits e f = absurd (head_other n ns digits apart (own_number n digits q (same_Some (digits_of n) digits e)) (back ns c digits f))
  once_by true n ns q apart rest (suc a) zero digits e f = absurd (head_other n ns digits apart (own_number n digits q (same_Some (digits_of n) digits f)) (back ns a digits e))
  once_by true n ns q apart rest (suc a) (suc c) digits e f = ap suc (rest a c digits e f)

  once : (ns : List Instance) → AreApart (name_list ns) → AreOnce (numbers ns)
  once [] apart a c digits e f = absurd (none-some digits e)
  once (n ∷ ns) apart a c digits e f = once_by (is_bank modules x n) n ns refl apart (once ns (tail_apart n ns apart)) a c digits e f

  -- ---- how many there are

  module _ (top : Module) where
    bank_at : (p : ℕ) (n : Instance) (digits : List ℕ) → slice_get top.instances p ≡ Some n → IsBank n digits → BankOf modules top x digits
    bank_at p n digits e is = record {
      place = p;
      instance = n;
      is = record { listed = e; named = is.named };
      kind = is.kind;
      stands = ap (option_and_then (λ (z : Instance). slice_get modules z.of)) e ∙ is.stands;
      number = is.place;
      memory = is.memory;
      has = is.has;
    }

    pub kind_stands : (digits : List ℕ) (b : BankOf modules top x digits) → slice_get modules b.instance.of ≡ Some b.kind
    kind_stands digits b = sym (ap (option_and_then (λ (z : Instance). slice_get modules z.of)) b.is.listed) ∙ b.stands

    own_bank : (digits : List ℕ) → IsMinimal digits → (b : BankOf modules top x digits) → IsBank b.instance digits
    own_bank digits minimal b = record {
      minimal = minimal;
      named = b.is.named;
      kind = b.kind;
      stands = kind_stands digits b;
      place = b.number;
      memory = b.memory;
      has = b.has;
    }

    pub counted : AreApart (instance_names top) → HasBanks modules top x (bank_count modules x top.instances)
    counted apart = record {
      numbers = numbers top.instances;
      once = once top.instances apart;
      listed = λ digits minimal b.
          there top.instances b.place b.instance digits b.is.listed (bank_passes b.instance digits (own_bank digits minimal b))
          (named_rest (codes "u_") x b.instance.name digits b.is.named);
      are = λ a digits e.
          let of = back top.instances a digits e in
          let is = passed_bank of.instance digits of.number of.passes in
          (is.minimal, bank_at of.at of.instance digits of.listed is);
      count = many top.instances;
    }

    pub one_count : (a b : ℕ) → HasBanks modules top x a → HasBanks modules top x b → a ≡ b
    one_count a b p q =
        sym p.count
        ∙ same_length p.numbers q.numbers p.once q.once
        (λ i digits e. let is = p.are i digits e in q.listed digits is.0 is.1)
        (λ i digits e. let is = q.are i digits e in p.listed digits is.0 is.1)
        ∙ q.count
