-- An element is located exactly where a bank has it.
use Rattle.std.specs.Prelude.{◌≡◌, ℕ, zero, suc, ◌/◌, ◌%◌, ◌<◌, Bool, true, false, nat_lt, List, length, Option}
use Rattle.std.specs.Prelude.{Some, None, MatchOption, option_and_then, slice_get, codes, decimal, if◌then◌else◌, refl}
use Rattle.std.proofs.Common.{ap, sym, ◌∙◌, subst, arith}
use Rattle.std.proofs.lemmas.Option.{same_Some, none-some, slice_get_within, slice_get_past}
use Rattle.std.proofs.lemmas.Bool.{ltb-true, lt-ltb, both_ways}
use Rattle.netlist.specs.declared.netlist.Memory.{Memory}
use Rattle.netlist.specs.declared.netlist.Instance.{Instance}
use Rattle.netlist.specs.declared.netlist.Module.{Module}
use Rattle.verilog_meaning.specs.Readings.{memory_words}
use Rattle.verilog_meaning.specs.Follows.{HasBanks, IsElement}
use Rattle.global_banks.specs.declared.locate.Location.{Location}
use Rattle.global_banks.specs.Banks.{memory_place, instance_place, memories_of, kind_of, bank_count, memories_at, in_bank, located, location}
use Rattle.global_banks.specs.Elements.{AreNamed, IsPlace, ElementsAreLocated}
use Rattle.global_banks.proofs.Named.{bank_name, found_at, one_place, rest_only, rest_all}
use Rattle.global_banks.proofs.Listed.{is_memory, is_instance, kind_stands, counted, one_count}

module _ (modules : List Module) (top : Module) (x : List ℕ) (j : ℕ) (named : AreNamed modules top) where
  abbrev Answer : Option Location → Type 0
  Answer o = MatchOption o (IsElement modules top x j → ⊥) (λ l. IsElement modules top x j × ((is : IsElement modules top x j) → IsPlace modules top x j is l))

  module _ (rest : ℕ) (has : HasBanks modules top x (suc rest)) where
    abbrev banks : ℕ
    banks = suc rest

    abbrev digits : List ℕ
    digits = decimal (j % banks)

    abbrev word : ℕ
    word = j / banks

    abbrev i : ℕ
    i = instance_place x digits top.instances

    abbrev memories : List Memory
    memories = memories_at modules top.instances i

    abbrev m : ℕ
    m = memory_place x digits memories

    abbrev place : Location
    place = record { instance = i; memory = m; word = word }

    -- an element has its place there
    record IsThere (is : IsElement modules top x j) : Type 0 where
      at : IsPlace modules top x j is place
      listed : slice_get memories m ≡ Some is.bank.memory
      inside : word < length is.bank.memory.initial

    there_by : (is : IsElement modules top x j) → is.banks ≡ banks → IsThere is
    there_by is same =
        let bank = is.bank in
        let digits_same : decimal (j % is.banks) ≡ digits = ap (λ b. decimal (j % b)) same in
        let here : i ≡ bank.place =
        one_place (λ (t : Instance). t.name) (bank_name (codes "u_") x digits) (is_instance x digits) (λ t q. rest_only (codes "u_") x t.name digits q) (λ t q. rest_all (codes "u_") x t.name digits q)
        top.instances named.instances bank.place bank.instance bank.is.listed (bank.is.named ∙ ap (bank_name (codes "u_") x) digits_same) in
        let stands = kind_stands modules x top (decimal (j % is.banks)) bank in
        let memories_are : memories ≡ bank.kind.memories =
        ap (λ k. memories_of (slice_get modules (kind_of k (length modules)))) (ap (slice_get top.instances) here ∙ bank.is.listed) ∙ ap memories_of stands in
        let place_is : m ≡ bank.number =
        ap (memory_place x digits) memories_are
        ∙ one_place (λ (t : Memory). t.name) (bank_name (codes "bank_") x digits) (is_memory x digits) (λ t q. rest_only (codes "bank_") x t.name digits q)
        (λ t q. rest_all (codes "bank_") x t.name digits q)
        bank.kind.memories (named.memories bank.instance.of bank.kind stands) bank.number bank.memory bank.has.listed
        (bank.has.named ∙ ap (bank_name (codes "bank_") x) digits_same) in
        let word_is : j / is.banks ≡ word = ap (λ b. j / b) same in
        record {
          at = record { instance = here; memory = place_is; word = sym word_is };
          listed = ap (λ ms. slice_get ms m) memories_are ∙ ap (slice_get bank.kind.memories) place_is ∙ bank.has.listed;
          inside = subst (λ z. z < length bank.memory.initial) word_is is.inside;
        }

    there : (is : IsElement modules top x j) → IsThere is
    there is = there_by is (one_count modules x top is.banks banks is.has has)

    -- the instance that is found
    instance_by : (o : Option Instance) → slice_get top.instances i ≡ o → (s : Memory) → slice_get (memories_of (slice_get modules (kind_of o (length modules)))) m ≡ Some s
        → (n : Instance) × (kind : Module) × (slice_get top.instances i ≡ Some n) × (slice_get modules n.of ≡ Some kind) × (memories ≡ kind.memories)
    instance_by None e s listed =
        let none : slice_get (memories_of (slice_get modules (length modules))) m ≡ None = ap (λ k. slice_get (memories_of k) m) (slice_get_past modules (length modules) (omega arith)) in
        absurd (none-some s (sym none ∙ listed))
    instance_by (Some n) e s listed = kind_by (slice_get modules n.of) refl where
      kind_by : (k : Option Module) → slice_get modules n.of ≡ k → (n : Instance) × (kind : Module) × (slice_get top.instances i ≡ Some n) × (slice_get modules n.of ≡ Some kind) ×
          (memories ≡ kind.memories)
      kind_by None q = absurd (none-some s (sym (ap (λ k. slice_get (memories_of k) m) q) ∙ listed))
      kind_by (Some kind) q = (n, kind, e, q, ap (λ k. memories_of (slice_get modules (kind_of k (length modules)))) e ∙ ap memories_of q)

    is_there : (s : Memory) → slice_get memories m ≡ Some s → word < length s.initial → IsElement modules top x j
    is_there s listed inside =
        let found = instance_by (slice_get top.instances i) refl s listed in
        let n = found.0 in
        let kind = found.1 in
        let instance = found_at (is_instance x digits) top.instances (slice_get_within top.instances i n found.2) in
        let same : instance.item ≡ n = same_Some instance.item n (sym instance.listed ∙ found.2) in
        let named_so : n.name ≡ bank_name (codes "u_") x digits = ap (λ (t : Instance). t.name) (sym same) ∙ rest_only (codes "u_") x (instance.item).name digits instance.passes in
        let memory = found_at (is_memory x digits) memories (slice_get_within memories m s listed) in
        let same_memory : memory.item ≡ s = same_Some memory.item s (sym memory.listed ∙ listed) in
        record {
          banks = banks;
          has = has;
          some = omega arith;
          bank = record {
            place = i;
            instance = n;
            is = record { listed = found.2; named = named_so };
            kind = kind;
            stands = ap (option_and_then (λ (z : Instance). slice_get modules z.of)) found.2 ∙ found.3;
            number = m;
            memory = s;
            has = record {
              listed = ap (λ ms. slice_get ms m) (sym found.4) ∙ listed;
              named = ap (λ (t : Memory). t.name) (sym same_memory) ∙ rest_only (codes "bank_") x (memory.item).name digits memory.passes;
            };
          };
          inside = inside;
        }

    answer_by : (o : Option Memory) → slice_get memories m ≡ o → (b : Bool) → nat_lt word (memory_words o) ≡ b → Answer (if b then Some place else None)
    answer_by None e true q = absurd (let l = ltb-true word 0 q in omega (arith, l))
    answer_by (Some s) e true q = (is_there s e (ltb-true word (length s.initial) q), λ is. (there is).at)
    answer_by o e false q =
        λ is.
        let t = there is in
        let words : memory_words o ≡ length is.bank.memory.initial = ap memory_words (sym e ∙ t.listed) in
        both_ways (nat_lt word (memory_words o)) q (lt-ltb word (memory_words o) (let w = t.inside in omega (arith, words, w)))

    answer : Answer (in_bank modules top.instances x digits word)
    answer = answer_by (slice_get memories m) refl (nat_lt word (memory_words (slice_get memories m))) refl

  located_by : (count : ℕ) → HasBanks modules top x count → Answer (located modules top.instances x j count)
  located_by zero has = λ is. let none = one_count modules x top is.banks 0 is.has has in let some = is.some in absurd (omega (arith, none, some))
  located_by (suc rest) has = answer rest has

  pub element_located : Answer (location modules top x j)
  element_located = located_by (bank_count modules x top.instances) (counted modules x top named.instances)

pub elements_located : ElementsAreLocated
elements_located modules top x j named = element_located modules top x j named
