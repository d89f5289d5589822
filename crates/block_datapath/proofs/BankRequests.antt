-- The bank of an index, and the address in it.
use Rattle.std.proofs.Common.{◌≡◌, ℕ, zero, suc, ◌+◌, ◌-◌, ◌/◌, ◌%◌, ◌^◌, ◌<◌, ◌≤◌, nat_eq, Bool}
use Rattle.std.proofs.Common.{true, false, ◌&&◌, if◌then◌else◌, List, refl, sym, ap, subst, ◌∙◌, ◌≢◌, nat_lt, ⊎_elim, arith}
use Rattle.std.specs.Prelude.{Result, not, IfOk}
use Rattle.std.proofs.lemmas.Bool.{cases_lt}
use Rattle.std.proofs.lemmas.Nat.{pow_pos, mod_below}
use Rattle.std.proofs.Math.Nat.{mod-eq_of_lt}
use Rattle.std.specs.Int.Bits.{and_zero_l}
use Rattle.hls_ints.specs.Residues.{bit_of}
use Rattle.bank_partition.specs.declared.banks.Spread.{Spread}
use Rattle.hls_ints.specs.Words.{word_equal, word_and}
use Rattle.planned_block.proofs.Bits.{same_is, other_is, less_is, not_less_is}
use Rattle.netlist.specs.declared.netlist.Signal.{Signal}
use Rattle.netlist.specs.declared.netlist.Value.TheVariants.{Select}
use Rattle.netlist.specs.declared.netlist.Module.{Module}
use Rattle.operator_wires.specs.Modules.{Obeys}
use Rattle.verilog_meaning.specs.Readings.{Reading, width, value}
use Rattle.operator_wires.specs.Gives.{Grows, Gives}
use Rattle.operator_wires.specs.Words.{Resizes, resized_word}
use Rattle.operator_wires.specs.Built.{Base, IsEarlier, Adds}
use Rattle.operator_wires.specs.Added.{IsAdded, ConstantAdds, NumberAdds, ResizedAdds, BothAdds}
use Rattle.operator_wires.proofs.PutSignals.{grows_refl, grows_then}
use Rattle.operator_wires.proofs.BuiltWires.{room_of, stands_after, adds_after, wires_none, wires_then}
use Rattle.block_datapath.specs.declared.registers.Held.{Held}
use Rattle.block_datapath.specs.Wired.{IsLinked}
use Rattle.block_datapath.proofs.LinkWires.{chains_after}
use Rattle.operator_wires.proofs.MadeWords.{of_ok}
use Rattle.operator_wires.proofs.Bits.{and_bits, set_bit}
use Rattle.block_datapath.specs.declared.requests.BankRequests.{BankRequests}
use Rattle.block_datapath.specs.declared.requests.BankAccess.{BankAccess}
use Rattle.block_datapath.specs.Chains.{next_number, is_set, SetsNext}
use Rattle.thread_promise.specs.Globals.{IsSmallPower}
use Rattle.block_datapath.specs.Requests.{TellsBank, AddressesBank, Asked, asked_at, asked_by}
use Rattle.block_datapath.specs.Requests.{AreAsMany, AsksOne, AsksSome, AsksBank, AreBankChains, StandsAccess, IsAskAdded, AreAsksAdded}
use Rattle.block_datapath.proofs.ConditionalChains.{equal_small}

-- ---- numbers

last_bits : (i bits : ℕ) → 1 ≤ bits → bits ≤ 3 → resized_word false 64 bits i ≡ i % 2 ^ bits
last_bits i zero l h = absurd (omega arith)
last_bits i (suc zero) l h = refl
last_bits i (suc (suc zero)) l h = refl
last_bits i (suc (suc (suc zero))) l h = refl
last_bits i (suc (suc (suc (suc b)))) l h = absurd (omega arith)

last_small : (i bits : ℕ) → 1 ≤ bits → bits ≤ 3 → i % 2 ^ bits < 2 ^ bits
last_small i zero l h = absurd (omega arith)
last_small i (suc zero) l h = (let e : i % 2 < 2 = omega arith in e)
last_small i (suc (suc zero)) l h = (let e : i % 4 < 4 = omega arith in e)
last_small i (suc (suc (suc zero))) l h = (let e : i % 8 < 8 = omega arith in e)
last_small i (suc (suc (suc (suc b)))) l h = absurd (omega arith)

first_bits : (i bits : ℕ) → 1 ≤ bits → bits ≤ 3 → i < 2 ^ 64 → (i / 2 ^ bits) % 2 ^ (63 + 1 - bits) ≡ i / 2 ^ bits
first_bits i zero l h small = absurd (omega arith)
first_bits i (suc zero) l h small = mod-eq_of_lt (let e : i / 2 < 2 ^ 63 = omega arith in e)
first_bits i (suc (suc zero)) l h small = mod-eq_of_lt (let e : i / 4 < 2 ^ 62 = omega arith in e)
first_bits i (suc (suc (suc zero))) l h small = mod-eq_of_lt (let e : i / 8 < 2 ^ 61 = omega arith in e)
first_bits i (suc (suc (suc (suc b)))) l h small = absurd (omega arith)

widened : (n bits : ℕ) → 1 ≤ bits → bits ≤ 3 → resized_word false (64 - bits) 64 n ≡ n
widened n zero l h = absurd (omega arith)
widened n (suc zero) l h = refl
widened n (suc (suc zero)) l h = refl
widened n (suc (suc (suc zero))) l h = refl
widened n (suc (suc (suc (suc b)))) l h = absurd (omega arith)

-- ---- the bank

pub bank_told : {E : Type 0} (x : Result ℕ E) (a b c : List Signal) (index bits number last : ℕ) → 1 ≤ bits → bits ≤ 3 → Resizes a b index 64 bits false last
    → IfOk x (λ place. Gives b c place 1 (λ m r. word_equal (width m last) (r.signal last) number)) → IfOk x (TellsBank a c index bits number)
bank_told x a b c index bits number last l h t made =
    of_ok x (λ place. Gives b c place 1 (λ m r. word_equal (width m last) (r.signal last) number)) (TellsBank a c index bits number)
    (λ place u. record {
      grows = grows_then a b c t.grows u.grows;
      wide = u.wide;
      shows = λ m r g o wide low.
          let before = grows_then b c m.signals u.grows g in
          let is : r.signal last ≡ r.signal index % 2 ^ bits = t.shows m r before o wide ∙ last_bits (r.signal index) bits l h in
          u.shows m r g o
          ∙ equal_small (width m last) bits (r.signal last) number (t.wide m before wide)
          (subst (λ n. n < 2 ^ bits) (sym is) (last_small (r.signal index) bits l h)) low
          ∙ ap (λ n. bit_of (nat_eq n number)) is;
    }) made

-- ---- the address

pub bank_addressed : {E : Type 0} (x : Result ℕ E) (a b c : List Signal) (index bits first : ℕ) → 1 ≤ bits → bits ≤ 3
    → Gives a b first (64 - bits) (λ m r. value m r (Select index 63 bits)) → IfOk x (Resizes b c first (64 - bits) 64 false) → IfOk x (AddressesBank a c index bits)
bank_addressed x a b c index bits first l h t made =
    of_ok x (Resizes b c first (64 - bits) 64 false) (AddressesBank a c index bits)
    (λ place u. record {
      grows = grows_then a b c t.grows u.grows;
      wide = λ m g w. u.wide m g (t.wide m (grows_then b c m.signals u.grows g));
      shows = λ m r g o small.
          let before = grows_then b c m.signals u.grows g in
          u.shows m r g o (t.wide m before) ∙ widened (r.signal first) bits l h ∙ t.shows m r before o ∙ first_bits (r.signal index) bits l h small;
    }) made

-- ---- how they are put together

pub told_wired : {E : Type 0} (x : Result ℕ E) (a b c : List Signal) (index bits number last : ℕ) → 1 ≤ bits → bits ≤ 3 → ResizedAdds a b index 64 bits false last
    → IfOk x (NumberAdds b c bits last number) → IfOk x (λ place. (base : Base) → IsEarlier a base index 64 → number < 2 ^ bits → Adds base a c 1 place)
told_wired x a b c index bits number last l h t made =
    of_ok x (NumberAdds b c bits last number) (λ place. (base : Base) → IsEarlier a base index 64 → number < 2 ^ bits → Adds base a c 1 place)
    (λ place u base is low.
    let first = t base is l (omega arith) (λ e. absurd cc) in
    adds_after base a b c 1 place first.wires (u base first.stands low)) made

pub whole_wired : (a : List Signal) (index : ℕ) → (base : Base) → IsEarlier a base index 64 → Adds base a a 64 index
whole_wired a index base is = record { wires = wires_none base a; stands = is }

pub address_wired : {E : Type 0} (x : Result ℕ E) (a b c : List Signal) (index bits first : ℕ) → 1 ≤ bits → bits ≤ 3 → IsAdded a b (64 - bits) (Select index 63 bits) first
    → IfOk x (ResizedAdds b c first (64 - bits) 64 false) → IfOk x (λ place. (base : Base) → IsEarlier a base index 64 → Adds base a c 64 place)
address_wired x a b c index bits first l h t made =
    of_ok x (ResizedAdds b c first (64 - bits) 64 false) (λ place. (base : Base) → IsEarlier a base index 64 → Adds base a c 64 place)
    (λ place u base is.
    let made_first = t base (record {
      room = room_of a base index 64 is;
      low = omega arith;
      high = omega arith;
      fits = ((let e : bits ≤ 63 = omega arith in e), (let e : 63 + 1 - bits ≡ 64 - bits = omega arith in e), (64, is, (let e : 63 < 64 = omega arith in e)));
      selects = (64, is, (let e : 1 < 64 = omega arith in e));
    }) in
    adds_after base a b c 64 place made_first.wires (u base made_first.stands (omega arith) (omega arith) (λ e. absurd cc))) made

-- ---- chains

pub same_asked : (p q : Asked) → p.wants ≡ q.wants → p.writes ≡ q.writes → p.address ≡ q.address → p.value ≡ q.value → p ≡ q
same_asked p q a b c d =
    ap (λ z. record { wants = z; writes = p.writes; address = p.address; value = p.value }) a
    ∙ ap (λ z. record { wants = q.wants; writes = z; address = p.address; value = p.value }) b
    ∙ ap (λ z. record { wants = q.wants; writes = q.writes; address = z; value = p.value }) c
    ∙ ap (λ z. record { wants = q.wants; writes = q.writes; address = q.address; value = z }) d

chosen_asked : (z : Bool) (after new old : Asked) → after.wants ≡ (if z then new.wants else old.wants) → after.writes ≡ (if z then new.writes else old.writes) →
    after.address ≡ (if z then new.address else old.address) → after.value ≡ (if z then new.value else old.value) → after ≡ (if z then new else old)
chosen_asked true after new old a b c d = same_asked after new a b c d
chosen_asked false after new old a b c d = same_asked after old a b c d

link_shows : (r : Reading) (before after : List ℕ) (n number condition : ℕ) (t : Bool) (source value : ℕ) → is_set r condition ≡ t → source ≡ value →
    next_number r after n ≡ (if nat_eq n number && is_set r condition then source else next_number r before n) →
    next_number r after n ≡ (if nat_eq n number && t then value else next_number r before n)
link_shows r before after n number condition t source value set is shows =
    shows ∙ ap (λ s. if nat_eq n number && s then source else next_number r before n) set ∙ ap (λ k. if nat_eq n number && t then k else next_number r before n) is

and_none : (n : ℕ) → word_and 1 0 n ≡ 0
and_none n = and_zero_l (n % 2)

never : {A : Type 0} (t : Bool) (by old : A) → (if t && false then by else old) ≡ old
never true by old = refl
never false by old = refl

-- a bank is asked: four links, one behind the other
pub one_asked : (a b c d e f g : List Signal) (before after : BankRequests) (number here one chosen : ℕ) (access : BankAccess) →
    Gives a b here 1 (λ m r. word_and (width m access.state) (r.signal access.state) (r.signal chosen)) → Gives b c one 1 (λ m r. 1) →
    SetsNext c d before.wants after.wants number here one → SetsNext d e before.writes after.writes number here access.writes →
    SetsNext e f before.addresses after.addresses number here access.address → SetsNext f g before.values after.values number here access.value →
    AsksOne a g before after number access chosen
one_asked a b c d e f g before after number here one chosen access t u v w x y = record {
  grows = grows_then a b g t.grows (grows_then b c g u.grows (grows_then c d g v.grows (grows_then d e g w.grows (grows_then e f g x.grows y.grows))));
  many = λ n is. record { wants = v.count ∙ is.wants; writes = w.count ∙ is.writes; addresses = x.count ∙ is.addresses; values = y.count ∙ is.values };
  shows = λ m r p q n many grown o wide state bit is less.
      let both : r.signal here ≡ bit_of (p && q) =
      t.shows m r (to_b m grown) o ∙ ap (λ k. word_and k (r.signal access.state) (r.signal chosen)) wide ∙ ap (λ k. word_and 1 k (r.signal chosen)) state
      ∙ ap (word_and 1 (bit_of p)) bit ∙ and_bits p q
      in
      linked m r n many grown o is less (p && q) (ap (λ k. not (nat_eq k 0)) both ∙ set_bit (p && q));
  rests = λ m r n many grown o wide state is less.
      let none : r.signal here ≡ 0 =
      t.shows m r (to_b m grown) o ∙ ap (λ k. word_and k (r.signal access.state) (r.signal chosen)) wide ∙ ap (λ k. word_and 1 k (r.signal chosen)) state
      ∙ and_none (r.signal chosen)
      in
      linked m r n many grown o is less false (ap (λ k. not (nat_eq k 0)) none) ∙ never (nat_eq n number) (asked_by r access) (asked_at r before n);
}
  where
    to_e : (m : Module) → Grows g m.signals → Grows e m.signals
    to_e m grown = grows_then e f m.signals x.grows (grows_then f g m.signals y.grows grown)

    to_c : (m : Module) → Grows g m.signals → Grows c m.signals
    to_c m grown = grows_then c d m.signals v.grows (grows_then d e m.signals w.grows (to_e m grown))

    to_b : (m : Module) → Grows g m.signals → Grows b m.signals
    to_b m grown = grows_then b c m.signals u.grows (to_c m grown)

    linked : (m : Module) (r : Reading) (n many : ℕ) → Grows g m.signals → Obeys m r → AreAsMany many before → n < many → (z : Bool) → is_set r here ≡ z →
        asked_at r after n ≡ (if nat_eq n number && z then asked_by r access else asked_at r before n)
    linked m r n many grown o is less z set =
        chosen_asked (nat_eq n number && z) (asked_at r after n) (asked_by r access) (asked_at r before n)
        (link_shows r before.wants after.wants n number here z (r.signal one) 1 set (u.shows m r (to_c m grown) o)
        (v.shows m r n (grows_then d e m.signals w.grows (to_e m grown)) o (subst (λ k. n < k) (sym is.wants) less)))
        (link_shows r before.writes after.writes n number here z (r.signal access.writes) (r.signal access.writes) set refl
        (w.shows m r n (to_e m grown) o (subst (λ k. n < k) (sym is.writes) less)))
        (link_shows r before.addresses after.addresses n number here z (r.signal access.address) (r.signal access.address) set refl
        (x.shows m r n (grows_then f g m.signals y.grows grown) o (subst (λ k. n < k) (sym is.addresses) less)))
        (link_shows r before.values after.values n number here z (r.signal access.value) (r.signal access.value) set refl
        (y.shows m r n grown o (subst (λ k. n < k) (sym is.values) less)))

-- ---- the banks of a global, one after the other

pub not_yet : {A : Type 0} (t e : Bool) (by old : A) → old ≡ (if t && (e && false) then by else old)
not_yet true true by old = refl
not_yet true false by old = refl
not_yet false e by old = refl

now_asked : {A : Type 0} (t e : Bool) (by old : A) → (if e && (t && true) then by else (if t && (e && false) then by else old)) ≡ (if t && (e && true) then by else old)
now_asked true true by old = refl
now_asked true false by old = refl
now_asked false true by old = refl
now_asked false false by old = refl

other_asked : {A : Type 0} (t f : Bool) (by old : A) → (if f && (t && false) then by else old) ≡ old
other_asked true true by old = refl
other_asked true false by old = refl
other_asked false true by old = refl
other_asked false false by old = refl

same_below : (i n : ℕ) → i ≢ n → nat_lt i n ≡ nat_lt i (n + 1)
same_below i n ne =
    ⊎_elim
    (λ (l : i < n). less_is i n l ∙ sym (less_is i (n + 1) (omega arith)))
    (λ (l : n ≤ i). not_less_is i n l ∙ sym (not_less_is i (n + 1) (omega arith)))
    (cases_lt i n)

-- bank n of those from a first one on, where the index is of bank i
module _ {A : Type 0} (t : Bool) (j first : ℕ) (by old : A) where
  step_here : (i n : ℕ) → i ≡ n → (if nat_eq j (first + n) && (t && nat_eq i n) then by else (if t && (nat_eq j (first + i) && nat_lt i n) then by else old))
      ≡ (if t && (nat_eq j (first + i) && nat_lt i (n + 1)) then by else old)
  step_here i n e =
      ap (λ k. if nat_eq j (first + k) && (t && nat_eq i n) then by else (if t && (nat_eq j (first + i) && nat_lt i n) then by else old)) (sym e)
      ∙ ap (λ x. if nat_eq j (first + i) && (t && x) then by else (if t && (nat_eq j (first + i) && nat_lt i n) then by else old)) (same_is i n e)
      ∙ ap (λ x. if nat_eq j (first + i) && (t && true) then by else (if t && (nat_eq j (first + i) && x) then by else old)) (not_less_is i n (omega arith))
      ∙ now_asked t (nat_eq j (first + i)) by old
      ∙ sym (ap (λ x. if t && (nat_eq j (first + i) && x) then by else old) (less_is i (n + 1) (omega arith)))

  step_past : (i n : ℕ) → i ≢ n → (if nat_eq j (first + n) && (t && nat_eq i n) then by else (if t && (nat_eq j (first + i) && nat_lt i n) then by else old))
      ≡ (if t && (nat_eq j (first + i) && nat_lt i (n + 1)) then by else old)
  step_past i n ne =
      ap (λ x. if nat_eq j (first + n) && (t && x) then by else (if t && (nat_eq j (first + i) && nat_lt i n) then by else old)) (other_is i n ne)
      ∙ other_asked t (nat_eq j (first + n)) by (if t && (nat_eq j (first + i) && nat_lt i n) then by else old)
      ∙ ap (λ x. if t && (nat_eq j (first + i) && x) then by else old) (same_below i n ne)

  step_asked : (i n : ℕ) → (if nat_eq j (first + n) && (t && nat_eq i n) then by else (if t && (nat_eq j (first + i) && nat_lt i n) then by else old))
      ≡ (if t && (nat_eq j (first + i) && nat_lt i (n + 1)) then by else old)
  step_asked i n =
      ⊎_elim (λ (l : i < n). step_past i n (λ e. absurd (omega arith)))
      (λ (l : n ≤ i). ⊎_elim (λ (k : n < i). step_past i n (λ e. absurd (omega arith))) (λ (k : i ≤ n). step_here i n (omega arith)) (cases_lt n i))
      (cases_lt i n)

pub some_none : (a : List Signal) (chains : BankRequests) (s : Spread) (bits index : ℕ) (access : BankAccess) → AsksSome a a chains chains s bits index access 0
some_none a chains s bits index access = record {
  grows = grows_refl a;
  many = λ n is. is;
  shows = λ m r t j many g o state wide bit small is less.
      not_yet t (nat_eq j (s.first + r.signal index % 2 ^ bits)) (asked_by r access) (asked_at r chains j)
      ∙ sym (ap (λ x. if t && (nat_eq j (s.first + r.signal index % 2 ^ bits) && x) then asked_by r access else asked_at r chains j)
      (not_less_is (r.signal index % 2 ^ bits) 0 (omega arith)));
  rests = λ m r j many g o wide off is less. refl;
}

pub some_more : (a b c d : List Signal) (before mid after : BankRequests) (s : Spread) (bits index : ℕ) (access : BankAccess) (n chosen : ℕ) →
    AsksSome a b before mid s bits index access n → TellsBank b c index bits n chosen → AsksOne c d mid after (s.first + n) access chosen →
    AsksSome a d before after s bits index access (n + 1)
some_more a b c d before mid after s bits index access n chosen t u v = record {
  grows = grows_then a b d t.grows (grows_then b c d u.grows v.grows);
  many = λ k is. v.many k (t.many k is);
  shows = λ m r p j many g o state wide bit small is less.
      let to_c = grows_then c d m.signals v.grows g in
      let to_b = grows_then b c m.signals u.grows to_c in
      let i = r.signal index % 2 ^ bits in
      let told : r.signal chosen ≡ bit_of (nat_eq i n) = u.shows m r to_c o wide (omega arith) in
      v.shows m r p (nat_eq i n) j many g o state bit told (t.many many is) less
      ∙ ap (λ z. if nat_eq j (s.first + n) && (p && nat_eq i n) then asked_by r access else z) (t.shows m r p j many to_b o state wide bit (omega arith) is less)
      ∙ step_asked p j s.first (asked_by r access) (asked_at r before j) i n;
  rests = λ m r j many g o wide off is less.
      v.rests m r j many g o wide off (t.many many is) less
      ∙ t.rests m r j many (grows_then b c m.signals u.grows (grows_then c d m.signals v.grows g)) o wide off is less;
}

-- all of them
all_below : (t e : Bool) (x : Asked) (y : Asked) (b : Bool) → b ≡ true → (if t && (e && b) then x else y) ≡ (if t && e then x else y)
all_below t true x y b is = ap (λ z. if t && z then x else y) is
all_below t false x y b is = refl

pub some_all : (a b : List Signal) (before after : BankRequests) (s : Spread) (bits index : ℕ) (access : BankAccess) (n : ℕ) → n ≡ s.count → (IsSmallPower s.count →
    2 ^ bits ≡ s.count) →
    AsksSome a b before after s bits index access n → AsksBank a b before after s index access
some_all a b before after s bits index access n all counts t = record {
  grows = t.grows;
  many = t.many;
  shows = λ m r p j many g o state wide bit power room is less.
      let e = counts power in
      let below : r.signal index % 2 ^ bits < 2 ^ bits = mod_below (r.signal index) (2 ^ bits) (pow_pos bits) in
      t.shows m r p j many g o state wide bit (omega arith) is less
      ∙ all_below p (nat_eq j (s.first + r.signal index % 2 ^ bits)) (asked_by r access) (asked_at r before j) (nat_lt (r.signal index % 2 ^ bits) n)
      (less_is (r.signal index % 2 ^ bits) n (omega arith))
      ∙ ap (λ k. if p && nat_eq j (s.first + r.signal index % k) then asked_by r access else asked_at r before j) e;
  rests = t.rests;
}

-- a bank is asked: how it is put together
pub one_wired : (a b c d e f g : List Signal) (before after : BankRequests) (number width here one chosen : ℕ) (access : BankAccess) → BothAdds a b access.state chosen here →
    ConstantAdds b c 1 1 one → IsLinked c d number 1 here one before.wants after.wants → IsLinked d e number 1 here access.writes before.writes after.writes →
    IsLinked e f number 64 here access.address before.addresses after.addresses → IsLinked f g number width here access.value before.values after.values →
    IsAskAdded a g number width access chosen before after
one_wired a b c d e f g before after number width here one chosen access t u v w x y base bits addresses values chains low high own stands is =
    let p = t base stands.state is in
    let q = u base (room_of b base here 1 p.stands) (omega arith) (omega arith) (omega arith) in
    let to_c = grows_then a b c p.wires.grows q.wires.grows in
    let here_c = stands_after b c base here 1 q.wires.grows p.stands in
    let first = v base bits (chains_after a c base bits before.wants to_c chains.wants) low here_c q.stands in
    let to_d = grows_then a c d to_c first.wires.grows in
    let here_d = stands_after c d base here 1 first.wires.grows here_c in
    let second = w base bits (chains_after a d base bits before.writes to_d chains.writes) low here_d (stands_after a d base access.writes 1 to_d stands.writes) in
    let to_e = grows_then a d e to_d second.wires.grows in
    let here_e = stands_after d e base here 1 second.wires.grows here_d in
    let third = x base addresses (chains_after a e base addresses before.addresses to_e chains.addresses) high here_e (stands_after a e base access.address 64 to_e
    stands.address) in
    let to_f = grows_then a e f to_e third.wires.grows in
    let here_f = stands_after e f base here 1 third.wires.grows here_e in
    let fourth = y base values (chains_after a f base values before.values to_f chains.values) own here_f (stands_after a f base access.value width to_f stands.value) in
    let from_e = grows_then e f g third.wires.grows fourth.wires.grows in
    record {
      wires = wires_then base a b g p.wires (wires_then base b c g q.wires (wires_then base c d g first.wires (wires_then base d e g second.wires (wires_then base e f g
          third.wires fourth.wires))));
      chains = record {
        wants = chains_after d g base bits after.wants (grows_then d e g second.wires.grows from_e) first.chains;
        writes = chains_after e g base bits after.writes from_e second.chains;
        addresses = chains_after f g base addresses after.addresses fourth.wires.grows third.chains;
        values = fourth.chains;
      };
    }

-- what stands goes on standing
pub bank_chains_after : (a b : List Signal) (base : Base) (bits wide own : List Held) (chains : BankRequests) → Grows a b → AreBankChains a base bits wide own chains →
    AreBankChains b base bits wide own chains
bank_chains_after a b base bits wide own chains g is = record {
  wants = chains_after a b base bits chains.wants g is.wants;
  writes = chains_after a b base bits chains.writes g is.writes;
  addresses = chains_after a b base wide chains.addresses g is.addresses;
  values = chains_after a b base own chains.values g is.values;
}

access_after : (a b : List Signal) (base : Base) (width : ℕ) (access : BankAccess) → Grows a b → StandsAccess a base width access → StandsAccess b base width access
access_after a b base width access g is = record {
  state = stands_after a b base access.state 1 g is.state;
  writes = stands_after a b base access.writes 1 g is.writes;
  address = stands_after a b base access.address 64 g is.address;
  value = stands_after a b base access.value width g is.value;
}

pub asks_none_wired : (a : List Signal) (s : Spread) (width index : ℕ) (access : BankAccess) (chains : BankRequests) → AreAsksAdded a a s width index access chains chains
asks_none_wired a s width index access chains base bits wide own is low high holds stands at power = record { wires = wires_none base a; chains = is }

pub asks_more_wired : (a b c d : List Signal) (before mid after : BankRequests) (s : Spread) (width bits index : ℕ) (access : BankAccess) (n chosen : ℕ) → n < s.count →
    (IsSmallPower s.count → 2 ^ bits ≡ s.count) → AreAsksAdded a b s width index access before mid →
    ((base : Base) → IsEarlier b base index 64 → n < 2 ^ bits → Adds base b c 1 chosen) → IsAskAdded c d (s.first + n) width access chosen mid after →
    AreAsksAdded a d s width index access before after
asks_more_wired a b c d before mid after s width bits index access n chosen less counts t u v base one wide own is low high holds stands at power =
    let so_far = t base one wide own is low high holds stands at power in
    let small : n < 2 ^ bits = (let e = counts power in omega arith) in
    let bit = u base (stands_after a b base index 64 so_far.wires.grows at) small in
    let to_c = grows_then a b c so_far.wires.grows bit.wires.grows in
    let last = v base one wide own (bank_chains_after b c base one wide own mid bit.wires.grows so_far.chains) (low (s.first + n)) (high (s.first + n)) (holds n less)
    (access_after a c base width access to_c stands) bit.stands
    in
    record { wires = wires_then base a b d so_far.wires (wires_then base b c d bit.wires last.wires); chains = last.chains }
