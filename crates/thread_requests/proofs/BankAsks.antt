-- What each bank is asked, by what is asked of its global: lemmas of each function that adds a part.
use Rattle.std.proofs.Common.{◌≡◌, ◌≢◌, ℕ, zero, suc, ◌+◌, ◌-◌, ◌/◌, ◌%◌, ◌^◌, ◌<◌, ◌≤◌, nat_eq, Bool, true, false, if◌then◌else◌, List, [], ◌∷◌, ◌++◌, length, take}
use Rattle.std.proofs.Common.{Some, slice_get, slice_index, refl, sym, ap, subst, ◌∙◌, arith, ⊎_elim, length-append}
use Rattle.std.specs.Prelude.{replicate}
use Rattle.std.proofs.lemmas.Bool.{cases_eq}
use Rattle.std.proofs.lemmas.Nat.{pow_pos, mod_below}
use Rattle.std.proofs.lemmas.List.{length-replicate, get_or-replicate, get_or-append-add, get_or_append_left, get_or_push, take_all}
use Rattle.std.proofs.lemmas.Option.{slice_get_within, get_or_from_slice_get, slice_get-get_or}
use Rattle.lists.proofs.Places.{get_last, get_front, get_there, copies_are}
use Rattle.planned_block.proofs.Bits.{same_is}
use Rattle.hls_ints.specs.Residues.{bit_of}
use Rattle.hls_ints.specs.Words.{word_equal}
use Rattle.bank_partition.specs.declared.banks.Spread.{Spread}
use Rattle.netlist.specs.declared.netlist.Value.TheVariants.{Select, Constant}
use Rattle.netlist.specs.declared.netlist.Signal.{Signal}
use Rattle.verilog_meaning.specs.Readings.{width, value}
use Rattle.operator_wires.specs.Gives.{Gives}
use Rattle.operator_wires.specs.Built.{Base, IsEarlier, Adds}
use Rattle.operator_wires.specs.Added.{IsAdded, ConstantAdds, NumberAdds, ChoiceAdds}
use Rattle.operator_wires.proofs.PutSignals.{grows_refl, grows_then, listed}
use Rattle.operator_wires.proofs.BuiltWires.{room_of, stands_after, wires_none, wires_then}
use Rattle.operator_wires.proofs.Bits.{chosen_by}
use Rattle.block_datapath.specs.Globals.{IsSmallPower, bank_total}
use Rattle.block_datapath.specs.declared.registers.Held.{Held}
use Rattle.block_datapath.specs.declared.requests.BankRequests.{BankRequests}
use Rattle.block_datapath.specs.Wired.{HasWidthAt, AreChains}
use Rattle.block_datapath.specs.Requests.{AddressesBank}
use Rattle.block_datapath.proofs.ConditionalChains.{equal_small}
use Rattle.block_datapath.proofs.LinkWires.{chains_after}
use Rattle.thread_requests.specs.Banks.{own_bank, AreOneEach, bank_number, IsNever, wanted_at, AreChosen, AreOwnWants, AreWants, AreAddresses}
use Rattle.thread_requests.specs.Banks.{SpreadsRequests}
use Rattle.thread_requests.specs.Early.{spread_out}
use Rattle.thread_requests.proofs.SpreadBanks.{total_next, total_within, spread_there, spread_count, spread_at}

-- ---- lists

got_split : (xs ys : List ℕ) (k y : ℕ) (P : ℕ → Type 0) → ((j : ℕ) → slice_get xs j ≡ Some y → P y) → ((j : ℕ) → slice_get ys j ≡ Some y → P y)
    → slice_get (xs ++ ys) k ≡ Some y → P y
got_split [] ys k y P front back e = back k e
got_split (x ∷ xs) ys zero y P front back e = front zero e
got_split (x ∷ xs) ys (suc k) y P front back e = got_split xs ys k y P (λ j h. front (suc j) h) back e

-- ---- one bank each

pub one_none : (l : List Spread) → l ≡ [] → AreOneEach 0 l
one_none l e = record { count = ap length e; each = λ x less. absurd (omega arith) }

pub one_more : (l after : List Spread) (n : ℕ) (own : Spread) → AreOneEach n l → own ≡ own_bank n → after ≡ l ++ own ∷ [] → AreOneEach (n + 1) after
one_more l after n own t is same = record {
  count = ap length same ∙ length-append l (own ∷ []) ∙ ap (λ k. k + 1) t.count;
  each = λ x less. ⊎_elim
      (λ (e : x ≡ n).
      ap (λ z. slice_get z x) same ∙ ap (slice_get (l ++ own ∷ [])) (e ∙ sym t.count) ∙ get_last l own ∙ ap Some (is ∙ ap own_bank (sym e)))
      (λ (ne : x ≢ n). ap (λ z. slice_get z x) same ∙ get_front l (own ∷ []) x (own_bank x) (t.each x (let h : x < n = omega arith in h)))
      (cases_eq x n);
}

-- ---- addresses

module _ (spreads : List Spread) (indices : List ℕ) where
  pub addresses_none : (a : List Signal) (l : List ℕ) → l ≡ [] → AreAddresses spreads indices a a 0 l
  addresses_none a l e = record {
    grows = grows_refl a;
    count = ap length e;
    shows = λ m r x s g o less. absurd (omega arith);
    wired = λ base stand. record { wires = wires_none base a; stand = λ k y h. absurd (let none : slice_get [] k ≡ Some y = ap (λ z. slice_get z k) (sym e) ∙ h in cc) };
  }

  pub addresses_more : (a b c : List Signal) (n index bits place : ℕ) (s : Spread) (l after : List ℕ) → AreAddresses spreads indices a b n l → slice_get spreads n ≡ Some s
      → index ≡ slice_index indices n → (IsSmallPower s.count → 2 ^ bits ≡ s.count) → AddressesBank b c index bits place
      → ((base : Base) → IsEarlier b base index 64 → Adds base b c 64 place) → after ≡ l ++ place ∷ [] → AreAddresses spreads indices a c (n + 1) after
  addresses_more a b c n index bits place s l after t here at power shows wired same = record {
    grows = grows_then a b c t.grows shows.grows;
    count = ap length same ∙ length-append l (place ∷ []) ∙ ap (λ k. k + 1) t.count;
    shows = λ m r x z g o less there small fits. ⊎_elim
        (λ (e : x ≡ n).
        let found : slice_get spreads n ≡ Some z = ap (slice_get spreads) (sym e) ∙ there in
        let own : s ≡ z = cc in
        let count : 2 ^ bits ≡ z.count = subst (λ (k : Spread). IsSmallPower k.count → 2 ^ bits ≡ k.count) own power small in
        let is : index ≡ slice_index indices x = at ∙ ap (slice_index indices) (sym e) in
        ap r.signal (ap (λ v. slice_index v x) same ∙ ap (slice_index (l ++ place ∷ [])) (e ∙ sym t.count) ∙ get_or_push l place 0 (length l) refl)
        ∙ shows.shows m r g o (subst (λ i. r.signal i < 2 ^ 64) (sym is) fits)
        ∙ ap (λ i. r.signal i / 2 ^ bits) is
        ∙ ap (λ k. r.signal (slice_index indices x) / k) count)
        (λ (ne : x ≢ n).
        let less' : x < n = omega arith in
        ap r.signal (ap (λ v. slice_index v x) same ∙ get_or_append_left l (place ∷ []) 0 x (subst (λ k. x < k) (sym t.count) less'))
        ∙ t.shows m r x z (grows_then b c m.signals shows.grows g) o less' there small fits)
        (cases_eq x n);
    wired = λ base stand.
        let first = t.wired base (λ x less. stand x (omega arith)) in
        let more : n < n + 1 = omega arith in
        let one = wired base (subst (λ i. IsEarlier b base i 64) (sym at) (stands_after a b base (slice_index indices n) 64 first.wires.grows (stand n more))) in
        record {
          wires = wires_then base a b c first.wires one.wires;
          stand = λ k y h.
              got_split l (place ∷ []) k y (λ z. IsEarlier c base z 64) (λ j e. stands_after b c base y 64 one.wires.grows (first.stand j y e))
              (λ j e. let same' : place ≡ y = last j e in subst (λ z. IsEarlier c base z 64) same' one.stands)
              (ap (λ z. slice_get z k) (sym same) ∙ h);
        };
  }
    where
      last : {y : ℕ} (j : ℕ) → slice_get (place ∷ []) j ≡ Some y → place ≡ y
      last zero e = cc
      last (suc j) e = absurd cc

-- ---- which of the banks of a global

pub chosen_none : (a : List Signal) (want last never bits : ℕ) (l : List ℕ) → l ≡ [] → AreChosen a a want last never bits 0 l
chosen_none a want last never bits l e = record {
  grows = grows_refl a;
  count = ap length e;
  shows = λ m r k g o less. absurd (omega arith);
  wired = λ base n one two three. record { wires = wires_none base a; stand = λ k y h. absurd (let none : slice_get [] k ≡ Some y = ap (λ z. slice_get z k) (sym e) ∙ h in cc) };
}

pub chosen_more : (a b c d : List Signal) (want last never bits n is place : ℕ) (l after : List ℕ) → AreChosen a b want last never bits n l
    → Gives b c is 1 (λ m r. word_equal (width m last) (r.signal last) n) → NumberAdds b c bits last n is
    → Gives c d place 1 (λ m r. if nat_eq (r.signal is) 0 then r.signal never else r.signal want) → ChoiceAdds c d 1 is want never place
    → after ≡ l ++ place ∷ [] → AreChosen a d want last never bits (n + 1) after
chosen_more a b c d want last never bits n is place l after t number number_wired choice choice_wired same = record {
  grows = grows_then a b d t.grows (grows_then b c d number.grows choice.grows);
  count = ap length same ∙ length-append l (place ∷ []) ∙ ap (λ k. k + 1) t.count;
  shows = λ m r k g o less room has.
      let to_c = grows_then c d m.signals choice.grows g in
      ⊎_elim
      (λ (e : k ≡ n).
      let bit : r.signal is ≡ bit_of (nat_eq (r.signal last) n) = number.shows m r to_c o ∙ equal_small (width m last) bits (r.signal last) n has.wide has.fits (omega arith) in
      ap r.signal (ap (λ v. slice_index v k) same ∙ ap (slice_index (l ++ place ∷ [])) (e ∙ sym t.count) ∙ get_or_push l place 0 (length l) refl)
      ∙ choice.shows m r g o
      ∙ ap (λ i. if nat_eq i 0 then r.signal never else r.signal want) bit
      ∙ chosen_by (nat_eq (r.signal last) n) (r.signal want) (r.signal never)
      ∙ ap (λ j. if nat_eq (r.signal last) j then r.signal want else r.signal never) (sym e))
      (λ (ne : k ≢ n).
      let less' : k < n = omega arith in
      ap r.signal (ap (λ v. slice_index v k) same ∙ get_or_append_left l (place ∷ []) 0 k (subst (λ j. k < j) (sym t.count) less'))
      ∙ t.shows m r k (grows_then b c m.signals number.grows to_c) o less' (omega arith) has)
      (cases_eq k n);
  wired = λ base room one two three.
      let first = t.wired base (omega arith) one two three in
      let bit = number_wired base (stands_after a b base last bits first.wires.grows one) (omega arith) in
      let to_c = grows_then a b c first.wires.grows bit.wires.grows in
      let last' = choice_wired base bit.stands (stands_after a c base want 1 to_c two) (stands_after a c base never 1 to_c three) in
      record {
        wires = wires_then base a b d first.wires (wires_then base b c d bit.wires last'.wires);
        stand = λ j y h.
            got_split l (place ∷ []) j y (λ z. IsEarlier d base z 1)
            (λ i e. stands_after b d base y 1 (grows_then b c d bit.wires.grows last'.wires.grows) (first.stand i y e))
            (λ i e. let same' : place ≡ y = single i e in subst (λ z. IsEarlier d base z 1) same' last'.stands)
            (ap (λ z. slice_get z j) (sym same) ∙ h);
      };
}
  where
    single : {y : ℕ} (j : ℕ) → slice_get (place ∷ []) j ≡ Some y → place ≡ y
    single zero e = cc
    single (suc j) e = absurd cc

-- ---- the banks of one global

small_power : (bits count : ℕ) → bits ≡ 0 → (IsSmallPower count → 2 ^ bits ≡ count) → IsSmallPower count → count ≡ 1
small_power bits count none power small = sym (power small) ∙ ap (λ b. 2 ^ b) none

-- there is nothing to choose where there is one bank
pub one_wanted : (a : List Signal) (want index bits count : ℕ) (l : List ℕ) → bits ≡ 0 → (IsSmallPower count → 2 ^ bits ≡ count) → l ≡ replicate count want
    → AreOwnWants a a want index count l
one_wanted a want index bits count l none power same = record {
  grows = grows_refl a;
  many = ap length same ∙ length-replicate count want;
  shows = λ m r k g o small less.
      let one : count ≡ 1 = small_power bits count none power small in
      ap r.signal (ap (λ v. slice_index v k) same ∙ get_or-replicate count k want 0 less)
      ∙ sym (ap (λ c. if nat_eq (r.signal index % c) k then r.signal want else 0) one
      ∙ ap (λ z. if z then r.signal want else 0) (same_is (r.signal index % 1) k (let e : r.signal index % 1 ≡ k = omega arith in e)));
  wired = λ base small stand index_stands. record {
    wires = wires_none base a;
    stand = λ k y h. let e : want ≡ y = sym (copies_are count want k y (ap (λ z. slice_get z k) (sym same) ∙ h)) in subst (λ z. IsEarlier a base z 1) e stand;
  };
}

-- nor where none is ever wanted
pub never_wanted : (a : List Signal) (want index count : ℕ) (l : List ℕ) → IsNever a want → l ≡ replicate count want → AreOwnWants a a want index count l
never_wanted a want index count l never same = record {
  grows = grows_refl a;
  many = ap length same ∙ length-replicate count want;
  shows = λ m r k g o small less.
      let zero_now : r.signal want ≡ 0 = o.equations want never.signal (Constant 0) (listed a m.signals want never.signal g never.listed) never.is in
      ap r.signal (ap (λ v. slice_index v k) same ∙ get_or-replicate count k want 0 less)
      ∙ zero_now
      ∙ sym (ap (λ z. if nat_eq (r.signal index % count) k then z else 0) zero_now ∙ either_zero (nat_eq (r.signal index % count) k));
  wired = λ base small stand index_stands. record {
    wires = wires_none base a;
    stand = λ k y h. let e : want ≡ y = sym (copies_are count want k y (ap (λ z. slice_get z k) (sym same) ∙ h)) in subst (λ z. IsEarlier a base z 1) e stand;
  };
}
  where
    either_zero : (t : Bool) → ◌≡◌ {A = ℕ} (if t then 0 else 0) 0
    either_zero true = refl
    either_zero false = refl

select_last : (i bits : ℕ) → 1 ≤ bits → bits ≤ 3 → (i / 2 ^ 0) % 2 ^ (bits - 1 + 1 - 0) ≡ i % 2 ^ bits
select_last i zero l h = absurd (omega arith)
select_last i (suc zero) l h = let e : (i / 1) % 2 ≡ i % 2 = omega arith in e
select_last i (suc (suc zero)) l h = let e : (i / 1) % 4 ≡ i % 4 = omega arith in e
select_last i (suc (suc (suc zero))) l h = let e : (i / 1) % 8 ≡ i % 8 = omega arith in e
select_last i (suc (suc (suc (suc b)))) l h = absurd (omega arith)

pub banks_chosen : (a b c d : List Signal) (want index last never bits count : ℕ) (l : List ℕ) → 1 ≤ bits → bits ≤ 3 → (IsSmallPower count → 2 ^ bits ≡ count)
    → Gives a b last bits (λ m r. value m r (Select index (bits - 1) 0)) → IsAdded a b bits (Select index (bits - 1) 0) last
    → Gives b c never 1 (λ m r. 0) → ConstantAdds b c 1 0 never → AreChosen c d want last never bits count l → AreOwnWants a d want index count l
banks_chosen a b c d want index last never bits count l low high power last_gives last_wired never_gives never_wired t = record {
  grows = grows_then a b d last_gives.grows (grows_then b c d never_gives.grows t.grows);
  many = t.count;
  shows = λ m r k g o small less.
      let e = power small in
      let to_c = grows_then c d m.signals t.grows g in
      let to_b = grows_then b c m.signals never_gives.grows to_c in
      let is : r.signal last ≡ r.signal index % 2 ^ bits = last_gives.shows m r to_b o ∙ select_last (r.signal index) bits low high in
      let fits : r.signal last < 2 ^ bits = subst (λ n. n < 2 ^ bits) (sym is) (mod_below (r.signal index) (2 ^ bits) (pow_pos bits)) in
      t.shows m r k g o less (omega arith) (record { wide = last_gives.wide m to_b; fits = fits })
      ∙ ap (λ n. if nat_eq n k then r.signal want else r.signal never) is
      ∙ ap (λ n. if nat_eq (r.signal index % 2 ^ bits) k then r.signal want else n) (never_gives.shows m r to_c o)
      ∙ ap (λ n. if nat_eq (r.signal index % n) k then r.signal want else 0) e;
  wired = λ base small want_stands index_stands.
      let e = power small in
      let first = last_wired base (record {
        room = room_of a base index 64 index_stands;
        low = low;
        high = omega arith;
        fits = (omega arith, omega arith, (64, index_stands, omega arith));
        selects = (64, index_stands, omega arith);
      }) in
      let none = never_wired base (room_of b base last bits first.stands) (omega arith) (omega arith) (omega arith) in
      let to_c = grows_then a b c first.wires.grows none.wires.grows in
      let rest = t.wired base (omega arith) (stands_after b c base last bits none.wires.grows first.stands) (stands_after a c base want 1 to_c want_stands) none.stands in
      record { wires = wires_then base a b d first.wires (wires_then base b c d none.wires rest.wires); stand = rest.stand };
}

-- ---- global by global

module _ (spreads : List Spread) (wants indices : List ℕ) where
  pub wants_none : (a : List Signal) (l : List ℕ) → l ≡ [] → AreWants spreads wants indices a a 0 l
  wants_none a l e = record {
    grows = grows_refl a;
    count = ap length e;
    shows = λ m r x k s g o less. absurd (omega arith);
    wired = λ base powers one two. record { wires = wires_none base a; stand = λ k y h. absurd (let none : slice_get [] k ≡ Some y = ap (λ z. slice_get z k) (sym e) ∙ h in cc) };
  }

  pub wants_more : (a b c : List Signal) (n want index : ℕ) (s : Spread) (l own after : List ℕ) → AreWants spreads wants indices a b n l → slice_get spreads n ≡ Some s
      → want ≡ slice_index wants n → index ≡ slice_index indices n → AreOwnWants b c want index s.count own → after ≡ l ++ own → AreWants spreads wants indices a c (n + 1) after
  wants_more a b c n want index s l own after t here want_at index_at u same = record {
    grows = grows_then a b c t.grows u.grows;
    count = ap length same ∙ length-append l own ∙ ap (λ k. k + length own) t.count ∙ ap (λ k. bank_total (take n spreads) + k) u.many ∙ sym (total_next spreads n s here);
    shows = λ m r x k z g o less there small under. ⊎_elim
        (λ (e : x ≡ n).
        let found : slice_get spreads n ≡ Some z = ap (slice_get spreads) (sym e) ∙ there in
        let mine : s ≡ z = cc in
        let count : s.count ≡ z.count = ap (λ (q : Spread). q.count) mine in
        let at : bank_number spreads x k ≡ length l + k = ap (λ i. bank_number spreads i k) e ∙ ap (λ i. i + k) (sym t.count) in
        ap r.signal (ap (λ v. slice_index v (bank_number spreads x k)) same ∙ ap (slice_index (l ++ own)) at ∙ get_or-append-add l own k 0)
        ∙ u.shows m r k g o (subst IsSmallPower (sym count) small) (omega arith)
        ∙ ap (λ i. wanted_at s.count (r.signal i) (r.signal want) k) (index_at ∙ ap (slice_index indices) (sym e))
        ∙ ap (λ i. wanted_at s.count (r.signal (slice_index indices x)) (r.signal i) k) (want_at ∙ ap (slice_index wants) (sym e))
        ∙ ap (λ i. wanted_at i (r.signal (slice_index indices x)) (r.signal (slice_index wants x)) k) count)
        (λ (ne : x ≢ n).
        let less' : x < n = omega arith in
        let inside : bank_number spreads x k < length l = subst (λ i. bank_number spreads x k < i) (sym t.count) (total_within spreads x n k z there less' under) in
        ap r.signal (ap (λ v. slice_index v (bank_number spreads x k)) same ∙ get_or_append_left l own 0 (bank_number spreads x k) inside)
        ∙ t.shows m r x k z (grows_then b c m.signals u.grows g) o less' there small under)
        (cases_eq x n);
    wired = λ base powers one two.
        let first = t.wired base powers (λ x less. one x (omega arith)) (λ x less. two x (omega arith)) in
        let more : n < n + 1 = omega arith in
        let next = u.wired base (powers n s here) (subst (λ i. IsEarlier b base i 1) (sym want_at) (stands_after a b base (slice_index wants n) 1 first.wires.grows (one n more)))
        (subst (λ i. IsEarlier b base i 64) (sym index_at) (stands_after a b base (slice_index indices n) 64 first.wires.grows (two n more))) in
        record {
          wires = wires_then base a b c first.wires next.wires;
          stand = λ k y h.
              got_split l own k y (λ z. IsEarlier c base z 1) (λ j e. stands_after b c base y 1 next.wires.grows (first.stand j y e)) (λ j e. next.stand j y e)
              (ap (λ z. slice_get z k) (sym same) ∙ h);
        };
  }

-- ---- all of it

-- link k of chains of one width
chain_at : (a : List Signal) (base : Base) (hs : List Held) (ys : List ℕ) (k w : ℕ) → AreChains a base hs ys → k < length ys → HasWidthAt hs k w
    → IsEarlier a base (slice_index ys k) w
chain_at a base hs ys k w chains less wide =
    let h = get_there hs k (subst (λ z. k < z) chains.count less) in
    subst (λ z. IsEarlier a base (slice_index ys k) z) (wide h.0 h.1) (chains.each k (slice_index ys k) h.0 h.1 (slice_get-get_or ys k 0 less))

-- places of one width
places_chains : (a : List Signal) (base : Base) (all : List Held) (banks : List ℕ) (w : ℕ) → ((k y : ℕ) → slice_get banks k ≡ Some y → IsEarlier a base y w)
    → length banks ≡ length all → ((k : ℕ) → HasWidthAt all k w) → AreChains a base all banks
places_chains a base all banks w stand count wide = record {
  count = count;
  each = λ j y h there got. subst (λ z. IsEarlier a base y z) (sym (wide j h there)) (stand j y got);
}

module _ (spreads : List Spread) where
  -- what a bank has of its global
  spread_index : (values all : List ℕ) (x k : ℕ) (s : Spread) → length values ≡ length spreads → all ≡ spread_out spreads values → slice_get spreads x ≡ Some s → k < s.count
      → slice_index all (bank_number spreads x k) ≡ slice_index values x
  spread_index values all x k s count is there less =
      let inside : x < length values = subst (λ n. x < n) (sym count) (slice_get_within spreads x s there) in
      get_or_from_slice_get all (bank_number spreads x k) (slice_index values x)
      0 (ap (λ l. slice_get l (bank_number spreads x k)) is ∙ spread_there spreads values x k (slice_index values x) s there (slice_get-get_or values x 0 inside) less)

  -- links of globals, spread to their banks
  spread_chains : (a : List Signal) (base : Base) (hs all : List Held) (values banks : List ℕ) → AreChains a base hs values → length values ≡ length spreads
      → banks ≡ spread_out spreads values → length all ≡ bank_total spreads
      → ((x k : ℕ) (s : Spread) (g : Held) → slice_get spreads x ≡ Some s → k < s.count → slice_get hs x ≡ Some g → HasWidthAt all (bank_number spreads x k) g.width)
      → AreChains a base all banks
  spread_chains a base hs all values banks chains count is total wide = record {
    count = ap length is ∙ spread_count spreads values count ∙ sym total;
    each = λ j y h there got.
        let from = spread_at spreads values j y (ap (λ l. slice_get l j) (sym is) ∙ got) in
        let g = get_there hs from.global (subst (λ n. from.global < n) chains.count (slice_get_within values from.global y from.value)) in
        let same : h.width ≡ g.0.width = wide from.global from.number from.spread g.0 from.listed from.below g.1 h (ap (slice_get all) (sym from.at) ∙ there) in
        subst (λ w. IsEarlier a base y w) (sym same) (chains.each from.global y g.0 g.1 from.value);
  }

  same_widths : (hs all : List Held) (w : ℕ) → ((k : ℕ) → HasWidthAt hs k w) → ((k : ℕ) → HasWidthAt all k w) → (x k : ℕ) (s : Spread) (g : Held)
      → slice_get spreads x ≡ Some s → k < s.count → slice_get hs x ≡ Some g → HasWidthAt all (bank_number spreads x k) g.width
  same_widths hs all w one two x k s g there less got h listed = two (bank_number spreads x k) h listed ∙ sym (one x g got)

  pub requests_spread : (a b c : List Signal) (whole banks : BankRequests) (words : List ℕ) → AreAddresses spreads whole.addresses a b (length spreads) words
      → AreWants spreads whole.wants whole.addresses b c (length spreads) banks.wants → banks.writes ≡ spread_out spreads whole.writes → banks.addresses ≡ spread_out spreads words
      → banks.values ≡ spread_out spreads whole.values → SpreadsRequests spreads a c whole banks
  requests_spread a b c whole banks words t u writes addresses values = record {
    grows = grows_then a b c t.grows u.grows;
    many = λ is. record {
      wants = wants_count;
      writes = ap length writes ∙ spread_count spreads whole.writes is.writes;
      addresses = ap length addresses ∙ spread_count spreads words t.count;
      values = ap length values ∙ spread_count spreads whole.values is.values;
    };
    wants = λ m r x k s g o there small less. u.shows m r x k s g o (slice_get_within spreads x s there) there small less;
    writes = λ x k s is there less. spread_index whole.writes banks.writes x k s is.writes writes there less;
    addresses = λ m r x k s g o is there small less fits.
        ap r.signal (spread_index words banks.addresses x k s t.count addresses there less)
        ∙ t.shows m r x s (grows_then b c m.signals u.grows g) o (slice_get_within spreads x s there) there small fits;
    values = λ x k s is there less. spread_index whole.values banks.values x k s is.values values there less;
    wired = λ base bits wide own all_bits all_wide all_own is chains powers one sixty spread.
        let index_stands : (x : ℕ) → x < length spreads → IsEarlier a base (slice_index whole.addresses x) 64 =
        λ x less. chain_at a base wide whole.addresses x 64 chains.addresses (subst (λ n. x < n) (sym is.addresses) less) (sixty x) in
        let first = t.wired base index_stands in
        let second =
        u.wired base powers
        (λ x less. stands_after a b base (slice_index whole.wants x) 1 first.wires.grows
        (chain_at a base bits whole.wants x 1 chains.wants (subst (λ n. x < n) (sym is.wants) less) (one x)))
        (λ x less. stands_after a b base (slice_index whole.addresses x) 64 first.wires.grows (index_stands x less)) in
        let to_c = grows_then a b c first.wires.grows second.wires.grows in
        record {
          wires = wires_then base a b c first.wires second.wires;
          chains = record {
            wants = places_chains c base all_bits banks.wants 1 second.stand (wants_count ∙ sym spread.bit_count) spread.bits;
            writes = chains_after a c base all_bits banks.writes to_c
                (spread_chains a base bits all_bits whole.writes banks.writes chains.writes is.writes writes spread.bit_count (same_widths bits all_bits 1 one spread.bits));
            addresses = places_chains c base all_wide banks.addresses 64 (λ k y got.
                let from = spread_at spreads words k y (ap (λ l. slice_get l k) (sym addresses) ∙ got) in
                stands_after b c base y 64 second.wires.grows (first.stand from.global y from.value))
                (ap length addresses ∙ spread_count spreads words t.count ∙ sym spread.wide_count) spread.wide;
            values = chains_after a c base all_own banks.values to_c
                (spread_chains a base own all_own whole.values banks.values chains.values is.values values spread.own_count spread.own_wide);
          };
        };
  }
    where
      wants_count : length banks.wants ≡ bank_total spreads
      wants_count = u.count ∙ ap bank_total (take_all (length spreads) spreads (omega arith))
