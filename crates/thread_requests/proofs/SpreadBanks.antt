-- For each bank what its global has.
use Rattle.std.proofs.Common.{◌≡◌, ℕ, zero, suc, ◌+◌, ◌-◌, ◌<◌, ◌≤◌, List, [], ◌∷◌, ◌++◌, length, take, Option, Some, refl, sym, ap, ◌∙◌, arith, ⊎_elim, length-append}
use Rattle.std.proofs.Common.{append_assoc, add-one}
use Rattle.std.specs.Prelude.{replicate, slice_get}
use Rattle.std.proofs.lemmas.Bool.{cases_lt}
use Rattle.std.proofs.lemmas.List.{append-nil, length-replicate}
use Rattle.lists.proofs.Places.{copies_front}
use Rattle.bank_partition.specs.declared.banks.Spread.{Spread}
use Rattle.block_datapath.specs.Globals.{bank_total}
use Rattle.block_datapath.proofs.BankTotal.{total_cons}
use Rattle.thread_requests.specs.Early.{copies_of, spread_out}

-- of one more global
pub spread_next : (spreads : List Spread) (values : List ℕ) (n : ℕ) (s : Spread) → slice_get spreads n ≡ Some s
    → spread_out (take (suc n) spreads) values ≡ spread_out (take n spreads) values ++ copies_of s.count (slice_get values n)
spread_next [] values n s listed = absurd cc
spread_next (t ∷ spreads) [] zero s listed = refl
spread_next (t ∷ spreads) (v ∷ values) zero s listed = let same : t ≡ s = cc in append-nil (replicate t.count v) ∙ ap (λ (z : Spread). replicate z.count v) same
spread_next (t ∷ spreads) [] (suc n) s listed = refl
spread_next (t ∷ spreads) (v ∷ values) (suc n) s listed =
    ap (λ l. replicate t.count v ++ l) (spread_next spreads values n s listed)
    ∙ sym (append_assoc (replicate t.count v) (spread_out (take n spreads) values) (copies_of s.count (slice_get values n)))

pub spread_more : (before after : List ℕ) (spreads : List Spread) (values : List ℕ) (n : ℕ) (s : Spread) (v : Option ℕ) (copies : List ℕ) →
    before ≡ spread_out (take n spreads) values
    → slice_get spreads n ≡ Some s → v ≡ slice_get values n → copies ≡ copies_of s.count v → after ≡ before ++ copies → after ≡ spread_out (take (n + 1) spreads) values
spread_more before after spreads values n s v copies e listed at made same =
    same ∙ ap (λ l. l ++ copies) e ∙ ap (λ l. spread_out (take n spreads) values ++ l) (made ∙ ap (copies_of s.count) at) ∙ sym (spread_next spreads values n s listed)
    ∙ ap (λ k. spread_out (take k spreads) values) (sym (add-one n))

-- ---- where they stand

past_first : (n v k : ℕ) (rest : List ℕ) → slice_get (replicate n v ++ rest) (n + k) ≡ slice_get rest k
past_first zero v k rest = ap (slice_get rest) (let e : 0 + k ≡ k = omega arith in e)
past_first (suc n) v k rest = ap (slice_get (v ∷ replicate n v ++ rest)) (let e : suc n + k ≡ suc (n + k) = omega arith in e) ∙ past_first n v k rest

-- bank k of a global
pub spread_there : (spreads : List Spread) (values : List ℕ) (x k v : ℕ) (s : Spread) → slice_get spreads x ≡ Some s → slice_get values x ≡ Some v → k < s.count
    → slice_get (spread_out spreads values) (bank_total (take x spreads) + k) ≡ Some v
spread_there [] values x k v s listed there less = absurd cc
spread_there (t ∷ spreads) [] x k v s listed there less = absurd cc
spread_there (t ∷ spreads) (w ∷ values) zero k v s listed there less =
    let same : t ≡ s = cc in
    let one : w ≡ v = cc in
    let count : t.count ≡ s.count = ap (λ (z : Spread). z.count) same in
    ap (slice_get (replicate t.count w ++ spread_out spreads values)) (let e : 0 + k ≡ k = omega arith in e)
    ∙ copies_front t.count k w (spread_out spreads values) (omega arith)
    ∙ ap Some one
spread_there (t ∷ spreads) (w ∷ values) (suc x) k v s listed there less =
    let at : bank_total (t ∷ take x spreads) + k ≡ t.count + (bank_total (take x spreads) + k) = (let c = total_cons t (take x spreads) in omega arith) in
    ap (slice_get (replicate t.count w ++ spread_out spreads values)) at
    ∙ past_first t.count w (bank_total (take x spreads) + k) (spread_out spreads values)
    ∙ spread_there spreads values x k v s listed there less

pub spread_count : (spreads : List Spread) (values : List ℕ) → length values ≡ length spreads → length (spread_out spreads values) ≡ bank_total spreads
spread_count [] values e = refl
spread_count (s ∷ spreads) [] e = absurd cc
spread_count (s ∷ spreads) (v ∷ values) e =
    length-append (replicate s.count v) (spread_out spreads values)
    ∙ ap (λ n. n + length (spread_out spreads values)) (length-replicate s.count v)
    ∙ ap (λ n. s.count + n) (spread_count spreads values (let same : length values ≡ length spreads = omega arith in same))
    ∙ sym (total_cons s spreads)

-- whatever stands there is one of these
pub spread_from : (spreads : List Spread) (values : List ℕ) (k y : ℕ) → slice_get (spread_out spreads values) k ≡ Some y → (x : ℕ) × (slice_get values x ≡ Some y)
spread_from [] values k y e = absurd cc
spread_from (s ∷ spreads) [] k y e = absurd cc
spread_from (s ∷ spreads) (v ∷ values) k y e = by s.count k e (λ j h. spread_from spreads values j y h)
  where
    by : (n k : ℕ) → slice_get (replicate n v ++ spread_out spreads values) k ≡ Some y
        → ((j : ℕ) → slice_get (spread_out spreads values) j ≡ Some y → (x : ℕ) × (slice_get values x ≡ Some y)) → (x : ℕ) × (slice_get (v ∷ values) x ≡ Some y)
    by zero k e rest = let f = rest k e in (suc f.0, f.1)
    by (suc n) zero e rest = (0, e)
    by (suc n) (suc k) e rest = by n k e rest

-- with one more global there are its banks more
total_after : (spreads : List Spread) (n : ℕ) (s : Spread) → slice_get spreads n ≡ Some s → bank_total (take (suc n) spreads) ≡ bank_total (take n spreads) + s.count
total_after [] n s e = absurd cc
total_after (t ∷ spreads) zero s e =
    let same : t ≡ s = cc in
    let count : t.count ≡ s.count = ap (λ (z : Spread). z.count) same in
    let none : bank_total [] ≡ 0 = refl in
    let all = total_cons t [] in
    omega arith
total_after (t ∷ spreads) (suc n) s e =
    let rest = total_after spreads n s e in
    let one = total_cons t (take (suc n) spreads) in
    let two = total_cons t (take n spreads) in
    omega arith

pub total_next : (spreads : List Spread) (n : ℕ) (s : Spread) → slice_get spreads n ≡ Some s → bank_total (take (n + 1) spreads) ≡ bank_total (take n spreads) + s.count
total_next spreads n s e = ap (λ k. bank_total (take k spreads)) (add-one n) ∙ total_after spreads n s e

-- a bank of an earlier global stands before all banks of a later one
pub total_within : (spreads : List Spread) (x n k : ℕ) (s : Spread) → slice_get spreads x ≡ Some s → x < n → k < s.count
    → bank_total (take x spreads) + k < bank_total (take n spreads)
total_within [] x n k s e lt less = absurd cc
total_within (t ∷ spreads) x zero k s e lt less = absurd (omega arith)
total_within (t ∷ spreads) zero (suc n) k s e lt less =
    let same : t ≡ s = cc in
    let count : t.count ≡ s.count = ap (λ (z : Spread). z.count) same in
    let none : bank_total [] ≡ 0 = refl in
    let all = total_cons t (take n spreads) in
    omega arith
total_within (t ∷ spreads) (suc x) (suc n) k s e lt less =
    let rest = total_within spreads x n k s e (omega arith) less in
    let one = total_cons t (take x spreads) in
    let two = total_cons t (take n spreads) in
    omega arith

-- what stands at a number is that of the global of a bank
pub record IsSpreadAt (spreads : List Spread) (values : List ℕ) (k y : ℕ) : Type 0 where
  pub global : ℕ
  pub number : ℕ
  pub spread : Spread
  pub listed : slice_get spreads global ≡ Some spread
  pub below : number < spread.count
  pub value : slice_get values global ≡ Some y
  pub at : k ≡ bank_total (take global spreads) + number

pub spread_at : (spreads : List Spread) (values : List ℕ) (k y : ℕ) → slice_get (spread_out spreads values) k ≡ Some y → IsSpreadAt spreads values k y
spread_at [] values k y e = absurd cc
spread_at (s ∷ spreads) [] k y e = absurd cc
spread_at (s ∷ spreads) (v ∷ values) k y e =
    ⊎_elim
    (λ (less : k < s.count).
    let here = copies_front s.count k v (spread_out spreads values) less in
    let none : bank_total [] ≡ 0 = refl in
    let same : v ≡ y = cc in
    record {
      global = 0;
      number = k;
      spread = s;
      listed = refl;
      below = less;
      value = ap Some same;
      at = (let z : k ≡ bank_total [] + k = omega arith in z);
    })
    (λ (le : s.count ≤ k).
    let past : k ≡ s.count + (k - s.count) = omega arith in
    let rest = spread_at spreads values (k - s.count) y
    (sym (past_first s.count v (k - s.count) (spread_out spreads values)) ∙ ap (slice_get (replicate s.count v ++ spread_out spreads values)) (sym past) ∙ e) in
    let behind = rest.at in
    let all = total_cons s (take rest.global spreads) in
    record {
      global = suc rest.global;
      number = rest.number;
      spread = rest.spread;
      listed = rest.listed;
      below = rest.below;
      value = rest.value;
      at = (let z : k ≡ bank_total (s ∷ take rest.global spreads) + rest.number = omega arith in z);
    })
    (cases_lt k s.count)
