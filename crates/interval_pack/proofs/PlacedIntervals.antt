-- The first intervals placed, with the rows as they are at the last of their starts.
use Rattle.std.proofs.Common.{◌≡◌, ℕ, ◌<◌, ◌≤◌, ◌+◌, List, [], length, refl, arith}
use Rattle.std.specs.List.{All, Contains}
use Rattle.interval_pack.specs.declared.interval.Interval.{Interval}
use Rattle.interval_pack.specs.declared.rows.Rows.{Rows}
use Rattle.interval_pack.specs.Packing.{IsPacking}
use Rattle.interval_pack.specs.Order.{key, IsOrder}
use Rattle.interval_pack.specs.FreeRows.{AreRows, IsPlaced}
use Rattle.interval_pack.proofs.Packed.{item, sooner, Packed, start_packed, put_packed, is_packing}

pub record Placing (intervals : List Interval) (keys : List (ℕ × ℕ)) (k : ℕ) (row : List ℕ) (rows : Rows) (crowded : ℕ) : Type 0 where
  pub ends : List ℕ
  pub place : ℕ
  pub packed : Packed intervals keys k row ends crowded
  pub are : AreRows ends place rows
  pub ahead : (a : ℕ) → k ≤ a → a < length keys → place ≤ (item intervals keys a).start
  pub count : rows.count ≤ k

pub start_placing : (intervals : List Interval) (keys : List (ℕ × ℕ)) (row : List ℕ) (rows : Rows) → length row ≡ length intervals → rows.free.keys ≡ [] → rows.busy.keys ≡ []
    → rows.count ≡ 0 → Placing intervals keys 0 row rows 0
start_placing intervals keys row rows n free busy count = record {
  ends = [];
  place = 0;
  packed = start_packed intervals keys row [] n refl;
  are = record {
    count = omega (arith, count);
    free = λ r h. (let h' : Contains [] r = rw free at h in let l = h'.1 in absurd (omega arith));
    busy = λ e r h. (let h' : Contains {X = ℕ × ℕ} [] (e, r) = rw busy at h in let l = h'.1 in absurd (omega arith));
    each = λ r l. absurd (omega arith);
  };
  ahead = λ a l m. omega arith;
  count = omega arith;
}

module _ (intervals : List Interval) (keys : List (ℕ × ℕ)) (order : IsOrder intervals keys) (solid : All (λ a. a.start < a.end) intervals) where
  pub next_placing : (k : ℕ) → k < length keys → (row row' : List ℕ) (rows rows' : Rows) (crowded crowded' : ℕ) → Placing intervals keys k row rows crowded
      → IsPlaced (key keys k).1 (item intervals keys k) row rows crowded row' rows' crowded' → rows'.count ≤ rows.count + 1 → Placing intervals keys (k + 1) row' rows' crowded'
  next_placing k l row row' rows rows' crowded crowded' now placed more =
      let here : k ≤ k = omega arith in
      let put = placed now.ends now.place (now.ahead k here l) now.are in
      record {
        ends = put.0;
        place = (item intervals keys k).start;
        packed = put_packed intervals keys order solid k l row now.ends crowded now.packed row' put.0 crowded' put.1;
        are = put.2;
        ahead = λ a m within. sooner intervals keys order solid a within k (omega arith);
        count = omega (arith, now.count);
      }

  pub all_placed : (k : ℕ) → k ≡ length keys → (row : List ℕ) (rows : Rows) (crowded : ℕ) → Placing intervals keys k row rows crowded → IsPacking intervals row rows.count crowded
  all_placed k all row rows crowded now =
      let done : Packed intervals keys (length keys) row now.ends crowded = rw (← all) now.packed in
      rw (← now.are.count) (is_packing intervals keys order solid row now.ends crowded done)
