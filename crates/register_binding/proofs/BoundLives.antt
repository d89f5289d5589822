-- The lives of values, packed.
use Rattle.std.proofs.Common.{◌≡◌, ℕ, zero, suc, ◌<◌, ◌≤◌, List, length, Bool, true, false, nat_lt, if◌then◌else◌, Option, Some, None, refl, ap}
use Rattle.std.proofs.Common.{sym, ◌∙◌, ◌⊎◌, inl, inr, arith}
use Rattle.std.specs.Prelude.{slice_index, max}
use Rattle.std.specs.List.{count_by, range_with_len}
use Rattle.std.proofs.lemmas.Bool.{cases_lt, lt-ltb}
use Rattle.std.proofs.lemmas.List.{ext_get_or}
use Rattle.interval_pack.specs.declared.interval.Interval.{Interval}
use Rattle.interval_pack.specs.LeftEdge.{IsBefore}
use Rattle.interval_pack.specs.Packing.{at, start_of, crowd_at}
use Rattle.interval_pack.proofs.Counts.{holds}
use Rattle.interval_pack.proofs.Unique.{same_numbers}
use Rattle.interval_pack.specs.Sparse.{Share, IsSparsePacking}
use Rattle.interval_pack.proofs.ChosenIntervals.{crowd-counted, count-same}
use Rattle.op_graph.specs.declared.node.Node.{Node}
use Rattle.op_graph.specs.Graph.{node, done}
use Rattle.register_binding.specs.Registers.{needed_to, uses_value, life_end, Lives, LiveTogether, lives_at, live_at, register_at, number, AreRegisters, RegistersBelow}
use Rattle.register_binding.specs.Registers.{AreCrowded, RegistersAgree}
use Rattle.register_binding.specs.Steps.{AreLives, AreRows}

false_lt : (a b : ℕ) → (a < b → ⊥) → nat_lt a b ≡ false
false_lt a b n = grind arith

needed_alike : (nodes : List Node) (starts : List ℕ) (f g : ℕ → Bool) (i : ℕ) → f i ≡ g i → (k : ℕ) → needed_to nodes starts f i k ≡ needed_to nodes starts g i k
needed_alike nodes starts f g i same zero = ap (λ (b : Bool). if b then slice_index starts (length nodes) else 0) same
needed_alike nodes starts f g i same (suc k) = ap (λ (z : ℕ). max (if uses_value (node nodes k) i then done nodes starts k else 0) z) (needed_alike nodes starts f g i same k)

-- the same values used at the end, the same lives
pub lives_alike : (nodes : List Node) (starts : List ℕ) (f g : ℕ → Bool) (lives : List Interval) → AreLives nodes starts f lives → ((i : ℕ) → i < length nodes → f i ≡ g i) →
    AreLives nodes starts g lives
lives_alike nodes starts f g lives are same = record {
  count = are.count;
  each = λ i l. are.each i l ∙ ap (λ (z : ℕ). let x : Interval = record { start = done nodes starts i; end = z } in x) (needed_alike nodes starts f g i (same i l)
      (length nodes));
}

module _ (nodes : List Node) (starts : List ℕ) (at_end : ℕ → Bool) (lives : List Interval) (are : AreLives nodes starts at_end lives) where
  abbrev n : ℕ
  n = length nodes

  start_is : (i : ℕ) → i < n → start_of lives i ≡ done nodes starts i
  start_is i l = ap (λ (x : Interval). x.start) (are.each i l)

  end_is : (i : ℕ) → i < n → (at lives i).end ≡ life_end nodes starts at_end i
  end_is i l = ap (λ (x : Interval). x.end) (are.each i l)

  before_in : (i j : ℕ) → i < n → j < n → IsBefore (done nodes starts) i j → IsBefore (start_of lives) i j
  before_in i j li lj (inl h) = let a = start_is i li in let b = start_is j lj in inl (omega arith)
  before_in i j li lj (inr h) = let a = start_is i li in let b = start_is j lj in let e = h.0 in inr (omega arith, h.1)

  before_out : (i j : ℕ) → i < n → j < n → IsBefore (start_of lives) i j → IsBefore (done nodes starts) i j
  before_out i j li lj (inl h) = let a = start_is i li in let b = start_is j lj in inl (omega arith)
  before_out i j li lj (inr h) = let a = start_is i li in let b = start_is j lj in let e = h.0 in inr (omega arith, h.1)

  share_in : (i j : ℕ) → i < n → j < n → LiveTogether nodes starts at_end i j → Share lives i j
  share_in i j li lj t =
      let a = start_is i li in
      let b = start_is j lj in
      let c = end_is i li in
      let d = end_is j lj in
      (omega (arith, t.0), omega (arith, t.1), (omega (arith, t.2), omega (arith, t.3)))

  share_out : (i j : ℕ) → i < n → j < n → Share lives i j → LiveTogether nodes starts at_end i j
  share_out i j li lj t =
      let a = start_is i li in
      let b = start_is j lj in
      let c = end_is i li in
      let d = end_is j lj in
      (omega (arith, t.0), omega (arith, t.1), omega (arith, t.2.0), omega (arith, t.2.1))

  module _ (row : List ℕ) (rows crowded : ℕ) (packing : IsSparsePacking lives row rows crowded) where
    live_is : (p : ℕ) → crowd_at lives p ≡ live_at nodes starts at_end p
    live_is p =
        let c = crowd-counted lives p in
        let m = ap (λ (k : ℕ). count_by (λ (i : ℕ). holds p (at lives i)) (range_with_len 0 k)) are.count in
        let s = count-same (λ i. holds p (at lives i)) (lives_at nodes starts at_end p) n (λ i l. ap (holds p) (are.each i l)) in
        c ∙ (m ∙ s)

    pub are_crowded : AreCrowded nodes starts at_end rows crowded
    are_crowded = record {
      most = λ p. let m = packing.most p in let e = live_is p in omega arith;
      crowd = sym (live_is crowded) ∙ packing.crowd;
      first = λ p l. let m = packing.first p l in let e = live_is p in omega arith;
    }

    module _ (registers : List (Option ℕ)) (given : AreRows lives row registers) where
      within : (i : ℕ) → i < n → i < length lives
      within i l = let c = are.count in omega arith

      alive : (i : ℕ) → i < n → Lives nodes starts at_end i → register_at registers i ≡ Some (slice_index row i)
      alive i l h =
          let a = start_is i l in
          let b = end_is i l in
          let t = lt-ltb (at lives i).start (at lives i).end (omega arith) in
          given.each i (within i l) ∙ ap (λ (b : Bool). if b then Some (slice_index row i) else None) t

      dead : (i : ℕ) → i < n → (Lives nodes starts at_end i → ⊥) → register_at registers i ≡ None
      dead i l h =
          let a = start_is i l in
          let b = end_is i l in
          let t = false_lt (at lives i).start (at lives i).end (λ k. h (omega arith)) in
          given.each i (within i l) ∙ ap (λ (b : Bool). if b then Some (slice_index row i) else None) t

      numbered : (i : ℕ) → i < n → Lives nodes starts at_end i → number (register_at registers i) ≡ slice_index row i
      numbered i l h = ap number (alive i l h)

      abbrev HasIt : ℕ → ℕ → Type 0
      HasIt j r = (i : ℕ) × (i < n) × IsBefore (done nodes starts) i j × LiveTogether nodes starts at_end i j × (number (register_at registers i) ≡ r)

      least : (j r : ℕ) → j < n → r < number (register_at registers j) →
          (done nodes starts j < life_end nodes starts at_end j) ⊎ (life_end nodes starts at_end j ≤ done nodes starts j) → HasIt j r
      least j r lj lt (inl h) =
          let e = numbered j lj h in
          let w = packing.packed.least j r (within j lj) (omega arith) in
          let li : w.0 < n = omega (arith, are.count, w.1) in
          let t = share_out w.0 j li lj w.3 in
          (w.0, li, before_out w.0 j li lj w.2, t, numbered w.0 li t.0 ∙ w.4)
      least j r lj lt (inr h) =
          let e : number (register_at registers j) ≡ 0 = ap number (dead j lj (λ k. omega arith)) in
          absurd (omega arith)

      below_if : (b : Bool) (i r : ℕ) → i < length lives → nat_lt (at lives i).start (at lives i).end ≡ b → (if b then Some (slice_index row i) else None) ≡ Some r → r < rows
      below_if true i r l t e =
          let same : slice_index row i ≡ r = cc in
          let h : (at lives i).start < (at lives i).end = grind arith in
          let b = packing.below i l h in
          omega arith
      below_if false i r l t e = absurd cc

      pub registers_below : RegistersBelow registers rows
      registers_below i r l e =
          let c = given.count in
          let w : i < length lives = omega arith in
          below_if (nat_lt (at lives i).start (at lives i).end) i r w refl (sym (given.each i w) ∙ e)

      pub are_registers : AreRegisters nodes starts at_end registers
      are_registers = record {
        count = given.count ∙ are.count;
        kept = λ i l h. (slice_index row i, alive i l h);
        unkept = dead;
        packed = record {
          apart = λ i j li lj before t.
              let ne = packing.packed.apart i j (within i li) (within j lj) (before_in i j li lj before) (share_in i j li lj t) in
              λ e. ne (sym (numbered i li t.0) ∙ (e ∙ numbered j lj t.1));
          least = λ j r lj lt. least j r lj lt (cases_lt (done nodes starts j) (life_end nodes starts at_end j));
        };
      }

module _ (nodes : List Node) (starts : List ℕ) (at_end : ℕ → Bool) (u v : List (Option ℕ)) (a : AreRegisters nodes starts at_end u) (b : AreRegisters nodes starts at_end v) where
  same_register : (i : ℕ) → i < length nodes → (done nodes starts i < life_end nodes starts at_end i) ⊎ (life_end nodes starts at_end i ≤ done nodes starts i) →
      register_at u i ≡ register_at v i
  same_register i l (inl h) =
      let x = a.kept i l h in
      let y = b.kept i l h in
      let e : number (register_at u i) ≡ number (register_at v i) =
      same_numbers (length nodes) (done nodes starts) (LiveTogether nodes starts at_end) (λ i. number (register_at u i)) (λ i. number (register_at v i)) a.packed b.packed i l in
      let e' : x.0 ≡ y.0 = rw (x.1, y.1) at e in
      x.1 ∙ (ap Some e' ∙ sym y.1)
  same_register i l (inr h) =
      let none : Lives nodes starts at_end i → ⊥ = λ k. omega arith in
      a.unkept i l none ∙ sym (b.unkept i l none)

  same_registers : u ≡ v
  same_registers =
      ext_get_or None u v (a.count ∙ sym b.count)
      (λ i l. (let l' : i < length nodes = (let c = a.count in omega arith) in same_register i l' (cases_lt (done nodes starts i) (life_end nodes starts at_end i))))

pub registers_agree : RegistersAgree
registers_agree nodes starts at_end r s a b = same_registers nodes starts at_end r s a b
