-- The table of a barrier keeps the promise of the barrier's machine.
use Rattle.std.proofs.Common.{subst, ◌≡◌, ℕ, zero, suc, ◌+◌, ◌-◌, ◌<◌, ◌≤◌, ◌⊎◌, List, [], slice_get, Option, Some, None, Bool, true, nat_eq, nat_lt}
use Rattle.std.proofs.Common.{if◌then◌else◌, refl, sym, ap, ◌∙◌, ⊎_elim, arith, add-zero}
use Rattle.std.specs.Prelude.{◌&&◌, not, slice_index}
use Rattle.std.proofs.lemmas.Bool.Decides.{nat_tests}
use Rattle.std.proofs.lemmas.List.{length-replicate, append-nil}
use Rattle.std.proofs.lemmas.Option.{none-some}
use Rattle.lists.proofs.Places.{zeros_at}
use Rattle.hls_ints.specs.Residues.{bit_of}
use Rattle.hls_ints.specs.Words.{word, word_sum}
use Rattle.netlist.specs.declared.netlist.Memory.{Memory}
use Rattle.netlist.specs.declared.netlist.Action.{Action}
use Rattle.netlist.specs.declared.netlist.Module.{Module}
use Rattle.verilog_meaning.specs.Readings.{Reading, written, action_bytes, initial_reading, initial_signal, next_reading, register_after}
use Rattle.circuit.specs.Rows.{EachOf, sets, set_at}
use Rattle.circuit.specs.Modules.{FitsAction, FitsMemory, Obeys, Agree, Has, HasInput, IsLeaf}
use Rattle.circuit.specs.Machines.{Grants, IsCore, asked, printed, after_grant}
use Rattle.circuit.specs.Table.{place}
use Rattle.circuit.specs.Fits.{is_late_row, registers, fits}
use Rattle.circuit.proofs.Tables.{Told, width_is, has}
use Rattle.circuit.proofs.TableRows.{ByRow, IsListed, listed}
use Rattle.circuit.proofs.TableSound as sound
use Rattle.circuit.proofs.Chains.{pick, chain_is}
use Rattle.circuit.proofs.Edges.{sets_after, sets_print, tested, both_bits, a_bit, each_spread}
use Rattle.core_states.specs.Machines.{CoreBarrier, total_of, with_waiter}
use Rattle.barrier_cores.specs.declared.barrier.Shape.{Shape}
use Rattle.barrier_cores.specs.Rows as row
use Rattle.barrier_cores.specs.Barrier.{rows, at, IsShape, IsBarrier}
use Rattle.barrier_cores.specs.Machine.{Ask, ask_of, begun, barrier_machine, barrier_places, Shows, part_place, inputs, is_late}
use Rattle.barrier_cores.proofs.Effects.{offered, own_number, summed, bit_joined, after_bit, after_count, after_sized}

none_printed : (n : ℕ) (s : CoreBarrier) (f : ℕ → Ask) (o : Option ℕ) → [] ≡ printed (barrier_machine n) s f o
none_printed n s f None = refl
none_printed n s f (Some w) = refl

-- the rows are in order
pub rows_fit : fits (is_late_row rows) [] rows ≡ true
rows_fit = refl

module _ (shape : Shape) (ok : IsShape shape) (m : Module) (is : IsBarrier shape m) where
  abbrev n : ℕ
  n = shape.threads

  pub laid_by : sound.IsLaid n (is_late_row rows) [] rows m (is_late n)
  laid_by = record { few = ok.few; passes = rows_fit; signals = is.signals; agrees = sound.late_is n rows; words = sound.no_memories m }

  there : ByRow n rows (IsListed n rows m is.signals)
  there = listed n rows m is.signals

  has_sum : (k : ℕ) → k ≤ n → Has m (at n row.sum + k) 64
  has_sum k l = sound.has_at n rows m is.signals row.sum _ refl k (omega arith)

  -- ---- the statements

  -- of a bit, or of the count
  set_fits : (k : ℕ) → k < n + 1 → FitsAction m (set_at (at n row.waiting) (at n row.next) (0 + k))
  set_fits k l =
      let z : k ≡ 0 + k = omega arith in
      subst (λ i. FitsAction m (set_at (at n row.waiting) (at n row.next) i)) z
      (⊎_elim
      (λ (b : k < n). (tt, (1, record { signal = _; listed = there row.waiting k b; wide = refl; is = tt }, has m (at n row.next + k) _ (there row.next k b))))
      (λ (b : n ≡ k). subst (λ i. FitsAction m (set_at (at n row.waiting) (at n row.next) i)) b
      (tt, (64, record { signal = _; listed = there row.count; wide = refl; is = tt }, has m (at n row.next_count) _ (there row.next_count))))
      (let c : (k < n) ⊎ (n ≡ k) = grind (arith, nat_tests) in c))

  pub acts_fit : EachOf (FitsAction m) m.actions
  acts_fit = subst (EachOf (FitsAction m)) (sym is.actions) (each_spread (FitsAction m) (set_at (at n row.waiting) (at n row.next)) 0 (n + 1) set_fits)

  pub begins : EachOf FitsMemory m.memories
  begins = subst (EachOf FitsMemory) (sym is.memories) tt

  pub barrier_leaf : IsLeaf m (inputs n) (is_late n)
  barrier_leaf = sound.leaf laid_by is.instances acts_fit begins

  -- ---- the promise

  abbrev Shown : Reading → CoreBarrier → Type 0
  Shown = Shows n

  starts : Shown (initial_reading (Some m)) (begun n)
  starts = record {
    sized = length-replicate {A = ℕ} n 0;
    bits = λ i l. ap initial_signal (there row.waiting i l) ∙ sym (zeros_at n i);
    count_is = ap initial_signal (there row.count);
  }

  keeps : (h g : Reading) (s : CoreBarrier) → Agree m h g → Shown h s → Shown g s
  keeps h g s same e = record {
    sized = e.sized;
    bits = λ i l. sym (same.registers (at n row.waiting + i) _ (there row.waiting i l) tt) ∙ e.bits i l;
    count_is = sym (same.registers (at n row.count) _ (there row.count) tt) ∙ e.count_is;
  }

  -- a bit, or the count
  same_at : (h g : Reading) (s : CoreBarrier) → Shown h s → Shown g s → (x : ℕ) → inputs n ≤ x → x < place n rows (registers rows) → h.signal x ≡ g.signal x
  same_at h g s e f x a b =
      ⊎_elim
      (λ (l : x < at n row.count).
      let z : at n row.waiting + (x - at n row.waiting) ≡ x = omega arith in
      let k : x - at n row.waiting < n = omega arith in
      subst (λ y. h.signal y ≡ g.signal y) z (e.bits (x - at n row.waiting) k ∙ sym (f.bits (x - at n row.waiting) k)))
      (λ (l : at n row.count ≡ x). subst (λ y. h.signal y ≡ g.signal y) l (e.count_is ∙ sym f.count_is))
      (let c : (x < at n row.count) ⊎ (at n row.count ≡ x) = grind (arith, nat_tests) in c)

  faithful : (h g : Reading) (s : CoreBarrier) → Shown h s → Shown g s → Agree m h g
  faithful h g s e f = record {
    registers = sound.same_registers laid_by h g (same_at h g s e f);
    words = λ j k z q l. absurd (none-some z (sym (ap (λ (ms : List Memory). slice_get ms j) is.memories) ∙ q));
  }

  hears_same : (f g : ℕ → ℕ) → ((j : ℕ) → j < 3 → f j ≡ g j) → ask_of f ≡ ask_of g
  hears_same f g h =
      let with : ℕ → ℕ → ℕ → Ask = λ x y z. record { asks = nat_lt 0 x; operation = y; count = z } in
      ap (λ x. with x (f 1) (f 2)) (h 0 (omega arith)) ∙ ap (λ y. with (g 0) y (f 2)) (h 1 (omega arith)) ∙ ap (with (g 0) (g 1)) (h 2 (omega arith))

  module _ (r : Reading) (s : CoreBarrier) (obeys : Obeys m r) (shown : Shown r s) where
    told : ByRow n rows (Told m r)
    told = sound.told laid_by r obeys

    abbrev S : ℕ → ℕ
    S x = r.signal x

    bit_is : (i : ℕ) → i < n → S (at n row.waiting + i) ≡ bit_of (nat_lt 0 (slice_index s.waiting i))
    bit_is i l = a_bit (S (at n row.waiting + i)) (obeys.within (at n row.waiting + i) _ (there row.waiting i l)) ∙ ap (λ x. bit_of (nat_lt 0 x)) (shown.bits i l)

    bar_is : (i : ℕ) → i < n → S (at n row.bars + i) ≡ bit_of (nat_eq (S (at n row.operations + i)) 1 && nat_lt 0 (slice_index s.waiting i))
    bar_is i l =
        told row.bars i l
        ∙ both_bits (nat_eq (S (at n row.operations + i)) 1) (nat_lt 0 (slice_index s.waiting i)) (S (at n row.waits + i)) (S (at n row.waiting + i))
        (told row.waits i l ∙ ap (λ x. bit_of (nat_eq (S (at n row.operations + i)) x)) (told row.wait)) (bit_is i l)

    offer_is : (i : ℕ) → i < n → S (at n row.offers + i) ≡ bit_of (nat_lt 0 (S (at n row.asks + i)) && not (nat_eq (S (at n row.operations + i)) 1 && nat_lt 0 (slice_index s.waiting i)))
    offer_is i l =
        let b = nat_eq (S (at n row.operations + i)) 1 && nat_lt 0 (slice_index s.waiting i) in
        told row.offers i l ∙ told row.may i l ∙ tested b (S (at n row.bars + i)) (S (at n row.none))
        (S (at n row.asks + i)) (bar_is i l)
        ∙ offered b (S (at n row.asks + i)) (S (at n row.none)) (a_bit (S (at n row.asks + i)) (obeys.within (at n row.asks + i) _ (there row.asks i l))) (told row.none)

    tell_is : (i : ℕ) → i < n → S (at n row.tells + i) ≡ slice_index s.waiting i
    tell_is i l = told row.tells i l ∙ shown.bits i l

    -- ---- what the wires say, by the operation of the granted thread

    is_wait_is : (x : ℕ) → S (at n row.operation + n) ≡ x → S (at n row.is_wait) ≡ bit_of (nat_eq x 1)
    is_wait_is x e = told row.is_wait ∙ ap (λ y. bit_of (nat_eq (S (at n row.operation + n)) y)) (told row.wait) ∙ ap
        (λ y. bit_of (nat_eq y 1)) e

    is_nothing_is : (x : ℕ) → S (at n row.operation + n) ≡ x → S (at n row.is_nothing) ≡ bit_of (nat_eq x 3)
    is_nothing_is x e = told row.is_nothing ∙ ap (λ y. bit_of (nat_eq (S (at n row.operation + n)) y)) (told row.nothing) ∙ ap
        (λ y. bit_of (nat_eq y 3)) e

    is_init_is : (x : ℕ) → S (at n row.operation + n) ≡ x → S (at n row.is_init) ≡ bit_of (nat_eq x 0)
    is_init_is x e = told row.is_init ∙ ap (λ y. bit_of (nat_eq (S (at n row.operation + n)) y)) (told row.init) ∙ ap
        (λ y. bit_of (nat_eq y 0)) e

    next_is : (i : ℕ) → i < n → (x : ℕ) → S (at n row.operation + n) ≡ x → S (at n row.next + i) ≡ (if nat_eq x 1 then S (at n row.stays + i) else (if nat_eq x 3 then S (at n row.waiting + i) else 0))
    next_is i l x e =
        told row.next i l ∙ tested (nat_eq x 1) (S (at n row.is_wait)) (S (at n row.stays + i)) (S (at n row.others + i)) (is_wait_is x e)
        ∙ ap (λ y. if nat_eq x 1 then S (at n row.stays + i) else y)
        (told row.others i l ∙ tested (nat_eq x 3) (S (at n row.is_nothing)) (S (at n row.waiting + i)) (S (at n row.none)) (is_nothing_is x e)
        ∙ ap (λ y. if nat_eq x 3 then S (at n row.waiting + i) else y) (told row.none))

    next_count_is : (x : ℕ) → S (at n row.operation + n) ≡ x → S (at n row.next_count) ≡
        (if nat_eq x 1 then s.count else (if nat_eq x 3 then s.count else (if nat_eq x 0 then S (at n row.new_count + n) else 0)))
    next_count_is x e =
        told row.next_count ∙ tested (nat_eq x 1) (S (at n row.is_wait)) (S (at n row.count)) (S (at n row.fresh)) (is_wait_is x e)
        ∙ ap (λ y. if nat_eq x 1 then y else S (at n row.fresh)) shown.count_is
        ∙ ap (λ y. if nat_eq x 1 then s.count else y)
        ((told row.fresh) ∙ tested (nat_eq x 3) (S (at n row.is_nothing)) (S (at n row.count)) (S (at n row.given)) (is_nothing_is x e)
        ∙ ap (λ y. if nat_eq x 3 then y else S (at n row.given)) shown.count_is
        ∙ ap (λ y. if nat_eq x 3 then s.count else y)
        ((told row.given) ∙ tested (nat_eq x 0) (S (at n row.is_init)) (S (at n row.new_count + n)) (S (at n row.nought)) (is_init_is x e)
        ∙ ap (λ y. if nat_eq x 0 then S (at n row.new_count + n) else y) (told row.nought)))

    register_is : (i : ℕ) → i < n + 1 → (next_reading m r).signal (at n row.waiting + i) ≡ S (at n row.next + i)
    register_is i l =
        ap (λ (xs : List Action). register_after r xs (at n row.waiting + i) (S (at n row.waiting + i))) is.actions
        ∙ sets_after r (at n row.waiting) (at n row.next) (n + 1) i (S (at n row.waiting + i)) l

    silent : (o : Option ℕ) → written m r ≡ printed (barrier_machine n) s (asked (barrier_machine n) (barrier_places n) r) o
    silent o =
        ap (action_bytes m r) is.actions
        ∙ ap (action_bytes m r) (sym (append-nil (sets (at n row.waiting) (at n row.next) (n + 1))))
        ∙ sets_print r (at n row.waiting) (at n row.next) m 0 (n + 1) []
        ∙ none_printed n s (asked (barrier_machine n) (barrier_places n) r) o

    -- with one of the threads
    module _ (w : ℕ) (l : w < n) (alone : (k : ℕ) → k < n → S (at n row.grants + k) ≡ bit_of (nat_eq w k)) where
      joined_is : (k : ℕ) → k < n → S (at n row.bits + k) ≡ slice_index (with_waiter s w) k
      joined_is k b =
          told row.bits k b
          ∙ bit_joined s.waiting w k (S (at n row.grants + k)) (S (at n row.waiting + k)) (S (at n row.some)) (let e = shown.sized in omega arith) (told row.some) (alone k b)
          (shown.bits k b)

      one_is : (k : ℕ) → k < n → S (at n row.ones + k) ≡ slice_index (with_waiter s w) k
      one_is k b =
          told row.ones k b
          ∙ ap (λ x. if nat_eq (S (at n row.bits + k)) 0 then x else S (at n row.unit)) (told row.nought)
          ∙ ap (λ x. if nat_eq (S (at n row.bits + k)) 0 then 0 else x) (told row.unit)
          ∙ own_number (S (at n row.bits + k)) (obeys.within (at n row.bits + k) _ (there row.bits k b)) ∙ joined_is k b

      sum_is : S (at n row.sum + n) ≡ total_of n (with_waiter s w)
      sum_is =
          summed n (λ k. S (at n row.sum + k)) (with_waiter s w) ok.few (ap r.signal (add-zero (at n row.sum)) ∙ (told row.sum).0)
          (λ k b.
          let z : at n row.sum + suc k ≡ at n row.sum + 1 + k = omega arith in
          ap r.signal z ∙ (told row.sum).1 k b
          ∙ ap (λ v. word_sum v (S (at n row.sum + k)) (S (at n row.ones + k))) (width_is m (at n row.sum + k) 64 (has_sum k (omega arith)))
          ∙ ap (λ y. word 64 (S (at n row.sum + k) + y)) (one_is k b))
          (λ k b. subst (λ y. y < 2) (joined_is k b) (obeys.within (at n row.bits + k) _ (there row.bits k b)))
          n (omega arith)

      abbrev is_short : Bool
      is_short = nat_lt (total_of n (with_waiter s w)) s.count

      short_is : S (at n row.short) ≡ bit_of is_short
      short_is = told row.short ∙ ap (λ y. bit_of (nat_lt (S (at n row.sum + n)) y)) shown.count_is ∙ ap (λ y. bit_of (nat_lt y s.count)) sum_is

      stay_is : (i : ℕ) → i < n → S (at n row.stays + i) ≡ (if is_short then slice_index (with_waiter s w) i else 0)
      stay_is i b =
          told row.stays i b ∙ tested is_short (S (at n row.short)) (S (at n row.bits + i)) (S (at n row.none)) short_is
          ∙ ap (λ y. if is_short then y else S (at n row.none)) (joined_is i b)
          ∙ ap (λ y. if is_short then slice_index (with_waiter s w) i else y) (told row.none)

    module _ (o : Option ℕ) (granted : Grants (barrier_machine n) (barrier_places n) n r o) where
      operation_is : S (at n row.operation + n) ≡ pick o 3 (λ k. S (at n row.operations + k))
      operation_is = chain_is r n (at n row.operation) (at n row.grants) (at n row.operations) 3 o (told row.operation).0 (told row.operation).1
          granted.below granted.bits

      new_count_is : S (at n row.new_count + n) ≡ pick o 0 (λ k. S (at n row.counts + k))
      new_count_is = chain_is r n (at n row.new_count) (at n row.grants) (at n row.counts) 0 o (told row.new_count).0 (told row.new_count).1
          granted.below granted.bits

    moves : (o : Option ℕ) → Grants (barrier_machine n) (barrier_places n) n r o
        → Shown (next_reading m r) (after_grant (barrier_machine n) s (asked (barrier_machine n) (barrier_places n) r) o)
    moves None granted = record {
      sized = shown.sized;
      bits = λ i l. register_is i (omega arith) ∙ next_is i l 3 (operation_is None granted) ∙ shown.bits i l;
      count_is = register_is n (omega arith) ∙ next_count_is 3 (operation_is None granted);
    }
    moves (Some w) granted =
        let o = Some w in
        let x = S (at n row.operations + w) in
        let e = operation_is o granted in
        let c = S (at n row.counts + w) in
        let l : w < n = granted.below w refl in
        let sh = is_short w l granted.bits in
        record {
          sized = after_sized n (nat_eq x 1) (nat_eq x 3) (nat_eq x 0) sh s w c shown.sized;
          bits = λ i b. register_is i (omega arith) ∙ next_is i b x e
              ∙ ap (λ y. if nat_eq x 1 then y else (if nat_eq x 3 then S (at n row.waiting + i) else 0)) (stay_is w l granted.bits i b)
              ∙ ap (λ y. if nat_eq x 1 then (if sh then slice_index (with_waiter s w) i else 0) else (if nat_eq x 3 then y else 0)) (shown.bits i b)
              ∙ after_bit n (nat_eq x 1) (nat_eq x 3) (nat_eq x 0) sh s w c i;
          count_is = register_is n (omega arith) ∙ next_count_is x e
              ∙ ap (λ y. if nat_eq x 1 then s.count else (if nat_eq x 3 then s.count else (if nat_eq x 0 then y else 0))) (new_count_is o granted)
              ∙ after_count n (nat_eq x 1) (nat_eq x 3) (nat_eq x 0) sh s w c;
        }

  ask_input : (j i : ℕ) → j < 3 → i < n → HasInput m (part_place n j i)
  ask_input zero i l b = barrier_leaf.first (at n row.asks + i) (omega arith)
  ask_input (suc zero) i l b = barrier_leaf.first (at n row.operations + i) (omega arith)
  ask_input (suc (suc j)) i l b = barrier_leaf.first (at n row.counts + i) (omega arith)

  pub barrier_core : IsCore (barrier_machine n) (barrier_places n) n m
  barrier_core = record {
    starts = starts;
    keeps = keeps;
    faithful = faithful;
    hears = λ f g h. hears_same f g h;
    offers = λ r s ob sh i l. offer_is r s ob sh i l;
    tells = λ r s ob sh j i l b. tell_is r s ob sh i b;
    moves = λ r s o ob sh g. moves r s ob sh o g;
    writes = λ r s o ob sh g. silent r s ob sh o;
    ask_inputs = ask_input;
    grant_inputs = λ i l. barrier_leaf.first (at n row.grants + i) (omega arith);
  }
