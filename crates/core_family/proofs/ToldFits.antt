-- What cores tell fits its port.
use Rattle.std.proofs.Common.{ℕ, zero, suc, ◌^◌, ◌<◌, List, [], ◌∷◌, replicate, Bool, true, false, None, Some, arith}
use Rattle.std.specs.Prelude.{nat_eq, nat_lt, if◌then◌else◌, slice_index, slice_set}
use Rattle.std.proofs.lemmas.Nat.{pow_pos}
use Rattle.hls_ints.specs.Residues.{bit_of}
use Rattle.circuit.specs.Rows.{EachOf}
use Rattle.core_states.specs.Machines.{CoreBarrier, total_of, with_waiter, barrier_waited, barrier_after, IdTable, ids_after, ids_tell}
use Rattle.bank_cores.specs.declared.bank.Shape.{Shape as BankShape}
use Rattle.bank_cores.specs.Machine as bank
use Rattle.barrier_cores.specs.declared.barrier.Shape.{Shape as BarrierShape}
use Rattle.thread_id_cores.specs.declared.thread_ids.Shape.{Shape as ThreadIdsShape}
use Rattle.core_family.specs.Family.{Bank, Mutex, Barrier, ThreadIds, Printer, told_width}
use Rattle.core_family.specs.Laws.{FitsState, KeepsFitting, EachKeepsFitting}

abbrev AllBelow : ℕ → List ℕ → Type 0
AllBelow b xs = (k : ℕ) → slice_index xs k < b

set_below : (b : ℕ) (xs : List ℕ) (a v : ℕ) → v < b → AllBelow b xs → AllBelow b (slice_set xs a v)
set_below b [] zero v l h k = h k
set_below b [] (suc a) v l h k = h k
set_below b (x ∷ xs) zero v l h zero = l
set_below b (x ∷ xs) zero v l h (suc k) = h (suc k)
set_below b (x ∷ xs) (suc a) v l h zero = h zero
set_below b (x ∷ xs) (suc a) v l h (suc k) = set_below b xs a v l (λ j. h (suc j)) k

zeros_below : (b n : ℕ) → 0 < b → AllBelow b (replicate n 0)
zeros_below b zero l k = l
zeros_below b (suc n) l zero = l
zeros_below b (suc n) l (suc k) = zeros_below b n l k

listed_below : (b : ℕ) (xs : List ℕ) → 0 < b → EachOf (λ n. n < b) xs → AllBelow b xs
listed_below b [] l e k = l
listed_below b (x ∷ xs) l e zero = e.0
listed_below b (x ∷ xs) l e (suc k) = listed_below b xs l e.1 k

bit_below : (b : Bool) → bit_of b < 2 ^ 1
bit_below true = omega arith
bit_below false = omega arith

-- ---- a bank

bank_after : (b : BankShape) (s : bank.Words) (i : ℕ) (w : Bool) (address value : ℕ) → FitsState (Some (Bank b)) s → value < 2 ^ b.width →
    FitsState (Some (Bank b)) (if w then bank.written s address value else bank.read s i address)
bank_after b s i true address value h l = (set_below (2 ^ b.width) s.words address value l h.0, h.1)
bank_after b s i false address value h l = (h.0, set_below (2 ^ b.width) s.kept i (slice_index s.words address) (h.0 address) h.1)

bank_fits : (b : BankShape) → KeepsFitting (Some (Bank b))
bank_fits b = record {
  starts = λ e. (listed_below (2 ^ b.width) b.initial (pow_pos b.width) e, zeros_below (2 ^ b.width) b.threads (pow_pos b.width));
  acts = λ s h i f l. bank_after b s i (nat_lt 0 (f 1)) (f 2) (f 3) h (l 3 (omega arith));
  tells = λ s h i j l. h.1 i;
}

-- ---- a barrier

met_below : (n : ℕ) (g : CoreBarrier) (i : ℕ) → AllBelow 2 g.waiting → AllBelow 2 (barrier_waited n g i).waiting
met_below n g i h = by (nat_lt (total_of n (with_waiter g i)) g.count)
  where
    by : (b : Bool) → AllBelow 2 (if b then with_waiter g i else replicate n 0)
    by true = set_below 2 g.waiting i 1 (omega arith) h
    by false = zeros_below 2 n (omega arith)

barrier_below : (n : ℕ) (g : CoreBarrier) (i operation count : ℕ) → AllBelow 2 g.waiting → AllBelow 2 (barrier_after n g i operation count).waiting
barrier_below n g i operation count h = by (nat_eq operation 1) (nat_eq operation 3)
  where
    by : (w x : Bool) →
        AllBelow 2 (if w then barrier_waited n g i else (if x then g else record { count = if nat_eq operation 0 then count else 0; waiting = replicate n 0 })).waiting
    by true x = met_below n g i h
    by false true = h
    by false false = zeros_below 2 n (omega arith)

barrier_fits : (b : BarrierShape) → KeepsFitting (Some (Barrier b))
barrier_fits b = record {
  starts = λ e. zeros_below 2 b.threads (omega arith);
  acts = λ s h i f l. barrier_below b.threads s i (f 1) (f 2) h;
  tells = λ s h i j l. h i;
}

-- ---- the thread ids

abbrev Fits : IdTable → Type 0
Fits t = AllBelow (2 ^ 64) t.arguments

ids_below : (t : IdTable) (i operation id argument : ℕ) → Fits t → argument < 2 ^ 64 → Fits (ids_after t i operation id argument)
ids_below t i operation id argument h l = by (nat_eq operation 0) (nat_eq operation 1)
  where
    by : (c j : Bool) → Fits
        (if c then record { statuses = slice_set t.statuses id 1; arguments = slice_set t.arguments id argument }
        else (if j then record { statuses = slice_set t.statuses id 0; arguments = t.arguments }
        else record { statuses = slice_set t.statuses i 2; arguments = t.arguments }))
    by true j = set_below (2 ^ 64) t.arguments id argument l h
    by false true = h
    by false false = h

thread_ids_fits : (b : ThreadIdsShape) → KeepsFitting (Some (ThreadIds b))
thread_ids_fits b = record {
  starts = λ e. zeros_below (2 ^ 64) b.threads (omega arith);
  acts = λ s h i f l. ids_below s i (f 1) (f 2) (f 3) h (l 3 (omega arith));
  tells = told;
}
  where
    told : (s : IdTable) → Fits s → (i j : ℕ) → j < 2 → ids_tell s i j < 2 ^ told_width (Some (ThreadIds b)) j
    told s h i zero l = bit_below (nat_eq (slice_index s.statuses i) 1)
    told s h i (suc zero) l = h i
    told s h i (suc (suc j)) l = absurd (omega arith)

pub each_keeps_fitting : EachKeepsFitting
each_keeps_fitting None = record { starts = λ e. tt; acts = λ s h i f l. tt; tells = λ s h i j l. absurd (omega arith) }
each_keeps_fitting (Some (Bank b)) = bank_fits b
each_keeps_fitting (Some (Mutex b)) = record { starts = λ e. tt; acts = λ s h i f l. tt; tells = λ s h i j l. absurd (omega arith) }
each_keeps_fitting (Some (Barrier b)) = barrier_fits b
each_keeps_fitting (Some (ThreadIds b)) = thread_ids_fits b
each_keeps_fitting (Some (Printer b)) = record { starts = λ e. tt; acts = λ s h i f l. tt; tells = λ s h i j l. absurd (omega arith) }
