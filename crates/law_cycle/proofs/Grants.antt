-- A grant of a core's machine is a grant of the theory's core.
use Rattle.std.specs.Prelude.{nat_eq, nat_lt, Bool, true, false, not, ◌&&◌, if◌then◌else◌, replicate, slice_get, slice_index, slice_set, Option, Some, None}
use Rattle.std.proofs.Common.{◌≡◌, ℕ, suc, List, ◌++◌, refl, sym, ap, ap₂, ◌∙◌}
use Rattle.std.proofs.Math.Bool.{and-true}
use Rattle.c_program.specs.Tree.{Piece}
use Rattle.circuit.specs.Rows.{spread}
use Rattle.planned_block.proofs.Bits.{is_same}
use Rattle.block_ir.specs.Asked.{Asked, first_word, second_word}
use Rattle.core_states.specs.Machines.{mutex_eligible, mutex_after, CoreBarrier, barrier_eligible, barrier_waited, barrier_after, IdTable, ids_eligible, ids_after}
use Rattle.bank_cores.specs.declared.bank.Shape.{Shape as BankShape}
use Rattle.mutex_cores.specs.declared.mutex.Shape.{Shape as MutexShape}
use Rattle.barrier_cores.specs.declared.barrier.Shape.{Shape as BarrierShape}
use Rattle.thread_id_cores.specs.declared.thread_ids.Shape.{Shape as ThreadIdsShape}
use Rattle.printer_cores.specs.declared.printer.Shape.{Shape as PrinterShape}
use Rattle.printer_cores.specs.Machine.{bytes_of_site}
use Rattle.law_threads.specs.Cores.{OfBank, OfMutex, OfBarrier, OfThreadIds, OfPrinter, may_grant, granted, text_at}
use Rattle.core_family.specs.Family.{CoreKind, Bank, Mutex, Barrier, ThreadIds, Printer, machine_of}
use Rattle.law_cycle.specs.Stage.{shown_as}

-- ---- what an operation does not use changes nothing

abbrev barrier_by : ℕ → CoreBarrier → ℕ → ℕ → ℕ → Bool → CoreBarrier
barrier_by n g i operation count init =
    if nat_eq operation 1 then barrier_waited n g i else (if nat_eq operation 3 then g else record { count = if init then count else 0; waiting = replicate n 0 })

counts_alike : (n : ℕ) (g : CoreBarrier) (i operation x y : ℕ) → (operation ≡ 0 → x ≡ y) → barrier_after n g i operation x ≡ barrier_after n g i operation y
counts_alike n g i operation x y same = by (nat_eq operation 0) refl
  where
    by : (b : Bool) → nat_eq operation 0 ≡ b → barrier_after n g i operation x ≡ barrier_after n g i operation y
    by true e = ap (barrier_after n g i operation) (same (is_same operation 0 e))
    by false e = ap (barrier_by n g i operation x) e ∙ sym (ap (barrier_by n g i operation y) e)

abbrev may_by : IdTable → ℕ → Bool → Bool → Bool
may_by t id create join = if create then not (nat_eq (slice_index t.statuses id) 1) else (if join then nat_eq (slice_index t.statuses id) 2 else true)

may_same : (t : IdTable) (operation x y : ℕ) → (operation ≡ 0 → x ≡ y) → (operation ≡ 1 → x ≡ y) → ids_eligible t operation x ≡ ids_eligible t operation y
may_same t operation x y created joined = by (nat_eq operation 0) refl (nat_eq operation 1) refl
  where
    by : (b : Bool) → nat_eq operation 0 ≡ b → (d : Bool) → nat_eq operation 1 ≡ d → ids_eligible t operation x ≡ ids_eligible t operation y
    by true e d u = ap (ids_eligible t operation) (created (is_same operation 0 e))
    by false e true u = ap (ids_eligible t operation) (joined (is_same operation 1 u))
    by false e false u = ap₂ (may_by t x) e u ∙ sym (ap₂ (may_by t y) e u)

abbrev thread_ids_by : IdTable → ℕ → ℕ → ℕ → Bool → Bool → IdTable
thread_ids_by t i id argument create join =
    if create then record { statuses = slice_set t.statuses id 1; arguments = slice_set t.arguments id argument }
    else (if join then record { statuses = slice_set t.statuses id 0; arguments = t.arguments }
    else record { statuses = slice_set t.statuses i 2; arguments = t.arguments })

thread_ids_same : (t : IdTable) (i operation x y v w : ℕ) → (operation ≡ 0 → (x ≡ y) × (v ≡ w)) → (operation ≡ 1 → x ≡ y) → ids_after t i operation x v ≡ ids_after t i operation y w
thread_ids_same t i operation x y v w created joined = by (nat_eq operation 0) refl (nat_eq operation 1) refl
  where
    by : (b : Bool) → nat_eq operation 0 ≡ b → (d : Bool) → nat_eq operation 1 ≡ d → ids_after t i operation x v ≡ ids_after t i operation y w
    by true e d u = let same = created (is_same operation 0 e) in ap₂ (ids_after t i operation) same.0 same.1
    by false e true u = ap₂ (thread_ids_by t i x v) e u ∙ ap (λ z. thread_ids_by t i z w false true) (joined (is_same operation 1 u)) ∙ sym (ap₂ (thread_ids_by t i y w) e u)
    by false e false u = ap₂ (thread_ids_by t i x v) e u ∙ sym (ap₂ (thread_ids_by t i y w) e u)

-- ---- by kind of core: it is eligible where it asks and may be granted, and what the machine does is what the theory's core does

-- of a core in a state, which has printed out, thread i asks with the numbers f what a says
abbrev pub MayAlike : (o : Option CoreKind) → (machine_of o).State → List ℕ → ℕ → (ℕ → ℕ) → Asked → Type 0
MayAlike o state out i f a = (machine_of o).eligible state i ((machine_of o).ask_of f) ≡ (nat_lt 0 (f 0) && may_grant (shown_as o state out) i a)

-- and has printed after behind it
abbrev pub DoesAlike : ℕ → List (List Piece) → (o : Option CoreKind) → (machine_of o).State → List ℕ → List ℕ → ℕ → (ℕ → ℕ) → Asked → Type 0
DoesAlike T formats o state out after i f a =
    shown_as o ((machine_of o).act state i ((machine_of o).ask_of f)) after ≡ granted T formats (shown_as o state out) i a

pub mutex_may : (o : Option CoreKind) (s : MutexShape) → o ≡ Some (Mutex s) → (state : (machine_of o).State) (out : List ℕ) (i : ℕ) (f : ℕ → ℕ) (a : Asked) → f 1 ≡ a.number →
    MayAlike o state out i f a
mutex_may None s e state out i f a number = absurd cc
mutex_may (Some (Bank c)) s e state out i f a number = absurd cc
mutex_may (Some (Mutex c)) s e state out i f a number = ap (λ n. nat_lt 0 (f 0) && mutex_eligible state n) number
mutex_may (Some (Barrier c)) s e state out i f a number = absurd cc
mutex_may (Some (ThreadIds c)) s e state out i f a number = absurd cc
mutex_may (Some (Printer c)) s e state out i f a number = absurd cc

pub mutex_does : (T : ℕ) (formats : List (List Piece)) (o : Option CoreKind) (s : MutexShape) → o ≡ Some (Mutex s) → (state : (machine_of o).State) (out after : List ℕ) (i : ℕ)
    (f : ℕ → ℕ) (a : Asked) → f 1 ≡ a.number → DoesAlike T formats o state out after i f a
mutex_does T formats None s e state out after i f a number = absurd cc
mutex_does T formats (Some (Bank c)) s e state out after i f a number = absurd cc
mutex_does T formats (Some (Mutex c)) s e state out after i f a number = ap (λ n. OfMutex (mutex_after state i n)) number
mutex_does T formats (Some (Barrier c)) s e state out after i f a number = absurd cc
mutex_does T formats (Some (ThreadIds c)) s e state out after i f a number = absurd cc
mutex_does T formats (Some (Printer c)) s e state out after i f a number = absurd cc

pub barrier_may : (o : Option CoreKind) (s : BarrierShape) → o ≡ Some (Barrier s) → (state : (machine_of o).State) (out : List ℕ) (i : ℕ) (f : ℕ → ℕ) (a : Asked) →
    f 1 ≡ a.number →
    MayAlike o state out i f a
barrier_may None s e state out i f a number = absurd cc
barrier_may (Some (Bank c)) s e state out i f a number = absurd cc
barrier_may (Some (Mutex c)) s e state out i f a number = absurd cc
barrier_may (Some (Barrier c)) s e state out i f a number = ap (λ n. nat_lt 0 (f 0) && barrier_eligible state i n) number
barrier_may (Some (ThreadIds c)) s e state out i f a number = absurd cc
barrier_may (Some (Printer c)) s e state out i f a number = absurd cc

pub barrier_does : (T : ℕ) (formats : List (List Piece)) (o : Option CoreKind) (s : BarrierShape) → o ≡ Some (Barrier s) → s.threads ≡ T → (state : (machine_of o).State)
    (out after : List ℕ) (i : ℕ) (f : ℕ → ℕ) (a : Asked) → f 1 ≡ a.number → (a.number ≡ 0 → f 2 ≡ first_word a.values) → DoesAlike T formats o state out after i f a
barrier_does T formats None s e many state out after i f a number count = absurd cc
barrier_does T formats (Some (Bank c)) s e many state out after i f a number count = absurd cc
barrier_does T formats (Some (Mutex c)) s e many state out after i f a number count = absurd cc
barrier_does T formats (Some (Barrier c)) s e many state out after i f a number count =
    let same : c ≡ s = cc in
    let threads : c.threads ≡ T = ap (λ (z : BarrierShape). z.threads) same ∙ many in
    ap (λ n. OfBarrier (barrier_after n state i (f 1) (f 2))) threads ∙ ap (λ n. OfBarrier (barrier_after T state i n (f 2))) number
    ∙ ap OfBarrier (counts_alike T state i a.number (f 2) (first_word a.values) count)
barrier_does T formats (Some (ThreadIds c)) s e many state out after i f a number count = absurd cc
barrier_does T formats (Some (Printer c)) s e many state out after i f a number count = absurd cc

pub thread_ids_may : (o : Option CoreKind) (s : ThreadIdsShape) → o ≡ Some (ThreadIds s) → (state : (machine_of o).State) (out : List ℕ) (i : ℕ) (f : ℕ → ℕ) (a : Asked) → f 1 ≡ a.number →
    (a.number ≡ 0 → (f 2 ≡ first_word a.values) × (f 3 ≡ second_word a.values)) → (a.number ≡ 1 → f 2 ≡ first_word a.values) → MayAlike o state out i f a
thread_ids_may None s e state out i f a number created joined = absurd cc
thread_ids_may (Some (Bank c)) s e state out i f a number created joined = absurd cc
thread_ids_may (Some (Mutex c)) s e state out i f a number created joined = absurd cc
thread_ids_may (Some (Barrier c)) s e state out i f a number created joined = absurd cc
thread_ids_may (Some (ThreadIds c)) s e state out i f a number created joined =
    ap (λ n. nat_lt 0 (f 0) && ids_eligible state n (f 2)) number
    ∙ ap (λ b. nat_lt 0 (f 0) && b) (may_same state a.number (f 2) (first_word a.values) (λ z. (created z).0) joined)
thread_ids_may (Some (Printer c)) s e state out i f a number created joined = absurd cc

pub thread_ids_do : (T : ℕ) (formats : List (List Piece)) (o : Option CoreKind) (s : ThreadIdsShape) → o ≡ Some (ThreadIds s) → (state : (machine_of o).State) (out after : List ℕ) (i : ℕ)
    (f : ℕ → ℕ) (a : Asked) → f 1 ≡ a.number → (a.number ≡ 0 → (f 2 ≡ first_word a.values) × (f 3 ≡ second_word a.values)) → (a.number ≡ 1 → f 2 ≡ first_word a.values) →
    DoesAlike T formats o state out after i f a
thread_ids_do T formats None s e state out after i f a number created joined = absurd cc
thread_ids_do T formats (Some (Bank c)) s e state out after i f a number created joined = absurd cc
thread_ids_do T formats (Some (Mutex c)) s e state out after i f a number created joined = absurd cc
thread_ids_do T formats (Some (Barrier c)) s e state out after i f a number created joined = absurd cc
thread_ids_do T formats (Some (ThreadIds c)) s e state out after i f a number created joined =
    ap (λ n. OfThreadIds (ids_after state i n (f 2) (f 3))) number
    ∙ ap OfThreadIds (thread_ids_same state i a.number (f 2) (first_word a.values) (f 3) (second_word a.values) created joined)
thread_ids_do T formats (Some (Printer c)) s e state out after i f a number created joined = absurd cc

pub printer_may : (o : Option CoreKind) (s : PrinterShape) → o ≡ Some (Printer s) → (state : (machine_of o).State) (out : List ℕ) (i : ℕ) (f : ℕ → ℕ) (a : Asked) →
    MayAlike o state out i f a
printer_may None s e state out i f a = absurd cc
printer_may (Some (Bank c)) s e state out i f a = absurd cc
printer_may (Some (Mutex c)) s e state out i f a = absurd cc
printer_may (Some (Barrier c)) s e state out i f a = absurd cc
printer_may (Some (ThreadIds c)) s e state out i f a = absurd cc
printer_may (Some (Printer c)) s e state out i f a = sym (and-true (nat_lt 0 (f 0)))

pub printer_does : (T : ℕ) (formats : List (List Piece)) (o : Option CoreKind) (s : PrinterShape) → o ≡ Some (Printer s) → (state : (machine_of o).State) (out after : List ℕ)
    (i : ℕ) (f : ℕ → ℕ) (a : Asked) → after ≡ out ++ text_at (slice_get formats a.number) a.values → DoesAlike T formats o state out after i f a
printer_does T formats None s e state out after i f a text = absurd cc
printer_does T formats (Some (Bank c)) s e state out after i f a text = absurd cc
printer_does T formats (Some (Mutex c)) s e state out after i f a text = absurd cc
printer_does T formats (Some (Barrier c)) s e state out after i f a text = absurd cc
printer_does T formats (Some (ThreadIds c)) s e state out after i f a text = absurd cc
printer_does T formats (Some (Printer c)) s e state out after i f a text = ap OfPrinter text

-- what a printer prints
pub printer_prints : (o : Option CoreKind) (s : PrinterShape) → o ≡ Some (Printer s) → (state : (machine_of o).State) (i : ℕ) (f : ℕ → ℕ) →
    (machine_of o).prints state i ((machine_of o).ask_of f) ≡ bytes_of_site (slice_get s.sites (f 1)) (spread (λ j. f (suc (suc j))) 0 s.values)
printer_prints None s e state i f = absurd cc
printer_prints (Some (Bank c)) s e state i f = absurd cc
printer_prints (Some (Mutex c)) s e state i f = absurd cc
printer_prints (Some (Barrier c)) s e state i f = absurd cc
printer_prints (Some (ThreadIds c)) s e state i f = absurd cc
printer_prints (Some (Printer c)) s e state i f =
    let same : c ≡ s = cc in ap (λ (z : PrinterShape). bytes_of_site (slice_get z.sites (f 1)) (spread (λ j. f (suc (suc j))) 0 z.values)) same

-- a core that is no printer shows the same whatever is printed
pub shown_whatever : (o : Option CoreKind) (state : (machine_of o).State) (out after : List ℕ) → ((s : PrinterShape) → o ≡ Some (Printer s) → out ≡ after) →
    shown_as o state out ≡ shown_as o state after
shown_whatever None state out after same = refl
shown_whatever (Some (Bank c)) state out after same = refl
shown_whatever (Some (Mutex c)) state out after same = refl
shown_whatever (Some (Barrier c)) state out after same = refl
shown_whatever (Some (ThreadIds c)) state out after same = refl
shown_whatever (Some (Printer c)) state out after same = ap OfPrinter (same c refl)

-- a bank shows nothing
pub bank_shows : (o : Option CoreKind) (b : BankShape) → o ≡ Some (Bank b) → (state : (machine_of o).State) (out : List ℕ) → shown_as o state out ≡ OfBank
bank_shows None b e state out = absurd cc
bank_shows (Some (Bank c)) b e state out = refl
bank_shows (Some (Mutex c)) b e state out = absurd cc
bank_shows (Some (Barrier c)) b e state out = absurd cc
bank_shows (Some (ThreadIds c)) b e state out = absurd cc
bank_shows (Some (Printer c)) b e state out = absurd cc
