-- Which core of a program has which number.
use Rattle.std.specs.Prelude.{Bool, true, false, nat_lt, if◌then◌else◌, map, Option, Some, None, slice_get}
use Rattle.std.proofs.Common.{◌≡◌, ℕ, suc, ◌+◌, ◌-◌, ◌<◌, ◌≤◌, List, [], ◌∷◌, ◌++◌, length, length-append, refl, sym, ap, ◌∙◌, subst, arith}
use Rattle.std.proofs.lemmas.Bool.Decides.{nat_tests}
use Rattle.std.proofs.lemmas.List.{length-map, length-replicate}
use Rattle.std.proofs.lemmas.Option.{same_Some, none-some, slice_get_past}
use Rattle.lists.proofs.Places.{get_there, get_front, get_right, get_mapped, copies_front}
use Rattle.hls_ints.specs.Residues.{bit_of}
use Rattle.bank_cores.specs.declared.bank.Shape.{Shape as BankShape}
use Rattle.mutex_cores.specs.declared.mutex.Shape.{Shape as MutexShape}
use Rattle.thread_id_cores.specs.declared.thread_ids.Shape.{Shape as ThreadIdsShape}
use Rattle.printer_cores.specs.declared.printer.Shape.{Shape as PrinterShape}
use Rattle.core_family.specs.declared.cores.Cores.{Cores}
use Rattle.core_family.specs.Kinds.{barrier, thread_ids, barrier_kinds, thread_ids_kinds, act_kinds, kinds_of}
use Rattle.core_family.specs.Family.{CoreKind, Bank, Mutex, ThreadIds, Printer}

behind : {A : Type 0} (n : ℕ) (xs ys : List A) (k : ℕ) → length xs ≡ n → slice_get (xs ++ ys) (n + k) ≡ slice_get ys k
behind n xs ys k e = ap (λ (m : ℕ). slice_get (xs ++ ys) (m + k)) (sym e) ∙ get_right xs ys k

module _ (K : Cores) where
  abbrev mutexes_from : ℕ
  mutexes_from = length K.banks

  abbrev barriers_from : ℕ
  barriers_from = mutexes_from + length K.mutexes

  abbrev thread_ids_from : ℕ
  thread_ids_from = barriers_from + K.barriers

  abbrev printer_from : ℕ
  printer_from = thread_ids_from + bit_of K.thread_ids

  abbrev core_at : ℕ → Option CoreKind
  core_at k = slice_get (kinds_of K) k

  abbrev last_kinds : List CoreKind
  last_kinds = thread_ids_kinds K ++ (Printer K.printer ∷ [])

  -- ---- each at its number

  pub bank_at : (n : ℕ) (b : BankShape) → slice_get K.banks n ≡ Some b → core_at n ≡ Some (Bank b)
  bank_at n b e = get_front (map Bank K.banks) (act_kinds K) n (Bank b) (get_mapped Bank K.banks n b e)

  at_mutexes : (n : ℕ) → core_at (mutexes_from + n) ≡ slice_get (act_kinds K) n
  at_mutexes n = behind mutexes_from (map Bank K.banks) (act_kinds K) n (length-map K.banks Bank)

  pub mutex_at : (n : ℕ) (s : MutexShape) → slice_get K.mutexes n ≡ Some s → core_at (mutexes_from + n) ≡ Some (Mutex s)
  mutex_at n s e = at_mutexes n ∙ get_front (map Mutex K.mutexes) (barrier_kinds K ++ last_kinds) n (Mutex s) (get_mapped Mutex K.mutexes n s e)

  at_barriers : (n : ℕ) → core_at (barriers_from + n) ≡ slice_get (barrier_kinds K ++ last_kinds) n
  at_barriers n =
      let e : barriers_from + n ≡ mutexes_from + (length K.mutexes + n) = omega arith in
      ap core_at e ∙ at_mutexes (length K.mutexes + n)
      ∙ behind (length K.mutexes) (map Mutex K.mutexes) (barrier_kinds K ++ last_kinds) n (length-map K.mutexes Mutex)

  pub barrier_at : (n : ℕ) → n < K.barriers → core_at (barriers_from + n) ≡ Some (barrier K)
  barrier_at n l = at_barriers n ∙ copies_front K.barriers n (barrier K) last_kinds l

  at_last : (n : ℕ) → core_at (thread_ids_from + n) ≡ slice_get last_kinds n
  at_last n =
      let e : thread_ids_from + n ≡ barriers_from + (K.barriers + n) = omega arith in
      ap core_at e ∙ at_barriers (K.barriers + n) ∙ behind K.barriers (barrier_kinds K) last_kinds n (length-replicate K.barriers (barrier K))

  thread_ids_first : (c : Bool) → c ≡ true → slice_get ((if c then thread_ids K ∷ [] else []) ++ (Printer K.printer ∷ [])) 0 ≡ Some (thread_ids K)
  thread_ids_first true e = refl
  thread_ids_first false e = absurd cc

  printer_last : (c : Bool) → slice_get ((if c then thread_ids K ∷ [] else []) ++ (Printer K.printer ∷ [])) (bit_of c) ≡ Some (Printer K.printer)
  printer_last true = refl
  printer_last false = refl

  last_length : (c : Bool) → length ((if c then thread_ids K ∷ [] else []) ++ (Printer K.printer ∷ [])) ≡ suc (bit_of c)
  last_length true = refl
  last_length false = refl

  pub thread_ids_at : K.thread_ids ≡ true → core_at thread_ids_from ≡ Some (thread_ids K)
  thread_ids_at e =
      let s : thread_ids_from ≡ thread_ids_from + 0 = omega arith in
      ap core_at s ∙ at_last 0 ∙ thread_ids_first K.thread_ids e

  pub printer_at : core_at printer_from ≡ Some (Printer K.printer)
  printer_at = at_last (bit_of K.thread_ids) ∙ printer_last K.thread_ids

  -- there are as many as that
  pub count_is : length (kinds_of K) ≡ suc printer_from
  count_is =
      let a = length-append (map Bank K.banks) (act_kinds K) in
      let b = length-append (map Mutex K.mutexes) (barrier_kinds K ++ last_kinds) in
      let c = length-append (barrier_kinds K) last_kinds in
      let banks = length-map K.banks Bank in
      let mutexes = length-map K.mutexes Mutex in
      let barriers = length-replicate K.barriers (barrier K) in
      let d = last_length K.thread_ids in
      omega (arith, a, b, c, d, banks, mutexes, barriers)

  pub core_there : (k : ℕ) → k < suc printer_from → (s : CoreKind) × (core_at k ≡ Some s)
  core_there k l = let c = count_is in get_there (kinds_of K) k (omega (arith, l, c))

  pub none_past : (k : ℕ) → suc printer_from ≤ k → core_at k ≡ None
  none_past k l = let c = count_is in slice_get_past (kinds_of K) k (omega (arith, l, c))

  -- ---- which core it is

  pub data Which (k : ℕ) : Type 0 where
    IsBank : (b : BankShape) (listed : slice_get K.banks k ≡ Some b) (core : core_at k ≡ Some (Bank b)) → Which k
    IsMutex : (n : ℕ) (s : MutexShape) (listed : slice_get K.mutexes n ≡ Some s) (at : k ≡ mutexes_from + n) (core : core_at k ≡ Some (Mutex s)) → Which k
    IsBarrier : (n : ℕ) (below : n < K.barriers) (at : k ≡ barriers_from + n) (core : core_at k ≡ Some (barrier K)) → Which k
    IsThreadIds : (on : K.thread_ids ≡ true) (at : k ≡ thread_ids_from) (core : core_at k ≡ Some (thread_ids K)) → Which k
    IsPrinter : (at : k ≡ printer_from) (core : core_at k ≡ Some (Printer K.printer)) → Which k
    IsPast : (past : suc printer_from ≤ k) (core : core_at k ≡ None) → Which k

  from_printer : (k : ℕ) → printer_from ≤ k → (c : Bool) → nat_lt k (suc printer_from) ≡ c → Which k
  from_printer k l true e =
      let lt : k < suc printer_from = grind (arith, nat_tests) in
      let at : k ≡ printer_from = omega (arith, l, lt) in
      IsPrinter at (ap core_at at ∙ printer_at)
  from_printer k l false e = let past : suc printer_from ≤ k = grind (arith, nat_tests) in IsPast past (none_past k past)

  from_thread_ids : (k : ℕ) → thread_ids_from ≤ k → (c : Bool) → nat_lt k printer_from ≡ c → (d : Bool) → K.thread_ids ≡ d → Which k
  from_thread_ids k l true e true on =
      let lt : k < printer_from = grind (arith, nat_tests) in
      let bit : bit_of K.thread_ids ≡ 1 = ap bit_of on in
      let at : k ≡ thread_ids_from = omega (arith, l, lt, bit) in
      IsThreadIds on at (ap core_at at ∙ thread_ids_at on)
  from_thread_ids k l true e false off =
      let lt : k < printer_from = grind (arith, nat_tests) in
      let bit : bit_of K.thread_ids ≡ 0 = ap bit_of off in
      absurd (omega (arith, l, lt, bit))
  from_thread_ids k l false e d on = from_printer k (let le : printer_from ≤ k = grind (arith, nat_tests) in le) (nat_lt k (suc printer_from)) refl

  from_barriers : (k : ℕ) → barriers_from ≤ k → (c : Bool) → nat_lt k thread_ids_from ≡ c → Which k
  from_barriers k l true e =
      let n = k - barriers_from in
      let lt : k < thread_ids_from = grind (arith, nat_tests) in
      let at : k ≡ barriers_from + n = omega (arith, l) in
      let below : n < K.barriers = omega (arith, l, lt) in
      IsBarrier n below at (ap core_at at ∙ barrier_at n below)
  from_barriers k l false e =
      from_thread_ids k (let le : thread_ids_from ≤ k = grind (arith, nat_tests) in le) (nat_lt k printer_from) refl K.thread_ids refl

  from_mutexes : (k : ℕ) → mutexes_from ≤ k → (c : Bool) → nat_lt k barriers_from ≡ c → Which k
  from_mutexes k l true e =
      let n = k - mutexes_from in
      let lt : k < barriers_from = grind (arith, nat_tests) in
      let at : k ≡ mutexes_from + n = omega (arith, l) in
      let s = get_there K.mutexes n (omega (arith, l, lt)) in
      IsMutex n s.0 s.1 at (ap core_at at ∙ mutex_at n s.0 s.1)
  from_mutexes k l false e = from_barriers k (let le : barriers_from ≤ k = grind (arith, nat_tests) in le) (nat_lt k thread_ids_from) refl

  pub which : (k : ℕ) → Which k
  which k = by (nat_lt k mutexes_from) refl
    where
      by : (c : Bool) → nat_lt k mutexes_from ≡ c → Which k
      by true e = let b = get_there K.banks k (let lt : k < mutexes_from = grind (arith, nat_tests) in lt) in IsBank b.0 b.1 (bank_at k b.0 b.1)
      by false e = from_mutexes k (let le : mutexes_from ≤ k = grind (arith, nat_tests) in le) (nat_lt k barriers_from) refl

  -- what holds of each kind of core at its number holds of core k
  pub by_kind : (P : CoreKind → Type 0) (k : ℕ) (s : CoreKind) → core_at k ≡ Some s →
      ((b : BankShape) → slice_get K.banks k ≡ Some b → P (Bank b)) → ((n : ℕ) (m : MutexShape) → slice_get K.mutexes n ≡ Some m → k ≡ mutexes_from + n → P (Mutex m)) →
      ((n : ℕ) → n < K.barriers → k ≡ barriers_from + n → P (barrier K)) → (K.thread_ids ≡ true → k ≡ thread_ids_from → P (thread_ids K)) →
      (k ≡ printer_from → P (Printer K.printer)) → P s
  by_kind P k s e bank mutex gate ids printer = by (which k)
    where
      of : (d : CoreKind) → core_at k ≡ Some d → P d → P s
      of d core p = subst P (same_Some d s (sym core ∙ e)) p

      by : Which k → P s
      by (IsBank b listed core) = of (Bank b) core (bank b listed)
      by (IsMutex n m listed at core) = of (Mutex m) core (mutex n m listed at)
      by (IsBarrier n below at core) = of (barrier K) core (gate n below at)
      by (IsThreadIds on at core) = of (thread_ids K) core (ids on at)
      by (IsPrinter at core) = of (Printer K.printer) core (printer at)
      by (IsPast past core) = absurd (none-some s (sym core ∙ e))

  pub bank_back : (k : ℕ) (b : BankShape) → core_at k ≡ Some (Bank b) → slice_get K.banks k ≡ Some b
  bank_back k b e =
      by_kind (λ s. s ≡ Bank b → slice_get K.banks k ≡ Some b) k (Bank b) e (λ c l q. let same : c ≡ b = cc in l ∙ ap (λ (z : BankShape). Some z) same)
      (λ n m l at q. absurd cc) (λ n l at q. absurd cc) (λ on at q. absurd cc) (λ at q. absurd cc) refl

  pub thread_ids_back : (k : ℕ) (t : ThreadIdsShape) → core_at k ≡ Some (ThreadIds t) → k ≡ thread_ids_from
  thread_ids_back k t e =
      by_kind (λ s. s ≡ ThreadIds t → k ≡ thread_ids_from) k (ThreadIds t) e (λ c l q. absurd cc) (λ n m l at q. absurd cc) (λ n l at q. absurd cc) (λ on at q. at)
      (λ at q. absurd cc) refl

  pub printer_back : (k : ℕ) (p : PrinterShape) → core_at k ≡ Some (Printer p) → k ≡ printer_from
  printer_back k p e =
      by_kind (λ s. s ≡ Printer p → k ≡ printer_from) k (Printer p) e (λ c l q. absurd cc) (λ n m l at q. absurd cc) (λ n l at q. absurd cc) (λ on at q. absurd cc)
      (λ at q. at) refl
