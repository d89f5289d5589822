-- Which of the cores that acts ask is open: the one that is asked.
use Rattle.std.proofs.Common.{◌≡◌, ℕ, ◌+◌, ◌-◌, ◌<◌, ◌≤◌, Bool, true, false, ◌&&◌, nat_eq, nat_lt, if◌then◌else◌, Some, None, refl, sym, ap, ◌∙◌, arith, ⊎_elim}
use Rattle.std.proofs.Common.{List, [], ◌∷◌, ◌++◌, length, length-append}
use Rattle.std.specs.Prelude.{replicate, slice_get}
use Rattle.std.proofs.lemmas.List.{length-replicate}
use Rattle.std.proofs.lemmas.Option.{slice_get_within}
use Rattle.std.proofs.lemmas.Bool.{cases_lt, le-ltb, lt-ltb, eq-eqb, ltb-true}
use Rattle.std.proofs.lemmas.Bool.Decides.{nat_tests}
use Rattle.std.proofs.Math.Bool.{and-true, and-false}
use Rattle.lists.proofs.Places.{get_front, copies_there, get_right}
use Rattle.hls_ints.specs.Residues.{bit_of}
use Rattle.block_ir.specs.Asked.{Numbers, core_in}
use Rattle.block_ir.specs.declared.service.Service.{Service}
use Rattle.block_ir.specs.declared.service.Service.TheVariants.{Mutex, Barrier, ThreadIds, Printer}
use Rattle.thread_slots.specs.declared.shape.Served.{Served}
use Rattle.thread_slots.specs.Services.{services, if_thread_ids, numbers_with, core_count}
use Rattle.thread_asks.specs.Asking.{same_service}
use Rattle.thread_requests.specs.Early.{joined_bits, act_count, act_open}
use Rattle.thread_requests.proofs.OpenCores.{joined_front, joined_back}
use Rattle.thread_layout.specs.Thread.{is_core}

-- ---- bits

shifted : (b c k : ℕ) → nat_eq c k ≡ nat_eq (b + k) (b + c)
shifted b c k = grind (arith, nat_tests)

apart : (x y : ℕ) → x < y → nat_eq x y ≡ false
apart x y less = grind (arith, nat_tests)

apart_back : (x y : ℕ) → y < x → nat_eq x y ≡ false
apart_back x y less = grind (arith, nat_tests)

-- ---- core k of those that acts ask

module _ (served : Served) (wants : Service → Bool) (object : Service → ℕ) (k : ℕ) where
  abbrev M : ℕ
  M = served.mutexes

  abbrev B : ℕ
  B = served.barriers

  abbrev J : ℕ
  J = bit_of served.thread_ids

  abbrev printer_bits : ℕ → Bool
  printer_bits = joined_bits J (λ i. wants ThreadIds) (λ i. wants Printer)

  abbrev barrier_bits : ℕ → Bool
  barrier_bits = joined_bits B (λ i. nat_eq (object Barrier) i && wants Barrier) printer_bits

  at_mutex : k < M → act_open served wants object k ≡ (nat_eq (object Mutex) k && wants Mutex)
  at_mutex less = joined_front M (λ i. nat_eq (object Mutex) i && wants Mutex) barrier_bits k less

  past_mutexes : M ≤ k → act_open served wants object k ≡ barrier_bits (k - M)
  past_mutexes le = joined_back M (λ i. nat_eq (object Mutex) i && wants Mutex) barrier_bits k le

  at_barrier : M ≤ k → k - M < B → act_open served wants object k ≡ (nat_eq (object Barrier) (k - M) && wants Barrier)
  at_barrier le less = past_mutexes le ∙ joined_front B (λ i. nat_eq (object Barrier) i && wants Barrier) printer_bits (k - M) less

  past_barriers : M ≤ k → B ≤ k - M → act_open served wants object k ≡ printer_bits (k - M - B)
  past_barriers le past = past_mutexes le ∙ joined_back B (λ i. nat_eq (object Barrier) i && wants Barrier) printer_bits (k - M) past

  at_thread_ids : M ≤ k → B ≤ k - M → k - M - B < J → act_open served wants object k ≡ wants ThreadIds
  at_thread_ids le past less = past_barriers le past ∙ joined_front J (λ i. wants ThreadIds) (λ i. wants Printer) (k - M - B) less

  at_printer : M ≤ k → B ≤ k - M → J ≤ k - M - B → act_open served wants object k ≡ wants Printer
  at_printer le past last = past_barriers le past ∙ joined_back J (λ i. wants ThreadIds) (λ i. wants Printer) (k - M - B) last

  -- of four kinds
  by_kind : (P : Type 0) → (k < M → P) → (M ≤ k → k - M < B → P) → (M ≤ k → B ≤ k - M → k - M - B < J → P) → (M ≤ k → B ≤ k - M → J ≤ k - M - B → P) → P
  by_kind P one two three four =
      ⊎_elim one
      (λ (le : M ≤ k). ⊎_elim (two le)
      (λ (past : B ≤ k - M). ⊎_elim (three le past) (λ (last : J ≤ k - M - B). four le past last) (cases_lt (k - M - B) J))
      (cases_lt (k - M) B))
      (cases_lt k M)

-- nothing is open where nothing is wanted
pub none_open : (served : Served) (object : Service → ℕ) (k : ℕ) → act_open served (λ s. false) object k ≡ false
none_open served object k =
    by_kind served (λ s. false) object k (act_open served (λ s. false) object k ≡ false)
    (λ less. at_mutex served (λ s. false) object k less ∙ and-false (nat_eq (object Mutex) k))
    (λ le less. at_barrier served (λ s. false) object k le less ∙ and-false (nat_eq (object Barrier) (k - served.mutexes)))
    (λ le past less. at_thread_ids served (λ s. false) object k le past less) (λ le past last. at_printer served (λ s. false) object k le past last)

module _ (banks : ℕ) (served : Served) (object : Service → ℕ) (k c : ℕ) (inside : k < act_count served) where
  abbrev N : Numbers
  N = numbers_with banks served

  mutex_open : object Mutex ≡ c → act_open served (same_service Mutex) object k ≡ is_core (core_in N Mutex c) (banks + k)
  mutex_open e =
      by_kind served (same_service Mutex) object k (act_open served (same_service Mutex) object k ≡ is_core (core_in N Mutex c) (banks + k))
      (λ less. at_mutex served (same_service Mutex) object k less ∙ and-true (nat_eq (object Mutex) k) ∙ ap (λ z. nat_eq z k) e
      ∙ ⊎_elim (λ (in_range : c < served.mutexes). shifted banks c k ∙ ap (λ b. is_core (if b then Some (banks + c) else None) (banks + k)) (sym (lt-ltb c served.mutexes in_range)))
      (λ (past : served.mutexes ≤ c).
      apart_back c k (omega arith) ∙ ap (λ b. is_core (if b then Some (banks + c) else None) (banks + k)) (sym (le-ltb c served.mutexes past)))
      (cases_lt c served.mutexes))
      (λ le less. at_barrier served (same_service Mutex) object k le less ∙ and-false (nat_eq (object Barrier) (k - served.mutexes)) ∙ sym (off le))
      (λ le past less. at_thread_ids served (same_service Mutex) object k le past less ∙ sym (off le))
      (λ le past last. at_printer served (same_service Mutex) object k le past last ∙ sym (off le))
    where
      off : served.mutexes ≤ k → is_core (core_in N Mutex c) (banks + k) ≡ false
      off le =
          ⊎_elim
          (λ (in_range : c < served.mutexes). ap (λ b. is_core (if b then Some (banks + c) else None) (banks + k)) (lt-ltb c served.mutexes in_range)
          ∙ apart_back (banks + k) (banks + c) (omega arith))
          (λ (past : served.mutexes ≤ c). ap (λ b. is_core (if b then Some (banks + c) else None) (banks + k)) (le-ltb c served.mutexes past))
          (cases_lt c served.mutexes)

  abbrev barrier_or : Bool → Bool
  barrier_or b = is_core (if b then Some (banks + served.mutexes + c) else None) (banks + k)

  barrier_open : object Barrier ≡ c → act_open served (same_service Barrier) object k ≡ is_core (core_in N Barrier c) (banks + k)
  barrier_open e =
      by_kind served (same_service Barrier) object k (act_open served (same_service Barrier) object k ≡ is_core (core_in N Barrier c) (banks + k))
      (λ less. at_mutex served (same_service Barrier) object k less ∙ and-false (nat_eq (object Mutex) k) ∙ sym (before less))
      (λ le less. at_barrier served (same_service Barrier) object k le less ∙ and-true (nat_eq (object Barrier) (k - served.mutexes))
      ∙ ap (λ z. nat_eq z (k - served.mutexes)) e
      ∙ ⊎_elim
      (λ (in_range : c < served.barriers).
      shifted (banks + served.mutexes) c (k - served.mutexes)
      ∙ ap (λ z. nat_eq z (banks + served.mutexes + c)) (let z : banks + served.mutexes + (k - served.mutexes) ≡ banks + k = omega arith in z)
      ∙ ap barrier_or (sym (lt-ltb c served.barriers in_range)))
      (λ (past : served.barriers ≤ c). apart_back c (k - served.mutexes) (omega arith) ∙ ap barrier_or (sym (le-ltb c served.barriers past)))
      (cases_lt c served.barriers))
      (λ le past less. at_thread_ids served (same_service Barrier) object k le past less ∙ sym (behind le past))
      (λ le past last. at_printer served (same_service Barrier) object k le past last ∙ sym (behind le past))
    where
      before : k < served.mutexes → is_core (core_in N Barrier c) (banks + k) ≡ false
      before less =
          ⊎_elim
          (λ (in_range : c < served.barriers). ap barrier_or (lt-ltb c served.barriers in_range) ∙ apart (banks + k) (banks + served.mutexes + c) (omega arith))
          (λ (past : served.barriers ≤ c). ap barrier_or (le-ltb c served.barriers past)) (cases_lt c served.barriers)

      behind : served.mutexes ≤ k → served.barriers ≤ k - served.mutexes → is_core (core_in N Barrier c) (banks + k) ≡ false
      behind le over =
          ⊎_elim
          (λ (in_range : c < served.barriers). ap barrier_or (lt-ltb c served.barriers in_range) ∙ apart_back (banks + k) (banks + served.mutexes + c) (omega arith))
          (λ (past : served.barriers ≤ c). ap barrier_or (le-ltb c served.barriers past)) (cases_lt c served.barriers)

  abbrev thread_ids_or : Bool → Bool
  thread_ids_or b = is_core (if b then Some (banks + served.mutexes + served.barriers) else None) (banks + k)

  thread_ids_open : act_open served (same_service ThreadIds) object k ≡ is_core (core_in N ThreadIds c) (banks + k)
  thread_ids_open =
      by_kind served (same_service ThreadIds) object k (act_open served (same_service ThreadIds) object k ≡ is_core (core_in N ThreadIds c) (banks + k))
      (λ less. at_mutex served (same_service ThreadIds) object k less ∙ and-false (nat_eq (object Mutex) k)
      ∙ sym (other served.thread_ids (apart (banks + k) (banks + served.mutexes + served.barriers) (omega arith))))
      (λ le less. at_barrier served (same_service ThreadIds) object k le less ∙ and-false (nat_eq (object Barrier) (k - served.mutexes))
      ∙ sym (other served.thread_ids (apart (banks + k) (banks + served.mutexes + served.barriers) (omega arith))))
      (λ le past less. at_thread_ids served (same_service ThreadIds) object k le past less ∙ sym (there served.thread_ids less le past inside))
      (λ le past last. at_printer served (same_service ThreadIds) object k le past last ∙ sym (last_one served.thread_ids le past last))
    where
      other : (b : Bool) → nat_eq (banks + k) (banks + served.mutexes + served.barriers) ≡ false → thread_ids_or b ≡ false
      other true e = e
      other false e = refl

      there : (b : Bool) → k - served.mutexes - served.barriers < bit_of b → served.mutexes ≤ k → served.barriers ≤ k - served.mutexes → k < act_count served → thread_ids_or b ≡ true
      there true less le past in_all = eq-eqb (banks + k) (banks + served.mutexes + served.barriers) (omega arith)
      there false less le past in_all = absurd (omega arith)

      last_one : (b : Bool) → served.mutexes ≤ k → served.barriers ≤ k - served.mutexes → bit_of b ≤ k - served.mutexes - served.barriers → thread_ids_or b ≡ false
      last_one true le past last = apart_back (banks + k) (banks + served.mutexes + served.barriers) (omega arith)
      last_one false le past last = refl

  abbrev printer_at : ℕ
  printer_at = banks + served.mutexes + served.barriers + bit_of served.thread_ids

  printer_open : act_open served (same_service Printer) object k ≡ is_core (core_in N Printer c) (banks + k)
  printer_open =
      by_kind served (same_service Printer) object k (act_open served (same_service Printer) object k ≡ is_core (core_in N Printer c) (banks + k))
      (λ less. at_mutex served (same_service Printer) object k less ∙ and-false (nat_eq (object Mutex) k) ∙ sym (apart (banks + k) printer_at (omega arith)))
      (λ le less. at_barrier served (same_service Printer) object k le less ∙ and-false (nat_eq (object Barrier) (k - served.mutexes)) ∙ sym (apart (banks + k) printer_at (omega arith)))
      (λ le past less. at_thread_ids served (same_service Printer) object k le past less ∙ sym (apart (banks + k) printer_at (omega arith)))
      (λ le past last. at_printer served (same_service Printer) object k le past last ∙ sym (eq-eqb (banks + k) printer_at (omega arith)))

  -- CORE k IS OPEN as it is the one that is asked
  pub asked_open : (s : Service) → (s ≡ Mutex → object Mutex ≡ c) → (s ≡ Barrier → object Barrier ≡ c)
      → act_open served (same_service s) object k ≡ is_core (core_in N s c) (banks + k)
  asked_open Mutex e f = mutex_open (e refl)
  asked_open Barrier e f = barrier_open (f refl)
  asked_open ThreadIds e f = thread_ids_open
  asked_open Printer e f = printer_open

-- how many cores there are that acts ask
thread_ids_count : (thread_ids : Bool) → length {A = Service} (if_thread_ids thread_ids (ThreadIds ∷ [])) ≡ bit_of thread_ids
thread_ids_count true = refl
thread_ids_count false = refl

pub services_count : (served : Served) → length (services served) ≡ act_count served
services_count served =
    length-append (replicate served.mutexes Mutex) (replicate served.barriers Barrier ++ (if_thread_ids served.thread_ids (ThreadIds ∷ []) ++ Printer ∷ []))
    ∙ ap (λ n. n + length (replicate served.barriers Barrier ++ (if_thread_ids served.thread_ids (ThreadIds ∷ []) ++ Printer ∷ []))) (length-replicate served.mutexes Mutex)
    ∙ ap (λ n. served.mutexes + n) (length-append (replicate served.barriers Barrier) (if_thread_ids served.thread_ids (ThreadIds ∷ []) ++ Printer ∷ [])
    ∙ ap (λ n. n + length (if_thread_ids served.thread_ids (ThreadIds ∷ []) ++ Printer ∷ [])) (length-replicate served.barriers Barrier)
    ∙ ap (λ n. served.barriers + n) (length-append (if_thread_ids served.thread_ids (ThreadIds ∷ [])) (Printer ∷ []) ∙ ap (λ n. n + 1) (thread_ids_count served.thread_ids)))

-- ---- which service of the cores that is

further_by : {X : Type 0} (xs ys : List X) (n j : ℕ) → length xs ≡ n → slice_get (xs ++ ys) (n + j) ≡ slice_get ys j
further_by xs ys n j e = ap (λ k. slice_get (xs ++ ys) (k + j)) (sym e) ∙ get_right xs ys j

pub record HasService (banks : ℕ) (served : Served) (s : Service) (k : ℕ) : Type 0 where
  pub number : ℕ
  pub listed : slice_get (services served) number ≡ Some s
  pub at : k ≡ banks + number

module _ (banks : ℕ) (served : Served) where
  behind_mutexes : (j : ℕ) → slice_get (services served) (served.mutexes + j)
      ≡ slice_get (replicate served.barriers Barrier ++ (if_thread_ids served.thread_ids (ThreadIds ∷ []) ++ Printer ∷ [])) j
  behind_mutexes j = further_by (replicate served.mutexes Mutex) _ served.mutexes j (length-replicate served.mutexes Mutex)

  behind_barriers : (j : ℕ) → slice_get (services served) (served.mutexes + (served.barriers + j)) ≡ slice_get (if_thread_ids served.thread_ids (ThreadIds ∷ []) ++ Printer ∷ []) j
  behind_barriers j =
      behind_mutexes (served.barriers + j) ∙ further_by (replicate served.barriers Barrier) _ served.barriers j (length-replicate served.barriers Barrier)

  pub service_there : (s : Service) (c k : ℕ) → core_in (numbers_with banks served) s c ≡ Some k → HasService banks served s k
  service_there Mutex c k e = by (nat_lt c served.mutexes) refl e
    where
      by : (b : Bool) → nat_lt c served.mutexes ≡ b → (if b then Some (banks + c) else None) ≡ Some k → HasService banks served Mutex k
      by true is e =
          let less : c < served.mutexes = ltb-true c served.mutexes is in
          let same : banks + c ≡ k = cc in
          record {
            number = c;
            listed = get_front (replicate served.mutexes Mutex) _ c Mutex (copies_there served.mutexes Mutex c less);
            at = sym same;
          }
      by false is e = absurd cc
  service_there Barrier c k e = by (nat_lt c served.barriers) refl e
    where
      by : (b : Bool) → nat_lt c served.barriers ≡ b → (if b then Some (banks + served.mutexes + c) else None) ≡ Some k → HasService banks served Barrier k
      by true is e =
          let less : c < served.barriers = ltb-true c served.barriers is in
          let same : banks + served.mutexes + c ≡ k = cc in
          record {
            number = served.mutexes + c;
            listed = behind_mutexes c ∙ get_front (replicate served.barriers Barrier) _ c Barrier (copies_there served.barriers Barrier c less);
            at = sym same ∙ (let z : banks + served.mutexes + c ≡ banks + (served.mutexes + c) = omega arith in z);
          }
      by false is e = absurd cc
  service_there ThreadIds c k e = by served.thread_ids refl e
    where
      by : (b : Bool) → served.thread_ids ≡ b → (if b then Some (banks + served.mutexes + served.barriers) else None) ≡ Some k → HasService banks served ThreadIds k
      by true is e =
          let same : banks + served.mutexes + served.barriers ≡ k = cc in
          record {
            number = served.mutexes + (served.barriers + 0);
            listed = behind_barriers 0 ∙ ap (λ b. slice_get (if_thread_ids b (ThreadIds ∷ []) ++ Printer ∷ []) 0) is;
            at = sym same ∙ (let z : banks + served.mutexes + served.barriers ≡ banks + (served.mutexes + (served.barriers + 0)) = omega arith in z);
          }
      by false is e = absurd cc
  service_there Printer c k e =
      let same : banks + served.mutexes + served.barriers + bit_of served.thread_ids ≡ k = cc in
      record {
        number = served.mutexes + (served.barriers + bit_of served.thread_ids);
        listed = behind_barriers (bit_of served.thread_ids) ∙ last_kind served.thread_ids;
        at = sym same ∙ (let z : banks + served.mutexes + served.barriers + bit_of served.thread_ids ≡ banks + (served.mutexes + (served.barriers + bit_of served.thread_ids)) = omega arith in z);
      }
    where
      last_kind : (b : Bool) → slice_get (if_thread_ids b (ThreadIds ∷ []) ++ Printer ∷ []) (bit_of b) ≡ Some Printer
      last_kind true = refl
      last_kind false = refl

  -- it is one of those that acts ask
  pub core_within : (s : Service) (c k : ℕ) → core_in (numbers_with banks served) s c ≡ Some k → (banks ≤ k) × (k < core_count banks served)
  core_within s c k e =
      let own = service_there s c k e in
      let at = own.at in
      let less = slice_get_within (services served) own.number s own.listed in
      let count = services_count served in
      (omega arith, omega arith)
