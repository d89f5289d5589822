-- The cores of a table have their places.
use Rattle.std.proofs.Common.{◌≡◌, ℕ, suc, ◌+◌, ◌<◌, ◌≤◌, Bool, true, false, nat_lt, if◌then◌else◌, List, [], ◌∷◌, ◌++◌, length, map, Some}
use Rattle.std.proofs.Common.{length-append, refl, sym, ap, ◌∙◌, subst, ⊎_elim, arith}
use Rattle.std.specs.Prelude.{◌||◌, not, slice_get}
use Rattle.std.specs.List.{list_any}
use Rattle.std.proofs.lemmas.Bool.{cases_lt, not-true}
use Rattle.std.proofs.lemmas.Bool.Decides.{nat_tests}
use Rattle.std.proofs.lemmas.List.{length-map}
use Rattle.std.proofs.lemmas.Map.Keys.{any_passes_from_place}
use Rattle.std.proofs.lemmas.Option.{slice_get_within}
use Rattle.hls_ints.specs.Residues.{bit_of}
use Rattle.circuit.specs.Rows.{EachOf}
use Rattle.top_wiring.specs.Parts.{each_from}
use Rattle.lists.proofs.Places.{get_there, get_front, get_last, get_mapped}
use Rattle.top_wiring.proofs.Lists.{get_each, each_back}
use Rattle.mutex_cores.specs.declared.mutex.Shape.{Shape as MutexShape}
use Rattle.core_tables.specs.Family.{CoreKind, Bank, Mutex, Barrier, ThreadIds, Printer, IsCoreModule}
use Rattle.core_tables.specs.Tables.{PlacedCore, HasModule, IsNarrow}
use Rattle.core_tables.specs.Whole.{SameModule}
use Rattle.core_tables.proofs.Lists.{there, each_of}
use Rattle.core_family.specs.declared.cores.Cores.{Cores}
use Rattle.core_family.specs.Kinds.{barrier, thread_ids, one_if, kinds_of}
use Rattle.core_family.proofs.Listed.{bank_at, mutex_at, barrier_at, thread_ids_at as ids_core_at, printer_at as printer_core_at, count_is, by_kind, bank_back}
use Rattle.core_places.specs.Placing.{has_unset, has_free, mutex, objects, distinct, unset_at, free_at, barrier_at as barrier_place, thread_ids_at, printer_at}
use Rattle.core_places.specs.Placing.{place_of, number_of, placed_core, placed, BanksApart, IsNumbered, CoresArePlaced}

length-each : {A : Type 0} {B : Type 0} (f : ℕ → A → B) (i : ℕ) (xs : List A) → length (each_from f i xs) ≡ length xs
length-each f i [] = refl
length-each f i (x ∷ xs) = ap suc (length-each f (i + 1) xs)

-- ---- a kind where it is wanted

more_long : (xs : List CoreKind) (on : Bool) (s : CoreKind) (n : ℕ) → length xs ≡ n → length (xs ++ one_if on s) ≡ n + bit_of on
more_long xs true s n e = length-append xs (s ∷ []) ∙ ap (λ k. k + 1) e
more_long xs false s n e = length-append xs [] ∙ ap (λ k. k + 0) e

last_there : (xs : List CoreKind) (on : Bool) (s : CoreKind) (n : ℕ) → on ≡ true → length xs ≡ n → slice_get (xs ++ one_if on s) n ≡ Some s
last_there xs true s n is e = ap (slice_get (xs ++ s ∷ [])) (sym e) ∙ get_last xs s
last_there xs false s n is e = absurd cc

-- a bit that leaves room is set
set_bit : (b : Bool) → 0 < bit_of b → b ≡ true
set_bit true l = refl
set_bit false l = absurd (omega (arith, l))

bit_low : (b : Bool) → bit_of b ≤ 1
bit_low true = omega arith
bit_low false = omega arith

-- a thing of a list for which a test holds
abbrev Found : {A : Type 0} → (A → Bool) → List A → Type 0
Found {A} p xs = (k : ℕ) × (x : A) × (slice_get xs k ≡ Some x) × (p x ≡ true)

any_step : {A : Type 0} (p : A → Bool) (x : A) (xs : List A) (b : Bool) → p x ≡ b → (list_any p xs ≡ true → Found p xs) → (b || list_any p xs) ≡ true → Found p (x ∷ xs)
any_step p x xs true t rest e = (0, x, refl, t)
any_step p x xs false t rest e = let r = rest e in (suc r.0, r.1, r.2, r.3)

any_is : {A : Type 0} (p : A → Bool) (xs : List A) → list_any p xs ≡ true → Found p xs
any_is p [] e = absurd (let z : false ≡ true = e in cc)
any_is p (x ∷ xs) e = any_step p x xs (p x) refl (any_is p xs) e

module _ (w : Cores) where
  abbrev B : ℕ
  B = length w.banks

  abbrev M : ℕ
  M = length w.mutexes

  abbrev Core : ℕ → CoreKind → Type 0
  Core k s = slice_get (kinds_of w) k ≡ Some s

  -- ---- the places of modules

  abbrev to_free : List CoreKind
  to_free = map Bank w.banks ++ one_if (has_unset w) (mutex w false)

  abbrev to_thread_ids : List CoreKind
  to_thread_ids = objects w ++ one_if (nat_lt 0 w.barriers) (barrier w)

  abbrev to_printer : List CoreKind
  to_printer = to_thread_ids ++ one_if w.thread_ids (thread_ids w)

  free_long : length to_free ≡ free_at w
  free_long = more_long (map Bank w.banks) (has_unset w) (mutex w false) (unset_at w) (length-map w.banks Bank)

  barrier_long : length (objects w) ≡ barrier_place w
  barrier_long = more_long to_free (has_free w) (mutex w true) (free_at w) free_long

  thread_ids_long : length to_thread_ids ≡ thread_ids_at w
  thread_ids_long = more_long (objects w) (nat_lt 0 w.barriers) (barrier w) (barrier_place w) barrier_long

  printer_long : length to_printer ≡ printer_at w
  printer_long = more_long to_thread_ids w.thread_ids (thread_ids w) (thread_ids_at w) thread_ids_long

  distinct_long : length (distinct w) ≡ printer_at w + 1
  distinct_long = more_long to_printer true (Printer w.printer) (printer_at w) printer_long

  of_printer : (n : ℕ) (s : CoreKind) → slice_get to_printer n ≡ Some s → slice_get (distinct w) n ≡ Some s
  of_printer n s e = get_front to_printer (Printer w.printer ∷ []) n s e

  of_barrier : (n : ℕ) (s : CoreKind) → slice_get to_thread_ids n ≡ Some s → slice_get (distinct w) n ≡ Some s
  of_barrier n s e = of_printer n s (get_front to_thread_ids (one_if w.thread_ids (thread_ids w)) n s e)

  of_object : (n : ℕ) (s : CoreKind) → slice_get (objects w) n ≡ Some s → slice_get (distinct w) n ≡ Some s
  of_object n s e = of_barrier n s (get_front (objects w) (one_if (nat_lt 0 w.barriers) (barrier w)) n s e)

  abbrev shape : ℕ → Bool → MutexShape
  shape t b = record { threads = t; initialised = b }

  mutex_there : (n : ℕ) (m : MutexShape) (b : Bool) → slice_get w.mutexes n ≡ Some m → m.threads ≡ w.threads → m.initialised ≡ b →
      slice_get (distinct w) (if b then free_at w else unset_at w) ≡ Some (Mutex m)
  mutex_there n m true e asked is =
      let on = any_passes_from_place (λ (m : MutexShape). m.initialised) w.mutexes n m e is in
      let same : shape w.threads true ≡ m = ap (λ (t : ℕ). shape t true) (sym asked) ∙ ap (shape m.threads) (sym is) in
      of_object (free_at w) (mutex w true) (last_there to_free (has_free w) (mutex w true) (free_at w) on free_long) ∙ ap (λ (z : MutexShape). Some (Mutex z)) same
  mutex_there n m false e asked is =
      let on = any_passes_from_place (λ (m : MutexShape). not m.initialised) w.mutexes n m e (ap not is) in
      let same : shape w.threads false ≡ m = ap (λ (t : ℕ). shape t false) (sym asked) ∙ ap (shape m.threads) (sym is) in
      of_object (unset_at w) (mutex w false)
      (get_front to_free (one_if (has_free w) (mutex w true)) (unset_at w) (mutex w false)
      (last_there (map Bank w.banks) (has_unset w) (mutex w false) (unset_at w) on (length-map w.banks Bank)))
      ∙ ap (λ (z : MutexShape). Some (Mutex z)) same

  -- the module of each core stands at its place
  here : EachOf (λ (m : MutexShape). m.threads ≡ w.threads) w.mutexes → (k : ℕ) (s : CoreKind) → Core k s → slice_get (distinct w) (place_of w k s) ≡ Some s
  here asked k s e =
      by_kind w (λ z. slice_get (distinct w) (place_of w k z) ≡ Some z) k s e
      (λ b l.
      of_object k (Bank b)
      (get_front to_free (one_if (has_free w) (mutex w true)) k (Bank b)
      (get_front (map Bank w.banks) (one_if (has_unset w) (mutex w false)) k (Bank b) (get_mapped Bank w.banks k b l))))
      (λ n m l at. mutex_there n m m.initialised l (there (λ (z : MutexShape). z.threads ≡ w.threads) w.mutexes asked n m l) refl)
      (λ n l at.
      let on : nat_lt 0 w.barriers ≡ true = (let some : 0 < w.barriers = omega (arith, l) in grind (arith, nat_tests, some)) in
      of_barrier (barrier_place w) (barrier w) (last_there (objects w) (nat_lt 0 w.barriers) (barrier w) (barrier_place w) on barrier_long))
      (λ on at. of_printer (thread_ids_at w) (thread_ids w) (last_there to_thread_ids w.thread_ids (thread_ids w) (thread_ids_at w) on thread_ids_long))
      (λ at. last_there to_printer true (Printer w.printer) (printer_at w) refl printer_long)

  -- ---- each module is of some core

  abbrev IsUsed : ℕ → Type 0
  IsUsed j = (k : ℕ) × (s : CoreKind) × (Core k s) × (place_of w k s ≡ j)

  used_mutex : (b : Bool) (j : ℕ) (some : (n : ℕ) × (m : MutexShape) × (slice_get w.mutexes n ≡ Some m) × (m.initialised ≡ b)) → (if b then free_at w else unset_at w) ≡ j → IsUsed j
  used_mutex b j some at = (B + some.0, Mutex some.1, mutex_at w some.0 some.1 some.2, ap (λ z. if z then free_at w else unset_at w) some.3 ∙ at)

  used_unset : (j : ℕ) → unset_at w ≤ j → j < free_at w → IsUsed j
  used_unset j l h =
      let some = any_is (λ (m : MutexShape). not m.initialised) w.mutexes (set_bit (has_unset w) (omega (arith, l, h))) in
      let low = bit_low (has_unset w) in
      used_mutex false j (some.0, some.1, some.2, not-true some.1.initialised some.3) (omega (arith, l, h, low))

  used_free : (j : ℕ) → free_at w ≤ j → j < barrier_place w → IsUsed j
  used_free j l h =
      let low = bit_low (has_free w) in
      used_mutex true j (any_is (λ (m : MutexShape). m.initialised) w.mutexes (set_bit (has_free w) (omega (arith, l, h)))) (omega (arith, l, h, low))

  used_barrier : (j : ℕ) → barrier_place w ≤ j → j < thread_ids_at w → IsUsed j
  used_barrier j l h =
      let on = set_bit (nat_lt 0 w.barriers) (omega (arith, l, h)) in
      let some : 0 < w.barriers = grind (arith, nat_tests) in
      let bit : bit_of (nat_lt 0 w.barriers) ≡ 1 = ap bit_of on in
      (B + M + 0, barrier w, barrier_at w 0 some, omega (arith, l, h, bit))

  used_thread_ids : (j : ℕ) → thread_ids_at w ≤ j → j < printer_at w → IsUsed j
  used_thread_ids j l h =
      let on = set_bit w.thread_ids (omega (arith, l, h)) in
      let bit : bit_of w.thread_ids ≡ 1 = ap bit_of on in
      (B + M + w.barriers, thread_ids w, ids_core_at w on, omega (arith, l, h, bit))

  used : (j : ℕ) → j < printer_at w + 1 → IsUsed j
  used j l =
      ⊎_elim (λ (a : j < unset_at w). let b = get_there w.banks j a in (j, Bank b.0, bank_at w j b.0 b.1, refl))
      (λ (a : unset_at w ≤ j).
      ⊎_elim (λ (b : j < free_at w). used_unset j a b)
      (λ (b : free_at w ≤ j).
      ⊎_elim (λ (c : j < barrier_place w). used_free j b c)
      (λ (c : barrier_place w ≤ j).
      ⊎_elim (λ (d : j < thread_ids_at w). used_barrier j c d)
      (λ (d : thread_ids_at w ≤ j).
      ⊎_elim (λ (e : j < printer_at w). used_thread_ids j d e)
      (λ (e : printer_at w ≤ j). (B + M + w.barriers + bit_of w.thread_ids, Printer w.printer, printer_core_at w, omega (arith, l, e)))
      (cases_lt j (printer_at w)))
      (cases_lt j (thread_ids_at w)))
      (cases_lt j (barrier_place w)))
      (cases_lt j (free_at w)))
      (cases_lt j (unset_at w))

  -- ---- each module stands once

  once : BanksApart w → (k l : ℕ) (c d : CoreKind) → Core k c → Core l d → SameModule c d → place_of w k c ≡ place_of w l d
  once apart k l (Bank b) (Bank d) e f s = apart k l b d (bank_back w k b e) (bank_back w l d f) s.0 s.1
  once apart k l (Bank b) (Mutex d) e f s = absurd s
  once apart k l (Bank b) (Barrier d) e f s = absurd s
  once apart k l (Bank b) (ThreadIds d) e f s = absurd s
  once apart k l (Bank b) (Printer d) e f s = absurd s
  once apart k l (Mutex b) (Bank d) e f s = absurd s
  once apart k l (Mutex b) (Mutex d) e f s = ap (λ z. if z then free_at w else unset_at w) s
  once apart k l (Mutex b) (Barrier d) e f s = absurd s
  once apart k l (Mutex b) (ThreadIds d) e f s = absurd s
  once apart k l (Mutex b) (Printer d) e f s = absurd s
  once apart k l (Barrier b) (Bank d) e f s = absurd s
  once apart k l (Barrier b) (Mutex d) e f s = absurd s
  once apart k l (Barrier b) (Barrier d) e f s = refl
  once apart k l (Barrier b) (ThreadIds d) e f s = absurd s
  once apart k l (Barrier b) (Printer d) e f s = absurd s
  once apart k l (ThreadIds b) (Bank d) e f s = absurd s
  once apart k l (ThreadIds b) (Mutex d) e f s = absurd s
  once apart k l (ThreadIds b) (Barrier d) e f s = absurd s
  once apart k l (ThreadIds b) (ThreadIds d) e f s = refl
  once apart k l (ThreadIds b) (Printer d) e f s = absurd s
  once apart k l (Printer b) (Bank d) e f s = absurd s
  once apart k l (Printer b) (Mutex d) e f s = absurd s
  once apart k l (Printer b) (Barrier d) e f s = absurd s
  once apart k l (Printer b) (ThreadIds d) e f s = absurd s
  once apart k l (Printer b) (Printer d) e f s = refl

  -- ---- the placed cores

  numbered : (k : ℕ) (s : CoreKind) → Core k s → IsNumbered w k s (number_of w k s)
  numbered k s e =
      by_kind w (λ z. IsNumbered w k z (number_of w k z)) k s e (λ b l. tt) (λ n m l at. omega (arith, at)) (λ n l at. omega (arith, at)) (λ on at. refl) (λ at. refl)

  pub narrow : w.printer.values ≤ 4 → (k : ℕ) (s : CoreKind) → Core k s → IsNarrow s
  narrow few k s e = by_kind w IsNarrow k s e (λ b l. tt) (λ n m l at. tt) (λ n l at. tt) (λ on at. tt) (λ at. few)

  kinds_are : (i : ℕ) (ss : List CoreKind) → map (λ (c : PlacedCore). c.kind) (each_from (placed_core w) i ss) ≡ ss
  kinds_are i [] = refl
  kinds_are i (s ∷ ss) = ap (λ (l : List CoreKind). s ∷ l) (kinds_are (i + 1) ss)

  placed_there : (k : ℕ) (s : CoreKind) → Core k s → slice_get (placed w) k ≡ Some (placed_core w k s)
  placed_there k s e = get_each (placed_core w) 0 (kinds_of w) k s e ∙ ap (λ n. Some (placed_core w n s)) (let z : 0 + k ≡ k = omega arith in z)

  placed_back : (k : ℕ) (c : PlacedCore) → slice_get (placed w) k ≡ Some c → (s : CoreKind) × (Core k s) × (placed_core w k s ≡ c)
  placed_back k c e =
      let b = each_back (placed_core w) 0 (kinds_of w) k c e in
      (b.0, b.1, ap (λ n. placed_core w n b.0) (let z : k ≡ 0 + k = omega arith in z) ∙ sym b.2)

-- how many there are
pub placed_count : (w : Cores) → length (placed w) ≡ suc (length w.banks + length w.mutexes + w.barriers + bit_of w.thread_ids)
placed_count w = length-each (placed_core w) 0 (kinds_of w) ∙ count_is w

pub placed_narrow : (w : Cores) → w.printer.values ≤ 4 → EachOf (λ (c : PlacedCore). IsNarrow c.kind) (placed w)
placed_narrow w few =
    each_of (λ (c : PlacedCore). IsNarrow c.kind) (placed w)
    (λ k c e. let b = placed_back w k c e in subst (λ (z : PlacedCore). IsNarrow z.kind) b.2 (narrow w few k b.0 b.1))

pub cores_are_placed : CoresArePlaced
cores_are_placed w t e threads kinds = record {
  shapes = ap (map (λ (c : PlacedCore). c.kind)) e ∙ kinds_are w 0 (kinds_of w);
  numbered = λ k c l. let b = placed_back w k c (at k c l) in subst (λ (z : PlacedCore). IsNumbered w k z.kind z.number) b.2 (numbered w k b.0 b.1);
  each = λ k c l.
      let b = placed_back w k c (at k c l) in
      let h = kinds.are.each (place_of w k b.0) b.0 (here w kinds.mutexes k b.0 b.1) in
      subst (HasModule t) b.2 (record { body = h.body; listed = h.listed; is = subst (λ n. IsCoreModule n b.0 h.body) (sym threads) h.is });
  used = λ j m l.
      let u = used w j (let b = slice_get_within t.kinds j m l in let n = kinds.are.count in let d = distinct_long w in omega (arith, b, n, d)) in
      (u.0, placed_core w u.0 u.1, ap (λ (cs : List PlacedCore). slice_get cs u.0) e ∙ placed_there w u.0 u.1 u.2, u.3);
  once = λ apart k l c d f g same.
      let b = placed_back w k c (at k c f) in
      let h = placed_back w l d (at l d g) in
      ap (λ (z : PlacedCore). z.place) (sym b.2)
      ∙ once w apart k l b.0 h.0 b.1 h.1
      (subst (λ (z : PlacedCore). SameModule b.0 z.kind) (sym h.2) (subst (λ (z : PlacedCore). SameModule z.kind d.kind) (sym b.2) same))
      ∙ ap (λ (z : PlacedCore). z.place) h.2;
}
  where
    at : (k : ℕ) (c : PlacedCore) → slice_get t.cores k ≡ Some c → slice_get (placed w) k ≡ Some c
    at k c l = ap (λ (cs : List PlacedCore). slice_get cs k) (sym e) ∙ l
