-- The table of the core of the thread ids keeps the promise of its machine.
use Rattle.std.proofs.Common.{◌∷◌, subst, ◌≡◌, ℕ, zero, suc, ◌+◌, ◌^◌, ◌<◌, List, [], length, replicate, slice_get, slice_set, Option, Some, None, true, false}
use Rattle.std.proofs.Common.{nat_eq, nat_lt, if◌then◌else◌, refl, sym, ap, ◌∙◌, arith, lit<, add-zero, zero-add}
use Rattle.std.specs.Prelude.{not, ◌&&◌, slice_index}
use Rattle.std.proofs.lemmas.List.{length-replicate}
use Rattle.hls_ints.specs.Residues.{bit_of}
use Rattle.netlist.specs.declared.netlist.Memory.{Memory}
use Rattle.netlist.specs.declared.netlist.Action.{Action}
use Rattle.netlist.specs.declared.netlist.Module.{Module}
use Rattle.verilog_meaning.specs.Readings.{Reading, written, action_bytes, initial_reading, initial_word, memory_words, next_reading, word_after}
use Rattle.circuit.specs.Rows.{EachOf}
use Rattle.circuit.specs.Modules.{FitsAction, FitsMemory, Obeys, Agree, Has, HasInput, IsLeaf}
use Rattle.circuit.specs.Machines.{Grants, IsCore, asked, printed, after_grant}
use Rattle.circuit.specs.Fits.{is_late_row, fits, Words}
use Rattle.circuit.proofs.Tables.{Told}
use Rattle.circuit.proofs.TableRows.{ByRow, IsListed, listed}
use Rattle.circuit.proofs.TableSound as sound
use Rattle.circuit.proofs.Chains.{pick, picked, chain_is}
use Rattle.circuit.proofs.Edges.{a_bit}
use Rattle.core_states.specs.Machines.{IdTable}
use Rattle.thread_id_cores.specs.declared.thread_ids.Shape.{Shape}
use Rattle.thread_id_cores.specs.Rows as row
use Rattle.thread_id_cores.specs.ThreadIds.{rows, at, end, store_under, status_memory, argument_memory, IsShape, IsThreadIdsModule}
use Rattle.thread_id_cores.specs.Machine.{Ask, ask_of, begun, thread_ids_machine, thread_ids_places, Shows, part_place, told_place, inputs, is_late}
use Rattle.circuit.proofs.ReadWords.{first_word, read_is, if_same}
use Rattle.thread_id_cores.proofs.Effects.{no_bytes, each_zero, by_test, offered, kept_by, stored, target_of, status_of, after_statuses}
use Rattle.thread_id_cores.proofs.Effects.{after_arguments, after_sized, after_each}

none_printed : (shape : Shape) (s : IdTable) (f : ℕ → Ask) (o : Option ℕ) → [] ≡ printed (thread_ids_machine shape) s f o
none_printed shape s f None = refl
none_printed shape s f (Some w) = refl

-- statuses and arguments, by words of 64 bits
abbrev pub memories : List Words
memories = record { width = 2; address = 64 } ∷ record { width = 64; address = 64 } ∷ []

-- the rows are in order
pub rows_fit : fits (is_late_row rows) memories rows ≡ true
rows_fit = refl

module _ (shape : Shape) (ok : IsShape shape) (m : Module) (is : IsThreadIdsModule shape m) where
  abbrev n : ℕ
  n = shape.threads

  held_status : slice_get m.memories 0 ≡ Some (status_memory n)
  held_status = ap (λ (ms : List Memory). slice_get ms 0) is.memories

  held_arguments : slice_get m.memories 1 ≡ Some (argument_memory n)
  held_arguments = ap (λ (ms : List Memory). slice_get ms 1) is.memories

  addressed : length (replicate {A = ℕ} n 0) < 2 ^ 64
  addressed = let a = length-replicate {A = ℕ} n 0 in let b = ok.few in omega arith

  words : sound.AreMemories m memories
  words zero c e =
      let same : record { width = 2; address = 64 } ≡ c = cc in
      subst (λ (c : Words). (s : Memory) × (slice_get m.memories 0 ≡ Some s) × (s.width ≡ c.width) × (length s.initial < 2 ^ c.address)) same
      (status_memory n, held_status, refl, addressed)
  words (suc zero) c e =
      let same : record { width = 64; address = 64 } ≡ c = cc in
      subst (λ (c : Words). (s : Memory) × (slice_get m.memories 1 ≡ Some s) × (s.width ≡ c.width) × (length s.initial < 2 ^ c.address)) same
      (argument_memory n, held_arguments, refl, addressed)
  words (suc (suc j)) c e = absurd cc

  pub laid_by : sound.IsLaid n (is_late_row rows) memories rows m (is_late shape)
  laid_by = record { few = ok.few; passes = rows_fit; signals = is.signals; agrees = sound.late_is n rows; words = words }

  there : ByRow n rows (IsListed n rows m is.signals)
  there = listed n rows m is.signals

  -- ---- the statements

  going_has : Has m (end n row.going) 1
  going_has = sound.has_at n rows m is.signals row.going _ refl n (omega arith)

  target_has : Has m (end n row.target) 64
  target_has = sound.has_at n rows m is.signals row.target _ refl n (omega arith)

  value_has : Has m (end n row.value) 2
  value_has = sound.has_at n rows m is.signals row.value _ refl n (omega arith)

  argument_has : Has m (end n row.argument) 64
  argument_has = sound.has_at n rows m is.signals row.argument _ refl n (omega arith)

  create_has : Has m (end n row.create) 1
  create_has = sound.has_at n rows m is.signals row.create _ refl n (omega arith)

  statuses_fit : FitsAction m (store_under 0 (end n row.going) (end n row.target) (end n row.value))
  statuses_fit = ((going_has, tt), (status_memory n, held_status, value_has, (64, target_has)))

  arguments_fit : FitsAction m (store_under 1 (end n row.create) (end n row.target) (end n row.argument))
  arguments_fit = ((create_has, tt), (argument_memory n, held_arguments, argument_has, (64, target_has)))

  pub acts_fit : EachOf (FitsAction m) m.actions
  acts_fit = subst (EachOf (FitsAction m)) (sym is.actions) (statuses_fit, (arguments_fit, tt))

  pub begins : EachOf FitsMemory m.memories
  begins = subst (EachOf FitsMemory) (sym is.memories) (each_zero n (2 ^ 2) (lit< tt), (each_zero n (2 ^ 64) (lit< tt), tt))

  pub thread_ids_leaf : IsLeaf m (inputs shape) (is_late shape)
  thread_ids_leaf = sound.leaf laid_by is.instances acts_fit begins

  -- ---- the promise

  abbrev Shown : Reading → IdTable → Type 0
  Shown = Shows shape

  starts : Shown (initial_reading (Some m)) (begun n)
  starts = record {
    sized = length-replicate {A = ℕ} n 0;
    statuses = λ k l. ap (λ ms. initial_word (slice_get ms 0) k) is.memories ∙ first_word (replicate n 0) k;
    each = length-replicate {A = ℕ} n 0;
    arguments = λ k l. ap (λ ms. initial_word (slice_get ms 1) k) is.memories ∙ first_word (replicate n 0) k;
  }

  inside : (k : ℕ) → k < n → k < length (replicate {A = ℕ} n 0)
  inside k l = let e = length-replicate {A = ℕ} n 0 in omega arith

  keeps : (h g : Reading) (s : IdTable) → Agree m h g → Shown h s → Shown g s
  keeps h g s same e = record {
    sized = e.sized;
    statuses = λ k l. sym (same.words 0 k (status_memory n) held_status (inside k l)) ∙ e.statuses k l;
    each = e.each;
    arguments = λ k l. sym (same.words 1 k (argument_memory n) held_arguments (inside k l)) ∙ e.arguments k l;
  }

  same_words : (h g : Reading) (s : IdTable) → Shown h s → Shown g s → (j k : ℕ) (z : Memory) → slice_get m.memories j ≡ Some z → k < length z.initial → h.word j k ≡ g.word j k
  same_words h g s e f j k z q l = which j (sym (ap (λ (ms : List Memory). slice_get ms j) is.memories) ∙ q)
    where
      below : (y : Memory) → y ≡ z → length y.initial ≡ n → k < n
      below y t d = let b : k < length y.initial = subst (λ (x : Memory). k < length x.initial) (sym t) l in omega arith

      which : (j : ℕ) → slice_get (status_memory n ∷ argument_memory n ∷ []) j ≡ Some z → h.word j k ≡ g.word j k
      which zero t = let same : status_memory n ≡ z = cc in let b = below (status_memory n) same (length-replicate {A = ℕ} n 0) in e.statuses k b ∙ sym (f.statuses k b)
      which (suc zero) t = let same : argument_memory n ≡ z = cc in let b = below (argument_memory n) same (length-replicate {A = ℕ} n 0) in e.arguments k b ∙ sym (f.arguments k b)
      which (suc (suc j)) t = absurd cc

  hears_same : (f g : ℕ → ℕ) → ((j : ℕ) → j < 4 → f j ≡ g j) → ask_of f ≡ ask_of g
  hears_same f g h =
      let with : ℕ → ℕ → ℕ → ℕ → Ask = λ x y z v. record { asks = nat_lt 0 x; operation = y; id = z; argument = v } in
      ap (λ x. with x (f 1) (f 2) (f 3)) (h 0 (omega arith)) ∙ ap (λ y. with (g 0) y (f 2) (f 3)) (h 1 (omega arith))
      ∙ ap (λ z. with (g 0) (g 1) z (f 3)) (h 2 (omega arith)) ∙ ap (with (g 0) (g 1) (g 2)) (h 3 (omega arith))

  module _ (r : Reading) (s : IdTable) (obeys : Obeys m r) (shown : Shown r s) where
    abbrev S : ℕ → ℕ
    S x = r.signal x

    told : ByRow n rows (Told m r)
    told = sound.told laid_by r obeys

    status_read : (x : ℕ) → (if nat_lt x (memory_words (slice_get m.memories 0)) then r.word 0 x else 0) ≡ slice_index s.statuses x
    status_read x =
        ap (λ (z : Option Memory). if nat_lt x (memory_words z) then r.word 0 x else 0) held_status
        ∙ ap (λ z. if nat_lt x z then r.word 0 x else 0) (length-replicate {A = ℕ} n 0)
        ∙ read_is n x (r.word 0 x) s.statuses shown.sized (λ l. shown.statuses x l)

    argument_read : (x : ℕ) → (if nat_lt x (memory_words (slice_get m.memories 1)) then r.word 1 x else 0) ≡ slice_index s.arguments x
    argument_read x =
        ap (λ (z : Option Memory). if nat_lt x (memory_words z) then r.word 1 x else 0) held_arguments
        ∙ ap (λ z. if nat_lt x z then r.word 1 x else 0) (length-replicate {A = ℕ} n 0)
        ∙ read_is n x (r.word 1 x) s.arguments shown.each (λ l. shown.arguments x l)

    module _ (i : ℕ) (l : i < n) where
      abbrev op : ℕ
      op = S (at n row.operations + i)

      abbrev id : ℕ
      id = S (at n row.ids + i)

      abbrev status : ℕ
      status = slice_index s.statuses id

      create_is : S (at n row.creates + i) ≡ bit_of (nat_eq op 0)
      create_is = told row.creates i l ∙ ap (λ x. bit_of (nat_eq op x)) (told row.zero_code)

      join_is : S (at n row.joins + i) ≡ bit_of (nat_eq op 1)
      join_is = told row.joins i l ∙ ap (λ x. bit_of (nat_eq op x)) (told row.one_code)

      status_is : S (at n row.statuses + i) ≡ status
      status_is = told row.statuses i l ∙ status_read id

      running_is : S (at n row.running + i) ≡ bit_of (nat_eq status 1)
      running_is = told row.running i l ∙ ap (λ x. bit_of (nat_eq (S (at n row.statuses + i)) x)) (told row.one_code) ∙ ap (λ x. bit_of (nat_eq x 1)) status_is

      finished_is : S (at n row.finished + i) ≡ bit_of (nat_eq status 2)
      finished_is = told row.finished i l ∙ ap (λ x. bit_of (nat_eq (S (at n row.statuses + i)) x)) (told row.two_code) ∙ ap (λ x. bit_of (nat_eq x 2)) status_is

      ask_is : S (at n row.asks + i) ≡ bit_of (nat_lt 0 (S (at n row.asks + i)))
      ask_is = a_bit (S (at n row.asks + i)) (obeys.within (at n row.asks + i) _ (there row.asks i l))

      offer_is : S (at n row.offers + i) ≡ bit_of (nat_lt 0 (S (at n row.asks + i)) && (if nat_eq op 0 then not (nat_eq status 1) else (if nat_eq op 1 then nat_eq status 2 else true)))
      offer_is =
          (told row.offers) i l
          ∙ by_test (nat_eq op 0) _ _ _ _ _ _ (told row.may i l) create_is
          (by_test (nat_eq status 1) _ _ _ _ _ _ (told row.may_create i l) running_is (told row.none) ask_is)
          (by_test (nat_eq op 1) _ _ _ _ _ _ (told row.others i l) join_is
          (by_test (nat_eq status 2) _ _ _ _ _ _ (told row.may_join i l) finished_is ask_is (told row.none)) ask_is)
          ∙ offered (nat_eq op 0) (nat_eq op 1) (nat_eq status 1) (nat_eq status 2) (nat_lt 0 (S (at n row.asks + i)))

      number_is : S (at n row.numbers + i) ≡ i
      number_is = told row.numbers i l ∙ zero-add i

      target_is : S (at n row.targets + i) ≡ target_of (nat_eq op 0) (nat_eq op 1) i id
      target_is =
          by_test (nat_eq op 0) _ _ _ _ _ _ (told row.targets i l) create_is refl
          (by_test (nat_eq op 1) _ _ _ _ _ _ (told row.aims i l) join_is refl number_is)

      value_is : S (at n row.values + i) ≡ status_of (nat_eq op 0) (nat_eq op 1)
      value_is =
          by_test (nat_eq op 0) _ _ _ _ _ _ (told row.values i l) create_is (told row.one_code)
          (by_test (nat_eq op 1) _ _ _ _ _ _ (told row.ends i l) join_is (told row.zero_code) (told row.two_code))

      run_is : S (at n row.tells + i) ≡ bit_of (nat_eq (slice_index s.statuses i) 1)
      run_is =
          (told row.tells) i l ∙ told row.runs i l
          ∙ ap (λ x. bit_of (nat_eq (S (at n row.own + i)) x)) (told row.one_code)
          ∙ ap (λ x. bit_of (nat_eq x 1)) (told row.own i l ∙ status_read (S (at n row.numbers + i)) ∙ ap (slice_index s.statuses) number_is)

      handed_is : S (at n row.handed + i) ≡ slice_index s.arguments i
      handed_is = told row.handed i l ∙ (told row.given) i
          l ∙ argument_read (S (at n row.numbers + i)) ∙ ap (slice_index s.arguments) number_is

    module _ (o : Option ℕ) (granted : Grants (thread_ids_machine shape) (thread_ids_places shape) n r o) where
      going_is : S (end n row.going) ≡ pick o 0 (λ k. 1)
      going_is =
          picked n (λ k. S (at n row.going + k)) (λ k. S (at n row.grants + k)) (λ k. 1)
          (λ k l. let z : at n row.going + suc k ≡ at n row.going + 1 + k = omega arith in
          ap r.signal z ∙ (told row.going).1 k l ∙ ap (λ x. if nat_eq (S (at n row.grants + k)) 0 then S (at n row.going + k) else x)
          (told row.some)) o granted.below granted.bits
          ∙ ap (λ y. pick o y (λ k. 1)) (ap r.signal (add-zero (at n row.going)) ∙ (told row.going).0)

      target_won : S (end n row.target) ≡ pick o 0 (λ k. S (at n row.targets + k))
      target_won = chain_is r n (at n row.target) (at n row.grants) (at n row.targets) 0 o (told row.target).0
          (told row.target).1 granted.below granted.bits

      value_won : S (end n row.value) ≡ pick o 0 (λ k. S (at n row.values + k))
      value_won = chain_is r n (at n row.value) (at n row.grants) (at n row.values) 0 o (told row.value).0
          (told row.value).1 granted.below granted.bits

      argument_won : S (end n row.argument) ≡ pick o 0 (λ k. S (at n row.arguments + k))
      argument_won = chain_is r n (at n row.argument) (at n row.grants) (at n row.arguments) 0 o (told row.argument).0
          (told row.argument).1 granted.below granted.bits

      create_won : S (end n row.create) ≡ pick o 0 (λ k. S (at n row.creates + k))
      create_won = chain_is r n (at n row.create) (at n row.grants) (at n row.creates) 0 o (told row.create).0
          (told row.create).1 granted.below granted.bits

    statuses_after : (k : ℕ) → (next_reading m r).word 0 k ≡ kept_by (S (end n row.going)) (S (end n row.target)) (S (end n row.value)) k (r.word 0 k)
    statuses_after k =
        ap (λ (xs : List Action). word_after r xs 0 k (r.word 0 k)) is.actions
        ∙ if_same (nat_lt 0 (S (end n row.create)) && true) (kept_by (S (end n row.going)) (S (end n row.target)) (S (end n row.value)) k (r.word 0 k))

    arguments_after : (k : ℕ) → (next_reading m r).word 1 k ≡ kept_by (S (end n row.create)) (S (end n row.target)) (S (end n row.argument)) k (r.word 1 k)
    arguments_after k =
        ap (λ (xs : List Action). word_after r xs 1 k (r.word 1 k)) is.actions
        ∙ ap (kept_by (S (end n row.create)) (S (end n row.target)) (S (end n row.argument)) k) (if_same (nat_lt 0 (S (end n row.going)) && true) (r.word 1 k))

    silent : (o : Option ℕ) → written m r ≡ printed (thread_ids_machine shape) s (asked (thread_ids_machine shape) (thread_ids_places shape) r) o
    silent o =
        ap (action_bytes m r) is.actions
        ∙ no_bytes (nat_lt 0 (S (end n row.going)) && true) (nat_lt 0 (S (end n row.create)) && true)
        ∙ none_printed shape s (asked (thread_ids_machine shape) (thread_ids_places shape) r) o

    moves : (o : Option ℕ) → Grants (thread_ids_machine shape) (thread_ids_places shape) n r o
        → Shown (next_reading m r) (after_grant (thread_ids_machine shape) s (asked (thread_ids_machine shape) (thread_ids_places shape) r) o)
    moves None granted = record {
      sized = shown.sized;
      statuses = λ k l. statuses_after k
          ∙ stored false (S (end n row.going)) s.statuses k (S (end n row.target)) (S (end n row.value)) (r.word 0 k) (going_is None granted) (let e = shown.sized in omega arith) (shown.statuses k l);
      each = shown.each;
      arguments = λ k l. arguments_after k
          ∙ stored false (S (end n row.create)) s.arguments k (S (end n row.target)) (S (end n row.argument)) (r.word 1 k) (create_won None granted) (let e = shown.each in omega arith)
          (shown.arguments k l);
    }
    moves (Some v) granted =
        let o = Some v in
        let lv : v < n = granted.below v refl in
        let b = nat_eq (S (at n row.operations + v)) 0 in
        let c = nat_eq (S (at n row.operations + v)) 1 in
        let id = S (at n row.ids + v) in
        let x = S (at n row.arguments + v) in
        let t = target_of b c v id in
        let aimed : S (end n row.target) ≡ t = target_won o granted ∙ target_is v lv in
        let valued : S (end n row.value) ≡ status_of b c = value_won o granted ∙ value_is v lv in
        record {
          sized = after_sized b c s v id x ∙ shown.sized;
          statuses = λ k l. statuses_after k
              ∙ stored true (S (end n row.going)) s.statuses k (S (end n row.target)) (S (end n row.value)) (r.word 0 k) (going_is o granted) (let e = shown.sized in omega arith) (shown.statuses k l)
              ∙ ap (λ a. slice_index (slice_set s.statuses a (S (end n row.value))) k) aimed ∙ ap (λ a. slice_index (slice_set s.statuses t a) k) valued
              ∙ ap (λ (ys : List ℕ). slice_index ys k) (after_statuses b c s v id x);
          each = after_each b c s v id x ∙ shown.each;
          arguments = λ k l. arguments_after k
              ∙ stored b (S (end n row.create)) s.arguments k (S (end n row.target)) (S (end n row.argument)) (r.word 1 k) (create_won o granted ∙ create_is v lv) (let e = shown.each in omega arith)
              (shown.arguments k l)
              ∙ ap (λ a. slice_index (if b then slice_set s.arguments a (S (end n row.argument)) else s.arguments) k) aimed
              ∙ ap (λ a. slice_index (if b then slice_set s.arguments t a else s.arguments) k) (argument_won o granted)
              ∙ ap (λ (ys : List ℕ). slice_index ys k) (after_arguments b c s v id x);
        }

    told_is : (j i : ℕ) → j < 2 → i < n → S (told_place n j i) ≡ (thread_ids_machine shape).tells s i j
    told_is zero i a l = run_is i l
    told_is (suc j) i a l = handed_is i l

  ask_input : (j i : ℕ) → j < 4 → i < n → HasInput m (part_place n j i)
  ask_input zero i l b = thread_ids_leaf.first (at n row.asks + i) (omega arith)
  ask_input (suc zero) i l b = thread_ids_leaf.first (at n row.operations + i) (omega arith)
  ask_input (suc (suc zero)) i l b = thread_ids_leaf.first (at n row.ids + i) (omega arith)
  ask_input (suc (suc (suc j))) i l b = thread_ids_leaf.first (at n row.arguments + i) (omega arith)

  pub thread_ids_is_core : IsCore (thread_ids_machine shape) (thread_ids_places shape) n m
  thread_ids_is_core = record {
    starts = starts;
    keeps = keeps;
    faithful = λ h g s e f. record {
      registers = sound.same_registers laid_by h g (λ x a b. absurd (omega arith));
      words = same_words h g s e f;
    };
    hears = λ f g h. hears_same f g h;
    offers = λ r s ob sh i l. offer_is r s ob sh i l;
    tells = λ r s ob sh j i l b. told_is r s ob sh j i l b;
    moves = λ r s o ob sh g. moves r s ob sh o g;
    writes = λ r s o ob sh g. silent r s ob sh o;
    ask_inputs = ask_input;
    grant_inputs = λ i l. thread_ids_leaf.first (at n row.grants + i) (omega arith);
  }
