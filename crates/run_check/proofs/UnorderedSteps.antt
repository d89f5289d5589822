-- A step of which what is kept says that it isn't ordered depends on an earlier one of which its thread hasn't heard.
use Rattle.std.proofs.Common.{◌≡◌, ℕ, zero, suc, List, length, refl, ap, sym, ◌∙◌, subst, ⊎_elim, arith}
use Rattle.std.specs.Prelude.{Bool, true, false, Some, slice_set, Contains, ℤ}
use Rattle.std.proofs.lemmas.Bool.{lt-leb, or_left, or_right}
use Rattle.c_program.specs.Tree.{Program}
use Rattle.thread_semantics.specs.Work.{Act}
use Rattle.thread_semantics.specs.State.{Running, Finished, State}
use Rattle.thread_semantics.specs.Move.{Move}
use Rattle.thread_semantics.specs.Step.{Steps, with_slot, finished, written_to, moved, object_operand, value_operand, step}
use Rattle.thread_semantics.specs.Races.{Touch, touched}
use Rattle.run_races.specs.Order.{next_move, awaited, ends, mutex_of_move, Depends, OnData, OnMutex, OnBarrier, OnId, OnAll}
use Rattle.run_races.proofs.Effects.{Effect, act_effect}
use Rattle.run_check.specs.declared.class.Class.{Class}
use Rattle.run_check.specs.declared.class.Class.TheVariants as class
use Rattle.run_check.specs.Class.{class_of, mutex_of, barrier_of, id_of, released_by}
use Rattle.run_check.specs.Shadow.{Shadow, stamp, Misses, MissesAccess, MissesMutex, MissesBarrier, MissesId, MissesStep}
use Rattle.run_check.specs.Unordered.{StepOf, has_heard, Sets, ComesUnordered}
use Rattle.run_check.specs.Shown.{Touches, Writes, UsesMutex, UsesId, Any, IsShown}
use Rattle.run_check.specs.Verdict.{IsReason}
use Rattle.run_check.specs.Run.{reason_of}
use Rattle.run_check.proofs.Telling.{mutex_is, barrier_is, id_is}
use Rattle.run_check.proofs.Traces.{Unheard, unheard_at}
use Rattle.run_check.proofs.Noted.{set_barrier}
use Rattle.run_check.proofs.Meetings.{next_moves}

-- who waits at a barrier does nothing else
waits_class : (m : Move) (x : ℕ) → awaited m ≡ Some x → class_of m ≡ class.Waits x
waits_class (Move.Acts offset Act.BarrierWait operands fs) x a = let same : object_operand operands ≡ x = cc in ap class.Waits same
waits_class (Move.Acts offset act operands fs) x a = absurd cc
waits_class m x a = absurd cc

waits_untouched : (m : Move) (t : Touch) (x : ℕ) → Contains (touched m) t → awaited m ≡ Some x → ⊥
waits_untouched (Move.Acts offset act operands fs) t x c a = absurd (omega (arith, c.1))
waits_untouched (Move.Moves fs reads write) t x c a = absurd cc
waits_untouched (Move.Ends offset reads) t x c a = absurd cc
waits_untouched (Move.Faults offset cause) t x c a = absurd cc
waits_untouched Move.Impossible t x c a = absurd cc

waits_no_mutex : (m : Move) (x y : ℕ) → awaited m ≡ Some y → mutex_of (class_of m) ≡ Some x → ⊥
waits_no_mutex m x y a e = let no = sym (ap mutex_of (waits_class m y a)) ∙ e in cc

waits_no_id : (m : Move) (x y : ℕ) → awaited m ≡ Some y → id_of (class_of m) ≡ Some x → ⊥
waits_no_id m x y a e = let no = sym (ap id_of (waits_class m y a)) ∙ e in cc

waits_there : (m : Move) (x y : ℕ) → awaited m ≡ Some y → barrier_of (class_of m) ≡ Some x → x ≡ y
waits_there m x y a e = let same = sym (ap barrier_of (waits_class m y a)) ∙ e in cc

waits_no_end : (m : Move) (x : ℕ) → awaited m ≡ Some x → ends m ≡ true → ⊥
waits_no_end (Move.Acts offset act operands fs) x a e = absurd cc
waits_no_end (Move.Moves fs reads write) x a e = absurd cc
waits_no_end (Move.Ends offset reads) x a e = absurd cc
waits_no_end (Move.Faults offset cause) x a e = absurd cc
waits_no_end Move.Impossible x a e = absurd cc

class_mutex : (m : Move) (x : ℕ) → class_of m ≡ class.UsesMutex x → mutex_of_move m ≡ Some x
class_mutex m x e = sym (mutex_is m) ∙ ap mutex_of e

class_waits : (m : Move) (x : ℕ) → class_of m ≡ class.Waits x → awaited m ≡ Some x
class_waits (Move.Acts offset Act.BarrierWait operands fs) x e = let same : object_operand operands ≡ x = cc in ap Some same
class_waits (Move.Acts offset act operands fs) x e = absurd cc
class_waits m x e = absurd cc

-- only main's return ends the program
act_goes_on : (P : Program) (s t : State) (i n : ℕ) (v : ℤ) (operands : List ℤ) (act : Act) → Effect P s t i n v operands act → t.ended ≡ s.ended
act_goes_on P s t i n v operands (Act.Print format) e = ap (λ (u : State). u.ended) e
act_goes_on P s t i n v operands (Act.Create routine) e = ap (λ (u : State). u.ended) e.is
act_goes_on P s t i n v operands Act.Join e = ap (λ (u : State). u.ended) e.is
act_goes_on P s t i n v operands Act.MutexInit e = ap (λ (u : State). u.ended) e.is
act_goes_on P s t i n v operands Act.MutexDestroy e = ap (λ (u : State). u.ended) e.is
act_goes_on P s t i n v operands Act.MutexLock e = ap (λ (u : State). u.ended) e.is
act_goes_on P s t i n v operands Act.MutexUnlock e = ap (λ (u : State). u.ended) e.is
act_goes_on P s t i n v operands Act.BarrierInit e = ap (λ (u : State). u.ended) e.1.is
act_goes_on P s t i n v operands Act.BarrierDestroy e = ap (λ (u : State). u.ended) e.1.is
act_goes_on P s t i n v operands Act.BarrierWait e = ap (λ (u : State). u.ended) e.2.is

both : (a b : Bool) → a ≡ b → b ≡ false → a ≡ true → ⊥
both a b e f q = cc

returns : (s t : State) (j offset : ℕ) → finished s j offset ≡ Steps t → s.ended ≡ false → t.ended ≡ true → j ≡ 0
returns s t zero offset e running over = refl
returns s t (suc j) offset e running over =
    let same : with_slot s (suc j) Finished ≡ t = cc in
    absurd (both t.ended s.ended (ap (λ (u : State). u.ended) (sym same)) running over)

moved_over : (P : Program) (s t : State) (j : ℕ) (m : Move) → moved P s j m ≡ Steps t → s.ended ≡ false → t.ended ≡ true → (j ≡ 0) × (ends m ≡ true)
moved_over P s t j (Move.Moves fs reads write) e running over =
    let same : record s { globals = written_to s.globals write; slots = slice_set s.slots j (Running fs) } ≡ t = cc in
    absurd (both t.ended s.ended (ap (λ (u : State). u.ended) (sym same)) running over)
moved_over P s t j (Move.Acts offset act operands fs) e running over =
    absurd
    (both t.ended s.ended
    (act_goes_on P (with_slot s j (Running fs)) t j (object_operand operands) (value_operand operands) operands act
    (act_effect P (with_slot s j (Running fs)) t j offset act operands e))
    running over)
moved_over P s t j (Move.Ends offset reads) e running over = (returns s t j offset e running over, refl)
moved_over P s t j (Move.Faults offset cause) e running over = absurd cc
moved_over P s t j Move.Impossible e running over = absurd cc

module _ (P : Program) (list : List ℕ) (s t : State) (j : ℕ) (K : Shadow) (z : IsShown P list s K) (steps : step P s j ≡ Steps t) (running : s.ended ≡ false) where
  abbrev m : Move
  m = next_move P s j

  -- an earlier step on which the next one depends, of which thread j hasn't heard
  record Found : Type 0 where
    earlier : StepOf P list
    depends : Depends (next_move P earlier.state earlier.thread) j m
    sets : (x : ℕ) → awaited m ≡ Some x → Sets P x earlier.state earlier.thread
    unheard : has_heard P list earlier j ≡ false

  found : Misses K (K.clock j) (class_of m) (touched m) t.ended → Found
  found (MissesAccess u in_it unordered) =
      ⊎_elim
      (λ missed.
      let y : Unheard P list j (Writes P u.place) = unheard_at P list K.clock j (K.write u.place) (Writes P u.place) (z.kept.write u.place) missed in
      record {
        earlier = y.at;
        depends =
            OnData (record { first = y.is.0; second = u; first_in = y.is.1; second_in = in_it; same = y.is.2; written = or_left y.is.0.written u.written y.is.3 });
        sets = λ x a. absurd (waits_untouched m u x in_it a);
        unheard = y.unheard;
      })
      (λ missed.
      let y : Unheard P list j (Touches P u.place) =
      unheard_at P list K.clock j (stamp missed.1 (K.read u.place missed.1)) (Touches P u.place) (z.kept.read u.place missed.1) (lt-leb (K.read u.place missed.1) (K.clock j missed.1) missed.2) in
      record {
        earlier = y.at;
        depends =
            OnData (record { first = y.is.0; second = u; first_in = y.is.1; second_in = in_it; same = y.is.2; written = or_right y.is.0.written u.written missed.0 });
        sets = λ x a. absurd (waits_untouched m u x in_it a);
        unheard = y.unheard;
      }) unordered
  found (MissesMutex x at missed) =
      let y : Unheard P list j (UsesMutex P x) = unheard_at P list K.clock j (K.mutex x) (UsesMutex P x) (z.kept.mutex x) missed in
      record {
        earlier = y.at;
        depends = OnMutex x (sym (mutex_is (next_move P y.at.state y.at.thread)) ∙ y.is) (sym (mutex_is m) ∙ at);
        sets = λ n a. absurd (waits_no_mutex m x n a at);
        unheard = y.unheard;
      }
  found (MissesBarrier x at missed) =
      let y : Unheard P list j (Sets P x) = unheard_at P list K.clock j (K.barrier x) (Sets P x) (z.kept.barrier x) missed in
      let e = next_move P y.at.state y.at.thread in
      record {
        earlier = y.at;
        depends = OnBarrier x (sym (barrier_is e) ∙ set_barrier (class_of e) (released_by y.at.state y.at.thread (class_of e)) x y.is) (sym (barrier_is m) ∙ at);
        sets = λ n a. subst (λ k. Sets P k y.at.state y.at.thread) (waits_there m x n a at) y.is;
        unheard = y.unheard;
      }
  found (MissesId x at missed) =
      let y : Unheard P list j (UsesId P x) = unheard_at P list K.clock j (K.id x) (UsesId P x) (z.kept.id x) missed in
      record {
        earlier = y.at;
        depends = OnId x (sym (id_is (next_move P y.at.state y.at.thread)) ∙ y.is) (sym (id_is m) ∙ at);
        sets = λ n a. absurd (waits_no_id m x n a at);
        unheard = y.unheard;
      }
  found (MissesStep over k less) =
      let y : Unheard P list j Any = unheard_at P list K.clock j (stamp k (K.clock k k)) Any (z.kept.own k) (lt-leb (K.clock k k) (K.clock j k) less) in
      let main = moved_over P s t j m (next_moves P s t j steps) running over in
      record {
        earlier = y.at;
        depends = OnAll main.0 main.1;
        sets = λ n a. absurd (waits_no_end m n a main.1);
        unheard = y.unheard;
      }

  comes : (n : ℕ) (Is : Move → Type 0) → length list ≡ n → Is m → Found → ComesUnordered P n Is
  comes n Is count kind f = record {
    list = list;
    count = count;
    state = s;
    taken = z.taken;
    running = running;
    thread = j;
    next = t;
    goes = steps;
    kind = kind;
    earlier = f.earlier;
    depends = f.depends;
    sets = f.sets;
    unheard = f.unheard;
  }

  reason_is : (c : Class) (n : ℕ) → class_of m ≡ c → length list ≡ n → Found → IsReason P n (reason_of c)
  reason_is (class.UsesMutex x) n e count f = comes n (λ m. (x : ℕ) × (mutex_of_move m ≡ Some x)) count (x, class_mutex m x e) f
  reason_is (class.Waits x) n e count f = comes n (λ m. (x : ℕ) × (awaited m ≡ Some x)) count (x, class_waits m x e) f
  reason_is class.Plain n e count f = comes n (λ m. Unit {0}) count tt f
  reason_is class.Prints n e count f = comes n (λ m. Unit {0}) count tt f
  reason_is (class.Creates x) n e count f = comes n (λ m. Unit {0}) count tt f
  reason_is (class.Joins x) n e count f = comes n (λ m. Unit {0}) count tt f
  reason_is (class.SetsBarrier x) n e count f = comes n (λ m. Unit {0}) count tt f

  -- why the run shows nothing
  pub unordered_shown : (n : ℕ) → length list ≡ n → Misses K (K.clock j) (class_of m) (touched m) t.ended → IsReason P n (reason_of (class_of m))
  unordered_shown n count x = reason_is (class_of m) n refl count (found x)
