-- The steps of a run that what is kept of it stands for: the next step, once it is noted, happens behind those on which it
-- depends, and what is kept stands for it too.
use Rattle.std.proofs.Common.{◌≡◌, ℕ, ◌+◌, ◌≤◌, List, refl, ap, sym, ◌∙◌, subst, ⊎_elim, inl, inr, arith}
use Rattle.std.specs.Prelude.{◌⊎◌, Bool, true, false, ◌||◌, nat_eq, Option, Some, Contains}
use Rattle.std.proofs.lemmas.Bool.{eqb-true, ne_eqb, or_from, cases_Bool}
use Rattle.c_program.specs.Tree.{Program}
use Rattle.thread_semantics.specs.State.{State}
use Rattle.thread_semantics.specs.Move.{Move}
use Rattle.thread_semantics.specs.Step.{Steps, step}
use Rattle.thread_semantics.specs.Races.{Touch, touched}
use Rattle.run_races.specs.Order.{next_move, barrier_of_move, prints, told, Meet, Conflict, Depends, DependsOrPrints, OnData, OnMutex, OnBarrier, OnId, OnAll}
use Rattle.run_check.specs.declared.clocks.Stamp.{Stamp}
use Rattle.run_check.specs.declared.class.Class.{Class}
use Rattle.run_check.specs.Clocks.{is_heard}
use Rattle.run_check.specs.Class.{class_of, is_print, mutex_of, id_of, barrier_set, released_by}
use Rattle.run_check.specs.Shadow.{Shadow, stamp, next_stamp, last_print, IsUsed, IsNoted}
use Rattle.run_check.proofs.Telling.{told_class, told_is, told_wider, told_all, mutex_is, barrier_is, id_is, prints_is}
use Rattle.run_check.specs.Shown.{Covers, HasPeaks, IsWaiting, StandsFor}
use Rattle.run_check.proofs.Covers.{covers_as, heard_by, covers_on, covers_new, peaks_on}
use Rattle.run_check.proofs.Meetings.{LetGo, awaits, sets, main_ended, waits_on, stands_still}

module _ (P : Program) (s t : State) (j : ℕ) (K K' : Shadow) (steps : step P s j ≡ Steps t) (peaks : HasPeaks K.clock)
    (x : IsNoted K K' j (class_of (next_move P s j)) (touched (next_move P s j)) (released_by s j (class_of (next_move P s j))) t.ended) where
  abbrev m : Move
  m = next_move P s j

  abbrev c : Class
  c = class_of m

  abbrev r : List ℕ
  r = released_by s j c

  abbrev after : (ℕ → Bool) → ℕ → Bool
  after h = told_class c r j h

  -- the step stands for those of which its thread has heard
  heard_new : (h : ℕ → Bool) → h j ≡ true → Covers K'.clock (next_stamp K.clock j) (after h)
  heard_new h e =
      covers_new K.clock K'.clock j c r x.clocks peaks (after h)
      (λ k q. told_wider c r j (nat_eq j) h k (λ v w. ap h (sym (eqb-true j v w)) ∙ e) q)

  own_new : Covers K'.clock (next_stamp K.clock j) (after (nat_eq j))
  own_new = covers_new K.clock K'.clock j c r x.clocks peaks (after (nat_eq j)) (λ k q. q)

  kept : (step : Stamp) (h : ℕ → Bool) → Covers K.clock step h → Covers K'.clock step (after h)
  kept step h y = covers_on K.clock K'.clock j c r x.clocks step h y

  -- the last act on an object stands for those before it
  used : (old new : ℕ → Stamp) (object : Option ℕ) (h : ℕ → Bool) (z : ℕ) → IsUsed old new (K.clock j) (next_stamp K.clock j) object →
      Covers K.clock (old z) h → Covers K'.clock (new z) (after h)
  used old new object h z u y =
      ⊎_elim (λ same. subst (λ step. Covers K'.clock step (after h)) (sym same) (kept (old z) h y))
      (λ now. subst (λ step. Covers K'.clock step (after h)) (sym now.1) (heard_new h (heard_by K.clock (old z) h j y (u.ordered z now.0))))
      (u.change z)

  module _ (i : ℕ) (e : Move) (h : ℕ → Bool) (again : Bool) (y : StandsFor s K i e h again) where
    own_heard : h i ≡ true
    own_heard = y.own.known i y.own.past

    on_data : Conflict (touched e) (touched m) → h j ≡ true
    on_data d =
        ⊎_elim
        (λ w. heard_by K.clock (K.write d.first.place) h j (y.written d.first d.first_in w)
        (subst (λ p. is_heard (K.clock j) (K.write p) ≡ true) (sym d.same) (x.order d.second d.second_in).write_heard))
        (λ w. (y.was_read d.first d.first_in w).known j
        (subst (λ p. K.read p i ≤ K.clock j i) (sym d.same) ((x.order d.second d.second_in).reads_heard (other d.first.written d.second.written w d.written) i)))
        (cases_Bool d.first.written)
      where
        other : (a b : Bool) → a ≡ false → (a || b) ≡ true → b ≡ true
        other true b q o = absurd cc
        other false b q o = o

    on_barrier : (z : ℕ) → barrier_of_move e ≡ Some z → barrier_of_move m ≡ Some z → (h j ≡ true) ⊎ Meet s i e again m
    on_barrier z first second =
        ⊎_elim (λ y. inl (heard_by K.clock (K.barrier z) h j y (x.meets z (barrier_is m ∙ second))))
        (λ w. inr (record { barrier = z; first = w.at; second = awaits P s t j steps i z second w.waits; still = w.still; waits = w.waits }))
        (y.barrier z (barrier_is e ∙ first))

    -- the step happens behind those on which it depends
    pub ordered : Depends e j m → (h j ≡ true) ⊎ Meet s i e again m
    ordered (OnData conflict) = inl (on_data conflict)
    ordered (OnMutex z first second) =
        inl (heard_by K.clock (K.mutex z) h j (y.mutex z (mutex_is e ∙ first)) (x.mutex.ordered z (mutex_is m ∙ second)))
    ordered (OnBarrier z first second) = on_barrier z first second
    ordered (OnId z first second) = inl (heard_by K.clock (K.id z) h j (y.id z (id_is e ∙ first)) (x.id.ordered z (id_is m ∙ second)))
    ordered (OnAll main return) =
        let last = x.last (main_ended P s t j steps main return) i in
        let past = y.own.past in
        inl (y.own.known j (omega (arith, past, last)))

    -- and behind the last print, where prints are ordered
    pub ordered_prints : K'.one_output ≡ true → DependsOrPrints e j m → (h j ≡ true) ⊎ Meet s i e again m
    ordered_prints one (inl depends) = ordered depends
    ordered_prints one (inr both) =
        let o = x.outputs one in
        inl (heard_by K.clock K.print h j (y.print o.0 both.first) (o.1 (prints_is m ∙ both.second)))

    print_on : K'.one_output ≡ true → prints e ≡ true → Covers K'.clock K'.print (after h)
    print_on one q =
        let o = x.outputs one in
        let old = y.print o.0 q in
        ⊎_elim
        (λ w. subst (λ step. Covers K'.clock step (after h)) (sym (x.print ∙ ap (λ b. last_print b (next_stamp K.clock j) K.print) w))
        (heard_new h (heard_by K.clock K.print h j old (o.1 w))))
        (λ w. subst (λ step. Covers K'.clock step (after h)) (sym (x.print ∙ ap (λ b. last_print b (next_stamp K.clock j) K.print) w))
        (kept K.print h old)) (cases_Bool (is_print c))

    written_on : (a : Touch) → Contains (touched e) a → a.written ≡ true → Covers K'.clock (K'.write a.place) (after h)
    written_on a in_it w =
        ⊎_elim (λ same. subst (λ step. Covers K'.clock step (after h)) (sym same) (kept (K.write a.place) h (y.written a in_it w)))
        (λ now. subst (λ step. Covers K'.clock step (after h)) (sym now.0)
        (heard_new h
        (heard_by K.clock (K.write a.place) h j (y.written a in_it w)
        (subst (λ p. is_heard (K.clock j) (K.write p) ≡ true) now.3 (x.order now.1 now.2).write_heard))))
        (x.marks.write a.place)

    read_on : (a : Touch) → Contains (touched e) a → a.written ≡ false → Covers K'.clock (stamp i (K'.read a.place i)) (after h)
    read_on a in_it w =
        ⊎_elim (λ same. subst (λ n. Covers K'.clock (stamp i n) (after h)) (sym same) (kept (stamp i (K.read a.place i)) h (y.was_read a in_it w)))
        (λ now. subst (λ k. Covers K'.clock (stamp k (K'.read a.place i)) (after h)) (sym now.0)
        (subst (λ n. Covers K'.clock (stamp j n) (after h)) (sym now.1) (heard_new h (ap h (sym now.0) ∙ own_heard))))
        (x.marks.read a.place i)

    waiting_on : (z : ℕ) → IsWaiting s i e again z → Covers K'.clock (K'.barrier z) (after h) ⊎ IsWaiting t i e (again || nat_eq j i) z
    waiting_on z w =
        ⊎_elim
        (λ on. inr (record {
          at = w.at;
          still = or_from again (nat_eq j i) w.still (ne_eqb j i (λ q. stands_still P s t j steps i z w.waits (sym q)));
          waits = on;
        }))
        (λ (g : LetGo P s t j m i z). inl
        (subst (λ step. Covers K'.clock step (after h)) (sym (x.barrier.set z g.set))
        (covers_new K.clock K'.clock j c r x.clocks peaks (after h) (λ k q. told_all c r j z i h k g.kind g.own g.other own_heard q))))
        (waits_on P s t j steps i z w.waits)

    stays_class : StandsFor t K' i e (after h) (again || nat_eq j i)
    stays_class = record {
      number = y.number;
      own = kept (stamp i y.number) h y.own;
      written = written_on;
      was_read = read_on;
      print = print_on;
      mutex = λ z q. used K.mutex K'.mutex (mutex_of c) h z x.mutex (y.mutex z q);
      id = λ z q. used K.id K'.id (id_of c) h z x.id (y.id z q);
      barrier = λ z q.
          ⊎_elim (λ y. inl (used K.barrier K'.barrier (barrier_set c r) h z x.barrier y)) (λ w. waiting_on z w) (y.barrier z q);
    }

  new_class : StandsFor t K' j m (after (nat_eq j)) false
  new_class = record {
    number = K.clock j j + 1;
    own = own_new;
    written = λ a in_it w. subst (λ step. Covers K'.clock step (after (nat_eq j))) (sym (x.marks.written a in_it w)) own_new;
    was_read = λ a in_it w. subst (λ n. Covers K'.clock (stamp j n) (after (nat_eq j))) (sym (x.marks.was_read a in_it w)) own_new;
    print = λ one q.
        subst (λ step. Covers K'.clock step (after (nat_eq j)))
        (sym (x.print ∙ ap (λ b. last_print b (next_stamp K.clock j) K.print) (prints_is m ∙ q))) own_new;
    mutex = λ z q. subst (λ step. Covers K'.clock step (after (nat_eq j))) (sym (x.mutex.set z q)) own_new;
    id = λ z q. subst (λ step. Covers K'.clock step (after (nat_eq j))) (sym (x.id.set z q)) own_new;
    barrier = λ z q.
        ⊎_elim (λ set. inl (subst (λ step. Covers K'.clock step (after (nat_eq j))) (sym (x.barrier.set z set)) own_new))
        (λ w. inr (record { at = w.0; still = refl; waits = w.1 })) (sets P s t j steps z q);
  }

  told_as : (i : ℕ) (e : Move) (h : ℕ → Bool) (again : Bool) → StandsFor t K' i e (after h) again → StandsFor t K' i e (told s j m h) again
  told_as i e h again z =
      let on = λ (step : Stamp) (y : Covers K'.clock step (after h)). covers_as K'.clock step (after h) (told s j m h) (told_is s j m h) y in
      record {
        number = z.number;
        own = on (stamp i z.number) z.own;
        written = λ a in_it w. on (K'.write a.place) (z.written a in_it w);
        was_read = λ a in_it w. on (stamp i (K'.read a.place i)) (z.was_read a in_it w);
        print = λ one q. on K'.print (z.print one q);
        mutex = λ n q. on (K'.mutex n) (z.mutex n q);
        id = λ n q. on (K'.id n) (z.id n q);
        barrier = λ n q. ⊎_elim (λ y. inl (on (K'.barrier n) y)) (λ w. inr w) (z.barrier n q);
      }

  -- what is kept stands on for an earlier step
  pub stays : (i : ℕ) (e : Move) (h : ℕ → Bool) (again : Bool) → StandsFor s K i e h again → StandsFor t K' i e (told s j m h) (again || nat_eq j i)
  stays i e h again y = told_as i e h (again || nat_eq j i) (stays_class i e h again y)

  -- and for the new one
  pub stands_new : StandsFor t K' j m (told s j m (nat_eq j)) false
  stands_new = told_as j m (nat_eq j) false new_class

  pub noted_peaks : HasPeaks K'.clock
  noted_peaks = peaks_on K.clock K'.clock j c r x.clocks peaks
