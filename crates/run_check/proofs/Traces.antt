-- What is kept of a run is of its steps: who has heard of such a step has heard of its stamp.
use Rattle.std.proofs.Common.{◌≡◌, ℕ, List, [], ◌∷◌, ◌++◌, refl, ap, ap₂, sym, ◌∙◌, subst, ⊎_elim, inl, inr, append_assoc, arith}
use Rattle.std.specs.Prelude.{Bool, true, false, nat_eq}
use Rattle.std.proofs.lemmas.Bool.{leb-false, cases_Bool}
use Rattle.c_program.specs.Tree.{Program}
use Rattle.thread_semantics.specs.State.{State, start}
use Rattle.thread_semantics.specs.Step.{Stepped, Steps, Blocks, Undefines, step, and_steps, after}
use Rattle.thread_semantics.specs.Races.{touched}
use Rattle.run_races.specs.Order.{next_move, told}
use Rattle.run_check.specs.declared.clocks.Stamp.{Stamp}
use Rattle.run_check.specs.Clocks.{is_heard}
use Rattle.run_check.specs.Class.{class_of, is_print, released_by}
use Rattle.run_check.specs.Shadow.{Shadow, stamp, next_stamp, last_print, IsNoted}
use Rattle.run_check.specs.Unordered.{StepOf, heard_behind, has_heard, Sets, PrintsUnordered}
use Rattle.run_check.specs.Shown.{HasPeaks, IsTraced, Traced, Touches, Writes, UsesMutex, UsesId, Prints, Any, IsOf}
use Rattle.run_check.proofs.Telling.{told_class, told_is, prints_is}
use Rattle.run_check.proofs.Covers.{ticked_cases, heard_on, heard_new, own_on}

and_rest : (P : Program) (stepped : Stepped) (xs ys : List ℕ) (u s : State) → and_steps P stepped xs ≡ Steps u → and_steps P stepped (xs ++ ys) ≡ Steps s →
    and_steps P (Steps u) ys ≡ Steps s
and_rest P stepped [] ys u s e q = subst (λ x. and_steps P x ys ≡ Steps s) e q
and_rest P (Steps v) (i ∷ xs) ys u s e q = and_rest P (step P v i) xs ys u s e q
and_rest P (Blocks cause) (i ∷ xs) ys u s e q = absurd cc
and_rest P (Undefines offset cause) (i ∷ xs) ys u s e q = absurd cc

-- who has heard of a step behind one more
heard_more : (P : Program) (stepped : Stepped) (xs : List ℕ) (s : State) (j : ℕ) (h : ℕ → Bool) → and_steps P stepped xs ≡ Steps s →
    heard_behind P stepped (xs ++ j ∷ []) h ≡ told s j (next_move P s j) (heard_behind P stepped xs h)
heard_more P (Steps u) [] s j h e = let same : u ≡ s = cc in ap (λ v. told v j (next_move P v j) h) same
heard_more P (Blocks cause) [] s j h e = absurd cc
heard_more P (Undefines offset cause) [] s j h e = absurd cc
heard_more P (Steps u) (i ∷ xs) s j h e = heard_more P (step P u i) xs s j (told u i (next_move P u i) h) e
heard_more P (Blocks cause) (i ∷ xs) s j h e = absurd cc
heard_more P (Undefines offset cause) (i ∷ xs) s j h e = absurd cc

-- a step of the list, such a one, of which thread j hasn't heard
pub record Unheard (P : Program) (list : List ℕ) (j : ℕ) (Is : State → ℕ → Type 0) : Type 0 where
  pub at : StepOf P list
  pub is : Is at.state at.thread
  pub unheard : has_heard P list at j ≡ false

pub unheard_at : (P : Program) (list : List ℕ) (clock : ℕ → ℕ → ℕ) (j : ℕ) (v : Stamp) (Is : State → ℕ → Type 0) → Traced P list clock v Is →
    is_heard (clock j) v ≡ false → Unheard P list j Is
unheard_at P list clock j v Is y missed =
    let less = leb-false v.number (clock j v.thread) missed in
    ⊎_elim (λ none. absurd (omega (arith, none, less)))
    (λ (w : IsTraced P list clock v Is). record {
      at = w.at;
      is = w.is;
      unheard =
          ⊎_elim (λ yes. absurd (let most = w.heard j yes in omega (arith, most, less))) (λ q. q) (cases_Bool (has_heard P list w.at j));
    }) y

pub none_of : (P : Program) (K : Shadow) → ((j k : ℕ) → K.clock j k ≡ 0) → ((p : _) → (K.write p).number ≡ 0) → ((p : _) (k : ℕ) → K.read p k ≡ 0) →
    ((x : ℕ) → (K.mutex x).number ≡ 0) → ((x : ℕ) → (K.barrier x).number ≡ 0) → ((x : ℕ) → (K.id x).number ≡ 0) → K.print.number ≡ 0 → IsOf P [] K
none_of P K clock write read mutex barrier id print = record {
  own = λ k. inl (clock k k);
  write = λ p. inl (write p);
  read = λ p k. inl (read p k);
  mutex = λ x. inl (mutex x);
  barrier = λ x. inl (barrier x);
  id = λ x. inl (id x);
  print = inl print;
}

module _ (P : Program) (list : List ℕ) (s t : State) (j : ℕ) (K K' : Shadow) (taken : after P list ≡ Steps s) (peaks : HasPeaks K.clock)
    (x : IsNoted K K' j (class_of (next_move P s j)) (touched (next_move P s j)) (released_by s j (class_of (next_move P s j))) t.ended) where
  abbrev more : List ℕ
  more = list ++ j ∷ []

  -- a step of the list is one of the longer list
  abbrev later : StepOf P list → StepOf P more
  later e = record {
    before = e.before;
    thread = e.thread;
    behind = e.behind ++ j ∷ [];
    is = ap (λ l. l ++ j ∷ []) e.is ∙ append_assoc e.before (e.thread ∷ e.behind) (j ∷ []);
    state = e.state;
    taken = e.taken;
  }

  abbrev last : StepOf P more
  last = record { before = list; thread = j; behind = []; is = refl; state = s; taken = taken }

  leads : (e : StepOf P list) → and_steps P (Steps e.state) (e.thread ∷ e.behind) ≡ Steps s
  leads e =
      and_rest P (Steps (start P)) e.before (e.thread ∷ e.behind) e.state s e.taken (subst (λ l. after P l ≡ Steps s) e.is taken)

  heard_later : (e : StepOf P list) (k : ℕ) → has_heard P more (later e) k ≡ true →
      told_class (class_of (next_move P s j)) (released_by s j (class_of (next_move P s j))) j (has_heard P list e) k ≡ true
  heard_later e k q =
      sym (told_is s j (next_move P s j) (has_heard P list e) k)
      ∙ ap (λ (f : ℕ → Bool). f k) (sym (heard_more P (Steps e.state) (e.thread ∷ e.behind) s j (nat_eq e.thread) (leads e))) ∙ q

  traced_on : (v : Stamp) (Is : State → ℕ → Type 0) → Traced P list K.clock v Is → Traced P more K'.clock v Is
  traced_on v Is y =
      ⊎_elim (λ none. inl none)
      (λ (z : IsTraced P list K.clock v Is). inr (record {
        at = later z.at;
        thread = z.thread;
        is = z.is;
        heard = λ k q.
            heard_on K.clock K'.clock j (class_of (next_move P s j)) (released_by s j (class_of (next_move P s j))) x.clocks v (has_heard P list z.at) z.heard k
            (heard_later z.at k q);
      })) y

  traced_new : (v : Stamp) (Is : State → ℕ → Type 0) → Is s j → v ≡ next_stamp K.clock j → Traced P more K'.clock v Is
  traced_new v Is y e = subst (λ u. Traced P more K'.clock u Is) (sym e) (inr new)
    where
      new : IsTraced P more K'.clock (next_stamp K.clock j) Is
      new = record {
        at = last;
        thread = refl;
        is = y;
        heard = λ k q.
            heard_new K.clock K'.clock j (class_of (next_move P s j)) (released_by s j (class_of (next_move P s j))) x.clocks k
            (sym (told_is s j (next_move P s j) (nat_eq j) k) ∙ q);
      }

  -- the same stamp, or that of the new step
  kept : (old new : Stamp) (Is : State → ℕ → Type 0) → Traced P list K.clock old Is → new ≡ old → Traced P more K'.clock new Is
  kept old new Is y e = subst (λ u. Traced P more K'.clock u Is) (sym e) (traced_on old Is y)

  pub one_more_of : IsOf P list K → IsOf P more K'
  one_more_of z = record {
    own = λ k.
        let now = own_on K.clock K'.clock j (class_of (next_move P s j)) (released_by s j (class_of (next_move P s j))) x.clocks peaks k in
        ⊎_elim (λ q. traced_new (stamp k (K'.clock k k)) Any tt (ap₂ stamp q.0 (now ∙ q.2)))
        (λ q. kept (stamp k (K.clock k k)) (stamp k (K'.clock k k)) Any (z.own k) (ap (stamp k) (now ∙ q))) (ticked_cases K.clock j k k);
    write = λ p.
        ⊎_elim (λ q. kept (K.write p) (K'.write p) (Writes P p) (z.write p) q)
        (λ q. traced_new (K'.write p) (Writes P p) (q.1, q.2, q.3, q.4) q.0) (x.marks.write p);
    read = λ p k.
        ⊎_elim (λ q. kept (stamp k (K.read p k)) (stamp k (K'.read p k)) (Touches P p) (z.read p k) (ap (stamp k) q))
        (λ q. traced_new (stamp k (K'.read p k)) (Touches P p) (q.2, q.3, q.4) (ap₂ stamp q.0 q.1)) (x.marks.read p k);
    mutex = λ n.
        ⊎_elim (λ q. kept (K.mutex n) (K'.mutex n) (UsesMutex P n) (z.mutex n) q)
        (λ q. traced_new (K'.mutex n) (UsesMutex P n) q.0 q.1) (x.mutex.change n);
    barrier = λ n.
        ⊎_elim (λ q. kept (K.barrier n) (K'.barrier n) (Sets P n) (z.barrier n) q)
        (λ q. traced_new (K'.barrier n) (Sets P n) q.0 q.1) (x.barrier.change n);
    id = λ n.
        ⊎_elim (λ q. kept (K.id n) (K'.id n) (UsesId P n) (z.id n) q)
        (λ q. traced_new (K'.id n) (UsesId P n) q.0 q.1) (x.id.change n);
    print =
        ⊎_elim
        (λ q. traced_new K'.print (Prints P) (sym (prints_is (next_move P s j)) ∙ q)
        (x.print ∙ ap (λ b. last_print b (next_stamp K.clock j) K.print) q))
        (λ q. kept K.print K'.print (Prints P) z.print (x.print ∙ ap (λ b. last_print b (next_stamp K.clock j) K.print) q))
        (cases_Bool (is_print (class_of (next_move P s j))));
  }

  -- once prints aren't ordered, they never are
  pub prints_lost : IsOf P list K → (K.one_output ≡ false → PrintsUnordered P list) → K'.one_output ≡ false → PrintsUnordered P more
  prints_lost z old none =
      ⊎_elim
      (λ q. let w : PrintsUnordered P list = old q in
      record { later = later w.later; prints_later = w.prints_later; earlier = w.earlier; prints_earlier = w.prints_earlier; unheard = w.unheard })
      (λ q. let y : Unheard P list j (Prints P) = unheard_at P list K.clock j K.print (Prints P) z.print q.1 in
      record { later = last; prints_later = sym (prints_is (next_move P s j)) ∙ q.0; earlier = y.at; prints_earlier = y.is; unheard = y.unheard })
      (x.outputs_lost none)
