-- What a step at a barrier leaves of it.
use Rattle.std.proofs.Common.{◌≡◌, ◌≢◌, ℕ, ◌+◌, List, [], ◌∷◌, length, refl, ap, sym, ◌∙◌, subst, ⊎_elim, inl, inr}
use Rattle.std.specs.Prelude.{◌⊎◌, Bool, true, false, if◌then◌else◌, nat_eq, Option, Some, None, slice_get, ℤ, unsigned_abs}
use Rattle.std.proofs.lemmas.Bool.{eq-eqb, cases_eq, or_left, or_right}
use Rattle.lists.proofs.Places.{set_there}
use Rattle.c_program.specs.Tree.{Program}
use Rattle.thread_semantics.specs.Work.{Act}
use Rattle.thread_semantics.specs.State.{Frame, Running, Barrier, NoBarrier, Awaits, State}
use Rattle.thread_semantics.specs.Move.{Move, move}
use Rattle.thread_semantics.specs.Step.{Steps, with_slot, moved, is_waiter, object_operand, step}
use Rattle.race_model.proofs.Lists.{list_any_at}
use Rattle.race_model.proofs.Sound.{goes, main_ends}
use Rattle.run_races.specs.Order.{move_in, next_move, barrier_of_move, awaited, ends, is_in, let_go, waits_in}
use Rattle.run_races.proofs.Effects.{come_to, act_effect}
use Rattle.run_races.proofs.SameObjects.{barrier_stays}
use Rattle.run_check.specs.declared.class.Class.TheVariants as class
use Rattle.run_check.specs.Class.{class_of, barrier_of, barrier_set, opened, released_by}

module _ (P : Program) (s t : State) (j : ℕ) where
  -- the barrier n before and behind a wait of thread j
  record WaitsAt (n : ℕ) : Type 0 where
    count : ℤ
    waiters : List ℕ
    was : slice_get s.barriers n ≡ Some (Awaits count waiters)
    is : slice_get t.barriers n ≡ Some (come_to j count waiters)

  waits_at : (offset : ℕ) (operands : List ℤ) (fs : List Frame) → moved P s j (Move.Acts offset Act.BarrierWait operands fs) ≡ Steps t →
      WaitsAt (object_operand operands)
  waits_at offset operands fs e =
      let f = act_effect P (with_slot s j (Running fs)) t j offset Act.BarrierWait operands e in
      record {
        count = f.0;
        waiters = f.1;
        was = f.2.was;
        is =
            ap (λ (u : State). slice_get u.barriers (object_operand operands)) f.2.is
            ∙ set_there s.barriers (object_operand operands) (Awaits f.0 f.1) (come_to j f.0 f.1) f.2.was;
      }

  -- who acts on a barrier where another one waits, waits there
  moved_awaits : (m : Move) (i x : ℕ) → moved P s j m ≡ Steps t → barrier_of_move m ≡ Some x → waits_in i (slice_get s.barriers x) ≡ true → awaited m ≡ Some x
  moved_awaits (Move.Acts offset Act.BarrierInit operands fs) i x e at w =
      let f = act_effect P (with_slot s j (Running fs)) t j offset Act.BarrierInit operands e in
      let same : object_operand operands ≡ x = cc in
      let there : waits_in i (slice_get s.barriers (object_operand operands)) ≡ true = subst (λ k. waits_in i (slice_get s.barriers k) ≡ true) (sym same) w in
      let no : waits_in i (Some NoBarrier) ≡ true = ap (waits_in i) (sym f.1.was) ∙ there in
      absurd cc
  moved_awaits (Move.Acts offset Act.BarrierDestroy operands fs) i x e at w =
      let f = act_effect P (with_slot s j (Running fs)) t j offset Act.BarrierDestroy operands e in
      let same : object_operand operands ≡ x = cc in
      let there : waits_in i (slice_get s.barriers (object_operand operands)) ≡ true = subst (λ k. waits_in i (slice_get s.barriers k) ≡ true) (sym same) w in
      let no : waits_in i (Some (Awaits f.0 [])) ≡ true = ap (waits_in i) (sym f.1.was) ∙ there in
      absurd cc
  moved_awaits (Move.Acts offset Act.BarrierWait operands fs) i x e at w = at
  moved_awaits (Move.Acts offset act operands fs) i x e at w = absurd cc
  moved_awaits m i x e at w = absurd cc

  -- who waits where thread j comes waits on, or both are let go
  pub record LetGo (m : Move) (i x : ℕ) : Type 0 where
    pub kind : class_of m ≡ class.Waits x
    pub other : is_in i (released_by s j (class_of m)) ≡ true
    pub own : is_in j (released_by s j (class_of m)) ≡ true
    pub set : barrier_set (class_of m) (released_by s j (class_of m)) ≡ Some x

  abbrev Goes_on : Move → ℕ → ℕ → Type 0
  Goes_on m i x = (waits_in i (slice_get t.barriers x) ≡ true) ⊎ LetGo m i x

  moved_waits : (m : Move) (i x : ℕ) → moved P s j m ≡ Steps t → awaited m ≡ Some x → waits_in i (slice_get s.barriers x) ≡ true → Goes_on m i x
  moved_waits (Move.Acts offset Act.BarrierWait operands fs) i x e at w =
      let m = Move.Acts offset Act.BarrierWait operands fs in
      let n = object_operand operands in
      let f = waits_at offset operands fs e in
      let same : n ≡ x = cc in
      let there : waits_in i (slice_get s.barriers n) ≡ true = subst (λ k. waits_in i (slice_get s.barriers k) ≡ true) (sym same) w in
      let waiter : is_in i f.waiters ≡ true = ap (waits_in i) (sym f.was) ∙ there in
      subst (λ k. Goes_on m i k) same (go f.count f.waiters waiter f.was f.is (nat_eq (length f.waiters + 1) (unsigned_abs f.count)) refl)
    where
      go : (count : ℤ) (waiters : List ℕ) → is_in i waiters ≡ true → slice_get s.barriers (object_operand operands) ≡ Some (Awaits count waiters) →
          slice_get t.barriers (object_operand operands) ≡ Some (come_to j count waiters) →
          (b : Bool) → nat_eq (length waiters + 1) (unsigned_abs count) ≡ b →
          Goes_on (Move.Acts offset Act.BarrierWait operands fs) i (object_operand operands)
      go count waiters waiter was is true q =
          let r : let_go j (slice_get s.barriers (object_operand operands)) ≡ j ∷ waiters =
          ap (let_go j) was ∙ ap (λ b. if b then j ∷ waiters else []) q in
          inr (record {
            kind = refl;
            other = ap (is_in i) r ∙ or_right (nat_eq i j) (is_in i waiters) waiter;
            own = ap (is_in j) r ∙ or_left (nat_eq j j) (is_in j waiters) (eq-eqb j j refl);
            set = ap (opened (object_operand operands)) r;
          })
      go count waiters waiter was is false q =
          let after : slice_get t.barriers (object_operand operands) ≡ Some (Awaits count (j ∷ waiters)) =
          is ∙ ap (λ b. Some (if b then Awaits count [] else Awaits count (j ∷ waiters))) q in
          inl (ap (waits_in i) after ∙ or_right (nat_eq i j) (is_in i waiters) waiter)
  moved_waits (Move.Acts offset act operands fs) i x e at w = absurd cc
  moved_waits m i x e at w = absurd cc

  -- thread j itself sets the barrier up, takes it away or opens it, or it waits there
  moved_set : (m : Move) (x : ℕ) → moved P s j m ≡ Steps t → barrier_of (class_of m) ≡ Some x →
      (barrier_set (class_of m) (released_by s j (class_of m)) ≡ Some x) ⊎ ((awaited m ≡ Some x) × (waits_in j (slice_get t.barriers x) ≡ true))
  moved_set (Move.Acts offset Act.BarrierInit operands fs) x e at = inl at
  moved_set (Move.Acts offset Act.BarrierDestroy operands fs) x e at = inl at
  moved_set (Move.Acts offset Act.BarrierWait operands fs) x e at =
      let f = waits_at offset operands fs e in
      go f.count f.waiters f.was f.is (nat_eq (length f.waiters + 1) (unsigned_abs f.count)) refl
    where
      go : (count : ℤ) (waiters : List ℕ) → slice_get s.barriers (object_operand operands) ≡ Some (Awaits count waiters) →
          slice_get t.barriers (object_operand operands) ≡ Some (come_to j count waiters) →
          (b : Bool) → nat_eq (length waiters + 1) (unsigned_abs count) ≡ b →
          (opened (object_operand operands) (let_go j (slice_get s.barriers (object_operand operands))) ≡ Some x)
          ⊎ ((Some (object_operand operands) ≡ Some x) × (waits_in j (slice_get t.barriers x) ≡ true))
      go count waiters was is true q =
          let r : let_go j (slice_get s.barriers (object_operand operands)) ≡ j ∷ waiters =
          ap (let_go j) was ∙ ap (λ b. if b then j ∷ waiters else []) q in
          inl (ap (opened (object_operand operands)) r ∙ at)
      go count waiters was is false q =
          let after : slice_get t.barriers (object_operand operands) ≡ Some (Awaits count (j ∷ waiters)) =
          is ∙ ap (λ b. Some (if b then Awaits count [] else Awaits count (j ∷ waiters))) q in
          let same : object_operand operands ≡ x = cc in
          inr (
            at,
            subst (λ k. waits_in j (slice_get t.barriers k) ≡ true) same
                (ap (waits_in j) after ∙ or_left (nat_eq j j) (is_in j waiters) (eq-eqb j j refl)),
          )
  moved_set (Move.Acts offset act operands fs) x e at = absurd cc
  moved_set m x e at = absurd cc

  moved_ended : (m : Move) → j ≡ 0 → moved P s j m ≡ Steps t → ends m ≡ true → t.ended ≡ true
  moved_ended (Move.Ends offset reads) main e r =
      let e0 : moved P s 0 (Move.Ends offset reads) ≡ Steps t = subst (λ k. moved P s k (Move.Ends offset reads) ≡ Steps t) main e in
      ap (λ (u : State). u.ended) (main_ends s t offset e0).1
  moved_ended (Move.Moves fs reads write) main e r = absurd cc
  moved_ended (Move.Acts offset act operands fs) main e r = absurd cc
  moved_ended (Move.Faults offset cause) main e r = absurd cc
  moved_ended Move.Impossible main e r = absurd cc

  module _ (steps : step P s j ≡ Steps t) where
    next_is : next_move P s j ≡ move P s.globals (goes P s t j steps).frames
    next_is = ap (move_in P s) (goes P s t j steps).at

    pub next_moves : moved P s j (next_move P s j) ≡ Steps t
    next_moves = subst (λ m. moved P s j m ≡ Steps t) (sym next_is) (goes P s t j steps).does

    pub awaits : (i x : ℕ) → barrier_of_move (next_move P s j) ≡ Some x → waits_in i (slice_get s.barriers x) ≡ true → awaited (next_move P s j) ≡ Some x
    awaits i x at w = moved_awaits (next_move P s j) i x next_moves at w

    pub sets : (x : ℕ) → barrier_of (class_of (next_move P s j)) ≡ Some x →
        (barrier_set (class_of (next_move P s j)) (released_by s j (class_of (next_move P s j))) ≡ Some x)
        ⊎ ((awaited (next_move P s j) ≡ Some x) × (waits_in j (slice_get t.barriers x) ≡ true))
    sets x at = moved_set (next_move P s j) x next_moves at

    pub main_ended : j ≡ 0 → ends (next_move P s j) ≡ true → t.ended ≡ true
    main_ended main r = moved_ended (next_move P s j) main next_moves r

    pub waits_on : (i x : ℕ) → waits_in i (slice_get s.barriers x) ≡ true →
        (waits_in i (slice_get t.barriers x) ≡ true) ⊎ LetGo (next_move P s j) i x
    waits_on i x w = go (barrier_of_move (next_move P s j)) refl
      where
        go : (o : Option ℕ) → barrier_of_move (next_move P s j) ≡ o → Goes_on (next_move P s j) i x
        go None q = inl (ap (waits_in i) (barrier_stays P s t j x steps (λ e. cc)) ∙ w)
        go (Some n) q =
            ⊎_elim
            (λ same. moved_waits (next_move P s j) i x next_moves (awaits i x (q ∙ ap Some same) w) w)
            (λ apart. inl (ap (waits_in i) (barrier_stays P s t j x steps (λ e. apart (let is : n ≡ x = cc in is))) ∙ w))
            (cases_eq n x)

    -- who waits doesn't step
    pub stands_still : (i x : ℕ) → waits_in i (slice_get s.barriers x) ≡ true → i ≢ j
    stands_still i x w same =
        let free = (goes P s t j steps).free in
        still (slice_get s.barriers x) refl w
      where
        still : (o : Option Barrier) → slice_get s.barriers x ≡ o → waits_in i o ≡ true → ⊥
        still None at w = cc
        still (Some b) at w =
            let no = list_any_at (is_waiter j) s.barriers x b (goes P s t j steps).free at in
            let yes : is_waiter j b ≡ true = subst (λ k. is_waiter k b ≡ true) same w in
            cc
