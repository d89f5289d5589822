-- A list has one end of its walk, and one output.
use Rattle.std.proofs.Common.{◌≡◌, ℕ, zero, suc, ◌+◌, ◌<◌, ◌≤◌, Bool, true, false, List, [], ◌∷◌, ◌++◌, refl, ap, sym, subst, ◌∙◌}
use Rattle.std.proofs.Common.{length, take, drop, get_or, arith, Some, inl, inr}
use Rattle.std.proofs.Math.Seq.{take-suc}
use Rattle.std.proofs.lemmas.List.{take-take, take-append-drop}
use Rattle.std.proofs.lemmas.Option.{slice_get_within, get_or_from_slice_get, slice_get-get_or}
use Rattle.std.proofs.lemmas.Bool.{cases_order}
use Rattle.std.specs.Prelude.{slice_get}
use Rattle.c_program.specs.Tree.{Program}
use Rattle.thread_semantics.specs.declared.cause.BlockedCause.{BlockedCause}
use Rattle.thread_semantics.specs.declared.cause.UndefinedCause.{UndefinedCause}
use Rattle.thread_semantics.specs.State.{State, start}
use Rattle.thread_semantics.specs.Step.{Stepped, Steps, Blocks, Undefines, step, and_steps, after}
use Rattle.c_interpreter.specs.declared.walk.WalkEnd.{WalkEnd}
use Rattle.c_interpreter.specs.declared.walk.WalkEnd.TheVariants as ends
use Rattle.c_interpreter.specs.Walk.{Takes, IsAt, Comes, IsWalk}
use Rattle.c_interpreter.proofs.LongerWalks.{and_steps-append, takes_more, start_at}

-- what is blocked or undefined leads on to no state
and_steps-prefix : (P : Program) (xs : List ℕ) (a : Stepped) (ys : List ℕ) (s : State) → and_steps P a (xs ++ ys) ≡ Steps s →
    (t : State) × (and_steps P a xs ≡ Steps t)
and_steps-prefix P [] (Steps t) ys s e = (t, refl)
and_steps-prefix P [] (Blocks cause) [] s e = (s, e)
and_steps-prefix P [] (Blocks cause) (y ∷ ys) s e = absurd (let z : Blocks cause ≡ Steps s = e in cc)
and_steps-prefix P [] (Undefines offset cause) [] s e = (s, e)
and_steps-prefix P [] (Undefines offset cause) (y ∷ ys) s e = absurd (let z : Undefines offset cause ≡ Steps s = e in cc)
and_steps-prefix P (x ∷ xs) (Steps t) ys s e = and_steps-prefix P xs (step P t x) ys s e
and_steps-prefix P (x ∷ xs) (Blocks cause) ys s e = (s, e)
and_steps-prefix P (x ∷ xs) (Undefines offset cause) ys s e = (s, e)

-- a step that leads to no state
abbrev pub NeverSteps : Stepped → Type 0
NeverSteps a = (u : State) → a ≡ Steps u → ⊥

module _ (P : Program) (list : List ℕ) where
  same_state : (n m : ℕ) (s t : State) → n ≡ m → after P (take n list) ≡ Steps s → after P (take m list) ≡ Steps t → s ≡ t
  same_state n m s t same a b =
      let e : Steps s ≡ Steps t = sym a ∙ ap (λ k. after P (take k list)) same ∙ b in
      cc

  -- a step before one that is taken is taken
  is_taken_before : (n k i : ℕ) (s t : State) → n ≤ length list → after P (take n list) ≡ Steps s → k < n → after P (take k list) ≡ Steps t →
      slice_get list k ≡ Some i → (u : State) × (step P t i ≡ Steps u)
  is_taken_before n k i s t within taken h at there =
      let parts : take (suc k) list ++ drop (suc k) (take n list) ≡ take n list =
      ap (λ l. l ++ drop (suc k) (take n list)) (sym (take-take (suc k) n list (omega (arith, h)))) ∙ take-append-drop (suc k) (take n list) in
      let front = and_steps-prefix P (take (suc k) list) (Steps (start P)) (drop (suc k) (take n list)) s (ap (after P) parts ∙ taken) in
      let one_more : take (suc k) list ≡ take k list ++ i ∷ [] =
      take-suc list k i (slice_get_within list k i there) ∙ ap (λ x. take k list ++ x ∷ []) (get_or_from_slice_get list k i i there) in
      (front.0, sym (and_steps-append P (take k list) (Steps (start P)) t i at) ∙ ap (after P) (sym one_more) ∙ front.1)

  -- how many steps end main
  never_beyond : (n m : ℕ) (s t : State) → Takes P list n s → s.ended ≡ true → Takes P list m t → m ≤ n
  never_beyond n m s t a ended b = elim (cases_order n m) [
    | inl e ↦ omega (arith, e)
    | inr (inl h) ↦ absurd (let z : true ≡ false = sym ended ∙ b.earlier n s h a.taken in cc)
    | inr (inr h) ↦ omega (arith, h)
  ]

  ends_once : (n m : ℕ) (s t : State) → Takes P list n s → s.ended ≡ true → Takes P list m t → t.ended ≡ true → n ≡ m
  ends_once n m s t a x b y =
      let p : m ≤ n = never_beyond n m s t a x b in
      let q : n ≤ m = never_beyond m n t s b y a in
      omega (arith, p, q)

  -- no step that isn't taken stands before one that leads on
  never_stops : (n k i : ℕ) (s t : State) (stepped : Stepped) → Takes P list n s → Comes P list k i t stepped → NeverSteps stepped → n ≤ k
  never_stops n k i s t stepped a b stops = elim (cases_order k n) [
    | inl e ↦ omega (arith, e)
    | inr (inl h) ↦ absurd (let c = is_taken_before n k i s t a.within a.taken h b.before.taken b.there in stops c.0 (sym b.answer ∙ c.1))
    | inr (inr h) ↦ omega (arith, h)
  ]

  never_ended : (n k i : ℕ) (s t : State) (stepped : Stepped) → Takes P list n s → s.ended ≡ true → Comes P list k i t stepped → NeverSteps stepped → ⊥
  never_ended n k i s t stepped a ended b stops =
      let p : n ≤ k = never_stops n k i s t stepped a b stops in
      let q : k ≤ n = never_beyond n k s t a ended b.before in
      let e : s ≡ t = same_state n k s t (omega (arith, p, q)) a.taken b.before.taken in
      let z : true ≡ false = sym ended ∙ ap (λ (x : State). x.ended) e ∙ b.running in
      cc

  never_listed : (k i : ℕ) (s t : State) (stepped : Stepped) → Takes P list (length list) s → Comes P list k i t stepped → NeverSteps stepped → ⊥
  never_listed k i s t stepped a b stops =
      let p : length list ≤ k = never_stops (length list) k i s t stepped a b stops in
      let q : k < length list = slice_get_within list k i b.there in
      absurd (omega (arith, p, q))

  record Same (k l i j : ℕ) (s t : State) (a b : Stepped) : Type 0 where
    index : k ≡ l
    thread : i ≡ j
    state : s ≡ t
    stepped : a ≡ b

  stops_once : (k l i j : ℕ) (s t : State) (a b : Stepped) → Comes P list k i s a → NeverSteps a → Comes P list l j t b → NeverSteps b →
      Same k l i j s t a b
  stops_once k l i j s t a b x stuck y never =
      let p : k ≤ l = never_stops k l j s t b x.before y never in
      let q : l ≤ k = never_stops l k i t s a y.before x stuck in
      let e : k ≡ l = omega (arith, p, q) in
      let same : s ≡ t = same_state k l s t e x.before.taken y.before.taken in
      let got : Some i ≡ Some j = sym x.there ∙ ap (slice_get list) e ∙ y.there in
      let numbers : i ≡ j = cc in
      record {
        index = e;
        thread = numbers;
        state = same;
        stepped = sym x.answer ∙ ap (λ (u : State). step P u i) same ∙ ap (step P t) numbers ∙ y.answer;
      }

  never_steps_blocked : (c : BlockedCause) → NeverSteps (Blocks c)
  never_steps_blocked c u e = cc

  never_steps_undefined : (offset : ℕ) (c : UndefinedCause) → NeverSteps (Undefines offset c)
  never_steps_undefined offset c u e = cc

  one_output : (s t : State) (x y : List ℕ) → s ≡ t → s.output ≡ x → t.output ≡ y → x ≡ y
  one_output s t x y e a b = sym a ∙ ap (λ (u : State). u.output) e ∙ b

  -- a list has one end
  pub one_end : (e f : WalkEnd) (x y : List ℕ) → IsWalk P list e x → IsWalk P list f y → (e ≡ f) × (x ≡ y)
  one_end (ends.Ended n) (ends.Ended m) x y (s, (a, ended), sx) (t, (b, stopped), ty) =
      let e : n ≡ m = ends_once n m s t a ended b stopped in
      (ap (λ k. ends.Ended k) e, one_output s t x y (same_state n m s t e a.taken b.taken) sx ty)
  one_end (ends.Ended n) (ends.Listed m) x y (s, (a, ended), sx) (t, (b, going, all), ty) =
      let p : m ≤ n = never_beyond n m s t a ended b in
      let q : n ≤ length list = a.within in
      let e : s ≡ t = same_state n m s t (omega (arith, p, q, all)) a.taken b.taken in
      absurd (let z : true ≡ false = sym ended ∙ ap (λ (u : State). u.ended) e ∙ going in cc)
  one_end (ends.Ended n) (ends.Blocked k i c) x y (s, (a, ended), sx) (t, b, ty) = absurd (never_ended n k i s t (Blocks c) a ended b (never_steps_blocked c))
  one_end (ends.Ended n) (ends.Undefined k o c) x y (s, (a, ended), sx) (t, (i, b), ty) = absurd (never_ended n k i s t (Undefines o c) a ended b (never_steps_undefined o c))
  one_end (ends.Listed n) (ends.Ended m) x y (s, (a, going, all), sx) (t, (b, ended), ty) =
      let p : n ≤ m = never_beyond m n t s b ended a in
      let q : m ≤ length list = b.within in
      let e : t ≡ s = same_state m n t s (omega (arith, p, q, all)) b.taken a.taken in
      absurd (let z : true ≡ false = sym ended ∙ ap (λ (u : State). u.ended) e ∙ going in cc)
  one_end (ends.Listed n) (ends.Listed m) x y (s, (a, going, all), sx) (t, (b, on, whole), ty) =
      let e : n ≡ m = all ∙ sym whole in
      (ap (λ k. ends.Listed k) e, one_output s t x y (same_state n m s t e a.taken b.taken) sx ty)
  one_end (ends.Listed n) (ends.Blocked k i c) x y (s, (a, going, all), sx) (t, b, ty) =
      absurd (never_listed k i s t (Blocks c) (subst (λ k. Takes P list k s) all a) b (never_steps_blocked c))
  one_end (ends.Listed n) (ends.Undefined k o c) x y (s, (a, going, all), sx) (t, (i, b), ty) =
      absurd (never_listed k i s t (Undefines o c) (subst (λ k. Takes P list k s) all a) b (never_steps_undefined o c))
  one_end (ends.Blocked k i c) (ends.Ended m) x y (s, a, sx) (t, (b, ended), ty) = absurd (never_ended m k i t s (Blocks c) b ended a (never_steps_blocked c))
  one_end (ends.Blocked k i c) (ends.Listed m) x y (s, a, sx) (t, (b, on, whole), ty) =
      absurd (never_listed k i t s (Blocks c) (subst (λ k. Takes P list k t) whole b) a (never_steps_blocked c))
  one_end (ends.Blocked k i c) (ends.Blocked l j d) x y (s, a, sx) (t, b, ty) =
      let same = stops_once k l i j s t (Blocks c) (Blocks d) a (never_steps_blocked c) b (never_steps_blocked d) in
      let causes : Blocks c ≡ Blocks d = same.stepped in
      let cause : c ≡ d = cc in
      (ap (λ n. ends.Blocked n i c) same.index ∙ ap (λ n. ends.Blocked l n c) same.thread ∙ ap (λ z. ends.Blocked l j z) cause, one_output s t x y same.state sx ty)
  one_end (ends.Blocked k i c) (ends.Undefined l o d) x y (s, a, sx) (t, (j, b), ty) =
      let same = stops_once k l i j s t (Blocks c) (Undefines o d) a (never_steps_blocked c) b (never_steps_undefined o d) in
      absurd (let z : Blocks c ≡ Undefines o d = same.stepped in cc)
  one_end (ends.Undefined k o c) (ends.Ended m) x y (s, (i, a), sx) (t, (b, ended), ty) = absurd (never_ended m k i t s (Undefines o c) b ended a (never_steps_undefined o c))
  one_end (ends.Undefined k o c) (ends.Listed m) x y (s, (i, a), sx) (t, (b, on, whole), ty) =
      absurd (never_listed k i t s (Undefines o c) (subst (λ k. Takes P list k t) whole b) a (never_steps_undefined o c))
  one_end (ends.Undefined k o c) (ends.Blocked l j d) x y (s, (i, a), sx) (t, b, ty) =
      let same = stops_once k l i j s t (Undefines o c) (Blocks d) a (never_steps_undefined o c) b (never_steps_blocked d) in
      absurd (let z : Undefines o c ≡ Blocks d = same.stepped in cc)
  one_end (ends.Undefined k o c) (ends.Undefined l p d) x y (s, (i, a), sx) (t, (j, b), ty) =
      let same = stops_once k l i j s t (Undefines o c) (Undefines p d) a (never_steps_undefined o c) b (never_steps_undefined p d) in
      let causes : Undefines o c ≡ Undefines p d = same.stepped in
      let offset : o ≡ p = cc in
      let cause : c ≡ d = cc in
      (ap (λ n. ends.Undefined n o c) same.index ∙ ap (λ n. ends.Undefined l n c) offset ∙ ap (λ z. ends.Undefined l p z) cause, one_output s t x y same.state sx ty)

  abbrev pub IsSomeWalk : Type 0
  IsSomeWalk = (e : WalkEnd) × (x : List ℕ) × IsWalk P list e x

  module _ (k : ℕ) (s : State) (at : IsAt P list k s) (later : (t : State) → IsAt P list (suc k) t → IsSomeWalk) where
    after_step : (t : State) → Takes P list (suc k) t → (b : Bool) → t.ended ≡ b → IsSomeWalk
    after_step t takes true ended = (ends.Ended (suc k), t.output, (t, (takes, ended), refl))
    after_step t takes false going = later t (record { so_far = takes; running = going })

    from_step : (i : ℕ) → slice_get list k ≡ Some i → (a : Stepped) → step P s i ≡ a → IsSomeWalk
    from_step i there (Steps t) is = after_step t (takes_more P list k s t i at.so_far at.running there is) t.ended refl
    from_step i there (Blocks c) is =
        (ends.Blocked k i c, s.output, (s, record { before = at.so_far; running = at.running; there = there; answer = is }, refl))
    from_step i there (Undefines o c) is =
        (ends.Undefined k o c, s.output, (s, (i, record { before = at.so_far; running = at.running; there = there; answer = is }), refl))

  -- from a state on the way the walk goes on to an end
  has_end_from : (rest k : ℕ) (s : State) → IsAt P list k s → k + rest ≡ length list → IsSomeWalk
  has_end_from zero k s at e = (ends.Listed k, s.output, (s, (at.so_far, at.running, (let h : k ≡ length list = omega (arith, e) in h)), refl))
  has_end_from (suc rest) k s at e =
      from_step k s at (λ t h. has_end_from rest (suc k) t h (omega (arith, e)))
      (get_or list k 0) (slice_get-get_or list k 0 (omega (arith, e))) (step P s (get_or list k 0)) refl

  pub has_end : IsSomeWalk
  has_end = has_end_from (length list) 0 (start P) (start_at P list) (omega arith)
