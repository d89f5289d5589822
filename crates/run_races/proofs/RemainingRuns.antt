-- A step of an interleaving leaves a clean run: the rest of the one that there was, of which the thread's first step is taken
-- out; where that step can be exchanged with each one before it.
use Rattle.std.proofs.Common.{◌≡◌, ◌≢◌, ℕ, suc, List, length, [], ◌∷◌, refl, ap, sym, ◌∙◌, subst, ⊎_elim, inl, inr}
use Rattle.std.specs.Prelude.{◌⊎◌, Bool, true, false, ◌||◌, nat_eq, Some}
use Rattle.std.proofs.lemmas.Bool.{cases_eq, ne_eqb}
use Rattle.c_program.specs.Tree.{Program}
use Rattle.c_program.specs.Resolved.{IsResolved}
use Rattle.thread_semantics.specs.Work.{Act}
use Rattle.thread_semantics.specs.State.{State}
use Rattle.thread_semantics.specs.Move.{Move, move}
use Rattle.thread_semantics.specs.Step.{Steps, object_operand, is_running, is_live, step}
use Rattle.race_model.proofs.Sound.{IsSound, goes, step_sound}
use Rattle.run_races.specs.Order.{move_in, next_move, awaited, prints, told_by_act, told, Meet, Depends, BothPrint, AllOrderedBy, AllOrdered}
use Rattle.run_races.specs.Clean.{IsOrderedBy, IsClean}
use Rattle.run_races.proofs.StandingThreads.{Stands, step_stands}
use Rattle.run_races.proofs.UnheardSteps.{unheard}
use Rattle.run_races.proofs.DefinedSteps.{fate, not_before}
use Rattle.run_races.proofs.Partners.{partner}
use Rattle.run_races.proofs.AlikeStates.{Alike, step_alike}
use Rattle.run_races.proofs.AlikeRuns.{alike_turn, next_alike, ordered_alike, clean_alike}
use Rattle.run_races.proofs.Changes.{output_behind, moved_left}
use Rattle.run_races.proofs.ToldThreads.{or_turn}
use Rattle.run_races.proofs.GoodPrograms.{IsReached, one_step, GoesOn}

-- thread i can step from s to a, and thread j to t; i behind j and j behind i lead to states that are alike, the same threads
-- have heard of each earlier step, and who met thread j meets it still
pub record Swap (P : Program) (s a t : State) (i j : ℕ) : Type 0 where
  pub last : State
  pub other : State
  pub behind : step P t i ≡ Steps last
  pub ahead : step P a j ≡ Steps other
  pub alike : Alike last other
  pub output : (prints (next_move P s i) ≡ true → prints (next_move P s j) ≡ true → ⊥) → other.output ≡ last.output
  pub same : next_move P a j ≡ next_move P s j
  pub tells : (heard : ℕ → Bool) → told t i (next_move P t i) (told s j (next_move P s j) heard) ≡ told a j (next_move P a j) (told s i (next_move P s i) heard)
  -- of the step of j itself the same have heard
  pub own : told t i (next_move P t i) (told s j (next_move P s j) (nat_eq j)) ≡ told a j (next_move P a j) (nat_eq j)
  pub fresh : nat_eq i j ≡ false
  pub meets : (k : ℕ) (m : Move) (again : Bool) → Meet s k m again (next_move P s j) → Meet a k m (again || nat_eq i k) (next_move P a j)

-- in a clean run each step can be exchanged with one that could have been taken before it
abbrev pub Exchange : Program → Type 0
Exchange P =
    (s a : State) (i j : ℕ) (list : List ℕ) → i ≢ j → IsSound P s → IsReached P s → step P s i ≡ Steps a → (clean : IsClean P s (j ∷ list)) → Swap P s a clean.0 i j

or_true : (a b : Bool) → a ≡ true → (a || b) ≡ true
or_true true b e = refl
or_true false b e = absurd cc

-- who has heard of a step has heard of it
act_grows : (s : State) (i : ℕ) (act : Act) (n : ℕ) (heard : ℕ → Bool) (k : ℕ) → heard k ≡ true → told_by_act s i act n heard k ≡ true
act_grows s i (Act.Create routine) n heard k e = or_true (heard k) _ e
act_grows s i Act.Join n heard k e = or_true (heard k) _ e
act_grows s i Act.BarrierWait n heard k e = or_true (heard k) _ e
act_grows s i act n heard k e = e

told_grows : (s : State) (i : ℕ) (m : Move) (heard : ℕ → Bool) (k : ℕ) → heard k ≡ true → told s i m heard k ≡ true
told_grows s i (Move.Acts offset act operands frames) heard k e = act_grows s i act (object_operand operands) heard k e
told_grows s i m heard k e = e

-- the run list from s ends with this output
abbrev pub EndsWith : Program → State → List ℕ → List ℕ → Type 0
EndsWith P s [] output = s.output ≡ output
EndsWith P s (i ∷ list) output = (t : State) → step P s i ≡ Steps t → EndsWith P t list output

step_output : (P : Program) (s t : State) (i : ℕ) → step P s i ≡ Steps t → t.output ≡ output_behind (next_move P s i) s.output
step_output P s t i e =
    let g = goes P s t i e in
    let is : next_move P s i ≡ move P s.globals g.frames = ap (move_in P s) g.at in
    ap (λ (u : State). u.output) (moved_left P s t i (move P s.globals g.frames) g.does) ∙ ap (λ m. output_behind m s.output) (sym is)

-- and from a state that differs in the order of waiters alone it ends with the same
ends_alike : (P : Program) (list : List ℕ) (s t : State) (output : List ℕ) → Alike s t → t.output ≡ s.output → EndsWith P s list output → EndsWith P t list output
ends_alike P [] s t output x same ends = same ∙ ends
ends_alike P (i ∷ list) s t output x same ends = λ u e.
    (let r = step_alike P t s u (alike_turn s t x) i e in
    let here : u.output ≡ r.state.output =
    step_output P t u i e ∙ ap (λ m. output_behind m t.output) (next_alike P s t x i) ∙ ap (output_behind (next_move P s i)) same ∙ sym (step_output P s r.state i r.steps) in
    ends_alike P list r.state u output (alike_turn u r.state r.alike) here (ends r.state r.steps))

wait_silent : (m : Move) (x : ℕ) → awaited m ≡ Some x → prints m ≡ true → ⊥
wait_silent (Move.Acts offset Act.BarrierWait operands frames) x e q = cc
wait_silent (Move.Acts offset act operands frames) x e q = cc
wait_silent m x e q = cc

module _ (D : Move → ℕ → Move → Type 0) (P : Program) (weaker : (m : Move) (j : ℕ) (n : Move) → Depends m j n → D m j n) where
  pub all_weaker : (list : List ℕ) (s : State) (i : ℕ) (m : Move) (heard : ℕ → Bool) (again : Bool) → AllOrderedBy D P i m heard again s list → AllOrdered P i m heard again s list
  all_weaker [] s i m heard again o = tt
  all_weaker (j ∷ list) s i m heard again o = (
    λ d. o.0 (weaker m j (next_move P s j) d),
    λ t e. all_weaker list t i m (told s j (next_move P s j) heard) (again || nat_eq j i) (o.1 t e),
  )

  -- an ordered run is a clean one
  abbrev pub clean_of : (list : List ℕ) (s : State) → IsOrderedBy D P s list → IsClean P s list
  clean_of [] s o = o
  clean_of (i ∷ list) s o = (
    o.0,
    o.1,
    all_weaker list o.0 i (next_move P s i) (told s i (next_move P s i) (nat_eq i)) false o.2,
    clean_of list o.0 o.3,
  )

-- D counts prints as dependent on one another
abbrev pub Counts : (Move → ℕ → Move → Type 0) → Type 0
Counts D = (m : Move) (j : ℕ) (n : Move) → BothPrint m n → D m j n

-- a run from s goes on from a, where thread i has stepped, without that step; where prints count it ends with the same output
pub record Remainder (D : Move → ℕ → Move → Type 0) (P : Program) (s a : State) (i : ℕ) (list : List ℕ) : Type 0 where
  pub rest : List ℕ
  pub clean : IsOrderedBy D P a rest
  pub ordered : (k : ℕ) (m : Move) (heard : ℕ → Bool) (again : Bool) → AllOrderedBy D P k m heard again s list →
      AllOrderedBy D P k m (told s i (next_move P s i) heard) (again || nat_eq i k) a rest
  pub output : Counts D → (last : List ℕ) → EndsWith P s list last → EndsWith P a rest last
  pub count : length list ≡ suc (length rest)

module _ (D : Move → ℕ → Move → Type 0) (P : Program) (s a t : State) (i j : ℕ) (list : List ℕ) (x : Swap P s a t i j) where
  -- behind both steps
  both : (rest : List ℕ) (k : ℕ) (m : Move) (heard : ℕ → Bool) (again : Bool) →
      AllOrderedBy D P k m (told t i (next_move P t i) (told s j (next_move P s j) heard)) ((again || nat_eq j k) || nat_eq i k) x.last rest →
      AllOrderedBy D P k m (told a j (next_move P a j) (told s i (next_move P s i) heard)) ((again || nat_eq i k) || nat_eq j k) x.other rest
  both rest k m heard again o =
      ordered_alike D P rest x.last x.other k m (told a j (next_move P a j) (told s i (next_move P s i) heard)) ((again || nat_eq i k) || nat_eq j k) x.alike
      (subst (λ b. AllOrderedBy D P k m (told a j (next_move P a j) (told s i (next_move P s i) heard)) b x.last rest) (or_turn again (nat_eq j k) (nat_eq i k))
      (subst (λ h. AllOrderedBy D P k m h ((again || nat_eq j k) || nat_eq i k) x.last rest) (x.tells heard) o))

  -- the step of j behind that of i
  head : (k : ℕ) (m : Move) (heard : ℕ → Bool) (again : Bool) → (D m j (next_move P s j) → (heard j ≡ true) ⊎ Meet s k m again (next_move P s j)) →
      D m j (next_move P a j) → (told s i (next_move P s i) heard j ≡ true) ⊎ Meet a k m (again || nat_eq i k) (next_move P a j)
  head k m heard again o d =
      ⊎_elim (λ e. inl (told_grows s i (next_move P s i) heard j e)) (λ meet. inr (x.meets k m again meet)) (o (subst (λ n. D m j n) x.same d))

  same_state : (w : State) → step P a j ≡ Steps w → x.other ≡ w
  same_state w e = let q : Steps x.other ≡ Steps w = sym x.ahead ∙ e in let here : x.other ≡ w = cc in here

  -- thread i stands and isn't j: it has heard of nothing, and j's own step tells the same in either order
  ordered_own : next_move P a j ≡ next_move P s j → (rest : List ℕ) →
      AllOrderedBy D P j (next_move P s j) (told t i (next_move P t i) (told s j (next_move P s j) (nat_eq j))) (false || nat_eq i j) x.last rest →
      AllOrderedBy D P j (next_move P a j) (told a j (next_move P a j) (nat_eq j)) false x.other rest
  ordered_own same rest o =
      ordered_alike D P rest x.last x.other j (next_move P a j) (told a j (next_move P a j) (nat_eq j)) false x.alike
      (subst (λ n. AllOrderedBy D P j n (told a j (next_move P a j) (nat_eq j)) false x.last rest) (sym same)
      (subst (λ b. AllOrderedBy D P j (next_move P s j) (told a j (next_move P a j) (nat_eq j)) b x.last rest) x.fresh
      (subst (λ h. AllOrderedBy D P j (next_move P s j) h (nat_eq i j) x.last rest) x.own o)))

  behind : (Counts D → prints (next_move P s i) ≡ true → prints (next_move P s j) ≡ true → ⊥) → step P s j ≡ Steps t →
      AllOrderedBy D P j (next_move P s j) (told s j (next_move P s j) (nat_eq j)) false t list → Remainder D P t x.last i list → Remainder D P s a i (j ∷ list)
  behind silent steps own r = record {
    rest = j ∷ r.rest;
    clean = (
      x.other,
      x.ahead,
      own_ordered,
      clean_alike D P r.rest x.last x.other x.alike r.clean,
    );
    ordered = λ k m heard again o. (
      head k m heard again o.0,
      λ w e.
          subst (λ q. AllOrderedBy D P k m (told a j (next_move P a j) (told s i (next_move P s i) heard)) ((again || nat_eq i k) || nat_eq j k) q r.rest) (same_state w e)
          (both r.rest k m heard again (r.ordered k m (told s j (next_move P s j) heard) (again || nat_eq j k) (o.1 t steps))),
    );
    output = λ counts last ends w e.
        subst (λ q. EndsWith P q r.rest last) (same_state w e)
        (ends_alike P r.rest x.last x.other last x.alike (x.output (silent counts)) (r.output counts last (ends t steps)));
    count = ap suc r.count;
  }
    where
      own_ordered : AllOrderedBy D P j (next_move P a j) (told a j (next_move P a j) (nat_eq j)) false x.other r.rest
      own_ordered = ordered_own x.same r.rest (r.ordered j (next_move P s j) (told s j (next_move P s j) (nat_eq j)) false own)

module _ (D : Move → ℕ → Move → Type 0) (weaker : (m : Move) (j : ℕ) (n : Move) → Depends m j n → D m j n) (P : Program) (R : IsResolved P) (exchange : Exchange P) where
  -- where prints count, not both print of two steps that can be exchanged
  not_both : (s a : State) (i j : ℕ) (list : List ℕ) → i ≢ j → IsSound P s → step P s i ≡ Steps a → (clean : IsOrderedBy D P s (j ∷ list)) → Counts D →
      prints (next_move P s i) ≡ true → prints (next_move P s j) ≡ true → ⊥
  not_both s a i j list apart sound e clean counts first second =
      let t = clean.0 in
      let g = goes P s a i e in
      let x : Stands s i g.frames = record { at = g.at; free = g.free } in
      let y = step_stands P i g.frames s t j apart clean.1 x in
      let r = fate P R i g.frames list t (step_sound P R s t j sound clean.1) y (clean_of D P weaker list t clean.3) in
      let p = partner P R s i j g.frames list apart sound x (clean_of D P weaker (j ∷ list) s clean) in
      let silent = unheard P i g.frames s x (nat_eq j) t j apart clean.1 ∙ ne_eqb j i (λ q. apart (sym q)) in
      let free = not_before D P i g.frames list t j (next_move P s j) r.next (told s j (next_move P s j) (nat_eq j)) false y silent clean.2 r.first in
      let is : next_move P s i ≡ r.next = ap (move_in P s) g.at ∙ sym p.same ∙ r.is in
      let meet = free (counts (next_move P s j) i r.next (record { first = second; second = ap prints (sym is) ∙ first })) in
      wait_silent (next_move P s j) meet.barrier meet.first second

  pub go_on : (list : List ℕ) (s a : State) (i : ℕ) → IsSound P s → IsReached P s → IsOrderedBy D P s list → step P s i ≡ Steps a → Remainder D P s a i list
  go_on [] s a i sound reached clean e =
      let still : is_live s i ≡ false = sound.quiet clean i in
      let lives : is_live s i ≡ true = ap is_running (goes P s a i e).at in
      absurd (let no = sym still ∙ lives in cc)
  go_on (j ∷ list) s a i sound reached clean e =
      ⊎_elim (λ now. own now) (λ later. other later (λ so at u q. go_on list clean.0 u i so at clean.3 q)) (cases_eq i j)
    where
      own : i ≡ j → Remainder D P s a i (j ∷ list)
      own same =
          let at_j : step P s j ≡ Steps a = subst (λ k. step P s k ≡ Steps a) same e in
          let both : Steps clean.0 ≡ Steps a = sym clean.1 ∙ at_j in
          let here : clean.0 ≡ a = cc in
          record {
            rest = list;
            clean = subst (λ q. IsOrderedBy D P q list) here clean.3;
            ordered = λ k m heard again o.
                subst (λ n. AllOrderedBy D P k m (told s n (next_move P s n) heard) (again || nat_eq n k) a list) (sym same) (o.1 a at_j);
            output = λ counts last ends. ends a at_j;
            count = refl;
          }

      other : i ≢ j → (IsSound P clean.0 → IsReached P clean.0 → (u : State) → step P clean.0 i ≡ Steps u → Remainder D P clean.0 u i list) → Remainder D P s a i (j ∷ list)
      other apart later =
          let x = exchange s a i j list apart sound reached e (clean_of D P weaker (j ∷ list) s clean) in
          behind D P s a clean.0 i j list x (not_both s a i j list apart sound e clean) clean.1 clean.2
          (later (step_sound P R s clean.0 j sound clean.1) (one_step P s clean.0 j reached clean.1) x.last x.behind)

  -- an ordered run goes on from each state that is reached
  abbrev pub still_ordered : (s t : State) (i : ℕ) → GoesOn D P s → step P s i ≡ Steps t → GoesOn D P t
  still_ordered s t i x e =
      let r = go_on x.rest s t i x.sound x.reached x.ordered e in
      record { sound = step_sound P R s t i x.sound e; reached = one_step P s t i x.reached e; rest = r.rest; ordered = r.clean }

  -- and it ends with the same output, where prints count
  pub still_prints : (s t : State) (i : ℕ) (x : GoesOn D P s) (e : step P s i ≡ Steps t) (last : List ℕ) → Counts D → EndsWith P s x.rest last →
      EndsWith P t (still_ordered s t i x e).rest last
  still_prints s t i x e last counts ends = (go_on x.rest s t i x.sound x.reached x.ordered e).output counts last ends

  -- in one step less
  pub one_fewer : (s t : State) (i : ℕ) (x : GoesOn D P s) (e : step P s i ≡ Steps t) → length x.rest ≡ suc (length (still_ordered s t i x e).rest)
  one_fewer s t i x e = (go_on x.rest s t i x.sound x.reached x.ordered e).count
