-- Whom the step of a thread tells, and from whom: the thread itself, a thread id that doesn't run, or those at the barrier that it
-- opens. So two steps of which neither depends on the other tell the same in either order.
use Rattle.std.proofs.Common.{◌≡◌, ◌≢◌, ℕ, ◌+◌, List, [], ◌∷◌, length, refl, ap, ap₂, sym, ◌∙◌, subst, ⊎_elim, inl, inr}
use Rattle.std.specs.Prelude.{◌⊎◌, Bool, true, false, ◌&&◌, ◌||◌, if◌then◌else◌, nat_eq, Option, Some, None, slice_get, slice_set, unsigned_abs}
use Rattle.std.specs.List.{list_any}
use Rattle.std.proofs.lemmas.Bool.{cases_eq, eqb-true, eq-eqb, and_right, or_cases, or_left, or_right, false_from_ne_true}
use Rattle.lists.proofs.Places.{set_there, set_elsewhere}
use Rattle.c_program.specs.Tree.{Program}
use Rattle.thread_semantics.specs.Work.{Act}
use Rattle.thread_semantics.specs.State.{Frame, Slot, Unused, Running, Finished, Barrier, NoBarrier, Awaits, State}
use Rattle.thread_semantics.specs.Move.{Move}
use Rattle.thread_semantics.specs.Step.{Steps, with_slot, is_running, is_live, moved, object_operand, value_operand}
use Rattle.thread_semantics.specs.Races.{id_of_act, id_of_move}
use Rattle.race_model.specs.Orderly.{waits_in, IsOrderly}
use Rattle.run_races.specs.Order.{awaited, is_in, let_go, told_by_act, told}
use Rattle.run_races.proofs.Effects.{Effect, act_effect}
use Rattle.run_races.proofs.StandingThreads.{Stands}
use Rattle.run_races.proofs.DefinedSteps.{waits_not_stands}

abbrev receivers_by : State → ℕ → Act → ℕ → List ℕ
receivers_by s i (Act.Create routine) n = n ∷ []
receivers_by s i Act.Join n = i ∷ []
receivers_by s i Act.BarrierWait n = let_go i (slice_get s.barriers n)
receivers_by s i act n = []

abbrev sources_by : State → ℕ → Act → ℕ → List ℕ
sources_by s i (Act.Create routine) n = i ∷ []
sources_by s i Act.Join n = n ∷ []
sources_by s i Act.BarrierWait n = let_go i (slice_get s.barriers n)
sources_by s i act n = []

-- who hears by the move of thread i
abbrev receivers : State → ℕ → Move → List ℕ
receivers s i (Move.Acts offset act operands frames) = receivers_by s i act (object_operand operands)
receivers s i m = []

-- what any of these has heard
abbrev sources : State → ℕ → Move → List ℕ
sources s i (Move.Acts offset act operands frames) = sources_by s i act (object_operand operands)
sources s i m = []

abbrev tell : List ℕ → List ℕ → (ℕ → Bool) → ℕ → Bool
tell rs ss heard k = heard k || (is_in k rs && list_any heard ss)

or_none : (a : Bool) → (a || false) ≡ a
or_none true = refl
or_none false = refl

pub or_turn : (a b c : Bool) → ((a || b) || c) ≡ ((a || c) || b)
or_turn true b c = refl
or_turn false true true = refl
or_turn false true false = refl
or_turn false false true = refl
or_turn false false false = refl

told_is : (s : State) (i : ℕ) (m : Move) (heard : ℕ → Bool) (k : ℕ) → told s i m heard k ≡ tell (receivers s i m) (sources s i m) heard k
told_is s i (Move.Acts offset act operands frames) heard k = go act (object_operand operands)
  where
    go : (act : Act) (n : ℕ) → told_by_act s i act n heard k ≡ tell (receivers_by s i act n) (sources_by s i act n) heard k
    go (Act.Create routine) n = ap₂ (λ (a b : Bool). heard k || (a && b)) (sym (or_none (nat_eq k n))) (sym (or_none (heard i)))
    go Act.Join n = ap₂ (λ (a b : Bool). heard k || (a && b)) (sym (or_none (nat_eq k i))) (sym (or_none (heard n)))
    go Act.BarrierWait n = refl
    go act n = sym (or_none (heard k))
told_is s i m heard k = sym (or_none (heard k))

-- no thread is in both
abbrev Disjoint : List ℕ → List ℕ → Type 0
Disjoint xs ys = (x : ℕ) → is_in x xs ≡ true → is_in x ys ≡ true → ⊥

-- who isn't told has heard what it had
unheard_of : (rs ss zs : List ℕ) (heard : ℕ → Bool) → Disjoint rs zs → list_any (tell rs ss heard) zs ≡ list_any heard zs
unheard_of rs ss [] heard apart = refl
unheard_of rs ss (z ∷ zs) heard apart =
    ap₂ (λ (a b : Bool). a || b) (first (false_from_ne_true (is_in z rs) (λ t. apart z t (or_left (nat_eq z z) (is_in z zs) (eq-eqb z z refl)))))
    (unheard_of rs ss zs heard (λ x m n. apart x m (or_right (nat_eq x z) (is_in x zs) n)))
  where
    first : is_in z rs ≡ false → tell rs ss heard z ≡ heard z
    first none = ap (λ (b : Bool). heard z || (b && list_any heard ss)) none ∙ or_none (heard z)

tells_commute : (rs ss qs zs : List ℕ) (heard : ℕ → Bool) (k : ℕ) → Disjoint rs zs → Disjoint qs ss →
    tell qs zs (tell rs ss heard) k ≡ tell rs ss (tell qs zs heard) k
tells_commute rs ss qs zs heard k first second =
    ap (λ (b : Bool). (heard k || (is_in k rs && list_any heard ss)) || (is_in k qs && b)) (unheard_of rs ss zs heard first)
    ∙ or_turn (heard k) (is_in k rs && list_any heard ss) (is_in k qs && list_any heard zs)
    ∙ sym (ap (λ (b : Bool). (heard k || (is_in k qs && list_any heard zs)) || (is_in k rs && b)) (unheard_of qs zs ss heard second))

-- a thread that the move m of thread i concerns
data Concerned (s : State) (i : ℕ) (m : Move) (x : ℕ) : Type 0 where
  Own : (same : x ≡ i) → Concerned s i m x
  Idle : (still : is_live s x ≡ false) (named : id_of_move m ≡ Some x) → Concerned s i m x
  Waits : (barrier : ℕ) (at : awaited m ≡ Some barrier) (waits : waits_in x (slice_get s.barriers barrier) ≡ true) → Concerned s i m x

-- an id that doesn't run behind the thread's own change didn't before
idle_before : (slots : List Slot) (i n : ℕ) (frames later : List Frame) (old : Slot) → slice_get slots i ≡ Some (Running frames) → is_running (Some old) ≡ false →
    slice_get (slice_set slots i (Running later)) n ≡ Some old → is_running (slice_get slots n) ≡ false
idle_before slots i n frames later old at rests was =
    ⊎_elim
    (λ (e : i ≡ n).
    absurd
    (let is : slice_get (slice_set slots i (Running later)) n ≡ Some (Running later) =
    subst (λ k. slice_get (slice_set slots i (Running later)) k ≡ Some (Running later)) e (set_there slots i (Running frames) (Running later) at) in
    let no : false ≡ true = sym rests ∙ sym (ap is_running was) ∙ ap is_running is in
    cc))
    (λ (other : i ≢ n). ap is_running (sym (set_elsewhere slots i n (Running later) other) ∙ was) ∙ rests)
    (cases_eq i n)

-- the thread id that a step creates or joins doesn't run
pub id_idle : (P : Program) (s t : State) (i n : ℕ) (frames : List Frame) (m : Move) → slice_get s.slots i ≡ Some (Running frames) → moved P s i m ≡ Steps t →
    id_of_move m ≡ Some n → is_live s n ≡ false
id_idle P s t i n frames (Move.Acts offset act operands later) at e named =
    go act (act_effect P (with_slot s i (Running later)) t i offset act operands e) named
  where
    there : (old : Slot) → is_running (Some old) ≡ false → slice_get (slice_set s.slots i (Running later)) (object_operand operands) ≡ Some old →
        Some (object_operand operands) ≡ Some n → is_live s n ≡ false
    there old rests was q =
        let same : object_operand operands ≡ n = cc in
        idle_before s.slots i n frames later old at rests (subst (λ k. slice_get (slice_set s.slots i (Running later)) k ≡ Some old) same was)

    go : (act : Act) → Effect P (with_slot s i (Running later)) t i (object_operand operands) (value_operand operands) operands act → id_of_act act operands ≡ Some n →
        is_live s n ≡ false
    go (Act.Create routine) effect q = there Unused refl effect.was q
    go Act.Join effect q = there Finished refl effect.was q
    go act effect q = absurd cc
id_idle P s t i n frames m at e named = absurd cc

in_one : (x n : ℕ) → is_in x (n ∷ []) ≡ true → x ≡ n
in_one x n e = eqb-true x n (sym (or_none (nat_eq x n)) ∙ e)

-- whom a barrier lets go: who comes to it, and who waits there
let_go_cases : (i x : ℕ) (o : Option Barrier) → is_in x (let_go i o) ≡ true → (x ≡ i) ⊎ (waits_in x o ≡ true)
let_go_cases i x None e = absurd cc
let_go_cases i x (Some NoBarrier) e = absurd cc
let_go_cases i x (Some (Awaits count ws)) e = go (nat_eq (length ws + 1) (unsigned_abs count)) e
  where
    go : (b : Bool) → is_in x (if b then i ∷ ws else []) ≡ true → (x ≡ i) ⊎ (waits_in x (Some (Awaits count ws)) ≡ true)
    go true q = ⊎_elim (λ own. inl (eqb-true x i own)) (λ old. inr old) (or_cases (nat_eq x i) (list_any (nat_eq x) ws) q)
    go false q = absurd cc

module _ (P : Program) (s t : State) (i : ℕ) (frames : List Frame) (at : slice_get s.slots i ≡ Some (Running frames)) where
  idle_member : (m : Move) (n x : ℕ) → moved P s i m ≡ Steps t → id_of_move m ≡ Some n → is_in x (n ∷ []) ≡ true → Concerned s i m x
  idle_member m n x e named q =
      let here : id_of_move m ≡ Some x = named ∙ ap Some (sym (in_one x n q)) in
      Idle (id_idle P s t i x frames m at e here) here

  let_go_member : (m : Move) (n x : ℕ) → awaited m ≡ Some n → is_in x (let_go i (slice_get s.barriers n)) ≡ true → Concerned s i m x
  let_go_member m n x here q = ⊎_elim (λ own. Own own) (λ waits. Waits n here waits) (let_go_cases i x (slice_get s.barriers n) q)

  receiver : (m : Move) (x : ℕ) → moved P s i m ≡ Steps t → is_in x (receivers s i m) ≡ true → Concerned s i m x
  receiver (Move.Acts offset act operands later) x e q = go act e q
    where
      go : (act : Act) → moved P s i (Move.Acts offset act operands later) ≡ Steps t → is_in x (receivers_by s i act (object_operand operands)) ≡ true →
          Concerned s i (Move.Acts offset act operands later) x
      go (Act.Create routine) e q = idle_member (Move.Acts offset (Act.Create routine) operands later) (object_operand operands) x e refl q
      go Act.Join e q = Own (in_one x i q)
      go Act.BarrierWait e q = let_go_member (Move.Acts offset Act.BarrierWait operands later) (object_operand operands) x refl q
      go act e q = absurd cc
  receiver m x e q = absurd cc

  source : (m : Move) (x : ℕ) → moved P s i m ≡ Steps t → is_in x (sources s i m) ≡ true → Concerned s i m x
  source (Move.Acts offset act operands later) x e q = go act e q
    where
      go : (act : Act) → moved P s i (Move.Acts offset act operands later) ≡ Steps t → is_in x (sources_by s i act (object_operand operands)) ≡ true →
          Concerned s i (Move.Acts offset act operands later) x
      go (Act.Create routine) e q = Own (in_one x i q)
      go Act.Join e q = idle_member (Move.Acts offset Act.Join operands later) (object_operand operands) x e refl q
      go Act.BarrierWait e q = let_go_member (Move.Acts offset Act.BarrierWait operands later) (object_operand operands) x refl q
      go act e q = absurd cc
  source m x e q = absurd cc

live_not : (s : State) (i x : ℕ) (frames : List Frame) → Stands s i frames → x ≡ i → is_live s x ≡ false → ⊥
live_not s i x frames stands same still =
    let lives : is_live s x ≡ true = ap (is_live s) same ∙ ap is_running stands.at in
    let no = sym still ∙ lives in
    cc

-- the step of a thread doesn't concern another one that stands
alone : (s : State) (i j : ℕ) (m : Move) (frames : List Frame) → i ≢ j → Stands s j frames → Concerned s i m j → ⊥
alone s i j m frames apart stands (Own same) = apart (sym same)
alone s i j m frames apart stands (Idle still named) = live_not s j j frames stands refl still
alone s i j m frames apart stands (Waits barrier at waits) = waits_not_stands s j barrier frames waits stands

module _ (P : Program) (s : State) (i j : ℕ) (mi mj : Move) (fi fj : List Frame) (apart : i ≢ j) (order : IsOrderly P s) (stands_i : Stands s i fi) (stands_j : Stands s j fj)
    (ids : (n : ℕ) → id_of_move mi ≡ Some n → id_of_move mj ≡ Some n → ⊥) (meets : (n : ℕ) → awaited mi ≡ Some n → awaited mj ≡ Some n → ⊥) where
  waits_lives : (x n : ℕ) → waits_in x (slice_get s.barriers n) ≡ true → is_live s x ≡ false → ⊥
  waits_lives x n waits still = let no = sym still ∙ order.waiter n x waits in cc

  -- two steps concern no common thread
  concerned_apart : (x : ℕ) → Concerned s i mi x → Concerned s j mj x → ⊥
  concerned_apart x (Own same) d = alone s j i mj fi (λ e. apart (sym e)) stands_i (subst (Concerned s j mj) same d)
  concerned_apart x (Idle still named) (Own same) = live_not s j x fj stands_j same still
  concerned_apart x (Idle still named) (Idle quiet other) = ids x named other
  concerned_apart x (Idle still named) (Waits n at waits) = waits_lives x n waits still
  concerned_apart x (Waits n at waits) (Own same) = waits_not_stands s j n fj (subst (λ k. waits_in k (slice_get s.barriers n) ≡ true) same waits) stands_j
  concerned_apart x (Waits n at waits) (Idle still named) = waits_lives x n waits still
  concerned_apart x (Waits n at waits) (Waits k there more) =
      meets n at (subst (λ b. awaited mj ≡ Some b) (sym (order.once n k x waits more)) there)

  -- they tell the same in either order
  pub told_commutes : (a t : State) (heard : ℕ → Bool) (k : ℕ) → moved P s i mi ≡ Steps a → moved P s j mj ≡ Steps t →
      told s i mi (told s j mj heard) k ≡ told s j mj (told s i mi heard) k
  told_commutes a t heard k does_i does_j =
      told_is s i mi (told s j mj heard) k
      ∙ ap (λ (h : ℕ → Bool). tell (receivers s i mi) (sources s i mi) h k) (λ d x. told_is s j mj heard x d)
      ∙ tells_commute (receivers s j mj) (sources s j mj) (receivers s i mi) (sources s i mi) heard k
      (λ x q r. concerned_apart x (source P s a i fi stands_i.at mi x does_i r) (receiver P s t j fj stands_j.at mj x does_j q))
      (λ x q r. concerned_apart x (receiver P s a i fi stands_i.at mi x does_i q) (source P s t j fj stands_j.at mj x does_j r))
      ∙ sym (ap (λ (h : ℕ → Bool). tell (receivers s j mj) (sources s j mj) h k) (λ d x. told_is s i mi heard x d))
      ∙ sym (told_is s j mj (told s i mi heard) k)

-- of the step of a thread j that stands nobody hears by the step of another one, before it
pub none_told : (P : Program) (s a : State) (i j : ℕ) (m : Move) (fi fj : List Frame) (k : ℕ) → i ≢ j → Stands s i fi → Stands s j fj → moved P s i m ≡ Steps a →
    told s i m (nat_eq j) k ≡ nat_eq j k
none_told P s a i j m fi fj k apart stands_i stands_j does =
    let none : is_in j (sources s i m) ≡ false =
    false_from_ne_true (is_in j (sources s i m)) (λ q. alone s i j m fj apart stands_j (source P s a i fi stands_i.at m j does q)) in
    told_is s i m (nat_eq j) k
    ∙ ap (λ (b : Bool). nat_eq j k || b) (and_right (is_in k (receivers s i m)) (list_any (nat_eq j) (sources s i m)) none)
    ∙ or_none (nat_eq j k)
