-- One more step of a run, as the code takes it.
use Rattle.std.proofs.Common.{◌≡◌, ℕ, zero, suc, ◌+◌, ◌<◌, ◌≤◌, List, [], ◌∷◌, ◌++◌, length, refl, ap, sym, ◌∙◌, subst, ⊎_elim, arith}
use Rattle.std.specs.Prelude.{true, false, Vec, None, Result, Ok, Err, IfOk, slice_get}
use Rattle.std.specs.declared.alloc.Global.{Global}
use Rattle.std.proofs.lemmas.Bool.{cases_lt}
use Rattle.lists.proofs.Places.{length_more}
use Rattle.c_program.specs.Tree.{Program}
use Rattle.thread_semantics.specs.declared.cause.BlockedCause.{BlockedCause}
use Rattle.thread_semantics.specs.State.{Slot, State, start}
use Rattle.thread_semantics.specs.Move.{move}
use Rattle.thread_semantics.specs.Step.{Stepped, Steps, Blocks, Undefines, is_blocked, slot_step, step}
use Rattle.thread_semantics.specs.Races.{Touch, touched, thread_touched, if_taken, footprint}
use Rattle.race_model.proofs.Sound.{goes}
use Rattle.run_races.specs.Order.{move_in, next_move}
use Rattle.run_check.specs.declared.class.Class.{Class}
use Rattle.run_check.specs.Class.{class_of, released_by}
use Rattle.run_check.specs.Clocks.{clock}
use Rattle.run_check.specs.Shadow.{Shadow, IsNoted, Misses}
use Rattle.c_state.specs.declared.state.State.{State as StateCode}
use Rattle.c_state.specs.View.{state_of}
use Rattle.turns.specs.declared.Turn.{Turn}
use Rattle.turns.specs.Turns.{threads_of}
use Rattle.run_check.specs.declared.known.Known.{Known}
use Rattle.run_check.specs.declared.run.Run.{Run}
use Rattle.run_check.specs.Known.{shadow_of, IsFirst}
use Rattle.run_check.specs.Shown.{IsShown}
use Rattle.run_check.specs.declared.run.Progress.{Progress}
use Rattle.run_check.specs.declared.run.Progress.TheVariants as progress
use Rattle.run_check.specs.declared.run.Reason.{Reason}
use Rattle.run_check.specs.declared.run.Reason.TheVariants as reason
use Rattle.run_check.specs.Verdict.{IsReason}
use Rattle.run_check.specs.Run.{IsRun, IsNotedRun, IsSameRun, IsHeldUp, IsAdvanced, IsNext, IsStopped, reason_of}
use Rattle.run_check.proofs.Traces.{none_of}
use Rattle.run_check.proofs.UnorderedSteps.{unordered_shown}
use Rattle.run_check.proofs.Runs.{none_shown, one_more}

-- a step that is taken touches what its move does
pub taken_touches : (P : Program) (s t : State) (i : ℕ) → step P s i ≡ Steps t → footprint P s i ≡ touched (next_move P s i)
taken_touches P s t i e =
    let g = goes P s t i e in
    let own : thread_touched P s (slice_get s.slots i) ≡ touched (move P s.globals g.frames) = ap (thread_touched P s) g.at in
    let is : next_move P s i ≡ move P s.globals g.frames = ap (move_in P s) g.at in
    ap (λ (x : Stepped). if_taken x (thread_touched P s (slice_get s.slots i))) e ∙ own ∙ ap touched (sym is)

pub advanced : (P : Program) (list : List ℕ) (s t : State) (i : ℕ) (K K' : Shadow) (c : Class) (touches : List Touch) (r : List ℕ) →
    IsShown P list s K → Steps t ≡ step P s i → c ≡ class_of (next_move P s i) → touches ≡ footprint P s i → r ≡ released_by s i c →
    IsNoted K K' i c touches r t.ended → IsShown P (list ++ i ∷ []) t K'
advanced P list s t i K K' c touches r z taken class is released x =
    let steps : step P s i ≡ Steps t = sym taken in
    let a = subst (λ (ts : List Touch). IsNoted K K' i c ts r t.ended) (is ∙ taken_touches P s t i steps) x in
    let b = subst (λ (v : List ℕ). IsNoted K K' i c (touched (next_move P s i)) v t.ended) released a in
    one_more P list s t i K K' z steps (subst (λ (d : Class). IsNoted K K' i d (touched (next_move P s i)) (released_by s i d) t.ended) class b)

pub one_longer : (list : List ℕ) (i n : ℕ) → length list ≡ n → length (list ++ i ∷ []) ≡ n + 1
one_longer list i n e = let more = length_more list i in omega (arith, e, more)

pub blocked_is : (P : Program) (s : State) (i : ℕ) (cause : BlockedCause) → Blocks cause ≡ step P s i → is_blocked (step P s i) ≡ true
blocked_is P s i cause e = ap is_blocked (sym e)

-- the run before its first step
pub first_shown : (P : Program) (s : State) (k : Known) → s ≡ start P → IsFirst k → IsShown P [] s (shadow_of k)
first_shown P s k is x =
    subst (λ u. IsShown P [] u (shadow_of k)) (sym is)
    (none_shown P (shadow_of k) (λ i n. let zero = x.clocks i n in omega (arith, zero)) (none_of P (shadow_of k) x.clocks x.write x.read x.mutex x.barrier x.id x.print) x.one_output)

pub first_run : (P : Program) (r : Run) → state_of r.state ≡ start P → IsFirst r.known → r.turns.items ≡ [] → r.steps ≡ 0 → IsRun P r × (r.steps ≡ 0)
first_run P r is x none count = (
  record {
    shown = subst (λ l. IsShown P l (state_of r.state) (shadow_of r.known)) (sym (ap threads_of none)) (first_shown P (state_of r.state) r.known is x);
    count = ap (λ l. length (threads_of l)) none ∙ sym count;
  },
  count,
)

-- a thread that isn't there doesn't step
no_slot : (slots : List Slot) (k : ℕ) → length slots ≤ k → slice_get slots k ≡ None
no_slot [] k past = refl
no_slot (x ∷ slots) zero past = absurd (omega arith)
no_slot (x ∷ slots) (suc k) past = no_slot slots k (omega arith)

pub all_blocked : (P : Program) (s : State) (n : ℕ) → length s.slots ≤ n → ((k : ℕ) → k < n → is_blocked (step P s k) ≡ true) → (k : ℕ) →
    is_blocked (step P s k) ≡ true
all_blocked P s n all below k =
    ⊎_elim (λ lt. below k lt) (λ past. ap (λ o. is_blocked (slot_step P s k o)) (no_slot s.slots k (omega (arith, all, past)))) (cases_lt k n)

pub same_run : (P : Program) (a b : Run) → IsSameRun a b → IsRun P a → IsRun P b
same_run P a b same x = record {
  shown =
      subst (λ (s : State). IsShown P (threads_of b.turns.items) s (shadow_of b.known)) (sym same.state)
      (subst (λ (k : Known). IsShown P (threads_of b.turns.items) (state_of a.state) (shadow_of k)) (sym same.known)
      (subst (λ (v : Vec Turn Global). IsShown P (threads_of v.items) (state_of a.state) (shadow_of a.known)) (sym same.turns) x.shown));
  count = ap (λ (v : Vec Turn Global). length (threads_of v.items)) same.turns ∙ x.count ∙ sym same.steps;
}

-- a run behind one more step
pub run_on : (P : Program) (old mid new : Run) (i : ℕ) (c : Class) (touches : List Touch) (r : List ℕ) → IsRun P old →
    Steps (state_of mid.state) ≡ step P (state_of old.state) i → mid.known ≡ old.known → mid.turns ≡ old.turns → mid.steps ≡ old.steps →
    c ≡ class_of (next_move P (state_of old.state) i) → touches ≡ footprint P (state_of old.state) i → r ≡ released_by (state_of old.state) i c →
    IsNotedRun mid new i c touches r → IsRun P new × (new.steps ≡ old.steps + 1)
run_on P old mid new i c touches r x taken known turns steps class is released n =
    let noted : IsNoted (shadow_of old.known) (shadow_of new.known) i c touches r (state_of mid.state).ended =
    subst (λ (k : Known). IsNoted (shadow_of k) (shadow_of new.known) i c touches r mid.state.ended) known n.noted in
    let more : IsShown P (threads_of old.turns.items ++ i ∷ []) (state_of mid.state) (shadow_of new.known) =
    advanced P (threads_of old.turns.items) (state_of old.state) (state_of mid.state) i (shadow_of old.known) (shadow_of new.known) c touches r x.shown
    taken class is released noted in
    let list : threads_of new.turns.items ≡ threads_of old.turns.items ++ i ∷ [] =
    n.turns ∙ ap (λ (v : Vec Turn Global). threads_of v.items ++ i ∷ []) turns in
    let count : new.steps ≡ old.steps + 1 = n.steps ∙ ap (λ k. k + 1) steps in (
      record {
        shown =
            subst (λ l. IsShown P l (state_of new.state) (shadow_of new.known)) (sym list)
            (subst (λ (s : StateCode). IsShown P (threads_of old.turns.items ++ i ∷ []) (state_of s) (shadow_of new.known)) (sym n.state) more);
        count = ap length list ∙ one_longer (threads_of old.turns.items) i old.steps x.count ∙ sym count;
      },
      count,
    )

same_on : (a b c : Run) → IsSameRun a b → IsSameRun b c → IsSameRun a c
same_on a b c x y = record {
  state = y.state ∙ x.state;
  known = y.known ∙ x.known;
  turns = y.turns ∙ x.turns;
  steps = y.steps ∙ x.steps;
}

-- one more thread is blocked
pub held_up : (P : Program) (a b c : Run) (i : ℕ) → IsSameRun a b → ((k : ℕ) → k < i → is_blocked (step P (state_of a.state) k) ≡ true) →
    IsSameRun b c × (is_blocked (step P (state_of b.state) i) ≡ true) →
    IsSameRun a c × ((k : ℕ) → k < i + 1 → is_blocked (step P (state_of a.state) k) ≡ true)
held_up P a b c i x below y = (
  same_on a b c x y.0,
  (λ k lt.
      ⊎_elim (λ h. below k h)
      (λ h. let same : i ≡ k = omega (arith, h, lt) in
      subst (λ n. is_blocked (step P (state_of a.state) n) ≡ true) same (subst (λ s. is_blocked (step P s i) ≡ true) x.state y.1)) (cases_lt k i)),
)

-- a run is held up where it is so behind others that are blocked
held_on : (P : Program) (a b c : Run) (r : Reason) → IsSameRun a b → IsHeldUp P b c r → IsHeldUp P a c r
held_on P a b c r x y = λ run running. y (same_run P a b x run) (ap (λ (s : State). s.ended) x.state ∙ running)

-- the run shows nothing by a step that isn't ordered
pub unordered_held : (P : Program) (old mid new : Run) (i : ℕ) (c : Class) (touches : List Touch) → Steps (state_of mid.state) ≡ step P (state_of old.state) i →
    mid.known ≡ old.known → mid.steps ≡ old.steps → c ≡ class_of (next_move P (state_of old.state) i) → touches ≡ footprint P (state_of old.state) i →
    (new.steps ≡ mid.steps) × Misses (shadow_of mid.known) (clock mid.known.clocks.items i) c touches mid.state.ended → IsHeldUp P old new (reason_of c)
unordered_held P old mid new i c touches taken known steps class is x = λ run running.
    let s = state_of old.state in
    let K = shadow_of old.known in
    let goes : step P s i ≡ Steps (state_of mid.state) = sym taken in
    let a : Misses K (K.clock i) c touches (state_of mid.state).ended =
    subst (λ (k : Known). Misses (shadow_of k) (clock k.clocks.items i) c touches mid.state.ended) known x.1 in
    let b = subst (λ (ts : List Touch). Misses K (K.clock i) c ts (state_of mid.state).ended) (is ∙ taken_touches P s (state_of mid.state) i goes) a in
    let d = subst (λ (v : Class). Misses K (K.clock i) v (touched (next_move P s i)) (state_of mid.state).ended) class b in
    subst (λ (v : Class). IsReason P new.steps (reason_of v)) (sym class)
    (unordered_shown P (threads_of old.turns.items) s (state_of mid.state) i K run.shown goes running new.steps (run.count ∙ sym (x.0 ∙ steps)) d)

-- nor where there is no place to keep it
pub none_held : (P : Program) (old new : Run) → new.steps ≡ old.steps → IsHeldUp P old new reason.TooFewSteps
none_held P old new e = λ run running. (threads_of old.turns.items, state_of old.state, run.count ∙ sym e, run.shown.taken, running, tt)

-- the next step of a run, where others were blocked before
pub next_of : (P : Program) (a b c : Run) (i : ℕ) (p : Progress) → (p ≡ progress.Blocked → ⊥) → IsSameRun a b → IsAdvanced P b c i p → IsNext P a c p
next_of P a b c i progress.Stepped other x y = λ run. let z = y (same_run P a b x run) in (z.0, z.1 ∙ ap (λ n. n + 1) x.steps)
next_of P a b c i progress.Blocked other x y = absurd (other refl)
next_of P a b c i (progress.Undefined thread offset cause) other x y =
    (same_on a b c x y.0, subst (λ s. step P s thread ≡ Undefines offset cause) x.state y.1)
next_of P a b c i (progress.Unordered thread stamp class) other x y = held_on P a b c (reason_of class) x y
next_of P a b c i progress.NoRoom other x y = held_on P a b c reason.TooFewSteps x y

-- what a run is that has stopped
pub stopped_of : (P : Program) (a b : Run) (p : Progress) → (p ≡ progress.Stepped → ⊥) → IsRun P a → a.state.ended ≡ false → IsNext P a b p → IsStopped P b p
stopped_of P a b progress.Stepped other run running x = absurd (other refl)
stopped_of P a b progress.Blocked other run running x = (
  same_run P a b x.0 run,
  ap (λ (s : State). s.ended) x.0.state ∙ running,
  (λ i. subst (λ s. is_blocked (step P s i) ≡ true) (sym x.0.state) (x.1 i)),
)
stopped_of P a b (progress.Undefined thread offset cause) other run running x = (
  same_run P a b x.0 run,
  ap (λ (s : State). s.ended) x.0.state ∙ running,
  subst (λ s. step P s thread ≡ Undefines offset cause) (sym x.0.state) x.1,
)
stopped_of P a b (progress.Unordered thread stamp class) other run running x = x run running
stopped_of P a b progress.NoRoom other run running x = x run running

pub ok_given : {V E : Type 0} (r : Result V E) (A : Type 0) (B : V → Type 0) → IfOk r (λ v. A → B v) → A → IfOk r B
ok_given (Ok v) A B x a = x a
ok_given (Err e) A B x a = x
