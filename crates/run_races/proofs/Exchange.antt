-- Two steps that can be taken from one state, of which neither depends on the other, or that come to one barrier which neither
-- opens: in either order they lead to states that are alike.
use Rattle.std.proofs.Common.{◌≡◌, ◌≢◌, ℕ, List, [], ◌∷◌, refl, ap, sym, ◌∙◌, subst}
use Rattle.std.specs.Prelude.{Bool, true, false, ◌&&◌, ◌||◌, if◌then◌else◌, nat_eq, Option, Some, None, slice_get, slice_set, ℤ}
use Rattle.lists.proofs.Places.{set_there}
use Rattle.c_program.specs.Tree.{Program}
use Rattle.thread_semantics.specs.Work.{Act}
use Rattle.thread_semantics.specs.State.{Frame, Running, Barrier, Awaits, State}
use Rattle.thread_semantics.specs.Move.{Move, Write, move}
use Rattle.thread_semantics.specs.Step.{Steps, with_slot, written_to, is_running, is_live, moved, object_operand, step}
use Rattle.thread_semantics.specs.Races.{touched, id_of_move}
use Rattle.race_model.specs.Orderly.{IsOrderly}
use Rattle.race_model.proofs.Sound.{step_moved}
use Rattle.run_races.specs.Order.{move_in, next_move, mutex_of_move, barrier_of_move, awaited, ends, prints, Conflict, told}
use Rattle.run_races.proofs.Effects.{come_to, effect_acts}
use Rattle.run_races.proofs.StandingThreads.{Stands, step_stands}
use Rattle.run_races.proofs.Meetings.{or_swap, opens, both_come, heard_there, meeting_tells}
use Rattle.run_races.proofs.AlikeStates.{AlikeBarriers, Alike, all_alike, alike_set}
use Rattle.run_races.proofs.SameMoves.{write_in, written_touched}
use Rattle.run_races.proofs.Commutation.{sets_again, elements_commute}
use Rattle.run_races.proofs.Changes.{Change, Sets, changed, AreApart, changes_commute, changed_elsewhere, own_slot, slot_change, mutex_change}
use Rattle.run_races.proofs.Changes.{met, barrier_change, output_behind, is_main, slot_place, mutex_place, barrier_place, moved_left}
use Rattle.run_races.proofs.ToldThreads.{id_idle, told_commutes, none_told}

-- threads i and j can step from s, to a and to t; the move of each is the same behind the step of the other
pub record Pair (P : Program) (s a t : State) (i j : ℕ) (mi mj : Move) : Type 0 where
  pub frames_i : List Frame
  pub frames_j : List Frame
  pub apart : i ≢ j
  pub order : IsOrderly P s
  pub stands_i : Stands s i frames_i
  pub stands_j : Stands s j frames_j
  pub is_i : move P s.globals frames_i ≡ mi
  pub is_j : move P s.globals frames_j ≡ mj
  pub kept_i : move P t.globals frames_i ≡ mi
  pub kept_j : move P a.globals frames_j ≡ mj
  pub does_i : moved P s i mi ≡ Steps a
  pub does_j : moved P s j mj ≡ Steps t
  pub clear : Conflict (touched mj) (touched mi) → ⊥
  pub mutexes : (n : ℕ) → mutex_of_move mi ≡ Some n → mutex_of_move mj ≡ Some n → ⊥
  pub ids : (n : ℕ) → id_of_move mi ≡ Some n → id_of_move mj ≡ Some n → ⊥

-- writes of two places commute
writes_commute : (G : List (List ℤ)) (mi mj : Move) → (Conflict (touched mj) (touched mi) → ⊥) →
    written_to (written_to G (write_in mi)) (write_in mj) ≡ written_to (written_to G (write_in mj)) (write_in mi)
writes_commute G mi mj clear = go (write_in mi) (write_in mj) refl refl
  where
    go : (o p : Option Write) → write_in mi ≡ o → write_in mj ≡ p → written_to (written_to G o) p ≡ written_to (written_to G p) o
    go None p e q = refl
    go (Some w) None e q = refl
    go (Some w) (Some v) e q =
        elements_commute G w.place.variable w.place.index v.place.variable v.place.index w.value v.value
        (λ same. clear (record {
          first = record { place = v.place; written = true };
          second = record { place = w.place; written = true };
          first_in = written_touched mj v q;
          second_in = written_touched mi w e;
          same = λ d. record { variable = sym same.0 d; index = sym same.1 d };
          written = refl;
        }))

-- four changes, of which the first two are apart from the last two
four_commute : {A : Type 0} (b c d e : Change A) (xs : List A) → AreApart b d → AreApart b e → AreApart c d → AreApart c e →
    changed b (changed c (changed d (changed e xs))) ≡ changed d (changed e (changed b (changed c xs)))
four_commute b c d e xs bd be cd ce =
    ap (changed b) (changes_commute c d (changed e xs) cd)
    ∙ changes_commute b d (changed c (changed e xs)) bd
    ∙ ap (λ ys. changed d (changed b ys)) (changes_commute c e xs ce)
    ∙ ap (changed d) (changes_commute b e (changed c xs) be)

-- a step that doesn't print leaves the output
silent : (m : Move) (output : List ℕ) → prints m ≡ false → output_behind m output ≡ output
silent (Move.Acts offset (Act.Print format) operands frames) output e = absurd cc
silent (Move.Acts offset act operands frames) output e = refl
silent m output e = refl

outputs_commute : (mi mj : Move) (output : List ℕ) → (prints mi ≡ true → prints mj ≡ true → ⊥) →
    output_behind mi (output_behind mj output) ≡ output_behind mj (output_behind mi output)
outputs_commute mi mj output apart = go (prints mi) (prints mj) refl refl
  where
    go : (b c : Bool) → prints mi ≡ b → prints mj ≡ c → output_behind mi (output_behind mj output) ≡ output_behind mj (output_behind mi output)
    go false c e q = silent mi (output_behind mj output) e ∙ sym (ap (output_behind mj) (silent mi output e))
    go true false e q = ap (output_behind mi) (silent mj output q) ∙ sym (silent mj (output_behind mi output) q)
    go true true e q = absurd (apart e q)

-- the change of a barrier is the same where the barrier stands the same
same_change : (i : ℕ) (bs cs : List Barrier) (m : Move) → ((n : ℕ) → barrier_of_move m ≡ Some n → slice_get cs n ≡ slice_get bs n) →
    barrier_change i cs m ≡ barrier_change i bs m
same_change i bs cs (Move.Acts offset Act.BarrierWait operands frames) same =
    ap (λ o. Sets (object_operand operands) (met i o)) (same (object_operand operands) refl)
same_change i bs cs (Move.Acts offset act operands frames) same = refl
same_change i bs cs m same = refl

-- and so do the same threads hear
same_told : (s t : State) (i : ℕ) (m : Move) (heard : ℕ → Bool) (k : ℕ) → ((n : ℕ) → barrier_of_move m ≡ Some n → slice_get t.barriers n ≡ slice_get s.barriers n) →
    told t i m heard k ≡ told s i m heard k
same_told s t i (Move.Acts offset Act.BarrierWait operands frames) heard k same = ap (λ o. heard_there i o heard k) (same (object_operand operands) refl)
same_told s t i (Move.Acts offset act operands frames) heard k same = refl
same_told s t i m heard k same = refl

pub awaited_acts : (m : Move) (x : ℕ) → awaited m ≡ Some x → barrier_of_move m ≡ Some x
awaited_acts (Move.Acts offset Act.BarrierWait operands frames) x e = e
awaited_acts (Move.Acts offset act operands frames) x e = absurd cc
awaited_acts m x e = absurd cc

module _ (P : Program) (s a t : State) (i j : ℕ) (mi mj : Move) (q : Pair P s a t i j mi mj) where
  pub turn : Pair P s t a j i mj mi
  turn = record {
    frames_i = q.frames_j;
    frames_j = q.frames_i;
    apart = λ e. q.apart (sym e);
    order = q.order;
    stands_i = q.stands_j;
    stands_j = q.stands_i;
    is_i = q.is_j;
    is_j = q.is_i;
    kept_i = q.kept_j;
    kept_j = q.kept_i;
    does_i = q.does_j;
    does_j = q.does_i;
    clear = λ c. q.clear (record {
      first = c.second;
      second = c.first;
      first_in = c.second_in;
      second_in = c.first_in;
      same = sym c.same;
      written = or_turned c.first.written c.second.written c.written;
    });
    mutexes = λ n e f. q.mutexes n f e;
    ids = λ n e f. q.ids n f e;
  }
    where
      or_turned : (b c : Bool) → (b || c) ≡ true → (c || b) ≡ true
      or_turned true true e = refl
      or_turned true false e = refl
      or_turned false true e = refl
      or_turned false false e = e

  pub steps_j : step P s j ≡ Steps t
  steps_j = step_moved P s j q.frames_j q.stands_j.at q.stands_j.free ∙ ap (moved P s j) q.is_j ∙ q.does_j

  -- thread i stands behind the step of j, and its step there is that of its move
  pub stands_behind : Stands t i q.frames_i
  stands_behind = step_stands P i q.frames_i s t j q.apart steps_j q.stands_i

  pub step_behind : step P t i ≡ moved P t i mi
  step_behind = step_moved P t i q.frames_i stands_behind.at stands_behind.free ∙ ap (moved P t i) q.kept_i

  pub next_behind : next_move P t i ≡ mi
  next_behind = ap (move_in P t) stands_behind.at ∙ q.kept_i

  pub next_here : next_move P s i ≡ mi
  next_here = ap (move_in P s) q.stands_i.at ∙ q.is_i

  -- the thread id of one step is not the other thread
  id_apart : (n : ℕ) → id_of_move mi ≡ Some n → j ≢ n
  id_apart n e same =
      let idle : is_live s n ≡ false = id_idle P s a i n q.frames_i mi q.stands_i.at q.does_i e in
      let lives : is_live s n ≡ true = ap (is_live s) (sym same) ∙ ap is_running q.stands_j.at in
      let no = sym idle ∙ lives in
      cc

  -- of the step of j nobody hears by that of i
  pub none_hears : told s i mi (nat_eq j) ≡ nat_eq j
  none_hears = λ d k. none_told P s a i j mi q.frames_i q.frames_j k q.apart q.stands_i q.stands_j q.does_i d

-- The states behind both steps.
module _ (P : Program) (s a t last other : State) (i j : ℕ) (mi mj : Move) (q : Pair P s a t i j mi mj) (behind : moved P t i mi ≡ Steps last)
    (ahead : moved P a j mj ≡ Steps other) where
  globals_same : other.globals ≡ last.globals
  globals_same =
      ap (λ (u : State). u.globals) (moved_left P a other j mj ahead)
      ∙ ap (λ (u : State). written_to u.globals (write_in mj)) (moved_left P s a i mi q.does_i)
      ∙ writes_commute s.globals mi mj q.clear
      ∙ sym (ap (λ (u : State). written_to u.globals (write_in mi)) (moved_left P s t j mj q.does_j))
      ∙ sym (ap (λ (u : State). u.globals) (moved_left P t last i mi behind))

  slots_same : other.slots ≡ last.slots
  slots_same =
      ap (λ (u : State). u.slots) (moved_left P a other j mj ahead)
      ∙ ap (λ (u : State). changed (slot_change P mj) (slice_set u.slots j (own_slot mj))) (moved_left P s a i mi q.does_i)
      ∙ four_commute (slot_change P mj) (Sets j (own_slot mj)) (slot_change P mi) (Sets i (own_slot mi)) s.slots
      (λ n e f. q.ids n (sym (slot_place P mi) ∙ f) (sym (slot_place P mj) ∙ e))
      (λ n e f. id_apart P s t a j i mj mi (turn P s a t i j mi mj q) n (sym (slot_place P mj) ∙ e) (let same : i ≡ n = cc in same))
      (λ n e f. id_apart P s a t i j mi mj q n (sym (slot_place P mi) ∙ f) (let same : j ≡ n = cc in same))
      (λ n e f. q.apart (let first : j ≡ n = cc in let second : i ≡ n = cc in second ∙ sym first))
      ∙ sym (ap (λ (u : State). changed (slot_change P mi) (slice_set u.slots i (own_slot mi))) (moved_left P s t j mj q.does_j))
      ∙ sym (ap (λ (u : State). u.slots) (moved_left P t last i mi behind))

  mutexes_same : other.mutexes ≡ last.mutexes
  mutexes_same =
      ap (λ (u : State). u.mutexes) (moved_left P a other j mj ahead)
      ∙ ap (λ (u : State). changed (mutex_change j mj) u.mutexes) (moved_left P s a i mi q.does_i)
      ∙ changes_commute (mutex_change j mj) (mutex_change i mi) s.mutexes
      (λ n e f. q.mutexes n (sym (mutex_place i mi) ∙ f) (sym (mutex_place j mj) ∙ e))
      ∙ sym (ap (λ (u : State). changed (mutex_change i mi) u.mutexes) (moved_left P s t j mj q.does_j))
      ∙ sym (ap (λ (u : State). u.mutexes) (moved_left P t last i mi behind))

  ended_same : other.ended ≡ last.ended
  ended_same =
      ap (λ (u : State). u.ended) (moved_left P a other j mj ahead)
      ∙ ap (λ (u : State). (ends mj && is_main j) || u.ended) (moved_left P s a i mi q.does_i)
      ∙ or_swap (ends mj && is_main j) (ends mi && is_main i) s.ended
      ∙ sym (ap (λ (u : State). (ends mi && is_main i) || u.ended) (moved_left P s t j mj q.does_j))
      ∙ sym (ap (λ (u : State). u.ended) (moved_left P t last i mi behind))

  -- where one of them prints nothing, the output is the same
  pub output_same : (prints mi ≡ true → prints mj ≡ true → ⊥) → other.output ≡ last.output
  output_same apart =
      ap (λ (u : State). u.output) (moved_left P a other j mj ahead)
      ∙ ap (λ (u : State). output_behind mj u.output) (moved_left P s a i mi q.does_i)
      ∙ outputs_commute mj mi s.output (λ e f. apart f e)
      ∙ sym (ap (λ (u : State). output_behind mi u.output) (moved_left P s t j mj q.does_j))
      ∙ sym (ap (λ (u : State). u.output) (moved_left P t last i mi behind))

  pub both_alike : AlikeBarriers last.barriers other.barriers → Alike last other
  both_alike barriers = record { globals = globals_same; slots = slots_same; mutexes = mutexes_same; ended = ended_same; barriers = barriers }

-- Not both act on one barrier.
module _ (P : Program) (s a t : State) (i j : ℕ) (mi mj : Move) (q : Pair P s a t i j mi mj)
    (barriers : (n : ℕ) → barrier_of_move mi ≡ Some n → barrier_of_move mj ≡ Some n → ⊥) where
  -- the barrier of the one stands as it did behind the step of the other
  pub barrier_kept : (n : ℕ) → barrier_of_move mi ≡ Some n → slice_get t.barriers n ≡ slice_get s.barriers n
  barrier_kept n e =
      ap (λ (u : State). slice_get u.barriers n) (moved_left P s t j mj q.does_j)
      ∙ changed_elsewhere (barrier_change j s.barriers mj) s.barriers n (λ f. barriers n e (sym (barrier_place j s.barriers mj) ∙ f))

  change_kept : barrier_change i t.barriers mi ≡ barrier_change i s.barriers mi
  change_kept = same_change i s.barriers t.barriers mi barrier_kept

  -- the barriers behind both
  pub barriers_behind : (last : State) → moved P t i mi ≡ Steps last →
      last.barriers ≡ changed (barrier_change i s.barriers mi) (changed (barrier_change j s.barriers mj) s.barriers)
  barriers_behind last behind =
      ap (λ (u : State). u.barriers) (moved_left P t last i mi behind)
      ∙ ap (λ c. changed c t.barriers) change_kept
      ∙ ap (λ (u : State). changed (barrier_change i s.barriers mi) u.barriers) (moved_left P s t j mj q.does_j)

  pub told_behind : (heard : ℕ → Bool) (k : ℕ) → told t i mi heard k ≡ told s i mi heard k
  told_behind heard k = same_told s t i mi heard k barrier_kept

module _ (P : Program) (s a t : State) (i j : ℕ) (mi mj : Move) (q : Pair P s a t i j mi mj)
    (barriers : (n : ℕ) → barrier_of_move mi ≡ Some n → barrier_of_move mj ≡ Some n → ⊥) where
  abbrev turned_barriers : (n : ℕ) → barrier_of_move mj ≡ Some n → barrier_of_move mi ≡ Some n → ⊥
  turned_barriers n e f = barriers n f e

  pub barriers_apart : (last other : State) → moved P t i mi ≡ Steps last → moved P a j mj ≡ Steps other → AlikeBarriers last.barriers other.barriers
  barriers_apart last other behind ahead =
      let same : last.barriers ≡ other.barriers =
      barriers_behind P s a t i j mi mj q barriers last behind
      ∙ changes_commute (barrier_change i s.barriers mi) (barrier_change j s.barriers mj) s.barriers
      (λ n e f. barriers n (sym (barrier_place i s.barriers mi) ∙ e) (sym (barrier_place j s.barriers mj) ∙ f))
      ∙ sym (barriers_behind P s t a j i mj mi (turn P s a t i j mi mj q) turned_barriers other ahead) in
      subst (λ bs. AlikeBarriers last.barriers bs) same (all_alike last.barriers)

  pub tells_apart : (heard : ℕ → Bool) (k : ℕ) → told t i mi (told s j mj heard) k ≡ told a j mj (told s i mi heard) k
  tells_apart heard k =
      told_behind P s a t i j mi mj q barriers (told s j mj heard) k
      ∙ told_commutes P s i j mi mj q.frames_i q.frames_j q.apart q.order q.stands_i q.stands_j q.ids
      (λ n e f. barriers n (awaited_acts mi n e) (awaited_acts mj n f)) a t heard k q.does_i q.does_j
      ∙ sym (told_behind P s t a j i mj mi (turn P s a t i j mi mj q) turned_barriers (told s i mi heard) k)

-- Both wait at the barrier b.

wait_change : (i b : ℕ) (bs : List Barrier) (m : Move) → awaited m ≡ Some b → barrier_change i bs m ≡ Sets b (met i (slice_get bs b))
wait_change i b bs (Move.Acts offset Act.BarrierWait operands frames) e =
    let same : object_operand operands ≡ b = cc in
    ap (λ n. Sets n (met i (slice_get bs n))) same
wait_change i b bs (Move.Acts offset act operands frames) e = absurd cc
wait_change i b bs m e = absurd cc

wait_tells : (s : State) (i b : ℕ) (m : Move) (heard : ℕ → Bool) (k : ℕ) → awaited m ≡ Some b → told s i m heard k ≡ heard_there i (slice_get s.barriers b) heard k
wait_tells s i b (Move.Acts offset Act.BarrierWait operands frames) heard k e =
    let same : object_operand operands ≡ b = cc in
    ap (λ n. heard_there i (slice_get s.barriers n) heard k) same
wait_tells s i b (Move.Acts offset act operands frames) heard k e = absurd cc
wait_tells s i b m heard k e = absurd cc

-- who comes to a barrier that is there can step
pub can_wait : (P : Program) (t : State) (i b : ℕ) (count : ℤ) (waiters : List ℕ) (m : Move) → awaited m ≡ Some b → slice_get t.barriers b ≡ Some (Awaits count waiters) →
    (w : State) × (moved P t i m ≡ Steps w)
can_wait P t i b count waiters (Move.Acts offset Act.BarrierWait operands frames) e at =
    let same : object_operand operands ≡ b = cc in
    let there : slice_get t.barriers (object_operand operands) ≡ Some (Awaits count waiters) = ap (slice_get t.barriers) same ∙ at in
    let u : State = with_slot t i (Running frames) in
    let w : State = record u { barriers = slice_set t.barriers (object_operand operands) (come_to i count waiters) } in
    (w, effect_acts P u w i offset Act.BarrierWait operands (count, waiters, record { was = there; is = refl }))
can_wait P t i b count waiters (Move.Acts offset act operands frames) e at = absurd cc
can_wait P t i b count waiters m e at = absurd cc

come_shut : (i : ℕ) (count : ℤ) (ws : List ℕ) → opens count ws ≡ false → come_to i count ws ≡ Awaits count (i ∷ ws)
come_shut i count ws e = ap (λ (b : Bool). if b then Awaits count [] else Awaits count (i ∷ ws)) e

module _ (P : Program) (s a t : State) (i j : ℕ) (mi mj : Move) (q : Pair P s a t i j mi mj) (b : ℕ) (count : ℤ) (ws : List ℕ)
    (at : slice_get s.barriers b ≡ Some (Awaits count ws)) (shut : opens count ws ≡ false) (here : awaited mj ≡ Some b) where
  waits_are : t.barriers ≡ slice_set s.barriers b (Awaits count (j ∷ ws))
  waits_are =
      ap (λ (u : State). u.barriers) (moved_left P s t j mj q.does_j)
      ∙ ap (λ c. changed c s.barriers) (wait_change j b s.barriers mj here)
      ∙ ap (λ o. slice_set s.barriers b (met j o)) at
      ∙ ap (slice_set s.barriers b) (come_shut j count ws shut)

  -- thread j waits there behind its step
  pub waits_there : slice_get t.barriers b ≡ Some (Awaits count (j ∷ ws))
  waits_there = ap (λ bs. slice_get bs b) waits_are ∙ set_there s.barriers b (Awaits count ws) (Awaits count (j ∷ ws)) at

  -- what is left of the barriers where i comes too
  pub both_left : (last : State) → awaited mi ≡ Some b → moved P t i mi ≡ Steps last → last.barriers ≡ slice_set s.barriers b (come_to i count (j ∷ ws))
  both_left last there behind =
      ap (λ (u : State). u.barriers) (moved_left P t last i mi behind)
      ∙ ap (λ c. changed c t.barriers) (wait_change i b t.barriers mi there)
      ∙ ap (λ o. slice_set t.barriers b (met i o)) waits_there
      ∙ ap (λ bs. slice_set bs b (come_to i count (j ∷ ws))) waits_are
      ∙ sets_again s.barriers b (Awaits count (j ∷ ws)) (come_to i count (j ∷ ws))

  pub told_there : (heard : ℕ → Bool) (k : ℕ) → awaited mi ≡ Some b → told t i mi (told s j mj heard) k
      ≡ heard_there i (Some (Awaits count (j ∷ ws))) (heard_there j (Some (Awaits count ws)) heard) k
  told_there heard k there =
      wait_tells t i b mi (told s j mj heard) k there
      ∙ ap (λ o. heard_there i o (told s j mj heard) k) waits_there
      ∙ ap (λ (h : ℕ → Bool). heard_there i (Some (Awaits count (j ∷ ws))) h k)
      (λ d x. (wait_tells s j b mj heard x here ∙ ap (λ o. heard_there j o heard x) at) d)

module _ (P : Program) (s a t : State) (i j : ℕ) (mi mj : Move) (q : Pair P s a t i j mi mj) (b : ℕ) (count : ℤ) (ws : List ℕ)
    (at : slice_get s.barriers b ≡ Some (Awaits count ws)) (shut : opens count ws ≡ false) (first : awaited mi ≡ Some b) (second : awaited mj ≡ Some b) where
  pub barriers_meet : (last other : State) → moved P t i mi ≡ Steps last → moved P a j mj ≡ Steps other → AlikeBarriers last.barriers other.barriers
  barriers_meet last other behind ahead =
      subst (λ bs. AlikeBarriers bs other.barriers) (sym (both_left P s a t i j mi mj q b count ws at shut second last first behind))
      (subst (λ bs. AlikeBarriers (slice_set s.barriers b (come_to i count (j ∷ ws))) bs)
      (sym (both_left P s t a j i mj mi (turn P s a t i j mi mj q) b count ws at shut first other second ahead))
      (alike_set s.barriers s.barriers b (come_to i count (j ∷ ws)) (come_to j count (i ∷ ws)) (all_alike s.barriers) (both_come i j count ws)))

  pub tells_meet : (heard : ℕ → Bool) (k : ℕ) → told t i mi (told s j mj heard) k ≡ told a j mj (told s i mi heard) k
  tells_meet heard k =
      told_there P s a t i j mi mj q b count ws at shut second heard k first
      ∙ meeting_tells i j count ws heard k shut
      ∙ sym (told_there P s t a j i mj mi (turn P s a t i j mi mj q) b count ws at shut first heard k second)
