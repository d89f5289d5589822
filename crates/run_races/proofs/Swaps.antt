-- In a clean run each step can be exchanged with one that could have been taken before it.
use Rattle.std.proofs.Common.{◌≡◌, ◌≢◌, ℕ, zero, suc, List, [], ◌∷◌, refl, ap, sym, ◌∙◌, subst, ⊎_elim, inl, inr}
use Rattle.std.specs.Prelude.{◌⊎◌, Bool, true, false, if◌then◌else◌, nat_eq, Option, Some, None, slice_get, slice_set, ℤ}
use Rattle.std.specs.List.{list_any, list_all}
use Rattle.std.proofs.lemmas.Bool.{ne_eqb, or_from, or_right}
use Rattle.lists.proofs.Places.{set_there}
use Rattle.c_program.specs.Tree.{Program}
use Rattle.c_program.specs.Resolved.{IsResolved}
use Rattle.thread_semantics.specs.Work.{Act}
use Rattle.thread_semantics.specs.State.{Frame, Running, Awaits, State}
use Rattle.thread_semantics.specs.Move.{Move, move}
use Rattle.thread_semantics.specs.Step.{Steps, is_unused, created_slots, finished, is_waiter, moved, object_operand, step}
use Rattle.thread_semantics.specs.Races.{touched, id_of_move}
use Rattle.race_model.specs.Orderly.{waits_in}
use Rattle.race_model.proofs.Orderly.{orderly}
use Rattle.race_model.proofs.Agreement.{reached_is}
use Rattle.race_model.proofs.Sound.{IsSound, goes, main_ends, unused_at}
use Rattle.run_races.specs.Order.{move_in, next_move, mutex_of_move, barrier_of_move, awaited, ends, prints, Conflict, Depends, OnData, OnMutex, OnBarrier, OnId, OnAll, told}
use Rattle.run_races.specs.Clean.{IsClean}
use Rattle.run_races.proofs.StandingThreads.{Stands, none_set}
use Rattle.run_races.proofs.Meetings.{opens}
use Rattle.run_races.proofs.AlikeStates.{AlikeBarriers}
use Rattle.run_races.proofs.SameMoves.{move_behind}
use Rattle.run_races.proofs.StepsBehind.{step_behind as step_taken_behind}
use Rattle.run_races.proofs.StepsAhead.{BothWait, no_conflict, moved_awaited, none_or_same}
use Rattle.run_races.proofs.DefinedSteps.{taken_defined, waits_not_stands}
use Rattle.run_races.proofs.RaceFreedom.{turned}
use Rattle.run_races.proofs.Partners.{Partner, partner, steps_behind}
use Rattle.run_races.proofs.Changes.{met, moved_left}
use Rattle.run_races.proofs.Exchange.{Pair, turn, steps_j, step_behind, next_behind, next_here, none_hears, both_alike, output_same, barrier_kept, barriers_apart, tells_apart}
use Rattle.run_races.proofs.Exchange.{awaited_acts, can_wait, waits_there, barriers_meet, tells_meet}
use Rattle.run_races.proofs.GoodPrograms.{IsReached}
use Rattle.run_races.proofs.RemainingRuns.{Swap, Exchange}

-- a wait acts on no mutex and on no thread id
wait_no_mutex : (m : Move) (b n : ℕ) → awaited m ≡ Some b → mutex_of_move m ≡ Some n → ⊥
wait_no_mutex (Move.Acts offset Act.BarrierWait operands frames) b n e q = cc
wait_no_mutex (Move.Acts offset act operands frames) b n e q = absurd cc
wait_no_mutex m b n e q = cc

wait_no_id : (m : Move) (b n : ℕ) → awaited m ≡ Some b → id_of_move m ≡ Some n → ⊥
wait_no_id (Move.Acts offset Act.BarrierWait operands frames) b n e q = cc
wait_no_id (Move.Acts offset act operands frames) b n e q = absurd cc
wait_no_id m b n e q = cc

-- main doesn't return while another thread runs
main_stays : (P : Program) (s t : State) (i j : ℕ) (m : Move) (frames : List Frame) → i ≢ j → Stands s i frames → j ≡ 0 → ends m ≡ true → moved P s j m ≡ Steps t → ⊥
main_stays P s t i j (Move.Ends offset reads) frames apart x main e does =
    go i apart x.at (main_ends s t offset (subst (λ k. finished s k offset ≡ Steps t) main does)).0
  where
    go : (k : ℕ) → k ≢ j → slice_get s.slots k ≡ Some (Running frames) → list_all is_unused (created_slots s.slots) ≡ true → ⊥
    go zero other at all = other (sym main)
    go (suc k) other at all = unused_at s.slots k frames all at
main_stays P s t i j m frames apart x main e does = cc

-- two moves wait at one barrier, or not
wait_cases : (m n : Move) → ((b : ℕ) × (awaited m ≡ Some b) × (awaited n ≡ Some b)) ⊎ ((b : ℕ) → awaited m ≡ Some b → awaited n ≡ Some b → ⊥)
wait_cases m n = go (awaited m) refl
  where
    go : (o : Option ℕ) → awaited m ≡ o → ((b : ℕ) × (awaited m ≡ Some b) × (awaited n ≡ Some b)) ⊎ ((b : ℕ) → awaited m ≡ Some b → awaited n ≡ Some b → ⊥)
    go None e = inr (λ b q r. (let no = sym e ∙ q in cc))
    go (Some b) e =
        ⊎_elim
        (λ same. inl (b, e, same))
        (λ other. inr (λ k q r. other (let here : Some b ≡ Some k = sym e ∙ q in r ∙ sym here)))
        (none_or_same (awaited n) b)

-- who opens a barrier stands behind its step
opener_stands : (P : Program) (s t : State) (j b : ℕ) (m : Move) (count : ℤ) (ws : List ℕ) (frames : List Frame) → awaited m ≡ Some b → moved P s j m ≡ Steps t →
    slice_get s.barriers b ≡ Some (Awaits count ws) → opens count ws ≡ true → Stands s j frames → (later : List Frame) × Stands t j later
opener_stands P s t j b (Move.Acts offset Act.BarrierWait operands later) count ws frames e does at opening x =
    let is = moved_left P s t j (Move.Acts offset Act.BarrierWait operands later) does in
    let same : object_operand operands ≡ b = cc in (
      later,
      record {
        at = ap (λ (u : State). slice_get u.slots j) is ∙ set_there s.slots j (Running frames) (Running later) x.at;
        free =
            ap (λ (u : State). list_any (is_waiter j) u.barriers) is
            ∙ ap (λ k. list_any (is_waiter j) (slice_set s.barriers k (met j (slice_get s.barriers k)))) same
            ∙ ap (λ o. list_any (is_waiter j) (slice_set s.barriers b (met j o))) at
            ∙ ap (λ (c : Bool). list_any (is_waiter j) (slice_set s.barriers b (if c then Awaits count [] else Awaits count (j ∷ ws)))) opening
            ∙ none_set (is_waiter j) s.barriers b (Awaits count []) x.free refl;
      },
    )
opener_stands P s t j b (Move.Acts offset act operands later) count ws frames e does at opening x = absurd cc
opener_stands P s t j b m count ws frames e does at opening x = absurd cc

-- the second steps, and what they lead to
module _ (P : Program) (s a t : State) (i j : ℕ) (mi mj : Move) (q : Pair P s a t i j mi mj) (last other : State) (behind : moved P t i mi ≡ Steps last)
    (ahead : moved P a j mj ≡ Steps other) where
  swap : AlikeBarriers last.barriers other.barriers → ((heard : ℕ → Bool) (k : ℕ) → told t i mi (told s j mj heard) k ≡ told a j mj (told s i mi heard) k) →
      ((k b : ℕ) → awaited mj ≡ Some b → waits_in k (slice_get s.barriers b) ≡ true → waits_in k (slice_get a.barriers b) ≡ true) → Swap P s a t i j
  swap barriers tells waits = record {
    last = last;
    other = other;
    behind = step_behind P s a t i j mi mj q ∙ behind;
    ahead = step_behind P s t a j i mj mi r ∙ ahead;
    alike = both_alike P s a t last other i j mi mj q behind ahead barriers;
    output = λ apart. output_same P s a t last other i j mi mj q behind ahead (λ e f. apart (ap prints next_i ∙ e) (ap prints next_j ∙ f));
    same = same;
    tells = all_tell;
    own = all_tell (nat_eq j) ∙ ap (told a j (next_move P a j)) (ap (λ m. told s i m (nat_eq j)) next_i ∙ none_hears P s a t i j mi mj q);
    fresh = ne_eqb i j q.apart;
    meets = λ k m again meet. record {
      barrier = meet.barrier;
      first = meet.first;
      second = ap awaited same ∙ meet.second;
      still = or_from again (nat_eq i k) meet.still (ne_eqb i k (λ e. waits_not_stands s k meet.barrier q.frames_i meet.waits (subst (λ n. Stands s n q.frames_i) e q.stands_i)));
      waits = waits k meet.barrier (sym (ap awaited next_j) ∙ meet.second) meet.waits;
    };
  }
    where
      r : Pair P s t a j i mj mi
      r = turn P s a t i j mi mj q

      next_i : next_move P s i ≡ mi
      next_i = next_here P s a t i j mi mj q

      next_j : next_move P s j ≡ mj
      next_j = next_here P s t a j i mj mi r

      same : next_move P a j ≡ next_move P s j
      same = next_behind P s t a j i mj mi r ∙ sym next_j

      all_tell : (heard : ℕ → Bool) → told t i (next_move P t i) (told s j (next_move P s j) heard) ≡ told a j (next_move P a j) (told s i (next_move P s i) heard)
      all_tell heard =
          ap (λ m. told t i m (told s j (next_move P s j) heard)) (next_behind P s a t i j mi mj q)
          ∙ ap (λ m. told t i mi (told s j m heard)) next_j
          ∙ (λ d k. tells heard k d)
          ∙ sym (ap (λ m. told a j mj (told s i m heard)) next_i)
          ∙ sym (ap (λ m. told a j m (told s i (next_move P s i) heard)) (next_behind P s t a j i mj mi r))

module _ (P : Program) (s a t : State) (i j : ℕ) (mi mj : Move) (q : Pair P s a t i j mi mj) where
  -- what a step comes to behind the other one, as its move
  as_move : (w : State) → step P t i ≡ Steps w → moved P t i mi ≡ Steps w
  as_move w e = sym (step_behind P s a t i j mi mj q) ∙ e

-- the two steps act on no common barrier
module _ (P : Program) (s a t : State) (i j : ℕ) (mi mj : Move) (q : Pair P s a t i j mi mj)
    (barriers : (n : ℕ) → barrier_of_move mi ≡ Some n → barrier_of_move mj ≡ Some n → ⊥) where
  r : Pair P s t a j i mj mi
  r = turn P s a t i j mi mj q

  -- neither depends on the other: of j on i
  turned_clear : Depends (next_move P s i) j mj → ⊥
  turned_clear d = go (subst (λ m. Depends m j mj) (next_here P s a t i j mi mj q) d)
    where
      go : Depends mi j mj → ⊥
      go (OnData conflict) = q.clear (turned (touched mi) (touched mj) conflict)
      go (OnMutex n first second) = q.mutexes n first second
      go (OnBarrier n first second) = barriers n first second
      go (OnId n first second) = q.ids n first second
      go (OnAll main return) = main_stays P s t i j mj q.frames_i q.apart q.stands_i main return q.does_j

  swap_apart : (w : State) → step P t i ≡ Steps w → Swap P s a t i j
  swap_apart last e =
      let kept : move P a.globals q.frames_j ≡ move P s.globals q.frames_j = q.kept_j ∙ sym q.is_j in
      let clear : Depends (next_move P s i) j (move P s.globals q.frames_j) → ⊥ = λ d. turned_clear (subst (λ m. Depends (next_move P s i) j m) q.is_j d) in
      let w = step_taken_behind P s a t j i q.frames_j (λ x. q.apart (sym x)) (steps_j P s t a j i mj mi r) q.stands_j kept clear (steps_j P s a t i j mi mj q) in
      let behind = as_move P s a t i j mi mj q last e in
      let ahead = as_move P s t a j i mj mi r w.0 w.1 in
      swap P s a t i j mi mj q last w.0 behind ahead (barriers_apart P s a t i j mi mj q barriers last w.0 behind ahead) (tells_apart P s a t i j mi mj q barriers)
      (λ k b x waits. ap (waits_in k) (barrier_kept P s t a j i mj mi r (λ n y z. barriers n z y) b (awaited_acts mj b x)) ∙ waits)

-- both wait at the barrier b, which thread j doesn't open
module _ (P : Program) (s a t : State) (i j : ℕ) (mi mj : Move) (q : Pair P s a t i j mi mj) (b : ℕ) (first : awaited mi ≡ Some b) (second : awaited mj ≡ Some b) where
  swap_meet : (count : ℤ) (ws : List ℕ) → slice_get s.barriers b ≡ Some (Awaits count ws) → opens count ws ≡ false → Swap P s a t i j
  swap_meet count ws at shut =
      let r = turn P s a t i j mi mj q in
      let there = waits_there P s a t i j mi mj q b count ws at shut second in
      let here = waits_there P s t a j i mj mi r b count ws at shut first in
      let v = can_wait P t i b count (j ∷ ws) mi first there in
      let w = can_wait P a j b count (i ∷ ws) mj second here in
      swap P s a t i j mi mj q v.0 w.0 v.1 w.1 (barriers_meet P s a t i j mi mj q b count ws at shut first second v.0 w.0 v.1 w.1)
      (tells_meet P s a t i j mi mj q b count ws at shut first second)
      (λ k c x waits. (let both : Some b ≡ Some c = sym second ∙ x in
      let same : b ≡ c = cc in
      subst (λ n. waits_in k (slice_get a.barriers n) ≡ true) same
      (ap (waits_in k) here
      ∙ or_right (nat_eq k i) (list_any (nat_eq k) ws) (sym (ap (waits_in k) at) ∙ subst (λ n. waits_in k (slice_get s.barriers n) ≡ true) (sym same) waits))))

module _ (P : Program) (R : IsResolved P) (s a : State) (i j : ℕ) (list : List ℕ) (apart : i ≢ j) (sound : IsSound P s) (reached : IsReached P s) (e : step P s i ≡ Steps a)
    (clean : IsClean P s (j ∷ list)) where
  abbrev t : State
  t = clean.0

  abbrev fi : List Frame
  fi = (goes P s a i e).frames

  abbrev fj : List Frame
  fj = (goes P s t j clean.1).frames

  abbrev mi : Move
  mi = move P s.globals fi

  abbrev mj : Move
  mj = move P s.globals fj

  stands_i : Stands s i fi
  stands_i = let g = goes P s a i e in record { at = g.at; free = g.free }

  stands_j : Stands s j fj
  stands_j = let g = goes P s t j clean.1 in record { at = g.at; free = g.free }

  next_j : next_move P s j ≡ mj
  next_j = ap (move_in P s) stands_j.at

  next_i : next_move P s i ≡ mi
  next_i = ap (move_in P s) stands_i.at

  p : Partner P s t i j fi
  p = partner P R s i j fi list apart sound stands_i clean

  free : Depends mj i mi → BothWait mj mi
  free = subst (λ m. Depends m i mi → BothWait m mi) next_j p.free

  clear : Conflict (touched mj) (touched mi) → ⊥
  clear c = no_conflict mj mi (free (OnData c)) c

  pair : Pair P s a t i j mi mj
  pair = record {
    frames_i = fi;
    frames_j = fj;
    apart = apart;
    order = orderly P R s (reached.0, (reached_is P reached.0 s).1 reached.1);
    stands_i = stands_i;
    stands_j = stands_j;
    is_i = refl;
    is_j = refl;
    kept_i = p.same;
    kept_j = move_behind P s a i e fj (taken_defined P s t j mj (goes P s t j clean.1).does)
        (λ c. clear (turned (touched mi) (touched mj) (subst (λ m. Conflict (touched m) (touched mj)) next_i c)));
    does_i = (goes P s a i e).does;
    does_j = (goes P s t j clean.1).does;
    clear = clear;
    mutexes = λ n x y. (let b = free (OnMutex n y x) in wait_no_mutex mi b.barrier n b.second x);
    ids = λ n x y. (let b = free (OnId n y x) in wait_no_id mi b.barrier n b.second x);
  }

  meet : (b : ℕ) → awaited mi ≡ Some b → awaited mj ≡ Some b → Swap P s a t i j
  meet b first second =
      let w = moved_awaited P s t j mj b second (goes P s t j clean.1).does in
      swap_meet P s a t i j mi mj pair b first second w.count w.waiters w.is (go w.count w.waiters w.is (opens w.count w.waiters) refl)
    where
      depends : Depends (next_move P s j) i mi
      depends = OnBarrier b (ap barrier_of_move next_j ∙ awaited_acts mj b second) (awaited_acts mi b first)

      go : (count : ℤ) (ws : List ℕ) → slice_get s.barriers b ≡ Some (Awaits count ws) → (c : Bool) → opens count ws ≡ c → c ≡ false
      go count ws at false x = refl
      go count ws at true x =
          let r = opener_stands P s t j b mj count ws fj second (goes P s t j clean.1).does at x stands_j in
          absurd (p.kept depends r.0 r.1)

  none_meet : ((b : ℕ) → awaited mi ≡ Some b → awaited mj ≡ Some b → ⊥) → Swap P s a t i j
  none_meet none =
      let w = steps_behind P s a t i j fi apart clean.1 e p (λ d. (let b = p.free d in none b.barrier b.second (sym (ap awaited next_j) ∙ b.first))) in
      swap_apart P s a t i j mi mj pair (λ n x y. (let b = free (OnBarrier n y x) in none b.barrier b.second b.first)) w.0 w.1

  swapped : Swap P s a t i j
  swapped = ⊎_elim (λ (both : (b : ℕ) × (awaited mi ≡ Some b) × (awaited mj ≡ Some b)). meet both.0 both.1 both.2) (λ none. none_meet none) (wait_cases mi mj)

pub exchange : (P : Program) → IsResolved P → Exchange P
exchange P R s a i j list apart sound reached e clean = swapped P R s a i j list apart sound reached e clean
