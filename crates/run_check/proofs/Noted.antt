-- A step is noted: its parts together.
use Rattle.std.proofs.Common.{◌≡◌, ℕ, ◌≤◌, ◌<◌, List, [], ◌∷◌, ap, ◌∙◌, subst, ⊎_elim, inl, inr, arith}
use Rattle.std.specs.Prelude.{◌⊎◌, Bool, true, false, Option, Some, Contains, slice_index}
use Rattle.thread_semantics.specs.Races.{Touch}
use Rattle.run_check.specs.declared.clocks.Stamp.{Stamp}
use Rattle.run_check.specs.declared.class.Class.{Class}
use Rattle.run_check.specs.declared.class.Class.TheVariants as class
use Rattle.run_check.specs.declared.known.Known.{Known}
use Rattle.run_check.specs.Clocks.{Rows, row, clock, is_heard, Ticks, Hears}
use Rattle.run_check.specs.Class.{is_print, mutex_of, barrier_of, id_of, barrier_set, Tells}
use Rattle.run_check.specs.Objects.{Elements, stamp_at, write_at, read_at}
use Rattle.run_check.specs.Shadow.{stamp, next_stamp, last_print, IsOrdered, AreOrdered, IsMarked, IsUnordered, IsUsed, IsNoted, Misses, MissesAccess, MissesMutex, MissesBarrier, MissesId, MissesStep}
use Rattle.run_check.specs.Known.{shadow_of, IsActOrdered, IsActMissed, IsPut}
use Rattle.run_check.proofs.LastAccesses.{one_of_all}

pub set_barrier : (c : Class) (r : List ℕ) (x : ℕ) → barrier_set c r ≡ Some x → barrier_of c ≡ Some x
set_barrier (class.SetsBarrier n) r x e = e
set_barrier (class.Waits n) [] x e = absurd cc
set_barrier (class.Waits n) (i ∷ r) x e = e
set_barrier c r x e = absurd cc

used : (old new : ℕ → Stamp) (heard : ℕ → ℕ) (step next : Stamp) (object : Option ℕ) → step ≡ next →
    ((x : ℕ) → object ≡ Some x → is_heard heard (old x) ≡ true) → IsPut old new step object → IsUsed old new heard next object
used old new heard step next object is ordered x = record {
  ordered = ordered;
  set = λ z e. x.set z e ∙ is;
  change = λ z. ⊎_elim (λ q. inl q) (λ q. inr (q.0, q.1 ∙ is)) (x.change z);
}

pub noted : (old new : Known) (mid : Rows) (i n : ℕ) (c : Class) (touches : List Touch) (r : List ℕ) (ended : Bool) →
    AreOrdered (write_at old.elements.items) (read_at old.elements.items) (clock old.clocks.items i) touches →
    IsActOrdered old (clock old.clocks.items i) c →
    (ended ≡ true → (k : ℕ) → clock old.clocks.items k k ≤ clock old.clocks.items i k) →
    Ticks old.clocks.items mid i n →
    IsMarked (write_at old.elements.items) (write_at new.elements.items) (read_at old.elements.items) (read_at new.elements.items) (stamp i n) touches →
    IsPut (stamp_at old.mutexes.items) (stamp_at new.mutexes.items) (stamp i n) (mutex_of c) →
    IsPut (stamp_at old.barriers.items) (stamp_at new.barriers.items) (stamp i n) (barrier_set c r) →
    IsPut (stamp_at old.ids.items) (stamp_at new.ids.items) (stamp i n) (id_of c) →
    new.print ≡ last_print (is_print c) (stamp i n) old.print →
    (new.one_output ≡ true → (old.one_output ≡ true) × (is_print c ≡ true → is_heard (clock old.clocks.items i) old.print ≡ true)) →
    (new.one_output ≡ false → (old.one_output ≡ false) ⊎ ((is_print c ≡ true) × (is_heard (clock old.clocks.items i) old.print ≡ false))) →
    Hears (Tells c r i) (clock mid) (clock new.clocks.items) → IsNoted (shadow_of old) (shadow_of new) i c touches r ended
noted old new mid i n c touches r ended accesses act last ticks marks mutex barrier id print outputs lost told =
    let is : stamp i n ≡ next_stamp (clock old.clocks.items) i = ap (stamp i) ticks.number in
    let heard = clock old.clocks.items i in
    let next = next_stamp (clock old.clocks.items) i in
    record {
      clocks = record {
        grows = λ j k. let grows = told.grows j k in let at = ticks.is j k in omega (arith, grows, at);
        told = λ v j k t. let more = told.told v j k t in let at = ticks.is v k in omega (arith, more, at);
        source = λ j k.
            ⊎_elim (λ q. inl (q ∙ ticks.is j k)) (λ q. inr (q.0, q.1, q.2 ∙ ticks.is q.0 k)) (told.source j k);
      };
      order = λ t in_it.
          one_of_all (IsOrdered (write_at old.elements.items) (read_at old.elements.items) heard) touches t accesses in_it;
      marks =
          subst
          (λ (step : Stamp). IsMarked (write_at old.elements.items) (write_at new.elements.items) (read_at old.elements.items) (read_at new.elements.items) step touches)
          is marks;
      mutex = used (stamp_at old.mutexes.items) (stamp_at new.mutexes.items) heard (stamp i n) next (mutex_of c) is act.mutex mutex;
      id = used (stamp_at old.ids.items) (stamp_at new.ids.items) heard (stamp i n) next (id_of c) is act.id id;
      barrier =
          used (stamp_at old.barriers.items) (stamp_at new.barriers.items) heard (stamp i n) next (barrier_set c r) is
          (λ x e. act.barrier x (set_barrier c r x e)) barrier;
      meets = act.barrier;
      print = print ∙ ap (λ (step : Stamp). last_print (is_print c) step old.print) is;
      outputs = outputs;
      outputs_lost = lost;
      last = last;
    }

-- what the code finds unheard, by the clock of thread i
pub missed_access : (k : Known) (i : ℕ) (c : Class) (touches : List Touch) (ended : Bool) (heard : List ℕ) (elements : Elements) →
    heard ≡ row k.clocks.items i → elements ≡ k.elements.items →
    (t : Touch) × Contains touches t × IsUnordered (write_at elements) (read_at elements) (slice_index heard) t →
    Misses (shadow_of k) (clock k.clocks.items i) c touches ended
missed_access k i c touches ended heard elements own there x =
    let a = subst (λ es. (t : Touch) × Contains touches t × IsUnordered (write_at es) (read_at es) (slice_index heard) t) there x in
    let b = subst (λ h. (t : Touch) × Contains touches t × IsUnordered (write_at k.elements.items) (read_at k.elements.items) (slice_index h) t) own a in
    MissesAccess b.0 b.1 b.2

pub missed_act : (k : Known) (i : ℕ) (c : Class) (touches : List Touch) (ended : Bool) (heard : List ℕ) → heard ≡ row k.clocks.items i →
    IsActMissed k (slice_index heard) c → Misses (shadow_of k) (clock k.clocks.items i) c touches ended
missed_act k i c touches ended heard own x =
    ⊎_elim (λ q. MissesMutex q.0 q.1 q.2) (λ x. ⊎_elim (λ q. MissesBarrier q.0 q.1 q.2) (λ q. MissesId q.0 q.1 q.2) x)
    (subst (λ h. IsActMissed k (slice_index h) c) own x)

pub missed_last : (k : Known) (i : ℕ) (c : Class) (touches : List Touch) (ended : Bool) (heard : List ℕ) (rows : Rows) → heard ≡ row k.clocks.items i →
    rows ≡ k.clocks.items → ended ≡ true → (n : ℕ) × (slice_index heard n < clock rows n n) → Misses (shadow_of k) (clock k.clocks.items i) c touches ended
missed_last k i c touches ended heard rows own all over x =
    let a = subst (λ r. (n : ℕ) × (slice_index heard n < clock r n n)) all x in
    let b = subst (λ h. (n : ℕ) × (slice_index h n < clock k.clocks.items n n)) own a in
    MissesStep over b.0 b.1
