-- What is pending after a change: each step that is not holds.
use Rattle.std.specs.Prelude.{◌≡◌, ℕ, zero, suc, ◌+◌, ◌<◌, ◌≤◌, Bool, true, false, not, List, [], ◌∷◌, length, Some, slice_get, slice_index, slice_index_or, slice_set, replicate, refl}
use Rattle.std.proofs.Common.{ap, sym, ◌∙◌, subst, ⊎_elim, arith}
use Rattle.std.proofs.lemmas.List.{get_or-set_same, get_or-set_other, get_or-replicate, length-replicate}
use Rattle.std.proofs.lemmas.Option.{same_Some, none-some, slice_get_within}
use Rattle.std.proofs.lemmas.Bool.{both_ways, cases_eq}
use Rattle.std.proofs.Math.ListN.{length-set}
use Rattle.netlist.specs.declared.netlist.Module.{Module}
use Rattle.verilog_meaning.specs.Cycles.{Choice}
use Rattle.verilog_meaning.specs.Threads.{IsOneOf}
use Rattle.sim_values.specs.declared.settle.Step.{Step}
use Rattle.sim_values.specs.Rows.{EachOf}
use Rattle.sim_values.specs.Flat.{fed, settled}
use Rattle.sim_values.specs.Order.{reads, IsMarked}
use Rattle.sim_values.specs.Stands.{IsFree}
use Rattle.sim_values.proofs.Settles.{gives_new}
use Rattle.sim_values.proofs.Trees.{front_or_back}
use Rattle.sim_layout.proofs.LeadSearch.{below_next}
use Rattle.sim_events.specs.Events.{Touches, IsAmong, IsFanout, AreOrdered, IsKeeping, IsSettling, steady, Gives, Holds, flat_at}
use Rattle.sim_events.proofs.Touched.{earlier_apart, reads_others}
use Rattle.sim_events.proofs.Memoryless.{steady_holds}
use Rattle.sim_events.proofs.Settled.{settles_to, gives_other, holds_other, gives_taken}

not_true : (b : Bool) → (b ≡ true → ⊥) → b ≡ false
not_true true n = absurd (n refl)
not_true false n = refl

not_false_true : (b : Bool) → (b ≡ false → ⊥) → b ≡ true
not_false_true true n = refl
not_false_true false n = absurd (n refl)

not_moving : (b : Bool) → b ≡ true → not b ≡ false
not_moving true e = refl
not_moving false e = absurd cc

moving_not : (b : Bool) → b ≡ false → not b ≡ true
moving_not false e = refl
moving_not true e = absurd cc

-- what keeps its marks has no clear one more
clear_before : (old new : List Bool) (k : ℕ) → (IsMarked old k → IsMarked new k) → slice_index_or new k false ≡ false → slice_index_or old k false ≡ false
clear_before old new k keeps clear = not_true (slice_index_or old k false) (λ m. both_ways (slice_index_or new k false) clear (keeps m))

pub each_at : (P : Step → Type 0) (steps : List Step) (k : ℕ) (s : Step) → EachOf P steps → slice_get steps k ≡ Some s → P s
each_at P [] k s e at = absurd (none-some s at)
each_at P (u ∷ steps) zero s e at = subst P (same_Some u s at) e.0
each_at P (u ∷ steps) (suc k) s e at = each_at P steps k s e.1 at

module _ (modules : List Module) (steps : List Step) (ends listed : List ℕ) where
  -- ---- a number is put from outside

  pub keeping_put : (numbers : List ℕ) (pending marked : List Bool) (t v : ℕ) → t < length numbers → IsKeeping modules steps ends listed numbers pending → length marked ≡ length pending
      → ((k : ℕ) → 0 ≤ k → k < length pending → IsAmong ends listed t k → IsMarked marked k)
      → ((k : ℕ) → IsMarked pending k → IsMarked marked k) → IsKeeping modules steps ends listed (slice_set numbers t v) marked
  keeping_put numbers pending marked t v inside is long marks keeps = record {
    all = subst (λ n. IsFanout modules steps n ends listed) (sym (length-set numbers t v)) is.all;
    long = long ∙ is.long;
    moving = λ k s at moves. keeps k (is.moving k s at moves);
    kept = λ k s at clear still.
        let within = slice_get_within steps k s at in
        let same = is.long in
        holds_other modules numbers t v s
        (λ touch. both_ways (slice_index_or marked k false) clear (marks k (omega arith) (omega (arith, within, same)) (is.all k t s at touch inside)))
        (is.kept k s at (clear_before pending marked k (keeps k) clear) still);
  }

  -- ---- steps are taken

  module _ (c : Choice) (words starts first : List ℕ) where
    abbrev Settling : ℕ → List ℕ → List Bool → Type 0
    Settling = IsSettling modules steps c words starts ends listed first

    pub settling_none : (pending : List Bool) → IsKeeping modules steps ends listed first pending → Settling 0 first pending
    settling_none pending is = record { keeping = is; long = refl; same = λ y none. refl; done = λ k s l at. absurd (omega (arith, l)); clear = λ k s l at still. absurd (omega (arith, l)) }

    -- a step that is not pending holds
    pub settling_skip : (i : ℕ) (numbers : List ℕ) (pending : List Bool) → slice_index_or pending i false ≡ false → Settling i numbers pending → Settling (i + 1) numbers pending
    settling_skip i numbers pending clear is = record {
      keeping = is.keeping;
      long = is.long;
      same = is.same;
      done = λ k s l at. ⊎_elim
          (λ less. is.done k s less at)
          (λ (e : k ≡ i).
          let here : slice_index_or pending k false ≡ false = ap (λ z. slice_index_or pending z false) e ∙ clear in
          let still : steady modules s.feed ≡ true = not_false_true (steady modules s.feed) (λ moves. both_ways (slice_index_or pending k false) here (is.keeping.moving k s at moves)) in
          is.keeping.kept k s at here still c words starts)
          (below_next k i l);
      clear = λ k s l at still. ⊎_elim (λ less. is.clear k s less at still) (λ (e : k ≡ i). ap (λ z. slice_index_or pending z false) e ∙ clear) (below_next k i l);
    }

    pub settling_skips : (count i : ℕ) (numbers : List ℕ) (pending : List Bool) → ((k : ℕ) → i ≤ k → k < i + count → slice_index_or pending k false ≡ false)
        → Settling i numbers pending → Settling (i + count) numbers pending
    settling_skips zero i numbers pending clear is = subst (λ n. Settling n numbers pending) (omega arith) is
    settling_skips (suc count) i numbers pending clear is =
        subst (λ n. Settling n numbers pending) (omega arith)
        (settling_skips count (i + 1) numbers pending (λ k from to. clear k (omega (arith, from)) (omega (arith, to))) (settling_skip i numbers pending (clear i (omega arith) (omega arith)) is))

    module _ (i : ℕ) (s : Step) (numbers : List ℕ) (pending : List Bool) (at : slice_get steps i ≡ Some s) (is : Settling i numbers pending) where
      one_step : (k : ℕ) (u : Step) → slice_get steps k ≡ Some u → k ≡ i → s ≡ u
      one_step k u there e = same_Some s u (sym at ∙ ap (slice_get steps) (sym e) ∙ there)

      -- a step that hangs on the choice or on a memory stays pending
      abbrev after : List Bool
      after = slice_set pending i (not (steady modules s.feed))

      after_long : length after ≡ length pending
      after_long = length-set pending i (not (steady modules s.feed))

      other_after : (k : ℕ) → (k ≡ i → ⊥) → slice_index_or after k false ≡ slice_index_or pending k false
      other_after k apart = get_or-set_other pending i k (not (steady modules s.feed)) false apart

      other_clear : (k : ℕ) → (k ≡ i → ⊥) → slice_index_or after k false ≡ false → slice_index_or pending k false ≡ false
      other_clear k apart e = sym (other_after k apart) ∙ e

      own_after : slice_index_or after i false ≡ not (steady modules s.feed)
      own_after =
          let within = slice_get_within steps i s at in
          let long = is.keeping.long in
          get_or-set_same pending i (not (steady modules s.feed)) false (omega (arith, within, long))

      after_moving : (k : ℕ) (u : Step) → slice_get steps k ≡ Some u → steady modules u.feed ≡ false → IsMarked after k
      after_moving k u there moves = ⊎_elim
          (λ (e : k ≡ i).
          ap (λ z. slice_index_or after z false) e ∙ own_after ∙ moving_not (steady modules s.feed) (subst (λ (z : Step). steady modules z.feed ≡ false) (sym (one_step k u there e)) moves))
          (λ apart. other_after k apart ∙ is.keeping.moving k u there moves)
          (cases_eq k i)

      after_clear : (k : ℕ) (u : Step) → k < i + 1 → slice_get steps k ≡ Some u → steady modules u.feed ≡ true → slice_index_or after k false ≡ false
      after_clear k u l there still = ⊎_elim
          (λ less. other_after k (λ e. absurd (omega (arith, e, less))) ∙ is.clear k u less there still)
          (λ (e : k ≡ i).
          ap (λ z. slice_index_or after z false) e ∙ own_after ∙ not_moving (steady modules s.feed) (subst (λ (z : Step). steady modules z.feed ≡ true) (sym (one_step k u there e)) still))
          (below_next k i l)

      -- the word of the step stays
      pub settling_same : slice_index numbers s.target ≡ fed modules c (flat_at numbers words starts) s.feed → Settling (i + 1) numbers after
      settling_same gives = record {
        keeping = record {
          all = is.keeping.all;
          long = after_long ∙ is.keeping.long;
          moving = after_moving;
          kept = λ k u there clear still. ⊎_elim
              (λ (e : k ≡ i).
              subst (Holds modules numbers) (one_step k u there e)
              (steady_holds modules numbers words starts c s (subst (λ (z : Step). steady modules z.feed ≡ true) (sym (one_step k u there e)) still) gives))
              (λ apart. is.keeping.kept k u there (other_clear k apart clear) still)
              (cases_eq k i);
        };
        long = is.long;
        same = is.same;
        done = λ k u l there. ⊎_elim
            (λ less. is.done k u less there)
            (λ (e : k ≡ i). subst (Gives modules c (flat_at numbers words starts)) (one_step k u there e) gives)
            (below_next k i l);
        clear = after_clear;
      }

      -- the word of the step changes
      module _ (v : ℕ) (marked : List Bool) (ordered : AreOrdered modules steps (length numbers)) (inside : s.target < length numbers)
          (gives : v ≡ fed modules c (flat_at numbers words starts) s.feed) (long : length marked ≡ length after)
          (marks : (k : ℕ) → i + 1 ≤ k → k < length after → IsAmong ends listed s.target k → IsMarked marked k)
          (keeps : (k : ℕ) → IsMarked after k → IsMarked marked k)
          (before : (k : ℕ) → k < i + 1 → slice_index_or marked k false ≡ slice_index_or after k false) where
        new : List ℕ
        new = slice_set numbers s.target v

        unread : IsOneOf s.target (reads modules s.feed) → ⊥
        unread = reads_others modules (IsFree ordered.free) steps i s ordered.ordered at

        untouched : (k : ℕ) (u : Step) → slice_get steps k ≡ Some u → k < i → Touches modules u s.target → ⊥
        untouched k u there l = earlier_apart modules (IsFree ordered.free) steps k i u s ordered.ordered there at l

        taken : Gives modules c (flat_at (slice_set numbers s.target v) words starts) s
        taken = gives_taken modules c (flat_at numbers words starts) s v unread inside gives

        behind : (k : ℕ) (u : Step) → slice_get steps k ≡ Some u → i < k → slice_index_or marked k false ≡ false → Touches modules u s.target → ⊥
        behind k u there l clear touch =
            let within = slice_get_within steps k u there in
            let same = is.keeping.long in
            let set = after_long in
            both_ways (slice_index_or marked k false) clear (marks k (omega (arith, l)) (omega (arith, within, same, set)) (is.keeping.all k s.target u there touch inside))

        kept_now : (k : ℕ) (u : Step) → slice_get steps k ≡ Some u → slice_index_or marked k false ≡ false → steady modules u.feed ≡ true → Holds modules (slice_set numbers s.target v) u
        kept_now k u there clear still = ⊎_elim
            (λ (l : k < i). holds_other modules numbers s.target v u (untouched k u there l) (is.keeping.kept k u there (is.clear k u l there still) still))
            (λ rest. ⊎_elim
            (λ (e : k ≡ i).
            subst (Holds modules (slice_set numbers s.target v)) (one_step k u there e)
            (steady_holds modules (slice_set numbers s.target v) words starts c s (subst (λ (z : Step). steady modules z.feed ≡ true) (sym (one_step k u there e)) still) taken))
            (λ (apart : k ≡ i → ⊥).
            let z = rest.1 in
            let old = other_clear k apart (clear_before after marked k (keeps k) clear) in
            holds_other modules numbers s.target v u (behind k u there (later k i rest.0 z apart) clear) (is.keeping.kept k u there old still))
            (cases_eq k i))
            (front_or_back k i)
          where
            later : (k i d : ℕ) → k ≡ i + d → (k ≡ i → ⊥) → i < k
            later k i zero e apart = absurd (apart (omega (arith, e)))
            later k i (suc d) e apart = omega (arith, e)

        pub settling_changed : Settling (i + 1) (slice_set numbers s.target v) marked
        settling_changed = record {
          keeping = record {
            all = subst (λ n. IsFanout modules steps n ends listed) (sym (length-set numbers s.target v)) is.keeping.all;
            long = long ∙ after_long ∙ is.keeping.long;
            moving = λ k u there moves. keeps k (after_moving k u there moves);
            kept = kept_now;
          };
          long = length-set numbers s.target v ∙ is.long;
          same = λ y none. is.same y none ∙ sym (get_or-set_other numbers s.target y v 0 (λ e. none s (i, at) (sym e)));
          done = λ k u l there. ⊎_elim
              (λ less. gives_other modules c (flat_at numbers words starts) s.target v u (untouched k u there less) (is.done k u less there))
              (λ (e : k ≡ i). subst (Gives modules c (flat_at (slice_set numbers s.target v) words starts)) (one_step k u there e) taken)
              (below_next k i l);
          clear = λ k u l there still. before k l ∙ after_clear k u l there still;
        }

    -- all are taken
    pub settling_all : (i : ℕ) (numbers : List ℕ) (pending : List Bool) → length steps ≤ i → AreOrdered modules steps (length first) → Settling i numbers pending
        → numbers ≡ settled modules c (flat_at first words starts) steps
    settling_all i numbers pending all ordered is = sym (settles_to modules c (IsFree ordered.free) steps (flat_at first words starts) numbers
        (sym is.long)
        (subst (λ n. EachOf (λ (s : Step). s.target < n) steps) (sym is.long) ordered.targets)
        ordered.ordered
        (λ y free. is.same y (λ s t e. gives_new modules (IsFree ordered.free) steps t.0 y s ordered.ordered t.1 free e))
        is.same
        (λ s t. let within = slice_get_within steps t.0 s t.1 in is.done t.0 s (omega (arith, within, all)) t.1))

-- where each step is pending none has to hold
pub keeping_all : (modules : List Module) (steps : List Step) (ends listed numbers : List ℕ) (pending : List Bool) → IsFanout modules steps (length numbers) ends listed
    → pending ≡ replicate (length steps) true → IsKeeping modules steps ends listed numbers pending
keeping_all modules steps ends listed numbers pending all are = record {
  all = all;
  long = ap length are ∙ length-replicate (length steps) true;
  moving = λ k s at moves.
      let within = slice_get_within steps k s at in
      ap (λ (m : List Bool). slice_index_or m k false) are ∙ get_or-replicate (length steps) k true false within;
  kept = λ k s at clear still.
      let within = slice_get_within steps k s at in
      absurd (both_ways (slice_index_or pending k false) clear (ap (λ (m : List Bool). slice_index_or m k false) are ∙ get_or-replicate (length steps) k true false within));
}
