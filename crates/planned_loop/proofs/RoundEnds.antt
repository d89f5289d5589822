-- The laws of a pipelined loop, put together.
use Rattle.std.specs.Prelude.{ℤ, nat_lt, Bool, true, false, ◌&&◌, if◌then◌else◌}
use Rattle.std.proofs.Common.{◌≡◌, ℕ, suc, ◌+◌, ◌-◌, ◌*◌, ◌<◌, ◌≤◌, refl, sym, ap, ◌∙◌, subst, inl, inr, ⊎_elim, arith}
use Rattle.interleaving.specs.Memory.{Location}
use Rattle.planned_block.specs.Block.{size, finished}
use Rattle.planned_block.specs.Slot.{Slot}
use Rattle.planned_block.proofs.Bits.{not_less_is, less_or_not}
use Rattle.planned_loop.specs.Loop.{Loop, Iterations, AreIterations, holds, runs}
use Rattle.planned_loop.specs.Plan.{LoopPlan, KeepsLoop}
use Rattle.planned_loop.specs.Move.{operand_ahead, flag, smaller, prologue, goes_round, is_last, Rounds}
use Rattle.planned_loop.specs.Moment.{over_in, IsCut, IsPast, IsAt}
use Rattle.planned_loop.specs.Law.{IsOver, LoopBegins, LoopGoesOn, LoopEnds}
use Rattle.planned_loop.proofs.RoundNumbers.{smaller_low, smaller_high, rounds_are}
use Rattle.planned_loop.proofs.ShownWires.{runs_before, late_late}
use Rattle.planned_loop.proofs.ArrayCuts.{cuts_agree}
use Rattle.planned_loop.proofs.CycleSteps as step

pub loop_goes_on : LoopGoesOn
loop_goes_on l p it are keeps r ph q v wire at goes =
    let w = goes.works in
    record {
      inside = goes.within;
      state = step.state_within l p it keeps are r ph q v wire at w goes;
      running = at.running;
      variables = λ x. ap (λ (f : ℕ → ℤ). f x) goes.variables ∙ at.variables x;
      first = step.first_within l p it keeps are r ph q v wire at w;
      bits = step.bits_within l p it keeps are r ph q v wire at w goes;
      chains = step.chain_within l p it keeps are r ph q v wire at w;
      arrays = λ x n j e cut is run. step.arrays_right l p it keeps are r ph q v wire at w r (suc ph) x n j e is cut run
          (step.past_within l p it keeps are r ph q v wire at w) (step.still_within l p it keeps are r ph q v wire at w);
    }

-- the next round's number
next_round : (r bound : ℕ) → 1 ≤ bound → smaller (suc (smaller r bound)) bound ≡ smaller (suc r) bound
next_round r bound some = ⊎_elim
    (λ lt. ap (λ z. smaller (suc z) bound) (smaller_low r bound (omega arith)))
    (λ le. ap (λ z. smaller (suc z) bound) (smaller_high r bound le) ∙ smaller_high (suc bound) bound (omega arith) ∙ sym
    (smaller_high (suc r) bound (omega arith)))
    (less_or_not r bound)

module _ (l : Loop) (p : LoopPlan) (it : Iterations) (are : AreIterations l it) (keeps : KeepsLoop l p) (r ph : ℕ) (q v : Slot) (wire : ℕ → ℤ)
    (at : IsAt l p it r ph q)
    (ends : Rounds l p (smaller r (prologue p)) ph q wire v) where
  abbrev round : ℕ
  round = smaller r (prologue p)

  abbrev base : ℕ
  base = over_in l p it r

  -- what the variables are to be, where an iteration ends, and where none does
  abbrev ended_with : ℕ → ℤ
  ended_with = finished (operand_ahead l p (smaller round (p.stages - 1)) ph q wire 0) l.block.finals q.variables

  variables_kept : (b : Bool) → is_last l p round ph q wire ≡ b → (n : ℕ) → (b ≡ false → n ≡ base) →
      (b ≡ true → (n ≡ suc base) × (p.stages ≤ suc r) × (runs l it (suc base) ≡ true)) →
      (x : ℕ) → v.variables x ≡ it.variables n x
  variables_kept true e n not_so ended x =
      let y = ended refl in
      ap (λ (f : ℕ → ℤ). f x) (ends.variables ∙ ap (λ (b : Bool). if b then ended_with else q.variables) e)
      ∙ step.final_shown l p it keeps are r ph q v wire at ends.works ends.last y.1 y.2 x ∙ ap (λ m. it.variables m x) (sym y.0)
  variables_kept false e n not_so ended x =
      ap (λ (f : ℕ → ℤ). f x) (ends.variables ∙ ap (λ (b : Bool). if b then ended_with else q.variables) e) ∙ at.variables x ∙ ap (λ m. it.variables m x)
      (sym (not_so refl))

  module _ (goes : goes_round l p round ph q wire ≡ true) where
    variables_next : (x : ℕ) → v.variables x ≡ it.variables (over_in l p it (suc r)) x
    variables_next = ⊎_elim
        (λ lt. variables_kept false (step.last_not l p it keeps are r ph q v wire at ends.works ends.last lt) (over_in l p it (suc r)) (λ e. omega arith)
        (λ e. absurd cc))
        (λ le. (let go = step.goes_runs l p it keeps are r ph q v wire at ends.works ends.last goes le in
        variables_kept true (step.last_is l p it keeps are r ph q v wire at ends.works ends.last le ∙ go) (over_in l p it (suc r)) (λ e. absurd cc)
        (λ e. (omega arith, le, go))))
        (less_or_not (suc r) p.stages)

    running_next_round : runs l it (over_in l p it (suc r)) ≡ true
    running_next_round = ⊎_elim
        (λ lt. (let z : over_in l p it (suc r) ≡ 0 = omega arith in ap (runs l it) z))
        (λ le. (let z : over_in l p it (suc r) ≡ suc base = omega arith in ap (runs l it) z
        ∙ step.goes_runs l p it keeps are r ph q v wire at ends.works ends.last goes le))
        (less_or_not (suc r) p.stages)

    first_next : v.registers (p.bit 0) ≡ flag (runs l it (if nat_lt (p.phase l.comparison) 0 then suc (suc r) else suc r))
    first_next =
        let f : nat_lt (p.phase l.comparison) 0 ≡ false = not_less_is (p.phase l.comparison) 0 (omega arith) in
        ends.works.runs ∙ step.running_after l p it keeps are r ph q v wire at ends.works
        (step.compared_is l p it keeps are r ph q v wire at ends.works ends.last)
        ∙ ap (λ (b : Bool). flag (runs l it (if b then suc (suc r) else suc r))) (sym f)

    bits_next : (s n : ℕ) → suc s < p.stages → n + suc s ≡ suc r → v.registers (p.bit (suc s)) ≡ flag (runs l it (suc n))
    bits_next s n lt turn =
        ends.bits s lt
        ∙ ap flag (step.in_stage l p it keeps are r ph q v wire at ends.works s n (omega arith) (omega arith)
        (inl (step.compared_is l p it keeps are r ph q v wire at ends.works ends.last)))

    next : IsAt l p it (suc r) 0 v
    next = record {
      inside = (let i = at.inside in omega arith);
      state = (let e = ends.state goes in let f = next_round r (prologue p) (rounds_are p.stages).0 in let g = ap (λ z. z * p.interval) f in omega
          (arith, e, g));
      running = running_next_round;
      variables = variables_next;
      first = λ some. first_next;
      bits = bits_next;
      chains = step.chain_round l p it keeps are r ph q v wire at ends.works ends.last;
      arrays = λ x n j e cut is run. step.arrays_right l p it keeps are r ph q v wire at ends.works (suc r) 0 x n j e is cut run
          (step.past_round l p it keeps are r ph q v wire at ends.works ends.last) (step.still_round l p it keeps are r ph q v wire at ends.works ends.last);
    }

  module _ (stops : goes_round l p round ph q wire ≡ false) where
    -- no iteration is in one of these stages
    none_in : (s n : ℕ) → s < prologue p → s < p.stages → n + s ≡ r → runs l it (suc n) ≡ false
    none_in s n low lt turn =
        sym (step.in_stage l p it keeps are r ph q v wire at ends.works s n lt turn
        (inl (step.compared_is l p it keeps are r ph q v wire at ends.works ends.last)))
        ∙ step.none_stage l p it keeps are r ph q v wire at ends.works ends.last (prologue p) stops s low

    fails_at : (n : ℕ) → runs l it n ≡ true → runs l it (suc n) ≡ false → holds l it n ≡ false
    fails_at n run stop = sym (ap (λ b. b && holds l it n) run) ∙ stop

    -- the loop is over with n iterations
    over_with : (n : ℕ) → runs l it n ≡ true → runs l it (suc n) ≡ false → ((x : ℕ) → v.variables x ≡ it.variables n x) →
        ((m k : ℕ) → m < n → k < size l.block → m + p.stage k < suc r) → IsOver l p it n v
    over_with n run stop variables past = record {
      running = run;
      fails = fails_at n run stop;
      variables = variables;
      arrays = λ e. step.arrays_right l p it keeps are r ph q v wire at ends.works (suc r) 0 e.object n 0 e refl (cut e) run
          (step.past_round l p it keeps are r ph q v wire at ends.works ends.last) (step.still_round l p it keeps are r ph q v wire at ends.works ends.last);
    }
      where
        cut : (e : Location) → IsCut l p it (suc r) 0 e.object n 0
        cut e = record {
          below = omega arith;
          before = λ m k less lt w. inl (past m k less lt);
          within = λ k less w. absurd (omega arith);
          rest = λ k le lt w go gone. absurd (cc (go, stop));
          later = λ m k less lt w go gone. (let g = runs_before l p it (suc m) (suc n) (omega arith) go in absurd (cc (g, stop)));
        }

    over : (n : ℕ) × IsOver l p it n v
    over = ⊎_elim early (λ le. late_ le (is_last l p round ph q wire) refl) (less_or_not (suc r) p.stages)
      where
        early : suc r < p.stages → (n : ℕ) × IsOver l p it n v
        early lt =
            let b = rounds_are p.stages in
            let low : r < prologue p = ⊎_elim (λ x. omega arith) (λ x. omega arith) b.2 in (
              0,
              over_with 0 refl (none_in r 0 low (omega arith) (omega arith))
                  (variables_kept false (step.last_not l p it keeps are r ph q v wire at ends.works ends.last lt) 0 (λ e. omega arith) (λ e. absurd cc))
                  (λ m k less inside. absurd (omega arith)),
            )

        late_ : p.stages ≤ suc r → (b : Bool) → is_last l p round ph q wire ≡ b → (n : ℕ) × IsOver l p it n v
        late_ le true e =
            let go : runs l it (suc base) ≡ true = sym (step.last_is l p it keeps are r ph q v wire at ends.works ends.last le) ∙ e in (
              suc base,
              over_with (suc base) go (second le go) (variables_kept true e (suc base) (λ f. absurd cc) (λ f. (refl, le, go)))
                  (λ m k less inside. (let in_ = keeps.inside k inside in omega arith)),
            )
          where
            second : p.stages ≤ suc r → runs l it (suc base) ≡ true → runs l it (suc (suc base)) ≡ false
            second le_ go = ⊎_elim
                (λ one. (let b = rounds_are p.stages in let some = keeps.some in
                let z : r ≡ base = omega arith in
                let f = none_in 0 base (omega arith) some (omega arith) in absurd (cc (go, f))))
                (λ more. (let b = rounds_are p.stages in
                let low : p.stages - 2 < prologue p = ⊎_elim (λ x. omega arith) (λ x. omega arith) b.2 in
                none_in (p.stages - 2) (suc base) low (omega arith) (omega arith)))
                (less_or_not p.stages 2)
        late_ le false e =
            let stop : runs l it (suc base) ≡ false = sym (step.last_is l p it keeps are r ph q v wire at ends.works ends.last le) ∙ e in (
              base,
              over_with base at.running stop (variables_kept false e base (λ f. refl) (λ f. absurd cc))
                  (λ m k less inside. (let in_ = keeps.inside k inside in omega arith)),
            )

pub loop_ends : LoopEnds
loop_ends l p it are keeps r ph q v wire at ends =
    (λ goes. next l p it are keeps r ph q v wire at ends goes, λ stops. over l p it are keeps r ph q v wire at ends stops)

pub loop_begins : LoopBegins
loop_begins l p it q are keeps some state variables arrays = record {
  inside = some;
  state = (let z = smaller_low 0 (prologue p) (omega arith) in let g : smaller 0 (prologue p) * p.interval ≡ 0 * p.interval = ap
      (λ z. z * p.interval) z in let h : 0 * p.interval ≡ 0 = omega arith in omega (arith, g, h));
  running = ap (runs l it) none;
  variables = λ x. variables x ∙ ap (λ n. it.variables n x) (sym none);
  first = λ e. absurd (⊎_elim (λ a. omega arith) (λ a. omega arith) e);
  bits = λ s n lt turn. absurd (omega arith);
  chains = λ i d n lt inside turn done. (let z = late_late l p it i 0 (omega arith) in absurd (omega (arith, z)));
  arrays = λ x n j e cut is run. arrays e ∙ cuts_agree l p it are 0 0 0 n 0 j e refl run (first_cut e) (subst (λ z. IsCut l p it 0 0 z n j) (sym is) cut);
}
  where
    none : over_in l p it 0 ≡ 0
    none = let s = keeps.some in omega arith

    not_past : (m k : ℕ) → IsPast l p it 0 0 m k → ⊥
    not_past m k (inl a) = omega arith
    not_past m k (inr a) = omega arith

    first_cut : (e : Location) → IsCut l p it 0 0 e.object 0 0
    first_cut e = record {
      below = omega arith;
      before = λ m k less lt w. absurd (omega arith);
      within = λ k less w. absurd (omega arith);
      rest = λ k le lt w go gone. not_past 0 k gone;
      later = λ m k less lt w go gone. not_past m k gone;
    }
