-- One cycle of a pipelined loop: what its slot holds after it.
use Rattle.std.specs.Prelude.{ℤ, nat_eq, nat_lt, Bool, true, false, not, ◌&&◌, ◌||◌, if◌then◌else◌, Option, Some, None}
use Rattle.std.proofs.Common.{◌≡◌, ℕ, zero, suc, ◌+◌, ◌-◌, ◌*◌, ◌<◌, ◌≤◌, List, [], ◌++◌, refl, sym, ap, ◌∙◌, subst, ◌⊎◌, inl, inr, ⊎_elim, arith}
use Rattle.std.proofs.lemmas.Bool.{cases_eq}
use Rattle.interleaving.specs.Memory.{Location, Memory, Access, memory_after, same_location}
use Rattle.interleaving.proofs.Accesses.{memory_after-append}
use Rattle.planned_block.specs.Block.{Kind, Simple, Multiply, Divide, BankRead, BankWrite, ArrayRead, ArrayWrite, element}
use Rattle.planned_block.specs.Block.{Operand, operation_at, size, UsesIn, finished}
use Rattle.planned_block.specs.Run.{array_access}
use Rattle.planned_block.specs.Plan.{target_of, OfArray}
use Rattle.planned_block.specs.Slot.{Slot, accesses_where}
use Rattle.planned_block.proofs.Bits.{same_is, other_is, is_same, less_is, not_less_is, less_or_not, both_true}
use Rattle.planned_loop.specs.Loop.{Loop, Iterations, operand_in, AreIterations, holds, runs}
use Rattle.planned_loop.specs.Plan.{LoopPlan, final_of, IsBefore, KeepsLoop}
use Rattle.planned_loop.specs.Move.{flag, is_set, smaller, prologue, late, value_ahead, operand_ahead, handed, is_running, running_next, is_in, is_done_now}
use Rattle.planned_loop.specs.Move.{access_now, is_some_in, goes_round, is_last, Works, GoesOn}
use Rattle.planned_loop.specs.Moment.{over_in, IsDone, IsPast, WritesTo, IsCut, IsAt}
use Rattle.planned_loop.proofs.OperandsAhead.{from_final, finished_is, operand_same}
use Rattle.planned_loop.proofs.RoundNumbers.{smaller_is, rounds_are}
use Rattle.planned_loop.proofs.ShownWires.{runs_before, late_early, late_late, sum_is, chain_shown, wire_shown, operand_shown, stage_begun, access_cut}
use Rattle.planned_loop.proofs.ShownWires.{wires_right, final_among}
use Rattle.planned_loop.proofs.ArrayCuts.{access_leaves, cuts_agree}

is_set_flag : (b : Bool) → is_set (flag b) ≡ b
is_set_flag true = refl
is_set_flag false = refl

-- ---- accesses of one cycle

-- a list of accesses, behind those of one operation if it passes
abbrev front_if : Bool → List (Access ℤ) → List (Access ℤ) → List (Access ℤ)
front_if b front rest = (if b then front else []) ++ rest

behind_front : (b : Bool) (front rest : List (Access ℤ)) (m : Memory ℤ) (e : Location) (v : ℤ) → (b ≡ true → memory_after rest (memory_after front m) e ≡ v) →
    (b ≡ false → memory_after rest m e ≡ v) →
    memory_after (front_if b front rest) m e ≡ v
behind_front true front rest m e v with_ without = ap (λ (z : Memory ℤ). z e) (memory_after-append front rest m) ∙ with_ refl
behind_front false front rest m e v with_ without = without refl

-- accesses that leave an element
none_written : (passes : ℕ → Bool) (accesses : ℕ → List (Access ℤ)) (count n : ℕ) (m : Memory ℤ) (e : Location) →
    ((k : ℕ) → n ≤ k → k < n + count → passes k ≡ true → (z : Memory ℤ) → memory_after (accesses k) z e ≡ z e) →
    memory_after (accesses_where passes accesses count n) m e ≡ m e
none_written passes accesses zero n m e each = refl
none_written passes accesses (suc count) n m e each =
    let rest = λ (z : Memory ℤ). none_written passes accesses count (suc n) z e (λ k low high t. each k (omega arith) (omega arith) t) in
    behind_front (passes n) (accesses n) (accesses_where passes accesses count (suc n)) m e (m e)
    (λ t. rest (memory_after (accesses n) m) ∙ each n (omega arith) (omega arith) t m) (λ f. rest m)

-- accesses of which one alone does not leave it
one_written : (passes : ℕ → Bool) (accesses : ℕ → List (Access ℤ)) (count n : ℕ) (m : Memory ℤ) (e : Location) (w : ℕ) → n ≤ w → w < n + count →
    passes w ≡ true →
    ((k : ℕ) → n ≤ k → k < n + count → (k ≡ w → ⊥) → passes k ≡ true → (z : Memory ℤ) → memory_after (accesses k) z e ≡ z e) →
    ((y z : Memory ℤ) → y e ≡ z e → memory_after (accesses w) y e ≡ memory_after (accesses w) z e) →
    memory_after (accesses_where passes accesses count n) m e ≡ memory_after (accesses w) m e
one_written passes accesses zero n m e w low high t each same = absurd (omega arith)
one_written passes accesses (suc count) n m e w low high t each same =
    let rest = λ (z : Memory ℤ) (ne : w ≡ n → ⊥).
    one_written passes accesses count (suc n) z e w (omega (arith, ne)) (omega arith) t (λ k a b f g. each k (omega arith) (omega arith) f g) same in
    behind_front (passes n) (accesses n) (accesses_where passes accesses count (suc n)) m e (memory_after (accesses w) m e)
    (λ f. ⊎_elim
    (λ s. none_written passes accesses count (suc n) (memory_after (accesses n) m) e (λ k a b g. each k (omega arith) (omega arith) (λ h. omega arith) g)
    ∙ ap (λ (k : ℕ). memory_after (accesses k) m e) (sym s))
    (λ ne. rest (memory_after (accesses n) m) ne ∙ same (memory_after (accesses n) m) m (each n (omega arith) (omega arith) (λ g. ne (sym g)) f m))
    (cases_eq w n))
    (λ f. ⊎_elim (λ s. (let p : passes n ≡ true = ap passes (sym s) ∙ t in absurd (cc (p, f)))) (λ ne. rest m ne) (cases_eq w n))

access_same : (kind : Kind) (l r : ℤ) (y z : Memory ℤ) (e : Location) → y e ≡ z e →
    memory_after (array_access kind l r) y e ≡ memory_after (array_access kind l r) z e
access_same (Simple f) l r y z e s = s
access_same (Multiply f) l r y z e s = s
access_same (Divide f) l r y z e s = s
access_same (BankRead x) l r y z e s = s
access_same (BankWrite x) l r y z e s = s
access_same (ArrayRead x) l r y z e s = s
access_same (ArrayWrite x) l r y z e s = ap (λ (w : ℤ). if same_location e (element x l) then r else w) s

abbrev writes_object : ℕ → Kind → Bool
writes_object x (ArrayWrite y) = nat_eq y x
writes_object x _ = false

writes_is : (x : ℕ) (kind : Kind) → writes_object x kind ≡ true → target_of kind ≡ OfArray x true
writes_is x (Simple f) e = absurd cc
writes_is x (Multiply f) e = absurd cc
writes_is x (Divide f) e = absurd cc
writes_is x (BankRead y) e = absurd cc
writes_is x (BankWrite y) e = absurd cc
writes_is x (ArrayRead y) e = absurd cc
writes_is x (ArrayWrite y) e = ap (λ z. OfArray z true) (is_same y x e)

is_writes : (x : ℕ) (kind : Kind) → target_of kind ≡ OfArray x true → writes_object x kind ≡ true
is_writes x (Simple f) e = absurd cc
is_writes x (Multiply f) e = absurd cc
is_writes x (Divide f) e = absurd cc
is_writes x (BankRead y) e = absurd cc
is_writes x (BankWrite y) e = absurd cc
is_writes x (ArrayRead y) e = absurd cc
is_writes x (ArrayWrite y) e = let s : y ≡ x = cc in same_is y x s

module _ (l : Loop) (p : LoopPlan) (it : Iterations) (keeps : KeepsLoop l p) (are : AreIterations l it) (r ph : ℕ) (q v : Slot) (wire : ℕ → ℤ)
    (at : IsAt l p it r ph q)
    (works : Works l p (smaller r (prologue p)) ph q wire v) where
  abbrev round : ℕ
  round = smaller r (prologue p)

  abbrev now : ℕ
  now = smaller round (p.stages - 1)

  abbrev compared : ℕ
  compared = p.phase l.comparison

  -- ---- values

  handed_right : (i d n : ℕ) → i < size l.block → d + p.stage i < p.stages → p.phase i ≡ ph → n + (d + p.stage i) ≡ r → IsDone l p it n i →
      handed l p q wire i d ≡ it.value n i
  handed_right i zero n lt inside here turn done = wires_right l p it keeps are r ph q v wire at works i n lt here (omega arith) done
  handed_right i (suc d) n lt inside here turn done =
      let e = late_late l p it i ph (omega arith) in
      at.chains i d n lt (omega arith) (omega (arith, e)) done

  -- what a chain holds after this cycle, of the iteration that is so far
  chain_next : (i d n : ℕ) → i < size l.block → d + p.stage i < p.stages → IsDone l p it n i →
      ((p.phase i ≡ ph) × (n + (d + p.stage i) ≡ r)) ⊎ ((p.phase i ≡ ph → ⊥) × (n + (d + p.stage i + late l p i ph) ≡ r)) →
      v.registers (p.register i d) ≡ it.value n i
  chain_next i d n lt inside done (inl here) =
      let s = works.shifts i d lt inside in
      let e : nat_eq (p.phase i) ph ≡ true = same_is (p.phase i) ph here.0 in
      s ∙ ap (λ (b : Bool). if b then handed l p q wire i d else q.registers (p.register i d)) e ∙ handed_right i d n lt inside here.0 here.1 done
  chain_next i d n lt inside done (inr there) =
      let s = works.shifts i d lt inside in
      let e : nat_eq (p.phase i) ph ≡ false = other_is (p.phase i) ph there.0 in
      s ∙ ap (λ (b : Bool). if b then handed l p q wire i d else q.registers (p.register i d)) e ∙ at.chains i d n lt inside there.1 done

  pub chain_within : (i d n : ℕ) → i < size l.block → d + p.stage i < p.stages → n + (d + p.stage i + late l p i (suc ph)) ≡ r → IsDone l p it n i →
      v.registers (p.register i d) ≡ it.value n i
  chain_within i d n lt inside turn done = chain_next i d n lt inside done (⊎_elim
      (λ here. (let e = late_early l p it i (suc ph) (omega arith) in inl (here, omega (arith, e))))
      (λ other. ⊎_elim
      (λ less. (let e = late_early l p it i (suc ph) (omega arith) in let f = late_early l p it i ph less in inr (other, omega (arith, e, f))))
      (λ ge. (let e = late_late l p it i (suc ph) (omega (arith, other)) in let f = late_late l p it i ph ge in inr (other, omega (arith, e, f))))
      (less_or_not (p.phase i) ph))
      (cases_eq (p.phase i) ph))

  pub chain_round : suc ph ≡ p.interval → (i d n : ℕ) → i < size l.block → d + p.stage i < p.stages → n + (d + p.stage i + late l p i 0) ≡ suc r →
      IsDone l p it n i →
      v.registers (p.register i d) ≡ it.value n i
  chain_round last i d n lt inside turn done =
      let z = late_late l p it i 0 (omega arith) in
      let in_ = keeps.inside i lt in
      chain_next i d n lt inside done (⊎_elim
      (λ here. inl (here, omega (arith, z)))
      (λ other. (let f = late_early l p it i ph (omega (arith, other)) in inr (other, omega (arith, z, f))))
      (cases_eq (p.phase i) ph))

  -- ---- what runs

  round_zero : r ≡ 0 → nat_eq round 0 ≡ true
  round_zero e = let s = smaller_is r (prologue p) in same_is round 0 (omega arith)

  round_more : 0 < r → nat_eq round 0 ≡ false
  round_more lt = let s = smaller_is r (prologue p) in let b = rounds_are p.stages in other_is round 0 (λ e. ⊎_elim (λ x. omega arith) (λ x. omega arith) s.2)

  -- before it has compared, the iteration of this round has begun where those before it held
  running_is : ph ≡ compared → is_running l p round ph q wire ≡ runs l it r
  running_is here = by_round (cases_eq r 0)
    where
      by_round : (r ≡ 0) ⊎ (r ≡ 0 → ⊥) → is_running l p round ph q wire ≡ runs l it r
      by_round (inl z) = ap (λ b. b || is_set (q.registers (p.bit 0))) (round_zero z) ∙ sym (ap (runs l it) z)
      by_round (inr ne) =
          let f : nat_lt compared ph ≡ false = not_less_is compared ph (omega arith) in
          let h = at.first (inl (omega (arith, ne))) ∙ ap (λ (b : Bool). flag (runs l it (if b then suc r else r))) f in
          ap (λ b. b || is_set (q.registers (p.bit 0))) (round_more (omega (arith, ne))) ∙ ap is_set h ∙ is_set_flag (runs l it r)

  compares : ph ≡ compared → (is_running l p round ph q wire && is_set (wire l.comparison)) ≡ runs l it (suc r)
  compares here = ap (λ b. b && is_set (wire l.comparison)) (running_is here) ∙ by_run (runs l it r) refl
    where
      by_run : (b : Bool) → runs l it r ≡ b → (b && is_set (wire l.comparison)) ≡ (b && holds l it r)
      by_run false e = refl
      by_run true e =
          ap is_set (wires_right l p it keeps are r ph q v wire at works l.comparison r keeps.compares (omega arith) (let z = keeps.first in omega arith)
          (e, λ more. absurd (omega arith)))

  -- once it has compared
  pub running_after : compared ≤ ph → running_next l p round ph q wire ≡ flag (runs l it (suc r))
  running_after le = by_place (cases_eq ph compared)
    where
      by_place : (ph ≡ compared) ⊎ (ph ≡ compared → ⊥) → running_next l p round ph q wire ≡ flag (runs l it (suc r))
      by_place (inl here) =
          ap (λ (b : Bool). if b then flag (is_running l p round ph q wire && is_set (wire l.comparison)) else q.registers (p.bit 0)) (same_is ph compared here)
          ∙ ap flag (compares here)
      by_place (inr there) =
          let f : nat_lt compared ph ≡ true = less_is compared ph (omega (arith, there)) in
          ap (λ (b : Bool). if b then flag (is_running l p round ph q wire && is_set (wire l.comparison)) else q.registers (p.bit 0))
          (other_is ph compared there)
          ∙ at.first (inr (omega (arith, there))) ∙ ap (λ (b : Bool). flag (runs l it (if b then suc r else r))) f

  running_yet : ph < compared → 0 < r → running_next l p round ph q wire ≡ flag (runs l it r)
  running_yet lt some =
      let f : nat_lt compared ph ≡ false = not_less_is compared ph (omega arith) in
      ap (λ (b : Bool). if b then flag (is_running l p round ph q wire && is_set (wire l.comparison)) else q.registers (p.bit 0))
      (other_is ph compared (λ e. omega arith))
      ∙ at.first (inl some) ∙ ap (λ (b : Bool). flag (runs l it (if b then suc r else r))) f

  pub first_within : (0 < r) ⊎ (compared < suc ph) → v.registers (p.bit 0) ≡ flag (runs l it (if nat_lt compared (suc ph) then suc r else r))
  first_within some = ⊎_elim
      (λ lt. (let f : nat_lt compared (suc ph) ≡ false = not_less_is compared (suc ph) (omega arith) in
      works.runs ∙ running_yet lt (⊎_elim (λ x. x) (λ x. absurd (omega arith)) some) ∙ ap (λ (b : Bool). flag (runs l it (if b then suc r else r))) (sym f)))
      (λ le. (let f : nat_lt compared (suc ph) ≡ true = less_is compared (suc ph) (omega arith) in
      works.runs ∙ running_after le ∙ ap (λ (b : Bool). flag (runs l it (if b then suc r else r))) (sym f)))
      (less_or_not ph compared)

  -- an iteration is in a stage: it has begun, and its comparison held
  pub in_stage : (s n : ℕ) → s < p.stages → n + s ≡ r → compared ≤ ph ⊎ (0 < s) → is_in l p round ph q wire s ≡ runs l it (suc n)
  in_stage zero n lt turn known =
      let e : n ≡ r = omega arith in
      ap is_set (running_after (⊎_elim (λ x. x) (λ x. absurd (omega arith)) known)) ∙ is_set_flag (runs l it (suc r)) ∙ ap (λ (m : ℕ). runs l it (suc m))
      (sym e)
  in_stage (suc s) n lt turn known =
      let b = rounds_are p.stages in
      let sm = smaller_is r (prologue p) in
      let f : nat_lt s round ≡ true = less_is s round (⊎_elim (λ x. omega arith) (λ x. omega arith) sm.2) in
      ap (λ c. c && is_set (q.registers (p.bit (suc s)))) f ∙ ap is_set (at.bits s n lt turn) ∙ is_set_flag (runs l it (suc n))

  -- ---- within a round

  module _ (goes : GoesOn l p round ph q wire v) where
    pub bits_within : (s n : ℕ) → suc s < p.stages → n + suc s ≡ r → v.registers (p.bit (suc s)) ≡ flag (runs l it (suc n))
    bits_within s n lt turn = goes.bits s lt ∙ at.bits s n lt turn

    pub state_within : v.state ≡ round * p.interval + suc ph
    state_within = let e = goes.state in let f = at.state in omega arith

  -- ---- the arrays

  -- operation k of iteration m works in this state
  abbrev IsNow : ℕ → ℕ → Type 0
  IsNow m k = (p.phase k ≡ ph) × (m + p.stage k ≡ r)

  known_is : (k : ℕ) → l.comparison < k → k < size l.block → p.phase k ≡ ph → compared ≤ ph ⊎ (0 < p.stage k)
  known_is k less lt here = by_place (keeps.tested k less lt)
    where
      by_place : IsBefore l p l.comparison k 0 → compared ≤ ph ⊎ (0 < p.stage k)
      by_place (inl a) = inr (let z = keeps.first in omega arith)
      by_place (inr a) = inl (omega arith)

  done_is : (k m : ℕ) → l.comparison < k → k < size l.block → IsNow m k → is_done_now l p round ph q wire k ≡ runs l it (suc m)
  done_is k m less lt now_ =
      let b = rounds_are p.stages in
      let sm = smaller_is r (prologue p) in
      let in_ = keeps.inside k lt in
      let low : p.stage k ≤ round = ⊎_elim (λ x. omega arith) (λ x. omega arith) sm.2 in
      ap (λ c. c && (not (nat_lt round (p.stage k)) && is_in l p round ph q wire (p.stage k))) (same_is (p.phase k) ph now_.0)
      ∙ ap (λ c. not c && is_in l p round ph q wire (p.stage k)) (not_less_is round (p.stage k) low)
      ∙ in_stage (p.stage k) m in_.0 now_.1 (known_is k less lt now_.0)

  -- a write that is done now is one of an iteration
  write_now : (k x : ℕ) → k < size l.block → WritesTo l p it x k → is_done_now l p round ph q wire k ≡ true → (m : ℕ) × IsNow m k × (runs l it (suc m) ≡ true)
  write_now k x lt writes done =
      let two = both_true (nat_eq (p.phase k) ph) (not (nat_lt round (p.stage k)) && is_in l p round ph q wire (p.stage k)) done in
      let three = both_true (not (nat_lt round (p.stage k))) (is_in l p round ph q wire (p.stage k)) two.1 in
      let here = is_same (p.phase k) ph two.0 in
      let sm = smaller_is r (prologue p) in
      let low : p.stage k ≤ round = ⊎_elim (λ lt. (let f = less_is round (p.stage k) lt in absurd (cc (f, three.0)))) (λ le. le)
      (less_or_not round (p.stage k)) in
      let turn : (r - p.stage k) + p.stage k ≡ r = omega arith in
      (r - p.stage k, (here, turn), sym (done_is k (r - p.stage k) (keeps.writes k x lt writes) lt (here, turn)) ∙ done)

  -- two writes of one array are never done at once
  one_write : (k w x : ℕ) → k < size l.block → w < size l.block → WritesTo l p it x k → WritesTo l p it x w → p.phase k ≡ p.phase w → (k ≡ w → ⊥) →
      p.stage k < p.stage w → ⊥
  one_write k w x a b wk ww same ne less = by_place (keeps.apart w k x true true b a ww wk refl)
    where
      by_place : IsBefore l p w k 1 → ⊥
      by_place (inl c) = omega arith
      by_place (inr c) = omega arith

  other_phase : (k w x : ℕ) → k < w → w < size l.block → WritesTo l p it x k → WritesTo l p it x w → p.phase k ≡ p.phase w → ⊥
  other_phase k w x less b wk ww same = by_place (keeps.ordered k w x true true less b wk ww refl)
    where
      by_place : IsBefore l p k w 0 → ⊥
      by_place (inl c) = one_write k w x (omega arith) b wk ww same (λ e. omega arith) (omega arith)
      by_place (inr c) = omega arith

  never_both : (k w x : ℕ) → k < size l.block → w < size l.block → WritesTo l p it x k → WritesTo l p it x w → p.phase k ≡ p.phase w → (k ≡ w → ⊥) → ⊥
  never_both k w x a b wk ww same ne = ⊎_elim
      (λ less. other_phase k w x less b wk ww same)
      (λ ge. other_phase w k x (omega (arith, ne)) a ww wk (sym same))
      (less_or_not k w)

  module _ (rn pn x n j : ℕ) (e : Location) (is : e.object ≡ x) (cut : IsCut l p it rn pn x n j) (run : runs l it n ≡ true)
      (past : (m k : ℕ) → k < size l.block → IsPast l p it rn pn m k → IsPast l p it r ph m k ⊎ IsNow m k)
      (still : (m k : ℕ) → k < size l.block → IsPast l p it r ph m k ⊎ IsNow m k → IsPast l p it rn pn m k) where
    leaves : (k : ℕ) (m : Memory ℤ) → (WritesTo l p it x k → ⊥) → memory_after (access_now l p round ph q wire k) m e ≡ m e
    leaves k m not_so = access_leaves (operation_at l.block k).kind _ _ m e (λ t. not_so (t ∙ ap (λ z. OfArray z true) is))

    -- no write to the object is done now
    none_now : ((k : ℕ) → k < size l.block → is_done_now l p round ph q wire k ≡ true → WritesTo l p it x k → ⊥) → v.arrays e ≡ it.content n j e
    none_now not_so =
        ap (λ (m : Memory ℤ). m e) works.arrays
        ∙ none_written (is_done_now l p round ph q wire) (access_now l p round ph q wire) (size l.block) 0 q.arrays e
        (λ k low high d m. leaves k m (not_so k (omega arith) d))
        ∙ at.arrays x n j e before_it is run
      where
        not_now : (m k : ℕ) → k < size l.block → WritesTo l p it x k → runs l it (suc m) ≡ true → IsPast l p it r ph m k ⊎ IsNow m k → IsPast l p it r ph m k
        not_now m k lt w go (inl a) = a
        not_now m k lt w go (inr a) = absurd (not_so k lt (done_is k m (keeps.writes k x lt w) lt a ∙ go) w)

        before_it : IsCut l p it r ph x n j
        before_it = record {
          below = cut.below;
          before = λ m k less lt w. not_now m k lt w (runs_before l p it n (suc m) (omega arith) run) (past m k lt (cut.before m k less lt w));
          within = λ k less w. (let c = cut.within k less w in let b = cut.below in (not_now n k (omega arith) w c.1 (past n k (omega arith) c.0), c.1));
          rest = λ k le lt w go a. cut.rest k le lt w go (still n k lt (inl a));
          later = λ m k less lt w go a. cut.later m k less lt w go (still m k lt (inl a));
        }

    -- one is
    some_now : (w : ℕ) → w < size l.block → is_done_now l p round ph q wire w ≡ true → WritesTo l p it x w → v.arrays e ≡ it.content n j e
    some_now w lt done writes =
        let o = operation_at l.block w in
        let t = write_now w x lt writes done in
        let m = t.0 in
        let here = t.1.0 in
        let turn = t.1.1 in
        let go = t.2 in
        let runs_m = runs_before l p it (suc m) m (omega arith) go in
        let of_it : IsDone l p it m w = (runs_m, λ more. go) in
        let le = stage_begun l p it keeps are r ph q v wire at works w m lt turn in
        let right = λ (i : ℕ) (lower : i < w). wires_right l p it keeps are r ph q v wire at works i in
        let a = operand_shown l p it keeps are r ph q v wire at works w m o.left lt here turn of_it (inl refl) right le in
        let b = operand_shown l p it keeps are r ph q v wire at works w m o.right lt here turn of_it (inr refl) right le in
        let c = access_cut l p it keeps are r ph q v wire at works w x m true lt writes here turn of_it in
        ap (λ (z : Memory ℤ). z e) works.arrays
        ∙ one_written (is_done_now l p round ph q wire) (access_now l p round ph q wire) (size l.block) 0 q.arrays e w (omega arith) (omega arith) done
        (λ k low high ne d z. leaves k z (λ wk. never_both k w x (omega arith) lt wk writes (at_once k d) ne))
        (λ y z s. access_same o.kind _ _ y z e s)
        ∙ ap (λ z. memory_after (array_access o.kind z (operand_ahead l p now ph q wire (now - p.stage w) o.right)) q.arrays e) a
        ∙ ap (λ z. memory_after (array_access o.kind (operand_in l it m o.left) z) q.arrays e) b
        ∙ access_same o.kind (operand_in l it m o.left) (operand_in l it m o.right) q.arrays (it.content m w) e (at.arrays x m w e c is runs_m)
        ∙ ap (λ (z : Memory ℤ). z e) (sym (are.stored m w lt))
        ∙ cuts_agree l p it are rn pn m n (suc w) j e runs_m run (subst (λ z. IsCut l p it rn pn z m (suc w)) (sym is) (after_it m here turn go c))
        (subst (λ z. IsCut l p it rn pn z n j) (sym is) cut)
      where
        at_once : (k : ℕ) → is_done_now l p round ph q wire k ≡ true → p.phase k ≡ p.phase w
        at_once k d =
            is_same (p.phase k) ph (both_true (nat_eq (p.phase k) ph) (not (nat_lt round (p.stage k)) && is_in l p round ph q wire (p.stage k)) d).0
            ∙ sym (is_same (p.phase w) ph (both_true (nat_eq (p.phase w) ph) (not (nat_lt round (p.stage w)) && is_in l p round ph q wire (p.stage w)) done).0)

        after_it : (m : ℕ) → p.phase w ≡ ph → m + p.stage w ≡ r → runs l it (suc m) ≡ true → IsCut l p it r ph x m w → IsCut l p it rn pn x m (suc w)
        after_it m here turn go c = record {
          below = omega arith;
          before = λ i k less inside wk. still i k inside (inl (c.before i k less inside wk));
          within = λ k less wk. ⊎_elim
              (λ same. (still m k (omega arith) (inr (ap p.phase same ∙ here, ap (λ z. m + p.stage z) same ∙ turn)), go))
              (λ ne. (still m k (omega arith) (inl (c.within k (omega (arith, ne)) wk).0), go))
              (cases_eq k w);
          rest = λ k le inside wk run_ gone. beyond k le inside wk run_ (past m k inside gone);
          later = λ i k less inside wk run_ gone. beyond_later i k less inside wk run_ (past i k inside gone);
        }
          where
            beyond : (k : ℕ) → suc w ≤ k → k < size l.block → WritesTo l p it x k → runs l it (suc m) ≡ true → IsPast l p it r ph m k ⊎ IsNow m k → ⊥
            beyond k le_ inside wk run_ (inl gone) = c.rest k (omega arith) inside wk run_ gone
            beyond k le_ inside wk run_ (inr gone) = never_both k w x inside lt wk writes (gone.0 ∙ sym here) (λ s. omega arith)

            beyond_later : (i k : ℕ) → m < i → k < size l.block → WritesTo l p it x k → runs l it (suc i) ≡ true → IsPast l p it r ph i k ⊎ IsNow i k → ⊥
            beyond_later i k less inside wk run_ (inl gone) = c.later i k less inside wk run_ gone
            beyond_later i k less inside wk run_ (inr gone) =
                never_both k w x inside lt wk writes (gone.0 ∙ sym here)
                (λ s. (let g : p.stage k ≡ p.stage w = ap p.stage s in let two = gone.1 in omega arith))

    -- a write to the object among the first operations that is done now, or none
    abbrev Found : ℕ → Type 0
    Found bound = ((w : ℕ) × (w < bound) × (is_done_now l p round ph q wire w ≡ true) × WritesTo l p it x w)
        ⊎ ((k : ℕ) → k < bound → is_done_now l p round ph q wire k ≡ true → WritesTo l p it x k → ⊥)

    found_more : (bound : ℕ) (b c : Bool) → is_done_now l p round ph q wire bound ≡ b → writes_object x (operation_at l.block bound).kind ≡ c → Found bound →
        Found (suc bound)
    found_more bound b c d w (inl f) = inl (f.0, omega (arith, f.1), f.2, f.3)
    found_more bound true true d w (inr none) = inl (bound, omega arith, d, writes_is x (operation_at l.block bound).kind w)
    found_more bound true false d w (inr none) = inr (λ k lt f g. ⊎_elim
        (λ s. (let h : target_of (operation_at l.block bound).kind ≡ OfArray x true = ap (λ z. target_of (operation_at l.block z).kind) (sym s)
        ∙ g in let t = is_writes x (operation_at l.block bound).kind h in absurd (cc (t, w))))
        (λ ne. none k (omega (arith, ne)) f g) (cases_eq k bound))
    found_more bound false c d w (inr none) = inr (λ k lt f g. ⊎_elim
        (λ s. (let h = ap (is_done_now l p round ph q wire) (sym s) ∙ f in absurd (cc (h, d))))
        (λ ne. none k (omega (arith, ne)) f g) (cases_eq k bound))

    search_below : (bound : ℕ) → Found bound
    search_below zero = inr (λ k lt d w. omega arith)
    search_below (suc bound) = found_more bound (is_done_now l p round ph q wire bound) (writes_object x (operation_at l.block bound).kind) refl refl
        (search_below bound)

    pub arrays_right : v.arrays e ≡ it.content n j e
    arrays_right = by_search (search_below (size l.block))
      where
        by_search : Found (size l.block) → v.arrays e ≡ it.content n j e
        by_search (inl f) = some_now f.0 f.1 f.2 f.3
        by_search (inr not_so) = none_now not_so

  -- ---- what is past

  pub past_within : (m k : ℕ) → k < size l.block → IsPast l p it r (suc ph) m k → IsPast l p it r ph m k ⊎ IsNow m k
  past_within m k lt (inl a) = inl (inl a)
  past_within m k lt (inr a) = ⊎_elim (λ b. inl (inr (a.0, b))) (λ b. inr (omega arith, a.0)) (less_or_not (p.phase k) ph)

  pub still_within : (m k : ℕ) → k < size l.block → IsPast l p it r ph m k ⊎ IsNow m k → IsPast l p it r (suc ph) m k
  still_within m k lt (inl (inl a)) = inl a
  still_within m k lt (inl (inr a)) = inr (a.0, omega arith)
  still_within m k lt (inr a) = inr (a.1, omega arith)

  module _ (last : suc ph ≡ p.interval) where
    pub past_round : (m k : ℕ) → k < size l.block → IsPast l p it (suc r) 0 m k → IsPast l p it r ph m k ⊎ IsNow m k
    past_round m k lt (inl a) = ⊎_elim
        (λ b. inl (inl b))
        (λ b. (let in_ = keeps.inside k lt in ⊎_elim (λ c. inl (inr (omega arith, c))) (λ c. inr (omega arith, omega arith)) (less_or_not (p.phase k) ph)))
        (less_or_not (m + p.stage k) r)
    past_round m k lt (inr a) = absurd (omega arith)

    pub still_round : (m k : ℕ) → k < size l.block → IsPast l p it r ph m k ⊎ IsNow m k → IsPast l p it (suc r) 0 m k
    still_round m k lt (inl (inl a)) = inl (omega arith)
    still_round m k lt (inl (inr a)) = inl (omega arith)
    still_round m k lt (inr a) = inl (omega arith)

    -- ---- the variables

    abbrev base : ℕ
    base = over_in l p it r

    pub compared_is : compared ≤ ph
    compared_is = let in_ = keeps.inside l.comparison keeps.compares in omega arith

    pub last_is : p.stages ≤ suc r → is_last l p round ph q wire ≡ runs l it (suc base)
    last_is le =
        let b = rounds_are p.stages in
        let sm = smaller_is r (prologue p) in
        let some = keeps.some in
        let low : p.stages - 1 ≤ round = ⊎_elim (λ x. omega arith) (λ x. omega arith) sm.2 in
        ap (λ c. not c && is_in l p round ph q wire (p.stages - 1)) (not_less_is round (p.stages - 1) low)
        ∙ in_stage (p.stages - 1) base (omega arith) (omega arith) (inl compared_is)

    pub last_not : suc r < p.stages → is_last l p round ph q wire ≡ false
    last_not lt =
        let sm = smaller_is r (prologue p) in
        ap (λ c. not c && is_in l p round ph q wire (p.stages - 1)) (less_is round (p.stages - 1) (omega arith))

    pub final_shown : p.stages ≤ suc r → runs l it (suc base) ≡ true → (x : ℕ) →
        finished (operand_ahead l p now ph q wire 0) l.block.finals q.variables x ≡ it.variables (suc base) x
    final_shown le go x =
        finished_is (operand_ahead l p now ph q wire 0) l.block.finals q.variables x ∙ by_final (final_of l.block.finals x) refl
        ∙ sym (finished_is (operand_in l it base) l.block.finals (it.variables base) x) ∙ sym (are.finals base x)
      where
        done : (i : ℕ) → IsDone l p it base i
        done i = (runs_before l p it (suc base) base (omega arith) go, λ more. go)

        shown : (i : ℕ) → i < size l.block → value_ahead l p now ph q wire 0 i ≡ it.value base i
        shown i lt = by_place (cases_eq (p.phase i) ph) (cases_eq (p.stage i) now)
          where
            zero_more : base + 0 ≡ base
            zero_more = omega arith

            from_chain : p.stage i + late l p i ph ≤ now → value_ahead l p now ph q wire 0 i ≡ it.value base i
            from_chain fits =
                let d : IsDone l p it (base + 0) i = subst (λ z. IsDone l p it z i) (sym zero_more) (done i) in
                chain_shown l p it keeps are r ph q v wire at works 0 i lt (omega arith) d ∙ ap (λ z. it.value z i) zero_more

            by_place : (p.phase i ≡ ph) ⊎ (p.phase i ≡ ph → ⊥) → (p.stage i ≡ now) ⊎ (p.stage i ≡ now → ⊥) → value_ahead l p now ph q wire 0 i ≡ it.value base i
            by_place (inl a) (inl b) =
                let s = sum_is l p it keeps are r ph q v wire at works in
                wire_shown l p it keeps are r ph q v wire at works 0 i (omega arith) a ∙ wires_right l p it keeps are r ph q v wire at works i base lt a
                (omega arith) (done i)
            by_place (inl a) (inr b) =
                let s = sum_is l p it keeps are r ph q v wire at works in
                let in_ = keeps.inside i lt in
                let e = late_late l p it i ph (omega arith) in
                from_chain (omega (arith, e, b))
            by_place (inr a) b =
                let s = sum_is l p it keeps are r ph q v wire at works in
                let in_ = keeps.inside i lt in
                let e = late_early l p it i ph (omega (arith, a)) in
                from_chain (omega (arith, e))

        by_final : (o : Option Operand) → final_of l.block.finals x ≡ o →
            from_final (operand_ahead l p now ph q wire 0) o (q.variables x) ≡ from_final (operand_in l it base) o (it.variables base x)
        by_final None e = at.variables x
        by_final (Some a) e =
            operand_same a q.variables (it.variables base) (value_ahead l p now ph q wire 0) (it.value base) (λ y n. at.variables y)
            (λ i u. (let f = final_among l.block.finals x a e in shown i (keeps.final i f.0 f.1 (subst (λ z. UsesIn z i) (sym f.2) u))))

    -- an iteration that is in one of the first stages of the round
    some_more : (n : ℕ) (b : Bool) → is_some_in l p round ph q wire n ≡ b → (b ≡ true → (s : ℕ) × (s < n) × (is_in l p round ph q wire s ≡ true)) →
        (b || is_in l p round ph q wire n) ≡ true →
        (s : ℕ) × (s < suc n) × (is_in l p round ph q wire s ≡ true)
    some_more n true f rest e = let h = rest refl in (h.0, omega (arith, h.1), h.2)
    some_more n false f rest e = (n, omega arith, e)

    some_stage : (n : ℕ) → is_some_in l p round ph q wire n ≡ true → (s : ℕ) × (s < n) × (is_in l p round ph q wire s ≡ true)
    some_stage zero e = absurd cc
    some_stage (suc n) e = some_more n (is_some_in l p round ph q wire n) refl (λ t. some_stage n t) e

    none_more : (n s : ℕ) (b : Bool) → is_some_in l p round ph q wire n ≡ b → (b ≡ false → s < n → is_in l p round ph q wire s ≡ false) →
        (b || is_in l p round ph q wire n) ≡ false → s < suc n →
        is_in l p round ph q wire s ≡ false
    none_more n s true f rest e lt = absurd cc
    none_more n s false f rest e lt = ⊎_elim (λ same. ap (is_in l p round ph q wire) same ∙ e) (λ ne. rest refl (omega (arith, ne))) (cases_eq s n)

    pub none_stage : (n : ℕ) → is_some_in l p round ph q wire n ≡ false → (s : ℕ) → s < n → is_in l p round ph q wire s ≡ false
    none_stage zero e s lt = absurd (omega arith)
    none_stage (suc n) e s lt = none_more n s (is_some_in l p round ph q wire n) refl (λ f less. none_stage n f s less) e lt

    pub goes_runs : goes_round l p round ph q wire ≡ true → p.stages ≤ suc r → runs l it (suc base) ≡ true
    goes_runs goes le =
        let h = some_stage (prologue p) goes in
        let b = rounds_are p.stages in
        let some = keeps.some in
        let low : h.0 < p.stages = ⊎_elim (λ x. omega (arith, h.1)) (λ x. omega (arith, h.1)) b.2 in
        let n = r - h.0 in
        runs_before l p it (suc n) (suc base) (omega arith) (sym (in_stage h.0 n low (omega arith) (inl compared_is)) ∙ h.2)
