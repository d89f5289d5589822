-- In each moment of a loop the wires of a state show the values of the iterations whose operations work in it.
use Rattle.std.specs.Prelude.{ℤ, nat_eq, Bool, true, false, ◌&&◌, if◌then◌else◌, Option, Some, None}
use Rattle.std.proofs.Common.{◌≡◌, ℕ, zero, suc, ◌+◌, ◌-◌, ◌<◌, ◌≤◌, List, [], ◌∷◌, refl, sym, ap, ◌∙◌, subst, ◌⊎◌, inl, inr, ⊎_elim, arith}
use Rattle.std.proofs.lemmas.Bool.{cases_eq}
use Rattle.std.proofs.Math.Bool.{or-true}
use Rattle.interleaving.specs.Memory.{Memory}
use Rattle.planned_block.specs.Block.{Operand, Variable, Kind, Simple, Multiply, Divide, BankRead, BankWrite, ArrayRead, ArrayWrite}
use Rattle.planned_block.specs.Block.{Final, operation_at, size, UsesIn, Uses, IsAmong, element}
use Rattle.planned_block.specs.Run.{value_of}
use Rattle.planned_block.specs.Plan.{target_of, OfArray}
use Rattle.planned_block.specs.Slot.{Slot}
use Rattle.planned_block.proofs.Bits.{same_is, other_is, less_is, not_less_is, less_or_not, both_true}
use Rattle.std.specs.Option.{option_or}
use Rattle.planned_loop.specs.Loop.{Loop, nothing, Iterations, operand_in, AreIterations, holds, runs}
use Rattle.planned_loop.specs.Plan.{LoopPlan, final_of, IsOperand, ComesFrom, Comes, IsBefore, IsBeside, KeepsLoop}
use Rattle.planned_loop.specs.Move.{smaller, prologue, late, value_ahead, operand_ahead, Works}
use Rattle.planned_loop.specs.Moment.{over_in, IsDone, IsPast, WritesTo, IsCut, IsAt}
use Rattle.planned_loop.proofs.OperandsAhead.{operand_right}
use Rattle.planned_loop.proofs.RoundNumbers.{begun_is, rounds_are, smaller_is}

value_same : (kind : Kind) (a b : Memory ℤ) (l r : ℤ) → ((x : ℕ) → kind ≡ ArrayRead x → a (element x l) ≡ b (element x l)) →
    value_of kind a nothing l r ≡ value_of kind b nothing l r
value_same (Simple f) a b l r same = refl
value_same (Multiply f) a b l r same = refl
value_same (Divide f) a b l r same = refl
value_same (BankRead x) a b l r same = refl
value_same (BankWrite x) a b l r same = refl
value_same (ArrayRead x) a b l r same = same x refl
value_same (ArrayWrite x) a b l r same = refl

test_fails : (a b c d : ℕ) → (a ≡ b → c ≡ d → ⊥) → (nat_eq a b && nat_eq c d) ≡ false
test_fails a b c d not_so = ⊎_elim
    (λ e. (let f : nat_eq c d ≡ false = other_is c d (λ g. not_so e g) in rw (same_is a b e) f))
    (λ ne. rw (other_is a b ne) refl)
    (cases_eq a b)

test_holds : (a b c d : ℕ) → a ≡ b → c ≡ d → (nat_eq a b && nat_eq c d) ≡ true
test_holds a b c d e f = rw (same_is a b e) (same_is c d f)

-- what the last of the finals gives is one of them
abbrev HasFinal : List Final → Operand → Type 0
HasFinal fs a = (f : Final) × IsAmong fs f × (f.value ≡ a)

among_more : (f : Final) (fs : List Final) (x : ℕ) (a : Operand) (o : Option Operand) → (o ≡ Some a → HasFinal fs a) → (b : Bool) →
    option_or o (if b then Some f.value else None) ≡ Some a → HasFinal (f ∷ fs) a
among_more f fs x a (Some c) rest b e = let g = rest e in (g.0, inr g.1, g.2)
among_more f fs x a None rest true e = (f, inl refl, cc)
among_more f fs x a None rest false e = absurd cc

pub final_among : (fs : List Final) (x : ℕ) (a : Operand) → final_of fs x ≡ Some a → HasFinal fs a
final_among [] x a e = absurd cc
final_among (f ∷ fs) x a e = among_more f fs x a (final_of fs x) (final_among fs x a) (nat_eq x f.variable) e

module _ (l : Loop) (p : LoopPlan) (it : Iterations) where
  pub runs_before : (n m : ℕ) → m ≤ n → runs l it n ≡ true → runs l it m ≡ true
  runs_before zero m le e = let z : m ≡ 0 = omega arith in rw z refl
  runs_before (suc n) m le e = ⊎_elim
      (λ lt. runs_before n m (omega arith) (both_true (runs l it n) (holds l it n) e).0)
      (λ ge. (let s : m ≡ suc n = omega arith in rw s e))
      (less_or_not m (suc n))

  pub late_early : (i ph : ℕ) → p.phase i < ph → late l p i ph ≡ 0
  late_early i ph lt = rw (less_is (p.phase i) ph lt) refl

  pub late_late : (i ph : ℕ) → ph ≤ p.phase i → late l p i ph ≡ 1
  late_late i ph le = rw (not_less_is (p.phase i) ph le) refl

  late_small : (i ph : ℕ) → late l p i ph ≤ 1
  late_small i ph = ⊎_elim (λ lt. (let e = late_early i ph lt in omega (arith, e))) (λ le. (let e = late_late i ph le in omega (arith, e)))
      (less_or_not (p.phase i) ph)

  module _ (keeps : KeepsLoop l p) where
    from_final_inside : (C : Operand → ℕ → Type 0) (x i : ℕ) (o : Option Operand) → final_of l.block.finals x ≡ o → (C (Variable x) i → i < size l.block) →
        ((b : Operand) → final_of l.block.finals x ≡ Some b → C b i → i < size l.block) → ComesFrom C o x i → i < size l.block
    from_final_inside C x i None e own given c = own c
    from_final_inside C x i (Some b) e own given c = given b e c

    comes_inside : (t : ℕ) (a : Operand) (i : ℕ) → Comes l.block.finals (suc t) a i → i < size l.block
    comes_inside zero a i c =
        from_final_inside (Comes l.block.finals 0) c.0 i (final_of l.block.finals c.0) refl (λ u. absurd u)
        (λ b e u. (let f = final_among l.block.finals c.0 b e in keeps.final i f.0 f.1 (subst (λ (z : Operand). UsesIn z i) (sym f.2) u))) c.2
    comes_inside (suc t) a i c =
        let rest = λ (b : Operand) (d : Comes l.block.finals (suc t) b i). comes_inside t b i d in
        from_final_inside (Comes l.block.finals (suc t)) c.0 i (final_of l.block.finals c.0) refl (rest (Variable c.0)) (λ b e. rest b) c.2

    module _ (are : AreIterations l it) (r ph : ℕ) (q v : Slot) (wire : ℕ → ℤ) (at : IsAt l p it r ph q)
        (works : Works l p (smaller r (prologue p)) ph q wire v) where
      abbrev pub base : ℕ
      base = over_in l p it r

      abbrev pub now : ℕ
      now = smaller (smaller r (prologue p)) (p.stages - 1)

      pub sum_is : base + now ≡ r
      sum_is = begun_is r p.stages (prologue p) keeps.some (rounds_are p.stages).1

      pub now_low : now ≤ p.stages - 1
      now_low = (smaller_is (smaller r (prologue p)) (p.stages - 1)).1

      pub chain_shown : (d i : ℕ) → i < size l.block → d + (p.stage i + late l p i ph) ≤ now → IsDone l p it (base + d) i →
          value_ahead l p now ph q wire d i ≡ it.value (base + d) i
      chain_shown d i lt le done =
          let not_so = test_fails (p.stage i + d) now (p.phase i) ph (λ a b. (let e = late_late i ph (omega arith) in omega (arith, e))) in
          let age : now - (d + p.stage i + late l p i ph) + (d + (p.stage i + late l p i ph)) ≡ now = omega arith in
          let sum = sum_is in
          let low = now_low in
          let some = keeps.some in
          rw not_so (at.chains i (now - (d + p.stage i + late l p i ph)) (base + d) lt (omega arith) (omega arith) done)

      pub wire_shown : (d i : ℕ) → p.stage i + d ≡ now → p.phase i ≡ ph → value_ahead l p now ph q wire d i ≡ wire i
      wire_shown d i e f = let ended = test_holds (p.stage i + d) now (p.phase i) ph e f in rw ended refl

      -- where operation k accesses an array now, the writes that are past are those before it
      pub access_cut : (k x n : ℕ) (b : Bool) → k < size l.block → target_of (operation_at l.block k).kind ≡ OfArray x b → p.phase k ≡ ph → n + p.stage k ≡ r →
          IsDone l p it n k →
          IsCut l p it r ph x n k
      access_cut k x n b lt access here turn done = record {
        below = omega arith;
        before = λ m j less inside writes. earlier m j less (keeps.apart j k x true b inside lt writes access refl);
        within = λ j less writes.
            (now_past j (keeps.ordered j k x true b less lt writes access refl), done.1 (let w = keeps.writes j x (omega arith) writes in omega arith));
        rest = λ j le inside writes run past. still j le inside writes past;
        later = λ m j less inside writes run past. never m j less (keeps.apart k j x b true lt inside access writes (or-true b)) past;
      }
        where
          earlier : (m j : ℕ) → m < n → IsBefore l p j k 1 → IsPast l p it r ph m j
          earlier m j less (inl s) = inl (omega arith)
          earlier m j less (inr s) = ⊎_elim (λ a. inl a) (λ a. inr (omega arith, omega arith)) (less_or_not (m + p.stage j) r)

          now_past : (j : ℕ) → IsBefore l p j k 0 → IsPast l p it r ph n j
          now_past j (inl s) = inl (omega arith)
          now_past j (inr s) = inr (omega arith, omega arith)

          still : (j : ℕ) → k ≤ j → j < size l.block → WritesTo l p it x j → IsPast l p it r ph n j → ⊥
          still j le inside writes past = ⊎_elim
              (λ same. itself j same past)
              (λ other. after j (keeps.ordered k j x b true (omega (arith, other)) inside access writes (or-true b)) past)
              (cases_eq k j)
            where
              itself : (i : ℕ) → k ≡ i → IsPast l p it r ph n i → ⊥
              itself i e (inl a) = let f : p.stage k ≡ p.stage i = ap p.stage e in omega arith
              itself i e (inr a) = let f : p.phase k ≡ p.phase i = ap p.phase e in omega arith

              after : (i : ℕ) → IsBefore l p k i 0 → IsPast l p it r ph n i → ⊥
              after i (inl a) (inl b) = omega arith
              after i (inl a) (inr b) = omega arith
              after i (inr a) (inl b) = omega arith
              after i (inr a) (inr b) = omega arith

          never : (m j : ℕ) → n < m → IsBefore l p k j 1 → IsPast l p it r ph m j → ⊥
          never m j less (inl a) (inl b) = omega arith
          never m j less (inl a) (inr b) = omega arith
          never m j less (inr a) (inl b) = omega arith
          never m j less (inr a) (inr b) = omega arith

      -- ---- the wires

      operand_uses : (k i : ℕ) (a : Operand) → IsOperand (operation_at l.block k) a → UsesIn a i → Uses (operation_at l.block k) i
      operand_uses k i a (inl e) u = inl (subst (λ (z : Operand). UsesIn z i) e u)
      operand_uses k i a (inr e) u = inr (subst (λ (z : Operand). UsesIn z i) e u)

      abbrev pub IsRight : ℕ → Type 0
      IsRight k = (n : ℕ) → k < size l.block → p.phase k ≡ ph → n + p.stage k ≡ r → IsDone l p it n k → wire k ≡ it.value n k

      -- an operand of operation k in iteration n
      pub operand_shown : (k n : ℕ) (a : Operand) → k < size l.block → p.phase k ≡ ph → n + p.stage k ≡ r → IsDone l p it n k →
          IsOperand (operation_at l.block k) a →
          ((i : ℕ) → i < k → (m : ℕ) → i < size l.block → p.phase i ≡ ph → m + p.stage i ≡ r → IsDone l p it m i → wire i ≡ it.value m i) → p.stage k ≤ now →
          operand_ahead l p now ph q wire (now - p.stage k) a ≡ operand_in l it n a
      operand_shown k n a lt here turn done is rest le =
          let sum = sum_is in
          let e : base + (now - p.stage k) ≡ n = omega arith in
          operand_right l p it are.finals base now ph q wire at.variables (now - p.stage k) a (λ t i less c. by_time t i less c (keeps.waits k t i a lt is c))
          ∙ ap (λ (m : ℕ). operand_in l it m a) e
        where
          before_it : (t i : ℕ) → t ≤ now - p.stage k → Comes l.block.finals t a i → (i < size l.block) × IsDone l p it (base + ((now - p.stage k) - t)) i
          before_it zero i less c =
              let u = keeps.earlier i k lt (operand_uses k i a is c) in
              let sum = sum_is in
              let e : n ≡ base + ((now - p.stage k) - 0) = omega arith in
              (omega arith, subst (λ (m : ℕ). IsDone l p it m i) e (done.0, λ later. done.1 (omega arith)))
          before_it (suc t) i less c =
              let sum = sum_is in
              let m = base + ((now - p.stage k) - suc t) in
              (comes_inside t a i c, (runs_before n m (omega arith) done.0, λ later. runs_before n (suc m) (omega arith) done.0))

          by_time : (t i : ℕ) → t ≤ now - p.stage k → Comes l.block.finals t a i → IsBefore l p i k t ⊎ IsBeside l p i k t →
              value_ahead l p now ph q wire ((now - p.stage k) - t) i ≡ it.value (base + ((now - p.stage k) - t)) i
          by_time t i less c (inl (inl b)) =
              let k0 = before_it t i less c in
              let s = late_small i ph in
              chain_shown ((now - p.stage k) - t) i k0.0 (omega arith) k0.1
          by_time t i less c (inl (inr b)) =
              let k0 = before_it t i less c in
              let s = late_early i ph (omega arith) in
              chain_shown ((now - p.stage k) - t) i k0.0 (omega arith) k0.1
          by_time t i less c (inr b) =
              let k0 = before_it t i less c in
              let sum = sum_is in
              let u = keeps.earlier i k lt (operand_uses k i a is (subst (λ (z : ℕ). Comes l.block.finals z a i) b.0 c)) in
              wire_shown ((now - p.stage k) - t) i (omega arith) (omega arith) ∙ rest i u (base + ((now - p.stage k) - t)) k0.0 (omega arith) (omega arith) k0.1

      pub stage_begun : (k n : ℕ) → k < size l.block → n + p.stage k ≡ r → p.stage k ≤ now
      stage_begun k n lt turn =
          let sum = sum_is in
          let in_ = keeps.inside k lt in
          omega arith

      wires_below : (bound k : ℕ) → k < bound → IsRight k
      wires_below zero k less n lt here turn done = absurd (omega arith)
      wires_below (suc bound) k less n lt here turn done =
          let le = stage_begun k n lt turn in
          let rest = λ (i : ℕ) (lower : i < k). wires_below bound i (omega arith) in
          let o = operation_at l.block k in
          let left = operand_shown k n o.left lt here turn done (inl refl) rest le in
          let right = operand_shown k n o.right lt here turn done (inr refl) rest le in
          works.wired k lt here ∙ ap (λ z. value_of o.kind q.arrays nothing z (operand_ahead l p now ph q wire (now - p.stage k) o.right)) left
          ∙ ap (λ z. value_of o.kind q.arrays nothing (operand_in l it n o.left) z) right
          ∙ value_same o.kind q.arrays (it.content n k) (operand_in l it n o.left) (operand_in l it n o.right)
          (λ x is. at.arrays x n k (element x (operand_in l it n o.left)) (access_cut k x n false lt (ap target_of is) here turn done) refl done.0)
          ∙ sym (are.computed n k lt)

      pub wires_right : (k : ℕ) → IsRight k
      wires_right k = wires_below (suc k) k (omega arith)
