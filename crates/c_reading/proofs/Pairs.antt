-- Two rules that refer to themselves and to each other without nesting deeper in between: at every depth, and for any
-- number of tokens.
use Rattle.std.proofs.Common.{ℕ, zero, suc, ◌<◌, ◌≤◌, List, Bool, false, arith}
use Rattle.grammar.specs.Rules.{Placed, Family}
use Rattle.grammar.specs.Sentences.{Spelled}
use Rattle.grammar.specs.Readers.{Reader}
use Rattle.grammar.proofs.Good.{Reads}
use Rattle.grammar.proofs.Nested.{entered}

module _ {T A B : Type 0} (E : Family T A) (F : Family T B) (p : ℕ → Reader T A) (q : ℕ → Reader T B) {first first' : T → Bool} {last : A → T → Bool} {last' : B → T → Bool}
    (none : (at : ℕ) (w : List (Placed T)) (v : A) → E 0 at w v → ⊥) (none' : (at : ℕ) (w : List (Placed T)) (v : B) → F 0 at w v → ⊥)
    (some : (at : ℕ) → (w : List (Placed T)) × (v : A) × Spelled E at w v) (some' : (at : ℕ) → (w : List (Placed T)) × (v : B) × Spelled F at w v)
    (body : (D : ℕ → Type 0) (n m : ℕ) → n ≤ suc m → m ≤ n → (0 < n → (depth : ℕ) → D depth) → Reads D m E p first last false → Reads D m F q first' last' false
    → Reads D n (λ depth. E (suc depth)) p first last false)
    (body' : (D : ℕ → Type 0) (n m : ℕ) → n ≤ suc m → m ≤ n → (0 < n → (depth : ℕ) → D depth) → Reads D n E p first last false → Reads D m F q first' last' false
    → Reads D n (λ depth. F (suc depth)) q first' last' false) where
  -- before any token is read
  start : {C : Type 0} (G : Family T C) (r : ℕ → Reader T C) (begins : T → Bool) (ends : C → T → Bool) → ((at : ℕ) → (w : List (Placed T)) × (v : C) × Spelled G at w v)
      → Reads (λ depth. depth < 0) 0 G r begins ends false
  start G r begins ends found = record {
    whole = λ lt. absurd (omega arith);
    deeper = λ depth at dd w v h. absurd (omega arith);
    begins = λ depth at dd t w v h. absurd (omega arith);
    above = λ depth at dd t w v h. absurd (omega arith);
    begun = λ lt. absurd (omega arith);
    empty = λ depth at dd v h. absurd (omega arith);
    nothing = λ all at h. cc;
    inhabited = λ all. found;
    stable = λ room ts lt calm. absurd (omega arith);
    fixed = λ depth depth' at w w' v v' lt lt' h h'. absurd (omega arith);
    sound = λ at room ts lt. absurd (omega arith);
    complete = λ depth at room ts w rest v lt e h low av. absurd (omega arith);
  }

  shapes : (k : ℕ) → Reads (λ depth. depth < k) 0 E p first last false × Reads (λ depth. depth < k) 0 F q first' last' false
  shapes zero = (start E p first last some, start F q first' last' some')
  shapes (suc k) =
      let below = shapes k in
      let inner = body (λ depth. depth < k) 0 0 (omega arith) (omega arith) (λ lt. absurd (omega arith)) below.0 below.1 in
      let inner' = body' (λ depth. depth < k) 0 0 (omega arith) (omega arith) (λ lt. absurd (omega arith)) below.0 below.1 in (
        entered {D' = λ depth. depth < suc k} E inner none (λ depth lt. omega arith) (λ lt. absurd (omega arith)) (λ all d. absurd (omega (arith, all (suc k)))),
        entered {D' = λ depth. depth < suc k} F inner' none' (λ depth lt. omega arith) (λ lt. absurd (omega arith)) (λ all d. absurd (omega (arith, all (suc k)))),
      )

  -- before any token is read, at every depth
  all_shapes : {C : Type 0} (G : Family T C) (r : ℕ → Reader T C) (begins : T → Bool) (ends : C → T → Bool) → ((at : ℕ) → (w : List (Placed T)) × (v : C) × Spelled G at w v)
      → ((k : ℕ) → Reads (λ depth. depth < k) 0 G r begins ends false) → Reads (λ depth. Unit {0}) 0 G r begins ends false
  all_shapes G r begins ends found each = record {
    whole = λ lt. absurd (omega arith);
    deeper = λ depth at dd. (each (suc depth)).deeper depth at (omega arith);
    begins = λ depth at dd. (each (suc depth)).begins depth at (omega arith);
    above = λ depth at dd. (each (suc depth)).above depth at (omega arith);
    begun = λ lt. absurd (omega arith);
    empty = λ depth at dd. (each (suc depth)).empty depth at (omega arith);
    nothing = λ all at h. cc;
    inhabited = λ all. found;
    stable = λ room ts lt calm. absurd (omega arith);
    fixed = λ depth depth' at w w' v v' lt lt' h h'. absurd (omega arith);
    sound = λ at room ts lt. absurd (omega arith);
    complete = λ depth at room ts w rest v lt e h low av. absurd (omega arith);
  }

  pub two_at_any_depth : (n : ℕ) → Reads (λ depth. Unit {0}) n E p first last false × Reads (λ depth. Unit {0}) n F q first' last' false
  two_at_any_depth zero = (all_shapes E p first last some (λ k. (shapes k).0), all_shapes F q first' last' some' (λ k. (shapes k).1))
  two_at_any_depth (suc n) =
      let below = two_at_any_depth n in
      let one : Reads (λ depth. Unit {0}) (suc n) E p first last false =
      entered E (body (λ depth. Unit {0}) (suc n) n (omega arith) (omega arith) (λ lt depth. tt) below.0 below.1) none (λ depth lt. tt) (λ lt depth. tt) (λ all d. tt) in
      (one, entered F (body' (λ depth. Unit {0}) (suc n) n (omega arith) (omega arith) (λ lt depth. tt) one below.1) none' (λ depth lt. tt) (λ lt depth. tt) (λ all d. tt))
