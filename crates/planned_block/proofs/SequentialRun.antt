-- The operations one after another give a run of the block.
use Rattle.std.specs.Prelude.{ℤ, pos, Bool, if◌then◌else◌, Some}
use Rattle.std.proofs.Common.{inr, ◌≡◌, ◌≢◌, ℕ, zero, suc, ◌+◌, ◌<◌, ◌≤◌, ◌++◌, refl, sym, ap, ◌∙◌, subst, ⊎_elim, inl, arith, append_assoc, append-nil}
use Rattle.std.proofs.lemmas.Bool.{cases_eq}
use Rattle.interleaving.specs.Memory.{Memory, memory_after}
use Rattle.interleaving.specs.AnyOrder.{accesses_in, ReadsRight}
use Rattle.interleaving.proofs.Accesses.{memory_after-append}
use Rattle.interleaving.proofs.AnyOrder.{accesses_in-append, right_join}
use Rattle.planned_block.specs.Block.{Operand, Constant, Variable, Value, Through, Kind, Simple, Multiply, Divide, BankRead, BankWrite, ArrayRead, ArrayWrite}
use Rattle.planned_block.specs.Block.{Block, operation_at, size, operand_value, UsesIn, IsOrdered}
use Rattle.planned_block.specs.Run.{bank_access, array_access, computes, Running, started, value_of, run_operation}
use Rattle.planned_block.specs.Run.{run_from, block_run, bank_events, array_events, bank_events_at, array_events_at, events_from, IsRun}
use Rattle.planned_block.proofs.Bits.{same_is, other_is}
use Rattle.planned_block.proofs.Touches.{bank_access-events, array_access-events}

operand_value_same : (variables u v : ℕ → ℤ) (o : Operand) → ((j : ℕ) → UsesIn o j → u j ≡ v j) → operand_value variables u o ≡ operand_value variables v o
operand_value_same variables u v (Constant n) each = refl
operand_value_same variables u v (Variable x) each = refl
operand_value_same variables u v (Value j) each = each j refl
operand_value_same variables u v (Through f o) each = ap f (operand_value_same variables u v o each)

bank_is_right : (kind : Kind) (m arrays : Memory ℤ) (l r v : ℤ) → value_of kind arrays m l r ≡ v → ReadsRight m (bank_events kind l r v)
bank_is_right (Simple f) m arrays l r v e = tt
bank_is_right (Multiply f) m arrays l r v e = tt
bank_is_right (Divide f) m arrays l r v e = tt
bank_is_right (BankRead x) m arrays l r v e = (e, tt)
bank_is_right (BankWrite x) m arrays l r v e = tt
bank_is_right (ArrayRead x) m arrays l r v e = tt
bank_is_right (ArrayWrite x) m arrays l r v e = tt

array_is_right : (kind : Kind) (m arrays : Memory ℤ) (l r v : ℤ) → value_of kind arrays m l r ≡ v → ReadsRight arrays (array_events kind l r v)
array_is_right (Simple f) m arrays l r v e = tt
array_is_right (Multiply f) m arrays l r v e = tt
array_is_right (Divide f) m arrays l r v e = tt
array_is_right (BankRead x) m arrays l r v e = tt
array_is_right (BankWrite x) m arrays l r v e = tt
array_is_right (ArrayRead x) m arrays l r v e = (e, tt)
array_is_right (ArrayWrite x) m arrays l r v e = tt

is_computed : (kind : Kind) (f : ℤ → ℤ → ℤ) (arrays m : Memory ℤ) (l r : ℤ) → computes kind ≡ Some f → value_of kind arrays m l r ≡ f l r
is_computed (Simple g) f arrays m l r e = let same : g ≡ f = cc in ap (λ h. h l r) same
is_computed (Multiply g) f arrays m l r e = let same : g ≡ f = cc in ap (λ h. h l r) same
is_computed (Divide g) f arrays m l r e = let same : g ≡ f = cc in ap (λ h. h l r) same
is_computed (BankRead x) f arrays m l r e = absurd cc
is_computed (BankWrite x) f arrays m l r e = let same : (λ a b. pos 0) ≡ f = cc in ap (λ h. h l r) same
is_computed (ArrayRead x) f arrays m l r e = absurd cc
is_computed (ArrayWrite x) f arrays m l r e = let same : (λ a b. pos 0) ≡ f = cc in ap (λ h. h l r) same

module _ (b : Block) (variables : ℕ → ℤ) (ordered : IsOrdered b) where
  abbrev end : ℕ → ℕ → Running → Running
  end r n s = run_from b variables r n s

  stable : (r n : ℕ) (s : Running) (j : ℕ) → j < n → (end r n s).values j ≡ s.values j
  stable zero n s j lt = refl
  stable (suc r) n s j lt =
      stable r (suc n) (run_operation variables n (operation_at b n) s) j (omega arith)
      ∙ ap (λ (c : Bool). if c then value_of (operation_at b n).kind s.arrays s.memory (operand_value variables s.values (operation_at b n).left)
      (operand_value variables s.values (operation_at b n).right) else s.values j) (other_is j n (λ (e : j ≡ n). absurd (omega arith)))

  -- what r operations from n on leave
  record Runs (r n : ℕ) (s fin : Running) : Type 0 where
    value : (k : ℕ) (f : ℤ → ℤ → ℤ) → n ≤ k → k < n + r → computes (operation_at b k).kind ≡ Some f → fin.values k
        ≡ f (operand_value variables fin.values (operation_at b k).left) (operand_value variables fin.values (operation_at b k).right)
    bank : ReadsRight s.memory (events_from (bank_events_at b variables fin.values) r n)
    array : ReadsRight s.arrays (events_from (array_events_at b variables fin.values) r n)
    accesses : fin.accesses ≡ s.accesses ++ accesses_in (events_from (bank_events_at b variables fin.values) r n)
    memory : fin.memory ≡ memory_after (accesses_in (events_from (bank_events_at b variables fin.values) r n)) s.memory
    arrays : fin.arrays ≡ memory_after (accesses_in (events_from (array_events_at b variables fin.values) r n)) s.arrays

  -- operation n with the values at the end
  step : (n : ℕ) (s : Running) (fin : ℕ → ℤ) → n < size b → ((j : ℕ) → j < n → fin j ≡ s.values j) →
      (operand_value variables s.values (operation_at b n).left ≡ operand_value variables fin (operation_at b n).left)
      × (operand_value variables s.values (operation_at b n).right ≡ operand_value variables fin (operation_at b n).right)
  step n s fin lt same = (
    operand_value_same variables s.values fin (operation_at b n).left (λ j u. sym (same j (ordered.earlier j n lt (inl u)))),
    operand_value_same variables s.values fin (operation_at b n).right (λ j u. sym (same j (ordered.earlier j n lt (inr u)))),
  )

  runs : (r n : ℕ) (s : Running) → n + r ≡ size b → Runs r n s (end r n s)
  runs zero n s e = record { value = λ k f le lt _. absurd (omega arith); bank = tt; array = tt; accesses = sym (append-nil s.accesses); memory = refl; arrays = refl }
  runs (suc r) n s e =
      let o = operation_at b n in
      let s1 = run_operation variables n o s in
      let rest = runs r (suc n) s1 (omega arith) in
      let fin = end r (suc n) s1 in
      let lt : n < size b = omega arith in
      let l = operand_value variables s.values o.left in
      let rr = operand_value variables s.values o.right in
      let both = step n s fin.values lt (λ j below. stable r (suc n) s1 j (omega arith)
      ∙ ap (λ (c : Bool). if c then value_of o.kind s.arrays s.memory l rr else s.values j) (other_is j n (λ (x : j ≡ n). absurd (omega arith)))) in
      let now : value_of o.kind s.arrays s.memory l rr ≡ fin.values n =
      sym (stable r (suc n) s1 n (omega arith) ∙ ap (λ (c : Bool). if c then value_of o.kind s.arrays s.memory l rr else s.values n) (same_is n n refl)) in
      let bank_now : bank_events o.kind l rr (fin.values n) ≡ bank_events_at b variables fin.values n = ap (λ x. bank_events o.kind x rr (fin.values n)) both.0
      ∙ ap (λ x. bank_events o.kind (operand_value variables fin.values o.left) x (fin.values n)) both.1 in
      let array_now : array_events o.kind l rr (fin.values n) ≡ array_events_at b variables fin.values n = ap (λ x. array_events o.kind x rr (fin.values n)) both.0
      ∙ ap (λ x. array_events o.kind (operand_value variables fin.values o.left) x (fin.values n)) both.1 in
      let bank_made : bank_access o.kind l rr ≡ accesses_in (bank_events_at b variables fin.values n) = bank_access-events o.kind l rr (fin.values n) ∙ ap accesses_in bank_now in
      let array_made : array_access o.kind l rr ≡ accesses_in (array_events_at b variables fin.values n) = array_access-events o.kind l rr (fin.values n) ∙ ap accesses_in array_now in
      record {
        value = λ k f le below c. ⊎_elim
            (λ (x : k ≡ n).
            subst (λ i. fin.values i ≡ f (operand_value variables fin.values (operation_at b i).left) (operand_value variables fin.values (operation_at b i).right)) (sym x)
            (sym now ∙ is_computed o.kind f s.arrays s.memory l rr (subst (λ i. computes (operation_at b i).kind ≡ Some f) x c) ∙ ap (λ y. f y rr) both.0
            ∙ ap (λ y. f (operand_value variables fin.values o.left) y) both.1))
            (λ (ne : k ≢ n). rest.value k f (omega arith) (omega arith) c)
            (cases_eq k n);
        bank = right_join (bank_events_at b variables fin.values n) (events_from (bank_events_at b variables fin.values) r (suc n)) s.memory
            (subst (ReadsRight s.memory) bank_now (bank_is_right o.kind s.memory s.arrays l rr (fin.values n) now))
            (subst (λ a. ReadsRight (memory_after a s.memory) (events_from (bank_events_at b variables fin.values) r (suc n))) bank_made rest.bank);
        array = right_join (array_events_at b variables fin.values n) (events_from (array_events_at b variables fin.values) r (suc n)) s.arrays
            (subst (ReadsRight s.arrays) array_now (array_is_right o.kind s.memory s.arrays l rr (fin.values n) now))
            (subst (λ a. ReadsRight (memory_after a s.arrays) (events_from (array_events_at b variables fin.values) r (suc n))) array_made rest.array);
        accesses = rest.accesses ∙ ap (λ a. (s.accesses ++ a) ++ accesses_in (events_from (bank_events_at b variables fin.values) r (suc n))) bank_made
            ∙ append_assoc s.accesses (accesses_in (bank_events_at b variables fin.values n)) (accesses_in (events_from (bank_events_at b variables fin.values) r (suc n)))
            ∙ ap (λ a. s.accesses ++ a) (sym (accesses_in-append (bank_events_at b variables fin.values n) (events_from (bank_events_at b variables fin.values) r (suc n))));
        memory = rest.memory ∙ ap (λ a. memory_after (accesses_in (events_from (bank_events_at b variables fin.values) r (suc n))) (memory_after a s.memory)) bank_made
            ∙ sym (ap (λ a. memory_after a s.memory) (accesses_in-append (bank_events_at b variables fin.values n) (events_from (bank_events_at b variables fin.values) r (suc n)))
            ∙ memory_after-append (accesses_in (bank_events_at b variables fin.values n)) (accesses_in (events_from (bank_events_at b variables fin.values) r (suc n))) s.memory);
        arrays = rest.arrays ∙ ap (λ a. memory_after (accesses_in (events_from (array_events_at b variables fin.values) r (suc n))) (memory_after a s.arrays)) array_made
            ∙ sym (ap (λ a. memory_after a s.arrays) (accesses_in-append (array_events_at b variables fin.values n)
            (events_from (array_events_at b variables fin.values) r (suc n)))
            ∙ memory_after-append (accesses_in (array_events_at b variables fin.values n)) (accesses_in (events_from (array_events_at b variables fin.values) r (suc n))) s.arrays);
      }

  -- the block's run, by its operations one after another
  pub is_run : (arrays m : Memory ℤ) → IsRun b variables (block_run b variables arrays m).values arrays m
  is_run arrays m =
      let all = runs (size b) 0 (started arrays m) (omega arith) in
      record { computed = λ k f lt c. all.value k f (omega arith) (omega arith) c; bank = all.bank; array = all.array }

  pub run_accesses : (arrays m : Memory ℤ) → (block_run b variables arrays m).accesses ≡ accesses_in (events_from (bank_events_at b variables (block_run b variables arrays m).values) (size b) 0)
  run_accesses arrays m = (runs (size b) 0 (started arrays m) (omega arith)).accesses

  pub run_arrays : (arrays m : Memory ℤ) → (block_run b variables arrays m).arrays
      ≡ memory_after (accesses_in (events_from (array_events_at b variables (block_run b variables arrays m).values) (size b) 0)) arrays
  run_arrays arrays m = (runs (size b) 0 (started arrays m) (omega arith)).arrays

  pub run_memory : (arrays m : Memory ℤ) → (block_run b variables arrays m).memory
      ≡ memory_after (accesses_in (events_from (bank_events_at b variables (block_run b variables arrays m).values) (size b) 0)) m
  run_memory arrays m = (runs (size b) 0 (started arrays m) (omega arith)).memory
