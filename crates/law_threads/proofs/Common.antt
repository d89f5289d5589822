-- What an act needs of its state: its object's number, the calls of the thread, and the cores that it leaves.
use Rattle.std.specs.Prelude.{Bool, true, false, if◌then◌else◌, ℤ, pos, negsuc, Some, slice_get, slice_set, ◌^◌, ◌||◌}
use Rattle.std.specs.List.{list_any}
use Rattle.std.proofs.Common.{◌≡◌, ◌≢◌, ℕ, suc, ◌<◌, List, [], ◌∷◌, refl, sym, ap, ◌∙◌, subst, ⊎_elim, arith}
use Rattle.hls_ints.specs.Residues.{residue_of}
use Rattle.hls_ints.specs.Types.{long_int, wrapped}
use Rattle.hls_ints.proofs.Conversions.{residue_of-wrapped}
use Rattle.c_program.specs.Tree.{Piece, Program}
use Rattle.c_program.specs.Resolved.{IsResolved}
use Rattle.thread_semantics.specs.declared.cause.UndefinedCause.{UndefinedCause}
use Rattle.thread_semantics.specs.State.{Frame, Slot, Running, Barrier, State}
use Rattle.thread_semantics.specs.Step.{Undefines, object_operand, is_waiter, is_running, step}
use Rattle.interleaving.specs.Interleaving.{Reachable}
use Rattle.block_ir.specs.declared.code.ActOperand.{ActOperand}
use Rattle.planned_block.proofs.Bits.{same_is, other_is}
use Rattle.race_model.specs.Source.{Local, local_of, running, outcome_of, c_source}
use Rattle.race_model.specs.Orderly.{waits_in}
use Rattle.race_model.proofs.Lists.{get-set_cases}
use Rattle.race_model.proofs.Sound.{reachable_sound, runs_on}
use Rattle.code_following.specs.Following.{AreValues, NamesObject}
use Rattle.block_ir.specs.Asked.{act_value, Asked}
use Rattle.law_threads.specs.Cores.{Core, core_after, granted}
use Rattle.law_threads.specs.Stands.{status_of}
use Rattle.block_refine.specs.Acts.{IsDefined}

-- operands with the same word have the same 64 bits
pub same_word : (a b : ℤ) → wrapped long_int a ≡ wrapped long_int b → residue_of 64 a ≡ residue_of 64 b
same_word a b e = sym (residue_of-wrapped long_int a) ∙ ap (residue_of 64) e ∙ residue_of-wrapped long_int b

pub small_word : (n : ℕ) → n < 2 ^ 64 → residue_of 64 (pos n) ≡ n
unfolding residue_of
small_word n lt = omega arith

-- the number of an object, and that the operand of the code has it
pub record Names (variables : ℕ → ℤ) (o : ActOperand) (vs : List ℤ) : Type 0 where
  pub number : ℕ
  pub object : object_operand vs ≡ number
  pub word : number < 2 ^ 64 → residue_of 64 (act_value variables o) ≡ number

pub names : (variables : ℕ → ℤ) (o : ActOperand) (os : List ActOperand) (vs : List ℤ) → AreValues variables (o ∷ os) vs → NamesObject vs → Names variables o vs
names variables o os [] are named = absurd are
names variables o os (pos n ∷ vs) are named = record {
  number = n;
  object = refl;
  word = λ lt. same_word (act_value variables o) (pos n) are.0 ∙ small_word n lt;
}
names variables o os (negsuc n ∷ vs) are named = absurd named

-- a thread that runs and waits nowhere makes no undefined step
pub never : (P : Program) (R : IsResolved P) (s : State) (i offset : ℕ) (cause : UndefinedCause) (calls : List Frame) → Reachable (c_source P) s → IsDefined P s i →
    local_of s i ≡ running calls → step P s i ≡ Undefines offset cause → ⊥
never P R s i offset cause calls at defined runs e =
    let slot : slice_get s.slots i ≡ Some (Running calls) = ap (λ (x : Local). x.slot) runs in
    defined (runs_on P R s i calls (reachable_sound P R s at) slot) (ap is_running slot) (ap outcome_of e)

-- who is in no list of waiters waits nowhere
pub waits_somewhere : (i : ℕ) (bs : List Barrier) → list_any (is_waiter i) bs ≡ true → (n : ℕ) × (waits_in i (slice_get bs n) ≡ true)
waits_somewhere i [] e = absurd cc
waits_somewhere i (b ∷ bs) e = go (is_waiter i b) refl e (λ rest. waits_somewhere i bs rest)
  where
    go : (w : Bool) → is_waiter i b ≡ w → list_any (is_waiter i) (b ∷ bs) ≡ true →
        (list_any (is_waiter i) bs ≡ true → (n : ℕ) × (waits_in i (slice_get bs n) ≡ true)) → (n : ℕ) × (waits_in i (slice_get (b ∷ bs) n) ≡ true)
    go true z d more = (0, z)
    go false z d more =
        let rest : list_any (is_waiter i) bs ≡ true = sym (ap (λ (x : Bool). x || list_any (is_waiter i) bs) z) ∙ d in
        let there = more rest in
        (suc there.0, there.1)

-- the status of each thread where a running thread has other calls
pub status_kept : (slots : List Slot) (i j : ℕ) (calls frames : List Frame) (x : Slot) → slice_get slots i ≡ Some (Running calls) →
    slice_get (slice_set slots i (Running frames)) j ≡ Some x → (y : Slot) × (slice_get slots j ≡ Some y) × (status_of y ≡ status_of x)
status_kept slots i j calls frames x at e =
    ⊎_elim
    (λ same. (Running calls, subst (λ k. slice_get slots k ≡ Some (Running calls)) same.0 at, ap status_of same.1))
    (λ other. (x, other.1, refl))
    (get-set_cases slots i j (Running frames) x e)

module _ (T : ℕ) (formats : List (List Piece)) (k i : ℕ) (ask : Asked) (c : ℕ → Core) where
  pub other_core : (j : ℕ) → j ≢ k → core_after T formats k i ask c j ≡ c j
  other_core j ne = ap (λ (b : Bool). if b then granted T formats (c j) i ask else c j) (other_is j k ne)

  pub same_core : (x : Core) → c k ≡ x → core_after T formats k i ask c k ≡ granted T formats x i ask
  same_core x e = ap (λ (b : Bool). if b then granted T formats (c k) i ask else c k) (same_is k k refl) ∙ ap (λ z. granted T formats z i ask) e
