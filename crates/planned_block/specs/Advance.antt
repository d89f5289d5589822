-- What the module of a thread does in a cycle in which it is enabled, grants given: as a relation, and as a function.
use Rattle.std.specs.Prelude.{◌≡◌, ℕ, zero, suc, nat_eq, ℤ, pos, List, Bool, true, false, not, ◌&&◌, ◌||◌, ◌⊎◌, if◌then◌else◌, Option, Some, None}
use Rattle.interleaving.specs.Memory.{Location, Memory, Access}
use Rattle.planned_block.specs.Block.{Kind, Simple, Multiply, Divide, BankRead, BankWrite, ArrayRead, ArrayWrite, Block, operation_at, size, finished, leads_to, element}
use Rattle.planned_block.specs.Plan.{Plan, last_state}
use Rattle.planned_block.specs.Slot.{Slot, accesses_where, bank_access_now, asks, granted_with, operand_now, arrays_next, stayed, gone_on, IsWired, result_now, WordsAfter, Stays, GoesOn, Leaves}

abbrev pub all_below : (ℕ → Bool) → ℕ → Bool
all_below test zero = true
all_below test (suc n) = all_below test n && test n

abbrev pub any_below : (ℕ → Bool) → ℕ → Bool
any_below test zero = false
any_below test (suc n) = any_below test n || test n

module _ (b : Block) (p : Plan) where
  -- the module raises the request of operation k: it belongs to this state and has not been granted
  abbrev pub requests : Slot → ℕ → Bool
  requests q k = asks b p q k && not (q.granted k)

  -- of these grants those that answer a request
  abbrev pub answered : Slot → (ℕ → Bool) → ℕ → Bool
  answered q grant k = requests q k && grant k

  abbrev pub is_granted : Slot → (ℕ → Bool) → ℕ → Bool
  is_granted q grant k = not (asks b p q k) || granted_with b p q (answered q grant) k

  -- each request of this state is granted, now or before
  abbrev pub is_ready : Slot → (ℕ → Bool) → Bool
  is_ready q grant = all_below (is_granted q grant) (size b)

  abbrev pub is_answered : Slot → (ℕ → Bool) → Bool
  is_answered q grant = any_below (answered q grant) (size b)

-- the accesses that an enabled slot makes under these grants
abbrev pub accesses_of_cycle : Block → Plan → Slot → (ℕ → Bool) → (ℕ → ℤ) → List (Access ℤ)
accesses_of_cycle b p q grant wire = accesses_where (answered b p q grant) (bank_access_now b p q wire) (size b) 0

-- the state is left as soon as all its requests are granted; until then each grant is remembered
pub record Advances (bank : Location → ℕ) (b : Block) (p : Plan) (q : Slot) (m : Memory ℤ) (grant : ℕ → Bool) (wire : ℕ → ℤ) (r : Slot) : Type 0 where
  pub words : ℕ → ℤ
  pub wired : IsWired bank b p q wire
  pub read : WordsAfter bank b p q wire m (answered b p q grant) words
  pub leaves : is_ready b p q grant ≡ true → GoesOn b p q wire words r ⊎ Leaves b p q wire r
  pub waits : is_ready b p q grant ≡ false → is_answered b p q grant ≡ true → Stays b p q (answered b p q grant) words r
  pub rests : is_ready b p q grant ≡ false → is_answered b p q grant ≡ false → r ≡ q

-- the value of the last of the first n that passes
abbrev pub last_of : {A : Type 0} → (ℕ → Bool) → (ℕ → A) → A → ℕ → A
last_of test value old zero = old
last_of test value old (suc n) = if test n then value n else last_of test value old n

abbrev pub is_register : Option ℕ → ℕ → Bool
is_register None r = false
is_register (Some s) r = nat_eq s r

module _ (bank : Location → ℕ) where
  -- this kind of operation, with this index, reads bank n
  abbrev pub reads_bank : Kind → ℤ → ℕ → Bool
  reads_bank (Simple f) l n = false
  reads_bank (Multiply f) l n = false
  reads_bank (Divide f) l n = false
  reads_bank (BankRead x) l n = nat_eq (bank (element x l)) n
  reads_bank (BankWrite x) l n = false
  reads_bank (ArrayRead x) l n = false
  reads_bank (ArrayWrite x) l n = false

  -- the word that it reads
  abbrev pub word_read : Kind → ℤ → Memory ℤ → ℤ
  word_read (Simple f) l m = pos 0
  word_read (Multiply f) l m = pos 0
  word_read (Divide f) l m = pos 0
  word_read (BankRead x) l m = m (element x l)
  word_read (BankWrite x) l m = pos 0
  word_read (ArrayRead x) l m = pos 0
  word_read (ArrayWrite x) l m = pos 0

  module _ (b : Block) (p : Plan) where
    -- the wires after n rounds; they are settled after as many as there are operations
    abbrev pub wires_after : Slot → ℕ → ℕ → ℤ
    wires_after q zero k = pos 0
    wires_after q (suc n) k = result_now bank b p q (wires_after q n) k

    abbrev pub wires : Slot → ℕ → ℤ
    wires q = wires_after q (size b)

    abbrev pub words_next : Slot → Memory ℤ → (ℕ → Bool) → ℕ → ℤ
    words_next q m grants n =
        last_of (λ k. grants k && reads_bank (operation_at b k).kind (operand_now b p q (wires q) (operation_at b k).left) n)
        (λ k. word_read (operation_at b k).kind (operand_now b p q (wires q) (operation_at b k).left) m) (q.words n) (size b)

    abbrev pub registers_next : Slot → ℕ → ℤ
    registers_next q r = last_of (λ k. nat_eq (last_state b p k) q.state && is_register (p.register k) r) (wires q) (q.registers r) (size b)

    -- the start of the next block
    abbrev pub left_for_next : Slot → (ℕ → ℤ) → Slot
    left_for_next q words = record {
      routine = q.routine;
      stage = leads_to (operand_now b p q (wires q)) b.next;
      state = 0;
      granted = λ k. false;
      variables = finished (operand_now b p q (wires q)) b.finals q.variables;
      arrays = arrays_next b p q (wires q);
      registers = registers_next q;
      words = words;
      beat = not q.beat;
    }

    abbrev pub state_left : Slot → (ℕ → ℤ) → Slot
    state_left q words = if nat_eq (suc q.state) p.states then left_for_next q words else gone_on b p q (wires q) words (registers_next q)

    -- one cycle of an enabled thread
    abbrev pub advance : Slot → Memory ℤ → (ℕ → Bool) → Slot
    advance q m grant =
        let grants = answered b p q grant in
        if is_ready b p q grant then state_left q (words_next q m grants)
        else (if is_answered b p q grant then stayed b p q grants (words_next q m grants)
        else q)
