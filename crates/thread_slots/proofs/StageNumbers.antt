-- The numbers of different stages are apart, and there is room for all of them.
use Rattle.std.proofs.Common.{◌≡◌, ◌≢◌, ℕ, ◌<◌, Bool, true, false, ◌&&◌, ◌||◌, nat_eq, length, ◌⊎◌, inl, inr, refl, sym, ap, subst, ◌∙◌, arith, ⊎_elim}
use Rattle.std.proofs.lemmas.Bool.{or_left, or_parts}
use Rattle.block_ir.specs.declared.code.Stage.{Stage}
use Rattle.block_ir.specs.declared.code.ThreadCode.{ThreadCode}
use Rattle.netlist.specs.declared.netlist.Module.{Module}
use Rattle.verilog_meaning.specs.Readings.{Reading}
use Rattle.planned_block.proofs.Bits.{is_same, same_is, other_is}
use Rattle.block_datapath.specs.Moves.{meeting}
use Rattle.block_datapath.specs.declared.registers.Registers.{Registers}
use Rattle.block_datapath.specs.Leave.{HasStage}
use Rattle.thread_slots.specs.Numbers.{is_wait, numbers}
use Rattle.thread_slots.specs.Slots.{KnowsStage}

neither : (t v u : Bool) → t ≡ false → u ≡ false → (t || (v && u)) ≡ false
neither false true u e f = f
neither false false u e f = refl
neither true v u e f = absurd cc

no_second : (t u : Bool) → (t || (true && u)) ≡ false → u ≡ false
no_second true u e = absurd cc
no_second false u e = e

apart : (n k x : ℕ) (s : Stage) → x ≢ k → x ≢ meeting n k → numbers n k s x ≡ false
apart n k x s one two = neither (nat_eq x k) (is_wait s) (nat_eq x (meeting n k)) (other_is x k one) (other_is x (meeting n k) two)

-- the number of another stage, a meeting of another stage, and the rest are none of a stage
pub number_apart : (n k l : ℕ) (s : Stage) → l ≢ k → l < n → numbers n k s l ≡ false
number_apart n k l s ne less = apart n k l s ne (λ e. absurd (omega arith))

pub meeting_apart : (n k l : ℕ) (s : Stage) → l ≢ k → k < n → numbers n k s (meeting n l) ≡ false
meeting_apart n k l s ne less = apart n k (meeting n l) s (λ e. absurd (omega arith)) (λ e. ne (omega arith))

pub rest_apart : (n k : ℕ) (s : Stage) → k < n → numbers n k s n ≡ false
rest_apart n k s less = apart n k n s (λ e. absurd (omega arith)) (λ e. absurd (omega arith))

-- what is no number of a stage is not the stage's own, nor a wait's meeting
pub not_own : (n l x : ℕ) (s : Stage) → numbers n l s x ≡ false → x ≢ l
not_own n l x s none e = absurd (let clash : true ≡ false = sym (same_is x l e) ∙ (or_parts (nat_eq x l) (is_wait s && nat_eq x (meeting n l)) none).0 in cc)

pub not_meeting : (n l x : ℕ) (s : Stage) → is_wait s ≡ true → numbers n l s x ≡ false → x ≢ meeting n l
not_meeting n l x s waits none e =
    absurd
    (let clash : true ≡ false =
    sym (same_is x (meeting n l) e) ∙ no_second (nat_eq x l) (nat_eq x (meeting n l)) (ap (λ t. nat_eq x l || (t && nat_eq x (meeting n l))) (sym waits) ∙ none) in cc)

-- ---- a number of a stage

yes_second : (t u : Bool) → u ≡ true → (t || (true && u)) ≡ true
yes_second true u e = refl
yes_second false u e = e

pub own_number : (n l : ℕ) (s : Stage) → numbers n l s l ≡ true
own_number n l s = or_left (nat_eq l l) (is_wait s && nat_eq l (meeting n l)) (same_is l l refl)

pub meeting_number : (n l : ℕ) (s : Stage) → is_wait s ≡ true → numbers n l s (meeting n l) ≡ true
meeting_number n l s waits =
    ap (λ t. nat_eq (meeting n l) l || (t && nat_eq (meeting n l) (meeting n l))) waits
    ∙ yes_second (nat_eq (meeting n l) l) (nat_eq (meeting n l) (meeting n l)) (same_is (meeting n l) (meeting n l) refl)

split : (t v u : Bool) → (t || (v && u)) ≡ true → (t ≡ true) ⊎ ((v ≡ true) × (u ≡ true))
split true v u e = inl refl
split false true u e = inr (refl, e)
split false false u e = absurd cc

-- it is the stage's own, or that of its meeting
pub number_is : (n l x : ℕ) (s : Stage) → numbers n l s x ≡ true → (x ≡ l) ⊎ ((is_wait s ≡ true) × (x ≡ meeting n l))
number_is n l x s e =
    ⊎_elim (λ (own : nat_eq x l ≡ true). inl (is_same x l own))
    (λ (met : (is_wait s ≡ true) × (nat_eq x (meeting n l) ≡ true)). inr (met.0, is_same x (meeting n l) met.1)) (split (nat_eq x l) (is_wait s) (nat_eq x (meeting n l)) e)

-- and none of another stage, nor the rest
pub numbers_apart : (n k l x : ℕ) (s u : Stage) → l ≢ k → k < n → l < n → numbers n l u x ≡ true → numbers n k s x ≡ false
numbers_apart n k l x s u ne under less e =
    ⊎_elim (λ (own : x ≡ l). subst (λ z. numbers n k s z ≡ false) (sym own) (number_apart n k l s ne less))
    (λ (met : (is_wait u ≡ true) × (x ≡ meeting n l)). subst (λ z. numbers n k s z ≡ false) (sym met.1) (meeting_apart n k l s ne under)) (number_is n l x u e)

pub number_not_rest : (n l x : ℕ) (u : Stage) → l < n → numbers n l u x ≡ true → x ≢ n
number_not_rest n l x u less e is =
    absurd (let none : numbers n l u x ≡ false = subst (λ z. numbers n l u z ≡ false) (sym is) (rest_apart n l u less) in let clash : true ≡ false = sym e ∙ none in cc)

-- ---- room

-- the register has room for a meeting
pub has_meeting : (code : ThreadCode) (registers : Registers) (l : ℕ) (m : Module) (r : Reading) → KnowsStage code registers m r → l < length code.stages
    → HasStage registers (meeting (length code.stages) l) m r
has_meeting code registers l m r knows less = record { wide = knows.wide; room = (let room = knows.room in omega arith); fits = knows.fits }
