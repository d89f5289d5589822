-- Operands of iterations that are ahead of the variables.
use Rattle.std.specs.Prelude.{ℤ, nat_eq, Bool, true, false, if◌then◌else◌, Option, Some, None}
use Rattle.std.proofs.Common.{◌≡◌, ℕ, zero, suc, ◌+◌, ◌-◌, ◌≤◌, List, [], ◌∷◌, refl, sym, ap, ◌∙◌, subst, arith}
use Rattle.planned_block.specs.Block.{Operand, Constant, Variable, Value, Through, Final, operand_value, UsesIn, finished}
use Rattle.std.specs.Option.{option_or}
use Rattle.planned_loop.specs.Loop.{Loop, Iterations, operand_in}
use Rattle.planned_loop.specs.Plan.{LoopPlan, final_of, Names, ComesFrom, Comes}
use Rattle.planned_block.specs.Slot.{Slot}
use Rattle.planned_loop.specs.Move.{value_ahead, variables_ahead, operand_ahead}

-- what a final gives, if there is one
abbrev pub from_final : (Operand → ℤ) → Option Operand → ℤ → ℤ
from_final value None old = old
from_final value (Some a) old = value a

join_final : (value : Operand → ℤ) (o : Option Operand) (b : Bool) (a : Operand) (old : ℤ) →
    from_final value o (if b then value a else old) ≡ from_final value (option_or o (if b then Some a else None)) old
join_final value (Some c) b a old = refl
join_final value None true a old = refl
join_final value None false a old = refl

pub finished_is : (value : Operand → ℤ) (fs : List Final) (after : ℕ → ℤ) (x : ℕ) → finished value fs after x ≡ from_final value (final_of fs x) (after x)
finished_is value [] after x = refl
finished_is value (f ∷ fs) after x =
    finished_is value fs (λ y. if nat_eq y f.variable then value f.value else after y) x ∙ join_final value (final_of fs x) (nat_eq x f.variable) f.value
    (after x)

pub operand_same : (a : Operand) (v w f g : ℕ → ℤ) → ((x : ℕ) → Names a x → v x ≡ w x) → ((i : ℕ) → UsesIn a i → f i ≡ g i) →
    operand_value v f a ≡ operand_value w g a
operand_same (Constant n) v w f g names uses = refl
operand_same (Variable x) v w f g names uses = names x refl
operand_same (Value k) v w f g names uses = uses k refl
operand_same (Through h a) v w f g names uses = ap h (operand_same a v w f g names uses)

module _ (l : Loop) (p : LoopPlan) (it : Iterations)
    (goes_on : (n x : ℕ) → it.variables (suc n) x ≡ finished (operand_in l it n) l.block.finals (it.variables n) x) (base begun ph : ℕ) (q : Slot) (wire : ℕ →
    ℤ) (here : (x : ℕ) → q.variables x ≡ it.variables base x) where
  abbrev finals : List Final
  finals = l.block.finals

  -- the value of operation i of the iteration d behind the base is shown
  abbrev IsShown : ℕ → ℕ → Type 0
  IsShown d i = value_ahead l p begun ph q wire d i ≡ it.value (base + d) i

  -- what the operand is made of, in that iteration or earlier ones behind the base, is shown
  abbrev AreShown : ℕ → Operand → Type 0
  AreShown d a = (t i : ℕ) → t ≤ d → Comes finals t a i → IsShown (d - t) i

  -- the operand names the variable, so what this is made of makes the operand too
  through_name : (t : ℕ) (a : Operand) (y i : ℕ) → Names a y → Comes finals (suc t) (Variable y) i → Comes finals (suc t) a i
  through_name t a y i names c = (c.0, subst (Names a) c.1 names, c.2)

  -- one iteration back
  back_to : (t : ℕ) (a : Operand) (x i : ℕ) (o : Option Operand) → final_of finals x ≡ o → ComesFrom (Comes finals t) o x i →
      Comes finals (suc t) (Variable x) i
  back_to t a x i o e c = (x, refl, subst (λ (z : Option Operand). ComesFrom (Comes finals t) z x i) (sym e) c)

  later : (d t i : ℕ) → t ≤ d → IsShown (suc d - suc t) i → IsShown (d - t) i
  later d t i le s = let e : suc d - suc t ≡ d - t = omega arith in subst (λ (z : ℕ). IsShown z i) e s

  variables_right : (d x : ℕ) → AreShown d (Variable x) → variables_ahead l p begun ph q wire d x ≡ it.variables (base + d) x
  variables_right zero x shown = let e : base ≡ base + 0 = omega arith in here x ∙ ap (λ (n : ℕ). it.variables n x) e
  variables_right (suc d) x shown =
      finished_is (λ a. operand_value (variables_ahead l p begun ph q wire d) (value_ahead l p begun ph q wire d) a) finals
      (variables_ahead l p begun ph q wire d) x
      ∙ by_final (λ y. variables_right d y) (final_of finals x) refl
      ∙ sym (finished_is (operand_in l it (base + d)) finals (it.variables (base + d)) x) ∙ sym (goes_on (base + d) x) ∙ ap (λ (n : ℕ). it.variables n x) turned
    where
      turned : suc (base + d) ≡ base + suc d
      turned = omega arith

      by_final : ((y : ℕ) → AreShown d (Variable y) → variables_ahead l p begun ph q wire d y ≡ it.variables (base + d) y) → (o : Option Operand) →
          final_of finals x ≡ o →
          from_final (λ a. operand_value (variables_ahead l p begun ph q wire d) (value_ahead l p begun ph q wire d) a) o
          (variables_ahead l p begun ph q wire d x)
          ≡ from_final (operand_in l it (base + d)) o (it.variables (base + d) x)
      by_final rest None e = rest x (λ t i le c. later d t i le (shown (suc t) i (omega arith) (back_to t (Variable x) x i None e c)))
      by_final rest (Some a) e =
          operand_same a (variables_ahead l p begun ph q wire d) (it.variables (base + d)) (value_ahead l p begun ph q wire d) (it.value (base + d))
          (λ y names. rest y (λ t i le c. shown_through y names t i le c))
          (λ i uses. (let s = later d 0 i (omega arith) (shown 1 i (omega arith) (back_to 0 a x i (Some a) e uses)) in let z : d - 0 ≡ d = omega arith in subst
          (λ (m : ℕ). IsShown m i) z s))
        where
          shown_through : (y : ℕ) → Names a y → AreShown d (Variable y)
          shown_through y names zero i le c = absurd c
          shown_through y names (suc t) i le c = later d (suc t) i le
              (shown (suc (suc t)) i (omega arith) (back_to (suc t) a x i (Some a) e (through_name t a y i names c)))

  pub operand_right : (d : ℕ) (a : Operand) → AreShown d a → operand_ahead l p begun ph q wire d a ≡ operand_in l it (base + d) a
  operand_right d a shown =
      operand_same a (variables_ahead l p begun ph q wire d) (it.variables (base + d)) (value_ahead l p begun ph q wire d) (it.value (base + d))
      (λ y names. variables_right d y (λ t i le c. through y names t i le c)) (λ i uses. direct i uses)
    where
      through : (y : ℕ) → Names a y → AreShown d (Variable y)
      through y names zero i le c = absurd c
      through y names (suc t) i le c = shown (suc t) i le (through_name t a y i names c)

      direct : (i : ℕ) → UsesIn a i → value_ahead l p begun ph q wire d i ≡ it.value (base + d) i
      direct i uses = let z : d - 0 ≡ d = omega arith in subst (λ (m : ℕ). IsShown m i) z (shown 0 i (omega arith) uses)
