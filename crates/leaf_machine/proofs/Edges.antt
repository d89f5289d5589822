-- What an edge leaves depends on the signals that statements read, and fits.
use Rattle.std.proofs.Common.{◌≡◌, ℕ, ◌<◌, nat_eq, nat_lt, if◌then◌else◌, List, [], ◌∷◌, refl, ap, ◌∙◌}
use Rattle.std.specs.Prelude.{◌&&◌}
use Rattle.netlist.specs.declared.netlist.Effect.{Effect}
use Rattle.netlist.specs.declared.netlist.Effect.TheVariants.{Set, Store, Write}
use Rattle.netlist.specs.declared.netlist.Action.{Action}
use Rattle.netlist.specs.declared.netlist.Module.{Module}
use Rattle.verilog_meaning.specs.Readings.{Reading, is_on, set_by, stored_by, register_after, word_after, next_reading}
use Rattle.circuit.specs.Rows.{EachOf}
use Rattle.circuit.specs.Modules.{Agree, Has, FitsEffect, FitsAction}
use Rattle.leaf_machine.specs.Settled.{effect_operands, IsUnclocked}

-- two readings agree at all signals but the clock
module _ (m : Module) (r q : Reading) (same : (x w : ℕ) → Has m x w → 0 < x → r.signal x ≡ q.signal x) where
  on_same : (xs : List ℕ) → EachOf (λ x. Has m x 1) xs → EachOf (λ x. 0 < x) xs → is_on r xs ≡ is_on q xs
  on_same [] f l = refl
  on_same (x ∷ xs) f l =
      ap (λ n. nat_lt 0 n && is_on r xs) (same x 1 f.0 l.0)
      ∙ ap (λ b. nat_lt 0 (q.signal x) && b) (on_same xs f.1 l.1)

  set_same : (e : Effect) → FitsEffect m e → EachOf (λ x. 0 < x) (effect_operands e) → (k old : ℕ) → set_by r e k old ≡ set_by q e k old
  set_same (Set x y) f l k old = ap (λ n. if nat_eq x k then n else old) (same y f.0 f.2 l.0)
  set_same (Store j x y) f l k old = refl
  set_same (Write text arguments) f l k old = refl

  register_same : (actions : List Action) → EachOf (FitsAction m) actions → EachOf IsUnclocked actions → (k old : ℕ) → register_after r actions k old ≡ register_after q actions k old
  register_same [] f l k old = refl
  register_same (a ∷ actions) f l k old =
      register_same actions f.1 l.1 k (if is_on r a.conditions then set_by r a.effect k old else old)
      ∙ ap (λ b. register_after q actions k (if b then set_by r a.effect k old else old)) (on_same a.conditions f.0.0 l.0.0)
      ∙ ap (λ n. register_after q actions k (if is_on q a.conditions then n else old)) (set_same a.effect f.0.1 l.0.1 k old)

  store_same : (e : Effect) → FitsEffect m e → EachOf (λ x. 0 < x) (effect_operands e) → (j k old : ℕ) → stored_by r e j k old ≡ stored_by q e j k old
  store_same (Set x y) f l j k old = refl
  store_same (Store i x y) f l j k old =
      ap (λ n. if nat_eq i j && nat_eq n k then r.signal y else old) (same x f.3.0 f.3.1 l.0)
      ∙ ap (λ n. if nat_eq i j && nat_eq (q.signal x) k then n else old) (same y f.0.width f.2 l.1.0)
  store_same (Write text arguments) f l j k old = refl

  word_same : (actions : List Action) → EachOf (FitsAction m) actions → EachOf IsUnclocked actions → (j k old : ℕ) → word_after r actions j k old ≡ word_after q actions j k old
  word_same [] f l j k old = refl
  word_same (a ∷ actions) f l j k old =
      word_same actions f.1 l.1 j k (if is_on r a.conditions then stored_by r a.effect j k old else old)
      ∙ ap (λ b. word_after q actions j k (if b then stored_by r a.effect j k old else old)) (on_same a.conditions f.0.0 l.0.0)
      ∙ ap (λ n. word_after q actions j k (if is_on q a.conditions then n else old)) (store_same a.effect f.0.1 l.0.1 j k old)

  pub next_agrees : Agree m r q → EachOf (FitsAction m) m.actions → EachOf IsUnclocked m.actions → Agree m (next_reading m r) (next_reading m q)
  next_agrees agree f l = record {
    registers = λ x s e i. register_same m.actions f l x (r.signal x) ∙ ap (register_after q m.actions x) (agree.registers x s e i);
    words = λ j k s e b. word_same m.actions f l j k (r.word j k) ∙ ap (word_after q m.actions j k) (agree.words j k s e b);
  }
