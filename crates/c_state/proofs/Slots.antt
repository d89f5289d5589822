-- A thread's calls among the thread ids.
use Rattle.std.proofs.Common.{◌≡◌, ℕ, zero, suc, ◌<◌, ◌≤◌, List, [], ◌∷◌, ap, sym, ◌∙◌, length, get_or, map, arith, Some, ℤ}
use Rattle.std.specs.Prelude.{slice_get, slice_set}
use Rattle.std.proofs.Math.Seq.{map-set_same}
use Rattle.std.proofs.lemmas.List.{map-set}
use Rattle.thread_semantics.specs.State.{Slot, State}
use Rattle.c_state.specs.declared.state.Slot.{Slot as SlotCode}
use Rattle.c_state.specs.View.{slot_of}

-- what an element stands for that is there
pub seen_at : {A B : Type 0} (f : A → B) (xs : List A) (k : ℕ) (x : A) → k < length xs → x ≡ get_or xs k x → slice_get (map f xs) k ≡ Some (f x)
seen_at f [] k x h e = absurd (omega arith)
seen_at f (y ∷ ys) zero x h e = ap (λ z. Some (f z)) (sym e)
seen_at f (y ∷ ys) (suc k) x h e = seen_at f ys k x (omega arith) e

pub not_seen : {A B : Type 0} (f : A → B) (xs : List A) (k : ℕ) (y : B) → length xs ≤ k → slice_get (map f xs) k ≡ Some y → ⊥
not_seen f [] k y h e = cc
not_seen f (x ∷ xs) zero y h e = absurd (omega arith)
not_seen f (x ∷ xs) (suc k) y h e = not_seen f xs k y (omega arith) e

module _ (slots : List SlotCode) (k : ℕ) (old new : SlotCode) (there : k < length slots) (is : old ≡ get_or slots k old) where
  pub slot_is : (before : Slot) → slice_get (map slot_of slots) k ≡ Some before → slot_of old ≡ before
  slot_is before seen =
      let q : Some (slot_of old) ≡ Some before = sym (seen_at slot_of slots k old there is) ∙ seen in cc

  pub slot_put : (before after : Slot) → slice_get (map slot_of slots) k ≡ Some before → (slot_of old ≡ before → slot_of new ≡ after) →
      map slot_of (slice_set slots k new) ≡ slice_set (map slot_of slots) k after
  slot_put before after seen f =
      map-set slot_of slots k new ∙ ap (slice_set (map slot_of slots) k) (f (slot_is before seen))

  pub slot_same : slot_of new ≡ slot_of old → map slot_of (slice_set slots k new) ≡ map slot_of slots
  slot_same e = map-set_same slot_of slots k new old (e ∙ ap slot_of is)

pub with_slots : (s : State) (a b : List Slot) → a ≡ b → record s { slots = a } ≡ record s { slots = b }
with_slots s a b e = ap (λ x. record s { slots = x }) e

pub with_both : (s : State) (g h : List (List ℤ)) (a b : List Slot) → g ≡ h → a ≡ b → record s { globals = g; slots = a } ≡ record s { globals = h; slots = b }
with_both s g h a b d e =
    ap (λ x. record s { globals = x; slots = a }) d ∙ ap (λ x. record s { globals = h; slots = x }) e
