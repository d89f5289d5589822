-- What accesses leave, and what they touch.
use Rattle.std.proofs.Common.{◌≡◌, List, [], ◌∷◌, ◌++◌, refl, ap, ◌∙◌, ⊎_elim, inl, inr}
use Rattle.std.specs.Prelude.{if◌then◌else◌, ◌⊎◌}
use Rattle.interleaving.specs.Memory.{Location, same_location, Memory, Access, Read, Write, reads_of, with_value, memory_after, Touches, Writes}
use Rattle.interleaving.proofs.Locations.{same_or_other, with_value-other}

module _ {Value : Type 0} where
  pub memory_after-agree : (es : List (Access Value)) (m n : Memory Value) (p : Location) → m p ≡ n p → memory_after es m p ≡ memory_after es n p
  memory_after-agree [] m n p e = e
  memory_after-agree (Read q ∷ es) m n p e = memory_after-agree es m n p e
  memory_after-agree (Write q v ∷ es) m n p e =
      memory_after-agree es (with_value m q v) (with_value n q v) p (ap (λ (k : Value). if same_location p q then v else k) e)

  pub memory_after-unwritten : (es : List (Access Value)) (m : Memory Value) (p : Location) → (Writes p es → ⊥) → memory_after es m p ≡ m p
  memory_after-unwritten [] m p away = refl
  memory_after-unwritten (Read q ∷ es) m p away = memory_after-unwritten es m p away
  memory_after-unwritten (Write q v ∷ es) m p away =
      memory_after-unwritten es (with_value m q v) p (λ w. away (inr w)) ∙ with_value-other m q p v (λ e. away (inl e))

  pub memory_after-append : (es fs : List (Access Value)) (m : Memory Value) → memory_after (es ++ fs) m ≡ memory_after fs (memory_after es m)
  memory_after-append [] fs m = refl
  memory_after-append (Read q ∷ es) fs m = memory_after-append es fs m
  memory_after-append (Write q v ∷ es) fs m = memory_after-append es fs (with_value m q v)

  pub touched : (es : List (Access Value)) (p : Location) → Writes p es → Touches p es
  touched [] p w = w
  touched (Read q ∷ es) p w = inr (touched es p w)
  touched (Write q v ∷ es) p (inl e) = inl e
  touched (Write q v ∷ es) p (inr w) = inr (touched es p w)

  pub touches_left : (es fs : List (Access Value)) (p : Location) → Touches p es → Touches p (es ++ fs)
  touches_left [] fs p t = absurd t
  touches_left (Read q ∷ es) fs p (inl e) = inl e
  touches_left (Read q ∷ es) fs p (inr t) = inr (touches_left es fs p t)
  touches_left (Write q v ∷ es) fs p (inl e) = inl e
  touches_left (Write q v ∷ es) fs p (inr t) = inr (touches_left es fs p t)

  pub touches_right : (es fs : List (Access Value)) (p : Location) → Touches p fs → Touches p (es ++ fs)
  touches_right [] fs p t = t
  touches_right (Read q ∷ es) fs p t = inr (touches_right es fs p t)
  touches_right (Write q v ∷ es) fs p t = inr (touches_right es fs p t)

  pub touches_either : (es fs : List (Access Value)) (p : Location) → Touches p (es ++ fs) → Touches p es ⊎ Touches p fs
  touches_either [] fs p t = inr t
  touches_either (Read q ∷ es) fs p (inl e) = inl (inl e)
  touches_either (Read q ∷ es) fs p (inr t) = ⊎_elim (λ l. inl (inr l)) (λ r. inr r) (touches_either es fs p t)
  touches_either (Write q v ∷ es) fs p (inl e) = inl (inl e)
  touches_either (Write q v ∷ es) fs p (inr t) = ⊎_elim (λ l. inl (inr l)) (λ r. inr r) (touches_either es fs p t)

  pub writes_left : (es fs : List (Access Value)) (p : Location) → Writes p es → Writes p (es ++ fs)
  writes_left [] fs p t = absurd t
  writes_left (Read q ∷ es) fs p t = writes_left es fs p t
  writes_left (Write q v ∷ es) fs p (inl e) = inl e
  writes_left (Write q v ∷ es) fs p (inr t) = inr (writes_left es fs p t)

  pub writes_right : (es fs : List (Access Value)) (p : Location) → Writes p fs → Writes p (es ++ fs)
  writes_right [] fs p t = t
  writes_right (Read q ∷ es) fs p t = writes_right es fs p t
  writes_right (Write q v ∷ es) fs p t = inr (writes_right es fs p t)

  pub writes_either : (es fs : List (Access Value)) (p : Location) → Writes p (es ++ fs) → Writes p es ⊎ Writes p fs
  writes_either [] fs p t = inr t
  writes_either (Read q ∷ es) fs p t = writes_either es fs p t
  writes_either (Write q v ∷ es) fs p (inl e) = inl (inl e)
  writes_either (Write q v ∷ es) fs p (inr t) = ⊎_elim (λ l. inl (inr l)) (λ r. inr r) (writes_either es fs p t)

  pub touches_or_not : (es : List (Access Value)) (p : Location) → Touches p es ⊎ (Touches p es → ⊥)
  touches_or_not [] p = inr (λ t. t)
  touches_or_not (Read q ∷ es) p =
      ⊎_elim
      (λ e. inl (inl e))
      (λ ne. ⊎_elim (λ t. inl (inr t)) (λ away. inr (λ t. ⊎_elim ne away t)) (touches_or_not es p))
      (same_or_other p q)
  touches_or_not (Write q v ∷ es) p =
      ⊎_elim
      (λ e. inl (inl e))
      (λ ne. ⊎_elim (λ t. inl (inr t)) (λ away. inr (λ t. ⊎_elim ne away t)) (touches_or_not es p))
      (same_or_other p q)

  pub writes_or_not : (es : List (Access Value)) (p : Location) → Writes p es ⊎ (Writes p es → ⊥)
  writes_or_not [] p = inr (λ t. t)
  writes_or_not (Read q ∷ es) p = writes_or_not es p
  writes_or_not (Write q v ∷ es) p =
      ⊎_elim
      (λ e. inl (inl e))
      (λ ne. ⊎_elim (λ t. inl (inr t)) (λ away. inr (λ t. ⊎_elim ne away t)) (writes_or_not es p))
      (same_or_other p q)

-- reads write nothing
pub reads_write_nothing : (Value : Type 0) (ps : List Location) (p : Location) → Writes {Value = Value} p (reads_of ps) → ⊥
reads_write_nothing Value [] p w = w
reads_write_nothing Value (q ∷ ps) p w = reads_write_nothing Value ps p w
