-- Lists of accesses that are apart.
use Rattle.std.proofs.Common.{◌≡◌, List, [], ◌∷◌, ◌++◌, refl, sym, ◌∙◌, subst, ⊎_elim, inl, inr, append-nil}
use Rattle.std.specs.Prelude.{◌⊎◌}
use Rattle.interleaving.specs.Memory.{Location, Memory, Access, Read, Write, memory_after, Touches, Writes, Conflict, AreApart, AgreeOn}
use Rattle.interleaving.proofs.Accesses.{memory_after-agree, memory_after-unwritten, touched}
use Rattle.interleaving.proofs.Accesses.{touches_either, writes_either, touches_or_not, writes_or_not}

module _ {Value : Type 0} where
  pub apart_or_not : (es fs : List (Access Value)) → Conflict es fs ⊎ AreApart es fs
  apart_or_not [] fs = inr (record { first = λ p w t. w; second = λ p t w. t })
  apart_or_not (Read q ∷ es) fs =
      ⊎_elim
      (λ c. inl (c.0, ⊎_elim (λ l. inl l) (λ r. inr (inr r.0, r.1)) c.1))
      (λ a.
      ⊎_elim
      (λ w. inl (q, inr (inl refl, w)))
      (λ away. inr (record { first = a.first; second = λ p t w. ⊎_elim (λ e. away (subst (λ x. Writes x fs) e w)) (λ t'. a.second p t' w) t }))
      (writes_or_not fs q))
      (apart_or_not es fs)
  apart_or_not (Write q v ∷ es) fs =
      ⊎_elim
      (λ c. inl (c.0, ⊎_elim (λ l. inl (inr l.0, l.1)) (λ r. inr (inr r.0, r.1)) c.1))
      (λ a.
      ⊎_elim
      (λ t. inl (q, inl (inl refl, t)))
      (λ away. inr (record {
        first = λ p w t. ⊎_elim (λ e. away (subst (λ x. Touches x fs) e t)) (λ w'. a.first p w' t) w;
        second = λ p t w. ⊎_elim (λ e. away (touched fs q (subst (λ x. Writes x fs) e w))) (λ t'. a.second p t' w) t;
      }))
      (touches_or_not fs q))
      (apart_or_not es fs)

  pub apart_swap : (es fs : List (Access Value)) → AreApart es fs → AreApart fs es
  apart_swap es fs a = record { first = λ p w t. a.second p t w; second = λ p t w. a.first p w t }

  -- what is apart from the writes of es is left as it was
  pub memory_after-apart : (es fs : List (Access Value)) (m : Memory Value) → AreApart es fs → AgreeOn fs m (memory_after es m)
  memory_after-apart es fs m a p t = sym (memory_after-unwritten es m p (λ w. a.first p w t))

  pub apart_ones : (es fs : List (Access Value)) → AreApart es fs → AreApart (es ++ []) (fs ++ [])
  apart_ones es fs a = subst (λ x. AreApart x (fs ++ [])) (sym (append-nil es)) (subst (λ x. AreApart es x) (sym (append-nil fs)) a)

  pub apart_join : (es fs gs : List (Access Value)) → AreApart es fs → AreApart es gs → AreApart es (fs ++ gs)
  apart_join es fs gs a b = record {
    first = λ p w t. ⊎_elim (a.first p w) (b.first p w) (touches_either fs gs p t);
    second = λ p t w. ⊎_elim (a.second p t) (b.second p t) (writes_either fs gs p w);
  }

  -- accesses that are apart may be made in either order
  pub memory_after-commute : (es fs : List (Access Value)) (m : Memory Value) (p : Location) → AreApart es fs → memory_after fs (memory_after es m) p ≡ memory_after es (memory_after fs m) p
  memory_after-commute es fs m p a =
      ⊎_elim
      (λ w. memory_after-unwritten fs (memory_after es m) p (λ v. a.first p w (touched fs p v))
      ∙ memory_after-agree es m (memory_after fs m) p (sym (memory_after-unwritten fs m p (λ v. a.first p w (touched fs p v)))))
      (λ away. memory_after-agree fs (memory_after es m) m p (memory_after-unwritten es m p away) ∙ sym (memory_after-unwritten es (memory_after fs m) p away))
      (writes_or_not es p)
