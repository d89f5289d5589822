-- A value of three parts or of four, each of which is read behind its box.
use Rattle.std.proofs.Common.{◌≡◌, sym, ap, ap₂, ◌∙◌}

module _ {A B : Type 0} (f : A → B) where
  pub three_boxed : (k : B → B → B → B) (x y z x2 y2 z2 : A) {s : B} → s ≡ k (f x) (f y) (f z) → x2 ≡ x → y2 ≡ y → z2 ≡ z → s ≡ k (f x2) (f y2) (f z2)
  three_boxed k x y z x2 y2 z2 e ex ey ez =
      e ∙ ap₂ (λ (a b : A). k (f a) (f b) (f z)) (sym ex) (sym ey) ∙ ap (λ (a : A). k (f x2) (f y2) (f a)) (sym ez)

  pub four_boxed : (k : B → B → B → B → B) (x y z u x2 y2 z2 u2 : A) {s : B} →
      s ≡ k (f x) (f y) (f z) (f u) → x2 ≡ x → y2 ≡ y → z2 ≡ z → u2 ≡ u → s ≡ k (f x2) (f y2) (f z2) (f u2)
  four_boxed k x y z u x2 y2 z2 u2 e ex ey ez eu =
      e ∙ ap₂ (λ (a b : A). k (f a) (f b) (f z) (f u)) (sym ex) (sym ey) ∙ ap₂ (λ (a b : A). k (f x2) (f y2) (f a) (f b)) (sym ez) (sym eu)

module _ {A C : Type 0} (g : A → A → A → A → C) where
  pub four_read : (x y z u x2 y2 z2 u2 : A) → x2 ≡ x → y2 ≡ y → z2 ≡ z → u2 ≡ u → g x2 y2 z2 u2 ≡ g x y z u
  four_read x y z u x2 y2 z2 u2 ex ey ez eu = ap₂ (λ (a b : A). g a b z2 u2) ex ey ∙ ap₂ (λ (a b : A). g x y a b) ez eu
