-- What the events of an operation touch.
use Rattle.std.specs.Prelude.{◌⊎◌, Bool, true, false, ◌||◌, ℤ}
use Rattle.std.proofs.Common.{inr, ◌≡◌, ℕ, refl, sym, ap, ◌∙◌, subst, inl}
use Rattle.std.proofs.Math.Bool.{or-true}
use Rattle.interleaving.specs.Memory.{Location, Touches, Writes, AreApart}
use Rattle.interleaving.specs.AnyOrder.{ReadEvent, WriteEvent, accesses_in}
use Rattle.interleaving.proofs.Accesses.{touched}
use Rattle.planned_block.specs.Block.{Kind, Simple, Multiply, Divide, BankRead, BankWrite, ArrayRead, ArrayWrite, element}
use Rattle.planned_block.specs.Plan.{OfGlobal, OfArray, target_of}
use Rattle.planned_block.specs.Run.{bank_access, array_access, bank_events, array_events}
use Rattle.planned_block.proofs.Sweep.{IsOne}

pub bank_one : (kind : Kind) (l r v : ℤ) → IsOne (bank_events kind l r v)
bank_one (Simple f) l r v = inl refl
bank_one (Multiply f) l r v = inl refl
bank_one (Divide f) l r v = inl refl
bank_one (BankRead x) l r v = inr (ReadEvent (element x l) v, refl)
bank_one (BankWrite x) l r v = inr (WriteEvent (element x l) r, refl)
bank_one (ArrayRead x) l r v = inl refl
bank_one (ArrayWrite x) l r v = inl refl

pub array_one : (kind : Kind) (l r v : ℤ) → IsOne (array_events kind l r v)
array_one (Simple f) l r v = inl refl
array_one (Multiply f) l r v = inl refl
array_one (Divide f) l r v = inl refl
array_one (BankRead x) l r v = inl refl
array_one (BankWrite x) l r v = inl refl
array_one (ArrayRead x) l r v = inr (ReadEvent (element x l) v, refl)
array_one (ArrayWrite x) l r v = inr (WriteEvent (element x l) r, refl)

pub bank_access-events : (kind : Kind) (l r v : ℤ) → bank_access kind l r ≡ accesses_in (bank_events kind l r v)
bank_access-events (Simple f) l r v = refl
bank_access-events (Multiply f) l r v = refl
bank_access-events (Divide f) l r v = refl
bank_access-events (BankRead x) l r v = refl
bank_access-events (BankWrite x) l r v = refl
bank_access-events (ArrayRead x) l r v = refl
bank_access-events (ArrayWrite x) l r v = refl

pub array_access-events : (kind : Kind) (l r v : ℤ) → array_access kind l r ≡ accesses_in (array_events kind l r v)
array_access-events (Simple f) l r v = refl
array_access-events (Multiply f) l r v = refl
array_access-events (Divide f) l r v = refl
array_access-events (BankRead x) l r v = refl
array_access-events (BankWrite x) l r v = refl
array_access-events (ArrayRead x) l r v = refl
array_access-events (ArrayWrite x) l r v = refl

is_of : (q : Location) (x : ℕ) (l : ℤ) → (q ≡ element x l) ⊎ ⊥ → q.object ≡ x
is_of q x l (inl e) = ap (λ (p : Location). p.object) e
is_of q x l (inr z) = absurd z

-- what a kind of operation touches is of the object that it names
pub bank_touches : (kind : Kind) (l r v : ℤ) (q : Location) → Touches q (accesses_in (bank_events kind l r v)) → (x : ℕ) × (w : Bool) × (target_of kind ≡ OfGlobal x w) × (q.object ≡ x)
bank_touches (Simple f) l r v q t = absurd t
bank_touches (Multiply f) l r v q t = absurd t
bank_touches (Divide f) l r v q t = absurd t
bank_touches (BankRead x) l r v q t = (x, false, refl, is_of q x l t)
bank_touches (BankWrite x) l r v q t = (x, true, refl, is_of q x l t)
bank_touches (ArrayRead x) l r v q t = absurd t
bank_touches (ArrayWrite x) l r v q t = absurd t

pub array_touches : (kind : Kind) (l r v : ℤ) (q : Location) → Touches q (accesses_in (array_events kind l r v)) → (x : ℕ) × (w : Bool) × (target_of kind ≡ OfArray x w) × (q.object ≡ x)
array_touches (Simple f) l r v q t = absurd t
array_touches (Multiply f) l r v q t = absurd t
array_touches (Divide f) l r v q t = absurd t
array_touches (BankRead x) l r v q t = absurd t
array_touches (BankWrite x) l r v q t = absurd t
array_touches (ArrayRead x) l r v q t = (x, false, refl, is_of q x l t)
array_touches (ArrayWrite x) l r v q t = (x, true, refl, is_of q x l t)

pub array_writes : (kind : Kind) (l r v : ℤ) (q : Location) → Writes q (accesses_in (array_events kind l r v)) → (x : ℕ) × (target_of kind ≡ OfArray x true) × (q.object ≡ x)
array_writes (Simple f) l r v q t = absurd t
array_writes (Multiply f) l r v q t = absurd t
array_writes (Divide f) l r v q t = absurd t
array_writes (BankRead x) l r v q t = absurd t
array_writes (BankWrite x) l r v q t = absurd t
array_writes (ArrayRead x) l r v q t = absurd t
array_writes (ArrayWrite x) l r v q t = (x, refl, is_of q x l t)

pub bank_apart : (j k : Kind) (l r v l' r' v' : ℤ) → ((x : ℕ) (a b : Bool) → target_of j ≡ OfGlobal x a → target_of k ≡ OfGlobal x b → ⊥) →
    AreApart (accesses_in (bank_events j l r v)) (accesses_in (bank_events k l' r' v'))
bank_apart j k l r v l' r' v' never = record {
  first = λ q w t. meet q (touched (accesses_in (bank_events j l r v)) q w) t;
  second =
      λ q t w. meet q t (touched (accesses_in (bank_events k l' r' v')) q w);
}
  where
    meet : (q : Location) → Touches q (accesses_in (bank_events j l r v)) → Touches q (accesses_in (bank_events k l' r' v')) → ⊥
    meet q t u =
        let a = bank_touches j l r v q t in
        let b = bank_touches k l' r' v' q u in
        never a.0 a.1 b.1 a.2 (subst (λ y. target_of k ≡ OfGlobal y b.1) (sym b.3 ∙ a.3) b.2)

pub array_apart : (j k : Kind) (l r v l' r' v' : ℤ) → ((x : ℕ) (a b : Bool) → target_of j ≡ OfArray x a → target_of k ≡ OfArray x b → (a || b) ≡ true → ⊥) →
    AreApart (accesses_in (array_events j l r v)) (accesses_in (array_events k l' r' v'))
array_apart j k l r v l' r' v' never = record {
  first = λ q w u.
      let a = array_writes j l r v q w in
      let b = array_touches k l' r' v' q u in
      never a.0 true b.1 a.1 (subst (λ y. target_of k ≡ OfArray y b.1) (sym b.3 ∙ a.2) b.2) refl;
  second = λ q t w.
      let a = array_touches j l r v q t in
      let b = array_writes k l' r' v' q w in
      never a.0 a.1 true a.2 (subst (λ y. target_of k ≡ OfArray y true) (sym b.2 ∙ a.3) b.1) (or-true a.1);
}
