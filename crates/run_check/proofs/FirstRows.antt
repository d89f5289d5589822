-- What is kept before the first step.
use Rattle.std.proofs.Common.{◌≡◌, ℕ, zero, suc, List, [], ◌∷◌, ◌++◌, replicate, refl, ap, ◌∙◌, ⊎_elim, inl, inr}
use Rattle.std.specs.Prelude.{◌⊎◌, Vec, Some, slice_get, slice_index}
use Rattle.std.specs.declared.alloc.Global.{Global}
use Rattle.thread_semantics.specs.Memory.{Location}
use Rattle.run_check.specs.declared.clocks.Stamp.{Stamp}
use Rattle.run_check.specs.declared.elements.Element.{Element}
use Rattle.run_check.specs.Objects.{Elements, element_in, stamp_at, write_of, read_of, write_at, read_at, IsFirstRow}

get_end : {A : Type 0} (xs : List A) (x : A) (n : ℕ) → (slice_get (xs ++ x ∷ []) n ≡ slice_get xs n) ⊎ (slice_get (xs ++ x ∷ []) n ≡ Some x)
get_end [] x zero = inr refl
get_end [] x (suc n) = inl refl
get_end (y ∷ xs) x zero = inl refl
get_end (y ∷ xs) x (suc n) = get_end xs x n

pub first_none : IsFirstRow []
first_none = record { write = λ n. refl; read = λ n k. refl }

pub first_more : (row : List Element) (e : Element) → IsFirstRow row → e.write.number ≡ 0 → ((k : ℕ) → slice_index e.reads.items k ≡ 0) →
    IsFirstRow (row ++ e ∷ [])
first_more row e x write reads = record {
  write = λ n.
      ⊎_elim (λ q. ap (λ o. (write_of o).number) q ∙ x.write n) (λ q. ap (λ o. (write_of o).number) q ∙ write) (get_end row e n);
  read = λ n k. ⊎_elim (λ q. ap (λ o. read_of o k) q ∙ x.read n k) (λ q. ap (λ o. read_of o k) q ∙ reads k) (get_end row e n);
}

-- no step has made an access to an element
pub record IsFirstRows (rows : Elements) : Type 0 where
  pub write : (p : Location) → (write_at rows p).number ≡ 0
  pub read : (p : Location) (k : ℕ) → read_at rows p k ≡ 0

pub rows_none : IsFirstRows []
rows_none = record { write = λ p. refl; read = λ p k. refl }

pub rows_more : (rows : Elements) (row : Vec Element Global) → IsFirstRows rows → IsFirstRow row.items → IsFirstRows (rows ++ row ∷ [])
rows_more rows row x y = record {
  write = λ p.
      ⊎_elim (λ q. ap (λ o. (write_of (element_in o p.index)).number) q ∙ x.write p)
      (λ q. ap (λ o. (write_of (element_in o p.index)).number) q ∙ y.write p.index) (get_end rows row p.variable);
  read = λ p k.
      ⊎_elim (λ q. ap (λ o. read_of (element_in o p.index) k) q ∙ x.read p k)
      (λ q. ap (λ o. read_of (element_in o p.index) k) q ∙ y.read p.index k) (get_end rows row p.variable);
}

pub no_acts : (n x : ℕ) (none : Stamp) → none.number ≡ 0 → (stamp_at (replicate n none) x).number ≡ 0
no_acts zero x none e = refl
no_acts (suc n) zero none e = e
no_acts (suc n) (suc x) none e = no_acts n x none e
