-- The instances of cores have names of their own.
use Rattle.std.proofs.Common.{◌≡◌, ℕ, List, ◌∷◌, ◌++◌, get_or, refl, sym, ap, ◌∙◌, arith}
use Rattle.std.specs.Prelude.{slice_index, codes}
use Rattle.top_parts.specs.declared.layout.Core.{Core}
use Rattle.core_family.specs.Family.{CoreKind, Bank, Mutex, Barrier, ThreadIds, Printer}
use Rattle.core_tables.specs.Tables.{core_name, kinds_at, laid_core}
use Rattle.core_tables.specs.Laws.{SameOf, IsLow, CoresAreNamed}
use Rattle.core_tables.proofs.Lists.{map_back}
use Rattle.core_tables.proofs.Decimals.{numbered_tells}

first_is : (s : CoreKind) (n : ℕ) → slice_index (core_name s n) 0 ≡ 117
first_is (Bank s) n = refl
first_is (Mutex s) n = refl
first_is (Barrier s) n = refl
first_is (ThreadIds s) n = refl
first_is (Printer s) n = refl

-- the second byte tells the kind
other_second : (a b : ℕ) (xs ys : List ℕ) → get_or xs 1 0 ≡ a → get_or ys 1 0 ≡ b → (a ≡ b → ⊥) → xs ≡ ys → ⊥
other_second a b xs ys p q other e = other (sym p ∙ ap (λ (l : List ℕ). get_or l 1 0) e ∙ q)

name_tells : (s : CoreKind) (n : ℕ) (r : CoreKind) (k : ℕ) → IsLow s n → IsLow r k → core_name s n ≡ core_name r k → SameOf s n r k
name_tells (Bank s) n (Bank r) k l m e =
    let both = numbered_tells (codes "u_" ++ s.name) (codes "u_" ++ r.name) s.number r.number l m e in
    ((let q : 117 ∷ 95 ∷ s.name ≡ 117 ∷ 95 ∷ r.name = both.0 in let z : s.name ≡ r.name = cc in z), both.1)
name_tells (Bank s) n (Mutex r) k l m e = absurd (other_second 95 109 (core_name (Bank s) n) (core_name (Mutex r) k) refl refl (λ z. omega arith) e)
name_tells (Bank s) n (Barrier r) k l m e = absurd (other_second 95 98 (core_name (Bank s) n) (core_name (Barrier r) k) refl refl (λ z. omega arith) e)
name_tells (Bank s) n (ThreadIds r) k l m e = absurd (other_second 95 102 (core_name (Bank s) n) (core_name (ThreadIds r) k) refl refl (λ z. omega arith) e)
name_tells (Bank s) n (Printer r) k l m e = absurd (other_second 95 112 (core_name (Bank s) n) (core_name (Printer r) k) refl refl (λ z. omega arith) e)
name_tells (Mutex s) n (Bank r) k l m e = absurd (other_second 109 95 (core_name (Mutex s) n) (core_name (Bank r) k) refl refl (λ z. omega arith) e)
name_tells (Mutex s) n (Mutex r) k l m e = (numbered_tells (codes "umutex") (codes "umutex") n k l m e).1
name_tells (Mutex s) n (Barrier r) k l m e = absurd (other_second 109 98 (core_name (Mutex s) n) (core_name (Barrier r) k) refl refl (λ z. omega arith) e)
name_tells (Mutex s) n (ThreadIds r) k l m e = absurd (other_second 109 102 (core_name (Mutex s) n) (core_name (ThreadIds r) k) refl refl (λ z. omega arith) e)
name_tells (Mutex s) n (Printer r) k l m e = absurd (other_second 109 112 (core_name (Mutex s) n) (core_name (Printer r) k) refl refl (λ z. omega arith) e)
name_tells (Barrier s) n (Bank r) k l m e = absurd (other_second 98 95 (core_name (Barrier s) n) (core_name (Bank r) k) refl refl (λ z. omega arith) e)
name_tells (Barrier s) n (Mutex r) k l m e = absurd (other_second 98 109 (core_name (Barrier s) n) (core_name (Mutex r) k) refl refl (λ z. omega arith) e)
name_tells (Barrier s) n (Barrier r) k l m e = (numbered_tells (codes "ubarrier") (codes "ubarrier") n k l m e).1
name_tells (Barrier s) n (ThreadIds r) k l m e = absurd (other_second 98 102 (core_name (Barrier s) n) (core_name (ThreadIds r) k) refl refl (λ z. omega arith) e)
name_tells (Barrier s) n (Printer r) k l m e = absurd (other_second 98 112 (core_name (Barrier s) n) (core_name (Printer r) k) refl refl (λ z. omega arith) e)
name_tells (ThreadIds s) n (Bank r) k l m e = absurd (other_second 102 95 (core_name (ThreadIds s) n) (core_name (Bank r) k) refl refl (λ z. omega arith) e)
name_tells (ThreadIds s) n (Mutex r) k l m e = absurd (other_second 102 109 (core_name (ThreadIds s) n) (core_name (Mutex r) k) refl refl (λ z. omega arith) e)
name_tells (ThreadIds s) n (Barrier r) k l m e = absurd (other_second 102 98 (core_name (ThreadIds s) n) (core_name (Barrier r) k) refl refl (λ z. omega arith) e)
name_tells (ThreadIds s) n (ThreadIds r) k l m e = tt
name_tells (ThreadIds s) n (Printer r) k l m e = absurd (other_second 102 112 (core_name (ThreadIds s) n) (core_name (Printer r) k) refl refl (λ z. omega arith) e)
name_tells (Printer s) n (Bank r) k l m e = absurd (other_second 112 95 (core_name (Printer s) n) (core_name (Bank r) k) refl refl (λ z. omega arith) e)
name_tells (Printer s) n (Mutex r) k l m e = absurd (other_second 112 109 (core_name (Printer s) n) (core_name (Mutex r) k) refl refl (λ z. omega arith) e)
name_tells (Printer s) n (Barrier r) k l m e = absurd (other_second 112 98 (core_name (Printer s) n) (core_name (Barrier r) k) refl refl (λ z. omega arith) e)
name_tells (Printer s) n (ThreadIds r) k l m e = absurd (other_second 112 102 (core_name (Printer s) n) (core_name (ThreadIds r) k) refl refl (λ z. omega arith) e)
name_tells (Printer s) n (Printer r) k l m e = tt

pub cores_are_named : CoresAreNamed
cores_are_named t stands = record {
  begin = λ k c e.
      let b = map_back (laid_core (kinds_at t)) t.cores k c e in
      ap (λ (z : Core). slice_index z.name 0) b.2 ∙ first_is b.0.kind b.0.number;
  apart = λ k l c d e f same.
      let a = map_back (laid_core (kinds_at t)) t.cores k c e in
      let b = map_back (laid_core (kinds_at t)) t.cores l d f in
      let names : core_name a.0.kind a.0.number ≡ core_name b.0.kind b.0.number =
      sym (ap (λ (z : Core). z.name) a.2) ∙ same ∙ ap (λ (z : Core). z.name) b.2 in
      stands.once k l a.0 b.0 a.1 b.1 (name_tells a.0.kind a.0.number b.0.kind b.0.number (stands.low k a.0 a.1) (stands.low l b.0 b.1) names);
}
