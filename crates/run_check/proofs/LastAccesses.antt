-- The last accesses to the elements of globals, once one more is kept.
use Rattle.std.proofs.Common.{◌≡◌, ℕ, zero, suc, ◌<◌, List, [], ◌∷◌, length, get_or, refl, ap, ap₂, sym, ◌∙◌, subst, ⊎_elim, inl, inr, arith}
use Rattle.std.specs.Prelude.{◌⊎◌, true, false, Vec, Some, slice_get, slice_set, Contains}
use Rattle.std.specs.List.{AllByRecursion}
use Rattle.std.specs.declared.alloc.Global.{Global}
use Rattle.std.proofs.lemmas.Bool.{cases_eq}
use Rattle.lists.proofs.Places.{set_there, set_elsewhere}
use Rattle.thread_semantics.specs.Memory.{Location}
use Rattle.thread_semantics.specs.Races.{Touch}
use Rattle.race_check.specs.declared.access.Access.{Access}
use Rattle.race_check.specs.Access.{touch_of, touches_of}
use Rattle.run_check.specs.declared.clocks.Stamp.{Stamp}
use Rattle.run_check.specs.declared.elements.Element.{Element}
use Rattle.run_check.specs.Objects.{Elements, element_in, element_at, write_of, read_of, write_at, read_at}
use Rattle.run_check.specs.Marks.{IsElementMarked, IsOneMarked}
use Rattle.run_check.specs.Shadow.{IsMarked}

abbrev location : ℕ → ℕ → Location
location v i = record { variable = v; index = i }

-- one of a list of which each is so
pub one_of_all : {A : Type 0} (Is : A → Type 0) (xs : List A) (x : A) → AllByRecursion Is xs → Contains xs x → Is x
one_of_all Is xs x all c = go Is xs x all c.0 c.1 c.2
  where
    go : {A : Type 0} (Is : A → Type 0) (xs : List A) (x : A) → AllByRecursion Is xs → (k : ℕ) → k < length xs → get_or xs k x ≡ x → Is x
    go Is [] x all k lt e = absurd (omega arith)
    go Is (y ∷ xs) x all zero lt e = subst Is e all.0
    go Is (y ∷ xs) x all (suc k) lt e = go Is xs x all.1 k (omega arith) e

-- an element that is put in place of another one
module _ (rows : Elements) (g index : ℕ) (old new : Vec Element Global) (before behind : Element)
    (row_is : slice_get rows g ≡ Some old) (was : slice_get old.items index ≡ Some before) (is : new.items ≡ slice_set old.items index behind) where
  abbrev rows' : Elements
  rows' = slice_set rows g new

  row_now : slice_get rows' g ≡ Some new
  row_now = set_there rows g old new row_is

  element_now : slice_get new.items index ≡ Some behind
  element_now = ap (λ xs. slice_get xs index) is ∙ set_there old.items index before behind was

  put_element : (p : Location) →
      ((p.variable ≡ g) × (p.index ≡ index) × (element_at rows p ≡ Some before) × (element_at rows' p ≡ Some behind))
      ⊎ (element_at rows' p ≡ element_at rows p)
  put_element p =
      ⊎_elim
      (λ row_same.
      let here : element_at rows' p ≡ slice_get new.items p.index =
      ap (λ k. element_in (slice_get rows' k) p.index) row_same ∙ ap (λ o. element_in o p.index) row_now in
      let there : element_at rows p ≡ slice_get old.items p.index =
      ap (λ k. element_in (slice_get rows k) p.index) row_same ∙ ap (λ o. element_in o p.index) row_is in
      ⊎_elim
      (λ same. inl (
        row_same,
        same,
        there ∙ ap (slice_get old.items) same ∙ was,
        here ∙ ap (slice_get new.items) same ∙ element_now,
      ))
      (λ apart. inr (
      here ∙ ap (λ xs. slice_get xs p.index) is ∙ set_elsewhere old.items index p.index behind (λ e. apart (sym e)) ∙ sym there
      ))
      (cases_eq p.index index))
      (λ apart. inr (ap (λ o. element_in o p.index) (set_elsewhere rows g p.variable new (λ e. apart (sym e)))))
      (cases_eq p.variable g)

  pub one_marked : (t : Touch) (step : Stamp) → t.place.variable ≡ g → t.place.index ≡ index → IsElementMarked before behind t.written step →
      IsOneMarked rows rows' t step
  one_marked t step row_same index_same x = record {
    write = λ p.
        ⊎_elim
        (λ q. ⊎_elim (λ e. inl (ap write_of q.3 ∙ e ∙ ap write_of (sym q.2)))
        (λ e. inr (ap write_of q.3 ∙ e.0, same_place p q.0 q.1, e.1)) x.write)
        (λ q. inl (ap write_of q)) (put_element p);
    written = λ w. ap write_of now ∙ x.now_written w;
    read = λ p k.
        ⊎_elim
        (λ q. ⊎_elim (λ e. inl (ap (λ o. read_of o k) q.3 ∙ e ∙ ap (λ o. read_of o k) (sym q.2)))
        (λ e. inr (e.0, ap (λ o. read_of o k) q.3 ∙ e.1, same_place p q.0 q.1)) (x.read k))
        (λ q. inl (ap (λ o. read_of o k) q)) (put_element p);
    was_read = λ w. ap (λ o. read_of o step.thread) now ∙ x.now_read w;
  }
    where
      now : element_at rows' t.place ≡ Some behind
      now =
          ap (λ k. element_in (slice_get rows' k) t.place.index) row_same ∙ ap (λ o. element_in o t.place.index) row_now
          ∙ ap (slice_get new.items) index_same ∙ element_now

      same_place : (p : Location) → p.variable ≡ g → p.index ≡ index → t.place ≡ p
      same_place p a b =
          let v : t.place.variable ≡ p.variable = row_same ∙ sym a in
          let i : t.place.index ≡ p.index = index_same ∙ sym b in
          ap₂ (λ (v i : ℕ). location v i) v i

-- the first of a list of accesses, then the others
pub marks_none : (write : Location → Stamp) (read : Location → ℕ → ℕ) (step : Stamp) → IsMarked write write read read step []
marks_none write read step = record {
  write = λ p. inl refl;
  read = λ p k. inl refl;
  written = λ t c w. absurd (omega (arith, c.1));
  was_read = λ t c w. absurd (omega (arith, c.1));
}

in_rest : {A : Type 0} (x y : A) (xs : List A) → Contains xs y → Contains (x ∷ xs) y
in_rest x y xs c = (suc c.0, (let lt = c.1 in omega arith), c.2)

in_either : {A : Type 0} (x y : A) (xs : List A) → Contains (x ∷ xs) y → (x ≡ y) ⊎ Contains xs y
in_either x y xs c = go c.0 c.1 c.2
  where
    go : (k : ℕ) → k < length (x ∷ xs) → get_or (x ∷ xs) k y ≡ y → (x ≡ y) ⊎ Contains xs y
    go zero lt e = inl e
    go (suc k) lt e = inr (k, omega arith, e)

pub marks_more : (old mid new : Elements) (t : Touch) (ts : List Touch) (step : Stamp) → IsOneMarked old mid t step →
    IsMarked (write_at mid) (write_at new) (read_at mid) (read_at new) step ts →
    IsMarked (write_at old) (write_at new) (read_at old) (read_at new) step (t ∷ ts)
marks_more old mid new t ts step x y = record {
  write = λ p.
      ⊎_elim
      (λ q. ⊎_elim (λ e. inl (q ∙ e)) (λ e. inr (q ∙ e.0, t, (zero, omega arith, refl), e.1, e.2)) (x.write p))
      (λ q. inr (q.0, q.1, in_rest t q.1 ts q.2, q.3, q.4)) (y.write p);
  read = λ p k.
      ⊎_elim (λ q. ⊎_elim (λ e. inl (q ∙ e)) (λ e. inr (e.0, q ∙ e.1, t, (zero, omega arith, refl), e.2)) (x.read p k))
      (λ q. inr (q.0, q.1, q.2, in_rest t q.2 ts q.3, q.4)) (y.read p k);
  written = λ u c w.
      ⊎_elim
      (λ (same : t ≡ u). ⊎_elim (λ q. q ∙ first_write u same w) (λ q. q.0) (y.write u.place))
      (λ c. y.written u c w) (in_either t u ts c);
  was_read = λ u c w.
      ⊎_elim
      (λ (same : t ≡ u). ⊎_elim (λ q. q ∙ first_read u same w) (λ q. q.1) (y.read u.place step.thread))
      (λ c. y.was_read u c w) (in_either t u ts c);
}
  where
    first_write : (u : Touch) → t ≡ u → u.written ≡ true → write_at mid u.place ≡ step
    first_write u same w = subst (λ (v : Touch). write_at mid v.place ≡ step) same (x.written (ap (λ (v : Touch). v.written) same ∙ w))

    first_read : (u : Touch) → t ≡ u → u.written ≡ false → read_at mid u.place step.thread ≡ step.number
    first_read u same w = subst (λ (v : Touch). read_at mid v.place step.thread ≡ step.number) same (x.was_read (ap (λ (v : Touch). v.written) same ∙ w))

-- one of the rest of these accesses is one of them
pub in_others : (Is : Touch → Type 0) (first : Access) (rest all : List Access) → all ≡ first ∷ rest →
    (t : Touch) × Contains (touches_of rest) t × Is t → (t : Touch) × Contains (touches_of all) t × Is t
in_others Is first rest all e x =
    (x.0, subst (λ l. Contains (touches_of l) x.0) (sym e) (in_rest (touch_of first) x.0 (touches_of rest) x.1), x.2)
