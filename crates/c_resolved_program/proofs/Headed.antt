-- The headers between two declarations at file scope: each has a name, and is what its declarations say of this name.
use Rattle.std.proofs.Common.{◌≡◌, refl, sym, ap, subst, ◌∙◌, inl, inr, ℕ, true, false, List, [], ◌∷◌, ◌++◌, length, Some, None}
use Rattle.std.specs.Prelude.{◌&&◌, codes, slice_get}
use Rattle.std.specs.Str.{bytes_eq}
use Rattle.std.proofs.lemmas.Bool.{and_parts}
use Rattle.lists.proofs.Places.{get_front, get_last, get_pushed}
use Rattle.c_rules.specs.declared.names.Meaning.{Meaning}
use Rattle.c_rules.specs.declared.names.Meaning.TheVariants as meaning
use Rattle.c_rules.specs.declared.names.DeclaredType.{DeclaredType}
use Rattle.c_rules.specs.declared.names.Header.{Header}
use Rattle.c_rules.specs.declared.names.Scope.{Scope}
use Rattle.c_rules.specs.Levels.{named_in, inserted}
use Rattle.c_rules.specs.Names.{is_int}
use Rattle.c_resolution.specs.Functions as y
use Rattle.c_resolved_program.specs.Orders.{IsFront}
use Rattle.c_resolved_program.proofs.GrownScope.{inserted_there, inserted_keeps, inserted_back, front_same, Grows}

-- what the header of a function of that name says, where the text defines these functions
pub record IsHeaderOf (D : List (List ℕ × ℕ)) (name : List ℕ) (h : Header) : Type 0 where
  pub definition : h.definition ≡ named_in D name
  pub main : h.is_main ≡ true → (is_int h.returns ≡ true) × (y.is_empty h.parameters ≡ true)
  pub listed : y.is_unlisted (y.gives_of h) ≡ false

pub record AreHeaders (D : List (List ℕ × ℕ)) (s : Scope) : Type 0 where
  pub named : (name : List ℕ) (n : ℕ) → named_in s.inner name ≡ Some (meaning.Function n) → (h : Header) × (slice_get s.headers n ≡ Some h) × IsHeaderOf D name h
  pub names : (n : ℕ) (h : Header) → slice_get s.headers n ≡ Some h → (name : List ℕ) × (named_in s.inner name ≡ Some (meaning.Function n))

-- ---- a function's number

abbrev number_of : Meaning → ℕ
number_of (meaning.Function n) = n
number_of other = 0

pub function_number : (a b : ℕ) → meaning.Function a ≡ meaning.Function b → a ≡ b
function_number a b h = ap number_of h

-- ---- what declarations leave of the headers

pub headers_same : (D : List (List ℕ × ℕ)) (s t : Scope) → AreHeaders D s → t.inner ≡ s.inner → t.headers ≡ s.headers → AreHeaders D t
headers_same D s t are inner headers = record {
  named = λ name n is.
      let known = are.named name n (ap (λ l. named_in l name) (sym inner) ∙ is) in
      (known.0, ap (λ l. slice_get l n) headers ∙ known.1, known.2);
  names = λ n h is.
      let known = are.names n h (ap (λ l. slice_get l n) (sym headers) ∙ is) in
      (known.0, ap (λ l. named_in l known.0) inner ∙ known.1);
}

-- a new name of an object
pub headers_beside : (D : List (List ℕ × ℕ)) (s t : Scope) (name : List ℕ) (m : Meaning) → AreHeaders D s → named_in s.inner name ≡ None →
    ((n : ℕ) → m ≡ meaning.Function n → ⊥) → t.inner ≡ inserted s.inner name m → t.headers ≡ s.headers → AreHeaders D t
headers_beside D s t name m are none other inner headers = record {
  named = λ key n is.
      elim (inserted_back s.inner name key m (meaning.Function n) (ap (λ l. named_in l key) (sym inner) ∙ is)) [
        | inl new ↦ absurd (other n new.1)
        | inr before ↦ let known = are.named key n before in (known.0, ap (λ l. slice_get l n) headers ∙ known.1, known.2)
      ];
  names = λ n h is.
      let known = are.names n h (ap (λ l. slice_get l n) (sym headers) ∙ is) in
      (known.0, ap (λ l. named_in l known.0) inner ∙ inserted_keeps s.inner name known.0 m (meaning.Function n) none known.1);
}

-- a new name of a function
pub headers_more : (D : List (List ℕ × ℕ)) (s t : Scope) (name : List ℕ) (h : Header) → AreHeaders D s → named_in s.inner name ≡ None → IsHeaderOf D name h →
    t.inner ≡ inserted s.inner name (meaning.Function (length s.headers)) → t.headers ≡ s.headers ++ h ∷ [] → AreHeaders D t
headers_more D s t name h are none is_of inner headers = record {
  named = λ key n is.
      elim (inserted_back s.inner name key (meaning.Function (length s.headers)) (meaning.Function n) (ap (λ l. named_in l key) (sym inner) ∙ is)) [
        | inl new ↦
            let place = function_number (length s.headers) n new.1 in (
              h,
              ap (λ l. slice_get l n) headers ∙ ap (λ k. slice_get (s.headers ++ h ∷ []) k) (sym place) ∙ get_last s.headers h,
              subst (λ key. IsHeaderOf D key h) (sym new.0) is_of,
            )
        | inr before ↦
            let known = are.named key n before in
            (known.0, ap (λ l. slice_get l n) headers ∙ get_front s.headers (h ∷ []) n known.0 known.1, known.2)
      ];
  names = λ n k is.
      elim (get_pushed s.headers h n k (ap (λ l. slice_get l n) (sym headers) ∙ is)) [
        | inl before ↦
            let known = are.names n k before in (
              known.0,
              ap (λ l. named_in l known.0) inner
                  ∙ inserted_keeps s.inner name known.0 (meaning.Function (length s.headers)) (meaning.Function n) none known.1,
            )
        | inr last ↦ (
          name,
          ap (λ l. named_in l name) inner ∙ inserted_there s.inner name (meaning.Function (length s.headers)) ∙ ap (λ k. Some (meaning.Function k)) (sym last.0),
        )
      ];
}

-- ---- what is named stays so

pub grows_same : (s t : Scope) → t.inner ≡ s.inner → t.headers ≡ s.headers → Grows s t
grows_same s t inner headers = record {
  names = λ name m is. ap (λ l. named_in l name) inner ∙ is;
  headers = subst (λ l. IsFront s.headers l) (sym headers) (front_same s.headers);
}

pub grows_beside : (s t : Scope) (name : List ℕ) (m : Meaning) → named_in s.inner name ≡ None → t.inner ≡ inserted s.inner name m → t.headers ≡ s.headers → Grows s t
grows_beside s t name m none inner headers = record {
  names = λ key k is. ap (λ l. named_in l key) inner ∙ inserted_keeps s.inner name key m k none is;
  headers = subst (λ l. IsFront s.headers l) (sym headers) (front_same s.headers);
}

pub grows_more : (s t : Scope) (name : List ℕ) (m : Meaning) (h : Header) → named_in s.inner name ≡ None → t.inner ≡ inserted s.inner name m →
    t.headers ≡ s.headers ++ h ∷ [] → Grows s t
grows_more s t name m h none inner headers = record {
  names = λ key k is. ap (λ l. named_in l key) inner ∙ inserted_keeps s.inner name key m k none is;
  headers = (h ∷ [], sym headers);
}

-- the header of a declaration
pub header_is : (s : Scope) (name : List ℕ) (returns : DeclaredType) (parameters : List DeclaredType) →
    y.is_unlisted (y.gives_of (y.header_by s name returns parameters)) ≡ false → IsHeaderOf s.definitions name (y.header_by s name returns parameters)
header_is s name returns parameters listed = record {
  definition = refl;
  main = λ is.
      let first = and_parts (bytes_eq name (codes "main") && is_int returns) (y.is_empty parameters) is in
      ((and_parts (bytes_eq name (codes "main")) (is_int returns) first.0).1, first.1);
  listed = listed;
}
