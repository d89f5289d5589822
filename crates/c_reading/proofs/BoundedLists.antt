-- A rule up to a number of times.
use Rattle.std.proofs.Common.{◌≡◌, ℕ, zero, suc, ◌+◌, List, [], ◌∷◌, ◌++◌, Bool, true, false, refl, sym, ap, ◌∙◌, append_assoc, arith}
use Rattle.std.specs.Prelude.{Ok, Err, if◌then◌else◌, ◌||◌}
use Rattle.std.proofs.lemmas.List.{append-nil}
use Rattle.std.proofs.Math.Bool.{or-false}
use Rattle.c_token.specs.declared.token.Token.{Token}
use Rattle.grammar.specs.Rules.{Family}
use Rattle.grammar.specs.Readers as d
use Rattle.c_tree.specs.Expressions as g
use Rattle.c_reading.specs.Tokens as r
use Rattle.grammar.proofs.Good.{Reads}
use Rattle.grammar.proofs.Parts.{nowhere, reads_nothing, resize, same_reader, some_then, ends}
use Rattle.grammar.proofs.Choice.{either_in}

same_value : {A : Type 0} (y : d.Reading Token A) → d.and_then y (λ v. d.reads_pure v) ≡ y
same_value (Ok y) = refl
same_value (Err stop) = refl

module _ {D : ℕ → Type 0} {A : Type 0} {n : ℕ} {P : Family Token A} {q : ℕ → r.Reads A} {first : Token → Bool} (item : Reads D n P q first (λ v. nowhere) false) where
  -- read as the rule is put together
  abbrev read_up_to : ℕ → ℕ → r.Reads (List A)
  read_up_to zero room = d.reads_pure []
  read_up_to (suc most) room = d.reads_either first (d.reads_both (q room) (λ x. d.reads_both (read_up_to most room) (λ more. d.reads_pure (x ∷ more)))) (d.reads_pure [])

  abbrev begins_up_to : ℕ → Token → Bool
  begins_up_to zero x = false
  begins_up_to (suc most) x = first x || false

  up_to : (most : ℕ) → Reads D n (λ depth. g.at_most most (P depth)) (read_up_to most) (begins_up_to most) (λ vs. first) true
  up_to zero = resize (reads_nothing item.whole []) (begins_up_to 0) (λ vs. first) true (λ x. refl) (λ v x h. cc) refl
  up_to (suc most) =
      either_in
      (some_then {n = n} {m = n} (omega arith) item (λ x. ends (up_to most) (λ more. x ∷ more) (λ vs. first) (λ a y h. h)) (λ v x l h. cc) (λ vs. first) (λ b x h. h)
      (λ a depth at b x z h l. cc))
      (reads_nothing item.whole []) (λ x a b. cc) (λ vs. first) (λ v x h. h) (λ v x h. cc) (λ depth at v x z h l. l)

  -- ---- the loop reads so

  abbrev Joins : ℕ → Type 0
  Joins most = (found : List A) (room : ℕ) (ts : List Token)
      → d.reads_while (d.sees first) d.appended (q room) most found ts ≡ d.and_then (read_up_to most room ts) (λ vs. d.reads_pure (found ++ vs))

  one_before : (found : List A) (x : A) (y : d.Reading Token (List A))
      → d.and_then y (λ vs. d.reads_pure ((found ++ (x ∷ [])) ++ vs)) ≡ d.and_then (d.and_then y (λ more. d.reads_pure (x ∷ more))) (λ vs. d.reads_pure (found ++ vs))
  one_before found x (Ok y) = ap (λ l. Ok (l, y.1)) (append_assoc found (x ∷ []) y.0)
  one_before found x (Err stop) = refl

  joins_item : (most : ℕ) → Joins most → (found : List A) (room : ℕ) (x : d.Reading Token A)
      → d.and_then x (λ v. d.reads_while (d.sees first) d.appended (q room) most (d.appended found v))
      ≡ d.and_then (d.and_then x (λ v. d.reads_both (read_up_to most room) (λ more. d.reads_pure (v ∷ more)))) (λ vs. d.reads_pure (found ++ vs))
  joins_item most same found room (Ok x) = same (found ++ (x.0 ∷ [])) room x.1 ∙ one_before found x.0 (read_up_to most room x.1)
  joins_item most same found room (Err stop) = refl

  joins_turn : (most : ℕ) → Joins most → (found : List A) (room : ℕ) (ts : List Token) (b : Bool)
      → (if b then d.and_then (q room ts) (λ v. d.reads_while (d.sees first) d.appended (q room) most (d.appended found v)) else Ok (found, ts))
      ≡ d.and_then (if b then d.and_then (q room ts) (λ v. d.reads_both (read_up_to most room) (λ more. d.reads_pure (v ∷ more))) else Ok ([], ts)) (λ vs. d.reads_pure (found ++ vs))
  joins_turn most same found room ts true = joins_item most same found room (q room ts)
  joins_turn most same found room ts false = ap (λ l. Ok (l, ts)) (sym (append-nil found))

  joins : (most : ℕ) → Joins most
  unfolding d.reads_while
  joins zero found room ts = ap (λ l. Ok (l, ts)) (sym (append-nil found))
  joins (suc most) found room ts = joins_turn most (joins most) found room ts (d.sees first ts)

  -- a number of times that is above 0, as the loop reads them
  pub at_most : (most : ℕ) → Reads D n (λ depth. g.at_most (suc most) (P depth)) (λ room. r.read_at_most (suc most) first (q room)) first (λ vs. first) true
  unfolding r.read_at_most
  at_most most =
      resize
      (same_reader (up_to (suc most)) (λ room ts. d.reads_while (d.sees first) d.appended (q room) (suc most) [] ts)
      (λ room ts lt. sym (joins (suc most) [] room ts ∙ same_value (read_up_to (suc most) room ts))))
      first (λ vs. first) true (λ x. or-false (first x)) (λ v x h. h) refl
