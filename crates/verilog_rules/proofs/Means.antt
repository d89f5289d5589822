-- What tokens a phrase has: both ways, without their nesting.
use Rattle.std.proofs.Common.{◌≡◌, ℕ, ◌+◌, List, [], ◌∷◌, ◌++◌, Option, Some, Bool, true, false, refl, sym, ap, ◌∙◌, ◌⊎◌, inl, inr, ⊎_elim}
use Rattle.std.proofs.lemmas.Option.{same_Some}
use Rattle.verilog_tree.specs.declared.token.Mark.{Mark}
use Rattle.verilog_tree.specs.declared.token.Mark.TheVariants as m
use Rattle.verilog_tree.specs.declared.token.Token.{Token}
use Rattle.verilog_tree.specs.declared.token.Token.TheVariants as t
use Rattle.verilog_tree.specs.declared.tree.BinaryOperator.{BinaryOperator}
use Rattle.verilog_tree.specs.declared.tree.BinaryOperator.TheVariants as op
use Rattle.verilog_tree.specs.declared.tree.DivisionOperator.{DivisionOperator}
use Rattle.verilog_tree.specs.declared.tree.DivisionOperator.TheVariants as division
use Rattle.verilog_tree.specs.Grammar.{Tokens, operator_mark, division_mark}
use Rattle.grammar.specs.Rules.{Placed, pure, one, ◌>>=◌, ◌>>◌, ◌<|>◌, many}
use Rattle.grammar.specs.Sentences.{plain}
use Rattle.grammar.proofs.Lists.{plain-append}
use Rattle.verilog_rules.specs.declared.sign.Sign.{Sign}
use Rattle.verilog_rules.specs.Signs.{is, given_if, sign_at, name_at, number_at, quoted_at, operator_of, operator_at, division_of, division_at}
use Rattle.verilog_rules.specs.Phrases.{Phrase, sign, name, number}
use Rattle.verilog_rules.proofs.Singles.{token_of, token_is, sign_gives}

-- which tokens spell which value
abbrev pub Spelling : Type 0 → Type 1
Spelling A = Tokens → A → Type 0

pub record Means {A : Type 0} (P : Phrase A) (R : Spelling A) : Type 0 where
  pub to : (at : ℕ) (ts : List (Placed Token)) (v : A) → P at ts v → R (plain ts) v
  pub from : (at : ℕ) (z : Tokens) (v : A) → R z v → (ts : List (Placed Token)) × (plain ts ≡ z) × P at ts v

-- ---- spellings put together as phrases are

abbrev pub Then : {A B : Type 0} → Spelling A → (A → Spelling B) → Spelling B
Then {A = A} R S z v = (a : A) × (x y : Tokens) × (z ≡ x ++ y) × R x a × S a y v

-- a token, and what stands behind it
abbrev pub After : {B : Type 0} → Token → Spelling B → Spelling B
After t S z v = (y : Tokens) × (z ≡ t ∷ y) × S y v

abbrev pub AfterOne : {A B : Type 0} → (A → Token) → (A → Spelling B) → Spelling B
AfterOne {A = A} f S z v = (a : A) × (y : Tokens) × (z ≡ f a ∷ y) × S a y v

abbrev pub Nothing : {A : Type 0} → A → Spelling A
Nothing a z v = (z ≡ []) × (v ≡ a)

abbrev pub Either : {A : Type 0} → Spelling A → Spelling A → Spelling A
Either R S z v = R z v ⊎ S z v

abbrev pub Many : {A : Type 0} → Spelling A → Spelling (List A)
Many R z [] = z ≡ []
Many R z (v ∷ vs) = (x y : Tokens) × (z ≡ x ++ y) × R x v × Many R y vs

-- an equal spelling
pub same_means : {A : Type 0} {P : Phrase A} {R S : Spelling A} → Means P R → ((z : Tokens) (v : A) → R z v → S z v) → ((z : Tokens) (v : A) → S z v → R z v) → Means P S
same_means good there back = record { to = λ at ts v h. there (plain ts) v (good.to at ts v h); from = λ at z v h. good.from at z v (back z v h) }

pub pure_means : {A : Type 0} (a : A) → Means (pure a) (Nothing a)
pure_means a = record { to = λ at ts v h. (ap plain h.0, h.1); from = λ at z v h. ([], sym h.0, (refl, h.1)) }

pub then_means : {A B : Type 0} {P : Phrase A} {Q : A → Phrase B} {R : Spelling A} {S : A → Spelling B} → Means P R → ((a : A) → Means (Q a) (S a)) → Means (P >>= Q) (Then R S)
then_means before after = record {
  to = λ at ts v h. (h.0, plain h.1, plain h.2, ap plain h.3 ∙ plain-append h.1 h.2, before.to at h.1 h.0 h.4, (after h.0).to at h.2 v h.5);
  from = λ at z v h.
      let front = before.from at h.1 h.0 h.4 in
      let back = (after h.0).from at h.2 v h.5 in
      (front.0 ++ back.0, plain-append front.0 back.0 ∙ ap (λ l. l ++ plain back.0) front.1 ∙ ap (λ l. h.1 ++ l) back.1 ∙ sym h.3, (h.0, front.0, back.0, refl, front.2, back.2));
}

pub either_means : {A : Type 0} {P Q : Phrase A} {R S : Spelling A} → Means P R → Means Q S → Means (P <|> Q) (Either R S)
either_means left right = record {
  to = λ at ts v h. ⊎_elim (λ k. inl (left.to at ts v k)) (λ k. inr (right.to at ts v k)) h;
  from = λ at z v h. ⊎_elim (λ k. let got = left.from at z v k in (got.0, got.1, inl got.2)) (λ k. let got = right.from at z v k in (got.0, got.1, inr got.2)) h;
}

module _ {A : Type 0} {P : Phrase A} {R : Spelling A} (good : Means P R) where
  many_to : (at : ℕ) (ts : List (Placed Token)) (vs : List A) → many P at ts vs → Many R (plain ts) vs
  many_to at ts [] h = ap plain h
  many_to at ts (v ∷ vs) h = (plain h.0, plain h.1, ap plain h.2 ∙ plain-append h.0 h.1, good.to at h.0 v h.3, many_to at h.1 vs h.4)

  many_from : (at : ℕ) (z : Tokens) (vs : List A) → Many R z vs → (ts : List (Placed Token)) × (plain ts ≡ z) × many P at ts vs
  many_from at z [] h = ([], sym h, refl)
  many_from at z (v ∷ vs) h =
      let front = good.from at h.0 v h.3 in
      let back = many_from at h.1 vs h.4 in
      (front.0 ++ back.0, plain-append front.0 back.0 ∙ ap (λ l. l ++ plain back.0) front.1 ∙ ap (λ l. h.0 ++ l) back.1 ∙ sym h.2, (front.0, back.0, refl, front.2, back.2))

  pub many_means : Means (many P) (Many R)
  many_means = record { to = many_to; from = many_from }

-- ---- one token

module _ {A B : Type 0} (f : Token → Option A) (g : A → Token) (there : (x : Token) (a : A) → f x ≡ Some a → x ≡ g a) (back : (a : A) → f (g a) ≡ Some a)
    {Q : A → Phrase B} {S : A → Spelling B} (after : (a : A) → Means (Q a) (S a)) where
  pub one_means : Means (one f >>= Q) (AfterOne g S)
  one_means = record {
    to = λ at ts v h.
        let front : plain h.1 ≡ g h.0 ∷ [] = ap plain h.4.1 ∙ ap (λ x. x ∷ []) (there h.4.0 h.0 h.4.2) in
        (h.0, plain h.2, ap plain h.3 ∙ plain-append h.1 h.2 ∙ ap (λ l. l ++ plain h.2) front, (after h.0).to at h.2 v h.5);
    from = λ at z v h.
        let rest = (after h.0).from at h.1 v h.3 in
        ((g h.0, at) ∷ rest.0, ap (λ l. g h.0 ∷ l) rest.1 ∙ sym h.2, (h.0, (g h.0, at) ∷ [], rest.0, refl, (g h.0, refl, back h.0), rest.2));
  }

given_sign : (b : Bool) (u : Unit {0}) → given_if b ≡ Some u → b ≡ true
given_sign true u e = refl
given_sign false u e = cc

pub sign_means : {B : Type 0} (q : Sign) {Q : Phrase B} {S : Spelling B} → Means Q S → Means (sign q >> Q) (After (token_of q) S)
sign_means q after =
    same_means (one_means (sign_at q) (λ u. token_of q) (λ x u h. token_is q x (given_sign (is q x) u h)) (λ u. sign_gives q) (λ u. after)) (λ z v h. (h.1, h.2, h.3))
    (λ z v h. (tt, h.0, h.1, h.2))

-- a sign at the end of a phrase
pub sign_last : (q : Sign) → Means (sign q) (λ z u. z ≡ token_of q ∷ [])
sign_last q = record {
  to = λ at ts u h. ap plain h.1 ∙ ap (λ x. x ∷ []) (token_is q h.0 (given_sign (is q h.0) u h.2));
  from = λ at z u h. ((token_of q, at) ∷ [], sym h, (token_of q, refl, sign_gives q));
}

pub name_token : (x : Token) (n : List ℕ) → name_at x ≡ Some n → x ≡ t.Name n
name_token (t.Name k) n h = cc
name_token (t.Word y) n h = cc
name_token (t.Mark y) n h = cc
name_token (t.Number k) n h = cc
name_token (t.Quoted k) n h = cc

pub name_means : {B : Type 0} {Q : List ℕ → Phrase B} {S : List ℕ → Spelling B} → ((a : List ℕ) → Means (Q a) (S a)) → Means (name >>= Q) (AfterOne t.Name S)
name_means after = one_means name_at t.Name name_token (λ a. refl) after

number_token : (x : Token) (n : ℕ) → number_at x ≡ Some n → x ≡ t.Number n
number_token (t.Name k) n h = cc
number_token (t.Word y) n h = cc
number_token (t.Mark y) n h = cc
number_token (t.Number k) n h = cc
number_token (t.Quoted k) n h = cc

pub number_means : {B : Type 0} {Q : ℕ → Phrase B} {S : ℕ → Spelling B} → ((a : ℕ) → Means (Q a) (S a)) → Means (number >>= Q) (AfterOne t.Number S)
number_means after = one_means number_at t.Number number_token (λ a. refl) after

quoted_token : (x : Token) (n : List ℕ) → quoted_at x ≡ Some n → x ≡ t.Quoted n
quoted_token (t.Name k) n h = cc
quoted_token (t.Word y) n h = cc
quoted_token (t.Mark y) n h = cc
quoted_token (t.Number k) n h = cc
quoted_token (t.Quoted k) n h = cc

pub quoted_means : {B : Type 0} {Q : List ℕ → Phrase B} {S : List ℕ → Spelling B} → ((a : List ℕ) → Means (Q a) (S a)) → Means (one quoted_at >>= Q) (AfterOne t.Quoted S)
quoted_means after = one_means quoted_at t.Quoted quoted_token (λ a. refl) after

operator_mark_is : (x : Mark) (o : BinaryOperator) → operator_of x ≡ Some o → x ≡ operator_mark o
operator_mark_is m.Plus o h = ap operator_mark (same_Some _ _ h)
operator_mark_is m.Minus o h = ap operator_mark (same_Some _ _ h)
operator_mark_is m.Star o h = ap operator_mark (same_Some _ _ h)
operator_mark_is m.And o h = ap operator_mark (same_Some _ _ h)
operator_mark_is m.Or o h = ap operator_mark (same_Some _ _ h)
operator_mark_is m.Xor o h = ap operator_mark (same_Some _ _ h)
operator_mark_is m.EqualEqual o h = ap operator_mark (same_Some _ _ h)
operator_mark_is m.Less o h = ap operator_mark (same_Some _ _ h)
operator_mark_is m.ShiftLeft o h = ap operator_mark (same_Some _ _ h)
operator_mark_is m.ShiftRight o h = ap operator_mark (same_Some _ _ h)
operator_mark_is _ o h = cc

operator_token : (x : Token) (o : BinaryOperator) → operator_at x ≡ Some o → x ≡ t.Mark (operator_mark o)
operator_token (t.Name k) o h = cc
operator_token (t.Word y) o h = cc
operator_token (t.Mark y) o h = ap t.Mark (operator_mark_is y o h)
operator_token (t.Number k) o h = cc
operator_token (t.Quoted k) o h = cc

operator_back : (o : BinaryOperator) → operator_at (t.Mark (operator_mark o)) ≡ Some o
operator_back op.Add = refl
operator_back _ = refl

pub operator_means : {B : Type 0} {Q : BinaryOperator → Phrase B} {S : BinaryOperator → Spelling B} → ((a : BinaryOperator) → Means (Q a) (S a))
    → Means (one operator_at >>= Q) (AfterOne (λ o. t.Mark (operator_mark o)) S)
operator_means after = one_means operator_at (λ o. t.Mark (operator_mark o)) operator_token operator_back after

division_mark_is : (x : Mark) (o : DivisionOperator) → division_of x ≡ Some o → x ≡ division_mark o
division_mark_is m.Slash o h = ap division_mark (same_Some _ _ h)
division_mark_is m.Percent o h = ap division_mark (same_Some _ _ h)
division_mark_is _ o h = cc

division_token : (x : Token) (o : DivisionOperator) → division_at x ≡ Some o → x ≡ t.Mark (division_mark o)
division_token (t.Name k) o h = cc
division_token (t.Word y) o h = cc
division_token (t.Mark y) o h = ap t.Mark (division_mark_is y o h)
division_token (t.Number k) o h = cc
division_token (t.Quoted k) o h = cc

division_back : (o : DivisionOperator) → division_at (t.Mark (division_mark o)) ≡ Some o
division_back division.Quotient = refl
division_back division.Remainder = refl

pub division_means : {B : Type 0} {Q : DivisionOperator → Phrase B} {S : DivisionOperator → Spelling B} → ((a : DivisionOperator) → Means (Q a) (S a))
    → Means (one division_at >>= Q) (AfterOne (λ o. t.Mark (division_mark o)) S)
division_means after = one_means division_at (λ o. t.Mark (division_mark o)) division_token division_back after
