-- The phrases of right sides have the tokens that the grammar gives them.
use Rattle.std.proofs.Common.{◌≡◌, ℕ, List, [], ◌∷◌, ◌++◌, Some, refl, sym, ap, ◌∙◌, subst, inl, inr, ⊎_elim}
use Rattle.std.proofs.lemmas.List.{append-nil}
use Rattle.verilog_tree.specs.declared.token.Mark.TheVariants as m
use Rattle.verilog_tree.specs.declared.token.Token.{Token}
use Rattle.verilog_tree.specs.declared.token.Token.TheVariants as t
use Rattle.verilog_tree.specs.declared.tree.Constant.{Constant}
use Rattle.verilog_tree.specs.declared.tree.Expression.{Expression}
use Rattle.verilog_tree.specs.declared.tree.Expression.TheVariants as expr
use Rattle.verilog_tree.specs.Grammar as v
use Rattle.verilog_tree.specs.Grammar.{Tokens}
use Rattle.verilog_tree.specs.Reads.{IsFilled, IsFullExpression}
use Rattle.grammar.specs.Rules.{many, ◌>>◌, ◌<|>◌}
use Rattle.verilog_rules.specs.declared.sign.Sign.TheVariants as s
use Rattle.verilog_rules.specs.Phrases as g
use Rattle.verilog_rules.proofs.Means.{Spelling, Means, Then, After, AfterOne, Nothing, Either, Many, same_means, pure_means, then_means, either_means, many_means}
use Rattle.grammar.specs.Sentences.{plain}
use Rattle.verilog_rules.proofs.Means.{name_token, sign_means, name_means, number_means, operator_means, division_means}

-- the tokens alone
abbrev pub Is : {A : Type 0} → (A → Tokens) → Spelling A
Is f z x = z ≡ f x

pub next : {z y other : Tokens} (x : Token) → z ≡ x ∷ y → y ≡ other → z ≡ x ∷ other
next x e f = e ∙ ap (λ l. x ∷ l) f

pub glued : {z x y front back : Tokens} → z ≡ x ++ y → x ≡ front → y ≡ back → z ≡ front ++ back
glued {y = y} {front = front} e f g = e ∙ ap (λ l. l ++ y) f ∙ ap (λ l. front ++ l) g

-- ---- lists

module _ {A : Type 0} {P : g.Phrase A} (f : A → Tokens) (good : Means P (Is f)) where
  all_there : (z : Tokens) (xs : List A) → Many (Is f) z xs → z ≡ v.all f xs
  all_there z [] h = h
  all_there z (x ∷ xs) h = glued h.2 h.3 (all_there h.1 xs h.4)

  all_back : (z : Tokens) (xs : List A) → z ≡ v.all f xs → Many (Is f) z xs
  all_back z [] h = h
  all_back z (x ∷ xs) h = (f x, v.all f xs, h, refl, all_back (v.all f xs) xs refl)

  pub all_means : Means (many P) (Is (v.all f))
  all_means = same_means (many_means good) all_there all_back

  comma_means : Means (g.sign (s.Mark m.Comma) >> P) (After (t.Mark m.Comma) (Is f))
  comma_means = sign_means (s.Mark m.Comma) good

  more_there : (z : Tokens) (xs : List A) → Many (After (t.Mark m.Comma) (Is f)) z xs → z ≡ v.more f xs
  more_there z [] h = h
  more_there z (x ∷ xs) h = glued h.2 (next (t.Mark m.Comma) h.3.1 h.3.2) (more_there h.1 xs h.4)

  more_back : (z : Tokens) (xs : List A) → z ≡ v.more f xs → Many (After (t.Mark m.Comma) (Is f)) z xs
  more_back z [] h = h
  more_back z (x ∷ xs) h = (t.Mark m.Comma ∷ f x, v.more f xs, h, (f x, refl, refl), more_back (v.more f xs) xs refl)

  pub more_means : Means (many (g.sign (s.Mark m.Comma) >> P)) (Is (v.more f))
  more_means = same_means (many_means comma_means) more_there more_back

  abbrev pub Listed : Spelling (List A)
  Listed z xs = (z ≡ v.commas f xs) × IsFilled xs

  listed_there : (z : Tokens) (xs : List A) → Then (Is f) (λ first. Then (Is (v.more f)) (λ more. Nothing (first ∷ more))) z xs → Listed z xs
  listed_there z xs h =
      let tokens : z ≡ f h.0 ++ v.more f h.5.0 = glued h.3 h.4 (glued h.5.3 h.5.4 h.5.5.0 ∙ append-nil (v.more f h.5.0)) in
      subst (Listed z) (sym h.5.5.1) (tokens, tt)

  listed_back : (z : Tokens) (xs : List A) → Listed z xs → Then (Is f) (λ first. Then (Is (v.more f)) (λ more. Nothing (first ∷ more))) z xs
  listed_back z [] h = absurd h.1
  listed_back z (x ∷ xs) h = (x, f x, v.more f xs, h.0, refl, (xs, v.more f xs, [], sym (append-nil (v.more f xs)), refl, (refl, refl)))

  pub listed_means : Means (g.listed P) Listed
  listed_means = same_means (then_means good (λ first. then_means more_means (λ more. pure_means (first ∷ more)))) listed_there listed_back

-- a name alone
pub name_alone : Means g.name (Is v.name)
name_alone = record { to = λ at ts n h. ap plain h.1 ∙ ap (λ x. x ∷ []) (name_token h.0 n h.2); from = λ at z n h. ((t.Name n, at) ∷ [], sym h, (t.Name n, refl, refl)) }

-- ---- ranges, constants, signed names

pub range_means : Means g.range (λ z high. z ≡ v.range (Some high))
range_means =
    same_means (sign_means (s.Mark m.OpenSquare) (number_means (λ high. sign_means (s.Mark m.Colon) (sign_means s.Zero (sign_means (s.Mark m.CloseSquare) (pure_means high))))))
    (λ z high h. next _ h.1 (next _ h.2.2 (next _ h.2.3.1 (next _ h.2.3.2.1 (next _ h.2.3.2.2.1 h.2.3.2.2.2.0)))) ∙ sym (ap (λ k. v.range (Some k)) h.2.3.2.2.2.1))
    (λ z high h. (_, h, (high, _, refl, (_, refl, (_, refl, (_, refl, (refl, refl)))))))

pub constant_means : Means g.constant (Is v.constant)
constant_means =
    same_means (number_means (λ width. sign_means (s.Mark m.Decimal) (number_means (λ value. pure_means (record { width = width; value = value })))))
    (λ z c h. next _ h.2 (next _ h.3.1 (next _ h.3.2.2 h.3.2.3.0)) ∙ sym (ap v.constant h.3.2.3.1))
    (λ z c h. (c.width, _, h, (_, refl, (c.value, [], refl, (refl, refl)))))

pub signed_means : Means g.signed (Is v.signed)
signed_means =
    same_means (sign_means (s.Mark m.Signed) (sign_means (s.Mark m.OpenRound) (name_means (λ x. sign_means (s.Mark m.CloseRound) (pure_means x)))))
    (λ z x h. next _ h.1 (next _ h.2.1 (next _ h.2.2.2 (next _ h.2.2.3.1 h.2.2.3.2.0))) ∙ sym (ap v.signed h.2.2.3.2.1))
    (λ z x h. (_, h, (_, refl, (x, _, refl, (_, refl, (refl, refl))))))

-- the constant of a guard, `)` and `?`
abbrev bound_tokens : Constant → Tokens
bound_tokens c = v.constant c ++ v.mark m.CloseRound ++ v.mark m.Question

bound_means : Means g.bound (Is bound_tokens)
bound_means =
    same_means (then_means constant_means (λ c. sign_means (s.Mark m.CloseRound) (sign_means (s.Mark m.Question) (pure_means c))))
    (λ z c h. glued h.3 h.4 (next _ h.5.1 (next _ h.5.2.1 h.5.2.2.0)) ∙ sym (ap bound_tokens h.5.2.2.1))
    (λ z c h. (c, v.constant c, _, h, refl, (_, refl, (_, refl, (refl, refl)))))

-- ---- right sides

abbrev pub Right : Spelling Expression
Right z e = (z ≡ v.expression e) × IsFullExpression e

made : (z : Tokens) (e is : Expression) → e ≡ is → z ≡ v.expression is → IsFullExpression is → Right z e
made z e is same tokens full = subst (Right z) (sym same) (tokens, full)

-- what stands behind a name
abbrev BehindName : List ℕ → Spelling Expression
BehindName x = Either (AfterOne (λ o. t.Mark (v.operator_mark o)) (λ o. AfterOne t.Name (λ y. Nothing (expr.Binary o x y))))
    (Either (After (t.Mark m.Question) (AfterOne t.Name (λ y. After (t.Mark m.Colon) (AfterOne t.Name (λ k. Nothing (expr.Conditional x y k))))))
    (Either (After (t.Mark m.OpenSquare) (AfterOne t.Number (λ high. Either (After (t.Mark m.CloseSquare) (Nothing (expr.BitSelect x high)))
    (After (t.Mark m.Colon) (AfterOne t.Number (λ low. After (t.Mark m.CloseSquare) (Nothing (expr.PartSelect x high low))))))))
    (Nothing (expr.Copy x))))

behind_name_means : (x : List ℕ) → Means (g.behind_name x) (BehindName x)
behind_name_means x =
    either_means (operator_means (λ o. name_means (λ y. pure_means (expr.Binary o x y))))
    (either_means (sign_means (s.Mark m.Question) (name_means (λ y. sign_means (s.Mark m.Colon) (name_means (λ k. pure_means (expr.Conditional x y k))))))
    (either_means (sign_means (s.Mark m.OpenSquare) (number_means (λ high. either_means (sign_means (s.Mark m.CloseSquare) (pure_means (expr.BitSelect x high)))
    (sign_means (s.Mark m.Colon) (number_means (λ low. sign_means (s.Mark m.CloseSquare) (pure_means (expr.PartSelect x high low))))))))
    (pure_means (expr.Copy x))))

named_there : (x : List ℕ) (z y : Tokens) (e : Expression) → z ≡ t.Name x ∷ y → BehindName x y e → Right z e
named_there x z y e first h =
    ⊎_elim (λ k. made z e (expr.Binary k.0 x k.3.0) k.3.3.1 (next _ first (next _ k.2 (next _ k.3.2 k.3.3.0))) tt)
    (λ h. ⊎_elim (λ k. made z e (expr.Conditional x k.2.0 k.2.3.2.0) k.2.3.2.3.1 (next _ first (next _ k.1 (next _ k.2.2 (next _ k.2.3.1 (next _ k.2.3.2.2 k.2.3.2.3.0))))) tt)
    (λ h. ⊎_elim
    (λ k. ⊎_elim (λ l. made z e (expr.BitSelect x k.2.0) l.2.1 (next _ first (next _ k.1 (next _ k.2.2 (next _ l.1 l.2.0)))) tt)
    (λ l. made z e (expr.PartSelect x k.2.0 l.2.0) l.2.3.2.1 (next _ first (next _ k.1 (next _ k.2.2 (next _ l.1 (next _ l.2.2 (next _ l.2.3.1 l.2.3.2.0)))))) tt) k.2.3)
    (λ k. made z e (expr.Copy x) k.1 (next _ first k.0) tt) h) h) h

-- of a signed name
abbrev OfSigned : Spelling Expression
OfSigned = Then (Is v.signed) (λ x. Either (After (t.Mark m.Less) (Then (Is v.signed) (λ y. Nothing (expr.SignedLess x y))))
    (After (t.Mark m.ArithmeticShiftRight) (AfterOne t.Name (λ y. Nothing (expr.ArithmeticShiftRight x y)))))

of_signed_means : Means g.of_signed OfSigned
of_signed_means =
    then_means signed_means (λ x. either_means (sign_means (s.Mark m.Less) (then_means signed_means (λ y. pure_means (expr.SignedLess x y))))
    (sign_means (s.Mark m.ArithmeticShiftRight) (name_means (λ y. pure_means (expr.ArithmeticShiftRight x y)))))

of_signed_there : (z : Tokens) (e : Expression) → OfSigned z e → Right z e
of_signed_there z e h =
    ⊎_elim (λ k. made z e (expr.SignedLess h.0 k.2.0) k.2.5.1 (glued h.3 h.4 (next _ k.1 (glued k.2.3 k.2.4 k.2.5.0))) tt)
    (λ k. made z e (expr.ArithmeticShiftRight h.0 k.2.0) k.2.3.1 (glued h.3 h.4 (next _ k.1 (next _ k.2.2 k.2.3.0))) tt) h.5

-- behind the guard of a division
abbrev Divided : List ℕ → Constant → ℕ → Spelling Expression
Divided tested nought width = Either
    (After (t.Mark m.Decimal) (AfterOne t.Number (λ value. After (t.Mark m.Colon) (AfterOne t.Name (λ x. AfterOne (λ o. t.Mark (v.division_mark o)) (λ o. AfterOne t.Name (λ y.
    Nothing (expr.Division tested nought (record { width = width; value = value }) o x y))))))))
    (After (t.Mark m.SignedDecimal) (AfterOne t.Number (λ value. After (t.Mark m.Colon) (Then (Is v.signed) (λ x. AfterOne (λ o. t.Mark (v.division_mark o)) (λ o. Then
    (Is v.signed) (λ y.
    Nothing (expr.SignedDivision tested nought (record { width = width; value = value }) o x y))))))))

divided_means : (tested : List ℕ) (nought : Constant) (width : ℕ) → Means (g.division tested nought width <|> g.signed_division tested nought width) (Divided tested nought width)
divided_means tested nought width =
    either_means
    (sign_means (s.Mark m.Decimal) (number_means (λ value. sign_means (s.Mark m.Colon) (name_means (λ x. division_means (λ o. name_means (λ y.
    pure_means (expr.Division tested nought (record { width = width; value = value }) o x y))))))))
    (sign_means (s.Mark m.SignedDecimal) (number_means (λ value. sign_means (s.Mark m.Colon) (then_means signed_means (λ x. division_means (λ o. then_means signed_means (λ y.
    pure_means (expr.SignedDivision tested nought (record { width = width; value = value }) o x y))))))))

abbrev Guarded : Spelling Expression
Guarded = After (t.Mark m.OpenRound) (AfterOne t.Name (λ tested. Either
    (After (t.Mark m.EqualEqual) (Then (Is bound_tokens) (λ nought. AfterOne t.Number (λ width. Divided tested nought width))))
    (After (t.Mark m.Less) (Then (Is bound_tokens) (λ c. AfterOne t.Name (λ memory. After (t.Mark m.OpenSquare) (AfterOne t.Name (λ address. After (t.Mark m.CloseSquare)
    (After (t.Mark m.Colon)
    (Then (Is v.constant) (λ guarded. Nothing (expr.MemoryRead tested c memory address guarded))))))))))))

guarded_means : Means g.guarded Guarded
guarded_means =
    sign_means (s.Mark m.OpenRound) (name_means (λ tested. either_means
    (sign_means (s.Mark m.EqualEqual) (then_means bound_means (λ nought. number_means (λ width. divided_means tested nought width))))
    (sign_means (s.Mark m.Less) (then_means bound_means (λ c. name_means (λ memory. sign_means (s.Mark m.OpenSquare) (name_means (λ address. sign_means
    (s.Mark m.CloseSquare) (sign_means (s.Mark m.Colon)
    (then_means constant_means (λ guarded. pure_means (expr.MemoryRead tested c memory address guarded))))))))))))

guarded_there : (z : Tokens) (e : Expression) → Guarded z e → Right z e
guarded_there z e h =
    ⊎_elim
    (λ k. ⊎_elim
    (λ l. made z e (expr.Division h.2.0 k.2.0 (record { width = k.2.5.0; value = l.2.0 }) l.2.3.2.3.0 l.2.3.2.0 l.2.3.2.3.3.0) l.2.3.2.3.3.3.1
    (next _ h.1 (next _ h.2.2 (next _ k.1 (glued k.2.3 k.2.4 (next _ k.2.5.2 (next _ l.1 (next _ l.2.2 (next _ l.2.3.1 (next _ l.2.3.2.2 (next _ l.2.3.2.3.2
    (next _ l.2.3.2.3.3.2 l.2.3.2.3.3.3.0))))))))))) tt)
    (λ l. made z e (expr.SignedDivision h.2.0 k.2.0 (record { width = k.2.5.0; value = l.2.0 }) l.2.3.2.5.0 l.2.3.2.0 l.2.3.2.5.3.0) l.2.3.2.5.3.5.1
    (next _ h.1 (next _ h.2.2 (next _ k.1 (glued k.2.3 k.2.4 (next _ k.2.5.2 (next _ l.1 (next _ l.2.2 (next _ l.2.3.1 (glued l.2.3.2.3 l.2.3.2.4 (next _ l.2.3.2.5.2
    (glued l.2.3.2.5.3.3 l.2.3.2.5.3.4 l.2.3.2.5.3.5.0))))))))))) tt)
    k.2.5.3)
    (λ k. made z e (expr.MemoryRead h.2.0 k.2.0 k.2.5.0 k.2.5.3.2.0 k.2.5.3.2.3.2.2.0) k.2.5.3.2.3.2.2.5.1
    (next _ h.1 (next _ h.2.2 (next _ k.1 (glued k.2.3 k.2.4 (next _ k.2.5.2 (next _ k.2.5.3.1 (next _ k.2.5.3.2.2 (next _ k.2.5.3.2.3.1 (next _ k.2.5.3.2.3.2.1
    (glued k.2.5.3.2.3.2.2.3 k.2.5.3.2.3.2.2.4 k.2.5.3.2.3.2.2.5.0)))))))))) tt)
    h.2.3

abbrev Braced : Spelling Expression
Braced = After (t.Mark m.OpenCurly) (Either (Then (Listed v.name name_alone) (λ parts. After (t.Mark m.CloseCurly) (Nothing (expr.Concatenation parts))))
    (AfterOne t.Number (λ count. After (t.Mark m.OpenCurly) (AfterOne t.Name (λ x. After (t.Mark m.CloseCurly) (After (t.Mark m.CloseCurly) (Nothing
    (expr.Replication count x))))))))

braced_means : Means g.braced Braced
braced_means =
    sign_means (s.Mark m.OpenCurly) (either_means (then_means (listed_means v.name name_alone) (λ parts. sign_means (s.Mark m.CloseCurly) (pure_means
    (expr.Concatenation parts))))
    (number_means (λ count. sign_means (s.Mark m.OpenCurly) (name_means (λ x. sign_means (s.Mark m.CloseCurly) (sign_means (s.Mark m.CloseCurly) (pure_means
    (expr.Replication count x))))))))

braced_there : (z : Tokens) (e : Expression) → Braced z e → Right z e
braced_there z e h =
    ⊎_elim (λ k. made z e (expr.Concatenation k.0) k.5.2.1 (next _ h.1 (glued k.3 k.4.0 (next _ k.5.1 k.5.2.0))) k.4.1)
    (λ k. made z e (expr.Replication k.0 k.3.2.0) k.3.2.3.2.2.1 (next _ h.1 (next _ k.2 (next _ k.3.1 (next _ k.3.2.2 (next _ k.3.2.3.1
    (next _ k.3.2.3.2.1 k.3.2.3.2.2.0)))))) tt) h.2

abbrev AnyRight : Spelling Expression
AnyRight = Either (AfterOne t.Name BehindName)
    (Either (Then (Is v.constant) (λ c. Nothing (expr.Constant c))) (Either (After (t.Mark m.Tilde) (AfterOne t.Name (λ x. Nothing (expr.BitwiseNot x)))) (Either OfSigned
    (Either Guarded Braced))))

right_there : (z : Tokens) (e : Expression) → AnyRight z e → Right z e
right_there z e h =
    ⊎_elim (λ k. named_there k.0 z k.1 e k.2 k.3)
    (λ h. ⊎_elim (λ k. made z e (expr.Constant k.0) k.5.1 (glued k.3 k.4 k.5.0) tt)
    (λ h. ⊎_elim (λ k. made z e (expr.BitwiseNot k.2.0) k.2.3.1 (next _ k.1 (next _ k.2.2 k.2.3.0)) tt)
    (λ h. ⊎_elim (of_signed_there z e) (λ h. ⊎_elim (guarded_there z e) (braced_there z e) h) h) h) h) h

right_back : (z : Tokens) (e : Expression) → Right z e → AnyRight z e
right_back z (expr.Copy x) h = inl (x, [], h.0, inr (inr (inr (refl, refl))))
right_back z (expr.Constant c) h = inr (inl (c, v.constant c, [], h.0, refl, (refl, refl)))
right_back z (expr.BitwiseNot x) h = inr (inr (inl (_, h.0, (x, [], refl, (refl, refl)))))
right_back z (expr.Binary o x y) h = inl (x, _, h.0, inl (o, _, refl, (y, [], refl, (refl, refl))))
right_back z (expr.SignedLess x y) h = inr (inr (inr (inl (x, v.signed x, _, h.0, refl, inl (_, refl, (y, v.signed y, [], refl, refl, (refl, refl)))))))
right_back z (expr.ArithmeticShiftRight x y) h = inr (inr (inr (inl (x, v.signed x, _, h.0, refl, inr (_, refl, (y, [], refl, (refl, refl)))))))
right_back z (expr.Conditional x y k) h = inl (x, _, h.0, inr (inl (_, refl, (y, _, refl, (_, refl, (k, [], refl, (refl, refl)))))))
right_back z (expr.Division tested nought guarded o x y) h =
    inr (inr (inr (inr (inl (
      _,
      h.0,
      (
        tested,
        _,
        refl,
        inl (
          _,
          refl,
          (
            nought,
            bound_tokens nought,
            _,
            refl,
            refl,
            (
              guarded.width,
              _,
              refl,
              inl (
                _,
                refl,
                (
                  guarded.value,
                  _,
                  refl,
                  (
                    _,
                    refl,
                    (
                      x,
                      _,
                      refl,
                      (
                        o,
                        _,
                        refl,
                        (y, [], refl, (refl, refl)),
                      ),
                    ),
                  ),
                ),
              ),
            ),
          ),
        ),
      ),
    )))))
right_back z (expr.SignedDivision tested nought guarded o x y) h =
    inr (inr (inr (inr (inl (
      _,
      h.0,
      (
        tested,
        _,
        refl,
        inl (
          _,
          refl,
          (
            nought,
            bound_tokens nought,
            _,
            refl,
            refl,
            (
              guarded.width,
              _,
              refl,
              inr (
                _,
                refl,
                (
                  guarded.value,
                  _,
                  refl,
                  (
                    _,
                    refl,
                    (
                      x,
                      v.signed x,
                      _,
                      refl,
                      refl,
                      (
                        o,
                        _,
                        refl,
                        (y, v.signed y, [], refl, refl, (refl, refl)),
                      ),
                    ),
                  ),
                ),
              ),
            ),
          ),
        ),
      ),
    )))))
right_back z (expr.MemoryRead tested c memory address guarded) h =
    inr (inr (inr (inr (inl (
      _,
      h.0,
      (
        tested,
        _,
        refl,
        inr (
          _,
          refl,
          (
            c,
            bound_tokens c,
            _,
            refl,
            refl,
            (
              memory,
              _,
              refl,
              (
                _,
                refl,
                (
                  address,
                  _,
                  refl,
                  (
                    _,
                    refl,
                    (
                      _,
                      refl,
                      (
                        guarded,
                        v.constant guarded,
                        [],
                        refl,
                        refl,
                        (refl, refl),
                      ),
                    ),
                  ),
                ),
              ),
            ),
          ),
        ),
      ),
    )))))
right_back z (expr.BitSelect x bit) h = inl (x, _, h.0, inr (inr (inl (_, refl, (bit, _, refl, inl (_, refl, (refl, refl)))))))
right_back z (expr.PartSelect x high low) h = inl (x, _, h.0, inr (inr (inl (_, refl, (high, _, refl, inr (_, refl, (low, _, refl, (_, refl, (refl, refl)))))))))
right_back z (expr.Concatenation parts) h = inr (inr (inr (inr (inr (_, h.0, inl (parts, v.commas v.name parts, _, refl, (refl, h.1), (_, refl, (refl, refl))))))))
right_back z (expr.Replication count x) h = inr (inr (inr (inr (inr (_, h.0, inr (count, _, refl, (_, refl, (x, _, refl, (_, refl, (_, refl, (refl, refl)))))))))))

pub right_means : Means g.expression Right
right_means =
    same_means
    (either_means (name_means behind_name_means)
    (either_means (then_means constant_means (λ c. pure_means (expr.Constant c)))
    (either_means (sign_means (s.Mark m.Tilde) (name_means (λ x. pure_means (expr.BitwiseNot x)))) (either_means of_signed_means (either_means guarded_means braced_means)))))
    right_there right_back
