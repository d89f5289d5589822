-- What is laid out splits into its tokens.
use Rattle.std.proofs.Common.{◌≡◌, ℕ, zero, suc, ◌+◌, ◌<◌, List, [], ◌∷◌, ◌++◌, Some, Bool, true, false, refl, sym, ap, ◌∙◌, subst, append_assoc, add-one, length, take, get_or, arith}
use Rattle.std.specs.Prelude.{if◌then◌else◌, Result, Ok, Err, IfOk}
use Rattle.std.proofs.lemmas.List.{append-nil}
use Rattle.verilog_tree.specs.declared.token.Word.TheVariants as w
use Rattle.verilog_tree.specs.declared.token.Mark.TheVariants as m
use Rattle.verilog_tree.specs.declared.token.Token.{Token}
use Rattle.verilog_tree.specs.declared.token.Token.TheVariants as t
use Rattle.verilog_tree.specs.Tokens.{spelling, front, skip, Splits, is_token}
use Rattle.verilog_tree.specs.Grammar as g
use Rattle.verilog_tree.proofs.Fronts.{separates, front_token, stays_token}
use Rattle.verilog_text.specs.declared.text.Ending.{Ending}
use Rattle.verilog_text.specs.declared.text.Ending.TheVariants.{Start, Line, Open, Plain, Apart}
use Rattle.verilog_text.specs.declared.text.Text.{Text}
use Rattle.verilog_tree.specs.declared.tree.Net.{Net}
use Rattle.verilog_tree.specs.Reads.{IsFull, Reads}
use Rattle.verilog_text.specs.Layout.{layout_of, brackets_after, spaces, gap, depth_before, depth_after, put, put_all, laid, start, AllTokens}

spaces_next : (n : ℕ) → spaces (suc n) ≡ spaces n ++ (32 ∷ (32 ∷ []))
spaces_next zero = refl
spaces_next (suc n) = ap (λ l. 32 ∷ (32 ∷ l)) (spaces_next n)

pub more_spaces : (a b c : List ℕ) (n : ℕ) → b ≡ a ++ (10 ∷ spaces n) → c ≡ b ++ (32 ∷ (32 ∷ [])) → c ≡ a ++ (10 ∷ spaces (n + 1))
more_spaces a b c n e f =
    f ∙ ap (λ l. l ++ (32 ∷ (32 ∷ []))) e ∙ append_assoc a (10 ∷ spaces n) (32 ∷ (32 ∷ []))
    ∙ ap (λ l. a ++ (10 ∷ l)) (sym (spaces_next n)) ∙ ap (λ k. a ++ (10 ∷ spaces k)) (sym (add-one n))

pub put_all_append : (s : Text) (xs ys : List Token) → put_all s (xs ++ ys) ≡ put_all (put_all s xs) ys
put_all_append s [] ys = refl
put_all_append s (x ∷ xs) ys = put_all_append (put s x) xs ys

-- the text that is put together from the left is that from the right
pub put_all-laid : (s : Text) (xs : List Token) → (put_all s xs).bytes ++ (10 ∷ []) ≡ s.bytes ++ laid s.ending s.depth s.in_brackets xs
unfolding put
put_all-laid s [] = refl
put_all-laid s (x ∷ xs) =
    let l = layout_of s.in_brackets x in
    let g : List ℕ = gap s.ending (depth_before l s.depth) l.hugs in
    let rest : List ℕ = laid l.ending (depth_after l s.depth) (brackets_after s.in_brackets x) xs in
    put_all-laid (put s x) xs ∙ append_assoc (s.bytes ++ g) (spelling x) rest ∙ append_assoc s.bytes g (spelling x ++ rest)

-- ---- gaps are skipped

skip_spaces : (n : ℕ) (z : List ℕ) → skip false (spaces n ++ z) ≡ skip false z
unfolding skip
skip_spaces zero z = refl
skip_spaces (suc n) z = skip_spaces n z

skip_gap : (e : Ending) (d : ℕ) (hugs : Bool) (z : List ℕ) → skip false (gap e d hugs ++ z) ≡ skip false z
unfolding skip
skip_gap Start d hugs z = refl
skip_gap Line d hugs z = skip_spaces d z
skip_gap Open d hugs z = refl
skip_gap Plain d true z = refl
skip_gap Plain d false z = refl
skip_gap Apart d hugs z = refl

-- ---- tokens that end by themselves

opens : Ending → Bool
opens Open = true
opens Start = true
opens _ = false

front_open : (inside : Bool) (x : Token) (z : List ℕ) → opens (layout_of inside x).ending ≡ true → (skip false (spelling x ++ z) ≡ spelling x ++ z) × (front (spelling x ++ z) ≡ Some (x, z))
unfolding front skip opens
front_open inside (t.Mark m.OpenRound) z h = (refl, refl)
front_open inside (t.Mark m.OpenSquare) z h = (refl, refl)
front_open inside (t.Mark m.OpenCurly) z h = (refl, refl)
front_open inside (t.Mark m.Dot) z h = (refl, refl)
front_open inside (t.Mark m.At) z h = (refl, refl)
front_open inside (t.Mark m.Tilde) z h = (refl, refl)
front_open inside (t.Mark m.Signed) z h = (refl, refl)
front_open inside (t.Mark m.Write) z h = (refl, refl)
front_open inside (t.Mark m.Decimal) z h = (refl, refl)
front_open inside (t.Mark m.SignedDecimal) z h = (refl, refl)
front_open true (t.Mark m.Colon) z h = (refl, refl)
front_open false (t.Mark m.Colon) z h = cc
front_open inside (t.Mark _) z h = cc
front_open inside (t.Word w.Module) z h = cc
front_open inside (t.Word w.Begin) z h = cc
front_open inside (t.Word w.End) z h = cc
front_open inside (t.Word w.EndModule) z h = cc
front_open inside (t.Word _) z h = cc
front_open inside (t.Name n) z h = cc
front_open inside (t.Number n) z h = cc
front_open inside (t.Quoted n) z h = cc

-- ---- what follows a token that does not end by itself

record Ends (z : List ℕ) : Type 0 where
  pub first : ℕ
  pub others : List ℕ
  pub is : z ≡ first ∷ others
  pub apart : separates first ≡ true

hugging : (inside : Bool) (x : Token) (z : List ℕ) → (layout_of inside x).hugs ≡ true → Ends (spelling x ++ z)
hugging inside (t.Mark m.OpenRound) z h = record { first = 40; others = z; is = refl; apart = refl }
hugging inside (t.Mark m.OpenSquare) z h = record { first = 91; others = z; is = refl; apart = refl }
hugging inside (t.Mark m.OpenCurly) z h = record { first = 123; others = z; is = refl; apart = refl }
hugging inside (t.Mark m.CloseRound) z h = record { first = 41; others = z; is = refl; apart = refl }
hugging inside (t.Mark m.CloseSquare) z h = record { first = 93; others = z; is = refl; apart = refl }
hugging inside (t.Mark m.CloseCurly) z h = record { first = 125; others = z; is = refl; apart = refl }
hugging inside (t.Mark m.Comma) z h = record { first = 44; others = z; is = refl; apart = refl }
hugging inside (t.Mark m.Semicolon) z h = record { first = 59; others = z; is = refl; apart = refl }
hugging inside (t.Mark m.Decimal) z h = record { first = 39; others = 100 ∷ z; is = refl; apart = refl }
hugging inside (t.Mark m.SignedDecimal) z h = record { first = 39; others = 115 ∷ (100 ∷ z); is = refl; apart = refl }
hugging true (t.Mark m.Colon) z h = record { first = 58; others = z; is = refl; apart = refl }
hugging false (t.Mark m.Colon) z h = cc
hugging inside (t.Mark _) z h = cc
hugging inside (t.Word w.Module) z h = cc
hugging inside (t.Word w.Begin) z h = cc
hugging inside (t.Word w.End) z h = cc
hugging inside (t.Word w.EndModule) z h = cc
hugging inside (t.Word _) z h = cc
hugging inside (t.Name n) z h = cc
hugging inside (t.Number n) z h = cc
hugging inside (t.Quoted n) z h = cc

plain_gap : (inside : Bool) (x : Token) (z : List ℕ) (hugs : Bool) → (layout_of inside x).hugs ≡ hugs → Ends ((if hugs then [] else (32 ∷ [])) ++ (spelling x ++ z))
plain_gap inside x z true h = hugging inside x z h
plain_gap inside x z false h = record { first = 32; others = spelling x ++ z; is = refl; apart = refl }

ends : (e : Ending) (d : ℕ) (inside : Bool) (xs : List Token) → opens e ≡ false → Ends (laid e d inside xs)
unfolding opens
ends e d inside [] h = record { first = 10; others = []; is = refl; apart = refl }
ends Line d inside (x ∷ xs) h =
    let l = layout_of inside x in
    record { first = 10; others = spaces (depth_before l d) ++ (spelling x ++ laid l.ending (depth_after l d) (brackets_after inside x) xs); is = refl; apart = refl }
ends Plain d inside (x ∷ xs) h = let l = layout_of inside x in plain_gap inside x (laid l.ending (depth_after l d) (brackets_after inside x) xs) l.hugs refl
ends Apart d inside (x ∷ xs) h = let l = layout_of inside x in record { first = 32; others = spelling x ++ laid l.ending (depth_after l d) (brackets_after inside x) xs; is = refl; apart = refl }
ends Open d inside (x ∷ xs) h = cc
ends Start d inside (x ∷ xs) h = cc

reads_token : (inside : Bool) (x : Token) (d : ℕ) (next : Bool) (xs : List Token) → is_token x ≡ true → (b : Bool) → opens (layout_of inside x).ending ≡ b
    → let z = laid (layout_of inside x).ending d next xs in front (skip false (spelling x ++ z)) ≡ Some (x, z)
reads_token inside x d next xs h true e =
    let z : List ℕ = laid (layout_of inside x).ending d next xs in
    let here = front_open inside x z e in ap front here.0 ∙ here.1
reads_token inside x d next xs h false e =
    let z : List ℕ = laid (layout_of inside x).ending d next xs in
    let k = ends (layout_of inside x).ending d next xs e in
    let there : front (skip false (spelling x ++ (k.first ∷ k.others))) ≡ Some (x, k.first ∷ k.others) =
    ap front (stays_token x k.first k.others h k.apart) ∙ front_token x k.first k.others h k.apart in
    subst (λ l. front (skip false (spelling x ++ l)) ≡ Some (x, l)) (sym k.is) there

pub laid-splits : (e : Ending) (d : ℕ) (inside : Bool) (xs : List Token) → AllTokens xs → Splits (laid e d inside xs) xs
unfolding Splits skip
laid-splits e d inside [] h = refl
laid-splits e d inside (x ∷ xs) h =
    let l = layout_of inside x in
    let after = depth_after l d in
    let next = brackets_after inside x in
    let z : List ℕ = laid l.ending after next xs in
    (z, ap front (skip_gap e (depth_before l d) l.hugs (spelling x ++ z)) ∙ reads_token inside x after next xs h.0 (opens l.ending) refl, laid-splits l.ending after next xs h.1)

pub all_tokens_append : (xs ys : List Token) → AllTokens xs → AllTokens ys → AllTokens (xs ++ ys)
all_tokens_append [] ys h k = k
all_tokens_append (x ∷ xs) ys h k = (h.0, all_tokens_append xs ys h.1 k)

-- ---- one phrase more

module _ {A : Type 0} (f : A → List Token) where
  all_take : (xs : List A) (i : ℕ) (x : A) → x ≡ get_or xs i x → i < length xs → g.all f (take (suc i) xs) ≡ g.all f (take i xs) ++ f x
  all_take [] i x e lt = absurd (omega arith)
  all_take (y ∷ xs) zero x e lt = append-nil (f y) ∙ ap f (sym e)
  all_take (y ∷ xs) (suc i) x e lt = ap (λ l. f y ++ l) (all_take xs i x e (omega arith)) ∙ sym (append_assoc (f y) (g.all f (take i xs)) (f x))

  pub all_next : (a b c : Text) (xs : List A) (i : ℕ) (x : A) → b ≡ put_all a (g.all f (take i xs)) → c ≡ put_all b (f x) → x ≡ get_or xs i x → i < length xs
      → c ≡ put_all a (g.all f (take (i + 1) xs))
  all_next a b c xs i x e h is lt =
      h ∙ ap (λ k. put_all k (f x)) e ∙ sym (put_all_append a (g.all f (take i xs)) (f x))
      ∙ ap (put_all a) (sym (all_take xs i x is lt)) ∙ ap (λ n. put_all a (g.all f (take n xs))) (sym (add-one i))

more_all : {A : Type 0} (f : A → List Token) (xs : List A) → g.more f xs ≡ g.all (λ x. t.Mark m.Comma ∷ f x) xs
more_all f [] = refl
more_all f (x ∷ xs) = ap (λ l. t.Mark m.Comma ∷ (f x ++ l)) (more_all f xs)

pub more_next : {A : Type 0} (f : A → List Token) (a b c : Text) (xs : List A) (i : ℕ) (x : A) → b ≡ put_all a (g.more f (take i xs)) → c ≡ put_all b (t.Mark m.Comma ∷ f x)
    → x ≡ get_or xs i x → i < length xs → c ≡ put_all a (g.more f (take (i + 1) xs))
more_next f a b c xs i x e h is lt =
    all_next (λ x. t.Mark m.Comma ∷ f x) a b c xs i x (e ∙ ap (put_all a) (more_all f (take i xs))) h is lt ∙ ap (put_all a) (sym (more_all f (take (i + 1) xs)))

-- ---- the same with the tokens' own rules

module _ {A : Type 0} (f : A → List Token) where
  tokens_next : (xs : List A) (i : ℕ) (x : A) → AllTokens (g.all f (take i xs)) → AllTokens (f x) → x ≡ get_or xs i x → i < length xs → AllTokens (g.all f (take (i + 1) xs))
  tokens_next xs i x h k is lt =
      subst (λ n. AllTokens (g.all f (take n xs))) (sym (add-one i)) (subst AllTokens (sym (all_take f xs i x is lt)) (all_tokens_append (g.all f (take i xs)) (f x) h k))

  pub all_step : (a b c : Text) (xs : List A) (i : ℕ) (x : A) → (b ≡ put_all a (g.all f (take i xs))) × AllTokens (g.all f (take i xs)) → c ≡ put_all b (f x) → AllTokens (f x)
      → x ≡ get_or xs i x → i < length xs → (c ≡ put_all a (g.all f (take (i + 1) xs))) × AllTokens (g.all f (take (i + 1) xs))
  all_step a b c xs i x h e k is lt = (all_next f a b c xs i x h.0 e is lt, tokens_next xs i x h.1 k is lt)

pub more_step : {A : Type 0} (f : A → List Token) (a b c d : Text) (xs : List A) (i : ℕ) (x : A) → (b ≡ put_all a (g.more f (take i xs))) × AllTokens (g.more f (take i xs))
    → c ≡ put b (t.Mark m.Comma) → d ≡ put_all c (f x) → AllTokens (f x)
    → x ≡ get_or xs i x → i < length xs → (d ≡ put_all a (g.more f (take (i + 1) xs))) × AllTokens (g.more f (take (i + 1) xs))
more_step {A = A} f a b c d xs i x h e k tokens is lt =
    let g' : A → List Token = λ y. t.Mark m.Comma ∷ f y in (
      more_next f a b d xs i x h.0 (k ∙ ap (λ s. put_all s (f x)) e) is lt,
      subst AllTokens (sym (more_all f (take (i + 1) xs))) (tokens_next g' xs i x (subst AllTokens (more_all f (take i xs)) h.1) (refl, tokens) is lt),
    )

-- ---- whole texts

written_bytes : (xs : List Token) (bytes : List ℕ) (out : Text) → out ≡ put_all start xs → AllTokens xs → bytes ≡ out.bytes ++ (10 ∷ []) → Splits bytes xs
written_bytes xs bytes out e h f =
    let laid_out : bytes ≡ laid Start 0 false xs = f ∙ ap (λ k. k.bytes ++ (10 ∷ [])) e ∙ put_all-laid start xs in
    subst (λ k. Splits k xs) (sym laid_out) (laid-splits Start 0 false xs h)

-- the text of a net splits into its tokens
pub written : {E : Type 0} (n : Net) (result : Result (List ℕ) E) (out : Text) → out ≡ put_all start (g.net n) → AllTokens (g.net n)
    → IfOk result (λ bytes. bytes ≡ out.bytes ++ (10 ∷ [])) → IfOk result (λ text. Splits text (g.net n))
written n (Ok bytes) out e h f = written_bytes (g.net n) bytes out e h f
written n (Err x) out e h f = tt

-- and reads as the net, where no list is empty that may not be
pub written_reads : {E : Type 0} (n : Net) (result : Result (List ℕ) E) → IfOk result (λ text. Splits text (g.net n)) → IfOk result (λ text. IsFull n → Reads text n)
written_reads n (Ok bytes) h = λ full. record { tokens = h; full = full }
written_reads n (Err x) h = tt
