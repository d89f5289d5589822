-- The readings of statements read the grammar's phrases.
use Rattle.std.proofs.Common.{◌≡◌, ℕ, suc, ◌<◌, ◌≤◌, List, [], ◌∷◌, ◌++◌, Bool, false, refl, ap, ◌∙◌, inl, inr, arith}
use Rattle.std.specs.Prelude.{◌||◌}
use Rattle.verilog_tree.specs.declared.token.Word.TheVariants as w
use Rattle.verilog_tree.specs.declared.token.Mark.TheVariants as m
use Rattle.verilog_tree.specs.declared.token.Token.{Token}
use Rattle.verilog_tree.specs.declared.tree.WriteArgument.TheVariants as a
use Rattle.verilog_tree.specs.declared.tree.Statement.{Statement}
use Rattle.verilog_tree.specs.declared.tree.Statement.TheVariants as st
use Rattle.grammar.specs.Rules.{Placed, pure, many, nested, ◌>>=◌, ◌>>◌}
use Rattle.grammar.specs.Sentences.{Spelled}
use Rattle.grammar.specs.Readers as d
use Rattle.grammar.proofs.Good.{Reads}
use Rattle.grammar.proofs.Parts.{nowhere, reads_nothing, under, some_then, both, ends}
use Rattle.grammar.proofs.Choice.{either_in}
use Rattle.grammar.proofs.Loops.{collected}
use Rattle.grammar.proofs.Nested.{OpensBy, deeper_in, at_any_depth, one_opens, both_opens, either_opens, depth_opens}
use Rattle.verilog_rules.specs.declared.sign.Sign.TheVariants as s
use Rattle.verilog_rules.specs.Signs.{same_word, same_mark, is, sign_at, name_at, is_name}
use Rattle.verilog_rules.specs.Phrases as g
use Rattle.verilog_rules.specs.Reading as r
use Rattle.verilog_rules.proofs.Singles.{All, gives_value, on, on_name, on_quoted, sign_apart, name_apart, sign_then}
use Rattle.verilog_rules.proofs.Shapes.{any_name, next, signed, comma, semicolon}
use Rattle.verilog_rules.proofs.Expressions.{at}

module _ (n : ℕ) where
  set : (x : List ℕ) → Reads All n (λ depth. g.set x) (λ room. r.read_set x) (at m.LessEqual) (λ v. nowhere) false
  unfolding r.read_set
  set x = on n (s.Mark m.LessEqual) (λ u. on_name n (λ y. on n semicolon (λ u. gives_value n (st.Set x y))))

  store : (x : List ℕ) → Reads All n (λ depth. g.store x) (λ room. r.read_store x) (at m.OpenSquare) (λ v. nowhere) false
  unfolding r.read_store
  store x =
      on n (s.Mark m.OpenSquare) (λ u. on_name n (λ address. on n (s.Mark m.CloseSquare) (λ u. on n (s.Mark m.LessEqual) (λ u. on_name n (λ y. on n semicolon (λ u.
      gives_value n (st.Store x address y)))))))

  written : Reads All n (λ depth. g.written) (λ room. r.read_written) is_name (λ v. nowhere) false
  unfolding r.read_written same_mark
  written =
      on_name n (λ x. either_in (set x) (store x) (λ y a b. sign_apart (s.Mark m.LessEqual) (at m.OpenSquare) refl y a b) (λ v. nowhere) (λ v y h. h) (λ v y h. h)
      (λ depth k v y a b c. cc))

  argument : Reads All n (λ depth. g.argument) (λ room. r.read_argument) (λ x. is_name x || at m.Signed x) (λ v. nowhere) false
  unfolding r.read_argument r.read_unsigned_argument r.read_signed_argument
  argument =
      either_in (ends (any_name n) a.Unsigned (λ v. nowhere) (λ v x h. h)) (ends (signed n) a.Signed (λ v. nowhere) (λ v x h. h)) (λ x b c. name_apart (at m.Signed)
      (λ k. refl) x b c)
      (λ v. nowhere) (λ v x h. h) (λ v x h. h) (λ depth k v x a b c. cc)

  write : Reads All n (λ depth. g.write) (λ room. r.read_write) (at m.Write) (λ v. nowhere) false
  unfolding r.read_write r.read_arguments same_mark
  write =
      on n (s.Mark m.Write) (λ u. on n (s.Mark m.OpenRound) (λ u. on_quoted n (λ text. both (collected (next argument (λ x l h. cc)) (λ x l f. cc))
      (λ arguments. on n (s.Mark m.CloseRound) (λ u. on n semicolon (λ u. gives_value n (st.Write text arguments))))
      (λ vs x l h. sign_apart (s.Mark m.CloseRound) (λ y. false || is comma y) refl x h l) (λ v. nowhere) (λ b x h. h) (λ vs depth k b x f c l. cc))))

  branch_head : Reads All n (λ depth. g.branch_head) (λ room. r.read_branch_head) (is (s.Word w.If)) (λ v. nowhere) false
  unfolding r.read_branch_head
  branch_head =
      on n (s.Word w.If) (λ u. on n (s.Mark m.OpenRound) (λ u. on_name n (λ x. on n (s.Mark m.CloseRound) (λ u. on n (s.Word w.Begin) (λ u. gives_value n x)))))

  plain_statement : Reads All n (λ depth. g.plain_statement) (λ room. r.read_plain) (λ x. is_name x || at m.Write x) (λ v. nowhere) false
  unfolding r.read_plain
  plain_statement = either_in written write (λ x b c. name_apart (at m.Write) (λ k. refl) x b c) (λ v. nowhere) (λ v x h. h) (λ v x h. h) (λ depth k v x a b c. cc)

-- ---- statements in statements

-- no token stands a level deeper than its phrase
abbrev no_bracket : Token → Bool
no_bracket x = false

none_first : (x : Placed Token) (front back : List (Placed Token)) → [] ≡ front ++ back → front ≡ x ∷ [] → ⊥
none_first x front back e one = let whole : [] ≡ x ∷ back = e ∙ ap (λ l. l ++ back) one in cc (whole)

head_some : (depth at : ℕ) (x : List ℕ) → g.branch_head at [] x → ⊥
head_some depth at x h = none_first (h.4.0, at) h.1 h.2 h.3 h.4.1

statement_opens_at : OpensBy All no_bracket (λ depth. g.any_statement (g.statement depth))
statement_opens_at =
    either_opens
    (both_opens (λ x depth. many (nested (g.statement depth)) >>= (λ body. g.sign (s.Word w.End) >> pure (st.If x body))) head_some
    (one_opens no_bracket (sign_at (s.Word w.If)) _ (λ x h. refl)))
    (either_opens (one_opens no_bracket name_at _ (λ x h. refl)) (one_opens no_bracket (sign_at (s.Mark m.Write)) _ (λ x h. refl)))

statement_opens : {D : ℕ → Type 0} → OpensBy D no_bracket g.statement
statement_opens = depth_opens g.statement no_bracket (λ k ts v c. c) statement_opens_at

too_deep_alone : {A : Type 0} (ts : List Token) → d.too_deep {A = A} r.begins_statement ts ≡ d.too_deep_or no_bracket r.begins_statement ts
too_deep_alone [] = refl
too_deep_alone (x ∷ ts) = refl

module _ {D : ℕ → Type 0} (n k : ℕ) (le : n ≤ suc k) (more : k ≤ n) (whole : 0 < n → (depth : ℕ) → D depth)
    (good : Reads D k g.statement (λ room. r.read_statement (suc room)) r.begins_statement (λ v. nowhere) false) where
  -- one level deeper
  inner : Reads D k (λ depth. nested (g.statement depth)) r.read_statement r.begins_statement (λ v. nowhere) false
  unfolding r.read_statement
  inner = deeper_in good no_bracket statement_opens (λ x h. cc) r.read_statement (λ ts. too_deep_alone ts) (λ room ts. refl)

  body : (x : List ℕ) → Reads D k (λ depth. many (nested (g.statement depth)) >>= (λ body. g.sign (s.Word w.End) >> pure (st.If x body)))
      (λ room. d.reads_both (r.read_statements (r.read_statement room)) (λ body. d.reads_both (r.expect (s.Word w.End)) (λ u. d.reads_pure (st.If x body))))
      (λ y. r.begins_statement y || is (s.Word w.End) y) (λ v. nowhere) false
  unfolding r.read_statements same_word
  body x =
      both (collected inner (λ y l h. cc)) (λ body. sign_then {n = k} {m = k} (omega arith) good.whole (s.Word w.End) (λ u. reads_nothing good.whole (st.If x body)))
      (λ vs y l h. sign_apart (s.Word w.End) (λ z. false || r.begins_statement z) refl y h l) (λ v. nowhere) (λ b y h. h) (λ vs depth k b y f c l. cc)

  branch : Reads D n (λ depth. g.branch (g.statement depth)) (λ room. r.read_branch (r.read_statement room)) (is (s.Word w.If)) (λ v. nowhere) false
  unfolding r.read_branch
  branch = some_then {n = n} {m = k} le (under (branch_head n) whole (λ depth. tt)) body (λ v y l h. cc) (λ v. nowhere) (λ b y h. h) (λ x depth k b y f c l. cc)

  any_statement : Reads D n (λ depth. g.any_statement (g.statement depth)) (λ room. r.read_statement (suc room)) r.begins_statement (λ v. nowhere) false
  unfolding r.read_statement same_word
  any_statement =
      either_in branch (under (plain_statement n) whole (λ depth. tt)) (λ x b c. sign_apart (s.Word w.If) (λ y. is_name y || at m.Write y) refl x b c) (λ v. nowhere)
      (λ v x h. h) (λ v x h. h)
      (λ depth k v x a b c. cc)

some_statement : (k : ℕ) → (ts : List (Placed Token)) × (v : Statement) × Spelled g.statement k ts v
some_statement k = let found = (written 0).inhabited (λ depth. tt) k in (found.0, found.1, (1, inr (inl found.2.1)))

statement_step : (D : ℕ → Type 0) (n m : ℕ) → n ≤ suc m → m ≤ n → (0 < n → (depth : ℕ) → D depth)
    → Reads D m g.statement (λ room. r.read_statement (suc room)) r.begins_statement (λ v. nowhere) false
    → Reads D n (λ depth. g.statement (suc depth)) (λ room. r.read_statement (suc room)) r.begins_statement (λ v. nowhere) false
statement_step D n m le more whole good = any_statement n m le more whole good

pub statement : (n : ℕ) → Reads All n g.statement (λ room. r.read_statement (suc room)) r.begins_statement (λ v. nowhere) false
statement n = at_any_depth g.statement (λ fuel room. r.read_statement (suc room)) (λ k ts v c. c) (λ h k. cc) some_statement statement_step n
