-- The readings of statements read the grammar's rules.
use Rattle.std.proofs.Common.{◌≡◌, ℕ, zero, suc, ◌+◌, ◌<◌, ◌≤◌, List, [], ◌∷◌, ◌++◌, Option, Some, None, Bool, true, false, refl, sym, ap, ◌∙◌, subst, inl, inr, ⊎_elim, arith}
use Rattle.std.specs.Prelude.{Ok, Err, if◌then◌else◌, ◌||◌, ◌&&◌, not}
use Rattle.std.proofs.lemmas.Bool.{or_left, false_from_ne_true, and_parts}
use Rattle.c_token.specs.declared.keyword.Keyword.{Keyword}
use Rattle.c_token.specs.declared.keyword.Keyword.TheVariants as k
use Rattle.c_token.specs.declared.punctuator.Punctuator.TheVariants as p
use Rattle.c_token.specs.declared.token.Kind.TheVariants as kind
use Rattle.c_token.specs.declared.token.Token.{Token}
use Rattle.grammar.specs.Rules.{Placed, Family, pure, one, ◌>>=◌, ◌>>◌, many, nested}
use Rattle.grammar.specs.Sentences.{Spelled}
use Rattle.grammar.specs.Readers as d
use Rattle.c_tree.specs.declared.sign.Sign.{Sign}
use Rattle.c_tree.specs.declared.sign.Sign.TheVariants.{Word, Mark}
use Rattle.c_tree.specs.declared.expression.Expression.{Expression}
use Rattle.c_tree.specs.declared.statement.SimpleStatement.{SimpleStatement}
use Rattle.c_tree.specs.declared.statement.Returned.{Returned}
use Rattle.c_tree.specs.declared.statement.ForStart.{ForStart}
use Rattle.c_tree.specs.declared.statement.Block.{Block}
use Rattle.c_tree.specs.declared.statement.BlockItem.TheVariants as block_item
use Rattle.c_tree.specs.declared.statement.BlockItem.TheOpen.{Statement-F}
use Rattle.c_tree.specs.declared.statement.BlockItem.TheFolds.{fold-roll-Statement}
use Rattle.c_tree.specs.declared.statement.Statement.{Statement}
use Rattle.c_tree.specs.declared.statement.Statement.TheVariants as st
use Rattle.c_tree.specs.declared.statement.Group.{Group}
use Rattle.c_tree.specs.Tokens.{same_keyword, same_punctuator, is, is_some, sign_at, name_at, direction_at, direction_of, word_type, is_type_word}
use Rattle.c_tree.specs.Trees as tree
use Rattle.c_tree.specs.Expressions as g
use Rattle.c_tree.specs.Statements as h
use Rattle.c_tree.specs.Statements.{closed, closed_step}
use Rattle.c_reading.specs.Tokens as r
use Rattle.c_reading.specs.Statements as s
use Rattle.grammar.proofs.Lists.{or_cases}
use Rattle.grammar.proofs.Good.{Reads, ◌∘>◌, less}
use Rattle.grammar.proofs.Parts.{gives, nowhere, reads_nothing, widen, under, same_reader, no_longer, reads_regrouped, some_then, in_turn, both, ends, then_ok, when_ok}
use Rattle.grammar.proofs.Both.{both_in}
use Rattle.grammar.proofs.Choice.{either_in, may}
use Rattle.grammar.proofs.Loops.{collected}
use Rattle.grammar.proofs.Nested.{OpensBy, deeper_in, within_in, at_any_depth, one_flat, one_opens, group_opens, both_opens, either_opens, depth_opens}
use Rattle.c_reading.proofs.TokenProofs.{token, sign_kind, sign_gives, sign_apart, sign_exactly, some_exactly, placed_exactly, name_apart, type_apart, direction_apart, sign_then}
use Rattle.c_reading.proofs.ExprShapes.{open_round, All}
use Rattle.c_reading.proofs.PlainProofs.{semicolon, plain_statement, declaration, condition, for_head, label}

abbrev pub open_curly : Sign
open_curly = Mark p.OpenCurly

abbrev pub close_curly : Sign
close_curly = Mark p.CloseCurly

abbrev pub else_word : Sign
else_word = Word k.Else

-- ---- which statements an else may stand behind

closed_empty : closed st.Empty ≡ true
closed_empty = ap closed (sym st.rolls-Empty) ∙ fold-roll-Statement Bool Bool Bool Bool (λ i. true) closed_step (λ b. true) (λ g. true) Statement-F.Empty

closed_simple : (y : SimpleStatement) → closed (st.Simple y) ≡ true
closed_simple y = ap closed (sym (st.rolls-Simple y)) ∙ fold-roll-Statement Bool Bool Bool Bool (λ i. true) closed_step (λ b. true) (λ g. true) (Statement-F.Simple y)

closed_break : (at : ℕ) → closed (st.Break at) ≡ true
closed_break at = ap closed (sym (st.rolls-Break at)) ∙ fold-roll-Statement Bool Bool Bool Bool (λ i. true) closed_step (λ b. true) (λ g. true) (Statement-F.Break at)

closed_continue : (at : ℕ) → closed (st.Continue at) ≡ true
closed_continue at = ap closed (sym (st.rolls-Continue at)) ∙ fold-roll-Statement Bool Bool Bool Bool (λ i. true) closed_step (λ b. true) (λ g. true) (Statement-F.Continue at)

closed_return : (y : Returned) (at : ℕ) → closed (st.Return y at) ≡ true
closed_return y at = ap closed (sym (st.rolls-Return y at)) ∙ fold-roll-Statement Bool Bool Bool Bool (λ i. true) closed_step (λ b. true) (λ g. true) (Statement-F.Return y at)

closed_block : (b : Block) → closed (st.Block b) ≡ true
closed_block b = ap closed (sym (st.rolls-Block b)) ∙ fold-roll-Statement Bool Bool Bool Bool (λ i. true) closed_step (λ b. true) (λ g. true) (Statement-F.Block b)

closed_do : (body : Statement) (c : Expression) → closed (st.DoWhile body c) ≡ true
closed_do body c = ap closed (sym (st.rolls-DoWhile body c)) ∙ fold-roll-Statement Bool Bool Bool Bool (λ i. true) closed_step (λ b. true) (λ g. true) (Statement-F.DoWhile body c)

closed_open : (c : Expression) (body : Statement) → closed (st.If c body None) ≡ false
closed_open c body = ap closed (sym (st.rolls-If c body None)) ∙ fold-roll-Statement Bool Bool Bool Bool (λ i. true) closed_step (λ b. true) (λ g. true) (Statement-F.If c body None)

closed_else : (c : Expression) (body other : Statement) → closed (st.If c body (Some other)) ≡ closed other
closed_else c body other = ap closed (sym (st.rolls-If c body (Some other))) ∙ fold-roll-Statement Bool Bool Bool Bool (λ i. true) closed_step (λ b. true) (λ g. true) (Statement-F.If c body (Some other))

closed_while : (c : Expression) (body : Statement) → closed (st.While c body) ≡ closed body
closed_while c body = ap closed (sym (st.rolls-While c body)) ∙ fold-roll-Statement Bool Bool Bool Bool (λ i. true) closed_step (λ b. true) (λ g. true) (Statement-F.While c body)

closed_for : (first : ForStart) (c : Option Expression) (step : Option SimpleStatement) (body : Statement) → closed (st.For first c step body) ≡ closed body
closed_for first c step body = ap closed (sym (st.rolls-For first c step body)) ∙ fold-roll-Statement Bool Bool Bool Bool (λ i. true) closed_step (λ b. true) (λ g. true) (Statement-F.For first c step body)

closed_switch : (c : Expression) (groups : List Group) (at : ℕ) → closed (st.Switch c groups at) ≡ true
closed_switch c groups at =
    ap closed (sym (st.rolls-Switch c groups at)) ∙ fold-roll-Statement Bool Bool Bool Bool (λ i. true) closed_step (λ b. true) (λ g. true) (Statement-F.Switch c groups at)

-- what goes on after a statement
abbrev pub After : Statement → Token → Bool
After v z = not (closed v) && is else_word z

pub after_else : (v : Statement) (z : Token) → After v z ≡ true → is else_word z ≡ true
after_else v z h = (and_parts (not (closed v)) (is else_word z) h).1

open_after : (v : Statement) (z : Token) → closed v ≡ false → is else_word z ≡ true → After v z ≡ true
open_after v z c h = ap (λ b. not b && is else_word z) c ∙ h

-- ---- tokens that begin statements

word_begins_none : (w : Keyword) (at : ℕ) → is_some (word_type w) ≡ true → r.begins_statement (token (kind.Keyword w) at) ≡ false
unfolding same_keyword
word_begins_none k.Auto at h = cc
word_begins_none k.Break at h = cc
word_begins_none k.Case at h = cc
word_begins_none k.Char at h = refl
word_begins_none k.Const at h = refl
word_begins_none k.Continue at h = cc
word_begins_none k.Default at h = cc
word_begins_none k.Do at h = cc
word_begins_none k.Double at h = cc
word_begins_none k.Else at h = cc
word_begins_none k.Enum at h = cc
word_begins_none k.Extern at h = cc
word_begins_none k.Float at h = cc
word_begins_none k.For at h = cc
word_begins_none k.Goto at h = cc
word_begins_none k.If at h = cc
word_begins_none k.Inline at h = cc
word_begins_none k.Int at h = refl
word_begins_none k.Long at h = refl
word_begins_none k.Register at h = cc
word_begins_none k.Restrict at h = cc
word_begins_none k.Return at h = cc
word_begins_none k.Short at h = refl
word_begins_none k.Signed at h = refl
word_begins_none k.Sizeof at h = cc
word_begins_none k.Static at h = refl
word_begins_none k.Struct at h = cc
word_begins_none k.Switch at h = cc
word_begins_none k.Typedef at h = cc
word_begins_none k.Union at h = cc
word_begins_none k.Unsigned at h = refl
word_begins_none k.Void at h = refl
word_begins_none k.Volatile at h = cc
word_begins_none k.While at h = cc
word_begins_none k.Bool at h = cc
word_begins_none k.Complex at h = cc
word_begins_none k.Imaginary at h = cc
word_begins_none k.Null at h = cc
word_begins_none k.MutexInitializer at h = cc
word_begins_none k.ThreadId at h = refl
word_begins_none k.Mutex at h = refl
word_begins_none k.Barrier at h = refl

pub type_statement : (z : Token) → is_type_word z ≡ true → r.begins_statement z ≡ true → ⊥
type_statement z a b = type_apart r.begins_statement word_begins_none z a b

curly_begins : (z : Token) → is open_curly z ≡ true → r.begins_statement z ≡ true
curly_begins z h = or_left (r.begins_compound z) (r.begins_plain z) (or_left (is open_curly z) _ h)

-- ---- at which level statements begin

not_curly : (q : Sign) → ((at : ℕ) → is open_curly (token (sign_kind q) at) ≡ false) → (z : Token) → gives (sign_at q z) ≡ true → is open_curly z ≡ false
not_curly q out z h = false_from_ne_true (is open_curly z) (λ a. sign_apart q (is open_curly) out z (sym (sign_exactly q z) ∙ h) a)

name_curly : (z : Token) → gives (name_at z) ≡ true → is open_curly z ≡ false
name_curly z h = false_from_ne_true (is open_curly z) (λ a. name_apart (is open_curly) (λ b at. refl) z (sym (some_exactly (name_at z)) ∙ h) a)

direction_curly : (z : Token) → gives (direction_at z) ≡ true → is open_curly z ≡ false
unfolding same_punctuator
direction_curly z h = false_from_ne_true (is open_curly z) (λ a. direction_apart (is open_curly) (λ at. refl) (λ at. refl) z (sym (placed_exactly z.offset (direction_of z)) ∙ h) a)

append_empty : {T : Type 0} (x y : List T) → [] ≡ x ++ y → x ≡ []
append_empty [] y e = refl
append_empty (u ∷ x) y e = cc

none_first : {T : Type 0} (t : T) (front back : List T) → [] ≡ front ++ back → front ≡ t ∷ [] → ⊥
none_first t front back e one = let all : [] ≡ t ∷ back = e ∙ ap (λ l. l ++ back) one in cc (all)

block_some : (depth at : ℕ) (v : Block) → h.block (g.cast depth) (g.expr depth) (h.statement depth) at [] v → ⊥
block_some depth at v c = none_first (c.4.0, at + 1) c.1 c.2 c.3 c.4.1

simple_some : (depth at : ℕ) (v : SimpleStatement) → h.simple (g.cast depth) (g.expr depth) at [] v → ⊥
simple_some depth at v c =
    ⊎_elim
    (λ a. ⊎_elim (λ b. none_first (b.4.0, at) b.1 b.2 b.3 b.4.1) (λ b. none_first (b.4.0, at) b.1 b.2 b.3 b.4.1) a)
    (λ a. ⊎_elim (λ b. none_first (b.4.0, at) b.1 b.2 b.3 b.4.1) (λ b. none_first (b.4.0, at) b.1 b.2 b.3 b.4.1) a)
    c

simple_opens : OpensBy All (is open_curly) (λ depth. h.simple (g.cast depth) (g.expr depth))
simple_opens =
    either_opens
    (either_opens (one_opens (is open_curly) name_at _ name_curly) (one_opens (is open_curly) name_at _ name_curly))
    (either_opens (one_opens (is open_curly) direction_at _ direction_curly) (one_opens (is open_curly) name_at _ name_curly))

statement_opens_at : OpensBy All (is open_curly) (λ depth. h.any_statement (g.cast depth) (g.expr depth) (h.statement depth))
unfolding same_keyword same_punctuator
statement_opens_at =
    either_opens
    (either_opens
    (both_opens (λ b depth. pure (st.Block b)) block_some
    (group_opens (is open_curly) (sign_at open_curly)
    (λ u depth. many (h.item (g.cast depth) (g.expr depth) (h.statement depth)) >>= (λ items. g.sign close_curly >>= (λ close. pure (tree.block items close))))
    (λ z a. sym (sign_exactly open_curly z) ∙ a)))
    (either_opens (one_opens (is open_curly) (sign_at (Word k.If)) _ (not_curly (Word k.If) (λ at. refl)))
    (either_opens (one_opens (is open_curly) (sign_at (Word k.While)) _ (not_curly (Word k.While) (λ at. refl)))
    (either_opens (one_opens (is open_curly) (sign_at (Word k.Do)) _ (not_curly (Word k.Do) (λ at. refl)))
    (either_opens (one_opens (is open_curly) (sign_at (Word k.For)) _ (not_curly (Word k.For) (λ at. refl)))
    (one_opens (is open_curly) (sign_at (Word k.Switch)) _ (not_curly (Word k.Switch) (λ at. refl))))))))
    (either_opens (one_opens (is open_curly) (sign_at semicolon) _ (not_curly semicolon (λ at. refl)))
    (either_opens (one_opens (is open_curly) (sign_at (Word k.Break)) _ (not_curly (Word k.Break) (λ at. refl)))
    (either_opens (one_opens (is open_curly) (sign_at (Word k.Continue)) _ (not_curly (Word k.Continue) (λ at. refl)))
    (either_opens (one_opens (is open_curly) (sign_at (Word k.Return)) _ (not_curly (Word k.Return) (λ at. refl)))
    (both_opens (λ y depth. g.sign semicolon >>= (λ u. pure (st.Simple y))) simple_some simple_opens)))))

pub statement_opens : {D : ℕ → Type 0} → OpensBy D (is open_curly) h.statement
statement_opens = depth_opens h.statement (is open_curly) (λ at w v c. c) statement_opens_at

-- ---- statements, by those of fewer tokens

module _ {D : ℕ → Type 0} (n m : ℕ) (le : n ≤ suc m) (more : m ≤ n) (whole : 0 < n → (depth : ℕ) → D depth)
    (good : Reads D m h.statement (λ room. s.read_statement (suc room)) r.begins_statement After false) where
  on : {B : Type 0} {Q : ℕ → Family Token B} {q : ℕ → ℕ → d.Reader Token B} {first' : ℕ → Token → Bool} {last' : B → Token → Bool} {null' : Bool}
      (z : Sign) → ((a : ℕ) → Reads D m (Q a) (q a) (first' a) last' null') → Reads D m ((λ depth. g.sign z) ∘> Q) (λ room. d.reads_both (r.expect z) (λ a. q a room)) (is z) last' false
  on z after = sign_then {n = m} {m = m} (omega arith) good.whole z after

  gives_value : {B : Type 0} (v : B) → Reads {T = Token} D m (λ depth. pure v) (λ room. d.reads_pure v) nowhere (λ v. nowhere) true
  gives_value v = reads_nothing good.whole v

  -- one level deeper
  inner : Reads D m (λ depth. nested (h.statement depth)) s.read_statement r.begins_statement After false
  unfolding s.read_statement
  inner = deeper_in good (is open_curly) statement_opens curly_begins s.read_statement (λ ts. refl) (λ room ts. refl)

  test : Reads D m (λ depth. h.condition (g.cast depth) (g.expr depth)) (λ room. s.read_condition room) (is open_round) (λ v. nowhere) false
  test = under (condition m) good.whole (λ depth. tt)

  head : Reads D m (λ depth. h.for_head (g.cast depth) (g.expr depth)) (λ room. s.read_for_head room) (is open_round) (λ v. nowhere) false
  head = under (for_head m) good.whole (λ depth. tt)

  -- ---- blocks

  declared_item : Reads D m (λ depth. h.declaration (g.cast depth) (g.expr depth) >>= (λ y. pure (block_item.Declaration y)))
      (λ room. s.read_declared_item (s.read_statement (suc room)) (suc room)) is_type_word (λ v. nowhere) false
  unfolding s.read_declared_item
  declared_item = ends (under (declaration m) good.whole (λ depth. tt)) block_item.Declaration (λ v. nowhere) (λ a z c. c)

  statement_item : Reads D m (λ depth. h.statement depth >>= (λ y. pure (block_item.Statement y)))
      (λ room. s.read_statement_item (s.read_statement (suc room)) (suc room)) r.begins_statement (λ v. is else_word) false
  unfolding s.read_statement_item
  statement_item = ends good block_item.Statement (λ v. is else_word) (λ a z c. after_else a z c)

  item : Reads D m (λ depth. h.item (g.cast depth) (g.expr depth) (h.statement depth)) (λ room. s.read_item (s.read_statement (suc room)) (suc room)) r.begins_item (λ v. is else_word) false
  unfolding s.read_item
  item = either_in declared_item statement_item type_statement (λ v. is else_word) (λ v z c. cc) (λ v z c. c) (λ depth at v z a b c. cc)

  else_item : (z : Token) → is else_word z ≡ true → r.begins_item z ≡ true → ⊥
  unfolding same_keyword
  else_item z a b = sign_apart else_word r.begins_item (λ at. refl) z a b

  pub block : Reads D n (λ depth. h.block (g.cast depth) (g.expr depth) (h.statement depth)) (λ room. s.read_block (s.read_statement room) room) (is open_curly) (λ v. nowhere) false
  unfolding s.read_block same_keyword same_punctuator
  block =
      within_in (λ room. d.reads_both (r.expect open_curly) (λ u. d.reads_both (d.reads_many r.begins_item (s.read_item (s.read_statement room) room))
      (λ items. d.reads_both (r.expect close_curly) (λ close. d.reads_pure (tree.block items close)))))
      (sign_then le whole open_curly (λ u. both (collected item else_item) (λ items. on close_curly (λ close. gives_value (tree.block items close)))
      (λ vs z a b. or_cases (is else_word z) (r.begins_item z) a (λ c. sign_apart close_curly (is else_word) (λ at. refl) z b c) (λ c. sign_apart close_curly r.begins_item (λ at. refl) z b c))
      (λ v. nowhere) (λ b z c. c) (λ a depth at b z f c l. cc)))
      (one_flat (sign_at open_curly) (λ u depth. many (h.item (g.cast depth) (g.expr depth) (h.statement depth)) >>= (λ items. g.sign close_curly >>= (λ close. pure (tree.block items close)))))

  block_statement : Reads D n (λ depth. h.block_statement (g.cast depth) (g.expr depth) (h.statement depth)) (λ room. s.read_block_statement (s.read_statement room) room)
      (is open_curly) After false
  unfolding s.read_block_statement
  block_statement = ends block st.Block After (λ a z c. cc)

  -- ---- loops

  while_loop : Reads D n (λ depth. h.while_loop (g.cast depth) (g.expr depth) (h.statement depth)) (λ room. s.read_while (s.read_statement room) room) (is (Word k.While)) After false
  unfolding s.read_while
  while_loop =
      let body = λ (c : Expression). ends inner (st.While c) After (λ a z f. ap (λ b. not b && is else_word z) (closed_while c a) ∙ f) in
      sign_then le whole (Word k.While) (λ u. some_then {n = m} {m = m} (omega arith) test body (λ c z l f. cc) After (λ b z f. f) (λ c depth at b z f a l. cc))

  do_loop : Reads D n (λ depth. h.do_loop (g.cast depth) (g.expr depth) (h.statement depth)) (λ room. s.read_do (s.read_statement room) room) (is (Word k.Do)) After false
  unfolding s.read_do same_keyword
  do_loop =
      let ending = λ (body : Statement). on (Word k.While) (λ w. in_turn test (λ c. on semicolon (λ u. gives_value (st.DoWhile body c))) (λ c z l f. cc)) in
      sign_then le whole (Word k.Do) (λ u. some_then {n = m} {m = m} (omega arith) inner ending (λ a z l f. sign_apart (Word k.While) (is else_word) (λ at. refl) z f (after_else a z l))
      After (λ b z f. cc) (λ a depth at b z f c l. cc))

  abbrev with_head : (ForStart × Option Expression × Option SimpleStatement) × Statement → Statement
  with_head x = st.For x.0.0 x.0.1 x.0.2 x.1

  for_rest : (head : ForStart × Option Expression × Option SimpleStatement) → Reads D m (λ depth. nested (h.statement depth) >>= (λ body. pure (st.For head.0 head.1 head.2 body)))
      (λ room. d.reads_both (s.read_with_body (s.read_statement room) room head) (λ x. d.reads_pure (with_head x))) r.begins_statement After false
  unfolding s.read_with_body
  for_rest head =
      same_reader (ends inner (st.For head.0 head.1 head.2) After (λ a z f. ap (λ b. not b && is else_word z) (closed_for head.0 head.1 head.2 a) ∙ f))
      (λ room. d.reads_both (d.reads_both (s.read_statement room) (λ body. d.reads_pure (head, body))) (λ x. d.reads_pure (with_head x)))
      (λ room ts lt. sym (reads_regrouped (λ body. d.reads_pure (head, body)) (λ x. d.reads_pure (with_head x)) (s.read_statement room ts)))

  for_loop : Reads D n (λ depth. h.for_loop (g.cast depth) (g.expr depth) (h.statement depth)) (λ room. s.read_for (s.read_statement room) room) (is (Word k.For)) After false
  unfolding s.read_for
  for_loop = sign_then le whole (Word k.For) (λ u. some_then {n = m} {m = m} (omega arith) head for_rest (λ c z l f. cc) After (λ b z f. f) (λ c depth at b z f a l. cc))

  -- ---- switches

  a_label : Reads D m (λ depth. h.label (g.cast depth) (g.expr depth)) (λ room. s.read_label (suc room)) r.begins_label (λ v. nowhere) false
  a_label = under (label m) good.whole (λ depth. tt)

  else_statement : (z : Token) → is else_word z ≡ true → r.begins_statement z ≡ true → ⊥
  unfolding same_keyword
  else_statement z a b = sign_apart else_word r.begins_statement (λ at. refl) z a b

  abbrev after_group : Token → Bool
  after_group z = is else_word z || r.begins_statement z

  statements : Reads D m (λ depth. many (h.statement depth)) (λ room. d.reads_many r.begins_statement (s.read_statement (suc room))) r.begins_statement (λ vs. after_group) true
  statements = collected (widen good (λ v. is else_word) (λ v z f. after_else v z f)) else_statement

  group : Reads D m (λ depth. h.group (g.cast depth) (g.expr depth) (h.statement depth)) (λ room. s.read_group (s.read_statement (suc room)) (suc room)) r.begins_label (λ v. after_group) false
  unfolding s.read_group
  group =
      some_then {n = m} {m = m} (omega arith) a_label (λ x. ends statements (tree.group x) (λ v. after_group) (λ a z f. f)) (λ x z l f. cc) (λ v. after_group) (λ b z f. f)
      (λ a depth at b z f c l. cc)

  group_label : (z : Token) → after_group z ≡ true → r.begins_label z ≡ true → ⊥
  unfolding same_keyword same_punctuator
  group_label z a b =
      or_cases (is (Word k.Case) z) (is (Word k.Default) z) b (λ c. sign_apart (Word k.Case) after_group (λ at. refl) z c a) (λ c. sign_apart (Word k.Default) after_group (λ at. refl) z c a)

  abbrev GroupsRest : ℕ → Family Token (List Group)
  GroupsRest u depth = many (h.group (g.cast depth) (g.expr depth) (h.statement depth)) >>= (λ found. g.sign close_curly >>= (λ close. pure found))

  groups : Reads D n (λ depth. h.groups (g.cast depth) (g.expr depth) (h.statement depth)) (λ room. s.read_groups (s.read_statement room) room) (is open_curly) (λ v. nowhere) false
  unfolding s.read_groups same_keyword same_punctuator
  groups =
      within_in (λ room. d.reads_both (r.expect open_curly) (λ u. d.reads_both (d.reads_many r.begins_label (s.read_group (s.read_statement room) room))
      (λ found. d.reads_both (r.expect close_curly) (λ close. d.reads_pure found))))
      (sign_then le whole open_curly (λ u. both (collected group group_label) (λ found. on close_curly (λ close. gives_value found))
      (λ vs z a b. or_cases (after_group z) (r.begins_label z) a (λ c. sign_apart close_curly after_group (λ at. refl) z b c) (λ c. sign_apart close_curly r.begins_label (λ at. refl) z b c))
      (λ v. nowhere) (λ b z c. c) (λ a depth at b z f c l. cc)))
      (one_flat (sign_at open_curly) GroupsRest)

  groups_open : OpensBy D (is open_curly) (λ depth. h.groups (g.cast depth) (g.expr depth) (h.statement depth))
  groups_open = group_opens (is open_curly) (sign_at open_curly) GroupsRest (λ z a. sym (sign_exactly open_curly z) ∙ a)

  switch_body : Reads D m (λ depth. nested (h.groups (g.cast depth) (g.expr depth) (h.statement depth))) s.read_switch_body (is open_curly) (λ v. nowhere) false
  unfolding s.read_switch_body
  switch_body = deeper_in (less groups m more) (is open_curly) groups_open (λ z f. f) s.read_switch_body (λ ts. refl) (λ room ts. refl)

  switch : Reads D n (λ depth. h.switch (g.cast depth) (g.expr depth) (h.statement depth)) (λ room. s.read_switch (s.read_statement room) (s.read_switch_body room) room) (is (Word k.Switch)) After false
  unfolding s.read_switch
  switch =
      let body = λ (at : ℕ) (x : Expression). ends switch_body (λ found. st.Switch x found at) After (λ a z f. cc) in
      sign_then le whole (Word k.Switch) (λ at. some_then {n = m} {m = m} (omega arith) test (body at) (λ c z l f. cc) After (λ b z f. f) (λ c depth at b z f a l. cc))

  -- ---- if and else

  abbrev ElsePart : Bool → Family Token (Option Statement)
  ElsePart b depth = h.else_part (g.cast depth) (g.expr depth) (h.statement depth) b

  -- what goes on after an else, or after none
  abbrev OtherAfter : Option Statement → Token → Bool
  OtherAfter None z = is else_word z
  OtherAfter (Some v) z = After v z

  abbrev read_part : Bool → ℕ → r.Reads (Option Statement)
  read_part true room = s.read_other (s.read_statement room) room
  read_part false room = d.reads_pure None

  part : (b : Bool) → Reads D m (ElsePart b) (read_part b) (λ z. b && is else_word z) OtherAfter true
  unfolding s.read_other
  part true = may (on else_word (λ u. inner)) OtherAfter (λ v z f. f) (λ z f. f)
  part false = widen (gives_value None) OtherAfter (λ v z f. cc)

  after_branch : (c : Expression) (a : Statement) (o : Option Statement) (z : Token) → OtherAfter o z ≡ true → After (st.If c a o) z ≡ true
  after_branch c a None z f = open_after (st.If c a None) z (closed_open c a) f
  after_branch c a (Some v) z f = ap (λ b. not b && is else_word z) (closed_else c a v) ∙ f

  rest_of_branch : (c : Expression) (a : Statement) → Reads D m (λ depth. ElsePart (closed a) depth >>= (λ o. pure (st.If c a o)))
      (λ room. d.reads_both (read_part (closed a) room) (λ o. d.reads_pure (st.If c a o))) (λ z. closed a && is else_word z) After true
  rest_of_branch c a = ends (part (closed a)) (st.If c a) After (λ o z f. after_branch c a o z f)

  both_ways : (c e : Bool) → (not c && e) ≡ true → (c && e) ≡ true → ⊥
  both_ways true e f l = cc
  both_ways false e f l = cc

  no_tokens_no_else : (b : Bool) (depth at : ℕ) (o : Option Statement) → ElsePart b depth at [] o → o ≡ None
  no_tokens_no_else true depth at o c = ⊎_elim (λ a. nothing_of a.0 a.1 a.2 a.3 a.4) (λ a. a.1) c where
    nothing_of : {X : Type 0} (v : Statement) (f b : List (Placed Token)) → [] ≡ f ++ b → (g.sign else_word >> nested (h.statement depth)) at f v → X
    nothing_of v [] b e a = let none : [] ≡ (a.4.0, at) ∷ a.2 = a.3 ∙ ap (λ l. l ++ a.2) a.4.1 in cc (none)
    nothing_of v (x ∷ f) b e a = cc
  no_tokens_no_else false depth at o c = c.1

  early : (c : Expression) (a : Statement) (depth at : ℕ) (b : Statement) (z : Token) → (ElsePart (closed a) depth >>= (λ o. pure (st.If c a o))) at [] b → After a z ≡ true → After b z ≡ true
  early c a depth at b z f l =
      let front : f.1 ≡ [] = append_empty f.1 f.2 f.3 in
      let no_other : f.0 ≡ None = no_tokens_no_else (closed a) depth at f.0 (subst (λ l. ElsePart (closed a) depth at l f.0) front f.4) in
      let is_open : b ≡ st.If c a None = f.5.1 ∙ ap (st.If c a) no_other in
      subst (λ y. After y z ≡ true) (sym is_open) (open_after (st.If c a None) z (closed_open c a) (after_else a z l))

  chosen : (c : Expression) → Reads D m (λ depth. nested (h.statement depth) >>= (λ a. ElsePart (closed a) depth >>= (λ o. pure (st.If c a o))))
      (λ room. d.reads_both (s.read_statement room) (λ a. d.reads_both (read_part (closed a) room) (λ o. d.reads_pure (st.If c a o)))) r.begins_statement After false
  chosen c =
      both_in inner (rest_of_branch c) (λ a z l f. both_ways (closed a) (is else_word z) l f) (no_longer inner)
      r.begins_statement After (λ z f. f) (λ a z b f. cc) (λ lt at z f. inl f) (λ v z f. f) (λ a depth at b z f c' l. early c a depth at b z c' l)

  -- the reader looks for an else after every statement: after one that ends in an if without else there is none
  module _ (greedy : (room : ℕ) (ts : List Token) (v : Statement) (rest : List Token) → s.read_statement room ts ≡ Ok (v, rest) → closed v ≡ false → d.sees (is else_word) rest ≡ false) where
    abbrev looking : Expression → ℕ → Statement → r.Reads Statement
    looking c room a = d.reads_both (s.read_other (s.read_statement room) room) (λ o. d.reads_pure (st.If c a o))

    same_part : (c : Expression) (room : ℕ) (a : Statement) (mid : List Token) (b : Bool) → closed a ≡ b → (b ≡ false → d.sees (is else_word) mid ≡ false)
        → d.and_then (read_part b room mid) (λ o. d.reads_pure (st.If c a o)) ≡ looking c room a mid
    unfolding s.read_other
    same_part c room a mid true e left = refl
    same_part c room a mid false e left =
        ap (λ y. d.and_then (if y then d.and_then (d.and_then (r.expect else_word mid) (λ u. s.read_statement room)) (λ v. d.reads_pure (Some v)) else Ok (None, mid))
        (λ o. d.reads_pure (st.If c a o))) (sym (left refl))

    same_from : (c : Expression) (room : ℕ) (ts : List Token) (x : d.Reading Token Statement) → s.read_statement room ts ≡ x
        → d.and_then x (λ a. d.reads_both (read_part (closed a) room) (λ o. d.reads_pure (st.If c a o))) ≡ d.and_then x (looking c room)
    same_from c room ts (Ok x) e = same_part c room x.0 x.1 (closed x.0) refl (λ f. greedy room ts x.0 x.1 e f)
    same_from c room ts (Err stop) e = refl

    tail : (c : Expression) → Reads D m (λ depth. nested (h.statement depth) >>= (λ a. ElsePart (closed a) depth >>= (λ o. pure (st.If c a o))))
        (λ room. d.reads_both (s.read_statement room) (looking c room))
        r.begins_statement After false
    tail c = same_reader (chosen c) (λ room. d.reads_both (s.read_statement room) (looking c room)) (λ room ts lt. same_from c room ts (s.read_statement room ts) refl)

    branch : Reads D n (λ depth. h.branch (g.cast depth) (g.expr depth) (h.statement depth)) (λ room. s.read_branch (s.read_statement room) room) (is (Word k.If)) After false
    unfolding s.read_branch
    branch = sign_then le whole (Word k.If) (λ u. some_then {n = m} {m = m} (omega arith) test tail (λ c z l f. cc) After (λ b z f. f) (λ c depth at b z f a l. cc))

    compound : Reads D n (λ depth. h.compound (g.cast depth) (g.expr depth) (h.statement depth)) (λ room. s.read_compound (s.read_statement room) (s.read_switch_body room) room) r.begins_compound After false
    unfolding s.read_compound same_keyword same_punctuator
    compound =
        let last = either_in for_loop switch (λ z a b. sign_apart (Word k.For) (is (Word k.Switch)) (λ at. refl) z a b) After (λ v z f. f) (λ v z f. f) (λ depth at v z a b c. cc) in
        let fourth = either_in do_loop last (λ z a b. sign_apart (Word k.Do) (λ z. is (Word k.For) z || is (Word k.Switch) z) (λ at. refl) z a b) After (λ v z f. f) (λ v z f. f)
        (λ depth at v z a b c. cc) in
        let third = either_in while_loop fourth (λ z a b. sign_apart (Word k.While) (λ z. is (Word k.Do) z || (is (Word k.For) z || is (Word k.Switch) z)) (λ at. refl) z a b)
        After (λ v z f. f) (λ v z f. f) (λ depth at v z a b c. cc) in
        let second = either_in branch third (λ z a b. sign_apart (Word k.If) (λ z. is (Word k.While) z || (is (Word k.Do) z || (is (Word k.For) z || is (Word k.Switch) z))) (λ at. refl) z a b)
        After (λ v z f. f) (λ v z f. f) (λ depth at v z a b c. cc) in
        either_in block_statement second
        (λ z a b. sign_apart open_curly (λ z. is (Word k.If) z || (is (Word k.While) z || (is (Word k.Do) z || (is (Word k.For) z || is (Word k.Switch) z)))) (λ at. refl) z a b)
        After (λ v z f. f) (λ v z f. f) (λ depth at v z a b c. cc)

    plain : Reads D n (λ depth. h.plain_statement (g.cast depth) (g.expr depth)) (λ room. s.read_plain (suc room) room) r.begins_plain (λ v. nowhere) false
    plain = under (plain_statement n) whole (λ depth. tt)

    compound_plain : (z : Token) → r.begins_compound z ≡ true → r.begins_plain z ≡ true → ⊥
    unfolding same_keyword same_punctuator
    compound_plain z a b =
        or_cases (is open_curly z) _ a (λ c. sign_apart open_curly r.begins_plain (λ at. refl) z c b)
        (λ a. or_cases (is (Word k.If) z) _ a (λ c. sign_apart (Word k.If) r.begins_plain (λ at. refl) z c b)
        (λ a. or_cases (is (Word k.While) z) _ a (λ c. sign_apart (Word k.While) r.begins_plain (λ at. refl) z c b)
        (λ a. or_cases (is (Word k.Do) z) _ a (λ c. sign_apart (Word k.Do) r.begins_plain (λ at. refl) z c b)
        (λ a. or_cases (is (Word k.For) z) (is (Word k.Switch) z) a (λ c. sign_apart (Word k.For) r.begins_plain (λ at. refl) z c b)
        (λ c. sign_apart (Word k.Switch) r.begins_plain (λ at. refl) z c b)))))

    pub any_statement : Reads D n (λ depth. h.any_statement (g.cast depth) (g.expr depth) (h.statement depth))
        (λ room. s.read_any_statement (s.read_statement room) (s.read_switch_body room) (suc room) room) r.begins_statement After false
    unfolding s.read_any_statement
    any_statement = either_in compound plain compound_plain After (λ v z f. f) (λ v z f. cc) (λ depth at v z a b c. cc)

-- ---- no else is left after a statement that ends in an if without else

open_or_closed : {X : Type 0} (v u : Statement) → u ≡ v → closed u ≡ true → closed v ≡ false → X
open_or_closed v u e c o = let no_way : ⊥ = cc (ap closed e, c, o) in absurd no_way

abbrev Greedy : r.Reads Statement → Type 0
Greedy q = (ts : List Token) (v : Statement) (rest : List Token) → q ts ≡ Ok (v, rest) → closed v ≡ false → d.sees (is else_word) rest ≡ false

value_of : {A : Type 0} (a b : A) (x y : List Token) → d.reads_pure a x ≡ Ok (b, y) → (a ≡ b) × (x ≡ y)
value_of {A = A} a b x y e =
    let was : A × List Token = (a, x) in
    let now : A × List Token = (b, y) in
    let same : was ≡ now = cc (e) in
    (ap (λ z. z.0) same, ap (λ z. z.1) same)

deep_fails : {A X : Type 0} (f : Token → Bool) (ts : List Token) (z : A × List Token) → d.too_deep f ts ≡ Ok z → X
deep_fails f ts z e = absurd (fails_at (d.sees f ts) e) where
  fails_at : (b : Bool) → (if b then Err (d.Deep 1 ts) else Err (d.Syntax ts)) ≡ Ok z → ⊥
  fails_at true e = cc
  fails_at false e = cc

deeper_fails : {A X : Type 0} (f f' : Token → Bool) (ts : List Token) (z : A × List Token) → d.too_deep_or f f' ts ≡ Ok z → X
deeper_fails {X = X} f f' ts z e = fails_at (d.sees f ts) e where
  fails_at : (b : Bool) → (if b then Err (d.Deep 2 ts) else d.too_deep f' ts) ≡ Ok z → X
  fails_at true e = absurd (let no_way : ⊥ = cc in no_way)
  fails_at false e = deep_fails f' ts z e

greedy_empty : Greedy s.read_empty
unfolding s.read_empty
greedy_empty ts v rest e o =
    let a = then_ok _ (r.expect semicolon ts) e in
    open_or_closed v st.Empty (value_of st.Empty v a.0.1 rest a.2).0 closed_empty o

greedy_break : Greedy s.read_break
unfolding s.read_break
greedy_break ts v rest e o =
    let a = then_ok _ (r.expect (Word k.Break) ts) e in
    let b = then_ok _ (r.expect semicolon a.0.1) a.2 in
    open_or_closed v (st.Break a.0.0) (value_of (st.Break a.0.0) v b.0.1 rest b.2).0 (closed_break a.0.0) o

greedy_continue : Greedy s.read_continue
unfolding s.read_continue
greedy_continue ts v rest e o =
    let a = then_ok _ (r.expect (Word k.Continue) ts) e in
    let b = then_ok _ (r.expect semicolon a.0.1) a.2 in
    open_or_closed v (st.Continue a.0.0) (value_of (st.Continue a.0.0) v b.0.1 rest b.2).0 (closed_continue a.0.0) o

greedy_return : (level inside : ℕ) → Greedy (s.read_return level inside)
unfolding s.read_return
greedy_return level inside ts v rest e o =
    let a = then_ok _ (r.expect (Word k.Return) ts) e in
    let b = then_ok _ (s.read_returned level inside a.0.1) a.2 in
    let c = then_ok _ (r.expect semicolon b.0.1) b.2 in
    open_or_closed v (st.Return b.0.0 a.0.0) (value_of (st.Return b.0.0 a.0.0) v c.0.1 rest c.2).0 (closed_return b.0.0 a.0.0) o

greedy_simple : (level inside : ℕ) → Greedy (s.read_simple_statement level inside)
unfolding s.read_simple_statement
greedy_simple level inside ts v rest e o =
    let a = then_ok _ (s.read_simple level inside ts) e in
    let b = then_ok _ (r.expect semicolon a.0.1) a.2 in
    open_or_closed v (st.Simple a.0.0) (value_of (st.Simple a.0.0) v b.0.1 rest b.2).0 (closed_simple a.0.0) o

greedy_plain : (level inside : ℕ) → Greedy (s.read_plain level inside)
unfolding s.read_plain
greedy_plain level inside ts v rest e o =
    ⊎_elim (λ a. greedy_empty ts v rest a o)
    (λ a. ⊎_elim (λ b. greedy_break ts v rest b o)
    (λ b. ⊎_elim (λ c. greedy_continue ts v rest c o)
    (λ c. ⊎_elim (λ f. greedy_return level inside ts v rest f o) (λ f. greedy_simple level inside ts v rest f o) (when_ok _ _ (d.sees (is (Word k.Return)) ts) c))
    (when_ok _ _ (d.sees (is (Word k.Continue)) ts) b))
    (when_ok _ _ (d.sees (is (Word k.Break)) ts) a))
    (when_ok _ _ (d.sees (is semicolon) ts) e)

module _ (statement : r.Reads Statement) (room : ℕ) (inner_greedy : Greedy statement) where
  greedy_block : Greedy (s.read_block_statement statement room)
  unfolding s.read_block_statement
  greedy_block ts v rest e o =
      let a = then_ok _ (s.read_block statement room ts) e in
      open_or_closed v (st.Block a.0.0) (value_of (st.Block a.0.0) v a.0.1 rest a.2).0 (closed_block a.0.0) o

  greedy_while : Greedy (s.read_while statement room)
  unfolding s.read_while
  greedy_while ts v rest e o =
      let a = then_ok _ (r.expect (Word k.While) ts) e in
      let b = then_ok _ (s.read_condition room a.0.1) a.2 in
      let c = then_ok _ (statement b.0.1) b.2 in
      let end = value_of (st.While b.0.0 c.0.0) v c.0.1 rest c.2 in
      let body_open : closed c.0.0 ≡ false = sym (closed_while b.0.0 c.0.0) ∙ ap closed end.0 ∙ o in
      subst (λ l. d.sees (is else_word) l ≡ false) end.1 (inner_greedy b.0.1 c.0.0 c.0.1 c.1 body_open)

  greedy_do : Greedy (s.read_do statement room)
  unfolding s.read_do
  greedy_do ts v rest e o =
      let a = then_ok _ (r.expect (Word k.Do) ts) e in
      let b = then_ok _ (statement a.0.1) a.2 in
      let c = then_ok _ (r.expect (Word k.While) b.0.1) b.2 in
      let f = then_ok _ (s.read_condition room c.0.1) c.2 in
      let j = then_ok _ (r.expect semicolon f.0.1) f.2 in
      open_or_closed v (st.DoWhile b.0.0 f.0.0) (value_of (st.DoWhile b.0.0 f.0.0) v j.0.1 rest j.2).0 (closed_do b.0.0 f.0.0) o

  greedy_for : Greedy (s.read_for statement room)
  unfolding s.read_for s.read_with_body
  greedy_for ts v rest e o =
      let a = then_ok _ (r.expect (Word k.For) ts) e in
      let b = then_ok _ (s.read_for_head room a.0.1) a.2 in
      let c = then_ok _ (d.and_then (statement b.0.1) (λ body. d.reads_pure (b.0.0, body))) b.2 in
      let f = then_ok _ (statement b.0.1) c.1 in
      let whole = value_of (b.0.0, f.0.0) c.0.0 f.0.1 c.0.1 f.2 in
      let end = value_of (with_head c.0.0) v c.0.1 rest c.2 in
      let value : st.For b.0.0.0 b.0.0.1 b.0.0.2 f.0.0 ≡ v = ap with_head whole.0 ∙ end.0 in
      let body_open : closed f.0.0 ≡ false = sym (closed_for b.0.0.0 b.0.0.1 b.0.0.2 f.0.0) ∙ ap closed value ∙ o in
      subst (λ l. d.sees (is else_word) l ≡ false) (whole.1 ∙ end.1) (inner_greedy b.0.1 f.0.0 f.0.1 f.1 body_open)
    where
      with_head : (ForStart × Option Expression × Option SimpleStatement) × Statement → Statement
      with_head x = st.For x.0.0 x.0.1 x.0.2 x.1

  greedy_other : (ts : List Token) (v : Option Statement) (rest : List Token) (c : Expression) (a : Statement) → s.read_other statement room ts ≡ Ok (v, rest) → closed (st.If c a v) ≡ false
      → d.sees (is else_word) rest ≡ false
  unfolding s.read_other
  greedy_other ts v rest c a e o = other_at (d.sees (is else_word) ts) refl e where
    other_at : (b : Bool) → d.sees (is else_word) ts ≡ b → (if b then d.and_then (d.and_then (r.expect else_word ts) (λ u. statement)) (λ v. d.reads_pure (Some v)) else Ok (None, ts)) ≡ Ok
        (v, rest)
        → d.sees (is else_word) rest ≡ false
    other_at true seen e =
        let x = then_ok _ (d.and_then (r.expect else_word ts) (λ u. statement)) e in
        let y = then_ok _ (r.expect else_word ts) x.1 in
        let end = value_of (Some x.0.0) v x.0.1 rest x.2 in
        let other_open : closed x.0.0 ≡ false = sym (closed_else c a x.0.0) ∙ ap (λ z. closed (st.If c a z)) end.0 ∙ o in
        subst (λ l. d.sees (is else_word) l ≡ false) end.1 (inner_greedy y.0.1 x.0.0 x.0.1 y.2 other_open)
    other_at false seen e = subst (λ l. d.sees (is else_word) l ≡ false) (value_of None v ts rest e).1 seen

  greedy_branch : Greedy (s.read_branch statement room)
  unfolding s.read_branch
  greedy_branch ts v rest e o =
      let a = then_ok _ (r.expect (Word k.If) ts) e in
      let b = then_ok _ (s.read_condition room a.0.1) a.2 in
      let c = then_ok _ (statement b.0.1) b.2 in
      let f = then_ok _ (s.read_other statement room c.0.1) c.2 in
      let end = value_of (st.If b.0.0 c.0.0 f.0.0) v f.0.1 rest f.2 in
      subst (λ l. d.sees (is else_word) l ≡ false) end.1 (greedy_other c.0.1 f.0.0 f.0.1 b.0.0 c.0.0 f.1 (ap closed end.0 ∙ o))

  module _ (groups : r.Reads (List Group)) where
    greedy_switch : Greedy (s.read_switch statement groups room)
    unfolding s.read_switch
    greedy_switch ts v rest e o =
        let a = then_ok _ (r.expect (Word k.Switch) ts) e in
        let b = then_ok _ (s.read_condition room a.0.1) a.2 in
        let c = then_ok _ (groups b.0.1) b.2 in
        open_or_closed v (st.Switch b.0.0 c.0.0 a.0.0) (value_of (st.Switch b.0.0 c.0.0 a.0.0) v c.0.1 rest c.2).0 (closed_switch b.0.0 c.0.0 a.0.0) o

    greedy_compound : Greedy (s.read_compound statement groups room)
    unfolding s.read_compound
    greedy_compound ts v rest e o =
        ⊎_elim (λ a. greedy_block ts v rest a o)
        (λ a. ⊎_elim (λ b. greedy_branch ts v rest b o)
        (λ b. ⊎_elim (λ c. greedy_while ts v rest c o)
        (λ c. ⊎_elim (λ f. greedy_do ts v rest f o)
        (λ f. ⊎_elim (λ j. greedy_for ts v rest j o) (λ j. greedy_switch ts v rest j o) (when_ok _ _ (d.sees (is (Word k.For)) ts) f))
        (when_ok _ _ (d.sees (is (Word k.Do)) ts) c))
        (when_ok _ _ (d.sees (is (Word k.While)) ts) b))
        (when_ok _ _ (d.sees (is (Word k.If)) ts) a))
        (when_ok _ _ (d.sees (is open_curly) ts) e)

greedy : (room : ℕ) → Greedy (s.read_statement room)
unfolding s.read_statement s.read_any_statement
greedy zero ts v rest e o = deeper_fails (is open_curly) r.begins_statement ts (v, rest) e
greedy (suc room) ts v rest e o =
    ⊎_elim (λ a. greedy_compound (s.read_statement room) room (greedy room) (s.read_switch_body room) ts v rest a o) (λ a. greedy_plain (suc room) room ts v rest a o) (when_ok _ _ (d.sees r.begins_compound ts) e)

-- ---- at any depth

some_statement : (at : ℕ) → (w : List (Placed Token)) × (v : Statement) × Spelled h.statement at w v
some_statement at =
    let x : Token = token (kind.Punctuator p.Semicolon) 0 in
    ((x, at) ∷ [], st.Empty, (1, inr (inl (0, (x, at) ∷ [], [], refl, (x, refl, sign_gives semicolon 0), (refl, refl)))))

statement_step : (D : ℕ → Type 0) (n m : ℕ) → n ≤ suc m → m ≤ n → (0 < n → (depth : ℕ) → D depth) → Reads D m h.statement (λ room. s.read_statement (suc room)) r.begins_statement After false
    → Reads D n (λ depth. h.statement (suc depth)) (λ room. s.read_statement (suc room)) r.begins_statement After false
unfolding s.read_statement
statement_step D n m le more whole good = any_statement n m le more whole good greedy

pub statement : (n : ℕ) → Reads All n h.statement (λ room. s.read_statement (suc room)) r.begins_statement After false
statement n = at_any_depth h.statement (λ fuel room. s.read_statement (suc room)) (λ at w v c. c) (λ z at. cc) some_statement statement_step n

-- a block at any depth
pub any_block : (n : ℕ) → Reads All n (λ depth. h.block (g.cast depth) (g.expr depth) (h.statement depth)) (λ room. s.read_block (s.read_statement room) room) (is open_curly) (λ v. nowhere) false
any_block n = block n n (omega arith) (omega arith) (λ lt depth. tt) (statement n)
