-- How the lines of a generated text are read.
use Rattle.std.proofs.Common.{◌≡◌, ℕ, suc, ◌+◌, ◌-◌, ◌*◌, ◌≤◌, List, [], ◌∷◌, ◌++◌, length, length-append, append-nil}
use Rattle.std.proofs.Common.{true, refl, sym, ap, ◌∙◌, subst, append_assoc, inl, inr, arith}
use Rattle.std.specs.Prelude.{◌⊎◌, cond, Ok}
use Rattle.std.specs.List.{flat_map}
use Rattle.c_token.specs.declared.keyword.Keyword.TheVariants as k
use Rattle.c_token.specs.declared.token.Kind.TheVariants as kind
use Rattle.c_token.specs.declared.token.Token.{Token}
use Rattle.c_token.specs.Spelling.{Bytes}
use Rattle.c_lexer.specs.Texts.{tokens}
use Rattle.grammar.specs.Readers.{reads_while, reads_many, sees, appended, and_then}
use Rattle.c_tree.specs.declared.statement.BlockItem.{BlockItem}
use Rattle.c_tree.specs.Tokens.{same_keyword, same_punctuator}
use Rattle.c_reading.specs.Tokens.{Reads, begins_item, expect, read_name, read_constant}
use Rattle.c_reading.specs.Tokens.{read_unary_operator, read_operator}
use Rattle.c_reading.specs.Tokens.{read_assignment_operator, read_next, read_more, read_listed, read_any, read_at_most}
use Rattle.c_reading.specs.Expressions.{read_term, read_binary, read_parenthesized, read_index, read_indices, read_place, read_arguments}
use Rattle.c_reading.specs.Expressions.{read_address, read_any_argument, read_place_of, read_named, read_primary, read_unary}
use Rattle.c_reading.specs.Expressions.{read_converted, read_operand, read_whole, read_cast, read_expr, read_target, read_argument}
use Rattle.c_reading.specs.Statements.{read_called, read_assigned, read_changed, read_on_name, read_simple, read_simple_statement, read_plain}
use Rattle.c_reading.specs.Statements.{read_condition, read_statement_item, read_item, read_block, read_block_statement, read_other, read_branch, read_compound}
use Rattle.c_reading.specs.Statements.{read_any_statement, read_statement}
use Rattle.generated_text.specs.declared.draws.Letter.{Letter}
use Rattle.generated_text.specs.declared.draws.Kind.{Kind as LineKind}
use Rattle.generated_text.specs.declared.draws.Kind.TheVariants.{Sum, Difference, Product, ExclusiveOr, Quotient, Raise, Publish, Add}
use Rattle.generated_text.specs.declared.draws.Line.{Line}
use Rattle.generated_profile.proofs.Pieces as ps
use Rattle.generated_profile.proofs.Placed.{kinds, placed, place_in, statement_in_line, statement_placed}
use Rattle.generated_profile.proofs.Splitting.{behind, tokens_append}
use Rattle.c_tree.specs.declared.expression.BinaryOperator.TheVariants as b
use Rattle.generated_profile.proofs.Trees.{operation_item, quotient_item, raise_item, publish_item, lock_item, add_item, unlock_item, line_items}

-- an item of a function's body, and items one after another behind those found
abbrev pub item : Reads BlockItem
item = read_item (read_statement 64) 64

abbrev pub items : ℕ → List BlockItem → Reads (List BlockItem)
items n found ts = reads_while (sees begins_item) appended item n found ts

pub one_read : (n : ℕ) (found : List BlockItem) (ts : List Token) {rest : List Token} {v : BlockItem} → item ts ≡ Ok (v, rest) →
    sees begins_item ts ≡ true → items (suc n) found ts ≡ items n (found ++ (v ∷ [])) rest
unfolding reads_while
one_read n found ts read ahead =
    ap (λ b. cond b (and_then (item ts) (λ w. items n (found ++ (w ∷ [])))) (Ok (found, ts))) ahead
    ∙ ap (λ r. and_then r (λ w. items n (found ++ (w ∷ [])))) read

-- what a line may be followed by: a token that is a name, or the word if
abbrev pub Next : List Token → Type 0
Next more =
    ((w : Bytes) × (o : ℕ) × (rest : List Token) × (more ≡ record { kind = kind.Name w; offset = o } ∷ rest))
    ⊎ ((o : ℕ) × (rest : List Token) × (more ≡ record { kind = kind.Keyword k.If; offset = o } ∷ rest))

abbrev tokens_of : (ℕ → ℕ) → LineKind → Letter → Letter → Letter → List Token
tokens_of at k x y z = placed 0 at (kinds (statement_in_line k x y z))

module _ (at : ℕ → ℕ) (x y z : Letter) where
  sum_reads : (more : List Token) → item (tokens_of at Sum x y z ++ more) ≡ Ok (operation_item b.Add at x y z, more)
  unfolding same_keyword same_punctuator expect read_name read_constant read_unary_operator read_operator read_assignment_operator read_next read_more
      read_listed read_any read_term read_binary read_parenthesized read_index read_at_most read_indices read_place read_arguments read_address
      read_any_argument read_place_of read_named read_primary read_unary read_converted read_operand read_whole read_cast read_expr read_target
      read_argument read_called read_assigned read_changed read_on_name read_simple read_simple_statement read_plain read_condition
      read_statement_item read_item read_block read_block_statement read_other read_branch read_compound read_any_statement read_statement reads_many
      reads_while
  sum_reads more = refl

  difference_reads : (more : List Token) → item (tokens_of at Difference x y z ++ more) ≡ Ok (operation_item b.Subtract at x y z, more)
  unfolding same_keyword same_punctuator expect read_name read_constant read_unary_operator read_operator read_assignment_operator read_next read_more
      read_listed read_any read_term read_binary read_parenthesized read_index read_at_most read_indices read_place read_arguments read_address
      read_any_argument read_place_of read_named read_primary read_unary read_converted read_operand read_whole read_cast read_expr read_target
      read_argument read_called read_assigned read_changed read_on_name read_simple read_simple_statement read_plain read_condition
      read_statement_item read_item read_block read_block_statement read_other read_branch read_compound read_any_statement read_statement reads_many
      reads_while
  difference_reads more = refl

  product_reads : (more : List Token) → item (tokens_of at Product x y z ++ more) ≡ Ok (operation_item b.Multiply at x y z, more)
  unfolding same_keyword same_punctuator expect read_name read_constant read_unary_operator read_operator read_assignment_operator read_next read_more
      read_listed read_any read_term read_binary read_parenthesized read_index read_at_most read_indices read_place read_arguments read_address
      read_any_argument read_place_of read_named read_primary read_unary read_converted read_operand read_whole read_cast read_expr read_target
      read_argument read_called read_assigned read_changed read_on_name read_simple read_simple_statement read_plain read_condition
      read_statement_item read_item read_block read_block_statement read_other read_branch read_compound read_any_statement read_statement reads_many
      reads_while
  product_reads more = refl

  exclusive_or_reads : (more : List Token) → item (tokens_of at ExclusiveOr x y z ++ more) ≡ Ok (operation_item b.BitXor at x y z, more)
  unfolding same_keyword same_punctuator expect read_name read_constant read_unary_operator read_operator read_assignment_operator read_next read_more
      read_listed read_any read_term read_binary read_parenthesized read_index read_at_most read_indices read_place read_arguments read_address
      read_any_argument read_place_of read_named read_primary read_unary read_converted read_operand read_whole read_cast read_expr read_target
      read_argument read_called read_assigned read_changed read_on_name read_simple read_simple_statement read_plain read_condition
      read_statement_item read_item read_block read_block_statement read_other read_branch read_compound read_any_statement read_statement reads_many
      reads_while
  exclusive_or_reads more = refl

  quotient_reads : (more : List Token) → item (tokens_of at Quotient x y z ++ more) ≡ Ok (quotient_item at x y z, more)
  unfolding same_keyword same_punctuator expect read_name read_constant read_unary_operator read_operator read_assignment_operator read_next read_more
      read_listed read_any read_term read_binary read_parenthesized read_index read_at_most read_indices read_place read_arguments read_address
      read_any_argument read_place_of read_named read_primary read_unary read_converted read_operand read_whole read_cast read_expr read_target
      read_argument read_called read_assigned read_changed read_on_name read_simple read_simple_statement read_plain read_condition
      read_statement_item read_item read_block read_block_statement read_other read_branch read_compound read_any_statement read_statement reads_many
      reads_while
  quotient_reads more = refl

  publish_reads : (more : List Token) → item (tokens_of at Publish x y z ++ more) ≡ Ok (publish_item at x, more)
  unfolding same_keyword same_punctuator expect read_name read_constant read_unary_operator read_operator read_assignment_operator read_next read_more
      read_listed read_any read_term read_binary read_parenthesized read_index read_at_most read_indices read_place read_arguments read_address
      read_any_argument read_place_of read_named read_primary read_unary read_converted read_operand read_whole read_cast read_expr read_target
      read_argument read_called read_assigned read_changed read_on_name read_simple read_simple_statement read_plain read_condition
      read_statement_item read_item read_block read_block_statement read_other read_branch read_compound read_any_statement read_statement reads_many
      reads_while
  publish_reads more = refl

  raise_before_name : (w : Bytes) (o : ℕ) (rest : List Token) →
      item (tokens_of at Raise x y z ++ (record { kind = kind.Name w; offset = o } ∷ rest))
      ≡ Ok (raise_item at x y z, record { kind = kind.Name w; offset = o } ∷ rest)
  unfolding same_keyword same_punctuator expect read_name read_constant read_unary_operator read_operator read_assignment_operator read_next read_more
      read_listed read_any read_term read_binary read_parenthesized read_index read_at_most read_indices read_place read_arguments read_address
      read_any_argument read_place_of read_named read_primary read_unary read_converted read_operand read_whole read_cast read_expr read_target
      read_argument read_called read_assigned read_changed read_on_name read_simple read_simple_statement read_plain read_condition
      read_statement_item read_item read_block read_block_statement read_other read_branch read_compound read_any_statement read_statement reads_many
      reads_while
  raise_before_name w o rest = refl

  raise_before_if : (o : ℕ) (rest : List Token) →
      item (tokens_of at Raise x y z ++ (record { kind = kind.Keyword k.If; offset = o } ∷ rest))
      ≡ Ok (raise_item at x y z, record { kind = kind.Keyword k.If; offset = o } ∷ rest)
  unfolding same_keyword same_punctuator expect read_name read_constant read_unary_operator read_operator read_assignment_operator read_next read_more
      read_listed read_any read_term read_binary read_parenthesized read_index read_at_most read_indices read_place read_arguments read_address
      read_any_argument read_place_of read_named read_primary read_unary read_converted read_operand read_whole read_cast read_expr read_target
      read_argument read_called read_assigned read_changed read_on_name read_simple read_simple_statement read_plain read_condition
      read_statement_item read_item read_block read_block_statement read_other read_branch read_compound read_any_statement read_statement reads_many
      reads_while
  raise_before_if o rest = refl

  raise_reads : (more : List Token) → Next more → item (tokens_of at Raise x y z ++ more) ≡ Ok (raise_item at x y z, more)
  raise_reads more (inl (w, o, rest, e)) =
      subst (λ l. item (tokens_of at Raise x y z ++ l) ≡ Ok (raise_item at x y z, l)) (sym e) (raise_before_name w o rest)
  raise_reads more (inr (o, rest, e)) =
      subst (λ l. item (tokens_of at Raise x y z ++ l) ≡ Ok (raise_item at x y z, l)) (sym e) (raise_before_if o rest)

  -- ---- a line of three statements

  abbrev adding : List Token → List Token
  adding more = placed 6 at (kinds (ps.adding_pieces x)) ++ more

  abbrev unlocking : List Token → List Token
  unlocking more = placed 10 at (kinds ps.unlocking_pieces) ++ more

  lock_reads : (more : List Token) → item (tokens_of at Add x y z ++ more) ≡ Ok (lock_item at, adding (unlocking more))
  unfolding same_keyword same_punctuator expect read_name read_constant read_unary_operator read_operator read_assignment_operator read_next read_more
      read_listed read_any read_term read_binary read_parenthesized read_index read_at_most read_indices read_place read_arguments read_address
      read_any_argument read_place_of read_named read_primary read_unary read_converted read_operand read_whole read_cast read_expr read_target
      read_argument read_called read_assigned read_changed read_on_name read_simple read_simple_statement read_plain read_condition
      read_statement_item read_item read_block read_block_statement read_other read_branch read_compound read_any_statement read_statement reads_many
      reads_while
  lock_reads more = refl

  add_reads : (more : List Token) → item (adding more) ≡ Ok (add_item at x, more)
  unfolding same_keyword same_punctuator expect read_name read_constant read_unary_operator read_operator read_assignment_operator read_next read_more
      read_listed read_any read_term read_binary read_parenthesized read_index read_at_most read_indices read_place read_arguments read_address
      read_any_argument read_place_of read_named read_primary read_unary read_converted read_operand read_whole read_cast read_expr read_target
      read_argument read_called read_assigned read_changed read_on_name read_simple read_simple_statement read_plain read_condition
      read_statement_item read_item read_block read_block_statement read_other read_branch read_compound read_any_statement read_statement reads_many
      reads_while
  add_reads more = refl

  unlock_reads : (more : List Token) → item (unlocking more) ≡ Ok (unlock_item at, more)
  unfolding same_keyword same_punctuator expect read_name read_constant read_unary_operator read_operator read_assignment_operator read_next read_more
      read_listed read_any read_term read_binary read_parenthesized read_index read_at_most read_indices read_place read_arguments read_address
      read_any_argument read_place_of read_named read_primary read_unary read_converted read_operand read_whole read_cast read_expr read_target
      read_argument read_called read_assigned read_changed read_on_name read_simple read_simple_statement read_plain read_condition
      read_statement_item read_item read_block read_block_statement read_other read_branch read_compound read_any_statement read_statement reads_many
      reads_while
  unlock_reads more = refl

-- how many turns are made for a line and more of them
abbrev turns : LineKind → ℕ → ℕ
turns Add n = suc (suc (suc n))
turns k n = suc n

statement_reads : (k : LineKind) (at : ℕ → ℕ) (x y z : Letter) (n : ℕ) (found : List BlockItem) (more : List Token) → Next more →
    items (turns k n) found (tokens_of at k x y z ++ more) ≡ items n (found ++ line_items k at x y z) more
unfolding same_keyword same_punctuator
statement_reads Sum at x y z n found more next = one_read n found (tokens_of at Sum x y z ++ more) (sum_reads at x y z more) refl
statement_reads Difference at x y z n found more next = one_read n found (tokens_of at Difference x y z ++ more) (difference_reads at x y z more) refl
statement_reads Product at x y z n found more next = one_read n found (tokens_of at Product x y z ++ more) (product_reads at x y z more) refl
statement_reads ExclusiveOr at x y z n found more next = one_read n found (tokens_of at ExclusiveOr x y z ++ more) (exclusive_or_reads at x y z more) refl
statement_reads Quotient at x y z n found more next = one_read n found (tokens_of at Quotient x y z ++ more) (quotient_reads at x y z more) refl
statement_reads Raise at x y z n found more next = one_read n found (tokens_of at Raise x y z ++ more) (raise_reads at x y z more next) refl
statement_reads Publish at x y z n found more next = one_read n found (tokens_of at Publish x y z ++ more) (publish_reads at x y z more) refl
statement_reads Add at x y z n found more next =
    one_read (suc (suc n)) found (tokens_of at Add x y z ++ more) (lock_reads at x y z more) refl
    ∙ one_read (suc n) (found ++ (lock_item at ∷ [])) (adding at x y z (unlocking at x y z more)) (add_reads at x y z (unlocking at x y z more)) refl
    ∙ one_read n (found ++ (lock_item at ∷ []) ++ (add_item at x ∷ [])) (unlocking at x y z more) (unlock_reads at x y z more) refl
    ∙ ap (λ (l : List BlockItem). items n l more)
    (append_assoc (found ++ (lock_item at ∷ [])) (add_item at x ∷ []) (unlock_item at ∷ [])
    ∙ append_assoc found (lock_item at ∷ []) (add_item at x ∷ unlock_item at ∷ []))

-- ---- all lines

abbrev line_tokens : ℕ → Line → List Token
line_tokens o line = tokens o (ps.line_pieces line)

-- the items of the lines, whose text begins at the place
abbrev pub items_of : ℕ → List Line → List BlockItem
items_of o [] = []
items_of o (line ∷ lines) =
    line_items line.kind (place_in (line_tokens o line)) line.target line.left line.right ++ items_of (behind o (ps.line_pieces line)) lines

abbrev pub all_turns : List Line → ℕ → ℕ
all_turns [] n = n
all_turns (line ∷ lines) n = turns line.kind (all_turns lines n)

statement_is_next : (k : LineKind) (o : ℕ) (x y z : Letter) (more : List Token) → Next (tokens o (statement_in_line k x y z) ++ more)
statement_is_next Sum o x y z more = inl (_, _, _, refl)
statement_is_next Difference o x y z more = inl (_, _, _, refl)
statement_is_next Product o x y z more = inl (_, _, _, refl)
statement_is_next ExclusiveOr o x y z more = inl (_, _, _, refl)
statement_is_next Quotient o x y z more = inl (_, _, _, refl)
statement_is_next Raise o x y z more = inr (_, _, refl)
statement_is_next Publish o x y z more = inl (_, _, _, refl)
statement_is_next Add o x y z more = inl (_, _, _, refl)

tokens_split : (o : ℕ) (line : Line) (lines : List Line) (more : List Token) →
    tokens o (flat_map ps.line_pieces (line ∷ lines)) ++ more
    ≡ line_tokens o line ++ (tokens (behind o (ps.line_pieces line)) (flat_map ps.line_pieces lines) ++ more)
tokens_split o line lines more =
    ap (λ (l : List Token). l ++ more) (tokens_append o (ps.line_pieces line) (flat_map ps.line_pieces lines))
    ∙ append_assoc (line_tokens o line) (tokens (behind o (ps.line_pieces line)) (flat_map ps.line_pieces lines)) more

pub lines_are_next : (o : ℕ) (lines : List Line) (more : List Token) → Next more → Next (tokens o (flat_map ps.line_pieces lines) ++ more)
lines_are_next o [] more next = next
lines_are_next o (line ∷ lines) more next =
    subst Next (sym (tokens_split o line lines more))
    (statement_is_next line.kind o line.target line.left line.right (tokens (behind o (ps.line_pieces line)) (flat_map ps.line_pieces lines) ++ more))

pub lines_read : (o n : ℕ) (lines : List Line) (found : List BlockItem) (more : List Token) → Next more →
    items (all_turns lines n) found (tokens o (flat_map ps.line_pieces lines) ++ more) ≡ items n (found ++ items_of o lines) more
lines_read o n [] found more next = ap (λ (l : List BlockItem). items n l more) (sym (append-nil found))
lines_read o n (line ∷ lines) found more next =
    let p : ℕ = behind o (ps.line_pieces line) in
    let rest : List Token = tokens p (flat_map ps.line_pieces lines) ++ more in
    let here : List BlockItem = line_items line.kind (place_in (line_tokens o line)) line.target line.left line.right in
    ap (items (all_turns (line ∷ lines) n) found) (tokens_split o line lines more)
    ∙ ap (λ (l : List Token). items (all_turns (line ∷ lines) n) found (l ++ rest)) (statement_placed o line.kind line.target line.left line.right)
    ∙ statement_reads line.kind (place_in (line_tokens o line)) line.target line.left line.right (all_turns lines n) found rest
    (lines_are_next p lines more next)
    ∙ lines_read p n lines (found ++ here) more next
    ∙ ap (λ (l : List BlockItem). items n l more) (append_assoc found here (items_of p lines))

-- ---- turns enough

turn_left : (k : LineKind) (m : ℕ) → 3 ≤ m → (n : ℕ) × (m ≡ turns k n) × (m ≤ 3 + n)
turn_left Sum m some = (m - 1, omega (arith, some), omega (arith, some))
turn_left Difference m some = (m - 1, omega (arith, some), omega (arith, some))
turn_left Product m some = (m - 1, omega (arith, some), omega (arith, some))
turn_left ExclusiveOr m some = (m - 1, omega (arith, some), omega (arith, some))
turn_left Quotient m some = (m - 1, omega (arith, some), omega (arith, some))
turn_left Raise m some = (m - 1, omega (arith, some), omega (arith, some))
turn_left Publish m some = (m - 1, omega (arith, some), omega (arith, some))
turn_left Add m some = (m - 3, omega (arith, some), omega (arith, some))

-- turns for some lines, where enough are left, and those left behind them
pub turns_left : (lines : List Line) (m : ℕ) → 3 * length lines ≤ m → (n : ℕ) × (m ≡ all_turns lines n) × (m ≤ 3 * length lines + n)
turns_left [] m enough = (m, refl, omega arith)
turns_left (line ∷ lines) m enough =
    let first = turn_left line.kind m (omega (arith, enough)) in
    let more = turns_left lines first.0 (omega (arith, enough, first.2)) in
    (more.0, first.1 ∙ ap (turns line.kind) more.1, omega (arith, first.2, more.2))

statement_tokens : (k : LineKind) (o : ℕ) (x y z : Letter) → 3 ≤ length (tokens o (statement_in_line k x y z))
statement_tokens Sum o x y z = omega arith
statement_tokens Difference o x y z = omega arith
statement_tokens Product o x y z = omega arith
statement_tokens ExclusiveOr o x y z = omega arith
statement_tokens Quotient o x y z = omega arith
statement_tokens Raise o x y z = omega arith
statement_tokens Publish o x y z = omega arith
statement_tokens Add o x y z = omega arith

pub lines_tokens : (o : ℕ) (lines : List Line) → 3 * length lines ≤ length (tokens o (flat_map ps.line_pieces lines))
lines_tokens o [] = omega arith
lines_tokens o (line ∷ lines) =
    let p : ℕ = behind o (ps.line_pieces line) in
    omega (
      arith,
      ap length (tokens_append o (ps.line_pieces line) (flat_map ps.line_pieces lines)),
      length-append (line_tokens o line) (tokens p (flat_map ps.line_pieces lines)),
      statement_tokens line.kind o line.target line.left line.right,
      lines_tokens p lines,
    )
