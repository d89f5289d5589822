-- The tree of a generated text.
use Rattle.std.proofs.Common.{◌≡◌, ℕ, zero, suc, ◌+◌, ◌-◌, ◌*◌, ◌≤◌, List, [], ◌∷◌, ◌++◌, length, drop, length-append, Some, true}
use Rattle.std.proofs.Common.{refl, ap, ◌∙◌, append_assoc, inl, arith}
use Rattle.std.specs.Prelude.{cond, Ok}
use Rattle.std.specs.List.{flat_map}
use Rattle.c_token.specs.declared.punctuator.Punctuator.TheVariants as p
use Rattle.c_token.specs.declared.token.Kind.TheVariants as kind
use Rattle.c_token.specs.declared.token.Token.{Token}
use Rattle.c_lexer.specs.Texts.{Piece, tokens}
use Rattle.grammar.specs.Readers.{Reading, reads_while, reads_many, reads_pure, sees, appended, and_then, ◌>>=◌}
use Rattle.grammar.specs.Sentences.{SentenceWithin}
use Rattle.c_tree.specs.declared.sign.Sign.TheVariants.{Mark, End}
use Rattle.c_tree.specs.declared.statement.Block.{Block}
use Rattle.c_tree.specs.declared.statement.BlockItem.{BlockItem}
use Rattle.c_tree.specs.declared.declaration.ExternalDeclaration.{ExternalDeclaration}
use Rattle.c_tree.specs.declared.declaration.TranslationUnit.{TranslationUnit}
use Rattle.c_tree.specs.Tokens.{same_keyword, same_punctuator, is_type_word}
use Rattle.c_tree.specs.Trees as tree
use Rattle.c_tree.specs.Declarations.{unit}
use Rattle.c_reading.specs.Tokens.{Reads, begins_item, expect, read_name, read_text, read_constant, read_first_word, read_type_word}
use Rattle.c_reading.specs.Tokens.{read_unary_operator, read_operator}
use Rattle.c_reading.specs.Tokens.{read_assignment_operator, read_direction, read_way, read_words, read_specifiers, read_next, read_more, read_listed, read_any, read_at_most}
use Rattle.c_reading.specs.Expressions.{read_term, read_binary, read_parenthesized, read_index, read_indices, read_place, read_arguments}
use Rattle.c_reading.specs.Expressions.{read_conversion}
use Rattle.c_reading.specs.Expressions.{read_conversion_to_pointer, read_null, read_converted_pointer, read_pointer_argument, read_null_argument}
use Rattle.c_reading.specs.Expressions.{read_text_argument}
use Rattle.c_reading.specs.Expressions.{read_address, read_value_argument, read_any_argument, read_call_of, read_place_of, read_named, read_primary, read_unary}
use Rattle.c_reading.specs.Expressions.{read_converted, read_operand, read_whole, read_cast, read_expr, read_target, read_argument}
use Rattle.c_reading.specs.Statements.{read_called, read_step_behind, read_assigned, read_changed, read_on_name, read_simple, read_value}
use Rattle.c_reading.specs.Statements.{read_optional_value, read_declarator}
use Rattle.c_reading.specs.Statements.{read_declaration, read_simple_statement, read_returned_null, read_returned_pointer, read_returned_value}
use Rattle.c_reading.specs.Statements.{read_returned, read_return}
use Rattle.c_reading.specs.Statements.{read_plain, read_condition, read_simple_start, read_for_start, read_optional_expr, read_optional_simple, read_for_step}
use Rattle.c_reading.specs.Statements.{read_for_condition, read_for_head, read_declared_item, read_statement_item, read_item, read_block, read_block_statement}
use Rattle.c_reading.specs.Statements.{read_other, read_branch, read_with_body, read_for, read_compound, read_any_statement, read_statement}
use Rattle.c_reading.specs.Declarations.{read_star, read_optional_name, read_parameter, read_parameters, read_optional_initializer, read_global, read_globals}
use Rattle.c_reading.specs.Declarations.{read_objects, read_function, read_body, read_defined, read_external, read_externals, read_unit}
use Rattle.c_reading.proofs.Texts.{all_read}
use Rattle.generated_text.specs.declared.draws.Line.{Line}
use Rattle.generated_profile.proofs.Pieces as ps
use Rattle.generated_profile.proofs.Placed.{kinds, placed, place_in}
use Rattle.generated_profile.proofs.Splitting.{behind, tokens_append}
use Rattle.generated_profile.proofs.LineReading.{item, items, Next, items_of, lines_read, turns_left, lines_tokens}
use Rattle.generated_profile.proofs.Trees as tr

-- ---- tokens round others

abbrev open_at : ℕ → Token
open_at o = record { kind = kind.Punctuator p.OpenCurly; offset = o }

abbrev close_at : ℕ → Token
close_at o = record { kind = kind.Punctuator p.CloseCurly; offset = o }

abbrev end_at : ℕ → Token
end_at o = record { kind = kind.End; offset = o }

-- ---- the worker's body

-- its tokens behind the lines
abbrev closing : (ℕ → ℕ) → List Token → List Token
closing at more = placed 0 at (kinds ps.worker_tail_pieces) ++ more

module _ (at : ℕ → ℕ) (n : ℕ) (found : List BlockItem) (more : List Token) where
  opening_reads : items (suc (suc n)) [] (placed 27 at (kinds ps.opening_pieces) ++ more) ≡ items n (tr.opening_items at) more
  unfolding same_keyword same_punctuator expect read_name read_text read_constant read_first_word read_type_word read_unary_operator read_operator
      read_assignment_operator read_direction read_way read_words read_specifiers read_next read_more read_listed read_any read_term read_binary
      read_parenthesized read_index read_at_most read_indices read_place read_arguments read_conversion read_conversion_to_pointer read_null
      read_converted_pointer read_pointer_argument read_null_argument read_text_argument read_address read_value_argument read_any_argument
      read_call_of read_place_of read_named read_primary read_unary read_converted read_operand read_whole read_cast read_expr read_target
      read_argument reads_many read_called read_step_behind read_assigned read_changed read_on_name read_simple read_value read_optional_value
      read_declarator read_declaration read_simple_statement read_returned_null read_returned_pointer read_returned_value read_returned read_return
      read_plain read_condition read_simple_start read_for_start read_optional_expr read_optional_simple read_for_step read_for_condition
      read_for_head read_declared_item read_statement_item read_item read_block_statement read_other read_branch read_with_body read_for read_compound
      read_any_statement read_statement reads_while
  opening_reads = refl

  closing_reads : items (suc (suc (suc (suc (suc n))))) found (placed 0 at (kinds ps.worker_tail_pieces) ++ more)
      ≡ items n
      (found ++ (tr.mix_item at ∷ []) ++ (tr.last_lock_item at ∷ []) ++ (tr.last_add_item at ∷ []) ++ (tr.last_unlock_item at ∷ []) ++ (tr.null_item at ∷ []))
      (close_at (at 35) ∷ more)
  unfolding same_keyword same_punctuator expect read_name read_text read_constant read_first_word read_type_word read_unary_operator read_operator
      read_assignment_operator read_direction read_way read_words read_specifiers read_next read_more read_listed read_any read_term read_binary
      read_parenthesized read_index read_at_most read_indices read_place read_arguments read_conversion read_conversion_to_pointer read_null
      read_converted_pointer read_pointer_argument read_null_argument read_text_argument read_address read_value_argument read_any_argument
      read_call_of read_place_of read_named read_primary read_unary read_converted read_operand read_whole read_cast read_expr read_target
      read_argument reads_many read_called read_step_behind read_assigned read_changed read_on_name read_simple read_value read_optional_value
      read_declarator read_declaration read_simple_statement read_returned_null read_returned_pointer read_returned_value read_returned read_return
      read_plain read_condition read_simple_start read_for_start read_optional_expr read_optional_simple read_for_step read_for_condition
      read_for_head read_declared_item read_statement_item read_item read_block_statement read_other read_branch read_with_body read_for read_compound
      read_any_statement read_statement reads_while
  closing_reads = refl

no_item : (n : ℕ) (found : List BlockItem) (o : ℕ) (more : List Token) →
    items n found (close_at o ∷ more) ≡ Ok (found, close_at o ∷ more)
unfolding reads_while same_keyword same_punctuator
no_item zero found o more = refl
no_item (suc n) found o more = refl

five_behind : (found : List BlockItem) (a b c d e : BlockItem) →
    found ++ (a ∷ []) ++ (b ∷ []) ++ (c ∷ []) ++ (d ∷ []) ++ (e ∷ []) ≡ found ++ (a ∷ b ∷ c ∷ d ∷ e ∷ [])
five_behind found a b c d e =
    append_assoc (found ++ (a ∷ []) ++ (b ∷ []) ++ (c ∷ [])) (d ∷ []) (e ∷ [])
    ∙ append_assoc (found ++ (a ∷ []) ++ (b ∷ [])) (c ∷ []) (d ∷ e ∷ [])
    ∙ append_assoc (found ++ (a ∷ [])) (b ∷ []) (c ∷ d ∷ e ∷ [])
    ∙ append_assoc found (a ∷ []) (b ∷ c ∷ d ∷ e ∷ [])

-- the worker's body behind its lines
tail_reads : (at : ℕ → ℕ) (n : ℕ) → 5 ≤ n → (found : List BlockItem) (more : List Token) →
    items n found (closing at more) ≡ Ok (found ++ tr.closing_items at, close_at (at 35) ∷ more)
tail_reads at n some found more =
    let same : n ≡ suc (suc (suc (suc (suc (n - 5))))) = omega (arith, some) in
    ap (λ m. items m found (closing at more)) same
    ∙ closing_reads at (n - 5) found more
    ∙ no_item (n - 5) _ (at 35) more
    ∙ ap (λ l. Ok (l, close_at (at 35) ∷ more))
    (five_behind found (tr.mix_item at) (tr.last_lock_item at) (tr.last_add_item at) (tr.last_unlock_item at) (tr.null_item at))

closing_is_next : (at : ℕ → ℕ) (more : List Token) → Next (closing at more)
closing_is_next at more = inl (_, _, _, refl)

abbrev body_tokens : (ℕ → ℕ) → (ℕ → ℕ) → ℕ → List Line → List Token → List Token
body_tokens before last o lines more = placed 27 before (kinds ps.opening_pieces) ++ (tokens o (flat_map ps.line_pieces lines) ++ closing last more)

body_reads : (before last : ℕ → ℕ) (o : ℕ) (lines : List Line) (more : List Token) →
    reads_many begins_item item (body_tokens before last o lines more)
    ≡ Ok (tr.opening_items before ++ items_of o lines ++ tr.closing_items last, close_at (last 35) ∷ more)
unfolding reads_many
body_reads before last o lines more =
    let rest : List Token = tokens o (flat_map ps.line_pieces lines) ++ closing last more in
    let n : ℕ = length (drop 2 (placed 27 before (kinds ps.opening_pieces) ++ rest)) in
    let long : n ≡ 28 + length rest = omega arith in
    let enough : 3 * length lines + 5 ≤ n =
    omega (arith, long, length-append (tokens o (flat_map ps.line_pieces lines)) (closing last more), lines_tokens o lines) in
    let left = turns_left lines n (omega (arith, enough)) in
    opening_reads before n [] rest
    ∙ ap (λ k. items k (tr.opening_items before) rest) left.1
    ∙ lines_read o left.0 lines (tr.opening_items before) (closing last more) (closing_is_next last more)
    ∙ tail_reads last left.0 (omega (arith, left.2, enough)) (tr.opening_items before ++ items_of o lines) more

-- a block whose items are read so
block_reads : (o : ℕ) (ts : List Token) (found : List BlockItem) (close : ℕ) (more : List Token) →
    reads_many begins_item item ts ≡ Ok (found, close_at close ∷ more) →
    read_block (read_statement 64) 64 (open_at o ∷ ts) ≡ Ok (tree.block found close, more)
unfolding read_block expect same_punctuator
block_reads o ts found close more e =
    ap (λ (r : Reading Token (List BlockItem)). and_then r (λ list. (expect (Mark p.CloseCurly) >>= (λ k. reads_pure (tree.block list k))))) e

-- ---- declarations

abbrev external : Reads ExternalDeclaration
external = read_external 65 64

module _ (t : ℕ) (at : ℕ → ℕ) (more : List Token) where
  threads_read : external (placed 0 at (kinds (ps.threads_pieces t)) ++ more) ≡ Ok (tr.threads_object t at, more)
  unfolding same_keyword same_punctuator expect read_name read_text read_constant read_first_word read_type_word read_unary_operator read_operator
      read_assignment_operator read_direction read_way read_words read_specifiers read_next read_more read_listed read_any read_term read_binary
      read_parenthesized read_index read_at_most read_indices read_place read_arguments read_conversion read_conversion_to_pointer read_null
      read_converted_pointer read_pointer_argument read_null_argument read_text_argument read_address read_value_argument read_any_argument
      read_call_of read_place_of read_named read_primary read_unary read_converted read_operand read_whole read_cast read_expr read_target
      read_argument read_star read_optional_name read_parameter read_parameters read_optional_initializer read_global read_globals read_objects
      read_function read_body read_defined read_external reads_many reads_while
  threads_read = refl

  mutex_reads : external (placed 6 at (kinds ps.mutex_pieces) ++ more) ≡ Ok (tr.mutex_object at, more)
  unfolding same_keyword same_punctuator expect read_name read_text read_constant read_first_word read_type_word read_unary_operator read_operator
      read_assignment_operator read_direction read_way read_words read_specifiers read_next read_more read_listed read_any read_term read_binary
      read_parenthesized read_index read_at_most read_indices read_place read_arguments read_conversion read_conversion_to_pointer read_null
      read_converted_pointer read_pointer_argument read_null_argument read_text_argument read_address read_value_argument read_any_argument
      read_call_of read_place_of read_named read_primary read_unary read_converted read_operand read_whole read_cast read_expr read_target
      read_argument read_star read_optional_name read_parameter read_parameters read_optional_initializer read_global read_globals read_objects
      read_function read_body read_defined read_external reads_many reads_while
  mutex_reads = refl

  sum_reads : external (placed 9 at (kinds ps.sum_pieces) ++ more) ≡ Ok (tr.sum_object at, more)
  unfolding same_keyword same_punctuator expect read_name read_text read_constant read_first_word read_type_word read_unary_operator read_operator
      read_assignment_operator read_direction read_way read_words read_specifiers read_next read_more read_listed read_any read_term read_binary
      read_parenthesized read_index read_at_most read_indices read_place read_arguments read_conversion read_conversion_to_pointer read_null
      read_converted_pointer read_pointer_argument read_null_argument read_text_argument read_address read_value_argument read_any_argument
      read_call_of read_place_of read_named read_primary read_unary read_converted read_operand read_whole read_cast read_expr read_target
      read_argument read_star read_optional_name read_parameter read_parameters read_optional_initializer read_global read_globals read_objects
      read_function read_body read_defined read_external reads_many reads_while
  sum_reads = refl

  elements_read : external (placed 12 at (kinds (ps.elements_pieces t)) ++ more) ≡ Ok (tr.elements_object t at, more)
  unfolding same_keyword same_punctuator expect read_name read_text read_constant read_first_word read_type_word read_unary_operator read_operator
      read_assignment_operator read_direction read_way read_words read_specifiers read_next read_more read_listed read_any read_term read_binary
      read_parenthesized read_index read_at_most read_indices read_place read_arguments read_conversion read_conversion_to_pointer read_null
      read_converted_pointer read_pointer_argument read_null_argument read_text_argument read_address read_value_argument read_any_argument
      read_call_of read_place_of read_named read_primary read_unary read_converted read_operand read_whole read_cast read_expr read_target
      read_argument read_star read_optional_name read_parameter read_parameters read_optional_initializer read_global read_globals read_objects
      read_function read_body read_defined read_external reads_many reads_while
  elements_read = refl

  main_reads : external (placed 0 at (kinds (ps.main_pieces t)) ++ more) ≡ Ok (tr.main t at, more)
  unfolding same_keyword same_punctuator expect read_name read_text read_constant read_first_word read_type_word read_unary_operator read_operator
      read_assignment_operator read_direction read_way read_words read_specifiers read_next read_more read_listed read_any read_term read_binary
      read_parenthesized read_index read_at_most read_indices read_place read_arguments read_conversion read_conversion_to_pointer read_null
      read_converted_pointer read_pointer_argument read_null_argument read_text_argument read_address read_value_argument read_any_argument
      read_call_of read_place_of read_named read_primary read_unary read_converted read_operand read_whole read_cast read_expr read_target
      read_argument reads_many read_called read_step_behind read_assigned read_changed read_on_name read_simple read_value read_optional_value
      read_declarator read_declaration read_simple_statement read_returned_null read_returned_pointer read_returned_value read_returned read_return
      read_plain read_condition read_simple_start read_for_start read_optional_expr read_optional_simple read_for_step read_for_condition
      read_for_head read_declared_item read_statement_item read_item read_block_statement read_other read_branch read_with_body read_for read_compound
      read_any_statement read_statement reads_while read_star read_optional_name read_parameter read_parameters read_optional_initializer read_global
      read_globals read_objects read_function read_body read_defined read_external read_block
  main_reads = refl

worker_by : (at : ℕ → ℕ) (ts : List Token) →
    external (placed 18 at (kinds ps.worker_name_pieces) ++ (open_at (at 26) ∷ ts))
    ≡ and_then (and_then (read_block (read_statement 64) 64 (open_at (at 26) ∷ ts)) (λ b. reads_pure (Some b)))
    (λ b. reads_pure (tr.worker_by at b))
unfolding same_keyword same_punctuator expect read_name read_first_word read_type_word read_words read_specifiers read_next read_more read_listed
    read_any read_star read_optional_name read_parameter read_parameters read_function read_body read_defined read_external reads_while
worker_by at ts = refl

worker_reads : (before last : ℕ → ℕ) (o : ℕ) (lines : List Line) (more : List Token) →
    external (placed 18 before (kinds ps.worker_name_pieces) ++ (open_at (before 26) ∷ body_tokens before last o lines more))
    ≡ Ok (tr.worker before last (items_of o lines), more)
worker_reads before last o lines more =
    worker_by before (body_tokens before last o lines more)
    ∙ ap (λ (r : Reading Token Block). and_then (and_then r (λ b. reads_pure (Some b))) (λ b. reads_pure (tr.worker_by before b)))
    (block_reads (before 26) (body_tokens before last o lines more) _ (last 35) more (body_reads before last o lines more))

-- ---- whole texts

abbrev externals : ℕ → List ExternalDeclaration → Reads (List ExternalDeclaration)
externals n found ts = reads_while (sees is_type_word) appended external n found ts

one_external : (n : ℕ) (found : List ExternalDeclaration) (ts : List Token) {rest : List Token} {v : ExternalDeclaration} → external ts ≡ Ok (v, rest) →
    sees is_type_word ts ≡ true → externals (suc n) found ts ≡ externals n (found ++ (v ∷ [])) rest
unfolding reads_while
one_external n found ts read ahead =
    ap (λ b. cond b (and_then (external ts) (λ w. externals n (found ++ (w ∷ [])))) (Ok (found, ts))) ahead
    ∙ ap (λ r. and_then r (λ w. externals n (found ++ (w ∷ [])))) read

no_external : (n : ℕ) (found : List ExternalDeclaration) (o : ℕ) →
    externals n found (end_at o ∷ []) ≡ Ok (found, end_at o ∷ [])
unfolding reads_while
no_external zero found o = refl
no_external (suc n) found o = refl

module _ (t : ℕ) (before last at : ℕ → ℕ) (o end : ℕ) (lines : List Line) where
  abbrev final : List Token
  final = end_at end ∷ []

  abbrev from_main : List Token
  from_main = placed 0 at (kinds (ps.main_pieces t)) ++ final

  abbrev from_worker : List Token
  from_worker =
      placed 18 before (kinds ps.worker_name_pieces)
      ++ (open_at (before 26) ∷ body_tokens before last o lines from_main)

  abbrev from_elements : List Token
  from_elements = placed 12 before (kinds (ps.elements_pieces t)) ++ from_worker

  abbrev from_sum : List Token
  from_sum = placed 9 before (kinds ps.sum_pieces) ++ from_elements

  abbrev from_mutex : List Token
  from_mutex = placed 6 before (kinds ps.mutex_pieces) ++ from_sum

  abbrev all_tokens : List Token
  all_tokens = placed 0 before (kinds (ps.threads_pieces t)) ++ from_mutex

  externals_read : externals (length from_mutex) (tr.threads_object t before ∷ []) from_mutex
      ≡ Ok ((tr.unit_of t before last at (items_of o lines)).declarations, final)
  externals_read =
      let n : ℕ = length (drop 5 from_mutex) in
      let a : List ExternalDeclaration = tr.threads_object t before ∷ [] in
      let b : List ExternalDeclaration = a ++ (tr.mutex_object before ∷ []) in
      let c : List ExternalDeclaration = b ++ (tr.sum_object before ∷ []) in
      let d : List ExternalDeclaration = c ++ (tr.elements_object t before ∷ []) in
      let e : List ExternalDeclaration = d ++ (tr.worker before last (items_of o lines) ∷ []) in
      one_external (suc (suc (suc (suc n)))) a from_mutex (mutex_reads t before from_sum) refl
      ∙ one_external (suc (suc (suc n))) b from_sum (sum_reads t before from_elements) refl
      ∙ one_external (suc (suc n)) c from_elements (elements_read t before from_worker) refl
      ∙ one_external (suc n) d from_worker (worker_reads before last o lines from_main) refl
      ∙ one_external n e from_main (main_reads t at final) refl
      ∙ no_external n (e ++ (tr.main t at ∷ [])) end

  unit_reads : read_unit 65 64 all_tokens ≡ Ok (tr.unit_of t before last at (items_of o lines), [])
  unfolding read_unit read_externals expect
  unit_reads =
      let whole : List ExternalDeclaration → Reads TranslationUnit = λ all. (expect End >>= (λ k. reads_pure (record { declarations = all }))) in
      ap (λ (r : Reading Token ExternalDeclaration). and_then r (λ first. (read_externals 65 64 first >>= whole))) (threads_read t before from_mutex)
      ∙ ap (λ (r : Reading Token (List ExternalDeclaration)). and_then r whole) externals_read

-- ---- the tokens of a text

module _ (t : ℕ) (lines : List Line) where
  abbrev pub h : List Piece
  h = ps.head_pieces t

  abbrev pub l : List Piece
  l = flat_map ps.line_pieces lines

  abbrev pub before : ℕ → ℕ
  before = place_in (tokens 0 h)

  abbrev pub last : ℕ → ℕ
  last = place_in (tokens (behind 0 (h ++ l)) ps.worker_tail_pieces)

  abbrev pub at : ℕ → ℕ
  at = place_in (tokens (behind 0 (h ++ l ++ ps.worker_tail_pieces)) (ps.main_pieces t))

  abbrev pub tree_of : TranslationUnit
  tree_of = tr.unit_of t before last at (items_of (behind 0 h) lines)

  are_tokens : (end : ℕ) → tokens 0 (ps.text_pieces t lines) ++ (end_at end ∷ [])
      ≡ all_tokens t before last at (behind 0 h) end lines
  are_tokens end =
      let w : List Piece = ps.worker_tail_pieces in
      let e : List Token = end_at end ∷ [] in
      let tl : List Token = tokens (behind 0 h) l in
      let tw : List Token = tokens (behind 0 (h ++ l)) w in
      let tm : List Token = tokens (behind 0 (h ++ l ++ w)) (ps.main_pieces t) in
      ap (λ (x : List Token). x ++ e) (tokens_append 0 (h ++ l ++ w) (ps.main_pieces t))
      ∙ ap (λ (x : List Token). x ++ tm ++ e) (tokens_append 0 (h ++ l) w)
      ∙ ap (λ (x : List Token). x ++ tw ++ tm ++ e) (tokens_append 0 h l)
      ∙ append_assoc (tokens 0 h ++ tl ++ tw) tm e
      ∙ append_assoc (tokens 0 h ++ tl) tw (tm ++ e)
      ∙ append_assoc (tokens 0 h) tl (tw ++ (tm ++ e))

  pub text_reads : (end : ℕ) → read_unit 65 64 (tokens 0 (ps.text_pieces t lines) ++ (end_at end ∷ [])) ≡ Ok (tree_of, [])
  text_reads end = ap (read_unit 65 64) (are_tokens end) ∙ unit_reads t before last at (behind 0 h) end lines

  pub text_is_sentence : (end : ℕ) → SentenceWithin unit 64 (tokens 0 (ps.text_pieces t lines) ++ (end_at end ∷ [])) tree_of
  text_is_sentence end = all_read (tokens 0 (ps.text_pieces t lines) ++ (end_at end ∷ [])) tree_of [] (text_reads end) refl
