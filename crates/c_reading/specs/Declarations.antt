-- How declarations at file scope and a whole text are read. The number `level` is how many levels of nesting are left,
-- that of the phrase among them, and `inside` how many are left inside of it.
use Rattle.std.specs.Prelude.{ℕ, zero, suc, Bool, true, false, List, [], ◌∷◌, Option, Some, None, length}
use Rattle.c_token.specs.declared.keyword.Keyword.TheVariants as k
use Rattle.c_token.specs.declared.punctuator.Punctuator.TheVariants as p
use Rattle.c_token.specs.declared.token.Token.{Token}
use Rattle.grammar.specs.Readers.{reads_pure, reads_while, reads_either, reads_optional, sees, sees_all, reads_within, too_deep_or, appended, ◌>>=◌, ◌>>◌}
use Rattle.c_tree.specs.declared.sign.Sign.TheVariants.{Word, Mark, End}
use Rattle.c_tree.specs.declared.expression.Name.{Name}
use Rattle.c_tree.specs.declared.expression.Specifiers.{Specifiers}
use Rattle.c_tree.specs.declared.statement.Block.{Block}
use Rattle.c_tree.specs.declared.declaration.Parameter.{Parameter}
use Rattle.c_tree.specs.declared.declaration.Initial.{Initial}
use Rattle.c_tree.specs.declared.declaration.Initial.TheVariants as initial_of
use Rattle.c_tree.specs.declared.declaration.Initializer.{Initializer}
use Rattle.c_tree.specs.declared.declaration.Initializer.TheVariants as initializer_of
use Rattle.c_tree.specs.declared.declaration.GlobalDeclarator.{GlobalDeclarator}
use Rattle.c_tree.specs.declared.declaration.ExternalDeclaration.{ExternalDeclaration}
use Rattle.c_tree.specs.declared.declaration.ExternalDeclaration.TheVariants as ext
use Rattle.c_tree.specs.declared.declaration.TranslationUnit.{TranslationUnit}
use Rattle.c_tree.specs.Tokens.{is, is_name, is_type_word}
use Rattle.c_reading.specs.Tokens.{Reads, expect, read_name, read_specifiers, read_next, read_any, begins_initial, opens_initial}
use Rattle.c_reading.specs.Expressions.{read_expr, read_indices}
use Rattle.c_reading.specs.Statements.{read_statement, read_block}

-- ---- parameters

unfoldable pub read_star : Reads Bool
read_star = reads_either (is (Mark p.Star)) (expect (Mark p.Star) >> reads_pure true) (reads_pure false)

unfoldable pub read_optional_name : Reads (Option Name)
read_optional_name = reads_optional is_name read_name

unfoldable pub read_parameter : Reads Parameter
read_parameter = do
  s ← read_specifiers
  is_pointer ← read_star
  x ← read_optional_name
  reads_pure (record { specifiers = s; is_pointer = is_pointer; name = x })

unfoldable pub read_parameters : ℕ → Reads (List Parameter)
read_parameters room = reads_within (is (Mark p.OpenRound)) room (do
  expect (Mark p.OpenRound)
  found ← read_any is_type_word read_parameter
  expect (Mark p.CloseRound)
  reads_pure found)

-- ---- values in braces

-- a comma and one more
abbrev pub next_initial_ahead : List (Token → Bool)
next_initial_ahead = is (Mark p.Comma) ∷ begins_initial ∷ []

unfoldable pub read_optional_comma : Reads (Option ℕ)
read_optional_comma = reads_optional (is (Mark p.Comma)) (expect (Mark p.Comma))

-- the reader of what stands in the braces, and how many levels are left for them
module _ (initial : Reads Initial) (room : ℕ) where
  -- with commas between them, behind the first; a comma behind the last one is left
  unfoldable pub read_initials : Initial → Reads (List Initial)
  read_initials first ts = reads_while (sees_all next_initial_ahead) appended (read_next initial) (length ts) (first ∷ []) ts

  unfoldable pub read_braces : Reads (List Initial × ℕ)
  read_braces = reads_within (is (Mark p.OpenCurly)) room (do
    at ← expect (Mark p.OpenCurly)
    first ← initial
    found ← read_initials first
    read_optional_comma
    expect (Mark p.CloseCurly)
    reads_pure (found, at))

  unfoldable pub read_braced : Reads Initial
  read_braced = do
    found ← read_braces
    reads_pure (initial_of.List found.0 found.1)

unfoldable pub read_single : ℕ → Reads Initial
read_single level = do
  x ← read_expr level
  reads_pure (initial_of.Value x)

-- the reader is that of what stands inside of its braces
unfoldable pub read_any_initial : Reads Initial → ℕ → ℕ → Reads Initial
read_any_initial initial level inside = reads_either (is (Mark p.OpenCurly)) (read_braced initial inside) (read_single level)

unfoldable pub read_initial : ℕ → Reads Initial
read_initial zero = too_deep_or opens_initial begins_initial
read_initial (suc room) = read_any_initial (read_initial room) (suc room) room

-- ---- variables at file scope

unfoldable pub read_list : ℕ → Reads Initializer
read_list room = do
  found ← read_braces (read_initial room) room
  reads_pure (initializer_of.List found.0 found.1)

unfoldable pub read_mutex : Reads Initializer
read_mutex = do
  expect (Word k.MutexInitializer)
  reads_pure initializer_of.Mutex

module _ (level inside : ℕ) where
  unfoldable pub read_value : Reads Initializer
  read_value = do
    x ← read_expr level
    reads_pure (initializer_of.Value x)

  unfoldable pub read_any_value : Reads Initializer
  read_any_value = reads_either (is (Mark p.OpenCurly)) (read_list inside) (reads_either (is (Word k.MutexInitializer)) read_mutex read_value)

  unfoldable pub read_initializer : Reads Initializer
  read_initializer = do
    expect (Mark p.Assign)
    read_any_value

  unfoldable pub read_optional_initializer : Reads (Option Initializer)
  read_optional_initializer = reads_optional (is (Mark p.Assign)) read_initializer

  unfoldable pub read_global : Name → Reads GlobalDeclarator
  read_global x = do
    lengths ← read_indices (read_expr inside) inside
    initial ← read_optional_initializer
    reads_pure (record { name = x; lengths = lengths; initializer = initial })

  unfoldable pub read_next_global : Reads GlobalDeclarator
  read_next_global = do
    expect (Mark p.Comma)
    x ← read_name
    read_global x

  unfoldable pub read_globals : GlobalDeclarator → Reads (List GlobalDeclarator)
  read_globals first ts = reads_while (sees (is (Mark p.Comma))) appended read_next_global (length ts) (first ∷ []) ts

  unfoldable pub read_objects : Specifiers → Bool → Name → Reads ExternalDeclaration
  read_objects s is_pointer x = do
    first ← read_global x
    all ← read_globals first
    expect (Mark p.Semicolon)
    reads_pure (ext.Objects (record { specifiers = s; is_pointer = is_pointer; declarators = all }))

  -- ---- functions

  unfoldable pub read_defined : Reads (Option Block)
  read_defined = do
    b ← read_block (read_statement inside) inside
    reads_pure (Some b)

  unfoldable pub read_prototype : Reads (Option Block)
  read_prototype = do
    expect (Mark p.Semicolon)
    reads_pure None

  unfoldable pub read_body : Reads (Option Block)
  read_body = reads_either (is (Mark p.OpenCurly)) read_defined read_prototype

  unfoldable pub read_function : Specifiers → Bool → Name → Reads ExternalDeclaration
  read_function s is_pointer x = do
    found ← read_parameters inside
    body ← read_body
    reads_pure (ext.Function (record { specifiers = s; is_pointer = is_pointer; name = x; parameters = found; body = body }))

  unfoldable pub read_external : Reads ExternalDeclaration
  read_external = do
    s ← read_specifiers
    is_pointer ← read_star
    x ← read_name
    reads_either (is (Mark p.OpenRound)) (read_function s is_pointer x) (read_objects s is_pointer x)

  unfoldable pub read_externals : ExternalDeclaration → Reads (List ExternalDeclaration)
  read_externals first ts = reads_while (sees is_type_word) appended read_external (length ts) (first ∷ []) ts

  unfoldable pub read_unit : Reads TranslationUnit
  read_unit = do
    first ← read_external
    all ← read_externals first
    expect End
    reads_pure (record { declarations = all })
