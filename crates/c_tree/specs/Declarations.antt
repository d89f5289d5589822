-- The grammar of declarations and of a whole text.
--
--     unit    = ext { ext } end
--     ext     = spec ["*"] name ( "(" [ param {"," param} ] ")" ( block | ";" )
--             | gtail { "," name gtail } ";" )
--     param   = spec ["*"] [name]
--     gtail   = [dims] ["=" ( init | PTHREAD_MUTEX_INITIALIZER )]
--     init    = expr | "{" init {"," init} [","] "}"
--
-- Nesting: brackets with what they enclose.
use Rattle.std.specs.Prelude.{ℕ, zero, suc, Bool, true, false, List, [], ◌∷◌, Option, Some, None}
use Rattle.c_token.specs.declared.keyword.Keyword.TheVariants as k
use Rattle.c_token.specs.declared.punctuator.Punctuator.TheVariants as p
use Rattle.grammar.specs.Rules.{pure, ◌>>=◌, ◌>>◌, ◌<|>◌, none, nested, many, optional}
use Rattle.c_tree.specs.declared.sign.Sign.TheVariants.{Word, Mark, End}
use Rattle.c_tree.specs.declared.expression.Name.{Name}
use Rattle.c_tree.specs.declared.expression.Specifiers.{Specifiers}
use Rattle.c_tree.specs.declared.expression.Expression.{Expression}
use Rattle.c_tree.specs.declared.statement.Block.{Block}
use Rattle.c_tree.specs.declared.statement.Statement.{Statement}
use Rattle.c_tree.specs.declared.declaration.Parameter.{Parameter}
use Rattle.c_tree.specs.declared.declaration.Initial.{Initial}
use Rattle.c_tree.specs.declared.declaration.Initial.TheVariants as initial_of
use Rattle.c_tree.specs.declared.declaration.Initializer.{Initializer}
use Rattle.c_tree.specs.declared.declaration.Initializer.TheVariants as initializer_of
use Rattle.c_tree.specs.declared.declaration.GlobalDeclarator.{GlobalDeclarator}
use Rattle.c_tree.specs.declared.declaration.GlobalDeclaration.{GlobalDeclaration}
use Rattle.c_tree.specs.declared.declaration.Function.{Function}
use Rattle.c_tree.specs.declared.declaration.ExternalDeclaration.{ExternalDeclaration}
use Rattle.c_tree.specs.declared.declaration.ExternalDeclaration.TheVariants as ext
use Rattle.c_tree.specs.declared.declaration.TranslationUnit.{TranslationUnit}
use Rattle.c_tree.specs.Expressions.{cast, expr, Phrase, sign, name, specifiers, listed, indices}
use Rattle.c_tree.specs.Statements.{statement, block}

-- whether a `*` stands here
abbrev pub star : Phrase Bool
star = (sign (Mark p.Star) >> pure true) <|> pure false

abbrev pub parameter : Phrase Parameter
parameter = do
  s ← specifiers
  is_pointer ← star
  x ← optional name
  pure (record { specifiers = s; is_pointer = is_pointer; name = x })

abbrev pub parameters : Phrase (List Parameter)
parameters = nested (do
  sign (Mark p.OpenRound)
  found ← listed parameter <|> pure []
  sign (Mark p.CloseRound)
  pure found)

-- ---- values in braces (C99 6.7.8)

module _ (expr : Phrase Expression) (initial : Phrase Initial) where
  -- with the place of the first brace
  abbrev pub braces : Phrase (List Initial × ℕ)
  braces = nested (do
    at ← sign (Mark p.OpenCurly)
    first ← initial
    more ← many (sign (Mark p.Comma) >> initial)
    optional (sign (Mark p.Comma))
    sign (Mark p.CloseCurly)
    pure (first ∷ more, at))

  abbrev pub braced : Phrase Initial
  braced = do
    found ← braces
    pure (initial_of.List found.0 found.1)

  abbrev pub single : Phrase Initial
  single = do
    x ← expr
    pure (initial_of.Value x)

  abbrev pub any_initial : Phrase Initial
  any_initial = braced <|> single

-- by how often the rule is entered within itself
abbrev pub initial : ℕ → Phrase Initial
initial zero = none
initial (suc depth) = any_initial (expr depth) (initial depth)

module _ (cast expr : Phrase Expression) (initial : Phrase Initial) (statement : Phrase Statement) where
  -- ---- variables at file scope

  abbrev pub value : Phrase Initializer
  value = do
    x ← expr
    pure (initializer_of.Value x)

  abbrev pub values : Phrase Initializer
  values = do
    found ← braces expr initial
    pure (initializer_of.List found.0 found.1)

  abbrev pub mutex : Phrase Initializer
  mutex = do
    sign (Word k.MutexInitializer)
    pure initializer_of.Mutex

  abbrev pub initializer : Phrase Initializer
  initializer = sign (Mark p.Assign) >> (values <|> (mutex <|> value))

  -- behind its name
  abbrev pub global : Name → Phrase GlobalDeclarator
  global x = do
    lengths ← indices cast expr
    found ← optional initializer
    pure (record { name = x; lengths = lengths; initializer = found })

  abbrev pub next_global : Phrase GlobalDeclarator
  next_global = do
    sign (Mark p.Comma)
    x ← name
    global x

  -- ---- behind the first name

  abbrev pub objects : Specifiers → Bool → Name → Phrase ExternalDeclaration
  objects s is_pointer x = do
    first ← global x
    more ← many next_global
    sign (Mark p.Semicolon)
    pure (ext.Objects (record { specifiers = s; is_pointer = is_pointer; declarators = first ∷ more }))

  abbrev pub defined : Phrase (Option Block)
  defined = do
    b ← block cast expr statement
    pure (Some b)

  abbrev pub prototype : Phrase (Option Block)
  prototype = do
    sign (Mark p.Semicolon)
    pure None

  abbrev pub function : Specifiers → Bool → Name → Phrase ExternalDeclaration
  function s is_pointer x = do
    found ← parameters
    body ← defined <|> prototype
    pure (ext.Function (record { specifiers = s; is_pointer = is_pointer; name = x; parameters = found; body = body }))

  abbrev pub external : Phrase ExternalDeclaration
  external = do
    s ← specifiers
    is_pointer ← star
    x ← name
    function s is_pointer x <|> objects s is_pointer x

  abbrev pub unit_of : Phrase TranslationUnit
  unit_of = do
    first ← external
    more ← many external
    sign End
    pure (record { declarations = first ∷ more })

-- a whole text
abbrev pub unit : ℕ → Phrase TranslationUnit
unit depth = unit_of (cast depth) (expr depth) (initial depth) (statement depth)
