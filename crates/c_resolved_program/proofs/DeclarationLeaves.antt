-- The leaves of declarations at file scope are among what their tokens are, and they declare no more than they have tokens.
use Rattle.std.proofs.Common.{sym, ap, subst, ◌∙◌, ℕ, zero, suc, ◌≤◌, Bool, List, [], ◌∷◌, length, Option, arith}
use Rattle.std.specs.Prelude.{◌+◌, fold}
use Rattle.std.specs.List.{AllByRecursion}
use Rattle.c_token.specs.declared.keyword.Keyword.TheVariants as k
use Rattle.c_token.specs.declared.punctuator.Punctuator.TheVariants as p
use Rattle.grammar.specs.Rules.{pure, one, ◌>>◌, ◌<|>◌, many, optional, ◌>>=◌}
use Rattle.c_tree.specs.declared.sign.Sign.TheVariants.{Word, Mark, End}
use Rattle.c_tree.specs.declared.expression.Name.{Name}
use Rattle.c_tree.specs.declared.expression.Specifiers.{Specifiers}
use Rattle.c_tree.specs.declared.expression.Expression.{Expression}
use Rattle.c_tree.specs.declared.statement.Block.{Block}
use Rattle.c_tree.specs.declared.statement.Statement.{Statement}
use Rattle.c_tree.specs.declared.declaration.Parameter.{Parameter}
use Rattle.c_tree.specs.declared.declaration.Initializer.{Initializer}
use Rattle.c_tree.specs.declared.declaration.Initial.{Initial}
use Rattle.c_tree.specs.declared.declaration.Initial.TheVariants as initial_of
use Rattle.c_tree.specs.declared.declaration.Initial.TheOpen.{Initial-F}
use Rattle.c_tree.specs.declared.declaration.Initial.TheFolds.{fold-roll-Initial}
use Rattle.c_tree.specs.declared.declaration.GlobalDeclarator.{GlobalDeclarator}
use Rattle.c_tree.specs.declared.declaration.ExternalDeclaration.{ExternalDeclaration}
use Rattle.c_tree.specs.declared.declaration.TranslationUnit.{TranslationUnit}
use Rattle.c_tree.specs.Tokens.{first_word_at, type_word_at}
use Rattle.c_tree.specs.Expressions as g
use Rattle.c_tree.specs.Expressions.{Phrase}
use Rattle.c_tree.specs.Statements as h
use Rattle.c_tree.specs.Declarations as d
use Rattle.c_program.specs.Resolved.{IsName}
use Rattle.c_rules.specs.Walks.{Outcome, and_then}
use Rattle.c_resolution.specs.Files.{File}
use Rattle.c_resolution.specs.Texts.{declaration}
use Rattle.c_resolution.specs.Resolving.{after}
use Rattle.c_resolved_program.specs.Leaves.{Leaves, AreValid, IsValidLeaf, HasValidLeaves, of_any, of_each, expression_leaves}
use Rattle.c_resolved_program.specs.Leaves.{block_leaves, initial_layer, initial_leaves, initializer_leaves, global_leaves, external_leaves}
use Rattle.c_resolved_program.proofs.Lists.{all_both}
use Rattle.c_resolved_program.proofs.ValidSentences.{Gives, gives_as, gives_none, gives_pure, gives_one, gives_then, gives_either, gives_nested, gives_many, gives_each, gives_optional}
use Rattle.c_resolved_program.proofs.Tokens.{IsValidToken}
use Rattle.c_resolved_program.proofs.ExpressionGrammar.{IsExpression, all_parts}
use Rattle.c_resolved_program.proofs.ExpressionLeaves.{Good, Any, sign_gives, any_gives, specifiers_gives, indices_give, cast_gives, expr_gives}
use Rattle.c_resolved_program.proofs.SimpleLeaves.{any_part, each_part, one_name}
use Rattle.c_resolved_program.proofs.StatementLeaves.{IsStatement}
use Rattle.c_resolved_program.proofs.BlockLeaves.{block_gives, statement_gives}
use Rattle.c_resolved_program.proofs.FileCounts.{IsSmall, Does, small_more}
use Rattle.c_resolved_program.proofs.FunctionCounts.{BodyDeclares, function_does}
use Rattle.c_resolved_program.proofs.ObjectCounts.{objects_does}
use Rattle.c_resolved_program.proofs.Walks.{IfAny}

-- ---- parameters

star_gives : Good Any d.star
star_gives = gives_either IsValidToken (gives_then IsValidToken _ _ (sign_gives (Mark p.Star)) (λ _ _ _. gives_pure IsValidToken _ tt)) (gives_pure IsValidToken _ tt)

abbrev IsOne : {A : Type 0} → ℕ → A → Type 0
IsOne n a = 1 ≤ n

some_words : Gives IsValidToken IsOne g.specifiers
some_words =
    gives_then IsValidToken _ _ (gives_one IsValidToken {Is = IsOne} first_word_at (λ t v valid e. omega arith))
    (λ m first one. gives_then IsValidToken _ _ (gives_each IsValidToken {Is = Any} (any_gives type_word_at)) (λ n more _. gives_pure IsValidToken _ (omega (arith, one))))

optional_name_gives : Good Any (optional g.name)
optional_name_gives = gives_optional IsValidToken (λ _ o. Any o) tt (λ _ v is. tt) one_name

parameter_gives : Gives IsValidToken IsOne d.parameter
parameter_gives =
    gives_then IsValidToken _ _ some_words
    (λ a s one. gives_then IsValidToken _ _ star_gives
    (λ b star _. gives_then IsValidToken _ _ optional_name_gives (λ c x _. gives_pure IsValidToken _ (omega (arith, one)))))

abbrev IsShort : {A : Type 0} → ℕ → List A → Type 0
IsShort n list = length list ≤ n

comma_parameter_gives : Gives IsValidToken IsOne (g.sign (Mark p.Comma) >> d.parameter)
comma_parameter_gives = gives_then IsValidToken _ _ (sign_gives (Mark p.Comma)) (λ m _ _. gives_as IsValidToken (λ n v is. omega (arith, is)) parameter_gives)

listed_gives : Gives IsValidToken IsShort (g.listed d.parameter)
listed_gives =
    gives_then IsValidToken _ _ parameter_gives
    (λ m first one. gives_then IsValidToken _ _ (gives_many IsValidToken IsShort (omega arith) (λ a b v list is more. omega (arith, is, more)) comma_parameter_gives)
    (λ n more short. gives_pure IsValidToken _ (omega (arith, one, short))))

abbrev in_parameters : Phrase (List Parameter)
in_parameters = do
  g.sign (Mark p.OpenRound)
  found ← g.listed d.parameter <|> pure []
  g.sign (Mark p.CloseRound)
  pure found

parameters_give : Gives IsValidToken IsShort d.parameters
parameters_give =
    gives_nested IsValidToken in_parameters (gives_then IsValidToken _ _ (sign_gives (Mark p.OpenRound))
    (λ a _ _. gives_then IsValidToken _ _ (gives_either IsValidToken listed_gives (gives_pure IsValidToken _ (omega arith)))
    (λ b found short. gives_then IsValidToken _ _ (sign_gives (Mark p.CloseRound)) (λ c _ _. gives_pure IsValidToken _ (omega (arith, short))))))

abbrev IsInitializer : Initializer → Type 0
IsInitializer x = AreValid (initializer_leaves x)

abbrev IsGlobal : ℕ → GlobalDeclarator → Type 0
IsGlobal n x = AreValid (global_leaves x) × (1 ≤ n)

abbrev AreGlobals : ℕ → List GlobalDeclarator → Type 0
AreGlobals n list = AllByRecursion (λ x. AreValid (global_leaves x)) list × (length list ≤ n)

-- what a declaration is, and what it adds to a file at most
abbrev pub IsExternal : ℕ → ExternalDeclaration → Type 0
IsExternal n x = AreValid (external_leaves x) × ((m : ℕ) → Does m 0 (m + n) 0 (declaration x))

-- the declarations add so many at most
abbrev pub Adds : ℕ → List ExternalDeclaration → Type 0
Adds n list = (m : ℕ) (o : Outcome File (Unit {0})) → IsSmall m 0 (after o) → IsSmall (m + n) 0 (after (fold (λ o b. and_then o (λ _. declaration b)) o list))

abbrev AreExternals : ℕ → List ExternalDeclaration → Type 0
AreExternals n list = AllByRecursion (λ x. AreValid (external_leaves x)) list × Adds n list

adds_more : (a b : ℕ) (x : ExternalDeclaration) (list : List ExternalDeclaration) → ((m : ℕ) → Does m 0 (m + a) 0 (declaration x)) → Adds b list → Adds (a + b) (x ∷ list)
adds_more a b x list one more m (Outcome.Gives u y) small =
    let next = more (m + a) (declaration x y) (one m y small) in
    small_more ((m + a) + b) 0 (m + (a + b)) 0 _ (omega arith) (omega arith) next

adds_none : Adds 0 []
adds_none m o small = small_more m 0 (m + 0) 0 (after o) (omega arith) (omega arith) small

abbrev pub IsUnit : ℕ → TranslationUnit → Type 0
IsUnit n tree = HasValidLeaves tree × Adds n tree.declarations

abbrev IsBody : ℕ → Option Block → Type 0
IsBody n x = AreValid (of_any block_leaves x) × BodyDeclares n x

-- ---- values in braces

abbrev IsInitial : Initial → Type 0
IsInitial x = AreValid (initial_leaves x)

value_initial : (e : Expression) → IsExpression e → IsInitial (initial_of.Value e)
value_initial e is = subst AreValid (sym (ap initial_leaves (sym (initial_of.rolls-Value e)) ∙ fold-roll-Initial Leaves initial_layer (Initial-F.Value e))) is

list_initial : (list : List Initial) (at : ℕ) → AllByRecursion IsInitial list → IsInitial (initial_of.List list at)
list_initial list at all =
    subst AreValid (sym (ap initial_leaves (sym (initial_of.rolls-List list at)) ∙ fold-roll-Initial Leaves initial_layer (Initial-F.List list at))) (all_parts initial_leaves list all)

optional_comma_gives : Good Any (optional (g.sign (Mark p.Comma)))
optional_comma_gives = gives_optional IsValidToken (λ _ o. Any o) tt (λ _ v is. tt) (sign_gives (Mark p.Comma))

module _ (expr : Phrase Expression) (initial : Phrase Initial) (of_initial : Good IsInitial initial) where
  abbrev in_braces : Phrase (List Initial × ℕ)
  in_braces = do
    at ← g.sign (Mark p.OpenCurly)
    first ← initial
    more ← many (g.sign (Mark p.Comma) >> initial)
    optional (g.sign (Mark p.Comma))
    g.sign (Mark p.CloseCurly)
    pure (first ∷ more, at)

  comma_gives : Good IsInitial (g.sign (Mark p.Comma) >> initial)
  comma_gives = gives_then IsValidToken _ _ (sign_gives (Mark p.Comma)) (λ _ _ _. of_initial)

  braces_give : Good (λ (found : List Initial × ℕ). AllByRecursion IsInitial found.0) (d.braces expr initial)
  braces_give =
      gives_nested IsValidToken in_braces (gives_then IsValidToken _ _ (sign_gives (Mark p.OpenCurly))
      (λ _ at _. gives_then IsValidToken _ _ of_initial
      (λ _ first is. gives_then IsValidToken _ _ (gives_each IsValidToken {Is = IsInitial} comma_gives)
      (λ _ more all. gives_then IsValidToken _ _ optional_comma_gives
      (λ _ _ _. gives_then IsValidToken _ _ (sign_gives (Mark p.CloseCurly)) (λ _ _ _. gives_pure IsValidToken _ (is, all)))))))

pub initial_gives : (depth : ℕ) → Good IsInitial (d.initial depth)
initial_gives zero = gives_none IsValidToken
initial_gives (suc depth) =
    gives_either IsValidToken
    (gives_then IsValidToken _ _ (braces_give (g.expr depth) (d.initial depth) (initial_gives depth)) (λ _ found all. gives_pure IsValidToken _ (list_initial found.0 found.1 all)))
    (gives_then IsValidToken _ _ (expr_gives depth) (λ _ x is. gives_pure IsValidToken _ (value_initial x is)))

module _ (cast expr : Phrase Expression) (initial : Phrase Initial) (statement : Phrase Statement) (of_cast : Good IsExpression cast) (of_expr : Good IsExpression expr)
    (of_initial : Good IsInitial initial) (of_statement : Gives IsValidToken IsStatement statement) where
  -- ---- variables at file scope

  value_gives : Good IsInitializer (d.value cast expr initial statement)
  value_gives = gives_then IsValidToken _ _ of_expr (λ _ x is. gives_pure IsValidToken _ is)

  values_give : Good IsInitializer (d.values cast expr initial statement)
  values_give = gives_then IsValidToken _ _ (braces_give expr initial of_initial) (λ _ found all. gives_pure IsValidToken _ (each_part initial_leaves found.0 all))

  mutex_gives : Good IsInitializer (d.mutex cast expr initial statement)
  mutex_gives = gives_then IsValidToken _ _ (sign_gives (Word k.MutexInitializer)) (λ _ _ _. gives_pure IsValidToken _ tt)

  initializer_gives : Good IsInitializer (d.initializer cast expr initial statement)
  initializer_gives =
      gives_then IsValidToken _ _ (sign_gives (Mark p.Assign)) (λ _ _ _. gives_either IsValidToken values_give (gives_either IsValidToken mutex_gives value_gives))

  optional_initializer_gives : Good (IfAny IsInitializer) (optional (d.initializer cast expr initial statement))
  optional_initializer_gives = gives_optional IsValidToken (λ _ o. IfAny IsInitializer o) tt (λ _ v is. is) initializer_gives

  global_gives : (x : Name) → IsName x.bytes → Good (λ d. AreValid (global_leaves d)) (d.global cast expr initial statement x)
  global_gives x name =
      gives_then IsValidToken _ _ (indices_give cast expr of_cast of_expr)
      (λ _ size is. gives_then IsValidToken _ _ optional_initializer_gives
      (λ _ value so. gives_pure IsValidToken _
      (name, all_both IsValidLeaf (of_each expression_leaves size) (of_any initializer_leaves value) (each_part expression_leaves size is) (any_part initializer_leaves value so))))

  next_global_gives : Gives IsValidToken IsGlobal (d.next_global cast expr initial statement)
  next_global_gives =
      gives_then IsValidToken _ _ (sign_gives (Mark p.Comma))
      (λ a _ _. gives_then IsValidToken _ _ one_name
      (λ b x is. gives_as IsValidToken (λ n v so. (so, omega (arith, is.1))) (global_gives x is.0)))

  -- ---- behind the first name, which is one of the tokens

  objects_give : (before : ℕ) (s : Specifiers) (is_pointer : Bool) (x : Name) → 1 ≤ before → IsName x.bytes →
      Gives IsValidToken (λ n v. IsExternal (before + n) v) (d.objects cast expr initial statement s is_pointer x)
  objects_give before s is_pointer x some name =
      gives_then IsValidToken _ _ (global_gives x name)
      (λ a first is. gives_then IsValidToken _ _
      (gives_many IsValidToken AreGlobals (tt, omega arith) (λ m n v list one more. ((one.0, more.0), omega (arith, one.1, more.1))) next_global_gives)
      (λ b more all. gives_then IsValidToken _ _ (sign_gives (Mark p.Semicolon))
      (λ c _ _. gives_pure IsValidToken _ (
        each_part global_leaves (first ∷ more) (is, all.0),
        λ m x h. small_more (m + length (first ∷ more)) 0 (m + (before + (a + (b + (c + 0))))) 0 _ (omega (arith, all.1, some)) (omega arith) (objects_does m 0 _ x h),
      ))))

  defined_gives : Gives IsValidToken IsBody (d.defined cast expr initial statement)
  defined_gives =
      gives_then IsValidToken _ _ (block_gives cast expr of_cast of_expr statement of_statement)
      (λ m b is. gives_pure IsValidToken _ (is.0, let few = is.1 in omega (arith, few)))

  prototype_gives : Gives IsValidToken IsBody (d.prototype cast expr initial statement)
  prototype_gives = gives_then IsValidToken _ _ (sign_gives (Mark p.Semicolon)) (λ m _ _. gives_pure IsValidToken _ (tt, tt))

  function_gives : (before : ℕ) (s : Specifiers) (is_pointer : Bool) (x : Name) → 1 ≤ before → IsName x.bytes →
      Gives IsValidToken (λ n v. IsExternal (before + n) v) (d.function cast expr initial statement s is_pointer x)
  function_gives before s is_pointer x some name =
      gives_then IsValidToken _ _ parameters_give
      (λ a found short. gives_then IsValidToken _ _ (gives_either IsValidToken defined_gives prototype_gives)
      (λ b body is. gives_pure IsValidToken _
      ((name, is.0), λ m. function_does m b (m + (before + (a + (b + 0)))) _ (omega (arith, some)) (omega (arith, short)) is.1)))

  external_gives : Gives IsValidToken IsExternal (d.external cast expr initial statement)
  external_gives =
      gives_then IsValidToken _ _ specifiers_gives
      (λ a s _. gives_then IsValidToken _ _ star_gives
      (λ b is_pointer _. gives_then IsValidToken _ _ one_name
      (λ c x is.
      gives_as IsValidToken {Is = λ n v. IsExternal ((a + (b + c)) + n) v}
      (λ n v so. (so.0, λ m y h. small_more (m + ((a + (b + c)) + n)) 0 (m + (a + (b + (c + n)))) 0 _ (omega arith) (omega arith) (so.1 m y h)))
      (gives_either IsValidToken (function_gives (a + (b + c)) s is_pointer x (omega (arith, is.1)) is.0) (objects_give (a + (b + c)) s is_pointer x (omega (arith, is.1)) is.0)))))

  -- ---- a whole text

  unit_of_gives : Gives IsValidToken IsUnit (d.unit_of cast expr initial statement)
  unit_of_gives =
      gives_then IsValidToken _ _ external_gives
      (λ a first is. gives_then IsValidToken _ _
      (gives_many IsValidToken AreExternals (tt, adds_none) (λ m n v list one more. ((one.0, more.0), adds_more m n v list one.1 more.1)) external_gives)
      (λ b more all. gives_then IsValidToken _ _ (sign_gives End)
      (λ c _ _. gives_pure IsValidToken _ (
        each_part external_leaves (first ∷ more) (is.0, all.0),
        λ m o small.
            let h = adds_more a b first more is.1 all.1 m o small in
            small_more (m + (a + b)) 0 (m + (a + (b + (c + 0)))) 0 _ (omega arith) (omega arith) h,
      ))))

pub unit_gives : (depth : ℕ) → Gives IsValidToken IsUnit (d.unit depth)
unit_gives depth = unit_of_gives (g.cast depth) (g.expr depth) (d.initial depth) (h.statement depth) (cast_gives depth) (expr_gives depth) (initial_gives depth) (statement_gives depth)
