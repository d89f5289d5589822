-- The declarations that are in sight where a part of a text stands (C99 6.2.1).
use Rattle.std.specs.Prelude.{ℕ, Bool, List, [], ◌∷◌, ◌++◌, Option, None}
use Rattle.c_tree.specs.declared.expression.Specifiers.{Specifiers}
use Rattle.c_tree.specs.declared.declaration.Declarator.{Declarator}
use Rattle.c_tree.specs.declared.declaration.Function.{Function}
use Rattle.c_tree.specs.declared.declaration.GlobalDeclarator.{GlobalDeclarator}
use Rattle.c_tree.specs.declared.declaration.Parameter.{Parameter}
use Rattle.c_rules.specs.Levels.{named_in}
use Rattle.c_rules.specs.Names.{or_else}

-- what declares a name
pub data Declared : Type 0 where
  -- a definition or a prototype
  OfFunction : (f : Function) → Declared
  -- an object at file scope: the words of its type, and whether a * stands before it
  OfObject : (words : Specifiers) (pointer : Bool) (d : GlobalDeclarator) → Declared
  OfParameter : (p : Parameter) → Declared
  -- a variable of a block
  OfVariable : (words : Specifiers) (d : Declarator) → Declared

-- the names that a scope declares, in the order of their declarations
abbrev pub Names : Type 0
Names = List (List ℕ × Declared)

-- where a part stands: the scopes round it, the innermost first, and the function in whose body it is, with how many
-- definitions of functions stand before that one
pub record Where : Type 0 where
  pub scopes : List Names
  pub body : Option (ℕ × Function)

-- the declaration that a name has in the innermost of the scopes that declare it: the first one there
abbrev pub declaration_in : List Names → List ℕ → Option Declared
declaration_in [] name = None
declaration_in (scope ∷ outer) name = or_else (named_in scope name) (declaration_in outer name)

-- more names in the innermost scope
abbrev pub with_names : Names → List Names → List Names
with_names names [] = names ∷ []
with_names names (scope ∷ outer) = (scope ++ names) ∷ outer

abbrev pub behind : Names → Where → Where
behind names w = record { scopes = with_names names w.scopes; body = w.body }

-- in a scope of its own
abbrev pub inside : Where → Where
inside w = record { scopes = [] ∷ w.scopes; body = w.body }
