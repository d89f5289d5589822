-- The trees of a generated text.
use Rattle.std.specs.Prelude.{ℕ, Bool, true, false, List, [], ◌∷◌, ◌++◌, Option, Some, None, codes}
use Rattle.c_token.specs.declared.constant.ConstantType.TheVariants.{Int}
use Rattle.c_token.specs.declared.constant.Constant.TheVariants.{Typed}
use Rattle.c_token.specs.Spelling.{Bytes}
use Rattle.c_tree.specs.declared.expression.Name.{Name}
use Rattle.c_tree.specs.declared.expression.Specifiers.{Specifiers}
use Rattle.c_tree.specs.declared.expression.TypeWord.{TypeWord}
use Rattle.c_tree.specs.declared.expression.TypeWord.TheVariants as w
use Rattle.c_tree.specs.declared.expression.BinaryOperator.{BinaryOperator}
use Rattle.c_tree.specs.declared.expression.BinaryOperator.TheVariants as b
use Rattle.c_tree.specs.declared.expression.Expression.{Expression}
use Rattle.c_tree.specs.declared.expression.Form.TheVariants as form
use Rattle.c_tree.specs.declared.expression.Place.{Place}
use Rattle.c_tree.specs.declared.expression.Argument.{Argument}
use Rattle.c_tree.specs.declared.expression.Argument.TheVariants as argument
use Rattle.c_tree.specs.declared.statement.AssignmentOperator.{AssignmentOperator}
use Rattle.c_tree.specs.declared.statement.AssignmentOperator.TheVariants.{Set, Compound}
use Rattle.c_tree.specs.declared.statement.Direction.TheVariants.{Up}
use Rattle.c_tree.specs.declared.statement.SimpleStatement.{SimpleStatement}
use Rattle.c_tree.specs.declared.statement.SimpleForm.TheVariants as simple_form
use Rattle.c_tree.specs.declared.statement.Returned.TheVariants as returned_as
use Rattle.c_tree.specs.declared.statement.ForStart.TheVariants as start
use Rattle.c_tree.specs.declared.statement.Block.{Block}
use Rattle.c_tree.specs.declared.statement.BlockItem.{BlockItem}
use Rattle.c_tree.specs.declared.statement.BlockItem.TheVariants as block_item
use Rattle.c_tree.specs.declared.statement.Statement.TheVariants as st
use Rattle.c_tree.specs.declared.declaration.Declarator.{Declarator}
use Rattle.c_tree.specs.declared.declaration.Parameter.{Parameter}
use Rattle.c_tree.specs.declared.declaration.ExternalDeclaration.{ExternalDeclaration}
use Rattle.c_tree.specs.declared.declaration.ExternalDeclaration.TheVariants as external
use Rattle.c_tree.specs.declared.declaration.TranslationUnit.{TranslationUnit}
use Rattle.c_tree.specs.Trees as tree
use Rattle.generated_text.specs.declared.draws.Letter.{Letter}
use Rattle.generated_text.specs.declared.draws.Kind.{Kind as LineKind}
use Rattle.generated_text.specs.declared.draws.Kind.TheVariants.{Sum, Difference, Product, ExclusiveOr, Quotient, Raise, Publish, Add}
use Rattle.generated_text.specs.Text.{byte_of}

-- ---- parts of trees

abbrev pub named : Bytes → ℕ → Name
named bytes at = record { bytes = bytes; offset = at }

abbrev pub lettered : Letter → ℕ → Name
lettered x at = named (byte_of x ∷ []) at

abbrev pub words : List TypeWord → ℕ → Specifiers
words list at = record { words = list; offset = at }

abbrev pub alone : Name → Place
alone x = tree.place x []

abbrev pub variable : Name → Expression
variable x = tree.expression x.offset (form.Place (tree.place x []))

abbrev pub constant : ℕ → ℕ → Expression
constant n at = tree.expression at (form.Constant (Typed n Int) at)

abbrev pub changed : ℕ → Place → AssignmentOperator → Expression → SimpleStatement
changed at target operator value = record { form = simple_form.Assign target operator value; offset = at }

abbrev pub stepped : ℕ → Place → SimpleStatement
stepped at target = record { form = simple_form.Step target Up; offset = at }

abbrev pub called : Name → ℕ → List Argument → SimpleStatement
called f at list = record { form = simple_form.Call (tree.call f list); offset = at }

abbrev pub declarator : Name → Option Expression → Declarator
declarator x value = record { name = x; lengths = []; initializer = value }

abbrev pub declared : Specifiers → List Declarator → BlockItem
declared s list = block_item.Declaration (record { specifiers = s; declarators = list })

abbrev pub parameter : Specifiers → Bool → Option Name → Parameter
parameter s is_pointer x = record { specifiers = s; is_pointer = is_pointer; name = x }

abbrev pub object : Specifiers → Name → List Expression → ExternalDeclaration
object s x lengths = external.Objects (record {
  specifiers = s;
  is_pointer = false;
  declarators = record { name = x; lengths = lengths; initializer = None } ∷ [];
})

abbrev pub function : Specifiers → Bool → Name → List Parameter → Block → ExternalDeclaration
function s is_pointer x list body = external.Function (record {
  specifiers = s;
  is_pointer = is_pointer;
  name = x;
  parameters = list;
  body = Some body;
})

-- ---- lines

-- by its operator
abbrev pub operation_item : BinaryOperator → (ℕ → ℕ) → Letter → Letter → Letter → BlockItem
operation_item operator at x y z =
    block_item.Statement (st.Simple (changed (at 0) (alone (lettered x (at 0))) Set (tree.expression (at 2) (form.Binary (variable
    (lettered y (at 2))) (tree.term (operator, (at 3)) (variable (lettered z (at 4))) ∷ [])))))

abbrev pub quotient_item : (ℕ → ℕ) → Letter → Letter → Letter → BlockItem
quotient_item at x y z =
    block_item.Statement (st.Simple (changed (at 0) (alone (lettered x (at 0))) Set (tree.expression (at 2) (form.Binary (variable
    (lettered y (at 2))) (tree.term (b.Divide, (at 3)) (tree.expression (at 4) (form.Binary (variable (lettered z (at 5))) (tree.term (
      b.BitOr,
      (at 6),
    ) (constant 1 (at 7)) ∷ []))) ∷ [])))))

abbrev pub raise_item : (ℕ → ℕ) → Letter → Letter → Letter → BlockItem
raise_item at x y z =
    block_item.Statement (st.If (tree.expression (at 2) (form.Binary (variable (lettered y (at 2))) (tree.term (b.Less, (at 3)) (variable
    (lettered z (at 4))) ∷ []))) (st.Block (tree.block (block_item.Statement (st.Simple (changed (at 7) (alone (lettered x (at 7))) Set
    (tree.expression (at 9) (form.Binary (variable (lettered x (at 9))) (tree.term (b.Add, (at 10)) (constant 1 (at 11)) ∷ []))))) ∷ []) (at 13)))
    None)

abbrev pub publish_item : (ℕ → ℕ) → Letter → BlockItem
publish_item at x =
    block_item.Statement (st.Simple (changed (at 0) (tree.place (named (codes "g") (at 0)) (variable (named (codes "id") (at 2)) ∷ [])) Set
    (variable (lettered x (at 5)))))

abbrev pub lock_item : (ℕ → ℕ) → BlockItem
lock_item at =
    block_item.Statement (st.Simple (called (named (codes "pthread_mutex_lock") (at 0)) (at 0) (argument.Address (alone (named (codes "m") (at 3)))
    (at 2) ∷ [])))

abbrev pub add_item : (ℕ → ℕ) → Letter → BlockItem
add_item at x =
    block_item.Statement (st.Simple (changed (at 6) (alone (named (codes "s") (at 6))) (Compound b.Add) (variable (lettered x (at 8)))))

abbrev pub unlock_item : (ℕ → ℕ) → BlockItem
unlock_item at =
    block_item.Statement (st.Simple (called (named (codes "pthread_mutex_unlock") (at 10)) (at 10) (argument.Address (alone
    (named (codes "m") (at 13))) (at 12) ∷ [])))

abbrev pub line_items : LineKind → (ℕ → ℕ) → Letter → Letter → Letter → List BlockItem
line_items Sum at x y z = operation_item b.Add at x y z ∷ []
line_items Difference at x y z = operation_item b.Subtract at x y z ∷ []
line_items Product at x y z = operation_item b.Multiply at x y z ∷ []
line_items ExclusiveOr at x y z = operation_item b.BitXor at x y z ∷ []
line_items Quotient at x y z = quotient_item at x y z ∷ []
line_items Raise at x y z = raise_item at x y z ∷ []
line_items Publish at x y z = publish_item at x ∷ []
line_items Add at x y z = lock_item at ∷ add_item at x ∷ unlock_item at ∷ []

-- ---- the whole

abbrev pub threads_object : ℕ → (ℕ → ℕ) → ExternalDeclaration
threads_object t at =
    object (words (w.ThreadId ∷ []) (at 0)) (named (codes "t") (at 1)) (constant t (at 3) ∷ [])

abbrev pub mutex_object : (ℕ → ℕ) → ExternalDeclaration
mutex_object at =
    object (words (w.Mutex ∷ []) (at 6)) (named (codes "m") (at 7)) []

abbrev pub sum_object : (ℕ → ℕ) → ExternalDeclaration
sum_object at =
    object (words (w.Unsigned ∷ []) (at 9)) (named (codes "s") (at 10)) []

abbrev pub elements_object : ℕ → (ℕ → ℕ) → ExternalDeclaration
elements_object t at =
    object (words (w.Unsigned ∷ []) (at 12)) (named (codes "g") (at 13)) (constant t (at 15) ∷ [])

abbrev pub id_item : (ℕ → ℕ) → BlockItem
id_item at =
    declared (words (w.Long ∷ []) (at 27)) (declarator (named (codes "id") (at 28)) (Some (tree.expression (at 30) (form.Cast (words (w.Long ∷ [])
    (at 31)) (variable (named (codes "arg") (at 33)))))) ∷ [])

abbrev pub letters_item : (ℕ → ℕ) → BlockItem
letters_item at =
    declared (words (w.Unsigned ∷ []) (at 35)) (declarator (named (codes "a") (at 36)) (Some (tree.expression (at 38) (form.Binary (tree.expression
    (at 38) (form.Cast (words (w.Unsigned ∷ []) (at 39)) (variable (named (codes "id") (at 41))))) (tree.term (b.Add, (at 42)) (constant 1 (at 43)) ∷
    [])))) ∷ declarator (named (codes "b") (at 45)) (Some (constant 2 (at 47))) ∷ declarator (named (codes "c") (at 49)) (Some (constant 3 (at 51)))
    ∷ declarator (named (codes "d") (at 53)) (Some (constant 4 (at 55))) ∷ [])

abbrev pub mix_item : (ℕ → ℕ) → BlockItem
mix_item at =
    block_item.Statement (st.Simple (changed (at 0) (tree.place (named (codes "g") (at 0)) (variable (named (codes "id") (at 2)) ∷ [])) Set
    (tree.expression (at 5) (form.Binary (variable (named (codes "a") (at 5))) (tree.term (b.BitXor, (at 6)) (variable (named (codes "b") (at 7))) ∷
    tree.term (b.BitXor, (at 8)) (variable (named (codes "c") (at 9))) ∷ tree.term (b.BitXor, (at 10)) (variable (named (codes "d") (at 11))) ∷
    [])))))

abbrev pub last_lock_item : (ℕ → ℕ) → BlockItem
last_lock_item at =
    block_item.Statement (st.Simple (called (named (codes "pthread_mutex_lock") (at 13)) (at 13) (argument.Address (alone
    (named (codes "m") (at 16))) (at 15) ∷ [])))

abbrev pub last_add_item : (ℕ → ℕ) → BlockItem
last_add_item at =
    block_item.Statement (st.Simple (changed (at 19) (alone (named (codes "s") (at 19))) (Compound b.Add) (tree.expression (at 21) (form.Place
    (tree.place (named (codes "g") (at 21)) (variable (named (codes "id") (at 23)) ∷ []))))))

abbrev pub last_unlock_item : (ℕ → ℕ) → BlockItem
last_unlock_item at =
    block_item.Statement (st.Simple (called (named (codes "pthread_mutex_unlock") (at 26)) (at 26) (argument.Address (alone
    (named (codes "m") (at 29))) (at 28) ∷ [])))

abbrev pub null_item : (ℕ → ℕ) → BlockItem
null_item at =
    block_item.Statement (st.Return (returned_as.Pointer (tree.null (at 33))) (at 32))

abbrev pub counter_item : (ℕ → ℕ) → BlockItem
counter_item at =
    declared (words (w.Int ∷ []) (at 6)) (declarator (named (codes "i") (at 7)) None ∷ [])

abbrev pub init_item : (ℕ → ℕ) → BlockItem
init_item at =
    block_item.Statement (st.Simple (called (named (codes "pthread_mutex_init") (at 9)) (at 9) (argument.Address (alone (named (codes "m") (at 12)))
    (at 11) ∷ argument.Pointer (tree.null (at 14)) ∷ [])))

abbrev pub create_item : ℕ → (ℕ → ℕ) → BlockItem
create_item t at =
    block_item.Statement (st.For (start.Simple (changed (at 19) (alone (named (codes "i") (at 19))) Set (constant 0 (at 21)))) (Some (tree.expression
    (at 23) (form.Binary (variable (named (codes "i") (at 23))) (tree.term (b.Less, (at 24)) (constant t (at 25)) ∷ [])))) (Some (stepped (at 27)
    (alone (named (codes "i") (at 27))))) (st.Block (tree.block (block_item.Statement (st.Simple (called (named (codes "pthread_create") (at 31))
    (at 31) (argument.Address (tree.place (named (codes "t") (at 34)) (variable (named (codes "i") (at 36)) ∷ [])) (at 33) ∷ argument.Pointer
    (tree.null (at 39)) ∷ argument.Value (variable (named (codes "worker") (at 41))) ∷ argument.Pointer (tree.pointer (at 43) (tree.expression
    (at 47) (form.Cast (words (w.Long ∷ []) (at 48)) (variable (named (codes "i") (at 50)))))) ∷ []))) ∷ []) (at 53))))

abbrev pub join_item : ℕ → (ℕ → ℕ) → BlockItem
join_item t at =
    block_item.Statement (st.For (start.Simple (changed (at 56) (alone (named (codes "i") (at 56))) Set (constant 0 (at 58)))) (Some (tree.expression
    (at 60) (form.Binary (variable (named (codes "i") (at 60))) (tree.term (b.Less, (at 61)) (constant t (at 62)) ∷ [])))) (Some (stepped (at 64)
    (alone (named (codes "i") (at 64))))) (st.Block (tree.block (block_item.Statement (st.Simple (called (named (codes "pthread_join") (at 68))
    (at 68) (argument.Value (tree.expression (at 70) (form.Place (tree.place (named (codes "t") (at 70)) (variable
    (named (codes "i") (at 72)) ∷ [])))) ∷ argument.Pointer (tree.null (at 75)) ∷ []))) ∷ []) (at 78))))

abbrev pub print_item : ℕ → (ℕ → ℕ) → BlockItem
print_item t at =
    block_item.Statement (st.For (start.Simple (changed (at 81) (alone (named (codes "i") (at 81))) Set (constant 0 (at 83)))) (Some (tree.expression
    (at 85) (form.Binary (variable (named (codes "i") (at 85))) (tree.term (b.Less, (at 86)) (constant t (at 87)) ∷ [])))) (Some (stepped (at 89)
    (alone (named (codes "i") (at 89))))) (st.Block (tree.block (block_item.Statement (st.Simple (called (named (codes "printf") (at 93)) (at 93)
    (argument.Text (codes "%u\\n") (at 95) ∷ argument.Value (tree.expression (at 97) (form.Place (tree.place (named (codes "g") (at 97))
    (variable (named (codes "i") (at 99)) ∷ [])))) ∷ []))) ∷ []) (at 103))))

abbrev pub sum_item : (ℕ → ℕ) → BlockItem
sum_item at =
    block_item.Statement (st.Simple (called (named (codes "printf") (at 104)) (at 104) (argument.Text (codes "%u\\n") (at 106) ∷ argument.Value
    (variable (named (codes "s") (at 108))) ∷ [])))

abbrev pub destroy_item : (ℕ → ℕ) → BlockItem
destroy_item at =
    block_item.Statement (st.Simple (called (named (codes "pthread_mutex_destroy") (at 111)) (at 111) (argument.Address (alone
    (named (codes "m") (at 114))) (at 113) ∷ [])))

abbrev pub zero_item : (ℕ → ℕ) → BlockItem
zero_item at =
    block_item.Statement (st.Return (returned_as.Value (constant 0 (at 118))) (at 117))

abbrev pub objects : ℕ → (ℕ → ℕ) → List ExternalDeclaration
objects t at = threads_object t at ∷ mutex_object at ∷ sum_object at ∷ elements_object t at ∷ []

abbrev pub opening_items : (ℕ → ℕ) → List BlockItem
opening_items at = id_item at ∷ letters_item at ∷ []

abbrev pub closing_items : (ℕ → ℕ) → List BlockItem
closing_items at = mix_item at ∷ last_lock_item at ∷ last_add_item at ∷ last_unlock_item at ∷ null_item at ∷ []

-- with this body
abbrev pub worker_by : (ℕ → ℕ) → Option Block → ExternalDeclaration
worker_by at body = external.Function (record {
  specifiers = (words (w.Void ∷ []) (at 18));
  is_pointer = true;
  name = (named (codes "worker") (at 20));
  parameters = parameter (words (w.Void ∷ []) (at 22)) true (Some (named (codes "arg") (at 24))) ∷ [];
  body = body;
})

-- by the items of its lines
abbrev pub worker : (ℕ → ℕ) → (ℕ → ℕ) → List BlockItem → ExternalDeclaration
worker at behind lines = worker_by at (Some (tree.block (opening_items at ++ lines ++ closing_items behind) (behind 35)))

abbrev pub main_items : ℕ → (ℕ → ℕ) → List BlockItem
main_items t at =
    counter_item at ∷ init_item at ∷ create_item t at ∷ join_item t at ∷ print_item t at ∷ sum_item at ∷ destroy_item at ∷ zero_item at ∷ []

-- with this body
abbrev pub main_by : (ℕ → ℕ) → Option Block → ExternalDeclaration
main_by at body = external.Function (record {
  specifiers = words (w.Int ∷ []) (at 0);
  is_pointer = false;
  name = named (codes "main") (at 1);
  parameters = parameter (words (w.Void ∷ []) (at 3)) false None ∷ [];
  body = body;
})

abbrev pub main : ℕ → (ℕ → ℕ) → ExternalDeclaration
main t at =
    function (words (w.Int ∷ []) (at 0)) false (named (codes "main") (at 1)) (parameter (words (w.Void ∷ []) (at 3)) false None ∷ [])
    (tree.block (main_items t at) (at 120))

-- by the places of the tokens before the lines, behind them and of main
abbrev pub unit_of : ℕ → (ℕ → ℕ) → (ℕ → ℕ) → (ℕ → ℕ) → List BlockItem → TranslationUnit
unit_of t before behind last lines = record { declarations = objects t before ++ (worker before behind lines ∷ main t last ∷ []) }
