-- The parts of a text that the rules are about, each where it stands.
use Rattle.std.specs.Prelude.{ℕ, suc, Bool, true, false, ◌&&◌, not, is_none, is_some, if◌then◌else◌, List, [], ◌∷◌, ◌++◌, length, map, nat_eq, Option, Some, None, option_map}
use Rattle.std.specs.List.{flat_map}
use Rattle.c_token.specs.declared.constant.Constant.{Constant as ConstantToken}
use Rattle.c_tree.specs.declared.expression.Name.{Name}
use Rattle.c_tree.specs.declared.expression.Specifiers.{Specifiers}
use Rattle.c_tree.specs.declared.expression.Expression.{Expression, out-Expression}
use Rattle.c_tree.specs.declared.expression.Form.{Form, out-Form}
use Rattle.c_tree.specs.declared.expression.Choice.{Choice}
use Rattle.c_tree.specs.declared.expression.Term.{Term}
use Rattle.c_tree.specs.declared.expression.Place.{Place, out-Place}
use Rattle.c_tree.specs.declared.expression.Call.{Call as CallTree, out-Call}
use Rattle.c_tree.specs.declared.expression.Pointer.{Pointer}
use Rattle.c_tree.specs.declared.expression.Argument.{Argument, out-Argument}
use Rattle.c_tree.specs.declared.expression.Argument.TheOpen.{Argument-F, Form-F, Call-F, Choice-F, Expression-F, Place-F, Pointer-F, Term-F}
use Rattle.c_tree.specs.declared.expression.Argument.TheFolds.{fold-Argument, fold-Expression, fold-Place, fold-Pointer}
use Rattle.c_tree.specs.declared.declaration.Declaration.{Declaration}
use Rattle.c_tree.specs.declared.declaration.Declarator.{Declarator}
use Rattle.c_tree.specs.declared.declaration.Function.{Function}
use Rattle.c_tree.specs.declared.declaration.Parameter.{Parameter}
use Rattle.c_tree.specs.declared.declaration.Initial.{Initial as InitialTree, out-Initial}
use Rattle.c_tree.specs.declared.declaration.Initial.TheOpen.{Initial-F}
use Rattle.c_tree.specs.declared.declaration.Initial.TheFolds.{fold-Initial}
use Rattle.c_tree.specs.declared.declaration.Initializer.{Initializer}
use Rattle.c_tree.specs.declared.declaration.Initializer.TheVariants as initial
use Rattle.c_tree.specs.declared.declaration.GlobalDeclarator.{GlobalDeclarator}
use Rattle.c_tree.specs.declared.declaration.ExternalDeclaration.{ExternalDeclaration}
use Rattle.c_tree.specs.declared.declaration.ExternalDeclaration.TheVariants as external
use Rattle.c_tree.specs.declared.declaration.TranslationUnit.{TranslationUnit}
use Rattle.c_tree.specs.declared.statement.SimpleForm.{SimpleForm}
use Rattle.c_tree.specs.declared.statement.SimpleForm.TheVariants as simple
use Rattle.c_tree.specs.declared.statement.SimpleStatement.{SimpleStatement}
use Rattle.c_tree.specs.declared.statement.Returned.{Returned}
use Rattle.c_tree.specs.declared.statement.Returned.TheVariants as returned
use Rattle.c_tree.specs.declared.statement.ForStart.{ForStart}
use Rattle.c_tree.specs.declared.statement.ForStart.TheVariants as start
use Rattle.c_tree.specs.declared.statement.Block.{Block}
use Rattle.c_tree.specs.declared.statement.BlockItem.{BlockItem}
use Rattle.c_tree.specs.declared.statement.CaseLabel.{CaseLabel}
use Rattle.c_tree.specs.declared.statement.Statement.{Statement}
use Rattle.c_tree.specs.declared.statement.BlockItem.TheOpen.{Block-F, BlockItem-F, Group-F, Statement-F}
use Rattle.c_tree.specs.declared.statement.BlockItem.TheFolds.{fold-Block, fold-BlockItem, fold-Statement}
use Rattle.c_rules.specs.declared.specifiers.BaseType.{BaseType}
use Rattle.c_rules.specs.declared.specifiers.BaseType.TheVariants as base
use Rattle.c_rules.specs.declared.library.LibraryFunction.{LibraryFunction}
use Rattle.c_rules.specs.declared.library.LibraryFunction.TheVariants as library
use Rattle.c_rules.specs.Library.{function_named, takes}
use Rattle.c_rules.specs.Specifiers.{base_of, is_void, plain_integer}
use Rattle.c_expressions.specs.Expressions.{is_long}
use Rattle.c_broken_rules.specs.Sight.{Declared, Names, Where, behind, inside}

pub data Part : Type 0 where
  -- a constant, and its place
  Constant : (value : ConstantToken) (at : ℕ) → Part
  -- a name that is used for what it stands for
  Use : (w : Where) (name : Name) → Part
  -- a name without an index whose value is read, but that of a cast to a signed 64-bit type
  Read : (w : Where) (name : Name) → Part
  -- a name that is called
  Call : (w : Where) (name : Name) → Part
  -- a name that stands where a create has its start routine
  Routine : (w : Where) (name : Name) → Part
  -- a create: the names of its thread object and of its start routine
  Creation : (w : Where) (thread routine : Name) → Part
  -- a call of printf that is a statement
  Print : (name : Name) (arguments : List Argument) → Part
  -- the length of an array
  Length : (e : Expression) → Part
  -- an initial value of an integer object at file scope
  Initial : (e : Expression) → Part
  -- an item between braces, behind so many others, where there are as many elements as the lengths say; its first token stands
  -- at the place
  Listed : (lengths : List Expression) (index at : ℕ) → Part
  -- a label of the switch over the value, behind its other labels
  Label : (w : Where) (over : Expression) (before : List CaseLabel) (label : CaseLabel) → Part
  -- a declaration of a name behind those that are in sight
  Declares : (w : Where) (name : Name) (what : Declared) → Part
  -- the words of an object of a block, or of a parameter without a *, and the place of its name, or, where it has none, of
  -- the words
  Local : (words : Specifiers) (at : ℕ) → Part

abbrev pub Parts : Type 0
Parts = List Part

abbrev pub all_of : List Parts → Parts
all_of [] = []
all_of (parts ∷ more) = parts ++ all_of more

abbrev pub if_any : Option Parts → Parts
if_any None = []
if_any (Some parts) = parts

abbrev pub of_each : {A : Type 0} → (A → Parts) → List A → Parts
of_each parts [] = []
of_each parts (a ∷ more) = parts a ++ of_each parts more

abbrev pub of_any : {A : Type 0} → (A → Parts) → Option A → Parts
of_any parts None = []
of_any parts (Some a) = parts a

-- ---- expressions

-- the parts of an expression, and those that it has as the operand of a cast to a signed 64-bit type
pub record Parted : Type 0 where
  pub parts : Parts
  pub converted : Parts

abbrev pub plainly : Parts → Parted
plainly parts = record { parts = parts; converted = parts }

-- a name with the parts of its indices
pub record Indexed : Type 0 where
  pub name : Name
  pub indices : List Parts

module _ (w : Where) where
  abbrev pub place_by : Name → List Parts → Parted
  place_by name [] = record { parts = Part.Use w name ∷ Part.Read w name ∷ []; converted = Part.Use w name ∷ [] }
  place_by name (index ∷ more) = plainly (all_of (index ∷ more) ++ Part.Use w name ∷ [])

  abbrev pub argument_layer : Argument-F Parts Parted Parts Parts Parted Indexed Parts Parts → Parts
  argument_layer (Argument-F.Value e) = e.parts
  argument_layer (Argument-F.Text bytes at) = []
  argument_layer (Argument-F.Address p at) = all_of p.indices
  argument_layer (Argument-F.Pointer p) = p

  abbrev pub form_layer : Form-F Parts Parted Parts Parts Parted Indexed Parts Parts → Parted
  form_layer (Form-F.Constant value at) = plainly (Part.Constant value at ∷ [])
  form_layer (Form-F.Place p) = place_by p.name p.indices
  form_layer (Form-F.Call c) = plainly c
  form_layer (Form-F.Unary operator e) = plainly e.parts
  form_layer (Form-F.Cast words e) = plainly (if is_long (plain_integer words) then e.converted else e.parts)
  form_layer (Form-F.Binary first terms) = plainly (first.parts ++ all_of terms)
  form_layer (Form-F.Conditional first choices) = plainly (first.parts ++ all_of choices)

  abbrev pub call_layer : Call-F Parts Parted Parts Parts Parted Indexed Parts Parts → Parts
  call_layer c = Part.Call w c.name ∷ all_of c.arguments

  abbrev pub choice_layer : Choice-F Parts Parted Parts Parts Parted Indexed Parts Parts → Parts
  choice_layer c = c.condition.parts ++ c.otherwise.parts

  abbrev pub expression_layer : Expression-F Parts Parted Parts Parts Parted Indexed Parts Parts → Parted
  expression_layer e = e.form

  abbrev pub place_layer : Place-F Parts Parted Parts Parts Parted Indexed Parts Parts → Indexed
  place_layer p = record { name = p.name; indices = map (λ (e : Parted). e.parts) p.indices }

  abbrev pub pointer_layer : Pointer-F Parts Parted Parts Parts Parted Indexed Parts Parts → Parts
  pointer_layer p = if_any (option_map (λ (e : Parted). e.parts) p.operand)

  abbrev pub term_layer : Term-F Parts Parted Parts Parts Parted Indexed Parts Parts → Parts
  term_layer t = t.operand.parts

  abbrev pub parted : Expression → Parted
  parted =
      fold-Expression Parts Parted Parts Parts Parted Indexed Parts Parts
      argument_layer form_layer call_layer choice_layer expression_layer place_layer pointer_layer term_layer

  abbrev pub indexed : Place → Indexed
  indexed =
      fold-Place Parts Parted Parts Parts Parted Indexed Parts Parts
      argument_layer form_layer call_layer choice_layer expression_layer place_layer pointer_layer term_layer

  abbrev pub argument_parts : Argument → Parts
  argument_parts =
      fold-Argument Parts Parted Parts Parts Parted Indexed Parts Parts
      argument_layer form_layer call_layer choice_layer expression_layer place_layer pointer_layer term_layer

  abbrev pub pointer_parts : Pointer → Parts
  pointer_parts =
      fold-Pointer Parts Parted Parts Parts Parted Indexed Parts Parts
      argument_layer form_layer call_layer choice_layer expression_layer place_layer pointer_layer term_layer

  abbrev pub expression_parts : Expression → Parts
  expression_parts e = (parted e).parts

  -- a place that is not read: one that is assigned to, or that is an object of POSIX threads
  abbrev pub place_parts : Place → Parts
  place_parts p = all_of (indexed p).indices ++ Part.Use w (out-Place p).name ∷ []

  abbrev pub arguments_parts : List Argument → Parts
  arguments_parts list = of_each argument_parts list

  -- ---- calls that are statements

  abbrev pub object_layer : Argument → Argument-F Argument Form CallTree Choice Expression Place Pointer Term → Parts
  object_layer a (Argument-F.Address p at) = place_parts p
  object_layer a other = argument_parts a

  -- & and an object
  abbrev pub object_parts : Argument → Parts
  object_parts a = object_layer a (out-Argument a)

  abbrev pub place_in_form : Form-F Argument Form CallTree Choice Expression Place Pointer Term → Option Place
  place_in_form (Form-F.Place p) = Some p
  place_in_form other = None

  abbrev pub place_in_layer : Argument-F Argument Form CallTree Choice Expression Place Pointer Term → Option Place
  place_in_layer (Argument-F.Value e) = place_in_form (out-Form (out-Expression e).form)
  place_in_layer other = None

  abbrev pub place_in : Argument → Option Place
  place_in a = place_in_layer (out-Argument a)

  abbrev pub thread_by : Argument → Option Place → Parts
  thread_by a (Some p) = place_parts p
  thread_by a None = argument_parts a

  -- a thread object without &
  abbrev pub thread_parts : Argument → Parts
  thread_parts a = thread_by a (place_in a)

  abbrev pub name_by : Option Place → Option Name
  name_by None = None
  name_by (Some p) = if nat_eq (length (out-Place p).indices) 0 then Some (out-Place p).name else None

  -- the name that an argument is
  abbrev pub name_alone : Argument → Option Name
  name_alone a = name_by (place_in a)

  abbrev pub routine_by : Option Name → Parts
  routine_by None = []
  routine_by (Some name) = Part.Routine w name ∷ []

  abbrev pub named_object : Argument-F Argument Form CallTree Choice Expression Place Pointer Term → Option Name
  named_object (Argument-F.Address p at) = Some (out-Place p).name
  named_object other = None

  abbrev pub creation_by : Option Name → Option Name → Parts
  creation_by (Some thread) (Some routine) = Part.Creation w thread routine ∷ []
  creation_by (Some thread) None = []
  creation_by None routine = []

  abbrev pub create_parts : List Argument → Parts
  create_parts (thread ∷ attributes ∷ routine ∷ value ∷ []) =
      object_parts thread
      ++ (argument_parts attributes
      ++ ((routine_by (name_alone routine) ++ argument_parts routine)
      ++ (argument_parts value ++ creation_by (named_object (out-Argument thread)) (name_alone routine))))
  create_parts list = arguments_parts list

  abbrev pub join_parts : List Argument → Parts
  join_parts (thread ∷ more) = thread_parts thread ++ arguments_parts more
  join_parts [] = []

  abbrev pub first_object_parts : List Argument → Parts
  first_object_parts (object ∷ more) = object_parts object ++ arguments_parts more
  first_object_parts [] = []

  -- the arguments of a call of a function of the library that has as many as the function takes
  abbrev pub library_parts : LibraryFunction → List Argument → Parts
  library_parts library.Print list = arguments_parts list
  library_parts library.Create list = create_parts list
  library_parts library.Join list = join_parts list
  library_parts library.Exit list = arguments_parts list
  library_parts library.MutexInit list = first_object_parts list
  library_parts library.MutexDestroy list = first_object_parts list
  library_parts library.MutexLock list = first_object_parts list
  library_parts library.MutexUnlock list = first_object_parts list
  library_parts library.BarrierInit list = first_object_parts list
  library_parts library.BarrierDestroy list = first_object_parts list
  library_parts library.BarrierWait list = first_object_parts list

  abbrev pub print_by : LibraryFunction → Name → List Argument → Parts
  print_by library.Print name list = Part.Print name list ∷ []
  print_by function name list = []

  abbrev pub called_by : Option LibraryFunction → Name → List Argument → Parts
  called_by None name list = arguments_parts list
  called_by (Some function) name list =
      print_by function name list ++ (if takes function (length list) then library_parts function list else arguments_parts list)

  abbrev pub call_parts : CallTree → Parts
  call_parts c =
      Part.Call w (out-Call c).name ∷ called_by (function_named (out-Call c).name.bytes) (out-Call c).name (out-Call c).arguments

  -- ---- statements without statements in them

  abbrev pub simple_form_parts : SimpleForm → Parts
  simple_form_parts (simple.Assign place operator e) = expression_parts e ++ place_parts place
  simple_form_parts (simple.Step place way) = place_parts place
  simple_form_parts (simple.Call c) = call_parts c

  abbrev pub simple_parts : SimpleStatement → Parts
  simple_parts x = simple_form_parts x.form

  abbrev pub returned_parts : Returned → Parts
  returned_parts returned.Nothing = []
  returned_parts (returned.Value e) = expression_parts e
  returned_parts (returned.Pointer p) = pointer_parts p

  abbrev pub length_parts : Expression → Parts
  length_parts e = expression_parts e ++ Part.Length e ∷ []

-- ---- declarations in blocks

abbrev pub declared_by : Specifiers → Declarator → Names
declared_by words d = (d.name.bytes, Declared.OfVariable words d) ∷ []

-- the name of a declarator is in sight in its initialiser
abbrev pub declarator_parts : Where → Specifiers → Declarator → Parts
declarator_parts w words d =
    of_each (length_parts w) d.lengths
    ++ (Part.Local words d.name.offset
    ∷ Part.Declares w d.name (Declared.OfVariable words d)
    ∷ of_any (expression_parts (behind (declared_by words d) w)) d.initializer)

abbrev pub declarators_parts : Where → Specifiers → List Declarator → Parts
declarators_parts w words [] = []
declarators_parts w words (d ∷ more) = declarator_parts w words d ++ declarators_parts (behind (declared_by words d) w) words more

abbrev pub declaration_parts : Where → Declaration → Parts
declaration_parts w d = declarators_parts w d.specifiers d.declarators

abbrev pub declared_names : Declaration → Names
declared_names d = flat_map (declared_by d.specifiers) d.declarators

-- ---- statements

abbrev pub Sighted : Type 0
Sighted = Where → Parts

-- an item of a block, and the names that it declares
pub record Itemed : Type 0 where
  pub parts : Sighted
  pub names : Names

abbrev pub items_parts : List Itemed → Sighted
items_parts [] w = []
items_parts (i ∷ more) w = i.parts w ++ items_parts more (behind i.names w)

abbrev pub start_parts : ForStart → Sighted
start_parts start.Nothing w = []
start_parts (start.Declaration d) w = declaration_parts w d
start_parts (start.Simple x) w = simple_parts w x

abbrev pub start_names : ForStart → Names
start_names start.Nothing = []
start_names (start.Declaration d) = declared_names d
start_names (start.Simple x) = []

-- the head and the body of a for, behind its declaration
abbrev pub turning_parts : Option Expression → Option SimpleStatement → Sighted → Sighted
turning_parts test step body w = of_any (expression_parts w) test ++ (of_any (simple_parts w) step ++ body w)

abbrev pub for_parts : ForStart → Option Expression → Option SimpleStatement → Sighted → Sighted
for_parts begin test step body w =
    start_parts begin (inside w) ++ turning_parts test step body (behind (start_names begin) (inside w))

abbrev pub in_any : Option Sighted → Sighted
in_any None w = []
in_any (Some parts) w = parts w

-- ---- switches

-- a group: its label, and the parts of its statements
pub record Grouped : Type 0 where
  pub label : CaseLabel
  pub parts : Sighted

abbrev pub of_all : List Sighted → Sighted
of_all [] w = []
of_all (parts ∷ more) w = parts w ++ of_all more w

abbrev pub group_layer : Group-F Itemed Sighted Sighted Grouped → Grouped
group_layer g = record { label = g.label; parts = of_all g.statements }

-- the groups of a switch over a value, behind those labels
abbrev pub groups_parts : Expression → List CaseLabel → List Grouped → Sighted
groups_parts over before [] w = []
groups_parts over before (g ∷ more) w =
    of_any (expression_parts w) g.label.value
    ++ (Part.Label w over before g.label ∷ (g.parts w ++ groups_parts over (before ++ g.label ∷ []) more w))

abbrev pub statement_layer : Statement-F Itemed Sighted Sighted Grouped → Sighted
statement_layer (Statement-F.Block body) w = body (inside w)
statement_layer Statement-F.Empty w = []
statement_layer (Statement-F.Simple x) w = simple_parts w x
statement_layer (Statement-F.Break at) w = []
statement_layer (Statement-F.Continue at) w = []
statement_layer (Statement-F.If test consequent alternative) w = expression_parts w test ++ (consequent w ++ in_any alternative w)
statement_layer (Statement-F.While test body) w = expression_parts w test ++ body w
statement_layer (Statement-F.DoWhile body test) w = body w ++ expression_parts w test
statement_layer (Statement-F.For begin test step body) w = for_parts begin test step body w
statement_layer (Statement-F.Return x at) w = returned_parts w x
statement_layer (Statement-F.Switch e groups at) w = expression_parts w e ++ groups_parts e [] groups w

abbrev pub item_layer : BlockItem-F Itemed Sighted Sighted Grouped → Itemed
item_layer (BlockItem-F.Declaration d) = record { parts = λ w. declaration_parts w d; names = declared_names d }
item_layer (BlockItem-F.Statement x) = record { parts = x; names = [] }

abbrev pub block_layer : Block-F Itemed Sighted Sighted Grouped → Sighted
block_layer b = items_parts b.items

abbrev pub block_parts : Block → Sighted
block_parts = fold-Block Itemed Sighted Sighted Grouped item_layer statement_layer block_layer group_layer

abbrev pub statement_parts : Statement → Sighted
statement_parts = fold-Statement Itemed Sighted Sighted Grouped item_layer statement_layer block_layer group_layer

abbrev pub item_parts : BlockItem → Itemed
item_parts = fold-BlockItem Itemed Sighted Sighted Grouped item_layer statement_layer block_layer group_layer

-- ---- functions

-- void alone says that there is no parameter
abbrev pub is_unnamed_void : Parameter → Bool
is_unnamed_void p = not p.is_pointer && is_none p.name && is_void p.specifiers.words

abbrev pub parameters_in : List Parameter → List Parameter
parameters_in [] = []
parameters_in (only ∷ []) = if is_unnamed_void only then [] else only ∷ []
parameters_in (first ∷ next ∷ more) = first ∷ next ∷ more

abbrev pub parameters_of : Function → List Parameter
parameters_of f = parameters_in f.parameters

abbrev pub local_of : Parameter → ℕ → Parts
local_of p at = if p.is_pointer then [] else Part.Local p.specifiers at ∷ []

abbrev pub named_parameter : Parameter → Option Name → Names
named_parameter p None = []
named_parameter p (Some name) = (name.bytes, Declared.OfParameter p) ∷ []

abbrev pub parameter_names : List Parameter → Names
parameter_names list = flat_map (λ (p : Parameter). named_parameter p p.name) list

abbrev pub parameter_by : Where → Parameter → Option Name → Parts
parameter_by w p None = local_of p p.specifiers.offset
parameter_by w p (Some name) = local_of p name.offset ++ Part.Declares w name (Declared.OfParameter p) ∷ []

abbrev pub parameters_parts : Where → List Parameter → Parts
parameters_parts w [] = []
parameters_parts w (p ∷ more) = parameter_by w p p.name ++ parameters_parts (behind (named_parameter p p.name) w) more

abbrev pub function_names : Function → Names
function_names f = (f.name.bytes, Declared.OfFunction f) ∷ []

-- the body of a function before which so many functions are defined
abbrev pub body_parts : ℕ → Function → Option Block → Where → Parts
body_parts number f None w = []
body_parts number f (Some body) w = block_parts body (record { scopes = w.scopes; body = Some (number, f) })

-- parameters and the body share a scope
abbrev pub function_parts : ℕ → Function → Where → Parts
function_parts number f w =
    let own = inside (behind (function_names f) w) in
    Part.Declares w f.name (Declared.OfFunction f)
    ∷ (parameters_parts own (parameters_of f) ++ body_parts number f f.body (behind (parameter_names (parameters_of f)) own))

-- ---- objects at file scope

abbrev pub object_names : Specifiers → Bool → GlobalDeclarator → Names
object_names words pointer d = (d.name.bytes, Declared.OfObject words pointer d) ∷ []

-- what stands between braces: the place of its first token, its parts where it is of another form than its place asks for, and its
-- parts as an element of an array that has those further lengths
pub record Item : Type 0 where
  pub at : ℕ
  pub looked : Parts
  pub given : List Expression → Parts

abbrev pub looked_items : List Item → Parts
looked_items [] = []
looked_items (x ∷ more) = x.looked ++ looked_items more

-- items one after another, where there are as many elements as the first lengths say, each an array of the others
abbrev pub items_given : List Expression → List Expression → ℕ → List Item → Parts
items_given lengths inner index [] = []
items_given lengths inner index (x ∷ more) = Part.Listed lengths index x.at ∷ (x.given inner ++ items_given lengths inner (suc index) more)

module _ (w : Where) where
  abbrev pub value_parts : Expression → Parts
  value_parts e = expression_parts w e ++ Part.Initial e ∷ []

  -- a value, which only a scalar has
  abbrev pub value_given : Expression → List Expression → Parts
  value_given e [] = value_parts e
  value_given e (length ∷ inner) = expression_parts w e

  -- braces, which only an array has: of as many elements as the first length says
  abbrev pub list_given : List Item → List Expression → Parts
  list_given list [] = looked_items list
  list_given list (length ∷ inner) = items_given (length ∷ []) inner 0 list

  abbrev pub item_layer_of : Initial-F Item → Item
  item_layer_of (Initial-F.Value e) = record { at = (out-Expression e).offset; looked = expression_parts w e; given = value_given e }
  item_layer_of (Initial-F.List list at) = record { at = at; looked = looked_items list; given = list_given list }

  abbrev pub initial_item : InitialTree → Item
  initial_item = fold-Initial Item item_layer_of

  abbrev pub initializer_parts : Initializer → Parts
  initializer_parts (initial.Value e) = expression_parts w e
  initializer_parts (initial.List list at) = looked_items (map initial_item list)
  initializer_parts initial.Mutex = []

abbrev pub has_braces : Initial-F InitialTree → Bool
has_braces (Initial-F.Value e) = false
has_braces (Initial-F.List list at) = true

-- whether the first item has braces of its own (6.7.8)
abbrev pub is_by_rows : List InitialTree → Bool
is_by_rows [] = false
is_by_rows (first ∷ more) = has_braces (out-Initial first)

abbrev pub is_integer_base : BaseType → Bool
is_integer_base (base.Integer ty) = true
is_integer_base other = false

-- an integer, or an array of integers
abbrev pub is_integer : Specifiers → Bool → Bool
is_integer words pointer = not pointer && is_integer_base (base_of words.words)

-- the lengths behind the first: an array has three dimensions at most
abbrev pub inner_lengths : List Expression → List Expression
inner_lengths [] = []
inner_lengths (second ∷ []) = second ∷ []
inner_lengths (second ∷ third ∷ more) = second ∷ third ∷ []

-- the braces of an array: one level for each length, or all elements in row order
abbrev pub array_parts : Where → Expression → List Expression → List InitialTree → Parts
array_parts w first inner list =
    if is_by_rows list then items_given (first ∷ []) (inner_lengths inner) 0 (map (initial_item w) list)
    else items_given (first ∷ inner_lengths inner) [] 0 (map (initial_item w) list)

-- the initial values of an integer object: a scalar has one, and an array a list
abbrev pub initial_parts : Where → List Expression → Initializer → Parts
initial_parts w [] (initial.Value e) = value_parts w e
initial_parts w (first ∷ inner) (initial.List list at) = array_parts w first inner list
initial_parts w lengths i = initializer_parts w i

abbrev pub given_parts : Where → Bool → List Expression → Initializer → Parts
given_parts w integer lengths i = if integer then initial_parts w lengths i else initializer_parts w i

-- the name of an object is in sight in its initialiser
abbrev pub object_parts_by : Where → Specifiers → Bool → GlobalDeclarator → Parts
object_parts_by w words pointer d =
    of_each (length_parts w) d.lengths
    ++ (Part.Declares w d.name (Declared.OfObject words pointer d)
    ∷ of_any (given_parts (behind (object_names words pointer d) w) (is_integer words pointer) d.lengths) d.initializer)

-- a * stands before the first name alone
abbrev pub objects_parts : Where → Specifiers → Bool → List GlobalDeclarator → Parts
objects_parts w words pointer [] = []
objects_parts w words pointer (d ∷ more) =
    object_parts_by w words pointer d ++ objects_parts (behind (object_names words pointer d) w) words false more

abbrev pub objects_names : Specifiers → Bool → List GlobalDeclarator → Names
objects_names words pointer [] = []
objects_names words pointer (d ∷ more) = object_names words pointer d ++ objects_names words false more

-- ---- a whole text

abbrev pub names_of : ExternalDeclaration → Names
names_of (external.Function f) = function_names f
names_of (external.Objects o) = objects_names o.specifiers o.is_pointer o.declarators

abbrev pub is_definition : ExternalDeclaration → Bool
is_definition (external.Function f) = is_some f.body
is_definition (external.Objects o) = false

-- how many functions are defined behind a declaration
abbrev pub number_behind : ExternalDeclaration → ℕ → ℕ
number_behind d number = if is_definition d then suc number else number

abbrev pub external_parts : Where → ℕ → ExternalDeclaration → Parts
external_parts w number (external.Function f) = function_parts number f w
external_parts w number (external.Objects o) = objects_parts w o.specifiers o.is_pointer o.declarators

-- the parts of declarations one after another, where so many functions are defined before
abbrev pub declarations_parts : Where → ℕ → List ExternalDeclaration → Parts
declarations_parts w number [] = []
declarations_parts w number (d ∷ more) = external_parts w number d ++ declarations_parts (behind (names_of d) w) (number_behind d number) more

-- before the first declaration nothing is in sight
abbrev pub at_first : Where
at_first = record { scopes = [] ∷ []; body = None }

abbrev pub parts : TranslationUnit → Parts
parts tree = declarations_parts at_first 0 tree.declarations
