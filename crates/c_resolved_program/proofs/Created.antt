-- Each create that is found at file scope is one of a function of the program.
use Rattle.std.proofs.Common.{◌≡◌, refl, sym, subst, inl, inr, Bool, List, [], ◌∷◌, ◌++◌, length, Option, Some, None, arith}
use Rattle.std.specs.Prelude.{Contains}
use Rattle.std.proofs.lemmas.List.Elements.{Contains-append_left, Contains-append_right}
use Rattle.c_tree.specs.declared.statement.Block.{Block}
use Rattle.c_tree.specs.declared.declaration.Function.{Function as FunctionTree}
use Rattle.c_tree.specs.declared.declaration.GlobalDeclarator.{GlobalDeclarator}
use Rattle.c_program.specs.Tree.{Function}
use Rattle.c_program.specs.Resolved.{creates_of}
use Rattle.c_rules.specs.declared.findings.Creation.{Creation}
use Rattle.c_rules.specs.declared.names.Header.{Header}
use Rattle.c_rules.specs.declared.specifiers.Spelled.{Spelled}
use Rattle.c_resolution.specs.States.{state}
use Rattle.c_resolution.specs.Files.{File}
use Rattle.c_resolution.specs.Functions as y
use Rattle.c_resolution.specs.Globals as g
use Rattle.c_resolved_program.specs.Orders.{left}
use Rattle.c_resolved_program.proofs.CreatesOfParts.{IsOf}
use Rattle.c_resolved_program.proofs.Makings.{body_makes}
use Rattle.c_resolved_program.proofs.Functions.{before_body, defined_at}
use Rattle.c_resolved_program.proofs.Filed.{headed}
use Rattle.c_resolved_program.proofs.FunctionLeft.{prototype_left, defined_left, body_at}
use Rattle.c_resolved_program.proofs.HeadsWithoutCreates.{head_makes}
use Rattle.c_resolved_program.proofs.Silent.{global_silent}

-- a create of one of these functions
abbrev pub IsCreatedIn : List Function → Creation → Type 0
IsCreatedIn functions c = (code : Function) × Contains functions code × Contains (creates_of code.body) (c.thread, c.routine)

abbrev pub CreatesHold : File → Type 0
CreatesHold x = (c : Creation) → Contains x.found.creations c → IsCreatedIn x.tables.functions c

earlier_in : (functions : List Function) (code : Function) (c : Creation) → IsCreatedIn functions c → IsCreatedIn (functions ++ code ∷ []) c
earlier_in functions code c made = (made.0, Contains-append_left functions (code ∷ []) made.0 made.1, made.2)

last_in : (functions : List Function) (code : Function) (c : Creation) → IsOf code.body c → IsCreatedIn (functions ++ code ∷ []) c
last_in functions code c made = (code, Contains-append_right functions (code ∷ []) code (0, omega arith, refl), made)

-- ---- a function

module _ (f : FunctionTree) (h : Header) (x : File) (holds : CreatesHold x) where
  in_head : (c : Creation) → Contains (headed f h x).found.creations c → IsCreatedIn x.tables.functions c
  in_head c inside =
      elim ((head_makes f h (length x.tables.functions)).new (state x.scope x.found) c inside) [
        | inl before ↦ holds c before
        | inr never ↦ absurd never
      ]

  in_body : (body : Block) (c : Creation) → Contains (left (body_at f h body x)).found.creations c →
      IsCreatedIn (x.tables.functions ++ defined_at f (y.return_type h) body (headed f h x) ∷ []) c
  in_body body c inside =
      let count = length x.tables.functions in
      let code = defined_at f (y.return_type h) body (headed f h x) in
      elim ((body_makes body).new (before_body count body (left (y.head f h count (state x.scope x.found)))) c inside) [
        | inl before ↦ earlier_in x.tables.functions code c (in_head c before)
        | inr made ↦ last_in x.tables.functions code c made
      ]

  by_body : (o : Option Block) → f.body ≡ o → CreatesHold (left (y.function_by f h x))
  by_body None none c inside =
      let e = prototype_left f h x none in
      subst (λ (z : File). IsCreatedIn z.tables.functions c) (sym e) (in_head c (subst (λ (z : File). Contains z.found.creations c) e inside))
  by_body (Some body) has c inside =
      let e = defined_left f h body x has in
      subst (λ (z : File). IsCreatedIn z.tables.functions c) (sym e) (in_body body c (subst (λ (z : File). Contains z.found.creations c) e inside))

pub function_creates : (f : FunctionTree) (x : File) → CreatesHold x → CreatesHold (left (y.function f x))
unfolding y.function
function_creates f x holds = by_body f (y.header x.scope f) x holds f.body refl

-- ---- an object

pub object_creates : (words : Spelled) (pointer : Bool) (d : GlobalDeclarator) (x : File) → (left (g.global words pointer d x)).tables.functions ≡ x.tables.functions →
    CreatesHold x → CreatesHold (left (g.global words pointer d x))
object_creates words pointer d x same holds c inside =
    subst (λ l. IsCreatedIn l c) (sym same) (holds c (global_silent words pointer d x c inside))

-- ---- an element of a list
