-- Each function of a program so far is in order, where each header of the whole text is one of the program.
use Rattle.std.proofs.Common.{◌≡◌, refl, sym, subst, ◌∙◌, inl, inr, ℕ, ◌<◌, List, [], ◌∷◌, ◌++◌, map, length, Option, Some, None}
use Rattle.std.specs.Prelude.{◌^◌, slice_get}
use Rattle.std.specs.List.{AllByRecursion}
use Rattle.lists.proofs.Places.{get_pushed, all_front}
use Rattle.c_tree.specs.declared.statement.Block.{Block}
use Rattle.c_tree.specs.declared.declaration.Function.{Function as FunctionTree}
use Rattle.c_program.specs.Tree.{Function, Program}
use Rattle.c_rules.specs.declared.findings.Findings.{Findings}
use Rattle.c_rules.specs.declared.names.Header.{Header}
use Rattle.c_rules.specs.Walks.{place_in_tree}
use Rattle.c_resolution.specs.States.{state}
use Rattle.c_resolution.specs.Files.{File, Tables}
use Rattle.c_resolution.specs.Functions as y
use Rattle.c_resolved_program.specs.Leaves.{AreValid, block_leaves, of_any}
use Rattle.c_resolved_program.specs.Orders.{left, IsFront, IsHeader, IsPartOf, GivesRoutines}
use Rattle.c_resolved_program.proofs.Locals.{number_is}
use Rattle.c_resolved_program.proofs.Functions.{defined_at, definition_is}
use Rattle.c_resolved_program.proofs.Definitions.{IsDefined}
use Rattle.c_resolved_program.proofs.Filed.{headed, function_defined}
use Rattle.c_resolved_program.proofs.Ready.{IsFileScope, behind_name}
use Rattle.c_resolved_program.proofs.FileHolds.{whole_word}
use Rattle.c_resolved_program.proofs.FunctionLeft.{IsFunctionLeft, IsTabled, defined_left}

-- the definition of each function so far is in order
abbrev pub BodiesHold : Findings → Program → List Function → Type 0
BodiesHold whole P functions =
    (number : ℕ) (code : Function) → slice_get functions number ≡ Some code → (h : Header) × IsDefined whole P number h code

bodies_more : (whole : Findings) (P : Program) (functions : List Function) (code : Function) → BodiesHold whole P functions →
    ((h : Header) × IsDefined whole P (length functions) h code) → BodiesHold whole P (functions ++ code ∷ [])
bodies_more whole P functions code holds is number other at =
    elim (get_pushed functions code number other at) [
      | inl before ↦ holds number other before
      | inr last ↦
          subst (λ n. (h : Header) × IsDefined whole P n h other) (sym last.0)
          (subst (λ c. (h : Header) × IsDefined whole P (length functions) h c) last.1 is)
    ]

pub all_in_front : {A : Type 0} (Is : A → Type 0) (xs list : List A) → IsFront xs list → AllByRecursion Is list → AllByRecursion Is xs
all_in_front Is xs list front all = all_front Is xs front.0 (subst (λ l. AllByRecursion Is l) (sym front.1) all)

module _ (whole : Findings) (P : Program) (given_routines : GivesRoutines whole P) (f : FunctionTree) (h : Header) (x z : File)
    (scope : IsFileScope P x.scope) (parameters : h.parameters ≡ map y.parameter_type (y.written f)) (is : left (y.function_by f h x) ≡ z)
    (is_left : IsFunctionLeft whole f h x z) (part : IsPartOf whole z.found) (headers : AllByRecursion (IsHeader P) z.scope.headers)
    (valid : AreValid (of_any block_leaves f.body)) where
  new_body : (body : Block) → f.body ≡ Some body → length x.tables.functions < 2 ^ 32 → (defined_at f (y.return_type h) body (headed f h x)).declared_locals < 0xffff_ffff →
      IsDefined whole P (length x.tables.functions) h (defined_at f (y.return_type h) body (headed f h x))
  new_body body has small locals =
      let count = length x.tables.functions in
      let code = defined_at f (y.return_type h) body (headed f h x) in
      let begin = state x.scope x.found in
      let e = sym is ∙ defined_left f h body x has in
      let known = subst (λ l. AllByRecursion (IsHeader P) l) is_left.keeps.headers headers in
      let behind = behind_name whole P (place_in_tree count) f h count code begin scope parameters is_left.part known in
      let own = subst (λ (w : File). IsPartOf whole w.found) e part in
      let ended = subst (λ (w : File). IsPartOf whole w.found) (sym (definition_is f (y.return_type h) body (headed f h x))) own in
      let leaves = subst (λ b. AreValid (of_any block_leaves b)) has valid in
      subst (λ n. IsDefined whole P n h code) (number_is count (2 ^ 32) small whole_word)
      (function_defined whole P given_routines f h body x leaves locals behind.ready ended)

  pub bodies_keep : ((body : Block) → f.body ≡ Some body →
      (length x.tables.functions < 2 ^ 32) × ((defined_at f (y.return_type h) body (headed f h x)).declared_locals < 0xffff_ffff)) →
      BodiesHold whole P x.tables.functions → BodiesHold whole P z.tables.functions
  bodies_keep small holds = by f.body refl
    where
      by : (o : Option Block) → f.body ≡ o → BodiesHold whole P z.tables.functions
      by None none =
          let tables = subst (λ o. IsTabled f h o x z) none is_left.tables in
          subst (λ (t : Tables). BodiesHold whole P t.functions) (sym tables) holds
      by (Some body) has =
          let tables = subst (λ o. IsTabled f h o x z) has is_left.tables in
          let fits = small body has in
          subst (λ (t : Tables). BodiesHold whole P t.functions) (sym tables)
          (bodies_more whole P x.tables.functions (defined_at f (y.return_type h) body (headed f h x)) holds (h, new_body body has fits.0 fits.1))
