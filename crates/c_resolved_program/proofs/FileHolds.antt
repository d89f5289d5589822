-- What holds between two declarations at file scope, and that a function keeps it.
use Rattle.std.proofs.Common.{◌≡◌, refl, sym, ap, subst, ◌∙◌, inl, inr, ℕ, suc, ◌<◌, ◌≤◌, false, List, []}
use Rattle.std.proofs.Common.{◌∷◌, ◌++◌, map, length, Option, Some, None, append-nil, arith}
use Rattle.std.specs.Prelude.{◌⊎◌, ◌^◌, is_some, slice_get}
use Rattle.std.proofs.lemmas.List.{length-map}
use Rattle.std.proofs.lemmas.Option.{slice_get_within, same_Some, none-some}
use Rattle.lists.proofs.Places.{get_there, get_front, get_last, get_pushed, length_more}
use Rattle.c_tree.specs.declared.statement.Block.{Block}
use Rattle.c_tree.specs.declared.declaration.Function.{Function as FunctionTree}
use Rattle.c_tree.specs.declared.declaration.GlobalDeclaration.{GlobalDeclaration}
use Rattle.c_tree.specs.declared.declaration.ExternalDeclaration.{ExternalDeclaration}
use Rattle.c_tree.specs.declared.declaration.ExternalDeclaration.TheVariants as external
use Rattle.c_program.specs.Tree.{Function, Program}
use Rattle.c_program.specs.Resolved.{IsName}
use Rattle.c_rules.specs.declared.findings.Findings.{Findings}
use Rattle.c_rules.specs.declared.names.Meaning.TheVariants as meaning
use Rattle.c_rules.specs.declared.names.Header.{Header}
use Rattle.c_rules.specs.declared.names.Scope.{Scope}
use Rattle.c_rules.specs.Levels.{named_in}
use Rattle.c_resolution.specs.Files.{File, Tables}
use Rattle.c_resolution.specs.Functions as y
use Rattle.c_resolution.specs.Globals.{text}
use Rattle.c_resolution.specs.Texts.{definitions}
use Rattle.c_resolved_program.proofs.Locals.{number_is}
use Rattle.c_resolved_program.proofs.Maxima.{below_of}
use Rattle.c_resolved_program.proofs.Ready.{IsFileScope}
use Rattle.c_resolved_program.proofs.Functions.{defined_at}
use Rattle.c_resolved_program.proofs.Filed.{headed}
use Rattle.c_resolved_program.proofs.Numbers.{names_of, names_in, body_names, definition_number}
use Rattle.c_resolved_program.proofs.Firsts.{body_names_more, first_number}
use Rattle.c_resolved_program.proofs.GrownScope.{inserted_there}
use Rattle.c_resolved_program.proofs.NameBytes.{text_is}
use Rattle.c_resolved_program.proofs.Headed.{IsHeaderOf, AreHeaders, header_is}
use Rattle.c_resolved_program.proofs.Headers.{function_same, return_same}
use Rattle.c_resolved_program.proofs.Coded.{IsCode, AreCodes, codes_on, not_second}
use Rattle.c_resolved_program.proofs.FunctionLeft.{IsFunctionLeft, IsTabled}
use Rattle.c_resolved_program.proofs.FunctionPlaced.{IsNew, IsKnown, IsPlaced, placed, placed_grows, placed_scope, placed_headers}

-- behind these declarations of a text that defines these functions
pub record FileHolds (P : Program) (D : List (List ℕ × ℕ)) (done : List ExternalDeclaration) (x : File) : Type 0 where
  pub scope : IsFileScope P x.scope
  pub definitions : x.scope.definitions ≡ D
  pub headers : AreHeaders D x.scope
  pub codes : AreCodes D (body_names done) x.scope x.tables.functions
  pub count : length x.tables.functions ≡ length (body_names done)

-- objects have no bodies
pub holds_on : (P : Program) (D : List (List ℕ × ℕ)) (done : List ExternalDeclaration) (o : GlobalDeclaration) (x : File) → FileHolds P D done x →
    FileHolds P D (done ++ external.Objects o ∷ []) x
holds_on P D done o x holds =
    let same = sym (body_names_more done (external.Objects o) ∙ append-nil (body_names done)) in
    record {
      scope = holds.scope;
      definitions = holds.definitions;
      headers = holds.headers;
      codes = subst (λ l. AreCodes D l x.scope x.tables.functions) same holds.codes;
      count = holds.count ∙ ap length same;
    }

-- ---- one function more

codes_more : (D : List (List ℕ × ℕ)) (names : List (List ℕ)) (t : Scope) (functions : List Function) (code : Function) → AreCodes D names t functions →
    IsCode D names t (length functions) code → AreCodes D names t (functions ++ code ∷ [])
codes_more D names t functions code are is number other at =
    elim (get_pushed functions code number other at) [
      | inl before ↦ are number other before
      | inr last ↦ subst (λ n. IsCode D names t n other) (sym last.0) (subst (λ c. IsCode D names t (length functions) c) last.1 is)
    ]

-- ---- a name that is new has no body so far

module _ (P : Program) (D : List (List ℕ × ℕ)) (done : List ExternalDeclaration) (x : File) (holds : FileHolds P D done x) where
  unnoted : (name : List ℕ) → length (body_names done) ≤ 2 ^ 32 → named_in x.scope.inner name ≡ None → named_in (definitions done) name ≡ None
  unnoted name small none = by (named_in (definitions done) name) refl
    where
      by : (o : Option ℕ) → named_in (definitions done) name ≡ o → o ≡ None
      by None is = refl
      by (Some n) is =
          let body = definition_number done name n small is in
          let lt = slice_get_within (body_names done) n name body in
          let c = holds.count in
          let code = get_there x.tables.functions n (omega arith) in
          let known = holds.codes n code.0 code.1 in
          let same = same_Some code.0.name name (sym known.body ∙ body) in
          absurd (none-some (meaning.Function known.place) (sym (sym (sym none ∙ ap (λ k. named_in x.scope.inner k) (sym same) ∙ known.at))))

pub whole_word : 2 ^ 32 ≤ 2 ^ 32
whole_word = omega arith

-- ---- the new function

module _ (whole : Findings) (P : Program) (D : List (List ℕ × ℕ)) (done rest : List ExternalDeclaration) (f : FunctionTree) (x z : File)
    (holds : FileHolds P D done x) (is_text : D ≡ definitions (done ++ external.Function f ∷ rest)) (valid : IsName f.name.bytes)
    (is_left : IsFunctionLeft whole f (y.header x.scope f) x z) where
  abbrev h : Header
  h = y.header x.scope f

  abbrev name : List ℕ
  name = f.name.bytes

  abbrev count : ℕ
  count = length x.tables.functions

  abbrev code : Block → Function
  code body = defined_at f (y.return_type h) body (headed f h x)

  p : IsPlaced whole f h x z
  p = placed whole f h x z is_left

  same : text name ≡ name
  same = text_is name valid

  header_of : IsHeaderOf D name h
  header_of =
      subst (λ d. IsHeaderOf d name h) holds.definitions
      (header_is x.scope name (y.return_of f) (map y.parameter_type (y.written f)) p.listed)

  -- the numbers of its functions and locals have 32 bits
  abbrev IsSmall : Block → Type 0
  IsSmall body = (count < 2 ^ 32) × ((code body).declared_locals < 0xffff_ffff)

  own_parameters : (body : Block) → f.body ≡ Some body → IsSmall body → (code body).parameters ≡ length h.parameters
  own_parameters body has small =
      let parameters : length (headed f h x).scope.locals ≡ length h.parameters =
      ap length (is_left.locals ∙ ap (λ l. l ++ is_left.more) (p.locals ∙ holds.scope.locals)) ∙ is_left.count ∙ sym (length-map (y.written f) y.parameter_type) in
      let few = below_of (length (headed f h x).scope.locals) (code body).declared_locals 0xffff_ffff (is_left.fits body has) small.1 in
      number_is (length (headed f h x).scope.locals) (2 ^ 32) (omega (arith, few)) whole_word ∙ parameters

  abbrev names : List (List ℕ)
  names = body_names (done ++ external.Function f ∷ [])

  own_body : (body : Block) → f.body ≡ Some body → slice_get names count ≡ Some (text name)
  own_body body has =
      ap (λ l. slice_get l count) (body_names_more done (external.Function f) ∙ ap (λ b. body_names done ++ names_of f b) has)
      ∙ ap (λ k. slice_get (body_names done ++ name ∷ []) k) holds.count ∙ get_last (body_names done) name ∙ ap Some (sym same)

  new_noted : (body : Block) → f.body ≡ Some body → count < 2 ^ 32 → named_in x.scope.inner name ≡ None → named_in D name ≡ Some count
  new_noted body has small none =
      let c = holds.count in
      ap (λ d. named_in d name) is_text
      ∙ first_number done rest f body has (omega arith) (unnoted P D done x holds name (omega arith) none)
      ∙ ap Some (sym holds.count)

  again_noted : (body : Block) → f.body ≡ Some body → count < 2 ^ 32 → y.is_second f h count ≡ false → named_in D name ≡ Some count
  again_noted body has small first =
      sym (ap (λ d. named_in d name) holds.definitions)
      ∙ not_second f h count (ap is_some has) first ∙ ap Some (number_is count (2 ^ 32) small whole_word)

  is_code : (body : Block) → f.body ≡ Some body → IsSmall body → IsCode D names z.scope count (code body)
  is_code body has small = by p.is
    where
      named_too : {A : Type 0} (table : List (List ℕ × A)) → named_in table (text name) ≡ named_in table name
      named_too table = ap (λ k. named_in table k) same

      by : IsNew f h x.scope z.scope ⊎ IsKnown f h count x.scope z.scope → IsCode D names z.scope count (code body)
      by (inl new) = record {
        valid = subst IsName (sym same) valid;
        body = own_body body has;
        noted = named_too D ∙ new_noted body has small.0 new.0;
        place = length x.scope.headers;
        at =
            named_too z.scope.inner ∙ ap (λ l. named_in l name) new.1
            ∙ inserted_there x.scope.inner name (meaning.Function (length x.scope.headers));
        header = h;
        header_at = ap (λ l. slice_get l (length x.scope.headers)) new.2 ∙ get_last x.scope.headers h;
        returns = refl;
        parameters = own_parameters body has small;
      }
      by (inr known) =
          let header = holds.headers.named name known.0 known.1 in
          let agrees = known.4 header.0 header.1 in
          let types = function_same header.0 h agrees.1 in
          record {
            valid = subst IsName (sym same) valid;
            body = own_body body has;
            noted = named_too D ∙ again_noted body has small.0 agrees.0;
            place = known.0;
            at = named_too z.scope.inner ∙ ap (λ l. named_in l name) known.2 ∙ known.1;
            header = header.0;
            header_at = ap (λ l. slice_get l known.0) known.3 ∙ header.1;
            returns = sym (return_same header.0 h types);
            parameters = own_parameters body has small ∙ ap length (sym types.parameters);
          }

  -- ---- the functions so far

  earlier_codes : AreCodes D names z.scope x.tables.functions
  earlier_codes =
      subst (λ l. AreCodes D l z.scope x.tables.functions) (sym (body_names_more done (external.Function f)))
      (codes_on D (body_names done) (body_names done ++ names_in (external.Function f)) x.scope z.scope x.tables.functions
      (λ n a at. get_front (body_names done) (names_in (external.Function f)) n a at) (placed_grows whole P D f h x z p) holds.codes)

  abbrev Tabled : Tables → Type 0
  Tabled t = AreCodes D names z.scope t.functions × (length t.functions ≡ length names)

  all_codes : ((body : Block) → f.body ≡ Some body → IsSmall body) → Tabled z.tables
  all_codes small = by f.body refl
    where
      more : length names ≡ length (body_names done ++ names_in (external.Function f))
      more = ap length (body_names_more done (external.Function f))

      by : (o : Option Block) → f.body ≡ o → Tabled z.tables
      by None none =
          let tables = subst (λ o. IsTabled f h o x z) none is_left.tables in
          subst Tabled (sym tables) (
            earlier_codes,
            holds.count ∙ sym (more ∙ ap (λ b. length (body_names done ++ names_of f b)) none ∙ ap length (append-nil (body_names done))),
          )
      by (Some body) has =
          let tables = subst (λ o. IsTabled f h o x z) has is_left.tables in
          subst Tabled (sym tables) (
            codes_more D names z.scope x.tables.functions (code body) earlier_codes (is_code body has (small body has)),
            length_more x.tables.functions (code body) ∙ ap suc holds.count
                ∙ sym (more ∙ ap (λ b. length (body_names done ++ names_of f b)) has ∙ length_more (body_names done) name),
          )

  pub function_keeps : ((body : Block) → f.body ≡ Some body → (count < 2 ^ 32) × ((code body).declared_locals < 0xffff_ffff)) → FileHolds P D (done ++ external.Function f ∷ []) z
  function_keeps small = record {
    scope = placed_scope whole P D f h x z p is_left.keeps.locals holds.scope;
    definitions = p.definitions ∙ holds.definitions;
    headers = placed_headers whole P D f h x z p header_of holds.headers;
    codes = (all_codes small).0;
    count = (all_codes small).1;
  }
