-- What a function at file scope leaves of the names and headers, where no rule is broken in the whole text.
use Rattle.std.proofs.Common.{◌≡◌, sym, ap, subst, ◌∙◌, inl, inr, ℕ, false, true, List, [], ◌∷◌, ◌++◌, length, Option, Some, None}
use Rattle.std.specs.Prelude.{◌⊎◌, slice_get, ⊤}
use Rattle.c_tree.specs.declared.declaration.Function.{Function as FunctionTree}
use Rattle.c_program.specs.Tree.{Function, Program}
use Rattle.c_rules.specs.declared.fault.Rule.TheVariants as rule
use Rattle.c_rules.specs.declared.findings.Findings.{Findings}
use Rattle.c_rules.specs.declared.names.Meaning.TheVariants as meaning
use Rattle.c_rules.specs.declared.names.Header.{Header}
use Rattle.c_rules.specs.declared.names.Scope.{Scope}
use Rattle.c_rules.specs.Findings as findings
use Rattle.c_rules.specs.Levels.{named_in, inserted}
use Rattle.c_resolution.specs.States.{state}
use Rattle.c_resolution.specs.Files.{File}
use Rattle.c_resolution.specs.Functions as y
use Rattle.c_resolved_program.specs.Orders.{IsMeant, AreMeant, IsPartOf}
use Rattle.c_resolved_program.proofs.Walks.{shows_if, IfAny}
use Rattle.c_resolved_program.proofs.Steps.{inserted_is}
use Rattle.c_resolved_program.proofs.Functions.{named}
use Rattle.c_resolved_program.proofs.FunctionName.{declare_function_is}
use Rattle.c_resolved_program.proofs.FunctionLeft.{IsFunctionLeft}
use Rattle.c_resolved_program.proofs.Ready.{IsFileScope}
use Rattle.c_resolved_program.proofs.GrownScope.{Grows}
use Rattle.c_resolved_program.proofs.Headed.{IsHeaderOf, AreHeaders, headers_same, headers_more, grows_same, grows_more}

-- a new name with its header
abbrev pub IsNew : FunctionTree → Header → Scope → Scope → Type 0
IsNew f h s t =
    (named_in s.inner f.name.bytes ≡ None) × (t.inner ≡ inserted s.inner f.name.bytes (meaning.Function (length s.headers))) × (t.headers ≡ s.headers ++ h ∷ [])

-- a name that is known, with a header that agrees
abbrev pub IsKnown : FunctionTree → Header → ℕ → Scope → Scope → Type 0
IsKnown f h count s t =
    (n : ℕ) × (named_in s.inner f.name.bytes ≡ Some (meaning.Function n)) × (t.inner ≡ s.inner) × (t.headers ≡ s.headers)
    × ((known : Header) → slice_get s.headers n ≡ Some known → (y.is_second f h count ≡ false) × (y.is_same_function known h ≡ true))

pub record IsPlaced (whole : Findings) (f : FunctionTree) (h : Header) (x z : File) : Type 0 where
  pub found : IsPartOf whole x.found
  pub listed : y.is_unlisted (y.gives_of h) ≡ false
  pub locals : (named f h (length x.tables.functions) (state x.scope x.found)).scope.locals ≡ x.scope.locals
  pub definitions : z.scope.definitions ≡ x.scope.definitions
  pub outer : z.scope.outer ≡ x.scope.outer
  pub is : IsNew f h x.scope z.scope ⊎ IsKnown f h (length x.tables.functions) x.scope z.scope

agreed : (o : Option Header) (Agrees : Header → Type 0) (known : Header) → o ≡ Some known → IfAny Agrees o → Agrees known
agreed o Agrees known is all = subst (λ (z : Option Header). IfAny Agrees z) is all

pub placed : (whole : Findings) (f : FunctionTree) (h : Header) (x z : File) → IsFunctionLeft whole f h x z → IsPlaced whole f h x z
placed whole f h x z left_it =
    let count = length x.tables.functions in
    let s = y.with_gives (y.gives_of h) x.scope in
    let n = named f h count (state x.scope x.found) in
    let second = y.is_second f h count in
    let begun = state s (findings.broken_if (y.is_unlisted (y.gives_of h)) rule.Kind f.name.offset x.found) in
    let is = declare_function_is whole h f.name second begun left_it.part in
    let looked = shows_if {whole = whole} {Before = ⊤} (y.is_unlisted (y.gives_of h)) rule.Kind f.name.offset in
    let keeps = left_it.keeps in
    elim (is.new) [
      | inl new ↦ record {
        found = looked.back x.found is.found;
        listed = looked.forth x.found is.found tt;
        locals = ap (λ (t : Scope). t.locals) new.1;
        definitions = keeps.definitions ∙ ap (λ (t : Scope). t.definitions) new.1;
        outer = keeps.outer ∙ ap (λ (t : Scope). t.outer) new.1;
        is = inl (new.0, keeps.inner ∙ ap (λ (t : Scope). t.inner) new.1, keeps.headers ∙ ap (λ (t : Scope). t.headers) new.1);
      }
      | inr known ↦ record {
        found = looked.back x.found is.found;
        listed = looked.forth x.found is.found tt;
        locals = ap (λ (t : Scope). t.locals) known.2;
        definitions = keeps.definitions ∙ ap (λ (t : Scope). t.definitions) known.2;
        outer = keeps.outer ∙ ap (λ (t : Scope). t.outer) known.2;
        is = inr (
          known.0,
          known.1,
          keeps.inner ∙ ap (λ (t : Scope). t.inner) known.2,
          keeps.headers ∙ ap (λ (t : Scope). t.headers) known.2,
          λ k at. agreed (slice_get x.scope.headers known.0) (λ (k : Header). (second ≡ false) × (y.is_same_function k h ≡ true)) k at known.3.agrees,
        );
      }
    ]

-- ---- what holds of the names and headers holds behind it

module _ (whole : Findings) (P : Program) (D : List (List ℕ × ℕ)) (f : FunctionTree) (h : Header) (x z : File) (p : IsPlaced whole f h x z) where
  pub placed_grows : Grows x.scope z.scope
  placed_grows = by p.is
    where
      by : IsNew f h x.scope z.scope ⊎ IsKnown f h (length x.tables.functions) x.scope z.scope → Grows x.scope z.scope
      by (inl new) = grows_more x.scope z.scope f.name.bytes (meaning.Function (length x.scope.headers)) h new.0 new.1 new.2
      by (inr known) = grows_same x.scope z.scope known.2 known.3

  pub placed_scope : z.scope.locals ≡ [] → IsFileScope P x.scope → IsFileScope P z.scope
  placed_scope none scope = record {
    outer = p.outer ∙ scope.outer;
    locals = none;
    inner = λ code. by code p.is;
  }
    where
      by : (code : Function) → IsNew f h x.scope z.scope ⊎ IsKnown f h (length x.tables.functions) x.scope z.scope → AreMeant P code z.scope.inner
      by code (inl new) =
          subst (λ l. AreMeant P code l) (sym new.1)
          (inserted_is (IsMeant P code) x.scope.inner f.name.bytes (meaning.Function (length x.scope.headers)) (scope.inner code) tt)
      by code (inr known) = subst (λ l. AreMeant P code l) (sym known.2) (scope.inner code)

  pub placed_headers : IsHeaderOf D f.name.bytes h → AreHeaders D x.scope → AreHeaders D z.scope
  placed_headers is are = by p.is
    where
      by : IsNew f h x.scope z.scope ⊎ IsKnown f h (length x.tables.functions) x.scope z.scope → AreHeaders D z.scope
      by (inl new) = headers_more D x.scope z.scope f.name.bytes h are new.0 is new.1 new.2
      by (inr known) = headers_same D x.scope z.scope are known.2 known.3
