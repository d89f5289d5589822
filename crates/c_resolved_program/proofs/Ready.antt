-- The scope behind a function's name is ready for its definition.
use Rattle.std.proofs.Common.{◌≡◌, refl, sym, ap, subst, ◌∙◌, inl, inr, ℕ, false, [], map}
use Rattle.std.specs.Prelude.{length, ⊤}
use Rattle.std.specs.List.{AllByRecursion}
use Rattle.c_tree.specs.declared.declaration.Function.{Function as FunctionTree}
use Rattle.c_program.specs.Tree.{Function, Program}
use Rattle.c_rules.specs.declared.fault.Rule.TheVariants as rule
use Rattle.c_rules.specs.declared.findings.Findings.{Findings}
use Rattle.c_rules.specs.declared.names.Meaning.TheVariants as meaning
use Rattle.c_rules.specs.declared.names.Header.{Header}
use Rattle.c_rules.specs.declared.names.Scope.{Scope}
use Rattle.c_rules.specs.Findings as findings
use Rattle.c_resolution.specs.States.{State, state}
use Rattle.c_resolution.specs.Functions as y
use Rattle.c_resolved_program.specs.Orders.{IsMeant, AreMeant, IsHeader, IsPartOf}
use Rattle.c_resolved_program.proofs.Walks.{shows_if}
use Rattle.c_resolved_program.proofs.Steps.{inserted_is}
use Rattle.c_resolved_program.proofs.Functions.{named}
use Rattle.c_resolved_program.proofs.Definitions.{IsReady}
use Rattle.c_resolved_program.proofs.FunctionName.{declare_function_is}

-- what is known between two declarations at file scope: no block is open, and each name is meant in any function
pub record IsFileScope (P : Program) (s : Scope) : Type 0 where
  pub outer : s.outer ≡ []
  pub locals : s.locals ≡ []
  pub inner : (f : Function) → AreMeant P f s.inner

module _ (P : Program) (number : ℕ) (f : FunctionTree) (h : Header) (code : Function) (listed : y.is_unlisted (y.gives_of h) ≡ false)
    (parameters : h.parameters ≡ map y.parameter_type (y.written f)) where
  ready_at : (s : Scope) (z : State) → z.scope ≡ s → s.locals ≡ [] → s.gives ≡ y.gives_of h → AreMeant P code s.inner → s.outer ≡ [] →
      AllByRecursion (IsHeader P) z.scope.headers → IsReady P number f h code z
  ready_at s z is locals gives inner outer headers = record {
    locals = ap (λ (t : Scope). t.locals) is ∙ locals;
    gives = ap (λ (t : Scope). t.gives) is ∙ gives;
    listed = listed;
    inner = subst (λ (t : Scope). AreMeant P code t.inner) (sym is) inner;
    outer = subst (λ list. AllByRecursion (AreMeant P code) list) (sym (ap (λ (t : Scope). t.outer) is ∙ outer)) tt;
    headers = headers;
    parameters = parameters;
  }

-- behind the name of a function, at file scope
pub record IsBehindName (whole : Findings) (P : Program) (number : ℕ) (f : FunctionTree) (h : Header) (code : Function) (x z : State) : Type 0 where
  pub found : IsPartOf whole x.found
  pub listed : y.is_unlisted (y.gives_of h) ≡ false
  pub ready : IsReady P number f h code z

pub behind_name : (whole : Findings) (P : Program) (number : ℕ) (f : FunctionTree) (h : Header) (count : ℕ) (code : Function) (x : State) → IsFileScope P x.scope →
    h.parameters ≡ map y.parameter_type (y.written f) → IsPartOf whole (named f h count x).found →
    AllByRecursion (IsHeader P) (named f h count x).scope.headers → IsBehindName whole P number f h code x (named f h count x)
behind_name whole P number f h count code x scope parameters part headers =
    let s = y.with_gives (y.gives_of h) x.scope in
    let z = named f h count x in
    let begun = state s (findings.broken_if (y.is_unlisted (y.gives_of h)) rule.Kind f.name.offset x.found) in
    let is = declare_function_is whole h f.name (y.is_second f h count) begun part in
    let looked = shows_if {whole = whole} {Before = ⊤} (y.is_unlisted (y.gives_of h)) rule.Kind f.name.offset in
    let listed = looked.forth x.found is.found tt in
    record {
      found = looked.back x.found is.found;
      listed = listed;
      ready =
          elim (is.new) [
            | inl new ↦
                ready_at P number f h code listed parameters (y.with_header f.name h s) z new.1 scope.locals refl
                (inserted_is (IsMeant P code) x.scope.inner f.name.bytes (meaning.Function (length x.scope.headers)) (scope.inner code) tt) scope.outer headers
            | inr known ↦ ready_at P number f h code listed parameters s z known.2 scope.locals refl (scope.inner code) scope.outer headers
          ];
    }
