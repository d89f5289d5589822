-- A tree has one answer: its program, its first fault, or that it has no main.
use Rattle.std.proofs.Common.{◌≡◌, List, fold, Option, Some, None, refl, sym, ap, ◌∙◌}
use Rattle.std.specs.Prelude.{Result, Ok, Err, IfOk, IfErr}
use Rattle.std.proofs.lemmas.Bool.Decides.{same_from_decides}
use Rattle.std.proofs.lemmas.Option.{same_Some, none-some}
use Rattle.c_tree.specs.declared.declaration.TranslationUnit.{TranslationUnit}
use Rattle.c_program.specs.declared.tree.Program as code
use Rattle.c_program.specs.Tree.{Program, Function}
use Rattle.c_program.specs.Plain.{program_of}
use Rattle.c_rules.specs.declared.fault.Fault.{Fault}
use Rattle.c_rules.specs.declared.fault.ResolveError.{ResolveError}
use Rattle.c_rules.specs.declared.fault.ResolveError.TheVariants as error
use Rattle.c_rules.specs.declared.findings.Findings.{Findings}
use Rattle.c_rules.specs.Faults.{first}
use Rattle.c_resolution.specs.CallRules.{IsCallFault, with_call}
use Rattle.c_resolution.specs.Resolving.{IsFirstFault, Spells, LacksMain, behind, routines_given, program_at}
use Rattle.c_resolution.specs.Answers.{ResolvesOnly, BreaksOnly, LacksMainOnly}

-- calls lead to one fault
calls_once : (functions : List Function) (found : Findings) (a b : Option Fault) → IsCallFault functions found a → IsCallFault functions found b → a ≡ b
calls_once functions found a b h k =
    let same : h.leads ≡ k.leads = (λ i from to. same_from_decides (h.leads from to) (k.leads from to) (h.decides from to) (k.decides from to) i) in
    h.is ∙ ap (λ leads. fold (with_call leads) found.fault found.calls) same ∙ sym k.is

pub first_fault_once : (tree : TranslationUnit) (a b : Option Fault) → IsFirstFault tree a → IsFirstFault tree b → a ≡ b
first_fault_once tree a b h k =
    let calls = calls_once (behind tree.declarations).tables.functions (behind tree.declarations).found h.calls k.calls h.is_calls k.is_calls in
    h.is ∙ ap (λ c. first c (routines_given (behind tree.declarations)).1) calls ∙ sym k.is

-- no tree with a fault breaks no rule
never_both : (tree : TranslationUnit) (f : Fault) → IsFirstFault tree (Some f) → IsFirstFault tree None → ⊥
never_both tree f h k = none-some f (first_fault_once tree None (Some f) k h)

pub main_once : (tree : TranslationUnit) (P Q : Program) → Spells tree P → Spells tree Q → P ≡ Q
main_once tree P Q h k = h.program ∙ ap (program_at (behind tree.declarations)) (same_Some _ _ (sym h.has_main ∙ k.has_main)) ∙ sym k.program

no_main : (tree : TranslationUnit) (P : Program) → Spells tree P → LacksMain tree → ⊥
no_main tree P h k = none-some h.main (sym k.no_main ∙ h.has_main)

-- ---- what is answered is the only answer

abbrev IsSound : TranslationUnit → Result code.Program ResolveError → Type 0
IsSound tree answer =
    IfOk answer (λ p. Spells tree (program_of p))
    × IfErr answer (λ e. (f : Fault) → e ≡ error.Broken f → IsFirstFault tree (Some f))
    × IfErr answer (λ e. e ≡ error.NoMain → LacksMain tree)

pub resolves_only : (tree : TranslationUnit) (answer : Result code.Program ResolveError) → IsSound tree answer → (P : Program) → Spells tree P → ResolvesOnly P answer
resolves_only tree (Ok p) h P is = main_once tree (program_of p) P h.0 is
resolves_only tree (Err (error.Broken f)) h P is = never_both tree f (h.1 f refl) is.no_fault
resolves_only tree (Err error.NoMain) h P is = no_main tree P is (h.2 refl)
resolves_only tree (Err error.Memory) h P is = tt

pub breaks_only : (tree : TranslationUnit) (answer : Result code.Program ResolveError) → IsSound tree answer → (f : Fault) → IsFirstFault tree (Some f) → BreaksOnly f answer
breaks_only tree (Ok p) h f is = never_both tree f is h.0.no_fault
breaks_only tree (Err (error.Broken g)) h f is = same_Some _ _ (first_fault_once tree (Some g) (Some f) (h.1 g refl) is)
breaks_only tree (Err error.NoMain) h f is = never_both tree f is (h.2 refl).no_fault
breaks_only tree (Err error.Memory) h f is = tt

pub lacks_main_only : (tree : TranslationUnit) (answer : Result code.Program ResolveError) → IsSound tree answer → LacksMain tree → LacksMainOnly answer
lacks_main_only tree (Ok p) h is = no_main tree (program_of p) h.0 is
lacks_main_only tree (Err (error.Broken f)) h is = never_both tree f (h.1 f refl) is.no_fault
lacks_main_only tree (Err error.NoMain) h is = tt
lacks_main_only tree (Err error.Memory) h is = tt
