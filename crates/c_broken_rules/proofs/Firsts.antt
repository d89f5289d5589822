-- The first fault of a text, by what the walk over it finds.
use Rattle.std.proofs.Common.{◌≡◌, refl, sym, subst, ◌∙◌, inl, inr, ℕ, Bool, true, false, List, [], ◌∷◌, Option, Some, None}
use Rattle.std.specs.Prelude.{◌⊎◌, fold, nat_eq, if◌then◌else◌, slice_get}
use Rattle.std.proofs.lemmas.Option.{same_Some, none-some}
use Rattle.c_tree.specs.declared.declaration.TranslationUnit.{TranslationUnit}
use Rattle.c_program.specs.declared.tree.ThreadObject.{ThreadObject}
use Rattle.c_rules.specs.declared.fault.Rule.{Rule}
use Rattle.c_rules.specs.declared.fault.Rule.TheVariants as rule
use Rattle.c_rules.specs.declared.fault.Fault.{Fault}
use Rattle.c_rules.specs.declared.findings.CallSite.{CallSite}
use Rattle.c_rules.specs.declared.findings.Creation.{Creation}
use Rattle.c_rules.specs.Faults.{first}
use Rattle.c_resolution.specs.CallRules.{with_call, fault_if}
use Rattle.c_resolution.specs.Routines as r
use Rattle.c_resolution.specs.Resolving.{IsFirstFault, behind, routines_given}
use Rattle.c_broken_rules.proofs.Orders.{IsReached, reached_first, first_of_two}

-- the rules that neither calls nor creates show
abbrev pub IsAlone : Rule → Type 0
IsAlone rule.Recursive = ⊥
IsAlone rule.Threads = ⊥
IsAlone r = Unit {0}

-- ---- calls

-- the rules that calls do not show
abbrev pub IsNoCall : Rule → Type 0
IsNoCall rule.Recursive = ⊥
IsNoCall r = Unit {0}

call_from : (b : Bool) (at : ℕ) (a : Option Fault) (f : Fault) → IsNoCall f.rule → (a ≡ Some f) ⊎ (fault_if b rule.Recursive at ≡ Some f) → a ≡ Some f
call_from b at a f out (inl e) = e
call_from true at a f out (inr e) = absurd (subst (λ (g : Fault). IsNoCall g.rule → ⊥) (same_Some _ _ e) (λ j. j) out)
call_from false at a f out (inr e) = absurd (none-some f e)

calls_from : (leads : ℕ → ℕ → Bool) (sites : List CallSite) (a : Option Fault) (f : Fault) → IsNoCall f.rule → fold (with_call leads) a sites ≡ Some f → a ≡ Some f
calls_from leads [] a f out h = h
calls_from leads (s ∷ sites) a f out h =
    let b = leads s.callee s.caller in
    call_from b s.offset a f out (first_of_two a (fault_if b rule.Recursive s.offset) f (calls_from leads sites (with_call leads a s) f out h))

-- a first fault that calls show with the parts was found in the parts
pub found_by_parts : (tree : TranslationUnit) (f : Fault) → IsNoCall f.rule → (h : IsFirstFault tree (Some f)) → h.calls ≡ Some f → (behind tree.declarations).found.fault ≡ Some f
found_by_parts tree f out h e =
    let x = behind tree.declarations in
    calls_from h.is_calls.leads x.found.calls x.found.fault f out (sym h.is_calls.is ∙ e)

pub calls_keep : (leads : ℕ → ℕ → Bool) (sites : List CallSite) (a : Option Fault) (x : Fault) → IsReached x a → IsReached x (fold (with_call leads) a sites)
calls_keep leads [] a x h = h
calls_keep leads (s ∷ sites) a x h = calls_keep leads sites (with_call leads a s) x (reached_first x a (fault_if (leads s.callee s.caller) rule.Recursive s.offset) h)

-- ---- creates

-- they show the thread rule alone
abbrev pub IsOfThreads : Option Fault → Type 0
IsOfThreads None = Unit {0}
IsOfThreads (Some f) = f.rule ≡ rule.Threads

second_is : (c : Creation) (b : Bool) → IsOfThreads (if b then None else Some (record { rule = rule.Threads; offset = c.offset }))
second_is c true = tt
second_is c false = refl

given_is : (c : Creation) (object : ThreadObject) (o : Option ℕ) (threads : List ThreadObject) → IsOfThreads (r.given_to c object o threads).1
given_is c object None threads = tt
given_is c object (Some routine) threads = second_is c (nat_eq routine c.routine)

at_is : (c : Creation) (o : Option ThreadObject) (threads : List ThreadObject) → IsOfThreads (r.given_at c o threads).1
at_is c None threads = tt
at_is c (Some object) threads = given_is c object object.routine threads

either_is : (a b : Option Fault) (f : Fault) → IsOfThreads a → IsOfThreads b → (a ≡ Some f) ⊎ (b ≡ Some f) → f.rule ≡ rule.Threads
either_is a b f h k (inl e) = subst IsOfThreads e h
either_is a b f h k (inr e) = subst IsOfThreads e k

some_is : (o : Option Fault) → ((f : Fault) → o ≡ Some f → f.rule ≡ rule.Threads) → IsOfThreads o
some_is None h = tt
some_is (Some f) h = h f refl

given_all : (sites : List Creation) (g : r.Given) → IsOfThreads g.1 → IsOfThreads (fold r.next_given g sites).1
given_all [] g h = h
given_all (c ∷ sites) g h =
    given_all sites (r.next_given g c)
    (some_is (first g.1 (r.given c g.0).1)
    (λ f e. either_is g.1 (r.given c g.0).1 f h (at_is c (slice_get g.0 c.thread) g.0) (first_of_two g.1 (r.given c g.0).1 f e)))

pub creates_of_threads : (tree : TranslationUnit) → IsOfThreads (routines_given (behind tree.declarations)).1
creates_of_threads tree = let x = behind tree.declarations in given_all x.found.creations (x.tables.threads, None) tt

-- ---- both

alone_no_call : (r : Rule) → IsAlone r → IsNoCall r
alone_no_call rule.Recursive h = h
alone_no_call other h = tt

from_both : (calls given found : Option Fault) (f : Fault) → IsAlone f.rule → IsOfThreads given → (calls ≡ Some f → found ≡ Some f) → (calls ≡ Some f) ⊎ (given ≡ Some f) →
    found ≡ Some f
from_both calls given found f alone h k (inl e) = k e
from_both calls given found f alone h k (inr e) = absurd (subst IsAlone (subst IsOfThreads e h) alone)

-- a first fault that is none of calls and creates was found in the parts of the text
pub found_in_parts : (tree : TranslationUnit) (f : Fault) → IsAlone f.rule → IsFirstFault tree (Some f) → (behind tree.declarations).found.fault ≡ Some f
found_in_parts tree f alone h =
    let x = behind tree.declarations in
    from_both h.calls (routines_given x).1 x.found.fault f alone (creates_of_threads tree) (λ e. found_by_parts tree f (alone_no_call f.rule alone) h e)
    (first_of_two h.calls (routines_given x).1 f (sym h.is))

-- what is found there is a first fault, or one that is before it
pub first_is_reached : (tree : TranslationUnit) (fault : Option Fault) (x : Fault) → IsFirstFault tree fault → IsReached x (behind tree.declarations).found.fault →
    IsReached x fault
first_is_reached tree fault x h reached =
    let z = behind tree.declarations in
    subst (IsReached x) (sym h.is)
    (reached_first x h.calls (routines_given z).1
    (subst (IsReached x) (sym h.is_calls.is) (calls_keep h.is_calls.leads z.found.calls z.found.fault x reached)))
