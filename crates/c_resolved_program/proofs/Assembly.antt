-- A program whose declarations are in order one by one, and whose tree breaks no rule, is resolved.
use Rattle.std.proofs.Common.{◌≡◌, sym, subst, ◌∙◌, inl, inr, ℕ, ◌<◌, Bool, false, Option, Some, None}
use Rattle.std.specs.Prelude.{◌⊎◌, slice_get}
use Rattle.std.specs.List.{AllByRecursion}
use Rattle.std.proofs.lemmas.Option.{none-some}
use Rattle.c_tree.specs.declared.declaration.TranslationUnit.{TranslationUnit}
use Rattle.c_program.specs.declared.tree.ThreadObject.{ThreadObject}
use Rattle.c_program.specs.Tree.{Program}
use Rattle.c_program.specs.Resolved as r
use Rattle.c_rules.specs.declared.findings.CallSite.{CallSite}
use Rattle.c_rules.specs.declared.findings.Creation.{Creation}
use Rattle.c_resolution.specs.Resolving.{behind, routines_given, program_at, IsFirstFault}
use Rattle.c_resolution.specs.Files.{File}
use Rattle.c_resolved_program.specs.Gathered.{IsGathered, IsDeclaredThread}
use Rattle.c_resolved_program.specs.Laws.{GatheredIsResolved}
use Rattle.c_resolved_program.specs.Orders.{GivesRoutines}
use Rattle.c_resolved_program.proofs.Walks.{IfAny, first-none}
use Rattle.c_resolved_program.proofs.Elements.{element_is}
use Rattle.c_resolved_program.proofs.Graph.{first-second, calls_none, acyclic}
use Rattle.c_resolved_program.proofs.Routines.{Among, all_later, all_given}

module _ (tree : TranslationUnit) (main : ℕ) (faultless : IsFirstFault tree None) where
  abbrev x : File
  x = behind tree.declarations

  abbrev P : Program
  P = program_at x main

  no_calls : faultless.calls ≡ None
  no_calls = first-none faultless.calls (routines_given x).1 (sym faultless.is)

  no_given : (routines_given x).1 ≡ None
  no_given = first-second faultless.calls (routines_given x).1 (sym faultless.is)

  abbrev leads : ℕ → ℕ → Bool
  leads = faultless.is_calls.leads

  no_returns : (x.found.fault ≡ None) × AllByRecursion (λ (s : CallSite). leads s.callee s.caller ≡ false) x.found.calls
  no_returns = calls_none leads x.found.calls x.found.fault (sym faultless.is_calls.is ∙ no_calls)

  pub no_fault : x.found.fault ≡ None
  no_fault = no_returns.0

  pub gives_routines : GivesRoutines x.found P
  gives_routines thread routine object found at =
      let site : Creation = record { thread = thread; routine = routine; offset = found.0 } in
      all_given x.found.creations x.tables.threads None no_given site found.1.0 found.1.1 found.1.2 object at

  declared : (o : Option ThreadObject) (before : ThreadObject) → o ≡ Some before → IfAny IsDeclaredThread o → IsDeclaredThread before
  declared None before is all = absurd (none-some before (is))
  declared (Some o) before is all = subst (λ z. IfAny IsDeclaredThread z) is all

  thread_is : IsGathered P x.tables.threads x.found → (number : ℕ) (object : ThreadObject) → slice_get P.threads number ≡ Some object → r.IsThreadObject P number object
  thread_is g number object at =
      let later = all_later x.found.creations x.tables.threads None number object at in
      let is = declared (slice_get x.tables.threads number) later.0 later.1 (element_is IsDeclaredThread x.tables.threads number g.threads) in
      record {
        not_empty = subst (λ n. 0 < n) (sym later.2.length) is.not_empty;
        routine = λ routine has. by_create later.0 is routine (later.2.given routine has);
        created = λ routine has. created later.0 is routine (later.2.given routine has);
      }
    where
      by_create : (before : ThreadObject) → IsDeclaredThread before → (routine : ℕ) → ((before.routine ≡ Some routine) ⊎ Among x.found.creations number routine) →
          r.IsRoutineAt (slice_get P.functions routine)
      by_create before is routine (inl had) = absurd (none-some routine (sym (sym had ∙ is.no_routine)))
      by_create before is routine (inr among) = subst (λ n. r.IsRoutineAt (slice_get P.functions n)) (sym among.3) (g.routines among.0 among.1)

      created : (before : ThreadObject) → IsDeclaredThread before → (routine : ℕ) → ((before.routine ≡ Some routine) ⊎ Among x.found.creations number routine) →
          r.IsCreated P number routine
      created before is routine (inl had) = absurd (none-some routine (sym (sym had ∙ is.no_routine)))
      created before is routine (inr among) =
          subst (λ n. r.IsCreated P n routine) (sym among.2) (subst (λ n. r.IsCreated P among.0.thread n) (sym among.3) (g.creations among.0 among.1))

  pub assembled : IsGathered P x.tables.threads x.found → r.IsResolved P
  assembled g = record {
    main = g.main;
    functions = g.functions;
    start_routines = g.start_routines;
    globals = g.globals;
    threads = thread_is g;
    mutexes = g.mutexes;
    barriers = g.barriers;
    acyclic = acyclic x.tables.functions x.found leads faultless.is_calls.decides no_returns.1 g.bodies;
    function_names = g.function_names;
    global_names = g.global_names;
  }

pub gathered_law : GatheredIsResolved
gathered_law tree P spells g =
    subst r.IsResolved (sym spells.program)
    (assembled tree spells.main spells.no_fault
    (subst (λ (p : Program). IsGathered p (behind tree.declarations).tables.threads (behind tree.declarations).found) spells.program g))
