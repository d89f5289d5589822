-- A create is the step of its thread: it is always granted where the step is not undefined.
use Rattle.std.specs.Prelude.{Bool, true, false, not, nat_eq, if◌then◌else◌, ℤ, Option, Some, None, slice_get, slice_set, slice_index, ◌^◌}
use Rattle.std.specs.List.{list_any}
use Rattle.std.proofs.Common.{◌≡◌, ◌≢◌, ℕ, ◌<◌, List, [], ◌∷◌, length, refl, sym, ap, ◌∙◌, subst, ⊎_elim, arith}
use Rattle.std.proofs.lemmas.Option.{slice_get_within}
use Rattle.std.proofs.lemmas.List.{get_or-set_other, get_or-set_same, length-set}
use Rattle.std.proofs.lemmas.Bool.{cases_eq}
use Rattle.lists.proofs.Places.{set_there, set_elsewhere}
use Rattle.hls_ints.specs.Residues.{residue_of}
use Rattle.c_program.specs.Tree.{Program}
use Rattle.c_program.specs.Resolved.{IsResolved}
use Rattle.thread_semantics.specs.declared.cause.UndefinedCause.TheVariants.{ThreadId}
use Rattle.thread_semantics.specs.State.{Slot, Unused, Running, Finished, State, started}
use Rattle.thread_semantics.specs.Work.{Act}
use Rattle.thread_semantics.specs.Step.{Steps, Undefines, with_slot, created, acted, object_operand, value_operand, is_waiter, is_running, is_live, step}
use Rattle.interleaving.specs.Memory.{Memory}
use Rattle.interleaving.specs.Threaded.{IsSynchronizing}
use Rattle.block_ir.specs.declared.code.Act.TheVariants as act
use Rattle.block_ir.specs.declared.code.ActOperand.{ActOperand}
use Rattle.planned_block.proofs.Bits.{less_is}
use Rattle.race_model.specs.Source.{Local, local_of, running, outcome_of}
use Rattle.race_model.proofs.Lists.{get-set_cases}
use Rattle.race_model.proofs.Sound.{reachable_sound, runs_on}
use Rattle.race_model.proofs.Orderly.{orderly}
use Rattle.code_following.specs.Following.{AreValues, print_formats, SameAct, RunsRoutine}
use Rattle.block_ir.specs.Asked.{act_value, Asked, Numbers, mutex_core, barrier_core, thread_ids_core, printer_core}
use Rattle.block_ir.specs.declared.service.Service.TheVariants.{ThreadIds}
use Rattle.core_states.specs.Machines.{ids_after}
use Rattle.law_threads.specs.Cores.{Core, OfThreadIds, may_grant, status_in, argument_in, waits_in}
use Rattle.law_threads.specs.Stands.{status_of, StandsFor, ThreadIdsStand}
use Rattle.c_program.specs.Weight.{hardware_routines}
use Rattle.block_refine.specs.Routines.{Codes, Starts}
use Rattle.block_refine.specs.RoutineActs.{IsStepOf}
use Rattle.law_threads.specs.Requests.{AreNumbers, StandsAtAct, Serves, Other, Same, Begun, cores_after}
use Rattle.law_threads.proofs.ActByAct.{RequestIsStep}
use Rattle.law_threads.proofs.Common.{names, same_word, never, waits_somewhere, status_kept, other_core, same_core}

-- what the thread ids are asked
abbrev asks_thread_ids : ℕ → ℕ → Asked
asks_thread_ids id argument = record { service = ThreadIds; core = 0; number = 0; values = id ∷ argument ∷ [] }

-- the argument of a create has the word of its operand
pub second_word : (variables : ℕ → ℤ) (o p : ActOperand) (vs : List ℤ) → AreValues variables (o ∷ p ∷ []) vs →
    residue_of 64 (act_value variables p) ≡ residue_of 64 (value_operand vs)
second_word variables o p [] are = absurd are
second_word variables o p (v ∷ []) are = absurd are.1
second_word variables o p (v ∷ w ∷ vs) are = same_word (act_value variables p) w are.1.0

routine_there : (P : Program) (vs : List ℤ) (routine : ℕ) → RunsRoutine P vs routine → slice_get (hardware_routines P) (object_operand vs) ≡ Some (Some routine)
routine_there P [] routine runs = absurd runs
routine_there P (v ∷ vs) routine runs = runs

module _ (P : Program) (codes : Codes) (N : Numbers) (T : ℕ) (R : IsResolved P) (numbers : AreNumbers P N T) (thread argument : ActOperand) (s : State) (i f l next : ℕ)
    (variables : ℕ → ℤ) (arrays : Memory ℤ) (c : ℕ → Core) (ask : Asked) (at : StandsAtAct P codes N T s i f l next variables arrays (act.Create thread argument) ask c)
    (step_of : IsStepOf P codes s i f next variables arrays (act.Create thread argument)) where
  abbrev ServesCreate : Asked → Type 0
  ServesCreate a = Serves P codes N T s i f next variables arrays (act.Create thread argument) a c

  undefined : (offset : ℕ) → step P s i ≡ Undefines offset ThreadId → ⊥
  undefined offset e = never P R s i offset ThreadId step_of.calls at.reached at.defined step_of.runs e

  slot : slice_get s.slots i ≡ Some (Running step_of.calls)
  slot = ap (λ (x : Local). x.slot) step_of.runs

  abbrev slots : List Slot
  slots = slice_set s.slots i (Running step_of.frames)

  length_now : length s.slots ≡ T
  length_now = (orderly P R s at.reached).threads ∙ sym numbers.threads

  main_lives : is_live s 0 ≡ true
  main_lives = (orderly P R s at.reached).main (runs_on P R s i step_of.calls (reachable_sound P R s at.reached) slot)

  -- id n is unused, and is created for the routine with the argument v
  module _ (offset n routine w : ℕ) (v : ℤ) (word : n < 2 ^ 64 → residue_of 64 (act_value variables thread) ≡ n)
      (argued : w ≡ residue_of 64 v) (runs : slice_get (hardware_routines P) n ≡ Some (Some routine))
      (now : slice_get slots n ≡ Some Unused)
      (steps : step P s i ≡ Steps (with_slot (with_slot s i (Running step_of.frames)) n (Running (started (slice_get P.functions routine) routine (v ∷ []))))) where
    abbrev t : State
    t = with_slot (with_slot s i (Running step_of.frames)) n (Running (started (slice_get P.functions routine) routine (v ∷ [])))

    apart : i ≢ n
    apart e = let own = set_there s.slots i (Running step_of.calls) (Running step_of.frames) slot in
        let there : slice_get slots i ≡ Some Unused = subst (λ k. slice_get slots k ≡ Some Unused) (sym e) now in
        cc

    was : slice_get s.slots n ≡ Some Unused
    was = sym (set_elsewhere s.slots i n (Running step_of.frames) apart) ∙ now

    below : n < T
    below = let lt = slice_get_within s.slots n Unused was in let e = length_now in omega arith

    positive : 0 < n
    positive =
        ⊎_elim (λ z. absurd (let no : is_live s 0 ≡ false = ap (λ k. is_live s k) (sym z) ∙ ap is_running was in let yes = main_lives in cc))
        (λ ne. omega arith)
        (cases_eq n 0)

    has_thread_ids : N.thread_ids ≡ true
    has_thread_ids = numbers.thread_ids ∙ less_is 1 T (let p = positive in let b = below in omega arith)

    table : ThreadIdsStand T (c (thread_ids_core N)) s.slots
    table = at.cores.thread_ids has_thread_ids

    number : residue_of 64 (act_value variables thread) ≡ n
    number = word (let few = numbers.few_threads in let b = below in omega arith)

    abbrev after : ℕ → Core
    after = cores_after P codes N T (thread_ids_core N) i (asks_thread_ids n w) c

    others_stay : (j : ℕ) → j ≢ thread_ids_core N → after j ≡ c j
    others_stay j ne = other_core T (print_formats P) (thread_ids_core N) i (asks_thread_ids n w) c j ne

    here : after (thread_ids_core N) ≡ OfThreadIds (ids_after table.thread_ids i 0 n w)
    here = same_core T (print_formats P) (thread_ids_core N) i (asks_thread_ids n w) c (OfThreadIds table.thread_ids) table.is

    each : (j : ℕ) (x : Slot) → 0 < j → slice_get t.slots j ≡ Some x → slice_index (slice_set table.thread_ids.statuses n 1) j ≡ status_of x
    each j x lt e =
        ⊎_elim
        (λ same.
        subst (λ k. slice_index (slice_set table.thread_ids.statuses n 1) k ≡ status_of x) same.0
        (get_or-set_same table.thread_ids.statuses n 1 0 (let z = table.statuses in let b = below in omega arith) ∙ ap status_of same.1))
        (λ other.
        let y = status_kept s.slots i j step_of.calls step_of.frames x slot other.1 in
        get_or-set_other table.thread_ids.statuses n j 1 0 (λ q. other.0 (sym q)) ∙ table.each j y.0 lt y.1 ∙ y.2)
        (get-set_cases slots n j (Running (started (slice_get P.functions routine) routine (v ∷ []))) x e)

    created_stands : StandsFor N T after t
    created_stands = record {
      mutexes = λ m x e. others_stay (mutex_core N m) (λ q. absurd (let lt = slice_get_within s.mutexes m x e in let z = at.cores.mutex_count in omega arith))
          ∙ at.cores.mutexes m x e;
      barriers = λ m b e.
          let k = at.cores.barriers m b e in
          record {
            gate = k.gate;
            is = others_stay (barrier_core N m) (λ q. absurd (let lt = slice_get_within s.barriers m b e in let z = at.cores.barrier_count in omega arith)) ∙ k.is;
            stands = k.stands;
          };
      thread_ids = λ _. record {
        thread_ids = ids_after table.thread_ids i 0 n w;
        is = here;
        statuses = length-set table.thread_ids.statuses n 1 ∙ table.statuses;
        arguments = length-set table.thread_ids.arguments n w ∙ table.arguments;
        main = get_or-set_other table.thread_ids.statuses n 0 1 0 (λ q. absurd (let p = positive in omega arith)) ∙ table.main;
        each = each;
      };
      output = others_stay (printer_core N) (λ q. absurd (let one : ◌≡◌ {A = ℕ} (if N.thread_ids then 1 else 0) 1 = ap (λ (b : Bool). if b then 1 else 0) has_thread_ids in omega arith))
          ∙ at.cores.output;
      mutex_count = at.cores.mutex_count;
      barrier_count = at.cores.barrier_count;
    }

    own : local_of t i ≡ running step_of.frames
    own = λ d. record {
      slot = (set_elsewhere slots n i (Running (started (slice_get P.functions routine) routine (v ∷ []))) (λ e. apart (sym e))
          ∙ set_there s.slots i (Running step_of.calls) (Running step_of.frames) slot) d;
      waits = ap (λ (x : Local). x.waits) step_of.runs d;
    }

    -- who is unused waits nowhere
    free : (b : Bool) → list_any (is_waiter n) s.barriers ≡ b → b ≡ false
    free false e = refl
    free true e =
        let there = waits_somewhere n s.barriers e in
        let lives : is_live s n ≡ true = (orderly P R s at.reached).waiter there.0 n there.1 in
        let no : is_live s n ≡ false = ap is_running was in
        absurd cc

    begins : Other P N c after s t n
    begins =
        Begun positive was routine v runs
        (λ d. record {
          slot = set_there slots n Unused (Running (started (slice_get P.functions routine) routine (v ∷ []))) now d;
          waits = free (list_any (is_waiter n) s.barriers) refl d;
        })
        (ap (λ (z : Core). status_in z n) here ∙ get_or-set_same table.thread_ids.statuses n 1 0 (let z = table.statuses in let b = below in omega arith))
        (ap (λ (z : Core). argument_in z n) here ∙ get_or-set_same table.thread_ids.arguments n w 0 (let z = table.arguments in let b = below in omega arith) ∙ argued)

    stays : (j : ℕ) → j ≢ i → n ≢ j → Other P N c after s t j
    stays j ne other =
        Same
        (λ d. record {
          slot =
              (set_elsewhere slots n j (Running (started (slice_get P.functions routine) routine (v ∷ []))) other
              ∙ set_elsewhere s.slots i j (Running step_of.frames) (λ e. ne (sym e))) d;
          waits = list_any (is_waiter j) s.barriers;
        })
        (record {
          status = ap (λ (z : Core). status_in z j) here ∙ get_or-set_other table.thread_ids.statuses n j 1 0 (λ q. other (sym q)) ∙ sym (ap (λ (z : Core). status_in z j) table.is);
          argument = ap (λ (z : Core). argument_in z j) here ∙ get_or-set_other table.thread_ids.arguments n j w 0 (λ q. other (sym q)) ∙ sym (ap (λ (z : Core). argument_in z j) table.is);
          bits = λ m lt. ap (λ (z : Core). waits_in z j) (others_stay (barrier_core N m) (λ e. absurd (omega arith)));
        })

    may : (b : Bool) → may_grant (c (thread_ids_core N)) i (asks_thread_ids n w) ≡ b → b ≡ true
    may b e =
        let unused : slice_index table.thread_ids.statuses n ≡ 0 = table.each n Unused positive was in
        sym e ∙ ap (λ (z : Core). may_grant z i (asks_thread_ids n w)) table.is ∙ ap (λ (z : ℕ). not (nat_eq z 1)) unused

    serves_here : ServesCreate (asks_thread_ids n w)
    serves_here = record {
      core = thread_ids_core N;
      is = ap (λ (b : Bool). if b then Some (thread_ids_core N) else None) has_thread_ids;
      goes = λ _. record {
        state = t;
        view = subst IsSynchronizing (sym step_of.view) tt;
        steps = ap outcome_of steps;
        stands = created_stands;
        own = subst (λ x. Starts P codes x f next variables arrays) (sym own) step_of.starts;
        others = λ j ne.
            ⊎_elim
            (λ same. subst (λ k. Other P N c after s t k) same begins)
            (λ other. stays j ne other)
            (cases_eq n j);
      };
      waits = λ no. absurd (let yes = may false no in cc);
    }

    serves_create : ServesCreate (asks_thread_ids (residue_of 64 (act_value variables thread)) w)
    serves_create = subst (λ z. ServesCreate (asks_thread_ids z w)) (sym number) serves_here

  serves : ServesCreate ask
  serves = go step_of.act step_of.same step_of.steps
    where
      same_ask : asks_thread_ids (residue_of 64 (act_value variables thread)) (residue_of 64 (act_value variables argument)) ≡ ask
      same_ask = let e = at.asks in cc

      creates : (offset n routine : ℕ) (v : ℤ) → (n < 2 ^ 64 → residue_of 64 (act_value variables thread) ≡ n) → residue_of 64 (act_value variables argument) ≡ residue_of 64 v →
          slice_get (hardware_routines P) n ≡ Some (Some routine) → (o : Option Slot) → slice_get slots n ≡ o →
          step P s i ≡ created P (with_slot s i (Running step_of.frames)) offset routine v n o → ServesCreate ask
      creates offset n routine v word argued runs None now e = absurd (undefined offset e)
      creates offset n routine v word argued runs (Some (Running frames)) now e = absurd (undefined offset e)
      creates offset n routine v word argued runs (Some Finished) now e = absurd (undefined offset e)
      creates offset n routine v word argued runs (Some Unused) now e =
          subst ServesCreate same_ask (serves_create offset n routine (residue_of 64 (act_value variables argument)) v word argued runs now e)

      go : (a : Act) → SameAct P variables (act.Create thread argument) a step_of.operands →
          step P s i ≡ acted P (with_slot s i (Running step_of.frames)) i step_of.offset a step_of.operands → ServesCreate ask
      go (Act.Create routine) same e =
          let named = names variables thread (argument ∷ []) step_of.operands same.0 same.1 in
          creates step_of.offset named.number routine (value_operand step_of.operands) named.word (second_word variables thread argument step_of.operands same.0)
          (ap (slice_get (hardware_routines P)) (sym named.object) ∙ routine_there P step_of.operands routine same.2) _ refl
          (e ∙ ap (λ n. created P (with_slot s i (Running step_of.frames)) step_of.offset routine (value_operand step_of.operands) n (slice_get slots n)) named.object)
      go a same e = absurd same

pub creates_are_steps : (thread argument : ActOperand) → RequestIsStep (act.Create thread argument)
creates_are_steps thread argument P codes N T R numbers acts s i f l next variables arrays ask c at =
    serves P codes N T R numbers thread argument s i f l next variables arrays c ask at
    (acts P codes s i f l next variables arrays (act.Create thread argument) R at.reached at.defined at.starts at.listed no_return)
  where
    no_return : act.Create thread argument ≢ act.Return
    no_return e = cc
