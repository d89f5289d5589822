-- A join is granted where the thread has finished, and blocked while it runs.
use Rattle.std.specs.Prelude.{Bool, true, false, nat_eq, if◌then◌else◌, ℤ, Option, Some, None, slice_get, slice_set, slice_index, ◌^◌}
use Rattle.std.specs.List.{list_any}
use Rattle.std.proofs.Common.{◌≡◌, ◌≢◌, ℕ, ◌<◌, List, [], ◌∷◌, refl, sym, ap, ◌∙◌, subst, ⊎_elim, arith}
use Rattle.std.proofs.lemmas.Bool.{eqb-false, cases_eq}
use Rattle.std.proofs.lemmas.Option.{slice_get_within}
use Rattle.std.proofs.lemmas.List.{get_or-set_other, get_or-set_same, length-set}
use Rattle.lists.proofs.Places.{set_there, set_elsewhere}
use Rattle.hls_ints.specs.Residues.{residue_of}
use Rattle.c_program.specs.Tree.{Program}
use Rattle.c_program.specs.Resolved.{IsResolved}
use Rattle.thread_semantics.specs.declared.cause.UndefinedCause.TheVariants.{ThreadId}
use Rattle.thread_semantics.specs.declared.cause.BlockedCause.TheVariants as blocked
use Rattle.thread_semantics.specs.State.{Frame, Slot, Unused, Running, Finished, State}
use Rattle.thread_semantics.specs.Work.{Act}
use Rattle.thread_semantics.specs.Step.{Steps, Blocks, Undefines, with_slot, joined, acted, is_waiter, is_running, is_live, step}
use Rattle.interleaving.specs.Memory.{Memory}
use Rattle.interleaving.specs.Threaded.{IsSynchronizing}
use Rattle.block_ir.specs.declared.code.Act.TheVariants as act
use Rattle.block_ir.specs.declared.code.ActOperand.{ActOperand}
use Rattle.planned_block.proofs.Bits.{less_is}
use Rattle.race_model.specs.Source.{Local, local_of, running, outcome_of}
use Rattle.race_model.proofs.Lists.{get-set_cases}
use Rattle.race_model.proofs.Sound.{reachable_sound, runs_on}
use Rattle.race_model.proofs.Orderly.{orderly}
use Rattle.block_ir.specs.Asked.{act_value, Asked, Numbers, mutex_core, barrier_core, thread_ids_core, printer_core}
use Rattle.block_ir.specs.declared.service.Service.TheVariants.{ThreadIds}
use Rattle.code_following.specs.Following.{print_formats, SameAct}
use Rattle.core_states.specs.Machines.{ids_after}
use Rattle.law_threads.specs.Cores.{Core, OfThreadIds, may_grant, status_in, argument_in, waits_in}
use Rattle.law_threads.specs.Stands.{status_of, StandsFor, ThreadIdsStand}
use Rattle.block_refine.specs.Routines.{Codes, Starts}
use Rattle.block_refine.specs.RoutineActs.{IsStepOf}
use Rattle.law_threads.specs.Requests.{AreNumbers, StandsAtAct, Serves, Other, Same, Joined, cores_after}
use Rattle.law_threads.proofs.ActByAct.{RequestIsStep}
use Rattle.law_threads.proofs.Common.{names, never, status_kept, other_core, same_core}

abbrev asks_join : ℕ → Asked
asks_join id = record { service = ThreadIds; core = 0; number = 1; values = id ∷ [] }

module _ (P : Program) (codes : Codes) (N : Numbers) (T : ℕ) (R : IsResolved P) (numbers : AreNumbers P N T) (several : 1 < T) (thread : ActOperand) (s : State) (i f l next : ℕ)
    (variables : ℕ → ℤ) (arrays : Memory ℤ) (c : ℕ → Core) (ask : Asked) (at : StandsAtAct P codes N T s i f l next variables arrays (act.Join thread) ask c)
    (step_of : IsStepOf P codes s i f next variables arrays (act.Join thread)) where
  abbrev ServesJoin : Asked → Type 0
  ServesJoin a = Serves P codes N T s i f next variables arrays (act.Join thread) a c

  slot : slice_get s.slots i ≡ Some (Running step_of.calls)
  slot = ap (λ (x : Local). x.slot) step_of.runs

  abbrev slots : List Slot
  slots = slice_set s.slots i (Running step_of.frames)

  slot_below : (n : ℕ) (x : Slot) → slice_get s.slots n ≡ Some x → n < T
  slot_below n x e = let lt = slice_get_within s.slots n x e in let a = (orderly P R s at.reached).threads in let b = numbers.threads in omega arith

  has_thread_ids : N.thread_ids ≡ true
  has_thread_ids = numbers.thread_ids ∙ less_is 1 T several

  table : ThreadIdsStand T (c (thread_ids_core N)) s.slots
  table = at.cores.thread_ids has_thread_ids

  -- id n has finished
  module _ (n : ℕ) (now : slice_get slots n ≡ Some Finished) (steps : step P s i ≡ Steps (with_slot (with_slot s i (Running step_of.frames)) n Unused)) where
    abbrev t : State
    t = with_slot (with_slot s i (Running step_of.frames)) n Unused

    apart : i ≢ n
    apart e =
        let own = set_there s.slots i (Running step_of.calls) (Running step_of.frames) slot in
        let there : slice_get slots i ≡ Some Finished = subst (λ k. slice_get slots k ≡ Some Finished) (sym e) now in
        cc

    was : slice_get s.slots n ≡ Some Finished
    was = sym (set_elsewhere s.slots i n (Running step_of.frames) apart) ∙ now

    below : n < T
    below = slot_below n Finished was

    positive : 0 < n
    positive =
        ⊎_elim
        (λ z. absurd (
        let no : is_live s 0 ≡ false = ap (λ k. is_live s k) (sym z) ∙ ap is_running was in
        let lives = (orderly P R s at.reached).main (runs_on P R s i step_of.calls (reachable_sound P R s at.reached) slot) in
        cc))
        (λ ne. omega arith)
        (cases_eq n 0)

    abbrev after : ℕ → Core
    after = cores_after P codes N T (thread_ids_core N) i (asks_join n) c

    others_stay : (j : ℕ) → j ≢ thread_ids_core N → after j ≡ c j
    others_stay j ne = other_core T (print_formats P) (thread_ids_core N) i (asks_join n) c j ne

    here : after (thread_ids_core N) ≡ OfThreadIds (ids_after table.thread_ids i 1 n 0)
    here = same_core T (print_formats P) (thread_ids_core N) i (asks_join n) c (OfThreadIds table.thread_ids) table.is

    each : (j : ℕ) (x : Slot) → 0 < j → slice_get t.slots j ≡ Some x → slice_index (slice_set table.thread_ids.statuses n 0) j ≡ status_of x
    each j x lt e =
        ⊎_elim
        (λ same.
        subst (λ k. slice_index (slice_set table.thread_ids.statuses n 0) k ≡ status_of x) same.0
        (get_or-set_same table.thread_ids.statuses n 0 0 (let z = table.statuses in let b = below in omega arith) ∙ ap status_of same.1))
        (λ other.
        let y = status_kept s.slots i j step_of.calls step_of.frames x slot other.1 in
        get_or-set_other table.thread_ids.statuses n j 0 0 (λ q. other.0 (sym q)) ∙ table.each j y.0 lt y.1 ∙ y.2)
        (get-set_cases slots n j Unused x e)

    stands : StandsFor N T after t
    stands = record {
      mutexes = λ m x e. others_stay (mutex_core N m) (λ q. absurd (let lt = slice_get_within s.mutexes m x e in let z = at.cores.mutex_count in omega arith))
          ∙ at.cores.mutexes m x e;
      barriers = λ m b e.
          let k = at.cores.barriers m b e in
          record {
            gate = k.gate;
            is = others_stay (barrier_core N m) (λ q. absurd (let lt = slice_get_within s.barriers m b e in let z = at.cores.barrier_count in omega arith)) ∙ k.is;
            stands = k.stands;
          };
      thread_ids = λ _. record {
        thread_ids = ids_after table.thread_ids i 1 n 0;
        is = here;
        statuses = length-set table.thread_ids.statuses n 0 ∙ table.statuses;
        arguments = table.arguments;
        main = get_or-set_other table.thread_ids.statuses n 0 0 0 (λ q. absurd (let p = positive in omega arith)) ∙ table.main;
        each = each;
      };
      output = others_stay (printer_core N) (λ q. absurd (let one : ◌≡◌ {A = ℕ} (if N.thread_ids then 1 else 0) 1 = ap (λ (b : Bool). if b then 1 else 0) has_thread_ids in omega arith))
          ∙ at.cores.output;
      mutex_count = at.cores.mutex_count;
      barrier_count = at.cores.barrier_count;
    }

    own : local_of t i ≡ running step_of.frames
    own = λ d. record {
      slot = (set_elsewhere slots n i Unused (λ e. apart (sym e)) ∙ set_there s.slots i (Running step_of.calls) (Running step_of.frames) slot) d;
      waits = ap (λ (x : Local). x.waits) step_of.runs d;
    }

    zero_now : status_in (after (thread_ids_core N)) n ≡ 0
    zero_now = ap (λ (z : Core). status_in z n) here ∙ get_or-set_same table.thread_ids.statuses n 0 0 (let z = table.statuses in let b = below in omega arith)

    is_joined : Other P N c after s t n
    is_joined = Joined positive was (set_there slots n Finished Unused now) (λ e. absurd (let z = zero_now in omega arith))

    stays : (j : ℕ) → j ≢ i → n ≢ j → Other P N c after s t j
    stays j ne other =
        Same
        (λ d. record {
          slot = (set_elsewhere slots n j Unused other ∙ set_elsewhere s.slots i j (Running step_of.frames) (λ e. ne (sym e))) d;
          waits = list_any (is_waiter j) s.barriers;
        })
        (record {
          status = ap (λ (z : Core). status_in z j) here ∙ get_or-set_other table.thread_ids.statuses n j 0 0 (λ q. other (sym q)) ∙ sym (ap (λ (z : Core). status_in z j) table.is);
          argument = ap (λ (z : Core). argument_in z j) here ∙ sym (ap (λ (z : Core). argument_in z j) table.is);
          bits = λ m lt. ap (λ (z : Core). waits_in z j) (others_stay (barrier_core N m) (λ e. absurd (omega arith)));
        })

    may : (b : Bool) → may_grant (c (thread_ids_core N)) i (asks_join n) ≡ b → b ≡ true
    may b e =
        let two : slice_index table.thread_ids.statuses n ≡ 2 = table.each n Finished positive was in
        sym e ∙ ap (λ (z : Core). may_grant z i (asks_join n)) table.is ∙ ap (λ (z : ℕ). nat_eq z 2) two

    serves_finished : ServesJoin (asks_join n)
    serves_finished = record {
      core = thread_ids_core N;
      is = ap (λ (b : Bool). if b then Some (thread_ids_core N) else None) has_thread_ids;
      goes = λ _. record {
        state = t;
        view = subst IsSynchronizing (sym step_of.view) tt;
        steps = ap outcome_of steps;
        stands = stands;
        own = subst (λ x. Starts P codes x f next variables arrays) (sym own) step_of.starts;
        others = λ j ne. ⊎_elim (λ same. subst (λ k. Other P N c after s t k) same is_joined) (λ other. stays j ne other) (cases_eq n j);
      };
      waits = λ no. absurd (let t = may false no in cc);
    }

  -- id n runs
  not_two : (n : ℕ) (frames : List Frame) → slice_get s.slots n ≡ Some (Running frames) → nat_eq (slice_index table.thread_ids.statuses n) 2 ≡ false
  not_two n frames e =
      ⊎_elim
      (λ z. ap (λ (k : ℕ). nat_eq (slice_index table.thread_ids.statuses k) 2) z ∙ ap (λ (k : ℕ). nat_eq k 2) table.main)
      (λ ne. ap (λ (k : ℕ). nat_eq k 2) (table.each n (Running frames) (omega arith) e))
      (cases_eq n 0)

  serves_running : (n : ℕ) (frames : List Frame) → slice_get s.slots n ≡ Some (Running frames) → step P s i ≡ Blocks blocked.Join → ServesJoin (asks_join n)
  serves_running n frames runs e = record {
    core = thread_ids_core N;
    is = ap (λ (b : Bool). if b then Some (thread_ids_core N) else None) has_thread_ids;
    goes = λ may. absurd (let no = not_two n frames runs in let z = sym (ap (λ (z : Core). may_grant z i (asks_join n)) table.is) ∙ may in cc);
    waits = λ no. ap outcome_of e;
  }

module _ (P : Program) (codes : Codes) (N : Numbers) (T : ℕ) (R : IsResolved P) (numbers : AreNumbers P N T) (thread : ActOperand) (s : State) (i f l next : ℕ)
    (variables : ℕ → ℤ) (arrays : Memory ℤ) (c : ℕ → Core) (ask : Asked) (at : StandsAtAct P codes N T s i f l next variables arrays (act.Join thread) ask c)
    (step_of : IsStepOf P codes s i f next variables arrays (act.Join thread)) where
  abbrev ServesNow : Asked → Type 0
  ServesNow a = Serves P codes N T s i f next variables arrays (act.Join thread) a c

  never_undefined : (offset : ℕ) → step P s i ≡ Undefines offset ThreadId → ⊥
  never_undefined offset e = never P R s i offset ThreadId step_of.calls at.reached at.defined step_of.runs e

  own_slot : slice_get s.slots i ≡ Some (Running step_of.calls)
  own_slot = ap (λ (x : Local). x.slot) step_of.runs

  below_now : (n : ℕ) (x : Slot) → slice_get s.slots n ≡ Some x → n < T
  below_now n x e = let lt = slice_get_within s.slots n x e in let a = (orderly P R s at.reached).threads in let b = numbers.threads in omega arith

  -- two thread ids are two threads
  two : (n : ℕ) (x : Slot) → slice_get s.slots n ≡ Some x → i ≢ n → 1 < T
  two n x e ne = let a = below_now n x e in let b = below_now i (Running step_of.calls) own_slot in omega arith

  by_self : (offset n : ℕ) (frames : List Frame) → (n < 2 ^ 64 → residue_of 64 (act_value variables thread) ≡ n) →
      slice_get (slice_set s.slots i (Running step_of.frames)) n ≡ Some (Running frames) →
      (b : Bool) → nat_eq i n ≡ b → step P s i ≡ (if b then Undefines offset ThreadId else Blocks blocked.Join) → ServesNow (asks_join (residue_of 64 (act_value variables thread)))
  by_self offset n frames word now true z e = absurd (never_undefined offset e)
  by_self offset n frames word now false z e =
      let apart = eqb-false i n z in
      let old = sym (set_elsewhere s.slots i n (Running step_of.frames) apart) ∙ now in
      subst (λ y. ServesNow (asks_join y)) (sym (word (let b = below_now n (Running frames) old in let few = numbers.few_threads in omega arith)))
      (serves_running P codes N T R numbers (two n (Running frames) old apart) thread s i f l next variables arrays c ask at step_of n frames old e)

  joins : (offset n : ℕ) → (n < 2 ^ 64 → residue_of 64 (act_value variables thread) ≡ n) → (o : Option Slot) → slice_get (slice_set s.slots i (Running step_of.frames)) n ≡ o →
      step P s i ≡ joined (with_slot s i (Running step_of.frames)) i offset n o → ServesNow (asks_join (residue_of 64 (act_value variables thread)))
  joins offset n word None now e = absurd (never_undefined offset e)
  joins offset n word (Some Unused) now e = absurd (never_undefined offset e)
  joins offset n word (Some (Running frames)) now e = by_self offset n frames word now (nat_eq i n) refl e
  joins offset n word (Some Finished) now e =
      ⊎_elim
      (λ same. absurd (
      let own = set_there s.slots i (Running step_of.calls) (Running step_of.frames) own_slot in
      let there : slice_get (slice_set s.slots i (Running step_of.frames)) i ≡ Some Finished =
      subst (λ k. slice_get (slice_set s.slots i (Running step_of.frames)) k ≡ Some Finished) (sym same) now in
      cc))
      (λ apart.
      let old = sym (set_elsewhere s.slots i n (Running step_of.frames) apart) ∙ now in
      subst (λ y. ServesNow (asks_join y)) (sym (word (let b = below_now n Finished old in let few = numbers.few_threads in omega arith)))
      (serves_finished P codes N T R numbers (two n Finished old apart) thread s i f l next variables arrays c ask at step_of n now e))
      (cases_eq i n)

  serves_join : ServesNow ask
  serves_join = go step_of.act step_of.same step_of.steps
    where
      same_ask : asks_join (residue_of 64 (act_value variables thread)) ≡ ask
      same_ask = let e = at.asks in cc

      go : (a : Act) → SameAct P variables (act.Join thread) a step_of.operands →
          step P s i ≡ acted P (with_slot s i (Running step_of.frames)) i step_of.offset a step_of.operands → ServesNow ask
      go Act.Join same e =
          let named = names variables thread [] step_of.operands same.0 same.1 in
          subst ServesNow same_ask
          (joins step_of.offset named.number named.word (slice_get (slice_set s.slots i (Running step_of.frames)) named.number) refl
          (e ∙ ap (λ n. joined (with_slot s i (Running step_of.frames)) i step_of.offset n (slice_get (slice_set s.slots i (Running step_of.frames)) n)) named.object))
      go a same e = absurd same

pub joins_are_steps : (thread : ActOperand) → RequestIsStep (act.Join thread)
joins_are_steps thread P codes N T R numbers acts s i f l next variables arrays ask c at =
    serves_join P codes N T R numbers thread s i f l next variables arrays c ask at
    (acts P codes s i f l next variables arrays (act.Join thread) R at.reached at.defined at.starts at.listed no_return)
  where
    no_return : act.Join thread ≢ act.Return
    no_return e = cc
