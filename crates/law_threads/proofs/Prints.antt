-- A printf is always granted, and the printer has its bytes.
use Rattle.std.specs.Prelude.{Bool, true, false, if◌then◌else◌, ℤ, Option, Some, slice_get, slice_set}
use Rattle.std.specs.List.{list_any}
use Rattle.std.proofs.Common.{◌≡◌, ◌≢◌, ℕ, List, ◌++◌, refl, sym, ap, ◌∙◌, subst, arith}
use Rattle.std.proofs.lemmas.Option.{slice_get_within}
use Rattle.lists.proofs.Places.{set_there, set_elsewhere}
use Rattle.c_program.specs.Tree.{Piece, Program}
use Rattle.c_program.specs.Resolved.{IsResolved}
use Rattle.thread_semantics.specs.State.{Running, State}
use Rattle.thread_semantics.specs.Work.{Act}
use Rattle.thread_semantics.specs.Step.{Steps, with_slot, printed, acted, is_waiter, step}
use Rattle.interleaving.specs.Memory.{Memory}
use Rattle.interleaving.specs.Threaded.{IsSynchronizing}
use Rattle.block_ir.specs.declared.code.Act.TheVariants as act
use Rattle.block_ir.specs.declared.code.ActOperand.{ActOperand}
use Rattle.race_model.specs.Source.{Local, local_of, running, outcome_of}
use Rattle.code_following.specs.Following.{print_formats, SameAct}
use Rattle.block_ir.specs.Asked.{Asked, operand_words, Numbers, mutex_core, barrier_core, thread_ids_core, printer_core}
use Rattle.block_ir.specs.declared.service.Service.TheVariants.{Printer}
use Rattle.law_threads.specs.Cores.{Core, OfPrinter, may_grant, text_at, status_in, argument_in, waits_in}
use Rattle.block_refine.specs.Routines.{Codes, Starts}
use Rattle.block_refine.specs.RoutineActs.{IsStepOf}
use Rattle.law_threads.specs.Requests.{AreNumbers, StandsAtAct, Serves, Same, cores_after}
use Rattle.law_threads.proofs.ActByAct.{RequestIsStep}
use Rattle.law_threads.proofs.Common.{status_kept, other_core, same_core}
use Rattle.block_refine.proofs.Words.{words_print}

module _ (P : Program) (codes : Codes) (N : Numbers) (T : ℕ) (R : IsResolved P) (numbers : AreNumbers P N T) (site : ℕ) (values : List ActOperand) (s : State) (i f l next : ℕ)
    (variables : ℕ → ℤ) (arrays : Memory ℤ) (c : ℕ → Core) (ask : Asked) (at : StandsAtAct P codes N T s i f l next variables arrays (act.Print site values) ask c)
    (step_of : IsStepOf P codes s i f next variables arrays (act.Print site values)) where
  abbrev asks_print : Asked
  asks_print = record { service = Printer; core = 0; number = site; values = operand_words variables values }

  slot : slice_get s.slots i ≡ Some (Running step_of.calls)
  slot = ap (λ (x : Local). x.slot) step_of.runs

  abbrev after : ℕ → Core
  after = cores_after P codes N T (printer_core N) i asks_print c

  others_stay : (j : ℕ) → j ≢ printer_core N → after j ≡ c j
  others_stay j ne = other_core T (print_formats P) (printer_core N) i asks_print c j ne

  prints : (format : List Piece) (operands : List ℤ) → slice_get (print_formats P) site ≡ Some format →
      printed format operands ≡ text_at (Some format) (operand_words variables values) →
      step P s i ≡ Steps (record s { slots = slice_set s.slots i (Running step_of.frames); output = s.output ++ printed format operands }) →
      Serves P codes N T s i f next variables arrays (act.Print site values) asks_print c
  prints format operands listed text steps = record {
    core = printer_core N;
    is = refl;
    goes = λ _. record {
      state = t;
      view = subst IsSynchronizing (sym step_of.view) tt;
      steps = ap outcome_of steps;
      stands = record {
        mutexes = λ m x e. others_stay (mutex_core N m) (λ q. absurd (let lt = slice_get_within s.mutexes m x e in let z = at.cores.mutex_count in omega arith))
            ∙ at.cores.mutexes m x e;
        barriers = λ m b e.
            let k = at.cores.barriers m b e in
            record {
              gate = k.gate;
              is = others_stay (barrier_core N m) (λ q. absurd (let lt = slice_get_within s.barriers m b e in let z = at.cores.barrier_count in omega arith)) ∙ k.is;
              stands = k.stands;
            };
        thread_ids = λ has.
            let z = at.cores.thread_ids has in
            record {
              thread_ids = z.thread_ids;
              is = others_stay (thread_ids_core N) (λ q. absurd (let one : ◌≡◌ {A = ℕ} (if N.thread_ids then 1 else 0) 1 = ap (λ (b : Bool). if b then 1 else 0) has in omega arith)) ∙ z.is;
              statuses = z.statuses;
              arguments = z.arguments;
              main = z.main;
              each = λ j x lt e. let y = status_kept s.slots i j step_of.calls step_of.frames x slot e in z.each j y.0 lt y.1 ∙ y.2;
            };
        output = printed_there;
        mutex_count = at.cores.mutex_count;
        barrier_count = at.cores.barrier_count;
      };
      own = subst (λ x. Starts P codes x f next variables arrays) (sym own) step_of.starts;
      others = λ j ne.
          Same
          (λ d. record { slot = set_elsewhere s.slots i j (Running step_of.frames) (λ e. ne (sym e)) d; waits = list_any (is_waiter j) s.barriers })
          (record {
            status = thread_ids_stay (λ (z : Core). status_in z j) refl refl;
            argument = thread_ids_stay (λ (z : Core). argument_in z j) refl refl;
            bits = λ m lt. ap (λ (z : Core). waits_in z j) (others_stay (barrier_core N m) (λ e. absurd (omega arith)));
          });
    };
    waits = λ no. absurd (let z = sym (ap (λ (x : Core). may_grant x i asks_print) at.cores.output) ∙ no in cc);
  }
    where
      t : State
      t = record s { slots = slice_set s.slots i (Running step_of.frames); output = s.output ++ printed format operands }

      printer : after (printer_core N) ≡ OfPrinter (s.output ++ text_at (slice_get (print_formats P) site) (operand_words variables values))
      printer = same_core T (print_formats P) (printer_core N) i asks_print c (OfPrinter s.output) at.cores.output

      printed_there : after (printer_core N) ≡ OfPrinter (s.output ++ printed format operands)
      printed_there =
          printer
          ∙ ap (λ (o : Option (List Piece)). OfPrinter (s.output ++ text_at o (operand_words variables values))) listed
          ∙ ap (λ (z : List ℕ). OfPrinter (s.output ++ z)) (sym text)

      own : local_of t i ≡ running step_of.frames
      own = λ d. record {
        slot = set_there s.slots i (Running step_of.calls) (Running step_of.frames) slot d;
        waits = ap (λ (x : Local). x.waits) step_of.runs d;
      }

      -- where there is no core of thread ids its number is that of the printer, which tells nothing
      thread_ids_stay : (Q : Core → ℕ) → Q (OfPrinter (s.output ++ text_at (slice_get (print_formats P) site) (operand_words variables values))) ≡ 0 → Q (OfPrinter s.output) ≡ 0 →
          Q (after (thread_ids_core N)) ≡ Q (c (thread_ids_core N))
      thread_ids_stay Q new old = go N.thread_ids refl
        where
          go : (b : Bool) → N.thread_ids ≡ b → Q (after (thread_ids_core N)) ≡ Q (c (thread_ids_core N))
          go true e = ap Q (others_stay (thread_ids_core N) (λ q. absurd (let one : ◌≡◌ {A = ℕ} (if N.thread_ids then 1 else 0) 1 = ap (λ (b : Bool). if b then 1 else 0) e in omega arith)))
          go false e =
              let none : ◌≡◌ {A = ℕ} (if N.thread_ids then 1 else 0) 0 = ap (λ (b : Bool). if b then 1 else 0) e in
              let here : thread_ids_core N ≡ printer_core N = omega arith in
              subst (λ z. Q (after z) ≡ Q (c z)) (sym here) (ap Q printer ∙ new ∙ sym old ∙ sym (ap Q at.cores.output))

  serves_print : Serves P codes N T s i f next variables arrays (act.Print site values) ask c
  serves_print = go step_of.act step_of.same step_of.steps
    where
      same_ask : asks_print ≡ ask
      same_ask = let e = at.asks in cc

      go : (a : Act) → SameAct P variables (act.Print site values) a step_of.operands →
          step P s i ≡ acted P (with_slot s i (Running step_of.frames)) i step_of.offset a step_of.operands →
          Serves P codes N T s i f next variables arrays (act.Print site values) ask c
      go (Act.Print format) same e =
          subst (λ z. Serves P codes N T s i f next variables arrays (act.Print site values) z c) same_ask
          (prints format step_of.operands same.0 (words_print variables values format step_of.operands same.1) e)
      go a same e = absurd same

pub prints_are_steps : (site : ℕ) (values : List ActOperand) → RequestIsStep (act.Print site values)
prints_are_steps site values P codes N T R numbers acts s i f l next variables arrays ask c at =
    serves_print P codes N T R numbers site values s i f l next variables arrays c ask at
    (acts P codes s i f l next variables arrays (act.Print site values) R at.reached at.defined at.starts at.listed no_return)
  where
    no_return : act.Print site values ≢ act.Return
    no_return e = cc
