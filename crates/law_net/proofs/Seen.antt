-- What is seen of the machine, its start, and the planned program that it runs.
use Rattle.std.specs.Prelude.{true, Option, Some, None, ℤ}
use Rattle.std.proofs.Common.{◌≡◌, ℕ, zero, suc, ◌+◌, ◌*◌, ◌<◌, ◌≤◌, List, [], refl, sym, ◌∙◌, subst, inl, inr, arith}
use Rattle.std.proofs.Math.Nat.{mul-suc}
use Rattle.std.proofs.lemmas.Bool.{or_left}
use Rattle.c_program.specs.Tree.{Program}
use Rattle.c_program.specs.Weight.{bound}
use Rattle.thread_semantics.specs.State.{State, start}
use Rattle.thread_semantics.specs.Step.{Stepped, Steps, Blocks, Undefines, is_blocked, step}
use Rattle.race_model.specs.Source.{outcome_of, c_source}
use Rattle.interleaving.specs.Source.{Blocked}
use Rattle.race_model.specs.Orderly.{is_over}
use Rattle.race_model.proofs.Orderly.{orderly}
use Rattle.race_model.proofs.Threaded.{threaded}
use Rattle.interleaving.specs.Hardware.{World}
use Rattle.interleaving.specs.Progress.{total_left, Moment}
use Rattle.interleaving.specs.Headline.{Views, IsSeen, DoneWhereEnded}
use Rattle.interleaving.proofs.Headline.{done_where_ended}
use Rattle.planned_block.specs.Slot.{Slot}
use Rattle.planned_block.specs.Advance.{any_below}
use Rattle.planned_block.specs.Hardware.{changes_left, hardware_of}
use Rattle.planned_block.specs.Headline.{PlannedProgram}
use Rattle.verilog_meaning.specs.Cycles.{Choice}
use Rattle.block_ir.specs.Asked.{Numbers, printer_core}
use Rattle.law_cycle.specs.Family.{CoreKind, Bank, Mutex, Barrier, ThreadIds, Printer, machine_of}
use Rattle.printer_cores.specs.declared.printer.Shape.{Shape as PrinterShape}
use Rattle.law_threads.specs.Cores.{Core, OfPrinter}
use Rattle.law_threads.specs.Stands.{StandsFor}
use Rattle.law_threads.specs.Surroundings.{hardware_code}
use Rattle.law_threads.specs.Laws.{marks}
use Rattle.law_threads.proofs.Counts.{fresh_below}
use Rattle.law_threads.proofs.WhoBlocks.{marks_threads}
use Rattle.law_cycle.specs.Built.{Parts, IsBuilt}
use Rattle.law_cycle.specs.Bodies.{numbers_of, core_at}
use Rattle.law_cycle.specs.Stage.{Stage, shown_as, cores_shown, look}
use Rattle.law_cycle.proofs.Listed.{printer_at}
use Rattle.law_cycle.proofs.BuiltCode.{numbers}
use Rattle.law_cycle.proofs.Steps.{threads_are_done}
use Rattle.law_net.specs.Start.{StartsThere}
use Rattle.law_net.specs.Follows.{machine_of_thread, IsFirst}
use Rattle.law_net.proofs.First.{counts_elements}
use Rattle.law_net.proofs.ThreadsStart.{threads_start}
use Rattle.law_net.proofs.Clock as clock
use Rattle.law_net.proofs.Clock.{M, next, moves, is_full, clocked}

blocked_is : (o : Stepped) → is_blocked o ≡ true → outcome_of o ≡ Blocked
blocked_is (Steps s) e = absurd cc
blocked_is (Blocks cause) e = refl
blocked_is (Undefines offset cause) e = absurd cc

prints_as : (o : Option CoreKind) (p : PrinterShape) → o ≡ Some (Printer p) → (s : (machine_of o).State) (out : List ℕ) → shown_as o s out ≡ OfPrinter out
prints_as None p e s out = absurd cc
prints_as (Some (Bank b)) p e s out = absurd cc
prints_as (Some (Mutex b)) p e s out = absurd cc
prints_as (Some (Barrier b)) p e s out = absurd cc
prints_as (Some (ThreadIds b)) p e s out = absurd cc
prints_as (Some (Printer b)) p e s out = refl

-- what n threads have left that have at most B each
total_within : (B : ℕ) (left : Slot → ℕ) (w : World ℤ Slot (ℕ → Core)) → ((i : ℕ) → left (w.slots i) ≤ B) → (n : ℕ) → total_left n left w ≤ B * n
total_within B left w each zero = omega arith
total_within B left w each (suc n) =
    let below = total_within B left w each n in
    let one = each n in
    let more : B * suc n ≡ B * n + B = mul-suc B n in
    omega (arith, below, one, more)

module _ (P : Program) (K : Parts) (built : IsBuilt P K) where
  abbrev N : Numbers
  N = numbers_of K.cores

  -- ---- what is seen

  printer_shows : (h : Stage P K) → cores_shown P K h.net h.out (printer_core N) ≡ OfPrinter h.out
  printer_shows h = prints_as (core_at K.cores (printer_core N)) K.cores.printer (printer_at K.cores) (h.net.states (printer_core N)) h.out

  prints : (h : Stage P K) (s : State) → StandsFor N K.cores.threads (cores_shown P K h.net h.out) s → h.out ≡ s.output
  prints h s stands = let same : OfPrinter h.out ≡ OfPrinter s.output = sym (printer_shows h) ∙ stands.output in cc

  some_thread : 0 < K.cores.threads
  some_thread = let e = built.threads in omega (arith, e)

  done_is : (h : Stage P K) → (machine_of_thread K 0).is_done (h.net.slots 0) ≡ marks P K.codes N K.cores.threads K.spreads built.chain (h.slots 0)
  done_is h = threads_are_done P K built h 0 some_thread

  ends : DoneWhereEnded (c_source P) (hardware_of (M P K built)) (marks P K.codes N K.cores.threads K.spreads built.chain)
  ends =
      done_where_ended (c_source P) (hardware_of (M P K built)) is_over (marks P K.codes N K.cores.threads K.spreads built.chain)
      (marks_threads P K.codes N K.cores.threads K.spreads built.chain built.resolved (numbers P K built) built.coded)

  abbrev pub views : Views ℤ State (Stage P K)
  views = record {
    output = λ s. s.output;
    printed = λ h. h.out;
    done = λ h. (machine_of_thread K 0).is_done (h.net.slots 0);
    globals = λ h. h.memory;
  }

  pub seen : IsSeen (c_source P) views (hardware_of (M P K built)) (look P K) K.cores.threads
  seen = record {
    prints = prints;
    done = λ L h l.
        let e = done_is h ∙ ends L (look P K h) l in
        (λ d. sym e ∙ d, λ d. e ∙ d);
    globals = λ h p. refl;
    beyond = λ s i at le. blocked_is (step P s i) ((orderly P built.resolved s at).beyond i (subst (λ n. n ≤ i) built.threads le));
  }

  -- ---- the start

  module _ (first : Stage P K) (is : IsFirst P K first) where
    starts_there : StartsThere P K.codes N K.cores.threads K.spreads built.chain (cores_shown P K first.net first.out) first.slots
    starts_there =
        threads_start P K.codes N K.cores.threads K.spreads built.chain built.resolved (numbers P K built) (counts_elements P K built) built.coded (cores_shown P K first.net first.out)
        is.cores first.slots is.slots

    left_within : (i : ℕ) → changes_left (hardware_code K.codes built.chain) (first.slots i) ≤ bound P
    left_within i =
        let less = fresh_below P K.codes built.chain built.coded.chained (first.slots i) (is.slots i).state in
        omega (arith, less)

    pub starts : Moment (c_source P) (hardware_of (M P K built)) K.cores.threads (bound P) (changes_left (hardware_code K.codes built.chain)) [] (look P K first) 0
    starts = record {
      lag = record {
        state = start P;
        flights = λ i. record { moves = []; made = [] };
        reached = refl;
        stands = starts_there.stands;
        runs = λ i. tt;
        places = λ i. inl (refl, refl, starts_there.rests i);
        memory = λ p i others. is.memory p;
      };
      paid = inr (let all = total_within (bound P) (changes_left (hardware_code K.codes built.chain)) (look P K first) left_within K.cores.threads in
          let none : 0 + K.cores.threads ≡ K.cores.threads = omega arith in
          subst (λ n. 0 + total_left K.cores.threads (changes_left (hardware_code K.codes built.chain)) (look P K first) ≤ bound P * n) (sym none) (omega (arith, all)));
    }

    abbrev pub program : PlannedProgram
    program = record {
      threads = M P K built;
      threaded = threaded P built.resolved;
      T = K.cores.threads;
      Machine = Stage P K;
      Choice = Choice;
      look = look P K;
      cycle = next P K built;
      is_full = is_full P K built;
      counts = clock.counts P K built;
      full_counts = λ h c e. or_left (is_full P K built c) (any_below (moves P K built h c) K.cores.threads) e;
      clocked = clocked P K built;
      views = views;
      seen = seen;
      first = first;
      starts = starts;
    }
