-- Init and destroy of a barrier are always granted, and nobody waits there before or after.
use Rattle.std.specs.Prelude.{Bool, true, false, nat_le, nat_lt, if◌then◌else◌, ℤ, pos, negsuc, Option, Some, None, slice_get, slice_set, ◌^◌}
use Rattle.std.proofs.Common.{◌≡◌, ◌≢◌, ℕ, ◌<◌, List, [], ◌∷◌, replicate, refl, sym, ap, ◌∙◌, subst, arith}
use Rattle.std.proofs.lemmas.Bool.{and_parts, ltb-true}
use Rattle.std.proofs.lemmas.List.{length-replicate}
use Rattle.std.proofs.lemmas.Option.{slice_get_within}
use Rattle.lists.proofs.Places.{zeros_at}
use Rattle.hls_ints.specs.Residues.{residue_of}
use Rattle.c_program.specs.Tree.{Program}
use Rattle.c_program.specs.Resolved.{IsResolved}
use Rattle.thread_semantics.specs.declared.cause.UndefinedCause.TheVariants.{Barrier as BarrierCause}
use Rattle.thread_semantics.specs.State.{Running, State, Barrier, NoBarrier, Awaits}
use Rattle.thread_semantics.specs.Work.{Act}
use Rattle.thread_semantics.specs.Step.{Undefines, with_slot, with_barrier, is_count, is_waiter, barrier_initialised, barrier_destroyed, acted, value_operand, step}
use Rattle.interleaving.specs.Memory.{Memory}
use Rattle.interleaving.specs.Threaded.{IsSynchronizing}
use Rattle.block_ir.specs.declared.code.Act.{Act as CodeAct}
use Rattle.block_ir.specs.declared.code.Act.TheVariants as act
use Rattle.block_ir.specs.declared.code.ActOperand.{ActOperand}
use Rattle.planned_block.proofs.Bits.{less_is}
use Rattle.race_model.specs.Source.{Local, local_of, running, outcome_of}
use Rattle.block_ir.specs.Asked.{act_value, Asked, Numbers, barrier_core}
use Rattle.code_following.specs.Following.{print_formats, SameAct}
use Rattle.core_states.specs.Machines.{CoreBarrier, barrier_eligible}
use Rattle.law_threads.specs.Cores.{Core, OfBarrier, may_grant, granted}
use Rattle.law_threads.specs.Stands.{CoreBarrierStands}
use Rattle.block_refine.specs.Routines.{Codes, Starts}
use Rattle.block_refine.specs.RoutineActs.{IsStepOf}
use Rattle.law_threads.specs.Requests.{AreNumbers, StandsAtAct, Serves, OwnAfter}
use Rattle.law_threads.proofs.ActByAct.{RequestIsStep}
use Rattle.law_threads.proofs.Common.{names, never, small_word}
use Rattle.law_threads.proofs.Anywhere.{any_set_same}
use Rattle.law_threads.proofs.Creates.{second_word}
use Rattle.law_threads.proofs.BarrierActs.{asks_barrier, barrier_stands, own_slot, same_other, no_bit}

-- a count is the number of its word
count_word : (v : ℤ) → is_count v ≡ true → pos (residue_of 64 v) ≡ v
count_word (pos n) e = ap pos (small_word n (let lt = ltb-true n (2 ^ 31) (and_parts (nat_le 1 n) (nat_lt n (2 ^ 31)) e).1 in omega arith))
count_word (negsuc n) e = absurd cc

module _ (a : CodeAct) (m : ActOperand) (operation : ℕ) (ws : List ℕ) (P : Program) (codes : Codes) (N : Numbers) (T : ℕ) (R : IsResolved P) (numbers : AreNumbers P N T)
    (s : State) (i f l next : ℕ)
    (variables : ℕ → ℤ) (arrays : Memory ℤ) (c : ℕ → Core) (ask : Asked) (at : StandsAtAct P codes N T s i f l next variables arrays a ask c)
    (step_of : IsStepOf P codes s i f next variables arrays a)
    (own : (d : ℕ → Core) (x : Local) → Starts P codes x f next variables arrays → OwnAfter P codes N d i x f next variables arrays a)
    (always : (g : CoreBarrier) → barrier_eligible g i operation ≡ true) where
  pub undefined : (offset : ℕ) → step P s i ≡ Undefines offset BarrierCause → ⊥
  undefined offset e = never P R s i offset BarrierCause step_of.calls at.reached at.defined step_of.runs e

  pub serve : (n : ℕ) (word : n < 2 ^ 64 → residue_of 64 (act_value variables m) ≡ n) (old new : Barrier) (here : slice_get s.barriers n ≡ Some old) (count : ℕ) →
      granted T (print_formats P) (OfBarrier (at.cores.barriers n old here).gate) i (asks_barrier n operation ws) ≡ OfBarrier (record { count = count; waiting = replicate T 0 }) →
      CoreBarrierStands T (record { count = count; waiting = replicate T 0 }) new → ((j : ℕ) → is_waiter j old ≡ false) → ((j : ℕ) → is_waiter j new ≡ false) →
      step P s i ≡ with_barrier (with_slot s i (Running step_of.frames)) n new →
      Serves P codes N T s i f next variables arrays a (asks_barrier (residue_of 64 (act_value variables m)) operation ws) c
  serve n word old new here count becomes gates was now steps =
      subst (λ z. Serves P codes N T s i f next variables arrays a (asks_barrier z operation ws) c) (sym (word few))
      (record {
        core = barrier_core N n;
        is = ap (λ (b : Bool). if b then Some (barrier_core N n) else None) (less_is n N.barriers below);
        goes = λ _. record {
          state = record s { slots = slice_set s.slots i (Running step_of.frames); barriers = slice_set s.barriers n new };
          view = subst IsSynchronizing (sym step_of.view) tt;
          steps = ap outcome_of steps;
          stands = barrier_stands P codes N T R numbers s i c at.reached at.cores step_of.calls step_of.frames step_of.runs n operation ws old new here gate becomes gates;
          own = own _ _ (subst (λ x. Starts P codes x f next variables arrays) (sym here_now) step_of.starts);
          others = λ j ne.
              same_other P codes N T R numbers s i c at.reached at.cores step_of.calls step_of.frames step_of.runs n operation ws old new here gate becomes gates j ne
              (now j ∙ sym (was j))
              (ap (λ (x : ℕ). nat_lt 0 x) (zeros_at T j)
              ∙ sym (no_bit P codes N T R numbers s i c at.reached at.cores step_of.calls step_of.frames step_of.runs n operation ws old new here gate becomes gates j (was j)));
        };
        waits = λ no.
            absurd (let b = at.cores.barriers n old here in
            let t : true ≡ false = sym (always b.gate) ∙ sym (ap (λ (z : Core). may_grant z i (asks_barrier n operation ws)) b.is) ∙ no in
            cc);
      })
    where
      gate : CoreBarrier
      gate = record { count = count; waiting = replicate T 0 }

      below : n < N.barriers
      below = let lt = slice_get_within s.barriers n old here in let e = at.cores.barrier_count in omega arith

      few : n < 2 ^ 64
      few = let lt = below in let e = numbers.few_barriers in omega arith

      here_now : local_of (record s { slots = slice_set s.slots i (Running step_of.frames); barriers = slice_set s.barriers n new }) i ≡ running step_of.frames
      here_now = λ d. record {
        slot = own_slot P codes N T R numbers s i c at.reached at.cores step_of.calls step_of.frames step_of.runs n operation ws old new here gate becomes gates d;
        waits = (any_set_same (is_waiter i) s.barriers n new old here (now i ∙ sym (was i)) ∙ ap (λ (x : Local). x.waits) step_of.runs) d;
      }

pub barrier_inits_are_steps : (m o : ActOperand) → RequestIsStep (act.BarrierInit m o)
barrier_inits_are_steps m o P codes N T R numbers acts s i f l next variables arrays ask c at = go there.act there.same there.steps
  where
    no_return : act.BarrierInit m o ≢ act.Return
    no_return e = cc

    there : IsStepOf P codes s i f next variables arrays (act.BarrierInit m o)
    there = acts P codes s i f l next variables arrays (act.BarrierInit m o) R at.reached at.defined at.starts at.listed no_return

    w : ℕ
    w = residue_of 64 (act_value variables o)

    same_ask : asks_barrier (residue_of 64 (act_value variables m)) 0 (residue_of 64 (act_value variables o) ∷ []) ≡ ask
    same_ask = let e = at.asks in cc

    gates : (v : ℤ) → residue_of 64 (act_value variables o) ≡ residue_of 64 v → is_count v ≡ true →
        CoreBarrierStands T (record { count = residue_of 64 (act_value variables o); waiting = replicate T 0 }) (Awaits v [])
    gates v word counts = record {
      sized = length-replicate T 0;
      bits = λ j lt. zeros_at T j;
      count = λ k ws e. let same : v ≡ k = cc in ap pos word ∙ count_word v counts ∙ same;
    }

    counted : (offset n : ℕ) (v : ℤ) → (n < 2 ^ 64 → residue_of 64 (act_value variables m) ≡ n) → residue_of 64 (act_value variables o) ≡ residue_of 64 v →
        slice_get s.barriers n ≡ Some NoBarrier →
        (b : Bool) → is_count v ≡ b → step P s i ≡ (if b then with_barrier (with_slot s i (Running there.frames)) n (Awaits v []) else Undefines offset BarrierCause) →
        Serves P codes N T s i f next variables arrays (act.BarrierInit m o) (asks_barrier (residue_of 64 (act_value variables m)) 0 (residue_of 64 (act_value variables o) ∷ [])) c
    counted offset n v word second here true counts e =
        serve (act.BarrierInit m o) m 0 (residue_of 64 (act_value variables o) ∷ []) P codes N T R numbers s i f l next variables arrays c ask at there (λ d x h. h) (λ g. refl)
        n word NoBarrier (Awaits v []) here (residue_of 64 (act_value variables o)) refl (gates v second counts) (λ j. refl) (λ j. refl) e
    counted offset n v word second here false counts e =
        absurd (undefined (act.BarrierInit m o) m 0 [] P codes N T R numbers s i f l next variables arrays c ask at there (λ d x h. h) (λ g. refl) offset e)

    cases : (offset n : ℕ) (v : ℤ) → (n < 2 ^ 64 → residue_of 64 (act_value variables m) ≡ n) → residue_of 64 (act_value variables o) ≡ residue_of 64 v →
        (b : Option Barrier) → slice_get s.barriers n ≡ b →
        step P s i ≡ barrier_initialised (with_slot s i (Running there.frames)) offset v n b →
        Serves P codes N T s i f next variables arrays (act.BarrierInit m o) (asks_barrier (residue_of 64 (act_value variables m)) 0 (residue_of 64 (act_value variables o) ∷ [])) c
    cases offset n v word second (Some NoBarrier) here e = counted offset n v word second here (is_count v) refl e
    cases offset n v word second None here e =
        absurd (undefined (act.BarrierInit m o) m 0 [] P codes N T R numbers s i f l next variables arrays c ask at there (λ d x h. h) (λ g. refl) offset e)
    cases offset n v word second (Some (Awaits count waiters)) here e =
        absurd (undefined (act.BarrierInit m o) m 0 [] P codes N T R numbers s i f l next variables arrays c ask at there (λ d x h. h) (λ g. refl) offset e)

    go : (a : Act) → SameAct P variables (act.BarrierInit m o) a there.operands →
        step P s i ≡ acted P (with_slot s i (Running there.frames)) i there.offset a there.operands → Serves P codes N T s i f next variables arrays (act.BarrierInit m o) ask c
    go Act.BarrierInit same e =
        let named = names variables m (o ∷ []) there.operands same.0 same.1 in
        subst (λ z. Serves P codes N T s i f next variables arrays (act.BarrierInit m o) z c) same_ask
        (cases there.offset named.number (value_operand there.operands) named.word (second_word variables m o there.operands same.0) (slice_get s.barriers named.number) refl
        (e ∙ ap (λ n. barrier_initialised (with_slot s i (Running there.frames)) there.offset (value_operand there.operands) n (slice_get s.barriers n)) named.object))
    go a same e = absurd same

pub barrier_destroys_are_steps : (m : ActOperand) → RequestIsStep (act.BarrierDestroy m)
barrier_destroys_are_steps m P codes N T R numbers acts s i f l next variables arrays ask c at = go there.act there.same there.steps
  where
    no_return : act.BarrierDestroy m ≢ act.Return
    no_return e = cc

    there : IsStepOf P codes s i f next variables arrays (act.BarrierDestroy m)
    there = acts P codes s i f l next variables arrays (act.BarrierDestroy m) R at.reached at.defined at.starts at.listed no_return

    same_ask : asks_barrier (residue_of 64 (act_value variables m)) 2 [] ≡ ask
    same_ask = let e = at.asks in cc

    gates : CoreBarrierStands T (record { count = 0; waiting = replicate T 0 }) NoBarrier
    gates = record {
      sized = length-replicate T 0;
      bits = λ j lt. zeros_at T j;
      count = λ k ws e. absurd cc;
    }

    cases : (offset n : ℕ) → (n < 2 ^ 64 → residue_of 64 (act_value variables m) ≡ n) → (b : Option Barrier) → slice_get s.barriers n ≡ b →
        step P s i ≡ barrier_destroyed (with_slot s i (Running there.frames)) offset n b →
        Serves P codes N T s i f next variables arrays (act.BarrierDestroy m) (asks_barrier (residue_of 64 (act_value variables m)) 2 []) c
    cases offset n word (Some (Awaits count [])) here e =
        serve (act.BarrierDestroy m) m 2 [] P codes N T R numbers s i f l next variables arrays c ask at there (λ d x h. h) (λ g. refl)
        n word (Awaits count []) NoBarrier here 0 refl gates (λ j. refl) (λ j. refl) e
    cases offset n word (Some (Awaits count (w ∷ ws))) here e =
        absurd (undefined (act.BarrierDestroy m) m 2 [] P codes N T R numbers s i f l next variables arrays c ask at there (λ d x h. h) (λ g. refl) offset e)
    cases offset n word (Some NoBarrier) here e =
        absurd (undefined (act.BarrierDestroy m) m 2 [] P codes N T R numbers s i f l next variables arrays c ask at there (λ d x h. h) (λ g. refl) offset e)
    cases offset n word None here e =
        absurd (undefined (act.BarrierDestroy m) m 2 [] P codes N T R numbers s i f l next variables arrays c ask at there (λ d x h. h) (λ g. refl) offset e)

    go : (a : Act) → SameAct P variables (act.BarrierDestroy m) a there.operands →
        step P s i ≡ acted P (with_slot s i (Running there.frames)) i there.offset a there.operands → Serves P codes N T s i f next variables arrays (act.BarrierDestroy m) ask c
    go Act.BarrierDestroy same e =
        let named = names variables m [] there.operands same.0 same.1 in
        subst (λ z. Serves P codes N T s i f next variables arrays (act.BarrierDestroy m) z c) same_ask
        (cases there.offset named.number named.word (slice_get s.barriers named.number) refl
        (e ∙ ap (λ n. barrier_destroyed (with_slot s i (Running there.frames)) there.offset n (slice_get s.barriers n)) named.object))
    go a same e = absurd same
