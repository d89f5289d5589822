-- In the theory's words: a wake is a turn, whoever else is granted the core in that cycle; and a granted act, or main's return, is an act.
use Rattle.std.specs.Prelude.{Bool, true, false, nat_eq, if◌then◌else◌, Some, ℤ}
use Rattle.std.proofs.Common.{◌≡◌, ◌≢◌, ℕ, [], refl, sym, ap, ◌∙◌, subst, inr, ⊎_elim}
use Rattle.std.proofs.lemmas.Bool.{cases_eq}
use Rattle.hls_ints.specs.Residues.{residue_of}
use Rattle.c_program.specs.Tree.{Program}
use Rattle.c_program.specs.Weight.{bound}
use Rattle.interleaving.specs.Memory.{Location}
use Rattle.interleaving.specs.Hardware.{World, Hardware}
use Rattle.interleaving.specs.Cycle.{AreForThread, TurnsInCycle, ActsInCycle, ActsAlone}
use Rattle.block_ir.specs.declared.code.Act.{Act}
use Rattle.block_ir.specs.declared.code.Act.TheVariants as act
use Rattle.block_ir.specs.declared.code.Stage.TheVariants as stage
use Rattle.block_ir.specs.Asked.{act_value, Asked, asked, core_of, barrier_core, thread_ids_core}
use Rattle.block_refine.specs.Routines.{stage_at, rest_of}
use Rattle.planned_block.specs.Slot.{Slot}
use Rattle.planned_block.proofs.Bits.{other_is, same_is}
use Rattle.planned_block.specs.Hardware.{planned_hardware}
use Rattle.race_model.specs.Source.{Local, c_source}
use Rattle.thread_semantics.specs.State.{State}
use Rattle.code_following.specs.Following.{print_formats}
use Rattle.thread_promise.specs.Globals.{bank_of}
use Rattle.thread_promise.specs.Promise.{went_on}
use Rattle.thread_promise.specs.Moves.{stage_after, set_out}
use Rattle.law_threads.specs.Cores.{Core, may_grant, granted, status_in, argument_in, waits_in}
use Rattle.law_threads.proofs.KeptTold.{runners_stay, passers_stay}
use Rattle.law_threads.specs.Surroundings.{routine_of, Wakes, Sets_out, Goes_on, Requests, Returns, Acts, around, hardware_code}
use Rattle.law_cycle.specs.Built.{Parts}
use Rattle.law_cycle.specs.Bodies.{numbers_of}
use Rattle.law_cycle.specs.Laws.{CoreTurn, Stays, Given}

module _ (P : Program) (K : Parts) (chain : ℕ → ℕ → ℕ) where
  abbrev H : Hardware ℤ Local State Slot (ℕ → Core)
  H = planned_hardware (bank_of K.spreads) (hardware_code K.codes chain) (around P K.codes (numbers_of K.cores) K.cores.threads) (bound P)

  module _ (w v : World ℤ Slot (ℕ → Core)) (place_owner : Location → ℕ) (core_owner : ℕ → ℕ) (i : ℕ)
      (memory : (p : Location) → place_owner p ≡ i → v.memory p ≡ w.memory p) where
    abbrev q : Slot
    q = w.slots i

    -- ---- wakes

    module _ (cores : (k : ℕ) → CoreTurn P K w.cores v.cores core_owner k) (none : (k : ℕ) → core_owner k ≢ i) where
      -- a core that thread i does not own, before the cycle or after it, says what it said
      seen : (c : ℕ → Core) → AreForThread (c_source P) H w v place_owner core_owner i c → (Q : Core → Type 0) (k : ℕ) → Q (w.cores k) →
          ((a : Asked) → may_grant (w.cores k) (core_owner k) a ≡ true → Q (granted K.cores.threads (print_formats P) (w.cores k) (core_owner k) a)) → Q (c k)
      seen c are Q k old new =
          ⊎_elim
          (λ same. subst Q (sym same) old)
          (λ other. subst Q (sym other.1) (after (cores k)))
          (are k)
        where
          after : CoreTurn P K w.cores v.cores core_owner k → Q (v.cores k)
          after (Stays same) = subst Q (sym same) old
          after (Given a may is) = subst Q (sym is) (new a may)

      wakes_on : (c : ℕ → Core) → AreForThread (c_source P) H w v place_owner core_owner i c → Wakes P K.codes (numbers_of K.cores) K.cores.threads w.cores i q (v.slots i) →
          Wakes P K.codes (numbers_of K.cores) K.cores.threads c i q (v.slots i)
      wakes_on c are (Sets_out thread below at status slot) =
          let thread_ids = thread_ids_core (numbers_of K.cores) in
          let told : (status_in (c thread_ids) i ≡ 1) × (argument_in (c thread_ids) i ≡ argument_in (w.cores thread_ids) i) =
          seen c are (λ k. (status_in k i ≡ 1) × (argument_in k i ≡ argument_in (w.cores thread_ids) i)) thread_ids (status, refl)
          (λ a may. runners_stay K.cores.threads (print_formats P) (w.cores thread_ids) i (core_owner thread_ids) a (λ e. none thread_ids (sym e)) may status) in
          Sets_out thread below at told.0 (slot ∙ ap (λ z. set_out (K.codes q.routine).code.argument z q) (sym told.1))
      wakes_on c are (Goes_on l next b at listed bit slot) =
          let k = barrier_core (numbers_of K.cores) (residue_of 64 (act_value q.variables b)) in
          Goes_on l next b at listed
          (seen c are (λ z. waits_in z i ≡ false) k bit (λ a may. passers_stay K.cores.threads (print_formats P) (w.cores k) i (core_owner k) a (λ e. none k (sym e)) bit)) slot

      -- A WAKE IS A TURN
      pub wakes_in_cycle : Wakes P K.codes (numbers_of K.cores) K.cores.threads w.cores i q (v.slots i) → TurnsInCycle (c_source P) H w v place_owner core_owner i
      wakes_in_cycle wakes = record {
        accesses = [];
        turn = λ M c agree are. inr (refl, wakes_on c are wakes);
        own = λ p touch. absurd touch;
        memory = memory;
        cores = λ k own. absurd (none k own);
      }

      -- MAIN'S RETURN IS AN ACT
      pub returns_in_cycle : i ≡ 0 → (next : ℕ) → stage_at K.codes q.routine q.stage ≡ Some (stage.Act act.Return next) → v.slots i ≡ went_on (rest_of K.codes q.routine) q →
          ActsInCycle (c_source P) H w v place_owner core_owner i
      returns_in_cycle main next listed slot = record { act = acts; memory = memory }
        where
          acts : (b d : World ℤ Slot (ℕ → Core)) → ActsAlone (c_source P) H w v place_owner core_owner i b d → Acts P K.codes (numbers_of K.cores) K.cores.threads b i d
          acts b d alone = record {
            act = Returns main next (ap (λ (z : Slot). stage_at K.codes z.routine z.stage) alone.old_slot ∙ listed)
                (alone.new_slot ∙ slot ∙ ap (λ (z : Slot). went_on (rest_of K.codes z.routine) z) (sym alone.old_slot)) (λ j. alone.cores j (none j));
            others = alone.slots;
            memory = alone.memory;
          }

    -- ---- acts

    -- A GRANT IS AN ACT
    pub acts_in_cycle : (a : Act) (next k : ℕ) (ask : Asked) → q.routine ≡ routine_of P i → stage_at K.codes q.routine q.stage ≡ Some (stage.Act a next) →
        asked (nat_eq i 0) a q.variables ≡ Some ask → core_of (numbers_of K.cores) ask ≡ Some k → core_owner k ≡ i → ((j : ℕ) → core_owner j ≡ i → j ≡ k) →
        may_grant (w.cores k) i ask ≡ true → v.cores k ≡ granted K.cores.threads (print_formats P) (w.cores k) i ask →
        v.slots i ≡ went_on (stage_after (rest_of K.codes q.routine) q.stage a next) q → ActsInCycle (c_source P) H w v place_owner core_owner i
    acts_in_cycle a next k ask own listed asks core owned only may is slot = record { act = acts; memory = memory }
      where
        acts : (b d : World ℤ Slot (ℕ → Core)) → ActsAlone (c_source P) H w v place_owner core_owner i b d → Acts P K.codes (numbers_of K.cores) K.cores.threads b i d
        acts b d alone = record {
          act =
              Requests a next k ask (ap (λ (z : Slot). z.routine) alone.old_slot ∙ own)
              (ap (λ (z : Slot). stage_at K.codes z.routine z.stage) alone.old_slot ∙ listed)
              (ap (λ (z : Slot). asked (nat_eq i 0) a z.variables) alone.old_slot ∙ asks)
              core
              (ap (λ (z : Core). may_grant z i ask) old ∙ may)
              (alone.new_slot ∙ slot ∙ ap (λ (z : Slot). went_on (stage_after (rest_of K.codes z.routine) z.stage a next) z) (sym alone.old_slot))
              changed;
          others = alone.slots;
          memory = alone.memory;
        }
          where
            old : b.cores k ≡ w.cores k
            old = ⊎_elim (λ same. same) (λ other. absurd (other.0 owned)) (alone.old_cores k)

            changed : (j : ℕ) → d.cores j ≡ (if nat_eq j k then granted K.cores.threads (print_formats P) (b.cores j) i ask else b.cores j)
            changed j =
                ⊎_elim
                (λ same.
                subst (λ z. d.cores z ≡ (if nat_eq z k then granted K.cores.threads (print_formats P) (b.cores z) i ask else b.cores z)) (sym same)
                (alone.new_cores k owned ∙ is ∙ ap (λ z. granted K.cores.threads (print_formats P) z i ask) (sym old)
                ∙ sym (ap (λ (x : Bool). if x then granted K.cores.threads (print_formats P) (b.cores k) i ask else b.cores k) (same_is k k refl))))
                (λ ne.
                alone.cores j (λ e. ne (only j e))
                ∙ sym (ap (λ (x : Bool). if x then granted K.cores.threads (print_formats P) (b.cores j) i ask else b.cores j) (other_is j k ne)))
                (cases_eq j k)
