-- WHO WINS: who is granted a core asks it.
use Rattle.std.specs.Prelude.{Bool, true, false, nat_lt, Option, Some, None, slice_get, ℤ}
use Rattle.std.proofs.Common.{◌≡◌, ◌≢◌, ℕ, ◌<◌, ◌≤◌, ◌⊎◌, length, refl, sym, ap, ◌∙◌, subst, inl, inr, ⊎_elim, arith}
use Rattle.std.proofs.lemmas.Bool.Decides.{nat_tests}
use Rattle.std.proofs.lemmas.Bool.{cases_eq}
use Rattle.c_program.specs.Tree.{Program}
use Rattle.block_ir.specs.declared.code.Act.{Act}
use Rattle.block_ir.specs.declared.code.Stage.{Stage as CodeStage}
use Rattle.block_ir.specs.declared.code.Stage.TheVariants as stage
use Rattle.block_ir.specs.Asked.{Asked, asked, Numbers, core_of}
use Rattle.block_refine.specs.Routines.{stage_at}
use Rattle.planned_block.specs.Slot.{Slot}
use Rattle.verilog_meaning.specs.Cycles.{Choice}
use Rattle.circuit.specs.Wiring.{preference, is_enabled, asked as asked_of}
use Rattle.circuit.proofs.Arbitration.{granted_below}
use Rattle.leaf_machine.specs.Leaves.{leaf_thread}
use Rattle.thread_promise.specs.Promise.{is_run}
use Rattle.thread_promise.specs.Moves.{asked_in, core_asked}
use Rattle.thread_promise.specs.Serving.{IsActCore}
use Rattle.law_threads.specs.Surroundings.{routine_of}
use Rattle.core_family.specs.Family.{CoreKind, machine_of}
use Rattle.core_family.proofs.OffersToAskers.{each_waits}
use Rattle.law_cycle.specs.Thread.{Thread}
use Rattle.law_cycle.specs.Asks.{AsksAct}
use Rattle.law_cycle.specs.Built.{Parts, IsBuilt, thread_at}
use Rattle.law_cycle.specs.Bodies.{numbers_of, core_at, core_machine, core_count}
use Rattle.law_cycle.specs.Stage.{Stage, StepOf, winner, asks_of}
use Rattle.law_cycle.specs.Laws.{Wins, WinsBank, WinsCore, WhoWins}
use Rattle.core_family.proofs.Listed.{none_past}
use Rattle.law_cycle.proofs.Steps.{banked, total_is, each_steps}
use Rattle.law_cycle.proofs.Banks.{bit_on, asks_in_block}

-- ---- acts

-- a stage that asks a core is an act
act_of : (N : Numbers) (main : Bool) (variables : ℕ → ℤ) (o : Option CodeStage) (k : ℕ) → core_asked N (asked_in main o variables) ≡ Some k →
    (a : Act) × (next : ℕ) × (asks : Asked) × (o ≡ Some (stage.Act a next)) × (asked main a variables ≡ Some asks) × (core_of N asks ≡ Some k)
act_of N main variables None k e = absurd cc
act_of N main variables (Some (stage.Run b)) k e = absurd cc
act_of N main variables (Some (stage.Act a next)) k e = by (asked main a variables) refl e
  where
    by : (u : Option Asked) → asked main a variables ≡ u → core_asked N u ≡ Some k →
        (d : Act) × (m : ℕ) × (asks : Asked) × (Some (stage.Act a next) ≡ Some (stage.Act d m)) × (asked main d variables ≡ Some asks) × (core_of N asks ≡ Some k)
    by None same names = absurd cc
    by (Some asks) same names = (a, next, asks, refl, same, names)

names_or : (o : Option ℕ) (k : ℕ) → (o ≡ Some k) ⊎ (o ≢ Some k)
names_or None k = inr (λ e. cc)
names_or (Some m) k = ⊎_elim (λ (e : m ≡ k). inl (ap Some e)) (λ (ne : m ≢ k). inr (λ e. let same : m ≡ k = cc in ne same)) (cases_eq m k)

-- ---- past the cores nobody is granted anything

none_may : (o : Option CoreKind) → o ≡ None → (s : (machine_of o).State) (i : ℕ) (f : ℕ → ℕ) → (machine_of o).eligible s i ((machine_of o).ask_of f) ≡ false
none_may None e s i f = refl
none_may (Some c) e s i f = absurd cc

module _ (P : Program) (K : Parts) (built : IsBuilt P K) (c : Choice) (h : Stage P K) (k i : ℕ) (e : winner P K c h.net k ≡ Some i) where
  abbrev t : Thread
  t = thread_at P K i

  abbrev q : Slot
  q = h.slots i

  abbrev may : ℕ → Bool
  may m = (core_machine K.cores k).eligible (h.net.states k) m (asked_of K.cores.threads (core_count K.cores) (λ i. leaf_thread (K.bodies i).body (K.bodies i).leaf) (core_machine K.cores) c h.net k m)

  -- it is one of the threads, and may be granted the core
  pub won_by : (i < K.cores.threads) × (may i ≡ true)
  won_by = granted_below K.cores.threads (preference c k) may i e

  pub raised : asks_of P K c h.net i k 0 ≢ 0
  raised zero =
      let off = (each_waits (core_at K.cores k)).asked (h.net.states k) i (λ j. asks_of P K c h.net i k j) zero in
      let z : true ≡ false = sym won_by.1 ∙ off in cc

  pub a_core : k < core_count K.cores
  a_core = by (nat_lt k (core_count K.cores)) refl
    where
      by : (b : Bool) → nat_lt k (core_count K.cores) ≡ b → k < core_count K.cores
      by true u = grind (arith, nat_tests)
      by false u =
          let past : core_count K.cores ≤ k = grind (arith, nat_tests) in
          let off = none_may (core_at K.cores k) (none_past K.cores k past) (h.net.states k) i (λ j. asks_of P K c h.net i k j) in
          absurd (let z : true ≡ false = sym won_by.1 ∙ off in cc)

  own : q.routine ≡ routine_of P i
  own = (h.stands i won_by.0).own

  step : StepOf P K c h i
  step = each_steps P K built c h i won_by.0

  of_bank : k < length K.cores.banks → Wins P K c h k i
  of_bank bank =
      let a =
      asks_in_block t (banked P K built) (total_is P K built) (is_enabled c.mask i) q (asks_of P K c h.net i) step.asks (h.net.slots i) (h.stands i won_by.0).at k bank raised in
      WinsBank bank a.0 (ap (λ (f : ℕ). is_run (stage_at K.codes f q.stage)) own ∙ a.1)

  of_act : IsActCore (numbers_of K.cores) k → Wins P K c h k i
  of_act core =
      ⊎_elim
      (λ (names : core_asked (numbers_of K.cores) (asked_in t.main (slice_get t.code.stages q.stage) q.variables) ≡ Some k).
      let a = act_of (numbers_of K.cores) t.main q.variables (slice_get t.code.stages q.stage) k names in
      let asks = step.asks.core k a.2 (ap (λ (o : Option CodeStage). asked_in t.main o q.variables) a.3 ∙ a.4) a.5 in
      let on = bit_on (is_enabled c.mask i) (λ z. raised (asks.raised ∙ z)) in
      WinsCore core on a.0 a.1 a.2 (ap (λ (f : ℕ). stage_at K.codes f q.stage) own ∙ a.3) a.4 a.5
      (subst (λ b. AsksAct (asks_of P K c h.net i k) b (core_machine K.cores k).parts a.2) on asks))
      (λ (other : core_asked (numbers_of K.cores) (asked_in t.main (slice_get t.code.stages q.stage) q.variables) ≢ Some k). absurd (raised (step.asks.no_core k core other)))
      (names_or (core_asked (numbers_of K.cores) (asked_in t.main (slice_get t.code.stages q.stage) q.variables)) k)

  wins : Wins P K c h k i
  wins = by (nat_lt k (length K.cores.banks)) refl
    where
      by : (b : Bool) → nat_lt k (length K.cores.banks) ≡ b → Wins P K c h k i
      by true u = of_bank (let l : k < length K.cores.banks = grind (arith, nat_tests) in l)
      by false u = of_act ((let l : length K.cores.banks ≤ k = grind (arith, nat_tests) in l), a_core)

pub who_wins : WhoWins
who_wins P K built c h k i e = ((won_by P K built c h k i e).0, wins P K built c h k i e)
