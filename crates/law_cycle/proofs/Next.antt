-- All threads of the machine move at once.
use Rattle.std.specs.Prelude.{Bool, true, false, nat_lt, ℤ}
use Rattle.std.proofs.Common.{◌≡◌, ℕ, ◌<◌, ◌≤◌, List, [], refl, ap, arith}
use Rattle.std.proofs.lemmas.Bool.Decides.{nat_tests}
use Rattle.std.proofs.lemmas.Bool.{ltb-true}
use Rattle.c_program.specs.Tree.{Program}
use Rattle.interleaving.specs.Memory.{Access}
use Rattle.planned_block.specs.Slot.{Slot}
use Rattle.bank_cores.specs.Machine.{ask_of}
use Rattle.verilog_meaning.specs.Cycles.{Choice}
use Rattle.circuit.specs.Wiring.{is_enabled}
use Rattle.leaf_machine.specs.Leaves.{leaf_thread}
use Rattle.leaf_machine.specs.Settled.{IsSlot}
use Rattle.law_banks.specs.Cycle.{Does}
use Rattle.law_banks.specs.Partition.{globals_of}
use Rattle.law_banks.proofs.Net.{net_holds}
use Rattle.law_cycle.specs.Thread.{Stands}
use Rattle.law_cycle.specs.Moved.{Moved}
use Rattle.law_cycle.specs.Built.{Parts, IsBuilt, thread_at}
use Rattle.law_cycle.specs.Bodies.{core_machine, core_count}
use Rattle.law_cycle.specs.Stage.{Stage, news, next_net, granted_to, asks_of, cores_shown}
use Rattle.law_cycle.specs.Going.{Goes}
use Rattle.law_cycle.specs.Laws.{Next, NetGoes}
use Rattle.law_cycle.proofs.Cores.{has_banks}
use Rattle.law_cycle.proofs.Steps.{banked, total_is, each_steps}
use Rattle.law_cycle.proofs.PlannedStep.{step_goes}

-- by number a value of each thread, and another one beyond
abbrev pick : {A : Type 0} (T i : ℕ) (c : Bool) → nat_lt i T ≡ c → (i < T → A) → A → A
pick T i true e f d = f (ltb-true i T e)
pick T i false e f d = d

pick_has : {A : Type 0} (T i : ℕ) (c : Bool) (e : nat_lt i T ≡ c) (f : i < T → A) (d : A) (Q : A → Type 0) → i < T → ((l : i < T) → Q (f l)) → Q (pick T i c e f d)
pick_has T i true e f d Q l all = all (ltb-true i T e)
pick_has T i false e f d Q l all = absurd (let n : T ≤ i = grind (arith, nat_tests) in omega (arith, n, l))

pick_beyond : {A : Type 0} (T i : ℕ) (c : Bool) (e : nat_lt i T ≡ c) (f : i < T → A) (d : A) → T ≤ i → pick T i c e f d ≡ d
pick_beyond T i true e f d l = absurd (let n : i < T = grind (arith, nat_tests) in omega (arith, n, l))
pick_beyond T i false e f d l = refl

-- what one thread leaves
pub record Went : Type 0 where
  pub next : Slot
  pub grant : ℕ → Bool
  pub made : List (Access ℤ)

module _ (P : Program) (K : Parts) (built : IsBuilt P K) (c : Choice) (h : Stage P K) where
  pub record HasGone (i : ℕ) (a : Went) : Type 0 where
    pub moved : Moved (thread_at P K i) (is_enabled c.mask i) (granted_to P K c h.net i) (news P K h.net i) h.memory (h.slots i) a.next
    pub does : Does K.spreads (globals_of P) (λ n. ask_of (asks_of P K c h.net i n)) (granted_to P K c h.net i) h.memory (h.slots i).words a.next.words a.made
    pub goes : Goes P K i (is_enabled c.mask i) (asks_of P K c h.net i) (granted_to P K c h.net i) h.memory (h.slots i) a.next a.grant a.made (cores_shown P K h.net h.out)
    pub fits : IsSlot (K.bodies i).body ((next_net P K c h.net).slots i)
    pub stands : Stands (thread_at P K i) ((next_net P K c h.net).slots i) a.next

  gone : (i : ℕ) → i < K.cores.threads → (a : Went) × HasGone i a
  gone i lt =
      let step = each_steps P K built c h i lt in
      let is = step_goes P K built c h i lt step in (
        record { next = step.next; grant = is.grant; made = is.made },
        record { moved = step.moved; does = is.does; goes = is.goes; fits = step.fits; stands = step.stands },
      )

  -- past the threads nothing happens
  abbrev stays : ℕ → Went
  stays i = record { next = h.slots i; grant = λ k. false; made = [] }

  abbrev went : ℕ → Went
  went i = pick K.cores.threads i (nat_lt i K.cores.threads) refl (λ l. (gone i l).0) (stays i)

  each : (i : ℕ) → i < K.cores.threads → HasGone i (went i)
  each i lt = pick_has K.cores.threads i (nat_lt i K.cores.threads) refl (λ l. (gone i l).0) (stays i) (HasGone i) lt (λ l. (gone i l).1)

  pub next : Next P K c h
  next = record {
    slots = λ i. (went i).next;
    grant = λ i. (went i).grant;
    made = λ i. (went i).made;
    moved = λ i lt. (each i lt).moved;
    goes = λ i lt. (each i lt).goes;
    beyond = λ i l. ap (λ (a : Went). a.next) (pick_beyond K.cores.threads i (nat_lt i K.cores.threads) refl (λ l. (gone i l).0) (stays i) l);
    fits = λ i lt. (each i lt).fits;
    stands = λ i lt. (each i lt).stands;
    holds = net_holds K.cores.threads (core_count K.cores) (λ i. leaf_thread (K.bodies i).body (K.bodies i).leaf) (core_machine K.cores) K.cores.banks
        (has_banks K.cores) K.spreads (globals_of P) (total_is P K built) c
        h.net (banked P K built) h.memory (λ i. (h.slots i).words) (λ i. (went i).next.words) (λ i. (went i).made) (λ i lt. (each i lt).does) h.holds;
  }

pub net_goes : NetGoes
net_goes P K built c h = next P K built c h
