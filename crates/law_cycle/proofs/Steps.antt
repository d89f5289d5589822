-- The threads of what is built, and a step of each.
use Rattle.std.specs.Prelude.{Bool, true, false, nat_eq, nat_lt, Option, Some, slice_get, slice_index}
use Rattle.std.proofs.Common.{◌≡◌, ℕ, ◌+◌, ◌^◌, ◌<◌, ◌≤◌, length, refl, sym, ap, ◌∙◌, subst, arith}
use Rattle.std.proofs.lemmas.Bool.Decides.{nat_tests}
use Rattle.bank_cores.specs.declared.bank.Shape.{Shape as BankShape}
use Rattle.c_program.specs.Tree.{Program}
use Rattle.verilog_meaning.specs.Cycles.{Choice}
use Rattle.circuit.specs.Wiring.{is_enabled}
use Rattle.leaf_machine.proofs.Leaves.{leaf_keeps_slots}
use Rattle.thread_promise.specs.Globals.{bank_total}
use Rattle.block_ir.specs.Asked.{barrier_core, thread_ids_core}
use Rattle.block_refine.specs.Routines.{rest_of}
use Rattle.law_threads.specs.Surroundings.{routine_of}
use Rattle.core_family.specs.Family.{CoreKind, Barrier, ThreadIds, machine_of, ask_width, told_width}
use Rattle.core_family.proofs.ToldFits.{each_keeps_fitting}
use Rattle.law_banks.specs.Cycle.{AreBanked}
use Rattle.law_banks.specs.Partition.{globals_of}
use Rattle.law_banks.proofs.Partitioned.{there, total, some_banks, bank_below, partition_is_banked, words_fit}
use Rattle.law_cycle.specs.Thread.{Thread, IsThread, AreWide, IsNews}
use Rattle.law_cycle.specs.Steps.{Fits}
use Rattle.law_cycle.proofs.ThreadSteps.{thread_steps, thread_is_done}
use Rattle.law_cycle.specs.Built.{Parts, IsBuilt, thread_at}
use Rattle.law_cycle.specs.Bodies.{numbers_of, core_at, core_machine, core_count}
use Rattle.law_cycle.specs.Stage.{Stage, held, news, asks_of, granted_to}
use Rattle.law_cycle.specs.Laws.{BuiltAreThreads, ThreadsAreDone, EachSteps}
use Rattle.law_cycle.proofs.BodiesFit.{body_fits, body_ports}
use Rattle.law_cycle.proofs.Cores.{has_banks, takes_two}
use Rattle.core_family.proofs.Listed.{bank_at, barrier_at, thread_ids_at, core_there}

module _ (P : Program) (K : Parts) (built : IsBuilt P K) where
  pub banked : AreBanked K.spreads (globals_of P)
  banked = partition_is_banked P K.cores.threads K.spreads K.cores.banks built.banked

  pub total_is : bank_total K.spreads ≡ length K.cores.banks
  total_is = total P K.cores.threads K.spreads K.cores.banks built.banked

  -- ---- threads

  four : (n : ℕ) → n < length K.cores.banks → (core_machine K.cores n).parts ≡ 4
  four n l = let b = there K.cores.banks n l in (has_banks K.cores).parts n b.0 b.1

  one : (n : ℕ) → n < length K.cores.banks → (core_machine K.cores n).told ≡ 1
  one n l = let b = there K.cores.banks n l in (has_banks K.cores).told n b.0 b.1

  two : (k : ℕ) → k < core_count K.cores → 1 < (core_machine K.cores k).parts
  two k l = let s = core_there K.cores k l in subst (λ (o : Option CoreKind). 1 < (machine_of o).parts) (sym s.1) (takes_two s.0)

  wide : (i : ℕ) → AreWide (thread_at P K i)
  wide i = record {
    bank_asks = λ n l. let e = four n l in omega (arith, e);
    bank_tells = λ n l. let e = one n l in omega (arith, e);
    core_asks = λ k a. two k a.1;
    barrier_tells = λ n l. let e = ap (λ (o : Option CoreKind). (machine_of o).told) (barrier_at K.cores n l) in omega (arith, e);
    ids_tell = λ on. let e = ap (λ (o : Option CoreKind). (machine_of o).told) (thread_ids_at K.cores on) in omega (arith, e);
  }

  -- a thread besides main needs the core of the thread ids
  pub thread_ids_there : (i : ℕ) → i < K.cores.threads → nat_eq i 0 ≡ false → K.cores.thread_ids ≡ true
  thread_ids_there i lt other =
      let many : 1 < K.cores.threads = grind (arith, nat_tests) in
      built.thread_ids ∙ (let t : nat_lt 1 K.cores.threads ≡ true = grind (arith, nat_tests) in t)

  pub is_thread : (i : ℕ) → i < K.cores.threads → IsThread (thread_at P K i)
  is_thread i lt =
      let m = (built.bodies i lt).1 in
      let code = built.codes (routine_of P i) in
      record {
        runs = m.runs (routine_of P i);
        leads = code.leads;
        planned = code.planned;
        ports = body_ports P K built i lt;
        wide = wide i;
        spread = record {
          total = total_is;
          some = some_banks P K.cores.threads K.spreads K.cores.banks built.banked;
          below = λ x n s e l. bank_below P K.cores.threads K.spreads K.cores.banks built.banked x n s e l;
        };
        thread_ids = thread_ids_there i lt;
      }

  -- ---- what they are told

  module _ (h : Stage P K) (i : ℕ) (lt : i < K.cores.threads) where
    abbrev t : Thread
    t = thread_at P K i

    -- what a bank tells is the word that it keeps
    bank_tells : (n : ℕ) (b : BankShape) (j : ℕ) → slice_get K.cores.banks n ≡ Some b → news P K h.net i n j ≡ slice_index (held P K h.net n).kept i
    bank_tells n b j e = (has_banks K.cores).tells n b (h.net.states n) i j e

    -- a told number is of its width
    fits_told : (k j : ℕ) → j < (core_machine K.cores k).told → news P K h.net i k j < 2 ^ told_width (core_at K.cores k) j
    fits_told k j jl = by (nat_lt k (length K.cores.banks)) refl
      where
        by : (c : Bool) → nat_lt k (length K.cores.banks) ≡ c → news P K h.net i k j < 2 ^ told_width (core_at K.cores k) j
        by true e =
            let b = there K.cores.banks k (let l : k < length K.cores.banks = grind (arith, nat_tests) in l) in
            subst (λ (o : Option CoreKind). news P K h.net i k j < 2 ^ told_width o j) (sym (bank_at K.cores k b.0 b.1))
            (subst (λ (n : ℕ). n < 2 ^ b.0.width) (sym (bank_tells k b.0 j b.1))
            (words_fit P K.cores.threads K.spreads K.cores.banks (held P K h.net) h.memory (λ i. (h.slots i).words) built.banked h.holds i k b.0 lt b.1))
        by false e =
            (each_keeps_fitting (core_at K.cores k)).tells (h.net.states k) (h.told k (let l : length K.cores.banks ≤ k = grind (arith, nat_tests) in l)) i j jl

    pub fits : Fits t (news P K h.net i)
    fits =
        let f = body_fits P K built i lt in
        record {
          enable = f.enable;
          grants = λ k l u. f.grants k l;
          tells = λ k j l u jl. (told_width (core_at K.cores k) j, f.tells k j l jl, fits_told k j jl);
        }

    -- a core that tells one bit
    bit_told : (k : ℕ) (s : CoreKind) → core_at K.cores k ≡ Some s → 0 < (machine_of (Some s)).told → told_width (Some s) 0 ≡ 1 → news P K h.net i k 0 < 2
    bit_told k s e some bit =
        let w = fits_told k 0 (subst (λ (o : Option CoreKind). 0 < (machine_of o).told) (sym e) some) in
        subst (λ (n : ℕ). news P K h.net i k 0 < 2 ^ n) (ap (λ (o : Option CoreKind). told_width o 0) e ∙ bit) w

    pub is_news : IsNews t (news P K h.net i) (h.slots i)
    is_news = record {
      words = λ x n s ty at type l.
          let b = there K.cores.banks (s.first + n) (bank_below P K.cores.threads K.spreads K.cores.banks built.banked x n s at l) in
          bank_tells (s.first + n) b.0 0 b.1 ∙ h.holds.kept i x n s ty lt at type l;
      typed = λ x n s ty at type l. h.holds.kept_typed i x n s ty lt at type l;
      waits = λ n l. bit_told (barrier_core (numbers_of K.cores) n) (Barrier (record { threads = K.cores.threads })) (barrier_at K.cores n l) (omega arith) refl;
      runs = λ on. bit_told (thread_ids_core (numbers_of K.cores)) (ThreadIds (record { threads = K.cores.threads })) (thread_ids_at K.cores on) (omega arith) refl;
    }

    -- ---- what they ask

    pub asks_fit : (c : Choice) (k j : ℕ) → k < core_count K.cores → j < (core_machine K.cores k).parts → asks_of P K c h.net i k j < 2 ^ ask_width (core_at K.cores k) j
    asks_fit c k j l jl =
        let m = (built.bodies i lt).1 in
        let keeps = leaf_keeps_slots (K.bodies i).body (K.bodies i).inputs (K.bodies i).leaf (core_count K.cores) (λ k. (core_machine K.cores k).parts) (λ k. (core_machine K.cores k).told) m.leaf in
        let go = keeps.through (h.net.slots i) (is_enabled c.mask i) (granted_to P K c h.net i) (news P K h.net i) (h.fits i lt) fits in
        let has = (body_fits P K built i lt).asks k j l jl in
        subst (λ (n : ℕ). asks_of P K c h.net i k j < 2 ^ n) has.wide
        (subst (λ (n : ℕ). n < 2 ^ has.signal.width) (sym (go.1.asks k j l ((body_ports P K built i lt).uses k l) jl)) (go.1.obeys.within ((K.bodies i).leaf.ask k j) has.signal has.listed))

pub built_are_threads : BuiltAreThreads
built_are_threads P K built i lt = is_thread P K built i lt

pub each_steps : EachSteps
each_steps P K built c h i lt =
    thread_steps (thread_at P K i) (K.bodies i).inputs (h.net.slots i) (is_enabled c.mask i) (granted_to P K c h.net i) (news P K h.net i) h.memory (h.slots i) (is_thread P K built i lt)
    (built.bodies i lt).1.leaf (h.fits i lt) (fits P K built h i lt) (is_news P K built h i lt) (h.stands i lt)

pub threads_are_done : ThreadsAreDone
threads_are_done P K built h i lt =
    let m = (built.bodies i lt).1 in
    thread_is_done (thread_at P K i) (K.bodies i).inputs (h.net.slots i) (news P K h.net i) (h.slots i) (is_thread P K built i lt) m.leaf m.done (h.fits i lt) (fits P K built h i lt)
    (h.stands i lt)
    ∙ ap (λ (f : ℕ). nat_eq (h.slots i).stage (rest_of K.codes f)) (sym (h.stands i lt).own)
