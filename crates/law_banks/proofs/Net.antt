-- A step of a net of T threads whose first cores are the banks is a cycle of the banks.
use Rattle.std.specs.Prelude.{true, Option, Some, slice_get, ℤ, pos}
use Rattle.std.specs.List.{AllByRecursion}
use Rattle.std.proofs.Common.{◌≡◌, ℕ, ◌<◌, List, length, sym, ◌∙◌, arith}
use Rattle.hls_ints.specs.Types.{IntegerType}
use Rattle.interleaving.specs.Memory.{Memory, Access}
use Rattle.c_program.specs.Tree.{Program}
use Rattle.c_program.specs.Resolved.{IsGlobal}
use Rattle.thread_semantics.specs.State.{start as begin}
use Rattle.race_model.specs.Source.{memory_of}
use Rattle.bank_partition.specs.declared.banks.Spread.{Spread}
use Rattle.bank_cores.specs.declared.bank.Shape.{Shape as Bank}
use Rattle.bank_cores.specs.Machine.{Words, ask_of}
use Rattle.circuit.specs.Arbitration.{is_granted}
use Rattle.circuit.specs.Machines.{CoreMachine, ThreadMachine}
use Rattle.circuit.specs.Wiring.{NetState, preference, is_enabled, asked, won, stepped, start}
use Rattle.circuit.proofs.Arbitration.{granted_below}
use Rattle.verilog_meaning.specs.Cycles.{Choice}
use Rattle.thread_promise.specs.Globals.{bank_total}
use Rattle.law_banks.specs.Memory.{Holds}
use Rattle.law_banks.specs.Cycle.{AreBanked, Does, CyclesBanks, memory_next}
use Rattle.law_banks.specs.Partition.{globals_of, ArePartitioned}
use Rattle.law_banks.specs.Net.{HasBanks}
use Rattle.law_banks.proofs.BankChanges.{bank_changes}
use Rattle.law_banks.proofs.Partitioned.{there, start_holds}

-- ---- a step of the net

module _ (T K : ℕ) (threads : ℕ → ThreadMachine) (C : ℕ → CoreMachine) (banks : List Bank) (has : HasBanks banks C) (spreads : List Spread) (globals : List IntegerType)
    (all : bank_total spreads ≡ length banks) (c : Choice) (h : NetState T K threads C) where
  -- what thread i asks of core n
  abbrev pub numbers : ℕ → ℕ → ℕ → ℕ
  numbers n i j = (threads i).asks (is_enabled c.mask i) (h.slots i) n j

  abbrev pub winner : ℕ → Option ℕ
  winner = won T K threads C c h

  abbrev pub held : ℕ → Words
  held n = has.words n (h.states n)

  abbrev pub next_held : ℕ → Words
  next_held n = has.words n ((stepped T K threads C c h).states n)

  bank_here : (n : ℕ) → n < bank_total spreads → (b : Bank) × (slice_get banks n ≡ Some b)
  bank_here n l = there banks n (omega (arith, l, all))

  won_below : (n i : ℕ) → winner n ≡ Some i → (i < T) × ((C n).eligible (h.states n) i (asked T K threads C c h n i) ≡ true)
  won_below n i e = granted_below T (preference c n) (λ m. (C n).eligible (h.states n) m (asked T K threads C c h n m)) i e

  -- NET CYCLES: where each thread does with the banks what its block says, the step is a cycle of the banks
  pub net_cycles : (memory : Memory ℤ) (words next_words : ℕ → ℕ → ℤ) (made : ℕ → List (Access ℤ)) →
      ((i : ℕ) → i < T → Does spreads globals (λ n. ask_of (numbers n i)) (λ n. is_granted (winner n) i) memory (words i) (next_words i) (made i)) →
      CyclesBanks spreads globals T (λ n i. ask_of (numbers n i)) winner held next_held memory words next_words made
  net_cycles memory words next_words made does = record {
    within = λ n i e. (won_below n i e).0;
    winners = λ n i l e. (let b = bank_here n l in sym (has.asks n b.0 (h.states n) i (numbers n i) b.1) ∙ (won_below n i e).1);
    moves = λ n l. (let b = bank_here n l in has.moves n b.0 (h.states n) (numbers n) (winner n) b.1);
    does = does;
  }

  -- NET HOLDS: and keeps that the banks hold the memory
  pub net_holds : AreBanked spreads globals → (memory : Memory ℤ) (words next_words : ℕ → ℕ → ℤ) (made : ℕ → List (Access ℤ)) →
      ((i : ℕ) → i < T → Does spreads globals (λ n. ask_of (numbers n i)) (λ n. is_granted (winner n) i) memory (words i) (next_words i) (made i)) →
      Holds spreads globals T held memory words → Holds spreads globals T next_held (memory_next spreads made winner memory) next_words
  net_holds banked memory words next_words made does holds =
      bank_changes spreads globals T (λ n i. ask_of (numbers n i)) winner held next_held memory words next_words made banked
      (net_cycles memory words next_words made does) holds

-- at the start of the net of a program
pub net_starts : (P : Program) (T K : ℕ) (threads : ℕ → ThreadMachine) (C : ℕ → CoreMachine) (banks : List Bank) (has : HasBanks banks C) (spreads : List Spread) →
    ArePartitioned P T spreads banks → AllByRecursion IsGlobal P.globals →
    Holds spreads (globals_of P) T (λ n. has.words n ((start T K threads C).states n)) (memory_of (begin P).globals) (λ i n. pos 0)
net_starts P T K threads C banks has spreads banked all =
    start_holds P T spreads banks (λ n. has.words n ((start T K threads C).states n)) banked all (λ n b e. has.starts n b e)
