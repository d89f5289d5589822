-- The slot of a thread is what its instance holds: a cycle leaves it exactly where the machine's step does.
use Rattle.std.proofs.Common.{◌≡◌, ℕ, ◌<◌, List, [], ◌∷◌, ◌++◌, length, Some, slice_get, sym, ap, ◌∙◌, subst}
use Rattle.law_net.proofs.AgreedReadings.{agree_on, agree_back}
use Rattle.c_program.specs.Tree.{Program}
use Rattle.netlist.specs.declared.netlist.Signal.{Signal}
use Rattle.netlist.specs.declared.netlist.Memory.{Memory}
use Rattle.netlist.specs.declared.netlist.Module.{Module}
use Rattle.verilog_meaning.specs.Cycles.{Path, Valuation, Choice, IsAt, HasMemory, IsRegister, IsSameIn, Cycle}
use Rattle.verilog_meaning.specs.Threads.{IsSameSlot, ChangesSlot}
use Rattle.circuit.specs.Modules.{Agree}
use Rattle.circuit.proofs.Staged.{no_deeper}
use Rattle.law_cycle.specs.Built.{Parts, Machine}
use Rattle.law_net.specs.Follows.{next_machine, Changes}
use Rattle.law_net.specs.Whole.{IsWhole}
use Rattle.law_net.proofs.Cycles.{Shows, cycle_shows}

module _ (P : Program) (K : Parts) (modules : List Module) (top : Module) (whole : IsWhole P K modules top) where
  -- ---- what the instance of thread i holds

  module _ (i : ℕ) (lt : i < K.cores.threads) where
    abbrev m : Module
    m = (K.bodies i).body

    abbrev place : ℕ
    place = whole.at.thread i

    slot_register : (h g : Valuation) → Agree m (h (place ∷ [])) (g (place ∷ [])) → (path : Path) (k : Module) (x : ℕ) (s : Signal) →
        IsAt modules top (path ++ place ∷ []) k x s → IsRegister s.source → (h (path ++ place ∷ [])).signal x ≡ (g (path ++ place ∷ [])).signal x
    slot_register h g a [] k x s at is =
        let one : Some k ≡ Some m = sym at.stands ∙ whole.runs i lt in
        let same : k ≡ m = cc in
        a.registers x s (ap (λ (z : Module). slice_get z.signals x) (sym same) ∙ at.listed) is
    slot_register h g a (p ∷ []) k x s at is = absurd (no_deeper modules top whole.stages whole.staged p place [] k at.stands)
    slot_register h g a (p ∷ q ∷ path) k x s at is = absurd (no_deeper modules top whole.stages whole.staged p q (path ++ place ∷ []) k at.stands)

    slot_word : (h g : Valuation) → Agree m (h (place ∷ [])) (g (place ∷ [])) → (path : Path) (k : Module) (j n : ℕ) (s : Memory) →
        HasMemory modules top (path ++ place ∷ []) k j s → n < length s.initial → (h (path ++ place ∷ [])).word j n ≡ (g (path ++ place ∷ [])).word j n
    slot_word h g a [] k j n s at l =
        let one : Some k ≡ Some m = sym at.stands ∙ whole.runs i lt in
        let same : k ≡ m = cc in
        a.words j n s (ap (λ (z : Module). slice_get z.memories j) (sym same) ∙ at.listed) l
    slot_word h g a (p ∷ []) k j n s at l = absurd (no_deeper modules top whole.stages whole.staged p place [] k at.stands)
    slot_word h g a (p ∷ q ∷ path) k j n s at l = absurd (no_deeper modules top whole.stages whole.staged p q (path ++ place ∷ []) k at.stands)

    same_slot : (h g : Valuation) → Agree m (h (place ∷ [])) (g (place ∷ [])) → IsSameSlot modules top K.cores.threads i h g
    same_slot h g a =
        subst (λ path. IsSameIn modules top path h g) (sym (whole.named i lt)) (record {
          registers = slot_register h g a;
          words = slot_word h g a;
        })

    slot_agrees : (h g : Valuation) → IsSameSlot modules top K.cores.threads i h g → Agree m (h (place ∷ [])) (g (place ∷ []))
    slot_agrees h g same =
        let there = subst (λ path. IsSameIn modules top path h g) (whole.named i lt) same in
        record {
          registers = λ x s e is. there.registers [] m x s (record { stands = whole.runs i lt; listed = e }) is;
          words = λ j k s e l. there.words [] m j k s (record { stands = whole.runs i lt; listed = e }) l;
        }

  -- ---- a cycle from a state that shows one of the machine

  module _ (h g : Valuation) (c : Choice) (out : List ℕ) (s : Machine K) (cycle : Cycle modules top h c g out) (shown : Shows P K modules top whole h s) where
    module _ (i : ℕ) (lt : i < K.cores.threads) where
      abbrev body : Module
      body = (K.bodies i).body

      abbrev path : Path
      path = whole.at.thread i ∷ []

      before : Agree body (s.slots i) (h path)
      before = shown.slots i lt

      after_it : Agree body ((next_machine K s c).slots i) (g path)
      after_it = (cycle_shows P K modules top whole h g c out s cycle shown).slots i lt

      still_of_same : IsSameSlot modules top K.cores.threads i h g → Agree body (s.slots i) ((next_machine K s c).slots i)
      still_of_same same =
          let next = (next_machine K s c).slots i in
          agree_on body (s.slots i) (h path) next before
          (agree_on body (h path) (g path) next (slot_agrees i lt h g same) (agree_back body next (g path) after_it))

      same_of_still : Agree body (s.slots i) ((next_machine K s c).slots i) → IsSameSlot modules top K.cores.threads i h g
      same_of_still still =
          let next = (next_machine K s c).slots i in
          same_slot i lt h g
          (agree_on body (h path) next (g path) (agree_on body (h path) (s.slots i) next (agree_back body (s.slots i) (h path) before) still) after_it)

    pub changes : Changes K s c → ChangesSlot modules top K.cores.threads h g
    changes moves = (moves.0, moves.1, λ same. moves.2 (still_of_same moves.0 moves.1 same))

    pub changed : ChangesSlot modules top K.cores.threads h g → Changes K s c
    changed moves = (moves.0, moves.1, λ still. moves.2 (same_of_still moves.0 moves.1 still))
