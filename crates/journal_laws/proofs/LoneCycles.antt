-- Cycles of one thread hang on registers and memory words alone, and go on.
use Rattle.std.specs.Prelude.{◌≡◌, ◌≢◌, ℕ, zero, suc, ◌<◌, List, [], ◌∷◌, ◌++◌, Some, refl}
use Rattle.std.proofs.Common.{ap, sym, ◌∙◌, subst}
use Rattle.std.proofs.lemmas.List.{append_assoc}
use Rattle.netlist.specs.declared.netlist.Module.{Module}
use Rattle.verilog_meaning.specs.Names.{top_of}
use Rattle.verilog_meaning.specs.Cycles.{Path, Valuation, Choice, IsState, IsSameAt, Cycle, Runs, ShowsDone}
use Rattle.verilog_meaning.specs.Threads.{slot, alone, all_enabled, IsSame, IsSameSlot, Needs, IsThreaded, Moves, times}
use Rattle.sim_layout.specs.Running.{Running, Stands}
use Rattle.slot_sim.proofs.Same.{same_refl, same_trans, cycle_moved, shows_moved, runs_from_same}
use Rattle.slot_sim.specs.Threaded.{IsSameBut}
use Rattle.slot_sim.proofs.Bits.{first_not_set, alone_is_choice}
use Rattle.slot_sim.proofs.ClosedRuns.{keeps}
use Rattle.slot_sim.proofs.Sames.{in_sym, in_trans, within}
use Rattle.slot_sim.proofs.Trials.{needs_move}

module _ (modules : List Module) (top : Module) where
  -- runs one behind the other
  pub runs_append : (choices more : List Choice) (h g k : Valuation) (out rest : List ℕ) → Runs modules top h choices g out → Runs modules top g more k rest
      → Runs modules top h (choices ++ more) k (out ++ rest)
  runs_append [] more h g k out rest r s = subst (λ (o : List ℕ). Runs modules top h more k (o ++ rest)) (sym r.1) (runs_from_same modules top more h g k rest r.0 s)
  runs_append (c ∷ choices) more h g k out rest r s = (
    r.0,
    r.1,
    r.2 ++ rest,
    r.3,
    runs_append choices more r.0 g k r.2 rest r.4 s,
    ap (λ l. l ++ rest) r.5 ∙ append_assoc r.1 r.2 rest,
  )

  at_sym : (path : Path) (h g : Valuation) → IsSameAt modules top path h g → IsSameAt modules top path g h
  at_sym path h g a = record { registers = λ m x s at i. sym (a.registers m x s at i); words = λ m j k s at l. sym (a.words m j k s at l) }

  pub but_sym : (outer : Path) (h g : Valuation) → IsSameBut modules top outer h g → IsSameBut modules top outer g h
  but_sym outer h g a path other = at_sym path h g (a path other)

  module _ (threads : ℕ) where
    pub times_more : (n : ℕ) (c : Choice) → times modules top threads n c ++ c ∷ [] ≡ times modules top threads (suc n) c
    times_more zero c = refl
    times_more (suc n) c = ap (λ l. c ∷ l) (times_more n c)

    abbrev Shows : Valuation → ℕ → Type 0
    Shows h b = ShowsDone modules top h (all_enabled threads []) b

    module _ (i : ℕ) where
      abbrev Slot : Valuation → Valuation → Type 0
      Slot h g = IsSameSlot modules top threads i h g

      pub slot_within : (h g : Valuation) → IsSame modules top threads h g → Slot h g
      slot_within h g same = within modules top (slot modules top threads i) h g same

      pub slot_sym : (h g : Valuation) → Slot h g → Slot g h
      slot_sym = in_sym modules top (slot modules top threads i)

      pub slot_trans : (h g k : Valuation) → Slot h g → Slot g k → Slot h k
      slot_trans = in_trans modules top (slot modules top threads i)

      pub changes_from : (h g k : Valuation) → IsSame modules top threads h g → (Slot g k → ⊥) → Slot h k → ⊥
      changes_from h g k same differs is = differs (slot_trans g h k (slot_sym h g (slot_within h g same)) is)

      module _ (need : ℕ) where
        abbrev Steps : ℕ → Valuation → Valuation → Type 0
        Steps n h g = Moves modules top threads need i n h g

        pub moves_from : (n : ℕ) (h g k : Valuation) → IsSame modules top threads h g → Steps n g k → Steps n h k
        moves_from zero h g k same m = same_trans modules top h g k same m
        moves_from (suc n) h g k same m = (
          m.0,
          m.1,
          needs_move modules top threads h g (alone i) i need same m.2,
          shows_moved modules top h g same (all_enabled threads []) 0 m.3,
          cycle_moved modules top h g same (alone i) m.0 m.1 m.4,
          changes_from h g m.0 same m.5,
          m.6,
        )

        pub moves_to : (n : ℕ) (h g k : Valuation) → Steps n h g → IsSame modules top threads g k → Steps n h k
        moves_to zero h g k m same = same_trans modules top h g k m same
        moves_to (suc n) h g k m same = (m.0, m.1, m.2, m.3, m.4, m.5, moves_to n m.0 g k m.6 same)

        -- one cycle more
        pub moves_more : (n : ℕ) (h g k : Valuation) (out : List ℕ) → Steps n h g → Needs modules top threads g (alone i) i need → Shows g 0 → Cycle modules top g (alone i) k out
            → (Slot g k → ⊥) → Steps (suc n) h k
        moves_more zero h g k out m needs shows cycle differs = (
          k,
          out,
          needs_move modules top threads h g (alone i) i need m needs,
          shows_moved modules top h g m (all_enabled threads []) 0 shows,
          cycle_moved modules top h g m (alone i) k out cycle,
          changes_from h g k m differs,
          same_refl modules top k,
        )
        moves_more (suc n) h g k out m needs shows cycle differs = (m.0, m.1, m.2, m.3, m.4, m.5, moves_more n m.0 g k out m.6 needs shows cycle differs)

-- of other threads than thread 0 cycles leave its slot
module _ (r : Running) (st : Stands r) (top : Module) (e : top_of r.modules ≡ Some top) (threads i need : ℕ) (t : IsThreaded r.modules top threads) (below : i < threads)
    (other : i ≢ 0) (zero_in : 0 < threads) where
  pub first_stays : (n : ℕ) (h g : Valuation) → IsState r.modules top h → Moves r.modules top threads need i n h g → IsSameSlot r.modules top threads 0 h g
  first_stays zero h g state m = slot_within r.modules top threads 0 h g m
  first_stays (suc n) h g state m =
      slot_trans r.modules top threads 0 h m.0 g
      (t.stays h m.0 (alone i) m.1 0 state (alone_is_choice threads i below) zero_in m.4 (first_not_set i other))
      (first_stays n m.0 g (keeps r st top e h m.0 (alone i) m.1 state m.4) m.6)
