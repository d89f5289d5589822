-- The table of a mutex keeps the promise of the mutex's machine.
use Rattle.std.proofs.Common.{subst, ◌≡◌, ℕ, zero, suc, ◌+◌, ◌<◌, ◌≤◌, List, [], slice_get, Option, Some, None, Bool, true, false, nat_eq, nat_lt}
use Rattle.std.proofs.Common.{if◌then◌else◌, refl, sym, ap, ◌∙◌, arith, add-zero}
use Rattle.std.specs.Prelude.{◌&&◌}
use Rattle.std.proofs.lemmas.Option.{none-some}
use Rattle.hls_ints.specs.Residues.{bit_of}
use Rattle.netlist.specs.declared.netlist.Memory.{Memory}
use Rattle.netlist.specs.declared.netlist.Action.{Action}
use Rattle.netlist.specs.declared.netlist.Module.{Module}
use Rattle.verilog_meaning.specs.Readings.{Reading, written, action_bytes, initial_reading, initial_signal, next_reading, register_after}
use Rattle.circuit.specs.declared.table.Row.{Row}
use Rattle.circuit.specs.Rows.{EachOf, set_at}
use Rattle.circuit.specs.Modules.{FitsAction, FitsMemory, Obeys, Agree, Has, HasInput, HasRegister, IsLeaf}
use Rattle.circuit.specs.Machines.{Grants, IsCore, asked, printed, after_grant}
use Rattle.circuit.specs.Table.{place}
use Rattle.circuit.specs.Fits.{is_late_row, registers, fits}
use Rattle.circuit.proofs.Tables.{Told}
use Rattle.circuit.proofs.TableRows.{ByRow, IsListed, listed}
use Rattle.circuit.proofs.TableSound as sound
use Rattle.circuit.proofs.Chains.{pick, chain_is}
use Rattle.circuit.proofs.Edges.{one_after, tested, both_bits, a_bit}
use Rattle.core_states.specs.Machines.{CoreMutex, Unset, Free, Owned, is_owned, mutex_eligible, mutex_after}
use Rattle.mutex_cores.specs.declared.mutex.Shape.{Shape}
use Rattle.mutex_cores.specs.Rows as row
use Rattle.mutex_cores.specs.Mutex.{rows, at, owner, grants, chain, IsShape, IsMutex}
use Rattle.mutex_cores.specs.Machine.{Ask, ask_of, mutex_machine, mutex_places, initial_mutex, word_of_mutex, Shows, part_place, inputs, is_late}
use Rattle.mutex_cores.proofs.MutexWords.{is_taken, word_if, first_is, offered}

none_printed : (shape : Shape) (s : CoreMutex) (f : ℕ → Ask) (o : Option ℕ) → [] ≡ printed (mutex_machine shape) s f o
none_printed shape s f None = refl
none_printed shape s f (Some w) = refl

after_pick : (shape : Shape) (s : CoreMutex) (f : ℕ → Ask) (o : Option ℕ) →
    pick o (word_of_mutex s) (λ w. word_of_mutex (mutex_after s w (f w).operation)) ≡ word_of_mutex (after_grant (mutex_machine shape) s f o)
after_pick shape s f None = refl
after_pick shape s f (Some w) = refl

pick_same : (o : Option ℕ) (n x y : ℕ) (f g : ℕ → ℕ) → ((w : ℕ) → o ≡ Some w → w < n) → x ≡ y → ((w : ℕ) → w < n → f w ≡ g w) → pick o x f ≡ pick o y g
pick_same None n x y f g below e h = e
pick_same (Some w) n x y f g below e h = h w (below w refl)

-- the rows are in order
pub rows_fit : (b : Bool) → fits (is_late_row (rows b)) [] (rows b) ≡ true
rows_fit true = refl
rows_fit false = refl

module _ (shape : Shape) (ok : IsShape shape) (m : Module) (is : IsMutex shape m) where
  abbrev n : ℕ
  n = shape.threads

  abbrev table : List Row
  table = rows shape.initialised

  pub laid_by : sound.IsLaid n (is_late_row table) [] table m (is_late shape)
  laid_by = record {
    few = ok.few;
    passes = rows_fit shape.initialised;
    signals = is.signals;
    agrees = sound.late_is n table;
    words = sound.no_memories m;
  }

  there : ByRow n table (IsListed n table m is.signals)
  there = listed n table m is.signals

  -- ---- the statement

  end_has : Has m (chain n + n) 8
  end_has = sound.has_at n table m is.signals row.chain _ refl n (omega arith)

  acts : FitsAction m (set_at (owner n) (chain n + n) 0)
  acts =
      let z : owner n ≡ owner n + 0 = sym (add-zero (owner n)) in
      let y : chain n + n ≡ chain n + n + 0 = sym (add-zero (chain n + n)) in
      (tt, (8, subst (λ x. HasRegister m x 8) z (record { signal = _; listed = there row.owner; wide = refl; is = tt }), subst (λ x. Has m x 8) y end_has))

  pub acts_fit : EachOf (FitsAction m) m.actions
  acts_fit = subst (EachOf (FitsAction m)) (sym is.actions) (acts, tt)

  pub begins : EachOf FitsMemory m.memories
  begins = subst (EachOf FitsMemory) (sym is.memories) tt

  pub mutex_leaf : IsLeaf m (inputs shape) (is_late shape)
  mutex_leaf = sound.leaf laid_by is.instances acts_fit begins

  -- ---- the promise

  abbrev Shown : Reading → CoreMutex → Type 0
  Shown = Shows shape

  starts : Shown (initial_reading (Some m)) (initial_mutex shape.initialised)
  starts = ap initial_signal (there row.owner) ∙ first_is shape.initialised

  keeps : (h g : Reading) (s : CoreMutex) → Agree m h g → Shown h s → Shown g s
  keeps h g s same e = sym (same.registers (owner n) _ (there row.owner) tt) ∙ e

  -- the one register
  is_owner : (x : ℕ) → inputs shape ≤ x → x < place n table (registers table) → owner n ≡ x
  is_owner x a b = omega arith

  faithful : (h g : Reading) (s : CoreMutex) → Shown h s → Shown g s → Agree m h g
  faithful h g s e f = record {
    registers = sound.same_registers laid_by h g
        (λ x a b. subst (λ y. h.signal y ≡ g.signal y) (is_owner x a b) (e ∙ sym f));
    words = λ j k z q l. absurd (none-some z (sym (ap (λ (ms : List Memory). slice_get ms j) is.memories) ∙ q));
  }

  hears_same : (f g : ℕ → ℕ) → ((j : ℕ) → j < 2 → f j ≡ g j) → ask_of f ≡ ask_of g
  hears_same f g h =
      let with : ℕ → ℕ → Ask = λ x y. record { asks = nat_lt 0 x; operation = y } in
      ap (λ x. with x (f 1)) (h 0 (omega arith)) ∙ ap (with (g 0)) (h 1 (omega arith))

  module _ (r : Reading) (s : CoreMutex) (obeys : Obeys m r) (shown : Shown r s) where
    told : ByRow n table (Told m r)
    told = sound.told laid_by r obeys

    -- the number of a row, and that of its signal of a thread
    abbrev one : ℕ → ℕ
    one k = r.signal (at n k)

    abbrev each : ℕ → ℕ → ℕ
    each k i = r.signal (at n k + i)

    owned_is : one row.owned ≡ bit_of (is_owned s)
    owned_is =
        told row.owned ∙ ap (λ x. bit_of (nat_lt x (one row.owner))) (told row.free)
        ∙ ap (λ x. bit_of (nat_lt 1 x)) shown ∙ ap bit_of (is_taken s)

    module _ (i : ℕ) (l : i < n) where
      abbrev operation : ℕ
      operation = each row.operations i

      lock_is : each row.locks i ≡ bit_of (nat_eq operation 1)
      lock_is = told row.locks i l ∙ ap (λ x. bit_of (nat_eq operation x)) (told row.lock)

      destroy_is : each row.destroys i ≡ bit_of (nat_eq operation 3)
      destroy_is = told row.destroys i l ∙ ap (λ x. bit_of (nat_eq operation x)) (told row.destroy)

      barred_is : each row.barred i ≡ bit_of (nat_eq operation 1 && is_owned s)
      barred_is = told row.barred i l ∙ both_bits (nat_eq operation 1) (is_owned s) (each row.locks i) (one row.owned) lock_is owned_is

      offer_is : each row.offers i ≡ bit_of (nat_lt 0 (each row.asks i) && mutex_eligible s operation)
      offer_is =
          told row.offers i l ∙ told row.allowed i l
          ∙ tested (nat_eq operation 1 && is_owned s) (each row.barred i) (one row.none) (each row.asks i) barred_is
          ∙ ap (λ x. if nat_eq operation 1 && is_owned s then x else each row.asks i) (told row.none)
          ∙ ap (λ x. if nat_eq operation 1 && is_owned s then 0 else x) (a_bit (each row.asks i) (obeys.within (at n row.asks + i) _ (there row.asks i l)))
          ∙ offered (nat_eq operation 1 && is_owned s) (nat_lt 0 (each row.asks i))

      other_is : each row.others i ≡ word_of_mutex (if nat_eq operation 3 then Unset else Free)
      other_is =
          told row.others i l
          ∙ tested (nat_eq operation 3) (each row.destroys i) (one row.unset) (one row.free) destroy_is
          ∙ ap (λ x. if nat_eq operation 3 then x else one row.free) (told row.unset)
          ∙ ap (λ x. if nat_eq operation 3 then 0 else x) (told row.free)
          ∙ sym (word_if (nat_eq operation 3) Unset Free)

      value_is : each row.values i ≡ word_of_mutex (mutex_after s i operation)
      value_is =
          told row.values i l
          ∙ tested (nat_eq operation 1) (each row.locks i) (each row.numbers i) (each row.others i) lock_is
          ∙ ap (λ x. if nat_eq operation 1 then x else each row.others i) (told row.numbers i l)
          ∙ ap (λ x. if nat_eq operation 1 then 2 + i else x) other_is
          ∙ sym (word_if (nat_eq operation 1) (Owned i) (if nat_eq operation 3 then Unset else Free))

    register_is : (next_reading m r).signal (owner n) ≡ r.signal (chain n + n)
    register_is =
        ap (λ (xs : List Action). register_after r xs (owner n) (r.signal (owner n))) is.actions
        ∙ one_after r (owner n) (chain n + n) (r.signal (owner n))

    silent : (o : Option ℕ) → written m r ≡ printed (mutex_machine shape) s (asked (mutex_machine shape) (mutex_places shape) r) o
    silent o = ap (action_bytes m r) is.actions ∙ none_printed shape s (asked (mutex_machine shape) (mutex_places shape) r) o

    moves : (o : Option ℕ) → Grants (mutex_machine shape) (mutex_places shape) n r o
        → Shown (next_reading m r) (after_grant (mutex_machine shape) s (asked (mutex_machine shape) (mutex_places shape) r) o)
    moves o granted =
        register_is
        ∙ chain_is r n (chain n) (grants n) (at n row.values) (one row.owner) o (told row.chain).0 (told row.chain).1 granted.below granted.bits
        ∙ pick_same o n (one row.owner) (word_of_mutex s) (each row.values) (λ w. word_of_mutex (mutex_after s w (each row.operations w))) granted.below shown value_is
        ∙ after_pick shape s (asked (mutex_machine shape) (mutex_places shape) r) o

  ask_input : (j i : ℕ) → j < 2 → i < n → HasInput m (part_place n j i)
  ask_input zero i l b = mutex_leaf.first (at n row.asks + i) (omega arith)
  ask_input (suc j) i l b = mutex_leaf.first (at n row.operations + i) (omega arith)

  pub mutex_core : IsCore (mutex_machine shape) (mutex_places shape) n m
  mutex_core = record {
    starts = starts;
    keeps = keeps;
    faithful = faithful;
    hears = λ f g h. hears_same f g h;
    offers = λ r s ob sh i l. offer_is r s ob sh i l;
    tells = λ r s ob sh j i l b. absurd (omega arith);
    moves = λ r s o ob sh g. moves r s ob sh o g;
    writes = λ r s o ob sh g. silent r s ob sh o;
    ask_inputs = ask_input;
    grant_inputs = λ i l. mutex_leaf.first (grants n + i) (omega arith);
  }
