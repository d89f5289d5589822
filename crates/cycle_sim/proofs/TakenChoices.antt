-- The choices of a run in lockstep fit: they are among those of so many threads, and each number fits an input that is wide enough.
use Rattle.std.specs.Prelude.{◌≡◌, ℕ, zero, suc, ◌+◌, ◌-◌, ◌^◌, ◌<◌, ◌≤◌, ◌⊎◌, Bool, true, false, List, replicate, Some, slice_get, codes, if◌then◌else◌, refl}
use Rattle.std.specs.Str.{bytes_eq}
use Rattle.std.proofs.Common.{sym, subst, ⊎_elim, arith}
use Rattle.std.proofs.lemmas.List.Elements.{All-replicate}
use Rattle.std.proofs.lemmas.Nat.{pow_pos, pow_below}
use Rattle.std.proofs.lemmas.Option.{same_Some}
use Rattle.std.proofs.lemmas.Slice.Eq.{bytes_eq-Decides}
use Rattle.netlist.specs.declared.netlist.Signal.{Signal}
use Rattle.netlist.specs.declared.netlist.Module.{Module}
use Rattle.verilog_meaning.specs.Names.{numbered, IsSignal}
use Rattle.verilog_meaning.specs.Cycles.{Choice, pref_number}
use Rattle.verilog_meaning.specs.Threads.{all_enabled, IsChoice}
use Rattle.circuit.specs.Nets.{FitsChoice}
use Rattle.sim_layout.specs.Rounds.{threads_of, TakesTurns}
use Rattle.cycle_sim.specs.Right.{HasWidePrefs, OpenableOfSound}
use Rattle.cycle_sim.proofs.Enables.{threads_of_sound}
use Rattle.cycle_sim.proofs.PrinterInstance.{one_printer}
use Rattle.cycle_sim.proofs.Right.{right_of_sound}

is_choice : (threads prefs preferred : ℕ) → preferred < 16 → IsChoice threads (all_enabled threads (replicate prefs preferred))
is_choice threads prefs preferred l =
    ((let p : 0 < 2 ^ threads = pow_pos threads in omega (arith, p)), All-replicate (λ p. p < 64) prefs preferred (omega (arith, l)))

-- an outermost module that takes all choices of its threads takes those
pub turns_taken : (modules : List Module) (top : Module) (threads : ℕ) → threads_of modules ≡ threads → ((c : Choice) → IsChoice threads c → FitsChoice modules top c) → TakesTurns modules top
turns_taken modules top threads e takes = λ prefs preferred l.
    subst (λ t. (c : Choice) → IsChoice t c → FitsChoice modules top c) (sym e) takes (all_enabled (threads_of modules) (replicate prefs preferred))
    (is_choice (threads_of modules) prefs preferred l)

-- ---- inputs that are wide enough

four_bits : (p w : ℕ) → p < 16 → 4 ≤ w → p < 2 ^ w
four_bits p w l wide = ⊎_elim
    (λ (e : 4 ≡ w). subst (λ (z : ℕ). p < 2 ^ z) e l)
    (λ (less : 4 < w). let more : 2 ^ 4 < 2 ^ w = pow_below 4 w less in omega (arith, more, l))
    (let d : (4 ≡ w) ⊎ (4 < w) = grind arith in d)

given_by : (b : Bool) (p w rest : ℕ) → (b ≡ true → p < 2 ^ w) → rest < 2 ^ w → (if b then p else rest) < 2 ^ w
given_by true p w rest here l = here refl
given_by false p w rest here l = l

-- a number of 4 bits in each place of a list fits the input of a name
one_given : (name : List ℕ) (w p : ℕ) → p < 16 → ((k : ℕ) → name ≡ numbered (codes "pref") k → 4 ≤ w) → (n k : ℕ) → pref_number name (replicate n p) k < 2 ^ w
one_given name w p l wide zero k = pow_pos w
one_given name w p l wide (suc n) k = given_by (bytes_eq name (numbered (codes "pref") k)) p w (pref_number name (replicate n p) (k + 1))
    (λ e. four_bits p w l (wide k ((bytes_eq-Decides name (numbered (codes "pref") k)).0 e)))
    (one_given name w p l wide n (k + 1))

-- an outermost module whose `en` has as many bits as there are threads takes the turns
pub wide_taken : (modules : List Module) (top : Module) → ((x : ℕ) (s : Signal) → IsSignal top (codes "en") x s → threads_of modules ≡ s.width) → HasWidePrefs top → TakesTurns modules top
wide_taken modules top is_threads wide prefs p l m x s at input = by (bytes_eq s.name (codes "en")) refl where
  listed : slice_get top.signals x ≡ Some s
  listed = subst (λ (t : Module). slice_get t.signals x ≡ Some s) (sym (same_Some top m at.stands)) at.listed

  threads : ℕ
  threads = threads_of modules

  by : (b : Bool) → bytes_eq s.name (codes "en") ≡ b → (if b then 2 ^ threads - 1 else pref_number s.name (replicate prefs p) 0) < 2 ^ s.width
  by true e =
      let t : threads ≡ s.width = is_threads x s (record { listed = listed; named = (bytes_eq-Decides s.name (codes "en")).0 e }) in
      subst (λ w. 2 ^ threads - 1 < 2 ^ w) t (let q = pow_pos threads in omega (arith, q))
  by false e = one_given s.name s.width p l (λ k named. wide x k s (record { listed = listed; named = named }) input) prefs 0

pub openable_of_sound : OpenableOfSound
openable_of_sound n sound top is_top done wide = record {
  top = top;
  is_top = is_top;
  right = right_of_sound n sound top is_top;
  printer = one_printer n sound;
  done = done;
  takes = wide_taken n.modules top (λ x s is. threads_of_sound n sound top x s is_top is) wide;
}
