-- The net is determined: a state has exactly one settled valuation for each choice, and the thread's slot tells done.
use Rattle.std.proofs.Common.{◌≡◌, ℕ, ◌<◌, List, [], ◌∷◌, Some, slice_get, refl, sym, ap, ◌∙◌, inl, inr, arith}
use Rattle.hls_ints.specs.Residues.{bit_of}
use Rattle.c_program.specs.Tree.{Program}
use Rattle.netlist.specs.declared.netlist.Source.TheVariants.{Port}
use Rattle.netlist.specs.declared.netlist.Signal.{Signal}
use Rattle.netlist.specs.declared.netlist.Module.{Module}
use Rattle.verilog_meaning.specs.Readings.{Reading}
use Rattle.verilog_meaning.specs.Cycles.{Valuation, Choice, number, IsSettled, ShowsDone}
use Rattle.verilog_meaning.specs.Follows.{IsDetermined}
use Rattle.circuit.specs.Modules.{Agree}
use Rattle.circuit.proofs.Staged.{staged_settles, staged_same}
use Rattle.circuit.proofs.NetStep.{obeys, holds}
use Rattle.leaf_machine.specs.Leaves.{leaf_thread}
use Rattle.leaf_machine.proofs.Leaves.{slot_bit_is}
use Rattle.law_net.proofs.AgreedReadings.{agree_on, agree_here}
use Rattle.law_cycle.specs.Built.{Parts}
use Rattle.law_cycle.specs.Bodies.{core_machine, core_count}
use Rattle.law_net.specs.Whole.{Carries, IsWhole}

module _ (P : Program) (K : Parts) (modules : List Module) (top : Module) (whole : IsWhole P K modules top) where
  pub some_thread : 0 < K.cores.threads
  some_thread = let e = whole.built.threads in omega (arith, e)

  abbrev main : Module
  main = (K.bodies 0).body

  -- a signal that carries a port's number has it
  carried : (h v : Valuation) (c : Choice) → IsSettled modules top h c v → (x : ℕ) (s : Signal) → slice_get top.signals x ≡ Some s → (j port : ℕ)
      → Carries P K modules top s (Port j port) → (v []).signal x ≡ (v (j ∷ [])).signal port
  carried h v c settled x s listed j port (inl is) =
      settled.signals [] top x s (record { stands = refl; listed = listed }) ∙ ap (number modules top h c v [] top x s) is
  carried h v c settled x s listed j port (inr (wire, driven, copies, stands, is)) =
      settled.signals [] top x s (record { stands = refl; listed = listed })
      ∙ ap (number modules top h c v [] top x s) copies
      ∙ settled.signals [] top wire driven (record { stands = refl; listed = stands })
      ∙ ap (number modules top h c v [] top wire driven) is

  -- a settled valuation has the bit of done that the slot tells
  pub done_is : (h v : Valuation) (c : Choice) → IsSettled modules top h c v → (s : Reading) → Agree main s (h (whole.at.thread 0 ∷ []))
      → (v []).signal whole.done.shows.place ≡ bit_of ((leaf_thread main (K.bodies 0).leaf).is_done s)
  done_is h v c settled s agrees =
      let path = whole.at.thread 0 ∷ [] in
      let main_module = (whole.built.bodies 0 some_thread).1 in
      carried h v c settled whole.done.shows.place whole.done.shows.signal whole.done.shows.is.listed (whole.at.thread 0) (K.bodies 0).leaf.done whole.done.drives
      ∙ slot_bit_is main (K.bodies 0).inputs (K.bodies 0).leaf (core_count K.cores) (λ k. (core_machine K.cores k).parts) (λ k. (core_machine K.cores k).told) main_module.leaf (K.bodies 0).leaf.done
      main_module.done (v path) s
      (obeys modules top h v c settled path main (whole.runs 0 some_thread))
      (agree_on main s (h path) (v path) agrees (holds modules top h v c settled path main (whole.runs 0 some_thread)))

  -- and so has what is shown of it
  pub shown_is : (h : Valuation) (c : Choice) (b : ℕ) → ShowsDone modules top h c b → (s : Reading) → Agree main s (h (whole.at.thread 0 ∷ []))
      → b ≡ bit_of ((leaf_thread main (K.bodies 0).leaf).is_done s)
  shown_is h c b shows s agrees =
      sym shows.number
      ∙ ap (λ x. (shows.through []).signal x) (whole.done.only shows.place shows.signal shows.is)
      ∙ done_is h shows.through c shows.settled s agrees

  pub determined : IsDetermined modules top K.cores.threads
  determined = record {
    exists = λ h c state choice. staged_settles modules top whole.stages whole.staged h c state (whole.fits c choice);
    unique = staged_same modules top whole.stages whole.staged;
    done = λ h c d a b x y.
        let s = h (whole.at.thread 0 ∷ []) in
        shown_is h c a x s (agree_here main s) ∙ sym (shown_is h d b y s (agree_here main s));
  }
