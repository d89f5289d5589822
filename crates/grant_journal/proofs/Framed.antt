-- What holds of a simulator's net holds of the net of a board.
use Rattle.std.specs.Prelude.{◌≡◌, ℕ, ◌<◌, ◌≤◌, List, Some}
use Rattle.std.proofs.Common.{ap, sym, ◌∙◌, subst}
use Rattle.std.proofs.lemmas.Option.{same_Some}
use Rattle.netlist.specs.declared.netlist.Module.{Module}
use Rattle.verilog_meaning.specs.Names.{top_of}
use Rattle.verilog_meaning.specs.Threads.{IsSameSlot, IsThreaded}
use Rattle.sim_layout.specs.Rounds.{threads_of}
use Rattle.sim_layout.specs.Running.{Running, state_of, IsSameNet}
use Rattle.cycle_sim.proofs.LockstepTurns.{net_trans}
use Rattle.slot_sim.specs.Slots.{IsThreadedIn, IsSameSlotOf}
use Rattle.journal_laws.specs.Steps.{InTop, OfTop}
use Rattle.journal_laws.proofs.Alike.{net_sym, of_top}
use Rattle.grant_journal.specs.Boards.{Frame}

-- two simulators that are laid out as a third are laid out alike
pub net_between : (layout a b : Running) → IsSameNet layout a → IsSameNet layout b → IsSameNet a b
net_between layout a b x y = net_trans a layout b (net_sym layout a x) y

module _ (modules : List Module) (count : ℕ) (layout : Running) (f : Frame modules count layout) where
  module _ (r : Running) (net : IsSameNet layout r) where
    pub modules_are : r.modules ≡ modules
    modules_are = net.modules ∙ f.same

    pub threads_are : threads_of r.modules ≡ count
    threads_are = ap threads_of modules_are ∙ f.many

    pub top_is : top_of r.modules ≡ Some f.top
    top_is = ap top_of modules_are ∙ f.is_top

    pub below : (i : ℕ) → i < count → i < threads_of r.modules
    below i l = subst (λ (n : ℕ). i < n) (sym threads_are) l

    pub within : (i : ℕ) → i ≤ count → i ≤ threads_of r.modules
    within i l = subst (λ (n : ℕ). i ≤ n) (sym threads_are) l

    pub above : (i : ℕ) → i < threads_of r.modules → i < count
    above i l = subst (λ (n : ℕ). i < n) threads_are l

    module _ (P : List Module → Module → ℕ → Type 0) where
      pub at_frame : P r.modules f.top (threads_of r.modules) → P modules f.top count
      at_frame p = subst (λ (ms : List Module). P ms f.top count) modules_are (subst (λ (n : ℕ). P r.modules f.top n) threads_are p)

      pub at_net : P modules f.top count → P r.modules f.top (threads_of r.modules)
      at_net p = subst (λ (n : ℕ). P r.modules f.top n) (sym threads_are) (subst (λ (ms : List Module). P ms f.top count) (sym modules_are) p)

      pub told : OfTop r P → P modules f.top count
      told o = at_frame (of_top P r o f.top top_is)

      pub tells : P modules f.top count → OfTop r P
      tells p = record { top = f.top; is_top = top_is; holds = at_net p }

    pub threaded_in : IsThreadedIn r.modules (threads_of r.modules)
    threaded_in top e =
        subst (λ (x : Module). IsThreaded r.modules x (threads_of r.modules)) (same_Some f.top top (sym top_is ∙ e)) (at_net (λ ms top n. IsThreaded ms top n) f.threaded)

    pub slot_told : (i : ℕ) (s : Running) → IsSameSlotOf (threads_of r.modules) i r s → IsSameSlot modules f.top count i (state_of r) (state_of s)
    slot_told i s same = told (λ ms top n. IsSameSlot ms top n i (state_of r) (state_of s)) (record { top = same.top; is_top = same.is_top; holds = same.same })

    pub slot_tells : (i : ℕ) (s : Running) → IsSameSlot modules f.top count i (state_of r) (state_of s) → IsSameSlotOf (threads_of r.modules) i r s
    slot_tells i s same = let o = tells (λ ms top n. IsSameSlot ms top n i (state_of r) (state_of s)) same in record { top = o.top; is_top = o.is_top; same = o.holds }

  -- it holds of the net of a board
  pub framed : (P : List Module → Module → ℕ → Type 0) → P modules f.top count → InTop modules (λ top. P modules top count)
  framed P p = record { top = f.top; is_top = f.is_top; holds = p }

  pub unframed : (P : List Module → Module → ℕ → Type 0) → InTop modules (λ top. P modules top count) → P modules f.top count
  unframed P o = subst (λ (x : Module). P modules x count) (same_Some o.top f.top (sym o.is_top ∙ f.is_top)) o.holds
