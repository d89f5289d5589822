-- What an edge does where the state is left: each register gets what its chain shows. What has been granted is set where a core grants, too.
use Rattle.std.specs.Prelude.{ℕ, suc, List, [], ◌∷◌, ◌++◌, map, Option, Some, None, slice_get}
use Rattle.netlist.specs.declared.netlist.Effect.TheVariants as effect
use Rattle.netlist.specs.declared.netlist.Action.{Action}
use Rattle.block_datapath.specs.declared.registers.Held.{Held}
use Rattle.block_datapath.specs.declared.registers.Registers.{Registers}
use Rattle.thread_slots.specs.declared.chains.Chains.{Chains}
use Rattle.thread_states.specs.declared.control.Edge.{Edge}
use Rattle.thread_slots.specs.declared.stores.Store.{Store}
use Rattle.thread_slots.specs.Cells.{store_action}

abbrev pub set_action : ℕ → ℕ → ℕ → Action
set_action condition register source = record { conditions = condition ∷ []; effect = effect.Set register source }

abbrev pub sets_of : ℕ → Held → Option ℕ → List Action
sets_of condition h None = []
sets_of condition h (Some next) = set_action condition h.register next ∷ []

-- of these registers, whose chains have these numbers from n on
abbrev pub sets_from : ℕ → List ℕ → ℕ → List Held → List Action
sets_from condition nexts n [] = []
sets_from condition nexts n (h ∷ hs) = sets_of condition h (slice_get nexts n) ++ sets_from condition nexts (suc n) hs

abbrev pub actions_of : Registers → Chains → List Held → List Store → Edge → List Action
actions_of registers c granted stores edge =
    set_action edge.leave registers.stage.register c.stage
    ∷ set_action edge.leave registers.state.register edge.state
    ∷ set_action edge.moved registers.beat edge.beat
    ∷ [] ++ sets_from edge.leave c.variables 0 registers.variables ++ sets_from edge.leave c.kept 0 registers.kept ++ sets_from edge.moved edge.granted 0 granted
    ++ map (store_action edge.leave) stores
