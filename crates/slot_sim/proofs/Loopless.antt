-- Why a net of threads has a simulator.
use Rattle.std.specs.Prelude.{◌≡◌, ℕ, List, refl}
use Rattle.netlist.specs.declared.netlist.Module.{Module}
use Rattle.cycle_sim.specs.declared.sim.OpenError.{OpenError}
use Rattle.cycle_sim.specs.declared.sim.OpenError.TheVariants as errors
use Rattle.cycle_sim.specs.Opened.{IsCause}
use Rattle.slot_sim.specs.Slots.{IsThreadedIn}

pub no_loop : (modules : List Module) (threads : ℕ) → IsThreadedIn modules threads → (e : OpenError) → IsCause modules e → e ≡ errors.Memory
no_loop modules threads threaded (errors.Loop k x) cause = absurd ((threaded cause.top cause.is_top).loopless (cause.path, x) cause.depends)
no_loop modules threads threaded errors.Memory cause = refl
