-- The module of any thread runs its code.
use Rattle.std.proofs.Common.{ℕ}
use Rattle.block_ir.specs.declared.code.ThreadCode.{ThreadCode}
use Rattle.block_ir.specs.declared.plan.Planned.{Planned}
use Rattle.netlist.specs.declared.netlist.Module.{Module}
use Rattle.thread_promise.specs.Serving.{RunsCode}
use Rattle.thread_slots.specs.declared.shape.Shape.{Shape}
use Rattle.thread_layout.specs.Leaf.{served_ports}
use Rattle.thread_layout.specs.Modules.{IsModule}
use Rattle.thread_layout.specs.Thread.{numbers_of, inputs_of, places_of, IsServed}
use Rattle.thread_layout.proofs.Requested.{asks_so, asks_none_so}
use Rattle.thread_layout.proofs.RestingThread.{rests_so}
use Rattle.thread_layout.proofs.Shown.{starts_so, keeps_so, keeps_in_so}
use Rattle.fsm_datapath.proofs.Acts.{acts_so, lost_acts}
use Rattle.fsm_datapath.proofs.ActStates.{returns_so, ends_so, done_so}
use Rattle.fsm_datapath.proofs.BlockStates.{moves_so}
use Rattle.fsm_datapath.proofs.Unasked.{asks_outside_so, asks_alone_so}
use Rattle.fsm_datapath.proofs.WaitStates.{waits_so, idles_so, begins_so}

module _ (shape : Shape) (code : ThreadCode) (plan : Planned) (m : Module) (t : IsModule shape code plan m) (served : IsServed shape code plan) (routine : ℕ) where
  -- THE PROMISE of any thread
  pub serves_code : RunsCode shape.globals shape.spreads (numbers_of shape) shape.is_main routine code plan m (places_of (inputs_of shape) code plan) (served_ports shape m)
  serves_code = record {
    starts = starts_so shape code plan m t served routine;
    keeps = keeps_so shape code plan m t served;
    keeps_in_block = keeps_in_so shape code plan m t served;
    rests = rests_so shape code plan m t served;
    asks = asks_so shape code plan m t served;
    asks_none = λ r q b p n o inside. asks_none_so shape code plan m t served r q b p o inside n;
    asks_outside = asks_outside_so shape code plan m t served;
    moves = moves_so shape code plan m t served;
    acts = acts_so shape code plan m t served;
    lost = lost_acts shape code plan m t served;
    asks_alone = λ r q k o shows is other. asks_alone_so shape code plan m t served r q k o shows is.0 is.1 other;
    waits = λ r q l next n b o shows state at listed names inside. waits_so shape code plan m t served r q l next n b o shows at listed names inside;
    returns = λ main r q next o shows state listed on. returns_so shape code plan m t served main r q next o shows listed on;
    ends = ends_so shape code plan m t served;
    idles = λ other thread_ids r q o shows at idle. idles_so shape code plan m t served other thread_ids r q o shows at idle;
    begins = λ other thread_ids r q o shows state at on run. begins_so shape code plan m t served other thread_ids r q o shows at on run;
    done = done_so shape code plan m t served;
  }
