use Rattle.top_wiring.proofs.Steps.{small_one}
use Rattle.net_tests.proofs.wiring.one_thread.Goals as goal

pub wire-requires : goal.wire-requires
wire-requires g c =
    small_one c.in_ok-threads.threads c.new-cores.result 0 c.in_ok-threads.ensures c.new-cores.ensures
