use Rattle.std.proofs.Common.{length}
use Rattle.netlist.specs.Sound.{IsSound}
use Rattle.circuit.proofs.Growth.{of_ok}
use Rattle.top_wiring.specs.Leaves.{AreLeaves, SettlesOnce}
use Rattle.top_wiring.specs.Sound.{AreSound}
use Rattle.top_wiring.specs.Wired.{IsWired}
use Rattle.top_wiring.proofs.Netted.{nets_are_sound}
use Rattle.top_wiring.proofs.NetStages.{nets_settle}
use Rattle.top_wiring.proofs.wiring.wire.Goals as goal

pub returns : goal.returns
returns c =
    let layout = c.args.layout.now in
    let modules = c.args.modules in
    record {
      wired = c.net.ensures;
      sound = of_ok c.net.result (IsWired modules layout) (λ n. AreSound layout modules → IsSound n) (λ n w sound. nets_are_sound layout modules n w sound) c.net.ensures;
      settles = of_ok c.net.result (IsWired modules layout) (λ n. (w : IsWired modules layout n) → AreLeaves layout modules → SettlesOnce n.modules w.top (length layout.threads))
          (λ n w v leaves. nets_settle layout modules n v c.requires.some leaves) c.net.ensures;
    }
