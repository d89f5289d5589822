use Rattle.std.proofs.Common.{List, length, subst}
use Rattle.operator_wires.proofs.PutSignals.{grows_then}
use Rattle.thread_slots.specs.declared.stores.Store.{Store}
use Rattle.hls_ints.specs.Types.{IntegerType}
use Rattle.thread_states.specs.Cells.{StoresFirst}
use Rattle.thread_states.specs.Stages.{WalksFirst}
use Rattle.thread_states.specs.Stores.{StagesKeepStores}
use Rattle.thread_states.proofs.Blocks.{stages_later}
use Rattle.thread_states.proofs.StateStores.{walk_ended}
use Rattle.thread_states.proofs.StageByStage.{walked}
use Rattle.thread_layout.proofs.layout.walk.Goals as goal

pub returns : goal.returns
returns c =
    let globals = c.args.shape.now.globals in
    let main = c.args.shape.now.is_main in
    let code = c.args.code.now in
    let registers = c.args.registers.now in
    let plan = c.args.planned.now in
    let s1 = c.begin.new.wires.signals in
    let s2 = c.take_stages.new.wires.signals in
    let s3 = c.take_end.new.wires.signals in
    let s4 = c.wait.new.wires.signals in
    let told = c.args.told in
    let start = c.in_ok-chains.chains in
    let stages = c.in_ok-take_stages.ensures in
    let last = c.in_ok-take_end.ensures in
    let stores = c.take_stages.new.stores in
    let behind = grows_then s2 s3 s4 last.step.grows c.in_ok-wait.ensures.waits.grows in
    let walks = subst (λ (z : List IntegerType). WalksFirst z code registers told plan s1 s2 start c.take_stages.new.chains (length code.stages)) c.as_slice.ensures stages.walks in
    let puts = subst (λ (z : List IntegerType). StoresFirst z code registers plan s1 s2 c.new-stores.result stores (length code.stages)) c.as_slice.ensures stages.puts in
    record {
      with_start = s1;
      with_rest = s3;
      start = start;
      rested = c.take_end.new.chains;
      begins = c.in_ok-chains.ensures.begins;
      begins_wired = c.in_ok-chains.ensures.wired;
      walks = walked globals code registers told plan s1 start main s2 s3 c.take_stages.new.chains c.take_end.new.chains walks last;
      waits = c.in_ok-wait.ensures.waits;
      waits_wired = c.in_ok-wait.ensures.wired;
      stores =
          subst (λ (l : List Store). StoresFirst globals code registers plan s1 s4 l stores (length code.stages)) c.new-stores.ensures
          (stages_later globals code registers plan s1 s2 s4 c.new-stores.result stores (length code.stages) puts behind);
      keeps =
          subst (λ (l : List Store). StagesKeepStores code registers plan told.barred (length code.stages) s1 s4 start l stores) c.new-stores.ensures
          (walk_ended code registers plan told.barred (length code.stages) s1 s2 s4 start c.new-stores.result stores behind stages.stores);
    }
