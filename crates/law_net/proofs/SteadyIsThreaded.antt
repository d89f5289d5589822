-- A net of threads that keep to themselves is threaded.
use Rattle.law_net.specs.Steady.{SteadyIsThreaded}
use Rattle.law_net.proofs.Fields.{needs_alike, slot_stays, closed_changes, closed_same}
use Rattle.law_net.proofs.Alone.{alone_stays, closed_keeps, idles, ends_alike, end_stays}
use Rattle.law_net.proofs.Stuck.{all_stuck}

pub steady_is_threaded : SteadyIsThreaded
steady_is_threaded threads cores T C p modules top steady = record {
  ports = steady.ports;
  has = steady.has;
  loopless = steady.loopless;
  stays = λ h g c out i state choice l cycle off. slot_stays threads cores T C p modules top steady i l h g c out cycle off;
  needs = λ h g c d i a b l same left right. needs_alike threads cores T C p modules top steady i l h g c d a b same left right;
  closed_moves = λ h g c out i state choice l cycle on needs same. closed_changes threads cores T C p modules top steady i l h g c out cycle on needs same;
  closed_alike = λ h k g f c d out more i state states l a b on too needs same. closed_same threads cores T C p modules top steady i l h k g f c d out more a b on too needs same;
  closed_alone = λ h g out i state l cycle needs. closed_keeps threads cores T C p modules top steady i l h g out cycle needs;
  open_moves = λ h g out i state l cycle needs same. (alone_stays threads cores T C p modules top steady i l h g out cycle same).0;
  idle = λ h g c out state off cycle. idles threads cores T C p modules top steady h g c out cycle off;
  done_alike = λ h g c d a b same left right. ends_alike threads cores T C p modules top steady h g c d a b same left right;
  done_stays = λ h g c out state shows cycle. end_stays threads cores T C p modules top steady h g c out shows cycle;
  stuck = λ h state stuck g c out choice cycle. all_stuck threads cores T C p modules top steady h state stuck g c out cycle;
}
