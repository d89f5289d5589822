-- The first links.
use Rattle.std.proofs.Common.{◌≡◌, ℕ, List, length, map, slice_get, slice_index, Some, ap, ◌∙◌}
use Rattle.std.specs.Prelude.{option_map}
use Rattle.std.proofs.lemmas.List.{length-map}
use Rattle.std.proofs.lemmas.Option.{slice_get-map, get_or_from_slice_get}
use Rattle.netlist.specs.declared.netlist.Signal.{Signal}
use Rattle.operator_wires.specs.Gives.{Gives}
use Rattle.operator_wires.proofs.PutSignals.{grows_then}
use Rattle.block_datapath.specs.declared.registers.Held.{Held}
use Rattle.block_datapath.specs.declared.registers.Registers.{Registers}
use Rattle.thread_slots.specs.declared.chains.Chains.{Chains}
use Rattle.thread_slots.specs.Links.{Begins}

register_at : (hs : List Held) (places : List ℕ) → places ≡ map (λ (h : Held). h.register) hs → (x : ℕ) (h : Held) → slice_get hs x ≡ Some h → slice_index places x ≡ h.register
register_at hs places e x h listed =
    get_or_from_slice_get places x h.register 0
    (ap (λ (l : List ℕ). slice_get l x) e ∙ slice_get-map (λ (k : Held). k.register) hs x ∙ ap (option_map (λ (k : Held). k.register)) listed)

pub begin_made : (a b c : List Signal) (registers : Registers) (first second : List Held) (chains : Chains) → first ≡ registers.variables → second ≡ registers.kept
    → chains.variables ≡ map (λ (h : Held). h.register) first → chains.kept ≡ map (λ (h : Held). h.register) second → Gives a b chains.is_last 1 (λ m r. 0)
    → Gives b c chains.waits 1 (λ m r. 0) → chains.stage ≡ registers.stage.register → Begins a c registers chains
begin_made a b c registers first second chains one two variables kept is_last waits stage = record {
  grows = grows_then a b c is_last.grows waits.grows;
  bits = record { is_last = λ m g. is_last.wide m (grows_then b c m.signals waits.grows g); waits = waits.wide };
  variables = ap length variables ∙ length-map first (λ (h : Held). h.register) ∙ ap length one;
  kept = ap length kept ∙ length-map second (λ (h : Held). h.register) ∙ ap length two;
  still = λ m r g o. record {
    stage = ap r.signal stage;
    variables = λ x h listed. ap r.signal (register_at first chains.variables variables x h (ap (λ (l : List Held). slice_get l x) one ∙ listed));
    kept = λ x h listed. ap r.signal (register_at second chains.kept kept x h (ap (λ (l : List Held). slice_get l x) two ∙ listed));
    is_last = is_last.shows m r (grows_then b c m.signals waits.grows g) o;
    waits = waits.shows m r g o;
  };
}
