use Rattle.std.proofs.Common.{◌≡◌, List, ℕ, map, ap, subst, ◌∙◌}
use Rattle.block_datapath.specs.declared.registers.Held.{Held}
use Rattle.thread_states.specs.Control.{Controls}
use Rattle.thread_requests.specs.Outputs.{LaysOutputs}
use Rattle.thread_states.specs.Wired.{IsSteered, WiresControl}
use Rattle.thread_layout.specs.Memories.{control_base}
use Rattle.thread_layout.specs.Modules.{marks_of}
use Rattle.thread_layout.proofs.layout.close.Goals as goal

pub returns : goal.returns
returns c =
    let inside = c.args.inside.now in
    let edge = c.in_ok-edge.edge in
    let old = c.args.wires.now.signals in
    let mid = c.control.new.wires.signals in
    let new = c.lay_outputs.new.wires.signals in
    let marks : c.as_slice-2.result.now ≡ marks_of inside = c.as_slice-2.ensures ∙ c.in_ok-marks.ensures ∙ ap (map (λ (h : Held). h.register)) c.as_slice.ensures in
    let opens : c.as_slice-opens.result.now ≡ inside.early.opens = c.as_slice-opens.ensures in
    record {
      with_control = mid;
      controls =
          subst (λ (z : List ℕ). Controls old mid inside.slot inside.inputs inside.chains inside.early.opens z edge) marks
          (subst (λ (z : List ℕ). Controls old mid inside.slot inside.inputs inside.chains z c.as_slice-2.result.now edge) opens c.in_ok-edge.ensures.controls);
      outputs =
          subst (λ (z : List Held). LaysOutputs c.args.shape.now.served mid new z edge.asks inside.early.requests inside.early.need inside.early.done)
          c.as_slice-3.ensures
          (subst (λ (z : List ℕ). LaysOutputs c.args.shape.now.served mid new c.as_slice-3.result.now z inside.early.requests inside.early.need
          inside.early.done)
          c.as_slice-4.ensures c.in_ok-lay_outputs.ensures.lays);
      wired =
          subst
          (λ (z : List ℕ). IsSteered control_base old inside.slot inside.inputs inside.chains inside.early.opens z
          → WiresControl control_base old mid inside.slot inside.inputs inside.early.opens z edge) marks
          (subst
          (λ (z : List ℕ). IsSteered control_base old inside.slot inside.inputs inside.chains z c.as_slice-2.result.now
          → WiresControl control_base old mid inside.slot inside.inputs z c.as_slice-2.result.now edge) opens (c.in_ok-edge.ensures.wired control_base));
      named = c.in_ok-lay_outputs.ensures.named;
      few = c.in_ok-lay_outputs.ensures.few;
    }
