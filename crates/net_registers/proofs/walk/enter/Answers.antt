use Rattle.std.proofs.Common.{◌≡◌, ◌∙◌, ap, subst, slice_get}
use Rattle.sim_values.specs.Stands.{spot_of}
use Rattle.net_registers.specs.Heads.{HasOwn}
use Rattle.net_registers.proofs.walk.enter.Goals as goal

pub returns : goal.returns
returns c =
    let base : c.base_at-base.result ≡ (spot_of (slice_get c.args.sim.now.parts c.args.child)).base =
    c.base_at-base.ensures ∙ ap (λ ps. (spot_of (slice_get ps c.args.child)).base) c.parts.ensures.parts in
    let own = subst (λ s. HasOwn c.enter.new.self c.add_signals.new.self c.base_at-base.result s) c.as_slice.ensures c.in_ok-add_signals.ensures in
    record {
      pushed = c.in_ok-push.ensures.items;
      scope = record {
        between = c.enter.new.self;
        line = c.in_ok-enter.ensures;
        own = subst (λ b. HasOwn c.enter.new.self c.add_signals.new.self b c.args.module.now.signals) base own;
      };
    }
