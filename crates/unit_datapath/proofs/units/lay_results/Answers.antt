use Rattle.std.proofs.Common.{refl, sym, [], ◌∷◌, arith}
use Rattle.std.proofs.lemmas.List.{append-nil}
use Rattle.std.proofs.lemmas.Result.{on_ok_weaker}
use Rattle.unit_datapath.proofs.units.lay_results.Goals as goal

pub returns-then-count-eq0 : goal.returns-then-count-eq0
returns-then-count-eq0 c = record { more = []; is = sym (append-nil c.args.all.now); laid = (c.if-count-eq0.true, refl) }

pub returns : goal.returns
returns c =
    on_ok_weaker c.push.result
    (λ e. record {
      more = record { operator = c.args.operator; ty = c.args.ty; places = c.in_ok-places.places } ∷ [];
      is = e;
      laid = (refl, refl, omega (arith, c.if-count-eq0.false), c.in_ok-places.ensures);
    })
    c.push.ensures.ok
