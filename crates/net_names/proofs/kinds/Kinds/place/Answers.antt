use Rattle.std.proofs.Common.{◌≡◌, ◌≤◌, ◌∙◌, ap, sym, subst, length, take, arith}
use Rattle.netlist.specs.NetlistOf.{place, module_names}
use Rattle.net_names.proofs.Modules.{module_place}
use Rattle.net_names.proofs.kinds.Kinds.place.Goals as goal

pub returns-clause-place : goal.returns-clause-place
returns-clause-place c =
    let all = c.self.inside.modules.now in
    let x = c.args.name.now in
    let e : c.of_name.result ≡ place (module_names all) x = c.of_name.ensures ∙ ap (λ names. place names x) c.self.invariant.0 in
    let le : c.args.before ≤ length all = subst (λ l. c.args.before ≤ length l) (sym c.self.view_is) c.requires in
    let m = module_place all c.args.before x le in
    subst (λ l. c.min.result ≡ place (module_names (take c.args.before l)) x) c.self.view_is (omega (arith, e, m))
