use Rattle.std.proofs.Common.{◌∙◌, ◌+◌, ◌++◌, ◌∷◌, [], ap, sym, take, drop, append-nil, arith}
use Rattle.std.proofs.lemmas.List.{drop_all}
use Rattle.netlist.specs.NetlistOf.{module_of, modules_of}
use Rattle.net_netlist.proofs.Laws.{one_module}
use Rattle.net_netlist.proofs.net.modules.Goals as goal

pub loop-before-preserved : goal.loop-before-preserved
loop-before-preserved c =
    let all = c.args.all.now in
    let n = c.loop-before.before in
    let made = c.loop-before.modules in
    let d = c.index-all-before.result in
    let next = c.in_ok-next.ensures ∙ ap (λ ms. module_of (take n ms) d) c.requires ∙ ap (module_of (take n all)) c.index-all-before.is in
    ap (λ l. l ++ modules_of (take (n + 1) all) (drop (n + 1) all)) (c.in_ok-push.ensures.ok ∙ ap (λ m. made ++ m ∷ []) next)
    ∙ one_module all n d made (omega arith) ∙ c.loop-before.invariant

pub returns : goal.returns
returns c =
    let all = c.args.all.now in
    let n = c.loop-before.before in
    let made = c.loop-before.modules in
    let over = drop_all c.loop-before.before c.args.all.now (omega arith) in
    sym (append-nil made) ∙ ap (λ r. made ++ modules_of (take n all) r) (sym over) ∙ c.loop-before.invariant
