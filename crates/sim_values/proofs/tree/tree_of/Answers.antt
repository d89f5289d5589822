use Rattle.std.proofs.Common.{ℕ, List, ◌++◌, ◌∷◌, [], length, slice_get, slice_index_or, ap, sym, ◌∙◌, subst, arith, length-append}
use Rattle.std.proofs.lemmas.Option.{slice_get-get_or}
use Rattle.sim_values.specs.Tree.{instances_of, kinds_of, IsGrown}
use Rattle.sim_values.proofs.Trees.{grown_more}
use Rattle.sim_values.proofs.tree.tree_of.Goals as goal

pub loop-place-preserved : goal.loop-place-preserved
loop-place-preserved c =
    let ks = c.loop-place.tree.kinds.items in
    let cs = c.loop-place.tree.children.items in
    let kind = slice_index_or ks c.loop-place.place 0 in
    let count = c.loop-place.invariant.count in
    let at = ap (slice_get ks) count ∙ slice_get-get_or ks c.loop-place.place 0 (omega arith) in
    let grown = grown_more c.args.modules.now c.args.top ks cs kind c.loop-place.invariant.grown at in
    record {
      grown = subst (λ (us : List ℕ). IsGrown c.args.modules.now c.args.top us c.visit.new.tree.children.items) (sym c.in_ok-visit.ensures.kinds)
          (subst (λ (us : List ℕ). IsGrown c.args.modules.now c.args.top (ks ++ kinds_of (instances_of (slice_get c.args.modules.now kind))) us) (sym c.in_ok-visit.ensures.children) grown);
      count = ap length c.in_ok-visit.ensures.children ∙ omega (arith, length-append cs (length ks ∷ []));
    }
