use Rattle.std.proofs.Common.{◌≡◌, ℕ, List, Bool, Some, ◌++◌, ◌∷◌, [], length, slice_get, slice_index, ap, sym, ◌∙◌, subst, arith, length-append}
use Rattle.std.proofs.lemmas.Option.{slice_get-get_or}
use Rattle.sim_values.specs.declared.edge.Part.{Part}
use Rattle.sim_layout.specs.Placed.{numbers_of, frees_of, starts_of, words_of, IsPlaced}
use Rattle.sim_layout.proofs.PlacedInstances.{placed_more}
use Rattle.sim_layout.proofs.place.place.Goals as goal

pub loop-number-preserved : goal.loop-number-preserved
loop-number-preserved c =
    let modules = c.args.modules.now in
    let ks = c.args.tree.now.kinds.items in
    let cs = c.args.tree.now.children.items in
    let q = c.loop-number.number in
    let old = c.loop-number.placed in
    let kind = c.index.result.now in
    let child = c.index-in-loop-number.result.now in
    let count = c.loop-number.invariant.count in
    let at : slice_get ks (length old.parts.items) ≡ Some kind = ap (slice_get ks) count ∙ slice_get-get_or ks q kind (omega arith) ∙ ap Some (sym c.index.ensures) in
    let there : slice_get cs q ≡ Some child = slice_get-get_or cs q child (let z = c.requires in omega arith) ∙ ap Some (sym c.index-in-loop-number.ensures) in
    let index : slice_get cs q ≡ Some (slice_index cs q) = slice_get-get_or cs q 0 (let z = c.requires in omega arith) in
    let one : Some child ≡ Some (slice_index cs q) = sym there ∙ index in
    let child_is : child ≡ slice_index cs q = cc in
    let below : child ≡ slice_index cs (length old.parts.items) = child_is ∙ ap (slice_index cs) (sym count) in
    let o = slice_get modules kind in
    let part : Part = record { «module» = kind; spot = record { base = length old.numbers.items; memories = length old.starts.items }; children = child } in
    let new = c.push_part.new.placed in
    let more = placed_more modules ks cs old.parts.items old.numbers.items old.free.items old.words.items old.starts.items c.loop-number.invariant.placed kind child at below in
    let e = c.in_ok-push_part.ensures in
    let a = subst (λ (ps : List Part). IsPlaced modules ks cs ps (old.numbers.items ++ numbers_of o) (old.free.items ++ frees_of o) (old.words.items ++ words_of o)
    (old.starts.items ++ starts_of (length old.words.items) o)) (sym e.parts) more in
    let b = subst (λ (ns : List ℕ). IsPlaced modules ks cs new.parts.items ns (old.free.items ++ frees_of o) (old.words.items ++ words_of o)
    (old.starts.items ++ starts_of (length old.words.items) o)) (sym e.numbers) a in
    let d = subst (λ (fs : List Bool). IsPlaced modules ks cs new.parts.items new.numbers.items fs (old.words.items ++ words_of o)
    (old.starts.items ++ starts_of (length old.words.items) o)) (sym e.free) b in
    let f = subst (λ (ws : List ℕ). IsPlaced modules ks cs new.parts.items new.numbers.items new.free.items ws (old.starts.items ++ starts_of (length old.words.items) o)) (sym e.words) d in
    record {
      placed = subst (λ (ss : List ℕ). IsPlaced modules ks cs new.parts.items new.numbers.items new.free.items new.words.items ss) (sym e.starts) f;
      count = ap length e.parts ∙ omega (arith, length-append old.parts.items (part ∷ []));
    }
