use Rattle.std.proofs.Common.{◌≡◌, ℕ, ◌+◌, ◌%◌, ◌<◌, length, get_or, slice_get, Some, sym, ap, ◌∙◌, subst, arith}
use Rattle.std.proofs.lemmas.List.{length-map}
use Rattle.std.proofs.lemmas.Option.{slice_get-get_or, slice_get_within, same_Some}
use Rattle.bank_partition.specs.declared.banks.Spread.{Spread}
use Rattle.bank_partition.specs.Shapes.{shape_of}
use Rattle.bank_partition.specs.Partition.{shapes, place_at, IsElement}
use Rattle.bank_partition.specs.declared.banks.Banks.{Banks}
use Rattle.bank_partition.proofs.BanksOfSpreads.{held, placed}
use Rattle.bank_partition.proofs.banks.Banks.place.Goals as goal

record Known (b : Banks) (x j : ℕ) (s : Spread) : Type 0 where
  pub stands : slice_get b.spreads.items x ≡ Some s
  pub inside : j < s.length

known : (b : Banks) (x j : ℕ) (s : Spread) → IsElement b.spreads.items x j → s ≡ get_or b.spreads.items x s → Known b x j s
known b x j s e is =
    let l = slice_get_within b.spreads.items x e.spread e.stands in
    let stands : slice_get b.spreads.items x ≡ Some s = slice_get-get_or b.spreads.items x s l ∙ ap Some (sym is) in
    record { stands = stands; inside = subst (λ (t : Spread). j < t.length) (same_Some e.spread s (sym e.stands ∙ stands)) e.inside }

pub overflow_add-result : goal.overflow_add-result
overflow_add-result c =
    let b = c.args.self.now in
    let s = c.index-spread.result.now in
    let k = known b c.args.global c.args.index s c.requires.element c.index-spread.ensures in
    let h = held b.spreads.items (shapes b) c.requires.banks c.args.global c.args.index s k.stands k.inside in
    let l : s.first + c.args.index % s.count < length (shapes b) = slice_get_within (shapes b) _ h.bank h.found in
    let same = length-map b.banks.items shape_of in
    let v = b.banks in
    omega arith

pub nonzero_div-result : goal.nonzero_div-result
nonzero_div-result c =
    let k = known c.args.self.now c.args.global c.args.index c.index-spread.result.now c.requires.element c.index-spread.ensures in
    c.requires.banks.some c.args.global c.index-spread.result.now k.stands

pub returns-clause-place : goal.returns-clause-place
returns-clause-place c =
    let k = known c.args.self.now c.args.global c.args.index c.index-spread.result.now c.requires.element c.index-spread.ensures in
    ap (λ o. place_at o c.args.index) k.stands

pub returns-clause-inverse : goal.returns-clause-inverse
returns-clause-inverse c =
    let b = c.args.self.now in
    let s = c.index-spread.result.now in
    let k = known b c.args.global c.args.index s c.requires.element c.index-spread.ensures in
    placed b.spreads.items (shapes b) c.requires.banks c.args.global c.args.index s k.stands k.inside
