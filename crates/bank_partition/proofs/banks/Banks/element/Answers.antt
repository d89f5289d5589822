use Rattle.std.proofs.Common.{◌≡◌, ℕ, ◌+◌, ◌*◌, ◌<◌, List, length, get_or, slice_get, Some, refl, sym, ap, ◌∙◌, subst, arith}
use Rattle.std.specs.Prelude.{option_map}
use Rattle.std.proofs.lemmas.Option.{slice_get-map, slice_get_read, same_Some}
use Rattle.bank_partition.specs.declared.banks.Bank.{Bank}
use Rattle.bank_partition.specs.declared.banks.Banks.{Banks}
use Rattle.bank_partition.specs.declared.banks.Element.{Element}
use Rattle.bank_partition.specs.Shapes.{shape_of}
use Rattle.bank_partition.specs.Partition.{shapes, place_at, place_of}
use Rattle.bank_partition.proofs.BanksOfSpreads.{element_is, no_element, found_back}
use Rattle.bank_partition.proofs.banks.Banks.element.Goals as goal

stands : (b : Banks) (bank : ℕ) (xs : List Bank) (h : Bank) → xs ≡ b.banks.items → bank < length xs → h ≡ get_or xs bank h → slice_get (shapes b) bank ≡ Some (shape_of h)
stands b bank xs h all l is =
    slice_get-map shape_of b.banks.items bank
    ∙ ap (option_map shape_of) (ap (λ (ys : List Bank). slice_get ys bank) (sym all) ∙ slice_get_read xs (length xs) bank h refl l is)

pub overflow_mul-result : goal.overflow_mul-result
overflow_mul-result c =
    let b = c.args.self.now in
    let h = c.in_ok-holder.holder.now in
    let look = c.in_ok-holder.ensures.lookup in
    let at = stands b c.args.bank c.deref.result.now h c.deref.ensures.value look.3.0 look.1 in
    let k = found_back b.spreads.items (shapes b) c.requires.banks c.args.bank c.args.address (shape_of h) at c.if-address-holder.true in
    let short = c.requires.banks.short h.global k.0 k.1 in
    let inside = k.2 in
    omega arith

pub overflow_add-result : goal.overflow_add-result
overflow_add-result c =
    let b = c.args.self.now in
    let h = c.in_ok-holder.holder.now in
    let look = c.in_ok-holder.ensures.lookup in
    let at = stands b c.args.bank c.deref.result.now h c.deref.ensures.value look.3.0 look.1 in
    let k = found_back b.spreads.items (shapes b) c.requires.banks c.args.bank c.args.address (shape_of h) at c.if-address-holder.true in
    let short = c.requires.banks.short h.global k.0 k.1 in
    let inside = k.2 in
    omega arith

pub returns-then-address-holder-clause-element : goal.returns-then-address-holder-clause-element
returns-then-address-holder-clause-element c =
    let h = c.in_ok-holder.holder.now in
    let look = c.in_ok-holder.ensures.lookup in
    let at = stands c.args.self.now c.args.bank c.deref.result.now h c.deref.ensures.value look.3.0 look.1 in
    element_is (shapes c.args.self.now) c.args.bank c.args.address (shape_of h) at c.if-address-holder.true

pub returns-then-address-holder-clause-inverse : goal.returns-then-address-holder-clause-inverse
returns-then-address-holder-clause-inverse c e q =
    let b = c.args.self.now in
    let h = c.in_ok-holder.holder.now in
    let look = c.in_ok-holder.ensures.lookup in
    let at = stands b c.args.bank c.deref.result.now h c.deref.ensures.value look.3.0 look.1 in
    let k = found_back b.spreads.items (shapes b) c.requires.banks c.args.bank c.args.address (shape_of h) at c.if-address-holder.true in
    let index = c.args.address * h.count + h.number in
    let own : Element = record { global = h.global; index = index } in
    subst (λ (y : Element). place_of b.spreads.items y.global y.index ≡ Some (record { bank = c.args.bank; address = c.args.address })) (same_Some own e q)
    (ap (λ o. place_at o index) k.1 ∙ ap Some k.3)

pub returns-else-address-holder-clause-element : goal.returns-else-address-holder-clause-element
returns-else-address-holder-clause-element c =
    let h = c.in_ok-holder.holder.now in
    let look = c.in_ok-holder.ensures.lookup in
    let at = stands c.args.self.now c.args.bank c.deref.result.now h c.deref.ensures.value look.3.0 look.1 in
    no_element (shapes c.args.self.now) c.args.bank c.args.address (shape_of h) at c.if-address-holder.false
