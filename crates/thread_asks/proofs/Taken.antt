-- Chains through the stages of acts: their links stand.
use Rattle.std.proofs.Common.{◌≡◌, ℕ, suc, ◌<◌, ◌≤◌, ◌^◌, true, false, List, length, refl, sym, ap, subst, ◌∙◌, arith}
use Rattle.std.proofs.lemmas.Option.{slice_get_within}
use Rattle.circuit.proofs.Growth.{length-spread}
use Rattle.hls_ints.specs.Types.{IntegerType, long_int}
use Rattle.block_ir.specs.declared.code.ThreadCode.{ThreadCode}
use Rattle.netlist.specs.declared.netlist.Signal.{Signal}
use Rattle.operator_wires.specs.declared.words.Word.{Word}
use Rattle.operator_wires.specs.Built.{Base, IsEarlier, AreWires, Adds, StandsAs, AddsWord}
use Rattle.operator_wires.proofs.BuiltWires.{stands_after, wires_then, room_of}
use Rattle.block_datapath.specs.declared.registers.Held.{Held}
use Rattle.block_datapath.specs.declared.registers.Registers.{Registers}
use Rattle.block_datapath.specs.Wired.{AreChains, HasWidthAt, AddsLinks}
use Rattle.thread_slots.specs.Wired.{field_width, LinkFields, AreSlots, KeepsFields}
use Rattle.thread_slots.proofs.Linked.{later_field, slots_later, fields_later}
use Rattle.thread_slots.proofs.Taken.{held_there, held_is, fields_held, field_held}

-- ---- requests

-- one more link of chains
abbrev pub SetsFields : List Signal → List Signal → List ℕ → List ℕ → ℕ → ℕ → ℕ → ℕ → Type 0
SetsFields a b before after number w at source =
    (base : Base) (registers : List Held) → AreChains a base registers before → HasWidthAt registers number w → IsEarlier a base at 1 → IsEarlier a base source w
    → AddsLinks base a b registers after

-- the fields stand behind one of a number
fields_set : (base : Base) (site_width number w at source : ℕ) (a b : List Signal) (before after : List ℕ) → SetsFields a b before after number w at source → IsEarlier a base at 1
    → IsEarlier a base source w → LinkFields base a site_width before → w ≡ field_width site_width number → KeepsFields base a b site_width after
fields_set base site_width number w at source a b before after sets bit from linked wide =
    let held = fields_held site_width (length before) in
    let long : length before ≡ length held = sym (length-spread (field_held site_width) 0 (length before)) in
    let chains : AreChains a base held before = record {
      count = long;
      each = λ x y h e f. subst (λ n. IsEarlier a base y n) (sym (held_is site_width (length before) x h e)) (linked x y f);
    } in
    let t = sets base held chains (λ h e. held_is site_width (length before) number h e ∙ sym wide) bit from in
    record {
      wires = t.wires;
      linked = λ x y e.
          let less : x < length before = subst (λ n. x < n) (t.chains.count ∙ sym long) (slice_get_within after x y e) in
          t.chains.each x y (field_held site_width x) (held_there site_width (length before) x less) e;
    }

fields_then : (base : Base) (site_width : ℕ) (a b c : List Signal) (fields : List ℕ) → AreWires base a b → KeepsFields base b c site_width fields →
    KeepsFields base a c site_width fields
fields_then base site_width a b c fields t u = record { wires = wires_then base a b c t u.wires; linked = u.linked }

pub number_linked : (a b c e : List Signal) (at whole source site_width number : ℕ) (before after : List ℕ)
    → ((base : Base) → base.first ≤ length a → 1 ≤ 32 → 32 ≤ 64 → number < 2 ^ 32 → Adds base a b 32 whole) → number < 2 ^ 32
    → ((base : Base) → IsEarlier b base whole 32 → 1 ≤ site_width → site_width ≤ 64 → (false ≡ true → 1 < 32) → Adds base b c site_width source)
    → SetsFields c e before after 0 site_width at source → (base : Base) → IsEarlier a base at 1 → 1 ≤ site_width → site_width ≤ 64 → LinkFields base a site_width before
    → KeepsFields base a e site_width after
number_linked a b c e at whole source site_width number before after constant small resized sets base bit low high linked =
    let t = constant base (room_of a base at 1 bit) (omega arith) (omega arith) small in
    let u = resized base t.stands low high (λ is. absurd cc) in
    let wires = wires_then base a b c t.wires u.wires in
    fields_then base site_width a c e after wires
    (fields_set base site_width 0 site_width at source c e before after sets (stands_after a c base at 1 wires.grows bit) u.stands
    (fields_later base a c wires.grows site_width before linked) refl)

pub value_linked : (a b c e : List Signal) (code : ThreadCode) (registers : Registers) (at j number : ℕ) (ty : IntegerType) (word wide : Word) (before after : List ℕ) →
    number ≡ suc j
    → ((base : Base) → AreSlots base a code registers → AddsWord base a b ty word) → ((base : Base) (from : IntegerType) → StandsAs b base from word →
    AddsWord base b c long_int wide)
    → SetsFields c e before after number 64 at wide.place → (base : Base) (site_width : ℕ) → AreSlots base a code registers → IsEarlier a base at 1 →
    LinkFields base a site_width before
    → KeepsFields base a e site_width after
value_linked a b c e code registers at j number ty word wide before after same operand converts sets base site_width slots bit linked =
    let t = operand base slots in
    let u = converts base ty t.word in
    let wires = wires_then base a b c t.wires u.wires in
    fields_then base site_width a c e after wires
    (fields_set base site_width number 64 at wide.place c e before after sets (stands_after a c base at 1 wires.grows bit) u.word.stands
    (fields_later base a c wires.grows site_width before linked) (sym (later_field site_width j) ∙ ap (field_width site_width) (sym same)))

pub values_linked : (a b c : List Signal) (code : ThreadCode) (registers : Registers) (at : ℕ) (before middle after : List ℕ)
    → ((base : Base) (site_width : ℕ) → AreSlots base a code registers → IsEarlier a base at 1 → LinkFields base a site_width before → KeepsFields base a b site_width middle)
    → ((base : Base) (site_width : ℕ) → AreSlots base b code registers → IsEarlier b base at 1 → LinkFields base b site_width middle → KeepsFields base b c site_width after)
    → (base : Base) (site_width : ℕ) → AreSlots base a code registers → IsEarlier a base at 1 → LinkFields base a site_width before → KeepsFields base a c site_width after
values_linked a b c code registers at before middle after first more base site_width slots bit linked =
    let t = first base site_width slots bit linked in
    fields_then base site_width a b c after t.wires
    (more base site_width (slots_later base a b t.wires.grows code registers slots) (stands_after a b base at 1 t.wires.grows bit) t.linked)
