-- Stores that stand: what each function that adds some promises.
use Rattle.std.proofs.Common.{◌≡◌, ℕ, zero, suc, List, [], ◌∷◌, ◌++◌, Some, sym, ap, subst, ◌∙◌}
use Rattle.std.specs.Prelude.{Result, Ok, Err, OnOk, slice_get}
use Rattle.hls_ints.specs.Types.{IntegerType}
use Rattle.block_ir.specs.declared.code.Array.{Array}
use Rattle.block_ir.specs.declared.code.ThreadCode.{ThreadCode}
use Rattle.netlist.specs.declared.netlist.Signal.{Signal}
use Rattle.operator_wires.specs.declared.words.Word.{Word}
use Rattle.operator_wires.specs.Gives.{Grows}
use Rattle.operator_wires.specs.Built.{Base, IsEarlier, AreWires, AddsWord}
use Rattle.operator_wires.specs.Added.{IsConverted}
use Rattle.operator_wires.proofs.BuiltWires.{stands_after, wires_none, wires_then}
use Rattle.operator_wires.proofs.TypedWords.{stands_as_after}
use Rattle.block_datapath.specs.declared.registers.Registers.{Registers}
use Rattle.block_datapath.specs.declared.operands.Given.{Given}
use Rattle.block_datapath.specs.declared.states.Moment.{Moment}
use Rattle.block_datapath.specs.Wired.{AreSources, IsStateBit, IsAddress}
use Rattle.thread_slots.specs.declared.stores.Store.{Store}
use Rattle.thread_slots.specs.Stores.{IsRightStore, AreRightStores, KeepsStores, AddsStores, PutsStore}
use Rattle.thread_slots.proofs.Linked.{slots_later}
use Rattle.thread_slots.proofs.Between.{sources_of, sources_later, values_later}

-- ---- stores that are right

pub stores_later : (base : Base) (a b : List Signal) (stores : List Store) → Grows a b → AreRightStores base a stores → AreRightStores base b stores
stores_later base a b stores g right k s listed =
    let t = right k s listed in
    record {
      memory = t.memory;
      listed = t.listed;
      condition = stands_after a b base s.condition 1 g t.condition;
      wide = t.wide;
      address = stands_after a b base s.address t.wide g t.address;
      source = stands_after a b base s.source t.memory.width g t.source;
    }

one_more : (base : Base) (a : List Signal) (stores : List Store) (s : Store) → AreRightStores base a stores → IsRightStore base a s → AreRightStores base a (stores ++ s ∷ [])
one_more base a [] s right t zero x listed = let same : s ≡ x = cc in subst (IsRightStore base a) same t
one_more base a [] s right t (suc k) x listed = absurd cc
one_more base a (y ∷ stores) s right t zero x listed = right zero x listed
one_more base a (y ∷ stores) s right t (suc k) x listed = one_more base a stores s (λ j z e. right (suc j) z e) t k x listed

pub stores_kept : (base : Base) (a b : List Signal) (stores : List Store) → AreWires base a b → KeepsStores base a b stores stores
stores_kept base a b stores wires = record { wires = wires; right = λ right. stores_later base a b stores wires.grows right }

pub stores_none : (a : List Signal) (code : ThreadCode) (registers : Registers) (values : List Given) (at states : ℕ) (stores : List Store) →
    AddsStores a a code registers values at states stores stores
stores_none a code registers values at states stores base slots stand bit few = stores_kept base a a stores (wires_none base a)

pub stores_then : (a b c : List Signal) (code : ThreadCode) (registers : Registers) (values : List Given) (at states : ℕ) (before middle after : List Store)
    → AddsStores a b code registers values at states before middle → AddsStores b c code registers values at states middle after →
    AddsStores a c code registers values at states before after
stores_then a b c code registers values at states before middle after t u base slots stand bit few =
    let first = t base slots stand bit few in
    let g = first.wires.grows in
    let next = u base (slots_later base a b g code registers slots) (values_later base a b values g stand) (stands_after a b base at 1 g bit) few in
    record { wires = wires_then base a b c first.wires next.wires; right = λ right. next.right (first.right right) }

-- ---- one store

pub put_wired : (a b c d : List Signal) (registers : Registers) (number : ℕ) (array : Array) (index value source : Word) (moment : Moment) (condition address : ℕ)
    (before after : List Store)
    (s : Store) → IsStateBit a b registers moment condition → IsAddress b c index array.length address → IsConverted c d value array.ty source → s.memory ≡ number →
    s.condition ≡ condition
    → s.address ≡ address → s.source ≡ source.place → after ≡ before ++ s ∷ [] → PutsStore a d registers number array index value moment before after
put_wired a b c d registers number array index value source moment condition address before after s told addressed converted_ in_ on at from same base i v memory listed wide state
    bit few index_is
    value_is =
    let one = told base state bit few in
    let two = addressed base i (stands_as_after base a b i index one.wires index_is) in
    let to_c = wires_then base a b c one.wires two.wires in
    let three = converted_ base v (stands_as_after base a c v value to_c value_is) in
    let from_b = wires_then base b c d two.wires three.wires in
    let all = wires_then base a c d to_c three.wires in
    let own : IsRightStore base d s =
    record {
      memory = memory;
      listed = ap base.memory in_ ∙ listed;
      condition = subst (λ n. IsEarlier d base n 1) (sym on) (stands_after b d base condition 1 from_b.grows one.stands);
      wide = two.wide;
      address = subst (λ n. IsEarlier d base n two.wide) (sym at) (stands_after c d base address two.wide three.wires.grows two.stands);
      source = subst (λ n. IsEarlier d base n memory.width) (sym from) (subst (λ w. IsEarlier d base source.place w) (sym wide) three.word.stands);
    } in
    record {
      wires = all;
      right = λ right.
          subst (AreRightStores base d) (sym same) (one_more base d before s (stores_later base a d before all.grows right) own);
    }

pub put_answered : {A E : Type 0} (x : Result A E) (a b c d : List Signal) (registers : Registers) (number : ℕ) (array : Array) (index value source : Word) (moment : Moment)
    (condition address : ℕ) (before after : List Store) (s : Store) → IsStateBit a b registers moment condition → IsAddress b c index array.length address →
    IsConverted c d value array.ty source
    → s.memory ≡ number → s.condition ≡ condition → s.address ≡ address → s.source ≡ source.place → OnOk x (after ≡ before ++ s ∷ [])
    → OnOk x (PutsStore a d registers number array index value moment before after)
put_answered (Ok z) a b c d registers number array index value source moment condition address before after s told addressed made in_ on at from same =
    put_wired a b c d registers number array index value source moment condition address before after s told addressed made in_ on at from same
put_answered (Err e) a b c d registers number array index value source moment condition address before after s told addressed made in_ on at from same = tt

-- two operands, then what is put
pub written_wired : {A E : Type 0} (x : Result A E) (a b c d : List Signal) (code : ThreadCode) (registers : Registers) (values : List Given) (types : List IntegerType)
    (number : ℕ) (own : Array)
    (s t : IntegerType) (index value : Word) (moment : Moment) (before after : List Store) → types ≡ code.variables → slice_get code.arrays number ≡ Some own
    → ((base : Base) → AreSources a base types registers values → AddsWord base a b s index) →
    ((base : Base) → AreSources b base types registers values → AddsWord base b c t value)
    → OnOk x (PutsStore c d registers number own index value moment before after) → OnOk x (AddsStores a d code registers values moment.at moment.states before after)
written_wired (Err e) a b c d code registers values types number own s t index value moment before after same listed first second put = tt
written_wired (Ok z) a b c d code registers values types number own s t index value moment before after same listed first second put = λ base slots stand bit few.
    let one = first base (subst (λ (l : List IntegerType). AreSources a base l registers values) (sym same) (sources_of base a code registers slots values stand)) in
    let two = second base (subst (λ (l : List IntegerType). AreSources b base l registers values) (sym same)
    (sources_later base a b code registers values one.wires.grows slots stand)) in
    let to_c = wires_then base a b c one.wires two.wires in
    let memory = slots.arrays.each number own listed in
    let last =
    put base s t memory.0 memory.1 memory.2 (stands_after a c base registers.state.register registers.state.width to_c.grows slots.state)
    (stands_after a c base moment.at 1 to_c.grows bit) few
    (stands_as_after base b c s index two.wires one.word) two.word in
    record { wires = wires_then base a c d to_c last.wires; right = λ right. last.right (stores_later base a c before to_c.grows right) }
