use Rattle.std.proofs.Common.{◌≡◌, ℕ, ◌+◌, List, [], length, if◌then◌else◌, sym, subst, ◌∙◌}
use Rattle.hls_ints.specs.Types.{IntegerType}
use Rattle.bank_partition.specs.declared.banks.Spread.{Spread}
use Rattle.block_datapath.specs.declared.registers.Registers.{Registers}
use Rattle.thread_slots.specs.Slots.{LaysSlot, AreKeptWidths}
use Rattle.thread_slots.specs.Wired.{AreFit, Behind, IsSlotRegister}
use Rattle.thread_layout.specs.Parts.{LaysSlotOf}
use Rattle.thread_layout.proofs.FourFacts.{of_four}
use Rattle.thread_layout.proofs.layout.lay_slot.Goals as goal

pub returns : goal.returns
returns c =
    let code = c.args.code.now in
    let plan = c.args.planned.now in
    let shape = c.args.shape.now in
    let words = c.args.words in
    let a = c.args.wires.now.signals in
    let b = c.lay_registers.new.wires.signals in
    let first : ℕ = if shape.is_main then 0 else length code.stages in
    let kept = c.as_slice-2.result.now in
    let kept_is : kept ≡ c.in_ok-kept.kept = c.as_slice-2.ensures in
    let own : c.in_ok-own.own ≡ shape.spreads = c.in_ok-own.ensures ∙ c.as_slice.ensures in
    of_four c.lay_registers.result (LaysSlot code plan first kept words c.in_ok-own.own a b)
    (λ registers. length b ≡ length a + 3 + length code.variables + length kept)
    (λ (registers : Registers). registers.units ≡ [])
    (λ registers. AreFit kept → Behind (IsSlotRegister (length a)) a b)
    (LaysSlotOf shape code plan words a b)
    (λ registers slot long units behind. record {
      kept_widths = kept;
      kept =
          subst (λ (z : List ℕ). AreKeptWidths shape.globals code plan (length code.stages) z) (sym kept_is)
          (subst (λ (z : List IntegerType). AreKeptWidths z code plan (length code.stages) c.in_ok-kept.kept) c.as_slice-globals.ensures c.in_ok-kept.ensures.widths);
      slot = subst (λ (z : List Spread). LaysSlot code plan first kept words z a b registers) own slot;
      long = long;
      behind = behind (subst AreFit (sym kept_is) c.in_ok-kept.ensures.fit);
      units = units;
    })
    c.lay_registers.ensures.slot c.lay_registers.ensures.long c.lay_registers.ensures.units c.lay_registers.ensures.wired
