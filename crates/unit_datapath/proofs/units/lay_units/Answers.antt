use Rattle.std.proofs.Common.{refl, true, false, [], ◌∷◌}
use Rattle.hls_ints.specs.Types.{int_type, unsigned_int, long_int, unsigned_long}
use Rattle.unit_datapath.proofs.Counted.{kind_for, not_among}
use Rattle.unit_datapath.proofs.AllUnits.{laid_none, laid_more, all_laid}
use Rattle.unit_datapath.proofs.units.lay_units.Goals as goal

pub returns : goal.returns
returns c =
    let code = c.args.code.now in
    let registers = c.args.registers.now in
    let plan = c.args.planned.now in
    let a = c.args.wires.now.signals in
    let one = kind_for false unsigned_int in
    let two = kind_for false unsigned_long in
    let three = kind_for true int_type in
    let four = kind_for true unsigned_int in
    let five = kind_for true long_int in
    let six = kind_for true unsigned_long in
    let none = laid_none code registers plan a c.new-all.result c.new-all.ensures in
    let first = laid_more code registers plan [] c.multipliers-short.result one a a c.lay_kind.new.wires.signals c.new-all.result c.lay_kind.new.all none
    c.multipliers-short.ensures
    c.in_ok-lay_kind.ensures (not_among [] one refl) in
    let second = laid_more code registers plan (one ∷ []) c.multipliers-long.result two a c.lay_kind.new.wires.signals c.lay_kind-2.new.wires.signals c.lay_kind.new.all
    c.lay_kind-2.new.all first
    c.multipliers-long.ensures c.in_ok-lay_kind-2.ensures (not_among (one ∷ []) two refl) in
    let third = laid_more code registers plan (two ∷ one ∷ []) c.dividers-ints.result three a c.lay_kind-2.new.wires.signals c.lay_kind-3.new.wires.signals c.lay_kind-2.new.all
    c.lay_kind-3.new.all second c.dividers-ints.ensures c.in_ok-lay_kind-3.ensures (not_among (two ∷ one ∷ []) three refl) in
    let fourth = laid_more code registers plan (three ∷ two ∷ one ∷ []) c.dividers-unsigned_ints.result four a c.lay_kind-3.new.wires.signals c.lay_kind-4.new.wires.signals
    c.lay_kind-3.new.all
    c.lay_kind-4.new.all third c.dividers-unsigned_ints.ensures c.in_ok-lay_kind-4.ensures (not_among (three ∷ two ∷ one ∷ []) four refl) in
    let fifth = laid_more code registers plan (four ∷ three ∷ two ∷ one ∷ []) c.dividers-longs.result five a c.lay_kind-4.new.wires.signals c.lay_kind-5.new.wires.signals
    c.lay_kind-4.new.all
    c.lay_kind-5.new.all fourth c.dividers-longs.ensures c.in_ok-lay_kind-5.ensures (not_among (four ∷ three ∷ two ∷ one ∷ []) five refl) in
    let sixth = laid_more code registers plan (five ∷ four ∷ three ∷ two ∷ one ∷ []) c.dividers-unsigned_longs.result six a c.lay_kind-5.new.wires.signals
    c.lay_kind-6.new.wires.signals
    c.lay_kind-5.new.all c.lay_kind-6.new.all fifth c.dividers-unsigned_longs.ensures c.in_ok-lay_kind-6.ensures (not_among (five ∷ four ∷ three ∷ two ∷ one ∷ []) six refl) in
    all_laid code registers plan a c.lay_kind-6.new.wires.signals c.lay_kind-6.new.all sixth
