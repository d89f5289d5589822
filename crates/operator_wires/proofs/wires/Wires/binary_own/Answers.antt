use Rattle.std.proofs.Common.{ap, refl, if◌then◌else◌}
use Rattle.c_program.specs.declared.tree.BinaryOperator.TheVariants as operator
use Rattle.verilog_tree.specs.declared.tree.BinaryOperator.TheVariants as gate
use Rattle.verilog_tree.specs.declared.tree.DivisionOperator.TheVariants.{Quotient, Remainder}
use Rattle.circuit.specs.Readings.{width, divided, signed_divided}
use Rattle.hls_ints.specs.Words.{word_complement, word_equal, right_shift, arithmetic_shift}
use Rattle.operator_wires.specs.Numbers.{less_number}
use Rattle.operator_wires.proofs.MadeWords.{binary_arm, gate_arm, test_arm, less_is, right_less_is, signs_is}
use Rattle.operator_wires.proofs.OperatorWords.{gate_arm as gate_adds, shift_arm, shift_left, division_arm, test_arm as test_adds, turned_arm}
use Rattle.operator_wires.proofs.wires.Wires.binary_own.Goals as goal

pub returns-in-Multiply-clause-shows : goal.returns-in-Multiply-clause-shows
returns-in-Multiply-clause-shows c =
    gate_arm c.gate.result c.args.self.now.signals c.gate.new.self.signals c.args.left c.args.right c.args.operator operator.Multiply gate.Multiply c.in-Multiply.is c.gate.ensures.shows (λ
    s. refl) (λ s n k. refl)

pub returns-in-Divide-clause-shows : goal.returns-in-Divide-clause-shows
returns-in-Divide-clause-shows c =
    let left = c.args.left in
    let right = c.args.right in
    binary_arm c.divided.result c.args.self.now.signals c.divided.new.self.signals c.args.left c.args.right c.args.operator operator.Divide left.width left.signed
    (λ m r. if left.signed then signed_divided Quotient (width m left.place) (r.signal left.place) (r.signal right.place)
    else divided Quotient (width m left.place) (r.signal left.place) (r.signal right.place)) c.in-Divide.is c.divided.ensures.shows (λ s e. e) (λ s e. e)
    (λ s t m r i is. signs_is s left.signed (width m left.place) (r.signal left.place) (r.signal right.place) (signed_divided Quotient) (divided Quotient) is.signed is.wide)

pub returns-in-Remainder-clause-shows : goal.returns-in-Remainder-clause-shows
returns-in-Remainder-clause-shows c =
    let left = c.args.left in
    let right = c.args.right in
    binary_arm c.divided-in-Remainder.result c.args.self.now.signals c.divided-in-Remainder.new.self.signals c.args.left c.args.right c.args.operator operator.Remainder left.width left.signed
    (λ m r. if left.signed then signed_divided Remainder (width m left.place) (r.signal left.place) (r.signal right.place)
    else divided Remainder (width m left.place) (r.signal left.place) (r.signal right.place)) c.in-Remainder.is c.divided-in-Remainder.ensures.shows (λ s e. e) (λ s e. e)
    (λ s t m r i is. signs_is s left.signed (width m left.place) (r.signal left.place) (r.signal right.place) (signed_divided Remainder) (divided Remainder) is.signed is.wide)

pub returns-in-Add-clause-shows : goal.returns-in-Add-clause-shows
returns-in-Add-clause-shows c =
    gate_arm c.gate-in-Add.result c.args.self.now.signals c.gate-in-Add.new.self.signals c.args.left c.args.right c.args.operator operator.Add gate.Add c.in-Add.is
    c.gate-in-Add.ensures.shows (λ s. refl) (λ s n k. refl)

pub returns-in-Subtract-clause-shows : goal.returns-in-Subtract-clause-shows
returns-in-Subtract-clause-shows c =
    gate_arm c.gate-in-Subtract.result c.args.self.now.signals c.gate-in-Subtract.new.self.signals c.args.left c.args.right c.args.operator operator.Subtract gate.Subtract
    c.in-Subtract.is c.gate-in-Subtract.ensures.shows (λ s. refl) (λ s n k. refl)

pub returns-in-ShiftLeft-clause-shows : goal.returns-in-ShiftLeft-clause-shows
returns-in-ShiftLeft-clause-shows c =
    gate_arm c.gate-in-ShiftLeft.result c.args.self.now.signals c.gate-in-ShiftLeft.new.self.signals c.args.left c.args.right c.args.operator operator.ShiftLeft gate.ShiftLeft
    c.in-ShiftLeft.is c.gate-in-ShiftLeft.ensures.shows (λ s. refl) (λ s n k. refl)

pub returns-in-ShiftRight-clause-shows : goal.returns-in-ShiftRight-clause-shows
returns-in-ShiftRight-clause-shows c =
    let left = c.args.left in
    let right = c.args.right in
    binary_arm c.shifted_right.result c.args.self.now.signals c.shifted_right.new.self.signals c.args.left c.args.right c.args.operator operator.ShiftRight left.width left.signed
    (λ m r. if left.signed then arithmetic_shift (width m left.place) (r.signal left.place) (r.signal right.place)
    else right_shift (width m left.place) (r.signal left.place) (r.signal right.place)) c.in-ShiftRight.is c.shifted_right.ensures.shows (λ s e. e) (λ s e. e)
    (λ s t m r i is. signs_is s left.signed (width m left.place) (r.signal left.place) (r.signal right.place) arithmetic_shift right_shift is.signed is.wide)

pub returns-in-Less-clause-shows : goal.returns-in-Less-clause-shows
returns-in-Less-clause-shows c =
    let left = c.args.left in
    let right = c.args.right in
    test_arm c.less_word.result c.args.self.now.signals c.less_word.new.self.signals c.args.left c.args.right c.args.operator operator.Less
    (λ m r. less_number left.signed (width m left.place) (r.signal left.place) (r.signal right.place)) c.in-Less.is c.less_word.ensures.shows (λ s. refl)
    (λ s t m r i is. less_is s left.signed (width m left.place) (r.signal left.place) (r.signal right.place) is.signed is.wide)

pub returns-in-Greater-clause-shows : goal.returns-in-Greater-clause-shows
returns-in-Greater-clause-shows c =
    let left = c.args.left in
    let right = c.args.right in
    test_arm c.less_word-in-Greater.result c.args.self.now.signals c.less_word-in-Greater.new.self.signals c.args.left c.args.right c.args.operator operator.Greater
    (λ m r. less_number right.signed (width m right.place) (r.signal right.place) (r.signal left.place)) c.in-Greater.is c.less_word-in-Greater.ensures.shows (λ s. refl)
    (λ s t m r i is. right_less_is s t m left right (r.signal right.place) (r.signal left.place) (i refl) is)

pub returns-in-LessEqual-clause-shows : goal.returns-in-LessEqual-clause-shows
returns-in-LessEqual-clause-shows c =
    let left = c.args.left in
    let right = c.args.right in
    test_arm c.not_less_word.result c.args.self.now.signals c.not_less_word.new.self.signals c.args.left c.args.right c.args.operator operator.LessEqual
    (λ m r. word_complement 1 (less_number right.signed (width m right.place) (r.signal right.place) (r.signal left.place))) c.in-LessEqual.is c.not_less_word.ensures.shows (λ s. refl)
    (λ s t m r i is. ap (word_complement 1) (right_less_is s t m left right (r.signal right.place) (r.signal left.place) (i refl) is))

pub returns-in-GreaterEqual-clause-shows : goal.returns-in-GreaterEqual-clause-shows
returns-in-GreaterEqual-clause-shows c =
    let left = c.args.left in
    let right = c.args.right in
    test_arm c.not_less_word-in-GreaterEqual.result c.args.self.now.signals c.not_less_word-in-GreaterEqual.new.self.signals c.args.left c.args.right c.args.operator operator.GreaterEqual
    (λ m r. word_complement 1 (less_number left.signed (width m left.place) (r.signal left.place) (r.signal right.place))) c.in-GreaterEqual.is c.not_less_word-in-GreaterEqual.ensures.shows
    (λ s. refl)
    (λ s t m r i is. ap (word_complement 1) (less_is s left.signed (width m left.place) (r.signal left.place) (r.signal right.place) is.signed is.wide))

pub returns-in-Equal-clause-shows : goal.returns-in-Equal-clause-shows
returns-in-Equal-clause-shows c =
    let left = c.args.left in
    let right = c.args.right in
    test_arm c.equal_word.result c.args.self.now.signals c.equal_word.new.self.signals c.args.left c.args.right c.args.operator operator.Equal
    (λ m r. word_equal (width m left.place) (r.signal left.place) (r.signal right.place)) c.in-Equal.is c.equal_word.ensures.shows (λ s. refl)
    (λ s t m r i is. ap (λ w. word_equal w (r.signal left.place) (r.signal right.place)) is.wide)

pub returns-in-NotEqual-clause-shows : goal.returns-in-NotEqual-clause-shows
returns-in-NotEqual-clause-shows c =
    let left = c.args.left in
    let right = c.args.right in
    test_arm c.unequal_word.result c.args.self.now.signals c.unequal_word.new.self.signals c.args.left c.args.right c.args.operator operator.NotEqual
    (λ m r. word_complement 1 (word_equal (width m left.place) (r.signal left.place) (r.signal right.place))) c.in-NotEqual.is c.unequal_word.ensures.shows (λ s. refl)
    (λ s t m r i is. ap (word_complement 1) (ap (λ w. word_equal w (r.signal left.place) (r.signal right.place)) is.wide))

pub returns-in-And-clause-shows : goal.returns-in-And-clause-shows
returns-in-And-clause-shows c =
    gate_arm c.gate-in-And.result c.args.self.now.signals c.gate-in-And.new.self.signals c.args.left c.args.right c.args.operator operator.And gate.And c.in-And.is
    c.gate-in-And.ensures.shows (λ s. refl) (λ s n k. refl)

pub returns-in-ExclusiveOr-clause-shows : goal.returns-in-ExclusiveOr-clause-shows
returns-in-ExclusiveOr-clause-shows c =
    gate_arm c.gate-in-ExclusiveOr.result c.args.self.now.signals c.gate-in-ExclusiveOr.new.self.signals c.args.left c.args.right c.args.operator operator.ExclusiveOr gate.Xor
    c.in-ExclusiveOr.is c.gate-in-ExclusiveOr.ensures.shows (λ s. refl) (λ s n k. refl)

pub returns-in-InclusiveOr-clause-shows : goal.returns-in-InclusiveOr-clause-shows
returns-in-InclusiveOr-clause-shows c =
    gate_arm c.gate-in-InclusiveOr.result c.args.self.now.signals c.gate-in-InclusiveOr.new.self.signals c.args.left c.args.right c.args.operator operator.InclusiveOr gate.Or
    c.in-InclusiveOr.is c.gate-in-InclusiveOr.ensures.shows (λ s. refl) (λ s n k. refl)

pub returns-in-Multiply-clause-wired : goal.returns-in-Multiply-clause-wired
returns-in-Multiply-clause-wired c =
    gate_adds c.gate.result c.args.self.now.signals c.gate.new.self.signals c.args.left c.args.right c.args.operator operator.Multiply gate.Multiply c.in-Multiply.is c.gate.ensures.wired (λ
    s. refl) refl (λ base w p q. (p, q))

pub returns-in-Add-clause-wired : goal.returns-in-Add-clause-wired
returns-in-Add-clause-wired c =
    gate_adds c.gate-in-Add.result c.args.self.now.signals c.gate-in-Add.new.self.signals c.args.left c.args.right c.args.operator operator.Add gate.Add c.in-Add.is
    c.gate-in-Add.ensures.wired (λ s. refl) refl (λ base w p q. (p, q))

pub returns-in-Subtract-clause-wired : goal.returns-in-Subtract-clause-wired
returns-in-Subtract-clause-wired c =
    gate_adds c.gate-in-Subtract.result c.args.self.now.signals c.gate-in-Subtract.new.self.signals c.args.left c.args.right c.args.operator operator.Subtract gate.Subtract c.in-Subtract.is
    c.gate-in-Subtract.ensures.wired (λ s. refl) refl (λ base w p q. (p, q))

pub returns-in-And-clause-wired : goal.returns-in-And-clause-wired
returns-in-And-clause-wired c =
    gate_adds c.gate-in-And.result c.args.self.now.signals c.gate-in-And.new.self.signals c.args.left c.args.right c.args.operator operator.And gate.And c.in-And.is
    c.gate-in-And.ensures.wired (λ s. refl) refl (λ base w p q. (p, q))

pub returns-in-ExclusiveOr-clause-wired : goal.returns-in-ExclusiveOr-clause-wired
returns-in-ExclusiveOr-clause-wired c =
    gate_adds c.gate-in-ExclusiveOr.result c.args.self.now.signals c.gate-in-ExclusiveOr.new.self.signals c.args.left c.args.right c.args.operator operator.ExclusiveOr gate.Xor
    c.in-ExclusiveOr.is c.gate-in-ExclusiveOr.ensures.wired (λ s. refl) refl (λ base w p q. (p, q))

pub returns-in-InclusiveOr-clause-wired : goal.returns-in-InclusiveOr-clause-wired
returns-in-InclusiveOr-clause-wired c =
    gate_adds c.gate-in-InclusiveOr.result c.args.self.now.signals c.gate-in-InclusiveOr.new.self.signals c.args.left c.args.right c.args.operator operator.InclusiveOr gate.Or
    c.in-InclusiveOr.is c.gate-in-InclusiveOr.ensures.wired (λ s. refl) refl (λ base w p q. (p, q))

pub returns-in-ShiftLeft-clause-wired : goal.returns-in-ShiftLeft-clause-wired
returns-in-ShiftLeft-clause-wired c =
    shift_arm c.gate-in-ShiftLeft.result c.args.self.now.signals c.gate-in-ShiftLeft.new.self.signals c.args.left c.args.right c.args.operator operator.ShiftLeft c.in-ShiftLeft.is
    (shift_left c.gate-in-ShiftLeft.result c.args.self.now.signals c.gate-in-ShiftLeft.new.self.signals c.args.left c.args.right c.gate-in-ShiftLeft.ensures.wired) (λ s. refl)

pub returns-in-ShiftRight-clause-wired : goal.returns-in-ShiftRight-clause-wired
returns-in-ShiftRight-clause-wired c =
    shift_arm c.shifted_right.result c.args.self.now.signals c.shifted_right.new.self.signals c.args.left c.args.right c.args.operator operator.ShiftRight c.in-ShiftRight.is
    c.shifted_right.ensures.wired (λ s. refl)

pub returns-in-Divide-clause-wired : goal.returns-in-Divide-clause-wired
returns-in-Divide-clause-wired c =
    division_arm c.divided.result c.args.self.now.signals c.divided.new.self.signals c.args.left c.args.right c.args.operator operator.Divide c.in-Divide.is c.divided.ensures.wired (λ s. refl) refl

pub returns-in-Remainder-clause-wired : goal.returns-in-Remainder-clause-wired
returns-in-Remainder-clause-wired c =
    division_arm c.divided-in-Remainder.result c.args.self.now.signals c.divided-in-Remainder.new.self.signals c.args.left c.args.right c.args.operator operator.Remainder c.in-Remainder.is
    c.divided-in-Remainder.ensures.wired (λ s. refl) refl

pub returns-in-Less-clause-wired : goal.returns-in-Less-clause-wired
returns-in-Less-clause-wired c =
    test_adds c.less_word.result c.args.self.now.signals c.less_word.new.self.signals c.args.left c.args.right c.args.operator operator.Less c.in-Less.is c.less_word.ensures.wired (λ s. refl) refl

pub returns-in-Greater-clause-wired : goal.returns-in-Greater-clause-wired
returns-in-Greater-clause-wired c =
    turned_arm c.less_word-in-Greater.result c.args.self.now.signals c.less_word-in-Greater.new.self.signals c.args.left c.args.right c.args.operator operator.Greater c.in-Greater.is
    c.less_word-in-Greater.ensures.wired (λ s. refl) refl

pub returns-in-LessEqual-clause-wired : goal.returns-in-LessEqual-clause-wired
returns-in-LessEqual-clause-wired c =
    turned_arm c.not_less_word.result c.args.self.now.signals c.not_less_word.new.self.signals c.args.left c.args.right c.args.operator operator.LessEqual c.in-LessEqual.is
    c.not_less_word.ensures.wired (λ s. refl) refl

pub returns-in-GreaterEqual-clause-wired : goal.returns-in-GreaterEqual-clause-wired
returns-in-GreaterEqual-clause-wired c =
    test_adds c.not_less_word-in-GreaterEqual.result c.args.self.now.signals c.not_less_word-in-GreaterEqual.new.self.signals c.args.left c.args.right c.args.operator operator.GreaterEqual
    c.in-GreaterEqual.is c.not_less_word-in-GreaterEqual.ensures.wired (λ s. refl) refl

pub returns-in-Equal-clause-wired : goal.returns-in-Equal-clause-wired
returns-in-Equal-clause-wired c =
    test_adds c.equal_word.result c.args.self.now.signals c.equal_word.new.self.signals c.args.left c.args.right c.args.operator operator.Equal c.in-Equal.is c.equal_word.ensures.wired (λ
    s. refl) refl

pub returns-in-NotEqual-clause-wired : goal.returns-in-NotEqual-clause-wired
returns-in-NotEqual-clause-wired c =
    test_adds c.unequal_word.result c.args.self.now.signals c.unequal_word.new.self.signals c.args.left c.args.right c.args.operator operator.NotEqual c.in-NotEqual.is
    c.unequal_word.ensures.wired (λ s. refl) refl
