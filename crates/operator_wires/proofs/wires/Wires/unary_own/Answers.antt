use Rattle.std.proofs.Common.{ap, refl, true}
use Rattle.c_program.specs.declared.tree.UnaryOperator.TheVariants.{Minus, Complement, Not}
use Rattle.circuit.specs.Readings.{width}
use Rattle.hls_ints.specs.Words.{word_difference, word_complement, word_equal}
use Rattle.operator_wires.proofs.MadeWords.{unary_arm}
use Rattle.operator_wires.proofs.OperatorWords.{unary_arm as adds_arm, plus_kept}
use Rattle.operator_wires.proofs.wires.Wires.unary_own.Goals as goal

pub returns-in-Minus-clause-shows : goal.returns-in-Minus-clause-shows
returns-in-Minus-clause-shows c =
    let own = c.args.own in
    unary_arm c.negated.result c.args.self.now.signals c.negated.new.self.signals own c.args.operator Minus own.width own.signed (λ m r. word_difference own.width 0 (r.signal own.place))
    c.in-Minus.is c.negated.ensures.shows (λ ty e. e) (λ ty e. e) (λ ty m r e w. ap (λ k. word_difference k 0 (r.signal own.place)) e)

pub returns-in-Complement-clause-shows : goal.returns-in-Complement-clause-shows
returns-in-Complement-clause-shows c =
    let own = c.args.own in
    unary_arm c.complement.result c.args.self.now.signals c.complement.new.self.signals own c.args.operator Complement own.width own.signed
    (λ m r. word_complement (width m own.place) (r.signal own.place)) c.in-Complement.is c.complement.ensures.shows (λ ty e. e) (λ ty e. e)
    (λ ty m r e w. ap (λ k. word_complement k (r.signal own.place)) w)

pub returns-in-Not-clause-shows : goal.returns-in-Not-clause-shows
returns-in-Not-clause-shows c =
    let own = c.args.own in
    unary_arm c.zero_word.result c.args.self.now.signals c.zero_word.new.self.signals own c.args.operator Not 32 true (λ m r. word_equal (width m own.place) (r.signal own.place) 0)
    c.in-Not.is c.zero_word.ensures.shows (λ ty e. refl) (λ ty e. refl) (λ ty m r e w. ap (λ k. word_equal k (r.signal own.place) 0) w)

pub returns-in-Minus-clause-wired : goal.returns-in-Minus-clause-wired
returns-in-Minus-clause-wired c =
    adds_arm c.negated.result c.args.self.now.signals c.negated.new.self.signals c.args.own c.args.operator Minus c.in-Minus.is c.negated.ensures.wired

pub returns-in-Complement-clause-wired : goal.returns-in-Complement-clause-wired
returns-in-Complement-clause-wired c =
    adds_arm c.complement.result c.args.self.now.signals c.complement.new.self.signals c.args.own c.args.operator Complement c.in-Complement.is c.complement.ensures.wired

pub returns-in-Not-clause-wired : goal.returns-in-Not-clause-wired
returns-in-Not-clause-wired c =
    adds_arm c.zero_word.result c.args.self.now.signals c.zero_word.new.self.signals c.args.own c.args.operator Not c.in-Not.is c.zero_word.ensures.wired

pub returns-in-Plus-clause-wired : goal.returns-in-Plus-clause-wired
returns-in-Plus-clause-wired c = plus_kept c.args.self.now.signals c.args.own c.args.operator c.in-Plus.is
