use Rattle.std.proofs.Common.{◌≡◌, List, ℕ, refl}
use Rattle.std.specs.Prelude.{replicate}
use Rattle.operator_wires.proofs.MadeWords.{of_ok}
use Rattle.thread_requests.specs.Banks.{AreOwnWants}
use Rattle.thread_requests.proofs.BankAsks.{one_wanted, never_wanted}
use Rattle.thread_requests.proofs.banks.own_wants.Goals as goal

pub returns-then-bits-eq0 : goal.returns-then-bits-eq0
returns-then-bits-eq0 c =
    let a = c.args.wires.now.signals in
    of_ok c.equal_places.result (λ (l : List ℕ). l ≡ replicate c.args.count c.args.want) (AreOwnWants a a c.args.want c.args.index c.args.count)
    (λ l e. one_wanted a c.args.want c.args.index c.bank_bits-bits.result c.args.count l c.if-bits-eq0.true c.bank_bits-bits.ensures.power e)
    c.equal_places.ensures

pub returns-then-is_never : goal.returns-then-is_never
returns-then-is_never c =
    let a = c.args.wires.now.signals in
    of_ok c.equal_places-then-is_never.result (λ (l : List ℕ). l ≡ replicate c.args.count c.args.want) (AreOwnWants a a c.args.want c.args.index c.args.count)
    (λ l e. never_wanted a c.args.want c.args.index c.args.count l (c.if-is_never.ensures refl) e)
    c.equal_places-then-is_never.ensures
