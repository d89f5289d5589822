-- The banks of a program's globals stand as a thread's module wants them.
use Rattle.std.proofs.Common.{◌≡◌, ℕ, ◌+◌, ◌<◌, ◌≤◌, List, [], ◌∷◌, length, take, None, sym, ap, ◌∙◌, subst, arith}
use Rattle.std.proofs.lemmas.List.{length-map}
use Rattle.c_program.specs.Tree.{GlobalVariable, Program}
use Rattle.c_program.specs.Resolved.{IsResolved}
use Rattle.c_limits.specs.Counts.{first_passed}
use Rattle.bank_partition.specs.declared.banks.Spread.{Spread}
use Rattle.bank_partition.specs.declared.banks.Banks.{Banks}
use Rattle.bank_partition.specs.Shapes.{spreads_from}
use Rattle.bank_partition.specs.Partition.{shapes, IsPartition, AreBanks}
use Rattle.bank_cores.specs.declared.bank.Shape.{Shape as Bank}
use Rattle.thread_promise.specs.Globals.{bank_total}
use Rattle.fsm_datapath.specs.Thread.{AreRightSpreads}
use Rattle.law_banks.specs.Partition.{globals_of, ArePartitioned}
use Rattle.law_banks.proofs.Banks.{same_global}
use Rattle.law_net.proofs.Globals.{power_at, first_at, as_many, long_at, from, few_elements, total_few, within, all_there}

module _ (P : Program) (counts : List ℕ) (resolved : IsResolved P) (limits : first_passed P ≡ None) (parted : Banks) (is : IsPartition P counts parted)
    (are : AreBanks parted.spreads.items (shapes parted)) where
  abbrev own : List Spread
  own = parted.spreads.items

  right_parted : AreRightSpreads (globals_of P) own
  right_parted = record {
    count = ap length is.spreads ∙ as_many counts 0 0 P.globals ∙ sym (length-map P.globals (λ (g : GlobalVariable). g.ty));
    powers = λ x s e. power_at counts 0 0 P.globals x s (from P counts resolved limits parted is are x s e);
    short = λ x s e.
        let long = long_at counts 0 0 P.globals x s (from P counts resolved limits parted is are x s e) in
        let few = few_elements P counts resolved limits parted is are in
        omega (arith, long, few);
    firsts = λ x s e.
        first_at counts 0 0 P.globals x s (from P counts resolved limits parted is are x s e)
        ∙ (let q : 0 + bank_total (take x (spreads_from counts 0 0 P.globals)) ≡ bank_total (take x (spreads_from counts 0 0 P.globals)) = omega arith in q)
        ∙ ap (λ (ss : List Spread). bank_total (take x ss)) (sym is.spreads);
    within = within P counts resolved limits parted is are;
    few = (let low = total_few P counts resolved limits parted is are in omega (arith, low));
    apart = same_global own (shapes parted) are;
    all = all_there P counts resolved limits parted is are;
  }

pub right_spreads : (P : Program) → IsResolved P → first_passed P ≡ None → (T : ℕ) (spreads : List Spread) (banks : List Bank) → ArePartitioned P T spreads banks →
    AreRightSpreads (globals_of P) spreads
right_spreads P resolved limits T spreads banks banked =
    subst (AreRightSpreads (globals_of P)) (sym banked.spread)
    (right_parted P banked.threads resolved limits banked.partition banked.is (subst (λ (ss : List Spread). AreBanks ss (shapes banked.partition)) banked.spread banked.stand))
