-- A grant to another thread leaves what a thread is told that runs.
use Rattle.std.proofs.Common.{◌≡◌, ℕ, zero, suc, Bool, true, false, nat_eq, Some, None, refl, sym, ap, ◌∙◌, arith}
use Rattle.std.specs.Prelude.{slice_index}
use Rattle.std.proofs.lemmas.Bool.Decides.{nat_tests}
use Rattle.std.proofs.lemmas.Bool.{and_parts}
use Rattle.hls_ints.specs.Residues.{bit_of}
use Rattle.core_states.specs.Machines.{IdTable, ids_eligible, ids_after, ids_tell}
use Rattle.core_states.proofs.KeptTold.{runners_stay}
use Rattle.circuit.specs.Machines.{asked}
use Rattle.thread_id_cores.specs.Machine.{thread_ids_machine, thread_ids_places}
use Rattle.thread_id_cores.specs.Laws.{RunnersStay, RunnersStayInCycle, RunnersStayTold}

is_one : (a : ℕ) → bit_of (nat_eq a 1) ≡ 1 → a ≡ 1
is_one zero e = absurd cc
is_one (suc zero) e = refl
is_one (suc (suc a)) e = let f : nat_eq (suc (suc a)) 1 ≡ false = grind (arith, nat_tests) in absurd (let g : bit_of false ≡ 1 = ap bit_of (sym f) ∙ e in cc)

pub runners : RunnersStay
runners shape s i j a ne runs may told =
    let stays = runners_stay s i j a.operation a.id a.argument ne (is_one (slice_index s.statuses i) runs) (and_parts a.asks (ids_eligible s a.operation a.id) may).1 in
    number told stays.0 stays.1
  where
    u : IdTable
    u = ids_after s j a.operation a.id a.argument

    number : (told : ℕ) → slice_index u.statuses i ≡ 1 → slice_index u.arguments i ≡ slice_index s.arguments i → ids_tell u i told ≡ ids_tell s i told
    number zero e f = ap (λ x. bit_of (nat_eq x 1)) (e ∙ sym (is_one (slice_index s.statuses i) runs))
    number (suc k) e f = f

pub in_cycle : RunnersStayInCycle
in_cycle shape s i asks None runs may told = refl
in_cycle shape s i asks (Some w) runs may told = let h = may w refl in runners shape s i w (asks w) h.0 runs h.1 told

a_true : (b : Bool) → bit_of b ≡ 1 → b ≡ true
a_true true e = refl
a_true false e = absurd cc

pub stays_told : RunnersStayTold
stays_told shape m core r h s o i j obeys shown granted runs may after same jl il =
    let there = core.keeps _ h _ same (core.moves r s o obeys shown granted) in
    core.tells h _ after there j i jl il
    ∙ in_cycle shape s i (asked (thread_ids_machine shape) (thread_ids_places shape) r) o (sym (core.tells r s obeys shown 0 i (omega arith) il) ∙ runs)
    (λ w e. ((may w e).0, a_true _ (sym (core.offers r s obeys shown w (granted.below w e)) ∙ (may w e).1))) j
    ∙ sym (core.tells r s obeys shown j i jl il)
