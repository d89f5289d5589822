use Rattle.std.proofs.Common.{nat_eq, slice_index, refl, ap, sym, ◌∙◌, subst}
use Rattle.std.proofs.lemmas.Option.{same_Some}
use Rattle.verilog_meaning.specs.Cycles.{Choice, IsSettled}
use Rattle.verilog_meaning.specs.Threads.{slot, alone}
use Rattle.sim_values.specs.Stands.{word_of}
use Rattle.sim_layout.specs.Running.{Running, flat, state_of, choice_of, settled_run, IsSameState}
use Rattle.cycle_sim.proofs.Lift.{flat_settled}
use Rattle.cycle_sim.proofs.Cycles.{settled_same}
use Rattle.slot_sim.proofs.need.tells_need.Goals as goal

pub returns-clause-need : goal.returns-clause-need
returns-clause-need c = λ threads i of place.
    let under = c.settle_under.ensures in
    let r = c.args.sim.now in
    let st = under.stands in
    let choice : Choice = choice_of c.args.choice.now in
    let after = settled_run choice r in
    let settled : IsSettled r.modules st.top (state_of r) choice (state_of after) =
    flat_settled r.modules st.top r.parts r.steps st.free r.prefs _ st.plan st.right.fits st.right.narrow choice under.fits.few (under.fits.numbers st.top st.is_top) (flat r) refl st.state in
    let there : IsSettled r.modules place.top (state_of r) (alone i) (state_of after) =
    subst (λ d. IsSettled r.modules place.top (state_of r) d (state_of after)) of
    (subst (λ t. IsSettled r.modules t (state_of r) choice (state_of after)) (same_Some st.top place.top (sym st.is_top ∙ place.is_top)) settled) in
    let number = slice_index after.numbers (word_of r.parts (slot r.modules place.top threads i) place.number) in
    record {
      top = place.top;
      is_top = place.is_top;
      number = number;
      needs = record {
        kind = place.kind;
        stands = place.stands;
        place = place.number;
        signal = place.signal;
        is = place.is;
        through = state_of after;
        settled = there;
        number = refl;
      };
      is = ap (λ n. nat_eq n 1) c.number.ensures ∙ ap (λ (t : Running). nat_eq (slice_index t.numbers c.args.place) 1) under.is ∙ ap (λ p. nat_eq (slice_index after.numbers p) 1) place.at;
    }

pub returns-clause-state : goal.returns-clause-state
returns-clause-state c =
    let under = c.settle_under.ensures in
    let r = c.args.sim.now in
    subst (IsSameState r) (sym under.is) (settled_same r under.stands (choice_of c.args.choice.now) under.fits)
