use Rattle.std.proofs.Common.{ℕ, List, sym, subst}
use Rattle.std.specs.Prelude.{None}
use Rattle.std.specs.Result.{result_ok}
use Rattle.sim_layout.specs.Given.{TellsPref}
use Rattle.sim_layout.proofs.Givens.{pref_read, pref_lacks}
use Rattle.sim_layout.proofs.given.pref_number.Goals as goal

pub returns-in-Some : goal.returns-in-Some
returns-in-Some c =
    let cut = c.in-Some.ensures.cases in
    let tells = pref_read c.as_str.result.now c.in-Some.digits.now cut.0 c.parse.result cut.1.1 cut.2 c.parse.ensures.value.0 in
    subst (TellsPref c.args.name.now) (sym c.ok.ensures.value) (subst (λ (s : List ℕ). TellsPref s (result_ok c.parse.result)) c.as_str.ensures.bytes tells)

pub returns-in-None : goal.returns-in-None
returns-in-None c = subst (λ (s : List ℕ). TellsPref s None) c.as_str.ensures.bytes (pref_lacks c.as_str.result.now c.in-None.ensures.cases)
