-- A text without calls of its own functions has no fault of calls.
use Rattle.std.proofs.Common.{◌≡◌, ℕ, ◌<◌, [], refl, subst, arith}
use Rattle.std.specs.Prelude.{◌&&◌, nat_eq, nat_lt}
use Rattle.std.specs.Bool.{Decides}
use Rattle.std.proofs.lemmas.Bool.{and_parts, and_from, eqb-true, eq-eqb, ltb-true, lt-ltb}
use Rattle.c_call_graph.specs.Reaching.{Leads, Here, Further}

same : (n from to : ℕ) → Leads n [] from to → from ≡ to
same n from to Here = refl
same n from to (Further way h called inside) = absurd (omega (arith, called.1))

pub no_calls : (n from to : ℕ) → Decides (nat_eq from to && nat_lt from n) ((from < n) × (to < n) × Leads n [] from to)
no_calls n from to = (
  λ e.
      let p = and_parts (nat_eq from to) (nat_lt from n) e in
      let equal : from ≡ to = eqb-true from to p.0 in
      let below : from < n = ltb-true from n p.1 in
      (below, subst (λ k. k < n) equal below, subst (λ k. Leads n [] from k) equal Here),
  λ h. and_from (nat_eq from to) (nat_lt from n) (eq-eqb from to (same n from to h.2)) (lt-ltb from n h.0),
)
