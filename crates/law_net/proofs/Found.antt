-- `top_rr` is found by its name.
use Rattle.std.proofs.Common.{◌≡◌, ◌≢◌, ℕ, zero, suc, if◌then◌else◌, List, [], ◌∷◌, ◌++◌, get_or, Some, slice_get}
use Rattle.std.proofs.Common.{refl, sym, ap, ◌∙◌, ⊎_elim, arith}
use Rattle.std.specs.Prelude.{codes}
use Rattle.std.proofs.lemmas.Option.{same_Some, none-some}
use Rattle.std.proofs.lemmas.Slice.Eq.{bytes_eq-Decides}
use Rattle.netlist.specs.declared.netlist.Module.{Module}
use Rattle.verilog_meaning.specs.Names.{module_named}
use Rattle.top_wiring.proofs.Lists.{get_either}
use Rattle.law_net.specs.Found.{HasNo, RoundIsFound}
use Rattle.law_net.proofs.SameNames.{other_name}

pub named_behind : (xs : List Module) (name : List ℕ) (y : Module) (ys : List Module) → HasNo name xs → y.name ≡ name → module_named (xs ++ y ∷ ys) name ≡ Some y
named_behind [] name y ys h e = ap (λ b. if b then Some y else module_named ys name) ((bytes_eq-Decides name y.name).1 (sym e))
named_behind (x ∷ xs) name y ys h e =
    ap (λ b. if b then Some x else module_named (xs ++ y ∷ ys) name) (other_name name x.name (λ q. h 0 x refl (sym q)))
    ∙ named_behind xs name y ys (λ k m g. h (suc k) m g) e

top_is_other : codes "top" ≡ codes "top_rr" → ⊥
top_is_other e = let z : 0 ≡ 95 = ap (λ (name : List ℕ). get_or name 3 0) e in omega (arith, z)

pub round_is_found : RoundIsFound
round_is_found layout modules n w none =
    ap (λ (ms : List Module). module_named ms (codes "top_rr")) w.are
    ∙ named_behind (modules ++ w.top ∷ []) (codes "top_rr") w.round [] others w.is_round.named
  where
    at_top : (k : ℕ) (m : Module) → slice_get (w.top ∷ []) k ≡ Some m → m.name ≢ codes "top_rr"
    at_top zero m e q = top_is_other (sym w.is_top.named ∙ ap (λ (z : Module). z.name) (same_Some w.top m e) ∙ q)
    at_top (suc k) m e q = none-some m e

    others : HasNo (codes "top_rr") (modules ++ w.top ∷ [])
    others k m e = ⊎_elim (λ front. none k m front) (λ back. at_top back.at m back.found) (get_either modules (w.top ∷ []) k m e)
