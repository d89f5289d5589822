use Rattle.std.proofs.Common.{◌≡◌, refl, sym, ap, ◌∙◌, ◌-◌, ◌+◌, List, [], ◌∷◌, ◌++◌, length, Some, slice_get, length-append, arith}
use Rattle.std.specs.List.{remove}
use Rattle.c_rules.specs.declared.names.Scope.{Scope}
use Rattle.c_rules.specs.Names.{Names, closed, closed_to}
use Rattle.c_rules.proofs.names.Scope.close_block.Goals as goal

slice_get-last : {X : Type 0} (xs : List X) (x : X) → slice_get (xs ++ x ∷ []) (length xs) ≡ Some x
slice_get-last [] x = refl
slice_get-last (y ∷ xs) x = slice_get-last xs x

remove-last : {X : Type 0} (xs : List X) (x : X) → remove (xs ++ x ∷ []) (length xs) ≡ xs
remove-last [] x = refl
remove-last (y ∷ xs) x = ap (λ more. y ∷ more) (remove-last xs x)

last_place : {X : Type 0} (ys xs : List X) (x : X) → ys ≡ xs ++ x ∷ [] → length ys - 1 ≡ length xs
last_place ys xs x is =
    let long : length ys ≡ length xs + 1 = ap length is ∙ length-append xs (x ∷ []) in
    omega (arith, long)

closed-pop : (s : Scope) (outer : List Names) (level : Names) → s.outer ≡ outer ++ level ∷ [] → closed s ≡ record s { outer = outer; inner = level }
unfolding closed
closed-pop s outer level is =
    let place = last_place s.outer outer level is in
    ap (λ l. closed_to l s) (ap (slice_get s.outer) place ∙ ap (λ o. slice_get o (length outer)) is ∙ slice_get-last outer level)
    ∙ ap (λ (o : List Names). record s { outer = o; inner = level }) (ap (remove s.outer) place ∙ ap (λ o. remove o (length outer)) is ∙ remove-last outer level)

pub returns-in-Some : goal.returns-in-Some
returns-in-Some c = sym (closed-pop c.args.self.now c.pop.new.self c.in-Some.outer c.in-Some.ensures)
