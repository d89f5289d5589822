-- The statements of a generated program keep no values in locals.
use Rattle.std.proofs.Common.{◌≡◌, ℕ, zero, suc, List, [], ◌∷◌, ◌++◌, refl, ap, sym, ◌∙◌, arith}
use Rattle.std.specs.Prelude.{Bool, true, false, ◌&&◌, nat_eq, max}
use Rattle.std.proofs.Math.Nat.{zero-max, le-max_left}
use Rattle.std.proofs.lemmas.Bool.{eqb-true, ne_eqb}
use Rattle.c_program.specs.Tree.{Statement}
use Rattle.c_rules.specs.Findings.{nothing}
use Rattle.c_resolution.specs.Sequences.{sequence}
use Rattle.c_resolution.specs.Slots.{slots_end}
use Rattle.generated_text.specs.declared.draws.Letter.{Letter}
use Rattle.generated_text.specs.declared.draws.Kind.{Kind as LineKind}
use Rattle.generated_text.specs.declared.draws.Kind.TheVariants.{Sum, Difference, Product, ExclusiveOr, Quotient, Raise, Publish, Add}
use Rattle.generated_text.specs.declared.draws.Line.{Line}
use Rattle.generated_profile.proofs.Pieces as ps
use Rattle.generated_profile.proofs.Placed.{place_in}
use Rattle.generated_profile.proofs.Splitting.{behind}
use Rattle.c_lexer.specs.Texts.{tokens}
use Rattle.generated_profile.proofs.Sequences as joined
use Rattle.generated_profile.proofs.Branches.{statements_in, statements_of}
use Rattle.generated_profile.proofs.WorkerBody.{opening_statements, closing_statements, body_statements}

abbrev keeps_none : Statement → Bool
keeps_none x = nat_eq (slots_end x) 0

both_none : (m n : ℕ) → nat_eq (max m n) 0 ≡ (nat_eq m 0 && nat_eq n 0)
both_none zero n = ap (λ (k : ℕ). nat_eq k 0) (zero-max n)
both_none (suc m) n =
    ne_eqb (max (suc m) n) 0 (λ e. (let le = le-max_left (suc m) n in absurd (omega (arith, le, e))))
    ∙ sym (ap (λ (b : Bool). b && nat_eq n 0) (ne_eqb (suc m) 0 (λ e. absurd (omega (arith, e)))))

pub both_keep : (a b : Statement) → keeps_none (Statement.Sequence a b) ≡ (keeps_none a && keeps_none b)
both_keep a b = both_none (slots_end a) (slots_end b)

pub and_assoc : (a b c : Bool) → ((a && b) && c) ≡ (a && (b && c))
and_assoc true b c = refl
and_assoc false b c = refl

pub and_true : (a : Bool) → (a && true) ≡ a
and_true true = refl
and_true false = refl

abbrev all_none : List Statement → Bool
all_none list = joined.total true (λ a b. a && b) and_assoc (λ a. refl) and_true keeps_none refl both_keep list

kind_none : (size : ℕ) (k : LineKind) (at : ℕ → ℕ) (x y z : Letter) → all_none (statements_in size k at x y z) ≡ true
kind_none size Sum at x y z = refl
kind_none size Difference at x y z = refl
kind_none size Product at x y z = refl
kind_none size ExclusiveOr at x y z = refl
kind_none size Quotient at x y z = refl
kind_none size Raise at x y z = refl
kind_none size Publish at x y z = refl
kind_none size Add at x y z = refl

append_none : (xs ys : List Statement) → all_none xs ≡ true → all_none ys ≡ true → all_none (xs ++ ys) ≡ true
append_none xs ys p q =
    joined.total_append true (λ a b. a && b) and_assoc (λ a. refl) and_true keeps_none refl both_keep xs ys
    ∙ ap (λ (b : Bool). b && all_none ys) p ∙ q

lines_none : (size o : ℕ) (lines : List Line) → all_none (statements_of size o lines) ≡ true
lines_none size o [] = refl
lines_none size o (line ∷ lines) =
    let at : ℕ → ℕ = place_in (tokens o (ps.line_pieces line)) in
    let here : List Statement = statements_in size line.kind at line.target line.left line.right in
    let next : ℕ = behind o (ps.line_pieces line) in
    append_none here (statements_of size next lines) (kind_none size line.kind at line.target line.left line.right) (lines_none size next lines)

pub sequence_none : (list : List Statement) → all_none list ≡ true → slots_end (sequence list) ≡ 0
sequence_none list none =
    eqb-true (slots_end (sequence list)) 0
    (joined.gathered true (λ a b. a && b) and_assoc (λ a. refl) and_true keeps_none refl both_keep list ∙ none)

pub worker_none : (size : ℕ) (at after : ℕ → ℕ) (o : ℕ) (lines : List Line) → slots_end (sequence (body_statements size nothing at after o lines)) ≡ 0
worker_none size at after o lines =
    sequence_none (body_statements size nothing at after o lines)
    (append_none (opening_statements at ++ statements_of size o lines) (closing_statements size after)
    (append_none (opening_statements at) (statements_of size o lines) refl (lines_none size o lines)) refl)
