-- The last finals of variables, as the code finds them and as a plan sees them.
use Rattle.std.proofs.Common.{◌≡◌, ◌≢◌, ℕ, zero, suc, ◌≤◌, nat_eq, Bool, true, false, if◌then◌else◌, List, [], ◌∷◌, ◌++◌}
use Rattle.std.proofs.Common.{Option, Some, None, refl, ap, subst, ◌∙◌, arith}
use Rattle.std.specs.Option.{option_or}
use Rattle.std.proofs.lemmas.Bool.Decides.{nat_tests}
use Rattle.block_ir.specs.declared.block.Final.{Final}
use Rattle.plan_blocks.specs.View.{operand_view, finals_view}
use Rattle.planned_block.specs.Block.{Operand as PlannedOperand}
use Rattle.planned_loop.specs.Plan.{final_of}
use Rattle.loop_datapath.specs.Ahead.{last_final, final_behind}

join_last : (o : Option Final) (b : Bool) (f : Final) (x : ℕ) → (b ≡ true → f.variable ≡ x) → ((g : Final) → o ≡ Some g → g.variable ≡ x) → (g : Final) →
    option_or o (if b then Some f else None) ≡ Some g → g.variable ≡ x
join_last None true f x here rest g e = let same : f ≡ g = cc in subst (λ (h : Final). h.variable ≡ x) same (here refl)
join_last None false f x here rest g e = absurd cc
join_last (Some h) b f x here rest g e = rest g e

-- the last final of a variable is one of it
pub last_names : (fs : List Final) (x : ℕ) (g : Final) → last_final fs x ≡ Some g → g.variable ≡ x
last_names [] x g e = absurd cc
last_names (f ∷ fs) x g e = join_last (last_final fs x) (nat_eq x f.variable) f x (λ t. grind arith) (last_names fs x) g e

last_more : (fs : List Final) (f : Final) (x : ℕ) → last_final (fs ++ f ∷ []) x ≡ (if nat_eq x f.variable then Some f else last_final fs x)
last_more [] f x = by_name (nat_eq x f.variable)
  where
    by_name : (b : Bool) → option_or None (if b then Some f else None) ≡ (if b then Some f else None)
    by_name true = refl
    by_name false = refl
last_more (g ∷ fs) f x =
    ap (λ (o : Option Final). option_or o (if nat_eq x g.variable then Some g else None)) (last_more fs f x)
    ∙ by_name (nat_eq x f.variable) (last_final fs x) (if nat_eq x g.variable then Some g else None)
  where
    by_name : (b : Bool) (o p : Option Final) → option_or (if b then Some f else o) p ≡ (if b then Some f else option_or o p)
    by_name true o p = refl
    by_name false o p = refl

pub last_taken : (fs : List Final) (f : Final) (x : ℕ) → f.variable ≡ x → last_final (fs ++ f ∷ []) x ≡ Some f
last_taken fs f x e =
    let same : nat_eq x f.variable ≡ true = grind (arith, nat_tests) in
    last_more fs f x ∙ ap (λ (b : Bool). if b then Some f else last_final fs x) same

pub last_kept : (fs : List Final) (f : Final) (x : ℕ) → f.variable ≢ x → last_final (fs ++ f ∷ []) x ≡ last_final fs x
last_kept fs f x ne =
    let other : nat_eq x f.variable ≡ false = grind (arith, nat_tests) in
    last_more fs f x ∙ ap (λ (b : Bool). if b then Some f else last_final fs x) other

-- there is one behind an iteration that isn't the oldest
pub behind_some : (fs : List Final) (d x : ℕ) (f : Final) → final_behind fs d x ≡ Some f → (1 ≤ d) × (last_final fs x ≡ Some f)
behind_some fs zero x f e = absurd cc
behind_some fs (suc d) x f e = (omega arith, e)

-- as a plan sees them
abbrev pub view_final : Option Final → Option PlannedOperand
view_final None = None
view_final (Some f) = Some (operand_view f.value)

join_view : (o : Option Final) (b : Bool) (f : Final) →
    option_or (view_final o) (if b then Some (operand_view f.value) else None) ≡ view_final (option_or o (if b then Some f else None))
join_view None true f = refl
join_view None false f = refl
join_view (Some g) b f = refl

pub final_seen : (fs : List Final) (x : ℕ) → final_of (finals_view fs) x ≡ view_final (last_final fs x)
final_seen [] x = refl
final_seen (f ∷ fs) x =
    ap (λ (o : Option PlannedOperand). option_or o (if nat_eq x f.variable then Some (operand_view f.value) else None)) (final_seen fs x)
    ∙ join_view (last_final fs x) (nat_eq x f.variable) f
