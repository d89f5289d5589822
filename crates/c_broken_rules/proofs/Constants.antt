-- Constants out of range: the parts of a text that break the rule, and its first fault.
use Rattle.std.proofs.Common.{◌≡◌, refl, sym, subst, ap, ◌∙◌, ℕ, zero, suc, ◌<◌, ◌≤◌, List, [], ◌∷◌, Option, Some, None, arith}
use Rattle.std.proofs.lemmas.Bool.{leb-true, le-leb}
use Rattle.std.specs.Prelude.{nat_le, ℤ, pos, negsuc, ◌≤ℤ◌, min, Contains}
use Rattle.std.proofs.lemmas.Int.{ints}
use Rattle.std.proofs.Math.IntN.{pos-ne-negsuc}
use Rattle.c_token.specs.declared.constant.Constant.TheVariants as constant
use Rattle.c_tree.specs.declared.expression.Name.{Name}
use Rattle.c_tree.specs.declared.expression.Expression.{Expression as ExpressionTree, out-Expression}
use Rattle.c_tree.specs.declared.expression.Argument.{Argument}
use Rattle.c_tree.specs.declared.statement.CaseLabel.{CaseLabel}
use Rattle.c_tree.specs.declared.declaration.TranslationUnit.{TranslationUnit}
use Rattle.c_rules.specs.declared.fault.Rule.{Rule}
use Rattle.c_rules.specs.declared.fault.Rule.TheVariants as rule
use Rattle.c_rules.specs.declared.fault.Fault.{Fault}
use Rattle.c_rules.specs.declared.constants.Typed.{Typed}
use Rattle.c_rules.specs.declared.constants.Constancy.{Constancy}
use Rattle.c_rules.specs.declared.constants.Constancy.TheVariants as is
use Rattle.c_rules.specs.Constants.{constancy}
use Rattle.c_rules.specs.Dimensions.{times}
use Rattle.c_expressions.specs.Expressions.{argument_offset}
use Rattle.c_resolution.specs.Locals.{positive}
use Rattle.c_broken_rules.specs.Sight.{Where}
use Rattle.c_broken_rules.specs.Parts.{Part, parts}
use Rattle.c_broken_rules.specs.Breaks.{Breaks, IsLength, CountsAs, AreElements}
use Rattle.c_broken_rules.specs.Laws.{FaultsAreBroken, BrokenAreFaults}
use Rattle.c_broken_rules.proofs.Events.{elements_given, length_given, length_by}
use Rattle.c_broken_rules.proofs.Plain.{IsJudged, BreaksAt, CaseBreaks, PrintBreaks, IsNoLength, IsNone, IsBeyond}
use Rattle.c_broken_rules.proofs.PlainScope.{text_writes}
use Rattle.c_broken_rules.proofs.FaultLedgers.{fault_of}
use Rattle.c_broken_rules.proofs.JudgedParts.{IsPart, first_part, part_reached, at_place, not_behind}

-- ---- lengths

at_most : (z : ℤ) → IsNone (positive z) → z ≤ℤ pos 0
at_most (pos zero) h = omega (arith, ints)
at_most (pos (suc n)) h = absurd h
at_most (negsuc n) h = omega (arith, ints)

none_at_most : (z : ℤ) → z ≤ℤ pos 0 → IsNone (positive z)
none_at_most (pos zero) h = tt
none_at_most (pos (suc n)) h = absurd (omega (arith, ints))
none_at_most (negsuc n) h = tt

abbrev Place : ExpressionTree → ℕ
Place v = (out-Expression v).offset

length_breaks : (tree : TranslationUnit) (v : ExpressionTree) (x : Constancy) → constancy v ≡ x → Contains (parts tree) (Part.Length v) → IsNoLength x → Breaks tree
    rule.Constant (Place v)
length_breaks tree v (is.Constant x) e stands h = Breaks.LengthBelowOne v x stands e (at_most x.number h)
length_breaks tree v is.Unknown e stands h = absurd h
length_breaks tree v is.NotConstant e stands h = Breaks.LengthNotConstant v stands e

-- ---- initial values of arrays

-- what a length is, if it is one
pos_same : (m n : ℕ) → pos m ≡ pos n → m ≡ n
pos_same m n e = cc

unknown_length : {x : Typed} → is.Unknown ≡ is.Constant x → ⊥
unknown_length h = cc

not_length : {x : Typed} → is.NotConstant ≡ is.Constant x → ⊥
not_length h = cc

sized : (z : ℤ) (n : ℕ) → z ≡ pos n → 0 < n → positive z ≡ Some (min n 0xffff_ffff_ffff_ffff)
sized (pos zero) n e lt = absurd (omega (arith, pos_same zero n e))
sized (pos (suc m)) n e lt = ap (λ k. Some (min k 0xffff_ffff_ffff_ffff)) (pos_same (suc m) n e)
sized (negsuc m) n e lt = absurd (pos-ne-negsuc n m (sym e))

constant_same : (x y : Typed) → is.Constant x ≡ is.Constant y → x ≡ y
constant_same x y h = cc

below_none : (n : ℕ) → pos zero ≡ pos n → 0 < n → ⊥
below_none n e lt = absurd (omega (arith, pos_same zero n e))

-- the length by its number
number_of : {size : ExpressionTree} {x : Typed} {n : ℕ} → constancy size ≡ is.Constant x → (l : IsLength size n) → x.number ≡ pos l.number
number_of e l = ap (λ (y : Typed). y.number) (constant_same _ _ (sym e ∙ l.constant)) ∙ l.value

counts_by : (e : ExpressionTree) (x : Typed) → constancy e ≡ is.Constant x → (z : ℤ) → x.number ≡ z → CountsAs e (length_by (positive z))
counts_by e x same (pos zero) is = CountsAs.One (λ n l. below_none l.number (sym is ∙ number_of same l) l.positive)
counts_by e x same (negsuc m) is = CountsAs.One (λ n l. pos-ne-negsuc l.number m (sym (sym is ∙ number_of same l)))
counts_by e x same (pos (suc m)) is =
    CountsAs.Counted (min (suc m) 0xffff_ffff_ffff_ffff) (record { x = x; constant = same; number = suc m; value = is; positive = omega arith; most = refl })

counts_of : (e : ExpressionTree) (x : Constancy) → constancy e ≡ x → CountsAs e (length_given x)
counts_of e (is.Constant x) same = counts_by e x same x.number refl
counts_of e is.Unknown same = CountsAs.One (λ n l. unknown_length (sym same ∙ l.constant))
counts_of e is.NotConstant same = CountsAs.One (λ n l. not_length (sym same ∙ l.constant))

-- what was given for lengths are the elements
elements_of : (n : ℕ) (list : List ExpressionTree) → AreElements n list (elements_given n list)
elements_of n [] = AreElements.All n
elements_of n (e ∷ list) =
    let m = length_given (constancy e) in
    AreElements.Times m n (elements_given (times n m) list) e list (counts_of e (constancy e) refl) (elements_of (times n m) list)

length_same : (e : ExpressionTree) (n : ℕ) → IsLength e n → n ≡ length_given (constancy e)
length_same e n l = sym (ap length_given l.constant ∙ ap length_by (sized l.x.number l.number l.value l.positive) ∙ sym l.most)

one_by : (size : ExpressionTree) (x : Typed) → constancy size ≡ is.Constant x → ((n : ℕ) → IsLength size n → ⊥) → (z : ℤ) → x.number ≡ z → length_by (positive z) ≡ 1
one_by size x e none (pos zero) is = refl
one_by size x e none (negsuc m) is = refl
one_by size x e none (pos (suc m)) is =
    absurd (none (min (suc m) 0xffff_ffff_ffff_ffff) (record { x = x; constant = e; number = suc m; value = is; positive = omega arith; most = refl }))

one_given : (size : ExpressionTree) (x : Constancy) → constancy size ≡ x → ((n : ℕ) → IsLength size n → ⊥) → length_given x ≡ 1
one_given size (is.Constant x) e none = one_by size x e none x.number refl
one_given size is.Unknown e none = refl
one_given size is.NotConstant e none = refl

counts_same : (e : ExpressionTree) (m : ℕ) → CountsAs e m → m ≡ length_given (constancy e)
counts_same e m (CountsAs.Counted n l) = length_same e n l
counts_same e m (CountsAs.One none) = sym (one_given e (constancy e) refl none)

elements_same : (n : ℕ) (list : List ExpressionTree) (k : ℕ) → AreElements n list k → k ≡ elements_given n list
elements_same n list k (AreElements.All j) = refl
elements_same n list k (AreElements.Times m j i e more counts others) =
    elements_same (times j m) more i others ∙ ap (λ (l : ℕ). elements_given (times j l) more) (counts_same e m counts)

too_many : (lengths : List ExpressionTree) (n index : ℕ) → AreElements 1 lengths n → n ≤ index → IsBeyond lengths index
too_many lengths n index are le = ap (λ k. nat_le k index) (sym (elements_same 1 lengths n are)) ∙ le-leb n index le

-- ---- cases

case_breaks : (tree : TranslationUnit) (at : ℕ) (w : Where) (over : ExpressionTree) (before : List CaseLabel) (l : CaseLabel) (v : Option ExpressionTree) → l.value ≡ v →
    Contains (parts tree) (Part.Label w over before l) → CaseBreaks v (fault_of rule.Constant at) → Breaks tree rule.Constant at
case_breaks tree at w over before l None some c h = absurd h
case_breaks tree at w over before l (Some e) some c h = at_place tree rule.Constant at (Place e) h.1 (Breaks.CaseNotConstant w over e before l c some h.0)

case_broken : (l : CaseLabel) (e : ExpressionTree) → l.value ≡ Some e → constancy e ≡ is.NotConstant → CaseBreaks l.value (fault_of rule.Constant (Place e))
case_broken l e some no_constant = subst (λ v. CaseBreaks v (fault_of rule.Constant (Place e))) (sym some) (no_constant, refl)

-- ---- the rule

different : rule.Constant ≡ rule.Format → ⊥
different h = cc

constant_format : (at there : ℕ) → fault_of rule.Constant at ≡ fault_of rule.Format there → ⊥
constant_format at there h = different (ap (λ (f : Fault). f.rule) h)

print_none : (name : Name) (arguments : List Argument) (at : ℕ) → PrintBreaks name arguments (fault_of rule.Constant at) → ⊥
print_none name [] at h = constant_format at name.offset h
print_none name (first ∷ values) at h = constant_format at (argument_offset first) h.1

part_breaks : (tree : TranslationUnit) (at : ℕ) (part : Part) → Contains (parts tree) part → BreaksAt part (fault_of rule.Constant at) → Breaks tree rule.Constant at
part_breaks tree at (Part.Constant value there) c h =
    at_place tree rule.Constant at there h.1 (Breaks.ConstantTooLarge there (subst (λ v. Contains (parts tree) (Part.Constant v there)) h.0 c))
part_breaks tree at (Part.Length v) c h = at_place tree rule.Constant at (Place v) h.1 (length_breaks tree v (constancy v) refl c h.0)
part_breaks tree at (Part.Initial v) c h = at_place tree rule.Constant at (Place v) h.1 (Breaks.InitialNotConstant v c h.0)
part_breaks tree at (Part.Listed lengths index there) c h =
    at_place tree rule.Constant at there h.1 (Breaks.TooMany lengths (elements_given 1 lengths) index there c (elements_of 1 lengths) (leb-true (elements_given 1 lengths) index h.0))
part_breaks tree at (Part.Label w over before l) c h = case_breaks tree at w over before l l.value refl c h
part_breaks tree at (Part.Print name arguments) c h = absurd (print_none name arguments at h)
part_breaks tree at other c h = absurd h

pub constants_sound : FaultsAreBroken rule.Constant
constants_sound tree at h =
    let p = first_part IsJudged BreaksAt tree (text_writes tree) (fault_of rule.Constant at) tt tt h in
    part_breaks tree at p.0 p.1 p.2

-- what breaks the rule is a part
abbrev Broken : TranslationUnit → Rule → ℕ → Type 0
Broken tree rule.Constant at = IsPart BreaksAt tree (fault_of rule.Constant at)
Broken tree r at = Unit {0}

broken_part : (tree : TranslationUnit) (r : Rule) (at : ℕ) → Breaks tree r at → Broken tree r at
broken_part tree r at (Breaks.ConstantTooLarge place c) = (Part.Constant constant.TooLarge place, c, (refl, refl))
broken_part tree r at (Breaks.LengthNotConstant v c k) = (Part.Length v, c, (subst IsNoLength (sym k) tt, refl))
broken_part tree r at (Breaks.LengthBelowOne v x c value below) = (Part.Length v, c, (subst IsNoLength (sym value) (none_at_most x.number below), refl))
broken_part tree r at (Breaks.InitialNotConstant v c k) = (Part.Initial v, c, (k, refl))
broken_part tree r at (Breaks.TooMany lengths n index there c are le) = (Part.Listed lengths index there, c, (too_many lengths n index are le, refl))
broken_part tree r at (Breaks.CaseNotConstant w over e before l c some no_constant) = (Part.Label w over before l, c, case_broken l e some no_constant)
broken_part tree r at other = tt

pub constants_complete : BrokenAreFaults rule.Constant
constants_complete tree fault at h b =
    not_behind fault rule.Constant at
    (part_reached IsJudged BreaksAt tree (text_writes tree) fault (fault_of rule.Constant at) h (broken_part tree rule.Constant at b))
