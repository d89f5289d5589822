-- The rule on formats: the calls of printf that break it, and the first fault of a text.
use Rattle.std.proofs.Common.{◌≡◌, ◌≢◌, refl, sym, subst, ap, ◌∙◌, ℕ, ◌≤◌, true, List, [], ◌∷◌, length, Option, Some, None, arith}
use Rattle.std.proofs.lemmas.Bool.{false≢true, true≢false, false_from_ne_true}
use Rattle.std.specs.Prelude.{◌&&◌, nat_eq, nat_le, count_by, Contains}
use Rattle.std.proofs.lemmas.Bool.Decides.{nat_tests}
use Rattle.std.proofs.lemmas.Option.{none-some}
use Rattle.c_tree.specs.declared.expression.Name.{Name}
use Rattle.c_tree.specs.declared.expression.Expression.{Expression, out-Expression}
use Rattle.c_tree.specs.declared.expression.Argument.{Argument, out-Argument}
use Rattle.c_tree.specs.declared.expression.Argument.TheOpen.{Argument-F}
use Rattle.c_tree.specs.declared.declaration.TranslationUnit.{TranslationUnit}
use Rattle.c_program.specs.Tree.{Piece}
use Rattle.c_program.specs.Resolved.{is_conversion}
use Rattle.c_rules.specs.declared.fault.Rule.{Rule}
use Rattle.c_rules.specs.declared.fault.Rule.TheVariants as rule
use Rattle.c_rules.specs.declared.fault.Fault.{Fault}
use Rattle.c_rules.specs.Formats.{pieces_in}
use Rattle.c_expressions.specs.Expressions.{ArgumentLayer, argument_offset}
use Rattle.c_calls.specs.Calls as k
use Rattle.c_broken_rules.specs.Parts.{Part, parts}
use Rattle.c_broken_rules.specs.Formats.{IsFormat}
use Rattle.c_broken_rules.specs.Breaks.{Breaks, IsPrint}
use Rattle.c_broken_rules.specs.Laws.{FaultsAreBroken, BrokenAreFaults}
use Rattle.c_broken_rules.proofs.Plain.{IsJudged, BreaksAt, CaseBreaks, PrintBreaks}
use Rattle.c_broken_rules.proofs.PlainScope.{text_writes}
use Rattle.c_broken_rules.proofs.Formats.{read, is_read}
use Rattle.c_broken_rules.proofs.FaultLedgers.{fault_of}
use Rattle.c_broken_rules.proofs.JudgedParts.{IsPart, first_part, part_reached, at_place, not_behind}

-- ---- what a printf takes

tests_equal : (m n : ℕ) → (nat_eq m n && nat_le n 4) ≡ true → m ≡ n
tests_equal m n h = grind (arith, nat_tests)

tests_most : (m n : ℕ) → (nat_eq m n && nat_le n 4) ≡ true → n ≤ 4
tests_most m n h = grind (arith, nat_tests)

fits : (m n : ℕ) → (nat_eq m n && nat_le n 4) ≡ true → (m ≡ n) × (n ≤ 4)
fits m n h = (tests_equal m n h, tests_most m n h)

taken : (m n : ℕ) → m ≡ n → n ≤ 4 → (nat_eq m n && nat_le n 4) ≡ true
taken m n e h = grind (arith, nat_tests)

not_empty : (byte : ℕ) (more : List ℕ) → byte ∷ more ≢ []
not_empty byte more e = cc

some_text : (bytes : List ℕ) (pieces : List Piece) → k.text_pieces bytes ≡ Some pieces → (bytes ≢ []) × (pieces_in bytes ≡ Some pieces)
some_text [] pieces h = absurd (none-some pieces h)
some_text (byte ∷ more) pieces h = (not_empty byte more, h)

text_some : (bytes : List ℕ) → bytes ≢ [] → k.text_pieces bytes ≡ pieces_in bytes
text_some [] h = absurd (h refl)
text_some (byte ∷ more) h = refl

-- what is taken is a format with as many values
takes_text : (first : Argument) (values : List Argument) (bytes : List ℕ) (at : ℕ) → out-Argument first ≡ Argument-F.Text bytes at → (o : Option (List Piece)) →
    k.text_pieces bytes ≡ o → k.takes o (length values) ≡ true → IsPrint first values
takes_text first values bytes at is None e h = absurd (false≢true h)
takes_text first values bytes at is (Some pieces) e h =
    let fit = fits (count_by is_conversion pieces) (length values) h in
    let some = some_text bytes pieces e in
    record {
      bytes = bytes;
      at = at;
      text = is;
      some = some.0;
      format = subst (IsFormat bytes) fit.0 (read bytes pieces some.1);
      most = fit.1;
    }

takes_layer : (first : Argument) (values : List Argument) (l : ArgumentLayer) → out-Argument first ≡ l → k.takes (k.format_in l) (length values) ≡ true → IsPrint first values
takes_layer first values (Argument-F.Text bytes at) is h = takes_text first values bytes at is (k.text_pieces bytes) refl h
takes_layer first values (Argument-F.Value v) is h = absurd (false≢true h)
takes_layer first values (Argument-F.Address q at) is h = absurd (false≢true h)
takes_layer first values (Argument-F.Pointer q) is h = absurd (false≢true h)

takes_is : (first : Argument) (values : List Argument) → k.takes (k.format first) (length values) ≡ true → IsPrint first values
takes_is first values h = takes_layer first values (out-Argument first) refl h

-- and what is one is taken
is_taken : (first : Argument) (values : List Argument) → IsPrint first values → k.takes (k.format first) (length values) ≡ true
is_taken first values h =
    let r = is_read h.bytes (length values) h.format in
    let format = ap k.format_in h.text ∙ text_some h.bytes h.some ∙ r.1 in
    ap (λ o. k.takes o (length values)) format ∙ taken (count_by is_conversion r.0) (length values) r.2 h.most

-- ---- the rule

different : rule.Format ≡ rule.Constant → ⊥
different h = cc

constant_format : (at there : ℕ) → fault_of rule.Format at ≡ fault_of rule.Constant there → ⊥
constant_format at there h = different (ap (λ (f : Fault). f.rule) h)

no_case_format : (at : ℕ) (v : Option Expression) → CaseBreaks v (fault_of rule.Format at) → ⊥
no_case_format at None h = h
no_case_format at (Some e) h = constant_format at (out-Expression e).offset h.1

print_breaks : (tree : TranslationUnit) (at : ℕ) (name : Name) (arguments : List Argument) → Contains (parts tree) (Part.Print name arguments) →
    PrintBreaks name arguments (fault_of rule.Format at) → Breaks tree rule.Format at
print_breaks tree at name [] c h = at_place tree rule.Format at name.offset h (Breaks.NoFormat name c)
print_breaks tree at name (first ∷ values) c h =
    at_place tree rule.Format at (argument_offset first) h.1 (Breaks.BadFormat name first values c (λ is. true≢false (sym (is_taken first values is) ∙ h.0)))

part_breaks : (tree : TranslationUnit) (at : ℕ) (part : Part) → Contains (parts tree) part → BreaksAt part (fault_of rule.Format at) → Breaks tree rule.Format at
part_breaks tree at (Part.Print name arguments) c h = print_breaks tree at name arguments c h
part_breaks tree at (Part.Constant value there) c h = absurd (constant_format at there h.1)
part_breaks tree at (Part.Length v) c h = absurd (constant_format at (out-Expression v).offset h.1)
part_breaks tree at (Part.Initial v) c h = absurd (constant_format at (out-Expression v).offset h.1)
part_breaks tree at (Part.Listed lengths index there) c h = absurd (constant_format at there h.1)
part_breaks tree at (Part.Label w over before l) c h = absurd (no_case_format at l.value h)
part_breaks tree at other c h = absurd h

pub formats_sound : FaultsAreBroken rule.Format
formats_sound tree at h =
    let p = first_part IsJudged BreaksAt tree (text_writes tree) (fault_of rule.Format at) tt tt h in
    part_breaks tree at p.0 p.1 p.2

-- what breaks the rule is a part
abbrev Broken : TranslationUnit → Rule → ℕ → Type 0
Broken tree rule.Format at = IsPart BreaksAt tree (fault_of rule.Format at)
Broken tree r at = Unit {0}

broken_part : (tree : TranslationUnit) (r : Rule) (at : ℕ) → Breaks tree r at → Broken tree r at
broken_part tree r at (Breaks.BadFormat name first values c b) =
    (Part.Print name (first ∷ values), c, (false_from_ne_true (k.takes (k.format first) (length values)) (λ h. b (takes_is first values h)), refl))
broken_part tree r at (Breaks.NoFormat name c) = (Part.Print name [], c, refl)
broken_part tree r at other = tt

pub formats_complete : BrokenAreFaults rule.Format
formats_complete tree fault at h b =
    not_behind fault rule.Format at
    (part_reached IsJudged BreaksAt tree (text_writes tree) fault (fault_of rule.Format at) h (broken_part tree rule.Format at b))
