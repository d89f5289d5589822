-- The rule on unknown names: the names that break it, and the first fault of a text.
use Rattle.std.proofs.Common.{◌≡◌, refl, sym, subst, ap, ◌∙◌, inl, inr, ℕ, Bool, true, false, List, [], ◌∷◌, ◌++◌, Option, Some, None}
use Rattle.std.proofs.lemmas.Bool.{true≢false}
use Rattle.std.specs.Prelude.{◌⊎◌, fold, Contains, is_some, if◌then◌else◌}
use Rattle.std.specs.Str.{bytes_eq}
use Rattle.std.proofs.lemmas.Slice.Eq.{bytes_eq-Decides}
use Rattle.lists.proofs.Places.{none_of}
use Rattle.c_tree.specs.declared.expression.Name.{Name}
use Rattle.c_tree.specs.declared.statement.Block.{Block}
use Rattle.c_tree.specs.declared.declaration.Function.{Function}
use Rattle.c_tree.specs.declared.declaration.ExternalDeclaration.{ExternalDeclaration}
use Rattle.c_tree.specs.declared.declaration.ExternalDeclaration.TheVariants as external
use Rattle.c_tree.specs.declared.declaration.TranslationUnit.{TranslationUnit}
use Rattle.c_rules.specs.declared.fault.Rule.{Rule}
use Rattle.c_rules.specs.declared.fault.Rule.TheVariants as rule
use Rattle.c_rules.specs.declared.fault.Fault.{Fault}
use Rattle.c_rules.specs.Levels.{named_in, inserted}
use Rattle.c_rules.specs.Names.{or_else}
use Rattle.c_resolution.specs.Resolving.{IsFirstFault}
use Rattle.c_resolution.specs.Texts as t
use Rattle.c_broken_rules.specs.Sight.{Where}
use Rattle.c_broken_rules.specs.Parts.{Part, parts}
use Rattle.c_broken_rules.specs.Breaks.{Breaks, IsUnknown, IsNeverDefined, IsNamed, definitions, definition_in, definition_by}
use Rattle.c_broken_rules.specs.Laws.{FaultsAreBroken, BrokenAreFaults, IsNotBehind}
use Rattle.c_broken_rules.proofs.Ledgers.{Any, any_contains, contains_any}
use Rattle.c_broken_rules.proofs.Sights.{named_inserted}
use Rattle.c_broken_rules.proofs.Names.{IsJudged, BreaksAt, IsUndefined}
use Rattle.c_broken_rules.proofs.NameScope.{text_names}
use Rattle.c_broken_rules.proofs.FaultLedgers.{fault_of}
use Rattle.c_broken_rules.proofs.JudgedParts.{IsPart, first_part, part_reached, at_place, not_behind}

-- ---- which functions a text defines

abbrev pub IsHere : List (List ℕ × ℕ) → List ℕ → Type 0
IsHere names key = is_some (named_in names key) ≡ true

here_or : {A : Type 0} (x z : Option A) → is_some x ≡ true → is_some (or_else x z) ≡ true
here_or (Some a) z h = refl
here_or None z h = absurd (true≢false (sym h))

or_here : {A : Type 0} (x z : Option A) → is_some z ≡ true → is_some (or_else x z) ≡ true
or_here (Some a) z h = refl
or_here None z h = h

from_or : {A : Type 0} (x z : Option A) → is_some (or_else x z) ≡ true → (is_some x ≡ true) ⊎ (is_some z ≡ true)
from_or (Some a) z h = inl refl
from_or None z h = inr h

noted_kept : (names : List (List ℕ × ℕ)) (name key : List ℕ) (n : ℕ) (b : Bool) → is_some (named_in names name) ≡ b → IsHere names key →
    IsHere (if b then names else inserted names name n) key
noted_kept names name key n true e h = h
noted_kept names name key n false e h =
    ap is_some (named_inserted names name key n (none_of (named_in names name) e)) ∙ here_or (named_in names key) (if bytes_eq key name then Some n else None) h

noted_new : (names : List (List ℕ × ℕ)) (name : List ℕ) (n : ℕ) (b : Bool) → is_some (named_in names name) ≡ b → IsHere (if b then names else inserted names name n) name
noted_new names name n true e = e
noted_new names name n false e =
    ap is_some (named_inserted names name name n (none_of (named_in names name) e))
    ∙ or_here (named_in names name) (if bytes_eq name name then Some n else None) (ap (λ c. is_some (if c then Some n else None)) ((bytes_eq-Decides name name).1 refl))

one_here : (key name : List ℕ) (n : ℕ) (c : Bool) → bytes_eq key name ≡ c → is_some (if c then Some n else None) ≡ true → name ≡ key
one_here key name n true e h = sym ((bytes_eq-Decides key name).0 e)
one_here key name n false e h = absurd (true≢false (sym h))

back_by : (names : List (List ℕ × ℕ)) (name key : List ℕ) (n : ℕ) → (is_some (named_in names key) ≡ true) ⊎ (is_some (if bytes_eq key name then Some n else None) ≡ true) →
    IsHere names key ⊎ (name ≡ key)
back_by names name key n (inl h) = inl h
back_by names name key n (inr h) = inr (one_here key name n (bytes_eq key name) refl h)

noted_back : (names : List (List ℕ × ℕ)) (name key : List ℕ) (n : ℕ) (b : Bool) → is_some (named_in names name) ≡ b → IsHere (if b then names else inserted names name n) key →
    IsHere names key ⊎ (name ≡ key)
noted_back names name key n true e h = inl h
noted_back names name key n false e h =
    back_by names name key n (from_or (named_in names key) (if bytes_eq key name then Some n else None)
    (sym (ap is_some (named_inserted names name key n (none_of (named_in names name) e))) ∙ h))

-- some definition is of a function of the name
abbrev pub Defines : List Function → List ℕ → Type 0
Defines list key = Any (λ f. IsNamed key f) list

abbrev pub noted_by : t.Noted → List ExternalDeclaration → t.Noted
noted_by d list = fold t.with_declaration d list

pub any_left : (xs ys : List Function) (key : List ℕ) → Defines xs key → Defines (xs ++ ys) key
any_left [] ys key h = absurd h
any_left (x ∷ xs) ys key (inl h) = inl h
any_left (x ∷ xs) ys key (inr h) = inr (any_left xs ys key h)

pub any_right : (xs ys : List Function) (key : List ℕ) → Defines ys key → Defines (xs ++ ys) key
any_right [] ys key h = h
any_right (x ∷ xs) ys key h = inr (any_right xs ys key h)

by_body : (d : t.Noted) (f : Function) (key : List ℕ) (o : Option Block) → IsHere d.0 key → IsHere (t.with_function f d o).0 key
by_body d f key None h = h
by_body d f key (Some body) h = noted_kept d.0 f.name.bytes key d.1 (is_some (named_in d.0 f.name.bytes)) refl h

new_by : (d : t.Noted) (f : Function) (key : List ℕ) (o : Option Block) → Defines (definition_by f (is_some o)) key → IsHere (t.with_function f d o).0 key
new_by d f key None h = absurd h
new_by d f key (Some body) (inl h) =
    subst (λ k. IsHere (t.with_function f d (Some body)).0 k) h (noted_new d.0 f.name.bytes d.1 (is_some (named_in d.0 f.name.bytes)) refl)
new_by d f key (Some body) (inr h) = absurd h

step_new : (d : t.Noted) (x : ExternalDeclaration) (key : List ℕ) → Defines (definition_in x) key → IsHere (t.with_declaration d x).0 key
step_new d (external.Objects o) key h = absurd h
step_new d (external.Function f) key h = new_by d f key f.body h

name_back : (f : Function) (key : List ℕ) (P : Type 0) → P ⊎ (f.name.bytes ≡ key) → P ⊎ Defines (f ∷ []) key
name_back f key P (inl h) = inl h
name_back f key P (inr h) = inr (inl h)

body_back : (d : t.Noted) (f : Function) (key : List ℕ) (o : Option Block) → IsHere (t.with_function f d o).0 key → IsHere d.0 key ⊎ Defines (definition_by f (is_some o)) key
body_back d f key None h = inl h
body_back d f key (Some body) h = name_back f key (IsHere d.0 key) (noted_back d.0 f.name.bytes key d.1 (is_some (named_in d.0 f.name.bytes)) refl h)

step_back : (d : t.Noted) (x : ExternalDeclaration) (key : List ℕ) → IsHere (t.with_declaration d x).0 key → IsHere d.0 key ⊎ Defines (definition_in x) key
step_back d (external.Objects o) key h = inl h
step_back d (external.Function f) key h = body_back d f key f.body h

or_left : (list : List ExternalDeclaration) (d : t.Noted) (key : List ℕ) (x : ExternalDeclaration) → IsHere d.0 key ⊎ Defines (definition_in x) key →
    IsHere d.0 key ⊎ Defines (definition_in x ++ definitions list) key
or_left list d key x (inl h) = inl h
or_left list d key x (inr h) = inr (any_left (definition_in x) (definitions list) key h)

later : (x : Function) (xs ys : List Function) (key : List ℕ) → Defines xs key ⊎ Defines ys key → Defines (x ∷ xs) key ⊎ Defines ys key
later x xs ys key (inl h) = inl (inr h)
later x xs ys key (inr h) = inr h

step_kept : (d : t.Noted) (x : ExternalDeclaration) (key : List ℕ) → IsHere d.0 key → IsHere (t.with_declaration d x).0 key
step_kept d (external.Objects o) key h = h
step_kept d (external.Function f) key h = by_body d f key f.body h

all_kept : (list : List ExternalDeclaration) (d : t.Noted) (key : List ℕ) → IsHere d.0 key → IsHere (noted_by d list).0 key
all_kept [] d key h = h
all_kept (x ∷ list) d key h = all_kept list (t.with_declaration d x) key (step_kept d x key h)

here_again : (list : List ExternalDeclaration) (d : t.Noted) (key : List ℕ) (x : ExternalDeclaration) → Defines (definition_in x) key ⊎ Defines (definitions list) key →
    ((z : t.Noted) → Defines (definitions list) key → IsHere (noted_by z list).0 key) → IsHere (noted_by d (x ∷ list)).0 key
here_again list d key x (inl h) more = all_kept list (t.with_declaration d x) key (step_new d x key h)
here_again list d key x (inr h) more = more (t.with_declaration d x) h

pub any_split : (xs ys : List Function) (key : List ℕ) → Defines (xs ++ ys) key → Defines xs key ⊎ Defines ys key
any_split [] ys key h = inr h
any_split (x ∷ xs) ys key (inl h) = inl (inl h)
any_split (x ∷ xs) ys key (inr h) = later x xs ys key (any_split xs ys key h)

pub all_here : (list : List ExternalDeclaration) (d : t.Noted) (key : List ℕ) → Defines (definitions list) key → IsHere (noted_by d list).0 key
all_here [] d key h = absurd h
all_here (x ∷ list) d key h = here_again list d key x (any_split (definition_in x) (definitions list) key h) (λ z k. all_here list z key k)

back_all : (list : List ExternalDeclaration) (d : t.Noted) (key : List ℕ) (x : ExternalDeclaration) → IsHere (t.with_declaration d x).0 key ⊎ Defines (definitions list) key →
    IsHere d.0 key ⊎ Defines (definition_in x ++ definitions list) key
back_all list d key x (inl h) = or_left list d key x (step_back d x key h)
back_all list d key x (inr h) = inr (any_right (definition_in x) (definitions list) key h)

pub all_back : (list : List ExternalDeclaration) (d : t.Noted) (key : List ℕ) → IsHere (noted_by d list).0 key → IsHere d.0 key ⊎ Defines (definitions list) key
all_back [] d key h = inl h
all_back (x ∷ list) d key h = back_all list d key x (all_back list (t.with_declaration d x) key h)

nobody : {A : Type 0} (o : Option A) → (is_some o ≡ true → ⊥) → o ≡ None
nobody None h = refl
nobody (Some a) h = absurd (h refl)

no_here : (o : Option ℕ) → o ≡ None → is_some o ≡ true → ⊥
no_here o e h = true≢false (sym h ∙ ap is_some e)

pub from_nothing : (key : List ℕ) (list : List ExternalDeclaration) → IsHere [] key ⊎ Defines (definitions list) key → Defines (definitions list) key
from_nothing key list (inl h) = absurd (true≢false (sym h))
from_nothing key list (inr h) = h

never_defined : (tree : TranslationUnit) (key : List ℕ) → named_in (t.definitions tree.declarations) key ≡ None → IsNeverDefined tree key
never_defined tree key none f c named =
    no_here (named_in (t.definitions tree.declarations) key) none
    (all_here tree.declarations ([], 0) key (contains_any (λ g. IsNamed key g) (definitions tree.declarations) f c named))

defined_never : (tree : TranslationUnit) (key : List ℕ) → IsNeverDefined tree key → named_in (t.definitions tree.declarations) key ≡ None
defined_never tree key never =
    nobody (named_in (t.definitions tree.declarations) key)
    (λ h. let m = any_contains (λ g. IsNamed key g) (definitions tree.declarations) (from_nothing key tree.declarations (all_back tree.declarations ([], 0) key h)) in
    never m.0 m.1 m.2)

-- ---- the rule

module _ (tree : TranslationUnit) where
  abbrev D : List (List ℕ × ℕ)
  D = t.definitions tree.declarations

  call_breaks : (w : Where) (name : Name) → Contains (parts tree) (Part.Call w name) → IsUnknown w name ⊎ IsUndefined D w name → Breaks tree rule.Unknown name.offset
  call_breaks w name c (inl u) = Breaks.UnknownCall w name c u
  call_breaks w name c (inr u) = Breaks.UndefinedCall w name u.f c u.means (never_defined tree u.f.name.bytes u.never)

  part_breaks : (at : ℕ) (part : Part) → Contains (parts tree) part → BreaksAt D part (fault_of rule.Unknown at) → Breaks tree rule.Unknown at
  part_breaks at (Part.Use w name) c h = at_place tree rule.Unknown at name.offset h.1 (Breaks.UnknownName w name c h.0)
  part_breaks at (Part.Call w name) c h = at_place tree rule.Unknown at name.offset h.1 (call_breaks w name c h.0)
  part_breaks at (Part.Routine w name) c h =
      at_place tree rule.Unknown at name.offset h.1 (Breaks.UndefinedRoutine w name h.0.f c h.0.means (never_defined tree h.0.f.name.bytes h.0.never))
  part_breaks at other c h = absurd h

  sound : (at : ℕ) → IsFirstFault tree (Some (fault_of rule.Unknown at)) → Breaks tree rule.Unknown at
  sound at h =
      let p = first_part IsJudged (BreaksAt D) tree (text_names tree) (fault_of rule.Unknown at) tt tt h in
      part_breaks at p.0 p.1 p.2

  -- what breaks the rule is a part
  abbrev Broken : Rule → ℕ → Type 0
  Broken rule.Unknown at = IsPart (BreaksAt D) tree (fault_of rule.Unknown at)
  Broken r at = Unit {0}

  broken_part : (r : Rule) (at : ℕ) → Breaks tree r at → Broken r at
  broken_part r at (Breaks.UnknownName w name c u) = (Part.Use w name, c, (u, refl))
  broken_part r at (Breaks.UnknownCall w name c u) = (Part.Call w name, c, (inl u, refl))
  broken_part r at (Breaks.UndefinedCall w name f c means never) =
      (Part.Call w name, c, (inr (record { f = f; means = means; never = defined_never tree f.name.bytes never }), refl))
  broken_part r at (Breaks.UndefinedRoutine w name f c means never) =
      (Part.Routine w name, c, (record { f = f; means = means; never = defined_never tree f.name.bytes never }, refl))
  broken_part r at other = tt

  complete : (fault : Option Fault) (at : ℕ) → IsFirstFault tree fault → Breaks tree rule.Unknown at → IsNotBehind fault rule.Unknown at
  complete fault at h b =
      not_behind fault rule.Unknown at
      (part_reached IsJudged (BreaksAt D) tree (text_names tree) fault (fault_of rule.Unknown at) h (broken_part rule.Unknown at b))

pub names_sound : FaultsAreBroken rule.Unknown
names_sound = sound

pub names_complete : BrokenAreFaults rule.Unknown
names_complete = complete
