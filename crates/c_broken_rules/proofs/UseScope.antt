-- Uses that break the thread rule, in a whole text.
use Rattle.std.proofs.Common.{inl, inr, ◌≡◌, refl, sym, subst, ap, ◌∙◌, ℕ, suc, Bool, true, false, List, [], ◌∷◌, length, Option, Some, None, arith}
use Rattle.std.specs.Prelude.{◌-◌, is_none, not, slice_get}
use Rattle.std.proofs.lemmas.Option.{none-some}
use Rattle.std.proofs.lemmas.Bool.{false≢true}
use Rattle.c_tree.specs.declared.expression.Specifiers.{Specifiers}
use Rattle.c_tree.specs.declared.expression.Expression.{out-Expression}
use Rattle.c_tree.specs.declared.declaration.Function.{Function}
use Rattle.c_tree.specs.declared.declaration.TranslationUnit.{TranslationUnit}
use Rattle.c_rules.specs.declared.fault.Rule.TheVariants as rule
use Rattle.c_rules.specs.declared.specifiers.BaseType.{BaseType}
use Rattle.c_rules.specs.declared.specifiers.BaseType.TheVariants as base
use Rattle.c_rules.specs.declared.specifiers.BasicType.{BasicType}
use Rattle.c_rules.specs.declared.names.Scope.{Scope}
use Rattle.c_rules.specs.Constants.{constancy}
use Rattle.c_rules.specs.Findings.{nothing}
use Rattle.c_rules.specs.Names.{look_up, is_argument, opened, closed, closed_to}
use Rattle.c_rules.specs.Names as names
use Rattle.c_rules.specs.Specifiers.{base_of, plain, spelled_by}
use Rattle.c_expressions.specs.Expressions as e
use Rattle.c_calls.specs.Calls as k
use Rattle.c_resolution.specs.Locals as l
use Rattle.c_resolution.specs.Functions as y
use Rattle.c_resolution.specs.Resolving.{before}
use Rattle.c_resolution.specs.Resolving as resolving
use Rattle.c_resolution.specs.Texts as t
use Rattle.c_broken_rules.specs.Sight.{Declared, Where}
use Rattle.c_broken_rules.specs.Breaks.{IsThreadType}
use Rattle.c_broken_rules.specs.Parts.{Part, parts, at_first}
use Rattle.c_broken_rules.proofs.Ledgers.{Ledger, Entered, Good, Writes, left, quiet, writes_with}
use Rattle.c_broken_rules.proofs.Events.{Events}
use Rattle.c_broken_rules.proofs.Walks.{Scoping}
use Rattle.c_broken_rules.proofs.Calls.{no_creates}
use Rattle.c_broken_rules.proofs.Functions.{text_is}
use Rattle.c_broken_rules.proofs.NameScope as n
use Rattle.c_broken_rules.proofs.NameScope.{IsMeant}
use Rattle.c_broken_rules.proofs.Quiets as q
use Rattle.c_broken_rules.proofs.Quiets.{IsQuiet}
use Rattle.c_broken_rules.proofs.Uses as u
use Rattle.c_broken_rules.proofs.Uses.{use_ledger}
use Rattle.c_broken_rules.proofs.UseFindings as m
use Rattle.c_broken_rules.proofs.UseFindings.{BodyIs, Stands}

abbrev L : Ledger
L = use_ledger

unknown : IsQuiet L rule.Unknown
unknown = u.other rule.Unknown (λ j. j)

constants : IsQuiet L rule.Constant
constants = u.other rule.Constant (λ j. j)

formats : IsQuiet L rule.Format
formats = u.other rule.Format (λ j. j)

twice : IsQuiet L rule.Twice
twice = u.other rule.Twice (λ j. j)

-- ---- objects of blocks

type_is : (b : BaseType) → l.is_object_type b ≡ true → IsThreadType b
type_is base.Thread h = tt
type_is base.Mutex h = tt
type_is base.Barrier h = tt
type_is other h = absurd (false≢true h)

no_type : (b : BaseType) → l.is_object_type b ≡ false → IsThreadType b → ⊥
no_type base.Thread h k = false≢true (sym h)
no_type base.Mutex h k = false≢true (sym h)
no_type base.Barrier h k = false≢true (sym h)
no_type other h k = k

plain_type : (static : Bool) (b : BaseType) (ty : BasicType) → plain static b ≡ Some ty → IsThreadType b → ⊥
plain_type true base.Thread ty h k = none-some ty h
plain_type false base.Thread ty h k = none-some ty h
plain_type true base.Mutex ty h k = none-some ty h
plain_type false base.Mutex ty h k = none-some ty h
plain_type true base.Barrier ty h k = none-some ty h
plain_type false base.Barrier ty h k = none-some ty h
plain_type static (base.Integer x) ty h k = k
plain_type static base.Void ty h k = k
plain_type static base.Unlisted ty h k = k

no_local_at : (words : Specifiers) (at : ℕ) → l.is_object_type (base_of words.words) ≡ false → (x : L.Entry) → Entered L (Part.Local words at ∷ []) x → ⊥
no_local_at words at is x (inl k) = no_type (base_of words.words) is k.0
no_local_at words at is x (inr h) = h

local_is : (words : Specifiers) (at : ℕ) → Good L (l.refused_local (spelled_by words) at) (Part.Local words at ∷ [])
local_is words at =
    q.local_is L u.others words at (Part.Local words at ∷ [])
    (λ is. u.part_fault (Part.Local words at) at (type_is (base_of words.words) is, refl) (λ z k. k.1)) (no_local_at words at)

more_none : (n : ℕ) → suc n ≡ 0 → ⊥
more_none n h = omega arith

module _ (D : List (List ℕ × ℕ)) where
  events : (s : Scope) (w : Where) → Stands D s w → Events L s w
  events s w stands = record {
    other = u.others;
    constant = λ v at. quiet L (Part.Constant v at) (λ x k. k) (q.constant_is L constants v at);
    used = λ name more. quiet L (Part.Use w name) (λ x k. k) (q.misuse_quiet L u.others (look_up s name.bytes) (suc more) name.offset (λ _. unknown)
        (λ _ h. absurd (more_none more h)));
    read = λ name. m.read_by D s w name stands.agrees (look_up s name.bytes) refl;
    converted = λ name out. quiet L (Part.Use w name) (λ x k. k) (q.misuse_quiet L u.others (look_up s name.bytes) 0 name.offset (λ _. unknown)
        (λ is _. absurd (false≢true (sym out ∙ ap is_argument is))));
    argument = λ name h x k. k;
    target = λ name indices. quiet L (Part.Use w name) (λ x k. k) (q.target_quiet L u.others (look_up s name.bytes) indices name.offset (λ _. unknown));
    object = λ kind name at indices number. quiet L (Part.Use w name) (λ x k. k)
        (q.object_named L u.others kind (look_up s name.bytes) name.offset at indices number (λ _. unknown));
    routine = λ name h at is. m.routine_by D s w name h at stands.agrees is;
    no_routine = λ name is x k. k;
    misplaced = λ name count none. m.misplaced_by D s w name count stands (look_up s name.bytes) refl none;
    library = λ name function count is. m.library_call D s w name function count stands is;
    function = λ name number count is_value is. m.function_is D s w name number count is_value stands.agrees is;
    no_function = λ name none own. m.no_function_by D s w name stands.agrees none own;
    print = λ name first values. quiet L (Part.Print name (first ∷ values)) (λ x k. k)
        (q.broken_if L (not (k.takes (k.format first) (length values))) rule.Format (e.argument_offset first) formats);
    no_print = λ name. quiet L (Part.Print name []) (λ x k. k) (formats name.offset);
    length = λ v. quiet L (Part.Length v) (λ x k. k) (q.length_is L constants (constancy v) (out-Expression v).offset);
    local = λ words at is. local_is words at;
    no_local = λ words at ty is x k. plain_type (spelled_by words).is_static (base_of words.words) ty is k.0;
    initial = λ ty v. quiet L (Part.Initial v) (λ x k. k) (q.initial_is L constants ty (constancy v) (out-Expression v).offset);
    listed = λ lengths n index at is. quiet L (Part.Listed lengths index at) (λ x k. k) (q.broken_if L _ rule.Constant at constants);
  }

  -- ---- scopes that change

  record InSame (s z : Scope) : Type 0 where
    pub function : z.function ≡ s.function
    pub gives : z.gives ≡ s.gives

  inside_as : (s z : Scope) (f : Function) → InSame s z → m.IsInside D s f → m.IsInside D z f
  inside_as s z f same h = record { some = ap is_none same.function ∙ h.some; gives = same.gives ∙ h.gives }

  body_as : (s z : Scope) (o : Option (ℕ × Function)) → InSame s z → BodyIs D s o → BodyIs D z o
  body_as s z None same h = same.function ∙ h
  body_as s z (Some body) same h = inside_as s z body.1 same h

  same_opened : (s : Scope) → InSame s (opened s)
  unfolding opened
  same_opened s = record { function = refl; gives = refl }

  same_closed_to : (s : Scope) (o : Option names.Names) → InSame s (closed_to o s)
  same_closed_to s None = record { function = refl; gives = refl }
  same_closed_to s (Some level) = record { function = refl; gives = refl }

  same_closed : (s : Scope) → InSame s (closed s)
  unfolding closed
  same_closed s = same_closed_to s (slice_get s.outer (length s.outer - 1))

  scoping_uses : Scoping L
  unfolding n.scoping_named
  scoping_uses =
      let N = n.scoping_named D in
      record {
        Agrees = Stands D;
        Means = λ w name. IsMeant D;
        events = events;
        creates = λ s w stands. no_creates L s w (events s w stands) u.creation_quiet (λ thread name x k. k);
        opened = λ s w h. record { agrees = N.opened s w h.agrees; body = body_as s (opened s) w.body (same_opened s) h.body };
        is_open = λ s w h. N.is_open s w h.agrees;
        closed = λ s scope w opening h. record {
          agrees = N.closed s scope w opening h.agrees;
          body = body_as s (closed s) w.body (same_closed s) h.body;
        };
        no_names = λ s w h. record { agrees = N.no_names s w h.agrees; body = h.body };
        loops = λ s w count exits h. record {
          agrees = N.loops s w count exits h.agrees;
          body = body_as s (record s { loops = count; exits = exits }) w.body (record { function = refl; gives = refl }) h.body;
        };
        local = λ s w v h. record {
          agrees = N.local s w v h.agrees;
          body = body_as s (l.with_local v s) w.body (record { function = refl; gives = refl }) h.body;
        };
        declares = λ x w name d o h means.
            let still = q.declare_is L u.others twice name o x in
            record {
              writes = writes_with L (Part.Declares w name d) (λ z k. k) still.writes;
              agrees = record {
                agrees = (N.declares x w name d o h.agrees means).agrees;
                body = body_as x.scope (left (l.declare name o x)).scope w.body (record { function = still.function; gives = still.gives }) h.body;
              };
              value = tt;
            };
        variable = N.variable;
        parameter = N.parameter;
        IsSwitched = λ w over ty. Unit {0};
        switched = λ s w over at cuts found h. tt;
        case = λ s w over ty before l v c h is noted some. quiet L (Part.Label w over before l) (λ x k. k)
            (q.noted_quiet L twice constants ty (constancy v) (out-Expression v).offset c);
        default = λ s w over ty before l c h is noted none. quiet L (Part.Label w over before l) (λ x k. k) (q.default_quiet L twice l.offset c);
        Held = N.Held;
        object = N.object;
        held_object = N.held_object;
        held_function = N.held_function;
        held_none = N.held_none;
        At = λ w count list. w.body ≡ None;
        next = λ w count d more here. here;
        IsHeader = N.IsHeader;
        header = λ s w f h. N.header s w f h.agrees;
        gives = λ s w count rest given here h. record {
          agrees = N.gives s w count rest given tt h.agrees;
          body = subst (λ o. BodyIs D (y.with_gives given s) o) (sym here) (subst (λ o. BodyIs D s o) here h.body);
        };
        declares_function = λ x w count f h rest here stands is.
            let still = q.function_is L u.others twice h f.name (y.is_second f h count) x in
            record {
              writes = writes_with L (Part.Declares w f.name (Declared.OfFunction f)) (λ z k. k) still.writes;
              agrees = record {
                agrees = (N.declares_function x w count f h rest tt stands.agrees is).agrees;
                body = body_as x.scope (left (y.declare_function h f.name (y.is_second f h count) x)).scope w.body
                    (record { function = still.function; gives = still.gives }) stands.body;
              };
              value = tt;
            };
        entered = λ s w v count from f h rest here e is gives stands. record {
          agrees = N.entered s w v count from f h rest tt e is gives stands.agrees;
          body = record { some = refl; gives = gives ∙ ap y.gives_of is };
        };
        left_body = λ s w v count f rest here e stands. record {
          agrees = N.left_body s w v count f rest tt e stands.agrees;
          body = subst (λ o. BodyIs D (y.left s) o) (sym (e ∙ here)) refl;
        };
        no_locals = λ s w h. record {
          agrees = N.no_locals s w h.agrees;
          body = body_as s (y.without_locals s) w.body (record { function = refl; gives = refl }) h.body;
        };
      }

-- ---- a whole text

pub text_uses : (tree : TranslationUnit) → Writes L nothing (resolving.behind tree.declarations).found (parts tree)
unfolding resolving.behind t.declarations scoping_uses
text_uses tree =
    let D = t.definitions tree.declarations in
    text_is L (scoping_uses D) tree.declarations tt at_first 0 refl (before tree.declarations) tt
    (record { agrees = record { defined = refl; scopes = (record { same = λ key own. tt }, refl) }; body = refl }) refl
