-- What declarations of objects at file scope write.
use Rattle.std.proofs.Common.{◌≡◌, refl, sym, subst, ap, ◌∙◌, ℕ, Bool, true, false, List, [], ◌∷◌, ◌++◌, Option, Some, None, length, append_assoc}
use Rattle.std.proofs.lemmas.Bool.{false≢true}
use Rattle.std.specs.Prelude.{unwrap_or, if◌then◌else◌, not, ◌&&◌}
use Rattle.std.proofs.lemmas.List.{append-nil}
use Rattle.c_tree.specs.declared.expression.Name.{Name}
use Rattle.c_tree.specs.declared.expression.Specifiers.{Specifiers}
use Rattle.c_tree.specs.declared.expression.Expression.{Expression as ExpressionTree}
use Rattle.c_tree.specs.declared.declaration.Initializer.{Initializer}
use Rattle.c_tree.specs.declared.declaration.Initializer.TheVariants as initial_as
use Rattle.c_tree.specs.declared.declaration.GlobalDeclarator.{GlobalDeclarator}
use Rattle.c_tree.specs.declared.declaration.GlobalDeclaration.{GlobalDeclaration}
use Rattle.c_program.specs.declared.tree.ThreadObject.{ThreadObject}
use Rattle.c_rules.specs.declared.fault.Rule.TheVariants as rule
use Rattle.c_rules.specs.declared.specifiers.BaseType.{BaseType}
use Rattle.c_rules.specs.declared.specifiers.BaseType.TheVariants as base
use Rattle.c_rules.specs.declared.dimensions.Dimensions.{Dimensions}
use Rattle.c_rules.specs.declared.dimensions.Dimensions.TheVariants.{Scalar, One, Two, Three}
use Rattle.c_rules.specs.declared.names.Meaning.{Meaning}
use Rattle.c_rules.specs.declared.names.Meaning.TheVariants as meaning
use Rattle.c_rules.specs.declared.names.Variable.{Variable}
use Rattle.c_rules.specs.declared.names.Object.{Object}
use Rattle.c_rules.specs.declared.names.ObjectKind.{ObjectKind}
use Rattle.c_rules.specs.declared.names.ObjectKind.TheVariants.{Thread, Mutex, Barrier}
use Rattle.c_rules.specs.declared.names.Scope.{Scope}
use Rattle.c_rules.specs.declared.findings.Findings.{Findings}
use Rattle.c_rules.specs.Names.{same_kind}
use Rattle.c_rules.specs.Specifiers.{c_type, spelled_by, base_of}
use Rattle.c_rules.specs.Walks.{Outcome, pure, finds, through, place_in_tree, ◌>>=◌, ◌>>◌}
use Rattle.c_resolution.specs.States.{State, state, Goes, finding, in_scope}
use Rattle.c_resolution.specs.Locals as l
use Rattle.c_resolution.specs.Files.{File, Tables, Declares, in_file, going, tabling}
use Rattle.c_resolution.specs.Globals as g
use Rattle.c_broken_rules.specs.Sight.{Declared, Names, Where, behind}
use Rattle.c_broken_rules.specs.Parts as p
use Rattle.c_broken_rules.specs.Parts.{Part, Parts, of_any, of_each}
use Rattle.c_broken_rules.proofs.Ledgers.{Ledger, Good, Writes, given, left, turn, after_one, good_pure, good_before}
use Rattle.c_broken_rules.proofs.Ledgers.{nothing_new, writes_both}
use Rattle.c_broken_rules.proofs.Events.{Events}
use Rattle.c_broken_rules.proofs.Lengths.{HasLengths, kept_lengths, dimensions_are, small_is}
use Rattle.c_broken_rules.proofs.Braces.{initial_of, refused}
use Rattle.c_broken_rules.proofs.Locals.{dimensions}
use Rattle.c_broken_rules.proofs.Walks.{Scoping, Right, Goes_right, Adds, is_small, is_thread, is_thread_base, right_then, right_finding, right_finding_is, behind_both}

module _ (L : Ledger) (s : Scope) (w : Where) (events : Events L s w) where
  pub initial : (name : Name) (v : Variable) (lengths : List ExpressionTree) (i : Option Initializer) → HasLengths v.dimensions (kept_lengths lengths) →
      Good L (g.initial name v i s) (of_any (p.given_parts w true lengths) i)
  initial name v lengths None has = good_pure L []
  initial name v lengths (Some i) has = initial_of L s w events name (c_type v.ty) v.dimensions lengths i has

  initialised_by : (o : Object) (name : Name) (i : Initializer) (b : Bool) → (b ≡ true → p.initializer_parts w i ≡ []) →
      Good L (if b then pure true else g.refused name i s >> pure false) (p.initializer_parts w i)
  initialised_by o name i true none = subst (λ ps. Good L (pure true) ps) (sym (none refl)) (good_pure L true)
  initialised_by o name i false none = good_before L (g.refused name i s) (λ _. pure false) (p.initializer_parts w i) (refused L s w events name i) (λ _. good_pure L false)

  mutex_only : (o : Object) (i : Initializer) → (g.is_mutex_initializer i && g.is_scalar_mutex o) ≡ true → p.initializer_parts w i ≡ []
  mutex_only o initial_as.Mutex is = refl
  mutex_only o (initial_as.Value v) is = absurd (false≢true is)
  mutex_only o (initial_as.List list at) is = absurd (false≢true is)

  pub is_initialised : (o : Object) (name : Name) (lengths : List ExpressionTree) (i : Option Initializer) → Good L (g.is_initialised o name i s)
      (of_any (p.given_parts w false lengths) i)
  is_initialised o name lengths None = good_pure L false
  is_initialised o name lengths (Some i) = initialised_by o name i (g.is_mutex_initializer i && g.is_scalar_mutex o) (mutex_only o i)

  pub refused_initial : (name : Name) (lengths : List ExpressionTree) (i : Option Initializer) → Good L (g.refused_initial name i s) (of_any (p.given_parts w false lengths) i)
  refused_initial name lengths None = good_pure L tt
  refused_initial name lengths (Some i) = refused L s w events name i

-- ---- the thread objects of a file's tables

pub in_file_tables : {A : Type 0} (t : Tables) (o : Outcome State A) → (left (in_file t o)).tables ≡ t
in_file_tables t (Outcome.Gives a s) = refl

pub going_tables : {A : Type 0} (walk : Goes A) (x : File) → (left (going walk x)).tables ≡ x.tables
going_tables walk x = in_file_tables x.tables (walk (state x.scope x.found))

pub then_tables : {A B : Type 0} (q : Declares A) (r : A → Declares B) (x : File) → (left ((q >>= r) x)).tables ≡ (left (r (given (q x)) (left (q x)))).tables
then_tables {A} {B} q r x = ap (λ (o : Outcome File B). (left o).tables) (turn (q x) r)

changed_by : {A : Type 0} (walk : Goes A) (change : A → Tables → Tables) (x : File) → (a : A) × ((left ((going walk >>= (λ v. tabling (change v))) x)).tables ≡ change a x.tables)
changed_by walk change x =
    let o = going walk x in
    (given o, then_tables (going walk) (λ v. tabling (change v)) x ∙ ap (change (given o)) (going_tables walk x))

object_tables : (d : GlobalDeclarator) (o : Object) (x : File) → (b : Bool) × ((left (g.global_object d o x)).tables ≡ g.with_object o b x.tables)
unfolding g.global_object
object_tables d o x =
    let first = going (l.declare d.name (meaning.Object o)) in
    let more = λ (u : Unit {0}). going (finding (g.is_initialised o d.name d.initializer)) >>= (λ b. tabling (g.with_object o b)) in
    let c = changed_by (finding (g.is_initialised o d.name d.initializer)) (λ b. g.with_object o b) (left (first x)) in
    (c.0, then_tables first more x ∙ c.1 ∙ ap (g.with_object o c.0) (going_tables (l.declare d.name (meaning.Object o)) x))

variable_threads : (d : GlobalDeclarator) (v : Variable) (x : File) → (left (g.global_variable d v x)).tables.threads ≡ x.tables.threads
unfolding g.global_variable
variable_threads d v x =
    let first = going (l.declare d.name (meaning.Variable v)) in
    let values = finding (g.initial d.name v d.initializer) in
    let more = λ (u : Unit {0}). going values >>= (λ a. tabling (g.with_variable d.name v a)) in
    let c = changed_by values (λ a. g.with_variable d.name v a) (left (first x)) in
    ap (λ (t : Tables). t.threads) (then_tables first more x ∙ c.1) ∙ ap (λ (t : Tables). t.threads) (going_tables (l.declare d.name (meaning.Variable v)) x)

kind_threads : (t : Tables) (u : Tables) (kind : ObjectKind) (size : ℕ) (b : Bool) → u ≡ g.with_object_of kind size b t → Adds (same_kind Thread kind) t.threads u.threads
kind_threads t u Thread size b e = (size, ap (λ (z : Tables). z.threads) e)
kind_threads t u Mutex size b e = ap (λ (z : Tables). z.threads) e
kind_threads t u Barrier size b e = ap (λ (z : Tables). z.threads) e

small_threads : (b : Bool) (old new : List ThreadObject) → Adds b old new → Adds (b && true) old new
small_threads true old new h = h
small_threads false old new h = h

same_threads : (b : Bool) (old new : List ThreadObject) → new ≡ old → Adds (b && false) old new
same_threads true old new h = h
same_threads false old new h = h

unusable_threads : (d : GlobalDeclarator) (x : File) → (left (g.global_as d meaning.Unusable x)).tables.threads ≡ x.tables.threads
unfolding g.global_as
unusable_threads d x = ap (λ (z : Tables). z.threads) (going_tables (g.unusable d) x)

one_object : (d : GlobalDeclarator) (kind : ObjectKind) (number : ℕ) (size : Option ℕ) (x : File) →
    Adds (same_kind Thread kind) x.tables.threads (left (g.global_as d (meaning.Object (record { kind = kind; number = number; length = size })) x)).tables.threads
unfolding g.global_as
one_object d kind number size x =
    let v : Object = record { kind = kind; number = number; length = size } in
    let o = object_tables d v x in
    kind_threads x.tables (left (g.global_object d v x)).tables kind (unwrap_or size 1) o.0 o.1

-- an object of two dimensions or more is none
object_threads : (d : GlobalDeclarator) (kind : ObjectKind) (count : ℕ) (size : Dimensions) (x : File) →
    Adds (same_kind Thread kind && is_small size) x.tables.threads (left (g.global_as d (g.object kind count size) x)).tables.threads
object_threads d kind count Scalar x = small_threads (same_kind Thread kind) _ _ (one_object d kind (place_in_tree count) None x)
object_threads d kind count (One n) x = small_threads (same_kind Thread kind) _ _ (one_object d kind (place_in_tree count) (Some n) x)
object_threads d kind count (Two a b) x = same_threads (same_kind Thread kind) _ _ (unusable_threads d x)
object_threads d kind count (Three a b c) x = same_threads (same_kind Thread kind) _ _ (unusable_threads d x)

as_threads : (t : Tables) (words : Specifiers) (size : Dimensions) (d : GlobalDeclarator) (x : File) (b : Bool) (kind : BaseType) →
    Adds (not b && (is_thread_base kind && is_small size)) x.tables.threads
    (left (g.global_as d (if b then meaning.Unusable else g.meaning_by t (spelled_by words) size kind) x)).tables.threads
unfolding g.global_as
as_threads t words size d x true kind = unusable_threads d x
as_threads t words size d x false (base.Integer ty) = variable_threads d _ x
as_threads t words size d x false base.Thread = object_threads d Thread (length t.threads) size x
as_threads t words size d x false base.Mutex = object_threads d Mutex (length t.mutexes) size x
as_threads t words size d x false base.Barrier = object_threads d Barrier (length t.barriers) size x
as_threads t words size d x false base.Void = unusable_threads d x
as_threads t words size d x false base.Unlisted = unusable_threads d x

in_scope_gives : {A : Type 0} (Is : A → Type 0) (scope : Scope) (o : Outcome Findings A) → Is (given o) → Is (given (in_scope scope o))
in_scope_gives Is scope (Outcome.Gives a found) h = h

in_file_gives : {A : Type 0} (Is : A → Type 0) (t : Tables) (o : Outcome State A) → Is (given o) → Is (given (in_file t o))
in_file_gives Is t (Outcome.Gives a z) h = h

given_lengths : (d : GlobalDeclarator) (x : File) → HasLengths (given (going (finding (l.dimensions d.lengths)) x)) (kept_lengths d.lengths)
given_lengths d x =
    let Has = λ (size : Dimensions). HasLengths size (kept_lengths d.lengths) in
    in_file_gives Has x.tables (finding (l.dimensions d.lengths) (state x.scope x.found))
    (in_scope_gives Has x.scope (l.dimensions d.lengths x.scope x.found) (dimensions_are x.scope d.lengths x.found))

global_threads : (words : Specifiers) (pointer : Bool) (d : GlobalDeclarator) (x : File) →
    Adds (is_thread words pointer d) x.tables.threads (left (g.global (spelled_by words) pointer d x)).tables.threads
unfolding g.global
global_threads words pointer d x =
    let size = finding (l.dimensions d.lengths) in
    let rest = λ (n : Dimensions). g.global_as d (g.global_meaning x.tables (spelled_by words) pointer n) in
    let o = going size x in
    subst (λ (t : Tables). Adds (is_thread words pointer d) x.tables.threads t.threads) (sym (then_tables (going size) rest x))
    (subst (λ (t : Tables). Adds (is_thread words pointer d) t.threads (left (rest (given o) (left o))).tables.threads) (going_tables size x)
    (subst (λ b. Adds (not pointer && (is_thread_base (base_of words.words) && b)) (left o).tables.threads (left (rest (given o) (left o))).tables.threads)
    (small_is (given o) d.lengths (given_lengths d x)) (as_threads x.tables words (given o) d (left o) pointer (base_of words.words))))

next_threads : (words : Specifiers) (pointer : Bool) (d : GlobalDeclarator) (x : File) →
    Adds (is_thread words pointer d) x.tables.threads (left (g.next_object (spelled_by words) pointer d x)).tables.threads
next_threads words pointer d x =
    subst (λ (t : Tables). Adds (is_thread words pointer d) x.tables.threads t.threads) (sym (then_tables (g.global (spelled_by words) pointer d) (λ _. pure false) x))
    (global_threads words pointer d x)

-- ---- walks through a file

-- what a walk through a file writes, what is in sight behind it, and how many functions are defined there
pub record Filed (L : Ledger) (Agrees : Scope → Where → Type 0) {A : Type 0} (x : File) (o : Outcome File A) (parts : Parts) (w : Where) (number : ℕ) : Type 0 where
  pub writes : Writes L x.found (left o).found parts
  pub agrees : Agrees (left o).scope w
  pub counts : length (left o).tables.functions ≡ number

module _ (L : Ledger) (S : Scoping L) where
  abbrev pub Files : {A : Type 0} → Where → ℕ → Declares A → (A → Type 0) → Parts → Where → ℕ → Type 0
  Files w n walk Is ps v m =
      (x : File) → S.Agrees x.scope w → length x.tables.functions ≡ n → Filed L S.Agrees x (walk x) ps v m × Is (given (walk x))

  file_then_at : {A B : Type 0} (q : Declares A) (r : A → Declares B) (Is : A → Type 0) (Next : B → Type 0) (ps qs : Parts) (v u : Where) (m k : ℕ) (x : File) →
      Filed L S.Agrees x (q x) ps v m × Is (given (q x)) → ((a : A) → Is a → Files v m (r a) Next qs u k) → Filed L S.Agrees x ((q >>= r) x) (ps ++ qs) u k × Next (given ((q >>= r) x))
  file_then_at {A} {B} q r Is Next ps qs v u m k x first g =
      let second = g (given (q x)) first.1 (left (q x)) first.0.agrees first.0.counts in
      subst (λ (o : Outcome File B). Filed L S.Agrees x o (ps ++ qs) u k × Next (given o)) (sym (turn (q x) r)) (
        record { writes = writes_both L ps qs first.0.writes second.0.writes; agrees = second.0.agrees; counts = second.0.counts },
        second.1,
      )

  pub file_then : {A B : Type 0} (q : Declares A) (r : A → Declares B) (Is : A → Type 0) (Next : B → Type 0) (ps qs : Parts) (w v u : Where) (n m k : ℕ) → Files w n q Is ps v m →
      ((a : A) → Is a → Files v m (r a) Next qs u k) → Files w n (q >>= r) Next (ps ++ qs) u k
  file_then q r Is Next ps qs w v u n m k h g x agrees count = file_then_at q r Is Next ps qs v u m k x (h x agrees count) g

  in_file_right : {A : Type 0} (Is : A → Type 0) (x : File) (ps : Parts) (w : Where) (n : ℕ) (o : Outcome State A) → Right L S.Agrees (state x.scope x.found) o Is ps w →
      length x.tables.functions ≡ n → Filed L S.Agrees x (in_file x.tables o) ps w n × Is (given (in_file x.tables o))
  in_file_right Is x ps w n (Outcome.Gives a s) h count = (record { writes = h.writes; agrees = h.agrees; counts = count }, h.value)

  pub file_going : {A : Type 0} (walk : Goes A) (Is : A → Type 0) (ps : Parts) (w v : Where) (n : ℕ) → Goes_right L S w walk Is ps v → Files w n (going walk) Is ps v n
  file_going walk Is ps w v n h x agrees count = in_file_right Is x ps v n (walk (state x.scope x.found)) (h (state x.scope x.found) agrees) count

  pub file_tabling : (change : Tables → Tables) (w : Where) (n m : ℕ) → ((t : Tables) → length t.functions ≡ n → length (change t).functions ≡ m) →
      Files w n (tabling change) (λ _. Unit {0}) [] w m
  file_tabling change w n m h x agrees count = (record { writes = nothing_new L x.found; agrees = agrees; counts = h x.tables count }, tt)

  -- ---- objects

  module _ (words : Specifiers) (pointer : Bool) (d : GlobalDeclarator) (w : Where) (n : ℕ) where
    abbrev there : Where
    there = behind (p.object_names words pointer d) w

    abbrev MeansIt : Meaning → Type 0
    MeansIt m = S.Means w d.name (Declared.OfObject words pointer d) m

    named : (m : Meaning) → MeansIt m →
        Files w n (going (l.declare d.name m)) (λ _. Unit {0}) (Part.Declares w d.name (Declared.OfObject words pointer d) ∷ []) there n
    named m is =
        file_going (l.declare d.name m) (λ _. Unit {0}) (Part.Declares w d.name (Declared.OfObject words pointer d) ∷ []) w there n
        (λ x agrees. S.declares x w d.name (Declared.OfObject words pointer d) m agrees is)

    abbrev declared_parts : Bool → Parts
    declared_parts integer = Part.Declares w d.name (Declared.OfObject words pointer d) ∷ of_any (p.given_parts there integer d.lengths) d.initializer

    variable_is : (v : Variable) → MeansIt (meaning.Variable v) → HasLengths v.dimensions (kept_lengths d.lengths) → Files w n (g.global_variable d v) (λ _. Unit {0}) (declared_parts true) there n
    unfolding g.global_variable
    variable_is v means size =
        let ps = of_any (p.given_parts there true d.lengths) d.initializer in
        let values = λ (s : Scope). g.initial d.name v d.initializer s in
        file_then (going (l.declare d.name (meaning.Variable v))) (λ _. going (finding values) >>= (λ x. tabling (g.with_variable d.name v x))) (λ _. Unit {0}) (λ _. Unit {0})
        (Part.Declares w d.name (Declared.OfObject words pointer d) ∷ []) ps w there there n n n (named (meaning.Variable v) means)
        (λ _ _. subst (λ qs. Files there n (going (finding values) >>= (λ x. tabling (g.with_variable d.name v x))) (λ _. Unit {0}) qs there n) (append-nil ps)
        (file_then (going (finding values)) (λ x. tabling (g.with_variable d.name v x)) (λ _. Unit {0}) (λ _. Unit {0}) ps [] there there there n n n
        (file_going (finding values) (λ _. Unit {0}) ps there there n
        (right_finding L S values ps there (λ s agrees. initial L s there (S.events s there agrees) d.name v d.lengths d.initializer size)))
        (λ x _. file_tabling (g.with_variable d.name v x) there n n (λ t is. is))))

    object_count : (kind : ObjectKind) (size : ℕ) (b : Bool) (t : Tables) → length t.functions ≡ n → length (g.with_object_of kind size b t).functions ≡ n
    object_count Thread size b t is = is
    object_count Mutex size b t is = is
    object_count Barrier size b t is = is

    object_is : (o : Object) → MeansIt (meaning.Object o) → Files w n (g.global_object d o) (λ _. Unit {0}) (declared_parts false) there n
    unfolding g.global_object
    object_is o means =
        let ps = of_any (p.given_parts there false d.lengths) d.initializer in
        let given_one = λ (s : Scope). g.is_initialised o d.name d.initializer s in
        file_then (going (l.declare d.name (meaning.Object o))) (λ _. going (finding given_one) >>= (λ x. tabling (g.with_object o x))) (λ _. Unit {0}) (λ _. Unit {0})
        (Part.Declares w d.name (Declared.OfObject words pointer d) ∷ []) ps w there there n n n (named (meaning.Object o) means)
        (λ _ _. subst (λ qs. Files there n (going (finding given_one) >>= (λ x. tabling (g.with_object o x))) (λ _. Unit {0}) qs there n) (append-nil ps)
        (file_then (going (finding given_one)) (λ x. tabling (g.with_object o x)) (λ _. Unit {0}) (λ _. Unit {0}) ps [] there there there n n n
        (file_going (finding given_one) (λ _. Unit {0}) ps there there n
        (right_finding L S given_one ps there (λ s agrees. is_initialised L s there (S.events s there agrees) o d.name d.lengths d.initializer)))
        (λ x _. file_tabling (g.with_object o x) there n n (λ t is. object_count o.kind (unwrap_or o.length 1) x t is))))

    unusable_is : MeansIt meaning.Unusable → Files w n (going (g.unusable d)) (λ _. Unit {0}) (declared_parts false) there n
    unfolding g.unusable
    unusable_is means =
        let ps = of_any (p.given_parts there false d.lengths) d.initializer in
        let at = λ (s : Scope). finds rule.Kind d.name.offset in
        let first = λ (s : Scope). g.refused_initial d.name d.initializer s in
        file_going (g.unusable d) (λ _. Unit {0}) (declared_parts false) w there n
        (right_then L S (finding at) (λ _. l.declare d.name meaning.Unusable >> finding first) (λ _. Unit {0}) (λ _. Unit {0}) [] (declared_parts false) w w there
        (right_finding L S at [] w (λ s agrees. (S.events s w agrees).other rule.Kind d.name.offset tt))
        (λ _ _. right_then L S (l.declare d.name meaning.Unusable) (λ _. finding first) (λ _. Unit {0}) (λ _. Unit {0})
        (Part.Declares w d.name (Declared.OfObject words pointer d) ∷ []) ps w there there
        (λ x agrees. S.declares x w d.name (Declared.OfObject words pointer d) meaning.Unusable agrees means)
        (λ _ _. right_finding L S first ps there (λ s agrees. refused_initial L s there (S.events s there agrees) d.name d.lengths d.initializer))))

    object_by : (kind : ObjectKind) (count : ℕ) (size : Dimensions) → MeansIt (g.object kind count size) →
        Files w n (g.global_as d (g.object kind count size)) (λ _. Unit {0}) (declared_parts false) there n
    unfolding g.global_as
    object_by kind count Scalar means = object_is _ means
    object_by kind count (One a) means = object_is _ means
    object_by kind count (Two a b) means = unusable_is means
    object_by kind count (Three a b c) means = unusable_is means

    by_meaning : (t : Tables) (size : Dimensions) → HasLengths size (kept_lengths d.lengths) → (b : Bool) (kind : BaseType) →
        MeansIt (if b then meaning.Unusable else g.meaning_by t (spelled_by words) size kind) →
        Files w n (g.global_as d (if b then meaning.Unusable else g.meaning_by t (spelled_by words) size kind)) (λ _. Unit {0}) (declared_parts (not b && p.is_integer_base
        kind)) there n
    unfolding g.global_as
    by_meaning t size has true kind means = unusable_is means
    by_meaning t size has false (base.Integer ty) means = variable_is _ means has
    by_meaning t size has false base.Thread means = object_by Thread (length t.threads) size means
    by_meaning t size has false base.Mutex means = object_by Mutex (length t.mutexes) size means
    by_meaning t size has false base.Barrier means = object_by Barrier (length t.barriers) size means
    by_meaning t size has false base.Void means = unusable_is means
    by_meaning t size has false base.Unlisted means = unusable_is means

    pub global : (later : Names) (x : File) → S.Held x.tables w (p.object_names words pointer d ++ later) → S.Agrees x.scope w → length x.tables.functions ≡ n →
        Filed L S.Agrees x (g.global (spelled_by words) pointer d x) (p.object_parts_by w words pointer d) there n × Unit {0}
    unfolding g.global
    global later x held agrees count =
        let ps = of_each (p.length_parts w) d.lengths in
        let size = l.dimensions d.lengths in
        let Has = λ (n : Dimensions). HasLengths n (kept_lengths d.lengths) in
        let rest = λ (n : Dimensions). g.global_as d (g.global_meaning x.tables (spelled_by words) pointer n) in
        file_then (going (finding size)) rest Has (λ _. Unit {0}) ps (declared_parts (p.is_integer words pointer)) w w there n n n
        (file_going (finding size) Has ps w w n
        (right_finding_is L S size Has ps w (λ s agrees. dimensions L s w (S.events s w agrees) d.lengths) (λ s found. dimensions_are s d.lengths found)))
        (λ n has. by_meaning x.tables n has pointer (base_of words.words)
        (S.object x.tables w words pointer d n later (small_is n d.lengths has) held)) x agrees count

  -- ---- a declaration of some objects

  next_object : (words : Specifiers) (pointer : Bool) (d : GlobalDeclarator) (w : Where) (n : ℕ) (later : Names) (x : File) →
      S.Held x.tables w (p.object_names words pointer d ++ later) → S.Agrees x.scope w → length x.tables.functions ≡ n →
      Filed L S.Agrees x (g.next_object (spelled_by words) pointer d x) (p.object_parts_by w words pointer d) (behind (p.object_names words pointer d) w) n
      × (given (g.next_object (spelled_by words) pointer d x) ≡ false)
  next_object words pointer d w n later x held agrees count =
      let v = behind (p.object_names words pointer d) w in
      let ps = p.object_parts_by w words pointer d in
      subst (λ qs. Filed L S.Agrees x (g.next_object (spelled_by words) pointer d x) qs v n × (given (g.next_object (spelled_by words) pointer d x) ≡ false)) (append-nil ps)
      (file_then_at (g.global (spelled_by words) pointer d) (λ _. pure false) (λ _. Unit {0}) (λ b. b ≡ false) ps [] v v n n x (global words pointer d w n later x held agrees
      count)
      (λ _ _ y agrees count. (record { writes = nothing_new L y.found; agrees = agrees; counts = count }, refl)))

  abbrev objects_behind : Specifiers → Bool → List GlobalDeclarator → Where → Where
  objects_behind words pointer [] w = w
  objects_behind words pointer (d ∷ list) w = objects_behind words false list (behind (p.object_names words pointer d) w)

  all_objects : (words : Specifiers) (list : List GlobalDeclarator) (pointer : Bool) (w : Where) (n : ℕ) (later : Names) (x : File) →
      S.Held x.tables w (p.objects_names words pointer list ++ later) → S.Agrees x.scope w → length x.tables.functions ≡ n →
      Filed L S.Agrees x (through (g.next_object (spelled_by words)) pointer list x) (p.objects_parts w words pointer list) (objects_behind words pointer list w) n
      × S.Held (left (through (g.next_object (spelled_by words)) pointer list x)).tables (objects_behind words pointer list w) later
  all_objects words [] pointer w n later x held agrees count = (record { writes = nothing_new L x.found; agrees = agrees; counts = count }, held)
  all_objects words (d ∷ list) pointer w n later x held agrees count =
      let step = g.next_object (spelled_by words) in
      let o = step pointer d x in
      let rest = p.objects_names words false list ++ later in
      let here = subst (λ names. S.Held x.tables w names) (append_assoc (p.object_names words pointer d) (p.objects_names words false list) later) held in
      let first = next_object words pointer d w n rest x here agrees count in
      let ps = p.object_parts_by w words pointer d in
      let v = behind (p.object_names words pointer d) w in
      let qs = p.objects_parts v words false list in
      let u = objects_behind words false list v in
      let more = S.held_object x.tables (left o).tables w words pointer d rest (next_threads words pointer d x) here in
      let second = all_objects words list false v n later (left o) more first.0.agrees first.0.counts in
      subst (λ (z : Outcome File Bool). Filed L S.Agrees x z (ps ++ qs) u n × S.Held (left z).tables u later) (sym (after_one step pointer d list x))
      (subst (λ b. Filed L S.Agrees x (through step b list (left o)) (ps ++ qs) u n × S.Held (left (through step b list (left o))).tables u later) (sym first.1) (
        record { writes = writes_both L ps qs first.0.writes second.0.writes; agrees = second.0.agrees; counts = second.0.counts },
        second.1,
      ))

  to_names : (words : Specifiers) (pointer : Bool) (list : List GlobalDeclarator) (s : Scope) (w : Where) → S.Agrees s (objects_behind words pointer list w) →
      S.Agrees s (behind (p.objects_names words pointer list) w)
  to_names words pointer [] s w h = S.no_names s w h
  to_names words pointer (d ∷ list) s w h =
      subst (λ v. S.Agrees s v) (behind_both (p.object_names words pointer d) (p.objects_names words false list) w)
      (to_names words false list s (behind (p.object_names words pointer d) w) h)

  held_names : (words : Specifiers) (pointer : Bool) (list : List GlobalDeclarator) (t : Tables) (w : Where) (later : Names) → S.Held t (objects_behind words pointer list w) later →
      S.Held t (behind (p.objects_names words pointer list) w) later
  held_names words pointer [] t w later h = S.held_none t w later h
  held_names words pointer (d ∷ list) t w later h =
      subst (λ v. S.Held t v later) (behind_both (p.object_names words pointer d) (p.objects_names words false list) w)
      (held_names words false list t (behind (p.object_names words pointer d) w) later h)

  pub objects : (d : GlobalDeclaration) (w : Where) (n : ℕ) (later : Names) (x : File) → S.Held x.tables w (p.objects_names d.specifiers d.is_pointer d.declarators ++ later) →
      S.Agrees x.scope w → length x.tables.functions ≡ n →
      Filed L S.Agrees x (g.objects d x) (p.objects_parts w d.specifiers d.is_pointer d.declarators) (behind (p.objects_names d.specifiers d.is_pointer d.declarators) w) n
      × S.Held (left (g.objects d x)).tables (behind (p.objects_names d.specifiers d.is_pointer d.declarators) w) later
  unfolding g.objects
  objects d w n later x held agrees count =
      let walk = through (g.next_object (spelled_by d.specifiers)) d.is_pointer d.declarators in
      let v = behind (p.objects_names d.specifiers d.is_pointer d.declarators) w in
      let h = all_objects d.specifiers d.declarators d.is_pointer w n later x held agrees count in
      subst (λ (z : Outcome File (Unit {0})). Filed L S.Agrees x z (p.objects_parts w d.specifiers d.is_pointer d.declarators) v n × S.Held (left z).tables v later)
      (sym (turn (walk x) (λ _. pure tt))) (
        record {
          writes = h.0.writes;
          agrees = to_names d.specifiers d.is_pointer d.declarators (left (walk x)).scope w h.0.agrees;
          counts = h.0.counts;
        },
        held_names d.specifiers d.is_pointer d.declarators (left (walk x)).tables w later h.1,
      )
