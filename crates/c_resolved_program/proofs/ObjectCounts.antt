-- What objects at file scope add: one global or object of POSIX threads at most for each declarator.
use Rattle.std.proofs.Common.{ℕ, Bool, false, List, length, arith}
use Rattle.std.specs.Prelude.{ℤ, ◌+◌, unwrap_or}
use Rattle.c_tree.specs.declared.declaration.GlobalDeclaration.{GlobalDeclaration}
use Rattle.c_tree.specs.declared.declaration.GlobalDeclarator.{GlobalDeclarator}
use Rattle.c_rules.specs.declared.fault.Rule.TheVariants as rule
use Rattle.c_rules.specs.declared.dimensions.Dimensions.{Dimensions}
use Rattle.c_rules.specs.declared.names.ObjectKind.{ObjectKind}
use Rattle.c_rules.specs.declared.names.ObjectKind.TheVariants.{Thread, Mutex, Barrier}
use Rattle.c_rules.specs.declared.names.Meaning.{Meaning}
use Rattle.c_rules.specs.declared.names.Meaning.TheVariants as meaning
use Rattle.c_rules.specs.declared.names.Object.{Object}
use Rattle.c_rules.specs.declared.names.Variable.{Variable}
use Rattle.c_rules.specs.declared.specifiers.Spelled.{Spelled}
use Rattle.c_rules.specs.Specifiers.{spelled_by}
use Rattle.c_rules.specs.Walks.{Outcome, pure, through, finds, ◌>>=◌}
use Rattle.c_resolution.specs.States.{finding}
use Rattle.c_resolution.specs.Files.{Tables, Declares, going, tabling}
use Rattle.c_resolution.specs.Locals.{dimensions, declare}
use Rattle.c_resolution.specs.Globals as y
use Rattle.c_resolved_program.proofs.LocalCounts.{Grows, grows_finding, declare_grows}
use Rattle.c_resolved_program.proofs.StatementCounts.{in_turn}
use Rattle.c_resolved_program.proofs.FileCounts.{IsTabled, tabled_more, Does, small_more, does_then, does_pure, does_quiet, does_tabling, does_each, one_longer}

variable_tabled : (m : ℕ) (d : GlobalDeclarator) (v : Variable) (values : List ℤ) (t : Tables) → IsTabled m t → IsTabled (m + 1) (y.with_variable d.name v values t)
variable_tabled m d v values t h =
    let more = tabled_more m (m + 1) t (omega arith) h in
    record { functions = more.functions; locals = more.locals; globals = one_longer m t.globals _ h.globals; threads = more.threads; mutexes = more.mutexes; barriers = more.barriers }

object_tabled : (m : ℕ) (kind : ObjectKind) (size : ℕ) (initialised : Bool) (t : Tables) → IsTabled m t → IsTabled (m + 1) (y.with_object_of kind size initialised t)
object_tabled m Thread size initialised t h =
    let more = tabled_more m (m + 1) t (omega arith) h in
    record { functions = more.functions; locals = more.locals; globals = more.globals; threads = one_longer m t.threads _ h.threads; mutexes = more.mutexes; barriers = more.barriers }
object_tabled m Mutex size initialised t h =
    let more = tabled_more m (m + 1) t (omega arith) h in
    record { functions = more.functions; locals = more.locals; globals = more.globals; threads = more.threads; mutexes = one_longer m t.mutexes _ h.mutexes; barriers = more.barriers }
object_tabled m Barrier size initialised t h =
    let more = tabled_more m (m + 1) t (omega arith) h in
    record { functions = more.functions; locals = more.locals; globals = more.globals; threads = more.threads; mutexes = more.mutexes; barriers = one_longer m t.barriers _ h.barriers }

variable_does : (m k : ℕ) (d : GlobalDeclarator) (v : Variable) → Does m k (m + 1) k (y.global_variable d v)
unfolding y.global_variable
variable_does m k d v =
    let out = λ (values : List ℤ). tabling (y.with_variable d.name v values) in
    let next = λ (_ : Unit {0}). going (finding (y.initial d.name v d.initializer)) >>= out in
    does_then m k m k (m + 1) k (going (declare d.name (meaning.Variable v))) next (does_quiet m k (declare d.name (meaning.Variable v)) (declare_grows d.name (meaning.Variable v)))
    (λ _. does_then m k m k (m + 1) k (going (finding (y.initial d.name v d.initializer))) out
    (does_quiet m k (finding (y.initial d.name v d.initializer)) (grows_finding (y.initial d.name v d.initializer)))
    (λ values. does_tabling m k (m + 1) (y.with_variable d.name v values) (variable_tabled m d v values)))

object_does : (m k : ℕ) (d : GlobalDeclarator) (o : Object) → Does m k (m + 1) k (y.global_object d o)
unfolding y.global_object
object_does m k d o =
    let out = λ (initialised : Bool). tabling (y.with_object o initialised) in
    let next = λ (_ : Unit {0}). going (finding (y.is_initialised o d.name d.initializer)) >>= out in
    does_then m k m k (m + 1) k (going (declare d.name (meaning.Object o))) next (does_quiet m k (declare d.name (meaning.Object o)) (declare_grows d.name (meaning.Object o)))
    (λ _. does_then m k m k (m + 1) k (going (finding (y.is_initialised o d.name d.initializer))) out
    (does_quiet m k (finding (y.is_initialised o d.name d.initializer)) (grows_finding (y.is_initialised o d.name d.initializer)))
    (λ initialised. does_tabling m k (m + 1) (y.with_object o initialised) (object_tabled m o.kind (unwrap_or o.length 1) initialised)))

unusable_grows : (d : GlobalDeclarator) → Grows 0 (y.unusable d)
unfolding y.unusable
unusable_grows d =
    let out = λ (_ : Unit {0}). finding (y.refused_initial d.name d.initializer) in
    in_turn 0 0 0 (finding (λ s. finds rule.Kind d.name.offset)) (λ _. declare d.name meaning.Unusable >>= out) (omega arith) (grows_finding (λ s. finds rule.Kind d.name.offset))
    (λ _. in_turn 0 0 0 (declare d.name meaning.Unusable) out (omega arith) (declare_grows d.name meaning.Unusable) (λ _. grows_finding (y.refused_initial d.name d.initializer)))

unusable_does : (m k : ℕ) (d : GlobalDeclarator) → Does m k (m + 1) k (going (y.unusable d))
unusable_does m k d x h = small_more m k (m + 1) k _ (omega arith) (omega arith) (does_quiet m k (y.unusable d) (unusable_grows d) x h)

as_does : (m k : ℕ) (d : GlobalDeclarator) (x : Meaning) → Does m k (m + 1) k (y.global_as d x)
unfolding y.global_as
as_does m k d (meaning.Variable v) = variable_does m k d v
as_does m k d (meaning.Object o) = object_does m k d o
as_does m k d meaning.Argument = unusable_does m k d
as_does m k d (meaning.Function number) = unusable_does m k d
as_does m k d meaning.Unusable = unusable_does m k d

global_does : (m k : ℕ) (words : Spelled) (pointer : Bool) (d : GlobalDeclarator) → Does m k (m + 1) k (y.global words pointer d)
unfolding y.global
global_does m k words pointer d x h =
    let next = λ (size : Dimensions). y.global_as d (y.global_meaning x.tables words pointer size) in
    does_then m k m k (m + 1) k (going (finding (dimensions d.lengths))) next (does_quiet m k (finding (dimensions d.lengths)) (grows_finding (dimensions d.lengths)))
    (λ size. as_does m k d (y.global_meaning x.tables words pointer size)) x h

next_does : (m k : ℕ) (words : Spelled) (pointer : Bool) (d : GlobalDeclarator) → Does m k (m + 1) k (y.next_object words pointer d)
next_does m k words pointer d =
    does_then m k (m + 1) k (m + 1) k (y.global words pointer d) (λ _. pure false) (global_does m k words pointer d) (λ _. does_pure (m + 1) k false)

pub objects_does : (m k : ℕ) (d : GlobalDeclaration) → Does m k (m + length d.declarators) k (y.objects d)
unfolding y.objects
objects_does m k d =
    let n = m + length d.declarators in
    let all : Declares Bool = through (y.next_object (spelled_by d.specifiers)) d.is_pointer d.declarators in
    does_then m k n k n k all (λ _. pure {A = Unit {0}} tt)
    (λ x h. does_each (y.next_object (spelled_by d.specifiers)) d.declarators m k (Outcome.Gives d.is_pointer x) (λ m pointer b. next_does m k (spelled_by d.specifiers) pointer b) h)
    (λ _. does_pure {A = Unit {0}} n k tt)
