-- What words ask for is within its range.
use Rattle.std.proofs.Common.{◌≡◌, ℕ, ◌≤◌, Bool, true, false, List, [], ◌∷◌, refl, subst}
use Rattle.std.specs.Prelude.{Option, Some, None, IfSome, if◌then◌else◌, is_some, nat_le, option_and_then, option_map, codes, ◌&&◌}
use Rattle.std.specs.Str.{bytes_eq}
use Rattle.std.proofs.lemmas.Bool.{and_parts, leb-true}
use Rattle.clap.specs.Kinds.{Kinds}
use Rattle.clap.specs.Faults.{fault_of}
use Rattle.clap.specs.Simple.{subcommand_of}
use Rattle.clap.specs.Walk.{Row, Text, first_of, one_of}
use Rattle.turns.specs.declared.Turn.{Turn}
use Rattle.hls_words.specs.declared.task.Task.{Task}
use Rattle.hls_words.specs.declared.task.Task.TheVariants as task
use Rattle.hls_words.specs.Line.{IsInRange, build_in, check_in, check_of, command_line, gen_in, in_range, is_set, number_in, number_of, run_in, sim_in, step_in, step_of, task_in, task_of, turns_in}
use Rattle.hls_words.specs.Line.{unless_fails, walk_in}

-- what holds of all that may come holds of what comes
if_holds : {A : Type 0} (P : A → Type 0) (b : Bool) (x y : Option A) → IfSome x P → IfSome y P → IfSome (if b then x else y) P
if_holds P true x y first second = first
if_holds P false x y first second = second

map_holds : {A B : Type 0} (P : B → Type 0) (f : A → B) (o : Option A) → ((a : A) → P (f a)) → IfSome (option_map f o) P
map_holds P f None each = tt
map_holds P f (Some a) each = each a

then_holds : {A B : Type 0} (Q : A → Type 0) (P : B → Type 0) (f : A → Option B) (o : Option A) → IfSome o Q → ((a : A) → Q a → IfSome (f a) P) → IfSome (option_and_then f o) P
then_holds Q P f None is each = tt
then_holds Q P f (Some a) is each = each a is

any_holds : {A B : Type 0} (P : B → Type 0) (f : A → Option B) (o : Option A) → ((a : A) → IfSome (f a) P) → IfSome (option_and_then f o) P
any_holds P f None each = tt
any_holds P f (Some a) each = each a

-- ---- a number

abbrev IsBetween : ℕ → ℕ → ℕ → Type 0
IsBetween low high n = (low ≤ n) × (n ≤ high)

tested : (P : ℕ → Type 0) (b : Bool) (n : ℕ) → (b ≡ true → P n) → IfSome (if b then Some n else None) P
tested P true n holds = holds refl
tested P false n holds = tt

ranged : (low high n : ℕ) → IfSome (in_range low high n) (IsBetween low high)
ranged low high n =
    tested (IsBetween low high) (nat_le low n && nat_le n high) n
    (λ e. let parts = and_parts (nat_le low n) (nat_le n high) e in (leb-true low n parts.0, leb-true n high parts.1))

given : (low high : ℕ) (text : Option Text) → IfSome (number_in low high None text) (IsBetween low high)
given low high text =
    if_holds (IsBetween low high) (is_some text) (option_and_then (in_range low high) (option_and_then number_of text)) None
    (any_holds (IsBetween low high) (in_range low high) (option_and_then number_of text) (ranged low high)) tt

-- ---- a command

abbrev AreInRange : Option Task → Type 0
AreInRange o = IfSome o IsInRange

step_holds : (vcd : Bool) (n : ℕ) → AreInRange (step_of vcd n)
step_holds vcd n = if_holds IsInRange _ None (Some (task.Step n vcd)) tt tt

check_holds : (run : Bool) (steps : Option ℕ) → AreInRange (check_of run steps)
check_holds true steps = map_holds IsInRange (λ (n : ℕ). task.CheckRun n) steps (λ n. tt)
check_holds false steps = tt

gen_holds : (rows : List Row) → AreInRange (gen_in rows)
gen_holds rows =
    any_holds IsInRange _ (number_in 0 4294967295 None (one_of (codes "seed") rows))
    (λ seed. then_holds (IsBetween 1 63) IsInRange _ (number_in 1 63 None (one_of (codes "threads") rows)) (given 1 63 (one_of (codes "threads") rows))
    (λ threads few. then_holds (IsBetween 1 1000) IsInRange _ (number_in 1 1000 None (one_of (codes "size") rows)) (given 1 1000 (one_of (codes "size") rows))
    (λ size short. map_holds IsInRange _ (number_in 0 4294967295 (Some 1000000) (one_of (codes "steps") rows)) (λ cycles. (few.0, few.1, short.1)))))

-- a command that may be asked for, in range
abbrev Held : Type 0
Held = (o : Option Task) × AreInRange o

abbrev chosen : Bool → Held → Held → Held
chosen b x y = (if b then x.0 else y.0, if_holds IsInRange b x.0 y.0 x.1 y.1)

abbrev held : Text → List Row → Held
held name rows =
    chosen (bytes_eq name (codes "build")) (build_in rows, map_holds IsInRange (λ (n : ℕ). task.Build n) (number_in 1 16 (Some 1) (one_of (codes "jobs") rows)) (λ n. tt))
    (chosen (bytes_eq name (codes "step")) (
      step_in rows,
      any_holds IsInRange (step_of (is_set (first_of (codes "vcd") rows))) (number_in 0 4294967295 None (one_of (codes "cycles") rows))
          (step_holds (is_set (first_of (codes "vcd") rows))),
    )
    (chosen (bytes_eq name (codes "run"))
    (run_in rows, map_holds IsInRange (λ (n : ℕ). task.Run n (is_set (first_of (codes "journal") rows))) (number_in 1 1000000 (Some 100000) (one_of (codes "entries") rows)) (λ n. tt))
    (chosen (bytes_eq name (codes "replay")) (Some task.Replay, tt)
    (chosen (bytes_eq name (codes "walk")) (walk_in rows, map_holds IsInRange (λ (turns : List Turn). task.Walk turns) (turns_in (first_of (codes "threads") rows)) (λ turns. tt))
    (chosen (bytes_eq name (codes "check"))
    (check_in rows, check_holds (is_some (one_of (codes "run") rows)) (number_in 1 10000000 None (one_of (codes "run") rows)))
    (chosen (bytes_eq name (codes "sim")) (sim_in rows, map_holds IsInRange (λ (n : ℕ). task.Sim n) (number_in 0 4294967295 None (one_of (codes "cycles") rows)) (λ n. tt))
    (chosen (bytes_eq name (codes "gen")) (gen_in rows, gen_holds rows)
    (chosen (bytes_eq name (codes "report")) (Some task.Report, tt) (None, tt)))))))))

pub task_holds : (name : Text) (rows : List Row) → IfSome (task_in name rows) IsInRange
task_holds name rows = (held name rows).1

unless_holds : (kinds : Kinds) (o : Option Task) → AreInRange o → AreInRange (unless_fails kinds o)
unless_holds [] o holds = holds
unless_holds (kind ∷ kinds) o holds = tt

-- what the words ask for
pub asked_in_range : (words : List Text) (t : Task) → task_of words ≡ Some t → IsInRange t
asked_in_range words t e =
    subst AreInRange e (unless_holds (fault_of command_line words) _ (any_holds IsInRange _ (subcommand_of command_line words) (λ p. task_holds p.0 p.1)))
