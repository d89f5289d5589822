-- What a parse of the command line says of its words.
use Rattle.std.proofs.Common.{◌≡◌, ◌≢◌, inl, inr, List, [], ◌∷◌, true, refl, sym, subst, ap, ◌∙◌}
use Rattle.std.specs.Prelude.{Result, Ok, IfOk, Option, Some, None, option_and_then, option_map}
use Rattle.std.proofs.lemmas.Option.{same_Some}
use Rattle.std.proofs.lemmas.Result.{IfOk-weaker}
use Rattle.clap.specs.Words.{App, HasKind, HasMatchesOf, IsAmong, Kinds, Text, app_of, fault_of, is_simple, is_simple_and_free, kind_of, subcommand_rows_of, with_subcommand}
use Rattle.clap.specs.Walk.{Row}
use Rattle.clap.specs.declared.builder.command.Command.{Command}
use Rattle.clap.specs.declared.error.Error.{Error}
use Rattle.clap.specs.declared.error.kind.ErrorKind.{ErrorKind}
use Rattle.clap.specs.declared.error.kind.ErrorKind.TheVariants.{OutOfMemory}
use Rattle.clap.specs.declared.parser.matches.ArgMatches.{ArgMatches}
use Rattle.clap.proofs.OnLiterals.{clap_on_literals}
use Rattle.hls_words.specs.declared.task.Task.{Task}
use Rattle.hls_words.specs.Line.{command_line, task_in, task_of, unless_fails}

pub line_is_free : is_simple_and_free command_line ≡ true
unfolding clap_on_literals command_line
line_is_free = refl

pub line_is_simple : is_simple command_line ≡ true
unfolding clap_on_literals command_line
line_is_simple = refl

none_fails : (kinds : Kinds) (x : Option Task) → kinds ≡ [] → unless_fails kinds x ≡ x
none_fails kinds x e = rw e refl

some_fails : (kinds : Kinds) (k : ErrorKind) (x : Option Task) → IsAmong k kinds → unless_fails kinds x ≡ None
some_fails [] k x among = absurd among
some_fails (y ∷ ys) k x among = refl

pub task_of-parsed : (a : App) (words : List Text) (m : ArgMatches) → a ≡ command_line → (is_simple_and_free a ≡ true → fault_of a words ≡ []) → HasMatchesOf a words m
    → task_of words ≡ option_and_then (λ p. task_in p.0 p.1) (subcommand_rows_of m)
task_of-parsed a words m e free matches =
    none_fails (fault_of command_line words) _ (subst (λ (x : App). fault_of x words ≡ []) e (free (subst (λ (x : App). is_simple_and_free x ≡ true) (sym e) line_is_free)))
    ∙ ap (option_and_then (λ p. task_in p.0 p.1)) (sym ((subst (λ (x : App). HasMatchesOf x words m) e matches line_is_simple).1))

pub task_of-refused : (a : App) (words : List Text) (error : Error) → a ≡ command_line → (is_simple_and_free a ≡ true → HasKind (fault_of a words) error) → kind_of error ≢ OutOfMemory
    → task_of words ≡ None
task_of-refused a words error e free other =
    let kind : HasKind (fault_of command_line words) error = subst (λ (x : App). HasKind (fault_of x words) error) e (free (subst (λ (x : App). is_simple_and_free x ≡ true) (sym e) line_is_free)) in
    elim kind [ inl memory ↦ absurd (other memory) | inr among ↦ some_fails (fault_of command_line words) _ _ among ]

-- what follows from a subcommand of this name and these rows
pub by_name : {B : Type 0} (f : Text → List Row → Option Task) (name_of : B → Text) (rows_of : B → List Row) (found : Option B) (name : Text) (rows : List Row) →
    Some name ≡ option_map name_of found → Some rows ≡ option_map (λ (p : Text × List Row). p.1) (option_map (λ b. (name_of b, rows_of b)) found) →
    option_and_then (λ (p : Text × List Row). f p.0 p.1) (option_map (λ b. (name_of b, rows_of b)) found) ≡ f name rows
by_name f name_of rows_of None name rows named with_rows = absurd (let e : None ≡ Some name = sym named in cc)
by_name f name_of rows_of (Some b) name rows named with_rows =
    ap (λ (x : Text). f x (rows_of b)) (sym (same_Some name (name_of b) named)) ∙ ap (f name) (sym (same_Some rows (rows_of b) with_rows))

-- a program of a line to which a command of another was added is that of both
pub adds : {E : Type 0} (result program command : Result Command E) (line last : App) → IfOk program (λ p. app_of p ≡ line) → IfOk command (λ c. app_of c ≡ last)
    → IfOk result (λ c. (before : Command) × (added : Command) × (program ≡ Ok before) × (command ≡ Ok added) × (app_of c ≡ with_subcommand (app_of before) (app_of added).top))
    → IfOk result (λ c. app_of c ≡ with_subcommand line last.top)
adds result program command line last first second both =
    IfOk-weaker result _ _
    (λ c h.
    let at : app_of h.0 ≡ line = subst (λ (y : Result Command _). IfOk y (λ p. app_of p ≡ line)) h.2 first in
    let to : app_of h.1 ≡ last = subst (λ (y : Result Command _). IfOk y (λ a. app_of a ≡ last)) h.3 second in
    h.4 ∙ ap (λ (p : App). with_subcommand p (app_of h.1).top) at ∙ ap (λ (a : App). with_subcommand line a.top) to)
    both
