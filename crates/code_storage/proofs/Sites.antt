-- The numbers of the printf calls of a statement.
use Rattle.std.proofs.Common.{◌≡◌, ℕ, suc, ◌+◌, List, [], ◌∷◌, ◌++◌, length, Some, refl, sym, ap, ◌∙◌, arith, append_assoc, length-append, cond, sum_by}
use Rattle.std.specs.Prelude.{count_by, slice_get}
use Rattle.c_program.specs.Tree.{Expression, Piece, Statement, Program, Function}
use Rattle.c_program.specs.Limits.{print_count}
use Rattle.c_program.specs.Resolved.{is_conversion}
use Rattle.code_following.specs.Following.{conversions_of, formats_of, print_formats}
use Rattle.code_storage.specs.Formats.{HasSites}
use Rattle.std.specs.List.{flat_map}
use Rattle.std.proofs.lemmas.List.Sums.{sum_by-append, sum_by-cons}
use Rattle.lists.proofs.Places.{get_last, get_left}

pub formats_length : (s : Statement) → length (formats_of s) ≡ print_count s
formats_length Statement.Done = refl
formats_length (Statement.Sequence first rest) = length-append (formats_of first) (formats_of rest) ∙ (let a = formats_length first in let b = formats_length rest in omega arith)
formats_length Statement.Empty = refl
formats_length (Statement.Block body) = formats_length body
formats_length (Statement.Declare offset local operators) = refl
formats_length (Statement.Assign offset place right) = refl
formats_length (Statement.Update offset place operator ty right) = refl
formats_length (Statement.If condition consequent alternative) =
    length-append (formats_of consequent) (formats_of alternative) ∙ (let a = formats_length consequent in let b = formats_length alternative in omega arith)
formats_length (Statement.While condition body) = formats_length body
formats_length (Statement.DoWhile body condition) = formats_length body
formats_length (Statement.For first condition last body) =
    length-append (formats_of first) (formats_of last ++ formats_of body)
    ∙ (let l = length-append (formats_of last) (formats_of body) in let a = formats_length first in let b = formats_length last in let c = formats_length body in omega arith)
formats_length Statement.Break = refl
formats_length Statement.Continue = refl
formats_length (Statement.Return offset right) = refl
formats_length (Statement.Call offset into function arguments) = refl
formats_length (Statement.Keep offset slot ty operand) = refl
formats_length (Statement.Truth slot condition) = refl
formats_length (Statement.Test offset operand) = refl
formats_length (Statement.Both first second) = refl
formats_length (Statement.Either first second) = refl
formats_length (Statement.Opposite inner) = refl
formats_length (Statement.Switch offset ty operand body) = formats_length body
formats_length (Statement.Label value operators) = refl
formats_length (Statement.Print offset format arguments) = refl
formats_length (Statement.Thread offset call) = refl

-- a part of a statement, whose printf calls come after these
pub part_sites : (P : Program) (s t : Statement) (xs ys : List (List Piece)) (site next : ℕ) → HasSites P s site → formats_of s ≡ xs ++ (formats_of t ++ ys) →
    next ≡ site + length xs → HasSites P t next
part_sites P s t xs ys site next sites is number = record {
  before = sites.before ++ xs;
  after = ys ++ sites.after;
  all =
      sites.all ∙ ap (λ z. sites.before ++ (z ++ sites.after)) is
      ∙ ap (λ z. sites.before ++ z) (append_assoc xs (formats_of t ++ ys) sites.after ∙ ap (λ z. xs ++ z) (append_assoc (formats_of t) ys sites.after))
      ∙ sym (append_assoc sites.before xs (formats_of t ++ (ys ++ sites.after)));
  number = (let l = length-append sites.before xs in let n = sites.number in omega arith);
}

pub site_at : (P : Program) (format : List Piece) (arguments : List Expression) (offset site : ℕ) → HasSites P (Statement.Print offset format arguments) site →
    slice_get (print_formats P) site ≡ Some format
site_at P format arguments offset site sites =
    ap (λ i. slice_get (print_formats P) i) sites.number
    ∙ ap (λ l. slice_get l (length sites.before)) (sites.all ∙ sym (append_assoc sites.before (format ∷ []) sites.after))
    ∙ get_left (sites.before ++ format ∷ []) sites.after (length sites.before) (let long = length-append sites.before (format ∷ []) in omega (arith, long))
    ∙ get_last sites.before format

pub conversions_length : (format : List Piece) → length (conversions_of format) ≡ count_by is_conversion format
conversions_length [] = refl
conversions_length (Piece.Text bytes ∷ pieces) =
    conversions_length pieces ∙ sym (sum_by-cons (λ (p : Piece). cond (is_conversion p) 1 0) (Piece.Text bytes) pieces ∙ (omega arith))
conversions_length (Piece.Conversion ty ∷ pieces) =
    ap suc (conversions_length pieces) ∙ sym (sum_by-cons (λ (p : Piece). cond (is_conversion p) 1 0) (Piece.Conversion ty) pieces ∙ (omega arith))

pub formats_count : (fs : List Function) → length (flat_map (λ (f : Function). formats_of f.body) fs) ≡ sum_by (λ (f : Function). print_count f.body) fs
formats_count [] = refl
formats_count (f ∷ fs) =
    let both = length-append (formats_of f.body) (flat_map (λ (g : Function). formats_of g.body) fs) in
    let own = formats_length f.body in
    let rest = formats_count fs in
    let sum : sum_by (λ (g : Function). print_count g.body) (f ∷ fs) ≡ (0 + print_count f.body) + sum_by (λ (g : Function). print_count g.body) fs = sum_by-append
    (λ (g : Function). print_count g.body) (f ∷ []) fs in
    omega (arith, both, own, rest, sum)
