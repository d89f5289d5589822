-- A number option as the command line reads it.
use Rattle.std.proofs.Common.{◌≡◌, ℕ, List, refl, sym, ap, ◌∙◌}
use Rattle.std.specs.Prelude.{Option, Some, None, is_some, option_map, option_and_then, slice_get}
use Rattle.std.proofs.lemmas.Bool.{cond-true}
use Rattle.std.specs.Str.Parse.{ParsesUnsigned, ExplainsUnsignedError, HasUnsignedDigitsIfOk, without_leading_plus}
use Rattle.clap.specs.Words.{first_value, matched_of, one_text, read_as}
use Rattle.clap.specs.Matches.{ReadsOne}
use Rattle.clap.specs.declared.parser.matches.Found.{Found}
use Rattle.clap.specs.declared.parser.matches.MatchedArg.{MatchedArg}
use Rattle.std.specs.declared.num.ParseIntError.{ParseIntError}
use Rattle.hls_words.specs.Line.{number_of}
use Rattle.turns.proofs.Numbers.{passes, passed, dropped}

pub is_some-map : {X Y : Type 0} (f : X → Y) (o : Option X) → is_some (option_map f o) ≡ is_some o
is_some-map f None = refl
is_some-map f (Some x) = refl

same : {A X Y Z : Type 0} (g : A → Option X) (h : A → X → Y) (k : A → X → Z) (o : Option A)
    → is_some (option_and_then (λ a. option_map (h a) (g a)) o) ≡ is_some (option_and_then (λ a. option_map (k a) (g a)) o)
same g h k None = refl
same g h k (Some a) = is_some-map (h a) (g a) ∙ sym (is_some-map (k a) (g a))

-- a value that `get_str` gives is one that `get_one` reads
pub same_presence : (f : Found) (id : List ℕ) → is_some (first_value f id) ≡ is_some (one_text f id)
same_presence f id =
    same (λ (a : MatchedArg). slice_get a.vals.items 0) (λ a s. s.now) (λ a s. read_as a.reading s.now) (matched_of f id)

abbrev Gives : List ℕ → Option ℕ → Type 0
Gives t r = ReadsOne {T = ℕ} {E = ParseIntError} (λ bs x. ParsesUnsigned 32 10 bs x × ExplainsUnsignedError 10 bs x × HasUnsignedDigitsIfOk bs x) t r

pub reads_number : (t : List ℕ) (r : Option ℕ) → Gives t r → r ≡ number_of t
reads_number t None (e, gives) = dropped _ _ (λ e. gives.0 (passed (without_leading_plus t) e))
reads_number t (Some v) gives =
    ap (λ (n : ℕ). Some n) gives.0.1 ∙ sym (cond-true _ (Some _) None (passes (without_leading_plus t) gives.0.0.0 gives.0.0.1))

pub reads_option : (o : Option (List ℕ)) (r : Option ℕ) → (o ≡ None → r ≡ None) → ((t : List ℕ) → o ≡ Some t → Gives t r)
    → r ≡ option_and_then number_of o
reads_option None r none value = none refl
reads_option (Some t) r none value = reads_number t r (value t refl)
