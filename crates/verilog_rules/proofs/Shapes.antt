-- Lists with commas, ranges and constants.
use Rattle.std.proofs.Common.{◌≡◌, ℕ, [], ◌∷◌, Bool, true, false, refl, arith}
use Rattle.std.specs.Prelude.{◌||◌}
use Rattle.std.proofs.lemmas.Bool.{or_left, or_right}
use Rattle.verilog_tree.specs.declared.token.Mark.TheVariants as m
use Rattle.verilog_tree.specs.declared.token.Token.{Token}
use Rattle.verilog_tree.specs.declared.token.Token.TheVariants as t
use Rattle.grammar.specs.Rules.{Family, pure, optional, ◌>>◌}
use Rattle.grammar.specs.Readers as d
use Rattle.grammar.proofs.Good.{Reads}
use Rattle.grammar.proofs.Parts.{nowhere, some_then, reads_by, resize}
use Rattle.grammar.proofs.Choice.{may}
use Rattle.grammar.proofs.Loops.{folded, as_list}
use Rattle.verilog_rules.specs.declared.sign.Sign.{Sign}
use Rattle.verilog_rules.specs.declared.sign.Sign.TheVariants.{Mark, Zero}
use Rattle.verilog_rules.specs.Signs.{is, name_at, is_name, is_number}
use Rattle.verilog_rules.specs.Phrases as g
use Rattle.verilog_rules.specs.Reading as r
use Rattle.verilog_rules.proofs.Singles.{All, all_depths, gives_value, on, on_name, on_number, some_exactly}

abbrev pub comma : Sign
comma = Mark m.Comma

abbrev pub semicolon : Sign
semicolon = Mark m.Semicolon

abbrev pub open_square : Sign
open_square = Mark m.OpenSquare

-- ---- lists with commas

module _ {A : Type 0} {n : ℕ} {P : Family Token A} {q : ℕ → r.Reads A} {first last : Token → Bool} (item : Reads All n P q first (λ v. last) false)
    (apart : (x : Token) → last x ≡ true → is comma x ≡ true → ⊥) where
  pub next : Reads All n (λ depth. g.sign comma >> P depth) (λ room. r.read_next (q room)) (is comma) (λ v. last) false
  unfolding r.read_next
  next = on n comma (λ u. item)

  pub listed : Reads All n (λ depth. g.listed (P depth)) (λ room. r.read_listed (q room)) first (λ vs x. last x || is comma x) false
  unfolding r.read_listed r.read_more
  listed =
      let rest = λ (a : A). as_list (λ vs depth. pure vs) (a ∷ [])
      (folded d.appended next (λ v x l f. apart x l f) (λ vs x. last x || is comma x) (λ v b x h. or_left (last x) (is comma x) h) (λ b x h. or_right (last x)
      (is comma x) h) (a ∷ [])) in
      some_then {n = n} {m = n} (omega arith) item rest (λ v x l h. apart x l h) (λ vs x. last x || is comma x) (λ b x h. h) (λ a depth at b x z h l. or_left (last x)
      (is comma x) l)

module _ (n : ℕ) where
  pub any_name : Reads All n (λ depth. g.name) (λ room. r.read_name) is_name (λ v. nowhere) false
  unfolding r.read_name
  any_name = resize (reads_by name_at (all_depths n) (t.Name []) [] refl) is_name (λ v. nowhere) false (λ x. some_exactly (name_at x)) (λ v x h. h) refl

  -- ---- ranges and constants

  range : Reads All n (λ depth. g.range) (λ room. r.read_range) (is open_square) (λ v. nowhere) false
  unfolding r.read_range
  range = on n open_square (λ u. on_number n (λ high. on n (Mark m.Colon) (λ u. on n Zero (λ u. on n (Mark m.CloseSquare) (λ u. gives_value n high)))))

  pub optional_range : Reads All n (λ depth. optional g.range) (λ room. r.read_optional_range) (is open_square) (λ v. is open_square) true
  unfolding r.read_optional_range
  optional_range = may range (λ o. is open_square) (λ v x h. cc) (λ x h. h)

  pub constant : Reads All n (λ depth. g.constant) (λ room. r.read_constant) is_number (λ v. nowhere) false
  unfolding r.read_constant
  constant = on_number n (λ width. on n (Mark m.Decimal) (λ u. on_number n (λ value. gives_value n (record { width = width; value = value }))))

  pub signed : Reads All n (λ depth. g.signed) (λ room. r.read_signed) (is (Mark m.Signed)) (λ v. nowhere) false
  unfolding r.read_signed
  signed = on n (Mark m.Signed) (λ u. on n (Mark m.OpenRound) (λ u. on_name n (λ x. on n (Mark m.CloseRound) (λ u. gives_value n x))))
