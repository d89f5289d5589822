-- Tokens by their kinds and places.
use Rattle.std.proofs.Common.{◌≡◌, ℕ, suc, List, [], ◌∷◌, ◌++◌, get_or, refl}
use Rattle.c_token.specs.declared.token.Kind.{Kind}
use Rattle.c_token.specs.declared.token.Kind.TheVariants.{End}
use Rattle.c_token.specs.declared.token.Token.{Token}
use Rattle.c_lexer.specs.declared.meaning.Action.{Action}
use Rattle.c_lexer.specs.declared.meaning.Action.TheVariants as action
use Rattle.c_lexer.specs.Texts.{Piece, tokens}
use Rattle.generated_text.specs.declared.draws.Letter.{Letter}
use Rattle.generated_text.specs.declared.draws.Kind.{Kind as LineKind}
use Rattle.generated_text.specs.declared.draws.Kind.TheVariants.{Sum, Difference, Product, ExclusiveOr, Quotient, Raise, Publish, Add}
use Rattle.generated_profile.proofs.Pieces as ps

abbrev with_kind : Action → List Kind → List Kind
with_kind (action.Token k) ks = k ∷ ks
with_kind a ks = ks

-- the kinds of the tokens among the pieces
abbrev pub kinds : List Piece → List Kind
kinds [] = []
kinds (p ∷ ps) = with_kind p.effect.action (kinds ps)

-- the tokens of these kinds from number n on, by the place of each
abbrev pub placed : ℕ → (ℕ → ℕ) → List Kind → List Token
placed n at [] = []
placed n at (k ∷ ks) = record { kind = k; offset = at n } ∷ placed (suc n) at ks

-- the place of each token
abbrev pub place_in : List Token → ℕ → ℕ
place_in list n = (get_or list n (record { kind = End; offset = 0 })).offset

abbrev pub statement_in_line : LineKind → Letter → Letter → Letter → List Piece
statement_in_line k x y z = (ps.indent ∷ ps.indent ∷ []) ++ ps.statement_pieces k x y z ++ (ps.line_feed ∷ [])

pub head_placed : (t : ℕ) → tokens 0 (ps.head_pieces t) ≡ placed 0 (place_in (tokens 0 (ps.head_pieces t))) (kinds (ps.head_pieces t))
head_placed t = refl

pub tail_placed : (o : ℕ) → tokens o ps.worker_tail_pieces ≡ placed 0 (place_in (tokens o ps.worker_tail_pieces)) (kinds ps.worker_tail_pieces)
tail_placed o = refl

pub main_placed : (o t : ℕ) → tokens o (ps.main_pieces t) ≡ placed 0 (place_in (tokens o (ps.main_pieces t))) (kinds (ps.main_pieces t))
main_placed o t = refl

pub statement_placed : (o : ℕ) (k : LineKind) (x y z : Letter) →
    tokens o (statement_in_line k x y z) ≡ placed 0 (place_in (tokens o (statement_in_line k x y z))) (kinds (statement_in_line k x y z))
statement_placed o Sum x y z = refl
statement_placed o Difference x y z = refl
statement_placed o Product x y z = refl
statement_placed o ExclusiveOr x y z = refl
statement_placed o Quotient x y z = refl
statement_placed o Raise x y z = refl
statement_placed o Publish x y z = refl
statement_placed o Add x y z = refl
