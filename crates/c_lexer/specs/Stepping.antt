-- One step of the lexer: the piece at the front of what is left of the text.
use Rattle.std.specs.Prelude.{◌≡◌, ℕ, List, [], ◌++◌, length, take, drop, Option, Some, None, option_map, false}
use Rattle.c_token.specs.declared.token.Token.{Token}
use Rattle.c_token.specs.Spelling.{Bytes}
use Rattle.c_lexer.specs.declared.lexeme.Class.{Class}
use Rattle.c_lexer.specs.declared.meaning.Action.TheVariants as action
use Rattle.c_lexer.specs.declared.meaning.Effect.{Effect}
use Rattle.c_lexer.specs.declared.fault.LexFault.{LexFault}
use Rattle.c_lexer.specs.declared.fault.LexFault.TheVariants.{Bad, Limit, Memory}
use Rattle.c_lexer.specs.Meaning.{State, awaits_header, effect_of, after, is_defined}
use Rattle.c_lexer.specs.Texts.{Piece, with_token, limit_of, token_limit, fault_place}
use Rattle.c_lexer.specs.Finding.{Found, lexeme_at}

abbrev pub piece_of : Class → Bytes → Effect → Piece
piece_of class word e = record { bytes = word; class = class; effect = e }

abbrev pub piece_by : ℕ → State → Bytes → Option Found → Option Piece
piece_by at s z None = None
piece_by at s z (Some (class, n)) = option_map (piece_of class (take n z)) (effect_of at s class (take n z))

-- the piece at the front
unfoldable pub next_piece : ℕ → State → Bytes → Option Piece
next_piece at s z = piece_by at s z (lexeme_at (awaits_header s) z)

-- what a piece leads to, where n tokens stand before it
pub record Takes (at : ℕ) (p : Piece) (s : State) (ts : List Token) (t : State) (us : List Token) : Type 0 where
  pub state : t ≡ after p.effect p.bytes s
  pub tokens : us ≡ ts ++ with_token at p.effect.action []
  pub within : limit_of (length ts) p ≡ None

abbrev pub TakeFails : ℕ → Piece → List Token → LexFault → Type 0
TakeFails at p ts (Bad k) = ⊥
TakeFails at p ts (Limit which count k) = (limit_of (length ts) p ≡ Some (which, count)) × (k ≡ at)
TakeFails at p ts Memory = Unit {0}

-- how a token fails to join n others
abbrev pub TokenFails : ℕ → Class → Bytes → ℕ → LexFault → Type 0
TokenFails at class word n (Bad k) = ⊥
TokenFails at class word n (Limit which count k) = (token_limit n class word ≡ Some (which, count)) × (k ≡ at)
TokenFails at class word n Memory = Unit {0}

-- the name that a directive defines is new
abbrev pub IsFresh : Effect → Bytes → State → Type 0
IsFresh e word s = e.action ≡ action.Name → is_defined s word ≡ false

-- the piece at the front is taken, and this is left
pub record Steps (at : ℕ) (z : Bytes) (s : State) (ts : List Token) (t : State) (us : List Token) (more : Bytes) : Type 0 where
  pub piece : Piece
  pub found : next_piece at s z ≡ Some piece
  pub takes : Takes at piece s ts t us
  pub rest : more ≡ drop (length piece.bytes) z

abbrev pub StepFails : ℕ → Bytes → State → List Token → LexFault → Type 0
StepFails at z s ts (Bad k) = (next_piece at s z ≡ None) × (k ≡ fault_place s.mode at z)
StepFails at z s ts (Limit which count k) = (p : Piece) × (next_piece at s z ≡ Some p) × (limit_of (length ts) p ≡ Some (which, count)) × (k ≡ at)
StepFails at z s ts Memory = Unit {0}
