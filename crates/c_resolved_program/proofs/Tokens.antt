-- Tokens as the lexer makes them.
use Rattle.std.proofs.Common.{◌≡◌, subst, ℕ, List, Some}
use Rattle.std.specs.Prelude.{⊤}
use Rattle.c_token.specs.declared.constant.Constant.{Constant}
use Rattle.c_token.specs.declared.token.Kind.{Kind}
use Rattle.c_token.specs.declared.token.Kind.TheVariants as kind
use Rattle.c_token.specs.declared.token.Token.{Token}
use Rattle.c_tree.specs.declared.expression.Name.{Name}
use Rattle.c_tree.specs.Tokens.{name_of, name_at, constant_of, constant_at, text_of, text_at, with_place}
use Rattle.c_program.specs.Resolved.{IsName}
use Rattle.c_resolved_program.specs.Leaves.{IsValidConstant}
use Rattle.c_resolved_program.proofs.Pieces.{AreText}

abbrev pub IsValidKind : Kind → Type 0
IsValidKind (kind.Constant c) = IsValidConstant c
IsValidKind (kind.StringLiteral bytes) = AreText bytes
IsValidKind (kind.Name bytes) = IsName bytes
IsValidKind (kind.Keyword k) = ⊤
IsValidKind (kind.Punctuator p) = ⊤
IsValidKind kind.End = ⊤

abbrev pub IsValidToken : Token → Type 0
IsValidToken t = IsValidKind t.kind

name_kind : (k : Kind) (at : ℕ) (x : Name) → IsValidKind k → name_of k at ≡ Some x → IsName x.bytes
name_kind (kind.Name bytes) at x valid e =
    let here : Name = record { bytes = bytes; offset = at } in
    let same : here ≡ x = cc (e) in
    subst (λ (n : Name). IsName n.bytes) same valid
name_kind (kind.Constant c) at x valid e = cc
name_kind (kind.StringLiteral bytes) at x valid e = cc
name_kind (kind.Keyword k) at x valid e = cc
name_kind (kind.Punctuator p) at x valid e = cc
name_kind kind.End at x valid e = cc

pub name_valid : (t : Token) (x : Name) → IsValidToken t → name_at t ≡ Some x → IsName x.bytes
name_valid t x valid e = name_kind t.kind t.offset x valid e

constant_kind : (k : Kind) (at : ℕ) (x : Constant × ℕ) → IsValidKind k → with_place at (constant_of k) ≡ Some x → IsValidConstant x.0
constant_kind (kind.Constant c) at x valid e =
    let here : Constant × ℕ = (c, at) in
    let same : here ≡ x = cc (e) in
    subst (λ (n : Constant × ℕ). IsValidConstant n.0) same valid
constant_kind (kind.Name bytes) at x valid e = cc
constant_kind (kind.StringLiteral bytes) at x valid e = cc
constant_kind (kind.Keyword k) at x valid e = cc
constant_kind (kind.Punctuator p) at x valid e = cc
constant_kind kind.End at x valid e = cc

pub constant_valid : (t : Token) (x : Constant × ℕ) → IsValidToken t → constant_at t ≡ Some x → IsValidConstant x.0
constant_valid t x valid e = constant_kind t.kind t.offset x valid e

text_kind : (k : Kind) (at : ℕ) (x : List ℕ × ℕ) → IsValidKind k → with_place at (text_of k) ≡ Some x → AreText x.0
text_kind (kind.StringLiteral bytes) at x valid e =
    let here : List ℕ × ℕ = (bytes, at) in
    let same : here ≡ x = cc (e) in
    subst (λ (n : List ℕ × ℕ). AreText n.0) same valid
text_kind (kind.Name bytes) at x valid e = cc
text_kind (kind.Constant c) at x valid e = cc
text_kind (kind.Keyword k) at x valid e = cc
text_kind (kind.Punctuator p) at x valid e = cc
text_kind kind.End at x valid e = cc

pub text_valid : (t : Token) (x : List ℕ × ℕ) → IsValidToken t → text_at t ≡ Some x → AreText x.0
text_valid t x valid e = text_kind t.kind t.offset x valid e
