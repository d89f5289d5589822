-- The function main: the header of this name, and what it returns.
use Rattle.std.proofs.Common.{◌≡◌, refl, ℕ, Bool, true, false, List, [], ◌∷◌, length, Option, Some, None}
use Rattle.std.specs.Prelude.{not, codes, if◌then◌else◌, slice_get}
use Rattle.std.proofs.lemmas.Bool.{and_parts, not-true}
use Rattle.std.proofs.lemmas.Option.{none-some}
use Rattle.hls_ints.specs.Types.{int_type}
use Rattle.c_program.specs.declared.tree.ReturnType.TheVariants as returns_as
use Rattle.c_rules.specs.declared.specifiers.BasicType.TheVariants as basic
use Rattle.c_rules.specs.declared.specifiers.BaseType.{BaseType}
use Rattle.c_rules.specs.declared.specifiers.BaseType.TheVariants as base
use Rattle.c_rules.specs.declared.names.DeclaredType.{DeclaredType}
use Rattle.c_rules.specs.declared.names.Header.{Header}
use Rattle.c_rules.specs.declared.names.Meaning.{Meaning}
use Rattle.c_rules.specs.declared.names.Meaning.TheVariants as meaning
use Rattle.c_rules.specs.declared.names.Scope.{Scope}
use Rattle.c_rules.specs.Levels.{named_in}
use Rattle.c_rules.specs.Names.{is_int, is_int_base, is_start_routine}
use Rattle.c_resolution.specs.Functions as y
use Rattle.c_resolution.specs.Texts as t

-- a main that is defined has the name main and a header
pub record IsMainOf (s : Scope) (main : ℕ) : Type 0 where
  pub place : ℕ
  pub at : named_in s.inner (codes "main") ≡ Some (meaning.Function place)
  pub header : Header
  pub header_at : slice_get s.headers place ≡ Some header
  pub is_main : header.is_main ≡ true
  pub definition : header.definition ≡ Some main

main_if : (b : Bool) (o : Option ℕ) (main : ℕ) → (if b then o else None) ≡ Some main → (b ≡ true) × (o ≡ Some main)
main_if true o main h = (refl, h)
main_if false o main h = absurd (none-some main (h))

main_header : (o : Option Header) (main : ℕ) → t.main_of o ≡ Some main → (h : Header) × (o ≡ Some h) × (h.is_main ≡ true) × (h.definition ≡ Some main)
main_header None main is = absurd (none-some main (is))
main_header (Some h) main is =
    let parts = main_if h.is_main h.definition main is in
    (h, refl, parts.0, parts.1)

main_named : (s : Scope) (o : Option Meaning) (main : ℕ) → named_in s.inner (codes "main") ≡ o → t.main_by s o ≡ Some main → IsMainOf s main
main_named s (Some (meaning.Function n)) main at is =
    let h = main_header (slice_get s.headers n) main is in
    record { place = n; at = at; header = h.0; header_at = h.1; is_main = h.2; definition = h.3 }
main_named s None main at is = absurd (none-some main (is))
main_named s (Some (meaning.Variable v)) main at is = absurd (none-some main (is))
main_named s (Some meaning.Argument) main at is = absurd (none-some main (is))
main_named s (Some (meaning.Object o)) main at is = absurd (none-some main (is))
main_named s (Some meaning.Unusable) main at is = absurd (none-some main (is))

pub main_is : (s : Scope) (main : ℕ) → t.main_number s ≡ Some main → IsMainOf s main
main_is s main is = main_named s (named_in s.inner (codes "main")) main refl is

-- ---- a function that returns an int and takes nothing

int_is : (b : BaseType) → is_int_base b ≡ true → b ≡ base.Integer basic.Int
int_is (base.Integer basic.Int) h = refl
int_is (base.Integer basic.Char) h = cc
int_is (base.Integer basic.UnsignedChar) h = cc
int_is (base.Integer basic.Short) h = cc
int_is (base.Integer basic.UnsignedShort) h = cc
int_is (base.Integer basic.UnsignedInt) h = cc
int_is (base.Integer basic.Long) h = cc
int_is (base.Integer basic.UnsignedLong) h = cc
int_is base.Void h = cc
int_is base.Thread h = cc
int_is base.Mutex h = cc
int_is base.Barrier h = cc
int_is base.Unlisted h = cc

int_by : (routine : Bool) (b : BaseType) (pointer : Bool) → b ≡ base.Integer basic.Int → pointer ≡ false → y.return_by routine b pointer ≡ returns_as.Integer int_type
int_by true b pointer is plain = λ i. y.return_by true (is i) (plain i)
int_by false b pointer is plain = λ i. y.return_by false (is i) (plain i)

pub main_returns : (h : Header) → is_int h.returns ≡ true → y.return_type h ≡ returns_as.Integer int_type
main_returns h is =
    let parts = and_parts (is_int_base h.returns.base) (not h.returns.is_pointer) is in
    int_by (is_start_routine h) h.returns.base h.returns.is_pointer (int_is h.returns.base parts.0) (not-true h.returns.is_pointer parts.1)

pub no_parameters : (list : List DeclaredType) → y.is_empty list ≡ true → length list ≡ 0
no_parameters [] h = refl
no_parameters (p ∷ list) h = cc
